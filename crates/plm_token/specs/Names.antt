-- Names: their normal form, and the words that are reserved.
use Rattle.std.specs.Prelude.{ℕ, ◌-◌, List, [], ◌∷◌, map, filter, find, Bool, cond, not, bytes_eq, codes, Option}
use Rattle.plm_token.specs.declared.token.Keyword.{Keyword}
use Rattle.plm_token.specs.declared.token.Keyword.TheVariants.{Address, And, At, Based, By, Byte, Call, Case, Data, Declare, Disable, Do, Dword, Else, Enable, End, External, Go, Goto, Halt, If, Initial, Integer, Interrupt, Label, Literally, Minus, Mod, Not, Or, Plus, Pointer, Procedure, Public, Real, Reentrant, Return, Selector, Structure, Then, To, While, Word, Xor}
use Rattle.plm_token.specs.Characters.{within, is_dollar}

-- a character with its case dropped
abbrev pub capital : ℕ → ℕ
capital b = cond (within 97 122 b) (b - 32) b

-- a name or a number without its dollar signs, in capitals
unfoldable pub normal : List ℕ → List ℕ
normal text = map capital (filter (λ b. not (is_dollar b)) text)

-- whether two spellings are one name
unfoldable pub names_equal : List ℕ → List ℕ → Bool
names_equal a b = bytes_eq (normal a) (normal b)

abbrev pub spelling : Keyword → List ℕ
spelling Address = codes "ADDRESS"
spelling And = codes "AND"
spelling At = codes "AT"
spelling Based = codes "BASED"
spelling By = codes "BY"
spelling Byte = codes "BYTE"
spelling Call = codes "CALL"
spelling Case = codes "CASE"
spelling Data = codes "DATA"
spelling Declare = codes "DECLARE"
spelling Disable = codes "DISABLE"
spelling Do = codes "DO"
spelling Dword = codes "DWORD"
spelling Else = codes "ELSE"
spelling Enable = codes "ENABLE"
spelling End = codes "END"
spelling External = codes "EXTERNAL"
spelling Go = codes "GO"
spelling Goto = codes "GOTO"
spelling Halt = codes "HALT"
spelling If = codes "IF"
spelling Initial = codes "INITIAL"
spelling Integer = codes "INTEGER"
spelling Interrupt = codes "INTERRUPT"
spelling Label = codes "LABEL"
spelling Literally = codes "LITERALLY"
spelling Minus = codes "MINUS"
spelling Mod = codes "MOD"
spelling Not = codes "NOT"
spelling Or = codes "OR"
spelling Plus = codes "PLUS"
spelling Pointer = codes "POINTER"
spelling Procedure = codes "PROCEDURE"
spelling Public = codes "PUBLIC"
spelling Real = codes "REAL"
spelling Reentrant = codes "REENTRANT"
spelling Return = codes "RETURN"
spelling Selector = codes "SELECTOR"
spelling Structure = codes "STRUCTURE"
spelling Then = codes "THEN"
spelling To = codes "TO"
spelling While = codes "WHILE"
spelling Word = codes "WORD"
spelling Xor = codes "XOR"

abbrev pub keywords : List Keyword
keywords = Address ∷ And ∷ At ∷ Based ∷ By ∷ Byte ∷ Call ∷ Case ∷ Data ∷ Declare ∷ Disable ∷ Do ∷ Dword ∷ Else ∷ Enable ∷ End ∷ External ∷ Go ∷ Goto ∷ Halt ∷ If ∷ Initial ∷ Integer ∷ Interrupt ∷ Label ∷ Literally ∷ Minus ∷ Mod ∷ Not ∷ Or ∷ Plus ∷ Pointer ∷ Procedure ∷ Public ∷ Real ∷ Reentrant ∷ Return ∷ Selector ∷ Structure ∷ Then ∷ To ∷ While ∷ Word ∷ Xor ∷ []

-- the reserved word that a normal form is, if it is one
unfoldable pub keyword_of : List ℕ → Option Keyword
keyword_of name = find (λ k. bytes_eq name (spelling k)) keywords

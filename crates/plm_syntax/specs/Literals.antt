-- Names that LITERALLY declares are replaced by their texts' tokens, from left to right.
use Rattle.std.specs.Prelude.{ℕ, zero, suc, ◌+◌, ◌-◌, List, [], ◌∷◌, ◌++◌, length, take, drop, fold, find, Bool, true, false, cond, ◌&&◌, ◌||◌, nat_lt, Option, Some, None, Result, Ok, Err}
use Rattle.word86.specs.declared.number.Number.{Number}
use Rattle.word86.specs.declared.number.Number.TheVariants.{E202, E205}
use Rattle.plm_token.specs.declared.token.Keyword.{Keyword}
use Rattle.plm_token.specs.declared.token.Keyword.TheVariants as keywords
use Rattle.plm_token.specs.declared.token.Mark.{Mark}
use Rattle.plm_token.specs.declared.token.Mark.TheVariants as marks
use Rattle.plm_token.specs.declared.token.Kind.{Kind}
use Rattle.plm_token.specs.declared.token.Kind.TheVariants.{Reserved, Identifier, Numeral, String, Special}
use Rattle.plm_token.specs.Names.{names_equal}
use Rattle.plm_token.specs.Scanner.{Lexeme, lexemes}
use Rattle.plm_syntax.specs.declared.literals.Expansion.{Expansion}
use Rattle.plm_token.specs.Literals.{Symbol, on_line, literal_of}

abbrev pub opens : Keyword → Bool
opens keywords.Do = true
opens keywords.Procedure = true
opens k = false

abbrev pub ends : Keyword → Bool
ends keywords.End = true
ends k = false

abbrev pub declares : Keyword → Bool
declares keywords.Literally = true
declares k = false

abbrev pub finishes : Mark → Bool
finishes marks.Semicolon = true
finishes m = false

-- a reserved word of which the test holds
abbrev pub is_keyword : (Keyword → Bool) → Kind → Bool
is_keyword test (Reserved k) = test k
is_keyword test Identifier = false
is_keyword test (Numeral n) = false
is_keyword test String = false
is_keyword test (Special m) = false

abbrev pub is_semicolon : Kind → Bool
is_semicolon (Reserved k) = false
is_semicolon Identifier = false
is_semicolon (Numeral n) = false
is_semicolon String = false
is_semicolon (Special m) = finishes m

abbrev pub is_identifier : Kind → Bool
is_identifier (Reserved k) = false
is_identifier Identifier = true
is_identifier (Numeral n) = false
is_identifier String = false
is_identifier (Special m) = false

abbrev pub is_string : Kind → Bool
is_string (Reserved k) = false
is_string Identifier = false
is_string (Numeral n) = false
is_string String = true
is_string (Special m) = false

-- a literal: its name and its tokens
pub record LiteralText : Type 0 where
  pub name : List ℕ
  pub text : List Symbol

-- The literals of the open blocks, the oldest first; and for each open block, the innermost first, how many there were when it began.
pub record Blocks : Type 0 where
  pub literals : List LiteralText
  pub starts : List ℕ

-- What came out so far: the tokens, the open blocks, the last two tokens, and the fault and line at which it stopped.
pub record Out : Type 0 where
  pub tokens : List Lexeme
  pub blocks : Blocks
  pub last : Option Lexeme
  pub before : Option Lexeme
  pub stop : Option (Number × ℕ)

abbrev pub no_blocks : Blocks
no_blocks = record { literals = []; starts = [] }

abbrev pub opened : Blocks → Blocks
opened b = record { literals = b.literals; starts = length b.literals ∷ b.starts }

abbrev pub closed : List LiteralText → List ℕ → Blocks
closed literals [] = record { literals = literals; starts = [] }
closed literals (n ∷ ns) = record { literals = take n literals; starts = ns }

abbrev pub with_literal : LiteralText → Blocks → Blocks
with_literal l b = record { literals = b.literals ++ l ∷ []; starts = b.starts }

-- whether a semicolon after these two tokens ends a block: they are END, or END and a name
abbrev pub ends_block : Option Lexeme → Option Lexeme → Bool
ends_block None before = false
ends_block (Some last) None = is_keyword ends last.kind
ends_block (Some last) (Some before) = is_keyword ends last.kind || (is_identifier last.kind && is_keyword ends before.kind)

-- A block begins at DO or PROCEDURE, and ends after the semicolon of its END.
abbrev pub blocks_behind : Kind → Bool → Blocks → Blocks
blocks_behind kind ending b = cond (is_keyword opens kind) (opened b) (cond (is_semicolon kind && ending) (closed b.literals b.starts) b)

-- the token that is one more than a module may have
abbrev pub over_limit : ℕ → ℕ → Option (Number × ℕ)
over_limit count line = cond (nat_lt 65535 count) (Some (E205, line)) None

-- one token put out
abbrev pub put : Lexeme → Out → Out
put t o = record {
  tokens = o.tokens ++ t ∷ [];
  blocks = blocks_behind t.kind (ends_block o.last o.before) o.blocks;
  last = Some t;
  before = o.last;
  stop = over_limit (length o.tokens + 1) t.line;
}

-- the name that a string after these two tokens declares: they are an identifier and LITERALLY
abbrev pub name_of : Bool → List ℕ → Option (List ℕ)
name_of true name = Some name
name_of false name = None

abbrev pub declared_name : Kind → Option Lexeme → Option Lexeme → Option (List ℕ)
declared_name kind None before = None
declared_name kind (Some last) None = None
declared_name kind (Some last) (Some before) = name_of (is_string kind && is_keyword declares last.kind && is_identifier before.kind) before.text

-- what stands between a string's apostrophes
abbrev pub between : List ℕ → List ℕ
between text = take (length text - 2) (drop 1 text)

abbrev pub declare : Option (List ℕ) → Result (List Symbol) Number → ℕ → Out → Out
declare None text line o = o
declare (Some name) (Ok text) line o = record { tokens = o.tokens; blocks = with_literal (record { name = name; text = text }) o.blocks; last = o.last; before = o.before; stop = o.stop }
declare (Some name) (Err number) line o = record { tokens = o.tokens; blocks = o.blocks; last = o.last; before = o.before; stop = Some (number, line) }

-- a token of the source put out: a string may declare a literal, whose faults stand at it
abbrev pub put_source : Lexeme → Out → Out
put_source t o = declare (declared_name t.kind o.last o.before) (literal_of (between t.text)) t.line (put t o)

-- the literal that a token names
abbrev pub literal_for : List LiteralText → Kind → List ℕ → Option LiteralText
literal_for literals kind text = cond (is_identifier kind) (find (λ l. names_equal l.name text) literals) None

abbrev pub by_literal : (LiteralText → Out) → Option LiteralText → Out → Out
by_literal replaced None as_it_is = as_it_is
by_literal replaced (Some l) as_it_is = replaced l

abbrev pub stop_at : Number → ℕ → Out → Out
stop_at number line o = record { tokens = o.tokens; blocks = o.blocks; last = o.last; before = o.before; stop = Some (number, line) }

abbrev pub or_else : Option (Number × ℕ) → Out → Out → Out
or_else None o next = next
or_else (Some stop) o next = o

-- a token of a literal's text, with the line of the name that it replaces, where `depth` more replacements may be made one inside the other
unfoldable pub symbol_out : ℕ → ℕ → Symbol → Out → Out
symbol_out zero line s o = or_else o.stop o (by_literal (λ l. stop_at E202 line o) (literal_for o.blocks.literals s.kind s.text) (put (on_line line s) o))
symbol_out (suc depth) line s o = or_else o.stop o (by_literal (λ l. fold (λ p x. symbol_out depth line x p) o l.text) (literal_for o.blocks.literals s.kind s.text) (put (on_line line s) o))

-- the tokens of a literal's text
abbrev pub text_out : ℕ → ℕ → List Symbol → Out → Out
text_out depth line text o = fold (λ p x. symbol_out depth line x p) o text

-- a token of the source: eight replacements may be made one inside the other
abbrev pub source_out : Lexeme → Out → Out
source_out t o = or_else o.stop o (by_literal (λ l. text_out 7 t.line l.text o) (literal_for o.blocks.literals t.kind t.text) (put_source t o))

abbrev pub nothing_out : Out
nothing_out = record { tokens = []; blocks = no_blocks; last = None; before = None; stop = None }

-- the tokens of a source with its literals replaced, up to the first fault
unfoldable pub expanded : List Lexeme → Out
expanded tokens = fold (λ o t. source_out t o) nothing_out tokens

-- the tokens that came out, and where it stopped
pub record Expanded : Type 0 where
  pub tokens : List Lexeme
  pub stop : Option (Number × ℕ)

abbrev pub expansion_of : Out → Expanded
expansion_of o = record { tokens = o.tokens; stop = o.stop }

abbrev pub expansion_view : Expansion → Expanded
expansion_view e = record { tokens = lexemes e.tokens.items; stop = e.stop }

-- What scanning a text gives.
use Rattle.std.specs.Prelude.{◌≡◌, ℕ, List, [], ◌∷◌, length, take, map, cond, nat_lt, ◌-◌, nat_eq, Result, Ok, Err}
use Rattle.std.specs.Global.{Vec}
use Rattle.std.specs.List.{suffix_len}
use Rattle.word86.specs.declared.fault.Fault.{Fault}
use Rattle.word86.specs.declared.fault.Fault.TheVariants.{Memory, At}
use Rattle.word86.specs.declared.number.Number.TheVariants.{E107}
use Rattle.plm_token.specs.declared.token.Kind.{Kind}
use Rattle.plm_token.specs.declared.token.Token.{Token}
use Rattle.plm_token.specs.declared.piece.ScanState.TheVariants.{FirstColumn}
use Rattle.plm_token.specs.declared.piece.Piece.{Piece}
use Rattle.plm_token.specs.declared.piece.Piece.TheVariants as is_piece
use Rattle.plm_token.specs.Pieces.{Cut, pieces}

-- a token without where it lies in memory
pub record Lexeme : Type 0 where
  pub kind : Kind
  pub text : List ℕ
  pub line : ℕ

abbrev pub lexeme : Token → Lexeme
lexeme t = record { kind = t.kind; text = t.text.now; line = t.line }

abbrev pub lexemes : List Token → List Lexeme
lexemes tokens = map lexeme tokens

-- one piece before what the pieces after it give: the first fault ends the text
abbrev pub put_before : Lexeme → Result (List Lexeme) Fault → Result (List Lexeme) Fault
put_before t (Ok ts) = Ok (t ∷ ts)
put_before t (Err f) = Err f

abbrev pub with_piece : Piece → List ℕ → ℕ → Result (List Lexeme) Fault → Result (List Lexeme) Fault
with_piece is_piece.Skipped text line behind = behind
with_piece (is_piece.Token k) text line behind = put_before (record { kind = k; text = text; line = line }) behind
with_piece (is_piece.Fault n) text line behind = Err (At 0 line n)

-- the tokens of pieces, or their first fault
abbrev pub tokens_of : List Cut → Result (List Lexeme) Fault
tokens_of [] = Ok []
tokens_of (c ∷ cs) = with_piece c.piece c.text c.line (tokens_of cs)

-- a text without the 1AH bytes that end it
unfoldable pub trimmed : List ℕ → List ℕ
trimmed text = take (length text - suffix_len (λ b. nat_eq b 26) text) text

-- the tokens of a text, or its first fault
unfoldable pub scan_of : List ℕ → Result (List Lexeme) Fault
scan_of text = cond (nat_lt 1048576 (length text)) (Err (At 0 1 E107)) (tokens_of (pieces FirstColumn 1 (trimmed text)))

-- what a call may answer: what is right, or want of memory
abbrev pub Answers : Result (List Lexeme) Fault → Result (Vec Token) Fault → Type 0
Answers right (Ok v) = right ≡ Ok (lexemes v.items)
Answers right (Err Memory) = Unit {0}
Answers right (Err (At module_number line number)) = right ≡ Err (At module_number line number)

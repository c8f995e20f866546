-- The text of a literal: it has tokens, blanks and comments alone.
use Rattle.std.specs.Prelude.{ℕ, List, [], ◌∷◌, map, cond, nat_lt, Result, Ok, Err, Option, Some, None}
use Rattle.word86.specs.declared.fault.Fault.{Fault}
use Rattle.word86.specs.declared.fault.Fault.TheVariants.{At}
use Rattle.word86.specs.declared.number.Number.{Number}
use Rattle.word86.specs.FaultCode.{code_of}
use Rattle.plm_token.specs.declared.token.Kind.{Kind}
use Rattle.plm_token.specs.declared.piece.ScanState.TheVariants.{Literal}
use Rattle.plm_token.specs.declared.piece.Piece.{Piece}
use Rattle.plm_token.specs.declared.piece.Piece.TheVariants.{Skipped, Token, Fault as Faulty}
use Rattle.plm_token.specs.Pieces.{Cut, pieces}
use Rattle.plm_token.specs.Scanner.{Lexeme}

-- a token without its line
pub record Symbol : Type 0 where
  pub kind : Kind
  pub text : List ℕ

-- the lesser of two faults, if any
abbrev pub lesser : Option Number → Option Number → Option Number
lesser None b = b
lesser (Some a) None = Some a
lesser (Some a) (Some b) = Some (cond (nat_lt (code_of b) (code_of a)) b a)

abbrev pub fault_in : Piece → Option Number
fault_in Skipped = None
fault_in (Token kind) = None
fault_in (Faulty number) = Some number

-- the least fault of pieces: scanning goes on after each
abbrev pub least_fault : List Cut → Option Number
least_fault [] = None
least_fault (c ∷ cs) = lesser (fault_in c.piece) (least_fault cs)

abbrev pub symbol_before : Piece → List ℕ → List Symbol → List Symbol
symbol_before Skipped text symbols = symbols
symbol_before (Token kind) text symbols = record { kind = kind; text = text } ∷ symbols
symbol_before (Faulty number) text symbols = symbols

abbrev pub symbols_of : List Cut → List Symbol
symbols_of [] = []
symbols_of (c ∷ cs) = symbol_before c.piece c.text (symbols_of cs)

abbrev pub unless_fault : Option Number → List Symbol → Result (List Symbol) Number
unless_fault None symbols = Ok symbols
unless_fault (Some number) symbols = Err number

-- the tokens of a literal's text, or the least of its faults
unfoldable pub literal_of : List ℕ → Result (List Symbol) Number
literal_of text = unless_fault (least_fault (pieces Literal 0 text)) (symbols_of (pieces Literal 0 text))

abbrev pub on_line : ℕ → Symbol → Lexeme
on_line line s = record { kind = s.kind; text = s.text; line = line }

-- what a literal's text gives at a line
abbrev pub at_line : ℕ → Result (List Symbol) Number → Result (List Lexeme) Fault
at_line line (Ok symbols) = Ok (map (on_line line) symbols)
at_line line (Err number) = Err (At 0 line number)

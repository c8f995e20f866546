use Rattle.std.proofs.Common.{◌≡◌, ◌++◌, ℕ, length, map}
use Rattle.plm_token.specs.declared.piece.ScanState.TheVariants.{Literal}
use Rattle.plm_token.specs.Pieces.{pieces}
use Rattle.plm_token.specs.Scanner.{lexemes}
use Rattle.plm_token.specs.Literals.{least_fault, lesser, symbols_of, on_line}
use Rattle.plm_token.proofs.scanner.scan_literal.Given as goal

-- the pieces of what is left begin at some line
abbrev pub invariant-loop-piece : goal.invariant-loop-piece
invariant-loop-piece l = (n : ℕ)
    × (least_fault (pieces Literal 0 l.fn.text) ≡ lesser l.least (least_fault (pieces l.pieces.state n l.pieces.rest.now)))
    × (map (on_line l.line) (symbols_of (pieces Literal 0 l.fn.text)) ≡ lexemes l.tokens.items ++ map (on_line l.line) (symbols_of (pieces l.pieces.state n l.pieces.rest.now)))

abbrev pub decreases-loop-piece : goal.decreases-loop-piece
decreases-loop-piece l = length l.pieces.rest.now

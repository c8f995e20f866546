use Rattle.std.proofs.Common.{◌≡◌, ◌≤◌, length}
use Rattle.plm_token.specs.Scanner.{trimmed}
use Rattle.plm_token.proofs.scanner.trimmed.Given as goal

abbrev pub invariant-loop-last : goal.invariant-loop-last
invariant-loop-last l = record { same : trimmed l.text ≡ trimmed l.rest; inside : length l.rest ≤ length l.text }

abbrev pub decreases-loop-last : goal.decreases-loop-last
decreases-loop-last l = length l.rest

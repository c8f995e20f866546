use Rattle.std.proofs.Common.{◌≡◌, ◌≤◌, length}
use Rattle.plm_token.specs.Names.{normal}
use Rattle.plm_token.proofs.letters.Letters.next.Given as goal

abbrev pub invariant-loop-first : goal.invariant-loop-first
invariant-loop-first l = record { same : normal l.fn.self.rest.now ≡ normal l.self.rest.now; inside : length l.self.rest.now ≤ length l.fn.self.rest.now }

abbrev pub decreases-loop-first : goal.decreases-loop-first
decreases-loop-first l = length l.self.rest.now

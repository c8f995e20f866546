use Rattle.std.proofs.Common.{◌≡◌, ◌<◌, ℕ, length, get_or}
use Rattle.select.specs.Rows.{first_of}
use Rattle.select.proofs.routine.firsts_of.Given as goal

abbrev pub invariant-loop-instruction : goal.invariant-loop-instruction
invariant-loop-instruction l = record {
  many : length l.firsts.items ≡ l.instruction-index;
  before : (k : ℕ) → k < l.instruction-index → get_or l.firsts.items k 0 ≡ first_of l.saves l.instructions k;
  here : l.first ≡ first_of l.saves l.instructions l.instruction-index;
}

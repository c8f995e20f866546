use Rattle.std.specs.Prelude.{ℕ, ◌<◌, ◌≤◌, ◌+◌, ◌-◌, length, slice_index}
use Rattle.board.proofs.timetable.past.Given as goal

abbrev pub invariant-loop-place : goal.invariant-loop-place
invariant-loop-place l = record {
  later : l.from ≤ l.place;
  within : l.place ≤ length l.turns;
  past : (i : ℕ) → i < l.place → slice_index l.turns i < l.turn + 1;
}

abbrev pub decreases-loop-place : goal.decreases-loop-place
decreases-loop-place l = length l.turns - l.place

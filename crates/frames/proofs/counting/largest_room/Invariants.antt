use Rattle.std.proofs.Common.{◌≡◌, drop, max}
use Rattle.frames.specs.Inner.Need.{need_at, largest_room}
use Rattle.frames.proofs.counting.largest_room.Given as goal

-- the largest so far, and what is left, is all
abbrev pub invariant-loop-number : goal.invariant-loop-number
invariant-loop-number l = max l.largest (largest_room (need_at l.needs) l.number (drop l.number l.code.procedures.items)) ≡ max 3 (largest_room (need_at l.needs) 0 l.code.procedures.items)

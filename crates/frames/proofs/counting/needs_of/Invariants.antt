use Rattle.std.proofs.Common.{◌≡◌, ◌≤◌, ◌*◌, ℕ, length}
use Rattle.frames.specs.Inner.Need.{need_at, AreKnown}
use Rattle.frames.proofs.counting.needs_of.Given as goal

-- the procedures before this place in the order are known
abbrev pub invariant-loop-number : goal.invariant-loop-number
invariant-loop-number l =
    (length l.needs.items ≡ length l.code.procedures.items)
    × AreKnown l.code l.needs.items l.number-index
    × ((q : ℕ) → (need_at l.needs.items q).words ≤ l.number-index * 0xffffffffffffffff)

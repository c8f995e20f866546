use Rattle.std.proofs.Common.{◌≡◌, ◌++◌, drop, map}
use Rattle.frames.proofs.counting.registers_of.Given as goal

-- so far, and what is left, is all
abbrev pub invariant-loop-need : goal.invariant-loop-need
invariant-loop-need l = l.registers.items ++ map (λ n. n.registers) (drop l.need-index l.needs) ≡ map (λ n. n.registers) l.needs

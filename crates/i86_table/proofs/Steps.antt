-- A shift by one place more.
use Rattle.std.proofs.Common.{◌≡◌, ℕ, suc, ◌+◌, ◌-◌, ◌<◌, ◌≤◌, Bool, ap, arith}
use Rattle.word86.specs.declared.width.Width.{Width}
use Rattle.i86_table.specs.declared.instruction.ShiftOperation.{ShiftOperation}
use Rattle.i86_table.specs.Arithmetic.{moved_once, moved}

-- the first of the places that are left
pub moved_step : (o : ShiftOperation) (w : Width) (n i v : ℕ) (c : Bool) → i < n → moved o w (n - i) (v, c) ≡ moved o w (n - (i + 1)) (moved_once o w v)
unfolding moved
moved_step o w n i v c h = let e : n - i ≡ suc (n - (i + 1)) = omega arith in ap (λ (k : ℕ). moved o w k (v, c)) e

-- none is left
pub moved_none : (o : ShiftOperation) (w : Width) (n v : ℕ) (c : Bool) → moved o w (n - n) (v, c) ≡ (v, c)
unfolding moved
moved_none o w n v c = let e : n - n ≡ 0 = omega arith in ap (λ (k : ℕ). moved o w k (v, c)) e

pub moved_end : (o : ShiftOperation) (w : Width) (n i v : ℕ) (c : Bool) → n ≤ i → moved o w (n - i) (v, c) ≡ (v, c)
unfolding moved
moved_end o w n i v c h = let e : n - i ≡ 0 = omega arith in ap (λ (k : ℕ). moved o w k (v, c)) e

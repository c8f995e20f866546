-- Tests and what they tell.
use Rattle.std.proofs.Common.{◌≡◌, ℕ, Bool, true, false, sym, ap, ◌∙◌, arith}
use Rattle.std.specs.Prelude.{◌||◌, nat_lt, nat_le, not}
use Rattle.std.proofs.lemmas.Bool.Decides.{nat_tests}

pub not_less : (a b : ℕ) → nat_le a b ≡ not (nat_lt b a)
not_less a b = grind (arith, nat_tests)

-- a test that comes to its end at the first that holds
pub first_or : (r a b : Bool) → r ≡ a → r ≡ true → r ≡ (a || b)
first_or r a b e h = h ∙ sym (ap (λ x. x || b) (sym e ∙ h))

pub second_or : (r s a b : Bool) → r ≡ a → r ≡ false → s ≡ b → s ≡ (a || b)
second_or r s a b e h k = k ∙ sym (ap (λ x. x || b) (sym e ∙ h))

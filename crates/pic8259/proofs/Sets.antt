-- A set with a level more or less.
use Rattle.std.proofs.Common.{◌≡◌, ◌≢◌, ℕ, ◌-◌, ◌*◌, ◌%◌, ◌^◌, ◌<◌, ◌⊎◌, inl, inr, true, false, not, ◌&&◌, ◌||◌, sym, ap, ◌∙◌, subst, arith, max, bit_and, bit_or}
use Rattle.std.specs.Prelude.{◌==◌}
use Rattle.std.specs.Int.{bit_at, w8}
use Rattle.std.proofs.lemmas.Nat.{one_shl}
use Rattle.std.proofs.lemmas.Nat.Bits.{bit_at-lt, bit_at-pow_same, bit_at-pow_other, bit_at_or, bit_at_clear_same, bit_at_clear_other}
use Rattle.std.proofs.lemmas.Bool.Decides.{nat_tests}
use Rattle.pic8259.specs.Levels.{has, with_level, without_level}

same_or_not : (j k : ℕ) → (j ≡ k) ⊎ (j ≢ k)
same_or_not j k = elim (cases j k) [ inl e ↦ inl e | inr d ↦ inr d ] where
  cases : (j k : ℕ) → (j ≡ k) ⊎ (j ≢ k)
  cases j k = grind arith

test_same : (j k : ℕ) → j ≡ k → (j == k) ≡ true
test_same j k e = grind (arith, nat_tests)

test_other : (j k : ℕ) → j ≢ k → (j == k) ≡ false
test_other j k d = grind (arith, nat_tests)

pub has-with : (s k j : ℕ) → has (with_level k s) j ≡ ((j == k) || has s j)
has-with s k j =
    elim (same_or_not j k) [
      | inl e ↦
          let one : bit_at (2 ^ k) j ≡ 1 = ap (bit_at (2 ^ k)) e ∙ bit_at-pow_same k in
          let small : bit_at s j < 2 = bit_at-lt s j in
          let both : bit_at (bit_or s (2 ^ k)) j ≡ 1 = bit_at_or s (2 ^ k) j ∙ (let top : max (bit_at s j) (bit_at (2 ^ k) j) ≡ 1 = omega arith in top) in
          ap (λ x. x == 1) both ∙ sym (ap (λ b. b || has s j) (test_same j k e))
      | inr d ↦
          let none : bit_at (2 ^ k) j ≡ 0 = bit_at-pow_other k j d in
          let both : bit_at (bit_or s (2 ^ k)) j ≡ bit_at s j = bit_at_or s (2 ^ k) j ∙ (let top : max (bit_at s j) (bit_at (2 ^ k) j) ≡ bit_at s j = omega arith in top) in
          ap (λ x. x == 1) both ∙ sym (ap (λ b. b || has s j) (test_other j k d))
    ]

pub has-without : (s k j : ℕ) → k < 8 → j < 8 → has (without_level k s) j ≡ (not (j == k) && has s j)
has-without s k j below small =
    let shifted : 1 * 2 ^ k % 2 ^ 8 ≡ 2 ^ k = one_shl k 8 below in
    elim (same_or_not j k) [
      | inl e ↦
          let none : bit_at (bit_and s (255 - 2 ^ k)) k ≡ 0 = subst (λ x. bit_at (bit_and s (255 - x)) k ≡ 0) shifted (bit_at_clear_same w8 s k below) in
          ap (λ x. bit_at (bit_and s (255 - 2 ^ k)) x == 1) e ∙ (ap (λ x. x == 1) none ∙ sym (ap (λ b. not b && has s j) (test_same j k e)))
      | inr d ↦
          let kept : bit_at (bit_and s (255 - 2 ^ k)) j ≡ bit_at s j = subst (λ x. bit_at (bit_and s (255 - x)) j ≡ bit_at s j) shifted (bit_at_clear_other w8 s k below j small d) in
          ap (λ x. x == 1) kept ∙ sym (ap (λ b. not b && has s j) (test_other j k d))
    ]

-- From the tests to the placement.
use Rattle.std.proofs.Common.{◌≡◌, ℕ, ◌<◌, ◌≤◌, ◌↔◌, List, true, false, IsTrue, slice_index, refl, sym, subst, true≢false, arith}
use Rattle.word86.specs.MemoryMap.{first_offset, data_end}
use Rattle.plm_decl.specs.Placement.{Has, HoldsByte, IsWithin}

abbrev pub AreApart : ℕ → ℕ → ℕ → ℕ → Type 0
AreApart o s p l = (b : ℕ) → Has p l b → ¬ Has o s b

pub apart_from : (os ss : List ℕ) (k j o s p l : ℕ) → o ≡ slice_index os k → s ≡ slice_index ss k → p ≡ slice_index os j → l ≡ slice_index ss j
    → AreApart o s p l → (b : ℕ) → HoldsByte os ss j b → ¬ HoldsByte os ss k b
apart_from os ss k j o s p l eo es ep el f b x y =
    f b (subst (λ n. n ≤ b) (sym ep) x.0, omega (arith, ep, el, x.1)) (subst (λ n. n ≤ b) (sym eo) y.0, omega (arith, eo, es, y.1))

pub apart_of : (os ss : List ℕ) (k j o s p l : ℕ) → o ≡ slice_index os k → s ≡ slice_index ss k → p ≡ slice_index os j → l ≡ slice_index ss j
    → ((b : ℕ) → HoldsByte os ss j b → ¬ HoldsByte os ss k b) → AreApart o s p l
apart_of os ss k j o s p l eo es ep el f b x y =
    f b (subst (λ n. n ≤ b) ep x.0, omega (arith, ep, el, x.1)) (subst (λ n. n ≤ b) eo y.0, omega (arith, eo, es, y.1))

pub within_from : (os ss : List ℕ) (k o s : ℕ) → o ≡ slice_index os k → s ≡ slice_index ss k → ((b : ℕ) → Has o s b → (first_offset ≤ b) × (b < data_end)) → IsWithin os ss k
within_from os ss k o s eo es f b x = f b (subst (λ n. n ≤ b) (sym eo) x.0, omega (arith, eo, es, x.1))

pub within_of : (os ss : List ℕ) (k o s : ℕ) → o ≡ slice_index os k → s ≡ slice_index ss k → IsWithin os ss k → (b : ℕ) → Has o s b → (first_offset ≤ b) × (b < data_end)
within_of os ss k o s eo es f b x = f b (subst (λ n. n ≤ b) eo x.0, omega (arith, eo, es, x.1))

pub refuses : {P : Type 0} → ¬ P → IsTrue false ↔ P
refuses n = (λ h. absurd (true≢false (sym h)), λ p. absurd (n p))

pub grants : {P : Type 0} → P → IsTrue true ↔ P
grants p = (λ h. p, λ q. refl)

-- A text without dollar signs and small letters is in normal form.
use Rattle.std.proofs.Common.{◌≡◌, ◌+◌, ◌<◌, ◌≤◌, ℕ, Bool, true, false, ◌||◌, List, ◌∷◌, length, drop, refl, ap, sym, subst}
use Rattle.std.proofs.lemmas.Bool.{true≢false}
use Rattle.std.proofs.Math.ListN.{get_or}
use Rattle.std.proofs.lemmas.List.{drop_more, drop_all}
use Rattle.plm_token.specs.Characters.{within, is_dollar}
use Rattle.plm_token.specs.Names.{normal}
use Rattle.plm_syntax.specs.Inner.Name.{changes}

written_before : (b : ℕ) (bs : List ℕ) → changes b ≡ false → normal bs ≡ bs → normal (b ∷ bs) ≡ b ∷ bs
unfolding normal
written_before b bs = by_tests (is_dollar b) (within 97 122 b) refl refl
  where
    by_tests : (d s : Bool) → is_dollar b ≡ d → within 97 122 b ≡ s → d || s ≡ false → normal bs ≡ bs → normal (b ∷ bs) ≡ b ∷ bs
    by_tests false false e f t same = rw (e, f) (ap (λ (l : List ℕ). b ∷ l) same)
    by_tests true s e f t same = absurd (true≢false t)
    by_tests false true e f t same = absurd (true≢false t)

pub written_on : (bs : List ℕ) (i : ℕ) → i < length bs → changes (get_or bs i 0) ≡ false → normal (drop (i + 1) bs) ≡ drop (i + 1) bs → normal (drop i bs) ≡ drop i bs
written_on bs i lt plain same =
    subst (λ (l : List ℕ). normal l ≡ l) (sym (drop_more bs i 0 lt)) (written_before (get_or bs i 0) (drop (i + 1) bs) plain same)

pub written_none : (bs : List ℕ) (i : ℕ) → length bs ≤ i → normal (drop i bs) ≡ drop i bs
unfolding normal
written_none bs i le = rw (drop_all i bs le) refl

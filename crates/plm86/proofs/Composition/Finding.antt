-- What lies at an offset of the data.
use Rattle.std.proofs.Common.{◌≡◌, ℕ, suc, ◌+◌, ◌-◌, ◌≤◌, Bool, true, false, List, [], ◌∷◌, Option, Some, None, refl, ap, subst, arith}
use Rattle.std.specs.Prelude.{nat_le, ◌&&◌, if◌then◌else◌, slice_index}
use Rattle.std.proofs.lemmas.Bool.{leb-true}
use Rattle.word86.specs.Access.{In}
use Rattle.word86.specs.Place.{covers, held}
use Rattle.i86_table.specs.Contexts.{in_object}
use Rattle.plm86.specs.Relation.{Finds}
use Rattle.plm86.specs.Inner.Assembled.{find_from}

-- what is found is what is held
pub finds_held : (k : ℕ) (offsets sizes : List ℕ) (a n : ℕ) → in_object (find_from k offsets sizes a n) ≡ held k offsets sizes a n
finds_held k [] sizes a n = refl
finds_held k (o ∷ os) [] a n = refl
finds_held k (o ∷ os) (s ∷ ss) a n = cases (covers o s a n) (finds_held (suc k) os ss a n)
  where
    cases : (b : Bool) → in_object (find_from (suc k) os ss a n) ≡ held (suc k) os ss a n
        → in_object (if b then Some (k, a - o) else find_from (suc k) os ss a n) ≡ (if b then Some (In k (a - o)) else held (suc k) os ss a n)
    cases true e = refl
    cases false e = e

-- ---- what is found lies in its object

index_or : Option (ℕ × ℕ) → ℕ → ℕ
index_or (Some x) d = x.0
index_or None d = d

byte_or : Option (ℕ × ℕ) → ℕ → ℕ
byte_or (Some x) d = x.1
byte_or None d = d

-- counted from k, the object h is the (h - k)-th
abbrev Lies : (k : ℕ) (offsets sizes : List ℕ) (a n h i : ℕ) → Type 0
Lies k offsets sizes a n h i = (k ≤ h) × (a ≡ slice_index offsets (h - k) + i) × (i + n ≤ slice_index sizes (h - k))

first_lies : (k o s : ℕ) (os ss : List ℕ) (a n h i : ℕ) → o ≤ a → a + n ≤ o + s → ◌≡◌ {A = Option (ℕ × ℕ)} (Some (k, a - o)) (Some (h, i)) → Lies k (o ∷ os) (s ∷ ss) a n h i
unfolding index_or byte_or
first_lies k o s os ss a n h i low high e =
    let same : k ≡ h = ap (λ z. index_or z 0) e in
    let byte : a - o ≡ i = ap (λ z. byte_or z 0) e in
    let first : 0 ≡ h - k = omega (arith, same) in (
      omega (arith, same),
      subst (λ z. a ≡ slice_index (o ∷ os) z + i) first (omega (arith, low, byte)),
      subst (λ z. i + n ≤ slice_index (s ∷ ss) z) first (omega (arith, low, high, byte)),
    )

later_lies : (k o s : ℕ) (os ss : List ℕ) (a n h i : ℕ) → Lies (suc k) os ss a n h i → Lies k (o ∷ os) (s ∷ ss) a n h i
later_lies k o s os ss a n h i l =
    let next : suc (h - suc k) ≡ h - k = omega (arith, l.0) in
    (omega (arith, l.0), subst (λ z. a ≡ slice_index (o ∷ os) z + i) next l.1, subst (λ z. i + n ≤ slice_index (s ∷ ss) z) next l.2)

found_lies : (k : ℕ) (offsets sizes : List ℕ) (a n h i : ℕ) → find_from k offsets sizes a n ≡ Some (h, i) → Lies k offsets sizes a n h i
found_lies k [] sizes a n h i e = absurd (cc)
found_lies k (o ∷ os) [] a n h i e = absurd (cc)
found_lies k (o ∷ os) (s ∷ ss) a n h i e = cases (found_lies (suc k) os ss a n h i) (nat_le o a) (nat_le (a + n) (o + s)) refl refl e
  where
    cases : (find_from (suc k) os ss a n ≡ Some (h, i) → Lies (suc k) os ss a n h i) → (x y : Bool) → nat_le o a ≡ x → nat_le (a + n) (o + s) ≡ y
        → (if x && y then Some (k, a - o) else find_from (suc k) os ss a n) ≡ Some (h, i) → Lies k (o ∷ os) (s ∷ ss) a n h i
    cases later true true low high e = first_lies k o s os ss a n h i (leb-true o a low) (leb-true (a + n) (o + s) high) e
    cases later true false low high e = later_lies k o s os ss a n h i (later e)
    cases later false y low high e = later_lies k o s os ss a n h i (later e)

pub finds : (offsets sizes : List ℕ) → Finds (find_from 0 offsets sizes) (λ k. slice_index offsets k) (λ k. slice_index sizes k)
finds offsets sizes a n k i e =
    let l = found_lies 0 offsets sizes a n k i e in
    let all : k - 0 ≡ k = omega arith in
    (subst (λ z. a ≡ slice_index offsets z + i) all l.1, subst (λ z. i + n ≤ slice_index sizes z) all l.2)

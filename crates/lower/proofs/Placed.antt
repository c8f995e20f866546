-- Under a placement the bytes of an object are found in it.
use Rattle.std.proofs.Common.{◌≡◌, ℕ, zero, suc, ◌+◌, ◌-◌, ◌<◌, ◌≤◌, Bool, true, false, List, [], ◌∷◌, length, Some, refl, ap, ◌∙◌, arith}
use Rattle.std.specs.Prelude.{if◌then◌else◌, slice_index}
use Rattle.word86.specs.Access.{In}
use Rattle.word86.specs.Place.{covers, held}
use Rattle.plm_decl.specs.Placement.{IsPlacement}
use Rattle.lower.proofs.Memory.{covered, of_covered}

index_in : (ss : List ℕ) (k : ℕ) → 1 ≤ slice_index ss k → k < length ss
index_in [] k h = absurd (omega (arith, h))
index_in (s ∷ ss) zero h = omega arith
index_in (s ∷ ss) (suc k) h = omega (arith, index_in ss k h)

found_in : (base : ℕ) (os ss : List ℕ) (k i n b : ℕ) → length os ≡ length ss → k < length ss → b ≡ slice_index os k + i → i + n ≤ slice_index ss k → ((j : ℕ) → j < k → covers (slice_index os j) (slice_index ss j) b n ≡ false) → held base os ss b n ≡ Some (In (base + k) i)
found_in base [] [] k i n b len lt at fits apart = absurd (omega (arith, lt))
found_in base (o ∷ os) [] k i n b len lt at fits apart = absurd (omega (arith, lt))
found_in base [] (s ∷ ss) k i n b len lt at fits apart = absurd (omega (arith, len))
found_in base (o ∷ os) (s ∷ ss) zero i n b len lt at fits apart =
    ap (λ c. if c then Some (In base (b - o)) else held (suc base) os ss b n) (covered o s b n (omega (arith, at)) (omega (arith, at, fits)))
    ∙ ap (λ d. Some (In d (b - o))) (omega arith) ∙ ap (λ d. Some (In (base + 0) d)) (omega (arith, at))
found_in base (o ∷ os) (s ∷ ss) (suc k) i n b len lt at fits apart =
    ap (λ c. if c then Some (In base (b - o)) else held (suc base) os ss b n) (apart 0 (omega arith))
    ∙ found_in (suc base) os ss k i n b (omega (arith, len)) (omega (arith, lt)) at fits (λ j h. apart (suc j) (omega (arith, h)))
    ∙ ap (λ d. Some (In d i)) (omega arith)

not_covered : (first size a n : ℕ) → ((first ≤ a) × (a + n ≤ first + size) → ⊥) → (c : Bool) → covers first size a n ≡ c → covers first size a n ≡ false
not_covered first size a n never true e = absurd (never (of_covered first size a n e))
not_covered first size a n never false e = e

pub finds_in : (offsets sizes : List ℕ) → IsPlacement offsets sizes → (k i n : ℕ) → 1 ≤ n → i + n ≤ slice_index sizes k → held 0 offsets sizes (slice_index offsets k + i) n ≡ Some (In k i)
finds_in offsets sizes p k i n some fits =
    let lt = index_in sizes k (omega (arith, some, fits)) in
    let b = slice_index offsets k + i in
    found_in 0 offsets sizes k i n b p.each lt refl fits
    (λ j h. not_covered (slice_index offsets j) (slice_index sizes j) b n (λ c. p.apart k lt j h b (c.0, omega (arith, c.1, some)) (omega arith, omega (arith, fits, some))) _ refl)
    ∙ ap (λ d. Some (In d i)) (omega arith)

pub low_in : (offsets sizes : List ℕ) → IsPlacement offsets sizes → (k i n : ℕ) → 1 ≤ n → i + n ≤ slice_index sizes k → slice_index offsets k + i + n ≤ 65536
low_in offsets sizes p k i n some fits =
    let lt = index_in sizes k (omega (arith, some, fits)) in
    let b = slice_index offsets k + i + n - 1 in
    let w = p.within k lt b (omega (arith, some), omega (arith, some, fits)) in
    omega (arith, w.1, some)

-- Where steps begin.
use Rattle.std.proofs.Common.{◌≡◌, ℕ, zero, suc, ◌+◌, ◌<◌, ◌≤◌, List, [], ◌∷◌, length, get_or, take, drop, refl, ap, ◌∙◌, arith}
use Rattle.std.specs.Prelude.{sum}
use Rattle.std.proofs.lemmas.List.Sums.{sum_by-cons}
use Rattle.select.specs.Sizes.{start}

pub sum-cons : (x : ℕ) (xs : List ℕ) → sum (x ∷ xs) ≡ x + sum xs
sum-cons x xs = sum_by-cons (λ y. y) x xs

pub start_zero : (s : List ℕ) → start s 0 ≡ 0
start_zero s = refl

pub start_cons : (x : ℕ) (s : List ℕ) (k : ℕ) → start (x ∷ s) (suc k) ≡ x + start s k
start_cons x s k = sum-cons x (take k s)

pub start_more : (s : List ℕ) (k : ℕ) → start s (suc k) ≡ start s k + get_or s k 0
start_more [] zero = refl
start_more [] (suc k) = refl
start_more (x ∷ s) zero = omega (arith, start_cons x s 0)
start_more (x ∷ s) (suc k) = omega (arith, start_cons x s (suc k), start_cons x s k, start_more s k)

-- from one step to another, larger sizes have more bytes
pub gap_le : (s t : List ℕ) (a n : ℕ) → ((i : ℕ) → a ≤ i → get_or s i 0 ≤ get_or t i 0) → start s (a + n) + start t a ≤ start t (a + n) + start s a
gap_le s t a zero h = let e : a + 0 ≡ a = omega arith in let p = ap (start s) e in let q = ap (start t) e in omega (arith, p, q)
gap_le s t a (suc n) h =
    let e : a + suc n ≡ suc (a + n) = omega arith in
    let p = ap (start s) e ∙ start_more s (a + n) in
    let q = ap (start t) e ∙ start_more t (a + n) in
    omega (arith, p, q, gap_le s t a n h, h (a + n) (omega arith))

pub gap_is : (s t : List ℕ) (a n : ℕ) → ((i : ℕ) → a ≤ i → get_or s i 0 ≡ get_or t i 0) → start s (a + n) + start t a ≡ start t (a + n) + start s a
gap_is s t a zero h = let e : a + 0 ≡ a = omega arith in let p = ap (start s) e in let q = ap (start t) e in omega (arith, p, q)
gap_is s t a (suc n) h =
    let e : a + suc n ≡ suc (a + n) = omega arith in
    let p = ap (start s) e ∙ start_more s (a + n) in
    let q = ap (start t) e ∙ start_more t (a + n) in
    omega (arith, p, q, gap_is s t a n h, h (a + n) (omega arith))

-- a step's place is told by the sizes before it
pub start_same : (s t : List ℕ) (n : ℕ) → ((i : ℕ) → i < n → get_or s i 0 ≡ get_or t i 0) → start s n ≡ start t n
start_same s t zero h = refl
start_same s t (suc n) h = omega (arith, start_more s n, start_more t n, start_same s t n (λ i lt. h i (omega arith)), h n (omega arith))

-- steps have a byte at least
pub gap_long : (s : List ℕ) (a n : ℕ) → ((i : ℕ) → i < a + n → 1 ≤ get_or s i 0) → start s a + n ≤ start s (a + n)
gap_long s a zero h = let e : a + 0 ≡ a = omega arith in let p = ap (start s) e in omega (arith, p)
gap_long s a (suc n) h =
    let e : a + suc n ≡ suc (a + n) = omega arith in
    let p = ap (start s) e ∙ start_more s (a + n) in
    omega (arith, p, gap_long s a n (λ i lt. h i (omega arith)), h (a + n) (omega arith))

pub start_up_to : (s : List ℕ) (a n : ℕ) → start s a ≤ start s (a + n)
start_up_to s a zero = let e : a + 0 ≡ a = omega arith in let p = ap (start s) e in omega (arith, p)
start_up_to s a (suc n) =
    let e : a + suc n ≡ suc (a + n) = omega arith in
    let p = ap (start s) e ∙ start_more s (a + n) in
    omega (arith, p, start_up_to s a n)

nothing : (k : ℕ) → start [] k ≡ 0
nothing zero = refl
nothing (suc k) = refl

-- the sum of a range
pub sum_of_range : (s : List ℕ) (a n : ℕ) → start s (a + n) ≡ start s a + sum (take n (drop a s))
sum_of_range s zero n = let e : 0 + n ≡ n = omega arith in let p = ap (start s) e in omega (arith, p)
sum_of_range [] (suc a) zero = omega (arith, nothing (suc a), nothing (suc a + 0))
sum_of_range [] (suc a) (suc n) = omega (arith, nothing (suc a), nothing (suc a + suc n))
sum_of_range (x ∷ s) (suc a) n =
    let e : suc a + n ≡ suc (a + n) = omega arith in
    let p = ap (start (x ∷ s)) e ∙ start_cons x s (a + n) in
    omega (arith, p, start_cons x s a, sum_of_range s a n)

pub whole : (s : List ℕ) → start s (length s) ≡ sum s
whole [] = refl
whole (x ∷ s) = omega (arith, start_cons x s (length s), sum-cons x s, whole s)

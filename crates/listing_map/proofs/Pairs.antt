-- A table that holds the two digits of each byte.
use Rattle.std.proofs.Common.{◌≡◌, ◌∙◌, ℕ, zero, suc, ◌+◌, ◌*◌, ◌/◌, ◌%◌, ◌<◌, List, [], ◌∷◌, ◌++◌, get_or, ap, ap₂, arith}
use Rattle.listing_map.specs.Lines.{hex_digit, hex2, hex4}

-- the digits of n bytes, of which v is the first
abbrev pub pairs_from : (n v : ℕ) → List ℕ
pairs_from zero v = []
pairs_from (suc n) v = hex_digit (v / 16 % 16) ∷ hex_digit (v % 16) ∷ pairs_from n (suc v)

first_there : (n v k i : ℕ) → i ≡ 2 * k → k < n → get_or (pairs_from n v) i 0 ≡ hex_digit ((v + k) / 16 % 16)
first_there zero v k i e lt = absurd (omega (arith, lt))
first_there (suc n) v zero zero e lt = let same : v ≡ v + 0 = omega arith in ap (λ x. hex_digit (x / 16 % 16)) same
first_there (suc n) v zero (suc i) e lt = absurd (omega (arith, e))
first_there (suc n) v (suc k) zero e lt = absurd (omega (arith, e))
first_there (suc n) v (suc k) (suc zero) e lt = absurd (omega (arith, e))
first_there (suc n) v (suc k) (suc (suc i)) e lt =
    let same : suc v + k ≡ v + suc k = omega arith in
    first_there n (suc v) k i (omega (arith, e)) (omega (arith, lt)) ∙ ap (λ x. hex_digit (x / 16 % 16)) same

second_there : (n v k i : ℕ) → i ≡ 2 * k + 1 → k < n → get_or (pairs_from n v) i 0 ≡ hex_digit ((v + k) % 16)
second_there zero v k i e lt = absurd (omega (arith, lt))
second_there (suc n) v k zero e lt = absurd (omega (arith, e))
second_there (suc n) v zero (suc zero) e lt = let same : v ≡ v + 0 = omega arith in ap (λ x. hex_digit (x % 16)) same
second_there (suc n) v (suc k) (suc zero) e lt = absurd (omega (arith, e))
second_there (suc n) v zero (suc (suc i)) e lt = absurd (omega (arith, e))
second_there (suc n) v (suc k) (suc (suc i)) e lt =
    let same : suc v + k ≡ v + suc k = omega arith in
    second_there n (suc v) k i (omega (arith, e)) (omega (arith, lt)) ∙ ap (λ x. hex_digit (x % 16)) same

-- what a table has at twice a byte, and behind it
pub pair_there : (t u : List ℕ) (v p : ℕ) → t ≡ pairs_from 256 0 → u ≡ pairs_from 256 0 → v < 256 → p ≡ v → (get_or t (2 * p) 0 ∷ get_or u (2 * p + 1) 0 ∷ []) ≡ hex2 v
pair_there t u v p e f lt at =
    let same : 0 + v ≡ v = omega arith in
    ap₂ (λ (x y : ℕ). x ∷ y ∷ [])
    (ap (λ (l : List ℕ). get_or l (2 * p) 0) e ∙ first_there 256 0 v (2 * p) (omega (arith, at)) lt ∙ ap (λ x. hex_digit (x / 16 % 16)) same)
    (ap (λ (l : List ℕ). get_or l (2 * p + 1) 0) f ∙ second_there 256 0 v (2 * p + 1) (omega (arith, at)) lt ∙ ap (λ x. hex_digit (x % 16)) same)

-- a word's digits are those of its two bytes
pub word_digits : (v : ℕ) → hex2 (v / 256) ++ hex2 (v % 256) ≡ hex4 v
word_digits v =
    let a : v / 256 / 16 % 16 ≡ v / 4096 % 16 = omega arith in
    let c : v % 256 / 16 % 16 ≡ v / 16 % 16 = omega arith in
    let d : v % 256 % 16 ≡ v % 16 = omega arith in
    ap₂ (λ x y. hex_digit x ∷ hex_digit (v / 256 % 16) ∷ y) a (ap₂ (λ x y. hex_digit x ∷ hex_digit y ∷ []) c d)

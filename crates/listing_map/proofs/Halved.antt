-- Two halves that grow.
use Rattle.std.proofs.Common.{◌≡◌, ◌≤◌, ◌∙◌, ℕ, ◌+◌, ◌-◌, List, [], ◌∷◌, ◌++◌, length, take, drop, get_or, take_all, refl, sym, ap, arith, append_assoc}
use Rattle.listing_map.specs.Halves.{interleaved}

alone : (rest : List ℕ) → interleaved rest [] ≡ rest
alone [] = refl
alone (b ∷ bs) = refl

-- a byte more of each
two_more : (even odd : List ℕ) (a b : ℕ) → length even ≡ length odd → interleaved (even ++ a ∷ []) (odd ++ b ∷ []) ≡ interleaved even odd ++ a ∷ b ∷ []
two_more [] [] a b e = refl
two_more [] (y ∷ ys) a b e = absurd (omega (arith, e))
two_more (x ∷ xs) [] a b e = absurd (omega (arith, e))
two_more (x ∷ xs) (y ∷ ys) a b e = ap (λ (l : List ℕ). x ∷ y ∷ l) (two_more xs ys a b (omega (arith, e)))

-- the first half has what is left
pub last_more : (even odd rest : List ℕ) → length even ≡ length odd → interleaved (even ++ rest) odd ≡ interleaved even odd ++ rest
last_more [] [] rest e = alone rest
last_more [] (y ∷ ys) rest e = absurd (omega (arith, e))
last_more (x ∷ xs) [] rest e = absurd (omega (arith, e))
last_more (x ∷ xs) (y ∷ ys) rest e = ap (λ (l : List ℕ). x ∷ y ∷ l) (last_more xs ys rest (omega (arith, e)))

pub pair_more : (even odd rom after : List ℕ) (a b : ℕ) → length even ≡ length odd → interleaved even odd ++ (a ∷ b ∷ after) ≡ rom → interleaved (even ++ a ∷ []) (odd ++ b ∷ []) ++ after ≡ rom
pair_more even odd rom after a b e h =
    ap (λ (l : List ℕ). l ++ after) (two_more even odd a b e) ∙ append_assoc (interleaved even odd) (a ∷ b ∷ []) after ∙ h

-- the two bytes at the front of what is left go one to each half
pub pair_step : (even odd rom rest more other : List ℕ) (d f n : ℕ) → 2 ≤ length rest → n ≡ length rest - 2 → length even ≡ length odd → interleaved even odd ++ rest ≡ rom
    → more ≡ even ++ get_or rest 0 d ∷ [] → other ≡ odd ++ get_or rest 1 f ∷ [] → interleaved more other ++ take n (drop 2 rest) ≡ rom
pair_step even odd rom [] more other d f n two len same joined first second = absurd (omega (arith, two))
pair_step even odd rom (a ∷ []) more other d f n two len same joined first second = absurd (omega (arith, two))
pair_step even odd rom (a ∷ b ∷ after) more other d f n two len same joined first second =
    let whole : take n after ≡ after = take_all n after (omega (arith, len)) in
    rw (first, second, whole) (pair_more even odd rom after a b same joined)

-- The longest front of a list whose elements pass a test.
use Rattle.std.proofs.Common.{◌≡◌, ℕ, zero, suc, ◌+◌, ◌<◌, ◌≤◌, List, [], ◌∷◌, length, take, Bool, true, false, cond, refl, arith}
use Rattle.std.specs.List.{list_all, prefix_len}

pub one-add : (n : ℕ) → 1 + n ≡ suc n
one-add n = omega arith

take_more : (test : ℕ → Bool) (b : ℕ) (bs : List ℕ) → list_all test (take (prefix_len test bs) bs) ≡ true
    → (p : Bool) → test b ≡ p → list_all test (take (cond p (1 + prefix_len test bs) 0) (b ∷ bs)) ≡ true
take_more test b bs behind true e = rw (one-add (prefix_len test bs), e) behind
take_more test b bs behind false e = refl

pub take_run : (test : ℕ → Bool) (bs : List ℕ) → list_all test (take (prefix_len test bs) bs) ≡ true
take_run test [] = refl
take_run test (b ∷ bs) = take_more test b bs (take_run test bs) (test b) refl

past_more : (test : ℕ → Bool) (b : ℕ) (bs : List ℕ) (m : ℕ) → (prefix_len test bs < m → list_all test (take m bs) ≡ false)
    → (p : Bool) → test b ≡ p → cond p (1 + prefix_len test bs) 0 < suc m → list_all test (b ∷ take m bs) ≡ false
past_more test b bs m behind true e above = rw e (behind (omega arith))
past_more test b bs m behind false e above = rw e refl

pub past_run : (test : ℕ → Bool) (bs : List ℕ) (m : ℕ) → prefix_len test bs < m → m ≤ length bs → list_all test (take m bs) ≡ false
past_run test bs zero above inside = absurd (omega arith)
past_run test [] (suc m) above inside = absurd (omega arith)
past_run test (b ∷ bs) (suc m) above inside = past_more test b bs m (λ h. past_run test bs m h (omega arith)) (test b) refl above

-- Where a string ends.
use Rattle.std.proofs.Common.{◌≡◌, ℕ, zero, suc, ◌+◌, ◌<◌, ◌≤◌, List, [], ◌∷◌, ◌++◌, length, take, Bool, true, false, cond, not, ◌&&◌, refl, arith, codes}
use Rattle.plm_token.specs.Characters.{is_apostrophe, is_printable}
use Rattle.plm_token.specs.Strings.{ends_string}
use Rattle.plm_token.specs.Inner.Front.{string_length, string_closed}
use Rattle.plm_token.proofs.Runs.{one-add}

inside_more : (k l n : ℕ) → k ≤ n → l ≤ n → (p q : Bool) → cond p (1 + k) (cond q (1 + l) 0) ≤ suc n
inside_more k l n h g true q = omega arith
inside_more k l n h g false true = omega arith
inside_more k l n h g false false = omega arith

pub inside_string : (pending : Bool) (bs : List ℕ) → string_length pending bs ≤ length bs
inside_string pending [] = omega arith
inside_string pending (b ∷ bs) = inside_more _ _ _ (inside_string (not pending) bs) (inside_string false bs) (is_apostrophe b) (not pending && is_printable b)

-- the first characters, of this number, are a string exactly if it is closed there, and else the beginning of one
abbrev Whole : Bool → List ℕ → ℕ → Bool → Type 0
Whole pending bs n closed = (ends_string pending (take n bs) ≡ closed) × (closed ≡ false → ends_string pending (take n bs ++ codes "'") ≡ true)

whole_pending : (b : ℕ) (bs : List ℕ) (n : ℕ) (closed : Bool) → Whole false bs n closed → (p : Bool) → is_apostrophe b ≡ p → Whole true (b ∷ bs) (cond p (1 + n) 0) (cond p closed true)
whole_pending b bs n closed behind true e = rw (one-add n, e) behind
whole_pending b bs n closed behind false e = (refl, λ h. absurd (cc h))

whole_other : (b : ℕ) (bs : List ℕ) (n m : ℕ) (closed closed' : Bool) → Whole true bs n closed → Whole false bs m closed' → (p q : Bool) → is_apostrophe b ≡ p → is_printable b ≡ q
    → Whole false (b ∷ bs) (cond p (1 + n) (cond q (1 + m) 0)) (cond p closed (cond q closed' false))
whole_other b bs n m closed closed' quote plain true q e f = rw (one-add n, e) quote
whole_other b bs n m closed closed' quote plain false true e f = rw (one-add m, e, f) plain
whole_other b bs n m closed closed' quote plain false false e f = (refl, λ h. refl)

pub string_whole : (pending : Bool) (bs : List ℕ) → (ends_string pending (take (string_length pending bs) bs) ≡ string_closed pending bs)
    × (string_closed pending bs ≡ false → ends_string pending (take (string_length pending bs) bs ++ codes "'") ≡ true)
string_whole true [] = (refl, λ h. absurd (cc h))
string_whole false [] = (refl, λ h. refl)
string_whole true (b ∷ bs) = whole_pending b bs (string_length false bs) (string_closed false bs) (string_whole false bs) (is_apostrophe b) refl
string_whole false (b ∷ bs) = whole_other b bs (string_length true bs) (string_length false bs) (string_closed true bs) (string_closed false bs) (string_whole true bs) (string_whole false bs) (is_apostrophe b) (is_printable b) refl refl

-- the first characters are no string, and no beginning of one
abbrev Past : Bool → List ℕ → ℕ → Type 0
Past pending bs m = (ends_string pending (take m bs) ≡ false) × (ends_string pending (take m bs ++ codes "'") ≡ false)

past_pending : (b : ℕ) (bs : List ℕ) (n m : ℕ) → (n < m → Past false bs m) → (p : Bool) → is_apostrophe b ≡ p → cond p (1 + n) 0 < suc m → Past true (b ∷ bs) (suc m)
past_pending b bs n m behind true e above = rw e (behind (omega arith))
past_pending b bs n m behind false e above = rw e (refl, refl)

past_other : (b : ℕ) (bs : List ℕ) (n k m : ℕ) → (n < m → Past true bs m) → (k < m → Past false bs m) → (p q : Bool) → is_apostrophe b ≡ p → is_printable b ≡ q
    → cond p (1 + n) (cond q (1 + k) 0) < suc m → Past false (b ∷ bs) (suc m)
past_other b bs n k m quote plain true q e f above = rw e (quote (omega arith))
past_other b bs n k m quote plain false true e f above = rw (e, f) (plain (omega arith))
past_other b bs n k m quote plain false false e f above = rw (e, f) (refl, refl)

-- no longer beginning is one
pub string_past : (pending : Bool) (bs : List ℕ) (m : ℕ) → string_length pending bs < m → m ≤ length bs
    → (ends_string pending (take m bs) ≡ false) × (ends_string pending (take m bs ++ codes "'") ≡ false)
string_past pending bs zero above inside = absurd (omega arith)
string_past pending [] (suc m) above inside = absurd (omega arith)
string_past true (b ∷ bs) (suc m) above inside = past_pending b bs (string_length false bs) m (λ h. string_past false bs m h (omega arith)) (is_apostrophe b) refl above
string_past false (b ∷ bs) (suc m) above inside =
    past_other b bs (string_length true bs) (string_length false bs) m (λ h. string_past true bs m h (omega arith)) (λ h. string_past false bs m h (omega arith)) (is_apostrophe b) (is_printable b) refl refl above

-- Where a comment ends.
use Rattle.std.proofs.lemmas.Option.{same_Some}
use Rattle.std.proofs.Common.{◌≡◌, ℕ, zero, suc, ◌+◌, ◌<◌, ◌≤◌, List, [], ◌∷◌, ◌++◌, length, take, Bool, true, false, cond, ◌&&◌, nat_eq, Option, Some, None, refl, arith, codes}
use Rattle.plm_token.specs.Forms.{ends_comment, is_empty}
use Rattle.plm_token.specs.Inner.Front.{comment_length, further}

further_some : (o : Option ℕ) (n : ℕ) → further 1 o ≡ Some n → (m : ℕ) × (o ≡ Some m) × (n ≡ suc m)
further_some None n h = absurd (cc h)
further_some (Some m) n h = let e : 1 + m ≡ n = cc h in (m, refl, omega (arith, e))

further_none : (o : Option ℕ) → further 1 o ≡ None → o ≡ None
further_none None h = refl
further_none (Some m) h = absurd (cc h)

-- what a closed comment's characters are, and what longer ones are not
abbrev Closed : Bool → List ℕ → ℕ → Type 0
Closed star bs n = (ends_comment star (take n bs) ≡ true) × (n ≤ length bs)

abbrev Past : Bool → List ℕ → ℕ → Type 0
Past star bs m = (ends_comment star (take m bs) ≡ false) × (ends_comment star (take m bs ++ codes "*/") ≡ false)

closed_more : (star : Bool) (b : ℕ) (bs : List ℕ) (n : ℕ) → ((m : ℕ) → comment_length (nat_eq b 42) bs ≡ Some m → Closed (nat_eq b 42) bs m)
    → (p : Bool) → (star && nat_eq b 47) ≡ p → cond p (Some 1) (further 1 (comment_length (nat_eq b 42) bs)) ≡ Some n → Closed star (b ∷ bs) n
closed_more star b bs n behind true e g = let k : 1 ≡ n = same_Some 1 n g in rw (← k, e) (refl, omega arith)
closed_more star b bs n behind false e g =
    let w = further_some (comment_length (nat_eq b 42) bs) n g in
    let r = behind w.0 w.1 in
    rw (w.2, e) (r.0, omega (arith, r.1))

pub comment_closed : (star : Bool) (bs : List ℕ) (n : ℕ) → comment_length star bs ≡ Some n → (ends_comment star (take n bs) ≡ true) × (n ≤ length bs)
comment_closed star [] n h = absurd (cc h)
comment_closed star (b ∷ bs) n h = closed_more star b bs n (λ m g. comment_closed (nat_eq b 42) bs m g) (star && nat_eq b 47) refl h

longer : (cs : List ℕ) (k : ℕ) → 0 < k → k ≤ length cs → (is_empty (take k cs) ≡ false) × (is_empty (take k cs ++ codes "*/") ≡ false)
longer cs zero some inside = absurd (omega arith)
longer [] (suc k) some inside = absurd (omega arith)
longer (c ∷ cs) (suc k) some inside = (refl, refl)

past_more : (star : Bool) (b : ℕ) (bs : List ℕ) (n m : ℕ) → n < suc m → m ≤ length bs → ((k : ℕ) → comment_length (nat_eq b 42) bs ≡ Some k → k < m → Past (nat_eq b 42) bs m)
    → (p : Bool) → (star && nat_eq b 47) ≡ p → cond p (Some 1) (further 1 (comment_length (nat_eq b 42) bs)) ≡ Some n → Past star (b ∷ bs) (suc m)
past_more star b bs n m above inside behind true e g = let k : 1 ≡ n = same_Some 1 n g in rw e (longer bs m (omega arith) inside)
past_more star b bs n m above inside behind false e g =
    let w = further_some (comment_length (nat_eq b 42) bs) n g in rw e (behind w.0 w.1 (omega (arith, w.2)))

pub comment_past : (star : Bool) (bs : List ℕ) (n : ℕ) → comment_length star bs ≡ Some n → (m : ℕ) → n < m → m ≤ length bs → (ends_comment star (take m bs) ≡ false) × (ends_comment star (take m bs ++ codes "*/") ≡ false)
comment_past star [] n h m above inside = absurd (cc h)
comment_past star (b ∷ bs) n h zero above inside = absurd (omega arith)
comment_past star (b ∷ bs) n h (suc m) above inside =
    past_more star b bs n m above (omega arith) (λ k g l. comment_past (nat_eq b 42) bs k g m l (omega arith)) (star && nat_eq b 47) refl h

abbrev Open : Bool → List ℕ → Type 0
Open star bs = (ends_comment star bs ≡ false) × (ends_comment star (bs ++ codes "*/") ≡ true)

open_more : (star : Bool) (b : ℕ) (bs : List ℕ) → (comment_length (nat_eq b 42) bs ≡ None → Open (nat_eq b 42) bs)
    → (p : Bool) → (star && nat_eq b 47) ≡ p → cond p (Some 1) (further 1 (comment_length (nat_eq b 42) bs)) ≡ None → Open star (b ∷ bs)
open_more star b bs behind true e g = absurd (cc g)
open_more star b bs behind false e g = rw e (behind (further_none (comment_length (nat_eq b 42) bs) g))

pub comment_open : (star : Bool) (bs : List ℕ) → comment_length star bs ≡ None → (ends_comment star bs ≡ false) × (ends_comment star (bs ++ codes "*/") ≡ true)
comment_open true [] h = (refl, refl)
comment_open false [] h = (refl, refl)
comment_open star (b ∷ bs) h = open_more star b bs (λ g. comment_open (nat_eq b 42) bs g) (star && nat_eq b 47) refl h

-- A stack whose newest word stands last in a list.
use Rattle.std.proofs.Common.{◌≡◌, ℕ, ◌-◌, ◌≤◌, ◌<◌, List, ◌++◌, length, take, drop, reverse, ap, sym, ◌∙◌, arith, length-drop, subst, ◌⊎◌, inl, inr}
use Rattle.std.proofs.lemmas.Bool.{cases_lt}
use Rattle.std.proofs.Math.ListN.{drop_of_length-le}
use Rattle.std.proofs.lemmas.List.{reverse-append, length-reverse, take-append-drop}
use Rattle.std.proofs.Math.Seq.{drop-append_seam}

-- what is left of a stack once this number of words are gone from its top
pub left_below : {A : Type 0} (xs : List A) (n : ℕ) → n ≤ length xs → drop n (reverse xs) ≡ reverse (take (length xs - n) xs)
left_below xs n h =
    let m = length xs - n in
    let top = reverse (drop m xs) in
    let size : length top ≡ n = length-reverse (drop m xs) ∙ length-drop m xs ∙ omega (arith, h) in
    let parts : reverse xs ≡ top ++ reverse (take m xs) = sym (ap reverse (take-append-drop m xs)) ∙ reverse-append (take m xs) (drop m xs) in
    ap (drop n) parts ∙ subst (λ k. drop k (top ++ reverse (take m xs)) ≡ reverse (take m xs)) size (drop-append_seam top (reverse (take m xs)))

-- the same of any number of words
dropped_by : {A : Type 0} (xs : List A) (n : ℕ) → (length xs < n) ⊎ (n ≤ length xs) → drop n (reverse xs) ≡ reverse (take (length xs - n) xs)
dropped_by xs n (inr h) = left_below xs n h
dropped_by xs n (inl h) =
    let none : length xs - n ≡ 0 = omega (arith, h) in
    drop_of_length-le (reverse xs) (omega (arith, length-reverse xs, h)) ∙ ap (λ k. reverse (take k xs)) (sym none)

pub dropped : {A : Type 0} (xs : List A) (n : ℕ) → drop n (reverse xs) ≡ reverse (take (length xs - n) xs)
dropped xs n = dropped_by xs n (cases_lt (length xs) n)

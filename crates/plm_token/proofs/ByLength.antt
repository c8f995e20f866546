-- A name is none of the reserved words of another length.
use Rattle.std.proofs.Common.{◌≡◌, ◌∙◌, ℕ, suc, List, [], ◌∷◌, length, Bool, true, false, ◌&&◌, cond, nat_eq, bytes_eq, find, Some, refl, ap, sym, subst, arith}
use Rattle.std.proofs.Math.Bool.{and-false}
use Rattle.std.proofs.lemmas.Bool.Decides.{nat_tests}
use Rattle.plm_token.specs.declared.token.Keyword.{Keyword}
use Rattle.plm_token.specs.Names.{spelling, keywords, keyword_of}

-- those of these words that have so many letters
abbrev pub of_length : ℕ → List Keyword → List Keyword
of_length n [] = []
of_length n (k ∷ ks) = cond (nat_eq (length (spelling k)) n) (k ∷ of_length n ks) (of_length n ks)

apart : (a b : List ℕ) → (length a ≡ length b → ⊥) → bytes_eq a b ≡ false
apart [] [] h = absurd (h refl)
apart [] (y ∷ ys) h = refl
apart (x ∷ xs) [] h = refl
apart (x ∷ xs) (y ∷ ys) h = ap (λ b. nat_eq x y && b) (apart xs ys (λ e. h (ap suc e))) ∙ and-false (nat_eq x y)

other_length : (name word : List ℕ) (n : ℕ) → length name ≡ n → nat_eq (length word) n ≡ false → bytes_eq name word ≡ false
other_length name word n size other = apart name word (λ same. grind (arith, nat_tests))

one_more : (name : List ℕ) (n : ℕ) → length name ≡ n → (k : Keyword) (ks : List Keyword) (b : Bool) → nat_eq (length (spelling k)) n ≡ b
    → find (λ j. bytes_eq name (spelling j)) ks ≡ find (λ j. bytes_eq name (spelling j)) (of_length n ks)
    → cond (bytes_eq name (spelling k)) (Some k) (find (λ j. bytes_eq name (spelling j)) ks) ≡ find (λ j. bytes_eq name (spelling j)) (cond b (k ∷ of_length n ks) (of_length n ks))
one_more name n size k ks true e rest = ap (λ r. cond (bytes_eq name (spelling k)) (Some k) r) rest
one_more name n size k ks false e rest =
    ap (λ b. cond b (Some k) (find (λ j. bytes_eq name (spelling j)) ks)) (other_length name (spelling k) n size e) ∙ rest

find_of_length : (name : List ℕ) (n : ℕ) → length name ≡ n → (ks : List Keyword)
    → find (λ k. bytes_eq name (spelling k)) ks ≡ find (λ k. bytes_eq name (spelling k)) (of_length n ks)
find_of_length name n size [] = refl
find_of_length name n size (k ∷ ks) = one_more name n size k ks (nat_eq (length (spelling k)) n) refl (find_of_length name n size ks)

-- so it is the first of those of its own length that it is
pub by_length : (n : ℕ) (name : List ℕ) → n ≡ length name → keyword_of name ≡ find (λ k. bytes_eq name (spelling k)) (of_length n keywords)
unfolding keyword_of
by_length n name size = find_of_length name n (sym size) keywords

-- an arm of a match on the first letter
pub in_arm : (first letter : ℕ) (rest : List ℕ) (words : List Keyword) → first ≡ letter → keyword_of (letter ∷ rest) ≡ find (λ k. bytes_eq (letter ∷ rest) (spelling k)) words
    → keyword_of (first ∷ rest) ≡ find (λ k. bytes_eq (first ∷ rest) (spelling k)) words
in_arm first letter rest words is e = subst (λ f. keyword_of (f ∷ rest) ≡ find (λ k. bytes_eq (f ∷ rest) (spelling k)) words) (sym is) e

-- Initial bytes that are joined with the stretches behind them.
use Rattle.std.proofs.Common.{◌≡◌, ℕ, ◌+◌, Bool, true, false, List, [], ◌∷◌, ◌++◌, length, refl, sym, ap, ◌∙◌, arith, append_assoc, length-append}
use Rattle.std.specs.Prelude.{◌==◌, if◌then◌else◌}
use Rattle.std.proofs.lemmas.Bool.{eqb-true, eqb-false, eq-eqb, ne_eqb, cond_both}
use Rattle.layout_link.specs.Initial.{Stretch, stretch, joined}

-- the first stretch goes on with them where it begins at their end
pub by_joined : (P : List Stretch → Type 0) (a : ℕ) (xs : List ℕ) (b : ℕ) (ys : List ℕ) (rest : List Stretch)
    → (b ≡ a + length xs → P (stretch a (xs ++ ys) ∷ rest)) → P (stretch a xs ∷ stretch b ys ∷ rest) → P (joined a xs (stretch b ys ∷ rest))
by_joined P a xs b ys rest f g = cond_both (b == a + length xs) (stretch a (xs ++ ys) ∷ rest) (stretch a xs ∷ stretch b ys ∷ rest) P (λ e. f (eqb-true b (a + length xs) e)) (λ e. g)

joined_there : (a : ℕ) (xs : List ℕ) (b : ℕ) (ys : List ℕ) (rest : List Stretch) → b ≡ a + length xs → joined a xs (stretch b ys ∷ rest) ≡ stretch a (xs ++ ys) ∷ rest
joined_there a xs b ys rest e = ap (λ t. if t then stretch a (xs ++ ys) ∷ rest else stretch a xs ∷ stretch b ys ∷ rest) (eq-eqb b (a + length xs) e)

joined_beside : (a : ℕ) (xs : List ℕ) (b : ℕ) (ys : List ℕ) (rest : List Stretch) → (b ≡ a + length xs → ⊥) → joined a xs (stretch b ys ∷ rest) ≡ stretch a xs ∷ stretch b ys ∷ rest
joined_beside a xs b ys rest ne = ap (λ t. if t then stretch a (xs ++ ys) ∷ rest else stretch a xs ∷ stretch b ys ∷ rest) (ne_eqb b (a + length xs) ne)

-- bytes that others go on with are joined with them as one
pub joined_on : (a : ℕ) (xs : List ℕ) (b : ℕ) (ys : List ℕ) (rest : List Stretch) → b ≡ a + length xs → joined a xs (joined b ys rest) ≡ joined a (xs ++ ys) rest
joined_on a xs b ys [] e = joined_there a xs b ys [] e
joined_on a xs b ys (stretch c zs ∷ rest) e = by_tests (c == b + length ys) refl (length-append xs ys)
  where
    by_tests : (t : Bool) → (c == b + length ys) ≡ t → length (xs ++ ys) ≡ length xs + length ys
        → joined a xs (if t then stretch b (ys ++ zs) ∷ rest else stretch b ys ∷ stretch c zs ∷ rest) ≡ joined a (xs ++ ys) (stretch c zs ∷ rest)
    by_tests true h long =
        let there = eqb-true c (b + length ys) h in
        joined_there a xs b (ys ++ zs) rest e ∙ ap (λ l. stretch a l ∷ rest) (sym (append_assoc xs ys zs)) ∙ sym (joined_there a (xs ++ ys) c zs rest (omega (arith, there, e, long)))
    by_tests false h long =
        joined_there a xs b ys (stretch c zs ∷ rest) e ∙ sym (joined_beside a (xs ++ ys) c zs rest (λ f. eqb-false c (b + length ys) h (omega (arith, f, e, long))))

-- and others begin a stretch of their own
pub joined_apart : (a : ℕ) (xs : List ℕ) (b : ℕ) (ys : List ℕ) (rest : List Stretch) → (b ≡ a + length xs → ⊥) → joined a xs (joined b ys rest) ≡ stretch a xs ∷ joined b ys rest
joined_apart a xs b ys [] ne = joined_beside a xs b ys [] ne
joined_apart a xs b ys (stretch c zs ∷ rest) ne = by_tests (c == b + length ys)
  where
    by_tests : (t : Bool)
        → joined a xs (if t then stretch b (ys ++ zs) ∷ rest else stretch b ys ∷ stretch c zs ∷ rest) ≡ stretch a xs ∷ (if t then stretch b (ys ++ zs) ∷ rest else stretch b ys ∷ stretch c zs ∷ rest)
    by_tests true = joined_beside a xs b (ys ++ zs) rest ne
    by_tests false = joined_beside a xs b ys (stretch c zs ∷ rest) ne

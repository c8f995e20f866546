-- The starts of blocks, turned round.
use Rattle.std.proofs.Common.{◌≡◌, ℕ, List, [], ◌∷◌, ◌++◌, reverse, map, take, refl}
use Rattle.std.proofs.lemmas.List.{reverse-append, take-map}
use Rattle.plm_syntax.specs.declared.scope.Literal.{Literal}
use Rattle.plm_syntax.specs.Literals.{closed}
use Rattle.plm_syntax.specs.Inner.Scope.{literal_text}

pub reverse_push : (xs : List ℕ) (x : ℕ) → reverse (xs ++ x ∷ []) ≡ x ∷ reverse xs
reverse_push xs x = reverse-append xs (x ∷ [])

-- the innermost block closed
pub closed_turned : (before after : List Literal) (starts rest : List ℕ) (start : ℕ) → starts ≡ rest ++ start ∷ [] → after ≡ take start before
    → record { literals = map literal_text after; starts = reverse rest } ≡ closed (map literal_text before) (reverse starts)
closed_turned before after starts rest start e f = rw (e, reverse_push rest start, f, take-map literal_text start before) refl

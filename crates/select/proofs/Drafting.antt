-- The drafts of steps.
use Rattle.std.proofs.Common.{◌≡◌, ◌∙◌, ℕ, ◌+◌, ◌<◌, List, [], ◌++◌, length, map, get_or, sym, ap, subst, arith, inl, inr, length-append}
use Rattle.std.proofs.lemmas.Bool.{cases_lt}
use Rattle.std.proofs.lemmas.List.{length-map, get_or-map}
use Rattle.i86_table.specs.declared.open.Open.{Open}
use Rattle.i86_code.specs.Forms.{word_bytes}
use Rattle.i86_code.specs.Open.{front_of, back_of, open_bytes}
use Rattle.select.specs.declared.part.Step.{Step}
use Rattle.select.specs.Inner.Assembly.{nothing, drafted_bytes, IsCoded}

-- a word has two bytes
pub open_long : (x : Open) (n : ℕ) → length (open_bytes x n) ≡ length (front_of x) + 2 + length (back_of x)
open_long x n = let e = length-append (front_of x) (word_bytes n ++ back_of x) in omega (arith, e)

-- as many drafts as steps
pub as_many : {A : Type 0} (f : A → List ℕ) (ds : List A) (xs : List Step) → map f ds ≡ map drafted_bytes xs → length ds ≡ length xs
as_many f ds xs e = sym (length-map ds f) ∙ ap length e ∙ length-map xs drafted_bytes

-- the draft at a place is that of the step there
pub drafted_at : {A : Type 0} (f : A → List ℕ) (ds : List A) (xs : List Step) (k : ℕ) (d : A) (x : Step) → map f ds ≡ map drafted_bytes xs → k < length xs → d ≡ get_or ds k d → x ≡ get_or xs k nothing → f d ≡ drafted_bytes x
drafted_at f ds xs k d x e lt d_is x_is =
    ap f d_is ∙ sym (get_or-map f ds k d [] (omega (arith, lt, as_many f ds xs e))) ∙ ap (λ l. get_or l k []) e ∙ get_or-map drafted_bytes xs k nothing [] lt ∙ ap drafted_bytes (sym x_is)

-- one step more
pub coded_more : (xs : List Step) (k : ℕ) (x : Step) → x ≡ get_or xs k nothing → IsCoded x → ((j : ℕ) → j < k → IsCoded (get_or xs j nothing)) → (j : ℕ) → j < k + 1 → IsCoded (get_or xs j nothing)
coded_more xs k x is here before j l = elim (cases_lt j k) [
  | inl b ↦ before j b
  | inr g ↦ let same : k ≡ j = omega (arith, l, g) in subst (λ n. IsCoded (get_or xs n nothing)) same (subst IsCoded is here)
]

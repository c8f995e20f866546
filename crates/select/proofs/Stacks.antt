-- The words of the code as the stack has them.
use Rattle.std.proofs.Common.{◌≡◌, ℕ, zero, suc, ◌+◌, ◌*◌, ◌<◌, ◌≤◌, Bool, List, [], ◌∷◌, length, drop, Option, Some, None, refl, ap, ◌∙◌, subst, arith, slice_get}
use Rattle.std.specs.Prelude.{if◌then◌else◌}
use Rattle.std.proofs.lemmas.Bool.{eq-eqb, ne_eqb}
use Rattle.i86_table.specs.Contexts.{stack_word}
use Rattle.icode.specs.declared.code.Routine.{Routine}
use Rattle.icode.specs.declared.code.Word.{Word}
use Rattle.icode.specs.declared.code.Word.TheVariants.{Value, Return}

module _ (place : Routine → ℕ → ℕ) (base : List ℕ) where
  abbrev pub number_of : Word → ℕ
  number_of (Value v) = v
  number_of (Return p) = place p.routine p.index

  abbrev pub stack_of : List Word → List ℕ
  stack_of [] = base
  stack_of (w ∷ ws) = number_of w ∷ stack_of ws

  abbrev pub Small : List Word → Type 0
  Small [] = Unit {0}
  Small (w ∷ ws) = (number_of w < 65536) × Small ws

  pub stack_length : (ws : List Word) → length (stack_of ws) ≡ length ws + length base
  stack_length [] = omega arith
  stack_length (w ∷ ws) = omega (arith, stack_length ws)

  -- a value that this number of words lie on
  pub value_there : (ws : List Word) (n v : ℕ) → slice_get ws n ≡ Some (Value v) → slice_get (stack_of ws) n ≡ Some v
  value_there [] n v e = absurd (cc)
  value_there (w ∷ ws) zero v e = ap some_number e
    where
      some_number : Option Word → Option ℕ
      some_number (Some w) = Some (number_of w)
      some_number None = None
  value_there (w ∷ ws) (suc n) v e = value_there ws n v e

  pub value_small : (ws : List Word) (n v : ℕ) → slice_get ws n ≡ Some (Value v) → Small ws → v < 65536
  value_small [] n v e s = absurd (cc)
  value_small (w ∷ ws) zero v e s = subst (λ z. z < 65536) (ap or_zero e) s.0
    where
      or_zero : Option Word → ℕ
      or_zero (Some w) = number_of w
      or_zero None = 0
  value_small (w ∷ ws) (suc n) v e s = value_small ws n v e s.1

  pub within : (ws : List Word) (n v : ℕ) → slice_get ws n ≡ Some (Value v) → n < length ws
  within [] n v e = absurd (cc)
  within (w ∷ ws) zero v e = omega arith
  within (w ∷ ws) (suc n) v e = omega (arith, within ws n v e)

  pub dropped_stack : (n : ℕ) (ws : List Word) → n ≤ length ws → stack_of (drop n ws) ≡ drop n (stack_of ws)
  dropped_stack zero ws l = refl
  dropped_stack (suc n) [] l = absurd (omega (arith, l))
  dropped_stack (suc n) (w ∷ ws) l = dropped_stack n ws (omega (arith, l))

  pub dropped_small : (n : ℕ) (ws : List Word) → Small ws → Small (drop n ws)
  dropped_small zero ws s = s
  dropped_small (suc n) [] s = tt
  dropped_small (suc n) (w ∷ ws) s = dropped_small n ws s.1

-- the stack's word this number of words above the stack pointer
pub found_word : (st : List ℕ) (n offset sp : ℕ) → offset ≡ sp + 2 * n → stack_word offset sp st ≡ slice_get st n
found_word [] n offset sp e = refl
found_word (v ∷ st) zero offset sp e = ap (λ (b : Bool). if b then Some v else stack_word offset (sp + 2) st) (eq-eqb offset sp (omega (arith, e)))
found_word (v ∷ st) (suc n) offset sp e =
    ap (λ (b : Bool). if b then Some v else stack_word offset (sp + 2) st) (ne_eqb offset sp (λ z. omega (arith, e, z))) ∙ found_word st n offset (sp + 2) (omega (arith, e))

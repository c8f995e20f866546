-- Main's code and each vector's is counted and served.
use Rattle.std.proofs.Common.{◌≡◌, ℕ, ◌+◌, ◌*◌, ◌-◌, ◌≤◌, true, false, List, [], length, Some, slice_get, refl, sym, ap, ◌∙◌, subst, arith}
use Rattle.word86.specs.Access.{Access}
use Rattle.word86.specs.Action.{Action, Silent, Touch, Enable, Disable, Halt, Over, Bad}
use Rattle.plm_decl.specs.declared.names.Names.{Names}
use Rattle.icode.specs.declared.instruction.Instruction.{Instruction}
use Rattle.icode.specs.declared.instruction.Instruction.TheVariants as op
use Rattle.icode.specs.declared.code.Routine.{Routine}
use Rattle.icode.specs.declared.code.Routine.TheVariants.{Main}
use Rattle.icode.specs.declared.code.Word.{Word}
use Rattle.icode.specs.declared.code.Code.{Code}
use Rattle.icode.specs.declared.registers.Registers.{Registers}
use Rattle.icode.specs.Code.{code_of, serving}
use Rattle.icode.specs.Counted.{IsChanged}
use Rattle.icode.specs.Machine.{Context, At, does}
use Rattle.icode.specs.Registers.{joined, changes}
use Rattle.icode.specs.Runs.{Comes}
use Rattle.frames.specs.Counting.{NoRunPasses}
use Rattle.lower.specs.Lowering.{IsLowered, EntryLaw}
use Rattle.lower.specs.Runs.{RunsAreAllowed, runs_in, entered}
use Rattle.select.specs.Promise.{Image, next_of, words_of, Allowed, Counted, IsServed}
use Rattle.select.specs.Rows.{registers_of}
use Rattle.select.specs.Saved.{UnservedChangesNone, RegistersAreCounted}
use Rattle.plm86.specs.Inner.Images.{IsImageOf, CodeIsCounted}
use Rattle.plm86.proofs.Composition.Running.{code_is, runs_are, lowered_code, comes_in_names, comes_in_code, entered_is}
use Rattle.plm86.proofs.Composition.Handling.{saved_for}

-- ---- what is allowed

goes_on : (a : Action Access Context) → (a ≡ Over → ⊥) → Allowed true a
goes_on (Silent d) h = tt
goes_on (Touch t k) h = tt
goes_on (Enable d) h = tt
goes_on (Disable d) h = tt
goes_on (Halt d) h = tt
goes_on Over h = h refl
goes_on (Bad module_index line) h = tt

stays_off : (a : Action Access Context) → ((d : Context) → a ≡ Enable d → ⊥) → ((d : Context) → a ≡ Halt d → ⊥) → Allowed false a
stays_off (Silent d) h k = tt
stays_off (Touch t f) h k = tt
stays_off (Enable d) h k = h d refl
stays_off (Disable d) h k = tt
stays_off (Halt d) h k = k d refl
stays_off Over h k = tt
stays_off (Bad module_index line) h k = tt

module _ (names : Names) (c : Code) (x : Image) (is : IsImageOf names c x) (lowered : IsLowered names c) (allowed : RunsAreAllowed names) (within : NoRunPasses c (2 * x.main) (2 * (3 + x.handler))) where
  -- an action of the image is one of the program's code
  named : (d : Context) (a : Action Access Context) → next_of x d ≡ a → runs_in names x.offsets x.sizes d ≡ a
  named d a e = ap (λ next. next d) (sym (runs_are names c x is)) ∙ e

  main_few : (a n : ℕ) (d : Context) → Comes (next_of x) (At Main 0 a []) n d → length (words_of d) ≤ x.main
  main_few a n (At r k b ws) e = omega (arith, within.of_main x.offsets x.sizes n a r k b ws (comes_in_code names c x is lowered Main n a (At r k b ws) e))

  main_allowed : (a n : ℕ) (d : Context) → Comes (next_of x) (At Main 0 a []) n d → Allowed true (next_of x d)
  main_allowed a n d e = goes_on (next_of x d) (λ over. allowed.main_goes_on x.offsets x.sizes n a d (comes_in_names names c x is Main n a d e) (named d Over over))

  pub main_counted : (a : ℕ) → Counted (next_of x) (At Main 0 a []) true x.main
  main_counted a = record { few = main_few a; allowed = main_allowed a }

  module _ (unserved : UnservedChangesNone) (registers : RegistersAreCounted) (enters : EntryLaw) (v a : ℕ) where
    abbrev saved : Registers
    saved = x.saves (x.serving v)

    changed : IsChanged (code_of c) (serving c v) saved
    changed = subst (λ r. IsChanged (code_of c) (serving c v) (x.saves r)) (sym (is.serving_is v)) (saved_for c x.saves is.saved unserved v)

    in_code : (n : ℕ) (d : Context) → Comes (next_of x) (At (x.serving v) 0 a []) n d → Comes (does x.offsets x.sizes (code_of c)) (At (serving c v) 0 a []) n d
    in_code n d e = subst (λ r. Comes (does x.offsets x.sizes (code_of c)) (At r 0 a []) n d) (is.serving_is v) (comes_in_code names c x is lowered (x.serving v) n a d e)

    entry_is : x.serving v ≡ entered names v
    entry_is = entered_is names c x is lowered enters v

    in_names : (n : ℕ) (d : Context) → Comes (next_of x) (At (x.serving v) 0 a []) n d → Comes (runs_in names x.offsets x.sizes) (At (entered names v) 0 a []) n d
    in_names n d e = subst (λ r. Comes (runs_in names x.offsets x.sizes) (At r 0 a []) n d) entry_is (comes_in_names names c x is (x.serving v) n a d e)

    -- the words that are left when its registers are saved
    abbrev left : ℕ
    left = x.handler - length (registers_of saved)

    room : (n : ℕ) (r : Routine) (k b : ℕ) (ws : List Word) → Comes (next_of x) (At (x.serving v) 0 a []) n (At r k b ws) → length (registers_of saved) + length ws ≤ x.handler
    room n r k b ws e = omega (arith, registers saved, within.of_interrupt x.offsets x.sizes v n a saved r k b ws changed (in_code n (At r k b ws) e))

    few : (n : ℕ) (d : Context) → Comes (next_of x) (At (x.serving v) 0 a []) n d → length (words_of d) ≤ left
    few n (At r k b ws) e = omega (arith, room n r k b ws e)

    -- nothing is pushed yet at its beginning
    enough : left + length (registers_of saved) ≤ x.handler
    enough = omega (arith, room 0 (x.serving v) 0 a [] refl)

    off : (n : ℕ) (d : Context) → Comes (next_of x) (At (x.serving v) 0 a []) n d → Allowed false (next_of x d)
    off n d e =
        stays_off (next_of x d)
        (λ f h. allowed.none_enables x.offsets x.sizes v n a d f (in_names n d e) (named d (Enable f) h))
        (λ f h. allowed.none_halts x.offsets x.sizes v n a d f (in_names n d e) (named d (Halt f) h))

    saves : (n : ℕ) (r : Routine) (k b : ℕ) (ws : List Word) (i : Instruction) → Comes (next_of x) (At (x.serving v) 0 a []) n (At r k b ws) → slice_get (x.icode r) k ≡ Some i → joined saved (changes i) ≡ saved
    saves n r k b ws i e h =
        within.of_registers x.offsets x.sizes v n a saved r k b ws i changed (in_code n (At r k b ws) e)
        (subst (λ code. slice_get (code r) k ≡ Some i) (lowered_code names c x is lowered) h)

    ends : (n : ℕ) (r : Routine) (k b : ℕ) (ws : List Word) → Comes (next_of x) (At (x.serving v) 0 a []) n (At r k b ws) → slice_get (x.icode r) k ≡ Some op.Finish → r ≡ x.serving v
    ends n r k b ws e h =
        allowed.own_end x.offsets x.sizes v n a r k b ws (in_names n (At r k b ws) e) (subst (λ code. slice_get (code r) k ≡ Some op.Finish) (code_is names c x is) h)
        ∙ sym entry_is

    pub served : IsServed x v a
    served = record { most = left; counted = record { few = few; allowed = off }; enough = enough; saves = saves; ends = ends }

pub counted : CodeIsCounted
counted names c x unserved registers enters is lowered allowed within =
    record {
      of_main = main_counted names c x is lowered allowed within;
      of_vectors = served names c x is lowered allowed within unserved registers enters;
    }

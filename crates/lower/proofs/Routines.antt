-- The code of each routine of a well-formed program, and what it is by that.
use Rattle.std.proofs.Common.{◌≡◌, ℕ, zero, suc, ◌+◌, ◌-◌, ◌<◌, ◌≤◌, Bool, true, false, List, [], ◌∷◌, ◌++◌, length, Option, Some, None, refl, sym, ap, ◌∙◌, subst, arith, slice_get, length-append, append-nil, zero-add, suc-add, add-one}
use Rattle.std.specs.Prelude.{take, drop, Contains, option_map}
use Rattle.std.proofs.lemmas.List.{take-append-le}
use Rattle.std.proofs.Math.Seq.{take-length}
use Rattle.std.proofs.lemmas.Option.{slice_get-map, none-some, same_Some}
use Rattle.plm_type.specs.Rest.{Statements, Procedure}
use Rattle.plm_type.specs.Next.{body_of}
use Rattle.plm_type.specs.Calls.{statements_calls, graph_of}
use Rattle.plm_type.specs.Reach.{row_of}
use Rattle.icode.specs.declared.instruction.Instruction.{Instruction}
use Rattle.icode.specs.declared.instruction.Instruction.TheVariants as op
use Rattle.icode.specs.declared.code.Routine.{Routine}
use Rattle.icode.specs.declared.code.Routine.TheVariants as routine
use Rattle.icode.specs.Heights.{after, behind, height, target, HasHeights}
use Rattle.icode.specs.Made.{constant_in, cases_of, is_case, IsMade}
use Rattle.lower.specs.Expressions.{gives, are_giving}
use Rattle.lower.specs.Statements.{Kind, OfMain, Called, Giving, Serving, ending, ended_by, all_stay, statements_code, routine_code}
use Rattle.lower.specs.Lowering.{kind_of, serves, procedure_code, code}
use Rattle.lower.specs.Well.{AreStatements}
use Rattle.lower.specs.Tracking.{IsProgram}
use Rattle.lower.proofs.Ordered.{statements_all}
use Rattle.lower.proofs.Fits.{Fit, Fits, Inner, Spots, fit_at, fits_then}
use Rattle.lower.proofs.Fitting.{Let, IsServing, statements_level, statements_fit, all_endless_fit}

-- where jumps may lead in the code of a routine
abbrev pub Lands : List Instruction → ℕ → Type 0
Lands all t = (height all t ≡ 0) × (t < length all)

-- ---- what code is that is as it has to be

behind_more : (h k : ℕ) (xs : List Instruction) (x : Instruction) → slice_get xs k ≡ Some x → behind h (take (suc k) xs) ≡ after x (behind h (take k xs))
behind_more h k [] x e = absurd cc
behind_more h zero (y ∷ xs) x e = ap (λ (z : Instruction). after z h) (same_Some y x e)
behind_more h (suc k) (y ∷ xs) x e = behind_more (after y h) k xs x e

further : (n j : ℕ) → n + 1 + j ≡ suc n + j
further n j = omega arith

get_drop : (n j : ℕ) (xs : List Instruction) → slice_get (drop n xs) j ≡ slice_get xs (n + j)
get_drop zero j xs = ap (slice_get xs) (sym (zero-add j))
get_drop (suc n) j [] = refl
get_drop (suc n) j (x ∷ xs) = get_drop n j xs ∙ ap (slice_get (x ∷ xs)) (sym (suc-add n j))

module _ (MayCall : ℕ → Type 0) (Enables Finishes : Type 0) where
  module _ (Spot : ℕ → Type 0) where
    jump_fits : (x : Instruction) (p h t : ℕ) (more : List Instruction) → Fit MayCall Enables Finishes Spot p h x more → target x (p + 1) ≡ Some t → (after x h ≡ 0) × Spot t
    jump_fits (op.Ahead n) p h t more f e = (f.0, subst Spot (same_Some (p + 1 + n) t e) f.1)
    jump_fits (op.AheadUnless c n) p h t more f e = (f.0, subst Spot (same_Some (p + 1 + n) t e) f.1)
    jump_fits (op.Back n) p h t more f e = (f.0, subst Spot (same_Some (p + 1 - n) t e) f.1)
    jump_fits (op.BackUnless c n) p h t more f e = (f.0, subst Spot (same_Some (p + 1 - n) t e) f.1)
    jump_fits (op.Next w y s n) p h t more f e = (f.0, subst Spot (same_Some (p + 1 - n) t e) f.1)
    jump_fits (op.Switch n) p h t more f e = (f.0, subst Spot (same_Some (p + 1 + n) t e) f.1)
    jump_fits (op.Case n) p h t more f e = (f.0, subst Spot (same_Some (p + 1 + n) t e) f.1)
    jump_fits _ p h t more f e = absurd (none-some t e)

    constant_fits : (x : Instruction) (p h : ℕ) (more : List Instruction) → Fit MayCall Enables Finishes Spot p h x more → constant_in x < 65536
    constant_fits (op.Constant k) p h more f = f
    constant_fits (op.BinaryConstant o w k) p h more f = f
    constant_fits (op.StoreConstantAt w y k) p h more f = f
    constant_fits (op.AheadUnless t n) p h more f = f.2
    constant_fits (op.BackUnless t n) p h more f = f.2
    constant_fits (op.Next w y s n) p h more f = f.2
    constant_fits _ p h more f = omega arith

    cases_fit : (x : Instruction) (p h j : ℕ) (more : List Instruction) → Fit MayCall Enables Finishes Spot p h x more → j < cases_of x → is_case (slice_get more j) ≡ true
    cases_fit (op.Switch n) p h j more f lt = f.2 j lt
    cases_fit _ p h j more f lt = absurd (omega (arith, lt))

  module _ (all : List Instruction) (f : Fits MayCall Enables Finishes (Lands all) 0 0 all) where
    at : (k : ℕ) (x : Instruction) → slice_get all k ≡ Some x → Fit MayCall Enables Finishes (Lands all) k (height all k) x (drop (suc k) all)
    at k x e = subst (λ q. Fit MayCall Enables Finishes (Lands all) q (height all k) x (drop (suc k) all)) (omega arith) (fit_at MayCall Enables Finishes (Lands all) 0 0 k all x f e)

    pub has_heights : HasHeights all
    has_heights = record {
      drops = λ k n e. at k (op.Drop n) e;
      flat = λ k t x e j.
          let l = jump_fits (Lands all) x k (height all k) t (drop (suc k) all) (at k x e) j in
          (ap (λ n. behind 0 (take n all)) (add-one k) ∙ (behind_more 0 k all x e ∙ l.0), l.1.0);
    }

    pub made : IsMade all
    made = record {
      numbered = λ k x e. constant_fits (Lands all) x k (height all k) (drop (suc k) all) (at k x e);
      cases = λ k j x e lt. ap is_case (ap (slice_get all) (further k j) ∙ sym (get_drop (suc k) j all)) ∙ cases_fit (Lands all) x k (height all k) j (drop (suc k) all) (at k x e) lt;
      inside = λ k t x e j. (jump_fits (Lands all) x k (height all k) t (drop (suc k) all) (at k x e) j).1.1;
    }

    pub invokes : (k q : ℕ) → slice_get all k ≡ Some (op.Invoke q) → MayCall q
    invokes k q e = at k (op.Invoke q) e

    pub enables : (k : ℕ) → slice_get all k ≡ Some op.Enable → Enables
    enables k e = at k op.Enable e

    pub halts : (k : ℕ) → slice_get all k ≡ Some op.Halt → Enables
    halts k e = at k op.Halt e

    pub finishes : (k : ℕ) → slice_get all k ≡ Some op.Finish → Finishes
    finishes k e = at k op.Finish e

-- ---- a routine's code

-- main halts at its end
abbrev IsMain : Kind → Type 0
IsMain OfMain = Unit {0}
IsMain Called = ⊥
IsMain Giving = ⊥
IsMain Serving = ⊥

some_ending : (around : Kind) → 1 ≤ length (ending around)
some_ending OfMain = omega arith
some_ending Called = omega arith
some_ending Giving = omega arith
some_ending Serving = omega arith

module _ (MayCall : ℕ → Type 0) (Enables : Type 0) (sizes : List ℕ) (procedures : List Procedure) where
  ending_fits : (around : Kind) → (IsMain around → Enables) → (all : List Instruction) (p : ℕ) → Lands all p → Fits MayCall Enables (IsServing around) (Lands all) p 0 (ending around)
  ending_fits OfMain halts all p spot = (halts tt, ((refl, subst (Lands all) (omega arith) spot), tt))
  ending_fits Called halts all p spot = (tt, tt)
  ending_fits Giving halts all p spot = (omega arith, (tt, tt))
  ending_fits Serving halts all p spot = (tt, tt)

  whole_spots : (around : Kind) (xs ys : List Instruction) → 1 ≤ length ys → Spots MayCall Enables (IsServing around) (Lands (xs ++ ys)) 0 xs
  whole_spots around xs ys some k le e = subst (Lands (xs ++ ys)) (omega arith) (ap (behind 0) (take-append-le k xs ys le) ∙ e, omega (arith, le, length-append xs ys, some))

  pub routine_fits : (around : Kind) (ss : Statements) → AreStatements sizes procedures MayCall around ss → (Let ss → Enables) → (IsMain around → Enables)
      → Fits MayCall Enables (IsServing around) (Lands (routine_code procedures around ss)) 0 0 (routine_code procedures around ss)
  routine_fits around ss good lets halts = by (all_stay ss) refl
    where
      body : List Instruction
      body = statements_code procedures around 0 ss

      by : (b : Bool) → all_stay ss ≡ b → Fits MayCall Enables (IsServing around) (Lands (body ++ ended_by b around)) 0 0 (body ++ ended_by b around)
      by true is =
          let inner : Inner MayCall Enables (IsServing around) (Lands body) 0 body = λ k lt e. subst (Lands body) (omega arith) (e, lt) in
          subst (λ c. Fits MayCall Enables (IsServing around) (Lands c) 0 0 c) (sym (append-nil body)) (all_endless_fit MayCall Enables (Lands body) sizes procedures around ss is good lets 0 0 inner)
      by false is =
          let all = body ++ ending around in
          let level = statements_level procedures around ss 0 in
          let spots = whole_spots around body (ending around) (some_ending around) in
          let end : Lands all (0 + length body) = spots (length body) (omega arith) (subst (λ l. behind 0 l ≡ 0) (sym (take-length body)) level) in
          fits_then MayCall Enables (IsServing around) (Lands all) 0 0 0 body (ending around) (statements_fit MayCall Enables (Lands all) sizes procedures around ss good lets 0 0 spots (subst (Lands all) (omega arith) end)) level
          (ending_fits around halts all (0 + length body) end)

-- ---- a program's code

module _ (sizes : List ℕ) (procedures : List Procedure) (vectors : List (Option ℕ)) (main : Statements) (good : IsProgram sizes procedures vectors main) where
  abbrev pub Calls : Routine → ℕ → Type 0
  Calls routine.Main q = (serves vectors q ≡ false) × Contains (statements_calls main) q
  Calls (routine.Procedure p) q = (serves vectors q ≡ false) × Contains (row_of (slice_get (graph_of procedures) p)) q
  Calls _ q = serves vectors q ≡ false

  abbrev pub LetsIn : Routine → Type 0
  LetsIn routine.Main = Unit {0}
  LetsIn (routine.Procedure p) = Let (body_of (slice_get procedures p))
  LetsIn routine.Unserved = ⊥
  LetsIn routine.Nowhere = ⊥

  abbrev pub Ends : Routine → Type 0
  Ends routine.Main = ⊥
  Ends (routine.Procedure p) = IsServing (kind_of (serves vectors p) (gives (slice_get procedures p)))
  Ends routine.Unserved = Unit {0}
  Ends routine.Nowhere = ⊥

  row_is : (p : ℕ) (procedure : Procedure) → slice_get procedures p ≡ Some procedure → statements_calls procedure.body ≡ row_of (slice_get (graph_of procedures) p)
  row_is p procedure got = sym (ap row_of (slice_get-map (λ (y : Procedure). statements_calls y.body) procedures p ∙ ap (option_map (λ (y : Procedure). statements_calls y.body)) got))

  procedure_fits : (p : ℕ) (o : Option Procedure) → slice_get procedures p ≡ o
      → Fits (Calls (routine.Procedure p)) (Let (body_of o)) (IsServing (kind_of (serves vectors p) (gives o))) (Lands (procedure_code procedures (serves vectors p) o)) 0 0 (procedure_code procedures (serves vectors p) o)
  procedure_fits p None got = tt
  procedure_fits p (Some procedure) got =
      routine_fits (Calls (routine.Procedure p)) (Let procedure.body) sizes procedures (kind_of (serves vectors p) (are_giving procedure.body)) procedure.body
      (statements_all sizes procedures (λ q. serves vectors q ≡ false) (λ q. Contains (row_of (slice_get (graph_of procedures) p)) q) (kind_of (serves vectors p) (are_giving procedure.body)) procedure.body (good.bodies p procedure got) (λ q lt c. subst (λ l. Contains l q) (row_is p procedure got) c))
      (λ l. l) (not_main (serves vectors p) (are_giving procedure.body))
    where
      not_main : (b g : Bool) → IsMain (kind_of b g) → Let procedure.body
      not_main true g m = absurd m
      not_main false true m = absurd m
      not_main false false m = absurd m

  pub program_fits : (r : Routine) → Fits (Calls r) (LetsIn r) (Ends r) (Lands (code procedures vectors main r)) 0 0 (code procedures vectors main r)
  program_fits routine.Main =
      routine_fits (Calls routine.Main) (Unit {0}) sizes procedures OfMain main
      (statements_all sizes procedures (λ q. serves vectors q ≡ false) (λ q. Contains (statements_calls main) q) OfMain main good.main_body (λ q lt c. c))
      (λ l. tt) (λ l. tt)
  program_fits (routine.Procedure p) = procedure_fits p (slice_get procedures p) refl
  program_fits routine.Unserved = (tt, tt)
  program_fits routine.Nowhere = tt

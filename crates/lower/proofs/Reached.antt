-- Which routines main and an interrupt come to, and what stands in them.
use Rattle.std.proofs.Common.{◌≡◌, ℕ, zero, suc, ◌⊎◌, inl, inr, ⊎_elim, Bool, true, false, List, [], ◌∷◌, Option, Some, None, refl, slice_get, true≢false}
use Rattle.std.specs.Prelude.{Contains}
use Rattle.std.proofs.lemmas.List.Elements.{Contains-push}
use Rattle.word86.specs.Action.{Enable, Halt, Over}
use Rattle.plm_type.specs.Rest.{Statements, Procedure}
use Rattle.plm_type.specs.Next.{body_of}
use Rattle.plm_type.specs.Calls.{graph_of, statements_calls}
use Rattle.plm_type.specs.Reach.{Graph, row_of, Leads, LeadsBy}
use Rattle.icode.specs.declared.instruction.Instruction.{Instruction}
use Rattle.icode.specs.declared.instruction.Instruction.TheVariants as op
use Rattle.icode.specs.declared.code.Routine.{Routine}
use Rattle.icode.specs.declared.code.Routine.TheVariants as routine
use Rattle.icode.specs.declared.code.Word.{Word}
use Rattle.icode.specs.Code.{procedure_or_none}
use Rattle.icode.specs.Machine.{Context, At, does}
use Rattle.icode.specs.Runs.{Comes}
use Rattle.lower.specs.Expressions.{gives}
use Rattle.lower.specs.Lowering.{kind_of, serves, MayBeEntered, code}
use Rattle.lower.specs.Tracking.{IsProgram}
use Rattle.lower.proofs.Fitting.{Let, IsServing}
use Rattle.lower.proofs.Routines.{Calls, LetsIn, Ends, program_fits, invokes, enables, halts, finishes}
use Rattle.lower.proofs.Visits.{IsInside, comes_inside, over_meets, enable_meets, halt_meets}

-- one call more
one_more : (g : Graph) (n : ℕ) (called : List ℕ) (p q : ℕ) → LeadsBy g n called p → Contains (row_of (slice_get g p)) q → LeadsBy g (suc n) called q
one_more g zero called p q l c = (p, l, c)
one_more g (suc n) called p q l c = (l.0, l.1, one_more g n (row_of (slice_get g l.0)) p q l.2 c)

leads_more : (g : Graph) (called : List ℕ) (p q : ℕ) → Leads g called p → Contains (row_of (slice_get g p)) q → Leads g called q
leads_more g called p q l c = (suc l.0, one_more g l.0 called p q l.1 c)

module _ (sizes : List ℕ) (procedures : List Procedure) (vectors : List (Option ℕ)) (main : Statements) (good : IsProgram sizes procedures vectors main) where
  abbrev codes : Routine → List Instruction
  codes = code procedures vectors main

  calls_at : (r : Routine) (k q : ℕ) → slice_get (code procedures vectors main r) k ≡ Some (op.Invoke q) → Calls sizes procedures vectors main good r q
  calls_at r k q e = invokes (Calls sizes procedures vectors main good r) (LetsIn sizes procedures vectors main good r) (Ends sizes procedures vectors main good r) (code procedures vectors main r) (program_fits sizes procedures vectors main good r) k q e

  lets_enable : (r : Routine) (k : ℕ) → slice_get (code procedures vectors main r) k ≡ Some op.Enable → LetsIn sizes procedures vectors main good r
  lets_enable r k e = enables (Calls sizes procedures vectors main good r) (LetsIn sizes procedures vectors main good r) (Ends sizes procedures vectors main good r) (code procedures vectors main r) (program_fits sizes procedures vectors main good r) k e

  lets_halt : (r : Routine) (k : ℕ) → slice_get (code procedures vectors main r) k ≡ Some op.Halt → LetsIn sizes procedures vectors main good r
  lets_halt r k e = halts (Calls sizes procedures vectors main good r) (LetsIn sizes procedures vectors main good r) (Ends sizes procedures vectors main good r) (code procedures vectors main r) (program_fits sizes procedures vectors main good r) k e

  ends_at : (r : Routine) (k : ℕ) → slice_get (code procedures vectors main r) k ≡ Some op.Finish → Ends sizes procedures vectors main good r
  ends_at r k e = finishes (Calls sizes procedures vectors main good r) (LetsIn sizes procedures vectors main good r) (Ends sizes procedures vectors main good r) (code procedures vectors main r) (program_fits sizes procedures vectors main good r) k e

  -- what a routine calls serves no vector
  pub unserving : (r : Routine) (k q : ℕ) → slice_get (code procedures vectors main r) k ≡ Some (op.Invoke q) → serves vectors q ≡ false
  unserving routine.Main k q e = (calls_at routine.Main k q e).0
  unserving (routine.Procedure p) k q e = (calls_at (routine.Procedure p) k q e).0
  unserving routine.Unserved k q e = calls_at routine.Unserved k q e
  unserving routine.Nowhere k q e = calls_at routine.Nowhere k q e

  pub in_graph : (p k q : ℕ) → slice_get (code procedures vectors main (routine.Procedure p)) k ≡ Some (op.Invoke q) → Contains (row_of (slice_get (graph_of procedures) p)) q
  in_graph p k q e = (calls_at (routine.Procedure p) k q e).1

  pub in_main : (k q : ℕ) → slice_get (code procedures vectors main routine.Main) k ≡ Some (op.Invoke q) → Contains (statements_calls main) q
  in_main k q e = (calls_at routine.Main k q e).1

  -- ---- main

  -- a routine in which nothing is used up
  abbrev GoesOn : Routine → Type 0
  GoesOn routine.Main = Unit {0}
  GoesOn (routine.Procedure q) = serves vectors q ≡ false
  GoesOn routine.Unserved = ⊥
  GoesOn routine.Nowhere = Unit {0}

  serving_ends : (b g : Bool) → b ≡ false → IsServing (kind_of b g) → ⊥
  serving_ends true g e f = true≢false e
  serving_ends false true e f = f
  serving_ends false false e f = f

  goes_on : (r : Routine) (k : ℕ) → GoesOn r → slice_get (code procedures vectors main r) k ≡ Some op.Finish → ⊥
  goes_on routine.Main k g e = ends_at routine.Main k e
  goes_on (routine.Procedure q) k g e = serving_ends (serves vectors q) (gives (slice_get procedures q)) g (ends_at (routine.Procedure q) k e)
  goes_on routine.Unserved k g e = g
  goes_on routine.Nowhere k g e = ends_at routine.Nowhere k e

  module _ (offsets objects : List ℕ) where
    pub main_goes_on : (n a : ℕ) (c : Context) → Comes (does offsets objects (code procedures vectors main)) (At routine.Main 0 a []) n c → does offsets objects (code procedures vectors main) c ≡ Over → ⊥
    main_goes_on n a c comes over =
        let calls = λ (r : Routine) (k q : ℕ) (g : GoesOn r) (e : slice_get (code procedures vectors main r) k ≡ Some (op.Invoke q)). unserving r k q e in
        let inside = comes_inside GoesOn tt offsets objects (code procedures vectors main) calls (At routine.Main 0 a []) (tt, tt) n c comes in
        let m = over_meets GoesOn tt offsets objects (code procedures vectors main) calls c inside over in
        goes_on m.0 m.1 m.2 m.3

    -- ---- an interrupt

    -- the routine that was entered, or one in which nothing is used up
    abbrev OwnOr : Routine → Routine → Type 0
    OwnOr first r = (r ≡ first) ⊎ GoesOn r

    pub own_end : (first : Routine) (n a : ℕ) (r : Routine) (k b : ℕ) (ws : List Word)
        → Comes (does offsets objects (code procedures vectors main)) (At first 0 a []) n (At r k b ws) → slice_get (code procedures vectors main r) k ≡ Some op.Finish → r ≡ first
    own_end first n a r k b ws comes e =
        let calls = λ (r : Routine) (k q : ℕ) (g : OwnOr first r) (e : slice_get (code procedures vectors main r) k ≡ Some (op.Invoke q)). inr (unserving r k q e) in
        let inside = comes_inside (OwnOr first) (inr tt) offsets objects (code procedures vectors main) calls (At first 0 a []) (inl refl, tt) n (At r k b ws) comes in
        ⊎_elim (λ own. own) (λ g. absurd (goes_on r k g e)) inside.0

    -- in a graph that has the calls of all procedures, no procedure that serves a vector leads to ENABLE or HALT
    module _ (graph : Graph) (has : (p q : ℕ) → Contains (row_of (slice_get (graph_of procedures) p)) q → Contains (row_of (slice_get graph p)) q)
        (quiet : (p q : ℕ) → serves vectors p ≡ true → Leads graph (p ∷ []) q → Let (body_of (slice_get procedures q)) → ⊥) where
      -- what an interrupt comes to
      abbrev From : Option ℕ → Routine → Type 0
      From (Some p) (routine.Procedure q) = Leads graph (p ∷ []) q
      From (Some p) routine.Nowhere = Unit {0}
      From (Some p) routine.Main = ⊥
      From (Some p) routine.Unserved = ⊥
      From None (routine.Procedure q) = ⊥
      From None routine.Nowhere = Unit {0}
      From None routine.Main = ⊥
      From None routine.Unserved = Unit {0}

      no_call : (x : Instruction) (k q : ℕ) → slice_get (op.Finish ∷ []) k ≡ Some (op.Invoke q) → ⊥
      no_call x zero q e = cc
      no_call x (suc k) q e = cc

      from_calls : (o : Option ℕ) (r : Routine) (k q : ℕ) → From o r → slice_get (code procedures vectors main r) k ≡ Some (op.Invoke q) → From o (routine.Procedure q)
      from_calls (Some p) (routine.Procedure r) k q f e = leads_more graph (p ∷ []) r q f (has r q (in_graph r k q e))
      from_calls (Some p) routine.Nowhere k q f e = absurd cc
      from_calls (Some p) routine.Main k q f e = absurd f
      from_calls (Some p) routine.Unserved k q f e = absurd f
      from_calls None (routine.Procedure r) k q f e = absurd f
      from_calls None routine.Nowhere k q f e = cc
      from_calls None routine.Main k q f e = f
      from_calls None routine.Unserved k q f e = no_call op.Finish k q e

      from_nowhere : (o : Option ℕ) → From o routine.Nowhere
      from_nowhere (Some p) = tt
      from_nowhere None = tt

      from_first : (o : Option ℕ) → From o (procedure_or_none o)
      from_first (Some p) = (0, Contains-push [] p)
      from_first None = tt

      from_lets : (o : Option ℕ) (r : Routine) → MayBeEntered vectors o → From o r → LetsIn sizes procedures vectors main good r → ⊥
      from_lets (Some p) (routine.Procedure q) s f l = quiet p q (s p refl) f l
      from_lets (Some p) routine.Nowhere s f l = l
      from_lets (Some p) routine.Main s f l = f
      from_lets (Some p) routine.Unserved s f l = f
      from_lets None (routine.Procedure q) s f l = f
      from_lets None routine.Nowhere s f l = l
      from_lets None routine.Main s f l = f
      from_lets None routine.Unserved s f l = l

      module _ (o : Option ℕ) (may : MayBeEntered vectors o) (n a : ℕ) (c d : Context) (comes : Comes (does offsets objects (code procedures vectors main)) (At (procedure_or_none o) 0 a []) n c) where
        inside : IsInside (From o) (from_nowhere o) c
        inside =
            comes_inside (From o) (from_nowhere o) offsets objects (code procedures vectors main) (from_calls o) (At (procedure_or_none o) 0 a [])
            (from_first o, tt) n c comes

        pub none_enables : does offsets objects (code procedures vectors main) c ≡ Enable d → ⊥
        none_enables e =
            let m = enable_meets (From o) (from_nowhere o) offsets objects (code procedures vectors main) (from_calls o) c d inside e in
            from_lets o m.0 may m.2 (lets_enable m.0 m.1 m.3)

        pub none_halts : does offsets objects (code procedures vectors main) c ≡ Halt d → ⊥
        none_halts e =
            let m = halt_meets (From o) (from_nowhere o) offsets objects (code procedures vectors main) (from_calls o) c d inside e in
            from_lets o m.0 may m.2 (lets_halt m.0 m.1 m.3)

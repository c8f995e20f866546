-- The stack of a shallow program has room.
use Rattle.std.proofs.Common.{◌≡◌, ℕ, zero, suc, ◌+◌, ◌≤◌, Bool, true, false, List, [], ◌∷◌, length, slice_get, Option, Some, None, refl, sym, ap, ◌∙◌, subst, arith}
use Rattle.std.specs.Prelude.{◌&&◌, not, cond, is_some, option_map, Contains}
use Rattle.std.proofs.lemmas.Option.{slice_get-map, same_Some}
use Rattle.plm_decl.specs.declared.names.Names.{Names}
use Rattle.plm_decl.specs.Names.{ProcedureR}
use Rattle.plm_type.specs.Calls.{graph_of, statements_calls}
use Rattle.plm_type.specs.Interrupts.{serves_interrupt}
use Rattle.plm_type.specs.Programs.{declared_procedures, main_tree, procedures_of}
use Rattle.plm_type.specs.Reach.{Graph, row_of}
use Rattle.plm_decl.specs.Names.{is_external_linkage}
use Rattle.icode.specs.declared.instruction.Instruction.TheVariants.{Invoke}
use Rattle.icode.specs.declared.code.Position.{Position}
use Rattle.icode.specs.declared.code.Procedure as declared
use Rattle.icode.specs.declared.code.Routine.{Routine}
use Rattle.icode.specs.declared.code.Routine.TheVariants.{Main, Procedure, Unserved, Nowhere}
use Rattle.icode.specs.declared.code.Code.{Code}
use Rattle.icode.specs.Code.{code_of}
use Rattle.icode.specs.Counted.{IsPath, HasVector, IsHandler}
use Rattle.icode.specs.Heights.{height}
use Rattle.frames.specs.Counting.{IsPastRoom}
use Rattle.frames.specs.Limits.{IsLimited, SmallProgramsFit}
use Rattle.lower.specs.Checked.{IsSound}
use Rattle.lower.specs.Heights.{HeightLaw}
use Rattle.plm_decl.specs.Names.{vector_of}
use Rattle.lower.specs.Lowering.{IsLowered}
use Rattle.plm86.specs.Depth.{IsCallPath, IsShallow}

-- ---- interrupt procedures

-- a procedure with a vector in the code is one that serves an interrupt
serves : (o : Option declared.Procedure) (d : Option ProcedureR) → option_map (λ (p : declared.Procedure). p.vector) o ≡ option_map vector_of d → HasVector o → serves_interrupt d ≡ true
serves None d e h = absurd h
serves (Some p) None e h = absurd cc
serves (Some p) (Some d) e h = ap is_some (sym (same_Some p.vector (vector_of d) e) ∙ h.1)

-- ---- paths

module _ (names : Names) (c : Code) (lowered : IsLowered names c) (sound : IsSound names) where
  abbrev graph : Graph
  graph = graph_of (procedures_of names)

  -- what the tree of a routine calls
  abbrev called : Routine → List ℕ
  called Main = statements_calls (main_tree names)
  called (Procedure p) = row_of (slice_get graph p)
  called Unserved = []
  called Nowhere = []

  -- what its code calls is among that
  calls_are : (r : Routine) (k q : ℕ) → slice_get (code_of c r) k ≡ Some (Invoke q) → Contains (called r) q
  calls_are Main k q e = sound.main_calls q k (subst (λ xs. slice_get xs k ≡ Some (Invoke q)) (lowered.code_is Main) e)
  calls_are (Procedure p) k q e = sound.calls p q k (subst (λ xs. slice_get xs k ≡ Some (Invoke q)) (lowered.code_is (Procedure p)) e)
  calls_are Unserved zero q e = absurd cc
  calls_are Unserved (suc k) q e = absurd cc
  calls_are Nowhere k q e = absurd cc

  -- a path of calls in the code is one in the trees, before a path that goes on from where it leads
  in_trees : (begin : Routine) (ps : List Position) (r : Routine) → IsPath (code_of c) begin ps r → (path : List ℕ) → IsCallPath graph (called r) path
      → (all : List ℕ) × IsCallPath graph (called begin) all × (length all ≡ length ps + length path)
  in_trees begin [] r e path goes = (path, subst (λ x. IsCallPath graph (called x) path) (sym e) goes, omega arith)
  in_trees begin (p ∷ ps) r along path goes =
      let q = along.0.0 in
      let there = subst (λ x. IsCallPath graph (called x) path) (sym along.0.2) goes in
      let more = in_trees begin ps p.routine along.1 (q ∷ path) (calls_are p.routine p.index q along.0.1, there) in
      let e = more.2 in
      (more.0, more.1, omega (arith, e))

  -- what calls nothing has no path but the empty one
  none_called : (path : List ℕ) → IsCallPath graph [] path → length path ≤ 0
  none_called [] goes = omega arith
  none_called (p ∷ path) goes = let lt = goes.0.1 in absurd (omega (arith, lt))

  module _ (shallow : IsShallow names) where
    -- no path of calls in the code has more of them
    main_paths : (ps : List Position) (r : Routine) → IsPath (code_of c) Main ps r → length ps ≤ shallow.main
    main_paths ps r along =
        let t = in_trees Main ps r along [] tt in
        let e = t.2 in
        let few = shallow.from_main t.0 t.1 in
        omega (arith, e, few)

    serving_is : (q : ℕ) → HasVector (slice_get c.procedures.items q) → serves_interrupt (slice_get (declared_procedures names) q) ≡ true
    serving_is q h =
        serves (slice_get c.procedures.items q) (slice_get (declared_procedures names) q)
        (sym (slice_get-map (λ (p : declared.Procedure). p.vector) c.procedures.items q) ∙ (ap (λ vs. slice_get vs q) lowered.vectors_are ∙ slice_get-map vector_of (declared_procedures names) q)) h

    interrupt_paths : (begin : Routine) → IsHandler c begin → (ps : List Position) (r : Routine) → IsPath (code_of c) begin ps r → length ps ≤ shallow.interrupt
    interrupt_paths Main h ps r along = absurd h
    interrupt_paths (Procedure q) h ps r along =
        let t = in_trees (Procedure q) ps r along [] tt in
        let e = t.2 in
        let few = shallow.from_interrupt q t.0 (serving_is q h) t.1 in
        omega (arith, e, few)
    interrupt_paths Unserved h ps r along =
        let t = in_trees Unserved ps r along [] tt in
        let e = t.2 in
        let few = none_called t.0 t.1 in
        omega (arith, e, few)
    interrupt_paths Nowhere h ps r along = absurd h

pub small_stack_fits : (names : Names) (c : Code) → IsLowered names c → IsSound names → HeightLaw → SmallProgramsFit → IsShallow names → IsPastRoom c → ⊥
small_stack_fits names c lowered sound heights fits shallow past =
    let limited : IsLimited c 193 shallow.main shallow.interrupt = record {
      low = λ r k.
          let same = ap (λ xs. height xs k) (lowered.code_is r) in
          let low = heights names r k in
          let small = shallow.small in
          omega (arith, same, low, small);
      from_main = main_paths names c lowered sound shallow;
      from_interrupt = interrupt_paths names c lowered sound shallow;
    } in
    fits c shallow.main shallow.interrupt limited shallow.few past

-- The runs of a checked program's code are allowed.
use Rattle.std.proofs.Common.{◌≡◌, ℕ, zero, suc, Bool, true, false, List, [], ◌∷◌, ◌++◌, Option, Some, None, refl, slice_get}
use Rattle.std.specs.Prelude.{cond, is_some, Contains, map}
use Rattle.lower.proofs.Faultless.{none_of_both}
use Rattle.plm_decl.specs.declared.names.Variable.{Variable}
use Rattle.plm_decl.specs.Names.{ProcedureR, declared_location_of}
use Rattle.plm_decl.specs.Placement.{sizes_of}
use Rattle.plm_type.specs.declared.statements.Around.TheVariants as stands
use Rattle.plm_type.specs.Rest.{Procedure, End}
use Rattle.plm_type.specs.Next.{body_of}
use Rattle.plm_type.specs.Calls.{graph_of, statements_calls}
use Rattle.plm_type.specs.Effects.{of_statements}
use Rattle.plm_type.specs.Interrupts.{called, lets_in, body_effects, text_graph, procedure_lets_in, serves_interrupt}
use Rattle.plm_type.specs.Reach.{row_of, Leads}
use Rattle.plm_type.specs.Statements.{of_locations, of_stray, of_entry}
use Rattle.plm_decl.specs.Names.{is_external_linkage}
use Rattle.lower.proofs.Typed.{statements_for, of_body, of_procedure, of_procedures, of_main, of_parameters, body_for, procedure_for}
use Rattle.lower.proofs.Typed as typed
use Rattle.plm_type.specs.Programs.{declared_procedures, main_tree, procedures_of, handler_number}
use Rattle.lower.specs.Lowering.{has_vector, serves, vectors_of}
use Rattle.plm_decl.specs.Names.{vector_of}
use Rattle.lower.specs.Runs.{RunsLaw}
use Rattle.lower.proofs.Fitting.{Let}
use Rattle.lower.proofs.Reached.{main_goes_on, own_end, none_enables, none_halts}
use Rattle.lower.proofs.Texts.{Within, statements_within, statements_let}
use Rattle.icode.specs.Code.{procedure_or_none}
use Rattle.lower.proofs.Handlers.{handler_serves}

-- ---- a procedure

module _ (variables : List Variable) (ps : List ProcedureR) (sizes : List ℕ) where
  external_within : (external : Bool) (p : ProcedureR) → cond external [] (typed.of_statements variables ps sizes p.module (stands.Procedure p.returned) p.body) ≡ []
      → Within ps (statements_calls (cond external End (statements_for variables ps sizes p.module (stands.Procedure p.returned) p.body))) (cond external [] (of_statements p.body))
  external_within true p h = λ q c. c
  external_within false p h = statements_within ps variables sizes p.module (stands.Procedure p.returned) p.body h

  external_lets : (external : Bool) (p : ProcedureR) → Let (cond external End (statements_for variables ps sizes p.module (stands.Procedure p.returned) p.body)) → lets_in (cond external [] (of_statements p.body)) ≡ true
  external_lets true p l = absurd l
  external_lets false p l = statements_let variables ps sizes p.module (stands.Procedure p.returned) p.body l

  body_faultless : (p : ProcedureR) → of_procedure variables ps sizes p ≡ [] → of_body variables ps sizes p ≡ []
  body_faultless p h =
      let behind = of_stray p.module p.stray ++ of_body variables ps sizes p in
      (none_of_both (of_stray p.module p.stray) (of_body variables ps sizes p)
      (none_of_both (of_entry ps p) behind
      (none_of_both _ (of_entry ps p ++ behind) (none_of_both (of_parameters variables (is_external_linkage p.linkage) p.module p.parameters) _ h).1).1).1).1

  -- the rows of the typed trees are among those of the texts
  row_within : (qs : List ProcedureR) → of_procedures variables ps sizes qs ≡ [] → (p q : ℕ) → Contains (row_of (slice_get (map (λ (y : Procedure). statements_calls y.body) (map (procedure_for variables ps sizes) qs)) p)) q
      → Contains (row_of (slice_get (map (λ (y : ProcedureR). called ps (body_effects y)) qs) p)) q
  row_within [] h p q c = c
  row_within (y ∷ qs) h zero q c = external_within (is_external_linkage y.linkage) y (body_faultless y (none_of_both (of_procedure variables ps sizes y) (of_procedures variables ps sizes qs) h).0) q c
  row_within (y ∷ qs) h (suc p) q c = row_within qs (none_of_both (of_procedure variables ps sizes y) (of_procedures variables ps sizes qs) h).1 p q c

  body_lets : (qs : List ProcedureR) (q : ℕ) → Let (body_of (slice_get (map (procedure_for variables ps sizes) qs) q)) → procedure_lets_in (slice_get qs q) ≡ true
  body_lets [] q l = absurd l
  body_lets (y ∷ qs) zero l = external_lets (is_external_linkage y.linkage) y l
  body_lets (y ∷ qs) (suc q) l = body_lets qs q l

-- what serves a vector serves an interrupt
vector_serves : (vector : Option ℕ) → has_vector (Some vector) ≡ true → is_some vector ≡ true
vector_serves None e = cc
vector_serves (Some v) e = refl

serves_one : (qs : List ProcedureR) (p : ℕ) → serves (map vector_of qs) p ≡ true → serves_interrupt (slice_get qs p) ≡ true
serves_one [] p e = cc
serves_one (y ∷ qs) zero e = vector_serves (vector_of y) e
serves_one (y ∷ qs) (suc p) e = serves_one qs p e

pub runs_allowed : RunsLaw
runs_allowed program names checked good =
    let sizes = sizes_of names in
    let variables = names.variables.items in
    let ps = declared_procedures names in
    let procedures = procedures_of names in
    let vectors = vectors_of names in
    let main = main_tree names in
    let faultless = (none_of_both (of_procedures variables ps sizes ps) _ (none_of_both (of_locations variables ps sizes (map declared_location_of names.locations.items)) _ checked.no_fault).1).0 in
    let has : (p q : ℕ) → Contains (row_of (slice_get (graph_of procedures) p)) q → Contains (row_of (slice_get (text_graph ps) p)) q = λ p q c. row_within variables ps sizes ps faultless p q c in
    let quiet : (p q : ℕ) → serves vectors p ≡ true → Leads (text_graph ps) (p ∷ []) q → Let (body_of (slice_get procedures q)) → ⊥ = λ p q s l b. checked.lets_nothing_in p (serves_one ps p s, (q, l, body_lets variables ps sizes ps q b)) in
    record {
      main_goes_on = λ offsets objects n a c comes over. main_goes_on sizes procedures vectors main good offsets objects n a c comes over;
      none_enables = λ offsets objects v n a c d comes e. none_enables sizes procedures vectors main good offsets objects (text_graph ps) has quiet (handler_number names v) (handler_serves names v) n a c d comes e;
      none_halts = λ offsets objects v n a c d comes e. none_halts sizes procedures vectors main good offsets objects (text_graph ps) has quiet (handler_number names v) (handler_serves names v) n a c d comes e;
      own_end = λ offsets objects v n a r k b ws comes e. own_end sizes procedures vectors main good offsets objects (procedure_or_none (handler_number names v)) n a r k b ws comes e;
    }

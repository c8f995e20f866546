-- The code of a program's procedures takes at most 23 bytes a node.
use Rattle.std.proofs.Common.{◌≡◌, ℕ, zero, suc, ◌+◌, ◌*◌, ◌≤◌, Bool, true, false, List, [], ◌∷◌, ◌++◌, length, Option, Some, None, map, refl, ap, ◌∙◌, subst, arith, slice_get}
use Rattle.std.specs.Prelude.{cond, option_map}
use Rattle.std.proofs.lemmas.Option.{slice_get-map, none-some}
use Rattle.lower.proofs.Faultless.{none_of_both}
use Rattle.plm_decl.specs.declared.found.Found.{Found}
use Rattle.plm_decl.specs.declared.names.Variable.{Variable}
use Rattle.plm_decl.specs.Names.{ProcedureR, MainR}
use Rattle.plm_type.specs.declared.statements.Around.TheVariants as stands
use Rattle.plm_type.specs.Rest.{Statements, End, Procedure}
use Rattle.plm_type.specs.Faults.{fault_unless}
use Rattle.plm_type.specs.Statements.{of_stray, interrupt_fits, of_locations, of_entry}
use Rattle.plm_decl.specs.Names.{is_external_linkage}
use Rattle.plm_type.specs.Nodes.{statements_nodes, procedures_nodes}
use Rattle.word86.specs.declared.number.Number.TheVariants.{E401}
use Rattle.icode.specs.declared.code.Routine.TheVariants as routine
use Rattle.icode.specs.Room.{room_in}
use Rattle.lower.proofs.Typed.{statements_for, of_statements, of_parameters, of_body, of_procedure, of_procedures, of_main, body_for, procedure_for, main_for}
use Rattle.lower.specs.Expressions.{are_giving}
use Rattle.lower.specs.Statements.{OfMain, routine_code}
use Rattle.lower.specs.Lowering.{kind_of, serves, procedure_code, code, vectors_of, program_code}
use Rattle.lower.specs.Well.{AreStatements}
use Rattle.plm_decl.specs.declared.names.Names.{Names}
use Rattle.plm_decl.specs.Names.{declared_location_of, main_of}
use Rattle.plm_decl.specs.Placement.{sizes_of}
use Rattle.plm_type.specs.declared.checked.Program.{Program}
use Rattle.plm_type.specs.Checked.{AreTyped}
use Rattle.plm_type.specs.Programs.{declared_procedures, main_tree}
use Rattle.lower.specs.Checked.{IsWellFormed}
use Rattle.lower.specs.Room.{procedures_room, HasRoom}
use Rattle.lower.proofs.Rooms as typed
use Rattle.lower.proofs.Counts.{statements_count}

-- ---- sums

abbrev pub sum_below : (ℕ → ℕ) → ℕ → ℕ
sum_below f zero = 0
sum_below f (suc q) = sum_below f q + f q

first_apart : (f : ℕ → ℕ) (n : ℕ) → sum_below f (suc n) ≡ f 0 + sum_below (λ q. f (suc q)) n
first_apart f zero = omega arith
first_apart f (suc n) = let h = first_apart f n in omega (arith, h)

pub sum_fits : (f : ℕ → ℕ) (ps : List ProcedureR) → ((q : ℕ) (p : ProcedureR) → slice_get ps q ≡ Some p → f q + 12 ≤ 23 * (1 + statements_nodes p.body))
    → sum_below f (length ps) + 12 * length ps ≤ 23 * procedures_nodes ps
sum_fits f [] each = omega arith
sum_fits f (p ∷ ps) each =
    let g : ℕ → ℕ = λ q. f (suc q) in
    let h = first_apart f (length ps) in
    let i = each 0 p refl in
    let j = sum_fits g ps (λ q r got. each (suc q) r got) in
    omega (arith, h, i, j)

-- ---- a program

module _ (variables : List Variable) (declared : List ProcedureR) (sizes : List ℕ) where
  abbrev body_faults : ProcedureR → List Found
  body_faults p = of_body variables declared sizes p

  no_fault_in : (ps : List ProcedureR) (q : ℕ) (p : ProcedureR) → of_procedures variables declared sizes ps ≡ [] → slice_get ps q ≡ Some p → body_faults p ≡ []
  no_fault_in [] q p none got = absurd (none-some p got)
  no_fault_in (r ∷ ps) zero p none got =
      let behind = of_stray r.module r.stray ++ body_faults r in
      let fits = fault_unless r.module (interrupt_fits r.interrupt) E401 r.place in
      let own = (none_of_both (of_procedure variables declared sizes r) (of_procedures variables declared sizes ps) none).0 in
      let after_parameters = (none_of_both (of_parameters variables (is_external_linkage r.linkage) r.module r.parameters) (fits ++ (of_entry declared r ++ behind)) own).1 in
      let after_fits = (none_of_both fits (of_entry declared r ++ behind) after_parameters).1 in
      let here : body_faults r ≡ [] = (none_of_both (of_stray r.module r.stray) (body_faults r) (none_of_both (of_entry declared r) behind after_fits).1).1 in
      subst (λ x. body_faults x ≡ []) (ap (λ (o : Option ProcedureR). elim o [ None ↦ r | Some x ↦ x ]) got) here
  no_fault_in (r ∷ ps) (suc q) p none got = no_fault_in ps q p (none_of_both (of_procedure variables declared sizes r) (of_procedures variables declared sizes ps) none).1 got

  body_count : (p : ProcedureR) → body_faults p ≡ [] → typed.statements_nodes (body_for variables declared sizes p) ≤ statements_nodes p.body
  body_count p = cases (is_external_linkage p.linkage)
    where
      cases : (b : Bool) → cond b [] (of_statements variables declared sizes p.module (stands.Procedure p.returned) p.body) ≡ []
          → typed.statements_nodes (cond b End (statements_for variables declared sizes p.module (stands.Procedure p.returned) p.body)) ≤ statements_nodes p.body
      cases true none = omega arith
      cases false none = statements_count variables declared sizes p.module (stands.Procedure p.returned) p.body none

  abbrev procs : List Procedure
  procs = map (procedure_for variables declared sizes) declared

  module _ (MayCall : ℕ → Type 0) (vectors : List (Option ℕ)) (main : Statements)
      (bodies : (q : ℕ) (procedure : Procedure) → slice_get procs q ≡ Some procedure → AreStatements sizes procs MayCall (kind_of (serves vectors q) (are_giving procedure.body)) procedure.body)
      (none : of_procedures variables declared sizes declared ≡ []) where
    procedure_fits : (q : ℕ) (p : ProcedureR) → slice_get declared q ≡ Some p → room_in (code procs vectors main (routine.Procedure q)) + 12 ≤ 23 * (1 + statements_nodes p.body)
    procedure_fits q p got =
        let body = body_for variables declared sizes p in
        let there : slice_get procs q ≡ Some (procedure_for variables declared sizes p) = slice_get-map (procedure_for variables declared sizes) declared q ∙ ap (option_map (procedure_for variables declared sizes)) got in
        let same : room_in (code procs vectors main (routine.Procedure q)) ≡ room_in (routine_code procs (kind_of (serves vectors q) (are_giving body)) body) = ap (λ o. room_in (procedure_code procs (serves vectors q) o)) there in
        let h = typed.body_room sizes procs MayCall (kind_of (serves vectors q) (are_giving body)) body (bodies q (procedure_for variables declared sizes p) there) in
        let i = body_count p (no_fault_in declared q p none got) in
        omega (arith, same, h, i)

    pub procedures_fit : sum_below (λ q. room_in (code procs vectors main (routine.Procedure q))) (length declared) + 12 * length declared ≤ 23 * procedures_nodes declared
    procedures_fit = sum_fits (λ q. room_in (code procs vectors main (routine.Procedure q))) declared procedure_fits

  pub main_fits : (MayCall : ℕ → Type 0) (vectors : List (Option ℕ)) (m : MainR) → of_main variables declared sizes m ≡ []
      → AreStatements sizes procs MayCall OfMain (main_for variables declared sizes m) → room_in (code procs vectors (main_for variables declared sizes m) routine.Main) ≤ 23 * statements_nodes m.statements + 5
  main_fits MayCall vectors m none is =
      let h = typed.main_room sizes procs MayCall (main_for variables declared sizes m) is in
      let i = statements_count variables declared sizes m.module stands.Main m.statements none in
      omega (arith, h, i)

-- ---- checked programs

room_is_sum : (names : Names) (n : ℕ) → procedures_room names n ≡ sum_below (λ q. room_in (program_code names (routine.Procedure q))) n
room_is_sum names zero = refl
room_is_sum names (suc n) = ap (λ m. m + room_in (program_code names (routine.Procedure n))) (room_is_sum names n)

pub programs_fit : (program : Program) (names : Names) → AreTyped program names → IsWellFormed names → HasRoom names
programs_fit program names checked well =
    let variables = names.variables.items in
    let declared = declared_procedures names in
    let sizes = sizes_of names in
    let vectors = vectors_of names in
    let MayCall : ℕ → Type 0 = λ p. serves vectors p ≡ false in
    let both = (none_of_both (of_locations variables declared sizes (map declared_location_of names.locations.items)) (of_procedures variables declared sizes declared ++ of_main variables declared sizes (main_of names.main)) checked.no_fault).1 in
    let of_each = (none_of_both (of_procedures variables declared sizes declared) (of_main variables declared sizes (main_of names.main)) both).0 in
    let of_last = (none_of_both (of_procedures variables declared sizes declared) (of_main variables declared sizes (main_of names.main)) both).1 in
    let sum = room_is_sum names (length declared) in
    let h = procedures_fit variables declared sizes MayCall vectors (main_tree names) well.bodies of_each in
    record { main = main_fits variables declared sizes MayCall vectors (main_of names.main) of_last well.main_body; procedures = omega (arith, sum, h) }

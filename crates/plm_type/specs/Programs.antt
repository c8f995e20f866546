-- What the names of a program say: the faults of its types, its trees, and what its contexts have to do at first.
use Rattle.std.specs.Prelude.{ℕ, List, ◌++◌, map, position, slice_get, Option}
use Rattle.std.specs.Option.{option_map_or}
use Rattle.plm_decl.specs.declared.names.Names.{Names}
use Rattle.plm_decl.specs.declared.found.Found.{Found}
use Rattle.plm_decl.specs.Names.{ProcedureR, handles, procedure_of, declared_location_of, main_of}
use Rattle.plm_decl.specs.Placement.{sizes_of}
use Rattle.plm_type.specs.Rest.{Rest, Main, Handler, Statements, End, Procedure}
use Rattle.plm_type.specs.Next.{body_of}
use Rattle.plm_type.specs.Statements.{of_locations, typed_procedures, typed_main}

abbrev pub declared_procedures : Names → List ProcedureR
declared_procedures names = map procedure_of names.procedures.items

-- the number of the procedure that an interrupt of this vector enters: the first one that serves it, and without E309 the only one
abbrev pub handler_number : Names → (vector : ℕ) → Option ℕ
handler_number names vector = position (handles vector) (declared_procedures names)

-- without a procedure nothing is done
abbrev pub body_for : List Procedure → Option ℕ → Statements
body_for procedures o = option_map_or (λ q. body_of (slice_get procedures q)) o End

module _ (names : Names) where
  abbrev pub faults : List Found
  faults =
      of_locations names.variables.items (declared_procedures names) (sizes_of names) (map declared_location_of names.locations.items)
      ++ ((typed_procedures names.variables.items (declared_procedures names) (sizes_of names) (declared_procedures names)).faults
      ++ (typed_main names.variables.items (declared_procedures names) (sizes_of names) (main_of names.main)).faults)

  abbrev pub main_tree : Statements
  main_tree = (typed_main names.variables.items (declared_procedures names) (sizes_of names) (main_of names.main)).tree

  abbrev pub procedures_of : List Procedure
  procedures_of = (typed_procedures names.variables.items (declared_procedures names) (sizes_of names) (declared_procedures names)).tree

  abbrev pub handler_tree : (vector : ℕ) → Statements
  handler_tree vector = body_for procedures_of (handler_number names vector)

  abbrev pub main_rest : Rest
  main_rest = Main main_tree

  abbrev pub handler_rest : (vector : ℕ) → Rest
  handler_rest vector = Handler (handler_tree vector)

-- What `check` makes of names: a program without fault, their trees, no interrupt procedure that reaches ENABLE or HALT or is called,
-- typed or with parameters, and no procedure that reaches itself, so that there is an order of them in which each stands after those
-- that it calls.
use Rattle.std.specs.Prelude.{◌≡◌, ℕ, [], map}
use Rattle.plm_decl.specs.declared.names.Names.{Names}
use Rattle.plm_type.specs.declared.checked.Program.{Program}
use Rattle.plm_type.specs.Programs.{faults, declared_procedures, main_tree, procedures_of}
use Rattle.plm_type.specs.Calls.{graph_of, IsRecursive}
use Rattle.plm_type.specs.Interrupts.{LetsIn, IsMisused}
use Rattle.plm_type.specs.Order.{IsOrder}
use Rattle.plm_type.specs.View as view

pub record AreTyped (program : Program) (names : Names) : Type 0 where
  pub kept : program.names ≡ names
  pub main : view.statements_of program.main.items ≡ main_tree names
  pub procedures : map view.procedure_of program.procedures.items ≡ procedures_of names
  pub no_fault : faults names ≡ []
  pub lets_nothing_in : (p : ℕ) → ¬ LetsIn (declared_procedures names) p
  pub none_misused : (p : ℕ) → ¬ IsMisused names p
  pub no_recursion : (p : ℕ) → ¬ IsRecursive (procedures_of names) p
  pub order : IsOrder program.order.items (graph_of (procedures_of names))

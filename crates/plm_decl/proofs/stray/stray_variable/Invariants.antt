use Rattle.std.proofs.Common.{◌≡◌, map, drop}
use Rattle.plm_syntax.specs.View.{name_of, variable_of}
use Rattle.plm_decl.specs.Stray.{stray_variable}
use Rattle.plm_decl.proofs.stray.stray_variable.Given as goal

abbrev pub invariant-loop-variable : goal.invariant-loop-variable
invariant-loop-variable l = stray_variable (map name_of l.parameters.names.now) (map variable_of (drop l.variable-index l.variables)) ≡ stray_variable (map name_of l.parameters.names.now) (map variable_of l.variables)

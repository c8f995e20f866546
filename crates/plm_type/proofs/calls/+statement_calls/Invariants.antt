use Rattle.std.proofs.Common.{◌≡◌, ◌++◌, drop}
use Rattle.plm_type.specs.Calls as spec
use Rattle.plm_type.specs.View as view
use Rattle.plm_type.proofs.calls.+statement_calls.Given as goal

abbrev pub invariant-add_statements-loop-statement : goal.invariant-add_statements-loop-statement
invariant-add_statements-loop-statement l = l.called.items ++ spec.statements_calls (view.statements_of (drop l.statement-index l.statements)) ≡ l.initial.called.items ++ spec.statements_calls (view.statements_of l.statements)

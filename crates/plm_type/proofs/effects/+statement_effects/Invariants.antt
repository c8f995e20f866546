use Rattle.std.proofs.Common.{◌≡◌, ◌++◌, drop}
use Rattle.plm_decl.specs.ResolvedView as resolved
use Rattle.plm_type.specs.Effects as spec
use Rattle.plm_type.proofs.effects.+statement_effects.Given as goal

abbrev pub invariant-add_statements-loop-statement : goal.invariant-add_statements-loop-statement
invariant-add_statements-loop-statement l = l.effects.items ++ spec.of_statements (resolved.statements_of (drop l.statement-index l.statements)) ≡ l.initial.effects.items ++ spec.of_statements (resolved.statements_of l.statements)

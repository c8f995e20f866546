use Rattle.std.proofs.Common.{◌≡◌, drop}
use Rattle.plm_decl.specs.ResolvedView as resolved
use Rattle.plm_type.specs.Inner.Typer.{noted_after, statements_by}
use Rattle.plm_type.proofs.Lists.{noted_before}
use Rattle.plm_type.proofs.typer.Typer.+statement.Given as goal

abbrev pub invariant-statements-loop-statement : goal.invariant-statements-loop-statement
invariant-statements-loop-statement l =
    let left = resolved.statements_of (drop l.statement-index l.statements) in
    noted_before l.typed.items l.faults.items (statements_by l.self l.around left) ≡ noted_after l.initial.faults.items (statements_by l.self l.around (resolved.statements_of l.statements))

use Rattle.std.proofs.Common.{refl}
use Rattle.plm_decl.specs.ResolvedView as resolved
use Rattle.plm_type.specs.Inner.Typer.{typed_by}
use Rattle.plm_type.proofs.Said.{typed_moved, wanted_after}
use Rattle.plm_type.proofs.typer.Typer.value_for.Goals as goal

pub returns : goal.returns
returns c =
    let e = typed_by c.args.self.now (resolved.expression_of c.args.e.now) in
    typed_moved c.wanted.result c.wanted.new.faults.items (wanted_after c.args.self.now.module c.args.scalar c.args.faults.now.items e _ _ c.in_ok-typed.ensures refl) c.wanted.ensures

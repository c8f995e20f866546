use Rattle.std.proofs.Common.{sym, ap}
use Rattle.plm_decl.specs.Resolved.{ReferencesR}
use Rattle.plm_decl.specs.ResolvedView as resolved
use Rattle.plm_type.specs.Inner.Typer.{noted_after, assignment_by}
use Rattle.plm_type.specs.View as view
use Rattle.plm_type.proofs.Lists.{one_is}
use Rattle.plm_type.proofs.Said.{noted_moved}
use Rattle.plm_type.proofs.typer.Typer.assign.Goals as goal

pub returns-in-len1 : goal.returns-in-len1
returns-in-len1 c =
    let self = c.args.self.now in
    let e = resolved.expression_of c.args.e.now in
    let is = sym (ap resolved.references_of (one_is c.args.references.now c.reference-item.result c.in-len1.len_at_least c.in-len1.len_below c.reference-item.is)) in
    noted_moved view.statement_of c.assign_one.result c.assign_one.new.faults.items (ap (λ (xs : ReferencesR). noted_after c.args.faults.now.items (assignment_by self xs e)) is) c.assign_one.ensures

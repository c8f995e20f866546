use Rattle.std.proofs.Common.{◌++◌, append_assoc, ap, ◌∙◌}
use Rattle.word86.specs.declared.number.Number.TheVariants.{E401}
use Rattle.plm_decl.specs.ResolvedView as resolved
use Rattle.plm_type.specs.Faults.{fault_unless, builtin_faults}
use Rattle.plm_type.proofs.Said.{done_moved}
use Rattle.plm_type.proofs.typer.Typer.note_port.Goals as goal

pub returns : goal.returns
returns c =
    let m = c.args.self.now.module in
    let p = c.args.place in
    let old = c.args.faults.now.items in
    let others = builtin_faults m p c.args.builtin (resolved.selector_of c.args.selector.now) c.args.types.now in
    let noted = c.in_ok-note_unless.ensures ∙ ap (λ b. old ++ fault_unless m b E401 p) c.is_target.ensures in
    done_moved c.note_builtin.result c.note_builtin.new.faults.items ((λ j. noted j ++ others) ∙ append_assoc old _ others) c.note_builtin.ensures

use Rattle.std.proofs.Common.{◌++◌, is_some, option_map, append_assoc, ap, ◌∙◌}
use Rattle.word86.specs.declared.number.Number.TheVariants.{E401}
use Rattle.plm_decl.specs.Names.{procedure_of}
use Rattle.plm_decl.specs.ResolvedView as resolved
use Rattle.plm_type.specs.Faults.{fault_unless, call_faults}
use Rattle.plm_type.specs.Inner.Typer.{variables}
use Rattle.plm_type.proofs.Said.{done_moved}
use Rattle.plm_type.proofs.typer.Typer.note_called.Goals as goal

pub returns : goal.returns
returns c =
    let m = c.args.self.now.module in
    let p = c.args.place in
    let q = option_map (λ p. procedure_of p.now) c.args.procedure in
    let call = call_faults (variables c.args.self.now) m p q (resolved.selector_of c.args.selector.now) c.args.types.now in
    let is_typed = c.is_some-is_typed.ensures ∙ ap is_some c.returned_type.ensures in
    let path = (λ j. c.in_ok-note_call.ensures j ++ fault_unless m (is_typed j) E401 p) ∙ append_assoc c.args.faults.now.items call _ in
    done_moved c.note_unless.result c.note_unless.new.faults.items path c.note_unless.ensures

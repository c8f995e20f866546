use Rattle.std.proofs.Common.{ap, sym, slice_get, ◌∙◌}
use Rattle.plm_type.specs.Next.{body_of}
use Rattle.plm_type.specs.Programs.{procedures_of, body_for}
use Rattle.plm_type.specs.View as view
use Rattle.plm_type.proofs.checked.Program.handler.Goals as goal

pub returns-in-Some : goal.returns-in-Some
returns-in-Some c =
    let self = c.args.self.now in
    let q = c.in-Some.number in
    c.body_at.ensures
    ∙ (λ j. body_of (slice_get (view.procedures_of (c.deref.ensures.value j)) q))
    ∙ (λ j. body_of (slice_get (self.procedures_are j) q))
    ∙ ap (body_for (procedures_of self.names)) (sym c.in-Some.is ∙ c.handler_number.ensures)

use Rattle.std.proofs.Common.{sym, ap, ◌∙◌, [], ◌∷◌, ◌++◌, arith}
use Rattle.plm_type.specs.Rest.{End}
use Rattle.plm_meaning.specs.declared.context.Frame.TheVariants as frame
use Rattle.plm_meaning.specs.Context.{ToRun, to_run_in}
use Rattle.plm_meaning.proofs.Given.{no_statements}
use Rattle.plm_meaning.proofs.Plug.{to_run_last}
use Rattle.plm_meaning.proofs.settle.at_end.Goals as goal

pub loop-frame-preserved : goal.loop-frame-preserved
loop-frame-preserved c =
    let fs = c.pop.new.self.items in
    record {
      rest =
          ap (λ ss. to_run_in fs (ToRun ss)) (sym (no_statements c.in-Behind.after.now c.in-None.ensures.cases))
          ∙ sym (to_run_last fs (frame.Behind c.in-Behind.after) (ToRun End))
          ∙ ap (λ g. to_run_in (fs ++ g ∷ []) (ToRun End)) (sym c.in-Behind.is)
          ∙ ap (λ l. to_run_in l (ToRun End)) (sym c.in-Some.ensures.items)
          ∙ c.loop-frame.invariant.rest;
      room = omega (arith, c.loop-frame.invariant.room, c.in-Some.ensures.cases, c.pop.ensures.capacity);
    }

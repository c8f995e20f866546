use Rattle.std.proofs.Common.{◌∷◌, Some, None, refl, ◌∙◌}
use Rattle.plm_syntax.specs.Tree.{no_linkage}
use Rattle.plm_syntax.specs.View.{number_of}
use Rattle.plm_syntax.specs.Inner.Symbol.{Want, Do, HeaderR, InterruptG, InterruptNumberG}
use Rattle.plm_syntax.specs.Inner.Machine.{set_interrupt}
use Rattle.plm_syntax.specs.Inner.Parsed.{next_of}
use Rattle.plm_syntax.specs.Inner.Blocks.{read_interrupt}
use Rattle.plm_syntax.proofs.Along.{quiet, taken, refused, failed, refusal}
use Rattle.plm_syntax.proofs.NextBlock.{interrupt_refused, no_interrupt_there}
use Rattle.plm_syntax.proofs.statement.interrupt.Goals as goal

pub returns-in_default-clause-leads : goal.returns-in_default-clause-leads
returns-in_default-clause-leads c = λ n ps t s v. no_interrupt_there c.args.cursor s (HeaderR n ps t None no_linkage ∷ v) c.in_default.ensures

pub returns-in_err-number-clause-leads : goal.returns-in_err-number-clause-leads
returns-in_err-number-clause-leads c = λ n ps t s v. failed (read_interrupt n ps t) s v c.from_residual.result c.in_err-number.field-0.0 c.from_residual.ensures.1
    (taken (Want InterruptG ∷ s) (HeaderR n ps t None no_linkage ∷ v) c.in-Some.ensures
    ∙ refused InterruptNumberG c.in-Some.after s (HeaderR n ps t None no_linkage ∷ v) (interrupt_refused (next_of c.in-Some.after) c.in_err-number.ensures.0))
    (refusal c.in_err-number.field-0.0 c.in-Some.after c.in_err-number.ensures.1 refl)

pub returns-clause-leads : goal.returns-clause-leads
returns-clause-leads c = λ n ps t s v. taken (Want InterruptG ∷ s) (HeaderR n ps t None no_linkage ∷ v) c.in-Some.ensures
    ∙ taken (Want InterruptNumberG ∷ s) (HeaderR n ps t None no_linkage ∷ v) c.in_ok-number.ensures
    ∙ quiet c.in_ok-number.rest (Do (set_interrupt (number_of c.in_ok-number.number)) ∷ s) s (HeaderR n ps t None no_linkage ∷ v) (HeaderR n ps t (Some (number_of c.in_ok-number.number)) no_linkage ∷ v) (λ t q. refl)

use Rattle.std.proofs.Common.{◌∷◌, refl, ◌∙◌}
use Rattle.plm_token.specs.declared.token.Mark.TheVariants as mark
use Rattle.plm_syntax.specs.Terminal.{Sign}
use Rattle.plm_syntax.specs.View.{names_of, counted, linkage_of}
use Rattle.plm_syntax.specs.Inner.Symbol.{need, Want, HeaderR, ReturnedTypeG, InterruptG, LinkageG}
use Rattle.plm_syntax.specs.Inner.Blocks.{read_header}
use Rattle.plm_syntax.proofs.Along.{taken, need_refused, failed, refusal}
use Rattle.plm_syntax.proofs.statement.header.Goals as goal

pub returns-in_err-parameters-clause-leads : goal.returns-in_err-parameters-clause-leads
returns-in_err-parameters-clause-leads c = λ n s v. failed (read_header n) s v c.from_residual.result c.in_err-parameters.field-0.0 c.from_residual.ensures.1 refl
    (c.in_err-parameters.ensures.leads n (Want ReturnedTypeG ∷ Want InterruptG ∷ Want LinkageG ∷ need mark.Semicolon ∷ s) v)

pub returns-in_err-interrupt-clause-leads : goal.returns-in_err-interrupt-clause-leads
returns-in_err-interrupt-clause-leads c = λ n s v. failed (read_header n) s v c.from_residual-in_err-interrupt.result c.in_err-interrupt.field-0.0 c.from_residual-in_err-interrupt.ensures.1
    (c.in_ok-parameters.ensures.leads n (Want ReturnedTypeG ∷ Want InterruptG ∷ Want LinkageG ∷ need mark.Semicolon ∷ s) v
    ∙ c.returned-returned.ensures.leads n (names_of c.in_ok-parameters.parameters.items) (Want InterruptG ∷ Want LinkageG ∷ need mark.Semicolon ∷ s) v)
    (c.in_err-interrupt.ensures.leads n (names_of c.in_ok-parameters.parameters.items) c.returned-returned.result.0 (Want LinkageG ∷ need mark.Semicolon ∷ s) v)

pub returns-in_err-rest-clause-leads : goal.returns-in_err-rest-clause-leads
returns-in_err-rest-clause-leads c = λ n s v. failed (read_header n) s v c.from_residual-in_err-rest.result c.in_err-rest.field-0.0 c.from_residual-in_err-rest.ensures.1
    (c.in_ok-parameters.ensures.leads n (Want ReturnedTypeG ∷ Want InterruptG ∷ Want LinkageG ∷ need mark.Semicolon ∷ s) v
    ∙ c.returned-returned.ensures.leads n (names_of c.in_ok-parameters.parameters.items) (Want InterruptG ∷ Want LinkageG ∷ need mark.Semicolon ∷ s) v
    ∙ c.in_ok-interrupt.ensures.leads n (names_of c.in_ok-parameters.parameters.items) c.returned-returned.result.0 (Want LinkageG ∷ need mark.Semicolon ∷ s) v
    ∙ c.linkage-linkage.ensures.leads n (names_of c.in_ok-parameters.parameters.items) c.returned-returned.result.0 (counted c.in_ok-interrupt.interrupt) (need mark.Semicolon ∷ s) v
    ∙ need_refused (Sign mark.Semicolon) c.linkage-linkage.result.1 s (HeaderR n (names_of c.in_ok-parameters.parameters.items) c.returned-returned.result.0 (counted c.in_ok-interrupt.interrupt) (linkage_of c.linkage-linkage.result.0) ∷ v) c.in_err-rest.ensures.0)
    (refusal c.in_err-rest.field-0.0 c.linkage-linkage.result.1 c.in_err-rest.ensures.1 refl)

pub returns-clause-leads : goal.returns-clause-leads
returns-clause-leads c = λ n s v. c.in_ok-parameters.ensures.leads n (Want ReturnedTypeG ∷ Want InterruptG ∷ Want LinkageG ∷ need mark.Semicolon ∷ s) v
    ∙ c.returned-returned.ensures.leads n (names_of c.in_ok-parameters.parameters.items) (Want InterruptG ∷ Want LinkageG ∷ need mark.Semicolon ∷ s) v
    ∙ c.in_ok-interrupt.ensures.leads n (names_of c.in_ok-parameters.parameters.items) c.returned-returned.result.0 (Want LinkageG ∷ need mark.Semicolon ∷ s) v
    ∙ c.linkage-linkage.ensures.leads n (names_of c.in_ok-parameters.parameters.items) c.returned-returned.result.0 (counted c.in_ok-interrupt.interrupt) (need mark.Semicolon ∷ s) v
    ∙ taken (need mark.Semicolon ∷ s) (HeaderR n (names_of c.in_ok-parameters.parameters.items) c.returned-returned.result.0 (counted c.in_ok-interrupt.interrupt) (linkage_of c.linkage-linkage.result.0) ∷ v) c.in_ok-rest.ensures.1

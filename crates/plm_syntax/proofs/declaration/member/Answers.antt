use Rattle.std.proofs.Common.{◌∷◌, None, refl, ◌∙◌}
use Rattle.plm_syntax.specs.Tree.{no_names}
use Rattle.plm_syntax.specs.View.{name_of}
use Rattle.plm_syntax.specs.Inner.Symbol.{push, Want, CountR, NamesR, NameR, MemberOfG, MemberNameG, MoreMemberNamesG, CountG, MemberTypeG}
use Rattle.plm_syntax.specs.Inner.Parsed.{next_of}
use Rattle.plm_syntax.specs.Inner.Parts.{read_member, read_names}
use Rattle.plm_syntax.proofs.Along.{quiet, taken, refused, failed, refusal, arrives_behind}
use Rattle.plm_syntax.proofs.NextDeclaration.{member_of_refused}
use Rattle.plm_syntax.proofs.declaration.member.Goals as goal

pub returns-in_err-list-clause-leads : goal.returns-in_err-list-clause-leads
returns-in_err-list-clause-leads c = λ s v. failed read_member s v c.from_residual.result c.in_err-list.field-0.0 c.from_residual.ensures.1
    (taken (Want MemberOfG ∷ s) v c.in-Some.ensures
    ∙ quiet c.in-Some.inner (push (NamesR no_names) ∷ Want MemberNameG ∷ Want MoreMemberNamesG ∷ push (CountR None) ∷ Want CountG ∷ Want MemberTypeG ∷ s) (Want MemberNameG ∷ Want MoreMemberNamesG ∷ push (CountR None) ∷ Want CountG ∷ Want MemberTypeG ∷ s) v (NamesR no_names ∷ v) (λ t q. refl))
    (c.in_err-list.ensures.members (push (CountR None) ∷ Want CountG ∷ Want MemberTypeG ∷ s) v)

pub returns-in-Some-clause-leads : goal.returns-in-Some-clause-leads
returns-in-Some-clause-leads c = λ s v. arrives_behind read_member s v c.behind_member_names.result
    (taken (Want MemberOfG ∷ s) v c.in-Some.ensures
    ∙ quiet c.in-Some.inner (push (NamesR no_names) ∷ Want MemberNameG ∷ Want MoreMemberNamesG ∷ push (CountR None) ∷ Want CountG ∷ Want MemberTypeG ∷ s) (Want MemberNameG ∷ Want MoreMemberNamesG ∷ push (CountR None) ∷ Want CountG ∷ Want MemberTypeG ∷ s) v (NamesR no_names ∷ v) (λ t q. refl)
    ∙ c.in_ok-list.ensures.members (push (CountR None) ∷ Want CountG ∷ Want MemberTypeG ∷ s) v
    ∙ quiet c.in_ok-list.rest (push (CountR None) ∷ Want CountG ∷ Want MemberTypeG ∷ s) (Want CountG ∷ Want MemberTypeG ∷ s) (read_names c.in_ok-list.list.items v) (CountR None ∷ read_names c.in_ok-list.list.items v) (λ t q. refl))
    (c.behind_member_names.ensures.leads s v)

pub returns-in_err-name-clause-leads : goal.returns-in_err-name-clause-leads
returns-in_err-name-clause-leads c = λ s v. failed read_member s v c.from_residual-in_err-name.result c.in_err-name.field-0.0 c.from_residual-in_err-name.ensures.1
    (refused MemberOfG c.args.cursor s v (member_of_refused (next_of c.args.cursor) c.in_default.ensures c.in_err-name.ensures.0))
    (refusal c.in_err-name.field-0.0 c.args.cursor c.in_err-name.ensures.1 refl)

pub returns-clause-leads : goal.returns-clause-leads
returns-clause-leads c = λ s v. arrives_behind read_member s v c.behind_member_names-2.result
    (taken (Want MemberOfG ∷ s) v c.in_ok-name.ensures
    ∙ quiet c.in_ok-name.rest (push (NameR (name_of c.in_ok-name.name)) ∷ push (CountR None) ∷ Want CountG ∷ Want MemberTypeG ∷ s) (Want CountG ∷ Want MemberTypeG ∷ s) v (CountR None ∷ NameR (name_of c.in_ok-name.name) ∷ v) (λ t q. refl))
    (c.behind_member_names-2.ensures.leads s v)

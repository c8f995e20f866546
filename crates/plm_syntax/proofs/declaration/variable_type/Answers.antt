use Rattle.std.proofs.Common.{◌∷◌, refl, ◌∙◌}
use Rattle.plm_token.specs.declared.token.Mark.TheVariants as mark
use Rattle.plm_syntax.specs.Terminal.{Sign}
use Rattle.plm_syntax.specs.Tree.{no_members, ScalarType, StructureType}
use Rattle.plm_syntax.specs.View.{members_from}
use Rattle.plm_syntax.specs.Inner.Symbol.{need, push, Want, Do, MembersR, TypeR, TypeG, MemberOfG, MoreMembersG}
use Rattle.plm_syntax.specs.Inner.Machine.{add_member, make_structure}
use Rattle.plm_syntax.specs.Inner.Parsed.{ahead, next_of}
use Rattle.plm_syntax.specs.Inner.Parts.{read_type, read_members}
use Rattle.plm_syntax.proofs.Along.{quiet, taken, refused, need_refused, failed, refusal}
use Rattle.plm_syntax.proofs.NextDeclaration.{type_refused, type_taken}
use Rattle.plm_syntax.proofs.declaration.variable_type.Goals as goal

pub returns-in-Some-clause-leads : goal.returns-in-Some-clause-leads
returns-in-Some-clause-leads c = λ s v. taken (Want TypeG ∷ s) v c.in-Some.ensures.1
    ∙ type_taken c.in-Some.scalar c.in-Some.ensures.0 s v (ahead c.in-Some.rest)
    ∙ quiet c.in-Some.rest (push (TypeR (ScalarType c.in-Some.scalar)) ∷ s) s v (TypeR (ScalarType c.in-Some.scalar) ∷ v) (λ t q. refl)

pub returns-in_err-behind-clause-leads : goal.returns-in_err-behind-clause-leads
returns-in_err-behind-clause-leads c = λ s v. failed read_type s v c.from_residual.result c.in_err-behind.field-0.0 c.from_residual.ensures.1
    (refused TypeG c.args.cursor s v (type_refused (next_of c.args.cursor) c.in_default.ensures c.in_err-behind.ensures.0))
    (refusal c.in_err-behind.field-0.0 c.args.cursor c.in_err-behind.ensures.1 refl)

pub returns-in_err-inner-clause-leads : goal.returns-in_err-inner-clause-leads
returns-in_err-inner-clause-leads c = λ s v. failed read_type s v c.from_residual-in_err-inner.result c.in_err-inner.field-0.0 c.from_residual-in_err-inner.ensures.1
    (taken (Want TypeG ∷ s) v c.in_ok-behind.ensures.1
    ∙ need_refused (Sign mark.LeftParenthesis) c.in_ok-behind.behind (push (MembersR no_members) ∷ Want MemberOfG ∷ Do add_member ∷ Want MoreMembersG ∷ Do make_structure ∷ s) v c.in_err-inner.ensures.0)
    (refusal c.in_err-inner.field-0.0 c.in_ok-behind.behind c.in_err-inner.ensures.1 refl)

pub returns-in_err-list-clause-leads : goal.returns-in_err-list-clause-leads
returns-in_err-list-clause-leads c = λ s v. failed read_type s v c.from_residual-in_err-list.result c.in_err-list.field-0.0 c.from_residual-in_err-list.ensures.1
    (taken (Want TypeG ∷ s) v c.in_ok-behind.ensures.1
    ∙ taken (need mark.LeftParenthesis ∷ push (MembersR no_members) ∷ Want MemberOfG ∷ Do add_member ∷ Want MoreMembersG ∷ Do make_structure ∷ s) v c.in_ok-inner.ensures.1
    ∙ quiet c.in_ok-inner.inner (push (MembersR no_members) ∷ Want MemberOfG ∷ Do add_member ∷ Want MoreMembersG ∷ Do make_structure ∷ s) (Want MemberOfG ∷ Do add_member ∷ Want MoreMembersG ∷ Do make_structure ∷ s) v (MembersR no_members ∷ v) (λ t q. refl))
    (c.in_err-list.ensures.leads (Do make_structure ∷ s) v)

pub returns-clause-leads : goal.returns-clause-leads
returns-clause-leads c = λ s v. taken (Want TypeG ∷ s) v c.in_ok-behind.ensures.1
    ∙ taken (need mark.LeftParenthesis ∷ push (MembersR no_members) ∷ Want MemberOfG ∷ Do add_member ∷ Want MoreMembersG ∷ Do make_structure ∷ s) v c.in_ok-inner.ensures.1
    ∙ quiet c.in_ok-inner.inner (push (MembersR no_members) ∷ Want MemberOfG ∷ Do add_member ∷ Want MoreMembersG ∷ Do make_structure ∷ s) (Want MemberOfG ∷ Do add_member ∷ Want MoreMembersG ∷ Do make_structure ∷ s) v (MembersR no_members ∷ v) (λ t q. refl)
    ∙ c.in_ok-list.ensures.leads (Do make_structure ∷ s) v
    ∙ quiet c.in_ok-list.rest (Do make_structure ∷ s) s (read_members c.in_ok-list.list.items v) (TypeR (StructureType (members_from c.in_ok-list.list.items no_members)) ∷ v) (λ t q. refl)

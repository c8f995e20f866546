use Rattle.std.proofs.Common.{◌∷◌, ◌++◌, [], List, refl, sym, ap, ◌∙◌, arith, Ok}
use Rattle.plm_syntax.specs.declared.tree.Member.{Member}
use Rattle.plm_syntax.specs.Tree.{MembersT, members, no_members}
use Rattle.plm_syntax.specs.View.{member_of, members_from}
use Rattle.plm_syntax.specs.Inner.Symbol.{Want, Do, MembersR, MemberOfG, MoreMembersG}
use Rattle.plm_syntax.specs.Inner.Machine.{add_member, run}
use Rattle.plm_syntax.specs.Inner.Parsed.{ahead, next_of}
use Rattle.plm_syntax.specs.Inner.Parts.{read_member, read_members}
use Rattle.plm_syntax.proofs.Rows.{member_pushed}
use Rattle.plm_syntax.proofs.Along.{quiet, taken, refused, failed}
use Rattle.plm_syntax.proofs.Joined.{arrived, lost, stays_within, closes_by, closes_within}
use Rattle.plm_token.specs.declared.token.Mark.TheVariants as mark
use Rattle.plm_syntax.proofs.NextDeclaration.{more_members_refused}
use Rattle.plm_syntax.proofs.declaration.members.Goals as goal

pub loop-after-init : goal.loop-after-init
loop-after-init c = record {
  leads = λ s v. arrived read_member (Do add_member ∷ Want MoreMembersG ∷ s) (MembersR no_members ∷ v) c.in_ok-rest.ensures.1.0 (c.member.ensures.leads (Do add_member ∷ Want MoreMembersG ∷ s) (MembersR no_members ∷ v))
      ∙ quiet c.in_ok-rest.rest (Do add_member ∷ Want MoreMembersG ∷ s) (Want MoreMembersG ∷ s) (read_member c.in_ok-rest.ensures.0 (MembersR no_members ∷ v)) (MembersR (members no_members (member_of c.in_ok-rest.ensures.0)) ∷ v) (λ t q. refl)
      ∙ ap (λ (xs : List Member). run 64 (Want MoreMembersG ∷ s) (MembersR (members_from xs no_members) ∷ v) (ahead c.in_ok-rest.rest)) (sym (c.in_ok-rest.ensures.1.1 ∙ ap (λ (xs : List Member). xs ++ c.in_ok-rest.ensures.0 ∷ []) c.new-list.ensures.items));
  shorter = stays_within c.args.cursor c.in_ok-rest.ensures.1.0 c.member.ensures.within;
}

pub loop-after-preserved : goal.loop-after-preserved
loop-after-preserved c = record {
  leads = λ s v. c.loop-after.invariant.leads s v
      ∙ taken (Want MoreMembersG ∷ s) (MembersR (members_from c.loop-after.list.items no_members) ∷ v) c.in-Some.ensures
      ∙ arrived read_member (Do add_member ∷ Want MoreMembersG ∷ s) (MembersR (members_from c.loop-after.list.items no_members) ∷ v) c.in_ok-rest-2.ensures.1.0 (c.member-in-Some.ensures.leads (Do add_member ∷ Want MoreMembersG ∷ s) (MembersR (members_from c.loop-after.list.items no_members) ∷ v))
      ∙ quiet c.in_ok-rest-2.rest (Do add_member ∷ Want MoreMembersG ∷ s) (Want MoreMembersG ∷ s) (read_member c.in_ok-rest-2.ensures.0 (MembersR (members_from c.loop-after.list.items no_members) ∷ v)) (MembersR (members (members_from c.loop-after.list.items no_members) (member_of c.in_ok-rest-2.ensures.0)) ∷ v) (λ t q. refl)
      ∙ ap (λ (xs : MembersT). run 64 (Want MoreMembersG ∷ s) (MembersR xs ∷ v) (ahead c.in_ok-rest-2.rest)) (sym (member_pushed c.loop-after.list.items c.in_ok-rest-2.ensures.0 no_members))
      ∙ ap (λ (xs : List Member). run 64 (Want MoreMembersG ∷ s) (MembersR (members_from xs no_members) ∷ v) (ahead c.in_ok-rest-2.rest)) (sym c.in_ok-rest-2.ensures.1.1);
  shorter = omega (arith, c.loop-after.invariant.shorter, c.in-Some.ensures.shorter, stays_within c.in-Some.after c.in_ok-rest-2.ensures.1.0 c.member-in-Some.ensures.within);
}

pub returns-in_err-rest-clause-leads : goal.returns-in_err-rest-clause-leads
returns-in_err-rest-clause-leads c = λ s v. failed (λ ms. read_members ms.items) s v c.from_residual.result c.in_err-rest.field-0.0 c.from_residual.ensures.1
    (refl)
    (lost read_member (Do add_member ∷ Want MoreMembersG ∷ s) (MembersR no_members ∷ v) c.member.result c.in_err-rest.field-0.0 (run 64 (Want MemberOfG ∷ Do add_member ∷ Want MoreMembersG ∷ s) (MembersR no_members ∷ v) (ahead c.args.cursor)) c.in_err-rest.ensures (c.member.ensures.leads (Do add_member ∷ Want MoreMembersG ∷ s) (MembersR no_members ∷ v)))

pub returns-in_err-rest-2-clause-leads : goal.returns-in_err-rest-2-clause-leads
returns-in_err-rest-2-clause-leads c = λ s v. failed (λ ms. read_members ms.items) s v c.from_residual-in_err-rest-2.result c.in_err-rest-2.field-0.0 c.from_residual-in_err-rest-2.ensures.1
    (c.loop-after.invariant.leads s v
    ∙ taken (Want MoreMembersG ∷ s) (MembersR (members_from c.loop-after.list.items no_members) ∷ v) c.in-Some.ensures)
    (lost read_member (Do add_member ∷ Want MoreMembersG ∷ s) (MembersR (members_from c.loop-after.list.items no_members) ∷ v) c.member-in-Some.result c.in_err-rest-2.field-0.0 (run 64 (Want MemberOfG ∷ Do add_member ∷ Want MoreMembersG ∷ s) (MembersR (members_from c.loop-after.list.items no_members) ∷ v) (ahead c.in-Some.after)) c.in_err-rest-2.ensures (c.member-in-Some.ensures.leads (Do add_member ∷ Want MoreMembersG ∷ s) (MembersR (members_from c.loop-after.list.items no_members) ∷ v)))

pub returns-clause-leads : goal.returns-clause-leads
returns-clause-leads c = λ s v. closes_by (λ ms. read_members ms.items) mark.RightParenthesis s v c.loop-after.list c.loop-after.rest c.close.result c.close.ensures
    (λ q. c.loop-after.invariant.leads s v
    ∙ refused MoreMembersG c.loop-after.rest s (MembersR (members_from c.loop-after.list.items no_members) ∷ v) (more_members_refused (next_of c.loop-after.rest) c.in_default.ensures q))
    (λ p b h. c.loop-after.invariant.leads s v
    ∙ taken (Want MoreMembersG ∷ s) (MembersR (members_from c.loop-after.list.items no_members) ∷ v) h)

pub returns-clause-within : goal.returns-clause-within
returns-clause-within c = closes_within mark.RightParenthesis c.args.cursor (Ok (c.loop-after.list, c.loop-after.rest)) c.close.result c.close.ensures c.loop-after.invariant.shorter

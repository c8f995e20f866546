use Rattle.std.proofs.Common.{◌∷◌, ◌∙◌}
use Rattle.plm_syntax.specs.View.{counted, member_with}
use Rattle.plm_syntax.specs.Inner.Symbol.{Want, Do, CountR, MemberR, MemberTypeG}
use Rattle.plm_syntax.specs.Inner.Machine.{make_member}
use Rattle.plm_syntax.specs.Inner.Parsed.{ahead, next_of}
use Rattle.plm_syntax.specs.Inner.Parts.{member_names_read}
use Rattle.plm_syntax.proofs.Along.{quiet, taken, refused, refusal}
use Rattle.plm_syntax.proofs.NextDeclaration.{doing, member_type_refused, member_type_taken, member_made}
use Rattle.plm_syntax.proofs.declaration.behind_member_names.Goals as goal

pub returns-in-Some-clause-leads : goal.returns-in-Some-clause-leads
returns-in-Some-clause-leads c = λ s v. c.in_ok-count.ensures.leads (Want MemberTypeG ∷ s) (member_names_read c.args.names v)
    ∙ taken (Want MemberTypeG ∷ s) (CountR (counted c.in_ok-count.count) ∷ member_names_read c.args.names v) c.in-Some.ensures.1
    ∙ member_type_taken c.in-Some.scalar c.in-Some.ensures.0 s (CountR (counted c.in_ok-count.count) ∷ member_names_read c.args.names v) (ahead c.in-Some.rest)
    ∙ quiet c.in-Some.rest (Do (make_member c.in-Some.scalar) ∷ s) s (CountR (counted c.in_ok-count.count) ∷ member_names_read c.args.names v) (MemberR (member_with c.args.names (counted c.in_ok-count.count) c.in-Some.scalar) ∷ v) (λ t q. doing (make_member c.in-Some.scalar) s (CountR (counted c.in_ok-count.count) ∷ member_names_read c.args.names v) (MemberR (member_with c.args.names (counted c.in_ok-count.count) c.in-Some.scalar) ∷ v) t q (member_made c.args.names (counted c.in_ok-count.count) c.in-Some.scalar v))

pub returns-clause-leads : goal.returns-clause-leads
returns-clause-leads c = λ s v. refusal c.refuse.result c.in_ok-count.behind c.refuse.ensures
    (c.in_ok-count.ensures.leads (Want MemberTypeG ∷ s) (member_names_read c.args.names v)
    ∙ refused MemberTypeG c.in_ok-count.behind s (CountR (counted c.in_ok-count.count) ∷ member_names_read c.args.names v) (member_type_refused (next_of c.in_ok-count.behind) c.in-None.ensures))

use Rattle.std.proofs.Common.{◌∷◌, refl, ◌∙◌, arith}
use Rattle.plm_syntax.specs.Tree.{no_linkage, public_linkage, external_linkage}
use Rattle.plm_syntax.specs.Inner.Symbol.{Want, Do, HeaderR, LinkageG}
use Rattle.plm_syntax.specs.Inner.Machine.{set_linkage}
use Rattle.plm_syntax.proofs.Along.{quiet, taken}
use Rattle.plm_syntax.proofs.NextBlock.{no_linkage_there}
use Rattle.plm_syntax.proofs.statement.linkage.Goals as goal

pub returns-in-Some : goal.returns-in-Some
returns-in-Some c = record {
  leads = λ n ps t k s v. taken (Want LinkageG ∷ s) (HeaderR n ps t k no_linkage ∷ v) c.in-Some.ensures
      ∙ quiet c.in-Some.rest (Do (set_linkage public_linkage) ∷ s) s (HeaderR n ps t k no_linkage ∷ v) (HeaderR n ps t k public_linkage ∷ v) (λ t q. refl);
  within = omega (arith, c.in-Some.ensures.shorter);
}

pub returns-in-Some-keyword : goal.returns-in-Some-keyword
returns-in-Some-keyword c = record {
  leads = λ n ps t k s v. taken (Want LinkageG ∷ s) (HeaderR n ps t k no_linkage ∷ v) c.in-Some-keyword.ensures
      ∙ quiet c.in-Some-keyword.rest (Do (set_linkage external_linkage) ∷ s) s (HeaderR n ps t k no_linkage ∷ v) (HeaderR n ps t k external_linkage ∷ v) (λ t q. refl);
  within = omega (arith, c.in-Some-keyword.ensures.shorter);
}

pub returns : goal.returns
returns c = record { leads = λ n ps t k s v. no_linkage_there c.args.cursor s (HeaderR n ps t k no_linkage ∷ v) c.in_default.ensures c.in_default-keyword.ensures; within = omega arith }

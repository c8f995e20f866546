use Rattle.std.proofs.Common.{◌∷◌, Some, None, refl, ◌∙◌, arith}
use Rattle.plm_syntax.specs.Tree.{no_linkage}
use Rattle.plm_syntax.specs.Inner.Symbol.{Want, Do, HeaderR, ReturnedTypeG}
use Rattle.plm_syntax.specs.Inner.Machine.{set_returned}
use Rattle.plm_syntax.specs.Inner.Parsed.{ahead}
use Rattle.plm_syntax.proofs.Along.{quiet, taken}
use Rattle.plm_syntax.proofs.NextDeclaration.{returned_taken}
use Rattle.plm_syntax.proofs.NextBlock.{no_type_there}
use Rattle.plm_syntax.proofs.statement.returned.Goals as goal

pub returns-in-Some : goal.returns-in-Some
returns-in-Some c = record {
  leads = λ n ps s v. taken (Want ReturnedTypeG ∷ s) (HeaderR n ps None None no_linkage ∷ v) c.in-Some.ensures.1
      ∙ returned_taken c.in-Some.scalar c.in-Some.ensures.0 s (HeaderR n ps None None no_linkage ∷ v) (ahead c.in-Some.rest)
      ∙ quiet c.in-Some.rest (Do (set_returned c.in-Some.scalar) ∷ s) s (HeaderR n ps None None no_linkage ∷ v) (HeaderR n ps (Some c.in-Some.scalar) None no_linkage ∷ v) (λ t q. refl);
  within = omega (arith, c.in-Some.ensures.1.shorter);
}

pub returns-in-None : goal.returns-in-None
returns-in-None c = record { leads = λ n ps s v. no_type_there c.args.cursor s (HeaderR n ps None None no_linkage ∷ v) c.in-None.ensures; within = omega arith }

use Rattle.std.proofs.Common.{◌≡◌, ◌∷◌, ◌∙◌, [], find, bytes_eq, None, arith}
use Rattle.plm_token.specs.declared.token.Keyword.TheVariants.{Enable, Public, Return}
use Rattle.std.proofs.lemmas.Grind.{common_steps}
use Rattle.plm_token.specs.Names.{spelling}
use Rattle.plm_token.proofs.ByLength.{by_length, in_arm}
use Rattle.plm_token.proofs.keywords.of_six.Goals as goal

pub returns-in-69 : goal.returns-in-69
returns-in-69 c rest size = in_arm c.args.first 69 rest (Enable ∷ []) c.in-69.is (by_length 6 (69 ∷ rest) size)

pub returns-in-80 : goal.returns-in-80
returns-in-80 c rest size = in_arm c.args.first 80 rest (Public ∷ []) c.in-80.is (by_length 6 (80 ∷ rest) size)

pub returns-in-82 : goal.returns-in-82
returns-in-82 c rest size = in_arm c.args.first 82 rest (Return ∷ []) c.in-82.is (by_length 6 (82 ∷ rest) size)

pub returns-in_default : goal.returns-in_default
returns-in_default c rest size =
    let none : find (λ k. bytes_eq (c.args.first ∷ rest) (spelling k)) (Enable ∷ Public ∷ Return ∷ []) ≡ None = grind (arith, common_steps) in
    by_length 6 (c.args.first ∷ rest) size ∙ none

use Rattle.std.proofs.Common.{◌≡◌, ◌∷◌, ◌∙◌, [], find, bytes_eq, None, arith}
use Rattle.plm_token.specs.declared.token.Keyword.TheVariants.{At, By, Do, Go, If, Or, To}
use Rattle.std.proofs.lemmas.Grind.{common_steps}
use Rattle.plm_token.specs.Names.{spelling}
use Rattle.plm_token.proofs.ByLength.{by_length, in_arm}
use Rattle.plm_token.proofs.keywords.of_two.Goals as goal

pub returns-in-65 : goal.returns-in-65
returns-in-65 c rest size = in_arm c.args.first 65 rest (At ∷ []) c.in-65.is (by_length 2 (65 ∷ rest) size)

pub returns-in-66 : goal.returns-in-66
returns-in-66 c rest size = in_arm c.args.first 66 rest (By ∷ []) c.in-66.is (by_length 2 (66 ∷ rest) size)

pub returns-in-68 : goal.returns-in-68
returns-in-68 c rest size = in_arm c.args.first 68 rest (Do ∷ []) c.in-68.is (by_length 2 (68 ∷ rest) size)

pub returns-in-71 : goal.returns-in-71
returns-in-71 c rest size = in_arm c.args.first 71 rest (Go ∷ []) c.in-71.is (by_length 2 (71 ∷ rest) size)

pub returns-in-73 : goal.returns-in-73
returns-in-73 c rest size = in_arm c.args.first 73 rest (If ∷ []) c.in-73.is (by_length 2 (73 ∷ rest) size)

pub returns-in-79 : goal.returns-in-79
returns-in-79 c rest size = in_arm c.args.first 79 rest (Or ∷ []) c.in-79.is (by_length 2 (79 ∷ rest) size)

pub returns-in-84 : goal.returns-in-84
returns-in-84 c rest size = in_arm c.args.first 84 rest (To ∷ []) c.in-84.is (by_length 2 (84 ∷ rest) size)

pub returns-in_default : goal.returns-in_default
returns-in_default c rest size =
    let none : find (λ k. bytes_eq (c.args.first ∷ rest) (spelling k)) (At ∷ By ∷ Do ∷ Go ∷ If ∷ Or ∷ To ∷ []) ≡ None = grind (arith, common_steps) in
    by_length 2 (c.args.first ∷ rest) size ∙ none

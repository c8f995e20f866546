use Rattle.std.proofs.Common.{◌≡◌, ◌∷◌, ◌∙◌, [], find, bytes_eq, None, arith}
use Rattle.plm_token.specs.declared.token.Keyword.TheVariants.{Address, Declare, Disable, Initial, Integer, Pointer}
use Rattle.std.proofs.lemmas.Grind.{common_steps}
use Rattle.plm_token.specs.Names.{spelling}
use Rattle.plm_token.proofs.ByLength.{by_length, in_arm}
use Rattle.plm_token.proofs.keywords.of_seven.Goals as goal

pub returns-in-65 : goal.returns-in-65
returns-in-65 c rest size = in_arm c.args.first 65 rest (Address ∷ []) c.in-65.is (by_length 7 (65 ∷ rest) size)

pub returns-in-68 : goal.returns-in-68
returns-in-68 c rest size = in_arm c.args.first 68 rest (Declare ∷ Disable ∷ []) c.in-68.is (by_length 7 (68 ∷ rest) size)

pub returns-in-73 : goal.returns-in-73
returns-in-73 c rest size = in_arm c.args.first 73 rest (Initial ∷ Integer ∷ []) c.in-73.is (by_length 7 (73 ∷ rest) size)

pub returns-in-80 : goal.returns-in-80
returns-in-80 c rest size = in_arm c.args.first 80 rest (Pointer ∷ []) c.in-80.is (by_length 7 (80 ∷ rest) size)

pub returns-in_default : goal.returns-in_default
returns-in_default c rest size =
    let none : find (λ k. bytes_eq (c.args.first ∷ rest) (spelling k)) (Address ∷ Declare ∷ Disable ∷ Initial ∷ Integer ∷ Pointer ∷ []) ≡ None = grind (arith, common_steps) in
    by_length 7 (c.args.first ∷ rest) size ∙ none

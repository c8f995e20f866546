use Rattle.std.proofs.Common.{◌≡◌, ◌∷◌, ◌∙◌, [], find, bytes_eq, None, arith}
use Rattle.plm_token.specs.declared.token.Keyword.TheVariants.{And, End, Mod, Not, Xor}
use Rattle.std.proofs.lemmas.Grind.{common_steps}
use Rattle.plm_token.specs.Names.{spelling}
use Rattle.plm_token.proofs.ByLength.{by_length, in_arm}
use Rattle.plm_token.proofs.keywords.of_three.Goals as goal

pub returns-in-65 : goal.returns-in-65
returns-in-65 c rest size = in_arm c.args.first 65 rest (And ∷ []) c.in-65.is (by_length 3 (65 ∷ rest) size)

pub returns-in-69 : goal.returns-in-69
returns-in-69 c rest size = in_arm c.args.first 69 rest (End ∷ []) c.in-69.is (by_length 3 (69 ∷ rest) size)

pub returns-in-77 : goal.returns-in-77
returns-in-77 c rest size = in_arm c.args.first 77 rest (Mod ∷ []) c.in-77.is (by_length 3 (77 ∷ rest) size)

pub returns-in-78 : goal.returns-in-78
returns-in-78 c rest size = in_arm c.args.first 78 rest (Not ∷ []) c.in-78.is (by_length 3 (78 ∷ rest) size)

pub returns-in-88 : goal.returns-in-88
returns-in-88 c rest size = in_arm c.args.first 88 rest (Xor ∷ []) c.in-88.is (by_length 3 (88 ∷ rest) size)

pub returns-in_default : goal.returns-in_default
returns-in_default c rest size =
    let none : find (λ k. bytes_eq (c.args.first ∷ rest) (spelling k)) (And ∷ End ∷ Mod ∷ Not ∷ Xor ∷ []) ≡ None = grind (arith, common_steps) in
    by_length 3 (c.args.first ∷ rest) size ∙ none

use Rattle.std.proofs.Common.{◌≡◌, ◌∷◌, ◌∙◌, [], find, bytes_eq, None, arith}
use Rattle.plm_token.specs.declared.token.Keyword.TheVariants.{External, Selector}
use Rattle.std.proofs.lemmas.Grind.{common_steps}
use Rattle.plm_token.specs.Names.{spelling}
use Rattle.plm_token.proofs.ByLength.{by_length, in_arm}
use Rattle.plm_token.proofs.keywords.of_eight.Goals as goal

pub returns-in-69 : goal.returns-in-69
returns-in-69 c rest size = in_arm c.args.first 69 rest (External ∷ []) c.in-69.is (by_length 8 (69 ∷ rest) size)

pub returns-in-83 : goal.returns-in-83
returns-in-83 c rest size = in_arm c.args.first 83 rest (Selector ∷ []) c.in-83.is (by_length 8 (83 ∷ rest) size)

pub returns-in_default : goal.returns-in_default
returns-in_default c rest size =
    let none : find (λ k. bytes_eq (c.args.first ∷ rest) (spelling k)) (External ∷ Selector ∷ []) ≡ None = grind (arith, common_steps) in
    by_length 8 (c.args.first ∷ rest) size ∙ none

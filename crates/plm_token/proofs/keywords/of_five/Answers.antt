use Rattle.std.proofs.Common.{◌≡◌, ◌∷◌, ◌∙◌, [], find, bytes_eq, None, arith}
use Rattle.plm_token.specs.declared.token.Keyword.TheVariants.{Based, Dword, Label, Minus, While}
use Rattle.std.proofs.lemmas.Grind.{common_steps}
use Rattle.plm_token.specs.Names.{spelling}
use Rattle.plm_token.proofs.ByLength.{by_length, in_arm}
use Rattle.plm_token.proofs.keywords.of_five.Goals as goal

pub returns-in-66 : goal.returns-in-66
returns-in-66 c rest size = in_arm c.args.first 66 rest (Based ∷ []) c.in-66.is (by_length 5 (66 ∷ rest) size)

pub returns-in-68 : goal.returns-in-68
returns-in-68 c rest size = in_arm c.args.first 68 rest (Dword ∷ []) c.in-68.is (by_length 5 (68 ∷ rest) size)

pub returns-in-76 : goal.returns-in-76
returns-in-76 c rest size = in_arm c.args.first 76 rest (Label ∷ []) c.in-76.is (by_length 5 (76 ∷ rest) size)

pub returns-in-77 : goal.returns-in-77
returns-in-77 c rest size = in_arm c.args.first 77 rest (Minus ∷ []) c.in-77.is (by_length 5 (77 ∷ rest) size)

pub returns-in-87 : goal.returns-in-87
returns-in-87 c rest size = in_arm c.args.first 87 rest (While ∷ []) c.in-87.is (by_length 5 (87 ∷ rest) size)

pub returns-in_default : goal.returns-in_default
returns-in_default c rest size =
    let none : find (λ k. bytes_eq (c.args.first ∷ rest) (spelling k)) (Based ∷ Dword ∷ Label ∷ Minus ∷ While ∷ []) ≡ None = grind (arith, common_steps) in
    by_length 5 (c.args.first ∷ rest) size ∙ none

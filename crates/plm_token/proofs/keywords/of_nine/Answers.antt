use Rattle.std.proofs.Common.{◌≡◌, ◌∷◌, ◌∙◌, [], find, bytes_eq, None, arith}
use Rattle.plm_token.specs.declared.token.Keyword.TheVariants.{Interrupt, Literally, Procedure, Reentrant, Structure}
use Rattle.std.proofs.lemmas.Grind.{common_steps}
use Rattle.plm_token.specs.Names.{spelling}
use Rattle.plm_token.proofs.ByLength.{by_length, in_arm}
use Rattle.plm_token.proofs.keywords.of_nine.Goals as goal

pub returns-in-73 : goal.returns-in-73
returns-in-73 c rest size = in_arm c.args.first 73 rest (Interrupt ∷ []) c.in-73.is (by_length 9 (73 ∷ rest) size)

pub returns-in-76 : goal.returns-in-76
returns-in-76 c rest size = in_arm c.args.first 76 rest (Literally ∷ []) c.in-76.is (by_length 9 (76 ∷ rest) size)

pub returns-in-80 : goal.returns-in-80
returns-in-80 c rest size = in_arm c.args.first 80 rest (Procedure ∷ []) c.in-80.is (by_length 9 (80 ∷ rest) size)

pub returns-in-82 : goal.returns-in-82
returns-in-82 c rest size = in_arm c.args.first 82 rest (Reentrant ∷ []) c.in-82.is (by_length 9 (82 ∷ rest) size)

pub returns-in-83 : goal.returns-in-83
returns-in-83 c rest size = in_arm c.args.first 83 rest (Structure ∷ []) c.in-83.is (by_length 9 (83 ∷ rest) size)

pub returns-in_default : goal.returns-in_default
returns-in_default c rest size =
    let none : find (λ k. bytes_eq (c.args.first ∷ rest) (spelling k)) (Interrupt ∷ Literally ∷ Procedure ∷ Reentrant ∷ Structure ∷ []) ≡ None = grind (arith, common_steps) in
    by_length 9 (c.args.first ∷ rest) size ∙ none

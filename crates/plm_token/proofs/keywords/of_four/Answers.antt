use Rattle.std.proofs.Common.{◌≡◌, ◌∷◌, ◌∙◌, [], find, bytes_eq, None, arith}
use Rattle.plm_token.specs.declared.token.Keyword.TheVariants.{Byte, Call, Case, Data, Else, Goto, Halt, Plus, Real, Then, Word}
use Rattle.std.proofs.lemmas.Grind.{common_steps}
use Rattle.plm_token.specs.Names.{spelling}
use Rattle.plm_token.proofs.ByLength.{by_length, in_arm}
use Rattle.plm_token.proofs.keywords.of_four.Goals as goal

pub returns-in-66 : goal.returns-in-66
returns-in-66 c rest size = in_arm c.args.first 66 rest (Byte ∷ []) c.in-66.is (by_length 4 (66 ∷ rest) size)

pub returns-in-67 : goal.returns-in-67
returns-in-67 c rest size = in_arm c.args.first 67 rest (Call ∷ Case ∷ []) c.in-67.is (by_length 4 (67 ∷ rest) size)

pub returns-in-68 : goal.returns-in-68
returns-in-68 c rest size = in_arm c.args.first 68 rest (Data ∷ []) c.in-68.is (by_length 4 (68 ∷ rest) size)

pub returns-in-69 : goal.returns-in-69
returns-in-69 c rest size = in_arm c.args.first 69 rest (Else ∷ []) c.in-69.is (by_length 4 (69 ∷ rest) size)

pub returns-in-71 : goal.returns-in-71
returns-in-71 c rest size = in_arm c.args.first 71 rest (Goto ∷ []) c.in-71.is (by_length 4 (71 ∷ rest) size)

pub returns-in-72 : goal.returns-in-72
returns-in-72 c rest size = in_arm c.args.first 72 rest (Halt ∷ []) c.in-72.is (by_length 4 (72 ∷ rest) size)

pub returns-in-80 : goal.returns-in-80
returns-in-80 c rest size = in_arm c.args.first 80 rest (Plus ∷ []) c.in-80.is (by_length 4 (80 ∷ rest) size)

pub returns-in-82 : goal.returns-in-82
returns-in-82 c rest size = in_arm c.args.first 82 rest (Real ∷ []) c.in-82.is (by_length 4 (82 ∷ rest) size)

pub returns-in-84 : goal.returns-in-84
returns-in-84 c rest size = in_arm c.args.first 84 rest (Then ∷ []) c.in-84.is (by_length 4 (84 ∷ rest) size)

pub returns-in-87 : goal.returns-in-87
returns-in-87 c rest size = in_arm c.args.first 87 rest (Word ∷ []) c.in-87.is (by_length 4 (87 ∷ rest) size)

pub returns-in_default : goal.returns-in_default
returns-in_default c rest size =
    let none : find (λ k. bytes_eq (c.args.first ∷ rest) (spelling k)) (Byte ∷ Call ∷ Case ∷ Data ∷ Else ∷ Goto ∷ Halt ∷ Plus ∷ Real ∷ Then ∷ Word ∷ []) ≡ None = grind (arith, common_steps) in
    by_length 4 (c.args.first ∷ rest) size ∙ none

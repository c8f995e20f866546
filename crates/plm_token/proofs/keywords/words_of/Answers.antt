use Rattle.std.proofs.Common.{◌≡◌, [], ◌∷◌, ◌∙◌, find, bytes_eq, ap, arith}
use Rattle.std.proofs.lemmas.Grind.{common_steps}
use Rattle.plm_token.specs.Names.{spelling, keywords}
use Rattle.plm_token.proofs.ByLength.{of_length, by_length}
use Rattle.plm_token.proofs.keywords.words_of.Goals as goal

-- no reserved word has fewer than two letters or more than nine
pub returns-in_default : goal.returns-in_default
returns-in_default c rest size =
    let none : of_length c.args.letters keywords ≡ [] = grind (arith, common_steps) in
    by_length c.args.letters (c.args.first ∷ rest) size ∙ ap (find (λ k. bytes_eq (c.args.first ∷ rest) (spelling k))) none

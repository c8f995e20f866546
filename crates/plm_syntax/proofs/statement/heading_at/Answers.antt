use Rattle.std.proofs.Common.{◌∷◌, List, ap, ◌∙◌, arith}
use Rattle.plm_token.specs.declared.token.Mark.TheVariants as mark
use Rattle.plm_syntax.specs.Terminal.{Name, Sign, Leaf, leaf_at}
use Rattle.plm_syntax.specs.View.{name_of}
use Rattle.plm_syntax.specs.Inner.Parsed.{ahead}
use Rattle.plm_syntax.proofs.NextBlock.{unheaded, no_procedure}
use Rattle.plm_syntax.proofs.statement.heading_at.Goals as goal

pub returns-in_default : goal.returns-in_default
returns-in_default c = unheaded (ahead c.args.cursor) c.in_default.ensures

pub returns-in_default-keyword : goal.returns-in_default-keyword
returns-in_default-keyword c = no_procedure c.args.cursor c.in-Some.behind c.in-Some.name c.in-Some.ensures c.in_default-keyword.ensures

pub returns : goal.returns
returns c = record {
  colon = c.in-Some.ensures.place;
  word = c.in-Some-keyword.field-0-0;
  is = c.in-Some.ensures.is ∙ ap (λ (ls : List Leaf). leaf_at (Name (name_of c.in-Some.name)) c.in-Some.name.place ∷ leaf_at (Sign mark.Colon) c.in-Some.ensures.place ∷ ls) c.in-Some-keyword.ensures.is;
  shorter = omega (arith, c.in-Some.ensures.shorter, c.in-Some-keyword.ensures.shorter);
}

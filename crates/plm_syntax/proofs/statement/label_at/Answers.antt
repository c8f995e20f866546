use Rattle.std.proofs.Common.{◌∷◌, List, ap, ◌∙◌, arith}
use Rattle.plm_syntax.specs.Terminal.{Name, Leaf, leaf_at}
use Rattle.plm_syntax.specs.View.{name_of}
use Rattle.plm_syntax.proofs.NextBlock.{unnamed, uncoloned}
use Rattle.plm_syntax.proofs.statement.label_at.Goals as goal

pub returns-in_default : goal.returns-in_default
returns-in_default c = unnamed c.args.cursor c.in_default.ensures

pub returns-in_default-mark : goal.returns-in_default-mark
returns-in_default-mark c = uncoloned c.args.cursor c.in-Some.behind (name_of c.in-Some.name) c.in-Some.name.place c.in-Some.ensures c.in_default-mark.ensures

pub returns : goal.returns
returns c = record {
  place = c.in-Some-mark.field-0-0;
  is = c.in-Some.ensures.is ∙ ap (λ (ls : List Leaf). leaf_at (Name (name_of c.in-Some.name)) c.in-Some.name.place ∷ ls) c.in-Some-mark.ensures.is;
  shorter = omega (arith, c.in-Some.ensures.shorter, c.in-Some-mark.ensures.shorter);
}

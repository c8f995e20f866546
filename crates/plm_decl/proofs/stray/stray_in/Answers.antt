use Rattle.std.proofs.Common.{List, Option, map, sym, ap, ◌∙◌}
use Rattle.std.specs.Option.{option_or}
use Rattle.plm_syntax.specs.declared.tree.Position.{Position}
use Rattle.plm_syntax.specs.declared.tree.Item.{Item}
use Rattle.plm_syntax.specs.declared.tree.Statement.{Statement}
use Rattle.plm_syntax.specs.declared.tree.Basic.TheViews.{out-Block}
use Rattle.plm_syntax.specs.View.{name_of, item_of, statement_of}
use Rattle.plm_decl.specs.Stray.{first_statement, stray_items}
use Rattle.plm_decl.proofs.TreeViews.{stray_in_parts}
use Rattle.plm_decl.proofs.stray.stray_in.Goals as goal

pub returns-in-None : goal.returns-in-None
returns-in-None c =
    let ps = map name_of c.args.parameters.now.names.now in
    let b = c.args.block.now in
    let ss = (out-Block b).statements.items in
    c.first_place.ensures
    ∙ ap (λ (l : List Statement). first_statement (map statement_of l)) c.deref-in-None.ensures.value
    ∙ ap (λ (o : Option Position). option_or o (first_statement (map statement_of ss))) (sym c.in-None.is ∙ c.in_ok-place.ensures ∙ ap (λ (l : List Item). stray_items ps (map item_of l)) c.deref.ensures.value)
    ∙ sym (stray_in_parts ps b)

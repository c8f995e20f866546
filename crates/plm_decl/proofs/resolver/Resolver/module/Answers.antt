use Rattle.std.proofs.Common.{◌≡◌, ℕ, List, [], ◌∷◌, false, not, nat_eq, sym, ap, ◌∙◌}
use Rattle.plm_syntax.specs.declared.tree.Basic.TheViews.{out-Block}
use Rattle.std.proofs.lemmas.Result.{IfOk-at_ok, IfOk-equal}
use Rattle.std.specs.Global.{Vec}
use Rattle.plm_syntax.specs.View.{block_of, items_of}
use Rattle.plm_decl.specs.declared.resolved.Statement.{Statement}
use Rattle.plm_decl.specs.Inner.Scope.{frames_of}
use Rattle.plm_decl.specs.ResolvedView.{statements_of}
use Rattle.plm_decl.specs.Scope.{frame}
use Rattle.plm_decl.specs.Inner.Resolver.{known_of}
use Rattle.plm_decl.specs.Statements.{block}
use Rattle.plm_decl.specs.Joins.{at_module, has_statements, with_main}
use Rattle.plm_decl.proofs.TreeViews.{block_parts, has_statements_from}
use Rattle.plm_decl.proofs.resolver.Resolver.module.Goals as goal

pub returns : goal.returns
returns c =
    let b = c.args.tree.now.block in
    let k = at_module c.args.number (known_of c.args.resolver.now) in
    let ss = (out-Block b).statements in
    let behind = frames_of c.block-statements.new.scope in
    let q = known_of c.block-statements.new.resolver in
    let begun = block (frames_of c.outermost-scope.result) (block_of b) k in
    let did = IfOk-at_ok (λ (r : Vec Statement). (statements_of r.items, behind, q) ≡ begun) c.in_ok-statements.was c.block-statements.ensures in
    let frames = c.outermost-scope.ensures ∙ ap (λ (p : List ℕ). frame p false ∷ []) c.in_ok-path.ensures in
    let is_main = ap not c.is_empty.ensures ∙ ap (λ (n : ℕ). not (nat_eq n 0)) ss.ok.0
    ∙ sym (has_statements_from (items_of (out-Block b).items.items) ss.items) ∙ sym (ap has_statements (block_parts b)) in
    IfOk-equal c.put_main.result _ _ _ c.put_main.ensures
    ((λ j. with_main (is_main j) (did j).0 (did j).2)
    ∙ (λ j. let r = block (frames j) (block_of b) k in with_main (has_statements (block_of b)) r.0 r.2))

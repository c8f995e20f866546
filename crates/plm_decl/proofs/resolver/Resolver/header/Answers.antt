use Rattle.std.proofs.Common.{◌≡◌, length, sym, ◌∙◌}
use Rattle.plm_token.specs.Names.{normal}
use Rattle.plm_syntax.specs.declared.tree.Basic.TheViews.{out-Procedure}
use Rattle.plm_syntax.specs.View.{name_of}
use Rattle.plm_decl.specs.declared.names.Item.TheVariants as item
use Rattle.plm_decl.specs.Spelling.{name_after}
use Rattle.plm_decl.specs.Inner.Scope.{frames_of}
use Rattle.plm_decl.specs.Scope.{path_in}
use Rattle.plm_decl.specs.Inner.Resolver.{known_of}
use Rattle.plm_decl.specs.Inner.Procedures.{header_for}
use Rattle.plm_decl.specs.Inner.Elements.{entered}
use Rattle.plm_decl.specs.Procedures.{declared_procedure, with_header}
use Rattle.plm_decl.proofs.TreeViews.{name_for_parts, header_for_parts}
use Rattle.plm_decl.proofs.resolver.Resolver.header.Goals as goal

pub returns : goal.returns
returns c =
    let p = c.args.procedure.now in
    let o = out-Procedure p in
    let k = known_of c.args.self.now in
    let frames = frames_of c.args.scope.now in
    let n = name_of o.name in
    let path = name_after (path_in frames) (normal n.text) in
    let did = c.in_ok-number.ensures in
    let headed : known_of c.put_procedure.new.resolver ≡ with_header (header_for path p k) k =
    (λ j. (did j).1) ∙ (λ j. with_header (header_for (c.in_ok-path.ensures j) p k) k) in
    let named = c.in_ok-enter.ensures
    ∙ (λ j. entered n.place (c.in_ok-key.ensures j) o.linkage (item.Procedure (did j).0) frames (headed j))
    ∙ (λ j. entered n.place (normal n.text) o.linkage (item.Procedure (length k.procedures)) frames (with_header (header_for_parts path p k j) k))
    ∙ (λ j. declared_procedure frames n (sym (header_for_parts path p k) j) k)
    ∙ sym (λ j. declared_procedure frames (name_for_parts p j) (header_for (name_after (path_in frames) (normal (name_for_parts p j).text)) p k) k) in
    (λ j. ((did j).0, (named j).0, (named j).1))

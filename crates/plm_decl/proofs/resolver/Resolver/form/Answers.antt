use Rattle.std.proofs.Common.{List, map, sym, ap, ◌∙◌}
use Rattle.std.proofs.lemmas.List.{length-map, map-append}
use Rattle.plm_syntax.specs.declared.tree.Member.{Member}
use Rattle.plm_syntax.specs.Tree.{MemberT, TypeT, no_members}
use Rattle.plm_syntax.specs.View.{member_of, type_of}
use Rattle.plm_decl.specs.declared.layout.Form.TheVariants as form
use Rattle.plm_decl.specs.Layout.{structure_of, no_fields}
use Rattle.plm_decl.specs.Inner.Resolver.{known_of}
use Rattle.plm_decl.specs.Shape.{structure_for, with_structure, form_for}
use Rattle.plm_decl.proofs.ListViews.{member_list_from}
use Rattle.plm_decl.proofs.resolver.Resolver.form.Goals as goal

pub returns-in_ok-push-in-Structure : goal.returns-in_ok-push-in-Structure
returns-in_ok-push-in-Structure c =
    let place = c.args.place in
    let k = known_of c.args.self.now in
    let there = c.structure_with.new.self in
    let count = c.len-number.ensures ∙ there.structures.ok.0 ∙ sym (length-map there.structures.items structure_of) in
    let pushed = ap (map structure_of) c.in_ok-push-in-Structure.ensures.items ∙ map-append structure_of there.structures.items _ in
    (λ j. (form.Structure (count j), record (known_of there) { structures = pushed j }))
    ∙ ap with_structure c.in_ok-structure-in-Structure.ensures
    ∙ ap (λ (l : List Member). with_structure (structure_for place (map member_of l) no_fields k)) c.deref.ensures.value
    ∙ ap (λ (l : List MemberT). with_structure (structure_for place l no_fields k)) (sym (member_list_from c.in-Structure.members.items no_members))
    ∙ ap (λ (t : TypeT). form_for place t k) (sym (ap type_of c.in-Structure.is))

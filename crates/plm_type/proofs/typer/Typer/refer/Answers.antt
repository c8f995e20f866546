use Rattle.std.proofs.Common.{◌≡◌, ◌++◌, List, map, sym, ap, ◌∙◌, Option}
use Rattle.std.specs.Global.{Vec}
use Rattle.plm_decl.specs.declared.names.Variable.{Variable}
use Rattle.plm_decl.specs.ResolvedView as resolved
use Rattle.plm_type.specs.declared.program.Anchor.TheVariants as anchor
use Rattle.plm_type.specs.declared.program.Expression.{Expression}
use Rattle.plm_type.specs.declared.program.Subscript.{Subscript}
use Rattle.plm_type.specs.Rest as rest
use Rattle.plm_type.specs.Shapes.{anchor_for}
use Rattle.plm_type.specs.Inner.Typer.{variables, with_stride}
use Rattle.plm_type.specs.Trees as spec
use Rattle.plm_type.specs.View as view
use Rattle.plm_type.proofs.Lists.{strided_are}
use Rattle.plm_type.proofs.Parts.{reference_made}
use Rattle.plm_type.proofs.typer.Typer.refer.Goals as goal

pub returns-in_default : goal.returns-in_default
returns-in_default c =
    let s = resolved.selector_of c.args.selector.now in
    let es = view.expressions_of c.args.parts.subscripts.trees.items in
    let fs = view.expressions_of c.args.parts.member.trees.items in
    let made = c.line-line.ensures in
    reference_made c.line-line.result (anchor.InObject 0 0 0) 0 c.in_ok-subscripts.subscripts
    ∙ (λ j. rest.Refer (made.module j) (made.line j) (rest.InObject 0 0 0) 0 (view.subscripts_of (c.in_ok-subscripts.ensures.items j)))
    ∙ sym (ap (λ (v : Option Variable). spec.refer (variables c.args.self.now) c.args.self.now.module c.args.place.line v s es fs) c.in_default.is)

pub returns : goal.returns
returns c =
    let vs = variables c.args.self.now in
    let s = resolved.selector_of c.args.selector.now in
    let v = c.in-Some.variable in
    let outer = c.args.parts.subscripts.trees in
    let inner = c.args.parts.member.trees in
    let es = view.expressions_of outer.items in
    let fs = view.expressions_of inner.items in
    let made = c.line-line.ensures in
    let first : c.strided.new.subscripts.items ≡ map (with_stride v.stride) outer.items =
    c.in_ok-strided.ensures
    ∙ ap (λ (l : List Subscript). l ++ map (with_stride v.stride) c.into_trees-outer.result.items) c.in_ok-subscripts.ensures.items
    ∙ ap (λ (t : Vec Expression). map (with_stride v.stride) t.items) c.into_trees-outer.ensures in
    let both = c.in_ok-strided-2.ensures ∙ (λ j. first j ++ map (with_stride (c.member_stride.ensures j)) (c.into_trees-inner.ensures j).items) in
    let anchored = c.anchor.ensures ∙ ap (λ (l : List Variable). anchor_for l v) c.deref.ensures.value in
    let all = ap view.subscripts_of both ∙ strided_are v.stride _ outer.items inner.items in
    reference_made c.line-line.result c.anchor.result c.member_offset.result c.strided-2.new.subscripts
    ∙ (λ j. rest.Refer (made.module j) (made.line j) (anchored j) (c.member_offset.ensures j) (all j))
    ∙ sym (ap (λ (x : Option Variable). spec.refer vs c.args.self.now.module c.args.place.line x s es fs) c.in-Some.is)

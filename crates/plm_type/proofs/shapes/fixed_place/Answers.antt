use Rattle.std.proofs.Common.{Some, None, cond, option_map, sym, ap, ◌∙◌}
use Rattle.word86.specs.Access.{In, Screen}
use Rattle.word86.specs.Place.{where_of}
use Rattle.plm_type.specs.declared.program.Expression.TheViews.{out-Reference}
use Rattle.plm_type.specs.declared.program.Anchor.TheVariants as anchor
use Rattle.plm_type.specs.View.{anchor_of}
use Rattle.plm_type.specs.Shapes.{capped, fixed_place}
use Rattle.plm_type.proofs.Parts.{reference_parts, moved, unmoved, some_if, capped_counted, is_zero, not_zero}
use Rattle.plm_type.proofs.shapes.fixed_place.Goals as goal

pub returns-then-not-is_empty : goal.returns-then-not-is_empty
returns-then-not-is_empty c =
    let o = out-Reference c.args.reference.now in
    sym (ap (fixed_place c.args.bytes) (reference_parts c.args.reference.now)
    ∙ moved c.args.bytes o.line.module o.line.line (anchor_of o.anchor) o.offset o.subscripts.items (λ z. not_zero _ (sym c.is_empty.ensures ∙ c.if-not-is_empty.true) (o.subscripts.ok.0 ∙ z)))

pub returns-in-InObject : goal.returns-in-InObject
returns-in-InObject c =
    let o = out-Reference c.args.reference.now in
    let index = c.capped.ensures ∙ ap capped c.saturating_add.ensures ∙ capped_counted _ in
    ap (option_map where_of) c.then_some.ensures
    ∙ some_if c.fits.result _
    ∙ (λ j. cond (c.fits.ensures j) (Some (In c.in-InObject.object (index j))) None)
    ∙ sym (ap (fixed_place c.args.bytes) (reference_parts c.args.reference.now)
    ∙ unmoved c.args.bytes o.line.module o.line.line o.anchor (anchor.InObject c.in-InObject.object c.in-InObject.start c.in-InObject.size) o.offset o.subscripts.items (sym o.subscripts.ok.0 ∙ is_zero _ (sym c.is_empty.ensures ∙ c.if-not-is_empty.false)) c.in-InObject.is)

pub returns-in-OnScreen : goal.returns-in-OnScreen
returns-in-OnScreen c =
    let o = out-Reference c.args.reference.now in
    let index = c.capped-in-OnScreen.ensures ∙ ap capped c.saturating_add-in-OnScreen.ensures ∙ capped_counted _ in
    ap (option_map where_of) c.then_some-in-OnScreen.ensures
    ∙ some_if c.fits-in-OnScreen.result _
    ∙ (λ j. cond (c.fits-in-OnScreen.ensures j) (Some (Screen c.in-OnScreen.page (index j))) None)
    ∙ sym (ap (fixed_place c.args.bytes) (reference_parts c.args.reference.now)
    ∙ unmoved c.args.bytes o.line.module o.line.line o.anchor (anchor.OnScreen c.in-OnScreen.page c.in-OnScreen.start c.in-OnScreen.size) o.offset o.subscripts.items (sym o.subscripts.ok.0 ∙ is_zero _ (sym c.is_empty.ensures ∙ c.if-not-is_empty.false)) c.in-OnScreen.is)

pub returns-in-Behind : goal.returns-in-Behind
returns-in-Behind c =
    let o = out-Reference c.args.reference.now in
    sym (ap (fixed_place c.args.bytes) (reference_parts c.args.reference.now)
    ∙ unmoved c.args.bytes o.line.module o.line.line o.anchor (anchor.Behind c.in-Behind.field-0) o.offset o.subscripts.items (sym o.subscripts.ok.0 ∙ is_zero _ (sym c.is_empty.ensures ∙ c.if-not-is_empty.false)) c.in-Behind.is)

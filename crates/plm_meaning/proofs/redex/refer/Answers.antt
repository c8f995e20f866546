use Rattle.std.proofs.Common.{sym, ap, ◌∙◌, Some, None}
use Rattle.word86.specs.Access.{Write}
use Rattle.word86.specs.Arithmetic.{low}
use Rattle.plm_type.specs.Rest as rest
use Rattle.plm_type.specs.Rest.{Refer, NoSubscripts}
use Rattle.word86.specs.Place.{where_of}
use Rattle.plm_meaning.specs.Context.{origin_of, purposed}
use Rattle.plm_meaning.specs.declared.redex.Action.TheVariants as action
use Rattle.plm_meaning.specs.Inner.Redex.{acting, next_part, referred, stored, value_in}
use Rattle.plm_meaning.proofs.Steps as steps
use Rattle.plm_meaning.proofs.redex.refer.Goals as goal

pub returns-in-Locate-clause-step : goal.returns-in-Locate-clause-step
returns-in-Locate-clause-step c =
    let s = c.args.around.now in
    let l = c.args.line in
    let a = origin_of c.args.origin in
    ap (λ p. acting action.Silent (referred s p c.args.origin c.args.offset)) c.in-Locate.is
    ∙ steps.located_step s l.module l.line a c.args.offset c.address-address.result c.address-address.ensures
    ∙ ap (λ p. next_part s (purposed p (Refer l.module l.line a c.args.offset NoSubscripts))) (sym c.in-Locate.is)

pub returns-in-None-place-clause-step : goal.returns-in-None-place-clause-step
returns-in-None-place-clause-step c =
    let s = c.args.around.now in
    let l = c.args.line in
    let a = origin_of c.args.origin in
    let d = c.in-Store.destination in
    let w = c.in-Store.width in
    let r = Refer l.module l.line a c.args.offset NoSubscripts in
    steps.bad_step s d (rest.ToVariable w r) l.module l.line
    (steps.written s w l.module l.line a c.args.offset c.address-address.result (value_in d) None c.address-address.ensures c.in-None-place.ensures)
    ∙ ap (λ x. next_part s (purposed x r)) (sym c.in-Store.is)

pub returns-in-Some-place-clause-step : goal.returns-in-Some-place-clause-step
returns-in-Some-place-clause-step c =
    let s = c.args.around.now in
    let l = c.args.line in
    let a = origin_of c.args.origin in
    let d = c.in-Store.destination in
    let w = c.in-Store.width in
    let r = Refer l.module l.line a c.args.offset NoSubscripts in
    let x = where_of c.in-Some-place.place in
    ap (λ p. acting c.store.result (referred s p c.args.origin c.args.offset)) c.in-Store.is
    ∙ ap (λ y. acting y (λ v. stored d)) c.store.ensures.write
    ∙ steps.stored_step s d (rest.ToVariable w r) (Write w x (low w (value_in d)))
    (steps.written s w l.module l.line a c.args.offset c.address-address.result (value_in d) (Some x) c.address-address.ensures c.in-Some-place.ensures)
    ∙ ap (λ p. next_part s (purposed p r)) (sym c.in-Store.is)

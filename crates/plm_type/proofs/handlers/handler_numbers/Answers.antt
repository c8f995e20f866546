use Rattle.std.proofs.Common.{◌≡◌, ℕ, List, Option, Some, None, slice_get, replicate, map, sym, ap, subst, ◌∙◌, arith}
use Rattle.std.proofs.Math.ListN.{drop_of_length-le}
use Rattle.plm_decl.specs.Names.{procedure_of}
use Rattle.plm_type.specs.Programs.{declared_procedures, handler_number}
use Rattle.plm_type.specs.Inner.Handlers.{all_entered}
use Rattle.plm_type.proofs.Entering.{first_stands, alike_none}
use Rattle.plm_type.proofs.handlers.handler_numbers.Goals as goal

pub loop-number-init : goal.loop-number-init
loop-number-init c =
    let empty = c.in_ok-table.ensures.items_if_clones_equal (alike_none _ (λ x e. e)) in
    λ j. all_entered 0 (map procedure_of (c.deref-procedure-items.ensures.value j)) (empty j)

pub returns : goal.returns
returns c = λ v h.
    let here = c.loop-number in
    let ps = declared_procedures c.args.names.now in
    let past = drop_of_length-le c.deref-procedure-items.result.now (omega (arith, c.loop-number-test.false)) in
    let all : all_entered 0 ps (replicate 256 None) ≡ here.table.items
    = sym here.invariant ∙ ap (λ qs. all_entered here.number (map procedure_of qs) here.table.items) past in
    subst (λ (t : List (Option ℕ)). slice_get t v ≡ Some (handler_number c.args.names.now v)) all (first_stands v 256 ps h)

use Rattle.std.proofs.Common.{◌∷◌, ◌++◌, [], List, refl, sym, ap, ◌∙◌, arith, Ok}
use Rattle.plm_syntax.specs.declared.tree.Element.{Element}
use Rattle.plm_syntax.specs.Tree.{ElementsT, no_elements}
use Rattle.plm_syntax.specs.View.{elements_of}
use Rattle.plm_syntax.specs.Inner.Symbol.{Want, ElementsR, ElementG, MoreElementsG}
use Rattle.plm_syntax.specs.Inner.Machine.{run}
use Rattle.plm_syntax.specs.Inner.Parsed.{ahead, next_of}
use Rattle.plm_syntax.specs.Inner.Parts.{read_element, read_elements}
use Rattle.plm_syntax.proofs.Rows.{element_pushed}
use Rattle.plm_syntax.proofs.Along.{taken, refused, failed}
use Rattle.plm_syntax.proofs.Joined.{arrived, lost, stays_within, closes_by, closes_within}
use Rattle.plm_token.specs.declared.token.Mark.TheVariants as mark
use Rattle.plm_syntax.proofs.NextDeclaration.{more_elements_refused}
use Rattle.plm_syntax.proofs.declaration.elements.Goals as goal

pub loop-after-init : goal.loop-after-init
loop-after-init c = record {
  leads = λ s v d. arrived (read_element no_elements) (Want MoreElementsG ∷ s) v c.in_ok-rest.ensures.1.0 (c.element.ensures.leads no_elements (Want MoreElementsG ∷ s) v d)
      ∙ ap (λ (xs : List Element). run 64 (Want MoreElementsG ∷ s) (ElementsR (elements_of xs) ∷ v) (ahead c.in_ok-rest.rest)) (sym (c.in_ok-rest.ensures.1.1 ∙ ap (λ (xs : List Element). xs ++ c.in_ok-rest.ensures.0 ∷ []) c.new-list.ensures.items));
  shorter = stays_within c.args.cursor c.in_ok-rest.ensures.1.0 c.element.ensures.within;
}

pub loop-after-preserved : goal.loop-after-preserved
loop-after-preserved c = record {
  leads = λ s v d. c.loop-after.invariant.leads s v d
      ∙ taken (Want MoreElementsG ∷ s) (ElementsR (elements_of c.loop-after.list.items) ∷ v) c.in-Some.ensures
      ∙ arrived (read_element (elements_of c.loop-after.list.items)) (Want MoreElementsG ∷ s) v c.in_ok-rest-2.ensures.1.0 (c.element-in-Some.ensures.leads (elements_of c.loop-after.list.items) (Want MoreElementsG ∷ s) v d)
      ∙ ap (λ (xs : ElementsT). run 64 (Want MoreElementsG ∷ s) (ElementsR xs ∷ v) (ahead c.in_ok-rest-2.rest)) (sym (element_pushed c.loop-after.list.items c.in_ok-rest-2.ensures.0 no_elements))
      ∙ ap (λ (xs : List Element). run 64 (Want MoreElementsG ∷ s) (ElementsR (elements_of xs) ∷ v) (ahead c.in_ok-rest-2.rest)) (sym c.in_ok-rest-2.ensures.1.1);
  shorter = omega (arith, c.loop-after.invariant.shorter, c.in-Some.ensures.shorter, stays_within c.in-Some.after c.in_ok-rest-2.ensures.1.0 c.element-in-Some.ensures.within);
}

pub returns-in_err-rest-clause-leads : goal.returns-in_err-rest-clause-leads
returns-in_err-rest-clause-leads c = λ s v d. failed (λ es. read_elements es.items) s v c.from_residual.result c.in_err-rest.field-0.0 c.from_residual.ensures.1
    (refl)
    (lost (read_element no_elements) (Want MoreElementsG ∷ s) v c.element.result c.in_err-rest.field-0.0 (run 64 (Want ElementG ∷ Want MoreElementsG ∷ s) (ElementsR no_elements ∷ v) (ahead c.args.cursor)) c.in_err-rest.ensures (c.element.ensures.leads no_elements (Want MoreElementsG ∷ s) v d))

pub returns-in_err-rest-2-clause-leads : goal.returns-in_err-rest-2-clause-leads
returns-in_err-rest-2-clause-leads c = λ s v d. failed (λ es. read_elements es.items) s v c.from_residual-in_err-rest-2.result c.in_err-rest-2.field-0.0 c.from_residual-in_err-rest-2.ensures.1
    (c.loop-after.invariant.leads s v d
    ∙ taken (Want MoreElementsG ∷ s) (ElementsR (elements_of c.loop-after.list.items) ∷ v) c.in-Some.ensures)
    (lost (read_element (elements_of c.loop-after.list.items)) (Want MoreElementsG ∷ s) v c.element-in-Some.result c.in_err-rest-2.field-0.0 (run 64 (Want ElementG ∷ Want MoreElementsG ∷ s) (ElementsR (elements_of c.loop-after.list.items) ∷ v) (ahead c.in-Some.after)) c.in_err-rest-2.ensures (c.element-in-Some.ensures.leads (elements_of c.loop-after.list.items) (Want MoreElementsG ∷ s) v d))

pub returns-clause-leads : goal.returns-clause-leads
returns-clause-leads c = λ s v d. closes_by (λ es. read_elements es.items) mark.Semicolon s v c.loop-after.list c.loop-after.rest c.close.result c.close.ensures
    (λ q. c.loop-after.invariant.leads s v d
    ∙ refused MoreElementsG c.loop-after.rest s (ElementsR (elements_of c.loop-after.list.items) ∷ v) (more_elements_refused (next_of c.loop-after.rest) c.in_default.ensures q))
    (λ p b h. c.loop-after.invariant.leads s v d
    ∙ taken (Want MoreElementsG ∷ s) (ElementsR (elements_of c.loop-after.list.items) ∷ v) h)

pub returns-clause-within : goal.returns-clause-within
returns-clause-within c = closes_within mark.Semicolon c.args.cursor (Ok (c.loop-after.list, c.loop-after.rest)) c.close.result c.close.ensures c.loop-after.invariant.shorter

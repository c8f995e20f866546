use Rattle.std.proofs.Common.{◌≡◌, ◌+◌, List, ◌∷◌, ◌++◌, Bool, true, false, ◌&&◌, map, drop, drop-cons, add-one, append_assoc, refl, sym, ap, ◌∙◌}
use Rattle.std.proofs.lemmas.List.{append-nil, at_drop_all}
use Rattle.plm_syntax.specs.declared.tree.Value.{Value}
use Rattle.plm_syntax.specs.View.{value_of}
use Rattle.plm_decl.specs.declared.names.Datum.{Datum}
use Rattle.plm_decl.specs.Expressions.{is_constant, constant_data, all_constant_data, are_constants}
use Rattle.plm_decl.proofs.resolver.Resolver.constant_values.Goals as goal

and_assoc : (a b c : Bool) → ((a && b) && c) ≡ (a && (b && c))
and_assoc true b c = refl
and_assoc false b c = refl

and_true : (a : Bool) → (a && true) ≡ a
and_true true = refl
and_true false = refl

pub returns : goal.returns
returns c =
    let here = c.loop-value in
    let all = c.args.values.now in
    let i = here.value-index in
    record {
      bytes = sym (append-nil here.bytes.items)
          ∙ sym (at_drop_all (λ (vs : List Value). here.bytes.items ++ all_constant_data (map value_of vs)) all i c.loop-value-test.false)
          ∙ here.invariant.bytes;
      fit = sym (and_true here.are_bytes)
          ∙ sym (at_drop_all (λ (vs : List Value). here.are_bytes && are_constants (map value_of vs)) all i c.loop-value-test.false)
          ∙ here.invariant.fit;
    }

pub loop-value-preserved : goal.loop-value-preserved
loop-value-preserved c =
    let here = c.loop-value in
    let all = c.args.values.now in
    let i = here.value-index in
    let x = c.value-item.result in
    let rest = map value_of (drop (i + 1) all) in
    let one = sym (add-one i) in
    let is = sym c.value-item.is in
    let next = sym (drop-cons all i x c.loop-value-test.true ∙ (λ j. is j ∷ drop (one j) all)) in
    let read = c.in_ok-is_byte.ensures in
    record {
      bytes = ap (λ (l : List Datum). l ++ all_constant_data rest) read.bytes
          ∙ append_assoc here.bytes.items (constant_data (value_of x)) (all_constant_data rest)
          ∙ ap (λ (vs : List Value). here.bytes.items ++ all_constant_data (map value_of vs)) next
          ∙ here.invariant.bytes;
      fit = ap (λ (b : Bool). b && are_constants rest) (c.both-are_bytes.ensures ∙ ap (λ (b : Bool). here.are_bytes && b) read.byte)
          ∙ and_assoc here.are_bytes (is_constant (value_of x)) (are_constants rest)
          ∙ ap (λ (vs : List Value). here.are_bytes && are_constants (map value_of vs)) next
          ∙ here.invariant.fit;
    }

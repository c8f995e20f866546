-- Resolved expressions are within the final counts.
use Rattle.std.proofs.Common.{◌≡◌, ℕ, List, [], ◌∷◌, ◌++◌, map, length, Bool, true, false, cond, Option, Some, None, nat_lt, refl, sym, ap, ◌∙◌}
use Rattle.std.proofs.lemmas.Bool.{and_parts}
use Rattle.std.specs.List.{list_all}
use Rattle.std.proofs.lemmas.List.Folds.{list_all-append}
use Rattle.word86.specs.declared.number.Number.TheVariants.{E301, E305}
use Rattle.plm_token.specs.Strings.{string_characters}
use Rattle.plm_syntax.specs.declared.tree.Position.{Position}
use Rattle.plm_syntax.specs.Terminal.{NameT}
use Rattle.plm_syntax.specs.Tree.{ExpressionT, NumeralE, TextE, ReferenceE, LocationE, ParenthesisedE, EmbeddedE, UnaryE, BinaryE, ReferenceT, ReferenceOf, ExpressionsT, SelectorT, LocationT, ValueT, NumeralV, NegativeV, TextV, LocationV}
use Rattle.plm_syntax.specs.Tree as tree
use Rattle.plm_decl.specs.declared.names.Datum.{Datum}
use Rattle.plm_decl.specs.declared.names.Datum.TheVariants as datum
use Rattle.plm_decl.specs.declared.resolved.Binding.{Binding}
use Rattle.plm_decl.specs.Layout.{StructureR}
use Rattle.plm_decl.specs.Scope.{Frame}
use Rattle.plm_decl.specs.Resolver.{Known}
use Rattle.plm_decl.specs.Lists.{value_list}
use Rattle.plm_decl.specs.Uses.{used}
use Rattle.plm_decl.specs.Resolved.{ExpressionR, ExpressionsR, no_expressions, expressions, and_expression}
use Rattle.plm_decl.specs.Expressions.{structure_meant, member_of_structure, member_meant, one_datum, constant_data, all_constant_data, are_constants, with_constants, constant_bytes, expression, reference, subscripts, selector, location}
use Rattle.plm_decl.specs.Ranges.{Counts, datum_within, expression_within, reference_within, expressions_within, selector_within, location_within}
use Rattle.plm_decl.proofs.Kept.{Ends, Kept, kept, kept_then, both, frames_within, note_unless_kept, all_pushed, pushed_below, pushed_most}
use Rattle.plm_decl.proofs.Lying.{pushed_lie}
use Rattle.plm_decl.proofs.RangesNames.{used_kept, used_within}

pub structure_member_kept : (c : Counts) (s : Option StructureR) (n : NameT) (k : Known) → Kept c k (member_of_structure s n k).1
structure_member_kept c None n k = kept c k
structure_member_kept c (Some s) n k = note_unless_kept c _ E301 n.place k

pub member_kept : (c : Counts) (m : Binding) (n : NameT) (k : Known) → Kept c k (member_meant m n k).1
member_kept c m n k = structure_member_kept c (structure_meant k m) n k

-- ---- constant bytes

bytes_within : (c : Counts) (xs : List ℕ) → list_all (datum_within c) (map (λ x. datum.Byte x) xs) ≡ true
bytes_within c [] = refl
bytes_within c (x ∷ xs) = bytes_within c xs

one_within : (c : Counts) (b : Bool) (n : ℕ) → list_all (datum_within c) (one_datum (cond b (Some (datum.Byte n)) None)) ≡ true
one_within c true n = refl
one_within c false n = refl

value_within : (c : Counts) (v : ValueT) → list_all (datum_within c) (constant_data v) ≡ true
value_within c (TextV s) = bytes_within c (string_characters s.text)
value_within c (NumeralV n) = one_within c _ _
value_within c (NegativeV n) = one_within c _ _
value_within c (LocationV l) = refl

values_within : (c : Counts) (vs : List ValueT) → list_all (datum_within c) (all_constant_data vs) ≡ true
values_within c [] = refl
values_within c (v ∷ vs) = list_all-append (datum_within c) (constant_data v) (all_constant_data vs) ∙ both (value_within c v) (values_within c vs)

with_constants_kept : (c : Counts) (frames : List Frame) (bytes : List Datum) (k : Known) → list_all (datum_within c) bytes ≡ true → Kept c k (with_constants frames bytes k)
with_constants_kept c frames bytes k h = record {
  ends = λ e. (e.0, e.1, pushed_most k.objects _ c.objects e.2, e.3, e.4);
  within = λ e w. (w.0, all_pushed _ k.objects _ w.1 h, w.2, w.3, w.4, w.5, w.6, pushed_lie k.objects _ k.variables w.7);
}

pub constant_bytes_kept : (c : Counts) (frames : List Frame) (p : Position) (vs : List ValueT) (k : Known) → Kept c k (constant_bytes frames p vs k).1
constant_bytes_kept c frames p vs k = kept_then (note_unless_kept c (are_constants vs) E305 p k) (with_constants_kept c frames (all_constant_data vs) _ (values_within c vs))

objects_same : (b : Bool) (p : Position) (k : Known) → (cond b k (record k { faults = k.faults ++ record { «module» = k.module; place = p; number = E305 } ∷ [] })).objects ≡ k.objects
objects_same true p k = refl
objects_same false p k = refl

pub constant_bytes_within : (c : Counts) (frames : List Frame) (p : Position) (vs : List ValueT) (k : Known) → Ends c (constant_bytes frames p vs k).1 → nat_lt (constant_bytes frames p vs k).0 c.objects ≡ true
constant_bytes_within c frames p vs k e =
    ap (λ (os : List _). nat_lt (length os) c.objects) (sym (objects_same (are_constants vs) p k)) ∙ pushed_below _ _ c.objects e.2

-- ---- expressions

mutual
  pub expression_kept : (c : Counts) (frames : List Frame) (e : ExpressionT) (k : Known) → Kept c k (expression frames e k).1
  expression_kept c frames (NumeralE n) k = kept c k
  expression_kept c frames (TextE s) k = kept c k
  expression_kept c frames (ReferenceE x) k = reference_kept c frames x k
  expression_kept c frames (LocationE l) k = location_kept c frames l k
  expression_kept c frames (ParenthesisedE p e) k = expression_kept c frames e k
  expression_kept c frames (EmbeddedE p x e) k = kept_then (reference_kept c frames x k) (expression_kept c frames e (reference frames x k).1)
  expression_kept c frames (UnaryE p o e) k = expression_kept c frames e k
  expression_kept c frames (BinaryE p o a b) k = kept_then (expression_kept c frames a k) (expression_kept c frames b (expression frames a k).1)

  pub reference_kept : (c : Counts) (frames : List Frame) (x : ReferenceT) (k : Known) → Kept c k (reference frames x k).1
  reference_kept c frames (ReferenceOf n es s) k =
      let m = used frames n k in
      kept_then (used_kept c frames n k) (kept_then (subscripts_kept c frames es m.1) (selector_kept c frames m.0 s (subscripts frames es m.1).1))

  pub subscripts_kept : (c : Counts) (frames : List Frame) (es : ExpressionsT) (k : Known) → Kept c k (subscripts frames es k).1
  subscripts_kept c frames tree.no_expressions k = kept c k
  subscripts_kept c frames (tree.expressions es e) k = kept_then (subscripts_kept c frames es k) (expression_kept c frames e (subscripts frames es k).1)

  pub selector_kept : (c : Counts) (frames : List Frame) (m : Binding) (s : SelectorT) (k : Known) → Kept c k (selector frames m s k).1
  selector_kept c frames m tree.no_member k = kept c k
  selector_kept c frames m (tree.member n) k = member_kept c m n k
  selector_kept c frames m (tree.member_at n e) k = kept_then (member_kept c m n k) (expression_kept c frames e (member_meant m n k).1)

  pub location_kept : (c : Counts) (frames : List Frame) (l : LocationT) (k : Known) → Kept c k (location frames l k).1
  location_kept c frames (tree.LocationOf p f x) k = reference_kept c frames x k
  location_kept c frames (tree.ConstantsOf p f vs) k = constant_bytes_kept c frames p (value_list vs) k

pub and_within : (c : Counts) (es : ExpressionsR) (e : ExpressionR) → expressions_within c es ≡ true → expression_within c e ≡ true → expressions_within c (and_expression es e) ≡ true
and_within c no_expressions e h d = both d refl
and_within c (expressions x es) e h d =
    both (and_parts (expression_within c x) (expressions_within c es) h).0 (and_within c es e (and_parts (expression_within c x) (expressions_within c es) h).1 d)

mutual
  pub expression_is_within : (c : Counts) (frames : List Frame) (e : ExpressionT) (k : Known) → frames_within c frames ≡ true → Ends c (expression frames e k).1 → expression_within c (expression frames e k).0 ≡ true
  expression_is_within c frames (NumeralE n) k h e = refl
  expression_is_within c frames (TextE s) k h e = refl
  expression_is_within c frames (ReferenceE x) k h e = reference_is_within c frames x k h e
  expression_is_within c frames (LocationE l) k h e = location_is_within c frames l k h e
  expression_is_within c frames (ParenthesisedE p x) k h e = expression_is_within c frames x k h e
  expression_is_within c frames (EmbeddedE p x y) k h e =
      both (reference_is_within c frames x k h ((expression_kept c frames y (reference frames x k).1).ends e)) (expression_is_within c frames y (reference frames x k).1 h e)
  expression_is_within c frames (UnaryE p o x) k h e = expression_is_within c frames x k h e
  expression_is_within c frames (BinaryE p o a b) k h e =
      both (expression_is_within c frames a k h ((expression_kept c frames b (expression frames a k).1).ends e)) (expression_is_within c frames b (expression frames a k).1 h e)

  pub reference_is_within : (c : Counts) (frames : List Frame) (x : ReferenceT) (k : Known) → frames_within c frames ≡ true → Ends c (reference frames x k).1 → reference_within c (reference frames x k).0 ≡ true
  reference_is_within c frames (ReferenceOf n es s) k h e =
      let m = used frames n k in
      let q = (subscripts frames es m.1).1 in
      let before = (selector_kept c frames m.0 s q).ends e in
      both (used_within c frames n k h ((subscripts_kept c frames es m.1).ends before))
      (both (subscripts_are_within c frames es m.1 h before) (selector_is_within c frames m.0 s q h e))

  pub subscripts_are_within : (c : Counts) (frames : List Frame) (es : ExpressionsT) (k : Known) → frames_within c frames ≡ true → Ends c (subscripts frames es k).1 → expressions_within c (subscripts frames es k).0 ≡ true
  subscripts_are_within c frames tree.no_expressions k h e = refl
  subscripts_are_within c frames (tree.expressions es x) k h e =
      and_within c (subscripts frames es k).0 (expression frames x (subscripts frames es k).1).0 (subscripts_are_within c frames es k h ((expression_kept c frames x (subscripts frames es k).1).ends e)) (expression_is_within c frames x (subscripts frames es k).1 h e)

  pub selector_is_within : (c : Counts) (frames : List Frame) (m : Binding) (s : SelectorT) (k : Known) → frames_within c frames ≡ true → Ends c (selector frames m s k).1 → selector_within c (selector frames m s k).0 ≡ true
  selector_is_within c frames m tree.no_member k h e = refl
  selector_is_within c frames m (tree.member n) k h e = refl
  selector_is_within c frames m (tree.member_at n x) k h e = expression_is_within c frames x (member_meant m n k).1 h e

  pub location_is_within : (c : Counts) (frames : List Frame) (l : LocationT) (k : Known) → frames_within c frames ≡ true → Ends c (location frames l k).1 → location_within c (location frames l k).0 ≡ true
  location_is_within c frames (tree.LocationOf p f x) k h e = reference_is_within c frames x k h e
  location_is_within c frames (tree.ConstantsOf p f vs) k h e = constant_bytes_within c frames p (value_list vs) k e

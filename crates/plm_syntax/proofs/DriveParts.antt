-- The leaves of an expression lead a run over the expression: primaries, references, locations.
use Rattle.std.proofs.Common.{◌≡◌, ℕ, suc, ◌<◌, List, [], ◌∷◌, ◌++◌, Bool, true, false, cond, Option, refl, sym, ap, ◌∙◌, subst, arith}
use Rattle.plm_token.specs.declared.token.Mark.TheVariants as mark
use Rattle.plm_syntax.specs.declared.tree.Position.{Position}
use Rattle.plm_syntax.specs.declared.tree.UnaryOperator.TheVariants as unary
use Rattle.plm_syntax.specs.declared.tree.BinaryOperator.{BinaryOperator}
use Rattle.plm_syntax.specs.declared.tree.BinaryOperator.TheVariants as binary
use Rattle.plm_syntax.specs.Terminal.{NameT, Terminal, Sign, Leaf, leaf, leaf_at}
use Rattle.plm_syntax.specs.Inner.Terminal.{is_sign}
use Rattle.plm_syntax.specs.Tree.{LocationForm, Pointer, Offset, ExpressionT, NumeralE, TextE, ReferenceE, LocationE, ParenthesisedE, EmbeddedE, UnaryE, BinaryE, ReferenceOf, ExpressionsT, no_expressions, expressions, SelectorT, no_member, member, member_at, LocationT, LocationOf, ConstantsOf, ValueT, NumeralV, NegativeV, TextV, LocationV, ValuesT, no_values, values}
use Rattle.plm_syntax.specs.Spelling.{binary_sign, expression, reference, subscripts, selector, value, value_list, listed_values, put_leaf}
use Rattle.plm_syntax.specs.WellFormed.{Well, WellExpressions, WellSelector, WellLocation, WellValue, WellValues, WellSomeValues}
use Rattle.plm_syntax.specs.Inner.Symbol.{Value, Symbol, depth, behind, otherwise, need, ExpressionR, ValueR, ValuesR, Products, Sums, Relations, Conjunctions, Disjunctions, MoreG, InsideG, AfterReferenceG, LocatedG, ValueG, MoreValuesG, Want, Do, Leave, Refused, Take}
use Rattle.plm_syntax.specs.Inner.Machine.{an_expression, make_parenthesised, make_embedded, more, reference_begun, closing, locate, locate_values, location_value, add_value, a_value_list, feed, Trace, trace, Stay, Next, Then}
use Rattle.plm_syntax.proofs.Steps.{same_trace, ruled, feed_want, ruled_otherwise, binds, Stops, stops, did, left, no_subscripts, no_selector}
use Rattle.plm_syntax.proofs.DriveExpression.{put_then, ReadsE, bare, a_primary, a_signed, Drives, whole, from_signed, binary_drives, unary_drives, a_reference, DrivesSelector, DrivesSubscripts, DrivesListed, another, subscripted, member_subscripted, selected, DrivesReference, Some_leaf, some_leaf, some_of, pushed, referred}

-- ---- after "(" and a reference

-- what may follow an expression in parentheses, or a part of it
pub data Closes : List Leaf → Type 0 where
  closes : {l : Leaf} {ls : List Leaf} → 1 < binds l.terminal → is_sign mark.Assign l.terminal ≡ false → Closes (l ∷ ls)

pub stops_at : {ls : List Leaf} → Closes ls → Stops 1 ls
stops_at (closes h e) = stops h

pub operator_closes : (p : Position) (o : BinaryOperator) (ls : List Leaf) → Closes (leaf_at (binary_sign o) p ∷ ls)
operator_closes p binary.Multiply ls = closes (omega arith) refl
operator_closes p binary.Divide ls = closes (omega arith) refl
operator_closes p binary.Modulo ls = closes (omega arith) refl
operator_closes p binary.Add ls = closes (omega arith) refl
operator_closes p binary.Subtract ls = closes (omega arith) refl
operator_closes p binary.Equal ls = closes (omega arith) refl
operator_closes p binary.NotEqual ls = closes (omega arith) refl
operator_closes p binary.Less ls = closes (omega arith) refl
operator_closes p binary.LessEqual ls = closes (omega arith) refl
operator_closes p binary.Greater ls = closes (omega arith) refl
operator_closes p binary.GreaterEqual ls = closes (omega arith) refl
operator_closes p binary.And ls = closes (omega arith) refl
operator_closes p binary.Or ls = closes (omega arith) refl
operator_closes p binary.ExclusiveOr ls = closes (omega arith) refl

pub closing_is : (p : Position) (s : List Symbol) (v : List Value) (t : Terminal) (q : Option Position) → ruled (cond (is_sign mark.RightParenthesis t) (Take false (Do (make_parenthesised p) ∷ [])) Refused) s v t q ≡ feed (closing p ++ s) v t q
closing_is p s v t q = by_test (is_sign mark.RightParenthesis t)
  where
    by_test : (b : Bool) → ruled (cond b (Take false (Do (make_parenthesised p) ∷ [])) Refused) s v t q ≡ cond b (Next (Do (make_parenthesised p) ∷ s) v) Stay
    by_test true = refl
    by_test false = refl

-- After the reference that begins an expression in parentheses, where no ":=" comes, the expression goes on.
pub after_goes : (p : Position) (s : List Symbol) (v : List Value) (l : Leaf) (ls : List Leaf) → is_sign mark.Assign l.terminal ≡ false → trace (Want (AfterReferenceG p) ∷ s) v (l ∷ ls) ≡ trace (Want (MoreG Products) ∷ Want (MoreG Sums) ∷ Want (MoreG Relations) ∷ Want (MoreG Conjunctions) ∷ Want (MoreG Disjunctions) ∷ (closing p ++ s)) v (l ∷ ls)
after_goes p s v l ls e =
    let t = l.terminal in
    let q = l.place in
    let tail : ruled (otherwise (behind (more Products t) (Want (MoreG Sums) ∷ Want (MoreG Relations) ∷ Want (MoreG Conjunctions) ∷ Want (MoreG Disjunctions) ∷ closing p))
    (otherwise (behind (more Sums t) (Want (MoreG Relations) ∷ Want (MoreG Conjunctions) ∷ Want (MoreG Disjunctions) ∷ closing p))
    (otherwise (behind (more Relations t) (Want (MoreG Conjunctions) ∷ Want (MoreG Disjunctions) ∷ closing p))
    (otherwise (behind (more Conjunctions t) (Want (MoreG Disjunctions) ∷ closing p))
    (otherwise (behind (more Disjunctions t) (closing p))
    (cond (is_sign mark.RightParenthesis t) (Take false (Do (make_parenthesised p) ∷ [])) Refused)))))) s v t q
    ≡ ruled (more Products t) (Want (MoreG Sums) ∷ Want (MoreG Relations) ∷ Want (MoreG Conjunctions) ∷ Want (MoreG Disjunctions) ∷ (closing p ++ s)) v t q
    = ruled_otherwise (more Products t) _ (Want (MoreG Sums) ∷ Want (MoreG Relations) ∷ Want (MoreG Conjunctions) ∷ Want (MoreG Disjunctions) ∷ closing p) s s v t q
    (ruled_otherwise (more Sums t) _ (Want (MoreG Relations) ∷ Want (MoreG Conjunctions) ∷ Want (MoreG Disjunctions) ∷ closing p) s s v t q
    (ruled_otherwise (more Relations t) _ (Want (MoreG Conjunctions) ∷ Want (MoreG Disjunctions) ∷ closing p) s s v t q
    (ruled_otherwise (more Conjunctions t) _ (Want (MoreG Disjunctions) ∷ closing p) s s v t q
    (ruled_otherwise (more Disjunctions t) _ (closing p) s s v t q (closing_is p s v t q)
    ∙ sym (feed_want (MoreG Disjunctions) (closing p ++ s) v t q))
    ∙ sym (feed_want (MoreG Conjunctions) (Want (MoreG Disjunctions) ∷ (closing p ++ s)) v t q))
    ∙ sym (feed_want (MoreG Relations) (Want (MoreG Conjunctions) ∷ Want (MoreG Disjunctions) ∷ (closing p ++ s)) v t q))
    ∙ sym (feed_want (MoreG Sums) (Want (MoreG Relations) ∷ Want (MoreG Conjunctions) ∷ Want (MoreG Disjunctions) ∷ (closing p ++ s)) v t q)) in
    same_trace (Want (AfterReferenceG p) ∷ s) (Want (MoreG Products) ∷ Want (MoreG Sums) ∷ Want (MoreG Relations) ∷ Want (MoreG Conjunctions) ∷ Want (MoreG Disjunctions) ∷ (closing p ++ s)) v v l ls
    (feed_want (AfterReferenceG p) s v t q
    ∙ ap (λ (b : Bool). ruled (cond b (Take false (an_expression (need mark.RightParenthesis ∷ Do (make_embedded p) ∷ [])))
    (otherwise (behind (more Products t) (Want (MoreG Sums) ∷ Want (MoreG Relations) ∷ Want (MoreG Conjunctions) ∷ Want (MoreG Disjunctions) ∷ closing p))
    (otherwise (behind (more Sums t) (Want (MoreG Relations) ∷ Want (MoreG Conjunctions) ∷ Want (MoreG Disjunctions) ∷ closing p))
    (otherwise (behind (more Relations t) (Want (MoreG Conjunctions) ∷ Want (MoreG Disjunctions) ∷ closing p))
    (otherwise (behind (more Conjunctions t) (Want (MoreG Disjunctions) ∷ closing p))
    (otherwise (behind (more Disjunctions t) (closing p))
    (cond (is_sign mark.RightParenthesis t) (Take false (Do (make_parenthesised p) ∷ [])) Refused))))))) s v t q) e
    ∙ tail
    ∙ sym (feed_want (MoreG Products) (Want (MoreG Sums) ∷ Want (MoreG Relations) ∷ Want (MoreG Conjunctions) ∷ Want (MoreG Disjunctions) ∷ (closing p ++ s)) v t q))

pub after_is : (p : Position) (s : List Symbol) (v : List Value) {ls : List Leaf} → Closes ls → trace (Want (AfterReferenceG p) ∷ s) v ls ≡ trace (Want (MoreG Products) ∷ Want (MoreG Sums) ∷ Want (MoreG Relations) ∷ Want (MoreG Conjunctions) ∷ Want (MoreG Disjunctions) ∷ (closing p ++ s)) v ls
after_is p s v (closes {l} {ls} h e) = after_goes p s v l ls e

-- an expression in parentheses is read as one
abbrev pub InsideIs : ExpressionT → Type 0
InsideIs e = (p : Position) (d : ℕ) (s : List Symbol) (v : List Value) (ls : List Leaf) → d ≡ depth s → Closes ls → trace (Want (InsideG p) ∷ s) v (expression put_leaf d e ls) ≡ trace (an_expression (closing p ++ s)) v (expression put_leaf d e ls)

pub inside_reference : (n : NameT) (es : ExpressionsT) (m : SelectorT) → DrivesReference es m → InsideIs (ReferenceE (ReferenceOf n es m))
inside_reference n es m h p d s v ls e q =
    let at : (x : ℕ) → x ≡ depth s → trace (Want (InsideG p) ∷ s) v (expression put_leaf x (ReferenceE (ReferenceOf n es m)) ls) ≡ trace (an_expression (closing p ++ s)) v (expression put_leaf x (ReferenceE (ReferenceOf n es m)) ls)
    = λ x is. subst (λ (y : ℕ). trace (Want (InsideG p) ∷ s) v (expression put_leaf y (ReferenceE (ReferenceOf n es m)) ls) ≡ trace (an_expression (closing p ++ s)) v (expression put_leaf y (ReferenceE (ReferenceOf n es m)) ls)) (sym is)
    (ap (Then 0) (h.begun n (Want (AfterReferenceG p) ∷ s) v ls _ (stops_at q) (after_is p s (a_reference n es m ∷ v) q)
    ∙ sym (h.begun n (Want (MoreG Products) ∷ Want (MoreG Sums) ∷ Want (MoreG Relations) ∷ Want (MoreG Conjunctions) ∷ Want (MoreG Disjunctions) ∷ (closing p ++ s)) v ls _ (stops_at q) refl))) in
    at d e

-- ---- locations and values

abbrev pub DrivesLocated : LocationT → Type 0
DrivesLocated (LocationOf p f x) = (s : List Symbol) (v : List Value) (ls : List Leaf) (r : Trace) → Stops 1 ls → trace s (ExpressionR (LocationE (LocationOf p f x)) ∷ v) ls ≡ r
    → trace (Want (LocatedG p f) ∷ s) v (reference put_leaf 0 (depth s) x ls) ≡ reference put_then 0 (depth s) x r
DrivesLocated (ConstantsOf p f vs) = (s : List Symbol) (v : List Value) (ls : List Leaf) (r : Trace) → Stops 1 ls → trace s (ExpressionR (LocationE (ConstantsOf p f vs)) ∷ v) ls ≡ r
    → trace (Want (LocatedG p f) ∷ s) v (leaf (Sign mark.LeftParenthesis) ∷ value_list put_leaf (suc (depth s)) vs (leaf (Sign mark.RightParenthesis) ∷ ls)) ≡ Then (suc (depth s)) (value_list put_then (suc (depth s)) vs (Then 0 r))

abbrev pub DrivesValue : ValueT → Type 0
DrivesValue w = (s : List Symbol) (v : List Value) (ls : List Leaf) (r : Trace) → Stops 1 ls → trace s (ValueR w ∷ v) ls ≡ r → trace (Want ValueG ∷ s) v (value put_leaf (depth s) w ls) ≡ value put_then (depth s) w r

abbrev pub value_and_more : List Symbol → List Symbol
value_and_more s = Want ValueG ∷ Do add_value ∷ Want MoreValuesG ∷ s

abbrev pub DrivesListedValues : ValuesT → Type 0
DrivesListedValues ws = (s : List Symbol) (v : List Value) (ls : List Leaf) (r : Trace) → trace (value_and_more s) (ValuesR ws ∷ v) ls ≡ r
    → trace (value_and_more s) (ValuesR no_values ∷ v) (listed_values put_leaf (depth s) ws ls) ≡ listed_values put_then (depth s) ws r

-- a list of values, and the parenthesis after it
abbrev pub DrivesValues : ValuesT → Type 0
DrivesValues ws = (s : List Symbol) (v : List Value) (ls : List Leaf) (r : Trace) → trace s (ValuesR ws ∷ v) ls ≡ r
    → trace (a_value_list s) v (value_list put_leaf (depth s) ws (leaf (Sign mark.RightParenthesis) ∷ ls)) ≡ value_list put_then (depth s) ws (Then 0 r)

pub some_value : (d : ℕ) (w : ValueT) (ls : List Leaf) → Some_leaf (value put_leaf d w ls)
some_value d (NumeralV n) ls = some_leaf
some_value d (NegativeV n) ls = some_leaf
some_value d (TextV n) ls = some_leaf
some_value d (LocationV (LocationOf p f x)) ls = some_leaf
some_value d (LocationV (ConstantsOf p f vs)) ls = some_leaf

pub some_values : (d : ℕ) (ws : ValuesT) {ls : List Leaf} → Some_leaf ls → Some_leaf (listed_values put_leaf d ws ls)
some_values d no_values q = q
some_values d (values ws w) {ls} q = some_values d ws (some_value d w (leaf (Sign mark.Comma) ∷ ls))

pub another_value : (ws : ValuesT) (w : ValueT) → DrivesListedValues ws → DrivesValue w → DrivesListedValues (values ws w)
another_value ws w h d = λ s v ls r k. h s v (value put_leaf (depth s) w (leaf (Sign mark.Comma) ∷ ls)) _ (d (Do add_value ∷ Want MoreValuesG ∷ s) (ValuesR ws ∷ v) (leaf (Sign mark.Comma) ∷ ls) _ (stops (omega arith)) (ap (Then 0) k))

pub values_drive : (ws : ValuesT) (w : ValueT) → DrivesListedValues ws → DrivesValue w → DrivesValues (values ws w)
values_drive ws w h d = λ s v ls r k.
    pushed (ValuesR no_values) (value_and_more s) v (some_values (depth s) ws (some_value (depth s) w (leaf (Sign mark.RightParenthesis) ∷ ls)))
    ∙ h s v (value put_leaf (depth s) w (leaf (Sign mark.RightParenthesis) ∷ ls)) _ (d (Do add_value ∷ Want MoreValuesG ∷ s) (ValuesR ws ∷ v) (leaf (Sign mark.RightParenthesis) ∷ ls) _ (stops (omega arith)) (ap (Then 0) k))

pub located_reference : (p : Position) (f : LocationForm) (n : NameT) (es : ExpressionsT) (m : SelectorT) → DrivesReference es m → DrivesLocated (LocationOf p f (ReferenceOf n es m))
located_reference p f n es m h = λ s v ls r q k. ap (Then 0) (h.begun n (Do (locate p f) ∷ s) v ls _ q (did (locate p f) s _ _ q refl ∙ k))

pub located_values : (p : Position) (f : LocationForm) (ws : ValuesT) → DrivesValues ws → DrivesLocated (ConstantsOf p f ws)
located_values p f ws h = λ s v ls r q k. ap (Then (suc (depth s))) (h (Leave ∷ Do (locate_values p f) ∷ s) v ls _ (left (Do (locate_values p f) ∷ s) _ q ∙ did (locate_values p f) s _ _ q refl ∙ k))

pub location_primary : (l : LocationT) → DrivesLocated l → ReadsE a_primary bare (LocationE l) 1
location_primary (LocationOf p Pointer x) h = λ s v ls r q k. ap (Then 0) (h s v ls r q k)
location_primary (LocationOf p Offset x) h = λ s v ls r q k. ap (Then 0) (h s v ls r q k)
location_primary (ConstantsOf p Pointer x) h = λ s v ls r q k. ap (Then 0) (h s v ls r q k)
location_primary (ConstantsOf p Offset x) h = λ s v ls r q k. ap (Then 0) (h s v ls r q k)

pub location_signed : (l : LocationT) → DrivesLocated l → ReadsE a_signed bare (LocationE l) 1
location_signed (LocationOf p Pointer x) h = λ s v ls r q k. ap (Then 0) (h s v ls r q k)
location_signed (LocationOf p Offset x) h = λ s v ls r q k. ap (Then 0) (h s v ls r q k)
location_signed (ConstantsOf p Pointer x) h = λ s v ls r q k. ap (Then 0) (h s v ls r q k)
location_signed (ConstantsOf p Offset x) h = λ s v ls r q k. ap (Then 0) (h s v ls r q k)

pub location_valued : (l : LocationT) → DrivesLocated l → DrivesValue (LocationV l)
location_valued (LocationOf p Pointer x) h = λ s v ls r q k. ap (Then 0) (h (Do location_value ∷ s) v ls r q (did location_value s _ _ q refl ∙ k))
location_valued (LocationOf p Offset x) h = λ s v ls r q k. ap (Then 0) (h (Do location_value ∷ s) v ls r q (did location_value s _ _ q refl ∙ k))
location_valued (ConstantsOf p Pointer x) h = λ s v ls r q k. ap (Then 0) (h (Do location_value ∷ s) v ls r q (did location_value s _ _ q refl ∙ k))
location_valued (ConstantsOf p Offset x) h = λ s v ls r q k. ap (Then 0) (h (Do location_value ∷ s) v ls r q (did location_value s _ _ q refl ∙ k))

-- ---- primaries

pub parenthesised : (p : Position) (e : ExpressionT) → Well e → InsideIs e → Drives e → Drives (ParenthesisedE p e)
parenthesised p e w h d =
    let body : (s : List Symbol) (v : List Value) (ls : List Leaf) (r : Trace) → Stops 1 ls → trace s (ExpressionR (ParenthesisedE p e) ∷ v) ls ≡ r
    → trace (Want (InsideG p) ∷ Leave ∷ s) v (expression put_leaf (suc (depth s)) e (leaf (Sign mark.RightParenthesis) ∷ ls)) ≡ expression put_then (suc (depth s)) e (Then 0 r)
    = λ s v ls r q k. h p (suc (depth s)) (Leave ∷ s) v (leaf (Sign mark.RightParenthesis) ∷ ls) refl (closes (omega arith) refl)
    ∙ whole d (closing p ++ (Leave ∷ s)) v (leaf (Sign mark.RightParenthesis) ∷ ls) (Then 0 r) (stops (omega arith)) (ap (Then 0) (did (make_parenthesised p) (Leave ∷ s) _ _ q refl ∙ left s _ q ∙ k)) in
    from_signed (ParenthesisedE p e) (omega arith) w
    (λ m s v ls r q k. ap (Then (suc (depth s))) (body s v ls r q k))
    (λ s v ls r q k. ap (Then (suc (depth s))) (body s v ls r q k))

pub embedded : (p : Position) (n : NameT) (es : ExpressionsT) (m : SelectorT) (e : ExpressionT) → Well (EmbeddedE p (ReferenceOf n es m) e) → DrivesReference es m → Drives e → Drives (EmbeddedE p (ReferenceOf n es m) e)
embedded p n es m e w h d =
    let body : (s : List Symbol) (v : List Value) (ls : List Leaf) (r : Trace) → Stops 1 ls → trace s (ExpressionR (EmbeddedE p (ReferenceOf n es m) e) ∷ v) ls ≡ r
    → trace (reference_begun n (Want (AfterReferenceG p) ∷ Leave ∷ s)) v (subscripts put_leaf (suc (depth s)) es (selector put_leaf (suc (depth s)) m (leaf (Sign mark.Assign) ∷ expression put_leaf (suc (depth s)) e (leaf (Sign mark.RightParenthesis) ∷ ls)))) ≡ subscripts put_then (suc (depth s)) es (selector put_then (suc (depth s)) m (Then 0 (expression put_then (suc (depth s)) e (Then 0 r))))
    = λ s v ls r q k. h.begun n (Want (AfterReferenceG p) ∷ Leave ∷ s) v (leaf (Sign mark.Assign) ∷ expression put_leaf (suc (depth s)) e (leaf (Sign mark.RightParenthesis) ∷ ls)) _ (stops (omega arith))
    (ap (Then 0) (whole d (need mark.RightParenthesis ∷ Do (make_embedded p) ∷ Leave ∷ s) (a_reference n es m ∷ v) (leaf (Sign mark.RightParenthesis) ∷ ls) _ (stops (omega arith))
    (ap (Then 0) (did (make_embedded p) (Leave ∷ s) _ _ q refl ∙ left s _ q ∙ k)))) in
    from_signed (EmbeddedE p (ReferenceOf n es m) e) (omega arith) w
    (λ g s v ls r q k. ap (λ (x : Trace). Then (suc (depth s)) (Then 0 x)) (body s v ls r q k))
    (λ s v ls r q k. ap (λ (x : Trace). Then (suc (depth s)) (Then 0 x)) (body s v ls r q k))

mutual
  pub drives : (e : ExpressionT) → Well e → Drives e
  drives (NumeralE n) w = from_signed (NumeralE n) (omega arith) w (λ m s v ls r q k. ap (Then 0) (pushed (ExpressionR (NumeralE n)) s v (some_of q) ∙ k)) (λ s v ls r q k. ap (Then 0) (pushed (ExpressionR (NumeralE n)) s v (some_of q) ∙ k))
  drives (TextE t) w = from_signed (TextE t) (omega arith) w (λ m s v ls r q k. ap (Then 0) (pushed (ExpressionR (TextE t)) s v (some_of q) ∙ k)) (λ s v ls r q k. ap (Then 0) (pushed (ExpressionR (TextE t)) s v (some_of q) ∙ k))
  drives (ReferenceE (ReferenceOf n es m)) w = from_signed (ReferenceE (ReferenceOf n es m)) (omega arith) w
      (λ g s v ls r q k. ap (Then 0) ((referred es m (drives_subscripts es w.0) (drives_selector m w.1)).begun n s v ls r q k))
      (λ s v ls r q k. ap (Then 0) ((referred es m (drives_subscripts es w.0) (drives_selector m w.1)).begun n s v ls r q k))
  drives (LocationE l) w = from_signed (LocationE l) (omega arith) w (λ g. location_primary l (drives_located l w)) (location_signed l (drives_located l w))
  drives (ParenthesisedE p e) w = parenthesised p e w (inside_is e w) (drives e w)
  drives (EmbeddedE p (ReferenceOf n es m) e) w = embedded p n es m e w (referred es m (drives_subscripts es w.0.0) (drives_selector m w.0.1)) (drives e w.1)
  drives (UnaryE p o e) w = unary_drives p o e w (drives e w.1)
  drives (BinaryE p o a b) w = binary_drives p o a b w (drives a w.2) (drives b w.3)

  inside_is : (e : ExpressionT) → Well e → InsideIs e
  inside_is (NumeralE n) w p d s v ls e q = refl
  inside_is (TextE t) w p d s v ls e q = refl
  inside_is (ReferenceE (ReferenceOf n es m)) w p d s v ls e q = inside_reference n es m (referred es m (drives_subscripts es w.0) (drives_selector m w.1)) p d s v ls e q
  inside_is (LocationE (LocationOf a Pointer x)) w p d s v ls e q = refl
  inside_is (LocationE (LocationOf a Offset x)) w p d s v ls e q = refl
  inside_is (LocationE (ConstantsOf a Pointer x)) w p d s v ls e q = refl
  inside_is (LocationE (ConstantsOf a Offset x)) w p d s v ls e q = refl
  inside_is (ParenthesisedE a x) w p d s v ls e q = refl
  inside_is (EmbeddedE a x y) w p d s v ls e q = refl
  inside_is (UnaryE a unary.Plus x) w p d s v ls e q = refl
  inside_is (UnaryE a unary.Minus x) w p d s v ls e q = refl
  inside_is (UnaryE a unary.Not x) w p d s v ls e q = refl
  inside_is (BinaryE at o a b) w p d s v ls e q = inside_is a w.2 p d s v (leaf_at (binary_sign o) at ∷ expression put_leaf d b ls) e (operator_closes at o (expression put_leaf d b ls))

  drives_subscripts : (es : ExpressionsT) → WellExpressions es → DrivesSubscripts es
  drives_subscripts no_expressions w = λ n s v ls r q k. no_subscripts s _ q ∙ k
  drives_subscripts (expressions es e) w = subscripted es e (drives_listed es w.0) (drives e w.1)

  drives_listed : (es : ExpressionsT) → WellExpressions es → DrivesListed es
  drives_listed no_expressions w = λ s v ls r k. k
  drives_listed (expressions es e) w = another es e (drives_listed es w.0) (drives e w.1)

  drives_selector : (m : SelectorT) → WellSelector m → DrivesSelector m
  drives_selector no_member w = λ n es s v ls r q k. no_selector s _ q ∙ k
  drives_selector (member n) w = selected n
  drives_selector (member_at n e) w = member_subscripted n e (drives e w)

  pub drives_located : (l : LocationT) → WellLocation l → DrivesLocated l
  drives_located (LocationOf p f (ReferenceOf n es m)) w = located_reference p f n es m (referred es m (drives_subscripts es w.0) (drives_selector m w.1))
  drives_located (ConstantsOf p f vs) w = located_values p f vs (drives_values vs w)

  drives_value : (v : ValueT) → WellValue v → DrivesValue v
  drives_value (NumeralV n) w = λ s v ls r q k. ap (Then 0) (pushed (ValueR (NumeralV n)) s v (some_of q) ∙ k)
  drives_value (NegativeV n) w = λ s v ls r q k. ap (λ (x : Trace). Then 0 (Then 0 x)) (pushed (ValueR (NegativeV n)) s v (some_of q) ∙ k)
  drives_value (TextV n) w = λ s v ls r q k. ap (Then 0) (pushed (ValueR (TextV n)) s v (some_of q) ∙ k)
  drives_value (LocationV l) w = location_valued l (drives_located l w)

  drives_listed_values : (vs : ValuesT) → WellSomeValues vs → DrivesListedValues vs
  drives_listed_values no_values w = λ s v ls r k. k
  drives_listed_values (values vs v) w = another_value vs v (drives_listed_values vs w.0) (drives_value v w.1)

  pub drives_values : (vs : ValuesT) → WellValues vs → DrivesValues vs
  drives_values no_values w = absurd w
  drives_values (values vs v) w = values_drive vs v (drives_listed_values vs w.0) (drives_value v w.1)

-- a reference, after its name
pub drives_reference : (es : ExpressionsT) (m : SelectorT) → WellExpressions es → WellSelector m → DrivesReference es m
drives_reference es m w u = referred es m (drives_subscripts es w) (drives_selector m u)

-- What the rules of expressions say.
use Rattle.std.proofs.Common.{◌≡◌, ℕ, suc, ◌≤◌, List, [], ◌∷◌, ◌++◌, Bool, true, false, cond, Option, Some, None, refl, ap, ◌∙◌, subst, arith}
use Rattle.plm_token.specs.declared.token.Keyword.TheVariants as key
use Rattle.plm_token.specs.declared.token.Mark.TheVariants as mark
use Rattle.plm_syntax.specs.declared.tree.Position.{Position}
use Rattle.plm_syntax.specs.declared.tree.UnaryOperator.TheVariants as unary
use Rattle.plm_syntax.specs.declared.tree.BinaryOperator.{BinaryOperator}
use Rattle.plm_syntax.specs.declared.tree.BinaryOperator.TheVariants as binary
use Rattle.plm_syntax.specs.Terminal.{NameT, Terminal, Name, Numeral, Text, Key, Sign, Finish, Leaf, leaf, leaf_at, is_key}
use Rattle.plm_syntax.specs.Tree.{LocationForm, ExpressionT, NumeralE, TextE, ReferenceE, LocationE, ParenthesisedE, EmbeddedE, UnaryE, BinaryE, ReferenceT, ReferenceOf, no_expressions, expressions, no_member, member, member_at, LocationOf, ConstantsOf, ValueT, NumeralV, NegativeV, TextV, LocationV, ValuesT, no_values, values}
use Rattle.plm_syntax.specs.Spelling.{binary_sign, form_sign, expression, reference, subscripts, value, value_list, put_leaf}
use Rattle.plm_syntax.specs.WellFormed.{precedence_of, left_precedence, precedence, Well, WellReference, WellValues, WellSomeValues}
use Rattle.plm_syntax.specs.Inner.Symbol.{Precedence, Symbol, depth_on, Rule, behind, need, Products, Sums, Relations, Conjunctions, Disjunctions, PrimaryG, SignedG, NegationG, MoreG, InsideG, AfterReferenceG, SubscriptsG, MoreSubscriptsG, SelectorG, MemberG, MemberSubscriptG, LocatedG, ValueG, NegativeG, MoreValuesG, Want, Do, Leave, Refused, Over, Take, Keep}
use Rattle.plm_syntax.specs.Inner.Machine.{operand, again, number_of, an_expression, operator_of, make_binary, make_unary, make_embedded, add_expression, set_subscripts, set_member_subscript, operation, more, reference_begun, primary, signed, negation, expression_at, closing, inside, after_reference, subscripts_rule, more_subscripts, selector_rule, member_rule, member_subscript, locate, locate_values, a_value_list, located, value_rule, negative, more_values}
use Rattle.std.specs.Prelude.{nat_eq}
use Rattle.plm_syntax.proofs.Steps.{IsDecided}
use Rattle.plm_syntax.proofs.DriveExpression.{signed_decided}
use Rattle.plm_syntax.proofs.GoalTrees.{Inner, inner, WellInner, several_leaves, left_of, Means, Awaits, Says, on_sign, on_key, on_behind, on_otherwise, on_same, Nested, Stored, An}

-- ---- whole expressions

-- what an expression's symbols stand for
pub expression_of : (d : ℕ) (K : List Leaf → Type 0) (ls : List Leaf) (s : List Symbol) → Awaits (an_expression s) d K ls → An ExpressionT Well (expression put_leaf (depth_on s d)) (Awaits s d K) ls
expression_of d K ls s h =
    let c = h.goes h.part (omega (arith, h.ok.0)) h.ok.1 in
    let o = c.goes c.part (omega (arith, c.ok.0)) c.ok.1 in
    record { part = o.part; rest = o.rest; ok = o.ok.1; is = h.is ∙ c.is ∙ o.is; goes = o.goes }

-- ---- operators

-- the tree of an operator, and what goes on after it
abbrev pub Operated : Precedence → ℕ → (List Leaf → Type 0) → Position → BinaryOperator → List Leaf → Type 0
Operated l d K p o ls = (e : ExpressionT) → precedence e ≤ left_of l → Well e → An ExpressionT (λ f. (precedence f ≤ number_of l) × Well f) (expression put_leaf d) K (expression put_leaf d e (leaf_at (binary_sign o) p ∷ ls))

pub products_go : (p : Position) (o : BinaryOperator) → precedence_of o ≡ 2 → left_precedence o ≡ 2 → (d : ℕ) (K : List Leaf → Type 0) (ls : List Leaf) → Awaits (Want SignedG ∷ Do (make_binary p o) ∷ Want (MoreG Products) ∷ []) d K ls → Operated Products d K p o ls
products_go p o two ltwo d K ls h e le we =
    let g = h.goes (BinaryE p o e h.part) (omega (arith, two)) (omega (arith, ltwo, le), omega (arith, two, h.ok.0), we, h.ok.1) in
    record { part = g.part; rest = g.rest; ok = g.ok; is = ap (λ (x : List Leaf). expression put_leaf d e (leaf_at (binary_sign o) p ∷ x)) h.is ∙ g.is; goes = g.goes }

pub sums_go : (p : Position) (o : BinaryOperator) → precedence_of o ≡ 3 → left_precedence o ≡ 3 → (d : ℕ) (K : List Leaf → Type 0) (ls : List Leaf) → Awaits (Want SignedG ∷ Want (MoreG Products) ∷ Do (make_binary p o) ∷ Want (MoreG Sums) ∷ []) d K ls → Operated Sums d K p o ls
sums_go p o three lthree d K ls h e le we =
    let c = h.goes h.part (omega (arith, h.ok.0)) h.ok.1 in
    let g = c.goes (BinaryE p o e c.part) (omega (arith, three)) (omega (arith, lthree, le), omega (arith, three, c.ok.0), we, c.ok.1) in
    record { part = g.part; rest = g.rest; ok = g.ok; is = ap (λ (x : List Leaf). expression put_leaf d e (leaf_at (binary_sign o) p ∷ x)) (h.is ∙ c.is) ∙ g.is; goes = g.goes }

pub relations_go : (p : Position) (o : BinaryOperator) → precedence_of o ≡ 4 → left_precedence o ≡ 3 → (d : ℕ) (K : List Leaf → Type 0) (ls : List Leaf) → Awaits (Want SignedG ∷ Want (MoreG Products) ∷ Want (MoreG Sums) ∷ Do (make_binary p o) ∷ []) d K ls → Operated Relations d K p o ls
relations_go p o four lthree d K ls h e le we =
    let c = h.goes h.part (omega (arith, h.ok.0)) h.ok.1 in
    let g = c.goes c.part (omega (arith, c.ok.0)) c.ok.1 in
    record { part = BinaryE p o e g.part; rest = g.rest; ok = (omega (arith, four), (omega (arith, lthree, le), omega (arith, four, g.ok.0), we, g.ok.1)); is = ap (λ (x : List Leaf). expression put_leaf d e (leaf_at (binary_sign o) p ∷ x)) (h.is ∙ c.is ∙ g.is); goes = g.goes }

pub conjunctions_go : (p : Position) (o : BinaryOperator) → precedence_of o ≡ 6 → left_precedence o ≡ 6 → (d : ℕ) (K : List Leaf → Type 0) (ls : List Leaf) → Awaits (Want NegationG ∷ Do (make_binary p o) ∷ Want (MoreG Conjunctions) ∷ []) d K ls → Operated Conjunctions d K p o ls
conjunctions_go p o six lsix d K ls h e le we =
    let g = h.goes (BinaryE p o e h.part) (omega (arith, six)) (omega (arith, lsix, le), omega (arith, six, h.ok.0), we, h.ok.1) in
    record { part = g.part; rest = g.rest; ok = g.ok; is = ap (λ (x : List Leaf). expression put_leaf d e (leaf_at (binary_sign o) p ∷ x)) h.is ∙ g.is; goes = g.goes }

pub disjunctions_go : (p : Position) (o : BinaryOperator) → precedence_of o ≡ 7 → left_precedence o ≡ 7 → (d : ℕ) (K : List Leaf → Type 0) (ls : List Leaf) → Awaits (Want NegationG ∷ Want (MoreG Conjunctions) ∷ Do (make_binary p o) ∷ Want (MoreG Disjunctions) ∷ []) d K ls → Operated Disjunctions d K p o ls
disjunctions_go p o seven lseven d K ls h e le we =
    let c = h.goes h.part (omega (arith, h.ok.0)) h.ok.1 in
    let g = c.goes (BinaryE p o e c.part) (omega (arith, seven)) (omega (arith, lseven, le), omega (arith, seven, c.ok.0), we, c.ok.1) in
    record { part = g.part; rest = g.rest; ok = g.ok; is = ap (λ (x : List Leaf). expression put_leaf d e (leaf_at (binary_sign o) p ∷ x)) (h.is ∙ c.is) ∙ g.is; goes = g.goes }

pub operator_is : (t : Terminal) (o : BinaryOperator) → operator_of t ≡ Some o → binary_sign o ≡ t
operator_is (Sign mark.Star) binary.Multiply h = refl
operator_is (Sign mark.Slash) binary.Divide h = refl
operator_is (Key key.Mod) binary.Modulo h = refl
operator_is (Sign mark.Plus) binary.Add h = refl
operator_is (Sign mark.Minus) binary.Subtract h = refl
operator_is (Sign mark.Equal) binary.Equal h = refl
operator_is (Sign mark.NotEqual) binary.NotEqual h = refl
operator_is (Sign mark.Less) binary.Less h = refl
operator_is (Sign mark.LessEqual) binary.LessEqual h = refl
operator_is (Sign mark.Greater) binary.Greater h = refl
operator_is (Sign mark.GreaterEqual) binary.GreaterEqual h = refl
operator_is (Key key.And) binary.And h = refl
operator_is (Key key.Or) binary.Or h = refl
operator_is (Key key.Xor) binary.ExclusiveOr h = refl
operator_is t o h = absurd cc

pub left_most_of : (l : Precedence) → left_of l ≤ number_of l
left_most_of Products = omega arith
left_most_of Sums = omega arith
left_most_of Relations = omega arith
left_most_of Conjunctions = omega arith
left_most_of Disjunctions = omega arith

pub operated : (l : Precedence) (p : Position) (o : BinaryOperator) → nat_eq (precedence_of o) (number_of l) ≡ true → (d : ℕ) (K : List Leaf → Type 0) (ls : List Leaf) → Awaits (operand l ++ (Do (make_binary p o) ∷ again l)) d K ls → Operated l d K p o ls
operated Products p binary.Multiply h d K ls w = products_go p binary.Multiply refl refl d K ls w
operated Products p binary.Divide h d K ls w = products_go p binary.Divide refl refl d K ls w
operated Products p binary.Modulo h d K ls w = products_go p binary.Modulo refl refl d K ls w
operated Products p binary.Add h d K ls w = absurd cc
operated Products p binary.Subtract h d K ls w = absurd cc
operated Products p binary.Equal h d K ls w = absurd cc
operated Products p binary.NotEqual h d K ls w = absurd cc
operated Products p binary.Less h d K ls w = absurd cc
operated Products p binary.LessEqual h d K ls w = absurd cc
operated Products p binary.Greater h d K ls w = absurd cc
operated Products p binary.GreaterEqual h d K ls w = absurd cc
operated Products p binary.And h d K ls w = absurd cc
operated Products p binary.Or h d K ls w = absurd cc
operated Products p binary.ExclusiveOr h d K ls w = absurd cc
operated Sums p binary.Multiply h d K ls w = absurd cc
operated Sums p binary.Divide h d K ls w = absurd cc
operated Sums p binary.Modulo h d K ls w = absurd cc
operated Sums p binary.Add h d K ls w = sums_go p binary.Add refl refl d K ls w
operated Sums p binary.Subtract h d K ls w = sums_go p binary.Subtract refl refl d K ls w
operated Sums p binary.Equal h d K ls w = absurd cc
operated Sums p binary.NotEqual h d K ls w = absurd cc
operated Sums p binary.Less h d K ls w = absurd cc
operated Sums p binary.LessEqual h d K ls w = absurd cc
operated Sums p binary.Greater h d K ls w = absurd cc
operated Sums p binary.GreaterEqual h d K ls w = absurd cc
operated Sums p binary.And h d K ls w = absurd cc
operated Sums p binary.Or h d K ls w = absurd cc
operated Sums p binary.ExclusiveOr h d K ls w = absurd cc
operated Relations p binary.Multiply h d K ls w = absurd cc
operated Relations p binary.Divide h d K ls w = absurd cc
operated Relations p binary.Modulo h d K ls w = absurd cc
operated Relations p binary.Add h d K ls w = absurd cc
operated Relations p binary.Subtract h d K ls w = absurd cc
operated Relations p binary.Equal h d K ls w = relations_go p binary.Equal refl refl d K ls w
operated Relations p binary.NotEqual h d K ls w = relations_go p binary.NotEqual refl refl d K ls w
operated Relations p binary.Less h d K ls w = relations_go p binary.Less refl refl d K ls w
operated Relations p binary.LessEqual h d K ls w = relations_go p binary.LessEqual refl refl d K ls w
operated Relations p binary.Greater h d K ls w = relations_go p binary.Greater refl refl d K ls w
operated Relations p binary.GreaterEqual h d K ls w = relations_go p binary.GreaterEqual refl refl d K ls w
operated Relations p binary.And h d K ls w = absurd cc
operated Relations p binary.Or h d K ls w = absurd cc
operated Relations p binary.ExclusiveOr h d K ls w = absurd cc
operated Conjunctions p binary.Multiply h d K ls w = absurd cc
operated Conjunctions p binary.Divide h d K ls w = absurd cc
operated Conjunctions p binary.Modulo h d K ls w = absurd cc
operated Conjunctions p binary.Add h d K ls w = absurd cc
operated Conjunctions p binary.Subtract h d K ls w = absurd cc
operated Conjunctions p binary.Equal h d K ls w = absurd cc
operated Conjunctions p binary.NotEqual h d K ls w = absurd cc
operated Conjunctions p binary.Less h d K ls w = absurd cc
operated Conjunctions p binary.LessEqual h d K ls w = absurd cc
operated Conjunctions p binary.Greater h d K ls w = absurd cc
operated Conjunctions p binary.GreaterEqual h d K ls w = absurd cc
operated Conjunctions p binary.And h d K ls w = conjunctions_go p binary.And refl refl d K ls w
operated Conjunctions p binary.Or h d K ls w = absurd cc
operated Conjunctions p binary.ExclusiveOr h d K ls w = absurd cc
operated Disjunctions p binary.Multiply h d K ls w = absurd cc
operated Disjunctions p binary.Divide h d K ls w = absurd cc
operated Disjunctions p binary.Modulo h d K ls w = absurd cc
operated Disjunctions p binary.Add h d K ls w = absurd cc
operated Disjunctions p binary.Subtract h d K ls w = absurd cc
operated Disjunctions p binary.Equal h d K ls w = absurd cc
operated Disjunctions p binary.NotEqual h d K ls w = absurd cc
operated Disjunctions p binary.Less h d K ls w = absurd cc
operated Disjunctions p binary.LessEqual h d K ls w = absurd cc
operated Disjunctions p binary.Greater h d K ls w = absurd cc
operated Disjunctions p binary.GreaterEqual h d K ls w = absurd cc
operated Disjunctions p binary.And h d K ls w = absurd cc
operated Disjunctions p binary.Or h d K ls w = disjunctions_go p binary.Or refl refl d K ls w
operated Disjunctions p binary.ExclusiveOr h d K ls w = disjunctions_go p binary.ExclusiveOr refl refl d K ls w

pub more_says : (l : Precedence) (d : ℕ) (K : List Leaf → Type 0) (t : Terminal) → Says (Means (MoreG l) d K) d K t (more l t)
more_says l d K t = by_operator (operator_of t) refl
  where
    taken : (o : BinaryOperator) → binary_sign o ≡ t → (b : Bool) → nat_eq (precedence_of o) (number_of l) ≡ b → Says (Means (MoreG l) d K) d K t (cond b (Keep false (λ p. operand l ++ (Do (make_binary p o) ∷ again l))) Over)
    taken o e true h = λ p ls w f lf wf. subst (λ (u : Terminal). An ExpressionT (λ g. (precedence g ≤ number_of l) × Well g) (expression put_leaf d) K (expression put_leaf d f (leaf_at u p ∷ ls))) e (operated l p o h d K ls w f lf wf)
    taken o e false h = λ k ls i w f lf wf. record { part = f; rest = k ∷ ls; ok = (omega (arith, lf, left_most_of l), wf); is = refl; goes = w }

    by_operator : (o : Option BinaryOperator) → operator_of t ≡ o → Says (Means (MoreG l) d K) d K t (elim o [ None ↦ Over | Some o ↦ operation l o ])
    by_operator None e = λ k ls i w f lf wf. record { part = f; rest = k ∷ ls; ok = (omega (arith, lf, left_most_of l), wf); is = refl; goes = w }
    by_operator (Some o) e = taken o (operator_is t o e) (nat_eq (precedence_of o) (number_of l)) refl

-- ---- references

-- a reference after its name
pub reference_of : (d : ℕ) (n : NameT) (K : List Leaf → Type 0) (ls : List Leaf) (s : List Symbol) → Awaits (reference_begun n s) d K ls → An ReferenceT WellReference (reference put_leaf 0 (depth_on s d)) (Awaits s d K) (leaf (Name n) ∷ ls)
reference_of d n K ls s h = record {
  part = ReferenceOf n h.part h.goes.part;
  rest = h.goes.rest;
  ok = (h.ok, h.goes.ok);
  is = ap (λ (x : List Leaf). leaf (Name n) ∷ x) (h.is ∙ ap (subscripts put_leaf (depth_on s d) h.part) h.goes.is);
  goes = h.goes.goes;
}

pub subscripts_says : (d : ℕ) (K : List Leaf → Type 0) (t : Terminal) → Says (Means SubscriptsG d K) d K t (subscripts_rule t)
subscripts_says d K t = on_sign (Means SubscriptsG d K) d K mark.LeftParenthesis t _ Over
    (λ ls w.
    let e = expression_of d K ls (Do add_expression ∷ Want MoreSubscriptsG ∷ Leave ∷ Do set_subscripts ∷ []) w in
    let g = e.goes (record { front = no_expressions; last = e.part }) (tt, e.ok) in
    record { part = expressions g.part.front g.part.last; rest = g.rest; ok = g.ok; is = ap (λ (x : List Leaf). leaf (Sign mark.LeftParenthesis) ∷ x) (e.is ∙ g.is); goes = g.goes })
    (λ h l ls i w. record { part = no_expressions; rest = l ∷ ls; ok = tt; is = refl; goes = w })

pub more_subscripts_says : (d : ℕ) (K : List Leaf → Type 0) (t : Terminal) → Says (Means MoreSubscriptsG d K) d K t (more_subscripts t)
more_subscripts_says d K t = on_sign (Means MoreSubscriptsG d K) d K mark.Comma t _ _
    (λ ls w es o.
    let e = expression_of d K ls (Do add_expression ∷ Want MoreSubscriptsG ∷ []) w in
    let g = e.goes (record { front = expressions es.front es.last; last = e.part }) (o, e.ok) in
    record { part = g.part; rest = g.rest; ok = g.ok; is = ap (λ (x : List Leaf). several_leaves d es (leaf (Sign mark.Comma) ∷ x)) e.is ∙ g.is; goes = g.goes })
    (λ h. on_sign (Means MoreSubscriptsG d K) d K mark.RightParenthesis t _ Refused
    (λ ls w es o. record { part = es; rest = ls; ok = o; is = refl; goes = w })
    (λ i. tt))

pub selector_says : (d : ℕ) (K : List Leaf → Type 0) (t : Terminal) → Says (Means SelectorG d K) d K t (selector_rule t)
selector_says d K t = on_sign (Means SelectorG d K) d K mark.Period t _ Over (λ ls w. w) (λ h l ls i w. record { part = no_member; rest = l ∷ ls; ok = tt; is = refl; goes = w })

pub member_says : (d : ℕ) (K : List Leaf → Type 0) (t : Terminal) → Says (Means MemberG d K) d K t (member_rule t)
member_says d K (Name n) = λ ls w. w n
member_says d K (Numeral n) = tt
member_says d K (Text n) = tt
member_says d K (Key n) = tt
member_says d K (Sign n) = tt
member_says d K Finish = tt

pub member_subscript_says : (d : ℕ) (K : List Leaf → Type 0) (t : Terminal) → Says (Means MemberSubscriptG d K) d K t (member_subscript t)
member_subscript_says d K t = on_sign (Means MemberSubscriptG d K) d K mark.LeftParenthesis t _ Over
    (λ ls w n.
    let e = expression_of d K ls (need mark.RightParenthesis ∷ Leave ∷ Do set_member_subscript ∷ []) w in
    record { part = member_at n e.part; rest = e.goes.rest; ok = e.ok; is = ap (λ (x : List Leaf). leaf (Sign mark.Period) ∷ leaf (Name n) ∷ leaf (Sign mark.LeftParenthesis) ∷ x) (e.is ∙ ap (expression put_leaf (suc d) e.part) e.goes.is); goes = e.goes.goes })
    (λ h l ls i w n. record { part = member n; rest = l ∷ ls; ok = tt; is = refl; goes = w })

-- ---- values and locations

-- a list of values and the parenthesis after it
pub values_of : (d : ℕ) (K : List Leaf → Type 0) (ls : List Leaf) (s : List Symbol) → Awaits (a_value_list s) d K ls → An ValuesT WellValues (λ vs r. value_list put_leaf (depth_on s d) vs (leaf (Sign mark.RightParenthesis) ∷ r)) (Awaits s d K) ls
values_of d K ls s h =
    let g = h.goes (values no_values h.part) (tt, h.ok) in
    record { part = g.part; rest = g.rest; ok = g.ok; is = h.is ∙ g.is; goes = g.goes }

pub located_says : (p : Position) (f : LocationForm) (d : ℕ) (K : List Leaf → Type 0) (t : Terminal) → Says (Means (LocatedG p f) d K) d K t (located p f t)
located_says p f d K (Name n) = λ ls w.
    let x = reference_of d n K ls (Do (locate p f) ∷ []) w in
    record { part = LocationOf p f x.part; rest = x.rest; ok = x.ok; is = ap (λ (y : List Leaf). leaf_at (form_sign f) p ∷ y) x.is; goes = x.goes }
located_says p f d K (Numeral n) = tt
located_says p f d K (Text n) = tt
located_says p f d K (Key n) = tt
located_says p f d K Finish = tt
located_says p f d K (Sign m) = on_sign (Means (LocatedG p f) d K) d K mark.LeftParenthesis (Sign m) _ Refused
    (λ ls w. let g = values_of d K ls (Leave ∷ Do (locate_values p f) ∷ []) w in record { part = ConstantsOf p f g.part; rest = g.rest; ok = g.ok; is = ap (λ (y : List Leaf). leaf_at (form_sign f) p ∷ leaf (Sign mark.LeftParenthesis) ∷ y) g.is; goes = g.goes })
    (λ h. tt)

pub value_says : (d : ℕ) (K : List Leaf → Type 0) (t : Terminal) → Says (Means ValueG d K) d K t (value_rule t)
value_says d K (Numeral n) = λ ls w. record { part = NumeralV n; rest = ls; ok = tt; is = refl; goes = w }
value_says d K (Text n) = λ ls w. record { part = TextV n; rest = ls; ok = tt; is = refl; goes = w }
value_says d K (Name n) = tt
value_says d K (Key n) = tt
value_says d K Finish = tt
value_says d K (Sign m) = on_sign (Means ValueG d K) d K mark.Minus (Sign m) _ _ (λ ls w. w)
    (λ h. on_sign (Means ValueG d K) d K mark.AtSign (Sign m) _ _ (λ p ls w. record { part = LocationV w.part; rest = w.rest; ok = w.ok; is = w.is; goes = w.goes })
    (λ h. on_sign (Means ValueG d K) d K mark.Period (Sign m) _ Refused (λ p ls w. record { part = LocationV w.part; rest = w.rest; ok = w.ok; is = w.is; goes = w.goes }) (λ h. tt)))

pub negative_says : (d : ℕ) (K : List Leaf → Type 0) (t : Terminal) → Says (Means NegativeG d K) d K t (negative t)
negative_says d K (Numeral n) = λ ls w. record { part = NegativeV n; rest = ls; ok = tt; is = refl; goes = w }
negative_says d K (Name n) = tt
negative_says d K (Text n) = tt
negative_says d K (Key n) = tt
negative_says d K (Sign n) = tt
negative_says d K Finish = tt

pub some_are_values : (vs : ValuesT) → WellValues vs → WellSomeValues vs
some_are_values no_values w = tt
some_are_values (values vs v) w = w

pub more_values_says : (d : ℕ) (K : List Leaf → Type 0) (t : Terminal) → Says (Means MoreValuesG d K) d K t (more_values t)
more_values_says d K t = on_sign (Means MoreValuesG d K) d K mark.Comma t _ _
    (λ ls w vs o. let g = w.goes (values vs w.part) (some_are_values vs o, w.ok) in record { part = g.part; rest = g.rest; ok = g.ok; is = ap (λ (x : List Leaf). value_list put_leaf d vs (leaf (Sign mark.Comma) ∷ x)) w.is ∙ next vs o w.part w.rest ∙ g.is; goes = g.goes })
    (λ h. on_sign (Means MoreValuesG d K) d K mark.RightParenthesis t _ Refused (λ ls w vs o. record { part = vs; rest = ls; ok = o; is = refl; goes = w }) (λ i. tt))
  where
    next : (vs : ValuesT) → WellValues vs → (v : ValueT) (r : List Leaf) → value_list put_leaf d vs (leaf (Sign mark.Comma) ∷ value put_leaf d v r) ≡ value_list put_leaf d (values vs v) r
    next no_values o v r = absurd o
    next (values us u) o v r = refl

-- ---- primaries

pub primary_says : (d : ℕ) (K : List Leaf → Type 0) (t : Terminal) → Says (Means PrimaryG d K) d K t (primary t)
primary_says d K (Name n) = λ ls w. let x = reference_of d n K ls [] w in record { part = ReferenceE x.part; rest = x.rest; ok = (omega arith, x.ok); is = x.is; goes = x.goes }
primary_says d K (Numeral n) = λ ls w. record { part = NumeralE n; rest = ls; ok = (omega arith, tt); is = refl; goes = w }
primary_says d K (Text n) = λ ls w. record { part = TextE n; rest = ls; ok = (omega arith, tt); is = refl; goes = w }
primary_says d K (Key n) = tt
primary_says d K Finish = tt
primary_says d K (Sign m) = on_sign (Means PrimaryG d K) d K mark.LeftParenthesis (Sign m) _ _ (λ p ls w. opened_by p ls w w.part refl)
    (λ h. on_sign (Means PrimaryG d K) d K mark.AtSign (Sign m) _ _ (λ p ls w. record { part = LocationE w.part; rest = w.rest; ok = (omega arith, w.ok); is = w.is; goes = w.goes })
    (λ h. on_sign (Means PrimaryG d K) d K mark.Period (Sign m) _ Refused (λ p ls w. record { part = LocationE w.part; rest = w.rest; ok = (omega arith, w.ok); is = w.is; goes = w.goes }) (λ h. tt)))
  where
    opened_by : (p : Position) (ls : List Leaf) (w : An Inner WellInner (inner (suc d)) K ls) (i : Inner) → w.part ≡ i → Means PrimaryG d K (leaf_at (Sign mark.LeftParenthesis) p ∷ ls)
    opened_by p ls w (Nested e) is = record { part = ParenthesisedE p e; rest = w.rest; ok = (omega arith, subst WellInner is w.ok); is = ap (λ (x : List Leaf). leaf_at (Sign mark.LeftParenthesis) p ∷ x) (w.is ∙ ap (λ (j : Inner). inner (suc d) j w.rest) is); goes = w.goes }
    opened_by p ls w (Stored x e) is = record { part = EmbeddedE p x e; rest = w.rest; ok = (omega arith, subst WellInner is w.ok); is = ap (λ (y : List Leaf). leaf_at (Sign mark.LeftParenthesis) p ∷ y) (w.is ∙ ap (λ (j : Inner). inner (suc d) j w.rest) is); goes = w.goes }

pub signed_says : (d : ℕ) (K : List Leaf → Type 0) (t : Terminal) → Says (Means SignedG d K) d K t (signed t)
signed_says d K t = on_sign (Means SignedG d K) d K mark.Plus t _ _
    (λ p ls w. record { part = UnaryE p unary.Plus w.part; rest = w.rest; ok = (omega arith, w.ok); is = ap (λ (x : List Leaf). leaf_at (Sign mark.Plus) p ∷ x) w.is; goes = w.goes })
    (λ h. on_sign (Means SignedG d K) d K mark.Minus t _ _
    (λ p ls w. record { part = UnaryE p unary.Minus w.part; rest = w.rest; ok = (omega arith, w.ok); is = ap (λ (x : List Leaf). leaf_at (Sign mark.Minus) p ∷ x) w.is; goes = w.goes })
    (λ h. on_same (Means SignedG d K) d K (Means PrimaryG d K) t (primary t) (λ ls w. record { part = w.part; rest = w.rest; ok = (omega (arith, w.ok.0), w.ok.1); is = w.is; goes = w.goes }) (primary_says d K t)))

-- ---- NOT, and what stands in parentheses

pub relation_of : (d : ℕ) (K : List Leaf → Type 0) (ls : List Leaf) → Means SignedG d (Awaits (Want (MoreG Products) ∷ Want (MoreG Sums) ∷ Want (MoreG Relations) ∷ []) d K) ls → Means NegationG d K ls
relation_of d K ls h =
    let a = h.goes h.part (omega (arith, h.ok.0)) h.ok.1 in
    let b = a.goes a.part (omega (arith, a.ok.0)) a.ok.1 in
    let c = b.goes b.part (omega (arith, b.ok.0)) b.ok.1 in
    record { part = c.part; rest = c.rest; ok = (omega (arith, c.ok.0), c.ok.1); is = h.is ∙ a.is ∙ b.is ∙ c.is; goes = c.goes }

pub negation_says : (d : ℕ) (K : List Leaf → Type 0) (t : Terminal) → Says (Means NegationG d K) d K t (negation t)
negation_says d K t = on_key (Means NegationG d K) d K key.Not t _ _
    (λ p ls w. record { part = UnaryE p unary.Not w.part; rest = w.rest; ok = (omega arith, w.ok); is = ap (λ (x : List Leaf). leaf_at (Key key.Not) p ∷ x) w.is; goes = w.goes })
    (λ h. on_behind (Means NegationG d K) d K (Means SignedG d (Awaits (Want (MoreG Products) ∷ Want (MoreG Sums) ∷ Want (MoreG Relations) ∷ []) d K)) t (Want (MoreG Products) ∷ Want (MoreG Sums) ∷ Want (MoreG Relations) ∷ []) (signed t)
    (signed_says d (Awaits (Want (MoreG Products) ∷ Want (MoreG Sums) ∷ Want (MoreG Relations) ∷ []) d K) t) (signed_decided t) (relation_of d K))

pub negation_decided : (t : Terminal) → IsDecided (negation t)
negation_decided t = by_test (is_key key.Not t)
  where
    behind_decided : (r : Rule) (a : List Symbol) → IsDecided r → IsDecided (behind r a)
    behind_decided Refused a h = tt
    behind_decided Over a h = h
    behind_decided (Take b q) a h = tt
    behind_decided (Keep b f) a h = tt

    by_test : (b : Bool) → IsDecided (cond b (Keep true (λ p. Want NegationG ∷ Leave ∷ Do (make_unary p unary.Not) ∷ [])) (behind (signed t) (Want (MoreG Products) ∷ Want (MoreG Sums) ∷ Want (MoreG Relations) ∷ [])))
    by_test true = tt
    by_test false = behind_decided (signed t) (Want (MoreG Products) ∷ Want (MoreG Sums) ∷ Want (MoreG Relations) ∷ []) (signed_decided t)

-- a whole expression that begins with the token, and symbols after
pub expression_says : (M : List Leaf → Type 0) (s : List Symbol) (d : ℕ) (K : List Leaf → Type 0) (t : Terminal) → ((ls : List Leaf) → An ExpressionT Well (expression put_leaf (depth_on s d)) (Awaits s d K) ls → M ls) → Says M d K t (behind (expression_at t) s)
expression_says M s d K t f = on_behind M d K (λ ls. An ExpressionT Well (expression put_leaf (depth_on s d)) (Awaits s d K) ls) t s (expression_at t)
    (on_behind (λ ls. An ExpressionT Well (expression put_leaf (depth_on s d)) (Awaits s d K) ls) (depth_on s d) (Awaits s d K) (Means NegationG (depth_on s d) (Awaits (Want (MoreG Conjunctions) ∷ Want (MoreG Disjunctions) ∷ []) (depth_on s d) (Awaits s d K))) t (Want (MoreG Conjunctions) ∷ Want (MoreG Disjunctions) ∷ []) (negation t)
    (negation_says (depth_on s d) (Awaits (Want (MoreG Conjunctions) ∷ Want (MoreG Disjunctions) ∷ []) (depth_on s d) (Awaits s d K)) t) (negation_decided t)
    (λ ls w. expression_of (depth_on s d) (Awaits s d K) ls [] w))
    (decided (negation t) (negation_decided t)) f
  where
    decided : (r : Rule) → IsDecided r → IsDecided (behind r (Want (MoreG Conjunctions) ∷ Want (MoreG Disjunctions) ∷ []))
    decided Refused h = tt
    decided Over h = h
    decided (Take b q) h = tt
    decided (Keep b g) h = tt

-- an expression and the parenthesis after it
pub closed_inside : (p : Position) (d : ℕ) (K : List Leaf → Type 0) (ls : List Leaf) → An ExpressionT Well (expression put_leaf d) (Awaits (closing p) d K) ls → Means (InsideG p) d K ls
closed_inside p d K ls w = record { part = Nested w.part; rest = w.goes.rest; ok = w.ok; is = w.is ∙ ap (expression put_leaf d w.part) w.goes.is; goes = w.goes.goes }

abbrev pub from_disjunctions : Position → List Symbol
from_disjunctions p = Want (MoreG Disjunctions) ∷ closing p

abbrev pub from_conjunctions : Position → List Symbol
from_conjunctions p = Want (MoreG Conjunctions) ∷ from_disjunctions p

abbrev pub from_relations : Position → List Symbol
from_relations p = Want (MoreG Relations) ∷ from_conjunctions p

abbrev pub AnE : ℕ → ℕ → (List Leaf → Type 0) → List Leaf → Type 0
AnE n d K ls = An ExpressionT (λ e. (precedence e ≤ n) × Well e) (expression put_leaf d) K ls

-- what goes on after a part of an expression in parentheses
pub last_inside : (p : Position) (d : ℕ) (K : List Leaf → Type 0) (ls : List Leaf) → AnE 7 d (Awaits (closing p) d K) ls → An Inner WellInner (inner d) K ls
last_inside p d K ls w = record { part = Nested w.part; rest = w.goes.rest; ok = w.ok.1; is = w.is ∙ ap (expression put_leaf d w.part) w.goes.is; goes = w.goes.goes }

pub disjunctions_inside : (p : Position) (d : ℕ) (K : List Leaf → Type 0) (ls : List Leaf) → AnE 6 d (Awaits (from_disjunctions p) d K) ls → An Inner WellInner (inner d) K ls
disjunctions_inside p d K ls w = let g = last_inside p d K (expression put_leaf d w.part w.rest) (w.goes w.part (omega (arith, w.ok.0)) w.ok.1) in record { part = g.part; rest = g.rest; ok = g.ok; is = w.is ∙ g.is; goes = g.goes }

pub conjunctions_inside : (p : Position) (d : ℕ) (K : List Leaf → Type 0) (ls : List Leaf) → AnE 4 d (Awaits (from_conjunctions p) d K) ls → An Inner WellInner (inner d) K ls
conjunctions_inside p d K ls w = let g = disjunctions_inside p d K (expression put_leaf d w.part w.rest) (w.goes w.part (omega (arith, w.ok.0)) w.ok.1) in record { part = g.part; rest = g.rest; ok = g.ok; is = w.is ∙ g.is; goes = g.goes }

pub relations_inside : (p : Position) (d : ℕ) (K : List Leaf → Type 0) (ls : List Leaf) → AnE 3 d (Awaits (from_relations p) d K) ls → An Inner WellInner (inner d) K ls
relations_inside p d K ls w = let g = conjunctions_inside p d K (expression put_leaf d w.part w.rest) (w.goes w.part w.ok.0 w.ok.1) in record { part = g.part; rest = g.rest; ok = g.ok; is = w.is ∙ g.is; goes = g.goes }

pub sums_inside : (p : Position) (d : ℕ) (K : List Leaf → Type 0) (ls : List Leaf) → AnE 2 d (Awaits (Want (MoreG Sums) ∷ from_relations p) d K) ls → An Inner WellInner (inner d) K ls
sums_inside p d K ls w = let g = relations_inside p d K (expression put_leaf d w.part w.rest) (w.goes w.part (omega (arith, w.ok.0)) w.ok.1) in record { part = g.part; rest = g.rest; ok = g.ok; is = w.is ∙ g.is; goes = g.goes }

pub inside_says : (p : Position) (d : ℕ) (K : List Leaf → Type 0) (t : Terminal) → Says (Means (InsideG p) d K) d K t (inside p t)
inside_says p d K (Name n) = λ ls w.
    let x = reference_of d n K ls (Want (AfterReferenceG p) ∷ []) w in
    let g = x.goes x.part x.ok in
    record { part = g.part; rest = g.rest; ok = g.ok; is = x.is ∙ g.is; goes = g.goes }
inside_says p d K (Numeral n) = expression_says (Means (InsideG p) d K) (closing p) d K (Numeral n) (closed_inside p d K)
inside_says p d K (Text n) = expression_says (Means (InsideG p) d K) (closing p) d K (Text n) (closed_inside p d K)
inside_says p d K (Key n) = expression_says (Means (InsideG p) d K) (closing p) d K (Key n) (closed_inside p d K)
inside_says p d K (Sign n) = expression_says (Means (InsideG p) d K) (closing p) d K (Sign n) (closed_inside p d K)
inside_says p d K (Finish) = expression_says (Means (InsideG p) d K) (closing p) d K (Finish) (closed_inside p d K)

pub after_reference_says : (p : Position) (d : ℕ) (K : List Leaf → Type 0) (t : Terminal) → Says (Means (AfterReferenceG p) d K) d K t (after_reference p t)
after_reference_says p d K t = on_sign (Means (AfterReferenceG p) d K) d K mark.Assign t _ _
    (λ ls w x o. let e = expression_of d K ls (need mark.RightParenthesis ∷ Do (make_embedded p) ∷ []) w in
    record { part = Stored x e.part; rest = e.goes.rest; ok = (o, e.ok); is = ap (λ (y : List Leaf). reference put_leaf 0 d x (leaf (Sign mark.Assign) ∷ y)) (e.is ∙ ap (expression put_leaf d e.part) e.goes.is); goes = e.goes.goes })
    (λ h. on_otherwise (Means (AfterReferenceG p) d K) d K (Means (MoreG Products) d (Awaits (Want (MoreG Sums) ∷ from_relations p) d K)) t (Want (MoreG Sums) ∷ from_relations p) (more Products t) _ (more_says Products d (Awaits (Want (MoreG Sums) ∷ from_relations p) d K) t) (λ ls w x o. sums_inside p d K (expression put_leaf d (ReferenceE x) ls) (w (ReferenceE x) (omega arith) o))
    (on_otherwise (Means (AfterReferenceG p) d K) d K (Means (MoreG Sums) d (Awaits (from_relations p) d K)) t (from_relations p) (more Sums t) _ (more_says Sums d (Awaits (from_relations p) d K) t) (λ ls w x o. relations_inside p d K (expression put_leaf d (ReferenceE x) ls) (w (ReferenceE x) (omega arith) o))
    (on_otherwise (Means (AfterReferenceG p) d K) d K (Means (MoreG Relations) d (Awaits (from_conjunctions p) d K)) t (from_conjunctions p) (more Relations t) _ (more_says Relations d (Awaits (from_conjunctions p) d K) t) (λ ls w x o. conjunctions_inside p d K (expression put_leaf d (ReferenceE x) ls) (w (ReferenceE x) (omega arith) o))
    (on_otherwise (Means (AfterReferenceG p) d K) d K (Means (MoreG Conjunctions) d (Awaits (from_disjunctions p) d K)) t (from_disjunctions p) (more Conjunctions t) _ (more_says Conjunctions d (Awaits (from_disjunctions p) d K) t) (λ ls w x o. disjunctions_inside p d K (expression put_leaf d (ReferenceE x) ls) (w (ReferenceE x) (omega arith) o))
    (on_otherwise (Means (AfterReferenceG p) d K) d K (Means (MoreG Disjunctions) d (Awaits (closing p) d K)) t (closing p) (more Disjunctions t) _ (more_says Disjunctions d (Awaits (closing p) d K) t) (λ ls w x o. last_inside p d K (expression put_leaf d (ReferenceE x) ls) (w (ReferenceE x) (omega arith) o))
    (on_sign (Means (AfterReferenceG p) d K) d K mark.RightParenthesis t _ Refused (λ ls w x o. record { part = Nested (ReferenceE x); rest = ls; ok = o; is = refl; goes = w }) (λ i. tt)))))))

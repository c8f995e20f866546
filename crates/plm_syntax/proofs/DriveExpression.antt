-- The leaves of an expression lead a run over the expression.
use Rattle.std.proofs.Common.{◌≡◌, ℕ, suc, ◌≤◌, ◌<◌, List, [], ◌∷◌, Bool, true, false, cond, refl, sym, ap, ◌∙◌, arith}
use Rattle.plm_token.specs.declared.token.Keyword.TheVariants as key
use Rattle.plm_token.specs.declared.token.Mark.TheVariants as mark
use Rattle.plm_syntax.specs.declared.tree.Position.{Position}
use Rattle.plm_syntax.specs.declared.tree.UnaryOperator.{UnaryOperator}
use Rattle.plm_syntax.specs.declared.tree.UnaryOperator.TheVariants as unary
use Rattle.plm_syntax.specs.declared.tree.BinaryOperator.{BinaryOperator}
use Rattle.plm_syntax.specs.declared.tree.BinaryOperator.TheVariants as binary
use Rattle.plm_syntax.specs.Terminal.{NameT, Terminal, Name, Numeral, Text, Key, Sign, Finish, Leaf, leaf, leaf_at, is_key}
use Rattle.plm_syntax.specs.Inner.Terminal.{is_sign}
use Rattle.plm_syntax.specs.Tree.{Pointer, Offset, ExpressionT, NumeralE, TextE, ReferenceE, LocationE, ParenthesisedE, EmbeddedE, UnaryE, BinaryE, ReferenceOf, ExpressionsT, no_expressions, expressions, SelectorT, no_member, member, member_at, LocationOf, ConstantsOf}
use Rattle.plm_syntax.specs.Spelling.{unary_sign, binary_sign, expression, subscripts, listed, selector, put_leaf}
use Rattle.plm_syntax.specs.WellFormed.{precedence_of, left_precedence, unary_precedence, operand_precedence, precedence, Well}
use Rattle.plm_syntax.specs.Inner.Symbol.{Value, Precedence, Symbol, depth, behind, need, push, ExpressionR, ExpressionsR, Products, Sums, Relations, Conjunctions, Disjunctions, PrimaryG, SignedG, NegationG, MoreG, InsideG, SubscriptsG, MoreSubscriptsG, SelectorG, MemberSubscriptG, LocatedG, Want, Do, Leave, Refused, Keep}
use Rattle.plm_syntax.specs.Inner.Machine.{an_expression, make_binary, make_unary, add_expression, set_subscripts, set_member, set_member_subscript, reference_begun, primary, signed, Trace, trace, Then}
use Rattle.plm_syntax.proofs.Steps.{same_trace, ruled, feed_want, IsDecided, ruled_behind, binds, Stops, stops, less, did, left, no_more, no_member_subscript}

abbrev pub put_then : Leaf → ℕ → Trace → Trace
put_then l n r = Then n r

-- From a stack on, over the leaves of a part, to the part read and another stack, where what follows stops precedence n.
abbrev pub Reads : (List Symbol → List Symbol) → (List Symbol → List Symbol) → Value → (ℕ → List Leaf → List Leaf) → (ℕ → Trace → Trace) → ℕ → Type 0
Reads from to w leaves levels n = (s : List Symbol) (v : List Value) (ls : List Leaf) (r : Trace) → Stops n ls → trace (to s) (w ∷ v) ls ≡ r → trace (from s) v (leaves (depth s) ls) ≡ levels (depth s) r

abbrev pub ReadsE : (List Symbol → List Symbol) → (List Symbol → List Symbol) → ExpressionT → ℕ → Type 0
ReadsE from to e n = Reads from to (ExpressionR e) (λ d r. expression put_leaf d e r) (λ d r. expression put_then d e r) n

abbrev pub bare : List Symbol → List Symbol
bare s = s

abbrev pub a_primary : List Symbol → List Symbol
a_primary s = Want PrimaryG ∷ s

abbrev pub a_signed : List Symbol → List Symbol
a_signed s = Want SignedG ∷ s

abbrev pub more_of : Precedence → List Symbol → List Symbol
more_of l s = Want (MoreG l) ∷ s

abbrev pub a_term : List Symbol → List Symbol
a_term s = Want SignedG ∷ Want (MoreG Products) ∷ s

abbrev pub a_sum : List Symbol → List Symbol
a_sum s = Want SignedG ∷ Want (MoreG Products) ∷ Want (MoreG Sums) ∷ s

abbrev pub a_relation : List Symbol → List Symbol
a_relation s = Want SignedG ∷ Want (MoreG Products) ∷ Want (MoreG Sums) ∷ Want (MoreG Relations) ∷ s

abbrev pub a_negation : List Symbol → List Symbol
a_negation s = Want NegationG ∷ s

abbrev pub a_conjunction : List Symbol → List Symbol
a_conjunction s = Want NegationG ∷ Want (MoreG Conjunctions) ∷ s

pub record Drives (e : ExpressionT) : Type 0 where
  pub as_primary : precedence e ≤ 0 → ReadsE a_primary bare e 1
  pub as_signed : precedence e ≤ 1 → ReadsE a_signed bare e 1
  pub as_term : precedence e ≤ 2 → ReadsE a_term (more_of Products) e 1
  pub as_sum : precedence e ≤ 3 → ReadsE a_sum (more_of Sums) e 2
  pub as_relation : precedence e ≤ 4 → ReadsE a_relation bare e 4
  pub as_negation : precedence e ≤ 5 → ReadsE a_negation bare e 4
  pub as_conjunction : precedence e ≤ 6 → ReadsE a_conjunction (more_of Conjunctions) e 4
  pub as_disjunction : ReadsE an_expression (more_of Disjunctions) e 6

-- a whole expression
pub whole : {e : ExpressionT} → Drives e → ReadsE an_expression bare e 7
whole h s v ls r q k = h.as_disjunction s v ls r (less 6 (omega arith) q) (no_more Disjunctions s _ q ∙ k)

-- ---- from precedence to precedence

-- the first leaf is not NOT
pub data NoNot : List Leaf → Type 0 where
  no_not : {l : Leaf} {ls : List Leaf} → is_key key.Not l.terminal ≡ false → NoNot (l ∷ ls)

pub signed_decided : (t : Terminal) → IsDecided (signed t)
signed_decided t = first_test (is_sign mark.Plus t) (is_sign mark.Minus t)
  where
    by_test : (b c d : Bool) → IsDecided (cond b (Keep true (λ p. Want (InsideG p) ∷ Leave ∷ [])) (cond c (Keep false (λ p. Want (LocatedG p Pointer) ∷ [])) (cond d (Keep false (λ p. Want (LocatedG p Offset) ∷ [])) Refused)))
    by_test true c d = tt
    by_test false true d = tt
    by_test false false true = tt
    by_test false false false = tt

    primary_decided : (u : Terminal) → IsDecided (primary u)
    primary_decided (Name n) = tt
    primary_decided (Numeral n) = tt
    primary_decided (Text s) = tt
    primary_decided (Key k) = tt
    primary_decided (Sign m) = by_test (is_sign mark.LeftParenthesis (Sign m)) (is_sign mark.AtSign (Sign m)) (is_sign mark.Period (Sign m))
    primary_decided Finish = tt

    first_test : (b c : Bool) → IsDecided (cond b (Keep true (λ p. Want PrimaryG ∷ Leave ∷ Do (make_unary p unary.Plus) ∷ [])) (cond c (Keep true (λ p. Want PrimaryG ∷ Leave ∷ Do (make_unary p unary.Minus) ∷ [])) (primary t)))
    first_test true c = tt
    first_test false true = tt
    first_test false false = primary_decided t

pub negation_is : (s : List Symbol) (v : List Value) (ls : List Leaf) → NoNot ls → trace (a_negation s) v ls ≡ trace (a_relation s) v ls
negation_is s v _ (no_not {l} {ls} h) = same_trace (a_negation s) (a_relation s) v v l ls
    (feed_want NegationG s v l.terminal l.place
    ∙ ap (λ (b : Bool). ruled (cond b (Keep true (λ p. Want NegationG ∷ Leave ∷ Do (make_unary p unary.Not) ∷ [])) (behind (signed l.terminal) (Want (MoreG Products) ∷ Want (MoreG Sums) ∷ Want (MoreG Relations) ∷ []))) s v l.terminal l.place) h
    ∙ ruled_behind (signed l.terminal) (Want (MoreG Products) ∷ Want (MoreG Sums) ∷ Want (MoreG Relations) ∷ []) s v l.terminal l.place (signed_decided l.terminal)
    ∙ sym (feed_want SignedG (Want (MoreG Products) ∷ Want (MoreG Sums) ∷ Want (MoreG Relations) ∷ s) v l.terminal l.place))

-- NOT is no leaf but the first of its own
pub first_leaf : (e : ExpressionT) (d : ℕ) (ls : List Leaf) → precedence e ≤ 4 → Well e → NoNot (expression put_leaf d e ls)
first_leaf (NumeralE n) d ls h w = no_not refl
first_leaf (TextE s) d ls h w = no_not refl
first_leaf (ReferenceE (ReferenceOf n es s)) d ls h w = no_not refl
first_leaf (LocationE (LocationOf p Pointer x)) d ls h w = no_not refl
first_leaf (LocationE (LocationOf p Offset x)) d ls h w = no_not refl
first_leaf (LocationE (ConstantsOf p Pointer x)) d ls h w = no_not refl
first_leaf (LocationE (ConstantsOf p Offset x)) d ls h w = no_not refl
first_leaf (ParenthesisedE p e) d ls h w = no_not refl
first_leaf (EmbeddedE p x e) d ls h w = no_not refl
first_leaf (UnaryE p unary.Plus e) d ls h w = no_not refl
first_leaf (UnaryE p unary.Minus e) d ls h w = no_not refl
first_leaf (UnaryE p unary.Not e) d ls h w = absurd (omega (arith, h))
first_leaf (BinaryE p o a b) d ls h w = first_leaf a d (leaf_at (binary_sign o) p ∷ expression put_leaf d b ls) (omega (arith, h, w.0, left_most o)) w.2
  where
    left_most : (o : BinaryOperator) → left_precedence o ≤ precedence_of o
    left_most binary.Multiply = omega arith
    left_most binary.Divide = omega arith
    left_most binary.Modulo = omega arith
    left_most binary.Add = omega arith
    left_most binary.Subtract = omega arith
    left_most binary.Equal = omega arith
    left_most binary.NotEqual = omega arith
    left_most binary.Less = omega arith
    left_most binary.LessEqual = omega arith
    left_most binary.Greater = omega arith
    left_most binary.GreaterEqual = omega arith
    left_most binary.And = omega arith
    left_most binary.Or = omega arith
    left_most binary.ExclusiveOr = omega arith

pub sum_up : (e : ExpressionT) → ReadsE a_term (more_of Products) e 1 → ReadsE a_sum (more_of Sums) e 2
sum_up e h s v ls r q k = h (more_of Sums s) v ls r (less 1 (omega arith) q) (no_more Products (more_of Sums s) _ q ∙ k)

pub relation_up : (e : ExpressionT) → ReadsE a_sum (more_of Sums) e 2 → ReadsE a_relation bare e 4
relation_up e h s v ls r q k = h (more_of Relations s) v ls r (less 2 (omega arith) q) (no_more Sums (more_of Relations s) _ (less 3 (omega arith) q) ∙ no_more Relations s _ q ∙ k)

pub negation_up : (e : ExpressionT) → precedence e ≤ 4 → Well e → ReadsE a_relation bare e 4 → ReadsE a_negation bare e 4
negation_up e l w h s v ls r q k = negation_is s v (expression put_leaf (depth s) e ls) (first_leaf e (depth s) ls l w) ∙ h s v ls r q k

pub disjunction_up : (e : ExpressionT) → ReadsE a_conjunction (more_of Conjunctions) e 4 → ReadsE an_expression (more_of Disjunctions) e 6
disjunction_up e h s v ls r q k = h (more_of Disjunctions s) v ls r (less 4 (omega arith) q) (no_more Conjunctions (more_of Disjunctions s) _ q ∙ k)

pub from_conjunction : (e : ExpressionT) → 5 < precedence e → ReadsE a_conjunction (more_of Conjunctions) e 4 → Drives e
from_conjunction e l h = record {
  as_primary = λ m. absurd (omega (arith, l, m));
  as_signed = λ m. absurd (omega (arith, l, m));
  as_term = λ m. absurd (omega (arith, l, m));
  as_sum = λ m. absurd (omega (arith, l, m));
  as_relation = λ m. absurd (omega (arith, l, m));
  as_negation = λ m. absurd (omega (arith, l, m));
  as_conjunction = λ m. h;
  as_disjunction = disjunction_up e h;
}

pub from_negation : (e : ExpressionT) → 4 < precedence e → ReadsE a_negation bare e 4 → Drives e
from_negation e l h = record {
  as_primary = λ m. absurd (omega (arith, l, m));
  as_signed = λ m. absurd (omega (arith, l, m));
  as_term = λ m. absurd (omega (arith, l, m));
  as_sum = λ m. absurd (omega (arith, l, m));
  as_relation = λ m. absurd (omega (arith, l, m));
  as_negation = λ m. h;
  as_conjunction = λ m s v ls r q k. h (more_of Conjunctions s) v ls r q k;
  as_disjunction = disjunction_up e (λ s v ls r q k. h (more_of Conjunctions s) v ls r q k);
}

pub from_relation : (e : ExpressionT) → 3 < precedence e → precedence e ≤ 4 → Well e → ReadsE a_relation bare e 4 → Drives e
from_relation e l m w h =
    let n : ReadsE a_negation bare e 4 = negation_up e m w h in
    record {
      as_primary = λ m. absurd (omega (arith, l, m));
      as_signed = λ m. absurd (omega (arith, l, m));
      as_term = λ m. absurd (omega (arith, l, m));
      as_sum = λ m. absurd (omega (arith, l, m));
      as_relation = λ m. h;
      as_negation = λ m. n;
      as_conjunction = λ m s v ls r q k. n (more_of Conjunctions s) v ls r q k;
      as_disjunction = disjunction_up e (λ s v ls r q k. n (more_of Conjunctions s) v ls r q k);
    }

pub from_sum : (e : ExpressionT) → 2 < precedence e → precedence e ≤ 4 → Well e → ReadsE a_sum (more_of Sums) e 2 → Drives e
from_sum e l m w h =
    let o : ReadsE a_relation bare e 4 = relation_up e h in
    let n : ReadsE a_negation bare e 4 = negation_up e m w o in
    record {
      as_primary = λ m. absurd (omega (arith, l, m));
      as_signed = λ m. absurd (omega (arith, l, m));
      as_term = λ m. absurd (omega (arith, l, m));
      as_sum = λ m. h;
      as_relation = λ m. o;
      as_negation = λ m. n;
      as_conjunction = λ m s v ls r q k. n (more_of Conjunctions s) v ls r q k;
      as_disjunction = disjunction_up e (λ s v ls r q k. n (more_of Conjunctions s) v ls r q k);
    }

pub from_term : (e : ExpressionT) → 1 < precedence e → precedence e ≤ 4 → Well e → ReadsE a_term (more_of Products) e 1 → Drives e
from_term e l m w h =
    let p : ReadsE a_sum (more_of Sums) e 2 = sum_up e h in
    let o : ReadsE a_relation bare e 4 = relation_up e p in
    let n : ReadsE a_negation bare e 4 = negation_up e m w o in
    record {
      as_primary = λ m. absurd (omega (arith, l, m));
      as_signed = λ m. absurd (omega (arith, l, m));
      as_term = λ m. h;
      as_sum = λ m. p;
      as_relation = λ m. o;
      as_negation = λ m. n;
      as_conjunction = λ m s v ls r q k. n (more_of Conjunctions s) v ls r q k;
      as_disjunction = disjunction_up e (λ s v ls r q k. n (more_of Conjunctions s) v ls r q k);
    }

pub from_signed : (e : ExpressionT) → precedence e ≤ 4 → Well e → (precedence e ≤ 0 → ReadsE a_primary bare e 1) → ReadsE a_signed bare e 1 → Drives e
from_signed e m w f g =
    let h : ReadsE a_term (more_of Products) e 1 = λ s v ls r q k. g (more_of Products s) v ls r q k in
    let p : ReadsE a_sum (more_of Sums) e 2 = sum_up e h in
    let o : ReadsE a_relation bare e 4 = relation_up e p in
    let n : ReadsE a_negation bare e 4 = negation_up e m w o in
    record {
      as_primary = f;
      as_signed = λ m. g;
      as_term = λ m. h;
      as_sum = λ m. p;
      as_relation = λ m. o;
      as_negation = λ m. n;
      as_conjunction = λ m s v ls r q k. n (more_of Conjunctions s) v ls r q k;
      as_disjunction = disjunction_up e (λ s v ls r q k. n (more_of Conjunctions s) v ls r q k);
    }

-- ---- operators

pub product : (p : Position) (o : BinaryOperator) (a b : ExpressionT) → precedence_of o ≡ 2 → left_precedence o ≡ 2 → 1 < binds (binary_sign o) → ((s : List Symbol) (v : List Value) (ls : List Leaf) → trace (more_of Products s) v (leaf_at (binary_sign o) p ∷ ls) ≡ Then 0 (trace (a_signed (Do (make_binary p o) ∷ more_of Products s)) v ls)) → Well (BinaryE p o a b) → Drives a → Drives b → Drives (BinaryE p o a b)
product p o a b two ltwo bind takes w da db = from_term (BinaryE p o a b) (omega (arith, two)) (omega (arith, two)) w
    (λ s v ls r q k. da.as_term (omega (arith, ltwo, w.0)) s v (leaf_at (binary_sign o) p ∷ expression put_leaf (depth s) b ls) _ (stops bind)
    (takes s (ExpressionR a ∷ v) (expression put_leaf (depth s) b ls)
    ∙ ap (Then 0) (db.as_signed (omega (arith, two, w.1)) (Do (make_binary p o) ∷ more_of Products s) (ExpressionR a ∷ v) ls r q (did (make_binary p o) (more_of Products s) _ _ q refl ∙ k))))

pub sum_of : (p : Position) (o : BinaryOperator) (a b : ExpressionT) → precedence_of o ≡ 3 → left_precedence o ≡ 3 → 2 < binds (binary_sign o) → ((s : List Symbol) (v : List Value) (ls : List Leaf) → trace (more_of Sums s) v (leaf_at (binary_sign o) p ∷ ls) ≡ Then 0 (trace (a_term (Do (make_binary p o) ∷ more_of Sums s)) v ls)) → Well (BinaryE p o a b) → Drives a → Drives b → Drives (BinaryE p o a b)
sum_of p o a b three lthree bind takes w da db = from_sum (BinaryE p o a b) (omega (arith, three)) (omega (arith, three)) w
    (λ s v ls r q k. da.as_sum (omega (arith, lthree, w.0)) s v (leaf_at (binary_sign o) p ∷ expression put_leaf (depth s) b ls) _ (stops bind)
    (takes s (ExpressionR a ∷ v) (expression put_leaf (depth s) b ls)
    ∙ ap (Then 0) (db.as_term (omega (arith, three, w.1)) (Do (make_binary p o) ∷ more_of Sums s) (ExpressionR a ∷ v) ls r (less 1 (omega arith) q)
    (no_more Products (Do (make_binary p o) ∷ more_of Sums s) _ q ∙ did (make_binary p o) (more_of Sums s) _ _ q refl ∙ k))))

pub relation : (p : Position) (o : BinaryOperator) (a b : ExpressionT) → precedence_of o ≡ 4 → left_precedence o ≡ 3 → 3 < binds (binary_sign o) → ((s : List Symbol) (v : List Value) (ls : List Leaf) → trace (more_of Relations s) v (leaf_at (binary_sign o) p ∷ ls) ≡ Then 0 (trace (a_sum (Do (make_binary p o) ∷ s)) v ls)) → Well (BinaryE p o a b) → Drives a → Drives b → Drives (BinaryE p o a b)
relation p o a b four lthree bind takes w da db = from_relation (BinaryE p o a b) (omega (arith, four)) (omega (arith, four)) w
    (λ s v ls r q k. da.as_sum (omega (arith, lthree, w.0)) (more_of Relations s) v (leaf_at (binary_sign o) p ∷ expression put_leaf (depth s) b ls) _ (stops (omega (arith, bind)))
    (no_more Sums (more_of Relations s) _ (stops bind) ∙ takes s (ExpressionR a ∷ v) (expression put_leaf (depth s) b ls)
    ∙ ap (Then 0) (db.as_sum (omega (arith, four, w.1)) (Do (make_binary p o) ∷ s) (ExpressionR a ∷ v) ls r (less 2 (omega arith) q)
    (no_more Sums (Do (make_binary p o) ∷ s) _ (less 3 (omega arith) q) ∙ did (make_binary p o) s _ _ q refl ∙ k))))

pub conjunction : (p : Position) (o : BinaryOperator) (a b : ExpressionT) → precedence_of o ≡ 6 → left_precedence o ≡ 6 → 4 < binds (binary_sign o) → ((s : List Symbol) (v : List Value) (ls : List Leaf) → trace (more_of Conjunctions s) v (leaf_at (binary_sign o) p ∷ ls) ≡ Then 0 (trace (a_negation (Do (make_binary p o) ∷ more_of Conjunctions s)) v ls)) → Well (BinaryE p o a b) → Drives a → Drives b → Drives (BinaryE p o a b)
conjunction p o a b six lsix bind takes w da db = from_conjunction (BinaryE p o a b) (omega (arith, six))
    (λ s v ls r q k. da.as_conjunction (omega (arith, lsix, w.0)) s v (leaf_at (binary_sign o) p ∷ expression put_leaf (depth s) b ls) _ (stops bind)
    (takes s (ExpressionR a ∷ v) (expression put_leaf (depth s) b ls)
    ∙ ap (Then 0) (db.as_negation (omega (arith, six, w.1)) (Do (make_binary p o) ∷ more_of Conjunctions s) (ExpressionR a ∷ v) ls r q (did (make_binary p o) (more_of Conjunctions s) _ _ q refl ∙ k))))

pub disjunction : (p : Position) (o : BinaryOperator) (a b : ExpressionT) → precedence_of o ≡ 7 → 6 < binds (binary_sign o) → ((s : List Symbol) (v : List Value) (ls : List Leaf) → trace (more_of Disjunctions s) v (leaf_at (binary_sign o) p ∷ ls) ≡ Then 0 (trace (a_conjunction (Do (make_binary p o) ∷ more_of Disjunctions s)) v ls)) → Well (BinaryE p o a b) → Drives a → Drives b → Drives (BinaryE p o a b)
disjunction p o a b seven bind takes w da db = record {
  as_primary = λ m. absurd (omega (arith, seven, m));
  as_signed = λ m. absurd (omega (arith, seven, m));
  as_term = λ m. absurd (omega (arith, seven, m));
  as_sum = λ m. absurd (omega (arith, seven, m));
  as_relation = λ m. absurd (omega (arith, seven, m));
  as_negation = λ m. absurd (omega (arith, seven, m));
  as_conjunction = λ m. absurd (omega (arith, seven, m));
  as_disjunction = λ s v ls r q k. da.as_disjunction s v (leaf_at (binary_sign o) p ∷ expression put_leaf (depth s) b ls) _ (stops bind)
      (takes s (ExpressionR a ∷ v) (expression put_leaf (depth s) b ls)
      ∙ ap (Then 0) (db.as_conjunction (omega (arith, seven, w.1)) (Do (make_binary p o) ∷ more_of Disjunctions s) (ExpressionR a ∷ v) ls r (less 4 (omega arith) q)
      (no_more Conjunctions (Do (make_binary p o) ∷ more_of Disjunctions s) _ q ∙ did (make_binary p o) (more_of Disjunctions s) _ _ q refl ∙ k)));
}

pub binary_drives : (p : Position) (o : BinaryOperator) (a b : ExpressionT) → Well (BinaryE p o a b) → Drives a → Drives b → Drives (BinaryE p o a b)
binary_drives p binary.Multiply a b w da db = product p binary.Multiply a b refl refl (omega arith) (λ s v ls. refl) w da db
binary_drives p binary.Divide a b w da db = product p binary.Divide a b refl refl (omega arith) (λ s v ls. refl) w da db
binary_drives p binary.Modulo a b w da db = product p binary.Modulo a b refl refl (omega arith) (λ s v ls. refl) w da db
binary_drives p binary.Add a b w da db = sum_of p binary.Add a b refl refl (omega arith) (λ s v ls. refl) w da db
binary_drives p binary.Subtract a b w da db = sum_of p binary.Subtract a b refl refl (omega arith) (λ s v ls. refl) w da db
binary_drives p binary.Equal a b w da db = relation p binary.Equal a b refl refl (omega arith) (λ s v ls. refl) w da db
binary_drives p binary.NotEqual a b w da db = relation p binary.NotEqual a b refl refl (omega arith) (λ s v ls. refl) w da db
binary_drives p binary.Less a b w da db = relation p binary.Less a b refl refl (omega arith) (λ s v ls. refl) w da db
binary_drives p binary.LessEqual a b w da db = relation p binary.LessEqual a b refl refl (omega arith) (λ s v ls. refl) w da db
binary_drives p binary.Greater a b w da db = relation p binary.Greater a b refl refl (omega arith) (λ s v ls. refl) w da db
binary_drives p binary.GreaterEqual a b w da db = relation p binary.GreaterEqual a b refl refl (omega arith) (λ s v ls. refl) w da db
binary_drives p binary.And a b w da db = conjunction p binary.And a b refl refl (omega arith) (λ s v ls. refl) w da db
binary_drives p binary.Or a b w da db = disjunction p binary.Or a b refl (omega arith) (λ s v ls. refl) w da db
binary_drives p binary.ExclusiveOr a b w da db = disjunction p binary.ExclusiveOr a b refl (omega arith) (λ s v ls. refl) w da db

pub sign_drives : (p : Position) (o : UnaryOperator) (e : ExpressionT) → unary_precedence o ≡ 1 → operand_precedence o ≡ 0 → ((s : List Symbol) (v : List Value) (ls : List Leaf) → trace (a_signed s) v (leaf_at (unary_sign o) p ∷ ls) ≡ Then (suc (depth s)) (trace (a_primary (Leave ∷ Do (make_unary p o) ∷ s)) v ls)) → Well (UnaryE p o e) → Drives e → Drives (UnaryE p o e)
sign_drives p o e one none takes w d = from_signed (UnaryE p o e) (omega (arith, one)) w (λ m. absurd (omega (arith, one, m)))
    (λ s v ls r q k. takes s v (expression put_leaf (suc (depth s)) e ls)
    ∙ ap (Then (suc (depth s))) (d.as_primary (omega (arith, none, w.0)) (Leave ∷ Do (make_unary p o) ∷ s) v ls r q (left (Do (make_unary p o) ∷ s) _ q ∙ did (make_unary p o) s _ _ q refl ∙ k)))

pub unary_drives : (p : Position) (o : UnaryOperator) (e : ExpressionT) → Well (UnaryE p o e) → Drives e → Drives (UnaryE p o e)
unary_drives p unary.Plus e w d = sign_drives p unary.Plus e refl refl (λ s v ls. refl) w d
unary_drives p unary.Minus e w d = sign_drives p unary.Minus e refl refl (λ s v ls. refl) w d
unary_drives p unary.Not e w d = from_negation (UnaryE p unary.Not e) (omega arith)
    (λ s v ls r q k. ap (Then (suc (depth s))) (d.as_negation w.0 (Leave ∷ Do (make_unary p unary.Not) ∷ s) v ls r q (left (Do (make_unary p unary.Not) ∷ s) _ q ∙ did (make_unary p unary.Not) s _ _ q refl ∙ k)))

-- there is a next token
pub data Some_leaf : List Leaf → Type 0 where
  some_leaf : {l : Leaf} {ls : List Leaf} → Some_leaf (l ∷ ls)

pub some_of : {n : ℕ} {ls : List Leaf} → Stops n ls → Some_leaf ls
some_of (stops h) = some_leaf

pub pushed : {ls : List Leaf} (w : Value) (s : List Symbol) (v : List Value) → Some_leaf ls → trace (push w ∷ s) v ls ≡ trace s (w ∷ v) ls
pushed w s v (some_leaf {l} {ls}) = same_trace (push w ∷ s) s v (w ∷ v) l ls refl

pub some_expression : (e : ExpressionT) (d : ℕ) (ls : List Leaf) → Some_leaf (expression put_leaf d e ls)
some_expression (NumeralE n) d ls = some_leaf
some_expression (TextE s) d ls = some_leaf
some_expression (ReferenceE (ReferenceOf n es m)) d ls = some_leaf
some_expression (LocationE (LocationOf p f x)) d ls = some_leaf
some_expression (LocationE (ConstantsOf p f vs)) d ls = some_leaf
some_expression (ParenthesisedE p e) d ls = some_leaf
some_expression (EmbeddedE p x e) d ls = some_leaf
some_expression (UnaryE p o e) d ls = some_leaf
some_expression (BinaryE p o a b) d ls = some_expression a d (leaf_at (binary_sign o) p ∷ expression put_leaf d b ls)

pub some_listed : (d : ℕ) (es : ExpressionsT) {ls : List Leaf} → Some_leaf ls → Some_leaf (listed put_leaf d es ls)
some_listed d no_expressions q = q
some_listed d (expressions es e) {ls} q = some_listed d es (some_expression e d (leaf (Sign mark.Comma) ∷ ls))

-- ---- parts of a reference

abbrev pub a_reference : NameT → ExpressionsT → SelectorT → Value
a_reference n es m = ExpressionR (ReferenceE (ReferenceOf n es m))

abbrev pub add_and_more : List Symbol → List Symbol
add_and_more s = Do add_expression ∷ Want MoreSubscriptsG ∷ s

abbrev pub DrivesSelector : SelectorT → Type 0
DrivesSelector m = (n : NameT) (es : ExpressionsT) (s : List Symbol) (v : List Value) (ls : List Leaf) (r : Trace) → Stops 1 ls → trace s (a_reference n es m ∷ v) ls ≡ r
    → trace (Want SelectorG ∷ s) (a_reference n es no_member ∷ v) (selector put_leaf (depth s) m ls) ≡ selector put_then (depth s) m r

abbrev pub DrivesSubscripts : ExpressionsT → Type 0
DrivesSubscripts es = (n : NameT) (s : List Symbol) (v : List Value) (ls : List Leaf) (r : Trace) → Stops 0 ls → trace s (a_reference n es no_member ∷ v) ls ≡ r
    → trace (Want SubscriptsG ∷ s) (a_reference n no_expressions no_member ∷ v) (subscripts put_leaf (depth s) es ls) ≡ subscripts put_then (depth s) es r

abbrev pub DrivesListed : ExpressionsT → Type 0
DrivesListed es = (s : List Symbol) (v : List Value) (ls : List Leaf) (r : Trace) → trace (an_expression (add_and_more s)) (ExpressionsR es ∷ v) ls ≡ r
    → trace (an_expression (add_and_more s)) (ExpressionsR no_expressions ∷ v) (listed put_leaf (depth s) es ls) ≡ listed put_then (depth s) es r

pub another : (es : ExpressionsT) (e : ExpressionT) → DrivesListed es → Drives e → DrivesListed (expressions es e)
another es e h d = λ s v ls r k. h s v (expression put_leaf (depth s) e (leaf (Sign mark.Comma) ∷ ls)) _ (whole d (add_and_more s) (ExpressionsR es ∷ v) (leaf (Sign mark.Comma) ∷ ls) _ (stops (omega arith)) (ap (Then 0) k))

pub subscripted : (es : ExpressionsT) (e : ExpressionT) → DrivesListed es → Drives e → DrivesSubscripts (expressions es e)
subscripted es e h d = λ n s v ls r q k. ap (Then (suc (depth s)))
    (pushed (ExpressionsR no_expressions) (an_expression (add_and_more (Leave ∷ Do set_subscripts ∷ s))) (a_reference n no_expressions no_member ∷ v) (some_listed (suc (depth s)) es (some_expression e (suc (depth s)) (leaf (Sign mark.RightParenthesis) ∷ ls)))
    ∙ h (Leave ∷ Do set_subscripts ∷ s) (a_reference n no_expressions no_member ∷ v) (expression put_leaf (suc (depth s)) e (leaf (Sign mark.RightParenthesis) ∷ ls)) _
    (whole d (add_and_more (Leave ∷ Do set_subscripts ∷ s)) (ExpressionsR es ∷ a_reference n no_expressions no_member ∷ v) (leaf (Sign mark.RightParenthesis) ∷ ls) _ (stops (omega arith))
    (ap (Then 0) (left (Do set_subscripts ∷ s) _ q ∙ did set_subscripts s _ _ q refl ∙ k))))

pub member_subscripted : (m : NameT) (e : ExpressionT) → Drives e → DrivesSelector (member_at m e)
member_subscripted m e d = λ n es s v ls r q k. ap (λ (x : Trace). Then 0 (Then 0 (Then (suc (depth s)) x)))
    (whole d (need mark.RightParenthesis ∷ Leave ∷ Do set_member_subscript ∷ s) (a_reference n es (member m) ∷ v) (leaf (Sign mark.RightParenthesis) ∷ ls) _ (stops (omega arith))
    (ap (Then 0) (left (Do set_member_subscript ∷ s) _ q ∙ did set_member_subscript s _ _ q refl ∙ k)))

pub selected : (m : NameT) → DrivesSelector (member m)
selected m = λ n es s v ls r q k. ap (λ (x : Trace). Then 0 (Then 0 x)) (did (set_member m) (Want MemberSubscriptG ∷ s) _ _ q refl ∙ no_member_subscript s _ (less 0 (omega arith) q) ∙ k)

-- the first leaf of a selector and what follows it is no "("
pub no_open : (d : ℕ) (m : SelectorT) {ls : List Leaf} → Stops 1 ls → Stops 0 (selector put_leaf d m ls)
no_open d no_member q = less 0 (omega arith) q
no_open d (member n) q = stops (omega arith)
no_open d (member_at n e) q = stops (omega arith)

-- after the name
pub record DrivesReference (es : ExpressionsT) (m : SelectorT) : Type 0 where
  pub tail : (n : NameT) (s : List Symbol) (v : List Value) (ls : List Leaf) (r : Trace) → Stops 1 ls → trace s (a_reference n es m ∷ v) ls ≡ r
      → trace (Want SubscriptsG ∷ Want SelectorG ∷ s) (a_reference n no_expressions no_member ∷ v) (subscripts put_leaf (depth s) es (selector put_leaf (depth s) m ls)) ≡ subscripts put_then (depth s) es (selector put_then (depth s) m r)
  pub begun : (n : NameT) (s : List Symbol) (v : List Value) (ls : List Leaf) (r : Trace) → Stops 1 ls → trace s (a_reference n es m ∷ v) ls ≡ r
      → trace (reference_begun n s) v (subscripts put_leaf (depth s) es (selector put_leaf (depth s) m ls)) ≡ subscripts put_then (depth s) es (selector put_then (depth s) m r)

pub some_subscripts : (d : ℕ) (es : ExpressionsT) {ls : List Leaf} → Some_leaf ls → Some_leaf (subscripts put_leaf d es ls)
some_subscripts d no_expressions q = q
some_subscripts d (expressions es e) q = some_leaf

pub referred : (es : ExpressionsT) (m : SelectorT) → DrivesSubscripts es → DrivesSelector m → DrivesReference es m
referred es m h k =
    let after : (n : NameT) (s : List Symbol) (v : List Value) (ls : List Leaf) (r : Trace) → Stops 1 ls → trace s (a_reference n es m ∷ v) ls ≡ r
    → trace (Want SubscriptsG ∷ Want SelectorG ∷ s) (a_reference n no_expressions no_member ∷ v) (subscripts put_leaf (depth s) es (selector put_leaf (depth s) m ls)) ≡ subscripts put_then (depth s) es (selector put_then (depth s) m r)
    = λ n s v ls r q x. h n (Want SelectorG ∷ s) v (selector put_leaf (depth s) m ls) _ (no_open (depth s) m q) (k n es s v ls r q x) in
    record {
      tail = after;
      begun = λ n s v ls r q x. pushed (a_reference n no_expressions no_member) (Want SubscriptsG ∷ Want SelectorG ∷ s) v (some_subscripts (depth s) es (some_of (no_open (depth s) m q))) ∙ after n s v ls r q x;
    }

-- What a run does next where the parser has tested the next token, in expressions.
use Rattle.std.proofs.Common.{◌≡◌, ℕ, ◌-◌, nat_eq, nat_lt, List, [], ◌∷◌, ◌++◌, Bool, true, false, cond, Option, Some, None, is_some, refl, sym, ap, ◌∙◌}
use Rattle.std.specs.Prelude.{option_map}
use Rattle.std.proofs.lemmas.Bool.{true≢false, ne_eqb}
use Rattle.plm_token.specs.declared.token.Keyword.TheVariants as key
use Rattle.plm_token.specs.declared.token.Mark.TheVariants as mark
use Rattle.plm_syntax.specs.declared.tree.Position.{Position}
use Rattle.plm_syntax.specs.declared.tree.UnaryOperator.TheVariants as unary
use Rattle.plm_syntax.specs.declared.tree.BinaryOperator.{BinaryOperator}
use Rattle.plm_syntax.specs.declared.tree.BinaryOperator.TheVariants as binary
use Rattle.plm_syntax.specs.Terminal.{Terminal, Name, Numeral, Text, Key, Sign, Finish, Leaf, leaf_at, is_key}
use Rattle.plm_syntax.specs.Inner.Terminal.{is_sign}
use Rattle.plm_syntax.specs.Tree.{LocationForm, Pointer, Offset}
use Rattle.plm_syntax.specs.Spelling.{form_sign}
use Rattle.plm_syntax.specs.Inner.Symbol.{Value, Precedence, Symbol, depth, behind, Products, Sums, Relations, Conjunctions, Disjunctions, PrimaryG, SignedG, NegationG, MoreG, InsideG, AfterReferenceG, MoreSubscriptsG, LocatedG, ValueG, NegativeG, MoreValuesG, Want, Do, Leave, Refused, Over, Take, Keep}
use Rattle.plm_syntax.specs.WellFormed.{precedence_of}
use Rattle.plm_syntax.specs.Inner.Machine.{operand, again, an_expression, number_of, operator_of, make_binary, operation, more, make_unary, add_expression, primary, expression_at, closing, inside, more_subscripts, member_rule, locate_values, location_value, add_value, a_value_list, located, value_rule, negative, more_values, run}
use Rattle.plm_syntax.proofs.DriveParts.{after_goes}
use Rattle.plm_syntax.proofs.DriveBlock.{expression_goes}
use Rattle.plm_syntax.proofs.Along.{at_front, same_goal, passed_over}
use Rattle.plm_syntax.specs.declared.cursor.Cursor.{Cursor}
use Rattle.plm_syntax.specs.Inner.Parsed.{ahead, next_of, is_name, is_number, is_text}
use Rattle.plm_syntax.specs.Inner.Parts.{joined, all_precedences, is_relations, level_of, level_at, tightness, looser, looser_than, operators_from}
use Rattle.plm_syntax.proofs.DriveExpression.{negation_is, no_not}

pub negation_goes : (c : Cursor) (s : List Symbol) (v : List Value) → is_key key.Not (next_of c) ≡ false → run 64 (Want NegationG ∷ s) v (ahead c) ≡ run 64 (joined Relations s) v (ahead c)
negation_goes c s v h = at_front c (Want NegationG ∷ s) (joined Relations s) v v (λ l ls q. negation_is s v (l ∷ ls) (no_not (ap (is_key key.Not) q ∙ h)))

inside_rule : (p : Position) (t : Terminal) → is_name t ≡ false → inside p t ≡ behind (expression_at t) (closing p)
inside_rule p (Name n) h = absurd cc
inside_rule p (Numeral n) h = refl
inside_rule p (Text n) h = refl
inside_rule p (Key n) h = refl
inside_rule p (Sign n) h = refl
inside_rule p Finish h = refl

pub inside_goes : (p : Position) (c : Cursor) (s : List Symbol) (v : List Value) → is_name (next_of c) ≡ false → run 64 (Want (InsideG p) ∷ s) v (ahead c) ≡ run 64 (an_expression (closing p ++ s)) v (ahead c)
inside_goes p c s v h = at_front c (Want (InsideG p) ∷ s) (an_expression (closing p ++ s)) v v (λ l ls q. expression_goes (InsideG p) (closing p) s v l ls (inside_rule p l.terminal (ap is_name q ∙ h)))

pub reference_goes : (p : Position) (c : Cursor) (s : List Symbol) (v : List Value) → is_sign mark.Assign (next_of c) ≡ false → run 64 (Want (AfterReferenceG p) ∷ s) v (ahead c) ≡ run 64 (all_precedences (closing p ++ s)) v (ahead c)
reference_goes p c s v h = at_front c (Want (AfterReferenceG p) ∷ s) (all_precedences (closing p ++ s)) v v (λ l ls q. after_goes p s v l ls (ap (is_sign mark.Assign) q ∙ h))

pub signed_goes : (c : Cursor) (s : List Symbol) (v : List Value) → is_sign mark.Plus (next_of c) ≡ false → is_sign mark.Minus (next_of c) ≡ false → run 64 (Want SignedG ∷ s) v (ahead c) ≡ run 64 (Want PrimaryG ∷ s) v (ahead c)
signed_goes c s v g h = same_goal SignedG PrimaryG c s v
    (ap (λ (b : Bool). cond b (Keep true (λ p. Want PrimaryG ∷ Leave ∷ Do (make_unary p unary.Plus) ∷ [])) (cond (is_sign mark.Minus (next_of c)) (Keep true (λ p. Want PrimaryG ∷ Leave ∷ Do (make_unary p unary.Minus) ∷ [])) (primary (next_of c)))) g
    ∙ ap (λ (b : Bool). cond b (Keep true (λ p. Want PrimaryG ∷ Leave ∷ Do (make_unary p unary.Minus) ∷ [])) (primary (next_of c))) h)

-- ---- tokens with which a goal cannot begin

located_signs : (t : Terminal) (a b : List Symbol → List Symbol) → is_sign mark.AtSign t ≡ false → is_sign mark.Period t ≡ false
    → cond (is_sign mark.AtSign t) (Keep false (λ p. a (Want (LocatedG p Pointer) ∷ []))) (cond (is_sign mark.Period t) (Keep false (λ p. b (Want (LocatedG p Offset) ∷ []))) Refused) ≡ Refused
located_signs t a b g h = ap (λ (x : Bool). cond x (Keep false (λ p. a (Want (LocatedG p Pointer) ∷ []))) (cond (is_sign mark.Period t) (Keep false (λ p. b (Want (LocatedG p Offset) ∷ []))) Refused)) g
    ∙ ap (λ (x : Bool). cond x (Keep false (λ p. b (Want (LocatedG p Offset) ∷ []))) Refused) h

pub primary_refused : (t : Terminal) → is_name t ≡ false → is_number t ≡ false → is_text t ≡ false → is_sign mark.LeftParenthesis t ≡ false → is_sign mark.AtSign t ≡ false → is_sign mark.Period t ≡ false → primary t ≡ Refused
primary_refused (Name n) a b c d e f = absurd cc
primary_refused (Numeral n) a b c d e f = absurd cc
primary_refused (Text n) a b c d e f = absurd cc
primary_refused (Key n) a b c d e f = refl
primary_refused Finish a b c d e f = refl
primary_refused (Sign m) a b c d e f = ap (λ (x : Bool). cond x (Keep true (λ p. Want (InsideG p) ∷ Leave ∷ [])) (cond (is_sign mark.AtSign (Sign m)) (Keep false (λ p. Want (LocatedG p Pointer) ∷ [])) (cond (is_sign mark.Period (Sign m)) (Keep false (λ p. Want (LocatedG p Offset) ∷ [])) Refused))) d
    ∙ located_signs (Sign m) (λ x. x) (λ x. x) e f

pub value_refused : (t : Terminal) → is_number t ≡ false → is_text t ≡ false → is_sign mark.Minus t ≡ false → is_sign mark.AtSign t ≡ false → is_sign mark.Period t ≡ false → value_rule t ≡ Refused
value_refused (Name n) b c d e f = refl
value_refused (Numeral n) b c d e f = absurd cc
value_refused (Text n) b c d e f = absurd cc
value_refused (Key n) b c d e f = refl
value_refused Finish b c d e f = refl
value_refused (Sign m) b c d e f = ap (λ (x : Bool). cond x (Take false (Want NegativeG ∷ [])) (cond (is_sign mark.AtSign (Sign m)) (Keep false (λ p. Want (LocatedG p Pointer) ∷ Do location_value ∷ [])) (cond (is_sign mark.Period (Sign m)) (Keep false (λ p. Want (LocatedG p Offset) ∷ Do location_value ∷ [])) Refused))) d
    ∙ located_signs (Sign m) (λ x. x ++ (Do location_value ∷ [])) (λ x. x ++ (Do location_value ∷ [])) e f

pub negative_refused : (t : Terminal) → is_number t ≡ false → negative t ≡ Refused
negative_refused (Name n) h = refl
negative_refused (Numeral n) h = absurd cc
negative_refused (Text n) h = refl
negative_refused (Key n) h = refl
negative_refused (Sign n) h = refl
negative_refused Finish h = refl

pub member_refused : (t : Terminal) → is_name t ≡ false → member_rule t ≡ Refused
member_refused (Name n) h = absurd cc
member_refused (Numeral n) h = refl
member_refused (Text n) h = refl
member_refused (Key n) h = refl
member_refused (Sign n) h = refl
member_refused Finish h = refl

pub located_refused : (p : Position) (f : LocationForm) (t : Terminal) → is_sign mark.LeftParenthesis t ≡ false → is_name t ≡ false → located p f t ≡ Refused
located_refused p f (Name n) g h = absurd cc
located_refused p f (Numeral n) g h = refl
located_refused p f (Text n) g h = refl
located_refused p f (Key n) g h = refl
located_refused p f (Sign n) g h = ap (λ (x : Bool). cond x (Take true (a_value_list (Leave ∷ Do (locate_values p f) ∷ []))) Refused) g
located_refused p f Finish g h = refl

pub more_subscripts_refused : (t : Terminal) → is_sign mark.Comma t ≡ false → is_sign mark.RightParenthesis t ≡ false → more_subscripts t ≡ Refused
more_subscripts_refused t g h = ap (λ (x : Bool). cond x (Take false (an_expression (Do add_expression ∷ Want MoreSubscriptsG ∷ []))) (cond (is_sign mark.RightParenthesis t) (Take false []) Refused)) g ∙ ap (λ (x : Bool). cond x (Take false []) Refused) h

pub more_values_refused : (t : Terminal) → is_sign mark.Comma t ≡ false → is_sign mark.RightParenthesis t ≡ false → more_values t ≡ Refused
more_values_refused t g h = ap (λ (x : Bool). cond x (Take false (Want ValueG ∷ Do add_value ∷ Want MoreValuesG ∷ [])) (cond (is_sign mark.RightParenthesis t) (Take false []) Refused)) g ∙ ap (λ (x : Bool). cond x (Take false []) Refused) h

-- ---- "@" and "."

pub located_primary : (f : LocationForm) (p : Position) (s : List Symbol) (v : List Value) (ls : List Leaf) → run 64 (Want PrimaryG ∷ s) v (leaf_at (form_sign f) p ∷ ls) ≡ run 64 (Want (LocatedG p f) ∷ s) v ls
located_primary Pointer p s v ls = refl
located_primary Offset p s v ls = refl

pub located_value : (f : LocationForm) (p : Position) (s : List Symbol) (v : List Value) (ls : List Leaf) → run 64 (Want ValueG ∷ s) v (leaf_at (form_sign f) p ∷ ls) ≡ run 64 (Want (LocatedG p f) ∷ Do location_value ∷ s) v ls
located_value Pointer p s v ls = refl
located_value Offset p s v ls = refl

-- ---- the levels

pub again_relations : (l : Precedence) → is_relations l ≡ true → (s : List Symbol) → again l ++ s ≡ s
again_relations Products h s = absurd cc
again_relations Sums h s = absurd cc
again_relations Relations h s = refl
again_relations Conjunctions h s = absurd cc
again_relations Disjunctions h s = absurd cc

pub again_others : (l : Precedence) → is_relations l ≡ false → (s : List Symbol) → again l ++ s ≡ Want (MoreG l) ∷ s
again_others Products h s = refl
again_others Sums h s = refl
again_others Relations h s = absurd cc
again_others Conjunctions h s = refl
again_others Disjunctions h s = refl

pub depth_again : (l : Precedence) (s : List Symbol) → depth (again l ++ s) ≡ depth s
depth_again Products s = refl
depth_again Sums s = refl
depth_again Relations s = refl
depth_again Conjunctions s = refl
depth_again Disjunctions s = refl

pub depth_looser : (l : Precedence) (s : List Symbol) → depth (looser_than l s) ≡ depth s
depth_looser Products s = refl
depth_looser Sums s = refl
depth_looser Relations s = refl
depth_looser Conjunctions s = refl
depth_looser Disjunctions s = refl

-- ---- no operator comes next

no_operator : (l : Precedence) (t : Terminal) → is_some (operator_of t) ≡ false → more l t ≡ Over
no_operator l t h = by (operator_of t) h
  where
    by : (o : Option BinaryOperator) → is_some o ≡ false → elim o [ None ↦ Over | Some k ↦ operation l k ] ≡ Over
    by None e = refl
    by (Some k) e = absurd cc

pub all_over : (c : Cursor) (s : List Symbol) (v : List Value) → is_some (operator_of (next_of c)) ≡ false → run 64 (all_precedences s) v (ahead c) ≡ run 64 s v (ahead c)
all_over c s v h =
    passed_over (MoreG Products) c (Want (MoreG Sums) ∷ Want (MoreG Relations) ∷ Want (MoreG Conjunctions) ∷ Want (MoreG Disjunctions) ∷ s) v (no_operator Products (next_of c) h)
    ∙ passed_over (MoreG Sums) c (Want (MoreG Relations) ∷ Want (MoreG Conjunctions) ∷ Want (MoreG Disjunctions) ∷ s) v (no_operator Sums (next_of c) h)
    ∙ passed_over (MoreG Relations) c (Want (MoreG Conjunctions) ∷ Want (MoreG Disjunctions) ∷ s) v (no_operator Relations (next_of c) h)
    ∙ passed_over (MoreG Conjunctions) c (Want (MoreG Disjunctions) ∷ s) v (no_operator Conjunctions (next_of c) h)
    ∙ passed_over (MoreG Disjunctions) c s v (no_operator Disjunctions (next_of c) h)

pub no_level : (t : Terminal) → level_at t ≡ None → is_some (operator_of t) ≡ false
no_level t h = by (operator_of t) h
  where
    by : (o : Option BinaryOperator) → option_map level_of o ≡ None → is_some o ≡ false
    by None g = refl
    by (Some k) g = absurd cc

-- ---- an operator comes next, of this precedence

level_number : (o : BinaryOperator) → number_of (level_of o) ≡ precedence_of o
level_number binary.Multiply = refl
level_number binary.Divide = refl
level_number binary.Modulo = refl
level_number binary.Add = refl
level_number binary.Subtract = refl
level_number binary.Equal = refl
level_number binary.NotEqual = refl
level_number binary.Less = refl
level_number binary.LessEqual = refl
level_number binary.Greater = refl
level_number binary.GreaterEqual = refl
level_number binary.And = refl
level_number binary.Or = refl
level_number binary.ExclusiveOr = refl

-- an operator of another precedence is passed over
other_level : (l : Precedence) (o : BinaryOperator) → nat_eq (number_of (level_of o)) (number_of l) ≡ false → operation l o ≡ Over
other_level l o h = ap (λ (b : Bool). cond b (Keep false (λ p. operand l ++ (Do (make_binary p o) ∷ again l))) Over) (ap (λ (n : ℕ). nat_eq n (number_of l)) (sym (level_number o)) ∙ h)

-- what there is, and else this
abbrev given : Precedence → Option Precedence → Precedence
given l None = l
given l (Some m) = m

other_operator : (l m : Precedence) (t : Terminal) → level_at t ≡ Some m → nat_eq (number_of m) (number_of l) ≡ false → more l t ≡ Over
other_operator l m t h e = by (operator_of t) h
  where
    by : (o : Option BinaryOperator) → option_map level_of o ≡ Some m → elim o [ None ↦ Over | Some k ↦ operation l k ] ≡ Over
    by None g = absurd cc
    by (Some k) g = other_level l k (ap (λ (x : Precedence). nat_eq (number_of x) (number_of l)) (ap (given m) g) ∙ e)

passed : (l m : Precedence) (c : Cursor) (s : List Symbol) (v : List Value) → level_at (next_of c) ≡ Some m → nat_eq (number_of m) (number_of l) ≡ false → run 64 (Want (MoreG l) ∷ s) v (ahead c) ≡ run 64 s v (ahead c)
passed l m c s v h e = passed_over (MoreG l) c s v (other_operator l m (next_of c) h e)

-- those that bind more are passed over
loosened : (l m : Precedence) (c : Cursor) (s : List Symbol) (v : List Value) → level_at (next_of c) ≡ Some m → nat_lt (tightness m) (tightness l) ≡ true → run 64 (looser_than l s) v (ahead c) ≡ run 64 (operators_from m s) v (ahead c)
loosened Products Products c s v h e = absurd cc
loosened Products Sums c s v h e = refl
loosened Products Relations c s v h e = passed Sums Relations c (looser_than Sums s) v h refl
loosened Products Conjunctions c s v h e = passed Sums Conjunctions c (looser_than Sums s) v h refl ∙ passed Relations Conjunctions c (looser_than Relations s) v h refl
loosened Products Disjunctions c s v h e = passed Sums Disjunctions c (looser_than Sums s) v h refl ∙ passed Relations Disjunctions c (looser_than Relations s) v h refl ∙ passed Conjunctions Disjunctions c (looser_than Conjunctions s) v h refl
loosened Sums Products c s v h e = absurd cc
loosened Sums Sums c s v h e = absurd cc
loosened Sums Relations c s v h e = refl
loosened Sums Conjunctions c s v h e = passed Relations Conjunctions c (looser_than Relations s) v h refl
loosened Sums Disjunctions c s v h e = passed Relations Disjunctions c (looser_than Relations s) v h refl ∙ passed Conjunctions Disjunctions c (looser_than Conjunctions s) v h refl
loosened Relations Products c s v h e = absurd cc
loosened Relations Sums c s v h e = absurd cc
loosened Relations Relations c s v h e = absurd cc
loosened Relations Conjunctions c s v h e = refl
loosened Relations Disjunctions c s v h e = passed Conjunctions Disjunctions c (looser_than Conjunctions s) v h refl
loosened Conjunctions Products c s v h e = absurd cc
loosened Conjunctions Sums c s v h e = absurd cc
loosened Conjunctions Relations c s v h e = absurd cc
loosened Conjunctions Conjunctions c s v h e = absurd cc
loosened Conjunctions Disjunctions c s v h e = refl
loosened Disjunctions Products c s v h e = absurd cc
loosened Disjunctions Sums c s v h e = absurd cc
loosened Disjunctions Relations c s v h e = absurd cc
loosened Disjunctions Conjunctions c s v h e = absurd cc
loosened Disjunctions Disjunctions c s v h e = absurd cc

pub first_operator : (m : Precedence) (c : Cursor) (s : List Symbol) (v : List Value) → level_at (next_of c) ≡ Some m → run 64 (all_precedences s) v (ahead c) ≡ run 64 (operators_from m s) v (ahead c)
first_operator Products c s v h = refl
first_operator Sums c s v h = passed Products Sums c (looser_than Products s) v h refl
first_operator Relations c s v h = passed Products Relations c (looser_than Products s) v h refl ∙ loosened Products Relations c s v h refl
first_operator Conjunctions c s v h = passed Products Conjunctions c (looser_than Products s) v h refl ∙ loosened Products Conjunctions c s v h refl
first_operator Disjunctions c s v h = passed Products Disjunctions c (looser_than Products s) v h refl ∙ loosened Products Disjunctions c s v h refl

-- ---- an operator comes next that binds less, or none

looser_is : (l m : Precedence) (o : Option Precedence) → looser l o ≡ Some m → (o ≡ Some m) × (nat_lt (tightness m) (tightness l) ≡ true)
looser_is l m None h = absurd cc
looser_is l m (Some n) h = by (nat_lt (tightness n) (tightness l)) refl h
  where
    by : (b : Bool) → nat_lt (tightness n) (tightness l) ≡ b → cond b (Some n) None ≡ Some m → (Some n ≡ Some m) × (nat_lt (tightness m) (tightness l) ≡ true)
    by true e g = (g, sym (ap (λ (x : Precedence). nat_lt (tightness x) (tightness l)) (ap (given m) g)) ∙ e)
    by false e g = absurd cc

pub looser_operator : (l m : Precedence) (c : Cursor) (s : List Symbol) (v : List Value) → looser l (level_at (next_of c)) ≡ Some m → run 64 (looser_than l s) v (ahead c) ≡ run 64 (operators_from m s) v (ahead c)
looser_operator l m c s v h = let is = looser_is l m (level_at (next_of c)) h in loosened l m c s v is.0 is.1

not_looser : (l m : Precedence) (t : Terminal) → looser l (level_at t) ≡ None → nat_lt (tightness m) (tightness l) ≡ true → more m t ≡ Over
not_looser l m t h e = by (operator_of t) h
  where
    by : (o : Option BinaryOperator) → looser l (option_map level_of o) ≡ None → elim o [ None ↦ Over | Some k ↦ operation m k ] ≡ Over
    by None g = refl
    by (Some k) g = other_level m k (ne_eqb (number_of (level_of k)) (number_of m) (λ q. true≢false (ap is_some (sym (ap (λ (b : Bool). cond b (Some (level_of k)) None) (ap (λ (n : ℕ). nat_lt (7 - n) (tightness l)) q ∙ e)) ∙ g))))

all_passed : (l : Precedence) (c : Cursor) (s : List Symbol) (v : List Value) → ((m : Precedence) → nat_lt (tightness m) (tightness l) ≡ true → more m (next_of c) ≡ Over) → run 64 (looser_than l s) v (ahead c) ≡ run 64 s v (ahead c)
all_passed Products c s v h = passed_over (MoreG Sums) c (looser_than Sums s) v (h Sums refl) ∙ passed_over (MoreG Relations) c (looser_than Relations s) v (h Relations refl) ∙ passed_over (MoreG Conjunctions) c (looser_than Conjunctions s) v (h Conjunctions refl) ∙ passed_over (MoreG Disjunctions) c s v (h Disjunctions refl)
all_passed Sums c s v h = passed_over (MoreG Relations) c (looser_than Relations s) v (h Relations refl) ∙ passed_over (MoreG Conjunctions) c (looser_than Conjunctions s) v (h Conjunctions refl) ∙ passed_over (MoreG Disjunctions) c s v (h Disjunctions refl)
all_passed Relations c s v h = passed_over (MoreG Conjunctions) c (looser_than Conjunctions s) v (h Conjunctions refl) ∙ passed_over (MoreG Disjunctions) c s v (h Disjunctions refl)
all_passed Conjunctions c s v h = passed_over (MoreG Disjunctions) c s v (h Disjunctions refl)
all_passed Disjunctions c s v h = refl

pub no_looser : (l : Precedence) (c : Cursor) (s : List Symbol) (v : List Value) → looser l (level_at (next_of c)) ≡ None → run 64 (looser_than l s) v (ahead c) ≡ run 64 s v (ahead c)
no_looser l c s v h = all_passed l c s v (λ m e. not_looser l m (next_of c) h e)

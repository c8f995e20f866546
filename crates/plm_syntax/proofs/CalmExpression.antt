-- Expressions leave the literals in force as they are.
use Rattle.std.proofs.Common.{ℕ, suc, List, refl}
use Rattle.plm_token.specs.declared.token.Mark.TheVariants as mark
use Rattle.plm_syntax.specs.Terminal.{Name, Numeral, Text, Sign, leaf, leaf_at}
use Rattle.plm_syntax.specs.Tree.{ExpressionT, NumeralE, TextE, ReferenceE, LocationE, ParenthesisedE, EmbeddedE, UnaryE, BinaryE, ReferenceT, ReferenceOf, ExpressionsT, no_expressions, expressions, SelectorT, no_member, member, member_at, LocationT, LocationOf, ConstantsOf, ValueT, NumeralV, NegativeV, TextV, LocationV, ValuesT, no_values, values}
use Rattle.plm_syntax.specs.Spelling.{unary_sign, binary_sign, form_sign, expression, reference, subscripts, listed, selector, location, value, value_list, listed_values, put_leaf}
use Rattle.plm_syntax.specs.Literals.{LiteralText}
use Rattle.plm_syntax.specs.InForce.{at}
use Rattle.plm_syntax.proofs.Words.{calm_form, calm_unary, calm_binary, Leads, nothing, one, join}

mutual
  pub leads_expression : {L : List LiteralText} {S : List ℕ} (x0 y0 : ℕ) (x1 : ExpressionT) → Leads (expression put_leaf x0 x1) (expression (at L) y0 x1) L S L S
  leads_expression d d' (NumeralE n) = one (leaf (Numeral n)) 0 refl
  leads_expression d d' (TextE s) = one (leaf (Text s)) 0 refl
  leads_expression d d' (ReferenceE x) = leads_reference 0 0 d d' x
  leads_expression d d' (LocationE l) = leads_location d d' l
  leads_expression d d' (ParenthesisedE p e) = join (one (leaf_at (Sign mark.LeftParenthesis) p) (suc d) refl) (join (leads_expression (suc d) (suc d') e) (one (leaf (Sign mark.RightParenthesis)) 0 refl))
  leads_expression d d' (EmbeddedE p x e) = join (one (leaf_at (Sign mark.LeftParenthesis) p) (suc d) refl) (join (leads_reference 0 0 (suc d) (suc d') x) (join (one (leaf (Sign mark.Assign)) 0 refl) (join (leads_expression (suc d) (suc d') e) (one (leaf (Sign mark.RightParenthesis)) 0 refl))))
  leads_expression d d' (UnaryE p o e) = join (one (leaf_at (unary_sign o) p) (suc d) (calm_unary o)) (leads_expression (suc d) (suc d') e)
  leads_expression d d' (BinaryE p o a b) = join (leads_expression d d' a) (join (one (leaf_at (binary_sign o) p) 0 (calm_binary o)) (leads_expression d d' b))

  pub leads_reference : {L : List LiteralText} {S : List ℕ} (x0 y0 : ℕ) (x1 y1 : ℕ) (x2 : ReferenceT) → Leads (reference put_leaf x0 x1 x2) (reference (at L) y0 y1 x2) L S L S
  leads_reference m m' d d' (ReferenceOf n es s) = join (one (leaf (Name n)) m refl) (join (leads_subscripts d d' es) (leads_selector d d' s))

  pub leads_subscripts : {L : List LiteralText} {S : List ℕ} (x0 y0 : ℕ) (x1 : ExpressionsT) → Leads (subscripts put_leaf x0 x1) (subscripts (at L) y0 x1) L S L S
  leads_subscripts d d' no_expressions = nothing
  leads_subscripts d d' (expressions es e) = join (one (leaf (Sign mark.LeftParenthesis)) (suc d) refl) (join (leads_listed (suc d) (suc d') es) (join (leads_expression (suc d) (suc d') e) (one (leaf (Sign mark.RightParenthesis)) 0 refl)))

  pub leads_listed : {L : List LiteralText} {S : List ℕ} (x0 y0 : ℕ) (x1 : ExpressionsT) → Leads (listed put_leaf x0 x1) (listed (at L) y0 x1) L S L S
  leads_listed d d' no_expressions = nothing
  leads_listed d d' (expressions es e) = join (leads_listed d d' es) (join (leads_expression d d' e) (one (leaf (Sign mark.Comma)) 0 refl))

  pub leads_selector : {L : List LiteralText} {S : List ℕ} (x0 y0 : ℕ) (x1 : SelectorT) → Leads (selector put_leaf x0 x1) (selector (at L) y0 x1) L S L S
  leads_selector d d' no_member = nothing
  leads_selector d d' (member n) = join (one (leaf (Sign mark.Period)) 0 refl) (one (leaf (Name n)) 0 refl)
  leads_selector d d' (member_at n e) = join (one (leaf (Sign mark.Period)) 0 refl) (join (one (leaf (Name n)) 0 refl) (join (one (leaf (Sign mark.LeftParenthesis)) (suc d) refl) (join (leads_expression (suc d) (suc d') e) (one (leaf (Sign mark.RightParenthesis)) 0 refl))))

  pub leads_location : {L : List LiteralText} {S : List ℕ} (x0 y0 : ℕ) (x1 : LocationT) → Leads (location put_leaf x0 x1) (location (at L) y0 x1) L S L S
  leads_location d d' (LocationOf p f x) = join (one (leaf_at (form_sign f) p) 0 (calm_form f)) (leads_reference 0 0 d d' x)
  leads_location d d' (ConstantsOf p f vs) = join (one (leaf_at (form_sign f) p) 0 (calm_form f)) (join (one (leaf (Sign mark.LeftParenthesis)) (suc d) refl) (join (leads_value_list (suc d) (suc d') vs) (one (leaf (Sign mark.RightParenthesis)) 0 refl)))

  pub leads_value : {L : List LiteralText} {S : List ℕ} (x0 y0 : ℕ) (x1 : ValueT) → Leads (value put_leaf x0 x1) (value (at L) y0 x1) L S L S
  leads_value d d' (NumeralV n) = one (leaf (Numeral n)) 0 refl
  leads_value d d' (NegativeV n) = join (one (leaf (Sign mark.Minus)) 0 refl) (one (leaf (Numeral n)) 0 refl)
  leads_value d d' (TextV s) = one (leaf (Text s)) 0 refl
  leads_value d d' (LocationV l) = leads_location d d' l

  pub leads_value_list : {L : List LiteralText} {S : List ℕ} (x0 y0 : ℕ) (x1 : ValuesT) → Leads (value_list put_leaf x0 x1) (value_list (at L) y0 x1) L S L S
  leads_value_list d d' no_values = nothing
  leads_value_list d d' (values vs v) = join (leads_listed_values d d' vs) (leads_value d d' v)

  pub leads_listed_values : {L : List LiteralText} {S : List ℕ} (x0 y0 : ℕ) (x1 : ValuesT) → Leads (listed_values put_leaf x0 x1) (listed_values (at L) y0 x1) L S L S
  leads_listed_values d d' no_values = nothing
  leads_listed_values d d' (values vs v) = join (leads_listed_values d d' vs) (join (leads_value d d' v) (one (leaf (Sign mark.Comma)) 0 refl))

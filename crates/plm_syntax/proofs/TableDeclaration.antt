-- What the rules of declarations say.
use Rattle.std.proofs.Common.{◌≡◌, ℕ, List, [], ◌∷◌, Bool, true, false, cond, Option, Some, None, refl, ap, ◌∙◌, subst}
use Rattle.plm_token.specs.declared.token.Keyword.TheVariants as key
use Rattle.plm_token.specs.declared.token.Mark.TheVariants as mark
use Rattle.plm_syntax.specs.declared.tree.Scalar.{Scalar}
use Rattle.plm_syntax.specs.declared.tree.Scalar.TheVariants as scalar
use Rattle.plm_syntax.specs.Terminal.{NameT, Terminal, Name, Numeral, Text, Key, Sign, Finish, Leaf, leaf, is_key}
use Rattle.plm_syntax.specs.Tree.{NamesT, no_names, names, VariableT, VariableOf, VariablesT, no_variables, variables, OneVariable, VariableList, DimensionT, no_dimension, dimension, implicit_dimension, MemberT, OneMember, MemberList, MembersT, no_members, members, TypeT, ScalarType, StructureType, AtT, no_at, at_number, at_location, no_initial, initial, constant_data, AttributesT, External, Attributes, ElementT, LiteralElement, VariableElement, ElementsT, no_elements, elements, no_linkage, public_linkage, external_linkage}
use Rattle.plm_syntax.specs.Spelling.{scalar_key, location, name_list, parenthesised_names, base, variable, variable_list, dimension_leaves, count, member_leaves, member_list, type_leaves, at_leaves, attributes, element, element_list, put_leaf}
use Rattle.plm_syntax.specs.WellFormed.{HasNames, HasVariables, WellSomeMembers, WellType, WellAt, WellAttributes, WellElement, WellSomeElements, WellElements}
use Rattle.plm_syntax.specs.Inner.Symbol.{Symbol, Rule, behind, otherwise, need, push, DimensionR, MembersR, TypeR, ParametersG, ParameterG, MoreParametersG, ReturnedTypeG, InterruptG, InterruptNumberG, LinkageG, ElementG, ElementLeadG, LiteralTextG, VariableG, MoreVariablesG, BasedG, BaseG, DimensionG, DimensionBodyG, TypeG, MemberOfG, MemberNameG, MoreMemberNamesG, CountG, CountNumberG, MemberTypeG, MoreMembersG, AttributesG, AtG, AtBodyG, InitialG, MoreElementsG, Want, Do, Refused, Over, Take}
use Rattle.plm_syntax.specs.Inner.Machine.{set_returned, scalar_of, parameters_rule, parameter, more_parameters, returned_type, interrupt_rule, interrupt_number, linkage_rule, one_variable, make_member, add_member, make_structure, set_initial, set_data, attributes_tail, declared_tail, element_rule, more_elements, variable_rule, more_variables, based_rule, base_rule, dimension_rule, dimension_body, type_rule, member_of, member_name, more_member_names, count_rule, count_number, member_type, more_members, at_rule, at_body, initial_rule, attributes_rule, element_lead, literal_text}
use Rattle.plm_syntax.proofs.Steps.{IsDecided}
use Rattle.plm_syntax.proofs.TableExpression.{values_of}
use Rattle.plm_syntax.proofs.GoalTrees.{at_body_leaves, WellAtBody, Means, Awaits, Says, on_sign, on_key, on_behind, on_otherwise, on_before, on_same, An, Token_then}

pub scalar_is : (t : Terminal) (s : Scalar) → scalar_of t ≡ Some s → scalar_key s ≡ t
scalar_is (Key key.Byte) scalar.Byte h = refl
scalar_is (Key key.Word) scalar.Word h = refl
scalar_is (Key key.Address) scalar.Address h = refl
scalar_is (Key key.Pointer) scalar.Pointer h = refl
scalar_is (Key key.Integer) scalar.Integer h = refl
scalar_is t s h = absurd cc

-- ---- names in parentheses

pub name_next : (ns : NamesT) → HasNames ns → (n : NameT) (r : List Leaf) → name_list put_leaf ns (leaf (Sign mark.Comma) ∷ leaf (Name n) ∷ r) ≡ name_list put_leaf (names ns n) r
name_next no_names h n r = absurd h
name_next (names ms m) h n r = refl

pub parameter_says : (d : ℕ) (K : List Leaf → Type 0) (t : Terminal) → Says (Means ParameterG d K) d K t (parameter t)
parameter_says d K (Numeral n) = tt
parameter_says d K (Text n) = tt
parameter_says d K (Key n) = tt
parameter_says d K (Sign n) = tt
parameter_says d K Finish = tt
parameter_says d K (Name n) = λ ls w. record { part = n; rest = ls; ok = tt; is = refl; goes = w }

pub member_name_says : (d : ℕ) (K : List Leaf → Type 0) (t : Terminal) → Says (Means MemberNameG d K) d K t (member_name t)
member_name_says d K (Numeral n) = tt
member_name_says d K (Text n) = tt
member_name_says d K (Key n) = tt
member_name_says d K (Sign n) = tt
member_name_says d K Finish = tt
member_name_says d K (Name n) = λ ls w. record { part = n; rest = ls; ok = tt; is = refl; goes = w }

-- names and the parenthesis after them, from one name on
abbrev pub AnList : (List Leaf → Type 0) → List Leaf → Type 0
AnList K ls = An NamesT HasNames (λ ns r. name_list put_leaf ns (leaf (Sign mark.RightParenthesis) ∷ r)) K ls

pub more_parameters_says : (d : ℕ) (K : List Leaf → Type 0) (t : Terminal) → Says (Means MoreParametersG d K) d K t (more_parameters t)
more_parameters_says d K t = on_sign (Means MoreParametersG d K) d K mark.Comma t _ _
    (λ ls w ns h. let g = w.goes (names ns w.part) tt in record { part = g.part; rest = g.rest; ok = g.ok; is = ap (λ (x : List Leaf). name_list put_leaf ns (leaf (Sign mark.Comma) ∷ x)) w.is ∙ name_next ns h w.part w.rest ∙ g.is; goes = g.goes })
    (λ i. on_sign (Means MoreParametersG d K) d K mark.RightParenthesis t _ Refused (λ ls w ns h. record { part = ns; rest = ls; ok = h; is = refl; goes = w }) (λ j. tt))

pub more_member_names_says : (d : ℕ) (K : List Leaf → Type 0) (t : Terminal) → Says (Means MoreMemberNamesG d K) d K t (more_member_names t)
more_member_names_says d K t = on_sign (Means MoreMemberNamesG d K) d K mark.Comma t _ _
    (λ ls w ns h. let g = w.goes (names ns w.part) tt in record { part = g.part; rest = g.rest; ok = g.ok; is = ap (λ (x : List Leaf). name_list put_leaf ns (leaf (Sign mark.Comma) ∷ x)) w.is ∙ name_next ns h w.part w.rest ∙ g.is; goes = g.goes })
    (λ i. on_sign (Means MoreMemberNamesG d K) d K mark.RightParenthesis t _ Refused (λ ls w ns h. record { part = ns; rest = ls; ok = h; is = refl; goes = w }) (λ j. tt))

pub names_in_parentheses : (ns : NamesT) → HasNames ns → (r : List Leaf) → leaf (Sign mark.LeftParenthesis) ∷ name_list put_leaf ns (leaf (Sign mark.RightParenthesis) ∷ r) ≡ parenthesised_names put_leaf ns r
names_in_parentheses no_names h r = absurd h
names_in_parentheses (names ns n) h r = refl

pub parameters_says : (d : ℕ) (K : List Leaf → Type 0) (t : Terminal) → Says (Means ParametersG d K) d K t (parameters_rule t)
parameters_says d K t = on_sign (Means ParametersG d K) d K mark.LeftParenthesis t _ Over
    (λ ls w. let g = w.goes (names no_names w.part) tt in record { part = g.part; rest = g.rest; ok = tt; is = ap (λ (x : List Leaf). leaf (Sign mark.LeftParenthesis) ∷ x) (w.is ∙ g.is) ∙ names_in_parentheses g.part g.ok g.rest; goes = g.goes })
    (λ h l ls i w. record { part = no_names; rest = l ∷ ls; ok = tt; is = refl; goes = w })

-- ---- a procedure's heading

-- a scalar type's word
pub on_scalar : (M : List Leaf → Type 0) (d : ℕ) (K : List Leaf → Type 0) (t : Terminal) (f : Scalar → List Symbol) (other : Rule) → ((s : Scalar) (ls : List Leaf) → Awaits (f s) d K ls → M (leaf (scalar_key s) ∷ ls)) → Says M d K t other → Says M d K t (elim (scalar_of t) [ None ↦ other | Some s ↦ Take false (f s) ])
on_scalar M d K t f other h g = by_scalar (scalar_of t) refl
  where
    by_scalar : (o : Option Scalar) → scalar_of t ≡ o → Says M d K t (elim o [ None ↦ other | Some s ↦ Take false (f s) ])
    by_scalar None e = g
    by_scalar (Some s) e = λ ls w. subst (λ (u : Terminal). M (leaf u ∷ ls)) (scalar_is t s e) (h s ls w)

pub returned_type_says : (d : ℕ) (K : List Leaf → Type 0) (t : Terminal) → Says (Means ReturnedTypeG d K) d K t (returned_type t)
returned_type_says d K t = on_scalar (Means ReturnedTypeG d K) d K t (λ s. Do (set_returned s) ∷ []) Over (λ s ls w. record { part = Some s; rest = ls; ok = tt; is = refl; goes = w }) (λ l ls i w. record { part = None; rest = l ∷ ls; ok = tt; is = refl; goes = w })

pub interrupt_says : (d : ℕ) (K : List Leaf → Type 0) (t : Terminal) → Says (Means InterruptG d K) d K t (interrupt_rule t)
interrupt_says d K t = on_key (Means InterruptG d K) d K key.Interrupt t _ Over (λ ls w. w) (λ h l ls i w. record { part = None; rest = l ∷ ls; ok = tt; is = refl; goes = w })

pub interrupt_number_says : (d : ℕ) (K : List Leaf → Type 0) (t : Terminal) → Says (Means InterruptNumberG d K) d K t (interrupt_number t)
interrupt_number_says d K (Name n) = tt
interrupt_number_says d K (Text n) = tt
interrupt_number_says d K (Key n) = tt
interrupt_number_says d K (Sign n) = tt
interrupt_number_says d K Finish = tt
interrupt_number_says d K (Numeral n) = λ ls w. record { part = Some n; rest = ls; ok = tt; is = refl; goes = w }

pub linkage_says : (d : ℕ) (K : List Leaf → Type 0) (t : Terminal) → Says (Means LinkageG d K) d K t (linkage_rule t)
linkage_says d K t = on_key (Means LinkageG d K) d K key.Public t _ _ (λ ls w. record { part = public_linkage; rest = ls; ok = tt; is = refl; goes = w })
    (λ h. on_key (Means LinkageG d K) d K key.External t _ Over (λ ls w. record { part = external_linkage; rest = ls; ok = tt; is = refl; goes = w }) (λ i l ls j w. record { part = no_linkage; rest = l ∷ ls; ok = tt; is = refl; goes = w }))

-- ---- AT, INITIAL, DATA

pub at_says : (d : ℕ) (K : List Leaf → Type 0) (t : Terminal) → Says (Means AtG d K) d K t (at_rule t)
at_says d K t = on_key (Means AtG d K) d K key.At t _ Over (λ ls w. body_of ls w.rest w.is w.goes.part w.goes.ok w.goes.rest w.goes.is w.goes.goes)
    (λ h l ls i w. record { part = no_at; rest = l ∷ ls; ok = tt; is = refl; goes = w })
  where
    body_of : (ls us : List Leaf) → ls ≡ leaf (Sign mark.LeftParenthesis) ∷ us → (a : AtT) → WellAtBody a → (vs : List Leaf) → us ≡ at_body_leaves d a vs → Token_then (Sign mark.RightParenthesis) K vs → An AtT WellAt (at_leaves put_leaf d) K (leaf (Key key.At) ∷ ls)
    body_of ls us e no_at o vs f g = absurd o
    body_of ls us e (at_number n) o vs f g = record { part = at_number n; rest = g.rest; ok = tt; is = ap (λ (x : List Leaf). leaf (Key key.At) ∷ x) (e ∙ ap (λ (x : List Leaf). leaf (Sign mark.LeftParenthesis) ∷ x) (f ∙ ap (λ (x : List Leaf). leaf (Numeral n) ∷ x) g.is)); goes = g.goes }
    body_of ls us e (at_location l) o vs f g = record { part = at_location l; rest = g.rest; ok = o; is = ap (λ (x : List Leaf). leaf (Key key.At) ∷ x) (e ∙ ap (λ (x : List Leaf). leaf (Sign mark.LeftParenthesis) ∷ x) (f ∙ ap (location put_leaf d l) g.is)); goes = g.goes }

pub at_body_says : (d : ℕ) (K : List Leaf → Type 0) (t : Terminal) → Says (Means AtBodyG d K) d K t (at_body t)
at_body_says d K (Name n) = tt
at_body_says d K (Text n) = tt
at_body_says d K (Key n) = tt
at_body_says d K Finish = tt
at_body_says d K (Numeral n) = λ ls w. record { part = at_number n; rest = ls; ok = tt; is = refl; goes = w }
at_body_says d K (Sign m) = on_sign (Means AtBodyG d K) d K mark.AtSign (Sign m) _ _ (λ p ls w. record { part = at_location w.part; rest = w.rest; ok = w.ok; is = w.is; goes = w.goes })
    (λ h. on_sign (Means AtBodyG d K) d K mark.Period (Sign m) _ Refused (λ p ls w. record { part = at_location w.part; rest = w.rest; ok = w.ok; is = w.is; goes = w.goes }) (λ i. tt))

pub initial_says : (d : ℕ) (K : List Leaf → Type 0) (t : Terminal) → Says (Means InitialG d K) d K t (initial_rule t)
initial_says d K t = on_key (Means InitialG d K) d K key.Initial t _ _
    (λ ls w. let g = values_of d K w.rest (Do set_initial ∷ []) w.goes in record { part = initial g.part; rest = g.rest; ok = g.ok; is = ap (λ (x : List Leaf). leaf (Key key.Initial) ∷ x) (w.is ∙ ap (λ (x : List Leaf). leaf (Sign mark.LeftParenthesis) ∷ x) g.is); goes = g.goes })
    (λ h. on_key (Means InitialG d K) d K key.Data t _ Over
    (λ ls w. let g = values_of d K w.rest (Do set_data ∷ []) w.goes in record { part = constant_data g.part; rest = g.rest; ok = g.ok; is = ap (λ (x : List Leaf). leaf (Key key.Data) ∷ x) (w.is ∙ ap (λ (x : List Leaf). leaf (Sign mark.LeftParenthesis) ∷ x) g.is); goes = g.goes })
    (λ i l ls j w. record { part = no_initial; rest = l ∷ ls; ok = tt; is = refl; goes = w }))

pub attributes_says : (d : ℕ) (K : List Leaf → Type 0) (t : Terminal) → Says (Means AttributesG d K) d K t (attributes_rule t)
attributes_says d K t = on_key (Means AttributesG d K) d K key.External t _ _ (λ ls w. record { part = External; rest = ls; ok = tt; is = refl; goes = w })
    (λ h. on_key (Means AttributesG d K) d K key.Public t _ _
    (λ ls w. record { part = Attributes true w.part w.goes.part; rest = w.goes.rest; ok = (w.ok, w.goes.ok); is = ap (λ (x : List Leaf). leaf (Key key.Public) ∷ x) (w.is ∙ ap (at_leaves put_leaf d w.part) w.goes.is); goes = w.goes.goes })
    (λ i. on_otherwise (Means AttributesG d K) d K (Means AtG d (Awaits (Want InitialG ∷ []) d K)) t (Want InitialG ∷ []) (at_rule t) (initial_rule t) (at_says d (Awaits (Want InitialG ∷ []) d K) t)
    (λ ls w. record { part = Attributes false w.part w.goes.part; rest = w.goes.rest; ok = (w.ok, w.goes.ok); is = w.is ∙ ap (at_leaves put_leaf d w.part) w.goes.is; goes = w.goes.goes })
    (on_same (Means AttributesG d K) d K (Means InitialG d K) t (initial_rule t) (λ ls w. record { part = Attributes false no_at w.part; rest = w.rest; ok = (tt, w.ok); is = w.is; goes = w.goes }) (initial_says d K t))))

-- ---- structures

pub count_says : (d : ℕ) (K : List Leaf → Type 0) (t : Terminal) → Says (Means CountG d K) d K t (count_rule t)
count_says d K t = on_sign (Means CountG d K) d K mark.LeftParenthesis t _ Over (λ ls w. w) (λ h l ls i w. record { part = None; rest = l ∷ ls; ok = tt; is = refl; goes = w })

pub count_number_says : (d : ℕ) (K : List Leaf → Type 0) (t : Terminal) → Says (Means CountNumberG d K) d K t (count_number t)
count_number_says d K (Name n) = tt
count_number_says d K (Text n) = tt
count_number_says d K (Key n) = tt
count_number_says d K (Sign n) = tt
count_number_says d K Finish = tt
count_number_says d K (Numeral n) = λ ls w. record { part = Some n; rest = w.rest; ok = tt; is = ap (λ (x : List Leaf). leaf (Sign mark.LeftParenthesis) ∷ leaf (Numeral n) ∷ x) w.is; goes = w.goes }

pub member_type_says : (d : ℕ) (K : List Leaf → Type 0) (t : Terminal) → Says (Means MemberTypeG d K) d K t (member_type t)
member_type_says d K t = on_scalar (Means MemberTypeG d K) d K t (λ s. Do (make_member s) ∷ []) Refused (λ s ls w. record { part = s; rest = ls; ok = tt; is = refl; goes = w }) tt

pub member_of_says : (d : ℕ) (K : List Leaf → Type 0) (t : Terminal) → Says (Means MemberOfG d K) d K t (member_of t)
member_of_says d K (Numeral n) = tt
member_of_says d K (Text n) = tt
member_of_says d K (Key n) = tt
member_of_says d K Finish = tt
member_of_says d K (Name n) = λ ls w. record { part = OneMember n w.part w.goes.part; rest = w.goes.rest; ok = tt; is = ap (λ (x : List Leaf). leaf (Name n) ∷ x) (w.is ∙ ap (count put_leaf w.part) w.goes.is); goes = w.goes.goes }
member_of_says d K (Sign m) = on_sign (Means MemberOfG d K) d K mark.LeftParenthesis (Sign m) _ Refused
    (λ ls w. let g = w.goes (names no_names w.part) tt in
    record { part = MemberList g.part g.goes.part g.goes.goes.part; rest = g.goes.goes.rest; ok = g.ok; is = ap (λ (x : List Leaf). leaf (Sign mark.LeftParenthesis) ∷ x) (w.is ∙ g.is ∙ ap (λ (x : List Leaf). name_list put_leaf g.part (leaf (Sign mark.RightParenthesis) ∷ x)) (g.goes.is ∙ ap (count put_leaf g.goes.part) g.goes.goes.is)); goes = g.goes.goes.goes })
    (λ h. tt)

pub member_next : (ms : MembersT) → WellType (StructureType ms) → (m : MemberT) (r : List Leaf) → member_list put_leaf ms (leaf (Sign mark.Comma) ∷ member_leaves put_leaf m r) ≡ member_list put_leaf (members ms m) r
member_next no_members h m r = absurd h
member_next (members ms l) h m r = refl

pub some_are_members : (ms : MembersT) → WellType (StructureType ms) → WellSomeMembers ms
some_are_members no_members w = tt
some_are_members (members ms m) w = w

pub more_members_says : (d : ℕ) (K : List Leaf → Type 0) (t : Terminal) → Says (Means MoreMembersG d K) d K t (more_members t)
more_members_says d K t = on_sign (Means MoreMembersG d K) d K mark.Comma t _ _
    (λ ls w ms h. let g = w.goes (members ms w.part) (some_are_members ms h, w.ok) in record { part = g.part; rest = g.rest; ok = g.ok; is = ap (λ (x : List Leaf). member_list put_leaf ms (leaf (Sign mark.Comma) ∷ x)) w.is ∙ member_next ms h w.part w.rest ∙ g.is; goes = g.goes })
    (λ i. on_sign (Means MoreMembersG d K) d K mark.RightParenthesis t _ Refused (λ ls w ms h. record { part = ms; rest = ls; ok = h; is = refl; goes = w }) (λ j. tt))

pub type_says : (d : ℕ) (K : List Leaf → Type 0) (t : Terminal) → Says (Means TypeG d K) d K t (type_rule t)
type_says d K t = on_scalar (Means TypeG d K) d K t (λ s. push (TypeR (ScalarType s)) ∷ []) _ (λ s ls w. record { part = ScalarType s; rest = ls; ok = tt; is = refl; goes = w })
    (on_key (Means TypeG d K) d K key.Structure t _ Refused
    (λ ls w. let g = w.goes.goes (members no_members w.goes.part) (tt, w.goes.ok) in
    record { part = StructureType g.part; rest = g.rest; ok = g.ok; is = ap (λ (x : List Leaf). leaf (Key key.Structure) ∷ x) (w.is ∙ ap (λ (x : List Leaf). leaf (Sign mark.LeftParenthesis) ∷ x) (w.goes.is ∙ g.is)); goes = g.goes })
    (λ h. tt))

-- ---- elements

pub dimension_says : (d : ℕ) (K : List Leaf → Type 0) (t : Terminal) → Says (Means DimensionG d K) d K t (dimension_rule t)
dimension_says d K t = on_sign (Means DimensionG d K) d K mark.LeftParenthesis t _ Over (λ ls w. w) (λ h l ls i w. record { part = no_dimension; rest = l ∷ ls; ok = tt; is = refl; goes = w })

pub dimension_body_says : (d : ℕ) (K : List Leaf → Type 0) (t : Terminal) → Says (Means DimensionBodyG d K) d K t (dimension_body t)
dimension_body_says d K (Name n) = tt
dimension_body_says d K (Text n) = tt
dimension_body_says d K (Key n) = tt
dimension_body_says d K Finish = tt
dimension_body_says d K (Numeral n) = λ ls w. record { part = dimension n; rest = w.rest; ok = tt; is = ap (λ (x : List Leaf). leaf (Sign mark.LeftParenthesis) ∷ leaf (Numeral n) ∷ x) w.is; goes = w.goes }
dimension_body_says d K (Sign m) = on_sign (Means DimensionBodyG d K) d K mark.Star (Sign m) _ Refused (λ ls w. record { part = implicit_dimension; rest = w.rest; ok = tt; is = ap (λ (x : List Leaf). leaf (Sign mark.LeftParenthesis) ∷ leaf (Sign mark.Star) ∷ x) w.is; goes = w.goes }) (λ h. tt)

pub based_says : (d : ℕ) (K : List Leaf → Type 0) (t : Terminal) → Says (Means BasedG d K) d K t (based_rule t)
based_says d K t = on_key (Means BasedG d K) d K key.Based t _ Over (λ ls w. w) (λ h l ls i w. record { part = None; rest = l ∷ ls; ok = tt; is = refl; goes = w })

pub base_says : (d : ℕ) (K : List Leaf → Type 0) (t : Terminal) → Says (Means BaseG d K) d K t (base_rule t)
base_says d K (Numeral n) = tt
base_says d K (Text n) = tt
base_says d K (Key n) = tt
base_says d K (Sign n) = tt
base_says d K Finish = tt
base_says d K (Name n) = λ ls w. record { part = Some n; rest = ls; ok = tt; is = refl; goes = w }

pub variable_says : (d : ℕ) (K : List Leaf → Type 0) (t : Terminal) → Says (Means VariableG d K) d K t (variable_rule t)
variable_says d K (Numeral n) = tt
variable_says d K (Text n) = tt
variable_says d K (Key n) = tt
variable_says d K (Sign n) = tt
variable_says d K Finish = tt
variable_says d K (Name n) = λ ls w. record { part = VariableOf n w.part; rest = w.rest; ok = tt; is = ap (λ (x : List Leaf). leaf (Name n) ∷ x) w.is; goes = w.goes }

pub variable_next : (xs : VariablesT) → HasVariables xs → (x : VariableT) (r : List Leaf) → variable_list put_leaf xs (leaf (Sign mark.Comma) ∷ variable put_leaf x r) ≡ variable_list put_leaf (variables xs x) r
variable_next no_variables h x r = absurd h
variable_next (variables xs y) h x r = refl

pub more_variables_says : (d : ℕ) (K : List Leaf → Type 0) (t : Terminal) → Says (Means MoreVariablesG d K) d K t (more_variables t)
more_variables_says d K t = on_sign (Means MoreVariablesG d K) d K mark.Comma t _ _
    (λ ls w xs h. let g = w.goes (variables xs w.part) tt in record { part = g.part; rest = g.rest; ok = g.ok; is = ap (λ (x : List Leaf). variable_list put_leaf xs (leaf (Sign mark.Comma) ∷ x)) w.is ∙ variable_next xs h w.part w.rest ∙ g.is; goes = g.goes })
    (λ i. on_sign (Means MoreVariablesG d K) d K mark.RightParenthesis t _ Refused (λ ls w xs h. record { part = xs; rest = ls; ok = h; is = refl; goes = w }) (λ j. tt))

-- what stands after an element's names
pub record Tail : Type 0 where
  pub bounds : DimensionT
  pub form : TypeT
  pub extras : AttributesT

abbrev pub tail_leaves : ℕ → Tail → List Leaf → List Leaf
tail_leaves d t r = dimension_leaves put_leaf t.bounds (type_leaves put_leaf t.form (attributes put_leaf d t.extras r))

abbrev pub WellTail : Tail → Type 0
WellTail t = WellType t.form × WellAttributes t.extras

pub attributed : (d : ℕ) (K : List Leaf → Type 0) (c : DimensionT) (ls : List Leaf) → Means TypeG d (Awaits attributes_tail d K) ls → An Tail WellTail (tail_leaves d) K (dimension_leaves put_leaf c ls)
attributed d K c ls w = record { part = record { bounds = c; form = w.part; extras = w.goes.part }; rest = w.goes.rest; ok = (w.ok, w.goes.ok); is = ap (dimension_leaves put_leaf c) (w.is ∙ ap (type_leaves put_leaf w.part) w.goes.is); goes = w.goes.goes }

pub tail_of : (d : ℕ) (K : List Leaf → Type 0) (ls : List Leaf) → Awaits declared_tail d K ls → An Tail WellTail (tail_leaves d) K ls
tail_of d K ls w = let g = attributed d K w.part w.rest w.goes in record { part = g.part; rest = g.rest; ok = g.ok; is = w.is ∙ g.is; goes = g.goes }

pub element_of : (d : ℕ) (K : List Leaf → Type 0) (n : NameT) (b : Option NameT) (ls : List Leaf) → An Tail WellTail (tail_leaves d) K ls → An ElementT WellElement (element put_leaf d) K (leaf (Name n) ∷ base put_leaf b ls)
element_of d K n b ls w = record { part = VariableElement (OneVariable (VariableOf n b)) w.part.bounds w.part.form w.part.extras; rest = w.rest; ok = (tt, w.ok.0, w.ok.1); is = ap (λ (x : List Leaf). leaf (Name n) ∷ base put_leaf b x) w.is; goes = w.goes }

pub type_decided : (t : Terminal) → IsDecided (type_rule t)
type_decided t = by_scalar (scalar_of t)
  where
    by_test : (b : Bool) → IsDecided (cond b (Take false (need mark.LeftParenthesis ∷ push (MembersR no_members) ∷ Want MemberOfG ∷ Do add_member ∷ Want MoreMembersG ∷ Do make_structure ∷ [])) Refused)
    by_test true = tt
    by_test false = tt

    by_scalar : (o : Option Scalar) → IsDecided (elim o [ None ↦ cond (is_key key.Structure t) (Take false (need mark.LeftParenthesis ∷ push (MembersR no_members) ∷ Want MemberOfG ∷ Do add_member ∷ Want MoreMembersG ∷ Do make_structure ∷ [])) Refused | Some s ↦ Take false (push (TypeR (ScalarType s)) ∷ []) ])
    by_scalar None = by_test (is_key key.Structure t)
    by_scalar (Some s) = tt

pub element_lead_says : (d : ℕ) (K : List Leaf → Type 0) (t : Terminal) → Says (Means ElementLeadG d K) d K t (element_lead t)
element_lead_says d K t = on_key (Means ElementLeadG d K) d K key.Literally t _ _ (λ ls w n. w n)
    (λ h. on_otherwise (Means ElementLeadG d K) d K (Means BasedG d (Awaits (Do one_variable ∷ declared_tail) d K)) t (Do one_variable ∷ declared_tail) (based_rule t) _ (based_says d (Awaits (Do one_variable ∷ declared_tail) d K) t)
    (λ ls w n. let g = element_of d K n w.part w.rest (tail_of d K w.rest w.goes) in record { part = g.part; rest = g.rest; ok = g.ok; is = ap (λ (x : List Leaf). leaf (Name n) ∷ x) w.is ∙ g.is; goes = g.goes })
    (on_before (Means ElementLeadG d K) d K t (Do one_variable ∷ push (DimensionR no_dimension) ∷ []) (otherwise (behind (dimension_rule t) (Want TypeG ∷ attributes_tail)) (behind (type_rule t) attributes_tail)) (λ q ls w. w)
    (on_otherwise (Means ElementLeadG d K) d K (Means DimensionG d (Awaits (Want TypeG ∷ attributes_tail) d K)) t (Want TypeG ∷ attributes_tail) (dimension_rule t) _ (dimension_says d (Awaits (Want TypeG ∷ attributes_tail) d K) t)
    (λ ls w n. let g = element_of d K n None (dimension_leaves put_leaf w.part w.rest) (attributed d K w.part w.rest w.goes) in record { part = g.part; rest = g.rest; ok = g.ok; is = ap (λ (x : List Leaf). leaf (Name n) ∷ x) w.is ∙ g.is; goes = g.goes })
    (on_behind (Means ElementLeadG d K) d K (Means TypeG d (Awaits attributes_tail d K)) t attributes_tail (type_rule t) (type_says d (Awaits attributes_tail d K) t) (type_decided t)
    (λ ls w n. element_of d K n None ls (attributed d K no_dimension ls w))))))

pub literal_text_says : (d : ℕ) (K : List Leaf → Type 0) (t : Terminal) → Says (Means LiteralTextG d K) d K t (literal_text t)
literal_text_says d K (Name n) = tt
literal_text_says d K (Numeral n) = tt
literal_text_says d K (Key n) = tt
literal_text_says d K (Sign n) = tt
literal_text_says d K Finish = tt
literal_text_says d K (Text s) = λ ls w n. record { part = LiteralElement n s; rest = ls; ok = tt; is = refl; goes = w }

pub element_says : (d : ℕ) (K : List Leaf → Type 0) (t : Terminal) → Says (Means ElementG d K) d K t (element_rule t)
element_says d K (Numeral n) = tt
element_says d K (Text n) = tt
element_says d K (Key n) = tt
element_says d K Finish = tt
element_says d K (Name n) = λ ls w. w n
element_says d K (Sign m) = on_sign (Means ElementG d K) d K mark.LeftParenthesis (Sign m) _ Refused
    (λ ls w.
    let g = w.goes (variables no_variables w.part) tt in
    let e = tail_of d K g.rest g.goes in
    record { part = VariableElement (VariableList g.part) e.part.bounds e.part.form e.part.extras; rest = e.rest; ok = (g.ok, e.ok.0, e.ok.1); is = ap (λ (x : List Leaf). leaf (Sign mark.LeftParenthesis) ∷ x) (w.is ∙ g.is ∙ ap (λ (x : List Leaf). variable_list put_leaf g.part (leaf (Sign mark.RightParenthesis) ∷ x)) e.is); goes = e.goes })
    (λ h. tt)

pub element_next : (d : ℕ) (es : ElementsT) → WellElements es → (e : ElementT) (r : List Leaf) → element_list put_leaf d es (leaf (Sign mark.Comma) ∷ element put_leaf d e r) ≡ element_list put_leaf d (elements es e) r
element_next d no_elements h e r = absurd h
element_next d (elements es f) h e r = refl

pub some_are_elements : (es : ElementsT) → WellElements es → WellSomeElements es
some_are_elements no_elements w = tt
some_are_elements (elements es e) w = w

pub more_elements_says : (d : ℕ) (K : List Leaf → Type 0) (t : Terminal) → Says (Means MoreElementsG d K) d K t (more_elements t)
more_elements_says d K t = on_sign (Means MoreElementsG d K) d K mark.Comma t _ _
    (λ ls w es h. let g = w.goes (elements es w.part) (some_are_elements es h, w.ok) in record { part = g.part; rest = g.rest; ok = g.ok; is = ap (λ (x : List Leaf). element_list put_leaf d es (leaf (Sign mark.Comma) ∷ x)) w.is ∙ element_next d es h w.part w.rest ∙ g.is; goes = g.goes })
    (λ i. on_sign (Means MoreElementsG d K) d K mark.Semicolon t _ Refused (λ ls w es h. record { part = es; rest = ls; ok = h; is = refl; goes = w }) (λ j. tt))

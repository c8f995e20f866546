-- What a run does next where the parser has tested the next token, in declarations.
use Rattle.std.proofs.Common.{◌≡◌, ℕ, ◌+◌, List, [], ◌∷◌, ◌++◌, Bool, true, false, cond, Option, Some, None, refl, sym, ap, ◌∙◌, append_assoc}
use Rattle.plm_token.specs.declared.token.Keyword.TheVariants as key
use Rattle.plm_token.specs.declared.token.Mark.TheVariants as mark
use Rattle.plm_syntax.specs.declared.tree.Position.{Position}
use Rattle.plm_syntax.specs.declared.tree.Scalar.{Scalar}
use Rattle.plm_syntax.specs.declared.tree.Scalar.TheVariants as scalar
use Rattle.plm_syntax.specs.Terminal.{NumeralT, Terminal, Name, Numeral, Text, Key, Sign, Finish, Leaf, leaf, leaf_at, is_key}
use Rattle.plm_syntax.specs.Inner.Terminal.{is_sign}
use Rattle.plm_syntax.specs.Tree.{LocationForm, Pointer, Offset, no_names, VariableT, no_variables, OneVariable, no_dimension, implicit_dimension, no_members, ScalarType}
use Rattle.plm_syntax.specs.Spelling.{form_sign, scalar_key}
use Rattle.plm_syntax.specs.Inner.Symbol.{Value, Action, Goal, Symbol, depth, Rule, behind, otherwise, before, need, push, NamesR, VariableR, VariablesR, DimensionR, CountR, MembersR, MemberR, TypeR, DeclaredR, LocatedG, ParameterG, MoreParametersG, ReturnedTypeG, ElementG, ElementLeadG, LiteralTextG, VariableG, MoreVariablesG, BasedG, BaseG, DimensionG, TypeG, MemberOfG, MemberNameG, MoreMemberNamesG, CountG, MemberTypeG, MoreMembersG, AttributesG, AtG, AtBodyG, InitialG, MoreElementsG, Want, Do, Refused, Over, Take, Keep}
use Rattle.plm_syntax.specs.Inner.Machine.{a_value_list, set_returned, scalar_of, parameter, more_parameters, add_element, add_variable, one_variable, variable_group, set_dimension, make_member, add_member, make_structure, set_external, set_public, set_at_location, set_initial, set_data, attributes_tail, declared_tail, element_rule, more_elements, variable_rule, more_variables, based_rule, base_rule, dimension_rule, dimension_body, type_rule, member_of, member_name, more_member_names, count_number, member_type, more_members, at_rule, at_body, initial_rule, literal_text, rule, Move, moved, feed, trace, run, Stay, Then}
use Rattle.plm_syntax.specs.declared.cursor.Cursor.{Cursor}
use Rattle.plm_syntax.specs.declared.tree.MemberNames.{MemberNames}
use Rattle.plm_syntax.specs.declared.tree.MemberNames.TheVariants as member_names
use Rattle.plm_syntax.specs.View.{member_with}
use Rattle.plm_syntax.specs.Inner.Parsed.{ahead, next_of, first_of, stream, place_at, is_name, is_number, is_text}
use Rattle.plm_syntax.specs.Faults.{terminal_of}
use Rattle.plm_token.specs.declared.token.Token.{Token}
use Rattle.plm_syntax.specs.Inner.Parts.{member_names_read}
use Rattle.plm_syntax.proofs.Steps.{go, trace_step, same_trace, ruled, feed_want, over, IsDecided, ruled_behind, ruled_otherwise}
use Rattle.plm_syntax.proofs.DriveExpression.{Some_leaf, some_leaf, pushed}
use Rattle.plm_syntax.proofs.DriveDeclaration.{acted}
use Rattle.plm_syntax.proofs.Along.{at_front, as_run, passed_over}

-- at the next token, where others follow it
pub at_token : (c : Cursor) (s s' : List Symbol) (v v' : List Value) → trace s v (leaf Finish ∷ []) ≡ trace s' v' (leaf Finish ∷ [])
    → ((l : Leaf) (ls : List Leaf) → l.terminal ≡ next_of c → Some_leaf ls → trace s v (l ∷ ls) ≡ trace s' v' (l ∷ ls)) → run 64 s v (ahead c) ≡ run 64 s' v' (ahead c)
at_token c s s' v v' e h = by_tokens c.number c.tokens.now h
  where
    some : (n : ℕ) (ts : List Token) → Some_leaf (stream n ts)
    some n [] = some_leaf
    some n (t ∷ ts) = some_leaf

    by_tokens : (n : ℕ) (ts : List Token) → ((l : Leaf) (ls : List Leaf) → l.terminal ≡ first_of n ts → Some_leaf ls → trace s v (l ∷ ls) ≡ trace s' v' (l ∷ ls)) → run 64 s v (stream n ts) ≡ run 64 s' v' (stream n ts)
    by_tokens n [] g = as_run s s' v v' (leaf Finish ∷ []) e
    by_tokens n (t ∷ ts) g = as_run s s' v v' (stream n (t ∷ ts)) (g (leaf_at (terminal_of t.kind t.text.now (place_at n t)) (place_at n t)) (stream (n + 1) ts) refl (some (n + 1) ts))

pub doing : (a : Action) (s : List Symbol) (v w : List Value) (t : Terminal) (p : Option Position) → a v ≡ Some w → feed (Do a ∷ s) v t p ≡ feed s w t p
doing a s v w t p e = ap (λ (o : Option (List Value)). elim o [ None ↦ Stay | Some x ↦ feed s x t p ]) e

-- a goal that puts symbols before those of another rule
pub prefixed : (g : Goal) (pre s s' : List Symbol) (r : Rule) (v v' : List Value) (l : Leaf) (ls : List Leaf) → rule g l.terminal ≡ before pre r → IsDecided r
    → ruled r s v' l.terminal l.place ≡ feed s' v' l.terminal l.place
    → ((x : List Symbol) → trace (pre ++ x) v ls ≡ trace x v' ls) → ((x : List Symbol) → depth (pre ++ x) ≡ depth x)
    → trace (Want g ∷ s) v (l ∷ ls) ≡ trace s' v' (l ∷ ls)
prefixed g pre s s' r v v' l ls e decided h acts deep =
    trace_step (Want g ∷ s) v l ls
    ∙ ap (λ (m : Move). go m ls) (feed_want g s v l.terminal l.place ∙ ap (λ (x : Rule). ruled x s v l.terminal l.place) e)
    ∙ by_rule r decided l.place
    ∙ ap (λ (m : Move). go m ls) h
    ∙ sym (trace_step s' v' l ls)
  where
    moves : (b : Bool) (q : List Symbol) → go (moved b ((pre ++ q) ++ s) v) ls ≡ go (moved b (q ++ s) v') ls
    moves true q = ap (λ (x : List Symbol). go (moved true x v) ls) (append_assoc pre q s) ∙ ap (λ (n : ℕ). Then n (trace (pre ++ (q ++ s)) v ls)) (deep (q ++ s)) ∙ ap (Then (depth (q ++ s))) (acts (q ++ s))
    moves false q = ap (λ (x : List Symbol). go (moved false x v) ls) (append_assoc pre q s) ∙ ap (Then 0) (acts (q ++ s))

    by_rule : (x : Rule) → IsDecided x → (p : Option Position) → go (ruled (before pre x) s v l.terminal p) ls ≡ go (ruled x s v' l.terminal p) ls
    by_rule Refused d p = refl
    by_rule Over d p = absurd d
    by_rule (Take b q) d p = moves b q
    by_rule (Keep b f) d None = refl
    by_rule (Keep b f) d (Some p) = moves b (f p)

-- ---- tokens with which a goal cannot begin

pub more_elements_refused : (t : Terminal) → is_sign mark.Comma t ≡ false → is_sign mark.Semicolon t ≡ false → more_elements t ≡ Refused
more_elements_refused t g h = ap (λ (x : Bool). cond x (Take false (Want ElementG ∷ Want MoreElementsG ∷ [])) (cond (is_sign mark.Semicolon t) (Take false []) Refused)) g ∙ ap (λ (x : Bool). cond x (Take false []) Refused) h

pub element_refused : (t : Terminal) → is_sign mark.LeftParenthesis t ≡ false → is_name t ≡ false → element_rule t ≡ Refused
element_refused (Name n) g h = absurd cc
element_refused (Numeral n) g h = refl
element_refused (Text n) g h = refl
element_refused (Key n) g h = refl
element_refused (Sign n) g h = ap (λ (x : Bool). cond x (Take false (push (VariablesR no_variables) ∷ Want VariableG ∷ Do add_variable ∷ Want MoreVariablesG ∷ Do variable_group ∷ (declared_tail ++ (Do add_element ∷ [])))) Refused) g
element_refused Finish g h = refl

pub literal_refused : (t : Terminal) → is_text t ≡ false → literal_text t ≡ Refused
literal_refused (Name n) h = refl
literal_refused (Numeral n) h = refl
literal_refused (Text n) h = absurd cc
literal_refused (Key n) h = refl
literal_refused (Sign n) h = refl
literal_refused Finish h = refl

pub base_refused : (t : Terminal) → is_name t ≡ false → base_rule t ≡ Refused
base_refused (Name n) h = absurd cc
base_refused (Numeral n) h = refl
base_refused (Text n) h = refl
base_refused (Key n) h = refl
base_refused (Sign n) h = refl
base_refused Finish h = refl

pub variable_refused : (t : Terminal) → is_name t ≡ false → variable_rule t ≡ Refused
variable_refused (Name n) h = absurd cc
variable_refused (Numeral n) h = refl
variable_refused (Text n) h = refl
variable_refused (Key n) h = refl
variable_refused (Sign n) h = refl
variable_refused Finish h = refl

pub more_variables_refused : (t : Terminal) → is_sign mark.Comma t ≡ false → is_sign mark.RightParenthesis t ≡ false → more_variables t ≡ Refused
more_variables_refused t g h = ap (λ (x : Bool). cond x (Take false (Want VariableG ∷ Do add_variable ∷ Want MoreVariablesG ∷ [])) (cond (is_sign mark.RightParenthesis t) (Take false []) Refused)) g ∙ ap (λ (x : Bool). cond x (Take false []) Refused) h

pub more_members_refused : (t : Terminal) → is_sign mark.Comma t ≡ false → is_sign mark.RightParenthesis t ≡ false → more_members t ≡ Refused
more_members_refused t g h = ap (λ (x : Bool). cond x (Take false (Want MemberOfG ∷ Do add_member ∷ Want MoreMembersG ∷ [])) (cond (is_sign mark.RightParenthesis t) (Take false []) Refused)) g ∙ ap (λ (x : Bool). cond x (Take false []) Refused) h

pub more_member_names_refused : (t : Terminal) → is_sign mark.Comma t ≡ false → is_sign mark.RightParenthesis t ≡ false → more_member_names t ≡ Refused
more_member_names_refused t g h = ap (λ (x : Bool). cond x (Take false (Want MemberNameG ∷ Want MoreMemberNamesG ∷ [])) (cond (is_sign mark.RightParenthesis t) (Take false []) Refused)) g ∙ ap (λ (x : Bool). cond x (Take false []) Refused) h

pub more_parameters_refused : (t : Terminal) → is_sign mark.Comma t ≡ false → is_sign mark.RightParenthesis t ≡ false → more_parameters t ≡ Refused
more_parameters_refused t g h = ap (λ (x : Bool). cond x (Take false (Want ParameterG ∷ Want MoreParametersG ∷ [])) (cond (is_sign mark.RightParenthesis t) (Take false []) Refused)) g ∙ ap (λ (x : Bool). cond x (Take false []) Refused) h

pub dimension_refused : (t : Terminal) → is_sign mark.Star t ≡ false → is_number t ≡ false → dimension_body t ≡ Refused
dimension_refused (Name n) g h = refl
dimension_refused (Numeral n) g h = absurd cc
dimension_refused (Text n) g h = refl
dimension_refused (Key n) g h = refl
dimension_refused (Sign n) g h = ap (λ (x : Bool). cond x (Take false (need mark.RightParenthesis ∷ Do (set_dimension implicit_dimension) ∷ [])) Refused) g
dimension_refused Finish g h = refl

pub type_refused : (t : Terminal) → scalar_of t ≡ None → is_key key.Structure t ≡ false → type_rule t ≡ Refused
type_refused t g h =
    ap (λ (o : Option Scalar). elim o [ None ↦ cond (is_key key.Structure t) (Take false (need mark.LeftParenthesis ∷ push (MembersR no_members) ∷ Want MemberOfG ∷ Do add_member ∷ Want MoreMembersG ∷ Do make_structure ∷ [])) Refused | Some s ↦ Take false (push (TypeR (ScalarType s)) ∷ []) ]) g
    ∙ ap (λ (x : Bool). cond x (Take false (need mark.LeftParenthesis ∷ push (MembersR no_members) ∷ Want MemberOfG ∷ Do add_member ∷ Want MoreMembersG ∷ Do make_structure ∷ [])) Refused) h

pub member_of_refused : (t : Terminal) → is_sign mark.LeftParenthesis t ≡ false → is_name t ≡ false → member_of t ≡ Refused
member_of_refused (Name n) g h = absurd cc
member_of_refused (Numeral n) g h = refl
member_of_refused (Text n) g h = refl
member_of_refused (Key n) g h = refl
member_of_refused (Sign n) g h = ap (λ (x : Bool). cond x (Take false (push (NamesR no_names) ∷ Want MemberNameG ∷ Want MoreMemberNamesG ∷ push (CountR None) ∷ Want CountG ∷ Want MemberTypeG ∷ [])) Refused) g
member_of_refused Finish g h = refl

pub member_name_refused : (t : Terminal) → is_name t ≡ false → member_name t ≡ Refused
member_name_refused (Name n) h = absurd cc
member_name_refused (Numeral n) h = refl
member_name_refused (Text n) h = refl
member_name_refused (Key n) h = refl
member_name_refused (Sign n) h = refl
member_name_refused Finish h = refl

pub parameter_refused : (t : Terminal) → is_name t ≡ false → parameter t ≡ Refused
parameter_refused (Name n) h = absurd cc
parameter_refused (Numeral n) h = refl
parameter_refused (Text n) h = refl
parameter_refused (Key n) h = refl
parameter_refused (Sign n) h = refl
parameter_refused Finish h = refl

pub count_refused : (t : Terminal) → is_number t ≡ false → count_number t ≡ Refused
count_refused (Name n) h = refl
count_refused (Numeral n) h = absurd cc
count_refused (Text n) h = refl
count_refused (Key n) h = refl
count_refused (Sign n) h = refl
count_refused Finish h = refl

pub member_type_refused : (t : Terminal) → scalar_of t ≡ None → member_type t ≡ Refused
member_type_refused t g = ap (λ (o : Option Scalar). elim o [ None ↦ Refused | Some s ↦ Take false (Do (make_member s) ∷ []) ]) g

pub at_body_refused : (t : Terminal) → is_number t ≡ false → is_sign mark.AtSign t ≡ false → is_sign mark.Period t ≡ false → at_body t ≡ Refused
at_body_refused (Name n) g e f = refl
at_body_refused (Numeral n) g e f = absurd cc
at_body_refused (Text n) g e f = refl
at_body_refused (Key n) g e f = refl
at_body_refused Finish g e f = refl
at_body_refused (Sign m) g e f = ap (λ (x : Bool). cond x (Keep false (λ p. Want (LocatedG p Pointer) ∷ Do set_at_location ∷ [])) (cond (is_sign mark.Period (Sign m)) (Keep false (λ p. Want (LocatedG p Offset) ∷ Do set_at_location ∷ [])) Refused)) e
    ∙ ap (λ (x : Bool). cond x (Keep false (λ p. Want (LocatedG p Offset) ∷ Do set_at_location ∷ [])) Refused) f

-- ---- scalar types

pub no_scalar : (t : Terminal) → is_key key.Byte t ≡ false → is_key key.Word t ≡ false → is_key key.Address t ≡ false → is_key key.Pointer t ≡ false → is_key key.Integer t ≡ false → scalar_of t ≡ None
no_scalar (Name n) a b c d e = refl
no_scalar (Numeral n) a b c d e = refl
no_scalar (Text n) a b c d e = refl
no_scalar (Sign n) a b c d e = refl
no_scalar Finish a b c d e = refl
no_scalar (Key key.Byte) a b c d e = absurd cc
no_scalar (Key key.Word) a b c d e = absurd cc
no_scalar (Key key.Address) a b c d e = absurd cc
no_scalar (Key key.Pointer) a b c d e = absurd cc
no_scalar (Key key.Integer) a b c d e = absurd cc
no_scalar (Key k) a b c d e = refl

pub type_taken : (k : Scalar) (p : Position) (s : List Symbol) (v : List Value) (ls : List Leaf) → run 64 (Want TypeG ∷ s) v (leaf_at (scalar_key k) p ∷ ls) ≡ run 64 (push (TypeR (ScalarType k)) ∷ s) v ls
type_taken scalar.Byte p s v ls = refl
type_taken scalar.Word p s v ls = refl
type_taken scalar.Address p s v ls = refl
type_taken scalar.Pointer p s v ls = refl
type_taken scalar.Integer p s v ls = refl

pub member_type_taken : (k : Scalar) (p : Position) (s : List Symbol) (v : List Value) (ls : List Leaf) → run 64 (Want MemberTypeG ∷ s) v (leaf_at (scalar_key k) p ∷ ls) ≡ run 64 (Do (make_member k) ∷ s) v ls
member_type_taken scalar.Byte p s v ls = refl
member_type_taken scalar.Word p s v ls = refl
member_type_taken scalar.Address p s v ls = refl
member_type_taken scalar.Pointer p s v ls = refl
member_type_taken scalar.Integer p s v ls = refl

pub returned_taken : (k : Scalar) (p : Position) (s : List Symbol) (v : List Value) (ls : List Leaf) → run 64 (Want ReturnedTypeG ∷ s) v (leaf_at (scalar_key k) p ∷ ls) ≡ run 64 (Do (set_returned k) ∷ s) v ls
returned_taken scalar.Byte p s v ls = refl
returned_taken scalar.Word p s v ls = refl
returned_taken scalar.Address p s v ls = refl
returned_taken scalar.Pointer p s v ls = refl
returned_taken scalar.Integer p s v ls = refl

pub member_made : (names : MemberNames) (c : Option NumeralT) (k : Scalar) (v : List Value) → make_member k (CountR c ∷ member_names_read names v) ≡ Some (MemberR (member_with names c k) ∷ v)
member_made (member_names.One n) c k v = refl
member_made (member_names.List ns) c k v = refl

pub located_at : (f : LocationForm) (p : Position) (s : List Symbol) (v : List Value) (ls : List Leaf) → run 64 (Want AtBodyG ∷ s) v (leaf_at (form_sign f) p ∷ ls) ≡ run 64 (Want (LocatedG p f) ∷ Do set_at_location ∷ s) v ls
located_at Pointer p s v ls = refl
located_at Offset p s v ls = refl

-- ---- attributes

pub attributes_go : (c : Cursor) (s : List Symbol) (v : List Value) → is_key key.External (next_of c) ≡ false → is_key key.Public (next_of c) ≡ false → run 64 (Want AttributesG ∷ s) v (ahead c) ≡ run 64 (Want AtG ∷ Want InitialG ∷ s) v (ahead c)
attributes_go c s v g h = at_front c (Want AttributesG ∷ s) (Want AtG ∷ Want InitialG ∷ s) v v (λ l ls q. same_trace (Want AttributesG ∷ s) (Want AtG ∷ Want InitialG ∷ s) v v l ls (at_leaf l (ap (is_key key.External) q ∙ g) (ap (is_key key.Public) q ∙ h)))
  where
    at_leaf : (l : Leaf) → is_key key.External l.terminal ≡ false → is_key key.Public l.terminal ≡ false → feed (Want AttributesG ∷ s) v l.terminal l.place ≡ feed (Want AtG ∷ Want InitialG ∷ s) v l.terminal l.place
    at_leaf l g h = let t = l.terminal in
        feed_want AttributesG s v t l.place
        ∙ ap (λ (b : Bool). ruled (cond b (Take false (Do set_external ∷ [])) (cond (is_key key.Public t) (Take false (Do set_public ∷ Want AtG ∷ Want InitialG ∷ [])) (otherwise (behind (at_rule t) (Want InitialG ∷ [])) (initial_rule t)))) s v t l.place) g
        ∙ ap (λ (b : Bool). ruled (cond b (Take false (Do set_public ∷ Want AtG ∷ Want InitialG ∷ [])) (otherwise (behind (at_rule t) (Want InitialG ∷ [])) (initial_rule t))) s v t l.place) h
        ∙ ruled_otherwise (at_rule t) (initial_rule t) (Want InitialG ∷ []) s s v t l.place (sym (feed_want InitialG s v t l.place))
        ∙ sym (feed_want AtG (Want InitialG ∷ s) v t l.place)

pub no_initial_there : (c : Cursor) (s : List Symbol) (v : List Value) → is_key key.Initial (next_of c) ≡ false → is_key key.Data (next_of c) ≡ false → run 64 (Want InitialG ∷ s) v (ahead c) ≡ run 64 s v (ahead c)
no_initial_there c s v g h = passed_over InitialG c s v
    (ap (λ (b : Bool). cond b (Take false (need mark.LeftParenthesis ∷ a_value_list (Do set_initial ∷ []))) (cond (is_key key.Data (next_of c)) (Take false (need mark.LeftParenthesis ∷ a_value_list (Do set_data ∷ []))) Over)) g
    ∙ ap (λ (b : Bool). cond b (Take false (need mark.LeftParenthesis ∷ a_value_list (Do set_data ∷ []))) Over) h)

-- ---- after the name of an element

type_decided : (t : Terminal) → IsDecided (type_rule t)
type_decided t = by_option (scalar_of t)
  where
    by_test : (b : Bool) → IsDecided (cond b (Take false (need mark.LeftParenthesis ∷ push (MembersR no_members) ∷ Want MemberOfG ∷ Do add_member ∷ Want MoreMembersG ∷ Do make_structure ∷ [])) Refused)
    by_test true = tt
    by_test false = tt

    by_option : (o : Option Scalar) → IsDecided (elim o [ None ↦ cond (is_key key.Structure t) (Take false (need mark.LeftParenthesis ∷ push (MembersR no_members) ∷ Want MemberOfG ∷ Do add_member ∷ Want MoreMembersG ∷ Do make_structure ∷ [])) Refused | Some s ↦ Take false (push (TypeR (ScalarType s)) ∷ []) ])
    by_option None = by_test (is_key key.Structure t)
    by_option (Some s) = tt

behind_is_decided : (r : Rule) (a : List Symbol) → IsDecided r → IsDecided (behind r a)
behind_is_decided Refused a h = tt
behind_is_decided Over a h = h
behind_is_decided (Take b q) a h = tt
behind_is_decided (Keep b f) a h = tt

otherwise_decided : (r r' : Rule) → IsDecided r' → IsDecided (otherwise r r')
otherwise_decided Refused r' h = tt
otherwise_decided Over r' h = h
otherwise_decided (Take b q) r' h = tt
otherwise_decided (Keep b f) r' h = tt

abbrev typed : Terminal → Rule
typed t = otherwise (behind (dimension_rule t) (Want TypeG ∷ attributes_tail)) (behind (type_rule t) attributes_tail)

pub lead_goes : (c : Cursor) (x : VariableT) (s : List Symbol) (v : List Value) → is_key key.Literally (next_of c) ≡ false
    → run 64 (Want ElementLeadG ∷ s) (VariableR x ∷ v) (ahead c) ≡ run 64 (Want BasedG ∷ Do one_variable ∷ (declared_tail ++ s)) (VariableR x ∷ v) (ahead c)
lead_goes c x s v h = at_token c (Want ElementLeadG ∷ s) (Want BasedG ∷ Do one_variable ∷ (declared_tail ++ s)) (VariableR x ∷ v) (VariableR x ∷ v) refl (λ l ls q some. at_leaf l ls (ap (is_key key.Literally) q ∙ h) some)
  where
    by_test : (l : Leaf) (ls : List Leaf) → is_key key.Literally l.terminal ≡ false → Some_leaf ls → (b : Bool) → is_key key.Based l.terminal ≡ b → trace (Want ElementLeadG ∷ s) (VariableR x ∷ v) (l ∷ ls) ≡ trace (Want BasedG ∷ Do one_variable ∷ (declared_tail ++ s)) (VariableR x ∷ v) (l ∷ ls)
    by_test l ls h some true e = same_trace (Want ElementLeadG ∷ s) (Want BasedG ∷ Do one_variable ∷ (declared_tail ++ s)) (VariableR x ∷ v) (VariableR x ∷ v) l ls
        (feed_want ElementLeadG s (VariableR x ∷ v) l.terminal l.place
        ∙ ap (λ (b : Bool). ruled (cond b (Take false (Want LiteralTextG ∷ [])) (otherwise (behind (based_rule l.terminal) (Do one_variable ∷ declared_tail)) (before (Do one_variable ∷ push (DimensionR no_dimension) ∷ []) (typed l.terminal)))) s (VariableR x ∷ v) l.terminal l.place) h
        ∙ ap (λ (b : Bool). ruled (otherwise (behind (cond b (Take false (Want BaseG ∷ [])) Over) (Do one_variable ∷ declared_tail)) (before (Do one_variable ∷ push (DimensionR no_dimension) ∷ []) (typed l.terminal))) s (VariableR x ∷ v) l.terminal l.place) e
        ∙ sym (ap (λ (b : Bool). ruled (cond b (Take false (Want BaseG ∷ [])) Over) (Do one_variable ∷ (declared_tail ++ s)) (VariableR x ∷ v) l.terminal l.place) e)
        ∙ sym (feed_want BasedG (Do one_variable ∷ (declared_tail ++ s)) (VariableR x ∷ v) l.terminal l.place))
    by_test l ls h some false e =
        prefixed ElementLeadG (Do one_variable ∷ push (DimensionR no_dimension) ∷ []) s (Want DimensionG ∷ Want TypeG ∷ (attributes_tail ++ s)) (typed l.terminal) (VariableR x ∷ v) (DimensionR no_dimension ∷ DeclaredR (OneVariable x) ∷ v) l ls
        (ap (λ (b : Bool). cond b (Take false (Want LiteralTextG ∷ [])) (otherwise (behind (based_rule l.terminal) (Do one_variable ∷ declared_tail)) (before (Do one_variable ∷ push (DimensionR no_dimension) ∷ []) (typed l.terminal)))) h
        ∙ ap (λ (b : Bool). otherwise (behind (cond b (Take false (Want BaseG ∷ [])) Over) (Do one_variable ∷ declared_tail)) (before (Do one_variable ∷ push (DimensionR no_dimension) ∷ []) (typed l.terminal))) e)
        (otherwise_decided (behind (dimension_rule l.terminal) (Want TypeG ∷ attributes_tail)) (behind (type_rule l.terminal) attributes_tail) (behind_is_decided (type_rule l.terminal) attributes_tail (type_decided l.terminal)))
        (ruled_otherwise (dimension_rule l.terminal) (behind (type_rule l.terminal) attributes_tail) (Want TypeG ∷ attributes_tail) s s (DimensionR no_dimension ∷ DeclaredR (OneVariable x) ∷ v) l.terminal l.place
        (ruled_behind (type_rule l.terminal) attributes_tail s (DimensionR no_dimension ∷ DeclaredR (OneVariable x) ∷ v) l.terminal l.place (type_decided l.terminal)
        ∙ sym (feed_want TypeG (attributes_tail ++ s) (DimensionR no_dimension ∷ DeclaredR (OneVariable x) ∷ v) l.terminal l.place))
        ∙ sym (feed_want DimensionG (Want TypeG ∷ (attributes_tail ++ s)) (DimensionR no_dimension ∷ DeclaredR (OneVariable x) ∷ v) l.terminal l.place))
        (λ y. acted one_variable (push (DimensionR no_dimension) ∷ y) (VariableR x ∷ v) (DeclaredR (OneVariable x) ∷ v) some refl ∙ pushed (DimensionR no_dimension) y (DeclaredR (OneVariable x) ∷ v) some)
        (λ y. refl)
        ∙ sym (over BasedG (Do one_variable ∷ (declared_tail ++ s)) (VariableR x ∷ v) l ls (ap (λ (b : Bool). cond b (Take false (Want BaseG ∷ [])) Over) e)
        ∙ acted one_variable (declared_tail ++ s) (VariableR x ∷ v) (DeclaredR (OneVariable x) ∷ v) (some_leaf {l = l} {ls = ls}) refl
        ∙ pushed (DimensionR no_dimension) (Want DimensionG ∷ Want TypeG ∷ (attributes_tail ++ s)) (DeclaredR (OneVariable x) ∷ v) (some_leaf {l = l} {ls = ls}))

    at_leaf : (l : Leaf) (ls : List Leaf) → is_key key.Literally l.terminal ≡ false → Some_leaf ls → trace (Want ElementLeadG ∷ s) (VariableR x ∷ v) (l ∷ ls) ≡ trace (Want BasedG ∷ Do one_variable ∷ (declared_tail ++ s)) (VariableR x ∷ v) (l ∷ ls)
    at_leaf l ls h some = by_test l ls h some (is_key key.Based l.terminal) refl

-- The leaves of a declaration lead a run over the declaration.
use Rattle.std.proofs.Common.{◌≡◌, ℕ, List, [], ◌∷◌, ◌++◌, Bool, true, false, cond, Option, Some, None, refl, ap, ◌∙◌, arith}
use Rattle.plm_token.specs.declared.token.Keyword.TheVariants as key
use Rattle.plm_token.specs.declared.token.Mark.TheVariants as mark
use Rattle.plm_syntax.specs.declared.tree.Scalar.{Scalar}
use Rattle.plm_syntax.specs.declared.tree.Scalar.TheVariants as scalar
use Rattle.plm_syntax.specs.Terminal.{NameT, NumeralT, Terminal, Name, Sign, Leaf, leaf, is_key}
use Rattle.plm_syntax.specs.Tree.{Pointer, Offset, LocationOf, ConstantsOf, NamesT, no_names, names, VariableT, VariableOf, VariablesT, no_variables, variables, DeclaredT, OneVariable, VariableList, DimensionT, no_dimension, dimension, implicit_dimension, MemberT, OneMember, MemberList, MembersT, no_members, members, TypeT, ScalarType, StructureType, AtT, no_at, at_number, at_location, InitialT, no_initial, initial, constant_data, AttributesT, External, Attributes, ElementT, LiteralElement, VariableElement, ElementsT, no_elements, elements}
use Rattle.plm_syntax.specs.Spelling.{scalar_key, listed_names, name_list, base, variable, listed_variables, variable_list, dimension_leaves, count, member_leaves, listed_members, type_leaves, at_leaves, initial_leaves, attributes, element, listed_elements, element_list, put_leaf}
use Rattle.plm_syntax.specs.WellFormed.{HasNames, HasVariables, WellMember, WellSomeMembers, WellType, WellAt, WellInitial, WellAttributes, WellElement, WellSomeElements, WellElements}
use Rattle.plm_syntax.specs.Inner.Symbol.{Value, Action, Symbol, depth, need, push, NameR, NamesR, VariableR, VariablesR, DimensionR, CountR, MembersR, MemberR, TypeR, AttributesR, ElementR, ElementsR, DeclaredR, ElementG, ElementLeadG, VariableG, MoreVariablesG, BasedG, BaseG, DimensionG, TypeG, MemberOfG, MemberNameG, MoreMemberNamesG, CountG, MemberTypeG, MoreMembersG, AttributesG, AtG, InitialG, MoreElementsG, Want, Do, Over, Take}
use Rattle.plm_syntax.specs.Inner.Machine.{add_element, make_literal, set_base, add_variable, one_variable, variable_group, set_dimension, make_member, add_member, make_structure, set_external, set_public, set_at_location, set_initial, set_data, make_element, declared_tail, feed, Trace, trace, Stay, Then}
use Rattle.plm_syntax.proofs.Steps.{same_trace, over, stops}
use Rattle.plm_syntax.proofs.DriveExpression.{put_then, Some_leaf, some_leaf, pushed}
use Rattle.plm_syntax.proofs.DriveParts.{drives_located, drives_values}

pub acted : {ls : List Leaf} (a : Action) (s : List Symbol) (v w : List Value) → Some_leaf ls → a v ≡ Some w → trace (Do a ∷ s) v ls ≡ trace s w ls
acted a s v w (some_leaf {l} {ls}) e = same_trace (Do a ∷ s) s v w l ls (by_option (a v) e)
  where
    by_option : (o : Option (List Value)) → o ≡ Some w → (elim o [ None ↦ Stay | Some x ↦ feed s x l.terminal l.place ]) ≡ feed s w l.terminal l.place
    by_option None e = absurd cc
    by_option (Some x) e = let is : x ≡ w = cc in ap (λ (y : List Value). feed s y l.terminal l.place) is

-- what follows an element of a declaration
pub data Follows : List Leaf → Type 0 where
  comma : {ls : List Leaf} → Follows (leaf (Sign mark.Comma) ∷ ls)
  semicolon : {ls : List Leaf} → Follows (leaf (Sign mark.Semicolon) ∷ ls)

pub some_follows : {ls : List Leaf} → Follows ls → Some_leaf ls
some_follows comma = some_leaf
some_follows semicolon = some_leaf

-- ---- AT, INITIAL, DATA

pub some_initial : (d : ℕ) (i : InitialT) {ls : List Leaf} → Follows ls → Some_leaf (initial_leaves put_leaf d i ls)
some_initial d no_initial q = some_follows q
some_initial d (initial vs) q = some_leaf
some_initial d (constant_data vs) q = some_leaf

pub some_at : (d : ℕ) (a : AtT) {ls : List Leaf} → Some_leaf ls → Some_leaf (at_leaves put_leaf d a ls)
some_at d no_at q = q
some_at d (at_number n) q = some_leaf
some_at d (at_location l) q = some_leaf

abbrev pub the_attributes : Bool → AtT → InitialT → Value
the_attributes b a i = AttributesR (Attributes b a i)

pub initial_drives : (i : InitialT) → WellInitial i → (b : Bool) (a : AtT) (s : List Symbol) (v : List Value) (ls : List Leaf) (r : Trace) → Follows ls → trace s (the_attributes b a i ∷ v) ls ≡ r
    → trace (Want InitialG ∷ s) (the_attributes b a no_initial ∷ v) (initial_leaves put_leaf (depth s) i ls) ≡ initial_leaves put_then (depth s) i r
initial_drives no_initial w b a s v _ r (comma {ls}) k = over InitialG s _ (leaf (Sign mark.Comma)) ls refl ∙ k
initial_drives no_initial w b a s v _ r (semicolon {ls}) k = over InitialG s _ (leaf (Sign mark.Semicolon)) ls refl ∙ k
initial_drives (initial vs) w b a s v ls r q k = ap (λ (x : Trace). Then 0 (Then 0 x)) (drives_values vs w (Do set_initial ∷ s) (the_attributes b a no_initial ∷ v) ls r (acted set_initial s _ _ (some_follows q) refl ∙ k))
initial_drives (constant_data vs) w b a s v ls r q k = ap (λ (x : Trace). Then 0 (Then 0 x)) (drives_values vs w (Do set_data ∷ s) (the_attributes b a no_initial ∷ v) ls r (acted set_data s _ _ (some_follows q) refl ∙ k))

pub no_at_there : (d : ℕ) (i : InitialT) (s : List Symbol) (v : List Value) {ls : List Leaf} → Follows ls → trace (Want AtG ∷ s) v (initial_leaves put_leaf d i ls) ≡ trace s v (initial_leaves put_leaf d i ls)
no_at_there d no_initial s v comma = refl
no_at_there d no_initial s v semicolon = refl
no_at_there d (initial vs) s v q = refl
no_at_there d (constant_data vs) s v q = refl

pub at_drives : (a : AtT) (i : InitialT) → WellAt a → WellInitial i → (b : Bool) (s : List Symbol) (v : List Value) (ls : List Leaf) (r : Trace) → Follows ls → trace s (the_attributes b a i ∷ v) ls ≡ r
    → trace (Want AtG ∷ Want InitialG ∷ s) (the_attributes b no_at no_initial ∷ v) (at_leaves put_leaf (depth s) a (initial_leaves put_leaf (depth s) i ls)) ≡ at_leaves put_then (depth s) a (initial_leaves put_then (depth s) i r)
at_drives no_at i w u b s v ls r q k = no_at_there (depth s) i (Want InitialG ∷ s) _ q ∙ initial_drives i u b no_at s v ls r q k
at_drives (at_number n) i w u b s v ls r q k = ap (λ (x : Trace). Then 0 (Then 0 (Then 0 (Then 0 x)))) (initial_drives i u b (at_number n) s v ls r q k)
at_drives (at_location (LocationOf p Pointer x)) i w u b s v ls r q k = ap (λ (x : Trace). Then 0 (Then 0 (Then 0 x))) (drives_located (LocationOf p Pointer x) w (Do set_at_location ∷ need mark.RightParenthesis ∷ Want InitialG ∷ s) (the_attributes b no_at no_initial ∷ v) (leaf (Sign mark.RightParenthesis) ∷ initial_leaves put_leaf (depth s) i ls) _ (stops (omega arith)) (ap (Then 0) (initial_drives i u b (at_location (LocationOf p Pointer x)) s v ls r q k)))
at_drives (at_location (LocationOf p Offset x)) i w u b s v ls r q k = ap (λ (x : Trace). Then 0 (Then 0 (Then 0 x))) (drives_located (LocationOf p Offset x) w (Do set_at_location ∷ need mark.RightParenthesis ∷ Want InitialG ∷ s) (the_attributes b no_at no_initial ∷ v) (leaf (Sign mark.RightParenthesis) ∷ initial_leaves put_leaf (depth s) i ls) _ (stops (omega arith)) (ap (Then 0) (initial_drives i u b (at_location (LocationOf p Offset x)) s v ls r q k)))
at_drives (at_location (ConstantsOf p Pointer x)) i w u b s v ls r q k = ap (λ (x : Trace). Then 0 (Then 0 (Then 0 x))) (drives_located (ConstantsOf p Pointer x) w (Do set_at_location ∷ need mark.RightParenthesis ∷ Want InitialG ∷ s) (the_attributes b no_at no_initial ∷ v) (leaf (Sign mark.RightParenthesis) ∷ initial_leaves put_leaf (depth s) i ls) _ (stops (omega arith)) (ap (Then 0) (initial_drives i u b (at_location (ConstantsOf p Pointer x)) s v ls r q k)))
at_drives (at_location (ConstantsOf p Offset x)) i w u b s v ls r q k = ap (λ (x : Trace). Then 0 (Then 0 (Then 0 x))) (drives_located (ConstantsOf p Offset x) w (Do set_at_location ∷ need mark.RightParenthesis ∷ Want InitialG ∷ s) (the_attributes b no_at no_initial ∷ v) (leaf (Sign mark.RightParenthesis) ∷ initial_leaves put_leaf (depth s) i ls) _ (stops (omega arith)) (ap (Then 0) (initial_drives i u b (at_location (ConstantsOf p Offset x)) s v ls r q k)))

pub attributes_are : (a : AtT) (i : InitialT) (d : ℕ) (s : List Symbol) (v : List Value) {ls : List Leaf} → Follows ls → trace (Want AttributesG ∷ s) v (at_leaves put_leaf d a (initial_leaves put_leaf d i ls)) ≡ trace (Want AtG ∷ Want InitialG ∷ s) v (at_leaves put_leaf d a (initial_leaves put_leaf d i ls))
attributes_are no_at no_initial d s v comma = refl
attributes_are no_at no_initial d s v semicolon = refl
attributes_are no_at (initial vs) d s v q = refl
attributes_are no_at (constant_data vs) d s v q = refl
attributes_are (at_number n) i d s v q = refl
attributes_are (at_location l) i d s v q = refl

pub some_attributes : (d : ℕ) (a : AttributesT) {ls : List Leaf} → Follows ls → Some_leaf (attributes put_leaf d a ls)
some_attributes d External q = some_leaf
some_attributes d (Attributes true a i) q = some_leaf
some_attributes d (Attributes false a i) q = some_at d a (some_initial d i q)

pub attributes_drive : (a : AttributesT) → WellAttributes a → (s : List Symbol) (v : List Value) (ls : List Leaf) (r : Trace) → Follows ls → trace s (AttributesR a ∷ v) ls ≡ r
    → trace (Want AttributesG ∷ s) (the_attributes false no_at no_initial ∷ v) (attributes put_leaf (depth s) a ls) ≡ attributes put_then (depth s) a r
attributes_drive External w s v ls r q k = ap (Then 0) (acted set_external s _ _ (some_follows q) refl ∙ k)
attributes_drive (Attributes true a i) w s v ls r q k = ap (Then 0) (acted set_public (Want AtG ∷ Want InitialG ∷ s) _ _ (some_at (depth s) a (some_initial (depth s) i q)) refl ∙ at_drives a i w.0 w.1 true s v ls r q k)
attributes_drive (Attributes false a i) w s v ls r q k = attributes_are a i (depth s) s _ q ∙ at_drives a i w.0 w.1 false s v ls r q k

-- ---- structures

abbrev pub name_and_more : List Symbol → List Symbol
name_and_more s = Want MemberNameG ∷ Want MoreMemberNamesG ∷ s

pub names_listed : (ns : NamesT) (s : List Symbol) (v : List Value) (ls : List Leaf) (r : Trace) → trace (name_and_more s) (NamesR ns ∷ v) ls ≡ r → trace (name_and_more s) (NamesR no_names ∷ v) (listed_names put_leaf ns ls) ≡ listed_names put_then ns r
names_listed no_names s v ls r k = k
names_listed (names ns n) s v ls r k = names_listed ns s v (leaf (Name n) ∷ leaf (Sign mark.Comma) ∷ ls) _ (ap (λ (x : Trace). Then 0 (Then 0 x)) k)

pub names_drive : (ns : NamesT) → HasNames ns → (s : List Symbol) (v : List Value) (ls : List Leaf) (r : Trace) → trace s (NamesR ns ∷ v) ls ≡ r → trace (name_and_more s) (NamesR no_names ∷ v) (name_list put_leaf ns (leaf (Sign mark.RightParenthesis) ∷ ls)) ≡ name_list put_then ns (Then 0 r)
names_drive no_names w s v ls r k = absurd w
names_drive (names ns n) w s v ls r k = names_listed ns s v (leaf (Name n) ∷ leaf (Sign mark.RightParenthesis) ∷ ls) _ (ap (λ (x : Trace). Then 0 (Then 0 x)) k)

pub some_names : (ns : NamesT) {ls : List Leaf} → Some_leaf ls → Some_leaf (listed_names put_leaf ns ls)
some_names no_names q = q
some_names (names ns n) {ls} q = some_names ns {ls = leaf (Name n) ∷ leaf (Sign mark.Comma) ∷ ls} some_leaf

pub some_name_list : (ns : NamesT) → HasNames ns → (ls : List Leaf) → Some_leaf (name_list put_leaf ns (leaf (Sign mark.RightParenthesis) ∷ ls))
some_name_list no_names w ls = absurd w
some_name_list (names ns n) w ls = some_names ns {ls = leaf (Name n) ∷ leaf (Sign mark.RightParenthesis) ∷ ls} some_leaf

pub member_end : (c : Option NumeralT) (t : Scalar) (m : MemberT) (w : Value) (s : List Symbol) (v : List Value) (ls : List Leaf) (r : Trace) → make_member t (CountR c ∷ w ∷ v) ≡ Some (MemberR m ∷ v) → Some_leaf ls → trace s (MemberR m ∷ v) ls ≡ r
    → trace (Want CountG ∷ Want MemberTypeG ∷ s) (CountR None ∷ w ∷ v) (count put_leaf c (leaf (scalar_key t) ∷ ls)) ≡ count put_then c (Then 0 r)
member_end None scalar.Byte m w s v ls r e q k = ap (Then 0) (acted (make_member scalar.Byte) s _ _ q e ∙ k)
member_end None scalar.Word m w s v ls r e q k = ap (Then 0) (acted (make_member scalar.Word) s _ _ q e ∙ k)
member_end None scalar.Address m w s v ls r e q k = ap (Then 0) (acted (make_member scalar.Address) s _ _ q e ∙ k)
member_end None scalar.Pointer m w s v ls r e q k = ap (Then 0) (acted (make_member scalar.Pointer) s _ _ q e ∙ k)
member_end None scalar.Integer m w s v ls r e q k = ap (Then 0) (acted (make_member scalar.Integer) s _ _ q e ∙ k)
member_end (Some n) scalar.Byte m w s v ls r e q k = ap (λ (x : Trace). Then 0 (Then 0 (Then 0 (Then 0 x)))) (acted (make_member scalar.Byte) s _ _ q e ∙ k)
member_end (Some n) scalar.Word m w s v ls r e q k = ap (λ (x : Trace). Then 0 (Then 0 (Then 0 (Then 0 x)))) (acted (make_member scalar.Word) s _ _ q e ∙ k)
member_end (Some n) scalar.Address m w s v ls r e q k = ap (λ (x : Trace). Then 0 (Then 0 (Then 0 (Then 0 x)))) (acted (make_member scalar.Address) s _ _ q e ∙ k)
member_end (Some n) scalar.Pointer m w s v ls r e q k = ap (λ (x : Trace). Then 0 (Then 0 (Then 0 (Then 0 x)))) (acted (make_member scalar.Pointer) s _ _ q e ∙ k)
member_end (Some n) scalar.Integer m w s v ls r e q k = ap (λ (x : Trace). Then 0 (Then 0 (Then 0 (Then 0 x)))) (acted (make_member scalar.Integer) s _ _ q e ∙ k)

pub some_count : (c : Option NumeralT) (t : Terminal) (ls : List Leaf) → Some_leaf (count put_leaf c (leaf t ∷ ls))
some_count None t ls = some_leaf
some_count (Some n) t ls = some_leaf

pub member_drives : (m : MemberT) → WellMember m → (s : List Symbol) (v : List Value) (ls : List Leaf) (r : Trace) → Some_leaf ls → trace s (MemberR m ∷ v) ls ≡ r → trace (Want MemberOfG ∷ s) v (member_leaves put_leaf m ls) ≡ member_leaves put_then m r
member_drives (OneMember n c t) w s v ls r q k = ap (Then 0)
    (pushed (NameR n) (push (CountR None) ∷ Want CountG ∷ Want MemberTypeG ∷ s) v (some_count c (scalar_key t) ls)
    ∙ pushed (CountR None) (Want CountG ∷ Want MemberTypeG ∷ s) _ (some_count c (scalar_key t) ls)
    ∙ member_end c t (OneMember n c t) (NameR n) s v ls r refl q k)
member_drives (MemberList ns c t) w s v ls r q k = ap (Then 0)
    (pushed (NamesR no_names) (name_and_more (push (CountR None) ∷ Want CountG ∷ Want MemberTypeG ∷ s)) v (some_name_list ns w (count put_leaf c (leaf (scalar_key t) ∷ ls)))
    ∙ names_drive ns w (push (CountR None) ∷ Want CountG ∷ Want MemberTypeG ∷ s) v (count put_leaf c (leaf (scalar_key t) ∷ ls)) _
    (pushed (CountR None) (Want CountG ∷ Want MemberTypeG ∷ s) _ (some_count c (scalar_key t) ls) ∙ member_end c t (MemberList ns c t) (NamesR ns) s v ls r refl q k))

abbrev pub member_and_more : List Symbol → List Symbol
member_and_more s = Want MemberOfG ∷ Do add_member ∷ Want MoreMembersG ∷ s

pub members_listed : (ms : MembersT) → WellSomeMembers ms → (s : List Symbol) (v : List Value) (ls : List Leaf) (r : Trace) → trace (member_and_more s) (MembersR ms ∷ v) ls ≡ r → trace (member_and_more s) (MembersR no_members ∷ v) (listed_members put_leaf ms ls) ≡ listed_members put_then ms r
members_listed no_members w s v ls r k = k
members_listed (members ms m) w s v ls r k = members_listed ms w.0 s v (member_leaves put_leaf m (leaf (Sign mark.Comma) ∷ ls)) _
    (member_drives m w.1 (Do add_member ∷ Want MoreMembersG ∷ s) (MembersR ms ∷ v) (leaf (Sign mark.Comma) ∷ ls) _ some_leaf (ap (Then 0) k))

pub some_member : (m : MemberT) (ls : List Leaf) → Some_leaf (member_leaves put_leaf m ls)
some_member (OneMember n c t) ls = some_leaf
some_member (MemberList ns c t) ls = some_leaf

pub some_members : (ms : MembersT) {ls : List Leaf} → Some_leaf ls → Some_leaf (listed_members put_leaf ms ls)
some_members no_members q = q
some_members (members ms m) {ls} q = some_members ms (some_member m (leaf (Sign mark.Comma) ∷ ls))

pub type_drives : (t : TypeT) → WellType t → (s : List Symbol) (v : List Value) (ls : List Leaf) (r : Trace) → Some_leaf ls → trace s (TypeR t ∷ v) ls ≡ r → trace (Want TypeG ∷ s) v (type_leaves put_leaf t ls) ≡ type_leaves put_then t r
type_drives (ScalarType scalar.Byte) w s v ls r q k = ap (Then 0) (pushed (TypeR (ScalarType scalar.Byte)) s v q ∙ k)
type_drives (ScalarType scalar.Word) w s v ls r q k = ap (Then 0) (pushed (TypeR (ScalarType scalar.Word)) s v q ∙ k)
type_drives (ScalarType scalar.Address) w s v ls r q k = ap (Then 0) (pushed (TypeR (ScalarType scalar.Address)) s v q ∙ k)
type_drives (ScalarType scalar.Pointer) w s v ls r q k = ap (Then 0) (pushed (TypeR (ScalarType scalar.Pointer)) s v q ∙ k)
type_drives (ScalarType scalar.Integer) w s v ls r q k = ap (Then 0) (pushed (TypeR (ScalarType scalar.Integer)) s v q ∙ k)
type_drives (StructureType no_members) w s v ls r q k = absurd w
type_drives (StructureType (members ms m)) w s v ls r q k = ap (λ (x : Trace). Then 0 (Then 0 x))
    (pushed (MembersR no_members) (member_and_more (Do make_structure ∷ s)) v (some_members ms (some_member m (leaf (Sign mark.RightParenthesis) ∷ ls)))
    ∙ members_listed ms w.0 (Do make_structure ∷ s) v (member_leaves put_leaf m (leaf (Sign mark.RightParenthesis) ∷ ls)) _
    (member_drives m w.1 (Do add_member ∷ Want MoreMembersG ∷ Do make_structure ∷ s) (MembersR ms ∷ v) (leaf (Sign mark.RightParenthesis) ∷ ls) _ some_leaf (ap (Then 0) (acted make_structure s _ _ q refl ∙ k))))

pub some_type : (t : TypeT) (ls : List Leaf) → Some_leaf (type_leaves put_leaf t ls)
some_type (ScalarType t) ls = some_leaf
some_type (StructureType ms) ls = some_leaf

-- ---- elements

abbrev pub typed_tail : List Symbol → List Symbol
typed_tail s = Want TypeG ∷ push (the_attributes false no_at no_initial) ∷ Want AttributesG ∷ Do make_element ∷ Do add_element ∷ s

abbrev pub the_element : DeclaredT → DimensionT → TypeT → AttributesT → ElementT
the_element d c t a = VariableElement d c t a

pub typed_drives : (d : DeclaredT) (c : DimensionT) (t : TypeT) (a : AttributesT) → WellType t → WellAttributes a → (es : ElementsT) (s : List Symbol) (v : List Value) (ls : List Leaf) (r : Trace) → Follows ls → trace s (ElementsR (elements es (VariableElement d c t a)) ∷ v) ls ≡ r
    → trace (typed_tail s) (DimensionR c ∷ DeclaredR d ∷ ElementsR es ∷ v) (type_leaves put_leaf t (attributes put_leaf (depth s) a ls)) ≡ type_leaves put_then t (attributes put_then (depth s) a r)
typed_drives d c t a w u es s v ls r q k = type_drives t w (push (the_attributes false no_at no_initial) ∷ Want AttributesG ∷ Do make_element ∷ Do add_element ∷ s) _ (attributes put_leaf (depth s) a ls) _ (some_attributes (depth s) a q)
    (pushed (the_attributes false no_at no_initial) (Want AttributesG ∷ Do make_element ∷ Do add_element ∷ s) _ (some_attributes (depth s) a q)
    ∙ attributes_drive a u (Do make_element ∷ Do add_element ∷ s) _ ls r q
    (acted make_element (Do add_element ∷ s) _ (ElementR (VariableElement d c t a) ∷ ElementsR es ∷ v) (some_follows q) refl ∙ acted add_element s _ _ (some_follows q) refl ∙ k))

pub no_dimension_there : (t : TypeT) (s : List Symbol) (v : List Value) (ls : List Leaf) → trace (Want DimensionG ∷ s) v (type_leaves put_leaf t ls) ≡ trace s v (type_leaves put_leaf t ls)
no_dimension_there (ScalarType scalar.Byte) s v ls = refl
no_dimension_there (ScalarType scalar.Word) s v ls = refl
no_dimension_there (ScalarType scalar.Address) s v ls = refl
no_dimension_there (ScalarType scalar.Pointer) s v ls = refl
no_dimension_there (ScalarType scalar.Integer) s v ls = refl
no_dimension_there (StructureType ms) s v ls = refl

pub dimension_drives : (c : DimensionT) (t : TypeT) (s : List Symbol) (v : List Value) (ls : List Leaf) (r : Trace) → trace s (DimensionR c ∷ v) (type_leaves put_leaf t ls) ≡ r → trace (Want DimensionG ∷ s) (DimensionR no_dimension ∷ v) (dimension_leaves put_leaf c (type_leaves put_leaf t ls)) ≡ dimension_leaves put_then c r
dimension_drives no_dimension t s v ls r k = no_dimension_there t s _ ls ∙ k
dimension_drives (dimension n) t s v ls r k = ap (λ (x : Trace). Then 0 (Then 0 (Then 0 x))) (acted (set_dimension (dimension n)) s _ _ (some_type t ls) refl ∙ k)
dimension_drives implicit_dimension t s v ls r k = ap (λ (x : Trace). Then 0 (Then 0 (Then 0 x))) (acted (set_dimension implicit_dimension) s _ _ (some_type t ls) refl ∙ k)

-- the next token is not BASED
pub data NoBase : List Leaf → Type 0 where
  no_base : {l : Leaf} {ls : List Leaf} → is_key key.Based l.terminal ≡ false → NoBase (l ∷ ls)

pub some_no_base : {ls : List Leaf} → NoBase ls → Some_leaf ls
some_no_base (no_base h) = some_leaf

pub base_drives : (n : NameT) (b : Option NameT) (s : List Symbol) (v : List Value) (ls : List Leaf) (r : Trace) → NoBase ls → trace s (VariableR (VariableOf n b) ∷ v) ls ≡ r → trace (Want BasedG ∷ s) (VariableR (VariableOf n None) ∷ v) (base put_leaf b ls) ≡ base put_then b r
base_drives n None s v _ r (no_base {l} {ls} h) k = over BasedG s _ l ls (ap (λ (b : Bool). cond b (Take false (Want BaseG ∷ [])) Over) h) ∙ k
base_drives n (Some b) s v ls r q k = ap (λ (x : Trace). Then 0 (Then 0 x)) (acted (set_base b) s _ _ (some_no_base q) refl ∙ k)

pub some_base : (b : Option NameT) {ls : List Leaf} → Some_leaf ls → Some_leaf (base put_leaf b ls)
some_base None q = q
some_base (Some b) q = some_leaf

pub variable_drives : (x : VariableT) (s : List Symbol) (v : List Value) (ls : List Leaf) (r : Trace) → NoBase ls → trace s (VariableR x ∷ v) ls ≡ r → trace (Want VariableG ∷ s) v (variable put_leaf x ls) ≡ variable put_then x r
variable_drives (VariableOf n b) s v ls r q k = ap (Then 0) (pushed (VariableR (VariableOf n None)) (Want BasedG ∷ s) v (some_base b (some_no_base q)) ∙ base_drives n b s v ls r q k)

abbrev pub variable_and_more : List Symbol → List Symbol
variable_and_more s = Want VariableG ∷ Do add_variable ∷ Want MoreVariablesG ∷ s

pub variables_listed : (xs : VariablesT) (s : List Symbol) (v : List Value) (ls : List Leaf) (r : Trace) → trace (variable_and_more s) (VariablesR xs ∷ v) ls ≡ r → trace (variable_and_more s) (VariablesR no_variables ∷ v) (listed_variables put_leaf xs ls) ≡ listed_variables put_then xs r
variables_listed no_variables s v ls r k = k
variables_listed (variables xs x) s v ls r k = variables_listed xs s v (variable put_leaf x (leaf (Sign mark.Comma) ∷ ls)) _ (variable_drives x (Do add_variable ∷ Want MoreVariablesG ∷ s) (VariablesR xs ∷ v) (leaf (Sign mark.Comma) ∷ ls) _ (no_base refl) (ap (Then 0) k))

pub some_variable : (x : VariableT) (ls : List Leaf) → Some_leaf (variable put_leaf x ls)
some_variable (VariableOf n b) ls = some_leaf

pub some_variables : (xs : VariablesT) {ls : List Leaf} → Some_leaf ls → Some_leaf (listed_variables put_leaf xs ls)
some_variables no_variables q = q
some_variables (variables xs x) {ls} q = some_variables xs (some_variable x (leaf (Sign mark.Comma) ∷ ls))

pub variables_drive : (xs : VariablesT) → HasVariables xs → (s : List Symbol) (v : List Value) (ls : List Leaf) (r : Trace) → trace s (VariablesR xs ∷ v) ls ≡ r
    → trace (push (VariablesR no_variables) ∷ variable_and_more s) v (variable_list put_leaf xs (leaf (Sign mark.RightParenthesis) ∷ ls)) ≡ variable_list put_then xs (Then 0 r)
variables_drive no_variables w s v ls r k = absurd w
variables_drive (variables xs x) w s v ls r k = pushed (VariablesR no_variables) (variable_and_more s) v (some_variables xs (some_variable x (leaf (Sign mark.RightParenthesis) ∷ ls)))
    ∙ variables_listed xs s v (variable put_leaf x (leaf (Sign mark.RightParenthesis) ∷ ls)) _ (variable_drives x (Do add_variable ∷ Want MoreVariablesG ∷ s) (VariablesR xs ∷ v) (leaf (Sign mark.RightParenthesis) ∷ ls) _ (no_base refl) (ap (Then 0) k))

pub some_dimension : (c : DimensionT) (t : TypeT) (ls : List Leaf) → Some_leaf (dimension_leaves put_leaf c (type_leaves put_leaf t ls))
some_dimension no_dimension t ls = some_type t ls
some_dimension (dimension n) t ls = some_leaf
some_dimension implicit_dimension t ls = some_leaf

-- after an element's names
pub declared_drives : (d : DeclaredT) (c : DimensionT) (t : TypeT) (a : AttributesT) → WellType t → WellAttributes a → (es : ElementsT) (s : List Symbol) (v : List Value) (ls : List Leaf) (r : Trace) → Follows ls → trace s (ElementsR (elements es (VariableElement d c t a)) ∷ v) ls ≡ r
    → trace (declared_tail ++ (Do add_element ∷ s)) (DeclaredR d ∷ ElementsR es ∷ v) (dimension_leaves put_leaf c (type_leaves put_leaf t (attributes put_leaf (depth s) a ls))) ≡ dimension_leaves put_then c (type_leaves put_then t (attributes put_then (depth s) a r))
declared_drives d c t a w u es s v ls r q k = pushed (DimensionR no_dimension) (Want DimensionG ∷ typed_tail s) _ (some_dimension c t (attributes put_leaf (depth s) a ls))
    ∙ dimension_drives c t (typed_tail s) _ (attributes put_leaf (depth s) a ls) _ (typed_drives d c t a w u es s v ls r q k)

pub lead_type : (x : VariableT) (t : TypeT) (s : List Symbol) (v : List Value) {ls : List Leaf} → Some_leaf ls → trace (Want ElementLeadG ∷ Do add_element ∷ s) (VariableR x ∷ v) (type_leaves put_leaf t ls) ≡ trace (typed_tail s) (DimensionR no_dimension ∷ DeclaredR (OneVariable x) ∷ v) (type_leaves put_leaf t ls)
lead_type x (ScalarType scalar.Byte) s v {ls} q = ap (Then 0) (acted one_variable (push (DimensionR no_dimension) ∷ push (TypeR (ScalarType scalar.Byte)) ∷ push (the_attributes false no_at no_initial) ∷ Want AttributesG ∷ Do make_element ∷ Do add_element ∷ s) _ _ q refl ∙ pushed (DimensionR no_dimension) (push (TypeR (ScalarType scalar.Byte)) ∷ push (the_attributes false no_at no_initial) ∷ Want AttributesG ∷ Do make_element ∷ Do add_element ∷ s) _ q)
lead_type x (ScalarType scalar.Word) s v {ls} q = ap (Then 0) (acted one_variable (push (DimensionR no_dimension) ∷ push (TypeR (ScalarType scalar.Word)) ∷ push (the_attributes false no_at no_initial) ∷ Want AttributesG ∷ Do make_element ∷ Do add_element ∷ s) _ _ q refl ∙ pushed (DimensionR no_dimension) (push (TypeR (ScalarType scalar.Word)) ∷ push (the_attributes false no_at no_initial) ∷ Want AttributesG ∷ Do make_element ∷ Do add_element ∷ s) _ q)
lead_type x (ScalarType scalar.Address) s v {ls} q = ap (Then 0) (acted one_variable (push (DimensionR no_dimension) ∷ push (TypeR (ScalarType scalar.Address)) ∷ push (the_attributes false no_at no_initial) ∷ Want AttributesG ∷ Do make_element ∷ Do add_element ∷ s) _ _ q refl ∙ pushed (DimensionR no_dimension) (push (TypeR (ScalarType scalar.Address)) ∷ push (the_attributes false no_at no_initial) ∷ Want AttributesG ∷ Do make_element ∷ Do add_element ∷ s) _ q)
lead_type x (ScalarType scalar.Pointer) s v {ls} q = ap (Then 0) (acted one_variable (push (DimensionR no_dimension) ∷ push (TypeR (ScalarType scalar.Pointer)) ∷ push (the_attributes false no_at no_initial) ∷ Want AttributesG ∷ Do make_element ∷ Do add_element ∷ s) _ _ q refl ∙ pushed (DimensionR no_dimension) (push (TypeR (ScalarType scalar.Pointer)) ∷ push (the_attributes false no_at no_initial) ∷ Want AttributesG ∷ Do make_element ∷ Do add_element ∷ s) _ q)
lead_type x (ScalarType scalar.Integer) s v {ls} q = ap (Then 0) (acted one_variable (push (DimensionR no_dimension) ∷ push (TypeR (ScalarType scalar.Integer)) ∷ push (the_attributes false no_at no_initial) ∷ Want AttributesG ∷ Do make_element ∷ Do add_element ∷ s) _ _ q refl ∙ pushed (DimensionR no_dimension) (push (TypeR (ScalarType scalar.Integer)) ∷ push (the_attributes false no_at no_initial) ∷ Want AttributesG ∷ Do make_element ∷ Do add_element ∷ s) _ q)
lead_type x (StructureType ms) s v q = refl

pub lead_drives : (x : VariableT) (c : DimensionT) (t : TypeT) (a : AttributesT) → WellType t → WellAttributes a → (es : ElementsT) (s : List Symbol) (v : List Value) (ls : List Leaf) (r : Trace) → Follows ls → trace s (ElementsR (elements es (VariableElement (OneVariable x) c t a)) ∷ v) ls ≡ r
    → trace (Want ElementLeadG ∷ Do add_element ∷ s) (VariableR x ∷ ElementsR es ∷ v) (dimension_leaves put_leaf c (type_leaves put_leaf t (attributes put_leaf (depth s) a ls))) ≡ dimension_leaves put_then c (type_leaves put_then t (attributes put_then (depth s) a r))
lead_drives x no_dimension t a w u es s v ls r q k = lead_type x t s _ (some_attributes (depth s) a q) ∙ typed_drives (OneVariable x) no_dimension t a w u es s v ls r q k
lead_drives x (dimension n) t a w u es s v ls r q k = ap (λ (x : Trace). Then 0 (Then 0 (Then 0 x))) (acted (set_dimension (dimension n)) (typed_tail s) _ _ (some_type t (attributes put_leaf (depth s) a ls)) refl ∙ typed_drives (OneVariable x) (dimension n) t a w u es s v ls r q k)
lead_drives x implicit_dimension t a w u es s v ls r q k = ap (λ (x : Trace). Then 0 (Then 0 (Then 0 x))) (acted (set_dimension implicit_dimension) (typed_tail s) _ _ (some_type t (attributes put_leaf (depth s) a ls)) refl ∙ typed_drives (OneVariable x) implicit_dimension t a w u es s v ls r q k)

pub element_drives : (e : ElementT) → WellElement e → (es : ElementsT) (s : List Symbol) (v : List Value) (ls : List Leaf) (r : Trace) → Follows ls → trace s (ElementsR (elements es e) ∷ v) ls ≡ r
    → trace (Want ElementG ∷ s) (ElementsR es ∷ v) (element put_leaf (depth s) e ls) ≡ element put_then (depth s) e r
element_drives (LiteralElement n t) w es s v ls r q k = ap (λ (x : Trace). Then 0 (Then 0 (Then 0 x))) (acted (make_literal t) (Do add_element ∷ s) _ _ (some_follows q) refl ∙ acted add_element s _ _ (some_follows q) refl ∙ k)
element_drives (VariableElement (OneVariable (VariableOf n None)) c t a) w es s v ls r q k = ap (Then 0)
    (pushed (VariableR (VariableOf n None)) (Want ElementLeadG ∷ Do add_element ∷ s) _ (some_dimension c t (attributes put_leaf (depth s) a ls)) ∙ lead_drives (VariableOf n None) c t a w.1 w.2 es s v ls r q k)
element_drives (VariableElement (OneVariable (VariableOf n (Some b))) c t a) w es s v ls r q k = ap (λ (x : Trace). Then 0 (Then 0 (Then 0 x)))
    (acted (set_base b) (Do one_variable ∷ (declared_tail ++ (Do add_element ∷ s))) _ _ (some_dimension c t (attributes put_leaf (depth s) a ls)) refl ∙ acted one_variable (declared_tail ++ (Do add_element ∷ s)) _ _ (some_dimension c t (attributes put_leaf (depth s) a ls)) refl
    ∙ declared_drives (OneVariable (VariableOf n (Some b))) c t a w.1 w.2 es s v ls r q k)
element_drives (VariableElement (VariableList xs) c t a) w es s v ls r q k = ap (Then 0)
    (variables_drive xs w.0 (Do variable_group ∷ (declared_tail ++ (Do add_element ∷ s))) _ (dimension_leaves put_leaf c (type_leaves put_leaf t (attributes put_leaf (depth s) a ls))) _
    (acted variable_group (declared_tail ++ (Do add_element ∷ s)) _ _ (some_dimension c t (attributes put_leaf (depth s) a ls)) refl ∙ declared_drives (VariableList xs) c t a w.1 w.2 es s v ls r q k))

abbrev pub element_and_more : List Symbol → List Symbol
element_and_more s = Want ElementG ∷ Want MoreElementsG ∷ s

pub elements_listed : (es : ElementsT) → WellSomeElements es → (s : List Symbol) (v : List Value) (ls : List Leaf) (r : Trace) → trace (element_and_more s) (ElementsR es ∷ v) ls ≡ r
    → trace (element_and_more s) (ElementsR no_elements ∷ v) (listed_elements put_leaf (depth s) es ls) ≡ listed_elements put_then (depth s) es r
elements_listed no_elements w s v ls r k = k
elements_listed (elements es e) w s v ls r k = elements_listed es w.0 s v (element put_leaf (depth s) e (leaf (Sign mark.Comma) ∷ ls)) _ (element_drives e w.1 es (Want MoreElementsG ∷ s) v (leaf (Sign mark.Comma) ∷ ls) _ comma (ap (Then 0) k))

pub some_element : (d : ℕ) (e : ElementT) (ls : List Leaf) → Some_leaf (element put_leaf d e ls)
some_element d (LiteralElement n t) ls = some_leaf
some_element d (VariableElement (OneVariable (VariableOf n b)) c t a) ls = some_leaf
some_element d (VariableElement (VariableList xs) c t a) ls = some_leaf

pub some_elements : (d : ℕ) (es : ElementsT) {ls : List Leaf} → Some_leaf ls → Some_leaf (listed_elements put_leaf d es ls)
some_elements d no_elements q = q
some_elements d (elements es e) {ls} q = some_elements d es (some_element d e (leaf (Sign mark.Comma) ∷ ls))

-- the elements of a declaration, and the semicolon after them
pub elements_drive : (es : ElementsT) → WellElements es → (s : List Symbol) (v : List Value) (ls : List Leaf) (r : Trace) → trace s (ElementsR es ∷ v) ls ≡ r
    → trace (push (ElementsR no_elements) ∷ element_and_more s) v (element_list put_leaf (depth s) es (leaf (Sign mark.Semicolon) ∷ ls)) ≡ element_list put_then (depth s) es (Then 0 r)
elements_drive no_elements w s v ls r k = absurd w
elements_drive (elements es e) w s v ls r k = pushed (ElementsR no_elements) (element_and_more s) v (some_elements (depth s) es (some_element (depth s) e (leaf (Sign mark.Semicolon) ∷ ls)))
    ∙ elements_listed es w.0 s v (element put_leaf (depth s) e (leaf (Sign mark.Semicolon) ∷ ls)) _ (element_drives e w.1 es (Want MoreElementsG ∷ s) v (leaf (Sign mark.Semicolon) ∷ ls) _ semicolon (ap (Then 0) k))

-- The lists of a Rust tree, from their first item on.
use Rattle.std.proofs.Common.{◌≡◌, ◌-◌, List, length, Option, [], ◌∷◌, ◌++◌, map, refl, sym, ap, ◌∙◌, append_assoc, arith}
use Rattle.std.specs.Prelude.{slice_get, option_map}
use Rattle.std.proofs.lemmas.List.{append-nil}
use Rattle.plm_syntax.specs.declared.tree.Value.{Value}
use Rattle.plm_syntax.specs.declared.tree.Name.{Name}
use Rattle.plm_syntax.specs.declared.tree.Variable.{Variable}
use Rattle.plm_syntax.specs.declared.tree.Member.{Member}
use Rattle.plm_syntax.specs.declared.tree.Element.{Element}
use Rattle.plm_syntax.specs.declared.tree.Reference.{Reference}
use Rattle.plm_syntax.specs.declared.tree.Item.{Item}
use Rattle.plm_syntax.specs.declared.tree.Statement.{Statement}
use Rattle.plm_syntax.specs.Tree.{ValuesT, values, NamesT, no_names, names, VariablesT, variables, MembersT, members, ElementsT, elements, ReferencesT, references, ItemsT, items, StatementsT, statements}
use Rattle.plm_syntax.specs.View.{item_of, items_from, statement_of, statements_from, value_of, values_from, name_of, names_from, names_of, variable_of, variables_from, member_of, members_from, element_of, elements_from, reference_of, references_from}
use Rattle.plm_syntax.specs.declared.tree.Position.{Position}
use Rattle.plm_syntax.specs.declared.tree.Scalar.{Scalar}
use Rattle.plm_syntax.specs.declared.tree.MemberNames.{MemberNames}
use Rattle.plm_syntax.specs.declared.tree.MemberNames.TheVariants as written
use Rattle.plm_syntax.specs.Terminal.{NumeralT}
use Rattle.plm_syntax.specs.View.{counted, member_with}
use Rattle.plm_decl.specs.Layout.{StructureR, scalar_of}
use Rattle.plm_decl.specs.Resolver.{Known}
use Rattle.plm_decl.specs.Inner.Shape.{names_of_member}
use Rattle.plm_decl.specs.Shape.{number_of_elements, with_member_names, with_members}
use Rattle.plm_decl.specs.Lists.{value_list, name_list, variable_list, member_list, element_list, reference_list, item_list, statement_list}
use Rattle.plm_syntax.specs.Spelling.{last_name}

pub value_list_from : (vs : List Value) (before : ValuesT) → value_list (values_from vs before) ≡ value_list before ++ map value_of vs
value_list_from [] before = sym (append-nil (value_list before))
value_list_from (v ∷ vs) before = value_list_from vs (values before (value_of v)) ∙ append_assoc (value_list before) (value_of v ∷ []) (map value_of vs)

pub name_list_from : (ns : List Name) (before : NamesT) → name_list (names_from ns before) ≡ name_list before ++ map name_of ns
name_list_from [] before = sym (append-nil (name_list before))
name_list_from (n ∷ ns) before = name_list_from ns (names before (name_of n)) ∙ append_assoc (name_list before) (name_of n ∷ []) (map name_of ns)

pub variable_list_from : (vs : List Variable) (before : VariablesT) → variable_list (variables_from vs before) ≡ variable_list before ++ map variable_of vs
variable_list_from [] before = sym (append-nil (variable_list before))
variable_list_from (v ∷ vs) before = variable_list_from vs (variables before (variable_of v)) ∙ append_assoc (variable_list before) (variable_of v ∷ []) (map variable_of vs)

pub member_list_from : (ms : List Member) (before : MembersT) → member_list (members_from ms before) ≡ member_list before ++ map member_of ms
member_list_from [] before = sym (append-nil (member_list before))
member_list_from (m ∷ ms) before = member_list_from ms (members before (member_of m)) ∙ append_assoc (member_list before) (member_of m ∷ []) (map member_of ms)

pub element_list_from : (es : List Element) (before : ElementsT) → element_list (elements_from es before) ≡ element_list before ++ map element_of es
element_list_from [] before = sym (append-nil (element_list before))
element_list_from (e ∷ es) before = element_list_from es (elements before (element_of e)) ∙ append_assoc (element_list before) (element_of e ∷ []) (map element_of es)

pub reference_list_from : (xs : List Reference) (before : ReferencesT) → reference_list (references_from xs before) ≡ reference_list before ++ map reference_of xs
reference_list_from [] before = sym (append-nil (reference_list before))
reference_list_from (x ∷ xs) before = reference_list_from xs (references before (reference_of x)) ∙ append_assoc (reference_list before) (reference_of x ∷ []) (map reference_of xs)

pub item_list_from : (is : List Item) (before : ItemsT) → item_list (items_from is before) ≡ item_list before ++ map item_of is
item_list_from [] before = sym (append-nil (item_list before))
item_list_from (i ∷ is) before = item_list_from is (items before (item_of i)) ∙ append_assoc (item_list before) (item_of i ∷ []) (map item_of is)

pub statement_list_from : (ss : List Statement) (before : StatementsT) → statement_list (statements_from ss before) ≡ statement_list before ++ map statement_of ss
statement_list_from [] before = sym (append-nil (statement_list before))
statement_list_from (s ∷ ss) before = statement_list_from ss (statements before (statement_of s)) ∙ append_assoc (statement_list before) (statement_of s ∷ []) (map statement_of ss)

last_behind : (ns : List Name) (n : Name) (before : NamesT) → last_name (names_from ns (names before (name_of n))) ≡ option_map name_of (slice_get (n ∷ ns) (length ns))
last_behind [] n before = refl
last_behind (m ∷ ns) n before = last_behind ns m (names before (name_of n))

pub last_name_is : (ns : List Name) → last_name (names_of ns) ≡ option_map name_of (slice_get ns (length ns - 1))
last_name_is [] = refl
last_name_is (n ∷ ns) =
    let e : length ns ≡ length (n ∷ ns) - 1 = omega arith in
    last_behind ns n no_names ∙ ap (λ i. option_map name_of (slice_get (n ∷ ns) i)) e

members_named : (place : Position) (m : MemberNames) (c : Option NumeralT) (t : Scalar) (s : StructureR) (k : Known)
    → with_members place (member_with m c t) s k ≡ with_member_names (names_of_member m) (scalar_of t) (number_of_elements place c k).0 s (number_of_elements place c k).1
members_named place (written.One n) c t s k = refl
members_named place (written.List ns) c t s k =
    ap (λ names. with_member_names names (scalar_of t) (number_of_elements place c k).0 s (number_of_elements place c k).1) (name_list_from ns.items no_names)

-- the members of one type, by their names
pub with_members_is : (place : Position) (m : Member) (s : StructureR) (k : Known)
    → with_members place (member_of m) s k ≡ with_member_names (names_of_member m.names) (scalar_of m.scalar) (number_of_elements place (counted m.count) k).0 s (number_of_elements place (counted m.count) k).1
with_members_is place m s k = members_named place m.names (counted m.count) m.scalar s k

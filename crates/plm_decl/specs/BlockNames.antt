-- The names that a block declares, read off its tree alone.
use Rattle.std.specs.Prelude.{ℕ, List, [], ◌∷◌, ◌++◌, Bool, bytes_eq}
use Rattle.std.specs.List.{list_any}
use Rattle.plm_token.specs.Names.{normal}
use Rattle.plm_syntax.specs.Terminal.{NameT}
use Rattle.plm_syntax.specs.Tree.{VariableT, VariableOf, ElementT, LiteralElement, VariableElement, ItemT, DeclareI, ProcedureI, ItemsT, no_items, items}
use Rattle.plm_decl.specs.Lists.{element_list}
use Rattle.plm_decl.specs.Elements.{declared_list}

abbrev pub name_of_variable : VariableT → NameT
name_of_variable (VariableOf n base) = n

abbrev pub names_of_variables : List VariableT → List NameT
names_of_variables [] = []
names_of_variables (v ∷ vs) = name_of_variable v ∷ names_of_variables vs

-- a literal's name is none of the program's
abbrev pub names_of_element : ElementT → List NameT
names_of_element (LiteralElement n s) = []
names_of_element (VariableElement d n t a) = names_of_variables (declared_list d)

abbrev pub names_of_elements : List ElementT → List NameT
names_of_elements [] = []
names_of_elements (e ∷ es) = names_of_element e ++ names_of_elements es

-- a procedure's own name; what it declares stands in its own block
abbrev pub names_of_item : ItemT → List NameT
names_of_item (DeclareI p es) = names_of_elements (element_list es)
names_of_item (ProcedureI n ps s i l b e) = n ∷ []

abbrev pub names_of_items : ItemsT → List NameT
names_of_items no_items = []
names_of_items (items is i) = names_of_items is ++ names_of_item i

-- whether one of them has this normal form
abbrev pub has_name : List ℕ → List NameT → Bool
has_name name ns = list_any (λ n. bytes_eq name (normal n.text)) ns

-- The lists of a tree, which grow at their end, from their first item on; and what follows where there is a value.
use Rattle.std.specs.Prelude.{List, [], ◌∷◌, ◌++◌, Option, Some, None}
use Rattle.plm_syntax.specs.Terminal.{NameT}
use Rattle.plm_syntax.specs.Tree.{ValueT, ValuesT, no_values, values, NamesT, no_names, names, VariableT, VariablesT, no_variables, variables, MemberT, MembersT, no_members, members, ElementT, ElementsT, no_elements, elements, ReferenceT, ReferencesT, no_references, references, ItemT, ItemsT, no_items, items, StatementT, StatementsT, no_statements, statements}

abbrev pub bind : {A B : Type 0} → Option A → (A → Option B) → Option B
bind None f = None
bind (Some x) f = f x

abbrev pub value_list : ValuesT → List ValueT
value_list no_values = []
value_list (values vs v) = value_list vs ++ v ∷ []

abbrev pub name_list : NamesT → List NameT
name_list no_names = []
name_list (names ns n) = name_list ns ++ n ∷ []

abbrev pub variable_list : VariablesT → List VariableT
variable_list no_variables = []
variable_list (variables vs v) = variable_list vs ++ v ∷ []

abbrev pub member_list : MembersT → List MemberT
member_list no_members = []
member_list (members ms m) = member_list ms ++ m ∷ []

abbrev pub element_list : ElementsT → List ElementT
element_list no_elements = []
element_list (elements es e) = element_list es ++ e ∷ []

abbrev pub reference_list : ReferencesT → List ReferenceT
reference_list no_references = []
reference_list (references xs x) = reference_list xs ++ x ∷ []

abbrev pub item_list : ItemsT → List ItemT
item_list no_items = []
item_list (items is i) = item_list is ++ i ∷ []

abbrev pub statement_list : StatementsT → List StatementT
statement_list no_statements = []
statement_list (statements ss s) = statement_list ss ++ s ∷ []

-- The names that a program declares again, read off its trees alone: each has the normal form of an earlier name of the same
-- block, list of parameters or structure. They come in the order of reading: members before the names of their element, and
-- what stands in a procedure before its parameters.
use Rattle.std.specs.Prelude.{ℕ, ◌+◌, List, [], ◌∷◌, ◌++◌, map, filter, Bool, cond, nat_eq}
use Rattle.word86.specs.declared.number.Number.{Number}
use Rattle.word86.specs.declared.number.Number.TheVariants.{E302}
use Rattle.plm_token.specs.Names.{normal}
use Rattle.plm_syntax.specs.declared.tree.Position.{Position}
use Rattle.plm_syntax.specs.Terminal.{NameT}
use Rattle.plm_syntax.specs.Tree.{VariableT, MemberT, TypeT, ScalarType, StructureType, ElementT, LiteralElement, VariableElement, BasicT, EmptyS, AssignS, CallS, ReturnS, ReturnValueS, EnableS, DisableS, HaltS, IfS, IfElseS, DoS, WhileS, CaseS, IterateS, StatementT, Labelled, StatementsT, no_statements, statements, BlockT, BlockOf, ItemsT, no_items, items, ItemT, DeclareI, ProcedureI, ModuleT, ModuleOf}
use Rattle.plm_decl.specs.declared.found.Found.{Found}
use Rattle.word86.specs.FaultCode.{code_of}
use Rattle.plm_decl.specs.Lists.{name_list, member_list, element_list}
use Rattle.plm_decl.specs.Shape.{member_names}
use Rattle.plm_decl.specs.Elements.{declared_list}
use Rattle.plm_decl.specs.BlockNames.{names_of_variables, names_of_element, names_of_items, has_name}

-- the place of a name, if one of those before it has its normal form
abbrev pub place_again : List NameT → NameT → List Position
place_again before n = cond (has_name (normal n.text) before) (n.place ∷ []) []

-- the same of names one after another
abbrev pub places_again : List NameT → List NameT → List Position
places_again before [] = []
places_again before (n ∷ ns) = place_again before n ++ places_again (before ++ n ∷ []) ns

abbrev pub names_of_members : List MemberT → List NameT
names_of_members [] = []
names_of_members (m ∷ ms) = member_names m ++ names_of_members ms

-- a structure's members
abbrev pub again_in_type : TypeT → List Position
again_in_type (ScalarType s) = []
again_in_type (StructureType ms) = places_again [] (names_of_members (member_list ms))

-- each element has a name, and its type is read once
abbrev pub again_in_names : List NameT → List VariableT → TypeT → List Position
again_in_names before [] t = []
again_in_names before (v ∷ vs) t = again_in_type t ++ places_again before (names_of_variables (v ∷ vs))

abbrev pub again_in_element : List NameT → ElementT → List Position
again_in_element before (LiteralElement n s) = []
again_in_element before (VariableElement d n t a) = again_in_names before (declared_list d) t

abbrev pub again_in_elements : List NameT → List ElementT → List Position
again_in_elements before [] = []
again_in_elements before (e ∷ es) = again_in_element before e ++ again_in_elements (before ++ names_of_element e) es

-- ---- blocks

abbrev mutual
  pub again_in_block : BlockT → List Position
  again_in_block (BlockOf is ss) = again_in_items is ++ again_in_statements ss

  pub again_in_items : ItemsT → List Position
  again_in_items no_items = []
  again_in_items (items is i) = again_in_items is ++ again_in_item (names_of_items is) i

  -- a procedure's name is one of the block around it; its parameters are a list of their own
  pub again_in_item : List NameT → ItemT → List Position
  again_in_item before (DeclareI p es) = again_in_elements before (element_list es)
  again_in_item before (ProcedureI n ps s i l b e) = place_again before n ++ (again_in_block b ++ places_again [] (name_list ps))

  pub again_in_statements : StatementsT → List Position
  again_in_statements no_statements = []
  again_in_statements (statements ss s) = again_in_statements ss ++ again_in_statement s

  pub again_in_statement : StatementT → List Position
  again_in_statement (Labelled ls b) = again_in_basic b

  -- other statements have no blocks in them
  pub again_in_basic : BasicT → List Position
  again_in_basic (IfS p e s) = again_in_statement s
  again_in_basic (IfElseS p e s t) = again_in_statement s ++ again_in_statement t
  again_in_basic (DoS p b n) = again_in_block b
  again_in_basic (WhileS p e ss n) = again_in_statements ss
  again_in_basic (CaseS p e ss n) = again_in_statements ss
  again_in_basic (IterateS p i a b s ss n) = again_in_statements ss
  again_in_basic (EmptyS p) = []
  again_in_basic (AssignS xs e) = []
  again_in_basic (CallS p x) = []
  again_in_basic (ReturnS p) = []
  again_in_basic (ReturnValueS p e) = []
  again_in_basic (EnableS p) = []
  again_in_basic (DisableS p) = []
  again_in_basic (HaltS p) = []

-- ---- programs

-- a second declaration is the fault E302
abbrev pub declared_twice : ℕ → Position → Found
declared_twice number place = record { «module» = number; place = place; number = E302 }

abbrev pub again_in_module : ℕ → ModuleT → List Found
again_in_module number (ModuleOf n b e) = map (declared_twice number) (again_in_block b)

abbrev pub again_from : ℕ → List ModuleT → List Found
again_from number [] = []
again_from number (m ∷ ms) = again_in_module number m ++ again_from (number + 1) ms

-- module by module
abbrev pub declared_again : List ModuleT → List Found
declared_again ms = again_from 0 ms

-- ---- among faults

abbrev pub is_twice : Number → Bool
is_twice n = nat_eq (code_of n) (code_of E302)

-- the E302 among some faults
abbrev pub second_declarations : List Found → List Found
second_declarations fs = filter (λ f. is_twice f.number) fs

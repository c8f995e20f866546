-- The names that have objects of their own, read off a program's trees alone: they have no AT and no base, are not EXTERNAL
-- and stand in no EXTERNAL procedure. They come in the order of reading.
use Rattle.std.specs.Prelude.{◌≡◌, ℕ, ◌+◌, ◌<◌, List, [], ◌∷◌, ◌++◌, map, Bool, true, false, not, cond, ◌||◌, Some, None}
use Rattle.std.specs.List.{AllPairs}
use Rattle.plm_syntax.specs.declared.tree.Position.{Position}
use Rattle.plm_syntax.specs.Tree.{VariableT, VariableOf, no_at, at_number, at_location, AttributesT, External, Attributes, ElementT, LiteralElement, VariableElement, BasicT, EmptyS, AssignS, CallS, ReturnS, ReturnValueS, EnableS, DisableS, HaltS, IfS, IfElseS, DoS, WhileS, CaseS, IterateS, StatementT, Labelled, StatementsT, no_statements, statements, BlockT, BlockOf, ItemsT, no_items, items, ItemT, DeclareI, ProcedureI, ModuleT, ModuleOf}
use Rattle.plm_decl.specs.declared.names.Region.TheVariants as region
use Rattle.plm_decl.specs.declared.names.Variable.{Variable}
use Rattle.plm_decl.specs.declared.names.Names.{Names}
use Rattle.plm_decl.specs.Lists.{element_list}
use Rattle.plm_decl.specs.Elements.{declared_list}
use Rattle.plm_decl.specs.Names.{is_external_linkage}
use Rattle.plm_decl.specs.Procedures.{linkage_of}
use Rattle.plm_decl.specs.Modules.{AreNames}

-- the place of a name that is not based
abbrev pub own_name : VariableT → List Position
own_name (VariableOf n None) = n.place ∷ []
own_name (VariableOf n (Some base)) = []

abbrev pub own_among : List VariableT → List Position
own_among [] = []
own_among (v ∷ vs) = own_name v ++ own_among vs

-- neither EXTERNAL nor AT
abbrev pub is_own : AttributesT → Bool
is_own External = false
is_own (Attributes public no_at fill) = true
is_own (Attributes public (at_number n) fill) = false
is_own (Attributes public (at_location l) fill) = false

-- ---- blocks, and whether they stand in an EXTERNAL procedure

abbrev pub own_in_element : Bool → ElementT → List Position
own_in_element external (LiteralElement n s) = []
own_in_element external (VariableElement d n t a) = cond (external || not (is_own a)) [] (own_among (declared_list d))

abbrev pub own_in_elements : Bool → List ElementT → List Position
own_in_elements external [] = []
own_in_elements external (e ∷ es) = own_in_element external e ++ own_in_elements external es

abbrev mutual
  pub own_in_block : Bool → BlockT → List Position
  own_in_block external (BlockOf is ss) = own_in_items external is ++ own_in_statements external ss

  pub own_in_items : Bool → ItemsT → List Position
  own_in_items external no_items = []
  own_in_items external (items is i) = own_in_items external is ++ own_in_item external i

  pub own_in_item : Bool → ItemT → List Position
  own_in_item external (DeclareI p es) = own_in_elements external (element_list es)
  own_in_item external (ProcedureI n ps s i l b e) = own_in_block (is_external_linkage (linkage_of l) || external) b

  pub own_in_statements : Bool → StatementsT → List Position
  own_in_statements external no_statements = []
  own_in_statements external (statements ss s) = own_in_statements external ss ++ own_in_statement external s

  pub own_in_statement : Bool → StatementT → List Position
  own_in_statement external (Labelled ls b) = own_in_basic external b

  -- other statements have no blocks in them
  pub own_in_basic : Bool → BasicT → List Position
  own_in_basic external (IfS p e s) = own_in_statement external s
  own_in_basic external (IfElseS p e s t) = own_in_statement external s ++ own_in_statement external t
  own_in_basic external (DoS p b n) = own_in_block external b
  own_in_basic external (WhileS p e ss n) = own_in_statements external ss
  own_in_basic external (CaseS p e ss n) = own_in_statements external ss
  own_in_basic external (IterateS p i a b s ss n) = own_in_statements external ss
  own_in_basic external (EmptyS p) = []
  own_in_basic external (AssignS xs e) = []
  own_in_basic external (CallS p x) = []
  own_in_basic external (ReturnS p) = []
  own_in_basic external (ReturnValueS p e) = []
  own_in_basic external (EnableS p) = []
  own_in_basic external (DisableS p) = []
  own_in_basic external (HaltS p) = []

-- ---- programs

-- by module and place
abbrev pub own_in_module : ℕ → ModuleT → List (ℕ × Position)
own_in_module number (ModuleOf n b e) = map (λ p. (number, p)) (own_in_block false b)

abbrev pub own_from : ℕ → List ModuleT → List (ℕ × Position)
own_from number [] = []
own_from number (m ∷ ms) = own_in_module number m ++ own_from (number + 1) ms

abbrev pub own_names : List ModuleT → List (ℕ × Position)
own_names ms = own_from 0 ms

-- ---- the law

abbrev pub where_declared : Variable → ℕ × Position
where_declared v = (v.module, v.place)

-- those that are marked
abbrev pub marked : {X : Type 0} → List Bool → List X → List X
marked [] xs = []
marked (b ∷ bs) [] = []
marked (b ∷ bs) (x ∷ xs) = cond b (x ∷ marked bs xs) (marked bs xs)

-- Marks on the variables of a program show its own names, in their order. Each of them is an object, from its first byte on,
-- and the numbers of these objects rise: no two names have one object.
pub record HaveObjects (names : Names) (ms : List ModuleT) : Type 0 where
  pub marks : List Bool
  pub objects : List ℕ
  pub declared : map where_declared (marked marks names.variables.items) ≡ own_names ms
  pub lie : map (λ v. v.region) (marked marks names.variables.items) ≡ map (λ o. region.Ram o 0) objects
  pub rise : AllPairs (λ a b. a < b) objects

abbrev pub OwnNamesHaveObjects : Type 0
OwnNamesHaveObjects = (names : Names) (ms : List ModuleT) → AreNames names ms → HaveObjects names ms

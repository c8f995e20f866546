-- A program read place by place. A place is given by the blocks around it, the innermost first, each with what stands before the
-- place in it. No scope is carried from one place to the next: what is read at a place is read in `scope_at` of these blocks.
use Rattle.std.specs.Prelude.{◌≡◌, ℕ, ◌+◌, List, [], ◌∷◌, ◌++◌, length, Bool, false, ◌||◌, Option, None}
use Rattle.plm_token.specs.Names.{normal}
use Rattle.plm_syntax.specs.declared.tree.Position.{Position}
use Rattle.plm_syntax.specs.declared.tree.Linkage.TheVariants as linkage
use Rattle.plm_syntax.specs.Terminal.{NameT}
use Rattle.plm_syntax.specs.Tree.{VariableT, DimensionT, TypeT, AttributesT, ElementT, LiteralElement, VariableElement, BasicT, EmptyS, AssignS, CallS, ReturnS, ReturnValueS, EnableS, DisableS, HaltS, IfS, IfElseS, DoS, WhileS, CaseS, IterateS, StatementT, Labelled, StatementsT, BlockT, BlockOf, ItemsT, no_items, items, ItemT, DeclareI, ProcedureI, ModuleT, ModuleOf}
use Rattle.plm_syntax.specs.Tree as tree
use Rattle.plm_decl.specs.declared.layout.ScalarType.TheVariants.{Byte}
use Rattle.plm_decl.specs.declared.layout.Form.TheVariants as form
use Rattle.plm_decl.specs.declared.sites.Site.{Site}
use Rattle.plm_decl.specs.declared.sites.Site.TheVariants as site
use Rattle.plm_decl.specs.declared.attributes.Traits.{Traits}
use Rattle.plm_decl.specs.Spelling.{name_after}
use Rattle.plm_decl.specs.Scope.{path_in, is_external}
use Rattle.plm_decl.specs.Resolver.{Known, nothing_known}
use Rattle.plm_decl.specs.Lists.{name_list, element_list}
use Rattle.plm_decl.specs.Uses.{used}
use Rattle.plm_decl.specs.Resolved.{StatementR, IfR, IfElseR, DoR, WhileR, CaseR, IterateR, StatementsR, no_statements, and_statement}
use Rattle.plm_decl.specs.Expressions.{expression}
use Rattle.plm_decl.specs.Shape.{shape_for, size_of_shape}
use Rattle.plm_decl.specs.Sites.{first_site, site_after}
use Rattle.plm_decl.specs.Attributes.{element_values, traits_for}
use Rattle.plm_decl.specs.Elements.{declared_list, place_of_variable, declared_variable}
use Rattle.plm_decl.specs.Fill.{filled_element}
use Rattle.plm_decl.specs.Names.{is_external_linkage}
use Rattle.plm_decl.specs.Statements.{step_for, block_path, basic}
use Rattle.plm_syntax.specs.Spelling.{last_name}
use Rattle.plm_decl.specs.Procedures.{linkage_of, header, declared_procedure, parameters_from, completed}
use Rattle.plm_decl.specs.Joins.{has_statements, with_main, at_module, known_from}
use Rattle.plm_decl.specs.Laws.{Before, scope_at}

-- ---- places

-- a block that is entered when this much is known: nothing stands before the place in it, so no name has these traits
abbrev pub opened : List ℕ → Bool → Known → Before
opened path external k = record {
  path = path;
  external = external;
  items = no_items;
  elements = [];
  variables = [];
  traits = record { shape = record { form = form.Scalar Byte; dimension = None; stride = 0 }; linkage = linkage.None; is_data = false; has_attribute = false };
  site = site.Own;
  known = k;
  known_at_elements = k;
  known_at_variables = k;
}

-- the same place but for what stands before it in the innermost block
abbrev pub within : (Before → Before) → List Before → List Before
within change [] = []
within change (b ∷ around) = change b ∷ around

abbrev pub after_items : ItemsT → List Before → List Before
after_items is blocks = within (λ b. record b { items = is }) blocks

abbrev pub after_item : ItemT → List Before → List Before
after_item i blocks = within (λ b. record b { items = items b.items i }) blocks

-- in a DECLARE that begins when this much is known
abbrev pub in_declare : Known → List Before → List Before
in_declare k blocks = within (λ b. record b { elements = []; known_at_elements = k }) blocks

abbrev pub after_element : ElementT → List Before → List Before
after_element e blocks = within (λ b. record b { elements = b.elements ++ e ∷ [] }) blocks

-- among the names of an element that have these traits, the first of which goes to this site when this much is known
abbrev pub in_element : Traits → Site → Known → List Before → List Before
in_element t s k blocks = within (λ b. record b { variables = []; traits = t; site = s; known_at_variables = k }) blocks

abbrev pub after_variable : VariableT → List Before → List Before
after_variable v blocks = within (λ b. record b { variables = b.variables ++ v ∷ [] }) blocks

-- ---- declarations

-- a base is looked up at the place of its name; with the place after the last name
abbrev pub variables_in : List Before → List VariableT → Traits → Site → Known → List Before × Known
variables_in blocks [] t s k = (blocks, k)
variables_in blocks (v ∷ vs) t s k =
    variables_in (after_variable v blocks) vs t (site_after s (size_of_shape t.shape)) (declared_variable v t s (scope_at blocks) k).1

-- AT is read before the names of its element, values after them
abbrev pub names_at : List Before → Position → List VariableT → DimensionT → TypeT → AttributesT → Known → Known
names_at blocks place vs d t a k =
    let s = first_site (scope_at blocks) a k in
    let h = shape_for place (length vs) d t (element_values a) s.1 in
    let r = variables_in (in_element (traits_for h.0 a) s.0 h.1 blocks) vs (traits_for h.0 a) s.0 h.1 in
    filled_element (record { names = vs; shape = h.0; number = length h.1.variables }) place a (scope_at r.0) r.1

abbrev pub names_in : List Before → List VariableT → DimensionT → TypeT → AttributesT → Known → Known
names_in blocks [] d t a k = k
names_in blocks (v ∷ vs) d t a k = names_at blocks (place_of_variable v) (v ∷ vs) d t a k

abbrev pub element_in : List Before → ElementT → Known → Known
element_in blocks (LiteralElement n s) k = k
element_in blocks (VariableElement d n t a) k = names_in blocks (declared_list d) n t a k

abbrev pub elements_in : List Before → List ElementT → Known → Known
elements_in blocks [] k = k
elements_in blocks (e ∷ es) k = elements_in (after_element e blocks) es (element_in blocks e k)

-- ---- statements and blocks

abbrev mutual
  pub statement_in : List Before → StatementT → Known → StatementR × Known
  statement_in blocks (Labelled ls b) k = basic_in blocks (last_name ls) b k

  -- statements that have others in them; the names in each other one are looked up at its place
  pub basic_in : List Before → Option NameT → BasicT → Known → StatementR × Known
  basic_in blocks label (IfS p e s) k = let r = expression (scope_at blocks) e k in let q = statement_in blocks s r.1 in (IfR p r.0 q.0, q.1)
  basic_in blocks label (IfElseS p e s t) k =
      let r = expression (scope_at blocks) e k in let q = statement_in blocks s r.1 in let u = statement_in blocks t q.1 in (IfElseR p r.0 q.0 u.0, u.1)
  basic_in blocks label (DoS p b n) k =
      let r = block_path (scope_at blocks) label k in let q = block_in (opened r.0 (is_external (scope_at blocks)) r.1 ∷ blocks) b r.1 in (DoR p q.0, q.2)
  basic_in blocks label (WhileS p e ss n) k = let r = expression (scope_at blocks) e k in let q = statements_in blocks ss r.1 in (WhileR p r.0 q.0, q.1)
  basic_in blocks label (CaseS p e ss n) k = let r = expression (scope_at blocks) e k in let q = statements_in blocks ss r.1 in (CaseR p r.0 q.0, q.1)
  basic_in blocks label (IterateS p i a b s ss n) k =
      let m = used (scope_at blocks) i k in let r = expression (scope_at blocks) a m.1 in let q = expression (scope_at blocks) b r.1 in
      let u = step_for (scope_at blocks) s q.1 in let w = statements_in blocks ss u.1 in (IterateR p i.place m.0 r.0 q.0 u.0 w.0, w.1)
  basic_in blocks label (EmptyS p) k = basic (scope_at blocks) label (EmptyS p) k
  basic_in blocks label (AssignS xs e) k = basic (scope_at blocks) label (AssignS xs e) k
  basic_in blocks label (CallS p x) k = basic (scope_at blocks) label (CallS p x) k
  basic_in blocks label (ReturnS p) k = basic (scope_at blocks) label (ReturnS p) k
  basic_in blocks label (ReturnValueS p e) k = basic (scope_at blocks) label (ReturnValueS p e) k
  basic_in blocks label (EnableS p) k = basic (scope_at blocks) label (EnableS p) k
  basic_in blocks label (DisableS p) k = basic (scope_at blocks) label (DisableS p) k
  basic_in blocks label (HaltS p) k = basic (scope_at blocks) label (HaltS p) k

  pub statements_in : List Before → StatementsT → Known → StatementsR × Known
  statements_in blocks tree.no_statements k = (no_statements, k)
  statements_in blocks (tree.statements ss s) k = let r = statements_in blocks ss k in let q = statement_in blocks s r.1 in (and_statement r.0 q.0, q.1)

  -- a block's statements stand after its items; with the place at its end
  pub block_in : List Before → BlockT → Known → StatementsR × List Before × Known
  block_in blocks (BlockOf is ss) k = let q = statements_in (after_items is blocks) ss (items_in blocks is k) in (q.0, after_items is blocks, q.1)

  pub items_in : List Before → ItemsT → Known → Known
  items_in blocks no_items k = k
  items_in blocks (items is i) k = item_in (after_items is blocks) i (items_in blocks is k)

  -- a procedure's block stands after its own name in the block around it
  pub item_in : List Before → ItemT → Known → Known
  item_in blocks (DeclareI p es) k = elements_in (in_declare k blocks) (element_list es) k
  item_in blocks (ProcedureI n ps s i l b e) k =
      let p = header (name_after (path_in (scope_at blocks)) (normal n.text)) n (name_list ps) s i (linkage_of l) b k in
      let r = declared_procedure (scope_at blocks) n p k in
      let inside = opened p.path (is_external_linkage p.linkage || is_external (scope_at blocks)) r.1 in
      let q = block_in (inside ∷ after_item (ProcedureI n ps s i l b e) blocks) b r.1 in
      let u = parameters_from (scope_at q.1) [] [] (name_list ps) q.2 in
      completed p.entry u.0 q.0 u.1

-- ---- programs

abbrev pub module_in : ℕ → ModuleT → Known → Known
module_in number (ModuleOf n b e) k =
    let q = at_module number k in let r = block_in (opened (normal n.text) false q ∷ []) b q in
    with_main (has_statements b) r.0 r.2

abbrev pub modules_in : ℕ → List ModuleT → Known → Known
modules_in number [] k = k
modules_in number (m ∷ ms) k = modules_in (number + 1) ms (module_in number m k)

-- what the modules declare, and the faults of their declarations and names, read place by place
abbrev pub known_by_places : List ModuleT → Known
known_by_places ms = modules_in 0 ms nothing_known

-- a program reads the same place by place: so a name that is used anywhere in it stands for what it means in the scope of its
-- place, and that is what the innermost block that declares it before the place declares
abbrev pub ReadByPlaces : Type 0
ReadByPlaces = (ms : List ModuleT) → known_from ms ≡ known_by_places ms

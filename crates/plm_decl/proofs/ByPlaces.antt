-- A program read place by place is the program read with its scope carried along.
use Rattle.std.proofs.Common.{◌≡◌, ℕ, ◌+◌, List, [], ◌∷◌, ◌++◌, length, Bool, false, ◌||◌, Option, refl, sym, ap, ◌∙◌}
use Rattle.plm_token.specs.Names.{normal}
use Rattle.plm_syntax.specs.declared.tree.Position.{Position}
use Rattle.plm_syntax.specs.Terminal.{NameT}
use Rattle.plm_syntax.specs.Tree.{VariableT, DimensionT, TypeT, AttributesT, ElementT, LiteralElement, VariableElement, BasicT, EmptyS, AssignS, CallS, ReturnS, ReturnValueS, EnableS, DisableS, HaltS, IfS, IfElseS, DoS, WhileS, CaseS, IterateS, StatementT, Labelled, StatementsT, BlockT, BlockOf, ItemsT, no_items, items, ItemT, DeclareI, ProcedureI, ModuleT, ModuleOf}
use Rattle.plm_syntax.specs.Tree as tree
use Rattle.plm_decl.specs.declared.sites.Site.{Site}
use Rattle.plm_decl.specs.declared.attributes.Traits.{Traits}
use Rattle.plm_decl.specs.Spelling.{name_after}
use Rattle.plm_decl.specs.Scope.{Frame, frame, path_in, is_external}
use Rattle.plm_decl.specs.Resolver.{Known, nothing_known}
use Rattle.plm_decl.specs.Lists.{name_list, element_list}
use Rattle.plm_decl.specs.Uses.{used}
use Rattle.plm_decl.specs.Resolved.{StatementR, IfR, IfElseR, DoR, WhileR, CaseR, IterateR, StatementsR, and_statement}
use Rattle.plm_decl.specs.Expressions.{expression}
use Rattle.plm_decl.specs.Shape.{shape_for, size_of_shape}
use Rattle.plm_decl.specs.Sites.{first_site, site_after}
use Rattle.plm_decl.specs.Attributes.{element_values, traits_for}
use Rattle.plm_decl.specs.Elements.{declared_list, place_of_variable, declared_variable, declared_variables}
use Rattle.plm_decl.specs.Fill.{filled_element, declared_at, declared_names, element}
use Rattle.plm_decl.specs.Names.{is_external_linkage}
use Rattle.plm_decl.specs.Statements.{step_for, block_path, with_elements, statement, basic, statements as read_statements, block, with_items, with_item}
use Rattle.plm_syntax.specs.Spelling.{last_name}
use Rattle.plm_decl.specs.Procedures.{linkage_of, header, declared_procedure, parameters_from, completed}
use Rattle.plm_decl.specs.Joins.{has_statements, with_main, at_module, with_module, modules_from, known_from}
use Rattle.plm_decl.specs.Laws.{Before, scope_at}
use Rattle.plm_decl.specs.ByPlaces.{opened, within, after_items, after_item, variables_in, names_at, names_in, element_in, elements_in, statement_in, basic_in, statements_in, block_in, items_in, item_in, module_in, modules_in, known_by_places}

-- ---- declarations

-- one name more, and one element more
variables_then : (before : List VariableT) (v : VariableT) (t : Traits) (s : Site) (frames : List Frame) (k : Known)
    → declared_variables (before ++ v ∷ []) t s frames k
    ≡ (let r = declared_variables before t s frames k in let q = declared_variable v t r.0 r.1 r.2 in (site_after r.0 (size_of_shape t.shape), q.0, q.1))
variables_then [] v t s frames k = refl
variables_then (x ∷ before) v t s frames k = let r = declared_variable x t s frames k in variables_then before v t (site_after s (size_of_shape t.shape)) r.0 r.1

elements_then : (before : List ElementT) (e : ElementT) (frames : List Frame) (k : Known)
    → with_elements (before ++ e ∷ []) frames k ≡ (let r = with_elements before frames k in element e r.0 r.1)
elements_then [] e frames k = refl
elements_then (x ∷ before) e frames k = let r = element x frames k in elements_then before e r.0 r.1

-- a place at which no element of a DECLARE stands before it, and one at which no name of an element does
abbrev among_items : Before → List Before → List Before
among_items b around = record b { elements = []; variables = [] } ∷ around

abbrev among_elements : Before → List Before → List Before
among_elements b around = record b { variables = [] } ∷ around

-- after these elements, and after these names
abbrev past_elements : Before → List Before → Known → List ElementT → List Before
past_elements b around start before = within (λ c. record c { elements = before; known_at_elements = start }) (among_items b around)

abbrev past_names : Before → List Before → Traits → Site → Known → List VariableT → List Before
past_names b around t s start before = within (λ c. record c { variables = before; traits = t; site = s; known_at_variables = start }) (among_elements b around)

variables_read : (b : Before) (around : List Before) (t : Traits) (s : Site) (start : Known) (before vs : List VariableT)
    → (let r = declared_variables before t s (scope_at (among_elements b around)) start in
    let q = variables_in (past_names b around t s start before) vs t r.0 r.2 in
    let u = declared_variables vs t r.0 r.1 r.2 in
    ◌≡◌ {A = List Frame × Known} (scope_at q.0, q.1) (u.1, u.2))
variables_read b around t s start before [] = refl
variables_read b around t s start before (v ∷ vs) =
    let more = variables_then before v t s (scope_at (among_elements b around)) start in
    ap (λ (x : Site × List Frame × Known). let q = variables_in (past_names b around t s start (before ++ v ∷ [])) vs t x.0 x.2 in (scope_at q.0, q.1)) (sym more)
    ∙ variables_read b around t s start (before ++ v ∷ []) vs
    ∙ ap (λ (x : Site × List Frame × Known). let u = declared_variables vs t x.0 x.1 x.2 in (u.1, u.2)) more

names_read : (b : Before) (around : List Before) (place : Position) (vs : List VariableT) (d : DimensionT) (t : TypeT) (a : AttributesT) (k : Known)
    → names_at (among_elements b around) place vs d t a k ≡ (declared_at place vs d t a (scope_at (among_elements b around)) k).1
names_read b around place vs d t a k =
    let s = first_site (scope_at (among_elements b around)) a k in
    let h = shape_for place (length vs) d t (element_values a) s.1 in
    ap (λ (x : List Frame × Known). filled_element (record { names = vs; shape = h.0; number = length h.1.variables }) place a x.0 x.1)
    (variables_read b around (traits_for h.0 a) s.0 h.1 [] vs)

listed_read : (b : Before) (around : List Before) (vs : List VariableT) (d : DimensionT) (t : TypeT) (a : AttributesT) (k : Known)
    → names_in (among_elements b around) vs d t a k ≡ (declared_names vs d t a (scope_at (among_elements b around)) k).1
listed_read b around [] d t a k = refl
listed_read b around (v ∷ vs) d t a k = names_read b around (place_of_variable v) (v ∷ vs) d t a k

element_read : (b : Before) (around : List Before) (e : ElementT) (k : Known) → element_in (among_elements b around) e k ≡ (element e (scope_at (among_elements b around)) k).1
element_read b around (LiteralElement n s) k = refl
element_read b around (VariableElement d n t a) k = listed_read b around (declared_list d) n t a k

elements_read : (b : Before) (around : List Before) (start : Known) (before es : List ElementT)
    → (let r = with_elements before (scope_at (among_items b around)) start in
    elements_in (past_elements b around start before) es r.1 ≡ (with_elements es r.0 r.1).1)
elements_read b around start before [] = refl
elements_read b around start before (e ∷ es) =
    let r = with_elements before (scope_at (among_items b around)) start in
    let more = elements_then before e (scope_at (among_items b around)) start in
    let after = past_elements b around start (before ++ e ∷ []) in
    ap (λ (q : Known). elements_in after es q) (element_read (record b { elements = before; known_at_elements = start }) around e r.1)
    ∙ ap (λ (x : List Frame × Known). elements_in after es x.1) (sym more)
    ∙ elements_read b around start (before ++ e ∷ []) es
    ∙ ap (λ (x : List Frame × Known). (with_elements es x.0 x.1).1) more

-- ---- statements and blocks

-- after these items
abbrev past_items : List ℕ → Bool → List Before → Known → ItemsT → List Before
past_items path external around k is = after_items is (opened path external k ∷ around)

mutual
  statement_read : (blocks : List Before) (s : StatementT) (k : Known) → statement_in blocks s k ≡ statement (scope_at blocks) s k
  statement_read blocks (Labelled ls b) k = basic_read blocks (last_name ls) b k

  basic_read : (blocks : List Before) (label : Option NameT) (b : BasicT) (k : Known) → basic_in blocks label b k ≡ basic (scope_at blocks) label b k
  basic_read blocks label (EmptyS p) k = refl
  basic_read blocks label (AssignS xs e) k = refl
  basic_read blocks label (CallS p x) k = refl
  basic_read blocks label (ReturnS p) k = refl
  basic_read blocks label (ReturnValueS p e) k = refl
  basic_read blocks label (EnableS p) k = refl
  basic_read blocks label (DisableS p) k = refl
  basic_read blocks label (HaltS p) k = refl
  basic_read blocks label (IfS p e s) k =
      let r = expression (scope_at blocks) e k in ap (λ (q : StatementR × Known). (IfR p r.0 q.0, q.1)) (statement_read blocks s r.1)
  basic_read blocks label (IfElseS p e s t) k =
      let r = expression (scope_at blocks) e k in
      let q = statement (scope_at blocks) s r.1 in
      ap (λ (q : StatementR × Known). let u = statement_in blocks t q.1 in (IfElseR p r.0 q.0 u.0, u.1)) (statement_read blocks s r.1)
      ∙ ap (λ (u : StatementR × Known). (IfElseR p r.0 q.0 u.0, u.1)) (statement_read blocks t q.1)
  basic_read blocks label (DoS p b n) k =
      let r = block_path (scope_at blocks) label k in
      ap (λ (q : StatementsR × List Frame × Known). (DoR p q.0, q.2)) (block_read r.0 (is_external (scope_at blocks)) blocks b r.1)
  basic_read blocks label (WhileS p e ss n) k =
      let r = expression (scope_at blocks) e k in ap (λ (q : StatementsR × Known). (WhileR p r.0 q.0, q.1)) (statements_read blocks ss r.1)
  basic_read blocks label (CaseS p e ss n) k =
      let r = expression (scope_at blocks) e k in ap (λ (q : StatementsR × Known). (CaseR p r.0 q.0, q.1)) (statements_read blocks ss r.1)
  basic_read blocks label (IterateS p i a b s ss n) k =
      let m = used (scope_at blocks) i k in let r = expression (scope_at blocks) a m.1 in let q = expression (scope_at blocks) b r.1 in
      let u = step_for (scope_at blocks) s q.1 in
      ap (λ (w : StatementsR × Known). (IterateR p i.place m.0 r.0 q.0 u.0 w.0, w.1)) (statements_read blocks ss u.1)

  statements_read : (blocks : List Before) (ss : StatementsT) (k : Known) → statements_in blocks ss k ≡ read_statements (scope_at blocks) ss k
  statements_read blocks tree.no_statements k = refl
  statements_read blocks (tree.statements ss s) k =
      let r = read_statements (scope_at blocks) ss k in
      ap (λ (r : StatementsR × Known). let q = statement_in blocks s r.1 in (and_statement r.0 q.0, q.1)) (statements_read blocks ss k)
      ∙ ap (λ (q : StatementR × Known). (and_statement r.0 q.0, q.1)) (statement_read blocks s r.1)

  -- and the place at a block's end has the scope at its end
  block_read : (path : List ℕ) (external : Bool) (around : List Before) (b : BlockT) (k : Known)
      → (let q = block_in (opened path external k ∷ around) b k in (q.0, scope_at q.1, q.2)) ≡ block (frame path external ∷ scope_at around) b k
  block_read path external around (BlockOf is ss) k =
      let blocks = past_items path external around k is in
      ap (λ (q : Known). let r = statements_in blocks ss q in (r.0, scope_at blocks, r.1)) (items_read path external around is k)
      ∙ ap (λ (r : StatementsR × Known). (r.0, scope_at blocks, r.1)) (statements_read blocks ss (with_items (frame path external ∷ scope_at around) is k).1)

  items_read : (path : List ℕ) (external : Bool) (around : List Before) (is : ItemsT) (k : Known)
      → items_in (opened path external k ∷ around) is k ≡ (with_items (frame path external ∷ scope_at around) is k).1
  items_read path external around no_items k = refl
  items_read path external around (items is i) k =
      ap (λ (q : Known). item_in (past_items path external around k is) i q) (items_read path external around is k) ∙ item_read path external around is i k

  item_read : (path : List ℕ) (external : Bool) (around : List Before) (is : ItemsT) (i : ItemT) (k : Known)
      → (let r = with_items (frame path external ∷ scope_at around) is k in
      item_in (past_items path external around k is) i r.1 ≡ (with_item r.0 i r.1).1)
  item_read path external around is (DeclareI p es) k =
      elements_read (record (opened path external k) { items = is }) around (with_items (frame path external ∷ scope_at around) is k).1 [] (element_list es)
  item_read path external around is (ProcedureI n ps s i l b e) k =
      let m = with_items (frame path external ∷ scope_at around) is k in
      let p = header (name_after (path_in m.0) (normal n.text)) n (name_list ps) s i (linkage_of l) b m.1 in
      let r = declared_procedure m.0 n p m.1 in
      ap (λ (q : StatementsR × List Frame × Known). let u = parameters_from q.1 [] [] (name_list ps) q.2 in completed p.entry u.0 q.0 u.1)
      (block_read p.path (is_external_linkage p.linkage || is_external m.0) (after_item (ProcedureI n ps s i l b e) (past_items path external around k is)) b r.1)

-- ---- programs

module_read : (number : ℕ) (m : ModuleT) (k : Known) → module_in number m k ≡ with_module number m k
module_read number (ModuleOf n b e) k =
    ap (λ (r : StatementsR × List Frame × Known). with_main (has_statements b) r.0 r.2) (block_read (normal n.text) false [] b (at_module number k))

modules_read : (number : ℕ) (ms : List ModuleT) (k : Known) → modules_in number ms k ≡ modules_from number ms k
modules_read number [] k = refl
modules_read number (m ∷ ms) k = ap (λ (q : Known). modules_in (number + 1) ms q) (module_read number m k) ∙ modules_read (number + 1) ms (with_module number m k)

pub read_by_places : (ms : List ModuleT) → known_from ms ≡ known_by_places ms
read_by_places ms = sym (modules_read 0 ms nothing_known)

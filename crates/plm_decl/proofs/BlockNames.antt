-- The names of a frame are those that its block declares.
use Rattle.std.proofs.Common.{◌≡◌, ℕ, List, [], ◌∷◌, ◌++◌, Bool, true, false, ◌||◌, not, cond, is_some, Option, Some, None, bytes_eq, refl, sym, ap, ◌∙◌}
use Rattle.std.proofs.Math.Bool.{or-false, or_assoc}
use Rattle.std.specs.Option.{option_or}
use Rattle.std.proofs.lemmas.Slice.Eq.{bytes_eq-Decides}
use Rattle.plm_token.specs.Names.{normal}
use Rattle.plm_syntax.specs.Terminal.{NameT}
use Rattle.plm_syntax.specs.Tree.{VariableT, VariableOf, ElementT, LiteralElement, VariableElement, AttributesT, DimensionT, TypeT, ItemT, DeclareI, ProcedureI, ItemsT, no_items, items}
use Rattle.plm_decl.specs.declared.names.Item.{Item}
use Rattle.plm_decl.specs.declared.sites.Site.{Site}
use Rattle.plm_decl.specs.declared.attributes.Traits.{Traits}
use Rattle.plm_decl.specs.Scope.{Entries, Frame, found_in, found_here, meant, with_entry, with_name, is_fresh}
use Rattle.plm_decl.specs.Resolver.{Known}
use Rattle.plm_decl.specs.Lists.{element_list}
use Rattle.plm_decl.specs.Shape.{size_of_shape}
use Rattle.plm_decl.specs.Sites.{site_after}
use Rattle.plm_decl.specs.Elements.{declared_variable, declared_variables, declared_list}
use Rattle.plm_decl.specs.Fill.{declared_names, element}
use Rattle.plm_decl.specs.Statements.{with_elements, with_items, with_item}
use Rattle.plm_decl.specs.BlockNames.{name_of_variable, names_of_variables, names_of_element, names_of_elements, names_of_item, names_of_items, has_name}

-- ---- tests

pub has_both : (name : List ℕ) (ms ns : List NameT) → has_name name (ms ++ ns) ≡ (has_name name ms || has_name name ns)
has_both name [] ns = refl
has_both name (m ∷ ms) ns =
    ap (λ (b : Bool). bytes_eq name (normal m.text) || b) (has_both name ms ns) ∙ sym (or_assoc (bytes_eq name (normal m.text)) (has_name name ms) (has_name name ns))

-- ---- one more name

abbrev pub finds : List ℕ → Entries → Bool
finds name es = is_some (found_in name es)

chosen : (b : Bool) (i : Item) (o : Option Item) → is_some (cond b (Some i) o) ≡ (b || is_some o)
chosen true i o = refl
chosen false i o = refl

finds_pushed : (name key : List ℕ) (i : Item) (es : Entries) → finds name (es ++ (key, i) ∷ []) ≡ (finds name es || bytes_eq name key)
finds_pushed name key i [] = chosen (bytes_eq name key) i None ∙ or-false (bytes_eq name key)
finds_pushed name key i (e ∷ es) =
    chosen (bytes_eq name e.0) e.1 (found_in name (es ++ (key, i) ∷ []))
    ∙ ap (λ (b : Bool). bytes_eq name e.0 || b) (finds_pushed name key i es)
    ∙ sym (or_assoc (bytes_eq name e.0) (finds name es) (bytes_eq name key))
    ∙ ap (λ (b : Bool). b || bytes_eq name key) (sym (chosen (bytes_eq name e.0) e.1 (found_in name es)))

there : (name key : List ℕ) (es : Entries) (b : Bool) → bytes_eq name key ≡ b → finds key es ≡ true → finds name es ≡ (finds name es || b)
there name key es false e h = sym (or-false (finds name es))
there name key es true e h =
    let found : finds name es ≡ true = ap (λ (x : List ℕ). finds x es) ((bytes_eq-Decides name key).0 e) ∙ h in
    found ∙ sym (ap (λ (b : Bool). b || true) found)

pub entered : (b : Bool) (name key : List ℕ) (i : Item) (es : Entries) → finds key es ≡ b → finds name (cond b es (es ++ (key, i) ∷ [])) ≡ (finds name es || bytes_eq name key)
entered true name key i es h = there name key es (bytes_eq name key) refl h
entered false name key i es h = finds_pushed name key i es

-- ---- what stands in a block

-- a frame to which the names are added, in the same blocks
pub record Enters (f : Frame) (outer : List Frame) (ns : List NameT) (after : List Frame) : Type 0 where
  pub innermost : Frame
  pub is : after ≡ innermost ∷ outer
  pub finds_names : (name : List ℕ) → finds name innermost.names ≡ (finds name f.names || has_name name ns)

enters_none : (f : Frame) (outer : List Frame) → Enters f outer [] (f ∷ outer)
enters_none f outer = record { innermost = f; is = refl; finds_names = λ name. sym (or-false (finds name f.names)) }

enters_one : (f : Frame) (outer : List Frame) (n : NameT) (i : Item) → Enters f outer (n ∷ []) (with_name (normal n.text) i (f ∷ outer))
enters_one f outer n i = record {
  innermost = record f { names = with_entry (normal n.text) i f.names };
  is = refl;
  finds_names = λ name. entered (finds (normal n.text) f.names) name (normal n.text) i f.names refl
      ∙ ap (λ (b : Bool). finds name f.names || b) (sym (or-false (bytes_eq name (normal n.text))));
}

pub enters_then : (f : Frame) (outer : List Frame) (ms ns : List NameT) (step : List Frame → List Frame) (before : List Frame)
    → Enters f outer ms before → ((g : Frame) → Enters g outer ns (step (g ∷ outer))) → Enters f outer (ms ++ ns) (step before)
enters_then f outer ms ns step before a b =
    let g = a.innermost in
    let c = b g in record {
      innermost = c.innermost;
      is = ap step a.is ∙ c.is;
      finds_names = λ name. c.finds_names name ∙ ap (λ (x : Bool). x || has_name name ns) (a.finds_names name)
          ∙ or_assoc (finds name f.names) (has_name name ms) (has_name name ns)
          ∙ ap (λ (x : Bool). finds name f.names || x) (sym (has_both name ms ns));
    }

pub one_variable : (f : Frame) (outer : List Frame) (v : VariableT) (t : Traits) (s : Site) (k : Known) → Enters f outer (name_of_variable v ∷ []) (declared_variable v t s (f ∷ outer) k).0
one_variable f outer (VariableOf n base) t s k = enters_one f outer n _

variables : (f : Frame) (outer : List Frame) (vs : List VariableT) (t : Traits) (s : Site) (k : Known) → Enters f outer (names_of_variables vs) (declared_variables vs t s (f ∷ outer) k).1
variables f outer [] t s k = enters_none f outer
variables f outer (v ∷ vs) t s k =
    let r = declared_variable v t s (f ∷ outer) k in
    let next = site_after s (size_of_shape t.shape) in
    enters_then f outer (name_of_variable v ∷ []) (names_of_variables vs) (λ (x : List Frame). (declared_variables vs t next x r.1).1) r.0
    (one_variable f outer v t s k) (λ g. variables g outer vs t next r.1)

listed : (f : Frame) (outer : List Frame) (vs : List VariableT) (d : DimensionT) (t : TypeT) (a : AttributesT) (k : Known) → Enters f outer (names_of_variables vs) (declared_names vs d t a (f ∷ outer) k).0
listed f outer [] d t a k = enters_none f outer
listed f outer (v ∷ vs) d t a k = variables f outer (v ∷ vs) _ _ _

pub one_element : (f : Frame) (outer : List Frame) (e : ElementT) (k : Known) → Enters f outer (names_of_element e) (element e (f ∷ outer) k).0
one_element f outer (LiteralElement n s) k = enters_none f outer
one_element f outer (VariableElement d n t a) k = listed f outer (declared_list d) n t a k

elements : (f : Frame) (outer : List Frame) (es : List ElementT) (k : Known) → Enters f outer (names_of_elements es) (with_elements es (f ∷ outer) k).0
elements f outer [] k = enters_none f outer
elements f outer (e ∷ es) k =
    let r = element e (f ∷ outer) k in
    enters_then f outer (names_of_element e) (names_of_elements es) (λ (x : List Frame). (with_elements es x r.1).0) r.0 (one_element f outer e k) (λ g. elements g outer es r.1)

one_item : (f : Frame) (outer : List Frame) (i : ItemT) (k : Known) → Enters f outer (names_of_item i) (with_item (f ∷ outer) i k).0
one_item f outer (DeclareI p es) k = elements f outer (element_list es) k
one_item f outer (ProcedureI n ps s i l b e) k = enters_one f outer n _

pub block_enters : (f : Frame) (outer : List Frame) (is : ItemsT) (k : Known) → Enters f outer (names_of_items is) (with_items (f ∷ outer) is k).0
block_enters f outer no_items k = enters_none f outer
block_enters f outer (items is i) k =
    let r = with_items (f ∷ outer) is k in
    enters_then f outer (names_of_items is) (names_of_item i) (λ (x : List Frame). (with_item x i r.1).0) r.0 (block_enters f outer is k) (λ g. one_item g outer i r.1)

-- after the items, further elements and further names of an element
pub declaration_enters : (f : Frame) (outer : List Frame) (is : ItemsT) (es : List ElementT) (vs : List VariableT) (t : Traits) (s : Site) (k q r : Known)
    → Enters f outer (names_of_items is ++ (names_of_elements es ++ names_of_variables vs)) (declared_variables vs t s (with_elements es (with_items (f ∷ outer) is k).0 q).0 r).1
declaration_enters f outer is es vs t s k q r =
    enters_then f outer (names_of_items is) (names_of_elements es ++ names_of_variables vs) (λ (x : List Frame). (declared_variables vs t s (with_elements es x q).0 r).1) (with_items (f ∷ outer) is k).0
    (block_enters f outer is k)
    (λ g. enters_then g outer (names_of_elements es) (names_of_variables vs) (λ (x : List Frame). (declared_variables vs t s x r).1) (with_elements es (g ∷ outer) q).0
    (elements g outer es q) (λ h. variables h outer vs t s r))

-- ---- what that means of a name

pub fresh_where_undeclared : (name : List ℕ) (f : Frame) (outer : List Frame) (ns : List NameT) (after : List Frame) → f.names ≡ [] → Enters f outer ns after → is_fresh name after ≡ not (has_name name ns)
fresh_where_undeclared name f outer ns after none e =
    ap (is_fresh name) e.is ∙ ap not (e.finds_names name ∙ ap (λ (es : Entries). finds name es || has_name name ns) none)

meant_outside : (o : Option Item) (p : Option Item) → is_some o ≡ false → option_or o p ≡ p
meant_outside None p h = refl
meant_outside (Some i) p h = cc

meant_inside : (o : Option Item) (p : Option Item) → is_some o ≡ true → option_or o p ≡ o
meant_inside (Some i) p h = refl
meant_inside None p h = cc

pub outside : (name : List ℕ) (f : Frame) (outer : List Frame) (ns : List NameT) (after : List Frame) → f.names ≡ [] → Enters f outer ns after
    → has_name name ns ≡ false → meant name after ≡ meant name outer
outside name f outer ns after none e h =
    let found = e.finds_names name ∙ ap (λ (es : Entries). finds name es || has_name name ns) none ∙ h in
    ap (meant name) e.is ∙ meant_outside (found_in name e.innermost.names) (meant name outer) found

pub inside : (name : List ℕ) (f : Frame) (outer : List Frame) (ns : List NameT) (after : List Frame) → f.names ≡ [] → Enters f outer ns after
    → has_name name ns ≡ true → (meant name after ≡ found_here name after) × (is_some (found_here name after) ≡ true)
inside name f outer ns after none e h =
    let found = e.finds_names name ∙ ap (λ (es : Entries). finds name es || has_name name ns) none ∙ h in (
      ap (meant name) e.is ∙ meant_inside (found_in name e.innermost.names) (meant name outer) found ∙ sym (ap (found_here name) e.is),
      ap (λ (x : List Frame). is_some (found_here name x)) e.is ∙ found,
    )

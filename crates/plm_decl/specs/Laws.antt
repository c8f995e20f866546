-- What is read step by step, said of the tree of a block.
use Rattle.std.specs.Prelude.{◌≡◌, ℕ, suc, ◌^◌, ◌<◌, ◌≤◌, List, [], ◌∷◌, ◌++◌, map, length, sum_by, slice_get, Bool, true, false, cond, not, Option, Some, None, is_some}
use Rattle.std.specs.List.{list_all, All}
use Rattle.word86.specs.declared.number.Number.TheVariants.{E302}
use Rattle.plm_token.specs.Names.{normal}
use Rattle.plm_syntax.specs.declared.tree.Position.{Position}
use Rattle.plm_syntax.specs.Terminal.{NameT}
use Rattle.plm_syntax.specs.Tree.{ModuleT, ItemsT, ElementT, VariableT, VariableOf, MemberT, ValueT}
use Rattle.plm_decl.specs.declared.layout.ScalarType.{ScalarType}
use Rattle.plm_decl.specs.declared.names.Region.{Region}
use Rattle.plm_decl.specs.declared.names.Region.TheVariants as region
use Rattle.plm_decl.specs.declared.names.Item.{Item}
use Rattle.plm_decl.specs.declared.names.Names.{Names}
use Rattle.plm_decl.specs.declared.sites.Site.{Site}
use Rattle.plm_decl.specs.declared.sites.Site.TheVariants as site
use Rattle.plm_decl.specs.declared.attributes.Traits.{Traits}
use Rattle.plm_decl.specs.Names.{ObjectR}
use Rattle.plm_decl.specs.Scope.{Frame, frame, meant, found_here, is_external}
use Rattle.plm_decl.specs.Resolver.{Known, note_unless}
use Rattle.plm_decl.specs.Layout.{no_fields}
use Rattle.plm_decl.specs.Shape.{with_member_name, with_member_names, structure_for}
use Rattle.plm_decl.specs.Expressions.{constant_bytes}
use Rattle.plm_decl.specs.Elements.{declared, declared_variables}
use Rattle.plm_decl.specs.Statements.{with_elements, with_items}
use Rattle.plm_decl.specs.Procedures.{parameter_is, parameters_from}
use Rattle.plm_decl.specs.Modules.{faults_of, whole_faults_of}
use Rattle.plm_decl.specs.DeclaredAgain.{names_of_members, second_declarations, declared_again}
use Rattle.plm_decl.specs.Joins.{have_room, known_from, modules_joined}
use Rattle.plm_decl.specs.Values.{bytes_of_datum, values_fit}
use Rattle.plm_decl.specs.Initial.{initial_bytes}
use Rattle.plm_decl.specs.BlockNames.{names_of_items, names_of_elements, names_of_variables, has_name}

-- after some items of a block, some elements of a DECLARE and some names of an element, the next name that is declared is a
-- fault exactly where one of those before it has its normal form
abbrev pub DeclaresOnce : Type 0
DeclaresOnce =
    (path : List ℕ) (external : Bool) (outer : List Frame) (is : ItemsT) (es : List ElementT) (vs : List VariableT) (t : Traits) (s : Site) (k q r known : Known) (n : NameT) (i : Item)
    → (declared n i (declared_variables vs t s (with_elements es (with_items (frame path external ∷ outer) is k).0 q).0 r).1 known).1
    ≡ note_unless (not (has_name (normal n.text) (names_of_items is ++ (names_of_elements es ++ names_of_variables vs)))) E302 n.place known

-- a further parameter of a procedure is a fault exactly where one of those before it has its normal form
abbrev pub ListsOnce : Type 0
ListsOnce =
    (frames : List Frame) (vs : List ℕ) (ns : List NameT) (n : NameT) (k : Known)
    → let r = parameters_from frames [] vs ns k in
    parameters_from frames [] vs (ns ++ n ∷ []) k ≡ parameter_is (found_here (normal n.text) frames) n.place r.0 (note_unless (not (has_name (normal n.text) ns)) E302 n.place r.1)

-- after some members of a structure and some names of one, the next name is a fault exactly where one of those before it has
-- its normal form
abbrev pub MembersOnce : Type 0
MembersOnce =
    (place : Position) (ms : List MemberT) (ns : List NameT) (scalar : ScalarType) (d : Option ℕ) (k q known : Known) (n : NameT)
    → (with_member_name n scalar d (with_member_names ns scalar d (structure_for place ms no_fields k).0 q).0 known).1
    ≡ note_unless (not (has_name (normal n.text) (names_of_members ms ++ ns))) E302 n.place known

-- a program has this fault at no other places: its E302 are those of the names that are declared again, in the order of reading,
-- and the faults of the whole program have none
abbrev pub NothingElseTwice : Type 0
NothingElseTwice = (ms : List ModuleT) → (second_declarations (faults_of ms) ≡ declared_again ms) × (second_declarations (whole_faults_of ms) ≡ [])

-- after some items of a block a name that one of them declares stands for what this block declares
abbrev pub StandsInside : Type 0
StandsInside =
    (path : List ℕ) (external : Bool) (outer : List Frame) (is : ItemsT) (k : Known) (name : List ℕ)
    → has_name name (names_of_items is) ≡ true
    → (meant name (with_items (frame path external ∷ outer) is k).0 ≡ found_here name (with_items (frame path external ∷ outer) is k).0)
    × (is_some (found_here name (with_items (frame path external ∷ outer) is k).0) ≡ true)

-- another name stands for what it stands for around the block
abbrev pub StandsOutside : Type 0
StandsOutside =
    (path : List ℕ) (external : Bool) (outer : List Frame) (is : ItemsT) (k : Known) (name : List ℕ)
    → has_name name (names_of_items is) ≡ false
    → meant name (with_items (frame path external ∷ outer) is k).0 ≡ meant name outer

-- ---- a place in blocks

-- what stands before a place in its block: items, then elements of a DECLARE and names of an element; and what these are read with
pub record Before : Type 0 where
  pub path : List ℕ
  pub external : Bool
  pub items : ItemsT
  pub elements : List ElementT
  pub variables : List VariableT
  pub traits : Traits
  pub site : Site
  pub known : Known
  pub known_at_elements : Known
  pub known_at_variables : Known

abbrev pub names_before : Before → List NameT
names_before b = names_of_items b.items ++ (names_of_elements b.elements ++ names_of_variables b.variables)

-- the scope of a place, from what stands before it in its block and then in each block around
abbrev pub scope_at : List Before → List Frame
scope_at [] = []
scope_at (b ∷ around) =
    let after_items = (with_items (frame b.path b.external ∷ scope_at around) b.items b.known).0 in
    let after_elements = (with_elements b.elements after_items b.known_at_elements).0 in
    (declared_variables b.variables b.traits b.site after_elements b.known_at_variables).1

-- the innermost of these blocks that declares a name before the place, with those around it
abbrev pub declaring : List ℕ → List Before → List Before
declaring name [] = []
declaring name (b ∷ around) = cond (has_name name (names_before b)) (b ∷ around) (declaring name around)

-- a name means what the innermost block that declares it before the place declares
abbrev pub InnermostMeans : Type 0
InnermostMeans = (name : List ℕ) (blocks : List Before) → meant name (scope_at blocks) ≡ found_here name (scope_at (declaring name blocks))

-- and such a block has a declaration of it
abbrev pub DeclaredIsFound : Type 0
DeclaredIsFound =
    (name : List ℕ) (b : Before) (around : List Before)
    → has_name name (names_before b) ≡ true → is_some (found_here name (scope_at (b ∷ around))) ≡ true

-- ---- objects

-- the object of constant bytes has as many bytes as its values fill
abbrev pub ConstantsFill : Type 0
ConstantsFill =
    (frames : List Frame) (place : Position) (vs : List ValueT) (k : Known)
    → (o : ObjectR) × (slice_get (constant_bytes frames place vs k).1.objects (constant_bytes frames place vs k).0 ≡ Some o) × (sum_by bytes_of_datum o.initial ≡ o.size)

-- a name that is not based
abbrev pub has_no_base : VariableT → Bool
has_no_base (VariableOf n None) = true
has_no_base (VariableOf n (Some base)) = false

-- one object for each of these names, in their order
abbrev pub own_regions : ℕ → List VariableT → List Region
own_regions first [] = []
own_regions first (v ∷ vs) = region.Ram first 0 ∷ own_regions (suc first) vs

-- names without AT and base, outside EXTERNAL procedures, have objects of their own, after all that there were
abbrev pub HaveOwnObjects : Type 0
HaveOwnObjects =
    (vs : List VariableT) (t : Traits) (frames : List Frame) (k : Known)
    → is_external frames ≡ false → list_all has_no_base vs ≡ true
    → (map (λ v. v.region) (declared_variables vs t site.Own frames k).2.variables ≡ map (λ v. v.region) k.variables ++ own_regions (length k.objects) vs)
    × ((os : List ObjectR) × ((declared_variables vs t site.Own frames k).2.objects ≡ k.objects ++ os) × (length os ≡ length vs))

-- where RAM has room for the objects of modules, the initial values of each have room in it; modules in a computer's memory have
-- fewer than 2^64 variables
abbrev pub InitialValuesFit : Type 0
InitialValuesFit =
    (ms : List ModuleT) → let k = modules_joined (known_from ms) in
    length k.variables < 2 ^ 64 → have_room k.objects ≡ true → list_all values_fit k.objects ≡ true

-- so wherever a program's objects lie, the initial bytes of each have room in it
abbrev pub InitialBytesFit : Type 0
InitialBytesFit =
    (names : Names) (offsets : List ℕ)
    → All (λ o. length (initial_bytes offsets names.variables.items o.initial.items) ≤ o.size) names.objects.items

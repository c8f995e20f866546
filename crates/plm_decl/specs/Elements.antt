-- Declarations of variables.
use Rattle.std.specs.Prelude.{ℕ, ◌+◌, List, [], ◌∷◌, ◌++◌, length, slice_get, Bool, true, false, not, cond, ◌&&◌, nat_le, is_some, Option, Some, None}
use Rattle.plm_decl.specs.Lists.{variable_list}
use Rattle.std.specs.Option.{option_map_or}
use Rattle.word86.specs.declared.number.Number.TheVariants.{E302, E303, E304}
use Rattle.word86.specs.declared.page.Page.{Page}
use Rattle.word86.specs.Page.{page_size}
use Rattle.plm_token.specs.Names.{normal}
use Rattle.plm_syntax.specs.declared.tree.Position.{Position}
use Rattle.plm_syntax.specs.Terminal.{NameT}
use Rattle.plm_syntax.specs.Tree.{VariableT, VariableOf, DeclaredT, OneVariable, VariableList}
use Rattle.plm_decl.specs.declared.layout.ScalarType.TheVariants.{Byte, Word, Pointer, Integer}
use Rattle.plm_decl.specs.declared.layout.Form.{Form}
use Rattle.plm_decl.specs.declared.layout.Form.TheVariants as form
use Rattle.plm_decl.specs.declared.names.Region.{Region}
use Rattle.plm_decl.specs.declared.names.Region.TheVariants as region
use Rattle.plm_decl.specs.declared.names.Variable.{Variable}
use Rattle.plm_decl.specs.declared.names.Item.{Item}
use Rattle.plm_decl.specs.declared.names.Item.TheVariants as item
use Rattle.plm_decl.specs.declared.resolved.Binding.{Binding}
use Rattle.plm_decl.specs.declared.resolved.Binding.TheVariants as binding
use Rattle.plm_decl.specs.declared.sites.Site.{Site}
use Rattle.plm_decl.specs.declared.sites.Site.TheVariants as site
use Rattle.plm_decl.specs.declared.attributes.Traits.{Traits}
use Rattle.plm_decl.specs.Layout.{counted}
use Rattle.plm_decl.specs.Scope.{Frame, with_name, is_fresh, is_external, path_in}
use Rattle.plm_decl.specs.Spelling.{name_after}
use Rattle.plm_decl.specs.Regions.{size_at}
use Rattle.plm_decl.specs.Resolver.{Known, note, note_unless}
use Rattle.plm_decl.specs.Linkage.{linked}
use Rattle.plm_decl.specs.Uses.{used}
use Rattle.plm_decl.specs.Shape.{size_of_shape}
use Rattle.plm_decl.specs.Sites.{site_after, names_no_place}

-- ---- bases

abbrev pub is_plain_form : Form → Bool
is_plain_form (form.Scalar Byte) = false
is_plain_form (form.Scalar Word) = true
is_plain_form (form.Scalar Pointer) = true
is_plain_form (form.Scalar Integer) = false
is_plain_form (form.Structure n) = false

abbrev pub is_based : Region → Bool
is_based (region.Based v) = true
is_based (region.Ram o n) = false
is_based (region.Screen page n) = false
is_based region.Nowhere = false

-- a plain scalar, WORD or POINTER, that is not itself based
abbrev pub is_plain_base : Variable → Bool
is_plain_base v = not (is_some v.dimension) && (is_plain_form v.form && not (is_based v.region))

-- an undeclared base is no bad one
abbrev pub is_base : Known → Binding → Bool
is_base k (binding.Variable n) = option_map_or is_plain_base (slice_get k.variables n) false
is_base k (binding.Procedure p) = false
is_base k (binding.Builtin b) = false
is_base k binding.Nothing = true

abbrev pub based_region : Binding → Region
based_region (binding.Variable n) = region.Based n
based_region (binding.Procedure p) = region.Nowhere
based_region (binding.Builtin b) = region.Nowhere
based_region binding.Nothing = region.Nowhere

abbrev pub base_for : List Frame → NameT → NameT → Bool → Known → Region × Known
base_for frames n base attributed k =
    let m = used frames base k in
    (based_region m.0, note_unless (is_base m.1 m.0 && not attributed) E304 n.place m.1)

-- ---- regions

abbrev pub own_region : List Frame → List ℕ → ℕ → Known → Region × Known
own_region frames name size k = cond (is_external frames) (region.Nowhere, k)
    (region.Ram (length k.objects) 0, record k { objects = k.objects ++ record { path = name_after (path_in frames) name; size = size; initial = [] } ∷ [] })

-- what an EXTERNAL procedure declares is no name of the program's on the screen
abbrev pub with_screen_name : List Frame → List ℕ → ℕ → Page → ℕ → Known → Known
with_screen_name frames name size page offset k = cond (is_external frames) k
    (record k { screen_names = k.screen_names ++ record { path = name_after (path_in frames) name; size = size; page = page; offset = offset; objects_before = length k.objects } ∷ [] })

-- a name that is not based lies wholly in its object, or in its page of the screen
abbrev pub region_for : List Frame → NameT → List ℕ → ℕ → Site → Known → Region × Known
region_for frames n name size site.Own k = own_region frames name size k
region_for frames n name size site.Nowhere k = (region.Nowhere, k)
region_for frames n name size site.Outside k = (region.Nowhere, note E303 n.place k)
region_for frames n name size (site.Ram object offset) k = (region.Ram object offset, note_unless (nat_le (counted (offset + size)) (size_at k.objects object)) E303 n.place k)
region_for frames n name size (site.Screen page offset) k =
    (region.Screen page offset, with_screen_name frames name size page offset (note_unless (nat_le (counted (offset + size)) page_size) E303 n.place k))

-- ---- declared names

-- a name is declared once in its block
abbrev pub declared : NameT → Item → List Frame → Known → List Frame × Known
declared n i frames k = (with_name (normal n.text) i frames, note_unless (is_fresh (normal n.text) frames) E302 n.place k)

abbrev pub with_variable : Variable → Known → Known
with_variable v k = record k { variables = k.variables ++ v ∷ [] }

abbrev pub variable_in : Traits → Position → Region → Known → Variable
variable_in t place r k = record { «module» = k.module; place = place; form = t.shape.form; dimension = t.shape.dimension; stride = t.shape.stride; region = r; is_data = t.is_data }

-- the region of a name, given in normal form too: its base's, or that of its site
abbrev pub region_at : List Frame → NameT → Option NameT → List ℕ → Traits → Site → Known → Region × Known
region_at frames n (Some base) key t s k = base_for frames n base t.has_attribute k
region_at frames n None key t s k = region_for frames n key (size_of_shape t.shape) s k

abbrev pub region_of_variable : List Frame → NameT → Option NameT → Traits → Site → Known → Region × Known
region_of_variable frames n base t s k = region_at frames n base (normal n.text) t s k

-- a variable is numbered in order of declaration
abbrev pub variable_declared : NameT → Traits → Region × Known → List Frame → List Frame × Known
variable_declared n t r frames =
    let i = item.Variable (length r.1.variables) in
    declared n i frames (linked frames t.linkage (normal n.text) i (with_variable (variable_in t n.place r.0 r.1) r.1))

abbrev pub with_unplaced : Bool → ℕ → Known → Known
with_unplaced unplaced n k = record k { unplaced = cond unplaced (k.unplaced ++ n ∷ []) k.unplaced }

abbrev pub declared_variable : VariableT → Traits → Site → List Frame → Known → List Frame × Known
declared_variable (VariableOf n base) t s frames k =
    let r = variable_declared n t (region_of_variable frames n base t s k) frames in
    (r.0, with_unplaced (names_no_place t.linkage s) (length k.variables) r.1)

-- the names of an element, one after another, and where the next would go
abbrev pub declared_variables : List VariableT → Traits → Site → List Frame → Known → Site × List Frame × Known
declared_variables [] t s frames k = (s, frames, k)
declared_variables (v ∷ vs) t s frames k =
    let r = declared_variable v t s frames k in declared_variables vs t (site_after s (size_of_shape t.shape)) r.0 r.1

-- ---- attributes

abbrev pub declared_list : DeclaredT → List VariableT
declared_list (OneVariable v) = v ∷ []
declared_list (VariableList vs) = variable_list vs

abbrev pub place_of_variable : VariableT → Position
place_of_variable (VariableOf n base) = n.place

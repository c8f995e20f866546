-- Where AT places the names of a declaration.
use Rattle.std.specs.Prelude.{ℕ, ◌+◌, ◌*◌, ◌-◌, List, [], ◌∷◌, ◌++◌, slice_get, Bool, true, false, cond, ◌&&◌, nat_eq, nat_le, nat_lt, is_some, Option, Some, None}
use Rattle.plm_decl.specs.Lists.{bind}
use Rattle.std.specs.List.{list_any}
use Rattle.word86.specs.declared.page.Page.{Page}
use Rattle.word86.specs.declared.page.Page.TheVariants.{Monochrome, Colour}
use Rattle.word86.specs.Page.{page_at, page_size}
use Rattle.plm_syntax.specs.declared.tree.Linkage.{Linkage}
use Rattle.plm_syntax.specs.declared.tree.Linkage.TheVariants as linkage
use Rattle.plm_syntax.specs.Tree.{AtT, no_at, at_number, at_location, AttributesT, External, Attributes, LocationT}
use Rattle.plm_syntax.specs.Tree as tree
use Rattle.plm_decl.specs.declared.layout.Form.{Form}
use Rattle.plm_decl.specs.declared.layout.Form.TheVariants as form
use Rattle.plm_decl.specs.declared.names.Region.{Region}
use Rattle.plm_decl.specs.declared.names.Region.TheVariants as region
use Rattle.plm_decl.specs.declared.names.Variable.{Variable}
use Rattle.plm_decl.specs.declared.resolved.Binding.TheVariants as binding
use Rattle.plm_decl.specs.declared.sites.Site.{Site}
use Rattle.plm_decl.specs.declared.sites.Site.TheVariants as site
use Rattle.plm_decl.specs.Layout.{counted, size_of}
use Rattle.plm_decl.specs.Scope.{Frame}
use Rattle.plm_decl.specs.Resolver.{Known}
use Rattle.plm_decl.specs.Resolved.{ExpressionR, NumberR, TextR, ReferenceR, LocationR, ParenthesisedR, EmbeddedR, UnaryR, BinaryR, ExpressionsR, no_expressions, expressions, SelectorR, no_member, member, member_at, ReferenceR', Use, LocationOf}
use Rattle.plm_decl.specs.Expressions.{variable_meant, reference}

-- ---- where a location with number subscripts lies

abbrev pub number_in : ExpressionR → Option ℕ
number_in (NumberR n) = Some n.value
number_in (TextR p s) = None
number_in (ReferenceR x) = None
number_in (LocationR l) = None
number_in (ParenthesisedR p e) = None
number_in (EmbeddedR p x e) = None
number_in (UnaryR p o e) = None
number_in (BinaryR p o a b) = None

abbrev pub are_numbers : ExpressionsR → Bool
are_numbers no_expressions = true
are_numbers (expressions e es) = is_some (number_in e) && are_numbers es

-- the first of some subscripts, all of which are numbers; 0 where there is none
abbrev pub first_number : ExpressionsR → Option ℕ
first_number no_expressions = Some 0
first_number (expressions e es) = cond (are_numbers es) (number_in e) None

abbrev pub member_distance : SelectorR → Option ℕ
member_distance no_member = Some 0
member_distance (member p None) = Some 0
member_distance (member p (Some m)) = Some m.offset
member_distance (member_at p None e) = bind (number_in e) (λ n. Some 0)
member_distance (member_at p (Some m) e) = bind (number_in e) (λ n. Some (counted (m.offset + counted (n * size_of m.scalar))))

-- how many bytes after the first of its variable a reference lies
abbrev pub distance : Known → ReferenceR' → Option ℕ
distance k (Use p m es s) =
    bind (variable_meant k m) (λ v. bind (first_number es) (λ n. bind (member_distance s) (λ d. Some (counted (counted (n * v.stride) + d)))))

-- ---- AT

-- the next name of an element stands after this one
abbrev pub site_after : Site → ℕ → Site
site_after (site.Ram object offset) size = site.Ram object (counted (offset + size))
site_after (site.Screen page offset) size = site.Screen page (counted (offset + size))
site_after site.Own size = site.Own
site_after site.Nowhere size = site.Nowhere
site_after site.Outside size = site.Outside

abbrev pub site_within : Region → Option ℕ → Site
site_within (region.Ram object offset) (Some d) = site.Ram object (counted (offset + d))
site_within (region.Ram object offset) None = site.Outside
site_within (region.Screen page offset) d = site.Outside
site_within (region.Based v) d = site.Outside
site_within region.Nowhere d = site.Outside

abbrev pub are_none : ExpressionsR → Bool
are_none no_expressions = true
are_none (expressions e es) = false

-- an array takes one subscript, which may be missing here
abbrev pub takes_subscripts : Option ℕ → ExpressionsR → Bool
takes_subscripts d no_expressions = true
takes_subscripts d (expressions e es) = is_some d && are_none es

-- a structure takes one of its members, which may be missing here
abbrev pub takes_member : Form → SelectorR → Bool
takes_member f no_member = true
takes_member (form.Scalar s) (member p m) = false
takes_member (form.Scalar s) (member_at p m e) = false
takes_member (form.Structure n) (member p m) = is_some m
takes_member (form.Structure n) (member_at p None e) = false
takes_member (form.Structure n) (member_at p (Some m) e) = is_some m.dimension

abbrev pub has_shape : Variable → ExpressionsR → SelectorR → Bool
has_shape v es s = takes_subscripts v.dimension es && takes_member v.form s

-- whether AT of this variable names no place
abbrev pub is_unplaced : Known → ℕ → Bool
is_unplaced k n = list_any (λ m. nat_eq m n) k.unplaced

-- in a variable whose AT names no place there is none either, as far as subscripts are numbers
abbrev pub unplaced_site : Option ℕ → Site
unplaced_site (Some d) = site.Nowhere
unplaced_site None = site.Outside

abbrev pub variable_site : Bool → Option Variable → ExpressionsR → SelectorR → Option ℕ → Site
variable_site unplaced None es s d = site.Outside
variable_site unplaced (Some v) es s d = cond (has_shape v es s) (cond unplaced (unplaced_site d) (site_within v.region d)) site.Nowhere

-- AT a variable: into the RAM object in which it lies, if it is not based and not EXTERNAL, and subscripts are numbers.
-- A reference that names nothing, or is not of its variable's shape, is a fault of its own and places nothing; nor does a
-- reference to a variable that is placed so.
abbrev pub site_of : Known → ReferenceR' → Site
site_of k (Use p (binding.Variable n) es s) = variable_site (is_unplaced k n) (slice_get k.variables n) es s (distance k (Use p (binding.Variable n) es s))
site_of k (Use p (binding.Procedure q) es s) = site.Outside
site_of k (Use p (binding.Builtin b) es s) = site.Outside
site_of k (Use p binding.Nothing es s) = site.Nowhere

-- a number is the address of a byte of this page
abbrev pub is_in_page : Page → ℕ → Bool
is_in_page page n = nat_le (page_at page) n && nat_lt (n - page_at page) page_size

abbrev pub page_site : Page → ℕ → Site → Site
page_site page n other = cond (is_in_page page n) (site.Screen page (n - page_at page)) other

-- AT of a number: onto the byte of a page that has this address
abbrev pub screen_site : ℕ → Site
screen_site n =
    page_site Monochrome n (
    page_site Colour n
    site.Outside)

abbrev pub location_site : List Frame → LocationT → Known → Site × Known
location_site frames (tree.ConstantsOf p f vs) k = (site.Outside, k)
location_site frames (tree.LocationOf p f x) k =
    let r = reference frames x k in
    (site_of r.1 r.0, record r.1 { locations = r.1.locations ++ record { «module» = r.1.module; location = LocationOf p f r.0 } ∷ [] })

abbrev pub at_site : List Frame → AtT → Known → Site × Known
at_site frames no_at k = (site.Own, k)
at_site frames (at_number n) k = (screen_site n.value, k)
at_site frames (at_location l) k = location_site frames l k

-- where an element's first name goes
abbrev pub first_site : List Frame → AttributesT → Known → Site × Known
first_site frames External k = (site.Nowhere, k)
first_site frames (Attributes public at fill) k = at_site frames at k

abbrev pub is_nowhere : Site → Bool
is_nowhere site.Own = false
is_nowhere (site.Ram object offset) = false
is_nowhere (site.Screen page offset) = false
is_nowhere site.Nowhere = true
is_nowhere site.Outside = false

-- an EXTERNAL name goes nowhere too, without AT
abbrev pub names_no_place : Linkage → Site → Bool
names_no_place linkage.None s = is_nowhere s
names_no_place linkage.Public s = is_nowhere s
names_no_place linkage.External s = false

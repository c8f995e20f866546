-- Where the names of an element with AT lie: the first one where its location says, each other one behind the one before it.
use Rattle.std.specs.Prelude.{◌≡◌, ℕ, ◌+◌, ◌*◌, ◌<◌, List, [], ◌∷◌, ◌++◌, map, length, slice_get, Bool, true, false, Some}
use Rattle.std.specs.List.{list_all}
use Rattle.word86.specs.declared.page.Page.{Page}
use Rattle.word86.specs.Page.{page_at, page_size}
use Rattle.plm_syntax.specs.declared.tree.Position.{Position}
use Rattle.plm_syntax.specs.Tree.{VariableT, DimensionT, TypeT, AtT, no_at, at_number, at_location, InitialT, Attributes}
use Rattle.plm_decl.specs.declared.names.Region.{Region}
use Rattle.plm_decl.specs.declared.names.Region.TheVariants as region
use Rattle.plm_decl.specs.declared.names.Variable.{Variable}
use Rattle.plm_decl.specs.declared.resolved.Binding.TheVariants as binding
use Rattle.plm_decl.specs.declared.sites.Site.{Site}
use Rattle.plm_decl.specs.declared.sites.Site.TheVariants as site
use Rattle.plm_decl.specs.Layout.{counted}
use Rattle.plm_decl.specs.Scope.{Frame}
use Rattle.plm_decl.specs.Resolver.{Known}
use Rattle.plm_decl.specs.Resolved.{ExpressionsR, SelectorR, Use}
use Rattle.plm_decl.specs.Shape.{size_of_shape, shape_for}
use Rattle.plm_decl.specs.Sites.{first_number, member_distance, is_unplaced, has_shape, site_of, screen_site, at_site}
use Rattle.plm_decl.specs.Attributes.{element_values}
use Rattle.plm_decl.specs.Fill.{declared_at}
use Rattle.plm_decl.specs.Laws.{has_no_base}

abbrev pub regions_of : List Variable → List Region
regions_of vs = map (λ v. v.region) vs

-- where what begins behind so many bytes lies
abbrev pub behind : Region → ℕ → Region
behind (region.Ram object offset) bytes = region.Ram object (counted (offset + bytes))
behind (region.Screen page offset) bytes = region.Screen page (counted (offset + bytes))
behind (region.Based v) bytes = region.Based v
behind region.Nowhere bytes = region.Nowhere

-- names of one size from a place on, each behind the one before it
abbrev pub one_behind_the_other : Region → (size : ℕ) → List VariableT → List Region
one_behind_the_other here size [] = []
one_behind_the_other here size (v ∷ vs) = here ∷ one_behind_the_other (behind here size) size vs

abbrev pub place_at : Site → Region
place_at (site.Ram object offset) = region.Ram object offset
place_at (site.Screen page offset) = region.Screen page offset
place_at site.Own = region.Nowhere
place_at site.Nowhere = region.Nowhere
place_at site.Outside = region.Nowhere

abbrev pub HasAt : AtT → Type 0
HasAt no_at = ⊥
HasAt (at_number n) = Unit {0}
HasAt (at_location l) = Unit {0}

-- AT of a number names the byte of a page that has this address
abbrev pub NumberIsOnTheScreen : Type 0
NumberIsOnTheScreen = (page : Page) (offset : ℕ) → offset < page_size → place_at (screen_site (page_at page + offset)) ≡ region.Screen page offset

-- a number that is the address of no byte of a page, as those before the pages and between them, names no place
abbrev pub NumberIsOutside : Type 0
NumberIsOutside = (n : ℕ) → ((page : Page) (offset : ℕ) → offset < page_size → ¬ (n ≡ page_at page + offset)) → screen_site n ≡ site.Outside

-- AT of a variable names the first of the variable's bytes in its object, further on by the elements before the one of its subscript, and
-- by the bytes before its member
abbrev pub LocationIsInItsVariable : Type 0
LocationIsInItsVariable =
    (k : Known) (p : Position) (n : ℕ) (v : Variable) (es : ExpressionsR) (s : SelectorR) (object offset element member : ℕ)
    → slice_get k.variables n ≡ Some v → v.region ≡ region.Ram object offset → has_shape v es s ≡ true → is_unplaced k n ≡ false
    → first_number es ≡ Some element → member_distance s ≡ Some member
    → place_at (site_of k (Use p (binding.Variable n) es s)) ≡ behind v.region (counted (counted (element * v.stride) + member))

-- the names of an element with AT lie there, one behind the other
abbrev pub NamesLieAtTheirLocation : Type 0
NamesLieAtTheirLocation =
    (p : Position) (vs : List VariableT) (d : DimensionT) (t : TypeT) (public : Bool) (at : AtT) (fill : InitialT) (frames : List Frame) (k : Known)
    → HasAt at → list_all has_no_base vs ≡ true
    → let a = Attributes public at fill in
    let located = at_site frames at k in
    let size = size_of_shape (shape_for p (length vs) d t (element_values a) located.1).0 in
    regions_of (declared_at p vs d t a frames k).1.variables ≡ regions_of k.variables ++ one_behind_the_other (place_at located.0) size vs

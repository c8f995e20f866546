-- Names of an element with AT lie where its location says.
use Rattle.std.proofs.Common.{◌≡◌, ℕ, ◌+◌, ◌-◌, ◌*◌, ◌<◌, ◌≤◌, List, [], ◌∷◌, ◌++◌, length, Bool, true, false, ◌&&◌, cond, Option, Some, None, refl, sym, ap, subst, ◌∙◌, append_assoc, true≢false, nat_le, nat_lt, arith}
use Rattle.std.proofs.lemmas.Bool.{and_parts, and_right}
use Rattle.std.specs.Prelude.{slice_get}
use Rattle.std.specs.List.{list_all}
use Rattle.std.proofs.lemmas.List.{append-nil, map-append}
use Rattle.std.proofs.lemmas.Bool.Decides.{nat_tests}
use Rattle.word86.specs.declared.number.Number.TheVariants.{E302, E303}
use Rattle.word86.specs.declared.page.Page.{Page}
use Rattle.word86.specs.declared.page.Page.TheVariants.{Monochrome, Colour}
use Rattle.word86.specs.Page.{page_at, page_size}
use Rattle.plm_token.specs.Names.{normal}
use Rattle.plm_syntax.specs.declared.tree.Position.{Position}
use Rattle.plm_syntax.specs.declared.tree.Linkage.{Linkage}
use Rattle.plm_syntax.specs.declared.tree.Linkage.TheVariants as linkage
use Rattle.plm_syntax.specs.Terminal.{NameT}
use Rattle.plm_syntax.specs.Tree.{VariableT, VariableOf, DimensionT, TypeT, AtT, no_at, at_number, at_location, InitialT, Attributes}
use Rattle.plm_syntax.specs.Tree as tree
use Rattle.plm_decl.specs.declared.names.Region.{Region}
use Rattle.plm_decl.specs.declared.names.Region.TheVariants as region
use Rattle.plm_decl.specs.declared.names.Variable.{Variable}
use Rattle.plm_decl.specs.declared.names.Item.{Item}
use Rattle.plm_decl.specs.declared.names.Item.TheVariants as item
use Rattle.plm_decl.specs.declared.resolved.Binding.TheVariants as binding
use Rattle.plm_decl.specs.declared.sites.Site.{Site}
use Rattle.plm_decl.specs.declared.sites.Site.TheVariants as site
use Rattle.plm_decl.specs.declared.attributes.Traits.{Traits}
use Rattle.plm_decl.specs.Layout.{counted}
use Rattle.plm_decl.specs.Scope.{Frame, is_external, is_fresh, found_in}
use Rattle.plm_decl.specs.Resolver.{Known, note_unless}
use Rattle.plm_decl.specs.Resolved.{ExpressionsR, SelectorR, ReferenceR', Use}
use Rattle.plm_decl.specs.Lists.{bind}
use Rattle.plm_decl.specs.Expressions.{reference}
use Rattle.plm_decl.specs.Shape.{size_of_shape, shape_for}
use Rattle.plm_decl.specs.Sites.{first_number, member_distance, distance, is_unplaced, has_shape, unplaced_site, site_within, variable_site, site_of, site_after, is_in_page, page_site, screen_site, at_site}
use Rattle.plm_decl.specs.Attributes.{element_values, traits_for}
use Rattle.plm_decl.specs.Linkage.{with_public, linked}
use Rattle.plm_decl.specs.Elements.{region_for, with_variable, variable_in, declared_variable, declared_variables}
use Rattle.plm_decl.specs.Fill.{declared_at}
use Rattle.plm_decl.specs.Laws.{has_no_base}
use Rattle.plm_decl.specs.PlacedNames.{regions_of, behind, one_behind_the_other, place_at, HasAt}
use Rattle.plm_decl.proofs.Kept.{both}
use Rattle.plm_decl.proofs.OwnNames.{at_still, shape_still, filled_still}

-- ---- where a location leads

abbrev IsElsewhere : Site → Type 0
IsElsewhere site.Own = ⊥
IsElsewhere (site.Ram object offset) = Unit {0}
IsElsewhere (site.Screen page offset) = Unit {0}
IsElsewhere site.Nowhere = Unit {0}
IsElsewhere site.Outside = Unit {0}

either_elsewhere : (b : Bool) (s t : Site) → IsElsewhere s → IsElsewhere t → IsElsewhere (cond b s t)
either_elsewhere true s t h g = h
either_elsewhere false s t h g = g

unplaced_elsewhere : (d : Option ℕ) → IsElsewhere (unplaced_site d)
unplaced_elsewhere (Some d) = tt
unplaced_elsewhere None = tt

within_elsewhere : (r : Region) (d : Option ℕ) → IsElsewhere (site_within r d)
within_elsewhere (region.Ram object offset) (Some d) = tt
within_elsewhere (region.Ram object offset) None = tt
within_elsewhere (region.Screen page offset) d = tt
within_elsewhere (region.Based v) d = tt
within_elsewhere region.Nowhere d = tt

variable_elsewhere : (b : Bool) (v : Option Variable) (es : ExpressionsR) (s : SelectorR) (d : Option ℕ) → IsElsewhere (variable_site b v es s d)
variable_elsewhere b None es s d = tt
variable_elsewhere b (Some v) es s d = either_elsewhere (has_shape v es s) _ site.Nowhere (either_elsewhere b _ _ (unplaced_elsewhere d) (within_elsewhere v.region d)) tt

reference_elsewhere : (k : Known) (r : ReferenceR') → IsElsewhere (site_of k r)
reference_elsewhere k (Use p (binding.Variable n) es s) = variable_elsewhere (is_unplaced k n) (slice_get k.variables n) es s (distance k (Use p (binding.Variable n) es s))
reference_elsewhere k (Use p (binding.Procedure q) es s) = tt
reference_elsewhere k (Use p (binding.Builtin b) es s) = tt
reference_elsewhere k (Use p binding.Nothing es s) = tt

number_elsewhere : (n : ℕ) → IsElsewhere (screen_site n)
number_elsewhere n =
    either_elsewhere (is_in_page Monochrome n) (site.Screen Monochrome (n - page_at Monochrome)) (page_site Colour n site.Outside) tt (
    either_elsewhere (is_in_page Colour n) (site.Screen Colour (n - page_at Colour)) site.Outside tt
    tt)

at_elsewhere : (frames : List Frame) (at : AtT) (k : Known) → HasAt at → IsElsewhere (at_site frames at k).0
at_elsewhere frames no_at k h = absurd h
at_elsewhere frames (at_number n) k h = number_elsewhere n.value
at_elsewhere frames (at_location (tree.ConstantsOf p f vs)) k h = tt
at_elsewhere frames (at_location (tree.LocationOf p f x)) k h = let r = reference frames x k in reference_elsewhere r.1 r.0

-- ---- the pages of the screen

is_there : (begins size offset : ℕ) → offset < size → (nat_le begins (begins + offset) && nat_lt (begins + offset - begins) size) ≡ true
is_there begins size offset h = both (here begins offset) (below begins size offset h)
  where
    here : (begins offset : ℕ) → nat_le begins (begins + offset) ≡ true
    here begins offset = grind (arith, nat_tests)

    below : (begins size offset : ℕ) → offset < size → nat_lt (begins + offset - begins) size ≡ true
    below begins size offset h = grind (arith, nat_tests)

is_behind : (begins size n : ℕ) → begins + size ≤ n → (nat_le begins n && nat_lt (n - begins) size) ≡ false
is_behind begins size n h = and_right (nat_le begins n) (nat_lt (n - begins) size) (past begins size n h)
  where
    past : (begins size n : ℕ) → begins + size ≤ n → nat_lt (n - begins) size ≡ false
    past begins size n h = grind (arith, nat_tests)

taken : (b : Bool) (page : Page) (n offset : ℕ) (other : Site) → b ≡ true → n ≡ offset → place_at (cond b (site.Screen page n) other) ≡ region.Screen page offset
taken true page n offset other h e = ap (λ (i : ℕ). region.Screen page i) e
taken false page n offset other h e = absurd (true≢false (sym h))

passed : (b : Bool) (s other : Site) → b ≡ false → cond b s other ≡ other
passed true s other h = absurd (true≢false h)
passed false s other h = refl

back : (begins offset : ℕ) → begins + offset - begins ≡ offset
back begins offset = omega arith

pub on_the_screen : (page : Page) (offset : ℕ) → offset < page_size → place_at (screen_site (page_at page + offset)) ≡ region.Screen page offset
on_the_screen Monochrome offset h =
    let n = page_at Monochrome + offset in
    taken (is_in_page Monochrome n) Monochrome (n - page_at Monochrome) offset (page_site Colour n site.Outside) (is_there (page_at Monochrome) page_size offset h) (back (page_at Monochrome) offset)
on_the_screen Colour offset h =
    let n = page_at Colour + offset in
    ap place_at (passed (is_in_page Monochrome n) (site.Screen Monochrome (n - page_at Monochrome)) (page_site Colour n site.Outside) (is_behind (page_at Monochrome) page_size n (omega arith)))
    ∙ taken (is_in_page Colour n) Colour (n - page_at Colour) offset site.Outside (is_there (page_at Colour) page_size offset h) (back (page_at Colour) offset)

-- it is in no page that has no byte there
none_there : (begins size n : ℕ) → ((offset : ℕ) → offset < size → ¬ (n ≡ begins + offset)) → (nat_le begins n && nat_lt (n - begins) size) ≡ false
none_there begins size n none = decide (nat_le begins n && nat_lt (n - begins) size) refl
  where
    below : (m : ℕ) → nat_lt m size ≡ true → m < size
    below m e = grind (arith, nat_tests)

    again : nat_le begins n ≡ true → n ≡ begins + (n - begins)
    again e = grind (arith, nat_tests)

    decide : (b : Bool) → (nat_le begins n && nat_lt (n - begins) size) ≡ b → (nat_le begins n && nat_lt (n - begins) size) ≡ false
    decide false e = e
    decide true e = absurd (none (n - begins) (below (n - begins) (and_parts (nat_le begins n) (nat_lt (n - begins) size) e).1) (again (and_parts (nat_le begins n) (nat_lt (n - begins) size) e).0))

pub outside_the_screen : (n : ℕ) → ((page : Page) (offset : ℕ) → offset < page_size → ¬ (n ≡ page_at page + offset)) → screen_site n ≡ site.Outside
outside_the_screen n none =
    passed (is_in_page Monochrome n) (site.Screen Monochrome (n - page_at Monochrome)) (page_site Colour n site.Outside) (none_there (page_at Monochrome) page_size n (none Monochrome))
    ∙ passed (is_in_page Colour n) (site.Screen Colour (n - page_at Colour)) site.Outside (none_there (page_at Colour) page_size n (none Colour))

-- how far a reference lies behind its variable's first byte
distance_is : (o : Option Variable) (v : Variable) (a b : Option ℕ) (element member : ℕ) → o ≡ Some v → a ≡ Some element → b ≡ Some member
    → bind o (λ v. bind a (λ n. bind b (λ d. Some (counted (counted (n * v.stride) + d))))) ≡ Some (counted (counted (element * v.stride) + member))
distance_is o v a b element member e f g =
    ap (λ (o : Option Variable). bind o (λ v. bind a (λ n. bind b (λ d. Some (counted (counted (n * v.stride) + d)))))) e
    ∙ ap (λ (a : Option ℕ). bind a (λ n. bind b (λ d. Some (counted (counted (n * v.stride) + d))))) f
    ∙ ap (λ (b : Option ℕ). bind b (λ d. Some (counted (counted (element * v.stride) + d)))) g

within_is : (r : Region) (object offset d : ℕ) → r ≡ region.Ram object offset → place_at (site_within r (Some d)) ≡ behind r d
within_is r object offset d e = subst (λ (x : Region). place_at (site_within x (Some d)) ≡ behind x d) (sym e) refl

placed_is : (unplaced shaped : Bool) (r : Region) (d : ℕ) → shaped ≡ true → unplaced ≡ false → place_at (cond shaped (cond unplaced (unplaced_site (Some d)) (site_within r (Some d))) site.Nowhere) ≡ place_at (site_within r (Some d))
placed_is unplaced true r d h e = ap (λ (b : Bool). place_at (cond b (unplaced_site (Some d)) (site_within r (Some d)))) e
placed_is unplaced false r d h e = absurd (true≢false (sym h))

pub in_its_variable : (k : Known) (p : Position) (n : ℕ) (v : Variable) (es : ExpressionsR) (s : SelectorR) (object offset element member : ℕ)
    → slice_get k.variables n ≡ Some v → v.region ≡ region.Ram object offset → has_shape v es s ≡ true → is_unplaced k n ≡ false
    → first_number es ≡ Some element → member_distance s ≡ Some member
    → place_at (site_of k (Use p (binding.Variable n) es s)) ≡ behind v.region (counted (counted (element * v.stride) + member))
in_its_variable k p n v es s object offset element member got lies shaped placed first second =
    let d = counted (counted (element * v.stride) + member) in
    ap (λ (o : Option Variable). place_at (variable_site (is_unplaced k n) o es s (distance k (Use p (binding.Variable n) es s)))) got
    ∙ ap (λ (o : Option ℕ). place_at (variable_site (is_unplaced k n) (Some v) es s o)) (distance_is (slice_get k.variables n) v (first_number es) (member_distance s) element member got first second)
    ∙ placed_is (is_unplaced k n) (has_shape v es s) v.region d shaped placed
    ∙ within_is v.region object offset d lies

-- ---- one name

noted : (b : Bool) (p : Position) (k : Known) → (note_unless b E302 p k).variables ≡ k.variables
noted true p k = refl
noted false p k = refl

misplaced : (b : Bool) (p : Position) (k : Known) → (note_unless b E303 p k).variables ≡ k.variables
misplaced true p k = refl
misplaced false p k = refl

unless_kept : (b : Bool) (k q : Known) → q.variables ≡ k.variables → (cond b k q).variables ≡ k.variables
unless_kept true k q h = refl
unless_kept false k q h = h

public_kept : (name : List ℕ) (i : Item) (o : Option Item) (k : Known) → (with_public name i o k).variables ≡ k.variables
public_kept name i None k = refl
public_kept name i (Some first) k = refl

linked_kept : (frames : List Frame) (l : Linkage) (name : List ℕ) (i : Item) (k : Known) → (linked frames l name i k).variables ≡ k.variables
linked_kept frames linkage.None name i k = refl
linked_kept frames linkage.Public name i k = unless_kept (is_external frames) k _ (public_kept name i (found_in name k.publics) k)
linked_kept frames linkage.External name i k = unless_kept (is_external frames) k _ refl

region_is : (frames : List Frame) (n : NameT) (name : List ℕ) (size : ℕ) (s : Site) (k : Known) → IsElsewhere s
    → ((region_for frames n name size s k).0 ≡ place_at s) × ((region_for frames n name size s k).1.variables ≡ k.variables)
region_is frames n name size site.Own k h = absurd h
region_is frames n name size site.Nowhere k h = (refl, refl)
region_is frames n name size site.Outside k h = (refl, refl)
region_is frames n name size (site.Ram object offset) k h = (refl, misplaced _ n.place k)
region_is frames n name size (site.Screen page offset) k h = (refl, unless_kept (is_external frames) _ _ refl ∙ misplaced _ n.place k)

one_lies : (n : NameT) (t : Traits) (s : Site) (frames : List Frame) (k : Known) → IsElsewhere s
    → regions_of (declared_variable (VariableOf n None) t s frames k).1.variables ≡ regions_of k.variables ++ place_at s ∷ []
one_lies n t s frames k h =
    let r = region_for frames n (normal n.text) (size_of_shape t.shape) s k in
    let is = region_is frames n (normal n.text) (size_of_shape t.shape) s k h in
    let v = variable_in t n.place r.0 r.1 in
    let q = with_variable v r.1 in
    let i = item.Variable (length r.1.variables) in
    ap regions_of (noted (is_fresh (normal n.text) frames) n.place (linked frames t.linkage (normal n.text) i q) ∙ linked_kept frames t.linkage (normal n.text) i q)
    ∙ map-append (λ (x : Variable). x.region) r.1.variables (v ∷ [])
    ∙ ap (λ (vs : List Variable). regions_of vs ++ r.0 ∷ []) is.1
    ∙ ap (λ (x : Region). regions_of k.variables ++ x ∷ []) is.0

-- ---- the names of an element

after_elsewhere : (s : Site) (size : ℕ) → IsElsewhere s → IsElsewhere (site_after s size)
after_elsewhere site.Own size h = h
after_elsewhere (site.Ram object offset) size h = tt
after_elsewhere (site.Screen page offset) size h = tt
after_elsewhere site.Nowhere size h = tt
after_elsewhere site.Outside size h = tt

after_is : (s : Site) (size : ℕ) → place_at (site_after s size) ≡ behind (place_at s) size
after_is site.Own size = refl
after_is (site.Ram object offset) size = refl
after_is (site.Screen page offset) size = refl
after_is site.Nowhere size = refl
after_is site.Outside size = refl

all_lie : (vs : List VariableT) (t : Traits) (s : Site) (frames : List Frame) (k : Known) → IsElsewhere s → list_all has_no_base vs ≡ true
    → regions_of (declared_variables vs t s frames k).2.variables ≡ regions_of k.variables ++ one_behind_the_other (place_at s) (size_of_shape t.shape) vs
all_lie [] t s frames k h bare = sym (append-nil (regions_of k.variables))
all_lie (VariableOf n (Some base) ∷ vs) t s frames k h bare = absurd (true≢false (sym bare))
all_lie (VariableOf n None ∷ vs) t s frames k h bare =
    let size = size_of_shape t.shape in
    let r = declared_variable (VariableOf n None) t s frames k in
    all_lie vs t (site_after s size) r.0 r.1 (after_elsewhere s size h) bare
    ∙ ap (λ (xs : List Region). xs ++ one_behind_the_other (place_at (site_after s size)) size vs) (one_lies n t s frames k h)
    ∙ append_assoc (regions_of k.variables) (place_at s ∷ []) (one_behind_the_other (place_at (site_after s size)) size vs)
    ∙ ap (λ (x : Region). regions_of k.variables ++ place_at s ∷ one_behind_the_other x size vs) (after_is s size)

pub at_their_location : (p : Position) (vs : List VariableT) (d : DimensionT) (t : TypeT) (public : Bool) (at : AtT) (fill : InitialT) (frames : List Frame) (k : Known)
    → HasAt at → list_all has_no_base vs ≡ true
    → let a = Attributes public at fill in
    let located = at_site frames at k in
    let size = size_of_shape (shape_for p (length vs) d t (element_values a) located.1).0 in
    regions_of (declared_at p vs d t a frames k).1.variables ≡ regions_of k.variables ++ one_behind_the_other (place_at located.0) size vs
at_their_location p vs d t public at fill frames k has bare =
    let a = Attributes public at fill in
    let s = at_site frames at k in
    let h = shape_for p (length vs) d t (element_values a) s.1 in
    let r = declared_variables vs (traits_for h.0 a) s.0 frames h.1 in
    let first = at_still frames at k in
    let shape = shape_still p (length vs) d t (element_values a) s.1 in
    let filled = filled_still (record { names = vs; shape = h.0; number = length h.1.variables }) p a r.1 r.2 in
    ap regions_of filled.variables
    ∙ all_lie vs (traits_for h.0 a) s.0 frames h.1 (at_elsewhere frames at k has) bare
    ∙ ap (λ (xs : List Variable). regions_of xs ++ one_behind_the_other (place_at s.0) (size_of_shape h.0) vs) (shape.variables ∙ first.variables)

-- Declared variables are within the final counts.
use Rattle.std.proofs.Common.{◌≡◌, ℕ, ◌+◌, ◌-◌, List, [], ◌∷◌, ◌++◌, length, Bool, true, false, cond, Option, Some, None, nat_lt, nat_le, refl, ap, ◌∙◌}
use Rattle.std.proofs.lemmas.Bool.{and_parts}
use Rattle.std.specs.Prelude.{slice_get}
use Rattle.word86.specs.declared.number.Number.TheVariants.{E302, E303, E304}
use Rattle.word86.specs.declared.page.Page.{Page}
use Rattle.word86.specs.declared.page.Page.TheVariants.{Monochrome, Colour}
use Rattle.word86.specs.Page.{page_at, page_size}
use Rattle.plm_token.specs.Names.{normal}
use Rattle.plm_syntax.specs.declared.tree.Linkage.{Linkage}
use Rattle.plm_syntax.specs.declared.tree.Linkage.TheVariants as linkage
use Rattle.plm_syntax.specs.Terminal.{NameT}
use Rattle.plm_syntax.specs.Tree.{VariableT, VariableOf, AtT, no_at, at_number, at_location, AttributesT, External, Attributes, LocationT}
use Rattle.plm_syntax.specs.Tree as tree
use Rattle.plm_decl.specs.declared.names.Region.{Region}
use Rattle.plm_decl.specs.declared.names.Region.TheVariants as region
use Rattle.plm_decl.specs.declared.names.Variable.{Variable}
use Rattle.plm_decl.specs.declared.names.Item.{Item}
use Rattle.plm_decl.specs.declared.names.Item.TheVariants as item
use Rattle.plm_decl.specs.declared.resolved.Binding.{Binding}
use Rattle.plm_decl.specs.declared.resolved.Binding.TheVariants as binding
use Rattle.plm_decl.specs.declared.sites.Site.{Site}
use Rattle.plm_decl.specs.declared.sites.Site.TheVariants as site
use Rattle.plm_decl.specs.declared.attributes.Traits.{Traits}
use Rattle.plm_decl.specs.Layout.{counted}
use Rattle.plm_decl.specs.Spelling.{name_after}
use Rattle.plm_decl.specs.Scope.{Frame, path_in, is_external, is_fresh, found_in}
use Rattle.plm_decl.specs.Resolver.{Known, note_unless}
use Rattle.plm_decl.specs.Uses.{used}
use Rattle.plm_decl.specs.Resolved.{ReferenceR', Use, ExpressionsR, SelectorR}
use Rattle.plm_decl.specs.Expressions.{reference}
use Rattle.plm_decl.specs.Shape.{size_of_shape}
use Rattle.plm_decl.specs.Sites.{site_after, site_within, has_shape, is_unplaced, unplaced_site, variable_site, site_of, is_in_page, page_site, screen_site, location_site, at_site, first_site}
use Rattle.plm_decl.specs.Linkage.{with_public, with_external, linked}
use Rattle.plm_decl.specs.Elements.{based_region, base_for, with_screen_name, region_for, declared, with_variable, variable_in, region_of_variable, variable_declared, declared_variable, declared_variables}
use Rattle.plm_decl.specs.Ranges.{Counts, form_within, region_within, variable_within, binding_within}
use Rattle.plm_decl.specs.Inner.Ranges.{Within, item_within}
use Rattle.plm_decl.specs.Names.{ObjectR}
use Rattle.plm_decl.specs.Regions.{size_at}
use Rattle.plm_decl.specs.Inner.Regions.{counted_holds, lies_in}
use Rattle.plm_decl.proofs.Lying.{pushed_lie, last_lies, noted_objects}
use Rattle.plm_decl.proofs.Kept.{Ends, Kept, Reads, reads, kept, kept_then, both, frames_within, note_kept, note_unless_kept, note_unless_holds, all_pushed, maybe, got, unless_kept, pushed_below, pushed_most}
use Rattle.plm_decl.proofs.RangesNames.{used_kept, used_within, with_entry_within, with_name_within}
use Rattle.plm_decl.proofs.RangesExpressions.{reference_kept, reference_is_within}

-- ---- AT

abbrev pub site_is_within : Counts → Site → Bool
site_is_within c site.Own = true
site_is_within c (site.Ram object offset) = nat_lt object c.objects
site_is_within c (site.Screen page offset) = true
site_is_within c site.Nowhere = true
site_is_within c site.Outside = true

pub after_within : (c : Counts) (s : Site) (n : ℕ) → site_is_within c s ≡ true → site_is_within c (site_after s n) ≡ true
after_within c site.Own n h = refl
after_within c (site.Ram object offset) n h = h
after_within c (site.Screen page offset) n h = refl
after_within c site.Nowhere n h = refl
after_within c site.Outside n h = refl

inside_within : (c : Counts) (r : Region) (d : Option ℕ) → region_within c r ≡ true → site_is_within c (site_within r d) ≡ true
inside_within c (region.Ram object offset) None h = refl
inside_within c (region.Ram object offset) (Some d) h = h
inside_within c (region.Screen page offset) d h = refl
inside_within c (region.Based v) d h = refl
inside_within c region.Nowhere d h = refl

shaped_site : (c : Counts) (b : Bool) (s : Site) → site_is_within c s ≡ true → site_is_within c (cond b s site.Nowhere) ≡ true
shaped_site c true s h = h
shaped_site c false s h = refl

placed_site : (c : Counts) (unplaced : Bool) (r : Region) (d : Option ℕ) → region_within c r ≡ true → site_is_within c (cond unplaced (unplaced_site d) (site_within r d)) ≡ true
placed_site c true r None h = refl
placed_site c true r (Some d) h = refl
placed_site c false r d h = inside_within c r d h

meant_site : (c : Counts) (unplaced : Bool) (v : Option Variable) (es : ExpressionsR) (s : SelectorR) (d : Option ℕ)
    → maybe (variable_within c) v ≡ true → site_is_within c (variable_site unplaced v es s d) ≡ true
meant_site c unplaced None es s d h = refl
meant_site c unplaced (Some v) es s d h =
    shaped_site c (has_shape v es s) (cond unplaced (unplaced_site d) (site_within v.region d)) (placed_site c unplaced v.region d (and_parts (form_within c v.form) (region_within c v.region) h).1)

site_of_within : (c : Counts) (k : Known) (x : ReferenceR') → Within c k → site_is_within c (site_of k x) ≡ true
site_of_within c k (Use p (binding.Variable n) es s) w = meant_site c (is_unplaced k n) (slice_get k.variables n) es s _ (got (variable_within c) k.variables n w.0)
site_of_within c k (Use p (binding.Procedure q) es s) w = refl
site_of_within c k (Use p (binding.Builtin b) es s) w = refl
site_of_within c k (Use p binding.Nothing es s) w = refl

page_site_within : (c : Counts) (b : Bool) (page : Page) (n : ℕ) (other : Site) → site_is_within c other ≡ true → site_is_within c (cond b (site.Screen page n) other) ≡ true
page_site_within c true page n other h = refl
page_site_within c false page n other h = h

number_site : (c : Counts) (n : ℕ) → site_is_within c (screen_site n) ≡ true
number_site c n =
    page_site_within c (is_in_page Monochrome n) Monochrome (n - page_at Monochrome) (page_site Colour n site.Outside) (
    page_site_within c (is_in_page Colour n) Colour (n - page_at Colour) site.Outside
    refl)

location_site_reads : (c : Counts) (frames : List Frame) (l : LocationT) (k : Known) → Reads c frames k (location_site frames l k).1
location_site_reads c frames (tree.ConstantsOf p f vs) k = reads (kept c k)
location_site_reads c frames (tree.LocationOf p f x) k =
    let r = reference frames x k in
    let here = reference_kept c frames x k in
    record {
      ends = λ e. here.ends e;
      within = λ h e w. let v = here.within e w in (v.0, v.1, v.2, all_pushed _ r.1.locations _ v.3 (reference_is_within c frames x k h e), v.4, v.5, v.6, v.7);
    }

location_site_within : (c : Counts) (frames : List Frame) (l : LocationT) (k : Known) → Ends c (location_site frames l k).1 → Within c k → site_is_within c (location_site frames l k).0 ≡ true
location_site_within c frames (tree.ConstantsOf p f vs) k e w = refl
location_site_within c frames (tree.LocationOf p f x) k e w = site_of_within c (reference frames x k).1 (reference frames x k).0 ((reference_kept c frames x k).within e w)

at_reads : (c : Counts) (frames : List Frame) (a : AtT) (k : Known) → Reads c frames k (at_site frames a k).1
at_reads c frames no_at k = reads (kept c k)
at_reads c frames (at_number n) k = reads (kept c k)
at_reads c frames (at_location l) k = location_site_reads c frames l k

at_within : (c : Counts) (frames : List Frame) (a : AtT) (k : Known) → Ends c (at_site frames a k).1 → Within c k → site_is_within c (at_site frames a k).0 ≡ true
at_within c frames no_at k e w = refl
at_within c frames (at_number n) k e w = number_site c n.value
at_within c frames (at_location l) k e w = location_site_within c frames l k e w

pub first_reads : (c : Counts) (frames : List Frame) (a : AttributesT) (k : Known) → Reads c frames k (first_site frames a k).1
first_reads c frames External k = reads (kept c k)
first_reads c frames (Attributes public at fill) k = at_reads c frames at k

pub first_within : (c : Counts) (frames : List Frame) (a : AttributesT) (k : Known) → Ends c (first_site frames a k).1 → Within c k → site_is_within c (first_site frames a k).0 ≡ true
first_within c frames External k e w = refl
first_within c frames (Attributes public at fill) k e w = at_within c frames at k e w

-- ---- regions

based_within : (c : Counts) (m : Binding) → binding_within c m ≡ true → region_within c (based_region m) ≡ true
based_within c (binding.Variable n) h = h
based_within c (binding.Procedure p) h = refl
based_within c (binding.Builtin b) h = refl
based_within c binding.Nothing h = refl

base_kept : (c : Counts) (frames : List Frame) (n base : NameT) (attributed : Bool) (k : Known) → Kept c k (base_for frames n base attributed k).1
base_kept c frames n base attributed k = let m = used frames base k in kept_then (used_kept c frames base k) (note_unless_kept c _ E304 n.place m.1)

base_within : (c : Counts) (frames : List Frame) (n base : NameT) (attributed : Bool) (k : Known) → frames_within c frames ≡ true → Ends c (base_for frames n base attributed k).1 → region_within c (base_for frames n base attributed k).0 ≡ true
base_within c frames n base attributed k h e =
    let m = used frames base k in based_within c m.0 (used_within c frames base k h ((note_unless_kept c _ E304 n.place m.1).ends e))

-- an object without values
object_kept : (c : Counts) (b : Bool) (path : List ℕ) (size : ℕ) (k : Known) → Kept c k (cond {A = Region × Known} b (region.Nowhere, k) (region.Ram (length k.objects) 0, record k { objects = k.objects ++ record { path = path; size = size; initial = [] } ∷ [] })).1
object_kept c true path size k = kept c k
object_kept c false path size k = record {
  ends = λ e. (e.0, e.1, pushed_most k.objects _ c.objects e.2, e.3, e.4);
  within = λ e w. (w.0, all_pushed _ k.objects _ w.1 refl, w.2, w.3, w.4, w.5, w.6, pushed_lie k.objects _ k.variables w.7);
}

object_within_region : (c : Counts) (b : Bool) (path : List ℕ) (size : ℕ) (k : Known)
    → Ends c (cond {A = Region × Known} b (region.Nowhere, k) (region.Ram (length k.objects) 0, record k { objects = k.objects ++ record { path = path; size = size; initial = [] } ∷ [] })).1
    → region_within c (cond {A = Region × Known} b (region.Nowhere, k) (region.Ram (length k.objects) 0, record k { objects = k.objects ++ record { path = path; size = size; initial = [] } ∷ [] })).0 ≡ true
object_within_region c true path size k e = refl
object_within_region c false path size k e = pushed_below k.objects _ c.objects e.2

screen_name_kept : (c : Counts) (frames : List Frame) (name : List ℕ) (size : ℕ) (page : Page) (offset : ℕ) (k : Known) → Kept c k (with_screen_name frames name size page offset k)
screen_name_kept c frames name size page offset k =
    let q : Known = record k { screen_names = k.screen_names ++ record { path = name_after (path_in frames) name; size = size; page = page; offset = offset; objects_before = length k.objects } ∷ [] } in
    let here : Kept c k q = record { ends = λ e. e; within = λ e w. w } in
    unless_kept c (is_external frames) k q here

region_kept : (c : Counts) (frames : List Frame) (n : NameT) (name : List ℕ) (size : ℕ) (s : Site) (k : Known) → Kept c k (region_for frames n name size s k).1
region_kept c frames n name size site.Own k = object_kept c (is_external frames) _ size k
region_kept c frames n name size site.Nowhere k = kept c k
region_kept c frames n name size site.Outside k = note_kept c E303 n.place k
region_kept c frames n name size (site.Ram object offset) k = note_unless_kept c (nat_le (counted (offset + size)) (size_at k.objects object)) E303 n.place k
region_kept c frames n name size (site.Screen page offset) k = kept_then (note_unless_kept c (nat_le (counted (offset + size)) page_size) E303 n.place k) (screen_name_kept c frames name size page offset _)

region_is_within : (c : Counts) (frames : List Frame) (n : NameT) (name : List ℕ) (size : ℕ) (s : Site) (k : Known)
    → site_is_within c s ≡ true → Ends c (region_for frames n name size s k).1 → region_within c (region_for frames n name size s k).0 ≡ true
region_is_within c frames n name size site.Own k h e = object_within_region c (is_external frames) _ size k e
region_is_within c frames n name size site.Nowhere k h e = refl
region_is_within c frames n name size site.Outside k h e = refl
region_is_within c frames n name size (site.Ram object offset) k h e = h
region_is_within c frames n name size (site.Screen page offset) k h e = refl

-- ---- names of several modules

public_kept : (c : Counts) (name : List ℕ) (i : Item) (first : Option Item) (k : Known) → (Ends c k → item_within c i ≡ true) → Kept c k (with_public name i first k)
public_kept c name i None k h = record { ends = λ e. e; within = λ e w. (w.0, w.1, w.2, w.3, w.4, with_entry_within c name i k.publics w.5 (h e), w.6, w.7) }
public_kept c name i (Some first) k h = record { ends = λ e. e; within = λ e w. w }

external_kept : (c : Counts) (name : List ℕ) (i : Item) (k : Known) → (Ends c k → item_within c i ≡ true) → Kept c k (with_external name i k)
external_kept c name i k h = record { ends = λ e. e; within = λ e w. (w.0, w.1, w.2, w.3, w.4, w.5, all_pushed _ k.externals _ w.6 (h e), w.7) }

pub linked_kept : (c : Counts) (frames : List Frame) (l : Linkage) (name : List ℕ) (i : Item) (k : Known) → (Ends c k → item_within c i ≡ true) → Kept c k (linked frames l name i k)
linked_kept c frames linkage.None name i k h = kept c k
linked_kept c frames linkage.Public name i k h = unless_kept c (is_external frames) k _ (public_kept c name i (found_in name k.publics) k h)
linked_kept c frames linkage.External name i k h = unless_kept c (is_external frames) k _ (external_kept c name i k h)

-- ---- declared names

pub declared_kept : (c : Counts) (n : NameT) (i : Item) (frames : List Frame) (k : Known) → Kept c k (declared n i frames k).1
declared_kept c n i frames k = note_unless_kept c (is_fresh (normal n.text) frames) E302 n.place k

-- a variable of this region
variable_after : (c : Counts) (n : NameT) (t : Traits) (r : Region) (k : Known) (frames : List Frame)
    → Kept c (with_variable (variable_in t n.place r k) k) (variable_declared n t (r, k) frames).1
variable_after c n t r k frames =
    let v = variable_in t n.place r k in
    let i = item.Variable (length k.variables) in
    kept_then (linked_kept c frames t.linkage (normal n.text) i (with_variable v k) (λ e. pushed_below k.variables v c.variables e.0))
    (declared_kept c n i frames (linked frames t.linkage (normal n.text) i (with_variable v k)))

variable_declared_ends : (c : Counts) (n : NameT) (t : Traits) (r : Region) (k : Known) (frames : List Frame) → Ends c (variable_declared n t (r, k) frames).1 → Ends c k
variable_declared_ends c n t r k frames e =
    let d = (variable_after c n t r k frames).ends e in
    (pushed_most k.variables (variable_in t n.place r k) c.variables d.0, d.1, d.2, d.3, d.4)

variable_declared_within : (c : Counts) (n : NameT) (t : Traits) (r : Region) (k : Known) (frames : List Frame)
    → form_within c t.shape.form ≡ true → region_within c r ≡ true → counted_holds k.objects (size_of_shape t.shape) r ≡ true → frames_within c frames ≡ true
    → Ends c (variable_declared n t (r, k) frames).1 → Within c k
    → Within c (variable_declared n t (r, k) frames).1 × (frames_within c (variable_declared n t (r, k) frames).0 ≡ true)
variable_declared_within c n t r k frames f g l h e w =
    let v = variable_in t n.place r k in
    let after = variable_after c n t r k frames in
    let d = after.ends e in (
      after.within e (all_pushed (variable_within c) k.variables v w.0 (both f g), w.1, w.2, w.3, w.4, w.5, w.6, all_pushed (lies_in k.objects) k.variables v w.7 l),
      with_name_within c (normal n.text) (item.Variable (length k.variables)) frames h (pushed_below k.variables v c.variables d.0),
    )

region_of_kept : (c : Counts) (frames : List Frame) (n : NameT) (base : Option NameT) (t : Traits) (s : Site) (k : Known) → Kept c k (region_of_variable frames n base t s k).1
region_of_kept c frames n (Some base) t s k = base_kept c frames n base t.has_attribute k
region_of_kept c frames n None t s k = region_kept c frames n (normal n.text) (size_of_shape t.shape) s k

region_of_within : (c : Counts) (frames : List Frame) (n : NameT) (base : Option NameT) (t : Traits) (s : Site) (k : Known)
    → frames_within c frames ≡ true → site_is_within c s ≡ true → Ends c (region_of_variable frames n base t s k).1 → region_within c (region_of_variable frames n base t s k).0 ≡ true
region_of_within c frames n (Some base) t s k h g e = base_within c frames n base t.has_attribute k h e
region_of_within c frames n None t s k h g e = region_is_within c frames n (normal n.text) (size_of_shape t.shape) s k g e

-- the region holds the name's bytes
based_lies : (os : List ObjectR) (size : ℕ) (m : Binding) → counted_holds os size (based_region m) ≡ true
based_lies os size (binding.Variable n) = refl
based_lies os size (binding.Procedure p) = refl
based_lies os size (binding.Builtin b) = refl
based_lies os size binding.Nothing = refl

own_lies : (b : Bool) (path : List ℕ) (size : ℕ) (k : Known)
    → counted_holds (cond {A = Region × Known} b (region.Nowhere, k) (region.Ram (length k.objects) 0, record k { objects = k.objects ++ record { path = path; size = size; initial = [] } ∷ [] })).1.objects size
    (cond {A = Region × Known} b (region.Nowhere, k) (region.Ram (length k.objects) 0, record k { objects = k.objects ++ record { path = path; size = size; initial = [] } ∷ [] })).0 ≡ true
own_lies true path size k = refl
own_lies false path size k = last_lies k.objects (record { path = path; size = size; initial = [] })

region_lies : (c : Counts) (frames : List Frame) (n : NameT) (name : List ℕ) (size : ℕ) (s : Site) (k : Known)
    → Ends c (region_for frames n name size s k).1 → counted_holds (region_for frames n name size s k).1.objects size (region_for frames n name size s k).0 ≡ true
region_lies c frames n name size site.Own k e = own_lies (is_external frames) _ size k
region_lies c frames n name size site.Nowhere k e = refl
region_lies c frames n name size site.Outside k e = refl
region_lies c frames n name size (site.Ram object offset) k e =
    let fits = nat_le (counted (offset + size)) (size_at k.objects object) in
    ap (λ (os : List ObjectR). nat_le (counted (offset + size)) (size_at os object)) (noted_objects fits E303 n.place k) ∙ note_unless_holds c fits E303 n.place k e
region_lies c frames n name size (site.Screen page offset) k e =
    let fits = nat_le (counted (offset + size)) page_size in
    note_unless_holds c fits E303 n.place k ((screen_name_kept c frames name size page offset (note_unless fits E303 n.place k)).ends e)

region_of_lies : (c : Counts) (frames : List Frame) (n : NameT) (base : Option NameT) (t : Traits) (s : Site) (k : Known)
    → Ends c (region_of_variable frames n base t s k).1 → counted_holds (region_of_variable frames n base t s k).1.objects (size_of_shape t.shape) (region_of_variable frames n base t s k).0 ≡ true
region_of_lies c frames n (Some base) t s k e = based_lies _ (size_of_shape t.shape) (used frames base k).0
region_of_lies c frames n None t s k e = region_lies c frames n (normal n.text) (size_of_shape t.shape) s k e

declared_variable_ends : (c : Counts) (v : VariableT) (t : Traits) (s : Site) (frames : List Frame) (k : Known) → Ends c (declared_variable v t s frames k).1 → Ends c k
declared_variable_ends c (VariableOf n base) t s frames k e =
    let r = region_of_variable frames n base t s k in (region_of_kept c frames n base t s k).ends (variable_declared_ends c n t r.0 r.1 frames e)

declared_variable_within : (c : Counts) (v : VariableT) (t : Traits) (s : Site) (frames : List Frame) (k : Known)
    → form_within c t.shape.form ≡ true → site_is_within c s ≡ true → frames_within c frames ≡ true
    → Ends c (declared_variable v t s frames k).1 → Within c k
    → Within c (declared_variable v t s frames k).1 × (frames_within c (declared_variable v t s frames k).0 ≡ true)
declared_variable_within c (VariableOf n base) t s frames k f g h e w =
    let r = region_of_variable frames n base t s k in
    let d = variable_declared_ends c n t r.0 r.1 frames e in
    variable_declared_within c n t r.0 r.1 frames f (region_of_within c frames n base t s k h g d) (region_of_lies c frames n base t s k d) h e ((region_of_kept c frames n base t s k).within d w)

pub declared_variables_ends : (c : Counts) (vs : List VariableT) (t : Traits) (s : Site) (frames : List Frame) (k : Known) → Ends c (declared_variables vs t s frames k).2 → Ends c k
declared_variables_ends c [] t s frames k e = e
declared_variables_ends c (v ∷ vs) t s frames k e =
    let r = declared_variable v t s frames k in
    declared_variable_ends c v t s frames k (declared_variables_ends c vs t (site_after s (size_of_shape t.shape)) r.0 r.1 e)

pub declared_variables_within : (c : Counts) (vs : List VariableT) (t : Traits) (s : Site) (frames : List Frame) (k : Known)
    → form_within c t.shape.form ≡ true → site_is_within c s ≡ true → frames_within c frames ≡ true
    → Ends c (declared_variables vs t s frames k).2 → Within c k
    → Within c (declared_variables vs t s frames k).2 × (frames_within c (declared_variables vs t s frames k).1 ≡ true)
declared_variables_within c [] t s frames k f g h e w = (w, h)
declared_variables_within c (v ∷ vs) t s frames k f g h e w =
    let r = declared_variable v t s frames k in
    let next = site_after s (size_of_shape t.shape) in
    let one = declared_variable_within c v t s frames k f g h (declared_variables_ends c vs t next r.0 r.1 e) w in
    declared_variables_within c vs t next r.0 r.1 f (after_within c s (size_of_shape t.shape) g) one.1 e one.0

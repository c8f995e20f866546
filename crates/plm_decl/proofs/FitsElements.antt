-- The initial values of the names that are declared have room in their objects.
use Rattle.std.proofs.Common.{◌≡◌, ℕ, suc, ◌+◌, ◌<◌, ◌≤◌, List, [], ◌∷◌, ◌++◌, length, drop, Bool, true, false, ◌&&◌, not, cond, Option, Some, None, nat_le, arith, refl, sym, ap, subst, ◌∙◌, append_assoc}
use Rattle.std.specs.List.{list_all}
use Rattle.std.proofs.lemmas.List.{append-nil, length-append, drop_at}
use Rattle.std.proofs.lemmas.List.Folds.{list_all-append}
use Rattle.word86.specs.declared.number.Number.TheVariants.{E301, E302, E303, E304, E305}
use Rattle.word86.specs.declared.page.Page.{Page}
use Rattle.word86.specs.Page.{page_size}
use Rattle.plm_token.specs.Names.{normal}
use Rattle.plm_syntax.specs.declared.tree.Position.{Position}
use Rattle.plm_syntax.specs.declared.tree.Linkage.{Linkage}
use Rattle.plm_syntax.specs.declared.tree.Linkage.TheVariants as linkage
use Rattle.plm_syntax.specs.Terminal.{NameT}
use Rattle.plm_syntax.specs.Tree.{VariableT, VariableOf, LocationT, ValueT, AtT, no_at, at_number, at_location, InitialT, AttributesT, External, Attributes, DimensionT, TypeT, ElementT, LiteralElement, VariableElement}
use Rattle.plm_syntax.specs.Tree as tree
use Rattle.plm_decl.specs.declared.names.Region.{Region}
use Rattle.plm_decl.specs.declared.names.Region.TheVariants as region
use Rattle.plm_decl.specs.declared.names.Variable.{Variable}
use Rattle.plm_decl.specs.declared.names.Item.{Item}
use Rattle.plm_decl.specs.declared.names.Item.TheVariants as item
use Rattle.plm_decl.specs.declared.resolved.Binding.{Binding}
use Rattle.plm_decl.specs.declared.resolved.Binding.TheVariants as binding
use Rattle.plm_decl.specs.declared.fill.Cursor.{Cursor}
use Rattle.plm_decl.specs.declared.sites.Site.{Site}
use Rattle.plm_decl.specs.declared.sites.Site.TheVariants as site
use Rattle.plm_decl.specs.declared.attributes.Traits.{Traits}
use Rattle.plm_decl.specs.declared.shape.Shape.{Shape}
use Rattle.plm_decl.specs.Layout.{counted}
use Rattle.plm_decl.specs.Scope.{Frame, path_in, is_external, is_fresh, found_in}
use Rattle.plm_decl.specs.Spelling.{name_after}
use Rattle.plm_decl.specs.Regions.{size_at}
use Rattle.plm_decl.specs.Resolver.{Known, note_unless}
use Rattle.plm_decl.specs.Names.{ObjectR}
use Rattle.plm_decl.specs.Uses.{used, binding_of, is_something}
use Rattle.plm_decl.specs.Shape.{scalar_at, size_of_shape, shape_for}
use Rattle.plm_decl.specs.Linkage.{with_public, linked}
use Rattle.plm_decl.specs.Elements.{is_base, based_region, base_for, with_screen_name, region_for, with_variable, variable_in, declared, region_of_variable, variable_declared, declared_variable, declared_variables, declared_list, place_of_variable}
use Rattle.plm_decl.specs.Sites.{site_after, location_site, at_site, first_site}
use Rattle.plm_decl.specs.Attributes.{element_values, has_values, traits_for}
use Rattle.plm_decl.specs.Fill.{FillingR, filled, declared_at, declared_names, element}
use Rattle.plm_decl.proofs.Kept.{both}
use Rattle.plm_decl.proofs.Objects.{last_got}
use Rattle.plm_decl.proofs.FitsShapes.{SameTables, same_tables, same_then, noted_same, RowFits, ShapeFits, shape_same, shape_fits, scalar_still, scalars_in_name_still}
use Rattle.plm_decl.proofs.FitsFills.{fits, fits_where, Extends, extends, extends_none, reference_extends, Holds, Pending, PendingAt, holds_pushed, values_names, filled_fits}

-- ---- what reading keeps

-- there are not fewer variables, and where they are not too many to be counted, objects have room for their values
pub record Fits (k q : Known) : Type 0 where
  pub more : length k.variables ≤ length q.variables
  pub fit : length q.variables < 18446744073709551616 → list_all fits k.objects ≡ true → list_all fits q.objects ≡ true

pub fits_none : (k : Known) → Fits k k
fits_none k = record { more = omega arith; fit = λ h f. f }

pub fits_then : {k q r : Known} → Fits k q → Fits q r → Fits k r
fits_then {k} {q} {r} a b =
    let first = a.more in
    let second = b.more in
    record {
      more = omega (arith, first, second);
      fit = λ h f. b.fit h (a.fit (omega (arith, second, h)) f);
    }

-- variables at the end, and objects that have room
pub fits_more : {k q : Known} (vs : List Variable) (os : List ObjectR) → q.variables ≡ k.variables ++ vs → q.objects ≡ k.objects ++ os → list_all fits os ≡ true → Fits k q
fits_more {k} {q} vs os e g h =
    let n = ap length e in
    record {
      more = omega (arith, n, length-append k.variables vs);
      fit = λ short f. ap (list_all fits) g ∙ list_all-append fits k.objects os ∙ both f h;
    }

pub fits_same : {k q : Known} → q.variables ≡ k.variables → q.objects ≡ k.objects → Fits k q
fits_same {k} {q} e g = fits_more [] [] (e ∙ sym (append-nil k.variables)) (g ∙ sym (append-nil k.objects)) refl

pub fits_extended : {k q : Known} → Extends k q → Fits k q
fits_extended {k} {q} e = fits_more [] e.made (e.variables ∙ sym (append-nil k.variables)) e.objects e.fit

pub fits_tables : {k q : Known} → SameTables k q → Fits k q
fits_tables s = fits_same s.variables s.objects

-- ---- where names lie

pub unless_same : (b : Bool) (k q : Known) → SameTables k q → SameTables k (cond b k q)
unless_same true k q h = same_tables k
unless_same false k q h = h

base_same : (frames : List Frame) (n base : NameT) (attributed : Bool) (k : Known) → SameTables k (base_for frames n base attributed k).1
base_same frames n base attributed k =
    let m = used frames base k in
    same_then (noted_same (is_something (binding_of frames base)) E301 base.place k) (noted_same (is_base m.1 m.0 && not attributed) E304 n.place m.1)

own_extends : (b : Bool) (path : List ℕ) (size : ℕ) (k : Known)
    → Extends k (cond {A = Region × Known} b (region.Nowhere, k) (region.Ram (length k.objects) 0, record k { objects = k.objects ++ record { path = path; size = size; initial = [] } ∷ [] })).1
own_extends true path size k = extends_none k
own_extends false path size k =
    let o : ObjectR = record { path = path; size = size; initial = [] } in
    record { variables = refl; structures = refl; made = o ∷ []; objects = refl; fit = both (fits_where o (λ h. omega arith)) refl }

screen_same : (frames : List Frame) (name : List ℕ) (size : ℕ) (page : Page) (offset : ℕ) (k : Known) → SameTables k (with_screen_name frames name size page offset k)
screen_same frames name size page offset k = unless_same (is_external frames) k _ (record { variables = refl; structures = refl; objects = refl })

region_extends : (frames : List Frame) (n : NameT) (name : List ℕ) (size : ℕ) (s : Site) (k : Known) → Extends k (region_for frames n name size s k).1
region_extends frames n name size site.Own k = own_extends (is_external frames) (name_after (path_in frames) name) size k
region_extends frames n name size site.Nowhere k = extends_none k
region_extends frames n name size site.Outside k = extends (record { variables = refl; structures = refl; objects = refl })
region_extends frames n name size (site.Ram object offset) k = extends (noted_same (nat_le (counted (offset + size)) (size_at k.objects object)) E303 n.place k)
region_extends frames n name size (site.Screen page offset) k =
    extends (same_then (noted_same (nat_le (counted (offset + size)) page_size) E303 n.place k) (screen_same frames name size page offset (note_unless (nat_le (counted (offset + size)) page_size) E303 n.place k)))

variable_extends : (frames : List Frame) (n : NameT) (base : Option NameT) (t : Traits) (s : Site) (k : Known) → Extends k (region_of_variable frames n base t s k).1
variable_extends frames n (Some base) t s k = extends (base_same frames n base t.has_attribute k)
variable_extends frames n None t s k = region_extends frames n (normal n.text) (size_of_shape t.shape) s k

-- ---- names

public_same : (name : List ℕ) (i : Item) (o : Option Item) (k : Known) → SameTables k (with_public name i o k)
public_same name i None k = record { variables = refl; structures = refl; objects = refl }
public_same name i (Some first) k = record { variables = refl; structures = refl; objects = refl }

pub linked_same : (frames : List Frame) (l : Linkage) (name : List ℕ) (i : Item) (k : Known) → SameTables k (linked frames l name i k)
linked_same frames linkage.None name i k = same_tables k
linked_same frames linkage.Public name i k = unless_same (is_external frames) k _ (public_same name i (found_in name k.publics) k)
linked_same frames linkage.External name i k = unless_same (is_external frames) k _ (record { variables = refl; structures = refl; objects = refl })

pub declared_same : (n : NameT) (i : Item) (frames : List Frame) (k : Known) → SameTables k (declared n i frames k).1
declared_same n i frames k = noted_same (is_fresh (normal n.text) frames) E302 n.place k

-- what a variable of this region adds
named_same : (n : NameT) (t : Traits) (r : Region × Known) (frames : List Frame) → SameTables (with_variable (variable_in t n.place r.0 r.1) r.1) (variable_declared n t r frames).1
named_same n t r frames =
    let q = with_variable (variable_in t n.place r.0 r.1) r.1 in
    let i = item.Variable (length r.1.variables) in
    same_then (linked_same frames t.linkage (normal n.text) i q) (declared_same n i frames (linked frames t.linkage (normal n.text) i q))

variable_fits : (v : VariableT) (t : Traits) (s : Site) (frames : List Frame) (k : Known) → Fits k (declared_variable v t s frames k).1
variable_fits (VariableOf n base) t s frames k =
    let r = region_of_variable frames n base t s k in
    let here = variable_extends frames n base t s k in
    let v = variable_in t n.place r.0 r.1 in
    let after = named_same n t r frames in
    fits_more (v ∷ []) here.made (after.variables ∙ ap (λ (vs : List Variable). vs ++ v ∷ []) here.variables) (after.objects ∙ here.objects) here.fit

variables_fit : (vs : List VariableT) (t : Traits) (s : Site) (frames : List Frame) (k : Known) → Fits k (declared_variables vs t s frames k).2
variables_fit [] t s frames k = fits_none k
variables_fit (v ∷ vs) t s frames k =
    let r = declared_variable v t s frames k in fits_then (variable_fits v t s frames k) (variables_fit vs t (site_after s (size_of_shape t.shape)) r.0 r.1)

-- ---- objects of their own

-- the region is that of a new object, or of none
record Own (size : ℕ) (k : Known) (r : Region × Known) : Type 0 where
  variables : r.1.variables ≡ k.variables
  structures : r.1.structures ≡ k.structures
  made : List ObjectR
  objects : r.1.objects ≡ k.objects ++ made
  first : (all more : List ObjectR) → all ≡ r.1.objects ++ more → (vs : List Variable) → Pending all size (length r.1.objects) vs
      → PendingAt all size 0 (length k.objects) r.0 (λ m. Pending all size m vs)

own_object : (b : Bool) (path : List ℕ) (size : ℕ) (k : Known)
    → Own size k (cond {A = Region × Known} b (region.Nowhere, k) (region.Ram (length k.objects) 0, record k { objects = k.objects ++ record { path = path; size = size; initial = [] } ∷ [] }))
own_object true path size k = record { variables = refl; structures = refl; made = []; objects = sym (append-nil k.objects); first = λ all more e vs p. p }
own_object false path size k =
    let o : ObjectR = record { path = path; size = size; initial = [] } in
    let os = k.objects ++ o ∷ [] in
    let here : Holds os size 0 (length k.objects) = record { object = o; got = last_got k.objects o; bytes = refl; few = omega arith } in
    let length_of : length os ≡ suc (length k.objects) = length-append k.objects (o ∷ []) ∙ omega arith in
    record {
      variables = refl;
      structures = refl;
      made = o ∷ [];
      objects = refl;
      first = λ all more e vs p. (
        omega arith,
        subst (λ (xs : List ObjectR). Holds xs size 0 (length k.objects)) (sym e) (holds_pushed os more size 0 (length k.objects) here),
        subst (λ (m : ℕ). Pending all size m vs) length_of p,
      );
    }

based_first : (all : List ObjectR) (size low : ℕ) (m : Binding) (P : ℕ → Type 0) → P low → PendingAt all size 0 low (based_region m) P
based_first all size low (binding.Variable n) P p = p
based_first all size low (binding.Procedure q) P p = p
based_first all size low (binding.Builtin b) P p = p
based_first all size low binding.Nothing P p = p

own_region_of : (frames : List Frame) (n : NameT) (base : Option NameT) (t : Traits) (k : Known) → Own (size_of_shape t.shape) k (region_of_variable frames n base t site.Own k)
own_region_of frames n None t k = own_object (is_external frames) (name_after (path_in frames) (normal n.text)) (size_of_shape t.shape) k
own_region_of frames n (Some base) t k =
    let same = base_same frames n base t.has_attribute k in
    record {
      variables = same.variables;
      structures = same.structures;
      made = [];
      objects = same.objects ∙ sym (append-nil k.objects);
      first = λ all more e vs p.
          based_first all (size_of_shape t.shape) (length k.objects) (used frames base k).0 (λ m. Pending all (size_of_shape t.shape) m vs)
          (subst (λ (m : ℕ). Pending all (size_of_shape t.shape) m vs) (ap length same.objects) p);
    }

-- names of an element that have objects of their own
record Named (size : ℕ) (k q : Known) : Type 0 where
  added : List Variable
  variables : q.variables ≡ k.variables ++ added
  structures : q.structures ≡ k.structures
  made : List ObjectR
  objects : q.objects ≡ k.objects ++ made
  pending : (all more : List ObjectR) → all ≡ q.objects ++ more → Pending all size (length k.objects) added

one_named : (v : VariableT) (t : Traits) (frames : List Frame) (k q : Known) → Named (size_of_shape t.shape) (declared_variable v t site.Own frames k).1 q → Named (size_of_shape t.shape) k q
one_named (VariableOf n base) t frames k q rest =
    let r = region_of_variable frames n base t site.Own k in
    let own = own_region_of frames n base t k in
    let v = variable_in t n.place r.0 r.1 in
    let after = named_same n t r frames in
    let size = size_of_shape t.shape in
    let before = after.objects ∙ own.objects in
    record {
      added = v ∷ rest.added;
      variables = rest.variables ∙ ap (λ (vs : List Variable). vs ++ rest.added) (after.variables ∙ ap (λ (vs : List Variable). vs ++ v ∷ []) own.variables) ∙ append_assoc k.variables (v ∷ []) rest.added;
      structures = rest.structures ∙ after.structures ∙ own.structures;
      made = own.made ++ rest.made;
      objects = rest.objects ∙ ap (λ (os : List ObjectR). os ++ rest.made) before ∙ append_assoc k.objects own.made rest.made;
      pending = λ all more e.
          let whole = e ∙ ap (λ (os : List ObjectR). os ++ more) (rest.objects ∙ ap (λ (os : List ObjectR). os ++ rest.made) after.objects) ∙ append_assoc r.1.objects rest.made more in
          own.first all (rest.made ++ more) whole rest.added (subst (λ (m : ℕ). Pending all size m rest.added) (ap length after.objects) (rest.pending all more e));
    }

all_named : (vs : List VariableT) (t : Traits) (frames : List Frame) (k : Known) → Named (size_of_shape t.shape) k (declared_variables vs t site.Own frames k).2
all_named [] t frames k = record {
  added = [];
  variables = sym (append-nil k.variables);
  structures = refl;
  made = [];
  objects = sym (append-nil k.objects);
  pending = λ all more e. tt;
}
all_named (v ∷ vs) t frames k = let r = declared_variable v t site.Own frames k in one_named v t frames k (declared_variables vs t site.Own r.0 r.1).2 (all_named vs t r.0 r.1)

-- ---- an element

location_extends_site : (frames : List Frame) (l : LocationT) (k : Known) → Extends k (location_site frames l k).1
location_extends_site frames (tree.ConstantsOf p f vs) k = extends_none k
location_extends_site frames (tree.LocationOf p f x) k =
    let here = reference_extends frames x k in
    record { variables = here.variables; structures = here.structures; made = here.made; objects = here.objects; fit = here.fit }

at_extends : (frames : List Frame) (a : AtT) (k : Known) → Extends k (at_site frames a k).1
at_extends frames no_at k = extends_none k
at_extends frames (at_number n) k = extends_none k
at_extends frames (at_location l) k = location_extends_site frames l k

first_extends : (frames : List Frame) (a : AttributesT) (k : Known) → Extends k (first_site frames a k).1
first_extends frames External k = extends_none k
first_extends frames (Attributes public at fill) k = at_extends frames at k

shape_still : (k q : Known) (s : Shape) → q.structures ≡ k.structures → ShapeFits k s → ShapeFits q s
shape_still k q s e h =
    let at : (λ i. scalar_at q s.form i) ≡ (λ i. scalar_at k s.form i) = λ j i. scalar_still k q s.form i e j in
    subst (λ x. x) (λ j. RowFits (sym at j) (sym (scalars_in_name_still k q s e) j) (size_of_shape s)) h

-- up to the filling
declared_fit : (place : Position) (vs : List VariableT) (d : DimensionT) (t : TypeT) (a : AttributesT) (frames : List Frame) (k : Known)
    → let s = first_site frames a k in
    let h = shape_for place (length vs) d t (element_values a) s.1 in
    Fits k (declared_variables vs (traits_for h.0 a) s.0 frames h.1).2
declared_fit place vs d t a frames k =
    let s = first_site frames a k in
    let h = shape_for place (length vs) d t (element_values a) s.1 in
    let shape = shape_same place (length vs) d t (element_values a) s.1 in
    fits_then (fits_extended (first_extends frames a k)) (fits_then (fits_same shape.variables shape.objects) (variables_fit vs (traits_for h.0 a) s.0 frames h.1))

-- values of names that have objects of their own
own_filled : (place : Position) (vs : List VariableT) (d : DimensionT) (t : TypeT) (a : AttributesT) (values : List ValueT) (frames : List Frame) (k : Known)
    → let h = shape_for place (length vs) d t values k in
    let r = declared_variables vs (traits_for h.0 a) site.Own frames h.1 in
    Fits r.2 (filled r.1 (record { names = vs; shape = h.0; number = length h.1.variables }) values r.2)
own_filled place vs d t a values frames k =
    let h = shape_for place (length vs) d t values k in
    let r = declared_variables vs (traits_for h.0 a) site.Own frames h.1 in
    let f : FillingR = record { names = vs; shape = h.0; number = length h.1.variables } in
    let named = all_named vs (traits_for h.0 a) frames h.1 in
    let begin : Cursor = record { name = 0; scalar = 0 } in
    let row = shape_still h.1 r.2 h.0 named.structures (shape_fits place (length vs) d t values k) in
    let behind = ap (drop (length h.1.variables)) named.variables ∙ drop_at h.1.variables named.added (length h.1.variables) refl in
    let pending = subst (λ (ws : List Variable). Pending r.2.objects (size_of_shape h.0) (length h.1.objects) ws) (sym behind) (named.pending r.2.objects [] (sym (append-nil r.2.objects))) in
    let names = values_names r.1 f begin values r.2 in
    let count = ap length names in
    record {
      more = omega (arith, count);
      fit = λ short fit. filled_fits r.1 f values r.2 row fit (length h.1.objects, pending) (omega (arith, count, short));
    }

declared_at_fits : (place : Position) (vs : List VariableT) (d : DimensionT) (t : TypeT) (a : AttributesT) (frames : List Frame) (k : Known) → Fits k (declared_at place vs d t a frames k).1
declared_at_fits place vs d t External frames k = declared_fit place vs d t External frames k
declared_at_fits place vs d t (Attributes public no_at fill) frames k =
    let a = Attributes public no_at fill in
    fits_then (declared_fit place vs d t a frames k) (own_filled place vs d t a (element_values a) frames k)
declared_at_fits place vs d t (Attributes public (at_number n) fill) frames k =
    fits_then (declared_fit place vs d t (Attributes public (at_number n) fill) frames k) (fits_tables (noted_same (not (has_values (Attributes public (at_number n) fill))) E305 place _))
declared_at_fits place vs d t (Attributes public (at_location l) fill) frames k =
    fits_then (declared_fit place vs d t (Attributes public (at_location l) fill) frames k) (fits_tables (noted_same (not (has_values (Attributes public (at_location l) fill))) E305 place _))

names_fit : (vs : List VariableT) (d : DimensionT) (t : TypeT) (a : AttributesT) (frames : List Frame) (k : Known) → Fits k (declared_names vs d t a frames k).1
names_fit [] d t a frames k = fits_none k
names_fit (v ∷ vs) d t a frames k = declared_at_fits (place_of_variable v) (v ∷ vs) d t a frames k

pub element_fits : (e : ElementT) (frames : List Frame) (k : Known) → Fits k (element e frames k).1
element_fits (LiteralElement n s) frames k = fits_none k
element_fits (VariableElement d n t a) frames k = names_fit (declared_list d) n t a frames k

-- Constant bytes fill their object, and names that lie nowhere else have objects of their own.
use Rattle.std.proofs.Common.{◌≡◌, ℕ, suc, ◌+◌, List, [], ◌∷◌, ◌++◌, map, length, Bool, true, false, cond, Option, Some, None, arith, refl, sym, ap, subst, ◌∙◌, append_assoc, true≢false}
use Rattle.std.specs.Prelude.{slice_get, sum_by}
use Rattle.std.specs.List.{list_all}
use Rattle.std.proofs.lemmas.List.{length-append, append-nil, map-append}
use Rattle.std.proofs.lemmas.List.Sums.{sum_by-cons, sum_by-append}
use Rattle.word86.specs.declared.number.Number.TheVariants.{E302, E305}
use Rattle.plm_token.specs.Names.{normal}
use Rattle.plm_token.specs.Strings.{string_characters}
use Rattle.plm_syntax.specs.declared.tree.Position.{Position}
use Rattle.plm_syntax.specs.declared.tree.Linkage.{Linkage}
use Rattle.plm_syntax.specs.declared.tree.Linkage.TheVariants as linkage
use Rattle.plm_syntax.specs.Terminal.{NameT}
use Rattle.plm_syntax.specs.Tree.{ValueT, NumeralV, NegativeV, TextV, LocationV, VariableT, VariableOf}
use Rattle.plm_decl.specs.declared.names.Datum.{Datum}
use Rattle.plm_decl.specs.declared.names.Datum.TheVariants as datum
use Rattle.plm_decl.specs.declared.names.Region.{Region}
use Rattle.plm_decl.specs.declared.names.Region.TheVariants as region
use Rattle.plm_decl.specs.declared.names.Variable.{Variable}
use Rattle.plm_decl.specs.declared.names.Item.{Item}
use Rattle.plm_decl.specs.declared.names.Item.TheVariants as item
use Rattle.plm_decl.specs.declared.sites.Site.TheVariants as site
use Rattle.plm_decl.specs.declared.attributes.Traits.{Traits}
use Rattle.plm_decl.specs.Names.{ObjectR}
use Rattle.plm_decl.specs.Scope.{Frame, path_in, is_external, is_fresh, found_in, with_name}
use Rattle.plm_decl.specs.Layout.{counted}
use Rattle.plm_decl.specs.Spelling.{constants_after, name_after}
use Rattle.plm_decl.specs.Resolver.{Known, note_unless}
use Rattle.plm_decl.specs.Shape.{size_of_shape}
use Rattle.plm_decl.specs.Expressions.{one_datum, constant_data, all_constant_data, are_constants, with_constants, constant_bytes}
use Rattle.plm_decl.specs.Linkage.{linked, with_public}
use Rattle.plm_decl.specs.Elements.{with_variable, variable_in, own_region, variable_declared, declared_variable, declared_variables}
use Rattle.plm_decl.specs.Values.{bytes_of_datum}
use Rattle.plm_decl.specs.Laws.{has_no_base, own_regions}

-- ---- constant bytes

bytes_of_characters : (cs : List ℕ) → sum_by bytes_of_datum (map (λ c. datum.Byte c) cs) ≡ length (map (λ c. datum.Byte c) cs)
bytes_of_characters [] = refl
bytes_of_characters (c ∷ cs) =
    let all = sum_by-cons bytes_of_datum (datum.Byte c) (map (λ c. datum.Byte c) cs) in
    let rest = bytes_of_characters cs in
    omega (arith, all, rest)

bytes_of_number : (b : Bool) (n : ℕ) → sum_by bytes_of_datum (one_datum (cond b (Some (datum.Byte n)) None)) ≡ length (one_datum (cond b (Some (datum.Byte n)) None))
bytes_of_number true n = let one = sum_by-cons bytes_of_datum (datum.Byte n) [] in omega (arith, one)
bytes_of_number false n = refl

bytes_of_value : (v : ValueT) → sum_by bytes_of_datum (constant_data v) ≡ length (constant_data v)
bytes_of_value (TextV s) = bytes_of_characters (string_characters s.text)
bytes_of_value (NumeralV n) = bytes_of_number _ _
bytes_of_value (NegativeV n) = bytes_of_number _ _
bytes_of_value (LocationV l) = refl

pub bytes_of_values : (vs : List ValueT) → sum_by bytes_of_datum (all_constant_data vs) ≡ length (all_constant_data vs)
bytes_of_values [] = refl
bytes_of_values (v ∷ vs) =
    sum_by-append bytes_of_datum (constant_data v) (all_constant_data vs)
    ∙ (λ j. bytes_of_value v j + bytes_of_values vs j)
    ∙ sym (length-append (constant_data v) (all_constant_data vs))

pub last_got : {X : Type 0} (xs : List X) (x : X) → slice_get (xs ++ x ∷ []) (length xs) ≡ Some x
last_got [] x = refl
last_got (y ∷ xs) x = last_got xs x

abbrev made : List Frame → Known → List Datum → ObjectR
made frames k ds = record { path = constants_after (path_in frames) (counted (k.constants + 1)); size = length ds; initial = ds }

got_after : (b : Bool) (frames : List Frame) (p : Position) (ds : List Datum) (k : Known)
    → slice_get (with_constants frames ds (note_unless b E305 p k)).objects (length k.objects) ≡ Some (made frames k ds)
got_after true frames p ds k = last_got k.objects (made frames k ds)
got_after false frames p ds k = last_got k.objects (made frames k ds)

pub constants_fill : (frames : List Frame) (p : Position) (vs : List ValueT) (k : Known)
    → (o : ObjectR) × (slice_get (constant_bytes frames p vs k).1.objects (constant_bytes frames p vs k).0 ≡ Some o) × (sum_by bytes_of_datum o.initial ≡ o.size)
constants_fill frames p vs k = (made frames k (all_constant_data vs), got_after (are_constants vs) frames p (all_constant_data vs) k, bytes_of_values vs)

-- ---- own objects

-- the same variables and objects
record SameTables (a b : Known) : Type 0 where
  variables : a.variables ≡ b.variables
  objects : a.objects ≡ b.objects

noted : (b : Bool) (p : Position) (k : Known) → SameTables (note_unless b E302 p k) k
noted true p k = record { variables = refl; objects = refl }
noted false p k = record { variables = refl; objects = refl }

unless_same : (b : Bool) (k q : Known) → SameTables q k → SameTables (cond b k q) k
unless_same true k q h = record { variables = refl; objects = refl }
unless_same false k q h = h

public_same : (name : List ℕ) (i : Item) (o : Option Item) (k : Known) → SameTables (with_public name i o k) k
public_same name i None k = record { variables = refl; objects = refl }
public_same name i (Some first) k = record { variables = refl; objects = refl }

linked_same : (frames : List Frame) (l : Linkage) (name : List ℕ) (i : Item) (k : Known) → SameTables (linked frames l name i k) k
linked_same frames linkage.None name i k = record { variables = refl; objects = refl }
linked_same frames linkage.Public name i k = unless_same (is_external frames) k _ (public_same name i (found_in name k.publics) k)
linked_same frames linkage.External name i k = unless_same (is_external frames) k _ (record { variables = refl; objects = refl })

pub external_stays : (name : List ℕ) (i : Item) (frames : List Frame) → is_external (with_name name i frames) ≡ is_external frames
external_stays name i [] = refl
external_stays name i (frame ∷ outer) = refl

-- what one name gives
record OneMore (k q : Known) : Type 0 where
  object : ObjectR
  regions : map (λ (v : Variable). v.region) q.variables ≡ map (λ (v : Variable). v.region) k.variables ++ region.Ram (length k.objects) 0 ∷ []
  objects : q.objects ≡ k.objects ++ object ∷ []

-- where a name goes that has an object of its own, and what is then known
owned : List Frame → List ℕ → ℕ → Known → Region × Known
owned frames name size k = (region.Ram (length k.objects) 0, record k { objects = k.objects ++ record { path = name_after (path_in frames) name; size = size; initial = [] } ∷ [] })

one_owned : (n : NameT) (t : Traits) (frames : List Frame) (k : Known) → OneMore k (variable_declared n t (owned frames (normal n.text) (size_of_shape t.shape) k) frames).1
unfolding owned
one_owned n t frames k =
    let r = owned frames (normal n.text) (size_of_shape t.shape) k in
    let v = variable_in t n.place r.0 r.1 in
    let q = with_variable v r.1 in
    let i = item.Variable (length r.1.variables) in
    let l = linked_same frames t.linkage (normal n.text) i q in
    let m = noted (is_fresh (normal n.text) frames) n.place (linked frames t.linkage (normal n.text) i q) in
    record {
      object = record { path = name_after (path_in frames) (normal n.text); size = size_of_shape t.shape; initial = [] };
      regions = ap (map (λ (x : Variable). x.region)) (m.variables ∙ l.variables) ∙ map-append (λ (x : Variable). x.region) k.variables (v ∷ []);
      objects = m.objects ∙ l.objects;
    }

one_own : (n : NameT) (t : Traits) (frames : List Frame) (k : Known) → is_external frames ≡ false → OneMore k (declared_variable (VariableOf n None) t site.Own frames k).1
unfolding owned
one_own n t frames k e =
    let is : own_region frames (normal n.text) (size_of_shape t.shape) k ≡ owned frames (normal n.text) (size_of_shape t.shape) k =
    ap (λ (b : Bool). cond b (region.Nowhere, k) (owned frames (normal n.text) (size_of_shape t.shape) k)) e in
    let one = subst (λ (r : Region × Known). OneMore k (variable_declared n t r frames).1) (sym is) (one_owned n t frames k) in
    record { object = one.object; regions = one.regions; objects = one.objects }

pub own_objects : (vs : List VariableT) (t : Traits) (frames : List Frame) (k : Known)
    → is_external frames ≡ false → list_all has_no_base vs ≡ true
    → (map (λ v. v.region) (declared_variables vs t site.Own frames k).2.variables ≡ map (λ v. v.region) k.variables ++ own_regions (length k.objects) vs)
    × ((os : List ObjectR) × ((declared_variables vs t site.Own frames k).2.objects ≡ k.objects ++ os) × (length os ≡ length vs))
own_objects [] t frames k e bare = (sym (append-nil (map (λ (v : Variable). v.region) k.variables)), ([], sym (append-nil k.objects), refl))
own_objects (VariableOf n (Some base) ∷ vs) t frames k e bare = absurd (true≢false (sym bare))
own_objects (VariableOf n None ∷ vs) t frames k e bare =
    let r = declared_variable (VariableOf n None) t site.Own frames k in
    let one = one_own n t frames k e in
    let rest = own_objects vs t r.0 r.1 (external_stays (normal n.text) _ frames ∙ e) bare in
    let more : length r.1.objects ≡ suc (length k.objects) = ap length one.objects ∙ length-append k.objects (one.object ∷ []) ∙ omega arith in
    let regions = map (λ (v : Variable). v.region) k.variables in (
      rest.0
          ∙ ap (λ (xs : List Region). xs ++ own_regions (length r.1.objects) vs) one.regions
          ∙ append_assoc regions (region.Ram (length k.objects) 0 ∷ []) (own_regions (length r.1.objects) vs)
          ∙ ap (λ (m : ℕ). regions ++ region.Ram (length k.objects) 0 ∷ own_regions m vs) more,
      (
        one.object ∷ rest.1.0,
        rest.1.1 ∙ ap (λ (xs : List ObjectR). xs ++ rest.1.0) one.objects ∙ append_assoc k.objects (one.object ∷ []) rest.1.0,
        ap suc rest.1.2,
      ),
    )

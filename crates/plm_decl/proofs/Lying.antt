-- Views stay in their objects: objects keep their sizes, and further ones come after them.
use Rattle.std.proofs.Common.{◌≡◌, ℕ, zero, suc, ◌+◌, ◌*◌, ◌≤◌, List, [], ◌∷◌, ◌++◌, length, Bool, true, false, ◌&&◌, Option, Some, None, nat_le, nat_eq, refl, ap, ◌∙◌, arith}
use Rattle.std.proofs.lemmas.Bool.{and_parts}
use Rattle.std.specs.Prelude.{slice_get, slice_set}
use Rattle.std.specs.List.{list_all}
use Rattle.std.proofs.lemmas.Bool.Decides.{nat_tests}
use Rattle.word86.specs.declared.number.Number.{Number}
use Rattle.word86.specs.MemoryMap.{data_room}
use Rattle.word86.specs.Page.{page_size}
use Rattle.plm_syntax.specs.declared.tree.Position.{Position}
use Rattle.plm_decl.specs.declared.names.Region.{Region}
use Rattle.plm_decl.specs.declared.names.Region.TheVariants as region
use Rattle.plm_decl.specs.declared.names.Variable.{Variable}
use Rattle.plm_decl.specs.Layout.{counted, elements}
use Rattle.plm_decl.specs.Names.{ObjectR}
use Rattle.plm_decl.specs.Resolver.{Known, note_unless}
use Rattle.plm_decl.specs.Joins.{same_dimension, same_form, same_type, with_region, bytes_from, have_room}
use Rattle.plm_decl.specs.Regions.{size_at}
use Rattle.plm_decl.specs.Lying.{region_holds, view_lies, views_lie}
use Rattle.plm_decl.specs.Inner.Regions.{counted_holds, span, lies_in}
use Rattle.plm_decl.proofs.Kept.{both}

pub le_more : (a b c : ℕ) → nat_le a b ≡ true → b ≤ c → nat_le a c ≡ true
le_more a b c h g = grind (arith, nat_tests)

pub all_weaker : {X : Type 0} (p q : X → Bool) (xs : List X) → ((x : X) → p x ≡ true → q x ≡ true) → list_all p xs ≡ true → list_all q xs ≡ true
all_weaker p q [] f h = refl
all_weaker p q (x ∷ xs) f h = both (f x (and_parts (p x) (list_all p xs) h).0) (all_weaker p q xs f (and_parts (p x) (list_all p xs) h).1)

holds_more : (os more : List ObjectR) (size : ℕ) (r : Region) → ((i : ℕ) → size_at os i ≤ size_at more i) → counted_holds os size r ≡ true → counted_holds more size r ≡ true
holds_more os more size (region.Ram object offset) f h = le_more (counted (offset + size)) (size_at os object) (size_at more object) h (f object)
holds_more os more size (region.Screen page offset) f h = h
holds_more os more size (region.Based v) f h = refl
holds_more os more size region.Nowhere f h = refl

all_more : (os more : List ObjectR) (vs : List Variable) → ((i : ℕ) → size_at os i ≤ size_at more i) → list_all (lies_in os) vs ≡ true → list_all (lies_in more) vs ≡ true
all_more os more vs f h = all_weaker (lies_in os) (lies_in more) vs (λ v. holds_more os more (span v) v.region f) h

-- ---- one more object

size_pushed : (os : List ObjectR) (x : ObjectR) (i : ℕ) → size_at os i ≤ size_at (os ++ x ∷ []) i
size_pushed [] x i = omega arith
size_pushed (o ∷ os) x zero = omega arith
size_pushed (o ∷ os) x (suc i) = size_pushed os x i

pub pushed_lie : (os : List ObjectR) (x : ObjectR) (vs : List Variable) → list_all (lies_in os) vs ≡ true → list_all (lies_in (os ++ x ∷ [])) vs ≡ true
pushed_lie os x vs h = all_more os (os ++ x ∷ []) vs (size_pushed os x) h

size_last : (os : List ObjectR) (x : ObjectR) → size_at (os ++ x ∷ []) (length os) ≡ x.size
size_last [] x = refl
size_last (o ∷ os) x = size_last os x

pub last_lies : (os : List ObjectR) (x : ObjectR) → counted_holds (os ++ x ∷ []) x.size (region.Ram (length os) 0) ≡ true
last_lies os x = let e = size_last os x in grind (arith, nat_tests)

-- ---- one more initial value

size_set : (os : List ObjectR) (j : ℕ) (x y : ObjectR) (i : ℕ) → slice_get os j ≡ Some x → y.size ≡ x.size → size_at os i ≤ size_at (slice_set os j y) i
size_set [] j x y i e s = omega arith
size_set (o ∷ os) zero x y zero e s = let same : Some o ≡ Some x = e in let f : size_at (o ∷ os) 0 ≡ x.size = ap size_of_some same in omega (arith, f, s)
  where
    size_of_some : Option ObjectR → ℕ
    size_of_some None = 0
    size_of_some (Some o) = o.size
size_set (o ∷ os) zero x y (suc i) e s = omega arith
size_set (o ∷ os) (suc j) x y zero e s = omega arith
size_set (o ∷ os) (suc j) x y (suc i) e s = size_set os j x y i e s

pub set_lie : (os : List ObjectR) (j : ℕ) (x y : ObjectR) (vs : List Variable) → slice_get os j ≡ Some x → y.size ≡ x.size
    → list_all (lies_in os) vs ≡ true → list_all (lies_in (slice_set os j y)) vs ≡ true
set_lie os j x y vs e s h = all_more os (slice_set os j y) vs (λ i. size_set os j x y i e s) h

-- ---- faults

pub noted_objects : (b : Bool) (n : Number) (p : Position) (k : Known) → (note_unless b n p k).objects ≡ k.objects
noted_objects true n p k = refl
noted_objects false n p k = refl

-- ---- joining

same_elements : (d e : Option ℕ) → same_dimension d e ≡ true → elements d ≡ elements e
same_elements None None h = refl
same_elements None (Some n) h = cc
same_elements (Some m) None h = cc
same_elements (Some m) (Some n) h = grind (arith, nat_tests)

same_span : (k : Known) (v w : Variable) → same_type k (Some v) (Some w) ≡ true → span v ≡ span w
same_span k v w h =
    let strides = nat_eq v.stride w.stride in
    let forms = same_form k v.form w.form in
    let one = same_elements v.dimension w.dimension (and_parts (same_dimension v.dimension w.dimension) (strides && forms) h).0 in
    let two = equal v.stride w.stride (and_parts strides forms (and_parts (same_dimension v.dimension w.dimension) (strides && forms) h).1).0 in
    (λ j. counted (two j * one j))
  where
    equal : (m n : ℕ) → nat_eq m n ≡ true → m ≡ n
    equal m n e = grind (arith, nat_tests)

-- an EXTERNAL variable in its PUBLIC one's region
pub joined_lies : (k : Known) (os : List ObjectR) (v w : Variable) → same_type k (Some v) (Some w) ≡ true → lies_in os w ≡ true → lies_in os (with_region w.region v) ≡ true
joined_lies k os v w h g = ap (λ (n : ℕ). counted_holds os n w.region) (same_span k v w h) ∙ g

-- ---- the finished tables, in which no number of bytes is above the room for data

pub first_bytes : (b : ℕ) (os : List ObjectR) → counted b ≤ bytes_from b os
first_bytes b [] = omega arith
first_bytes b (o ∷ os) = let rest = first_bytes (counted (b + o.size)) os in omega (arith, rest)

size_most : (b : ℕ) (os : List ObjectR) (i : ℕ) → bytes_from b os ≤ data_room → size_at os i ≤ data_room
size_most b [] i h = omega arith
size_most b (o ∷ os) zero h = let first = first_bytes (counted (b + o.size)) os in omega (arith, first, h)
size_most b (o ∷ os) (suc i) h = size_most (counted (b + o.size)) os i h

uncounted : (offset size most : ℕ) → most ≤ data_room → nat_le (counted (offset + counted size)) most ≡ true → nat_le (offset + size) most ≡ true
uncounted offset size most h g = grind (arith, nat_tests)

holds_plainly : (os : List ObjectR) (size : ℕ) (r : Region) → ((i : ℕ) → size_at os i ≤ data_room) → counted_holds os (counted size) r ≡ true → region_holds os size r ≡ true
holds_plainly os size (region.Ram object offset) f h = uncounted offset size (size_at os object) (f object) h
holds_plainly os size (region.Screen page offset) f h = uncounted offset size page_size (omega arith) h
holds_plainly os size (region.Based v) f h = refl
holds_plainly os size region.Nowhere f h = refl

pub lie_plainly : (os : List ObjectR) (vs : List Variable) → have_room os ≡ true → list_all (lies_in os) vs ≡ true → views_lie os vs ≡ true
lie_plainly os vs room h =
    let most : bytes_from 0 os ≤ data_room = grind (arith, nat_tests) in
    all_weaker (lies_in os) (view_lies os) vs (λ v. holds_plainly os (v.stride * elements v.dimension) v.region (λ i. size_most 0 os i most)) h

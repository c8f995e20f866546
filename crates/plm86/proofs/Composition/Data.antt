-- What a ROM has for the initial bytes of objects: for each stretch of them at most as much as for a node of code, and the bytes themselves.
use Rattle.std.proofs.Common.{◌≡◌, ℕ, zero, suc, ◌+◌, ◌-◌, ◌*◌, ◌<◌, ◌≤◌, ◌⊎◌, ◌&&◌, Bool, true, false, List, [], ◌∷◌, ◌++◌, length, map, inl, inr, ⊎_elim, true≢false, refl, sym, ap, ◌∙◌, subst, arith, append_assoc, length-append}
use Rattle.std.specs.Prelude.{◌==◌, cond, if◌then◌else◌, nat_lt, nat_le, slice_index}
use Rattle.std.proofs.lemmas.Bool.{cases_lt, cases_eq, and_parts, eqb-true, ne_eqb, ltb-true, lt-ltb, le-ltb, le-leb, lt-leb, and_right}
use Rattle.std.proofs.Math.Seq.{get_or-append_seam}
use Rattle.word86.specs.MemoryMap.{data_start}
use Rattle.plm_decl.specs.declared.names.Datum.{Datum}
use Rattle.plm_decl.specs.declared.names.Datum.TheVariants as datum
use Rattle.plm_decl.specs.declared.names.Names.{Names}
use Rattle.plm_decl.specs.declared.names.Object.{Object}
use Rattle.plm_decl.specs.declared.names.Variable.{Variable}
use Rattle.plm_decl.specs.Initial.{datum_bytes, initial_bytes}
use Rattle.plm_decl.specs.Names.{object_of}
use Rattle.plm_type.specs.Nodes.{datum_size, data_size, objects_size, initial_size, begins, is_filled, stretches_nodes}
use Rattle.layout_link.specs.declared.tasks.Task.TheVariants as tasks
use Rattle.layout_link.specs.Initial.{Stretch, stretch, joined, puts, is_copied, stretch_tasks, copied, copies_with, object_bytes, stretches, data_tasks, copied_bytes, count_of}
use Rattle.layout_link.specs.Linker.{offsets_in, stretches_in, initial_in}
use Rattle.layout_link.specs.Objects.{offsets_from}
use Rattle.layout_link.specs.Tasks.{bytes_of_tasks}
use Rattle.plm86.proofs.Composition.Stretches.{by_joined, joined_on, joined_apart}
use Rattle.plm86.proofs.Composition.Vectors.{bytes_append}

-- ---- stretches

-- 1 if there are any
abbrev some : ℕ → ℕ
some zero = 0
some (suc n) = 1

-- how many have bytes
abbrev filled : List Stretch → ℕ
filled [] = 0
filled (stretch to bytes ∷ rest) = some (length bytes) + filled rest

abbrev total : List Stretch → ℕ
total [] = 0
total (stretch to bytes ∷ rest) = length bytes + total rest

some_few : (n : ℕ) → (some n ≤ 1) × (some n ≤ n)
some_few zero = (omega arith, omega arith)
some_few (suc n) = (omega arith, omega arith)

some_if : (n : ℕ) → 0 < n → some n ≡ 1
some_if zero lt = absurd (omega (arith, lt))
some_if (suc n) lt = refl

some_small : (n : ℕ) → n < 5 → n ≤ 4 * some n
some_small zero lt = omega arith
some_small (suc n) lt = omega (arith, lt)

some_sum : (x y : ℕ) → some (x + y) ≤ some x + some y
some_sum x y =
    let few = some_few (x + y) in
    let one = few.0 in
    let none = few.1 in
    elim (cases_lt 0 x) [
      | inl lt ↦ let s = some_if x lt in omega (arith, one, s)
      | inr le ↦ elim (cases_lt 0 y) [
        | inl lt ↦ let s = some_if y lt in omega (arith, one, s)
        | inr le' ↦ omega (arith, none, le, le')
      ]
    ]

-- ---- what a stretch takes

puts_room : (to : ℕ) (bytes : List ℕ) → bytes_of_tasks (puts to bytes) ≤ 3 * length bytes + 2 * some (length bytes)
puts_room to [] = omega arith
puts_room to (a ∷ []) = omega arith
puts_room to (a ∷ b ∷ rest) = let h = puts_room (to + 2) rest in let few = (some_few (length rest)).0 in omega (arith, h, few)

-- a stretch is copied, or has fewer than five bytes, or 840 were copied before it
decided : (P : Bool → Type 0) (copies count : ℕ) → (copies < 840 → 5 ≤ count → P true) → (count < 5 → P false) → (840 ≤ copies → P false) → P (is_copied copies count)
decided P copies count f g h =
    elim (cases_lt copies 840) [
      | inl few ↦ elim (cases_lt count 5) [
        | inl small ↦ subst P (sym (and_right (nat_lt copies 840) (nat_le 5 count) (not_le small))) (g small)
        | inr large ↦ subst P (sym (ap (λ b. b && nat_le 5 count) (lt-ltb copies 840 few) ∙ le-leb 5 count large)) (f few large)
      ]
      | inr many ↦ subst P (sym (ap (λ b. b && nat_le 5 count) (le-ltb copies 840 many))) (h many)
    ]
  where
    not_le : count < 5 → nat_le 5 count ≡ false
    not_le lt = lt-leb 5 count lt

-- after some copies each that is left of the 840 stands for 44 bytes more that may be put
pub stretches_room : (at copies : ℕ) (ss : List Stretch) → copies ≤ 840
    → bytes_of_tasks (data_tasks at copies ss) + length (copied_bytes copies ss) ≤ 46 * filled ss + total ss + (2 * total ss - 44 * (840 - copies))
stretches_room at copies [] le = omega arith
stretches_room at copies (stretch to bytes ∷ rest) le =
    let n = length bytes in
    let tasks_are = bytes_append (stretch_tasks at copies to bytes) (data_tasks (at + length (copied copies bytes)) (copies_with copies bytes) rest) in
    let copied_are = length-append (copied copies bytes) (copied_bytes (copies_with copies bytes) rest) in
    let all = decided
    (λ b. bytes_of_tasks (if b then tasks.Copy at to (n - 1) ∷ [] else puts to bytes) + bytes_of_tasks (data_tasks (at + length (if b then bytes else [])) (if b then copies + 1 else copies) rest)
    + (length (if b then bytes else []) + length (copied_bytes (if b then copies + 1 else copies) rest))
    ≤ 46 * (some n + filled rest) + (n + total rest) + (2 * (n + total rest) - 44 * (840 - copies)))
    copies n
    (λ few large. let h = stretches_room (at + n) (copies + 1) rest (omega (arith, few)) in let s = some_if n (omega (arith, large)) in omega (arith, h, s, few, large))
    (λ small. let h = stretches_room (at + 0) copies rest le in let p = puts_room to bytes in let s = some_small n small in omega (arith, h, p, s, small))
    (λ many. let h = stretches_room (at + 0) copies rest le in let p = puts_room to bytes in omega (arith, h, p, many, le)) in
    omega (arith, tasks_are, copied_are, all)

-- ---- objects one after another

module _ (offsets : List ℕ) where
  -- the objects from the k-th on lie so, from this offset on
  abbrev Lie : (k next : ℕ) → List Object → Type 0
  Lie k next [] = Unit {0}
  Lie k next (o ∷ os) = (slice_index offsets k ≡ next) × Lie (k + 1) (next + o.size) os

  all_lie : (before : List ℕ) (next : ℕ) (os : List Object) → offsets ≡ before ++ offsets_from next (map (λ o. o.size) os) → Lie (length before) next os
  all_lie before next [] e = tt
  all_lie before next (o ∷ os) e =
      let behind = offsets_from (next + o.size) (map (λ p. p.size) os) in
      let long : length (before ++ next ∷ []) ≡ length before + 1 = length-append before (next ∷ []) in (
        ap (λ l. slice_index l (length before)) e ∙ get_or-append_seam before next behind 0,
        subst (λ k. Lie k (next + o.size) os) long (all_lie (before ++ next ∷ []) (next + o.size) os (e ∙ sym (append_assoc before (next ∷ []) behind))),
      )

  module _ (variables : List Variable) where
    datum_length : (d : Datum) → length (datum_bytes offsets variables d) ≡ datum_size d
    datum_length (datum.Byte b) = refl
    datum_length (datum.Word w) = refl
    datum_length (datum.Variable v n) = refl
    datum_length (datum.Constants k) = refl

    initial_length : (ds : List Datum) → length (initial_bytes offsets variables ds) ≡ data_size ds
    initial_length [] = refl
    initial_length (d ∷ ds) =
        let h = initial_length ds in
        omega (arith, h, datum_length d, length-append (datum_bytes offsets variables d) (initial_bytes offsets variables ds))

    -- all objects together have no more bytes than their values
    pub bytes_few : (os : List Object) → count_of offsets variables os ≤ objects_size (map object_of os)
    bytes_few [] = omega arith
    bytes_few (o ∷ os) = let h = bytes_few os in omega (arith, h, initial_length o.initial.items)

    -- nor have their stretches
    total_joined : (a : ℕ) (xs : List ℕ) (ss : List Stretch) → total (joined a xs ss) ≡ length xs + total ss
    total_joined a xs [] = refl
    total_joined a xs (stretch b ys ∷ rest) =
        let l = length-append xs ys in
        by_joined (λ all. total all ≡ length xs + (length ys + total rest)) a xs b ys rest (λ e. omega (arith, l)) refl

    total_is : (k : ℕ) (os : List Object) → total (stretches offsets variables k os) ≡ objects_size (map object_of os)
    total_is k [] = refl
    total_is k (o ∷ os) =
        let h = total_is (k + 1) os in
        let l = initial_length o.initial.items in
        total_joined (data_start + slice_index offsets k) (object_bytes offsets variables o) (stretches offsets variables (k + 1) os) ∙ omega (arith, h, l)

    -- ---- how many stretches begin

    begins_if : (d : ℕ) → cond (d == 0) 0 1 ≡ some d
    begins_if zero = refl
    begins_if (suc n) = ap (λ b. cond b 0 1) (ne_eqb (suc n) 0 (λ e. absurd (omega (arith, e))))

    module _ (o : Object) where
      abbrev bytes : List ℕ
      bytes = object_bytes offsets variables o

      abbrev size : ℕ
      size = data_size o.initial.items

      -- where RAM is filled up to an object's end, it was filled before, or the object has bytes
      ends : (full : Bool) → is_filled full (object_of o) ≡ true → (size ≡ o.size) × ((full ≡ true) ⊎ (0 < size))
      ends true e = (eqb-true size o.size (and_parts (size == o.size) true e).0, inl refl)
      ends false e =
          let both = and_parts (size == o.size) (nat_lt 0 o.size) e in
          let same = eqb-true size o.size both.0 in
          let own = ltb-true 0 o.size both.1 in
          (same, inr (omega (arith, same, own)))

      goes_on : (full : Bool) (x : ℕ) → (full ≡ true → 0 < x) → some (x + size) ≤ some x + begins full (object_of o)
      goes_on true x h = let s = some_if x (h refl) in let few = some_few (x + size) in let one = few.0 in omega (arith, s, one)
      goes_on false x h = let s = some_sum x size in let b = begins_if size in omega (arith, s, b)

      begins_own : (full : Bool) → (full ≡ true → ⊥) → some size ≤ begins full (object_of o)
      begins_own true h = absurd (h refl)
      begins_own false h = let b = begins_if size in omega (arith, b)

    -- so an object whose bytes begin a stretch ends where the next one begins, if RAM is filled up to its end
    ends_own : (k next : ℕ) (o : Object) (full : Bool) → slice_index offsets k ≡ next → (full ≡ true → ⊥) → is_filled full (object_of o) ≡ true
        → (0 < length (object_bytes offsets variables o)) × (data_start + (next + o.size) ≡ data_start + slice_index offsets k + length (object_bytes offsets variables o))
    ends_own k next o full here not_full t =
        let end = ends o full t in
        let same = end.0 in
        let long = initial_length o.initial.items in
        (⊎_elim (λ before. absurd (not_full before)) (λ own. omega (arith, long, own)) end.1, omega (arith, long, same, here))

    -- bytes, and then the objects from the k-th on; `full` is true only if there are some and they end where the objects begin
    filled_few : (k next : ℕ) (os : List Object) (a : ℕ) (xs : List ℕ) (full : Bool) → Lie k next os → (full ≡ true → (0 < length xs) × (data_start + next ≡ a + length xs))
        → filled (joined a xs (stretches offsets variables k os)) ≤ some (length xs) + stretches_nodes full (map object_of os)
    filled_few k next [] a xs full lie h = omega arith
    filled_few k next (o ∷ os) a xs full lie h =
        let b = data_start + slice_index offsets k in
        let ys = object_bytes offsets variables o in
        let rest = stretches offsets variables (k + 1) os in
        let long = initial_length o.initial.items in
        let here = lie.0 in
        elim (cases_eq b (a + length xs)) [
          | inl e ↦
              let both = length-append xs ys in
              let one = ap filled (joined_on a xs b ys rest e) in
              let some_are : some (length (xs ++ ys)) ≡ some (length xs + size o) = ap some (omega (arith, both, long)) in
              let few = goes_on o full (length xs) (λ t. (h t).0) in
              let others = filled_few (k + 1) (next + o.size) os a (xs ++ ys) (is_filled full (object_of o)) lie.1
              (λ t. let end = ends o full t in
              let same = end.0 in
              (⊎_elim (λ before. let lt = (h before).0 in omega (arith, both, lt)) (λ own. omega (arith, both, long, own)) end.1, omega (arith, both, long, same, e, here))) in
              omega (arith, one, some_are, few, others)
          | inr ne ↦
              let not_full : full ≡ true → ⊥ = λ t. ne (let e = (h t).1 in omega (arith, e, here)) in
              let apart = ap filled (joined_apart a xs b ys rest ne) in
              let own_are : some (length ys) ≡ some (size o) = ap some long in
              let few = begins_own o full not_full in
              let others = filled_few (k + 1) (next + o.size) os b ys (is_filled full (object_of o)) lie.1 (ends_own k next o full here not_full) in
              omega (arith, apart, own_are, few, others)
        ]

    -- no more have bytes than begin
    stretches_few : (next : ℕ) (os : List Object) → Lie 0 next os → filled (stretches offsets variables 0 os) ≤ stretches_nodes false (map object_of os)
    stretches_few next [] lie = omega arith
    stretches_few next (o ∷ os) lie =
        let never : false ≡ true → ⊥ = λ t. true≢false (sym t) in
        let own_are : some (length (object_bytes offsets variables o)) ≡ some (size o) = ap some (initial_length o.initial.items) in
        let few = begins_own o false never in
        let others = filled_few (0 + 1) (next + o.size) os (data_start + slice_index offsets 0) (object_bytes offsets variables o) (is_filled false (object_of o)) lie.1 (ends_own 0 next o false lie.0 never) in
        omega (arith, own_are, few, others)

-- ---- all objects

pub data_room : (names : Names) → bytes_of_tasks (data_tasks 0 0 (stretches_in names)) + length (initial_in names)
    ≤ 46 * stretches_nodes false (map object_of names.objects.items) + initial_size names + (2 * initial_size names - 36960)
data_room names =
    let offsets = offsets_in names in
    let os = names.objects.items in
    let room = stretches_room 0 0 (stretches_in names) (omega arith) in
    let few = stretches_few offsets names.variables.items 2 os (all_lie offsets [] 2 os refl) in
    let all = total_is offsets names.variables.items 0 os in
    omega (arith, room, few, all)

-- Start-up leaves the program's first store.
use Rattle.std.proofs.Common.{◌≡◌, ℕ, ◌+◌, ◌*◌, ◌-◌, ◌/◌, ◌%◌, ◌<◌, ◌≤◌, inl, inr, List, [], length, map, Option, Some, None, refl, sym, ap, ◌∙◌, subst, arith}
use Rattle.std.specs.Prelude.{slice_get, slice_index, slice_index_or, position}
use Rattle.std.specs.List.{All}
use Rattle.std.specs.Option.{option_map_or}
use Rattle.std.proofs.lemmas.Bool.{cases_lt, cases_order}
use Rattle.std.proofs.lemmas.Option.{slice_get_within, get_or_from_slice_get}
use Rattle.word86.specs.MemoryMap.{ram_size, vectors_size, code_segment, data_start, code_start, data_end}
use Rattle.word86.specs.declared.page.Page.{Page}
use Rattle.word86.specs.Page.{Pages, AreWhole, page_at, page_size, page_of}
use Rattle.plm_decl.specs.declared.names.Names.{Names}
use Rattle.plm_decl.specs.declared.names.Object.{Object}
use Rattle.plm_decl.specs.Names.{object_of}
use Rattle.plm_decl.specs.Placement.{IsPlacement, sizes_of}
use Rattle.plm_meaning.specs.Opening.{object_at, objects_at, first_store}
use Rattle.select.specs.declared.part.Part.{Part}
use Rattle.layout_link.specs.declared.image.RomSize.{RomSize}
use Rattle.layout_link.specs.Image.{bytes_in}
use Rattle.layout_link.specs.Tasks.{serving, is_unserved, vector_tasks}
use Rattle.layout_link.specs.Initial.{object_bytes, HaveBytes, data_tasks}
use Rattle.layout_link.specs.Linker.{offsets_in, stretches_in, needed, places_in, place_of, initial_at, acts_in, InitialStands}
use Rattle.plm86.specs.Startup.{with_vectors, after_acts}
use Rattle.plm86.specs.Laws.{Assembly, power_on_memory, HoldsStore}
use Rattle.plm86.proofs.Machine.Vectors.{rounds_set, rounds_beside}
use Rattle.plm86.proofs.Composition.Acting.{done, done_append, vectors_beside, vectors_set}
use Rattle.plm86.proofs.Composition.Storing.{AreApart, AreLow, AreInRom, objects_beside, objects_set}
use Rattle.plm86.proofs.Composition.PowerOn.{in_ram, on_page, in_rom}
use Rattle.plm86.proofs.Composition.Selected.{largest_rom, chosen_low}
use Rattle.plm86.proofs.Composition.Opening.{size_at, size_past, object_is, object_past, object_long, object_first, object_rest}

-- the address of no initial byte of an object
abbrev pub IsNoInitial : Names → (a : ℕ) → Type 0
IsNoInitial names a =
    (k : ℕ) (o : Object) → slice_get names.objects.items k ≡ Some o
    → (i : ℕ) → i < length (object_bytes (offsets_in names) names.variables.items o) → a ≡ data_start + slice_index (offsets_in names) k + i → ⊥

module _ (names : Names) (parts : List Part) (size : RomSize) (rom ram : List ℕ) (screen : Pages) (ram_long : length ram ≡ ram_size) where
  abbrev places : List ℕ
  places = places_in names parts size

  abbrev offset : ℕ → ℕ
  offset k = slice_index (offsets_in names) k

  abbrev initial : Object → List ℕ
  initial o = object_bytes (offsets_in names) names.variables.items o

  abbrev unserved : ℕ
  unserved = place_of names parts size is_unserved

  -- memory at power on, after the loop, after the tasks of vectors, and after those of objects
  abbrev powered : ℕ → ℕ
  powered = power_on_memory rom ram screen

  abbrev looped : ℕ → ℕ
  looped = with_vectors unserved 0 256 powered

  abbrev served : ℕ → ℕ
  served = done places (initial_at names parts size) (vector_tasks parts 0 256) looped

  abbrev filled : ℕ → ℕ
  filled = done places (initial_at names parts size) (data_tasks 0 0 (stretches_in names)) served

  -- what start-up leaves
  abbrev memory : ℕ → ℕ
  memory = after_acts (acts_in names parts size) looped

  memory_is : memory ≡ filled
  memory_is = done_append places (initial_at names parts size) (vector_tasks parts 0 256) (data_tasks 0 0 (stretches_in names)) looped

  -- above the vectors, memory is as it was
  above : (a : ℕ) → vectors_size ≤ a → served a ≡ powered a
  above a le =
      vectors_beside places (initial_at names parts size) parts 0 256 looped a (λ k ge lt. inr (omega (arith, le, lt)))
      ∙ rounds_beside unserved 0 256 powered a (inr (omega (arith, le)))

  -- what tasks of objects leave
  all_else : (a : ℕ) → IsNoInitial names a → memory a ≡ served a
  all_else a h =
      ap (λ m. m a) memory_is
      ∙ objects_beside places (initial_at names parts size) (offsets_in names) names.variables.items names.objects.items served a
      (λ j o e i lt at. let same : 0 + j ≡ j = omega arith in h j o e i lt (at ∙ ap (λ z. data_start + offset z + i) same))

  -- an address of RAM that is neither a vector's nor an initial byte's
  kept_beside : (a : ℕ) → vectors_size ≤ a → a < ram_size → IsNoInitial names a → memory a ≡ slice_index ram a
  kept_beside a le lt h = all_else a h ∙ above a le ∙ in_ram rom ram screen ram_long a lt

  module _ (whole : AreWhole screen) (rom_long : length rom ≡ bytes_in size) (fits : needed names parts ≤ bytes_in size) (stands : InitialStands names parts size rom)
      (have : HaveBytes (offsets_in names) names.variables.items names.objects.items) (fit : All (λ (o : Object). length (initial o) ≤ o.size) names.objects.items)
      (is : IsPlacement (offsets_in names) (sizes_of names)) where
    -- the byte of an object, by its place in the placement
    holds_byte : (k : ℕ) (o : Object) → slice_get names.objects.items k ≡ Some o → (i : ℕ) → i < o.size → (offset k ≤ offset k + i) × (offset k + i < offset k + slice_index (sizes_of names) k)
    holds_byte k o e i lt = let s = size_at names.objects.items k o e in (omega arith, omega (arith, lt, s.1))

    -- all objects lie in the data's room, and no two share a byte
    below : (k : ℕ) (o : Object) → slice_get names.objects.items k ≡ Some o → (i : ℕ) → i < o.size → offset k + i < data_end
    below k o e i lt = (is.within k (size_at names.objects.items k o e).0 (offset k + i) (holds_byte k o e i lt)).1

    apart : (j k : ℕ) (o p : Object) → slice_get names.objects.items j ≡ Some o → slice_get names.objects.items k ≡ Some p → j < k → (i l : ℕ) → i < o.size → l < p.size → offset j + i ≡ offset k + l → ⊥
    apart j k o p ej ek lt i l lti ltl same =
        is.apart k (size_at names.objects.items k p ek).0 j lt (offset j + i) (holds_byte j o ej i lti)
        (subst (λ b. (offset k ≤ b) × (b < offset k + slice_index (sizes_of names) k)) (sym same) (holds_byte k p ek l ltl))

    -- initial bytes are bytes of the object
    initial_fits : (k : ℕ) (o : Object) → slice_get names.objects.items k ≡ Some o → length (initial o) ≤ o.size
    initial_fits k o e = subst (λ (p : Object). length (initial p) ≤ p.size) (get_or_from_slice_get names.objects.items k o o e) (fit k o (slice_get_within names.objects.items k o e))

    has_room : (k : ℕ) (o : Object) → slice_get names.objects.items k ≡ Some o → (i : ℕ) → i < length (initial o) → i < o.size
    has_room k o e i lt = omega (arith, lt, initial_fits k o e)

    are_apart : AreApart (offsets_in names) names.variables.items 0 names.objects.items
    are_apart j h o p ej eh lt i l lti ltl same =
        let first : 0 + j ≡ j = omega arith in
        let second : 0 + h ≡ h = omega arith in
        apart j h o p ej eh lt i l (has_room j o ej i lti) (has_room h p eh l ltl) (ap (λ z. offset z + i) (sym first) ∙ same ∙ ap (λ z. offset z + l) second)

    are_low : AreLow (offsets_in names) names.variables.items 0 names.objects.items
    are_low j o e i lt = let same : j ≡ 0 + j = omega arith in subst (λ z. offset z + i < data_end) same (below j o e i (has_room j o e i lt))

    -- the bytes that are copied are in the ROM
    are_in_rom : AreInRom places (initial_at names parts size) 0 0 (stretches_in names) served
    are_in_rom j lt =
        let place = initial_at names parts size + j in
        let small = largest_rom size in
        let here : code_start + (initial_at names parts size + 0 + j) ≡ code_start + place = omega arith in
        ap served here ∙ above (code_start + place) (omega arith)
        ∙ in_rom rom ram screen ram_long whole place (omega (arith, lt, fits, small)) (omega (arith, rom_long, small)) (omega (arith, rom_long, small))
        ∙ stands j lt

    -- an initial byte of an object
    initial_set : (k : ℕ) (o : Object) → slice_get names.objects.items k ≡ Some o → (i : ℕ) → i < length (initial o) → memory (data_start + (offset k + i)) ≡ slice_index (initial o) i
    initial_set k o e i lt =
        let same : k ≡ 0 + k = omega arith in
        let here : data_start + (offset k + i) ≡ data_start + offset k + i = omega arith in
        ap memory here ∙ ap (λ m. m (data_start + offset k + i)) memory_is ∙ ap (λ z. filled (data_start + offset z + i)) same
        ∙ objects_set places (initial_at names parts size) (offsets_in names) names.variables.items names.objects.items served have are_apart are_low are_in_rom k o e i lt

    -- another byte of an object
    rest_kept : (k : ℕ) (o : Object) → slice_get names.objects.items k ≡ Some o → (i : ℕ) → length (initial o) ≤ i → i < o.size → memory (data_start + (offset k + i)) ≡ slice_index ram (data_start + offset k + i)
    rest_kept k o e i le lt =
        let low = below k o e i lt in
        let here : data_start + (offset k + i) ≡ data_start + offset k + i = omega arith in
        ap memory here ∙ kept_beside (data_start + offset k + i) (omega arith) (omega (arith, low)) beside
      where
        beside : IsNoInitial names (data_start + offset k + i)
        beside h p eh l ltl at =
            let clash : offset k + i ≡ offset h + l = omega (arith, at) in
            elim (cases_order h k) [
              | inl same ↦
                  let one : p ≡ o = cc in
                  let there : offset h ≡ offset k = ap offset same in
                  let long : length (initial p) ≡ length (initial o) = ap (λ z. length (initial z)) one in
                  absurd (omega (arith, clash, there, long, ltl, le))
              | inr (inl less) ↦ apart h k p o eh e less l i (has_room h p eh l ltl) lt (sym clash)
              | inr (inr more) ↦ apart k h o p e eh more i l lt (has_room h p eh l ltl) clash
            ]

    -- each object is as long as its size
    object_size : (k : ℕ) (o : Object) → slice_get names.objects.items k ≡ Some o → length (object_at (offsets_in names) names.variables.items ram (offset k) (object_of o)) ≡ o.size
    object_size k o e =
        object_long (offsets_in names) names.variables.items ram (offset k) (object_of o) (initial_fits k o e)
        (λ some. let last = below k o e (o.size - 1) (omega (arith, some)) in omega (arith, some, last, ram_long))

    abbrev objects : List (List ℕ)
    objects = objects_at (offsets_in names) names.variables.items ram (offsets_in names) (map object_of names.objects.items)

    -- the sizes and the bytes of the first store's objects
    all_sizes : (k : ℕ) → length (slice_index_or objects k []) ≡ slice_index (sizes_of names) k
    all_sizes k = by (slice_get names.objects.items k) refl
      where
        by : (o : Option Object) → slice_get names.objects.items k ≡ o → length (slice_index_or objects k []) ≡ slice_index (sizes_of names) k
        by None e = ap length (object_past (offsets_in names) names.variables.items ram (offsets_in names) names.objects.items k e) ∙ sym (size_past names.objects.items k e)
        by (Some o) e =
            ap length (object_is (offsets_in names) names.variables.items ram (offsets_in names) names.objects.items k o is.each e)
            ∙ object_size k o e ∙ sym (size_at names.objects.items k o e).1

    all_bytes : (k i : ℕ) → i < length (slice_index_or objects k []) → memory (data_start + (offset k + i)) ≡ slice_index (slice_index_or objects k []) i
    all_bytes k i lt = by (slice_get names.objects.items k) refl
      where
        by : (o : Option Object) → slice_get names.objects.items k ≡ o → memory (data_start + (offset k + i)) ≡ slice_index (slice_index_or objects k []) i
        by None e = absurd (omega (arith, lt, ap length (object_past (offsets_in names) names.variables.items ram (offsets_in names) names.objects.items k e)))
        by (Some o) e =
            let here = object_is (offsets_in names) names.variables.items ram (offsets_in names) names.objects.items k o is.each e in
            let long = object_size k o e in
            let inside : i < o.size = omega (arith, lt, ap length here, long) in
            elim (cases_lt i (length (initial o))) [
              | inl first ↦ initial_set k o e i first ∙ sym (ap (λ l. slice_index l i) here ∙ object_first (offsets_in names) names.variables.items ram (offset k) (object_of o) i first)
              | inr rest ↦ rest_kept k o e i rest inside ∙ sym (ap (λ l. slice_index l i) here ∙ object_rest (offsets_in names) names.variables.items ram (offset k) (object_of o) i rest inside)
            ]

    -- the pages are as they were
    page_kept : (page : Page) (i : ℕ) → i < page_size → memory (page_at page + i) ≡ slice_index (page_of page screen) i
    page_kept page i lt =
        all_else (page_at page + i) (λ k o e j less at. let low = below k o e j (has_room k o e j less) in absurd (omega (arith, at, low)))
        ∙ above (page_at page + i) (omega arith) ∙ on_page rom ram screen ram_long whole page i lt

  -- the place to which a vector leads
  abbrev entry : ℕ → ℕ
  entry n = option_map_or (λ p. slice_index places p) (serving parts n) unserved

  vector_kept : (a : ℕ) → a < vectors_size → memory a ≡ served a
  vector_kept a lt = all_else a (λ k o e i less at. absurd (omega (arith, at, lt)))

  -- each vector leads to its entry
  vector_is : (n : ℕ) → n < 256 → (memory (4 * n) ≡ entry n % 256) × (memory (4 * n + 1) ≡ entry n / 256) × (memory (4 * n + 2) ≡ code_segment % 256) × (memory (4 * n + 3) ≡ code_segment / 256)
  vector_is n lt =
      let loop = rounds_set unserved 0 256 powered n (omega arith) (omega (arith, lt)) in
      let set = vectors_set places (initial_at names parts size) parts 0 256 looped unserved n (omega arith) (omega (arith, lt)) loop.0 loop.1 in
      let beside : (i : ℕ) → 2 ≤ i → i < 4 → served (4 * n + i) ≡ looped (4 * n + i) =
      λ i ge less. vectors_beside places (initial_at names parts size) parts 0 256 looped (4 * n + i) (λ k zero_le k_less. elim (cases_lt n k) [
        | inl before ↦ inl (omega (arith, before, less))
        | inr behind ↦ inr (omega (arith, behind, ge))
      ]) in (
        vector_kept (4 * n) (omega (arith, lt)) ∙ set.0,
        vector_kept (4 * n + 1) (omega (arith, lt)) ∙ set.1,
        vector_kept (4 * n + 2) (omega (arith, lt)) ∙ beside 2 (omega arith) (omega arith) ∙ loop.2,
        vector_kept (4 * n + 3) (omega (arith, lt)) ∙ beside 3 (omega arith) (omega arith) ∙ loop.3,
      )

-- Where the linker's promises hold, start-up leaves the program's first store in memory, and the chips as they were.
pub first_store_stands : {P : Type 0} (x : Assembly) (names : Names) (parts : List Part) (size : RomSize) (rom ram : List ℕ) (screen : Pages) (chips : P)
    → length ram ≡ ram_size → AreWhole screen → length rom ≡ bytes_in size
    → needed names parts ≤ bytes_in size
    → InitialStands names parts size rom
    → HaveBytes (offsets_in names) names.variables.items names.objects.items
    → All (λ (o : Object). length (object_bytes (offsets_in names) names.variables.items o) ≤ o.size) names.objects.items
    → IsPlacement (offsets_in names) (sizes_of names)
    → ((v : ℕ) → x.entry v ≡ option_map_or (λ p. slice_index (places_in names parts size) p) (serving parts v) (place_of names parts size is_unserved))
    → ((part : ℕ) → slice_index (places_in names parts size) part < 65536)
    → ((k : ℕ) → x.placed k ≡ slice_index (offsets_in names) k) → ((k : ℕ) → x.size k ≡ slice_index (sizes_of names) k)
    → HoldsStore x (first_store ram screen (offsets_in names) names.variables.items (map object_of names.objects.items) chips)
    (after_acts (acts_in names parts size) (with_vectors (place_of names parts size is_unserved) 0 256 (power_on_memory rom ram screen)))
    × ((first_store ram screen (offsets_in names) names.variables.items (map object_of names.objects.items) chips).chips ≡ chips)
first_store_stands x names parts size rom ram screen chips ram_long whole rom_long fits stands have fit is entries within placed sized =
    let left = after_acts (acts_in names parts size) (with_vectors (place_of names parts size is_unserved) 0 256 (power_on_memory rom ram screen)) in
    let places = places_in names parts size in
    let unserved_small = chosen_low places within (position (λ p. is_unserved p.entry) parts) 0 (omega arith) in (
      record {
        entries = λ n lt. let e = entries n in let small = chosen_low places within (serving parts n) (place_of names parts size is_unserved) unserved_small in omega (arith, e, small);
        vectors = λ n lt. let v = vector_is names parts size rom ram screen ram_long n lt in let e = entries n in
            (v.0 ∙ ap (λ z. z % 256) (sym e), v.1 ∙ ap (λ z. z / 256) (sym e), v.2, v.3);
        bytes = λ k i lt. ap (λ z. left (data_start + (z + i))) (placed k) ∙ all_bytes names parts size rom ram screen ram_long whole rom_long fits stands have fit is k i lt;
        screen = λ page i lt. page_kept names parts size rom ram screen ram_long whole rom_long fits stands have fit is page i lt;
        sizes = λ k. all_sizes names parts size rom ram screen ram_long whole rom_long fits stands have fit is k ∙ sym (sized k);
        screen_size = whole;
      },
      refl,
    )

-- Start-up keeps each byte of RAM that is neither a vector's nor an initial byte's.
pub keeps_others : (names : Names) (parts : List Part) (size : RomSize) (rom ram : List ℕ) (screen : Pages) → length ram ≡ ram_size
    → (a : ℕ) → vectors_size ≤ a → a < ram_size → IsNoInitial names a
    → after_acts (acts_in names parts size) (with_vectors (place_of names parts size is_unserved) 0 256 (power_on_memory rom ram screen)) a ≡ slice_index ram a
keeps_others names parts size rom ram screen ram_long a le lt h = kept_beside names parts size rom ram screen ram_long a le lt h

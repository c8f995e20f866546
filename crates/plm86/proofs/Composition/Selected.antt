-- The image of a program put together is as selection asks.
use Rattle.std.proofs.Common.{◌≡◌, ℕ, zero, suc, ◌+◌, ◌-◌, ◌/◌, ◌<◌, ◌≤◌, Bool, true, false, List, [], ◌∷◌, length, option_map, Option, Some, None, refl, sym, ap, ◌∙◌, subst, arith}
use Rattle.std.specs.Prelude.{slice_get, slice_index, position}
use Rattle.std.specs.Option.{option_map_or}
use Rattle.std.proofs.lemmas.List.Quantifiers.{position-Some}
use Rattle.std.proofs.lemmas.Option.{none-some, slice_get-map}
use Rattle.word86.specs.MemoryMap.{stack_room}
use Rattle.icode.specs.declared.instruction.Instruction.{Instruction}
use Rattle.icode.specs.declared.instruction.Instruction.TheVariants as op
use Rattle.icode.specs.declared.code.Procedure as declared
use Rattle.icode.specs.declared.code.Routine.{Routine}
use Rattle.icode.specs.declared.code.Routine.TheVariants.{Main, Procedure, Unserved, Nowhere}
use Rattle.icode.specs.declared.code.Code.{Code}
use Rattle.icode.specs.declared.registers.Registers.{Registers}
use Rattle.icode.specs.Code.{code_of, procedure_or_none}
use Rattle.icode.specs.Vectors.{is_number}
use Rattle.icode.specs.Counted.{IsHandler, HasVector}
use Rattle.icode.specs.Heights.{instructions_of}
use Rattle.icode.specs.Registers.{none}
use Rattle.plm_decl.specs.declared.names.Names.{Names}
use Rattle.plm_decl.specs.Placement.{sizes_of}
use Rattle.lower.specs.Lowering.{has_vector, serves, vectors_of, program_code}
use Rattle.select.specs.declared.part.Part.{Part}
use Rattle.select.specs.Linked.{AllStand}
use Rattle.select.specs.Promise.{IsCallable, IsSelected}
use Rattle.select.specs.Rows.{first_of, routine}
use Rattle.select.specs.Selection.{routines, part_of, is_procedure}
use Rattle.select.specs.Sizes.{start}
use Rattle.layout_link.specs.declared.image.RomSize.{RomSize}
use Rattle.layout_link.specs.declared.image.RomSize.TheVariants as kib
use Rattle.layout_link.specs.Image.{bytes_in, base_of}
use Rattle.layout_link.specs.Linker.{offsets_in, start_up_in, places_in, place_of}
use Rattle.layout_link.specs.Places.{places_from}
use Rattle.layout_link.specs.Rom.{rom_code, rom_words}
use Rattle.layout_link.specs.Tasks.{is_main, is_unserved, is_serving}
use Rattle.layout_link.specs.Tasks as tasks
use Rattle.plm86.specs.Relation.{Finds}
use Rattle.plm86.specs.Inner.Assembled.{IsAssembled, step_at, entry_at, sizes_in, part_number, is_main_routine, find_from, image_of}
use Rattle.plm86.specs.Inner.Images.{IsImageOf}
use Rattle.plm86.proofs.Composition.Finding.{finds_held, finds}
use Rattle.plm86.proofs.Composition.Orders.{Absent, absent_position, alone_position}
use Rattle.plm86.proofs.Composition.Sections.{main_is, procedure_is, main_stands, procedure_stands, is_last_routine, last_is_alone, last_stands}
use Rattle.plm86.proofs.Composition.Standing.{stands, steps_within}
use Rattle.plm86.proofs.Composition.Entries.{parts_position, main_entry, last_entry, first_serves, served_entry, unserved_entry}

-- no ROM is larger than a segment
pub largest_rom : (size : RomSize) → bytes_in size ≤ 65536
largest_rom kib.Kib8 = omega arith
largest_rom kib.Kib16 = omega arith
largest_rom kib.Kib32 = omega arith
largest_rom kib.Kib64 = omega arith

-- a test that fails always
all_absent : (f : Routine → Bool) → ((r : Routine) → f r ≡ false) → (rs : List Routine) → Absent f rs
all_absent f fails [] = tt
all_absent f fails (r ∷ rs) = (fails r, all_absent f fails rs)

-- places of parts are low, so is what is chosen of them
pub chosen_low : (ps : List ℕ) → ((k : ℕ) → slice_index ps k < 65536) → (o : Option ℕ) (other : ℕ) → other < 65536 → option_map_or (λ k. slice_index ps k) o other < 65536
chosen_low ps low (Some k) other h = low k
chosen_low ps low None other h = h

-- the parts lie from a place on
place_from : (from : ℕ) (ps : List Part) (k : ℕ) → k < length ps → from ≤ slice_index (places_from from ps) k
place_from from [] k lt = absurd (omega (arith, lt))
place_from from (p ∷ ps) zero lt = omega arith
place_from from (p ∷ ps) (suc k) lt = let more = place_from (from + length p.bytes.items) ps k (omega (arith, lt)) in omega (arith, more)

chosen_behind : (from : ℕ) (test : Part → Bool) (ps : List Part) (o : Option ℕ) (k : ℕ) → position test ps ≡ o → o ≡ Some k → from ≤ option_map_or (λ n. slice_index (places_from from ps) n) o 0
chosen_behind from test ps None k e f = absurd (none-some k f)
chosen_behind from test ps (Some n) k e f = place_from from ps n (inside from test ps n e)
  where
    inside : (from : ℕ) (test : Part → Bool) (ps : List Part) (n : ℕ) → position test ps ≡ Some n → n < length ps
    inside from test [] n e = absurd (none-some n e)
    inside from test (p ∷ ps) n e = (position-Some test (p ∷ ps) n p e).0

module _ (names : Names) (c : Code) (parts : List Part) (size : RomSize) (rom : List ℕ) (main handler : ℕ) (assembled : IsAssembled names c parts size rom main handler) where
  abbrev at : Routine → ℕ → ℕ
  at = step_at names c parts size rom main handler assembled

  abbrev saves : Routine → Registers
  saves = assembled.selected.saves

  abbrev sizes : ℕ → List ℕ
  sizes = sizes_in c saves 0 (routines c) parts assembled.selected.parts_are

  abbrev all_places : List ℕ
  all_places = places_in names parts size

  -- ---- each routine stands in the ROM

  abbrev Stands : Routine → List Instruction → Type 0
  Stands r code = AllStand (rom_code rom) (rom_words rom) (offsets_in names) all_places (at r) 0 (routine (part_of c) (saves r) code)

  part_stands : (r : Routine) → slice_get (routines c) (part_number c r) ≡ Some r → Stands r (program_code names r)
  part_stands r e =
      subst (λ z. Stands r z) (assembled.lowered.code_is r)
      (stands c saves (rom_code rom) (rom_words rom) (offsets_in names) all_places (routines c) parts assembled.selected.parts_are assembled.stand (part_number c r) r e)

  -- a routine without code has nothing to stand
  nothing_stands : (r : Routine) → (IsHandler c r → ⊥) → code_of c r ≡ [] → Stands r (program_code names r)
  nothing_stands r not e =
      subst (λ z. Stands r z) (assembled.lowered.code_is r)
      (subst (λ z. Stands r z) (sym e)
      (subst (λ g. AllStand (rom_code rom) (rom_words rom) (offsets_in names) all_places (at r) 0 (routine (part_of c) g [])) (sym (assembled.selected.saved.others r not)) tt))

  procedure_standing : (q : ℕ) (o : Option declared.Procedure) → slice_get c.procedures.items q ≡ o → Stands (Procedure q) (program_code names (Procedure q))
  procedure_standing q (Some p) e = part_stands (Procedure q) (procedure_stands names c assembled.lowered q p e)
  procedure_standing q None e = nothing_stands (Procedure q) (λ h. subst HasVector e h) (ap instructions_of e)

  stand : (r : Routine) → Stands r (program_code names r)
  stand Main = part_stands Main (main_stands names c assembled.lowered)
  stand (Procedure q) = procedure_standing q (slice_get c.procedures.items q) refl
  stand Unserved = part_stands Unserved (last_stands c)
  stand Nowhere = nothing_stands Nowhere (λ h. h) refl

  low : (r : Routine) (step : ℕ) → at r step < 65536
  low r step =
      omega (arith, largest_rom size, assembled.fits, steps_within c saves 0 (routines c) parts assembled.selected.parts_are (base_of size + start_up_in names parts) (part_number c r) step)

  -- ---- where code begins

  begin_of : (n : ℕ) → start (sizes n) 0 ≡ 0
  begin_of n = refl

  -- a routine that saves nothing begins with its first row
  begins_at : (r : Routine) (code : List Instruction) → saves r ≡ none → slice_index all_places (part_number c r) ≡ at r (first_of (saves r) code 0)
  begins_at r code e =
      let first : first_of (saves r) code 0 ≡ 0 = ap (λ g. first_of g code 0) e in
      omega (arith, ap (start (sizes (part_number c r))) first, begin_of (part_number c r))

  begins : place_of names parts size is_main ≡ at Main (first_of (saves Main) (program_code names Main) 0)
  begins =
      ap (λ o. option_map_or (λ k. slice_index all_places k) o 0)
      (parts_position c saves is_main is_main_routine (main_entry c) 0 (routines c) parts assembled.selected.parts_are ∙ alone_position is_main_routine (routines c) (part_number c Main) (main_is names c assembled.lowered))
      ∙ begins_at Main (program_code names Main) (assembled.selected.saved.others Main (λ h. h))

  -- a procedure that is called has no vector
  called_not : (q : ℕ) → serves (vectors_of names) q ≡ false → IsHandler c (Procedure q) → ⊥
  called_not q not h = at_one (slice_get c.procedures.items q) (ap has_vector (sym (slice_get-map (λ (p : declared.Procedure). p.vector) c.procedures.items q) ∙ ap (λ vs. slice_get vs q) assembled.lowered.vectors_are) ∙ not) h
    where
      at_one : (o : Option declared.Procedure) → has_vector (option_map (λ (p : declared.Procedure). p.vector) o) ≡ false → HasVector o → ⊥
      at_one (Some p) e v = let both : true ≡ false = ap (λ z. has_vector (Some z)) (sym v.1) ∙ e in absurd (cc)
      at_one None e v = v

  callable : (r : Routine) (k : ℕ) (n : Instruction) → slice_get (program_code names r) k ≡ Some n → IsCallable (image_of names c parts size rom main handler assembled) n
  callable r k (op.Invoke q) e = begins_at (Procedure q) (program_code names (Procedure q)) (assembled.selected.saved.others (Procedure q) (called_not q (assembled.sound.uncalled r q k e)))
  callable r k n e = tt

  -- ---- where a vector leads

  starts_at : (v : ℕ) (o : Option ℕ) → position (λ (p : declared.Procedure). is_number p.vector v) c.procedures.items ≡ o → entry_at names parts size v ≡ at (procedure_or_none o) 0
  starts_at v (Some q) e =
      let found = first_serves c v q e in
      let there = parts_position c saves (is_serving v) (is_procedure q) (served_entry c v q (ap procedure_or_none e)) 0 (routines c) parts assembled.selected.parts_are
      ∙ alone_position (is_procedure q) (routines c) (part_number c (Procedure q)) (procedure_is names c assembled.lowered q found.0 found.1) in
      omega (arith, ap (λ o. option_map_or (λ k. slice_index all_places k) o (place_of names parts size is_unserved)) there, begin_of (part_number c (Procedure q)))
  starts_at v None e =
      let there = parts_position c saves (is_serving v) (λ r. false) (unserved_entry c v (ap procedure_or_none e)) 0 (routines c) parts assembled.selected.parts_are
      ∙ absent_position (λ r. false) (routines c) (all_absent (λ r. false) (λ r. refl) (routines c)) in
      let last = parts_position c saves is_unserved is_last_routine (last_entry c) 0 (routines c) parts assembled.selected.parts_are
      ∙ alone_position is_last_routine (routines c) (part_number c Unserved) (last_is_alone c) in
      omega (arith, ap (λ o. option_map_or (λ k. slice_index all_places k) o (place_of names parts size is_unserved)) there, ap (λ o. option_map_or (λ k. slice_index all_places k) o 0) last, begin_of (part_number c Unserved))

  -- ---- the whole

  pub is_selected : IsSelected (image_of names c parts size rom main handler assembled)
  is_selected = record {
    stand = stand;
    low = low;
    made = assembled.sound.made;
    callable = callable;
    nowhere = refl;
    finds = finds_held 0 (offsets_in names) (sizes_of names);
    begins = begins;
    starts = λ v. starts_at v (position (λ (p : declared.Procedure). is_number p.vector v) c.procedures.items) refl;
    few = omega (arith, assembled.enough, assembled.counted.main_is, assembled.counted.handler_is);
  }

  pub is_image : IsImageOf names c (image_of names c parts size rom main handler assembled)
  is_image = record { icode_is = λ r. refl; sizes_are = refl; serving_is = λ v. refl; saved = assembled.selected.saved }

  -- ---- what is asked of a ROM's assembly

  -- an interrupt pushes three words at least
  pub three : 3 ≤ assembled.counted.largest
  three = omega (arith, assembled.counted.reached.2.is)

  pub enough : assembled.counted.deepest + 3 + (assembled.counted.largest - 3) ≤ stack_room / 2
  enough = omega (arith, three, assembled.enough, assembled.counted.main_is, assembled.counted.handler_is)

  pub found : Finds (find_from 0 (offsets_in names) (sizes_of names)) (λ k. slice_index (offsets_in names) k) (λ k. slice_index (sizes_of names) k)
  found = finds (offsets_in names) (sizes_of names)

  -- main's part stands behind start-up
  pub main_behind : base_of size + start_up_in names parts ≤ place_of names parts size is_main
  main_behind =
      let there = parts_position c saves is_main is_main_routine (main_entry c) 0 (routines c) parts assembled.selected.parts_are ∙ alone_position is_main_routine (routines c) (part_number c Main) (main_is names c assembled.lowered) in
      chosen_behind (base_of size + start_up_in names parts) (λ (p : Part). is_main p.entry) parts (position (λ (p : Part). is_main p.entry) parts) (part_number c Main) refl there

  pub main_low : place_of names parts size is_main < 65536
  main_low = chosen_low all_places assembled.within (position (λ (p : Part). is_main p.entry) parts) 0 (omega arith)

  pub entry_low : (v : ℕ) → entry_at names parts size v < 65536
  entry_low v = chosen_low all_places assembled.within (tasks.serving parts v) (place_of names parts size is_unserved) (chosen_low all_places assembled.within (position (λ (p : Part). is_unserved p.entry) parts) 0 (omega arith))

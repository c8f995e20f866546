-- Bytes in the ROM that spell an instruction are decoded at their place.
use Rattle.std.proofs.Common.{◌≡◌, ℕ, zero, suc, ◌+◌, ◌-◌, ◌*◌, ◌/◌, ◌%◌, ◌<◌, ◌≤◌, List, ◌++◌, length, drop, Option, Some, refl, ap, ◌∙◌, arith, ap₂}
use Rattle.std.proofs.lemmas.List.Prefix.{front_from_reads}
use Rattle.std.specs.Prelude.{slice_index, if◌then◌else◌}
use Rattle.word86.specs.MemoryMap.{ram_size, code_segment, code_start}
use Rattle.word86.specs.declared.page.Page.TheVariants.{Monochrome, Colour}
use Rattle.word86.specs.Chips.{Chips}
use Rattle.word86.specs.Page.{page_at, page_size}
use Rattle.i86_table.specs.declared.instruction.Instr.{Instr}
use Rattle.i86_code.specs.Forms.{Spells}
use Rattle.i86_code.specs.Decoding.{decoded}
use Rattle.i86_code.specs.Coding.{IsOneForm, IsShort}
use Rattle.cpu8086.specs.Machine.{physical, next_offset, loaded_byte, loaded_word}
use Rattle.cpu8086.specs.Turn.{fetched}
use Rattle.board.specs.World.{World, Whole, board_model, region}
use Rattle.plm86.specs.Relation.{Spelled, HasTables}
use Rattle.layout_link.specs.Rom.{rom_byte, Written, CodeInRom, WordsInRom}
use Rattle.plm86.proofs.Machine.Regions.{within_true, within_above}

module _ {P : Type 0} (c : Chips P) (rom : List ℕ) (w : World P) (whole : Whole rom w) where
  -- a byte of the ROM
  loaded_rom : (a : ℕ) → length rom ≤ 65536 → 0x100000 ≤ a + length rom → a < 0x100000 → (board_model c).load w a ≡ slice_index rom (a + length rom - 0x100000)
  loaded_rom a size inside lt =
      let bytes = w.rom in
      let same : length w.rom ≡ length rom = ap length whole.same_rom in
      let high = region (0x100000 - length w.rom) w.rom a 255 in
      let place : a - (0x100000 - length w.rom) ≡ a + length rom - 0x100000 = omega (arith, same, size, inside, lt) in
      ap (λ b. if b then slice_index w.ram (a - 0) else region (page_at Monochrome) w.screen.monochrome a (region (page_at Colour) w.screen.colour a high)) (within_above 0 w.ram a ram_size whole.ram (omega (arith, inside, size)))
      ∙ ap (λ b. if b then slice_index w.screen.monochrome (a - page_at Monochrome) else region (page_at Colour) w.screen.colour a high) (within_above (page_at Monochrome) w.screen.monochrome a page_size whole.screen.monochrome (omega (arith, inside, size)))
      ∙ ap (λ b. if b then slice_index w.screen.colour (a - page_at Colour) else high) (within_above (page_at Colour) w.screen.colour a page_size whole.screen.colour (omega (arith, inside, size)))
      ∙ ap (λ b. if b then slice_index w.rom (a - (0x100000 - length w.rom)) else 255) (within_true (0x100000 - length w.rom) w.rom a (length rom) same (omega (arith, inside, same)) (omega (arith, lt, same, size)))
      ∙ ap₂ (λ l i. slice_index l i) whole.same_rom place

  loaded_place : (place : ℕ) → length rom ≤ 65536 → 65536 ≤ place + length rom → place < 65536 → loaded_byte (board_model c) w code_segment place ≡ rom_byte rom place % 256
  unfolding loaded_byte
  loaded_place place size inside lt =
      let at : physical code_segment place ≡ code_start + place = omega (arith, lt) in
      let index : code_start + place + length rom - 0x100000 ≡ place + length rom - 65536 = omega arith in
      ap (λ a. (board_model c).load w a % 256) at ∙ ap (λ b. b % 256) (loaded_rom (code_start + place) size (omega (arith, inside)) (omega (arith, lt)) ∙ ap (slice_index rom) index)

  fetched_at : (place k : ℕ) → k < 8 → place < 65536 → slice_index (fetched (board_model c) w code_segment place) k ≡ loaded_byte (board_model c) w code_segment ((place + k) % 65536)
  unfolding fetched
  fetched_at place zero h lt = let e : place ≡ (place + 0) % 65536 = omega (arith, lt) in ap (loaded_byte (board_model c) w code_segment) e
  fetched_at place (suc zero) h lt = refl
  fetched_at place (suc (suc zero)) h lt = refl
  fetched_at place (suc (suc (suc zero))) h lt = refl
  fetched_at place (suc (suc (suc (suc zero)))) h lt = refl
  fetched_at place (suc (suc (suc (suc (suc zero))))) h lt = refl
  fetched_at place (suc (suc (suc (suc (suc (suc zero)))))) h lt = refl
  fetched_at place (suc (suc (suc (suc (suc (suc (suc zero))))))) h lt = refl
  fetched_at place (suc (suc (suc (suc (suc (suc (suc (suc k)))))))) h lt = absurd (omega (arith, h))

  eight : (place : ℕ) → length (fetched (board_model c) w code_segment place) ≡ 8
  unfolding fetched
  eight place = refl

  -- any spelling of the instruction at its place will do
  decoded_here : IsOneForm → IsShort → (place : ℕ) (bytes : List ℕ) (instruction : Instr) → length rom ≤ 65536 → place < 65536 → Spells bytes instruction → Written rom place bytes → decoded (fetched (board_model c) w code_segment place) ≡ Some (instruction, length bytes)
  decoded_here only short place bytes instruction size lt spells at =
      let few = short bytes instruction spells in
      let all = fetched (board_model c) w code_segment place in
      let front : all ≡ bytes ++ drop (length bytes) all = front_from_reads 0 all bytes (omega (arith, few, eight place)) (λ k h.
      let here : (place + k) % 65536 ≡ place + k = omega (arith, h, at.fits) in
      fetched_at place k (omega (arith, h, few)) lt ∙ ap (loaded_byte (board_model c) w code_segment) here
      ∙ loaded_place (place + k) size (omega (arith, at.inside)) (omega (arith, h, at.fits)) ∙ at.bytes_are k h) in
      ap decoded front ∙ only bytes (drop (length bytes) all) instruction spells

  pub tables_by_rom : (words : ℕ → Option ℕ) → length rom ≤ 65536 → WordsInRom rom words → HasTables (board_model c) words w
  unfolding loaded_word
  tables_by_rom words size x offset v e =
      let at = x offset v e in
      let same : offset ≡ offset + 0 = omega arith in
      let next : next_offset offset ≡ offset + 1 = omega (arith, at.fits) in
      let low : loaded_byte (board_model c) w code_segment offset ≡ v % 256 = loaded_place offset size at.inside (omega (arith, at.fits)) ∙ ap (λ k. rom_byte rom k % 256) same ∙ at.bytes_are 0 (omega arith) in
      let high : loaded_byte (board_model c) w code_segment (next_offset offset) ≡ v / 256 = ap (loaded_byte (board_model c) w code_segment) next ∙ loaded_place (offset + 1) size (omega (arith, at.inside)) (omega (arith, at.fits)) ∙ at.bytes_are 1 (omega arith) in
      (omega (arith, at.fits), ap₂ (λ a b. a + 256 * b) low high ∙ omega arith)

  pub spelled_by_rom : IsOneForm → IsShort → (code : ℕ → Option (Instr × ℕ)) → CodeInRom rom code → Spelled (board_model c) code w
  spelled_by_rom only short code x = record {
    bounded = x.low;
    spelled = λ place d at.
        let t = x.written place d at in
        decoded_here only short place t.0 d.0 x.size (x.low place d at) t.1 t.3 ∙ ap (λ n. Some (d.0, n)) t.2;
  }

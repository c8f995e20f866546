use Rattle.std.proofs.Common.{◌+◌, ◌-◌, length, ap, ap₂, sym, subst, ◌∙◌, arith}
use Rattle.std.specs.Option.{option_map_or}
use Rattle.std.specs.Prelude.{slice_index}
use Rattle.layout_link.specs.Image.{base_of}
use Rattle.layout_link.specs.Places.{total_of, places_from}
use Rattle.layout_link.specs.Tasks.{start_up_bytes}
use Rattle.layout_link.specs.Rom.{rom_byte, rom_code, rom_words}
use Rattle.layout_link.specs.Stand.{PartsStand}
use Rattle.layout_link.specs.Inner.Bytes.{all_bytes}
use Rattle.layout_link.proofs.Imaging.{base_and_size, begin_is, code_long, rom_starts}
use Rattle.layout_link.proofs.linker.rom_with.Goals as goal

pub rom_of-requires-clause-fits : goal.rom_of-requires-clause-fits
rom_of-requires-clause-fits c =
    let long = code_long c.deref-4.result.now c.place_of-unserved.result c.deref-3.result.now c.end_of-from.result c.args.tasks.now _ (c.deref-4.ensures.value ∙ c.in_ok-code.ensures.items) in
    omega (arith, long, c.in_ok-head.ensures.fits)

pub rom_of-requires-clause-places : goal.rom_of-requires-clause-places
rom_of-requires-clause-places c =
    let long = code_long c.deref-4.result.now c.place_of-unserved.result c.deref-3.result.now c.end_of-from.result c.args.tasks.now _ (c.deref-4.ensures.value ∙ c.in_ok-code.ensures.items) in
    let begin = begin_is c.args.size c.bytes.result c.in_ok-head.head (length (all_bytes c.deref-4.result.now)) c.bytes.ensures (c.in_ok-head.ensures.head ∙ sym long) in
    c.deref-5.ensures.value ∙ c.in_ok-places.ensures.places ∙ ap (λ b. places_from b c.args.parts.now) begin

pub returns-clause-start_up : goal.returns-clause-start_up
returns-clause-start_up c =
    let parts = c.args.parts.now in
    let tasks = c.args.tasks.now in
    let begin = begin_is c.args.size c.bytes.result c.in_ok-head.head (start_up_bytes tasks) c.bytes.ensures c.in_ok-head.ensures.head in
    let there = c.in_ok-places.ensures.places ∙ ap (λ b. places_from b parts) begin in
    let ends = base_and_size c.args.size in
    let fits = c.in_ok-head.ensures.fits in
    rom_starts parts tasks (base_of c.args.size) (rom_code c.in_ok-rom.rom.items) c.deref-4.result.now c.place_of-unserved.result c.place_of-main.result c.end_of-from.result (65536 - c.bytes.result + c.in_ok-head.head) c.deref-3.result.now
    (c.requires (base_of c.args.size + start_up_bytes tasks + total_of parts) (omega (arith, ends, fits)))
    (omega (arith, ends, fits))
    c.in_ok-rom.ensures.reset
    (c.place_of-unserved.ensures ∙ ap₂ (λ l o. option_map_or (λ k. slice_index l k) o 0) (c.deref-2.ensures.value ∙ there) c.unserved_part.ensures)
    (c.place_of-main.ensures ∙ ap₂ (λ l o. option_map_or (λ k. slice_index l k) o 0) (c.deref.ensures.value ∙ there) c.main_part.ensures)
    (c.deref-3.ensures.value ∙ there)
    (c.end_of-from.ensures ∙ ap (λ b. b + total_of parts) begin)
    begin
    (c.deref-4.ensures.value ∙ c.in_ok-code.ensures.items)
    c.in_ok-rom.ensures.start_up

pub returns-clause-initial : goal.returns-clause-initial
returns-clause-initial c = λ k lt.
    let long = code_long c.deref-4.result.now c.place_of-unserved.result c.deref-3.result.now c.end_of-from.result c.args.tasks.now _ (c.deref-4.ensures.value ∙ c.in_ok-code.ensures.items) in
    ap (λ n. rom_byte c.in_ok-rom.rom.items (base_of c.args.size + n + total_of c.args.parts.now + k)) (sym long) ∙ c.in_ok-rom.ensures.initial k lt

pub returns-clause-parts : goal.returns-clause-parts
returns-clause-parts c =
    let begin = begin_is c.args.size c.bytes.result c.in_ok-head.head (start_up_bytes c.args.tasks.now) c.bytes.ensures c.in_ok-head.ensures.head in
    let there = c.deref-5.ensures.value ∙ c.in_ok-places.ensures.places ∙ ap (λ b. places_from b c.args.parts.now) begin in
    subst (λ l. PartsStand (rom_code c.in_ok-rom.rom.items) (rom_words c.in_ok-rom.rom.items) c.args.offsets.now l c.args.parts.now) there c.in_ok-rom.ensures.parts

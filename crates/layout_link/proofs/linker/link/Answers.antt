use Rattle.std.proofs.Common.{◌≡◌, ◌+◌, ◌<◌, ℕ, length, map, refl, ap, sym, subst, ◌∙◌, arith, List, subst₂}
use Rattle.std.specs.Prelude.{slice_index}
use Rattle.std.proofs.Common.{get_or}
use Rattle.std.proofs.Math.Path.{subst₃}
use Rattle.plm_decl.specs.Placement.{IsPlacement, sizes_of}
use Rattle.select.specs.declared.part.Part.{Part}
use Rattle.layout_link.specs.declared.tasks.Task.{Task}
use Rattle.layout_link.specs.Image.{base_of}
use Rattle.layout_link.specs.Objects.{offsets_from}
use Rattle.layout_link.specs.Places.{total_of, places_from}
use Rattle.layout_link.specs.Startup.{HasStartUpBefore, turns_without_acts}
use Rattle.layout_link.specs.Tasks.{placed, bytes_of_tasks, start_up_bytes, is_main, is_unserved}
use Rattle.layout_link.specs.Initial.{HaveBytes, stretches, copied_bytes}
use Rattle.layout_link.specs.Rom.{rom_byte, rom_code, rom_words}
use Rattle.layout_link.specs.Stand.{PartsStand}
use Rattle.layout_link.specs.Linker.{offsets_in, tasks_in, place_in, places_in}
use Rattle.layout_link.specs.Inner.Head.{TasksFit, turns_of_tasks}
use Rattle.layout_link.proofs.Imaging.{base_and_size, place_below}
use Rattle.layout_link.proofs.Fitting.{all_turns}
use Rattle.layout_link.proofs.Linking.{offsets_are, vectors_are, tasks_are, room, placed_well, tasks_fit, turns_few}
use Rattle.layout_link.proofs.linker.link.Goals as goal

pub initial-requires : goal.initial-requires
initial-requires c = λ k.
    let names = c.args.names.now in
    let offsets = c.deref-3.ensures.value ∙ offsets_are names c.deref.result.now c.in_ok-offsets.offsets.items c.deref.ensures.value c.in_ok-offsets.ensures.offsets in
    let same = ap (λ l. get_or l k 0) offsets in
    let r = room names k in
    omega (arith, same, r)

pub rom_with-requires : goal.rom_with-requires
rom_with-requires c =
    let names = c.args.names.now in
    let parts = c.args.parts.items in
    let offsets = c.deref-3.ensures.value ∙ offsets_are names c.deref.result.now c.in_ok-offsets.offsets.items c.deref.ensures.value c.in_ok-offsets.ensures.offsets in
    let vectors = vectors_are parts c.deref-2.result.now c.in_ok-tasks.tasks.items c.deref-2.ensures.value c.in_ok-tasks.ensures.tasks in
    let tasks = c.deref-6.ensures.value ∙ tasks_are names parts c.deref-3.result.now c.in_ok-tasks.tasks.items c.initial.new.tasks.items offsets vectors c.in_ok-bytes.ensures.tasks in
    let bytes = c.deref-7.ensures.value ∙ c.in_ok-bytes.ensures.bytes ∙ ap (λ b. copied_bytes 0 (stretches b names.variables.items 0 names.objects.items)) offsets in
    subst₂ (λ (ts : List Task) (bs : List ℕ). (from : ℕ) → from + length bs < 65536 → TasksFit from ts) (sym tasks) (sym bytes) (tasks_fit names c.initial_values_fit.ensures.bytes parts)

pub start_turns-requires : goal.start_turns-requires
start_turns-requires c =
    let names = c.args.names.now in
    let parts = c.args.parts.items in
    let offsets = c.deref-3.ensures.value ∙ offsets_are names c.deref.result.now c.in_ok-offsets.offsets.items c.deref.ensures.value c.in_ok-offsets.ensures.offsets in
    let vectors = vectors_are parts c.deref-2.result.now c.in_ok-tasks.tasks.items c.deref-2.ensures.value c.in_ok-tasks.ensures.tasks in
    let tasks = c.deref-8.ensures.value ∙ tasks_are names parts c.deref-3.result.now c.in_ok-tasks.tasks.items c.initial.new.tasks.items offsets vectors c.in_ok-bytes.ensures.tasks in
    let same = ap turns_of_tasks tasks in
    let few = (turns_few names c.initial_values_fit.ensures.bytes parts).1 in
    omega (arith, same, few)

pub returns-clause-start_up : goal.returns-clause-start_up
returns-clause-start_up c =
    let names = c.args.names.now in
    let parts = c.args.parts.items in
    let base = base_of c.args.size in
    let offsets = c.deref-3.ensures.value ∙ offsets_are names c.deref.result.now c.in_ok-offsets.offsets.items c.deref.ensures.value c.in_ok-offsets.ensures.offsets in
    let vectors = vectors_are parts c.deref-2.result.now c.in_ok-tasks.tasks.items c.deref-2.ensures.value c.in_ok-tasks.ensures.tasks in
    let tasks = c.deref-6.ensures.value ∙ tasks_are names parts c.deref-3.result.now c.in_ok-tasks.tasks.items c.initial.new.tasks.items offsets vectors c.in_ok-bytes.ensures.tasks in
    subst₂
    (λ (ps : List Part) (ts : List Task).
    HasStartUpBefore (base + start_up_bytes ts) (rom_code c.in_ok-rom.rom.items) (place_in (places_from (base + start_up_bytes ts) ps) ps is_unserved)
    (map (placed (places_from (base + start_up_bytes ts) ps) (base + start_up_bytes ts + total_of ps)) ts) (place_in (places_from (base + start_up_bytes ts) ps) ps is_main))
    c.deref-4.ensures.value tasks c.in_ok-rom.ensures.start_up

pub returns-clause-initial : goal.returns-clause-initial
returns-clause-initial c =
    let names = c.args.names.now in
    let parts = c.args.parts.items in
    let base = base_of c.args.size in
    let offsets = c.deref-3.ensures.value ∙ offsets_are names c.deref.result.now c.in_ok-offsets.offsets.items c.deref.ensures.value c.in_ok-offsets.ensures.offsets in
    let vectors = vectors_are parts c.deref-2.result.now c.in_ok-tasks.tasks.items c.deref-2.ensures.value c.in_ok-tasks.ensures.tasks in
    let tasks = c.deref-6.ensures.value ∙ tasks_are names parts c.deref-3.result.now c.in_ok-tasks.tasks.items c.initial.new.tasks.items offsets vectors c.in_ok-bytes.ensures.tasks in
    let bytes = c.deref-7.ensures.value ∙ c.in_ok-bytes.ensures.bytes ∙ ap (λ b. copied_bytes 0 (stretches b names.variables.items 0 names.objects.items)) offsets in
    subst₃ (λ (ps : List Part) (ts : List Task) (bs : List ℕ). (k : ℕ) → k < length bs → rom_byte c.in_ok-rom.rom.items (base + start_up_bytes ts + total_of ps + k) ≡ slice_index bs k) c.deref-4.ensures.value tasks bytes c.in_ok-rom.ensures.initial

pub returns-clause-bytes : goal.returns-clause-bytes
returns-clause-bytes c =
    let names = c.args.names.now in
    let offsets = c.deref-3.ensures.value ∙ offsets_are names c.deref.result.now c.in_ok-offsets.offsets.items c.deref.ensures.value c.in_ok-offsets.ensures.offsets in
    subst (λ l. HaveBytes l names.variables.items names.objects.items) offsets c.in_ok-bytes.ensures.small

pub returns-clause-turns : goal.returns-clause-turns
returns-clause-turns c =
    let names = c.args.names.now in
    let parts = c.args.parts.items in
    let size = c.args.size in
    let offsets = c.deref-3.ensures.value ∙ offsets_are names c.deref.result.now c.in_ok-offsets.offsets.items c.deref.ensures.value c.in_ok-offsets.ensures.offsets in
    let vectors = vectors_are parts c.deref-2.result.now c.in_ok-tasks.tasks.items c.deref-2.ensures.value c.in_ok-tasks.ensures.tasks in
    let tasks = c.deref-8.ensures.value ∙ tasks_are names parts c.deref-3.result.now c.in_ok-tasks.tasks.items c.initial.new.tasks.items offsets vectors c.in_ok-bytes.ensures.tasks in
    c.start_turns.ensures ∙ ap (λ ts. turns_without_acts + turns_of_tasks ts) tasks
    ∙ ap (λ n. turns_without_acts + n) (sym (all_turns (places_in names parts size) (base_of size + start_up_bytes (tasks_in names parts) + total_of parts) (tasks_in names parts)))

pub returns-clause-few_turns : goal.returns-clause-few_turns
returns-clause-few_turns c =
    let names = c.args.names.now in
    let parts = c.args.parts.items in
    let offsets = c.deref-3.ensures.value ∙ offsets_are names c.deref.result.now c.in_ok-offsets.offsets.items c.deref.ensures.value c.in_ok-offsets.ensures.offsets in
    let vectors = vectors_are parts c.deref-2.result.now c.in_ok-tasks.tasks.items c.deref-2.ensures.value c.in_ok-tasks.ensures.tasks in
    let tasks = c.deref-8.ensures.value ∙ tasks_are names parts c.deref-3.result.now c.in_ok-tasks.tasks.items c.initial.new.tasks.items offsets vectors c.in_ok-bytes.ensures.tasks in
    let same = c.start_turns.ensures ∙ ap (λ ts. turns_without_acts + turns_of_tasks ts) tasks in
    let few = (turns_few names c.initial_values_fit.ensures.bytes parts).0 in
    omega (arith, same, few)

pub returns-clause-parts : goal.returns-clause-parts
returns-clause-parts c =
    let names = c.args.names.now in
    let parts = c.args.parts.items in
    let base = base_of c.args.size in
    let rom = c.in_ok-rom.rom.items in
    let offsets = c.deref-3.ensures.value ∙ offsets_are names c.deref.result.now c.in_ok-offsets.offsets.items c.deref.ensures.value c.in_ok-offsets.ensures.offsets in
    let vectors = vectors_are parts c.deref-2.result.now c.in_ok-tasks.tasks.items c.deref-2.ensures.value c.in_ok-tasks.ensures.tasks in
    let tasks = c.deref-6.ensures.value ∙ tasks_are names parts c.deref-3.result.now c.in_ok-tasks.tasks.items c.initial.new.tasks.items offsets vectors c.in_ok-bytes.ensures.tasks in
    let there : c.deref-5.result.now ≡ offsets_in names = c.deref-5.ensures.value ∙ sym c.deref-3.ensures.value ∙ offsets in
    subst₃ (λ (ps : List Part) (ts : List Task) (bs : List ℕ). PartsStand (rom_code rom) (rom_words rom) bs (places_from (base + start_up_bytes ts) ps) ps) c.deref-4.ensures.value tasks there c.in_ok-rom.ensures.parts

pub returns-clause-within : goal.returns-clause-within
returns-clause-within c = λ part.
    let names = c.args.names.now in
    let parts = c.args.parts.items in
    let offsets = c.deref-3.ensures.value ∙ offsets_are names c.deref.result.now c.in_ok-offsets.offsets.items c.deref.ensures.value c.in_ok-offsets.ensures.offsets in
    let vectors = vectors_are parts c.deref-2.result.now c.in_ok-tasks.tasks.items c.deref-2.ensures.value c.in_ok-tasks.ensures.tasks in
    let tasks = c.deref-6.ensures.value ∙ tasks_are names parts c.deref-3.result.now c.in_ok-tasks.tasks.items c.initial.new.tasks.items offsets vectors c.in_ok-bytes.ensures.tasks in
    let n = ap bytes_of_tasks tasks in
    let m = ap total_of c.deref-4.ensures.value in
    let fits = c.in_ok-rom.ensures.fits in
    let low = place_below (base_of c.args.size + start_up_bytes (tasks_in names parts)) parts part in
    let ends = base_and_size c.args.size in
    omega (arith, n, m, fits, low, ends)

pub returns-clause-placement : goal.returns-clause-placement
returns-clause-placement c =
    let names = c.args.names.now in
    let offsets : c.in_ok-offsets.offsets.items ≡ offsets_in names = c.in_ok-offsets.ensures.offsets ∙ ap (λ os. offsets_from 2 (map (λ o. o.size) os)) c.deref.ensures.value in
    subst (λ l. IsPlacement l (sizes_of names)) (sym (ap (λ v. v.items) c.of.ensures ∙ offsets)) (placed_well names)

use Rattle.std.proofs.Common.{◌≡◌, ◌+◌, ◌-◌, ◌++◌, [], ℕ, length, refl, ap, ◌∙◌, subst, arith}
use Rattle.layout_link.proofs.Imaging.{base_and_size}
use Rattle.word86.specs.MemoryMap.{code_segment}
use Rattle.i86_table.specs.declared.instruction.Instr.TheVariants as i
use Rattle.i86_code.specs.Forms.{Spells}
use Rattle.i86_code.specs.Writing.{bytes_of, form_of}
use Rattle.std.specs.Prelude.{replicate}
use Rattle.layout_link.specs.Image.{bytes_in, base_of}
use Rattle.layout_link.specs.Inner.Bytes.{all_bytes, all_filled}
use Rattle.layout_link.proofs.Whole.{all_filled_long, third_long, fifth_long, sixth_is, rom_long, initial_there, head_stands, resets, parts_stand}
use Rattle.layout_link.proofs.rom.rom_of.Goals as goal

jump_size : (base : ℕ) → length (bytes_of (i.JumpFar base code_segment)) ≡ 5
unfolding form_of
jump_size base = refl

pub pad-requires : goal.pad-requires
pad-requires c =
    let head = all_bytes c.args.head.now in
    let code = all_filled c.args.offsets.now c.args.places.now 0 c.args.parts.now in
    let long = all_filled_long c.args.offsets.now c.args.places.now 0 c.args.parts.now in
    let third = third_long head code c.args.initial.now [] c.in_ok-rom.rom.items c.write_all.new.code.items c.write_parts.new.rom.items c.extend_from_slice.new.self.items [] [] (bytes_in c.args.size) (omega (arith, long, c.requires.fits)) (omega arith)
    c.in_ok-rom.ensures.items c.in_ok-write_all.ensures.bytes c.in_ok-write_parts.ensures.bytes c.in_ok-extend_from_slice.ensures.items in
    omega (arith, third, long, c.requires.fits, c.bytes-bytes.ensures, c.extend_from_slice.new.self.ok.0)

pub pad-requires-2 : goal.pad-requires-2
pad-requires-2 c =
    let head = all_bytes c.args.head.now in
    let code = all_filled c.args.offsets.now c.args.places.now 0 c.args.parts.now in
    let jump = bytes_of (i.JumpFar (base_of c.args.size) code_segment) in
    let r3 = c.extend_from_slice.new.self.items in
    let r4 = c.pad.new.code.items in
    let long = all_filled_long c.args.offsets.now c.args.places.now 0 c.args.parts.now in
    let e4 = c.in_ok-pad.ensures.bytes ∙ ap (λ n. r3 ++ replicate (n - 16 - length r3) 0) c.bytes-bytes.ensures in
    let e5 = c.in_ok-write.ensures.bytes ∙ ap (λ n. r4 ++ bytes_of (i.JumpFar (65536 - n) code_segment)) c.bytes-bytes.ensures in
    let fifth = fifth_long head code c.args.initial.now jump c.in_ok-rom.rom.items c.write_all.new.code.items c.write_parts.new.rom.items r3 r4 c.write.new.code.items (bytes_in c.args.size) (omega (arith, long, c.requires.fits)) (omega (arith, jump_size (base_of c.args.size)))
    c.in_ok-rom.ensures.items c.in_ok-write_all.ensures.bytes c.in_ok-write_parts.ensures.bytes c.in_ok-extend_from_slice.ensures.items e4 e5 in
    omega (arith, fifth, jump_size (base_of c.args.size), c.requires.fits, c.bytes-bytes.ensures, c.write.new.code.ok.0)

pub returns-clause-bytes : goal.returns-clause-bytes
returns-clause-bytes c =
    let head = all_bytes c.args.head.now in
    let code = all_filled c.args.offsets.now c.args.places.now 0 c.args.parts.now in
    let jump = bytes_of (i.JumpFar (base_of c.args.size) code_segment) in
    let r3 = c.extend_from_slice.new.self.items in
    let r4 = c.pad.new.code.items in
    let r5 = c.write.new.code.items in
    let long = all_filled_long c.args.offsets.now c.args.places.now 0 c.args.parts.now in
    let e4 = c.in_ok-pad.ensures.bytes ∙ ap (λ n. r3 ++ replicate (n - 16 - length r3) 0) c.bytes-bytes.ensures in
    let e5 = c.in_ok-write.ensures.bytes ∙ ap (λ n. r4 ++ bytes_of (i.JumpFar (65536 - n) code_segment)) c.bytes-bytes.ensures in
    let e6 = c.in_ok-pad-2.ensures.bytes ∙ ap (λ n. r5 ++ replicate (n - length r5) 0) c.bytes-bytes.ensures in
    sixth_is head code c.args.initial.now jump c.in_ok-rom.rom.items c.write_all.new.code.items c.write_parts.new.rom.items r3 r4 r5 (bytes_in c.args.size) (omega (arith, long, c.requires.fits)) (omega (arith, jump_size (base_of c.args.size)))
    c.in_ok-rom.ensures.items c.in_ok-write_all.ensures.bytes c.in_ok-write_parts.ensures.bytes c.in_ok-extend_from_slice.ensures.items e4 e5 c.pad-2.new.code.items e6

pub returns-clause-long : goal.returns-clause-long
returns-clause-long c =
    rom_long c.one_form.ensures.only c.args.head.now c.args.parts.now c.args.offsets.now c.args.places.now c.args.initial.now (bytes_in c.args.size) (base_of c.args.size) c.pad-2.new.code.items (base_and_size c.args.size) c.requires.fits c.in_ok-write_all.ensures.coded (returns-clause-bytes c)

pub returns-clause-initial : goal.returns-clause-initial
returns-clause-initial c =
    initial_there c.one_form.ensures.only c.args.head.now c.args.parts.now c.args.offsets.now c.args.places.now c.args.initial.now (bytes_in c.args.size) (base_of c.args.size) c.pad-2.new.code.items (base_and_size c.args.size) c.requires.fits c.in_ok-write_all.ensures.coded (returns-clause-bytes c)

pub returns-clause-start_up : goal.returns-clause-start_up
returns-clause-start_up c =
    head_stands c.one_form.ensures.only c.args.head.now c.args.parts.now c.args.offsets.now c.args.places.now c.args.initial.now (bytes_in c.args.size) (base_of c.args.size) c.pad-2.new.code.items (base_and_size c.args.size) c.requires.fits c.in_ok-write_all.ensures.coded (returns-clause-bytes c)

pub returns-clause-reset : goal.returns-clause-reset
returns-clause-reset c =
    let spells = subst (λ n. Spells (bytes_of (i.JumpFar (65536 - n) code_segment)) (i.JumpFar (65536 - n) code_segment)) c.bytes-bytes.ensures c.write.ensures.coded in
    resets c.one_form.ensures.only c.args.head.now c.args.parts.now c.args.offsets.now c.args.places.now c.args.initial.now (bytes_in c.args.size) (base_of c.args.size) c.pad-2.new.code.items (base_and_size c.args.size) c.requires.fits c.in_ok-write_all.ensures.coded (returns-clause-bytes c) spells

pub returns-clause-parts : goal.returns-clause-parts
returns-clause-parts c =
    parts_stand c.one_form.ensures.only c.args.head.now c.args.parts.now c.args.offsets.now c.args.places.now c.args.initial.now (bytes_in c.args.size) (base_of c.args.size) c.pad-2.new.code.items (base_and_size c.args.size) c.requires.fits c.in_ok-write_all.ensures.coded (returns-clause-bytes c) c.requires.places

use Rattle.std.proofs.Common.{◌≡◌, length, ap, ◌∙◌, arith}
use Rattle.std.proofs.Common.{get_or}
use Rattle.layout_link.specs.Initial.{stretches, copied_bytes}
use Rattle.layout_link.specs.Tasks.{start_up_bytes}
use Rattle.layout_link.proofs.Linking.{offsets_are, tasks_are, room}
use Rattle.layout_link.proofs.room.start_up_room.Goals as goal

pub initial-requires : goal.initial-requires
initial-requires c = λ k.
    let names = c.args.names.now in
    let offsets = c.deref-2.ensures.value ∙ offsets_are names c.deref.result.now c.in_ok-offsets.offsets.items c.deref.ensures.value c.in_ok-offsets.ensures.offsets in
    let same = ap (λ l. get_or l k 0) offsets in
    let r = room names k in
    omega (arith, same, r)

pub returns-clause-code : goal.returns-clause-code
returns-clause-code c =
    let names = c.args.names.now in
    let offsets = c.deref-2.ensures.value ∙ offsets_are names c.deref.result.now c.in_ok-offsets.offsets.items c.deref.ensures.value c.in_ok-offsets.ensures.offsets in
    let tasks = c.deref-3.ensures.value ∙ tasks_are names c.args.parts.now c.deref-2.result.now c.in_ok-tasks.tasks.items c.initial.new.tasks.items offsets c.in_ok-tasks.ensures.tasks c.in_ok-bytes.ensures.tasks in
    c.in_ok-code_of.ensures ∙ ap start_up_bytes tasks

pub returns-clause-copied : goal.returns-clause-copied
returns-clause-copied c =
    let names = c.args.names.now in
    let offsets = c.deref-2.ensures.value ∙ offsets_are names c.deref.result.now c.in_ok-offsets.offsets.items c.deref.ensures.value c.in_ok-offsets.ensures.offsets in
    let same = ap length (c.in_ok-bytes.ensures.bytes ∙ ap (λ b. copied_bytes 0 (stretches b names.variables.items 0 names.objects.items)) offsets) in
    let long = c.in_ok-bytes.bytes.ok.0 in
    omega (arith, c.len.ensures, same, long)

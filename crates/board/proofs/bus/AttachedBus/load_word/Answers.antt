use Rattle.std.proofs.Common.{◌≡◌, ◌+◌, ◌*◌, length, slice_index, ap, ◌∙◌, arith}
use Rattle.std.proofs.lemmas.List.{get_or_read}
use Rattle.word86.specs.MemoryMap.{ram_size}
use Rattle.board.specs.Inner.Settled.{settled_chips}
use Rattle.board.specs.Inner.Attached.{world_of}
use Rattle.board.proofs.Windows.{ram_word}
use Rattle.board.proofs.bus.AttachedBus.load_word.Goals as goal

pub returns-in-Some : goal.returns-in-Some
returns-in-Some c =
    let a = c.args.self.now in
    let address : c.in-Some.address ≡ c.args.segment * 16 + c.args.offset = c.in-Some.ensures.place in
    let whole : length a.ram.items ≡ ram_size = omega (arith, a.ram_is_whole, a.ram.ok.0) in
    let low = get_or_read a.ram.items _ _ (omega (arith, whole, c.in-Some.ensures.within)) c.index.ensures 0 in
    let high = get_or_read a.ram.items _ _ (omega (arith, whole, c.in-Some.ensures.within)) c.index-in-Some.ensures 0 in
    ram_word settled_chips (world_of a) c.args.segment c.args.offset c.from.result c.from-in-Some.result whole
    c.in-Some.ensures.inside (omega (arith, c.in-Some.ensures.within, address)) (omega arith) (omega arith)
    (c.from.ensures ∙ low ∙ ap (slice_index a.ram.items) address)
    (c.from-in-Some.ensures ∙ high ∙ ap (λ n. slice_index a.ram.items (n + 1)) address)

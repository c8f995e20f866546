use Rattle.std.proofs.Common.{◌<◌, length, arith}
use Rattle.std.proofs.lemmas.List.{get_or_read}
use Rattle.select.specs.Inner.Assembly.{nothing}
use Rattle.select.proofs.Drafting.{as_many, drafted_at}
use Rattle.select.proofs.assembly.extents_of.Goals as goal

pub extent_of-requires : goal.extent_of-requires
extent_of-requires c =
    let ds = c.args.drafts.now in
    let xs = c.args.steps.now in
    let k = c.loop-k.k in
    let d = c.index-drafts-k.result in
    let x = c.index-steps-k.result in
    let lt : k < length xs = c.loop-k-test.true in
    let inside : k < length ds = omega (arith, lt, as_many (λ d. d.items) ds xs c.requires) in
    drafted_at (λ d. d.items) ds xs k d x c.requires lt (get_or_read ds k d inside c.index-drafts-k.is d) (get_or_read xs k x lt c.index-steps-k.is nothing)

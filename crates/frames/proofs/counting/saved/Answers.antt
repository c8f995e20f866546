use Rattle.frames.proofs.Whole.{saved_by}
use Rattle.frames.proofs.counting.saved.Goals as goal

pub returns-clause-saved : goal.returns-clause-saved
returns-clause-saved c =
    let known = c.in_ok-needs.ensures in
    saved_by c.args.code.now c.in_ok-needs.needs.items known.size known.known c.deref.result.now c.registers_of.result c.deref.ensures.value c.registers_of.ensures.all

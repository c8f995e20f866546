use Rattle.plm86.proofs.Composition.Linked.{linked}
use Rattle.plm86.proofs.compile.assemble.Goals as goal

pub returns-clause-linked : goal.returns-clause-linked
returns-clause-linked c =
    let e = c.link.ensures in
    linked c.args.names.now c.args.parts.items c.args.stack c.args.size c.link.result e.long e.code e.words e.start_up e.initial e.bytes e.turns e.few_turns e.parts e.within e.offsets e.placement e.stack e.fits

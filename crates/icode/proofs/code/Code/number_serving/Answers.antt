use Rattle.std.proofs.Common.{length, ap, arith}
use Rattle.std.proofs.lemmas.Option.{slice_get_within}
use Rattle.icode.proofs.code.Code.number_serving.Goals as goal

pub returns-in-None : goal.returns-in-None
returns-in-None c =
    let self = c.args.self.now in
    let within = slice_get_within self.handlers.items c.args.vector _ (self.handlers_are c.args.vector (omega (arith, c.ranges.vector.fits))) in
    absurd (omega (arith, within, c.in-None.ensures.lookup.3, ap length c.deref.ensures.value, c.from.ensures))

use Rattle.std.proofs.Common.{subst}
use Rattle.plm_decl.specs.Placement.{IsPlacement, sizes_of}
use Rattle.acceptance.proofs.meaning.opened.Goals as goal

pub new-requires : goal.new-requires
new-requires c = subst (λ n. IsPlacement c.args.placement.now.offsets.items (sizes_of n)) c.names.ensures.names (c.fits.ensures.0 c.if-fits.true)

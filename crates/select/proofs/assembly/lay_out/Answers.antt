use Rattle.std.proofs.Common.{◌∙◌}
use Rattle.select.proofs.Spelling.{extents_good}
use Rattle.select.proofs.assembly.lay_out.Goals as goal

pub settled-requires : goal.settled-requires
settled-requires c = extents_good c.args.steps.now c.deref.result.now (c.deref.ensures.value ∙ c.in_ok-extents.ensures.extents) c.requires

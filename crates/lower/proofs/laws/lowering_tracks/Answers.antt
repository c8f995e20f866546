use Rattle.lower.proofs.Whole.{program_tracks}
use Rattle.lower.proofs.laws.lowering_tracks.Goals as goal

pub returns : goal.returns
returns c = program_tracks

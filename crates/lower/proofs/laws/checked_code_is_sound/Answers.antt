use Rattle.lower.proofs.Sound.{checked_sound}
use Rattle.lower.proofs.laws.checked_code_is_sound.Goals as goal

pub returns : goal.returns
returns c = checked_sound

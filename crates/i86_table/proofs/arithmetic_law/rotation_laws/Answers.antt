use Rattle.i86_table.proofs.RotationProofs.{rotation_tells}
use Rattle.i86_table.proofs.arithmetic_law.rotation_laws.Goals as goal

pub returns : goal.returns
returns c = rotation_tells

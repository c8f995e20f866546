use Rattle.i86_table.proofs.ControlFlags.{arithmetic_leaves_control}
use Rattle.i86_table.proofs.arithmetic_law.control_flags_law.Goals as goal

pub returns : goal.returns
returns c = arithmetic_leaves_control

use Rattle.i86_table.proofs.ContextProofs.{context_registers}
use Rattle.i86_table.proofs.context_law.context_laws.Goals as goal

pub returns : goal.returns
returns c = context_registers

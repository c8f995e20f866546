use Rattle.cpu8086.proofs.Computing.{computed_from_memory}
use Rattle.cpu8086.proofs.arithmetic.compute.Goals as goal

pub returns-in-FromMemory : goal.returns-in-FromMemory
returns-in-FromMemory g c =
    let said = computed_from_memory g.B.Bus.model g.R.Operand.bank c.args.operation c.in-FromMemory.register c.in-FromMemory.memory c.args.registers.now (g.B.Bus.world c.args.bus.now) c.args.labels.now.items in
    let done = c.compute_from_memory.ensures in
    let is = c.in-FromMemory.is in
    cc

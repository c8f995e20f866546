use Rattle.std.proofs.Common.{arith}
use Rattle.std.proofs.lemmas.Grind.{common_steps}
use Rattle.i86_code.specs.Instructions.{plain_instruction}
use Rattle.i86_code.proofs.instructions.plain.Goals as goal

pub returns-in_default : goal.returns-in_default
unfolding plain_instruction
returns-in_default c = grind (arith, common_steps)

pub returns-in-PushSegment : goal.returns-in-PushSegment
unfolding plain_instruction
returns-in-PushSegment c = grind (arith, common_steps)

pub returns-in-PopSegment : goal.returns-in-PopSegment
unfolding plain_instruction
returns-in-PopSegment c = grind (arith, common_steps)

pub returns-in-Increment : goal.returns-in-Increment
unfolding plain_instruction
returns-in-Increment c = grind (arith, common_steps)

pub returns-in-Decrement : goal.returns-in-Decrement
unfolding plain_instruction
returns-in-Decrement c = grind (arith, common_steps)

pub returns-in-Push : goal.returns-in-Push
unfolding plain_instruction
returns-in-Push c = grind (arith, common_steps)

pub returns-in-Pop : goal.returns-in-Pop
unfolding plain_instruction
returns-in-Pop c = grind (arith, common_steps)

pub returns-in-ExchangeAccumulator : goal.returns-in-ExchangeAccumulator
unfolding plain_instruction
returns-in-ExchangeAccumulator c = grind (arith, common_steps)

pub returns-in-ConvertByte : goal.returns-in-ConvertByte
unfolding plain_instruction
returns-in-ConvertByte c = grind (arith, common_steps)

pub returns-in-ConvertWord : goal.returns-in-ConvertWord
unfolding plain_instruction
returns-in-ConvertWord c = grind (arith, common_steps)

pub returns-in-PushFlags : goal.returns-in-PushFlags
unfolding plain_instruction
returns-in-PushFlags c = grind (arith, common_steps)

pub returns-in-PopFlags : goal.returns-in-PopFlags
unfolding plain_instruction
returns-in-PopFlags c = grind (arith, common_steps)

pub returns-in-MoveString : goal.returns-in-MoveString
unfolding plain_instruction
returns-in-MoveString c = grind (arith, common_steps)

pub returns-in-StoreString : goal.returns-in-StoreString
unfolding plain_instruction
returns-in-StoreString c = grind (arith, common_steps)

pub returns-in-Return : goal.returns-in-Return
unfolding plain_instruction
returns-in-Return c = grind (arith, common_steps)

pub returns-in-InterruptReturn : goal.returns-in-InterruptReturn
unfolding plain_instruction
returns-in-InterruptReturn c = grind (arith, common_steps)

pub returns-in-InDx : goal.returns-in-InDx
unfolding plain_instruction
returns-in-InDx c = grind (arith, common_steps)

pub returns-in-OutDx : goal.returns-in-OutDx
unfolding plain_instruction
returns-in-OutDx c = grind (arith, common_steps)

pub returns-in-Halt : goal.returns-in-Halt
unfolding plain_instruction
returns-in-Halt c = grind (arith, common_steps)

pub returns-in-ComplementCarry : goal.returns-in-ComplementCarry
unfolding plain_instruction
returns-in-ComplementCarry c = grind (arith, common_steps)

pub returns-in-ClearCarry : goal.returns-in-ClearCarry
unfolding plain_instruction
returns-in-ClearCarry c = grind (arith, common_steps)

pub returns-in-SetCarry : goal.returns-in-SetCarry
unfolding plain_instruction
returns-in-SetCarry c = grind (arith, common_steps)

pub returns-in-DisableInterrupts : goal.returns-in-DisableInterrupts
unfolding plain_instruction
returns-in-DisableInterrupts c = grind (arith, common_steps)

pub returns-in-EnableInterrupts : goal.returns-in-EnableInterrupts
unfolding plain_instruction
returns-in-EnableInterrupts c = grind (arith, common_steps)

pub returns-in-ClearDirection : goal.returns-in-ClearDirection
unfolding plain_instruction
returns-in-ClearDirection c = grind (arith, common_steps)

pub returns-in-SetDirection : goal.returns-in-SetDirection
unfolding plain_instruction
returns-in-SetDirection c = grind (arith, common_steps)

use Rattle.std.proofs.Common.{arith}
use Rattle.std.proofs.lemmas.Grind.{common_steps}
use Rattle.cpu8086.specs.Effect.{effect}
use Rattle.cpu8086.proofs.execute.execute.Goals as goal

pub returns-in-Nop : goal.returns-in-Nop
unfolding effect
returns-in-Nop g c = record { phase = grind (arith, common_steps); after = grind (arith, common_steps) }

pub returns-in-AluByte : goal.returns-in-AluByte
unfolding effect
returns-in-AluByte g c = record { phase = grind (arith, common_steps); after = grind (arith, common_steps) }

pub returns-in-AluWord : goal.returns-in-AluWord
unfolding effect
returns-in-AluWord g c = record { phase = grind (arith, common_steps); after = grind (arith, common_steps) }

pub returns-in-UnaryByte : goal.returns-in-UnaryByte
unfolding effect
returns-in-UnaryByte g c = record { phase = grind (arith, common_steps); after = grind (arith, common_steps) }

pub returns-in-UnaryWord : goal.returns-in-UnaryWord
unfolding effect
returns-in-UnaryWord g c = record { phase = grind (arith, common_steps); after = grind (arith, common_steps) }

pub returns-in-TestByte : goal.returns-in-TestByte
unfolding effect
returns-in-TestByte g c = record { phase = grind (arith, common_steps); after = grind (arith, common_steps) }

pub returns-in-TestWord : goal.returns-in-TestWord
unfolding effect
returns-in-TestWord g c = record { phase = grind (arith, common_steps); after = grind (arith, common_steps) }

pub returns-in-ShiftByte : goal.returns-in-ShiftByte
unfolding effect
returns-in-ShiftByte g c = record { phase = grind (arith, common_steps); after = grind (arith, common_steps) }

pub returns-in-ShiftWord : goal.returns-in-ShiftWord
unfolding effect
returns-in-ShiftWord g c = record { phase = grind (arith, common_steps); after = grind (arith, common_steps) }

pub returns-in-MultiplyByte : goal.returns-in-MultiplyByte
unfolding effect
returns-in-MultiplyByte g c = record { phase = grind (arith, common_steps); after = grind (arith, common_steps) }

pub returns-in-MultiplyWord : goal.returns-in-MultiplyWord
unfolding effect
returns-in-MultiplyWord g c = record { phase = grind (arith, common_steps); after = grind (arith, common_steps) }

pub returns-in-DivideByte : goal.returns-in-DivideByte
unfolding effect
returns-in-DivideByte g c = record { phase = grind (arith, common_steps); after = grind (arith, common_steps) }

pub returns-in-ConvertByte : goal.returns-in-ConvertByte
unfolding effect
returns-in-ConvertByte g c = record { phase = grind (arith, common_steps); after = grind (arith, common_steps) }

pub returns-in-ConvertWord : goal.returns-in-ConvertWord
unfolding effect
returns-in-ConvertWord g c = record { phase = grind (arith, common_steps); after = grind (arith, common_steps) }

pub returns-in-MoveByte : goal.returns-in-MoveByte
unfolding effect
returns-in-MoveByte g c = record { phase = grind (arith, common_steps); after = grind (arith, common_steps) }

pub returns-in-MoveWord : goal.returns-in-MoveWord
unfolding effect
returns-in-MoveWord g c = record { phase = grind (arith, common_steps); after = grind (arith, common_steps) }

pub returns-in-MoveFromSegment : goal.returns-in-MoveFromSegment
unfolding effect
returns-in-MoveFromSegment g c = record { phase = grind (arith, common_steps); after = grind (arith, common_steps) }

pub returns-in-MoveToSegment : goal.returns-in-MoveToSegment
unfolding effect
returns-in-MoveToSegment g c = record { phase = grind (arith, common_steps); after = grind (arith, common_steps) }

pub returns-in-LoadAddress : goal.returns-in-LoadAddress
unfolding effect
returns-in-LoadAddress g c = record { phase = grind (arith, common_steps); after = grind (arith, common_steps) }

pub returns-in-ExchangeBytes : goal.returns-in-ExchangeBytes
unfolding effect
returns-in-ExchangeBytes g c = record { phase = grind (arith, common_steps); after = grind (arith, common_steps) }

pub returns-in-ExchangeWords : goal.returns-in-ExchangeWords
unfolding effect
returns-in-ExchangeWords g c = record { phase = grind (arith, common_steps); after = grind (arith, common_steps) }

pub returns-in-ExchangeMemoryByte : goal.returns-in-ExchangeMemoryByte
unfolding effect
returns-in-ExchangeMemoryByte g c = record { phase = grind (arith, common_steps); after = grind (arith, common_steps) }

pub returns-in-ExchangeMemoryWord : goal.returns-in-ExchangeMemoryWord
unfolding effect
returns-in-ExchangeMemoryWord g c = record { phase = grind (arith, common_steps); after = grind (arith, common_steps) }

pub returns-in-Push : goal.returns-in-Push
unfolding effect
returns-in-Push g c = record { phase = grind (arith, common_steps); after = grind (arith, common_steps) }

pub returns-in-Pop : goal.returns-in-Pop
unfolding effect
returns-in-Pop g c = record { phase = grind (arith, common_steps); after = grind (arith, common_steps) }

pub returns-in-PushSegment : goal.returns-in-PushSegment
unfolding effect
returns-in-PushSegment g c = record { phase = grind (arith, common_steps); after = grind (arith, common_steps) }

pub returns-in-PopSegment : goal.returns-in-PopSegment
unfolding effect
returns-in-PopSegment g c = record { phase = grind (arith, common_steps); after = grind (arith, common_steps) }

pub returns-in-PushFlags : goal.returns-in-PushFlags
unfolding effect
returns-in-PushFlags g c = record { phase = grind (arith, common_steps); after = grind (arith, common_steps) }

pub returns-in-PopFlags : goal.returns-in-PopFlags
unfolding effect
returns-in-PopFlags g c = record { phase = grind (arith, common_steps); after = grind (arith, common_steps) }

pub returns-in-MoveString : goal.returns-in-MoveString
unfolding effect
returns-in-MoveString g c = record { phase = grind (arith, common_steps); after = grind (arith, common_steps) }

pub returns-in-StoreString : goal.returns-in-StoreString
unfolding effect
returns-in-StoreString g c = record { phase = grind (arith, common_steps); after = grind (arith, common_steps) }

pub returns-in-In : goal.returns-in-In
unfolding effect
returns-in-In g c = record { phase = grind (arith, common_steps); after = grind (arith, common_steps) }

pub returns-in-Out : goal.returns-in-Out
unfolding effect
returns-in-Out g c = record { phase = grind (arith, common_steps); after = grind (arith, common_steps) }

pub returns-in-JumpIf : goal.returns-in-JumpIf
unfolding effect
returns-in-JumpIf g c = record { phase = grind (arith, common_steps); after = grind (arith, common_steps) }

pub returns-in-Loop : goal.returns-in-Loop
unfolding effect
returns-in-Loop g c = record { phase = grind (arith, common_steps); after = grind (arith, common_steps) }

pub returns-in-JumpIfCxZero : goal.returns-in-JumpIfCxZero
unfolding effect
returns-in-JumpIfCxZero g c = record { phase = grind (arith, common_steps); after = grind (arith, common_steps) }

pub returns-in-JumpShort : goal.returns-in-JumpShort
unfolding effect
returns-in-JumpShort g c = record { phase = grind (arith, common_steps); after = grind (arith, common_steps) }

pub returns-in-Jump : goal.returns-in-Jump
unfolding effect
returns-in-Jump g c = record { phase = grind (arith, common_steps); after = grind (arith, common_steps) }

pub returns-in-JumpTo : goal.returns-in-JumpTo
unfolding effect
returns-in-JumpTo g c = record { phase = grind (arith, common_steps); after = grind (arith, common_steps) }

pub returns-in-JumpFar : goal.returns-in-JumpFar
unfolding effect
returns-in-JumpFar g c = record { phase = grind (arith, common_steps); after = grind (arith, common_steps) }

pub returns-in-Call : goal.returns-in-Call
unfolding effect
returns-in-Call g c = record { phase = grind (arith, common_steps); after = grind (arith, common_steps) }

pub returns-in-CallTo : goal.returns-in-CallTo
unfolding effect
returns-in-CallTo g c = record { phase = grind (arith, common_steps); after = grind (arith, common_steps) }

pub returns-in-Return : goal.returns-in-Return
unfolding effect
returns-in-Return g c = record { phase = grind (arith, common_steps); after = grind (arith, common_steps) }

pub returns-in-ReturnDropping : goal.returns-in-ReturnDropping
unfolding effect
returns-in-ReturnDropping g c = record { phase = grind (arith, common_steps); after = grind (arith, common_steps) }

pub returns-in-InterruptReturn : goal.returns-in-InterruptReturn
unfolding effect
returns-in-InterruptReturn g c = record { phase = grind (arith, common_steps); after = grind (arith, common_steps) }

pub returns-in-ComplementCarry : goal.returns-in-ComplementCarry
unfolding effect
returns-in-ComplementCarry g c = record { phase = grind (arith, common_steps); after = grind (arith, common_steps) }

pub returns-in-ClearCarry : goal.returns-in-ClearCarry
unfolding effect
returns-in-ClearCarry g c = record { phase = grind (arith, common_steps); after = grind (arith, common_steps) }

pub returns-in-SetCarry : goal.returns-in-SetCarry
unfolding effect
returns-in-SetCarry g c = record { phase = grind (arith, common_steps); after = grind (arith, common_steps) }

pub returns-in-DisableInterrupts : goal.returns-in-DisableInterrupts
unfolding effect
returns-in-DisableInterrupts g c = record { phase = grind (arith, common_steps); after = grind (arith, common_steps) }

pub returns-in-EnableInterrupts : goal.returns-in-EnableInterrupts
unfolding effect
returns-in-EnableInterrupts g c = record { phase = grind (arith, common_steps); after = grind (arith, common_steps) }

pub returns-in-ClearDirection : goal.returns-in-ClearDirection
unfolding effect
returns-in-ClearDirection g c = record { phase = grind (arith, common_steps); after = grind (arith, common_steps) }

pub returns-in-SetDirection : goal.returns-in-SetDirection
unfolding effect
returns-in-SetDirection g c = record { phase = grind (arith, common_steps); after = grind (arith, common_steps) }

pub returns-in-Halt : goal.returns-in-Halt
unfolding effect
returns-in-Halt g c = record { phase = grind (arith, common_steps); after = grind (arith, common_steps) }

-- The status with which the program ends.
use Rattle.std.specs.Prelude.{ℕ, nat_eq, cond, Result, Ok, Err}
use Rattle.word86.specs.declared.fault.Fault.{Fault}
use Rattle.word86.specs.declared.fault.Fault.TheVariants.{Memory, At}
use Rattle.word86.specs.declared.number.Number.{Number}
use Rattle.word86.specs.FaultCode.{code_of}
use Rattle.board.specs.declared.run.End.{End}
use Rattle.board.specs.declared.run.End.TheVariants.{Stopped, Opcode}

-- 3 where the output cannot be written (E704)
abbrev pub status_of_fault : Number → ℕ
status_of_fault number = cond (nat_eq (code_of number) 704) 3 1

-- 0 for a run to its stop
abbrev pub status_of : Result End Fault → ℕ
status_of (Ok Stopped) = 0
status_of (Ok (Opcode address)) = 1
status_of (Err Memory) = 1
status_of (Err (At k line number)) = status_of_fault number

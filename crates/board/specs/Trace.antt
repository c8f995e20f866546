-- The lines of a turn of a run.
use Rattle.std.specs.Prelude.{ℕ, List, [], Option, Some, None}
use Rattle.std.specs.List.{flat_map}
use Rattle.word86.specs.declared.label.Label.{Label}
use Rattle.cpu8086.specs.declared.cpu.Kind.{Kind}
use Rattle.cpu8086.specs.declared.cpu.Kind.TheVariants.{Ack, Instr, Wait, Opcode}
use Rattle.listing_map.specs.Lines.{label_line, opcode_line}

-- a line for each label
abbrev pub lines : List Label → List ℕ
lines ls = flat_map label_line ls

-- the address of bytes that are no instruction, if the turn met them
abbrev pub opcode_of : Kind → Option ℕ
opcode_of (Opcode address) = Some address
opcode_of Ack = None
opcode_of Instr = None
opcode_of Wait = None

-- bytes that are no instruction end the text by their line
abbrev pub closing : Kind → List ℕ
closing (Opcode address) = opcode_line address
closing Ack = []
closing Instr = []
closing Wait = []

-- What spells an instruction is decoded so, and the other way round.
use Rattle.std.specs.Prelude.{ℕ, ◌≡◌, ◌<◌, ◌≤◌, ◌++◌, Some, List, length, get_or, take}
use Rattle.i86_table.specs.declared.instruction.Instr.{Instr}
use Rattle.i86_code.specs.Forms.{Spells}
use Rattle.i86_code.specs.Decoding.{decoded}

-- what spells an instruction is decoded so, whatever follows it
abbrev pub IsOneForm : Type 0
IsOneForm = (front rest : List ℕ) (i : Instr) → Spells front i → decoded (front ++ rest) ≡ Some (i, length front)

-- and has at most eight bytes
abbrev pub IsShort : Type 0
IsShort = (front : List ℕ) (i : Instr) → Spells front i → length front ≤ 8

-- numbers that a byte can hold
abbrev pub AreBytes : List ℕ → Type 0
AreBytes bytes = (i : ℕ) → get_or bytes i 0 < 256

-- what is decoded is spelt by its bytes: as many as its length says, at least one, and none past the end
abbrev pub DecodedSpells : Type 0
DecodedSpells = (bytes : List ℕ) (i : Instr) (n : ℕ) → AreBytes bytes → decoded bytes ≡ Some (i, n) → Spells (take n bytes) i × (0 < n) × (n ≤ length bytes)

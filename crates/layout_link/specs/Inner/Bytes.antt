-- How a ROM is written: start-up, the parts, initial bytes of the data, zeros, and the far jump of the reset.
use Rattle.std.specs.Prelude.{ℕ, ◌≡◌, ◌+◌, ◌-◌, List, [], ◌∷◌, ◌++◌, length, replicate, slice_index, Option, Some}
use Rattle.i86_table.specs.declared.instruction.Instr.{Instr}
use Rattle.i86_code.specs.Forms.{Spells}
use Rattle.i86_code.specs.Writing.{bytes_of}
use Rattle.select.specs.declared.part.Part.{Part}
use Rattle.layout_link.specs.Inner.Words.{filled}

-- the parts from the k-th on, their words filled in
abbrev pub all_filled : (offsets places : List ℕ) (k : ℕ) → List Part → List ℕ
all_filled offsets places k [] = []
all_filled offsets places k (p ∷ ps) = filled offsets places (slice_index places k) p.bytes.items p.fixups.items ++ all_filled offsets places (k + 1) ps

abbrev pub rom_bytes : (head code initial jump : List ℕ) (size : ℕ) → List ℕ
rom_bytes head code initial jump size =
    let front = head ++ code ++ initial in
    front ++ replicate (size - 16 - length front) 0 ++ jump ++ replicate (16 - length jump) 0

abbrev pub all_bytes : List Instr → List ℕ
all_bytes [] = []
all_bytes (n ∷ ns) = bytes_of n ++ all_bytes ns

abbrev pub AreCoded : List Instr → Type 0
AreCoded [] = Unit {0}
AreCoded (n ∷ ns) = Spells (bytes_of n) n × AreCoded ns

-- these instructions stand one after another
abbrev pub StandInOrder : (code : ℕ → Option (Instr × ℕ)) → ℕ → List Instr → Type 0
StandInOrder code p [] = Unit {0}
StandInOrder code p (n ∷ ns) = (code p ≡ Some (n, length (bytes_of n))) × StandInOrder code (p + length (bytes_of n)) ns

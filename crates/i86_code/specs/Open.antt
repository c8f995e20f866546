-- The bytes of instructions with a word that is known only later.
use Rattle.std.specs.Prelude.{ℕ, ◌+◌, ◌*◌, ◌%◌, ◌<◌, ◌^◌, Bool, true, false, List, [], ◌∷◌, ◌++◌, Option, Some, None, if◌then◌else◌}
use Rattle.word86.specs.declared.width.Width.{Width}
use Rattle.word86.specs.declared.width.Width.TheVariants as widths
use Rattle.i86_table.specs.declared.instruction.AluOperation.TheVariants.{Cmp}
use Rattle.i86_table.specs.declared.instruction.Base.{Base}
use Rattle.i86_table.specs.declared.open.Use.{Use}
use Rattle.i86_table.specs.declared.open.Use.TheVariants.{Load, Store, Operate}
use Rattle.i86_table.specs.declared.open.Spot.{Spot}
use Rattle.i86_table.specs.declared.open.Open.{Open}
use Rattle.i86_table.specs.declared.open.Open.TheVariants as opens
use Rattle.i86_table.specs.Numbers.{byte_register_code, word_register_code}
use Rattle.i86_table.specs.Open.{spot_address, closed}
use Rattle.i86_code.specs.declared.form.Opcode.{Opcode}
use Rattle.i86_code.specs.declared.form.Opcode.TheVariants as op
use Rattle.i86_code.specs.Forms.{operation_code, base_code, prefix_bytes, word_bytes, opcode_byte, Spells}
use Rattle.i86_code.specs.Writing.{prefix_at, is_near, is_al, is_ax}

-- the address byte of a place with a word for its number: [number] or [base+number]
abbrev pub address_byte : ℕ → Option Base → ℕ
address_byte r None = 8 * r + 6
address_byte r (Some b) = 128 + 8 * r + base_code b

abbrev pub prefix_front : Spot → List ℕ
prefix_front s = prefix_bytes (prefix_at s.segment (spot_address s.base 0))

abbrev pub addressed_front : Opcode → ℕ → Spot → List ℕ
addressed_front k r s = prefix_front s ++ opcode_byte k ∷ address_byte r s.base ∷ []

-- the accumulator has an opcode of its own for a place without base registers
abbrev pub accumulator_front : Bool → Option Base → Opcode → List ℕ → Spot → List ℕ
accumulator_front true None k other s = prefix_front s ++ opcode_byte k ∷ []
accumulator_front true (Some b) k other s = other
accumulator_front false b k other s = other

abbrev pub use_front : Bool → Width → Use → ℕ → Spot → List ℕ
use_front is_accumulator w Load r s = accumulator_front is_accumulator s.base (op.MoveFromDirect w) (addressed_front (op.MoveToRegister w) r s) s
use_front is_accumulator w Store r s = accumulator_front is_accumulator s.base (op.MoveToDirect w) (addressed_front (op.MoveToPlace w) r s) s
use_front is_accumulator w (Operate o) r s = addressed_front (op.AluToRegister o w) r s

-- 83H where the constant is a sign-extended byte
abbrev pub compare_word_opcode : ℕ → Opcode
compare_word_opcode k = if is_near k then op.AluShort else op.AluImmediate widths.Word

-- the bytes before the word
abbrev pub front_of : Open → List ℕ
front_of (opens.Number r) = opcode_byte (op.MoveRegisterWord r) ∷ []
front_of (opens.OperateAx o) = opcode_byte (op.AluAccumulator o widths.Word) ∷ []
front_of (opens.Byte u r s) = use_front (is_al r) widths.Byte u (byte_register_code r) s
front_of (opens.Word u r s) = use_front (is_ax r) widths.Word u (word_register_code r) s
front_of (opens.CompareByte s k) = addressed_front (op.AluImmediate widths.Byte) (operation_code Cmp) s
front_of (opens.CompareWord s k) = addressed_front (compare_word_opcode k) (operation_code Cmp) s
front_of (opens.TestByte s m) = addressed_front (op.UnaryGroup widths.Byte) 0 s
front_of (opens.JumpTo s) = addressed_front (op.StepGroup widths.Word) 4 s
front_of opens.Call = opcode_byte op.Call ∷ []
front_of opens.Jump = opcode_byte op.Jump ∷ []

-- the bytes behind the word
abbrev pub back_of : Open → List ℕ
back_of (opens.Number r) = []
back_of (opens.OperateAx o) = []
back_of (opens.Byte u r s) = []
back_of (opens.Word u r s) = []
back_of (opens.CompareByte s k) = k ∷ []
back_of (opens.CompareWord s k) = if is_near k then k % 256 ∷ [] else word_bytes k
back_of (opens.TestByte s m) = m ∷ []
back_of (opens.JumpTo s) = []
back_of opens.Call = []
back_of opens.Jump = []

-- all its bytes, with this number in the word
abbrev pub open_bytes : Open → (number : ℕ) → List ℕ
open_bytes x n = front_of x ++ (word_bytes n ++ back_of x)

-- whatever number stands in the word, the bytes spell the instruction with it
abbrev pub IsOpen : Open → Type 0
IsOpen x = (n : ℕ) → n < 2 ^ 16 → Spells (open_bytes x n) (closed x n)

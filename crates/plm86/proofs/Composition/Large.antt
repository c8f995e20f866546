-- What does not fit into a ROM is a large program: it takes at most 46 bytes a node, its initial bytes, and 79; and more only where the
-- initial bytes are past 18,480, so many that 840 stretches of them are copied.
use Rattle.std.proofs.Common.{◌≡◌, ℕ, zero, suc, ◌+◌, ◌-◌, ◌*◌, ◌<◌, ◌≤◌, ◌⊎◌, inl, inr, List, [], ◌∷◌, length, refl, sym, ap, ◌∙◌, arith}
use Rattle.std.specs.List.{sum_by}
use Rattle.std.proofs.lemmas.Bool.{cases_lt}
use Rattle.std.proofs.lemmas.List.{length-map}
use Rattle.std.proofs.lemmas.List.Sums.{sum_by-cons}
use Rattle.plm_decl.specs.declared.names.Names.{Names}
use Rattle.plm_type.specs.Nodes.{nodes_of, initial_size}
use Rattle.plm_type.specs.Programs.{declared_procedures}
use Rattle.icode.specs.declared.code.Routine.TheVariants.{Main, Procedure}
use Rattle.icode.specs.declared.code.Code.{Code}
use Rattle.icode.specs.Room.{room_in}
use Rattle.plm_decl.specs.Names.{vector_of}
use Rattle.lower.specs.Lowering.{IsLowered}
use Rattle.lower.specs.Room.{procedures_room, HasRoom}
use Rattle.select.specs.declared.part.Part.{Part}
use Rattle.select.specs.Room.{room_below, ProgramsHaveRoom}
use Rattle.select.specs.Selection.{AreParts}
use Rattle.layout_link.specs.declared.image.RomSize.{RomSize}
use Rattle.layout_link.specs.declared.image.RomSize.TheVariants as sizes
use Rattle.layout_link.specs.Image.{bytes_in, kib_of}
use Rattle.layout_link.specs.Initial.{data_tasks}
use Rattle.layout_link.specs.Linker.{needed, stretches_in}
use Rattle.layout_link.specs.Places.{total_of}
use Rattle.layout_link.specs.Tasks.{vector_tasks}
use Rattle.plm86.specs.Build.{IsTooLarge}
use Rattle.plm86.proofs.Composition.Vectors.{bytes_append, vectors_room}
use Rattle.plm86.proofs.Composition.Data.{data_room}

-- the parts' bytes, as select counts them
total_is : (parts : List Part) → total_of parts ≡ sum_by (λ p. length p.bytes.items) parts
total_is [] = refl
total_is (p ∷ ps) = let h = total_is ps in let e = sum_by-cons (λ (p : Part). length p.bytes.items) p ps in omega (arith, h, e)

module _ (names : Names) (c : Code) (lowered : IsLowered names c) where
  -- of each procedure's part five bytes are for the registers that it pushes
  below_is : (n : ℕ) → room_below c n ≡ procedures_room names n + 5 * n
  below_is zero = refl
  below_is (suc n) = let h = below_is n in let e = ap room_in (lowered.code_is (Procedure n)) in omega (arith, h, e)

  how_many : length c.procedures.items ≡ length (declared_procedures names)
  how_many = sym (length-map c.procedures.items (λ p. p.vector)) ∙ (ap length lowered.vectors_are ∙ length-map (declared_procedures names) vector_of)

  module _ (parts : List Part) (are : AreParts c parts) (room : HasRoom names) (fit : ProgramsHaveRoom) where
    -- six bytes a procedure for its vector and five for its registers are left of the twelve
    pub needed_few : needed names parts ≤ 46 * nodes_of names + initial_size names + (2 * initial_size names - 36960) + 79
    needed_few =
        let tasks_are = bytes_append (vector_tasks parts 0 256) (data_tasks 0 0 (stretches_in names)) in
        let objects = data_room names in
        let main_is = ap room_in (lowered.code_is Main) in
        let below = below_is (length c.procedures.items) in
        let rooms = ap (procedures_room names) how_many in
        omega (arith, tasks_are, vectors_room c parts are, objects, total_is parts, fit c parts are, main_is, below, rooms, how_many, room.main, room.procedures)

-- of each KiB 736 bytes are for 16 nodes, and 256 for initial bytes; a quarter of 64 KiB is 16,384 of these
large : (kib nodes initial bytes : ℕ) → (8 ≤ kib) × (kib ≤ 64) → bytes ≤ 46 * nodes + initial + (2 * initial - 36960) + 79 → 1024 * kib < bytes → (16 * kib < nodes) ⊎ (1024 * kib < 4 * initial)
large kib nodes initial bytes (some, most) few lt = elim (cases_lt (16 * kib) nodes) [
  | inl more ↦ inl more
  | inr le ↦ inr (omega (arith, some, most, few, lt, le))
]

some_kib : (size : RomSize) → (8 ≤ kib_of size) × (kib_of size ≤ 64)
some_kib sizes.Kib8 = (omega arith, omega arith)
some_kib sizes.Kib16 = (omega arith, omega arith)
some_kib sizes.Kib32 = (omega arith, omega arith)
some_kib sizes.Kib64 = (omega arith, omega arith)

pub code_fits : (names : Names) (c : Code) (parts : List Part) (size : RomSize) → IsLowered names c → AreParts c parts → HasRoom names → ProgramsHaveRoom → bytes_in size < needed names parts → IsTooLarge names size
code_fits names c parts size lowered are room fit lt =
    large (kib_of size) (nodes_of names) (initial_size names) (needed names parts) (some_kib size) (needed_few names c lowered parts are room fit) lt

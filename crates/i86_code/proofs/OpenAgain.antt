-- The bytes of an instruction with a word, whatever number stands there.
use Rattle.std.proofs.Common.{◌≡◌, ℕ, ◌%◌, ◌<◌, ◌^◌, Bool, true, false, List, [], ◌∷◌, ◌++◌, Option, Some, None, refl, sym, ap, ◌∙◌, subst, arith, inl, inr, append_assoc, append-nil}
use Rattle.word86.specs.declared.width.Width.TheVariants as widths
use Rattle.i86_table.specs.declared.registers.Segment.{Segment}
use Rattle.i86_table.specs.declared.registers.Segment.TheVariants as segments
use Rattle.i86_table.specs.declared.registers.Register8.{Register8}
use Rattle.i86_table.specs.declared.registers.Register16.{Register16}
use Rattle.i86_table.specs.declared.instruction.AluOperation.TheVariants.{Cmp}
use Rattle.i86_table.specs.declared.instruction.Base.{Base}
use Rattle.i86_table.specs.declared.instruction.Address.{Address}
use Rattle.i86_table.specs.declared.instruction.Address.TheVariants as addresses
use Rattle.i86_table.specs.declared.instruction.Memory.{Memory}
use Rattle.i86_table.specs.declared.instruction.RmOperand.{RmOperand}
use Rattle.i86_table.specs.declared.instruction.RmOperand.TheVariants as rm
use Rattle.i86_table.specs.declared.instruction.Operands.TheVariants.{FromRegister, FromMemory, Immediate}
use Rattle.i86_table.specs.declared.instruction.TestMask.TheVariants as masks
use Rattle.i86_table.specs.declared.instruction.Instr.{Instr}
use Rattle.i86_table.specs.declared.instruction.Instr.TheVariants as i
use Rattle.i86_table.specs.declared.open.Use.{Use}
use Rattle.i86_table.specs.declared.open.Use.TheVariants.{Load, Store, Operate}
use Rattle.i86_table.specs.declared.open.Spot.{Spot}
use Rattle.i86_table.specs.declared.open.Open.{Open}
use Rattle.i86_table.specs.declared.open.Open.TheVariants as opens
use Rattle.i86_table.specs.Arithmetic.{sign_extended}
use Rattle.i86_table.specs.Numbers.{byte_register_code, word_register_code}
use Rattle.i86_table.specs.Open.{spot_address, spot_memory, with_byte, with_word, closed}
use Rattle.i86_code.specs.declared.form.Opcode.{Opcode}
use Rattle.i86_code.specs.declared.form.Opcode.TheVariants as op
use Rattle.i86_code.specs.declared.form.FieldKind.TheVariants as kinds
use Rattle.i86_code.specs.declared.form.Fields.{Fields}
use Rattle.i86_code.specs.declared.form.Fields.TheVariants as fields
use Rattle.i86_code.specs.declared.form.Prefixes.{Prefixes}
use Rattle.i86_code.specs.declared.form.RegisterOrMemory.{RegisterOrMemory}
use Rattle.i86_code.specs.declared.form.Form.{Form}
use Rattle.i86_code.specs.Opcode.{byte_register_at, word_register_at, field_kind_of}
use Rattle.i86_code.specs.Forms.{FieldsFit, operation_code, form_bytes, field_bytes, prefix_bytes, place_bytes, word_bytes, opcode_byte}
use Rattle.i86_code.specs.Instructions.{usual_segment, direct, byte_operand, word_operand, to_register, addressed_instruction, addressed_byte_instruction, addressed_word_instruction, word_instruction, instruction_from}
use Rattle.i86_code.specs.Ranges.{AddressFits}
use Rattle.i86_code.specs.Writing.{prefix_for, prefix_at, is_near, is_al, is_ax, accumulator_form}
use Rattle.i86_code.specs.Open.{address_byte, prefix_front, addressed_front, accumulator_front, use_front, open_bytes, IsOpen}
use Rattle.i86_code.specs.Inner.OpenForms.{far_form, in_memory, with_far, byte_form, word_form, compare_byte_form, compare_word_form, test_byte_form, open_form, ConstantFits}
use Rattle.i86_code.proofs.RegisterLaws.{byte_again, byte_below, word_again, word_below}
use Rattle.i86_code.proofs.WrittenForms.{under_again, no_repeat, Again, Says, said, chosen, near_again, al_is, ax_is, accumulator_again, direct_again}

-- ---- the forms say them

far_again : {R : Type 0} (at : ℕ → R) (s : Segment) (a : Address) → AddressFits a → Again at (rm.Memory (record { segment = s; address = a })) (prefix_at s a) (far_form a)
far_again at s (addresses.Direct offset) fits = record {
  same = ap (λ (t : Segment). rm.Memory (record { segment = t; address = addresses.Direct offset })) (under_again segments.Ds s);
  once = no_repeat segments.Ds s;
  fits = fits;
}
far_again at s (addresses.Based base d) fits = record {
  same = ap (λ (t : Segment). rm.Memory (record { segment = t; address = addresses.Based base d })) (under_again (usual_segment base) s);
  once = no_repeat (usual_segment base) s;
  fits = fits;
}

byte_far : (k : Opcode) (r : ℕ) (m : Memory) (f : RmOperand Register8 → Instr) → r < 8 → kinds.Address ≡ field_kind_of k → ((q : Prefixes) (x : RegisterOrMemory) → addressed_instruction q k r x ≡ Some (f (byte_operand q x))) → AddressFits m.address → Says (with_far k r m) (f (rm.Memory m))
unfolding instruction_from
byte_far k r m f below kind rule fits =
    let again = far_again byte_register_at m.segment m.address fits in
    said _ _ _ _ again.once (rule (prefix_at m.segment m.address) (far_form m.address) ∙ ap (λ (x : RmOperand Register8). Some (f x)) again.same) kind (below, again.fits)

word_far : (k : Opcode) (r : ℕ) (m : Memory) (f : RmOperand Register16 → Instr) → r < 8 → kinds.Address ≡ field_kind_of k → ((q : Prefixes) (x : RegisterOrMemory) → addressed_instruction q k r x ≡ Some (f (word_operand q x))) → AddressFits m.address → Says (with_far k r m) (f (rm.Memory m))
unfolding instruction_from
word_far k r m f below kind rule fits =
    let again = far_again word_register_at m.segment m.address fits in
    said _ _ _ _ again.once (rule (prefix_at m.segment m.address) (far_form m.address) ∙ ap (λ (x : RmOperand Register16). Some (f x)) again.same) kind (below, again.fits)

byte_says : (u : Use) (r : Register8) (m : Memory) → AddressFits m.address → Says (byte_form u r m) (with_byte u r m)
unfolding addressed_instruction word_instruction
byte_says Load r m fits =
    accumulator_again (is_al r) (op.MoveFromDirect widths.Byte) _ m.segment m.address (i.MoveByte (FromMemory r m))
    (byte_far (op.MoveToRegister widths.Byte) (byte_register_code r) m (λ x. i.MoveByte (to_register r x)) (byte_below r) refl (λ q x. ap (λ (s : Register8). Some (i.MoveByte (to_register s (byte_operand q x)))) (byte_again r)) fits)
    (λ offset is at. direct_again (op.MoveFromDirect widths.Byte) m offset (λ x. i.MoveByte (FromMemory r x)) refl (λ q. ap (λ (s : Register8). Some (i.MoveByte (FromMemory s (direct q offset)))) (sym (al_is r is))) fits at)
byte_says Store r m fits =
    accumulator_again (is_al r) (op.MoveToDirect widths.Byte) _ m.segment m.address (i.MoveByte (FromRegister (rm.Memory m) r))
    (byte_far (op.MoveToPlace widths.Byte) (byte_register_code r) m (λ x. i.MoveByte (FromRegister x r)) (byte_below r) refl (λ q x. ap (λ (s : Register8). Some (i.MoveByte (FromRegister (byte_operand q x) s))) (byte_again r)) fits)
    (λ offset is at. direct_again (op.MoveToDirect widths.Byte) m offset (λ x. i.MoveByte (FromRegister (rm.Memory x) r)) refl (λ q. ap (λ (s : Register8). Some (i.MoveByte (FromRegister (rm.Memory (direct q offset)) s))) (sym (al_is r is))) fits at)
byte_says (Operate o) r m fits =
    byte_far (op.AluToRegister o widths.Byte) (byte_register_code r) m (λ x. i.AluByte o (to_register r x)) (byte_below r) refl (λ q x. ap (λ (s : Register8). Some (i.AluByte o (to_register s (byte_operand q x)))) (byte_again r)) fits

word_says : (u : Use) (r : Register16) (m : Memory) → AddressFits m.address → Says (word_form u r m) (with_word u r m)
unfolding addressed_instruction word_instruction
word_says Load r m fits =
    accumulator_again (is_ax r) (op.MoveFromDirect widths.Word) _ m.segment m.address (i.MoveWord (FromMemory r m))
    (word_far (op.MoveToRegister widths.Word) (word_register_code r) m (λ x. i.MoveWord (to_register r x)) (word_below r) refl (λ q x. ap (λ (s : Register16). Some (i.MoveWord (to_register s (word_operand q x)))) (word_again r)) fits)
    (λ offset is at. direct_again (op.MoveFromDirect widths.Word) m offset (λ x. i.MoveWord (FromMemory r x)) refl (λ q. ap (λ (s : Register16). Some (i.MoveWord (FromMemory s (direct q offset)))) (sym (ax_is r is))) fits at)
word_says Store r m fits =
    accumulator_again (is_ax r) (op.MoveToDirect widths.Word) _ m.segment m.address (i.MoveWord (FromRegister (rm.Memory m) r))
    (word_far (op.MoveToPlace widths.Word) (word_register_code r) m (λ x. i.MoveWord (FromRegister x r)) (word_below r) refl (λ q x. ap (λ (s : Register16). Some (i.MoveWord (FromRegister (word_operand q x) s))) (word_again r)) fits)
    (λ offset is at. direct_again (op.MoveToDirect widths.Word) m offset (λ x. i.MoveWord (FromRegister (rm.Memory x) r)) refl (λ q. ap (λ (s : Register16). Some (i.MoveWord (FromRegister (rm.Memory (direct q offset)) s))) (sym (ax_is r is))) fits at)
word_says (Operate o) r m fits =
    word_far (op.AluToRegister o widths.Word) (word_register_code r) m (λ x. i.AluWord o (to_register r x)) (word_below r) refl (λ q x. ap (λ (s : Register16). Some (i.AluWord o (to_register s (word_operand q x)))) (word_again r)) fits

spot_fits : (b : Option Base) (n : ℕ) → n < 2 ^ 16 → AddressFits (spot_address b n)
spot_fits None n l = l
spot_fits (Some b) n l = l

compare_byte_says : (m : Memory) (k : ℕ) → k < 2 ^ 8 → AddressFits m.address → Says (compare_byte_form m k) (i.AluByte Cmp (Immediate (rm.Memory m) k))
unfolding instruction_from addressed_byte_instruction
compare_byte_says m k below fits =
    let again = far_again byte_register_at m.segment m.address fits in
    said _ _ _ _ again.once (ap (λ (x : RmOperand Register8). Some (i.AluByte Cmp (Immediate x k))) again.same) refl (omega arith, again.fits, below)

compare_word_says : (m : Memory) (k : ℕ) → k < 2 ^ 16 → AddressFits m.address → Says (compare_word_form m k) (i.AluWord Cmp (Immediate (rm.Memory m) k))
unfolding instruction_from addressed_byte_instruction addressed_word_instruction
compare_word_says m k below fits =
    let again = far_again word_register_at m.segment m.address fits in
    elim (chosen (is_near k) (in_memory op.AluShort m (fields.AddressByte (operation_code Cmp) (far_form m.address) (k % 256))) (in_memory (op.AluImmediate widths.Word) m (fields.AddressWord (operation_code Cmp) (far_form m.address) k))) [
      | inl short ↦
          subst (λ (f : Form). Says f (i.AluWord Cmp (Immediate (rm.Memory m) k))) (sym short.1)
          (said _ _ _ _ again.once
          (ap (λ (x : RmOperand Register16). Some (i.AluWord Cmp (Immediate x (sign_extended (k % 256))))) again.same ∙ ap (λ (n : ℕ). Some (i.AluWord Cmp (Immediate (rm.Memory m) n))) (near_again k below short.0))
          refl (omega arith, again.fits, omega arith))
      | inr long ↦
          subst (λ (f : Form). Says f (i.AluWord Cmp (Immediate (rm.Memory m) k))) (sym long.1)
          (said _ _ _ _ again.once (ap (λ (x : RmOperand Register16). Some (i.AluWord Cmp (Immediate x k))) again.same) refl (omega arith, again.fits, below))
    ]

test_byte_says : (m : Memory) (k : ℕ) → k < 2 ^ 8 → AddressFits m.address → Says (test_byte_form m k) (i.TestByte (rm.Memory m) (masks.Immediate k))
unfolding instruction_from
test_byte_says m k below fits =
    let again = far_again byte_register_at m.segment m.address fits in
    said _ _ _ _ again.once (ap (λ (x : RmOperand Register8). Some (i.TestByte x (masks.Immediate k))) again.same) refl (again.fits, below)

open_says : (x : Open) (n : ℕ) → ConstantFits x → n < 2 ^ 16 → Says (open_form x n) (closed x n)
unfolding instruction_from word_instruction addressed_instruction
open_says (opens.Number r) n fits l = said _ _ _ _ refl refl refl l
open_says (opens.OperateAx o) n fits l = said _ _ _ _ refl refl refl l
open_says (opens.Byte u r s) n fits l = byte_says u r (spot_memory s n) (spot_fits s.base n l)
open_says (opens.Word u r s) n fits l = word_says u r (spot_memory s n) (spot_fits s.base n l)
open_says (opens.CompareByte s k) n fits l = compare_byte_says (spot_memory s n) k fits (spot_fits s.base n l)
open_says (opens.CompareWord s k) n fits l = compare_word_says (spot_memory s n) k fits (spot_fits s.base n l)
open_says (opens.TestByte s m) n fits l = test_byte_says (spot_memory s n) m fits (spot_fits s.base n l)
open_says (opens.JumpTo s) n fits l = word_far (op.StepGroup widths.Word) 4 (spot_memory s n) (λ x. i.JumpTo x) (omega arith) refl (λ q x. refl) (spot_fits s.base n l)
open_says opens.Call n fits l = said _ _ _ _ refl refl refl l
open_says opens.Jump n fits l = said _ _ _ _ refl refl refl l

pub open_fits : (x : Open) (n : ℕ) → ConstantFits x → n < 2 ^ 16 → FieldsFit (open_form x n).fields
open_fits x n fits l = (open_says x n fits l).fits

-- ---- their bytes

far_bytes : (r : ℕ) (b : Option Base) (n : ℕ) → place_bytes r (far_form (spot_address b n)) ≡ address_byte r b ∷ word_bytes n
far_bytes r None n = refl
far_bytes r (Some b) n = refl

same_prefix : (s : Segment) (b : Option Base) (n : ℕ) → prefix_at s (spot_address b n) ≡ prefix_at s (spot_address b 0)
same_prefix s None n = refl
same_prefix s (Some b) n = refl

-- the bytes of an operand in memory and a constant
constant_bytes : (k : Opcode) (r : ℕ) (s : Spot) (n : ℕ) (f : Fields) (back : List ℕ) → field_bytes f ≡ place_bytes r (far_form (spot_address s.base n)) ++ back → form_bytes (in_memory k (spot_memory s n) f) ≡ addressed_front k r s ++ (word_bytes n ++ back)
constant_bytes k r s n f back e =
    ap (λ (p : Prefixes). prefix_bytes p ++ (opcode_byte k ∷ field_bytes f)) (same_prefix s.segment s.base n)
    ∙ ap (λ (l : List ℕ). prefix_front s ++ opcode_byte k ∷ l) (e ∙ ap (λ (l : List ℕ). l ++ back) (far_bytes r s.base n))
    ∙ sym (append_assoc (prefix_front s) (opcode_byte k ∷ address_byte r s.base ∷ []) (word_bytes n ++ back))

addressed_bytes : (k : Opcode) (r : ℕ) (s : Spot) (n : ℕ) → form_bytes (with_far k r (spot_memory s n)) ≡ addressed_front k r s ++ word_bytes n
addressed_bytes k r s n = constant_bytes k r s n (fields.Address r (far_form (spot_address s.base n))) [] (sym (append-nil _))

compare_word_bytes : (near : Bool) (k : ℕ) (s : Spot) (n : ℕ) → is_near k ≡ near → form_bytes (compare_word_form (spot_memory s n) k) ≡ open_bytes (opens.CompareWord s k) n
compare_word_bytes true k s n e = rw e (constant_bytes op.AluShort (operation_code Cmp) s n (fields.AddressByte (operation_code Cmp) (far_form (spot_address s.base n)) (k % 256)) (k % 256 ∷ []) refl)
compare_word_bytes false k s n e = rw e (constant_bytes (op.AluImmediate widths.Word) (operation_code Cmp) s n (fields.AddressWord (operation_code Cmp) (far_form (spot_address s.base n)) k) (word_bytes k) refl)

accumulator_bytes : (is : Bool) (k : Opcode) (other : Form) (front : List ℕ) (g : Segment) (b : Option Base) (n : ℕ) → form_bytes other ≡ front ++ word_bytes n
    → form_bytes (accumulator_form is k other g (spot_address b n)) ≡ accumulator_front is b k front (record { segment = g; base = b }) ++ word_bytes n
accumulator_bytes true k other front g None n e = sym (append_assoc (prefix_bytes (prefix_for segments.Ds g)) (opcode_byte k ∷ []) (word_bytes n))
accumulator_bytes true k other front g (Some b) n e = e
accumulator_bytes false k other front g b n e = e

byte_bytes : (u : Use) (r : Register8) (s : Spot) (n : ℕ) → form_bytes (byte_form u r (spot_memory s n)) ≡ use_front (is_al r) widths.Byte u (byte_register_code r) s ++ word_bytes n
byte_bytes Load r s n = accumulator_bytes (is_al r) (op.MoveFromDirect widths.Byte) _ _ s.segment s.base n (addressed_bytes (op.MoveToRegister widths.Byte) (byte_register_code r) s n)
byte_bytes Store r s n = accumulator_bytes (is_al r) (op.MoveToDirect widths.Byte) _ _ s.segment s.base n (addressed_bytes (op.MoveToPlace widths.Byte) (byte_register_code r) s n)
byte_bytes (Operate o) r s n = addressed_bytes (op.AluToRegister o widths.Byte) (byte_register_code r) s n

word_use_bytes : (u : Use) (r : Register16) (s : Spot) (n : ℕ) → form_bytes (word_form u r (spot_memory s n)) ≡ use_front (is_ax r) widths.Word u (word_register_code r) s ++ word_bytes n
word_use_bytes Load r s n = accumulator_bytes (is_ax r) (op.MoveFromDirect widths.Word) _ _ s.segment s.base n (addressed_bytes (op.MoveToRegister widths.Word) (word_register_code r) s n)
word_use_bytes Store r s n = accumulator_bytes (is_ax r) (op.MoveToDirect widths.Word) _ _ s.segment s.base n (addressed_bytes (op.MoveToPlace widths.Word) (word_register_code r) s n)
word_use_bytes (Operate o) r s n = addressed_bytes (op.AluToRegister o widths.Word) (word_register_code r) s n

pub open_spelling : (x : Open) (n : ℕ) → form_bytes (open_form x n) ≡ open_bytes x n
open_spelling (opens.Number r) n = refl
open_spelling (opens.OperateAx o) n = refl
open_spelling (opens.Byte u r s) n = byte_bytes u r s n
open_spelling (opens.Word u r s) n = word_use_bytes u r s n
open_spelling (opens.CompareByte s k) n = constant_bytes (op.AluImmediate widths.Byte) (operation_code Cmp) s n (fields.AddressByte (operation_code Cmp) (far_form (spot_address s.base n)) k) (k ∷ []) refl
open_spelling (opens.CompareWord s k) n = compare_word_bytes (is_near k) k s n refl
open_spelling (opens.TestByte s m) n = constant_bytes (op.UnaryGroup widths.Byte) 0 s n (fields.TestByte (far_form (spot_address s.base n)) m) (m ∷ []) refl
open_spelling (opens.JumpTo s) n = addressed_bytes (op.StepGroup widths.Word) 4 s n
open_spelling opens.Call n = refl
open_spelling opens.Jump n = refl

pub is_open : (x : Open) → ConstantFits x → IsOpen x
is_open x fits n l =
    let says = open_says x n fits l in
    record { form = open_form x n; fits = record { kind = says.kind; fits = says.fits }; spelling = sym (open_spelling x n); says = says.says }

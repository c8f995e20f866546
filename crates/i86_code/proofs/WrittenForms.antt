-- The form that is written for an instruction says that instruction.
use Rattle.std.proofs.lemmas.Bool.{and_parts, not-true}
use Rattle.std.proofs.Common.{◌≡◌, ◌≢◌, ℕ, ◌<◌, ◌%◌, ◌^◌, ◌==◌, ◌&&◌, not, Bool, true, false, cond, Option, Some, List, ◌++◌, refl, sym, ap, ◌∙◌, subst, arith, inl, inr, ◌⊎◌}
use Rattle.std.specs.Prelude.{length}
use Rattle.word86.specs.declared.width.Width.{Width}
use Rattle.word86.specs.declared.width.Width.TheVariants as widths
use Rattle.i86_table.specs.declared.registers.Register16.{Register16}
use Rattle.i86_table.specs.declared.registers.Register16.TheVariants.{Ax, Cx, Dx, Bx, Sp, Bp, Si, Di}
use Rattle.i86_table.specs.declared.registers.Register8.{Register8}
use Rattle.i86_table.specs.declared.registers.Register8.TheVariants.{Al, Cl, Dl, Bl, Ah, Ch, Dh, Bh}
use Rattle.i86_table.specs.declared.registers.Segment.{Segment}
use Rattle.i86_table.specs.declared.registers.Segment.TheVariants as segments
use Rattle.i86_table.specs.declared.registers.LoadableSegment.{LoadableSegment}
use Rattle.i86_table.specs.declared.registers.LoadableSegment.TheVariants as loadables
use Rattle.i86_table.specs.declared.pairs.BytePair.{BytePair}
use Rattle.i86_table.specs.declared.pairs.WordPair.{WordPair}
use Rattle.i86_table.specs.declared.instruction.AluOperation.{AluOperation}
use Rattle.i86_table.specs.declared.instruction.AluOperation.TheVariants.{Add, Or, Adc, Sbb, And, Sub, Xor, Cmp}
use Rattle.i86_table.specs.declared.instruction.UnaryOperation.{UnaryOperation}
use Rattle.i86_table.specs.declared.instruction.UnaryOperation.TheVariants.{Not, Neg, Inc, Dec}
use Rattle.i86_table.specs.declared.instruction.ShiftOperation.{ShiftOperation}
use Rattle.i86_table.specs.declared.instruction.ShiftOperation.TheVariants as shifts
use Rattle.i86_table.specs.declared.instruction.Signedness.{Signedness}
use Rattle.i86_table.specs.declared.instruction.Signedness.TheVariants.{Unsigned, Signed}
use Rattle.i86_table.specs.declared.instruction.Count.{Count}
use Rattle.i86_table.specs.declared.instruction.Base.{Base}
use Rattle.i86_table.specs.declared.instruction.Base.TheVariants as bases
use Rattle.i86_table.specs.declared.instruction.Address.{Address}
use Rattle.i86_table.specs.declared.instruction.Address.TheVariants as addresses
use Rattle.i86_table.specs.declared.instruction.Memory.{Memory}
use Rattle.i86_table.specs.declared.instruction.RmOperand.{RmOperand}
use Rattle.i86_table.specs.declared.instruction.RmOperand.TheVariants as rm
use Rattle.i86_table.specs.declared.instruction.Operands.{Operands}
use Rattle.i86_table.specs.declared.instruction.Operands.TheVariants.{FromRegister, FromMemory, Immediate}
use Rattle.i86_table.specs.declared.instruction.TestMask.{TestMask}
use Rattle.i86_table.specs.declared.instruction.TestMask.TheVariants as masks
use Rattle.i86_table.specs.declared.instruction.Port.{Port}
use Rattle.i86_table.specs.declared.instruction.Port.TheVariants as ports
use Rattle.i86_table.specs.declared.instruction.Repeat.{Repeat}
use Rattle.i86_table.specs.declared.instruction.Repeat.TheVariants.{Once, WhileCx}
use Rattle.i86_table.specs.declared.instruction.Instr.{Instr}
use Rattle.i86_table.specs.declared.instruction.Instr.TheVariants as i
use Rattle.i86_table.specs.Numbers.{byte_register_code, word_register_code, segment_code}
use Rattle.i86_table.specs.State.{loadable}
use Rattle.i86_table.specs.Arithmetic.{sign_extended}
use Rattle.i86_table.specs.Pairs.{word_pair}
use Rattle.i86_table.specs.PairLaw.{BytePairLaws, WordPairLaws}
use Rattle.i86_code.specs.declared.form.Opcode.{Opcode}
use Rattle.i86_code.specs.declared.form.Opcode.TheVariants as op
use Rattle.i86_code.specs.declared.form.FieldKind.TheVariants as kinds
use Rattle.i86_code.specs.declared.form.Fields.{Fields}
use Rattle.i86_code.specs.declared.form.Fields.TheVariants as fields
use Rattle.i86_code.specs.declared.form.Prefixes.{Prefixes}
use Rattle.i86_code.specs.declared.form.Prefixes.TheVariants as prefixes
use Rattle.i86_code.specs.declared.form.RegisterOrMemory.{RegisterOrMemory}
use Rattle.i86_code.specs.declared.form.RegisterOrMemory.TheVariants.{Register, Indirect, Near, Far}
use Rattle.i86_code.specs.declared.form.Form.{Form}
use Rattle.i86_code.specs.Opcode.{operation_at, byte_register_at, word_register_at, field_kind_of}
use Rattle.i86_code.specs.Forms.{kind_of_fields, FieldsFit, IsPlace, base_code, operation_code}
use Rattle.i86_code.specs.Instructions.{segment_under, repeats, usual_segment, based, direct, operand, byte_operand, word_operand, to_register, exchanged_byte, exchanged_word, load_address, shift_at, shift_then, addressed_instruction, byte_unary, word_unary, is_short, addressed_byte_instruction, addressed_word_instruction, exchanged_accumulator, plain_instruction, byte_instruction, word_instruction, instruction_from, instruction_of}
use Rattle.i86_code.specs.Ranges.{AddressFits, RmOperandFits, OperandsFit, MaskFits, PortFits, InstrFits}
use Rattle.i86_code.specs.Writing.{prefix_for, prefix_at, prefix_of, is_near, is_bp, based_form, address_form, place_form, plain, addressed, with_memory, with_byte, with_word, in_group, is_al, is_ax, at_register, accumulator_form, alu_immediate_of, alu_byte_of, alu_word_of, move_byte_of, move_word_of, test_byte_of, test_word_of, unary_byte_of, register_or, unary_word_of, multiply_code, divide_code, shift_code, exchange_words_of, string_prefixes, in_of, out_of, form_of, bytes_of}
use Rattle.i86_code.specs.Decoding.{decoded}
use Rattle.i86_code.proofs.DecodeLaws.{decoded_again}
use Rattle.i86_code.proofs.RegisterLaws.{byte_again, byte_below, word_again, word_below}

operation_again : (o : AluOperation) → operation_at (operation_code o) ≡ o
operation_again Add = refl
operation_again Or = refl
operation_again Adc = refl
operation_again Sbb = refl
operation_again And = refl
operation_again Sub = refl
operation_again Xor = refl
operation_again Cmp = refl

operation_below : (o : AluOperation) → operation_code o < 8
operation_below Add = omega arith
operation_below Or = omega arith
operation_below Adc = omega arith
operation_below Sbb = omega arith
operation_below And = omega arith
operation_below Sub = omega arith
operation_below Xor = omega arith
operation_below Cmp = omega arith

shift_below : (s : ShiftOperation) → shift_code s < 8
shift_below shifts.Rol = omega arith
shift_below shifts.Ror = omega arith
shift_below shifts.Shl = omega arith
shift_below shifts.Shr = omega arith
shift_below shifts.Sar = omega arith

shift_again : (s : ShiftOperation) → shift_at (shift_code s) ≡ Some s
shift_again shifts.Rol = refl
shift_again shifts.Ror = refl
shift_again shifts.Shl = refl
shift_again shifts.Shr = refl
shift_again shifts.Sar = refl

pub under_again : (usual s : Segment) → segment_under (prefix_for usual s) usual ≡ s
under_again segments.Es segments.Es = refl
under_again segments.Es segments.Cs = refl
under_again segments.Es segments.Ss = refl
under_again segments.Es segments.Ds = refl
under_again segments.Cs segments.Es = refl
under_again segments.Cs segments.Cs = refl
under_again segments.Cs segments.Ss = refl
under_again segments.Cs segments.Ds = refl
under_again segments.Ss segments.Es = refl
under_again segments.Ss segments.Cs = refl
under_again segments.Ss segments.Ss = refl
under_again segments.Ss segments.Ds = refl
under_again segments.Ds segments.Es = refl
under_again segments.Ds segments.Cs = refl
under_again segments.Ds segments.Ss = refl
under_again segments.Ds segments.Ds = refl

pub no_repeat : (usual s : Segment) → repeats (prefix_for usual s) ≡ false
no_repeat segments.Es segments.Es = refl
no_repeat segments.Es segments.Cs = refl
no_repeat segments.Es segments.Ss = refl
no_repeat segments.Es segments.Ds = refl
no_repeat segments.Cs segments.Es = refl
no_repeat segments.Cs segments.Cs = refl
no_repeat segments.Cs segments.Ss = refl
no_repeat segments.Cs segments.Ds = refl
no_repeat segments.Ss segments.Es = refl
no_repeat segments.Ss segments.Cs = refl
no_repeat segments.Ss segments.Ss = refl
no_repeat segments.Ss segments.Ds = refl
no_repeat segments.Ds segments.Es = refl
no_repeat segments.Ds segments.Cs = refl
no_repeat segments.Ds segments.Ss = refl
no_repeat segments.Ds segments.Ds = refl

pub chosen : {A : Type 0} (b : Bool) (x y : A) → ((b ≡ true) × (cond b x y ≡ x)) ⊎ ((b ≡ false) × (cond b x y ≡ y))
chosen true x y = inl (refl, refl)
chosen false x y = inr (refl, refl)

-- the accumulator, or another place
pub al_or : (p : RmOperand Register8) → (p ≡ rm.Register Al) ⊎ (at_register is_al p ≡ false)
al_or (rm.Memory m) = inr refl
al_or (rm.Register Al) = inl refl
al_or (rm.Register Cl) = inr refl
al_or (rm.Register Dl) = inr refl
al_or (rm.Register Bl) = inr refl
al_or (rm.Register Ah) = inr refl
al_or (rm.Register Ch) = inr refl
al_or (rm.Register Dh) = inr refl
al_or (rm.Register Bh) = inr refl

pub ax_or : (p : RmOperand Register16) → (p ≡ rm.Register Ax) ⊎ (at_register is_ax p ≡ false)
ax_or (rm.Memory m) = inr refl
ax_or (rm.Register Ax) = inl refl
ax_or (rm.Register Cx) = inr refl
ax_or (rm.Register Dx) = inr refl
ax_or (rm.Register Bx) = inr refl
ax_or (rm.Register Sp) = inr refl
ax_or (rm.Register Bp) = inr refl
ax_or (rm.Register Si) = inr refl
ax_or (rm.Register Di) = inr refl

pub near_again : (d : ℕ) → d < 2 ^ 16 → is_near d ≡ true → sign_extended (d % 256) ≡ d
near_again d fits near = grind (arith, near)

based_place : {R : Type 0} (at : ℕ → R) (p : Prefixes) (base : Base) (d : ℕ) → d < 2 ^ 16 → operand at p (based_form base d) ≡ rm.Memory (based p base d)
unfolding based_form
based_place at p base d fits =
    elim (chosen (d == 0 && not (is_bp base)) (Indirect base) (cond (is_near d) (Near base (d % 256)) (Far base d))) [
      | inl bare ↦ let test = and_parts (d == 0) (not (is_bp base)) bare.0 in let none : d ≡ 0 = grind (arith, test) in
          ap (λ (x : RegisterOrMemory). operand at p x) bare.1 ∙ ap (λ (n : ℕ). rm.Memory (based p base n)) (sym none)
      | inr with_displacement ↦
          elim (chosen (is_near d) (Near base (d % 256)) (Far base d)) [
            | inl near ↦ ap (λ (x : RegisterOrMemory). operand at p x) (with_displacement.1 ∙ near.1) ∙ ap (λ (n : ℕ). rm.Memory (based p base n)) (near_again d fits near.0)
            | inr far ↦ ap (λ (x : RegisterOrMemory). operand at p x) (with_displacement.1 ∙ far.1)
          ]
    ]

based_is_place : (base : Base) (d : ℕ) → d < 2 ^ 16 → IsPlace (based_form base d)
unfolding based_form
based_is_place base d fits =
    elim (chosen (d == 0 && not (is_bp base)) (Indirect base) (cond (is_near d) (Near base (d % 256)) (Far base d))) [
      | inl bare ↦ subst IsPlace (sym bare.1) (not_six base (and_parts (d == 0) (not (is_bp base)) bare.0).1)
      | inr with_displacement ↦
          elim (chosen (is_near d) (Near base (d % 256)) (Far base d)) [
            | inl near ↦ subst IsPlace (sym (with_displacement.1 ∙ near.1)) (omega arith)
            | inr far ↦ subst IsPlace (sym (with_displacement.1 ∙ far.1)) fits
          ]
    ]
  where
    not_six : (base : Base) → not (is_bp base) ≡ true → base_code base ≢ 6
    not_six bases.BxSi e = omega arith
    not_six bases.BxDi e = omega arith
    not_six bases.BpSi e = omega arith
    not_six bases.BpDi e = omega arith
    not_six bases.Si e = omega arith
    not_six bases.Di e = omega arith
    not_six bases.Bp e = absurd cc
    not_six bases.Bx e = omega arith

-- an operand is found again, under its prefix
pub record Again {R : Type 0} (at : ℕ → R) (place : RmOperand R) (prefix : Prefixes) (form : RegisterOrMemory) : Type 0 where
  pub same : operand at prefix form ≡ place
  pub once : repeats prefix ≡ false
  pub fits : IsPlace form

address_again : {R : Type 0} (at : ℕ → R) (s : Segment) (a : Address) → AddressFits a → Again at (rm.Memory (record { segment = s; address = a })) (prefix_at s a) (address_form a)
address_again at s (addresses.Direct offset) fits = record {
  same = ap (λ (t : Segment). rm.Memory (record { segment = t; address = addresses.Direct offset })) (under_again segments.Ds s);
  once = no_repeat segments.Ds s;
  fits = fits;
}
address_again at s (addresses.Based base d) fits = record {
  same = based_place at (prefix_for (usual_segment base) s) base d fits ∙ ap (λ (t : Segment). rm.Memory (record { segment = t; address = addresses.Based base d })) (under_again (usual_segment base) s);
  once = no_repeat (usual_segment base) s;
  fits = based_is_place base d fits;
}

place_again : {R : Type 0} (at : ℕ → R) (code : R → ℕ) (again : (r : R) → at (code r) ≡ r) (below : (r : R) → code r < 8) (p : RmOperand R) → RmOperandFits p → Again at p (prefix_of p) (place_form code p)
place_again at code again below (rm.Register r) fits = record { same = ap (λ x. rm.Register x) (again r); once = refl; fits = below r }
place_again at code again below (rm.Memory m) fits = address_again at m.segment m.address fits

byte_place_again : (p : RmOperand Register8) → RmOperandFits p → Again byte_register_at p (prefix_of p) (place_form byte_register_code p)
byte_place_again p fits = place_again byte_register_at byte_register_code byte_again byte_below p fits

word_place_again : (p : RmOperand Register16) → RmOperandFits p → Again word_register_at p (prefix_of p) (place_form word_register_code p)
word_place_again p fits = place_again word_register_at word_register_code word_again word_below p fits

-- the form says the instruction, and fits
pub record Says (f : Form) (instruction : Instr) : Type 0 where
  pub says : instruction_of f ≡ Some instruction
  pub kind : kind_of_fields f.fields ≡ field_kind_of f.opcode
  pub fits : FieldsFit f.fields

pub said : (p : Prefixes) (k : Opcode) (f : Fields) (instruction : Instr) → repeats p ≡ false → instruction_from p k f ≡ Some instruction → kind_of_fields f ≡ field_kind_of k → FieldsFit f → Says (record { prefixes = p; opcode = k; fields = f }) instruction
unfolding instruction_of
said p k f instruction once e l fits = record { says = rw once e; kind = l; fits = fits }

-- ---- forms with an address byte

byte_addressed_again : (k : Opcode) (r : ℕ) (p : RmOperand Register8) (f : RmOperand Register8 → Instr) → r < 8 → kinds.Address ≡ field_kind_of k → ((q : Prefixes) (m : RegisterOrMemory) → addressed_instruction q k r m ≡ Some (f (byte_operand q m))) → RmOperandFits p → Says (addressed byte_register_code k r p) (f p)
unfolding instruction_from
byte_addressed_again k r p f below kind rule fits =
    let again = byte_place_again p fits in
    said _ _ _ _ again.once (rule (prefix_of p) (place_form byte_register_code p) ∙ ap (λ (x : RmOperand Register8). Some (f x)) again.same) kind (below, again.fits)

word_addressed_again : (k : Opcode) (r : ℕ) (p : RmOperand Register16) (f : RmOperand Register16 → Instr) → r < 8 → kinds.Address ≡ field_kind_of k → ((q : Prefixes) (m : RegisterOrMemory) → addressed_instruction q k r m ≡ Some (f (word_operand q m))) → RmOperandFits p → Says (addressed word_register_code k r p) (f p)
unfolding instruction_from
word_addressed_again k r p f below kind rule fits =
    let again = word_place_again p fits in
    said _ _ _ _ again.once (rule (prefix_of p) (place_form word_register_code p) ∙ ap (λ (x : RmOperand Register16). Some (f x)) again.same) kind (below, again.fits)

byte_group_again : (r : ℕ) (p : RmOperand Register8) (f : RmOperand Register8 → Instr) → 0 < r → r < 8 → ((x : RmOperand Register8) → byte_unary r x ≡ Some (f x)) → RmOperandFits p → Says (in_group byte_register_code widths.Byte r p) (f p)
unfolding instruction_from
byte_group_again r p f some below rule fits =
    let again = byte_place_again p fits in
    said _ _ _ _ again.once (rule (byte_operand (prefix_of p) (place_form byte_register_code p)) ∙ ap (λ (x : RmOperand Register8). Some (f x)) again.same) refl (some, below, again.fits)

word_group_again : (r : ℕ) (p : RmOperand Register16) (f : RmOperand Register16 → Instr) → 0 < r → r < 8 → ((x : RmOperand Register16) → word_unary r x ≡ Some (f x)) → RmOperandFits p → Says (in_group word_register_code widths.Word r p) (f p)
unfolding instruction_from
word_group_again r p f some below rule fits =
    let again = word_place_again p fits in
    said _ _ _ _ again.once (rule (word_operand (prefix_of p) (place_form word_register_code p)) ∙ ap (λ (x : RmOperand Register16). Some (f x)) again.same) refl (some, below, again.fits)

-- ---- operations on two operands

alu_byte_again : (o : AluOperation) (x : Operands Register8 ℕ) → OperandsFit 256 x → Says (alu_byte_of o x) (i.AluByte o x)
unfolding alu_byte_of instruction_from addressed_instruction byte_instruction addressed_byte_instruction
alu_byte_again o (FromRegister (rm.Register a) b) fits = said _ _ _ _ refl (rw (byte_again a, byte_again b) refl) refl (byte_below a, byte_below b)
alu_byte_again o (FromRegister (rm.Memory m) r) fits =
    byte_addressed_again (op.AluToPlace o widths.Byte) (byte_register_code r) (rm.Memory m) (λ x. i.AluByte o (FromRegister x r)) (byte_below r) refl (λ q x. ap (λ (s : Register8). Some (i.AluByte o (FromRegister (byte_operand q x) s))) (byte_again r)) fits
alu_byte_again o (FromMemory r m) fits =
    byte_addressed_again (op.AluToRegister o widths.Byte) (byte_register_code r) (rm.Memory m) (λ x. i.AluByte o (to_register r x)) (byte_below r) refl (λ q x. ap (λ (s : Register8). Some (i.AluByte o (to_register s (byte_operand q x)))) (byte_again r)) fits
alu_byte_again o (Immediate p n) fits =
    elim (al_or p) [
      | inl is ↦ subst (λ (q : RmOperand Register8). Says (alu_byte_of o (Immediate q n)) (i.AluByte o (Immediate q n))) (sym is) (said _ _ _ _ refl refl refl fits.1)
      | inr not ↦
          let again = byte_place_again p fits.0 in
          rw not (said _ _ _ _ again.once (ap (λ (x : AluOperation). Some (i.AluByte x (Immediate (byte_operand (prefix_of p) (place_form byte_register_code p)) n))) (operation_again o) ∙ ap (λ (x : RmOperand Register8). Some (i.AluByte o (Immediate x n))) again.same) refl (operation_below o, again.fits, fits.1))
    ]

alu_immediate_again : (o : AluOperation) (p : RmOperand Register16) (n : ℕ) → RmOperandFits p × (n < 65536) → Says (alu_immediate_of o p n) (i.AluWord o (Immediate p n))
unfolding instruction_from addressed_byte_instruction addressed_word_instruction
alu_immediate_again o p n fits =
    let again = word_place_again p fits.0 in
    elim (chosen (is_short (operation_code o) && is_near n) (with_byte word_register_code op.AluShort (operation_code o) p (n % 256)) (with_word (op.AluImmediate widths.Word) (operation_code o) p n)) [
      | inl short ↦
          let test = and_parts (is_short (operation_code o)) (is_near n) short.0 in
          let near = near_again n (omega (arith, fits.1)) test.1 in
          subst (λ (f : Form). Says f (i.AluWord o (Immediate p n))) (sym short.1)
          (said _ _ _ _ again.once
          (rw test.0 (ap (λ (x : AluOperation). Some (i.AluWord x (Immediate (word_operand (prefix_of p) (place_form word_register_code p)) (sign_extended (n % 256))))) (operation_again o)
          ∙ ap (λ (x : RmOperand Register16). Some (i.AluWord o (Immediate x (sign_extended (n % 256))))) again.same ∙ ap (λ (x : ℕ). Some (i.AluWord o (Immediate p x))) near))
          refl (operation_below o, again.fits, omega arith))
      | inr long ↦
          subst (λ (f : Form). Says f (i.AluWord o (Immediate p n))) (sym long.1)
          (said _ _ _ _ again.once
          (ap (λ (x : AluOperation). Some (i.AluWord x (Immediate (word_operand (prefix_of p) (place_form word_register_code p)) n))) (operation_again o) ∙ ap (λ (x : RmOperand Register16). Some (i.AluWord o (Immediate x n))) again.same)
          refl (operation_below o, again.fits, omega (arith, fits.1)))
    ]

alu_word_again : (o : AluOperation) (x : Operands Register16 ℕ) → OperandsFit 65536 x → Says (alu_word_of o x) (i.AluWord o x)
unfolding alu_word_of instruction_from addressed_instruction word_instruction
alu_word_again o (FromRegister (rm.Register a) b) fits = said _ _ _ _ refl (rw (word_again a, word_again b) refl) refl (word_below a, word_below b)
alu_word_again o (FromRegister (rm.Memory m) r) fits =
    word_addressed_again (op.AluToPlace o widths.Word) (word_register_code r) (rm.Memory m) (λ x. i.AluWord o (FromRegister x r)) (word_below r) refl (λ q x. ap (λ (s : Register16). Some (i.AluWord o (FromRegister (word_operand q x) s))) (word_again r)) fits
alu_word_again o (FromMemory r m) fits =
    word_addressed_again (op.AluToRegister o widths.Word) (word_register_code r) (rm.Memory m) (λ x. i.AluWord o (to_register r x)) (word_below r) refl (λ q x. ap (λ (s : Register16). Some (i.AluWord o (to_register s (word_operand q x)))) (word_again r)) fits
alu_word_again o (Immediate p n) fits =
    elim (ax_or p) [
      | inl is ↦ subst (λ (q : RmOperand Register16). Says (alu_word_of o (Immediate q n)) (i.AluWord o (Immediate q n))) (sym is) (said _ _ _ _ refl refl refl fits.1)
      | inr not ↦ rw not (alu_immediate_again o p n fits)
    ]

-- ---- MOV

pub al_is : (r : Register8) → is_al r ≡ true → r ≡ Al
al_is Al e = refl
al_is Cl e = absurd cc
al_is Dl e = absurd cc
al_is Bl e = absurd cc
al_is Ah e = absurd cc
al_is Ch e = absurd cc
al_is Dh e = absurd cc
al_is Bh e = absurd cc

pub ax_is : (r : Register16) → is_ax r ≡ true → r ≡ Ax
ax_is Ax e = refl
ax_is Cx e = absurd cc
ax_is Dx e = absurd cc
ax_is Bx e = absurd cc
ax_is Sp e = absurd cc
ax_is Bp e = absurd cc
ax_is Si e = absurd cc
ax_is Di e = absurd cc

-- the accumulator's form for a direct address, or the other
pub accumulator_again : (b : Bool) (k : Opcode) (other : Form) (s : Segment) (a : Address) (instruction : Instr) → Says other instruction → ((offset : ℕ) → b ≡ true → a ≡ addresses.Direct offset → Says (record { prefixes = prefix_for segments.Ds s; opcode = k; fields = fields.Word offset }) instruction) → Says (accumulator_form b k other s a) instruction
accumulator_again false k other s a instruction else direct = else
accumulator_again true k other s (addresses.Direct offset) instruction else direct = direct offset refl refl
accumulator_again true k other s (addresses.Based base d) instruction else direct = else

pub direct_again : (k : Opcode) (m : Memory) (offset : ℕ) (f : Memory → Instr) → kinds.Word ≡ field_kind_of k → ((q : Prefixes) → word_instruction q k offset ≡ Some (f (direct q offset))) → AddressFits m.address → m.address ≡ addresses.Direct offset → Says (record { prefixes = prefix_for segments.Ds m.segment; opcode = k; fields = fields.Word offset }) (f m)
unfolding instruction_from
direct_again k m offset f kind rule fits at =
    said _ _ _ _ (no_repeat segments.Ds m.segment)
    (rule (prefix_for segments.Ds m.segment) ∙ ap (λ (t : Segment). Some (f (record { segment = t; address = addresses.Direct offset }))) (under_again segments.Ds m.segment)
    ∙ ap (λ (a : Address). Some (f (record { segment = m.segment; address = a }))) (sym at))
    kind (subst AddressFits at fits)

move_byte_again : (x : Operands Register8 ℕ) → OperandsFit 256 x → Says (move_byte_of x) (i.MoveByte x)
unfolding move_byte_of instruction_from addressed_instruction byte_instruction word_instruction addressed_byte_instruction
move_byte_again (FromRegister (rm.Register a) b) fits = said _ _ _ _ refl (rw (byte_again a, byte_again b) refl) refl (byte_below a, byte_below b)
move_byte_again (FromRegister (rm.Memory m) r) fits =
    accumulator_again (is_al r) (op.MoveToDirect widths.Byte) _ m.segment m.address (i.MoveByte (FromRegister (rm.Memory m) r))
    (byte_addressed_again (op.MoveToPlace widths.Byte) (byte_register_code r) (rm.Memory m) (λ x. i.MoveByte (FromRegister x r)) (byte_below r) refl (λ q x. ap (λ (s : Register8). Some (i.MoveByte (FromRegister (byte_operand q x) s))) (byte_again r)) fits)
    (λ offset is at. direct_again (op.MoveToDirect widths.Byte) m offset (λ x. i.MoveByte (FromRegister (rm.Memory x) r)) refl (λ q. ap (λ (s : Register8). Some (i.MoveByte (FromRegister (rm.Memory (direct q offset)) s))) (sym (al_is r is))) fits at)
move_byte_again (FromMemory r m) fits =
    accumulator_again (is_al r) (op.MoveFromDirect widths.Byte) _ m.segment m.address (i.MoveByte (FromMemory r m))
    (byte_addressed_again (op.MoveToRegister widths.Byte) (byte_register_code r) (rm.Memory m) (λ x. i.MoveByte (to_register r x)) (byte_below r) refl (λ q x. ap (λ (s : Register8). Some (i.MoveByte (to_register s (byte_operand q x)))) (byte_again r)) fits)
    (λ offset is at. direct_again (op.MoveFromDirect widths.Byte) m offset (λ x. i.MoveByte (FromMemory r x)) refl (λ q. ap (λ (s : Register8). Some (i.MoveByte (FromMemory s (direct q offset)))) (sym (al_is r is))) fits at)
move_byte_again (Immediate (rm.Register r) n) fits = said _ _ _ _ refl refl refl fits.1
move_byte_again (Immediate (rm.Memory m) n) fits =
    let again = byte_place_again (rm.Memory m) fits.0 in
    said _ _ _ _ again.once (ap (λ (x : RmOperand Register8). Some (i.MoveByte (Immediate x n))) again.same) refl (omega arith, again.fits, fits.1)

move_word_again : (x : Operands Register16 ℕ) → OperandsFit 65536 x → Says (move_word_of x) (i.MoveWord x)
unfolding move_word_of instruction_from addressed_instruction word_instruction addressed_word_instruction
move_word_again (FromRegister (rm.Register a) b) fits = said _ _ _ _ refl (rw (word_again a, word_again b) refl) refl (word_below a, word_below b)
move_word_again (FromRegister (rm.Memory m) r) fits =
    accumulator_again (is_ax r) (op.MoveToDirect widths.Word) _ m.segment m.address (i.MoveWord (FromRegister (rm.Memory m) r))
    (word_addressed_again (op.MoveToPlace widths.Word) (word_register_code r) (rm.Memory m) (λ x. i.MoveWord (FromRegister x r)) (word_below r) refl (λ q x. ap (λ (s : Register16). Some (i.MoveWord (FromRegister (word_operand q x) s))) (word_again r)) fits)
    (λ offset is at. direct_again (op.MoveToDirect widths.Word) m offset (λ x. i.MoveWord (FromRegister (rm.Memory x) r)) refl (λ q. ap (λ (s : Register16). Some (i.MoveWord (FromRegister (rm.Memory (direct q offset)) s))) (sym (ax_is r is))) fits at)
move_word_again (FromMemory r m) fits =
    accumulator_again (is_ax r) (op.MoveFromDirect widths.Word) _ m.segment m.address (i.MoveWord (FromMemory r m))
    (word_addressed_again (op.MoveToRegister widths.Word) (word_register_code r) (rm.Memory m) (λ x. i.MoveWord (to_register r x)) (word_below r) refl (λ q x. ap (λ (s : Register16). Some (i.MoveWord (to_register s (word_operand q x)))) (word_again r)) fits)
    (λ offset is at. direct_again (op.MoveFromDirect widths.Word) m offset (λ x. i.MoveWord (FromMemory r x)) refl (λ q. ap (λ (s : Register16). Some (i.MoveWord (FromMemory s (direct q offset)))) (sym (ax_is r is))) fits at)
move_word_again (Immediate (rm.Register r) n) fits = said _ _ _ _ refl refl refl fits.1
move_word_again (Immediate (rm.Memory m) n) fits =
    let again = word_place_again (rm.Memory m) fits.0 in
    said _ _ _ _ again.once (ap (λ (x : RmOperand Register16). Some (i.MoveWord (Immediate x n))) again.same) refl (omega arith, again.fits, fits.1)

-- ---- TEST

test_byte_again : (p : RmOperand Register8) (x : TestMask Register8 ℕ) → RmOperandFits p → MaskFits 256 x → Says (test_byte_of p x) (i.TestByte p x)
unfolding instruction_from addressed_instruction byte_instruction
test_byte_again p (masks.Register r) fits mask =
    byte_addressed_again (op.Test widths.Byte) (byte_register_code r) p (λ x. i.TestByte x (masks.Register r)) (byte_below r) refl (λ q x. ap (λ (s : Register8). Some (i.TestByte (byte_operand q x) (masks.Register s))) (byte_again r)) fits
test_byte_again p (masks.Immediate n) fits mask =
    elim (al_or p) [
      | inl is ↦ subst (λ (q : RmOperand Register8). Says (test_byte_of q (masks.Immediate n)) (i.TestByte q (masks.Immediate n))) (sym is) (said _ _ _ _ refl refl refl mask)
      | inr not ↦ let again = byte_place_again p fits in rw not (said _ _ _ _ again.once (ap (λ (x : RmOperand Register8). Some (i.TestByte x (masks.Immediate n))) again.same) refl (again.fits, mask))
    ]

test_word_again : (p : RmOperand Register16) (x : TestMask Register16 ℕ) → RmOperandFits p → MaskFits 65536 x → Says (test_word_of p x) (i.TestWord p x)
unfolding instruction_from addressed_instruction word_instruction
test_word_again p (masks.Register r) fits mask =
    word_addressed_again (op.Test widths.Word) (word_register_code r) p (λ x. i.TestWord x (masks.Register r)) (word_below r) refl (λ q x. ap (λ (s : Register16). Some (i.TestWord (word_operand q x) (masks.Register s))) (word_again r)) fits
test_word_again p (masks.Immediate n) fits mask =
    elim (ax_or p) [
      | inl is ↦ subst (λ (q : RmOperand Register16). Says (test_word_of q (masks.Immediate n)) (i.TestWord q (masks.Immediate n))) (sym is) (said _ _ _ _ refl refl refl mask)
      | inr not ↦ let again = word_place_again p fits in rw not (said _ _ _ _ again.once (ap (λ (x : RmOperand Register16). Some (i.TestWord x (masks.Immediate n))) again.same) refl (again.fits, mask))
    ]

-- ---- operations on one operand

unary_byte_again : (o : UnaryOperation) (p : RmOperand Register8) → RmOperandFits p → Says (unary_byte_of o p) (i.UnaryByte o p)
unfolding addressed_instruction
unary_byte_again Not p fits = byte_group_again 2 p (λ x. i.UnaryByte Not x) (omega arith) (omega arith) (λ x. refl) fits
unary_byte_again Neg p fits = byte_group_again 3 p (λ x. i.UnaryByte Neg x) (omega arith) (omega arith) (λ x. refl) fits
unary_byte_again Inc p fits = byte_addressed_again (op.StepGroup widths.Byte) 0 p (λ x. i.UnaryByte Inc x) (omega arith) refl (λ q x. refl) fits
unary_byte_again Dec p fits = byte_addressed_again (op.StepGroup widths.Byte) 1 p (λ x. i.UnaryByte Dec x) (omega arith) refl (λ q x. refl) fits

-- a register's own form, or that with an address byte
register_or_again : (short : Register16 → Opcode) (k : Opcode) (r : ℕ) (p : RmOperand Register16) (f : RmOperand Register16 → Instr) → ((x : Register16) → kinds.Nothing ≡ field_kind_of (short x)) → ((x : Register16) → plain_instruction prefixes.Nothing (short x) ≡ Some (f (rm.Register x))) → r < 8 → kinds.Address ≡ field_kind_of k → ((q : Prefixes) (m : RegisterOrMemory) → addressed_instruction q k r m ≡ Some (f (word_operand q m))) → RmOperandFits p → Says (register_or short k r p) (f p)
unfolding instruction_from
register_or_again short k r (rm.Register x) f short_layout short_rule below kind rule fits = said _ _ _ _ refl (short_rule x) (short_layout x) tt
register_or_again short k r (rm.Memory m) f short_layout short_rule below kind rule fits = word_addressed_again k r (rm.Memory m) f below kind rule fits

unary_word_again : (o : UnaryOperation) (p : RmOperand Register16) → RmOperandFits p → Says (unary_word_of o p) (i.UnaryWord o p)
unfolding addressed_instruction plain_instruction
unary_word_again Not p fits = word_group_again 2 p (λ x. i.UnaryWord Not x) (omega arith) (omega arith) (λ x. refl) fits
unary_word_again Neg p fits = word_group_again 3 p (λ x. i.UnaryWord Neg x) (omega arith) (omega arith) (λ x. refl) fits
unary_word_again Inc p fits = register_or_again (λ r. op.Increment r) (op.StepGroup widths.Word) 0 p (λ x. i.UnaryWord Inc x) (λ x. refl) (λ x. refl) (omega arith) refl (λ q x. refl) fits
unary_word_again Dec p fits = register_or_again (λ r. op.Decrement r) (op.StepGroup widths.Word) 1 p (λ x. i.UnaryWord Dec x) (λ x. refl) (λ x. refl) (omega arith) refl (λ q x. refl) fits

multiply_byte_again : (s : Signedness) (p : RmOperand Register8) → RmOperandFits p → Says (in_group byte_register_code widths.Byte (multiply_code s) p) (i.MultiplyByte s p)
multiply_byte_again Unsigned p fits = byte_group_again 4 p (λ x. i.MultiplyByte Unsigned x) (omega arith) (omega arith) (λ x. refl) fits
multiply_byte_again Signed p fits = byte_group_again 5 p (λ x. i.MultiplyByte Signed x) (omega arith) (omega arith) (λ x. refl) fits

multiply_word_again : (s : Signedness) (p : RmOperand Register16) → RmOperandFits p → Says (in_group word_register_code widths.Word (multiply_code s) p) (i.MultiplyWord s p)
multiply_word_again Unsigned p fits = word_group_again 4 p (λ x. i.MultiplyWord Unsigned x) (omega arith) (omega arith) (λ x. refl) fits
multiply_word_again Signed p fits = word_group_again 5 p (λ x. i.MultiplyWord Signed x) (omega arith) (omega arith) (λ x. refl) fits

divide_byte_again : (s : Signedness) (p : RmOperand Register8) → RmOperandFits p → Says (in_group byte_register_code widths.Byte (divide_code s) p) (i.DivideByte s p)
divide_byte_again Unsigned p fits = byte_group_again 6 p (λ x. i.DivideByte Unsigned x) (omega arith) (omega arith) (λ x. refl) fits
divide_byte_again Signed p fits = byte_group_again 7 p (λ x. i.DivideByte Signed x) (omega arith) (omega arith) (λ x. refl) fits

divide_word_again : (s : Signedness) (p : RmOperand Register16) → RmOperandFits p → Says (in_group word_register_code widths.Word (divide_code s) p) (i.DivideWord s p)
divide_word_again Unsigned p fits = word_group_again 6 p (λ x. i.DivideWord Unsigned x) (omega arith) (omega arith) (λ x. refl) fits
divide_word_again Signed p fits = word_group_again 7 p (λ x. i.DivideWord Signed x) (omega arith) (omega arith) (λ x. refl) fits

-- ---- segments, XCHG, strings, ports

move_from_segment_again : (p : RmOperand Register16) (s : Segment) → RmOperandFits p → Says (addressed word_register_code op.MoveFromSegment (segment_code s) p) (i.MoveFromSegment p s)
unfolding addressed_instruction
move_from_segment_again p segments.Es fits = word_addressed_again op.MoveFromSegment 0 p (λ x. i.MoveFromSegment x segments.Es) (omega arith) refl (λ q x. refl) fits
move_from_segment_again p segments.Cs fits = word_addressed_again op.MoveFromSegment 1 p (λ x. i.MoveFromSegment x segments.Cs) (omega arith) refl (λ q x. refl) fits
move_from_segment_again p segments.Ss fits = word_addressed_again op.MoveFromSegment 2 p (λ x. i.MoveFromSegment x segments.Ss) (omega arith) refl (λ q x. refl) fits
move_from_segment_again p segments.Ds fits = word_addressed_again op.MoveFromSegment 3 p (λ x. i.MoveFromSegment x segments.Ds) (omega arith) refl (λ q x. refl) fits

move_to_segment_again : (s : LoadableSegment) (p : RmOperand Register16) → RmOperandFits p → Says (addressed word_register_code op.MoveToSegment (segment_code (loadable s)) p) (i.MoveToSegment s p)
unfolding addressed_instruction
move_to_segment_again loadables.Es p fits = word_addressed_again op.MoveToSegment 0 p (λ x. i.MoveToSegment loadables.Es x) (omega arith) refl (λ q x. refl) fits
move_to_segment_again loadables.Ss p fits = word_addressed_again op.MoveToSegment 2 p (λ x. i.MoveToSegment loadables.Ss x) (omega arith) refl (λ q x. refl) fits
move_to_segment_again loadables.Ds p fits = word_addressed_again op.MoveToSegment 3 p (λ x. i.MoveToSegment loadables.Ds x) (omega arith) refl (λ q x. refl) fits

-- LEA keeps no segment, so no prefix is written
load_address_place : (r : Register16) (a : Address) → AddressFits a → load_address r (word_operand prefixes.Nothing (address_form a)) ≡ Some (i.LoadAddress r a)
load_address_place r (addresses.Direct offset) fits = refl
load_address_place r (addresses.Based base d) fits = ap (load_address r) (based_place word_register_at prefixes.Nothing base d fits)

address_is_place : (a : Address) → AddressFits a → IsPlace (address_form a)
address_is_place (addresses.Direct offset) fits = fits
address_is_place (addresses.Based base d) fits = based_is_place base d fits

load_address_again : (r : Register16) (a : Address) → AddressFits a → Says (plain op.LoadAddress (fields.Address (word_register_code r) (address_form a))) (i.LoadAddress r a)
unfolding instruction_from addressed_instruction
load_address_again r a fits =
    said _ _ _ _ refl (ap (λ (s : Register16). load_address s (word_operand prefixes.Nothing (address_form a))) (word_again r) ∙ load_address_place r a fits) refl (word_below r, address_is_place a fits)

exchange_bytes_again : BytePairLaws → (p : BytePair) → Says (plain (op.Exchange widths.Byte) (fields.Address (byte_register_code p.first) (Register (byte_register_code p.second)))) (i.ExchangeBytes p)
unfolding instruction_from addressed_instruction
exchange_bytes_again laws p = said _ _ _ _ refl (rw (byte_again p.first, byte_again p.second) (ap (λ (x : BytePair). Some (i.ExchangeBytes x)) (laws.again p))) refl (byte_below p.first, byte_below p.second)

-- AX with another register
accumulator_exchanged : (a b : Register16) → is_ax a ≡ true → is_ax b ≡ false → exchanged_accumulator b ≡ i.ExchangeWords (word_pair a b)
accumulator_exchanged a Ax e f = absurd cc
accumulator_exchanged a Cx e f = rw (ax_is a e) refl
accumulator_exchanged a Dx e f = rw (ax_is a e) refl
accumulator_exchanged a Bx e f = rw (ax_is a e) refl
accumulator_exchanged a Sp e f = rw (ax_is a e) refl
accumulator_exchanged a Bp e f = rw (ax_is a e) refl
accumulator_exchanged a Si e f = rw (ax_is a e) refl
accumulator_exchanged a Di e f = rw (ax_is a e) refl

exchange_words_again : WordPairLaws → (p : WordPair) → Says (exchange_words_of p.first p.second) (i.ExchangeWords p)
unfolding instruction_from addressed_instruction plain_instruction
exchange_words_again laws p =
    elim (chosen (is_ax p.first && not (is_ax p.second)) (plain (op.ExchangeAccumulator p.second) fields.Nothing) (plain (op.Exchange widths.Word) (fields.Address (word_register_code p.first) (Register (word_register_code p.second))))) [
      | inl short ↦
          let test = and_parts (is_ax p.first) (not (is_ax p.second)) short.0 in
          subst (λ (f : Form). Says f (i.ExchangeWords p)) (sym short.1)
          (said _ _ _ _ refl (ap (λ (x : Instr). Some x) (accumulator_exchanged p.first p.second test.0 (not-true (is_ax p.second) test.1)) ∙ ap (λ (x : WordPair). Some (i.ExchangeWords x)) (laws.again p)) refl tt)
      | inr long ↦
          subst (λ (f : Form). Says f (i.ExchangeWords p)) (sym long.1)
          (said _ _ _ _ refl (rw (word_again p.first, word_again p.second) (ap (λ (x : WordPair). Some (i.ExchangeWords x)) (laws.again p))) refl (word_below p.first, word_below p.second))
    ]

exchange_memory_byte_again : (r : Register8) (m : Memory) → AddressFits m.address → Says (with_memory (op.Exchange widths.Byte) (byte_register_code r) m) (i.ExchangeMemoryByte r m)
unfolding addressed_instruction
exchange_memory_byte_again r m fits =
    byte_addressed_again (op.Exchange widths.Byte) (byte_register_code r) (rm.Memory m) (λ x. exchanged_byte r x) (byte_below r) refl (λ q x. ap (λ (s : Register8). Some (exchanged_byte s (byte_operand q x))) (byte_again r)) fits

exchange_memory_word_again : (r : Register16) (m : Memory) → AddressFits m.address → Says (with_memory (op.Exchange widths.Word) (word_register_code r) m) (i.ExchangeMemoryWord r m)
unfolding addressed_instruction
exchange_memory_word_again r m fits =
    word_addressed_again (op.Exchange widths.Word) (word_register_code r) (rm.Memory m) (λ x. exchanged_word r x) (word_below r) refl (λ q x. ap (λ (s : Register16). Some (exchanged_word s (word_operand q x))) (word_again r)) fits

-- a string instruction may be repeated
string_again : (w : Width) (s : Segment) (repeat : Repeat) → Says (record { prefixes = string_prefixes s repeat; opcode = op.MoveString w; fields = fields.Nothing }) (i.MoveString w s repeat)
unfolding instruction_of instruction_from plain_instruction
string_again w segments.Es Once = record { says = refl; kind = refl; fits = tt }
string_again w segments.Es WhileCx = record { says = refl; kind = refl; fits = tt }
string_again w segments.Cs Once = record { says = refl; kind = refl; fits = tt }
string_again w segments.Cs WhileCx = record { says = refl; kind = refl; fits = tt }
string_again w segments.Ss Once = record { says = refl; kind = refl; fits = tt }
string_again w segments.Ss WhileCx = record { says = refl; kind = refl; fits = tt }
string_again w segments.Ds Once = record { says = refl; kind = refl; fits = tt }
string_again w segments.Ds WhileCx = record { says = refl; kind = refl; fits = tt }

store_string_again : (w : Width) (repeat : Repeat) → Says (record { prefixes = string_prefixes segments.Ds repeat; opcode = op.StoreString w; fields = fields.Nothing }) (i.StoreString w repeat)
unfolding instruction_of instruction_from plain_instruction
store_string_again w Once = record { says = refl; kind = refl; fits = tt }
store_string_again w WhileCx = record { says = refl; kind = refl; fits = tt }

in_again : (w : Width) (p : Port) → PortFits p → Says (in_of w p) (i.In w p)
unfolding instruction_from byte_instruction plain_instruction
in_again w (ports.Fixed n) fits = said _ _ _ _ refl refl refl fits
in_again w ports.Dx fits = said _ _ _ _ refl refl refl tt

out_again : (w : Width) (p : Port) → PortFits p → Says (out_of w p) (i.Out w p)
unfolding instruction_from byte_instruction plain_instruction
out_again w (ports.Fixed n) fits = said _ _ _ _ refl refl refl fits
out_again w ports.Dx fits = said _ _ _ _ refl refl refl tt

shift_byte_again : (s : ShiftOperation) (p : RmOperand Register8) (c : Count) → RmOperandFits p → Says (addressed byte_register_code (op.Shift widths.Byte c) (shift_code s) p) (i.ShiftByte s p c)
unfolding addressed_instruction
shift_byte_again s p c fits =
    byte_addressed_again (op.Shift widths.Byte c) (shift_code s) p (λ x. i.ShiftByte s x c) (shift_below s) refl (λ q x. ap (λ (o : Option ShiftOperation). shift_then o (λ s. i.ShiftByte s (byte_operand q x) c)) (shift_again s)) fits

shift_word_again : (s : ShiftOperation) (p : RmOperand Register16) (c : Count) → RmOperandFits p → Says (addressed word_register_code (op.Shift widths.Word c) (shift_code s) p) (i.ShiftWord s p c)
unfolding addressed_instruction
shift_word_again s p c fits =
    word_addressed_again (op.Shift widths.Word c) (shift_code s) p (λ x. i.ShiftWord s x c) (shift_below s) refl (λ q x. ap (λ (o : Option ShiftOperation). shift_then o (λ s. i.ShiftWord s (word_operand q x) c)) (shift_again s)) fits

-- ---- all instructions

-- the form that is written for an instruction says it, and fits
pub written : BytePairLaws → WordPairLaws → (instruction : Instr) → InstrFits instruction → Says (form_of instruction) instruction
unfolding form_of instruction_from addressed_instruction plain_instruction byte_instruction word_instruction
written bytes words i.Nop fits = said _ _ _ _ refl refl refl tt
written bytes words (i.AluByte o x) fits = alu_byte_again o x fits
written bytes words (i.AluWord o x) fits = alu_word_again o x fits
written bytes words (i.UnaryByte o p) fits = unary_byte_again o p fits
written bytes words (i.UnaryWord o p) fits = unary_word_again o p fits
written bytes words (i.TestByte p x) fits = test_byte_again p x fits.0 fits.1
written bytes words (i.TestWord p x) fits = test_word_again p x fits.0 fits.1
written bytes words (i.ShiftByte s p c) fits = shift_byte_again s p c fits
written bytes words (i.ShiftWord s p c) fits = shift_word_again s p c fits
written bytes words (i.MultiplyByte s p) fits = multiply_byte_again s p fits
written bytes words (i.MultiplyWord s p) fits = multiply_word_again s p fits
written bytes words (i.DivideByte s p) fits = divide_byte_again s p fits
written bytes words (i.DivideWord s p) fits = divide_word_again s p fits
written bytes words i.ConvertByte fits = said _ _ _ _ refl refl refl tt
written bytes words i.ConvertWord fits = said _ _ _ _ refl refl refl tt
written bytes words (i.MoveByte x) fits = move_byte_again x fits
written bytes words (i.MoveWord x) fits = move_word_again x fits
written bytes words (i.MoveFromSegment p s) fits = move_from_segment_again p s fits
written bytes words (i.MoveToSegment s p) fits = move_to_segment_again s p fits
written bytes words (i.LoadAddress r a) fits = load_address_again r a fits
written bytes words (i.ExchangeBytes p) fits = exchange_bytes_again bytes p
written bytes words (i.ExchangeWords p) fits = exchange_words_again words p
written bytes words (i.ExchangeMemoryByte r m) fits = exchange_memory_byte_again r m fits
written bytes words (i.ExchangeMemoryWord r m) fits = exchange_memory_word_again r m fits
written bytes words (i.Push p) fits = register_or_again (λ r. op.Push r) (op.StepGroup widths.Word) 6 p (λ x. i.Push x) (λ x. refl) (λ x. refl) (omega arith) refl (λ q x. refl) fits
written bytes words (i.Pop p) fits = register_or_again (λ r. op.Pop r) op.PopPlace 0 p (λ x. i.Pop x) (λ x. refl) (λ x. refl) (omega arith) refl (λ q x. refl) fits
written bytes words (i.PushSegment s) fits = said _ _ _ _ refl refl refl tt
written bytes words (i.PopSegment s) fits = said _ _ _ _ refl refl refl tt
written bytes words i.PushFlags fits = said _ _ _ _ refl refl refl tt
written bytes words i.PopFlags fits = said _ _ _ _ refl refl refl tt
written bytes words (i.MoveString w s repeat) fits = string_again w s repeat
written bytes words (i.StoreString w repeat) fits = store_string_again w repeat
written bytes words (i.In w p) fits = in_again w p fits
written bytes words (i.Out w p) fits = out_again w p fits
written bytes words (i.JumpIf c n) fits = said _ _ _ _ refl refl refl fits
written bytes words (i.Loop n) fits = said _ _ _ _ refl refl refl fits
written bytes words (i.JumpIfCxZero n) fits = said _ _ _ _ refl refl refl fits
written bytes words (i.JumpShort n) fits = said _ _ _ _ refl refl refl fits
written bytes words (i.Jump n) fits = said _ _ _ _ refl refl refl fits
written bytes words (i.JumpTo p) fits = word_addressed_again (op.StepGroup widths.Word) 4 p (λ x. i.JumpTo x) (omega arith) refl (λ q x. refl) fits
written bytes words (i.JumpFar m n) fits = said _ _ _ _ refl refl refl fits
written bytes words (i.Call n) fits = said _ _ _ _ refl refl refl fits
written bytes words (i.CallTo p) fits = word_addressed_again (op.StepGroup widths.Word) 2 p (λ x. i.CallTo x) (omega arith) refl (λ q x. refl) fits
written bytes words i.Return fits = said _ _ _ _ refl refl refl tt
written bytes words (i.ReturnDropping n) fits = said _ _ _ _ refl refl refl fits
written bytes words i.InterruptReturn fits = said _ _ _ _ refl refl refl tt
written bytes words i.ComplementCarry fits = said _ _ _ _ refl refl refl tt
written bytes words i.ClearCarry fits = said _ _ _ _ refl refl refl tt
written bytes words i.SetCarry fits = said _ _ _ _ refl refl refl tt
written bytes words i.DisableInterrupts fits = said _ _ _ _ refl refl refl tt
written bytes words i.EnableInterrupts fits = said _ _ _ _ refl refl refl tt
written bytes words i.ClearDirection fits = said _ _ _ _ refl refl refl tt
written bytes words i.SetDirection fits = said _ _ _ _ refl refl refl tt
written bytes words i.Halt fits = said _ _ _ _ refl refl refl tt

pub written_again : BytePairLaws → WordPairLaws → (instruction : Instr) (rest : List ℕ) → InstrFits instruction → decoded (bytes_of instruction ++ rest) ≡ Some (instruction, length (bytes_of instruction))
written_again bytes words instruction rest fits =
    let w = written bytes words instruction fits in
    decoded_again (form_of instruction) rest instruction (record { kind = w.kind; fits = w.fits }) w.says

-- No form of an instruction is better than the one that is written.
use Rattle.std.proofs.lemmas.Option.{same_Some}
use Rattle.std.proofs.Common.{◌≡◌, ℕ, zero, suc, ◌<◌, ◌≤◌, ◌+◌, ◌*◌, ◌%◌, ◌==◌, ◌&&◌, not, Bool, true, false, cond, Option, Some, None, List, refl, sym, ◌∙◌, subst, arith, inl, inr}
use Rattle.std.specs.Prelude.{nat_lt}
use Rattle.word86.specs.declared.width.Width.TheVariants as widths
use Rattle.i86_table.specs.declared.registers.Register16.{Register16}
use Rattle.i86_table.specs.declared.registers.Register16.TheVariants.{Ax, Cx, Dx, Bx, Sp, Bp, Si, Di}
use Rattle.i86_table.specs.declared.registers.Register8.{Register8}
use Rattle.i86_table.specs.declared.registers.Segment.{Segment}
use Rattle.i86_table.specs.declared.registers.Segment.TheVariants as segments
use Rattle.i86_table.specs.declared.registers.LoadableSegment.{LoadableSegment}
use Rattle.i86_table.specs.declared.pairs.BytePair.{BytePair}
use Rattle.i86_table.specs.declared.pairs.WordPair.{WordPair}
use Rattle.i86_table.specs.declared.instruction.AluOperation.{AluOperation}
use Rattle.i86_table.specs.declared.instruction.UnaryOperation.TheVariants.{Not, Neg, Inc, Dec}
use Rattle.i86_table.specs.declared.instruction.ShiftOperation.{ShiftOperation}
use Rattle.i86_table.specs.declared.instruction.Signedness.TheVariants.{Unsigned, Signed}
use Rattle.i86_table.specs.declared.instruction.Count.{Count}
use Rattle.i86_table.specs.declared.instruction.Address.{Address}
use Rattle.i86_table.specs.declared.instruction.RmOperand.{RmOperand}
use Rattle.i86_table.specs.declared.instruction.RmOperand.TheVariants as rm
use Rattle.i86_table.specs.declared.instruction.Operands.TheVariants.{FromRegister, Immediate}
use Rattle.i86_table.specs.declared.instruction.TestMask.TheVariants as masks
use Rattle.i86_table.specs.declared.instruction.Repeat.{Repeat}
use Rattle.i86_table.specs.declared.instruction.Repeat.TheVariants.{Once, WhileCx}
use Rattle.i86_table.specs.declared.instruction.Instr.{Instr}
use Rattle.i86_table.specs.declared.instruction.Instr.TheVariants as i
use Rattle.i86_table.specs.Numbers.{byte_register_code, word_register_code, segment_code}
use Rattle.i86_table.specs.State.{loadable}
use Rattle.i86_table.specs.Arithmetic.{sign_extended, number_of}
use Rattle.i86_table.specs.Pairs.{byte_pair, word_pair}
use Rattle.i86_table.specs.PairLaw.{BytePairLaws, WordPairLaws}
use Rattle.i86_code.specs.declared.form.Opcode.{Opcode}
use Rattle.i86_code.specs.declared.form.Opcode.TheVariants as op
use Rattle.i86_code.specs.declared.form.FieldKind.TheVariants as kinds
use Rattle.i86_code.specs.declared.form.Fields.{Fields}
use Rattle.i86_code.specs.declared.form.Fields.TheVariants as fields
use Rattle.i86_code.specs.declared.form.Prefixes.{Prefixes}
use Rattle.i86_code.specs.declared.form.Prefixes.TheVariants as prefixes
use Rattle.i86_code.specs.declared.form.RegisterOrMemory.{RegisterOrMemory}
use Rattle.i86_code.specs.declared.form.RegisterOrMemory.TheVariants.{Register}
use Rattle.i86_code.specs.declared.form.Form.{Form}
use Rattle.i86_code.specs.Opcode.{operation_at, byte_register_at, word_register_at, segment_at, loadable_at, field_kind_of}
use Rattle.i86_code.specs.Forms.{form_bytes, IsForm, kind_of_fields, FieldsFit, operation_code}
use Rattle.i86_code.specs.Instructions.{segment_under, repeat_of, repeats, byte_operand, word_operand, to_register, exchanged_byte, exchanged_word, load_address, move_to_segment, shift_at, shift_then, byte_step, word_step, addressed_instruction, byte_unary, word_unary, is_short, addressed_byte_instruction, addressed_word_instruction, exchanged_accumulator, plain_instruction, byte_instruction, word_instruction, instruction_from, is_string, instruction_of}
use Rattle.i86_code.specs.Ranges.{InstrFits}
use Rattle.i86_code.specs.Writing.{prefix_for, prefix_at, prefix_of, is_near, address_form, place_form, plain, with_byte, with_word, is_al, is_ax, alu_byte_of, alu_word_of, move_byte_of, move_word_of, register_or, shift_code, string_prefixes, form_of, cost, is_turned_form, is_repeat_first, WritesBest}
use Rattle.std.proofs.lemmas.Bool.{lt-leb}
use Rattle.i86_code.proofs.WrittenForms.{chosen, al_or, ax_or}
use Rattle.i86_code.proofs.WrittenForms.{written}
use Rattle.i86_code.proofs.Costs.{place_length, field_length, prefix_length, cost_is, cost_least, direct_light, weight, place_light, never_address, memory_cost, addressed_cost, byte_cost, word_cost, group_cost, plain_cost, from_register_cost, accumulator_cost, near_byte, not_first, of_not_first, weight_is}

-- ---- what the forms of an instruction cost

-- an instruction whose form is cheap enough
abbrev Cheap : ℕ → Instr → Type 0
Cheap n x = cost (form_of x) ≤ n

alu_byte_immediate : (o : AluOperation) (p : RmOperand Register8) (n : ℕ) → Cheap (2 * (2 + weight p)) (i.AluByte o (Immediate p n))
unfolding form_of alu_byte_of
alu_byte_immediate o p n =
    elim (al_or p) [
      | inl is ↦ subst (λ (q : RmOperand Register8). Cheap (2 * (2 + weight q)) (i.AluByte o (Immediate q n))) (sym is) (omega (arith, plain_cost (op.AluAccumulator o widths.Byte) (fields.Byte n) refl))
      | inr not ↦ rw not (omega (arith, byte_cost byte_register_code (op.AluImmediate widths.Byte) (operation_code o) p n))
    ]

alu_word_immediate : (o : AluOperation) (p : RmOperand Register16) (n : ℕ) → Cheap (2 * (3 + weight p)) (i.AluWord o (Immediate p n))
unfolding form_of alu_word_of
alu_word_immediate o p n =
    elim (ax_or p) [
      | inl is ↦ subst (λ (q : RmOperand Register16). Cheap (2 * (3 + weight q)) (i.AluWord o (Immediate q n))) (sym is) (omega (arith, plain_cost (op.AluAccumulator o widths.Word) (fields.Word n) refl))
      | inr not ↦
          elim (chosen (is_short (operation_code o) && is_near n) (with_byte word_register_code op.AluShort (operation_code o) p (n % 256)) (with_word (op.AluImmediate widths.Word) (operation_code o) p n)) [
            | inl short ↦ rw (not, short.1) (omega (arith, byte_cost word_register_code op.AluShort (operation_code o) p (n % 256)))
            | inr long ↦ rw (not, long.1) (omega (arith, word_cost (op.AluImmediate widths.Word) (operation_code o) p n))
          ]
    ]

alu_word_short : (o : AluOperation) (p : RmOperand Register16) (n : ℕ) → is_short (operation_code o) ≡ true → is_near n ≡ true → Cheap (2 * (2 + weight p) + 1) (i.AluWord o (Immediate p n))
unfolding form_of alu_word_of
alu_word_short o p n short near =
    elim (ax_or p) [
      | inl is ↦ subst (λ (q : RmOperand Register16). Cheap (2 * (2 + weight q) + 1) (i.AluWord o (Immediate q n))) (sym is) (omega (arith, plain_cost (op.AluAccumulator o widths.Word) (fields.Word n) refl))
      | inr not ↦ rw (not, short, near) (omega (arith, byte_cost word_register_code op.AluShort (operation_code o) p (n % 256)))
    ]

alu_byte_to_register : (o : AluOperation) (r : Register8) (p : RmOperand Register8) → Cheap (2 * (1 + weight p)) (i.AluByte o (to_register r p))
unfolding form_of alu_byte_of
alu_byte_to_register o r (rm.Register s) = omega (arith, plain_cost (op.AluToRegister o widths.Byte) (fields.Address (byte_register_code r) (Register (byte_register_code s))) refl)
alu_byte_to_register o r (rm.Memory m) = omega (arith, memory_cost (op.AluToRegister o widths.Byte) (byte_register_code r) m)

alu_word_to_register : (o : AluOperation) (r : Register16) (p : RmOperand Register16) → Cheap (2 * (1 + weight p)) (i.AluWord o (to_register r p))
unfolding form_of alu_word_of
alu_word_to_register o r (rm.Register s) = omega (arith, plain_cost (op.AluToRegister o widths.Word) (fields.Address (word_register_code r) (Register (word_register_code s))) refl)
alu_word_to_register o r (rm.Memory m) = omega (arith, memory_cost (op.AluToRegister o widths.Word) (word_register_code r) m)

alu_byte_to_place : (o : AluOperation) (p : RmOperand Register8) (r : Register8) → Cheap (2 * (1 + weight p)) (i.AluByte o (FromRegister p r))
unfolding form_of alu_byte_of
alu_byte_to_place o p r = omega (arith, from_register_cost byte_register_code (op.AluToPlace o widths.Byte) (op.AluToRegister o widths.Byte) p r (λ r c. refl))

alu_word_to_place : (o : AluOperation) (p : RmOperand Register16) (r : Register16) → Cheap (2 * (1 + weight p)) (i.AluWord o (FromRegister p r))
unfolding form_of alu_word_of
alu_word_to_place o p r = omega (arith, from_register_cost word_register_code (op.AluToPlace o widths.Word) (op.AluToRegister o widths.Word) p r (λ r c. refl))

move_byte_to_place : (p : RmOperand Register8) (r : Register8) → Cheap (2 * (1 + weight p)) (i.MoveByte (FromRegister p r))
unfolding form_of move_byte_of
move_byte_to_place (rm.Register s) r = omega (arith, plain_cost (op.MoveToRegister widths.Byte) (fields.Address (byte_register_code s) (Register (byte_register_code r))) refl)
move_byte_to_place (rm.Memory m) r = accumulator_cost (is_al r) (op.MoveToDirect widths.Byte) (op.MoveToPlace widths.Byte) (byte_register_code r) m

move_word_to_place : (p : RmOperand Register16) (r : Register16) → Cheap (2 * (1 + weight p)) (i.MoveWord (FromRegister p r))
unfolding form_of move_word_of
move_word_to_place (rm.Register s) r = omega (arith, plain_cost (op.MoveToRegister widths.Word) (fields.Address (word_register_code s) (Register (word_register_code r))) refl)
move_word_to_place (rm.Memory m) r = accumulator_cost (is_ax r) (op.MoveToDirect widths.Word) (op.MoveToPlace widths.Word) (word_register_code r) m

move_byte_to_register : (r : Register8) (p : RmOperand Register8) → Cheap (2 * (1 + weight p)) (i.MoveByte (to_register r p))
unfolding form_of move_byte_of
move_byte_to_register r (rm.Register s) = omega (arith, plain_cost (op.MoveToRegister widths.Byte) (fields.Address (byte_register_code r) (Register (byte_register_code s))) refl)
move_byte_to_register r (rm.Memory m) = accumulator_cost (is_al r) (op.MoveFromDirect widths.Byte) (op.MoveToRegister widths.Byte) (byte_register_code r) m

move_word_to_register : (r : Register16) (p : RmOperand Register16) → Cheap (2 * (1 + weight p)) (i.MoveWord (to_register r p))
unfolding form_of move_word_of
move_word_to_register r (rm.Register s) = omega (arith, plain_cost (op.MoveToRegister widths.Word) (fields.Address (word_register_code r) (Register (word_register_code s))) refl)
move_word_to_register r (rm.Memory m) = accumulator_cost (is_ax r) (op.MoveFromDirect widths.Word) (op.MoveToRegister widths.Word) (word_register_code r) m

move_byte_immediate : (p : RmOperand Register8) (n : ℕ) → Cheap (2 * (2 + weight p)) (i.MoveByte (Immediate p n))
unfolding form_of move_byte_of
move_byte_immediate (rm.Register r) n = omega (arith, plain_cost (op.MoveRegisterByte r) (fields.Byte n) refl)
move_byte_immediate (rm.Memory m) n = omega (arith, byte_cost byte_register_code (op.MoveImmediate widths.Byte) 0 (rm.Memory m) n)

move_word_immediate : (p : RmOperand Register16) (n : ℕ) → Cheap (2 * (3 + weight p)) (i.MoveWord (Immediate p n))
unfolding form_of move_word_of
move_word_immediate (rm.Register r) n = omega (arith, plain_cost (op.MoveRegisterWord r) (fields.Word n) refl)
move_word_immediate (rm.Memory m) n = omega (arith, word_cost (op.MoveImmediate widths.Word) 0 (rm.Memory m) n)

test_byte_immediate : (p : RmOperand Register8) (n : ℕ) → Cheap (2 * (2 + weight p)) (i.TestByte p (masks.Immediate n))
unfolding form_of
test_byte_immediate p n =
    elim (al_or p) [
      | inl is ↦ subst (λ (q : RmOperand Register8). Cheap (2 * (2 + weight q)) (i.TestByte q (masks.Immediate n))) (sym is) (omega (arith, plain_cost (op.TestAccumulator widths.Byte) (fields.Byte n) refl))
      | inr not ↦ rw not (omega (arith, weight_is byte_register_code p, cost_is (prefix_of p) (op.UnaryGroup widths.Byte) (fields.TestByte (place_form byte_register_code p) n) false (of_not_first p) refl))
    ]

test_word_immediate : (p : RmOperand Register16) (n : ℕ) → Cheap (2 * (3 + weight p)) (i.TestWord p (masks.Immediate n))
unfolding form_of
test_word_immediate p n =
    elim (ax_or p) [
      | inl is ↦ subst (λ (q : RmOperand Register16). Cheap (2 * (3 + weight q)) (i.TestWord q (masks.Immediate n))) (sym is) (omega (arith, plain_cost (op.TestAccumulator widths.Word) (fields.Word n) refl))
      | inr not ↦ rw not (omega (arith, weight_is word_register_code p, cost_is (prefix_of p) (op.UnaryGroup widths.Word) (fields.TestWord (place_form word_register_code p) n) false (of_not_first p) refl))
    ]

-- a word register's own form or the group's
register_or_cost : (short : Register16 → Opcode) (k : Opcode) (r : ℕ) (p : RmOperand Register16) → cost (register_or short k r p) ≤ 2 * (1 + weight p)
register_or_cost short k r (rm.Register x) = omega (arith, plain_cost (short x) fields.Nothing refl)
register_or_cost short k r (rm.Memory m) = omega (arith, memory_cost k r m)

in_order : (a b : ℕ) → a ≤ b → nat_lt b a ≡ false
in_order a b le = lt-leb (suc b) a (omega arith)

exchange_bytes_cost : (q : BytePair) → Cheap 4 (i.ExchangeBytes q)
unfolding form_of
exchange_bytes_cost q = omega (arith, plain_cost (op.Exchange widths.Byte) (fields.Address (byte_register_code q.first) (Register (byte_register_code q.second))) (in_order _ _ q.ordered))

exchange_words_cost : (q : WordPair) → Cheap 4 (i.ExchangeWords q)
unfolding form_of
exchange_words_cost q =
    elim (chosen (is_ax q.first && not (is_ax q.second)) (plain (op.ExchangeAccumulator q.second) fields.Nothing) (plain (op.Exchange widths.Word) (fields.Address (word_register_code q.first) (Register (word_register_code q.second))))) [
      | inl short ↦ rw short.1 (omega (arith, plain_cost (op.ExchangeAccumulator q.second) fields.Nothing refl))
      | inr long ↦ rw long.1 (omega (arith, plain_cost (op.Exchange widths.Word) (fields.Address (word_register_code q.first) (Register (word_register_code q.second))) (in_order _ _ q.ordered)))
    ]

exchanged_byte_cost : (r : Register8) (p : RmOperand Register8) → Cheap (2 * (1 + weight p)) (exchanged_byte r p)
unfolding form_of
exchanged_byte_cost r (rm.Register s) = exchange_bytes_cost (byte_pair r s)
exchanged_byte_cost r (rm.Memory m) = omega (arith, memory_cost (op.Exchange widths.Byte) (byte_register_code r) m)

exchanged_word_cost : (r : Register16) (p : RmOperand Register16) → Cheap (2 * (1 + weight p)) (exchanged_word r p)
unfolding form_of
exchanged_word_cost r (rm.Register s) = exchange_words_cost (word_pair r s)
exchanged_word_cost r (rm.Memory m) = omega (arith, memory_cost (op.Exchange widths.Word) (word_register_code r) m)

words_short : (q : WordPair) (s : Register16) → q.first ≡ Ax → q.second ≡ s → is_ax s ≡ false → Cheap 2 (i.ExchangeWords q)
unfolding form_of
words_short q s first second other = rw (first, second, other) (omega (arith, plain_cost (op.ExchangeAccumulator s) fields.Nothing refl))

accumulator_exchange_cost : WordPairLaws → (r : Register16) → Cheap 2 (exchanged_accumulator r)
unfolding form_of
accumulator_exchange_cost laws Ax = omega (arith, plain_cost (op.ExchangeAccumulator Ax) fields.Nothing refl)
accumulator_exchange_cost laws Cx = words_short (word_pair Ax Cx) Cx (laws.first Ax Cx) (laws.second Ax Cx) refl
accumulator_exchange_cost laws Dx = words_short (word_pair Ax Dx) Dx (laws.first Ax Dx) (laws.second Ax Dx) refl
accumulator_exchange_cost laws Bx = words_short (word_pair Ax Bx) Bx (laws.first Ax Bx) (laws.second Ax Bx) refl
accumulator_exchange_cost laws Sp = words_short (word_pair Ax Sp) Sp (laws.first Ax Sp) (laws.second Ax Sp) refl
accumulator_exchange_cost laws Bp = words_short (word_pair Ax Bp) Bp (laws.first Ax Bp) (laws.second Ax Bp) refl
accumulator_exchange_cost laws Si = words_short (word_pair Ax Si) Si (laws.first Ax Si) (laws.second Ax Si) refl
accumulator_exchange_cost laws Di = words_short (word_pair Ax Di) Di (laws.first Ax Di) (laws.second Ax Di) refl

-- ---- rows that say one thing or none

at_some : (n : ℕ) (x y : Instr) → Some x ≡ Some y → Cheap n x → Cheap n y
at_some n x y e h = subst (λ (z : Instr). Cheap n z) (same_Some x y e) h

-- a row that says this where a test holds
pick : (n : ℕ) (b : Bool) (x y : Instr) (rest : Option Instr) → Cheap n x → (rest ≡ Some y → Cheap n y) → cond b (Some x) rest ≡ Some y → Cheap n y
pick n true x y rest h more e = at_some n x y e h
pick n false x y rest h more e = more e

none_is : (n : ℕ) (y : Instr) → None ≡ Some y → Cheap n y
none_is n y e = absurd cc

load_address_cost : (r : Register16) (p : RmOperand Register16) (y : Instr) → load_address r p ≡ Some y → Cheap (2 * (1 + weight p)) y
unfolding form_of
load_address_cost r (rm.Register s) y e = absurd cc
load_address_cost r (rm.Memory m) y e = at_some _ _ y e (bare m.segment m.address)
  where
    bare : (s : Segment) (a : Address) → Cheap (2 * (1 + (prefix_length (prefix_at s a) + place_length (address_form a)))) (i.LoadAddress r a)
    bare s a = omega (arith, plain_cost op.LoadAddress (fields.Address (word_register_code r) (address_form a)) (never_address op.LoadAddress (λ r c. refl) (word_register_code r) (address_form a)))

move_to_segment_cost : (o : Option LoadableSegment) (p : RmOperand Register16) (y : Instr) → move_to_segment o p ≡ Some y → Cheap (2 * (1 + weight p)) y
unfolding form_of
move_to_segment_cost None p y e = absurd cc
move_to_segment_cost (Some s) p y e = at_some _ _ y e (omega (arith, addressed_cost word_register_code op.MoveToSegment (segment_code (loadable s)) p (λ r c. refl)))

shift_byte_cost : (o : Option ShiftOperation) (p : RmOperand Register8) (c : Count) (y : Instr) → shift_then o (λ s. i.ShiftByte s p c) ≡ Some y → Cheap (2 * (1 + weight p)) y
unfolding form_of
shift_byte_cost None p c y e = absurd cc
shift_byte_cost (Some s) p c y e = at_some _ _ y e (omega (arith, addressed_cost byte_register_code (op.Shift widths.Byte c) (shift_code s) p (λ r c. refl)))

shift_word_cost : (o : Option ShiftOperation) (p : RmOperand Register16) (c : Count) (y : Instr) → shift_then o (λ s. i.ShiftWord s p c) ≡ Some y → Cheap (2 * (1 + weight p)) y
unfolding form_of
shift_word_cost None p c y e = absurd cc
shift_word_cost (Some s) p c y e = at_some _ _ y e (omega (arith, addressed_cost word_register_code (op.Shift widths.Word c) (shift_code s) p (λ r c. refl)))

byte_step_cost : (r : ℕ) (p : RmOperand Register8) (y : Instr) → byte_step r p ≡ Some y → Cheap (2 * (1 + weight p)) y
unfolding form_of
byte_step_cost r p y e =
    pick _ (r == 0) (i.UnaryByte Inc p) y _ (omega (arith, addressed_cost byte_register_code (op.StepGroup widths.Byte) 0 p (λ r c. refl)))
    (pick _ (r == 1) (i.UnaryByte Dec p) y _ (omega (arith, addressed_cost byte_register_code (op.StepGroup widths.Byte) 1 p (λ r c. refl)))
    (none_is _ y)) e

word_step_cost : (r : ℕ) (p : RmOperand Register16) (y : Instr) → word_step r p ≡ Some y → Cheap (2 * (1 + weight p)) y
unfolding form_of
word_step_cost r p y e =
    pick _ (r == 0) (i.UnaryWord Inc p) y _ (register_or_cost (λ r. op.Increment r) (op.StepGroup widths.Word) 0 p)
    (pick _ (r == 1) (i.UnaryWord Dec p) y _ (register_or_cost (λ r. op.Decrement r) (op.StepGroup widths.Word) 1 p)
    (pick _ (r == 2) (i.CallTo p) y _ (omega (arith, addressed_cost word_register_code (op.StepGroup widths.Word) 2 p (λ r c. refl)))
    (pick _ (r == 4) (i.JumpTo p) y _ (omega (arith, addressed_cost word_register_code (op.StepGroup widths.Word) 4 p (λ r c. refl)))
    (pick _ (r == 6) (i.Push p) y _ (register_or_cost (λ r. op.Push r) (op.StepGroup widths.Word) 6 p)
    (none_is _ y))))) e

byte_unary_cost : (r : ℕ) (p : RmOperand Register8) (y : Instr) → byte_unary r p ≡ Some y → Cheap (2 * (1 + weight p)) y
unfolding form_of
byte_unary_cost r p y e =
    pick _ (r == 2) (i.UnaryByte Not p) y _ (omega (arith, group_cost byte_register_code widths.Byte 2 p))
    (pick _ (r == 3) (i.UnaryByte Neg p) y _ (omega (arith, group_cost byte_register_code widths.Byte 3 p))
    (pick _ (r == 4) (i.MultiplyByte Unsigned p) y _ (omega (arith, group_cost byte_register_code widths.Byte 4 p))
    (pick _ (r == 5) (i.MultiplyByte Signed p) y _ (omega (arith, group_cost byte_register_code widths.Byte 5 p))
    (pick _ (r == 6) (i.DivideByte Unsigned p) y _ (omega (arith, group_cost byte_register_code widths.Byte 6 p))
    (pick _ (r == 7) (i.DivideByte Signed p) y _ (omega (arith, group_cost byte_register_code widths.Byte 7 p))
    (none_is _ y)))))) e

word_unary_cost : (r : ℕ) (p : RmOperand Register16) (y : Instr) → word_unary r p ≡ Some y → Cheap (2 * (1 + weight p)) y
unfolding form_of
word_unary_cost r p y e =
    pick _ (r == 2) (i.UnaryWord Not p) y _ (omega (arith, group_cost word_register_code widths.Word 2 p))
    (pick _ (r == 3) (i.UnaryWord Neg p) y _ (omega (arith, group_cost word_register_code widths.Word 3 p))
    (pick _ (r == 4) (i.MultiplyWord Unsigned p) y _ (omega (arith, group_cost word_register_code widths.Word 4 p))
    (pick _ (r == 5) (i.MultiplyWord Signed p) y _ (omega (arith, group_cost word_register_code widths.Word 5 p))
    (pick _ (r == 6) (i.DivideWord Unsigned p) y _ (omega (arith, group_cost word_register_code widths.Word 6 p))
    (pick _ (r == 7) (i.DivideWord Signed p) y _ (omega (arith, group_cost word_register_code widths.Word 7 p))
    (none_is _ y)))))) e

-- ---- the prefixes of strings

string_one : (s : Segment) → (prefix_length (string_prefixes s Once) ≤ 1) × (prefix_length (string_prefixes s WhileCx) ≤ 2)
string_one segments.Es = (omega arith, omega arith)
string_one segments.Cs = (omega arith, omega arith)
string_one segments.Ss = (omega arith, omega arith)
string_one segments.Ds = (omega arith, omega arith)

string_light : (p : Prefixes) → prefix_length (string_prefixes (segment_under p segments.Ds) (repeat_of p)) ≤ prefix_length p
string_light prefixes.Nothing = omega arith
string_light (prefixes.Override t) = (string_one t).0
string_light prefixes.Repeat = omega arith
string_light (prefixes.OverrideRepeat t) = (string_one t).1
string_light (prefixes.RepeatOverride t) = (string_one t).1

store_light : (p : Prefixes) → prefix_length (string_prefixes segments.Ds (repeat_of p)) ≤ prefix_length p
store_light prefixes.Nothing = omega arith
store_light (prefixes.Override t) = omega arith
store_light prefixes.Repeat = omega arith
store_light (prefixes.OverrideRepeat t) = omega arith
store_light (prefixes.RepeatOverride t) = omega arith

string_first : (s : Segment) (repeat : Repeat) → is_repeat_first (string_prefixes s repeat) ≡ false
string_first segments.Es Once = refl
string_first segments.Es WhileCx = refl
string_first segments.Cs Once = refl
string_first segments.Cs WhileCx = refl
string_first segments.Ss Once = refl
string_first segments.Ss WhileCx = refl
string_first segments.Ds Once = refl
string_first segments.Ds WhileCx = refl

-- ---- the rows of the table

-- what a form with these parts says is written no dearer
abbrev Best : Prefixes → Opcode → Fields → Type 0
Best p k f = (y : Instr) → FieldsFit f → instruction_from p k f ≡ Some y → Cheap (2 * (prefix_length p + (1 + field_length f)) + number_of (is_turned_form k f)) y

on_nothing : (p : Prefixes) (k : Opcode) (f : Fields) → kind_of_fields f ≡ kinds.Nothing → Best p k fields.Nothing → Best p k f
on_nothing p k fields.Nothing l h = h
on_nothing p k (fields.Byte n) l h = absurd cc
on_nothing p k (fields.Word n) l h = absurd cc
on_nothing p k (fields.TwoWords m n) l h = absurd cc
on_nothing p k (fields.Address r m) l h = absurd cc
on_nothing p k (fields.AddressByte r m n) l h = absurd cc
on_nothing p k (fields.AddressWord r m n) l h = absurd cc
on_nothing p k (fields.Unary w r m) l h = absurd cc
on_nothing p k (fields.TestByte m n) l h = absurd cc
on_nothing p k (fields.TestWord m n) l h = absurd cc

on_byte : (p : Prefixes) (k : Opcode) (f : Fields) → kind_of_fields f ≡ kinds.Byte → ((n : ℕ) → Best p k (fields.Byte n)) → Best p k f
on_byte p k fields.Nothing l h = absurd cc
on_byte p k (fields.Byte n) l h = h n
on_byte p k (fields.Word n) l h = absurd cc
on_byte p k (fields.TwoWords m n) l h = absurd cc
on_byte p k (fields.Address r m) l h = absurd cc
on_byte p k (fields.AddressByte r m n) l h = absurd cc
on_byte p k (fields.AddressWord r m n) l h = absurd cc
on_byte p k (fields.Unary w r m) l h = absurd cc
on_byte p k (fields.TestByte m n) l h = absurd cc
on_byte p k (fields.TestWord m n) l h = absurd cc

on_word : (p : Prefixes) (k : Opcode) (f : Fields) → kind_of_fields f ≡ kinds.Word → ((n : ℕ) → Best p k (fields.Word n)) → Best p k f
on_word p k fields.Nothing l h = absurd cc
on_word p k (fields.Byte n) l h = absurd cc
on_word p k (fields.Word n) l h = h n
on_word p k (fields.TwoWords m n) l h = absurd cc
on_word p k (fields.Address r m) l h = absurd cc
on_word p k (fields.AddressByte r m n) l h = absurd cc
on_word p k (fields.AddressWord r m n) l h = absurd cc
on_word p k (fields.Unary w r m) l h = absurd cc
on_word p k (fields.TestByte m n) l h = absurd cc
on_word p k (fields.TestWord m n) l h = absurd cc

on_two_words : (p : Prefixes) (k : Opcode) (f : Fields) → kind_of_fields f ≡ kinds.TwoWords → ((m n : ℕ) → Best p k (fields.TwoWords m n)) → Best p k f
on_two_words p k fields.Nothing l h = absurd cc
on_two_words p k (fields.Byte n) l h = absurd cc
on_two_words p k (fields.Word n) l h = absurd cc
on_two_words p k (fields.TwoWords m n) l h = h m n
on_two_words p k (fields.Address r m) l h = absurd cc
on_two_words p k (fields.AddressByte r m n) l h = absurd cc
on_two_words p k (fields.AddressWord r m n) l h = absurd cc
on_two_words p k (fields.Unary w r m) l h = absurd cc
on_two_words p k (fields.TestByte m n) l h = absurd cc
on_two_words p k (fields.TestWord m n) l h = absurd cc

on_address : (p : Prefixes) (k : Opcode) (f : Fields) → kind_of_fields f ≡ kinds.Address → ((r : ℕ) (m : RegisterOrMemory) → Best p k (fields.Address r m)) → Best p k f
on_address p k fields.Nothing l h = absurd cc
on_address p k (fields.Byte n) l h = absurd cc
on_address p k (fields.Word n) l h = absurd cc
on_address p k (fields.TwoWords m n) l h = absurd cc
on_address p k (fields.Address r m) l h = h r m
on_address p k (fields.AddressByte r m n) l h = absurd cc
on_address p k (fields.AddressWord r m n) l h = absurd cc
on_address p k (fields.Unary w r m) l h = absurd cc
on_address p k (fields.TestByte m n) l h = absurd cc
on_address p k (fields.TestWord m n) l h = absurd cc

on_address_byte : (p : Prefixes) (k : Opcode) (f : Fields) → kind_of_fields f ≡ kinds.AddressByte → ((r : ℕ) (m : RegisterOrMemory) (n : ℕ) → Best p k (fields.AddressByte r m n)) → Best p k f
on_address_byte p k fields.Nothing l h = absurd cc
on_address_byte p k (fields.Byte n) l h = absurd cc
on_address_byte p k (fields.Word n) l h = absurd cc
on_address_byte p k (fields.TwoWords m n) l h = absurd cc
on_address_byte p k (fields.Address r m) l h = absurd cc
on_address_byte p k (fields.AddressByte r m n) l h = h r m n
on_address_byte p k (fields.AddressWord r m n) l h = absurd cc
on_address_byte p k (fields.Unary w r m) l h = absurd cc
on_address_byte p k (fields.TestByte m n) l h = absurd cc
on_address_byte p k (fields.TestWord m n) l h = absurd cc

on_address_word : (p : Prefixes) (k : Opcode) (f : Fields) → kind_of_fields f ≡ kinds.AddressWord → ((r : ℕ) (m : RegisterOrMemory) (n : ℕ) → Best p k (fields.AddressWord r m n)) → Best p k f
on_address_word p k fields.Nothing l h = absurd cc
on_address_word p k (fields.Byte n) l h = absurd cc
on_address_word p k (fields.Word n) l h = absurd cc
on_address_word p k (fields.TwoWords m n) l h = absurd cc
on_address_word p k (fields.Address r m) l h = absurd cc
on_address_word p k (fields.AddressByte r m n) l h = absurd cc
on_address_word p k (fields.AddressWord r m n) l h = h r m n
on_address_word p k (fields.Unary w r m) l h = absurd cc
on_address_word p k (fields.TestByte m n) l h = absurd cc
on_address_word p k (fields.TestWord m n) l h = absurd cc

on_byte_group : (p : Prefixes) (k : Opcode) (f : Fields) → kind_of_fields f ≡ kinds.Group widths.Byte → ((r : ℕ) (m : RegisterOrMemory) → Best p k (fields.Unary widths.Byte r m)) → ((m : RegisterOrMemory) (n : ℕ) → Best p k (fields.TestByte m n)) → Best p k f
on_byte_group p k fields.Nothing l h t = absurd cc
on_byte_group p k (fields.Byte n) l h t = absurd cc
on_byte_group p k (fields.Word n) l h t = absurd cc
on_byte_group p k (fields.TwoWords m n) l h t = absurd cc
on_byte_group p k (fields.Address r m) l h t = absurd cc
on_byte_group p k (fields.AddressByte r m n) l h t = absurd cc
on_byte_group p k (fields.AddressWord r m n) l h t = absurd cc
on_byte_group p k (fields.Unary widths.Byte r m) l h t = h r m
on_byte_group p k (fields.Unary widths.Word r m) l h t = absurd cc
on_byte_group p k (fields.TestByte m n) l h t = t m n
on_byte_group p k (fields.TestWord m n) l h t = absurd cc

on_word_group : (p : Prefixes) (k : Opcode) (f : Fields) → kind_of_fields f ≡ kinds.Group widths.Word → ((r : ℕ) (m : RegisterOrMemory) → Best p k (fields.Unary widths.Word r m)) → ((m : RegisterOrMemory) (n : ℕ) → Best p k (fields.TestWord m n)) → Best p k f
on_word_group p k fields.Nothing l h t = absurd cc
on_word_group p k (fields.Byte n) l h t = absurd cc
on_word_group p k (fields.Word n) l h t = absurd cc
on_word_group p k (fields.TwoWords m n) l h t = absurd cc
on_word_group p k (fields.Address r m) l h t = absurd cc
on_word_group p k (fields.AddressByte r m n) l h t = absurd cc
on_word_group p k (fields.AddressWord r m n) l h t = absurd cc
on_word_group p k (fields.Unary widths.Word r m) l h t = h r m
on_word_group p k (fields.Unary widths.Byte r m) l h t = absurd cc
on_word_group p k (fields.TestByte m n) l h t = absurd cc
on_word_group p k (fields.TestWord m n) l h t = t m n

operation_found : (r : ℕ) → r < 8 → operation_code (operation_at r) ≡ r
operation_found zero h = refl
operation_found (suc zero) h = refl
operation_found (suc (suc zero)) h = refl
operation_found (suc (suc (suc zero))) h = refl
operation_found (suc (suc (suc (suc zero)))) h = refl
operation_found (suc (suc (suc (suc (suc zero))))) h = refl
operation_found (suc (suc (suc (suc (suc (suc zero)))))) h = refl
operation_found (suc (suc (suc (suc (suc (suc (suc zero))))))) h = refl
operation_found (suc (suc (suc (suc (suc (suc (suc (suc n)))))))) h = absurd (omega arith)

-- an operation on a word and a sign-extended byte
short_best : (p : Prefixes) (r : ℕ) (m : RegisterOrMemory) (n : ℕ) → Best p op.AluShort (fields.AddressByte r m n)
unfolding instruction_from addressed_byte_instruction
short_best p r m n y fits e =
    elim (chosen (is_short r) (Some (i.AluWord (operation_at r) (Immediate (word_operand p m) (sign_extended n)))) None) [
      | inl short ↦
          let test : is_short (operation_code (operation_at r)) ≡ true = rw (operation_found r fits.0) short.0 in
          at_some _ _ y (sym short.1 ∙ e) (omega (arith, place_light word_register_at p m fits.1, alu_word_short (operation_at r) (word_operand p m) (sign_extended n) test (near_byte n fits.2)))
      | inr not ↦ let none = sym not.1 ∙ e in absurd cc
    ]

rows : WordPairLaws → (p : Prefixes) (k : Opcode) (f : Fields) → kind_of_fields f ≡ field_kind_of k → Best p k f
unfolding form_of instruction_from addressed_instruction addressed_byte_instruction addressed_word_instruction plain_instruction byte_instruction word_instruction alu_byte_of alu_word_of move_byte_of move_word_of
rows words p (op.AluToPlace o widths.Byte) f l = on_address p (op.AluToPlace o widths.Byte) f l (λ r m y fits e. at_some _ _ y e (omega (arith, place_light byte_register_at p m fits.1, alu_byte_to_place o (byte_operand p m) (byte_register_at r))))
rows words p (op.AluToPlace o widths.Word) f l = on_address p (op.AluToPlace o widths.Word) f l (λ r m y fits e. at_some _ _ y e (omega (arith, place_light word_register_at p m fits.1, alu_word_to_place o (word_operand p m) (word_register_at r))))
rows words p (op.AluToRegister o widths.Byte) f l = on_address p (op.AluToRegister o widths.Byte) f l (λ r m y fits e. at_some _ _ y e (omega (arith, place_light byte_register_at p m fits.1, alu_byte_to_register o (byte_register_at r) (byte_operand p m))))
rows words p (op.AluToRegister o widths.Word) f l = on_address p (op.AluToRegister o widths.Word) f l (λ r m y fits e. at_some _ _ y e (omega (arith, place_light word_register_at p m fits.1, alu_word_to_register o (word_register_at r) (word_operand p m))))
rows words p (op.AluAccumulator o widths.Byte) f l = on_byte p (op.AluAccumulator o widths.Byte) f l (λ n y fits e. at_some _ _ y e (omega (arith, plain_cost (op.AluAccumulator o widths.Byte) (fields.Byte n) refl)))
rows words p (op.AluAccumulator o widths.Word) f l = on_word p (op.AluAccumulator o widths.Word) f l (λ n y fits e. at_some _ _ y e (omega (arith, plain_cost (op.AluAccumulator o widths.Word) (fields.Word n) refl)))
rows words p (op.PushSegment s) f l = on_nothing p (op.PushSegment s) f l (λ y fits e. at_some _ _ y e (omega (arith, plain_cost (op.PushSegment s) fields.Nothing refl)))
rows words p (op.PopSegment s) f l = on_nothing p (op.PopSegment s) f l (λ y fits e. at_some _ _ y e (omega (arith, plain_cost (op.PopSegment s) fields.Nothing refl)))
rows words p (op.Increment r) f l = on_nothing p (op.Increment r) f l (λ y fits e. at_some _ _ y e (omega (arith, plain_cost (op.Increment r) fields.Nothing refl)))
rows words p (op.Decrement r) f l = on_nothing p (op.Decrement r) f l (λ y fits e. at_some _ _ y e (omega (arith, plain_cost (op.Decrement r) fields.Nothing refl)))
rows words p (op.Push r) f l = on_nothing p (op.Push r) f l (λ y fits e. at_some _ _ y e (omega (arith, plain_cost (op.Push r) fields.Nothing refl)))
rows words p (op.Pop r) f l = on_nothing p (op.Pop r) f l (λ y fits e. at_some _ _ y e (omega (arith, plain_cost (op.Pop r) fields.Nothing refl)))
rows words p (op.JumpIf c) f l = on_byte p (op.JumpIf c) f l (λ n y fits e. at_some _ _ y e (omega (arith, plain_cost (op.JumpIf c) (fields.Byte n) refl)))
rows words p (op.AluImmediate widths.Byte) f l = on_address_byte p (op.AluImmediate widths.Byte) f l (λ r m n y fits e. at_some _ _ y e (omega (arith, place_light byte_register_at p m fits.1, alu_byte_immediate (operation_at r) (byte_operand p m) n)))
rows words p (op.AluImmediate widths.Word) f l = on_address_word p (op.AluImmediate widths.Word) f l (λ r m n y fits e. at_some _ _ y e (omega (arith, place_light word_register_at p m fits.1, alu_word_immediate (operation_at r) (word_operand p m) n)))
rows words p op.AluShort f l = on_address_byte p op.AluShort f l (short_best p)
rows words p (op.Test widths.Byte) f l = on_address p (op.Test widths.Byte) f l (λ r m y fits e. at_some _ _ y e (omega (arith, place_light byte_register_at p m fits.1, addressed_cost byte_register_code (op.Test widths.Byte) (byte_register_code (byte_register_at r)) (byte_operand p m) (λ r c. refl))))
rows words p (op.Test widths.Word) f l = on_address p (op.Test widths.Word) f l (λ r m y fits e. at_some _ _ y e (omega (arith, place_light word_register_at p m fits.1, addressed_cost word_register_code (op.Test widths.Word) (word_register_code (word_register_at r)) (word_operand p m) (λ r c. refl))))
rows words p (op.Exchange widths.Byte) f l = on_address p (op.Exchange widths.Byte) f l (λ r m y fits e. at_some _ _ y e (omega (arith, place_light byte_register_at p m fits.1, exchanged_byte_cost (byte_register_at r) (byte_operand p m))))
rows words p (op.Exchange widths.Word) f l = on_address p (op.Exchange widths.Word) f l (λ r m y fits e. at_some _ _ y e (omega (arith, place_light word_register_at p m fits.1, exchanged_word_cost (word_register_at r) (word_operand p m))))
rows words p (op.MoveToPlace widths.Byte) f l = on_address p (op.MoveToPlace widths.Byte) f l (λ r m y fits e. at_some _ _ y e (omega (arith, place_light byte_register_at p m fits.1, move_byte_to_place (byte_operand p m) (byte_register_at r))))
rows words p (op.MoveToPlace widths.Word) f l = on_address p (op.MoveToPlace widths.Word) f l (λ r m y fits e. at_some _ _ y e (omega (arith, place_light word_register_at p m fits.1, move_word_to_place (word_operand p m) (word_register_at r))))
rows words p (op.MoveToRegister widths.Byte) f l = on_address p (op.MoveToRegister widths.Byte) f l (λ r m y fits e. at_some _ _ y e (omega (arith, place_light byte_register_at p m fits.1, move_byte_to_register (byte_register_at r) (byte_operand p m))))
rows words p (op.MoveToRegister widths.Word) f l = on_address p (op.MoveToRegister widths.Word) f l (λ r m y fits e. at_some _ _ y e (omega (arith, place_light word_register_at p m fits.1, move_word_to_register (word_register_at r) (word_operand p m))))
rows words p op.MoveFromSegment f l = on_address p op.MoveFromSegment f l (λ r m y fits e. pick _ (nat_lt r 4) (i.MoveFromSegment (word_operand p m) (segment_at r)) y None (omega (arith, place_light word_register_at p m fits.1, addressed_cost word_register_code op.MoveFromSegment (segment_code (segment_at r)) (word_operand p m) (λ r c. refl))) (none_is _ y) e)
rows words p op.LoadAddress f l = on_address p op.LoadAddress f l (λ r m y fits e. omega (arith, place_light word_register_at p m fits.1, load_address_cost (word_register_at r) (word_operand p m) y e))
rows words p op.MoveToSegment f l = on_address p op.MoveToSegment f l (λ r m y fits e. omega (arith, place_light word_register_at p m fits.1, move_to_segment_cost (loadable_at r) (word_operand p m) y e))
rows words p op.PopPlace f l = on_address p op.PopPlace f l (λ r m y fits e. pick _ (r == 0) (i.Pop (word_operand p m)) y None (omega (arith, place_light word_register_at p m fits.1, register_or_cost (λ r. op.Pop r) op.PopPlace 0 (word_operand p m))) (none_is _ y) e)
rows words p (op.ExchangeAccumulator r) f l = on_nothing p (op.ExchangeAccumulator r) f l (λ y fits e. at_some _ _ y e (omega (arith, accumulator_exchange_cost words r)))
rows words p op.ConvertByte f l = on_nothing p op.ConvertByte f l (λ y fits e. at_some _ _ y e (omega (arith, plain_cost op.ConvertByte fields.Nothing refl)))
rows words p op.ConvertWord f l = on_nothing p op.ConvertWord f l (λ y fits e. at_some _ _ y e (omega (arith, plain_cost op.ConvertWord fields.Nothing refl)))
rows words p op.PushFlags f l = on_nothing p op.PushFlags f l (λ y fits e. at_some _ _ y e (omega (arith, plain_cost op.PushFlags fields.Nothing refl)))
rows words p op.PopFlags f l = on_nothing p op.PopFlags f l (λ y fits e. at_some _ _ y e (omega (arith, plain_cost op.PopFlags fields.Nothing refl)))
rows words p (op.MoveFromDirect widths.Byte) f l = on_word p (op.MoveFromDirect widths.Byte) f l (λ n y fits e. at_some _ _ y e (omega (arith, direct_light p, cost_is (prefix_for segments.Ds (segment_under p segments.Ds)) (op.MoveFromDirect widths.Byte) (fields.Word n) false (not_first segments.Ds (segment_under p segments.Ds)) refl)))
rows words p (op.MoveFromDirect widths.Word) f l = on_word p (op.MoveFromDirect widths.Word) f l (λ n y fits e. at_some _ _ y e (omega (arith, direct_light p, cost_is (prefix_for segments.Ds (segment_under p segments.Ds)) (op.MoveFromDirect widths.Word) (fields.Word n) false (not_first segments.Ds (segment_under p segments.Ds)) refl)))
rows words p (op.MoveToDirect widths.Byte) f l = on_word p (op.MoveToDirect widths.Byte) f l (λ n y fits e. at_some _ _ y e (omega (arith, direct_light p, cost_is (prefix_for segments.Ds (segment_under p segments.Ds)) (op.MoveToDirect widths.Byte) (fields.Word n) false (not_first segments.Ds (segment_under p segments.Ds)) refl)))
rows words p (op.MoveToDirect widths.Word) f l = on_word p (op.MoveToDirect widths.Word) f l (λ n y fits e. at_some _ _ y e (omega (arith, direct_light p, cost_is (prefix_for segments.Ds (segment_under p segments.Ds)) (op.MoveToDirect widths.Word) (fields.Word n) false (not_first segments.Ds (segment_under p segments.Ds)) refl)))
rows words p (op.MoveString w) f l = on_nothing p (op.MoveString w) f l (λ y fits e. at_some _ _ y e (omega (arith, string_light p, cost_is (string_prefixes (segment_under p segments.Ds) (repeat_of p)) (op.MoveString w) fields.Nothing false (string_first (segment_under p segments.Ds) (repeat_of p)) refl)))
rows words p (op.TestAccumulator widths.Byte) f l = on_byte p (op.TestAccumulator widths.Byte) f l (λ n y fits e. at_some _ _ y e (omega (arith, plain_cost (op.TestAccumulator widths.Byte) (fields.Byte n) refl)))
rows words p (op.TestAccumulator widths.Word) f l = on_word p (op.TestAccumulator widths.Word) f l (λ n y fits e. at_some _ _ y e (omega (arith, plain_cost (op.TestAccumulator widths.Word) (fields.Word n) refl)))
rows words p (op.StoreString w) f l = on_nothing p (op.StoreString w) f l (λ y fits e. at_some _ _ y e (omega (arith, store_light p, cost_is (string_prefixes segments.Ds (repeat_of p)) (op.StoreString w) fields.Nothing false (string_first segments.Ds (repeat_of p)) refl)))
rows words p (op.MoveRegisterByte r) f l = on_byte p (op.MoveRegisterByte r) f l (λ n y fits e. at_some _ _ y e (omega (arith, plain_cost (op.MoveRegisterByte r) (fields.Byte n) refl)))
rows words p (op.MoveRegisterWord r) f l = on_word p (op.MoveRegisterWord r) f l (λ n y fits e. at_some _ _ y e (omega (arith, plain_cost (op.MoveRegisterWord r) (fields.Word n) refl)))
rows words p op.ReturnDropping f l = on_word p op.ReturnDropping f l (λ n y fits e. at_some _ _ y e (omega (arith, plain_cost op.ReturnDropping (fields.Word n) refl)))
rows words p op.Return f l = on_nothing p op.Return f l (λ y fits e. at_some _ _ y e (omega (arith, plain_cost op.Return fields.Nothing refl)))
rows words p (op.MoveImmediate widths.Byte) f l = on_address_byte p (op.MoveImmediate widths.Byte) f l (λ r m n y fits e. pick _ (r == 0) (i.MoveByte (Immediate (byte_operand p m) n)) y None (omega (arith, place_light byte_register_at p m fits.1, move_byte_immediate (byte_operand p m) n)) (none_is _ y) e)
rows words p (op.MoveImmediate widths.Word) f l = on_address_word p (op.MoveImmediate widths.Word) f l (λ r m n y fits e. pick _ (r == 0) (i.MoveWord (Immediate (word_operand p m) n)) y None (omega (arith, place_light word_register_at p m fits.1, move_word_immediate (word_operand p m) n)) (none_is _ y) e)
rows words p op.InterruptReturn f l = on_nothing p op.InterruptReturn f l (λ y fits e. at_some _ _ y e (omega (arith, plain_cost op.InterruptReturn fields.Nothing refl)))
rows words p (op.Shift widths.Byte c) f l = on_address p (op.Shift widths.Byte c) f l (λ r m y fits e. omega (arith, place_light byte_register_at p m fits.1, shift_byte_cost (shift_at r) (byte_operand p m) c y e))
rows words p (op.Shift widths.Word c) f l = on_address p (op.Shift widths.Word c) f l (λ r m y fits e. omega (arith, place_light word_register_at p m fits.1, shift_word_cost (shift_at r) (word_operand p m) c y e))
rows words p op.Loop f l = on_byte p op.Loop f l (λ n y fits e. at_some _ _ y e (omega (arith, plain_cost op.Loop (fields.Byte n) refl)))
rows words p op.JumpIfCxZero f l = on_byte p op.JumpIfCxZero f l (λ n y fits e. at_some _ _ y e (omega (arith, plain_cost op.JumpIfCxZero (fields.Byte n) refl)))
rows words p (op.InFixed w) f l = on_byte p (op.InFixed w) f l (λ n y fits e. at_some _ _ y e (omega (arith, plain_cost (op.InFixed w) (fields.Byte n) refl)))
rows words p (op.OutFixed w) f l = on_byte p (op.OutFixed w) f l (λ n y fits e. at_some _ _ y e (omega (arith, plain_cost (op.OutFixed w) (fields.Byte n) refl)))
rows words p op.Call f l = on_word p op.Call f l (λ n y fits e. at_some _ _ y e (omega (arith, plain_cost op.Call (fields.Word n) refl)))
rows words p op.Jump f l = on_word p op.Jump f l (λ n y fits e. at_some _ _ y e (omega (arith, plain_cost op.Jump (fields.Word n) refl)))
rows words p op.JumpFar f l = on_two_words p op.JumpFar f l (λ m n y fits e. at_some _ _ y e (omega (arith, plain_cost op.JumpFar (fields.TwoWords m n) refl)))
rows words p op.JumpShort f l = on_byte p op.JumpShort f l (λ n y fits e. at_some _ _ y e (omega (arith, plain_cost op.JumpShort (fields.Byte n) refl)))
rows words p (op.InDx w) f l = on_nothing p (op.InDx w) f l (λ y fits e. at_some _ _ y e (omega (arith, plain_cost (op.InDx w) fields.Nothing refl)))
rows words p (op.OutDx w) f l = on_nothing p (op.OutDx w) f l (λ y fits e. at_some _ _ y e (omega (arith, plain_cost (op.OutDx w) fields.Nothing refl)))
rows words p op.Halt f l = on_nothing p op.Halt f l (λ y fits e. at_some _ _ y e (omega (arith, plain_cost op.Halt fields.Nothing refl)))
rows words p op.ComplementCarry f l = on_nothing p op.ComplementCarry f l (λ y fits e. at_some _ _ y e (omega (arith, plain_cost op.ComplementCarry fields.Nothing refl)))
rows words p (op.UnaryGroup widths.Byte) f l = on_byte_group p (op.UnaryGroup widths.Byte) f l (λ r m y fits e. omega (arith, place_light byte_register_at p m fits.2, byte_unary_cost r (byte_operand p m) y e)) (λ m n y fits e. at_some _ _ y e (omega (arith, place_light byte_register_at p m fits.0, test_byte_immediate (byte_operand p m) n)))
rows words p (op.UnaryGroup widths.Word) f l = on_word_group p (op.UnaryGroup widths.Word) f l (λ r m y fits e. omega (arith, place_light word_register_at p m fits.2, word_unary_cost r (word_operand p m) y e)) (λ m n y fits e. at_some _ _ y e (omega (arith, place_light word_register_at p m fits.0, test_word_immediate (word_operand p m) n)))
rows words p op.ClearCarry f l = on_nothing p op.ClearCarry f l (λ y fits e. at_some _ _ y e (omega (arith, plain_cost op.ClearCarry fields.Nothing refl)))
rows words p op.SetCarry f l = on_nothing p op.SetCarry f l (λ y fits e. at_some _ _ y e (omega (arith, plain_cost op.SetCarry fields.Nothing refl)))
rows words p op.DisableInterrupts f l = on_nothing p op.DisableInterrupts f l (λ y fits e. at_some _ _ y e (omega (arith, plain_cost op.DisableInterrupts fields.Nothing refl)))
rows words p op.EnableInterrupts f l = on_nothing p op.EnableInterrupts f l (λ y fits e. at_some _ _ y e (omega (arith, plain_cost op.EnableInterrupts fields.Nothing refl)))
rows words p op.ClearDirection f l = on_nothing p op.ClearDirection f l (λ y fits e. at_some _ _ y e (omega (arith, plain_cost op.ClearDirection fields.Nothing refl)))
rows words p op.SetDirection f l = on_nothing p op.SetDirection f l (λ y fits e. at_some _ _ y e (omega (arith, plain_cost op.SetDirection fields.Nothing refl)))
rows words p (op.StepGroup widths.Byte) f l = on_address p (op.StepGroup widths.Byte) f l (λ r m y fits e. omega (arith, place_light byte_register_at p m fits.1, byte_step_cost r (byte_operand p m) y e))
rows words p (op.StepGroup widths.Word) f l = on_address p (op.StepGroup widths.Word) f l (λ r m y fits e. omega (arith, place_light word_register_at p m fits.1, word_step_cost r (word_operand p m) y e))

not_refused : (b : Bool) (x : Option Instr) (y : Instr) → cond b None x ≡ Some y → x ≡ Some y
not_refused true x y e = absurd cc
not_refused false x y e = e

-- no form of an instruction is better than the one that is written
best : WordPairLaws → (f : Form) (y : Instr) → IsForm f → instruction_of f ≡ Some y → cost (form_of y) ≤ cost f
unfolding instruction_of
best words f y h e =
    let says = not_refused (repeats f.prefixes && not (is_string f.opcode)) (instruction_from f.prefixes f.opcode f.fields) y e in
    omega (arith, rows words f.prefixes f.opcode f.fields h.kind y h.fits says, cost_least f.prefixes f.opcode f.fields)

pub written_best : BytePairLaws → WordPairLaws → (y : Instr) (bytes : List ℕ) → InstrFits y → bytes ≡ form_bytes (form_of y) → WritesBest bytes y
written_best pairs words y bytes fits e =
    let w = written pairs words y fits in
    record { form = form_of y; fits = record { kind = w.kind; fits = w.fits }; spelling = e; says = w.says; best = λ other h says. best words other y h says }

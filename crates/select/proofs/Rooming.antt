-- How many bytes the rows of instructions have at most.
use Rattle.std.proofs.Common.{◌≡◌, ℕ, ◌+◌, ◌-◌, ◌*◌, ◌%◌, ◌<◌, ◌≤◌, ◌⊎◌, inl, inr, ◌==◌, ◌&&◌, Bool, true, false, List, [], ◌∷◌, ◌++◌, length, map, Option, Some, None, refl, ap, ◌∙◌, arith}
use Rattle.std.specs.Prelude.{sum, nat_eq, nat_le, not, if◌then◌else◌}
use Rattle.std.specs.List.{sum_by}
use Rattle.std.proofs.lemmas.List.Sums.{sum_by-cons}
use Rattle.std.proofs.lemmas.Bool.Decides.{leb_tells}
use Rattle.word86.specs.declared.width.Width.{Width}
use Rattle.word86.specs.declared.width.Width.TheVariants as widths
use Rattle.word86.specs.declared.operation.UnaryOperation.{UnaryOperation}
use Rattle.word86.specs.declared.operation.UnaryOperation.TheVariants as unary
use Rattle.word86.specs.declared.operation.BinaryOperation.{BinaryOperation}
use Rattle.word86.specs.declared.operation.BinaryOperation.TheVariants as binary
use Rattle.word86.specs.declared.place.Place.{Place}
use Rattle.word86.specs.declared.place.Place.TheVariants as place
use Rattle.word86.specs.Page.{page_begins}
use Rattle.i86_table.specs.declared.registers.Register16.{Register16}
use Rattle.i86_table.specs.declared.registers.Register16.TheVariants.{Ax, Bx, Cx, Dx, Bp, Sp}
use Rattle.i86_table.specs.declared.registers.Segment.{Segment}
use Rattle.i86_table.specs.declared.registers.Segment.TheVariants as segments
use Rattle.i86_table.specs.declared.instruction.Base.{Base}
use Rattle.i86_table.specs.declared.instruction.Base.TheVariants as bases
use Rattle.i86_table.specs.declared.instruction.RmOperand.{RmOperand}
use Rattle.i86_table.specs.declared.instruction.RmOperand.TheVariants as rm
use Rattle.i86_table.specs.declared.instruction.AluOperation.{AluOperation}
use Rattle.i86_table.specs.declared.instruction.AluOperation.TheVariants.{Add, Sub, Cmp}
use Rattle.i86_table.specs.declared.instruction.Operands.TheVariants.{FromMemory}
use Rattle.i86_table.specs.declared.instruction.UnaryOperation as change
use Rattle.i86_table.specs.declared.instruction.UnaryOperation.TheVariants as changes
use Rattle.i86_table.specs.declared.instruction.ShiftOperation.{ShiftOperation}
use Rattle.i86_table.specs.declared.instruction.ShiftOperation.TheVariants as shifts
use Rattle.i86_table.specs.declared.instruction.Count.{Count}
use Rattle.i86_table.specs.declared.instruction.Count.TheVariants as counts
use Rattle.i86_table.specs.declared.instruction.TestMask.TheVariants as masks
use Rattle.i86_table.specs.declared.instruction.Port.TheVariants as ports
use Rattle.i86_table.specs.declared.instruction.Instr.{Instr}
use Rattle.i86_table.specs.declared.instruction.Instr.TheVariants as i
use Rattle.i86_table.specs.declared.open.Use.TheVariants.{Operate}
use Rattle.i86_table.specs.declared.open.Open.{Open}
use Rattle.i86_table.specs.declared.open.Open.TheVariants as opens
use Rattle.i86_table.specs.Open.{closed, spot_memory}
use Rattle.i86_code.specs.declared.form.Fields.TheVariants as fields
use Rattle.i86_code.specs.declared.form.RegisterOrMemory.TheVariants.{Register, Indirect, Near, Far}
use Rattle.i86_table.specs.Numbers.{word_register_code}
use Rattle.i86_table.specs.Pairs.{word_pair, word_pair_by}
use Rattle.i86_code.specs.declared.form.Opcode.TheVariants as opcode
use Rattle.i86_code.specs.Forms.{place_bytes, form_bytes, word_bytes, operation_code}
use Rattle.i86_code.specs.Instructions.{is_short}
use Rattle.i86_code.specs.Open.{front_of, back_of}
use Rattle.i86_code.specs.Writing as writing
use Rattle.i86_code.specs.Writing.{is_ax, is_near, is_bp, based_form, with_byte, with_word, alu_byte_of, alu_word_of, move_byte_of, move_word_of, form_of, bytes_of}
use Rattle.icode.specs.declared.instruction.Instruction.{Instruction}
use Rattle.icode.specs.declared.instruction.Instruction.TheVariants as op
use Rattle.icode.specs.declared.instruction.LowByte.{LowByte}
use Rattle.icode.specs.declared.instruction.LowByte.TheVariants as lows
use Rattle.icode.specs.declared.instruction.High.{High}
use Rattle.icode.specs.declared.instruction.High.TheVariants as highs
use Rattle.icode.specs.declared.instruction.Right.{Right}
use Rattle.icode.specs.declared.instruction.Right.TheVariants as rights
use Rattle.icode.specs.declared.instruction.Relation.{Relation}
use Rattle.icode.specs.declared.instruction.Test.{Test}
use Rattle.icode.specs.declared.instruction.Test.TheVariants as test
use Rattle.icode.specs.declared.code.Routine.{Routine}
use Rattle.icode.specs.declared.code.Code.{Code}
use Rattle.icode.specs.declared.registers.Registers.{Registers}
use Rattle.icode.specs.Code.{code_of}
use Rattle.icode.specs.Registers.{is_direct}
use Rattle.icode.specs.Room as room
use Rattle.select.specs.declared.part.Part.{Part}
use Rattle.select.specs.declared.part.Step.{Step}
use Rattle.select.specs.declared.part.Step.TheVariants.{GotoIf}
use Rattle.select.specs.Parts.{extent_of}
use Rattle.select.specs.Inner.Settling.{longest}
use Rattle.select.specs.Rows.{stores_right, exchange, load_number, accumulator_gets, compares, alu, alu_number, sum_number, sum_with, increment, step_added, stays_in_range, again, load_count, shift_word, left_by, right_by, counted, exponent, by_number, by_turned, by_product, by_quotient, by_remainder, pop, narrow, then_narrow, narrow_right, core, direct, narrow_sum, by_constant, changed, from_stack, commutes, dropped, loads, loads_right, stores, on_place, operates, own_word, sent, received, plain, by_read, unless, registers_of, saved, given_back, finished, row, rows, first_of, routine, picked, push, copy, low_row, low_on, low_number, low_received, cleared, by_right, arithmetic, compares_byte, compares_word, tests_byte, spot}
use Rattle.select.specs.Selection.{IsPartOf, ArePartsOf, part_of}
use Rattle.select.specs.Room.{room_of, room_for, PartsHaveRoom}
use Rattle.select.proofs.Bounding.{part_bounded}
use Rattle.select.proofs.Saving.{few_registers}
use Rattle.select.proofs.Starts.{sum-cons}

-- ---- the bytes of steps, jumps counted long

abbrev room_of_step : Step → ℕ
room_of_step x = longest (extent_of x)

abbrev most : List Step → ℕ
most [] = 0
most (x ∷ xs) = room_of_step x + most xs

most_is : (xs : List Step) → sum (map room_of_step xs) ≡ most xs
most_is [] = refl
most_is (x ∷ xs) = sum-cons (room_of_step x) (map room_of_step xs) ∙ ap (λ n. room_of_step x + n) (most_is xs)

most-append : (xs ys : List Step) → most (xs ++ ys) ≡ most xs + most ys
most-append [] ys = omega arith
most-append (x ∷ xs) ys = omega (arith, most-append xs ys)

abbrev size : List Instr → ℕ
size [] = 0
size (n ∷ ns) = length (bytes_of n) + size ns

size-append : (ms ns : List Instr) → size (ms ++ ns) ≡ size ms + size ns
size-append [] ns = omega arith
size-append (m ∷ ms) ns = omega (arith, size-append ms ns)

plain_room : (ns : List Instr) → most (plain ns) ≡ size ns
plain_room [] = refl
plain_room (n ∷ ns) = ap (λ m. length (bytes_of n) + m) (plain_room ns)

-- ---- places

place_room : (r : ℕ) (b : Base) (d : ℕ) → length (place_bytes r (based_form b d)) ≤ 3
unfolding based_form
place_room r b d = cases (d == 0 && not (is_bp b)) (is_near d)
  where
    cases : (x y : Bool) → length (place_bytes r (if x then Indirect b else if y then Near b (d % 256) else Far b d)) ≤ 3
    cases true y = omega arith
    cases false true = omega arith
    cases false false = omega arith

-- a step on a place has at most this number of bytes, wherever that is
abbrev IsWithin : (Segment → Open) → ℕ → Type 0
IsWithin x n = (length (front_of (x segments.Ds)) + 2 + length (back_of (x segments.Ds)) ≤ n) × ((k : ℕ) → length (bytes_of (closed (x segments.Es) k)) ≤ n)

on_place_room : (x : Segment → Open) (n : ℕ) (p : Place) → IsWithin x n → room_of_step (on_place x p) ≤ n
on_place_room x n (place.Ram k m) h = h.0
on_place_room x n (place.Screen page m) h = h.1 ((page_begins page + m) % 65536)

locate_within : IsWithin (λ s. opens.Number Ax) 3
unfolding form_of move_word_of
locate_within = (omega arith, λ k. omega arith)

locate_at_within : IsWithin (λ s. opens.OperateAx Add) 3
unfolding form_of alu_word_of
locate_at_within = (omega arith, λ k. omega arith)

loads_within : (w : Width) → IsWithin (loads w None) 4
unfolding form_of move_word_of move_byte_of
loads_within widths.Byte = (omega arith, λ k. omega arith)
loads_within widths.Word = (omega arith, λ k. omega arith)

loads_at_within : (w : Width) → IsWithin (loads w (Some bases.Bx)) 5
unfolding form_of move_word_of move_byte_of
loads_at_within widths.Byte = (omega arith, λ k. omega (arith, place_room 0 bases.Bx k))
loads_at_within widths.Word = (omega arith, λ k. omega (arith, place_room 0 bases.Bx k))

loads_right_within : (w : Width) → IsWithin (loads_right w) 5
unfolding form_of move_word_of move_byte_of
loads_right_within widths.Byte = (omega arith, λ k. omega arith)
loads_right_within widths.Word = (omega arith, λ k. omega arith)

stores_right_within : (w : Width) → IsWithin (stores_right w) 5
unfolding form_of move_word_of move_byte_of
stores_right_within widths.Byte = (omega arith, λ k. omega arith)
stores_right_within widths.Word = (omega arith, λ k. omega arith)

stores_within : (w : Width) → IsWithin (stores w None) 4
unfolding form_of move_word_of move_byte_of
stores_within widths.Byte = (omega arith, λ k. omega arith)
stores_within widths.Word = (omega arith, λ k. omega arith)

stores_at_within : (w : Width) → IsWithin (stores w (Some bases.Bx)) 5
unfolding form_of move_word_of move_byte_of
stores_at_within widths.Byte = (omega arith, λ k. omega (arith, place_room 0 bases.Bx k))
stores_at_within widths.Word = (omega arith, λ k. omega (arith, place_room 0 bases.Bx k))

operates_within : (f : AluOperation) → IsWithin (operates f) 5
unfolding form_of alu_word_of
operates_within f = (omega arith, λ k. omega arith)

compares_byte_within : (k : ℕ) → IsWithin (compares_byte k) 6
unfolding form_of alu_byte_of
compares_byte_within k = (omega arith, λ n. omega arith)

-- a word has a byte in the instruction where its sign-extended byte will do
compares_word_within : (k : ℕ) → IsWithin (compares_word k) 7
unfolding form_of alu_word_of
compares_word_within k = (omega (arith, back (is_near k)), λ n. form n (is_near k))
  where
    back : (b : Bool) → length (if b then k % 256 ∷ [] else word_bytes k) ≤ 2
    back true = omega arith
    back false = omega arith

    place : ℕ → RmOperand Register16
    place n = rm.Memory (spot_memory (spot None segments.Es) n)

    form : (n : ℕ) (b : Bool) → length (form_bytes (if b then with_byte word_register_code opcode.AluShort (operation_code Cmp) (place n) (k % 256) else with_word (opcode.AluImmediate widths.Word) (operation_code Cmp) (place n) k)) ≤ 7
    form n true = omega arith
    form n false = omega arith

tests_byte_within : (mask : ℕ) → IsWithin (tests_byte mask) 6
unfolding form_of
tests_byte_within mask = (omega arith, λ n. omega arith)

-- ---- operators

width_room : (w : Width) → room.room_of_width w ≤ 2
width_room widths.Byte = omega arith
width_room widths.Word = omega arith

narrow_room : (w : Width) → size (narrow w) ≤ room.room_of_width w
unfolding form_of move_byte_of
narrow_room widths.Byte = omega arith
narrow_room widths.Word = omega arith

-- XCHG of AX and another register has one byte
exchange_room : (r : Register16) → is_ax r ≡ false → length (bytes_of (exchange r)) ≡ 1
unfolding form_of word_pair
exchange_room r other = by (leb_tells (word_register_code Ax) (word_register_code r))
  where
    by : (t : ((nat_le (word_register_code Ax) (word_register_code r) ≡ true) × (word_register_code Ax ≤ word_register_code r)) ⊎ ((nat_le (word_register_code Ax) (word_register_code r) ≡ false) × (word_register_code r < word_register_code Ax)))
        → (let p = word_pair_by Ax r t in
        length (form_bytes (if is_ax p.first && not (is_ax p.second) then writing.plain (opcode.ExchangeAccumulator p.second) fields.Nothing else writing.plain (opcode.Exchange widths.Word) (fields.Address (word_register_code p.first) (Register (word_register_code p.second)))))) ≡ 1
    by (inl in_order) = rw other refl
    by (inr turned) = absurd (omega (arith, turned.1))

core_room : (o : BinaryOperation) (w : Width) → size (core o w) ≤ room.room_of_operator o w
unfolding form_of alu_byte_of alu_word_of move_byte_of move_word_of
core_room binary.Multiply w = omega (arith, narrow_room w)
core_room binary.Divide w = omega arith
core_room binary.Modulo w = omega (arith, exchange_room Dx refl)
core_room binary.Add w = omega (arith, narrow_room w)
core_room binary.Subtract w = omega (arith, narrow_room w)
core_room binary.Equal w = omega arith
core_room binary.NotEqual w = omega arith
core_room binary.Less w = omega arith
core_room binary.LessEqual w = omega arith
core_room binary.Greater w = omega arith
core_room binary.GreaterEqual w = omega arith
core_room binary.And w = omega arith
core_room binary.Or w = omega arith
core_room binary.ExclusiveOr w = omega arith
core_room binary.ShiftLeft w = omega (arith, narrow_room w)
core_room binary.ShiftRight widths.Byte = omega arith
core_room binary.ShiftRight widths.Word = omega arith
core_room binary.RotateLeft widths.Byte = omega arith
core_room binary.RotateLeft widths.Word = omega arith
core_room binary.RotateRight widths.Byte = omega arith
core_room binary.RotateRight widths.Word = omega arith
core_room binary.DivideSigned w = omega arith
core_room binary.ModuloSigned w = omega (arith, exchange_room Dx refl)
core_room binary.LessSigned w = omega arith
core_room binary.LessEqualSigned w = omega arith
core_room binary.GreaterSigned w = omega arith
core_room binary.GreaterEqualSigned w = omega arith

-- what follows an operation on AX and a word at a place, which itself is three bytes longer than one on two registers
sum_room : (o : BinaryOperation) (w : Width) → size (narrow_sum o w) + 2 ≤ room.room_of_operator o w
sum_room binary.Multiply w = omega arith
sum_room binary.Divide w = omega arith
sum_room binary.Modulo w = omega arith
sum_room binary.Add w = omega (arith, narrow_room w)
sum_room binary.Subtract w = omega (arith, narrow_room w)
sum_room binary.Equal w = omega arith
sum_room binary.NotEqual w = omega arith
sum_room binary.Less w = omega arith
sum_room binary.LessEqual w = omega arith
sum_room binary.Greater w = omega arith
sum_room binary.GreaterEqual w = omega arith
sum_room binary.And w = omega arith
sum_room binary.Or w = omega arith
sum_room binary.ExclusiveOr w = omega arith
sum_room binary.ShiftLeft w = omega arith
sum_room binary.ShiftRight w = omega arith
sum_room binary.RotateLeft w = omega arith
sum_room binary.RotateRight w = omega arith
sum_room binary.DivideSigned w = omega arith
sum_room binary.ModuloSigned w = omega arith
sum_room binary.LessSigned w = omega arith
sum_room binary.LessEqualSigned w = omega arith
sum_room binary.GreaterSigned w = omega arith
sum_room binary.GreaterEqualSigned w = omega arith

-- ---- operators on AX and a constant

load_room : (k : ℕ) → length (bytes_of (load_number Cx k)) ≡ 3
unfolding form_of move_word_of
load_room k = refl

accumulator_room : (k : ℕ) → length (bytes_of (accumulator_gets k)) ≤ 3
unfolding form_of move_word_of alu_word_of
accumulator_room k = cases (nat_eq k 0)
  where
    cases : (b : Bool) → length (bytes_of (if b then alu Sub Ax Ax else load_number Ax k)) ≤ 3
    cases true = omega arith
    cases false = omega arith

compares_room : (k : ℕ) → length (bytes_of (compares k)) ≤ 3
unfolding form_of alu_word_of
compares_room k = cases (nat_eq k 0)
  where
    cases : (b : Bool) → length (bytes_of (if b then i.TestWord (rm.Register Ax) (masks.Register Ax) else alu_number Cmp Ax k)) ≤ 3
    cases true = omega arith
    cases false = omega arith

sum_with_room : (one : change.UnaryOperation) (f : AluOperation) (w : Width) (k : ℕ) → length (bytes_of (i.UnaryWord one (rm.Register Ax))) ≤ 3 → length (bytes_of (sum_with one f w k)) ≤ 3
unfolding form_of alu_word_of alu_byte_of
sum_with_room one f w k few = cases (nat_eq k 1) w
  where
    cases : (b : Bool) (w : Width) → length (bytes_of (if b then i.UnaryWord one (rm.Register Ax) else sum_number f w k)) ≤ 3
    cases true w = few
    cases false widths.Byte = omega arith
    cases false widths.Word = omega arith

count_room : (n : ℕ) → length (bytes_of (load_count n)) ≡ 2
unfolding form_of move_byte_of
count_room n = refl

shift_room : (f : ShiftOperation) (c : Count) → length (bytes_of (shift_word f c)) ≡ 2
unfolding form_of
shift_room f c = refl

left_room : (w : Width) (c : Count) → size (left_by w c) ≤ 2 + room.room_of_width w
left_room w c = omega (arith, shift_room shifts.Shl c, narrow_room w)

right_by_room : (w : Width) (c : Count) → size (right_by w c) ≤ 2 + room.room_of_width w
right_by_room w c = omega (arith, size-append (narrow w) (shift_word shifts.Shr c ∷ []), shift_room shifts.Shr c, narrow_room w)

counted_room : (n m : ℕ) (shift : Count → List Instr) → ((c : Count) → size (shift c) ≤ m) → size (counted n shift) ≤ 2 + m
counted_room n m shift few = cases (nat_eq n 1)
  where
    cases : (b : Bool) → size (if b then shift counts.One else load_count n ∷ shift counts.Cl) ≤ 2 + m
    cases true = omega (arith, few counts.One)
    cases false = omega (arith, count_room n, few counts.Cl)

number_room_of : (o : BinaryOperation) (w : Width) (k : ℕ) → size (by_number o w k) ≤ 3 + room.room_of_operator o w
number_room_of o w k = omega (arith, load_room k, core_room o w)

relation_room : (w : Width) → (size (core binary.Less w) ≤ 8) × (size (core binary.LessEqual w) ≤ 8) × (size (core binary.Greater w) ≤ 8) × (size (core binary.GreaterEqual w) ≤ 8)
unfolding form_of alu_byte_of alu_word_of move_byte_of
relation_room w = (omega arith, omega arith, omega arith, omega arith)

turned_room : (o : BinaryOperation) (w : Width) (k : ℕ) → size (core o w) ≤ 8 → size (by_turned o w k) ≤ 14
unfolding form_of alu_word_of
turned_room o w k few = omega (arith, load_room ((k + 32768) % 65536), few)

product_room : (w : Width) (k : ℕ) (e : Option ℕ) → size (by_product w k e) ≤ 3 + (2 + room.room_of_width w)
product_room w k None = number_room_of binary.Multiply w k
product_room w k (Some n) = omega (arith, counted_room n (2 + room.room_of_width w) (left_by w) (left_room w))

quotient_room : (w : Width) (k : ℕ) (e : Option ℕ) → size (by_quotient w k e) ≤ 8
quotient_room w k None = number_room_of binary.Divide w k
quotient_room w k (Some n) = omega (arith, counted_room n 2 (right_by widths.Word) (right_by_room widths.Word))

remainder_room : (w : Width) (k : ℕ) (e : Option ℕ) → size (by_remainder w k e) ≤ 9
unfolding form_of alu_word_of
remainder_room w k None = number_room_of binary.Modulo w k
remainder_room w k (Some n) = omega arith

by_constant_room : (o : BinaryOperation) (w : Width) (k : ℕ) → size (by_constant o w k) ≤ room.room_of_constant o w
unfolding form_of alu_word_of
by_constant_room binary.Add w k = omega (arith, sum_with_room changes.Inc Add w k (omega arith), narrow_room w)
by_constant_room binary.Subtract w k = omega (arith, sum_with_room changes.Dec Sub w k (omega arith), narrow_room w)
by_constant_room binary.And w k = omega arith
by_constant_room binary.Or w k = omega arith
by_constant_room binary.ExclusiveOr w k = omega arith
by_constant_room binary.Multiply w k = product_room w k (exponent k)
by_constant_room binary.Divide w k = quotient_room w k (exponent k)
by_constant_room binary.Modulo w k = remainder_room w k (exponent k)
by_constant_room binary.ShiftLeft w k = omega (arith, counted_room (k % 256) (2 + room.room_of_width w) (left_by w) (left_room w))
by_constant_room binary.ShiftRight w k = omega (arith, counted_room (k % 256) (2 + room.room_of_width w) (right_by w) (right_by_room w))
by_constant_room binary.RotateLeft w k = number_room_of binary.RotateLeft w k
by_constant_room binary.RotateRight w k = number_room_of binary.RotateRight w k
by_constant_room binary.Equal w k = number_room_of binary.Equal w k
by_constant_room binary.NotEqual w k = number_room_of binary.NotEqual w k
by_constant_room binary.Less w k = number_room_of binary.Less w k
by_constant_room binary.LessEqual w k = number_room_of binary.LessEqual w k
by_constant_room binary.Greater w k = number_room_of binary.Greater w k
by_constant_room binary.GreaterEqual w k = number_room_of binary.GreaterEqual w k
by_constant_room binary.DivideSigned w k = number_room_of binary.DivideSigned w k
by_constant_room binary.ModuloSigned w k = number_room_of binary.ModuloSigned w k
by_constant_room binary.LessSigned w k = omega (arith, turned_room binary.Less w k (relation_room w).0)
by_constant_room binary.LessEqualSigned w k = omega (arith, turned_room binary.LessEqual w k (relation_room w).1)
by_constant_room binary.GreaterSigned w k = omega (arith, turned_room binary.Greater w k (relation_room w).2)
by_constant_room binary.GreaterEqualSigned w k = omega (arith, turned_room binary.GreaterEqual w k (relation_room w).3)

from_stack_room : (b : Bool) → size (from_stack b) ≤ 2
unfolding form_of
from_stack_room true = omega arith
from_stack_room false = omega (arith, exchange_room Cx refl)

changed_room : (o : UnaryOperation) (w : Width) → size (changed o w) ≤ 4
unfolding form_of move_byte_of
changed_room unary.Plus w = omega arith
changed_room unary.Minus w = omega (arith, narrow_room w, width_room w)
changed_room unary.Not w = omega (arith, narrow_room w, width_room w)
changed_room unary.Low w = omega arith
changed_room unary.High w = omega arith
changed_room unary.Double w = omega arith

-- an operation on another register and a number
number_room : (f : AluOperation) (k : ℕ) → length (bytes_of (alu_number f Sp k)) ≤ 4
unfolding form_of alu_word_of
number_room f k = cases (is_short (operation_code f) && is_near k)
  where
    cases : (b : Bool) → length (form_bytes (if b then with_byte word_register_code opcode.AluShort (operation_code f) (rm.Register Sp) (k % 256) else with_word (opcode.AluImmediate widths.Word) (operation_code f) (rm.Register Sp) k)) ≤ 4
    cases true = omega arith
    cases false = omega arith

dropped_room : (n : ℕ) → length (bytes_of (dropped n)) ≤ 4
unfolding form_of
dropped_room n = cases (nat_eq n 0) (nat_eq n 1)
  where
    cases : (x y : Bool) → length (bytes_of (if x then i.Nop else if y then pop Cx else alu_number Add Sp (2 * n % 65536))) ≤ 4
    cases true y = omega arith
    cases false true = omega arith
    cases false false = number_room Add (2 * n % 65536)

sent_room : (w : Width) (port : ℕ) → size (sent w port) ≤ 4
unfolding form_of move_word_of
sent_room w port = cases (nat_le 256 port)
  where
    cases : (b : Bool) → size (if b then load_number Dx port ∷ i.Out w ports.Dx ∷ [] else i.Out w (ports.Fixed port) ∷ []) ≤ 4
    cases true = omega arith
    cases false = omega arith

received_room : (w : Width) (port : ℕ) → size (received w port) ≤ 4 + room.room_of_width w
unfolding form_of move_word_of
received_room w port = cases (nat_le 256 port)
  where
    cases : (b : Bool) → size (if b then load_number Dx port ∷ then_narrow w (i.In w ports.Dx) else then_narrow w (i.In w (ports.Fixed port))) ≤ 4 + room.room_of_width w
    cases true = omega (arith, narrow_room w)
    cases false = omega (arith, narrow_room w)

right_room : (w : Width) → size (narrow_right w) ≤ 2
unfolding form_of move_byte_of
right_room widths.Byte = omega arith
right_room widths.Word = omega arith

by_read_room : (o : BinaryOperation) (w read : Width) (x : Place) → most (by_read o w read x) ≤ room.room_of_read read o w
by_read_room o w widths.Byte x =
    omega (arith, on_place_room (loads_right widths.Byte) 5 x (loads_right_within widths.Byte), plain_room (narrow_right widths.Byte ++ core o w), size-append (narrow_right widths.Byte) (core o w), right_room widths.Byte, core_room o w)
by_read_room o w widths.Word x = cases (is_direct o)
  where
    cases : (b : Bool) → most (if b then on_place (operates (direct o)) x ∷ plain (narrow_sum o w) else on_place (loads_right widths.Word) x ∷ plain (core o w)) ≤ (if b then 3 else 5) + room.room_of_operator o w
    cases true = omega (arith, on_place_room (operates (direct o)) 5 x (operates_within (direct o)), plain_room (narrow_sum o w), sum_room o w)
    cases false = omega (arith, on_place_room (loads_right widths.Word) 5 x (loads_right_within widths.Word), plain_room (core o w), core_room o w)

-- ---- low bytes

low_on_within : (f : AluOperation) → IsWithin (low_on (Operate f)) 5
unfolding form_of alu_byte_of
low_on_within f = (omega arith, λ k. omega arith)

cleared_room : (h : High) → size (cleared h) ≤ room.room_of_high h
unfolding form_of move_byte_of
cleared_room highs.Kept = omega arith
cleared_room highs.Cleared = omega arith

low_number_room : (f : AluOperation) (k : ℕ) → length (bytes_of (low_number f k)) ≤ 2
unfolding form_of alu_byte_of
low_number_room f k = omega arith

by_right_room : (f : AluOperation) (x : Right) (ns : List Instr) → most (by_right f x ns) ≤ room.room_of_right x + size ns
unfolding form_of alu_byte_of
by_right_room f (rights.Constant k) ns = omega (arith, plain_room ns, low_number_room f k)
by_right_room f (rights.Plain x) ns = omega (arith, on_place_room (low_on (Operate f)) 5 x (low_on_within f), plain_room ns)
by_right_room f rights.Top ns = omega (arith, exchange_room Cx refl, plain_room ns)

low_received_room : (port : ℕ) (ns : List Instr) → size (low_received port ns) ≤ 4 + size ns
unfolding form_of move_word_of
low_received_room port ns = cases (nat_le 256 port)
  where
    cases : (b : Bool) → size (if b then load_number Dx port ∷ i.In widths.Byte ports.Dx ∷ ns else i.In widths.Byte (ports.Fixed port) ∷ ns) ≤ 4 + size ns
    cases true = omega arith
    cases false = omega arith

low_row_room : (low : LowByte) (ns : List Instr) → most (low_row low ns) ≤ room.room_of_low low + size ns
unfolding form_of move_byte_of move_word_of based_form
low_row_room (lows.Constant k) ns = omega (arith, plain_room ns)
low_row_room (lows.Load x) ns = omega (arith, on_place_room (loads widths.Byte None) 4 x (loads_within widths.Byte), plain_room ns)
low_row_room (lows.LoadAt x) ns = omega (arith, on_place_room (loads widths.Byte (Some bases.Bx)) 5 x (loads_at_within widths.Byte), plain_room ns)
low_row_room lows.LoadThere ns = omega (arith, plain_room ns)
low_row_room lows.Receive ns = omega (arith, plain_room ns)
low_row_room (lows.ReceiveFrom port) ns = omega (arith, plain_room (low_received port ns), low_received_room port ns)
low_row_room lows.High ns = omega (arith, plain_room ns)
low_row_room (lows.Operate o x) ns = by_right_room (arithmetic o) x ns

byte_top_room : (o : Relation) (target : ℕ) → most (unless (test.Low o rights.Top) target) ≤ 9
unfolding form_of alu_byte_of
byte_top_room o target = omega arith

unless_room : (t : Test) (target : ℕ) → most (unless t target) ≤ room.room_of_test t
unfolding form_of alu_word_of move_byte_of
unless_room test.Odd target = omega arith
unless_room (test.Constant o k) target = omega (arith, compares_room k)
unless_room (test.Plain o widths.Byte x) target = omega (arith, on_place_room (loads_right widths.Byte) 5 x (loads_right_within widths.Byte))
unless_room (test.Plain o widths.Word x) target = omega (arith, on_place_room (operates Cmp) 5 x (operates_within Cmp))
unless_room (test.Top o) target = omega arith
unless_room (test.Low o (rights.Constant k)) target = omega (arith, low_number_room Cmp k)
unless_room (test.Low o (rights.Plain x)) target = omega (arith, on_place_room (low_on (Operate Cmp)) 5 x (low_on_within Cmp))
unless_room (test.Low o rights.Top) target = byte_top_room o target
unless_room (test.Named o widths.Byte x k) target = omega (arith, on_place_room (compares_byte k) 6 x (compares_byte_within k))
unless_room (test.Named o widths.Word x k) target = omega (arith, on_place_room (compares_word k) 7 x (compares_word_within k))
unless_room (test.OddNamed x) target = omega (arith, on_place_room (tests_byte 1) 6 x (tests_byte_within 1))

step_room : (w : Width) (k : ℕ) → length (bytes_of (step_added w k)) ≤ 3
unfolding form_of alu_word_of alu_byte_of
step_room w k = cases (nat_eq k 1) w
  where
    cases : (b : Bool) (w : Width) → length (bytes_of (if b then increment w else sum_number Add w k)) ≤ 3
    cases true widths.Byte = omega arith
    cases true widths.Word = omega arith
    cases false widths.Byte = omega arith
    cases false widths.Word = omega arith

again_room : (w : Width) (k target : ℕ) → most (again w k target) ≤ 5
again_room widths.Byte k target = cases (nat_le 256 k)
  where
    cases : (b : Bool) → most (if b then [] else GotoIf (stays_in_range k) target ∷ []) ≤ 5
    cases true = omega arith
    cases false = omega arith
again_room widths.Word k target = omega arith

-- ---- registers

saved_room : (rs : List Register16) → size (saved rs) ≡ length rs
unfolding form_of
saved_room [] = refl
saved_room (r ∷ rs) = omega (arith, saved_room rs)

given_back_room : (rs : List Register16) → size (given_back rs) ≡ length rs
unfolding form_of
given_back_room [] = refl
given_back_room (r ∷ rs) = omega (arith, size-append (given_back rs) (pop r ∷ []), given_back_room rs)

finished_room : (saves : Registers) → most (finished saves) ≤ 6
unfolding form_of
finished_room saves =
    let rs = registers_of saves in
    omega (arith, plain_room (given_back rs ++ i.InterruptReturn ∷ []), size-append (given_back rs) (i.InterruptReturn ∷ []), given_back_room rs, few_registers saves)

-- ---- rows

from_own : (n : ℕ) → length (bytes_of (i.MoveWord (FromMemory Ax (own_word n)))) ≤ 4
unfolding form_of move_word_of
from_own n = omega (arith, place_room 0 bases.Bp (2 * n % 65536))

picked_room : (n : ℕ) → size (picked n) ≤ 6
unfolding form_of move_word_of
picked_room n = cases (nat_eq n 0)
  where
    cases : (b : Bool) → size (if b then pop Ax ∷ push Ax ∷ [] else copy Bp Sp ∷ i.MoveWord (FromMemory Ax (own_word n)) ∷ []) ≤ 6
    cases true = omega arith
    cases false = omega (arith, from_own n)

module _ (first : ℕ → ℕ) (part : ℕ → ℕ) (saves : Registers) where
  row_room : (p : ℕ) (x : Instruction) → most (row first part saves p x) ≤ room.room_of x
  unfolding form_of alu_word_of move_byte_of move_word_of based_form
  row_room p (op.Constant k) = omega (arith, accumulator_room k)
  row_room p (op.Locate x) = omega (arith, on_place_room (λ s. opens.Number Ax) 3 x locate_within)
  row_room p (op.LocateAt x) = omega (arith, on_place_room (λ s. opens.OperateAx Add) 3 x locate_at_within)
  row_room p (op.Load width x) = omega (arith, on_place_room (loads width None) 4 x (loads_within width), plain_room (narrow width), narrow_room width)
  row_room p (op.LoadAt width x) = omega (arith, exchange_room Bx refl, on_place_room (loads width (Some bases.Bx)) 5 x (loads_at_within width), plain_room (narrow width), narrow_room width)
  row_room p (op.LoadThere widths.Byte) = omega (arith, exchange_room Bx refl)
  row_room p (op.LoadThere widths.Word) = omega (arith, exchange_room Bx refl)
  row_room p (op.Low low high) = omega (arith, low_row_room low (cleared high), cleared_room high)
  row_room p op.Push = omega arith
  row_room p (op.Pick n) = omega (arith, plain_room (picked n), picked_room n)
  row_room p (op.Drop n) = omega (arith, dropped_room n)
  row_room p (op.Unary o width) = omega (arith, plain_room (changed o width), changed_room o width)
  row_room p (op.Binary o width) = omega (arith, plain_room (from_stack (commutes o) ++ core o width), size-append (from_stack (commutes o)) (core o width), from_stack_room (commutes o), core_room o width)
  row_room p (op.BinaryConstant o width k) = omega (arith, plain_room (by_constant o width k), by_constant_room o width k)
  row_room p (op.BinaryPlain o width read x) = by_read_room o width read x
  row_room p (op.Store width x) = omega (arith, on_place_room (stores width None) 4 x (stores_within width))
  row_room p (op.StoreAt width x) = omega (arith, exchange_room Bx refl, on_place_room (stores width (Some bases.Bx)) 5 x (stores_at_within width))
  row_room p (op.StoreThere widths.Byte) = omega (arith, exchange_room Bx refl)
  row_room p (op.StoreThere widths.Word) = omega (arith, exchange_room Bx refl)
  row_room p (op.StoreTop width x) = omega (arith, on_place_room (stores_right width) 5 x (stores_right_within width))
  row_room p (op.StoreConstantAt width x k) = omega (arith, exchange_room Bx refl, accumulator_room k, on_place_room (stores width (Some bases.Bx)) 5 x (stores_at_within width))
  row_room p (op.Send width) = omega (arith, exchange_room Dx refl)
  row_room p (op.SendTo width port) = omega (arith, plain_room (sent width port), sent_room width port)
  row_room p (op.Receive width) = omega (arith, exchange_room Dx refl, plain_room (narrow width), narrow_room width)
  row_room p (op.ReceiveFrom width port) = omega (arith, plain_room (received width port), received_room width port)
  row_room p (op.Ahead n) = omega arith
  row_room p (op.AheadUnless t n) = unless_room t (first (p + n))
  row_room p (op.Back n) = omega arith
  row_room p (op.BackUnless t n) = unless_room t (first (p - n))
  row_room p (op.Next width x k n) = omega (arith, step_room width k, on_place_room (stores width None) 4 x (stores_within width), again_room width k (first (p - n)))
  row_room p (op.Switch n) = omega arith
  row_room p (op.Case n) = omega arith
  row_room p (op.Invoke q) = omega arith
  row_room p op.Leave = omega arith
  row_room p op.Enable = omega arith
  row_room p op.Disable = omega arith
  row_room p op.Halt = omega arith
  row_room p op.Finish = finished_room saves

  rows_room : (k : ℕ) (xs : List Instruction) → most (rows first part saves k xs) ≤ room.room_in xs
  rows_room k [] = omega arith
  rows_room k (x ∷ xs) = omega (arith, most-append (row first part saves (k + 1) x) (rows first part saves (k + 1) xs), row_room (k + 1) x, rows_room (k + 1) xs)

routine_room : (part : ℕ → ℕ) (saves : Registers) (code : List Instruction) → most (routine part saves code) ≤ room.room_in code + 5
routine_room part saves code =
    let rs = registers_of saves in
    let xs = rows (first_of saves code) part saves 0 code in
    omega (arith, most-append (plain (saved rs)) xs, plain_room (saved rs), saved_room rs, few_registers saves, rows_room (first_of saves code) part saves 0 code)

-- ---- parts

module _ (c : Code) (saves : Routine → Registers) where
  one : (own : ℕ) (r : Routine) (p : Part) → IsPartOf c saves own r p → length p.bytes.items ≤ room_of c r
  one own r p is =
      let steps = routine (part_of c) (saves r) (code_of c r) in
      omega (arith, part_bounded own steps p.bytes.items p.fixups.items is.is_part, most_is steps, routine_room (part_of c) (saves r) (code_of c r))

  all : (own : ℕ) (rs : List Routine) (ps : List Part) → ArePartsOf c saves own rs ps → sum_by (λ p. length p.bytes.items) ps ≤ room_for c rs
  all own [] [] h = omega arith
  all own [] (p ∷ ps) h = absurd h
  all own (r ∷ rs) [] h = absurd h
  all own (r ∷ rs) (p ∷ ps) h = omega (arith, sum_by-cons (λ (x : Part). length x.bytes.items) p ps, one own r p h.0, all (own + 1) rs ps h.1)

pub have_room : PartsHaveRoom
have_room c saves own = (one c saves own, all c saves own)

-- The operators on AX and CX.
use Rattle.std.proofs.Common.{◌≡◌, ℕ, zero, suc, ◌+◌, ◌-◌, ◌*◌, ◌/◌, ◌%◌, ◌^◌, ◌<◌, ◌≤◌, ◌⊎◌, inl, inr, Bool, true, false, List, [], ◌∷◌, length, Option, Some, None, refl, sym, ap, ◌∙◌, subst, arith}
use Rattle.std.specs.Prelude.{cond, not, ◌==◌, if◌then◌else◌, nat_eq, nat_lt, nat_le, int_div, int_rem}
use Rattle.std.specs.Int.RustNames.{bit_and, bit_or, bit_xor}
use Rattle.std.proofs.lemmas.Bool.{cases_lt, lt-ltb, le-ltb, lt-leb, eq-eqb, ne_eqb, eqb-true}
use Rattle.std.proofs.Math.Nat.{div-le_self, mod-le}
use Rattle.std.proofs.lemmas.Nat.{and_le_l, and_mask, or_of_16, xor_of_16}
use Rattle.word86.specs.declared.width.Width.{Width}
use Rattle.word86.specs.declared.width.Width.TheVariants as widths
use Rattle.word86.specs.declared.operation.BinaryOperation.{BinaryOperation}
use Rattle.word86.specs.declared.operation.BinaryOperation.TheVariants as binary
use Rattle.word86.specs.declared.operation.UnaryOperation.{UnaryOperation}
use Rattle.word86.specs.declared.operation.UnaryOperation.TheVariants as unary
use Rattle.word86.specs.Arithmetic.{low, rotated, rotated_left, rotated_right}
use Rattle.word86.specs.Operation.{truth, quotient, remainder, unary_value, binary_value}
use Rattle.word86.specs.Signed.{signed, signed_word, has_quotient, signed_quotient, signed_remainder, signed_less}
use Rattle.word86.specs.Action.{Silent}
use Rattle.word86.specs.Following.{Does}
use Rattle.i86_table.specs.declared.registers.Register16.{Register16}
use Rattle.i86_table.specs.declared.registers.Register16.TheVariants.{Ax, Cx, Dx}
use Rattle.i86_table.specs.declared.registers.Register8.TheVariants.{Al, Ah, Cl}
use Rattle.i86_table.specs.declared.instruction.AluOperation.TheVariants.{Add, Sub, Sbb, And, Or, Xor, Cmp}
use Rattle.i86_table.specs.declared.instruction.UnaryOperation.TheVariants as changes
use Rattle.i86_table.specs.declared.instruction.ShiftOperation.{ShiftOperation}
use Rattle.i86_table.specs.declared.instruction.ShiftOperation.TheVariants as shifts
use Rattle.i86_table.specs.declared.instruction.Signedness.TheVariants.{Unsigned, Signed}
use Rattle.i86_table.specs.declared.instruction.Count.{Count}
use Rattle.i86_table.specs.declared.instruction.Count.TheVariants as counts
use Rattle.i86_table.specs.declared.instruction.RmOperand.TheVariants as rm
use Rattle.i86_table.specs.declared.instruction.Operands.TheVariants.{FromRegister, Immediate}
use Rattle.i86_table.specs.declared.instruction.Instr.{Instr}
use Rattle.i86_table.specs.declared.instruction.Instr.TheVariants as i
use Rattle.i86_table.specs.declared.flags.Flags.{Flags}
use Rattle.i86_table.specs.declared.outcome.Division.{Division}
use Rattle.i86_table.specs.Arithmetic.{operated, added, subtracted, combined, changed, shifted, multiplied, divided, is_carry, number_of, sign_word}
use Rattle.i86_table.specs.Contexts.{Own, Working, Given, offered, divides, word_quotient, word_product, alu_word, alu_byte, count_in, is_sp, word_in, exchanged, unless, silently, set_byte, set_word, set_flags, word_result, byte_result}
use Rattle.select.specs.Rows.{sign_turned, by_turned, core, narrow, then_narrow, from_carry, from_no_carry, clear_high, load_number, accumulator_gets, exchange, alu, alu_number, shift_word, shift_byte, left_by, right_by, direct, narrow_sum, sum_number, sum_with, load_count, counted, exponent, by_number, by_product, by_quotient, by_remainder, by_constant}
use Rattle.i86_table.specs.Numbers.{word_register_code}
use Rattle.i86_table.specs.Pairs.{word_pair}
use Rattle.select.specs.Rows as rows
use Rattle.select.proofs.Straight.{with_each, Straight, also}
use Rattle.icode.specs.declared.registers.Registers.{Registers}
use Rattle.icode.specs.Registers.{none, just_accumulator, is_direct, of_direct, joined, of_operator}
use Rattle.select.proofs.Rests.{Laws}
use Rattle.select.proofs.Keeping.{Same, OnlyChanges, changes_then, changes_wider, same_refl}
use Rattle.select.proofs.Flags
use Rattle.select.proofs.Flags.{flipped_le}

-- products and quotients have a high half
abbrev pub with_high : Registers
with_high = record none { accumulator = true; high = true }

-- a count may be in CL, a sign bit be turned in CX
abbrev pub with_right : Registers
with_right = record none { accumulator = true; right = true }

abbrev pub core_changes : BinaryOperation → Registers
core_changes binary.Multiply = with_high
core_changes binary.Divide = with_high
core_changes binary.Modulo = with_high
core_changes binary.DivideSigned = with_high
core_changes binary.ModuloSigned = with_high
core_changes binary.LessSigned = with_right
core_changes binary.LessEqualSigned = with_right
core_changes binary.GreaterSigned = with_right
core_changes binary.GreaterEqualSigned = with_right
core_changes _ = just_accumulator

pub core_within : (o : BinaryOperation) → joined (of_operator o) (core_changes o) ≡ of_operator o
core_within binary.Multiply = refl
core_within binary.Divide = refl
core_within binary.Modulo = refl
core_within binary.Add = refl
core_within binary.Subtract = refl
core_within binary.Equal = refl
core_within binary.NotEqual = refl
core_within binary.Less = refl
core_within binary.LessEqual = refl
core_within binary.Greater = refl
core_within binary.GreaterEqual = refl
core_within binary.And = refl
core_within binary.Or = refl
core_within binary.ExclusiveOr = refl
core_within binary.ShiftLeft = refl
core_within binary.ShiftRight = refl
core_within binary.RotateLeft = refl
core_within binary.RotateRight = refl
core_within binary.DivideSigned = refl
core_within binary.ModuloSigned = refl
core_within binary.LessSigned = refl
core_within binary.LessEqualSigned = refl
core_within binary.GreaterSigned = refl
core_within binary.GreaterEqualSigned = refl

pub operator_changes : (o : BinaryOperation) → ((of_operator o).accumulator ≡ true) × ((of_operator o).right ≡ true)
operator_changes binary.Multiply = (refl, refl)
operator_changes binary.Divide = (refl, refl)
operator_changes binary.Modulo = (refl, refl)
operator_changes binary.Add = (refl, refl)
operator_changes binary.Subtract = (refl, refl)
operator_changes binary.Equal = (refl, refl)
operator_changes binary.NotEqual = (refl, refl)
operator_changes binary.Less = (refl, refl)
operator_changes binary.LessEqual = (refl, refl)
operator_changes binary.Greater = (refl, refl)
operator_changes binary.GreaterEqual = (refl, refl)
operator_changes binary.And = (refl, refl)
operator_changes binary.Or = (refl, refl)
operator_changes binary.ExclusiveOr = (refl, refl)
operator_changes binary.ShiftLeft = (refl, refl)
operator_changes binary.ShiftRight = (refl, refl)
operator_changes binary.RotateLeft = (refl, refl)
operator_changes binary.RotateRight = (refl, refl)
operator_changes binary.DivideSigned = (refl, refl)
operator_changes binary.ModuloSigned = (refl, refl)
operator_changes binary.LessSigned = (refl, refl)
operator_changes binary.LessEqualSigned = (refl, refl)
operator_changes binary.GreaterSigned = (refl, refl)
operator_changes binary.GreaterEqualSigned = (refl, refl)

same_as : (b : Bool) (u v : ℕ) → v ≡ u → Same b u v
same_as true u v q = tt
same_as false u v q = q

-- operands were put in their registers
pub operands_put : (o : BinaryOperation) (g h : Working) → h.dx ≡ g.dx → h.bx ≡ g.bx → h.bp ≡ g.bp → h.si ≡ g.si → h.di ≡ g.di → OnlyChanges (of_operator o) g h
operands_put o g h d b f s t =
    let c = operator_changes o in (
      subst (λ (z : Bool). Same z g.ax h.ax) (sym c.0) tt,
      subst (λ (z : Bool). Same z g.cx h.cx) (sym c.1) tt,
      same_as (of_operator o).high g.dx h.dx d,
      same_as (of_operator o).address g.bx h.bx b,
      same_as (of_operator o).frame g.bp h.bp f,
      s,
      t,
    )

-- ---- numbers

pub low_low : (width : Width) (m : ℕ) → low width (m % 65536) ≡ low width m
low_low widths.Byte m = omega arith
low_low widths.Word m = omega arith

-- a difference is below one exactly where nothing differs
no_difference : (x y : ℕ) → x < 65536 → y < 65536 → nat_lt ((x + 65536 - (y + 0)) % 65536) (1 + 0) ≡ nat_eq x y
no_difference x y a b = by (cases_lt x y) (cases_lt y x)
  where
    by : (x < y) ⊎ (y ≤ x) → (y < x) ⊎ (x ≤ y) → nat_lt ((x + 65536 - (y + 0)) % 65536) (1 + 0) ≡ nat_eq x y
    by (inl l) m = le-ltb _ (1 + 0) (omega (arith, l, a, b)) ∙ sym (ne_eqb x y (λ e. omega (arith, l, e)))
    by (inr l) (inl m) = le-ltb _ (1 + 0) (omega (arith, m, a, b)) ∙ sym (ne_eqb x y (λ e. omega (arith, m, e)))
    by (inr l) (inr m) = lt-ltb _ (1 + 0) (omega (arith, l, m, a, b)) ∙ sym (eq-eqb x y (omega (arith, l, m)))

truth_small : (b : Bool) → truth b < 65536
truth_small true = omega arith
truth_small false = omega arith

quotients : (x y : ℕ) → x < 65536 → divided Unsigned widths.Word (0 * 65536 + x) (suc y) ≡ Some (record { quotient = x / suc y; remainder = x % suc y })
unfolding divided
quotients x y a =
    let e : 0 * 65536 + x ≡ x = omega arith in
    let none : (suc y == 0) ≡ false = ne_eqb (suc y) 0 (λ z. omega (arith, z)) in
    let fits : nat_le 65536 (x / suc y) ≡ false = lt-leb 65536 (x / suc y) (omega (arith, a, div-le_self x (suc y))) in
    ap (λ z. divided Unsigned widths.Word z (suc y)) e ∙ ap (λ (b : Bool). if b then None else if nat_le 65536 (x / suc y) then None else Some (record { quotient = x / suc y; remainder = x % suc y })) none
    ∙ ap (λ (b : Bool). if b then None else Some (record { quotient = x / suc y; remainder = x % suc y })) fits

-- ---- powers of two

-- a power of two, whose exponent is a byte
abbrev IsPower : (k n : ℕ) → Type 0
IsPower k n = (m : ℕ) × (k ≡ suc m) × (2 ^ n ≡ k) × (n < 256)

abbrev pub or_zero : Option ℕ → ℕ
or_zero (Some n) = n
or_zero None = 0

exponent_is : (k n : ℕ) → exponent k ≡ Some n → IsPower k n
exponent_is k n e = by (nat_eq k 2) (nat_eq k 4) (nat_eq k 8) (nat_eq k 16) refl refl refl refl e
  where
    power : (m c : ℕ) → nat_eq k (suc m) ≡ true → Some c ≡ Some n → 2 ^ c ≡ suc m → c < 256 → IsPower k n
    power m c is some p l =
        let n_is : c ≡ n = ap or_zero some in
        let k_is : k ≡ suc m = eqb-true k (suc m) is in
        (m, k_is, ap (λ z. 2 ^ z) (sym n_is) ∙ p ∙ sym k_is, omega (arith, n_is, l))

    by : (b2 b4 b8 b16 : Bool) → nat_eq k 2 ≡ b2 → nat_eq k 4 ≡ b4 → nat_eq k 8 ≡ b8 → nat_eq k 16 ≡ b16
        → (if b2 then Some 1 else if b4 then Some 2 else if b8 then Some 3 else if b16 then Some 4 else None) ≡ Some n → IsPower k n
    by true b4 b8 b16 e2 e4 e8 e16 e = power 1 1 e2 e refl (omega arith)
    by false true b8 b16 e2 e4 e8 e16 e = power 3 2 e4 e refl (omega arith)
    by false false true b16 e2 e4 e8 e16 e = power 7 3 e8 e refl (omega arith)
    by false false false true e2 e4 e8 e16 e = power 15 4 e16 e refl (omega arith)
    by false false false false e2 e4 e8 e16 e = absurd (cc)

-- the pace
pub short : (o : BinaryOperation) (width : Width) → with_each (core o width) 8 ≤ 14
short binary.Multiply widths.Byte = omega arith
short binary.Multiply widths.Word = omega arith
short binary.Divide width = omega arith
short binary.Modulo width = omega arith
short binary.Add widths.Byte = omega arith
short binary.Add widths.Word = omega arith
short binary.Subtract widths.Byte = omega arith
short binary.Subtract widths.Word = omega arith
short binary.Equal width = omega arith
short binary.NotEqual width = omega arith
short binary.Less width = omega arith
short binary.LessEqual width = omega arith
short binary.Greater width = omega arith
short binary.GreaterEqual width = omega arith
short binary.And width = omega arith
short binary.Or width = omega arith
short binary.ExclusiveOr width = omega arith
short binary.ShiftLeft widths.Byte = omega arith
short binary.ShiftLeft widths.Word = omega arith
short binary.ShiftRight widths.Byte = omega arith
short binary.ShiftRight widths.Word = omega arith
short binary.RotateLeft widths.Byte = omega arith
short binary.RotateLeft widths.Word = omega arith
short binary.RotateRight widths.Byte = omega arith
short binary.RotateRight widths.Word = omega arith
short binary.DivideSigned width = omega arith
short binary.ModuloSigned width = omega arith
short binary.LessSigned width = omega arith
short binary.LessEqualSigned width = omega arith
short binary.GreaterSigned width = omega arith
short binary.GreaterEqualSigned width = omega arith

counted_pace : (n : ℕ) (shift : Count → List Instr) → with_each (shift counts.One) 8 ≤ 19 → with_each (shift counts.Cl) 8 ≤ 19 → with_each (counted n shift) 8 ≤ 20
counted_pace n shift one many = by (nat_eq n 1)
  where
    by : (b : Bool) → with_each (if b then shift counts.One else load_count n ∷ shift counts.Cl) 8 ≤ 20
    by true = omega (arith, one)
    by false = omega (arith, many)

left_pace : (width : Width) (n : ℕ) → with_each (counted n (left_by width)) 8 ≤ 20
left_pace widths.Byte n = counted_pace n (left_by widths.Byte) (omega arith) (omega arith)
left_pace widths.Word n = counted_pace n (left_by widths.Word) (omega arith) (omega arith)

right_pace : (width : Width) (n : ℕ) → with_each (counted n (right_by width)) 8 ≤ 20
right_pace widths.Byte n = counted_pace n (right_by widths.Byte) (omega arith) (omega arith)
right_pace widths.Word n = counted_pace n (right_by widths.Word) (omega arith) (omega arith)

number_pace : (o : BinaryOperation) (width : Width) (k : ℕ) → with_each (by_number o width k) 8 ≤ 20
number_pace o width k = omega (arith, short o width)

product_pace : (width : Width) (k : ℕ) (e : Option ℕ) → with_each (by_product width k e) 8 ≤ 20
product_pace width k None = number_pace binary.Multiply width k
product_pace width k (Some n) = left_pace width n

quotient_pace : (width : Width) (k : ℕ) (e : Option ℕ) → with_each (by_quotient width k e) 8 ≤ 20
quotient_pace width k None = number_pace binary.Divide width k
quotient_pace width k (Some n) = right_pace widths.Word n

remainder_pace : (width : Width) (k : ℕ) (e : Option ℕ) → with_each (by_remainder width k e) 8 ≤ 20
remainder_pace width k None = number_pace binary.Modulo width k
remainder_pace width k (Some n) = omega arith

counted_some : (n : ℕ) (shift : Count → List Instr) → 0 < length (shift counts.One) → 0 < length (counted n shift)
counted_some n shift one = by (nat_eq n 1)
  where
    by : (b : Bool) → 0 < length (if b then shift counts.One else load_count n ∷ shift counts.Cl)
    by true = one
    by false = omega arith

left_some : (width : Width) (n : ℕ) → 0 < length (counted n (left_by width))
left_some width n = counted_some n (left_by width) (omega arith)

right_some : (width : Width) (n : ℕ) → 0 < length (counted n (right_by width))
right_some widths.Byte n = counted_some n (right_by widths.Byte) (omega arith)
right_some widths.Word n = counted_some n (right_by widths.Word) (omega arith)

product_some : (width : Width) (k : ℕ) (e : Option ℕ) → 0 < length (by_product width k e)
product_some width k None = omega arith
product_some width k (Some n) = left_some width n

quotient_some : (width : Width) (k : ℕ) (e : Option ℕ) → 0 < length (by_quotient width k e)
quotient_some width k None = omega arith
quotient_some width k (Some n) = right_some widths.Word n

remainder_some : (width : Width) (k : ℕ) (e : Option ℕ) → 0 < length (by_remainder width k e)
remainder_some width k None = omega arith
remainder_some width k (Some n) = omega arith

-- there is an instruction for each operator
pub some_constant : (o : BinaryOperation) (width : Width) (k : ℕ) → 0 < length (by_constant o width k)
some_constant binary.Multiply width k = product_some width k (exponent k)
some_constant binary.Divide width k = quotient_some width k (exponent k)
some_constant binary.Modulo width k = remainder_some width k (exponent k)
some_constant binary.ShiftLeft width k = left_some width (k % 256)
some_constant binary.ShiftRight width k = right_some width (k % 256)
some_constant _ width k = omega arith

pub constant_pace : (o : BinaryOperation) (width : Width) (k : ℕ) → with_each (by_constant o width k) 8 ≤ 20
constant_pace binary.Add widths.Byte k = omega arith
constant_pace binary.Add widths.Word k = omega arith
constant_pace binary.Subtract widths.Byte k = omega arith
constant_pace binary.Subtract widths.Word k = omega arith
constant_pace binary.And width k = omega arith
constant_pace binary.Or width k = omega arith
constant_pace binary.ExclusiveOr width k = omega arith
constant_pace binary.Multiply width k = product_pace width k (exponent k)
constant_pace binary.Divide width k = quotient_pace width k (exponent k)
constant_pace binary.Modulo width k = remainder_pace width k (exponent k)
constant_pace binary.ShiftLeft width k = left_pace width (k % 256)
constant_pace binary.ShiftRight width k = right_pace width (k % 256)
constant_pace binary.RotateLeft width k = number_pace binary.RotateLeft width k
constant_pace binary.RotateRight width k = number_pace binary.RotateRight width k
constant_pace binary.Equal width k = number_pace binary.Equal width k
constant_pace binary.NotEqual width k = number_pace binary.NotEqual width k
constant_pace binary.Less width k = number_pace binary.Less width k
constant_pace binary.LessEqual width k = number_pace binary.LessEqual width k
constant_pace binary.Greater width k = number_pace binary.Greater width k
constant_pace binary.GreaterEqual width k = number_pace binary.GreaterEqual width k
constant_pace binary.DivideSigned width k = number_pace binary.DivideSigned width k
constant_pace binary.ModuloSigned width k = number_pace binary.ModuloSigned width k
constant_pace binary.LessSigned width k = omega arith
constant_pace binary.LessEqualSigned width k = omega arith
constant_pace binary.GreaterSigned width k = omega arith
constant_pace binary.GreaterEqualSigned width k = omega arith

module _ (laws : Laws) (find : ℕ → ℕ → Option (ℕ × ℕ)) (words : ℕ → Option ℕ) (main handler : ℕ) (given : Option Given) where
  abbrev S : List Instr → Working → List ℕ → Working → List ℕ → Type 0
  S ns g st h st2 = Straight find words main handler given ns g st h st2

  -- an instruction leads on
  abbrev On : Instr → Working → List ℕ → Working → List ℕ → Type 0
  On n g st h st2 = (q : ℕ) → offered find words main handler n q g st false given ≡ Does (Silent (Own q h st2 false given))

  -- the value is in AX afterwards, and the stack as it was
  abbrev pub Computes : Registers → List Instr → Working → List ℕ → ℕ → Type 0
  Computes s ns g st v = (h : Working) × S ns g st h st × (h.ax ≡ v) × (v < 65536) × OnlyChanges s g h

  abbrev pub Gives : Registers → List Instr → Working → List ℕ → Option ℕ → Type 0
  Gives s ns g st (Some v) = Computes s ns g st v
  Gives s ns g st None = Unit {0}

  first : (s : Registers) (n : Instr) (ns : List Instr) (g h : Working) (st : List ℕ) (v : ℕ) → On n g st h st → OnlyChanges s g h → Computes s ns h st v → Computes s (n ∷ ns) g st v
  first s n ns g h st v e keep c = (c.0, (h, st, e, c.1), c.2, c.3, changes_then s g h c.0 keep c.4)

  only : (s : Registers) (n : Instr) (g h : Working) (st : List ℕ) (v : ℕ) → On n g st h st → OnlyChanges s g h → h.ax ≡ v → v < 65536 → Computes s (n ∷ []) g st v
  only s n g h st v e keep is lt = (h, (h, st, e, (refl, refl)), is, lt, keep)

  -- with other registers that may change
  wider : (s t : Registers) (ns : List Instr) (g : Working) (st : List ℕ) (v : ℕ) → joined s t ≡ s → Computes t ns g st v → Computes s ns g st v
  wider s t ns g st v e c = (c.0, c.1, c.2, c.3, changes_wider s t g c.0 e c.4)

  -- ---- AX and another register change places

  abbrev pub swapped : Register16 → Working → Working
  swapped r g = set_word (set_word g Ax (word_in g r)) r g.ax

  pub exchanges : (r : Register16) → nat_le 0 (word_register_code r) ≡ true → is_sp r ≡ false → (g : Working) (st : List ℕ) → On (exchange r) g st (swapped r g) st
  exchanges r low other g st q =
      let p = word_pair Ax r in
      let first_is : p.first ≡ Ax = laws.pairs.first Ax r ∙ ap (λ (b : Bool). cond b Ax r) low in
      let second_is : p.second ≡ r = laws.pairs.second Ax r ∙ ap (λ (b : Bool). cond b r Ax) low in
      ap (λ z. unless (is_sp z) (unless (is_sp p.second) (silently (Own q (exchanged z p.second g) st false given)))) first_is
      ∙ ap (λ z. unless (is_sp z) (silently (Own q (exchanged Ax z g) st false given))) second_is
      ∙ ap (λ (b : Bool). unless b (silently (Own q (swapped r g) st false given))) other

  pub byte_keeps : (s : Registers) → s.accumulator ≡ true → (h : Working) → OnlyChanges s h (set_byte h Ah 0)
  byte_keeps s acc h = (
    subst (λ (b : Bool). Same b h.ax (set_byte h Ah 0).ax) (sym acc) tt,
    same_refl s.right h.cx,
    same_refl s.high h.dx,
    same_refl s.address h.bx,
    same_refl s.frame h.bp,
    refl,
    refl,
  )

  -- what an instruction leaves in AX, narrowed
  narrowed : (s : Registers) → s.accumulator ≡ true → (width : Width) (n : Instr) (g h : Working) (st : List ℕ) (v : ℕ) → On n g st h st → OnlyChanges s g h → h.ax < 65536 → low width h.ax ≡ v → Computes s (then_narrow width n) g st v
  narrowed s acc widths.Byte n g h st v e keep lt is =
      (set_byte h Ah 0, (h, st, e, (set_byte h Ah 0, st, λ q. refl, (refl, refl))), omega (arith, is), omega (arith, is), changes_then s g h (set_byte h Ah 0) keep (byte_keeps s acc h))
  narrowed s acc widths.Word n g h st v e keep lt is = (h, (h, st, e, (refl, refl)), omega (arith, lt, is), omega (arith, lt, is), keep)

  -- ---- a carry in AL
  value_of : (x : ℕ) (b : Bool) (f : Flags) → is_carry f ≡ b → (operated Sbb widths.Byte x x f).value ≡ (x + 256 - (x + number_of b)) % 256
  unfolding operated subtracted
  value_of x b f e = ap (λ (c : Bool). (x + 256 - (x + number_of c)) % 256) e

  truth_is : (b : Bool) (x : ℕ) → (x + 256 - (x + number_of b)) % 256 ≡ truth b
  truth_is true x = omega arith
  truth_is false x = omega arith

  filled : Working → Working
  filled g = byte_result Al g (operated Sbb widths.Byte (g.ax % 256) (g.ax % 256) g.flags)

  filled_is : (g : Working) (b : Bool) → is_carry g.flags ≡ b → (filled g).ax % 256 ≡ truth b
  unfolding filled
  filled_is g b carry =
      let v : (operated Sbb widths.Byte (g.ax % 256) (g.ax % 256) g.flags).value ≡ truth b = value_of (g.ax % 256) b g.flags carry ∙ truth_is b (g.ax % 256) in
      let whole : (filled g).ax ≡ g.ax / 256 * 256 + truth b = ap (λ z. g.ax / 256 * 256 + z) v in
      low_byte (g.ax / 256) b (filled g).ax whole
    where
      low_byte : (m : ℕ) (b : Bool) (x : ℕ) → x ≡ m * 256 + truth b → x % 256 ≡ truth b
      low_byte m true x e = omega (arith, e)
      low_byte m false x e = omega (arith, e)

  carried : (g : Working) (st : List ℕ) (b : Bool) → is_carry g.flags ≡ b → Computes just_accumulator from_carry g st (truth b)
  unfolding filled
  carried g st b carry =
      let h = set_byte (filled g) Ah 0 in
      first just_accumulator (i.AluByte Sbb (FromRegister (rm.Register Al) Al)) (clear_high ∷ []) g (filled g) st (truth b) (λ q. refl) (tt, refl, refl, refl, refl, refl, refl)
      (only just_accumulator clear_high (filled g) h st (truth b) (λ q. refl) (tt, refl, refl, refl, refl, refl, refl) (let e = filled_is g b carry in omega (arith, e)) (truth_small b))

  turned_byte : (x : ℕ) (f : Flags) → (changed changes.Not widths.Byte x f).value ≡ 255 - x
  unfolding changed
  turned_byte x f = refl

  turned : (b : Bool) → 255 - truth b ≡ truth (not b)
  turned true = refl
  turned false = refl

  not_carried : (g : Working) (st : List ℕ) (b : Bool) → is_carry g.flags ≡ b → Computes just_accumulator from_no_carry g st (truth (not b))
  unfolding filled
  not_carried g st b carry =
      let f = filled g in
      let t = byte_result Al f (changed changes.Not widths.Byte (f.ax % 256) f.flags) in
      let v : (changed changes.Not widths.Byte (f.ax % 256) f.flags).value ≡ truth (not b) = turned_byte (f.ax % 256) f.flags ∙ ap (λ z. 255 - z) (filled_is g b carry) ∙ turned b in
      let e : t.ax ≡ f.ax / 256 * 256 + truth (not b) = ap (λ z. f.ax / 256 * 256 + z) v in
      let small : truth (not b) < 256 = byte_truth (not b) in
      first just_accumulator (i.AluByte Sbb (FromRegister (rm.Register Al) Al)) (i.UnaryByte changes.Not (rm.Register Al) ∷ clear_high ∷ []) g f st (truth (not b)) (λ q. refl) (tt, refl, refl, refl, refl, refl, refl)
      (first just_accumulator (i.UnaryByte changes.Not (rm.Register Al)) (clear_high ∷ []) f t st (truth (not b)) (λ q. refl) (tt, refl, refl, refl, refl, refl, refl)
      (only just_accumulator clear_high t (set_byte t Ah 0) st (truth (not b)) (λ q. refl) (tt, refl, refl, refl, refl, refl, refl) (omega (arith, e, small)) (truth_small (not b))))
    where
      byte_truth : (b : Bool) → truth b < 256
      byte_truth true = omega arith
      byte_truth false = omega arith

  -- ---- comparisons

  cmp_flags : (a b : ℕ) (f : Flags) → is_carry (operated Cmp widths.Word a b f).flags ≡ nat_lt a b
  cmp_flags a b f = Flags.cmp_carry laws a b f

  compared : Working → (a b : ℕ) → Working
  compared g a b = set_flags g (operated Cmp widths.Word a b g.flags).flags

  difference_is : (a b : ℕ) (f : Flags) → (operated Sub widths.Word a b f).value ≡ (a + 65536 - (b + 0)) % 65536
  unfolding operated subtracted
  difference_is a b f = refl

  subtracts : Working → Working
  subtracts g = word_result Ax g (operated Sub widths.Word g.ax g.cx g.flags)

  -- whether both are equal
  tests_equal : Working → Working
  tests_equal g = set_flags (subtracts g) (operated Cmp widths.Word (subtracts g).ax 1 (subtracts g).flags).flags

  equal_carry : (g : Working) → g.ax < 65536 → g.cx < 65536 → is_carry (tests_equal g).flags ≡ nat_eq g.ax g.cx
  unfolding subtracts tests_equal
  equal_carry g a c = cmp_flags (subtracts g).ax 1 (subtracts g).flags ∙ ap (λ z. nat_lt z 1) (difference_is g.ax g.cx g.flags) ∙ no_difference g.ax g.cx a c

  less_by : (g : Working) (st : List ℕ) (b : Bool) → nat_lt g.ax g.cx ≡ b → Computes just_accumulator (alu Cmp Ax Cx ∷ from_carry) g st (truth b)
  unfolding compared
  less_by g st b e =
      first just_accumulator (alu Cmp Ax Cx) from_carry g (compared g g.ax g.cx) st (truth b) (λ q. refl) (tt, refl, refl, refl, refl, refl, refl) (carried (compared g g.ax g.cx) st b (cmp_flags g.ax g.cx g.flags ∙ e))

  not_less_by : (g : Working) (st : List ℕ) (b : Bool) → nat_lt g.ax g.cx ≡ b → Computes just_accumulator (alu Cmp Ax Cx ∷ from_no_carry) g st (truth (not b))
  unfolding compared
  not_less_by g st b e =
      first just_accumulator (alu Cmp Ax Cx) from_no_carry g (compared g g.ax g.cx) st (truth (not b)) (λ q. refl) (tt, refl, refl, refl, refl, refl, refl) (not_carried (compared g g.ax g.cx) st b (cmp_flags g.ax g.cx g.flags ∙ e))

  greater_by : (g : Working) (st : List ℕ) (b : Bool) → nat_lt g.cx g.ax ≡ b → Computes just_accumulator (alu Cmp Cx Ax ∷ from_carry) g st (truth b)
  unfolding compared
  greater_by g st b e =
      first just_accumulator (alu Cmp Cx Ax) from_carry g (compared g g.cx g.ax) st (truth b) (λ q. refl) (tt, refl, refl, refl, refl, refl, refl) (carried (compared g g.cx g.ax) st b (cmp_flags g.cx g.ax g.flags ∙ e))

  not_greater_by : (g : Working) (st : List ℕ) (b : Bool) → nat_lt g.cx g.ax ≡ b → Computes just_accumulator (alu Cmp Cx Ax ∷ from_no_carry) g st (truth (not b))
  unfolding compared
  not_greater_by g st b e =
      first just_accumulator (alu Cmp Cx Ax) from_no_carry g (compared g g.cx g.ax) st (truth (not b)) (λ q. refl) (tt, refl, refl, refl, refl, refl, refl) (not_carried (compared g g.cx g.ax) st b (cmp_flags g.cx g.ax g.flags ∙ e))

  -- ---- the operators

  sum_is : (a b : ℕ) (f : Flags) → (operated Add widths.Word a b f).value ≡ (a + b + 0) % 65536
  unfolding operated added
  sum_is a b f = refl

  and_is : (a b : ℕ) (f : Flags) → (operated And widths.Word a b f).value ≡ bit_and a b
  unfolding operated combined
  and_is a b f = refl

  or_is : (a b : ℕ) (f : Flags) → (operated Or widths.Word a b f).value ≡ bit_or a b
  unfolding operated combined
  or_is a b f = refl

  xor_is : (a b : ℕ) (f : Flags) → (operated Xor widths.Word a b f).value ≡ bit_xor a b
  unfolding operated combined
  xor_is a b f = refl

  product_is : (a b : ℕ) (f : Flags) → (multiplied Unsigned widths.Word a b f).value ≡ a * b
  unfolding multiplied
  product_is a b f = refl

  -- a result that wrapped
  wrapped : (s : Registers) → s.accumulator ≡ true → (width : Width) (n : Instr) (g h : Working) (st : List ℕ) (m v : ℕ) → On n g st h st → OnlyChanges s g h → h.ax ≡ m % 65536 → low width m ≡ v → Computes s (then_narrow width n) g st v
  wrapped s acc width n g h st m v e keep is low_is = narrowed s acc width n g h st v e keep (omega (arith, is)) (ap (low width) is ∙ low_low width m ∙ low_is)

  divides_by : (g : Working) (st : List ℕ) (y : ℕ) → g.ax < 65536 → g.cx ≡ suc y
      → (h : Working) × S (load_number Dx 0 ∷ i.DivideWord Unsigned (rm.Register Cx) ∷ []) g st h st × (h.ax ≡ g.ax / suc y) × (h.dx ≡ g.ax % suc y) × OnlyChanges with_high g h
  divides_by g st y a e =
      let g1 = set_word g Dx 0 in
      let x : Division = record { quotient = g.ax / suc y; remainder = g.ax % suc y } in
      let h = word_quotient x g1 in
      (h, (g1, st, λ q. refl, (h, st, λ q. ap (λ z. divides z (λ w. Own q (word_quotient w g1) st false given)) (ap (λ z. divided Unsigned widths.Word (0 * 65536 + g.ax) z) e ∙ quotients g.ax y a), (refl, refl))), refl, refl, (tt, refl, tt, refl, refl, refl, refl))

  quotient_gives : (g : Working) (st : List ℕ) (width : Width) (y : ℕ) → g.ax < 65536 → g.cx ≡ y → Gives with_high (core binary.Divide width) g st (quotient g.ax y)
  quotient_gives g st width zero a e = tt
  quotient_gives g st width (suc y) a e = let d = divides_by g st y a e in (d.0, d.1, d.2, omega (arith, a, div-le_self g.ax (suc y)), d.4)

  remainder_gives : (g : Working) (st : List ℕ) (width : Width) (y : ℕ) → g.ax < 65536 → g.cx ≡ y → g.cx < 65536 → Gives with_high (core binary.Modulo width) g st (remainder g.ax y)
  remainder_gives g st width zero a e c = tt
  remainder_gives g st width (suc y) a e c =
      let d = divides_by g st y a e in
      let h = swapped Dx d.0 in
      (h, also find words main handler given (load_number Dx 0 ∷ i.DivideWord Unsigned (rm.Register Cx) ∷ []) (exchange Dx ∷ []) g st d.0 st h st d.1 (h, st, exchanges Dx refl refl d.0 st, (refl, refl)), d.3, omega (arith, a, mod-le g.ax (suc y)), changes_then with_high g d.0 h d.4 (tt, refl, tt, refl, refl, refl, refl))

  -- ---- words with sign

  signed_divides : (g : Working) (st : List ℕ) → g.ax < 65536 → g.cx < 65536 → has_quotient g.ax g.cx ≡ true
      → (h : Working) × S (i.ConvertWord ∷ i.DivideWord Signed (rm.Register Cx) ∷ []) g st h st × (signed_quotient g.ax g.cx ≡ Some h.ax) × (signed_remainder g.ax g.cx ≡ Some h.dx) × (h.ax < 65536) × (h.dx < 65536) × OnlyChanges with_high g h
  signed_divides g st a c e =
      let g1 = set_word g Dx (sign_word g.ax) in
      let d = laws.signed.divides g.ax g.cx a c e in
      let h = word_quotient d.0 g1 in
      (h, (g1, st, λ q. refl, (h, st, λ q. ap (λ z. divides z (λ w. Own q (word_quotient w g1) st false given)) d.1, (refl, refl))), d.2, d.3, d.4, d.5, (tt, refl, tt, refl, refl, refl, refl))

  signed_quotient_gives : (g : Working) (st : List ℕ) (width : Width) → g.ax < 65536 → g.cx < 65536 → Gives with_high (core binary.DivideSigned width) g st (signed_quotient g.ax g.cx)
  signed_quotient_gives g st width a c = by (has_quotient g.ax g.cx) refl
    where
      by : (b : Bool) → has_quotient g.ax g.cx ≡ b → Gives with_high (core binary.DivideSigned width) g st (signed_quotient g.ax g.cx)
      by true e = let d = signed_divides g st a c e in subst (λ v. Gives with_high (core binary.DivideSigned width) g st v) (sym d.2) (d.0, d.1, refl, d.4, d.6)
      by false e =
          subst (λ (b : Bool). Gives with_high (core binary.DivideSigned width) g st (if b then Some (signed_word (int_div (signed 65536 g.ax) (signed 65536 g.cx))) else None)) (sym e) tt

  signed_remainder_gives : (g : Working) (st : List ℕ) (width : Width) → g.ax < 65536 → g.cx < 65536 → Gives with_high (core binary.ModuloSigned width) g st (signed_remainder g.ax g.cx)
  signed_remainder_gives g st width a c = by (has_quotient g.ax g.cx) refl
    where
      by : (b : Bool) → has_quotient g.ax g.cx ≡ b → Gives with_high (core binary.ModuloSigned width) g st (signed_remainder g.ax g.cx)
      by true e =
          let d = signed_divides g st a c e in
          let h = swapped Dx d.0 in
          subst (λ v. Gives with_high (core binary.ModuloSigned width) g st v) (sym d.3)
          (h, also find words main handler given (i.ConvertWord ∷ i.DivideWord Signed (rm.Register Cx) ∷ []) (exchange Dx ∷ []) g st d.0 st h st d.1 (h, st, exchanges Dx refl refl d.0 st, (refl, refl)), refl, d.5, changes_then with_high g d.0 h d.6 (tt, refl, tt, refl, refl, refl, refl))
      by false e =
          subst (λ (b : Bool). Gives with_high (core binary.ModuloSigned width) g st (if b then Some (signed_word (int_rem (signed 65536 g.ax) (signed 65536 g.cx))) else None)) (sym e) tt

  turn_is : (x : ℕ) (f : Flags) → (operated Add widths.Word x 32768 f).value ≡ (x + 32768) % 65536
  turn_is x f = let e : x + 32768 + 0 ≡ x + 32768 = omega arith in sum_is x 32768 f ∙ ap (λ z. z % 65536) e

  -- what follows finds both operands with their sign bits turned
  turned_then : (ns : List Instr) (v : ℕ) (g : Working) (st : List ℕ) → ((h : Working) → h.ax ≡ (g.ax + 32768) % 65536 → h.cx ≡ (g.cx + 32768) % 65536 → Computes just_accumulator ns h st v)
      → Computes with_right (sign_turned Ax ∷ sign_turned Cx ∷ ns) g st v
  turned_then ns v g st gives =
      let g1 = alu_word Add Ax 32768 g in
      let g2 = alu_word Add Cx 32768 g1 in
      first with_right (sign_turned Ax) (sign_turned Cx ∷ ns) g g1 st v (λ q. refl) (tt, tt, refl, refl, refl, refl, refl)
      (first with_right (sign_turned Cx) ns g1 g2 st v (λ q. refl) (tt, tt, refl, refl, refl, refl, refl)
      (wider with_right just_accumulator ns g2 st v refl (gives g2 (turn_is g.ax g.flags) (turn_is g.cx g1.flags))))

  turned_less : (x y a b : ℕ) → a < 65536 → b < 65536 → x ≡ (a + 32768) % 65536 → y ≡ (b + 32768) % 65536 → nat_lt x y ≡ signed_less a b
  turned_less x y a b ha hb ex ey = ap (λ z. nat_lt z y) ex ∙ ap (nat_lt ((a + 32768) % 65536)) ey ∙ laws.signed.turned a b ha hb

  low_again : (x n : ℕ) → (rotated widths.Byte (x % 256) n) ≡ rotated widths.Byte x n
  low_again x n = ap (λ z. let turned = z * 2 ^ n in (turned % 256 + turned / 256) % 256) again
    where
      again : x % 256 % 256 ≡ x % 256
      again = omega arith

  -- a byte turned round in AL
  turned_byte_gives : (o : ShiftOperation) (turn : Width → ℕ → ℕ → ℕ) (g : Working) (st : List ℕ)
      → ((x n : ℕ) (f : Flags) → x < 256 → (shifted o widths.Byte x n f).value ≡ turn widths.Byte x n)
      → turn widths.Byte (g.ax % 256) (g.cx % 256) ≡ turn widths.Byte g.ax (g.cx % 256) → turn widths.Byte g.ax (g.cx % 256) < 256
      → Computes just_accumulator (shift_byte o ∷ clear_high ∷ []) g st (turn widths.Byte g.ax (g.cx % 256))
  turned_byte_gives o turn g st law again small =
      let n = g.cx % 256 in
      let x = shifted o widths.Byte (g.ax % 256) n g.flags in
      let h = byte_result Al g x in
      let value : x.value ≡ turn widths.Byte g.ax n = law (g.ax % 256) n g.flags (omega arith) ∙ again in
      let whole : h.ax ≡ g.ax / 256 * 256 + turn widths.Byte g.ax n = ap (λ z. g.ax / 256 * 256 + z) value in
      first just_accumulator (shift_byte o) (clear_high ∷ []) g h st (turn widths.Byte g.ax n) (λ q. refl) (tt, refl, refl, refl, refl, refl, refl)
      (only just_accumulator clear_high h (set_byte h Ah 0) st (turn widths.Byte g.ax n) (λ q. refl) (tt, refl, refl, refl, refl, refl, refl) (omega (arith, whole, small)) (omega (arith, small)))

  -- shifts, whatever their count

  left_gives : (width : Width) (c : Count) (g : Working) (st : List ℕ) → g.ax < 65536 → Computes just_accumulator (left_by width c) g st (low width (g.ax * 2 ^ count_in g c))
  left_gives width c g st a =
      let n = count_in g c in
      wrapped just_accumulator refl width (shift_word shifts.Shl c) g (word_result Ax g (shifted shifts.Shl widths.Word g.ax n g.flags)) st (g.ax * 2 ^ n) (low width (g.ax * 2 ^ n)) (λ q. refl) (tt, refl, refl, refl, refl, refl, refl) (laws.shift.shl widths.Word g.ax n g.flags a) refl

  count_stays : (c : Count) (g : Working) → count_in (set_byte g Ah 0) c ≡ count_in g c
  count_stays counts.One g = refl
  count_stays counts.Cl g = refl

  shifts_right : (c : Count) (g : Working) (st : List ℕ) (x n : ℕ) → g.ax ≡ x → count_in g c ≡ n → x < 65536 → Computes just_accumulator (shift_word shifts.Shr c ∷ []) g st (x / 2 ^ n)
  shifts_right c g st x n is count l =
      let m = count_in g c in
      only just_accumulator (shift_word shifts.Shr c) g (word_result Ax g (shifted shifts.Shr widths.Word g.ax m g.flags)) st (x / 2 ^ n) (λ q. refl) (tt, refl, refl, refl, refl, refl, refl)
      (laws.shift.shr widths.Word g.ax m g.flags ∙ ap (λ z. z / 2 ^ m) is ∙ ap (λ z. x / 2 ^ z) count) (omega (arith, l, div-le_self x (2 ^ n)))

  right_gives : (width : Width) (c : Count) (g : Working) (st : List ℕ) → g.ax < 65536 → Computes just_accumulator (right_by width c) g st (low width g.ax / 2 ^ count_in g c)
  right_gives widths.Byte c g st a =
      let n = count_in g c in
      let h = set_byte g Ah 0 in
      let e : 0 * 256 + g.ax % 256 ≡ g.ax % 256 = omega arith in
      first just_accumulator clear_high (shift_word shifts.Shr c ∷ []) g h st (g.ax % 256 / 2 ^ n) (λ q. refl) (tt, refl, refl, refl, refl, refl, refl) (shifts_right c h st (g.ax % 256) n e (count_stays c g) (omega arith))
  right_gives widths.Word c g st a = let e : g.ax ≡ g.ax % 65536 = omega (arith, a) in shifts_right c g st (g.ax % 65536) (count_in g c) e refl (omega arith)

  pub core_gives : (o : BinaryOperation) (width : Width) (g : Working) (st : List ℕ) → g.ax < 65536 → g.cx < 65536 → Gives (core_changes o) (core o width) g st (binary_value o width g.ax g.cx)
  unfolding subtracts tests_equal
  core_gives binary.Multiply width g st a c =
      wrapped with_high refl width (i.MultiplyWord Unsigned (rm.Register Cx)) g (word_product (multiplied Unsigned widths.Word g.ax g.cx g.flags) g) st (g.ax * g.cx) (low width (g.ax * g.cx)) (λ q. refl) (tt, refl, tt, refl, refl, refl, refl) (ap (λ z. z % 65536) (product_is g.ax g.cx g.flags)) refl
  core_gives binary.Divide width g st a c = quotient_gives g st width g.cx a refl
  core_gives binary.Modulo width g st a c = remainder_gives g st width g.cx a refl c
  core_gives binary.Add width g st a c =
      let e : g.ax + g.cx + 0 ≡ g.ax + g.cx = omega arith in
      wrapped just_accumulator refl width (alu Add Ax Cx) g (alu_word Add Ax g.cx g) st (g.ax + g.cx + 0) (low width (g.ax + g.cx)) (λ q. refl) (tt, refl, refl, refl, refl, refl, refl) (sum_is g.ax g.cx g.flags) (ap (low width) e)
  core_gives binary.Subtract width g st a c =
      let e : g.ax + 65536 - (g.cx + 0) ≡ g.ax + 65536 - g.cx = omega arith in
      wrapped just_accumulator refl width (alu Sub Ax Cx) g (subtracts g) st (g.ax + 65536 - (g.cx + 0)) (low width (g.ax + 65536 - g.cx)) (λ q. refl) (tt, refl, refl, refl, refl, refl, refl) (difference_is g.ax g.cx g.flags) (ap (low width) e)
  core_gives binary.Equal width g st a c =
      first just_accumulator (alu Sub Ax Cx) (i.AluWord Cmp (Immediate (rm.Register Ax) 1) ∷ from_carry) g (subtracts g) st (truth (nat_eq g.ax g.cx)) (λ q. refl) (tt, refl, refl, refl, refl, refl, refl)
      (first just_accumulator (i.AluWord Cmp (Immediate (rm.Register Ax) 1)) from_carry (subtracts g) (tests_equal g) st (truth (nat_eq g.ax g.cx)) (λ q. refl) (tt, refl, refl, refl, refl, refl, refl) (carried (tests_equal g) st (nat_eq g.ax g.cx) (equal_carry g a c)))
  core_gives binary.NotEqual width g st a c =
      first just_accumulator (alu Sub Ax Cx) (i.AluWord Cmp (Immediate (rm.Register Ax) 1) ∷ from_no_carry) g (subtracts g) st (truth (not (nat_eq g.ax g.cx))) (λ q. refl) (tt, refl, refl, refl, refl, refl, refl)
      (first just_accumulator (i.AluWord Cmp (Immediate (rm.Register Ax) 1)) from_no_carry (subtracts g) (tests_equal g) st (truth (not (nat_eq g.ax g.cx))) (λ q. refl) (tt, refl, refl, refl, refl, refl, refl) (not_carried (tests_equal g) st (nat_eq g.ax g.cx) (equal_carry g a c)))
  core_gives binary.Less width g st a c = less_by g st (nat_lt g.ax g.cx) refl
  core_gives binary.LessEqual width g st a c = subst (λ z. Computes just_accumulator (core binary.LessEqual width) g st z) (ap truth (flipped_le g.ax g.cx)) (not_greater_by g st (nat_lt g.cx g.ax) refl)
  core_gives binary.Greater width g st a c = greater_by g st (nat_lt g.cx g.ax) refl
  core_gives binary.GreaterEqual width g st a c = subst (λ z. Computes just_accumulator (core binary.GreaterEqual width) g st z) (ap truth (flipped_le g.cx g.ax)) (not_less_by g st (nat_lt g.ax g.cx) refl)
  core_gives binary.DivideSigned width g st a c = signed_quotient_gives g st width a c
  core_gives binary.ModuloSigned width g st a c = signed_remainder_gives g st width a c
  core_gives binary.LessSigned width g st a c =
      turned_then (alu Cmp Ax Cx ∷ from_carry) (truth (signed_less g.ax g.cx)) g st (λ h l r. less_by h st (signed_less g.ax g.cx) (turned_less h.ax h.cx g.ax g.cx a c l r))
  core_gives binary.LessEqualSigned width g st a c =
      turned_then (alu Cmp Cx Ax ∷ from_no_carry) (truth (not (signed_less g.cx g.ax))) g st (λ h l r. not_greater_by h st (signed_less g.cx g.ax) (turned_less h.cx h.ax g.cx g.ax c a r l))
  core_gives binary.GreaterSigned width g st a c =
      turned_then (alu Cmp Cx Ax ∷ from_carry) (truth (signed_less g.cx g.ax)) g st (λ h l r. greater_by h st (signed_less g.cx g.ax) (turned_less h.cx h.ax g.cx g.ax c a r l))
  core_gives binary.GreaterEqualSigned width g st a c =
      turned_then (alu Cmp Ax Cx ∷ from_no_carry) (truth (not (signed_less g.ax g.cx))) g st (λ h l r. not_less_by h st (signed_less g.ax g.cx) (turned_less h.ax h.cx g.ax g.cx a c l r))
  core_gives binary.And width g st a c = only just_accumulator (alu And Ax Cx) g (alu_word And Ax g.cx g) st (bit_and g.ax g.cx) (λ q. refl) (tt, refl, refl, refl, refl, refl, refl) (and_is g.ax g.cx g.flags) (omega (arith, a, and_le_l g.ax g.cx))
  core_gives binary.Or width g st a c = only just_accumulator (alu Or Ax Cx) g (alu_word Or Ax g.cx g) st (bit_or g.ax g.cx) (λ q. refl) (tt, refl, refl, refl, refl, refl, refl) (or_is g.ax g.cx g.flags) (or_of_16 g.ax g.cx a c)
  core_gives binary.ExclusiveOr width g st a c = only just_accumulator (alu Xor Ax Cx) g (alu_word Xor Ax g.cx g) st (bit_xor g.ax g.cx) (λ q. refl) (tt, refl, refl, refl, refl, refl, refl) (xor_is g.ax g.cx g.flags) (xor_of_16 g.ax g.cx a c)
  core_gives binary.ShiftLeft width g st a c = left_gives width counts.Cl g st a
  core_gives binary.ShiftRight width g st a c = right_gives width counts.Cl g st a
  core_gives binary.RotateLeft widths.Byte g st a c = turned_byte_gives shifts.Rol rotated_left g st (λ x n f l. laws.rotate.rol widths.Byte x n f l) (low_again g.ax (g.cx % 256 % 8)) (omega arith)
  core_gives binary.RotateLeft widths.Word g st a c =
      let n = g.cx % 256 in
      only just_accumulator (shift_word shifts.Rol counts.Cl) g (word_result Ax g (shifted shifts.Rol widths.Word g.ax n g.flags)) st (rotated_left widths.Word g.ax n) (λ q. refl) (tt, refl, refl, refl, refl, refl, refl) (laws.rotate.rol widths.Word g.ax n g.flags a) (omega arith)
  core_gives binary.RotateRight widths.Byte g st a c = turned_byte_gives shifts.Ror rotated_right g st (λ x n f l. laws.rotate.ror widths.Byte x n f l) (low_again g.ax (8 - g.cx % 256 % 8)) (omega arith)
  core_gives binary.RotateRight widths.Word g st a c =
      let n = g.cx % 256 in
      only just_accumulator (shift_word shifts.Ror counts.Cl) g (word_result Ax g (shifted shifts.Ror widths.Word g.ax n g.flags)) st (rotated_right widths.Word g.ax n) (λ q. refl) (tt, refl, refl, refl, refl, refl, refl) (laws.rotate.ror widths.Word g.ax n g.flags a) (omega arith)

  -- ---- operators that take their right operand where it lies

  -- after the operation the value is in AX, and the stack as it was
  abbrev pub After : List Instr → Working → Working → List ℕ → Option ℕ → Type 0
  After ns g h st None = Unit {0}
  After ns g h st (Some x) = (k : Working) × S ns h st k st × (k.ax ≡ x) × (x < 65536) × OnlyChanges just_accumulator g k

  narrows : (width : Width) (g h : Working) (st : List ℕ) (m v : ℕ) → OnlyChanges just_accumulator g h → h.ax ≡ m % 65536 → low width m ≡ v → After (narrow width) g h st (Some v)
  narrows width g h st m v keep is low_is = by width (omega (arith, is)) (ap (low width) is ∙ low_low width m ∙ low_is)
    where
      by : (width : Width) → h.ax < 65536 → low width h.ax ≡ v → After (narrow width) g h st (Some v)
      by widths.Byte lt e = (set_byte h Ah 0, (set_byte h Ah 0, st, λ q. refl, (refl, refl)), omega (arith, e), omega (arith, e), changes_then just_accumulator g h (set_byte h Ah 0) keep (tt, refl, refl, refl, refl, refl, refl))
      by widths.Word lt e = (h, (refl, refl), omega (arith, lt, e), omega (arith, lt, e), keep)

  pub after_direct : (o : BinaryOperation) (width : Width) (g : Working) (st : List ℕ) (v : ℕ) → is_direct o ≡ true → g.ax < 65536 → v < 65536
      → After (narrow_sum o width) g (alu_word (direct o) Ax v g) st (binary_value o width g.ax v)
  after_direct binary.Add width g st v d a c =
      let e : g.ax + v + 0 ≡ g.ax + v = omega arith in
      narrows width g (alu_word Add Ax v g) st (g.ax + v + 0) (low width (g.ax + v)) (tt, refl, refl, refl, refl, refl, refl) (sum_is g.ax v g.flags) (ap (low width) e)
  after_direct binary.Subtract width g st v d a c =
      let e : g.ax + 65536 - (v + 0) ≡ g.ax + 65536 - v = omega arith in
      narrows width g (alu_word Sub Ax v g) st (g.ax + 65536 - (v + 0)) (low width (g.ax + 65536 - v)) (tt, refl, refl, refl, refl, refl, refl) (difference_is g.ax v g.flags) (ap (low width) e)
  after_direct binary.And width g st v d a c = (alu_word And Ax v g, (refl, refl), and_is g.ax v g.flags, omega (arith, a, and_le_l g.ax v), (tt, refl, refl, refl, refl, refl, refl))
  after_direct binary.Or width g st v d a c = (alu_word Or Ax v g, (refl, refl), or_is g.ax v g.flags, or_of_16 g.ax v a c, (tt, refl, refl, refl, refl, refl, refl))
  after_direct binary.ExclusiveOr width g st v d a c = (alu_word Xor Ax v g, (refl, refl), xor_is g.ax v g.flags, xor_of_16 g.ax v a c, (tt, refl, refl, refl, refl, refl, refl))
  after_direct binary.Multiply width g st v d a c = absurd (cc)
  after_direct binary.Divide width g st v d a c = absurd (cc)
  after_direct binary.Modulo width g st v d a c = absurd (cc)
  after_direct binary.Equal width g st v d a c = absurd (cc)
  after_direct binary.NotEqual width g st v d a c = absurd (cc)
  after_direct binary.Less width g st v d a c = absurd (cc)
  after_direct binary.LessEqual width g st v d a c = absurd (cc)
  after_direct binary.Greater width g st v d a c = absurd (cc)
  after_direct binary.GreaterEqual width g st v d a c = absurd (cc)
  after_direct binary.ShiftLeft width g st v d a c = absurd (cc)
  after_direct binary.ShiftRight width g st v d a c = absurd (cc)
  after_direct binary.RotateLeft width g st v d a c = absurd (cc)
  after_direct binary.RotateRight width g st v d a c = absurd (cc)
  after_direct binary.DivideSigned width g st v d a c = absurd (cc)
  after_direct binary.ModuloSigned width g st v d a c = absurd (cc)
  after_direct binary.LessSigned width g st v d a c = absurd (cc)
  after_direct binary.LessEqualSigned width g st v d a c = absurd (cc)
  after_direct binary.GreaterSigned width g st v d a c = absurd (cc)
  after_direct binary.GreaterEqualSigned width g st v d a c = absurd (cc)

  -- ---- operators on AX and a constant

  -- AX gets a constant
  pub accumulator_set : (k : ℕ) (g : Working) (st : List ℕ) → (h : Working) × S (accumulator_gets k ∷ []) g st h st × (h.ax ≡ k) × OnlyChanges just_accumulator g h
  accumulator_set k g st = by (nat_eq k 0) refl
    where
      by : (b : Bool) → nat_eq k 0 ≡ b → (h : Working) × S ((if b then alu Sub Ax Ax else load_number Ax k) ∷ []) g st h st × (h.ax ≡ k) × OnlyChanges just_accumulator g h
      by true is =
          let h = alu_word Sub Ax g.ax g in
          let none : (g.ax + 65536 - (g.ax + 0)) % 65536 ≡ k = omega (arith, eqb-true k 0 is) in
          (h, (h, st, λ q. refl, (refl, refl)), difference_is g.ax g.ax g.flags ∙ none, (tt, refl, refl, refl, refl, refl, refl))
      by false is = let h = set_word g Ax k in (h, (h, st, λ q. refl, (refl, refl)), refl, (tt, refl, refl, refl, refl, refl, refl))

  byte_sum : (a b : ℕ) (f : Flags) → (operated Add widths.Byte a b f).value ≡ (a + b + 0) % 256
  unfolding operated added
  byte_sum a b f = refl

  byte_difference : (a b : ℕ) (f : Flags) → (operated Sub widths.Byte a b f).value ≡ (a + 256 - (b + 0)) % 256
  unfolding operated subtracted
  byte_difference a b f = refl

  one_more : (a : ℕ) (f : Flags) → (changed changes.Inc widths.Word a f).value ≡ (a + 1 + 0) % 65536
  unfolding changed added
  one_more a f = refl

  one_less : (a : ℕ) (f : Flags) → (changed changes.Dec widths.Word a f).value ≡ (a + 65536 - (1 + 0)) % 65536
  unfolding changed subtracted
  one_less a f = refl

  sum_gives : (width : Width) (k : ℕ) (g : Working) (st : List ℕ) → g.ax < 65536 → Computes just_accumulator (sum_with changes.Inc Add width k ∷ narrow width) g st (low width (g.ax + k))
  sum_gives width k g st a = by (nat_eq k 1) refl width
    where
      by : (b : Bool) → nat_eq k 1 ≡ b → (width : Width) → Computes just_accumulator ((if b then i.UnaryWord changes.Inc (rm.Register Ax) else sum_number Add width k) ∷ narrow width) g st (low width (g.ax + k))
      by true is width =
          let e : g.ax + 1 + 0 ≡ g.ax + k = omega (arith, eqb-true k 1 is) in
          wrapped just_accumulator refl width (i.UnaryWord changes.Inc (rm.Register Ax)) g (word_result Ax g (changed changes.Inc widths.Word g.ax g.flags)) st (g.ax + 1 + 0) (low width (g.ax + k)) (λ q. refl) (tt, refl, refl, refl, refl, refl, refl) (one_more g.ax g.flags) (ap (low width) e)
      by false is widths.Byte =
          let h = alu_byte Add Al (k % 256) g in
          let e : h.ax ≡ g.ax / 256 * 256 + (g.ax % 256 + k % 256 + 0) % 256 = ap (λ z. g.ax / 256 * 256 + z) (byte_sum (g.ax % 256) (k % 256) g.flags) in
          narrowed just_accumulator refl widths.Byte (i.AluByte Add (Immediate (rm.Register Al) (k % 256))) g h st (low widths.Byte (g.ax + k)) (λ q. refl) (tt, refl, refl, refl, refl, refl, refl) (omega (arith, e, a)) (omega (arith, e))
      by false is widths.Word =
          let e : g.ax + k + 0 ≡ g.ax + k = omega arith in
          wrapped just_accumulator refl widths.Word (alu_number Add Ax k) g (alu_word Add Ax k g) st (g.ax + k + 0) (low widths.Word (g.ax + k)) (λ q. refl) (tt, refl, refl, refl, refl, refl, refl) (sum_is g.ax k g.flags) (ap (low widths.Word) e)

  difference_gives : (width : Width) (k : ℕ) (g : Working) (st : List ℕ) → g.ax < 65536 → k < 65536 → Computes just_accumulator (sum_with changes.Dec Sub width k ∷ narrow width) g st (low width (g.ax + 65536 - k))
  difference_gives width k g st a c = by (nat_eq k 1) refl width
    where
      by : (b : Bool) → nat_eq k 1 ≡ b → (width : Width) → Computes just_accumulator ((if b then i.UnaryWord changes.Dec (rm.Register Ax) else sum_number Sub width k) ∷ narrow width) g st (low width (g.ax + 65536 - k))
      by true is width =
          let e : g.ax + 65536 - (1 + 0) ≡ g.ax + 65536 - k = omega (arith, eqb-true k 1 is) in
          wrapped just_accumulator refl width (i.UnaryWord changes.Dec (rm.Register Ax)) g (word_result Ax g (changed changes.Dec widths.Word g.ax g.flags)) st (g.ax + 65536 - (1 + 0)) (low width (g.ax + 65536 - k)) (λ q. refl) (tt, refl, refl, refl, refl, refl, refl) (one_less g.ax g.flags) (ap (low width) e)
      by false is widths.Byte =
          let h = alu_byte Sub Al (k % 256) g in
          let e : h.ax ≡ g.ax / 256 * 256 + (g.ax % 256 + 256 - (k % 256 + 0)) % 256 = ap (λ z. g.ax / 256 * 256 + z) (byte_difference (g.ax % 256) (k % 256) g.flags) in
          narrowed just_accumulator refl widths.Byte (i.AluByte Sub (Immediate (rm.Register Al) (k % 256))) g h st (low widths.Byte (g.ax + 65536 - k)) (λ q. refl) (tt, refl, refl, refl, refl, refl, refl) (omega (arith, e, a)) (omega (arith, e, c))
      by false is widths.Word =
          let e : g.ax + 65536 - (k + 0) ≡ g.ax + 65536 - k = omega arith in
          wrapped just_accumulator refl widths.Word (alu_number Sub Ax k) g (alu_word Sub Ax k g) st (g.ax + 65536 - (k + 0)) (low widths.Word (g.ax + 65536 - k)) (λ q. refl) (tt, refl, refl, refl, refl, refl, refl) (difference_is g.ax k g.flags) (ap (low widths.Word) e)

  count_loaded : (g : Working) (n : ℕ) → n < 256 → count_in (set_byte g Cl n) counts.Cl ≡ n
  count_loaded g n l = omega (arith, l)

  counted_gives : (shift : Count → List Instr) (value : ℕ → ℕ) (n : ℕ) (g : Working) (st : List ℕ) → n < 256
      → ((c : Count) (h : Working) → h.ax ≡ g.ax → Computes just_accumulator (shift c) h st (value (count_in h c))) → Computes with_right (counted n shift) g st (value n)
  counted_gives shift value n g st l gives = by (nat_eq n 1) refl
    where
      by : (b : Bool) → nat_eq n 1 ≡ b → Computes with_right (if b then shift counts.One else load_count n ∷ shift counts.Cl) g st (value n)
      by true is = subst (λ z. Computes with_right (shift counts.One) g st (value z)) (sym (eqb-true n 1 is)) (wider with_right just_accumulator (shift counts.One) g st (value 1) refl (gives counts.One g refl))
      by false is =
          let h = set_byte g Cl n in
          first with_right (load_count n) (shift counts.Cl) g h st (value n) (λ q. refl) (tt, tt, refl, refl, refl, refl, refl)
          (subst (λ z. Computes with_right (shift counts.Cl) h st (value z)) (count_loaded g n l) (wider with_right just_accumulator (shift counts.Cl) h st (value (count_in h counts.Cl)) refl (gives counts.Cl h refl)))

  left_counted : (width : Width) (n : ℕ) (g : Working) (st : List ℕ) → g.ax < 65536 → n < 256 → Computes with_right (counted n (left_by width)) g st (low width (g.ax * 2 ^ n))
  left_counted width n g st a l =
      counted_gives (left_by width) (λ m. low width (g.ax * 2 ^ m)) n g st l
      (λ c h e. subst (λ z. Computes just_accumulator (left_by width c) h st (low width (z * 2 ^ count_in h c))) e (left_gives width c h st (omega (arith, a, e))))

  right_counted : (width : Width) (n : ℕ) (g : Working) (st : List ℕ) → g.ax < 65536 → n < 256 → Computes with_right (counted n (right_by width)) g st (low width g.ax / 2 ^ n)
  right_counted width n g st a l =
      counted_gives (right_by width) (λ m. low width g.ax / 2 ^ m) n g st l
      (λ c h e. subst (λ z. Computes just_accumulator (right_by width c) h st (low width z / 2 ^ count_in h c)) e (right_gives width c h st (omega (arith, a, e))))

  -- the constant goes to CX
  number_gives : (o : BinaryOperation) (width : Width) (k : ℕ) (g : Working) (st : List ℕ) → g.ax < 65536 → k < 65536 → Gives (of_operator o) (by_number o width k) g st (binary_value o width g.ax k)
  number_gives o width k g st a c = by (binary_value o width g.ax k) (core_gives o width h st a c)
    where
      h : Working
      h = set_word g Cx k

      by : (v : Option ℕ) → Gives (core_changes o) (core o width) h st v → Gives (of_operator o) (by_number o width k) g st v
      by None gives = tt
      by (Some v) gives = first (of_operator o) (load_number Cx k) (core o width) g h st v (λ q. refl) (operands_put o g h refl refl refl refl refl) (wider (of_operator o) (core_changes o) (core o width) h st v (core_within o) gives)

  product_gives : (width : Width) (k : ℕ) (g : Working) (st : List ℕ) → g.ax < 65536 → k < 65536 → (e : Option ℕ) → exponent k ≡ e → Gives (of_operator binary.Multiply) (by_product width k e) g st (binary_value binary.Multiply width g.ax k)
  product_gives width k g st a c None is = number_gives binary.Multiply width k g st a c
  product_gives width k g st a c (Some n) is =
      let p = exponent_is k n is in
      subst (λ z. Computes (of_operator binary.Multiply) (counted n (left_by width)) g st (low width (g.ax * z))) p.2 (wider (of_operator binary.Multiply) with_right (counted n (left_by width)) g st (low width (g.ax * 2 ^ n)) refl (left_counted width n g st a p.3))

  quotient_at : (x k m : ℕ) → k ≡ suc m → Some (x / k) ≡ quotient x k
  quotient_at x k m e = subst (λ z. Some (x / z) ≡ quotient x z) (sym e) refl

  remainder_at : (x k m : ℕ) → k ≡ suc m → Some (x % k) ≡ remainder x k
  remainder_at x k m e = subst (λ z. Some (x % z) ≡ remainder x z) (sym e) refl

  divided_gives : (width : Width) (k : ℕ) (g : Working) (st : List ℕ) → g.ax < 65536 → k < 65536 → (e : Option ℕ) → exponent k ≡ e → Gives (of_operator binary.Divide) (by_quotient width k e) g st (binary_value binary.Divide width g.ax k)
  divided_gives width k g st a c None is = number_gives binary.Divide width k g st a c
  divided_gives width k g st a c (Some n) is =
      let p = exponent_is k n is in
      let ns = counted n (right_by widths.Word) in
      let whole : g.ax % 65536 ≡ g.ax = omega (arith, a) in
      let value : g.ax % 65536 / 2 ^ n ≡ g.ax / k = ap (λ z. z / 2 ^ n) whole ∙ ap (λ z. g.ax / z) p.2 in
      subst (λ v. Gives (of_operator binary.Divide) ns g st v) (quotient_at g.ax k p.0 p.1)
      (subst (λ v. Computes (of_operator binary.Divide) ns g st v) value (wider (of_operator binary.Divide) with_right ns g st (g.ax % 65536 / 2 ^ n) refl (right_counted widths.Word n g st a p.3)))

  masked_gives : (width : Width) (k : ℕ) (g : Working) (st : List ℕ) → g.ax < 65536 → k < 65536 → (e : Option ℕ) → exponent k ≡ e → Gives (of_operator binary.Modulo) (by_remainder width k e) g st (binary_value binary.Modulo width g.ax k)
  masked_gives width k g st a c None is = number_gives binary.Modulo width k g st a c
  masked_gives width k g st a c (Some n) is =
      let p = exponent_is k n is in
      let value : bit_and g.ax (k - 1) ≡ g.ax % k = subst (λ z. bit_and g.ax (z - 1) ≡ g.ax % z) p.2 (and_mask g.ax n) in
      subst (λ v. Gives (of_operator binary.Modulo) (alu_number And Ax (k - 1) ∷ []) g st v) (remainder_at g.ax k p.0 p.1)
      (only (of_operator binary.Modulo) (alu_number And Ax (k - 1)) g (alu_word And Ax (k - 1) g) st (g.ax % k) (λ q. refl) (tt, tt, tt, refl, refl, refl, refl) (and_is g.ax (k - 1) g.flags ∙ value) (omega (arith, a, value, and_le_l g.ax (k - 1))))

  -- the constant with its sign bit turned goes to CX
  turned_constant : (o : BinaryOperation) (width : Width) (k : ℕ) (g : Working) (st : List ℕ) (v : ℕ) → g.ax < 65536 → of_operator o ≡ with_right
      → binary_value o width ((g.ax + 32768) % 65536) ((k + 32768) % 65536) ≡ Some v → Computes with_right (by_turned o width k) g st v
  turned_constant o width k g st v a same is =
      let t = (k + 32768) % 65536 in
      let g1 = alu_word Add Ax 32768 g in
      let left : g1.ax ≡ (g.ax + 32768) % 65536 = turn_is g.ax g.flags in
      let value : binary_value o width g1.ax t ≡ Some v = ap (λ z. binary_value o width z t) left ∙ is in
      first with_right (sign_turned Ax) (by_number o width t) g g1 st v (λ q. refl) (tt, tt, refl, refl, refl, refl, refl)
      (subst (λ (s : Registers). Gives s (by_number o width t) g1 st (Some v)) same
      (subst (λ y. Gives (of_operator o) (by_number o width t) g1 st y) value (number_gives o width t g1 st (omega (arith, left)) (omega arith))))

  pub constant_gives : (o : BinaryOperation) (width : Width) (k : ℕ) (g : Working) (st : List ℕ) → g.ax < 65536 → k < 65536 → Gives (of_direct o) (by_constant o width k) g st (binary_value o width g.ax k)
  constant_gives binary.Add width k g st a c = sum_gives width k g st a
  constant_gives binary.Subtract width k g st a c = difference_gives width k g st a c
  constant_gives binary.And width k g st a c = only just_accumulator (alu_number And Ax k) g (alu_word And Ax k g) st (bit_and g.ax k) (λ q. refl) (tt, refl, refl, refl, refl, refl, refl) (and_is g.ax k g.flags) (omega (arith, a, and_le_l g.ax k))
  constant_gives binary.Or width k g st a c = only just_accumulator (alu_number Or Ax k) g (alu_word Or Ax k g) st (bit_or g.ax k) (λ q. refl) (tt, refl, refl, refl, refl, refl, refl) (or_is g.ax k g.flags) (or_of_16 g.ax k a c)
  constant_gives binary.ExclusiveOr width k g st a c = only just_accumulator (alu_number Xor Ax k) g (alu_word Xor Ax k g) st (bit_xor g.ax k) (λ q. refl) (tt, refl, refl, refl, refl, refl, refl) (xor_is g.ax k g.flags) (xor_of_16 g.ax k a c)
  constant_gives binary.Multiply width k g st a c = product_gives width k g st a c (exponent k) refl
  constant_gives binary.Divide width k g st a c = divided_gives width k g st a c (exponent k) refl
  constant_gives binary.Modulo width k g st a c = masked_gives width k g st a c (exponent k) refl
  constant_gives binary.ShiftLeft width k g st a c = left_counted width (k % 256) g st a (omega arith)
  constant_gives binary.ShiftRight width k g st a c = right_counted width (k % 256) g st a (omega arith)
  constant_gives binary.RotateLeft width k g st a c = number_gives binary.RotateLeft width k g st a c
  constant_gives binary.RotateRight width k g st a c = number_gives binary.RotateRight width k g st a c
  constant_gives binary.Equal width k g st a c = number_gives binary.Equal width k g st a c
  constant_gives binary.NotEqual width k g st a c = number_gives binary.NotEqual width k g st a c
  constant_gives binary.Less width k g st a c = number_gives binary.Less width k g st a c
  constant_gives binary.LessEqual width k g st a c = number_gives binary.LessEqual width k g st a c
  constant_gives binary.Greater width k g st a c = number_gives binary.Greater width k g st a c
  constant_gives binary.GreaterEqual width k g st a c = number_gives binary.GreaterEqual width k g st a c
  constant_gives binary.DivideSigned width k g st a c = number_gives binary.DivideSigned width k g st a c
  constant_gives binary.ModuloSigned width k g st a c = number_gives binary.ModuloSigned width k g st a c
  constant_gives binary.LessSigned width k g st a c =
      turned_constant binary.Less width k g st (truth (signed_less g.ax k)) a refl (ap (λ (b : Bool). Some (truth b)) (laws.signed.turned g.ax k a c))
  constant_gives binary.LessEqualSigned width k g st a c =
      turned_constant binary.LessEqual width k g st (truth (not (signed_less k g.ax))) a refl
      (ap (λ (b : Bool). Some (truth b)) (sym (flipped_le ((g.ax + 32768) % 65536) ((k + 32768) % 65536)) ∙ ap not (laws.signed.turned k g.ax c a)))
  constant_gives binary.GreaterSigned width k g st a c =
      turned_constant binary.Greater width k g st (truth (signed_less k g.ax)) a refl (ap (λ (b : Bool). Some (truth b)) (laws.signed.turned k g.ax c a))
  constant_gives binary.GreaterEqualSigned width k g st a c =
      turned_constant binary.GreaterEqual width k g st (truth (not (signed_less g.ax k))) a refl
      (ap (λ (b : Bool). Some (truth b)) (sym (flipped_le ((k + 32768) % 65536) ((g.ax + 32768) % 65536)) ∙ ap not (laws.signed.turned g.ax k a c)))

  -- ---- operators on AX alone

  negated : (a : ℕ) (f : Flags) → (changed changes.Neg widths.Word a f).value ≡ (0 + 65536 - (a + 0)) % 65536
  unfolding changed subtracted
  negated a f = refl

  inverted : (a : ℕ) (f : Flags) → (changed changes.Not widths.Word a f).value ≡ 65535 - a
  unfolding changed
  inverted a f = refl

  pub change_gives : (o : UnaryOperation) (width : Width) (g : Working) (st : List ℕ) → g.ax < 65536 → Computes just_accumulator (rows.changed o width) g st (unary_value o width g.ax)
  change_gives unary.Plus width g st a = only just_accumulator i.Nop g g st g.ax (λ q. refl) (tt, refl, refl, refl, refl, refl, refl) refl a
  change_gives unary.Minus width g st a =
      let e : 0 + 65536 - (g.ax + 0) ≡ 65536 - g.ax = omega arith in
      wrapped just_accumulator refl width (i.UnaryWord changes.Neg (rm.Register Ax)) g (word_result Ax g (changed changes.Neg widths.Word g.ax g.flags)) st (0 + 65536 - (g.ax + 0)) (low width (65536 - g.ax)) (λ q. refl) (tt, refl, refl, refl, refl, refl, refl) (negated g.ax g.flags) (ap (low width) e)
  change_gives unary.Not width g st a =
      let e : 65535 - g.ax ≡ (65535 - g.ax) % 65536 = omega arith in
      wrapped just_accumulator refl width (i.UnaryWord changes.Not (rm.Register Ax)) g (word_result Ax g (changed changes.Not widths.Word g.ax g.flags)) st (65535 - g.ax) (low width (65535 - g.ax)) (λ q. refl) (tt, refl, refl, refl, refl, refl, refl) (inverted g.ax g.flags ∙ e) refl
  change_gives unary.Low width g st a = only just_accumulator clear_high g (set_byte g Ah 0) st (g.ax % 256) (λ q. refl) (tt, refl, refl, refl, refl, refl, refl) (omega arith) (omega arith)
  change_gives unary.High width g st a =
      let g1 = set_byte g Al (g.ax / 256) in
      first just_accumulator (i.MoveByte (FromRegister (rm.Register Al) Ah)) (clear_high ∷ []) g g1 st (g.ax / 256) (λ q. refl) (tt, refl, refl, refl, refl, refl, refl) (only just_accumulator clear_high g1 (set_byte g1 Ah 0) st (g.ax / 256) (λ q. refl) (tt, refl, refl, refl, refl, refl, refl) (omega (arith, a)) (omega (arith, a)))
  change_gives unary.Double width g st a = only just_accumulator i.Nop g g st g.ax (λ q. refl) (tt, refl, refl, refl, refl, refl, refl) refl a

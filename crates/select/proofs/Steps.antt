-- The steps of a routine: their rows depend on where they lead alone, and no jump leads past them.
use Rattle.std.proofs.Common.{◌≡◌, ℕ, zero, suc, ◌+◌, ◌-◌, ◌<◌, ◌≤◌, ◌%◌, List, [], ◌∷◌, ◌++◌, length, take, drop, Some, None, refl, sym, ap, ◌∙◌, arith, slice_get, append_assoc, length-append, inl, inr, ◌⊎◌, zero-add}
use Rattle.std.specs.Prelude.{Bool, true, false, nat_eq, nat_le, min, if◌then◌else◌, slice_index, slice_index_or}
use Rattle.std.proofs.lemmas.List.{length-map, append-nil, take_all}
use Rattle.std.proofs.lemmas.Bool.{cases_lt}
use Rattle.word86.specs.declared.width.Width.TheVariants as widths
use Rattle.word86.specs.declared.width.Width.{Width}
use Rattle.word86.specs.declared.place.Place.{Place}
use Rattle.word86.specs.declared.place.Place.TheVariants as places
use Rattle.word86.specs.declared.operation.UnaryOperation.{UnaryOperation}
use Rattle.word86.specs.declared.operation.UnaryOperation.TheVariants as unary
use Rattle.i86_table.specs.declared.instruction.Instr.{Instr}
use Rattle.i86_table.specs.declared.instruction.Instr.TheVariants as i
use Rattle.i86_table.specs.declared.open.Open.{Open}
use Rattle.icode.specs.declared.instruction.Instruction.{Instruction}
use Rattle.icode.specs.declared.instruction.Instruction.TheVariants as op
use Rattle.icode.specs.declared.instruction.Test.{Test}
use Rattle.icode.specs.declared.instruction.Test.TheVariants as test
use Rattle.icode.specs.declared.instruction.LowByte.{LowByte}
use Rattle.icode.specs.declared.instruction.LowByte.TheVariants as lows
use Rattle.icode.specs.declared.instruction.Right.TheVariants as rights
use Rattle.icode.specs.declared.registers.Registers.{Registers}
use Rattle.icode.specs.Heights.{target}
use Rattle.icode.specs.Made.{IsMade}
use Rattle.icode.specs.Registers.{is_direct}
use Rattle.select.specs.declared.part.Step.{Step}
use Rattle.select.specs.declared.part.Step.TheVariants.{Plain, AtStep, Word, Goto, GotoIf}
use Rattle.i86_table.specs.declared.registers.Register16.TheVariants.{Ax, Bx}
use Rattle.i86_table.specs.declared.registers.Segment.TheVariants as segments
use Rattle.i86_table.specs.declared.instruction.Base.TheVariants as bases
use Rattle.i86_table.specs.declared.instruction.RmOperand.TheVariants as rm
use Rattle.i86_table.specs.declared.instruction.Count.TheVariants as counts
use Rattle.i86_table.specs.declared.instruction.Port.TheVariants as ports
use Rattle.i86_table.specs.declared.instruction.Condition.TheVariants as conditions
use Rattle.i86_table.specs.declared.instruction.ShiftOperation.TheVariants as shifts
use Rattle.i86_table.specs.declared.instruction.AluOperation.TheVariants.{Cmp}
use Rattle.i86_table.specs.declared.open.Open.TheVariants as opens
use Rattle.select.specs.Rows.{row, rows, steps_in, first_of, routine, plain, unless, stays_in_range, again, step_added, on_place, stores, placed, saved, registers_of, given_back, changed, push, alu_number, copy, spot, from_stack, commutes, core, by_constant, then_narrow, narrow_right, low_row, low_gets, cleared}
use Rattle.select.specs.Inner.Assembly.{IsStepOf, AreSteps, nothing}
use Rattle.select.specs.Inner.Numbering.{step_at}
use Rattle.select.proofs.Cores.{some_constant}
use Rattle.select.proofs.Routines.{row_size, total, total_more}

-- the row of a Switch
abbrev switched : (n behind table : ℕ) → List Step
switched n behind table =
    Plain (alu_number Cmp Ax (n % 65536)) ∷ GotoIf conditions.NotBelow behind ∷ Plain (copy Bx Ax) ∷ Plain (i.ShiftWord shifts.Shl (rm.Register Bx) counts.One)
    ∷ AtStep (opens.JumpTo (spot (Some bases.Bx) segments.Cs)) table ∷ []

-- ---- rows that lead to the same steps and parts are the same

module _ (f g : ℕ → ℕ) (h j : ℕ → ℕ) (saves : Registers) (same : (k : ℕ) → f k ≡ g k) (alike : (q : ℕ) → h q ≡ j q) where
  row_same : (p : ℕ) (n : Instruction) → row f h saves p n ≡ row g j saves p n
  row_same p (op.Constant k) = refl
  row_same p (op.Locate x) = refl
  row_same p (op.LocateAt x) = refl
  row_same p (op.Load w x) = refl
  row_same p (op.LoadAt w x) = refl
  row_same p (op.LoadThere w) = refl
  row_same p (op.Low low high) = refl
  row_same p op.Push = refl
  row_same p (op.Pick n) = refl
  row_same p (op.Drop n) = refl
  row_same p (op.Unary o w) = refl
  row_same p (op.Binary o w) = refl
  row_same p (op.BinaryConstant o w k) = refl
  row_same p (op.BinaryPlain o w r x) = refl
  row_same p (op.Store w x) = refl
  row_same p (op.StoreAt w x) = refl
  row_same p (op.StoreThere w) = refl
  row_same p (op.StoreTop w x) = refl
  row_same p (op.StoreConstantAt w x k) = refl
  row_same p (op.Send w) = refl
  row_same p (op.SendTo w port) = refl
  row_same p (op.Receive w) = refl
  row_same p (op.ReceiveFrom w port) = refl
  row_same p (op.Ahead n) = ap (λ z. Goto z ∷ []) (same (p + n))
  row_same p (op.AheadUnless t n) = ap (unless t) (same (p + n))
  row_same p (op.Back n) = ap (λ z. Goto z ∷ []) (same (p - n))
  row_same p (op.BackUnless t n) = ap (unless t) (same (p - n))
  row_same p (op.Next w x k n) = ap (λ z. Plain (step_added w k) ∷ on_place (stores w None) x ∷ again w k z) (same (p - n))
  row_same p (op.Switch n) = ap (λ z. switched n z (f p)) (same (p + n)) ∙ ap (switched n (g (p + n))) (same p)
  row_same p (op.Case n) = ap (λ z. Word z ∷ []) (same (p + n))
  row_same p (op.Invoke q) = ap (λ z. row f (λ k. z) saves p (op.Invoke q)) (alike q)
  row_same p op.Leave = refl
  row_same p op.Enable = refl
  row_same p op.Disable = refl
  row_same p op.Halt = refl
  row_same p op.Finish = refl

  pub rows_same : (k : ℕ) (ns : List Instruction) → rows f h saves k ns ≡ rows g j saves k ns
  rows_same k [] = refl
  rows_same k (n ∷ ns) = ap (λ z. z ++ rows f h saves (k + 1) ns) (row_same (k + 1) n) ∙ ap (λ z. row g j saves (k + 1) n ++ z) (rows_same (k + 1) ns)

-- ---- each row has a step

some_of : (b : Bool) (x y : Instr) (xs ys : List Instr) → 0 < length (plain (if b then x ∷ xs else y ∷ ys))
some_of true x y xs ys = omega arith
some_of false x y xs ys = omega arith

some_step : (b : Bool) (x y : Step) (xs ys : List Step) → 0 < length (if b then x ∷ xs else y ∷ ys)
some_step true x y xs ys = omega arith
some_step false x y xs ys = omega arith

some_changed : (o : UnaryOperation) (w : Width) → 0 < length (plain (changed o w))
some_changed unary.Plus w = omega arith
some_changed unary.Minus w = omega arith
some_changed unary.Not w = omega arith
some_changed unary.Low w = omega arith
some_changed unary.High w = omega arith
some_changed unary.Double w = omega arith

some_test : (t : Test) (a : ℕ) → 0 < length (unless t a)
some_test test.Odd a = omega arith
some_test (test.Constant o k) a = omega arith
some_test (test.Plain o widths.Byte x) a = omega arith
some_test (test.Plain o widths.Word x) a = omega arith
some_test (test.Top o) a = omega arith
some_test (test.Low o (rights.Constant k)) a = omega arith
some_test (test.Low o (rights.Plain x)) a = omega arith
some_test (test.Low o rights.Top) a = omega arith
some_test (test.Named o widths.Byte x k) a = omega arith
some_test (test.Named o widths.Word x k) a = omega arith
some_test (test.OddNamed x) a = omega arith

some_low : (low : LowByte) (ns : List Instr) → 0 < length (low_row low ns)
some_low (lows.Constant k) ns = omega arith
some_low (lows.Load x) ns = omega arith
some_low (lows.LoadAt x) ns = omega arith
some_low lows.LoadThere ns = omega arith
some_low lows.Receive ns = omega arith
some_low (lows.ReceiveFrom port) ns = some_of (nat_le 256 port) _ _ _ _
some_low lows.High ns = omega arith
some_low (lows.Operate o (rights.Constant k)) ns = omega arith
some_low (lows.Operate o (rights.Plain x)) ns = omega arith
some_low (lows.Operate o rights.Top) ns = omega arith

some_end : (saves : Registers) → 0 < length (plain (given_back (registers_of saves) ++ i.InterruptReturn ∷ []))
some_end saves =
    let all = given_back (registers_of saves) ++ i.InterruptReturn ∷ [] in
    omega (arith, length-map all Plain, length-append (given_back (registers_of saves)) (i.InterruptReturn ∷ []))

row_some : (saves : Registers) (n : Instruction) → 0 < steps_in saves n
row_some saves (op.Constant k) = omega arith
row_some saves (op.Locate x) = omega arith
row_some saves (op.LocateAt x) = omega arith
row_some saves (op.Load w x) = omega arith
row_some saves (op.LoadAt w x) = omega arith
row_some saves (op.LoadThere w) = omega arith
row_some saves (op.Low low high) = some_low low (cleared high)
row_some saves op.Push = omega arith
row_some saves (op.Pick n) = some_of (nat_eq n 0) _ _ _ _
row_some saves (op.Drop n) = omega arith
row_some saves (op.Unary o w) = some_changed o w
row_some saves (op.Binary o w) = some_from_stack (commutes o)
  where
    some_from_stack : (b : Bool) → 0 < length (plain (from_stack b ++ core o w))
    some_from_stack true = omega arith
    some_from_stack false = omega arith
row_some saves (op.BinaryConstant o w k) = omega (arith, length-map (by_constant o w k) Plain, some_constant o w k)
row_some saves (op.BinaryPlain o w widths.Byte x) = omega arith
row_some saves (op.BinaryPlain o w widths.Word x) = some_step (is_direct o) _ _ _ _
row_some saves (op.Store w x) = omega arith
row_some saves (op.StoreAt w x) = omega arith
row_some saves (op.StoreThere w) = omega arith
row_some saves (op.StoreTop w x) = omega arith
row_some saves (op.StoreConstantAt w x k) = omega arith
row_some saves (op.Send w) = omega arith
row_some saves (op.SendTo w port) = some_of (nat_le 256 port) _ _ _ _
row_some saves (op.Receive w) = omega arith
row_some saves (op.ReceiveFrom w port) = some_of (nat_le 256 port) _ _ _ _
row_some saves (op.Ahead n) = omega arith
row_some saves (op.AheadUnless t n) = some_test t 0
row_some saves (op.Back n) = omega arith
row_some saves (op.BackUnless t n) = some_test t 0
row_some saves (op.Next w x k n) = omega arith
row_some saves (op.Switch n) = omega arith
row_some saves (op.Case n) = omega arith
row_some saves (op.Invoke q) = omega arith
row_some saves op.Leave = omega arith
row_some saves op.Enable = omega arith
row_some saves op.Disable = omega arith
row_some saves op.Halt = omega arith
row_some saves op.Finish = some_end saves

-- ---- the steps of a routine

rows_size : (f h : ℕ → ℕ) (saves : Registers) (k : ℕ) (ns : List Instruction) → length (rows f h saves k ns) ≡ total saves ns
rows_size f h saves k [] = refl
rows_size f h saves k (n ∷ ns) =
    omega (arith, length-append (row f h saves (k + 1) n) (rows f h saves (k + 1) ns), row_size f h saves (k + 1) n, rows_size f h saves (k + 1) ns, total_more saves n ns)

-- fewer stand before an instruction than there are
total_below : (saves : Registers) (ns : List Instruction) (k : ℕ) → k < length ns → total saves (take k ns) < total saves ns
total_below saves [] k l = absurd (omega (arith, l))
total_below saves (n ∷ ns) zero l = let none : total saves [] ≡ 0 = refl in omega (arith, none, row_some saves n, total_more saves n ns)
total_below saves (n ∷ ns) (suc k) l = omega (arith, total_more saves n (take k ns), total_more saves n ns, total_below saves ns k (omega (arith, l)))

steps_of : (part : ℕ → ℕ) (saves : Registers) (all : List Instruction) → length (routine part saves all) ≡ length (registers_of saves) + total saves all
steps_of part saves all =
    let pushes = plain (saved (registers_of saves)) in
    let one : length pushes ≡ length (saved (registers_of saves)) = length-map (saved (registers_of saves)) Plain in
    let two : length (saved (registers_of saves)) ≡ length (registers_of saves) = length-map (registers_of saves) push in
    omega (arith, one, two, length-append pushes (rows (first_of saves all) part saves 0 all), rows_size (first_of saves all) part saves 0 all)

first_inside : (part : ℕ → ℕ) (saves : Registers) (all : List Instruction) (t : ℕ) → t < length all → first_of saves all t < length (routine part saves all)
first_inside part saves all t l = omega (arith, steps_of part saves all, total_below saves all t l)

-- ---- what leads into a list of steps

abbrev Inside : ℕ → List Step → Type 0
Inside many [] = Unit {0}
Inside many (x ∷ xs) = IsStepOf many x × Inside many xs

both_inside : (many : ℕ) (xs ys : List Step) → Inside many xs → Inside many ys → Inside many (xs ++ ys)
both_inside many [] ys h e = e
both_inside many (x ∷ xs) ys h e = (h.0, both_inside many xs ys h.1 e)

plain_inside : (many : ℕ) (ns : List Instr) → Inside many (plain ns)
plain_inside many [] = tt
plain_inside many (n ∷ ns) = (tt, plain_inside many ns)

place_inside : (many : ℕ) (x : Place) (ram screen : Open) → IsStepOf many (placed x ram screen)
place_inside many (places.Ram k n) ram screen = tt
place_inside many (places.Screen page n) ram screen = tt

test_inside : (many : ℕ) (t : Test) (a : ℕ) → a < many → Inside many (unless t a)
test_inside many test.Odd a l = (tt, (l, tt))
test_inside many (test.Constant o k) a l = (tt, (l, tt))
test_inside many (test.Plain o widths.Byte x) a l = (place_inside many x _ _, (tt, (tt, (l, tt))))
test_inside many (test.Plain o widths.Word x) a l = (place_inside many x _ _, (l, tt))
test_inside many (test.Top o) a l = (tt, (tt, (l, tt)))
test_inside many (test.Low o (rights.Constant k)) a l = (tt, (l, tt))
test_inside many (test.Low o (rights.Plain x)) a l = (place_inside many x _ _, (l, tt))
test_inside many (test.Low o rights.Top) a l = (tt, (tt, (l, tt)))
test_inside many (test.Named o widths.Byte x k) a l = (place_inside many x _ _, (l, tt))
test_inside many (test.Named o widths.Word x k) a l = (place_inside many x _ _, (l, tt))
test_inside many (test.OddNamed x) a l = (place_inside many x _ _, (l, tt))

low_inside : (many : ℕ) (low : LowByte) (ns : List Instr) → Inside many (low_row low ns)
low_inside many (lows.Constant k) ns = plain_inside many (low_gets k ∷ ns)
low_inside many (lows.Load x) ns = (place_inside many x _ _, plain_inside many ns)
low_inside many (lows.LoadAt x) ns = (tt, (place_inside many x _ _, plain_inside many ns))
low_inside many lows.LoadThere ns = (tt, (tt, plain_inside many ns))
low_inside many lows.Receive ns = (tt, (tt, plain_inside many ns))
low_inside many (lows.ReceiveFrom port) ns = plain_inside many _
low_inside many lows.High ns = (tt, plain_inside many ns)
low_inside many (lows.Operate o (rights.Constant k)) ns = (tt, plain_inside many ns)
low_inside many (lows.Operate o (rights.Plain x)) ns = (place_inside many x _ _, plain_inside many ns)
low_inside many (lows.Operate o rights.Top) ns = (tt, (tt, (tt, plain_inside many ns)))

either_inside : (many : ℕ) (b : Bool) (xs ys : List Step) → Inside many xs → Inside many ys → Inside many (if b then xs else ys)
either_inside many true xs ys h e = h
either_inside many false xs ys h e = e

again_inside : (many : ℕ) (w : Width) (k a : ℕ) → a < many → Inside many (again w k a)
again_inside many widths.Byte k a l = either_inside many (nat_le 256 k) [] (GotoIf (stays_in_range k) a ∷ []) tt (l, tt)
again_inside many widths.Word k a l = (l, tt)

at_inside : (many : ℕ) (xs : List Step) → Inside many xs → (k : ℕ) → k < length xs → IsStepOf many (slice_index_or xs k nothing)
at_inside many [] h k l = absurd (omega (arith, l))
at_inside many (x ∷ xs) h zero l = h.0
at_inside many (x ∷ xs) h (suc k) l = at_inside many xs h.1 k (omega (arith, l))

module _ (many : ℕ) (f h : ℕ → ℕ) (saves : Registers) where
  -- a row leads to where its instruction does, and a Switch to its table
  row_inside : (p : ℕ) (n : Instruction) → ((t : ℕ) → target n p ≡ Some t → f t < many) → ((m : ℕ) → n ≡ op.Switch m → f p < many) → Inside many (row f h saves p n)
  row_inside p (op.Constant k) to table = (tt, tt)
  row_inside p (op.Locate x) to table = (place_inside many x _ _, tt)
  row_inside p (op.LocateAt x) to table = (place_inside many x _ _, tt)
  row_inside p (op.Load w x) to table = (place_inside many x _ _, plain_inside many _)
  row_inside p (op.LoadAt w x) to table = (tt, (place_inside many x _ _, plain_inside many _))
  row_inside p (op.LoadThere w) to table = (tt, (tt, plain_inside many _))
  row_inside p (op.Low low high) to table = low_inside many low (cleared high)
  row_inside p op.Push to table = (tt, tt)
  row_inside p (op.Pick n) to table = plain_inside many _
  row_inside p (op.Drop n) to table = (tt, tt)
  row_inside p (op.Unary o w) to table = plain_inside many _
  row_inside p (op.Binary o w) to table = plain_inside many (from_stack (commutes o) ++ core o w)
  row_inside p (op.BinaryConstant o w k) to table = plain_inside many _
  row_inside p (op.BinaryPlain o w widths.Byte x) to table = (place_inside many x _ _, plain_inside many (narrow_right widths.Byte ++ core o w))
  row_inside p (op.BinaryPlain o w widths.Word x) to table = either_inside many (is_direct o) _ _ (place_inside many x _ _, plain_inside many _) (place_inside many x _ _, plain_inside many _)
  row_inside p (op.Store w x) to table = (place_inside many x _ _, tt)
  row_inside p (op.StoreAt w x) to table = (tt, (tt, (place_inside many x _ _, tt)))
  row_inside p (op.StoreThere w) to table = (tt, (tt, (tt, tt)))
  row_inside p (op.StoreTop w x) to table = (tt, (place_inside many x _ _, tt))
  row_inside p (op.StoreConstantAt w x k) to table = (tt, (tt, (place_inside many x _ _, tt)))
  row_inside p (op.Send w) to table = (tt, (tt, (tt, tt)))
  row_inside p (op.SendTo w port) to table = plain_inside many _
  row_inside p (op.Receive w) to table = (tt, plain_inside many (then_narrow w (i.In w ports.Dx)))
  row_inside p (op.ReceiveFrom w port) to table = plain_inside many _
  row_inside p (op.Ahead n) to table = (to (p + n) refl, tt)
  row_inside p (op.AheadUnless t n) to table = test_inside many t (f (p + n)) (to (p + n) refl)
  row_inside p (op.Back n) to table = (to (p - n) refl, tt)
  row_inside p (op.BackUnless t n) to table = test_inside many t (f (p - n)) (to (p - n) refl)
  row_inside p (op.Next w x k n) to table = (tt, (place_inside many x _ _, again_inside many w k (f (p - n)) (to (p - n) refl)))
  row_inside p (op.Switch n) to table = (tt, (to (p + n) refl, (tt, (tt, (table n refl, tt)))))
  row_inside p (op.Case n) to table = (to (p + n) refl, tt)
  row_inside p (op.Invoke q) to table = (tt, tt)
  row_inside p op.Leave to table = (tt, tt)
  row_inside p op.Enable to table = (tt, (tt, tt))
  row_inside p op.Disable to table = (tt, tt)
  row_inside p op.Halt to table = (tt, (tt, tt))
  row_inside p op.Finish to table = plain_inside many _

-- the steps of made code can be assembled
pub routine_inside : (part : ℕ → ℕ) (saves : Registers) (all : List Instruction) → IsMade all → AreSteps (routine part saves all)
routine_inside part saves all made = at_inside many (routine part saves all) (both_inside many (plain (saved (registers_of saves))) (rows f part saves 0 all) (plain_inside many _) (from 0 all (λ k. ap (slice_get all) (sym (zero-add k)))))
  where
    many : ℕ
    many = length (routine part saves all)

    f : ℕ → ℕ
    f = first_of saves all

    shifted : (j k : ℕ) → j + 1 + k ≡ j + suc k
    shifted j k = omega arith

    from : (j : ℕ) (ns : List Instruction) → ((k : ℕ) → slice_get ns k ≡ slice_get all (j + k)) → Inside many (rows f part saves j ns)
    from j [] same = tt
    from j (n ∷ ns) same =
        let here : slice_get all j ≡ Some n = let z : j + 0 ≡ j = omega arith in ap (slice_get all) (sym z) ∙ sym (same 0) in
        let to : (t : ℕ) → target n (j + 1) ≡ Some t → f t < many = λ t e. first_inside part saves all t (made.inside j t n here e) in
        let table : (m : ℕ) → n ≡ op.Switch m → f (j + 1) < many = λ m e.
        first_inside part saves all (j + 1) (let far = made.inside j (j + 1 + m) n here (ap (λ z. target z (j + 1)) e) in omega (arith, far)) in
        both_inside many (row f part saves (j + 1) n) (rows f part saves (j + 1) ns) (row_inside many f part saves (j + 1) n to table)
        (from (j + 1) ns (λ k. same (suc k) ∙ ap (slice_get all) (sym (shifted j k))))

-- ---- where rows begin, as a list has it

-- past the last row
first_past : (saves : Registers) (all : List Instruction) (k : ℕ) → length all ≤ k → first_of saves all k ≡ first_of saves all (length all)
first_past saves all k l = ap (λ z. length (registers_of saves) + total saves z) (take_all k all l ∙ sym (take_all (length all) all (omega arith)))

-- no row begins past the last step
pub first_within : (part : ℕ → ℕ) (saves : Registers) (all : List Instruction) (k : ℕ) → k ≤ length all → first_of saves all k ≤ length (routine part saves all)
first_within part saves all k le = by (cases_lt k (length all))
  where
    by : (k < length all) ⊎ (length all ≤ k) → first_of saves all k ≤ length (routine part saves all)
    by (inl lt) = omega (arith, first_inside part saves all k lt)
    by (inr past) =
        let last : total saves (take k all) ≡ total saves all = ap (total saves) (take_all k all past) in
        omega (arith, steps_of part saves all, last)

pub firsts_are : (saves : Registers) (all : List Instruction) (firsts : List ℕ) → length firsts ≡ suc (length all) → ((k : ℕ) → k ≤ length all → slice_index firsts k ≡ first_of saves all k)
    → (k : ℕ) → step_at firsts k ≡ first_of saves all k
firsts_are saves all firsts many each k = by (cases_lt k (length all))
  where
    last : length firsts - 1 ≡ length all
    last = omega (arith, many)

    by : (k < length all) ⊎ (length all ≤ k) → step_at firsts k ≡ first_of saves all k
    by (inl l) = let m : min k (length firsts - 1) ≡ k = omega (arith, l, last) in ap (slice_index firsts) m ∙ each k (omega (arith, l))
    by (inr l) = let m : min k (length firsts - 1) ≡ length all = omega (arith, l, last) in ap (slice_index firsts) m ∙ each (length all) (omega arith) ∙ sym (first_past saves all k l)

-- one row more is written
pub row_written : (f h : ℕ → ℕ) (saves : Registers) (all : List Instruction) (k : ℕ) (n : Instruction) (old new whole : List Step) → drop k all ≡ n ∷ drop (k + 1) all → new ≡ old ++ row f h saves (k + 1) n
    → old ++ rows f h saves k (drop k all) ≡ whole → new ++ rows f h saves (k + 1) (drop (k + 1) all) ≡ whole
row_written f h saves all k n old new whole at is before =
    let left = rows f h saves (k + 1) (drop (k + 1) all) in
    ap (λ z. z ++ left) is ∙ append_assoc old (row f h saves (k + 1) n) left ∙ ap (λ z. old ++ rows f h saves k z) (sym at) ∙ before

-- all are
pub rows_written : (firsts : List ℕ) (part : ℕ → ℕ) (saves : Registers) (all : List Instruction) (k : ℕ) (steps : List Step) → drop k all ≡ [] → ((j : ℕ) → step_at firsts j ≡ first_of saves all j)
    → steps ++ rows (step_at firsts) part saves k (drop k all) ≡ plain (saved (registers_of saves)) ++ rows (step_at firsts) part saves 0 all → steps ≡ routine part saves all
rows_written firsts part saves all k steps none firsts_are is =
    sym (append-nil steps) ∙ ap (λ z. steps ++ rows (step_at firsts) part saves k z) (sym none) ∙ is
    ∙ ap (λ z. plain (saved (registers_of saves)) ++ z) (rows_same (step_at firsts) (first_of saves all) part part saves firsts_are (λ q. refl) 0 all)

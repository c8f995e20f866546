-- The rows of a routine stand one after another.
use Rattle.std.proofs.Common.{◌≡◌, ℕ, zero, suc, ◌+◌, ◌<◌, List, [], ◌∷◌, length, take, Option, Some, None, refl, sym, ap, ◌∙◌, subst, arith, slice_get, zero-add}
use Rattle.std.specs.Prelude.{map, Bool, true, false, nat_eq, nat_le, if◌then◌else◌}
use Rattle.std.specs.Prelude as prelude
use Rattle.std.proofs.lemmas.List.Sums.{sum_by-cons}
use Rattle.std.proofs.lemmas.List.{length-map}
use Rattle.word86.specs.declared.width.Width.{Width}
use Rattle.word86.specs.declared.width.Width.TheVariants as widths
use Rattle.i86_table.specs.declared.instruction.Instr.{Instr}
use Rattle.icode.specs.declared.instruction.Instruction.{Instruction}
use Rattle.icode.specs.declared.instruction.Instruction.TheVariants as op
use Rattle.icode.specs.declared.instruction.Test.{Test}
use Rattle.icode.specs.declared.instruction.Test.TheVariants as test
use Rattle.icode.specs.declared.instruction.Right.TheVariants as rights
use Rattle.icode.specs.declared.registers.Registers.{Registers}
use Rattle.select.specs.declared.part.Step.{Step}
use Rattle.select.specs.declared.part.Step.TheVariants.{GotoIf}
use Rattle.select.specs.Linked.{AllStand}
use Rattle.select.specs.Rows.{row, rows, steps_in, first_of, routine, plain, unless, stays_in_range, again, by_read, narrow_sum, loads_right, on_place, core, narrow_right, direct, spot, registers_of, saved}
use Rattle.select.proofs.Chains

-- the number of steps does not depend on where they lead
unless_size : (t : Test) (a b : ℕ) → length (unless t a) ≡ length (unless t b)
unless_size test.Odd a b = refl
unless_size (test.Constant o k) a b = refl
unless_size (test.Plain o widths.Byte x) a b = refl
unless_size (test.Plain o widths.Word x) a b = refl
unless_size (test.Top o) a b = refl
unless_size (test.Low o (rights.Constant k)) a b = refl
unless_size (test.Low o (rights.Plain x)) a b = refl
unless_size (test.Low o rights.Top) a b = refl
unless_size (test.Named o widths.Byte x k) a b = refl
unless_size (test.Named o widths.Word x k) a b = refl
unless_size (test.OddNamed x) a b = refl

again_size : (w : Width) (k a b : ℕ) → length (again w k a) ≡ length (again w k b)
again_size widths.Byte k a b = by (nat_le 256 k)
  where
    by : (c : Bool) → length (if c then [] else GotoIf (stays_in_range k) a ∷ []) ≡ length (if c then [] else GotoIf (stays_in_range k) b ∷ [])
    by true = refl
    by false = refl
again_size widths.Word k a b = refl

pub row_size : (first : ℕ → ℕ) (part : ℕ → ℕ) (saves : Registers) (p : ℕ) (n : Instruction) → length (row first part saves p n) ≡ steps_in saves n
row_size first part saves p (op.Constant k) = refl
row_size first part saves p (op.Locate x) = refl
row_size first part saves p (op.LocateAt x) = refl
row_size first part saves p (op.Load width x) = refl
row_size first part saves p (op.LoadAt width x) = refl
row_size first part saves p (op.LoadThere width) = refl
row_size first part saves p (op.Low low high) = refl
row_size first part saves p op.Push = refl
row_size first part saves p (op.Pick n) = refl
row_size first part saves p (op.Drop n) = refl
row_size first part saves p (op.Unary o width) = refl
row_size first part saves p (op.Binary o width) = refl
row_size first part saves p (op.BinaryConstant o width k) = refl
row_size first part saves p (op.BinaryPlain o width read x) = refl
row_size first part saves p (op.Store width x) = refl
row_size first part saves p (op.StoreAt width x) = refl
row_size first part saves p (op.StoreThere width) = refl
row_size first part saves p (op.StoreTop width x) = refl
row_size first part saves p (op.StoreConstantAt width x k) = refl
row_size first part saves p (op.Send width) = refl
row_size first part saves p (op.SendTo width port) = refl
row_size first part saves p (op.Receive width) = refl
row_size first part saves p (op.ReceiveFrom width port) = refl
row_size first part saves p (op.Ahead n) = refl
row_size first part saves p (op.AheadUnless t n) = unless_size t (first (p + n)) 0
row_size first part saves p (op.Back n) = refl
row_size first part saves p (op.BackUnless t n) = unless_size t _ 0
row_size first part saves p (op.Next width x k n) = ap (λ m. suc (suc m)) (again_size width k _ 0)
row_size first part saves p (op.Switch n) = refl
row_size first part saves p (op.Case n) = refl
row_size first part saves p (op.Invoke q) = refl
row_size first part saves p op.Leave = refl
row_size first part saves p op.Enable = refl
row_size first part saves p op.Disable = refl
row_size first part saves p op.Halt = refl
row_size first part saves p op.Finish = refl

-- one instruction more
abbrev pub total : Registers → List Instruction → ℕ
total saves xs = prelude.sum (map (steps_in saves) xs)

pub total_more : (saves : Registers) (y : Instruction) (ys : List Instruction) → total saves (y ∷ ys) ≡ steps_in saves y + total saves ys
total_more saves y ys = sum_by-cons (λ z. z) (steps_in saves y) (map (steps_in saves) ys)

taken_more : (saves : Registers) (xs : List Instruction) (k : ℕ) (n : Instruction) → slice_get xs k ≡ Some n → total saves (take (suc k) xs) ≡ total saves (take k xs) + steps_in saves n
taken_more saves [] k n e = absurd (cc)
taken_more saves (y ∷ xs) zero n e =
    let is : steps_in saves y ≡ steps_in saves n = ap size_or e in
    omega (arith, is, total_more saves y [])
  where
    size_or : Option Instruction → ℕ
    size_or (Some m) = steps_in saves m
    size_or None = 0
taken_more saves (y ∷ xs) (suc k) n e = omega (arith, total_more saves y (take (suc k) xs), total_more saves y (take k xs), taken_more saves xs k n e)

pub first_more : (saves : Registers) (xs : List Instruction) (k : ℕ) (n : Instruction) → slice_get xs k ≡ Some n → first_of saves xs (k + 1) ≡ first_of saves xs k + steps_in saves n
first_more saves xs k n e =
    let next : k + 1 ≡ suc k = omega arith in
    let b = length (registers_of saves) in
    let more : total saves (take (k + 1) xs) ≡ total saves (take k xs) + steps_in saves n = ap (λ z. total saves (take z xs)) next ∙ taken_more saves xs k n e in
    omega (arith, more)

module _ (code : ℕ → Option (Instr × ℕ)) (words : ℕ → Option ℕ) (offsets places : List ℕ) (part : ℕ → ℕ) (at : ℕ → ℕ) (low : (j : ℕ) → at j < 65536) (saves : Registers) (all : List Instruction) where
  abbrev first : ℕ → ℕ
  first = first_of saves all

  -- the rows from an index on
  rows_from : (xs : List Instruction) (j : ℕ) → ((i : ℕ) → slice_get xs i ≡ slice_get all (j + i)) → AllStand code words offsets places at (first j) (rows first part saves j xs)
      → (i : ℕ) (n : Instruction) → slice_get xs i ≡ Some n → AllStand code words offsets places at (first (j + i)) (row first part saves (j + i + 1) n)
  rows_from [] j same s i n e = absurd (cc)
  rows_from (y ∷ xs) j same s zero n e =
      let at_zero : j + 0 ≡ j = omega arith in
      let is : y ≡ n = ap (λ (o : Option Instruction). or_else o y) e in
      subst (λ z. AllStand code words offsets places at (first z) (row first part saves (z + 1) n)) (sym at_zero)
      (subst (λ z. AllStand code words offsets places at (first j) (row first part saves (j + 1) z)) is
      (Chains.front code words offsets places at low (row first part saves (j + 1) y) (rows first part saves (j + 1) xs) (first j) s))
    where
      or_else : Option Instruction → Instruction → Instruction
      or_else (Some n) m = n
      or_else None m = m
  rows_from (y ∷ xs) j same s (suc i) n e =
      let next : j + 1 + i ≡ j + suc i = omega arith in
      let here : slice_get all j ≡ Some y = let z : j + 0 ≡ j = omega arith in ap (slice_get all) (sym z) ∙ sym (same zero) in
      let rest = Chains.later code words offsets places at low (row first part saves (j + 1) y) (rows first part saves (j + 1) xs) (first j) s in
      let place : first j + length (row first part saves (j + 1) y) ≡ first (j + 1) = ap (λ z. first j + z) (row_size first part saves (j + 1) y) ∙ sym (first_more saves all j y here) in
      subst (λ z. AllStand code words offsets places at (first z) (row first part saves (z + 1) n)) next
      (rows_from xs (j + 1) (λ i. same (suc i) ∙ ap (slice_get all) (sym (later_index i))) (subst (λ z. AllStand code words offsets places at z (rows first part saves (j + 1) xs)) place rest) i n e)
    where
      later_index : (i : ℕ) → j + 1 + i ≡ j + suc i
      later_index i = omega arith

  saved_size : length (plain (saved (registers_of saves))) ≡ first 0
  saved_size =
      let none : total saves [] ≡ 0 = refl in
      let sizes : length (plain (saved (registers_of saves))) ≡ length (registers_of saves) = length-map (saved (registers_of saves)) Rattle.select.specs.declared.part.Step.TheVariants.Plain ∙ length-map (registers_of saves) Rattle.select.specs.Rows.push in
      omega (arith, sizes, none)

  pub row_stands : AllStand code words offsets places at 0 (routine part saves all) → (k : ℕ) (n : Instruction) → slice_get all k ≡ Some n
      → Chains.From code words offsets places at (at (first k)) (row first part saves (k + 1) n) (at (first (k + 1)))
  row_stands s k n e =
      let rest = Chains.later code words offsets places at low (plain (saved (registers_of saves))) (rows first part saves 0 all) 0 s in
      let begin : 0 + length (plain (saved (registers_of saves))) ≡ first 0 = omega (arith, saved_size) in
      let stand = rows_from all 0 (λ i. ap (slice_get all) (sym (zero-add i))) (subst (λ z. AllStand code words offsets places at z (rows first part saves 0 all)) begin rest) k n e in
      let stand_k = subst (λ z. AllStand code words offsets places at (first z) (row first part saves (z + 1) n)) (zero-add k) stand in
      let end : first k + length (row first part saves (k + 1) n) ≡ first (k + 1) = ap (λ z. first k + z) (row_size first part saves (k + 1) n) ∙ sym (first_more saves all k n e) in
      subst (λ z. Chains.From code words offsets places at (at (first k)) (row first part saves (k + 1) n) (at z)) end (Chains.from_all code words offsets places at low (row first part saves (k + 1) n) (first k) stand_k)

  -- the pushes come first
  pub saves_stand : AllStand code words offsets places at 0 (routine part saves all)
      → Chains.From code words offsets places at (at 0) (plain (saved (registers_of saves))) (at (first 0))
  saves_stand s =
      let begin : 0 + length (plain (saved (registers_of saves))) ≡ first 0 = omega (arith, saved_size) in
      subst (λ z. Chains.From code words offsets places at (at 0) (plain (saved (registers_of saves))) (at z)) begin
      (Chains.from_all code words offsets places at low (plain (saved (registers_of saves))) 0 (Chains.front code words offsets places at low (plain (saved (registers_of saves))) (rows first part saves 0 all) 0 s))

-- How many values the code of trees has pushed at most: its peak. The code of an expression leaves as many pushed as there were.
use Rattle.std.proofs.Common.{◌≡◌, ℕ, zero, suc, ◌+◌, ◌≤◌, Bool, true, false, List, [], ◌∷◌, ◌++◌, length, take, Option, Some, None, refl, sym, subst, arith, slice_get}
use Rattle.std.specs.Prelude.{cond, nat_eq, ◌%◌, max}
use Rattle.word86.specs.declared.place.Place.{Place}
use Rattle.word86.specs.declared.width.Width.{Width}
use Rattle.word86.specs.declared.width.Width.TheVariants as widths
use Rattle.word86.specs.declared.operation.UnaryOperation.{UnaryOperation}
use Rattle.word86.specs.declared.operation.UnaryOperation.TheVariants as unary
use Rattle.word86.specs.declared.operation.BinaryOperation.{BinaryOperation}
use Rattle.word86.specs.declared.operation.BinaryOperation.TheVariants as binary
use Rattle.word86.specs.Access.{Where}
use Rattle.plm_type.specs.declared.program.Counting.{Counting}
use Rattle.plm_type.specs.declared.program.Counting.TheVariants as counting
use Rattle.plm_type.specs.Rest.{Anchor, InObject, OnScreen, Behind, There, Scalar, Expression, Constant, Plain, Variable, Location, Unary, Binary, Embedded, Input, Call, Value, Passing, Running, Expressions, NoMore, More, Reference, Refer, Subscripts, NoSubscripts, Subscript, Target, ToPlain, ToVariable, ToPort, Targets, Only, Also, Count, Statement, Empty, Assign, Evaluate, Return, ReturnValue, Enabling, Disabling, Halting, If, Block, While, Case, Iterate, Leaving, Round, Comparing, Stepping, Adding, Storing, Ending, Statements, End, Then, Returned, Procedure}
use Rattle.plm_type.specs.Next.{parameters_of}
use Rattle.icode.specs.declared.instruction.Instruction.{Instruction}
use Rattle.icode.specs.declared.instruction.Instruction.TheVariants as op
use Rattle.icode.specs.declared.instruction.LowByte.TheVariants as lows
use Rattle.icode.specs.declared.instruction.High.TheVariants as highs
use Rattle.icode.specs.declared.instruction.Right.TheVariants as rights
use Rattle.icode.specs.declared.instruction.Direct.{Direct}
use Rattle.icode.specs.declared.instruction.Relation.{Relation}
use Rattle.icode.specs.declared.instruction.Test.{Test}
use Rattle.icode.specs.Heights.{popped, after, behind, height}
use Rattle.lower.specs.Expressions.{leads_to, by_offset, folded, unless_known, number_of, Operand, Number, Name, Computed, operand_of, place_of, beside, operation, anchor_place, scaled, moved, based, reading, locating, writing, receiving, sending, passing, alone, count_of, relation_of, stands_to, gives, used, expression_code, first_code, pushed_code, subscripts_code, further_code, target_code, calling, dropped_code, targets_code, stored_in, argument_code, second_passed, pair}
use Rattle.lower.specs.Statements.{all_stay, ended_by, Kind, OfMain, Called, Giving, Serving, returning, narrowed, within, next_by_number, add_pushed, next_round, are_silent, over, failing, choosing, all_of, entries, switching, exit_before, statement_code, statements_code, cases_code, ending, routine_code, while_loop, counts_bytes, index_read}
use Rattle.lower.specs.LowBytes.{low_top, low_constant, low_operation, low_code, direct_of, by_operator, take_bytes, given_code, low_reading, low_receiving, takes_byte, unless_low_known, operand_code, low_changing, returned_code, low_load}
use Rattle.lower.specs.Conditions.{low_stands_to, related, are_bytes, named, or_test, unless_named, compared_by, asked, test_of, compared, asking, comparison_code, condition_code, always}
use Rattle.lower.proofs.Heights.{low_constant_after, low_top_after}
use Rattle.lower.proofs.InPlace.{by_named}
use Rattle.lower.specs.Inner.Assignments.{assigned_code}
use Rattle.lower.proofs.Stores.{assigned}

-- ---- peaks of typed trees

-- a constant port is not computed
abbrev pub port_peak : Expression → ℕ → ℕ
port_peak (Constant k) n = 0
port_peak e n = suc n

abbrev mutual
  pub peak : Expression → ℕ
  peak (Constant k) = 0
  peak (Plain width x) = 0
  peak (Variable width r) = reference_peak r
  peak (Location r) = reference_peak r
  peak (Unary o width e) = peak e
  peak (Binary module_index line o width a b) = max (peak a) (suc (peak b))
  peak (Embedded t e) = max (peak e) (target_peak t)
  peak (Input width e) = peak e
  peak (Call p es) = pushed_peak es
  peak (Value v) = 0
  peak (Passing p xs vs) = 0
  peak (Running ss) = 0

  pub pushed_peak : Expressions → ℕ
  pushed_peak NoMore = 0
  pushed_peak (More e es) = max (peak e) (suc (pushed_peak es))

  pub reference_peak : Reference → ℕ
  reference_peak (Refer module_index line anchor offset ss) = subscripts_peak ss

  pub subscripts_peak : Subscripts → ℕ
  subscripts_peak NoSubscripts = 0
  subscripts_peak (Subscript stride e more) = max (suc (peak e)) (subscripts_peak more)

  pub target_peak : Target → ℕ
  target_peak (ToPlain width x) = 0
  target_peak (ToVariable width r) = suc (reference_peak r)
  target_peak (ToPort width e) = port_peak e (peak e)

abbrev pub targets_peak : Targets → ℕ
targets_peak (Only t) = target_peak t
targets_peak (Also t ts) = max (target_peak t) (targets_peak ts)

abbrev mutual
  pub statement_peak : Statement → ℕ
  statement_peak (Assign ts e) = max (peak e) (targets_peak ts)
  statement_peak (Evaluate e) = peak e
  statement_peak (ReturnValue width e) = peak e
  statement_peak (If c arm other) = max (peak c) (max (statements_peak arm) (statements_peak other))
  statement_peak (Block ss) = statements_peak ss
  statement_peak (While c d ss) = max (peak d) (statements_peak ss)
  statement_peak (Case e ss) = max (peak e) (statements_peak ss)
  statement_peak (Iterate a (Count o x bound step ss)) = max (max (max (peak a) (suc (peak bound))) (max (peak step) 2)) (statements_peak ss)
  statement_peak _ = 0

  pub statements_peak : Statements → ℕ
  statements_peak End = 0
  statements_peak (Then s later) = max (statement_peak s) (statements_peak later)
  statements_peak (Returned v) = 0

-- ---- code that stays below a height

-- from height h to height j, and never above m
abbrev pub Stays : (m h j : ℕ) → List Instruction → Type 0
Stays m h j [] = (h ≤ m) × (h ≡ j)
Stays m h j (x ∷ xs) = (h ≤ m) × Stays m (after x h) j xs

pub begins : (m h j : ℕ) (xs : List Instruction) → Stays m h j xs → h ≤ m
begins m h j [] s = s.0
begins m h j (x ∷ xs) s = s.0

pub ends : (m h j : ℕ) (xs : List Instruction) → Stays m h j xs → j ≤ m
ends m h j [] s = omega (arith, s.0, s.1)
ends m h j (x ∷ xs) s = ends m (after x h) j xs s.1

pub then_stays : (m h j i : ℕ) (xs ys : List Instruction) → Stays m h j xs → Stays m j i ys → Stays m h i (xs ++ ys)
then_stays m h j i [] ys s t = subst (λ n. Stays m n i ys) (sym s.1) t
then_stays m h j i (x ∷ xs) ys s t = (s.0, then_stays m (after x h) j i xs ys s.1 t)

-- an instruction leads from h to i
pub step_stays : (m h i j : ℕ) (x : Instruction) (xs : List Instruction) → h ≤ m → after x h ≡ i → Stays m i j xs → Stays m h j (x ∷ xs)
step_stays m h i j x xs le e s = (le, subst (λ n. Stays m n j xs) (sym e) s)

pub last_stays : (m h i : ℕ) (x : Instruction) → h ≤ m → after x h ≡ i → i ≤ m → Stays m h i (x ∷ [])
last_stays m h i x le e up = step_stays m h i i x [] le e (up, refl)

pub low : (m h j : ℕ) (xs : List Instruction) → Stays m h j xs → (k : ℕ) → behind h (take k xs) ≤ m
low m h j [] s zero = s.0
low m h j [] s (suc k) = s.0
low m h j (x ∷ xs) s zero = s.0
low m h j (x ∷ xs) s (suc k) = low m (after x h) j xs s.1 k

-- ---- parts of expressions

chosen_stays : (m h : ℕ) (b : Bool) (x : Instruction) → after x h ≡ h → h ≤ m → Stays m h h (cond b [] (x ∷ []))
chosen_stays m h true x e le = (le, refl)
chosen_stays m h false x e le = last_stays m h h x le e le

scaled_stays : (m h stride : ℕ) → h ≤ m → Stays m h h (scaled stride)
scaled_stays m h stride le = chosen_stays m h (nat_eq stride 1) (op.BinaryConstant binary.Multiply widths.Word (stride % 65536)) refl le

moved_stays : (m h offset : ℕ) → h ≤ m → Stays m h h (moved offset)
moved_stays m h offset le = chosen_stays m h (nat_eq offset 0) (op.BinaryConstant binary.Add widths.Word (offset % 65536)) refl le

based_stays : (m h : ℕ) (base : Where) (offset : ℕ) (ss : Subscripts) → h ≤ m → Stays m h h (based base offset ss)
based_stays m h base offset NoSubscripts le = (le, moved_stays m h offset le)
based_stays m h base offset (Subscript stride e more) le = (le, moved_stays m h offset le)

reading_stays : (m h : ℕ) (width : Width) (anchor : Anchor) (offset : ℕ) (ss : Subscripts) → h ≤ m → Stays m h h (reading width anchor offset ss)
reading_stays m h width (Behind base) offset ss le = then_stays m h h h (based base offset ss) (op.LoadThere width ∷ []) (based_stays m h base offset ss le) (last_stays m h h (op.LoadThere width) le refl le)
reading_stays m h width (InObject k start size) offset NoSubscripts le = last_stays m h h (op.Load width (anchor_place (InObject k start size) offset)) le refl le
reading_stays m h width (InObject k start size) offset (Subscript stride e more) le = last_stays m h h (op.LoadAt width (anchor_place (InObject k start size) offset)) le refl le
reading_stays m h width (OnScreen page start size) offset NoSubscripts le = last_stays m h h (op.Load width (anchor_place (OnScreen page start size) offset)) le refl le
reading_stays m h width (OnScreen page start size) offset (Subscript stride e more) le = last_stays m h h (op.LoadAt width (anchor_place (OnScreen page start size) offset)) le refl le
reading_stays m h width (There address) offset NoSubscripts le = last_stays m h h (op.Load width (anchor_place (There address) offset)) le refl le
reading_stays m h width (There address) offset (Subscript stride e more) le = last_stays m h h (op.LoadAt width (anchor_place (There address) offset)) le refl le

locating_stays : (m h : ℕ) (anchor : Anchor) (offset : ℕ) (ss : Subscripts) → h ≤ m → Stays m h h (locating anchor offset ss)
locating_stays m h (Behind base) offset ss le = based_stays m h base offset ss le
locating_stays m h (InObject k start size) offset NoSubscripts le = last_stays m h h (op.Locate (anchor_place (InObject k start size) offset)) le refl le
locating_stays m h (InObject k start size) offset (Subscript stride e more) le = last_stays m h h (op.LocateAt (anchor_place (InObject k start size) offset)) le refl le
locating_stays m h (OnScreen page start size) offset NoSubscripts le = last_stays m h h (op.Locate (anchor_place (OnScreen page start size) offset)) le refl le
locating_stays m h (OnScreen page start size) offset (Subscript stride e more) le = last_stays m h h (op.LocateAt (anchor_place (OnScreen page start size) offset)) le refl le
locating_stays m h (There address) offset NoSubscripts le = last_stays m h h (op.Locate (anchor_place (There address) offset)) le refl le
locating_stays m h (There address) offset (Subscript stride e more) le = last_stays m h h (op.LocateAt (anchor_place (There address) offset)) le refl le

-- what is pushed is used up
spends : (m h : ℕ) (x : Instruction) → after x (suc h) ≡ h → suc h ≤ m → Stays m (suc h) h (x ∷ [])
spends m h x e le = last_stays m (suc h) h x le e (omega (arith, le))

pushes : (m h j : ℕ) (xs : List Instruction) → Stays m (suc h) j xs → Stays m h j (op.Push ∷ xs)
pushes m h j xs s = let le = begins m (suc h) j xs s in step_stays m h (suc h) j op.Push xs (omega (arith, le)) refl s

at_stays : (m h : ℕ) (width : Width) (anchor : Anchor) (offset : ℕ) (code : List Instruction) → Stays m (suc h) (suc h) code → Stays m h h (op.Push ∷ (code ++ op.StoreAt width (anchor_place anchor offset) ∷ []))
at_stays m h width anchor offset code s =
    let x = op.StoreAt width (anchor_place anchor offset) in
    pushes m h h (code ++ x ∷ []) (then_stays m (suc h) (suc h) h code (x ∷ []) s (spends m h x (omega arith) (begins m (suc h) (suc h) code s)))

writing_stays : (m h : ℕ) (width : Width) (anchor : Anchor) (offset : ℕ) (ss : Subscripts) (code : List Instruction) → Stays m (suc h) (suc h) code → Stays m h h (writing width anchor offset ss code)
writing_stays m h width (Behind base) offset ss code s =
    let le = begins m (suc h) (suc h) code s in
    pushes m h h (code ++ (based base offset ss ++ op.StoreThere width ∷ [])) (then_stays m (suc h) (suc h) h code (based base offset ss ++ op.StoreThere width ∷ []) s
    (then_stays m (suc h) (suc h) h (based base offset ss) (op.StoreThere width ∷ []) (based_stays m (suc h) base offset ss le) (spends m h (op.StoreThere width) (omega arith) le)))
writing_stays m h width (InObject k start size) offset NoSubscripts code s =
    let le = begins m (suc h) (suc h) code s in last_stays m h h (op.Store width (anchor_place (InObject k start size) offset)) (omega (arith, le)) refl (omega (arith, le))
writing_stays m h width (InObject k start size) offset (Subscript stride e more) code s = at_stays m h width (InObject k start size) offset code s
writing_stays m h width (OnScreen page start size) offset NoSubscripts code s =
    let le = begins m (suc h) (suc h) code s in last_stays m h h (op.Store width (anchor_place (OnScreen page start size) offset)) (omega (arith, le)) refl (omega (arith, le))
writing_stays m h width (OnScreen page start size) offset (Subscript stride e more) code s = at_stays m h width (OnScreen page start size) offset code s
writing_stays m h width (There address) offset NoSubscripts code s =
    let le = begins m (suc h) (suc h) code s in last_stays m h h (op.Store width (anchor_place (There address) offset)) (omega (arith, le)) refl (omega (arith, le))
writing_stays m h width (There address) offset (Subscript stride e more) code s = at_stays m h width (There address) offset code s

receiving_stays : (m h : ℕ) (width : Width) (o : Operand) (code : List Instruction) → Stays m h h code → Stays m h h (receiving width o code)
receiving_stays m h width (Number port) code s = let le = begins m h h code s in last_stays m h h (op.ReceiveFrom width port) le refl le
receiving_stays m h width (Name read x) code s = let le = begins m h h code s in then_stays m h h h code (op.Receive width ∷ []) s (last_stays m h h (op.Receive width) le refl le)
receiving_stays m h width Computed code s = let le = begins m h h code s in then_stays m h h h code (op.Receive width ∷ []) s (last_stays m h h (op.Receive width) le refl le)

-- of a port that is not constant
sent_stays : (m h : ℕ) (width : Width) (code : List Instruction) → Stays m (suc h) (suc h) code → Stays m h h (op.Push ∷ (code ++ op.Send width ∷ []))
sent_stays m h width code s = pushes m h h (code ++ op.Send width ∷ []) (then_stays m (suc h) (suc h) h code (op.Send width ∷ []) s (spends m h (op.Send width) (omega arith) (begins m (suc h) (suc h) code s)))

operated_stays : (m h : ℕ) (o : BinaryOperation) (width : Width) (right : Operand) (code : List Instruction) → Stays m (suc h) (suc h) code → Stays m h h (beside right code ++ operation o width right ∷ [])
operated_stays m h o width (Number k) code s = let le = begins m (suc h) (suc h) code s in last_stays m h h (op.BinaryConstant o width k) (omega (arith, le)) refl (omega (arith, le))
operated_stays m h o width (Name read x) code s = let le = begins m (suc h) (suc h) code s in last_stays m h h (op.BinaryPlain o width read x) (omega (arith, le)) refl (omega (arith, le))
operated_stays m h o width Computed code s =
    pushes m h h (code ++ op.Binary o width ∷ []) (then_stays m (suc h) (suc h) h code (op.Binary o width ∷ []) s (spends m h (op.Binary o width) (omega arith) (begins m (suc h) (suc h) code s)))

low_operated_stays : (m h : ℕ) (d : Direct) (o : BinaryOperation) (right : Operand) (code : List Instruction) → Stays m (suc h) (suc h) code → Stays m h h (beside right code ++ low_operation d o right ∷ [])
low_operated_stays m h d o (Number k) code s = let le = begins m (suc h) (suc h) code s in last_stays m h h (low_constant d o k) (omega (arith, le)) (low_constant_after d o k h) (omega (arith, le))
low_operated_stays m h d o (Name widths.Byte x) code s = let le = begins m (suc h) (suc h) code s in last_stays m h h (op.Low (lows.Operate d (rights.Plain x)) highs.Kept) (omega (arith, le)) refl (omega (arith, le))
low_operated_stays m h d o (Name widths.Word x) code s = let le = begins m (suc h) (suc h) code s in last_stays m h h (op.BinaryPlain o widths.Word widths.Word x) (omega (arith, le)) refl (omega (arith, le))
low_operated_stays m h d o Computed code s =
    let last = low_top d o in
    pushes m h h (code ++ last ∷ []) (then_stays m (suc h) (suc h) h code (last ∷ []) s (spends m h last (low_top_after d o h) (begins m (suc h) (suc h) code s)))

low_binary_stays : (m h : ℕ) (q : Option Direct) (o : BinaryOperation) (right : Operand) (left code whole : List Instruction) → Stays m h h left → Stays m (suc h) (suc h) code → Stays m h h whole
    → Stays m h h (by_operator q (λ d. left ++ (beside right code ++ low_operation d o right ∷ [])) whole)
low_binary_stays m h (Some d) o right left code whole s t w = then_stays m h h h left (beside right code ++ low_operation d o right ∷ []) s (low_operated_stays m h d o right code t)
low_binary_stays m h None o right left code whole s t w = w

low_reading_stays : (m h : ℕ) (anchor : Anchor) (offset : ℕ) (ss : Subscripts) → h ≤ m → Stays m h h (low_reading anchor offset ss)
low_reading_stays m h (Behind base) offset ss le =
    let there = op.Low lows.LoadThere highs.Kept in then_stays m h h h (based base offset ss) (there ∷ []) (based_stays m h base offset ss le) (last_stays m h h there le refl le)
low_reading_stays m h (InObject k start size) offset NoSubscripts le = last_stays m h h (op.Low (lows.Load (anchor_place (InObject k start size) offset)) highs.Kept) le refl le
low_reading_stays m h (InObject k start size) offset (Subscript stride e more) le = last_stays m h h (op.Low (lows.LoadAt (anchor_place (InObject k start size) offset)) highs.Kept) le refl le
low_reading_stays m h (OnScreen page start size) offset NoSubscripts le = last_stays m h h (op.Low (lows.Load (anchor_place (OnScreen page start size) offset)) highs.Kept) le refl le
low_reading_stays m h (OnScreen page start size) offset (Subscript stride e more) le = last_stays m h h (op.Low (lows.LoadAt (anchor_place (OnScreen page start size) offset)) highs.Kept) le refl le
low_reading_stays m h (There address) offset NoSubscripts le = last_stays m h h (op.Low (lows.Load (anchor_place (There address) offset)) highs.Kept) le refl le
low_reading_stays m h (There address) offset (Subscript stride e more) le = last_stays m h h (op.Low (lows.LoadAt (anchor_place (There address) offset)) highs.Kept) le refl le

low_receiving_stays : (m h : ℕ) (o : Operand) (code : List Instruction) → Stays m h h code → Stays m h h (low_receiving o code)
low_receiving_stays m h (Number port) code s = let le = begins m h h code s in last_stays m h h (op.Low (lows.ReceiveFrom port) highs.Kept) le refl le
low_receiving_stays m h (Name read x) code s = let le = begins m h h code s in then_stays m h h h code (op.Low lows.Receive highs.Kept ∷ []) s (last_stays m h h (op.Low lows.Receive highs.Kept) le refl le)
low_receiving_stays m h Computed code s = let le = begins m h h code s in then_stays m h h h code (op.Low lows.Receive highs.Kept ∷ []) s (last_stays m h h (op.Low lows.Receive highs.Kept) le refl le)

either_stays : (b : Bool) (m h : ℕ) (one other : List Instruction) → Stays m h h one → Stays m h h other → Stays m h h (cond b one other)
either_stays true m h one other s t = s
either_stays false m h one other s t = t

-- after a right operand comes its test
beside_stays : (m : ℕ) (o : Relation) (right : Operand) (code : List Instruction) → Stays m 1 1 code → Stays m 0 (popped (stands_to o right)) (beside right code)
beside_stays m o (Number k) code s = (omega arith, refl)
beside_stays m o (Name read x) code s = (omega arith, refl)
beside_stays m o Computed code s = pushes m 0 1 code s

low_beside_stays : (m : ℕ) (o : Relation) (right : Operand) (code : List Instruction) → Stays m 1 1 code → Stays m 0 (popped (low_stands_to o right)) (beside right code)
low_beside_stays m o (Number k) code s = (omega arith, refl)
low_beside_stays m o (Name read x) code s = (omega arith, refl)
low_beside_stays m o Computed code s = pushes m 0 1 code s

passing_stays : (m h : ℕ) (xs : List Scalar) → h ≤ m → Stays m h h (passing xs)
passing_stays m h [] le = (le, refl)
passing_stays m h (x ∷ xs) le = (le, (le, passing_stays m h xs le))

argument_stays : (m h : ℕ) (w : Width) (o : Operand) (code : List Instruction) → h ≤ m → Stays m h h code → Stays m h h (argument_code w o code)
argument_stays m h widths.Byte (Number k) code le s = last_stays m h h (op.Low (lows.Constant k) highs.Kept) le refl le
argument_stays m h widths.Byte (Name widths.Byte y) code le s = last_stays m h h (op.Low (lows.Load y) highs.Kept) le refl le
argument_stays m h widths.Byte (Name widths.Word y) code le s = s
argument_stays m h widths.Byte Computed code le s = s
argument_stays m h widths.Word o code le s = s

alone_stays : (m h : ℕ) (xs : List Scalar) (o : Operand) (code : List Instruction) → h ≤ m → Stays m h h code → Stays m h h (alone xs o code)
alone_stays m h [] o code le s = s
alone_stays m h (x ∷ xs) o code le s = then_stays m h h h (argument_code x.width o code) (stored_in x ∷ []) (argument_stays m h x.width o code le s) (last_stays m h h (stored_in x) le refl le)

stored_both : (m h : ℕ) (x y : Scalar) → suc h ≤ m → Stays m (suc h) h (op.StoreTop x.width (place_of x.place) ∷ stored_in y ∷ [])
stored_both m h x y le = step_stays m (suc h) h h (op.StoreTop x.width (place_of x.place)) (stored_in y ∷ []) le (omega arith) (last_stays m h h (stored_in y) (omega (arith, le)) refl (omega (arith, le)))

second_stays : (m h : ℕ) (x y : Scalar) (o : Operand) (code : List Instruction) → suc h ≤ m → Stays m h h code → Stays m (suc h) (suc h) code → Stays m h h (second_passed x y o code)
second_stays m h x y (Number k) code le s t =
    step_stays m h h h (stored_in x) (argument_code y.width (Number k) code ++ stored_in y ∷ []) (omega (arith, le)) refl
    (then_stays m h h h (argument_code y.width (Number k) code) (stored_in y ∷ []) (argument_stays m h y.width (Number k) code (omega (arith, le)) s) (last_stays m h h (stored_in y) (omega (arith, le)) refl (omega (arith, le))))
second_stays m h x y (Name w z) code le s t =
    let last = op.StoreTop x.width (place_of x.place) ∷ stored_in y ∷ [] in
    pushes m h h (argument_code y.width (Name w z) code ++ last) (then_stays m (suc h) (suc h) h (argument_code y.width (Name w z) code) last (argument_stays m (suc h) y.width (Name w z) code le t) (stored_both m h x y le))
second_stays m h x y Computed code le s t =
    let last = op.StoreTop x.width (place_of x.place) ∷ stored_in y ∷ [] in
    pushes m h h (code ++ last) (then_stays m (suc h) (suc h) h code last t (stored_both m h x y le))

pair_stays : (m h : ℕ) (xs : List Scalar) (o q : Operand) (first second : List Instruction) → suc h ≤ m → Stays m h h first → Stays m h h second → Stays m (suc h) (suc h) second → Stays m h h (pair xs o q first second)
pair_stays m h [] o q first second le s t u = (omega (arith, le), refl)
pair_stays m h (x ∷ []) o q first second le s t u = (omega (arith, le), refl)
pair_stays m h (x ∷ y ∷ xs) o q first second le s t u =
    then_stays m h h h (argument_code x.width o first) (second_passed x y q second) (argument_stays m h x.width o first (omega (arith, le)) s) (second_stays m h x y q second le t u)

used_stays : (m h : ℕ) (g : Bool) → h ≤ m → Stays m h h (used g)
used_stays m h true le = (le, refl)
used_stays m h false le = last_stays m h h (op.Constant 0) le refl le

known_stays : (m h : ℕ) (z : Option ℕ) (code : List Instruction) → h ≤ m → Stays m h h code → Stays m h h (unless_known z code)
known_stays m h (Some k) code le s = last_stays m h h (op.Constant k) le refl le
known_stays m h None code le s = s

changed_stays : (m h : ℕ) (o : UnaryOperation) (low whole : List Instruction) → h ≤ m → Stays m h h low → Stays m h h whole → Stays m h h (operand_code o low whole ++ low_changing o ∷ [])
changed_stays m h unary.Plus low whole le s t = then_stays m h h h low (low_changing unary.Plus ∷ []) s (last_stays m h h (low_changing unary.Plus) le refl le)
changed_stays m h unary.Minus low whole le s t = then_stays m h h h whole (low_changing unary.Minus ∷ []) t (last_stays m h h (low_changing unary.Minus) le refl le)
changed_stays m h unary.Not low whole le s t = then_stays m h h h low (low_changing unary.Not ∷ []) s (last_stays m h h (low_changing unary.Not) le refl le)
changed_stays m h unary.Low low whole le s t = then_stays m h h h low (low_changing unary.Low ∷ []) s (last_stays m h h (low_changing unary.Low) le refl le)
changed_stays m h unary.High low whole le s t = then_stays m h h h whole (low_changing unary.High ∷ []) t (last_stays m h h (low_changing unary.High) le refl le)
changed_stays m h unary.Double low whole le s t = then_stays m h h h low (low_changing unary.Double ∷ []) s (last_stays m h h (low_changing unary.Double) le refl le)

by_offset_stays : (m h : ℕ) (z : Option ℕ) (known : ℕ → List Instruction) (code : List Instruction) → ((to : ℕ) → Stays m h h (known to)) → Stays m h h code → Stays m h h (by_offset z known code)
by_offset_stays m h (Some to) known code f g = f to
by_offset_stays m h None known code f g = g

low_known_stays : (m h : ℕ) (z : Option ℕ) (code : List Instruction) → h ≤ m → Stays m h h code → Stays m h h (unless_low_known z code)
low_known_stays m h (Some k) code le s = last_stays m h h (op.Low (lows.Constant k) highs.Kept) le refl le
low_known_stays m h None code le s = s

known_port_stays : (m h : ℕ) (width : Width) (z : Option ℕ) (computing : List Instruction) → h ≤ m → Stays m (suc h) (suc h) computing → Stays m h h (sending width (number_of z) computing)
known_port_stays m h width (Some k) computing le s = last_stays m h h (op.SendTo width k) le refl le
known_port_stays m h width None computing le s = sent_stays m h width computing s

-- ---- expressions

module _ (procedures : List Procedure) where
  abbrev code : Expression → List Instruction
  code e = expression_code procedures e

  -- a port that is not constant is computed beside the value
  port_stays : (e : Expression) (m h : ℕ) (width : Width) (computing : List Instruction) → h + port_peak e (peak e) ≤ m → (suc h + peak e ≤ m → Stays m (suc h) (suc h) computing) → Stays m h h (sending width (operand_of e) computing)
  port_stays (Constant k) m h width computing le s = last_stays m h h (op.SendTo width k) (omega (arith, le)) refl (omega (arith, le))
  port_stays (Plain w x) m h width computing le s = sent_stays m h width computing (s (omega (arith, le)))
  port_stays (Variable w r) m h width computing le s = sent_stays m h width computing (s (omega (arith, le)))
  port_stays (Location r) m h width computing le s = sent_stays m h width computing (s (omega (arith, le)))
  port_stays (Unary o w e) m h width computing le s = known_port_stays m h width (folded (Unary o w e)) computing (omega (arith, le)) (s (omega (arith, le)))
  port_stays (Binary i l o w a b) m h width computing le s = known_port_stays m h width (folded (Binary i l o w a b)) computing (omega (arith, le)) (s (omega (arith, le)))
  port_stays (Embedded t e) m h width computing le s = sent_stays m h width computing (s (omega (arith, le)))
  port_stays (Input w e) m h width computing le s = sent_stays m h width computing (s (omega (arith, le)))
  port_stays (Call p es) m h width computing le s = sent_stays m h width computing (s (omega (arith, le)))
  port_stays (Value v) m h width computing le s = sent_stays m h width computing (s (omega (arith, le)))
  port_stays (Passing p xs vs) m h width computing le s = sent_stays m h width computing (s (omega (arith, le)))
  port_stays (Running ss) m h width computing le s = sent_stays m h width computing (s (omega (arith, le)))

  -- a second argument alone, and beside the first one
  abbrev Second : ℕ → ℕ → Expressions → Type 0
  Second m h NoMore = Unit {0}
  Second m h (More e NoMore) = Unit {0}
  Second m h (More e (More f es)) = Stays m h h (code f) × Stays m (suc h) (suc h) (code f)

  call_stays : (es : Expressions) (p m h : ℕ) → h + pushed_peak es ≤ m → Stays m h h (first_code procedures es) → Second m h es → Stays m h (h + count_of es) (pushed_code procedures es) → Stays m h h (calling procedures p es)
  call_stays NoMore p m h le first second s = last_stays m h h (op.Invoke p) (omega (arith, le)) refl (omega (arith, le))
  call_stays (More e NoMore) p m h le first second s =
      let xs = parameters_of (slice_get procedures p) in
      let low : h ≤ m = omega (arith, le) in
      then_stays m h h h (alone xs (operand_of e) (code e)) (op.Invoke p ∷ []) (alone_stays m h xs (operand_of e) (code e) low first) (last_stays m h h (op.Invoke p) low refl low)
  call_stays (More e (More f NoMore)) p m h le first second s =
      let xs = parameters_of (slice_get procedures p) in
      let low : h ≤ m = omega (arith, le) in
      let high : suc h ≤ m = omega (arith, le) in
      then_stays m h h h (pair xs (operand_of e) (operand_of f) (code e) (code f)) (op.Invoke p ∷ []) (pair_stays m h xs (operand_of e) (operand_of f) (code e) (code f) high first second.0 second.1)
      (last_stays m h h (op.Invoke p) low refl low)
  call_stays (More e (More f (More g es))) p m h le first second s =
      let xs = parameters_of (slice_get procedures p) in
      let n = 3 + count_of es in
      let all = More e (More f (More g es)) in
      let dropped = op.Drop n ∷ op.Invoke p ∷ [] in
      let up = ends m h (h + count_of all) (pushed_code procedures all) s in
      let low : h ≤ m = omega (arith, le) in
      let high : h + n ≤ m = omega (arith, up) in
      then_stays m h (h + n) h (pushed_code procedures all) (passing xs ++ dropped) (subst (λ j. Stays m h j (pushed_code procedures all)) (omega arith) s)
      (then_stays m (h + n) (h + n) h (passing xs) dropped (passing_stays m (h + n) xs high) (step_stays m (h + n) h h (op.Drop n) (op.Invoke p ∷ []) high (omega arith) (last_stays m h h (op.Invoke p) low refl low)))

  mutual
    pub expression_stays : (e : Expression) (m h : ℕ) → h + peak e ≤ m → Stays m h h (code e)
    expression_stays (Constant k) m h le = last_stays m h h (op.Constant k) (omega (arith, le)) refl (omega (arith, le))
    expression_stays (Plain width x) m h le = last_stays m h h (op.Load width (place_of x)) (omega (arith, le)) refl (omega (arith, le))
    expression_stays (Variable width (Refer i l anchor offset ss)) m h le =
        by_offset_stays m h (leads_to (Some offset) ss) (λ to. reading width anchor to NoSubscripts) (subscripts_code procedures ss ++ reading width anchor offset ss) (λ to. reading_stays m h width anchor to NoSubscripts (omega (arith, le)))
        (then_stays m h h h (subscripts_code procedures ss) (reading width anchor offset ss) (subscripts_stay ss m h le) (reading_stays m h width anchor offset ss (omega (arith, le))))
    expression_stays (Location (Refer i l anchor offset ss)) m h le =
        by_offset_stays m h (leads_to (Some offset) ss) (λ to. locating anchor to NoSubscripts) (subscripts_code procedures ss ++ locating anchor offset ss) (λ to. locating_stays m h anchor to NoSubscripts (omega (arith, le)))
        (then_stays m h h h (subscripts_code procedures ss) (locating anchor offset ss) (subscripts_stay ss m h le) (locating_stays m h anchor offset ss (omega (arith, le))))
    expression_stays (Unary o width e) m h le =
        known_stays m h (folded (Unary o width e)) (code e ++ op.Unary o width ∷ []) (omega (arith, le))
        (then_stays m h h h (code e) (op.Unary o width ∷ []) (expression_stays e m h le) (last_stays m h h (op.Unary o width) (omega (arith, le)) refl (omega (arith, le))))
    expression_stays (Binary i l o width a b) m h le =
        known_stays m h (folded (Binary i l o width a b)) (code a ++ (beside (operand_of b) (code b) ++ operation o width (operand_of b) ∷ [])) (omega (arith, le))
        (then_stays m h h h (code a) (beside (operand_of b) (code b) ++ operation o width (operand_of b) ∷ []) (expression_stays a m h (omega (arith, le)))
        (operated_stays m h o width (operand_of b) (code b) (expression_stays b m (suc h) (omega (arith, le)))))
    expression_stays (Embedded t e) m h le = then_stays m h h h (code e) (target_code procedures t) (expression_stays e m h (omega (arith, le))) (target_stays t m h (omega (arith, le)))
    expression_stays (Input width e) m h le = receiving_stays m h width (operand_of e) (code e) (expression_stays e m h le)
    expression_stays (Call p es) m h le = then_stays m h h h (calling procedures p es) (used (gives (slice_get procedures p))) (call_stays es p m h le (first_stay es m h le) (second_stay es m h le) (pushed_stay es m h le)) (used_stays m h (gives (slice_get procedures p)) (omega (arith, le)))
    expression_stays (Value v) m h le = (omega (arith, le), refl)
    expression_stays (Passing p xs vs) m h le = (omega (arith, le), refl)
    expression_stays (Running ss) m h le = (omega (arith, le), refl)

    second_stay : (es : Expressions) (m h : ℕ) → h + pushed_peak es ≤ m → Second m h es
    second_stay NoMore m h le = tt
    second_stay (More e NoMore) m h le = tt
    second_stay (More e (More f es)) m h le = (expression_stays f m h (omega (arith, le)), expression_stays f m (suc h) (omega (arith, le)))

    first_stay : (es : Expressions) (m h : ℕ) → h + pushed_peak es ≤ m → Stays m h h (first_code procedures es)
    first_stay NoMore m h le = (omega (arith, le), refl)
    first_stay (More e es) m h le = expression_stays e m h (omega (arith, le))

    -- each argument is pushed
    pushed_stay : (es : Expressions) (m h : ℕ) → h + pushed_peak es ≤ m → Stays m h (h + count_of es) (pushed_code procedures es)
    pushed_stay NoMore m h le = (omega (arith, le), omega arith)
    pushed_stay (More e es) m h le =
        let s : Stays m (suc h) (suc h + count_of es) (pushed_code procedures es) = pushed_stay es m (suc h) (omega (arith, le)) in
        then_stays m h h (h + suc (count_of es)) (code e) (op.Push ∷ pushed_code procedures es) (expression_stays e m h (omega (arith, le)))
        (pushes m h (h + suc (count_of es)) (pushed_code procedures es) (subst (λ j. Stays m (suc h) j (pushed_code procedures es)) (omega arith) s))

    subscripts_stay : (ss : Subscripts) (m h : ℕ) → h + subscripts_peak ss ≤ m → Stays m h h (subscripts_code procedures ss)
    subscripts_stay NoSubscripts m h le = (omega (arith, le), refl)
    subscripts_stay (Subscript stride e more) m h le =
        then_stays m h h h (code e) (scaled stride ++ further_code procedures more) (expression_stays e m h (omega (arith, le)))
        (then_stays m h h h (scaled stride) (further_code procedures more) (scaled_stays m h stride (omega (arith, le))) (further_stay more m h (omega (arith, le))))

    further_stay : (ss : Subscripts) (m h : ℕ) → h + subscripts_peak ss ≤ m → Stays m h h (further_code procedures ss)
    further_stay NoSubscripts m h le = (omega (arith, le), refl)
    further_stay (Subscript stride e more) m h le =
        let sum = op.Binary binary.Add widths.Word ∷ further_code procedures more in
        let high : suc h ≤ m = omega (arith, le) in
        pushes m h h (code e ++ (scaled stride ++ sum)) (then_stays m (suc h) (suc h) h (code e) (scaled stride ++ sum) (expression_stays e m (suc h) (omega (arith, le)))
        (then_stays m (suc h) (suc h) h (scaled stride) sum (scaled_stays m (suc h) stride high)
        (step_stays m (suc h) h h (op.Binary binary.Add widths.Word) (further_code procedures more) high (omega arith) (further_stay more m h (omega (arith, le))))))

    pub target_stays : (t : Target) (m h : ℕ) → h + target_peak t ≤ m → Stays m h h (target_code procedures t)
    target_stays (ToPlain width x) m h le = last_stays m h h (op.Store width (place_of x)) (omega (arith, le)) refl (omega (arith, le))
    target_stays (ToVariable width (Refer i l anchor offset ss)) m h le =
        by_offset_stays m h (leads_to (Some offset) ss) (λ to. writing width anchor to NoSubscripts []) (writing width anchor offset ss (subscripts_code procedures ss)) (λ to. writing_stays m h width anchor to NoSubscripts [] (omega (arith, le), refl))
        (writing_stays m h width anchor offset ss (subscripts_code procedures ss) (subscripts_stay ss m (suc h) (omega (arith, le))))
    target_stays (ToPort width e) m h le = port_stays e m h width (code e) le (λ up. expression_stays e m (suc h) up)

  dropped_stays : (e : Expression) (m h : ℕ) → h + peak e ≤ m → Stays m h h (dropped_code procedures e)
  dropped_stays (Constant k) m h le = expression_stays (Constant k) m h le
  dropped_stays (Plain width x) m h le = expression_stays (Plain width x) m h le
  dropped_stays (Variable width r) m h le = expression_stays (Variable width r) m h le
  dropped_stays (Location r) m h le = expression_stays (Location r) m h le
  dropped_stays (Unary o width e) m h le = expression_stays (Unary o width e) m h le
  dropped_stays (Binary i l o width a b) m h le = expression_stays (Binary i l o width a b) m h le
  dropped_stays (Embedded t e) m h le = expression_stays (Embedded t e) m h le
  dropped_stays (Input width e) m h le = expression_stays (Input width e) m h le
  dropped_stays (Call p es) m h le = call_stays es p m h le (first_stay es m h le) (second_stay es m h le) (pushed_stay es m h le)
  dropped_stays (Value v) m h le = expression_stays (Value v) m h le
  dropped_stays (Passing p xs vs) m h le = expression_stays (Passing p xs vs) m h le
  dropped_stays (Running ss) m h le = expression_stays (Running ss) m h le

  targets_stay : (ts : Targets) (m h : ℕ) → h + targets_peak ts ≤ m → Stays m h h (targets_code procedures ts)
  targets_stay (Only t) m h le = target_stays t m h le
  targets_stay (Also t ts) m h le = then_stays m h h h (target_code procedures t) (targets_code procedures ts) (target_stays t m h (omega (arith, le))) (targets_stay ts m h (omega (arith, le)))

  -- where the low byte is wanted
  low_stays : (e : Expression) (m h : ℕ) → h + peak e ≤ m → Stays m h h (low_code procedures e)
  low_stays (Constant k) m h le = last_stays m h h (op.Low (lows.Constant k) highs.Kept) (omega (arith, le)) refl (omega (arith, le))
  low_stays (Plain widths.Byte x) m h le = last_stays m h h (op.Low (lows.Load (place_of x)) highs.Kept) (omega (arith, le)) refl (omega (arith, le))
  low_stays (Plain widths.Word x) m h le = last_stays m h h (op.Load widths.Word (place_of x)) (omega (arith, le)) refl (omega (arith, le))
  low_stays (Variable widths.Byte (Refer i l anchor offset ss)) m h le =
      by_offset_stays m h (leads_to (Some offset) ss) (λ to. low_reading anchor to NoSubscripts) (subscripts_code procedures ss ++ low_reading anchor offset ss) (λ to. low_reading_stays m h anchor to NoSubscripts (omega (arith, le)))
      (then_stays m h h h (subscripts_code procedures ss) (low_reading anchor offset ss) (subscripts_stay ss m h le) (low_reading_stays m h anchor offset ss (omega (arith, le))))
  low_stays (Variable widths.Word r) m h le = expression_stays (Variable widths.Word r) m h le
  low_stays (Location r) m h le = expression_stays (Location r) m h le
  low_stays (Unary o width e) m h le =
      low_known_stays m h (folded (Unary o width e)) (operand_code o (low_code procedures e) (code e) ++ low_changing o ∷ []) (omega (arith, le))
      (changed_stays m h o (low_code procedures e) (code e) (omega (arith, le)) (low_stays e m h le) (expression_stays e m h le))
  low_stays (Binary i l o width a b) m h le =
      low_known_stays m h (folded (Binary i l o width a b)) (by_operator (direct_of o) (λ d. low_code procedures a ++ (beside (operand_of b) (low_code procedures b) ++ low_operation d o (operand_of b) ∷ [])) (code (Binary i l o width a b))) (omega (arith, le))
      (low_binary_stays m h (direct_of o) o (operand_of b) (low_code procedures a) (low_code procedures b) (code (Binary i l o width a b)) (low_stays a m h (omega (arith, le))) (low_stays b m (suc h) (omega (arith, le)))
      (expression_stays (Binary i l o width a b) m h le))
  low_stays (Embedded t e) m h le =
      either_stays (takes_byte t) m h (low_code procedures e ++ target_code procedures t) (code (Embedded t e))
      (then_stays m h h h (low_code procedures e) (target_code procedures t) (low_stays e m h (omega (arith, le))) (target_stays t m h (omega (arith, le)))) (expression_stays (Embedded t e) m h le)
  low_stays (Input widths.Byte e) m h le = low_receiving_stays m h (operand_of e) (code e) (expression_stays e m h le)
  low_stays (Input widths.Word e) m h le = expression_stays (Input widths.Word e) m h le
  low_stays (Call p es) m h le = expression_stays (Call p es) m h le
  low_stays (Value v) m h le = expression_stays (Value v) m h le
  low_stays (Passing p xs vs) m h le = expression_stays (Passing p xs vs) m h le
  low_stays (Running ss) m h le = expression_stays (Running ss) m h le

  returned_stays : (w : Width) (e : Expression) (m h : ℕ) → h + peak e ≤ m → Stays m h h (returned_code procedures w e)
  returned_stays widths.Byte e m h le = low_stays e m h le
  returned_stays widths.Word e m h le = expression_stays e m h le

  given_stays : (ts : Targets) (e : Expression) (m h : ℕ) → h + peak e ≤ m → Stays m h h (given_code procedures ts e)
  given_stays ts e m h le = either_stays (take_bytes ts) m h (low_code procedures e) (code e) (low_stays e m h le) (expression_stays e m h le)

  assigned_stays : (ts : Targets) (e : Expression) (m h : ℕ) → h + max (peak e) (targets_peak ts) ≤ m → Stays m h h (assigned_code procedures ts e)
  assigned_stays ts e m h le =
      assigned procedures (λ ts code. h + max (peak e) (targets_peak ts) ≤ m → Stays m h h code) ts e
      (λ k is width i l anchor fixed offset stride f more le.
      let ss = Subscript stride f more in
      let store = op.StoreConstantAt width (anchor_place anchor offset) k in
      then_stays m h h h (subscripts_code procedures ss) (store ∷ []) (subscripts_stay ss m h (omega (arith, le))) (last_stays m h h store (omega (arith, le)) refl (omega (arith, le))))
      (λ le. then_stays m h h h (given_code procedures ts e) (targets_code procedures ts) (given_stays ts e m h (omega (arith, le))) (targets_stay ts m h (omega (arith, le)))) le

-- ---- conditions, and parts of statements

module _ (procedures : List Procedure) where
  abbrev value_code : Expression → List Instruction
  value_code e = expression_code procedures e

  -- what its test uses up is pushed
  condition_stays : (e : Expression) (m : ℕ) → peak e ≤ m → Stays m 0 (popped (test_of e)) (condition_code procedures e)
  condition_stays (Constant k) m le = low_stays procedures (Constant k) m 0 le
  condition_stays (Plain widths.Byte x) m le = (le, refl)
  condition_stays (Plain widths.Word x) m le = low_stays procedures (Plain widths.Word x) m 0 le
  condition_stays (Variable width r) m le = low_stays procedures (Variable width r) m 0 (omega (arith, le))
  condition_stays (Location r) m le = low_stays procedures (Location r) m 0 (omega (arith, le))
  condition_stays (Unary o width e) m le = low_stays procedures (Unary o width e) m 0 (omega (arith, le))
  condition_stays (Binary i l o width a b) m le = cases (relation_of o)
    where
      comparison : (bytes : Bool) (r : Relation)
          → Stays m 0 (popped (related bytes r (operand_of b))) (compared bytes (low_code procedures a ++ beside (operand_of b) (low_code procedures b)) (value_code a ++ beside (operand_of b) (value_code b)))
      comparison true r =
          then_stays m 0 0 (popped (low_stands_to r (operand_of b))) (low_code procedures a) (beside (operand_of b) (low_code procedures b)) (low_stays procedures a m 0 (omega (arith, le)))
          (low_beside_stays m r (operand_of b) (low_code procedures b) (low_stays procedures b m 1 (omega (arith, le))))
      comparison false r =
          then_stays m 0 0 (popped (stands_to r (operand_of b))) (value_code a) (beside (operand_of b) (value_code b)) (expression_stays procedures a m 0 (omega (arith, le)))
          (beside_stays m r (operand_of b) (value_code b) (expression_stays procedures b m 1 (omega (arith, le))))

      cases : (r : Option Relation)
          → Stays m 0 (popped (asked r (are_bytes a b) (operand_of a) (operand_of b))) (asking r (λ q. unless_named (named (are_bytes a b) q (operand_of a) (operand_of b)) (comparison_code procedures a b)) (low_code procedures (Binary i l o width a b)))
      cases (Some r) =
          by_named (λ z. Stays m 0 (popped (or_test z (related (are_bytes a b) r (operand_of b)))) (unless_named z (comparison_code procedures a b))) (are_bytes a b) r (operand_of a) (operand_of b)
          (comparison (are_bytes a b) r) (λ w y k is number suits. (omega arith, refl))
      cases None = low_stays procedures (Binary i l o width a b) m 0 (omega (arith, le))
  condition_stays (Embedded t e) m le = low_stays procedures (Embedded t e) m 0 (omega (arith, le))
  condition_stays (Input width e) m le = low_stays procedures (Input width e) m 0 (omega (arith, le))
  condition_stays (Call p es) m le = low_stays procedures (Call p es) m 0 (omega (arith, le))
  condition_stays (Value v) m le = (le, refl)
  condition_stays (Passing p xs vs) m le = (le, refl)
  condition_stays (Running ss) m le = (le, refl)

  -- the step is pushed twice
  added_stays : (m : ℕ) (x : Scalar) (code : List Instruction) (before : ℕ) → 2 ≤ m → Stays m 0 0 code → Stays m 0 0 (code ++ add_pushed x before)
  added_stays m x code before le s =
      let one : 1 ≤ m = omega (arith, le) in
      then_stays m 0 0 0 code (add_pushed x before) s (omega arith, (one, (le, (le, (one, (one, (omega arith, refl)))))))

  load_stays : (m : ℕ) (w : Width) (at : Place) (more : List Instruction) → Stays m 0 0 more → Stays m 0 0 (low_load w at ∷ more)
  load_stays m widths.Byte at more s = (omega arith, s)
  load_stays m widths.Word at more s = (omega arith, s)

  number_stays : (m : ℕ) (c : Counting) (x : Scalar) (s before : ℕ) → Stays m 0 0 (next_by_number c x s before)
  number_stays m counting.Up x s before = let low : 0 ≤ m = omega arith in load_stays m x.width (place_of x.place) (op.Next x.width (place_of x.place) s (before + 2) ∷ []) (low, (low, refl))
  number_stays m counting.SignedUp x s before = let low : 0 ≤ m = omega arith in (low, (low, (low, (low, (low, refl)))))
  number_stays m counting.SignedDown x s before = let low : 0 ≤ m = omega arith in (low, (low, (low, (low, (low, refl)))))

  known_next_stays : (m : ℕ) (c : Counting) (x : Scalar) (z : Option ℕ) (code : List Instruction) (before : ℕ) → 2 ≤ m → Stays m 0 0 code → Stays m 0 0 (next_round c x (number_of z) code before)
  known_next_stays m c x (Some k) code before le s = number_stays m c x k before
  known_next_stays m c x None code before le s = added_stays m x code (before + length code) le s

  next_stays : (m : ℕ) (c : Counting) (x : Scalar) (e : Expression) (before : ℕ) → 2 ≤ m → Stays m 0 0 (value_code e) → Stays m 0 0 (next_round c x (operand_of e) (value_code e) before)
  next_stays m c x (Constant k) before le s = number_stays m c x k before
  next_stays m c x (Plain w y) before le s = added_stays m x (value_code (Plain w y)) (before + length (value_code (Plain w y))) le s
  next_stays m c x (Variable w r) before le s = added_stays m x (value_code (Variable w r)) (before + length (value_code (Variable w r))) le s
  next_stays m c x (Location r) before le s = added_stays m x (value_code (Location r)) (before + length (value_code (Location r))) le s
  next_stays m c x (Unary o w e) before le s = known_next_stays m c x (folded (Unary o w e)) (value_code (Unary o w e)) before le s
  next_stays m c x (Binary i l o w a b) before le s = known_next_stays m c x (folded (Binary i l o w a b)) (value_code (Binary i l o w a b)) before le s
  next_stays m c x (Embedded t e) before le s = added_stays m x (value_code (Embedded t e)) (before + length (value_code (Embedded t e))) le s
  next_stays m c x (Input w e) before le s = added_stays m x (value_code (Input w e)) (before + length (value_code (Input w e))) le s
  next_stays m c x (Call p es) before le s = added_stays m x (value_code (Call p es)) (before + length (value_code (Call p es))) le s
  next_stays m c x (Value v) before le s = added_stays m x (value_code (Value v)) (before + length (value_code (Value v))) le s
  next_stays m c x (Passing p xs vs) before le s = added_stays m x (value_code (Passing p xs vs)) (before + length (value_code (Passing p xs vs))) le s
  next_stays m c x (Running ss) before le s = added_stays m x (value_code (Running ss)) (before + length (value_code (Running ss))) le s

over_stays : (m : ℕ) (silent : Bool) (otherwise : List Instruction) (exit : ℕ) → Stays m 0 0 (over silent otherwise exit)
over_stays m true otherwise exit = (omega arith, refl)
over_stays m false otherwise exit = (omega arith, (omega arith, refl))

choosing_stays : (m : ℕ) (condition : List Instruction) (t : Test) (arm : List Instruction) (silent : Bool) (otherwise : List Instruction) (exit : ℕ)
    → Stays m 0 (popped t) condition → Stays m 0 0 arm → Stays m 0 0 otherwise → Stays m 0 0 (choosing condition t arm silent otherwise exit)
choosing_stays m condition t arm silent otherwise exit sc sa so =
    let rest = arm ++ (over silent otherwise exit ++ otherwise) in
    let x = op.AheadUnless t (failing silent arm exit) in
    then_stays m 0 (popped t) 0 condition (x ∷ rest) sc (step_stays m (popped t) 0 0 x rest (ends m 0 (popped t) condition sc) (omega arith)
    (then_stays m 0 0 0 arm (over silent otherwise exit ++ otherwise) sa (then_stays m 0 0 0 (over silent otherwise exit) otherwise (over_stays m silent otherwise exit) so)))

tested_loop_stays : (m : ℕ) (condition : List Instruction) (t : Test) (body : List Instruction) (n k : ℕ) → Stays m 0 (popped t) condition → Stays m 0 0 body
    → Stays m 0 0 (condition ++ (op.AheadUnless t n ∷ (body ++ op.Back k ∷ [])))
tested_loop_stays m condition t body n k sc sb =
    then_stays m 0 (popped t) 0 condition (op.AheadUnless t n ∷ (body ++ op.Back k ∷ [])) sc
    (step_stays m (popped t) 0 0 (op.AheadUnless t n) (body ++ op.Back k ∷ []) (ends m 0 (popped t) condition sc) (omega arith) (then_stays m 0 0 0 body (op.Back k ∷ []) sb (omega arith, (omega arith, refl))))

while_loop_stays : (m : ℕ) (b : Bool) (condition : List Instruction) (t : Test) (body : List Instruction) (exit : ℕ) → Stays m 0 (popped t) condition → Stays m 0 0 body → Stays m 0 0 (while_loop b condition t body exit)
while_loop_stays m true condition t body exit sc sb = then_stays m 0 0 0 body (op.Back (length body + 1) ∷ []) sb (omega arith, (omega arith, refl))
while_loop_stays m false condition t body exit sc sb = tested_loop_stays m condition t body (length body + 1 + exit) (length condition + length body + 2) sc sb

entries_stay : (m before : ℕ) (cs : List (List Instruction)) → Stays m 0 0 (entries before cs)
entries_stay m before [] = (omega arith, refl)
entries_stay m before (c ∷ cs) = (omega arith, entries_stay m (before + length c) cs)

switching_stays : (m : ℕ) (cs : List (List Instruction)) (exit : ℕ) → Stays m 0 0 (all_of cs) → Stays m 0 0 (switching cs exit)
switching_stays m cs exit s =
    (omega arith, then_stays m 0 0 0 (entries 0 cs) (op.Ahead (length (all_of cs) + exit) ∷ all_of cs) (entries_stay m 0 cs) (omega arith, s))

returning_stays : (m : ℕ) (around : Kind) → Stays m 0 0 (returning around)
returning_stays m OfMain = (omega arith, refl)
returning_stays m Called = (omega arith, (omega arith, refl))
returning_stays m Giving = (omega arith, (omega arith, (omega arith, refl)))
returning_stays m Serving = (omega arith, (omega arith, refl))

narrowed_stays : (m : ℕ) (width : Width) → Stays m 0 0 (narrowed width ++ op.Leave ∷ [])
narrowed_stays m widths.Byte = (omega arith, (omega arith, (omega arith, refl)))
narrowed_stays m widths.Word = (omega arith, (omega arith, refl))

ending_stays : (m : ℕ) (around : Kind) → Stays m 0 0 (ending around)
ending_stays m OfMain = (omega arith, (omega arith, (omega arith, refl)))
ending_stays m Called = (omega arith, (omega arith, refl))
ending_stays m Giving = (omega arith, (omega arith, (omega arith, refl)))
ending_stays m Serving = (omega arith, (omega arith, refl))

ended_stays : (m : ℕ) (b : Bool) (around : Kind) → Stays m 0 0 (ended_by b around)
ended_stays m true around = (omega arith, refl)
ended_stays m false around = ending_stays m around

-- ---- statements

module _ (procedures : List Procedure) (around : Kind) where
  index_stays : (m j : ℕ) (bytes : Bool) (x : Scalar) (more : List Instruction) → Stays m 0 j more → Stays m 0 j (index_read bytes x ∷ more)
  index_stays m j true x more s = (omega arith, s)
  index_stays m j false x more s = (omega arith, s)

  bound_stays : (m : ℕ) (bytes : Bool) (c : Counting) (bound : Expression) → suc (peak bound) ≤ m
      → Stays m 0 (popped (related bytes (within c) (operand_of bound))) (compared bytes (beside (operand_of bound) (low_code procedures bound)) (beside (operand_of bound) (expression_code procedures bound)))
  bound_stays m true c bound le = low_beside_stays m (within c) (operand_of bound) (low_code procedures bound) (low_stays procedures bound m 1 (omega (arith, le)))
  bound_stays m false c bound le = beside_stays m (within c) (operand_of bound) (expression_code procedures bound) (expression_stays procedures bound m 1 (omega (arith, le)))

  asked_stays : (m : ℕ) (bytes : Bool) (c : Counting) (x : Scalar) (index : Operand) (bound : Expression) → suc (peak bound) ≤ m
      → Stays m 0 (popped (compared_by bytes (within c) index (operand_of bound)))
      (unless_named (named bytes (within c) index (operand_of bound)) (index_read bytes x ∷ compared bytes (beside (operand_of bound) (low_code procedures bound)) (beside (operand_of bound) (expression_code procedures bound))))
  asked_stays m bytes c x index bound le =
      let comparison = compared bytes (beside (operand_of bound) (low_code procedures bound)) (beside (operand_of bound) (expression_code procedures bound)) in
      let other = related bytes (within c) (operand_of bound) in
      by_named (λ z. Stays m 0 (popped (or_test z other)) (unless_named z (index_read bytes x ∷ comparison))) bytes (within c) index (operand_of bound)
      (index_stays m (popped other) bytes x comparison (bound_stays m bytes c bound le)) (λ w y k is number suits. (omega arith, refl))

  iterate_stays : (m : ℕ) (bytes : Bool) (a : Expression) (c : Counting) (x : Scalar) (bound step : Expression) (body : List Instruction) (n exit : ℕ) → max (max (peak a) (suc (peak bound))) (max (peak step) 2) ≤ m → Stays m 0 0 body
      → Stays m 0 0 (returned_code procedures x.width a ++ (op.Store x.width (place_of x.place)
      ∷ (unless_named (named bytes (within c) (Name x.width (place_of x.place)) (operand_of bound)) (index_read bytes x ∷ compared bytes (beside (operand_of bound) (low_code procedures bound)) (beside (operand_of bound) (expression_code procedures bound)))
      ++ (op.AheadUnless (compared_by bytes (within c) (Name x.width (place_of x.place)) (operand_of bound)) exit ∷ (body ++ next_round c x (operand_of step) (expression_code procedures step) n)))))
  iterate_stays m bytes a c x bound step body n exit le sb =
      let again = next_round c x (operand_of step) (expression_code procedures step) n in
      let comparison = compared bytes (beside (operand_of bound) (low_code procedures bound)) (beside (operand_of bound) (expression_code procedures bound)) in
      let index = Name x.width (place_of x.place) in
      let asked = unless_named (named bytes (within c) index (operand_of bound)) (index_read bytes x ∷ comparison) in
      let t = compared_by bytes (within c) index (operand_of bound) in
      let rest = op.AheadUnless t exit ∷ (body ++ again) in
      let sn = next_stays procedures m c x step n (omega (arith, le)) (expression_stays procedures step m 0 (omega (arith, le))) in
      let sc = asked_stays m bytes c x index bound (omega (arith, le)) in
      let sr = step_stays m (popped t) 0 0 (op.AheadUnless t exit) (body ++ again) (ends m 0 (popped t) asked sc) (omega arith) (then_stays m 0 0 0 body again sb sn) in
      then_stays m 0 0 0 (returned_code procedures x.width a) (op.Store x.width (place_of x.place) ∷ (asked ++ rest)) (returned_stays procedures x.width a m 0 (omega (arith, le)))
      (omega arith, then_stays m 0 (popped t) 0 asked rest sc sr)

  mutual
    statement_stays : (s : Statement) (exit m : ℕ) → statement_peak s ≤ m → Stays m 0 0 (statement_code procedures around exit s)
    statement_stays Empty exit m le = (le, refl)
    statement_stays (Assign ts e) exit m le = assigned_stays procedures ts e m 0 (omega (arith, le))
    statement_stays (Evaluate e) exit m le = dropped_stays procedures e m 0 (omega (arith, le))
    statement_stays Return exit m le = returning_stays m around
    statement_stays (ReturnValue width e) exit m le =
        then_stays m 0 0 0 (returned_code procedures width e) (narrowed width ++ op.Leave ∷ []) (returned_stays procedures width e m 0 (omega (arith, le))) (narrowed_stays m width)
    statement_stays Enabling exit m le = (le, (le, refl))
    statement_stays Disabling exit m le = (le, (le, refl))
    statement_stays Halting exit m le = (le, (le, refl))
    statement_stays (If c arm other) exit m le =
        let otherwise = statements_code procedures around exit other in
        let arm_exit = length (over (are_silent other) otherwise exit) + length otherwise + exit in
        choosing_stays m (condition_code procedures c) (test_of c) (statements_code procedures around arm_exit arm) (are_silent other) otherwise exit (condition_stays procedures c m (omega (arith, le)))
        (statements_stay arm arm_exit m (omega (arith, le))) (statements_stay other exit m (omega (arith, le)))
    statement_stays (Block ss) exit m le = statements_stay ss exit m le
    statement_stays (While c d ss) exit m le =
        while_loop_stays m (always d) (condition_code procedures d) (test_of d) (statements_code procedures around 0 ss) exit (condition_stays procedures d m (omega (arith, le))) (statements_stay ss 0 m (omega (arith, le)))
    statement_stays (Case e ss) exit m le =
        let cs = cases_code procedures around exit ss in
        then_stays m 0 0 0 (expression_code procedures e) (switching cs exit) (expression_stays procedures e m 0 (omega (arith, le))) (switching_stays m cs exit (cases_stay ss exit m (omega (arith, le))))
    statement_stays (Iterate a (Count o x bound step ss)) exit m le =
        let body = statements_code procedures around 0 ss in
        let bytes = counts_bytes x bound in
        let comparison = compared bytes (beside (operand_of bound) (low_code procedures bound)) (beside (operand_of bound) (expression_code procedures bound)) in
        let n = length (unless_named (named bytes (within o) (Name x.width (place_of x.place)) (operand_of bound)) (index_read bytes x ∷ comparison)) + length body + 1 in
        iterate_stays m bytes a o x bound step body n (length body + length (next_round o x (operand_of step) (expression_code procedures step) n) + exit) (omega (arith, le)) (statements_stay ss 0 m (omega (arith, le)))
    statement_stays Leaving exit m le = (le, refl)
    statement_stays (Round l) exit m le = (le, refl)
    statement_stays (Comparing i e l) exit m le = (le, refl)
    statement_stays (Stepping e l) exit m le = (le, refl)
    statement_stays (Adding i s l) exit m le = (le, refl)
    statement_stays (Storing s b l) exit m le = (le, refl)
    statement_stays (Ending b l) exit m le = (le, refl)

    statements_stay : (ss : Statements) (exit m : ℕ) → statements_peak ss ≤ m → Stays m 0 0 (statements_code procedures around exit ss)
    statements_stay End exit m le = (le, refl)
    statements_stay (Then s later) exit m le =
        let at = exit_before (are_silent later) exit in
        then_stays m 0 0 0 (statement_code procedures around at s) (statements_code procedures around exit later) (statement_stays s at m (omega (arith, le))) (statements_stay later exit m (omega (arith, le)))
    statements_stay (Returned v) exit m le = (le, refl)

    cases_stay : (ss : Statements) (exit m : ℕ) → statements_peak ss ≤ m → Stays m 0 0 (all_of (cases_code procedures around exit ss))
    cases_stay End exit m le = (le, refl)
    cases_stay (Then s later) exit m le =
        let others = cases_code procedures around exit later in
        let behind = length (all_of others) + exit in
        let this = statement_code procedures around (1 + behind) s in
        then_stays m 0 0 0 (this ++ op.Ahead behind ∷ []) (all_of others) (then_stays m 0 0 0 this (op.Ahead behind ∷ []) (statement_stays s (1 + behind) m (omega (arith, le))) (omega arith, (omega arith, refl)))
        (cases_stay later exit m (omega (arith, le)))
    cases_stay (Returned v) exit m le = (le, refl)

  pub routine_low : (ss : Statements) (m : ℕ) → statements_peak ss ≤ m → (k : ℕ) → height (routine_code procedures around ss) k ≤ m
  routine_low ss m le k =
      let body = statements_code procedures around 0 ss in
      let end = ended_by (all_stay ss) around in
      low m 0 0 (body ++ end) (then_stays m 0 0 0 body end (statements_stay ss 0 m le) (ended_stays m (all_stay ss) around)) k

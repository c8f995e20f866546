-- How much room the code of trees takes at most: 23 bytes for each node.
use Rattle.std.proofs.Common.{◌≡◌, ℕ, suc, ◌+◌, ◌*◌, ◌≤◌, Bool, true, false, List, [], ◌∷◌, ◌++◌, length, Option, Some, None, refl, ap, ◌∙◌, arith, slice_get}
use Rattle.std.specs.Prelude.{cond, nat_eq, if◌then◌else◌, ◌%◌}
use Rattle.word86.specs.declared.place.Place.{Place}
use Rattle.word86.specs.declared.width.Width.{Width}
use Rattle.word86.specs.declared.width.Width.TheVariants as widths
use Rattle.word86.specs.declared.operation.UnaryOperation.{UnaryOperation}
use Rattle.word86.specs.declared.operation.UnaryOperation.TheVariants as unary
use Rattle.word86.specs.declared.operation.BinaryOperation.{BinaryOperation}
use Rattle.word86.specs.declared.operation.BinaryOperation.TheVariants as binary
use Rattle.word86.specs.Access.{Where}
use Rattle.plm_type.specs.declared.program.Counting.{Counting}
use Rattle.plm_type.specs.declared.program.Counting.TheVariants as counting
use Rattle.plm_type.specs.Rest.{Anchor, InObject, OnScreen, Behind, There, Scalar, Expression, Constant, Plain, Variable, Location, Unary, Binary, Embedded, Input, Call, Value, Passing, Running, Expressions, NoMore, More, Refer, Subscripts, NoSubscripts, Subscript, Target, ToPlain, ToVariable, ToPort, Targets, Only, Also, Count, Statement, Empty, Assign, Evaluate, Return, ReturnValue, Enabling, Disabling, Halting, If, Block, While, Case, Iterate, Leaving, Round, Comparing, Stepping, Adding, Storing, Ending, Statements, End, Then, Returned, Procedure}
use Rattle.plm_type.specs.Next.{parameters_of}
use Rattle.icode.specs.declared.instruction.Instruction.{Instruction}
use Rattle.icode.specs.declared.instruction.Instruction.TheVariants as op
use Rattle.icode.specs.declared.instruction.LowByte.TheVariants as lows
use Rattle.icode.specs.declared.instruction.High.TheVariants as highs
use Rattle.icode.specs.declared.instruction.Right.TheVariants as rights
use Rattle.icode.specs.declared.instruction.Direct.{Direct}
use Rattle.icode.specs.declared.instruction.Direct.TheVariants as directs
use Rattle.icode.specs.declared.instruction.Relation.{Relation}
use Rattle.icode.specs.declared.instruction.Test.{Test}
use Rattle.icode.specs.declared.instruction.Test.TheVariants as test
use Rattle.icode.specs.Registers.{is_direct}
use Rattle.icode.specs.Room.{room_of, room_of_width, room_of_operator, room_of_constant, room_of_read, room_of_test, room_in}
use Rattle.lower.specs.Expressions.{leads_to, by_offset, folded, unless_known, number_of, Operand, Number, Name, Computed, operand_of, place_of, beside, operation, anchor_place, scaled, moved, based, reading, locating, writing, receiving, sending, passing, alone, count_of, relation_of, stands_to, gives, used, expression_code, pushed_code, subscripts_code, further_code, target_code, calling, dropped_code, targets_code, stored_in, argument_code, second_passed, pair}
use Rattle.lower.specs.Statements.{all_stay, ended_by, Kind, OfMain, Called, Giving, Serving, returning, narrowed, within, next_by_number, add_pushed, next_round, are_silent, over, failing, choosing, all_of, entries, switching, exit_before, statement_code, statements_code, cases_code, ending, routine_code, while_loop, counts_bytes, index_read}
use Rattle.lower.specs.LowBytes.{low_top, low_constant, low_operation, low_code, is_one_step, direct_of, by_operator, take_bytes, given_code, low_reading, low_receiving, takes_byte, unless_low_known, operand_code, low_changing, returned_code, low_load}
use Rattle.lower.specs.Conditions.{low_stands_to, related, are_bytes, named, or_test, unless_named, compared_by, asked, test_of, compared, asking, comparison_code, condition_code, always}
use Rattle.lower.specs.Inner.Assignments.{assigned_code}
use Rattle.lower.specs.Well.{IsExpression, AreExpressions, AreSubscripts, IsTarget, AreTargets, IsStatement, AreStatements}
use Rattle.lower.proofs.InPlace.{by_named}
pub use Rattle.lower.proofs.Nodes.{nodes, all_nodes, reference_nodes, subscripts_nodes, target_nodes, targets_nodes}
use Rattle.lower.proofs.Stores.{assigned}

-- ---- the nodes of typed statements

-- a constant step may be missing
abbrev pub step_nodes : Expression → ℕ
step_nodes (Constant k) = 0
step_nodes e = nodes e

abbrev mutual
  pub statement_nodes : Statement → ℕ
  statement_nodes (Assign ts e) = 1 + targets_nodes ts + nodes e
  statement_nodes (Evaluate e) = 1 + nodes e
  statement_nodes (ReturnValue width e) = 1 + nodes e
  statement_nodes (If c arm other) = 1 + nodes c + statements_nodes arm + statements_nodes other
  statement_nodes (Block ss) = 1 + statements_nodes ss
  statement_nodes (While c d ss) = 1 + nodes d + statements_nodes ss
  statement_nodes (Case e ss) = 1 + nodes e + statements_nodes ss
  statement_nodes (Iterate a (Count o x bound step ss)) = 2 + nodes a + nodes bound + step_nodes step + statements_nodes ss
  statement_nodes _ = 1

  pub statements_nodes : Statements → ℕ
  statements_nodes End = 0
  statements_nodes (Then s later) = statement_nodes s + statements_nodes later
  statements_nodes (Returned v) = 0

-- ---- parts of expressions

pub room_append : (xs ys : List Instruction) → room_in (xs ++ ys) ≡ room_in xs + room_in ys
room_append [] ys = omega arith
room_append (x ∷ xs) ys = let h = room_append xs ys in omega (arith, h)

width_room : (width : Width) → room_of_width width ≤ 2
width_room widths.Byte = omega arith
width_room widths.Word = omega arith

operator_room : (o : BinaryOperation) (width : Width) → room_of_operator o width ≤ 15
operator_room binary.Multiply width = omega (arith, width_room width)
operator_room binary.Divide width = omega arith
operator_room binary.Modulo width = omega arith
operator_room binary.Add width = omega (arith, width_room width)
operator_room binary.Subtract width = omega (arith, width_room width)
operator_room binary.Equal width = omega arith
operator_room binary.NotEqual width = omega arith
operator_room binary.Less width = omega arith
operator_room binary.LessEqual width = omega arith
operator_room binary.Greater width = omega arith
operator_room binary.GreaterEqual width = omega arith
operator_room binary.And width = omega arith
operator_room binary.Or width = omega arith
operator_room binary.ExclusiveOr width = omega arith
operator_room binary.ShiftLeft width = omega (arith, width_room width)
operator_room binary.ShiftRight width = omega (arith, width_room width)
operator_room binary.RotateLeft width = omega (arith, width_room width)
operator_room binary.RotateRight width = omega (arith, width_room width)
operator_room binary.DivideSigned width = omega arith
operator_room binary.ModuloSigned width = omega arith
operator_room binary.LessSigned width = omega arith
operator_room binary.LessEqualSigned width = omega arith
operator_room binary.GreaterSigned width = omega arith
operator_room binary.GreaterEqualSigned width = omega arith

constant_room : (o : BinaryOperation) (width : Width) → room_of_constant o width ≤ 18
constant_room o width = cases (is_direct o)
  where
    cases : (b : Bool) → (if b then 1 else 3) + room_of_operator o width ≤ 18
    cases true = omega (arith, operator_room o width)
    cases false = omega (arith, operator_room o width)

read_room : (read : Width) (o : BinaryOperation) (width : Width) → room_of_read read o width ≤ 22
read_room widths.Byte o width = omega (arith, operator_room o width)
read_room widths.Word o width = cases (is_direct o)
  where
    cases : (b : Bool) → (if b then 3 else 5) + room_of_operator o width ≤ 22
    cases true = omega (arith, operator_room o width)
    cases false = omega (arith, operator_room o width)

chosen_room : (b : Bool) (x : Instruction) → room_in (cond b [] (x ∷ [])) ≤ room_of x
chosen_room true x = omega arith
chosen_room false x = omega arith

scaled_room : (stride : ℕ) → room_in (scaled stride) ≤ 5
scaled_room stride = chosen_room (nat_eq stride 1) (op.BinaryConstant binary.Multiply widths.Word (stride % 65536))

-- subscripts may take a byte more
abbrev extra : Subscripts → ℕ
extra NoSubscripts = 0
extra (Subscript stride e more) = 1

moved_room : (offset : ℕ) → room_in (moved offset) ≤ 3
moved_room offset = chosen_room (nat_eq offset 0) (op.BinaryConstant binary.Add widths.Word (offset % 65536))

based_room : (base : Where) (offset : ℕ) (ss : Subscripts) → room_in (based base offset ss) ≤ 7 + extra ss
based_room base offset NoSubscripts = let h = moved_room offset in omega (arith, h)
based_room base offset (Subscript stride e more) = let h = moved_room offset in omega (arith, h)

reading_room : (width : Width) (anchor : Anchor) (offset : ℕ) (ss : Subscripts) → room_in (reading width anchor offset ss) ≤ 12 + extra ss
reading_room width (Behind base) offset ss =
    let h = room_append (based base offset ss) (op.LoadThere width ∷ []) in let k = based_room base offset ss in omega (arith, h, k, width_room width)
reading_room width (InObject k start size) offset NoSubscripts = omega (arith, width_room width)
reading_room width (InObject k start size) offset (Subscript stride e more) = omega (arith, width_room width)
reading_room width (OnScreen page start size) offset NoSubscripts = omega (arith, width_room width)
reading_room width (OnScreen page start size) offset (Subscript stride e more) = omega (arith, width_room width)
reading_room width (There address) offset NoSubscripts = omega (arith, width_room width)
reading_room width (There address) offset (Subscript stride e more) = omega (arith, width_room width)

locating_room : (anchor : Anchor) (offset : ℕ) (ss : Subscripts) → room_in (locating anchor offset ss) ≤ 12 + extra ss
locating_room (Behind base) offset ss = let k = based_room base offset ss in omega (arith, k)
locating_room (InObject k start size) offset NoSubscripts = omega arith
locating_room (InObject k start size) offset (Subscript stride e more) = omega arith
locating_room (OnScreen page start size) offset NoSubscripts = omega arith
locating_room (OnScreen page start size) offset (Subscript stride e more) = omega arith
locating_room (There address) offset NoSubscripts = omega arith
locating_room (There address) offset (Subscript stride e more) = omega arith

writing_room : (width : Width) (anchor : Anchor) (offset : ℕ) (ss : Subscripts) (code : List Instruction) → room_in (writing width anchor offset ss code) ≤ (12 + extra ss) + room_in code
writing_room width (Behind base) offset ss code =
    let back = based base offset ss ++ op.StoreThere width ∷ [] in
    let h = room_append code back in
    let i = room_append (based base offset ss) (op.StoreThere width ∷ []) in
    let k = based_room base offset ss in
    omega (arith, h, i, k)
writing_room width (InObject k start size) offset NoSubscripts code = omega arith
writing_room width (InObject k start size) offset (Subscript stride e more) code =
    let h = room_append code (op.StoreAt width (anchor_place (InObject k start size) offset) ∷ []) in omega (arith, h)
writing_room width (OnScreen page start size) offset NoSubscripts code = omega arith
writing_room width (OnScreen page start size) offset (Subscript stride e more) code =
    let h = room_append code (op.StoreAt width (anchor_place (OnScreen page start size) offset) ∷ []) in omega (arith, h)
writing_room width (There address) offset NoSubscripts code = omega arith
writing_room width (There address) offset (Subscript stride e more) code =
    let h = room_append code (op.StoreAt width (anchor_place (There address) offset) ∷ []) in omega (arith, h)

receiving_room : (width : Width) (o : Operand) (code : List Instruction) → room_in (receiving width o code) ≤ 6 + room_in code
receiving_room width (Number port) code = omega (arith, width_room width)
receiving_room width (Name read x) code = let h = room_append code (op.Receive width ∷ []) in omega (arith, h, width_room width)
receiving_room width Computed code = let h = room_append code (op.Receive width ∷ []) in omega (arith, h, width_room width)

sending_room : (width : Width) (o : Operand) (code : List Instruction) → room_in (sending width o code) ≤ 5 + room_in code
sending_room width (Number port) code = omega arith
sending_room width (Name read x) code = let h = room_append code (op.Send width ∷ []) in omega (arith, h)
sending_room width Computed code = let h = room_append code (op.Send width ∷ []) in omega (arith, h)

operated_room : (o : BinaryOperation) (width : Width) (right : Operand) (code : List Instruction) → room_in (beside right code ++ operation o width right ∷ []) ≤ 22 + room_in code
operated_room o width (Number k) code = let h = constant_room o width in omega (arith, h)
operated_room o width (Name read x) code = let h = read_room read o width in omega (arith, h)
operated_room o width Computed code = let h = room_append code (op.Binary o width ∷ []) in let k = operator_room o width in omega (arith, h, k)

low_constant_room : (d : Direct) (o : BinaryOperation) (k : ℕ) → room_of (low_constant d o k) ≤ 18
low_constant_room d o k = cases (is_one_step d k)
  where
    cases : (b : Bool) → room_of (cond b (op.BinaryConstant o widths.Word k) (op.Low (lows.Operate d (rights.Constant k)) highs.Kept)) ≤ 18
    cases true = constant_room o widths.Word
    cases false = omega arith

low_top_room : (d : Direct) (o : BinaryOperation) → room_of (low_top d o) ≤ 18
low_top_room directs.Add o = let h = operator_room o widths.Word in omega (arith, h)
low_top_room directs.Subtract o = omega arith
low_top_room directs.And o = let h = operator_room o widths.Word in omega (arith, h)
low_top_room directs.Or o = let h = operator_room o widths.Word in omega (arith, h)
low_top_room directs.ExclusiveOr o = let h = operator_room o widths.Word in omega (arith, h)

low_operated_room : (d : Direct) (o : BinaryOperation) (right : Operand) (code : List Instruction) → room_in (beside right code ++ low_operation d o right ∷ []) ≤ 22 + room_in code
low_operated_room d o (Number k) code = let h = low_constant_room d o k in omega (arith, h)
low_operated_room d o (Name widths.Byte x) code = omega arith
low_operated_room d o (Name widths.Word x) code = let h = read_room widths.Word o widths.Word in omega (arith, h)
low_operated_room d o Computed code = let h = room_append code (low_top d o ∷ []) in let i = low_top_room d o in omega (arith, h, i)

low_binary_room : (q : Option Direct) (o : BinaryOperation) (right : Operand) (left code whole : List Instruction) (n m : ℕ) → room_in left + 11 ≤ 23 * n → room_in code + 11 ≤ 23 * m → room_in whole + 11 ≤ 23 * (1 + n + m)
    → room_in (by_operator q (λ d. left ++ (beside right code ++ low_operation d o right ∷ [])) whole) + 11 ≤ 23 * (1 + n + m)
low_binary_room (Some d) o right left code whole n m i j w =
    let h = room_append left (beside right code ++ low_operation d o right ∷ []) in
    let k = low_operated_room d o right code in
    omega (arith, h, i, j, k)
low_binary_room None o right left code whole n m i j w = w

low_reading_room : (anchor : Anchor) (offset : ℕ) (ss : Subscripts) → room_in (low_reading anchor offset ss) ≤ 12 + extra ss
low_reading_room (Behind base) offset ss =
    let h = room_append (based base offset ss) (op.Low lows.LoadThere highs.Kept ∷ []) in let k = based_room base offset ss in omega (arith, h, k)
low_reading_room (InObject k start size) offset NoSubscripts = omega arith
low_reading_room (InObject k start size) offset (Subscript stride e more) = omega arith
low_reading_room (OnScreen page start size) offset NoSubscripts = omega arith
low_reading_room (OnScreen page start size) offset (Subscript stride e more) = omega arith
low_reading_room (There address) offset NoSubscripts = omega arith
low_reading_room (There address) offset (Subscript stride e more) = omega arith

low_receiving_room : (o : Operand) (code : List Instruction) → room_in (low_receiving o code) ≤ 6 + room_in code
low_receiving_room (Number port) code = omega arith
low_receiving_room (Name read x) code = let h = room_append code (op.Low lows.Receive highs.Kept ∷ []) in omega (arith, h)
low_receiving_room Computed code = let h = room_append code (op.Low lows.Receive highs.Kept ∷ []) in omega (arith, h)

either_room : (b : Bool) (one other : List Instruction) (n m : ℕ) → room_in one + n ≤ m → room_in other + n ≤ m → room_in (cond b one other) + n ≤ m
either_room true one other n m h k = h
either_room false one other n m h k = k

tested_room : (o : Relation) (right : Operand) (code : List Instruction) → room_in (beside right code) + room_of_test (stands_to o right) ≤ 14 + room_in code
tested_room o (Number k) code = omega arith
tested_room o (Name widths.Byte x) code = omega arith
tested_room o (Name widths.Word x) code = omega arith
tested_room o Computed code = omega arith

named_room : (o : Relation) (w : Width) (x : Place) (k : ℕ) → room_of_test (test.Named o w x k) ≤ 12
named_room o widths.Byte x k = omega arith
named_room o widths.Word x k = omega arith

low_tested_room : (o : Relation) (right : Operand) (code : List Instruction) → room_in (beside right code) + room_of_test (low_stands_to o right) ≤ 14 + room_in code
low_tested_room o (Number k) code = omega arith
low_tested_room o (Name read x) code = omega arith
low_tested_room o Computed code = omega arith

passing_room : (xs : List Scalar) → room_in (passing xs) ≡ 10 * length xs
passing_room [] = refl
passing_room (x ∷ xs) = let h = passing_room xs in omega (arith, h)

argument_room : (w : Width) (o : Operand) (code : List Instruction) → room_in (argument_code w o code) ≤ room_in code + 4
argument_room widths.Byte (Number k) code = omega arith
argument_room widths.Byte (Name widths.Byte y) code = omega arith
argument_room widths.Byte (Name widths.Word y) code = omega arith
argument_room widths.Byte Computed code = omega arith
argument_room widths.Word o code = omega arith

alone_room : (xs : List Scalar) (o : Operand) (code : List Instruction) → room_in (alone xs o code) ≤ room_in code + 8
alone_room [] o code = omega arith
alone_room (x ∷ xs) o code = let h = room_append (argument_code x.width o code) (stored_in x ∷ []) in let i = argument_room x.width o code in omega (arith, h, i)

second_room : (x y : Scalar) (o : Operand) (code : List Instruction) → room_in (second_passed x y o code) ≤ room_in code + 15
second_room x y (Number k) code = let h = room_append (argument_code y.width (Number k) code) (stored_in y ∷ []) in let i = argument_room y.width (Number k) code in omega (arith, h, i)
second_room x y (Name w z) code =
    let h = room_append (argument_code y.width (Name w z) code) (op.StoreTop x.width (place_of x.place) ∷ stored_in y ∷ []) in let i = argument_room y.width (Name w z) code in omega (arith, h, i)
second_room x y Computed code = let h = room_append code (op.StoreTop x.width (place_of x.place) ∷ stored_in y ∷ []) in omega (arith, h)

pair_room : (xs : List Scalar) (o q : Operand) (first second : List Instruction) → room_in (pair xs o q first second) ≤ room_in first + room_in second + 19
pair_room [] o q first second = omega arith
pair_room (x ∷ []) o q first second = omega arith
pair_room (x ∷ y ∷ xs) o q first second =
    let h = room_append (argument_code x.width o first) (second_passed x y q second) in
    let i = argument_room x.width o first in
    let j = second_room x y q second in
    omega (arith, h, i, j)

known_room : (z : Option ℕ) (code : List Instruction) (n : ℕ) → room_in code + 11 ≤ n → 14 ≤ n → room_in (unless_known z code) + 11 ≤ n
known_room (Some k) code n h low = omega (arith, low)
known_room None code n h low = h

changed_room : (o : UnaryOperation) (low whole : List Instruction) (n : ℕ) → room_in low + 11 ≤ n → room_in whole + 11 ≤ n → room_in (operand_code o low whole ++ low_changing o ∷ []) + 11 ≤ 23 + n
changed_room unary.Plus low whole n f g = let h = room_append low (low_changing unary.Plus ∷ []) in omega (arith, f, g, h)
changed_room unary.Minus low whole n f g = let h = room_append whole (low_changing unary.Minus ∷ []) in omega (arith, f, g, h)
changed_room unary.Not low whole n f g = let h = room_append low (low_changing unary.Not ∷ []) in omega (arith, f, g, h)
changed_room unary.Low low whole n f g = let h = room_append low (low_changing unary.Low ∷ []) in omega (arith, f, g, h)
changed_room unary.High low whole n f g = let h = room_append whole (low_changing unary.High ∷ []) in omega (arith, f, g, h)
changed_room unary.Double low whole n f g = let h = room_append low (low_changing unary.Double ∷ []) in omega (arith, f, g, h)

written_room : (z : Option ℕ) (known : ℕ → List Instruction) (code : List Instruction) (n : ℕ) → ((to : ℕ) → room_in (known to) ≤ n) → room_in code ≤ n → room_in (by_offset z known code) ≤ n
written_room (Some to) known code n f g = f to
written_room None known code n f g = g

by_offset_room : (z : Option ℕ) (known : ℕ → List Instruction) (code : List Instruction) (k n : ℕ) → ((to : ℕ) → room_in (known to) ≤ k) → k + 11 ≤ n → room_in code + 11 ≤ n → room_in (by_offset z known code) + 11 ≤ n
by_offset_room (Some to) known code k n f le g = let h = f to in omega (arith, h, le)
by_offset_room None known code k n f le g = g

low_known_room : (z : Option ℕ) (code : List Instruction) (n : ℕ) → room_in code + 11 ≤ n → 14 ≤ n → room_in (unless_low_known z code) + 11 ≤ n
low_known_room (Some k) code n h low = omega (arith, low)
low_known_room None code n h low = h

used_room : (g : Bool) → room_in (used g) ≤ 3
used_room true = omega arith
used_room false = omega arith

-- ---- expressions

module _ (sizes : List ℕ) (procedures : List Procedure) (MayCall : ℕ → Type 0) where
  abbrev code : Expression → List Instruction
  code e = expression_code procedures e

  several_room : (p : ℕ) (xs : List Scalar) (n : ℕ) (pushed : List Instruction) → length xs ≡ suc (suc (suc n)) → room_in (pushed ++ (passing xs ++ op.Drop (3 + n) ∷ op.Invoke p ∷ [])) ≤ room_in pushed + 10 * n + 37
  several_room p xs n pushed same =
      let h = room_append pushed (passing xs ++ op.Drop (3 + n) ∷ op.Invoke p ∷ []) in
      let i = room_append (passing xs) (op.Drop (3 + n) ∷ op.Invoke p ∷ []) in
      let j = passing_room xs in
      omega (arith, h, i, j, same)

  -- with room for a constant
  call_room : (es : Expressions) (p : ℕ) → IsExpression sizes procedures MayCall (Call p es) → room_in (pushed_code procedures es) + 10 * count_of es ≤ 23 * all_nodes es → room_in (calling procedures p es) + 14 ≤ 23 * (1 + all_nodes es)
  call_room NoMore p is i = omega arith
  call_room (More e NoMore) p is i =
      let xs = parameters_of (slice_get procedures p) in
      let h = room_append (alone xs (operand_of e) (code e)) (op.Invoke p ∷ []) in
      let j = alone_room xs (operand_of e) (code e) in
      let k = room_append (code e) (op.Push ∷ []) in
      omega (arith, h, i, j, k)
  call_room (More e (More f NoMore)) p is i =
      let xs = parameters_of (slice_get procedures p) in
      let h = room_append (pair xs (operand_of e) (operand_of f) (code e) (code f)) (op.Invoke p ∷ []) in
      let j = pair_room xs (operand_of e) (operand_of f) (code e) (code f) in
      let k = room_append (code e) (op.Push ∷ (code f ++ op.Push ∷ [])) in
      let l = room_append (code f) (op.Push ∷ []) in
      omega (arith, h, i, j, k, l)
  call_room (More e (More f (More g es))) p is i =
      let xs = parameters_of (slice_get procedures p) in
      let same : length xs ≡ suc (suc (suc (count_of es))) = ap (λ o. length (parameters_of o)) is.0.1 ∙ is.0.2 in
      let h = several_room p xs (count_of es) (pushed_code procedures (More e (More f (More g es)))) same in
      omega (arith, h, i)

  mutual
    pub expression_room : (e : Expression) → IsExpression sizes procedures MayCall e → room_in (code e) + 11 ≤ 23 * nodes e
    expression_room (Constant k) is = omega arith
    expression_room (Plain width x) is = omega (arith, width_room width)
    expression_room (Variable width (Refer m l anchor offset ss)) is =
        let h = room_append (subscripts_code procedures ss) (reading width anchor offset ss) in
        let i = subscripts_room ss is.1 in
        let j = reading_room width anchor offset ss in
        by_offset_room (leads_to (Some offset) ss) (λ to. reading width anchor to NoSubscripts) (subscripts_code procedures ss ++ reading width anchor offset ss) 12 (23 * (1 + subscripts_nodes ss)) (λ to. reading_room width anchor to NoSubscripts) (omega arith) (omega (arith, h, i, j))
    expression_room (Location (Refer m l anchor offset ss)) is =
        let h = room_append (subscripts_code procedures ss) (locating anchor offset ss) in
        let i = subscripts_room ss is.1 in
        let j = locating_room anchor offset ss in
        by_offset_room (leads_to (Some offset) ss) (λ to. locating anchor to NoSubscripts) (subscripts_code procedures ss ++ locating anchor offset ss) 12 (23 * (1 + subscripts_nodes ss)) (λ to. locating_room anchor to NoSubscripts) (omega arith) (omega (arith, h, i, j))
    expression_room (Unary o width e) is =
        let h = room_append (code e) (op.Unary o width ∷ []) in
        let i = expression_room e is in
        known_room (folded (Unary o width e)) (code e ++ op.Unary o width ∷ []) (23 * (1 + nodes e)) (omega (arith, h, i)) (omega arith)
    expression_room (Binary m l o width a b) is =
        let h = room_append (code a) (beside (operand_of b) (code b) ++ operation o width (operand_of b) ∷ []) in
        let i = expression_room a is.0 in
        let j = expression_room b is.1 in
        let k = operated_room o width (operand_of b) (code b) in
        known_room (folded (Binary m l o width a b)) (code a ++ (beside (operand_of b) (code b) ++ operation o width (operand_of b) ∷ [])) (23 * (1 + nodes a + nodes b)) (omega (arith, h, i, j, k)) (omega arith)
    expression_room (Embedded t e) is =
        let h = room_append (code e) (target_code procedures t) in
        let i = expression_room e is.1 in
        let j = target_room t is.0 in
        omega (arith, h, i, j)
    expression_room (Input width e) is = let h = receiving_room width (operand_of e) (code e) in let i = expression_room e is in omega (arith, h, i)
    expression_room (Call p es) is =
        let h = room_append (calling procedures p es) (used (gives (slice_get procedures p))) in
        let i = call_room es p is (pushed_room es is.1) in
        let j = used_room (gives (slice_get procedures p)) in
        omega (arith, h, i, j)
    expression_room (Value v) is = absurd is
    expression_room (Passing p xs vs) is = absurd is
    expression_room (Running ss) is = absurd is

    pushed_room : (es : Expressions) → AreExpressions sizes procedures MayCall es → room_in (pushed_code procedures es) + 10 * count_of es ≤ 23 * all_nodes es
    pushed_room NoMore is = omega arith
    pushed_room (More e es) is =
        let h = room_append (code e) (op.Push ∷ pushed_code procedures es) in
        let i = expression_room e is.0 in
        let j = pushed_room es is.1 in
        omega (arith, h, i, j)

    -- of at most two
    subscripts_room : (ss : Subscripts) → AreSubscripts sizes procedures MayCall 2 ss → room_in (subscripts_code procedures ss) + extra ss ≤ 23 * subscripts_nodes ss
    subscripts_room NoSubscripts is = omega arith
    subscripts_room (Subscript stride e more) is =
        let h = room_append (code e) (scaled stride ++ further_code procedures more) in
        let i = room_append (scaled stride) (further_code procedures more) in
        let j = expression_room e is.0 in
        let k = further_room more is.1 in
        let l = scaled_room stride in
        omega (arith, h, i, j, k, l)

    further_room : (ss : Subscripts) → AreSubscripts sizes procedures MayCall 1 ss → room_in (further_code procedures ss) ≤ 23 * subscripts_nodes ss
    further_room NoSubscripts is = omega arith
    further_room (Subscript stride e NoSubscripts) is =
        let h = room_append (code e) (scaled stride ++ op.Binary binary.Add widths.Word ∷ []) in
        let i = room_append (scaled stride) (op.Binary binary.Add widths.Word ∷ []) in
        let j = expression_room e is.0 in
        let l = scaled_room stride in
        omega (arith, h, i, j, l)
    further_room (Subscript stride e (Subscript s f more)) is = absurd is.1

    pub target_room : (t : Target) → IsTarget sizes procedures MayCall t → room_in (target_code procedures t) ≤ 23 * target_nodes t
    target_room (ToPlain width x) is = omega arith
    target_room (ToVariable width (Refer m l anchor offset ss)) is =
        let h = writing_room width anchor offset ss (subscripts_code procedures ss) in
        let i = subscripts_room ss is.1 in
        written_room (leads_to (Some offset) ss) (λ to. writing width anchor to NoSubscripts []) (writing width anchor offset ss (subscripts_code procedures ss)) (23 * target_nodes (ToVariable width (Refer m l anchor offset ss)))
        (λ to. let k = writing_room width anchor to NoSubscripts [] in omega (arith, k)) (omega (arith, h, i))
    target_room (ToPort width e) is = let h = sending_room width (operand_of e) (code e) in let i = expression_room e is in omega (arith, h, i)

  low_room : (e : Expression) → IsExpression sizes procedures MayCall e → room_in (low_code procedures e) + 11 ≤ 23 * nodes e
  low_room (Constant k) is = omega arith
  low_room (Plain widths.Byte x) is = omega arith
  low_room (Plain widths.Word x) is = omega arith
  low_room (Variable widths.Byte (Refer m l anchor offset ss)) is =
      let h = room_append (subscripts_code procedures ss) (low_reading anchor offset ss) in
      let i = subscripts_room ss is.1 in
      let j = low_reading_room anchor offset ss in
      by_offset_room (leads_to (Some offset) ss) (λ to. low_reading anchor to NoSubscripts) (subscripts_code procedures ss ++ low_reading anchor offset ss) 12 (23 * (1 + subscripts_nodes ss)) (λ to. low_reading_room anchor to NoSubscripts) (omega arith) (omega (arith, h, i, j))
  low_room (Variable widths.Word r) is = expression_room (Variable widths.Word r) is
  low_room (Location r) is = expression_room (Location r) is
  low_room (Unary o width e) is =
      let h = changed_room o (low_code procedures e) (code e) (23 * nodes e) (low_room e is) (expression_room e is) in
      low_known_room (folded (Unary o width e)) (operand_code o (low_code procedures e) (code e) ++ low_changing o ∷ []) (23 * (1 + nodes e)) (omega (arith, h)) (omega arith)
  low_room (Binary m l o width a b) is =
      low_known_room (folded (Binary m l o width a b)) (by_operator (direct_of o) (λ d. low_code procedures a ++ (beside (operand_of b) (low_code procedures b) ++ low_operation d o (operand_of b) ∷ [])) (code (Binary m l o width a b))) (23 * nodes (Binary m l o width a b))
      (low_binary_room (direct_of o) o (operand_of b) (low_code procedures a) (low_code procedures b) (code (Binary m l o width a b)) (nodes a) (nodes b) (low_room a is.0) (low_room b is.1) (expression_room (Binary m l o width a b) is)) (omega arith)
  low_room (Embedded t e) is =
      let h = room_append (low_code procedures e) (target_code procedures t) in
      let i = low_room e is.1 in
      let j = target_room t is.0 in
      either_room (takes_byte t) (low_code procedures e ++ target_code procedures t) (code (Embedded t e)) 11 (23 * nodes (Embedded t e)) (omega (arith, h, i, j)) (expression_room (Embedded t e) is)
  low_room (Input widths.Byte e) is = let h = low_receiving_room (operand_of e) (code e) in let i = expression_room e is in omega (arith, h, i)
  low_room (Input widths.Word e) is = expression_room (Input widths.Word e) is
  low_room (Call p es) is = expression_room (Call p es) is
  low_room (Value v) is = absurd is
  low_room (Passing p xs vs) is = absurd is
  low_room (Running ss) is = absurd is

  pub returned_room : (w : Width) (e : Expression) → IsExpression sizes procedures MayCall e → room_in (returned_code procedures w e) + 11 ≤ 23 * nodes e
  returned_room widths.Byte e is = low_room e is
  returned_room widths.Word e is = expression_room e is

  pub given_room : (ts : Targets) (e : Expression) → IsExpression sizes procedures MayCall e → room_in (given_code procedures ts e) + 11 ≤ 23 * nodes e
  given_room ts e is = either_room (take_bytes ts) (low_code procedures e) (code e) 11 (23 * nodes e) (low_room e is) (expression_room e is)

  dropped_room : (e : Expression) → IsExpression sizes procedures MayCall e → room_in (dropped_code procedures e) ≤ 23 * nodes e
  dropped_room (Constant k) is = omega arith
  dropped_room (Plain width x) is = omega (arith, width_room width)
  dropped_room (Variable width r) is = let h = expression_room (Variable width r) is in omega (arith, h)
  dropped_room (Location r) is = let h = expression_room (Location r) is in omega (arith, h)
  dropped_room (Unary o width e) is = let h = expression_room (Unary o width e) is in omega (arith, h)
  dropped_room (Binary m l o width a b) is = let h = expression_room (Binary m l o width a b) is in omega (arith, h)
  dropped_room (Embedded t e) is = let h = expression_room (Embedded t e) is in omega (arith, h)
  dropped_room (Input width e) is = let h = expression_room (Input width e) is in omega (arith, h)
  dropped_room (Call p es) is = let h = call_room es p is (pushed_room es is.1) in omega (arith, h)
  dropped_room (Value v) is = absurd is
  dropped_room (Passing p xs vs) is = absurd is
  dropped_room (Running ss) is = absurd is

  targets_room : (ts : Targets) → AreTargets sizes procedures MayCall ts → room_in (targets_code procedures ts) ≤ 23 * targets_nodes ts
  targets_room (Only t) is = target_room t is
  targets_room (Also t ts) is =
      let h = room_append (target_code procedures t) (targets_code procedures ts) in
      let i = target_room t is.0 in
      let j = targets_room ts is.1 in
      omega (arith, h, i, j)

  pub assigned_room : (ts : Targets) (e : Expression) → AreTargets sizes procedures MayCall ts → IsExpression sizes procedures MayCall e → room_in (assigned_code procedures ts e) + 5 ≤ 23 * (1 + targets_nodes ts + nodes e)
  assigned_room ts e gt ge =
      assigned procedures (λ ts code. AreTargets sizes procedures MayCall ts → room_in code + 5 ≤ 23 * (1 + targets_nodes ts + nodes e)) ts e
      (λ k is width m l anchor fixed offset stride f more good.
      let ss = Subscript stride f more in
      let h = room_append (subscripts_code procedures ss) (op.StoreConstantAt width (anchor_place anchor offset) k ∷ []) in
      let i = subscripts_room ss good.1 in
      omega (arith, h, i))
      (λ good.
      let h = room_append (given_code procedures ts e) (targets_code procedures ts) in
      let i = given_room ts e ge in
      let j = targets_room ts good in
      omega (arith, h, i, j)) gt

  -- with its test
  condition_room : (e : Expression) → IsExpression sizes procedures MayCall e → room_in (condition_code procedures e) + room_of_test (test_of e) ≤ 23 * nodes e
  condition_room (Constant k) is = let h = low_room (Constant k) is in omega (arith, h)
  condition_room (Plain widths.Byte x) is = omega arith
  condition_room (Plain widths.Word x) is = let h = low_room (Plain widths.Word x) is in omega (arith, h)
  condition_room (Variable width r) is = let h = low_room (Variable width r) is in omega (arith, h)
  condition_room (Location r) is = let h = low_room (Location r) is in omega (arith, h)
  condition_room (Unary o width e) is = let h = low_room (Unary o width e) is in omega (arith, h)
  condition_room (Binary m l o width a b) is = cases (relation_of o)
    where
      comparison : (bytes : Bool) (r : Relation)
          → room_in (compared bytes (low_code procedures a ++ beside (operand_of b) (low_code procedures b)) (code a ++ beside (operand_of b) (code b))) + room_of_test (related bytes r (operand_of b)) ≤ 23 * (1 + nodes a + nodes b)
      comparison true r =
          let h = room_append (low_code procedures a) (beside (operand_of b) (low_code procedures b)) in
          let i = low_room a is.0 in
          let j = low_room b is.1 in
          let k = low_tested_room r (operand_of b) (low_code procedures b) in
          omega (arith, h, i, j, k)
      comparison false r =
          let h = room_append (code a) (beside (operand_of b) (code b)) in
          let i = expression_room a is.0 in
          let j = expression_room b is.1 in
          let k = tested_room r (operand_of b) (code b) in
          omega (arith, h, i, j, k)

      cases : (r : Option Relation)
          → room_in (asking r (λ q. unless_named (named (are_bytes a b) q (operand_of a) (operand_of b)) (comparison_code procedures a b)) (low_code procedures (Binary m l o width a b))) + room_of_test (asked r (are_bytes a b) (operand_of a) (operand_of b))
          ≤ 23 * (1 + nodes a + nodes b)
      cases (Some r) =
          by_named (λ z. room_in (unless_named z (comparison_code procedures a b)) + room_of_test (or_test z (related (are_bytes a b) r (operand_of b))) ≤ 23 * (1 + nodes a + nodes b)) (are_bytes a b) r (operand_of a) (operand_of b)
          (comparison (are_bytes a b) r) (λ w y k is number suits. let h = named_room r w y k in omega (arith, h))
      cases None = let h = low_room (Binary m l o width a b) is in omega (arith, h)
  condition_room (Embedded t e) is = let h = low_room (Embedded t e) is in omega (arith, h)
  condition_room (Input width e) is = let h = low_room (Input width e) is in omega (arith, h)
  condition_room (Call p es) is = let h = low_room (Call p es) is in omega (arith, h)
  condition_room (Value v) is = absurd is
  condition_room (Passing p xs vs) is = absurd is
  condition_room (Running ss) is = absurd is

-- ---- parts of statements

returning_room : (around : Kind) → room_in (returning around) ≤ 6
returning_room OfMain = omega arith
returning_room Called = omega arith
returning_room Giving = omega arith
returning_room Serving = omega arith

narrowed_room : (width : Width) → room_in (narrowed width) ≤ 4
narrowed_room widths.Byte = omega arith
narrowed_room widths.Word = omega arith

over_room : (silent : Bool) (otherwise : List Instruction) (exit : ℕ) → room_in (over silent otherwise exit) ≤ 3
over_room true otherwise exit = omega arith
over_room false otherwise exit = omega arith

pushed_step_room : (x : Scalar) (code : List Instruction) (before : ℕ) → room_in (code ++ add_pushed x before) ≤ room_in code + 26
pushed_step_room x code before = let h = room_append code (add_pushed x before) in omega (arith, h, width_room x.width)

load_room : (w : Width) (at : Place) → room_of (low_load w at) ≤ 4
load_room widths.Byte at = omega arith
load_room widths.Word at = omega arith

index_room : (bytes : Bool) (x : Scalar) → room_of (index_read bytes x) ≤ 6
index_room true x = omega arith
index_room false x = omega (arith, width_room x.width)

number_step_room : (o : Counting) (x : Scalar) (s before : ℕ) → room_in (next_by_number o x s before) ≤ 26
number_step_room counting.Up x s before = let h = load_room x.width (place_of x.place) in omega (arith, h)
number_step_room counting.SignedUp x s before = omega (arith, width_room x.width)
number_step_room counting.SignedDown x s before = omega (arith, width_room x.width)

while_loop_room : (b : Bool) (condition : List Instruction) (t : Test) (body : List Instruction) (exit : ℕ) → room_in (while_loop b condition t body exit) ≤ (room_in condition + room_of_test t) + room_in body + 3
while_loop_room true condition t body exit = let i = room_append body (op.Back (length body + 1) ∷ []) in omega (arith, i)
while_loop_room false condition t body exit =
    let back = op.Back (length condition + length body + 2) ∷ [] in
    let h = room_append condition (op.AheadUnless t (length body + 1 + exit) ∷ (body ++ back)) in
    let i = room_append body back in
    omega (arith, h, i)

choosing_room : (condition : List Instruction) (t : Test) (arm : List Instruction) (silent : Bool) (otherwise : List Instruction) (exit : ℕ)
    → room_in (choosing condition t arm silent otherwise exit) ≤ (room_in condition + room_of_test t) + room_in arm + room_in otherwise + 3
choosing_room condition t arm silent otherwise exit =
    let h = room_append condition (op.AheadUnless t (failing silent arm exit) ∷ (arm ++ (over silent otherwise exit ++ otherwise))) in
    let i = room_append arm (over silent otherwise exit ++ otherwise) in
    let j = room_append (over silent otherwise exit) otherwise in
    let k = over_room silent otherwise exit in
    omega (arith, h, i, j, k)

entries_room : (before : ℕ) (cs : List (List Instruction)) → room_in (entries before cs) ≡ 2 * length cs
entries_room before [] = refl
entries_room before (c ∷ cs) = let h = entries_room (before + length c) cs in omega (arith, h)

switching_room : (cs : List (List Instruction)) (exit : ℕ) → room_in (switching cs exit) ≡ 20 + 2 * length cs + room_in (all_of cs)
switching_room cs exit =
    let h = room_append (entries 0 cs) (op.Ahead (length (all_of cs) + exit) ∷ all_of cs) in
    let i = entries_room 0 cs in
    omega (arith, h, i)

-- ---- statements

module _ (sizes : List ℕ) (procedures : List Procedure) (MayCall : ℕ → Type 0) (around : Kind) where
  abbrev value_code : Expression → List Instruction
  value_code e = expression_code procedures e

  computed_step_room : (x : Scalar) (e : Expression) (before : ℕ) → IsExpression sizes procedures MayCall e → room_in (value_code e ++ add_pushed x before) ≤ 23 * nodes e + 26
  computed_step_room x e before is = let h = pushed_step_room x (value_code e) before in let i = expression_room sizes procedures MayCall e is in omega (arith, h, i)

  known_step_room : (c : Counting) (x : Scalar) (e : Expression) (z : Option ℕ) (before : ℕ) → IsExpression sizes procedures MayCall e → room_in (next_round c x (number_of z) (value_code e) before) ≤ 23 * nodes e + 26
  known_step_room c x e (Some k) before is = let h = number_step_room c x k before in omega (arith, h)
  known_step_room c x e None before is = computed_step_room x e (before + length (value_code e)) is

  next_room : (c : Counting) (x : Scalar) (e : Expression) (before : ℕ) → IsExpression sizes procedures MayCall e → room_in (next_round c x (operand_of e) (value_code e) before) ≤ 23 * step_nodes e + 26
  next_room c x (Constant k) before is = number_step_room c x k before
  next_room c x (Plain width y) before is = computed_step_room x (Plain width y) (before + length (value_code (Plain width y))) is
  next_room c x (Variable width r) before is = computed_step_room x (Variable width r) (before + length (value_code (Variable width r))) is
  next_room c x (Location r) before is = computed_step_room x (Location r) (before + length (value_code (Location r))) is
  next_room c x (Unary o width e) before is = known_step_room c x (Unary o width e) (folded (Unary o width e)) before is
  next_room c x (Binary m l o width a b) before is = known_step_room c x (Binary m l o width a b) (folded (Binary m l o width a b)) before is
  next_room c x (Embedded t e) before is = computed_step_room x (Embedded t e) (before + length (value_code (Embedded t e))) is
  next_room c x (Input width e) before is = computed_step_room x (Input width e) (before + length (value_code (Input width e))) is
  next_room c x (Call p es) before is = computed_step_room x (Call p es) (before + length (value_code (Call p es))) is
  next_room c x (Value v) before is = absurd is
  next_room c x (Passing p xs vs) before is = absurd is
  next_room c x (Running ss) before is = absurd is

  bound_room : (bytes : Bool) (c : Counting) (bound : Expression) → IsExpression sizes procedures MayCall bound
      → room_in (compared bytes (beside (operand_of bound) (low_code procedures bound)) (beside (operand_of bound) (value_code bound))) + room_of_test (related bytes (within c) (operand_of bound)) ≤ 23 * nodes bound + 3
  bound_room true c bound ib =
      let k = low_tested_room (within c) (operand_of bound) (low_code procedures bound) in
      let o = low_room sizes procedures MayCall bound ib in
      omega (arith, k, o)
  bound_room false c bound ib =
      let k = tested_room (within c) (operand_of bound) (value_code bound) in
      let o = expression_room sizes procedures MayCall bound ib in
      omega (arith, k, o)

  asked_room : (bytes : Bool) (c : Counting) (x : Scalar) (index : Operand) (bound : Expression) → IsExpression sizes procedures MayCall bound
      → room_in (unless_named (named bytes (within c) index (operand_of bound)) (index_read bytes x ∷ compared bytes (beside (operand_of bound) (low_code procedures bound)) (beside (operand_of bound) (value_code bound))))
      + room_of_test (compared_by bytes (within c) index (operand_of bound)) ≤ 23 * nodes bound + 9
  asked_room bytes c x index bound ib =
      let comparison = compared bytes (beside (operand_of bound) (low_code procedures bound)) (beside (operand_of bound) (value_code bound)) in
      let k = bound_room bytes c bound ib in
      let q = index_room bytes x in
      let some = low_room sizes procedures MayCall bound ib in
      by_named (λ z. room_in (unless_named z (index_read bytes x ∷ comparison)) + room_of_test (or_test z (related bytes (within c) (operand_of bound))) ≤ 23 * nodes bound + 9) bytes (within c) index (operand_of bound)
      (omega (arith, k, q)) (λ w y n is number suits. let h = named_room (within c) w y n in omega (arith, h, some))

  iterate_room : (bytes : Bool) (a : Expression) (c : Counting) (x : Scalar) (bound step : Expression) (body : List Instruction) (n exit : ℕ) → IsExpression sizes procedures MayCall a → IsExpression sizes procedures MayCall bound
      → IsExpression sizes procedures MayCall step
      → room_in (returned_code procedures x.width a ++ (op.Store x.width (place_of x.place)
      ∷ (unless_named (named bytes (within c) (Name x.width (place_of x.place)) (operand_of bound)) (index_read bytes x ∷ compared bytes (beside (operand_of bound) (low_code procedures bound)) (beside (operand_of bound) (value_code bound)))
      ++ (op.AheadUnless (compared_by bytes (within c) (Name x.width (place_of x.place)) (operand_of bound)) exit ∷ (body ++ next_round c x (operand_of step) (value_code step) n)))))
      ≤ 23 * (nodes a + nodes bound + step_nodes step) + room_in body + 28
  iterate_room bytes a c x bound step body n exit ia ib is =
      let again = next_round c x (operand_of step) (value_code step) n in
      let comparison = compared bytes (beside (operand_of bound) (low_code procedures bound)) (beside (operand_of bound) (value_code bound)) in
      let index = Name x.width (place_of x.place) in
      let asked = unless_named (named bytes (within c) index (operand_of bound)) (index_read bytes x ∷ comparison) in
      let rest = op.AheadUnless (compared_by bytes (within c) index (operand_of bound)) exit ∷ (body ++ again) in
      let h = room_append (returned_code procedures x.width a) (op.Store x.width (place_of x.place) ∷ (asked ++ rest)) in
      let i = room_append asked rest in
      let j = room_append body again in
      let k = asked_room bytes c x index bound ib in
      let l = next_room c x step n is in
      let m = returned_room sizes procedures MayCall x.width a ia in
      omega (arith, h, i, j, k, l, m)

  mutual
    statement_room : (s : Statement) (exit : ℕ) → IsStatement sizes procedures MayCall around s → room_in (statement_code procedures around exit s) + 5 ≤ 23 * statement_nodes s
    statement_room Empty exit is = omega arith
    statement_room (Assign ts e) exit is = assigned_room sizes procedures MayCall ts e is.0 is.1
    statement_room (Evaluate e) exit is = let i = dropped_room sizes procedures MayCall e is in omega (arith, i)
    statement_room Return exit is = let h = returning_room around in omega (arith, h)
    statement_room (ReturnValue width e) exit is =
        let h = room_append (returned_code procedures width e) (narrowed width ++ op.Leave ∷ []) in
        let i = room_append (narrowed width) (op.Leave ∷ []) in
        let j = narrowed_room width in
        let k = returned_room sizes procedures MayCall width e is.1 in
        omega (arith, h, i, j, k)
    statement_room Enabling exit is = omega arith
    statement_room Disabling exit is = omega arith
    statement_room Halting exit is = omega arith
    statement_room (If c arm other) exit is =
        let otherwise = statements_code procedures around exit other in
        let arm_exit = length (over (are_silent other) otherwise exit) + length otherwise + exit in
        let h = choosing_room (condition_code procedures c) (test_of c) (statements_code procedures around arm_exit arm) (are_silent other) otherwise exit in
        let i = condition_room sizes procedures MayCall c is.0 in
        let j = statements_room arm arm_exit is.1 in
        let k = statements_room other exit is.2 in
        omega (arith, h, i, j, k)
    statement_room (Block ss) exit is = let h = statements_room ss exit is in omega (arith, h)
    statement_room (While c d ss) exit is =
        let h = while_loop_room (always d) (condition_code procedures d) (test_of d) (statements_code procedures around 0 ss) exit in
        let j = condition_room sizes procedures MayCall d is.1 in
        let k = statements_room ss 0 is.2 in
        omega (arith, h, j, k)
    statement_room (Case e ss) exit is =
        let cs = cases_code procedures around exit ss in
        let h = room_append (value_code e) (switching cs exit) in
        let i = switching_room cs exit in
        let j = expression_room sizes procedures MayCall e is.0 in
        let k = cases_room ss exit is.1 in
        omega (arith, h, i, j, k)
    statement_room (Iterate a (Count o x bound step ss)) exit is =
        let body = statements_code procedures around 0 ss in
        let bytes = counts_bytes x bound in
        let comparison = compared bytes (beside (operand_of bound) (low_code procedures bound)) (beside (operand_of bound) (value_code bound)) in
        let n = length (unless_named (named bytes (within o) (Name x.width (place_of x.place)) (operand_of bound)) (index_read bytes x ∷ comparison)) + length body + 1 in
        let h = iterate_room bytes a o x bound step body n (length body + length (next_round o x (operand_of step) (value_code step) n) + exit) is.0 is.1.1 is.1.2 in
        let i = statements_room ss 0 is.1.3 in
        omega (arith, h, i)
    statement_room Leaving exit is = absurd is
    statement_room (Round l) exit is = absurd is
    statement_room (Comparing i e l) exit is = absurd is
    statement_room (Stepping e l) exit is = absurd is
    statement_room (Adding i s l) exit is = absurd is
    statement_room (Storing s b l) exit is = absurd is
    statement_room (Ending b l) exit is = absurd is

    pub statements_room : (ss : Statements) (exit : ℕ) → AreStatements sizes procedures MayCall around ss → room_in (statements_code procedures around exit ss) ≤ 23 * statements_nodes ss
    statements_room End exit is = omega arith
    statements_room (Then s later) exit is =
        let at = exit_before (are_silent later) exit in
        let h = room_append (statement_code procedures around at s) (statements_code procedures around exit later) in
        let i = statement_room s at is.0 in
        let j = statements_room later exit is.1 in
        omega (arith, h, i, j)
    statements_room (Returned v) exit is = absurd is

    -- with their entries
    cases_room : (ss : Statements) (exit : ℕ) → AreStatements sizes procedures MayCall around ss
        → room_in (all_of (cases_code procedures around exit ss)) + 2 * length (cases_code procedures around exit ss) ≤ 23 * statements_nodes ss
    cases_room End exit is = omega arith
    cases_room (Then s later) exit is =
        let others = cases_code procedures around exit later in
        let behind = length (all_of others) + exit in
        let h = room_append (statement_code procedures around (1 + behind) s ++ op.Ahead behind ∷ []) (all_of others) in
        let i = room_append (statement_code procedures around (1 + behind) s) (op.Ahead behind ∷ []) in
        let j = statement_room s (1 + behind) is.0 in
        let k = cases_room later exit is.1 in
        omega (arith, h, i, j, k)
    cases_room (Returned v) exit is = absurd is

-- ---- routines

module _ (sizes : List ℕ) (procedures : List Procedure) (MayCall : ℕ → Type 0) where
  pub main_room : (ss : Statements) → AreStatements sizes procedures MayCall OfMain ss → room_in (routine_code procedures OfMain ss) ≤ 23 * statements_nodes ss + 5
  main_room ss is =
      let h = room_append (statements_code procedures OfMain 0 ss) (ended_by (all_stay ss) OfMain) in
      let i = statements_room sizes procedures MayCall OfMain ss 0 is in
      let j = main_ended (all_stay ss) in
      omega (arith, h, i, j)
    where
      main_ended : (b : Bool) → room_in (ended_by b OfMain) ≤ 5
      main_ended true = omega arith
      main_ended false = omega arith

  ending_room : (around : Kind) → room_in (ending around) ≤ 6
  ending_room OfMain = omega arith
  ending_room Called = omega arith
  ending_room Giving = omega arith
  ending_room Serving = omega arith

  ended_room : (b : Bool) (around : Kind) → room_in (ended_by b around) ≤ 6
  ended_room true around = omega arith
  ended_room false around = ending_room around

  pub body_room : (around : Kind) (ss : Statements) → AreStatements sizes procedures MayCall around ss → room_in (routine_code procedures around ss) + 12 ≤ 23 * (1 + statements_nodes ss)
  body_room around ss is =
      let h = room_append (statements_code procedures around 0 ss) (ended_by (all_stay ss) around) in
      let i = statements_room sizes procedures MayCall around ss 0 is in
      let j = ended_room (all_stay ss) around in
      omega (arith, h, i, j)

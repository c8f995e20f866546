-- The code of an expression leaves as many values pushed as there were.
use Rattle.std.proofs.Common.{◌≡◌, ℕ, suc, ◌+◌, ◌-◌, ◌%◌, Bool, true, false, List, [], ◌∷◌, ◌++◌, Option, Some, None, refl, ap, ◌∙◌, arith, slice_get}
use Rattle.std.specs.Prelude.{cond, nat_eq}
use Rattle.word86.specs.declared.width.Width.{Width}
use Rattle.word86.specs.declared.width.Width.TheVariants as widths
use Rattle.word86.specs.declared.operation.UnaryOperation.{UnaryOperation}
use Rattle.word86.specs.declared.operation.UnaryOperation.TheVariants as unary
use Rattle.word86.specs.declared.operation.BinaryOperation.{BinaryOperation}
use Rattle.word86.specs.declared.operation.BinaryOperation.TheVariants as binary
use Rattle.word86.specs.Access.{Where}
use Rattle.plm_type.specs.Rest.{Anchor, InObject, OnScreen, Behind, There, Scalar, Expression, Constant, Plain, Variable, Location, Unary, Binary, Embedded, Input, Call, Value, Passing, Running, Expressions, NoMore, More, Refer, Subscripts, NoSubscripts, Subscript, Target, ToPlain, ToVariable, ToPort, Targets, Only, Also, Procedure}
use Rattle.plm_type.specs.Next.{parameters_of}
use Rattle.icode.specs.declared.instruction.Instruction.{Instruction}
use Rattle.icode.specs.declared.instruction.Instruction.TheVariants as op
use Rattle.icode.specs.declared.instruction.LowByte.TheVariants as lows
use Rattle.icode.specs.declared.instruction.High.TheVariants as highs
use Rattle.icode.specs.declared.instruction.Right.TheVariants as rights
use Rattle.icode.specs.declared.instruction.Direct.{Direct}
use Rattle.icode.specs.declared.instruction.Direct.TheVariants as directs
use Rattle.icode.specs.Heights.{after, behind}
use Rattle.lower.specs.Expressions.{leads_to, by_offset, folded, unless_known, Operand, anchor_place, Number, Name, Computed, operand_of, beside, operation, scaled, moved, based, reading, locating, writing, receiving, sending, passing, alone, count_of, gives, used, expression_code, first_code, pushed_code, subscripts_code, further_code, target_code, calling, dropped_code, targets_code, stored_in, argument_code, second_passed, pair, second_code, place_of}
use Rattle.lower.specs.LowBytes.{low_top, low_constant, low_operation, low_code, is_one_step, direct_of, by_operator, take_bytes, given_code, low_reading, low_receiving, takes_byte, unless_low_known, operand_code, low_changing, returned_code}
use Rattle.lower.specs.Inner.Assignments.{assigned_code}
use Rattle.lower.proofs.Stores.{assigned}

pub behind_append : (h : ℕ) (xs ys : List Instruction) → behind h (xs ++ ys) ≡ behind (behind h xs) ys
behind_append h [] ys = refl
behind_append h (x ∷ xs) ys = behind_append (after x h) xs ys

-- from any height back to it
abbrev pub Keeps : List Instruction → Type 0
Keeps xs = (h : ℕ) → behind h xs ≡ h

pub keeps_then : (xs ys : List Instruction) → Keeps xs → (h j : ℕ) → behind h ys ≡ j → behind h (xs ++ ys) ≡ j
keeps_then xs ys a h j b = behind_append h xs ys ∙ (ap (λ i. behind i ys) (a h) ∙ b)

pub keeps_both : (xs ys : List Instruction) → Keeps xs → Keeps ys → Keeps (xs ++ ys)
keeps_both xs ys a b h = keeps_then xs ys a h h (b h)

chosen_keeps : (b : Bool) (x : Instruction) → ((h : ℕ) → after x h ≡ h) → Keeps (cond b [] (x ∷ []))
chosen_keeps true x k h = refl
chosen_keeps false x k h = k h

popped_one : (h : ℕ) → suc h - 1 ≡ h
popped_one h = omega arith

pub scaled_keeps : (stride : ℕ) → Keeps (scaled stride)
scaled_keeps stride = chosen_keeps (nat_eq stride 1) (op.BinaryConstant binary.Multiply widths.Word (stride % 65536)) (λ h. refl)

pub moved_keeps : (offset : ℕ) → Keeps (moved offset)
moved_keeps offset = chosen_keeps (nat_eq offset 0) (op.BinaryConstant binary.Add widths.Word (offset % 65536)) (λ h. refl)

pub based_keeps : (base : Where) (offset : ℕ) (ss : Subscripts) → Keeps (based base offset ss)
based_keeps base offset NoSubscripts h = moved_keeps offset h
based_keeps base offset (Subscript stride e more) h = moved_keeps offset h

reading_keeps : (w : Width) (anchor : Anchor) (offset : ℕ) (ss : Subscripts) → Keeps (reading w anchor offset ss)
reading_keeps w (Behind base) offset ss h = keeps_then (based base offset ss) (op.LoadThere w ∷ []) (based_keeps base offset ss) h h refl
reading_keeps w (InObject k start size) offset NoSubscripts h = refl
reading_keeps w (InObject k start size) offset (Subscript stride e more) h = refl
reading_keeps w (OnScreen page start size) offset NoSubscripts h = refl
reading_keeps w (OnScreen page start size) offset (Subscript stride e more) h = refl
reading_keeps w (There address) offset NoSubscripts h = refl
reading_keeps w (There address) offset (Subscript stride e more) h = refl

locating_keeps : (anchor : Anchor) (offset : ℕ) (ss : Subscripts) → Keeps (locating anchor offset ss)
locating_keeps (Behind base) offset ss h = based_keeps base offset ss h
locating_keeps (InObject k start size) offset NoSubscripts h = refl
locating_keeps (InObject k start size) offset (Subscript stride e more) h = refl
locating_keeps (OnScreen page start size) offset NoSubscripts h = refl
locating_keeps (OnScreen page start size) offset (Subscript stride e more) h = refl
locating_keeps (There address) offset NoSubscripts h = refl
locating_keeps (There address) offset (Subscript stride e more) h = refl

writing_keeps : (w : Width) (anchor : Anchor) (offset : ℕ) (ss : Subscripts) (code : List Instruction) → Keeps code → Keeps (writing w anchor offset ss code)
writing_keeps w (Behind base) offset ss code a h =
    keeps_then code (based base offset ss ++ op.StoreThere w ∷ []) a (suc h) h (keeps_then (based base offset ss) (op.StoreThere w ∷ []) (based_keeps base offset ss) (suc h) h (omega arith))
writing_keeps w (InObject k start size) offset NoSubscripts code a h = refl
writing_keeps w (InObject k start size) offset (Subscript stride e more) code a h = keeps_then code (op.StoreAt w (anchor_place (InObject k start size) offset) ∷ []) a (suc h) h (omega arith)
writing_keeps w (OnScreen page start size) offset NoSubscripts code a h = refl
writing_keeps w (OnScreen page start size) offset (Subscript stride e more) code a h = keeps_then code (op.StoreAt w (anchor_place (OnScreen page start size) offset) ∷ []) a (suc h) h (omega arith)
writing_keeps w (There address) offset NoSubscripts code a h = refl
writing_keeps w (There address) offset (Subscript stride e more) code a h = keeps_then code (op.StoreAt w (anchor_place (There address) offset) ∷ []) a (suc h) h (omega arith)

receiving_keeps : (w : Width) (o : Operand) (code : List Instruction) → Keeps code → Keeps (receiving w o code)
receiving_keeps w (Number port) code a h = refl
receiving_keeps w (Name read x) code a h = keeps_then code (op.Receive w ∷ []) a h h refl
receiving_keeps w Computed code a h = keeps_then code (op.Receive w ∷ []) a h h refl

sending_keeps : (w : Width) (o : Operand) (code : List Instruction) → Keeps code → Keeps (sending w o code)
sending_keeps w (Number port) code a h = refl
sending_keeps w (Name read x) code a h = keeps_then code (op.Send w ∷ []) a (suc h) h (omega arith)
sending_keeps w Computed code a h = keeps_then code (op.Send w ∷ []) a (suc h) h (omega arith)

operated_keeps : (o : BinaryOperation) (w : Width) (right : Operand) (code : List Instruction) → Keeps code → Keeps (beside right code ++ operation o w right ∷ [])
operated_keeps o w (Number k) code a h = refl
operated_keeps o w (Name read x) code a h = refl
operated_keeps o w Computed code a h = keeps_then code (op.Binary o w ∷ []) a (suc h) h (omega arith)

pub low_constant_after : (d : Direct) (o : BinaryOperation) (k h : ℕ) → after (low_constant d o k) h ≡ h
low_constant_after d o k h = by (is_one_step d k)
  where
    by : (b : Bool) → after (cond b (op.BinaryConstant o widths.Word k) (op.Low (lows.Operate d (rights.Constant k)) highs.Kept)) h ≡ h
    by true = refl
    by false = refl

pub low_top_after : (d : Direct) (o : BinaryOperation) (h : ℕ) → behind (suc h) (low_top d o ∷ []) ≡ h
low_top_after directs.Add o h = omega arith
low_top_after directs.Subtract o h = omega arith
low_top_after directs.And o h = omega arith
low_top_after directs.Or o h = omega arith
low_top_after directs.ExclusiveOr o h = omega arith

low_operated_keeps : (d : Direct) (o : BinaryOperation) (right : Operand) (code : List Instruction) → Keeps code → Keeps (beside right code ++ low_operation d o right ∷ [])
low_operated_keeps d o (Number k) code a h = low_constant_after d o k h
low_operated_keeps d o (Name widths.Byte x) code a h = refl
low_operated_keeps d o (Name widths.Word x) code a h = refl
low_operated_keeps d o Computed code a h = keeps_then code (low_top d o ∷ []) a (suc h) h (low_top_after d o h)

low_binary_keeps : (q : Option Direct) (o : BinaryOperation) (right : Operand) (left code whole : List Instruction) → Keeps left → Keeps code → Keeps whole → Keeps (by_operator q (λ d. left ++ (beside right code ++ low_operation d o right ∷ [])) whole)
low_binary_keeps (Some d) o right left code whole f g w h = keeps_both left (beside right code ++ low_operation d o right ∷ []) f (low_operated_keeps d o right code g) h
low_binary_keeps None o right left code whole f g w h = w h

low_reading_keeps : (anchor : Anchor) (offset : ℕ) (ss : Subscripts) → Keeps (low_reading anchor offset ss)
low_reading_keeps (Behind base) offset ss h = keeps_then (based base offset ss) (op.Low lows.LoadThere highs.Kept ∷ []) (based_keeps base offset ss) h h refl
low_reading_keeps (InObject k start size) offset NoSubscripts h = refl
low_reading_keeps (InObject k start size) offset (Subscript stride e more) h = refl
low_reading_keeps (OnScreen page start size) offset NoSubscripts h = refl
low_reading_keeps (OnScreen page start size) offset (Subscript stride e more) h = refl
low_reading_keeps (There address) offset NoSubscripts h = refl
low_reading_keeps (There address) offset (Subscript stride e more) h = refl

low_receiving_keeps : (o : Operand) (code : List Instruction) → Keeps code → Keeps (low_receiving o code)
low_receiving_keeps (Number port) code a h = refl
low_receiving_keeps (Name read x) code a h = keeps_then code (op.Low lows.Receive highs.Kept ∷ []) a h h refl
low_receiving_keeps Computed code a h = keeps_then code (op.Low lows.Receive highs.Kept ∷ []) a h h refl

either_keeps : (b : Bool) (one other : List Instruction) → Keeps one → Keeps other → Keeps (cond b one other)
either_keeps true one other f g h = f h
either_keeps false one other f g h = g h

pub passing_keeps : (xs : List Scalar) → Keeps (passing xs)
passing_keeps [] h = refl
passing_keeps (x ∷ xs) h = passing_keeps xs h

pub argument_keeps : (w : Width) (o : Operand) (code : List Instruction) → Keeps code → Keeps (argument_code w o code)
argument_keeps widths.Byte (Number k) code f h = refl
argument_keeps widths.Byte (Name widths.Byte y) code f h = refl
argument_keeps widths.Byte (Name widths.Word y) code f h = f h
argument_keeps widths.Byte Computed code f h = f h
argument_keeps widths.Word o code f h = f h

pub alone_keeps : (xs : List Scalar) (o : Operand) (code : List Instruction) → Keeps code → Keeps (alone xs o code)
alone_keeps [] o code f h = f h
alone_keeps (x ∷ xs) o code f h = keeps_then (argument_code x.width o code) (stored_in x ∷ []) (argument_keeps x.width o code f) h h refl

second_keeps : (x y : Scalar) (o : Operand) (code : List Instruction) → Keeps code → Keeps (second_passed x y o code)
second_keeps x y (Number k) code f h = keeps_then (argument_code y.width (Number k) code) (stored_in y ∷ []) (argument_keeps y.width (Number k) code f) h h refl
second_keeps x y (Name w z) code f h = keeps_then (argument_code y.width (Name w z) code) (op.StoreTop x.width (place_of x.place) ∷ stored_in y ∷ []) (argument_keeps y.width (Name w z) code f) (suc h) h (omega arith)
second_keeps x y Computed code f h = keeps_then code (op.StoreTop x.width (place_of x.place) ∷ stored_in y ∷ []) f (suc h) h (omega arith)

pub pair_keeps : (xs : List Scalar) (o q : Operand) (first second : List Instruction) → Keeps first → Keeps second → Keeps (pair xs o q first second)
pair_keeps [] o q first second f g h = refl
pair_keeps (x ∷ []) o q first second f g h = refl
pair_keeps (x ∷ y ∷ xs) o q first second f g h = keeps_both (argument_code x.width o first) (second_passed x y q second) (argument_keeps x.width o first f) (second_keeps x y q second g) h

pub known_keeps : (z : Option ℕ) (code : List Instruction) → Keeps code → Keeps (unless_known z code)
known_keeps (Some k) code a h = refl
known_keeps None code a h = a h

changed_keeps : (o : UnaryOperation) (low whole : List Instruction) → Keeps low → Keeps whole → Keeps (operand_code o low whole ++ low_changing o ∷ [])
changed_keeps unary.Plus low whole f g h = keeps_then low (low_changing unary.Plus ∷ []) f h h refl
changed_keeps unary.Minus low whole f g h = keeps_then whole (low_changing unary.Minus ∷ []) g h h refl
changed_keeps unary.Not low whole f g h = keeps_then low (low_changing unary.Not ∷ []) f h h refl
changed_keeps unary.Low low whole f g h = keeps_then low (low_changing unary.Low ∷ []) f h h refl
changed_keeps unary.High low whole f g h = keeps_then whole (low_changing unary.High ∷ []) g h h refl
changed_keeps unary.Double low whole f g h = keeps_then low (low_changing unary.Double ∷ []) f h h refl

by_offset_keeps : (z : Option ℕ) (known : ℕ → List Instruction) (code : List Instruction) → ((to : ℕ) → Keeps (known to)) → Keeps code → Keeps (by_offset z known code)
by_offset_keeps (Some to) known code f g h = f to h
by_offset_keeps None known code f g h = g h

low_known_keeps : (z : Option ℕ) (code : List Instruction) → Keeps code → Keeps (unless_low_known z code)
low_known_keeps (Some k) code a h = refl
low_known_keeps None code a h = a h

pub used_keeps : (g : Bool) → Keeps (used g)
used_keeps true h = refl
used_keeps false h = refl

module _ (procedures : List Procedure) where
  pub call_keeps : (es : Expressions) (p : ℕ) → Keeps (first_code procedures es) → Keeps (second_code procedures es) → ((h : ℕ) → behind h (pushed_code procedures es) ≡ count_of es + h) → Keeps (calling procedures p es)
  call_keeps NoMore p first second pushed h = refl
  call_keeps (More e NoMore) p first second pushed h =
      let xs = parameters_of (slice_get procedures p) in
      keeps_then (alone xs (operand_of e) (expression_code procedures e)) (op.Invoke p ∷ []) (alone_keeps xs (operand_of e) (expression_code procedures e) first) h h refl
  call_keeps (More e (More f NoMore)) p first second pushed h =
      let xs = parameters_of (slice_get procedures p) in
      let ce = expression_code procedures e in
      let cf = expression_code procedures f in
      keeps_then (pair xs (operand_of e) (operand_of f) ce cf) (op.Invoke p ∷ []) (pair_keeps xs (operand_of e) (operand_of f) ce cf first second) h h refl
  call_keeps (More e (More f (More g es))) p first second pushed h =
      let xs = parameters_of (slice_get procedures p) in
      let n = 3 + count_of es in
      let dropped = op.Drop n ∷ op.Invoke p ∷ [] in
      let arguments = pushed_code procedures (More e (More f (More g es))) in
      behind_append h arguments (passing xs ++ dropped)
      ∙ (ap (λ i. behind i (passing xs ++ dropped)) (pushed h)
      ∙ keeps_then (passing xs) dropped (passing_keeps xs) (count_of (More e (More f (More g es))) + h) h (omega arith))

  mutual
    pub expression_keeps : (e : Expression) → Keeps (expression_code procedures e)
    expression_keeps (Constant k) h = refl
    expression_keeps (Plain w x) h = refl
    expression_keeps (Variable w (Refer m l anchor offset ss)) h =
        by_offset_keeps (leads_to (Some offset) ss) (λ to. reading w anchor to NoSubscripts) (subscripts_code procedures ss ++ reading w anchor offset ss) (λ to. reading_keeps w anchor to NoSubscripts)
        (keeps_both (subscripts_code procedures ss) (reading w anchor offset ss) (subscripts_keep ss) (reading_keeps w anchor offset ss)) h
    expression_keeps (Location (Refer m l anchor offset ss)) h =
        by_offset_keeps (leads_to (Some offset) ss) (λ to. locating anchor to NoSubscripts) (subscripts_code procedures ss ++ locating anchor offset ss) (λ to. locating_keeps anchor to NoSubscripts)
        (keeps_both (subscripts_code procedures ss) (locating anchor offset ss) (subscripts_keep ss) (locating_keeps anchor offset ss)) h
    expression_keeps (Unary o w e) h =
        known_keeps (folded (Unary o w e)) (expression_code procedures e ++ op.Unary o w ∷ []) (λ h. keeps_then (expression_code procedures e) (op.Unary o w ∷ []) (expression_keeps e) h h refl) h
    expression_keeps (Binary m l o w a b) h =
        let right = beside (operand_of b) (expression_code procedures b) ++ operation o w (operand_of b) ∷ [] in
        known_keeps (folded (Binary m l o w a b)) (expression_code procedures a ++ right)
        (keeps_both (expression_code procedures a) right (expression_keeps a) (operated_keeps o w (operand_of b) (expression_code procedures b) (expression_keeps b))) h
    expression_keeps (Embedded t e) h = keeps_both (expression_code procedures e) (target_code procedures t) (expression_keeps e) (target_keeps t) h
    expression_keeps (Input w e) h = receiving_keeps w (operand_of e) (expression_code procedures e) (expression_keeps e) h
    expression_keeps (Call p es) h = keeps_both (calling procedures p es) (used (gives (slice_get procedures p))) (call_keeps es p (first_keeps es) (second_keep es) (pushed_up es)) (used_keeps (gives (slice_get procedures p))) h
    expression_keeps (Value v) h = refl
    expression_keeps (Passing p xs vs) h = refl
    expression_keeps (Running ss) h = refl

    pub second_keep : (es : Expressions) → Keeps (second_code procedures es)
    second_keep NoMore h = refl
    second_keep (More e es) h = first_keeps es h

    pub first_keeps : (es : Expressions) → Keeps (first_code procedures es)
    first_keeps NoMore h = refl
    first_keeps (More e es) h = expression_keeps e h

    -- each argument is pushed
    pub pushed_up : (es : Expressions) (h : ℕ) → behind h (pushed_code procedures es) ≡ count_of es + h
    pushed_up NoMore h = omega arith
    pushed_up (More e es) h = keeps_then (expression_code procedures e) (op.Push ∷ pushed_code procedures es) (expression_keeps e) h (suc (count_of es) + h) (omega (arith, pushed_up es (suc h)))

    pub subscripts_keep : (ss : Subscripts) → Keeps (subscripts_code procedures ss)
    subscripts_keep NoSubscripts h = refl
    subscripts_keep (Subscript stride e more) h =
        keeps_both (expression_code procedures e) (scaled stride ++ further_code procedures more) (expression_keeps e)
        (keeps_both (scaled stride) (further_code procedures more) (scaled_keeps stride) (further_keep more)) h

    pub further_keep : (ss : Subscripts) → Keeps (further_code procedures ss)
    further_keep NoSubscripts h = refl
    further_keep (Subscript stride e more) h =
        let sum = op.Binary binary.Add widths.Word ∷ further_code procedures more in
        keeps_then (expression_code procedures e) (scaled stride ++ sum) (expression_keeps e) (suc h) h (keeps_then (scaled stride) sum (scaled_keeps stride) (suc h) h (ap (λ i. behind i (further_code procedures more)) (popped_one h) ∙ further_keep more h))

    pub target_keeps : (t : Target) → Keeps (target_code procedures t)
    target_keeps (ToPlain w x) h = refl
    target_keeps (ToVariable w (Refer m l anchor offset ss)) h =
        by_offset_keeps (leads_to (Some offset) ss) (λ to. writing w anchor to NoSubscripts []) (writing w anchor offset ss (subscripts_code procedures ss)) (λ to. writing_keeps w anchor to NoSubscripts [] (λ h. refl))
        (writing_keeps w anchor offset ss (subscripts_code procedures ss) (subscripts_keep ss)) h
    target_keeps (ToPort w e) h = sending_keeps w (operand_of e) (expression_code procedures e) (expression_keeps e) h

  pub dropped_keeps : (e : Expression) → Keeps (dropped_code procedures e)
  dropped_keeps (Constant k) h = refl
  dropped_keeps (Plain w x) h = refl
  dropped_keeps (Variable w r) h = expression_keeps (Variable w r) h
  dropped_keeps (Location r) h = expression_keeps (Location r) h
  dropped_keeps (Unary o w e) h = expression_keeps (Unary o w e) h
  dropped_keeps (Binary m l o w a b) h = expression_keeps (Binary m l o w a b) h
  dropped_keeps (Embedded t e) h = expression_keeps (Embedded t e) h
  dropped_keeps (Input w e) h = expression_keeps (Input w e) h
  dropped_keeps (Call p es) h = call_keeps es p (first_keeps es) (second_keep es) (pushed_up es) h
  dropped_keeps (Value v) h = refl
  dropped_keeps (Passing p xs vs) h = refl
  dropped_keeps (Running ss) h = refl

  pub targets_keep : (ts : Targets) → Keeps (targets_code procedures ts)
  targets_keep (Only t) h = target_keeps t h
  targets_keep (Also t ts) h = keeps_both (target_code procedures t) (targets_code procedures ts) (target_keeps t) (targets_keep ts) h

  -- ---- where the low byte is wanted

  pub low_keeps : (e : Expression) → Keeps (low_code procedures e)
  low_keeps (Constant k) h = refl
  low_keeps (Plain widths.Byte x) h = refl
  low_keeps (Plain widths.Word x) h = refl
  low_keeps (Variable widths.Byte (Refer m l anchor offset ss)) h =
      by_offset_keeps (leads_to (Some offset) ss) (λ to. low_reading anchor to NoSubscripts) (subscripts_code procedures ss ++ low_reading anchor offset ss) (λ to. low_reading_keeps anchor to NoSubscripts)
      (keeps_both (subscripts_code procedures ss) (low_reading anchor offset ss) (subscripts_keep ss) (low_reading_keeps anchor offset ss)) h
  low_keeps (Variable widths.Word r) h = expression_keeps (Variable widths.Word r) h
  low_keeps (Location r) h = expression_keeps (Location r) h
  low_keeps (Unary o w e) h =
      low_known_keeps (folded (Unary o w e)) (operand_code o (low_code procedures e) (expression_code procedures e) ++ low_changing o ∷ []) (changed_keeps o (low_code procedures e) (expression_code procedures e) (low_keeps e) (expression_keeps e)) h
  low_keeps (Binary m l o w a b) h =
      low_known_keeps (folded (Binary m l o w a b)) (by_operator (direct_of o) (λ d. low_code procedures a ++ (beside (operand_of b) (low_code procedures b) ++ low_operation d o (operand_of b) ∷ [])) (expression_code procedures (Binary m l o w a b)))
      (low_binary_keeps (direct_of o) o (operand_of b) (low_code procedures a) (low_code procedures b) (expression_code procedures (Binary m l o w a b)) (low_keeps a) (low_keeps b) (expression_keeps (Binary m l o w a b))) h
  low_keeps (Embedded t e) h =
      either_keeps (takes_byte t) (low_code procedures e ++ target_code procedures t) (expression_code procedures (Embedded t e)) (keeps_both (low_code procedures e) (target_code procedures t) (low_keeps e) (target_keeps t)) (expression_keeps (Embedded t e)) h
  low_keeps (Input widths.Byte e) h = low_receiving_keeps (operand_of e) (expression_code procedures e) (expression_keeps e) h
  low_keeps (Input widths.Word e) h = expression_keeps (Input widths.Word e) h
  low_keeps (Call p es) h = expression_keeps (Call p es) h
  low_keeps (Value v) h = refl
  low_keeps (Passing p xs vs) h = refl
  low_keeps (Running ss) h = refl

  pub returned_keeps : (w : Width) (e : Expression) → Keeps (returned_code procedures w e)
  returned_keeps widths.Byte e h = low_keeps e h
  returned_keeps widths.Word e h = expression_keeps e h

  pub given_keeps : (ts : Targets) (e : Expression) → Keeps (given_code procedures ts e)
  given_keeps ts e h = either_keeps (take_bytes ts) (low_code procedures e) (expression_code procedures e) (low_keeps e) (expression_keeps e) h

  pub assigned_keeps : (ts : Targets) (e : Expression) → Keeps (assigned_code procedures ts e)
  assigned_keeps ts e =
      assigned procedures (λ ts code. Keeps code) ts e
      (λ k is w m l anchor fixed offset stride f more. keeps_both (subscripts_code procedures (Subscript stride f more)) (op.StoreConstantAt w (anchor_place anchor offset) k ∷ []) (subscripts_keep (Subscript stride f more)) (λ h. refl))
      (keeps_both (given_code procedures ts e) (targets_code procedures ts) (given_keeps ts e) (targets_keep ts))

-- The code of an expression is as it has to be, wherever it stands.
use Rattle.std.proofs.Common.{◌≡◌, ℕ, zero, suc, ◌+◌, ◌-◌, ◌%◌, ◌<◌, Bool, true, false, List, [], ◌∷◌, ◌++◌, Option, Some, None, refl, subst, ◌∙◌, arith, slice_get}
use Rattle.std.specs.Prelude.{cond, nat_eq}
use Rattle.word86.specs.declared.width.Width.{Width}
use Rattle.word86.specs.declared.width.Width.TheVariants as widths
use Rattle.word86.specs.declared.operation.UnaryOperation.{UnaryOperation}
use Rattle.word86.specs.declared.operation.UnaryOperation.TheVariants as unary
use Rattle.word86.specs.declared.operation.BinaryOperation.{BinaryOperation}
use Rattle.word86.specs.declared.operation.BinaryOperation.TheVariants as binary
use Rattle.word86.specs.Access.{Where}
use Rattle.plm_type.specs.Rest.{Anchor, InObject, OnScreen, Behind, There, Scalar, Expression, Constant, Plain, Variable, Location, Unary, Binary, Embedded, Input, Call, Value, Passing, Running, Expressions, NoMore, More, Refer, Subscripts, NoSubscripts, Subscript, Target, ToPlain, ToVariable, ToPort, Targets, Only, Also, Procedure}
use Rattle.plm_type.specs.Next.{parameters_of}
use Rattle.icode.specs.declared.instruction.Instruction.{Instruction}
use Rattle.icode.specs.declared.instruction.Instruction.TheVariants as op
use Rattle.icode.specs.declared.instruction.LowByte.TheVariants as lows
use Rattle.icode.specs.declared.instruction.High.TheVariants as highs
use Rattle.icode.specs.declared.instruction.Right.TheVariants as rights
use Rattle.icode.specs.declared.instruction.Direct.{Direct}
use Rattle.icode.specs.declared.instruction.Direct.TheVariants as directs
use Rattle.icode.specs.declared.instruction.Relation.{Relation}
use Rattle.icode.specs.declared.instruction.Test.{Test}
use Rattle.icode.specs.Heights.{popped, behind}
use Rattle.icode.specs.Made.{asked_constant}
use Rattle.lower.specs.Expressions.{leads_to, by_offset, folded, unless_known, number_of, Operand, Number, Name, Computed, operand_of, anchor_place, beside, operation, scaled, moved, based, reading, locating, writing, receiving, sending, passing, alone, count_of, relation_of, stands_to, gives, used, expression_code, first_code, pushed_code, subscripts_code, further_code, target_code, calling, dropped_code, targets_code, stored_in, argument_code, second_passed, pair, second_code, place_of}
use Rattle.lower.specs.LowBytes.{low_top, low_constant, low_operation, low_reading, low_receiving, low_code, is_one_step, direct_of, by_operator, takes_byte, take_bytes, given_code, unless_low_known, operand_code, low_changing, returned_code}
use Rattle.lower.specs.Statements.{index_read}
use Rattle.lower.specs.Conditions.{low_stands_to, related, are_bytes, named, or_test, unless_named, compared_by, asked, test_of, compared, asking, comparison_code, condition_code}
use Rattle.lower.specs.Well.{IsExpression, AreExpressions, AreSubscripts, IsTarget, AreTargets}
use Rattle.lower.specs.Inner.Assignments.{assigned_code}
use Rattle.lower.proofs.Folds.{folded_small}
use Rattle.lower.proofs.Heights.{Keeps, keeps_then, scaled_keeps, based_keeps, argument_keeps, alone_keeps, pair_keeps, passing_keeps, call_keeps, first_keeps, second_keep, expression_keeps, subscripts_keep, target_keeps, pushed_up, low_keeps, given_keeps}
use Rattle.lower.proofs.Fits.{IsWord, Calm, calm_then, index_calm, index_up}
use Rattle.lower.proofs.InPlace.{by_named}
use Rattle.lower.proofs.Stores.{assigned}

module _ (MayCall : ℕ → Type 0) (Enables Finishes : Type 0) (Spot : ℕ → Type 0) where
  abbrev C : ℕ → List Instruction → Type 0
  C = Calm MayCall Enables Finishes Spot

  both : (h : ℕ) (xs ys : List Instruction) → C h xs → Keeps xs → C h ys → C h (xs ++ ys)
  both h xs ys f k g = calm_then MayCall Enables Finishes Spot h h xs ys f (k h) g

  pushes : (h : ℕ) (xs : List Instruction) → C (suc h) xs → C h (op.Push ∷ xs)
  pushes h xs f p = (tt, f (suc p))

  chosen_calm : (b : Bool) (o : BinaryOperation) (k h : ℕ) → k < 65536 → C h (cond b [] (op.BinaryConstant o widths.Word k ∷ []))
  chosen_calm true o k h lt p = tt
  chosen_calm false o k h lt p = (lt, tt)

  scaled_calm : (stride h : ℕ) → C h (scaled stride)
  scaled_calm stride h = chosen_calm (nat_eq stride 1) binary.Multiply (stride % 65536) h (omega arith)

  moved_calm : (offset h : ℕ) → C h (moved offset)
  moved_calm offset h = chosen_calm (nat_eq offset 0) binary.Add (offset % 65536) h (omega arith)

  based_calm : (base : Where) (offset : ℕ) (ss : Subscripts) (h : ℕ) → C h (based base offset ss)
  based_calm base offset NoSubscripts h = λ p. (tt, moved_calm offset h (suc p))
  based_calm base offset (Subscript stride e more) h = λ p. (tt, moved_calm offset h (suc p))

  reading_calm : (w : Width) (anchor : Anchor) (offset : ℕ) (ss : Subscripts) (h : ℕ) → C h (reading w anchor offset ss)
  reading_calm w (Behind base) offset ss h = λ p. both h (based base offset ss) (op.LoadThere w ∷ []) (based_calm base offset ss h) (based_keeps base offset ss) (λ p. (tt, tt)) p
  reading_calm w (InObject k start size) offset NoSubscripts h = λ p. (tt, tt)
  reading_calm w (InObject k start size) offset (Subscript stride e more) h = λ p. (tt, tt)
  reading_calm w (OnScreen page start size) offset NoSubscripts h = λ p. (tt, tt)
  reading_calm w (OnScreen page start size) offset (Subscript stride e more) h = λ p. (tt, tt)
  reading_calm w (There address) offset NoSubscripts h = λ p. (tt, tt)
  reading_calm w (There address) offset (Subscript stride e more) h = λ p. (tt, tt)

  locating_calm : (anchor : Anchor) (offset : ℕ) (ss : Subscripts) (h : ℕ) → C h (locating anchor offset ss)
  locating_calm (Behind base) offset ss h = λ p. based_calm base offset ss h p
  locating_calm (InObject k start size) offset NoSubscripts h = λ p. (tt, tt)
  locating_calm (InObject k start size) offset (Subscript stride e more) h = λ p. (tt, tt)
  locating_calm (OnScreen page start size) offset NoSubscripts h = λ p. (tt, tt)
  locating_calm (OnScreen page start size) offset (Subscript stride e more) h = λ p. (tt, tt)
  locating_calm (There address) offset NoSubscripts h = λ p. (tt, tt)
  locating_calm (There address) offset (Subscript stride e more) h = λ p. (tt, tt)

  writing_calm : (w : Width) (anchor : Anchor) (offset : ℕ) (ss : Subscripts) (code : List Instruction) → Keeps code → ((h : ℕ) → C h code) → (h : ℕ) → C h (writing w anchor offset ss code)
  writing_calm w (Behind base) offset ss code k f h =
      let last = based base offset ss ++ op.StoreThere w ∷ [] in
      pushes h (code ++ last) (both (suc h) code last (f (suc h)) k (both (suc h) (based base offset ss) (op.StoreThere w ∷ []) (based_calm base offset ss (suc h)) (based_keeps base offset ss) (λ p. (tt, tt))))
  writing_calm w (InObject k start size) offset NoSubscripts code a f h = λ p. (tt, tt)
  writing_calm w (InObject k start size) offset (Subscript stride e more) code a f h =
      let last = op.StoreAt w (anchor_place (InObject k start size) offset) ∷ [] in
      pushes h (code ++ last) (both (suc h) code last (f (suc h)) a (λ p. (tt, tt)))
  writing_calm w (OnScreen page start size) offset NoSubscripts code a f h = λ p. (tt, tt)
  writing_calm w (OnScreen page start size) offset (Subscript stride e more) code a f h =
      let last = op.StoreAt w (anchor_place (OnScreen page start size) offset) ∷ [] in
      pushes h (code ++ last) (both (suc h) code last (f (suc h)) a (λ p. (tt, tt)))
  writing_calm w (There address) offset NoSubscripts code a f h = λ p. (tt, tt)
  writing_calm w (There address) offset (Subscript stride e more) code a f h =
      let last = op.StoreAt w (anchor_place (There address) offset) ∷ [] in
      pushes h (code ++ last) (both (suc h) code last (f (suc h)) a (λ p. (tt, tt)))

  receiving_calm : (w : Width) (o : Operand) (code : List Instruction) → Keeps code → ((h : ℕ) → C h code) → (h : ℕ) → C h (receiving w o code)
  receiving_calm w (Number port) code k f h = λ p. (tt, tt)
  receiving_calm w (Name read x) code k f h = both h code (op.Receive w ∷ []) (f h) k (λ p. (tt, tt))
  receiving_calm w Computed code k f h = both h code (op.Receive w ∷ []) (f h) k (λ p. (tt, tt))

  sending_calm : (w : Width) (o : Operand) (code : List Instruction) → Keeps code → ((h : ℕ) → C h code) → (h : ℕ) → C h (sending w o code)
  sending_calm w (Number port) code k f h = λ p. (tt, tt)
  sending_calm w (Name read x) code k f h = pushes h (code ++ op.Send w ∷ []) (both (suc h) code (op.Send w ∷ []) (f (suc h)) k (λ p. (tt, tt)))
  sending_calm w Computed code k f h = pushes h (code ++ op.Send w ∷ []) (both (suc h) code (op.Send w ∷ []) (f (suc h)) k (λ p. (tt, tt)))

  pub beside_calm : (right : Operand) (code : List Instruction) → ((h : ℕ) → C h code) → (h : ℕ) → C h (beside right code)
  beside_calm (Number k) code f h = λ p. tt
  beside_calm (Name read x) code f h = λ p. tt
  beside_calm Computed code f h = pushes h code (f (suc h))

  operated_calm : (o : BinaryOperation) (w : Width) (right : Operand) (code : List Instruction) → IsWord right → Keeps code → ((h : ℕ) → C h code) → (h : ℕ) → C h (beside right code ++ operation o w right ∷ [])
  operated_calm o w (Number n) code lt k f h = λ p. (lt, tt)
  operated_calm o w (Name read x) code lt k f h = λ p. (tt, tt)
  operated_calm o w Computed code lt k f h = pushes h (code ++ op.Binary o w ∷ []) (both (suc h) code (op.Binary o w ∷ []) (f (suc h)) k (λ p. (tt, tt)))

  low_constant_calm : (d : Direct) (o : BinaryOperation) (k h : ℕ) → k < 65536 → C h (low_constant d o k ∷ [])
  low_constant_calm d o k h lt = by (is_one_step d k)
    where
      by : (b : Bool) → C h (cond b (op.BinaryConstant o widths.Word k) (op.Low (lows.Operate d (rights.Constant k)) highs.Kept) ∷ [])
      by true = λ p. (lt, tt)
      by false = λ p. (tt, tt)

  low_top_calm : (d : Direct) (o : BinaryOperation) (h : ℕ) → C h (low_top d o ∷ [])
  low_top_calm directs.Add o h = λ p. (tt, tt)
  low_top_calm directs.Subtract o h = λ p. (tt, tt)
  low_top_calm directs.And o h = λ p. (tt, tt)
  low_top_calm directs.Or o h = λ p. (tt, tt)
  low_top_calm directs.ExclusiveOr o h = λ p. (tt, tt)

  low_operated_calm : (d : Direct) (o : BinaryOperation) (right : Operand) (code : List Instruction) → IsWord right → Keeps code → ((h : ℕ) → C h code) → (h : ℕ) → C h (beside right code ++ low_operation d o right ∷ [])
  low_operated_calm d o (Number n) code lt k f h = low_constant_calm d o n h lt
  low_operated_calm d o (Name widths.Byte x) code lt k f h = λ p. (tt, tt)
  low_operated_calm d o (Name widths.Word x) code lt k f h = λ p. (tt, tt)
  low_operated_calm d o Computed code lt k f h =
      let last = low_top d o in
      pushes h (code ++ last ∷ []) (both (suc h) code (last ∷ []) (f (suc h)) k (low_top_calm d o (suc h)))

  low_binary_calm : (q : Option Direct) (o : BinaryOperation) (right : Operand) (left code whole : List Instruction) → IsWord right → Keeps left → Keeps code → ((h : ℕ) → C h left) → ((h : ℕ) → C h code) → ((h : ℕ) → C h whole)
      → (h : ℕ) → C h (by_operator q (λ d. left ++ (beside right code ++ low_operation d o right ∷ [])) whole)
  low_binary_calm (Some d) o right left code whole lt k j f g w h = both h left (beside right code ++ low_operation d o right ∷ []) (f h) k (low_operated_calm d o right code lt j g h)
  low_binary_calm None o right left code whole lt k j f g w h = w h

  low_reading_calm : (anchor : Anchor) (offset : ℕ) (ss : Subscripts) (h : ℕ) → C h (low_reading anchor offset ss)
  low_reading_calm (Behind base) offset ss h = λ p. both h (based base offset ss) (op.Low lows.LoadThere highs.Kept ∷ []) (based_calm base offset ss h) (based_keeps base offset ss) (λ p. (tt, tt)) p
  low_reading_calm (InObject k start size) offset NoSubscripts h = λ p. (tt, tt)
  low_reading_calm (InObject k start size) offset (Subscript stride e more) h = λ p. (tt, tt)
  low_reading_calm (OnScreen page start size) offset NoSubscripts h = λ p. (tt, tt)
  low_reading_calm (OnScreen page start size) offset (Subscript stride e more) h = λ p. (tt, tt)
  low_reading_calm (There address) offset NoSubscripts h = λ p. (tt, tt)
  low_reading_calm (There address) offset (Subscript stride e more) h = λ p. (tt, tt)

  low_receiving_calm : (o : Operand) (code : List Instruction) → Keeps code → ((h : ℕ) → C h code) → (h : ℕ) → C h (low_receiving o code)
  low_receiving_calm (Number port) code k f h = λ p. (tt, tt)
  low_receiving_calm (Name read x) code k f h = both h code (op.Low lows.Receive highs.Kept ∷ []) (f h) k (λ p. (tt, tt))
  low_receiving_calm Computed code k f h = both h code (op.Low lows.Receive highs.Kept ∷ []) (f h) k (λ p. (tt, tt))

  either_calm : (b : Bool) (one other : List Instruction) (h : ℕ) → C h one → C h other → C h (cond b one other)
  either_calm true one other h f g = f
  either_calm false one other h f g = g

  passing_calm : (xs : List Scalar) (h : ℕ) → C h (passing xs)
  passing_calm [] h = λ p. tt
  passing_calm (x ∷ xs) h = λ p. (tt, (tt, passing_calm xs h (suc (suc p))))

  argument_calm : (w : Width) (o : Operand) (code : List Instruction) (h : ℕ) → C h code → C h (argument_code w o code)
  argument_calm widths.Byte (Number k) code h f = λ p. (tt, tt)
  argument_calm widths.Byte (Name widths.Byte y) code h f = λ p. (tt, tt)
  argument_calm widths.Byte (Name widths.Word y) code h f = f
  argument_calm widths.Byte Computed code h f = f
  argument_calm widths.Word o code h f = f

  alone_calm : (xs : List Scalar) (o : Operand) (code : List Instruction) (h : ℕ) → Keeps code → C h code → C h (alone xs o code)
  alone_calm [] o code h k f = f
  alone_calm (x ∷ xs) o code h k f = both h (argument_code x.width o code) (stored_in x ∷ []) (argument_calm x.width o code h f) (argument_keeps x.width o code k) (λ p. (tt, tt))

  second_calm : (x y : Scalar) (o : Operand) (code : List Instruction) (h : ℕ) → Keeps code → ((h : ℕ) → C h code) → C h (second_passed x y o code)
  second_calm x y (Number k) code h g f =
      λ p. (tt, both h (argument_code y.width (Number k) code) (stored_in y ∷ []) (argument_calm y.width (Number k) code h (f h)) (argument_keeps y.width (Number k) code g) (λ p. (tt, tt)) (suc p))
  second_calm x y (Name w z) code h g f =
      let last = op.StoreTop x.width (place_of x.place) ∷ stored_in y ∷ [] in
      pushes h (argument_code y.width (Name w z) code ++ last) (both (suc h) (argument_code y.width (Name w z) code) last (argument_calm y.width (Name w z) code (suc h) (f (suc h))) (argument_keeps y.width (Name w z) code g) (λ p. (tt, (tt, tt))))
  second_calm x y Computed code h g f =
      let last = op.StoreTop x.width (place_of x.place) ∷ stored_in y ∷ [] in
      pushes h (code ++ last) (both (suc h) code last (f (suc h)) g (λ p. (tt, (tt, tt))))

  pair_calm : (xs : List Scalar) (o q : Operand) (first second : List Instruction) (h : ℕ) → Keeps first → Keeps second → ((h : ℕ) → C h first) → ((h : ℕ) → C h second) → C h (pair xs o q first second)
  pair_calm [] o q first second h j k f g = λ p. tt
  pair_calm (x ∷ []) o q first second h j k f g = λ p. tt
  pair_calm (x ∷ y ∷ xs) o q first second h j k f g = both h (argument_code x.width o first) (second_passed x y q second) (argument_calm x.width o first h (f h)) (argument_keeps x.width o first j) (second_calm x y q second h k g)

  known_calm : (z : Option ℕ) → ((k : ℕ) → z ≡ Some k → k < 65536) → (code : List Instruction) (h : ℕ) → C h code → C h (unless_known z code)
  known_calm (Some k) lt code h f = λ p. (lt k refl, tt)
  known_calm None lt code h f = f

  changed_calm : (o : UnaryOperation) (low whole : List Instruction) (h : ℕ) → C h low → Keeps low → C h whole → Keeps whole → C h (operand_code o low whole ++ low_changing o ∷ [])
  changed_calm unary.Plus low whole h f k g j = both h low (low_changing unary.Plus ∷ []) f k (λ p. (tt, tt))
  changed_calm unary.Minus low whole h f k g j = both h whole (low_changing unary.Minus ∷ []) g j (λ p. (tt, tt))
  changed_calm unary.Not low whole h f k g j = both h low (low_changing unary.Not ∷ []) f k (λ p. (tt, tt))
  changed_calm unary.Low low whole h f k g j = both h low (low_changing unary.Low ∷ []) f k (λ p. (tt, tt))
  changed_calm unary.High low whole h f k g j = both h whole (low_changing unary.High ∷ []) g j (λ p. (tt, tt))
  changed_calm unary.Double low whole h f k g j = both h low (low_changing unary.Double ∷ []) f k (λ p. (tt, tt))

  by_offset_calm : (z : Option ℕ) (known : ℕ → List Instruction) (code : List Instruction) (h : ℕ) → ((to : ℕ) → C h (known to)) → C h code → C h (by_offset z known code)
  by_offset_calm (Some to) known code h f g = f to
  by_offset_calm None known code h f g = g

  low_known_calm : (z : Option ℕ) (code : List Instruction) (h : ℕ) → C h code → C h (unless_low_known z code)
  low_known_calm (Some k) code h f = λ p. (tt, tt)
  low_known_calm None code h f = f

  used_calm : (g : Bool) (h : ℕ) → C h (used g)
  used_calm true h = λ p. tt
  used_calm false h = λ p. (omega arith, tt)

  module _ (sizes : List ℕ) (procedures : List Procedure) where
    number_word : (z : Option ℕ) → ((k : ℕ) → z ≡ Some k → k < 65536) → IsWord (number_of z)
    number_word (Some k) lt = lt k refl
    number_word None lt = tt

    pub operand_word : (e : Expression) → IsExpression sizes procedures MayCall e → IsWord (operand_of e)
    operand_word (Constant k) good = good
    operand_word (Plain w x) good = tt
    operand_word (Variable w r) good = tt
    operand_word (Location r) good = tt
    operand_word (Unary o w e) good = number_word (folded (Unary o w e)) (folded_small sizes procedures MayCall (Unary o w e) good)
    operand_word (Binary m l o w a b) good = number_word (folded (Binary m l o w a b)) (folded_small sizes procedures MayCall (Binary m l o w a b) good)
    operand_word (Embedded t e) good = tt
    operand_word (Input w e) good = tt
    operand_word (Call p es) good = tt
    operand_word (Value v) good = tt
    operand_word (Passing p xs vs) good = tt
    operand_word (Running ss) good = tt

    pub call_calm : (es : Expressions) (p : ℕ) → IsExpression sizes procedures MayCall (Call p es) → ((h : ℕ) → C h (first_code procedures es)) → ((h : ℕ) → C h (second_code procedures es)) → ((h : ℕ) → C h (pushed_code procedures es)) → (h : ℕ) → C h (calling procedures p es)
    call_calm NoMore p good first second pushed h = λ i. (good.0.4, tt)
    call_calm (More e NoMore) p good first second pushed h =
        let xs = parameters_of (slice_get procedures p) in
        let ce = expression_code procedures e in
        both h (alone xs (operand_of e) ce) (op.Invoke p ∷ []) (alone_calm xs (operand_of e) ce h (expression_keeps procedures e) (first h)) (alone_keeps xs (operand_of e) ce (expression_keeps procedures e)) (λ i. (good.0.4, tt))
    call_calm (More e (More f NoMore)) p good first second pushed h =
        let xs = parameters_of (slice_get procedures p) in
        let ce = expression_code procedures e in
        let cf = expression_code procedures f in
        both h (pair xs (operand_of e) (operand_of f) ce cf) (op.Invoke p ∷ []) (pair_calm xs (operand_of e) (operand_of f) ce cf h (expression_keeps procedures e) (expression_keeps procedures f) first second)
        (pair_keeps xs (operand_of e) (operand_of f) ce cf (expression_keeps procedures e) (expression_keeps procedures f)) (λ i. (good.0.4, tt))
    call_calm (More e (More f (More g es))) p good first second pushed h =
        let xs = parameters_of (slice_get procedures p) in
        let all = More e (More f (More g es)) in
        let dropped = op.Drop (3 + count_of es) ∷ op.Invoke p ∷ [] in
        let top = count_of all + h in
        calm_then MayCall Enables Finishes Spot h top (pushed_code procedures all) (passing xs ++ dropped) (pushed h) (pushed_up procedures all h)
        (both top (passing xs) dropped (passing_calm xs top) (passing_keeps xs) (λ i. (omega arith, (good.0.4, tt))))

    mutual
      pub expression_calm : (e : Expression) → IsExpression sizes procedures MayCall e → (h : ℕ) → C h (expression_code procedures e)
      expression_calm (Constant k) good h = λ p. (good, tt)
      expression_calm (Plain w x) good h = λ p. (tt, tt)
      expression_calm (Variable w (Refer m l anchor offset ss)) good h =
          by_offset_calm (leads_to (Some offset) ss) (λ to. reading w anchor to NoSubscripts) (subscripts_code procedures ss ++ reading w anchor offset ss) h (λ to. reading_calm w anchor to NoSubscripts h)
          (both h (subscripts_code procedures ss) (reading w anchor offset ss) (subscripts_calm ss 2 good.1 h) (subscripts_keep procedures ss) (reading_calm w anchor offset ss h))
      expression_calm (Location (Refer m l anchor offset ss)) good h =
          by_offset_calm (leads_to (Some offset) ss) (λ to. locating anchor to NoSubscripts) (subscripts_code procedures ss ++ locating anchor offset ss) h (λ to. locating_calm anchor to NoSubscripts h)
          (both h (subscripts_code procedures ss) (locating anchor offset ss) (subscripts_calm ss 2 good.1 h) (subscripts_keep procedures ss) (locating_calm anchor offset ss h))
      expression_calm (Unary o w e) good h =
          known_calm (folded (Unary o w e)) (folded_small sizes procedures MayCall (Unary o w e) good) (expression_code procedures e ++ op.Unary o w ∷ []) h
          (both h (expression_code procedures e) (op.Unary o w ∷ []) (expression_calm e good h) (expression_keeps procedures e) (λ p. (tt, tt)))
      expression_calm (Binary m l o w a b) good h =
          let right = beside (operand_of b) (expression_code procedures b) ++ operation o w (operand_of b) ∷ [] in
          known_calm (folded (Binary m l o w a b)) (folded_small sizes procedures MayCall (Binary m l o w a b) good) (expression_code procedures a ++ right) h
          (both h (expression_code procedures a) right (expression_calm a good.0 h) (expression_keeps procedures a)
          (operated_calm o w (operand_of b) (expression_code procedures b) (operand_word b good.1) (expression_keeps procedures b) (expression_calm b good.1) h))
      expression_calm (Embedded t e) good h = both h (expression_code procedures e) (target_code procedures t) (expression_calm e good.1 h) (expression_keeps procedures e) (target_calm t good.0 h)
      expression_calm (Input w e) good h = receiving_calm w (operand_of e) (expression_code procedures e) (expression_keeps procedures e) (expression_calm e good) h
      expression_calm (Call p es) good h = both h (calling procedures p es) (used (gives (slice_get procedures p))) (call_calm es p good (first_calm es good.1) (second_calms es good.1) (pushed_calm es good.1) h) (call_keeps procedures es p (first_keeps procedures es) (second_keep procedures es) (pushed_up procedures es)) (used_calm (gives (slice_get procedures p)) h)
      expression_calm (Value v) good h = absurd good
      expression_calm (Passing p xs vs) good h = absurd good
      expression_calm (Running ss) good h = absurd good

      second_calms : (es : Expressions) → AreExpressions sizes procedures MayCall es → (h : ℕ) → C h (second_code procedures es)
      second_calms NoMore good h = λ p. tt
      second_calms (More e es) good h = first_calm es good.1 h

      first_calm : (es : Expressions) → AreExpressions sizes procedures MayCall es → (h : ℕ) → C h (first_code procedures es)
      first_calm NoMore good h = λ p. tt
      first_calm (More e es) good h = expression_calm e good.0 h

      pushed_calm : (es : Expressions) → AreExpressions sizes procedures MayCall es → (h : ℕ) → C h (pushed_code procedures es)
      pushed_calm NoMore good h = λ p. tt
      pushed_calm (More e es) good h =
          both h (expression_code procedures e) (op.Push ∷ pushed_code procedures es) (expression_calm e good.0 h) (expression_keeps procedures e) (pushes h (pushed_code procedures es) (pushed_calm es good.1 (suc h)))

      subscripts_calm : (ss : Subscripts) (n : ℕ) → AreSubscripts sizes procedures MayCall n ss → (h : ℕ) → C h (subscripts_code procedures ss)
      subscripts_calm NoSubscripts n good h = λ p. tt
      subscripts_calm (Subscript stride e more) zero good h = absurd good
      subscripts_calm (Subscript stride e more) (suc n) good h =
          let last = further_code procedures more in
          both h (expression_code procedures e) (scaled stride ++ last) (expression_calm e good.0 h) (expression_keeps procedures e) (both h (scaled stride) last (scaled_calm stride h) (scaled_keeps stride) (further_calm more n good.1 h))

      further_calm : (ss : Subscripts) (n : ℕ) → AreSubscripts sizes procedures MayCall n ss → (h : ℕ) → C h (further_code procedures ss)
      further_calm NoSubscripts n good h = λ p. tt
      further_calm (Subscript stride e more) zero good h = absurd good
      further_calm (Subscript stride e more) (suc n) good h =
          let sum = op.Binary binary.Add widths.Word ∷ further_code procedures more in
          pushes h (expression_code procedures e ++ (scaled stride ++ sum))
          (both (suc h) (expression_code procedures e) (scaled stride ++ sum) (expression_calm e good.0 (suc h)) (expression_keeps procedures e)
          (both (suc h) (scaled stride) sum (scaled_calm stride (suc h)) (scaled_keeps stride) (λ p. (tt, further_calm more n good.1 (suc h - 1) (suc p)))))

      pub target_calm : (t : Target) → IsTarget sizes procedures MayCall t → (h : ℕ) → C h (target_code procedures t)
      target_calm (ToPlain w x) good h = λ p. (tt, tt)
      target_calm (ToVariable w (Refer m l anchor offset ss)) good h =
          by_offset_calm (leads_to (Some offset) ss) (λ to. writing w anchor to NoSubscripts []) (writing w anchor offset ss (subscripts_code procedures ss)) h (λ to. writing_calm w anchor to NoSubscripts [] (λ h. refl) (λ h p. tt) h)
          (writing_calm w anchor offset ss (subscripts_code procedures ss) (subscripts_keep procedures ss) (subscripts_calm ss 2 good.1) h)
      target_calm (ToPort w e) good h = sending_calm w (operand_of e) (expression_code procedures e) (expression_keeps procedures e) (expression_calm e good) h

    pub dropped_calm : (e : Expression) → IsExpression sizes procedures MayCall e → (h : ℕ) → C h (dropped_code procedures e)
    dropped_calm (Constant k) good h = expression_calm (Constant k) good h
    dropped_calm (Plain w x) good h = expression_calm (Plain w x) good h
    dropped_calm (Variable w r) good h = expression_calm (Variable w r) good h
    dropped_calm (Location r) good h = expression_calm (Location r) good h
    dropped_calm (Unary o w e) good h = expression_calm (Unary o w e) good h
    dropped_calm (Binary m l o w a b) good h = expression_calm (Binary m l o w a b) good h
    dropped_calm (Embedded t e) good h = expression_calm (Embedded t e) good h
    dropped_calm (Input w e) good h = expression_calm (Input w e) good h
    dropped_calm (Call p es) good h = call_calm es p good (first_calm es good.1) (second_calms es good.1) (pushed_calm es good.1) h
    dropped_calm (Value v) good h = absurd good
    dropped_calm (Passing p xs vs) good h = absurd good
    dropped_calm (Running ss) good h = absurd good

    pub targets_calm : (ts : Targets) → AreTargets sizes procedures MayCall ts → (h : ℕ) → C h (targets_code procedures ts)
    targets_calm (Only t) good h = target_calm t good h
    targets_calm (Also t ts) good h = both h (target_code procedures t) (targets_code procedures ts) (target_calm t good.0 h) (target_keeps procedures t) (targets_calm ts good.1 h)

    -- ---- where the low byte is wanted

    low_calm : (e : Expression) → IsExpression sizes procedures MayCall e → (h : ℕ) → C h (low_code procedures e)
    low_calm (Constant k) good h = λ p. (tt, tt)
    low_calm (Plain widths.Byte x) good h = λ p. (tt, tt)
    low_calm (Plain widths.Word x) good h = λ p. (tt, tt)
    low_calm (Variable widths.Byte (Refer m l anchor offset ss)) good h =
        by_offset_calm (leads_to (Some offset) ss) (λ to. low_reading anchor to NoSubscripts) (subscripts_code procedures ss ++ low_reading anchor offset ss) h (λ to. low_reading_calm anchor to NoSubscripts h)
        (both h (subscripts_code procedures ss) (low_reading anchor offset ss) (subscripts_calm ss 2 good.1 h) (subscripts_keep procedures ss) (low_reading_calm anchor offset ss h))
    low_calm (Variable widths.Word r) good h = expression_calm (Variable widths.Word r) good h
    low_calm (Location r) good h = expression_calm (Location r) good h
    low_calm (Unary o w e) good h =
        low_known_calm (folded (Unary o w e)) (operand_code o (low_code procedures e) (expression_code procedures e) ++ low_changing o ∷ []) h
        (changed_calm o (low_code procedures e) (expression_code procedures e) h (low_calm e good h) (low_keeps procedures e) (expression_calm e good h) (expression_keeps procedures e))
    low_calm (Binary m l o w a b) good h =
        low_known_calm (folded (Binary m l o w a b)) (by_operator (direct_of o) (λ d. low_code procedures a ++ (beside (operand_of b) (low_code procedures b) ++ low_operation d o (operand_of b) ∷ [])) (expression_code procedures (Binary m l o w a b))) h
        (low_binary_calm (direct_of o) o (operand_of b) (low_code procedures a) (low_code procedures b) (expression_code procedures (Binary m l o w a b)) (operand_word b good.1) (low_keeps procedures a) (low_keeps procedures b)
        (low_calm a good.0) (low_calm b good.1) (expression_calm (Binary m l o w a b) good) h)
    low_calm (Embedded t e) good h =
        either_calm (takes_byte t) (low_code procedures e ++ target_code procedures t) (expression_code procedures (Embedded t e)) h
        (both h (low_code procedures e) (target_code procedures t) (low_calm e good.1 h) (low_keeps procedures e) (target_calm t good.0 h)) (expression_calm (Embedded t e) good h)
    low_calm (Input widths.Byte e) good h = low_receiving_calm (operand_of e) (expression_code procedures e) (expression_keeps procedures e) (expression_calm e good) h
    low_calm (Input widths.Word e) good h = expression_calm (Input widths.Word e) good h
    low_calm (Call p es) good h = expression_calm (Call p es) good h
    low_calm (Value v) good h = absurd good
    low_calm (Passing p xs vs) good h = absurd good
    low_calm (Running ss) good h = absurd good

    pub returned_calm : (w : Width) (e : Expression) → IsExpression sizes procedures MayCall e → (h : ℕ) → C h (returned_code procedures w e)
    returned_calm widths.Byte e good h = low_calm e good h
    returned_calm widths.Word e good h = expression_calm e good h

    pub given_calm : (ts : Targets) (e : Expression) → IsExpression sizes procedures MayCall e → (h : ℕ) → C h (given_code procedures ts e)
    given_calm ts e good h = either_calm (take_bytes ts) (low_code procedures e) (expression_code procedures e) h (low_calm e good h) (expression_calm e good h)

    pub assigned_calm : (ts : Targets) (e : Expression) → AreTargets sizes procedures MayCall ts → IsExpression sizes procedures MayCall e → (h : ℕ) → C h (assigned_code procedures ts e)
    assigned_calm ts e gt ge h =
        assigned procedures (λ ts code. AreTargets sizes procedures MayCall ts → C h code) ts e
        (λ k is w m l anchor fixed offset stride f more good.
        let ss = Subscript stride f more in
        both h (subscripts_code procedures ss) (op.StoreConstantAt w (anchor_place anchor offset) k ∷ []) (subscripts_calm ss 2 good.1 h) (subscripts_keep procedures ss) (λ p. (folded_small sizes procedures MayCall e ge k is, tt)))
        (λ good. both h (given_code procedures ts e) (targets_code procedures ts) (given_calm ts e ge h) (given_keeps procedures ts e) (targets_calm ts good h)) gt

    -- ---- conditions

    unless_calm : (z : Option Test) (code : List Instruction) → C 0 code → C 0 (unless_named z code)
    unless_calm (Some t) code f = λ p. tt
    unless_calm None code f = f

    asking_calm : (r : Option Relation) (comparison : Relation → List Instruction) (value : List Instruction) → ((o : Relation) → C 0 (comparison o)) → C 0 value → C 0 (asking r comparison value)
    asking_calm (Some o) comparison value f g = f o
    asking_calm None comparison value f g = g

    compared_calm : (bytes : Bool) (low whole : List Instruction) → C 0 low → C 0 whole → C 0 (compared bytes low whole)
    compared_calm true low whole f g = f
    compared_calm false low whole f g = g

    pub condition_calm : (e : Expression) → IsExpression sizes procedures MayCall e → C 0 (condition_code procedures e)
    condition_calm (Binary m l o w a b) good =
        let low = low_code procedures a ++ beside (operand_of b) (low_code procedures b) in
        let whole = expression_code procedures a ++ beside (operand_of b) (expression_code procedures b) in
        asking_calm (relation_of o) (λ q. unless_named (named (are_bytes a b) q (operand_of a) (operand_of b)) (comparison_code procedures a b)) (low_code procedures (Binary m l o w a b))
        (λ q. unless_calm (named (are_bytes a b) q (operand_of a) (operand_of b)) (comparison_code procedures a b)
        (compared_calm (are_bytes a b) low whole
        (both 0 (low_code procedures a) (beside (operand_of b) (low_code procedures b)) (low_calm a good.0 0) (low_keeps procedures a) (beside_calm (operand_of b) (low_code procedures b) (low_calm b good.1) 0))
        (both 0 (expression_code procedures a) (beside (operand_of b) (expression_code procedures b)) (expression_calm a good.0 0) (expression_keeps procedures a) (beside_calm (operand_of b) (expression_code procedures b) (expression_calm b good.1) 0))))
        (low_calm (Binary m l o w a b) good 0)
    condition_calm (Constant k) good = low_calm (Constant k) good 0
    condition_calm (Plain widths.Byte x) good = λ p. tt
    condition_calm (Plain widths.Word x) good = low_calm (Plain widths.Word x) good 0
    condition_calm (Variable w r) good = low_calm (Variable w r) good 0
    condition_calm (Location r) good = low_calm (Location r) good 0
    condition_calm (Unary o w e) good = low_calm (Unary o w e) good 0
    condition_calm (Embedded t e) good = low_calm (Embedded t e) good 0
    condition_calm (Input w e) good = low_calm (Input w e) good 0
    condition_calm (Call p es) good = low_calm (Call p es) good 0
    condition_calm (Value v) good = absurd good
    condition_calm (Passing p xs vs) good = absurd good
    condition_calm (Running ss) good = absurd good

    stands_word : (o : Relation) (right : Operand) → IsWord right → asked_constant (stands_to o right) < 65536
    stands_word o (Number k) lt = lt
    stands_word o (Name read x) lt = omega arith
    stands_word o Computed lt = omega arith

    related_word : (bytes : Bool) (o : Relation) (right : Operand) → IsWord right → asked_constant (related bytes o right) < 65536
    related_word false o right lt = stands_word o right lt
    related_word true o (Number k) lt = omega arith
    related_word true o (Name read x) lt = omega arith
    related_word true o Computed lt = omega arith

    compared_word : (bytes : Bool) (o : Relation) (left right : Operand) → IsWord right → asked_constant (compared_by bytes o left right) < 65536
    compared_word bytes o left right lt = by_named (λ z. asked_constant (or_test z (related bytes o right)) < 65536) bytes o left right (related_word bytes o right lt) (λ w y k is number suits. subst IsWord number lt)

    asked_word : (r : Option Relation) (bytes : Bool) (left right : Operand) → IsWord right → asked_constant (asked r bytes left right) < 65536
    asked_word (Some o) bytes left right lt = compared_word bytes o left right lt
    asked_word None bytes left right lt = omega arith

    pub bound_word : (bytes : Bool) (o : Relation) (index : Operand) (e : Expression) → IsExpression sizes procedures MayCall e → asked_constant (compared_by bytes o index (operand_of e)) < 65536
    bound_word bytes o index e good = compared_word bytes o index (operand_of e) (operand_word e good)

    beside_bound_calm : (bytes : Bool) (e : Expression) → IsExpression sizes procedures MayCall e → C 0 (compared bytes (beside (operand_of e) (low_code procedures e)) (beside (operand_of e) (expression_code procedures e)))
    beside_bound_calm true e good = beside_calm (operand_of e) (low_code procedures e) (low_calm e good) 0
    beside_bound_calm false e good = beside_calm (operand_of e) (expression_code procedures e) (expression_calm e good) 0

    -- what is computed before the test of a bound
    pub bound_calm : (z : Option Test) (bytes : Bool) (x : Scalar) (e : Expression) → IsExpression sizes procedures MayCall e
        → C 0 (unless_named z (index_read bytes x ∷ compared bytes (beside (operand_of e) (low_code procedures e)) (beside (operand_of e) (expression_code procedures e))))
    bound_calm z bytes x e good =
        let comparison = compared bytes (beside (operand_of e) (low_code procedures e)) (beside (operand_of e) (expression_code procedures e)) in
        unless_calm z (index_read bytes x ∷ comparison) (index_calm MayCall Enables Finishes Spot bytes x comparison (beside_bound_calm bytes e good))

    pub test_word : (e : Expression) → IsExpression sizes procedures MayCall e → asked_constant (test_of e) < 65536
    test_word (Binary m l o w a b) good = asked_word (relation_of o) (are_bytes a b) (operand_of a) (operand_of b) (operand_word b good.1)
    test_word (Constant k) good = omega arith
    test_word (Plain widths.Byte x) good = omega arith
    test_word (Plain widths.Word x) good = omega arith
    test_word (Variable w r) good = omega arith
    test_word (Location r) good = omega arith
    test_word (Unary o w e) good = omega arith
    test_word (Embedded t e) good = omega arith
    test_word (Input w e) good = omega arith
    test_word (Call p es) good = omega arith
    test_word (Value v) good = omega arith
    test_word (Passing p xs vs) good = omega arith
    test_word (Running ss) good = omega arith

-- a test takes what is pushed before it
pub beside_up : (o : Relation) (right : Operand) (code : List Instruction) → Keeps code → behind 0 (beside right code) ≡ popped (stands_to o right)
beside_up o (Number k) code f = refl
beside_up o (Name read x) code f = refl
beside_up o Computed code f = f 1

low_beside_up : (o : Relation) (right : Operand) (code : List Instruction) → Keeps code → behind 0 (beside right code) ≡ popped (low_stands_to o right)
low_beside_up o (Number k) code f = refl
low_beside_up o (Name read x) code f = refl
low_beside_up o Computed code f = f 1

compared_up : (bytes : Bool) (o : Relation) (right : Operand) (low whole : List Instruction) → Keeps low → Keeps whole → behind 0 (compared bytes (beside right low) (beside right whole)) ≡ popped (related bytes o right)
compared_up true o right low whole f g = low_beside_up o right low f
compared_up false o right low whole f g = beside_up o right whole g

-- with the index before it, where the test does not read it
pub bound_up : (bytes : Bool) (o : Relation) (x : Scalar) (index right : Operand) (low whole : List Instruction) → Keeps low → Keeps whole
    → behind 0 (unless_named (named bytes o index right) (index_read bytes x ∷ compared bytes (beside right low) (beside right whole))) ≡ popped (compared_by bytes o index right)
bound_up bytes o x index right low whole f g =
    let comparison = compared bytes (beside right low) (beside right whole) in
    by_named (λ z. behind 0 (unless_named z (index_read bytes x ∷ comparison)) ≡ popped (or_test z (related bytes o right))) bytes o index right
    (index_up bytes x comparison 0 ∙ compared_up bytes o right low whole f g) (λ w y k is number suits. refl)

related_up : (bytes : Bool) (o : Relation) (right : Operand) (left code whole_left whole : List Instruction) → Keeps left → Keeps code → Keeps whole_left → Keeps whole
    → behind 0 (compared bytes (left ++ beside right code) (whole_left ++ beside right whole)) ≡ popped (related bytes o right)
related_up true o right left code whole_left whole f g h w = keeps_then left (beside right code) f 0 (popped (low_stands_to o right)) (low_beside_up o right code g)
related_up false o right left code whole_left whole f g h w = keeps_then whole_left (beside right whole) h 0 (popped (stands_to o right)) (beside_up o right whole w)

module _ (procedures : List Procedure) where
  asking_up : (r : Option Relation) (bytes : Bool) (first right : Operand) (left code whole_left whole value : List Instruction) → Keeps left → Keeps code → Keeps whole_left → Keeps whole → Keeps value
      → behind 0 (asking r (λ o. unless_named (named bytes o first right) (compared bytes (left ++ beside right code) (whole_left ++ beside right whole))) value) ≡ popped (asked r bytes first right)
  asking_up (Some o) bytes first right left code whole_left whole value f g h w v =
      by_named (λ z. behind 0 (unless_named z (compared bytes (left ++ beside right code) (whole_left ++ beside right whole))) ≡ popped (or_test z (related bytes o right))) bytes o first right
      (related_up bytes o right left code whole_left whole f g h w) (λ w y k is number suits. refl)
  asking_up None bytes first right left code whole_left whole value f g h w v = v 0

  pub condition_up : (e : Expression) → behind 0 (condition_code procedures e) ≡ popped (test_of e)
  condition_up (Binary m l o w a b) =
      asking_up (relation_of o) (are_bytes a b) (operand_of a) (operand_of b) (low_code procedures a) (low_code procedures b) (expression_code procedures a) (expression_code procedures b) (low_code procedures (Binary m l o w a b))
      (low_keeps procedures a) (low_keeps procedures b) (expression_keeps procedures a) (expression_keeps procedures b) (low_keeps procedures (Binary m l o w a b))
  condition_up (Constant k) = low_keeps procedures (Constant k) 0
  condition_up (Plain widths.Byte x) = refl
  condition_up (Plain widths.Word x) = low_keeps procedures (Plain widths.Word x) 0
  condition_up (Variable w r) = low_keeps procedures (Variable w r) 0
  condition_up (Location r) = low_keeps procedures (Location r) 0
  condition_up (Unary o w e) = low_keeps procedures (Unary o w e) 0
  condition_up (Embedded t e) = low_keeps procedures (Embedded t e) 0
  condition_up (Input w e) = low_keeps procedures (Input w e) 0
  condition_up (Call p es) = low_keeps procedures (Call p es) 0
  condition_up (Value v) = low_keeps procedures (Value v) 0
  condition_up (Passing p xs vs) = low_keeps procedures (Passing p xs vs) 0
  condition_up (Running ss) = low_keeps procedures (Running ss) 0

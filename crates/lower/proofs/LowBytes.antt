-- The code of an expression of which the low byte alone is wanted does what its rest does.
use Rattle.std.proofs.Common.{◌≡◌, ℕ, suc, ◌+◌, ◌-◌, ◌/◌, ◌%◌, ◌<◌, ◌≤◌, ◌⊎◌, inl, inr, Bool, true, false, cond, List, [], ◌∷◌, ◌++◌, length, Option, Some, None, refl, sym, ap, ◌∙◌, subst, arith, slice_get, length-append, true≢false}
use Rattle.std.specs.Prelude.{nat_eq, nat_lt}
use Rattle.std.specs.Int.Bits.{bit_and, bit_or, bit_xor, xor_add_and}
use Rattle.std.proofs.lemmas.Nat.{and_mask, and_mod, or_mod, xor_mod, and_le_l, and_le_r, or_of_8, or_of_16, xor_of_8, xor_of_16}
use Rattle.std.proofs.lemmas.Option.{none-some, same_Some}
use Rattle.std.proofs.lemmas.Bool.{cases_lt, lt-ltb, le-ltb}
use Rattle.word86.specs.declared.width.Width.{Width}
use Rattle.word86.specs.declared.width.Width.TheVariants as widths
use Rattle.word86.specs.declared.operation.UnaryOperation.{UnaryOperation}
use Rattle.word86.specs.declared.operation.UnaryOperation.TheVariants as unary
use Rattle.word86.specs.declared.operation.BinaryOperation.{BinaryOperation}
use Rattle.word86.specs.declared.operation.BinaryOperation.TheVariants as binary
use Rattle.word86.specs.Access.{Read, Where, values}
use Rattle.word86.specs.Access as access
use Rattle.word86.specs.Action.{Silent, map_action}
use Rattle.word86.specs.Arithmetic.{low}
use Rattle.word86.specs.Operation.{unary_value, binary_value}
use Rattle.word86.specs.Place.{held}
use Rattle.plm_type.specs.Rest.{Anchor, InObject, OnScreen, Behind, There, Expression, Constant, Plain, Variable, Location, Unary, Binary, Embedded, Input, Call, Value, Passing, Running, Refer, Subscripts, NoSubscripts, Subscript, Target, ToPlain, ToVariable, ToPort, Procedure, Rest}
use Rattle.plm_type.specs.Places.{placed}
use Rattle.plm_type.specs.Next.{operated, read_at}
use Rattle.icode.specs.declared.instruction.Instruction.{Instruction}
use Rattle.icode.specs.declared.instruction.Instruction.TheVariants as op
use Rattle.icode.specs.declared.instruction.LowByte.TheVariants as lows
use Rattle.icode.specs.declared.instruction.High.TheVariants as highs
use Rattle.icode.specs.declared.instruction.Right.TheVariants as rights
use Rattle.icode.specs.declared.instruction.Direct.{Direct}
use Rattle.icode.specs.declared.instruction.Direct.TheVariants as directs
use Rattle.icode.specs.declared.code.Routine.{Routine}
use Rattle.icode.specs.declared.code.Word.{Word}
use Rattle.icode.specs.declared.code.Word.TheVariants as words
use Rattle.icode.specs.Machine.{Context, At, loaded, computed, found, address, direct_value, settled}
use Rattle.lower.specs.Expressions.{leads_to, by_offset, folded, Operand, Number, Name, Computed, operand_of, place_of, beside, anchor_place, moved, based, expression_code, subscripts_code, target_code}
use Rattle.lower.specs.LowBytes.{low_top, operand_code, low_changing, is_one_step, low_operation, low_load, low_reading, low_receiving, low_code, unless_low_known, by_operator, direct_of, is_narrow, direct_gives, gives_by, is_byte, takes_byte}
use Rattle.lower.specs.Well.{Lies, AnchorLies, IsExpression}
use Rattle.lower.proofs.Setting.{Setting}
use Rattle.lower.proofs.Sim.{N, X, T, S, eased, then_, up, both, bad, touches}
use Rattle.lower.proofs.Holes.{IsHole, in_unary, in_left, in_right, in_variable, in_input, in_embedded, in_embedded_target, acts, HasAt, has_front, has_back}
use Rattle.lower.proofs.Memory.{IsFixed, found_plain, found_fixed, address_fixed}
use Rattle.lower.proofs.Values.{values_small, unary_small, binary_small}
use Rattle.lower.proofs.Exprs.{IsOperand, operand_is, After, ProcedureRuns, Reached, at_once, moved_to, has_at, moved_then, behind_then, variable_is, rise_in, rise, soon_in, push_then}
use Rattle.lower.proofs.Nodes.{nodes, subscripts_nodes, target_nodes}
use Rattle.lower.proofs.Folds.{binary_parts, folded_small, folds}
use Rattle.lower.proofs.Terms.{Gets, led_sim, expression_sim, subscripts_sim, target_sim}

-- ---- values

abbrev pub operation_of : Direct → BinaryOperation
operation_of directs.Add = binary.Add
operation_of directs.Subtract = binary.Subtract
operation_of directs.And = binary.And
operation_of directs.Or = binary.Or
operation_of directs.ExclusiveOr = binary.ExclusiveOr

abbrev pub total : Direct → Width → ℕ → ℕ → ℕ
total directs.Add w u v = low w (u + v)
total directs.Subtract w u v = low w (u + 65536 - v)
total directs.And w u v = bit_and u v
total directs.Or w u v = bit_or u v
total directs.ExclusiveOr w u v = bit_xor u v

pub total_is : (d : Direct) (w : Width) (u v : ℕ) → binary_value (operation_of d) w u v ≡ Some (total d w u v)
total_is directs.Add w u v = refl
total_is directs.Subtract w u v = refl
total_is directs.And w u v = refl
total_is directs.Or w u v = refl
total_is directs.ExclusiveOr w u v = refl

-- the low byte of a value, whatever its width, is the value of the low bytes
pub total_low : (d : Direct) (w : Width) (u v : ℕ) → v < 65536 → total d w u v % 256 ≡ direct_value d (u % 256) (v % 256) % 256
total_low directs.Add widths.Byte u v l = omega arith
total_low directs.Add widths.Word u v l = omega arith
total_low directs.Subtract widths.Byte u v l = omega (arith, l)
total_low directs.Subtract widths.Word u v l = omega (arith, l)
total_low directs.And w u v l = omega (arith, and_mod u v 8)
total_low directs.Or w u v l = omega (arith, or_mod u v 8)
total_low directs.ExclusiveOr w u v l = omega (arith, xor_mod u v 8)

-- a byte's complement
xor_full : (a : ℕ) → a < 256 → bit_xor a 255 ≡ 255 - a
xor_full a lt = let e : bit_and a 255 ≡ a % 256 = and_mask a 8 in omega (arith, lt, xor_add_and a 255, e)

-- an accumulator with the low byte of a value
abbrev pub HasLow : (value accumulator : ℕ) → Type 0
HasLow v a = a % 256 ≡ v % 256

-- of an operator on low bytes
pub low_law : (d : Direct) (w : Width) (u v a b : ℕ) → v < 65536 → HasLow u a → HasLow v b → HasLow (total d w u v) (settled highs.Kept a (direct_value d (a % 256) (b % 256)))
low_law d w u v a b l ha hb =
    let z = direct_value d (a % 256) (b % 256) in
    let same : direct_value d (u % 256) (v % 256) ≡ z = ap (λ y. direct_value d y (v % 256)) (sym ha) ∙ ap (direct_value d (a % 256)) (sym hb) in
    omega (arith, total_low d w u v l, ap (λ y. y % 256) same)

-- of the operator on words whose high bytes are anything
pub word_law : (d : Direct) (w : Width) (u v a b : ℕ) → v < 65536 → b < 65536 → HasLow u a → HasLow v b → HasLow (total d w u v) (total d widths.Word a b)
word_law d w u v a b l m ha hb =
    let same : direct_value d (u % 256) (v % 256) ≡ direct_value d (a % 256) (b % 256) = ap (λ y. direct_value d y (v % 256)) (sym ha) ∙ ap (direct_value d (a % 256)) (sym hb) in
    total_low d widths.Word a b m ∙ sym (ap (λ y. y % 256) same) ∙ sym (total_low d w u v l)

-- of an operator whose left operand is pushed
abbrev topped : Direct → (left right : ℕ) → ℕ
topped directs.Add a c = low widths.Word (a + c)
topped directs.Subtract a c = settled highs.Kept a (direct_value directs.Subtract (a % 256) (c % 256))
topped directs.And a c = bit_and a c
topped directs.Or a c = bit_or a c
topped directs.ExclusiveOr a c = bit_xor a c

top_law : (d : Direct) (w : Width) (u v a c : ℕ) → v < 65536 → HasLow u a → HasLow v c → HasLow (total d w u v) (topped d a c)
top_law directs.Add widths.Byte u v a c l ha hc = omega (arith, ha, hc)
top_law directs.Add widths.Word u v a c l ha hc = omega (arith, ha, hc)
top_law directs.Subtract w u v a c l ha hc = low_law directs.Subtract w u v a c l ha hc
top_law directs.And w u v a c l ha hc =
    let same : bit_and (a % 256) (c % 256) ≡ bit_and (u % 256) (v % 256) = ap (λ y. bit_and y (c % 256)) ha ∙ ap (bit_and (u % 256)) hc in
    omega (arith, and_mod a c 8, and_mod u v 8, same)
top_law directs.Or w u v a c l ha hc =
    let same : bit_or (a % 256) (c % 256) ≡ bit_or (u % 256) (v % 256) = ap (λ y. bit_or y (c % 256)) ha ∙ ap (bit_or (u % 256)) hc in
    omega (arith, or_mod a c 8, or_mod u v 8, same)
top_law directs.ExclusiveOr w u v a c l ha hc =
    let same : bit_xor (a % 256) (c % 256) ≡ bit_xor (u % 256) (v % 256) = ap (λ y. bit_xor y (c % 256)) ha ∙ ap (bit_xor (u % 256)) hc in
    omega (arith, xor_mod a c 8, xor_mod u v 8, same)

-- a value that is a byte, or a word
abbrev pub Fits : (byte : Bool) → ℕ → Type 0
Fits true v = v < 256
Fits false v = v < 65536

pub fits_small : (b : Bool) (v : ℕ) → Fits b v → v < 65536
fits_small true v h = omega (arith, h)
fits_small false v h = h

number_fits : (k : ℕ) → k < 65536 → Fits (nat_lt k 256) k
number_fits k l = by (cases_lt k 256)
  where
    by : (k < 256) ⊎ (256 ≤ k) → Fits (nat_lt k 256) k
    by (inl h) = subst (λ (b : Bool). Fits b k) (sym (lt-ltb k 256 h)) h
    by (inr h) = subst (λ (b : Bool). Fits b k) (sym (le-ltb k 256 h)) l

read_fits : (w : Width) (v : ℕ) → v < values w → Fits (is_narrow w) v
read_fits widths.Byte v h = h
read_fits widths.Word v h = h

pub total_fits : (d : Direct) (w : Width) (a b : Bool) (u v : ℕ) → Fits a u → Fits b v → Fits (direct_gives d w a b) (total d w u v)
total_fits directs.Add widths.Byte a b u v f g = omega arith
total_fits directs.Add widths.Word a b u v f g = omega arith
total_fits directs.Subtract widths.Byte a b u v f g = omega arith
total_fits directs.Subtract widths.Word a b u v f g = omega arith
total_fits directs.And w true b u v f g = omega (arith, f, and_le_l u v)
total_fits directs.And w false true u v f g = omega (arith, g, and_le_r u v)
total_fits directs.And w false false u v f g = omega (arith, f, and_le_l u v)
total_fits directs.Or w true true u v f g = or_of_8 u v f g
total_fits directs.Or w true false u v f g = or_of_16 u v (omega (arith, f)) g
total_fits directs.Or w false b u v f g = or_of_16 u v f (fits_small b v g)
total_fits directs.ExclusiveOr w true true u v f g = xor_of_8 u v f g
total_fits directs.ExclusiveOr w true false u v f g = xor_of_16 u v (omega (arith, f)) g
total_fits directs.ExclusiveOr w false b u v f g = xor_of_16 u v f (fits_small b v g)

gives_fits : (o : BinaryOperation) (w : Width) (a b : Bool) (u v k : ℕ) → Fits a u → Fits b v → binary_value o w u v ≡ Some k → Fits (gives_by (direct_of o) w a b) k
gives_fits binary.Add w a b u v k f g h = subst (Fits (direct_gives directs.Add w a b)) (same_Some (total directs.Add w u v) k h) (total_fits directs.Add w a b u v f g)
gives_fits binary.Subtract w a b u v k f g h = subst (Fits (direct_gives directs.Subtract w a b)) (same_Some (total directs.Subtract w u v) k h) (total_fits directs.Subtract w a b u v f g)
gives_fits binary.And w a b u v k f g h = subst (Fits (direct_gives directs.And w a b)) (same_Some (total directs.And w u v) k h) (total_fits directs.And w a b u v f g)
gives_fits binary.Or w a b u v k f g h = subst (Fits (direct_gives directs.Or w a b)) (same_Some (total directs.Or w u v) k h) (total_fits directs.Or w a b u v f g)
gives_fits binary.ExclusiveOr w a b u v k f g h = subst (Fits (direct_gives directs.ExclusiveOr w a b)) (same_Some (total directs.ExclusiveOr w u v) k h) (total_fits directs.ExclusiveOr w a b u v f g)
gives_fits binary.Multiply w a b u v k f g h = binary_small binary.Multiply w u v k (fits_small a u f) (fits_small b v g) h
gives_fits binary.Divide w a b u v k f g h = binary_small binary.Divide w u v k (fits_small a u f) (fits_small b v g) h
gives_fits binary.Modulo w a b u v k f g h = binary_small binary.Modulo w u v k (fits_small a u f) (fits_small b v g) h
gives_fits binary.Equal w a b u v k f g h = binary_small binary.Equal w u v k (fits_small a u f) (fits_small b v g) h
gives_fits binary.NotEqual w a b u v k f g h = binary_small binary.NotEqual w u v k (fits_small a u f) (fits_small b v g) h
gives_fits binary.Less w a b u v k f g h = binary_small binary.Less w u v k (fits_small a u f) (fits_small b v g) h
gives_fits binary.LessEqual w a b u v k f g h = binary_small binary.LessEqual w u v k (fits_small a u f) (fits_small b v g) h
gives_fits binary.Greater w a b u v k f g h = binary_small binary.Greater w u v k (fits_small a u f) (fits_small b v g) h
gives_fits binary.GreaterEqual w a b u v k f g h = binary_small binary.GreaterEqual w u v k (fits_small a u f) (fits_small b v g) h
gives_fits binary.ShiftLeft w a b u v k f g h = binary_small binary.ShiftLeft w u v k (fits_small a u f) (fits_small b v g) h
gives_fits binary.ShiftRight w a b u v k f g h = binary_small binary.ShiftRight w u v k (fits_small a u f) (fits_small b v g) h
gives_fits binary.RotateLeft w a b u v k f g h = binary_small binary.RotateLeft w u v k (fits_small a u f) (fits_small b v g) h
gives_fits binary.RotateRight w a b u v k f g h = binary_small binary.RotateRight w u v k (fits_small a u f) (fits_small b v g) h
gives_fits binary.DivideSigned w a b u v k f g h = binary_small binary.DivideSigned w u v k (fits_small a u f) (fits_small b v g) h
gives_fits binary.ModuloSigned w a b u v k f g h = binary_small binary.ModuloSigned w u v k (fits_small a u f) (fits_small b v g) h
gives_fits binary.LessSigned w a b u v k f g h = binary_small binary.LessSigned w u v k (fits_small a u f) (fits_small b v g) h
gives_fits binary.LessEqualSigned w a b u v k f g h = binary_small binary.LessEqualSigned w u v k (fits_small a u f) (fits_small b v g) h
gives_fits binary.GreaterSigned w a b u v k f g h = binary_small binary.GreaterSigned w u v k (fits_small a u f) (fits_small b v g) h
gives_fits binary.GreaterEqualSigned w a b u v k f g h = binary_small binary.GreaterEqualSigned w u v k (fits_small a u f) (fits_small b v g) h

-- what is known of an expression is a byte where the tree says so
pub folded_fits : (sizes : List ℕ) (procedures : List Procedure) (MayCall : ℕ → Type 0) (e : Expression) → IsExpression sizes procedures MayCall e → (k : ℕ) → folded e ≡ Some k → Fits (is_byte e) k
folded_fits sizes ps M (Constant j) good k h = subst (Fits (nat_lt j 256)) (same_Some j k h) (number_fits j good)
folded_fits sizes ps M (Unary o w e) good k h = folded_small sizes ps M (Unary o w e) good k h
folded_fits sizes ps M (Binary m l o w a b) good k h =
    let p = binary_parts o w (folded a) (folded b) k h in
    gives_fits o w (is_byte a) (is_byte b) p.0 p.1 k (folded_fits sizes ps M a good.0 p.0 p.2) (folded_fits sizes ps M b good.1 p.1 p.3) p.4
folded_fits sizes ps M (Plain w x) good k h = absurd (none-some k h)
folded_fits sizes ps M (Variable w r) good k h = absurd (none-some k h)
folded_fits sizes ps M (Location r) good k h = absurd (none-some k h)
folded_fits sizes ps M (Embedded t e) good k h = absurd (none-some k h)
folded_fits sizes ps M (Input w e) good k h = absurd (none-some k h)
folded_fits sizes ps M (Call p es) good k h = absurd (none-some k h)
folded_fits sizes ps M (Value v) good k h = absurd (none-some k h)
folded_fits sizes ps M (Passing p xs vs) good k h = absurd (none-some k h)
folded_fits sizes ps M (Running ss) good k h = absurd (none-some k h)

-- ---- targets of bytes

pub gets_low : (t : Target) → takes_byte t ≡ true → (v u : ℕ) → HasLow v u → Gets t v u
gets_low (ToPlain widths.Byte y) is v u h = h
gets_low (ToPlain widths.Word y) is v u h = absurd (true≢false (sym is))
gets_low (ToVariable widths.Byte q) is v u h = h
gets_low (ToVariable widths.Word q) is v u h = absurd (true≢false (sym is))
gets_low (ToPort widths.Byte e) is v u h = h
gets_low (ToPort widths.Word e) is v u h = absurd (true≢false (sym is))

-- ---- steps

module _ (x : Setting) where
  -- what may follow an expression of which the low byte is wanted
  abbrev pub AfterLow : (byte : Bool) → ℕ → (Expression → Rest) → Routine → ℕ → List Word → Type 0
  AfterLow f n C r p ws = (v a : ℕ) → Fits f v → HasLow v a → S x x.room n 2 (C (Value v)) (At r p a ws)

  pub from_whole : (n : ℕ) (C : Expression → Rest) (r : Routine) (p : ℕ) (ws : List Word) → AfterLow false n C r p ws → After x n C r p ws
  from_whole n C r p ws k v lt = k v v lt refl

  after_low_at : (f : Bool) (n : ℕ) (C : Expression → Rest) (r : Routine) (p q : ℕ) (ws : List Word) → p ≡ q → AfterLow f n C r p ws → AfterLow f n C r q ws
  after_low_at f n C r p q ws e k v a lt h = moved_to x x.room n 2 (C (Value v)) r p q a ws e (k v a lt h)

  ended_low : (f : Bool) (n : ℕ) (C : Expression → Rest) (r : Routine) (p : ℕ) (ws : List Word) → AfterLow f n C r p ws → (v a : ℕ) → Fits f v → HasLow v a → T x n 2 (C (Value v)) (At r p a ws)
  ended_low f n C r p ws k v a lt h = then_ x x.room n 2 2 (C (Value v)) (At r p a ws) (omega arith) (omega arith) (k v a lt h)

  module _ (n : ℕ) (C : Expression → Rest) (cx : IsHole x C) (r : Routine) (ws : List Word) where
    -- a constant, after the silent steps that lead to it
    low_folded_then : (f : Bool) (e : Expression) (p k a : ℕ) → folded e ≡ Some k → Fits f k → slice_get (x.code r) p ≡ Some (op.Low (lows.Constant k) highs.Kept) → AfterLow f n C r (p + 1) ws → S x (nodes e + 2) n 0 (C e) (At r p a ws)
    low_folded_then f e p k a is kf h after =
        folds x e k is 2 n 0 (omega arith) C cx (At r p a ws)
        (λ R u. both x 1 n 0 R (C (Value k)) (At r p a ws) (At r (p + 1) (settled highs.Kept a (k % 256)) ws) u (acts x r p a ws (op.Low (lows.Constant k) highs.Kept) h)
        (ended_low f n C r (p + 1) ws after k (settled highs.Kept a (k % 256)) kf (omega arith)))

    -- what is known of an expression stands in place of its code
    low_known_then : (procedures : List Procedure) (MayCall : ℕ → Type 0) (e : Expression) → IsExpression x.sizes procedures MayCall e → (z : Option ℕ) → folded e ≡ z → (code : List Instruction) (p : ℕ) → HasAt (x.code r) p (unless_low_known z code)
        → AfterLow (is_byte e) n C r (p + length (unless_low_known z code)) ws
        → (HasAt (x.code r) p code → AfterLow (is_byte e) n C r (p + length code) ws → (a : ℕ) → S x (nodes e + 2) n 0 (C e) (At r p a ws)) → (a : ℕ) → S x (nodes e + 2) n 0 (C e) (At r p a ws)
    low_known_then procedures MayCall e good (Some k) is code p has after sim a = low_folded_then (is_byte e) e p k a is (folded_fits x.sizes procedures MayCall e good k is) has.0 after
    low_known_then procedures MayCall e good None is code p has after sim a = sim has after a

    low_plain_then : (p a : ℕ) (w : Width) (y : Where) → Lies x.sizes w y → slice_get (x.code r) p ≡ Some (low_load w (place_of y)) → AfterLow (is_narrow w) n C r (p + 1) ws → S x 2 n 0 (C (Plain w y)) (At r p a ws)
    low_plain_then p a widths.Byte y lies h after =
        touches x 2 n 0 (Read widths.Byte y) (C (Plain widths.Byte y)) (λ v. C (Value v)) (At r p a ws) (λ v. At r (p + 1) (settled highs.Kept a v) ws) (cx (Plain widths.Byte y) refl)
        (acts x r p a ws (op.Low (lows.Load (place_of y)) highs.Kept) h ∙ ap (λ o. loaded widths.Byte o (λ v. At r (p + 1) (settled highs.Kept a v) ws)) (found_plain x widths.Byte y lies))
        (λ v lt. ended_low true n C r (p + 1) ws after v (settled highs.Kept a v) lt (omega arith))
    low_plain_then p a widths.Word y lies h after =
        touches x 2 n 0 (Read widths.Word y) (C (Plain widths.Word y)) (λ v. C (Value v)) (At r p a ws) (λ v. At r (p + 1) v ws) (cx (Plain widths.Word y) refl)
        (acts x r p a ws (op.Load widths.Word (place_of y)) h ∙ ap (λ o. loaded widths.Word o (λ v. At r (p + 1) v ws)) (found_plain x widths.Word y lies))
        (λ v lt. ended_low false n C r (p + 1) ws after v v lt refl)

    -- ---- what comes after the subscripts of a byte

    low_read_then : (f m l : ℕ) (anchor : Anchor) (offset : ℕ) (ss : Subscripts) (o d : Option Where) → ((y : Where) → o ≡ Some y → d ≡ Some y) → (R : Rest) → N x R ≡ map_action C (read_at widths.Byte (Refer m l anchor offset ss) o)
        → (p a : ℕ) (i : Context) → X x i ≡ loaded widths.Byte d (λ v. At r p (settled highs.Kept a v) ws) → AfterLow false n C r p ws → (g : ℕ) → S x g n f R i
    low_read_then f m l anchor offset ss None d same R u p a i e after g = bad x g n f R i m l u
    low_read_then f m l anchor offset ss (Some y) d same R u p a i e after g =
        touches x g n f (Read widths.Byte y) R (λ v. C (Value v)) i (λ v. At r p (settled highs.Kept a v) ws) u (e ∙ ap (λ z. loaded widths.Byte z (λ v. At r p (settled highs.Kept a v) ws)) (same y refl))
        (λ v lt. ended_low false n C r p ws after v (settled highs.Kept a v) (values_small widths.Byte v lt) (omega arith))

    low_fixed_read : (m l : ℕ) (anchor : Anchor) → AnchorLies x.sizes anchor → IsFixed anchor → (offset further more : ℕ) → (offset + more) % 65536 ≡ further % 65536 → (p a : ℕ) (i : Context)
        → X x i ≡ loaded widths.Byte (found x.offsets x.sizes widths.Byte (anchor_place anchor offset) (address x.offsets x.sizes (anchor_place anchor offset) more)) (λ v. At r p (settled highs.Kept a v) ws) → AfterLow false n C r p ws
        → S x 2 n 0 (C (Variable widths.Byte (Refer m l anchor further NoSubscripts))) i
    low_fixed_read m l anchor lies fixed offset further more e p a i h after =
        let b = address x.offsets x.sizes (anchor_place anchor offset) more in
        low_read_then 0 m l anchor further NoSubscripts (placed x.offsets x.sizes widths.Byte anchor b) (found x.offsets x.sizes widths.Byte (anchor_place anchor offset) b) (λ y. found_fixed x widths.Byte anchor lies fixed offset b y)
        (C (Variable widths.Byte (Refer m l anchor further NoSubscripts))) (variable_is x n C cx r ws m l widths.Byte anchor further b (address_fixed x m l anchor fixed offset more further e)) p a i h after 2

    low_read_final : (m l : ℕ) (anchor : Anchor) → AnchorLies x.sizes anchor → (ss : Subscripts) (offset further more : ℕ) → Reached ss offset further more → (p : ℕ) → HasAt (x.code r) p (low_reading anchor offset ss)
        → AfterLow false n C r (p + length (low_reading anchor offset ss)) ws → S x 2 n 0 (C (Variable widths.Byte (Refer m l anchor further NoSubscripts))) (At r p more ws)
    low_read_final m l (InObject k start size) lies NoSubscripts offset further more is p has after =
        low_fixed_read m l (InObject k start size) lies tt offset further 0 (at_once offset further is) (p + 1) more (At r p more ws) (acts x r p more ws (op.Low (lows.Load (anchor_place (InObject k start size) offset)) highs.Kept) has.0) after
    low_read_final m l (InObject k start size) lies (Subscript stride e ss) offset further more is p has after =
        low_fixed_read m l (InObject k start size) lies tt offset further more is (p + 1) more (At r p more ws) (acts x r p more ws (op.Low (lows.LoadAt (anchor_place (InObject k start size) offset)) highs.Kept) has.0) after
    low_read_final m l (OnScreen page start size) lies NoSubscripts offset further more is p has after =
        low_fixed_read m l (OnScreen page start size) lies tt offset further 0 (at_once offset further is) (p + 1) more (At r p more ws) (acts x r p more ws (op.Low (lows.Load (anchor_place (OnScreen page start size) offset)) highs.Kept) has.0) after
    low_read_final m l (OnScreen page start size) lies (Subscript stride e ss) offset further more is p has after =
        low_fixed_read m l (OnScreen page start size) lies tt offset further more is (p + 1) more (At r p more ws) (acts x r p more ws (op.Low (lows.LoadAt (anchor_place (OnScreen page start size) offset)) highs.Kept) has.0) after
    low_read_final m l (Behind base) lies ss offset further more is p has after =
        let cb = based base offset ss in
        let there = op.Low lows.LoadThere highs.Kept in
        let h = has_back (x.code r) p cb (there ∷ []) has in
        let pm = p + 1 + length (moved offset) in
        let at : p + length cb ≡ pm = omega arith in
        behind_then x n (λ q. C (Variable widths.Byte q)) (in_variable x C cx widths.Byte) m l base lies ss offset further more is r p ws has.0
        (λ b c still on. moved_then x n offset c ((b + further) % 65536) (nat_eq offset 0) refl (C (Variable widths.Byte (Refer m l (There b) further NoSubscripts))) r (p + 1) ws still on (has_front (x.code r) (p + 1) (moved offset) (there ∷ []) has.1)
        (low_read_then 1 m l (There b) further NoSubscripts (held 0 x.offsets x.sizes ((b + further) % 65536) 1) (held 0 x.offsets x.sizes ((b + further) % 65536) 1) (λ y e. e)
        (C (Variable widths.Byte (Refer m l (There b) further NoSubscripts))) (variable_is x n C cx r ws m l widths.Byte (There b) further ((b + further) % 65536) refl) (pm + 1) ((b + further) % 65536) (At r pm ((b + further) % 65536) ws)
        (acts x r pm ((b + further) % 65536) ws there (has_at x r (p + length cb) pm (there ∷ []) at h).0)
        (after_low_at false n C r (p + length (cb ++ there ∷ [])) (pm + 1) ws (omega (arith, length-append cb (there ∷ []))) after) (suc x.room)))
    low_read_final m l (There b) lies ss offset further more is p has after = absurd lies

    -- ---- operators on low bytes

    module _ (m l : ℕ) (d : Direct) (w : Width) (f g : Bool) (u : ℕ) (us : Fits f u) where
      abbrev to : Bool
      to = direct_gives d w f g

      both_are : (v : ℕ) → N x (C (Binary m l (operation_of d) w (Value u) (Value v))) ≡ Silent (C (Value (total d w u v)))
      both_are v = cx (Binary m l (operation_of d) w (Value u) (Value v)) refl ∙ ap (λ y. map_action C (operated m l y)) (total_is d w u v)

      -- both operands have their values, and the instruction leaves the low byte
      makes : (v c p : ℕ) (i : Context) → Fits g v → X x i ≡ Silent (At r p c ws) → HasLow (total d w u v) c → AfterLow to n C r p ws → S x 1 n 0 (C (Binary m l (operation_of d) w (Value u) (Value v))) i
      makes v c p i lt e h after =
          both x 0 n 0 (C (Binary m l (operation_of d) w (Value u) (Value v))) (C (Value (total d w u v))) i (At r p c ws) (both_are v) e (ended_low to n C r p ws after (total d w u v) c (total_fits d w f g u v us lt) h)

      -- the same where the access comes first
      has_made : (v c p : ℕ) → Fits g v → HasLow (total d w u v) c → AfterLow to n C r p ws → T x n 2 (C (Binary m l (operation_of d) w (Value u) (Value v))) (At r p c ws)
      has_made v c p lt h after =
          then_ x (suc x.room) n 2 2 (C (Binary m l (operation_of d) w (Value u) (Value v))) (At r p c ws) (omega arith) (omega arith)
          (up x x.room n 2 (omega arith) (C (Binary m l (operation_of d) w (Value u) (Value v))) (C (Value (total d w u v))) (At r p c ws) (both_are v) (after (total d w u v) c (total_fits d w f g u v us lt) h))

      constant_made : (e : Expression) (c : Bool) (k a p : ℕ) → folded e ≡ Some k → k < 65536 → Fits g k → HasLow u a → slice_get (x.code r) p ≡ Some (cond c (op.BinaryConstant (operation_of d) widths.Word k) (op.Low (lows.Operate d (rights.Constant k)) highs.Kept)) → AfterLow to n C r (p + 1) ws
          → S x (nodes e + 2) n 0 (C (Binary m l (operation_of d) w (Value u) e)) (At r p a ws)
      constant_made e c k a p is ks kf ha h after =
          folds x e k is 2 n 0 (omega arith) (λ y. C (Binary m l (operation_of d) w (Value u) y)) (in_right x C cx m l (operation_of d) w u) (At r p a ws)
          (λ R z. up x 1 n 0 (omega arith) R (C (Binary m l (operation_of d) w (Value u) (Value k))) (At r p a ws) z (by c h))
        where
          by : (c : Bool) → slice_get (x.code r) p ≡ Some (cond c (op.BinaryConstant (operation_of d) widths.Word k) (op.Low (lows.Operate d (rights.Constant k)) highs.Kept)) → S x 1 n 0 (C (Binary m l (operation_of d) w (Value u) (Value k))) (At r p a ws)
          by true h =
              makes k (total d widths.Word a k) (p + 1) (At r p a ws) kf
              (acts x r p a ws (op.BinaryConstant (operation_of d) widths.Word k) h ∙ ap (λ z. Rattle.icode.specs.Machine.operated z (λ y. At r (p + 1) y ws)) (total_is d widths.Word a k))
              (word_law d w u k a k ks ks ha refl) after
          by false h =
              makes k (settled highs.Kept a (direct_value d (a % 256) (k % 256))) (p + 1) (At r p a ws) kf (acts x r p a ws (op.Low (lows.Operate d (rights.Constant k)) highs.Kept) h) (low_law d w u k a k ks ha refl) after

      plain_made : (read : Width) (y : Where) (a p : ℕ) → is_narrow read ≡ g → Lies x.sizes read y → HasLow u a → slice_get (x.code r) p ≡ Some (low_operation d (operation_of d) (Name read (place_of y))) → AfterLow to n C r (p + 1) ws
          → S x 2 n 0 (C (Binary m l (operation_of d) w (Value u) (Plain read y))) (At r p a ws)
      plain_made widths.Byte y a p is lies ha h after =
          touches x 2 n 0 (Read widths.Byte y) (C (Binary m l (operation_of d) w (Value u) (Plain widths.Byte y))) (λ v. C (Binary m l (operation_of d) w (Value u) (Value v))) (At r p a ws) (λ v. At r (p + 1) (settled highs.Kept a (direct_value d (a % 256) v)) ws)
          (in_right x C cx m l (operation_of d) w u (Plain widths.Byte y) refl)
          (acts x r p a ws (op.Low (lows.Operate d (rights.Plain (place_of y))) highs.Kept) h ∙ ap (λ z. loaded widths.Byte z (λ v. At r (p + 1) (settled highs.Kept a (direct_value d (a % 256) v)) ws)) (found_plain x widths.Byte y lies))
          (λ v lt. has_made v (settled highs.Kept a (direct_value d (a % 256) v)) (p + 1) (subst (λ (b : Bool). Fits b v) is lt)
          (let e : v % 256 ≡ v = omega (arith, lt) in subst (λ z. HasLow (total d w u v) (settled highs.Kept a (direct_value d (a % 256) z))) e (low_law d w u v a v (values_small widths.Byte v lt) ha refl)) after)
      plain_made widths.Word y a p is lies ha h after =
          touches x 2 n 0 (Read widths.Word y) (C (Binary m l (operation_of d) w (Value u) (Plain widths.Word y))) (λ v. C (Binary m l (operation_of d) w (Value u) (Value v))) (At r p a ws) (λ v. computed (binary_value (operation_of d) widths.Word a v) r (p + 1) ws)
          (in_right x C cx m l (operation_of d) w u (Plain widths.Word y) refl)
          (acts x r p a ws (op.BinaryPlain (operation_of d) widths.Word widths.Word (place_of y)) h ∙ ap (λ z. loaded widths.Word z (λ v. computed (binary_value (operation_of d) widths.Word a v) r (p + 1) ws)) (found_plain x widths.Word y lies))
          (λ v lt. subst (λ z. T x n 2 (C (Binary m l (operation_of d) w (Value u) (Value v))) (computed z r (p + 1) ws)) (sym (total_is d widths.Word a v))
          (has_made v (total d widths.Word a v) (p + 1) (subst (λ (b : Bool). Fits b v) is lt) (word_law d w u v a v (values_small widths.Word v lt) (values_small widths.Word v lt) ha refl) after))

  top_acts : (r : Routine) (ws : List Word) (d : Direct) (p a c : ℕ) → slice_get (x.code r) p ≡ Some (low_top d (operation_of d)) → X x (At r p c (words.Value a ∷ ws)) ≡ Silent (At r (p + 1) (topped d a c) ws)
  top_acts r ws directs.Add p a c h = acts x r p c (words.Value a ∷ ws) (op.Binary binary.Add widths.Word) h
  top_acts r ws directs.Subtract p a c h = acts x r p c (words.Value a ∷ ws) (op.Low (lows.Operate directs.Subtract rights.Top) highs.Kept) h
  top_acts r ws directs.And p a c h = acts x r p c (words.Value a ∷ ws) (op.Binary binary.And widths.Word) h
  top_acts r ws directs.Or p a c h = acts x r p c (words.Value a ∷ ws) (op.Binary binary.Or widths.Word) h
  top_acts r ws directs.ExclusiveOr p a c h = acts x r p c (words.Value a ∷ ws) (op.Binary binary.ExclusiveOr widths.Word) h

  -- the right operand from what its code does, and the operator
  low_right_then : (procedures : List Procedure) (MayCall : ℕ → Type 0) (b : Expression) → IsExpression x.sizes procedures MayCall b → nodes b + 2 ≤ x.room → (o : Operand) → IsOperand b o → (code : List Instruction) → (n : ℕ) (C : Expression → Rest) → IsHole x C → (m l : ℕ) (d : Direct) (w : Width) (f : Bool) (u a : ℕ) → Fits f u → HasLow u a → (r : Routine) (p : ℕ) (ws : List Word)
      → HasAt (x.code r) p (beside o code ++ low_operation d (operation_of d) o ∷ [])
      → ((p : ℕ) → HasAt (x.code r) p code → AfterLow (is_byte b) n (λ e. C (Binary m l (operation_of d) w (Value u) e)) r (p + length code) (words.Value a ∷ ws) → S x (nodes b + 2) n 0 (C (Binary m l (operation_of d) w (Value u) b)) (At r p a (words.Value a ∷ ws)))
      → AfterLow (direct_gives d w f (is_byte b)) n C r (p + length (beside o code ++ low_operation d (operation_of d) o ∷ [])) ws → S x (nodes b + 2) n 1 (C (Binary m l (operation_of d) w (Value u) b)) (At r p a ws)
  low_right_then procedures MayCall b good room (Number k) is code n C cx m l d w f u a us ha r p ws has sim after =
      eased x (nodes b + 2) (nodes b + 2) n 0 1 (C (Binary m l (operation_of d) w (Value u) b)) (At r p a ws) (omega arith) (omega arith)
      (constant_made n C cx r ws m l d w f (is_byte b) u us b (is_one_step d k) k a p is (folded_small x.sizes procedures MayCall b good k is) (folded_fits x.sizes procedures MayCall b good k is) ha has.0 after)
  low_right_then procedures MayCall b good room (Name read y) is code n C cx m l d w f u a us ha r p ws has sim after =
      let lies : Lies x.sizes read is.0 = subst (λ e. IsExpression x.sizes procedures MayCall e) is.1 good in
      eased x 2 (nodes b + 2) n 0 1 (C (Binary m l (operation_of d) w (Value u) b)) (At r p a ws) (omega arith) (omega arith)
      (subst (λ e. S x 2 n 0 (C (Binary m l (operation_of d) w (Value u) e)) (At r p a ws)) (sym is.1)
      (plain_made n C cx r ws m l d w f (is_byte b) u us read is.0 a p (sym (ap is_byte is.1)) lies ha (subst (λ z. slice_get (x.code r) p ≡ Some (low_operation d (operation_of d) (Name read z))) is.2 has.0) after))
  low_right_then procedures MayCall b good room Computed is code n C cx m l d w f u a us ha r p ws has sim after =
      let last = low_top d (operation_of d) in
      let h = has_back (x.code r) (p + 1) code (last ∷ []) has.1 in
      let at : p + length (op.Push ∷ (code ++ last ∷ [])) ≡ p + 1 + length code + 1 = omega (arith, length-append code (last ∷ [])) in
      push_then x (nodes b + 2) n 0 (C (Binary m l (operation_of d) w (Value u) b)) r p a ws has.0
      (soon_in x (nodes b + 2) n 0 0 (C (Binary m l (operation_of d) w (Value u) b)) (At r (p + 1) a (words.Value a ∷ ws)) room (omega arith)
      (sim (p + 1) (has_front (x.code r) (p + 1) code (last ∷ []) has.1)
      (λ v c vs hc. eased x 1 x.room n 0 2 (C (Binary m l (operation_of d) w (Value u) (Value v))) (At r (p + 1 + length code) c (words.Value a ∷ ws)) (omega (arith, x.wide)) (omega arith)
      (makes n C cx r ws m l d w f (is_byte b) u us v (topped d a c) (p + 1 + length code + 1) (At r (p + 1 + length code) c (words.Value a ∷ ws)) vs
      (top_acts r ws d (p + 1 + length code) a c h.0) (top_law d w u v a c (fits_small (is_byte b) v vs) ha hc)
      (after_low_at (direct_gives d w f (is_byte b)) n C r (p + length (op.Push ∷ (code ++ last ∷ []))) (p + 1 + length code + 1) ws at after)))))

  -- ---- a byte from a port

  low_received_from : (code : List Instruction) (e : Expression) (n : ℕ) (C : Expression → Rest) → IsHole x C → (r : Routine) (p : ℕ) (ws : List Word) → HasAt (x.code r) p (code ++ op.Low lows.Receive highs.Kept ∷ [])
      → AfterLow false n C r (p + length (code ++ op.Low lows.Receive highs.Kept ∷ [])) ws
      → ((p : ℕ) → HasAt (x.code r) p code → After x n (λ y. C (Input widths.Byte y)) r (p + length code) ws → (a : ℕ) → S x (nodes e + 2) n 0 (C (Input widths.Byte e)) (At r p a ws)) → (a : ℕ) → S x (nodes e + 2) n 0 (C (Input widths.Byte e)) (At r p a ws)
  low_received_from code e n C cx r p ws has after sim a =
      let last = op.Low lows.Receive highs.Kept in
      let pe = p + length code in
      sim p (has_front (x.code r) p code (last ∷ []) has)
      (λ q lt. rise x n 0 (C (Input widths.Byte (Value q))) (At r pe q ws) (omega arith)
      (touches x 2 n 0 (access.Input widths.Byte q) (C (Input widths.Byte (Value q))) (λ v. C (Value v)) (At r pe q ws) (λ v. At r (pe + 1) (settled highs.Kept q v) ws) (cx (Input widths.Byte (Value q)) refl)
      (acts x r pe q ws last (has_back (x.code r) p code (last ∷ []) has).0)
      (λ v lv. ended_low false n C r (pe + 1) ws (after_low_at false n C r (p + length (code ++ last ∷ [])) (pe + 1) ws (omega (arith, length-append code (last ∷ []))) after) v (settled highs.Kept q v) (values_small widths.Byte v lv) (omega arith)))) a

  low_received : (code : List Instruction) (e : Expression) (o : Operand) → IsOperand e o → (n : ℕ) (C : Expression → Rest) → IsHole x C → (r : Routine) (p : ℕ) (ws : List Word) → HasAt (x.code r) p (low_receiving o code)
      → AfterLow false n C r (p + length (low_receiving o code)) ws
      → ((p : ℕ) → HasAt (x.code r) p code → After x n (λ y. C (Input widths.Byte y)) r (p + length code) ws → (a : ℕ) → S x (nodes e + 2) n 0 (C (Input widths.Byte e)) (At r p a ws)) → (a : ℕ) → S x (nodes e + 2) n 0 (C (Input widths.Byte e)) (At r p a ws)
  low_received code e (Number k) is n C cx r p ws has after sim a =
      folds x e k is 2 n 0 (omega arith) (λ y. C (Input widths.Byte y)) (in_input x C cx widths.Byte) (At r p a ws)
      (λ R u. up x 1 n 0 (omega arith) R (C (Input widths.Byte (Value k))) (At r p a ws) u
      (touches x 1 n 0 (access.Input widths.Byte k) (C (Input widths.Byte (Value k))) (λ v. C (Value v)) (At r p a ws) (λ v. At r (p + 1) (settled highs.Kept a v) ws) (cx (Input widths.Byte (Value k)) refl)
      (acts x r p a ws (op.Low (lows.ReceiveFrom k) highs.Kept) has.0) (λ v lt. ended_low false n C r (p + 1) ws after v (settled highs.Kept a v) (values_small widths.Byte v lt) (omega arith))))
  low_received code e (Name read y) is n C cx r p ws has after sim a = low_received_from code e n C cx r p ws has after sim a
  low_received code e Computed is n C cx r p ws has after sim a = low_received_from code e n C cx r p ws has after sim a

  -- ---- expressions

  module _ (MayCall : ℕ → Type 0) (calls : (q : ℕ) → MayCall q → ProcedureRuns x q) where
    abbrev LowSim : Expression → Type 0
    LowSim e = nodes e + 2 ≤ x.room → (n : ℕ) (C : Expression → Rest) → IsHole x C → (r : Routine) (p : ℕ) (ws : List Word) → HasAt (x.code r) p (low_code x.procedures e)
        → AfterLow (is_byte e) n C r (p + length (low_code x.procedures e)) ws → (a : ℕ) → S x (nodes e + 2) n 0 (C e) (At r p a ws)

    lifted : (m k n : ℕ) (R : Rest) (i : Context) → m ≤ k → S x m n 0 R i → S x k n 0 R i
    lifted m k n R i le h = eased x m k n 0 0 R i le (omega arith) h

    -- whatever is known of whether the value is a byte
    wholly : (e : Expression) → IsExpression x.sizes x.procedures MayCall e → nodes e + 2 ≤ x.room → (f : Bool) → f ≡ false → (n : ℕ) (C : Expression → Rest) → IsHole x C → (r : Routine) (p : ℕ) (ws : List Word) → HasAt (x.code r) p (expression_code x.procedures e)
        → AfterLow f n C r (p + length (expression_code x.procedures e)) ws → (a : ℕ) → S x (nodes e + 2) n 0 (C e) (At r p a ws)
    wholly e good room f is n C cx r p ws has after a =
        expression_sim x MayCall calls e good room n C cx r p ws has (from_whole n C r (p + length (expression_code x.procedures e)) ws (subst (λ (b : Bool). AfterLow b n C r (p + length (expression_code x.procedures e)) ws) is after)) a

    direct_sim : (m l : ℕ) (d : Direct) (w : Width) (e b : Expression) → IsExpression x.sizes x.procedures MayCall b → LowSim e → LowSim b → nodes (Binary m l (operation_of d) w e b) + 2 ≤ x.room → (n : ℕ) (C : Expression → Rest) → IsHole x C → (r : Routine) (p : ℕ) (ws : List Word)
        → HasAt (x.code r) p (low_code x.procedures e ++ (beside (operand_of b) (low_code x.procedures b) ++ low_operation d (operation_of d) (operand_of b) ∷ []))
        → AfterLow (direct_gives d w (is_byte e) (is_byte b)) n C r (p + length (low_code x.procedures e ++ (beside (operand_of b) (low_code x.procedures b) ++ low_operation d (operation_of d) (operand_of b) ∷ []))) ws
        → (a : ℕ) → S x (nodes (Binary m l (operation_of d) w e b) + 2) n 0 (C (Binary m l (operation_of d) w e b)) (At r p a ws)
    direct_sim m l d w e b good left right room n C cx r p ws has after a =
        let ca = low_code x.procedures e in
        let cb = low_code x.procedures b in
        let cr = beside (operand_of b) cb ++ low_operation d (operation_of d) (operand_of b) ∷ [] in
        let pa = p + length ca in
        lifted (nodes e + 2) (nodes (Binary m l (operation_of d) w e b) + 2) n (C (Binary m l (operation_of d) w e b)) (At r p a ws) (omega arith)
        (left (omega (arith, room)) n (λ y. C (Binary m l (operation_of d) w y b)) (in_left x C cx m l (operation_of d) w b) r p ws (has_front (x.code r) p ca cr has)
        (λ u c us hc. rise_in x (nodes b + 2) n 1 (C (Binary m l (operation_of d) w (Value u) b)) (At r pa c ws) (omega (arith, room)) (omega arith)
        (low_right_then x.procedures MayCall b good (omega (arith, room)) (operand_of b) (operand_is b) cb n C cx m l d w (is_byte e) u c us hc r pa ws (has_back (x.code r) p ca cr has)
        (λ q h k. right (omega (arith, room)) n (λ y. C (Binary m l (operation_of d) w (Value u) y)) (in_right x C cx m l (operation_of d) w u) r q (words.Value c ∷ ws) h k c)
        (after_low_at (direct_gives d w (is_byte e) (is_byte b)) n C r (p + length (ca ++ cr)) (pa + length cr) ws (omega (arith, length-append ca cr)) after))) a)

    -- a byte target gets the low byte, else the whole value is computed
    embedded_sim : (t : Target) (e : Expression) → IsExpression x.sizes x.procedures MayCall (Embedded t e) → LowSim e → nodes (Embedded t e) + 2 ≤ x.room → (b : Bool) → takes_byte t ≡ b → (n : ℕ) (C : Expression → Rest) → IsHole x C → (r : Routine) (p : ℕ) (ws : List Word)
        → HasAt (x.code r) p (cond b (low_code x.procedures e ++ target_code x.procedures t) (expression_code x.procedures (Embedded t e)))
        → AfterLow false n C r (p + length (cond b (low_code x.procedures e ++ target_code x.procedures t) (expression_code x.procedures (Embedded t e)))) ws → (a : ℕ) → S x (nodes (Embedded t e) + 2) n 0 (C (Embedded t e)) (At r p a ws)
    embedded_sim t e good sim room true is n C cx r p ws has after a =
        let ce = low_code x.procedures e in
        let ct = target_code x.procedures t in
        let pe = p + length ce in
        lifted (nodes e + 2) (nodes (Embedded t e) + 2) n (C (Embedded t e)) (At r p a ws) (omega arith)
        (sim (omega (arith, room)) n (λ y. C (Embedded t y)) (in_embedded x C cx t) r p ws (has_front (x.code r) p ce ct has)
        (λ v c fits h. rise_in x (target_nodes t + 2) n 2 (C (Embedded t (Value v))) (At r pe c ws) (omega (arith, room)) (omega arith)
        (target_sim x MayCall calls t good.0 (omega (arith, room)) n v c (gets_low t is v c h) (λ y. C (Embedded y (Value v))) (C (Value v)) (in_embedded_target x C cx v) r pe ws (has_back (x.code r) p ce ct has)
        (moved_to x x.room n 2 (C (Value v)) r (p + length (ce ++ ct)) (pe + length ct) c ws (omega (arith, length-append ce ct)) (after v c (fits_small (is_byte e) v fits) h)))) a)
    embedded_sim t e good sim room false is n C cx r p ws has after a = wholly (Embedded t e) good room false refl n C cx r p ws has after a

    -- an operator, on low bytes or not
    binary_sim : (m l : ℕ) (o : BinaryOperation) (w : Width) (e b : Expression) → IsExpression x.sizes x.procedures MayCall (Binary m l o w e b) → LowSim e → LowSim b → nodes (Binary m l o w e b) + 2 ≤ x.room → (n : ℕ) (C : Expression → Rest) → IsHole x C → (r : Routine) (p : ℕ) (ws : List Word)
        → HasAt (x.code r) p (by_operator (direct_of o) (λ d. low_code x.procedures e ++ (beside (operand_of b) (low_code x.procedures b) ++ low_operation d o (operand_of b) ∷ [])) (expression_code x.procedures (Binary m l o w e b)))
        → AfterLow (gives_by (direct_of o) w (is_byte e) (is_byte b)) n C r (p + length (by_operator (direct_of o) (λ d. low_code x.procedures e ++ (beside (operand_of b) (low_code x.procedures b) ++ low_operation d o (operand_of b) ∷ [])) (expression_code x.procedures (Binary m l o w e b)))) ws
        → (a : ℕ) → S x (nodes (Binary m l o w e b) + 2) n 0 (C (Binary m l o w e b)) (At r p a ws)
    binary_sim m l binary.Add w e b good left right room n C cx r p ws has after a = direct_sim m l directs.Add w e b good.1 left right room n C cx r p ws has after a
    binary_sim m l binary.Subtract w e b good left right room n C cx r p ws has after a = direct_sim m l directs.Subtract w e b good.1 left right room n C cx r p ws has after a
    binary_sim m l binary.And w e b good left right room n C cx r p ws has after a = direct_sim m l directs.And w e b good.1 left right room n C cx r p ws has after a
    binary_sim m l binary.Or w e b good left right room n C cx r p ws has after a = direct_sim m l directs.Or w e b good.1 left right room n C cx r p ws has after a
    binary_sim m l binary.ExclusiveOr w e b good left right room n C cx r p ws has after a = direct_sim m l directs.ExclusiveOr w e b good.1 left right room n C cx r p ws has after a
    binary_sim m l binary.Multiply w e b good left right room n C cx r p ws has after a = wholly (Binary m l binary.Multiply w e b) good room false refl n C cx r p ws has after a
    binary_sim m l binary.Divide w e b good left right room n C cx r p ws has after a = wholly (Binary m l binary.Divide w e b) good room false refl n C cx r p ws has after a
    binary_sim m l binary.Modulo w e b good left right room n C cx r p ws has after a = wholly (Binary m l binary.Modulo w e b) good room false refl n C cx r p ws has after a
    binary_sim m l binary.Equal w e b good left right room n C cx r p ws has after a = wholly (Binary m l binary.Equal w e b) good room false refl n C cx r p ws has after a
    binary_sim m l binary.NotEqual w e b good left right room n C cx r p ws has after a = wholly (Binary m l binary.NotEqual w e b) good room false refl n C cx r p ws has after a
    binary_sim m l binary.Less w e b good left right room n C cx r p ws has after a = wholly (Binary m l binary.Less w e b) good room false refl n C cx r p ws has after a
    binary_sim m l binary.LessEqual w e b good left right room n C cx r p ws has after a = wholly (Binary m l binary.LessEqual w e b) good room false refl n C cx r p ws has after a
    binary_sim m l binary.Greater w e b good left right room n C cx r p ws has after a = wholly (Binary m l binary.Greater w e b) good room false refl n C cx r p ws has after a
    binary_sim m l binary.GreaterEqual w e b good left right room n C cx r p ws has after a = wholly (Binary m l binary.GreaterEqual w e b) good room false refl n C cx r p ws has after a
    binary_sim m l binary.ShiftLeft w e b good left right room n C cx r p ws has after a = wholly (Binary m l binary.ShiftLeft w e b) good room false refl n C cx r p ws has after a
    binary_sim m l binary.ShiftRight w e b good left right room n C cx r p ws has after a = wholly (Binary m l binary.ShiftRight w e b) good room false refl n C cx r p ws has after a
    binary_sim m l binary.RotateLeft w e b good left right room n C cx r p ws has after a = wholly (Binary m l binary.RotateLeft w e b) good room false refl n C cx r p ws has after a
    binary_sim m l binary.RotateRight w e b good left right room n C cx r p ws has after a = wholly (Binary m l binary.RotateRight w e b) good room false refl n C cx r p ws has after a
    binary_sim m l binary.DivideSigned w e b good left right room n C cx r p ws has after a = wholly (Binary m l binary.DivideSigned w e b) good room false refl n C cx r p ws has after a
    binary_sim m l binary.ModuloSigned w e b good left right room n C cx r p ws has after a = wholly (Binary m l binary.ModuloSigned w e b) good room false refl n C cx r p ws has after a
    binary_sim m l binary.LessSigned w e b good left right room n C cx r p ws has after a = wholly (Binary m l binary.LessSigned w e b) good room false refl n C cx r p ws has after a
    binary_sim m l binary.LessEqualSigned w e b good left right room n C cx r p ws has after a = wholly (Binary m l binary.LessEqualSigned w e b) good room false refl n C cx r p ws has after a
    binary_sim m l binary.GreaterSigned w e b good left right room n C cx r p ws has after a = wholly (Binary m l binary.GreaterSigned w e b) good room false refl n C cx r p ws has after a
    binary_sim m l binary.GreaterEqualSigned w e b good left right room n C cx r p ws has after a = wholly (Binary m l binary.GreaterEqualSigned w e b) good room false refl n C cx r p ws has after a

    -- a byte at a place, by where constant subscripts lead
    low_read_by : (m l : ℕ) (anchor : Anchor) → AnchorLies x.sizes anchor → (offset : ℕ) (ss : Subscripts) (z : Option ℕ) → leads_to (Some offset) ss ≡ z → (n : ℕ) (C : Expression → Rest) → IsHole x C → (r : Routine) (p : ℕ) (ws : List Word) (code : List Instruction)
        → HasAt (x.code r) p (by_offset z (λ to. low_reading anchor to NoSubscripts) code) → AfterLow false n C r (p + length (by_offset z (λ to. low_reading anchor to NoSubscripts) code)) ws → (a : ℕ)
        → (HasAt (x.code r) p code → AfterLow false n C r (p + length code) ws → S x (subscripts_nodes ss + 2) n 0 (C (Variable widths.Byte (Refer m l anchor offset ss))) (At r p a ws)) → S x (subscripts_nodes ss + 2) n 0 (C (Variable widths.Byte (Refer m l anchor offset ss))) (At r p a ws)
    low_read_by m l anchor lies offset ss (Some to) is n C cx r p ws code has after a sim =
        led_sim x MayCall calls ss offset to is 2 n 0 (omega arith) (λ q. C (Variable widths.Byte q)) (in_variable x C cx widths.Byte) m l anchor (At r p a ws) (low_read_final n C cx r ws m l anchor lies NoSubscripts to to a refl p has after)
    low_read_by m l anchor lies offset ss None is n C cx r p ws code has after a sim = sim has after

    -- an operator alone, after an operand of which the low byte is in the accumulator, or the whole value
    unary_sim : (o : UnaryOperation) (w : Width) (e : Expression) → IsExpression x.sizes x.procedures MayCall e → LowSim e → nodes (Unary o w e) + 2 ≤ x.room → (n : ℕ) (C : Expression → Rest) → IsHole x C → (r : Routine) (p : ℕ) (ws : List Word)
        → HasAt (x.code r) p (operand_code o (low_code x.procedures e) (expression_code x.procedures e) ++ low_changing o ∷ [])
        → AfterLow false n C r (p + length (operand_code o (low_code x.procedures e) (expression_code x.procedures e) ++ low_changing o ∷ [])) ws → (a : ℕ) → S x (nodes (Unary o w e) + 2) n 0 (C (Unary o w e)) (At r p a ws)
    unary_sim o w e good sim room n C cx r p ws has after a =
        let code = operand_code o (low_code x.procedures e) (expression_code x.procedures e) in
        let last = low_changing o ∷ [] in
        let pe = p + length code in
        lifted (nodes e + 2) (nodes (Unary o w e) + 2) n (C (Unary o w e)) (At r p a ws) (omega arith)
        (operand o (has_front (x.code r) p code last has)
        (λ v c lt is. rise x n 0 (C (Unary o w (Value v))) (At r pe c ws) (omega arith)
        (both x 1 n 0 (C (Unary o w (Value v))) (C (Value (unary_value o w v))) (At r pe c ws) (At r (pe + 1) (changed o c) ws) (cx (Unary o w (Value v)) refl)
        (change o pe c (has_back (x.code r) p code last has).0)
        (ended_low false n C r (pe + 1) ws (after_low_at false n C r (p + length (code ++ last)) (pe + 1) ws (omega (arith, length-append code last)) after) (unary_value o w v) (changed o c) (unary_small o w v lt) (change_low o w v c lt is)))))
      where
        -- what of the operand is in the accumulator
        IsOperandOf : UnaryOperation → (value accumulator : ℕ) → Type 0
        IsOperandOf unary.Plus v c = HasLow v c
        IsOperandOf unary.Minus v c = c ≡ v
        IsOperandOf unary.Not v c = HasLow v c
        IsOperandOf unary.Low v c = HasLow v c
        IsOperandOf unary.High v c = c ≡ v
        IsOperandOf unary.Double v c = HasLow v c

        -- what the instruction leaves there
        changed : UnaryOperation → ℕ → ℕ
        changed unary.Plus c = c
        changed unary.Minus c = low widths.Word (65536 - c)
        changed unary.Not c = settled highs.Kept c (bit_xor (c % 256) 255)
        changed unary.Low c = c
        changed unary.High c = settled highs.Kept c (c / 256)
        changed unary.Double c = c

        change : (o : UnaryOperation) (p c : ℕ) → slice_get (x.code r) p ≡ Some (low_changing o) → X x (At r p c ws) ≡ Silent (At r (p + 1) (changed o c) ws)
        change unary.Plus p c h = acts x r p c ws (op.Unary unary.Plus widths.Word) h
        change unary.Minus p c h = acts x r p c ws (op.Unary unary.Minus widths.Word) h
        change unary.Not p c h = acts x r p c ws (op.Low (lows.Operate directs.ExclusiveOr (rights.Constant 255)) highs.Kept) h
        change unary.Low p c h = acts x r p c ws (op.Unary unary.Plus widths.Word) h
        change unary.High p c h = acts x r p c ws (op.Low lows.High highs.Kept) h
        change unary.Double p c h = acts x r p c ws (op.Unary unary.Plus widths.Word) h

        change_low : (o : UnaryOperation) (w : Width) (v c : ℕ) → v < 65536 → IsOperandOf o v c → HasLow (unary_value o w v) (changed o c)
        change_low unary.Plus w v c lt is = is
        change_low unary.Minus widths.Byte v c lt is = omega (arith, lt, is)
        change_low unary.Minus widths.Word v c lt is = omega (arith, lt, is)
        change_low unary.Not widths.Byte v c lt is = let e = xor_full (c % 256) (omega arith) in omega (arith, lt, is, e)
        change_low unary.Not widths.Word v c lt is = let e = xor_full (c % 256) (omega arith) in omega (arith, lt, is, e)
        change_low unary.Low w v c lt is = omega (arith, is)
        change_low unary.High w v c lt is = omega (arith, lt, is)
        change_low unary.Double w v c lt is = is

        operand : (o : UnaryOperation) → HasAt (x.code r) p (operand_code o (low_code x.procedures e) (expression_code x.procedures e))
            → ((v c : ℕ) → v < 65536 → IsOperandOf o v c → S x x.room n 2 (C (Unary o w (Value v))) (At r (p + length (operand_code o (low_code x.procedures e) (expression_code x.procedures e))) c ws)) → S x (nodes e + 2) n 0 (C (Unary o w e)) (At r p a ws)
        operand unary.Plus h k = sim (omega (arith, room)) n (λ y. C (Unary unary.Plus w y)) (in_unary x C cx unary.Plus w) r p ws h (λ v c f is. k v c (fits_small (is_byte e) v f) is) a
        operand unary.Minus h k = expression_sim x MayCall calls e good (omega (arith, room)) n (λ y. C (Unary unary.Minus w y)) (in_unary x C cx unary.Minus w) r p ws h (λ v lt. k v v lt refl) a
        operand unary.Not h k = sim (omega (arith, room)) n (λ y. C (Unary unary.Not w y)) (in_unary x C cx unary.Not w) r p ws h (λ v c f is. k v c (fits_small (is_byte e) v f) is) a
        operand unary.Low h k = sim (omega (arith, room)) n (λ y. C (Unary unary.Low w y)) (in_unary x C cx unary.Low w) r p ws h (λ v c f is. k v c (fits_small (is_byte e) v f) is) a
        operand unary.High h k = expression_sim x MayCall calls e good (omega (arith, room)) n (λ y. C (Unary unary.High w y)) (in_unary x C cx unary.High w) r p ws h (λ v lt. k v v lt refl) a
        operand unary.Double h k = sim (omega (arith, room)) n (λ y. C (Unary unary.Double w y)) (in_unary x C cx unary.Double w) r p ws h (λ v c f is. k v c (fits_small (is_byte e) v f) is) a

    pub low_sim : (e : Expression) → IsExpression x.sizes x.procedures MayCall e → LowSim e
    low_sim (Constant k) good room n C cx r p ws has after a = low_folded_then n C cx r ws (nat_lt k 256) (Constant k) p k a refl (number_fits k good) has.0 after
    low_sim (Plain w y) good room n C cx r p ws has after a = lifted 2 (nodes (Plain w y) + 2) n (C (Plain w y)) (At r p a ws) (omega arith) (low_plain_then n C cx r ws p a w y good has.0 after)
    low_sim (Binary m l o w e b) good room n C cx r p ws has after a =
        low_known_then n C cx r ws x.procedures MayCall (Binary m l o w e b) good (folded (Binary m l o w e b)) refl
        (by_operator (direct_of o) (λ d. low_code x.procedures e ++ (beside (operand_of b) (low_code x.procedures b) ++ low_operation d o (operand_of b) ∷ [])) (expression_code x.procedures (Binary m l o w e b))) p has after
        (λ h k c. binary_sim m l o w e b good (low_sim e good.0) (low_sim b good.1) room n C cx r p ws h k c) a
    low_sim (Unary o w e) good room n C cx r p ws has after a =
        low_known_then n C cx r ws x.procedures MayCall (Unary o w e) good (folded (Unary o w e)) refl (operand_code o (low_code x.procedures e) (expression_code x.procedures e) ++ low_changing o ∷ []) p has after
        (λ h k c. unary_sim o w e good (low_sim e good) room n C cx r p ws h k c) a
    low_sim (Variable widths.Byte (Refer m l anchor offset ss)) good room n C cx r p ws has after a =
        let cs = subscripts_code x.procedures ss in
        let cr = low_reading anchor offset ss in
        lifted (subscripts_nodes ss + 2) (1 + subscripts_nodes ss + 2) n (C (Variable widths.Byte (Refer m l anchor offset ss))) (At r p a ws) (omega arith)
        (low_read_by m l anchor good.0 offset ss (leads_to (Some offset) ss) refl n C cx r p ws (cs ++ cr) has after a
        (λ h k. subscripts_sim x MayCall calls ss good.1 (omega (arith, room)) n (λ q. C (Variable widths.Byte q)) (in_variable x C cx widths.Byte) m l anchor offset r p ws (has_front (x.code r) p cs cr h)
        (λ further more is. low_read_final n C cx r ws m l anchor good.0 ss offset further more is (p + length cs) (has_back (x.code r) p cs cr h)
        (after_low_at false n C r (p + length (cs ++ cr)) (p + length cs + length cr) ws (omega (arith, length-append cs cr)) k)) a))
    low_sim (Variable widths.Word q) good room n C cx r p ws has after a = wholly (Variable widths.Word q) good room false refl n C cx r p ws has after a
    low_sim (Location q) good room n C cx r p ws has after a = wholly (Location q) good room false refl n C cx r p ws has after a
    low_sim (Embedded t e) good room n C cx r p ws has after a = embedded_sim t e good (low_sim e good.1) room (takes_byte t) refl n C cx r p ws has after a
    low_sim (Input widths.Byte e) good room n C cx r p ws has after a =
        lifted (nodes e + 2) (nodes (Input widths.Byte e) + 2) n (C (Input widths.Byte e)) (At r p a ws) (omega arith)
        (low_received (expression_code x.procedures e) e (operand_of e) (operand_is e) n C cx r p ws has after
        (λ q h k b. expression_sim x MayCall calls e good (omega (arith, room)) n (λ y. C (Input widths.Byte y)) (in_input x C cx widths.Byte) r q ws h k b) a)
    low_sim (Input widths.Word e) good room n C cx r p ws has after a = wholly (Input widths.Word e) good room false refl n C cx r p ws has after a
    low_sim (Call q es) good room n C cx r p ws has after a = wholly (Call q es) good room false refl n C cx r p ws has after a
    low_sim (Value v) good room n C cx r p ws has after a = absurd good
    low_sim (Passing q xs vs) good room n C cx r p ws has after a = absurd good
    low_sim (Running ss) good room n C cx r p ws has after a = absurd good

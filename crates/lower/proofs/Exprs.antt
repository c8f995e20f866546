-- The code of an expression does what its rest does.
use Rattle.std.proofs.Common.{◌≡◌, ℕ, suc, ◌+◌, ◌*◌, ◌%◌, ◌<◌, ◌≤◌, Bool, true, false, cond, List, [], ◌∷◌, ◌++◌, length, drop, Option, Some, None, refl, sym, ap, ◌∙◌, subst, arith, slice_get, length-append, mul_comm}
use Rattle.std.specs.Prelude.{nat_eq}
use Rattle.std.proofs.lemmas.Nat.{mul-mod_second}
use Rattle.std.proofs.lemmas.Bool.{eqb-true}
use Rattle.word86.specs.declared.width.Width.{Width}
use Rattle.word86.specs.declared.width.Width.TheVariants as widths
use Rattle.word86.specs.declared.operation.UnaryOperation.{UnaryOperation}
use Rattle.word86.specs.declared.operation.BinaryOperation.{BinaryOperation}
use Rattle.word86.specs.declared.operation.BinaryOperation.TheVariants as binary
use Rattle.word86.specs.declared.place.Place.{Place}
use Rattle.word86.specs.declared.place.Place.TheVariants as places
use Rattle.word86.specs.Access.{Read, Write, Where}
use Rattle.word86.specs.Action.{Silent, Touch, map_action}
use Rattle.word86.specs.Arithmetic.{low}
use Rattle.word86.specs.Operation.{unary_value, binary_value}
use Rattle.word86.specs.Place.{bytes, held}
use Rattle.plm_type.specs.Rest.{Anchor, InObject, OnScreen, Behind, There, Expression, Constant, Plain, Variable, Location, Unary, Binary, Embedded, Input, Call, Value, Passing, Running, Expressions, NoMore, More, Reference, Refer, Subscripts, NoSubscripts, Subscript, Target, ToVariable, Procedure, Rest}
use Rattle.plm_type.specs.Places.{placed}
use Rattle.plm_type.specs.Next.{and_value, values_of, operated, read_at, next_variable, next_location, address_of, next_reference}
use Rattle.icode.specs.declared.instruction.Instruction.{Instruction}
use Rattle.icode.specs.declared.instruction.Instruction.TheVariants as op
use Rattle.icode.specs.declared.code.Routine.{Routine}
use Rattle.icode.specs.declared.code.Routine.TheVariants as routine
use Rattle.icode.specs.declared.code.Word.{Word}
use Rattle.icode.specs.declared.code.Word.TheVariants.{Return}
use Rattle.icode.specs.declared.code.Word.TheVariants as words
use Rattle.icode.specs.Machine.{Context, At, run, loaded, stored, found, address, computed, with_value, value_in, dropped}
use Rattle.icode.specs.Machine as machine
use Rattle.lower.specs.Expressions.{are_giving, used, folded, unless_known, number_of, Operand, Number, Name, Computed, operand_of, place_of, beside, operation, anchor_place, moved, from_base, based, reading, locating}
use Rattle.lower.specs.Well.{Lies, AnchorLies, IsExpression}
use Rattle.lower.proofs.Setting.{Setting}
use Rattle.lower.proofs.Sim.{N, X, T, S, eased, then_, up, down, both, bad, touches}
use Rattle.lower.proofs.Holes.{IsHole, IsReferenceHole, IsTargetHole, write_to, in_right, in_variable, in_location, acts, HasAt, has_front, has_back}
use Rattle.lower.proofs.Memory.{IsFixed, found_plain, found_fixed, address_fixed}
use Rattle.lower.proofs.Values.{values_small, unary_small, binary_small}
use Rattle.lower.proofs.Nodes.{nodes}
use Rattle.lower.proofs.Folds.{folded_small, folds}

-- ---- operands

abbrev pub IsOperand : Expression → Operand → Type 0
IsOperand e (Number k) = folded e ≡ Some k
IsOperand e (Name read y) = (z : Where) × (e ≡ Plain read z) × (y ≡ place_of z)
IsOperand e Computed = Unit {0}

known_is : (e : Expression) (z : Option ℕ) → folded e ≡ z → IsOperand e (number_of z)
known_is e (Some k) h = h
known_is e None h = tt

pub operand_is : (e : Expression) → IsOperand e (operand_of e)
operand_is (Constant k) = refl
operand_is (Plain w z) = (z, refl, refl)
operand_is (Variable w r) = tt
operand_is (Location r) = tt
operand_is (Unary o w e) = known_is (Unary o w e) (folded (Unary o w e)) refl
operand_is (Binary m l o w a b) = known_is (Binary m l o w a b) (folded (Binary m l o w a b)) refl
operand_is (Embedded t e) = tt
operand_is (Input w e) = tt
operand_is (Call p es) = tt
operand_is (Value v) = tt
operand_is (Passing p xs vs) = tt
operand_is (Running ss) = tt

-- ---- arguments

abbrev pub of_values : List ℕ → Expressions
of_values [] = NoMore
of_values (v ∷ vs) = More (Value v) (of_values vs)

-- these values pushed, the first one first
abbrev pub pushed : List ℕ → List Word → List Word
pushed [] ws = ws
pushed (v ∷ vs) ws = pushed vs (words.Value v ∷ ws)

pub values_back : (vs : List ℕ) → values_of (of_values vs) ≡ Some vs
values_back [] = refl
values_back (v ∷ vs) = ap (λ o. and_value (Some v) o) (values_back vs)

pub get_pushed : (vs : List ℕ) (i : ℕ) (ws : List Word) → slice_get (pushed vs ws) (i + length vs) ≡ slice_get ws i
get_pushed [] i ws = ap (λ n. slice_get ws n) (omega arith)
get_pushed (v ∷ vs) i ws = let e : i + length (v ∷ vs) ≡ suc i + length vs = omega arith in ap (λ n. slice_get (pushed vs (words.Value v ∷ ws)) n) e ∙ get_pushed vs (suc i) (words.Value v ∷ ws)

pub drop_pushed : (vs : List ℕ) (i : ℕ) (ws : List Word) → drop (i + length vs) (pushed vs ws) ≡ drop i ws
drop_pushed [] i ws = ap (λ n. drop n ws) (omega arith)
drop_pushed (v ∷ vs) i ws = let e : i + length (v ∷ vs) ≡ suc i + length vs = omega arith in ap (λ n. drop n (pushed vs (words.Value v ∷ ws))) e ∙ drop_pushed vs (suc i) (words.Value v ∷ ws)

pub length_pushed : (vs : List ℕ) (ws : List Word) → length (pushed vs ws) ≡ length vs + length ws
length_pushed [] ws = omega arith
length_pushed (v ∷ vs) ws = omega (arith, length_pushed vs (words.Value v ∷ ws))

-- ---- subscripts

-- the accumulator holds these bytes after subscripts, over which an offset has moved on
abbrev pub Reached : Subscripts → ℕ → ℕ → ℕ → Type 0
Reached NoSubscripts offset further more = offset ≡ further
Reached (Subscript stride e ss) offset further more = (offset + more) % 65536 ≡ further % 65536

pub at_once : (offset further : ℕ) → offset ≡ further → (offset + 0) % 65536 ≡ further % 65536
at_once offset further e = omega (arith, e)

pub one_sum : (o p b : ℕ) → b % 65536 ≡ p % 65536 → (o + b) % 65536 ≡ ((o + p) % 65536) % 65536
one_sum o p b e = omega (arith, e)

pub two_sums : (o p q b c : ℕ) → b % 65536 ≡ p % 65536 → c % 65536 ≡ q % 65536 → (o + (b + c) % 65536) % 65536 ≡ (((o + p) % 65536 + q) % 65536) % 65536
two_sums o p q b c e f = omega (arith, e, f)

strided : (v stride : ℕ) → (v * (stride % 65536)) % 65536 % 65536 ≡ (stride * v) % 65536
strided v stride = let c : v * stride ≡ stride * v = mul_comm v stride in let e = mul-mod_second v stride 65536 in omega (arith, e, c)

by_one : (v stride : ℕ) → stride ≡ 1 → v % 65536 ≡ (stride * v) % 65536
by_one v stride e = let c : stride * v ≡ 1 * v = ap (λ n. n * v) e in omega (arith, c)

from_alone : (b offset further more : ℕ) → b < 65536 → offset ≡ further → offset ≡ 0 → b ≡ (b + further) % 65536
from_alone b offset further more lt e z = omega (arith, lt, e, z)

from_alone_on : (b offset further : ℕ) → offset ≡ further → (b + offset % 65536) % 65536 ≡ (b + further) % 65536
from_alone_on b offset further e = omega (arith, e)

from_both : (b offset further more : ℕ) → (offset + more) % 65536 ≡ further % 65536 → offset ≡ 0 → (more + b) % 65536 ≡ (b + further) % 65536
from_both b offset further more e z = omega (arith, e, z)

from_both_on : (b offset further more : ℕ) → (offset + more) % 65536 ≡ further % 65536 → ((more + b) % 65536 + offset % 65536) % 65536 ≡ (b + further) % 65536
from_both_on b offset further more e = omega (arith, e)

module _ (x : Setting) where
  -- what may follow an expression
  abbrev pub After : ℕ → (Expression → Rest) → Routine → ℕ → List Word → Type 0
  After n C r p ws = (v : ℕ) → v < 65536 → S x x.room n 2 (C (Value v)) (At r p v ws)

  -- What may follow a call, by whether what is called gives a value. If not, anything is in the accumulator, and what was called has
  -- come to its end, but not back.
  abbrev pub Left : (gives : Bool) → ℕ → (Expression → Rest) → Routine → ℕ → List Word → Type 0
  Left true n C r p ws = After n C r p ws
  Left false n C r p ws = (R : Rest) (i : Context) (a : ℕ) → N x R ≡ Silent (C (Value 0)) → X x i ≡ Silent (At r p a ws) → S x 1 n 1 R i

  -- a running body whose value goes where this call returns to
  abbrev pub ProcedureRuns : ℕ → Type 0
  ProcedureRuns q = (procedure : Procedure) → slice_get x.procedures q ≡ Some procedure → (n : ℕ) (C : Expression → Rest) → IsHole x C → (r : Routine) (p : ℕ) (ws : List Word)
      → Left (are_giving procedure.body) n C r p ws → (a : ℕ) → S x x.room n 2 (C (Running procedure.body)) (At (routine.Procedure q) 0 a (Return (record { routine = r; index = p }) ∷ ws))

  pub moved_to : (m n f : ℕ) (R : Rest) (r : Routine) (p q a : ℕ) (ws : List Word) → p ≡ q → S x m n f R (At r p a ws) → S x m n f R (At r q a ws)
  moved_to m n f R r p q a ws e h = subst (λ y. S x m n f R (At r y a ws)) e h

  pub after_at : (n : ℕ) (C : Expression → Rest) (r : Routine) (p q : ℕ) (ws : List Word) → p ≡ q → After n C r p ws → After n C r q ws
  after_at n C r p q ws e k v lt = moved_to x.room n 2 (C (Value v)) r p q v ws e (k v lt)

  pub left_at : (g : Bool) (n : ℕ) (C : Expression → Rest) (r : Routine) (p q : ℕ) (ws : List Word) → p ≡ q → Left g n C r p ws → Left g n C r q ws
  left_at g n C r p q ws e h = subst (λ y. Left g n C r y ws) e h

  pub has_at : (r : Routine) (p q : ℕ) (os : List Instruction) → p ≡ q → HasAt (x.code r) p os → HasAt (x.code r) q os
  has_at r p q os e h = subst (λ y. HasAt (x.code r) y os) e h

  pub rise_in : (m n f : ℕ) (R : Rest) (i : Context) → m ≤ x.room → f ≤ 2 → S x m n f R i → S x x.room n 2 R i
  rise_in m n f R i few le h = eased x m x.room n f 2 R i few le h

  pub rise : (n f : ℕ) (R : Rest) (i : Context) → f ≤ 2 → S x 2 n f R i → S x x.room n 2 R i
  rise n f R i le h = rise_in 2 n f R i (omega (arith, x.wide)) le h

  pub ended : (n : ℕ) (C : Expression → Rest) (r : Routine) (p : ℕ) (ws : List Word) → After n C r p ws → (v : ℕ) → v < 65536 → T x n 2 (C (Value v)) (At r p v ws)
  ended n C r p ws k v lt = then_ x x.room n 2 2 (C (Value v)) (At r p v ws) (omega arith) (omega arith) (k v lt)

  pub soon_in : (m n f g : ℕ) (R : Rest) (i : Context) → m ≤ x.room → f ≤ g → S x m n f R i → T x n g R i
  soon_in m n f g R i few le h = then_ x m n f g R i (omega (arith, few)) le h

  pub soon : (n f g : ℕ) (R : Rest) (i : Context) → f ≤ g → S x 2 n f R i → T x n g R i
  soon n f g R i le h = soon_in 2 n f g R i (omega (arith, x.wide)) le h

  -- a value that is used, after a call
  pub used_then : (g : Bool) (n : ℕ) (C : Expression → Rest) (r : Routine) (p : ℕ) (ws : List Word) → HasAt (x.code r) p (used g) → After n C r (p + length (used g)) ws → Left g n C r p ws
  used_then true n C r p ws has after = after_at n C r (p + 0) p ws (omega arith) after
  used_then false n C r p ws has after = λ R i a u e.
      down x 1 n 0 R i (At r p a ws) e
      (soon n 0 0 R (At r p a ws) (omega arith) (both x 1 n 0 R (C (Value 0)) (At r p a ws) (At r (p + 1) 0 ws) u (acts x r p a ws (op.Constant 0) has.0) (ended n C r (p + 1) ws after 0 (omega arith))))

  -- the accumulator is pushed
  pub push_then : (m n f : ℕ) (R : Rest) (r : Routine) (p a : ℕ) (ws : List Word) → slice_get (x.code r) p ≡ Some op.Push → T x n f R (At r (p + 1) a (words.Value a ∷ ws)) → S x m n (suc f) R (At r p a ws)
  push_then m n f R r p a ws h k = down x m n f R (At r p a ws) (At r (p + 1) a (words.Value a ∷ ws)) (acts x r p a ws op.Push h) k

  -- ---- operators

  module _ (n : ℕ) (C : Expression → Rest) (cx : IsHole x C) (r : Routine) (ws : List Word) where
    -- a constant, after the silent steps that lead to it
    pub folded_then : (e : Expression) (p k a : ℕ) → folded e ≡ Some k → k < 65536 → slice_get (x.code r) p ≡ Some (op.Constant k) → After n C r (p + 1) ws → S x (nodes e + 2) n 0 (C e) (At r p a ws)
    folded_then e p k a is lt h after =
        folds x e k is 2 n 0 (omega arith) C cx (At r p a ws) (λ R u. both x 1 n 0 R (C (Value k)) (At r p a ws) (At r (p + 1) k ws) u (acts x r p a ws (op.Constant k) h) (ended n C r (p + 1) ws after k lt))

    -- what is known of an expression stands in place of its code
    pub known_then : (procedures : List Procedure) (MayCall : ℕ → Type 0) (e : Expression) → IsExpression x.sizes procedures MayCall e → (z : Option ℕ) → folded e ≡ z → (code : List Instruction) (p : ℕ) → HasAt (x.code r) p (unless_known z code) → After n C r (p + length (unless_known z code)) ws
        → (HasAt (x.code r) p code → After n C r (p + length code) ws → (a : ℕ) → S x (nodes e + 2) n 0 (C e) (At r p a ws)) → (a : ℕ) → S x (nodes e + 2) n 0 (C e) (At r p a ws)
    known_then procedures MayCall e good (Some k) is code p has after sim a = folded_then e p k a is (folded_small x.sizes procedures MayCall e good k is) has.0 after
    known_then procedures MayCall e good None is code p has after sim a = sim has after a

    pub plain_then : (p a : ℕ) (w : Width) (y : Where) → Lies x.sizes w y → slice_get (x.code r) p ≡ Some (op.Load w (place_of y)) → After n C r (p + 1) ws → S x 2 n 0 (C (Plain w y)) (At r p a ws)
    plain_then p a w y lies h after =
        touches x 2 n 0 (Read w y) (C (Plain w y)) (λ v. C (Value v)) (At r p a ws) (λ v. At r (p + 1) v ws) (cx (Plain w y) refl)
        (acts x r p a ws (op.Load w (place_of y)) h ∙ ap (λ o. loaded w o (λ v. At r (p + 1) v ws)) (found_plain x w y lies))
        (λ v lt. ended n C r (p + 1) ws after v (values_small w v lt))

    pub unary_then : (p v : ℕ) (o : UnaryOperation) (w : Width) → v < 65536 → slice_get (x.code r) p ≡ Some (op.Unary o w) → After n C r (p + 1) ws → S x 2 n 0 (C (Unary o w (Value v))) (At r p v ws)
    unary_then p v o w lt h after =
        both x 1 n 0 (C (Unary o w (Value v))) (C (Value (unary_value o w v))) (At r p v ws) (At r (p + 1) (unary_value o w v) ws) (cx (Unary o w (Value v)) refl) (acts x r p v ws (op.Unary o w) h) (ended n C r (p + 1) ws after (unary_value o w v) (unary_small o w v lt))

    binary_is : (m l : ℕ) (o : BinaryOperation) (w : Width) (u v : ℕ) (z : Option ℕ) → binary_value o w u v ≡ z → N x (C (Binary m l o w (Value u) (Value v))) ≡ map_action C (operated m l z)
    binary_is m l o w u v z e = cx (Binary m l o w (Value u) (Value v)) refl ∙ ap (λ y. map_action C (operated m l y)) e

    -- both operands have their values, and the instruction computes
    computes : (m l : ℕ) (o : BinaryOperation) (w : Width) (u v : ℕ) (i : Context) (p : ℕ) → u < 65536 → v < 65536 → X x i ≡ machine.operated (binary_value o w u v) (λ y. At r p y ws) → After n C r p ws
        → (z : Option ℕ) → binary_value o w u v ≡ z → S x 1 n 0 (C (Binary m l o w (Value u) (Value v))) i
    computes m l o w u v i p us vs h after None e = bad x 1 n 0 (C (Binary m l o w (Value u) (Value v))) i m l (binary_is m l o w u v None e)
    computes m l o w u v i p us vs h after (Some z) e =
        both x 0 n 0 (C (Binary m l o w (Value u) (Value v))) (C (Value z)) i (At r p z ws) (binary_is m l o w u v (Some z) e) (h ∙ ap (λ y. machine.operated y (λ y. At r p y ws)) e) (ended n C r p ws after z (binary_small o w u v z us vs e))

    constant_operand : (m l : ℕ) (o : BinaryOperation) (w : Width) (u k p : ℕ) → u < 65536 → (b : Expression) → folded b ≡ Some k → k < 65536 → slice_get (x.code r) p ≡ Some (op.BinaryConstant o w k) → After n C r (p + 1) ws → S x (nodes b + 2) n 0 (C (Binary m l o w (Value u) b)) (At r p u ws)
    constant_operand m l o w u k p us b is ks h after =
        folds x b k is 2 n 0 (omega arith) (λ y. C (Binary m l o w (Value u) y)) (in_right x C cx m l o w u) (At r p u ws)
        (λ R e. up x 1 n 0 (omega arith) R (C (Binary m l o w (Value u) (Value k))) (At r p u ws) e
        (computes m l o w u k (At r p u ws) (p + 1) us ks (acts x r p u ws (op.BinaryConstant o w k) h) after (binary_value o w u k) refl))

    read_operand : (m l : ℕ) (o : BinaryOperation) (w : Width) (u v p : ℕ) → u < 65536 → v < 65536 → After n C r p ws → (z : Option ℕ) → binary_value o w u v ≡ z → T x n 2 (C (Binary m l o w (Value u) (Value v))) (computed z r p ws)
    read_operand m l o w u v p us vs after None e = soon n 0 2 (C (Binary m l o w (Value u) (Value v))) (computed None r p ws) (omega arith) (bad x 2 n 0 (C (Binary m l o w (Value u) (Value v))) (computed None r p ws) m l (binary_is m l o w u v None e))
    read_operand m l o w u v p us vs after (Some z) e =
        then_ x (suc x.room) n 2 2 (C (Binary m l o w (Value u) (Value v))) (At r p z ws) (omega arith) (omega arith)
        (up x x.room n 2 (omega arith) (C (Binary m l o w (Value u) (Value v))) (C (Value z)) (At r p z ws) (binary_is m l o w u v (Some z) e) (after z (binary_small o w u v z us vs e)))

    plain_operand : (m l : ℕ) (o : BinaryOperation) (w read : Width) (y : Where) (u p : ℕ) → u < 65536 → Lies x.sizes read y → slice_get (x.code r) p ≡ Some (op.BinaryPlain o w read (place_of y)) → After n C r (p + 1) ws → S x 2 n 0 (C (Binary m l o w (Value u) (Plain read y))) (At r p u ws)
    plain_operand m l o w read y u p us lies h after =
        touches x 2 n 0 (Read read y) (C (Binary m l o w (Value u) (Plain read y))) (λ v. C (Binary m l o w (Value u) (Value v))) (At r p u ws) (λ v. computed (binary_value o w u v) r (p + 1) ws)
        (in_right x C cx m l o w u (Plain read y) refl)
        (acts x r p u ws (op.BinaryPlain o w read (place_of y)) h ∙ ap (λ z. loaded read z (λ v. computed (binary_value o w u v) r (p + 1) ws)) (found_plain x read y lies))
        (λ v lt. read_operand m l o w u v (p + 1) us (values_small read v lt) after (binary_value o w u v) refl)

  -- the right operand from what its code does, and the operator
  pub right_then : (procedures : List Procedure) (MayCall : ℕ → Type 0) (b : Expression) → IsExpression x.sizes procedures MayCall b → nodes b + 2 ≤ x.room → (o : Operand) → IsOperand b o → (code : List Instruction) → (n : ℕ) (C : Expression → Rest) → IsHole x C → (m l : ℕ) (q : BinaryOperation) (w : Width) (u : ℕ) → u < 65536 → (r : Routine) (p : ℕ) (ws : List Word)
      → HasAt (x.code r) p (beside o code ++ operation q w o ∷ [])
      → ((p : ℕ) → HasAt (x.code r) p code → After n (λ e. C (Binary m l q w (Value u) e)) r (p + length code) (words.Value u ∷ ws) → S x (nodes b + 2) n 0 (C (Binary m l q w (Value u) b)) (At r p u (words.Value u ∷ ws)))
      → After n C r (p + length (beside o code ++ operation q w o ∷ [])) ws → S x (nodes b + 2) n 1 (C (Binary m l q w (Value u) b)) (At r p u ws)
  right_then procedures MayCall b good fits (Number k) is code n C cx m l q w u us r p ws has sim after =
      eased x (nodes b + 2) (nodes b + 2) n 0 1 (C (Binary m l q w (Value u) b)) (At r p u ws) (omega arith) (omega arith)
      (constant_operand n C cx r ws m l q w u k p us b is (folded_small x.sizes procedures MayCall b good k is) has.0 after)
  right_then procedures MayCall b good fits (Name read y) is code n C cx m l q w u us r p ws has sim after =
      let lies : Lies x.sizes read is.0 = subst (λ e. IsExpression x.sizes procedures MayCall e) is.1 good in
      eased x 2 (nodes b + 2) n 0 1 (C (Binary m l q w (Value u) b)) (At r p u ws) (omega arith) (omega arith)
      (subst (λ e. S x 2 n 0 (C (Binary m l q w (Value u) e)) (At r p u ws)) (sym is.1) (plain_operand n C cx r ws m l q w read is.0 u p us lies (subst (λ z. slice_get (x.code r) p ≡ Some (op.BinaryPlain q w read z)) is.2 has.0) after))
  right_then procedures MayCall b good fits Computed is code n C cx m l q w u us r p ws has sim after =
      let h = has_back (x.code r) (p + 1) code (op.Binary q w ∷ []) has.1 in
      let at : p + length (op.Push ∷ (code ++ op.Binary q w ∷ [])) ≡ p + 1 + length code + 1 = omega (arith, length-append code (op.Binary q w ∷ [])) in
      push_then (nodes b + 2) n 0 (C (Binary m l q w (Value u) b)) r p u ws has.0
      (soon_in (nodes b + 2) n 0 0 (C (Binary m l q w (Value u) b)) (At r (p + 1) u (words.Value u ∷ ws)) fits (omega arith)
      (sim (p + 1) (has_front (x.code r) (p + 1) code (op.Binary q w ∷ []) has.1)
      (λ v vs. eased x 1 x.room n 0 2 (C (Binary m l q w (Value u) (Value v))) (At r (p + 1 + length code) v (words.Value u ∷ ws)) (omega (arith, x.wide)) (omega arith)
      (computes n C cx r ws m l q w u v (At r (p + 1 + length code) v (words.Value u ∷ ws)) (p + 1 + length code + 1) us vs (acts x r (p + 1 + length code) v (words.Value u ∷ ws) (op.Binary q w) h.0)
      (after_at n C r (p + length (op.Push ∷ (code ++ op.Binary q w ∷ []))) (p + 1 + length code + 1) ws at after) (binary_value q w u v) refl))))

  -- ---- references

  -- the accumulator counts elements, and then bytes
  pub scaled_then : (n f stride v : ℕ) → f ≤ 1 → (b : Bool) → nat_eq stride 1 ≡ b → (R : Rest) (r : Routine) (p : ℕ) (ws : List Word) → HasAt (x.code r) p (cond b [] (op.BinaryConstant binary.Multiply widths.Word (stride % 65536) ∷ []))
      → ((more : ℕ) → more % 65536 ≡ (stride * v) % 65536 → S x 2 n f R (At r (p + length (cond b [] (op.BinaryConstant binary.Multiply widths.Word (stride % 65536) ∷ []))) more ws)) → S x 2 n (suc f) R (At r p v ws)
  scaled_then n f stride v le true e R r p ws has k = eased x 2 2 n f (suc f) R (At r p v ws) (omega arith) (omega arith) (moved_to 2 n f R r (p + 0) p v ws (omega arith) (k v (by_one v stride (eqb-true stride 1 e))))
  scaled_then n f stride v le false e R r p ws has k =
      let z = (v * (stride % 65536)) % 65536 in
      down x 2 n f R (At r p v ws) (At r (p + 1) z ws) (acts x r p v ws (op.BinaryConstant binary.Multiply widths.Word (stride % 65536)) has.0) (soon n f f R (At r (p + 1) z ws) (omega arith) (k z (strided v stride)))

  -- a read at a place, or a Bad step
  read_then : (n f : ℕ) (w : Width) (m l : ℕ) (anchor : Anchor) (offset : ℕ) (ss : Subscripts) (o d : Option Where) → ((y : Where) → o ≡ Some y → d ≡ Some y) → (R : Rest) (C : Expression → Rest) → N x R ≡ map_action C (read_at w (Refer m l anchor offset ss) o)
      → (i : Context) (r : Routine) (p : ℕ) (ws : List Word) → X x i ≡ loaded w d (λ v. At r p v ws) → After n C r p ws → (g : ℕ) → S x g n f R i
  read_then n f w m l anchor offset ss None d same R C u i r p ws e after g = bad x g n f R i m l u
  read_then n f w m l anchor offset ss (Some y) d same R C u i r p ws e after g =
      touches x g n f (Read w y) R (λ v. C (Value v)) i (λ v. At r p v ws) u (e ∙ ap (λ z. loaded w z (λ v. At r p v ws)) (same y refl)) (λ v lt. ended n C r p ws after v (values_small w v lt))

  -- a write at a place, or a Bad step; what is written of a value is what is written of the accumulator
  write_then : (n f : ℕ) (w : Width) (m l : ℕ) (anchor : Anchor) (offset : ℕ) (ss : Subscripts) (v u : ℕ) → low w u ≡ low w v → (o d : Option Where) → ((y : Where) → o ≡ Some y → d ≡ Some y) → (R done : Rest) → N x R ≡ write_to w (Refer m l anchor offset ss) o v done
      → (i : Context) (r : Routine) (p : ℕ) (ws : List Word) → X x i ≡ stored w d u (At r p u ws) → S x x.room n 2 done (At r p u ws) → (g : ℕ) → S x g n f R i
  write_then n f w m l anchor offset ss v u gets None d same R done is i r p ws e after g = bad x g n f R i m l is
  write_then n f w m l anchor offset ss v u gets (Some y) d same R done is i r p ws e after g =
      touches x g n f (Write w y (low w v)) R (λ z. done) i (λ z. At r p u ws) is (e ∙ ap (λ z. stored w z u (At r p u ws)) (same y refl) ∙ ap (λ z. Touch (Write w y z) (λ _. At r p u ws)) gets)
      (λ z lt. then_ x x.room n 2 2 done (At r p u ws) (omega arith) (omega arith) after)

  -- the base's address, further on by an offset
  pub moved_then : (n offset b z : ℕ) (c : Bool) → nat_eq offset 0 ≡ c → (R : Rest) (r : Routine) (p : ℕ) (ws : List Word) → (offset ≡ 0 → b ≡ z) → (b + offset % 65536) % 65536 ≡ z → HasAt (x.code r) p (cond c [] (op.BinaryConstant binary.Add widths.Word (offset % 65536) ∷ []))
      → S x (suc x.room) n 1 R (At r (p + length (cond c [] (op.BinaryConstant binary.Add widths.Word (offset % 65536) ∷ []))) z ws) → T x n 2 R (At r p b ws)
  moved_then n offset b z true e R r p ws still on has k =
      let h : S x (suc x.room) n 1 R (At r p b ws) = subst (λ y. S x (suc x.room) n 1 R (At r p y ws)) (sym (still (eqb-true offset 0 e))) (moved_to (suc x.room) n 1 R r (p + 0) p z ws (omega arith) k) in
      then_ x (suc x.room) n 1 2 R (At r p b ws) (omega arith) (omega arith) h
  moved_then n offset b z false e R r p ws still on has k =
      soon n 2 2 R (At r p b ws) (omega arith)
      (down x 2 n 1 R (At r p b ws) (At r (p + 1) z ws) (acts x r p b ws (op.BinaryConstant binary.Add widths.Word (offset % 65536)) has.0 ∙ ap (λ y. Silent (At r (p + 1) y ws)) on)
      (then_ x (suc x.room) n 1 1 R (At r (p + 1) z ws) (omega arith) (omega arith) k))

  -- the same, where the address is taken as a value
  located_then : (n offset b z : ℕ) (c : Bool) → nat_eq offset 0 ≡ c → (R Q : Rest) → N x R ≡ Silent Q → (r : Routine) (p : ℕ) (ws : List Word) → (offset ≡ 0 → b ≡ z) → (b + offset % 65536) % 65536 ≡ z → HasAt (x.code r) p (cond c [] (op.BinaryConstant binary.Add widths.Word (offset % 65536) ∷ []))
      → S x x.room n 2 Q (At r (p + length (cond c [] (op.BinaryConstant binary.Add widths.Word (offset % 65536) ∷ []))) z ws) → T x n 2 R (At r p b ws)
  located_then n offset b z true e R Q u r p ws still on has k =
      let h : S x x.room n 2 Q (At r p b ws) = subst (λ y. S x x.room n 2 Q (At r p y ws)) (sym (still (eqb-true offset 0 e))) (moved_to x.room n 2 Q r (p + 0) p z ws (omega arith) k) in
      then_ x (suc x.room) n 2 2 R (At r p b ws) (omega arith) (omega arith) (up x x.room n 2 (omega arith) R Q (At r p b ws) u h)
  located_then n offset b z false e R Q u r p ws still on has k =
      soon n 2 2 R (At r p b ws) (omega arith)
      (both x 1 n 2 R Q (At r p b ws) (At r (p + 1) z ws) u (acts x r p b ws (op.BinaryConstant binary.Add widths.Word (offset % 65536)) has.0 ∙ ap (λ y. Silent (At r (p + 1) y ws)) on)
      (then_ x x.room n 2 2 Q (At r (p + 1) z ws) (omega arith) (omega arith) k))

  -- the base is read, and what is in the accumulator then lacks the offset alone
  pub behind_then : (n : ℕ) (C : Reference → Rest) → IsReferenceHole x C → (m l : ℕ) (base : Where) → Lies x.sizes widths.Word base → (ss : Subscripts) (offset further more : ℕ) → Reached ss offset further more → (r : Routine) (p : ℕ) (ws : List Word) → slice_get (x.code r) p ≡ Some (from_base base ss)
      → ((b c : ℕ) → (offset ≡ 0 → c ≡ (b + further) % 65536) → (c + offset % 65536) % 65536 ≡ (b + further) % 65536 → T x n 2 (C (Refer m l (There b) further NoSubscripts)) (At r (p + 1) c ws)) → S x 2 n 0 (C (Refer m l (Behind base) further NoSubscripts)) (At r p more ws)
  behind_then n C cx m l base lies NoSubscripts offset further more is r p ws has k =
      touches x 2 n 0 (Read widths.Word base) (C (Refer m l (Behind base) further NoSubscripts)) (λ b. C (Refer m l (There b) further NoSubscripts)) (At r p more ws) (λ b. At r (p + 1) b ws)
      (cx (Refer m l (Behind base) further NoSubscripts) refl)
      (acts x r p more ws (op.Load widths.Word (place_of base)) has ∙ ap (λ o. loaded widths.Word o (λ b. At r (p + 1) b ws)) (found_plain x widths.Word base lies))
      (λ b lt. k b b (λ z. from_alone b offset further more lt is z) (from_alone_on b offset further is))
  behind_then n C cx m l base lies (Subscript stride e ss) offset further more is r p ws has k =
      touches x 2 n 0 (Read widths.Word base) (C (Refer m l (Behind base) further NoSubscripts)) (λ b. C (Refer m l (There b) further NoSubscripts)) (At r p more ws) (λ b. At r (p + 1) ((more + b) % 65536) ws)
      (cx (Refer m l (Behind base) further NoSubscripts) refl)
      (acts x r p more ws (op.BinaryPlain binary.Add widths.Word widths.Word (place_of base)) has ∙ ap (λ o. loaded widths.Word o (λ b. At r (p + 1) ((more + b) % 65536) ws)) (found_plain x widths.Word base lies))
      (λ b lt. k b ((more + b) % 65536) (λ z. from_both b offset further more is z) (from_both_on b offset further more is))

  -- ---- what comes after the subscripts of a reference

  module _ (n : ℕ) (C : Expression → Rest) (cx : IsHole x C) (r : Routine) (ws : List Word) (m l : ℕ) where
    pub variable_is : (w : Width) (anchor : Anchor) (further a : ℕ) → address_of x.offsets x.sizes x.procedures (Refer m l anchor further NoSubscripts) ≡ Some a
        → N x (C (Variable w (Refer m l anchor further NoSubscripts))) ≡ map_action C (read_at w (Refer m l anchor further NoSubscripts) (placed x.offsets x.sizes w anchor a))
    variable_is w anchor further a e =
        let q = Refer m l anchor further NoSubscripts in
        cx (Variable w q) refl ∙ ap (λ y. map_action C (next_variable x.offsets x.sizes x.procedures w q y (next_reference x.offsets x.sizes x.procedures q))) e

    location_is : (anchor : Anchor) (further a : ℕ) → address_of x.offsets x.sizes x.procedures (Refer m l anchor further NoSubscripts) ≡ Some a → N x (C (Location (Refer m l anchor further NoSubscripts))) ≡ Silent (C (Value a))
    location_is anchor further a e =
        let q = Refer m l anchor further NoSubscripts in
        cx (Location q) refl ∙ ap (λ y. map_action C (next_location x.offsets x.sizes x.procedures y (next_reference x.offsets x.sizes x.procedures q))) e

    fixed_read : (w : Width) (anchor : Anchor) → AnchorLies x.sizes anchor → IsFixed anchor → (offset further more : ℕ) → (offset + more) % 65536 ≡ further % 65536 → (i : Context) (p : ℕ)
        → X x i ≡ loaded w (found x.offsets x.sizes w (anchor_place anchor offset) (address x.offsets x.sizes (anchor_place anchor offset) more)) (λ v. At r p v ws) → After n C r p ws → S x 2 n 0 (C (Variable w (Refer m l anchor further NoSubscripts))) i
    fixed_read w anchor lies fixed offset further more e i p h after =
        let a = address x.offsets x.sizes (anchor_place anchor offset) more in
        read_then n 0 w m l anchor further NoSubscripts (placed x.offsets x.sizes w anchor a) (found x.offsets x.sizes w (anchor_place anchor offset) a) (λ y. found_fixed x w anchor lies fixed offset a y)
        (C (Variable w (Refer m l anchor further NoSubscripts))) C (variable_is w anchor further a (address_fixed x m l anchor fixed offset more further e)) i r p ws h after 2

    pub read_final : (w : Width) (anchor : Anchor) → AnchorLies x.sizes anchor → (ss : Subscripts) (offset further more : ℕ) → Reached ss offset further more → (p : ℕ) → HasAt (x.code r) p (reading w anchor offset ss) → After n C r (p + length (reading w anchor offset ss)) ws
        → S x 2 n 0 (C (Variable w (Refer m l anchor further NoSubscripts))) (At r p more ws)
    read_final w (InObject k start size) lies NoSubscripts offset further more is p has after =
        fixed_read w (InObject k start size) lies tt offset further 0 (at_once offset further is) (At r p more ws) (p + 1) (acts x r p more ws (op.Load w (anchor_place (InObject k start size) offset)) has.0) after
    read_final w (InObject k start size) lies (Subscript stride e ss) offset further more is p has after =
        fixed_read w (InObject k start size) lies tt offset further more is (At r p more ws) (p + 1) (acts x r p more ws (op.LoadAt w (anchor_place (InObject k start size) offset)) has.0) after
    read_final w (OnScreen page start size) lies NoSubscripts offset further more is p has after =
        fixed_read w (OnScreen page start size) lies tt offset further 0 (at_once offset further is) (At r p more ws) (p + 1) (acts x r p more ws (op.Load w (anchor_place (OnScreen page start size) offset)) has.0) after
    read_final w (OnScreen page start size) lies (Subscript stride e ss) offset further more is p has after =
        fixed_read w (OnScreen page start size) lies tt offset further more is (At r p more ws) (p + 1) (acts x r p more ws (op.LoadAt w (anchor_place (OnScreen page start size) offset)) has.0) after
    read_final w (Behind base) lies ss offset further more is p has after =
        let cb = based base offset ss in
        let h = has_back (x.code r) p cb (op.LoadThere w ∷ []) has in
        let pm = p + 1 + length (moved offset) in
        let at : p + length cb ≡ pm = omega arith in
        behind_then n (λ q. C (Variable w q)) (in_variable x C cx w) m l base lies ss offset further more is r p ws has.0
        (λ b c still on. moved_then n offset c ((b + further) % 65536) (nat_eq offset 0) refl (C (Variable w (Refer m l (There b) further NoSubscripts))) r (p + 1) ws still on (has_front (x.code r) (p + 1) (moved offset) (op.LoadThere w ∷ []) has.1)
        (read_then n 1 w m l (There b) further NoSubscripts (held 0 x.offsets x.sizes ((b + further) % 65536) (bytes w)) (held 0 x.offsets x.sizes ((b + further) % 65536) (bytes w)) (λ y e. e)
        (C (Variable w (Refer m l (There b) further NoSubscripts))) C (variable_is w (There b) further ((b + further) % 65536) refl) (At r pm ((b + further) % 65536) ws) r (pm + 1) ws
        (acts x r pm ((b + further) % 65536) ws (op.LoadThere w) (has_at r (p + length cb) pm (op.LoadThere w ∷ []) at h).0)
        (after_at n C r (p + length (cb ++ op.LoadThere w ∷ [])) (pm + 1) ws (omega (arith, length-append cb (op.LoadThere w ∷ []))) after) (suc x.room)))
    read_final w (There b) lies ss offset further more is p has after = absurd lies

    address_small : (y : Place) (more : ℕ) → address x.offsets x.sizes y more < 65536
    address_small (places.Ram k i) more = omega arith
    address_small (places.Screen page i) more = omega arith

    fixed_located : (anchor : Anchor) → IsFixed anchor → (offset further more : ℕ) → (offset + more) % 65536 ≡ further % 65536 → (i : Context) (p : ℕ)
        → X x i ≡ Silent (At r p (address x.offsets x.sizes (anchor_place anchor offset) more) ws) → After n C r p ws → S x 2 n 0 (C (Location (Refer m l anchor further NoSubscripts))) i
    fixed_located anchor fixed offset further more e i p h after =
        let a = address x.offsets x.sizes (anchor_place anchor offset) more in
        both x 1 n 0 (C (Location (Refer m l anchor further NoSubscripts))) (C (Value a)) i (At r p a ws) (location_is anchor further a (address_fixed x m l anchor fixed offset more further e)) h (ended n C r p ws after a (address_small (anchor_place anchor offset) more))

    pub locate_final : (anchor : Anchor) → AnchorLies x.sizes anchor → (ss : Subscripts) (offset further more : ℕ) → Reached ss offset further more → (p : ℕ) → HasAt (x.code r) p (locating anchor offset ss) → After n C r (p + length (locating anchor offset ss)) ws
        → S x 2 n 0 (C (Location (Refer m l anchor further NoSubscripts))) (At r p more ws)
    locate_final (InObject k start size) lies NoSubscripts offset further more is p has after =
        fixed_located (InObject k start size) tt offset further 0 (at_once offset further is) (At r p more ws) (p + 1) (acts x r p more ws (op.Locate (anchor_place (InObject k start size) offset)) has.0) after
    locate_final (InObject k start size) lies (Subscript stride e ss) offset further more is p has after =
        fixed_located (InObject k start size) tt offset further more is (At r p more ws) (p + 1) (acts x r p more ws (op.LocateAt (anchor_place (InObject k start size) offset)) has.0) after
    locate_final (OnScreen page start size) lies NoSubscripts offset further more is p has after =
        fixed_located (OnScreen page start size) tt offset further 0 (at_once offset further is) (At r p more ws) (p + 1) (acts x r p more ws (op.Locate (anchor_place (OnScreen page start size) offset)) has.0) after
    locate_final (OnScreen page start size) lies (Subscript stride e ss) offset further more is p has after =
        fixed_located (OnScreen page start size) tt offset further more is (At r p more ws) (p + 1) (acts x r p more ws (op.LocateAt (anchor_place (OnScreen page start size) offset)) has.0) after
    locate_final (Behind base) lies ss offset further more is p has after =
        behind_then n (λ q. C (Location q)) (in_location x C cx) m l base lies ss offset further more is r p ws has.0
        (λ b c still on. located_then n offset c ((b + further) % 65536) (nat_eq offset 0) refl (C (Location (Refer m l (There b) further NoSubscripts))) (C (Value ((b + further) % 65536))) (location_is (There b) further ((b + further) % 65536) refl) r (p + 1) ws still on has.1
        (moved_to x.room n 2 (C (Value ((b + further) % 65536))) r (p + length (based base offset ss)) (p + 1 + length (moved offset)) ((b + further) % 65536) ws (omega arith) (after ((b + further) % 65536) (omega arith))))
    locate_final (There b) lies ss offset further more is p has after = absurd lies

  -- ---- what comes after the subscripts of a target

  module _ (n v u : ℕ) (C : Target → Rest) (done : Rest) (tx : IsTargetHole x v C done) (r : Routine) (ws : List Word) (m l : ℕ) where
    pub fixed_written : (w : Width) → low w u ≡ low w v → (anchor : Anchor) → AnchorLies x.sizes anchor → IsFixed anchor → (offset further more : ℕ) → (offset + more) % 65536 ≡ further % 65536 → (i : Context) (p : ℕ)
        → X x i ≡ stored w (found x.offsets x.sizes w (anchor_place anchor offset) (address x.offsets x.sizes (anchor_place anchor offset) more)) u (At r p u ws) → S x x.room n 2 done (At r p u ws)
        → S x 2 n 0 (C (ToVariable w (Refer m l anchor further NoSubscripts))) i
    fixed_written w gets anchor lies fixed offset further more e i p h after =
        let a = address x.offsets x.sizes (anchor_place anchor offset) more in
        let q = Refer m l anchor further NoSubscripts in
        write_then n 0 w m l anchor further NoSubscripts v u gets (placed x.offsets x.sizes w anchor a) (found x.offsets x.sizes w (anchor_place anchor offset) a) (λ y. found_fixed x w anchor lies fixed offset a y)
        (C (ToVariable w q)) done (tx.written w q a (address_fixed x m l anchor fixed offset more further e)) i r p ws h after 2

    pub behind_written : (w : Width) → low w u ≡ low w v → (base : Where) → Lies x.sizes widths.Word base → (ss : Subscripts) (offset further more : ℕ) → Reached ss offset further more → (p : ℕ) → HasAt (x.code r) p (based base offset ss ++ op.StoreThere w ∷ [])
        → S x x.room n 2 done (At r (p + length (based base offset ss ++ op.StoreThere w ∷ [])) u ws) → S x 2 n 0 (C (ToVariable w (Refer m l (Behind base) further NoSubscripts))) (At r p more (words.Value u ∷ ws))
    behind_written w gets base lies ss offset further more is p has after =
        let cb = based base offset ss in
        let st = words.Value u ∷ ws in
        let h = has_back (x.code r) p cb (op.StoreThere w ∷ []) has in
        let pm = p + 1 + length (moved offset) in
        let at : p + length cb ≡ pm = omega arith in
        behind_then n (λ q. C (ToVariable w q)) (tx.part w) m l base lies ss offset further more is r p st has.0
        (λ b c still on. moved_then n offset c ((b + further) % 65536) (nat_eq offset 0) refl (C (ToVariable w (Refer m l (There b) further NoSubscripts))) r (p + 1) st still on (has_front (x.code r) (p + 1) (moved offset) (op.StoreThere w ∷ []) has.1)
        (write_then n 1 w m l (There b) further NoSubscripts v u gets (held 0 x.offsets x.sizes ((b + further) % 65536) (bytes w)) (held 0 x.offsets x.sizes ((b + further) % 65536) (bytes w)) (λ y e. e)
        (C (ToVariable w (Refer m l (There b) further NoSubscripts))) done (tx.written w (Refer m l (There b) further NoSubscripts) ((b + further) % 65536) refl) (At r pm ((b + further) % 65536) st) r (pm + 1) ws
        (acts x r pm ((b + further) % 65536) st (op.StoreThere w) (has_at r (p + length cb) pm (op.StoreThere w ∷ []) at h).0)
        (moved_to x.room n 2 done r (p + length (cb ++ op.StoreThere w ∷ [])) (pm + 1) u ws (omega (arith, length-append cb (op.StoreThere w ∷ []))) after) (suc x.room)))

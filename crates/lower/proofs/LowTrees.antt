-- The code of operators of one precedence of which the low byte is wanted.
use Rattle.std.proofs.Common.{◌≡◌, ℕ, zero, suc, ◌+◌, ◌≤◌, Bool, true, List, [], ◌∷◌, ◌++◌, length, take, drop, Option, Some, None, refl, ap, sym, ◌∙◌, append_assoc, append-nil, arith, subst}
use Rattle.std.proofs.Math.Bool.{and_assoc}
use Rattle.std.specs.Prelude.{◌&&◌}
use Rattle.std.proofs.lemmas.Option.{none-some, same_Some}
use Rattle.word86.specs.declared.width.Width.{Width}
use Rattle.word86.specs.declared.operation.UnaryOperation.{UnaryOperation}
use Rattle.word86.specs.declared.operation.UnaryOperation.TheVariants as unary
use Rattle.word86.specs.declared.operation.BinaryOperation.{BinaryOperation}
use Rattle.word86.specs.declared.place.Place.{Place}
use Rattle.plm_type.specs.declared.program.Operation.{Operation}
use Rattle.plm_type.specs.declared.program.Subscript.{Subscript}
use Rattle.plm_type.specs.declared.program.Anchor as declared_anchor
use Rattle.plm_type.specs.declared.program.Anchor.TheVariants as anchors
use Rattle.plm_type.specs.declared.program.Target as declared_target
use Rattle.plm_type.specs.Rest.{Expression, Constant, Plain, Variable, Location, Unary, Binary, Embedded, Input, Call, Value, Passing, Running, Target, Procedure}
use Rattle.plm_type.specs.View.{expression_of, chained, target_of, targets_of, anchor_of, subscripts_of}
use Rattle.icode.specs.declared.instruction.Instruction.{Instruction}
use Rattle.icode.specs.declared.instruction.Instruction.TheVariants as op
use Rattle.icode.specs.declared.instruction.LowByte.TheVariants as lows
use Rattle.icode.specs.declared.instruction.High.TheVariants as highs
use Rattle.icode.specs.declared.instruction.Direct.{Direct}
use Rattle.lower.specs.Expressions.{number_of, unary_folded, binary_folded, folded, Operand, Number, Name, Computed, operand_of, beside, expression_code, anchor_place}
use Rattle.lower.specs.LowBytes.{direct_of, low_operation, low_code, unless_low_known, operand_code, low_changing, by_operator, takes_byte, take_bytes, low_reading, low_receiving, is_byte}
use Rattle.lower.specs.Inner.Expressions.{unless_found, operation_value, chain_value, unknown_code, operation_code, chain_code}
use Rattle.lower.specs.Inner.LowBytes.{low_received, bytes_from, low_unary_code, counted_whole, counted_one, whole_count, low_given, low_beside, low_code_of, low_unknown_code, low_operation_code, low_chain_code, left_code}
use Rattle.lower.proofs.Known.{value_with, binary_unknown}

-- an operator with its left operand
abbrev with_left : Expression → Operation → Expression
with_left e o = Binary o.line.module o.line.line o.operation o.width e (expression_of o.operand)

-- ---- the low byte's code, by what is known of the value

pub low_found_twice : (z : Option ℕ) (code : List Instruction) → unless_found z (unless_low_known z code) ≡ unless_found z code
low_found_twice (Some k) code = refl
low_found_twice None code = refl

abbrev IsGiven : List Procedure → Expression → Type 0
IsGiven ps e = (k : ℕ) → folded e ≡ Some k → low_code ps e ≡ op.Low (lows.Constant k) highs.Kept ∷ []

low_known_code : (ps : List Procedure) (e : Expression) → IsGiven ps e
low_known_code ps (Constant j) k h = ap (λ v. op.Low (lows.Constant v) highs.Kept ∷ []) (same_Some j k h)
low_known_code ps (Unary o w e) k h = ap (λ z. unless_low_known z (operand_code o (low_code ps e) (expression_code ps e) ++ low_changing o ∷ [])) h
low_known_code ps (Binary m l o w a b) k h =
    ap (λ z. unless_low_known z (by_operator (direct_of o) (λ d. low_code ps a ++ (beside (operand_of b) (low_code ps b) ++ low_operation d o (operand_of b) ∷ [])) (expression_code ps (Binary m l o w a b)))) h
low_known_code ps (Plain w x) k h = absurd (none-some k h)
low_known_code ps (Variable w r) k h = absurd (none-some k h)
low_known_code ps (Location r) k h = absurd (none-some k h)
low_known_code ps (Embedded t e) k h = absurd (none-some k h)
low_known_code ps (Input w e) k h = absurd (none-some k h)
low_known_code ps (Call p es) k h = absurd (none-some k h)
low_known_code ps (Value v) k h = absurd (none-some k h)
low_known_code ps (Passing p xs vs) k h = absurd (none-some k h)
low_known_code ps (Running ss) k h = absurd (none-some k h)

pub low_given_code : (ps : List Procedure) (e : Expression) → low_unknown_code ps e ++ low_given (folded e) ≡ low_code ps e
low_given_code ps e = by (folded e) (low_known_code ps e)
  where
    by : (z : Option ℕ) → ((k : ℕ) → z ≡ Some k → low_code ps e ≡ op.Low (lows.Constant k) highs.Kept ∷ []) → unless_found z (low_code ps e) ++ low_given z ≡ low_code ps e
    by (Some k) is = sym (is k refl)
    by None is = append-nil (low_code ps e)

pub low_beside_put : (left : Option ℕ) (old code : List Instruction) → ((old ++ low_given left) ++ op.Push ∷ []) ++ code ≡ old ++ low_beside left Computed code
low_beside_put left old code =
    ap (λ c. c ++ code) (append_assoc old (low_given left) (op.Push ∷ []))
    ∙ append_assoc old (low_given left ++ op.Push ∷ []) code
    ∙ ap (λ c. old ++ c) (append_assoc (low_given left) (op.Push ∷ []) code)

pub low_beside_alone : (q : Operand) (code : List Instruction) → low_beside None q code ≡ beside q code
low_beside_alone (Number k) code = refl
low_beside_alone (Name read x) code = refl
low_beside_alone Computed code = refl

pub low_unary_unknown : (ps : List Procedure) (o : UnaryOperation) (w : Width) (e : Expression) → low_unknown_code ps (Unary o w e) ≡ operand_code o (low_unknown_code ps e) (unknown_code ps e) ++ low_unary_code o w (folded e)
low_unary_unknown ps o w e = by (folded e)
  where
    nothing : (o : UnaryOperation) → operand_code o [] [] ≡ []
    nothing unary.Plus = refl
    nothing unary.Minus = refl
    nothing unary.Not = refl
    nothing unary.Low = refl
    nothing unary.High = refl
    nothing unary.Double = refl

    by : (z : Option ℕ) → unless_found (unary_folded o w z) (unless_low_known (unary_folded o w z) (operand_code o (low_code ps e) (expression_code ps e) ++ low_changing o ∷ []))
        ≡ operand_code o (unless_found z (low_code ps e)) (unless_found z (expression_code ps e)) ++ low_unary_code o w z
    by (Some v) = sym (ap (λ c. c ++ []) (nothing o))
    by None = refl

-- ---- an operator

-- on low bytes
low_operated_unknown : (o : BinaryOperation) (w : Width) (y z : Option ℕ) (code right : List Instruction) → ((k : ℕ) → y ≡ Some k → code ≡ op.Low (lows.Constant k) highs.Kept ∷ [])
    → unless_found (binary_folded o w y z) (unless_low_known (binary_folded o w y z) (code ++ right)) ≡ unless_found y code ++ unless_found (binary_folded o w y z) (low_given y ++ right)
low_operated_unknown o w (Some k) z code right is = low_found_twice (binary_folded o w (Some k) z) (code ++ right) ∙ ap (λ c. unless_found (binary_folded o w (Some k) z) (c ++ right)) (is k refl)
low_operated_unknown o w None z code right is = refl

directly : (ps : List Procedure) (e : Expression) (o : Operation) (d : Direct) → direct_of o.operation ≡ Some d → low_unknown_code ps (with_left e o) ≡ low_unknown_code ps e ++ low_operation_code ps (folded e) o
directly ps e o d is =
    let b = expression_of o.operand in
    let f = folded (with_left e o) in
    let right : Direct → List Instruction = λ d. beside (operand_of b) (low_code ps b) ++ low_operation d o.operation (operand_of b) ∷ [] in
    ap (λ q. unless_found f (unless_low_known f (by_operator q (λ d. low_code ps e ++ right d) (expression_code ps (with_left e o))))) is
    ∙ low_operated_unknown o.operation o.width (folded e) (folded b) (low_code ps e) (right d) (low_known_code ps e)
    ∙ ap (λ v. low_unknown_code ps e ++ unless_found v (low_given (folded e) ++ right d)) (value_with (folded e) o.operation o.width b)
    ∙ ap (λ q. low_unknown_code ps e ++ by_operator q (λ d. low_code_of (folded e) d o.operation o.width (operand_of b) (low_code ps b)) (operation_code ps (folded e) o)) (sym is)

-- on whole values
wholly : (ps : List Procedure) (e : Expression) (o : Operation) → direct_of o.operation ≡ None → low_unknown_code ps (with_left e o) ≡ unknown_code ps e ++ operation_code ps (folded e) o
wholly ps e o is =
    let b = expression_of o.operand in
    let f = folded (with_left e o) in
    ap (λ q. unless_found f (unless_low_known f (by_operator q (λ d. low_code ps e ++ (beside (operand_of b) (low_code ps b) ++ low_operation d o.operation (operand_of b) ∷ [])) (expression_code ps (with_left e o))))) is
    ∙ low_found_twice f (expression_code ps (with_left e o))
    ∙ binary_unknown ps o.line.module o.line.line o.operation o.width e b

-- ---- operators one after another

-- none works on whole values
low_chained : (ps : List Procedure) (e : Expression) (os : List Operation) → whole_count os ≡ 0 → low_unknown_code ps (chained e os) ≡ low_unknown_code ps e ++ low_chain_code ps (folded e) os
low_chained ps e [] h = sym (append-nil (low_unknown_code ps e))
low_chained ps e (o ∷ os) h = by (whole_count os) refl (direct_of o.operation) refl (λ none. low_chained ps (with_left e o) os none)
  where
    by : (n : ℕ) → whole_count os ≡ n → (q : Option Direct) → direct_of o.operation ≡ q → (whole_count os ≡ 0 → low_unknown_code ps (chained (with_left e o) os) ≡ low_unknown_code ps (with_left e o) ++ low_chain_code ps (folded (with_left e o)) os)
        → low_unknown_code ps (chained e (o ∷ os)) ≡ low_unknown_code ps e ++ low_chain_code ps (folded e) (o ∷ os)
    by zero none (Some d) is next =
        next none
        ∙ ap (λ c. c ++ low_chain_code ps (folded (with_left e o)) os) (directly ps e o d is)
        ∙ ap (λ y. (low_unknown_code ps e ++ low_operation_code ps (folded e) o) ++ low_chain_code ps y os) (value_with (folded e) o.operation o.width (expression_of o.operand))
        ∙ append_assoc (low_unknown_code ps e) (low_operation_code ps (folded e) o) (low_chain_code ps (operation_value (folded e) o) os)
    by zero none None is next = let one : 1 ≡ 0 = ap (λ n. counted_whole n None) (sym none) ∙ ap (counted_whole (whole_count os)) (sym is) ∙ h in absurd (omega (arith, one))
    by (suc n) some q is next = let more : suc (suc n) ≡ 0 = ap (λ m. counted_whole m (direct_of o.operation)) (sym some) ∙ h in absurd (omega (arith, more))

-- so many operators are of whole values, or stand before one that is
abbrev SplitsAt : List Procedure → Expression → List Operation → ℕ → Type 0
SplitsAt ps e os n = low_unknown_code ps (chained e os) ≡ (unknown_code ps e ++ chain_code ps (folded e) (take n os)) ++ low_chain_code ps (chain_value (folded e) (take n os)) (drop n os)

low_chained_after : (ps : List Procedure) (e : Expression) (os : List Operation) (n : ℕ) → whole_count os ≡ suc n → SplitsAt ps e os (suc n)
low_chained_after ps e [] n h = absurd (omega (arith, h))
low_chained_after ps e (o ∷ os) n h = by (whole_count os) refl (direct_of o.operation) refl (λ m some. low_chained_after ps (with_left e o) os m some)
  where
    value : folded (with_left e o) ≡ operation_value (folded e) o
    value = value_with (folded e) o.operation o.width (expression_of o.operand)

    by : (m : ℕ) → whole_count os ≡ m → (q : Option Direct) → direct_of o.operation ≡ q → ((m : ℕ) → whole_count os ≡ suc m → SplitsAt ps (with_left e o) os (suc m)) → SplitsAt ps e (o ∷ os) (suc n)
    by zero none (Some d) is next = let more : 0 ≡ suc n = ap (λ m. counted_whole m (Some d)) (sym none) ∙ ap (counted_whole (whole_count os)) (sym is) ∙ h in absurd (omega (arith, more))
    by zero none None is next =
        let one : 1 ≡ suc n = ap (λ m. counted_whole m None) (sym none) ∙ ap (counted_whole (whole_count os)) (sym is) ∙ h in
        subst (SplitsAt ps e (o ∷ os)) one
        (low_chained ps (with_left e o) os none
        ∙ ap (λ c. c ++ low_chain_code ps (folded (with_left e o)) os) (wholly ps e o is ∙ ap (λ c. unknown_code ps e ++ c) (sym (append-nil (operation_code ps (folded e) o))))
        ∙ ap (λ y. (unknown_code ps e ++ (operation_code ps (folded e) o ++ [])) ++ low_chain_code ps y os) value)
    by (suc m) some q is next =
        let more : suc (suc m) ≡ suc n = ap (λ m. counted_whole m (direct_of o.operation)) (sym some) ∙ h in
        let front = take (suc m) os in
        let last = drop (suc m) os in
        subst (SplitsAt ps e (o ∷ os)) more
        (next m some
        ∙ ap (λ c. (c ++ chain_code ps (folded (with_left e o)) front) ++ low_chain_code ps (chain_value (folded (with_left e o)) front) last) (binary_unknown ps o.line.module o.line.line o.operation o.width e (expression_of o.operand))
        ∙ ap (λ y. ((unknown_code ps e ++ operation_code ps (folded e) o) ++ chain_code ps y front) ++ low_chain_code ps (chain_value y front) last) value
        ∙ ap (λ c. c ++ low_chain_code ps (chain_value (operation_value (folded e) o) front) last) (append_assoc (unknown_code ps e) (operation_code ps (folded e) o) (chain_code ps (operation_value (folded e) o) front)))

-- the left operand and the operators up to the last one of whole values, then the others
pub low_split : (ps : List Procedure) (e : Expression) (os : List Operation)
    → low_unknown_code ps (chained e os) ≡ left_code ps e (take (whole_count os) os) ++ low_chain_code ps (chain_value (folded e) (take (whole_count os) os)) (drop (whole_count os) os)
low_split ps e [] = sym (append-nil (low_unknown_code ps e))
low_split ps e (o ∷ os) = by (whole_count (o ∷ os)) refl
  where
    by : (n : ℕ) → whole_count (o ∷ os) ≡ n → low_unknown_code ps (chained e (o ∷ os)) ≡ left_code ps e (take n (o ∷ os)) ++ low_chain_code ps (chain_value (folded e) (take n (o ∷ os))) (drop n (o ∷ os))
    by zero h = low_chained ps e (o ∷ os) h
    by (suc n) h = low_chained_after ps e (o ∷ os) n h

pub value_split : (y : Option ℕ) (os : List Operation) (n : ℕ) → chain_value (chain_value y (take n os)) (drop n os) ≡ chain_value y os
value_split y os zero = refl
value_split y [] (suc n) = refl
value_split y (o ∷ os) (suc n) = value_split (operation_value y o) os n

pub left_coded : (ps : List Procedure) (e : Expression) (os : List Operation) → 1 ≤ length os → left_code ps e os ≡ unknown_code ps e ++ chain_code ps (folded e) os
left_coded ps e [] h = absurd (omega (arith, h))
left_coded ps e (o ∷ os) h = refl

-- an operator alone, on whole values and on low bytes
pub operated_whole : (ps : List Procedure) (left : Option ℕ) (o : Operation) → direct_of o.operation ≡ None → low_operation_code ps left o ≡ operation_code ps left o
operated_whole ps left o is =
    let b = expression_of o.operand in
    ap (λ q. by_operator q (λ d. low_code_of left d o.operation o.width (operand_of b) (low_code ps b)) (operation_code ps left o)) is

pub operated_low : (ps : List Procedure) (left : Option ℕ) (o : Operation) (d : Direct) → direct_of o.operation ≡ Some d
    → low_operation_code ps left o ≡ low_code_of left d o.operation o.width (operand_of (expression_of o.operand)) (low_code ps (expression_of o.operand))
operated_low ps left o d is =
    let b = expression_of o.operand in
    ap (λ q. by_operator q (λ d. low_code_of left d o.operation o.width (operand_of b) (low_code ps b)) (operation_code ps left o)) is

pub whole_within : (os : List Operation) → whole_count os ≤ length os
whole_within [] = omega arith
whole_within (o ∷ os) = by (whole_count os) (direct_of o.operation) (whole_within os)
  where
    by : (n : ℕ) (q : Option Direct) → n ≤ length os → counted_whole n q ≤ suc (length os)
    by zero (Some d) le = omega arith
    by zero None le = omega arith
    by (suc n) q le = omega (arith, le)

-- how many there are, where so many are of the first ones and so many of those after them
abbrev pub counted_after : (index so_far after : ℕ) → ℕ
counted_after i c zero = c
counted_after i c (suc n) = i + suc n

pub counted_first : (n : ℕ) → counted_after 0 0 n ≡ n
counted_first zero = refl
counted_first (suc n) = omega arith

pub counted_step : (i c n : ℕ) (q : Option Direct) → counted_after i c (counted_whole n q) ≡ counted_after (i + 1) (counted_one i c q) n
counted_step i c zero (Some d) = refl
counted_step i c zero None = refl
counted_step i c (suc n) q = omega arith

-- after subscripts at a fixed place
pub low_reading_behind : (a : declared_anchor.Anchor) (offset : ℕ) (ss : List Subscript) → ((base : Place) → a ≡ anchors.Behind base → ⊥) → 1 ≤ length ss
    → low_reading (anchor_of a) offset (subscripts_of ss) ≡ op.Low (lows.LoadAt (anchor_place (anchor_of a) offset)) highs.Kept ∷ []
low_reading_behind a offset [] fixed h = absurd (omega (arith, h))
low_reading_behind (anchors.InObject k start size) offset (s ∷ ss) fixed h = refl
low_reading_behind (anchors.OnScreen page start size) offset (s ∷ ss) fixed h = refl
low_reading_behind (anchors.Behind base) offset (s ∷ ss) fixed h = absurd (fixed base refl)

-- whether these take bytes too
abbrev pub taking : Bool → List declared_target.Target → Bool
taking b [] = b
taking b (t ∷ ts) = taking (b && takes_byte (target_of t)) ts

taking_all : (b : Bool) (t : Target) (us : List declared_target.Target) → (b && take_bytes (targets_of t us)) ≡ taking (b && takes_byte t) us
taking_all b t [] = refl
taking_all b t (u ∷ us) = sym (and_assoc b (takes_byte t) (take_bytes (targets_of (target_of u) us))) ∙ taking_all (b && takes_byte t) (target_of u) us

pub targets_take : (t : Target) (us : List declared_target.Target) → take_bytes (targets_of t us) ≡ taking (takes_byte t) us
targets_take t us = taking_all true t us

-- whether operators of one precedence give a byte
pub chain_bytes : (e : Expression) (os : List Operation) → is_byte (chained e os) ≡ bytes_from (is_byte e) os
chain_bytes e [] = refl
chain_bytes e (o ∷ os) = chain_bytes (with_left e o) os

-- there is none past the end
-- a port's number, by what is known of it
low_port_by : (z : Option ℕ) (code : List Instruction) → low_receiving (number_of z) code ≡ unless_found z code ++ low_received z ∷ []
low_port_by (Some k) code = refl
low_port_by None code = refl

pub low_port_received : (e : Expression) (code : List Instruction) → low_receiving (operand_of e) code ≡ unless_found (folded e) code ++ low_received (folded e) ∷ []
low_port_received (Constant k) code = refl
low_port_received (Plain w x) code = refl
low_port_received (Variable w r) code = refl
low_port_received (Location r) code = refl
low_port_received (Unary o w e) code = low_port_by (folded (Unary o w e)) code
low_port_received (Binary m l o w a b) code = low_port_by (folded (Binary m l o w a b)) code
low_port_received (Embedded t e) code = refl
low_port_received (Input w e) code = refl
low_port_received (Call p es) code = refl
low_port_received (Value v) code = refl
low_port_received (Passing p xs vs) code = refl
low_port_received (Running ss) code = refl

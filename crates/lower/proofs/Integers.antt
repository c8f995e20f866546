-- Trees that are turned INTEGER have the operands that they had.
use Rattle.std.proofs.Common.{◌≡◌, ℕ, ◌++◌, ◌≤◌, Bool, true, false, List, refl, ap, ◌∙◌, arith}
use Rattle.std.specs.Prelude.{cond}
use Rattle.plm_type.specs.Rest.{Expression, Constant, Plain, Variable, Location, Unary, Binary, Embedded, Input, Call, Value, Passing, Running, Procedure}
use Rattle.plm_type.specs.Calls.{calls_in}
use Rattle.plm_type.specs.Numbers.{integer_of}
use Rattle.lower.specs.Well.{IsExpression}
use Rattle.lower.proofs.Rooms.{nodes}
use Rattle.lower.proofs.Peaks.{peak}

-- ---- nodes

integer_nodes : (e : Expression) → nodes (integer_of e) ≡ nodes e
integer_nodes (Unary o w e) = let h = integer_nodes e in omega (arith, h)
integer_nodes (Binary m l o w a b) = let h = integer_nodes a in let k = integer_nodes b in omega (arith, h, k)
integer_nodes (Constant k) = refl
integer_nodes (Plain w x) = refl
integer_nodes (Variable w r) = refl
integer_nodes (Location r) = refl
integer_nodes (Embedded t e) = refl
integer_nodes (Input w e) = refl
integer_nodes (Call p es) = refl
integer_nodes (Value v) = refl
integer_nodes (Passing p xs vs) = refl
integer_nodes (Running ss) = refl

pub turned_count : (turned : Bool) (e : Expression) (n : ℕ) → nodes e ≤ n → nodes (cond turned (integer_of e) e) ≤ n
turned_count true e n h = let k = integer_nodes e in omega (arith, h, k)
turned_count false e n h = h

-- ---- peaks

integer_peak : (e : Expression) → peak (integer_of e) ≡ peak e
integer_peak (Unary o w e) = integer_peak e
integer_peak (Binary m l o w a b) = let h = integer_peak a in let k = integer_peak b in omega (arith, h, k)
integer_peak (Constant k) = refl
integer_peak (Plain w x) = refl
integer_peak (Variable w r) = refl
integer_peak (Location r) = refl
integer_peak (Embedded t e) = refl
integer_peak (Input w e) = refl
integer_peak (Call p es) = refl
integer_peak (Value v) = refl
integer_peak (Passing p xs vs) = refl
integer_peak (Running ss) = refl

pub turned_peak : (turned : Bool) (e : Expression) (n : ℕ) → peak e ≤ n → peak (cond turned (integer_of e) e) ≤ n
turned_peak true e n h = let k = integer_peak e in omega (arith, h, k)
turned_peak false e n h = h

-- ---- calls

integer_calls : (e : Expression) → calls_in (integer_of e) ≡ calls_in e
integer_calls (Unary o w e) = integer_calls e
integer_calls (Binary m l o w a b) = ap (λ (xs : List ℕ). xs ++ calls_in (integer_of b)) (integer_calls a) ∙ ap (λ (ys : List ℕ). calls_in a ++ ys) (integer_calls b)
integer_calls (Constant k) = refl
integer_calls (Plain w x) = refl
integer_calls (Variable w r) = refl
integer_calls (Location r) = refl
integer_calls (Embedded t e) = refl
integer_calls (Input w e) = refl
integer_calls (Call p es) = refl
integer_calls (Value v) = refl
integer_calls (Passing p xs vs) = refl
integer_calls (Running ss) = refl

pub turned_calls : (turned : Bool) (e : Expression) → calls_in (cond turned (integer_of e) e) ≡ calls_in e
turned_calls true e = integer_calls e
turned_calls false e = refl

-- ---- well-formed trees

module _ (sizes : List ℕ) (procedures : List Procedure) (MayCall : ℕ → Type 0) where
  integer_well : (e : Expression) → IsExpression sizes procedures MayCall e → IsExpression sizes procedures MayCall (integer_of e)
  integer_well (Unary o w e) good = integer_well e good
  integer_well (Binary m l o w a b) good = (integer_well a good.0, integer_well b good.1)
  integer_well (Constant k) good = good
  integer_well (Plain w x) good = good
  integer_well (Variable w r) good = good
  integer_well (Location r) good = good
  integer_well (Embedded t e) good = good
  integer_well (Input w e) good = good
  integer_well (Call p es) good = good
  integer_well (Value v) good = good
  integer_well (Passing p xs vs) good = good
  integer_well (Running ss) good = good

  pub turned_well : (turned : Bool) (e : Expression) → IsExpression sizes procedures MayCall e → IsExpression sizes procedures MayCall (cond turned (integer_of e) e)
  turned_well true e good = integer_well e good
  turned_well false e good = good

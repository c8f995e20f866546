-- Expressions of constants: what is known of their values before any run, and the silent steps that lead to them.
use Rattle.std.proofs.Common.{◌≡◌, ℕ, suc, ◌+◌, ◌<◌, ◌≤◌, List, Option, Some, None, refl, ap, ◌∙◌, subst, arith}
use Rattle.std.proofs.lemmas.Option.{none-some, same_Some}
use Rattle.word86.specs.declared.width.Width.{Width}
use Rattle.word86.specs.declared.operation.UnaryOperation.{UnaryOperation}
use Rattle.word86.specs.declared.operation.BinaryOperation.{BinaryOperation}
use Rattle.word86.specs.Action.{Silent, map_action}
use Rattle.word86.specs.Operation.{unary_value, binary_value}
use Rattle.plm_type.specs.Rest.{Expression, Constant, Plain, Variable, Location, Unary, Binary, Embedded, Input, Call, Value, Passing, Running, Procedure, Rest}
use Rattle.plm_type.specs.Next.{operated}
use Rattle.icode.specs.Machine.{Context}
use Rattle.lower.specs.Expressions.{unary_folded, binary_folded, folded}
use Rattle.lower.specs.Well.{IsExpression}
use Rattle.lower.proofs.Setting.{Setting}
use Rattle.lower.proofs.Sim.{N, S, eased, up}
use Rattle.lower.proofs.Holes.{IsHole, in_unary, in_left, in_right}
use Rattle.lower.proofs.Values.{unary_small, binary_small}
use Rattle.lower.proofs.Nodes.{nodes}

-- ---- what is known of an operator comes from its operands

pub unary_parts : (o : UnaryOperation) (w : Width) (z : Option ℕ) (k : ℕ) → unary_folded o w z ≡ Some k → (v : ℕ) × (z ≡ Some v) × (unary_value o w v ≡ k)
unary_parts o w (Some v) k h = (v, refl, same_Some (unary_value o w v) k h)
unary_parts o w None k h = absurd (none-some k h)

pub binary_parts : (o : BinaryOperation) (w : Width) (y z : Option ℕ) (k : ℕ) → binary_folded o w y z ≡ Some k → (u : ℕ) × (v : ℕ) × (y ≡ Some u) × (z ≡ Some v) × (binary_value o w u v ≡ Some k)
binary_parts o w (Some u) (Some v) k h = (u, v, refl, refl, h)
binary_parts o w (Some u) None k h = absurd (none-some k h)
binary_parts o w None z k h = absurd (none-some k h)

-- ---- values are words

module _ (sizes : List ℕ) (procedures : List Procedure) (MayCall : ℕ → Type 0) where
  pub folded_small : (e : Expression) → IsExpression sizes procedures MayCall e → (k : ℕ) → folded e ≡ Some k → k < 65536
  folded_small (Constant j) good k h = subst (λ v. v < 65536) (same_Some j k h) good
  folded_small (Unary o w e) good k h =
      let p = unary_parts o w (folded e) k h in
      subst (λ v. v < 65536) p.2 (unary_small o w p.0 (folded_small e good p.0 p.1))
  folded_small (Binary m l o w a b) good k h =
      let p = binary_parts o w (folded a) (folded b) k h in
      binary_small o w p.0 p.1 k (folded_small a good.0 p.0 p.2) (folded_small b good.1 p.1 p.3) p.4
  folded_small (Plain w x) good k h = absurd (none-some k h)
  folded_small (Variable w r) good k h = absurd (none-some k h)
  folded_small (Location r) good k h = absurd (none-some k h)
  folded_small (Embedded t e) good k h = absurd (none-some k h)
  folded_small (Input w e) good k h = absurd (none-some k h)
  folded_small (Call p es) good k h = absurd (none-some k h)
  folded_small (Value v) good k h = absurd (none-some k h)
  folded_small (Passing p xs vs) good k h = absurd (none-some k h)
  folded_small (Running ss) good k h = absurd (none-some k h)

-- ---- one step for each node

module _ (x : Setting) where
  -- the last of the silent steps leads to the value
  abbrev Folds : Expression → Type 0
  Folds e = (k : ℕ) → folded e ≡ Some k → (m n f : ℕ) → f ≤ 2 → (C : Expression → Rest) → IsHole x C → (i : Context) → ((R : Rest) → N x R ≡ Silent (C (Value k)) → S x (suc m) n f R i) → S x (nodes e + m) n f (C e) i

  unary_folds : (o : UnaryOperation) (w : Width) (e : Expression) → Folds e → Folds (Unary o w e)
  unary_folds o w e part k h m n f le C cx i last =
      let p = unary_parts o w (folded e) k h in
      let R = C (Unary o w (Value p.0)) in
      eased x (nodes e + suc m) (nodes (Unary o w e) + m) n f f (C (Unary o w e)) i (omega arith) (omega arith)
      (part p.0 p.1 (suc m) n f le (λ y. C (Unary o w y)) (in_unary x C cx o w) i
      (λ Q u. up x (suc m) n f le Q R i u (last R (cx (Unary o w (Value p.0)) refl ∙ ap (λ v. Silent (C (Value v))) p.2))))

  binary_folds : (m l : ℕ) (o : BinaryOperation) (w : Width) (a b : Expression) → Folds a → Folds b → Folds (Binary m l o w a b)
  binary_folds j l o w a b left right k h m n f le C cx i last =
      let p = binary_parts o w (folded a) (folded b) k h in
      let A = C (Binary j l o w (Value p.0) b) in
      let R = C (Binary j l o w (Value p.0) (Value p.1)) in
      eased x (nodes a + (nodes b + suc m)) (nodes (Binary j l o w a b) + m) n f f (C (Binary j l o w a b)) i (omega arith) (omega arith)
      (left p.0 p.2 (nodes b + suc m) n f le (λ y. C (Binary j l o w y b)) (in_left x C cx j l o w b) i
      (λ Q u. up x (nodes b + suc m) n f le Q A i u
      (right p.1 p.3 (suc m) n f le (λ y. C (Binary j l o w (Value p.0) y)) (in_right x C cx j l o w p.0) i
      (λ P v. up x (suc m) n f le P R i v (last R (cx (Binary j l o w (Value p.0) (Value p.1)) refl ∙ ap (λ z. map_action C (operated j l z)) p.4))))))

  comes_to : (e : Expression) → Folds e
  comes_to (Constant j) k h m n f le C cx i last =
      eased x (suc m) (nodes (Constant j) + m) n f f (C (Constant j)) i (omega arith) (omega arith) (last (C (Constant j)) (cx (Constant j) refl ∙ ap (λ v. Silent (C (Value v))) (same_Some j k h)))
  comes_to (Unary o w e) k h m n f le C cx i last = unary_folds o w e (comes_to e) k h m n f le C cx i last
  comes_to (Binary j l o w a b) k h m n f le C cx i last = binary_folds j l o w a b (comes_to a) (comes_to b) k h m n f le C cx i last
  comes_to (Plain w y) k h m n f le C cx i last = absurd (none-some k h)
  comes_to (Variable w r) k h m n f le C cx i last = absurd (none-some k h)
  comes_to (Location r) k h m n f le C cx i last = absurd (none-some k h)
  comes_to (Embedded t e) k h m n f le C cx i last = absurd (none-some k h)
  comes_to (Input w e) k h m n f le C cx i last = absurd (none-some k h)
  comes_to (Call p es) k h m n f le C cx i last = absurd (none-some k h)
  comes_to (Value v) k h m n f le C cx i last = absurd (none-some k h)
  comes_to (Passing p xs vs) k h m n f le C cx i last = absurd (none-some k h)
  comes_to (Running ss) k h m n f le C cx i last = absurd (none-some k h)

  pub folds : (e : Expression) (k : ℕ) → folded e ≡ Some k → (m n f : ℕ) → f ≤ 2 → (C : Expression → Rest) → IsHole x C → (i : Context) → ((R : Rest) → N x R ≡ Silent (C (Value k)) → S x m n f R i) → S x (nodes e + m) n f (C e) i
  folds e k h m n f le C cx i last = comes_to e k h m n f le C cx i (λ R u. eased x m (suc m) n f f R i (omega arith) (omega arith) (last R u))

-- Operators of one precedence, one after the other, are the tree that leans left.
use Rattle.std.proofs.Common.{◌≡◌, ℕ, List, [], ◌∷◌, length, arith, refl, ap, ◌∙◌}
use Rattle.plm_syntax.specs.declared.tree.Position.{Position}
use Rattle.plm_syntax.specs.declared.tree.BinaryOperator.{BinaryOperator}
use Rattle.plm_decl.specs.declared.names.Variable.{Variable}
use Rattle.plm_decl.specs.declared.resolved.Operation.{Operation}
use Rattle.plm_decl.specs.Names.{ProcedureR}
use Rattle.plm_decl.specs.Resolved.{ExpressionR, BinaryR}
use Rattle.plm_decl.specs.ResolvedView.{expression_of, leaned}
use Rattle.plm_decl.specs.declared.found.Found.{Found}
use Rattle.plm_type.specs.Faults.{first_place}
use Rattle.plm_type.specs.Typer.{Typed}
use Rattle.plm_type.specs.Expressions.{typed}
use Rattle.plm_type.specs.Inner.Typer.{after}
use Rattle.plm_type.specs.Inner.Chains.{chain}
use Rattle.plm_type.proofs.Said.{joined_after}

abbrev with_right : ExpressionR → Operation → ExpressionR
with_right e o = BinaryR o.place o.operator e (expression_of o.operand)

pub leaned_first : (e : ExpressionR) (os : List Operation) → first_place (leaned e os) ≡ first_place e
leaned_first e [] = refl
leaned_first e (o ∷ os) = leaned_first (with_right e o) os

pub leaned_after : (vs : List Variable) (ps : List ProcedureR) (sizes : List ℕ) (module_index : ℕ) (old : List Found) (e : ExpressionR) (os : List Operation)
    → chain vs ps sizes module_index (first_place e) (after old (typed vs ps sizes module_index e)) os ≡ after old (typed vs ps sizes module_index (leaned e os))
leaned_after vs ps sizes module_index old e [] = refl
leaned_after vs ps sizes module_index old e (o ∷ os) =
    ap (λ (x : Typed). chain vs ps sizes module_index (first_place e) x os)
    (joined_after module_index o.place o.operator (first_place e) old (typed vs ps sizes module_index e) (typed vs ps sizes module_index (expression_of o.operand)))
    ∙ leaned_after vs ps sizes module_index old (with_right e o) os

-- ---- one with operators is no reference

pub record IsJoined (e : ExpressionR) : Type 0 where
  pub place : Position
  pub operator : BinaryOperator
  pub left : ExpressionR
  pub right : ExpressionR
  pub is : e ≡ BinaryR place operator left right

joined_more : (p : Position) (o : BinaryOperator) (a b : ExpressionR) (os : List Operation) → IsJoined (leaned (BinaryR p o a b) os)
joined_more p o a b [] = record { place = p; operator = o; left = a; right = b; is = refl }
joined_more p o a b (x ∷ xs) = joined_more x.place x.operator (BinaryR p o a b) (expression_of x.operand) xs

pub leaned_joined : (e : ExpressionR) (os : List Operation) → (length os ≡ 0 → ⊥) → IsJoined (leaned e os)
leaned_joined e [] h = absurd (h refl)
leaned_joined e (o ∷ os) h = joined_more o.place o.operator e (expression_of o.operand) os

pub leaned_alone : (e : ExpressionR) (os : List Operation) → length os ≡ 0 → leaned e os ≡ e
leaned_alone e [] h = refl
leaned_alone e (o ∷ os) h = absurd (omega (arith, h))

-- The test of a chain is that of its last operator.
use Rattle.std.proofs.Common.{◌≡◌, ◌++◌, ℕ, zero, suc, ◌-◌, ◌≤◌, List, [], ◌∷◌, length, take, get_or, Option, Some, None, refl, ap, sym, ◌∙◌, arith}
use Rattle.std.specs.Global.{Vec, Box}
use Rattle.plm_type.specs.declared.program.Operation.{Operation}
use Rattle.plm_type.specs.declared.program.Expression as declared_expression
use Rattle.plm_type.specs.declared.program.Expression.TheVariants as expression
use Rattle.plm_type.specs.Rest.{Expression, Binary, Procedure}
use Rattle.plm_type.specs.View.{expression_of, chained}
use Rattle.icode.specs.declared.instruction.Instruction.{Instruction}
use Rattle.icode.specs.declared.instruction.Relation.{Relation}
use Rattle.icode.specs.declared.instruction.Test.TheVariants as test
use Rattle.lower.specs.Expressions.{operand_of, relation_of}
use Rattle.lower.specs.Conditions.{are_bytes, named, unless_named, compared_by, asked, test_of, asking, comparison_code, condition_code}
use Rattle.lower.specs.LowBytes.{low_code}

-- the last operator is the outermost one
pub chained_last : (e : Expression) (os : List Operation) (o : Operation)
    → chained e (os ++ o ∷ []) ≡ Binary o.line.module o.line.line o.operation o.width (chained e os) (expression_of o.operand)
chained_last e [] o = refl
chained_last e (p ∷ os) o = chained_last _ os o

-- what is computed before the test of a chain whose last operator may be a relation
abbrev asks : List Procedure → Expression → List Operation → Operation → Option Relation → List Instruction
asks ps e os o r =
    let left = chained e os in
    let right = expression_of o.operand in
    asking r (λ q. unless_named (named (are_bytes left right) q (operand_of left) (operand_of right)) (comparison_code ps left right)) (low_code ps (Binary o.line.module o.line.line o.operation o.width left right))

pub relation_coded : (ps : List Procedure) (e : Expression) (os : List Operation) (o : Operation) (r : Relation) → relation_of o.operation ≡ Some r
    → condition_code ps (chained e (os ++ o ∷ []))
    ≡ unless_named (named (are_bytes (chained e os) (expression_of o.operand)) r (operand_of (chained e os)) (operand_of (expression_of o.operand))) (comparison_code ps (chained e os) (expression_of o.operand))
relation_coded ps e os o r is = ap (condition_code ps) (chained_last e os o) ∙ ap (asks ps e os o) is

pub relation_tested : (e : Expression) (os : List Operation) (o : Operation) (r : Relation) → relation_of o.operation ≡ Some r
    → test_of (chained e (os ++ o ∷ [])) ≡ compared_by (are_bytes (chained e os) (expression_of o.operand)) r (operand_of (chained e os)) (operand_of (expression_of o.operand))
relation_tested e os o r is = ap test_of (chained_last e os o) ∙ ap (λ x. asked x (are_bytes (chained e os) (expression_of o.operand)) (operand_of (chained e os)) (operand_of (expression_of o.operand))) is

-- of every other operator the value counts
pub value_coded : (ps : List Procedure) (e : Expression) (os : List Operation) (o : Operation) → relation_of o.operation ≡ None
    → condition_code ps (chained e (os ++ o ∷ [])) ≡ low_code ps (chained e (os ++ o ∷ []))
value_coded ps e os o is = ap (condition_code ps) (chained_last e os o) ∙ ap (asks ps e os o) is ∙ sym (ap (low_code ps) (chained_last e os o))

pub value_tested : (e : Expression) (os : List Operation) (o : Operation) → relation_of o.operation ≡ None → test_of (chained e (os ++ o ∷ [])) ≡ test.Odd
value_tested e os o is = ap test_of (chained_last e os o) ∙ ap (λ x. asked x (are_bytes (chained e os) (expression_of o.operand)) (operand_of (chained e os)) (operand_of (expression_of o.operand))) is

-- a slice is what stands before its last operator, and that one
split_at : (k : ℕ) (os : List Operation) (o : Operation) → length os ≡ suc k → o ≡ get_or os k o → os ≡ take k os ++ o ∷ []
split_at zero [] o l h = absurd (omega (arith, l))
split_at zero (x ∷ []) o l h = ap (λ y. y ∷ []) (sym h)
split_at zero (x ∷ y ∷ xs) o l h = absurd (omega (arith, l))
split_at (suc k) [] o l h = absurd (omega (arith, l))
split_at (suc k) (x ∷ xs) o l h = ap (λ ys. x ∷ ys) (split_at k xs o (omega (arith, l)) h)

pub chain_split : (e : Box declared_expression.Expression) (v : Vec Operation) (os : List Operation) (o : Operation) → expression_of (expression.Chain e v) ≡ chained (expression_of e.value) v.items → os ≡ v.items → 1 ≤ length os → o ≡ get_or os (length os - 1) o
    → expression_of (expression.Chain e v) ≡ chained (expression_of e.value) (take (length os - 1) os ++ o ∷ [])
chain_split e v os o chain is some last =
    chain ∙ ap (chained (expression_of e.value)) (sym is ∙ split_at (length os - 1) os o (omega (arith, some)) last)

-- Lists that are at their end, and what a program writes.
use Rattle.std.proofs.Common.{◌≡◌, ◌≤◌, ℕ, suc, List, [], ◌∷◌, ◌++◌, length, refl, ap, arith, None}
use Rattle.plm_type.specs.declared.program.Expression.{Expression}
use Rattle.plm_type.specs.Rest.{Expressions, NoMore, More, Value}
use Rattle.plm_type.specs.View.{expressions_of}
use Rattle.std.specs.Global.{Box}
use Rattle.plm_type.specs.declared.program.Expression.{Row_of-Operation, end_of-Operation, more_of-Operation}
use Rattle.plm_type.specs.declared.program.Expression.TheVariants as expression
use Rattle.plm_type.specs.declared.program.Statement as program_statement
use Rattle.plm_type.specs.declared.program.Operation.{Operation}
use Rattle.plm_type.specs.Rest as rest
use Rattle.plm_type.specs.Next.{value_of}
use Rattle.plm_type.specs.View.{expression_of, chained_in, chained, statements_of}
use Rattle.plm_meaning.specs.Context.{given}
use Rattle.plm_meaning.specs.Inner.Start.{depth}

pub given_last : (vs : List ℕ) (v : ℕ) (es : Expressions) → given (vs ++ v ∷ []) es ≡ given vs (More (Value v) es)
given_last [] v es = refl
given_last (w ∷ vs) v es = ap (More (Value w)) (given_last vs v es)

pub no_arguments : (es : List Expression) → length es ≡ 0 → expressions_of es ≡ NoMore
no_arguments [] h = refl
no_arguments (e ∷ es) h = absurd (omega (arith, h))

pub no_statements : (ss : List (Box program_statement.Statement)) → length ss ≡ 0 → statements_of ss ≡ rest.End
no_statements [] h = refl
no_statements (s ∷ ss) h = absurd (omega (arith, h))

pub no_operations : (os : List Operation) (e : rest.Expression) → length os ≡ 0 → chained e os ≡ e
no_operations [] e h = refl
no_operations (o ∷ os) e h = absurd (omega (arith, h))

pub chained_depth : (os : List Operation) (e : rest.Expression) → depth e ≤ depth (chained e os)
chained_depth [] e = omega arith
chained_depth (o ∷ os) e =
    let more : suc (depth e) ≤ depth (chained (rest.Binary o.line.module o.line.line o.operation o.width e (expression_of o.operand)) os) =
    chained_depth os (rest.Binary o.line.module o.line.line o.operation o.width e (expression_of o.operand)) in
    omega (arith, more)

chained_value : {m : _} (os : Row_of-Operation m) (e : rest.Expression) → value_of e ≡ None → value_of (chained_in e os) ≡ None
chained_value end_of-Operation e h = h
chained_value (more_of-Operation l o width a os) e h = chained_value os _ refl

-- what a program writes is no value yet
pub source_value : (e : Expression) → value_of (expression_of e) ≡ None
source_value (expression.Constant k) = refl
source_value (expression.Plain width x) = refl
source_value (expression.Variable width r) = refl
source_value (expression.Location r) = refl
source_value (expression.Unary' o width p e) = refl
source_value (expression.Chain' p e shape os) = chained_value os (expression_of e) (source_value e)
source_value (expression.Embedded' p t q e) = refl
source_value (expression.Input' width p e) = refl
source_value (expression.Call' p shape es) = refl

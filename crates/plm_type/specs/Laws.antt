-- Trees with lists of others: what each stands for is said of what its list's trees stand for.
use Rattle.std.specs.Prelude.{◌≡◌, ℕ}
use Rattle.std.specs.Global.{Vec, Box}
use Rattle.plm_type.specs.declared.program.Expression.{Expression}
use Rattle.plm_type.specs.declared.program.Expression.TheVariants as expression
use Rattle.plm_type.specs.declared.program.Operation.{Operation}
use Rattle.plm_type.specs.declared.program.Reference.{Reference, out-Reference}
use Rattle.plm_type.specs.declared.program.Statement.{Statement}
use Rattle.plm_type.specs.declared.program.Statement.TheVariants as statement
use Rattle.plm_type.specs.declared.program.Loop.{Loop}
use Rattle.plm_type.specs.Rest as rest
use Rattle.plm_type.specs.View.{expression_of, expressions_of, chained, subscripts_of, statement_of, statements_of, loop_of, reference_of, anchor_of}

pub record TreesHaveTheirLists : Type 0 where
  pub call : (p : ℕ) (es : Vec Expression) → expression_of (expression.Call p es) ≡ rest.Call p (expressions_of es.items)
  pub chain : (e : Box Expression) (os : Vec Operation) → expression_of (expression.Chain e os) ≡ chained (expression_of e.value) os.items
  pub reference : (r : Reference) → reference_of r ≡ rest.Refer (out-Reference r).line.module (out-Reference r).line.line (anchor_of (out-Reference r).anchor) (out-Reference r).offset (subscripts_of (out-Reference r).subscripts.items)
  pub block : (body : Vec (Box Statement)) → statement_of (statement.Block body) ≡ rest.Block (statements_of body.items)
  pub if_else : (e : Expression) (arm other : Vec (Box Statement)) → statement_of (statement.If e arm other) ≡ rest.If (expression_of e) (statements_of arm.items) (statements_of other.items)
  pub while_true : (e : Expression) (body : Vec (Box Statement)) → statement_of (statement.While e body) ≡ rest.While (expression_of e) (expression_of e) (statements_of body.items)
  pub case_of : (e : Expression) (cases : Vec (Box Statement)) → statement_of (statement.Case e cases) ≡ rest.Case (expression_of e) (statements_of cases.items)
  pub iterate : (e : Expression) (l : Box Loop) → statement_of (statement.Iterate e l) ≡ rest.Iterate (expression_of e) (loop_of l.value)

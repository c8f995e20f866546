-- The Rust trees of a program as plain ones.
use Rattle.std.specs.Prelude.{List, [], ◌∷◌, map}
use Rattle.std.specs.Global.{Box}
use Rattle.word86.specs.Place.{where_of}
use Rattle.plm_type.specs.declared.program.Scalar as declared_scalar
use Rattle.plm_type.specs.declared.program.Anchor as declared_anchor
use Rattle.plm_type.specs.declared.program.Anchor.TheVariants as anchor
use Rattle.plm_type.specs.declared.program.Expression as declared_expression
use Rattle.plm_type.specs.declared.program.Expression.{Row_of-Operation, end_of-Operation, more_of-Operation, Row_of-Expression, end_of-Expression, more_of-Expression}
use Rattle.plm_type.specs.declared.program.Expression.TheVariants as expression
use Rattle.plm_type.specs.declared.program.Operation.{Operation}
use Rattle.plm_type.specs.declared.program.Reference as declared_reference
use Rattle.plm_type.specs.declared.program.Reference.{Reference', Row_of-Subscript, end_of-Subscript, more_of-Subscript}
use Rattle.plm_type.specs.declared.program.Subscript as declared_subscript
use Rattle.plm_type.specs.declared.program.Target as declared_target
use Rattle.plm_type.specs.declared.program.Target.TheVariants as target
use Rattle.plm_type.specs.declared.program.Statement as declared_statement
use Rattle.plm_type.specs.declared.program.Statement.{Row_of-Statement-If-1-1, end_of-Statement-If-1-1, more_of-Statement-If-1-1}
use Rattle.plm_type.specs.declared.program.Statement.TheVariants as statement
use Rattle.plm_type.specs.declared.program.Loop as declared_loop
use Rattle.plm_type.specs.declared.program.Procedure as declared_procedure
use Rattle.plm_type.specs.Rest.{Anchor, InObject, OnScreen, Behind, Scalar, Expression, Constant, Plain, Variable, Location, Unary, Binary, Embedded, Input, Call, Expressions, NoMore, More, Reference, Refer, Subscripts, NoSubscripts, Subscript, Target, ToPlain, ToVariable, ToPort, Targets, Only, Also, Loop, Count, Statement, Empty, Assign, Evaluate, Return, ReturnValue, Enabling, Disabling, Halting, If, Block, While, Case, Iterate, Statements, End, Then, Procedure}

abbrev pub scalar_of : declared_scalar.Scalar → Scalar
scalar_of x = record { width = x.width; place = where_of x.place }

abbrev pub anchor_of : declared_anchor.Anchor → Anchor
anchor_of (anchor.InObject k start size) = InObject k start size
anchor_of (anchor.OnScreen page start size) = OnScreen page start size
anchor_of (anchor.Behind base) = Behind (where_of base)

abbrev mutual
  pub expression_of : declared_expression.Expression → Expression
  expression_of (expression.Constant k) = Constant k
  expression_of (expression.Plain width x) = Plain width (where_of x)
  expression_of (expression.Variable width r) = Variable width (reference_of r)
  expression_of (expression.Location r) = Location (reference_of r)
  expression_of (expression.Unary' o width p e) = Unary o width (expression_of e)
  expression_of (expression.Chain' p e shape os) = chained_in (expression_of e) os
  expression_of (expression.Embedded' p t q e) = Embedded (target_of t) (expression_of e)
  expression_of (expression.Input' width p e) = Input width (expression_of e)
  expression_of (expression.Call' p shape es) = Call p (expressions_in es)

  -- equal precedences go from left to right
  pub chained_in : {m : _} → Expression → Row_of-Operation m → Expression
  chained_in left end_of-Operation = left
  chained_in left (more_of-Operation l o width e os) = chained_in (Binary l.module l.line o width left (expression_of e)) os

  pub expressions_in : {m : _} → Row_of-Expression m → Expressions
  expressions_in end_of-Expression = NoMore
  expressions_in (more_of-Expression e es) = More (expression_of e) (expressions_in es)

  pub reference_of : declared_reference.Reference → Reference
  reference_of (Reference' l a offset shape ss) = Refer l.module l.line (anchor_of a) offset (subscripts_in ss)

  pub subscripts_in : {m : _} → Row_of-Subscript m → Subscripts
  subscripts_in end_of-Subscript = NoSubscripts
  subscripts_in (more_of-Subscript stride e ss) = Subscript stride (expression_of e) (subscripts_in ss)

  pub target_of : declared_target.Target → Target
  target_of (target.Plain width x) = ToPlain width (where_of x)
  target_of (target.Variable width r) = ToVariable width (reference_of r)
  target_of (target.Port width e) = ToPort width (expression_of e)

abbrev pub expressions_of : List declared_expression.Expression → Expressions
expressions_of [] = NoMore
expressions_of (e ∷ es) = More (expression_of e) (expressions_of es)

abbrev pub subscripts_of : List declared_subscript.Subscript → Subscripts
subscripts_of [] = NoSubscripts
subscripts_of (s ∷ ss) = Subscript s.stride (expression_of s.index) (subscripts_of ss)

-- a left operand, and operators with their right ones
abbrev pub chained : Expression → List Operation → Expression
chained left [] = left
chained left (o ∷ os) = chained (Binary o.line.module o.line.line o.operation o.width left (expression_of o.operand)) os

abbrev pub targets_of : Target → List declared_target.Target → Targets
targets_of t [] = Only t
targets_of t (u ∷ us) = Also t (targets_of (target_of u) us)

abbrev mutual
  pub statement_of : declared_statement.Statement → Statement
  statement_of statement.Empty = Empty
  statement_of (statement.Assign t ts e) = Assign (targets_of (target_of t) ts.items) (expression_of e)
  statement_of (statement.Evaluate e) = Evaluate (expression_of e)
  statement_of statement.Return = Return
  statement_of (statement.ReturnValue width e) = ReturnValue width (expression_of e)
  statement_of statement.Enable = Enabling
  statement_of statement.Disable = Disabling
  statement_of statement.Halt = Halting
  statement_of (statement.If' e shape ss other ts) = If (expression_of e) (statements_in ss) (statements_in ts)
  statement_of (statement.Block' shape ss) = Block (statements_in ss)
  statement_of (statement.While' e shape ss) = While (expression_of e) (expression_of e) (statements_in ss)
  statement_of (statement.Case' e shape ss) = Case (expression_of e) (statements_in ss)
  statement_of (statement.Iterate' a p o x bound step shape ss) = Iterate (expression_of a) (Count o (scalar_of x) (expression_of bound) (expression_of step) (statements_in ss))

  pub statements_in : {m : _} → Row_of-Statement-If-1-1 m → Statements
  statements_in end_of-Statement-If-1-1 = End
  statements_in (more_of-Statement-If-1-1 p s ss) = Then (statement_of s) (statements_in ss)

abbrev pub statements_of : List (Box declared_statement.Statement) → Statements
statements_of [] = End
statements_of (s ∷ ss) = Then (statement_of s.value) (statements_of ss)

abbrev pub loop_of : declared_loop.Loop → Loop
loop_of l = Count l.counting (scalar_of l.index) (expression_of l.bound) (expression_of l.step) (statements_of l.body.items)

abbrev pub procedure_of : declared_procedure.Procedure → Procedure
procedure_of p = record { parameters = map scalar_of p.parameters.items; body = statements_of p.body.items }

abbrev pub procedures_of : List declared_procedure.Procedure → List Procedure
procedures_of ps = map procedure_of ps

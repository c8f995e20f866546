-- Resolved trees with lists of others: what each stands for is said of what its list's trees stand for.
use Rattle.std.specs.Prelude.{◌≡◌}
use Rattle.std.specs.Global.{Vec, Box}
use Rattle.plm_syntax.specs.declared.tree.Position.{Position}
use Rattle.plm_syntax.specs.declared.tree.LocationForm.{LocationForm}
use Rattle.plm_decl.specs.declared.resolved.Bounds.{Bounds}
use Rattle.plm_decl.specs.declared.resolved.Expression.{Expression}
use Rattle.plm_decl.specs.declared.resolved.Expression.TheVariants as expression
use Rattle.plm_decl.specs.declared.resolved.Operation.{Operation}
use Rattle.plm_decl.specs.declared.resolved.Reference.{Reference}
use Rattle.plm_decl.specs.declared.resolved.Location.TheVariants as location
use Rattle.plm_decl.specs.declared.resolved.Statement.{Statement}
use Rattle.plm_decl.specs.declared.resolved.Statement.TheVariants as statement
use Rattle.plm_decl.specs.Resolved.{ReferenceR, EmbeddedR, LocationOf, DoR, WhileR, CaseR, IterateR}
use Rattle.plm_decl.specs.ResolvedView.{expression_of, leaned, reference_of, location_of, step_of, statement_of, statements_of}

pub record ResolvedTreesHaveTheirLists : Type 0 where
  pub reference : (r : Reference) → expression_of (expression.Reference r) ≡ ReferenceR (reference_of r)
  pub embedded : (p : Position) (r : Reference) (e : Box Expression) → expression_of (expression.Embedded p r e) ≡ EmbeddedR p (reference_of r) (expression_of e.value)
  pub chain : (e : Box Expression) (os : Vec Operation) → expression_of (expression.Chain e os) ≡ leaned (expression_of e.value) os.items
  pub location : (p : Position) (f : LocationForm) (r : Reference) → location_of (location.Reference p f r) ≡ LocationOf p f (reference_of r)
  pub block : (p : Position) (ss : Vec Statement) → statement_of (statement.Do p ss) ≡ DoR p (statements_of ss.items)
  pub while_true : (p : Position) (e : Expression) (ss : Vec Statement) → statement_of (statement.While p e ss) ≡ WhileR p (expression_of e) (statements_of ss.items)
  pub case_of : (p : Position) (e : Expression) (ss : Vec Statement) → statement_of (statement.Case p e ss) ≡ CaseR p (expression_of e) (statements_of ss.items)
  pub iterate : (p q : Position) (b : Box Bounds) (ss : Vec Statement) → statement_of (statement.Iterate p q b ss) ≡ IterateR p q b.value.binding (expression_of b.value.from) (expression_of b.value.to) (step_of b.value.step) (statements_of ss.items)

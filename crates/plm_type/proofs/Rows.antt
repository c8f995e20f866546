-- The lists of a program's trees, joined from their rows.
use Rattle.std.proofs.Common.{◌≡◌, ℕ, refl, sym, ap, ◌∙◌}
use Rattle.std.specs.Global.{Vec, Box}
use Rattle.plm_type.specs.declared.program.Expression.{Expression, Row_of-Expression, end_of-Expression, more_of-Expression, items-the_row-Expression, items_hidden-the_row-Expression-1, Row_of-Operation, end_of-Operation, more_of-Operation, items-the_row-Operation, items_hidden-the_row-Operation-0}
use Rattle.plm_type.specs.declared.program.Expression.TheVariants as expression
use Rattle.plm_type.specs.declared.program.Expression.TheBlock.{hidden-the_row-Expression-1, hidden-the_row-Operation-0, hidden-the_row-Subscript-2}
use Rattle.plm_type.specs.declared.program.Operation.{Operation}
use Rattle.plm_type.specs.declared.program.Subscript.{Subscript}
use Rattle.plm_type.specs.declared.program.Loop.{Loop}
use Rattle.plm_type.specs.declared.program.Reference.{Reference, Row_of-Subscript, end_of-Subscript, more_of-Subscript, items-the_row-Subscript, items_hidden-the_row-Subscript-2, items_shown-the_row-Subscript-2, Reference', out-Reference}
use Rattle.plm_type.specs.declared.program.Statement.{Statement, Row_of-Statement-If-1-1, end_of-Statement-If-1-1, more_of-Statement-If-1-1, items-the_row-Statement-If-1-1, items_hidden-the_row-Statement-If-1-1-0}
use Rattle.plm_type.specs.declared.program.Statement.TheVariants as statement
use Rattle.plm_type.specs.declared.program.Statement.TheBlock.{hidden-the_row-Statement-If-1-1-0}
use Rattle.plm_type.specs.Rest as rest
use Rattle.plm_type.specs.View.{expression_of, expressions_in, expressions_of, chained_in, chained, subscripts_in, subscripts_of, statement_of, statements_in, statements_of, scalar_of, loop_of, reference_of, anchor_of}
use Rattle.plm_type.specs.Laws.{TreesHaveTheirLists}

expression_rows : {m : _} (row : Row_of-Expression m) → expressions_in row ≡ expressions_of (items-the_row-Expression m row)
expression_rows end_of-Expression = refl
expression_rows (more_of-Expression e es) = ap (rest.More (expression_of e)) (expression_rows es)

pub expression_row : (v : Vec Expression) → expressions_in (hidden-the_row-Expression-1 v) ≡ expressions_of v.items
expression_row v = expression_rows (hidden-the_row-Expression-1 v) ∙ ap expressions_of (items_hidden-the_row-Expression-1 v)

operation_rows : {m : _} (row : Row_of-Operation m) (e : rest.Expression) → chained_in e row ≡ chained e (items-the_row-Operation m row)
operation_rows end_of-Operation e = refl
operation_rows (more_of-Operation l o width a os) e = operation_rows os (rest.Binary l.module l.line o width e (expression_of a))

pub operation_row : (v : Vec Operation) (e : rest.Expression) → chained_in e (hidden-the_row-Operation-0 v) ≡ chained e v.items
operation_row v e = operation_rows (hidden-the_row-Operation-0 v) e ∙ ap (chained e) (items_hidden-the_row-Operation-0 v)

subscript_rows : {m : _} (row : Row_of-Subscript m) → subscripts_in row ≡ subscripts_of (items-the_row-Subscript m row)
subscript_rows end_of-Subscript = refl
subscript_rows (more_of-Subscript stride e ss) = ap (rest.Subscript stride (expression_of e)) (subscript_rows ss)

pub subscript_row : (v : Vec Subscript) → subscripts_in (hidden-the_row-Subscript-2 v) ≡ subscripts_of v.items
subscript_row v = subscript_rows (hidden-the_row-Subscript-2 v) ∙ ap subscripts_of (items_hidden-the_row-Subscript-2 v)

statement_rows : {m : _} (row : Row_of-Statement-If-1-1 m) → statements_in row ≡ statements_of (items-the_row-Statement-If-1-1 m row)
statement_rows end_of-Statement-If-1-1 = refl
statement_rows (more_of-Statement-If-1-1 p s ss) = ap (rest.Then (statement_of s)) (statement_rows ss)

pub statement_row : (v : Vec (Box Statement)) → statements_in (hidden-the_row-Statement-If-1-1-0 v) ≡ statements_of v.items
statement_row v = statement_rows (hidden-the_row-Statement-If-1-1-0 v) ∙ ap statements_of (items_hidden-the_row-Statement-If-1-1-0 v)

-- the trees of a value of Rust: statements
pub if_tree : (e : Expression) (arm other : Vec (Box Statement)) → statement_of (statement.If e arm other) ≡ rest.If (expression_of e) (statements_of arm.items) (statements_of other.items)
if_tree e arm other = ap (λ ss. rest.If (expression_of e) ss (statements_in (hidden-the_row-Statement-If-1-1-0 other))) (statement_row arm) ∙ ap (rest.If (expression_of e) (statements_of arm.items)) (statement_row other)

-- expressions
chain_tree : (e : Box Expression) (os : Vec Operation) → expression_of (expression.Chain e os) ≡ chained (expression_of e.value) os.items
chain_tree e os = operation_row os (expression_of e.value)

call_tree : (p : ℕ) (es : Vec Expression) → expression_of (expression.Call p es) ≡ rest.Call p (expressions_of es.items)
call_tree p es = ap (rest.Call p) (expression_row es)

reference_tree : (r : Reference) → reference_of r ≡ rest.Refer (out-Reference r).line.module (out-Reference r).line.line (anchor_of (out-Reference r).anchor) (out-Reference r).offset (subscripts_of (out-Reference r).subscripts.items)
unfolding out-Reference denote.Hole.Carrier.out
reference_tree (Reference' l a offset shape ss) = ap (rest.Refer l.module l.line (anchor_of a) offset) (subscript_rows ss ∙ ap subscripts_of (sym (items_shown-the_row-Subscript-2 shape ss)))

pub iterate_tree : (e : Expression) (l : Box Loop) → statement_of (statement.Iterate e l) ≡ rest.Iterate (expression_of e) (loop_of l.value)
iterate_tree e l = ap (λ ss. rest.Iterate (expression_of e) (rest.Count l.value.counting (scalar_of l.value.index) (expression_of l.value.bound) (expression_of l.value.step) ss)) (statement_row l.value.body)

pub lists_are_theirs : TreesHaveTheirLists
lists_are_theirs = record {
  call = call_tree;
  chain = chain_tree;
  reference = reference_tree;
  block = λ body. ap rest.Block (statement_row body);
  if_else = if_tree;
  while_true = λ e body. ap (rest.While (expression_of e) (expression_of e)) (statement_row body);
  case_of = λ e cases. ap (rest.Case (expression_of e)) (statement_row cases);
  iterate = iterate_tree;
}

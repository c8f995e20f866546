-- The trees of parts as they are put together.
use Rattle.std.proofs.Common.{◌≡◌, List, ◌∷◌, sym, ap, ◌∙◌}
use Rattle.std.specs.Global.{Vec}
use Rattle.plm_syntax.specs.declared.tree.Position.{Position}
use Rattle.plm_syntax.specs.declared.tree.Expression.{Expression}
use Rattle.plm_syntax.specs.declared.tree.Expression.TheBlock.{hidden-the_row-Expression-0, hidden-the_row-Operation-1, hidden-the_row-Value-2}
use Rattle.plm_syntax.specs.declared.tree.Reference.{Reference}
use Rattle.plm_syntax.specs.declared.tree.Value.{Value as ValueTree}
use Rattle.plm_syntax.specs.declared.tree.Operation.{Operation}
use Rattle.plm_syntax.specs.declared.cursor.Cursor.{Cursor}
use Rattle.plm_syntax.specs.Tree.{LocationForm, ExpressionT, EmbeddedE, ReferenceT, ReferenceOf, ExpressionsT, no_expressions, LocationOf, ConstantsOf, no_values}
use Rattle.plm_syntax.specs.View.{name_of, expression_of, leaned, leaned_in, expressions_in, selector_of, reference_of, values_in, values_of}
use Rattle.plm_syntax.specs.Inner.Symbol.{Value, Symbol, ExpressionR}
use Rattle.plm_syntax.specs.Inner.Machine.{run}
use Rattle.plm_syntax.specs.Inner.Parsed.{ahead}
use Rattle.plm_syntax.proofs.Rows.{expression_row, operation_row, value_row}

pub seen : (s : List Symbol) (v : List Value) (c : Cursor) {w w' : ExpressionT} → w ≡ w' → run 64 s (ExpressionR w ∷ v) (ahead c) ≡ run 64 s (ExpressionR w' ∷ v) (ahead c)
seen s v c h = ap (λ (w : ExpressionT). run 64 s (ExpressionR w ∷ v) (ahead c)) h

-- a reference as a part of an expression
abbrev pub laid : Reference → ReferenceT
laid x = ReferenceOf (name_of x.name) (expressions_in (hidden-the_row-Expression-0 x.subscripts) no_expressions) (selector_of x.selector)

pub reference_laid : (x : Reference) → reference_of x ≡ laid x
reference_laid x = ap (λ (es : ExpressionsT). ReferenceOf (name_of x.name) es (selector_of x.selector)) (sym (expression_row x.subscripts))

pub embedded_laid : (p : Position) (x : Reference) (e : ExpressionT) → EmbeddedE p (reference_of x) e ≡ EmbeddedE p (laid x) e
embedded_laid p x e = ap (λ (r : ReferenceT). EmbeddedE p r e) (reference_laid x)

pub constants_laid : (p : Position) (f : LocationForm) (vs : Vec ValueTree) → ConstantsOf p f (values_of vs.items) ≡ ConstantsOf p f (values_in (hidden-the_row-Value-2 vs) no_values)
constants_laid p f vs = ap (ConstantsOf p f) (sym (value_row vs))

pub location_laid : (p : Position) (f : LocationForm) (x : Reference) → LocationOf p f (reference_of x) ≡ LocationOf p f (laid x)
location_laid p f x = ap (LocationOf p f) (reference_laid x)

pub chain_laid : {e b : Expression} (os : Vec Operation) → b ≡ e → leaned (expression_of e) os.items ≡ leaned_in (expression_of b) (hidden-the_row-Operation-1 os)
chain_laid {e} {b} os h = ap (λ (w : Expression). leaned (expression_of w) os.items) (sym h) ∙ sym (operation_row (expression_of b) os)

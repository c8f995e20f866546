-- Operators of one precedence lean left.
use Rattle.std.proofs.Common.{◌≡◌, List, [], ◌∷◌, None, false, length, cond, nat_eq, refl, sym, ap, ◌∙◌, arith}
use Rattle.std.specs.Global.{Vec}
use Rattle.std.proofs.lemmas.Bool.Decides.{nat_tests}
use Rattle.plm_syntax.specs.declared.tree.Position.{Position}
use Rattle.plm_syntax.specs.declared.tree.BinaryOperator.{BinaryOperator}
use Rattle.plm_syntax.specs.declared.tree.Operation.{Operation}
use Rattle.plm_syntax.specs.Tree.{ExpressionT, BinaryE}
use Rattle.plm_syntax.specs.View.{expression_of, leaned}
use Rattle.plm_decl.specs.Scope.{Frame}
use Rattle.plm_decl.specs.Resolver.{Known}
use Rattle.plm_decl.specs.Expressions.{expression}
use Rattle.plm_decl.specs.Inner.Expressions.{chained}
use Rattle.plm_decl.specs.Sites.{number_in}
use Rattle.plm_decl.specs.Resolved.{ExpressionR, BinaryR}
use Rattle.plm_decl.specs.ResolvedView as view
use Rattle.plm_decl.specs.declared.resolved.Operation as resolved
use Rattle.plm_decl.specs.declared.resolved.Expression.TheBlock as block
use Rattle.plm_decl.proofs.ResolvedRows.{operation_row}

pub chained_is : (frames : List Frame) (left : ExpressionT) (os : List Operation) (k : Known)
    → chained frames (expression frames left k).0 os (expression frames left k).1 ≡ expression frames (leaned left os) k
chained_is frames left [] k = refl
chained_is frames left (x ∷ xs) k = chained_is frames (BinaryE x.place x.operator left (expression_of x.operand)) xs k

-- ---- a resolved chain as a number

leaned_number : (p : Position) (o : BinaryOperator) (a b : ExpressionR) (os : List resolved.Operation) → number_in (view.leaned (BinaryR p o a b) os) ≡ None
leaned_number p o a b [] = refl
leaned_number p o a b (x ∷ xs) = leaned_number x.place x.operator (BinaryR p o a b) (view.expression_of x.operand) xs

listed_number : (left : ExpressionR) (os : List resolved.Operation) → number_in (view.leaned left os) ≡ cond (nat_eq (length os) 0) (number_in left) None
listed_number left [] = refl
listed_number left (x ∷ xs) =
    let more : nat_eq (length (x ∷ xs)) 0 ≡ false = grind (arith, nat_tests) in
    leaned_number x.place x.operator left (view.expression_of x.operand) xs ∙ sym (ap (λ b. cond b (number_in left) None) more)

-- one without operators is what it begins with
pub chain_number : (left : ExpressionR) (v : Vec resolved.Operation) → number_in (view.leaned_in left (block.hidden-the_row-Operation-1 v)) ≡ cond (nat_eq (length v.items) 0) (number_in left) None
chain_number left v = ap number_in (operation_row left v) ∙ listed_number left v.items

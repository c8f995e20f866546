-- Operators of one precedence, from the Rust tree; and the object of constant bytes.
use Rattle.std.specs.Prelude.{ℕ, List, [], ◌∷◌, length}
use Rattle.plm_syntax.specs.declared.tree.Operation.{Operation}
use Rattle.plm_syntax.specs.View.{expression_of}
use Rattle.plm_decl.specs.Scope.{Frame}
use Rattle.plm_decl.specs.Resolver.{Known}
use Rattle.plm_decl.specs.Resolved.{ExpressionR, BinaryR}
use Rattle.plm_decl.specs.declared.names.Datum.{Datum}
use Rattle.plm_decl.specs.Expressions.{with_constants, expression}

-- what stands to their left is resolved, and this much is known then
abbrev pub chained : List Frame → ExpressionR → List Operation → Known → ExpressionR × Known
chained frames left [] k = (left, k)
chained frames left (x ∷ xs) k = let r = expression frames (expression_of x.operand) k in chained frames (BinaryR x.place x.operator left r.0) xs r.1

-- an object of these bytes, and its number
abbrev pub constants_put : List Frame → List Datum → Known → ℕ × Known
constants_put frames bytes k = (length k.objects, with_constants frames bytes k)

-- The effects of lists of the Rust trees.
use Rattle.std.specs.Prelude.{List, [], ◌∷◌, ◌++◌}
use Rattle.plm_decl.specs.declared.resolved.Operation.{Operation}
use Rattle.plm_decl.specs.ResolvedView.{expression_of}
use Rattle.plm_type.specs.declared.effects.Effect.{Effect}
use Rattle.plm_type.specs.Effects.{of_expression}

-- of the right operands of a chain
abbrev pub of_operations : List Operation → List Effect
of_operations [] = []
of_operations (o ∷ os) = of_expression (expression_of o.operand) ++ of_operations os

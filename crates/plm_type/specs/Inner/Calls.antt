-- The calls of lists of the Rust trees.
use Rattle.std.specs.Prelude.{ℕ, List, [], ◌∷◌, ◌++◌}
use Rattle.plm_type.specs.declared.program.Operation as declared
use Rattle.plm_type.specs.View.{expression_of}
use Rattle.plm_type.specs.Rest.{Target}
use Rattle.plm_type.specs.Calls.{calls_in, target_calls}

-- of the right operands of a chain
abbrev pub operation_calls : List declared.Operation → List ℕ
operation_calls [] = []
operation_calls (o ∷ os) = calls_in (expression_of o.operand) ++ operation_calls os

abbrev pub all_target_calls : List Target → List ℕ
all_target_calls [] = []
all_target_calls (t ∷ ts) = target_calls t ++ all_target_calls ts

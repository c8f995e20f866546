-- Operators of one precedence with their right operands, after a left operand.
use Rattle.std.specs.Prelude.{ℕ, List, [], ◌∷◌}
use Rattle.plm_syntax.specs.declared.tree.Position.{Position}
use Rattle.plm_decl.specs.declared.names.Variable.{Variable}
use Rattle.plm_decl.specs.declared.resolved.Operation.{Operation}
use Rattle.plm_decl.specs.Names.{ProcedureR}
use Rattle.plm_decl.specs.ResolvedView.{expression_of}
use Rattle.plm_type.specs.Typer.{Typed}
use Rattle.plm_type.specs.Expressions.{typed, binary}

module _ (variables : List Variable) (procedures : List ProcedureR) (sizes : List ℕ) (module_index : ℕ) where
  -- the chain begins at this place
  abbrev pub joined : Position → Typed → Operation → Typed
  joined p e o = binary module_index o.place o.operator p e (typed variables procedures sizes module_index (expression_of o.operand))

  abbrev pub chain : Position → Typed → List Operation → Typed
  chain p e [] = e
  chain p e (o ∷ os) = chain p (joined p e o) os

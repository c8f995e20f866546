-- The nodes of typed expressions.
use Rattle.std.specs.Prelude.{ℕ, ◌+◌}
use Rattle.plm_type.specs.Rest.{Expression, Constant, Plain, Variable, Location, Unary, Binary, Embedded, Input, Call, Value, Passing, Running, Expressions, NoMore, More, Reference, Refer, Subscripts, NoSubscripts, Subscript, Target, ToPlain, ToVariable, ToPort, Targets, Only, Also}

abbrev mutual
  pub nodes : Expression → ℕ
  nodes (Constant k) = 1
  nodes (Plain width x) = 1
  nodes (Variable width r) = reference_nodes r
  nodes (Location r) = reference_nodes r
  nodes (Unary o width e) = 1 + nodes e
  nodes (Binary module_index line o width a b) = 1 + nodes a + nodes b
  nodes (Embedded t e) = target_nodes t + nodes e
  nodes (Input width e) = 1 + nodes e
  nodes (Call p es) = 1 + all_nodes es
  nodes (Value v) = 0
  nodes (Passing p xs vs) = 0
  nodes (Running ss) = 0

  pub all_nodes : Expressions → ℕ
  all_nodes NoMore = 0
  all_nodes (More e es) = nodes e + all_nodes es

  pub reference_nodes : Reference → ℕ
  reference_nodes (Refer module_index line anchor offset ss) = 1 + subscripts_nodes ss

  pub subscripts_nodes : Subscripts → ℕ
  subscripts_nodes NoSubscripts = 0
  subscripts_nodes (Subscript stride e more) = nodes e + subscripts_nodes more

  pub target_nodes : Target → ℕ
  target_nodes (ToPlain width x) = 1
  target_nodes (ToVariable width r) = reference_nodes r
  target_nodes (ToPort width e) = nodes e

abbrev pub targets_nodes : Targets → ℕ
targets_nodes (Only t) = target_nodes t
targets_nodes (Also t ts) = target_nodes t + targets_nodes ts

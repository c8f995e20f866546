-- How often what comes first of an expression is itself an expression of which a part comes first.
use Rattle.std.specs.Prelude.{ℕ, suc}
use Rattle.plm_type.specs.Rest.{Expression, Constant, Plain, Variable, Location, Unary, Binary, Embedded, Input, Call, Value, Passing, Running, Expressions, NoMore, More, Reference, Refer, Subscripts, NoSubscripts, Subscript}

abbrev mutual
  pub depth : Expression → ℕ
  depth (Constant k) = 0
  depth (Plain width x) = 0
  depth (Variable width r) = reference_depth r
  depth (Location r) = reference_depth r
  depth (Unary o width e) = suc (depth e)
  depth (Binary module_index line o width a b) = suc (depth a)
  depth (Embedded t e) = suc (depth e)
  depth (Input width e) = suc (depth e)
  depth (Call n es) = arguments_depth es
  depth (Value v) = 0
  depth (Passing p xs vs) = 0
  depth (Running ss) = 0

  pub arguments_depth : Expressions → ℕ
  arguments_depth NoMore = 0
  arguments_depth (More e es) = suc (depth e)

  pub reference_depth : Reference → ℕ
  reference_depth (Refer module_index line a offset ss) = subscripts_depth ss

  pub subscripts_depth : Subscripts → ℕ
  subscripts_depth NoSubscripts = 0
  subscripts_depth (Subscript stride e ss) = suc (depth e)

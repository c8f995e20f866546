use Rattle.std.proofs.Common.{◌≡◌, drop}
use Rattle.lower.specs.Inner.LowBytes.{bytes_from}
use Rattle.lower.proofs.low_bytes.+bytes.Given as goal

abbrev pub invariant-operators_give-loop-operation : goal.invariant-operators_give-loop-operation
invariant-operators_give-loop-operation l = bytes_from l.byte (drop l.operation-index l.operations) ≡ bytes_from l.fn.left l.operations

use Rattle.std.proofs.Common.{◌≡◌, ◌++◌, drop}
use Rattle.plm_type.specs.View.{procedures_of}
use Rattle.lower.specs.Inner.Expressions.{chain_value}
use Rattle.lower.specs.Inner.LowBytes.{low_chain_code}
use Rattle.lower.proofs.low_bytes.+low.Given as goal

abbrev pub invariant-low_operations-loop-operation : goal.invariant-low_operations-loop-operation
invariant-low_operations-loop-operation l =
    let ps = procedures_of l.callees.procedures.now in
    record {
      coded : l.code.items ++ low_chain_code ps l.value (drop l.operation-index l.operations) ≡ l.initial.code.items ++ low_chain_code ps l.fn.left l.operations;
      found : chain_value l.value (drop l.operation-index l.operations) ≡ chain_value l.fn.left l.operations;
    }

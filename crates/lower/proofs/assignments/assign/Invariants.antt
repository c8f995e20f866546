use Rattle.std.proofs.Common.{◌≡◌, ◌++◌, drop}
use Rattle.plm_type.specs.View.{procedures_of}
use Rattle.lower.specs.Inner.Expressions.{others_code}
use Rattle.lower.proofs.assignments.assign.Given as goal

abbrev pub invariant-loop-other : goal.invariant-loop-other
invariant-loop-other l =
    let ps = procedures_of l.callees.procedures.now in
    l.code.items ++ others_code ps (drop l.other-index l.others) ≡ l.initial.code.items ++ others_code ps l.others

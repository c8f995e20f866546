use Rattle.std.proofs.Common.{refl}
use Rattle.plm_type.proofs.Faultless.{lets_nothing_in, none_misused}
use Rattle.plm_type.proofs.checking.check.Goals as goal

pub invariant_of-result : goal.invariant_of-result
invariant_of-result c =
    let names = c.args.names in
    let parts = c.in-Ok.ensures in
    record {
      main_is = parts.main;
      procedures_are = parts.procedures;
      handlers_are = parts.handlers;
      no_fault = parts.faults;
      lets_nothing_in = lets_nothing_in names parts.interrupts;
      none_misused = none_misused names parts.interrupts;
      no_recursion = parts.recursion;
      only = parts.order.only;
      each = parts.order.each;
      once = parts.order.once;
      later = parts.order.later;
    }

pub returns-in-Ok-clause-typed : goal.returns-in-Ok-clause-typed
returns-in-Ok-clause-typed c =
    let names = c.args.names in
    let parts = c.in-Ok.ensures in
    record {
      kept = refl;
      main = parts.main;
      procedures = parts.procedures;
      no_fault = parts.faults;
      lets_nothing_in = lets_nothing_in names parts.interrupts;
      none_misused = none_misused names parts.interrupts;
      no_recursion = parts.recursion;
      order = parts.order;
    }

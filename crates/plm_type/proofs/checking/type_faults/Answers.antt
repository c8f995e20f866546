use Rattle.plm_type.proofs.Typing.{as_many_procedures}
use Rattle.plm_type.proofs.checking.type_faults.Goals as goal

pub whole_faults-requires : goal.whole_faults-requires
whole_faults-requires c = as_many_procedures c.args.names.now c.deref.result.now _ c.deref.ensures.value c.in_ok-typed.ensures.procedures

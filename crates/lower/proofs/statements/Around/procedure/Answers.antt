use Rattle.std.proofs.Common.{Some, ap, ◌∙◌}
use Rattle.plm_decl.specs.Names.{procedure_of}
use Rattle.plm_type.specs.View.{statements_of, procedures_of}
use Rattle.lower.specs.Lowering.{kind_of, has_vector}
use Rattle.lower.proofs.Procedures.{lowered_by}
use Rattle.lower.proofs.statements.Around.procedure.Goals as goal

pub returns-clause-code : goal.returns-clause-code
returns-clause-code c =
    lowered_by (procedures_of c.args.self.callees.procedures.now) (procedure_of c.args.declared.now) (statements_of c.args.body.now) c.vector_of-vector.result c.kind_of-kind.result c.in_ok-instructions.instructions.items
    c.vector_of-vector.ensures (c.kind_of-kind.ensures ∙ ap (kind_of (has_vector (Some c.vector_of-vector.result))) c.are_giving.ensures) c.in_ok-instructions.ensures.code

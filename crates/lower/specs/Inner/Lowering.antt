-- A procedure of the code as a plain value, and what it is lowered from: what is declared, and the typed body.
use Rattle.std.specs.Prelude.{ℕ, List, [], ◌∷◌, Option, Some}
use Rattle.plm_decl.specs.Names.{ProcedureR}
use Rattle.plm_type.specs.Rest.{Statements, Procedure}
use Rattle.icode.specs.declared.instruction.Instruction.{Instruction}
use Rattle.icode.specs.declared.code.Procedure as code
use Rattle.lower.specs.Expressions.{are_giving}
use Rattle.lower.specs.Statements.{routine_code}
use Rattle.lower.specs.Lowering.{kind_of, has_vector}
use Rattle.plm_decl.specs.Names.{vector_of}

pub record ProcedureC : Type 0 where
  pub «module» : ℕ
  pub vector : Option ℕ
  pub instructions : List Instruction

abbrev pub plain : code.Procedure → ProcedureC
plain p = record { «module» = p.module; vector = p.vector; instructions = p.instructions.items }

module _ (procedures : List Procedure) where
  abbrev pub one_lowered : ProcedureR → Statements → ProcedureC
  one_lowered p body = record {
    «module» = p.module;
    vector = vector_of p;
    instructions = routine_code procedures (kind_of (has_vector (Some (vector_of p))) (are_giving body)) body;
  }

  abbrev pub all_lowered : List ProcedureR → List Procedure → List ProcedureC
  all_lowered [] qs = []
  all_lowered (p ∷ ps) [] = []
  all_lowered (p ∷ ps) (q ∷ qs) = one_lowered p q.body ∷ all_lowered ps qs

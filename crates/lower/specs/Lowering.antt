-- What `lower` gives: the code of a program's trees, each procedure in the section of its module.
use Rattle.std.specs.Prelude.{ℕ, suc, Bool, true, false, cond, List, [], ◌∷◌, Option, Some, None, slice_get, ◌≡◌, max, map}
use Rattle.plm_type.specs.Rest.{Statements, Procedure}
use Rattle.icode.specs.declared.instruction.Instruction.{Instruction}
use Rattle.icode.specs.declared.instruction.Instruction.TheVariants as op
use Rattle.icode.specs.declared.code.Routine.{Routine}
use Rattle.icode.specs.declared.code.Routine.TheVariants as routine
use Rattle.plm_decl.specs.declared.names.Names.{Names}
use Rattle.plm_decl.specs.Names.{ProcedureR, main_of, vector_of}
use Rattle.plm_type.specs.Programs.{declared_procedures, main_tree, procedures_of, handler_number}
use Rattle.icode.specs.declared.code.Code.{Code}
use Rattle.icode.specs.Code.{code_of, serving, procedure_or_none}
use Rattle.lower.specs.Expressions.{are_giving, gives}
use Rattle.lower.specs.Statements.{routine_code, Kind, OfMain, Called, Giving, Serving}

-- ---- a program: its procedures, the vector of each that serves one, and main's statements

abbrev pub has_vector : Option (Option ℕ) → Bool
has_vector (Some (Some v)) = true
has_vector (Some None) = false
has_vector None = false

abbrev pub serves : (vectors : List (Option ℕ)) → (procedure : ℕ) → Bool
serves vectors q = has_vector (slice_get vectors q)

-- what an interrupt may enter: a procedure that serves a vector, or none
abbrev pub MayBeEntered : (vectors : List (Option ℕ)) → Option ℕ → Type 0
MayBeEntered vectors o = (q : ℕ) → o ≡ Some q → serves vectors q ≡ true

abbrev pub kind_of : (serves gives : Bool) → Kind
kind_of serves gives = cond serves Serving (cond gives Giving Called)

-- a procedure that there is not has no instructions
abbrev pub procedure_code : List Procedure → (serves : Bool) → Option Procedure → List Instruction
procedure_code procedures serves (Some p) = routine_code procedures (kind_of serves (are_giving p.body)) p.body
procedure_code procedures serves None = []

abbrev pub code : List Procedure → (vectors : List (Option ℕ)) → (main : Statements) → Routine → List Instruction
code procedures vectors main routine.Main = routine_code procedures OfMain main
code procedures vectors main (routine.Procedure q) = procedure_code procedures (serves vectors q) (slice_get procedures q)
code procedures vectors main routine.Unserved = op.Finish ∷ []
code procedures vectors main routine.Nowhere = []

-- the last module that has a procedure, or main
abbrev pub last_module : ℕ → List ProcedureR → ℕ
last_module main [] = main
last_module main (p ∷ ps) = max p.module (last_module main ps)

module _ (names : Names) where
  abbrev pub vectors_of : List (Option ℕ)
  vectors_of = map vector_of (declared_procedures names)

  abbrev pub program_code : Routine → List Instruction
  program_code = code (procedures_of names) vectors_of (main_tree names)

  pub record IsLowered (c : Code) : Type 0 where
    pub code_is : (r : Routine) → code_of c r ≡ program_code r
    pub vectors_are : map (λ p. p.vector) c.procedures.items ≡ vectors_of
    pub modules_are : map (λ p. p.module) c.procedures.items ≡ map (λ p. p.module) (declared_procedures names)
    pub main_is_in : c.main_module ≡ (main_of names.main).module
    pub sections_are : c.sections ≡ suc (last_module (main_of names.main).module (declared_procedures names))

-- What an interrupt does: the procedure that it enters in the meaning serves a vector, and the code enters the same one.
pub record EntersTheSame (names : Names) (vector : ℕ) : Type 0 where
  pub meant : MayBeEntered (vectors_of names) (handler_number names vector)
  pub coded : (c : Code) → IsLowered names c → serving c vector ≡ procedure_or_none (handler_number names vector)

abbrev pub EntryLaw : Type 0
EntryLaw = (names : Names) (vector : ℕ) → EntersTheSame names vector

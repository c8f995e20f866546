-- What lowering promises: the code of a program does what the program means, up to the first Bad step.
use Rattle.std.specs.Prelude.{◌≡◌, ℕ, false, List, [], length, Option, Some, slice_get}
use Rattle.word86.specs.Access.{Access, answers}
use Rattle.word86.specs.Following.{Tracks}
use Rattle.plm_decl.specs.Placement.{IsPlacement}
use Rattle.plm_type.specs.Rest.{Statements, Procedure, Rest, Main, Handler}
use Rattle.plm_type.specs.Next.{next}
use Rattle.plm_type.specs.Calls.{graph_of}
use Rattle.plm_type.specs.Order.{IsOrder}
use Rattle.icode.specs.declared.code.Routine.TheVariants as routine
use Rattle.icode.specs.Machine.{Context, At, does}
use Rattle.icode.specs.Code.{procedure_or_none}
use Rattle.lower.specs.Expressions.{are_giving}
use Rattle.lower.specs.Statements.{OfMain}
use Rattle.lower.specs.Lowering.{kind_of, serves, MayBeEntered, code}
use Rattle.plm_type.specs.Programs.{body_for}
use Rattle.lower.specs.Well.{AreStatements}

-- a program whose trees are well formed, and in which no procedure that serves a vector is called
pub record IsProgram (sizes : List ℕ) (procedures : List Procedure) (vectors : List (Option ℕ)) (main : Statements) : Type 0 where
  pub each : length vectors ≡ length procedures
  pub bodies : (q : ℕ) (procedure : Procedure) → slice_get procedures q ≡ Some procedure → AreStatements sizes procedures (λ p. serves vectors p ≡ false) (kind_of (serves vectors q) (are_giving procedure.body)) procedure.body
  pub main_body : AreStatements sizes procedures (λ p. serves vectors p ≡ false) OfMain main

-- for n steps of the code, from a context on, with at most two instructions without a step of the rest
abbrev pub CodeTracks : (sizes : List ℕ) (procedures : List Procedure) (vectors : List (Option ℕ)) (main : Statements) (most n : ℕ) (offsets : List ℕ) → Rest → Context → Type 0
CodeTracks sizes procedures vectors main most n offsets r c = Tracks Access answers Rest (next offsets sizes procedures) Context (does offsets sizes (code procedures vectors main)) 2 most n 2 r c

-- wherever the objects lie, and whatever is in the accumulator: from where main begins, and from where what an interrupt may enter begins
abbrev pub LoweringTracks : (sizes : List ℕ) (procedures : List Procedure) (vectors : List (Option ℕ)) (main : Statements) → Type 0
LoweringTracks sizes procedures vectors main =
    (most : ℕ) × ((offsets : List ℕ) → IsPlacement offsets sizes → (n a : ℕ)
    → CodeTracks sizes procedures vectors main most n offsets (Main main) (At routine.Main 0 a [])
    × ((o : Option ℕ) → MayBeEntered vectors o → CodeTracks sizes procedures vectors main most n offsets (Handler (body_for procedures o)) (At (procedure_or_none o) 0 a [])))

-- for every program that has an order of its procedures in which each stands after those that it calls
abbrev pub LoweringLaw : Type 0
LoweringLaw =
    (sizes : List ℕ) (procedures : List Procedure) (vectors : List (Option ℕ)) (order : List ℕ) (main : Statements) → IsProgram sizes procedures vectors main → IsOrder order (graph_of procedures)
    → LoweringTracks sizes procedures vectors main

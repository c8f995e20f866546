-- The code tracks the program's rests, and the instructions follow the code.
use Rattle.std.proofs.Common.{◌≡◌, ℕ, List, [], sym, ap, ◌∙◌, subst, arith}
use Rattle.word86.specs.Access.{Access, answers}
use Rattle.word86.specs.Following.{Tracks}
use Rattle.plm_decl.specs.declared.names.Names.{Names}
use Rattle.plm_decl.specs.Placement.{IsPlacement, sizes_of}
use Rattle.plm_type.specs.Rest.{Rest}
use Rattle.plm_type.specs.Next.{next}
use Rattle.plm_type.specs.Programs.{main_tree, procedures_of, handler_number, main_rest, handler_rest}
use Rattle.i86_table.specs.Contexts.{Working}
use Rattle.icode.specs.declared.code.Routine.{Routine}
use Rattle.icode.specs.declared.code.Routine.TheVariants.{Main}
use Rattle.icode.specs.declared.code.Code.{Code}
use Rattle.icode.specs.Machine.{At, does}
use Rattle.icode.specs.Machine as machine
use Rattle.lower.specs.Lowering.{vectors_of, program_code, IsLowered, EntryLaw}
use Rattle.lower.specs.Runs.{runs_in, entered}
use Rattle.lower.specs.Tracking.{LoweringTracks}
use Rattle.select.specs.Promise.{Image, next_of, accumulator_of, Followed}
use Rattle.plm86.specs.Inner.Images.{IsImageOf, most_of, IsLoweredTo, IsCompiledTo, ProgramsAreFollowed}
use Rattle.plm86.proofs.Composition.Running.{code_is, entered_is}

-- ---- from the rests to the code

module _ (names : Names) (c : Code) (x : Image) (is : IsImageOf names c x) (lowered : IsLowered names c) (enters : EntryLaw) (placement : IsPlacement x.offsets (sizes_of names))
    (tracking : LoweringTracks (sizes_of names) (procedures_of names) (vectors_of names) (main_tree names)) where
  -- for n steps of the image's code, from where a routine begins
  abbrev CodeFrom : (n a : ℕ) → Rest → Routine → Type 0
  CodeFrom n a rest r = Tracks Access answers Rest (next x.offsets (sizes_of names) (procedures_of names)) machine.Context (next_of x) 2 (most_of names tracking) n 2 rest (At r 0 a [])

  runs_are : runs_in names x.offsets (sizes_of names) ≡ next_of x
  runs_are = ap (λ sizes. does x.offsets sizes (program_code names)) (sym is.sizes_are) ∙ ap (does x.offsets x.sizes) (sym (code_is names c x is))

  in_image : (n a : ℕ) (rest : Rest) (r : Routine)
      → Tracks Access answers Rest (next x.offsets (sizes_of names) (procedures_of names)) machine.Context (runs_in names x.offsets (sizes_of names)) 2 (most_of names tracking) n 2 rest (At r 0 a [])
      → CodeFrom n a rest r
  in_image n a rest r t =
      subst (λ runs. Tracks Access answers Rest (next x.offsets (sizes_of names) (procedures_of names)) machine.Context runs 2 (most_of names tracking) n 2 rest (At r 0 a [])) runs_are t

  main_tracks : (n a : ℕ) → CodeFrom n a (main_rest names) Main
  main_tracks n a = in_image n a (main_rest names) Main (tracking.1 x.offsets placement n a).0

  vector_tracks : (n v a : ℕ) → CodeFrom n a (handler_rest names v) (x.serving v)
  vector_tracks n v a =
      let there : CodeFrom n a (handler_rest names v) (entered names v) = in_image n a (handler_rest names v) (entered names v) ((tracking.1 x.offsets placement n a).1 (handler_number names v) (enters names v).meant) in
      subst (λ r. CodeFrom n a (handler_rest names v) r) (sym (entered_is names c x is lowered enters v)) there

  pub rests_are_tracked : IsLoweredTo names x (most_of names tracking)
  rests_are_tracked =
      record {
        tracks = λ n (g : Working). main_tracks n g.ax;
        bodies = λ n v d. vector_tracks n v (accumulator_of d);
      }

-- ---- from the code to the instructions

pub code_is_followed : (x : Image) (rom : List ℕ) → Followed x → IsCompiledTo x rom
code_is_followed x rom follows = record { follows = follows.follows; serves = follows.serves }

pub followed : ProgramsAreFollowed
followed names c x rom enters is lowered placement tracking follows =
    record {
      lowered = rests_are_tracked names c x is lowered enters placement tracking;
      compiled = code_is_followed x rom follows;
      paced = omega arith;
    }

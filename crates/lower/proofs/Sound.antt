-- The code of a program of well-formed trees is sound.
use Rattle.plm_decl.specs.Placement.{sizes_of}
use Rattle.plm_type.specs.Programs.{main_tree, procedures_of}
use Rattle.lower.specs.Checked.{SoundLaw}
use Rattle.lower.specs.Lowering.{vectors_of, program_code}
use Rattle.lower.proofs.Routines.{Calls, LetsIn, Ends, program_fits, has_heights, made}
use Rattle.lower.proofs.Reached.{unserving, in_graph, in_main}

pub checked_sound : SoundLaw
checked_sound names good =
    let sizes = sizes_of names in
    let procedures = procedures_of names in
    let vectors = vectors_of names in
    let main = main_tree names in
    record {
      has_heights = λ r. has_heights (Calls sizes procedures vectors main good r) (LetsIn sizes procedures vectors main good r) (Ends sizes procedures vectors main good r) (program_code names r) (program_fits sizes procedures vectors main good r);
      made = λ r. made (Calls sizes procedures vectors main good r) (LetsIn sizes procedures vectors main good r) (Ends sizes procedures vectors main good r) (program_code names r) (program_fits sizes procedures vectors main good r);
      calls = λ p q k e. in_graph sizes procedures vectors main good p k q e;
      main_calls = λ q k e. in_main sizes procedures vectors main good k q e;
      uncalled = λ r q k e. unserving sizes procedures vectors main good r k q e;
    }

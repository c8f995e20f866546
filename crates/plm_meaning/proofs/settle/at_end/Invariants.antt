use Rattle.std.proofs.Common.{◌≡◌, ◌<◌, vec_len, vec_capacity}
use Rattle.plm_type.specs.Rest.{End}
use Rattle.plm_meaning.specs.Context.{ToRun, to_run_in}
use Rattle.plm_meaning.proofs.settle.at_end.Given as goal

-- what is left without the frames taken off so far is what was to do
abbrev pub invariant-loop-frame : goal.invariant-loop-frame
invariant-loop-frame l = record {
  rest : to_run_in l.context.frames.items (ToRun End) ≡ to_run_in l.initial.context.frames.items (ToRun End);
  room : vec_len l.context.frames < vec_capacity l.context.frames;
}

abbrev pub decreases-loop-frame : goal.decreases-loop-frame
decreases-loop-frame l = vec_len l.context.frames

use Rattle.plm86.proofs.compile.layers_keep_their_promises.Goals as goal

pub returns : goal.returns
returns c = record {
  one_form = c.one_form.ensures.only;
  short = c.one_form.ensures.short;
  widths = c.decoded_widths.ensures;
  words = c.instructions_keep_words.ensures;
  below = c.laws_below.ensures;
  tracks = c.lowering_tracks.ensures;
  well_formed = c.checked_trees_are_well_formed.ensures;
  sound = c.checked_code_is_sound.ensures;
  runs = c.checked_runs_are_allowed.ensures;
  room = c.code_has_room.ensures;
  heights = c.heights_are_low.ensures;
  entries = c.interrupts_enter_their_procedures.ensures;
  few_calls_fit = c.small_programs_fit.ensures;
  follow = c.instructions_follow_code.ensures;
  parts_room = c.programs_have_room.ensures;
  counted = c.registers_are_counted.ensures;
  unserved = c.unserved_changes_none.ensures;
  initial = c.initial_values_fit.ensures.bytes;
}

use Rattle.plm86.proofs.laws.laws_below.Goals as goal

pub returns : goal.returns
returns c = record {
  registers = c.context_laws.ensures;
  set_flag = c.flag_laws.ensures.same;
  other_flags = c.flag_laws.ensures.others;
  flags_alone = c.flag_laws.ensures.alone;
  arithmetic = c.control_flags_law.ensures;
  memory = c.memory_laws.ensures;
}

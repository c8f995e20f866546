use Rattle.select.proofs.Whole.{instructions_follow}
use Rattle.select.proofs.laws.instructions_follow_code.Goals as goal

pub returns : goal.returns
returns c =
    instructions_follow (record {
      same = c.flag_laws.ensures.same;
      others = c.flag_laws.ensures.others;
      shift = c.shift_laws.ensures;
      rotate = c.rotation_laws.ensures;
      pairs = c.pair_laws.ensures.words;
      inverse = c.inverse_law.ensures;
      signed = c.signed_laws.ensures;
    })

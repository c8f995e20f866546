use Rattle.select.proofs.Choosing.{cases_soon}
use Rattle.select.proofs.laws.cases_come_soon.Goals as goal

pub returns : goal.returns
returns c =
    cases_soon c.inverse_law.ensures (record {
      same = c.flag_laws.ensures.same;
      others = c.flag_laws.ensures.others;
      shift = c.shift_laws.ensures;
      rotate = c.rotation_laws.ensures;
      pairs = c.pair_laws.ensures.words;
      inverse = c.inverse_law.ensures;
      signed = c.signed_laws.ensures;
    })

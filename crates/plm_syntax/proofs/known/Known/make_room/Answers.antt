use Rattle.plm_syntax.proofs.Facts.{without_names, known_more}
use Rattle.plm_syntax.proofs.known.Known.make_room.Goals as goal

pub returns-clause-known : goal.returns-clause-known
returns-clause-known c = λ names literals assumed more base same h.
    let self = c.args.self.now in
    record {
      some = h.some;
      order = h.order;
      holds = without_names names literals more;
      runs = c.more_runs.ensures.known names literals more base self.oldest self.forgotten h.some h.order (known_more names literals assumed more base self.oldest self.forgotten self.runs.items same h.runs);
    }

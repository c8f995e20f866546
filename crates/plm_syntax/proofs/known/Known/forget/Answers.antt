use Rattle.std.proofs.Common.{List, sym, subst, arith}
use Rattle.std.specs.List.{All}
use Rattle.plm_syntax.specs.declared.known.QuietRun.{QuietRun}
use Rattle.plm_syntax.specs.Inner.Known.{IsKnown}
use Rattle.plm_syntax.proofs.Facts.{without_names, known_void}
use Rattle.plm_syntax.proofs.known.Known.forget.Goals as goal

pub returns-in-Some : goal.returns-in-Some
returns-in-Some c = λ names literals assumed base.
    let self = c.args.self.now in
    record {
      some = omega (arith, c.in-Some.ensures);
      order = omega arith;
      holds = without_names names literals assumed;
      runs = known_void names literals assumed base self.forgotten c.in-Some.next self.runs.items (omega (arith, c.in-Some.ensures)) c.requires.runs;
    }

pub returns-in-None : goal.returns-in-None
returns-in-None c = λ names literals assumed base.
    let self = c.args.self.now in
    record {
      some = c.requires.some;
      order = c.requires.order;
      holds = without_names names literals assumed;
      runs = subst (λ (ks : List QuietRun). All (IsKnown names literals assumed base self.oldest self.forgotten) ks) (sym c.clear.ensures.items) (λ i d lt. absurd (omega (arith, lt)));
    }

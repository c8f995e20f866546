use Rattle.std.proofs.Common.{List, sym, subst, arith}
use Rattle.std.specs.List.{All}
use Rattle.plm_syntax.specs.declared.known.QuietRun.{QuietRun}
use Rattle.plm_syntax.specs.Inner.Known.{IsKnown}
use Rattle.plm_syntax.proofs.Facts.{without_names, known_fewer}
use Rattle.plm_syntax.proofs.known.Known.end_block.Goals as goal

pub returns-in-Some : goal.returns-in-Some
returns-in-Some c = λ names fewer more assumed base within h.
    let self = c.args.self.now in
    record {
      some = h.some;
      order = omega (arith, h.order, c.in-Some.ensures);
      holds = without_names names fewer assumed;
      runs = known_fewer names fewer more assumed base self.oldest self.forgotten c.in-Some.next self.runs.items within (omega (arith, c.in-Some.ensures)) h.runs;
    }

pub returns-in-None : goal.returns-in-None
returns-in-None c = λ names fewer more assumed base within h.
    let self = c.args.self.now in
    record {
      some = h.some;
      order = h.order;
      holds = without_names names fewer assumed;
      runs = subst (λ (ks : List QuietRun). All (IsKnown names fewer assumed base self.oldest self.forgotten) ks) (sym c.clear.ensures.items) (λ i d lt. absurd (omega (arith, lt)));
    }

use Rattle.std.proofs.Common.{List, sym, subst, arith}
use Rattle.std.specs.List.{All}
use Rattle.plm_syntax.specs.declared.known.QuietRun.{QuietRun}
use Rattle.plm_syntax.specs.Inner.Known.{IsKnown}
use Rattle.plm_syntax.proofs.Facts.{without_names}
use Rattle.plm_syntax.proofs.known.Known.new.Goals as goal

pub returns : goal.returns
returns c = λ names literals assumed base. record {
  some = omega arith;
  order = omega arith;
  holds = without_names names literals assumed;
  runs = subst (λ (ks : List QuietRun). All (IsKnown names literals assumed base 1 1) ks) (sym c.new.ensures.items) (λ i d lt. absurd (omega (arith, lt)));
}

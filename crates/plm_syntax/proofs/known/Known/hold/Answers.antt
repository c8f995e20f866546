use Rattle.std.proofs.Common.{ℕ, List, set, get_or, sym, subst, arith}
use Rattle.std.specs.Int.RustNames.{bit_or}
use Rattle.plm_syntax.specs.Inner.Known.{Pass, is_assumed}
use Rattle.plm_syntax.proofs.Facts.{bit_set}
use Rattle.plm_syntax.proofs.known.Known.hold.Goals as goal

pub returns-then-depth-lt-DEPTHS : goal.returns-then-depth-lt-DEPTHS
returns-then-depth-lt-DEPTHS c = λ names literals assumed base h this.
    let words : List ℕ = c.args.self.now.holds in
    let depth : ℕ = c.args.depth in
    record {
      some = h.some;
      order = h.order;
      holds = subst (λ (word : ℕ). Pass (is_assumed names literals assumed) (set words depth (bit_or (get_or words depth 0) word))) (sym c.one_bit.ensures)
          (bit_set (is_assumed names literals assumed) words depth c.args.bit (omega arith) h.holds this);
      runs = h.runs;
    }

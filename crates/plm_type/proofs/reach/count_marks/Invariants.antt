use Rattle.std.proofs.Common.{◌≡◌, ◌≤◌, count_by, take}
use Rattle.plm_type.proofs.reach.count_marks.Given as goal

abbrev pub invariant-loop-mark : goal.invariant-loop-mark
invariant-loop-mark l =
    record {
      count : l.count ≡ count_by (λ mark. mark) (take l.mark-index l.marks);
      small : l.count ≤ l.mark-index;
    }

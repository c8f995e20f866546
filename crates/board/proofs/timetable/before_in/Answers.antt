use Rattle.std.proofs.Common.{rules, ℕ, ltb, ltb-true, ltb-false, arith}
use Rattle.std.proofs.lemmas.List.Sorted.{IsPartitionPoint-from_clause, IsPartitionedBy-ltb}
use Rattle.board.proofs.timetable.before_in.Goals as goal

pub returns : goal.returns
returns c =
    let ns = c.args.turns.now in
    let t = c.args.turn in
    let low = IsPartitionPoint-from_clause (λ (n : ℕ). ltb n t) ns c.partition_point.result c.partition_point.ensures.partitioned
    (IsPartitionedBy-ltb (λ (n : ℕ). n) ns t c.requires) (λ a r q k. search rules) in
    let bound = c.partition_point.ensures.bound in
    (omega (arith, bound), λ i lt. ltb-true _ t (low.0 i 0 (omega (arith, bound, lt)) lt), λ i ge len. ltb-false _ t (low.1 i 0 ge len))

use Rattle.std.proofs.Common.{rules, ◌∙◌, ◌-◌, ◌<◌, ℕ, ap, sym, take, leb, ltb, leb-true, ltb-true, leb-false, ltb-false, arith}
use Rattle.std.proofs.lemmas.List.Sorted.{IsPartitionPoint-from_clause, IsPartitionedBy-leb, IsPartitionedBy-ltb}
use Rattle.board.proofs.Cuts.{due_between}
use Rattle.board.proofs.timetable.due_in.Goals as goal

pub returns-then-from-to : goal.returns-then-from-to
returns-then-from-to c =
    let ns = c.args.turns.now in
    let es = c.args.events.now in
    let t = c.args.turn in
    let low = IsPartitionPoint-from_clause (λ (n : ℕ). ltb n t) ns c.partition_point-from.result c.partition_point-from.ensures.partitioned
    (IsPartitionedBy-ltb (λ (n : ℕ). n) ns t c.requires.sorted) (λ a r q k. search rules) in
    let high = IsPartitionPoint-from_clause (λ (n : ℕ). leb n t) ns c.partition_point-to.result c.partition_point-to.ensures.partitioned
    (IsPartitionedBy-leb (λ (n : ℕ). n) ns t c.requires.sorted) (λ a r q k. search rules) in
    let found = due_between t ns es c.partition_point-from.result c.partition_point-to.result (search rules) c.requires.paired
    (λ i lt len. ltb-true _ t (low.0 i 0 (omega arith) lt))
    (λ i ge len. ltb-false _ t (low.1 i 0 ge len))
    (λ i lt len. leb-true _ t (high.0 i 0 (omega arith) lt))
    (λ i ge len. leb-false _ t (high.1 i 0 ge len)) in
    c.split_at-then-from-to.ensures.front ∙ ap (take (c.partition_point-to.result - c.partition_point-from.result)) c.split_at.ensures.back ∙ sym found

pub returns-else-from-to : goal.returns-else-from-to
returns-else-from-to c =
    let ns = c.args.turns.now in
    let es = c.args.events.now in
    let t = c.args.turn in
    let low = IsPartitionPoint-from_clause (λ (n : ℕ). ltb n t) ns c.partition_point-from.result c.partition_point-from.ensures.partitioned
    (IsPartitionedBy-ltb (λ (n : ℕ). n) ns t c.requires.sorted) (λ a r q k. search rules) in
    let high = IsPartitionPoint-from_clause (λ (n : ℕ). leb n t) ns c.partition_point-to.result c.partition_point-to.ensures.partitioned
    (IsPartitionedBy-leb (λ (n : ℕ). n) ns t c.requires.sorted) (λ a r q k. search rules) in
    let b = c.partition_point-to.result in
    let before : b < c.partition_point-from.result = search rules in
    let bound = c.partition_point-from.ensures.bound in
    let x = ltb-true _ t (low.0 b 0 (omega arith) before) in
    let y = leb-false _ t (high.1 b 0 (omega arith) (omega arith)) in
    absurd (omega arith)

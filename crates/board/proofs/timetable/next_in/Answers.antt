use Rattle.std.proofs.Common.{rules, ℕ, leb, leb-true, arith}
use Rattle.std.proofs.lemmas.Bool.{leb-false}
use Rattle.std.proofs.lemmas.List.Sorted.{IsPartitionPoint-from_clause, IsPartitionedBy-leb}
use Rattle.board.proofs.Cuts.{gap, no_gap}
use Rattle.board.proofs.timetable.next_in.Goals as goal

pub returns-then-next-turns-clause-none : goal.returns-then-next-turns-clause-none
returns-then-next-turns-clause-none c = λ t lt before i len.
    let ns = c.args.turns.now in
    let high = IsPartitionPoint-from_clause (λ (n : ℕ). leb n c.args.turn) ns c.partition_point-next.result c.partition_point-next.ensures.partitioned
    (IsPartitionedBy-leb (λ (n : ℕ). n) ns c.args.turn c.requires) (λ a r q k. search rules) in
    gap ns c.partition_point-next.result c.args.turn t i c.requires (λ j below within. leb-true _ c.args.turn (high.0 j 0 (omega arith) below)) lt before len

pub returns-else-next-turns-clause-none : goal.returns-else-next-turns-clause-none
returns-else-next-turns-clause-none c = λ t lt before i len.
    let ns = c.args.turns.now in
    let high = IsPartitionPoint-from_clause (λ (n : ℕ). leb n c.args.turn) ns c.partition_point-next.result c.partition_point-next.ensures.partitioned
    (IsPartitionedBy-leb (λ (n : ℕ). n) ns c.args.turn c.requires) (λ a r q k. search rules) in
    no_gap ns c.partition_point-next.result c.args.turn t i (λ j below within. leb-true _ c.args.turn (high.0 j 0 (omega arith) below)) lt (omega (arith, c.if-next-turns.false)) len

pub returns-then-next-turns-clause-later : goal.returns-then-next-turns-clause-later
returns-then-next-turns-clause-later c =
    let ns = c.args.turns.now in
    let high = IsPartitionPoint-from_clause (λ (n : ℕ). leb n c.args.turn) ns c.partition_point-next.result c.partition_point-next.ensures.partitioned
    (IsPartitionedBy-leb (λ (n : ℕ). n) ns c.args.turn c.requires) (λ a r q k. search rules) in
    λ _. leb-false _ c.args.turn (high.1 c.partition_point-next.result 0 (omega arith) c.if-next-turns.true)

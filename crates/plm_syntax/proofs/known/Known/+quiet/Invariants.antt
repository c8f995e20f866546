use Rattle.std.proofs.Common.{◌+◌, ◌*◌}
use Rattle.plm_syntax.specs.Inner.Known.{AreKnown, IsQuietRun}
use Rattle.plm_syntax.proofs.known.Known.+quiet.Given as goal

abbrev pub decreases-quiet_name : goal.decreases-quiet_name
decreases-quiet_name l = 7 * l.depth

abbrev pub decreases-look_into : goal.decreases-look_into
decreases-look_into l = 7 * l.depth + 1

abbrev pub decreases-walk : goal.decreases-walk
decreases-walk l = 7 * l.depth + 1

abbrev pub decreases-look_into_all : goal.decreases-look_into_all
decreases-look_into_all l = 7 * l.depth + 2

abbrev pub decreases-known_run : goal.decreases-known_run
decreases-known_run l = 7 * l.depth + 3

abbrev pub decreases-next : goal.decreases-next
decreases-next l = 7 * l.depth + 4

abbrev pub decreases-rest : goal.decreases-rest
decreases-rest l = 7 * l.depth + 5

abbrev pub decreases-quiet_from : goal.decreases-quiet_from
decreases-quiet_from l = 7 * l.depth + 6

abbrev pub invariant-look_into-loop : goal.invariant-look_into-loop
invariant-look_into-loop l = AreKnown l.scope l.self

abbrev pub invariant-look_into_all-loop-k : goal.invariant-look_into_all-loop-k
invariant-look_into_all-loop-k l = AreKnown l.scope l.self

abbrev pub invariant-walk-loop : goal.invariant-walk-loop
invariant-walk-loop l = record { known : AreKnown l.scope l.self; run : IsQuietRun l.scope l.depth l.literal l.from l.run }

abbrev pub invariant-rest-loop : goal.invariant-rest-loop
invariant-rest-loop l = record { known : AreKnown l.scope l.self; run : IsQuietRun l.scope l.depth l.fn.first.literal l.fn.first.from l.run }

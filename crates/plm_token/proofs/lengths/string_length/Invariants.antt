use Rattle.std.proofs.Common.{◌≡◌, ◌+◌, drop, false}
use Rattle.plm_token.specs.Inner.Front.{string_length, string_closed}
use Rattle.plm_token.proofs.lengths.string_length.Given as goal

abbrev pub invariant-loop-i : goal.invariant-loop-i
invariant-loop-i l = record { count : string_length false l.bytes ≡ l.i + string_length l.pending (drop l.i l.bytes); closed : string_closed false l.bytes ≡ string_closed l.pending (drop l.i l.bytes) }

use Rattle.std.proofs.Common.{◌≡◌, ◌+◌, drop, not}
use Rattle.std.specs.List.{prefix_len}
use Rattle.plm_token.specs.Characters.{is_line_feed}
use Rattle.plm_token.proofs.lengths.line_length.Given as goal

abbrev pub invariant-loop-i : goal.invariant-loop-i
invariant-loop-i l = prefix_len (λ c. not (is_line_feed c)) l.bytes ≡ l.i + prefix_len (λ c. not (is_line_feed c)) (drop l.i l.bytes)

use Rattle.std.proofs.Common.{◌≡◌, ◌+◌, drop}
use Rattle.std.specs.List.{prefix_len}
use Rattle.plm_token.specs.Characters.{is_name_character}
use Rattle.plm_token.proofs.lengths.name_length.Given as goal

abbrev pub invariant-loop-i : goal.invariant-loop-i
invariant-loop-i l = prefix_len is_name_character l.bytes ≡ l.i + prefix_len is_name_character (drop l.i l.bytes)

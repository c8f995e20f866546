use Rattle.std.proofs.Common.{◌≡◌, ◌++◌, drop, false}
use Rattle.plm_token.specs.Strings.{characters_from}
use Rattle.plm_token.proofs.strings.characters.Given as goal

abbrev pub invariant-loop-character : goal.invariant-loop-character
invariant-loop-character l = characters_from false l.text ≡ l.value.items ++ characters_from l.pending (drop l.character-index l.text)

use Rattle.std.proofs.Common.{◌≡◌, ◌++◌, length, drop}
use Rattle.std.specs.Prelude.{chars}
use Rattle.std.specs.List.{flat_map}
use Rattle.std.specs.Str.Lossy.{utf8_lossy}
use Rattle.listing_map.specs.Messages.{shown_character}
use Rattle.listing_map.proofs.shown.shown_text.Given as goal

abbrev pub invariant-loop-character : goal.invariant-loop-character
invariant-loop-character l =
    l.shown.items ++ flat_map shown_character (drop (length l.yielded) (chars (utf8_lossy l.text))) ≡ flat_map shown_character (chars (utf8_lossy l.text))

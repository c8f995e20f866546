-- Strings, after their opening apostrophe.
use Rattle.std.specs.Prelude.{ℕ, List, [], ◌∷◌, Bool, true, false, cond, ◌&&◌}
use Rattle.plm_token.specs.Characters.{is_apostrophe, is_printable}

-- characters 20H to 7EH, apostrophes doubled, and the closing one at the end; pending says that an apostrophe stands before,
-- which has to be doubled or to be the last
abbrev pub ends_string : Bool → List ℕ → Bool
ends_string pending [] = pending
ends_string true (b ∷ bs) = is_apostrophe b && ends_string false bs
ends_string false (b ∷ bs) = cond (is_apostrophe b) (ends_string true bs) (is_printable b && ends_string false bs)

-- what the characters after the opening apostrophe stand for: a doubled apostrophe is one, the closing one is none
abbrev pub characters_from : Bool → List ℕ → List ℕ
characters_from pending [] = []
characters_from true (b ∷ bs) = b ∷ characters_from false bs
characters_from false (b ∷ bs) = cond (is_apostrophe b) (characters_from true bs) (b ∷ characters_from false bs)

-- the characters of a string, from its slice with both apostrophes
unfoldable pub string_characters : List ℕ → List ℕ
string_characters [] = []
string_characters (b ∷ bs) = characters_from false bs

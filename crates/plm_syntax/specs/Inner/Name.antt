-- Names in normal form.
use Rattle.std.specs.Prelude.{ℕ, List, Bool, ◌||◌}
use Rattle.plm_token.specs.Characters.{within, is_dollar}
use Rattle.plm_syntax.specs.declared.name.Name.{Name}
use Rattle.plm_syntax.specs.declared.name.Name.TheVariants.{AsWritten, Changed}

abbrev pub letters_of : Name → List ℕ
letters_of (AsWritten letters) = letters.now
letters_of (Changed letters) = letters.items

-- a character that is another one in normal form, or none
abbrev pub changes : ℕ → Bool
changes letter = is_dollar letter || within 97 122 letter

-- Which characters a text may have, by their ASCII codes: blanks, those of names and numbers, and those of strings.
use Rattle.std.specs.Prelude.{ℕ, Bool, ◌&&◌, ◌||◌, nat_eq, nat_le}

-- from one character through another
abbrev pub within : ℕ → ℕ → ℕ → Bool
within low high b = nat_le low b && nat_le b high

-- space, tab, line feed, form feed or carriage return
abbrev pub is_blank : ℕ → Bool
is_blank b = nat_eq b 32 || nat_eq b 9 || nat_eq b 10 || nat_eq b 12 || nat_eq b 13

abbrev pub is_letter : ℕ → Bool
is_letter b = within 65 90 b || within 97 122 b

abbrev pub is_digit : ℕ → Bool
is_digit b = within 48 57 b

-- what a name or a number goes on with: a letter, a digit, an underscore or a dollar sign
abbrev pub is_name_character : ℕ → Bool
is_name_character b = is_letter b || is_digit b || nat_eq b 95 || nat_eq b 36

-- what a string may hold: 20H to 7EH
abbrev pub is_printable : ℕ → Bool
is_printable b = within 32 126 b

abbrev pub is_line_feed : ℕ → Bool
is_line_feed b = nat_eq b 10

abbrev pub is_apostrophe : ℕ → Bool
is_apostrophe b = nat_eq b 39

abbrev pub is_dollar : ℕ → Bool
is_dollar b = nat_eq b 36

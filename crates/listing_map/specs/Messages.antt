-- What is written under the line of a fault.
use Rattle.std.specs.Prelude.{◌≡◌, ℕ, ◌-◌, ◌<◌, ◌≤◌, Bool, true, ◌&&◌, ◌||◌, nat_eq, nat_lt, if◌then◌else◌, List, [], ◌∷◌, ◌++◌, length, map, replicate, chars, codes, decimal, encode_utf8}
use Rattle.std.specs.List.{flat_map, list_all}
use Rattle.std.specs.Char.Unicode.Alphabetic.{is_alphabetic}
use Rattle.std.specs.Char.Unicode.Numeric.{is_numeric}
use Rattle.std.specs.Str.Lossy.{utf8_lossy}
use Rattle.listing_map.specs.Lines.{line_end}
use Rattle.listing_map.specs.SourceListing.{in_five_places}
use Rattle.listing_map.specs.Window.{HasEnds, IsWindow}

-- a character of ASCII as it is shown: a control character but a tab is a question mark
abbrev pub shown : ℕ → ℕ
shown b = if nat_eq b 9 || (nat_lt 31 b && nat_lt b 127) then b else 63

-- a letter or a digit of some script
abbrev pub is_letter : ℕ → Bool
is_letter c = is_alphabetic c || is_numeric c

-- a character as it is shown: of those that are not ASCII the letters and digits stay
abbrev pub shown_character : ℕ → List ℕ
shown_character c = if nat_lt c 128 then shown c ∷ [] else if is_letter c then encode_utf8 c else 63 ∷ []

-- a text as it is shown: what is not UTF-8 is shown as U+FFFD is, which is not a letter
abbrev pub shown_text : List ℕ → List ℕ
shown_text text = flat_map shown_character (chars (utf8_lossy text))

abbrev pub shown_line : List ℕ → List ℕ
shown_line line = shown_text line ++ line_end

-- what stands in front of a quoted line
abbrev pub margin : ℕ → List ℕ
margin line = in_five_places line ++ codes " | "

-- what is as wide as a byte of ASCII and shows nothing: a tab stays
abbrev pub blank : ℕ → ℕ
blank b = if nat_eq b 9 then 9 else 32

abbrev pub is_ascii : List ℕ → Bool
is_ascii text = list_all (λ b. nat_lt b 128) text

-- the line under a quoted one, behind a margin of so many columns: blanks as wide as what is shown before the mark, and a caret for each column that is
-- marked. Of what is not ASCII only is said that carets stand behind it
abbrev pub IsMarkLine : (margin_width : ℕ) (before marked text : List ℕ) → Type 0
IsMarkLine margin_width before marked text = (blanks : List ℕ) × (carets : ℕ)
    × (text ≡ replicate (margin_width - 2) 32 ++ codes "| " ++ blanks ++ replicate carets 94 ++ line_end)
    × (0 < carets)
    × (is_ascii before ≡ true → blanks ≡ map blank before)
    × (is_ascii marked ≡ true → 0 < length marked → carets ≡ length marked)

-- a part of the line between its number and the line of its mark
abbrev pub IsQuotedPart : (line : ℕ) (front before marked behind back text : List ℕ) → Type 0
IsQuotedPart line front before marked behind back text = (mark : List ℕ)
    × (text ≡ (margin line ++ (front ++ shown_text before) ++ shown_text marked ++ shown_text behind ++ back ++ line_end) ++ mark)
    × IsMarkLine (length (margin line)) (front ++ shown_text before) (shown_text marked) mark

-- which part that is: a line of at most 160 bytes is quoted whole, one of more than 640 is not, and of one between them nothing is said here
abbrev pub IsQuotedLine : (line : ℕ) (quoted : List ℕ) (column width : ℕ) (text : List ℕ) → Type 0
IsQuotedLine line quoted column width text =
    (is_whole : Bool) × (front : List ℕ) × (before : List ℕ) × (marked : List ℕ) × (behind : List ℕ) × (back : List ℕ)
    × (length quoted ≤ 160 → is_whole ≡ true)
    × (is_whole ≡ true → length quoted ≤ 640)
    × IsWindow quoted is_whole column width before marked behind
    × HasEnds quoted is_whole column front back
    × IsQuotedPart line front before marked behind back text

-- the same where something is marked
abbrev pub IsQuoted : (line : ℕ) (quoted : List ℕ) (column width : ℕ) (text : List ℕ) → Type 0
IsQuoted line quoted column width text = (width ≡ 0 → text ≡ []) × (0 < width → IsQuotedLine line quoted column width text)

-- and behind that the sentence
abbrev pub IsTold : (line : ℕ) (quoted : List ℕ) (column width : ℕ) (sentence text : List ℕ) → Type 0
IsTold line quoted column width sentence text = (front : List ℕ) × IsQuoted line quoted column width front × (text ≡ front ++ codes "      = " ++ shown_line sentence)

-- the line of a note
abbrev pub note_line : (file : List ℕ) (line : ℕ) (words : List ℕ) → List ℕ
note_line file line words = shown_text file ++ codes "(" ++ decimal line ++ codes "): note: " ++ shown_line words

-- The listing of a source: each line with its number, and after it the warnings at it.
use Rattle.std.specs.Prelude.{ℕ, ◌+◌, ◌-◌, Bool, false, ◌&&◌, ◌==◌, if◌then◌else◌, List, [], ◌∷◌, ◌++◌, length, take, codes, decimal}
use Rattle.std.specs.List.{flat_map}
use Rattle.plm_type.specs.declared.sharing.Warning.{Warning}
use Rattle.word86.specs.Number.{number_text}
use Rattle.word86.specs.declared.number.Number.TheVariants.{W1}
use Rattle.listing_map.specs.Lines.{line_end}

-- whether a line feed comes next
abbrev pub at_line_feed : List ℕ → Bool
at_line_feed [] = false
at_line_feed (b ∷ bs) = b == 10

-- a byte in front of the lines of what follows it
abbrev pub in_front : ℕ → List (List ℕ) → List (List ℕ)
in_front b [] = (b ∷ []) ∷ []
in_front b (line ∷ lines) = (b ∷ line) ∷ lines

-- the lines of a text, each without the line feed that ends it and without a carriage return right before that
abbrev pub lines_of : List ℕ → List (List ℕ)
lines_of [] = []
lines_of (b ∷ bs) = if b == 10 then [] ∷ lines_of bs else (if (b == 13) && at_line_feed bs then lines_of bs else in_front b (lines_of bs))

-- a number, right in five places
abbrev pub in_five_places : ℕ → List ℕ
in_five_places number = take (5 - length (decimal number)) (codes "     ") ++ decimal number

abbrev pub numbered_line : ℕ → List ℕ → List ℕ
numbered_line number line = in_five_places number ++ codes "  " ++ line ++ line_end

abbrev pub warning_line : List ℕ
warning_line = codes "***** " ++ number_text W1 ++ line_end

-- a line for each warning at the line of this number
abbrev pub warning_lines : ℕ → List Warning → List ℕ
warning_lines number warnings = flat_map (λ w. if w.line == number then warning_line else []) warnings

-- the lines from this number on, each with its warnings after it
abbrev pub listing_lines : ℕ → List Warning → List (List ℕ) → List ℕ
listing_lines number warnings [] = []
listing_lines number warnings (line ∷ lines) = (numbered_line number line ++ warning_lines number warnings) ++ listing_lines (number + 1) warnings lines

abbrev pub listing_text : List ℕ → List Warning → List ℕ
listing_text source warnings = listing_lines 1 warnings (lines_of source)

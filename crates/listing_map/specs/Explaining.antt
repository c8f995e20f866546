-- What an explanation of a fault quotes, and what it marks there.
use Rattle.std.specs.Prelude.{◌≡◌, ℕ, ◌+◌, ◌-◌, ◌<◌, Bool, true, not, ◌&&◌, ◌||◌, List, [], IfOk, bytes_eq, nat_eq, nat_lt, slice_index_or, slice_range}
use Rattle.std.specs.List.{list_all, list_any}
use Rattle.plm_token.specs.Scanner.{Lexeme, scan_of}
use Rattle.listing_map.specs.declared.texts.NamedText.{NamedText}
use Rattle.listing_map.specs.SourceListing.{lines_of}

abbrev pub text_of : NamedText → List ℕ
text_of t = t.text.now

-- the text of the module of this number, and nothing where there is none
abbrev pub text_at : List (List ℕ) → ℕ → List ℕ
text_at texts module_number = slice_index_or texts module_number []

-- the line of this number, counted from 1, without its end
abbrev pub quoted_line : List ℕ → ℕ → List ℕ
quoted_line text line = slice_index_or (lines_of text) (line - 1) []

-- whether a token stands on this line and is spelled so
abbrev pub stands : ℕ → List ℕ → Lexeme → Bool
stands line spelled t = nat_eq t.line line && bytes_eq t.text spelled

abbrev pub has_token : List Lexeme → ℕ → List ℕ → Bool
has_token tokens line spelled = list_any (stands line spelled) tokens

-- where a text has tokens, what is marked of its line behind a column is one of them, and it stands on that line
abbrev pub IsMark : List ℕ → ℕ → List ℕ → ℕ → ℕ → Type 0
IsMark text line quoted column width = 0 < width
    → IfOk (scan_of text) (λ tokens. has_token tokens line (slice_range quoted column (column + width)) ≡ true)

-- a byte that no text has: a control character but a tab, a line feed, a form feed, a carriage return and 1AH, which may end a text; or 0FFH
abbrev pub is_binary : ℕ → Bool
is_binary b = (nat_lt b 32 && not (nat_eq b 9 || nat_eq b 10 || nat_eq b 12 || nat_eq b 13 || nat_eq b 26)) || nat_eq b 127 || nat_eq b 255

abbrev pub is_text : List ℕ → Bool
is_text bytes = list_all (λ b. not (is_binary b)) bytes

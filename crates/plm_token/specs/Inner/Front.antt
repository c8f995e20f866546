-- How the scanner finds the longest piece, byte by byte. That this is `front_of` is a lemma.
use Rattle.std.specs.Prelude.{ℕ, ◌+◌, List, [], ◌∷◌, length, take, drop, Bool, false, cond, not, ◌&&◌, nat_eq, Option, Some, None}
use Rattle.std.specs.List.{prefix_len}
use Rattle.plm_token.specs.declared.piece.ScanState.{ScanState}
use Rattle.plm_token.specs.declared.piece.Front.{Front}
use Rattle.plm_token.specs.declared.piece.Piece.TheVariants.{Skipped, Token, Fault}
use Rattle.plm_token.specs.declared.token.Mark.{Mark}
use Rattle.plm_token.specs.declared.token.Mark.TheVariants.{Equal, Period, Slash, LeftParenthesis, RightParenthesis, Plus, Minus, Star, Comma, Less, Greater, Colon, Semicolon, AtSign, NotEqual, LessEqual, GreaterEqual, Assign}
use Rattle.plm_token.specs.declared.token.Kind.TheVariants as kinds
use Rattle.word86.specs.declared.number.Number.{Number as FaultNumber}
use Rattle.word86.specs.declared.number.Number.TheVariants.{E101, E103, E204}
use Rattle.plm_token.specs.Characters.{is_blank, is_letter, is_digit, is_name_character, is_line_feed, is_apostrophe, is_dollar, is_printable}
use Rattle.plm_token.specs.Forms.{Form, ControlLine, Name, Number, String, OpenString, is_first_column, is_literal}
use Rattle.plm_token.specs.Pieces.{piece_of}

abbrev pub further : ℕ → Option ℕ → Option ℕ
further n None = None
further n (Some m) = Some (n + m)

-- the bytes after a comment's opening, through its end; star says that a star stands before
abbrev pub comment_length : Bool → List ℕ → Option ℕ
comment_length star [] = None
comment_length star (b ∷ bs) = cond (star && nat_eq b 47) (Some 1) (further 1 (comment_length (nat_eq b 42) bs))

-- the bytes after a string's opening, through its end, and whether it is closed; pending says that an apostrophe stands before
abbrev pub string_length : Bool → List ℕ → ℕ
string_length pending [] = 0
string_length pending (b ∷ bs) = cond (is_apostrophe b) (1 + string_length (not pending) bs) (cond (not pending && is_printable b) (1 + string_length false bs) 0)

abbrev pub string_closed : Bool → List ℕ → Bool
string_closed pending [] = pending
string_closed pending (b ∷ bs) = cond (is_apostrophe b) (string_closed (not pending) bs) (cond (not pending && is_printable b) (string_closed false bs) pending)

abbrev pub starts_with : ℕ → List ℕ → Bool
starts_with a [] = false
starts_with a (b ∷ bs) = nat_eq b a

-- the first n characters as a form
abbrev pub cut_at : Form → List ℕ → ℕ → Front
cut_at form text n = record { piece = piece_of form (take n text) (drop n text); length = n }

abbrev pub single : Mark → Front
single mark = record { piece = Token (kinds.Special mark); length = 1 }

abbrev pub double : Mark → Front
double mark = record { piece = Token (kinds.Special mark); length = 2 }

abbrev pub fault_front : FaultNumber → Front
fault_front number = record { piece = Fault number; length = 1 }

abbrev pub comment_front : List ℕ → Option ℕ → Front
comment_front text None = record { piece = Fault E103; length = length text }
comment_front text (Some n) = record { piece = Skipped; length = n + 2 }

abbrev pub slash_front : List ℕ → List ℕ → Front
slash_front text [] = single Slash
slash_front text (b ∷ bs) = cond (nat_eq b 42) (comment_front text (comment_length false bs)) (single Slash)

abbrev pub string_front : List ℕ → List ℕ → Front
string_front text behind = cut_at (cond (string_closed false behind) String OpenString) text (string_length false behind + 1)

abbrev pub special_front : ℕ → List ℕ → Front
special_front b bs =
    cond (nat_eq b 61) (single Equal)
    (cond (nat_eq b 46) (single Period)
    (cond (nat_eq b 40) (single LeftParenthesis)
    (cond (nat_eq b 41) (single RightParenthesis)
    (cond (nat_eq b 43) (single Plus)
    (cond (nat_eq b 45) (single Minus)
    (cond (nat_eq b 42) (single Star)
    (cond (nat_eq b 44) (single Comma)
    (cond (nat_eq b 59) (single Semicolon)
    (cond (nat_eq b 64) (single AtSign)
    (cond (nat_eq b 58) (cond (starts_with 61 bs) (double Assign) (single Colon))
    (cond (nat_eq b 62) (cond (starts_with 61 bs) (double GreaterEqual) (single Greater))
    (cond (nat_eq b 60) (cond (starts_with 62 bs) (double NotEqual) (cond (starts_with 61 bs) (double LessEqual) (single Less)))
    (fault_front E101)))))))))))))

-- the piece at the front, by its first byte
unfoldable pub read_front : ScanState → ℕ → List ℕ → Front
read_front state b bs =
    cond (is_blank b) (record { piece = Skipped; length = 1 })
    (cond (is_letter b) (cut_at Name (b ∷ bs) (1 + prefix_len is_name_character bs))
    (cond (is_digit b) (cut_at Number (b ∷ bs) (1 + prefix_len is_name_character bs))
    (cond (nat_eq b 47) (slash_front (b ∷ bs) bs)
    (cond (is_apostrophe b) (cond (is_literal state) (fault_front E204) (string_front (b ∷ bs) bs))
    (cond (is_dollar b && is_first_column state) (cut_at ControlLine (b ∷ bs) (1 + prefix_len (λ c. not (is_line_feed c)) bs))
    (special_front b bs))))))

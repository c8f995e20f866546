-- A text's pieces, one after the other, each the longest that stands there.
use Rattle.std.specs.Prelude.{ℕ, zero, suc, ◌+◌, ◌-◌, List, [], ◌∷◌, length, take, drop, Bool, true, cond, not, ◌||◌, nat_lt, bytes_eq, codes, Option, Some, None}
use Rattle.std.specs.List.{list_any, slice_split}
use Rattle.plm_token.specs.declared.piece.ScanState.{ScanState}
use Rattle.plm_token.specs.declared.piece.ScanState.TheVariants.{FirstColumn, Within, Literal}
use Rattle.plm_token.specs.declared.piece.Front.{Front}
use Rattle.plm_token.specs.declared.piece.Piece.{Piece}
use Rattle.plm_token.specs.declared.piece.Piece.TheVariants.{Skipped, Token, Fault}
use Rattle.plm_token.specs.declared.token.Keyword.{Keyword}
use Rattle.plm_token.specs.declared.token.Mark.{Mark}
use Rattle.plm_token.specs.declared.token.Kind.{Kind}
use Rattle.plm_token.specs.declared.token.Kind.TheVariants as kinds
use Rattle.word86.specs.declared.number.Number.TheVariants.{E101, E102, E103, E104, E105, E106, E204}
use Rattle.plm_token.specs.Characters.{is_name_character, is_line_feed}
use Rattle.plm_token.specs.Names.{normal, keyword_of}
use Rattle.plm_token.specs.Numbers.{numeral_of}
use Rattle.plm_token.specs.Forms.{Form, Blank, ControlLine, Comment, OpenComment, Name, Number, String, OpenString, Apostrophe, Special, form_of, mark_of}

abbrev pub name_kind : Option Keyword → Kind
name_kind None = kinds.Identifier
name_kind (Some k) = kinds.Reserved k

-- a name of at most 31 characters, dollar signs not counted
abbrev pub name_piece : List ℕ → Piece
name_piece name = cond (nat_lt 31 (length name)) (Fault E105) (Token (name_kind (keyword_of name)))

abbrev pub number_piece : Option ℕ → Piece
number_piece None = Fault E104
number_piece (Some n) = Token (kinds.Numeral n)

abbrev pub special_piece : Option Mark → Piece
special_piece None = Fault E101
special_piece (Some m) = Token (kinds.Special m)

-- whether one of the runs of letters, digits, underscores and dollar signs is the word INCLUDE
abbrev pub holds_include : List ℕ → Bool
holds_include line = list_any (λ run. bytes_eq (normal run) (codes "INCLUDE")) (slice_split (λ b. not (is_name_character b)) line)

-- the end of a line: of the text, a line feed, or a carriage return and a line feed
abbrev pub at_line_end : List ℕ → Bool
at_line_end [] = true
at_line_end (b ∷ bs) = is_line_feed b || bytes_eq (take 2 (b ∷ bs)) (codes "\r\n")

-- what characters of a form are, with the text after them. A string that is not closed ends at the end of its line, or
-- at a character that no string holds
abbrev pub piece_of : Form → List ℕ → List ℕ → Piece
piece_of Blank text behind = Skipped
piece_of ControlLine text behind = cond (holds_include text) (Fault E106) Skipped
piece_of Comment text behind = Skipped
piece_of OpenComment text behind = Fault E103
piece_of Name text behind = name_piece (normal text)
piece_of Number text behind = number_piece (numeral_of (normal text))
piece_of String text behind = Token kinds.String
piece_of OpenString text behind = Fault (cond (at_line_end behind) E102 E101)
piece_of Apostrophe text behind = Fault E204
piece_of Special text behind = special_piece (mark_of text)

abbrev pub or_shorter : Option Form → ℕ → Option (Form × ℕ) → Option (Form × ℕ)
or_shorter None n shorter = shorter
or_shorter (Some form) n shorter = Some (form, n)

-- the longest beginning of a text, of at most n characters, that has a form, with its length
abbrev pub longest_within : ℕ → ScanState → List ℕ → Option (Form × ℕ)
longest_within zero state text = None
longest_within (suc n) state text = or_shorter (form_of state (take (suc n) text)) (suc n) (longest_within n state text)

-- where no beginning has a form, the first character is a fault
abbrev pub front_from : List ℕ → Option (Form × ℕ) → Front
front_from text None = record { piece = Fault E101; length = 1 }
front_from text (Some longest) = record { piece = piece_of longest.0 (take longest.1 text) (drop longest.1 text); length = longest.1 }

-- the piece at the front of a text: the longest beginning that has a form
unfoldable pub front_of : ScanState → List ℕ → Front
front_of state text = front_from text (longest_within (length text) state text)

-- a piece with its characters and the line on which it begins
pub record Cut : Type 0 where
  pub piece : Piece
  pub text : List ℕ
  pub line : ℕ

-- the state after a character
abbrev pub state_after : ScanState → ℕ → ScanState
state_after Literal b = Literal
state_after FirstColumn b = cond (is_line_feed b) FirstColumn Within
state_after Within b = cond (is_line_feed b) FirstColumn Within

-- the line after a character: a line feed ends its line
abbrev pub line_behind : ℕ → ℕ → ℕ
line_behind line b = cond (is_line_feed b) (line + 1) line

-- the pieces of a text that begins in a state and on a line, once the rest of the piece before has been skipped
unfoldable pub pieces_behind : ℕ → ScanState → ℕ → List ℕ → List Cut
pieces_behind skip state line [] = []
pieces_behind (suc skip) state line (b ∷ bs) = pieces_behind skip (state_after state b) (line_behind line b) bs
pieces_behind zero state line (b ∷ bs) =
    let front = front_of state (b ∷ bs) in
    record { piece = front.piece; text = take front.length (b ∷ bs); line = line } ∷ pieces_behind (front.length - 1) (state_after state b) (line_behind line b) bs

abbrev pub pieces : ScanState → ℕ → List ℕ → List Cut
pieces state line text = pieces_behind 0 state line text

-- The forms that pieces have, each a test of the whole of a piece's characters.
use Rattle.std.specs.Prelude.{ℕ, List, [], ◌∷◌, ◌++◌, Bool, true, false, cond, not, ◌&&◌, nat_eq, find, bytes_eq, codes, Option, is_some}
use Rattle.std.specs.List.{list_all}
use Rattle.plm_token.specs.declared.piece.ScanState.{ScanState}
use Rattle.plm_token.specs.declared.piece.ScanState.TheVariants.{FirstColumn, Within, Literal}
use Rattle.plm_token.specs.declared.token.Mark.{Mark}
use Rattle.plm_token.specs.declared.token.Mark.TheVariants.{Equal, Period, Slash, LeftParenthesis, RightParenthesis, Plus, Minus, Star, Comma, Less, Greater, Colon, Semicolon, AtSign, NotEqual, LessEqual, GreaterEqual, Assign}
use Rattle.plm_token.specs.Characters.{is_blank, is_letter, is_digit, is_name_character, is_line_feed, is_apostrophe, is_dollar}
use Rattle.plm_token.specs.Strings.{ends_string}

-- a comment or a string that nothing closes is a form too, so that its fault has a beginning and a length
pub data Form : Type 0 where
  Blank : Form
  ControlLine : Form
  Comment : Form
  OpenComment : Form
  Name : Form
  Number : Form
  String : Form
  OpenString : Form
  Apostrophe : Form
  Special : Form

abbrev pub marks : List Mark
marks = Equal ∷ Period ∷ Slash ∷ LeftParenthesis ∷ RightParenthesis ∷ Plus ∷ Minus ∷ Star ∷ Comma ∷ Less ∷ Greater ∷ Colon ∷ Semicolon ∷ AtSign ∷ NotEqual ∷ LessEqual ∷ GreaterEqual ∷ Assign ∷ []

abbrev pub mark_text : Mark → List ℕ
mark_text Equal = codes "="
mark_text Period = codes "."
mark_text Slash = codes "/"
mark_text LeftParenthesis = codes "("
mark_text RightParenthesis = codes ")"
mark_text Plus = codes "+"
mark_text Minus = codes "-"
mark_text Star = codes "*"
mark_text Comma = codes ","
mark_text Less = codes "<"
mark_text Greater = codes ">"
mark_text Colon = codes ":"
mark_text Semicolon = codes ";"
mark_text AtSign = codes "@"
mark_text NotEqual = codes "<>"
mark_text LessEqual = codes "<="
mark_text GreaterEqual = codes ">="
mark_text Assign = codes ":="

-- the special token that characters spell
abbrev pub mark_of : List ℕ → Option Mark
mark_of text = find (λ m. bytes_eq text (mark_text m)) marks

abbrev pub is_empty : List ℕ → Bool
is_empty [] = true
is_empty (b ∷ bs) = false

abbrev pub is_first_column : ScanState → Bool
is_first_column FirstColumn = true
is_first_column Within = false
is_first_column Literal = false

abbrev pub is_literal : ScanState → Bool
is_literal FirstColumn = false
is_literal Within = false
is_literal Literal = true

-- characters whose first star and slash in sequence stand at their end; star says that a star stands before
abbrev pub ends_comment : Bool → List ℕ → Bool
ends_comment star [] = false
ends_comment star (b ∷ bs) = cond (star && nat_eq b 47) (is_empty bs) (ends_comment (nat_eq b 42) bs)

-- after the first slash
abbrev pub closes_comment : List ℕ → Bool
closes_comment [] = false
closes_comment (b ∷ bs) = nat_eq b 42 && ends_comment false bs

abbrev pub begins_form : ScanState → Form → ℕ → Bool
begins_form state Blank b = is_blank b
begins_form state ControlLine b = is_dollar b && is_first_column state
begins_form state Comment b = nat_eq b 47
begins_form state OpenComment b = nat_eq b 47
begins_form state Name b = is_letter b
begins_form state Number b = is_digit b
begins_form state String b = is_apostrophe b && not (is_literal state)
begins_form state OpenString b = is_apostrophe b && not (is_literal state)
begins_form state Apostrophe b = is_apostrophe b && is_literal state
begins_form state Special b = true

-- how a form goes on after its first character. A control line goes on to the end of its line; a comment or a string is open
-- where the closing characters would close it
abbrev pub goes_on : Form → ℕ → List ℕ → Bool
goes_on Blank b bs = is_empty bs
goes_on ControlLine b bs = list_all (λ c. not (is_line_feed c)) bs
goes_on Comment b bs = closes_comment bs
goes_on OpenComment b bs = closes_comment (bs ++ codes "*/")
goes_on Name b bs = list_all is_name_character bs
goes_on Number b bs = list_all is_name_character bs
goes_on String b bs = ends_string false bs
goes_on OpenString b bs = ends_string false (bs ++ codes "'")
goes_on Apostrophe b bs = is_empty bs
goes_on Special b bs = is_some (mark_of (b ∷ bs))

-- whether characters, as a whole, have a form in a state
abbrev pub has_form : ScanState → List ℕ → Form → Bool
has_form state [] form = false
has_form state (b ∷ bs) form = begins_form state form b && goes_on form b bs

abbrev pub forms : List Form
forms = Blank ∷ ControlLine ∷ Comment ∷ OpenComment ∷ Name ∷ Number ∷ String ∷ OpenString ∷ Apostrophe ∷ Special ∷ []

-- the form of characters as a whole, if they have one
unfoldable pub form_of : ScanState → List ℕ → Option Form
form_of state text = find (has_form state text) forms

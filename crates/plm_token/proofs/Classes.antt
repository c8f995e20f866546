-- The forms that may begin with a character.
use Rattle.std.proofs.Common.{◌≡◌, ℕ, List, [], ◌∷◌, ◌++◌, true, false, cond, not, ◌&&◌, nat_eq, Some, None, is_some, refl, codes}
use Rattle.std.specs.List.{list_all}
use Rattle.plm_token.specs.declared.piece.ScanState.{ScanState}
use Rattle.plm_token.specs.declared.piece.ScanState.TheVariants.{Literal}
use Rattle.plm_token.specs.Characters.{is_blank, is_letter, is_digit, is_name_character, is_line_feed, is_apostrophe, is_dollar}
use Rattle.plm_token.specs.Strings.{ends_string}
use Rattle.plm_token.specs.Forms.{Blank, Apostrophe, ControlLine, Comment, OpenComment, Name, Number, String, OpenString, Special, form_of, mark_of, is_first_column, is_literal, ends_comment}
use Rattle.plm_token.proofs.CharacterTests.{letter_not_blank, letter_not_apostrophe, letter_not_dollar, letter_not_digit, letter_not_slash, letter_no_mark, digit_not_blank, digit_not_apostrophe, digit_not_dollar, digit_not_letter, digit_not_slash, digit_no_mark, blank_not_apostrophe, blank_not_dollar, blank_not_digit, blank_not_letter, blank_not_slash, blank_no_mark}

pub letter_form : (state : ScanState) (b : ℕ) (cs : List ℕ) → is_letter b ≡ true → form_of state (b ∷ cs) ≡ cond (list_all is_name_character cs) (Some Name) None
unfolding form_of
letter_form state b cs h = rw (letter_no_mark b cs h, letter_not_blank b h, letter_not_dollar b h, letter_not_slash b h, letter_not_digit b h, letter_not_apostrophe b h, h) refl

pub digit_form : (state : ScanState) (b : ℕ) (cs : List ℕ) → is_digit b ≡ true → form_of state (b ∷ cs) ≡ cond (list_all is_name_character cs) (Some Number) None
unfolding form_of
digit_form state b cs h = rw (digit_no_mark b cs h, digit_not_blank b h, digit_not_dollar b h, digit_not_slash b h, digit_not_letter b h, digit_not_apostrophe b h, h) refl

pub dollar_form : (state : ScanState) (cs : List ℕ) → is_first_column state ≡ true → form_of state (36 ∷ cs) ≡ cond (list_all (λ c. not (is_line_feed c)) cs) (Some ControlLine) None
unfolding form_of
dollar_form state cs h = rw h refl

pub string_form : (state : ScanState) (cs : List ℕ) → is_literal state ≡ false → form_of state (39 ∷ cs) ≡ cond (ends_string false cs) (Some String) (cond (ends_string false (cs ++ codes "'")) (Some OpenString) None)
unfolding form_of
string_form state cs h = rw h refl

pub comment_form : (state : ScanState) (cs : List ℕ) → form_of state (47 ∷ 42 ∷ cs) ≡ cond (ends_comment false cs) (Some Comment) (cond (ends_comment false (cs ++ codes "*/")) (Some OpenComment) None)
unfolding form_of
comment_form state cs = refl

-- any other character begins special tokens alone
pub other_form : (state : ScanState) (b : ℕ) (cs : List ℕ) → is_blank b ≡ false → is_letter b ≡ false → is_digit b ≡ false → nat_eq b 47 ≡ false → is_apostrophe b ≡ false → (is_dollar b && is_first_column state) ≡ false
    → form_of state (b ∷ cs) ≡ cond (is_some (mark_of (b ∷ cs))) (Some Special) None
unfolding form_of
other_form state b cs no_blank no_letter no_digit no_slash no_quote no_control = rw (no_blank, no_letter, no_digit, no_slash, no_quote, no_control) refl

pub blank_form : (state : ScanState) (b : ℕ) → is_blank b ≡ true → form_of state (b ∷ []) ≡ Some Blank
unfolding form_of
blank_form state b h = rw h refl

pub blank_longer : (state : ScanState) (b c : ℕ) (cs : List ℕ) → is_blank b ≡ true → form_of state (b ∷ c ∷ cs) ≡ None
unfolding form_of
blank_longer state b c cs h = rw (blank_no_mark b (c ∷ cs) h, blank_not_dollar b h, blank_not_slash b h, blank_not_letter b h, blank_not_digit b h, blank_not_apostrophe b h, h) refl

pub slash_form : (state : ScanState) (c : ℕ) (cs : List ℕ) → nat_eq c 42 ≡ false → form_of state (47 ∷ c ∷ cs) ≡ None
unfolding form_of
slash_form state c cs h = rw h refl

pub apostrophe_form : form_of Literal (39 ∷ []) ≡ Some Apostrophe
unfolding form_of
apostrophe_form = refl

pub apostrophe_longer : (c : ℕ) (cs : List ℕ) → form_of Literal (39 ∷ c ∷ cs) ≡ None
unfolding form_of
apostrophe_longer c cs = refl

-- What the scanner reads at the front is the longest piece that stands there.
use Rattle.std.proofs.lemmas.Bool.{eqb-true, and_parts}
use Rattle.std.proofs.Common.{◌≡◌, ℕ, zero, suc, ◌+◌, ◌<◌, ◌≤◌, List, [], ◌∷◌, length, take, Bool, true, false, cond, not, ◌&&◌, nat_eq, Option, Some, None, is_some, refl, sym, arith, take_all}
use Rattle.plm_token.specs.declared.piece.ScanState.{ScanState}
use Rattle.plm_token.specs.declared.piece.ScanState.TheVariants.{FirstColumn, Within, Literal}
use Rattle.plm_token.specs.declared.token.Mark.TheVariants.{Less, Greater, Colon, NotEqual, LessEqual, GreaterEqual, Assign}
use Rattle.word86.specs.declared.number.Number.TheVariants.{E204}
use Rattle.plm_token.specs.Characters.{is_blank, is_letter, is_digit, is_name_character, is_line_feed, is_apostrophe, is_dollar}
use Rattle.plm_token.specs.Forms.{Blank, ControlLine, Comment, OpenComment, Name, Number, String, OpenString, Apostrophe, Special, form_of, mark_of, is_first_column, is_literal}
use Rattle.plm_token.specs.Pieces.{front_of}
use Rattle.plm_token.specs.Inner.Front.{read_front, comment_length, comment_front, slash_front, string_front, string_length, string_closed, special_front, cut_at, single, double, fault_front, starts_with}
use Rattle.plm_token.proofs.CharacterTests.{pick, no_mark}
use Rattle.plm_token.proofs.Longest.{front_behind, run_front, one_front, first_front, first_alone, two_front, no_front}
use Rattle.plm_token.proofs.Classes.{blank_form, blank_longer, letter_form, digit_form, dollar_form, string_form, comment_form, slash_form, apostrophe_form, apostrophe_longer, other_form}
use Rattle.plm_token.proofs.Comments.{comment_closed, comment_past, comment_open}
use Rattle.plm_token.proofs.Quotes.{inside_string, string_whole, string_past}

comment_none : (state : ScanState) (bs : List ℕ) (n : ℕ) → comment_length false bs ≡ Some n → (j : ℕ) → suc n < j → j ≤ length (42 ∷ bs) → form_of state (47 ∷ take j (42 ∷ bs)) ≡ None
comment_none state bs n e zero above inside = absurd (omega arith)
comment_none state bs n e (suc j) above inside =
    let past = comment_past false bs n e j (omega arith) (omega arith) in rw (comment_form state (take j bs), past.0, past.1) refl

comment_at : (state : ScanState) (bs : List ℕ) (o : Option ℕ) → comment_length false bs ≡ o → comment_front (47 ∷ 42 ∷ bs) o ≡ front_of state (47 ∷ 42 ∷ bs)
comment_at state bs None e =
    let open_ = comment_open false bs e in
    let here : form_of state (47 ∷ take (length (42 ∷ bs)) (42 ∷ bs)) ≡ Some OpenComment = rw (take_all (length (42 ∷ bs)) (42 ∷ bs) (omega arith), comment_form state bs, open_.0, open_.1) refl in
    sym (front_behind state 47 (42 ∷ bs) OpenComment (length (42 ∷ bs)) (omega arith) here (λ j above inside. absurd (omega arith)) (length (47 ∷ 42 ∷ bs)) refl)
comment_at state bs (Some n) e =
    let closed = comment_closed false bs n e in
    let here : form_of state (47 ∷ 42 ∷ take n bs) ≡ Some Comment = rw (comment_form state (take n bs), closed.0) refl in
    sym (front_behind state 47 (42 ∷ bs) Comment (suc n) (omega (arith, closed.1)) here (comment_none state bs n e) (n + 2) (omega arith))

slash_at : (state : ScanState) (bs : List ℕ) → slash_front (47 ∷ bs) bs ≡ front_of state (47 ∷ bs)
unfolding form_of
slash_at state [] = sym (first_alone state 47 Special refl)
slash_at state (c ∷ bs) = pick (nat_eq c 42) _ _ _
    (λ e. let k : c ≡ 42 = eqb-true c 42 e in rw k (comment_at state bs (comment_length false bs) refl))
    (λ e. sym (first_front state 47 c bs Special refl (λ cs. slash_form state c cs e)))

string_at : (state : ScanState) (bs : List ℕ) → is_literal state ≡ false → string_front (39 ∷ bs) bs ≡ front_of state (39 ∷ bs)
string_at state bs e = at (string_closed false bs) refl where
  none : (j : ℕ) → string_length false bs < j → j ≤ length bs → form_of state (39 ∷ take j bs) ≡ None
  none j above inside = let past = string_past false bs j above inside in rw (string_form state (take j bs) e, past.0, past.1) refl

  at : (p : Bool) → string_closed false bs ≡ p → cut_at (cond p String OpenString) (39 ∷ bs) (string_length false bs + 1) ≡ front_of state (39 ∷ bs)
  at true f =
      let here : form_of state (39 ∷ take (string_length false bs) bs) ≡ Some String = rw (string_form state (take (string_length false bs) bs) e, (string_whole false bs).0, f) refl in
      sym (front_behind state 39 bs String (string_length false bs) (inside_string false bs) here none (string_length false bs + 1) (omega arith))
  at false f =
      let here : form_of state (39 ∷ take (string_length false bs) bs) ≡ Some OpenString = rw (string_form state (take (string_length false bs) bs) e, (string_whole false bs).0, f, (string_whole false bs).1 f) refl in
      sym (front_behind state 39 bs OpenString (string_length false bs) (inside_string false bs) here none (string_length false bs + 1) (omega arith))

quote_at : (state : ScanState) (bs : List ℕ) → cond (is_literal state) (fault_front E204) (string_front (39 ∷ bs) bs) ≡ front_of state (39 ∷ bs)
quote_at FirstColumn bs = string_at FirstColumn bs refl
quote_at Within bs = string_at Within bs refl
quote_at Literal bs = sym (one_front Literal 39 bs Apostrophe apostrophe_form apostrophe_longer)

-- special tokens that are no other's beginning
single_at : (state : ScanState) (b : ℕ) (bs : List ℕ) → form_of state (b ∷ []) ≡ Some Special → ((c : ℕ) (cs : List ℕ) → form_of state (b ∷ c ∷ cs) ≡ None) → cut_at Special (b ∷ bs) 1 ≡ front_of state (b ∷ bs)
single_at state b bs here none = sym (one_front state b bs Special here none)

colon_at : (state : ScanState) (bs : List ℕ) → cond (starts_with 61 bs) (double Assign) (single Colon) ≡ front_of state (58 ∷ bs)
unfolding form_of
colon_at state [] = sym (first_alone state 58 Special refl)
colon_at state (c ∷ bs) = pick (nat_eq c 61) _ _ _
    (λ e. let k : c ≡ 61 = eqb-true c 61 e in rw k (sym (two_front state 58 61 bs Special refl (λ d ds. refl))))
    (λ e. sym (first_front state 58 c bs Special refl (λ cs. rw e refl)))

greater_at : (state : ScanState) (bs : List ℕ) → cond (starts_with 61 bs) (double GreaterEqual) (single Greater) ≡ front_of state (62 ∷ bs)
unfolding form_of
greater_at state [] = sym (first_alone state 62 Special refl)
greater_at state (c ∷ bs) = pick (nat_eq c 61) _ _ _
    (λ e. let k : c ≡ 61 = eqb-true c 61 e in rw k (sym (two_front state 62 61 bs Special refl (λ d ds. refl))))
    (λ e. sym (first_front state 62 c bs Special refl (λ cs. rw e refl)))

less_at : (state : ScanState) (bs : List ℕ) → cond (starts_with 62 bs) (double NotEqual) (cond (starts_with 61 bs) (double LessEqual) (single Less)) ≡ front_of state (60 ∷ bs)
unfolding form_of
less_at state [] = sym (first_alone state 60 Special refl)
less_at state (c ∷ bs) = pick (nat_eq c 62) _ _ _
    (λ e. let k : c ≡ 62 = eqb-true c 62 e in rw k (sym (two_front state 60 62 bs Special refl (λ d ds. refl))))
    (λ n. pick (nat_eq c 61) _ _ _
    (λ e. let k : c ≡ 61 = eqb-true c 61 e in rw k (sym (two_front state 60 61 bs Special refl (λ d ds. refl))))
    (λ e. sym (first_front state 60 c bs Special refl (λ cs. rw (n, e) refl))))

special_at : (state : ScanState) (b : ℕ) (bs : List ℕ) → ((cs : List ℕ) → form_of state (b ∷ cs) ≡ cond (is_some (mark_of (b ∷ cs))) (Some Special) None) → nat_eq b 47 ≡ false → special_front b bs ≡ front_of state (b ∷ bs)
unfolding form_of
special_at state b bs form slash =
    pick (nat_eq b 61) _ _ _ (λ e. let k : b ≡ 61 = eqb-true b 61 e in rw k (single_at state 61 bs refl (λ c cs. refl))) (λ n61.
    pick (nat_eq b 46) _ _ _ (λ e. let k : b ≡ 46 = eqb-true b 46 e in rw k (single_at state 46 bs refl (λ c cs. refl))) (λ n46.
    pick (nat_eq b 40) _ _ _ (λ e. let k : b ≡ 40 = eqb-true b 40 e in rw k (single_at state 40 bs refl (λ c cs. refl))) (λ n40.
    pick (nat_eq b 41) _ _ _ (λ e. let k : b ≡ 41 = eqb-true b 41 e in rw k (single_at state 41 bs refl (λ c cs. refl))) (λ n41.
    pick (nat_eq b 43) _ _ _ (λ e. let k : b ≡ 43 = eqb-true b 43 e in rw k (single_at state 43 bs refl (λ c cs. refl))) (λ n43.
    pick (nat_eq b 45) _ _ _ (λ e. let k : b ≡ 45 = eqb-true b 45 e in rw k (single_at state 45 bs refl (λ c cs. refl))) (λ n45.
    pick (nat_eq b 42) _ _ _ (λ e. let k : b ≡ 42 = eqb-true b 42 e in rw k (single_at state 42 bs refl (λ c cs. refl))) (λ n42.
    pick (nat_eq b 44) _ _ _ (λ e. let k : b ≡ 44 = eqb-true b 44 e in rw k (single_at state 44 bs refl (λ c cs. refl))) (λ n44.
    pick (nat_eq b 59) _ _ _ (λ e. let k : b ≡ 59 = eqb-true b 59 e in rw k (single_at state 59 bs refl (λ c cs. refl))) (λ n59.
    pick (nat_eq b 64) _ _ _ (λ e. let k : b ≡ 64 = eqb-true b 64 e in rw k (single_at state 64 bs refl (λ c cs. refl))) (λ n64.
    pick (nat_eq b 58) _ _ _ (λ e. let k : b ≡ 58 = eqb-true b 58 e in rw k (colon_at state bs)) (λ n58.
    pick (nat_eq b 62) _ _ _ (λ e. let k : b ≡ 62 = eqb-true b 62 e in rw k (greater_at state bs)) (λ n62.
    pick (nat_eq b 60) _ _ _ (λ e. let k : b ≡ 60 = eqb-true b 60 e in rw k (less_at state bs)) (λ n60.
    sym (no_front state b bs (λ cs. rw (form cs, no_mark b cs n61 n46 slash n40 n41 n43 n45 n42 n44 n60 n62 n58 n59 n64) refl)))))))))))))))

pub read_is_front : (state : ScanState) (b : ℕ) (bs : List ℕ) → read_front state b bs ≡ front_of state (b ∷ bs)
unfolding read_front
read_is_front state b bs =
    pick (is_blank b) _ _ _ (λ e. sym (one_front state b bs Blank (blank_form state b e) (λ c cs. blank_longer state b c cs e))) (λ no_blank.
    pick (is_letter b) _ _ _ (λ e. sym (run_front state b bs Name is_name_character (λ cs. letter_form state b cs e))) (λ no_letter.
    pick (is_digit b) _ _ _ (λ e. sym (run_front state b bs Number is_name_character (λ cs. digit_form state b cs e))) (λ no_digit.
    pick (nat_eq b 47) _ _ _ (λ e. let k : b ≡ 47 = eqb-true b 47 e in rw k (slash_at state bs)) (λ no_slash.
    pick (is_apostrophe b) _ _ _ (λ e. let k : b ≡ 39 = eqb-true b 39 e in rw k (quote_at state bs)) (λ no_quote.
    pick (is_dollar b && is_first_column state) _ _ _
    (λ e. let both = and_parts (is_dollar b) (is_first_column state) e in let k : b ≡ 36 = eqb-true b 36 both.0 in
    rw k (sym (run_front state 36 bs ControlLine (λ c. not (is_line_feed c)) (λ cs. dollar_form state cs both.1)))) (λ no_control.
    special_at state b bs (λ cs. other_form state b cs no_blank no_letter no_digit no_slash no_quote no_control) no_slash))))))

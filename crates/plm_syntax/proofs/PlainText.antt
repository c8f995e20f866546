-- The text of a literal holds no string.
use Rattle.std.proofs.Common.{◌≡◌, ℕ, zero, suc, ◌-◌, List, [], ◌∷◌, length, take, drop, Bool, true, false, cond, ◌&&◌, nat_lt, find, Option, Some, None, Result, Ok, refl, sym, ap, ◌∙◌, subst}
use Rattle.word86.specs.declared.number.Number.{Number}
use Rattle.word86.specs.declared.number.Number.TheVariants.{E105, E106}
use Rattle.plm_token.specs.declared.token.Keyword.{Keyword}
use Rattle.plm_token.specs.declared.token.Mark.{Mark}
use Rattle.plm_token.specs.declared.piece.ScanState.TheVariants.{Literal}
use Rattle.plm_token.specs.declared.piece.Piece.{Piece}
use Rattle.plm_token.specs.declared.piece.Piece.TheVariants.{Skipped, Token, Fault}
use Rattle.plm_token.specs.Characters.{is_apostrophe}
use Rattle.plm_token.specs.Names.{normal, keyword_of}
use Rattle.plm_token.specs.Numbers.{numeral_of}
use Rattle.plm_token.specs.Forms.{Form, Blank, ControlLine, Comment, OpenComment, Name, Number as NumberForm, String, OpenString, Apostrophe, Special, has_form, forms, form_of, goes_on, mark_of}
use Rattle.plm_token.specs.Pieces.{name_kind, number_piece, special_piece, piece_of, holds_include, or_shorter, longest_within, front_from, front_of, line_behind, pieces_behind, pieces}
use Rattle.plm_token.specs.Literals.{Symbol, least_fault, symbol_before, symbols_of, unless_fault, literal_of}
use Rattle.plm_syntax.specs.Literals.{is_string}

abbrev pub IsPlain : List Symbol → Type 0
IsPlain [] = Unit {0}
IsPlain (s ∷ ss) = (is_string s.kind ≡ false) × IsPlain ss

abbrev pub IsPlainPiece : Piece → Type 0
IsPlainPiece Skipped = Unit {0}
IsPlainPiece (Token kind) = is_string kind ≡ false
IsPlainPiece (Fault number) = Unit {0}

pub plain_name : (k : Option Keyword) → is_string (name_kind k) ≡ false
plain_name None = refl
plain_name (Some k) = refl

pub plain_number : (n : Option ℕ) → IsPlainPiece (number_piece n)
plain_number None = tt
plain_number (Some n) = refl

pub plain_special : (m : Option Mark) → IsPlainPiece (special_piece m)
plain_special None = tt
plain_special (Some m) = refl

pub plain_line : (b : Bool) → IsPlainPiece (cond b (Fault E106) Skipped)
plain_line true = tt
plain_line false = tt

pub plain_short : (b : Bool) (k : Option Keyword) → IsPlainPiece (cond b (Fault E105) (Token (name_kind k)))
plain_short true k = tt
plain_short false k = plain_name k

pub no_string : (a b : Bool) → ((a && false) && b) ≡ true → ⊥
no_string true b h = absurd cc
no_string false b h = absurd cc

pub not_in_literal : (text : List ℕ) → has_form Literal text String ≡ true → ⊥
not_in_literal [] h = absurd cc
not_in_literal (b ∷ bs) h = no_string (is_apostrophe b) (goes_on String b bs) h

pub plain_form : (form : Form) (text front back : List ℕ) → has_form Literal text form ≡ true → IsPlainPiece (piece_of form front back)
plain_form Blank text front back h = tt
plain_form ControlLine text front back h = plain_line (holds_include front)
plain_form Comment text front back h = tt
plain_form OpenComment text front back h = tt
plain_form Name text front back h = plain_short (nat_lt 31 (length (normal front))) (keyword_of (normal front))
plain_form NumberForm text front back h = plain_number (numeral_of (normal front))
plain_form String text front back h = absurd (not_in_literal text h)
plain_form OpenString text front back h = tt
plain_form Apostrophe text front back h = tt
plain_form Special text front back h = plain_special (mark_of front)

pub find_passes : {X : Type 0} (p : X → Bool) (xs : List X) (y : X) → find p xs ≡ Some y → p y ≡ true
find_passes p [] y h = absurd cc
find_passes {X} p (x ∷ xs) y h = by_test (p x) refl (λ k. find_passes p xs y k) h
  where
    same : {a b : X} → Some a ≡ Some b → a ≡ b
    same e = cc

    by_test : (t : Bool) → p x ≡ t → (find p xs ≡ Some y → p y ≡ true) → cond t (Some x) (find p xs) ≡ Some y → p y ≡ true
    by_test true e on k = ap p (sym (same k)) ∙ e
    by_test false e on k = on k

abbrev pub IsPlainLongest : Option (Form × ℕ) → Type 0
IsPlainLongest None = Unit {0}
IsPlainLongest (Some longest) = (front back : List ℕ) → IsPlainPiece (piece_of longest.0 front back)

pub form_plain : (text : List ℕ) (form : Form) → form_of Literal text ≡ Some form → (front back : List ℕ) → IsPlainPiece (piece_of form front back)
unfolding form_of
form_plain text form h front back = plain_form form text front back (find_passes (has_form Literal text) forms form h)

pub plain_longest : (n : ℕ) (text : List ℕ) → IsPlainLongest (longest_within n Literal text)
plain_longest zero text = tt
plain_longest (suc n) text = by_form (form_of Literal (take (suc n) text)) refl (plain_longest n text)
  where
    by_form : (o : Option Form) → form_of Literal (take (suc n) text) ≡ o → IsPlainLongest (longest_within n Literal text) → IsPlainLongest (or_shorter o (suc n) (longest_within n Literal text))
    by_form None e on = on
    by_form (Some form) e on = λ front back. form_plain (take (suc n) text) form e front back

pub plain_front_from : (text : List ℕ) (longest : Option (Form × ℕ)) → IsPlainLongest longest → IsPlainPiece (front_from text longest).piece
plain_front_from text None h = tt
plain_front_from text (Some longest) h = h (take longest.1 text) (drop longest.1 text)

pub plain_front : (text : List ℕ) → IsPlainPiece (front_of Literal text).piece
unfolding front_of
plain_front text = plain_front_from text _ (plain_longest _ text)

pub plain_before : (p : Piece) (text : List ℕ) (symbols : List Symbol) → IsPlainPiece p → IsPlain symbols → IsPlain (symbol_before p text symbols)
plain_before Skipped text symbols h k = k
plain_before (Token kind) text symbols h k = (h, k)
plain_before (Fault number) text symbols h k = k

pub plain_pieces : (skip line : ℕ) (text : List ℕ) → IsPlain (symbols_of (pieces_behind skip Literal line text))
unfolding pieces_behind
plain_pieces skip line [] = tt
plain_pieces (suc skip) line (b ∷ bs) = plain_pieces skip (line_behind line b) bs
plain_pieces zero line (b ∷ bs) = plain_before (front_of Literal (b ∷ bs)).piece _ _ (plain_front (b ∷ bs)) (plain_pieces ((front_of Literal (b ∷ bs)).length - 1) (line_behind line b) bs)

pub plain_literal : (text : List ℕ) (symbols : List Symbol) → literal_of text ≡ Ok symbols → IsPlain symbols
unfolding literal_of
plain_literal text symbols h = by_fault (least_fault (pieces Literal 0 text)) h
  where
    same : {a b : Result (List Symbol) Number} → (x y : List Symbol) → a ≡ Ok x → b ≡ Ok y → a ≡ b → x ≡ y
    same x y h k e = cc

    by_fault : (f : Option Number) → unless_fault f (symbols_of (pieces Literal 0 text)) ≡ Ok symbols → IsPlain symbols
    by_fault None e = subst IsPlain (same (symbols_of (pieces Literal 0 text)) symbols refl refl e) (plain_pieces 0 0 text)
    by_fault (Some n) e = absurd cc

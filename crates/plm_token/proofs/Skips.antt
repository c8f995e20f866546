-- One piece after the other.
use Rattle.std.proofs.lemmas.Bool.{ne_eqb}
use Rattle.std.proofs.Common.{◌≡◌, ◌∙◌, ℕ, zero, suc, ◌+◌, ◌-◌, ◌<◌, ◌≤◌, List, [], ◌∷◌, ◌++◌, Bool, true, false, cond, take, drop, length, fold, count_by, refl, ap, sym, arith, ◌≢◌}
use Rattle.std.proofs.lemmas.List.Sums.{fold_push, sum_by-cons}
use Rattle.plm_token.specs.declared.piece.ScanState.{ScanState}
use Rattle.plm_token.specs.declared.piece.ScanState.TheVariants.{FirstColumn, Within, Literal}
use Rattle.plm_token.specs.declared.piece.Front.{Front}
use Rattle.plm_token.specs.Characters.{is_line_feed}
use Rattle.plm_token.specs.Forms.{is_literal}
use Rattle.plm_token.specs.Pieces.{pieces, pieces_behind, state_after, line_behind, front_of}

pub skipped : (k : ℕ) (state : ScanState) (line : ℕ) (bs : List ℕ) → k ≤ length bs
    → pieces_behind k state line bs ≡ pieces (fold state_after state (take k bs)) (fold line_behind line (take k bs)) (drop k bs)
unfolding pieces_behind
skipped zero state line bs inside = refl
skipped (suc k) state line [] inside = absurd (omega arith)
skipped (suc k) state line (b ∷ bs) inside = skipped k (state_after state b) (line_behind line b) bs (omega arith)

feeds : (b : ℕ) (bs : List ℕ) → count_by is_line_feed (b ∷ bs) ≡ cond (is_line_feed b) 1 0 + count_by is_line_feed bs
feeds b bs = sum_by-cons (λ c. cond (is_line_feed c) 1 0) b bs

on_feed : (line n : ℕ) (p : Bool) → cond p (line + 1) line + n ≡ line + (cond p 1 0 + n)
on_feed line n true = omega arith
on_feed line n false = omega arith

pub line_behind-all : (line : ℕ) (bs : List ℕ) → fold line_behind line bs ≡ line + count_by is_line_feed bs
line_behind-all line [] = omega arith
line_behind-all line (b ∷ bs) = line_behind-all (line_behind line b) bs ∙ on_feed line (count_by is_line_feed bs) (is_line_feed b) ∙ ap (λ (n : ℕ). line + n) (sym (feeds b bs))

pub first_then_rest : (state : ScanState) (line b : ℕ) (bs : List ℕ) (front : Front) (k : ℕ) → front ≡ front_of state (b ∷ bs) → front.length ≡ suc k → k ≤ length bs
    → pieces state line (b ∷ bs) ≡ record { piece = front.piece; text = take (suc k) (b ∷ bs); line = line }
    ∷ pieces (fold state_after state (take (suc k) (b ∷ bs))) (fold line_behind line (take (suc k) (b ∷ bs))) (drop (suc k) (b ∷ bs))
unfolding pieces_behind
first_then_rest state line b bs front k e n inside =
    let less : suc k - 1 ≡ k = omega arith in
    rw (← e, n, less, skipped k (state_after state b) (line_behind line b) bs inside) refl

first_piece : (state : ScanState) (line b : ℕ) (bs : List ℕ) (front : Front) (k : ℕ) → front ≡ front_of state (b ∷ bs) → front.length ≡ suc k → k ≤ length bs
    → pieces state line (b ∷ bs) ≡ record { piece = front.piece; text = take (suc k) (b ∷ bs); line = line }
    ∷ pieces (fold state_after state (take (suc k) (b ∷ bs))) (line + count_by is_line_feed (take (suc k) (b ∷ bs))) (drop (suc k) (b ∷ bs))
first_piece state line b bs front k e n inside = rw (← line_behind-all line (take (suc k) (b ∷ bs))) (first_then_rest state line b bs front k e n inside)

-- the first piece of a text, and those after it
pub next_piece : (state : ScanState) (line : ℕ) (text front_text behind : List ℕ) (front : Front) → front ≡ front_of state text → 0 < front.length → front.length ≤ length text
    → front_text ≡ take front.length text → behind ≡ drop front.length text
    → pieces state line text ≡ record { piece = front.piece; text = front_text; line = line } ∷ pieces (fold state_after state front_text) (line + count_by is_line_feed front_text) behind
next_piece state line [] front_text behind front e some inside f b = absurd (omega arith)
next_piece state line (c ∷ cs) front_text behind front e some inside f b =
    let k : ℕ = front.length - 1 in
    let n : front.length ≡ suc k = omega arith in
    let one = first_piece state line c cs front k e n (omega arith) in
    rw (f, b, n) one

place_by : (state : ScanState) (b : ℕ) → state_after state b ≡ cond (is_literal state) Literal (cond (is_line_feed b) FirstColumn Within)
place_by FirstColumn b = refl
place_by Within b = refl
place_by Literal b = refl

stays_by : (b : ℕ) (p q : Bool) → is_literal (cond p Literal (cond q FirstColumn Within)) ≡ p
stays_by b true q = refl
stays_by b false true = refl
stays_by b false false = refl

stays_literal : (state : ScanState) (bs : List ℕ) → is_literal (fold state_after state bs) ≡ is_literal state
stays_literal state [] = refl
stays_literal state (b ∷ bs) = stays_literal (state_after state b) bs ∙ ap is_literal (place_by state b) ∙ stays_by b (is_literal state) (is_line_feed b)

-- the state after characters is told by the last of them
pub state_after-all : (state : ScanState) (bs : List ℕ) (b : ℕ) → fold state_after state (bs ++ b ∷ []) ≡ cond (is_literal state) Literal (cond (is_line_feed b) FirstColumn Within)
state_after-all state bs b = fold_push state_after state bs b ∙ place_by (fold state_after state bs) b ∙ ap (λ (p : Bool). cond p Literal (cond (is_line_feed b) FirstColumn Within)) (stays_literal state bs)

literal_behind-all : (bs : List ℕ) → fold state_after Literal bs ≡ Literal
literal_behind-all [] = refl
literal_behind-all (b ∷ bs) = literal_behind-all bs

pub literal_stays : (state : ScanState) (text : List ℕ) → is_literal state ≡ true → state ≡ fold state_after state text
literal_stays FirstColumn text e = absurd (cc e)
literal_stays Within text e = absurd (cc e)
literal_stays Literal text e = sym (literal_behind-all text)

pub line_start : (state : ScanState) (text front : List ℕ) (b : ℕ) → is_literal state ≡ false → text ≡ front ++ b ∷ [] → b ≡ 10 → FirstColumn ≡ fold state_after state text
line_start state text front b p e h = rw (e, state_after-all state front b, p, h) refl

pub line_inside : (state : ScanState) (text front : List ℕ) (b : ℕ) → is_literal state ≡ false → text ≡ front ++ b ∷ [] → b ≢ 10 → Within ≡ fold state_after state text
line_inside state text front b p e h = rw (e, state_after-all state front b, p, ne_eqb b 10 h) refl

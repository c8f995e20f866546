-- The lines of a text, and the warnings at them.
use Rattle.std.proofs.Common.{◌≡◌, ◌∙◌, ◌++◌, ◌∷◌, [], ◌+◌, ◌<◌, ◌≤◌, ℕ, Bool, true, false, List, Option, ap, sym, refl, subst, arith, append-nil, append_assoc, length, take, drop, get_or, ◌&&◌}
use Rattle.std.specs.Prelude.{◌==◌}
use Rattle.std.specs.List.{All, flat_map}
use Rattle.std.proofs.lemmas.Bool.{ne_eqb}
use Rattle.std.proofs.lemmas.List.{at_drop_more}
use Rattle.std.proofs.lemmas.List.Elements.{All-nil, All-cons, All-head, All-tail, All-more, All-weaker}
use Rattle.plm_type.specs.declared.sharing.Warning.{Warning}
use Rattle.listing_map.specs.SourceListing.{at_line_feed, lines_of, warning_lines, listing_lines, listing_text}
use Rattle.listing_map.proofs.Writing.{Took}

-- what put_lines has written, and what it knows of the warnings from its next line on
pub record IsListed (old new : Option (List ℕ)) (before after : ℕ) (source : List ℕ) (warnings : List Warning) (rest : List ℕ) (number warned : ℕ) : Type 0 where
  pub took : Took old new before after (listing_text source warnings) (listing_lines number warnings (lines_of rest))
  pub room : number + length rest ≤ length source + 1
  pub none : All (λ w. number ≤ w.line → warned ≤ w.line) warnings

-- one more of a list
pub flat_map_from : {X : Type 0} (f : X → List ℕ) (xs : List X) (j : ℕ) (d : X) → j < length xs → flat_map f (drop j xs) ≡ f (get_or xs j d) ++ flat_map f (drop (j + 1) xs)
flat_map_from f xs j d lt = at_drop_more (flat_map f) xs j d lt

-- no warning is at a line before the next one that has any
pub none_warned : (number warned : ℕ) (warnings : List Warning) → All (λ w. number ≤ w.line → warned ≤ w.line) warnings → number < warned → warning_lines number warnings ≡ []
none_warned number warned [] h lt = refl
none_warned number warned (w ∷ ws) h lt =
    let at : (number ≤ w.line → warned ≤ w.line) = All-head (λ w. number ≤ w.line → warned ≤ w.line) w ws h in
    let other : (w.line ≡ number → ⊥) = λ e. omega (arith, e, at) in
    rw (ne_eqb w.line number other) (none_warned number warned ws (All-tail (λ w. number ≤ w.line → warned ≤ w.line) w ws h) lt)

-- the first warned line, after one warning more
pub first_more : (ws : List Warning) (i : ℕ) (d : Warning) (number first next : ℕ) → i < length ws → All (λ w. number ≤ w.line → first ≤ w.line) (take i ws) → next ≤ first
    → (number ≤ (get_or ws i d).line → next ≤ (get_or ws i d).line) → All (λ w. number ≤ w.line → next ≤ w.line) (take (i + 1) ws)
first_more ws i d number first next lt h le at =
    All-more (λ w. number ≤ w.line → next ≤ w.line) ws i d lt (All-weaker (λ w. number ≤ w.line → first ≤ w.line) (λ w. number ≤ w.line → next ≤ w.line) (λ w f n. omega (arith, f n)) (take i ws) h) at

pub and_false : (b : Bool) → (b && false) ≡ false
and_false true = refl
and_false false = refl

-- bytes that are no line feed, and then what begins with none
pub no_feed : (s t : List ℕ) → All (λ b. (b == 10) ≡ false) s → at_line_feed t ≡ false → at_line_feed (s ++ t) ≡ false
no_feed [] t h feed = feed
no_feed (b ∷ s) t h feed = All-head (λ b. (b == 10) ≡ false) b s h

-- a byte of a line
pub byte_of_line : (b : ℕ) (bs line : List ℕ) (lines : List (List ℕ)) → (b == 10) ≡ false → at_line_feed bs ≡ false → lines_of bs ≡ line ∷ lines → lines_of (b ∷ bs) ≡ (b ∷ line) ∷ lines
byte_of_line b bs line lines other feed e = rw (other, feed, and_false (b == 13), e) refl

-- bytes that are no line feed begin the line of what follows them, unless a line feed does
pub begins : (s t line : List ℕ) (lines : List (List ℕ)) → All (λ b. (b == 10) ≡ false) s → at_line_feed t ≡ false → lines_of t ≡ line ∷ lines → lines_of (s ++ t) ≡ (s ++ line) ∷ lines
begins [] t line lines h feed e = e
begins (b ∷ s) t line lines h feed e =
    let tail = All-tail (λ b. (b == 10) ≡ false) b s h in
    byte_of_line b (s ++ t) (s ++ line) lines (All-head (λ b. (b == 10) ≡ false) b s h) (no_feed s t tail feed) (begins s t line lines tail feed e)

-- a text without a line feed is one line
pub one_line : (b : ℕ) (s : List ℕ) → All (λ b. (b == 10) ≡ false) (b ∷ s) → lines_of (b ∷ s) ≡ (b ∷ s) ∷ []
one_line b [] h = rw (All-head (λ b. (b == 10) ≡ false) b [] h, and_false (b == 13)) refl
one_line b (c ∷ s) h =
    let tail = All-tail (λ b. (b == 10) ≡ false) b (c ∷ s) h in
    byte_of_line b (c ∷ s) (c ∷ s) [] (All-head (λ b. (b == 10) ≡ false) b (c ∷ s) h) (All-head (λ b. (b == 10) ≡ false) c s tail) (one_line c s tail)

pub last_line : (s : List ℕ) → 0 < length s → All (λ b. (b == 10) ≡ false) s → lines_of s ≡ s ∷ []
last_line [] lt h = absurd (omega (arith, lt))
last_line (b ∷ s) lt h = one_line b s h

-- parts of a list
pub All-front : {X : Type 0} (P : X → Type 0) (s t : List X) → All P (s ++ t) → All P s
All-front P [] t h = All-nil P
All-front P (x ∷ s) t h = All-cons P x s (All-head P x (s ++ t) h) (All-front P s t (All-tail P x (s ++ t) h))

pub All-last : {X : Type 0} (P : X → Type 0) (s : List X) (x : X) → All P (s ++ x ∷ []) → P x
All-last P [] x h = All-head P x [] h
All-last P (y ∷ s) x h = All-last P s x (All-tail P y (s ++ x ∷ []) h)

-- the end of a line that a carriage return stands before
pub after_return : (line start rest : List ℕ) (last : ℕ) → line ≡ start ++ last ∷ [] → last ≡ 13 → All (λ b. (b == 10) ≡ false) line → lines_of (line ++ 10 ∷ rest) ≡ start ∷ lines_of rest
after_return line start rest last e f h =
    let both : line ≡ start ++ 13 ∷ [] = e ∙ ap (λ (b : ℕ). start ++ b ∷ []) f in
    let front : All (λ b. (b == 10) ≡ false) start = All-front (λ b. (b == 10) ≡ false) start (13 ∷ []) (subst (λ (l : List ℕ). All (λ b. (b == 10) ≡ false) l) both h) in
    ap lines_of (ap (λ (l : List ℕ). l ++ 10 ∷ rest) both ∙ append_assoc start (13 ∷ []) (10 ∷ rest)) ∙ begins start (13 ∷ 10 ∷ rest) [] (lines_of rest) front refl refl ∙ ap (λ (l : List ℕ). l ∷ lines_of rest) (append-nil start)

-- the end of another line
pub after_other : (line start rest : List ℕ) (last : ℕ) → line ≡ start ++ last ∷ [] → (last ≡ 13 → ⊥) → All (λ b. (b == 10) ≡ false) line → lines_of (line ++ 10 ∷ rest) ≡ line ∷ lines_of rest
after_other line start rest last e f h =
    let whole : All (λ b. (b == 10) ≡ false) (start ++ last ∷ []) = subst (λ (l : List ℕ). All (λ b. (b == 10) ≡ false) l) e h in
    let front : All (λ b. (b == 10) ≡ false) start = All-front (λ b. (b == 10) ≡ false) start (last ∷ []) whole in
    let other : (last == 10) ≡ false = All-last (λ b. (b == 10) ≡ false) start last whole in
    let tail : lines_of (last ∷ 10 ∷ rest) ≡ (last ∷ []) ∷ lines_of rest = rw (other, ne_eqb last 13 f) refl in
    ap lines_of (ap (λ (l : List ℕ). l ++ 10 ∷ rest) e ∙ append_assoc start (last ∷ []) (10 ∷ rest)) ∙ begins start (last ∷ 10 ∷ rest) (last ∷ []) (lines_of rest) front other tail ∙ ap (λ (l : List ℕ). l ∷ lines_of rest) (sym e)

-- How many statements there are up to the last one that has code, and what the last one decides.
use Rattle.std.proofs.Common.{◌≡◌, ℕ, zero, suc, ◌<◌, true, false, ◌&&◌, List, [], ◌∷◌, length, drop, get_or, nat_le, refl, ap, sym, ◌∙◌, arith}
use Rattle.std.proofs.Math.Dec.{leb-zero, leb-suc-zero, leb-suc-suc}
use Rattle.std.proofs.lemmas.Bool.{and_parts, and_left, and_right}
use Rattle.std.specs.Global.{Box}
use Rattle.plm_type.specs.declared.program.Statement.{Statement}
use Rattle.plm_type.specs.View.{statement_of, statements_of}
use Rattle.lower.specs.Statements.{is_silent, are_silent, stays, all_stay}

-- what comes after nothing but silent statements is silent
pub silent_behind : (ss : List (Box Statement)) (k : ℕ) → are_silent (statements_of ss) ≡ true → are_silent (statements_of (drop k ss)) ≡ true
silent_behind ss zero h = h
silent_behind [] (suc k) h = refl
silent_behind (s ∷ ss) (suc k) h = silent_behind ss k (and_parts (is_silent (statement_of s.value)) (are_silent (statements_of ss)) h).1

-- one more silent statement
pub silent_at : (ss : List (Box Statement)) (k : ℕ) (d : Box Statement) → k < length ss → is_silent (statement_of (get_or ss k d).value) ≡ true → are_silent (statements_of (drop (suc k) ss)) ≡ true
    → are_silent (statements_of (drop k ss)) ≡ true
silent_at [] k d lt here behind = absurd (omega (arith, lt))
silent_at (s ∷ ss) zero d lt here behind = ap (λ b. b && are_silent (statements_of ss)) here ∙ behind
silent_at (s ∷ ss) (suc k) d lt here behind = silent_at ss k d (omega (arith, lt)) here behind

-- without code there is none anywhere
pub none : (ss : List (Box Statement)) (k : ℕ) → are_silent (statements_of ss) ≡ true → nat_le 0 k ≡ are_silent (statements_of (drop k ss))
none ss k h = leb-zero k ∙ sym (silent_behind ss k h)

-- the last one that has code
pub last : (ss : List (Box Statement)) (m : ℕ) (d : Box Statement) → m < length ss → is_silent (statement_of (get_or ss m d).value) ≡ false → are_silent (statements_of (drop (suc m) ss)) ≡ true
    → (k : ℕ) → nat_le (suc m) k ≡ are_silent (statements_of (drop k ss))
last [] m d lt here behind k = absurd (omega (arith, lt))
last (s ∷ ss) zero d lt here behind zero = leb-suc-zero 0 ∙ sym (and_left (is_silent (statement_of s.value)) (are_silent (statements_of ss)) here)
last (s ∷ ss) zero d lt here behind (suc k) = leb-suc-suc 0 k ∙ none ss k behind
last (s ∷ ss) (suc m) d lt here behind zero = leb-suc-zero (suc m) ∙ sym (and_right (is_silent (statement_of s.value)) (are_silent (statements_of ss)) (sym (last ss m d (omega (arith, lt)) here behind zero) ∙ leb-suc-zero m))
last (s ∷ ss) (suc m) d lt here behind (suc k) = leb-suc-suc (suc m) k ∙ last ss m d (omega (arith, lt)) here behind k

-- whether control comes to the end of statements is said of the last one
pub last_stays : (k : ℕ) (ss : List (Box Statement)) (s : Box Statement) → length ss ≡ suc k → s ≡ get_or ss k s → stays (statement_of s.value) ≡ all_stay (statements_of ss)
last_stays k [] s l is = absurd (omega (arith, l))
last_stays zero (x ∷ []) s l is = ap (λ y. stays (statement_of y.value)) is
last_stays zero (x ∷ y ∷ ss) s l is = absurd (omega (arith, l))
last_stays (suc k) (x ∷ []) s l is = absurd (omega (arith, l))
last_stays (suc k) (x ∷ y ∷ ss) s l is = last_stays k (y ∷ ss) s (omega (arith, l)) is

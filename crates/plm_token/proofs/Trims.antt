-- The end of a text.
use Rattle.std.proofs.lemmas.Bool.{ne_eqb}
use Rattle.std.proofs.Common.{◌≡◌, ℕ, ◌+◌, ◌-◌, List, [], ◌∷◌, ◌++◌, Bool, false, cond, length, nat_eq, refl, sym, arith, ◌≢◌}
use Rattle.std.specs.List.{suffix_len}
use Rattle.std.proofs.lemmas.List.{reverse-append, take-append-le, take_all, length_push}
use Rattle.plm_token.specs.Scanner.{trimmed}

abbrev is_mark : ℕ → Bool
is_mark b = nat_eq b 26

suffix-push : (bs : List ℕ) (b : ℕ) → suffix_len is_mark (bs ++ b ∷ []) ≡ cond (is_mark b) (1 + suffix_len is_mark bs) 0
suffix-push bs b = rw (reverse-append bs (b ∷ [])) refl

pub trimmed-nil : trimmed [] ≡ []
unfolding trimmed
trimmed-nil = refl

pub trimmed-mark : (bs : List ℕ) → trimmed (bs ++ 26 ∷ []) ≡ trimmed bs
unfolding trimmed
trimmed-mark bs =
    let less : length (bs ++ 26 ∷ []) - (1 + suffix_len is_mark bs) ≡ length bs - suffix_len is_mark bs = omega (arith, length_push bs 26) in
    rw (suffix-push bs 26, less) (take-append-le (length bs - suffix_len is_mark bs) bs (26 ∷ []) (omega arith))

pub trimmed-other : (bs : List ℕ) (b : ℕ) → is_mark b ≡ false → trimmed (bs ++ b ∷ []) ≡ bs ++ b ∷ []
unfolding trimmed
trimmed-other bs b h = rw (suffix-push bs b, h) (take_all (length (bs ++ b ∷ []) - 0) (bs ++ b ∷ []) (omega arith))

pub stays : (text rest front : List ℕ) (b : ℕ) → trimmed text ≡ trimmed rest → rest ≡ front ++ b ∷ [] → b ≢ 26 → rest ≡ trimmed text
stays text rest front b same e other = rw (same, e) (sym (trimmed-other front b (ne_eqb b 26 other)))

pub goes : (text rest front : List ℕ) (b : ℕ) → trimmed text ≡ trimmed rest → rest ≡ front ++ b ∷ [] → b ≡ 26 → trimmed text ≡ trimmed front
goes text rest front b same e mark = rw (same, e, mark) (trimmed-mark front)

pub none_left : (text rest : List ℕ) → trimmed text ≡ trimmed rest → length rest ≡ 0 → rest ≡ trimmed text
none_left text [] same e = rw same (sym trimmed-nil)
none_left text (b ∷ bs) same e = absurd (omega arith)

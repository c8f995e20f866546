-- The normal form of names, and the values of numbers.
use Rattle.std.proofs.Common.{◌≡◌, ◌∙◌, ℕ, ◌+◌, ◌-◌, ◌*◌, ◌<◌, ◌≤◌, List, [], ◌∷◌, ◌++◌, Bool, true, false, cond, not, ◌&&◌, map, filter, count_by, length, take, nat_le, slice_index, Option, Some, None, refl, ap, sym, arith, append-nil}
use Rattle.std.specs.List.{list_all}
use Rattle.std.proofs.lemmas.List.{map-append, length-map, get_or_at, take_at, length_push}
use Rattle.std.proofs.lemmas.List.Elements.{filter-append}
use Rattle.std.proofs.lemmas.List.Sums.{length-filter}
use Rattle.std.proofs.lemmas.Bool.Decides.{nat_tests}
use Rattle.std.proofs.lemmas.Nat.{mul-le}
use Rattle.plm_token.specs.Characters.{is_dollar}
use Rattle.plm_token.specs.Names.{normal, capital}
use Rattle.plm_token.specs.Numbers.{base_of, numeral_of, digits_from, value_from, is_digit_of, digit_value}

pub normal-append : (a b : List ℕ) → normal (a ++ b) ≡ normal a ++ normal b
unfolding normal
normal-append a b = ap (map capital) (filter-append (λ c. not (is_dollar c)) a b) ∙ map-append capital (filter (λ c. not (is_dollar c)) a) (filter (λ c. not (is_dollar c)) b)

pub normal-nil : normal [] ≡ []
unfolding normal
normal-nil = refl

pub normal-dollar_end : (a : List ℕ) → normal (a ++ 36 ∷ []) ≡ normal a
unfolding normal
normal-dollar_end a = normal-append a (36 ∷ []) ∙ append-nil (normal a)

pub normal-end : (a : List ℕ) (b : ℕ) → is_dollar b ≡ false → normal (a ++ b ∷ []) ≡ normal a ++ capital b ∷ []
unfolding normal
normal-end a b h = normal-append a (b ∷ []) ∙ ap (λ (s : List ℕ). normal a ++ s) (rw h refl)

pub normal_length : (a : List ℕ) → length (normal a) ≡ count_by (λ c. not (is_dollar c)) a
unfolding normal
normal_length a = length-map (filter (λ c. not (is_dollar c)) a) capital ∙ length-filter (λ c. not (is_dollar c)) a

last_of : (s : List ℕ) (x : ℕ) → slice_index (s ++ x ∷ []) (length (s ++ x ∷ []) - 1) ≡ x
last_of s x = get_or_at s x [] 0 (length (s ++ x ∷ []) - 1) (omega (arith, length_push s x))

but_last : (s : List ℕ) (x : ℕ) → take (length (s ++ x ∷ []) - 1) (s ++ x ∷ []) ≡ s
but_last s x = take_at s (x ∷ []) (length (s ++ x ∷ []) - 1) (omega (arith, length_push s x))

-- a number, by its last character
pub numeral-suffix : (s : List ℕ) (x base : ℕ) → base_of x ≡ Some base → numeral_of (s ++ x ∷ []) ≡ digits_from base 0 s
unfolding numeral_of
numeral-suffix s x base h = rw (last_of s x, h, but_last s x) refl

pub numeral-plain : (s : List ℕ) (x : ℕ) → base_of x ≡ None → numeral_of (s ++ x ∷ []) ≡ digits_from 10 0 (s ++ x ∷ [])
unfolding numeral_of
numeral-plain s x h = rw (last_of s x, h) refl

pub numeral-nil : numeral_of [] ≡ digits_from 10 0 []
unfolding numeral_of
numeral-nil = refl

-- digits never make a number smaller
pub value_from-grows : (base n : ℕ) (digits : List ℕ) → 0 < base → n ≤ value_from base n digits
value_from-grows base n [] some = omega arith
value_from-grows base n (b ∷ bs) some =
    omega (arith, value_from-grows base (n * base + digit_value b) bs some, mul-le n 1 n base (omega arith) some)

pub digits_too_great : (base n : ℕ) (digits : List ℕ) → 0 < base → 1048575 < n → digits_from base n digits ≡ None
digits_too_great base n digits some great = at (list_all (is_digit_of base) digits) where
  above : nat_le (value_from base n digits) 1048575 ≡ false
  above = let grows = value_from-grows base n digits some in grind (arith, nat_tests)

  at : (p : Bool) → cond (p && nat_le (value_from base n digits) 1048575) (Some (value_from base n digits)) None ≡ None
  at true = rw above refl
  at false = refl

-- one more digit
digit_is : (base letter d : ℕ) (p : Bool) → is_digit_of base letter ≡ p → Some d ≡ cond p (Some (digit_value letter)) None → (p ≡ true) × (d ≡ digit_value letter)
digit_is base letter d true e h = (refl, cc h)
digit_is base letter d false e h = absurd (cc h)

pub one_digit : (base n letter d : ℕ) (s : List ℕ) → Some d ≡ cond (is_digit_of base letter) (Some (digit_value letter)) None → digits_from base n (letter ∷ s) ≡ digits_from base (n * base + d) s
one_digit base n letter d s h = let k = digit_is base letter d (is_digit_of base letter) refl h in rw (k.0, k.1) refl

pub past_limit : (base n letter d : ℕ) (number s rest : List ℕ) → 0 < base → digits_from base 0 number ≡ digits_from base n s → s ≡ letter ∷ rest
    → Some d ≡ cond (is_digit_of base letter) (Some (digit_value letter)) None → 1048575 < n * base + d → None ≡ digits_from base 0 number
past_limit base n letter d number s rest some same e h great =
    sym (same ∙ ap (digits_from base n) e ∙ one_digit base n letter d rest h ∙ digits_too_great base (n * base + d) rest some great)

pub no_more_digits : (base n : ℕ) (number s : List ℕ) → digits_from base 0 number ≡ digits_from base n (normal s) → s ≡ [] → n ≤ 1048575 → Some n ≡ digits_from base 0 number
no_more_digits base n number s same e inside =
    let within : nat_le n 1048575 ≡ true = grind (arith, nat_tests) in
    sym (same ∙ rw (e, normal-nil, within) refl)

-- a number by the last character of its text
pub numeral_by : (text number front : List ℕ) (last base : ℕ) (result : Option ℕ) → normal text ≡ normal number → number ≡ front ++ last ∷ [] → is_dollar last ≡ false
    → base_of (capital last) ≡ Some base → result ≡ digits_from base 0 (normal front) → result ≡ numeral_of (normal text)
numeral_by text number front last base result same e letter suffix r = rw (same, e, normal-end front last letter, numeral-suffix (normal front) (capital last) base suffix) r

pub numeral_decimal : (text number front : List ℕ) (last : ℕ) (result : Option ℕ) → normal text ≡ normal number → number ≡ front ++ last ∷ [] → is_dollar last ≡ false
    → base_of (capital last) ≡ None → result ≡ digits_from 10 0 (normal number) → result ≡ numeral_of (normal text)
numeral_decimal text number front last result same e letter suffix r =
    let n : normal number ≡ normal front ++ capital last ∷ [] = ap normal e ∙ normal-end front last letter in
    r ∙ ap (digits_from 10 0) n ∙ sym (numeral-plain (normal front) (capital last) suffix) ∙ ap numeral_of (sym (same ∙ n))

pub numeral_none : (text number : List ℕ) (result : Option ℕ) → normal text ≡ normal number → length number ≡ 0 → result ≡ digits_from 10 0 (normal number) → result ≡ numeral_of (normal text)
numeral_none text [] result same e r = r ∙ ap (digits_from 10 0) normal-nil ∙ sym (ap numeral_of (same ∙ normal-nil) ∙ numeral-nil)
numeral_none text (b ∷ bs) result same e r = absurd (omega arith)

pub dollar_dropped : (text number front : List ℕ) (last : ℕ) → normal text ≡ normal number → number ≡ front ++ last ∷ [] → last ≡ 36 → normal text ≡ normal front
dollar_dropped text number front last same e dollar = rw (same, e, dollar) (normal-dollar_end front)

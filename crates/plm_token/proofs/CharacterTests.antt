-- What the tests of characters tell of one another.
use Rattle.std.proofs.Common.{◌≡◌, ℕ, List, ◌∷◌, Bool, true, false, cond, ◌&&◌, refl, nat_eq, None, arith}
use Rattle.std.proofs.lemmas.Bool.Decides.{nat_tests}
use Rattle.plm_token.specs.Characters.{is_blank, is_letter, is_digit, is_apostrophe, is_dollar}
use Rattle.plm_token.specs.Forms.{mark_of}

-- a choice, by what each answer gives
pub pick : {A : Type 0} (test : Bool) (x y z : A) → (test ≡ true → x ≡ z) → (test ≡ false → y ≡ z) → cond test x y ≡ z
pick true x y z f g = f refl
pick false x y z f g = g refl

-- no special token begins with another character than these
pub no_mark : (b : ℕ) (cs : List ℕ) → nat_eq b 61 ≡ false → nat_eq b 46 ≡ false → nat_eq b 47 ≡ false → nat_eq b 40 ≡ false → nat_eq b 41 ≡ false → nat_eq b 43 ≡ false → nat_eq b 45 ≡ false → nat_eq b 42 ≡ false → nat_eq b 44 ≡ false → nat_eq b 60 ≡ false → nat_eq b 62 ≡ false → nat_eq b 58 ≡ false → nat_eq b 59 ≡ false → nat_eq b 64 ≡ false → mark_of (b ∷ cs) ≡ None
no_mark b cs e61 e46 e47 e40 e41 e43 e45 e42 e44 e60 e62 e58 e59 e64 = rw (e61, e46, e47, e40, e41, e43, e45, e42, e44, e60, e62, e58, e59, e64) refl

pub letter_not_blank : (b : ℕ) → is_letter b ≡ true → is_blank b ≡ false
letter_not_blank b h = grind (arith, nat_tests)

pub letter_not_apostrophe : (b : ℕ) → is_letter b ≡ true → is_apostrophe b ≡ false
letter_not_apostrophe b h = grind (arith, nat_tests)

pub letter_not_dollar : (b : ℕ) → is_letter b ≡ true → is_dollar b ≡ false
letter_not_dollar b h = grind (arith, nat_tests)

pub letter_not_digit : (b : ℕ) → is_letter b ≡ true → is_digit b ≡ false
letter_not_digit b h = grind (arith, nat_tests)

letter_not_61 : (b : ℕ) → is_letter b ≡ true → nat_eq b 61 ≡ false
letter_not_61 b h = grind (arith, nat_tests)

letter_not_46 : (b : ℕ) → is_letter b ≡ true → nat_eq b 46 ≡ false
letter_not_46 b h = grind (arith, nat_tests)

pub letter_not_slash : (b : ℕ) → is_letter b ≡ true → nat_eq b 47 ≡ false
letter_not_slash b h = grind (arith, nat_tests)

letter_not_40 : (b : ℕ) → is_letter b ≡ true → nat_eq b 40 ≡ false
letter_not_40 b h = grind (arith, nat_tests)

letter_not_41 : (b : ℕ) → is_letter b ≡ true → nat_eq b 41 ≡ false
letter_not_41 b h = grind (arith, nat_tests)

letter_not_43 : (b : ℕ) → is_letter b ≡ true → nat_eq b 43 ≡ false
letter_not_43 b h = grind (arith, nat_tests)

letter_not_45 : (b : ℕ) → is_letter b ≡ true → nat_eq b 45 ≡ false
letter_not_45 b h = grind (arith, nat_tests)

letter_not_42 : (b : ℕ) → is_letter b ≡ true → nat_eq b 42 ≡ false
letter_not_42 b h = grind (arith, nat_tests)

letter_not_44 : (b : ℕ) → is_letter b ≡ true → nat_eq b 44 ≡ false
letter_not_44 b h = grind (arith, nat_tests)

letter_not_60 : (b : ℕ) → is_letter b ≡ true → nat_eq b 60 ≡ false
letter_not_60 b h = grind (arith, nat_tests)

letter_not_62 : (b : ℕ) → is_letter b ≡ true → nat_eq b 62 ≡ false
letter_not_62 b h = grind (arith, nat_tests)

letter_not_58 : (b : ℕ) → is_letter b ≡ true → nat_eq b 58 ≡ false
letter_not_58 b h = grind (arith, nat_tests)

letter_not_59 : (b : ℕ) → is_letter b ≡ true → nat_eq b 59 ≡ false
letter_not_59 b h = grind (arith, nat_tests)

letter_not_64 : (b : ℕ) → is_letter b ≡ true → nat_eq b 64 ≡ false
letter_not_64 b h = grind (arith, nat_tests)

pub letter_no_mark : (b : ℕ) (cs : List ℕ) → is_letter b ≡ true → mark_of (b ∷ cs) ≡ None
letter_no_mark b cs h = no_mark b cs (letter_not_61 b h) (letter_not_46 b h) (letter_not_slash b h) (letter_not_40 b h) (letter_not_41 b h) (letter_not_43 b h) (letter_not_45 b h) (letter_not_42 b h) (letter_not_44 b h) (letter_not_60 b h) (letter_not_62 b h) (letter_not_58 b h) (letter_not_59 b h) (letter_not_64 b h)

pub digit_not_blank : (b : ℕ) → is_digit b ≡ true → is_blank b ≡ false
digit_not_blank b h = grind (arith, nat_tests)

pub digit_not_apostrophe : (b : ℕ) → is_digit b ≡ true → is_apostrophe b ≡ false
digit_not_apostrophe b h = grind (arith, nat_tests)

pub digit_not_dollar : (b : ℕ) → is_digit b ≡ true → is_dollar b ≡ false
digit_not_dollar b h = grind (arith, nat_tests)

pub digit_not_letter : (b : ℕ) → is_digit b ≡ true → is_letter b ≡ false
digit_not_letter b h = grind (arith, nat_tests)

digit_not_61 : (b : ℕ) → is_digit b ≡ true → nat_eq b 61 ≡ false
digit_not_61 b h = grind (arith, nat_tests)

digit_not_46 : (b : ℕ) → is_digit b ≡ true → nat_eq b 46 ≡ false
digit_not_46 b h = grind (arith, nat_tests)

pub digit_not_slash : (b : ℕ) → is_digit b ≡ true → nat_eq b 47 ≡ false
digit_not_slash b h = grind (arith, nat_tests)

digit_not_40 : (b : ℕ) → is_digit b ≡ true → nat_eq b 40 ≡ false
digit_not_40 b h = grind (arith, nat_tests)

digit_not_41 : (b : ℕ) → is_digit b ≡ true → nat_eq b 41 ≡ false
digit_not_41 b h = grind (arith, nat_tests)

digit_not_43 : (b : ℕ) → is_digit b ≡ true → nat_eq b 43 ≡ false
digit_not_43 b h = grind (arith, nat_tests)

digit_not_45 : (b : ℕ) → is_digit b ≡ true → nat_eq b 45 ≡ false
digit_not_45 b h = grind (arith, nat_tests)

digit_not_42 : (b : ℕ) → is_digit b ≡ true → nat_eq b 42 ≡ false
digit_not_42 b h = grind (arith, nat_tests)

digit_not_44 : (b : ℕ) → is_digit b ≡ true → nat_eq b 44 ≡ false
digit_not_44 b h = grind (arith, nat_tests)

digit_not_60 : (b : ℕ) → is_digit b ≡ true → nat_eq b 60 ≡ false
digit_not_60 b h = grind (arith, nat_tests)

digit_not_62 : (b : ℕ) → is_digit b ≡ true → nat_eq b 62 ≡ false
digit_not_62 b h = grind (arith, nat_tests)

digit_not_58 : (b : ℕ) → is_digit b ≡ true → nat_eq b 58 ≡ false
digit_not_58 b h = grind (arith, nat_tests)

digit_not_59 : (b : ℕ) → is_digit b ≡ true → nat_eq b 59 ≡ false
digit_not_59 b h = grind (arith, nat_tests)

digit_not_64 : (b : ℕ) → is_digit b ≡ true → nat_eq b 64 ≡ false
digit_not_64 b h = grind (arith, nat_tests)

pub digit_no_mark : (b : ℕ) (cs : List ℕ) → is_digit b ≡ true → mark_of (b ∷ cs) ≡ None
digit_no_mark b cs h = no_mark b cs (digit_not_61 b h) (digit_not_46 b h) (digit_not_slash b h) (digit_not_40 b h) (digit_not_41 b h) (digit_not_43 b h) (digit_not_45 b h) (digit_not_42 b h) (digit_not_44 b h) (digit_not_60 b h) (digit_not_62 b h) (digit_not_58 b h) (digit_not_59 b h) (digit_not_64 b h)

pub blank_not_apostrophe : (b : ℕ) → is_blank b ≡ true → is_apostrophe b ≡ false
blank_not_apostrophe b h = grind (arith, nat_tests)

pub blank_not_dollar : (b : ℕ) → is_blank b ≡ true → is_dollar b ≡ false
blank_not_dollar b h = grind (arith, nat_tests)

pub blank_not_digit : (b : ℕ) → is_blank b ≡ true → is_digit b ≡ false
blank_not_digit b h = grind (arith, nat_tests)

pub blank_not_letter : (b : ℕ) → is_blank b ≡ true → is_letter b ≡ false
blank_not_letter b h = grind (arith, nat_tests)

blank_not_61 : (b : ℕ) → is_blank b ≡ true → nat_eq b 61 ≡ false
blank_not_61 b h = grind (arith, nat_tests)

blank_not_46 : (b : ℕ) → is_blank b ≡ true → nat_eq b 46 ≡ false
blank_not_46 b h = grind (arith, nat_tests)

pub blank_not_slash : (b : ℕ) → is_blank b ≡ true → nat_eq b 47 ≡ false
blank_not_slash b h = grind (arith, nat_tests)

blank_not_40 : (b : ℕ) → is_blank b ≡ true → nat_eq b 40 ≡ false
blank_not_40 b h = grind (arith, nat_tests)

blank_not_41 : (b : ℕ) → is_blank b ≡ true → nat_eq b 41 ≡ false
blank_not_41 b h = grind (arith, nat_tests)

blank_not_43 : (b : ℕ) → is_blank b ≡ true → nat_eq b 43 ≡ false
blank_not_43 b h = grind (arith, nat_tests)

blank_not_45 : (b : ℕ) → is_blank b ≡ true → nat_eq b 45 ≡ false
blank_not_45 b h = grind (arith, nat_tests)

blank_not_42 : (b : ℕ) → is_blank b ≡ true → nat_eq b 42 ≡ false
blank_not_42 b h = grind (arith, nat_tests)

blank_not_44 : (b : ℕ) → is_blank b ≡ true → nat_eq b 44 ≡ false
blank_not_44 b h = grind (arith, nat_tests)

blank_not_60 : (b : ℕ) → is_blank b ≡ true → nat_eq b 60 ≡ false
blank_not_60 b h = grind (arith, nat_tests)

blank_not_62 : (b : ℕ) → is_blank b ≡ true → nat_eq b 62 ≡ false
blank_not_62 b h = grind (arith, nat_tests)

blank_not_58 : (b : ℕ) → is_blank b ≡ true → nat_eq b 58 ≡ false
blank_not_58 b h = grind (arith, nat_tests)

blank_not_59 : (b : ℕ) → is_blank b ≡ true → nat_eq b 59 ≡ false
blank_not_59 b h = grind (arith, nat_tests)

blank_not_64 : (b : ℕ) → is_blank b ≡ true → nat_eq b 64 ≡ false
blank_not_64 b h = grind (arith, nat_tests)

pub blank_no_mark : (b : ℕ) (cs : List ℕ) → is_blank b ≡ true → mark_of (b ∷ cs) ≡ None
blank_no_mark b cs h = no_mark b cs (blank_not_61 b h) (blank_not_46 b h) (blank_not_slash b h) (blank_not_40 b h) (blank_not_41 b h) (blank_not_43 b h) (blank_not_45 b h) (blank_not_42 b h) (blank_not_44 b h) (blank_not_60 b h) (blank_not_62 b h) (blank_not_58 b h) (blank_not_59 b h) (blank_not_64 b h)

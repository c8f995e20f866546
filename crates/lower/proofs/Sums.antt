-- When a word that is a sum of numbers with sign stands for another number.
use Rattle.std.proofs.lemmas.Bool.{leb-true, leb-false, ltb-true, ltb-false}
use Rattle.std.proofs.lemmas.Int.{ints}
use Rattle.std.proofs.Common.{◌≡◌, ℕ, ◌+◌, ◌%◌, ◌<◌, ◌≤◌, Bool, true, false, refl, sym, ap, ◌∙◌, subst, arith}
use Rattle.std.specs.Prelude.{if◌then◌else◌, nat_le, nat_lt, not, ◌&&◌, ℤ, pos, ◌+ℤ◌, ◌-ℤ◌, neg_ℤ, int_le, int_lt}
use Rattle.word86.specs.declared.width.Width.{Width}
use Rattle.word86.specs.declared.width.Width.TheVariants as widths
use Rattle.word86.specs.declared.place.Place.{Place}
use Rattle.word86.specs.Access.{values}
use Rattle.word86.specs.Arithmetic.{low}
use Rattle.word86.specs.Signed.{signed, in_range, signed_less}
use Rattle.plm_type.specs.declared.program.Counting.{Counting}
use Rattle.plm_type.specs.declared.program.Counting.TheVariants as counting
use Rattle.plm_type.specs.Next.{leaves, has_passed}
use Rattle.icode.specs.Machine.{stands}
use Rattle.lower.specs.Expressions.{Name, Computed}
use Rattle.lower.specs.Statements.{within}
use Rattle.lower.specs.Well.{StepIs}
use Rattle.lower.proofs.Bools.{not_less}

-- ---- words without sign

below_byte : (i s : ℕ) (a b : Bool) → i < 256 → nat_lt ((i + s) % 256) s ≡ a → nat_lt (i + s) 256 ≡ b → a ≡ not b
below_byte i s true false h e f = refl
below_byte i s false true h e f = refl
below_byte i s true true h e f = absurd (omega (arith, h, ltb-true ((i + s) % 256) s e, ltb-true (i + s) 256 f))
below_byte i s false false h e f = absurd (omega (arith, h, ltb-false ((i + s) % 256) s e, ltb-false (i + s) 256 f))

below_word : (i s : ℕ) (a b : Bool) → i < 65536 → nat_lt ((i + s) % 65536) s ≡ a → nat_lt (i + s) 65536 ≡ b → a ≡ not b
below_word i s true false h e f = refl
below_word i s false true h e f = refl
below_word i s true true h e f = absurd (omega (arith, h, ltb-true ((i + s) % 65536) s e, ltb-true (i + s) 65536 f))
below_word i s false false h e f = absurd (omega (arith, h, ltb-false ((i + s) % 65536) s e, ltb-false (i + s) 65536 f))

below_sum : (w : Width) (i s : ℕ) → i < values w → nat_lt (low w (i + s)) s ≡ not (nat_lt (i + s) (values w))
below_sum widths.Byte i s h = below_byte i s _ _ h refl refl
below_sum widths.Word i s h = below_word i s _ _ h refl refl

-- ---- words with sign

abbrev of_sign : Bool → ℕ → ℤ
of_sign p a = if p then pos a -ℤ pos 65536 else pos a

up_of : (p q r : Bool) (i s : ℕ) → nat_le 32768 i ≡ p → nat_le 32768 ((i + s) % 65536) ≡ q → nat_le 32768 ((s + 32768) % 65536) ≡ r → i < 65536 → s < 32768
    → int_lt (of_sign q ((i + s) % 65536)) (of_sign r ((s + 32768) % 65536)) ≡ not (int_le (neg_ℤ (pos 32768)) (of_sign p i +ℤ pos s) && int_lt (of_sign p i +ℤ pos s) (pos 32768))
up_of true true true i s e g u hi hs = grind (arith, ints)
up_of true false true i s e g u hi hs = grind (arith, ints)
up_of false true true i s e g u hi hs = grind (arith, ints)
up_of false false true i s e g u hi hs = grind (arith, ints)
up_of p q false i s e g u hi hs = absurd (omega (arith, leb-false 32768 ((s + 32768) % 65536) u, hs))

down_of : (p q r : Bool) (i s : ℕ) → nat_le 32768 i ≡ p → nat_le 32768 ((i + s) % 65536) ≡ q → nat_le 32768 ((s + 32767) % 65536) ≡ r → i < 65536 → 32768 ≤ s → s < 65536
    → int_lt (of_sign r ((s + 32767) % 65536)) (of_sign q ((i + s) % 65536)) ≡ not (int_le (neg_ℤ (pos 32768)) (of_sign p i +ℤ (pos s -ℤ pos 65536)) && int_lt (of_sign p i +ℤ (pos s -ℤ pos 65536)) (pos 32768))
down_of true true true i s e g u hi lo hs = grind (arith, ints)
down_of true true false i s e g u hi lo hs = grind (arith, ints)
down_of true false true i s e g u hi lo hs = grind (arith, ints)
down_of true false false i s e g u hi lo hs = grind (arith, ints)
down_of false true true i s e g u hi lo hs = grind (arith, ints)
down_of false true false i s e g u hi lo hs = grind (arith, ints)
down_of false false true i s e g u hi lo hs = grind (arith, ints)
down_of false false false i s e g u hi lo hs = grind (arith, ints)

-- of a step that is not negative, and of a negative one
plain_of : (b : Bool) (s : ℕ) → nat_le 32768 s ≡ b → s < 32768 → of_sign b s ≡ pos s
plain_of true s e h = absurd (omega (arith, h, leb-true 32768 s e))
plain_of false s e h = refl

negative_of : (b : Bool) (s : ℕ) → nat_le 32768 s ≡ b → 32768 ≤ s → of_sign b s ≡ pos s -ℤ pos 65536
negative_of true s e h = refl
negative_of false s e h = absurd (omega (arith, h, leb-false 32768 s e))

up_word : (i s : ℕ) → i < 65536 → s < 32768 → signed_less ((i + s) % 65536) ((s + 32768) % 65536) ≡ not (in_range 65536 (signed 65536 i +ℤ signed 65536 s))
up_word i s hi hs =
    up_of (nat_le 32768 i) (nat_le 32768 ((i + s) % 65536)) (nat_le 32768 ((s + 32768) % 65536)) i s refl refl refl hi hs
    ∙ ap (λ z. not (in_range 65536 (signed 65536 i +ℤ z))) (sym (plain_of (nat_le 32768 s) s refl hs))

down_word : (i s : ℕ) → i < 65536 → 32768 ≤ s → s < 65536 → signed_less ((s + 32767) % 65536) ((i + s) % 65536) ≡ not (in_range 65536 (signed 65536 i +ℤ signed 65536 s))
down_word i s hi lo hs =
    down_of (nat_le 32768 i) (nat_le 32768 ((i + s) % 65536)) (nat_le 32768 ((s + 32767) % 65536)) i s refl refl refl hi lo hs
    ∙ ap (λ z. not (in_range 65536 (signed 65536 i +ℤ z))) (sym (negative_of (nat_le 32768 s) s refl lo))

pub up_sum : (w : Width) (i s : ℕ) → w ≡ widths.Word → i < values w → s < 32768 → signed_less (low w (i + s)) ((s + 32768) % 65536) ≡ not (in_range 65536 (signed 65536 i +ℤ signed 65536 s))
up_sum w i s e hi hs = subst (λ v. i < values v → signed_less (low v (i + s)) ((s + 32768) % 65536) ≡ not (in_range 65536 (signed 65536 i +ℤ signed 65536 s))) (sym e) (λ h. up_word i s h hs) hi

pub down_sum : (w : Width) (i s : ℕ) → w ≡ widths.Word → i < values w → 32768 ≤ s → s < 65536 → signed_less ((s + 32767) % 65536) (low w (i + s)) ≡ not (in_range 65536 (signed 65536 i +ℤ signed 65536 s))
down_sum w i s e hi lo hs = subst (λ v. i < values v → signed_less ((s + 32767) % 65536) (low v (i + s)) ≡ not (in_range 65536 (signed 65536 i +ℤ signed 65536 s))) (sym e) (λ h. down_word i s h lo hs) hi

-- ---- the tests of a loop

-- a step that is no constant is one of a BYTE or WORD
pub named_up : (o : Counting) (w : Width) (read : Width) (x : Place) → StepIs o w (Name read x) → o ≡ counting.Up
named_up counting.Up w read x is = refl
named_up counting.SignedUp w read x is = absurd is
named_up counting.SignedDown w read x is = absurd is

pub computed_up : (o : Counting) (w : Width) → StepIs o w Computed → o ≡ counting.Up
computed_up counting.Up w is = refl
computed_up counting.SignedUp w is = absurd is
computed_up counting.SignedDown w is = absurd is

-- whose sum left the range of the index where it is below the step
pub counted_sum : (o : Counting) (w : Width) (i s : ℕ) → o ≡ counting.Up → i < values w → nat_lt (low w (i + s)) s ≡ leaves o w i s
counted_sum o w i s up h = below_sum w i s h ∙ ap (λ q. leaves q w i s) (sym up)

-- a round begins unless the index is behind the bound
pub reaches : (o : Counting) (i b : ℕ) → stands (within o) i b ≡ not (has_passed o i b)
reaches counting.Up i b = not_less i b
reaches counting.SignedUp i b = refl
reaches counting.SignedDown i b = refl

-- What a flag is after one was set or cleared.
use Rattle.std.proofs.Common.{◌≡◌, ℕ, ◌-◌, min, max, true, false, sym, ap, ◌∙◌, arith, nat_eq, eq-eqb}
use Rattle.std.proofs.lemmas.Nat.{and_or_self, and_or_apart, and_assoc, and_comm, and_le_r}
use Rattle.std.proofs.lemmas.Nat.Bits.{same_from_bits, bit_at_and, bit_at_or}
use Rattle.std.specs.Int.{bit_at}
use Rattle.std.proofs.lemmas.Bool.{ne_eqb}
use Rattle.std.specs.Int.RustNames.{bit_and, bit_or}
use Rattle.i86_table.specs.Arithmetic.{with_flag}
use Rattle.i86_table.specs.FlagLaws.{SetFlagHolds, OtherFlagsStay, SetFlagIsAlone}

pub has_same : SetFlagHolds
unfolding with_flag
has_same m true f h e = eq-eqb (bit_and (bit_or f.0 m) m) m (and_or_self m f.0)
has_same m false f h e =
    let none : bit_and f.0 0 ≡ 0 = omega (arith, and_le_r f.0 0) in
    let cleared : bit_and (bit_and f.0 (65535 - m)) m ≡ 0 = and_assoc m f.0 (65535 - m) ∙ ap (bit_and f.0) e ∙ none in
    ne_eqb (bit_and (bit_and f.0 (65535 - m)) m) m (omega (arith, cleared))

pub has_other : OtherFlagsStay
unfolding with_flag
has_other m n true f apart kept = ap (λ (x : ℕ). nat_eq x n) (and_or_apart n f.0 m apart)
has_other m n false f apart kept = ap (λ (x : ℕ). nat_eq x n) (and_assoc n f.0 (65535 - m) ∙ ap (bit_and f.0) kept)

and_or_shared : (a b n : ℕ) → bit_and (bit_or a b) n ≡ bit_or (bit_and a n) (bit_and b n)
and_or_shared a b n = same_from_bits (bit_and (bit_or a b) n) (bit_or (bit_and a n) (bit_and b n)) (λ i.
    bit_at_and (bit_or a b) n i ∙ ap (λ x. min x (bit_at n i)) (bit_at_or a b i)
    ∙ spread (bit_at a i) (bit_at b i) (bit_at n i)
    ∙ ap (λ x. max x (min (bit_at b i) (bit_at n i))) (sym (bit_at_and a n i)) ∙ ap (λ x. max (bit_at (bit_and a n) i) x) (sym (bit_at_and b n i)) ∙ sym (bit_at_or (bit_and a n) (bit_and b n) i))
  where
    spread : (x y z : ℕ) → min (max x y) z ≡ max (min x z) (min y z)
    spread x y z = omega arith

pub set_alone : SetFlagIsAlone
unfolding with_flag
set_alone m true f own h = and_or_shared f.0 m 0xFD5 ∙ ap (λ x. bit_or x (bit_and m 0xFD5)) h ∙ ap (bit_or f.0) own
set_alone m false f own h = and_assoc 0xFD5 f.0 (65535 - m) ∙ ap (bit_and f.0) (and_comm (65535 - m) 0xFD5) ∙ sym (and_assoc (65535 - m) f.0 0xFD5) ∙ ap (λ x. bit_and x (65535 - m)) h

-- A shift by sixteen places or more leaves nothing.
use Rattle.std.proofs.Common.{◌≡◌, ℕ, ◌+◌, ◌-◌, ◌*◌, ◌/◌, ◌%◌, ◌^◌, ◌<◌, ◌≤◌, sym, ap, ◌∙◌, arith, mul_assoc}
use Rattle.std.proofs.lemmas.Nat.{pow-add}
use Rattle.std.proofs.Math.Nat.{mul-mod_left, div-eq_of_lt}
use Rattle.std.proofs.Math.Pow.{pow_mono}
use Rattle.word86.specs.declared.width.Width.{Width}
use Rattle.word86.specs.declared.width.Width.TheVariants as widths
use Rattle.word86.specs.Arithmetic.{low}

parted : (v count m n : ℕ) → m + n ≤ count → v * 2 ^ count ≡ v * 2 ^ (count - n) * 2 ^ n
parted v count m n h =
    let e : count ≡ count - n + n = omega (arith, h) in
    ap (λ c. v * 2 ^ c) e ∙ ap (λ x. v * x) (pow-add 2 (count - n) n) ∙ sym (mul_assoc v (2 ^ (count - n)) (2 ^ n))

pub shifted_out : (width : Width) (v count : ℕ) → 16 ≤ count → low width (v * 2 ^ count) ≡ 0
shifted_out widths.Byte v count h = ap (λ x. x % 256) (parted v count 0 8 (omega (arith, h))) ∙ mul-mod_left (v * 2 ^ (count - 8)) 256
shifted_out widths.Word v count h = ap (λ x. x % 65536) (parted v count 0 16 h) ∙ mul-mod_left (v * 2 ^ (count - 16)) 65536

below : (width : Width) (v : ℕ) → low width v < 2 ^ 16
below widths.Byte v = omega arith
below widths.Word v = omega arith

pub shifted_down : (width : Width) (v count : ℕ) → 16 ≤ count → low width v / 2 ^ count ≡ 0
shifted_down width v count h =
    let le : 2 ^ 16 ≤ 2 ^ count = pow_mono h in
    let lt = below width v in
    div-eq_of_lt (omega (arith, le, lt))

-- Arithmetic leaves the control flags.
use Rattle.std.proofs.Common.{◌≡◌, ℕ, ◌-◌, ◌==◌, Bool, true, false, refl, ◌∙◌}
use Rattle.std.specs.Prelude.{if◌then◌else◌}
use Rattle.std.specs.Int.RustNames.{bit_and, bit_or}
use Rattle.word86.specs.declared.width.Width.{Width}
use Rattle.i86_table.specs.declared.flags.Flags.{Flags}
use Rattle.i86_table.specs.declared.instruction.AluOperation.{AluOperation}
use Rattle.i86_table.specs.declared.instruction.AluOperation.TheVariants.{Add, Or, Adc, Sbb, And, Sub, Xor, Cmp}
use Rattle.i86_table.specs.declared.instruction.UnaryOperation.{UnaryOperation}
use Rattle.i86_table.specs.declared.instruction.UnaryOperation.TheVariants as unary
use Rattle.i86_table.specs.declared.instruction.ShiftOperation.{ShiftOperation}
use Rattle.i86_table.specs.declared.instruction.ShiftOperation.TheVariants as shifts
use Rattle.i86_table.specs.declared.instruction.Signedness.{Signedness}
use Rattle.i86_table.specs.declared.instruction.Signedness.TheVariants as signs
use Rattle.i86_table.specs.Arithmetic.{with_flag, flag_bit, with_result, added, subtracted, combined, operated, tested, is_carry, carry, overflow, changed, shifted, moved, with_shift_result, shift_overflow, multiplied, carry_and_overflow}
use Rattle.i86_table.specs.FlagLaws.{ControlStays, ArithmeticLeavesControl}
use Rattle.i86_table.proofs.FlagProofs.{has_other, set_alone}

-- a flag's bit that is none of a control flag
record IsStatus (k : ℕ) : Type 0 where
  trap : (bit_and k 256 ≡ 0) × (bit_and (65535 - k) 256 ≡ 256)
  interrupt : (bit_and k 512 ≡ 0) × (bit_and (65535 - k) 512 ≡ 512)
  direction : (bit_and k 1024 ≡ 0) × (bit_and (65535 - k) 1024 ≡ 1024)
  own : bit_and k 0xFD5 ≡ k

cf : IsStatus 1
cf = record { trap = (refl, refl); interrupt = (refl, refl); direction = (refl, refl); own = refl }

pf : IsStatus 4
pf = record { trap = (refl, refl); interrupt = (refl, refl); direction = (refl, refl); own = refl }

af : IsStatus 16
af = record { trap = (refl, refl); interrupt = (refl, refl); direction = (refl, refl); own = refl }

zf : IsStatus 64
zf = record { trap = (refl, refl); interrupt = (refl, refl); direction = (refl, refl); own = refl }

sf : IsStatus 128
sf = record { trap = (refl, refl); interrupt = (refl, refl); direction = (refl, refl); own = refl }

of : IsStatus 2048
of = record { trap = (refl, refl); interrupt = (refl, refl); direction = (refl, refl); own = refl }

same : (f : Flags) → ControlStays f f
same f = record { trap = refl; interrupt = refl; direction = refl; alone = λ h. h }

then_set : (k : ℕ) → IsStatus k → (b : Bool) (f g : Flags) → ControlStays f g → ControlStays f (with_flag (flag_bit k) b g)
then_set k s b f g h = record {
  trap = has_other k 256 b g s.trap.0 s.trap.1 ∙ h.trap;
  interrupt = has_other k 512 b g s.interrupt.0 s.interrupt.1 ∙ h.interrupt;
  direction = has_other k 1024 b g s.direction.0 s.direction.1 ∙ h.direction;
  alone = λ n. set_alone k b g s.own (h.alone n);
}

then_result : (width : Width) (v : ℕ) (f g : Flags) → ControlStays f g → ControlStays f (with_result width v g)
unfolding with_result
then_result width v f g h = then_set 4 pf _ f _ (then_set 128 sf _ f _ (then_set 64 zf _ f g h))

after_added : (width : Width) (a b : ℕ) (c : Bool) (f : Flags) → ControlStays f (added width a b c f).flags
unfolding added
after_added width a b c f = then_result width _ f _ (then_set 2048 of _ f _ (then_set 16 af _ f _ (then_set 1 cf _ f f (same f))))

after_subtracted : (width : Width) (a b : ℕ) (c : Bool) (f : Flags) → ControlStays f (subtracted width a b c f).flags
unfolding subtracted
after_subtracted width a b c f = then_result width _ f _ (then_set 2048 of _ f _ (then_set 16 af _ f _ (then_set 1 cf _ f f (same f))))

after_combined : (width : Width) (v : ℕ) (f : Flags) → ControlStays f (combined width v f).flags
unfolding combined
after_combined width v f = then_result width v f _ (then_set 2048 of false f _ (then_set 1 cf false f f (same f)))

after_operated : (o : AluOperation) (width : Width) (a b : ℕ) (f : Flags) → ControlStays f (operated o width a b f).flags
unfolding operated
after_operated Add width a b f = after_added width a b false f
after_operated Or width a b f = after_combined width (bit_or a b) f
after_operated Adc width a b f = after_added width a b (is_carry f) f
after_operated Sbb width a b f = after_subtracted width a b (is_carry f) f
after_operated And width a b f = after_combined width (bit_and a b) f
after_operated Sub width a b f = after_subtracted width a b false f
after_operated Xor width a b f = after_combined width _ f
after_operated Cmp width a b f = after_subtracted width a b false f

after_tested : (width : Width) (a b : ℕ) (f : Flags) → ControlStays f (tested width a b f)
after_tested width a b f = after_combined width (bit_and a b) f

after_changed : (o : UnaryOperation) (width : Width) (a : ℕ) (f : Flags) → ControlStays f (changed o width a f).flags
unfolding changed
after_changed unary.Not width a f = same f
after_changed unary.Neg width a f = after_subtracted width 0 a false f
after_changed unary.Inc width a f = then_set 1 cf (is_carry f) f _ (after_added width a 1 false f)
after_changed unary.Dec width a f = then_set 1 cf (is_carry f) f _ (after_subtracted width a 1 false f)

either : (b : Bool) (f g h : Flags) → ControlStays f g → ControlStays f h → ControlStays f (if b then g else h)
either true f g h one other = one
either false f g h one other = other

then_shift_result : (o : ShiftOperation) (width : Width) (v : ℕ) (f g : Flags) → ControlStays f g → ControlStays f (with_shift_result o width v g)
then_shift_result shifts.Rol width v f g h = h
then_shift_result shifts.Ror width v f g h = h
then_shift_result shifts.Shl width v f g h = then_result width v f g h
then_shift_result shifts.Shr width v f g h = then_result width v f g h
then_shift_result shifts.Sar width v f g h = then_result width v f g h

after_shifted : (o : ShiftOperation) (width : Width) (a n : ℕ) (f : Flags) → ControlStays f (shifted o width a n f).flags
unfolding shifted
after_shifted o width a n f =
    let x = moved o width n (a, is_carry f) in
    let flags = with_shift_result o width x.0 (carry x.1 f) in
    let moved_on : ControlStays f flags = then_shift_result o width x.0 f (carry x.1 f) (then_set 1 cf x.1 f f (same f)) in
    let out = overflow (shift_overflow o width a x.0 x.1) flags in
    either (n == 0) f f (if n == 1 then out else flags) (same f)
    (either (n == 1) f out flags (then_set 2048 of (shift_overflow o width a x.0 x.1) f flags moved_on) moved_on)

both : (b : Bool) (f : Flags) → ControlStays f (carry_and_overflow b f)
both b f = then_set 2048 of b f (carry b f) (then_set 1 cf b f f (same f))

after_multiplied : (s : Signedness) (width : Width) (a b : ℕ) (f : Flags) → ControlStays f (multiplied s width a b f).flags
unfolding multiplied
after_multiplied signs.Unsigned width a b f = both _ f
after_multiplied signs.Signed width a b f = both _ f

pub arithmetic_leaves_control : ArithmeticLeavesControl
arithmetic_leaves_control = record {
  operations = after_operated;
  tests = after_tested;
  changes = after_changed;
  shifts = after_shifted;
  products = after_multiplied;
}

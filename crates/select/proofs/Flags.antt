-- The flags that selection asks for: carry and zero of a comparison, and whether a test left zero.
use Rattle.std.proofs.Common.{◌≡◌, ℕ, ◌+◌, ◌-◌, ◌%◌, ◌<◌, ◌≤◌, ◌⊎◌, inl, inr, Bool, false, refl, sym, ap, ◌∙◌, nat_eq, arith}
use Rattle.std.specs.Prelude.{nat_lt, nat_le, not, ◌||◌, pos, ◌-ℤ◌, int_lt, if◌then◌else◌}
use Rattle.std.specs.Int.RustNames.{bit_and}
use Rattle.std.specs.Int.Bits.{and_self}
use Rattle.std.proofs.lemmas.Bool.{cases_lt, lt-ltb, le-ltb, lt-leb, le-leb, eq-eqb, ne_eqb}
use Rattle.std.proofs.Math.Bool.{not-not}
use Rattle.word86.specs.declared.width.Width.{Width}
use Rattle.word86.specs.declared.width.Width.TheVariants as widths
use Rattle.word86.specs.Access.{values}
use Rattle.word86.specs.Signed.{signed_less, signed}
use Rattle.i86_table.specs.declared.flags.Flags.{Flags}
use Rattle.i86_table.specs.declared.instruction.AluOperation.TheVariants.{Add, Cmp}
use Rattle.i86_table.specs.declared.instruction.UnaryOperation.TheVariants.{Inc}
use Rattle.i86_table.specs.declared.instruction.Condition.TheVariants.{Less, LessOrEqual}
use Rattle.i86_table.specs.Arithmetic.{has, with_result, added, subtracted, combined, tested, changed, number_of, operated}
use Rattle.i86_table.specs.Condition.{holds}
use Rattle.icode.specs.declared.instruction.Relation.{Relation}
use Rattle.icode.specs.declared.instruction.Relation.TheVariants as relation
use Rattle.icode.specs.Machine.{stands}
use Rattle.select.specs.Rows.{fails, without_sign}
use Rattle.select.proofs.Rests.{Laws}

pub flipped_le : (x y : ℕ) → not (nat_lt y x) ≡ nat_le x y
flipped_le x y = by (cases_lt y x)
  where
    by : (y < x) ⊎ (x ≤ y) → not (nat_lt y x) ≡ nat_le x y
    by (inl l) = ap not (lt-ltb y x l) ∙ sym (lt-leb x y l)
    by (inr l) = ap not (le-ltb y x l) ∙ sym (le-leb x y l)

-- below or equal
lower_or_same : (x y : ℕ) → (nat_lt x y || nat_eq x y) ≡ nat_le x y
lower_or_same x y = by (cases_lt x y) (cases_lt y x)
  where
    by : (x < y) ⊎ (y ≤ x) → (y < x) ⊎ (x ≤ y) → (nat_lt x y || nat_eq x y) ≡ nat_le x y
    by (inl l) m = ap (λ (b : Bool). b || nat_eq x y) (lt-ltb x y l) ∙ sym (le-leb x y (omega (arith, l)))
    by (inr l) (inl m) = ap (λ (b : Bool). b || nat_eq x y) (le-ltb x y l) ∙ ne_eqb x y (λ e. omega (arith, m, e)) ∙ sym (lt-leb x y m)
    by (inr l) (inr m) = ap (λ (b : Bool). b || nat_eq x y) (le-ltb x y l) ∙ eq-eqb x y (omega (arith, l, m)) ∙ sym (le-leb x y m)

-- a difference is zero exactly where nothing differs
no_difference : (x y : ℕ) → x < 65536 → y < 65536 → nat_eq ((x + 65536 - (y + 0)) % 65536) 0 ≡ nat_eq x y
no_difference x y a b = by (cases_lt x y) (cases_lt y x)
  where
    by : (x < y) ⊎ (y ≤ x) → (y < x) ⊎ (x ≤ y) → nat_eq ((x + 65536 - (y + 0)) % 65536) 0 ≡ nat_eq x y
    by (inl l) m = ne_eqb _ 0 (λ e. omega (arith, l, a, b, e)) ∙ sym (ne_eqb x y (λ e. omega (arith, l, e)))
    by (inr l) (inl m) = ne_eqb _ 0 (λ e. omega (arith, m, a, b, e)) ∙ sym (ne_eqb x y (λ e. omega (arith, m, e)))
    by (inr l) (inr m) = eq-eqb _ 0 (omega (arith, l, m, a, b)) ∙ sym (eq-eqb x y (omega (arith, l, m)))

-- the same for bytes
no_byte_difference : (x y : ℕ) → x < 256 → y < 256 → nat_eq ((x + 256 - (y + 0)) % 256) 0 ≡ nat_eq x y
no_byte_difference x y a b = by (cases_lt x y) (cases_lt y x)
  where
    by : (x < y) ⊎ (y ≤ x) → (y < x) ⊎ (x ≤ y) → nat_eq ((x + 256 - (y + 0)) % 256) 0 ≡ nat_eq x y
    by (inl l) m = ne_eqb _ 0 (λ e. omega (arith, l, a, b, e)) ∙ sym (ne_eqb x y (λ e. omega (arith, l, e)))
    by (inr l) (inl m) = ne_eqb _ 0 (λ e. omega (arith, m, a, b, e)) ∙ sym (ne_eqb x y (λ e. omega (arith, m, e)))
    by (inr l) (inr m) = eq-eqb _ 0 (omega (arith, l, m, a, b)) ∙ sym (eq-eqb x y (omega (arith, l, m)))

-- bytes are below 32,768, so that a relation says the same of them with and without sign
signed_byte : (x : ℕ) → x < 256 → signed 65536 x ≡ pos x
signed_byte x l = ap (λ (b : Bool). if b then pos x -ℤ pos 65536 else pos x) (lt-leb 32768 x (omega (arith, l)))

less_byte : (x y : ℕ) → x < 256 → y < 256 → signed_less x y ≡ nat_lt x y
less_byte x y l m = ap (λ z. int_lt z (signed 65536 y)) (signed_byte x l) ∙ ap (int_lt (pos x)) (signed_byte y m)

stands_without_sign : (o : Relation) (x y : ℕ) → x < 256 → y < 256 → stands (without_sign o) x y ≡ stands o x y
stands_without_sign relation.Equal x y l m = refl
stands_without_sign relation.NotEqual x y l m = refl
stands_without_sign relation.Less x y l m = refl
stands_without_sign relation.LessEqual x y l m = refl
stands_without_sign relation.Greater x y l m = refl
stands_without_sign relation.GreaterEqual x y l m = refl
stands_without_sign relation.LessSigned x y l m = sym (less_byte x y l m)
stands_without_sign relation.LessEqualSigned x y l m = sym (flipped_le x y) ∙ ap not (sym (less_byte y x m l))
stands_without_sign relation.GreaterSigned x y l m = sym (less_byte y x m l)
stands_without_sign relation.GreaterEqualSigned x y l m = sym (flipped_le y x) ∙ ap not (sym (less_byte x y l m))

module _ (laws : Laws) where
  -- the result's flags are not the carry
  result_keeps_carry : (width : Width) (v : ℕ) (f : Flags) → has (with_result width v f) 1 ≡ has f 1
  unfolding with_result
  result_keeps_carry width v f = laws.others 4 1 _ _ refl refl ∙ laws.others 128 1 _ _ refl refl ∙ laws.others 64 1 _ f refl refl

  -- a difference borrows where the subtrahend is greater
  pub borrow : (width : Width) (a b : ℕ) (c : Bool) (f : Flags) → has (subtracted width a b c f).flags 1 ≡ nat_lt a (b + number_of c)
  unfolding subtracted
  borrow width a b c f = result_keeps_carry width _ _ ∙ laws.others 2048 1 _ _ refl refl ∙ laws.others 16 1 _ _ refl refl ∙ laws.same 1 _ f (by_count) refl
    where
      by_count : 0 < 1
      by_count = omega arith

  result_zero : (width : Width) (v : ℕ) (f : Flags) → has (with_result width v f) 64 ≡ nat_eq v 0
  unfolding with_result
  result_zero width v f = laws.others 4 64 _ _ refl refl ∙ laws.others 128 64 _ _ refl refl ∙ laws.same 64 _ _ by_count refl
    where
      by_count : 0 < 64
      by_count = omega arith

  difference_zero : (a b : ℕ) (f : Flags) → has (subtracted widths.Word a b false f).flags 64 ≡ nat_eq ((a + 65536 - (b + 0)) % 65536) 0
  unfolding subtracted
  difference_zero a b f = result_zero widths.Word _ _

  -- a sum carries where it is too large for its width
  sum_carry : (width : Width) (a b : ℕ) (f : Flags) → has (added width a b false f).flags 1 ≡ nat_le (values width) (a + b + 0)
  unfolding added
  sum_carry width a b f = result_keeps_carry width _ _ ∙ laws.others 2048 1 _ _ refl refl ∙ laws.others 16 1 _ _ refl refl ∙ laws.same 1 _ f by_count refl
    where
      by_count : 0 < 1
      by_count = omega arith

  sum_zero : (width : Width) (a b : ℕ) (f : Flags) → has (added width a b false f).flags 64 ≡ nat_eq ((a + b + 0) % values width) 0
  unfolding added
  sum_zero width a b f = result_zero width _ _

  pub add_carry : (width : Width) (a b : ℕ) (f : Flags) → has (operated Add width a b f).flags 1 ≡ nat_le (values width) (a + b + 0)
  unfolding operated
  add_carry width a b f = sum_carry width a b f

  -- INC leaves zero where it wraps
  pub increment_zero : (width : Width) (a : ℕ) (f : Flags) → has (changed Inc width a f).flags 64 ≡ nat_eq ((a + 1 + 0) % values width) 0
  unfolding changed
  increment_zero width a f = laws.others 1 64 _ _ refl refl ∙ sum_zero width a 1 f

  -- TEST leaves zero where no bit is in both
  pub no_bit : (width : Width) (a b : ℕ) (f : Flags) → has (tested width a b f) 64 ≡ nat_eq (bit_and a b) 0
  unfolding combined
  no_bit width a b f = result_zero width _ _

  pub cmp_carry : (a b : ℕ) (f : Flags) → has (operated Cmp widths.Word a b f).flags 1 ≡ nat_lt a b
  unfolding operated
  cmp_carry a b f = let e : b + 0 ≡ b = omega arith in borrow widths.Word a b false f ∙ ap (nat_lt a) e

  cmp_zero : (a b : ℕ) (f : Flags) → a < 65536 → b < 65536 → has (operated Cmp widths.Word a b f).flags 64 ≡ nat_eq a b
  unfolding operated
  cmp_zero a b f l m = difference_zero a b f ∙ no_difference a b l m

  either : (a b : ℕ) (f : Flags) → has f 1 ≡ nat_lt a b → has f 64 ≡ nat_eq a b → (has f 1 || has f 64) ≡ nat_le a b
  either a b f c z = ap (λ (x : Bool). x || has f 64) c ∙ ap (λ (x : Bool). nat_lt a b || x) z ∙ lower_or_same a b

  -- what flags tell of two words: carry and zero whether the first is less and whether both are equal, JL and JLE whether it is less with
  -- sign and whether the other is not
  record Tells (a b : ℕ) (f : Flags) : Type 0 where
    carry : has f 1 ≡ nat_lt a b
    zero_flag : has f 64 ≡ nat_eq a b
    less : holds Less f ≡ signed_less a b
    less_or_equal : holds LessOrEqual f ≡ not (signed_less b a)

  -- the condition says that the relation without its sign does not hold: carry and zero tell that
  fails_without_sign : (o : Relation) (a b : ℕ) (f : Flags) → has f 1 ≡ nat_lt a b → has f 64 ≡ nat_eq a b → holds (fails (without_sign o)) f ≡ not (stands (without_sign o) a b)
  fails_without_sign relation.Equal a b f c z = ap not z
  fails_without_sign relation.NotEqual a b f c z = z ∙ sym (not-not _)
  fails_without_sign relation.Less a b f c z = ap not c
  fails_without_sign relation.LessEqual a b f c z = ap not (either a b f c z)
  fails_without_sign relation.Greater a b f c z = either a b f c z ∙ sym (flipped_le a b)
  fails_without_sign relation.GreaterEqual a b f c z = c ∙ sym (ap not (sym (flipped_le b a)) ∙ not-not _)
  fails_without_sign relation.LessSigned a b f c z = ap not c
  fails_without_sign relation.LessEqualSigned a b f c z = ap not (either a b f c z)
  fails_without_sign relation.GreaterSigned a b f c z = either a b f c z ∙ sym (flipped_le a b)
  fails_without_sign relation.GreaterEqualSigned a b f c z = c ∙ sym (ap not (sym (flipped_le b a)) ∙ not-not _)

  -- the condition says that the relation does not hold
  fails_by : (o : Relation) (a b : ℕ) (f : Flags) → Tells a b f → holds (fails o) f ≡ not (stands o a b)
  fails_by relation.Equal a b f t = fails_without_sign relation.Equal a b f t.carry t.zero_flag
  fails_by relation.NotEqual a b f t = fails_without_sign relation.NotEqual a b f t.carry t.zero_flag
  fails_by relation.Less a b f t = fails_without_sign relation.Less a b f t.carry t.zero_flag
  fails_by relation.LessEqual a b f t = fails_without_sign relation.LessEqual a b f t.carry t.zero_flag
  fails_by relation.Greater a b f t = fails_without_sign relation.Greater a b f t.carry t.zero_flag
  fails_by relation.GreaterEqual a b f t = fails_without_sign relation.GreaterEqual a b f t.carry t.zero_flag
  fails_by relation.LessSigned a b f t = laws.inverse Less f ∙ ap not t.less
  fails_by relation.LessEqualSigned a b f t = laws.inverse LessOrEqual f ∙ ap not t.less_or_equal
  fails_by relation.GreaterSigned a b f t = t.less_or_equal
  fails_by relation.GreaterEqualSigned a b f t = t.less ∙ sym (not-not _)

  pub fails_where : (o : Relation) (a b : ℕ) (f : Flags) → a < 65536 → b < 65536 → holds (fails o) (operated Cmp widths.Word a b f).flags ≡ not (stands o a b)
  fails_where o a b f l m =
      fails_by o a b (operated Cmp widths.Word a b f).flags (record { carry = cmp_carry a b f; zero_flag = cmp_zero a b f l m; less = laws.signed.less a b f l m; less_or_equal = laws.signed.less_or_equal a b f l m })

  byte_zero : (a b : ℕ) (f : Flags) → has (subtracted widths.Byte a b false f).flags 64 ≡ nat_eq ((a + 256 - (b + 0)) % 256) 0
  unfolding subtracted
  byte_zero a b f = result_zero widths.Byte _ _

  byte_cmp_carry : (a b : ℕ) (f : Flags) → has (operated Cmp widths.Byte a b f).flags 1 ≡ nat_lt a b
  unfolding operated
  byte_cmp_carry a b f = let e : b + 0 ≡ b = omega arith in borrow widths.Byte a b false f ∙ ap (nat_lt a) e

  byte_cmp_zero : (a b : ℕ) (f : Flags) → a < 256 → b < 256 → has (operated Cmp widths.Byte a b f).flags 64 ≡ nat_eq a b
  unfolding operated
  byte_cmp_zero a b f l m = byte_zero a b f ∙ no_byte_difference a b l m

  -- the same of bytes
  pub byte_fails_where : (o : Relation) (a b : ℕ) (f : Flags) → a < 256 → b < 256 → holds (fails (without_sign o)) (operated Cmp widths.Byte a b f).flags ≡ not (stands o a b)
  byte_fails_where o a b f l m = fails_without_sign o a b (operated Cmp widths.Byte a b f).flags (byte_cmp_carry a b f) (byte_cmp_zero a b f l m) ∙ ap not (stands_without_sign o a b l m)

  no_carry : (a : ℕ) (f : Flags) → has (tested widths.Word a a f) 1 ≡ false
  unfolding combined
  no_carry a f = result_keeps_carry widths.Word _ _ ∙ laws.others 2048 1 _ _ refl refl ∙ laws.same 1 _ f (by_count) refl
    where
      by_count : 0 < 1
      by_count = omega arith

  -- a test of a number with itself is a comparison with 0
  pub fails_at_zero : (o : Relation) (a : ℕ) (f : Flags) → a < 65536 → holds (fails o) (tested widths.Word a a f) ≡ not (stands o a 0)
  fails_at_zero o a f l =
      fails_by o a 0 (tested widths.Word a a f) (record {
        carry = no_carry a f ∙ sym (le-ltb a 0 (omega arith));
        zero_flag = no_bit widths.Word a a f ∙ ap (λ z. nat_eq z 0) (and_self a);
        less = laws.signed.negative a f l;
        less_or_equal = laws.signed.not_positive a f l;
      })

-- What an instruction leaves in a context's registers and on its stack are words.
use Rattle.std.proofs.Common.{◌≡◌, ℕ, zero, suc, ◌+◌, ◌-◌, ◌*◌, ◌/◌, ◌%◌, ◌<◌, ◌≤◌, Bool, true, false, List, [], ◌∷◌, length, drop, Option, Some, None, refl, arith, lit<}
use Rattle.std.specs.Prelude.{not, nat_lt, nat_le, ◌==◌, ◌&&◌, if◌then◌else◌}
use Rattle.std.proofs.lemmas.Nat.{and_le_l, or_of_16, xor_of_16, or_of_8, xor_of_8, mul-le}
use Rattle.std.proofs.Math.Nat.{mod-lt}
use Rattle.std.proofs.lemmas.Bool.{leb-false, ltb-false}
use Rattle.word86.specs.declared.width.Width.{Width}
use Rattle.word86.specs.declared.width.Width.TheVariants as widths
use Rattle.word86.specs.Access.{Access, Where, values}
use Rattle.word86.specs.Following.{Offer}
use Rattle.i86_table.specs.declared.registers.Register16.{Register16}
use Rattle.i86_table.specs.declared.registers.Register16.TheVariants.{Ax, Cx, Dx, Bx, Sp, Bp, Si, Di}
use Rattle.i86_table.specs.declared.registers.Register8.{Register8}
use Rattle.i86_table.specs.declared.registers.Register8.TheVariants.{Al, Cl, Dl, Bl, Ah, Ch, Dh, Bh}
use Rattle.i86_table.specs.declared.flags.Flags.{Flags}
use Rattle.i86_table.specs.declared.outcome.Division.{Division}
use Rattle.i86_table.specs.declared.registers.Segment.{Segment}
use Rattle.i86_table.specs.declared.registers.Segment.TheVariants as segments
use Rattle.i86_table.specs.declared.instruction.RmOperand.TheVariants as places
use Rattle.i86_table.specs.declared.instruction.Operands.TheVariants.{FromRegister, FromMemory, Immediate}
use Rattle.i86_table.specs.declared.instruction.Operands.{Operands}
use Rattle.i86_table.specs.declared.instruction.AluOperation.{AluOperation}
use Rattle.i86_table.specs.declared.instruction.AluOperation.TheVariants.{Add, Or, Adc, Sbb, And, Sub, Xor, Cmp}
use Rattle.i86_table.specs.declared.instruction.UnaryOperation.{UnaryOperation}
use Rattle.i86_table.specs.declared.instruction.UnaryOperation.TheVariants.{Not, Neg, Inc, Dec}
use Rattle.i86_table.specs.declared.instruction.ShiftOperation.{ShiftOperation}
use Rattle.i86_table.specs.declared.instruction.ShiftOperation.TheVariants.{Rol, Ror, Shl, Shr, Sar}
use Rattle.i86_table.specs.declared.instruction.Signedness.{Signedness}
use Rattle.i86_table.specs.declared.instruction.Signedness.TheVariants.{Unsigned, Signed}
use Rattle.i86_table.specs.declared.instruction.Instr.{Instr}
use Rattle.i86_table.specs.declared.instruction.Instr.TheVariants as i
use Rattle.i86_table.specs.Arithmetic.{sign_extended, sign_word, operated, added, subtracted, combined, changed, shifted, moved, moved_once, magnitude, is_negative, same, with_sign, multiplied, divided, sign, is_comparison, tested}
use Rattle.i86_table.specs.Contexts.{Context, Own, Working, Given, offset_in, further, top_of, stack_pointer, stack_word, word_in, byte_in, set_word, set_byte, set_flags, alu_word, alu_byte, is_sp, is_stack, unless, silently, reads, writes, takes, moved_word, stack_offer, jump_offer, offered, offered_at, room, refused, pop_offer, divides, word_quotient, byte_quotient, move_word_offer, move_byte_offer, alu_word_offer, alu_byte_offer, place_of, masks_sp, byte_mask, count_in, enable_offer, end_offer, gives_back}
use Rattle.i86_table.specs.Widths.{HasWidths}
use Rattle.i86_table.specs.Words.{AreWords, AllWords, HasWords, LeadsToWords, KeepsWords}
use Rattle.i86_table.proofs.ProductProofs.{magnitude_small, magnitude_some, product_small, even_width}

word_fits : (g : Working) → AreWords g → (r : Register16) → word_in g r < 65536
word_fits g h Ax = h.ax
word_fits g h Cx = h.cx
word_fits g h Dx = h.dx
word_fits g h Bx = h.bx
word_fits g h Sp = omega arith
word_fits g h Bp = h.bp
word_fits g h Si = h.si
word_fits g h Di = h.di

byte_fits : (g : Working) → AreWords g → (r : Register8) → byte_in g r < 256
byte_fits g h Al = omega arith
byte_fits g h Cl = omega arith
byte_fits g h Dl = omega arith
byte_fits g h Bl = omega arith
byte_fits g h Ah = omega (arith, h.ax)
byte_fits g h Ch = omega (arith, h.cx)
byte_fits g h Dh = omega (arith, h.dx)
byte_fits g h Bh = omega (arith, h.bx)

set_fits : (r : Register16) (g : Working) (v : ℕ) → AreWords g → v < 65536 → AreWords (set_word g r v)
set_fits Ax g v h l = record { ax = l; cx = h.cx; dx = h.dx; bx = h.bx; bp = h.bp; si = h.si; di = h.di }
set_fits Cx g v h l = record { ax = h.ax; cx = l; dx = h.dx; bx = h.bx; bp = h.bp; si = h.si; di = h.di }
set_fits Dx g v h l = record { ax = h.ax; cx = h.cx; dx = l; bx = h.bx; bp = h.bp; si = h.si; di = h.di }
set_fits Bx g v h l = record { ax = h.ax; cx = h.cx; dx = h.dx; bx = l; bp = h.bp; si = h.si; di = h.di }
set_fits Sp g v h l = record { ax = h.ax; cx = h.cx; dx = h.dx; bx = h.bx; bp = h.bp; si = h.si; di = h.di }
set_fits Bp g v h l = record { ax = h.ax; cx = h.cx; dx = h.dx; bx = h.bx; bp = l; si = h.si; di = h.di }
set_fits Si g v h l = record { ax = h.ax; cx = h.cx; dx = h.dx; bx = h.bx; bp = h.bp; si = l; di = h.di }
set_fits Di g v h l = record { ax = h.ax; cx = h.cx; dx = h.dx; bx = h.bx; bp = h.bp; si = h.si; di = l }

flags_fit : (g : Working) (f : Flags) → AreWords g → AreWords (set_flags g f)
flags_fit g f h = record { ax = h.ax; cx = h.cx; dx = h.dx; bx = h.bx; bp = h.bp; si = h.si; di = h.di }

set_byte_fits : (r : Register8) (g : Working) (v : ℕ) → AreWords g → v < 256 → AreWords (set_byte g r v)
set_byte_fits Al g v h l = set_fits Ax g (g.ax / 256 * 256 + v) h (omega (arith, l, h.ax))
set_byte_fits Cl g v h l = set_fits Cx g (g.cx / 256 * 256 + v) h (omega (arith, l, h.cx))
set_byte_fits Dl g v h l = set_fits Dx g (g.dx / 256 * 256 + v) h (omega (arith, l, h.dx))
set_byte_fits Bl g v h l = set_fits Bx g (g.bx / 256 * 256 + v) h (omega (arith, l, h.bx))
set_byte_fits Ah g v h l = set_fits Ax g (v * 256 + g.ax % 256) h (omega (arith, l, h.ax))
set_byte_fits Ch g v h l = set_fits Cx g (v * 256 + g.cx % 256) h (omega (arith, l, h.cx))
set_byte_fits Dh g v h l = set_fits Dx g (v * 256 + g.dx % 256) h (omega (arith, l, h.dx))
set_byte_fits Bh g v h l = set_fits Bx g (v * 256 + g.bx % 256) h (omega (arith, l, h.bx))

-- ---- arithmetic

operated_fits : (f : AluOperation) (width : Width) (a b : ℕ) (flags : Flags) → a < values width → b < values width → (operated f width a b flags).value < values width
unfolding operated added subtracted combined
operated_fits Add widths.Byte a b flags x y = omega arith
operated_fits Add widths.Word a b flags x y = omega arith
operated_fits Or widths.Byte a b flags x y = or_of_8 a b x y
operated_fits Or widths.Word a b flags x y = or_of_16 a b x y
operated_fits Adc widths.Byte a b flags x y = omega arith
operated_fits Adc widths.Word a b flags x y = omega arith
operated_fits Sbb widths.Byte a b flags x y = omega arith
operated_fits Sbb widths.Word a b flags x y = omega arith
operated_fits And width a b flags x y = omega (arith, x, and_le_l a b)
operated_fits Sub widths.Byte a b flags x y = omega arith
operated_fits Sub widths.Word a b flags x y = omega arith
operated_fits Xor widths.Byte a b flags x y = xor_of_8 a b x y
operated_fits Xor widths.Word a b flags x y = xor_of_16 a b x y
operated_fits Cmp width a b flags x y = x

changed_fits : (f : UnaryOperation) (width : Width) (a : ℕ) (flags : Flags) → a < values width → (changed f width a flags).value < values width
unfolding changed added subtracted
changed_fits Not widths.Byte a flags x = omega arith
changed_fits Not widths.Word a flags x = omega arith
changed_fits Neg widths.Byte a flags x = omega arith
changed_fits Neg widths.Word a flags x = omega arith
changed_fits Inc widths.Byte a flags x = omega arith
changed_fits Inc widths.Word a flags x = omega arith
changed_fits Dec widths.Byte a flags x = omega arith
changed_fits Dec widths.Word a flags x = omega arith

half_if : (b : Bool) (h a s : ℕ) → a / 2 + h < s → a / 2 < s → a / 2 + (if b then h else 0) < s
half_if true h a s x y = x
half_if false h a s x y = omega (arith, y)

once_fits : (f : ShiftOperation) (width : Width) (a : ℕ) → a < values width → (moved_once f width a).0 < values width
once_fits Rol widths.Byte a x = omega (arith, x)
once_fits Rol widths.Word a x = omega (arith, x)
once_fits Ror widths.Byte a x = omega (arith, x)
once_fits Ror widths.Word a x = omega (arith, x)
once_fits Shl widths.Byte a x = omega arith
once_fits Shl widths.Word a x = omega arith
once_fits Shr widths.Byte a x = omega (arith, x)
once_fits Shr widths.Word a x = omega (arith, x)
once_fits Sar widths.Byte a x = half_if (sign widths.Byte a) 128 a 256 (omega (arith, x)) (omega (arith, x))
once_fits Sar widths.Word a x = half_if (sign widths.Word a) 32768 a 65536 (omega (arith, x)) (omega (arith, x))

moved_fits : (f : ShiftOperation) (width : Width) (n : ℕ) (a : ℕ × Bool) → a.0 < values width → (moved f width n a).0 < values width
unfolding moved
moved_fits f width zero a x = x
moved_fits f width (suc n) a x = moved_fits f width n (moved_once f width a.0) (once_fits f width a.0 x)

shifted_fits : (f : ShiftOperation) (width : Width) (a n : ℕ) (flags : Flags) → a < values width → (shifted f width a n flags).value < values width
unfolding shifted
shifted_fits f width a n flags x = moved_fits f width n (a, _) x

with_sign_fits : (size : ℕ) (p : Bool) (m : ℕ) → 0 < size → m < size → with_sign size p m < size
with_sign_fits size true m some h = mod-lt (size - m) {m = size} some
with_sign_fits size false m some h = h

abbrev DivisionFits : Width → Option Division → Type 0
DivisionFits width None = Unit {0}
DivisionFits width (Some x) = (x.quotient < values width) × (x.remainder < values width)

size_some : (width : Width) → 0 < values width
size_some widths.Byte = lit< tt
size_some widths.Word = lit< tt

divided_fits : (s : Signedness) (width : Width) (a b : ℕ) → b < values width → DivisionFits width (divided s width a b)
unfolding divided
divided_fits Unsigned width a zero l = tt
divided_fits Unsigned width a (suc b) l = by (suc b == 0) (nat_le (values width) (a / suc b)) refl
  where
    by : (z t : Bool) → nat_le (values width) (a / suc b) ≡ t → DivisionFits width (if z then None else if t then None else Some (record { quotient = a / suc b; remainder = a % suc b }))
    by true t e = tt
    by false true e = tt
    by false false e = (leb-false (values width) (a / suc b) e, omega (arith, l, mod-lt a {m = suc b} (omega arith)))
divided_fits Signed width a zero l = tt
divided_fits Signed width a (suc b) l =
    let size = values width in
    let d = magnitude size (suc b) in
    let m = magnitude (size * size) a in
    let negative = not (same (is_negative (size * size) a) (is_negative size (suc b))) in
    let small : d ≤ size / 2 = magnitude_small size (suc b) (even_width width) in
    let rest : m % d < d = mod-lt m {m = d} (magnitude_some size (suc b) l (omega arith)) in
    limited width (suc b == 0) (nat_lt (if negative then size / 2 else size / 2 - 1) (m / d)) (if negative then size / 2 else size / 2 - 1) (m / d) (m % d) negative (is_negative (size * size) a) refl (limit_small negative (values width) (size_some width)) (omega (arith, small, rest, size_some width))
  where
    limit_small : (p : Bool) (size : ℕ) → 0 < size → (if p then size / 2 else size / 2 - 1) < size
    limit_small true size some = omega (arith, some)
    limit_small false size some = omega (arith, some)

    limited : (width : Width) (z t : Bool) (limit q r : ℕ) (p u : Bool) → nat_lt limit q ≡ t → limit < values width → r < values width
        → DivisionFits width (if z then None else if t then None else Some (record { quotient = with_sign (values width) p q; remainder = with_sign (values width) u r }))
    limited width true t limit q r p u e h k = tt
    limited width false true limit q r p u e h k = tt
    limited width false false limit q r p u e h k =
        let below : q ≤ limit = ltb-false limit q e in
        (with_sign_fits (values width) p q (size_some width) (omega (arith, below, h)), with_sign_fits (values width) u r (size_some width) k)

multiplied_fits : (s : Signedness) (width : Width) (a b : ℕ) (flags : Flags) → a < values width → b < values width → (multiplied s width a b flags).value < values width * values width
unfolding multiplied
multiplied_fits Unsigned widths.Byte a b flags x y = omega (arith, mul-le a b 255 255 (omega (arith, x)) (omega (arith, y)))
multiplied_fits Unsigned widths.Word a b flags x y = omega (arith, mul-le a b 65535 65535 (omega (arith, x)) (omega (arith, y)))
multiplied_fits Signed width a b flags x y =
    let size = values width in
    let m = magnitude size a * magnitude size b in
    let small : m < size * size / 2 = product_small width (magnitude size a) (magnitude size b) (magnitude_small size a (even_width width)) (magnitude_small size b (even_width width)) in
    with_sign_fits (size * size) (not (same (is_negative size a) (is_negative size b))) m (omega (arith, small)) (omega (arith, small))

-- ---- offers

fits_unless : (b : Bool) (x : Offer Access Context) → LeadsToWords x → LeadsToWords (unless b x)
fits_unless true x h = tt
fits_unless false x h = h

fits_if : (b : Bool) (x : Offer Access Context) → LeadsToWords x → LeadsToWords (if b then x else refused)
fits_if true x h = h
fits_if false x h = tt

fits_read : (o : Option Where) (width : Width) (k : ℕ → Context) → ((v : ℕ) → v < values width → HasWords (k v)) → LeadsToWords (reads o width k)
fits_read None width k h = tt
fits_read (Some x) widths.Byte k h = λ v l. h v l
fits_read (Some x) widths.Word k h = λ v l. h v l

fits_write : (o : Option Where) (width : Width) (v : ℕ) (c : Context) → HasWords c → LeadsToWords (writes o width v c)
fits_write None width v c h = tt
fits_write (Some x) width v c h = λ u l. h

alu_word_fits : (f : AluOperation) (r : Register16) (v : ℕ) (g : Working) → AreWords g → v < 65536 → AreWords (alu_word f r v g)
alu_word_fits f r v g h l = by (is_comparison f)
  where
    by : (b : Bool) → AreWords (if b then set_flags g (operated f widths.Word (word_in g r) v g.flags).flags else set_word (set_flags g (operated f widths.Word (word_in g r) v g.flags).flags) r (operated f widths.Word (word_in g r) v g.flags).value)
    by true = flags_fit g _ h
    by false = set_fits r (set_flags g (operated f widths.Word (word_in g r) v g.flags).flags) (operated f widths.Word (word_in g r) v g.flags).value (flags_fit g _ h) (operated_fits f widths.Word (word_in g r) v g.flags (word_fits g h r) l)

alu_byte_fits : (f : AluOperation) (r : Register8) (v : ℕ) (g : Working) → AreWords g → v < 256 → AreWords (alu_byte f r v g)
alu_byte_fits f r v g h l = by (is_comparison f)
  where
    by : (b : Bool) → AreWords (if b then set_flags g (operated f widths.Byte (byte_in g r) v g.flags).flags else set_byte (set_flags g (operated f widths.Byte (byte_in g r) v g.flags).flags) r (operated f widths.Byte (byte_in g r) v g.flags).value)
    by true = flags_fit g _ h
    by false = set_byte_fits r (set_flags g (operated f widths.Byte (byte_in g r) v g.flags).flags) (operated f widths.Byte (byte_in g r) v g.flags).value (flags_fit g _ h) (operated_fits f widths.Byte (byte_in g r) v g.flags (byte_fits g h r) l)

extended_fits : (n : ℕ) → n < 256 → sign_extended n < 65536
extended_fits n l = by (nat_lt n 128)
  where
    by : (b : Bool) → (if b then n else n + 65280) < 65536
    by true = omega (arith, l)
    by false = omega (arith, l)

sign_fits : (n : ℕ) → sign_word n < 65536
sign_fits n = by (nat_lt n 32768)
  where
    by : (b : Bool) → (if b then 0 else 65535) < 65536
    by true = omega arith
    by false = omega arith

quotient_fits : (g : Working) (q : ℕ) (st : List ℕ) (given : Option Given) (o : Option Division) → DivisionFits widths.Word o → AreWords g → AllWords st → top_of given < 65536 → LeadsToWords (divides o (λ x. Own q (word_quotient x g) st false given))
quotient_fits g q st given None d h s t = tt
quotient_fits g q st given (Some x) d h s t = (set_fits Dx (set_word g Ax x.quotient) x.remainder (set_fits Ax g x.quotient h d.0) d.1, s, t)

byte_quotient_fits : (g : Working) (q : ℕ) (st : List ℕ) (given : Option Given) (o : Option Division) → DivisionFits widths.Byte o → AreWords g → AllWords st → top_of given < 65536 → LeadsToWords (divides o (λ x. Own q (byte_quotient x g) st false given))
byte_quotient_fits g q st given None d h s t = tt
byte_quotient_fits g q st given (Some x) d h s t = (set_fits Ax g (x.remainder * 256 + x.quotient) h (omega (arith, d.0, d.1)), s, t)

stack_word_fits : (offset sp v : ℕ) (st : List ℕ) → AllWords st → stack_word offset sp st ≡ Some v → v < 65536
stack_word_fits offset sp v [] w e = absurd (let wrong = e in cc)
stack_word_fits offset sp v (x ∷ st) w e = by (offset == sp) (stack_word offset (sp + 2) st) (λ h. stack_word_fits offset (sp + 2) v st w.1 h) e
  where
    by : (b : Bool) (o : Option ℕ) → (o ≡ Some v → v < 65536) → (if b then Some x else o) ≡ Some v → v < 65536
    by true o more e = let same : x ≡ v = cc in omega (arith, same, w.0)
    by false o more e = more e

drop_fits : (n : ℕ) (st : List ℕ) → AllWords st → AllWords (drop n st)
drop_fits zero st w = w
drop_fits (suc n) [] w = tt
drop_fits (suc n) (v ∷ st) w = drop_fits n st w.1

takes_fits : (o : Option ℕ) (k : ℕ → Context) → ((v : ℕ) → o ≡ Some v → HasWords (k v)) → LeadsToWords (takes o k)
takes_fits None k h = tt
takes_fits (Some v) k h = h v refl

module _ (find : ℕ → ℕ → Option (ℕ × ℕ)) (words : ℕ → Option ℕ) (main handler q : ℕ) (g : Working) (given : Option Given) (h : AreWords g) (t : top_of given < 65536) where
  drops_words : (f : AluOperation) (n : ℕ) (st : List ℕ) → AllWords st → LeadsToWords (stack_offer f n q g st given)
  drops_words Add n st w = fits_if (n % 2 == 0 && nat_le (n / 2) (length st)) _ (flags_fit g _ h, drop_fits (n / 2) st w, t)
  drops_words Or n st w = tt
  drops_words Adc n st w = tt
  drops_words Sbb n st w = tt
  drops_words And n st w = tt
  drops_words Sub n st w = tt
  drops_words Xor n st w = tt
  drops_words Cmp n st w = tt

  jumps_by : (segment : Segment) (offset : ℕ) (st : List ℕ) → AllWords st → LeadsToWords (jump_offer words segment offset g st given)
  jumps_by segments.Cs offset st w = takes_fits (words offset) _ (λ v e. (h, w, t))
  jumps_by segments.Es offset st w = tt
  jumps_by segments.Ss offset st w = tt
  jumps_by segments.Ds offset st w = tt

  moves_word : (o : Operands Register16 ℕ) (st : List ℕ) → AllWords st → HasWidths (i.MoveWord o) → LeadsToWords (move_word_offer find o q g st given)
  moves_word (FromRegister (places.Register r) s) st w f = fits_unless (is_sp r) _ (set_fits r g (moved_word s g st given) h (moved (is_sp s)), w, t)
    where
      moved : (b : Bool) → (if b then stack_pointer given st else word_in g s) < 65536
      moved true = omega (arith, t)
      moved false = word_fits g h s
  moves_word (FromRegister (places.Memory at) s) st w f = fits_unless (is_sp s) _ (fits_write (place_of find g at widths.Word) widths.Word (word_in g s) (Own q g st false given) (h, w, t))
  moves_word (FromMemory r at) st w f = fits_unless (is_sp r) _ (fetched (is_stack at.segment))
    where
      fetched : (b : Bool) → LeadsToWords (if b then takes (stack_word (offset_in g at.address) (stack_pointer given st) st) (λ v. Own q (set_word g r v) st false given) else reads (place_of find g at widths.Word) widths.Word (λ v. Own q (set_word g r v) st false given))
      fetched true = takes_fits (stack_word (offset_in g at.address) (stack_pointer given st) st) _ (λ v e. (set_fits r g v h (stack_word_fits (offset_in g at.address) (stack_pointer given st) v st w e), w, t))
      fetched false = fits_read (place_of find g at widths.Word) widths.Word (λ v. Own q (set_word g r v) st false given) (λ v l. (set_fits r g v h l, w, t))
  moves_word (Immediate (places.Register r) v) st w f = fits_unless (is_sp r) _ (set_fits r g v h f, w, t)
  moves_word (Immediate (places.Memory at) v) st w f = fits_write (place_of find g at widths.Word) widths.Word v (Own q g st false given) (h, w, t)

  moves_byte : (o : Operands Register8 ℕ) (st : List ℕ) → AllWords st → HasWidths (i.MoveByte o) → LeadsToWords (move_byte_offer find o q g st given)
  moves_byte (FromRegister (places.Register r) s) st w f = (set_byte_fits r g (byte_in g s) h (byte_fits g h s), w, t)
  moves_byte (FromRegister (places.Memory at) s) st w f = fits_write (place_of find g at widths.Byte) widths.Byte (byte_in g s) (Own q g st false given) (h, w, t)
  moves_byte (FromMemory r at) st w f = fits_read (place_of find g at widths.Byte) widths.Byte (λ v. Own q (set_byte g r v) st false given) (λ v l. (set_byte_fits r g v h l, w, t))
  moves_byte (Immediate (places.Register r) v) st w f = (set_byte_fits r g v h f, w, t)
  moves_byte (Immediate (places.Memory at) v) st w f = fits_write (place_of find g at widths.Byte) widths.Byte v (Own q g st false given) (h, w, t)

  alus_word : (f : AluOperation) (o : Operands Register16 ℕ) (st : List ℕ) → AllWords st → HasWidths (i.AluWord f o) → LeadsToWords (alu_word_offer find f o q g st given)
  alus_word f (FromRegister (places.Register r) s) st w e = fits_unless (is_sp r) _ (fits_unless (is_sp s) _ (alu_word_fits f r (word_in g s) g h (word_fits g h s), w, t))
  alus_word f (FromMemory r at) st w e = fits_unless (is_sp r) _ (fits_read (place_of find g at widths.Word) widths.Word (λ v. Own q (alu_word f r v g) st false given) (λ v l. (alu_word_fits f r v g h l, w, t)))
  alus_word f (Immediate (places.Register r) v) st w e = chosen (is_sp r)
    where
      chosen : (b : Bool) → LeadsToWords (if b then stack_offer f v q g st given else silently (Own q (alu_word f r v g) st false given))
      chosen true = drops_words f v st w
      chosen false = (alu_word_fits f r v g h e, w, t)
  alus_word f (FromRegister (places.Memory at) s) st w e = fits_unless (not (is_comparison f)) _ (fits_unless (is_sp s) _ (fits_read (place_of find g at widths.Word) widths.Word (λ v. Own q (set_flags g (operated f widths.Word v (word_in g s) g.flags).flags) st false given) (λ v l. (flags_fit g _ h, w, t))))
  alus_word f (Immediate (places.Memory at) n) st w e = fits_unless (not (is_comparison f)) _ (fits_read (place_of find g at widths.Word) widths.Word (λ v. Own q (set_flags g (operated f widths.Word v n g.flags).flags) st false given) (λ v l. (flags_fit g _ h, w, t)))

  alus_byte : (f : AluOperation) (o : Operands Register8 ℕ) (st : List ℕ) → AllWords st → HasWidths (i.AluByte f o) → LeadsToWords (alu_byte_offer find f o q g st given)
  alus_byte f (FromRegister (places.Register r) s) st w e = (alu_byte_fits f r (byte_in g s) g h (byte_fits g h s), w, t)
  alus_byte f (FromMemory r at) st w e = fits_read (place_of find g at widths.Byte) widths.Byte (λ v. Own q (alu_byte f r v g) st false given) (λ v l. (alu_byte_fits f r v g h l, w, t))
  alus_byte f (Immediate (places.Register r) v) st w e = (alu_byte_fits f r v g h e, w, t)
  alus_byte f (FromRegister (places.Memory at) s) st w e = fits_unless (not (is_comparison f)) _ (fits_read (place_of find g at widths.Byte) widths.Byte (λ v. Own q (set_flags g (operated f widths.Byte v (byte_in g s) g.flags).flags) st false given) (λ v l. (flags_fit g _ h, w, t)))
  alus_byte f (Immediate (places.Memory at) n) st w e = fits_unless (not (is_comparison f)) _ (fits_read (place_of find g at widths.Byte) widths.Byte (λ v. Own q (set_flags g (operated f widths.Byte v n g.flags).flags) st false given) (λ v l. (flags_fit g _ h, w, t)))

  pops : (r : Register16) (st : List ℕ) → AllWords st → LeadsToWords (pop_offer r q g st given)
  pops r [] w = tt
  pops r (v ∷ st) w = fits_unless (is_sp r) _ (set_fits r g v h w.0, w.1, t)

  keeps : (n : Instr) (st : List ℕ) (a : Bool) → AllWords st → HasWidths n → LeadsToWords (offered find words main handler n q g st a given)
  keeps i.Nop st true w f = (h, w, t)
  keeps i.Nop st false w f = (h, w, t)
  keeps (i.MoveWord o) st a w f = moves_word o st w f
  keeps (i.MoveByte o) st a w f = moves_byte o st w f
  keeps (i.AluWord k o) st a w f = alus_word k o st w f
  keeps (i.AluByte k o) st a w f = alus_byte k o st w f
  keeps (i.TestWord (places.Register r) n) st a w f = fits_unless (is_sp r) _ (fits_unless (masks_sp n) _ (flags_fit g _ h, w, t))
  keeps (i.TestByte (places.Register r) n) st a w f = (flags_fit g _ h, w, t)
  keeps (i.TestByte (places.Memory at) n) st a w f = fits_read (place_of find g at widths.Byte) widths.Byte (λ v. Own q (set_flags g (tested widths.Byte v (byte_mask g n) g.flags)) st false given) (λ v l. (flags_fit g _ h, w, t))
  keeps (i.ExchangeWords p) st a w f =
      fits_unless (is_sp p.first) _ (fits_unless (is_sp p.second) _ (set_fits p.second (set_word g p.first (word_in g p.second)) (word_in g p.first) (set_fits p.first g (word_in g p.second) h (word_fits g h p.second)) (word_fits g h p.first), w, t))
  keeps (i.UnaryWord k (places.Register r)) st a w f =
      fits_unless (is_sp r) _ (set_fits r (set_flags g (changed k widths.Word (word_in g r) g.flags).flags) (changed k widths.Word (word_in g r) g.flags).value (flags_fit g _ h) (changed_fits k widths.Word (word_in g r) g.flags (word_fits g h r)), w, t)
  keeps (i.UnaryByte k (places.Register r)) st a w f = (set_byte_fits r (set_flags g (changed k widths.Byte (byte_in g r) g.flags).flags) (changed k widths.Byte (byte_in g r) g.flags).value (flags_fit g _ h) (changed_fits k widths.Byte (byte_in g r) g.flags (byte_fits g h r)), w, t)
  keeps (i.ShiftWord k (places.Register r) n) st a w f =
      let x = shifted k widths.Word (word_in g r) (count_in g n) g.flags in
      fits_unless (is_sp r) _ (set_fits r (set_flags g x.flags) x.value (flags_fit g x.flags h) (shifted_fits k widths.Word (word_in g r) (count_in g n) g.flags (word_fits g h r)), w, t)
  keeps (i.ShiftByte k (places.Register r) n) st a w f =
      let x = shifted k widths.Byte (byte_in g r) (count_in g n) g.flags in
      (set_byte_fits r (set_flags g x.flags) x.value (flags_fit g x.flags h) (shifted_fits k widths.Byte (byte_in g r) (count_in g n) g.flags (byte_fits g h r)), w, t)
  keeps (i.MultiplyWord s (places.Register r)) st a w f =
      let x = multiplied s widths.Word g.ax (word_in g r) g.flags in
      fits_unless (is_sp r) _ (
        set_fits Dx (set_word (set_flags g x.flags) Ax (x.value % 65536)) (x.value / 65536) (set_fits Ax (set_flags g x.flags) (x.value % 65536) (flags_fit g x.flags h) (omega arith))
            (omega (arith, multiplied_fits s widths.Word g.ax (word_in g r) g.flags h.ax (word_fits g h r))),
        w,
        t,
      )
  keeps (i.MultiplyByte s (places.Register r)) st a w f =
      let x = multiplied s widths.Byte (byte_in g Al) (byte_in g r) g.flags in
      (set_fits Ax (set_flags g x.flags) x.value (flags_fit g x.flags h) (multiplied_fits s widths.Byte (byte_in g Al) (byte_in g r) g.flags (byte_fits g h Al) (byte_fits g h r)), w, t)
  keeps (i.DivideWord s (places.Register r)) st a w f = fits_unless (is_sp r) _ (quotient_fits g q st given (divided s widths.Word (g.dx * 65536 + g.ax) (word_in g r)) (divided_fits s widths.Word (g.dx * 65536 + g.ax) (word_in g r) (word_fits g h r)) h w t)
  keeps (i.DivideByte s (places.Register r)) st a w f = byte_quotient_fits g q st given (divided s widths.Byte g.ax (byte_in g r)) (divided_fits s widths.Byte g.ax (byte_in g r) (byte_fits g h r)) h w t
  keeps i.ConvertByte st a w f = (set_fits Ax g (sign_extended (byte_in g Al)) h (extended_fits (byte_in g Al) (byte_fits g h Al)), w, t)
  keeps i.ConvertWord st a w f = (set_fits Dx g (sign_word g.ax) h (sign_fits g.ax), w, t)
  keeps (i.Push (places.Register r)) st a w f = fits_unless (is_sp r) _ (fits_if (nat_lt (length st) (room main handler given)) _ (h, (omega arith, w), t))
  keeps (i.Pop (places.Register r)) st a w f = pops r st w
  keeps (i.JumpIf c d) st a w f = (h, w, t)
  keeps (i.JumpShort d) st a w f = (h, w, t)
  keeps (i.Jump d) st a w f = (h, w, t)
  keeps (i.JumpTo (places.Register r)) st a w f = fits_unless (is_sp r) _ (fits_unless (nat_le 65536 (word_in g r)) _ (h, w, t))
  keeps (i.JumpTo (places.Memory at)) st a w f = jumps_by at.segment (offset_in g at.address) st w
  keeps (i.Call d) st a w f = fits_if (nat_lt (length st) (room main handler given)) _ (h, (omega arith, w), t)
  keeps i.Return [] a w f = tt
  keeps i.Return (v ∷ st) a w f = (h, w.1, t)
  keeps (i.In widths.Byte port) st a w f = λ v l. (set_byte_fits Al g v h l, w, t)
  keeps (i.In widths.Word port) st a w f = λ v l. (set_fits Ax g v h l, w, t)
  keeps (i.Out width port) st a w f = λ v l. (h, w, t)
  keeps i.DisableInterrupts st a w f = (flags_fit g _ h, w, t)
  keeps i.EnableInterrupts st a w f = enables given
    where
      enables : (given : Option Given) → LeadsToWords (enable_offer q g st given)
      enables None = (flags_fit g _ h, w, omega arith)
      enables (Some s) = tt
  keeps i.Halt st true w f = (h, w, t)
  keeps i.Halt st false w f = tt
  keeps i.InterruptReturn st a w f = ends given
    where
      ends : (given : Option Given) → LeadsToWords (end_offer g st given)
      ends None = tt
      ends (Some s) = fits_if (gives_back s.registers g st) _ tt
  keeps _ st a w f = tt

pub keeps_words : KeepsWords
keeps_words code find words entry main handler widths (Own place g st a given) h = by (code place) (widths place)
  where
    by : (o : Option (Instr × ℕ)) → ((d : Instr × ℕ) → o ≡ Some d → HasWidths d.0) → LeadsToWords (offered_at code find words entry main handler o place g st a given)
    by None f = tt
    by (Some d) f = keeps find words main handler (further place d.1) g given h.0 h.2 d.0 st a h.1 (f d refl)

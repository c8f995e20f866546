-- Which lines spell which items.
use Rattle.std.proofs.lemmas.Bool.{and_parts, and_from, leb-true, le-leb, ltb-true, lt-ltb, lt-leb, and_right}
use Rattle.std.proofs.lemmas.Option.{none-some, same_Some}
use Rattle.std.proofs.Common.{◌≡◌, ◌∙◌, ℕ, suc, ◌+◌, ◌-◌, ◌*◌, ◌^◌, ◌<◌, ◌≤◌, ◌++◌, ◌==◌, Bool, true, false, cond, [], ◌∷◌, Option, Some, None, length, refl, sym, ap, subst, arith, inl, inr, take, drop}
use Rattle.std.specs.Prelude.{not, ◌&&◌, if◌then◌else◌, nat_lt, nat_le, fold, codes, option_map, option_and_then}
use Rattle.std.specs.Str.{bytes_eq}
use Rattle.std.proofs.lemmas.Bool.Decides.{nat_tests}
use Rattle.std.proofs.lemmas.Slice.Eq.{bytes_eq-Decides}
use Rattle.std.proofs.lemmas.List.{take-append-drop}
use Rattle.std.proofs.Math.Seq.{take-append_seam, drop-append_seam}
use Rattle.word86.specs.declared.event.Event.{Event}
use Rattle.word86.specs.declared.event.Event.TheVariants.{Tick, Key}
use Rattle.board.specs.declared.reading.Item.{Item}
use Rattle.board.specs.declared.reading.Item.TheVariants.{Fill, At, Stop}
use Rattle.board.specs.Schedule.{Text, after_word, is_digit, with_digit, number_of, hex_value, hex_of, word_len, tick_of, event_of_rest, event_of, at_of, item_from, item_of}
use Rattle.board.specs.Format.{AreDigits, spelled_from, IsNumber, IsHexDigit, IsHexByte, IsEventOf, IsLineOf}

-- ---- a word at the beginning

word_cut : (t : Bool) (w l r : Text) → bytes_eq (take (length w) l) w ≡ t → (if t then Some (drop (length w) l) else None) ≡ Some r → l ≡ w ++ r
word_cut true w l r e h =
    let front : take (length w) l ≡ w = (bytes_eq-Decides (take (length w) l) w).0 e in
    let back : drop (length w) l ≡ r = same_Some (drop (length w) l) r h in
    sym (take-append-drop (length w) l) ∙ (ap (λ (x : Text). x ++ drop (length w) l) front ∙ ap (λ (x : Text). w ++ x) back)
word_cut false w l r e h = absurd (none-some r h)

after_word_is : (w l r : Text) → after_word w l ≡ Some r → l ≡ w ++ r
after_word_is w l r h = word_cut (bytes_eq (take (length w) l) w) w l r refl h

after_word_of : (w r : Text) → after_word w (w ++ r) ≡ Some r
after_word_of w r =
    let same : bytes_eq (take (length w) (w ++ r)) w ≡ true = (bytes_eq-Decides (take (length w) (w ++ r)) w).1 (take-append_seam w r) in
    ap (λ t. if t then Some (drop (length w) (w ++ r)) else None) same ∙ ap (λ (x : Text). Some x) (drop-append_seam w r)

-- ---- decimal numbers

no_digits : (ds : Text) → fold with_digit None ds ≡ None
no_digits [] = refl
no_digits (d ∷ ds) = no_digits ds

record Read (m : ℕ) (ds : Text) (n : ℕ) : Type 0 where
  digits : AreDigits ds
  value : spelled_from m ds ≡ n
  fits : n < 2 ^ 32

abbrev next : ℕ → ℕ → ℕ
next m d = m * 10 + (d - 48)

abbrev Reading : Text → Type 0
Reading ds = (m n : ℕ) → m < 2 ^ 32 → fold with_digit (Some m) ds ≡ Some n → Read m ds n

reading_digit : (t : Bool) (ds : Text) (m d n : ℕ) → Reading ds → (is_digit d && nat_lt (next m d) (2 ^ 32)) ≡ t → fold with_digit (if t then Some (next m d) else None) ds ≡ Some n → Read m (d ∷ ds) n
reading_digit true ds m d n more e h =
    let parts = and_parts (is_digit d) (nat_lt (next m d) (2 ^ 32)) e in
    let digit = and_parts (nat_le 48 d) (nat_le d 57) parts.0 in
    let r = more (next m d) n (ltb-true (next m d) (2 ^ 32) parts.1) h in
    record { digits = (leb-true 48 d digit.0, leb-true d 57 digit.1, r.digits); value = r.value; fits = r.fits }
reading_digit false ds m d n more e h = absurd (none-some n (sym (no_digits ds) ∙ h))

reading : (ds : Text) → Reading ds
reading [] m n below h = let e = same_Some m n h in record { digits = tt; value = e; fits = subst (λ x. x < 2 ^ 32) e below }
reading (d ∷ ds) m n below h = reading_digit (is_digit d && nat_lt (next m d) (2 ^ 32)) ds m d n (reading ds) refl h

grows : (ds : Text) (m : ℕ) → m ≤ spelled_from m ds
grows [] m = omega arith
grows (d ∷ ds) m = let more = grows ds (next m d) in omega (arith, more)

writing : (ds : Text) (m n : ℕ) → AreDigits ds → spelled_from m ds ≡ n → n < 2 ^ 32 → fold with_digit (Some m) ds ≡ Some n
writing [] m n digits e below = ap (λ x. Some x) e
writing (d ∷ ds) m n digits e below =
    let more = grows ds (next m d) in
    let small : next m d < 2 ^ 32 = subst (λ x. x < 2 ^ 32 → next m d < 2 ^ 32) e (λ lt. omega (arith, more, lt)) below in
    let test : (is_digit d && nat_lt (next m d) (2 ^ 32)) ≡ true =
    and_from (is_digit d) (nat_lt (next m d) (2 ^ 32)) (and_from (nat_le 48 d) (nat_le d 57) (le-leb 48 d digits.0) (le-leb d 57 digits.1)) (lt-ltb (next m d) (2 ^ 32) small) in
    ap (λ t. fold with_digit (if t then Some (next m d) else None) ds) test ∙ writing ds (next m d) n digits.2 e below

positive : (d : ℕ) (ds : Text) → 0 < length (d ∷ ds)
positive d ds = omega arith

not_empty : (d : ℕ) (ds : Text) → (length (d ∷ ds) == 0) ≡ false
not_empty d ds = let lt = positive d ds in grind (arith, nat_tests)

zero_small : 0 < 2 ^ 32
zero_small = omega arith

pub number_is : (ds : Text) (n : ℕ) → number_of ds ≡ Some n → IsNumber ds n
number_is [] n h = absurd (none-some n h)
number_is (d ∷ ds) n h =
    let e : fold with_digit (Some 0) (d ∷ ds) ≡ Some n = sym (ap (λ t. if t then None else fold with_digit (Some 0) (d ∷ ds)) (not_empty d ds)) ∙ h in
    let r = reading (d ∷ ds) 0 n zero_small e in
    record { some = positive d ds; digits = r.digits; value = r.value; fits = r.fits }

pub number_from : (ds : Text) (n : ℕ) → IsNumber ds n → number_of ds ≡ Some n
number_from [] n h = absurd (let lt : 0 < length {A = ℕ} [] = h.some in omega arith)
number_from (d ∷ ds) n h =
    ap (λ t. if t then None else fold with_digit (Some 0) (d ∷ ds)) (not_empty d ds) ∙ writing (d ∷ ds) 0 n h.digits h.value h.fits

-- ---- hexadecimal bytes

hex_small : (t : Bool) (d v : ℕ) → (nat_le 97 d && nat_le d 102) ≡ t → (if t then Some (d - 87) else None) ≡ Some v → IsHexDigit d v
hex_small true d v e h =
    let parts = and_parts (nat_le 97 d) (nat_le d 102) e in
    let low = leb-true 97 d parts.0 in
    let high = leb-true d 102 parts.1 in
    let is = same_Some (d - 87) v h in
    inr (omega (arith, low, high, is), omega (arith, low, high, is), inr (omega (arith, low, high, is)))
hex_small false d v e h = absurd (none-some v h)

hex_capital : (t : Bool) (d v : ℕ) → (nat_le 65 d && nat_le d 70) ≡ t → (if t then Some (d - 55) else if nat_le 97 d && nat_le d 102 then Some (d - 87) else None) ≡ Some v → IsHexDigit d v
hex_capital true d v e h =
    let parts = and_parts (nat_le 65 d) (nat_le d 70) e in
    let low = leb-true 65 d parts.0 in
    let high = leb-true d 70 parts.1 in
    let is = same_Some (d - 55) v h in
    inr (omega (arith, low, high, is), omega (arith, low, high, is), inl (omega (arith, low, high, is)))
hex_capital false d v e h = hex_small (nat_le 97 d && nat_le d 102) d v refl h

hex_decimal : (t : Bool) (d v : ℕ) → (nat_le 48 d && nat_le d 57) ≡ t → (if t then Some (d - 48) else if nat_le 65 d && nat_le d 70 then Some (d - 55) else if nat_le 97 d && nat_le d 102 then Some (d - 87) else None) ≡ Some v → IsHexDigit d v
hex_decimal true d v e h =
    let parts = and_parts (nat_le 48 d) (nat_le d 57) e in
    let low = leb-true 48 d parts.0 in
    let high = leb-true d 57 parts.1 in
    let is = same_Some (d - 48) v h in
    inl (omega (arith, low, high, is), omega (arith, low, high, is))
hex_decimal false d v e h = hex_capital (nat_le 65 d && nat_le d 70) d v refl h

digit_is : (d v : ℕ) → hex_value d ≡ Some v → IsHexDigit d v
digit_is d v h = hex_decimal (nat_le 48 d && nat_le d 57) d v refl h

within : (a b d : ℕ) → a ≤ d → d ≤ b → (nat_le a d && nat_le d b) ≡ true
within a b d x y = and_from (nat_le a d) (nat_le d b) (le-leb a d x) (le-leb d b y)

above : (a b d : ℕ) → b < d → (nat_le a d && nat_le d b) ≡ false
above a b d x = and_right (nat_le a d) (nat_le d b) (lt-leb d b x)

by_decimal : (t : Bool) (d : ℕ) → (nat_le 48 d && nat_le d 57) ≡ t → hex_value d ≡ (if t then Some (d - 48) else if nat_le 65 d && nat_le d 70 then Some (d - 55) else if nat_le 97 d && nat_le d 102 then Some (d - 87) else None)
by_decimal t d e = ap (λ t. if t then Some (d - 48) else if nat_le 65 d && nat_le d 70 then Some (d - 55) else if nat_le 97 d && nat_le d 102 then Some (d - 87) else None) e

digit_from : (d v : ℕ) → IsHexDigit d v → hex_value d ≡ Some v
digit_from d v (inl (small, is)) =
    by_decimal true d (within 48 57 d (omega (arith, is)) (omega (arith, small, is))) ∙ ap (λ x. Some x) (let e : d - 48 ≡ v = omega (arith, is) in e)
digit_from d v (inr (ten, sixteen, inl is)) =
    by_decimal false d (above 48 57 d (omega (arith, ten, is)))
    ∙ (ap (λ t. if t then Some (d - 55) else if nat_le 97 d && nat_le d 102 then Some (d - 87) else None) (within 65 70 d (omega (arith, ten, is)) (omega (arith, sixteen, is)))
    ∙ ap (λ x. Some x) (let e : d - 55 ≡ v = omega (arith, is) in e))
digit_from d v (inr (ten, sixteen, inr is)) =
    by_decimal false d (above 48 57 d (omega (arith, ten, is)))
    ∙ (ap (λ t. if t then Some (d - 55) else if nat_le 97 d && nat_le d 102 then Some (d - 87) else None) (above 65 70 d (omega (arith, ten, is)))
    ∙ (ap (λ t. if t then Some (d - 87) else None) (within 97 102 d (omega (arith, ten, is)) (omega (arith, sixteen, is)))
    ∙ ap (λ x. Some x) (let e : d - 87 ≡ v = omega (arith, is) in e)))

byte_is : (o p : Option ℕ) (h l b : ℕ) → hex_value h ≡ o → hex_value l ≡ p → option_and_then (λ x. option_map (λ y. x * 16 + y) p) o ≡ Some b → IsHexByte (h ∷ l ∷ []) b
byte_is None p h l b e f g = absurd (none-some b g)
byte_is (Some x) None h l b e f g = absurd (none-some b g)
byte_is (Some x) (Some y) h l b e f g =
    record { high = h; low = l; high_value = x; low_value = y; text_is = refl; high_is = digit_is h x e; low_is = digit_is l y f; byte_is = sym (same_Some (x * 16 + y) b g) }

longer : (a b c : ℕ) (t : Text) → (length (a ∷ b ∷ c ∷ t) == 2) ≡ false
longer a b c t = let lt : 2 < length (a ∷ b ∷ c ∷ t) = omega arith in grind (arith, nat_tests)

pub hex_is : (t : Text) (b : ℕ) → hex_of t ≡ Some b → IsHexByte t b
hex_is [] b h = absurd (none-some b h)
hex_is (x ∷ []) b h = absurd (none-some b h)
hex_is (x ∷ y ∷ []) b h = byte_is (hex_value x) (hex_value y) x y b refl refl h
hex_is (x ∷ y ∷ z ∷ t) b h =
    absurd (none-some b (sym (ap (λ (s : Bool). if s then option_and_then (λ p. option_map (λ q. p * 16 + q) (hex_value y)) (hex_value x) else None) (longer x y z t)) ∙ h))

byte_from : (h l x y : ℕ) → IsHexDigit h x → IsHexDigit l y → hex_of (h ∷ l ∷ []) ≡ Some (x * 16 + y)
byte_from h l x y e f =
    ap (λ (o : Option ℕ). option_and_then (λ p. option_map (λ q. p * 16 + q) (hex_value l)) o) (digit_from h x e)
    ∙ ap (λ (o : Option ℕ). option_map (λ q. x * 16 + q) o) (digit_from l y f)

pub hex_from : (t : Text) (b : ℕ) → IsHexByte t b → hex_of t ≡ Some b
hex_from t b h =
    ap hex_of h.text_is ∙ (byte_from h.high h.low h.high_value h.low_value h.high_is h.low_is ∙ ap (λ x. Some x) (sym h.byte_is))

-- ---- events

tick_test : (t : Bool) (k : ℕ) (e : Event) (ds l : Text) → (nat_le 1 k && nat_le k 65535) ≡ t → (if t then Some (Tick k) else None) ≡ Some e → IsNumber ds k → l ≡ codes " TICK " ++ ds → IsEventOf e l
tick_test true k e ds l w h n is =
    let parts = and_parts (nat_le 1 k) (nat_le k 65535) w in
    subst (λ x. IsEventOf x l) (same_Some (Tick k) e h) (ds, n, leb-true 1 k parts.0, leb-true k 65535 parts.1, is)
tick_test false k e ds l w h n is = absurd (none-some e h)

tick_is : (o : Option ℕ) (e : Event) (ds l : Text) → number_of ds ≡ o → tick_of o ≡ Some e → l ≡ codes " TICK " ++ ds → IsEventOf e l
tick_is None e ds l w h is = absurd (none-some e h)
tick_is (Some k) e ds l w h is = tick_test (nat_le 1 k && nat_le k 65535) k e ds l refl h (number_is ds k w) is

key_is : (o : Option ℕ) (e : Event) (hs l : Text) → hex_of hs ≡ o → option_map Key o ≡ Some e → l ≡ codes " KEY " ++ hs → IsEventOf e l
key_is None e hs l w h is = absurd (none-some e h)
key_is (Some b) e hs l w h is = subst (λ x. IsEventOf x l) (same_Some (Key b) e h) (hs, hex_is hs b w, is)

event_by : (o p : Option Text) (e : Event) (l : Text) → after_word (codes " TICK ") l ≡ o → after_word (codes " KEY ") l ≡ p → event_of_rest o p ≡ Some e → IsEventOf e l
event_by (Some ds) p e l w v h = tick_is (number_of ds) e ds l refl h (after_word_is (codes " TICK ") l ds w)
event_by None (Some hs) e l w v h = key_is (hex_of hs) e hs l refl h (after_word_is (codes " KEY ") l hs v)
event_by None None e l w v h = absurd (none-some e h)

pub event_is : (l : Text) (e : Event) → event_of l ≡ Some e → IsEventOf e l
event_is l e h = event_by (after_word (codes " TICK ") l) (after_word (codes " KEY ") l) e l refl refl h

no_tick : (hs : Text) → after_word (codes " TICK ") (codes " KEY " ++ hs) ≡ None
no_tick hs = refl

pub event_from : (e : Event) (l : Text) → IsEventOf e l → event_of l ≡ Some e
event_from (Tick k) l (ds, n, low, high, is) =
    ap event_of is
    ∙ (ap (λ (o : Option Text). event_of_rest o (after_word (codes " KEY ") (codes " TICK " ++ ds))) (after_word_of (codes " TICK ") ds)
    ∙ (ap tick_of (number_from ds k n) ∙ ap (λ t. if t then Some (Tick k) else None) (within 1 65535 k low high)))
event_from (Key b) l (hs, x, is) =
    ap event_of is
    ∙ (ap (λ (o : Option Text). event_of_rest o (after_word (codes " KEY ") (codes " KEY " ++ hs))) (no_tick hs)
    ∙ (ap (λ (o : Option Text). event_of_rest None o) (after_word_of (codes " KEY ") hs) ∙ ap (option_map Key) (hex_from hs b x)))

-- ---- items

fill_is : (o : Option ℕ) (x : Item) (hs l : Text) → hex_of hs ≡ o → option_map Fill o ≡ Some x → l ≡ codes "FILL " ++ hs → IsLineOf x l
fill_is None x hs l w h is = absurd (none-some x h)
fill_is (Some b) x hs l w h is = subst (λ y. IsLineOf y l) (same_Some (Fill b) x h) (hs, hex_is hs b w, is)

stop_is : (o : Option ℕ) (x : Item) (ds l : Text) → number_of ds ≡ o → option_map Stop o ≡ Some x → l ≡ codes "STOP " ++ ds → IsLineOf x l
stop_is None x ds l w h is = absurd (none-some x h)
stop_is (Some n) x ds l w h is = subst (λ y. IsLineOf y l) (same_Some (Stop n) x h) (ds, number_is ds n w, is)

at_is : (o : Option ℕ) (p : Option Event) (x : Item) (ds rest l : Text) → number_of ds ≡ o → event_of rest ≡ p → at_of o p ≡ Some x → l ≡ codes "AT " ++ (ds ++ rest) → IsLineOf x l
at_is None p x ds rest l w v h is = absurd (none-some x h)
at_is (Some n) None x ds rest l w v h is = absurd (none-some x h)
at_is (Some n) (Some e) x ds rest l w v h is = subst (λ y. IsLineOf y l) (same_Some (At n e) x h) (ds, rest, number_is ds n w, event_is rest e v, is)

item_by : (o p q : Option Text) (x : Item) (l : Text) → after_word (codes "FILL ") l ≡ o → after_word (codes "STOP ") l ≡ p → after_word (codes "AT ") l ≡ q → item_from o p q ≡ Some x → IsLineOf x l
item_by (Some hs) p q x l w v u h = fill_is (hex_of hs) x hs l refl h (after_word_is (codes "FILL ") l hs w)
item_by None (Some ds) q x l w v u h = stop_is (number_of ds) x ds l refl h (after_word_is (codes "STOP ") l ds v)
item_by None None (Some r) x l w v u h =
    at_is (number_of (take (word_len r) r)) (event_of (drop (word_len r) r)) x (take (word_len r) r) (drop (word_len r) r) l refl refl h
    (after_word_is (codes "AT ") l r u ∙ ap (λ (s : Text). codes "AT " ++ s) (sym (take-append-drop (word_len r) r)))
item_by None None None x l w v u h = absurd (none-some x h)

pub line_is : (l : Text) (x : Item) → item_of l ≡ Some x → IsLineOf x l
line_is l x h = item_by (after_word (codes "FILL ") l) (after_word (codes "STOP ") l) (after_word (codes "AT ") l) x l refl refl refl h

no_space : (d : ℕ) → 48 ≤ d → not (d == 32) ≡ true
no_space d le = ap not (let e : (d == 32) ≡ false = grind (arith, nat_tests) in e)

word_digits : (ds rest : Text) → AreDigits ds → word_len rest ≡ 0 → word_len (ds ++ rest) ≡ length ds
word_digits [] rest digits e = e
word_digits (d ∷ ds) rest digits e =
    ap (λ t. cond t (1 + word_len (ds ++ rest)) 0) (no_space d digits.0)
    ∙ (ap (λ n. 1 + n) (word_digits ds rest digits.2 e) ∙ (let one : 1 + length ds ≡ suc (length ds) = omega arith in one))

event_spaced : (e : Event) (rest : Text) → IsEventOf e rest → word_len rest ≡ 0
event_spaced (Tick k) rest (ds, n, low, high, is) = ap word_len is
event_spaced (Key b) rest (hs, x, is) = ap word_len is

at_parts : (ds rest : Text) (k : ℕ) → k ≡ length ds → at_of (number_of (take k (ds ++ rest))) (event_of (drop k (ds ++ rest))) ≡ at_of (number_of ds) (event_of rest)
at_parts ds rest k e =
    ap (λ n. at_of (number_of (take n (ds ++ rest))) (event_of (drop n (ds ++ rest)))) e
    ∙ (ap (λ (s : Text). at_of (number_of s) (event_of (drop (length ds) (ds ++ rest)))) (take-append_seam ds rest)
    ∙ ap (λ (s : Text). at_of (number_of ds) (event_of s)) (drop-append_seam ds rest))

no_fill_in_stop : (ds : Text) → after_word (codes "FILL ") (codes "STOP " ++ ds) ≡ None
no_fill_in_stop ds = refl

no_fill_in_at : (r : Text) → after_word (codes "FILL ") (codes "AT " ++ r) ≡ None
no_fill_in_at r = refl

no_stop_in_at : (r : Text) → after_word (codes "STOP ") (codes "AT " ++ r) ≡ None
no_stop_in_at r = refl

pub line_from : (x : Item) (l : Text) → IsLineOf x l → item_of l ≡ Some x
line_from (Fill b) l (hs, x, is) =
    ap item_of is
    ∙ (ap (λ (o : Option Text). item_from o (after_word (codes "STOP ") (codes "FILL " ++ hs)) (after_word (codes "AT ") (codes "FILL " ++ hs))) (after_word_of (codes "FILL ") hs)
    ∙ ap (option_map Fill) (hex_from hs b x))
line_from (Stop n) l (ds, x, is) =
    ap item_of is
    ∙ (ap (λ (o : Option Text). item_from o (after_word (codes "STOP ") (codes "STOP " ++ ds)) (after_word (codes "AT ") (codes "STOP " ++ ds))) (no_fill_in_stop ds)
    ∙ (ap (λ (o : Option Text). item_from None o (after_word (codes "AT ") (codes "STOP " ++ ds))) (after_word_of (codes "STOP ") ds)
    ∙ ap (option_map Stop) (number_from ds n x)))
line_from (At n e) l (ds, rest, x, y, is) =
    let r = ds ++ rest in
    ap item_of is
    ∙ (ap (λ (o : Option Text). item_from o (after_word (codes "STOP ") (codes "AT " ++ r)) (after_word (codes "AT ") (codes "AT " ++ r))) (no_fill_in_at r)
    ∙ (ap (λ (o : Option Text). item_from None o (after_word (codes "AT ") (codes "AT " ++ r))) (no_stop_in_at r)
    ∙ (ap (λ (o : Option Text). item_from None None o) (after_word_of (codes "AT ") r)
    ∙ (at_parts ds rest (word_len r) (word_digits ds rest x.digits (event_spaced e rest y))
    ∙ (ap (λ (o : Option ℕ). at_of o (event_of rest)) (number_from ds n x) ∙ ap (λ (o : Option Event). at_of (Some n) o) (event_from e rest y))))))

pub no_line : (o : Option Item) (l : Text) → item_of l ≡ o → ((x : Item) → IsLineOf x l → ⊥) → o ≡ None
no_line None l e f = refl
no_line (Some x) l e f = absurd (f x (line_is l x e))

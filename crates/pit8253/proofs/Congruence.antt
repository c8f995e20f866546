-- Alike progresss stay alike, and show the same OUT.
use Rattle.std.proofs.Common.{◌≢◌, ◌≡◌, ℕ, zero, suc, ◌+◌, ◌-◌, ◌%◌, ◌<◌, ◌≤◌, Bool, true, false, ltb, ◌⊎◌, refl, sym, ap, ◌∙◌, subst, inl, inr, arith}
use Rattle.std.proofs.Math.Nat.{add-mod, zero-mod}
use Rattle.std.proofs.lemmas.Bool.Decides.{nat_tests}
use Rattle.std.specs.Prelude.{◌==◌, Option, Some, None}
use Rattle.pit8253.specs.declared.mode.Waveform.{Waveform}
use Rattle.pit8253.specs.Progress.{Progress, Still, Once, Again, renewed, one, out_at, is_high, next_of}
use Rattle.pit8253.specs.Alike.{SamePhase, SameOnce, Alike}
use Rattle.pit8253.specs.Channel.{IsPartOf}
use Rattle.pit8253.specs.Inner.Segment.{IsStartOf}
use Rattle.pit8253.proofs.Phases.{wave, wave_at}

phase_mod_pos : (n p r : ℕ) → 0 < p → 0 < r → (p - 1) % n ≡ (r - 1) % n → p % n ≡ r % n
phase_mod_pos n p r a b e =
    let x : p ≡ (p - 1) + 1 = omega arith in
    let y : r ≡ (r - 1) + 1 = omega arith in
    ap (λ z. z % n) x ∙ (add-mod (p - 1) 1 n ∙ (ap (λ z. (z + 1 % n) % n) e ∙ (sym (add-mod (r - 1) 1 n) ∙ sym (ap (λ z. z % n) y))))

pub phase_mod : (n p r : ℕ) → SamePhase n p r → p % n ≡ r % n
phase_mod n zero r h = ap (λ z. z % n) (sym (h.0 refl))
phase_mod n (suc p) zero h = absurd (let z : suc p ≡ 0 = h.1 refl in omega arith)
phase_mod n (suc p) (suc r) h = phase_mod_pos n (suc p) (suc r) (omega arith) (omega arith) h.2

pub same_next : (n p r : ℕ) → SamePhase n p r → SamePhase n (p + 1) (r + 1)
same_next n p r h =
    let x : p + 1 - 1 ≡ p = omega arith in
    let y : r + 1 - 1 ≡ r = omega arith in
    ((λ e. omega arith), (λ e. omega arith), ap (λ z. z % n) x ∙ (phase_mod n p r h ∙ sym (ap (λ z. z % n) y)))

first_left : (n p : ℕ) → p % n ≡ 0 → SamePhase n 1 (p + 1)
first_left n p h =
    let x : p + 1 - 1 ≡ p = omega arith in
    ((λ e. omega arith), (λ e. omega arith), zero-mod n ∙ sym (ap (λ z. z % n) x ∙ h))

first_right : (n p : ℕ) → p % n ≡ 0 → SamePhase n (p + 1) 1
first_right n p h =
    let x : p + 1 - 1 ≡ p = omega arith in
    ((λ e. omega arith), (λ e. omega arith), (ap (λ z. z % n) x ∙ h) ∙ sym (zero-mod n))

none_some : (b : Bool) (s : Waveform) (n m p r : ℕ) → (b ≡ true → r % n ≡ 0) → n ≡ m → SamePhase n p r → Alike (Again s n None (p + 1)) (renewed b s n m r)
none_some true s n m p r t e h = (refl, e, e, first_right n p (phase_mod n p r h ∙ t refl))
none_some false s n m p r t e h = (refl, refl, e, same_next n p r h)

some_none : (b : Bool) (s : Waveform) (n m p r : ℕ) → (b ≡ true → p % n ≡ 0) → m ≡ n → SamePhase n p r → Alike (renewed b s n m p) (Again s n None (r + 1))
some_none true s n m p r t e h = (refl, e, e, subst (λ x. SamePhase x 1 (r + 1)) (sym e) (first_left n r (sym (phase_mod n p r h) ∙ t refl)))
some_none false s n m p r t e h = (refl, refl, e, same_next n p r h)

some_some : (b : Bool) (s : Waveform) (n m k p r : ℕ) → m ≡ k → SamePhase n p r → Alike (renewed b s n m p) (renewed b s n k r)
some_some true s n m k p r e h = (refl, e, e, ((λ x. x), (λ x. x), refl))
some_some false s n m k p r e h = (refl, refl, e, same_next n p r h)

is_zero : (a : ℕ) → (a == 0) ≡ true → a ≡ 0
is_zero a h = grind (arith, nat_tests)

again_one : (s : Waveform) (n : ℕ) (a b : Option ℕ) (p r : ℕ) → next_of n a ≡ next_of n b → SamePhase n p r → Alike (one (Again s n a p)) (one (Again s n b r))
again_one s n None None p r e h = (refl, refl, refl, same_next n p r h)
again_one s n None (Some m) p r e h = none_some (r % n == 0) s n m p r (is_zero (r % n)) e h
again_one s n (Some m) None p r e h = some_none (p % n == 0) s n m p r (is_zero (p % n)) e h
again_one s n (Some m) (Some k) p r e h =
    subst (λ x. Alike (renewed (p % n == 0) s n m p) (renewed (x == 0) s n k r)) (phase_mod n p r h) (some_some (p % n == 0) s n m k p r e h)

once_same_one : (n p r : ℕ) → SameOnce n p r → SameOnce n (p + 1) (r + 1)
once_same_one n p r (inl e) = inl (ap (λ x. x + 1) e)
once_same_one n p r (inr (a, b, e)) =
    let x : p + 1 - 1 ≡ p = omega arith in
    let y : r + 1 - 1 ≡ r = omega arith in
    inr (omega arith, omega arith, ap (λ z. z % 65536) x ∙ (phase_mod_pos 65536 p r (omega arith) (omega arith) e ∙ sym (ap (λ z. z % 65536) y)))

pub alike_one : (a b : Progress) → Alike a b → Alike (one a) (one b)
alike_one (Still a) (Still b) h = h
alike_one (Once n p) (Once m r) (e, h) = (e, once_same_one n p r h)
alike_one (Again s n a p) (Again t m b r) (es, en, e, h) =
    subst (λ t. Alike (one (Again s n a p)) (one (Again t m b r))) es
    ((subst (λ m. next_of n a ≡ next_of m b → Alike (one (Again s n a p)) (one (Again s m b r))) en
    (λ e. again_one s n a b p r e h)) e)
alike_one (Still a) (Once m r) h = absurd h
alike_one (Still a) (Again t m b r) h = absurd h
alike_one (Once n p) (Still b) h = absurd h
alike_one (Once n p) (Again t m b r) h = absurd h
alike_one (Again s n a p) (Still b) h = absurd h
alike_one (Again s n a p) (Once m r) h = absurd h

pub wave_same : (s : Waveform) (n p r : ℕ) → SamePhase n p r → wave s n p ≡ wave s n r
wave_same s n zero r h = ap (wave s n) (sym (h.0 refl))
wave_same s n (suc p) zero h = absurd (let z : suc p ≡ 0 = h.1 refl in omega arith)
wave_same s n (suc p) (suc r) h = wave_at s n (suc p) (omega arith) ∙ (ap (out_at s n) h.2 ∙ sym (wave_at s n (suc r) (omega arith)))

once_high : (n p r : ℕ) → SameOnce n p r → ltb n p ≡ ltb n r
once_high n p r (inl e) = ap (ltb n) e
once_high n p r (inr (a, b, e)) = grind (arith, nat_tests)

pub alike_high : (a b : Progress) → Alike a b → is_high a ≡ is_high b
alike_high (Still a) (Still b) h = h
alike_high (Once n p) (Once m r) (e, h) = once_high n p r h ∙ ap (λ x. ltb x r) e
alike_high (Again s n a p) (Again t m b r) (es, en, e, h) = wave_same s n p r h ∙ (ap (λ x. wave x n r) es ∙ ap (λ x. wave t x r) en)
alike_high (Still a) (Once m r) h = absurd h
alike_high (Still a) (Again t m b r) h = absurd h
alike_high (Once n p) (Still b) h = absurd h
alike_high (Once n p) (Again t m b r) h = absurd h
alike_high (Again s n a p) (Still b) h = absurd h
alike_high (Again s n a p) (Once m r) h = absurd h

same_phase_trans : (n p q r : ℕ) → SamePhase n p q → SamePhase n q r → SamePhase n p r
same_phase_trans n p q r a b = ((λ h. b.0 (a.0 h)), (λ h. a.1 (b.1 h)), a.2 ∙ b.2)

same_once_trans : (n p q r : ℕ) → SameOnce n p q → SameOnce n q r → SameOnce n p r
same_once_trans n p q r (inl a) (inl b) = inl (a ∙ b)
same_once_trans n p q r (inl a) (inr (b, d, e)) = inr (omega arith, d, ap (λ x. (x - 1) % 65536) a ∙ e)
same_once_trans n p q r (inr (a, b, e)) (inl d) = inr (a, omega arith, e ∙ ap (λ x. (x - 1) % 65536) d)
same_once_trans n p q r (inr (a, b, e)) (inr (a', b', e')) = inr (a, b', e ∙ e')

pub alike_trans : (a b c : Progress) → Alike a b → Alike b c → Alike a c
alike_trans (Still a) (Still b) (Still c) h g = h ∙ g
alike_trans (Once n p) (Once m q) (Once k r) (e, h) (f, g) = (e ∙ f, same_once_trans n p q r h (subst (λ x. SameOnce x q r) (sym e) g))
alike_trans (Again s n a p) (Again t m b q) (Again u k c r) (es, en, e, h) (fs, fn, f, g) =
    (es ∙ fs, en ∙ fn, e ∙ f, same_phase_trans n p q r h (subst (λ x. SamePhase x q r) (sym en) g))
alike_trans (Still a) (Still b) (Once k r) h g = absurd g
alike_trans (Still a) (Still b) (Again u k c r) h g = absurd g
alike_trans (Once n p) (Once m q) (Still c) h g = absurd g
alike_trans (Once n p) (Once m q) (Again u k c r) h g = absurd g
alike_trans (Again s n a p) (Again t m b q) (Still c) h g = absurd g
alike_trans (Again s n a p) (Again t m b q) (Once k r) h g = absurd g
alike_trans (Still a) (Once m q) c h g = absurd h
alike_trans (Still a) (Again t m b q) c h g = absurd h
alike_trans (Once n p) (Still b) c h g = absurd h
alike_trans (Once n p) (Again t m b q) c h g = absurd h
alike_trans (Again s n a p) (Still b) c h g = absurd h
alike_trans (Again s n a p) (Once m q) c h g = absurd h

start_again : (n m p r : ℕ) → n ≡ m → SamePhase n p r → r % m ≡ 0 → p % n ≡ 0
start_again n m p r e h z = phase_mod n p r h ∙ (ap (λ x. r % x) e ∙ z)

pub start_same : (a b : Progress) → Alike a b → IsStartOf b → IsStartOf a
start_same (Still a) b h g = tt
start_same (Once n p) b h g = tt
start_same (Again s n a p) (Again t m b r) (es, en, e, h) g = start_again n m p r en h g
start_same (Again s n a p) (Still b) h g = absurd h
start_same (Again s n a p) (Once m r) h g = absurd h

part_again : (k n m x y p r : ℕ) → n ≡ m → x ≡ y → p % n ≡ r % n → ((r % m ≢ 0) × (r % m + k ≤ m)) ⊎ ((r % m ≡ 0) × ((k ≤ y) ⊎ (k % y ≡ 0))) → ((p % n ≢ 0) × (p % n + k ≤ n)) ⊎ ((p % n ≡ 0) × ((k ≤ x) ⊎ (k % x ≡ 0)))
part_again k n m x y p r en e h (inl (a, b)) =
    let z : p % n ≡ r % m = h ∙ ap (λ w. r % w) en in
    inl ((λ q. a (sym z ∙ q)), omega (arith, z, b, en))
part_again k n m x y p r en e h (inr (a, inl b)) = inr (h ∙ (ap (λ w. r % w) en ∙ a), inl (omega arith))
part_again k n m x y p r en e h (inr (a, inr b)) = inr (h ∙ (ap (λ w. r % w) en ∙ a), inr (ap (λ w. k % w) e ∙ b))

pub part_same : (k : ℕ) (a b : Progress) → Alike a b → IsPartOf k b → IsPartOf k a
part_same k (Still a) b h g = tt
part_same k (Once n p) b h g = tt
part_same k (Again s n a p) (Again t m b r) (es, en, e, h) g = part_again k n m (next_of n a) (next_of m b) p r en e (phase_mod n p r h) g
part_same k (Again s n a p) (Still b) h g = absurd h
part_same k (Again s n a p) (Once m r) h g = absurd h

same_once_sym : (n p r : ℕ) → SameOnce n p r → SameOnce n r p
same_once_sym n p r (inl e) = inl (sym e)
same_once_sym n p r (inr (a, b, e)) = inr (b, a, sym e)

pub alike_sym : (a b : Progress) → Alike a b → Alike b a
alike_sym (Still a) (Still b) h = sym h
alike_sym (Once n p) (Once m r) (e, h) = (sym e, subst (λ x. SameOnce x r p) e (same_once_sym n p r h))
alike_sym (Again s n a p) (Again t m b r) (es, en, e, h) = (sym es, sym en, sym e, subst (λ x. SamePhase x r p) en (h.1, h.0, sym h.2))
alike_sym (Still a) (Once m r) h = absurd h
alike_sym (Still a) (Again t m b r) h = absurd h
alike_sym (Once n p) (Still b) h = absurd h
alike_sym (Once n p) (Again t m b r) h = absurd h
alike_sym (Again s n a p) (Still b) h = absurd h
alike_sym (Again s n a p) (Once m r) h = absurd h

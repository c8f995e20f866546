-- A code joins the ring at the place after its last one.
use Rattle.std.proofs.Common.{◌≡◌, ◌≢◌, ℕ, zero, suc, ◌+◌, ◌%◌, ◌<◌, List, [], ◌∷◌, ◌++◌, length, refl, sym, ap, ◌∙◌, arith, slice_index, slice_set, true, nat_lt, Option}
use Rattle.std.specs.Prelude.{if◌then◌else◌}
use Rattle.std.proofs.lemmas.Bool.Decides.{nat_tests}
use Rattle.ppi_kbd.specs.Keyboard.{Keyboard, pressed}
use Rattle.std.proofs.lemmas.Grind.{common_steps}
use Rattle.ppi_kbd.specs.Ports.{ring}

index_same : (codes : List ℕ) (p v : ℕ) → p < length codes → slice_index (slice_set codes p v) p ≡ v
index_same codes p v h = grind (arith, common_steps)

index_other : (codes : List ℕ) (p q v : ℕ) → q ≢ p → slice_index (slice_set codes p v) q ≡ slice_index codes q
index_other codes p q v d = grind (arith, common_steps)

ring_last : (codes : List ℕ) (n first : ℕ) → first < 16 → ring codes first (suc n) ≡ ring codes first n ++ (slice_index codes ((first + n) % 16) ∷ [])
ring_last codes zero first h =
    let e : first ≡ (first + 0) % 16 = omega arith in
    ap (λ x. slice_index codes x ∷ []) e
ring_last codes (suc n) first h =
    let e : ((first + 1) % 16 + n) % 16 ≡ (first + suc n) % 16 = omega arith in
    ap (λ xs. slice_index codes first ∷ xs)
    (ring_last codes n ((first + 1) % 16) (omega arith) ∙ ap (λ x. ring codes ((first + 1) % 16) n ++ (slice_index codes x ∷ [])) e)

ring_kept : (codes : List ℕ) (p v n first : ℕ) → first < 16 → ((i : ℕ) → i < n → (first + i) % 16 ≢ p) → ring (slice_set codes p v) first n ≡ ring codes first n
ring_kept codes p v zero first h f = refl
ring_kept codes p v (suc n) first h f =
    let away : first ≢ p = λ e. f 0 (omega arith) (omega arith) in
    ap (λ x. x ∷ ring (slice_set codes p v) ((first + 1) % 16) n) (index_other codes p first v away)
    ∙ ap (λ xs. slice_index codes first ∷ xs)
    (ring_kept codes p v n ((first + 1) % 16) (omega arith) (λ i below e.
    let shifted : (first + suc i) % 16 ≡ ((first + 1) % 16 + i) % 16 = omega arith in
    f (suc i) (omega arith) (shifted ∙ e)))

pub ring_joined : (codes : List ℕ) (first n p v : ℕ) → length codes ≡ 16 → first < 16 → n < 16 → p ≡ (first + n) % 16 → ring (slice_set codes p v) first (n + 1) ≡ ring codes first n ++ (v ∷ [])
ring_joined codes first n p v whole h k e =
    let next : n + 1 ≡ suc n = omega arith in
    ap (ring (slice_set codes p v) first) next
    ∙ (ring_last (slice_set codes p v) n first h
    ∙ (ap (λ xs. xs ++ (slice_index (slice_set codes p v) ((first + n) % 16) ∷ [])) (ring_kept codes p v n first h (λ i below same. omega arith))
    ∙ ap (λ x. ring codes first n ++ (x ∷ [])) (ap (slice_index (slice_set codes p v)) (sym e) ∙ index_same codes p v (omega arith))))

pub ring_length : (codes : List ℕ) (n first : ℕ) → length (ring codes first n) ≡ n
ring_length codes zero first = refl
ring_length codes (suc n) first = ap suc (ring_length codes n ((first + 1) % 16))

less_test : (i : ℕ) → i < 16 → nat_lt i 16 ≡ true
less_test i h = grind (arith, nat_tests)

abbrev pub register_and : List ℕ → Option ℕ → Keyboard
register_and queue register = record { register = register; queue = queue }

-- the keyboard that it makes
pub joined : (register : Option ℕ) (codes : List ℕ) (first n p v : ℕ) → length codes ≡ 16 → first < 16 → n < 16 → p ≡ (first + n) % 16 → register_and (ring (slice_set codes p v) first (n + 1)) register ≡ pressed v (register_and (ring codes first n) register)
joined register codes first n p v whole h k e =
    let small : nat_lt (length (ring codes first n)) 16 ≡ true = ap (λ x. nat_lt x 16) (ring_length codes n first) ∙ less_test n k in
    ap (λ q. register_and q register) (ring_joined codes first n p v whole h k e)
    ∙ sym (ap (λ b. register_and (if b then ring codes first n ++ (v ∷ []) else ring codes first n) register) small)

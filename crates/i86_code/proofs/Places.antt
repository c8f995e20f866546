-- An address byte with its displacement that is read is the one that was written, and what was written is read again.
use Rattle.std.proofs.lemmas.Option.{same_Some}
use Rattle.std.proofs.Common.{◌≡◌, ℕ, zero, suc, ◌<◌, ◌+◌, ◌*◌, ◌/◌, ◌%◌, ◌^◌, Bool, true, false, cond, Option, Some, None, List, [], ◌∷◌, ◌++◌, refl, sym, ap, ◌∙◌, subst, arith, inl, inr, nat_eq}
use Rattle.std.proofs.lemmas.Bool.{ne_eqb}
use Rattle.std.proofs.lemmas.Bool.Decides.{eqb_tells}
use Rattle.std.specs.Prelude.{option_map}
use Rattle.i86_table.specs.declared.instruction.Base.{Base}
use Rattle.i86_table.specs.declared.instruction.Base.TheVariants as bases
use Rattle.i86_code.specs.declared.form.RegisterOrMemory.{RegisterOrMemory}
use Rattle.i86_code.specs.declared.form.RegisterOrMemory.TheVariants.{Register, Indirect, Direct, Near, Far}
use Rattle.i86_code.specs.Forms.{base_code, word_bytes, place_bytes, IsPlace}
use Rattle.i86_code.specs.Reading.{base_at, word_at, memory_at, place_at, then_read}
use Rattle.i86_code.specs.Coding.{AreBytes}

pub IsBytes-rest : (b : ℕ) (bytes : List ℕ) → AreBytes (b ∷ bytes) → AreBytes bytes
IsBytes-rest b bytes h i = h (suc i)

pub base_again : (b : Base) → base_at (base_code b) ≡ b
base_again bases.BxSi = refl
base_again bases.BxDi = refl
base_again bases.BpSi = refl
base_again bases.BpDi = refl
base_again bases.Si = refl
base_again bases.Di = refl
base_again bases.Bp = refl
base_again bases.Bx = refl

pub base_code_fits : (b : Base) → base_code b < 8
base_code_fits bases.BxSi = omega arith
base_code_fits bases.BxDi = omega arith
base_code_fits bases.BpSi = omega arith
base_code_fits bases.BpDi = omega arith
base_code_fits bases.Si = omega arith
base_code_fits bases.Di = omega arith
base_code_fits bases.Bp = omega arith
base_code_fits bases.Bx = omega arith

pub base_found : (n : ℕ) → n < 8 → base_code (base_at n) ≡ n
base_found zero h = refl
base_found (suc zero) h = refl
base_found (suc (suc zero)) h = refl
base_found (suc (suc (suc zero))) h = refl
base_found (suc (suc (suc (suc zero)))) h = refl
base_found (suc (suc (suc (suc (suc zero))))) h = refl
base_found (suc (suc (suc (suc (suc (suc zero)))))) h = refl
base_found (suc (suc (suc (suc (suc (suc (suc zero))))))) h = refl
base_found (suc (suc (suc (suc (suc (suc (suc (suc n)))))))) h = absurd (omega arith)

pub halves : (n : ℕ) → n % 256 + 256 * (n / 256) ≡ n
halves n = omega arith

pub word_again : (n : ℕ) (rest : List ℕ) → word_at (word_bytes n ++ rest) ≡ Some (n, rest)
word_again n rest = let e : n % 256 + 256 * (n / 256) ≡ n = omega arith in ap (λ (m : ℕ). Some (m, rest)) e

pub word_found : (bytes : List ℕ) (n : ℕ) (rest : List ℕ) → AreBytes bytes → word_at bytes ≡ Some (n, rest) → (bytes ≡ word_bytes n ++ rest) × (n < 2 ^ 16) × AreBytes rest
word_found [] n rest h e = absurd cc
word_found (a ∷ []) n rest h e = absurd cc
word_found (a ∷ b ∷ t) n rest h e =
    let low : a < 256 = h 0 in
    let high : b < 256 = h 1 in
    let p = same_Some (a + 256 * b, t) (n, rest) e in
    let n-is : a + 256 * b ≡ n = ap (λ (x : ℕ × List ℕ). x.0) p in
    let rest-is : t ≡ rest = ap (λ (x : ℕ × List ℕ). x.1) p in
    let a-is : n % 256 ≡ a = omega arith in
    let b-is : n / 256 ≡ b = omega arith in
    (rw (a-is, b-is, rest-is) refl, omega arith, subst AreBytes rest-is (λ i. h (suc (suc i))))

-- an address byte's three parts
address_again : (m r c : ℕ) (rest : List ℕ) → r < 8 → c < 8 → place_at ((64 * m + 8 * r + c) ∷ rest) ≡ option_map (λ x. (r, x.0, x.1)) (memory_at m c rest)
unfolding place_at
address_again m r c rest hr hc =
    let b = 64 * m + 8 * r + c in
    let mode : b / 64 ≡ m = omega arith in
    let register : b / 8 % 8 ≡ r = omega arith in
    let code : b % 8 ≡ c = omega arith in
    rw (mode, register, code) refl

at_mode : (b m r c : ℕ) (rest : List ℕ) → b ≡ 64 * m + 8 * r + c → r < 8 → c < 8 → place_at (b ∷ rest) ≡ option_map (λ x. (r, x.0, x.1)) (memory_at m c rest)
at_mode b m r c rest e hr hc = rw e (address_again m r c rest hr hc)

pub place_again : (r : ℕ) (p : RegisterOrMemory) (rest : List ℕ) → r < 8 → IsPlace p → place_at (place_bytes r p ++ rest) ≡ Some (r, p, rest)
place_again r (Register code) rest hr hp = at_mode _ 3 r code rest (omega arith) hr hp ∙ refl
place_again r (Indirect base) rest hr hp =
    let not_six : nat_eq (base_code base) 6 ≡ false = ne_eqb _ _ hp in
    at_mode _ 0 r (base_code base) rest (omega arith) hr (base_code_fits base) ∙ rw (base_again base, not_six) refl
place_again r (Direct offset) rest hr hp = at_mode _ 0 r 6 (word_bytes offset ++ rest) (omega arith) hr (omega arith) ∙ rw (halves offset) refl
place_again r (Near base d) rest hr hp = at_mode _ 1 r (base_code base) (d ∷ rest) (omega arith) hr (base_code_fits base) ∙ rw (base_again base) refl
place_again r (Far base d) rest hr hp = at_mode _ 2 r (base_code base) (word_bytes d ++ rest) (omega arith) hr (base_code_fits base) ∙ rw (halves d, base_again base) refl

pub not_chosen : {A : Type 0} (b : Bool) (x y z : A) → b ≡ false → cond b x y ≡ z → y ≡ z
not_chosen true x y z f e = absurd cc
not_chosen false x y z f e = e

-- what a mode and a code with the bytes after them are read as spells them
record Spells (first : ℕ → ℕ) (rest : List ℕ) (p : RegisterOrMemory) (after : List ℕ) : Type 0 where
  pub spelling : (r : ℕ) → first r ∷ rest ≡ place_bytes r p ++ after
  pub fits : IsPlace p
  pub bytes : AreBytes after

spells_same : (first : ℕ → ℕ) (rest : List ℕ) (x y : RegisterOrMemory × List ℕ) → Some x ≡ Some y → Spells first rest x.0 x.1 → Spells first rest y.0 y.1
spells_same first rest x y e s = subst (λ (z : RegisterOrMemory × List ℕ). Spells first rest z.0 z.1) (same_Some x y e) s

memory_found : (m c : ℕ) (rest : List ℕ) (p : RegisterOrMemory) (after : List ℕ) → m < 4 → c < 8 → AreBytes rest → memory_at m c rest ≡ Some (p, after) → Spells (λ r. 64 * m + 8 * r + c) rest p after
memory_found zero c rest p after hm hc h e =
    elim (eqb_tells c 6) [
      | inl six ↦ direct_found c rest p after six.1 h (rw six.0 at e)
      | inr other ↦ spells_same _ rest (Indirect (base_at c), rest) (p, after) (not_chosen (nat_eq c 6) _ _ _ other.0 e)
          (record { spelling = λ r. rw (base_found c hc) (ap (λ (n : ℕ). n ∷ rest) (omega arith)); fits = rw (base_found c hc) other.1; bytes = h })
    ]
  where
    direct_found : (c : ℕ) (rest : List ℕ) (p : RegisterOrMemory) (after : List ℕ) → c ≡ 6 → AreBytes rest → then_read {B = RegisterOrMemory × List ℕ} (word_at rest) (λ n z. Some (Direct n, z)) ≡ Some (p, after) → Spells (λ r. 64 * 0 + 8 * r + c) rest p after
    direct_found c [] p after six h e = absurd cc
    direct_found c (a ∷ []) p after six h e = absurd cc
    direct_found c (a ∷ b ∷ t) p after six h e =
        let w = word_found (a ∷ b ∷ t) (a + 256 * b) t h refl in
        spells_same _ (a ∷ b ∷ t) (Direct (a + 256 * b), t) (p, after) e
        (record { spelling = λ r. rw six (ap (λ (n : ℕ). n ∷ (a ∷ b ∷ t)) (omega arith) ∙ ap (λ (bs : List ℕ). (8 * r + 6) ∷ bs) w.0); fits = w.1; bytes = w.2 })
memory_found (suc zero) c [] p after hm hc h e = absurd cc
memory_found (suc zero) c (d ∷ t) p after hm hc h e =
    spells_same _ (d ∷ t) (Near (base_at c) d, t) (p, after) e
    (record { spelling = λ r. rw (base_found c hc) (ap (λ (n : ℕ). n ∷ (d ∷ t)) (omega arith)); fits = h 0; bytes = IsBytes-rest d t h })
memory_found (suc (suc zero)) c [] p after hm hc h e = absurd cc
memory_found (suc (suc zero)) c (a ∷ []) p after hm hc h e = absurd cc
memory_found (suc (suc zero)) c (a ∷ b ∷ t) p after hm hc h e =
    let w = word_found (a ∷ b ∷ t) (a + 256 * b) t h refl in
    spells_same _ (a ∷ b ∷ t) (Far (base_at c) (a + 256 * b), t) (p, after) e
    (record { spelling = λ r. rw (base_found c hc) (ap (λ (n : ℕ). n ∷ (a ∷ b ∷ t)) (omega arith) ∙ ap (λ (bs : List ℕ). (128 + 8 * r + c) ∷ bs) w.0); fits = w.1; bytes = w.2 })
memory_found (suc (suc (suc zero))) c rest p after hm hc h e =
    spells_same _ rest (Register c, rest) (p, after) e
    (record { spelling = λ r. ap (λ (n : ℕ). n ∷ rest) (omega arith); fits = hc; bytes = h })
memory_found (suc (suc (suc (suc m)))) c rest p after hm hc h e = absurd (omega arith)

-- what is read as a place is its bytes
pub record Found (source : List ℕ) (r : ℕ) (p : RegisterOrMemory) (after : List ℕ) : Type 0 where
  pub spelling : source ≡ place_bytes r p ++ after
  pub register : r < 8
  pub fits : IsPlace p
  pub bytes : AreBytes after

option_map_some : {A B : Type 0} (f : A → B) (o : Option A) (y : B) → option_map f o ≡ Some y → (x : A) × (o ≡ Some x) × (f x ≡ y)
option_map_some f None y e = absurd cc
option_map_some f (Some x) y e = (x, refl, same_Some _ _ e)

pub place_found : (bytes : List ℕ) (r : ℕ) (p : RegisterOrMemory) (after : List ℕ) → AreBytes bytes → place_at bytes ≡ Some (r, p, after) → Found bytes r p after
unfolding place_at
place_found [] r p after h e = absurd cc
place_found (b ∷ rest) r p after h e =
    let m = option_map_some (λ (x : RegisterOrMemory × List ℕ). (b / 8 % 8, x.0, x.1)) (memory_at (b / 64) (b % 8) rest) (r, p, after) e in
    let fits : b < 256 = h 0 in
    let s = memory_found (b / 64) (b % 8) rest m.0.0 m.0.1 (omega arith) (omega arith) (IsBytes-rest b rest h) m.1 in
    let whole : 64 * (b / 64) + 8 * (b / 8 % 8) + b % 8 ≡ b = omega arith in
    subst (λ (x : ℕ × RegisterOrMemory × List ℕ). Found (b ∷ rest) x.0 x.1 x.2) m.2
    (record { spelling = ap (λ (n : ℕ). n ∷ rest) (sym whole) ∙ s.spelling (b / 8 % 8); register = omega arith; fits = s.fits; bytes = s.bytes })

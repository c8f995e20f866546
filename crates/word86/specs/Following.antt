-- How the contexts of one layer stand for those of the layer above: for as many steps as one likes, whatever happens
-- to what is shared between two of them.
use Rattle.std.specs.Prelude.{◌≡◌, ℕ, zero, suc, ◌≤◌, ◌<◌, ◌⊎◌, Bool, true, false}
use Rattle.word86.specs.Action.{Action, IsBad, Silent, Touch, Enable, Disable, Halt, Over, Bad}

-- lower steps without an upper one: j silent upper steps come with this one, of f that may come without one g are left
abbrev pub Paid : ℕ → ℕ → ℕ → ℕ → Type 0
Paid limit f zero g = suc g ≤ f
Paid limit f (suc j) g = g ≤ limit

module _ (A : Type 0) (answers : A → ℕ) (R : Type 0) (next : R → Action A R) where
  -- from one rest to another by j silent steps
  abbrev pub Quiet : ℕ → R → R → Type 0
  Quiet zero r q = r ≡ q
  Quiet (suc j) r q = (p : R) × (next r ≡ Silent p) × Quiet j p q

  module _ (I : Type 0) (does : I → Action A I) (limit most : ℕ) where
    abbrev pub Pairs : (ℕ → R → I → Type 0) → ℕ → ℕ → R → Action A I → Type 0
    Pairs P f j r (Silent i) = (g : ℕ) × Paid limit f j g × P g r i
    Pairs P f j r (Touch a k) = (q : ℕ → R) × (next r ≡ Touch a q) × ((v : ℕ) → v < answers a → P limit (q v) (k v))
    Pairs P f j r (Enable i) = (q : R) × (next r ≡ Enable q) × P limit q i
    Pairs P f j r (Disable i) = (q : R) × (next r ≡ Disable q) × P limit q i
    Pairs P f j r (Halt i) = (q : R) × (next r ≡ Halt q) × P limit q i
    Pairs P f j r Over = next r ≡ Over
    Pairs P f j r (Bad module_index line) = ⊥

    -- For n of its steps the code's context tracks the rest up to the rest's first Bad step. At most f of its steps come
    -- before the rest's next one, at most limit between two, and at most `most` silent ones of the rest with one.
    abbrev pub Tracks : ℕ → ℕ → R → I → Type 0
    Tracks zero f r i = Unit {0}
    Tracks (suc n) f r i = (j : ℕ) × (q : R) × Quiet j r q × (IsBad (next q) ⊎ Pairs (Tracks n) f j q (does i)) × (j ≤ most)

-- what a context's next instruction does: an action, or it turns interrupts on from the next instruction on
pub data Offer (A C : Type 0) : Type 0 where
  Does : Action A C → Offer A C
  Arms : C → Offer A C

module _ (A : Type 0) (answers : A → ℕ) (R : Type 0) (next : R → Action A R) (C : Type 0) (offer : C → Offer A C) (limit most : ℕ) where
  -- after STI: the NOP of an ENABLE, or the HLT of a HALT
  abbrev pub Switch : (R → C → Type 0) → R → Offer A C → Type 0
  Switch P r (Does (Enable c)) = (q : R) × (next r ≡ Enable q) × P q c
  Switch P r (Does (Halt c)) = (q : R) × (next r ≡ Halt q) × P q c
  Switch P r _ = ⊥

  abbrev pub Meets : Bool → (ℕ → R → C → Type 0) → ℕ → ℕ → R → Offer A C → Type 0
  Meets main P f j r (Does (Silent c)) = (g : ℕ) × Paid limit f j g × P g r c
  Meets main P f j r (Does (Touch a k)) = (q : ℕ → R) × (next r ≡ Touch a q) × ((v : ℕ) → v < answers a → P limit (q v) (k v))
  Meets main P f j r (Does (Disable c)) = (q : R) × (next r ≡ Disable q) × P limit q c
  Meets false P f j r (Does Over) = next r ≡ Over
  Meets true P f j r (Arms c) = (g : ℕ) × Paid limit f j g × Switch (P limit) r (offer c)
  Meets _ P f j r _ = ⊥

  -- For n instructions the context follows the rest, as far as the rest's first Bad step; an interrupt procedure has no
  -- STI, and main is never used up.
  abbrev pub Follows : Bool → ℕ → ℕ → R → C → Type 0
  Follows main zero f r c = Unit {0}
  Follows main (suc n) f r c = (j : ℕ) × (q : R) × Quiet A answers R next j r q × (IsBad (next q) ⊎ Meets main (Follows main n) f j q (offer c)) × (j ≤ most)

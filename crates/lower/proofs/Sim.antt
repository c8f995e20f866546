-- Steps of code and rest, one after another.
use Rattle.std.proofs.Common.{◌≡◌, ℕ, zero, suc, ◌+◌, ◌<◌, ◌≤◌, ◌⊎◌, ⊎_elim, inl, inr, refl, sym, subst, arith}
use Rattle.word86.specs.Access.{Access, answers}
use Rattle.word86.specs.Action.{Action, Silent, Touch, Enable, Disable, Halt, Over, Bad, IsBad}
use Rattle.word86.specs.Following.{Quiet, Pairs, Tracks}
use Rattle.plm_type.specs.Rest.{Rest}
use Rattle.plm_type.specs.Next.{next}
use Rattle.icode.specs.Machine.{Context, does}
use Rattle.lower.proofs.Setting.{Setting}

module _ (x : Setting) where
  abbrev pub N : Rest → Action Access Rest
  N = next x.offsets x.sizes x.procedures

  abbrev pub X : Context → Action Access Context
  X = does x.offsets x.sizes x.code

  -- at most two instructions without a step
  abbrev pub T : ℕ → ℕ → Rest → Context → Type 0
  T = Tracks Access answers Rest (next x.offsets x.sizes x.procedures) Context (does x.offsets x.sizes x.code) 2 x.most

  abbrev P : (ℕ → Rest → Context → Type 0) → ℕ → ℕ → Rest → Action Access Context → Type 0
  P = Pairs Access answers Rest (next x.offsets x.sizes x.procedures) Context (does x.offsets x.sizes x.code) 2 x.most

  -- with at most m silent steps before the first instruction's
  abbrev pub S : ℕ → ℕ → ℕ → Rest → Context → Type 0
  S m zero f r i = Unit {0}
  S m (suc n) f r i = (j : ℕ) × (q : Rest) × Quiet Access answers Rest N j r q × (IsBad (N q) ⊎ P (T n) f j q (X i)) × (j ≤ m)

  weaker : (A B : ℕ → Rest → Context → Type 0) → ((f : ℕ) (r : Rest) (i : Context) → A f r i → B f r i) → (f g j : ℕ) → f ≤ g → (r : Rest) (a : Action Access Context) → P A f j r a → P B g j r a
  weaker A B to f g zero le r (Silent i) h = (h.0, omega (arith, h.1, le), to h.0 r i h.2)
  weaker A B to f g (suc j) le r (Silent i) h = (h.0, h.1, to h.0 r i h.2)
  weaker A B to f g j le r (Touch a k) h = (h.0, h.1, λ v lt. to 2 (h.0 v) (k v) (h.2 v lt))
  weaker A B to f g j le r (Enable i) h = (h.0, h.1, to 2 h.0 i h.2)
  weaker A B to f g j le r (Disable i) h = (h.0, h.1, to 2 h.0 i h.2)
  weaker A B to f g j le r (Halt i) h = (h.0, h.1, to 2 h.0 i h.2)
  weaker A B to f g j le r Over h = h
  weaker A B to f g j le r (Bad m l) h = h

  less : (n f : ℕ) (r : Rest) (i : Context) → T (suc n) f r i → T n f r i
  less zero f r i h = tt
  less (suc n) f r i h = (h.0, h.1, h.2, ⊎_elim (λ b. inl b) (λ p. inr (weaker (T (suc n)) (T n) (less n) f f h.0 (omega arith) h.1 (X i) p)) h.3, h.4)

  -- fewer steps
  pub fewer : (m n f : ℕ) (r : Rest) (i : Context) → S m (suc n) f r i → S m n f r i
  fewer m zero f r i h = tt
  fewer m (suc n) f r i h = (h.0, h.1, h.2, ⊎_elim (λ b. inl b) (λ p. inr (weaker (T (suc n)) (T n) (less n) f f h.0 (omega arith) h.1 (X i) p)) h.3, h.4)

  -- more leave
  pub eased : (m k n f g : ℕ) (r : Rest) (i : Context) → m ≤ k → f ≤ g → S m n f r i → S k n g r i
  eased m k zero f g r i a b h = tt
  eased m k (suc n) f g r i a b h = (h.0, h.1, h.2, ⊎_elim (λ x. inl x) (λ p. inr (weaker (T n) (T n) (λ f r i x. x) f g h.0 b h.1 (X i) p)) h.3, omega (arith, h.4, a))

  pub tracked : (m n f g : ℕ) (r : Rest) (i : Context) → m ≤ x.most → f ≤ g → S m n f r i → T n g r i
  tracked m zero f g r i a b h = tt
  tracked m (suc n) f g r i a b h = (h.0, h.1, h.2, ⊎_elim (λ x. inl x) (λ p. inr (weaker (T n) (T n) (λ f r i x. x) f g h.0 b h.1 (X i) p)) h.3, omega (arith, h.4, a))

  -- what can stand at an expression's or a statement's end may follow an instruction
  pub then_ : (m n f g : ℕ) (r : Rest) (i : Context) → m ≤ x.room + 5 → f ≤ g → S m n f r i → T n g r i
  then_ m n f g r i a b h = tracked m n f g r i (omega (arith, a, x.big)) b h

  more : (f j : ℕ) → f ≤ 2 → (A : ℕ → Rest → Context → Type 0) (r : Rest) (a : Action Access Context) → P A f j r a → P A f (suc j) r a
  more f zero le A r (Silent i) h = (h.0, omega (arith, h.1, le), h.2)
  more f (suc j) le A r (Silent i) h = h
  more f j le A r (Touch a k) h = h
  more f j le A r (Enable i) h = h
  more f j le A r (Disable i) h = h
  more f j le A r (Halt i) h = h
  more f j le A r Over h = h
  more f j le A r (Bad m l) h = h

  -- the rest makes a silent step
  pub up : (m n f : ℕ) → f ≤ 2 → (r q : Rest) (i : Context) → N r ≡ Silent q → S m n f q i → S (suc m) n f r i
  up m zero f le r q i e h = tt
  up m (suc n) f le r q i e h = (suc h.0, h.1, (q, e, h.2), ⊎_elim (λ b. inl b) (λ p. inr (more f h.0 le (T n) h.1 (X i) p)) h.3, omega (arith, h.4))

  freed : (f g j : ℕ) → g ≤ 2 → (A : ℕ → Rest → Context → Type 0) (r : Rest) (a : Action Access Context) → P A g j r a → P A f (suc j) r a
  freed f g zero le A r (Silent i) h = (h.0, omega (arith, h.1, le), h.2)
  freed f g (suc j) le A r (Silent i) h = h
  freed f g j le A r (Touch a k) h = h
  freed f g j le A r (Enable i) h = h
  freed f g j le A r (Disable i) h = h
  freed f g j le A r (Halt i) h = h
  freed f g j le A r Over h = h
  freed f g j le A r (Bad m l) h = h

  -- the rest makes a silent step, with which the first instruction goes
  pub up_free : (m n f g : ℕ) → g ≤ 2 → (r q : Rest) (i : Context) → N r ≡ Silent q → S m n g q i → S (suc m) n f r i
  up_free m zero f g le r q i e h = tt
  up_free m (suc n) f g le r q i e h = (suc h.0, h.1, (q, e, h.2), ⊎_elim (λ b. inl b) (λ p. inr (freed f g h.0 le (T n) h.1 (X i) p)) h.3, omega (arith, h.4))

  at : (m n f : ℕ) (r : Rest) (i : Context) (a : Action Access Context) → X i ≡ a → P (T n) f zero r a → S m (suc n) f r i
  at m n f r i a e h = (zero, r, refl, inr (subst (λ y. P (T n) f zero r y) (sym e) h), omega arith)

  -- the code makes a step of its own
  pub down_more : (m n f : ℕ) (r : Rest) (i d : Context) → X i ≡ Silent d → T n f r d → S m (suc n) (suc f) r i
  down_more m n f r i d e h = at m n (suc f) r i (Silent d) e (f, omega arith, h)

  pub down : (m n f : ℕ) (r : Rest) (i d : Context) → X i ≡ Silent d → T n f r d → S m n (suc f) r i
  down m zero f r i d e h = tt
  down m (suc n) f r i d e h = down_more m n f r i d e (less n f r d h)

  -- both make a silent step
  pub both_more : (m n f : ℕ) (r q : Rest) (i d : Context) → N r ≡ Silent q → X i ≡ Silent d → T n 2 q d → S (suc m) (suc n) f r i
  both_more m n f r q i d u e h = (1, q, (q, u, refl), inr (subst (λ a. P (T n) f 1 q a) (sym e) (2, omega arith, h)), omega arith)

  pub both : (m n f : ℕ) (r q : Rest) (i d : Context) → N r ≡ Silent q → X i ≡ Silent d → T n 2 q d → S (suc m) n f r i
  both m zero f r q i d u e h = tt
  both m (suc n) f r q i d u e h = both_more m n f r q i d u e (less n 2 q d h)

  pub bad : (m n f : ℕ) (r : Rest) (i : Context) (k l : ℕ) → N r ≡ Bad k l → S m n f r i
  bad m zero f r i k l e = tt
  bad m (suc n) f r i k l e = (zero, r, refl, inl (subst (λ a. IsBad a) (sym e) tt), omega arith)

  pub touches : (m n f : ℕ) (a : Access) (r : Rest) (q : ℕ → Rest) (i : Context) (k : ℕ → Context) → N r ≡ Touch a q → X i ≡ Touch a k → ((v : ℕ) → v < answers a → T n 2 (q v) (k v)) → S m n f r i
  touches m zero f a r q i k u e h = tt
  touches m (suc n) f a r q i k u e h = at m n f r i (Touch a k) e (q, u, λ v lt. less n 2 (q v) (k v) (h v lt))

  pub touches_more : (m n f : ℕ) (a : Access) (r : Rest) (q : ℕ → Rest) (i : Context) (k : ℕ → Context) → N r ≡ Touch a q → X i ≡ Touch a k → ((v : ℕ) → v < answers a → T n 2 (q v) (k v)) → S m (suc n) f r i
  touches_more m n f a r q i k u e h = at m n f r i (Touch a k) e (q, u, h)

  pub enables : (m n f : ℕ) (r q : Rest) (i d : Context) → N r ≡ Enable q → X i ≡ Enable d → T n 2 q d → S m n f r i
  enables m zero f r q i d u e h = tt
  enables m (suc n) f r q i d u e h = at m n f r i (Enable d) e (q, u, less n 2 q d h)

  pub disables : (m n f : ℕ) (r q : Rest) (i d : Context) → N r ≡ Disable q → X i ≡ Disable d → T n 2 q d → S m n f r i
  disables m zero f r q i d u e h = tt
  disables m (suc n) f r q i d u e h = at m n f r i (Disable d) e (q, u, less n 2 q d h)

  pub halts_more : (m n f : ℕ) (r q : Rest) (i d : Context) → N r ≡ Halt q → X i ≡ Halt d → T n 2 q d → S m (suc n) f r i
  halts_more m n f r q i d u e h = at m n f r i (Halt d) e (q, u, h)

  pub halts : (m n f : ℕ) (r q : Rest) (i d : Context) → N r ≡ Halt q → X i ≡ Halt d → T n 2 q d → S m n f r i
  halts m zero f r q i d u e h = tt
  halts m (suc n) f r q i d u e h = halts_more m n f r q i d u e (less n 2 q d h)

  pub ends : (m n f : ℕ) (r : Rest) (i : Context) → N r ≡ Over → X i ≡ Over → S m n f r i
  ends m zero f r i u e = tt
  ends m (suc n) f r i u e = at m n f r i Over e u

-- What a routine needs along its instructions, met by met.
use Rattle.std.proofs.Common.{◌≡◌, ℕ, zero, suc, ◌+◌, ◌≤◌, ◌<◌, max, List, [], ◌∷◌, length, take, drop, Some, slice_get, refl, sym, ap, ◌∙◌, subst, arith, ◌⊎◌, inl, inr}
use Rattle.std.specs.Prelude.{slice_index_or}
use Rattle.std.proofs.Common.{drop-cons}
use Rattle.std.proofs.lemmas.Bool.{cases_lt}
use Rattle.std.proofs.Math.Nat.{le-max_left}
use Rattle.std.proofs.lemmas.Option.{none-some, same_Some}
use Rattle.icode.specs.declared.instruction.Instruction.{Instruction}
use Rattle.icode.specs.declared.instruction.Instruction.TheVariants as op
use Rattle.icode.specs.declared.instruction.LowByte.TheVariants as lows
use Rattle.icode.specs.declared.instruction.Right.TheVariants as rights
use Rattle.icode.specs.declared.registers.Registers.{Registers}
use Rattle.icode.specs.Heights.{after, behind}
use Rattle.icode.specs.Registers.{joined, changes}
use Rattle.frames.specs.declared.need.Need.{Need}
use Rattle.frames.specs.Inner.Need.{nothing, both, met, need}
use Rattle.frames.proofs.Registers.{joined_parts, joined_none, has_left, has_right, has_self, has_through, has_both}

max_parts : (a b c : ℕ) → max (max a b) c ≡ max a (max b c)
max_parts a b c = omega arith

needs_same : (x y : Need) → x.words ≡ y.words → x.registers ≡ y.registers → x ≡ y
needs_same x y a b = ap (λ v. record x { words = v }) a ∙ ap (λ v. record y { registers = v }) b

pub both_parts : (x y z : Need) → both (both x y) z ≡ both x (both y z)
both_parts x y z = needs_same (both (both x y) z) (both x (both y z)) (max_parts x.words y.words z.words) (joined_parts x.registers y.registers z.registers)

pub both_nothing : (x : Need) → both nothing x ≡ x
both_nothing x = needs_same (both nothing x) x (omega arith) refl

met_height : (t : ℕ → Need) (x : Instruction) (h : ℕ) → h ≤ (met t x h).words
met_height t (op.Invoke q) h = omega arith
met_height t _ h = omega arith

at_most : (a b c : ℕ) → a ≤ b → a ≤ max c b
at_most a b c e = omega (arith, e)

module _ (t : ℕ → Need) where
  pub heights : (h : ℕ) (xs : List Instruction) (k : ℕ) → behind h (take k xs) ≤ (need t h xs).words
  heights h [] zero = omega arith
  heights h [] (suc k) = omega arith
  heights h (x ∷ xs) zero = omega (arith, met_height t x h, le-max_left (met t x h).words (need t (after x h) xs).words)
  heights h (x ∷ xs) (suc k) = at_most _ _ _ (heights (after x h) xs k)

  pub calls : (h : ℕ) (xs : List Instruction) (k q : ℕ) → slice_get xs k ≡ Some (op.Invoke q) → behind h (take k xs) + 1 + (t q).words ≤ (need t h xs).words
  calls h [] k q e = absurd (none-some _ e)
  calls h (x ∷ xs) zero q e = subst (λ y. h + 1 + (t q).words ≤ (need t h (y ∷ xs)).words) (sym (same_Some x (op.Invoke q) e)) (le-max_left _ _)
  calls h (x ∷ xs) (suc k) q e = at_most _ _ _ (calls (after x h) xs k q e)

  -- the words are those at some place, or at some call with those of the callee
  abbrev pub Attained : ℕ → List Instruction → ℕ → Type 0
  Attained h xs m = ((k : ℕ) × (behind h (take k xs) ≡ m)) ⊎ ((k : ℕ) × (q : ℕ) × (slice_get xs k ≡ Some (op.Invoke q)) × (behind h (take k xs) + 1 + (t q).words ≡ m))

  here : (x : Instruction) (h : ℕ) (xs : List Instruction) (m : ℕ) → (met t x h).words ≡ m → Attained h (x ∷ xs) m
  here (op.Invoke q) h xs m e = inr (0, q, refl, e)
  here _ h xs m e = inl (0, e)

  further : (x : Instruction) (h : ℕ) (xs : List Instruction) (m : ℕ) → Attained (after x h) xs m → Attained h (x ∷ xs) m
  further x h xs m (inl a) = inl (suc a.0, a.1)
  further x h xs m (inr a) = inr (suc a.0, a.1, a.2, a.3)

  larger_by : (a b : ℕ) → (a < b) ⊎ (b ≤ a) → (max a b ≡ a) ⊎ (max a b ≡ b)
  larger_by a b (inl h) = inr (omega (arith, h))
  larger_by a b (inr h) = inl (omega (arith, h))

  larger : (a b : ℕ) → (max a b ≡ a) ⊎ (max a b ≡ b)
  larger a b = larger_by a b (cases_lt a b)

  of_either : (x : Instruction) (h : ℕ) (xs : List Instruction) (a b : ℕ) → (max a b ≡ a) ⊎ (max a b ≡ b) → (met t x h).words ≡ a → Attained (after x h) xs b → Attained h (x ∷ xs) (max a b)
  of_either x h xs a b (inl e) f g = here x h xs (max a b) (f ∙ sym e)
  of_either x h xs a b (inr e) f g = subst (Attained h (x ∷ xs)) (sym e) (further x h xs b g)

  pub attained : (h : ℕ) (xs : List Instruction) → Attained h xs (need t h xs).words
  attained h [] = inl (0, refl)
  attained h (x ∷ xs) = of_either x h xs (met t x h).words (need t (after x h) xs).words (larger _ _) refl (attained (after x h) xs)

  met_changes : (x : Instruction) (h : ℕ) → joined (met t x h).registers (changes x) ≡ (met t x h).registers
  met_changes (op.Invoke q) h = joined_none (t q).registers
  met_changes x h = has_self (changes x)

  pub has_changes : (h : ℕ) (xs : List Instruction) (k : ℕ) (x : Instruction) → slice_get xs k ≡ Some x → joined (need t h xs).registers (changes x) ≡ (need t h xs).registers
  has_changes h [] k x e = absurd (none-some x e)
  has_changes h (y ∷ xs) zero x e =
      let m = (met t y h).registers in
      let r = (need t (after y h) xs).registers in
      subst (λ z. joined (joined m r) (changes z) ≡ joined m r) (same_Some y x e) (has_through (joined m r) m (changes y) (has_left m r) (met_changes y h))
  has_changes h (y ∷ xs) (suc k) x e =
      let m = (met t y h).registers in
      let r = (need t (after y h) xs).registers in
      has_through (joined m r) r (changes x) (has_right m r) (has_changes (after y h) xs k x e)

  pub has_callees : (h : ℕ) (xs : List Instruction) (k q : ℕ) → slice_get xs k ≡ Some (op.Invoke q) → joined (need t h xs).registers (t q).registers ≡ (need t h xs).registers
  has_callees h [] k q e = absurd (none-some _ e)
  has_callees h (y ∷ xs) zero q e =
      subst (λ z. joined (need t h (z ∷ xs)).registers (t q).registers ≡ (need t h (z ∷ xs)).registers) (sym (same_Some y (op.Invoke q) e)) (has_left (t q).registers (need t (after (op.Invoke q) h) xs).registers)
  has_callees h (y ∷ xs) (suc k) q e =
      let m = (met t y h).registers in
      let r = (need t (after y h) xs).registers in
      has_through (joined m r) r (t q).registers (has_right m r) (has_callees (after y h) xs k q e)

  met_within : (g : Registers) (x : Instruction) (h : ℕ) → joined g (changes x) ≡ g → ((q : ℕ) → x ≡ op.Invoke q → joined g (t q).registers ≡ g) → joined g (met t x h).registers ≡ g
  met_within g (op.Invoke q) h e f = f q refl
  met_within g x h e f = e

  pub within : (g : Registers) (h : ℕ) (xs : List Instruction) → ((k : ℕ) (x : Instruction) → slice_get xs k ≡ Some x → joined g (changes x) ≡ g) → ((k q : ℕ) → slice_get xs k ≡ Some (op.Invoke q) → joined g (t q).registers ≡ g)
      → joined g (need t h xs).registers ≡ g
  within g h [] e f = joined_none g
  within g h (x ∷ xs) e f = has_both g (met t x h).registers (need t (after x h) xs).registers (met_within g x h (e 0 x refl) (λ q s. f 0 q (ap Some s))) (within g (after x h) xs (λ k. e (suc k)) (λ k. f (suc k)))

-- it depends on the callees alone
same_met : (t u : ℕ → Need) (x : Instruction) (h : ℕ) → ((q : ℕ) → x ≡ op.Invoke q → t q ≡ u q) → met t x h ≡ met u x h
same_met t u (op.Invoke q) h e = ap (λ n. record { words = h + 1 + n.words; registers = n.registers }) (e q refl)
same_met t u _ h e = refl

pub same_need : (t u : ℕ → Need) (h : ℕ) (xs : List Instruction) → ((k q : ℕ) → slice_get xs k ≡ Some (op.Invoke q) → t q ≡ u q) → need t h xs ≡ need u h xs
same_need t u h [] e = refl
same_need t u h (x ∷ xs) e =
    ap (λ n. both n (need t (after x h) xs)) (same_met t u x h (λ q s. e 0 q (ap Some s)))
    ∙ ap (both (met u x h)) (same_need t u (after x h) xs (λ k. e (suc k)))

-- and grows by the instructions
met_few : (t : ℕ → Need) (b : ℕ) (x : Instruction) (h : ℕ) → ((q : ℕ) → (t q).words ≤ b) → (met t x h).words ≤ h + 1 + b
met_few t b (op.Invoke q) h e = omega (arith, e q)
met_few t b _ h e = omega arith

after_few : (x : Instruction) (h : ℕ) → after x h ≤ h + 1
after_few op.Push h = omega arith
after_few (op.Low (lows.Constant k) high) h = omega arith
after_few (op.Low (lows.Load x) high) h = omega arith
after_few (op.Low (lows.LoadAt x) high) h = omega arith
after_few (op.Low lows.LoadThere high) h = omega arith
after_few (op.Low lows.Receive high) h = omega arith
after_few (op.Low (lows.ReceiveFrom port) high) h = omega arith
after_few (op.Low lows.High high) h = omega arith
after_few (op.Low (lows.Operate o (rights.Constant k)) high) h = omega arith
after_few (op.Low (lows.Operate o (rights.Plain x)) high) h = omega arith
after_few (op.Low (lows.Operate o rights.Top) high) h = omega arith
after_few (op.AheadUnless t n) h = omega arith
after_few (op.BackUnless t n) h = omega arith
after_few _ h = omega arith

pub few : (t : ℕ → Need) (b h : ℕ) (xs : List Instruction) → ((q : ℕ) → (t q).words ≤ b) → (need t h xs).words ≤ h + length xs + b
few t b h [] e = omega arith
few t b h (x ∷ xs) e = omega (arith, met_few t b x h e, after_few x h, few t b (after x h) xs e)

-- so far, and what is left
pub kept_need : (t : ℕ → Need) (s u m : Need) (h g i : ℕ) (xs : List Instruction) (d : Instruction) → i < length xs → m ≡ met t (slice_index_or xs i d) h → u ≡ both s m → g ≡ after (slice_index_or xs i d) h
    → both s (need t h (drop i xs)) ≡ need t 0 xs → both u (need t g (drop (i + 1) xs)) ≡ need t 0 xs
kept_need t s u m h g i xs d lt em eu eg e =
    let x = slice_index_or xs i d in
    let one : suc i ≡ i + 1 = omega arith in
    let rest : drop i xs ≡ x ∷ drop (i + 1) xs = drop-cons xs i d lt ∙ ap (λ j. x ∷ drop j xs) one in
    ap (λ n. both n (need t g (drop (i + 1) xs))) (eu ∙ ap (both s) em)
    ∙ ap (λ k. both (both s (met t x h)) (need t k (drop (i + 1) xs))) eg
    ∙ both_parts s (met t x h) (need t (after x h) (drop (i + 1) xs))
    ∙ ap (λ ys. both s (need t h ys)) (sym rest)
    ∙ e

-- the same of the words alone
pub kept_words : (t : ℕ → Need) (s u m h g i : ℕ) (xs : List Instruction) (d : Instruction) → i < length xs → m ≡ (met t (slice_index_or xs i d) h).words → u ≡ max s m → g ≡ after (slice_index_or xs i d) h
    → max s (need t h (drop i xs)).words ≡ (need t 0 xs).words → max u (need t g (drop (i + 1) xs)).words ≡ (need t 0 xs).words
kept_words t s u m h g i xs d lt em eu eg e =
    let x = slice_index_or xs i d in
    let one : suc i ≡ i + 1 = omega arith in
    let rest : drop i xs ≡ x ∷ drop (i + 1) xs = drop-cons xs i d lt ∙ ap (λ j. x ∷ drop j xs) one in
    ap (λ n. max n (need t g (drop (i + 1) xs)).words) (eu ∙ ap (max s) em)
    ∙ ap (λ k. max (max s (met t x h).words) (need t k (drop (i + 1) xs)).words) eg
    ∙ max_parts s (met t x h).words (need t (after x h) (drop (i + 1) xs)).words
    ∙ ap (λ ys. max s (need t h ys).words) (sym rest)
    ∙ e

pub kept_height : (x : Instruction) (h g i : ℕ) → g ≡ after x h → h ≤ i → g ≤ i + 1
kept_height x h g i e le = omega (arith, e, after_few x h, le)

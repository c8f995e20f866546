-- The count of a whole program's code.
use Rattle.std.proofs.Common.{◌≡◌, ℕ, zero, suc, ◌+◌, ◌*◌, ◌≤◌, ◌<◌, max, Bool, true, List, [], ◌∷◌, length, Option, Some, None, slice_get, get_or, refl, sym, ap, ◌∙◌, subst, arith, ◌⊎◌, inl, inr}
use Rattle.std.specs.Prelude.{map, position, slice_index_or, Result, Ok, Err, IfOk}
use Rattle.std.specs.Global.{Vec}
use Rattle.word86.specs.declared.fault.Fault.{Fault}
use Rattle.std.proofs.lemmas.Bool.{cases_lt, true≢false}
use Rattle.std.proofs.lemmas.Option.{none-some, slice_get-get_or, same_Some}
use Rattle.std.proofs.lemmas.List.Quantifiers.{position-Some}
use Rattle.icode.specs.declared.instruction.Instruction.{Instruction}
use Rattle.icode.specs.declared.instruction.Instruction.TheVariants as op
use Rattle.icode.specs.declared.code.Procedure as declared
use Rattle.icode.specs.declared.code.Routine.{Routine}
use Rattle.icode.specs.declared.code.Routine.TheVariants.{Main, Procedure, Unserved, Nowhere}
use Rattle.icode.specs.declared.code.Word.{Word}
use Rattle.icode.specs.declared.code.Code.{Code}
use Rattle.icode.specs.declared.registers.Registers.{Registers}
use Rattle.icode.specs.Code.{code_of, procedure_or_none, serving}
use Rattle.icode.specs.Vectors.{is_number}
use Rattle.icode.specs.Counted.{IsDepth, IsChanged, number_of, HasVector, IsHandler, IsRoom, IsCounted}
use Rattle.icode.specs.Heights.{height, target, place_in, HasHeights}
use Rattle.icode.specs.Machine.{At, does}
use Rattle.icode.specs.Registers.{none, joined, changes}
use Rattle.icode.specs.Runs.{Comes}
use Rattle.frames.specs.declared.need.Need.{Need}
use Rattle.frames.specs.Counting.{NoRunPasses, AreSaved}
use Rattle.frames.specs.Inner.Need.{need, need_at, room_of, largest_room, AreKnown}
use Rattle.frames.proofs.Registers.{joined_other}
use Rattle.frames.proofs.Depths as depths
use Rattle.frames.proofs.Bounded as bounded
use Rattle.frames.proofs.Known as known

-- ---- there is one depth, and one set of registers

depth_le : (code : Routine → List Instruction) (r : Routine) (m n : ℕ) → IsDepth code r m → IsDepth code r n → m ≤ n
depth_le code r m n d e =
    let p = d.reached in
    omega (arith, p.4, e.bounds p.0 p.1 p.2 p.3)

one_depth : (code : Routine → List Instruction) (r : Routine) (m n : ℕ) → IsDepth code r m → IsDepth code r n → m ≡ n
one_depth code r m n d e = omega (arith, depth_le code r m n d e, depth_le code r n m e d)

one_changed : (code : Routine → List Instruction) (r : Routine) (g h : Registers) → IsChanged code r g → IsChanged code r h → g ≡ h
one_changed code r g h d e = sym (e.least g d.all) ∙ joined_other g h ∙ d.least h e.all

-- ---- the largest room

bounds_room : (t : ℕ → Need) (j i k : ℕ) (ps : List declared.Procedure) → i ≡ j + k → HasVector (slice_get ps k) → 3 + number_of (t i).registers + (t i).words ≤ largest_room t j ps
bounds_room t j i k [] e h = absurd h
bounds_room t j i zero (p ∷ ps) e h =
    let room : room_of p.vector (t j) ≡ 3 + number_of (t i).registers + (t i).words = ap (λ v. room_of v (t j)) h.1 ∙ ap (λ x. 3 + number_of (t x).registers + (t x).words) (omega (arith, e)) in
    omega (arith, room)
bounds_room t j i (suc k) (p ∷ ps) e h = omega (arith, bounds_room t (suc j) i k ps (omega (arith, e)) h)

abbrev IsAttained : (ℕ → Need) → ℕ → List declared.Procedure → ℕ → Type 0
IsAttained t j ps m = (m ≤ 3) ⊎ ((k : ℕ) × HasVector (slice_get ps k) × (3 + number_of (t (j + k)).registers + (t (j + k)).words ≡ m))

shifted : (t : ℕ → Need) (j : ℕ) (p : declared.Procedure) (ps : List declared.Procedure) (m : ℕ) → IsAttained t (suc j) ps m → IsAttained t j (p ∷ ps) m
shifted t j p ps m (inl h) = inl h
shifted t j p ps m (inr h) =
    let e : suc j + h.0 ≡ j + suc h.0 = omega arith in
    inr (suc h.0, h.1, subst (λ i. 3 + number_of (t i).registers + (t i).words ≡ m) e h.2)

first : (t : ℕ → Need) (j : ℕ) (p : declared.Procedure) (ps : List declared.Procedure) (o : Option ℕ) → p.vector ≡ o → IsAttained t j (p ∷ ps) (room_of o (t j))
first t j p ps None e = inl (omega arith)
first t j p ps (Some v) e =
    let i : j ≡ j + 0 = omega arith in
    inr (0, (v, e), ap (λ x. 3 + number_of (t x).registers + (t x).words) (sym i))

larger : (t : ℕ → Need) (j : ℕ) (ps : List declared.Procedure) (a b : ℕ) → (a < b) ⊎ (b ≤ a) → IsAttained t j ps a → IsAttained t j ps b → IsAttained t j ps (max a b)
larger t j ps a b (inl h) x y = let e : b ≡ max a b = omega (arith, h) in subst (IsAttained t j ps) e y
larger t j ps a b (inr h) x y = let e : a ≡ max a b = omega (arith, h) in subst (IsAttained t j ps) e x

reached_room : (t : ℕ → Need) (j : ℕ) (ps : List declared.Procedure) → IsAttained t j ps (largest_room t j ps)
reached_room t j [] = inl (omega arith)
reached_room t j (p ∷ ps) =
    let a = room_of p.vector (t j) in
    let b = largest_room t (suc j) ps in
    larger t j (p ∷ ps) a b (cases_lt a b) (first t j p ps p.vector refl) (shifted t j p ps b (reached_room t (suc j) ps))

-- ---- which routine serves a vector

first_with : (test : declared.Procedure → Bool) (ps : List declared.Procedure) (k : ℕ) → position test ps ≡ Some k → (p : declared.Procedure) × (slice_get ps k ≡ Some p) × (test p ≡ true)
first_with test [] k e = absurd (none-some k e)
first_with test (x ∷ xs) k e =
    let at = position-Some test (x ∷ xs) k x e in
    (get_or (x ∷ xs) k x, slice_get-get_or (x ∷ xs) k x at.0, at.1)

numbered : (o : Option ℕ) (v : ℕ) → is_number o v ≡ true → (n : ℕ) × (o ≡ Some n)
numbered (Some n) v e = (n, refl)
numbered None v e = absurd (true≢false (sym e))

-- ---- levels

abbrev dropped_by : Option Instruction → Option ℕ
dropped_by (Some (op.Drop n)) = Some n
dropped_by _ = None

-- ---- the registers of each procedure

registers_at : (t : List Need) (k : ℕ) → slice_index_or (map (λ n. n.registers) t) k none ≡ (need_at t k).registers
registers_at [] k = refl
registers_at (n ∷ t) zero = refl
registers_at (n ∷ t) (suc k) = registers_at t k

module _ (c : Code) where
  unserved_drops : (k n : ℕ) → slice_get (op.Finish ∷ []) k ≡ Some (op.Drop n) → n ≤ height (op.Finish ∷ []) k
  unserved_drops zero n e = absurd (none-some n (ap dropped_by e))
  unserved_drops (suc k) n e = absurd (none-some (op.Drop n) e)

  unserved_flat : (k t : ℕ) (x : Instruction) → slice_get (op.Finish ∷ []) k ≡ Some x → target x (k + 1) ≡ Some t → (height (op.Finish ∷ []) (k + 1) ≡ 0) × (height (op.Finish ∷ []) t ≡ 0)
  unserved_flat zero t x e f = absurd (none-some t (ap (λ y. target y 1) (same_Some op.Finish x e) ∙ f))
  unserved_flat (suc k) t x e f = absurd (none-some x e)

  has_heights : (r : Routine) → HasHeights (code_of c r)
  has_heights Main = c.main_has_heights
  has_heights (Procedure p) = c.has_heights p
  has_heights Unserved = record { drops = unserved_drops; flat = unserved_flat }
  has_heights Nowhere = record { drops = λ k n e. absurd (none-some (op.Drop n) e); flat = λ k t x e f. absurd (none-some x e) }

module _ (c : Code) (t : List Need) (size : length t ≡ length c.procedures.items) (all : AreKnown c t (length c.order.items)) where
  abbrev of : Routine → Need
  of r = need (need_at t) 0 (code_of c r)

  is_depth : (r : Routine) → IsDepth (code_of c) r (of r).words
  is_depth = depths.is_depth (code_of c) (length c.procedures.items) (length c.order.items) (place_in c.order.items) (need_at t) (known.solved c t size all) c.ordered.later (known.beyond c t size all) (known.below c t size all)

  is_changed : (r : Routine) → IsChanged (code_of c) r (of r).registers
  is_changed = depths.is_changed (code_of c) (length c.procedures.items) (length c.order.items) (place_in c.order.items) (need_at t) (known.solved c t size all) c.ordered.later (known.beyond c t size all) (known.below c t size all)

  abbrev room : Routine → ℕ
  room r = 3 + number_of (of r).registers + (of r).words

  is_room : (r : Routine) → IsRoom c r (room r)
  is_room r = record { saved = (of r).registers; words = (of r).words; is_changed = is_changed r; is_depth = is_depth r; is = refl }

  abbrev most : ℕ
  most = max 3 (largest_room (need_at t) 0 c.procedures.items)

  small_room : (r : Routine) → IsHandler c r → room r ≤ most
  small_room Main h = absurd h
  small_room (Procedure k) h =
      omega (arith, bounds_room (need_at t) 0 k k c.procedures.items (omega arith) h, ap (λ n. 3 + number_of n.registers + n.words) (known.solved c t size all k))
  small_room Unserved h = omega arith
  small_room Nowhere h = absurd h

  within_room : (r : Routine) (n : ℕ) → IsHandler c r → IsRoom c r n → n ≤ most
  within_room r n h x =
      let words : x.words ≡ (of r).words = one_depth (code_of c) r x.words (of r).words x.is_depth (is_depth r) in
      let saved : number_of x.saved ≡ number_of (of r).registers = ap number_of (one_changed (code_of c) r x.saved (of r).registers x.is_changed (is_changed r)) in
      omega (arith, x.is, words, saved, small_room r h)

  abbrev IsMost : ℕ → Type 0
  IsMost m = (r : Routine) × IsHandler c r × IsRoom c r m

  most_by : (m : ℕ) → IsAttained (need_at t) 0 c.procedures.items m → (m ≤ 3 → IsMost 3) × (3 < m → IsMost m)
  most_by m (inl h) = ((λ _. (Unserved, tt, is_room Unserved)), (λ lt. absurd (omega (arith, h, lt))))
  most_by m (inr h) =
      let e : room (Procedure h.0) ≡ m = ap (λ n. 3 + number_of n.registers + n.words) (sym (known.solved c t size all h.0) ∙ ap (need_at t) (omega arith)) ∙ h.2 in
      ((λ _. (Unserved, tt, is_room Unserved)), (λ _. (Procedure h.0, h.1, subst (IsRoom c (Procedure h.0)) e (is_room (Procedure h.0)))))

  reached_by : (m : ℕ) → (3 < m) ⊎ (m ≤ 3) → (m ≤ 3 → IsMost 3) × (3 < m → IsMost m) → IsMost (max 3 m)
  reached_by m (inl h) f = let e : m ≡ max 3 m = omega (arith, h) in subst IsMost e (f.1 h)
  reached_by m (inr h) f = let e : 3 ≡ max 3 m = omega (arith, h) in subst IsMost e (f.0 h)

  reached : IsMost most
  reached =
      let m = largest_room (need_at t) 0 c.procedures.items in
      reached_by m (cases_lt 3 m) (most_by m (reached_room (need_at t) 0 c.procedures.items))

  pub counted : (main handler : ℕ) → main ≡ 2 * (of Main).words → handler ≡ 2 * most → IsCounted c main handler
  counted main handler em eh =
      record { deepest = (of Main).words; largest = most; of_main = is_depth Main; main_is = em; bounds = within_room; reached = reached; handler_is = eh }

  served : (v : ℕ) (o : Option ℕ) → position (λ p. is_number p.vector v) c.procedures.items ≡ o → IsHandler c (procedure_or_none o)
  served v None e = tt
  served v (Some k) e =
      let p = first_with (λ p. is_number p.vector v) c.procedures.items k e in
      subst HasVector (sym p.1) (numbered p.0.vector v p.2)

  changes_by : (offsets sizes : List ℕ) (begin : Routine) (g : Registers) (r : Routine) (k b : ℕ) (ws : List Word) (x : Instruction) → IsChanged (code_of c) begin g → slice_get (code_of c r) k ≡ Some x
      → bounded.Ok offsets sizes (code_of c) (has_heights c) refl begin (of begin).words (is_depth begin) (At r k b ws) → joined g (changes x) ≡ g
  changes_by offsets sizes begin g r k b ws x d e (inl s) = d.all s.0 r k x s.1 e
  changes_by offsets sizes begin g r k b ws x d e (inr s) = absurd (none-some x (ap (λ q. slice_get (code_of c q) k) (sym s.0) ∙ e))

  few : (offsets sizes : List ℕ) (begin : Routine) (n a : ℕ) (r : Routine) (k b : ℕ) (ws : List Word) → Comes (does offsets sizes (code_of c)) (At begin 0 a []) n (At r k b ws) → length ws ≤ (of begin).words
  few offsets sizes begin = bounded.bounded offsets sizes (code_of c) (has_heights c) refl begin (of begin).words (is_depth begin)

  pub no_run : (main handler : ℕ) → main ≡ 2 * (of Main).words → handler ≡ 2 * most → NoRunPasses c main handler
  no_run main handler em eh =
      record {
        of_main = λ offsets sizes n a r k b ws e. omega (arith, em, few offsets sizes Main n a r k b ws e);
        of_interrupt = λ offsets sizes v n a g r k b ws d e.
            (let begin = serving c v in
            let saved : number_of g ≡ number_of (of begin).registers = ap number_of (one_changed (code_of c) begin g (of begin).registers d (is_changed begin)) in
            omega (arith, eh, saved, few offsets sizes begin n a r k b ws e, small_room begin (served v (position (λ p. is_number p.vector v) c.procedures.items) refl)));
        of_registers = λ offsets sizes v n a g r k b ws x d e f.
            changes_by offsets sizes (serving c v) g r k b ws x d f (bounded.comes_ok offsets sizes (code_of c) (has_heights c) refl (serving c v) (of (serving c v)).words (is_depth (serving c v)) n a (At r k b ws) e);
      }

  pub are_saved : (gs : List Registers) → gs ≡ map (λ n. n.registers) t → AreSaved c gs
  are_saved gs e k lt =
      let one : (of (Procedure k)).registers ≡ slice_index_or gs k none = ap (λ n. n.registers) (sym (known.solved c t size all k)) ∙ sym (registers_at t k) ∙ ap (λ hs. slice_index_or hs k none) (sym e) in
      subst (IsChanged (code_of c) (Procedure k)) one (is_changed (Procedure k))

  pub saved_by : (s : List Need) (r : Result (Vec Registers) Fault) → s ≡ t → IfOk r (λ v. v.items ≡ map (λ n. n.registers) s) → IfOk r (λ v. AreSaved c v.items)
  saved_by s (Ok v) e h = are_saved v.items (h ∙ ap (map (λ n. n.registers)) e)
  saved_by s (Err f) e h = tt

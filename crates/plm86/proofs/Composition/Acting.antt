-- What the tasks of start-up leave in memory, byte by byte.
use Rattle.std.proofs.Common.{◌≡◌, ℕ, zero, suc, ◌+◌, ◌-◌, ◌*◌, ◌/◌, ◌%◌, ◌<◌, ◌≤◌, ◌⊎◌, inl, inr, ⊎_elim, Bool, true, false, List, [], ◌∷◌, ◌++◌, length, map, Option, Some, None, refl, sym, ap, ◌∙◌, subst, arith}
use Rattle.std.specs.Prelude.{slice_index, if◌then◌else◌, nat_lt, nat_le}
use Rattle.std.specs.Option.{option_map_or}
use Rattle.std.proofs.lemmas.Bool.{cases_eq, leb-true, and_parts}
use Rattle.word86.specs.MemoryMap.{code_start}
use Rattle.i86_code.specs.Coding.{AreBytes}
use Rattle.select.specs.declared.part.Part.{Part}
use Rattle.layout_link.specs.declared.tasks.Task.{Task}
use Rattle.layout_link.specs.declared.tasks.Task.TheVariants as tasks
use Rattle.layout_link.specs.Tasks.{placed, serving, vector_task, vector_tasks}
use Rattle.layout_link.specs.Initial.{puts, is_copied, stretch_tasks}
use Rattle.plm86.specs.Startup.{word_put, byte_put, after_acts}
use Rattle.plm86.proofs.Machine.Copying.{byte_put_same, byte_put_other, word_put_low, word_put_high, word_put_other, copied_beside, copied_at}

module _ (places : List ℕ) (from : ℕ) where
  -- memory after tasks
  abbrev pub done : List Task → (ℕ → ℕ) → ℕ → ℕ
  done ts f = after_acts (map (placed places from) ts) f

  -- one list of tasks after another
  pub done_append : (ts us : List Task) (f : ℕ → ℕ) → done (ts ++ us) f ≡ done us (done ts f)
  done_append [] us f = refl
  done_append (t ∷ ts) us f = done_append ts us _

  -- ---- vectors

  -- a vector's task sets the offset of its vector alone
  vector_beside : (v : ℕ) (o : Option ℕ) (f : ℕ → ℕ) (a : ℕ) → (a < 4 * v) ⊎ (4 * v + 2 ≤ a) → done (vector_task v o) f a ≡ f a
  vector_beside v None f a h = refl
  vector_beside v (Some p) f a h =
      word_put_other (4 * v) (slice_index places p) a f
      (λ e. ⊎_elim (λ lt. absurd (omega (arith, e, lt))) (λ le. absurd (omega (arith, e, le))) h)
      (λ e. ⊎_elim (λ lt. absurd (omega (arith, e, lt))) (λ le. absurd (omega (arith, e, le))) h)

  -- its vector leads to the part, or where it did before
  vector_set : (v : ℕ) (o : Option ℕ) (f : ℕ → ℕ) (d : ℕ) → f (4 * v) ≡ d % 256 → f (4 * v + 1) ≡ d / 256
      → (done (vector_task v o) f (4 * v) ≡ option_map_or (λ p. slice_index places p) o d % 256)
      × (done (vector_task v o) f (4 * v + 1) ≡ option_map_or (λ p. slice_index places p) o d / 256)
  vector_set v None f d low high = (low, high)
  vector_set v (Some p) f d low high = (word_put_low (4 * v) (slice_index places p) f, word_put_high (4 * v) (slice_index places p) f)

  module _ (parts : List Part) where
    -- the tasks of vectors leave what is no offset of theirs
    pub vectors_beside : (v n : ℕ) (f : ℕ → ℕ) (a : ℕ) → ((k : ℕ) → v ≤ k → k < v + n → (a < 4 * k) ⊎ (4 * k + 2 ≤ a)) → done (vector_tasks parts v n) f a ≡ f a
    unfolding vector_tasks
    vectors_beside v zero f a h = refl
    vectors_beside v (suc n) f a h =
        let g = done (vector_task v (serving parts v)) f in
        ap (λ m. m a) (done_append (vector_task v (serving parts v)) (vector_tasks parts (suc v) n) f)
        ∙ vectors_beside (suc v) n g a (λ k le lt. h k (omega (arith, le)) (omega (arith, lt)))
        ∙ vector_beside v (serving parts v) f a (h v (omega arith) (omega arith))

    -- and set the vectors' offsets
    pub vectors_set : (v n : ℕ) (f : ℕ → ℕ) (d k : ℕ) → v ≤ k → k < v + n → f (4 * k) ≡ d % 256 → f (4 * k + 1) ≡ d / 256
        → (done (vector_tasks parts v n) f (4 * k) ≡ option_map_or (λ p. slice_index places p) (serving parts k) d % 256)
        × (done (vector_tasks parts v n) f (4 * k + 1) ≡ option_map_or (λ p. slice_index places p) (serving parts k) d / 256)
    unfolding vector_tasks
    vectors_set v zero f d k le lt low high = absurd (omega (arith, le, lt))
    vectors_set v (suc n) f d k le lt low high =
        let g = done (vector_task v (serving parts v)) f in
        let both = done_append (vector_task v (serving parts v)) (vector_tasks parts (suc v) n) f in
        elim (cases_eq v k) [
          | inl e ↦
              let set = vector_set k (serving parts k) f d low high in
              let here : g ≡ done (vector_task k (serving parts k)) f = ap (λ z. done (vector_task z (serving parts z)) f) e in
              let beside : (i : ℕ) → i < 2 → done (vector_tasks parts (suc v) n) g (4 * k + i) ≡ g (4 * k + i) = λ i less. vectors_beside (suc v) n g (4 * k + i) (λ z ge up. inl (omega (arith, e, less, ge))) in
              let zero_more : 4 * k ≡ 4 * k + 0 = omega arith in (
                ap (λ m. m (4 * k)) both ∙ subst (λ z. done (vector_tasks parts (suc v) n) g z ≡ g z) (sym zero_more) (beside 0 (omega arith)) ∙ ap (λ m. m (4 * k)) here ∙ set.0,
                ap (λ m. m (4 * k + 1)) both ∙ beside 1 (omega arith) ∙ ap (λ m. m (4 * k + 1)) here ∙ set.1,
              )
          | inr ne ↦
              let kept : (i : ℕ) → i < 2 → g (4 * k + i) ≡ f (4 * k + i) = λ i less. vector_beside v (serving parts v) f (4 * k + i) (inr (omega (arith, le, ne))) in
              let zero_more : 4 * k ≡ 4 * k + 0 = omega arith in
              let set = vectors_set (suc v) n g d k (omega (arith, le, ne)) (omega (arith, lt)) (subst (λ z. g z ≡ f z) (sym zero_more) (kept 0 (omega arith)) ∙ low) (kept 1 (omega arith) ∙ high) in
              (ap (λ m. m (4 * k)) both ∙ set.0, ap (λ m. m (4 * k + 1)) both ∙ set.1)
        ]

  -- ---- the bytes of one stretch

  -- words put one after another leave what is beside them
  puts_beside : (to : ℕ) (bytes : List ℕ) (f : ℕ → ℕ) (a : ℕ) → (a < to) ⊎ (to + length bytes ≤ a) → done (puts to bytes) f a ≡ f a
  puts_beside to [] f a h = refl
  puts_beside to (x ∷ []) f a h = byte_put_other to x a f (λ e. ⊎_elim (λ lt. absurd (omega (arith, e, lt))) (λ le. absurd (omega (arith, e, le))) h)
  puts_beside to (x ∷ y ∷ rest) f a h =
      puts_beside (to + 2) rest (word_put to (x + 256 * y) f) a (⊎_elim (λ lt. inl (omega (arith, lt))) (λ le. inr (omega (arith, le))) h)
      ∙ word_put_other to (x + 256 * y) a f
      (λ e. ⊎_elim (λ lt. absurd (omega (arith, e, lt))) (λ le. absurd (omega (arith, e, le))) h)
      (λ e. ⊎_elim (λ lt. absurd (omega (arith, e, lt))) (λ le. absurd (omega (arith, e, le))) h)

  -- and put their bytes
  puts_set : (to : ℕ) (bytes : List ℕ) (f : ℕ → ℕ) (i : ℕ) → AreBytes bytes → i < length bytes → done (puts to bytes) f (to + i) ≡ slice_index bytes i
  puts_set to [] f i are lt = absurd (omega (arith, lt))
  puts_set to (x ∷ []) f zero are lt = let here : to + 0 ≡ to = omega arith in ap (byte_put to x f) here ∙ byte_put_same to x f
  puts_set to (x ∷ []) f (suc i) are lt = absurd (omega (arith, lt))
  puts_set to (x ∷ y ∷ rest) f zero are lt =
      let g = word_put to (x + 256 * y) f in
      let here : to + 0 ≡ to = omega arith in
      ap (done (puts (to + 2) rest) g) here ∙ puts_beside (to + 2) rest g to (inl (omega arith)) ∙ word_put_low to (x + 256 * y) f ∙ (let small : (x + 256 * y) % 256 ≡ x = omega (arith, are 0) in small)
  puts_set to (x ∷ y ∷ rest) f (suc zero) are lt =
      let g = word_put to (x + 256 * y) f in
      puts_beside (to + 2) rest g (to + 1) (inl (omega arith)) ∙ word_put_high to (x + 256 * y) f ∙ (let small : (x + 256 * y) / 256 ≡ y = omega (arith, are 0) in small)
  puts_set to (x ∷ y ∷ rest) f (suc (suc i)) are lt =
      let g = word_put to (x + 256 * y) f in
      let here : to + suc (suc i) ≡ to + 2 + i = omega arith in
      ap (done (puts (to + 2) rest) g) here ∙ puts_set (to + 2) rest g i (λ k. are (suc (suc k))) (omega (arith, lt))

  -- what a copy takes has five bytes at least
  copied_some : (copies : ℕ) (bytes : List ℕ) → is_copied copies (length bytes) ≡ true → suc (length bytes - 1) ≡ length bytes
  copied_some copies bytes e = let some = leb-true 5 (length bytes) (and_parts (nat_lt copies 840) (nat_le 5 (length bytes)) e).1 in omega (arith, some)

  -- the tasks of a stretch leave what is beside its bytes
  pub stretch_beside : (at copies to : ℕ) (bytes : List ℕ) (f : ℕ → ℕ) (a : ℕ) → (a < to) ⊎ (to + length bytes ≤ a) → done (stretch_tasks at copies to bytes) f a ≡ f a
  stretch_beside at copies to bytes f a h = by (is_copied copies (length bytes)) refl
    where
      by : (b : Bool) → is_copied copies (length bytes) ≡ b → done (if b then tasks.Copy at to (length bytes - 1) ∷ [] else puts to bytes) f a ≡ f a
      by true e = copied_beside (suc (length bytes - 1)) (from + at) to f a (let n = copied_some copies bytes e in ⊎_elim (λ lt. inl lt) (λ le. inr (omega (arith, le, n))) h)
      by false e = puts_beside to bytes f a h

  -- and put its bytes, where those that are copied lie in the ROM
  pub stretch_set : (at copies to : ℕ) (bytes : List ℕ) (f : ℕ → ℕ) (i : ℕ) → AreBytes bytes → to + length bytes ≤ code_start
      → (is_copied copies (length bytes) ≡ true → f (code_start + (from + at + i)) ≡ slice_index bytes i)
      → i < length bytes → done (stretch_tasks at copies to bytes) f (to + i) ≡ slice_index bytes i
  stretch_set at copies to bytes f i are low there lt = by (is_copied copies (length bytes)) refl
    where
      by : (b : Bool) → is_copied copies (length bytes) ≡ b → done (if b then tasks.Copy at to (length bytes - 1) ∷ [] else puts to bytes) f (to + i) ≡ slice_index bytes i
      by true e =
          let n = copied_some copies bytes e in
          let small : slice_index bytes i % 256 ≡ slice_index bytes i = omega (arith, are i) in
          copied_at (suc (length bytes - 1)) (from + at) to f i (omega (arith, lt, n)) (omega (arith, low, n)) ∙ ap (λ z. z % 256) (there e) ∙ small
      by false e = puts_set to bytes f i are lt

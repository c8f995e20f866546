-- The initial bytes of all objects in memory, when start-up has put and copied them.
use Rattle.std.proofs.Common.{◌≡◌, ℕ, zero, suc, ◌+◌, ◌-◌, ◌<◌, ◌≤◌, ◌⊎◌, inl, inr, ⊎_elim, true, List, [], ◌∷◌, ◌++◌, length, Some, refl, sym, ap, ◌∙◌, subst, arith}
use Rattle.std.specs.Prelude.{slice_get, slice_index, if◌then◌else◌}
use Rattle.std.proofs.lemmas.Bool.{cases_lt}
use Rattle.std.proofs.lemmas.List.{get_or_append_left, get_or-append-add, get_or-append_right, length-append}
use Rattle.word86.specs.MemoryMap.{data_start, code_start, data_end}
use Rattle.i86_code.specs.Coding.{AreBytes}
use Rattle.plm_decl.specs.declared.names.Object.{Object}
use Rattle.plm_decl.specs.declared.names.Variable.{Variable}
use Rattle.layout_link.specs.Initial.{Stretch, stretch, joined, is_copied, stretch_tasks, copied, copies_with, object_bytes, HaveBytes, stretches, data_tasks, copied_bytes}
use Rattle.plm86.proofs.Composition.Acting.{done, done_append, stretch_beside, stretch_set}
use Rattle.plm86.proofs.Composition.Stretches.{by_joined}

-- ---- the bytes of stretches

-- bytes from there on have this one at this address
abbrev IsByte : (to : ℕ) → List ℕ → (a v : ℕ) → Type 0
IsByte to bytes a v = (i : ℕ) × (i < length bytes) × (a ≡ to + i) × (slice_index bytes i ≡ v)

-- one of the stretches has it
abbrev Has : List Stretch → (a v : ℕ) → Type 0
Has [] a v = ⊥
Has (stretch to bytes ∷ rest) a v = IsByte to bytes a v ⊎ Has rest a v

-- no two of them share an address
abbrev ShareNone : List Stretch → Type 0
ShareNone [] = Unit {0}
ShareNone (stretch to bytes ∷ rest) = ((a v w : ℕ) → IsByte to bytes a v → Has rest a w → ⊥) × ShareNone rest

abbrev AreSmall : List Stretch → Type 0
AreSmall [] = Unit {0}
AreSmall (stretch to bytes ∷ rest) = AreBytes bytes × AreSmall rest

-- they lie below the ROM
abbrev LieLow : List Stretch → Type 0
LieLow ss = (a v : ℕ) → Has ss a v → a < code_start

-- ---- bytes that are joined with the stretches behind them

module _ (a : ℕ) (xs : List ℕ) (b : ℕ) (ys : List ℕ) (e : b ≡ a + length xs) where
  first_byte : (p v : ℕ) → IsByte a xs p v → IsByte a (xs ++ ys) p v
  first_byte p v (i, lt, at, is) = (i, omega (arith, lt, length-append xs ys), at, get_or_append_left xs ys 0 i lt ∙ is)

  second_byte : (p v : ℕ) → IsByte b ys p v → IsByte a (xs ++ ys) p v
  second_byte p v (i, lt, at, is) = (length xs + i, omega (arith, lt, length-append xs ys), omega (arith, at, e), get_or-append-add xs ys i 0 ∙ is)

  which_byte : (p v : ℕ) → IsByte a (xs ++ ys) p v → IsByte a xs p v ⊎ IsByte b ys p v
  which_byte p v (i, lt, at, is) =
      elim (cases_lt i (length xs)) [
        | inl first ↦ inl (i, first, at, sym (get_or_append_left xs ys 0 i first) ∙ is)
        | inr past ↦
            inr (i - length xs, omega (arith, lt, past, length-append xs ys), omega (arith, at, e, past), sym (get_or-append_right xs ys (length xs) i 0 refl past) ∙ is)
      ]

has_joined : (a : ℕ) (xs : List ℕ) (ss : List Stretch) (p v : ℕ) → IsByte a xs p v ⊎ Has ss p v → Has (joined a xs ss) p v
has_joined a xs [] p v h = h
has_joined a xs (stretch b ys ∷ rest) p v h =
    by_joined (λ ss. Has ss p v) a xs b ys rest
    (λ e. elim h [
      | inl first ↦ inl (first_byte a xs b ys e p v first)
      | inr (inl second) ↦ inl (second_byte a xs b ys e p v second)
      | inr (inr others) ↦ inr others
    ])
    h

joined_has : (a : ℕ) (xs : List ℕ) (ss : List Stretch) (p v : ℕ) → Has (joined a xs ss) p v → IsByte a xs p v ⊎ Has ss p v
joined_has a xs [] p v = λ h. h
joined_has a xs (stretch b ys ∷ rest) p v =
    by_joined (λ ss. Has ss p v → IsByte a xs p v ⊎ Has (stretch b ys ∷ rest) p v) a xs b ys rest
    (λ e h. elim h [
      | inl one ↦ ⊎_elim (λ first. inl first) (λ second. inr (inl second)) (which_byte a xs b ys e p v one)
      | inr others ↦ inr (inr others)
    ])
    (λ h. h)

apart_joined : (a : ℕ) (xs : List ℕ) (ss : List Stretch) → ((p v w : ℕ) → IsByte a xs p v → Has ss p w → ⊥) → ShareNone ss → ShareNone (joined a xs ss)
apart_joined a xs [] beside apart = (beside, tt)
apart_joined a xs (stretch b ys ∷ rest) beside apart =
    by_joined ShareNone a xs b ys rest
    (λ e. (λ p v w one others. ⊎_elim (λ first. beside p v w first (inr others)) (λ second. apart.0 p v w second others) (which_byte a xs b ys e p v one), apart.1))
    (beside, apart)

both_small : (xs ys : List ℕ) → AreBytes xs → AreBytes ys → AreBytes (xs ++ ys)
both_small xs ys f g i =
    elim (cases_lt i (length xs)) [
      | inl first ↦ omega (arith, f i, get_or_append_left xs ys 0 i first)
      | inr past ↦ omega (arith, g (i - length xs), get_or-append_right xs ys (length xs) i 0 refl past)
    ]

small_joined : (a : ℕ) (xs : List ℕ) (ss : List Stretch) → AreBytes xs → AreSmall ss → AreSmall (joined a xs ss)
small_joined a xs [] f g = (f, tt)
small_joined a xs (stretch b ys ∷ rest) f g = by_joined AreSmall a xs b ys rest (λ e. (both_small xs ys f g.0, g.1)) (f, g)

-- ---- the bytes of objects

module _ (offsets : List ℕ) (variables : List Variable) where
  abbrev bytes_of : Object → List ℕ
  bytes_of o = object_bytes offsets variables o

  -- the address of no initial byte of these objects, which are the k-th and those after it
  abbrev pub IsBeside : (k : ℕ) → List Object → (a : ℕ) → Type 0
  IsBeside k os a = (j : ℕ) (o : Object) → slice_get os j ≡ Some o → (i : ℕ) → i < length (bytes_of o) → a ≡ data_start + slice_index offsets (k + j) + i → ⊥

  -- no two of these objects share an address of initial bytes
  abbrev pub AreApart : (k : ℕ) → List Object → Type 0
  AreApart k os =
      (j h : ℕ) (o p : Object) → slice_get os j ≡ Some o → slice_get os h ≡ Some p → j < h
      → (i l : ℕ) → i < length (bytes_of o) → l < length (bytes_of p) → slice_index offsets (k + j) + i ≡ slice_index offsets (k + h) + l → ⊥

  -- their initial bytes lie in the data's room
  abbrev pub AreLow : (k : ℕ) → List Object → Type 0
  AreLow k os = (j : ℕ) (o : Object) → slice_get os j ≡ Some o → (i : ℕ) → i < length (bytes_of o) → slice_index offsets (k + j) + i < data_end

  -- an object of these has this initial byte at this address
  abbrev IsInitial : (k : ℕ) → List Object → (a v : ℕ) → Type 0
  IsInitial k os a v = (j : ℕ) × (o : Object) × (slice_get os j ≡ Some o) × IsByte (data_start + slice_index offsets (k + j)) (bytes_of o) a v

  abbrev all : ℕ → List Object → List Stretch
  all k os = stretches offsets variables k os

  -- the stretches have just these bytes
  is_initial : (k : ℕ) (os : List Object) (a v : ℕ) → Has (all k os) a v → IsInitial k os a v
  is_initial k [] a v h = absurd h
  is_initial k (o ∷ os) a v h =
      elim (joined_has (data_start + slice_index offsets k) (bytes_of o) (all (k + 1) os) a v h) [
        | inl first ↦ (0, o, refl, let same : k ≡ k + 0 = omega arith in subst (λ n. IsByte (data_start + slice_index offsets n) (bytes_of o) a v) same first)
        | inr others ↦
            let (j, p, e, is) = is_initial (k + 1) os a v others in
            let next : k + 1 + j ≡ k + suc j = omega arith in
            (suc j, p, e, subst (λ n. IsByte (data_start + slice_index offsets n) (bytes_of p) a v) next is)
      ]

  has_initial : (k : ℕ) (os : List Object) (a v : ℕ) (j : ℕ) (o : Object) → slice_get os j ≡ Some o → IsByte (data_start + slice_index offsets (k + j)) (bytes_of o) a v → Has (all k os) a v
  has_initial k [] a v j o e is = absurd (let wrong = e in cc)
  has_initial k (q ∷ os) a v zero o e is =
      let same : o ≡ q = cc in
      let first : k + 0 ≡ k = omega arith in
      has_joined (data_start + slice_index offsets k) (bytes_of q) (all (k + 1) os) a v
      (inl (subst (λ p. IsByte (data_start + slice_index offsets k) (bytes_of p) a v) same (subst (λ n. IsByte (data_start + slice_index offsets n) (bytes_of o) a v) first is)))
  has_initial k (q ∷ os) a v (suc j) o e is =
      let next : k + suc j ≡ k + 1 + j = omega arith in
      has_joined (data_start + slice_index offsets k) (bytes_of q) (all (k + 1) os) a v
      (inr (has_initial (k + 1) os a v j o e (subst (λ n. IsByte (data_start + slice_index offsets n) (bytes_of o) a v) next is)))

  -- so they lie as the objects do
  are_beside : (k : ℕ) (os : List Object) (a : ℕ) → IsBeside k os a → (v : ℕ) → Has (all k os) a v → ⊥
  are_beside k os a beside v h = let (j, o, e, (i, lt, at, is)) = is_initial k os a v h in beside j o e i lt at

  are_low : (k : ℕ) (os : List Object) → AreLow k os → LieLow (all k os)
  are_low k os low a v h = let (j, o, e, (i, lt, at, is)) = is_initial k os a v h in omega (arith, at, low j o e i lt)

  are_small : (k : ℕ) (os : List Object) → HaveBytes offsets variables os → AreSmall (all k os)
  are_small k [] have = tt
  are_small k (o ∷ os) have = small_joined (data_start + slice_index offsets k) (bytes_of o) (all (k + 1) os) have.0 (are_small (k + 1) os have.1)

  -- what holds of all holds of those after the first
  apart_rest : (k : ℕ) (o : Object) (os : List Object) → AreApart k (o ∷ os) → AreApart (k + 1) os
  apart_rest k o os h j g p q ej eg lt i l lti ltl same =
      let next_j : k + 1 + j ≡ k + suc j = omega arith in
      let next_g : k + 1 + g ≡ k + suc g = omega arith in
      h (suc j) (suc g) p q ej eg (omega (arith, lt)) i l lti ltl (ap (λ z. slice_index offsets z + i) (sym next_j) ∙ same ∙ ap (λ z. slice_index offsets z + l) next_g)

  are_apart : (k : ℕ) (os : List Object) → AreApart k os → ShareNone (all k os)
  are_apart k [] apart = tt
  are_apart k (o ∷ os) apart =
      apart_joined (data_start + slice_index offsets k) (bytes_of o) (all (k + 1) os) beside (are_apart (k + 1) os (apart_rest k o os apart))
    where
      beside : (a v w : ℕ) → IsByte (data_start + slice_index offsets k) (bytes_of o) a v → Has (all (k + 1) os) a w → ⊥
      beside a v w (i, lt, at, is) h =
          let (j, p, e, (l, ltl, at_p, is_p)) = is_initial (k + 1) os a w h in
          let first : k + 0 ≡ k = omega arith in
          let next : k + 1 + j ≡ k + suc j = omega arith in
          let clash : slice_index offsets k + i ≡ slice_index offsets (k + 1 + j) + l = omega (arith, at, at_p) in
          apart 0 (suc j) o p refl e (omega arith) i l lt ltl (ap (λ z. slice_index offsets z + i) first ∙ clash ∙ ap (λ z. slice_index offsets z + l) next)

-- ---- memory after the tasks

module _ (places : List ℕ) (from : ℕ) where
  abbrev after : (at copies : ℕ) → List Stretch → (ℕ → ℕ) → ℕ → ℕ
  after at copies ss f = done places from (data_tasks at copies ss) f

  -- the bytes to copy for stretches are in the ROM
  abbrev pub AreInRom : (at copies : ℕ) → List Stretch → (ℕ → ℕ) → Type 0
  AreInRom at copies ss f = (j : ℕ) → j < length (copied_bytes copies ss) → f (code_start + (from + at + j)) ≡ slice_index (copied_bytes copies ss) j

  -- what is no address of a stretch lies before it or after it
  beside_one : (to : ℕ) (bytes : List ℕ) (a : ℕ) → ((v : ℕ) → IsByte to bytes a v → ⊥) → (a < to) ⊎ (to + length bytes ≤ a)
  beside_one to bytes a h =
      elim (cases_lt a to) [
        | inl lt ↦ inl lt
        | inr le ↦ elim (cases_lt a (to + length bytes)) [
          | inl inside ↦ absurd (h (slice_index bytes (a - to)) (a - to, omega (arith, le, inside), omega (arith, le), refl))
          | inr past ↦ inr past
        ]
      ]

  -- the tasks leave all else
  all_beside : (at copies : ℕ) (ss : List Stretch) (f : ℕ → ℕ) (a : ℕ) → ((v : ℕ) → Has ss a v → ⊥) → after at copies ss f a ≡ f a
  all_beside at copies [] f a h = refl
  all_beside at copies (stretch to bytes ∷ rest) f a h =
      let own = stretch_tasks at copies to bytes in
      let at2 = at + length (copied copies bytes) in
      let copies2 = copies_with copies bytes in
      ap (λ m. m a) (done_append places from own (data_tasks at2 copies2 rest) f)
      ∙ all_beside at2 copies2 rest (done places from own f) a (λ v is. h v (inr is))
      ∙ stretch_beside places from at copies to bytes f a (beside_one to bytes a (λ v is. h v (inl is)))

  -- after a stretch the others' bytes are in the ROM
  rom_rest : (at copies to : ℕ) (bytes : List ℕ) (rest : List Stretch) (f : ℕ → ℕ) → LieLow (stretch to bytes ∷ rest) → AreInRom at copies (stretch to bytes ∷ rest) f
      → AreInRom (at + length (copied copies bytes)) (copies_with copies bytes) rest (done places from (stretch_tasks at copies to bytes) f)
  rom_rest at copies to bytes rest f low stands j lt =
      let c = copied copies bytes in
      let others = copied_bytes (copies_with copies bytes) rest in
      let a = code_start + (from + (at + length c) + j) in
      let there : a ≡ code_start + (from + at + (length c + j)) = omega arith in
      stretch_beside places from at copies to bytes f a (beside_one to bytes a (λ v is. let small = low a v (inl is) in absurd (omega (arith, small))))
      ∙ ap f there ∙ stands (length c + j) (omega (arith, lt, length-append c others)) ∙ get_or-append-add c others j 0

  -- its own bytes are there, if they are copied
  rom_own : (at copies to : ℕ) (bytes : List ℕ) (rest : List Stretch) (f : ℕ → ℕ) (i : ℕ) → AreInRom at copies (stretch to bytes ∷ rest) f → i < length bytes
      → is_copied copies (length bytes) ≡ true → f (code_start + (from + at + i)) ≡ slice_index bytes i
  rom_own at copies to bytes rest f i stands lt e =
      let c = copied copies bytes in
      let others = copied_bytes (copies_with copies bytes) rest in
      let whole : c ≡ bytes = ap (λ b. if b then bytes else []) e in
      let inside : i < length c = subst (λ l. i < length l) (sym whole) lt in
      stands i (omega (arith, inside, length-append c others)) ∙ get_or_append_left c others 0 i inside ∙ ap (λ l. slice_index l i) whole

  -- each stretch has its bytes
  all_set : (at copies : ℕ) (ss : List Stretch) (f : ℕ → ℕ) → AreSmall ss → ShareNone ss → LieLow ss → AreInRom at copies ss f → (a v : ℕ) → Has ss a v → after at copies ss f a ≡ v
  all_set at copies [] f small apart low stands a v h = absurd h
  all_set at copies (stretch to bytes ∷ rest) f small apart low stands a v h =
      let own = stretch_tasks at copies to bytes in
      let at2 = at + length (copied copies bytes) in
      let copies2 = copies_with copies bytes in
      ap (λ m. m a) (done_append places from own (data_tasks at2 copies2 rest) f)
      ∙ elim h [
        | inl (i, lt, here, is) ↦
            let last = low (to + (length bytes - 1)) (slice_index bytes (length bytes - 1)) (inl (length bytes - 1, omega (arith, lt), refl, refl)) in
            all_beside at2 copies2 rest (done places from own f) a (λ w. apart.0 a v w (i, lt, here, is))
            ∙ ap (done places from own f) here
            ∙ stretch_set places from at copies to bytes f i small.0 (omega (arith, last, lt)) (rom_own at copies to bytes rest f i stands lt) lt
            ∙ is
        | inr others ↦ all_set at2 copies2 rest (done places from own f) small.1 apart.1 (λ p w is. low p w (inr is)) (rom_rest at copies to bytes rest f low stands) a v others
      ]

  module _ (offsets : List ℕ) (variables : List Variable) (os : List Object) (f : ℕ → ℕ) where
    -- memory after the tasks of all objects
    abbrev after_objects : ℕ → ℕ
    after_objects = done places from (data_tasks 0 0 (stretches offsets variables 0 os)) f

    -- their tasks leave all else
    pub objects_beside : (a : ℕ) → IsBeside offsets variables 0 os a → after_objects a ≡ f a
    objects_beside a h = all_beside 0 0 (stretches offsets variables 0 os) f a (are_beside offsets variables 0 os a h)

    -- each has its initial bytes
    pub objects_set : HaveBytes offsets variables os → AreApart offsets variables 0 os → AreLow offsets variables 0 os → AreInRom 0 0 (stretches offsets variables 0 os) f
        → (j : ℕ) (o : Object) → slice_get os j ≡ Some o → (i : ℕ) → i < length (object_bytes offsets variables o)
        → after_objects (data_start + slice_index offsets (0 + j) + i) ≡ slice_index (object_bytes offsets variables o) i
    objects_set have apart low stands j o e i lt =
        let at = data_start + slice_index offsets (0 + j) + i in
        let v = slice_index (object_bytes offsets variables o) i in
        all_set 0 0 (stretches offsets variables 0 os) f (are_small offsets variables 0 os have) (are_apart offsets variables 0 os apart) (are_low offsets variables 0 os low) stands at v
        (has_initial offsets variables 0 os at v j o e (i, lt, refl, refl))

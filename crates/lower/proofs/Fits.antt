-- Instructions as they have to be where they stand, one after another.
use Rattle.std.proofs.lemmas.Option.{same_Some}
use Rattle.std.proofs.Common.{◌≡◌, ℕ, zero, suc, ◌+◌, ◌-◌, ◌<◌, ◌≤◌, Bool, true, false, List, [], ◌∷◌, ◌++◌, length, Some, refl, sym, ap, ◌∙◌, subst, arith, slice_get, length-append}
use Rattle.std.proofs.lemmas.List.{take-append-le}
use Rattle.std.proofs.Math.Seq.{take-append-add, take-length}
use Rattle.std.specs.Prelude.{take, drop}
use Rattle.word86.specs.declared.width.Width.{Width}
use Rattle.word86.specs.declared.width.Width.TheVariants as widths
use Rattle.word86.specs.declared.place.Place.{Place}
use Rattle.icode.specs.declared.instruction.Instruction.{Instruction}
use Rattle.icode.specs.declared.instruction.Instruction.TheVariants as op
use Rattle.icode.specs.declared.instruction.Test.{Test}
use Rattle.icode.specs.Heights.{after, behind, popped}
use Rattle.icode.specs.Made.{asked_constant, is_case}
use Rattle.plm_type.specs.declared.program.Counting.{Counting}
use Rattle.plm_type.specs.declared.program.Counting.TheVariants as counting
use Rattle.plm_type.specs.Rest.{Scalar}
use Rattle.lower.specs.Expressions.{Operand, Number, Name, Computed, place_of}
use Rattle.lower.specs.LowBytes.{low_load}
use Rattle.lower.specs.Statements.{index_read, next_by_number, next_round, add_pushed, over, failing, choosing, all_of, entries, switching, exit_before, while_loop}
use Rattle.lower.proofs.Heights.{Keeps, behind_append}

-- a constant operand is a word
abbrev pub IsWord : Operand → Type 0
IsWord (Number k) = k < 65536
IsWord _ = Unit {0}

-- ---- pieces that begin and end where no value is pushed

pub level_then : (xs ys : List Instruction) → behind 0 xs ≡ 0 → behind 0 ys ≡ 0 → behind 0 (xs ++ ys) ≡ 0
level_then xs ys f g = behind_append 0 xs ys ∙ (ap (λ h. behind h ys) f ∙ g)

tested_down : (t : Test) (n : ℕ) (h : ℕ) → h ≡ popped t → after (op.AheadUnless t n) h ≡ 0
tested_down t n h e = omega (arith, e)

pub tested_level : (xs ys : List Instruction) (t : Test) (n : ℕ) → behind 0 xs ≡ popped t → behind 0 ys ≡ 0 → behind 0 (xs ++ (op.AheadUnless t n ∷ ys)) ≡ 0
tested_level xs ys t n f g = behind_append 0 xs (op.AheadUnless t n ∷ ys) ∙ (ap (λ h. behind h ys) (tested_down t n (behind 0 xs) f) ∙ g)

pub while_loop_level : (b : Bool) (condition : List Instruction) (t : Test) (body : List Instruction) (exit : ℕ) → behind 0 condition ≡ popped t → behind 0 body ≡ 0 → behind 0 (while_loop b condition t body exit) ≡ 0
while_loop_level true condition t body exit up level = level_then body (op.Back (length body + 1) ∷ []) level refl
while_loop_level false condition t body exit up level =
    let back = op.Back (length condition + length body + 2) ∷ [] in
    tested_level condition (body ++ back) t (length body + 1 + exit) up (level_then body back level refl)

over_level : (silent : Bool) (otherwise : List Instruction) (exit : ℕ) → behind 0 (over silent otherwise exit) ≡ 0
over_level true otherwise exit = refl
over_level false otherwise exit = refl

pub choosing_level : (condition arm otherwise : List Instruction) (t : Test) (silent : Bool) (exit : ℕ) → behind 0 condition ≡ popped t → behind 0 arm ≡ 0 → behind 0 otherwise ≡ 0 → behind 0 (choosing condition t arm silent otherwise exit) ≡ 0
choosing_level condition arm otherwise t silent exit up a o =
    tested_level condition (arm ++ (over silent otherwise exit ++ otherwise)) t (failing silent arm exit) up
    (level_then arm (over silent otherwise exit ++ otherwise) a (level_then (over silent otherwise exit) otherwise (over_level silent otherwise exit) o))

entries_level : (before : ℕ) (cases : List (List Instruction)) → behind 0 (entries before cases) ≡ 0
entries_level before [] = refl
entries_level before (c ∷ cs) = entries_level (before + length c) cs

pub entries_length : (before : ℕ) (cases : List (List Instruction)) → length (entries before cases) ≡ length cases
entries_length before [] = refl
entries_length before (c ∷ cs) = ap suc (entries_length (before + length c) cs)

entries_cases : (before : ℕ) (cases : List (List Instruction)) (more : List Instruction) (j : ℕ) → j < length cases → is_case (slice_get (entries before cases ++ more) j) ≡ true
entries_cases before [] more j lt = absurd (omega (arith, lt))
entries_cases before (c ∷ cs) more zero lt = refl
entries_cases before (c ∷ cs) more (suc j) lt = entries_cases (before + length c) cs more j (omega (arith, lt))

abbrev pub AreLevel : List (List Instruction) → Type 0
AreLevel [] = Unit {0}
AreLevel (c ∷ cs) = (behind 0 c ≡ 0) × AreLevel cs

all_level : (cases : List (List Instruction)) → AreLevel cases → behind 0 (all_of cases) ≡ 0
all_level [] f = refl
all_level (c ∷ cs) f = level_then c (all_of cs) f.0 (all_level cs f.1)

pub switching_level : (cases : List (List Instruction)) (exit : ℕ) → AreLevel cases → behind 0 (switching cases exit) ≡ 0
switching_level cases exit f = level_then (entries 0 cases) (op.Ahead (length (all_of cases) + exit) ∷ all_of cases) (entries_level 0 cases) (all_level cases f)

load_up : (w : Width) (at : Place) (more : List Instruction) (h : ℕ) → behind h (low_load w at ∷ more) ≡ behind h more
load_up widths.Byte at more h = refl
load_up widths.Word at more h = refl

pub index_up : (bytes : Bool) (x : Scalar) (more : List Instruction) (h : ℕ) → behind h (index_read bytes x ∷ more) ≡ behind h more
index_up true x more h = refl
index_up false x more h = refl

number_level : (o : Counting) (x : Scalar) (s before : ℕ) → behind 0 (next_by_number o x s before) ≡ 0
number_level counting.Up x s before = load_up x.width (place_of x.place) (op.Next x.width (place_of x.place) s (before + 2) ∷ []) 0
number_level counting.SignedUp x s before = refl
number_level counting.SignedDown x s before = refl

pub next_level : (o : Counting) (x : Scalar) (step : Operand) (code : List Instruction) (before : ℕ) → Keeps code → behind 0 (next_round o x step code before) ≡ 0
next_level o x (Number s) code before k = number_level o x s before
next_level o x (Name read y) code before k = level_then code (add_pushed x (before + length code)) (k 0) refl
next_level o x Computed code before k = level_then code (add_pushed x (before + length code)) (k 0) refl

-- which procedures may be called; whether ENABLE and HALT may stand; whether the end of an interrupt procedure may; where jumps may lead
module _ (MayCall : ℕ → Type 0) (Enables Finishes : Type 0) (Spot : ℕ → Type 0) where
  -- at an index, where this number of values are pushed, before others
  abbrev pub Fit : (p h : ℕ) → Instruction → List Instruction → Type 0
  Fit p h (op.Constant k) more = k < 65536
  Fit p h (op.BinaryConstant o width k) more = k < 65536
  Fit p h (op.StoreConstantAt width x k) more = k < 65536
  Fit p h (op.Drop n) more = n ≤ h
  Fit p h (op.Ahead n) more = (h ≡ 0) × Spot (p + 1 + n)
  Fit p h (op.AheadUnless t n) more = (after (op.AheadUnless t n) h ≡ 0) × Spot (p + 1 + n) × (asked_constant t < 65536)
  Fit p h (op.Back n) more = (h ≡ 0) × Spot (p + 1 - n)
  Fit p h (op.BackUnless t n) more = (after (op.BackUnless t n) h ≡ 0) × Spot (p + 1 - n) × (asked_constant t < 65536)
  Fit p h (op.Next width x s n) more = (h ≡ 0) × Spot (p + 1 - n) × (s < 65536)
  Fit p h (op.Switch n) more = (h ≡ 0) × Spot (p + 1 + n) × ((j : ℕ) → j < n → is_case (slice_get more j) ≡ true)
  Fit p h (op.Case n) more = (h ≡ 0) × Spot (p + 1 + n)
  Fit p h (op.Invoke q) more = MayCall q
  Fit p h op.Enable more = Enables
  Fit p h op.Halt more = Enables
  Fit p h op.Finish more = Finishes
  Fit p h _ more = Unit {0}

  abbrev pub Fits : (p h : ℕ) → List Instruction → Type 0
  Fits p h [] = Unit {0}
  Fits p h (x ∷ xs) = Fit p h x xs × Fits (suc p) (after x h) xs

  case_more : (xs ys : List Instruction) (j : ℕ) → is_case (slice_get xs j) ≡ true → is_case (slice_get (xs ++ ys) j) ≡ true
  case_more [] ys j e = cc
  case_more (x ∷ xs) ys zero e = e
  case_more (x ∷ xs) ys (suc j) e = case_more xs ys j e

  fit_more : (p h : ℕ) (x : Instruction) (xs ys : List Instruction) → Fit p h x xs → Fit p h x (xs ++ ys)
  fit_more p h (op.Switch n) xs ys f = (f.0, f.1, λ j lt. case_more xs ys j (f.2 j lt))
  fit_more p h _ xs ys f = f

  pub fits_both : (p h : ℕ) (xs ys : List Instruction) → Fits p h xs → Fits (p + length xs) (behind h xs) ys → Fits p h (xs ++ ys)
  fits_both p h [] ys f g = subst (λ q. Fits q h ys) (omega arith) g
  fits_both p h (x ∷ xs) ys f g = (fit_more p h x xs ys f.0, fits_both (suc p) (after x h) xs ys f.1 (subst (λ q. Fits q (behind (after x h) xs) ys) (omega arith) g))

  -- wherever it stands
  abbrev pub Calm : ℕ → List Instruction → Type 0
  Calm h xs = (p : ℕ) → Fits p h xs

  pub calm_then : (h i : ℕ) (xs ys : List Instruction) → Calm h xs → behind h xs ≡ i → Calm i ys → Calm h (xs ++ ys)
  calm_then h i xs ys f e g p = fits_both p h xs ys (f p) (subst (λ j. Fits (p + length xs) j ys) (sym e) (g (p + length xs)))

  pub fits_then : (p h i : ℕ) (xs ys : List Instruction) → Fits p h xs → behind h xs ≡ i → Fits (p + length xs) i ys → Fits p h (xs ++ ys)
  fits_then p h i xs ys f e g = fits_both p h xs ys f (subst (λ j. Fits (p + length xs) j ys) (sym e) g)

  -- one of them
  pub fit_at : (p h k : ℕ) (xs : List Instruction) (x : Instruction) → Fits p h xs → slice_get xs k ≡ Some x → Fit (p + k) (behind h (take k xs)) x (drop (suc k) xs)
  fit_at p h k [] x f e = absurd cc
  fit_at p h zero (y ∷ xs) x f e = subst (λ z. Fit (p + 0) h z xs) (same_Some y x e) (subst (λ q. Fit q h y xs) (omega arith) f.0)
  fit_at p h (suc k) (y ∷ xs) x f e = subst (λ q. Fit q (behind (after y h) (take k xs)) x (drop (suc k) xs)) (omega arith) (fit_at (suc p) (after y h) k xs x f.1 e)

  -- ---- where jumps may lead in a piece of code at an index: wherever no value is pushed, its end among these places
  abbrev pub Spots : ℕ → List Instruction → Type 0
  Spots p xs = (k : ℕ) → k ≤ length xs → behind 0 (take k xs) ≡ 0 → Spot (p + k)

  pub spots_front : (p : ℕ) (xs ys : List Instruction) → Spots p (xs ++ ys) → Spots p xs
  spots_front p xs ys s k le e = s k (omega (arith, le, length-append xs ys)) (ap (behind 0) (take-append-le k xs ys le) ∙ e)

  pub spots_back : (p : ℕ) (xs ys : List Instruction) → behind 0 xs ≡ 0 → Spots p (xs ++ ys) → Spots (p + length xs) ys
  spots_back p xs ys keeps s k le e =
      subst Spot (omega arith) (s (length xs + k) (omega (arith, le, length-append xs ys))
      (ap (behind 0) (take-append-add xs ys k) ∙ (behind_append 0 xs (take k ys) ∙ (ap (λ h. behind h (take k ys)) keeps ∙ e))))

  pub spots_next : (p : ℕ) (x : Instruction) (xs : List Instruction) → after x 0 ≡ 0 → Spots p (x ∷ xs) → Spots (suc p) xs
  spots_next p x xs keeps s k le e = subst Spot (omega arith) (s (suc k) (omega (arith, le)) (ap (λ h. behind h (take k xs)) keeps ∙ e))

  pub spots_first : (p : ℕ) (xs : List Instruction) → Spots p xs → Spot p
  spots_first p xs s = subst Spot (omega arith) (s 0 (omega arith) refl)

  pub spots_last : (p : ℕ) (xs : List Instruction) → behind 0 xs ≡ 0 → Spots p xs → Spot (p + length xs)
  spots_last p xs keeps s = s (length xs) (omega arith) (ap (behind 0) (take-length xs) ∙ keeps)

  -- where the instruction before leaves no value pushed
  spots_over : (p : ℕ) (xs : List Instruction) (x : Instruction) (ys : List Instruction) → after x (behind 0 xs) ≡ 0 → Spots p (xs ++ (x ∷ ys)) → Spots (suc (p + length xs)) ys
  spots_over p xs x ys keeps s k le e =
      subst Spot (omega arith) (s (length xs + suc k) (omega (arith, le, length-append xs (x ∷ ys)))
      (ap (behind 0) (take-append-add xs (x ∷ ys) (suc k)) ∙ (behind_append 0 xs (x ∷ take k ys) ∙ (ap (λ h. behind h (take k ys)) keeps ∙ e))))

  -- ---- statements

  -- it is as it has to be wherever a jump may lead to each of its places and to its exit
  abbrev pub Fitting : ℕ → List Instruction → Type 0
  Fitting exit xs = (p : ℕ) → Spots p xs → Spot (p + length xs + exit) → Fits p 0 xs

  -- the same without its end
  abbrev pub Inner : ℕ → List Instruction → Type 0
  Inner p xs = (k : ℕ) → k < length xs → behind 0 (take k xs) ≡ 0 → Spot (p + k)

  pub inner_front : (p : ℕ) (xs ys : List Instruction) → 1 ≤ length ys → Inner p (xs ++ ys) → Spots p xs
  inner_front p xs ys some s k le e = s k (omega (arith, le, some, length-append xs ys)) (ap (behind 0) (take-append-le k xs ys le) ∙ e)

  pub inner_back : (p : ℕ) (xs ys : List Instruction) → behind 0 xs ≡ 0 → Inner p (xs ++ ys) → Inner (p + length xs) ys
  inner_back p xs ys keeps s k lt e =
      subst Spot (omega arith) (s (length xs + k) (omega (arith, lt, length-append xs ys))
      (ap (behind 0) (take-append-add xs ys k) ∙ (behind_append 0 xs (take k ys) ∙ (ap (λ h. behind h (take k ys)) keeps ∙ e))))

  pub inner_first : (p : ℕ) (xs : List Instruction) → 1 ≤ length xs → Inner p xs → Spot p
  inner_first p xs some s = subst Spot (omega arith) (s 0 (omega (arith, some)) refl)

  -- rounds without an end
  pub forever_fits : (body : List Instruction) (p : ℕ) → behind 0 body ≡ 0 → Fitting 0 body → Inner p (body ++ op.Back (length body + 1) ∷ []) → Fits p 0 (body ++ op.Back (length body + 1) ∷ [])
  forever_fits body p level fits s =
      let back = op.Back (length body + 1) ∷ [] in
      let last = inner_first (p + length body) back (omega arith) (inner_back p body back level s) in
      fits_then p 0 0 body back (fits p (inner_front p body back (omega arith) s) (subst Spot (omega arith) last)) level
      ((refl, subst Spot (omega arith) (inner_first p (body ++ back) (omega (arith, length-append body back)) s)), tt)

  tested_fits : (xs ys : List Instruction) (t : Test) (n p : ℕ) → Calm 0 xs → behind 0 xs ≡ popped t → asked_constant t < 65536 → Spot (p + length xs + 1 + n) → Fits (suc (p + length xs)) 0 ys → Fits p 0 (xs ++ (op.AheadUnless t n ∷ ys))
  tested_fits xs ys t n p f up word spot g =
      let down = tested_down t n (popped t) refl in
      fits_then p 0 (popped t) xs (op.AheadUnless t n ∷ ys) (f p) up ((down, spot, word), subst (λ h. Fits (suc (p + length xs)) h ys) (sym down) g)

  pub choosing_fits : (condition arm otherwise : List Instruction) (t : Test) (silent : Bool) (exit : ℕ) → (silent ≡ true → otherwise ≡ []) → Calm 0 condition → behind 0 condition ≡ popped t → asked_constant t < 65536 → behind 0 arm ≡ 0
      → Fitting (length (over silent otherwise exit) + length otherwise + exit) arm → Fitting exit otherwise → Fitting exit (choosing condition t arm silent otherwise exit)
  choosing_fits condition arm otherwise t true exit none f up word level fits other p s end =
      let lc = length-append condition (op.AheadUnless t (length arm + exit) ∷ (arm ++ otherwise)) in
      let la = length-append arm otherwise in
      let lo = ap length (none refl) in
      let q = suc (p + length condition) in
      let rest = spots_over p condition (op.AheadUnless t (length arm + exit)) (arm ++ otherwise) (tested_down t (length arm + exit) (behind 0 condition) up) s in
      tested_fits condition (arm ++ otherwise) t (length arm + exit) p f up word (subst Spot (omega (arith, lc, la, lo)) end)
      (fits_then q 0 0 arm otherwise (fits q (spots_front q arm otherwise rest) (subst Spot (omega (arith, lc, la, lo)) end)) level
      (other (q + length arm) (spots_back q arm otherwise level rest) (subst Spot (omega (arith, lc, la, lo)) end)))
  choosing_fits condition arm otherwise t false exit none f up word level fits other p s end =
      let jump = op.Ahead (length otherwise + exit) in
      let lc = length-append condition (op.AheadUnless t (length arm + 1) ∷ (arm ++ (jump ∷ otherwise))) in
      let la = length-append arm (jump ∷ otherwise) in
      let q = suc (p + length condition) in
      let rest = spots_over p condition (op.AheadUnless t (length arm + 1)) (arm ++ (jump ∷ otherwise)) (tested_down t (length arm + 1) (behind 0 condition) up) s in
      let last = spots_over q arm jump otherwise level rest in
      tested_fits condition (arm ++ (jump ∷ otherwise)) t (length arm + 1) p f up word (subst Spot (omega arith) (spots_first (suc (q + length arm)) otherwise last))
      (fits_then q 0 0 arm (jump ∷ otherwise) (fits q (spots_front q arm (jump ∷ otherwise) rest) (subst Spot (omega (arith, lc, la)) end)) level
      ((refl, subst Spot (omega (arith, lc, la)) end), other (suc (q + length arm)) last (subst Spot (omega (arith, lc, la)) end)))

  pub one_then_more : (silent : Bool) (xs ys : List Instruction) (exit : ℕ) → (silent ≡ true → ys ≡ []) → behind 0 xs ≡ 0 → Fitting (exit_before silent exit) xs → Fitting exit ys → Fitting exit (xs ++ ys)
  one_then_more true xs ys exit none level f g p s end =
      let l = length-append xs ys in
      let lo = ap length (none refl) in
      fits_then p 0 0 xs ys (f p (spots_front p xs ys s) (subst Spot (omega (arith, l, lo)) end)) level (g (p + length xs) (spots_back p xs ys level s) (subst Spot (omega (arith, l)) end))
  one_then_more false xs ys exit none level f g p s end =
      let l = length-append xs ys in
      let rest = spots_back p xs ys level s in
      fits_then p 0 0 xs ys (f p (spots_front p xs ys s) (subst Spot (omega arith) (spots_first (p + length xs) ys rest))) level (g (p + length xs) rest (subst Spot (omega (arith, l)) end))

  tested_loop_fits : (condition body : List Instruction) (t : Test) (exit : ℕ) → Calm 0 condition → behind 0 condition ≡ popped t → asked_constant t < 65536 → behind 0 body ≡ 0 → Fitting 0 body
      → Fitting exit (condition ++ (op.AheadUnless t (length body + 1 + exit) ∷ (body ++ op.Back (length condition + length body + 2) ∷ [])))
  tested_loop_fits condition body t exit f up word level fits p s end =
      let n = length body + 1 + exit in
      let back = op.Back (length condition + length body + 2) ∷ [] in
      let lc = length-append condition (op.AheadUnless t n ∷ (body ++ back)) in
      let lb = length-append body back in
      let q = suc (p + length condition) in
      let rest = spots_over p condition (op.AheadUnless t n) (body ++ back) (tested_down t n (behind 0 condition) up) s in
      tested_fits condition (body ++ back) t n p f up word (subst Spot (omega (arith, lc, lb)) end)
      (fits_then q 0 0 body back (fits q (spots_front q body back rest) (subst Spot (omega arith) (spots_first (q + length body) back (spots_back q body back level rest)))) level
      ((refl, subst Spot (omega arith) (spots_first p (condition ++ (op.AheadUnless t n ∷ (body ++ back))) s)), tt))

  pub while_loop_fits : (b : Bool) (condition body : List Instruction) (t : Test) (exit : ℕ) → Calm 0 condition → behind 0 condition ≡ popped t → asked_constant t < 65536 → behind 0 body ≡ 0 → Fitting 0 body → Fitting exit (while_loop b condition t body exit)
  while_loop_fits true condition body t exit f up word level fits p s end =
      let back = op.Back (length body + 1) ∷ [] in
      fits_then p 0 0 body back (fits p (spots_front p body back s) (subst Spot (omega arith) (spots_first (p + length body) back (spots_back p body back level s)))) level
      ((refl, subst Spot (omega arith) (spots_first p (body ++ back) s)), tt)
  while_loop_fits false condition body t exit f up word level fits p s end = tested_loop_fits condition body t exit f up word level fits p s end

  -- ---- cases

  entries_fit : (before : ℕ) (cases : List (List Instruction)) (p : ℕ) → AreLevel cases → Spots (p + length cases + 1 + before) (all_of cases) → Fits p 0 (entries before cases)
  entries_fit before [] p level s = tt
  entries_fit before (c ∷ cs) p level s = (
    (refl, subst Spot (omega arith) (spots_first (p + suc (length cs) + 1 + before) (c ++ all_of cs) s)),
    entries_fit (before + length c) cs (suc p) level.1 (subst (λ q. Spots q (all_of cs)) (omega arith) (spots_back (p + suc (length cs) + 1 + before) c (all_of cs) level.0 s)),
  )

  pub switching_fits : (cases : List (List Instruction)) (exit : ℕ) → AreLevel cases → Fitting exit (all_of cases) → Fitting exit (switching cases exit)
  switching_fits cases exit level fits p s end =
      let table = entries 0 cases in
      let jump = op.Ahead (length (all_of cases) + exit) in
      let l = length-append table (jump ∷ all_of cases) in
      let n = entries_length 0 cases in
      let rest = spots_next p (op.Switch (length cases)) (table ++ (jump ∷ all_of cases)) refl s in
      let last = spots_over (suc p) table jump (all_of cases) (entries_level 0 cases) rest in
      let q = suc (suc p + length table) in (
        (refl, subst Spot (omega (arith, n)) (spots_first (suc p + length table) (jump ∷ all_of cases) (spots_back (suc p) table (jump ∷ all_of cases) (entries_level 0 cases) rest)), entries_cases 0 cases (jump ∷ all_of cases)),
        fits_then (suc p) 0 0 table (jump ∷ all_of cases) (entries_fit 0 cases (suc p) level (subst (λ q. Spots q (all_of cases)) (omega (arith, n)) last)) (entries_level 0 cases)
            ((refl, subst Spot (omega (arith, l)) end), fits q last (subst Spot (omega (arith, l)) end)),
      )

  pub case_fits : (code others : List Instruction) (exit : ℕ) → behind 0 code ≡ 0 → Fitting (1 + (length others + exit)) code → Fitting exit others → Fitting exit ((code ++ op.Ahead (length others + exit) ∷ []) ++ others)
  case_fits code others exit level f g p s end =
      let jump = op.Ahead (length others + exit) ∷ [] in
      let l = length-append (code ++ jump) others in
      let m = length-append code jump in
      let here = spots_front p (code ++ jump) others s in
      let both = level_then code jump level refl in
      fits_then p 0 0 (code ++ jump) others
      (fits_then p 0 0 code jump (f p (spots_front p code jump here) (subst Spot (omega (arith, l, m)) end)) level ((refl, subst Spot (omega (arith, l, m)) end), tt))
      both (g (p + length (code ++ jump)) (spots_back p (code ++ jump) others both s) (subst Spot (omega (arith, l)) end))

  -- ---- loops with an index

  added_fits : (x : Scalar) (before q : ℕ) → Spot (q - before) → Fits q 0 (add_pushed x before)
  added_fits x before q s = (tt, (tt, (tt, (tt, (tt, ((omega arith, subst Spot (omega arith) s, omega arith), tt))))))

  load_fits : (w : Width) (at : Place) (q h : ℕ) (more : List Instruction) → Fits (suc q) h more → Fits q h (low_load w at ∷ more)
  load_fits widths.Byte at q h more f = (tt, f)
  load_fits widths.Word at q h more f = (tt, f)

  pub index_calm : (bytes : Bool) (x : Scalar) (more : List Instruction) → Calm 0 more → Calm 0 (index_read bytes x ∷ more)
  index_calm true x more f = λ p. (tt, f (suc p))
  index_calm false x more f = λ p. (tt, f (suc p))

  number_fits : (o : Counting) (x : Scalar) (n before q : ℕ) → n < 65536 → Spot (q - before) → Fits q 0 (next_by_number o x n before)
  number_fits counting.Up x n before q lt s = load_fits x.width (place_of x.place) q 0 (op.Next x.width (place_of x.place) n (before + 2) ∷ []) ((refl, subst Spot (omega arith) s, lt), tt)
  number_fits counting.SignedUp x n before q lt s = (tt, (lt, (tt, ((omega arith, subst Spot (omega arith) s, omega arith), tt))))
  number_fits counting.SignedDown x n before q lt s = (tt, (lt, (tt, ((omega arith, subst Spot (omega arith) s, omega arith), tt))))

  next_fits : (o : Counting) (x : Scalar) (step : Operand) (code : List Instruction) (before q : ℕ) → IsWord step → Keeps code → Calm 0 code → Spot (q - before) → Fits q 0 (next_round o x step code before)
  next_fits o x (Number n) code before q lt k f s = number_fits o x n before q lt s
  next_fits o x (Name read y) code before q lt k f s = fits_then q 0 0 code (add_pushed x (before + length code)) (f q) (k 0) (added_fits x (before + length code) (q + length code) (subst Spot (omega arith) s))
  next_fits o x Computed code before q lt k f s = fits_then q 0 0 code (add_pushed x (before + length code)) (f q) (k 0) (added_fits x (before + length code) (q + length code) (subst Spot (omega arith) s))

  pub counted_fits : (first asked body step : List Instruction) (o : Counting) (x : Scalar) (by : Operand) (t : Test) (exit : ℕ) → Calm 0 first → behind 0 first ≡ 0 → Calm 0 asked → behind 0 asked ≡ popped t → asked_constant t < 65536
      → behind 0 body ≡ 0 → Fitting 0 body → IsWord by → Keeps step → Calm 0 step
      → Fitting exit (first
      ++ (op.Store x.width (place_of x.place)
      ∷ (asked ++ (op.AheadUnless t (length body + length (next_round o x by step (length asked + length body + 1)) + exit) ∷ (body ++ next_round o x by step (length asked + length body + 1))))))
  counted_fits first asked body step o x by t exit f fl c up word level fits lt k g p s end =
      let again = next_round o x by step (length asked + length body + 1) in
      let n = length body + length again + exit in
      let test = op.AheadUnless t n ∷ (body ++ again) in
      let q = suc (p + length first) in
      let stored = op.Store x.width (place_of x.place) ∷ (asked ++ test) in
      let lf = length-append first stored in
      let lc = length-append asked test in
      let lb = length-append body again in
      let round = spots_over p first (op.Store x.width (place_of x.place)) (asked ++ test) fl s in
      let rest = spots_over q asked (op.AheadUnless t n) (body ++ again) (tested_down t n (behind 0 asked) up) round in
      let r = suc (q + length asked) in
      fits_then p 0 0 first stored (f p) fl (
        tt,
        tested_fits asked (body ++ again) t n q c up word (subst Spot (omega (arith, lf, lc, lb)) end)
            (fits_then r 0 0 body again (fits r (spots_front r body again rest) (subst Spot (omega arith) (spots_first (r + length body) again (spots_back r body again level rest)))) level
            (next_fits o x by step (length asked + length body + 1) (r + length body) lt k g (subst Spot (omega arith) (spots_first q (asked ++ test) round)))),
      )

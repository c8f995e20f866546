-- What is written for a step spells it.
use Rattle.std.proofs.Common.{◌≡◌, ℕ, zero, suc, ◌+◌, ◌-◌, ◌%◌, ◌<◌, ◌≤◌, inl, inr, List, [], ◌∷◌, ◌++◌, length, map, get_or, set, drop, refl, sym, ap, ◌∙◌, subst, arith, append_assoc, append-nil, length-append}
use Rattle.std.proofs.lemmas.Bool.{cases_lt}
use Rattle.std.proofs.lemmas.List.{length-map, set-get_or}
use Rattle.i86_table.specs.declared.instruction.Condition.{Condition}
use Rattle.i86_table.specs.declared.instruction.Instr.TheVariants as i
use Rattle.i86_table.specs.Arithmetic.{sign_extended}
use Rattle.i86_table.specs.Contexts.{further}
use Rattle.i86_code.specs.declared.form.Form.{Form}
use Rattle.i86_code.specs.Forms.{form_bytes, prefix_bytes, field_bytes, opcode_byte, Spells}
use Rattle.i86_code.specs.Instructions.{instruction_of, instruction_from, byte_instruction, word_instruction}
use Rattle.i86_code.specs.Writing.{form_of, bytes_of}
use Rattle.select.specs.declared.sizes.Extent.{Extent}
use Rattle.select.specs.declared.sizes.Extent.TheVariants.{Jump}
use Rattle.select.specs.declared.part.Fixup.{Fixup}
use Rattle.select.specs.declared.part.Step.{Step}
use Rattle.select.specs.declared.part.Step.TheVariants.{Plain, Refer, AtStep, Word, Goto, GotoIf}
use Rattle.select.specs.Sizes.{start, extent_at, IsInReach, IsSettled, AreSettled}
use Rattle.select.specs.Inner.Settling.{IsExtent, AreExtents}
use Rattle.i86_table.specs.Inverse.{inverse}
use Rattle.select.specs.Parts.{target_of, extent_of, IsSpelt, AreSpelt}
use Rattle.select.specs.Inner.Assembly.{IsStepOf, nothing, AreSteps, distance, jump_bytes, branch_bytes, step_bytes, step_fixups, IsCoded}
use Rattle.select.proofs.Starts.{start_more}
use Rattle.select.proofs.Drafting.{open_long}
use Rattle.select.proofs.Lengthening.{in_reach_or_not}

-- ---- jumps

short_spelt : (d : ℕ) → d < 256 → Spells (bytes_of (i.JumpShort d)) (i.JumpShort d)
unfolding form_of instruction_of instruction_from byte_instruction
short_spelt d l = record { form = form_of (i.JumpShort d); fits = record { kind = refl; fits = l }; spelling = refl; says = refl }

long_spelt : (d : ℕ) → d < 65536 → Spells (bytes_of (i.Jump d)) (i.Jump d)
unfolding form_of instruction_of instruction_from word_instruction
long_spelt d l = record { form = form_of (i.Jump d); fits = record { kind = refl; fits = l }; spelling = refl; says = refl }

branch_spelt : (c : Condition) (d : ℕ) → d < 256 → Spells (bytes_of (i.JumpIf c d)) (i.JumpIf c d)
unfolding form_of instruction_of instruction_from byte_instruction
branch_spelt c d l = record { form = form_of (i.JumpIf c d); fits = record { kind = refl; fits = l }; spelling = refl; says = refl }

short_size : (d : ℕ) → length (bytes_of (i.JumpShort d)) ≡ 2
unfolding form_of
short_size d = refl

long_size : (d : ℕ) → length (bytes_of (i.Jump d)) ≡ 3
unfolding form_of
long_size d = refl

branch_size : (c : Condition) (d : ℕ) → length (bytes_of (i.JumpIf c d)) ≡ 2
unfolding form_of
branch_size c d = refl

-- ---- distances

sign_small : (n : ℕ) → n < 128 → sign_extended n ≡ n
sign_small n l = grind arith

sign_large : (n : ℕ) → 128 ≤ n → sign_extended n ≡ n + 65280
sign_large n l = grind arith

leads_ahead : (there to e : ℕ) → there + e ≡ to → e ≤ 127 → further there (sign_extended (distance (there % 65536) (to % 65536) % 256)) ≡ to % 65536
leads_ahead there to e is l =
    let d = distance (there % 65536) (to % 65536) in
    let m : d % 256 ≡ e = omega arith in
    let s : sign_extended (d % 256) ≡ e = ap sign_extended m ∙ sign_small e (omega arith) in
    ap (λ x. (there + x) % 65536) s ∙ ap (λ x. x % 65536) is

leads_back : (there to e : ℕ) → to + e ≡ there → 1 ≤ e → e ≤ 128 → further there (sign_extended (distance (there % 65536) (to % 65536) % 256)) ≡ to % 65536
leads_back there to e is some l =
    let d = distance (there % 65536) (to % 65536) in
    let m : d % 256 ≡ 256 - e = omega arith in
    let s : sign_extended (d % 256) ≡ 256 - e + 65280 = ap sign_extended m ∙ sign_large (256 - e) (omega arith) in
    ap (λ x. (there + x) % 65536) s ∙ turned
  where
    turned : (there + (256 - e + 65280)) % 65536 ≡ to % 65536
    turned = omega arith

leads_short : (there to : ℕ) → to ≤ there + 127 → there ≤ to + 128 → further there (sign_extended (distance (there % 65536) (to % 65536) % 256)) ≡ to % 65536
leads_short there to ahead back =
    elim (cases_lt to there) [
      | inl lt ↦ leads_back there to (there - to) (omega arith) (omega arith) (omega arith)
      | inr ge ↦ leads_ahead there to (to - there) (omega arith) (omega arith)
    ]

leads_long : (there to : ℕ) → further there (distance (there % 65536) (to % 65536)) ≡ to % 65536
leads_long there to = omega arith

-- ---- one step

-- a step of two bytes is in reach
in_reach : (s : List ℕ) (k t : ℕ) → IsInReach s k t → get_or s k 0 ≡ 2 → (start s t ≤ start s (k + 1) + 127) × (start s (k + 1) ≤ start s t + 128)
in_reach s k t r two =
    let e : set s k 2 ≡ s = ap (λ x. set s k x) (sym two) ∙ set-get_or s k 0 in
    let a = ap (λ l. start l t) e in
    let b = ap (λ l. start l (k + 1)) e in
    (omega (arith, r.ahead, a, b), omega (arith, r.back, a, b))

short_jump : (size far : ℕ) → size ≡ 2 → jump_bytes size far ≡ bytes_of (i.JumpShort (far % 256))
short_jump size far e = ap (λ n. jump_bytes n far) e

long_jump : (size far : ℕ) → size ≡ 3 → jump_bytes size far ≡ bytes_of (i.Jump far)
long_jump size far e = ap (λ n. jump_bytes n far) e

short_branch : (c : Condition) (size far : ℕ) → size ≡ 2 → branch_bytes c size far ≡ bytes_of (i.JumpIf c (far % 256))
short_branch c size far e = ap (λ n. branch_bytes c n far) e

long_branch : (c : Condition) (size far : ℕ) → size ≡ 5 → branch_bytes c size far ≡ bytes_of (i.JumpIf (inverse c) 3) ++ bytes_of (i.Jump far)
long_branch c size far e = ap (λ n. branch_bytes c n far) e

module _ (own : ℕ) (s : List ℕ) (k : ℕ) where
  abbrev here : ℕ
  here = start s k

  abbrev there : ℕ
  there = start s (suc k)

  abbrev size : ℕ
  size = get_or s k 0

  abbrev to : Step → ℕ
  to x = start s (target_of x)

  abbrev written : Step → List ℕ
  written x = step_bytes size (there % 65536) (to x % 65536) x

  sized : (x : Step) → length (written x) ≡ size → here + length (written x) ≡ there
  sized x e = omega (arith, e, start_more s k)

  next_is : start s (k + 1) ≡ there
  next_is = let e : k + 1 ≡ suc k = omega arith in ap (start s) e

  abbrev Done : Step → Type 0
  Done x = IsSpelt own here there (to x) x (written x) (step_fixups own here x) × (length (written x) ≡ size)

  jump_done : (t : ℕ) → IsSettled s k (Jump t 3) → Done (Goto t)
  jump_done t h =
      let far = distance (there % 65536) (start s t % 65536) in
      elim (in_reach_or_not s k t) [
        | inl r ↦
            let two : size ≡ 2 = h.0 r in
            let near = in_reach s k t r two in
            let e : written (Goto t) ≡ bytes_of (i.JumpShort (far % 256)) = short_jump size far two in
            let lead = leads_short there (start s t) (omega (arith, near.0, next_is)) (omega (arith, near.1, next_is)) in
            ((refl, inl (far % 256, subst (λ b. Spells b (i.JumpShort (far % 256))) (sym e) (short_spelt (far % 256) (omega arith)), lead)), ap length e ∙ short_size (far % 256) ∙ sym two)
        | inr f ↦
            let three : size ≡ 3 = h.1 f in
            let e : written (Goto t) ≡ bytes_of (i.Jump far) = long_jump size far three in
            ((refl, inr (far, subst (λ b. Spells b (i.Jump far)) (sym e) (long_spelt far (omega arith)), leads_long there (start s t))), ap length e ∙ long_size far ∙ sym three)
      ]

  branch_done : (c : Condition) (t : ℕ) → IsSettled s k (Jump t 5) → Done (GotoIf c t)
  branch_done c t h =
      let far = distance (there % 65536) (start s t % 65536) in
      elim (in_reach_or_not s k t) [
        | inl r ↦
            let two : size ≡ 2 = h.0 r in
            let near = in_reach s k t r two in
            let e : written (GotoIf c t) ≡ bytes_of (i.JumpIf c (far % 256)) = short_branch c size far two in
            let lead = leads_short there (start s t) (omega (arith, near.0, next_is)) (omega (arith, near.1, next_is)) in
            ((refl, inl (far % 256, subst (λ b. Spells b (i.JumpIf c (far % 256))) (sym e) (branch_spelt c (far % 256) (omega arith)), lead)), ap length e ∙ branch_size c (far % 256) ∙ sym two)
        | inr f ↦
            let five : size ≡ 5 = h.1 f in
            let over = bytes_of (i.JumpIf (inverse c) 3) in
            let long = bytes_of (i.Jump far) in
            let e : written (GotoIf c t) ≡ over ++ long = long_branch c size far five in
            let n : length (over ++ long) ≡ 5 = length-append over long ∙ omega (arith, branch_size (inverse c) 3, long_size far) in
            ((refl, inr (far, over, long, e, branch_spelt (inverse c) 3 (omega arith), branch_size (inverse c) 3, long_spelt far (omega arith), long_size far, leads_long there (start s t))), ap length e ∙ n ∙ sym five)
      ]

  done : (x : Step) → IsSettled s k (extent_of x) → IsCoded x → Done x
  done (Plain n) h c = ((c, refl), sym h)
  done (Refer x n kind name) h c = ((c, refl, refl), open_long x n ∙ sym h)
  done (AtStep x t) h c = ((c, refl, refl), open_long x (start s t % 65536) ∙ sym h)
  done (Word t) h c = ((refl, refl), sym h)
  done (Goto t) h c = jump_done t h
  done (GotoIf b t) h c = branch_done b t h

-- ---- all steps

pub extent_here : (xs : List Step) (k : ℕ) → k < length xs → extent_at (map extent_of xs) k ≡ extent_of (get_or xs k nothing)
extent_here [] k l = absurd (omega arith)
extent_here (x ∷ xs) zero l = refl
extent_here (x ∷ xs) (suc k) l = extent_here xs k (omega arith)

some_bytes : (f : Form) → 1 ≤ length (form_bytes f)
some_bytes f = let e = length-append (prefix_bytes f.prefixes) (opcode_byte f.opcode ∷ field_bytes f.fields) in omega (arith, e)

extent_good : (many : ℕ) (x : Step) → IsStepOf many x → IsExtent many (extent_of x)
extent_good many (Plain n) h = some_bytes (form_of n)
extent_good many (Refer x n kind name) h = omega arith
extent_good many (AtStep x t) h = omega arith
extent_good many (Word t) h = omega arith
extent_good many (Goto t) h = (omega arith, h)
extent_good many (GotoIf c t) h = (omega arith, h)

pub extents_good : (xs : List Step) (es : List Extent) → es ≡ map extent_of xs → AreSteps xs → AreExtents es
extents_good xs es e good k l =
    let n : length es ≡ length xs = ap length e ∙ length-map xs extent_of in
    let l' : k < length xs = omega (arith, n) in
    let a : extent_at es k ≡ extent_of (get_or xs k nothing) = ap (λ (y : List Extent). extent_at y k) e ∙ extent_here xs k l' in
    let g : IsExtent (length xs) (extent_of (get_or xs k nothing)) = extent_good (length xs) (get_or xs k nothing) (good k l') in
    subst (λ (m : ℕ). IsExtent m (extent_at es k)) (sym n) (subst (IsExtent (length xs)) (sym a) g)

pub target_in : (many : ℕ) (x : Step) → 0 < many → IsStepOf many x → target_of x ≤ many
target_in many (Plain n) some h = omega arith
target_in many (Refer x n kind name) some h = omega arith
target_in many (AtStep x t) some h = omega arith
target_in many (Word t) some h = omega arith
target_in many (Goto t) some h = omega arith
target_in many (GotoIf c t) some h = omega arith

-- one more step is written
module _ (own : ℕ) (s : List ℕ) (xs : List Step) (settled : AreSettled (map extent_of xs) s) (k : ℕ) (lt : k < length xs) (x : Step) (is : x ≡ get_or xs k nothing) (coded : IsCoded x) where
  settled_here : IsSettled s k (extent_of x)
  settled_here =
      let l : k < length (map extent_of xs) = omega (arith, length-map xs extent_of) in
      let e : extent_at (map extent_of xs) k ≡ extent_of x = extent_here xs k lt ∙ ap extent_of (sym is) in
      subst (IsSettled s k) e (settled.each k l)

  abbrev code : List ℕ
  code = step_bytes (get_or s k 0) (start s (suc k) % 65536) (start s (target_of x) % 65536) x

  abbrev filled : List Fixup
  filled = step_fixups own (start s k) x

  pub more : (before : List ℕ) (before_fixups : List Fixup) (after : List ℕ) (after_fixups : List Fixup)
      → drop k xs ≡ x ∷ drop (k + 1) xs → after ≡ before ++ code → after_fixups ≡ before_fixups ++ filled
      → ((bs : List ℕ) (fs : List Fixup) → AreSpelt own (start s) k (drop k xs) bs fs → AreSpelt own (start s) 0 xs (before ++ bs) (before_fixups ++ fs))
      → (bs : List ℕ) (fs : List Fixup) → AreSpelt own (start s) (k + 1) (drop (k + 1) xs) bs fs → AreSpelt own (start s) 0 xs (after ++ bs) (after_fixups ++ fs)
  more before before_fixups after after_fixups here e f rest bs fs h =
      let both = done own s k x settled_here coded in
      let one : k + 1 ≡ suc k = omega arith in
      let h' : AreSpelt own (start s) (suc k) (drop (k + 1) xs) bs fs = subst (λ n. AreSpelt own (start s) n (drop (k + 1) xs) bs fs) one h in
      let now : AreSpelt own (start s) k (x ∷ drop (k + 1) xs) (code ++ bs) (filled ++ fs) = (code, bs, filled, fs, refl, refl, omega (arith, both.1, start_more s k), both.0, h') in
      let all = rest (code ++ bs) (filled ++ fs) (subst (λ l. AreSpelt own (start s) k l (code ++ bs) (filled ++ fs)) (sym here) now) in
      let a : before ++ (code ++ bs) ≡ after ++ bs = sym (append_assoc before code bs) ∙ ap (λ l. l ++ bs) (sym e) in
      let b : before_fixups ++ (filled ++ fs) ≡ after_fixups ++ fs = sym (append_assoc before_fixups filled fs) ∙ ap (λ l. l ++ fs) (sym f) in
      subst (λ l. AreSpelt own (start s) 0 xs (after ++ bs) l) b (subst (λ l. AreSpelt own (start s) 0 xs l (before_fixups ++ (filled ++ fs))) a all)

  pub longer : (before after : List ℕ) → after ≡ before ++ code → length before ≡ start s k → length after ≡ start s (k + 1)
  longer before after e l =
      let both = done own s k x settled_here coded in
      let one : k + 1 ≡ suc k = omega arith in
      let p = ap (start s) one in
      let q = ap length e ∙ length-append before code in
      omega (arith, p, q, l, both.1, start_more s k)

pub all_written : (own : ℕ) (at : ℕ → ℕ) (k : ℕ) (xs : List Step) (code : List ℕ) (fixups : List Fixup) → drop k xs ≡ []
    → ((bs : List ℕ) (fs : List Fixup) → AreSpelt own at k (drop k xs) bs fs → AreSpelt own at 0 xs (code ++ bs) (fixups ++ fs))
    → AreSpelt own at 0 xs code fixups
all_written own at k xs code fixups none rest =
    let all = rest [] [] (subst (λ l. AreSpelt own at k l [] []) (sym none) (refl, refl)) in
    subst (λ l. AreSpelt own at 0 xs code l) (append-nil fixups) (subst (λ l. AreSpelt own at 0 xs l (fixups ++ [])) (append-nil code) all)

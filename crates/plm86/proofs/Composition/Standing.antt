-- The steps of each routine stand in the ROM, at places below its end.
use Rattle.std.proofs.Common.{◌≡◌, ℕ, zero, suc, ◌+◌, ◌≤◌, List, [], ◌∷◌, length, take, Option, Some, None, refl, sym, ap, ◌∙◌, subst, arith, length-append}
use Rattle.std.specs.Prelude.{slice_get, slice_index}
use Rattle.std.proofs.lemmas.List.{length-map}
use Rattle.std.proofs.lemmas.List.Sums.{sum_by-cons}
use Rattle.i86_table.specs.declared.instruction.Instr.{Instr}
use Rattle.icode.specs.declared.code.Routine.{Routine}
use Rattle.icode.specs.declared.code.Code.{Code}
use Rattle.icode.specs.declared.registers.Registers.{Registers}
use Rattle.icode.specs.Code.{code_of}
use Rattle.select.specs.declared.part.Fixup.{Fixup}
use Rattle.select.specs.declared.part.Part.{Part}
use Rattle.select.specs.declared.part.Step.{Step}
use Rattle.select.specs.Linked.{AllStand}
use Rattle.select.specs.Parts.{IsPart, AreSpelt, extent_of}
use Rattle.select.specs.Rows.{routine}
use Rattle.select.specs.Selection.{IsPartOf, ArePartsOf, part_of}
use Rattle.select.specs.Sizes.{start}
use Rattle.layout_link.specs.Places.{total_of, places_from}
use Rattle.layout_link.specs.Stand.{PartsStand}
use Rattle.plm86.specs.Inner.Assembled.{sizes_in}

-- ---- the part of a routine

module _ (c : Code) (saves : Routine → Registers) where
  -- the n-th routine's part is the n-th, and these are its steps' sizes
  pub part_at : (own : ℕ) (rs : List Routine) (ps : List Part) (are : ArePartsOf c saves own rs ps) (n : ℕ) (r : Routine) → slice_get rs n ≡ Some r
      → (p : Part) × (m : ℕ) × (is : IsPartOf c saves m r p) × (slice_get ps n ≡ Some p) × (m ≡ own + n) × (sizes_in c saves own rs ps are n ≡ is.is_part.sizes)
  part_at own [] ps are n r e = absurd (cc)
  part_at own (x ∷ xs) [] are n r e = absurd are
  part_at own (x ∷ xs) (p ∷ ps) are zero r e =
      let same : x ≡ r = ap (or_else x) e in
      subst (λ z. (q : Part) × (m : ℕ) × (is : IsPartOf c saves m z q) × (Some p ≡ Some q) × (m ≡ own + 0) × (are.0.is_part.sizes ≡ is.is_part.sizes)) same
      (p, own, are.0, refl, omega arith, refl)
    where
      or_else : Routine → Option Routine → Routine
      or_else d (Some z) = z
      or_else d None = d
  part_at own (x ∷ xs) (p ∷ ps) are (suc n) r e =
      let found = part_at (own + 1) xs ps are.1 n r e in
      (found.0, found.1, found.2, found.3, omega (arith, found.4), found.5)

  module _ (code : ℕ → Option (Instr × ℕ)) (words : ℕ → Option ℕ) (offsets places : List ℕ) (rs : List Routine) (ps : List Part) (are : ArePartsOf c saves 0 rs ps) (stand : PartsStand code words offsets places ps) where
    -- the steps of the n-th routine stand from its part's place on
    pub stands : (n : ℕ) (r : Routine) → slice_get rs n ≡ Some r
        → AllStand code words offsets places (λ j. slice_index places n + start (sizes_in c saves 0 rs ps are n) j) 0 (routine (part_of c) (saves r) (code_of c r))
    stands n r e =
        let found = part_at 0 rs ps are n r e in
        let own : found.1 ≡ n = omega (arith, found.4) in
        let steps = routine (part_of c) (saves r) (code_of c r) in
        let is = found.2.is_part in
        let there = stand found.1 found.0 steps (ap (slice_get ps) own ∙ found.3) is in
        let at_n = subst (λ z. AllStand code words offsets places (λ j. slice_index places z + start is.sizes j) 0 steps) own there in
        subst (λ z. AllStand code words offsets places (λ j. slice_index places n + start z j) 0 steps) (sym found.5) at_n

-- ---- no step begins past the end of its part

-- the bytes of steps end where the last of them ends
pub spelt_end : (own : ℕ) (at : ℕ → ℕ) (k : ℕ) (steps : List Step) (bytes : List ℕ) (fixups : List Fixup) → AreSpelt own at k steps bytes fixups → at (k + length steps) ≡ at k + length bytes
spelt_end own at k [] bytes fixups s = let e : k + 0 ≡ k = omega arith in omega (arith, ap at e, ap length s.0)
spelt_end own at k (x ∷ xs) bytes fixups s =
    let more : suc k + length xs ≡ k + length (x ∷ xs) = omega arith in
    omega (arith, ap at more, spelt_end own at (suc k) xs s.1 s.3 s.8, ap length s.4, length-append s.0 s.1, s.6)

start_within : (sizes : List ℕ) (k : ℕ) → start sizes k ≤ start sizes (length sizes)
start_within [] zero = omega arith
start_within [] (suc k) = omega arith
start_within (n ∷ ns) zero = omega arith
start_within (n ∷ ns) (suc k) = omega (arith, start_within ns k, sum_by-cons (λ z. z) n (take k ns), sum_by-cons (λ z. z) n (take (length ns) ns))

step_within : (own : ℕ) (steps : List Step) (bytes : List ℕ) (fixups : List Fixup) (is : IsPart own steps bytes fixups) (k : ℕ) → start is.sizes k ≤ length bytes
step_within own steps bytes fixups is k =
    let many : length is.sizes ≡ 0 + length steps = omega (arith, is.settled.many, length-map steps extent_of) in
    let begin : start is.sizes 0 ≡ 0 = refl in
    omega (arith, start_within is.sizes k, ap (start is.sizes) many, spelt_end own (start is.sizes) 0 steps bytes fixups is.spelt, begin)

module _ (c : Code) (saves : Routine → Registers) where
  -- nor past the last part, where parts lie one after another
  pub steps_within : (own : ℕ) (rs : List Routine) (ps : List Part) (are : ArePartsOf c saves own rs ps) (from n k : ℕ)
      → slice_index (places_from from ps) n + start (sizes_in c saves own rs ps are n) k ≤ from + total_of ps
  steps_within own [] [] are from n k = past n k
    where
      past : (n k : ℕ) → slice_index (places_from from []) n + start [] k ≤ from + 0
      past zero zero = omega arith
      past zero (suc k) = omega arith
      past (suc n) zero = omega arith
      past (suc n) (suc k) = omega arith
  steps_within own [] (p ∷ ps) are from n k = absurd are
  steps_within own (r ∷ rs) [] are from n k = absurd are
  steps_within own (r ∷ rs) (p ∷ ps) are from zero k = omega (arith, step_within own (routine (part_of c) (saves r) (code_of c r)) p.bytes.items p.fixups.items are.0.is_part k)
  steps_within own (r ∷ rs) (p ∷ ps) are from (suc n) k = omega (arith, steps_within (own + 1) rs ps are.1 (from + length p.bytes.items) n k)

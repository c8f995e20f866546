-- How many bytes a part has at most: those of its steps, jumps counted long.
use Rattle.std.proofs.Common.{◌≡◌, ℕ, zero, suc, ◌+◌, ◌<◌, ◌≤◌, List, [], ◌∷◌, length, map, get_or, refl, ap, ◌∙◌, arith, inl, inr, length-append, subst}
use Rattle.std.specs.Prelude.{sum}
use Rattle.std.proofs.lemmas.Bool.{cases_lt}
use Rattle.std.proofs.lemmas.List.{length-map, get_or_past}
use Rattle.select.proofs.Spelling.{extent_here}
use Rattle.select.specs.declared.sizes.Extent.TheVariants.{Jump}
use Rattle.select.specs.declared.part.Fixup.{Fixup}
use Rattle.select.specs.declared.part.Step.{Step}
use Rattle.select.specs.declared.part.Step.TheVariants.{Plain, Refer, AtStep, Word, Goto, GotoIf}
use Rattle.select.specs.Sizes.{start, IsSettled}
use Rattle.select.specs.Parts.{extent_of, AreSpelt, IsPart}
use Rattle.select.specs.Inner.Settling.{longest}
use Rattle.select.specs.Inner.Assembly.{nothing}
use Rattle.select.proofs.Starts.{gap_le, whole}
use Rattle.select.proofs.Lengthening.{in_reach_or_not}

-- the steps have all bytes of the part
pub spelt_long : (own : ℕ) (at : ℕ → ℕ) (k : ℕ) (xs : List Step) (bytes : List ℕ) (fixups : List Fixup) → AreSpelt own at k xs bytes fixups → at (k + length xs) ≡ at k + length bytes
spelt_long own at k [] bytes fixups h = let e : k + 0 ≡ k = omega arith in let p = ap at e in let q = ap length h.0 in omega (arith, p, q)
spelt_long own at k (x ∷ xs) bytes fixups (b, bs, f, fs, bytes_are, fixups_are, ends, spelt, rest) =
    let e : k + suc (length xs) ≡ suc k + length xs = omega arith in
    let p = ap at e in
    let r = spelt_long own at (suc k) xs bs fs rest in
    let q = ap length bytes_are ∙ length-append b bs in
    omega (arith, p, q, r, ends)

jump_bounded : (s : List ℕ) (k t long : ℕ) → 2 ≤ long → IsSettled s k (Jump t long) → get_or s k 0 ≤ long
jump_bounded s k t long le h = elim (in_reach_or_not s k t) [ inl r ↦ let p = h.0 r in omega (arith, p, le) | inr f ↦ let p = h.1 f in omega (arith, p) ]

step_bounded : (s : List ℕ) (k : ℕ) (x : Step) → IsSettled s k (extent_of x) → get_or s k 0 ≤ longest (extent_of x)
step_bounded s k (Plain n) h = omega (arith, h)
step_bounded s k (Refer x n kind name) h = omega (arith, h)
step_bounded s k (AtStep x t) h = omega (arith, h)
step_bounded s k (Word t) h = omega (arith, h)
step_bounded s k (Goto t) h = jump_bounded s k t 3 (omega arith) h
step_bounded s k (GotoIf c t) h = jump_bounded s k t 5 (omega arith) h

longest_here : (xs : List Step) (k : ℕ) → k < length xs → get_or (map (λ x. longest (extent_of x)) xs) k 0 ≡ longest (extent_of (get_or xs k nothing))
longest_here [] k l = absurd (omega arith)
longest_here (x ∷ xs) zero l = refl
longest_here (x ∷ xs) (suc k) l = longest_here xs k (omega arith)

pub part_bounded : (own : ℕ) (steps : List Step) (bytes : List ℕ) (fixups : List Fixup) → IsPart own steps bytes fixups → length bytes ≤ sum (map (λ x. longest (extent_of x)) steps)
part_bounded own steps bytes fixups is =
    let s = is.sizes in
    let most = map (λ x. longest (extent_of x)) steps in
    let n = length steps in
    let many : length s ≡ n = is.settled.many ∙ length-map steps extent_of in
    let g = gap_le s most 0 n (λ k z. each k) in
    let all = spelt_long own (start s) 0 steps bytes fixups is.spelt in
    let e : 0 + n ≡ length most = let l = length-map steps (λ x. longest (extent_of x)) in omega (arith, l) in
    let b = ap (start most) e ∙ whole most in
    omega (arith, g, all, b)
  where
    each : (k : ℕ) → get_or is.sizes k 0 ≤ get_or (map (λ x. longest (extent_of x)) steps) k 0
    each k =
        elim (cases_lt k (length steps)) [
          | inl lt ↦
              let l : k < length (map extent_of steps) = let m = length-map steps extent_of in omega (arith, m, lt) in
              let h = subst (IsSettled is.sizes k) (extent_here steps k lt) (is.settled.each k l) in
              let p = step_bounded is.sizes k (get_or steps k nothing) h in
              let q = longest_here steps k lt in
              omega (arith, p, q)
          | inr ge ↦
              let m = is.settled.many ∙ length-map steps extent_of in
              let q : get_or is.sizes k 0 ≡ 0 = get_or_past is.sizes k 0 (omega (arith, m, ge)) in
              omega (arith, q)
        ]

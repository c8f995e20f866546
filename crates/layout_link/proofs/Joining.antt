-- Initial bytes that are joined to stretches.
use Rattle.std.proofs.Common.{◌≡◌, ℕ, suc, ◌+◌, ◌<◌, ◌≤◌, List, [], ◌∷◌, ◌++◌, length, map, get_or, refl, ap, ◌∙◌, arith, length-append}
use Rattle.std.specs.Prelude.{◌==◌}
use Rattle.std.specs.List.{All}
use Rattle.std.proofs.lemmas.Bool.{eqb-true, cond_both}
use Rattle.std.proofs.lemmas.List.Elements.{All-head, All-tail}
use Rattle.word86.specs.MemoryMap.{data_start, data_end}
use Rattle.plm_decl.specs.declared.names.Object.{Object}
use Rattle.plm_decl.specs.declared.names.Variable.{Variable}
use Rattle.layout_link.specs.Initial.{Stretch, stretch, joined, object_bytes, stretches, count_of}

-- ---- what is joined

pub by_joined : (P : List Stretch → Type 0) (a : ℕ) (xs : List ℕ) (b : ℕ) (ys : List ℕ) (rest : List Stretch)
    → (b ≡ a + length xs → P (stretch a (xs ++ ys) ∷ rest)) → P (stretch a xs ∷ stretch b ys ∷ rest) → P (joined a xs (stretch b ys ∷ rest))
by_joined P a xs b ys rest f g =
    cond_both (b == a + length xs) (stretch a (xs ++ ys) ∷ rest) (stretch a xs ∷ stretch b ys ∷ rest) P (λ e. f (eqb-true b (a + length xs) e)) (λ e. g)

-- ---- how many bytes, and where

abbrev pub total : List Stretch → ℕ
total [] = 0
total (stretch to bytes ∷ rest) = length bytes + total rest

-- they lie below 65,536
abbrev pub AreLow : List Stretch → Type 0
AreLow [] = Unit {0}
AreLow (stretch to bytes ∷ rest) = (to + length bytes < 65536) × AreLow rest

total_joined : (a : ℕ) (xs : List ℕ) (ss : List Stretch) → total (joined a xs ss) ≡ length xs + total ss
total_joined a xs [] = refl
total_joined a xs (stretch b ys ∷ rest) =
    let l = length-append xs ys in
    by_joined (λ all. total all ≡ length xs + (length ys + total rest)) a xs b ys rest (λ e. omega (arith, l)) refl

low_joined : (a : ℕ) (xs : List ℕ) (ss : List Stretch) → a + length xs < 65536 → AreLow ss → AreLow (joined a xs ss)
low_joined a xs [] lt low = (lt, tt)
low_joined a xs (stretch b ys ∷ rest) lt low =
    let l = length-append xs ys in
    let first = low.0 in
    by_joined AreLow a xs b ys rest (λ e. (omega (arith, l, e, first), low.1)) (lt, low)

module _ (offsets : List ℕ) (variables : List Variable) where
  pub total_is : (k : ℕ) (os : List Object) → total (stretches offsets variables k os) ≡ count_of offsets variables os
  total_is k [] = refl
  total_is k (o ∷ os) = let h = total_is (k + 1) os in total_joined (data_start + get_or offsets k 0) (object_bytes offsets variables o) (stretches offsets variables (k + 1) os) ∙ omega (arith, h)

  -- an object has room for its initial bytes
  abbrev pub HasRoom : Object → Type 0
  HasRoom o = length (object_bytes offsets variables o) ≤ o.size

  pub are_low : (k : ℕ) (os : List Object) → All HasRoom os → ((i : ℕ) → get_or offsets (k + i) 0 + get_or (map (λ o. o.size) os) i 0 ≤ data_end) → AreLow (stretches offsets variables k os)
  are_low k [] fit room = tt
  are_low k (o ∷ os) fit room =
      let here : k + 0 ≡ k = omega arith in
      let r = room 0 in
      let at_k = ap (λ n. get_or offsets n 0) here in
      let rest_room : (i : ℕ) → get_or offsets (k + 1 + i) 0 + get_or (map (λ x. x.size) os) i 0 ≤ data_end = λ i.
      let e : k + suc i ≡ k + 1 + i = omega arith in
      let p = ap (λ n. get_or offsets n 0) e in
      let q = room (suc i) in
      omega (arith, p, q) in
      low_joined (data_start + get_or offsets k 0) (object_bytes offsets variables o) (stretches offsets variables (k + 1) os)
      (omega (arith, r, at_k, All-head HasRoom o os fit)) (are_low (k + 1) os (All-tail HasRoom o os fit) rest_room)

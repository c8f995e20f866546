-- The words of a table stand after the `Switch` that jumps through it.
use Rattle.std.proofs.Common.{◌≡◌, ℕ, zero, suc, ◌+◌, ◌*◌, ◌<◌, ◌≤◌, Some, ap, ◌∙◌, arith, slice_get, ◌%◌, ◌^◌}
use Rattle.icode.specs.declared.instruction.Instruction.{Instruction}
use Rattle.icode.specs.declared.instruction.Instruction.TheVariants as op
use Rattle.icode.specs.declared.code.Routine.{Routine}
use Rattle.select.specs.Rows.{row, first_of}
use Rattle.select.specs.Promise.{Image, IsSelected, place_of}
use Rattle.select.proofs.Cases.{a_case}
use Rattle.select.proofs.Chains

-- an index shifted by one is doubled
pub twice : (y z : ℕ) → z + 2 * y < 65536 → y * 2 ^ 1 % 65536 ≡ 2 * y
twice y z l = omega (arith, l)

-- a sum below 65,536, the other way round
pub turned_sum : (y z : ℕ) → z + y < 65536 → (y + z) % 65536 ≡ z + y
turned_sum y z l = omega (arith, l)

pub index_sum : (k y z : ℕ) → k + 1 + y + 1 + z ≡ k + 1 + suc y + z
index_sum k y z = omega arith

module _ (x : Image) (all : IsSelected x)
    (rows_stand : (r : Routine) (k : ℕ) (ins : Instruction) → slice_get (x.icode r) k ≡ Some ins → Chains.From x.code x.words x.offsets x.places (x.at r) (place_of x r k) (row (first_of (x.saves r) (x.icode r)) x.part (x.saves r) (k + 1) ins) (place_of x r (k + 1)))
    (r : Routine) (k m : ℕ) (e : slice_get (x.icode r) k ≡ Some (op.Switch m)) where
  abbrev place : ℕ → ℕ
  place = place_of x r

  pub case_at : (j : ℕ) → j < m → (c : ℕ) × (slice_get (x.icode r) (k + 1 + j) ≡ Some (op.Case c))
  case_at j l = a_case (slice_get (x.icode r) (k + 1 + j)) ((all.made r).cases k j (op.Switch m) e l)

  -- they stand two bytes apart
  pub entry_at : (j : ℕ) → j ≤ m → place (k + 1 + j) ≡ place (k + 1) + 2 * j
  entry_at zero l = let q : k + 1 + 0 ≡ k + 1 = omega arith in ap place q ∙ by_zero (place (k + 1))
    where
      by_zero : (y : ℕ) → y ≡ y + 2 * 0
      by_zero y = omega arith
  entry_at (suc j) l =
      let c = case_at j (omega (arith, l)) in
      let s = rows_stand r (k + 1 + j) (op.Case c.0) c.1 in
      let q : k + 1 + j + 1 ≡ k + 1 + suc j = omega arith in
      let two : place (k + 1 + j) + 2 ≡ place (k + 1 + suc j) = s.1.1 ∙ s.3 ∙ ap place q in
      let before = entry_at j (omega (arith, l)) in
      omega (arith, two, before)

  pub entry_small : (j : ℕ) → j ≤ m → place (k + 1) + 2 * j < 65536
  entry_small j l = let s = all.low r (first_of (x.saves r) (x.icode r) (k + 1 + j)) in omega (arith, s, entry_at j l)

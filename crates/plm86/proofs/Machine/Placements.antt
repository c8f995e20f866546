-- A placement of a program's objects is one of the board's.
use Rattle.std.proofs.Common.{ℕ, ◌+◌, ◌<◌, inl, inr, List, length, arith}
use Rattle.std.specs.Prelude.{slice_index}
use Rattle.std.proofs.lemmas.Bool.{cases_lt, cases_eq}
use Rattle.std.proofs.lemmas.List.{get_or_past}
use Rattle.plm_decl.specs.Placement.{IsPlacement}
use Rattle.plm86.specs.Relation.{Placed}

-- an object with a byte is one of the list
listed : (sizes : List ℕ) (k i : ℕ) → i < slice_index sizes k → k < length sizes
listed sizes k i h = elim (cases_lt k (length sizes)) [
  | inl lt ↦ lt
  | inr le ↦ absurd (omega (arith, h, get_or_past sizes k 0 le))
]

pub placed_by : (offsets sizes : List ℕ) → IsPlacement offsets sizes → Placed (slice_index offsets) (slice_index sizes)
placed_by offsets sizes x = record {
  above = λ k i lt. (x.within k (listed sizes k i lt) (slice_index offsets k + i) (omega arith, omega (arith, lt))).0;
  below = λ k i lt. (x.within k (listed sizes k i lt) (slice_index offsets k + i) (omega arith, omega (arith, lt))).1;
  apart = λ k h i j li lj same. elim (cases_eq k h) [
    | inl e ↦ e
    | inr ne ↦ elim (cases_lt k h) [
      | inl lt ↦ absurd (x.apart h (listed sizes h j lj) k lt (slice_index offsets k + i) (omega arith, omega (arith, li)) (omega (arith, same), omega (arith, same, lj)))
      | inr le ↦ absurd (x.apart k (listed sizes k i li) h (omega (arith, ne, le)) (slice_index offsets h + j) (omega arith, omega (arith, lj)) (omega (arith, same), omega (arith, same, li)))
    ]
  ];
}

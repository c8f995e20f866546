use Rattle.std.specs.Prelude.{◌≡◌, ℕ, ◌<◌, ◌≤◌, length, slice_index}
use Rattle.plm_meaning.proofs.owners.claim.Given as goal

abbrev pub invariant-loop-address : goal.invariant-loop-address
invariant-loop-address l = record {
  own : (b : ℕ) → l.from ≤ b → b < l.address → slice_index l.owners.items b ≡ l.object;
  before : (b : ℕ) → b < l.from → slice_index l.owners.items b ≡ slice_index l.initial.owners.items b;
  after : (b : ℕ) → l.address ≤ b → slice_index l.owners.items b ≡ slice_index l.initial.owners.items b;
  same_length : length l.owners.items ≡ length l.initial.owners.items;
}

use Rattle.std.proofs.Common.{◌≡◌, ◌<◌, ◌%◌, ℕ, length, get_or}
use Rattle.select.specs.Sizes.{start}
use Rattle.select.proofs.assembly.places_of.Given as goal

abbrev pub invariant-loop-size : goal.invariant-loop-size
invariant-loop-size l = record {
  many : length l.places.items ≡ l.size-index;
  before : (k : ℕ) → k < l.size-index → get_or l.places.items k 0 ≡ start l.sizes k % 65536;
  here : l.place ≡ start l.sizes l.size-index % 65536;
}

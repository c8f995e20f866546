-- Where rows lie: their first steps, where these begin.
use Rattle.std.proofs.Common.{◌≡◌, ℕ, suc, ◌<◌, ◌≤◌, ◌%◌, List, length, map, ap, subst, ◌∙◌, arith}
use Rattle.std.specs.Prelude.{slice_index}
use Rattle.std.proofs.lemmas.List.{get_or-map, length-map}
use Rattle.icode.specs.declared.code.Routine.{Routine}
use Rattle.icode.specs.declared.code.Code.{Code}
use Rattle.icode.specs.declared.registers.Registers.{Registers}
use Rattle.icode.specs.Code.{code_of}
use Rattle.select.specs.declared.part.Step.{Step}
use Rattle.select.specs.Parts.{extent_of}
use Rattle.select.specs.Sizes.{start, AreSettled, AreLeast}
use Rattle.select.specs.Rows.{routine, first_of}
use Rattle.select.specs.Selection.{part_of, AreSavedBy}
use Rattle.select.specs.RowPlaces.{AreRowPlaces}
use Rattle.select.proofs.Steps.{first_within}

pub row_places_are : (c : Code) (r : Routine) (saves : Routine → Registers) (steps : List Step) (sizes places firsts found : List ℕ)
    → AreSavedBy c saves → steps ≡ routine (part_of c) (saves r) (code_of c r)
    → AreSettled (map extent_of steps) sizes → AreLeast (map extent_of steps) sizes → ((k : ℕ) → k ≤ length sizes → slice_index places k ≡ start sizes k % 65536)
    → length firsts ≡ suc (length (code_of c r)) → ((k : ℕ) → k ≤ length (code_of c r) → slice_index firsts k ≡ first_of (saves r) (code_of c r) k)
    → found ≡ map (slice_index places) firsts → AreRowPlaces c r found
row_places_are c r saves steps sizes places firsts found saved same settled least at many each is = record {
  saves = saves;
  saved = saved;
  sizes = sizes;
  settled = subst (λ z. AreSettled (map extent_of z) sizes) same settled;
  least = subst (λ z. AreLeast (map extent_of z) sizes) same least;
  many = ap length is ∙ length-map firsts (slice_index places) ∙ many;
  each = λ k le.
      let inside : k < length firsts = omega (arith, le, many) in
      let within : first_of (saves r) (code_of c r) k ≤ length sizes =
      omega (arith, settled.many, length-map steps extent_of, ap length same, first_within (part_of c) (saves r) (code_of c r) k le) in
      ap (λ z. slice_index z k) is ∙ get_or-map (slice_index places) firsts k 0 0 inside ∙ ap (slice_index places) (each k le) ∙ at (first_of (saves r) (code_of c r) k) within;
}

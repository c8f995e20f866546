-- A store into an object of the code is one into the object that it stands for.
use Rattle.std.proofs.Common.{◌≡◌, ℕ, ◌<◌, List, [], length, map, sym, ap, ◌∙◌, get_or}
use Rattle.std.specs.Prelude.{slice_set, slice_index_or}
use Rattle.std.specs.Global.{Vec}
use Rattle.std.proofs.lemmas.List.{map-set, get_or-map}
use Rattle.word86.specs.declared.width.Width.{Width}
use Rattle.plm_meaning.specs.Store.{with_value}

pub object_stored : (os : List (Vec ℕ)) (k : ℕ) (old new : Vec ℕ) (width : Width) (i v : ℕ) → k < length os → old ≡ get_or os k old → new.items ≡ with_value width old.items i v
    → map (λ b. b.items) (slice_set os k new) ≡ slice_set (map (λ b. b.items) os) k (with_value width (slice_index_or (map (λ b. b.items) os) k []) i v)
object_stored os k old new width i v lt here e =
    map-set (λ b. b.items) os k new
    ∙ ap (slice_set (map (λ b. b.items) os) k) (e ∙ ap (λ b. with_value width b i v) (ap (λ b. b.items) here ∙ sym (get_or-map (λ b. b.items) os k old [] lt)))

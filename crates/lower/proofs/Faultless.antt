-- Lists of faults that hold none.
use Rattle.std.proofs.Common.{◌≡◌, ℕ, Bool, true, false, List, [], ◌∷◌, ◌++◌, refl}
use Rattle.word86.specs.declared.number.Number.{Number}
use Rattle.plm_syntax.specs.declared.tree.Position.{Position}
use Rattle.plm_decl.specs.declared.found.Found.{Found}
use Rattle.plm_type.specs.Faults.{fault_unless}

pub not_none : (x : Found) (xs : List Found) → x ∷ xs ≡ [] → ⊥
not_none x xs e = cc

pub none_of_both : (fs gs : List Found) → fs ++ gs ≡ [] → (fs ≡ []) × (gs ≡ [])
none_of_both [] gs e = (refl, e)
none_of_both (f ∷ fs) gs e = absurd (not_none f (fs ++ gs) e)

pub holds_without_fault : (m : ℕ) (b : Bool) (n : Number) (p : Position) → fault_unless m b n p ≡ [] → b ≡ true
holds_without_fault m true n p e = refl
holds_without_fault m false n p e = cc

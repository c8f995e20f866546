-- At a place in blocks a name means what the innermost block that declares it declares.
use Rattle.std.proofs.Common.{◌≡◌, ℕ, List, [], ◌∷◌, Bool, true, false, cond, is_some, refl, ◌∙◌}
use Rattle.plm_decl.specs.Scope.{frame, meant, found_here}
use Rattle.plm_decl.specs.BlockNames.{has_name}
use Rattle.plm_decl.specs.Laws.{Before, names_before, scope_at, declaring}
use Rattle.plm_decl.proofs.BlockNames.{Enters, declaration_enters, inside, outside}

enters : (b : Before) (around : List Before) → Enters (frame b.path b.external) (scope_at around) (names_before b) (scope_at (b ∷ around))
enters b around = declaration_enters (frame b.path b.external) (scope_at around) b.items b.elements b.variables b.traits b.site b.known b.known_at_elements b.known_at_variables

means_by : (t : Bool) (name : List ℕ) (b : Before) (around : List Before) → has_name name (names_before b) ≡ t
    → meant name (scope_at around) ≡ found_here name (scope_at (declaring name around))
    → meant name (scope_at (b ∷ around)) ≡ found_here name (scope_at (cond t (b ∷ around) (declaring name around)))
means_by true name b around e outer = (inside name (frame b.path b.external) (scope_at around) (names_before b) (scope_at (b ∷ around)) refl (enters b around) e).0
means_by false name b around e outer = outside name (frame b.path b.external) (scope_at around) (names_before b) (scope_at (b ∷ around)) refl (enters b around) e ∙ outer

pub innermost_means : (name : List ℕ) (blocks : List Before) → meant name (scope_at blocks) ≡ found_here name (scope_at (declaring name blocks))
innermost_means name [] = refl
innermost_means name (b ∷ around) = means_by (has_name name (names_before b)) name b around refl (innermost_means name around)

pub declared_is_found : (name : List ℕ) (b : Before) (around : List Before) → has_name name (names_before b) ≡ true → is_some (found_here name (scope_at (b ∷ around))) ≡ true
declared_is_found name b around h = (inside name (frame b.path b.external) (scope_at around) (names_before b) (scope_at (b ∷ around)) refl (enters b around) h).1

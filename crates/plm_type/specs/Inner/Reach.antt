-- The searches of the code, and its ranks.
use Rattle.std.specs.Prelude.{◌≡◌, ℕ, ◌+◌, ◌<◌, List, [], ◌∷◌, Bool, true, false, not, ◌⊎◌, length, slice_get, slice_index_or, map, count_by, cond, ◌||◌, ◌↔◌, Contains}
use Rattle.std.specs.Global.{Vec}
use Rattle.plm_type.specs.Reach.{Graph, row_of, Leads}

abbrev pub rows : List (Vec ℕ) → Graph
rows g = map (λ v. v.items) g

-- each procedure stands above those that it calls; ranks are counted from 1
abbrev pub AreRanks : List ℕ → Graph → Type 0
AreRanks ranks g = (p q : ℕ) → Contains (row_of (slice_get g p)) q → slice_index_or ranks q 0 < slice_index_or ranks p 0

abbrev pub IsMarked : List Bool → ℕ → Type 0
IsMarked marks k = slice_index_or marks k false ≡ true

-- each of next is marked, and stands on the list where it was not marked before
pub record Marks (old new : List Bool) (before after : List ℕ) (next : List ℕ) : Type 0 where
  pub long : length new ≡ length old
  pub kept : (k : ℕ) → IsMarked old k → IsMarked new k
  pub marked : (k : ℕ) → k < length old → Contains next k → IsMarked new k
  pub only : (k : ℕ) → IsMarked new k → IsMarked old k ⊎ (Contains next k × Contains after k)
  pub work : (k : ℕ) → Contains after k → Contains before k ⊎ IsMarked new k
  pub waiting : (k : ℕ) → Contains before k → Contains after k
  pub left : count_by not new + length after ≡ count_by not old + length before

-- ---- several searches

abbrev pub marks_of : List (Vec Bool) → List (List Bool)
marks_of searches = map (λ v. v.items) searches

-- what a search from each of these roots marks is what the root leads to
abbrev pub AreReached : Graph → (roots : List (List ℕ)) → List (List Bool) → Type 0
AreReached g [] [] = Unit {0}
AreReached g (first ∷ roots) (marks ∷ more) =
    (length marks ≡ length g) × ((k : ℕ) → k < length g → IsMarked marks k ↔ Leads g first k) × AreReached g roots more
AreReached g [] (marks ∷ more) = ⊥
AreReached g (first ∷ roots) [] = ⊥

-- two of them mark it, or one where one has before
abbrev pub marked_twice : ℕ → (before : Bool) → List (List Bool) → Bool
marked_twice p before [] = false
marked_twice p before (marks ∷ more) = cond (slice_index_or marks p false) (before || marked_twice p true more) (marked_twice p before more)

-- Which level is next, said by what it stands above.
use Rattle.std.specs.Prelude.{ℕ, Bool, true, ◌≡◌, ◌≤◌, ◌<◌, false}
use Rattle.pic8259.specs.Levels.{rank, has}
use Rattle.pic8259.specs.Controller.{Controller}

-- the level passes, and none that passes stands above it
pub record IsHighest (lowest : ℕ) (test : ℕ → Bool) (k : ℕ) : Type 0 where
  pub is_level : k < 8
  pub passes : test k ≡ true
  pub none_above : (j : ℕ) → j < 8 → test j ≡ true → rank lowest k ≤ rank lowest j

-- a level that may interrupt: requested, unmasked and of higher priority than every level in service
pub record MayInterrupt (s : Controller) (k : ℕ) : Type 0 where
  pub is_level : k < 8
  pub requested : has s.requested k ≡ true
  pub unmasked : has s.masked k ≡ false
  pub above_service : (j : ℕ) → j < 8 → has s.in_service j ≡ true → rank s.lowest k < rank s.lowest j

-- the level that is next: it may interrupt, and has the highest priority of all that are requested and unmasked
pub record IsNext (s : Controller) (k : ℕ) : Type 0 where
  pub is_level : k < 8
  pub requested : has s.requested k ≡ true
  pub unmasked : has s.masked k ≡ false
  pub above_service : (j : ℕ) → j < 8 → has s.in_service j ≡ true → rank s.lowest k < rank s.lowest j
  pub highest : (j : ℕ) → j < 8 → has s.requested j ≡ true → has s.masked j ≡ false → rank s.lowest k ≤ rank s.lowest j

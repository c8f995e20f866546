-- What a sink has taken, where it knows it, and its count of failures.
use Rattle.std.specs.Prelude.{◌≡◌, ◌+◌, ◌-◌, ◌^◌, ◌<◌, ℕ, List, ◌++◌, length, min, Option, Result, MatchResult}
use Rattle.std.specs.Io.KnownBytes.{Appends, Keeps}
pub use Rattle.std.specs.Io.KnownBytes.{Appends, Keeps, WriteAppends}

-- the count rises by one, and at its end it stays and passes as risen
abbrev pub Rises : ℕ → ℕ → Type 0
Rises old new = new ≡ min (old + 1) (2 ^ 64 - 1)

-- a beginning of the text was taken
abbrev pub Cut : Option (List ℕ) → Option (List ℕ) → List ℕ → Type 0
Cut old new text = (done : List ℕ) × (rest : List ℕ) × (text ≡ done ++ rest) × Appends old new done

-- one call of `put`: a failure counts, and taking nothing of something is a failure
abbrev pub CountsPut : {E : Type 0} → ℕ → ℕ → Result ℕ E → List ℕ → Type 0
CountsPut old new r bytes = MatchResult r
    (λ n. (n ≡ 0 → 0 < length bytes → Rises old new) × (0 < n → new ≡ old) × (length bytes ≡ 0 → new ≡ old))
    (λ _. Rises old new)

-- at `Ok` exactly the text was taken without a failure, else a beginning of it with one
abbrev pub Writes : {T E : Type 0} → Option (List ℕ) → Option (List ℕ) → ℕ → ℕ → List ℕ → Result T E → Type 0
Writes old new before after text r = MatchResult r
    (λ _. Appends old new text × (after ≡ before))
    (λ _. Cut old new text × Rises before after)

-- how many of these bytes one call takes: the sink has `room` bytes of room, has taken `taken`, and takes at most `step` in a call
abbrev pub portion : (room step taken : ℕ) → List ℕ → ℕ
portion room step taken bytes = min (min (length bytes) step) (room - taken)

-- a sink with room takes its portion, and fails exactly where that is nothing of something
abbrev pub TakesPortion : {E : Type 0} → ℕ → List ℕ → Result ℕ E → Type 0
TakesPortion portion bytes r = MatchResult r
    (λ n. (n ≡ portion) × (0 < length bytes → 0 < n))
    (λ _. (portion ≡ 0) × (0 < length bytes))

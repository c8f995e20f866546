-- What a sink with a buffer has taken.
use Rattle.std.specs.Prelude.{ℕ, List, Option}
use Rattle.std.specs.Io.KnownBytes.{append_known}

-- the writer's bytes, where they are known, and then those that are still kept
abbrev pub known : (written : Option (List ℕ)) → (kept : List ℕ) → Option (List ℕ)
known written kept = append_known written kept

-- A name that is in normal form as it is written.
use Rattle.std.proofs.Common.{◌≡◌, ◌∙◌, ℕ, List, Bool, true, bytes_eq, sym}
use Rattle.std.proofs.lemmas.Slice.Eq.{bytes_eq-Decides}
use Rattle.plm_token.specs.Names.{normal}

pub as_written : (b : Bool) (name : List ℕ) → b ≡ bytes_eq (normal name) name → b ≡ true → name ≡ normal name
as_written b name is holds = sym ((bytes_eq-Decides (normal name) name).0 (sym is ∙ holds))

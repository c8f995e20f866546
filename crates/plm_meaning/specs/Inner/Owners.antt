-- Which RAM object has the byte at an address.
use Rattle.std.specs.Prelude.{◌≡◌, ℕ, ◌<◌, List, length, slice_index}
use Rattle.plm_decl.specs.Placement.{HoldsByte}

-- each of the first n objects is the owner of its bytes
abbrev pub OwnTheirs : (owners offsets sizes : List ℕ) → (n : ℕ) → Type 0
OwnTheirs owners offsets sizes n = (j : ℕ) → j < n → (b : ℕ) → b < length owners → HoldsByte offsets sizes j b → slice_index owners b ≡ j

-- for each address the owner of the byte there
pub record AreOwners (owners offsets sizes : List ℕ) : Type 0 where
  pub whole : length owners ≡ 65536
  pub each : length offsets ≡ length sizes
  pub own : OwnTheirs owners offsets sizes (length sizes)

-- Which vector a procedure of the code has.
use Rattle.std.specs.Prelude.{ℕ, Bool, false, nat_eq, Option, Some, None}

abbrev pub is_number : Option ℕ → ℕ → Bool
is_number (Some n) v = nat_eq n v
is_number None v = false

-- How many bytes the initial values of an object fill.
use Rattle.std.specs.Prelude.{ℕ, sum_by, Bool, nat_le}
use Rattle.plm_decl.specs.declared.names.Datum.{Datum}
use Rattle.plm_decl.specs.declared.names.Datum.TheVariants as datum
use Rattle.plm_decl.specs.Names.{ObjectR}

-- how many bytes an initial value fills
abbrev pub bytes_of_datum : Datum → ℕ
bytes_of_datum (datum.Byte b) = 1
bytes_of_datum (datum.Word w) = 2
bytes_of_datum (datum.Variable v n) = 2
bytes_of_datum (datum.Constants o) = 2

-- an object's initial values have room in it
abbrev pub values_fit : ObjectR → Bool
values_fit o = nat_le (sum_by bytes_of_datum o.initial) o.size

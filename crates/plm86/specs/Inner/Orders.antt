-- The faults of the parts of an order.
use Rattle.std.specs.Prelude.{◌≡◌, ◌≢◌, ◌⊎◌, List, None, codes, ⊤}
use Rattle.clap.specs.Words.{Row, Text, first_of}
use Rattle.clap.specs.declared.error.kind.ErrorKind.{ErrorKind}
use Rattle.clap.specs.declared.error.kind.ErrorKind.TheVariants.{DisplayHelp, DisplayVersion, OutOfMemory}
use Rattle.plm86.specs.Order.{IsNoValue, format_named}
use Rattle.plm86.specs.declared.order.OrderFault.{OrderFault}
use Rattle.plm86.specs.declared.order.OrderFault.TheVariants.{Words, Help, Memory}

-- the fault for an error of `clap` of this kind
abbrev pub IsFaultFor : ErrorKind → OrderFault → Type 0
IsFaultFor kind (Words text) = (kind ≢ OutOfMemory) × (kind ≢ DisplayHelp) × (kind ≢ DisplayVersion)
IsFaultFor kind (Help text) = (kind ≡ DisplayHelp) ⊎ (kind ≡ DisplayVersion)
IsFaultFor kind Memory = ⊤

-- the fault of words that `clap` takes, of the subcommand `name` with these values
abbrev pub IsValueFault : Text → List Row → OrderFault → Type 0
IsValueFault name rows (Words text) = IsNoValue name rows
IsValueFault name rows (Help text) = ⊥
IsValueFault name rows Memory = ⊤

-- the same of the values that every command has
abbrev pub IsFormatFault : List Row → OrderFault → Type 0
IsFormatFault rows (Words text) = format_named (first_of (codes "message-format") rows) ≡ None
IsFormatFault rows (Help text) = ⊥
IsFormatFault rows Memory = ⊤

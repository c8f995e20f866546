-- What parsing all modules answers.
use Rattle.std.specs.Prelude.{List, map, Result, Ok, Err, ⊤}
use Rattle.std.specs.Global.{Vec}
use Rattle.word86.specs.declared.fault.Fault.{Fault}
use Rattle.word86.specs.declared.fault.Fault.TheVariants.{Memory, At}
use Rattle.plm_token.specs.Scanner.{Lexeme}
use Rattle.plm_syntax.specs.declared.tree.Module.{Module}
use Rattle.plm_syntax.specs.View.{module_of}
use Rattle.plm86.specs.Build.{AreTrees, IsFirstUnparsed}
use Rattle.std.specs.Prelude.{◌≡◌, List, [], Result, Ok, Err}
use Rattle.plm86.specs.Build.{IsFirst}

abbrev pub ParsesAll : List (List Lexeme) → Result (Vec Module) Fault → Type 0
ParsesAll tokens (Ok v) = AreTrees tokens (map module_of v.items)
ParsesAll tokens (Err Memory) = ⊤
ParsesAll tokens (Err (At which line number)) = IsFirstUnparsed 0 tokens (At which line number)

-- the first of these faults is answered where there is one
abbrev pub Says : {A : Type 0} → List Fault → Result A Fault → Type 0
Says faults (Ok value) = faults ≡ []
Says faults (Err f) = IsFirst faults f

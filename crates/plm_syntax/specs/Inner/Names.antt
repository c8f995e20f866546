-- Numbers for names.
use Rattle.std.specs.Prelude.{ℕ, List, map, Bool, true, false, Option, Some, None}
use Rattle.std.specs.List.{slice_get}
use Rattle.plm_token.specs.Literals.{Symbol}
use Rattle.plm_syntax.specs.declared.names.Names.{Names}
use Rattle.plm_syntax.specs.Inner.NamedToken.{named_symbol, is_same_name}

-- for each number an identifier of its name
abbrev pub names_in : Names → List Symbol
names_in names = map (λ t. named_symbol t.token.now) names.tokens.items

-- whether there is a symbol that passes a test
abbrev pub passes_one : (Symbol → Bool) → Option Symbol → Bool
passes_one test None = false
passes_one test (Some s) = test s

-- whether a number is that of a symbol's name
abbrev pub is_number : List Symbol → ℕ → Symbol → Bool
is_number names n s = passes_one (λ r. is_same_name r s) (slice_get names n)

-- the same, where the symbol has a number
abbrev pub has_number : List Symbol → Symbol → Option ℕ → Bool
has_number names s None = true
has_number names s (Some n) = is_number names n s

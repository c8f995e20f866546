-- The faults of a token, told by how many tokens are left after it, the end of the text counted.
use Rattle.std.specs.Prelude.{ℕ, zero, suc, ◌-◌, ◌≤◌, List, length, Option, Some, None}
use Rattle.word86.specs.declared.fault.Fault.{Fault}
use Rattle.word86.specs.declared.fault.Fault.TheVariants.{Memory, At}
use Rattle.word86.specs.declared.number.Number.{Number}
use Rattle.word86.specs.declared.number.Number.TheVariants.{E201, E203}
use Rattle.plm_token.specs.Scanner.{Lexeme}
use Rattle.plm_syntax.specs.declared.failure.Failure.{Failure}
use Rattle.plm_syntax.specs.declared.failure.Failure.TheVariants as failure
use Rattle.plm_syntax.specs.Faults.{tokens_from, line_from, opening_token}

-- at the end of the text the fault at which the replacement stopped comes first
abbrev pub refusal_at : List Lexeme → ℕ → Option (Number × ℕ) → Fault
refusal_at ts zero None = At 0 (line_from 1 ts (length ts)) E201
refusal_at ts zero (Some stop) = At 0 stop.1 stop.0
refusal_at ts (suc left) stop = At 0 (line_from 1 ts (length ts - suc left)) E201

abbrev pub deep_at : List Lexeme → ℕ → Option (Number × ℕ) → Fault
deep_at ts zero None = At 0 (line_from 1 ts (opening_token (tokens_from 0 ts) (length ts))) E203
deep_at ts zero (Some stop) = At 0 stop.1 stop.0
deep_at ts (suc left) stop = At 0 (line_from 1 ts (opening_token (tokens_from 0 ts) (length ts - suc left))) E203

abbrev pub fault_of : Failure → List Lexeme → Option (Number × ℕ) → Fault
fault_of failure.Memory ts stop = Memory
fault_of (failure.Refused left) ts stop = refusal_at ts left stop
fault_of (failure.Deep left) ts stop = deep_at ts left stop

-- no more is left than there was
abbrev pub LeftIn : Failure → ℕ → Type 0
LeftIn failure.Memory n = Unit {0}
LeftIn (failure.Refused left) n = left ≤ n
LeftIn (failure.Deep left) n = left ≤ n

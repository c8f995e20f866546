-- What a page has of its text.
use Rattle.std.specs.Prelude.{List, Result, Ok, Err}
use Rattle.std.specs.Global.{Vec}
use Rattle.word86.specs.declared.fault.Fault.{Fault}
use Rattle.plm_token.specs.declared.token.Token.{Token}
use Rattle.plm_token.specs.Scanner.{Lexeme, lexemes}

-- what a scan found: tokens, or a fault
abbrev pub scan_found : Result (Vec Token) Fault → Result (List Lexeme) Fault
scan_found (Ok tokens) = Ok (lexemes tokens.items)
scan_found (Err fault) = Err fault

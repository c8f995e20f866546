use Rattle.std.proofs.Common.{◌≡◌, ◌-◌, ◌≤◌, drop}
use Rattle.plm_token.specs.Scanner.{lexemes}
use Rattle.plm_syntax.specs.Faults.{line_from}
use Rattle.plm_syntax.proofs.answer.line_at.Given as goal

abbrev pub invariant-loop-at : goal.invariant-loop-at
invariant-loop-at l = record {
  lines : line_from 1 (lexemes l.tokens) l.number ≡ line_from l.line (lexemes (drop l.at l.tokens)) (l.number - l.at);
  before : l.at ≤ l.number;
}

use Rattle.std.proofs.Common.{map, arith}
use Rattle.plm_syntax.specs.Inner.Names.{names_in}
use Rattle.plm_syntax.specs.Inner.Scope.{literal_text}
use Rattle.plm_syntax.proofs.Facts.{run_here, name_of_run_if}
use Rattle.plm_syntax.proofs.known.Known.known_text.Goals as goal

pub returns-then-all_hold : goal.returns-then-all_hold
returns-then-all_hold c =
    let scope = c.args.scope.now in
    let fewer = c.in_ok-fewer.fewer in
    let literal = c.in_ok-literal.literal in
    let run = c.in_ok-run.run'.now in
    name_of_run_if scope c.args.depth fewer c.args.number literal c.in_ok-size.size run c.deeper.result (omega (arith, c.in_ok-fewer.ensures)) c.in_ok-size.ensures.there c.in_ok-literal.ensures.stands
    c.in_ok-size.ensures.size (omega arith)
    (run_here scope fewer literal 0 run c.args.self.now.holds c.requires.holds (c.in_ok-run.ensures (names_in scope.names) (map literal_text scope.literals.items) scope.assumed.items c.requires) (c.all_hold.ensures c.if-all_hold.true))
    c.deeper.ensures.level c.deeper.ensures.pass

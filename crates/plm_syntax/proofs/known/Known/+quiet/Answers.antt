use Rattle.std.proofs.Common.{List, map, arith}
use Rattle.plm_syntax.specs.Literals.{LiteralText}
use Rattle.plm_syntax.specs.Inner.Names.{names_in}
use Rattle.plm_syntax.specs.Inner.Scope.{literal_text}
use Rattle.plm_syntax.proofs.Facts.{run_here, own_run, runs_joined, name_joined, name_now, name_of_run_if, name_of_bit, is_so_assumed}
use Rattle.plm_syntax.proofs.known.Known.+quiet.Goals as goal

pub known_run-returns-then-all_hold-clause-run : goal.known_run-returns-then-all_hold-clause-run
known_run-returns-then-all_hold-clause-run t c =
    let scope = c.args.scope.now in
    run_here scope c.args.depth c.args.literal c.args.from c.in-Some.found.now c.args.self.now.holds c.requires.known.holds
    (c.in-Some.ensures (names_in scope.names) (map literal_text scope.literals.items) scope.assumed.items c.requires.known) (c.all_hold.ensures c.if-all_hold.true)

pub known_run-returns-then-all_hold-2-clause-run : goal.known_run-returns-then-all_hold-2-clause-run
known_run-returns-then-all_hold-2-clause-run t c =
    let scope = c.args.scope.now in
    run_here scope c.args.depth c.args.literal c.args.from c.in-Some.found.now c.look_into_all.new.self.holds c.look_into_all.ensures.holds
    (c.in-Some.ensures (names_in scope.names) (map literal_text scope.literals.items) scope.assumed.items c.requires.known) (c.all_hold-2.ensures c.if-all_hold-2.true)

pub next-returns-then-is_worth_keeping-clause-known : goal.next-returns-then-is_worth_keeping-clause-known
next-returns-then-is_worth_keeping-clause-known t c =
    let scope = c.args.scope.now in
    let names = names_in scope.names in
    let literals : List LiteralText = map literal_text scope.literals.items in
    c.learn.ensures names literals scope.assumed.items scope.base c.walk-run.ensures.known (own_run names literals scope.assumed.items c.args.literal c.args.from c.walk-run.result c.walk-run.ensures.run.is_run)

pub quiet_from-returns-then-is_worth_keeping-clause-known : goal.quiet_from-returns-then-is_worth_keeping-clause-known
quiet_from-returns-then-is_worth_keeping-clause-known t c =
    let scope = c.args.scope.now in
    let names = names_in scope.names in
    let literals : List LiteralText = map literal_text scope.literals.items in
    let first = c.known_run-first.result in
    c.learn.ensures names literals scope.assumed.items scope.base c.rest-run.ensures.known (own_run names literals scope.assumed.items first.literal first.from c.rest-run.result c.rest-run.ensures.run.is_run)

pub quiet_name-returns-in-None-clause-name : goal.quiet_name-returns-in-None-clause-name
quiet_name-returns-in-None-clause-name t c =
    name_of_run_if c.args.scope.now c.args.depth c.in_ok-fewer.fewer c.args.number c.in_ok-literal.literal c.in_ok-size.field-0 c.in_ok-run.run' c.deeper.result (omega (arith, c.in_ok-fewer.ensures)) c.in_ok-size.ensures.there
    c.in_ok-literal.ensures.stands c.in_ok-size.ensures.size c.if-branch.false c.in_ok-run.ensures.run c.deeper.ensures.level c.deeper.ensures.pass

pub quiet_name-returns-in-Some-bit_of-clause-known : goal.quiet_name-returns-in-Some-bit_of-clause-known
quiet_name-returns-in-Some-bit_of-clause-known t c =
    let scope = c.args.scope.now in
    let names = names_in scope.names in
    let literals : List LiteralText = map literal_text scope.literals.items in
    c.hold.ensures names literals scope.assumed.items scope.base c.in_ok-run.ensures.known
    (is_so_assumed names literals scope.assumed.items c.args.depth c.in-Some-bit_of.bit c.args.number (omega (arith, c.in_ok-fewer.ensures)) c.in-Some-bit_of.ensures.bit
    (name_now scope c.args.depth c.in_ok-fewer.fewer c.args.number c.in_ok-literal.literal c.in_ok-size.field-0 c.in_ok-run.run' (omega (arith, c.in_ok-fewer.ensures)) c.in_ok-size.ensures.there
    c.in_ok-literal.ensures.stands c.in_ok-size.ensures.size c.if-branch.false c.in_ok-run.ensures.run))

pub quiet_name-returns-in-Some-bit_of-clause-name : goal.quiet_name-returns-in-Some-bit_of-clause-name
quiet_name-returns-in-Some-bit_of-clause-name t c =
    name_of_bit c.args.scope.now c.args.depth c.args.number c.in-Some-bit_of.bit c.of_bit.result c.in-Some-bit_of.ensures.inside c.in-Some-bit_of.ensures.bit c.of_bit.ensures.level c.of_bit.ensures.pass
    (name_now c.args.scope.now c.args.depth c.in_ok-fewer.fewer c.args.number c.in_ok-literal.literal c.in_ok-size.field-0 c.in_ok-run.run' (omega (arith, c.in_ok-fewer.ensures)) c.in_ok-size.ensures.there
    c.in_ok-literal.ensures.stands c.in_ok-size.ensures.size c.if-branch.false c.in_ok-run.ensures.run)

pub rest-loop-preserved : goal.rest-loop-preserved
rest-loop-preserved t c =
    let e = c.extend.ensures in record {
      known = c.next-next.ensures.known;
      run = runs_joined c.args.scope.now c.args.depth c.args.first.literal c.args.first.from c.loop.run c.next-next.result c.extend.new.self e.literal e.from e.to e.level e.pass c.loop.invariant.run c.next-next.ensures.run;
    }

pub walk-loop-preserved : goal.walk-loop-preserved
walk-loop-preserved t c =
    let e = c.extend.ensures in record {
      known = c.quiet_name.ensures.known;
      run = name_joined c.args.scope.now c.args.depth c.args.literal c.args.from c.in-Some.number c.loop.run c.extend.new.self c.in-Some-quiet_name.grounds e.literal e.from e.to e.level e.pass c.loop.invariant.run c.in-Some.ensures.number
          c.in-Some-quiet_name.ensures.name;
    }

use Rattle.plm_token.proofs.Includes.{include_here, include_behind, include_nowhere}
use Rattle.plm_token.proofs.front.holds_include.Goals as goal

pub returns-then-spells : goal.returns-then-spells
returns-then-spells c = include_here c.args.line.now c.loop-behind.rest.now c.split_at.result.0.now c.name_length.result c.spells.result c.loop-behind.invariant c.split_at.ensures.front c.name_length.ensures.value c.spells.ensures c.if-spells.true

pub loop-behind-preserved : goal.loop-behind-preserved
loop-behind-preserved c =
    include_behind c.args.line.now c.loop-behind.rest.now c.split_at.result.0.now c.split_at.result.1.now c.in-Some.next.now c.name_length.result c.in-Some.field-0-0.now c.spells.result c.loop-behind.invariant c.split_at.ensures.front c.name_length.ensures.value c.spells.ensures c.if-spells.false c.split_at.ensures.back c.in-Some.ensures.cases.0

pub returns-in-None : goal.returns-in-None
returns-in-None c =
    include_nowhere c.args.line.now c.loop-behind.rest.now c.split_at.result.0.now c.split_at.result.1.now c.name_length.result c.spells.result c.loop-behind.invariant c.split_at.ensures.front c.name_length.ensures.value c.spells.ensures c.if-spells.false c.split_at.ensures.back c.in-None.ensures.cases

use Rattle.std.proofs.Common.{sym, ◌∙◌}
use Rattle.std.proofs.lemmas.List.{nil_from_length}
use Rattle.plm86.proofs.Phases.{parsed_more, unparsed_more, unparsed_here, parsed_all, tokens_of_all}
use Rattle.plm86.proofs.build.parse_all.Goals as goal

pub loop-tokens-preserved : goal.loop-tokens-preserved
loop-tokens-preserved c = record {
  parsed =
      parsed_more (tokens_of_all c.args.scanned.items) c.loop-tokens.tokens-iterator.rest.items c.next.new.self.rest.items c.in-Some.tokens c.in-Some.ensures.steps.0 c.loop-tokens.modules.items c.push.new.self.items c.in-Ok.tree
      c.in_ok-push-in-Ok.ensures.items c.in-Ok.ensures c.loop-tokens.invariant.parsed;
  unparsed =
      unparsed_more (tokens_of_all c.args.scanned.items) c.loop-tokens.tokens-iterator.rest.items c.next.new.self.rest.items c.in-Some.tokens c.in-Some.ensures.steps.0 c.loop-tokens.modules.items c.push.new.self.items c.in-Ok.tree
      c.in_ok-push-in-Ok.ensures.items c.in-Ok.ensures c.loop-tokens.invariant.unparsed;
}

pub returns-in-Err : goal.returns-in-Err
returns-in-Err c =
    unparsed_here (tokens_of_all c.args.scanned.items) c.loop-tokens.tokens-iterator.rest.items c.next.new.self.rest.items c.in-Some.tokens c.in-Some.ensures.steps.0 c.loop-tokens.modules.items c.len.result c.in-Err.fault c.in_module.result
    (c.len.ensures ∙ c.loop-tokens.modules.ok.0) c.in-Err.ensures c.in_module.ensures c.loop-tokens.invariant.unparsed

pub returns : goal.returns
returns c = parsed_all (tokens_of_all c.args.scanned.items) c.loop-tokens.tokens-iterator.rest.items c.loop-tokens.modules.items (nil_from_length c.loop-tokens.tokens-iterator.rest.items (sym c.loop-tokens.tokens-iterator.rest.ok.0 ∙ c.in-None.ensures.steps.0)) c.loop-tokens.invariant.parsed

use Rattle.std.proofs.Common.{◌≡◌, drop, false, map}
use Rattle.std.specs.Prelude.{fold}
use Rattle.clap.specs.Words.{app_of, with_rule}
use Rattle.clap.specs.declared.builder.command.Command.TheViews.{out-Command}
use Rattle.plm86.specs.Inner.Options.{rule_for}
use Rattle.plm86.proofs.options.with_options.Given as goal

abbrev pub invariant-loop-given : goal.invariant-loop-given
invariant-loop-given l = record {
  all : fold with_rule (app_of l.with) (map rule_for (drop l.given-index l.options)) ≡ fold with_rule (app_of l.fn.command) (map rule_for l.options);
  local : (out-Command l.with).has_globals ≡ false;
}

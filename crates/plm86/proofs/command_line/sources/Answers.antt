use Rattle.std.proofs.Common.{Some, rules, ap, ◌∙◌}
use Rattle.clap.specs.Words.{Rule, rule_of}
use Rattle.clap.specs.declared.builder.action.ArgAction.TheVariants.{Append}
use Rattle.plm86.proofs.command_line.sources.Goals as goal

pub returns : goal.returns
returns c =
    record {
      rule = ap rule_of c.action.ensures ∙ ap (λ (r : Rule). record r { action = Some Append }) c.positional.ensures.rule;
      local = search rules;
    }

use Rattle.std.proofs.Common.{Some, rules, ap, ◌∙◌}
use Rattle.clap.specs.Words.{Rule, rule_of}
use Rattle.clap.specs.declared.builder.action.ArgAction.TheVariants.{SetTrue}
use Rattle.plm86.proofs.options.flag_option.Goals as goal

pub returns : goal.returns
returns c =
    record {
      rule = ap rule_of c.action.ensures ∙ ap (λ (r : Rule). record r { action = Some SetTrue })
          (ap rule_of c.long.ensures ∙ ap (λ (r : Rule). record r { long = Some c.args.name.now }) (ap rule_of c.help.ensures ∙ c.new.ensures.rule));
      local = search rules;
    }

use Rattle.std.proofs.Common.{Some, rules, ap, ◌∙◌}
use Rattle.clap.specs.Words.{Rule, rule_of}
use Rattle.plm86.proofs.options.word_option.Goals as goal

pub returns : goal.returns
returns c =
    record {
      rule = ap rule_of c.long.ensures ∙ ap (λ (r : Rule). record r { long = Some c.args.name.now })
          (ap rule_of c.value_name.ensures ∙ ap (λ (r : Rule). record r { value_names = 1 }) (ap rule_of c.help.ensures ∙ c.new.ensures.rule));
      local = search rules;
    }

use Rattle.std.proofs.Common.{rules, ap, true, ◌∙◌}
use Rattle.clap.specs.Words.{Rule, rule_of}
use Rattle.plm86.proofs.command_line.positional.Goals as goal

pub returns : goal.returns
returns c =
    record {
      rule = ap rule_of c.required.ensures ∙ ap (λ (r : Rule). record r { required = true }) (ap rule_of c.value_name.ensures ∙ ap (λ (r : Rule). record r { value_names = 1 }) (ap rule_of c.help.ensures ∙ c.new.ensures.rule));
      local = search rules;
    }

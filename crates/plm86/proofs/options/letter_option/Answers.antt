use Rattle.std.proofs.Common.{Some, rules, ap, ◌∙◌}
use Rattle.clap.specs.Words.{Rule, rule_of}
use Rattle.plm86.proofs.options.letter_option.Goals as goal

pub returns : goal.returns
returns c =
    record {
      rule = ap rule_of c.required.ensures ∙ ap (λ (r : Rule). record r { required = c.args.is_required })
          (ap rule_of c.short.ensures ∙ ap (λ (r : Rule). record r { short = Some c.args.letter })
          (ap rule_of c.value_name.ensures ∙ ap (λ (r : Rule). record r { value_names = 1 }) (ap rule_of c.help.ensures ∙ c.new.ensures.rule)));
      local = search rules;
    }

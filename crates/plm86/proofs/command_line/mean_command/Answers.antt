use Rattle.std.proofs.Common.{◌||◌, ap, ap₂, ◌∙◌}
use Rattle.std.proofs.lemmas.Result.{IfOk-weaker}
use Rattle.clap.specs.Words.{App, with_rule}
use Rattle.clap.specs.Simple.{app_of_fields}
use Rattle.plm86.specs.CommandLine.{with_rules, mean_options, telling_options}
use Rattle.plm86.proofs.command_line.mean_command.Goals as goal

pub returns : goal.returns
returns c =
    let app = ap app_of_fields c.about-command.ensures ∙ c.new.ensures.app in
    let own = c.in_ok-own.ensures.0 ∙ ap (λ (a : App). with_rules a mean_options) app in
    let told = c.in_ok-told.ensures.0 ∙ ap (λ (a : App). with_rules a telling_options) own in
    let a0 = c.in_ok-arg.ensures.shape c.schedule_argument-schedule.ensures.local ∙ ap₂ with_rule told c.schedule_argument-schedule.ensures.rule in
    let g0 = c.in_ok-arg.ensures.globals ∙ ap₂ ◌||◌ c.in_ok-told.ensures.1 c.schedule_argument-schedule.ensures.local in
    IfOk-weaker c.arg-2.result _ _ (λ r h. (h.shape c.sources-source.ensures.local ∙ ap₂ with_rule a0 c.sources-source.ensures.rule, h.globals ∙ ap₂ ◌||◌ g0 c.sources-source.ensures.local)) c.arg-2.ensures

use Rattle.std.proofs.Common.{◌||◌, ap, ap₂, ◌∙◌}
use Rattle.std.proofs.lemmas.Result.{IfOk-weaker}
use Rattle.clap.specs.Words.{App, with_rule}
use Rattle.clap.specs.Simple.{app_of_fields}
use Rattle.plm86.specs.CommandLine.{with_rules, build_options, telling_options}
use Rattle.plm86.proofs.command_line.build_command.Goals as goal

pub returns : goal.returns
returns c =
    let app = ap app_of_fields c.about-command.ensures ∙ c.new.ensures.app in
    let own = c.in_ok-own.ensures.0 ∙ ap (λ (a : App). with_rules a build_options) app in
    let told = c.in_ok-told.ensures.0 ∙ ap (λ (a : App). with_rules a telling_options) own in
    IfOk-weaker c.arg.result _ _ (λ r h. (h.shape c.sources-source.ensures.local ∙ ap₂ with_rule told c.sources-source.ensures.rule, h.globals ∙ ap₂ ◌||◌ c.in_ok-told.ensures.1 c.sources-source.ensures.local)) c.arg.ensures

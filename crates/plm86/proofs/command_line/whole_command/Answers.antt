use Rattle.std.proofs.Common.{rules, ap, ap₂, ◌≡◌, ◌∙◌}
use Rattle.std.proofs.lemmas.Result.{IfOk-weaker}
use Rattle.clap.specs.Words.{App, app_of, with_subcommand}
use Rattle.plm86.specs.CommandLine.{outer}
use Rattle.plm86.proofs.command_line.whole_command.Goals as goal

pub returns : goal.returns
returns c =
    let outer_is : app_of c.subcommand_required.result ≡ outer = search rules in
    let build_is = ap (λ (a : App). a.top) c.in_ok-build_command.ensures.0 in
    let run_is = ap (λ (a : App). a.top) c.in_ok-run_command.ensures.0 in
    let mean_is = ap (λ (a : App). a.top) c.in_ok-mean_command.ensures.0 in
    let one = c.in_ok-subcommand.ensures.shape c.in_ok-build_command.ensures.1 ∙ ap₂ with_subcommand outer_is build_is in
    let two = c.in_ok-subcommand-2.ensures.shape c.in_ok-run_command.ensures.1 ∙ ap₂ with_subcommand one run_is in
    IfOk-weaker c.subcommand-3.result _ _ (λ r h. h.shape c.in_ok-mean_command.ensures.1 ∙ ap₂ with_subcommand two mean_is) c.subcommand-3.ensures

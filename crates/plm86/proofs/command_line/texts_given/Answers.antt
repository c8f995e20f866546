use Rattle.std.proofs.Common.{◌∙◌, List, Option, [], ap, map, unwrap_or}
use Rattle.std.proofs.lemmas.Result.{IfOk-weaker}
use Rattle.clap.specs.Words.{found_of, Text}
use Rattle.clap.proofs.WalkLemmas.{raw_values-rows}
use Rattle.plm86.proofs.command_line.texts_given.Goals as goal

pub returns-in-Some : goal.returns-in-Some
returns-in-Some c =
    let all_is = c.in-Some.ensures ∙ raw_values-rows (found_of c.args.matches.now) c.args.id.now in
    IfOk-weaker c.from_slice.result _ _ (λ v h. ap (map (λ s. s.now)) h ∙ ap (λ (o : Option (List Text)). unwrap_or o []) all_is) c.from_slice.ensures.items

pub returns-in-None : goal.returns-in-None
returns-in-None c =
    let all_is = c.in-None.ensures ∙ raw_values-rows (found_of c.args.matches.now) c.args.id.now in
    ap (map (λ s. s.now)) c.new.ensures.items ∙ ap (λ (o : Option (List Text)). unwrap_or o []) all_is

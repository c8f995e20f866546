use Rattle.std.proofs.Common.{◌≡◌, ◌-◌, suc, length, ap, ◌∙◌, arith}
use Rattle.plm_type.specs.View.{statement_of}
use Rattle.lower.specs.Statements.{stays}
use Rattle.lower.proofs.LastCode.{last_stays}
use Rattle.lower.proofs.silence.all_stay.Goals as goal

pub returns-in-len1-up : goal.returns-in-len1-up
returns-in-len1-up c =
    let body = c.args.body.now in
    let more : length body ≡ suc (length body - 1) = omega (arith, c.in-len1-up.len_at_least) in
    c.stays.ensures ∙ ap (λ s. stays (statement_of s)) c.deref.ensures ∙ last_stays (length body - 1) body c.last-item.result more c.last-item.is

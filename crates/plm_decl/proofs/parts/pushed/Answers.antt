use Rattle.plm_decl.proofs.parts.pushed.Goals as goal

pub returns : goal.returns
returns g c = rw c.in_ok-value.was c.in_ok-push.ensures.items

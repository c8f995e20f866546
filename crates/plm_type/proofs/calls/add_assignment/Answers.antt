use Rattle.std.proofs.Common.{◌≡◌, ℕ, ◌++◌, OnOk, List, map, append_assoc, subst, sym, ap, ◌∙◌}
use Rattle.plm_type.specs.Calls as spec
use Rattle.plm_type.specs.Inner.Calls as inner
use Rattle.plm_type.specs.View as view
use Rattle.plm_type.proofs.Parts.{targets_calls_are}
use Rattle.plm_type.proofs.calls.add_assignment.Goals as goal

pub returns : goal.returns
returns c =
    let old = c.args.called.now.items in
    let a = spec.calls_in (view.expression_of c.args.value.now) in
    let b = spec.target_calls (view.target_of c.args.first.now) in
    let d = inner.all_target_calls (map view.target_of c.args.others.now) in
    let path =
    ap (λ (l : List ℕ). l ++ d) (c.in_ok-add_target.ensures ∙ ap (λ (l : List ℕ). l ++ b) c.in_ok-add_calls.ensures)
    ∙ append_assoc (old ++ a) b d ∙ append_assoc old a (b ++ d)
    ∙ ap (λ (l : List ℕ). old ++ (a ++ l)) (sym (targets_calls_are c.args.first.now c.args.others.now)) in
    subst (λ (l : List ℕ). OnOk c.add_targets.result (c.add_targets.new.called.items ≡ l)) path c.add_targets.ensures

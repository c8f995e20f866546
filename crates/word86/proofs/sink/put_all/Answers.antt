use Rattle.std.proofs.Common.{◌≡◌, ◌∙◌, ◌++◌, ℕ, List, ap, sym, rules, take, drop, append_assoc, take-append-drop, ◌<◌}
use Rattle.std.proofs.KnownBytes.{Appends-trans}
use Rattle.word86.proofs.sink.put_all.Goals as goal

pub loop-rest-preserved : goal.loop-rest-preserved
loop-rest-preserved g c =
    let n = c.in_ok-n.n in
    let rest = c.loop-rest.rest.now in
    let before = c.loop-rest.invariant in
    let done = before.0.0 in
    let positive : 0 < n = search rules in
    let left : c.split_at.result.1.now ≡ drop n rest = search rules in (
      (
        done ++ take n rest,
        before.0.1 ∙ ap (λ (l : List ℕ). done ++ l) (sym (take-append-drop n rest)) ∙ sym (append_assoc done (take n rest) (drop n rest)) ∙ ap (λ (l : List ℕ). (done ++ take n rest) ++ l) (sym left),
        Appends-trans _ _ _ done (take n rest) before.0.2 c.in_ok-n.ensures.bytes,
      ),
      c.in_ok-n.ensures.count.1 positive ∙ before.1,
    )

use Rattle.std.proofs.Common.{◌*◌, ap, ◌∙◌, inr, refl, max}
use Rattle.frames.specs.Inner.Need.{need, need_at, largest_room}
use Rattle.frames.proofs.Whole.{counted, no_run}
use Rattle.frames.proofs.counting.count.Goals as goal

pub returns-in-None-clause-refused : goal.returns-in-None-clause-refused
returns-in-None-clause-refused c =
    let code = c.args.code.now in
    let needs = c.in_ok-needs.needs.items in
    let known = c.in_ok-needs.ensures in
    let main = c.words_of-main.ensures ∙ ap (λ t. (need (need_at t) 0 c.instructions.result.now).words) c.deref.ensures.value ∙ ap (λ is. (need (need_at needs) 0 is).words) c.instructions.ensures in
    let largest = c.largest_room.ensures ∙ ap (λ t. max 3 (largest_room (need_at t) 0 code.procedures.items)) c.deref-2.ensures.value in
    let a = c.words_of-main.result in
    let b = c.largest_room.result in
    let is = counted code needs known.size known.known (2 * a) (2 * b) (ap (λ n. 2 * n) main) (ap (λ n. 2 * n) largest) in
    inr (refl, record { main = 2 * a; handler = 2 * b; is_counted = is; is_past = c.in-None.ensures.past })

pub returns-clause-counted : goal.returns-clause-counted
returns-clause-counted c =
    let code = c.args.code.now in
    let needs = c.in_ok-needs.needs.items in
    let known = c.in_ok-needs.ensures in
    let main = c.words_of-main.ensures ∙ ap (λ t. (need (need_at t) 0 c.instructions.result.now).words) c.deref.ensures.value ∙ ap (λ is. (need (need_at needs) 0 is).words) c.instructions.ensures in
    let largest = c.largest_room.ensures ∙ ap (λ t. max 3 (largest_room (need_at t) 0 code.procedures.items)) c.deref-2.ensures.value in
    let stack = c.in-Some.stack in
    counted code needs known.size known.known stack.main stack.handler (c.in-Some.ensures.main ∙ ap (λ n. 2 * n) main) (c.in-Some.ensures.handler ∙ ap (λ n. 2 * n) largest)

pub returns-clause-runs : goal.returns-clause-runs
returns-clause-runs c =
    let code = c.args.code.now in
    let needs = c.in_ok-needs.needs.items in
    let known = c.in_ok-needs.ensures in
    let main = c.words_of-main.ensures ∙ ap (λ t. (need (need_at t) 0 c.instructions.result.now).words) c.deref.ensures.value ∙ ap (λ is. (need (need_at needs) 0 is).words) c.instructions.ensures in
    let largest = c.largest_room.ensures ∙ ap (λ t. max 3 (largest_room (need_at t) 0 code.procedures.items)) c.deref-2.ensures.value in
    let stack = c.in-Some.stack in
    no_run code needs known.size known.known stack.main stack.handler (c.in-Some.ensures.main ∙ ap (λ n. 2 * n) main) (c.in-Some.ensures.handler ∙ ap (λ n. 2 * n) largest)

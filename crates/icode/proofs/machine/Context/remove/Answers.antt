use Rattle.std.proofs.Common.{◌≡◌, ◌-◌, ap, sym, ◌∙◌, reverse, take, length, rules}
use Rattle.icode.proofs.Stack.{dropped}
use Rattle.icode.proofs.machine.Context.remove.Goals as goal

pub returns-clause-words : goal.returns-clause-words
returns-clause-words c =
    let words = c.args.self.now.words.items in
    let count : c.len.result ≡ length words = search rules in
    ap reverse (c.truncate.ensures.items ∙ ap (λ k. take k words) (c.saturating_sub-left.ensures ∙ ap (λ k. k - c.args.count) count)) ∙ sym (dropped words c.args.count)

use Rattle.std.proofs.Common.{◌≡◌, ◌∙◌, length, Some, sym, arith}
use Rattle.std.proofs.lemmas.Map.Text.{hash_map_updates_str}
use Rattle.plm_syntax.specs.Inner.Scope.{place_in}
use Rattle.plm_syntax.proofs.Located.{placed_pushed, placed_already, placed_still, either_way, entries_same, updated_at}
use Rattle.plm_syntax.proofs.scope.Scope.enter.Goals as goal

pub invariant_of-self-clause-placed : goal.invariant_of-self-clause-placed
invariant_of-self-clause-placed c =
    let self = c.args.self.now in
    either_way c.insert.result c.insert.ensures.updates c.insert.ensures.err
    (λ u. placed_still c.args.name.now self.literals.items c.len.result (place_in self.places) (place_in c.insert.new.self) self.placed c.in-None.ensures.named
    (hash_map_updates_str c.args.name.now self.places c.insert.new.self (Some c.len.result) u))
    (λ e name place h. entries_same self.places c.insert.new.self name e ∙ self.placed name place h)

pub returns-in_ok-insert-in-None-clause-entered : goal.returns-in_ok-insert-in-None-clause-entered
returns-in_ok-insert-in-None-clause-entered c =
    let self = c.args.self.now in
    let count : c.len.result ≡ length self.literals.items = omega (arith, c.len.ensures) in
    placed_pushed c.args.name.now self.literals.items (place_in self.places) (place_in c.insert.new.self) self.placed c.in-None.ensures.named
    (updated_at c.args.name.now c.len.result (length self.literals.items) (place_in self.places) (place_in c.insert.new.self) count
    (hash_map_updates_str c.args.name.now self.places c.insert.new.self (Some c.len.result) c.in_ok-insert-in-None.ensures.updates))

pub returns-in-Some-clause-entered : goal.returns-in-Some-clause-entered
returns-in-Some-clause-entered c = placed_already c.args.name.now c.args.self.now.literals.items (place_in c.args.self.now.places) c.in-Some.field-0 c.args.self.now.placed (sym c.in-Some.ensures.named)

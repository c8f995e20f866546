use Rattle.std.proofs.Common.{ℕ, not, is_some, bytes_eq, sym, ap, ◌∙◌}
use Rattle.std.specs.Global.{Vec}
use Rattle.std.specs.HashMap.{get_by}
use Rattle.plm_decl.proofs.Tables.{found_is, kept_is, added_is}
use Rattle.plm_decl.proofs.table.Table.add.Goals as goal

pub returns-then-contains_key-clause-fresh : goal.returns-then-contains_key-clause-fresh
returns-then-contains_key-clause-fresh c =
    ap not (c.if-contains_key.ensures ∙ ap (λ q. is_some (get_by (λ (k : Vec ℕ). bytes_eq q k.items) c.args.self.now.names)) c.as_slice.ensures.value
    ∙ ap is_some (found_is c.args.name.items c.args.self.now))

pub returns-then-contains_key-clause-entries : goal.returns-then-contains_key-clause-entries
returns-then-contains_key-clause-entries c =
    kept_is c.args.name.items c.args.item c.args.self.now
    (sym (c.if-contains_key.ensures ∙ ap (λ q. is_some (get_by (λ (k : Vec ℕ). bytes_eq q k.items) c.args.self.now.names)) c.as_slice.ensures.value
    ∙ ap is_some (found_is c.args.name.items c.args.self.now)))

pub returns-clause-fresh : goal.returns-clause-fresh
returns-clause-fresh c =
    ap not (c.if-contains_key.ensures ∙ ap (λ q. is_some (get_by (λ (k : Vec ℕ). bytes_eq q k.items) c.args.self.now.names)) c.as_slice.ensures.value
    ∙ ap is_some (found_is c.args.name.items c.args.self.now))

pub returns-clause-entries : goal.returns-clause-entries
returns-clause-entries c =
    added_is c.args.name c.args.item c.args.self.now c.insert.new.self
    (sym (c.if-contains_key.ensures ∙ ap (λ q. is_some (get_by (λ (k : Vec ℕ). bytes_eq q k.items) c.args.self.now.names)) c.as_slice.ensures.value
    ∙ ap is_some (found_is c.args.name.items c.args.self.now)))
    c.in_ok-insert.ensures.entries

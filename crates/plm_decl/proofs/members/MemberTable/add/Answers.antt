use Rattle.std.proofs.Common.{ℕ, is_some, bytes_eq, sym, ap, ◌∙◌}
use Rattle.std.specs.Global.{Vec}
use Rattle.std.specs.HashMap.{get_by}
use Rattle.plm_decl.proofs.MemberRows.{found_is, kept_is, added_is}
use Rattle.plm_decl.proofs.members.MemberTable.add.Goals as goal

pub returns-then-contains_key-clause-ok : goal.returns-then-contains_key-clause-ok
returns-then-contains_key-clause-ok c =
    kept_is c.args.name.items c.args.member c.args.self.now
    (sym (c.if-contains_key.ensures ∙ ap (λ q. is_some (get_by (λ (k : Vec ℕ). bytes_eq q k.items) c.args.self.now.members)) c.as_slice.ensures.value
    ∙ ap is_some (found_is c.args.name.items c.args.self.now)))

pub returns-clause-ok : goal.returns-clause-ok
returns-clause-ok c =
    added_is c.args.name c.args.member c.args.self.now c.insert.new.self
    (sym (c.if-contains_key.ensures ∙ ap (λ q. is_some (get_by (λ (k : Vec ℕ). bytes_eq q k.items) c.args.self.now.members)) c.as_slice.ensures.value
    ∙ ap is_some (found_is c.args.name.items c.args.self.now)))
    c.in_ok-insert.ensures.entries

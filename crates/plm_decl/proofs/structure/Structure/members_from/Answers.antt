use Rattle.std.proofs.Common.{◌++◌, sym, ◌∙◌}
use Rattle.std.proofs.lemmas.List.{take-append-drop}
use Rattle.plm_decl.proofs.MemberScalars.{leads_from}
use Rattle.plm_decl.proofs.structure.Structure.members_from.Goals as goal

pub returns-then-begins_by : goal.returns-then-begins_by
returns-then-begins_by c =
    leads_from c.args.position c.split_at.result.0.now c.split_at.result.1.now c.args.self.now.fields.items c.in-Some.field.now
    ((λ j. c.split_at.ensures.front j ++ c.split_at.ensures.back j) ∙ take-append-drop _ c.deref-2.result.now ∙ c.deref-2.ensures.value)
    (sym c.in-Some.ensures.value)
    c.args.self.now.counted
    (sym c.begins_by.ensures ∙ c.if-begins_by.true)

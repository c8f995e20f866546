use Rattle.std.proofs.Common.{ℕ, ◌+◌, List, [], ◌∷◌, ◌++◌, ap, ◌∙◌}
use Rattle.plm_decl.specs.declared.layout.Field.{Field}
use Rattle.plm_decl.specs.declared.layout.Member.{Member}
use Rattle.plm_decl.specs.Layout.{counted}
use Rattle.plm_decl.specs.Inner.Members.{members_of, with_member}
use Rattle.plm_decl.proofs.MemberRows.{tells_more}
use Rattle.plm_decl.proofs.MemberScalars.{counts_more, sums_more}
use Rattle.plm_decl.proofs.structure.Structure.add.Goals as goal

pub invariant_of-self-2 : goal.invariant_of-self-2
invariant_of-self-2 c =
    let old = c.args.self.now in
    let member : Member = record { scalar = c.args.scalar; dimension = c.args.dimension; offset = old.size } in
    let field : Field = record { name = c.args.name; member = member; scalars_before = old.scalars } in
    let grown = c.in-Ok.ensures.items ∙ ap (λ (fs : List Field). fs ++ field ∷ []) c.in_ok-reserve.ensures.items in
    record {
      told = tells_more old.by_name c.add.new.self old.fields.items c.push.new.self.items field old.told
          (c.in_ok-add.ensures.ok ∙ ap (λ (x : List ℕ). with_member x member (members_of old.by_name)) (c.in_ok-key.ensures.items ∙ c.as_slice.ensures.value))
          grown;
      counted = counts_more old.fields.items c.push.new.self.items field old.counted old.summed grown;
      summed = c.saturating_add-self-2.ensures ∙ ap (λ (n : ℕ). counted (old.scalars + n)) c.elements-count.ensures ∙ sums_more old.fields.items c.push.new.self.items field old.scalars old.summed grown;
    }

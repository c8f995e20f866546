use Rattle.std.proofs.Common.{map, is_some, ap, ◌∙◌}
use Rattle.plm_decl.specs.Layout.{field_of}
use Rattle.plm_decl.proofs.MemberRows.{has_is}
use Rattle.plm_decl.proofs.structure.Structure.has.Goals as goal

pub returns : goal.returns
returns c = c.is_some.ensures ∙ ap is_some c.member.ensures ∙ has_is c.args.name.now (map field_of c.args.self.now.fields.items)

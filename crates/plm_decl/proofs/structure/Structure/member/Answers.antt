use Rattle.std.proofs.Common.{◌∙◌}
use Rattle.plm_decl.proofs.MemberRows.{named_is}
use Rattle.plm_decl.proofs.structure.Structure.member.Goals as goal

pub returns : goal.returns
returns c = c.find.ensures ∙ c.args.self.now.told c.args.name.now ∙ named_is c.args.name.now c.args.self.now.fields.items

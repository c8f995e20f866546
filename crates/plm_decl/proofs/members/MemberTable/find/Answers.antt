use Rattle.std.proofs.Common.{◌∙◌}
use Rattle.plm_decl.proofs.MemberRows.{found_is}
use Rattle.plm_decl.proofs.members.MemberTable.find.Goals as goal

pub returns : goal.returns
returns c = c.copied.ensures ∙ c.get.ensures.value ∙ found_is c.args.name.now c.args.self.now

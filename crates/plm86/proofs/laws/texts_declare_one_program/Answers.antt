use Rattle.plm86.proofs.OneProgram.{one_program}
use Rattle.plm86.proofs.laws.texts_declare_one_program.Goals as goal

pub returns : goal.returns
returns c = one_program c.spell_once.ensures

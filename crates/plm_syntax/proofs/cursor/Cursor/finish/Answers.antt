use Rattle.plm_syntax.proofs.NextBlock.{more_text}
use Rattle.plm_syntax.proofs.cursor.Cursor.finish.Goals as goal

pub returns-in-Some : goal.returns-in-Some
returns-in-Some g c = (more_text c.args.self c.in-Some.field-0.2 c.in-Some.field-0.0.kind c.in-Some.field-0.0.text.now c.in-Some.field-0.1 c.in-Some.ensures, c.refuse.ensures)

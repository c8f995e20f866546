use Rattle.board.proofs.Cuts.{due_none}
use Rattle.board.proofs.timetable.Timetable.next_turn.Goals as goal

pub returns-clause-quiet : goal.returns-clause-quiet
returns-clause-quiet c = λ t lt before. due_none t c.args.self.now.turns.items c.args.self.now.events.items ((rw c.deref.ensures.value at c.next_in.ensures.none) t lt before) c.args.self.now.paired

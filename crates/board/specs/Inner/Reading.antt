-- What the code has read so far.
use Rattle.board.specs.declared.reading.Reading.{Reading}
use Rattle.board.specs.Schedule.{View}

abbrev pub seen : Reading → View
seen r = record { fill = r.fill; turns = r.timetable.turns.items; events = r.timetable.events.items; stop = r.stop; line = r.line; fault = r.fault }

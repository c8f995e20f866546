use Rattle.std.proofs.Common.{◌-◌}
use Rattle.listing_map.specs.ProgramMap.{handler_lines}
use Rattle.listing_map.proofs.Writing.{Took}
use Rattle.listing_map.proofs.program_map.put_handlers.Given as goal

abbrev pub invariant-loop-number : goal.invariant-loop-number
invariant-loop-number g l =
    Took (g.S.Sink.taken l.initial.sink) (g.S.Sink.taken l.sink) (g.S.Sink.failures l.initial.sink) (g.S.Sink.failures l.sink) (handler_lines 256 0 l.program.names) (handler_lines (256 - l.number) l.number l.program.names)

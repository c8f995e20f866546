use Rattle.std.proofs.Common.{length}
use Rattle.std.specs.Io.KnownBytes.{Consumes}
use Rattle.plm86.proofs.Reading.{IsWithin}
use Rattle.plm86.proofs.input.read_all.Given as goal

abbrev pub invariant-loop : goal.invariant-loop
invariant-loop g l = Consumes (g.R.Read.remaining l.initial.reader) (g.R.Read.remaining l.reader) l.bytes.items × IsWithin l.most (length l.bytes.items)

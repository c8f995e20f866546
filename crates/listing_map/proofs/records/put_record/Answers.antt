use Rattle.std.proofs.Common.{◌++◌, ◌+◌, List, ℕ, length, subst, sym, append_assoc}
use Rattle.word86.specs.Sink.{Writes}
use Rattle.listing_map.specs.Lines.{hex2, line_end}
use Rattle.listing_map.specs.Records.{check_of, header_of, record_front, total}
use Rattle.listing_map.proofs.Writing.{cut_longer, writes_after}
use Rattle.listing_map.proofs.records.put_record.Goals as goal

pub returns-in-Ok : goal.returns-in-Ok
returns-in-Ok g c =
    let bytes = c.args.bytes.now in
    let header = header_of (length bytes) c.args.kind c.args.offset in
    let front = record_front header bytes in
    let digits = hex2 (check_of (total header + total bytes)) in
    subst (λ (t : List ℕ). Writes (g.S.Sink.taken c.args.sink.now) (g.S.Sink.taken c.put_all.new.sink) (g.S.Sink.failures c.args.sink.now) (g.S.Sink.failures c.put_all.new.sink) t c.put_all.result)
    (sym (append_assoc front digits line_end))
    (writes_after _ _ _ _ _ _ front (digits ++ line_end) _ c.in-Ok.ensures (rw (c.hex_byte.ensures, c.check.ensures) at c.put_all.ensures))

pub returns-in-Err : goal.returns-in-Err
returns-in-Err g c =
    let bytes = c.args.bytes.now in
    let header = header_of (length bytes) c.args.kind c.args.offset in
    let front = record_front header bytes in
    let digits = hex2 (check_of (total header + total bytes)) in
    (cut_longer _ _ (front ++ digits) line_end (cut_longer _ _ front digits c.in-Err.ensures.0), c.in-Err.ensures.1)

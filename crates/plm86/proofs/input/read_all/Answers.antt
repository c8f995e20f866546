use Rattle.std.proofs.Common.{rules}
use Rattle.plm86.proofs.Reading.{gave, gave_many, gave_none, so_long, within_more}
use Rattle.plm86.proofs.input.read_all.Goals as goal

pub returns-in-Err-extend_from_slice-clause-refused : goal.returns-in-Err-extend_from_slice-clause-refused
returns-in-Err-extend_from_slice-clause-refused g c =
    let within = within_more c.args.most c.loop.bytes.items _ c.len-read.result c.room-room.result c.in-Ok.count (search rules) c.room-room.ensures.within (search rules) in
    gave _ _ _ c.loop.bytes.items _ c.args.most c.loop.invariant.0 c.in-Ok.ensures.bytes.0 within

pub returns-in-Err-extend_from_slice-clause-counted : goal.returns-in-Err-extend_from_slice-clause-counted
returns-in-Err-extend_from_slice-clause-counted g c = λ n e.
    let long = so_long c.loop.bytes.items _ c.len-read.result c.in-Ok.count n (search rules) c.in-Ok.ensures.bound.0 e in
    gave_many _ _ _ c.loop.bytes.items _ n c.loop.invariant.0 c.in-Ok.ensures.bytes.0 long

pub returns-in-Err-2-clause-refused : goal.returns-in-Err-2-clause-refused
returns-in-Err-2-clause-refused g c = gave_none _ _ _ c.loop.bytes.items c.args.most c.loop.invariant.0 c.in-Err-2.ensures.bytes c.loop.invariant.1

use Rattle.std.proofs.Common.{◌≡◌, ◌<◌, ◌+◌, ◌-◌, ◌/◌, length, rules, arith}
use Rattle.listing_map.specs.Records.{data_lines, record_line}
use Rattle.listing_map.proofs.Said.{data_next}
use Rattle.listing_map.proofs.Writing.{took_breaks, took_more}
use Rattle.listing_map.proofs.records.put_data.Goals as goal

pub returns-in-Err : goal.returns-in-Err
returns-in-Err g c =
    let rest = c.loop-rest.rest.now in
    let first = c.first_bytes.result.0.now in
    let after = c.first_bytes.result.1.now in
    let some : 0 < length rest = search rules in
    let near : c.saturating_sub-offset.result ≡ 65536 - length rest = omega arith in
    took_breaks _ _ _ _ _ _ _ (record_line 0 c.saturating_sub-offset.result first) (data_lines ((length rest + 15) / 16) rest) (data_lines ((length after + 15) / 16) after)
    (data_next rest first after c.saturating_sub-offset.result some near c.first_bytes.ensures.first c.first_bytes.ensures.rest) c.loop-rest.invariant c.in-Err.ensures

pub loop-rest-preserved : goal.loop-rest-preserved
loop-rest-preserved g c =
    let rest = c.loop-rest.rest.now in
    let first = c.first_bytes.result.0.now in
    let after = c.first_bytes.result.1.now in
    let some : 0 < length rest = search rules in
    let near : c.saturating_sub-offset.result ≡ 65536 - length rest = omega arith in
    took_more _ _ _ _ _ _ _ (record_line 0 c.saturating_sub-offset.result first) (data_lines ((length rest + 15) / 16) rest) (data_lines ((length after + 15) / 16) after)
    (data_next rest first after c.saturating_sub-offset.result some near c.first_bytes.ensures.first c.first_bytes.ensures.rest) c.loop-rest.invariant c.in-Ok.ensures.0 c.in-Ok.ensures.1

use Rattle.std.proofs.Common.{◌≡◌, ◌<◌, ℕ, List, drop, rules, subst, arith}
use Rattle.word86.specs.Sink.{Writes}
use Rattle.listing_map.proofs.Writing.{writes_parted}
use Rattle.listing_map.proofs.pieces.put_at_once.Goals as goal

pub returns : goal.returns
returns g c =
    let n = c.in_ok-taken.taken in
    let piece = c.args.piece.now in
    let left : c.split_at.result.1.now ≡ drop n piece = search rules in
    let some : 0 < n = omega (arith, c.if-taken-eq0.false) in
    let h = subst (λ (t : List ℕ). Writes (g.S.Sink.taken c.put.new.self) (g.S.Sink.taken c.put_rest.new.sink) (g.S.Sink.failures c.put.new.self) (g.S.Sink.failures c.put_rest.new.sink) t c.put_rest.result) left c.put_rest.ensures in
    writes_parted _ _ _ _ _ _ n piece _ (c.in_ok-taken.ensures.bytes, c.in_ok-taken.ensures.count.1 some) h

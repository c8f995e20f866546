use Rattle.std.proofs.Common.{◌<◌, length, sym, ap, ◌∙◌, arith}
use Rattle.word86.specs.Access.{Write}
use Rattle.ppi_kbd.specs.BoardChips.{board_chips}
use Rattle.word86.specs.Place.{where_of}
use Rattle.plm_meaning.specs.Store.{touch, with_objects}
use Rattle.plm_meaning.specs.Shown.{store_of}
use Rattle.plm_meaning.proofs.Objects.{object_stored}
use Rattle.plm_meaning.proofs.store.Store.write.Goals as goal

pub returns-then-k-len-clause-store : goal.returns-then-k-len-clause-store
returns-then-k-len-clause-store c d =
    let self = c.args.self.now in
    let os = self.objects.items in
    let k = c.in-Ram.k in
    let lt : k < length os = omega (arith, c.if-k-len.true, c.len.ensures, self.objects.ok.0) in
    ap (λ objects. with_objects objects (store_of self d)) (object_stored os k c.index_mut.result.now c.put_value.new.bytes c.args.width c.in-Ram.at c.args.v lt c.index_mut.ensures.value c.put_value.ensures)
    ∙ ap (λ p. (touch board_chips (Write c.args.width (where_of p) c.args.v) (store_of self d)).1) (sym c.in-Ram.is)

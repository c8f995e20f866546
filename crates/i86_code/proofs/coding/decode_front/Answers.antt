use Rattle.std.proofs.Common.{sym, arith}
use Rattle.i86_code.proofs.DecodeLaws.{shorter}
use Rattle.i86_code.proofs.coding.decode_front.Goals as goal

pub overflow_sub-result : goal.overflow_sub-result
overflow_sub-result c = shorter c.args.bytes.now c.in_ok-form.form c.in_ok-form.rest.now (λ i. omega (arith, c.type_inv.bytes i)) (sym c.in_ok-form.ensures)

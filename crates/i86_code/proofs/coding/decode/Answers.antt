use Rattle.std.proofs.Common.{ℕ, Option, take, sym, subst, arith}
use Rattle.std.specs.Prelude.{IfSome}
use Rattle.i86_table.specs.declared.instruction.Instr.{Instr}
use Rattle.i86_code.specs.Forms.{Spells}
use Rattle.i86_code.proofs.DecodeLaws.{decoded_found, decoded_none}
use Rattle.i86_code.proofs.coding.decode.Goals as goal

pub returns-clause-found : goal.returns-clause-found
returns-clause-found c =
    let bytes = c.args.bytes.now in
    subst (λ (o : Option (Instr × ℕ)). IfSome o (λ d. Spells (take d.1 bytes) d.0)) (sym c.decode_front.ensures.exact) (decoded_found bytes (λ i. omega (arith, c.type_inv.bytes i)))

pub returns-clause-none : goal.returns-clause-none
returns-clause-none c = decoded_none c.args.bytes.now c.decode_front.result c.decode_front.ensures.exact

use Rattle.std.proofs.Common.{Some, ap, ◌∙◌}
use Rattle.icode.specs.declared.instruction.Instruction.TheVariants as op
use Rattle.lower.proofs.Trees.{not_based}
use Rattle.lower.proofs.Stores.{store_behind}
use Rattle.lower.proofs.assignments.store_at.Goals as goal

pub returns-in-len1-up : goal.returns-in-len1-up
returns-in-len1-up c =
    ap (λ at. Some (op.StoreConstantAt c.args.width at c.args.constant)) c.anchor_place-at.ensures
    ∙ store_behind c.args.width c.args.anchor c.args.offset c.args.subscripts.now c.args.constant (not_based c.args.anchor c.in-InObject.is) c.in-len1-up.len_at_least

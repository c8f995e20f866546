use Rattle.std.proofs.Common.{map}
use Rattle.plm_syntax.specs.Inner.Names.{names_in}
use Rattle.plm_syntax.specs.Inner.Scope.{literal_text}
use Rattle.plm_syntax.proofs.Facts.{true_closed}
use Rattle.plm_syntax.proofs.open_blocks.OpenBlocks.close.Goals as goal

pub invariant_of-self-then-keeps_base : goal.invariant_of-self-then-keeps_base
invariant_of-self-then-keeps_base c =
    let self = c.args.self.now in
    let e = c.close-then-keeps_base.ensures in
    record { known_so = true_closed self.scope c.close-then-keeps_base.new.self self.known c.end_block.new.self c.end_block.ensures (c.keeps_base.ensures c.if-keeps_base.true) e.closed e.assumed e.base e.names self.known_so }

pub invariant_of-self-2 : goal.invariant_of-self-2
invariant_of-self-2 c =
    let scope = c.rebase.new.self in
    record { known_so = c.forget.ensures (names_in scope.names) (map literal_text scope.literals.items) scope.assumed.items scope.base }

use Rattle.std.proofs.Common.{map}
use Rattle.plm_syntax.specs.Inner.Names.{names_in}
use Rattle.plm_syntax.specs.Inner.Scope.{literal_text}
use Rattle.plm_syntax.proofs.open_blocks.OpenBlocks.new.Goals as goal

pub invariant_of-result : goal.invariant_of-result
invariant_of-result c =
    let scope = c.new.result in
    record { known_so = c.new-2.ensures (names_in scope.names) (map literal_text scope.literals.items) scope.assumed.items scope.base }

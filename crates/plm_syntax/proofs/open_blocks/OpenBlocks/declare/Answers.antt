use Rattle.std.proofs.Common.{length, map, arith}
use Rattle.std.proofs.lemmas.List.{take_all}
use Rattle.plm_syntax.specs.Inner.Names.{names_in}
use Rattle.plm_syntax.specs.Inner.Scope.{literal_text}
use Rattle.plm_syntax.proofs.Facts.{true_declared, true_assumed}
use Rattle.plm_syntax.proofs.open_blocks.OpenBlocks.declare.Goals as goal

pub invariant_of-self : goal.invariant_of-self
invariant_of-self c =
    let self = c.args.self.now in
    let e = c.declare.ensures in
    record { known_so = true_declared self.scope c.declare.new.self self.known e.names e.literals e.assumed e.base self.known_so }

pub invariant_of-self-in-Break-branch-2 : goal.invariant_of-self-in-Break-branch-2
invariant_of-self-in-Break-branch-2 c =
    let self = c.args.self.now in
    let e = c.declare.ensures in
    let scope = c.declare.new.self in
    record {
      known_so = c.make_room.ensures.known (names_in scope.names) (map literal_text scope.literals.items) scope.assumed.items scope.assumed.items scope.base (take_all (length scope.assumed.items) scope.assumed.items (omega arith))
          (true_declared self.scope scope self.known e.names e.literals e.assumed e.base self.known_so);
    }

pub invariant_of-self-2 : goal.invariant_of-self-2
invariant_of-self-2 c =
    let self = c.args.self.now in
    let e = c.declare.ensures in
    let f = c.assume.ensures in
    let scope = c.declare.new.self in
    record {
      known_so = true_assumed scope c.assume.new.self self.known c.make_room.new.self c.make_room.ensures.known f.assumed f.blocks f.names f.base (true_declared self.scope scope self.known e.names e.literals e.assumed e.base self.known_so);
    }

use Rattle.std.proofs.Common.{◌≡◌}
use Rattle.std.proofs.lemmas.Result.{IfOk-at_ok, IfOk-weaker}
use Rattle.plm_syntax.specs.View as tree
use Rattle.plm_decl.specs.declared.resolved.Bounds.{Bounds}
use Rattle.plm_decl.specs.Inner.Scope.{frames_of}
use Rattle.plm_decl.specs.Inner.Resolver.{known_of}
use Rattle.plm_decl.specs.Inner.Statements.{bounds_of, bounds_for}
use Rattle.plm_decl.proofs.resolver.Resolver.bounds.Goals as goal

pub returns : goal.returns
returns c =
    let v = c.args.values.now in
    let all = bounds_for (frames_of c.args.scope.now) (tree.name_of c.args.index.now) (tree.expression_of v.first) (tree.expression_of v.last) (tree.step_of v.step) (known_of c.args.self.now) in
    IfOk-weaker c.boxed.result _ _
    (λ b made. IfOk-at_ok (λ (r : Bounds). (bounds_of r, known_of c.unboxed_bounds.new.self) ≡ all) made c.unboxed_bounds.ensures)
    c.boxed.ensures

use Rattle.std.proofs.Common.{◌++◌, List, Option, ap, ◌∙◌}
use Rattle.word86.specs.declared.number.Number.TheVariants.{E401}
use Rattle.plm_decl.specs.declared.layout.ScalarType.{ScalarType}
use Rattle.plm_decl.specs.declared.found.Found.{Found}
use Rattle.plm_decl.specs.ResolvedView as resolved
use Rattle.plm_type.specs.Faults.{fault_unless}
use Rattle.plm_type.specs.Expressions.{wanted}
use Rattle.plm_type.specs.Rest as rest
use Rattle.plm_type.specs.Inner.Typer.{noted, after, typed_by}
use Rattle.plm_type.specs.Statements.{may_return_value}
use Rattle.plm_type.specs.View.{expression_of}
use Rattle.plm_type.proofs.Said.{judged_after}
use Rattle.plm_type.proofs.typer.Typer.returned.Goals as goal

pub returns : goal.returns
returns c =
    let m = c.args.self.now.module in
    let old = c.args.faults.now.items in
    let e = typed_by c.args.self.now (resolved.expression_of c.args.e.now) in
    let value = c.in_ok-value.ensures ∙ ap (λ (t : Option ScalarType). after old (wanted m t e)) c.wanted.ensures in
    let own : Option ScalarType → List Found = λ t. fault_unless m (may_return_value c.args.around t) E401 c.args.place in
    let did = c.in_ok-tree.ensures in
    let judged = did.faults ∙ ap (λ b. c.value_for.new.faults.items ++ fault_unless m b E401 c.args.place) c.may_return_value-is_taken.ensures in
    (λ j. noted (expression_of (did.value j)) (judged j)) ∙ judged_after (λ (x : rest.Expression). x) own old _ _ value

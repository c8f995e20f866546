use Rattle.std.proofs.Common.{◌≡◌, Option, Some, sym, ap, ◌∙◌}
use Rattle.std.specs.Prelude.{option_map}
use Rattle.std.proofs.lemmas.Result.{IfOk-weaker}
use Rattle.plm_syntax.specs.Terminal.{NameT}
use Rattle.plm_syntax.specs.View.{name_of, names_of}
use Rattle.plm_syntax.specs.Spelling.{last_name}
use Rattle.plm_decl.specs.Inner.Scope.{frames_of}
use Rattle.plm_decl.specs.Inner.Resolver.{known_of}
use Rattle.plm_decl.specs.Statements.{block_path}
use Rattle.plm_decl.proofs.ListViews.{last_name_is}
use Rattle.plm_decl.proofs.resolver.Resolver.do_path.Goals as goal

pub returns-in-Some : goal.returns-in-Some
returns-in-Some c =
    let k = known_of c.args.self.now in
    let e : last_name (names_of c.args.labels.now) ≡ Some (name_of c.in-Some.label.now) = last_name_is c.args.labels.now ∙ ap (option_map name_of) (sym c.in-Some.ensures.value) in
    IfOk-weaker c.path_of.result _ _
    (λ p is. (λ j. (is j, k)) ∙ ap (λ (o : Option NameT). block_path (frames_of c.args.scope.now) o k) (sym e))
    c.path_of.ensures

use Rattle.std.proofs.Common.{◌≡◌, ◌<◌, false, length, map, sym, ap, subst, ◌∙◌}
use Rattle.std.proofs.lemmas.List.{length-map}
use Rattle.plm_type.specs.Reach.{Graph}
use Rattle.plm_type.specs.Inner.Reach.{rows, marks_of, AreReached, marked_twice}
use Rattle.plm_type.specs.Calls.{graph_of}
use Rattle.plm_type.specs.Sharing.{roots, warnings_of}
use Rattle.plm_type.specs.View.{procedure_of}
use Rattle.plm_type.proofs.MarkedTwice.{twice_from, twice_to, within_marked}
use Rattle.plm_type.proofs.sharing.warnings.Goals as goal

pub returns-clause-warnings : goal.returns-clause-warnings
returns-clause-warnings c =
    let program = c.args.program.now in
    let g = graph_of (map procedure_of program.procedures.items) in
    let searched = roots program in
    let all = marks_of c.in_ok-roots.roots.items in
    let made : rows c.deref.result.now ≡ g = ap rows c.deref.ensures.value ∙ c.in_ok-graph.ensures ∙ (λ j. graph_of (map procedure_of (c.procedures.ensures j))) in
    let exact : AreReached g searched all = subst (λ (x : Graph). AreReached x searched all) made c.in_ok-roots.ensures in
    let long : length g ≡ length program.procedures.items = length-map _ _ ∙ length-map _ _ in
    let names = c.deref-3.ensures.value ∙ (λ j. (c.names.ensures.names j).procedures.items) in
    record {
      is_marked = λ p. marked_twice p false all;
      marks = λ p. (
        λ e. let h = within_marked g searched all exact p e in (subst (λ n. p < n) long h, twice_from g searched all exact p h e),
        λ s. twice_to g searched all exact p (subst (λ n. p < n) (sym long) s.0) s.1.a s.1.b s.1.apart s.1.first s.1.second,
      );
      each = c.in_ok-warnings_for.ensures ∙ (λ j. warnings_of (λ p. marked_twice p false (marks_of (c.deref-2.ensures.value j))) 0 (names j));
    }

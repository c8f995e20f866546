use Rattle.std.proofs.Common.{◌≡◌, ◌∙◌, Some, [], ap, sym, inl, inr, codes, map, Bor, rules, subst}
use Rattle.std.proofs.lemmas.Result.{IfOk-weaker, IfErr-weaker}
use Rattle.clap.specs.Words.{App, Text, subcommand_of, is_simple, found_of, rows_of}
use Rattle.clap.specs.Faults.{fault_of, is_simple_and_free}
use Rattle.clap.specs.Kinds.{HasKind}
use Rattle.plm86.specs.CommandLine.{plm86_app}
use Rattle.plm86.specs.Order.{OrderOf, IsFaultOf}
use Rattle.plm86.proofs.Meets.{app_is_simple, app_is_free, named, met, fault_of_error, fault_of_value}
use Rattle.plm86.proofs.command_line.order.Goals as goal

pub returns-in-Err-clause-refused : goal.returns-in-Err-clause-refused
returns-in-Err-clause-refused c =
    let words = map (λ (w : Bor Text). w.now) c.args.words.now in
    let app_is = c.in_ok-command.ensures in
    fault_of_error words c.in-Err.error c.refusal.result (subst (λ (a : App). HasKind (fault_of a words) c.in-Err.error) app_is (c.in-Err.ensures.kinds (ap is_simple_and_free app_is ∙ app_is_free))) c.refusal.ensures

pub returns-then-eq-clause-ok : goal.returns-then-eq-clause-ok
returns-then-eq-clause-ok c =
    let words = map (λ (w : Bor Text). w.now) c.args.words.now in
    let app_is = c.in_ok-command.ensures in
    let accepted : fault_of plm86_app words ≡ [] = ap (λ (a : App). fault_of a words) (sym app_is) ∙ c.in-Ok.ensures.kinds (ap is_simple_and_free app_is ∙ app_is_free) in
    let rows = rows_of (found_of c.in-Some.inner.now) in
    let name : c.in-Some.name.now ≡ codes "build" = search rules in
    let given = met c.in-Ok.matches (codes "build") rows (ap Some (sym name) ∙ c.in-Some.ensures.name) c.in-Some.ensures.rows in
    let at_words : subcommand_of plm86_app words ≡ Some (codes "build", rows) =
    ap (λ (a : App). subcommand_of a words) (sym app_is) ∙ sym (c.in-Ok.ensures.matches (ap is_simple app_is ∙ app_is_simple)).1 ∙ given in
    IfOk-weaker c.build_order.result _ _ (λ o h. (accepted, codes "build", rows, at_words, h)) c.build_order.ensures.ok

pub returns-then-eq-clause-refused : goal.returns-then-eq-clause-refused
returns-then-eq-clause-refused c =
    let words = map (λ (w : Bor Text). w.now) c.args.words.now in
    let app_is = c.in_ok-command.ensures in
    let rows = rows_of (found_of c.in-Some.inner.now) in
    let name : c.in-Some.name.now ≡ codes "build" = search rules in
    let given = met c.in-Ok.matches (codes "build") rows (ap Some (sym name) ∙ c.in-Some.ensures.name) c.in-Some.ensures.rows in
    let at_words : subcommand_of plm86_app words ≡ Some (codes "build", rows) =
    ap (λ (a : App). subcommand_of a words) (sym app_is) ∙ sym (c.in-Ok.ensures.matches (ap is_simple app_is ∙ app_is_simple)).1 ∙ given in
    IfErr-weaker c.build_order.result _ _ (λ e h. fault_of_value words (codes "build") rows at_words e h) c.build_order.ensures.err

pub returns-then-eq-2-clause-ok : goal.returns-then-eq-2-clause-ok
returns-then-eq-2-clause-ok c =
    let words = map (λ (w : Bor Text). w.now) c.args.words.now in
    let app_is = c.in_ok-command.ensures in
    let accepted : fault_of plm86_app words ≡ [] = ap (λ (a : App). fault_of a words) (sym app_is) ∙ c.in-Ok.ensures.kinds (ap is_simple_and_free app_is ∙ app_is_free) in
    let rows = rows_of (found_of c.in-Some.inner.now) in
    let name : c.in-Some.name.now ≡ codes "run" = search rules in
    let given = met c.in-Ok.matches (codes "run") rows (ap Some (sym name) ∙ c.in-Some.ensures.name) c.in-Some.ensures.rows in
    let at_words : subcommand_of plm86_app words ≡ Some (codes "run", rows) =
    ap (λ (a : App). subcommand_of a words) (sym app_is) ∙ sym (c.in-Ok.ensures.matches (ap is_simple app_is ∙ app_is_simple)).1 ∙ given in
    IfOk-weaker c.run_order.result _ _ (λ o h. (accepted, codes "run", rows, at_words, h)) c.run_order.ensures.ok

pub returns-then-eq-2-clause-refused : goal.returns-then-eq-2-clause-refused
returns-then-eq-2-clause-refused c =
    let words = map (λ (w : Bor Text). w.now) c.args.words.now in
    let app_is = c.in_ok-command.ensures in
    let rows = rows_of (found_of c.in-Some.inner.now) in
    let name : c.in-Some.name.now ≡ codes "run" = search rules in
    let given = met c.in-Ok.matches (codes "run") rows (ap Some (sym name) ∙ c.in-Some.ensures.name) c.in-Some.ensures.rows in
    let at_words : subcommand_of plm86_app words ≡ Some (codes "run", rows) =
    ap (λ (a : App). subcommand_of a words) (sym app_is) ∙ sym (c.in-Ok.ensures.matches (ap is_simple app_is ∙ app_is_simple)).1 ∙ given in
    IfErr-weaker c.run_order.result _ _ (λ e h. fault_of_value words (codes "run") rows at_words e h) c.run_order.ensures.err

pub returns-clause-ok : goal.returns-clause-ok
returns-clause-ok c =
    let words = map (λ (w : Bor Text). w.now) c.args.words.now in
    let app_is = c.in_ok-command.ensures in
    let accepted : fault_of plm86_app words ≡ [] = ap (λ (a : App). fault_of a words) (sym app_is) ∙ c.in-Ok.ensures.kinds (ap is_simple_and_free app_is ∙ app_is_free) in
    let rows = rows_of (found_of c.in-Some.inner.now) in
    let given = met c.in-Ok.matches c.in-Some.name.now rows c.in-Some.ensures.name c.in-Some.ensures.rows in
    let at_words : subcommand_of plm86_app words ≡ Some (c.in-Some.name.now, rows) =
    ap (λ (a : App). subcommand_of a words) (sym app_is) ∙ sym (c.in-Ok.ensures.matches (ap is_simple app_is ∙ app_is_simple)).1 ∙ given in
    let name : c.in-Some.name.now ≡ codes "mean" = elim (named words c.in-Some.name.now rows at_words) [
      | inl x ↦ absurd (search rules)
      | inr (inl x) ↦ absurd (search rules)
      | inr (inr x) ↦ x
    ] in
    IfOk-weaker c.mean_order.result _ _ (λ o h. (accepted, c.in-Some.name.now, rows, at_words, subst (λ (n : Text). OrderOf n rows o) (sym name) h)) c.mean_order.ensures.ok

pub returns-clause-refused : goal.returns-clause-refused
returns-clause-refused c =
    let words = map (λ (w : Bor Text). w.now) c.args.words.now in
    let app_is = c.in_ok-command.ensures in
    let rows = rows_of (found_of c.in-Some.inner.now) in
    let given = met c.in-Ok.matches c.in-Some.name.now rows c.in-Some.ensures.name c.in-Some.ensures.rows in
    let at_words : subcommand_of plm86_app words ≡ Some (c.in-Some.name.now, rows) =
    ap (λ (a : App). subcommand_of a words) (sym app_is) ∙ sym (c.in-Ok.ensures.matches (ap is_simple app_is ∙ app_is_simple)).1 ∙ given in
    let name : c.in-Some.name.now ≡ codes "mean" = elim (named words c.in-Some.name.now rows at_words) [
      | inl x ↦ absurd (search rules)
      | inr (inl x) ↦ absurd (search rules)
      | inr (inr x) ↦ x
    ] in
    IfErr-weaker c.mean_order.result _ _ (λ e h. fault_of_value words (codes "mean") rows (at_words ∙ ap (λ (n : Text). Some (n, rows)) name) e h) c.mean_order.ensures.err

use Rattle.std.proofs.Common.{◌≡◌, List, [], ◌∷◌, map, refl, sym, ap, ◌∙◌}
use Rattle.std.specs.Prelude.{slice_get, option_map}
use Rattle.plm_syntax.specs.declared.tree.Reference.{Reference}
use Rattle.plm_syntax.specs.declared.tree.Basic.{Basic}
use Rattle.plm_syntax.specs.Tree.{no_references}
use Rattle.plm_syntax.specs.View.{reference_of, basic_of}
use Rattle.plm_decl.specs.Stray.{first_target, place_of_basic}
use Rattle.plm_decl.proofs.ListViews.{reference_list_from}
use Rattle.plm_decl.proofs.stray.place_of.Goals as goal

first_is : (xs : List Reference) → option_map (λ (x : Reference). x.name.place) (slice_get xs 0) ≡ first_target (map reference_of xs)
first_is [] = refl
first_is (x ∷ xs) = refl

pub returns-in_ok-first-in-Assign : goal.returns-in_ok-first-in-Assign
returns-in_ok-first-in-Assign c =
    let xs = c.in-Assign.targets.items in
    ap (option_map (λ (x : Reference). x.name.place)) (c.in_ok-first-in-Assign.ensures.value ∙ ap (λ (l : List Reference). slice_get l 0) c.deref.ensures.value)
    ∙ first_is xs
    ∙ ap first_target (sym (reference_list_from xs no_references))
    ∙ ap (λ (b : Basic). place_of_basic (basic_of b)) (sym c.in-Assign.is)

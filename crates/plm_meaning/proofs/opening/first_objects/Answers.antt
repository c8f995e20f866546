use Rattle.std.proofs.Common.{◌≡◌, ℕ, List, [], ◌∷◌, ◌++◌, ◌≤◌, length, map, drop, refl, sym, ap, ◌∙◌, arith, append-nil}
use Rattle.std.proofs.lemmas.List.{drop_all}
use Rattle.plm_decl.specs.declared.names.Variable.{Variable}
use Rattle.plm_decl.specs.Names.{object_of}
use Rattle.plm_meaning.specs.Opening.{objects_at}
use Rattle.plm_meaning.specs.Around.{names_of}
use Rattle.plm_meaning.specs.Inner.Redex.{offsets_of}
use Rattle.plm_meaning.proofs.opening.first_objects.Goals as goal

-- where no object is left
none_left : (offsets : List ℕ) (variables : List Variable) (ram os : List ℕ) → objects_at offsets variables ram os [] ≡ []
none_left offsets variables ram [] = refl
none_left offsets variables ram (o ∷ os) = refl

pub returns-then-len-number : goal.returns-then-len-number
returns-then-len-number c =
    let a = c.args.around.now in
    let k = c.loop-number.number in
    let os = c.offsets-offset-items.result.now in
    let xs = c.names.result.now.objects in
    let bytes_of = objects_at (offsets_of a) (names_of a).variables.items c.args.ram.now in
    let so_far = map (λ b. b.items) c.loop-number.bytes.items in
    let le : length xs.items ≤ k = omega (arith, c.if-len-number.true, c.len.ensures, xs.ok.0) in
    sym (append-nil so_far)
    ∙ ap (λ more. so_far ++ more) (sym (ap (λ ys. bytes_of (drop k os) (map object_of ys)) (drop_all k xs.items le) ∙ none_left (offsets_of a) (names_of a).variables.items c.args.ram.now (drop k os)))
    ∙ c.loop-number.invariant
    ∙ (λ j. bytes_of (c.offsets-offset-items.ensures j) (map object_of (c.names.ensures.names j).objects.items))

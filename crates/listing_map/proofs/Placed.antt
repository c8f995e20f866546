-- The lines of a map: objects among screen names, and handlers.
use Rattle.std.proofs.Common.{◌≡◌, ◌∙◌, ◌++◌, ◌∷◌, [], ◌+◌, ◌-◌, ◌<◌, ◌≤◌, inl, inr, ℕ, zero, suc, min, max, List, ap, sym, refl, arith, length, take, drop, get_or}
use Rattle.std.specs.Prelude.{codes, slice_index, slice_range}
use Rattle.std.specs.List.{concat}
use Rattle.std.proofs.lemmas.Bool.{cases_lt}
use Rattle.std.proofs.lemmas.List.{at_drop_more, at_drop_all, drop_more, drop_all, take_all, length-drop}
use Rattle.plm_decl.specs.declared.names.Object.{Object}
use Rattle.plm_decl.specs.declared.names.Names.{Names}
use Rattle.plm_decl.specs.declared.names.ScreenName.{ScreenName}
use Rattle.listing_map.specs.ProgramMap.{place_line, object_lines, screen_line, declared_lines, handler_name, handler_line, handler_lines}

pub length-object_lines : (offsets : List ℕ) (number : ℕ) (objects : List Object) → length (object_lines offsets number objects) ≡ length objects
length-object_lines offsets number [] = refl
length-object_lines offsets number (o ∷ os) = ap suc (length-object_lines offsets (number + 1) os)

abbrev pub object_line : List ℕ → ℕ → Object → List ℕ
object_line offsets number o = place_line (codes "OBJECT ") (slice_index offsets number) o.size o.path.items

-- the line of an object, by its number
pub object_at : (offsets : List ℕ) (first k : ℕ) (objects : List Object) (d : Object) → k < length objects → get_or (object_lines offsets first objects) k [] ≡ object_line offsets (first + k) (get_or objects k d)
object_at offsets first k [] d lt = absurd (omega (arith, lt))
object_at offsets first zero (o ∷ os) d lt =
    let same : first ≡ first + 0 = omega arith in
    ap (λ n. object_line offsets n o) same
object_at offsets first (suc k) (o ∷ os) d lt =
    let rest : k < length os = omega (arith, lt) in
    let same : first + 1 + k ≡ first + suc k = omega arith in
    object_at offsets (first + 1) k os d rest ∙ ap (λ n. object_line offsets n (get_or os k d)) same

-- a part of a list that has an element, and one that has none
pub part_from : (lines : List (List ℕ)) (from end : ℕ) → from < end → from < length lines → slice_range lines from end ≡ get_or lines from [] ∷ slice_range lines (from + 1) end
part_from lines from end below inside =
    let count : end - from ≡ suc (end - (from + 1)) = omega arith in
    ap (λ n. take n (drop from lines)) count ∙ ap (take (suc (end - (from + 1)))) (drop_more lines from [] inside)

pub part_none : (lines : List (List ℕ)) (from end : ℕ) → min end (length lines) ≤ from → concat (slice_range lines from end) ≡ []
part_none lines from end h =
    elim (cases_lt from end) [
      | inr past ↦
          let count : end - from ≡ 0 = omega arith in
          ap (λ n. concat (take n (drop from lines))) count
      | inl before ↦
          let all : length lines ≤ from = omega (arith, h, before) in
          let count : end - from ≡ suc (end - from - 1) = omega arith in
          ap (λ (l : List (List ℕ)). concat (take (end - from) l)) (drop_all from lines all) ∙ ap (λ n. concat (take n [])) count
    ]

-- the lines of the objects from one number up to another: the first of them, and the others
pub objects_from : (offsets : List ℕ) (objects : List Object) (from end : ℕ) (o : Object) → from < min end (length objects) → o ≡ get_or objects from o
    → concat (slice_range (object_lines offsets 0 objects) from end) ≡ object_line offsets from o ++ concat (slice_range (object_lines offsets 0 objects) (from + 1) end)
objects_from offsets objects from end o lt at =
    let below : from < end = omega (arith, lt) in
    let inside : from < length objects = omega (arith, lt) in
    let lines : from < length (object_lines offsets 0 objects) = omega (arith, inside, length-object_lines offsets 0 objects) in
    let same : 0 + from ≡ from = omega arith in
    ap concat (part_from (object_lines offsets 0 objects) from end below lines)
    ∙ ap (λ (l : List ℕ). l ++ concat (slice_range (object_lines offsets 0 objects) (from + 1) end)) (object_at offsets 0 from objects o inside ∙ ap (λ n. object_line offsets n (get_or objects from o)) same ∙ ap (λ (x : Object). object_line offsets from x) (sym at))

pub objects_none : (offsets : List ℕ) (objects : List Object) (from end : ℕ) → min end (length objects) ≤ from → concat (slice_range (object_lines offsets 0 objects) from end) ≡ []
objects_none offsets objects from end h = part_none (object_lines offsets 0 objects) from end (omega (arith, h, length-object_lines offsets 0 objects))

-- all objects that are left
pub objects_left : (offsets : List ℕ) (objects : List Object) (from : ℕ) → concat (slice_range (object_lines offsets 0 objects) from (length objects)) ≡ concat (drop from (object_lines offsets 0 objects))
objects_left offsets objects from =
    ap concat (take_all (length objects - from) (drop from (object_lines offsets 0 objects)) (omega (arith, length-drop from (object_lines offsets 0 objects), length-object_lines offsets 0 objects)))

-- the next screen name, with the objects before it
pub names_from : (lines : List (List ℕ)) (done : ℕ) (names : List ScreenName) (j : ℕ) (s : ScreenName) → j < length names → s ≡ get_or names j s
    → declared_lines lines done (drop j names) ≡ (concat (slice_range lines done s.objects_before) ++ screen_line s) ++ declared_lines lines (max done s.objects_before) (drop (j + 1) names)
names_from lines done names j s lt at =
    at_drop_more (declared_lines lines done) names j s lt ∙ ap (λ (x : ScreenName). declared_lines lines done (x ∷ drop (j + 1) names)) (sym at)

-- after the last screen name stand all objects that are left
pub names_none : (offsets : List ℕ) (objects : List Object) (done : ℕ) (names : List ScreenName) (j : ℕ) → length names ≤ j
    → declared_lines (object_lines offsets 0 objects) done (drop j names) ≡ concat (slice_range (object_lines offsets 0 objects) done (length objects))
names_none offsets objects done names j le = at_drop_all (declared_lines (object_lines offsets 0 objects) done) names j le ∙ sym (objects_left offsets objects done)

-- the next interrupt
pub handlers_from : (number : ℕ) (names : Names) → number < 256
    → handler_lines (256 - number) number names ≡ handler_line number (handler_name names number) ++ handler_lines (256 - (number + 1)) (number + 1) names
unfolding handler_lines
handlers_from number names lt =
    let count : 256 - number ≡ suc (256 - (number + 1)) = omega arith in
    ap (λ n. handler_lines n number names) count

-- no interrupt is left
pub handlers_none : (number : ℕ) (names : Names) → 256 ≤ number → handler_lines (256 - number) number names ≡ []
unfolding handler_lines
handlers_none number names le =
    let count : 256 - number ≡ 0 = omega arith in
    ap (λ n. handler_lines n number names) count

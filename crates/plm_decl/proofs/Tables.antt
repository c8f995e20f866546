-- What a look-up in a table of names finds.
use Rattle.std.proofs.Common.{BuildHasherDefault, FoldHasher, ◌≡◌, ℕ, List, [], ◌∷◌, ◌++◌, map, Bool, true, false, cond, is_some, Option, Some, None, refl, sym, ap, ◌∙◌}
use Rattle.std.specs.Map.{lookup}
use Rattle.std.specs.Str.{bytes_eq}
use Rattle.std.specs.HashMap.{get_by}
use Rattle.std.specs.Global.{Vec}
use Rattle.std.proofs.lemmas.List.{map-append}
use Rattle.indexmap.specs.IndexMap.{IndexMap, insert_entry}
use Rattle.indexmap.proofs.CallerLemmas.{insert_entry-new}
use Rattle.plm_decl.specs.declared.names.Item.{Item}
use Rattle.plm_decl.specs.declared.table.Table.{Table}
use Rattle.plm_decl.specs.Inner.Scope.{entries_of}
use Rattle.plm_decl.specs.Scope.{found_in, with_entry}

found_among : (name : List ℕ) (es : List (Vec ℕ × Item)) → lookup (λ (k : Vec ℕ). bytes_eq name k.items) es ≡ found_in name (map (λ (e : Vec ℕ × Item). (e.0.items, e.1)) es)
found_among name [] = refl
found_among name (e ∷ es) = ap (λ r. cond (bytes_eq name e.0.items) (Some e.1) r) (found_among name es)

pub found_is : (name : List ℕ) (t : Table) → get_by (λ (k : Vec ℕ). bytes_eq name k.items) t.names ≡ found_in name (entries_of t)
found_is name t = found_among name t.names.entries

abbrev same : Vec ℕ → Vec ℕ → Bool
same x y = bytes_eq x.items y.items

pub kept_is : (name : List ℕ) (item : Item) (t : Table) → is_some (found_in name (entries_of t)) ≡ true → entries_of t ≡ with_entry name item (entries_of t)
kept_is name item t there = ap (λ b. cond b (entries_of t) (entries_of t ++ (name, item) ∷ [])) (sym there)

none_of : (r : Option Item) → is_some r ≡ false → r ≡ None
none_of None h = refl
none_of (Some m) h = cc

pub added_is : (name : Vec ℕ) (item : Item) (s : Table) (names : IndexMap (Vec ℕ) Item (BuildHasherDefault FoldHasher)) → is_some (found_in name.items (entries_of s)) ≡ false
    → names.entries ≡ insert_entry same s.names.entries name item
    → entries_of (record { names = names }) ≡ with_entry name.items item (entries_of s)
added_is name item s names absent entries =
    let here = s.names in
    let none = none_of (get_by (λ (k : Vec ℕ). bytes_eq name.items k.items) here) (ap is_some (found_is name.items s) ∙ absent) in
    let row : map (λ (e : Vec ℕ × Item). (e.0.items, e.1)) names.entries ≡ map (λ (e : Vec ℕ × Item). (e.0.items, e.1)) here.entries ++ (name.items, item) ∷ [] =
    ap (map (λ (e : Vec ℕ × Item). (e.0.items, e.1))) (entries ∙ insert_entry-new same here name item none)
    ∙ map-append (λ (e : Vec ℕ × Item). (e.0.items, e.1)) here.entries ((name, item) ∷ []) in
    row ∙ ap (λ b. cond b (entries_of s) (entries_of s ++ (name.items, item) ∷ [])) (sym absent)

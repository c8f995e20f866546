-- What a look-up in the table of a procedure's parameters finds.
use Rattle.std.proofs.Common.{◌≡◌, List, [], ◌∷◌, ◌||◌, Bool, map, bytes_eq, refl, ap, ◌∙◌}
use Rattle.plm_token.specs.Names.{normal, names_equal}
use Rattle.plm_syntax.specs.Terminal.{NameT}
use Rattle.plm_syntax.specs.declared.tree.Name.{Name}
use Rattle.plm_syntax.specs.View.{name_of}
use Rattle.plm_decl.specs.declared.table.Table.{Table}
use Rattle.plm_decl.specs.Inner.Scope.{entries_of}
use Rattle.plm_decl.specs.Inner.Parameters.{listed_after, Tells}
use Rattle.plm_decl.specs.BlockNames.{has_name}
use Rattle.plm_decl.specs.Stray.{is_parameter}
use Rattle.plm_decl.proofs.BlockNames.{finds}
use Rattle.plm_decl.proofs.Once.{bytes_eq-sym, finds_listed}

-- a table that lists them all tells them
pub all_told : (t : Table) (names : List Name) → entries_of t ≡ listed_after [] (map name_of names) → Tells t names
all_told t names e name = ap (finds name) e ∙ finds_listed name [] (map name_of names)

same_names : (n p : NameT) → names_equal p.text n.text ≡ bytes_eq (normal n.text) (normal p.text)
unfolding names_equal
same_names n p = bytes_eq-sym (normal p.text) (normal n.text)

-- a name is a parameter where one has its normal form
pub parameter_is_named : (n : NameT) (ps : List NameT) → is_parameter n ps ≡ has_name (normal n.text) ps
parameter_is_named n [] = refl
parameter_is_named n (p ∷ ps) =
    ap (λ (b : Bool). b || is_parameter n ps) (same_names n p)
    ∙ ap (λ (b : Bool). bytes_eq (normal n.text) (normal p.text) || b) (parameter_is_named n ps)

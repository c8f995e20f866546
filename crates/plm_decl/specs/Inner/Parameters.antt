-- The parameters of a procedure by name, and that they are those of its list.
use Rattle.std.specs.Prelude.{ℕ, ◌≡◌, List, [], ◌∷◌, map, is_some}
use Rattle.plm_syntax.specs.Terminal.{NameT}
use Rattle.plm_syntax.specs.declared.tree.Name.{Name}
use Rattle.plm_syntax.specs.View.{name_of}
use Rattle.plm_decl.specs.declared.table.Table.{Table}
use Rattle.plm_decl.specs.Inner.Scope.{entries_of}
use Rattle.plm_decl.specs.Scope.{Entries, found_in}
use Rattle.plm_decl.specs.Procedures.{with_parameter}
use Rattle.plm_decl.specs.BlockNames.{has_name}

-- these parameters are listed too
abbrev pub listed_after : Entries → List NameT → Entries
listed_after listed [] = listed
listed_after listed (n ∷ ns) = listed_after (with_parameter n listed) ns

-- a name is there where a parameter has it
abbrev pub Tells : Table → List Name → Type 0
Tells table names = (name : List ℕ) → is_some (found_in name (entries_of table)) ≡ has_name name (map name_of names)

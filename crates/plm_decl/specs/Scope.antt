-- The names in scope: for each enclosing block, the innermost first, its path and what its names stand for.
use Rattle.std.specs.Prelude.{ℕ, List, [], ◌∷◌, ◌++◌, Bool, true, false, not, cond, Option, None, is_some, bytes_eq}
use Rattle.std.specs.Map.{lookup}
use Rattle.std.specs.Option.{option_or}
use Rattle.plm_decl.specs.declared.names.Item.{Item}

-- names in normal form
abbrev pub Entries : Type 0
Entries = List (List ℕ × Item)

abbrev pub found_in : List ℕ → Entries → Option Item
found_in name entries = lookup (bytes_eq name) entries

-- the first declaration of a name counts
abbrev pub with_entry : List ℕ → Item → Entries → Entries
with_entry name item entries = cond (is_some (found_in name entries)) entries (entries ++ (name, item) ∷ [])

pub record Frame : Type 0 where
  pub path : List ℕ
  pub names : Entries
  -- whether it is the block of an EXTERNAL procedure
  pub external : Bool

abbrev pub frame : List ℕ → Bool → Frame
frame path external = record { path = path; names = []; external = external }

-- the innermost declaration of the name
abbrev pub meant : List ℕ → List Frame → Option Item
meant name [] = None
meant name (frame ∷ outer) = option_or (found_in name frame.names) (meant name outer)

abbrev pub found_here : List ℕ → List Frame → Option Item
found_here name [] = None
found_here name (frame ∷ outer) = found_in name frame.names

abbrev pub path_in : List Frame → List ℕ
path_in [] = []
path_in (frame ∷ outer) = frame.path

abbrev pub is_external : List Frame → Bool
is_external [] = false
is_external (frame ∷ outer) = frame.external

abbrev pub is_fresh : List ℕ → List Frame → Bool
is_fresh name [] = true
is_fresh name (frame ∷ outer) = not (is_some (found_in name frame.names))

abbrev pub with_name : List ℕ → Item → List Frame → List Frame
with_name name item [] = []
with_name name item (frame ∷ outer) = record frame { names = with_entry name item frame.names } ∷ outer

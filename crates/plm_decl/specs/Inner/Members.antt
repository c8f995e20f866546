-- The members of a structure by name, and that they are those of its fields.
use Rattle.std.specs.Prelude.{ℕ, ◌≡◌, List, [], ◌∷◌, ◌++◌, map, cond, find, bytes_eq, Option, is_some, option_map}
use Rattle.std.specs.Map.{lookup}
use Rattle.plm_decl.specs.declared.layout.Member.{Member}
use Rattle.plm_decl.specs.declared.layout.Field.{Field}
use Rattle.plm_decl.specs.declared.members.MemberTable.{MemberTable}

abbrev pub Rows : Type 0
Rows = List (List ℕ × Member)

abbrev pub members_of : MemberTable → Rows
members_of t = map (λ e. (e.0.items, e.1)) t.members.entries

abbrev pub member_in : List ℕ → Rows → Option Member
member_in name rows = lookup (bytes_eq name) rows

-- the first member of a name counts
abbrev pub with_member : List ℕ → Member → Rows → Rows
with_member name member rows = cond (is_some (member_in name rows)) rows (rows ++ (name, member) ∷ [])

-- the first of these fields with the name
abbrev pub first_field : List ℕ → List Field → Option Member
first_field name fields = option_map (λ (f : Field). f.member) (find (λ (f : Field). bytes_eq f.name.items name) fields)

-- each name stands for the first field of its name
abbrev pub Tells : MemberTable → List Field → Type 0
Tells table fields = (name : List ℕ) → member_in name (members_of table) ≡ first_field name fields

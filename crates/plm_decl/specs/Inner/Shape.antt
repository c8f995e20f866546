-- The names of members of one type, from the Rust type.
use Rattle.std.specs.Prelude.{List, [], ◌∷◌, map}
use Rattle.plm_syntax.specs.declared.tree.MemberNames.{MemberNames}
use Rattle.plm_syntax.specs.declared.tree.MemberNames.TheVariants as written
use Rattle.plm_syntax.specs.View.{name_of}
use Rattle.plm_syntax.specs.Terminal.{NameT}

-- the same of the Rust type
abbrev pub names_of_member : MemberNames → List NameT
names_of_member (written.One n) = name_of n ∷ []
names_of_member (written.List ns) = map name_of ns.items

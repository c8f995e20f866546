-- What a declaration says of its names besides their types: PUBLIC, EXTERNAL, AT, INITIAL and DATA.
use Rattle.std.specs.Prelude.{List, [], Bool, true, false, ◌||◌}
use Rattle.plm_decl.specs.Lists.{value_list}
use Rattle.plm_syntax.specs.declared.tree.Linkage.{Linkage}
use Rattle.plm_syntax.specs.declared.tree.Linkage.TheVariants as linkage
use Rattle.plm_syntax.specs.Tree.{ValueT, no_at, at_number, at_location, no_initial, initial, constant_data, AttributesT, External, Attributes}
use Rattle.plm_decl.specs.declared.attributes.Traits.{Traits}
use Rattle.plm_decl.specs.declared.shape.Shape.{Shape}

abbrev pub element_values : AttributesT → List ValueT
element_values External = []
element_values (Attributes public at no_initial) = []
element_values (Attributes public at (initial vs)) = value_list vs
element_values (Attributes public at (constant_data vs)) = value_list vs

abbrev pub has_values : AttributesT → Bool
has_values External = false
has_values (Attributes public at no_initial) = false
has_values (Attributes public at (initial vs)) = true
has_values (Attributes public at (constant_data vs)) = true

abbrev pub is_data : AttributesT → Bool
is_data External = false
is_data (Attributes public at no_initial) = false
is_data (Attributes public at (initial vs)) = false
is_data (Attributes public at (constant_data vs)) = true

abbrev pub is_placed : AttributesT → Bool
is_placed External = false
is_placed (Attributes public no_at fill) = false
is_placed (Attributes public (at_number n) fill) = true
is_placed (Attributes public (at_location l) fill) = true

abbrev pub linkage_for : AttributesT → Linkage
linkage_for External = linkage.External
linkage_for (Attributes true at fill) = linkage.Public
linkage_for (Attributes false at fill) = linkage.None

abbrev pub is_joined : Linkage → Bool
is_joined linkage.None = false
is_joined linkage.Public = true
is_joined linkage.External = true

abbrev pub has_attribute : AttributesT → Bool
has_attribute a = is_joined (linkage_for a) || (is_placed a || has_values a)

abbrev pub traits_for : Shape → AttributesT → Traits
traits_for shape a = record { shape = shape; linkage = linkage_for a; is_data = is_data a; has_attribute = has_attribute a }

-- What is known while trees are read, within the counts of the finished tables.
use Rattle.std.specs.Prelude.{◌≡◌, length, Bool, true, nat_lt}
use Rattle.std.specs.List.{list_all}
use Rattle.plm_decl.specs.declared.names.Item.{Item}
use Rattle.plm_decl.specs.declared.names.Item.TheVariants as item
use Rattle.plm_decl.specs.Scope.{Entries}
use Rattle.plm_decl.specs.Resolver.{Known, ExternalR}
use Rattle.plm_decl.specs.Inner.Regions.{lies_in}
use Rattle.plm_decl.specs.Ranges.{Counts, variable_within, object_within, procedure_within, declared_location_within, main_within}

-- ---- what is known

abbrev pub counts_of : Known → Counts
counts_of k = record { variables = length k.variables; structures = length k.structures; objects = length k.objects; procedures = length k.procedures }

abbrev pub item_within : Counts → Item → Bool
item_within c (item.Variable v) = nat_lt v c.variables
item_within c (item.Procedure p) = nat_lt p c.procedures

abbrev pub entries_within : Counts → Entries → Bool
entries_within c es = list_all (λ e. item_within c e.1) es

abbrev pub external_within : Counts → ExternalR → Bool
external_within c e = item_within c e.item

abbrev pub Within : Counts → Known → Type 0
Within c k =
    (list_all (variable_within c) k.variables ≡ true) × (list_all (object_within c) k.objects ≡ true)
    × (list_all (procedure_within c) k.procedures ≡ true) × (list_all (declared_location_within c) k.locations ≡ true)
    × (list_all (main_within c) k.mains ≡ true) × (entries_within c k.publics ≡ true)
    × (list_all (external_within c) k.externals ≡ true) × (list_all (lies_in k.objects) k.variables ≡ true)

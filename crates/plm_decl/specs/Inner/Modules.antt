-- The tables of joined modules, and the fault that is answered in their place.
use Rattle.std.specs.Prelude.{◌≡◌, [], ◌∷◌, map}
use Rattle.plm_decl.specs.declared.names.Names.{Names}
use Rattle.plm_decl.specs.Layout.{structure_of}
use Rattle.plm_decl.specs.Resolver.{Known}
use Rattle.plm_decl.specs.Names.{object_of, screen_name_of, procedure_of, declared_location_of, main_of}
use Rattle.word86.specs.declared.fault.Fault.{Fault}
use Rattle.plm_decl.specs.Found.{IsRefusal}
use Rattle.plm_decl.specs.Joins.{modules_joined}

-- the names are what is known of joined modules
pub record AreTables (names : Names) (k : Known) : Type 0 where
  pub variables : names.variables.items ≡ k.variables
  pub structures : map structure_of names.structures.items ≡ k.structures
  pub objects : map object_of names.objects.items ≡ k.objects
  pub screen_names : map screen_name_of names.screen_names.items ≡ k.screen_names
  pub procedures : map procedure_of names.procedures.items ≡ k.procedures
  pub locations : map declared_location_of names.locations.items ≡ k.locations
  pub main : main_of names.main ∷ [] ≡ k.mains

abbrev pub IsRefused : Fault → Known → Type 0
IsRefused f k = IsRefusal f k.faults (modules_joined k).whole

-- What is answered: names where there is no fault, else the least fault.
use Rattle.std.specs.Prelude.{◌≡◌, List, [], ◌∷◌, map}
use Rattle.plm_syntax.specs.Tree.{ModuleT}
use Rattle.plm_decl.specs.declared.found.Found.{Found}
use Rattle.plm_decl.specs.declared.names.Names.{Names}
use Rattle.plm_decl.specs.Layout.{structure_of}
use Rattle.plm_decl.specs.Resolver.{Known}
use Rattle.plm_decl.specs.Names.{object_of, screen_name_of, procedure_of, declared_location_of, main_of}
use Rattle.plm_decl.specs.Joins.{known_from, modules_joined}

-- the faults of the modules' declarations and names
abbrev pub faults_of : List ModuleT → List Found
faults_of ms = (known_from ms).faults

-- the faults of the whole program
abbrev pub whole_faults_of : List ModuleT → List Found
whole_faults_of ms = (modules_joined (known_from ms)).whole

-- the names are what is known, where no fault was met
pub record AreAnswered (names : Names) (k : Known) : Type 0 where
  pub variables : names.variables.items ≡ (modules_joined k).variables
  pub structures : map structure_of names.structures.items ≡ (modules_joined k).structures
  pub objects : map object_of names.objects.items ≡ (modules_joined k).objects
  pub screen_names : map screen_name_of names.screen_names.items ≡ (modules_joined k).screen_names
  pub procedures : map procedure_of names.procedures.items ≡ (modules_joined k).procedures
  pub locations : map declared_location_of names.locations.items ≡ (modules_joined k).locations
  pub main : main_of names.main ∷ [] ≡ (modules_joined k).mains
  pub no_fault : k.faults ≡ []
  pub no_whole_fault : (modules_joined k).whole ≡ []

-- the names are those that the modules declare, and the modules have no fault
abbrev pub AreNames : Names → List ModuleT → Type 0
AreNames names ms = AreAnswered names (known_from ms)

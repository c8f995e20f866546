-- The resolver as what is known.
use Rattle.std.specs.Prelude.{map}
use Rattle.plm_decl.specs.declared.resolver.External.{External}
use Rattle.plm_decl.specs.declared.resolver.Resolver.{Resolver}
use Rattle.plm_decl.specs.Layout.{structure_of}
use Rattle.plm_decl.specs.Inner.Scope.{entries_of}
use Rattle.plm_decl.specs.Names.{object_of, screen_name_of, procedure_of, declared_location_of, main_of}
use Rattle.plm_decl.specs.Resolver.{Known, ExternalR}

abbrev pub external_of : External → ExternalR
external_of e = record { name = e.name.items; item = e.item }

abbrev pub known_of : Resolver → Known
known_of r = record {
  «module» = r.module;
  blocks = r.blocks;
  constants = r.constants;
  variables = r.variables.items;
  structures = map structure_of r.structures.items;
  objects = map object_of r.objects.items;
  screen_names = map screen_name_of r.screen_names.items;
  procedures = map procedure_of r.procedures.items;
  locations = map declared_location_of r.locations.items;
  publics = entries_of r.publics;
  externals = map external_of r.externals.items;
  unplaced = r.unplaced.items;
  mains = map main_of r.mains.items;
  faults = r.faults.items;
  whole = r.whole.items;
}

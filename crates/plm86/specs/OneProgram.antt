-- What texts declare is one program, so that whatever the clauses of `build` say of names is said of the same ones.
use Rattle.std.specs.Prelude.{◌≡◌, ℕ, List, map}
use Rattle.word86.specs.declared.fault.Fault.{Fault}
use Rattle.plm_decl.specs.declared.names.Names.{Names}
use Rattle.plm_decl.specs.Layout.{structure_of}
use Rattle.plm_decl.specs.Names.{object_of, screen_name_of, procedure_of, declared_location_of, main_of}
use Rattle.layout_link.specs.declared.image.Image.{Image}
use Rattle.layout_link.specs.declared.image.RomSize.{RomSize}
use Rattle.plm86.specs.Build.{AreDeclared, AreTyped}
use Rattle.plm86.specs.Exact.{FitsTexts, DoesNotFit}

-- the same variables, structures, objects, names on the screen, procedures and locations, and the same statements of main
pub record AreAlike (a b : Names) : Type 0 where
  pub variables : a.variables.items ≡ b.variables.items
  pub structures : map structure_of a.structures.items ≡ map structure_of b.structures.items
  pub objects : map object_of a.objects.items ≡ map object_of b.objects.items
  pub screen_names : map screen_name_of a.screen_names.items ≡ map screen_name_of b.screen_names.items
  pub procedures : map procedure_of a.procedures.items ≡ map procedure_of b.procedures.items
  pub locations : map declared_location_of a.locations.items ≡ map declared_location_of b.locations.items
  pub main : main_of a.main ≡ main_of b.main

-- All names that texts declare are alike, and texts that fit are not refused for room, whatever names that is said of.
pub record DeclareOneProgram (texts : List (List ℕ)) : Type 0 where
  pub alike : (a b : Names) → AreDeclared texts a → AreDeclared texts b → AreAlike a b
  pub not_both : (size : RomSize) (image : Image) (b : Names) (f : Fault) → FitsTexts texts size image → AreTyped texts b → DoesNotFit b size f → ⊥

abbrev pub TextsDeclareOneProgram : Type 0
TextsDeclareOneProgram = (texts : List (List ℕ)) → DeclareOneProgram texts

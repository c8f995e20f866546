-- The image of texts, with the program that it is the image of.
use Rattle.std.specs.Prelude.{◌≡◌, ℕ, List}
use Rattle.layout_link.specs.declared.image.RomSize.{RomSize}
use Rattle.plm86.specs.declared.built.Built.{Built}
use Rattle.plm86.specs.Build.{IsBuilt}

abbrev pub IsBuiltWith : List (List ℕ) → RomSize → Built → Type 0
IsBuiltWith texts size built = (is : IsBuilt texts size built.image) × (is.names ≡ built.program.names)

-- What values fill, without where it lies in memory.
use Rattle.std.specs.Prelude.{map}
use Rattle.plm_syntax.specs.View.{variable_of}
use Rattle.plm_decl.specs.declared.fill.Filling.{Filling}
use Rattle.plm_decl.specs.Fill.{FillingR}

abbrev pub filling_of : Filling → FillingR
filling_of f = record { names = map variable_of f.names.now; shape = f.shape; number = f.number }

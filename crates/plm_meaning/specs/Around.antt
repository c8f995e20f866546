-- What the steps of a program look up.
use Rattle.plm_decl.specs.declared.names.Names.{Names}
use Rattle.plm_meaning.specs.declared.around.Surroundings.{Surroundings}

-- what the program declares
abbrev pub names_of : Surroundings → Names
names_of s = s.program.now.names

use Rattle.std.proofs.Common.{◌≡◌, map, drop}
use Rattle.plm_syntax.specs.View.{name_of}
use Rattle.plm_decl.specs.Inner.Scope.{entries_of}
use Rattle.plm_decl.specs.Inner.Parameters.{listed_after}
use Rattle.plm_decl.proofs.parameters.Parameters.list.Given as goal

abbrev pub invariant-loop-name : goal.invariant-loop-name
invariant-loop-name l = listed_after (entries_of l.by_name) (map name_of (drop l.name-index l.names)) ≡ listed_after (entries_of l.initial.by_name) (map name_of l.names)

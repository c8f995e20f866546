use Rattle.std.proofs.Common.{◌+◌, ◌++◌, List, drop}
use Rattle.select.specs.declared.part.Part.{Part}
use Rattle.select.specs.Selection.{ArePartsOf}
use Rattle.select.specs.Inner.Selecting.{saves_in}
use Rattle.select.proofs.selection.parts_of.Given as goal

-- with the parts of the routines that are left they are those of all
abbrev pub invariant-loop-k : goal.invariant-loop-k
invariant-loop-k l =
    (ps : List Part) → ArePartsOf l.code (saves_in l.code l.changed) (l.first + l.k) (drop l.k l.routines) ps → ArePartsOf l.code (saves_in l.code l.changed) l.first l.routines (l.parts.items ++ ps)

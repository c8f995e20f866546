use Rattle.std.proofs.Common.{◌≡◌, ◌++◌, drop}
use Rattle.plm_decl.specs.Initial.{initial_bytes}
use Rattle.plm_meaning.specs.Around.{names_of}
use Rattle.plm_meaning.specs.Inner.Redex.{offsets_of}
use Rattle.plm_meaning.proofs.around.Surroundings.object.Given as goal

-- the bytes so far, then those of the values that are left, are the initial bytes
abbrev pub invariant-loop-datum : goal.invariant-loop-datum
invariant-loop-datum l =
    let bytes_of = initial_bytes (offsets_of l.self) (names_of l.self).variables.items in
    l.bytes.items ++ bytes_of (drop l.datum-index l.datum-items) ≡ bytes_of l.datum-items

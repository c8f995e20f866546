use Rattle.std.proofs.Common.{◌≡◌, ◌++◌, drop, map}
use Rattle.plm_decl.specs.Names.{object_of}
use Rattle.plm_meaning.specs.Opening.{objects_at}
use Rattle.plm_meaning.specs.Around.{names_of}
use Rattle.plm_meaning.specs.Inner.Redex.{offsets_of}
use Rattle.plm_meaning.proofs.opening.first_objects.Given as goal

-- the objects so far, then those that are left, are all
abbrev pub invariant-loop-number : goal.invariant-loop-number
invariant-loop-number l =
    let bytes_of = objects_at (offsets_of l.around) (names_of l.around).variables.items l.ram in
    map (λ b. b.items) l.bytes.items ++ bytes_of (drop l.number l.offset-items) (map object_of (drop l.number l.objects.items)) ≡ bytes_of l.offset-items (map object_of l.objects.items)

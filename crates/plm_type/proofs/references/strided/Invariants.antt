use Rattle.std.proofs.Common.{◌≡◌, ◌++◌, map}
use Rattle.plm_type.specs.Inner.Typer.{with_stride}
use Rattle.plm_type.proofs.references.strided.Given as goal

abbrev pub invariant-loop-index : goal.invariant-loop-index
invariant-loop-index l = l.subscripts.items ++ map (with_stride l.stride) l.index-iterator.rest.items ≡ l.initial.subscripts.items ++ map (with_stride l.stride) l.fn.trees.items

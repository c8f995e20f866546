use Rattle.std.specs.Prelude.{◌≡◌, length}
use Rattle.plm_meaning.specs.Inner.Redex.{sizes_in}
use Rattle.plm_meaning.specs.Inner.Owners.{OwnTheirs}
use Rattle.plm_meaning.proofs.owners.claim_all.Given as goal

abbrev pub invariant-loop-k : goal.invariant-loop-k
invariant-loop-k l = record {
  own : OwnTheirs l.owners.items l.objects.offsets.now (sizes_in l.objects) l.k;
  same_length : length l.owners.items ≡ length l.initial.owners.items;
}

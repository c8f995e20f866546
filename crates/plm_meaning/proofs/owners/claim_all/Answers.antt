use Rattle.std.proofs.Common.{◌<◌, ◌∙◌, length, arith}
use Rattle.std.proofs.lemmas.List.{length-map}
use Rattle.plm_meaning.specs.Inner.Redex.{sizes_in}
use Rattle.plm_meaning.proofs.Owning.{owned_more}
use Rattle.plm_meaning.proofs.owners.claim_all.Goals as goal

pub loop-k-preserved : goal.loop-k-preserved
loop-k-preserved c =
    let objects = c.args.objects in
    let k = c.loop-k.k in
    let lt : k < length (sizes_in objects) = omega (arith, length-map objects.objects.now (λ o. o.size), c.loop-k-test.true) in
    record {
      own = owned_more c.loop-k.owners.items c.claim.new.owners.items objects.offsets.now (sizes_in objects) k _ _ c.offset.ensures c.size.ensures c.loop-k.invariant.own c.claim.ensures.length (c.requires.apart k lt) c.claim.ensures.own c.claim.ensures.others;
      same_length = c.claim.ensures.length ∙ c.loop-k.invariant.same_length;
    }

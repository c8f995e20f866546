use Rattle.std.proofs.Common.{◌∙◌, List, ℕ, refl, ap, arith}
use Rattle.std.proofs.lemmas.Grind.{common_steps}
use Rattle.listing_map.specs.Halves.{interleaved}
use Rattle.listing_map.proofs.Halved.{last_more, pair_step}
use Rattle.listing_map.proofs.halves.rom_halves.Goals as goal

pub loop-rest-preserved : goal.loop-rest-preserved
loop-rest-preserved c = record {
  joined = pair_step c.loop-rest.even.items c.loop-rest.odd.items c.args.rom.now c.loop-rest.rest.now _ _ 0 0 _ c.in-len2-up.len_at_least refl c.loop-rest.invariant.same c.loop-rest.invariant.joined
      c.in_ok-push.ensures.items c.in_ok-push-2.ensures.items;
  same = grind (arith, common_steps);
  whole = grind (arith, common_steps);
}

pub returns-clause-joined : goal.returns-clause-joined
returns-clause-joined c =
    let odd = c.loop-rest.odd.items in
    ap (λ (l : List ℕ). interleaved l odd) c.in_ok-extend_from_slice.ensures.items
    ∙ last_more c.loop-rest.even.items odd c.loop-rest.rest.now c.loop-rest.invariant.same ∙ c.loop-rest.invariant.joined

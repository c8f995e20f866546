use Rattle.std.proofs.Common.{◌<◌, map, length, sym, subst, ◌∙◌, arith, below_more, true≢false}
use Rattle.std.proofs.lemmas.List.{length-map}
use Rattle.plm_decl.specs.Placement.{IsApart, IsWithin, IsPlacement}
use Rattle.plm_decl.proofs.Apart.{refuses, grants, within_from, within_of}
use Rattle.plm_decl.proofs.placement.Placement.places.Goals as goal

pub returns-then-not-lies_within : goal.returns-then-not-lies_within
returns-then-not-lies_within c =
    let os = c.args.self.now.offsets.items in
    let ss = map (λ o. o.size) c.args.objects.now in
    let here = c.at-offset in
    let k = c.loop-k.k in
    let in_range : k < length ss = subst (λ n. k < n) (sym (length-map c.args.objects.now (λ o. o.size))) c.loop-k-test.true in
    refuses (λ (p : IsPlacement os ss). true≢false (sym (c.lies_within.ensures.1 (within_of os ss k here.result.0 here.result.1 here.ensures.offset here.ensures.size (p.within k in_range))) ∙ c.if-not-lies_within.true))

pub returns-then-not-is_apart : goal.returns-then-not-is_apart
returns-then-not-is_apart c =
    let os = c.args.self.now.offsets.items in
    let ss = map (λ o. o.size) c.args.objects.now in
    let k = c.loop-k.k in
    let in_range : k < length ss = subst (λ n. k < n) (sym (length-map c.args.objects.now (λ o. o.size))) c.loop-k-test.true in
    refuses (λ (p : IsPlacement os ss). true≢false (sym (c.is_apart.ensures.1 (p.apart k in_range)) ∙ c.if-not-is_apart.true))

pub loop-k-preserved : goal.loop-k-preserved
loop-k-preserved c =
    let os = c.args.self.now.offsets.items in
    let ss = map (λ o. o.size) c.args.objects.now in
    let here = c.at-offset in
    let k = c.loop-k.k in
    record {
      within = below_more (λ k. IsWithin os ss k) k c.loop-k.invariant.within (within_from os ss k here.result.0 here.result.1 here.ensures.offset here.ensures.size (c.lies_within.ensures.0 c.if-not-lies_within.false));
      apart = below_more (λ k. IsApart os ss k k) k c.loop-k.invariant.apart (c.is_apart.ensures.0 c.if-not-is_apart.false);
    }

pub returns : goal.returns
returns c =
    let n = length-map c.args.objects.now (λ o. o.size) in
    grants (record {
      each = omega (arith, n, c.args.self.now.offsets.ok.0, c.len.ensures, c.if-len-objects.false);
      within = λ k h. c.loop-k.invariant.within k (omega (arith, n, h, c.loop-k-test.false));
      apart = λ k h. c.loop-k.invariant.apart k (omega (arith, n, h, c.loop-k-test.false));
    })

use Rattle.std.proofs.Common.{ℕ, map, sym, ◌∙◌, arith, below_more, true≢false}
use Rattle.plm_decl.specs.Placement.{IsApart, HoldsByte}
use Rattle.plm_decl.proofs.Apart.{refuses, grants, apart_from, apart_of}
use Rattle.plm_decl.proofs.placement.Placement.is_apart.Goals as goal

pub returns-then-not-lie_apart : goal.returns-then-not-lie_apart
returns-then-not-lie_apart c =
    let os = c.args.self.now.offsets.items in
    let ss = map (λ o. o.size) c.args.objects.now in
    let here = c.at-offset in
    let other = c.at-other in
    refuses (λ (all : IsApart os ss c.args.k c.args.k).
    true≢false (sym (c.lie_apart.ensures.1 (apart_of os ss c.args.k c.loop-j.j here.result.0 here.result.1 other.result.0 other.result.1
    here.ensures.offset here.ensures.size other.ensures.offset other.ensures.size (all c.loop-j.j c.loop-j-test.true))) ∙ c.if-not-lie_apart.true))

pub loop-j-preserved : goal.loop-j-preserved
loop-j-preserved c =
    let os = c.args.self.now.offsets.items in
    let ss = map (λ o. o.size) c.args.objects.now in
    let here = c.at-offset in
    let other = c.at-other in
    below_more (λ j. (b : ℕ) → HoldsByte os ss j b → ¬ HoldsByte os ss c.args.k b) c.loop-j.j c.loop-j.invariant
    (apart_from os ss c.args.k c.loop-j.j here.result.0 here.result.1 other.result.0 other.result.1
    here.ensures.offset here.ensures.size other.ensures.offset other.ensures.size (c.lie_apart.ensures.0 c.if-not-lie_apart.false))

pub returns : goal.returns
returns c = grants (λ j h. c.loop-j.invariant j (omega arith))

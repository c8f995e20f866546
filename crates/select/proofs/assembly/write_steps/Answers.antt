use Rattle.std.proofs.Common.{◌≡◌, suc, ◌+◌, ◌%◌, ◌<◌, ◌≤◌, ◌∷◌, ◌++◌, length, get_or, drop, sym, ap, ap₂, ◌∙◌, subst, arith}
use Rattle.std.proofs.lemmas.List.{get_or_read, drop_all, drop_more, length-map}
use Rattle.select.specs.declared.part.Step.{Step}
use Rattle.select.specs.Sizes.{start}
use Rattle.select.specs.Parts.{target_of, extent_of}
use Rattle.select.specs.Inner.Assembly.{nothing, IsStepOf, step_bytes, step_fixups, IsCoded}
use Rattle.select.proofs.Drafting.{as_many, drafted_at}
use Rattle.select.proofs.Spelling.{target_in, more, longer, all_written}
use Rattle.select.proofs.assembly.write_steps.Goals as goal

pub loop-k-preserved : goal.loop-k-preserved
loop-k-preserved c =
    let own = c.args.own in
    let xs = c.args.steps.now in
    let s = c.args.sizes.now in
    let k = c.loop-k.k in
    let x = c.index-steps-k.result in
    let lt : k < length xs = c.loop-k-test.true in
    let is : x ≡ get_or xs k nothing = get_or_read xs k x lt c.index-steps-k.is nothing in
    let here : drop k xs ≡ x ∷ drop (k + 1) xs = drop_more xs k nothing lt ∙ ap (λ (y : Step). y ∷ drop (k + 1) xs) (sym is) in
    let many : length s ≡ length xs = c.requires.sizes.many ∙ length-map xs extent_of in
    let t_in : target_of x ≤ length xs = target_in (length xs) x (omega arith) (subst (IsStepOf (length xs)) (sym is) (c.requires.steps k lt)) in
    let to_is = c.number_at-to.ensures ∙ ap (λ n. get_or c.args.places.now n 0) c.target_of.ensures ∙ c.requires.places (target_of x) (omega (arith, many, t_in)) in
    let one : k + 1 ≡ suc k = omega arith in
    let coded : IsCoded x = subst IsCoded (sym is) (c.requires.coded k lt) in
    let there_is = c.number_at-there.ensures ∙ c.requires.places (k + 1) (omega (arith, many, lt)) ∙ ap (λ n. start s n % 65536) one in
    let code_is = c.in_ok-write_step.ensures.bytes ∙ ap₂ (λ a b. c.loop-k.code.items ++ step_bytes (get_or s k 0) a b x) there_is to_is in
    let fixups_are = c.in_ok-write_step.ensures.fixups ∙ ap (λ n. c.loop-k.fixups.items ++ step_fixups own n x) c.loop-k.invariant.long in
    record {
      long = longer own s xs c.requires.sizes k lt x is coded c.loop-k.code.items c.write_step.new.code.items code_is c.loop-k.invariant.long;
      rest = more own s xs c.requires.sizes k lt x is coded c.loop-k.code.items c.loop-k.fixups.items c.write_step.new.code.items c.write_step.new.fixups.items here code_is fixups_are c.loop-k.invariant.rest;
    }

pub returns-clause-spelt : goal.returns-clause-spelt
returns-clause-spelt c =
    all_written c.args.own (start c.args.sizes.now) c.loop-k.k c.args.steps.now c.loop-k.code.items c.loop-k.fixups.items (drop_all c.loop-k.k c.args.steps.now c.loop-k-test.false) c.loop-k.invariant.rest

pub write_step-requires : goal.write_step-requires
write_step-requires c =
    let ds = c.args.drafts.now in
    let xs = c.args.steps.now in
    let k = c.loop-k.k in
    let d = c.index-drafts-k.result in
    let x = c.index-steps-k.result in
    let lt : k < length xs = c.loop-k-test.true in
    let inside : k < length ds = omega (arith, lt, as_many (λ d. d.items) ds xs c.requires.drafts) in
    c.as_slice-draft.ensures.value ∙ drafted_at (λ d. d.items) ds xs k d x c.requires.drafts lt (get_or_read ds k d inside c.index-drafts-k.is d) (get_or_read xs k x lt c.index-steps-k.is nothing)

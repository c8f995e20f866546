use Rattle.std.proofs.Common.{◌≡◌, ◌≤◌, ◌+◌, ◌∷◌, [], suc, length, drop, ap, subst, sym, ◌∙◌, arith}
use Rattle.std.proofs.lemmas.List.{drop_all}
use Rattle.std.proofs.Math.Seq.{drop-cons}
use Rattle.lower.specs.LowBytes.{direct_of}
use Rattle.lower.specs.Inner.LowBytes.{counted_one, whole_count}
use Rattle.lower.proofs.LowTrees.{counted_after, counted_step, whole_within}
use Rattle.lower.proofs.low_bytes.whole_count.Goals as goal

pub loop-k-preserved : goal.loop-k-preserved
loop-k-preserved c =
    let os = c.args.operations.now in
    let k = c.loop-k.k in
    let o = c.index-operations-k.result in
    let q = direct_of o.operation in
    let cons : drop k os ≡ o ∷ drop (suc k) os = drop-cons os k o (omega (arith, c.loop-k-test.true)) ∙ ap (λ y. y ∷ drop (suc k) os) (sym c.index-operations-k.is) in
    let on : k + 1 ≡ suc k = omega arith in
    ap (λ n. counted_after (k + 1) n (whole_count (drop (k + 1) os))) c.counted_one-count.ensures
    ∙ ap (λ j. counted_after (k + 1) (counted_one k c.loop-k.count q) (whole_count (drop j os))) on
    ∙ sym (counted_step k c.loop-k.count (whole_count (drop (suc k) os)) q)
    ∙ ap (counted_after k c.loop-k.count) (sym (ap whole_count cons))
    ∙ c.loop-k.invariant

pub returns-clause-value : goal.returns-clause-value
returns-clause-value c =
    let os = c.args.operations.now in
    let k = c.loop-k.k in
    let none : drop k os ≡ [] = drop_all k os (omega (arith, c.loop-k-test.false)) in
    sym (ap (λ l. counted_after k c.loop-k.count (whole_count l)) none) ∙ c.loop-k.invariant

pub returns-clause-within : goal.returns-clause-within
returns-clause-within c =
    let os = c.args.operations.now in
    let k = c.loop-k.k in
    let none : drop k os ≡ [] = drop_all k os (omega (arith, c.loop-k-test.false)) in
    let is : c.loop-k.count ≡ whole_count os = sym (ap (λ l. counted_after k c.loop-k.count (whole_count l)) none) ∙ c.loop-k.invariant in
    subst (λ n. n ≤ length os) (sym is) (whole_within os)

use Rattle.std.proofs.Common.{rules, ◌≡◌, ℕ, ◌∷◌, [], ◌++◌, List, length, slice_index_or, arith, subst, sym, ap, ◌∙◌}
use Rattle.std.specs.List.{range_with_len}
use Rattle.std.specs.List.Sorted.{IsPermutation}
use Rattle.std.proofs.lemmas.List.Sorted.{IsNonDecreasingBy-from_sort_by_key}
use Rattle.plm_type.proofs.Ordering.{range_next}
use Rattle.plm_type.proofs.order.by_rank.Goals as goal

pub loop-procedure-preserved : goal.loop-procedure-preserved
loop-procedure-preserved c =
    let n = c.loop-procedure.procedure in
    c.in_ok-push.ensures.items ∙ ap (λ (l : List ℕ). l ++ n ∷ []) c.loop-procedure.invariant ∙ sym (range_next n)

pub returns : goal.returns
returns c =
    let ranks = c.args.ranks.now in
    let all : c.loop-procedure.procedure ≡ length ranks = let past = c.loop-procedure-test.false in let end = c.loop-procedure.auto.procedure-end in omega (arith, past, end) in
    record {
      all = subst (λ (l : List ℕ). IsPermutation l c.sort_by_key.new.self.items) (c.loop-procedure.invariant ∙ ap (range_with_len 0) all) c.in_ok-sort_by_key.ensures.permutation;
      rising = IsNonDecreasingBy-from_sort_by_key (λ p. slice_index_or ranks p 0) _ c.in_ok-sort_by_key.ensures.sorted (λ a r q k. search rules);
    }

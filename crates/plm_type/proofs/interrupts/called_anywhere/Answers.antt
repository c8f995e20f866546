use Rattle.std.proofs.Common.{ℕ, ◌<◌, ◌≤◌, ◌⊎◌, inl, inr, List, Bool, length, slice_get, Contains, below_more, arith, sym, ap, subst, ◌∙◌}
use Rattle.std.proofs.lemmas.Bool.{cases_lt}
use Rattle.std.proofs.lemmas.List.{length-map, length-replicate}
use Rattle.std.proofs.lemmas.Option.{slice_get_past}
use Rattle.plm_type.specs.Inner.Reach.{rows, IsMarked}
use Rattle.plm_type.specs.Reach.{Graph, row_of}
use Rattle.plm_type.proofs.Exploring.{none_false}
use Rattle.plm_type.proofs.interrupts.called_anywhere.Goals as goal

-- a procedure that calls something is one
there : (g : Graph) (q k : ℕ) → (q < length g) ⊎ (length g ≤ q) → Contains (row_of (slice_get g q)) k → q < length g
there g q k (inl h) c = h
there g q k (inr h) c = let none = subst (λ row. Contains (row_of row) k) (slice_get_past g q h) c in let at = none.1 in absurd (omega (arith, at))

pub loop-procedure-init : goal.loop-procedure-init
loop-procedure-init c =
    let filled = c.in_ok-marks.ensures.items_if_clones_equal (λ y e. e) in
    let m = c.in_ok-mark.ensures in
    record {
      long = m.long ∙ ap length filled ∙ length-replicate _ _;
      main = λ k h w. m.marked k (subst (λ n. k < n) (sym (ap length filled ∙ length-replicate _ _)) h) w;
      each = λ q k h. absurd (omega (arith, h));
      only = λ k w. elim (m.only k w) [ inl o ↦ absurd (none_false _ k (subst (λ (l : List Bool). IsMarked l k) filled o)) | inr w ↦ inl w.0 ];
    }

pub loop-procedure-preserved : goal.loop-procedure-preserved
loop-procedure-preserved c =
    let g = rows c.args.graph.now in
    let was = c.loop-procedure.invariant in
    let m = c.in_ok-mark-2.ensures in
    let i = c.loop-procedure.procedure in
    let here = c.row_at.ensures in
    record {
      long = m.long ∙ was.long;
      main = λ k h w. m.kept k (was.main k h w);
      each = λ q k h within w.
          below_more (λ (p : ℕ). Contains (row_of (slice_get g p)) k → IsMarked c.mark-in-loop-procedure.new.marks.items k) i
          (λ p less called. m.kept k (was.each p k less within called))
          (λ called. m.marked k (subst (λ n. k < n) (sym was.long) within) (subst (λ (l : List ℕ). Contains l k) (sym here) called))
          q h w;
      only = λ k w. elim (m.only k w) [ inl o ↦ was.only k o | inr x ↦ inr (i, subst (λ (l : List ℕ). Contains l k) here x.0) ];
    }

pub returns : goal.returns
returns c = λ p h.
    let g = rows c.args.graph.now in
    let was = c.loop-procedure.invariant in
    let size = length-map c.args.graph.now (λ v. v.items) in
    let past = c.loop-procedure-test.false in (
      was.only p,
      λ w. elim w [
        | inl called ↦ was.main p h called
        | inr by ↦
            let within = subst (λ n. by.0 < n) size (there g by.0 p (cases_lt by.0 (length g)) by.1) in
            was.each by.0 p (omega (arith, within, past)) h by.1
      ],
    )

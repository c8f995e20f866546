use Rattle.std.proofs.Common.{◌≡◌, ℕ, ◌++◌, List, Bool, false, map, slice_index_or, Result, Ok, Err, OnOk, subst, ◌↔◌, refl}
use Rattle.plm_decl.specs.declared.names.Procedure.{Procedure}
use Rattle.plm_decl.specs.declared.found.Found.{Found}
use Rattle.plm_decl.specs.Names.{procedure_of}
use Rattle.plm_type.specs.Inner.Reach.{IsMarked}
use Rattle.plm_type.specs.Interrupts as spec
use Rattle.plm_type.proofs.interrupts.interrupt_faults.Goals as goal

on_ok : {A E P Q : Type 0} (r : Result A E) → (P → Q) → OnOk r P → OnOk r Q
on_ok (Ok a) f h = f h
on_ok (Err e) f h = h

pub returns : goal.returns
returns c =
    let names = c.args.names.now in
    let ps = names.procedures.items in
    let reaching = c.in_ok-reaching.reaching.items in
    let misused = c.in_ok-misused.misused.items in
    let R : ℕ → Bool = λ (p : ℕ). slice_index_or reaching p false in
    let M : ℕ → Bool = λ (p : ℕ). slice_index_or misused p false in
    let found = spec.faults_from R M 0 (map procedure_of ps) in
    let lists : c.add_faults.new.faults.items ≡ c.args.faults.now.items ++ found → (x : List Found) × spec.AreInterruptFaults names x × (c.add_faults.new.faults.items ≡ c.args.faults.now.items ++ x) = λ e. (
      found,
      record {
        lets_in = R;
        is_misused = M;
        reaching = subst (λ (qs : List Procedure). (p : ℕ) → IsMarked reaching p ↔ spec.LetsIn (map procedure_of qs) p) c.deref.ensures.value c.in_ok-reaching.ensures;
        misused = c.in_ok-misused.ensures;
        each = refl;
      },
      e,
    ) in
    let path : c.args.faults.now.items ++ spec.faults_from (λ (p : ℕ). slice_index_or c.deref-3.result.now p false) (λ (p : ℕ). slice_index_or c.deref-4.result.now p false) 0 (map procedure_of c.deref-2.result.now) ≡ c.args.faults.now.items ++ found = (λ j. c.args.faults.now.items
    ++ spec.faults_from (λ (p : ℕ). slice_index_or (c.deref-3.ensures.value j) p false) (λ (p : ℕ). slice_index_or (c.deref-4.ensures.value j) p false) 0 (map procedure_of (c.deref-2.ensures.value j))) in
    on_ok c.add_faults.result lists (subst (λ (l : List Found). OnOk c.add_faults.result (c.add_faults.new.faults.items ≡ l)) path c.add_faults.ensures)

use Rattle.std.proofs.Common.{◌≡◌, ℕ, ◌++◌, false, drop, map, slice_index_or}
use Rattle.plm_decl.specs.Names.{procedure_of}
use Rattle.plm_type.specs.Interrupts as spec
use Rattle.plm_type.proofs.interrupts.add_faults.Given as goal

abbrev pub invariant-loop-number : goal.invariant-loop-number
invariant-loop-number l =
    let reaches = λ (p : ℕ). slice_index_or l.reaching p false in
    let wrong = λ (p : ℕ). slice_index_or l.misused p false in
    l.faults.items ++ spec.faults_from reaches wrong l.number (map procedure_of (drop l.number l.procedures)) ≡ l.initial.faults.items ++ spec.faults_from reaches wrong 0 (map procedure_of l.procedures)

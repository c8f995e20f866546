-- The tasks of start-up.
use Rattle.std.proofs.Common.{◌≡◌, ℕ, suc, ◌+◌, ◌-◌, ◌<◌, ◌≤◌, List, [], ◌++◌, sym, ap, ◌∙◌, arith, append_assoc, append-nil}
use Rattle.select.specs.declared.part.Part.{Part}
use Rattle.layout_link.specs.declared.tasks.Task.{Task}
use Rattle.layout_link.specs.Tasks.{serving, vector_task, vector_tasks}

next_vector : (parts : List Part) (v : ℕ) → v < 256 → vector_tasks parts v (256 - v) ≡ vector_task v (serving parts v) ++ vector_tasks parts (v + 1) (256 - (v + 1))
unfolding vector_tasks
next_vector parts v lt =
    let e : 256 - v ≡ suc (256 - (v + 1)) = omega arith in
    let n : suc v ≡ v + 1 = omega arith in
    ap (vector_tasks parts v) e ∙ ap (λ m. vector_task v (serving parts v) ++ vector_tasks parts m (256 - (v + 1))) n

pub one_vector : (parts : List Part) (v : ℕ) (all so_far more : List Task) → v < 256 → all ≡ so_far ++ vector_tasks parts v (256 - v) → more ≡ so_far ++ vector_task v (serving parts v) → all ≡ more ++ vector_tasks parts (v + 1) (256 - (v + 1))
one_vector parts v all so_far more lt e f =
    let rest = vector_tasks parts (v + 1) (256 - (v + 1)) in
    e ∙ ap (λ l. so_far ++ l) (next_vector parts v lt) ∙ sym (append_assoc so_far (vector_task v (serving parts v)) rest) ∙ ap (λ l. l ++ rest) (sym f)

no_vectors : (parts : List Part) (v n : ℕ) → n ≡ 0 → vector_tasks parts v n ≡ []
unfolding vector_tasks
no_vectors parts v n e = ap (vector_tasks parts v) e

pub all_vectors : (parts : List Part) (v : ℕ) (all so_far : List Task) → 256 ≤ v → all ≡ so_far ++ vector_tasks parts v (256 - v) → so_far ≡ all
all_vectors parts v all so_far le e = sym (e ∙ ap (λ l. so_far ++ l) (no_vectors parts v (256 - v) (omega arith)) ∙ append-nil so_far)

-- What is linked fits, and takes few turns.
use Rattle.std.proofs.Common.{◌≡◌, ℕ, ◌+◌, ◌<◌, ◌≤◌, ◌++◌, List, length, map, get_or, ap, ap₂, ◌∙◌, arith}
use Rattle.word86.specs.MemoryMap.{first_offset, data_end}
use Rattle.plm_decl.specs.declared.names.Names.{Names}
use Rattle.plm_decl.specs.declared.names.Object.{Object}
use Rattle.plm_decl.specs.Placement.{IsPlacement, sizes_of}
use Rattle.plm_decl.specs.Laws.{InitialBytesFit}
use Rattle.select.specs.declared.part.Part.{Part}
use Rattle.layout_link.specs.declared.tasks.Task.{Task}
use Rattle.layout_link.specs.Objects.{offsets_from}
use Rattle.layout_link.specs.Tasks.{vector_tasks}
use Rattle.layout_link.specs.Initial.{stretches, data_tasks, count_of}
use Rattle.layout_link.specs.Linker.{offsets_in, stretches_in, initial_in, tasks_in}
use Rattle.layout_link.specs.Inner.Head.{TasksFit, turns_of_tasks}
use Rattle.layout_link.proofs.Placing.{below, is_placement, sum_sizes}
use Rattle.layout_link.proofs.Heading.{fit_both}
use Rattle.layout_link.proofs.Fitting.{vectors_fit, data_fit, few_turns, few_bytes}
use Rattle.layout_link.proofs.Joining.{are_low, total_is}

pub vectors_are : (parts ps : List Part) (ts : List Task) → ps ≡ parts → ts ≡ vector_tasks ps 0 256 → ts ≡ vector_tasks parts 0 256
vectors_are parts ps ts p e = e ∙ ap (λ l. vector_tasks l 0 256) p

module _ (names : Names) where
  pub offsets_are : (os : List Object) (offsets : List ℕ) → os ≡ names.objects.items → offsets ≡ offsets_from first_offset (map (λ o. o.size) os) → offsets ≡ offsets_in names
  offsets_are os offsets o e = e ∙ ap (λ l. offsets_from first_offset (map (λ x. x.size) l)) o

  pub tasks_are : (parts : List Part) (offsets : List ℕ) (vectors ts : List Task) → offsets ≡ offsets_in names → vectors ≡ vector_tasks parts 0 256
      → ts ≡ vectors ++ data_tasks 0 0 (stretches offsets names.variables.items 0 names.objects.items) → ts ≡ tasks_in names parts
  tasks_are parts offsets vectors ts o v e = e ∙ ap₂ (λ a b. a ++ data_tasks 0 0 (stretches b names.variables.items 0 names.objects.items)) v o

  pub room : (k : ℕ) → get_or (offsets_in names) k 0 + get_or (sizes_of names) k 0 ≤ data_end
  room k = let b = below first_offset (sizes_of names) k in let s = sum_sizes names.objects.items in let r = names.has_room in omega (arith, b, s, r)

  pub placed_well : IsPlacement (offsets_in names) (sizes_of names)
  placed_well = let s = sum_sizes names.objects.items in let r = names.has_room in is_placement (sizes_of names) (omega (arith, s, r))

  pub tasks_fit : InitialBytesFit → (parts : List Part) (from : ℕ) → from + length (initial_in names) < 65536 → TasksFit from (tasks_in names parts)
  tasks_fit law parts from lt =
      let os = names.objects.items in
      let vs = names.variables.items in
      fit_both from (vector_tasks parts 0 256) (data_tasks 0 0 (stretches_in names)) (vectors_fit from parts 0 256 (omega arith))
      (data_fit from 0 0 (stretches_in names)
      (are_low (offsets_in names) vs 0 os (law names (offsets_in names)) (λ k. let e : 0 + k ≡ k = omega arith in let p = ap (λ n. get_or (offsets_in names) n 0) e in let r = room k in omega (arith, p, r)))
      (omega (arith, lt)))

  pub turns_few : InitialBytesFit → (parts : List Part) → (turns_of_tasks (tasks_in names parts) ≤ 2776 + count_of (offsets_in names) names.variables.items names.objects.items) × (turns_of_tasks (tasks_in names parts) ≤ 100000)
  turns_few law parts =
      let few = few_turns parts (stretches_in names) in
      let all = total_is (offsets_in names) names.variables.items 0 names.objects.items in
      let b = few_bytes (offsets_in names) names.variables.items names.objects.items (law names (offsets_in names)) in
      let r = names.has_room in
      (omega (arith, few, all), omega (arith, few, all, b, r))

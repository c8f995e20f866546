-- What start-up has to do for a program, but for where its parts and its initial bytes lie.
use Rattle.std.specs.Prelude.{ℕ, zero, suc, ◌+◌, ◌*◌, ◌==◌, Bool, true, false, List, [], ◌∷◌, ◌++◌, Option, Some, None, position, slice_index}
use Rattle.select.specs.declared.part.Entry.{Entry}
use Rattle.select.specs.declared.part.Entry.TheVariants as entries
use Rattle.select.specs.declared.part.Part.{Part}
use Rattle.layout_link.specs.declared.tasks.Task.{Task}
use Rattle.layout_link.specs.declared.tasks.Task.TheVariants as tasks
use Rattle.layout_link.specs.Startup.{Act, PutWord, PutByte, Copy}

-- the parts begin at these places, and initial bytes lie from this one on
abbrev pub placed : (places : List ℕ) (from : ℕ) → Task → Act
placed places from (tasks.Vector v p) = PutWord (4 * v) (slice_index places p)
placed places from (tasks.Word to w) = PutWord to w
placed places from (tasks.Byte to b) = PutByte to b
placed places from (tasks.Copy at to more) = Copy (from + at) to more

-- the bytes of its instructions
abbrev pub bytes_of_task : Task → ℕ
bytes_of_task (tasks.Vector v p) = 6
bytes_of_task (tasks.Word to w) = 6
bytes_of_task (tasks.Byte to b) = 5
bytes_of_task (tasks.Copy at to more) = 12

abbrev pub bytes_of_tasks : List Task → ℕ
bytes_of_tasks [] = 0
bytes_of_tasks (t ∷ ts) = bytes_of_task t + bytes_of_tasks ts

-- the bytes of start-up, of which 42 are for what it does whatever its tasks
abbrev pub start_up_bytes : List Task → ℕ
start_up_bytes ts = 42 + bytes_of_tasks ts

-- ---- who is who

abbrev pub is_main : Entry → Bool
is_main entries.Main = true
is_main (entries.Vector n) = false
is_main entries.Unserved = false
is_main entries.Call = false

abbrev pub is_unserved : Entry → Bool
is_unserved entries.Main = false
is_unserved (entries.Vector n) = false
is_unserved entries.Unserved = true
is_unserved entries.Call = false

abbrev pub is_serving : (vector : ℕ) → Entry → Bool
is_serving v entries.Main = false
is_serving v (entries.Vector n) = n == v
is_serving v entries.Unserved = false
is_serving v entries.Call = false

-- the first part that serves a vector
abbrev pub serving : List Part → (vector : ℕ) → Option ℕ
serving parts v = position (λ p. is_serving v p.entry) parts

-- a vector leads to the first part that serves it, if there is one
abbrev pub vector_task : (vector : ℕ) → Option ℕ → List Task
vector_task v None = []
vector_task v (Some p) = tasks.Vector v p ∷ []

-- this number of vectors, from one on
unfoldable pub vector_tasks : List Part → (vector count : ℕ) → List Task
vector_tasks parts v zero = []
vector_tasks parts v (suc n) = vector_task v (serving parts v) ++ vector_tasks parts (suc v) n

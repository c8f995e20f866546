-- The bytes that the objects of a program have at start, and how start-up puts them there: stretch by stretch.
use Rattle.std.specs.Prelude.{ℕ, ◌+◌, ◌*◌, ◌-◌, ◌==◌, ◌&&◌, nat_lt, nat_le, if◌then◌else◌, Bool, List, [], ◌∷◌, ◌++◌, length, slice_index}
use Rattle.word86.specs.MemoryMap.{data_start}
use Rattle.plm_decl.specs.declared.names.Variable.{Variable}
use Rattle.plm_decl.specs.declared.names.Object.{Object}
use Rattle.plm_decl.specs.Initial.{initial_bytes}
use Rattle.i86_code.specs.Coding.{AreBytes}
use Rattle.layout_link.specs.declared.tasks.Task.{Task}
use Rattle.layout_link.specs.declared.tasks.Task.TheVariants as tasks

-- initial bytes one after another, from this address on
pub data Stretch : Type 0 where
  stretch : (to : ℕ) (bytes : List ℕ) → Stretch

-- bytes that lie there, and then these stretches: the first of them goes on with the bytes where it begins at their end
abbrev pub joined : (to : ℕ) → List ℕ → List Stretch → List Stretch
joined to bytes [] = stretch to bytes ∷ []
joined to bytes (stretch next more ∷ rest) = if next == to + length bytes then stretch to (bytes ++ more) ∷ rest else stretch to bytes ∷ stretch next more ∷ rest

-- bytes that are put one word after another
abbrev pub puts : (to : ℕ) → List ℕ → List Task
puts to [] = []
puts to (a ∷ []) = tasks.Byte to a ∷ []
puts to (a ∷ b ∷ rest) = tasks.Word to (a + 256 * b) ∷ puts (to + 2) rest

-- Stretches of five bytes or more are copied, 840 of them at most; the bytes of the others are put by words. So start-up takes at most
-- 4,096 turns, and one for each initial byte.
abbrev pub is_copied : (copies count : ℕ) → Bool
is_copied copies count = nat_lt copies 840 && nat_le 5 count

-- what is done for a stretch with these bytes there, where `at` bytes of `copies` stretches are copied before it
abbrev pub stretch_tasks : (at copies to : ℕ) → List ℕ → List Task
stretch_tasks at copies to bytes = if is_copied copies (length bytes) then tasks.Copy at to (length bytes - 1) ∷ [] else puts to bytes

-- which of its bytes are copied
abbrev pub copied : (copies : ℕ) → List ℕ → List ℕ
copied copies bytes = if is_copied copies (length bytes) then bytes else []

abbrev pub copies_with : (copies : ℕ) → List ℕ → ℕ
copies_with copies bytes = if is_copied copies (length bytes) then copies + 1 else copies

-- what is done for stretches, where `at` bytes of `copies` stretches are copied before them
abbrev pub data_tasks : (at copies : ℕ) → List Stretch → List Task
data_tasks at copies [] = []
data_tasks at copies (stretch to bytes ∷ rest) = stretch_tasks at copies to bytes ++ data_tasks (at + length (copied copies bytes)) (copies_with copies bytes) rest

-- the bytes that are copied, one after another
abbrev pub copied_bytes : (copies : ℕ) → List Stretch → List ℕ
copied_bytes copies [] = []
copied_bytes copies (stretch to bytes ∷ rest) = copied copies bytes ++ copied_bytes (copies_with copies bytes) rest

-- the objects lie at these offsets
module _ (offsets : List ℕ) (variables : List Variable) where
  -- the initial bytes of an object
  abbrev pub object_bytes : Object → List ℕ
  object_bytes o = initial_bytes offsets variables o.initial.items

  -- what these objects have at start are bytes
  abbrev pub HaveBytes : List Object → Type 0
  HaveBytes [] = Unit {0}
  HaveBytes (o ∷ os) = AreBytes (object_bytes o) × HaveBytes os

  -- the stretches of the objects from the k-th on, by their addresses
  abbrev pub stretches : (k : ℕ) → List Object → List Stretch
  stretches k [] = []
  stretches k (o ∷ os) = joined (data_start + slice_index offsets k) (object_bytes o) (stretches (k + 1) os)

  -- how many bytes the objects have at start
  abbrev pub count_of : List Object → ℕ
  count_of [] = 0
  count_of (o ∷ os) = length (object_bytes o) + count_of os

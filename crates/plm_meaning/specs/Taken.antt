-- What a choice leads to: a step, a Bad step, or nothing.
use Rattle.std.specs.Prelude.{ℕ, Bool, true, false, List, Option, Some, None}
use Rattle.word86.specs.Action.{Shared, Action, Bad}
use Rattle.plm_meaning.specs.System.{Choice, Program, System, State, is_interrupted, step}

-- a step with its labels, a Bad step with its module and line, or neither
pub data Taken (S R L : Type 0) : Type 0 where
  Makes : System S R → List L → Taken S R L
  BadAt : (module_index line : ℕ) → Taken S R L
  Refused : Taken S R L

abbrev pub bad_place : {A R : Type 0} → Action A R → Option (ℕ × ℕ)
bad_place (Bad module_index line) = Some (module_index, line)
bad_place _ = None

abbrev pub unless : {A : Type 0} → Bool → Option A → Option A
unless true o = None
unless false o = o

abbrev pub taken_of : {S R L : Type 0} → Option (System S R × List L) → Option (ℕ × ℕ) → Taken S R L
taken_of (Some x) bad = Makes x.0 x.1
taken_of None (Some b) = BadAt b.0 b.1
taken_of None None = Refused

module _ (sh : Shared) (R : Type 0) (next : R → Action sh.Access R) (body : ℕ → R) where
  -- the module and the line of the program's next step, where promptness lets it come and it is a Bad one
  abbrev pub bad_next : Choice sh.Event → System sh.State R → Option (ℕ × ℕ)
  bad_next Program (State main (Some h) on halted w silents switches) = bad_place (next h)
  bad_next Program (State main None on true w silents switches) = None
  bad_next Program (State main None on false w silents switches) = unless (is_interrupted sh {R = R} None on w) (bad_place (next main))
  bad_next _ s = None

  abbrev pub taken : Choice sh.Event → System sh.State R → Taken sh.State R sh.Label
  taken c s = taken_of (step sh R next body c s) (bad_next c s)

-- What a context (main, or an interrupt procedure) does next, and what it goes on with. The program's meaning, its
-- intermediate code and its instructions all speak of their contexts so.
use Rattle.std.specs.Prelude.{ℕ, ◌<◌, Bool, true, false, List, [], Option, Some, None}

-- what all contexts share, its accesses, events and labels
pub record Shared : Type 1 where
  pub Access : Type 0
  pub State : Type 0
  pub Event : Type 0
  pub Label : Type 0
  -- what an access answers, what it leaves, and its labels
  pub touch : Access → State → ℕ × State × List Label
  -- answers are below this
  pub answers : Access → ℕ
  pub small : (a : Access) (w : State) → (touch a w).0 < answers a
  -- the interrupt line, its vector, and what an acknowledgement leaves and shows
  pub int_line : State → Bool
  pub vector : State → ℕ
  pub acknowledge : State → State × List Label
  -- what an event leaves and shows
  pub occurs : Event → State → State
  pub event_label : Event → Label

pub data Action (A R : Type 0) : Type 0 where
  Silent : R → Action A R
  -- one access; what is read is the answer
  Touch : A → (ℕ → R) → Action A R
  Enable : R → Action A R
  Disable : R → Action A R
  Halt : R → Action A R
  -- used up
  Over : Action A R
  -- a Bad step, at this line of this module
  Bad : (module_index line : ℕ) → Action A R

abbrev pub IsBad : {A R : Type 0} → Action A R → Type 0
IsBad (Bad module_index line) = Unit {0}
IsBad _ = ⊥

abbrev pub map_action : {A R S : Type 0} → (R → S) → Action A R → Action A S
map_action f (Silent r) = Silent (f r)
map_action f (Touch a g) = Touch a (λ v. f (g v))
map_action f (Enable r) = Enable (f r)
map_action f (Disable r) = Disable (f r)
map_action f (Halt r) = Halt (f r)
map_action f Over = Over
map_action f (Bad module_index line) = Bad module_index line

-- whether interrupts are on after an action
abbrev pub on_after : {A R : Type 0} → Action A R → Bool → Bool
on_after (Silent r) on = on
on_after (Touch a k) on = on
on_after (Enable r) on = true
on_after (Disable r) on = false
on_after (Halt r) on = true
on_after Over on = on
on_after (Bad module_index line) on = on

abbrev pub halted_after : {A R : Type 0} → Action A R → Bool
halted_after (Silent r) = false
halted_after (Touch a k) = false
halted_after (Enable r) = false
halted_after (Disable r) = false
halted_after (Halt r) = true
halted_after Over = false
halted_after (Bad module_index line) = false

-- what an action does to what is shared, and its labels; none where the context is used up, or the step is Bad
abbrev pub perform : (sh : Shared) → {R : Type 0} → Action sh.Access R → sh.State → Option (R × sh.State × List sh.Label)
perform sh (Silent r) w = Some (r, w, [])
perform sh (Touch a k) w = Some (k (sh.touch a w).0, (sh.touch a w).1, (sh.touch a w).2)
perform sh (Enable r) w = Some (r, w, [])
perform sh (Disable r) w = Some (r, w, [])
perform sh (Halt r) w = Some (r, w, [])
perform sh Over w = None
perform sh (Bad module_index line) w = None

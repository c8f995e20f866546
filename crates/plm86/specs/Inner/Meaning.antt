-- What a run of the meaning leaves.
use Rattle.std.specs.Prelude.{ℕ, ◌≡◌, ◌++◌, List, [], ◌∷◌, map, Option, Some, None, Result, Ok, Err}
use Rattle.word86.specs.declared.event.Event.{Event}
use Rattle.word86.specs.declared.label.Label.{Label}
use Rattle.word86.specs.Sink.{Appends, Cut, Rises}
use Rattle.ppi_kbd.specs.Chips.{ChipState}
use Rattle.ppi_kbd.specs.Ports.{Shows}
use Rattle.plm_decl.specs.declared.names.Names.{Names}
use Rattle.plm_decl.specs.declared.placement.Placement.{Placement}
use Rattle.plm_meaning.specs.declared.meaning.Meaning.{Meaning}
use Rattle.plm_meaning.specs.declared.meaning.Step.{Step}
use Rattle.plm_meaning.specs.Meaning.{IsRunOf, state_of}
use Rattle.plm_meaning.specs.Shown.{labels_of}
use Rattle.plm_type.specs.Rest.{Rest}
use Rattle.plm_meaning.specs.Store.{Store}
use Rattle.plm_meaning.specs.System.{Choice, Program, Occurs, Enter, Leave}
use Rattle.plm_meaning.specs.Taken.{Taken, Makes, BadAt}
use Rattle.board.specs.Trace.{lines}
use Rattle.plm86.specs.Mean.{Alternatives, first_allowed, run_of}
use Rattle.plm86.specs.declared.mean.MeanEnd.{MeanEnd}
use Rattle.plm86.specs.declared.mean.MeanEnd.TheVariants as ends
use Rattle.plm86.specs.declared.mean.Ending.{Ending}
use Rattle.plm86.specs.declared.mean.Ending.TheVariants as endings

-- the label of a step, if there is one
abbrev pub label_of : Option Step → Option Label
label_of None = None
label_of (Some s) = s.label

-- each event comes
abbrev pub event_choices : List Event → Alternatives
event_choices es = map (λ e. Occurs e ∷ []) es

-- none of these choices is allowed, so nothing comes
abbrev pub IsIdle : Meaning → List (Choice Event) → Type 0
IsIdle m cs = (names : Names) (placement : Placement) → IsRunOf m names placement → (p : ChipState) → Shows m.store.ports p → first_allowed names placement cs (state_of m p) ≡ Makes (state_of m p) []

-- what comes in a turn, where that main waits need not be tried
abbrev pub a_step : List (Choice Event)
a_step = Enter ∷ Program ∷ Leave ∷ []

-- A run has made labels, which were taken, and these choices are left: what is to come is the rest of the whole.
pub record Far (names : Names) (placement : Placement) (whole : List Label × MeanEnd) (left : List (List (Choice Event))) (m : Meaning) (old new : Option (List ℕ)) (before after : ℕ) : Type 0 where
  pub run : IsRunOf m names placement
  pub chips : ChipState
  pub shows : Shows m.store.ports chips
  pub done : List Label
  pub labels : done ++ (run_of names placement left (state_of m chips)).0 ≡ whole.0
  pub ends : (run_of names placement left (state_of m chips)).1 ≡ whole.1
  pub taken : Appends old new (lines done)
  pub same : after ≡ before

-- A run was ended: by a Bad step, by want of memory, or since the sink failed.
abbrev pub Ended : (whole : List Label × MeanEnd) → (old new : Option (List ℕ)) → (before after : ℕ) → Ending → Type 0
Ended whole old new before after (endings.Bad at) = (whole.1 ≡ ends.Bad at.«module» at.line) × Appends old new (lines whole.0) × (after ≡ before)
Ended whole old new before after endings.Memory = Cut old new (lines whole.0) × (after ≡ before)
Ended whole old new before after endings.Broken = Cut old new (lines whole.0) × Rises before after

-- What comes is a Bad step; what want of memory cuts off is not told.
abbrev pub Stops : Ending → Taken (Store ChipState) Rest Label → Type 0
Stops (endings.Bad at) t = t ≡ BadAt at.«module» at.line
Stops endings.Memory t = Unit {0}
Stops endings.Broken t = ⊥

-- the first of these choices that is allowed leads there, with the label of what came; or what comes ends the run
abbrev pub ComesOf : (m n : Meaning) → List (Choice Event) → Names → Placement → ChipState → Result (Option Step) Ending → Type 0
ComesOf m n cs names placement p (Ok came) = (q : ChipState) × Shows n.store.ports q × (first_allowed names placement cs (state_of m p) ≡ Makes (state_of n q) (labels_of (label_of came)))
ComesOf m n cs names placement p (Err e) = Stops e (first_allowed names placement cs (state_of m p))

-- this came of these choices
pub record Came (m n : Meaning) (cs : List (Choice Event)) (came : Result (Option Step) Ending) : Type 0 where
  pub run : n.around ≡ m.around
  pub each : (names : Names) (placement : Placement) → IsRunOf m names placement → (p : ChipState) → Shows m.store.ports p → ComesOf m n cs names placement p came

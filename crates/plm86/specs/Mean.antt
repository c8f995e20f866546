-- The meaning as a program: what comes in each turn, the labels, and how the run ends.
use Rattle.std.specs.Prelude.{ℕ, zero, suc, ◌≡◌, List, [], ◌∷◌, ◌++◌, map, Option, Some, Result, Ok, Err}
use Rattle.word86.specs.declared.event.Event.{Event}
use Rattle.word86.specs.declared.label.Label.{Label}
use Rattle.word86.specs.Sink.{Cut, Rises}
use Rattle.word86.specs.declared.fault.Fault.{Fault}
use Rattle.word86.specs.declared.fault.Fault.TheVariants.{Memory, At}
use Rattle.word86.specs.declared.number.Number.TheVariants.{E704}
use Rattle.word86.specs.declared.power_on.PowerOn.{PowerOn}
use Rattle.ppi_kbd.specs.Chips.{ChipState}
use Rattle.plm_decl.specs.declared.names.Names.{Names}
use Rattle.plm_decl.specs.declared.placement.Placement.{Placement}
use Rattle.plm_decl.specs.Placement.{sizes_of}
use Rattle.plm_type.specs.Next.{next}
use Rattle.plm_type.specs.Programs.{procedures_of, handler_rest}
use Rattle.plm_type.specs.Rest.{Rest}
use Rattle.plm_meaning.specs.Meaning.{first_of, leads}
use Rattle.ppi_kbd.specs.BoardChips.{board_chips}
use Rattle.plm_meaning.specs.Store.{Store, shared}
use Rattle.plm_meaning.specs.System.{Choice, Program, Occurs, Enter, Leave, Idle, System, steps, BadIsNext}
use Rattle.plm_meaning.specs.Taken.{Taken, Makes, BadAt, Refused}
use Rattle.board.specs.Trace.{lines}
use Rattle.plm86.specs.Status.{status_of_fault}
use Rattle.listing_map.specs.Lines.{end_line}
use Rattle.plm86.specs.declared.mean.MeanEnd.{MeanEnd}
use Rattle.plm86.specs.declared.mean.MeanEnd.TheVariants.{Stopped, Bad}

-- a state of a program's run
abbrev pub Mid : Type 0
Mid = System (Store ChipState) Rest

-- one after the other, each the first of its choices that is allowed
abbrev pub Alternatives : Type 0
Alternatives = List (List (Choice Event))

-- an interrupt is entered if it can; else the program makes a step, or its interrupt procedure is left; else main waits
abbrev pub one_step : List (Choice Event)
one_step = Enter ∷ Program ∷ Leave ∷ Idle ∷ []

-- what comes in a turn, one after the other, each as the first of its choices that is allowed: the events, and then one step
abbrev pub turn_choices : List Event → Alternatives
turn_choices es = map (λ e. Occurs e ∷ []) es ++ one_step ∷ []

-- in this number of turns, from one on
abbrev pub choices_from : (due : ℕ → List Event) → (count turn : ℕ) → Alternatives
choices_from due zero turn = []
choices_from due (suc n) turn = turn_choices (due turn) ++ choices_from due n (suc turn)

-- a choice that is refused gives way to what comes instead
abbrev pub unless_refused : Taken (Store ChipState) Rest Label → Taken (Store ChipState) Rest Label → Taken (Store ChipState) Rest Label
unless_refused (Makes t labels) other = Makes t labels
unless_refused (BadAt module_index line) other = BadAt module_index line
unless_refused Refused other = other

-- labels, and how a run ends after them
abbrev pub behind : List Label → List Label × MeanEnd → List Label × MeanEnd
behind labels x = (labels ++ x.0, x.1)

-- a run goes on from a step; a Bad one ends it
abbrev pub goes_on : Taken (Store ChipState) Rest Label → (Mid → List Label × MeanEnd) → List Label × MeanEnd
goes_on (Makes t labels) rest = behind labels (rest t)
goes_on (BadAt module_index line) rest = ([], Bad module_index line)
goes_on Refused rest = ([], Stopped)

module _ (names : Names) (placement : Placement) where
  -- the first of these choices that is allowed; where none is, nothing comes
  abbrev pub first_allowed : List (Choice Event) → Mid → Taken (Store ChipState) Rest Label
  first_allowed [] s = Makes s []
  first_allowed (c ∷ cs) s = unless_refused (leads names placement c s) (first_allowed cs s)

  -- the labels of a run by these choices, and its end
  abbrev pub run_of : Alternatives → Mid → List Label × MeanEnd
  run_of [] s = ([], Stopped)
  run_of (cs ∷ more) s = goes_on (first_allowed cs s) (run_of more)

  -- from power-on under a schedule up to its stop
  abbrev pub meant : PowerOn → (due : ℕ → List Event) → (stop : ℕ) → List Label × MeanEnd
  meant power due stop = run_of (choices_from due stop 0) (first_of names placement power)

-- ---- which run it is

module _ (names : Names) (placement : Placement) where
  -- Choices that the language allows one after another from a state on make just these labels; and where the run ends by a Bad step,
  -- that one is next.
  pub record IsAllowed (s : Mid) (x : List Label × MeanEnd) : Type 0 where
    pub choices : List (Choice Event)
    pub last : Mid
    pub made : steps (shared board_chips) Rest (next placement.offsets.items (sizes_of names) (procedures_of names)) (handler_rest names) choices s ≡ Some (last, x.0)
    pub bad : (module_index line : ℕ) → x.1 ≡ Bad module_index line → BadIsNext (shared board_chips) Rest (next placement.offsets.items (sizes_of names) (procedures_of names)) (handler_rest names) last

abbrev pub MeanLaw : Type 0
MeanLaw = (names : Names) (placement : Placement) (power : PowerOn) (due : ℕ → List Event) (stop : ℕ) → IsAllowed names placement (first_of names placement power) (meant names placement power due stop)

-- the last line of a run that came to its stop
abbrev pub last_line : (stop : ℕ) → MeanEnd → List ℕ
last_line stop Stopped = end_line stop
last_line stop (Bad module_index line) = []

abbrev pub run_text : (stop : ℕ) → List Label × MeanEnd → List ℕ
run_text stop x = lines x.0 ++ last_line stop x.1

-- A beginning of the text was taken: since the sink failed, or for want of memory.
abbrev pub IsCutShort : Fault → (old new : Option (List ℕ)) → (before after : ℕ) → List ℕ → Type 0
IsCutShort Memory old new before after text = Cut old new text × (after ≡ before)
IsCutShort (At k line number) old new before after text = (k ≡ 0) × (line ≡ 1) × (number ≡ E704) × Cut old new text × Rises before after

-- ---- the status with which the program ends

-- 0 for a run to its stop
abbrev pub mean_status_of : Result MeanEnd Fault → ℕ
mean_status_of (Ok Stopped) = 0
mean_status_of (Ok (Bad module_index line)) = 1
mean_status_of (Err Memory) = 1
mean_status_of (Err (At k line number)) = status_of_fault number

-- The state of a run of the code, and what its choices lead to.
use Rattle.std.specs.Prelude.{◌≡◌, map, Option}
use Rattle.std.specs.Option.{option_map}
use Rattle.word86.specs.declared.event.Event.{Event}
use Rattle.word86.specs.declared.label.Label.{Label}
use Rattle.word86.specs.declared.power_on.PowerOn.{PowerOn}
use Rattle.ppi_kbd.specs.Ports.{Shows}
use Rattle.ppi_kbd.specs.Chips.{ChipState, reset}
use Rattle.ppi_kbd.specs.BoardChips.{board_chips}
use Rattle.plm_decl.specs.declared.names.Names.{Names}
use Rattle.plm_decl.specs.declared.placement.Placement.{Placement}
use Rattle.plm_decl.specs.Names.{object_of}
use Rattle.plm_decl.specs.Placement as placed
use Rattle.plm_type.specs.Rest.{Rest, Main, Handler}
use Rattle.plm_type.specs.Next.{next}
use Rattle.plm_type.specs.Programs.{procedures_of, main_rest, handler_rest}
use Rattle.plm_meaning.specs.declared.meaning.Meaning.{Meaning}
use Rattle.plm_meaning.specs.declared.meaning.Choice as declared_choice
use Rattle.plm_meaning.specs.declared.meaning.Choice.TheVariants as choice
use Rattle.plm_meaning.specs.declared.meaning.Stop as declared_stop
use Rattle.plm_meaning.specs.declared.meaning.Stop.TheVariants as stop
use Rattle.plm_meaning.specs.Opening.{first_store}
use Rattle.word86.specs.PowerOn.{pages_of}
use Rattle.plm_meaning.specs.Store.{Store, shared}
use Rattle.plm_meaning.specs.System.{Choice, Program, Occurs, Enter, Leave, Idle, System, State, first_state}
use Rattle.plm_meaning.specs.Taken.{Taken, Makes, BadAt, Refused, taken}
use Rattle.plm_meaning.specs.Context.{to_run_of}
use Rattle.plm_meaning.specs.Around.{names_of}
use Rattle.plm_meaning.specs.Shown.{store_of, labels_of}

abbrev pub choice_of : declared_choice.Choice → Choice Event
choice_of choice.Program = Program
choice_of (choice.Event e) = Occurs e
choice_of choice.Enter = Enter
choice_of choice.Leave = Leave
choice_of choice.Idle = Idle

-- ---- the runs of a program that declares these names, with its objects at these places

module _ (names : Names) (placement : Placement) where
  -- the state when the power comes on
  abbrev pub first_of : PowerOn → System (Store ChipState) Rest
  first_of power =
      first_state (main_rest names)
      (first_store power.ram.items (pages_of power) placement.offsets.items names.variables.items (map object_of names.objects.items) reset)

  -- what a choice leads to
  abbrev pub leads : Choice Event → System (Store ChipState) Rest → Taken (Store ChipState) Rest Label
  leads = taken (shared board_chips) Rest (next placement.offsets.items (placed.sizes_of names) (procedures_of names)) (handler_rest names)

-- ---- the code's state

abbrev pub state_of : Meaning → ChipState → System (Store ChipState) Rest
state_of m c = State (Main (to_run_of m.main)) (option_map (λ h. Handler (to_run_of h)) m.handler) m.on m.halted (store_of m.store c) m.silents m.switches

-- the run of this program under this placement
pub record IsRunOf (m : Meaning) (names : Names) (placement : Placement) : Type 0 where
  pub declares : names_of m.around ≡ names
  pub places : m.around.placement.now ≡ placement

-- it stands where the power comes on, with the chips at reset
pub record Opens (m : Meaning) (names : Names) (placement : Placement) (power : PowerOn) : Type 0 where
  pub run : IsRunOf m names placement
  pub chips : Shows m.store.ports reset
  pub state : state_of m reset ≡ first_of names placement power

abbrev pub leads_in : Meaning → Choice Event → System (Store ChipState) Rest → Taken (Store ChipState) Rest Label
leads_in m = leads (names_of m.around) m.around.placement.now

-- for every state of the chips that the code shows, the choice is the definition's step, with this label
abbrev pub Made : (old new : Meaning) → Choice Event → Option Label → Type 0
Made old new c label =
    (p : ChipState) → Shows old.store.ports p → (q : ChipState) × Shows new.store.ports q × (leads_in old c (state_of old p) ≡ Makes (state_of new q) (labels_of label))

abbrev pub StopIs : declared_stop.Stop → Taken (Store ChipState) Rest Label → Type 0
StopIs stop.NotAllowed t = t ≡ Refused
StopIs (stop.Bad l) t = t ≡ BadAt l.module l.line
StopIs stop.Memory t = Unit {0}

-- the choice leads there, and the run is as it was
abbrev pub Stopped : (old new : Meaning) → Choice Event → declared_stop.Stop → Type 0
Stopped old new c stop =
    (p : ChipState) → Shows old.store.ports p → StopIs stop (leads_in old c (state_of old p)) × (state_of new p ≡ state_of old p) × Shows new.store.ports p

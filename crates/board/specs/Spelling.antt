-- Which text spells which schedule.
use Rattle.std.specs.Prelude.{ℕ, ◌≡◌, ◌<◌, ◌≤◌, ◌++◌, not, List, [], ◌∷◌, Option, Some, None, map, filter}
use Rattle.bstr.specs.Text.{lines_of, without_terminator}
use Rattle.word86.specs.declared.event.Event.{Event}
use Rattle.board.specs.declared.reading.Item.{Item}
use Rattle.board.specs.declared.reading.Item.TheVariants.{Fill, At, Stop}
use Rattle.board.specs.Schedule.{Text, View, item_of, is_skipped, fault_of}

-- an event and its turn
pub record Due : Type 0 where
  pub turn : ℕ
  pub event : Event

-- what a schedule says: FILL's byte, if it is there, the events in their order, and the turn of STOP
pub record Plan : Type 0 where
  pub fill : Option ℕ
  pub events : List Due
  pub stop : ℕ

-- its lines in order
abbrev pub fill_items : Option ℕ → List Item
fill_items None = []
fill_items (Some b) = Fill b ∷ []

abbrev pub items_of : Plan → List Item
items_of p = fill_items p.fill ++ (map (λ d. At d.turn d.event) p.events ++ (Stop p.stop ∷ []))

-- turns do not fall, and stay below the stop
abbrev pub IsInOrder : (from : ℕ) → List Due → (stop : ℕ) → Type 0
IsInOrder from [] stop = Unit {0}
IsInOrder from (d ∷ ds) stop = (from ≤ d.turn) × (d.turn < stop) × IsInOrder d.turn ds stop

-- the lines that say something: all but those of blanks alone and comments
abbrev pub said : List Text → List Text
said lines = filter (λ l. not (is_skipped l)) lines

abbrev pub lines_in : Text → List Text
lines_in text = map without_terminator (lines_of text)

-- the text spells this schedule
pub record Spells (text : Text) (p : Plan) : Type 0 where
  pub lines : map item_of (said (lines_in text)) ≡ map Some (items_of p)
  pub in_order : IsInOrder 0 p.events p.stop

-- what was read is this schedule, without a fault
pub record IsPlan (v : View) (p : Plan) : Type 0 where
  pub no_fault : fault_of v ≡ None
  pub fill : v.fill ≡ p.fill
  pub turns : v.turns ≡ map (λ d. d.turn) p.events
  pub events : v.events ≡ map (λ d. d.event) p.events
  pub stop : v.stop ≡ Some p.stop

-- What a run of the code stands for, where its chips stand for this state.
use Rattle.std.specs.Prelude.{List, [], ◌∷◌, map, Option, Some, None}
use Rattle.word86.specs.declared.label.Label.{Label}
use Rattle.word86.specs.Page.{Pages}
use Rattle.ppi_kbd.specs.Chips.{ChipState}
use Rattle.plm_meaning.specs.declared.store.Store as declared_store
use Rattle.plm_meaning.specs.Store.{Store}

abbrev pub labels_of : Option Label → List Label
labels_of None = []
labels_of (Some l) = l ∷ []

abbrev pub screen_of : declared_store.Store → Pages
screen_of s = record { monochrome = s.monochrome.items; colour = s.colour.items }

abbrev pub store_of : declared_store.Store → ChipState → Store ChipState
store_of s c = record { objects = map (λ v. v.items) s.objects.items; screen = screen_of s; chips = c }

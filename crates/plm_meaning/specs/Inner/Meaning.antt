-- What the functions of a step promise.
use Rattle.std.specs.Prelude.{◌≡◌, Option, Some}
use Rattle.word86.specs.Action.{perform}
use Rattle.word86.specs.declared.label.Label.{Label}
use Rattle.ppi_kbd.specs.Ports.{Shows}
use Rattle.ppi_kbd.specs.Chips.{ChipState}
use Rattle.ppi_kbd.specs.BoardChips.{board_chips}
use Rattle.plm_meaning.specs.declared.around.Surroundings.{Surroundings}
use Rattle.plm_meaning.specs.declared.context.Context.{Context}
use Rattle.plm_meaning.specs.declared.meaning.Stop as declared_stop
use Rattle.plm_meaning.specs.declared.meaning.Stop.TheVariants as stop
use Rattle.plm_meaning.specs.declared.redex.Action as declared_action
use Rattle.plm_meaning.specs.declared.redex.Action.TheVariants as action
use Rattle.plm_meaning.specs.declared.store.Store as declared_store
use Rattle.plm_meaning.specs.Store.{shared}
use Rattle.plm_meaning.specs.Context.{to_run_of}
use Rattle.plm_meaning.specs.Inner.Redex.{context_action}
use Rattle.plm_meaning.specs.Shown.{store_of, labels_of}

-- ---- an action of a context

-- the action is made: for every state of the chips that the code shows, with what is shared and this label
abbrev pub Performed : Context → declared_store.Store → Context → declared_store.Store → Surroundings → declared_action.Action → Option Label → Type 0
Performed context store context' store' s a label =
    (p : ChipState) → Shows store.ports p
    → (q : ChipState) × Shows store'.ports q × (perform (shared board_chips) (context_action s context a) (store_of store p) ≡ Some (to_run_of context', store_of store' q, labels_of label))

-- the action is no step, and whether it is a Bad one
abbrev pub StopsAt : declared_stop.Stop → declared_action.Action → Type 0
StopsAt stop.NotAllowed action.Ended = Unit {0}
StopsAt stop.NotAllowed action.Returned = Unit {0}
StopsAt (stop.Bad l) (action.Bad m) = l ≡ m
StopsAt _ _ = ⊥

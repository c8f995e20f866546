-- What an access leaves.
use Rattle.std.specs.Prelude.{◌≡◌}
use Rattle.ppi_kbd.specs.Chips.{ChipState}
use Rattle.ppi_kbd.specs.Ports.{Shows}
use Rattle.plm_meaning.specs.declared.store.Store as declared_store
use Rattle.plm_meaning.specs.Store.{Store}
use Rattle.plm_meaning.specs.Shown.{store_of}

-- the code's store stands for this one
abbrev pub Leaves : declared_store.Store → Store ChipState → Type 0
Leaves s t = (c : ChipState) × Shows s.ports c × (store_of s c ≡ t)

-- The store into an object of the program that its next step makes.
use Rattle.std.specs.Prelude.{ℕ, Option, Some, None}
use Rattle.word86.specs.Access.{Access, In, Screen, Read, Write, Input, Output}
use Rattle.word86.specs.Action.{Action, Silent, Touch, Enable, Disable, Halt, Over, Bad}
use Rattle.ppi_kbd.specs.Chips.{ChipState}
use Rattle.plm_decl.specs.Placement as placed
use Rattle.plm_type.specs.Rest.{Rest}
use Rattle.plm_type.specs.Next.{next}
use Rattle.plm_type.specs.Programs.{procedures_of}
use Rattle.plm_meaning.specs.declared.meaning.Meaning.{Meaning}
use Rattle.plm_meaning.specs.declared.meaning.next_store.ObjectStore.{ObjectStore}
use Rattle.plm_meaning.specs.Around.{names_of}
use Rattle.plm_meaning.specs.Store.{Store}
use Rattle.plm_meaning.specs.System.{System, State}

-- what a rest does next in this run
abbrev pub next_in : Meaning → Rest → Action Access Rest
next_in m = next m.around.placement.now.offsets.items (placed.sizes_of (names_of m.around)) (procedures_of (names_of m.around))

-- what the interrupt procedure that runs does next, else what main does
abbrev pub running : Meaning → System (Store ChipState) Rest → Action Access Rest
running m (State main (Some h) on halted w silents switches) = next_in m h
running m (State main None on halted w silents switches) = next_in m main

-- a write to an object is a store
abbrev pub stored_by : Access → Option ObjectStore
stored_by (Write width (In k i) v) = Some (record { object = k; place = i; width = width; value = v })
stored_by (Write width (Screen page i) v) = None
stored_by (Read width place) = None
stored_by (Input width port) = None
stored_by (Output width port v) = None

abbrev pub store_of : {R : Type 0} → Action Access R → Option ObjectStore
store_of (Touch access rest) = stored_by access
store_of (Silent r) = None
store_of (Enable r) = None
store_of (Disable r) = None
store_of (Halt r) = None
store_of Over = None
store_of (Bad module_index line) = None

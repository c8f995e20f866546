-- The stack of the contexts in the processor's memory.
use Rattle.std.specs.Prelude.{ℕ, ◌≡◌, ◌+◌, ◌*◌, ◌≤◌, List, [], ◌∷◌, ◌++◌, length}
use Rattle.word86.specs.MemoryMap.{data_segment, stack_top}
use Rattle.cpu8086.specs.BusModel.{BusModel}
use Rattle.cpu8086.specs.Machine.{loaded_word}

module _ {W : Type 0} (m : BusModel W) where
  -- words on the stack, from the newest one
  abbrev pub Stacked : W → (sp : ℕ) → List ℕ → Type 0
  Stacked w sp [] = Unit {0}
  Stacked w sp (v ∷ l) = (loaded_word m w data_segment sp ≡ v) × Stacked w (sp + 2) l

  -- a context's part of the stack, and what lies beyond it; together they reach up to the stack's top
  pub record Stack (w : W) (sp : ℕ) (own base : List ℕ) (room : ℕ) : Type 0 where
    pub words : Stacked w sp (own ++ base)
    pub within : length own ≤ room
    pub at : sp + 2 * (length own + length base) ≡ stack_top

-- What a context does at a jump, short or long.
use Rattle.std.specs.Prelude.{ℕ, zero, suc, ◌≡◌, ◌<◌, ◌⊎◌, Bool, false, if◌then◌else◌, List, Option}
use Rattle.word86.specs.Action.{Silent}
use Rattle.word86.specs.Following.{Does}
use Rattle.i86_table.specs.declared.instruction.Instr.{Instr}
use Rattle.i86_table.specs.declared.instruction.Condition.{Condition}
use Rattle.i86_table.specs.Condition.{holds}
use Rattle.i86_table.specs.Contexts.{Context, Own, Working, Given, offer}
use Rattle.select.specs.declared.part.Step.TheVariants.{Goto, GotoIf}
use Rattle.select.specs.Linked.{Stands}

module _ (code : ℕ → Option (Instr × ℕ)) (find : (offset n : ℕ) → Option (ℕ × ℕ)) (words : ℕ → Option ℕ) (entry : (vector : ℕ) → ℕ) (main handler : ℕ) where
  -- from one context to another by this number of silent instructions
  abbrev pub Arrives : ℕ → Context → Context → Type 0
  Arrives zero c d = c ≡ d
  Arrives (suc n) c d = (e : Context) × (offer code find words entry main handler c ≡ Does (Silent e)) × Arrives n e d

  -- by one or two
  abbrev pub ArrivesSoon : Context → Context → Type 0
  ArrivesSoon c d = Arrives 1 c d ⊎ Arrives 2 c d

  -- A jump leads to its target's place, and one with a condition there or to the next step, whatever its size. Nothing else changes.
  abbrev pub JumpsArrive : (offsets places : List ℕ) → Type 0
  JumpsArrive offsets places =
      (here there to : ℕ) → there < 65536 → (g : Working) (st : List ℕ) (after_sti : Bool) (given : Option Given)
      → ((t : ℕ) → Stands code words offsets places here there to (Goto t) → ArrivesSoon (Own here g st after_sti given) (Own to g st false given))
      × ((c : Condition) (t : ℕ) → Stands code words offsets places here there to (GotoIf c t) → ArrivesSoon (Own here g st after_sti given) (Own (if holds c g.flags then to else there) g st false given))

-- How soon a DO CASE is at the case that it chooses.
use Rattle.std.specs.Prelude.{◌≡◌, ℕ, zero, suc, ◌+◌, ◌<◌, ◌≤◌, ◌⊎◌, Bool, false, List, Option, Some, slice_get}
use Rattle.word86.specs.Action.{Silent}
use Rattle.word86.specs.Following.{Does}
use Rattle.i86_table.specs.Contexts.{Context, Own, Working, Given, offer}
use Rattle.icode.specs.declared.instruction.Instruction.TheVariants as op
use Rattle.icode.specs.declared.code.Routine.{Routine}
use Rattle.icode.specs.declared.code.Word.{Word}
use Rattle.icode.specs.Machine.{At}
use Rattle.select.specs.Promise.{Image, IsSelected, next_of, place_of}

-- from one context to another by at most `most` instructions, each of which makes no access and no other action
abbrev pub SilentlyComes : Image → (most : ℕ) → Context → Context → Type 0
SilentlyComes x zero c d = c ≡ d
SilentlyComes x (suc n) c d = (c ≡ d) ⊎ ((e : Context) × (offer x.code x.find x.words x.entry x.main x.handler c ≡ Does (Silent e)) × SilentlyComes x n e d)

-- BX and the flags may change, and no other register
pub record ChangesBx (g h : Working) : Type 0 where
  pub ax : h.ax ≡ g.ax
  pub cx : h.cx ≡ g.cx
  pub dx : h.dx ≡ g.dx
  pub bp : h.bp ≡ g.bp
  pub si : h.si ≡ g.si
  pub di : h.di ≡ g.di

-- From one index of a routine to another: by one silent step of the code, and by at most `most` silent instructions of main or of
-- an interrupt procedure, whatever is on its stack.
pub record LeadsSoon (x : Image) (most : ℕ) (r : Routine) (k target : ℕ) (g : Working) : Type 0 where
  pub code : (ws : List Word) → next_of x (At r k g.ax ws) ≡ Silent (At r target g.ax ws)
  pub registers : Working
  pub changes : ChangesBx g registers
  pub instructions : (st : List ℕ) (after_sti : Bool) (given : Option Given) → SilentlyComes x most (Own (place_of x r k) g st after_sti given) (Own (place_of x r target) registers st false given)

-- With the value of a DO CASE in AX, whatever the number of cases: five instructions lead to the first one of the case that the
-- value chooses, and at most three, where there is no such case, to what stands after the table.
abbrev pub CasesComeSoon : Type 0
CasesComeSoon =
    (x : Image) → IsSelected x
    → (r : Routine) (k n : ℕ) → slice_get (x.icode r) k ≡ Some (op.Switch n)
    → (g : Working) → g.ax < 65536
    → (g.ax < n → (d : ℕ) × (slice_get (x.icode r) (k + 1 + g.ax) ≡ Some (op.Case d)) × LeadsSoon x 5 r k (k + 1 + g.ax + 1 + d) g)
    × (n ≤ g.ax → LeadsSoon x 3 r k (k + 1 + n) g)

-- A context's registers and its words on the stack stay below 65,536, whatever it runs.
use Rattle.std.specs.Prelude.{ℕ, ◌≡◌, ◌<◌, Option, Some, List, [], ◌∷◌}
use Rattle.word86.specs.Access.{Access, answers}
use Rattle.word86.specs.Action.{Silent, Touch, Enable, Disable, Halt, Over, Bad}
use Rattle.word86.specs.Following.{Offer, Does, Arms}
use Rattle.i86_table.specs.declared.instruction.Instr.{Instr}
use Rattle.i86_table.specs.Contexts.{Context, Own, Working, top_of, offer}
use Rattle.i86_table.specs.Widths.{HasWidths}

pub record AreWords (g : Working) : Type 0 where
  pub ax : g.ax < 65536
  pub cx : g.cx < 65536
  pub dx : g.dx < 65536
  pub bx : g.bx < 65536
  pub bp : g.bp < 65536
  pub si : g.si < 65536
  pub di : g.di < 65536

abbrev pub AllWords : List ℕ → Type 0
AllWords [] = Unit {0}
AllWords (v ∷ stack) = (v < 65536) × AllWords stack

-- registers, words on the stack and the top of its part of the stack are words
abbrev pub HasWords : Context → Type 0
HasWords (Own place g stack after_sti given) = AreWords g × AllWords stack × (top_of given < 65536)

-- each context that the offer leads to has words, whatever an access answers
abbrev pub LeadsToWords : Offer Access Context → Type 0
LeadsToWords (Does (Silent c)) = HasWords c
LeadsToWords (Does (Touch a k)) = (v : ℕ) → v < answers a → HasWords (k v)
LeadsToWords (Does (Enable c)) = HasWords c
LeadsToWords (Does (Disable c)) = HasWords c
LeadsToWords (Does (Halt c)) = HasWords c
LeadsToWords (Does Over) = Unit {0}
LeadsToWords (Does (Bad module_index line)) = Unit {0}
LeadsToWords (Arms c) = HasWords c

-- where all instructions have their widths, what a context with words runs leads to contexts with words
abbrev pub KeepsWords : Type 0
KeepsWords =
    (code : ℕ → Option (Instr × ℕ)) (find : (offset n : ℕ) → Option (ℕ × ℕ)) (words : (offset : ℕ) → Option ℕ) (entry : (vector : ℕ) → ℕ) (main handler : ℕ)
    → ((place : ℕ) (d : Instr × ℕ) → code place ≡ Some d → HasWidths d.0)
    → (c : Context) → HasWords c → LeadsToWords (offer code find words entry main handler c)

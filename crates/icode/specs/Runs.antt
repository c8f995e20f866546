-- Where the code comes to, by whatever answers.
use Rattle.std.specs.Prelude.{◌≡◌, ℕ, zero, suc, ◌<◌}
use Rattle.word86.specs.Access.{Access, answers}
use Rattle.word86.specs.Action.{Action, Silent, Touch, Enable, Disable, Halt, Over, Bad}
use Rattle.icode.specs.Machine.{Context}

-- an action leads to a context; what is read is any answer
abbrev pub Leads : Action Access Context → Context → Type 0
Leads (Silent d) e = d ≡ e
Leads (Touch a k) e = (v : ℕ) × (v < answers a) × (k v ≡ e)
Leads (Enable d) e = d ≡ e
Leads (Disable d) e = d ≡ e
Leads (Halt d) e = d ≡ e
Leads Over e = ⊥
Leads (Bad module_index line) e = ⊥

module _ (next : Context → Action Access Context) (begin : Context) where
  -- the code comes to a context in this number of steps
  abbrev pub Comes : ℕ → Context → Type 0
  Comes zero d = begin ≡ d
  Comes (suc n) d = (c : Context) × Comes n c × Leads (next c) d

-- The code's own types as the machine's, and what its steps show.
use Rattle.std.specs.Prelude.{◌≡◌, ◌%◌, ℕ, List, reverse, Option, Some, None, Result, IfOk, IfErr}
use Rattle.word86.specs.Access.{Access, answers}
use Rattle.word86.specs.Action.{Action, Silent, Touch, Enable, Disable, Halt, Over, Bad}
use Rattle.word86.specs.Place.{access_of}
use Rattle.icode.specs.declared.code.Word.{Word}
use Rattle.icode.specs.declared.machine.Context as declared_context
use Rattle.icode.specs.declared.machine.Machine.{Machine}
use Rattle.icode.specs.declared.machine.Step.{Step}
use Rattle.icode.specs.declared.machine.Step.TheVariants as step
use Rattle.icode.specs.declared.machine.Stop.{Stop}
use Rattle.icode.specs.declared.machine.Stop.TheVariants as stop
use Rattle.icode.specs.Code.{code_of}
use Rattle.icode.specs.Machine.{Context, At, does}

-- the words from the newest on
abbrev pub words_of : declared_context.Context → List Word
words_of c = reverse c.words.items

abbrev pub shown : declared_context.Context → Context
shown c = At c.position.routine c.position.index c.accumulator (words_of c)

-- what the machine does next
abbrev pub action_of : Machine → Action Access Context
action_of m = does m.ram_objects.offsets.now m.ram_objects.sizes.now (code_of m.code.now) (shown m.context)

-- the access that an action makes
abbrev pub access_in : Action Access Context → Option Access
access_in (Silent c) = None
access_in (Touch a k) = Some a
access_in (Enable c) = None
access_in (Disable c) = None
access_in (Halt c) = None
access_in Over = None
access_in (Bad module_index line) = None

-- a step of this kind leads from an action to a context, where the access, if any, answered the low bits of this
abbrev pub Made : Action Access Context → Step → ℕ → Context → Type 0
Made (Silent c) step.Silent v d = d ≡ c
Made (Silent c) (step.Touch a) v d = ⊥
Made (Silent c) step.Enable v d = ⊥
Made (Silent c) step.Disable v d = ⊥
Made (Silent c) step.Halt v d = ⊥
Made (Touch b k) step.Silent v d = ⊥
Made (Touch b k) (step.Touch a) v d = (access_of a ≡ b) × (d ≡ k (v % answers b))
Made (Touch b k) step.Enable v d = ⊥
Made (Touch b k) step.Disable v d = ⊥
Made (Touch b k) step.Halt v d = ⊥
Made (Enable c) step.Silent v d = ⊥
Made (Enable c) (step.Touch a) v d = ⊥
Made (Enable c) step.Enable v d = d ≡ c
Made (Enable c) step.Disable v d = ⊥
Made (Enable c) step.Halt v d = ⊥
Made (Disable c) step.Silent v d = ⊥
Made (Disable c) (step.Touch a) v d = ⊥
Made (Disable c) step.Enable v d = ⊥
Made (Disable c) step.Disable v d = d ≡ c
Made (Disable c) step.Halt v d = ⊥
Made (Halt c) step.Silent v d = ⊥
Made (Halt c) (step.Touch a) v d = ⊥
Made (Halt c) step.Enable v d = ⊥
Made (Halt c) step.Disable v d = ⊥
Made (Halt c) step.Halt v d = d ≡ c
Made Over s v d = ⊥
Made (Bad module_index line) s v d = ⊥

abbrev pub IsStop : Stop → Action Access Context → Type 0
IsStop stop.Over (Silent c) = ⊥
IsStop stop.Over (Touch b k) = ⊥
IsStop stop.Over (Enable c) = ⊥
IsStop stop.Over (Disable c) = ⊥
IsStop stop.Over (Halt c) = ⊥
IsStop stop.Over Over = Unit {0}
IsStop stop.Over (Bad module_index line) = ⊥
IsStop stop.Bad (Silent c) = ⊥
IsStop stop.Bad (Touch b k) = ⊥
IsStop stop.Bad (Enable c) = ⊥
IsStop stop.Bad (Disable c) = ⊥
IsStop stop.Bad (Halt c) = ⊥
IsStop stop.Bad Over = ⊥
IsStop stop.Bad (Bad module_index line) = Unit {0}
IsStop stop.Memory a = Unit {0}

-- what a step from one context to another answers: the action is made, or the context is as it was
abbrev pub Does : Action Access Context → ℕ → (old new : declared_context.Context) → Result Step Stop → Type 0
Does a v old new r = IfOk r (λ s. Made a s v (shown new)) × IfErr r (λ e. IsStop e a × (shown new ≡ shown old))

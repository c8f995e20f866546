-- The steps of the code as actions on parts.
use Rattle.std.specs.Prelude.{◌≡◌, ℕ, ◌<◌, List, [], ◌∷◌, map, drop, Option, Some, None, slice_get}
use Rattle.word86.specs.Access.{Access, Read, Write, Input, Output, values}
use Rattle.word86.specs.Operation.{binary_value}
use Rattle.word86.specs.Place.{access_of}
use Rattle.word86.specs.Action.{Action, Silent, Touch, Enable, Disable, Halt, Over, Bad, map_action}
use Rattle.plm_type.specs.declared.program.Loop.{Loop}
use Rattle.plm_type.specs.declared.program.Target as declared_target
use Rattle.plm_type.specs.Places.{anchored}
use Rattle.plm_type.specs.Rest.{There, Value, Refer, NoSubscripts, Assign, Statements, End, Then, Returned, Procedure}
use Rattle.plm_type.specs.Next.{address_at, parameters_of, body_of, returned, next_expression, next_passing, next_statements}
use Rattle.plm_type.specs.View.{scalar_of, target_of, targets_of, loop_of}
use Rattle.plm_type.specs.Programs.{procedures_of}
use Rattle.plm_decl.specs.Placement as placed
use Rattle.plm_meaning.specs.declared.access.Origin.{Origin}
use Rattle.plm_meaning.specs.declared.context.Destination.{Destination}
use Rattle.plm_meaning.specs.declared.context.Destination.TheVariants as destination
use Rattle.plm_meaning.specs.declared.context.Focus.{Focus}
use Rattle.plm_meaning.specs.declared.context.Focus.TheVariants as focus
use Rattle.plm_meaning.specs.declared.context.Frame.{Frame}
use Rattle.plm_meaning.specs.declared.context.Context.{Context}
use Rattle.plm_meaning.specs.declared.context.Phase.{Phase}
use Rattle.plm_meaning.specs.declared.context.Purpose.{Purpose}
use Rattle.plm_meaning.specs.declared.context.Purpose.TheVariants as purpose
use Rattle.plm_meaning.specs.declared.context.Redex.{Redex}
use Rattle.plm_meaning.specs.declared.context.Redex.TheVariants as redex
use Rattle.plm_meaning.specs.declared.redex.Action as declared_action
use Rattle.plm_meaning.specs.declared.redex.Action.TheVariants as action
use Rattle.plm_meaning.specs.declared.around.Surroundings.{Surroundings}
use Rattle.plm_meaning.specs.declared.access.PlacedObjects.{PlacedObjects}
use Rattle.plm_meaning.specs.Around.{names_of}
use Rattle.plm_meaning.specs.Context.{Part, Expr, ToRun, origin_of, phase_of, purposed, redex_part, to_run_in}

-- where the program's objects lie, how many bytes they have, and what its procedures do
abbrev pub offsets_of : Surroundings → List ℕ
offsets_of s = s.placement.now.offsets.items

abbrev pub sizes_of : Surroundings → List ℕ
sizes_of s = placed.sizes_of (names_of s)

abbrev pub procedures_in : Surroundings → List Procedure
procedures_in s = procedures_of (names_of s)

abbrev pub sizes_in : PlacedObjects → List ℕ
sizes_in l = map (λ o. o.size) l.objects.now

-- a part's next action
abbrev pub next_part : Surroundings → Part → Action Access Part
next_part s (Expr e) = map_action Expr (next_expression (offsets_of s) (sizes_of s) (procedures_in s) e)
next_part s (ToRun ss) = map_action ToRun (next_statements (offsets_of s) (sizes_of s) (procedures_in s) ss)

-- what comes once a value is stored
abbrev pub targets_left : ℕ → List declared_target.Target → Part
targets_left v [] = ToRun End
targets_left v (t ∷ ts) = ToRun (Then (Assign (targets_of (target_of t) ts) (Value v)) End)

-- the value that is stored
abbrev pub value_in : Destination → ℕ
value_in (destination.Assigned v ts) = v
value_in (destination.Embedded v) = v

abbrev pub stored : Destination → Part
stored (destination.Assigned v ts) = targets_left v ts.now
stored (destination.Embedded v) = Expr (Value v)

-- what a step leaves, once its access has this answer
abbrev pub left_of : Action Access Part → ℕ → Part
left_of (Silent p) = λ v. p
left_of (Touch a k) = k
left_of (Enable p) = λ v. p
left_of (Disable p) = λ v. p
left_of (Halt p) = λ v. p
left_of Over = λ v. ToRun End
left_of (Bad module_index line) = λ v. ToRun End

-- of a silent step to a value
abbrev pub value_left : Option ℕ → Part
value_left (Some x) = Expr (Value x)
value_left None = ToRun End

-- of a reference, wherever its bytes lie
abbrev pub referred : Surroundings → Purpose → Origin → ℕ → ℕ → Part
referred s (purpose.Read width) o offset = λ v. Expr (Value v)
referred s purpose.Locate o offset = λ v. value_left (address_at (anchored (offsets_of s) (sizes_of s) (origin_of o)) offset)
referred s (purpose.Store width d) o offset = λ v. stored d

abbrev pub loop_left : Surroundings → Phase → Loop → ℕ → Part
loop_left s p l = left_of (next_part s (ToRun (Then (phase_of p (loop_of l)) End)))

abbrev pub redex_left : Surroundings → Redex → ℕ → Part
redex_left s (redex.Base x l base offset) = λ v. purposed x (Refer l.module l.line (There v) offset NoSubscripts)
redex_left s (redex.Refer x l o offset) = referred s x o offset
redex_left s (redex.Binary l o width x y) = λ v. value_left (binary_value o width x y)
redex_left s (redex.Store width x d) = λ v. stored d
redex_left s (redex.Output width port d) = λ v. stored d
redex_left s (redex.Loop p l) = loop_left s p l.now
redex_left s r = left_of (next_part s (redex_part r))

abbrev pub call_left : Surroundings → Focus → ℕ → Part
call_left s (focus.Call n vs) =
    let p = slice_get (procedures_in s) n in
    left_of (map_action Expr (next_passing n (parameters_of p) vs.items (body_of p)))
call_left s (focus.Passing n xs vs k) = left_of (map_action Expr (next_passing n (map scalar_of xs.now) (drop k vs.items) (body_of (slice_get (procedures_in s) n))))
call_left s f = λ v. ToRun End

abbrev pub left : Surroundings → Focus → ℕ → Part
left s (focus.Ready r) = redex_left s r
left s f = call_left s f

-- the code's action, with what it leaves
abbrev pub acting : declared_action.Action → (ℕ → Part) → Action Access Part
acting action.Silent k = Silent (k 0)
acting (action.Touch a) k = Touch (access_of a) k
acting action.Enable k = Enable (ToRun End)
acting action.Disable k = Disable (ToRun End)
acting action.Halt k = Halt (ToRun End)
acting action.Ended k = Over
acting action.Returned k = Over
acting (action.Bad l) k = Bad l.module l.line

-- what the context does next by this action of its part
abbrev pub context_action : Surroundings → Context → declared_action.Action → Action Access Statements
context_action s c a = map_action (to_run_in c.frames.items) (acting a (left s c.focus))

-- whether this says in which way what is to do is used up
abbrev pub SaysEnd : declared_action.Action → Statements → Type 0
SaysEnd action.Ended ss = ss ≡ End
SaysEnd action.Returned ss = (v : ℕ) × (ss ≡ Returned v)
SaysEnd _ ss = returned ss ≡ None

-- where it says that it is at its end, nothing stands around
abbrev pub HasHalted : declared_action.Action → List Frame → Type 0
HasHalted action.Ended fs = fs ≡ []
HasHalted _ fs = Unit {0}

-- a value that is written has the access's width
abbrev pub Fits : Access → Type 0
Fits (Read width x) = Unit {0}
Fits (Write width x v) = v < values width
Fits (Input width port) = Unit {0}
Fits (Output width port v) = v < values width

abbrev pub FitsIn : declared_action.Action → Type 0
FitsIn (action.Touch a) = Fits (access_of a)
FitsIn _ = Unit {0}

-- it is a step, or a Bad one, and what it writes has its width
abbrev pub IsStep : declared_action.Action → Type 0
IsStep action.Ended = ⊥
IsStep action.Returned = ⊥
IsStep (action.Touch a) = Fits (access_of a)
IsStep _ = Unit {0}

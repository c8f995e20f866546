-- The step of a part is the step of what is to do.
use Rattle.std.proofs.Common.{◌≡◌, ◌≢◌, ℕ, zero, suc, List, [], ◌∷◌, Option, Some, None, refl, ap, sym, subst, ◌∙◌}
use Rattle.word86.specs.Access.{Access}
use Rattle.word86.specs.Action.{Action, map_action}
use Rattle.word86.specs.Access.{Where, Read}
use Rattle.word86.specs.declared.width.Width.{Width}
use Rattle.word86.specs.declared.width.Width.TheVariants as widths
use Rattle.word86.specs.Action.{Silent, Touch, Bad}
use Rattle.plm_type.specs.declared.program.Target as declared_target
use Rattle.plm_type.specs.Rest as rest
use Rattle.plm_type.specs.Rest.{Statements, Anchor, Behind, There, Refer, NoSubscripts, Only, Also, Then, End, Value, Procedure}
use Rattle.plm_type.specs.Places.{anchored, placed}
use Rattle.plm_type.specs.View.{target_of, targets_of}
use Rattle.plm_type.specs.Next as next
use Rattle.plm_type.specs.Next.{value_of, returned, next_statements, next_target, next_reference, address_at, read_at, written_at, next_variable, next_location, next_written, assigned, embedded_after}
use Rattle.plm_meaning.specs.declared.redex.Action as declared_action
use Rattle.plm_meaning.specs.declared.redex.Action.TheVariants as action
use Rattle.plm_meaning.specs.declared.context.Focus.{Focus}
use Rattle.plm_meaning.specs.declared.context.Focus.TheVariants as focus
use Rattle.plm_meaning.specs.declared.context.Destination.{Destination}
use Rattle.plm_meaning.specs.declared.context.Destination.TheVariants as destination
use Rattle.plm_meaning.specs.declared.context.Purpose.TheVariants as purpose
use Rattle.plm_meaning.specs.declared.context.Purpose.{Purpose}
use Rattle.plm_meaning.specs.declared.context.Redex.{Redex}
use Rattle.plm_meaning.specs.declared.context.Redex.TheVariants as redex
use Rattle.plm_meaning.specs.declared.context.Frame.{Frame}
use Rattle.plm_meaning.specs.declared.around.Surroundings.{Surroundings}
use Rattle.std.specs.List.{slice_get}
use Rattle.plm_meaning.specs.Context.{Part, Expr, ToRun, given, part_of, redex_part, aimed, purposed, to_run_in}
use Rattle.plm_meaning.specs.Inner.Redex.{offsets_of, sizes_of, procedures_in, next_part, stored, targets_left, value_in, left_of, value_left, redex_left, call_left, left, acting, IsStep, FitsIn, SaysEnd}
use Rattle.plm_meaning.proofs.Actions.{map_twice}
use Rattle.plm_meaning.proofs.Plug as plug
use Rattle.plm_meaning.proofs.Plug.{Active}

aimed_active : (d : Destination) (t : _) → Active (aimed d t)
aimed_active (destination.Assigned v ts) t = refl
aimed_active (destination.Embedded v) t = refl

purposed_active : (x : Purpose) (r : _) → Active (purposed x r)
purposed_active (purpose.Read width) r = refl
purposed_active purpose.Locate r = refl
purposed_active (purpose.Store width d) r = aimed_active d _

-- what is rewritten next has a step by itself
pub redex_active : (r : Redex) → Active (redex_part r)
redex_active (redex.Constant k) = refl
redex_active (redex.Plain width x) = refl
redex_active (redex.Base x l base offset) = purposed_active x _
redex_active (redex.Refer x l o offset) = purposed_active x _
redex_active (redex.Unary o width v) = refl
redex_active (redex.Binary l o width x y) = refl
redex_active (redex.Store width x d) = aimed_active d _
redex_active (redex.Input width port) = refl
redex_active (redex.Output width port d) = aimed_active d _
redex_active redex.Ended = refl
redex_active (redex.Given v) = refl
redex_active redex.Empty = refl
redex_active redex.Return = refl
redex_active (redex.ReturnValue width v) = refl
redex_active redex.Enable = refl
redex_active redex.Disable = refl
redex_active redex.Halt = refl
redex_active (redex.If v ss ts) = refl
redex_active (redex.Block ss) = refl
redex_active redex.Leaving = refl
redex_active (redex.While v c ss) = refl
redex_active (redex.Case v ss) = refl
redex_active (redex.Loop p l) = refl

same : (s : Surroundings) (p : Part) → next_part s p ≡ plug.next_part (offsets_of s) (sizes_of s) (procedures_in s) p
same s (Expr e) = refl
same s (ToRun ss) = refl

pub whole_step : (s : Surroundings) (fs : List Frame) (p : Part) (a : Action Access Part) → Active p → a ≡ next_part s p
    → map_action (to_run_in fs) a ≡ next_statements (offsets_of s) (sizes_of s) (procedures_in s) (to_run_in fs p)
whole_step s fs p a h e = ap (map_action (to_run_in fs)) (e ∙ same s p) ∙ sym (plug.to_run_step (offsets_of s) (sizes_of s) (procedures_in s) fs p h)

-- the action of a part that is rewritten next, where it is known which
pub rewritten : (s : Surroundings) (x : declared_action.Action) (r q : Redex) → r ≡ q → acting x (redex_left s q) ≡ next_part s (redex_part q) → acting x (redex_left s r) ≡ next_part s (redex_part r)
rewritten s x r q e h = subst (λ y. acting x (redex_left s y) ≡ next_part s (redex_part y)) (sym e) h

-- what is left of a call, and of what is at its end
pub not_ready : (s : Surroundings) (f : Focus) (v : ℕ) → ((r : Redex) → f ≢ focus.Ready r) → left s f v ≡ call_left s f v
not_ready s (focus.Ready r) v h = absurd (h r refl)
not_ready s (focus.Expression e) v h = refl
not_ready s (focus.Value x) v h = refl
not_ready s (focus.Statements ss) v h = refl
not_ready s (focus.Statement t) v h = refl
not_ready s (focus.Returned x) v h = refl
not_ready s (focus.Within l ss) v h = refl
not_ready s (focus.Entering ss) v h = refl
not_ready s (focus.Bound i l) v h = refl
not_ready s (focus.Aim t d) v h = refl
not_ready s (focus.Call n vs) v h = refl
not_ready s (focus.Passing n xs vs k) v h = refl

-- a DO CASE with its number has a silent step
pub case_left : (v : ℕ) (cases : Statements) (a : Action Access rest.Expression)
    → Silent (left_of (map_action ToRun (next.next_case (Some v) cases End a)) 0) ≡ map_action ToRun (next.next_case (Some v) cases End a)
case_left v End a = refl
case_left v (rest.Returned x) a = refl
case_left zero (Then s cases) a = refl
case_left (suc v) (Then s cases) a = refl

-- ---- references and targets

module _ (s : Surroundings) where
  abbrev at : Anchor → ℕ → Option ℕ
  at a offset = address_at (anchored (offsets_of s) (sizes_of s) a) offset

  abbrev seat : Width → Anchor → ℕ → Option Where
  seat width a address = placed (offsets_of s) (sizes_of s) width a address

  pub base_step : (x : Purpose) (module_index line : ℕ) (base : Where) (offset : ℕ)
      → Touch (Read widths.Word base) (λ v. purposed x (Refer module_index line (There v) offset NoSubscripts)) ≡ next_part s (purposed x (Refer module_index line (Behind base) offset NoSubscripts))
  base_step (purpose.Read width) module_index line base offset = refl
  base_step purpose.Locate module_index line base offset = refl
  base_step (purpose.Store width d) module_index line base offset =
      let r = Refer module_index line (Behind base) offset NoSubscripts in
      sym (same s (aimed d (rest.ToVariable width r))
      ∙ plug.aimed_step (offsets_of s) (sizes_of s) (procedures_in s) d (rest.ToVariable width r) (rest.ToVariable width) (next_reference (offsets_of s) (sizes_of s) (procedures_in s) r) (λ v. refl))

  -- a location is a silent step to its address
  pub located_step : (module_index line : ℕ) (a : Anchor) (offset address : ℕ) → Some address ≡ at a offset
      → Silent (value_left (at a offset)) ≡ next_part s (Expr (rest.Location (Refer module_index line a offset NoSubscripts)))
  located_step module_index line a offset address e =
      let r = Refer module_index line a offset NoSubscripts in
      subst (λ o. Silent (value_left o) ≡ map_action Expr (next_location (offsets_of s) (sizes_of s) (procedures_in s) o (next_reference (offsets_of s) (sizes_of s) (procedures_in s) r))) e refl

  pub read_step : (width : Width) (module_index line : ℕ) (a : Anchor) (offset address : ℕ) (p : Option Where) → Some address ≡ at a offset → p ≡ seat width a address
      → map_action Expr (read_at width (Refer module_index line a offset NoSubscripts) p) ≡ next_part s (Expr (rest.Variable width (Refer module_index line a offset NoSubscripts)))
  read_step width module_index line a offset address p e h =
      let r = Refer module_index line a offset NoSubscripts in
      ap (λ q. map_action Expr (read_at width r q)) h
      ∙ ap (λ o. map_action Expr (next_variable (offsets_of s) (sizes_of s) (procedures_in s) width r o (next_reference (offsets_of s) (sizes_of s) (procedures_in s) r))) e

  assigned_to : (ts : List declared_target.Target) (v : ℕ) (t : rest.Target) (b : Action Access (Option rest.Target)) → next_target (offsets_of s) (sizes_of s) (procedures_in s) t v ≡ b
      → next_part s (ToRun (Then (rest.Assign (targets_of t ts) (Value v)) End)) ≡ map_action (λ o. ToRun (assigned (targets_of t ts) v End o)) b
  assigned_to [] v t b h = ap (λ x. map_action ToRun (map_action (assigned (Only t) v End) x)) h ∙ map_twice _ _ b
  assigned_to (u ∷ us) v t b h = ap (λ x. map_action ToRun (map_action (assigned (Also t (targets_of (target_of u) us)) v End) x)) h ∙ map_twice _ _ b

  left_over : (ts : List declared_target.Target) (v : ℕ) (t : rest.Target) → ToRun (assigned (targets_of t ts) v End None) ≡ targets_left v ts
  left_over [] v t = refl
  left_over (u ∷ us) v t = refl

  -- a target that gets its value by one access
  pub stored_step : (d : Destination) (t : rest.Target) (a : Access) → next_target (offsets_of s) (sizes_of s) (procedures_in s) t (value_in d) ≡ Touch a (λ _. None)
      → Touch a (λ _. stored d) ≡ next_part s (aimed d t)
  stored_step (destination.Embedded v) t a h = sym (ap (λ x. map_action Expr (map_action (embedded_after v) x)) h)
  stored_step (destination.Assigned v ts) t a h = sym (assigned_to ts.now v t _ h ∙ ap (λ q. Touch a (λ _. q)) (left_over ts.now v t))

  -- a target whose store is a Bad step
  pub bad_step : (d : Destination) (t : rest.Target) (module_index line : ℕ) → next_target (offsets_of s) (sizes_of s) (procedures_in s) t (value_in d) ≡ Bad module_index line
      → Bad module_index line ≡ next_part s (aimed d t)
  bad_step (destination.Embedded v) t module_index line h = sym (ap (λ x. map_action Expr (map_action (embedded_after v) x)) h)
  bad_step (destination.Assigned v ts) t module_index line h = sym (assigned_to ts.now v t _ h)

  pub written : (width : Width) (module_index line : ℕ) (a : Anchor) (offset address v : ℕ) (p : Option Where) → Some address ≡ at a offset → p ≡ seat width a address
      → next_target (offsets_of s) (sizes_of s) (procedures_in s) (rest.ToVariable width (Refer module_index line a offset NoSubscripts)) v ≡ written_at width (Refer module_index line a offset NoSubscripts) p v
  written width module_index line a offset address v p e h =
      let r = Refer module_index line a offset NoSubscripts in
      ap (λ o. next_written (offsets_of s) (sizes_of s) (procedures_in s) width r o v (next_reference (offsets_of s) (sizes_of s) (procedures_in s) r)) (sym e)
      ∙ ap (λ q. written_at width r q v) (sym h)

pub says_end : (a : declared_action.Action) (ss : Statements) → IsStep a → returned ss ≡ None → SaysEnd a ss
says_end action.Ended ss i h = absurd i
says_end action.Returned ss i h = absurd i
says_end action.Silent ss i h = h
says_end (action.Touch a) ss i h = h
says_end action.Enable ss i h = h
says_end action.Disable ss i h = h
says_end action.Halt ss i h = h
says_end (action.Bad l) ss i h = h

pub fits_in : (a : declared_action.Action) → IsStep a → FitsIn a
fits_in action.Ended i = tt
fits_in action.Returned i = tt
fits_in action.Silent i = tt
fits_in (action.Touch a) i = i
fits_in action.Enable i = tt
fits_in action.Disable i = tt
fits_in action.Halt i = tt
fits_in (action.Bad l) i = tt

-- ---- calls

given_values : (vs : List ℕ) → next.values_of (given vs rest.NoMore) ≡ Some vs
given_values [] = refl
given_values (v ∷ vs) = ap (next.and_value (Some v)) (given_values vs)

pub call_step : (s : Surroundings) (n : ℕ) (vs : List ℕ)
    → map_action Expr (next.next_passing n (next.parameters_of (slice_get (procedures_in s) n)) vs (next.body_of (slice_get (procedures_in s) n))) ≡ next_part s (Expr (rest.Call n (given vs rest.NoMore)))
call_step s n vs =
    ap (λ o. map_action Expr (next.next_call n o (slice_get (procedures_in s) n) (next.next_expressions (offsets_of s) (sizes_of s) (procedures_in s) (given vs rest.NoMore)))) (sym (given_values vs))

-- the step of a focus, by the step of its part
pub focus_step : (s : Surroundings) (fs : List Frame) (g : Focus) (p : Part) (a : Action Access Part) → part_of g ≡ p → Active p → a ≡ next_part s p
    → map_action (to_run_in fs) a ≡ next_statements (offsets_of s) (sizes_of s) (procedures_in s) (to_run_in fs (part_of g))
focus_step s fs g p a e h n = whole_step s fs p a h n ∙ ap (λ q. next_statements (offsets_of s) (sizes_of s) (procedures_in s) (to_run_in fs q)) (sym e)

pub focus_goes : (s : Surroundings) (fs : List Frame) (g : Focus) (p : Part) → part_of g ≡ p → Active p → returned (to_run_in fs (part_of g)) ≡ None
focus_goes s fs g p e h = ap (λ q. returned (to_run_in fs q)) e ∙ plug.to_run_active (offsets_of s) (sizes_of s) (procedures_in s) fs p h

-- A step of a part is a step of what is to do with it.
use Rattle.std.proofs.Common.{◌≡◌, ℕ, zero, suc, Bool, true, false, if◌then◌else◌, List, [], ◌∷◌, ◌++◌, Option, Some, None, refl, ap, sym, ◌∙◌}
use Rattle.std.specs.List.{slice_get}
use Rattle.word86.specs.declared.width.Width.{Width}
use Rattle.word86.specs.Access.{Access}
use Rattle.word86.specs.Action.{Action, Silent, map_action}
use Rattle.plm_type.specs.declared.program.Operation.{Operation}
use Rattle.plm_type.specs.declared.program.Target.{Target}
use Rattle.plm_type.specs.Rest as rest
use Rattle.plm_type.specs.Rest.{Expression, Value, Running, Expressions, NoMore, More, Reference, Refer, Subscripts, Subscript, Only, Also, Loop, Statement, Statements, End, Then, Returned, Procedure}
use Rattle.plm_type.specs.Next as next
use Rattle.plm_type.specs.Next.{value_of, values_of, and_value, behind, returned, evaluated, indexed, next_expression, next_expressions, next_reference, next_target, next_first, next_statement, next_statements, next_if, next_while, next_case, next_iterate, next_comparing, next_stepping, next_ending, next_return, next_assign, assigned}
use Rattle.plm_type.specs.View.{expression_of, expressions_of, subscripts_of, chained, target_of, targets_of, statements_of, loop_of, anchor_of}
use Rattle.plm_meaning.specs.declared.context.Destination.{Destination}
use Rattle.plm_meaning.specs.declared.context.Destination.TheVariants as destination
use Rattle.plm_meaning.specs.declared.context.Purpose.{Purpose}
use Rattle.plm_meaning.specs.declared.context.Purpose.TheVariants as purpose
use Rattle.plm_meaning.specs.declared.context.Hole.{Hole}
use Rattle.plm_meaning.specs.declared.context.Hole.TheVariants as hole
use Rattle.plm_meaning.specs.declared.context.Frame.{Frame}
use Rattle.plm_meaning.specs.declared.context.Frame.TheVariants as frame
use Rattle.plm_meaning.specs.Context.{Part, Expr, ToRun, expression_in, statements_in, aimed, purposed, later_of, given, in_hole, around, plug, to_run_in}
use Rattle.plm_meaning.proofs.Actions.{map_twice, map_same, map_alike}

pub behind_assoc : (a b c : Statements) → behind (behind a b) c ≡ behind a (behind b c)
behind_assoc End b c = refl
behind_assoc (Then s more) b c = ap (Then s) (behind_assoc more b c)
behind_assoc (Returned v) b c = refl

pub behind_end : (a : Statements) → behind a End ≡ a
behind_end End = refl
behind_end (Then s more) = ap (Then s) (behind_end more)
behind_end (Returned v) = refl

-- a part that has a step by itself
abbrev pub Active : Part → Type 0
Active (Expr e) = value_of e ≡ None
Active (ToRun ss) = returned ss ≡ None

module _ (offsets sizes : List ℕ) (procedures : List Procedure) where
  abbrev pub next_part : Part → Action Access Part
  next_part (Expr e) = map_action Expr (next_expression offsets sizes procedures e)
  next_part (ToRun ss) = map_action ToRun (next_statements offsets sizes procedures ss)

  abbrev E : Expression → Action Access Expression
  E = next_expression offsets sizes procedures

  abbrev S : Statements → Action Access Statements
  S = next_statements offsets sizes procedures

  -- ---- statements before others

  if_before : (o : Option ℕ) (arm other more later : Statements) (a : Action Access Expression)
      → next_if o arm other (behind more later) a ≡ map_action (λ q. behind q later) (next_if o arm other more a)
  if_before None arm other more later a = sym (map_twice _ _ a)
  if_before (Some v) arm other more later a = ap Silent (sym (behind_assoc _ more later))

  repeats : (p : Bool) (c : Expression) (body more later : Statements)
      → (if p then behind body (Then (rest.While c c body) (behind more later)) else behind more later) ≡ behind (if p then behind body (Then (rest.While c c body) more) else more) later
  repeats true c body more later = sym (behind_assoc body (Then (rest.While c c body) more) later)
  repeats false c body more later = refl

  while_before : (o : Option ℕ) (c : Expression) (body more later : Statements) (a : Action Access Expression)
      → next_while o c body (behind more later) a ≡ map_action (λ q. behind q later) (next_while o c body more a)
  while_before None c body more later a = sym (map_twice _ _ a)
  while_before (Some v) c body more later a = ap Silent (repeats (next.is_odd v) c body more later)

  case_before : (o : Option ℕ) (cases more later : Statements) (a : Action Access Expression)
      → next_case o cases (behind more later) a ≡ map_action (λ q. behind q later) (next_case o cases more a)
  case_before None cases more later a = sym (map_twice _ _ a)
  case_before (Some v) End more later a = refl
  case_before (Some v) (Returned x) more later a = refl
  case_before (Some zero) (Then s cases) more later a = refl
  case_before (Some (suc v)) (Then s cases) more later a = refl

  goes_on : (p : Bool) (body s more later : Statements)
      → (if p then behind more later else behind body (behind s (behind more later))) ≡ behind (if p then more else behind body (behind s more)) later
  goes_on true body s more later = refl
  goes_on false body s more later = ap (behind body) (sym (behind_assoc s more later)) ∙ sym (behind_assoc body (behind s more) later)

  comparing_before : (i : ℕ) (o : Option ℕ) (l : Loop) (more later : Statements) (a : Action Access Expression)
      → next_comparing i o l (behind more later) a ≡ map_action (λ q. behind q later) (next_comparing i o l more a)
  comparing_before i None l more later a = sym (map_twice _ _ a)
  comparing_before i (Some b) l more later a = ap Silent (goes_on _ (next.rounds_of l) (Then (rest.Stepping (next.step_of l) l) End) more later)

  iterate_before : (o : Option ℕ) (l : Loop) (more later : Statements) (a : Action Access Expression)
      → next_iterate o l (behind more later) a ≡ map_action (λ q. behind q later) (next_iterate o l more a)
  iterate_before None l more later a = sym (map_twice _ _ a)
  iterate_before (Some v) l more later a = refl

  stepping_before : (o : Option ℕ) (l : Loop) (more later : Statements) (a : Action Access Expression)
      → next_stepping o l (behind more later) a ≡ map_action (λ q. behind q later) (next_stepping o l more a)
  stepping_before None l more later a = sym (map_twice _ _ a)
  stepping_before (Some v) l more later a = refl

  ends : (p : Bool) (l : Loop) (more later : Statements) → (if p then behind more later else Then (rest.Round l) (behind more later)) ≡ behind (if p then more else Then (rest.Round l) more) later
  ends true l more later = refl
  ends false l more later = refl

  return_before : (width : Width) (o : Option ℕ) (more later : Statements) (a : Action Access Expression)
      → next_return width o (behind more later) a ≡ map_action (λ q. behind q later) (next_return width o more a)
  return_before width None more later a = sym (map_twice _ _ a)
  return_before width (Some v) more later a = refl

  assigned_before : (ts : rest.Targets) (v : ℕ) (more later : Statements) (o : Option rest.Target) → assigned ts v (behind more later) o ≡ behind (assigned ts v more o) later
  assigned_before (Only t) v more later None = refl
  assigned_before (Also t ts) v more later None = refl
  assigned_before (Only t) v more later (Some r) = refl
  assigned_before (Also t ts) v more later (Some r) = refl

  assign_before : (ts : rest.Targets) (o : Option ℕ) (more later : Statements) (t : ℕ → Action Access (Option rest.Target)) (a : Action Access Expression)
      → next_assign ts o (behind more later) t a ≡ map_action (λ q. behind q later) (next_assign ts o more t a)
  assign_before ts None more later t a = sym (map_twice _ _ a)
  assign_before ts (Some v) more later t a = map_alike _ _ (assigned_before ts v more later) (t v) ∙ sym (map_twice _ _ (t v))

  evaluated_before : (o : Option ℕ) (r : Expression) (more later : Statements) → evaluated o r (behind more later) ≡ behind (evaluated o r more) later
  evaluated_before None r more later = refl
  evaluated_before (Some v) r more later = refl

  statement_before : (s : Statement) (more later : Statements)
      → next_statement offsets sizes procedures s (behind more later) ≡ map_action (λ q. behind q later) (next_statement offsets sizes procedures s more)
  statement_before rest.Empty more later = refl
  statement_before (rest.Assign ts e) more later = assign_before ts (value_of e) more later (next_first offsets sizes procedures ts) (E e)
  statement_before (rest.Evaluate e) more later = map_alike _ _ (λ r. evaluated_before (value_of r) r more later) (E e) ∙ sym (map_twice _ _ (E e))
  statement_before rest.Return more later = refl
  statement_before (rest.ReturnValue width e) more later = return_before width (value_of e) more later (E e)
  statement_before rest.Enabling more later = refl
  statement_before rest.Disabling more later = refl
  statement_before rest.Halting more later = refl
  statement_before (rest.If c arm other) more later = if_before (value_of c) arm other more later (E c)
  statement_before (rest.Block ss) more later = ap Silent (sym (behind_assoc ss (Then rest.Leaving more) later))
  statement_before (rest.While r c ss) more later = while_before (value_of r) c ss more later (E r)
  statement_before (rest.Case e ss) more later = case_before (value_of e) ss more later (E e)
  statement_before (rest.Iterate a l) more later = iterate_before (value_of a) l more later (E a)
  statement_before rest.Leaving more later = refl
  statement_before (rest.Round l) more later = refl
  statement_before (rest.Comparing i r l) more later = comparing_before i (value_of r) l more later (E r)
  statement_before (rest.Stepping r l) more later = stepping_before (value_of r) l more later (E r)
  statement_before (rest.Adding i s l) more later = refl
  statement_before (rest.Storing sum leaves l) more later = refl
  statement_before (rest.Ending leaves l) more later = ap Silent (ends leaves l more later)

  -- statements that have a step have the same before others
  pub behind_step : (ss later : Statements) → returned ss ≡ None → S (behind ss later) ≡ map_action (λ q. behind q later) (S ss)
  behind_step End later h = cc
  behind_step (Returned v) later h = cc
  behind_step (Then s more) later h = statement_before s more later

  -- ---- parts in expressions and among statements

  no_value : (p : Part) → Active p → value_of (expression_in p) ≡ None
  no_value (Expr e) h = h
  no_value (ToRun ss) h = refl

  running_step : (o : Option ℕ) (a : Action Access Statements) → o ≡ None → next.next_running o a ≡ map_action Running a
  running_step None a h = refl
  running_step (Some v) a h = cc

  expression_step : (p : Part) → Active p → E (expression_in p) ≡ map_action expression_in (next_part p)
  expression_step (Expr e) h = map_same (E e) ∙ sym (map_twice expression_in Expr (E e))
  expression_step (ToRun ss) h = running_step (returned ss) (S ss) h ∙ sym (map_twice expression_in ToRun (S ss))

  evaluate_step : (o : Option ℕ) (e : Expression) (later : Statements) → o ≡ None → S (behind (evaluated o e End) later) ≡ map_action (λ r. behind (evaluated (value_of r) r End) later) (E e)
  evaluate_step None e later h = map_alike _ _ (λ r. evaluated_before (value_of r) r End later) (E e)
  evaluate_step (Some v) e later h = cc

  statements_step : (p : Part) (later : Statements) → Active p → S (behind (statements_in p) later) ≡ map_action (λ q. behind (statements_in q) later) (next_part p)
  statements_step (Expr e) later h = evaluate_step (value_of e) e later h ∙ sym (map_twice _ Expr (E e))
  statements_step (ToRun ss) later h = behind_step ss later h ∙ sym (map_twice _ ToRun (S ss))

  -- what stands around an expression, and around a part
  in_expression : (F : Expression → Expression) → ((e : Expression) → value_of e ≡ None → E (F e) ≡ map_action F (E e))
      → (p : Part) → Active p → next_part (Expr (F (expression_in p))) ≡ map_action (λ q. Expr (F (expression_in q))) (next_part p)
  in_expression F law p h =
      ap (map_action Expr) (law (expression_in p) (no_value p h) ∙ ap (map_action F) (expression_step p h) ∙ map_twice F expression_in (next_part p)) ∙ map_twice Expr _ (next_part p)

  in_statements : (F : Expression → Statements) → ((e : Expression) → value_of e ≡ None → S (F e) ≡ map_action F (E e))
      → (p : Part) → Active p → next_part (ToRun (F (expression_in p))) ≡ map_action (λ q. ToRun (F (expression_in q))) (next_part p)
  in_statements F law p h =
      ap (map_action ToRun) (law (expression_in p) (no_value p h) ∙ ap (map_action F) (expression_step p h) ∙ map_twice F expression_in (next_part p)) ∙ map_twice ToRun _ (next_part p)

  in_part : (F : Expression → Part) → ((e : Expression) → value_of e ≡ None → next_part (F e) ≡ map_action F (E e))
      → (p : Part) → Active p → next_part (F (expression_in p)) ≡ map_action (λ q. F (expression_in q)) (next_part p)
  in_part F law p h = law (expression_in p) (no_value p h) ∙ ap (map_action F) (expression_step p h) ∙ map_twice F expression_in (next_part p)

  -- ---- the holes

  abbrev in_chain : Operation → Expression → Expression → Expression
  in_chain o a b = rest.Binary o.line.module o.line.line o.operation o.width a b

  chain_step : (os : List Operation) (e : Expression) → value_of e ≡ None → E (chained e os) ≡ map_action (λ r. chained r os) (E e)
  chain_step [] e h = map_same (E e)
  chain_step (o ∷ os) e h =
      chain_step os (in_chain o e (expression_of o.operand)) refl
      ∙ ap (map_action (λ r. chained r os)) (ap (λ n. next.next_binary o.line.module o.line.line o.operation o.width n (value_of (expression_of o.operand)) e (expression_of o.operand) (E e) (E (expression_of o.operand))) h)
      ∙ map_twice _ _ (E e)

  left_step : (o : Operation) (os : List Operation) (b e : Expression) → value_of e ≡ None → E (chained (in_chain o e b) os) ≡ map_action (λ r. chained (in_chain o r b) os) (E e)
  left_step o os b e h =
      chain_step os (in_chain o e b) refl
      ∙ ap (map_action (λ r. chained r os)) (ap (λ n. next.next_binary o.line.module o.line.line o.operation o.width n (value_of b) e b (E e) (E b)) h)
      ∙ map_twice _ _ (E e)

  right_step : (o : Operation) (os : List Operation) (x : ℕ) (e : Expression) → value_of e ≡ None → E (chained (in_chain o (Value x) e) os) ≡ map_action (λ r. chained (in_chain o (Value x) r) os) (E e)
  right_step o os x e h =
      chain_step os (in_chain o (Value x) e) refl
      ∙ ap (map_action (λ r. chained r os)) (ap (λ n. next.next_binary o.line.module o.line.line o.operation o.width (Some x) n (Value x) e (E (Value x)) (E e)) h)
      ∙ map_twice _ _ (E e)

  argument_none : (n : Option ℕ) (o : Option (List ℕ)) → n ≡ None → and_value n o ≡ None
  argument_none None o h = refl
  argument_none (Some v) o h = cc

  given_none : (vs : List ℕ) (es : Expressions) → values_of es ≡ None → values_of (given vs es) ≡ None
  given_none [] es h = h
  given_none (v ∷ vs) es h = ap (and_value (Some v)) (given_none vs es h)

  given_step : (vs : List ℕ) (es : Expressions) (e : Expression) → value_of e ≡ None
      → next_expressions offsets sizes procedures (given vs (More e es)) ≡ map_action (λ r. given vs (More r es)) (E e)
  given_step [] es e h = ap (λ n. next.next_argument n e es (E e) (next_expressions offsets sizes procedures es)) h
  given_step (v ∷ vs) es e h = ap (map_action (More (Value v))) (given_step vs es e h) ∙ map_twice _ _ (E e)

  call_step : (n : ℕ) (vs : List ℕ) (es : Expressions) (e : Expression) → value_of e ≡ None
      → E (rest.Call n (given vs (More e es))) ≡ map_action (λ r. rest.Call n (given vs (More r es))) (E e)
  call_step n vs es e h =
      ap (λ o. next.next_call n o (slice_get procedures n) (next_expressions offsets sizes procedures (given vs (More e es)))) (given_none vs (More e es) (argument_none (value_of e) (values_of es) h))
      ∙ ap (map_action (rest.Call n)) (given_step vs es e h) ∙ map_twice _ _ (E e)

  assigned_step : (us : List Target) (v : ℕ) (t : rest.Target) {X : Type 0} (F : X → rest.Target) (a : Action Access X)
      → next_target offsets sizes procedures t v ≡ map_action (λ x. Some (F x)) a
      → map_action ToRun (S (Then (rest.Assign (targets_of t us) (Value v)) End)) ≡ map_action (λ x. ToRun (Then (rest.Assign (targets_of (F x) us) (Value v)) End)) a
  assigned_step [] v t F a h = ap (map_action ToRun) (ap (map_action (assigned (Only t) v End)) h ∙ map_twice _ _ a) ∙ map_twice _ _ a
  assigned_step (u ∷ us) v t F a h = ap (map_action ToRun) (ap (map_action (assigned (Also t (targets_of (target_of u) us)) v End)) h ∙ map_twice _ _ a) ∙ map_twice _ _ a

  -- a target that steps and stays a target
  pub aimed_step : (d : Destination) (t : rest.Target) {X : Type 0} (F : X → rest.Target) (a : Action Access X)
      → ((v : ℕ) → next_target offsets sizes procedures t v ≡ map_action (λ x. Some (F x)) a)
      → next_part (aimed d t) ≡ map_action (λ x. aimed d (F x)) a
  aimed_step (destination.Embedded v) t F a h =
      ap (map_action Expr) (ap (map_action (next.embedded_after v)) (h v) ∙ map_twice _ _ a) ∙ map_twice _ _ a
  aimed_step (destination.Assigned v ts) t F a h = assigned_step ts.now v t F a (h v)

  -- a reference that has subscripts left
  indexed_step : (module_index line : ℕ) (anchor : rest.Anchor) (offset stride : ℕ) (more : Subscripts) (x : Purpose) (e : Expression) → value_of e ≡ None
      → next_part (purposed x (Refer module_index line anchor offset (Subscript stride e more))) ≡ map_action (λ r. purposed x (indexed module_index line anchor offset stride (value_of r) r more)) (E e)
  indexed_step module_index line anchor offset stride more (purpose.Read width) e h = ap (map_action Expr) (map_twice _ _ (E e)) ∙ map_twice _ _ (E e)
  indexed_step module_index line anchor offset stride more purpose.Locate e h = ap (map_action Expr) (map_twice _ _ (E e)) ∙ map_twice _ _ (E e)
  indexed_step module_index line anchor offset stride more (purpose.Store width d) e h =
      aimed_step d (rest.ToVariable width (Refer module_index line anchor offset (Subscript stride e more))) (λ r. rest.ToVariable width (indexed module_index line anchor offset stride (value_of r) r more)) (E e) (λ v. map_twice _ _ (E e))

  indexed_none : (module_index line : ℕ) (anchor : rest.Anchor) (offset stride : ℕ) (n : Option ℕ) (e : Expression) (more : Subscripts) → n ≡ None → indexed module_index line anchor offset stride n e more ≡ Refer module_index line anchor offset (Subscript stride e more)
  indexed_none module_index line anchor offset stride None e more h = refl
  indexed_none module_index line anchor offset stride (Some v) e more h = cc

  subscript_step : (module_index line : ℕ) (anchor : rest.Anchor) (offset stride : ℕ) (more : Subscripts) (x : Purpose) (e : Expression) → value_of e ≡ None
      → next_part (purposed x (indexed module_index line anchor offset stride (value_of e) e more)) ≡ map_action (λ r. purposed x (indexed module_index line anchor offset stride (value_of r) r more)) (E e)
  subscript_step module_index line anchor offset stride more x e h =
      ap (λ r. next_part (purposed x r)) (indexed_none module_index line anchor offset stride (value_of e) e more h) ∙ indexed_step module_index line anchor offset stride more x e h

  port_step : (width : Width) (d : Destination) (e : Expression) → value_of e ≡ None → next_part (aimed d (rest.ToPort width e)) ≡ map_action (λ r. aimed d (rest.ToPort width r)) (E e)
  port_step width d e h = aimed_step d (rest.ToPort width e) (rest.ToPort width) (E e) (λ v. ap (λ n. next.next_port width n v (E e)) h)

  evaluate_frame : (e : Expression) → value_of e ≡ None → S (evaluated (value_of e) e End) ≡ map_action (λ r. evaluated (value_of r) r End) (E e)
  evaluate_frame e n =
      ap S (sym (behind_end (evaluated (value_of e) e End))) ∙ evaluate_step (value_of e) e End n
      ∙ map_alike (λ r. behind (evaluated (value_of r) r End) End) (λ r. evaluated (value_of r) r End) (λ r. behind_end (evaluated (value_of r) r End)) (E e)

  evaluated_active : (o : Option ℕ) (e : Expression) (l : Statements) → o ≡ None → returned (behind (evaluated o e End) l) ≡ None
  evaluated_active None e l h = refl
  evaluated_active (Some v) e l h = cc

  behind_active : (ss l : Statements) → returned ss ≡ None → returned (behind ss l) ≡ None
  behind_active End l h = cc
  behind_active (Returned v) l h = cc
  behind_active (Then s more) l h = refl

  later_active : (p : Part) (l : Statements) → Active p → returned (behind (statements_in p) l) ≡ None
  later_active (Expr e) l h = evaluated_active (value_of e) e l h
  later_active (ToRun ss) l h = behind_active ss l h

  running_frame : (p : Part) → Active p → E (Running (statements_in p)) ≡ map_action (λ q. Running (statements_in q)) (next_part p)
  running_frame p h =
      running_step (returned (statements_in p)) (S (statements_in p)) (ap returned (sym (behind_end (statements_in p))) ∙ later_active p End h)
      ∙ ap (map_action Running) (ap S (sym (behind_end (statements_in p))) ∙ statements_step p End h ∙ map_alike (λ q. behind (statements_in q) End) statements_in (λ q. behind_end (statements_in q)) (next_part p))
      ∙ map_twice Running statements_in (next_part p)

  -- a step of a part is a step of what stands around it
  hole_step : (h : Hole) (p : Part) → Active p → next_part (in_hole h p) ≡ map_action (in_hole h) (next_part p)
  hole_step (hole.Unary o width) p h = in_expression (rest.Unary o width) (λ e n. ap (λ v. next.next_unary o width v (E e)) n) p h
  hole_step (hole.Left o os) p h = in_expression (λ e. chained (in_chain o.now e (expression_of o.now.operand)) os.now) (left_step o.now os.now (expression_of o.now.operand)) p h
  hole_step (hole.Right x o os) p h = in_expression (λ e. chained (in_chain o.now (Value x) e) os.now) (right_step o.now os.now x) p h
  hole_step (hole.Embedded t) p h = in_expression (rest.Embedded (target_of t.now)) (λ e n. ap (λ v. next.next_embedded (target_of t.now) v (next_target offsets sizes procedures (target_of t.now)) (E e)) n) p h
  hole_step (hole.Input width) p h = in_expression (rest.Input width) (λ e n. ap (λ v. next.next_input width v (E e)) n) p h
  hole_step (hole.Subscript x l a offset stride ss) p h = in_part _ (subscript_step l.module l.line (anchor_of a) offset stride (subscripts_of ss.now) x) p h
  hole_step (hole.Port width d) p h = in_part _ (port_step width d) p h
  hole_step (hole.Assign t ts) p h = in_statements (λ e. Then (rest.Assign (targets_of (target_of t.now) ts.now) e) End) (λ e n. ap (λ v. next_assign (targets_of (target_of t.now) ts.now) v End (next_first offsets sizes procedures (targets_of (target_of t.now) ts.now)) (E e)) n) p h
  hole_step (hole.ReturnValue width) p h = in_statements (λ e. Then (rest.ReturnValue width e) End) (λ e n. ap (λ v. next_return width v End (E e)) n) p h
  hole_step (hole.If ss ts) p h = in_statements (λ e. Then (rest.If e (statements_of ss.now) (statements_of ts.now)) End) (λ e n. ap (λ v. next_if v (statements_of ss.now) (statements_of ts.now) End (E e)) n) p h
  hole_step (hole.While c ss) p h = in_statements (λ e. Then (rest.While e (expression_of c.now) (statements_of ss.now)) End) (λ e n. ap (λ v. next_while v (expression_of c.now) (statements_of ss.now) End (E e)) n) p h
  hole_step (hole.Case ss) p h = in_statements (λ e. Then (rest.Case e (statements_of ss.now)) End) (λ e n. ap (λ v. next_case v (statements_of ss.now) End (E e)) n) p h
  hole_step (hole.Iterate l) p h = in_statements (λ e. Then (rest.Iterate e (loop_of l.now)) End) (λ e n. ap (λ v. next_iterate v (loop_of l.now) End (E e)) n) p h
  hole_step (hole.Comparing i l) p h = in_statements (λ e. Then (rest.Comparing i e (loop_of l.now)) End) (λ e n. ap (λ v. next_comparing i v (loop_of l.now) End (E e)) n) p h
  hole_step (hole.Stepping l) p h = in_statements (λ e. Then (rest.Stepping e (loop_of l.now)) End) (λ e n. ap (λ v. next_stepping v (loop_of l.now) End (E e)) n) p h

  frame_step : (f : Frame) (p : Part) → Active p → next_part (around f p) ≡ map_action (around f) (next_part p)
  frame_step (frame.Hole x) p h = hole_step x p h
  frame_step (frame.Argument n vs es) p h = in_expression (λ e. rest.Call n (given vs.items (More e (expressions_of es.now)))) (call_step n vs.items (expressions_of es.now)) p h
  frame_step frame.Evaluate p h = in_statements (λ e. evaluated (value_of e) e End) evaluate_frame p h
  frame_step frame.Running p h = ap (map_action Expr) (running_frame p h) ∙ map_twice Expr _ (next_part p)
  frame_step (frame.Behind ss) p h = ap (map_action ToRun) (statements_step p (statements_of ss.now) h) ∙ map_twice ToRun _ (next_part p)
  frame_step (frame.Later l) p h = ap (map_action ToRun) (statements_step p (later_of l) h) ∙ map_twice ToRun _ (next_part p)

  active_chain : (os : List Operation) (e : Expression) → value_of e ≡ None → value_of (chained e os) ≡ None
  active_chain [] e h = h
  active_chain (o ∷ os) e h = active_chain os _ refl

  active_aimed : (d : Destination) (t : rest.Target) → Active (aimed d t)
  active_aimed (destination.Assigned v ts) t = refl
  active_aimed (destination.Embedded v) t = refl

  active_purposed : (x : Purpose) (r : Reference) → Active (purposed x r)
  active_purposed (purpose.Read width) r = refl
  active_purposed purpose.Locate r = refl
  active_purposed (purpose.Store width d) r = active_aimed d (rest.ToVariable width r)

  hole_active : (h : Hole) (p : Part) → Active p → Active (in_hole h p)
  hole_active (hole.Unary o width) p h = refl
  hole_active (hole.Left o os) p h = active_chain os.now _ refl
  hole_active (hole.Right x o os) p h = active_chain os.now _ refl
  hole_active (hole.Embedded t) p h = refl
  hole_active (hole.Input width) p h = refl
  hole_active (hole.Subscript x l a offset stride ss) p h = active_purposed x _
  hole_active (hole.Port width d) p h = active_aimed d _
  hole_active (hole.Assign t ts) p h = refl
  hole_active (hole.ReturnValue width) p h = refl
  hole_active (hole.If ss ts) p h = refl
  hole_active (hole.While c ss) p h = refl
  hole_active (hole.Case ss) p h = refl
  hole_active (hole.Iterate l) p h = refl
  hole_active (hole.Comparing i l) p h = refl
  hole_active (hole.Stepping l) p h = refl

  frame_active : (f : Frame) (p : Part) → Active p → Active (around f p)
  frame_active (frame.Hole x) p h = hole_active x p h
  frame_active (frame.Argument n vs es) p h = refl
  frame_active frame.Evaluate p h = ap returned (sym (behind_end (evaluated (value_of (expression_in p)) (expression_in p) End))) ∙ evaluated_active (value_of (expression_in p)) (expression_in p) End (no_value p h)
  frame_active frame.Running p h = refl
  frame_active (frame.Behind ss) p h = later_active p (statements_of ss.now) h
  frame_active (frame.Later l) p h = later_active p (later_of l) h

  plug_active : (fs : List Frame) (p : Part) → Active p → Active (plug fs p)
  plug_active [] p h = h
  plug_active (f ∷ fs) p h = frame_active f (plug fs p) (plug_active fs p h)

  plug_step : (fs : List Frame) (p : Part) → Active p → next_part (plug fs p) ≡ map_action (plug fs) (next_part p)
  plug_step [] p h = map_same (next_part p)
  plug_step (f ∷ fs) p h = frame_step f (plug fs p) (plug_active fs p h) ∙ ap (map_action (around f)) (plug_step fs p h) ∙ map_twice (around f) (plug fs) (next_part p)

  -- a step of a part is a step of what is to do
  pub to_run_step : (fs : List Frame) (p : Part) → Active p → S (to_run_in fs p) ≡ map_action (to_run_in fs) (next_part p)
  to_run_step fs p h =
      ap S (sym (behind_end (to_run_in fs p))) ∙ statements_step (plug fs p) End (plug_active fs p h)
      ∙ map_alike (λ q. behind (statements_in q) End) statements_in (λ q. behind_end (statements_in q)) (next_part (plug fs p))
      ∙ ap (map_action statements_in) (plug_step fs p h) ∙ map_twice statements_in (plug fs) (next_part p)

  -- what is used up has no step
  pub to_run_active : (fs : List Frame) (p : Part) → Active p → returned (to_run_in fs p) ≡ None
  to_run_active fs p h = ap returned (sym (behind_end (to_run_in fs p))) ∙ later_active (plug fs p) End (plug_active fs p h)

pub plug_last : (fs : List Frame) (f : Frame) (p : Part) → plug (fs ++ f ∷ []) p ≡ plug fs (around f p)
plug_last [] f p = refl
plug_last (g ∷ fs) f p = ap (around g) (plug_last fs f p)

pub to_run_last : (fs : List Frame) (f : Frame) (p : Part) → to_run_in (fs ++ f ∷ []) p ≡ to_run_in fs (around f p)
to_run_last fs f p = ap statements_in (plug_last fs f p)

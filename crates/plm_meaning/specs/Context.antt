-- What a context of the code has still to do, as the rest that it stands for: a part, and what stands around it.
use Rattle.std.specs.Prelude.{ℕ, List, [], ◌∷◌, map, drop}
use Rattle.plm_type.specs.Rest.{Anchor, InObject, OnScreen, Behind, There, Scalar, Expression, Constant, Plain, Variable, Location, Unary, Binary, Embedded, Call, Value, Passing, Running, Expressions, NoMore, More, Reference, Refer, Subscripts, NoSubscripts, Subscript, Target, ToPlain, ToVariable, ToPort, Targets, Only, Also, Loop, Count, Statement, Empty, Assign, Evaluate, Return, ReturnValue, Enabling, Disabling, Halting, If, Block, While, Case, Iterate, Leaving, Round, Comparing, Stepping, Adding, Storing, Ending, Statements, End, Then, Returned, Procedure}
use Rattle.plm_type.specs.Rest as rest
use Rattle.plm_type.specs.Next.{value_of, behind, evaluated, indexed, step_of, bound_of}
use Rattle.word86.specs.Place.{where_of}
use Rattle.plm_type.specs.View.{scalar_of, anchor_of, expression_of, expressions_of, subscripts_of, chained, target_of, targets_of, statement_of, statements_of, loop_of}
use Rattle.plm_meaning.specs.declared.access.Origin.{Origin}
use Rattle.plm_meaning.specs.declared.access.Origin.TheVariants as origin
use Rattle.plm_meaning.specs.declared.context.Destination.{Destination}
use Rattle.plm_meaning.specs.declared.context.Destination.TheVariants as destination
use Rattle.plm_meaning.specs.declared.context.Purpose.{Purpose}
use Rattle.plm_meaning.specs.declared.context.Purpose.TheVariants as purpose
use Rattle.plm_meaning.specs.declared.context.Later.{Later}
use Rattle.plm_meaning.specs.declared.context.Later.TheVariants as later
use Rattle.plm_meaning.specs.declared.context.Hole.{Hole}
use Rattle.plm_meaning.specs.declared.context.Hole.TheVariants as hole
use Rattle.plm_meaning.specs.declared.context.Frame.{Frame}
use Rattle.plm_meaning.specs.declared.context.Frame.TheVariants as frame
use Rattle.plm_meaning.specs.declared.context.Phase.{Phase}
use Rattle.plm_meaning.specs.declared.context.Phase.TheVariants as phase
use Rattle.plm_meaning.specs.declared.context.Redex.{Redex}
use Rattle.plm_meaning.specs.declared.context.Redex.TheVariants as redex
use Rattle.plm_meaning.specs.declared.context.Focus.{Focus}
use Rattle.plm_meaning.specs.declared.context.Focus.TheVariants as focus
use Rattle.plm_meaning.specs.declared.context.Context.{Context}

-- a part of a rest: an expression, or statements
pub data Part : Type 0 where
  Expr : Expression → Part
  ToRun : Statements → Part

-- statements in an expression are a running call
abbrev pub expression_in : Part → Expression
expression_in (Expr e) = e
expression_in (ToRun ss) = Running ss

-- an expression among statements is a CALL, whose value is dropped
abbrev pub statements_in : Part → Statements
statements_in (Expr e) = evaluated (value_of e) e End
statements_in (ToRun ss) = ss

abbrev pub origin_of : Origin → Anchor
origin_of (origin.InObject k start size) = InObject k start size
origin_of (origin.OnScreen page start size) = OnScreen page start size
origin_of (origin.There address) = There address

-- a target of a value
abbrev pub aimed : Destination → Target → Part
aimed (destination.Assigned v ts) t = ToRun (Then (Assign (targets_of t ts.now) (Value v)) End)
aimed (destination.Embedded v) t = Expr (Embedded t (Value v))

abbrev pub purposed : Purpose → Reference → Part
purposed (purpose.Read width) r = Expr (Variable width r)
purposed purpose.Locate r = Expr (Location r)
purposed (purpose.Store width d) r = aimed d (ToVariable width r)

abbrev pub later_of : Later → Statements
later_of later.Leaving = Then Leaving End
later_of (later.While c ss) = Then (While (expression_of c.now) (expression_of c.now) (statements_of ss.now)) End
later_of (later.Next l) = Then (Stepping (step_of (loop_of l.now)) (loop_of l.now)) End

-- arguments of which the first have these values
abbrev pub given : List ℕ → Expressions → Expressions
given [] es = es
given (v ∷ vs) es = More (Value v) (given vs es)

-- an expression in a hole
abbrev pub in_hole : Hole → Part → Part
in_hole (hole.Unary o width) p = Expr (Unary o width (expression_in p))
in_hole (hole.Left o os) p = Expr (chained (Binary o.now.line.module o.now.line.line o.now.operation o.now.width (expression_in p) (expression_of o.now.operand)) os.now)
in_hole (hole.Right x o os) p = Expr (chained (Binary o.now.line.module o.now.line.line o.now.operation o.now.width (Value x) (expression_in p)) os.now)
in_hole (hole.Embedded t) p = Expr (Embedded (target_of t.now) (expression_in p))
in_hole (hole.Input width) p = Expr (rest.Input width (expression_in p))
in_hole (hole.Subscript x l a offset stride ss) p = purposed x (indexed l.module l.line (anchor_of a) offset stride (value_of (expression_in p)) (expression_in p) (subscripts_of ss.now))
in_hole (hole.Port width d) p = aimed d (ToPort width (expression_in p))
in_hole (hole.Assign t ts) p = ToRun (Then (Assign (targets_of (target_of t.now) ts.now) (expression_in p)) End)
in_hole (hole.ReturnValue width) p = ToRun (Then (ReturnValue width (expression_in p)) End)
in_hole (hole.If ss ts) p = ToRun (Then (If (expression_in p) (statements_of ss.now) (statements_of ts.now)) End)
in_hole (hole.While c ss) p = ToRun (Then (While (expression_in p) (expression_of c.now) (statements_of ss.now)) End)
in_hole (hole.Case ss) p = ToRun (Then (Case (expression_in p) (statements_of ss.now)) End)
in_hole (hole.Iterate l) p = ToRun (Then (Iterate (expression_in p) (loop_of l.now)) End)
in_hole (hole.Comparing i l) p = ToRun (Then (Comparing i (expression_in p) (loop_of l.now)) End)
in_hole (hole.Stepping l) p = ToRun (Then (Stepping (expression_in p) (loop_of l.now)) End)

abbrev pub around : Frame → Part → Part
around (frame.Hole h) p = in_hole h p
around (frame.Argument n vs es) p = Expr (Call n (given vs.items (More (expression_in p) (expressions_of es.now))))
around frame.Evaluate p = ToRun (evaluated (value_of (expression_in p)) (expression_in p) End)
around frame.Running p = Expr (Running (statements_in p))
around (frame.Behind ss) p = ToRun (behind (statements_in p) (statements_of ss.now))
around (frame.Later l) p = ToRun (behind (statements_in p) (later_of l))

abbrev pub phase_of : Phase → Loop → Statement
phase_of (phase.Begin v) l = Iterate (Value v) l
phase_of phase.Round l = Round l
phase_of (phase.Comparing i b) l = Comparing i (Value b) l
phase_of (phase.Stepping s) l = Stepping (Value s) l
phase_of (phase.Adding i s) l = Adding i s l
phase_of (phase.Storing sum leaves) l = Storing sum leaves l
phase_of (phase.Ending leaves) l = Ending leaves l

abbrev pub redex_part : Redex → Part
redex_part (redex.Constant k) = Expr (Constant k)
redex_part (redex.Plain width x) = Expr (Plain width (where_of x))
redex_part (redex.Base x l base offset) = purposed x (Refer l.module l.line (Behind (where_of base)) offset NoSubscripts)
redex_part (redex.Refer x l o offset) = purposed x (Refer l.module l.line (origin_of o) offset NoSubscripts)
redex_part (redex.Unary o width v) = Expr (Unary o width (Value v))
redex_part (redex.Binary l o width x y) = Expr (Binary l.module l.line o width (Value x) (Value y))
redex_part (redex.Store width x d) = aimed d (ToPlain width (where_of x))
redex_part (redex.Input width port) = Expr (rest.Input width (Value port))
redex_part (redex.Output width port d) = aimed d (ToPort width (Value port))
redex_part redex.Ended = Expr (Running End)
redex_part (redex.Given v) = Expr (Running (Returned v))
redex_part redex.Empty = ToRun (Then Empty End)
redex_part redex.Return = ToRun (Then Return End)
redex_part (redex.ReturnValue width v) = ToRun (Then (ReturnValue width (Value v)) End)
redex_part redex.Enable = ToRun (Then Enabling End)
redex_part redex.Disable = ToRun (Then Disabling End)
redex_part redex.Halt = ToRun (Then Halting End)
redex_part (redex.If v ss ts) = ToRun (Then (If (Value v) (statements_of ss.now) (statements_of ts.now)) End)
redex_part (redex.Block ss) = ToRun (Then (Block (statements_of ss.now)) End)
redex_part redex.Leaving = ToRun (Then Leaving End)
redex_part (redex.While v c ss) = ToRun (Then (While (Value v) (expression_of c.now) (statements_of ss.now)) End)
redex_part (redex.Case v ss) = ToRun (Then (Case (Value v) (statements_of ss.now)) End)
redex_part (redex.Loop p l) = ToRun (Then (phase_of p (loop_of l.now)) End)

abbrev pub part_of : Focus → Part
part_of (focus.Expression e) = Expr (expression_of e.now)
part_of (focus.Value v) = Expr (Value v)
part_of (focus.Statements ss) = ToRun (statements_of ss.now)
part_of (focus.Statement s) = ToRun (Then (statement_of s.now) End)
part_of (focus.Returned v) = ToRun (Returned v)
part_of (focus.Within l ss) = ToRun (behind (statements_of ss.now) (later_of l))
part_of (focus.Entering ss) = Expr (Running (statements_of ss.now))
part_of (focus.Bound i l) = ToRun (Then (Comparing i (bound_of (loop_of l.now)) (loop_of l.now)) End)
part_of (focus.Aim t d) = aimed d (target_of t.now)
part_of (focus.Call n vs) = Expr (Call n (given vs.items NoMore))
part_of (focus.Passing n xs vs k) = Expr (Passing n (map scalar_of xs.now) (drop k vs.items))
part_of (focus.Ready r) = redex_part r

-- the outermost frame comes first
abbrev pub plug : List Frame → Part → Part
plug [] p = p
plug (f ∷ fs) p = around f (plug fs p)

-- what is to do with this part in these frames
abbrev pub to_run_in : List Frame → Part → Statements
to_run_in fs p = statements_in (plug fs p)

abbrev pub to_run_of : Context → Statements
to_run_of c = to_run_in c.frames.items (part_of c.focus)

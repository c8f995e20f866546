-- Which procedures a body calls, and which it reaches by calls.
use Rattle.std.specs.Prelude.{ℕ, List, [], ◌∷◌, ◌++◌, map}
use Rattle.plm_type.specs.Reach.{Graph, IsOnCycle}
use Rattle.plm_type.specs.Rest.{Expression, Constant, Plain, Variable, Location, Unary, Binary, Embedded, Input, Call, Value, Passing, Running, Expressions, NoMore, More, Reference, Refer, Subscripts, NoSubscripts, Subscript, Target, ToPlain, ToVariable, ToPort, Targets, Only, Also, Loop, Count, Statement, Empty, Assign, Evaluate, Return, ReturnValue, Enabling, Disabling, Halting, If, Block, While, Case, Iterate, Leaving, Round, Comparing, Stepping, Adding, Storing, Ending, Statements, End, Then, Returned, Procedure}

abbrev mutual
  pub calls_in : Expression → List ℕ
  calls_in (Constant k) = []
  calls_in (Plain w x) = []
  calls_in (Variable w r) = reference_calls r
  calls_in (Location r) = reference_calls r
  calls_in (Unary o w e) = calls_in e
  calls_in (Binary module_index line o w a b) = calls_in a ++ calls_in b
  calls_in (Embedded t e) = calls_in e ++ target_calls t
  calls_in (Input w e) = calls_in e
  calls_in (Call p es) = p ∷ argument_calls es
  calls_in (Value v) = []
  calls_in (Passing p xs vs) = []
  calls_in (Running ss) = []

  pub argument_calls : Expressions → List ℕ
  argument_calls NoMore = []
  argument_calls (More e es) = calls_in e ++ argument_calls es

  pub reference_calls : Reference → List ℕ
  reference_calls (Refer module_index line a o s) = subscript_calls s

  pub subscript_calls : Subscripts → List ℕ
  subscript_calls NoSubscripts = []
  subscript_calls (Subscript stride e more) = calls_in e ++ subscript_calls more

  pub target_calls : Target → List ℕ
  target_calls (ToPlain w x) = []
  target_calls (ToVariable w r) = reference_calls r
  target_calls (ToPort w e) = calls_in e

abbrev pub targets_calls : Targets → List ℕ
targets_calls (Only t) = target_calls t
targets_calls (Also t ts) = target_calls t ++ targets_calls ts

abbrev mutual
  pub statement_calls : Statement → List ℕ
  statement_calls (Assign ts e) = calls_in e ++ targets_calls ts
  statement_calls (Evaluate e) = calls_in e
  statement_calls (ReturnValue w e) = calls_in e
  statement_calls (If c ss ts) = calls_in c ++ (statements_calls ss ++ statements_calls ts)
  statement_calls (Block ss) = statements_calls ss
  statement_calls (While r c ss) = calls_in c ++ statements_calls ss
  statement_calls (Case e ss) = calls_in e ++ statements_calls ss
  statement_calls (Iterate a l) = calls_in a ++ loop_calls l
  statement_calls Empty = []
  statement_calls Return = []
  statement_calls Enabling = []
  statement_calls Disabling = []
  statement_calls Halting = []
  -- in rests only
  statement_calls Leaving = []
  statement_calls (Round l) = []
  statement_calls (Comparing i e l) = []
  statement_calls (Stepping e l) = []
  statement_calls (Adding i s l) = []
  statement_calls (Storing sum leaves l) = []
  statement_calls (Ending leaves l) = []

  pub loop_calls : Loop → List ℕ
  loop_calls (Count o x b s ss) = calls_in b ++ (calls_in s ++ statements_calls ss)

  pub statements_calls : Statements → List ℕ
  statements_calls End = []
  statements_calls (Then s ss) = statement_calls s ++ statements_calls ss
  statements_calls (Returned v) = []

-- a row for each procedure: those that its body calls
abbrev pub graph_of : List Procedure → Graph
graph_of ps = map (λ p. statements_calls p.body) ps

-- it reaches itself
abbrev pub IsRecursive : List Procedure → ℕ → Type 0
IsRecursive ps p = IsOnCycle (graph_of ps) p

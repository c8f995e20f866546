-- How many silent steps of a rest may come before a statement's first instruction, and before those of its parts: what is known of a
-- constant expression takes one for each of its nodes.
use Rattle.std.specs.Prelude.{ℕ, ◌+◌}
use Rattle.plm_type.specs.Rest.{Loop, Count, Statement, Empty, Assign, Evaluate, Return, ReturnValue, Enabling, Disabling, Halting, If, Block, While, Case, Iterate, Leaving, Round, Comparing, Stepping, Adding, Storing, Ending, Statements, End, Then, Returned}
use Rattle.lower.proofs.Nodes.{nodes, targets_nodes}

abbrev mutual
  pub lead : Statement → ℕ
  lead Empty = 1
  lead (Assign ts e) = targets_nodes ts + nodes e + 5
  lead (Evaluate e) = nodes e + 5
  lead Return = 5
  lead (ReturnValue w e) = nodes e + 5
  lead Enabling = 5
  lead Disabling = 5
  lead Halting = 5
  lead (If c arm other) = nodes c + leads arm + leads other + 5
  lead (Block ss) = leads ss + 2
  lead (While l c ss) = nodes c + leads ss + 5
  lead (Case e ss) = nodes e + leads ss + 5
  lead (Iterate a l) = nodes a + loop_lead l + 5
  lead Leaving = 0
  lead (Round l) = 0
  lead (Comparing i e l) = 0
  lead (Stepping e l) = 0
  lead (Adding i s l) = 0
  lead (Storing s b l) = 0
  lead (Ending b l) = 0

  pub loop_lead : Loop → ℕ
  loop_lead (Count o x b s ss) = nodes b + nodes s + leads ss

  pub leads : Statements → ℕ
  leads End = 0
  leads (Then s later) = lead s + leads later + 1
  leads (Returned v) = 0

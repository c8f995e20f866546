-- Statements in which no RETURN has a value are those of a procedure that gives none.
use Rattle.std.proofs.lemmas.Bool.{or_parts}
use Rattle.std.proofs.Common.{◌≡◌, ℕ, Bool, true, false, List, refl, true≢false}
use Rattle.plm_type.specs.Rest.{Count, Statement, Empty, Assign, Evaluate, Return, ReturnValue, Enabling, Disabling, Halting, If, Block, While, Case, Iterate, Leaving, Round, Comparing, Stepping, Adding, Storing, Ending, Statements, End, Then, Returned, Procedure}
use Rattle.lower.specs.Expressions.{is_giving, are_giving}
use Rattle.lower.specs.Statements.{Called, Giving}
use Rattle.lower.specs.Lowering.{kind_of}
use Rattle.lower.specs.Well.{IsStatement, AreStatements}

module _ (sizes : List ℕ) (procedures : List Procedure) (MayCall : ℕ → Type 0) where
  abbrev Was : Statement → Type 0
  Was = IsStatement sizes procedures MayCall Giving

  abbrev Is : Statement → Type 0
  Is = IsStatement sizes procedures MayCall Called

  mutual
    statement_called : (s : Statement) → is_giving s ≡ false → Was s → Is s
    statement_called Empty lacks good = tt
    statement_called (Assign ts e) lacks good = good
    statement_called (Evaluate e) lacks good = good
    statement_called Return lacks good = tt
    statement_called (ReturnValue w e) lacks good = absurd (true≢false lacks)
    statement_called Enabling lacks good = tt
    statement_called Disabling lacks good = tt
    statement_called Halting lacks good = tt
    statement_called (If c arm other) lacks good = let n = or_parts (are_giving arm) (are_giving other) lacks in (good.0, statements_called arm n.0 good.1, statements_called other n.1 good.2)
    statement_called (Block ss) lacks good = statements_called ss lacks good
    statement_called (While l c ss) lacks good = (good.0, good.1, statements_called ss lacks good.2)
    statement_called (Case e ss) lacks good = (good.0, statements_called ss lacks good.1)
    statement_called (Iterate a (Count o x bound step ss)) lacks good = (good.0, (good.1.0, good.1.1, good.1.2, statements_called ss lacks good.1.3, good.1.4))
    statement_called Leaving lacks good = absurd good
    statement_called (Round l) lacks good = absurd good
    statement_called (Comparing i e l) lacks good = absurd good
    statement_called (Stepping e l) lacks good = absurd good
    statement_called (Adding i s l) lacks good = absurd good
    statement_called (Storing s b l) lacks good = absurd good
    statement_called (Ending b l) lacks good = absurd good

    statements_called : (ss : Statements) → are_giving ss ≡ false → AreStatements sizes procedures MayCall Giving ss → AreStatements sizes procedures MayCall Called ss
    statements_called End lacks good = tt
    statements_called (Then s later) lacks good = let n = or_parts (is_giving s) (are_giving later) lacks in (statement_called s n.0 good.0, statements_called later n.1 good.1)
    statements_called (Returned v) lacks good = absurd good

  giving_settled : (g : Bool) (ss : Statements) → are_giving ss ≡ g → AreStatements sizes procedures MayCall Giving ss → AreStatements sizes procedures MayCall (kind_of false g) ss
  giving_settled true ss is good = good
  giving_settled false ss is good = statements_called ss is good

  -- what a body of a procedure is, by its RETURNs
  pub settled : (serves : Bool) (ss : Statements) → AreStatements sizes procedures MayCall (kind_of serves true) ss → AreStatements sizes procedures MayCall (kind_of serves (are_giving ss)) ss
  settled true ss good = good
  settled false ss good = giving_settled (are_giving ss) ss refl good

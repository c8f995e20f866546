-- An order of procedures in which each stands after those that it calls is one along which calls go down.
use Rattle.std.proofs.Common.{◌≡◌, ℕ, zero, suc, ◌<◌, List, [], ◌∷◌, ◌++◌, length, Some, refl, sym, ap, ◌∙◌, subst, arith, slice_get}
use Rattle.std.specs.Prelude.{Contains, map}
use Rattle.std.proofs.lemmas.List.Elements.{Contains-append_left, Contains-append_right, Contains-push}
use Rattle.std.proofs.lemmas.Option.{slice_get-map, slice_get_within}
use Rattle.std.specs.Prelude.{option_map}
use Rattle.plm_type.specs.Rest.{Expression, Constant, Plain, Variable, Location, Unary, Binary, Embedded, Input, Call, Value, Passing, Running, Expressions, NoMore, More, Refer, Subscripts, NoSubscripts, Subscript, Target, ToPlain, ToVariable, ToPort, Targets, Only, Also, Loop, Count, Statement, Empty, Assign, Evaluate, Return, ReturnValue, Enabling, Disabling, Halting, If, Block, While, Case, Iterate, Leaving, Round, Comparing, Stepping, Adding, Storing, Ending, Statements, End, Then, Returned, Procedure}
use Rattle.plm_type.specs.Reach.{row_of}
use Rattle.plm_type.specs.Calls.{calls_in, argument_calls, subscript_calls, target_calls, targets_calls, statement_calls, loop_calls, statements_calls, graph_of}
use Rattle.plm_type.specs.Order.{place_in, IsOrder}
use Rattle.lower.specs.Statements.{Kind, OfMain, Called, Giving, Serving}
use Rattle.lower.specs.Well.{IsExpression, AreExpressions, AreSubscripts, IsTarget, AreTargets, MayReturn, MayReturnValue, IsStatement, IsLoop, AreStatements}

module _ (sizes : List ℕ) (procedures : List Procedure) (A B : ℕ → Type 0) where
  -- of all that is called
  abbrev All : List ℕ → Type 0
  All qs = (q : ℕ) → q < length procedures → Contains qs q → B q

  left : (xs ys : List ℕ) → All (xs ++ ys) → All xs
  left xs ys h q lt c = h q lt (Contains-append_left xs ys q c)

  right : (xs ys : List ℕ) → All (xs ++ ys) → All ys
  right xs ys h q lt c = h q lt (Contains-append_right xs ys q c)

  mutual
    expression_all : (e : Expression) → IsExpression sizes procedures A e → All (calls_in e) → IsExpression sizes procedures (λ q. A q × B q) e
    expression_all (Constant k) good all = good
    expression_all (Plain w y) good all = good
    expression_all (Variable w (Refer m l anchor offset ss)) good all = (good.0, subscripts_all 2 ss good.1 all)
    expression_all (Location (Refer m l anchor offset ss)) good all = (good.0, subscripts_all 2 ss good.1 all)
    expression_all (Unary o w e) good all = expression_all e good all
    expression_all (Binary m l o w a b) good all = (expression_all a good.0 (left (calls_in a) (calls_in b) all), expression_all b good.1 (right (calls_in a) (calls_in b) all))
    expression_all (Embedded t e) good all = (target_all t good.0 (right (calls_in e) (target_calls t) all), expression_all e good.1 (left (calls_in e) (target_calls t) all))
    expression_all (Input w e) good all = expression_all e good all
    expression_all (Call p es) good all =
        let c = good.0 in
        let here : B p = all p (slice_get_within procedures p c.0 c.1) (Contains-append_left (p ∷ []) (argument_calls es) p (Contains-push [] p)) in
        ((c.0, c.1, c.2, c.3, (c.4, here)), expressions_all es good.1 (right (p ∷ []) (argument_calls es) all))
    expression_all (Value v) good all = good
    expression_all (Passing p xs vs) good all = good
    expression_all (Running ss) good all = good

    expressions_all : (es : Expressions) → AreExpressions sizes procedures A es → All (argument_calls es) → AreExpressions sizes procedures (λ q. A q × B q) es
    expressions_all NoMore good all = tt
    expressions_all (More e es) good all = (expression_all e good.0 (left (calls_in e) (argument_calls es) all), expressions_all es good.1 (right (calls_in e) (argument_calls es) all))

    subscripts_all : (n : ℕ) (ss : Subscripts) → AreSubscripts sizes procedures A n ss → All (subscript_calls ss) → AreSubscripts sizes procedures (λ q. A q × B q) n ss
    subscripts_all n NoSubscripts good all = tt
    subscripts_all zero (Subscript s e more) good all = absurd good
    subscripts_all (suc n) (Subscript s e more) good all = (expression_all e good.0 (left (calls_in e) (subscript_calls more) all), subscripts_all n more good.1 (right (calls_in e) (subscript_calls more) all))

    target_all : (t : Target) → IsTarget sizes procedures A t → All (target_calls t) → IsTarget sizes procedures (λ q. A q × B q) t
    target_all (ToPlain w y) good all = good
    target_all (ToVariable w (Refer m l anchor offset ss)) good all = (good.0, subscripts_all 2 ss good.1 all)
    target_all (ToPort w e) good all = expression_all e good all

  targets_all : (ts : Targets) → AreTargets sizes procedures A ts → All (targets_calls ts) → AreTargets sizes procedures (λ q. A q × B q) ts
  targets_all (Only t) good all = target_all t good all
  targets_all (Also t ts) good all = (target_all t good.0 (left (target_calls t) (targets_calls ts) all), targets_all ts good.1 (right (target_calls t) (targets_calls ts) all))

  returns_all : (kind : Kind) → MayReturn sizes procedures A kind → MayReturn sizes procedures (λ q. A q × B q) kind
  returns_all OfMain h = h
  returns_all Called h = h
  returns_all Giving h = h
  returns_all Serving h = h

  values_all : (kind : Kind) → MayReturnValue sizes procedures A kind → MayReturnValue sizes procedures (λ q. A q × B q) kind
  values_all OfMain h = h
  values_all Called h = h
  values_all Giving h = h
  values_all Serving h = h

  module _ (around : Kind) where
    mutual
      statement_all : (s : Statement) → IsStatement sizes procedures A around s → All (statement_calls s) → IsStatement sizes procedures (λ q. A q × B q) around s
      statement_all Empty good all = tt
      statement_all (Assign ts e) good all = (targets_all ts good.0 (right (calls_in e) (targets_calls ts) all), expression_all e good.1 (left (calls_in e) (targets_calls ts) all))
      statement_all (Evaluate e) good all = expression_all e good all
      statement_all Return good all = returns_all around good
      statement_all (ReturnValue w e) good all = (values_all around good.0, expression_all e good.1 all)
      statement_all Enabling good all = tt
      statement_all Disabling good all = tt
      statement_all Halting good all = tt
      statement_all (If c arm other) good all =
          let some = right (calls_in c) (statements_calls arm ++ statements_calls other) all in
          (expression_all c good.0 (left (calls_in c) (statements_calls arm ++ statements_calls other) all), statements_all arm good.1 (left (statements_calls arm) (statements_calls other) some), statements_all other good.2 (right (statements_calls arm) (statements_calls other) some))
      statement_all (Block ss) good all = statements_all ss good all
      statement_all (While r c ss) good all = (good.0, expression_all c good.1 (left (calls_in c) (statements_calls ss) all), statements_all ss good.2 (right (calls_in c) (statements_calls ss) all))
      statement_all (Case e ss) good all = (expression_all e good.0 (left (calls_in e) (statements_calls ss) all), statements_all ss good.1 (right (calls_in e) (statements_calls ss) all))
      statement_all (Iterate e l) good all = (expression_all e good.0 (left (calls_in e) (loop_calls l) all), loop_all l good.1 (right (calls_in e) (loop_calls l) all))
      statement_all Leaving good all = absurd good
      statement_all (Round l) good all = absurd good
      statement_all (Comparing i e l) good all = absurd good
      statement_all (Stepping e l) good all = absurd good
      statement_all (Adding i s l) good all = absurd good
      statement_all (Storing s b l) good all = absurd good
      statement_all (Ending b l) good all = absurd good

      loop_all : (l : Loop) → IsLoop sizes procedures A around l → All (loop_calls l) → IsLoop sizes procedures (λ q. A q × B q) around l
      loop_all (Count o y bound step ss) good all =
          let some = right (calls_in bound) (calls_in step ++ statements_calls ss) all in
          (good.0, expression_all bound good.1 (left (calls_in bound) (calls_in step ++ statements_calls ss) all), expression_all step good.2 (left (calls_in step) (statements_calls ss) some), statements_all ss good.3 (right (calls_in step) (statements_calls ss) some), good.4)

      pub statements_all : (ss : Statements) → AreStatements sizes procedures A around ss → ((q : ℕ) → q < length procedures → Contains (statements_calls ss) q → B q) → AreStatements sizes procedures (λ q. A q × B q) around ss
      statements_all End good all = tt
      statements_all (Then s later) good all = (statement_all s good.0 (left (statement_calls s) (statements_calls later) all), statements_all later good.1 (right (statement_calls s) (statements_calls later) all))
      statements_all (Returned v) good all = absurd good

-- what a body calls stands before its procedure
pub called_before : (procedures : List Procedure) (order : List ℕ) → IsOrder order (graph_of procedures) → (q : ℕ) (procedure : Procedure) → slice_get procedures q ≡ Some procedure → (p : ℕ) → p < length procedures → Contains (statements_calls procedure.body) p → place_in order p < place_in order q
called_before procedures order sorted q procedure got p lt c =
    let g = graph_of procedures in
    let long : length g ≡ length procedures = length_map procedures in
    let row : row_of (slice_get g q) ≡ statements_calls procedure.body = ap row_of (slice_get-map (λ (y : Procedure). statements_calls y.body) procedures q ∙ ap (option_map (λ (y : Procedure). statements_calls y.body)) got) in
    sorted.later q p (omega (arith, long, slice_get_within procedures q procedure got)) (omega (arith, long, lt)) (subst (λ l. Contains l p) (sym row) c)
  where
    length_map : (ps : List Procedure) → length (map (λ (y : Procedure). statements_calls y.body) ps) ≡ length ps
    length_map [] = refl
    length_map (y ∷ ps) = ap suc (length_map ps)

-- The code of statements is as it has to be where jumps may lead to each of its places and to its exit.
use Rattle.std.proofs.Common.{◌≡◌, ℕ, ◌+◌, ◌⊎◌, inl, inr, Bool, true, false, ◌≤◌, List, [], ◌∷◌, ◌++◌, length, refl, sym, subst, arith, length-append, append-nil, true≢false}
use Rattle.word86.specs.declared.width.Width.{Width}
use Rattle.word86.specs.declared.width.Width.TheVariants as widths
use Rattle.plm_type.specs.Rest.{Expression, Loop, Count, Statement, Empty, Assign, Evaluate, Return, ReturnValue, Enabling, Disabling, Halting, If, Block, While, Case, Iterate, Leaving, Round, Comparing, Stepping, Adding, Storing, Ending, Statements, End, Then, Returned, Procedure}
use Rattle.icode.specs.declared.instruction.Instruction.{Instruction}
use Rattle.icode.specs.declared.instruction.Instruction.TheVariants as op
use Rattle.icode.specs.Heights.{behind}
use Rattle.lower.specs.LowBytes.{low_code, given_code, returned_code}
use Rattle.lower.specs.Expressions.{Name, operand_of, place_of, beside, expression_code, targets_code}
use Rattle.lower.specs.Conditions.{test_of, condition_code, always, compared, named, unless_named, compared_by, related}
use Rattle.lower.specs.Statements.{Kind, OfMain, Called, Giving, Serving, returning, narrowed, within, next_round, are_silent, over, all_of, switching, exit_before, statement_code, statements_code, cases_code, while_loop, counts_bytes, index_read, stays, all_stay}
use Rattle.lower.specs.Well.{MayReturn, IsStatement, AreStatements}
use Rattle.lower.proofs.Heights.{Keeps, expression_keeps, dropped_keeps, targets_keep, given_keeps, returned_keeps, low_keeps, assigned_keeps}
use Rattle.lower.proofs.Fits.{Fits, Calm, Fitting, AreLevel, level_then, tested_level, choosing_level, switching_level, next_level, Inner, inner_front, inner_back, inner_first, forever_fits, fits_then, choosing_fits, one_then_more, while_loop_fits, switching_fits, case_fits, counted_fits, while_loop_level, index_up}
use Rattle.lower.proofs.Calm.{expression_calm, dropped_calm, targets_calm, given_calm, operand_word, condition_calm, bound_calm, bound_word, bound_up, test_word, condition_up, returned_calm, assigned_calm}
use Rattle.lower.proofs.Stmts.{silents_code, stay_all_loud}

-- ENABLE or HALT stands in it
abbrev mutual
  pub Lets : Statement → Type 0
  Lets Enabling = Unit {0}
  Lets Halting = Unit {0}
  Lets (If c arm other) = Let arm ⊎ Let other
  Lets (Block ss) = Let ss
  Lets (While left c ss) = Let ss
  Lets (Case e ss) = Let ss
  Lets (Iterate a l) = LoopLets l
  Lets _ = ⊥

  pub LoopLets : Loop → Type 0
  LoopLets (Count o x bound step ss) = Let ss

  pub Let : Statements → Type 0
  Let End = ⊥
  Let (Then s later) = Lets s ⊎ Let later
  Let (Returned v) = ⊥

-- only procedures that serve a vector are used up
abbrev pub IsServing : Kind → Type 0
IsServing OfMain = ⊥
IsServing Called = ⊥
IsServing Giving = ⊥
IsServing Serving = Unit {0}

narrowed_keeps : (w : Width) → Keeps (narrowed w ++ op.Leave ∷ [])
narrowed_keeps widths.Byte h = refl
narrowed_keeps widths.Word h = refl

module _ (procedures : List Procedure) (around : Kind) where
  returning_level : (around : Kind) → behind 0 (returning around) ≡ 0
  returning_level OfMain = refl
  returning_level Called = refl
  returning_level Giving = refl
  returning_level Serving = refl

  mutual
    pub statement_level : (s : Statement) (exit : ℕ) → behind 0 (statement_code procedures around exit s) ≡ 0
    statement_level Empty exit = refl
    statement_level (Assign ts e) exit = assigned_keeps procedures ts e 0
    statement_level (Evaluate e) exit = dropped_keeps procedures e 0
    statement_level Return exit = returning_level around
    statement_level (ReturnValue w e) exit = level_then (returned_code procedures w e) (narrowed w ++ op.Leave ∷ []) (returned_keeps procedures w e 0) (narrowed_keeps w 0)
    statement_level Enabling exit = refl
    statement_level Disabling exit = refl
    statement_level Halting exit = refl
    statement_level (If c arm other) exit =
        let otherwise = statements_code procedures around exit other in
        let arm_exit = length (over (are_silent other) otherwise exit) + length otherwise + exit in
        choosing_level (condition_code procedures c) (statements_code procedures around arm_exit arm) otherwise (test_of c) (are_silent other) exit (condition_up procedures c) (statements_level arm arm_exit) (statements_level other exit)
    statement_level (Block ss) exit = statements_level ss exit
    statement_level (While left c ss) exit = while_loop_level (always c) (condition_code procedures c) (test_of c) (statements_code procedures around 0 ss) exit (condition_up procedures c) (statements_level ss 0)
    statement_level (Case e ss) exit = level_then (expression_code procedures e) (switching (cases_code procedures around exit ss) exit) (expression_keeps procedures e 0) (switching_level (cases_code procedures around exit ss) exit (cases_level ss exit))
    statement_level (Iterate a (Count o x bound step ss)) exit =
        let bytes = counts_bytes x bound in
        let comparison = compared bytes (beside (operand_of bound) (low_code procedures bound)) (beside (operand_of bound) (expression_code procedures bound)) in
        let index = Name x.width (place_of x.place) in
        let asked = unless_named (named bytes (within o) index (operand_of bound)) (index_read bytes x ∷ comparison) in
        let body = statements_code procedures around 0 ss in
        let before = length asked + length body + 1 in
        let again = next_round o x (operand_of step) (expression_code procedures step) before in
        let n = length body + length again + exit in
        let t = compared_by bytes (within o) index (operand_of bound) in
        let rest = asked ++ (op.AheadUnless t n ∷ (body ++ again)) in
        level_then (returned_code procedures x.width a) (op.Store x.width (place_of x.place) ∷ rest) (returned_keeps procedures x.width a 0)
        (tested_level asked (body ++ again) t n (bound_up bytes (within o) x index (operand_of bound) (low_code procedures bound) (expression_code procedures bound) (low_keeps procedures bound) (expression_keeps procedures bound))
        (level_then body again (statements_level ss 0) (next_level o x (operand_of step) (expression_code procedures step) before (expression_keeps procedures step))))
    statement_level Leaving exit = refl
    statement_level (Round l) exit = refl
    statement_level (Comparing i e l) exit = refl
    statement_level (Stepping e l) exit = refl
    statement_level (Adding i s l) exit = refl
    statement_level (Storing s b l) exit = refl
    statement_level (Ending b l) exit = refl

    pub statements_level : (ss : Statements) (exit : ℕ) → behind 0 (statements_code procedures around exit ss) ≡ 0
    statements_level End exit = refl
    statements_level (Then s later) exit =
        level_then (statement_code procedures around (exit_before (are_silent later) exit) s) (statements_code procedures around exit later) (statement_level s (exit_before (are_silent later) exit)) (statements_level later exit)
    statements_level (Returned v) exit = refl

    cases_level : (ss : Statements) (exit : ℕ) → AreLevel (cases_code procedures around exit ss)
    cases_level End exit = tt
    cases_level (Then s later) exit =
        let others = cases_code procedures around exit later in
        let rest = length (all_of others) + exit in
        (level_then (statement_code procedures around (1 + rest) s) (op.Ahead rest ∷ []) (statement_level s (1 + rest)) refl, cases_level later exit)
    cases_level (Returned v) exit = tt

module _ (MayCall : ℕ → Type 0) (Enables : Type 0) (Spot : ℕ → Type 0) (sizes : List ℕ) (procedures : List Procedure) (around : Kind) where
  abbrev F : ℕ → List Instruction → Type 0
  F = Fitting MayCall Enables (IsServing around) Spot

  abbrev C : ℕ → List Instruction → Type 0
  C = Calm MayCall Enables (IsServing around) Spot

  calm : (e : Expression) → C 0 (expression_code procedures e) → (exit : ℕ) → F exit (expression_code procedures e)
  calm e f exit p s end = f p

  returning_fits : (around : Kind) → MayReturn sizes procedures MayCall around → (p : ℕ) → Fits MayCall Enables (IsServing around) Spot p 0 (returning around)
  returning_fits OfMain may p = tt
  returning_fits Called may p = (tt, tt)
  returning_fits Giving may p = (omega arith, (tt, tt))
  returning_fits Serving may p = (tt, tt)

  narrowed_calm : (w : Width) → C 0 (narrowed w ++ op.Leave ∷ [])
  narrowed_calm widths.Byte p = (tt, (tt, tt))
  narrowed_calm widths.Word p = (tt, tt)

  mutual
    pub statement_fits : (s : Statement) → IsStatement sizes procedures MayCall around s → (Lets s → Enables) → (exit : ℕ) → F exit (statement_code procedures around exit s)
    statement_fits Empty good lets exit = λ p s end. tt
    statement_fits (Assign ts e) good lets exit = λ p s end. assigned_calm MayCall Enables (IsServing around) Spot sizes procedures ts e good.0 good.1 0 p
    statement_fits (Evaluate e) good lets exit = λ p s end. dropped_calm MayCall Enables (IsServing around) Spot sizes procedures e good 0 p
    statement_fits Return good lets exit = λ p s end. returning_fits around good p
    statement_fits (ReturnValue w e) good lets exit = λ p s end.
        fits_then MayCall Enables (IsServing around) Spot p 0 0 (returned_code procedures w e) (narrowed w ++ op.Leave ∷ []) (returned_calm MayCall Enables (IsServing around) Spot sizes procedures w e good.1 0 p) (returned_keeps procedures w e 0)
        (narrowed_calm w (p + length (returned_code procedures w e)))
    statement_fits Enabling good lets exit = λ p s end. (lets tt, tt)
    statement_fits Disabling good lets exit = λ p s end. (tt, tt)
    statement_fits Halting good lets exit = λ p s end. (lets tt, tt)
    statement_fits (If c arm other) good lets exit =
        let otherwise = statements_code procedures around exit other in
        let arm_exit = length (over (are_silent other) otherwise exit) + length otherwise + exit in
        choosing_fits MayCall Enables (IsServing around) Spot (condition_code procedures c) (statements_code procedures around arm_exit arm) otherwise (test_of c) (are_silent other) exit (λ h. silents_code procedures around other h exit)
        (condition_calm MayCall Enables (IsServing around) Spot sizes procedures c good.0) (condition_up procedures c) (test_word MayCall Enables (IsServing around) Spot sizes procedures c good.0) (statements_level procedures around arm arm_exit)
        (statements_fit arm good.1 (λ h. lets (inl h)) arm_exit) (statements_fit other good.2 (λ h. lets (inr h)) exit)
    statement_fits (Block ss) good lets exit = statements_fit ss good lets exit
    statement_fits (While left c ss) good lets exit =
        while_loop_fits MayCall Enables (IsServing around) Spot (always c) (condition_code procedures c) (statements_code procedures around 0 ss) (test_of c) exit (condition_calm MayCall Enables (IsServing around) Spot sizes procedures c good.1) (condition_up procedures c)
        (test_word MayCall Enables (IsServing around) Spot sizes procedures c good.1) (statements_level procedures around ss 0) (statements_fit ss good.2 lets 0)
    statement_fits (Case e ss) good lets exit =
        one_then_more MayCall Enables (IsServing around) Spot false (expression_code procedures e) (switching (cases_code procedures around exit ss) exit) exit (λ h. cc) (expression_keeps procedures e 0)
        (calm e (expression_calm MayCall Enables (IsServing around) Spot sizes procedures e good.0 0) 0)
        (switching_fits MayCall Enables (IsServing around) Spot (cases_code procedures around exit ss) exit (cases_level procedures around ss exit) (cases_fit ss good.1 lets exit))
    statement_fits (Iterate a (Count o x bound step ss)) good lets exit =
        let bytes = counts_bytes x bound in
        let comparison = compared bytes (beside (operand_of bound) (low_code procedures bound)) (beside (operand_of bound) (expression_code procedures bound)) in
        let index = Name x.width (place_of x.place) in
        let in_place = named bytes (within o) index (operand_of bound) in
        counted_fits MayCall Enables (IsServing around) Spot (returned_code procedures x.width a) (unless_named in_place (index_read bytes x ∷ comparison))
        (statements_code procedures around 0 ss) (expression_code procedures step) o x (operand_of step)
        (compared_by bytes (within o) index (operand_of bound)) exit (returned_calm MayCall Enables (IsServing around) Spot sizes procedures x.width a good.0 0) (returned_keeps procedures x.width a 0)
        (bound_calm MayCall Enables (IsServing around) Spot sizes procedures in_place bytes x bound good.1.1)
        (bound_up bytes (within o) x index (operand_of bound) (low_code procedures bound) (expression_code procedures bound) (low_keeps procedures bound) (expression_keeps procedures bound))
        (bound_word MayCall Enables (IsServing around) Spot sizes procedures bytes (within o) index bound good.1.1)
        (statements_level procedures around ss 0) (statements_fit ss good.1.3 lets 0) (operand_word MayCall Enables (IsServing around) Spot sizes procedures step good.1.2) (expression_keeps procedures step)
        (expression_calm MayCall Enables (IsServing around) Spot sizes procedures step good.1.2 0)
    statement_fits Leaving good lets exit = absurd good
    statement_fits (Round l) good lets exit = absurd good
    statement_fits (Comparing i e l) good lets exit = absurd good
    statement_fits (Stepping e l) good lets exit = absurd good
    statement_fits (Adding i s l) good lets exit = absurd good
    statement_fits (Storing s b l) good lets exit = absurd good
    statement_fits (Ending b l) good lets exit = absurd good

    pub statements_fit : (ss : Statements) → AreStatements sizes procedures MayCall around ss → (Let ss → Enables) → (exit : ℕ) → F exit (statements_code procedures around exit ss)
    statements_fit End good lets exit = λ p s end. tt
    statements_fit (Then s later) good lets exit =
        let silent = are_silent later in
        one_then_more MayCall Enables (IsServing around) Spot silent (statement_code procedures around (exit_before silent exit) s) (statements_code procedures around exit later) exit (λ h. silents_code procedures around later h exit)
        (statement_level procedures around s (exit_before silent exit)) (statement_fits s good.0 (λ h. lets (inl h)) (exit_before silent exit)) (statements_fit later good.1 (λ h. lets (inr h)) exit)
    statements_fit (Returned v) good lets exit = absurd good

    cases_fit : (ss : Statements) → AreStatements sizes procedures MayCall around ss → (Let ss → Enables) → (exit : ℕ) → F exit (all_of (cases_code procedures around exit ss))
    cases_fit End good lets exit = λ p s end. tt
    cases_fit (Then s later) good lets exit =
        let others = all_of (cases_code procedures around exit later) in
        let rest = length others + exit in
        case_fits MayCall Enables (IsServing around) Spot (statement_code procedures around (1 + rest) s) others exit (statement_level procedures around s (1 + rest)) (statement_fits s good.0 (λ h. lets (inl h)) (1 + rest)) (cases_fit later good.1 (λ h. lets (inr h)) exit)
    cases_fit (Returned v) good lets exit = absurd good

  -- ---- statements to whose end control never comes: no jump leads there

  endless_fits : (s : Statement) → stays s ≡ true → IsStatement sizes procedures MayCall around s → (Lets s → Enables) → (exit p : ℕ) → Inner MayCall Enables (IsServing around) Spot p (statement_code procedures around exit s)
      → Fits MayCall Enables (IsServing around) Spot p 0 (statement_code procedures around exit s)
  endless_fits (ReturnValue w e) h good lets exit p s =
      fits_then MayCall Enables (IsServing around) Spot p 0 0 (returned_code procedures w e) (narrowed w ++ op.Leave ∷ []) (returned_calm MayCall Enables (IsServing around) Spot sizes procedures w e good.1 0 p) (returned_keeps procedures w e 0)
      (narrowed_calm w (p + length (returned_code procedures w e)))
  endless_fits (While left c ss) h good lets exit p s =
      let body = statements_code procedures around 0 ss in
      let code = λ (b : Bool). while_loop b (condition_code procedures c) (test_of c) body exit in
      subst (λ b. Fits MayCall Enables (IsServing around) Spot p 0 (code b)) (sym h)
      (forever_fits MayCall Enables (IsServing around) Spot body p (statements_level procedures around ss 0) (statements_fit ss good.2 lets 0) (subst (λ b. Inner MayCall Enables (IsServing around) Spot p (code b)) h s))
  endless_fits Empty h good lets exit p s = absurd (true≢false (sym h))
  endless_fits (Assign ts e) h good lets exit p s = absurd (true≢false (sym h))
  endless_fits (Evaluate e) h good lets exit p s = absurd (true≢false (sym h))
  endless_fits Return h good lets exit p s = absurd (true≢false (sym h))
  endless_fits Enabling h good lets exit p s = absurd (true≢false (sym h))
  endless_fits Disabling h good lets exit p s = absurd (true≢false (sym h))
  endless_fits Halting h good lets exit p s = absurd (true≢false (sym h))
  endless_fits (If c arm other) h good lets exit p s = absurd (true≢false (sym h))
  endless_fits (Block ss) h good lets exit p s = absurd (true≢false (sym h))
  endless_fits (Case e ss) h good lets exit p s = absurd (true≢false (sym h))
  endless_fits (Iterate e l) h good lets exit p s = absurd (true≢false (sym h))
  endless_fits Leaving h good lets exit p s = absurd (true≢false (sym h))
  endless_fits (Round l) h good lets exit p s = absurd (true≢false (sym h))
  endless_fits (Comparing i e l) h good lets exit p s = absurd (true≢false (sym h))
  endless_fits (Stepping e l) h good lets exit p s = absurd (true≢false (sym h))
  endless_fits (Adding i t l) h good lets exit p s = absurd (true≢false (sym h))
  endless_fits (Storing t b l) h good lets exit p s = absurd (true≢false (sym h))
  endless_fits (Ending b l) h good lets exit p s = absurd (true≢false (sym h))

  endless_some : (s : Statement) → stays s ≡ true → (exit : ℕ) → 1 ≤ length (statement_code procedures around exit s)
  endless_some (ReturnValue w e) h exit =
      let l = length-append (returned_code procedures w e) (narrowed w ++ op.Leave ∷ []) in
      let m = length-append (narrowed w) (op.Leave ∷ []) in
      omega (arith, l, m)
  endless_some (While left c ss) h exit =
      let body = statements_code procedures around 0 ss in
      let l = length-append body (op.Back (length body + 1) ∷ []) in
      subst (λ b. 1 ≤ length (while_loop b (condition_code procedures c) (test_of c) body exit)) (sym h) (omega (arith, l))
  endless_some Empty h exit = absurd (true≢false (sym h))
  endless_some (Assign ts e) h exit = absurd (true≢false (sym h))
  endless_some (Evaluate e) h exit = absurd (true≢false (sym h))
  endless_some Return h exit = absurd (true≢false (sym h))
  endless_some Enabling h exit = absurd (true≢false (sym h))
  endless_some Disabling h exit = absurd (true≢false (sym h))
  endless_some Halting h exit = absurd (true≢false (sym h))
  endless_some (If c arm other) h exit = absurd (true≢false (sym h))
  endless_some (Block ss) h exit = absurd (true≢false (sym h))
  endless_some (Case e ss) h exit = absurd (true≢false (sym h))
  endless_some (Iterate e l) h exit = absurd (true≢false (sym h))
  endless_some Leaving h exit = absurd (true≢false (sym h))
  endless_some (Round l) h exit = absurd (true≢false (sym h))
  endless_some (Comparing i e l) h exit = absurd (true≢false (sym h))
  endless_some (Stepping e l) h exit = absurd (true≢false (sym h))
  endless_some (Adding i s l) h exit = absurd (true≢false (sym h))
  endless_some (Storing s b l) h exit = absurd (true≢false (sym h))
  endless_some (Ending b l) h exit = absurd (true≢false (sym h))

  all_endless_some : (ss : Statements) → all_stay ss ≡ true → (exit : ℕ) → 1 ≤ length (statements_code procedures around exit ss)
  all_endless_some End h exit = absurd (true≢false (sym h))
  all_endless_some (Returned v) h exit = absurd (true≢false (sym h))
  all_endless_some (Then s End) h exit =
      let l = length-append (statement_code procedures around exit s) [] in
      let m = endless_some s h exit in
      omega (arith, l, m)
  all_endless_some (Then s (Then t rest)) h exit =
      let more = Then t rest in
      let l = length-append (statement_code procedures around (exit_before (are_silent more) exit) s) (statements_code procedures around exit more) in
      let m = all_endless_some (Then t rest) h exit in
      omega (arith, l, m)
  all_endless_some (Then s (Returned v)) h exit = absurd (true≢false (sym h))

  pub all_endless_fit : (ss : Statements) → all_stay ss ≡ true → AreStatements sizes procedures MayCall around ss → (Let ss → Enables) → (exit p : ℕ) → Inner MayCall Enables (IsServing around) Spot p (statements_code procedures around exit ss)
      → Fits MayCall Enables (IsServing around) Spot p 0 (statements_code procedures around exit ss)
  all_endless_fit End h good lets exit p s = absurd (true≢false (sym h))
  all_endless_fit (Returned v) h good lets exit p s = absurd (true≢false (sym h))
  all_endless_fit (Then t End) h good lets exit p s =
      let code = statement_code procedures around exit t in
      let none = append-nil code in
      subst (λ c. Fits MayCall Enables (IsServing around) Spot p 0 c) (sym none) (endless_fits t h good.0 (λ l. lets (inl l)) exit p (subst (λ c. Inner MayCall Enables (IsServing around) Spot p c) none s))
  all_endless_fit (Then t (Then u rest)) h good lets exit p s =
      let more = Then u rest in
      let code = statement_code procedures around 0 t in
      let others = statements_code procedures around exit more in
      let loud = stay_all_loud more h in
      let whole = λ (b : Bool). statement_code procedures around (exit_before b exit) t ++ others in
      let some = all_endless_some more h exit in
      let level = statement_level procedures around t 0 in
      let inner : Inner MayCall Enables (IsServing around) Spot p (code ++ others) = subst (λ b. Inner MayCall Enables (IsServing around) Spot p (whole b)) loud s in
      let rest_inner = inner_back MayCall Enables (IsServing around) Spot p code others level inner in
      subst (λ b. Fits MayCall Enables (IsServing around) Spot p 0 (whole b)) (sym loud)
      (fits_then MayCall Enables (IsServing around) Spot p 0 0 code others
      (statement_fits t good.0 (λ l. lets (inl l)) 0 p (inner_front MayCall Enables (IsServing around) Spot p code others some inner) (subst Spot (omega arith) (inner_first MayCall Enables (IsServing around) Spot (p + length code) others some rest_inner)))
      level (all_endless_fit (Then u rest) h good.1 (λ l. lets (inr l)) exit (p + length code) rest_inner))
  all_endless_fit (Then t (Returned v)) h good lets exit p s = absurd (true≢false (sym h))

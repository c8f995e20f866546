-- The code of statements does what their rest does.
use Rattle.std.proofs.lemmas.Bool.{and_parts, and_left, and_right, ltb-true, ltb-false}
use Rattle.std.proofs.Common.{◌≡◌, ℕ, zero, suc, ◌+◌, ◌-◌, ◌*◌, ◌/◌, ◌%◌, ◌<◌, ◌≤◌, Bool, true, false, List, [], ◌∷◌, ◌++◌, length, Option, Some, None, refl, sym, ap, ◌∙◌, subst, arith, slice_get, length-append, true≢false}
use Rattle.std.specs.Prelude.{if◌then◌else◌, nat_lt, ◌&&◌}
use Rattle.word86.specs.declared.width.Width.{Width}
use Rattle.word86.specs.declared.width.Width.TheVariants as widths
use Rattle.word86.specs.declared.operation.UnaryOperation.TheVariants as unary
use Rattle.word86.specs.declared.operation.BinaryOperation.TheVariants as binary
use Rattle.word86.specs.Access.{Where, Read, Write, values}
use Rattle.word86.specs.Action.{Silent, Touch}
use Rattle.word86.specs.Arithmetic.{low}
use Rattle.plm_type.specs.declared.program.Counting.{Counting}
use Rattle.plm_type.specs.declared.program.Counting.TheVariants as counting
use Rattle.plm_type.specs.Rest.{Anchor, Scalar, Expression, Constant, Plain, Variable, Location, Unary, Binary, Embedded, Input, Call, Value, Passing, Running, Refer, Subscripts, Subscript, Target, ToVariable, Targets, Only, Also, Loop, Count, Statement, Empty, Assign, Evaluate, Return, ReturnValue, Enabling, Disabling, Halting, If, Block, While, Case, Iterate, Leaving, Round, Comparing, Stepping, Adding, Storing, Ending, Statements, End, Then, Returned, Rest}
use Rattle.plm_type.specs.Next.{value_of, is_odd, behind, evaluated, leaves}
use Rattle.icode.specs.declared.instruction.Instruction.{Instruction}
use Rattle.icode.specs.declared.instruction.Instruction.TheVariants as op
use Rattle.icode.specs.declared.instruction.Relation.{Relation}
use Rattle.icode.specs.declared.instruction.Relation.TheVariants as relation
use Rattle.icode.specs.declared.instruction.LowByte.TheVariants as lows
use Rattle.icode.specs.declared.instruction.High.TheVariants as highs
use Rattle.icode.specs.declared.instruction.Test.{Test}
use Rattle.icode.specs.declared.instruction.Test.TheVariants as test
use Rattle.icode.specs.declared.code.Routine.{Routine}
use Rattle.icode.specs.declared.code.Word.{Word}
use Rattle.icode.specs.declared.code.Word.TheVariants as words
use Rattle.icode.specs.Machine.{Context, At, stands, stored, with_low, loaded, switched}
use Rattle.lower.proofs.LowBytes.{HasLow, fits_small, low_sim}
use Rattle.lower.specs.Expressions.{folded, Operand, Number, Name, Computed, operand_of, place_of, anchor_place, beside, expression_code, subscripts_code, target_code, targets_code, calling, are_giving}
use Rattle.lower.specs.Statements.{Kind, OfMain, Called, Giving, Serving, returning, narrowed, within, next_with_sign, next_by_number, add_pushed, next_round, is_silent, are_silent, over, choosing, all_of, entries, switching, exit_before, statement_code, statements_code, cases_code, ending, while_loop, counts_bytes, index_read, stays, all_stay, ended_by}
use Rattle.lower.specs.LowBytes.{given_code, returned_code, is_byte, is_narrow, low_code, low_load}
use Rattle.lower.specs.Conditions.{test_of, condition_code, always, compared, related, named, or_test, unless_named, compared_by}
use Rattle.lower.specs.Well.{StepIs, Lies, IsExpression, AreTargets, MayReturn, MayReturnValue, IsStatement, IsLoop, AreStatements}
use Rattle.lower.proofs.Setting.{Setting}
use Rattle.lower.proofs.Sim.{N, X, T, S, fewer, eased, then_, up, up_free, down, down_more, both, both_more, touches, touches_more, enables, disables, halts}
use Rattle.lower.proofs.Holes.{IsHole, IsBody, in_assign, in_evaluate, in_return, in_if, in_while, in_case, in_iterate, in_comparing, in_stepping, in_only, in_also, acts, HasAt, has_front, has_back}
use Rattle.lower.proofs.Sums.{up_sum, down_sum, named_up, computed_up, counted_sum}
use Rattle.lower.proofs.Memory.{IsFixed, found_plain}
use Rattle.lower.proofs.Values.{low_word}
use Rattle.lower.proofs.Nodes.{nodes, all_nodes, subscripts_nodes, target_nodes, targets_nodes}
use Rattle.lower.proofs.Folds.{folded_small, folds}
use Rattle.lower.proofs.Exprs.{IsOperand, operand_is, Left, ProcedureRuns, moved_to, has_at, rise_in, rise, soon, push_then, fixed_written}
use Rattle.lower.proofs.Terms.{not_value, expression_sim, call_sim, subscripts_sim, target_sim}
use Rattle.lower.proofs.Stores.{assigned}
use Rattle.lower.proofs.LowTargets.{AllGet, given_sim}
use Rattle.lower.proofs.InPlace.{Suits, name_named}
use Rattle.lower.proofs.Tests.{constant_fits, Holds, condition_sim, bound_sim, bound_in_place}
use Rattle.lower.proofs.Fits.{entries_length}
use Rattle.lower.proofs.Leads.{lead, leads}

-- the first part of code, and one more instruction
pub has_head : (ops : List Instruction) (p : ℕ) (a : List Instruction) (i : Instruction) (b : List Instruction) → HasAt ops p (a ++ (i ∷ b)) → HasAt ops p (a ++ i ∷ [])
has_head ops p [] i b h = (h.0, tt)
has_head ops p (j ∷ a) i b h = (h.0, has_head ops (p + 1) a i b h.1)

-- ---- what has no code

module _ (procedures : List Rattle.plm_type.specs.Rest.Procedure) (around : Kind) where
  mutual
    pub silent_code : (s : Statement) → is_silent s ≡ true → (exit : ℕ) → statement_code procedures around exit s ≡ []
    silent_code Empty h exit = refl
    silent_code (Block ss) h exit = silents_code ss h exit
    silent_code (Assign ts e) h exit = absurd (true≢false (sym h))
    silent_code (Evaluate e) h exit = absurd (true≢false (sym h))
    silent_code Return h exit = absurd (true≢false (sym h))
    silent_code (ReturnValue w e) h exit = absurd (true≢false (sym h))
    silent_code Enabling h exit = absurd (true≢false (sym h))
    silent_code Disabling h exit = absurd (true≢false (sym h))
    silent_code Halting h exit = absurd (true≢false (sym h))
    silent_code (If c arm other) h exit = absurd (true≢false (sym h))
    silent_code (While l c ss) h exit = absurd (true≢false (sym h))
    silent_code (Case e ss) h exit = absurd (true≢false (sym h))
    silent_code (Iterate e l) h exit = absurd (true≢false (sym h))
    silent_code Leaving h exit = absurd (true≢false (sym h))
    silent_code (Round l) h exit = absurd (true≢false (sym h))
    silent_code (Comparing i e l) h exit = absurd (true≢false (sym h))
    silent_code (Stepping e l) h exit = absurd (true≢false (sym h))
    silent_code (Adding i s l) h exit = absurd (true≢false (sym h))
    silent_code (Storing s b l) h exit = absurd (true≢false (sym h))
    silent_code (Ending b l) h exit = absurd (true≢false (sym h))

    pub silents_code : (ss : Statements) → are_silent ss ≡ true → (exit : ℕ) → statements_code procedures around exit ss ≡ []
    silents_code End h exit = refl
    silents_code (Then s later) h exit =
        let b = and_parts (is_silent s) (are_silent later) h in
        ap (λ c. c ++ statements_code procedures around exit later) (silent_code s b.0 (exit_before (are_silent later) exit)) ∙ silents_code later b.1 exit
    silents_code (Returned v) h exit = absurd (true≢false (sym h))

low_twice : (w : Width) (v : ℕ) → low w (low w v) ≡ low w v
low_twice widths.Byte v = omega arith
low_twice widths.Word v = omega arith

behind_if : (b : Bool) (s t later : Statements) → behind (if b then s else t) later ≡ (if b then behind s later else behind t later)
behind_if true s t later = refl
behind_if false s t later = refl

-- statements to whose end control never comes have code
stay_loud : (s : Statement) → stays s ≡ true → is_silent s ≡ false
stay_loud (ReturnValue w e) h = refl
stay_loud (While l c ss) h = refl
stay_loud Empty h = absurd (true≢false (sym h))
stay_loud (Assign ts e) h = absurd (true≢false (sym h))
stay_loud (Evaluate e) h = absurd (true≢false (sym h))
stay_loud Return h = absurd (true≢false (sym h))
stay_loud Enabling h = absurd (true≢false (sym h))
stay_loud Disabling h = absurd (true≢false (sym h))
stay_loud Halting h = absurd (true≢false (sym h))
stay_loud (If c arm other) h = absurd (true≢false (sym h))
stay_loud (Block ss) h = absurd (true≢false (sym h))
stay_loud (Case e ss) h = absurd (true≢false (sym h))
stay_loud (Iterate e l) h = absurd (true≢false (sym h))
stay_loud Leaving h = absurd (true≢false (sym h))
stay_loud (Round l) h = absurd (true≢false (sym h))
stay_loud (Comparing i e l) h = absurd (true≢false (sym h))
stay_loud (Stepping e l) h = absurd (true≢false (sym h))
stay_loud (Adding i s l) h = absurd (true≢false (sym h))
stay_loud (Storing s b l) h = absurd (true≢false (sym h))
stay_loud (Ending b l) h = absurd (true≢false (sym h))

pub stay_all_loud : (ss : Statements) → all_stay ss ≡ true → are_silent ss ≡ false
stay_all_loud End h = absurd (true≢false (sym h))
stay_all_loud (Returned v) h = absurd (true≢false (sym h))
stay_all_loud (Then s End) h = and_left (is_silent s) true (stay_loud s h)
stay_all_loud (Then s (Then t rest)) h = and_right (is_silent s) (are_silent (Then t rest)) (stay_all_loud (Then t rest) h)
stay_all_loud (Then s (Returned v)) h = absurd (true≢false (sym h))

module _ (x : Setting) (MayCall : ℕ → Type 0) (calls : (q : ℕ) → MayCall q → ProcedureRuns x q) (around : Kind) (r : Routine) (D : Statements → Rest) (dx : IsBody x D) (ws : List Word) where
  abbrev code_at : ℕ → Statement → List Instruction
  code_at exit s = statement_code x.procedures around exit s

  abbrev codes_at : ℕ → Statements → List Instruction
  codes_at exit ss = statements_code x.procedures around exit ss

  -- a place in the code goes on with this rest, whatever is in the accumulator
  abbrev pub K : (k f n : ℕ) → Statements → ℕ → Type 0
  K k f n later p = (a : ℕ) → S x k n f (D later) (At r p a ws)

  -- what a RETURN leaves is taken
  abbrev pub Returns : Kind → ℕ → Type 0
  Returns OfMain n = Unit {0}
  Returns Called n = (p a : ℕ) → slice_get (x.code r) p ≡ Some op.Leave → S x 1 n 1 (D (Returned 0)) (At r p a ws)
  Returns Giving n = (v p : ℕ) → v < 65536 → slice_get (x.code r) p ≡ Some op.Leave → S x 1 n 0 (D (Returned v)) (At r p v ws)
  Returns Serving n = (v p a : ℕ) → slice_get (x.code r) p ≡ Some op.Finish → S x 0 n 0 (D (Returned v)) (At r p a ws)

  fewer_returns : (kind : Kind) (n : ℕ) → Returns kind (suc n) → Returns kind n
  fewer_returns OfMain n h = tt
  fewer_returns Called n h = λ p a e. fewer x 1 n 1 (D (Returned 0)) (At r p a ws) (h p a e)
  fewer_returns Giving n h = λ v p lt e. fewer x 1 n 0 (D (Returned v)) (At r p v ws) (h v p lt e)
  fewer_returns Serving n h = λ v p a e. fewer x 0 n 0 (D (Returned v)) (At r p a ws) (h v p a e)

  k_at : (k f n : ℕ) (later : Statements) (p q : ℕ) → p ≡ q → K k f n later p → K k f n later q
  k_at k f n later p q e h = subst (λ y. K k f n later y) e h

  k_more : (k j f g n : ℕ) (later : Statements) (p : ℕ) → k ≤ j → f ≤ g → K k f n later p → K j g n later p
  k_more k j f g n later p le lf h a = eased x k j n f g (D later) (At r p a ws) le lf (h a)

  k_fewer : (k f n : ℕ) (later : Statements) (p : ℕ) → K k f (suc n) later p → K k f n later p
  k_fewer k f n later p h a = fewer x k n f (D later) (At r p a ws) (h a)

  -- ---- what has no code

  mutual
    silent_sim : (s : Statement) → is_silent s ≡ true → (n k f : ℕ) (later : Statements) (p : ℕ) → f ≤ 2 → K k f n later p → K (k + lead s) f n (Then s later) p
    silent_sim Empty h n k f later p le go = λ a. eased x (suc k) (k + 1) n f f (D (Then Empty later)) (At r p a ws) (omega arith) (omega arith) (up x k n f le (D (Then Empty later)) (D later) (At r p a ws) (dx (Then Empty later) refl) (go a))
    silent_sim (Block ss) h n k f later p le go = λ a.
        let leaving : K (suc k) f n (Then Leaving later) p = λ b. up x k n f le (D (Then Leaving later)) (D later) (At r p b ws) (dx (Then Leaving later) refl) (go b) in
        eased x (suc (suc k + leads ss)) (k + (leads ss + 2)) n f f (D (Then (Block ss) later)) (At r p a ws) (omega arith) (omega arith)
        (up x (suc k + leads ss) n f le (D (Then (Block ss) later)) (D (behind ss (Then Leaving later))) (At r p a ws) (dx (Then (Block ss) later) refl) (silents_sim ss h n (suc k) f (Then Leaving later) p le leaving a))
    silent_sim (Assign ts e) h n k f later p le go = absurd (true≢false (sym h))
    silent_sim (Evaluate e) h n k f later p le go = absurd (true≢false (sym h))
    silent_sim Return h n k f later p le go = absurd (true≢false (sym h))
    silent_sim (ReturnValue w e) h n k f later p le go = absurd (true≢false (sym h))
    silent_sim Enabling h n k f later p le go = absurd (true≢false (sym h))
    silent_sim Disabling h n k f later p le go = absurd (true≢false (sym h))
    silent_sim Halting h n k f later p le go = absurd (true≢false (sym h))
    silent_sim (If c arm other) h n k f later p le go = absurd (true≢false (sym h))
    silent_sim (While l c ss) h n k f later p le go = absurd (true≢false (sym h))
    silent_sim (Case e ss) h n k f later p le go = absurd (true≢false (sym h))
    silent_sim (Iterate e l) h n k f later p le go = absurd (true≢false (sym h))
    silent_sim Leaving h n k f later p le go = absurd (true≢false (sym h))
    silent_sim (Round l) h n k f later p le go = absurd (true≢false (sym h))
    silent_sim (Comparing i e l) h n k f later p le go = absurd (true≢false (sym h))
    silent_sim (Stepping e l) h n k f later p le go = absurd (true≢false (sym h))
    silent_sim (Adding i s l) h n k f later p le go = absurd (true≢false (sym h))
    silent_sim (Storing s b l) h n k f later p le go = absurd (true≢false (sym h))
    silent_sim (Ending b l) h n k f later p le go = absurd (true≢false (sym h))

    silents_sim : (ss : Statements) → are_silent ss ≡ true → (n k f : ℕ) (later : Statements) (p : ℕ) → f ≤ 2 → K k f n later p → K (k + leads ss) f n (behind ss later) p
    silents_sim End h n k f later p le go = k_more k (k + 0) f f n later p (omega arith) (omega arith) go
    silents_sim (Then s rest) h n k f later p le go =
        let b = and_parts (is_silent s) (are_silent rest) h in
        k_more (k + leads rest + lead s) (k + (lead s + leads rest + 1)) f f n (Then s (behind rest later)) p (omega arith) (omega arith)
        (silent_sim s b.0 n (k + leads rest) f (behind rest later) p le (silents_sim rest b.1 n k f later p le go))
    silents_sim (Returned v) h n k f later p le go = absurd (true≢false (sym h))

  -- ---- what the code of statements does, from where one instruction without a step may come, to their end and their exit

  abbrev pub StatementRuns : Statement → Type 0
  StatementRuns s = is_silent s ≡ false → (n : ℕ) → Returns around n → (exit : ℕ) (later : Statements) (p k : ℕ) → k + lead s ≤ x.room → HasAt (x.code r) p (statement_code x.procedures around exit s)
      → K k 2 n later (p + length (statement_code x.procedures around exit s)) → K k 1 n later (p + length (statement_code x.procedures around exit s) + exit) → K (k + lead s) 1 n (Then s later) p

  abbrev pub StatementsRun : Statements → Type 0
  StatementsRun ss = are_silent ss ≡ false → (n : ℕ) → Returns around n → (exit : ℕ) (later : Statements) (p k : ℕ) → k + leads ss ≤ x.room → HasAt (x.code r) p (statements_code x.procedures around exit ss)
      → K k 2 n later (p + length (statements_code x.procedures around exit ss)) → K k 1 n later (p + length (statements_code x.procedures around exit ss) + exit) → K (k + leads ss) 1 n (behind ss later) p

  -- the same after an instruction that came with a step
  abbrev pub ArmRuns : Statements → Type 0
  ArmRuns ss = (n : ℕ) → Returns around n → (exit : ℕ) (later : Statements) (p k : ℕ) → k + leads ss ≤ x.room → HasAt (x.code r) p (statements_code x.procedures around exit ss)
      → K k 2 n later (p + length (statements_code x.procedures around exit ss)) → K k 1 n later (p + length (statements_code x.procedures around exit ss) + exit) → K (k + leads ss) 2 n (behind ss later) p

  abbrev CaseRuns : Statement → Type 0
  CaseRuns s = (n : ℕ) → Returns around n → (exit : ℕ) (later : Statements) (p k : ℕ) → k + lead s ≤ x.room → HasAt (x.code r) p (statement_code x.procedures around exit s)
      → K k 2 n later (p + length (statement_code x.procedures around exit s)) → K k 1 n later (p + length (statement_code x.procedures around exit s) + exit) → K (k + lead s) 2 n (Then s later) p

  pub arm_runs : (ss : Statements) → StatementsRun ss → (b : Bool) → are_silent ss ≡ b → ArmRuns ss
  arm_runs ss run false e n ret exit later p k small has to out = k_more (k + leads ss) (k + leads ss) 1 2 n (behind ss later) p (omega arith) (omega arith) (run e n ret exit later p k small has to out)
  arm_runs ss run true e n ret exit later p k small has to out =
      let none = ap length (silents_code x.procedures around ss e exit) in
      silents_sim ss e n k 2 later p (omega arith) (k_at k 2 n later (p + length (codes_at exit ss)) p (omega (arith, none)) to)

  case_runs : (s : Statement) → StatementRuns s → (b : Bool) → is_silent s ≡ b → CaseRuns s
  case_runs s run false e n ret exit later p k small has to out = k_more (k + lead s) (k + lead s) 1 2 n (Then s later) p (omega arith) (omega arith) (run e n ret exit later p k small has to out)
  case_runs s run true e n ret exit later p k small has to out =
      let none = ap length (silent_code x.procedures around s e exit) in
      silent_sim s e n k 2 later p (omega arith) (k_at k 2 n later (p + length (code_at exit s)) p (omega (arith, none)) to)

  -- a statement, and those after it
  pair_runs : (s : Statement) (rest : Statements) → StatementRuns s → StatementsRun rest → (bs br : Bool) → is_silent s ≡ bs → are_silent rest ≡ br → (bs && br) ≡ false → (n : ℕ) → Returns around n → (exit : ℕ) (later : Statements) (p k : ℕ) → k + (lead s + leads rest + 1) ≤ x.room
      → HasAt (x.code r) p (code_at (exit_before br exit) s ++ codes_at exit rest) → K k 2 n later (p + length (code_at (exit_before br exit) s ++ codes_at exit rest)) → K k 1 n later (p + length (code_at (exit_before br exit) s ++ codes_at exit rest) + exit)
      → K (k + (lead s + leads rest + 1)) 1 n (Then s (behind rest later)) p
  pair_runs s rest run runs true true es er theirs n ret exit later p k small has to out = absurd (true≢false theirs)
  pair_runs s rest run runs false true es er theirs n ret exit later p k small has to out =
      let cs = code_at exit s in
      let cr = codes_at exit rest in
      let none = ap length (silents_code x.procedures around rest er exit) in
      let len = length-append cs cr in
      let two = silents_sim rest er n k 2 later (p + length cs) (omega arith) (k_at k 2 n later (p + length (cs ++ cr)) (p + length cs) (omega (arith, none, len)) to) in
      let one = silents_sim rest er n k 1 later (p + length cs + exit) (omega arith) (k_at k 1 n later (p + length (cs ++ cr) + exit) (p + length cs + exit) (omega (arith, none, len)) out) in
      k_more (k + leads rest + lead s) (k + (lead s + leads rest + 1)) 1 1 n (Then s (behind rest later)) p (omega arith) (omega arith)
      (run es n ret exit (behind rest later) p (k + leads rest) (omega (arith, small)) (has_front (x.code r) p cs cr has) two one)
  pair_runs s rest run runs true false es er theirs n ret exit later p k small has to out =
      let cs = code_at 0 s in
      let cr = codes_at exit rest in
      let none = ap length (silent_code x.procedures around s es 0) in
      let len = length-append cs cr in
      let next = runs er n ret exit later (p + length cs) k (omega (arith, small)) (has_back (x.code r) p cs cr has) (k_at k 2 n later (p + length (cs ++ cr)) (p + length cs + length cr) (omega (arith, len)) to) (k_at k 1 n later (p + length (cs ++ cr) + exit) (p + length cs + length cr + exit) (omega (arith, len)) out) in
      k_more (k + leads rest + lead s) (k + (lead s + leads rest + 1)) 1 1 n (Then s (behind rest later)) p (omega arith) (omega arith)
      (silent_sim s es n (k + leads rest) 1 (behind rest later) p (omega arith) (k_at (k + leads rest) 1 n (behind rest later) (p + length cs) p (omega (arith, none)) next))
  pair_runs s rest run runs false false es er theirs n ret exit later p k small has to out =
      let cs = code_at 0 s in
      let cr = codes_at exit rest in
      let len = length-append cs cr in
      let next = runs er n ret exit later (p + length cs) k (omega (arith, small)) (has_back (x.code r) p cs cr has) (k_at k 2 n later (p + length (cs ++ cr)) (p + length cs + length cr) (omega (arith, len)) to) (k_at k 1 n later (p + length (cs ++ cr) + exit) (p + length cs + length cr + exit) (omega (arith, len)) out) in
      k_more (k + leads rest + lead s) (k + (lead s + leads rest + 1)) 1 1 n (Then s (behind rest later)) p (omega arith) (omega arith)
      (run es n ret 0 (behind rest later) p (k + leads rest) (omega (arith, small)) (has_front (x.code r) p cs cr has)
      (k_more (k + leads rest) (k + leads rest) 1 2 n (behind rest later) (p + length cs) (omega arith) (omega arith) next)
      (k_at (k + leads rest) 1 n (behind rest later) (p + length cs) (p + length cs + 0) (omega arith) next))

  -- ---- assignments, and what is evaluated

  to_room : (k n : ℕ) (later : Statements) (p a : ℕ) → k ≤ x.room → K k 2 n later p → S x x.room n 2 (D later) (At r p a ws)
  to_room k n later p a le go = eased x k x.room n 2 2 (D later) (At r p a ws) le (omega arith) (go a)

  targets_sim : (ts : Targets) → AreTargets x.sizes x.procedures MayCall ts → targets_nodes ts + 2 ≤ x.room → (n v u : ℕ) → AllGet ts v u → (later : Statements) (p : ℕ) → HasAt (x.code r) p (targets_code x.procedures ts) → S x x.room n 2 (D later) (At r (p + length (targets_code x.procedures ts)) u ws)
      → S x (targets_nodes ts + 2) n 2 (D (Then (Assign ts (Value v)) later)) (At r p u ws)
  targets_sim (Only t) good fits n v u gets later p has go = target_sim x MayCall calls t good fits n v u gets (λ y. D (Then (Assign (Only y) (Value v)) later)) (D later) (in_only x D dx later v) r p ws has go
  targets_sim (Also t ts) good fits n v u gets later p has go =
      let ct = target_code x.procedures t in
      let cs = targets_code x.procedures ts in
      eased x (target_nodes t + 2) (targets_nodes (Also t ts) + 2) n 2 2 (D (Then (Assign (Also t ts) (Value v)) later)) (At r p u ws) (omega arith) (omega arith)
      (target_sim x MayCall calls t good.0 (omega (arith, fits)) n v u gets.0 (λ y. D (Then (Assign (Also y ts) (Value v)) later)) (D (Then (Assign ts (Value v)) later)) (in_also x D dx later v ts) r p ws (has_front (x.code r) p ct cs has)
      (rise_in x (targets_nodes ts + 2) n 2 (D (Then (Assign ts (Value v)) later)) (At r (p + length ct) u ws) (omega (arith, fits)) (omega arith)
      (targets_sim ts good.1 (omega (arith, fits)) n v u gets.1 later (p + length ct) (has_back (x.code r) p ct cs has) (moved_to x x.room n 2 (D later) r (p + length (ct ++ cs)) (p + length ct + length cs) u ws (omega (arith, length-append ct cs)) go))))

  -- what this code does, if it is an assignment's
  abbrev AssignedBy : Targets → Expression → List Instruction → Type 0
  AssignedBy ts e code = (n : ℕ) (later : Statements) (p k : ℕ) → k + lead (Assign ts e) ≤ x.room → HasAt (x.code r) p code → K k 2 n later (p + length code) → K (k + lead (Assign ts e)) 1 n (Then (Assign ts e) later) p

  -- the value of a constant takes silent steps alone, and is written where the subscripts lead
  stored_runs : (e : Expression) (c : ℕ) → folded e ≡ Some c → (w : Width) (m l : ℕ) (anchor : Anchor) → IsFixed anchor → (offset stride : ℕ) (f : Expression) (more : Subscripts) → AreTargets x.sizes x.procedures MayCall (Only (ToVariable w (Refer m l anchor offset (Subscript stride f more))))
      → AssignedBy (Only (ToVariable w (Refer m l anchor offset (Subscript stride f more)))) e (subscripts_code x.procedures (Subscript stride f more) ++ op.StoreConstantAt w (anchor_place anchor offset) c ∷ [])
  stored_runs e c is w m l anchor fixed offset stride f more gt n later p k small has to a =
      let ss = Subscript stride f more in
      let t = ToVariable w (Refer m l anchor offset (Subscript stride f more)) in
      let C = λ (y : Target). D (Then (Assign (Only y) (Value c)) later) in
      let tx = in_only x D dx later c in
      let cs = subscripts_code x.procedures (Subscript stride f more) in
      let store = op.StoreConstantAt w (anchor_place anchor offset) c in
      let pc = p + length cs in
      let steps = subscripts_nodes ss + 2 in
      eased x (nodes e + suc steps) (k + (1 + subscripts_nodes ss + nodes e + 5)) n 0 1 (D (Then (Assign (Only t) e) later)) (At r p a ws) (omega arith) (omega arith)
      (folds x e c is (suc steps) n 0 (omega arith) (λ y. D (Then (Assign (Only t) y) later)) (in_assign x D dx later (Only t)) (At r p a ws)
      (λ R u. up x steps n 0 (omega arith) R (C t) (At r p a ws) u
      (subscripts_sim x MayCall calls (Subscript stride f more) gt.1 (omega (arith, small)) n (λ q. C (ToVariable w q)) (tx.part w) m l anchor offset r p ws (has_front (x.code r) p cs (store ∷ []) has)
      (λ further on reached. fixed_written x n c c C (D later) tx r ws m l w refl anchor gt.0 fixed offset further on reached (At r pc on ws) (pc + 1) (acts x r pc on ws store (has_back (x.code r) p cs (store ∷ []) has).0)
      (moved_to x x.room n 2 (D later) r (p + length (cs ++ store ∷ [])) (pc + 1) c ws (omega (arith, length-append cs (store ∷ []))) (to_room k n later (p + length (cs ++ store ∷ [])) c (omega (arith, small)) to))) a)))

  given_runs : (ts : Targets) (e : Expression) → AreTargets x.sizes x.procedures MayCall ts → IsExpression x.sizes x.procedures MayCall e → AssignedBy ts e (given_code x.procedures ts e ++ targets_code x.procedures ts)
  given_runs ts e gt ge n later p k small has to a =
      let ce = given_code x.procedures ts e in
      let ct = targets_code x.procedures ts in
      let pe = p + length ce in
      eased x (nodes e + 2) (k + (targets_nodes ts + nodes e + 5)) n 0 1 (D (Then (Assign ts e) later)) (At r p a ws) (omega arith) (omega arith)
      (given_sim x MayCall calls ts e ge (omega (arith, small)) n (λ y. D (Then (Assign ts y) later)) (in_assign x D dx later ts) r p ws (has_front (x.code r) p ce ct has)
      (λ v u gets. rise_in x (targets_nodes ts + 2) n 2 (D (Then (Assign ts (Value v)) later)) (At r pe u ws) (omega (arith, small)) (omega arith)
      (targets_sim ts gt (omega (arith, small)) n v u gets later pe (has_back (x.code r) p ce ct has) (moved_to x x.room n 2 (D later) r (p + length (ce ++ ct)) (pe + length ct) u ws (omega (arith, length-append ce ct)) (to_room k n later (p + length (ce ++ ct)) u (omega (arith, small)) to)))) a)

  assign_runs : (ts : Targets) (e : Expression) → AreTargets x.sizes x.procedures MayCall ts → IsExpression x.sizes x.procedures MayCall e → StatementRuns (Assign ts e)
  assign_runs ts e gt ge not n ret exit later p k small has to out =
      assigned x.procedures (λ ts code. AreTargets x.sizes x.procedures MayCall ts → AssignedBy ts e code) ts e (stored_runs e) (λ gt. given_runs ts e gt ge) gt n later p k small has to

  evaluated_sim : (e : Expression) → IsExpression x.sizes x.procedures MayCall e → (n : ℕ) (later : Statements) (p k : ℕ) → k + (nodes e + 5) ≤ x.room → HasAt (x.code r) p (expression_code x.procedures e)
      → K k 2 n later (p + length (expression_code x.procedures e)) → K (k + (nodes e + 5)) 1 n (Then (Evaluate e) later) p
  evaluated_sim e ge n later p k small has to a =
      eased x (nodes e + 2) (k + (nodes e + 5)) n 0 1 (D (Then (Evaluate e) later)) (At r p a ws) (omega arith) (omega arith)
      (subst (λ y. S x (nodes e + 2) n 0 (D (evaluated y e later)) (At r p a ws)) (not_value x MayCall calls e ge)
      (expression_sim x MayCall calls e ge (omega (arith, small)) n (λ y. D (evaluated (value_of y) y later)) (in_evaluate x D dx later) r p ws has
      (λ v lt. to_room k n later (p + length (expression_code x.procedures e)) v (omega (arith, small)) to) a))

  -- after a call whose value is dropped the accumulator is not asked for
  left_out : (g : Bool) (n : ℕ) (later : Statements) (p k : ℕ) → k ≤ x.room → K k 2 n later p → Left x g n (λ y. D (evaluated (value_of y) y later)) r p ws
  left_out true n later p k small to = λ v lt. to_room k n later p v small to
  left_out false n later p k small to = λ R i a u e. both x 0 n 1 R (D later) i (At r p a ws) u e (then_ x x.room n 2 2 (D later) (At r p a ws) (omega arith) (omega arith) (to_room k n later p a small to))

  evaluate_runs : (e : Expression) → IsExpression x.sizes x.procedures MayCall e → StatementRuns (Evaluate e)
  evaluate_runs (Call q es) ge not n ret exit later p k small has to out a =
      eased x (all_nodes es + 2) (k + (nodes (Call q es) + 5)) n 0 1 (D (Then (Evaluate (Call q es)) later)) (At r p a ws) (omega arith) (omega arith)
      (call_sim x MayCall calls es q ge (omega (arith, small)) n (λ y. D (evaluated (value_of y) y later)) (in_evaluate x D dx later) r p ws has
      (left_out (are_giving ge.0.0.body) n later (p + length (calling x.procedures q es)) k (omega (arith, small)) to) a)
  evaluate_runs (Constant c) ge not n ret exit later p k small has to out a = evaluated_sim (Constant c) ge n later p k small has to a
  evaluate_runs (Plain w y) ge not n ret exit later p k small has to out a = evaluated_sim (Plain w y) ge n later p k small has to a
  evaluate_runs (Variable w y) ge not n ret exit later p k small has to out a = evaluated_sim (Variable w y) ge n later p k small has to a
  evaluate_runs (Location y) ge not n ret exit later p k small has to out a = evaluated_sim (Location y) ge n later p k small has to a
  evaluate_runs (Unary o w e) ge not n ret exit later p k small has to out a = evaluated_sim (Unary o w e) ge n later p k small has to a
  evaluate_runs (Binary m l o w e f) ge not n ret exit later p k small has to out a = evaluated_sim (Binary m l o w e f) ge n later p k small has to a
  evaluate_runs (Embedded t e) ge not n ret exit later p k small has to out a = evaluated_sim (Embedded t e) ge n later p k small has to a
  evaluate_runs (Input w e) ge not n ret exit later p k small has to out a = evaluated_sim (Input w e) ge n later p k small has to a
  evaluate_runs (Value v) ge not n ret exit later p k small has to out a = absurd ge
  evaluate_runs (Passing q xs vs) ge not n ret exit later p k small has to out a = absurd ge
  evaluate_runs (Running ss) ge not n ret exit later p k small has to out a = absurd ge

  -- ---- RETURN

  return_then : (kind : Kind) → MayReturn x.sizes x.procedures MayCall kind → (n : ℕ) → Returns kind n → (later : Statements) (p a : ℕ) → HasAt (x.code r) p (returning kind) → S x 2 n 1 (D (Then Return later)) (At r p a ws)
  return_then OfMain may n ret later p a has = absurd may
  return_then Called may n ret later p a has = up x 1 n 1 (omega arith) (D (Then Return later)) (D (Returned 0)) (At r p a ws) (dx (Then Return later) refl) (ret p a has.0)
  return_then Giving may n ret later p a has =
      down x 2 n 0 (D (Then Return later)) (At r p a ws) (At r (p + 1) 0 ws) (acts x r p a ws (op.Constant 0) has.0)
      (soon x n 0 0 (D (Then Return later)) (At r (p + 1) 0 ws) (omega arith)
      (up x 1 n 0 (omega arith) (D (Then Return later)) (D (Returned 0)) (At r (p + 1) 0 ws) (dx (Then Return later) refl) (ret 0 (p + 1) (omega arith) has.1.0)))
  return_then Serving may n ret later p a has =
      eased x 1 2 n 0 1 (D (Then Return later)) (At r p a ws) (omega arith) (omega arith)
      (up x 0 n 0 (omega arith) (D (Then Return later)) (D (Returned 0)) (At r p a ws) (dx (Then Return later) refl) (ret 0 p a has.0))

  -- what is in the accumulator of a value for RETURN
  abbrev IsReturned : Width → (value accumulator : ℕ) → Type 0
  IsReturned widths.Byte v c = HasLow v c
  IsReturned widths.Word v c = c ≡ v

  -- a value of which the low byte alone is in the accumulator, where that is wanted
  narrowed_then : (w : Width) (n : ℕ) → Returns Giving n → (v c : ℕ) → v < 65536 → IsReturned w v c → (R : Rest) → N x R ≡ Silent (D (Returned (low w v))) → (p : ℕ) → HasAt (x.code r) p (narrowed w ++ op.Leave ∷ []) → S x 2 n 1 R (At r p c ws)
  narrowed_then widths.Byte n ret v c lt is R u p has =
      down x 2 n 0 R (At r p c ws) (At r (p + 1) (v % 256) ws) (acts x r p c ws (op.Unary unary.Low widths.Word) has.0 ∙ ap (λ y. Silent (At r (p + 1) y ws)) is)
      (soon x n 0 0 R (At r (p + 1) (v % 256) ws) (omega arith)
      (up x 1 n 0 (omega arith) R (D (Returned (v % 256))) (At r (p + 1) (v % 256) ws) u (ret (v % 256) (p + 1) (omega arith) has.1.0)))
  narrowed_then widths.Word n ret v c lt is R u p has =
      eased x 2 2 n 0 1 R (At r p c ws) (omega arith) (omega arith)
      (up x 1 n 0 (omega arith) R (D (Returned v)) (At r p c ws) (u ∙ ap (λ y. Silent (D (Returned y))) (low_word v lt)) (subst (λ y. S x 1 n 0 (D (Returned v)) (At r p y ws)) (sym is) (ret v p lt has.0)))

  -- the value of a RETURN
  returned_sim : (w : Width) (e : Expression) → IsExpression x.sizes x.procedures MayCall e → nodes e + 2 ≤ x.room → (n : ℕ) (C : Expression → Rest) → IsHole x C → (p : ℕ) → HasAt (x.code r) p (returned_code x.procedures w e)
      → ((v c : ℕ) → v < 65536 → IsReturned w v c → S x x.room n 2 (C (Value v)) (At r (p + length (returned_code x.procedures w e)) c ws)) → (a : ℕ) → S x (nodes e + 2) n 0 (C e) (At r p a ws)
  returned_sim widths.Byte e ge fits n C cx p has k a = low_sim x MayCall calls e ge fits n C cx r p ws has (λ v c f h. k v c (fits_small (is_byte e) v f) h) a
  returned_sim widths.Word e ge fits n C cx p has k a = expression_sim x MayCall calls e ge fits n C cx r p ws has (λ v lt. k v v lt refl) a

  value_then : (kind : Kind) → MayReturnValue x.sizes x.procedures MayCall kind → (w : Width) (e : Expression) → IsExpression x.sizes x.procedures MayCall e → nodes e + 2 ≤ x.room → (n : ℕ) → Returns kind n → (later : Statements) (p a : ℕ) → HasAt (x.code r) p (returned_code x.procedures w e ++ (narrowed w ++ op.Leave ∷ []))
      → S x (nodes e + 2) n 0 (D (Then (ReturnValue w e) later)) (At r p a ws)
  value_then OfMain may w e ge fits n ret later p a has = absurd may
  value_then Serving may w e ge fits n ret later p a has = absurd may
  value_then Called may w e ge fits n ret later p a has = absurd may
  value_then Giving may w e ge fits n ret later p a has =
      let ce = returned_code x.procedures w e in
      let cn = narrowed w ++ op.Leave ∷ [] in
      let pe = p + length ce in
      returned_sim w e ge fits n (λ y. D (Then (ReturnValue w y) later)) (in_return x D dx later w) p (has_front (x.code r) p ce cn has)
      (λ v c lt is. rise x n 1 (D (Then (ReturnValue w (Value v)) later)) (At r pe c ws) (omega arith)
      (narrowed_then w n ret v c lt is (D (Then (ReturnValue w (Value v)) later)) (dx (Then (ReturnValue w (Value v)) later) refl) pe (has_back (x.code r) p ce cn has))) a

  -- ---- IF

  -- the condition, once it is known where the two ways lead
  if_then : (c : Expression) (arm other : Statements) → IsExpression x.sizes x.procedures MayCall c → nodes c + 2 ≤ x.room → (n k kk : ℕ) → kk + nodes c ≤ x.room → nodes c + 3 ≤ k → (later : Statements) (p d : ℕ) (tail : List Instruction) → HasAt (x.code r) p (condition_code x.procedures c ++ (op.AheadUnless (test_of c) d ∷ tail))
      → K kk 2 n (behind arm later) (p + length (condition_code x.procedures c) + 1) → K kk 2 n (behind other later) (p + length (condition_code x.procedures c) + 1 + d) → K k 1 n (Then (If c arm other) later) p
  if_then c arm other gc fits n k kk small wide later p d tail has ours theirs a =
      let cc = condition_code x.procedures c in
      let on = p + length cc + 1 in
      eased x (nodes c + 3) k n 0 1 (D (Then (If c arm other) later)) (At r p a ws) wide (omega arith)
      (condition_sim x MayCall calls n kk (omega (arith, small)) D (behind arm later) (behind other later) r on (on + d) ws ours theirs
      (λ y. D (Then (If y arm other) later)) (in_if x D dx later arm other) (λ v. dx (Then (If (Value v) arm other) later) refl ∙ ap (λ y. Silent (D y)) (behind_if (is_odd v) arm other later))
      c gc fits small p d (has_head (x.code r) p cc (op.AheadUnless (test_of c) d) tail has) refl refl a)

  if_by : (c : Expression) (arm other : Statements) → IsExpression x.sizes x.procedures MayCall c → ArmRuns arm → ArmRuns other → (b : Bool) → are_silent other ≡ b → (n : ℕ) → Returns around n → (exit : ℕ) (later : Statements) (p k : ℕ) → k + (nodes c + leads arm + leads other + 5) ≤ x.room
      → HasAt (x.code r) p (choosing (condition_code x.procedures c) (test_of c) (codes_at (length (over b (codes_at exit other) exit) + length (codes_at exit other) + exit) arm) b (codes_at exit other) exit)
      → K k 2 n later (p + length (choosing (condition_code x.procedures c) (test_of c) (codes_at (length (over b (codes_at exit other) exit) + length (codes_at exit other) + exit) arm) b (codes_at exit other) exit))
      → K k 1 n later (p + length (choosing (condition_code x.procedures c) (test_of c) (codes_at (length (over b (codes_at exit other) exit) + length (codes_at exit other) + exit) arm) b (codes_at exit other) exit) + exit)
      → K (k + (nodes c + leads arm + leads other + 5)) 1 n (Then (If c arm other) later) p
  if_by c arm other gc run runs true e n ret exit later p k small has to out =
      let cc = condition_code x.procedures c in
      let co = codes_at exit other in
      let arm_exit = length (over true co exit) + length co + exit in
      let ca = codes_at arm_exit arm in
      let d = length ca + exit in
      let tail = ca ++ ([] ++ co) in
      let on = p + length cc + 1 in
      let kk = k + (leads arm + leads other) in
      let none = ap length (silents_code x.procedures around other e exit) in
      let whole = choosing cc (test_of c) ca true co exit in
      let end_is : p + length whole ≡ on + length ca = omega (arith, none, length-append cc (op.AheadUnless (test_of c) d ∷ tail), length-append ca ([] ++ co)) in
      let h1 : HasAt (x.code r) on tail = (has_back (x.code r) p cc (op.AheadUnless (test_of c) d ∷ tail) has).1 in
      let out' = k_at k 1 n later (p + length whole + exit) (on + d) (omega (arith, end_is)) out in
      let ours = run n ret arm_exit later on k (omega (arith, small)) (has_front (x.code r) on ca ([] ++ co) h1) (k_at k 2 n later (p + length whole) (on + length ca) end_is to) (k_at k 1 n later (on + d) (on + length ca + arm_exit) (omega (arith, none)) out') in
      let theirs = silents_sim other e n k 2 later (on + d) (omega arith) (k_more k k 1 2 n later (on + d) (omega arith) (omega arith) out') in
      if_then c arm other gc (omega (arith, small)) n (k + (nodes c + leads arm + leads other + 5)) kk (omega (arith, small)) (omega arith) later p d tail has
      (k_more (k + leads arm) kk 2 2 n (behind arm later) on (omega arith) (omega arith) ours) (k_more (k + leads other) kk 2 2 n (behind other later) (on + d) (omega arith) (omega arith) theirs)
  if_by c arm other gc run runs false e n ret exit later p k small has to out =
      let cc = condition_code x.procedures c in
      let co = codes_at exit other in
      let past = op.Ahead (length co + exit) ∷ [] in
      let arm_exit = length past + length co + exit in
      let ca = codes_at arm_exit arm in
      let d = length ca + 1 in
      let tail = ca ++ (past ++ co) in
      let on = p + length cc + 1 in
      let pa = on + length ca in
      let kk = k + (leads arm + leads other) in
      let whole = choosing cc (test_of c) ca false co exit in
      let end_is : p + length whole ≡ pa + 1 + length co = omega (arith, length-append cc (op.AheadUnless (test_of c) d ∷ tail), length-append ca (past ++ co)) in
      let h1 : HasAt (x.code r) on tail = (has_back (x.code r) p cc (op.AheadUnless (test_of c) d ∷ tail) has).1 in
      let h2 = has_back (x.code r) on ca (past ++ co) h1 in
      let past_end : K k 2 n later pa = λ a.
      down x k n 1 (D later) (At r pa a ws) (At r (pa + 1 + (length co + exit)) a ws) (acts x r pa a ws (op.Ahead (length co + exit)) h2.0)
      (then_ x k n 1 1 (D later) (At r (pa + 1 + (length co + exit)) a ws) (omega (arith, small)) (omega arith) (k_at k 1 n later (p + length whole + exit) (pa + 1 + (length co + exit)) (omega (arith, end_is)) out a)) in
      let ours = run n ret arm_exit later on k (omega (arith, small)) (has_front (x.code r) on ca (past ++ co) h1) past_end (k_at k 1 n later (p + length whole + exit) (pa + arm_exit) (omega (arith, end_is)) out) in
      let theirs = runs n ret exit later (on + d) k (omega (arith, small)) (has_at x r (pa + 1) (on + d) co (omega arith) h2.1) (k_at k 2 n later (p + length whole) (on + d + length co) (omega (arith, end_is)) to) (k_at k 1 n later (p + length whole + exit) (on + d + length co + exit) (omega (arith, end_is)) out) in
      if_then c arm other gc (omega (arith, small)) n (k + (nodes c + leads arm + leads other + 5)) kk (omega (arith, small)) (omega arith) later p d tail has
      (k_more (k + leads arm) kk 2 2 n (behind arm later) on (omega arith) (omega arith) ours) (k_more (k + leads other) kk 2 2 n (behind other later) (on + d) (omega arith) (omega arith) theirs)

  if_runs : (c : Expression) (arm other : Statements) → IsExpression x.sizes x.procedures MayCall c → ArmRuns arm → ArmRuns other → StatementRuns (If c arm other)
  if_runs c arm other gc run runs not n ret exit later p k small has to out = if_by c arm other gc run runs (are_silent other) refl n ret exit later p k small has to out

  -- ---- DO WHILE: by induction on the number of instructions, of which the jump back uses one up

  while_sim : (c : Expression) → IsExpression x.sizes x.procedures MayCall c → (ss : Statements) → ArmRuns ss → (exit p k : ℕ) → k + (nodes c + leads ss + 5) ≤ x.room
      → HasAt (x.code r) p (condition_code x.procedures c ++ (op.AheadUnless (test_of c) (length (codes_at 0 ss) + 1 + exit) ∷ (codes_at 0 ss ++ op.Back (length (condition_code x.procedures c) + length (codes_at 0 ss) + 2) ∷ []))) → (later : Statements)
      → (n : ℕ) → Returns around n → K k 1 n later (p + length (condition_code x.procedures c) + 1 + length (codes_at 0 ss) + 1 + exit) → (a : ℕ) → S x (nodes c + 3) n 0 (D (Then (While c c ss) later)) (At r p a ws)
  while_sim c gc ss run exit p k small has later zero ret out a = tt
  while_sim c gc ss run exit p k small has later (suc n) ret out a =
      let cc = condition_code x.procedures c in
      let cs = codes_at 0 ss in
      let d = length cs + 1 + exit in
      let back = op.Back (length cc + length cs + 2) ∷ [] in
      let on = p + length cc + 1 in
      let pb = on + length cs in
      let h1 : HasAt (x.code r) on (cs ++ back) = (has_back (x.code r) p cc (op.AheadUnless (test_of c) d ∷ (cs ++ back)) has).1 in
      let h2 = has_back (x.code r) on cs back h1 in
      let again : K 0 1 (suc n) (Then (While c c ss) later) pb = λ b.
      down_more x 0 n 0 (D (Then (While c c ss) later)) (At r pb b ws) (At r p b ws) (acts x r pb b ws (op.Back (length cc + length cs + 2)) h2.0 ∙ ap (λ y. Silent (At r y b ws)) (omega arith))
      (then_ x (nodes c + 3) n 0 0 (D (Then (While c c ss) later)) (At r p b ws) (omega (arith, small)) (omega arith) (while_sim c gc ss run exit p k small has later n (fewer_returns around n ret) (k_fewer k 1 n later (on + length cs + 1 + exit) out) b)) in
      let kk = k + leads ss in
      let ours = run (suc n) ret 0 (Then (While c c ss) later) on 0 (omega (arith, small)) (has_front (x.code r) on cs back h1) (k_more 0 0 1 2 (suc n) (Then (While c c ss) later) pb (omega arith) (omega arith) again) (k_at 0 1 (suc n) (Then (While c c ss) later) pb (pb + 0) (omega arith) again) in
      condition_sim x MayCall calls (suc n) kk (omega (arith, small)) D (behind ss (Then (While c c ss) later)) later r on (on + d) ws
      (k_more (0 + leads ss) kk 2 2 (suc n) (behind ss (Then (While c c ss) later)) on (omega arith) (omega arith) ours)
      (k_more k kk 1 2 (suc n) later (on + d) (omega arith) (omega arith) (k_at k 1 (suc n) later (on + length cs + 1 + exit) (on + d) (omega arith) out))
      (λ y. D (Then (While y c ss) later)) (in_while x D dx later c ss) (λ v. dx (Then (While (Value v) c ss) later) refl)
      c gc (omega (arith, small)) (omega (arith, small)) p d (has_head (x.code r) p cc (op.AheadUnless (test_of c) d) (cs ++ back) has) refl refl a

  -- Without a test: the body again and again. The jump back goes with the rest's steps to the next round.
  round_on : (j : ℕ) → is_odd j ≡ true → (ss : Statements) → ArmRuns ss → (p k : ℕ) → k + (leads ss + 6) ≤ x.room → HasAt (x.code r) p (codes_at 0 ss ++ op.Back (length (codes_at 0 ss) + 1) ∷ []) → (later : Statements)
      → (n : ℕ) → Returns around n → (a : ℕ) → S x (3 + leads ss) n 2 (D (behind ss (Then (While (Constant j) (Constant j) ss) later))) (At r p a ws)
  round_on j odd ss run p k small has later zero ret a = tt
  round_on j odd ss run p k small has later (suc n) ret a =
      let c = Constant j in
      let cs = codes_at 0 ss in
      let back = op.Back (length cs + 1) ∷ [] in
      let pb = p + length cs in
      let W = D (Then (While c c ss) later) in
      let V = D (Then (While (Value j) c ss) later) in
      let h2 = has_back (x.code r) p cs back has in
      let again : (f : ℕ) → f ≤ 2 → K 3 f (suc n) (Then (While c c ss) later) pb = λ f le b.
      eased x 2 3 (suc n) f f W (At r pb b ws) (omega arith) (omega arith)
      (up x 1 (suc n) f le W V (At r pb b ws) (in_while x D dx later c ss c refl)
      (both_more x 0 n f V (D (behind ss (Then (While c c ss) later))) (At r pb b ws) (At r p b ws)
      (dx (Then (While (Value j) c ss) later) refl ∙ ap (λ y. Silent (D (if y then behind ss (Then (While c c ss) later) else later))) odd)
      (acts x r pb b ws (op.Back (length cs + 1)) h2.0 ∙ ap (λ y. Silent (At r y b ws)) (omega arith))
      (then_ x (3 + leads ss) n 2 2 (D (behind ss (Then (While c c ss) later))) (At r p b ws) (omega (arith, small)) (omega arith) (round_on j odd ss run p k small has later n (fewer_returns around n ret) b)))) in
      run (suc n) ret 0 (Then (While c c ss) later) p 3 (omega (arith, small)) (has_front (x.code r) p cs back has) (again 2 (omega arith))
      (k_at 3 1 (suc n) (Then (While c c ss) later) pb (pb + 0) (omega arith) (again 1 (omega arith))) a

  -- a DO WHILE by whether its condition is known to hold
  abbrev WhileLoopRuns : (b : Bool) → Expression → Statements → Type 0
  WhileLoopRuns b c ss = (n : ℕ) → Returns around n → (exit : ℕ) (later : Statements) (p k : ℕ) → k + (nodes c + leads ss + 5) ≤ x.room → HasAt (x.code r) p (while_loop b (condition_code x.procedures c) (test_of c) (codes_at 0 ss) exit)
      → K k 2 n later (p + length (while_loop b (condition_code x.procedures c) (test_of c) (codes_at 0 ss) exit)) → K k 1 n later (p + length (while_loop b (condition_code x.procedures c) (test_of c) (codes_at 0 ss) exit) + exit)
      → K (k + (nodes c + leads ss + 5)) 1 n (Then (While c c ss) later) p

  -- for ever
  abbrev Forever : Expression → Statements → Type 0
  Forever c ss = (n : ℕ) → Returns around n → (exit : ℕ) (later : Statements) (p k : ℕ) → k + (nodes c + leads ss + 5) ≤ x.room → HasAt (x.code r) p (while_loop true (condition_code x.procedures c) (test_of c) (codes_at 0 ss) exit) → K (k + (nodes c + leads ss + 5)) 1 n (Then (While c c ss) later) p

  constant_runs : (j : ℕ) → is_odd j ≡ true → (ss : Statements) → ArmRuns ss → Forever (Constant j) ss
  constant_runs j odd ss run n ret exit later p k small has a =
      let c = Constant j in
      eased x (suc (suc (3 + leads ss))) (k + (nodes c + leads ss + 5)) n 1 1 (D (Then (While c c ss) later)) (At r p a ws) (omega arith) (omega arith)
      (up x (suc (3 + leads ss)) n 1 (omega arith) (D (Then (While c c ss) later)) (D (Then (While (Value j) c ss) later)) (At r p a ws) (in_while x D dx later c ss c refl)
      (up_free x (3 + leads ss) n 1 2 (omega arith) (D (Then (While (Value j) c ss) later)) (D (behind ss (Then (While c c ss) later))) (At r p a ws)
      (dx (Then (While (Value j) c ss) later) refl ∙ ap (λ y. Silent (D (if y then behind ss (Then (While c c ss) later) else later))) odd)
      (round_on j odd ss run p k (omega (arith, small)) has later n ret a)))

  always_runs : (c : Expression) → always c ≡ true → (ss : Statements) → ArmRuns ss → Forever c ss
  always_runs (Constant j) odd ss run = constant_runs j odd ss run
  always_runs (Plain w y) odd ss run = absurd (true≢false (sym odd))
  always_runs (Variable w q) odd ss run = absurd (true≢false (sym odd))
  always_runs (Location q) odd ss run = absurd (true≢false (sym odd))
  always_runs (Unary o w e) odd ss run = absurd (true≢false (sym odd))
  always_runs (Binary m l o w d b) odd ss run = absurd (true≢false (sym odd))
  always_runs (Embedded t e) odd ss run = absurd (true≢false (sym odd))
  always_runs (Input w e) odd ss run = absurd (true≢false (sym odd))
  always_runs (Call q es) odd ss run = absurd (true≢false (sym odd))
  always_runs (Value v) odd ss run = absurd (true≢false (sym odd))
  always_runs (Passing q xs vs) odd ss run = absurd (true≢false (sym odd))
  always_runs (Running qs) odd ss run = absurd (true≢false (sym odd))

  tested_runs : (c : Expression) (ss : Statements) → IsExpression x.sizes x.procedures MayCall c → ArmRuns ss → WhileLoopRuns false c ss
  tested_runs c ss gc run n ret exit later p k small has to out a =
      let cc = condition_code x.procedures c in
      let cs = codes_at 0 ss in
      let back = op.Back (length cc + length cs + 2) ∷ [] in
      let body = op.AheadUnless (test_of c) (length cs + 1 + exit) ∷ (cs ++ back) in
      eased x (nodes c + 3) (k + (nodes c + leads ss + 5)) n 0 1 (D (Then (While c c ss) later)) (At r p a ws) (omega arith) (omega arith)
      (while_sim c gc ss run exit p k small has later n ret (k_at k 1 n later (p + length (cc ++ body) + exit) (p + length cc + 1 + length cs + 1 + exit) (omega (arith, length-append cc body, length-append cs back)) out) a)

  while_loop_runs : (b : Bool) (c : Expression) → always c ≡ b → (ss : Statements) → IsExpression x.sizes x.procedures MayCall c → ArmRuns ss → WhileLoopRuns b c ss
  while_loop_runs true c is ss gc run n ret exit later p k small has to out = always_runs c is ss run n ret exit later p k small has
  while_loop_runs false c is ss gc run n ret exit later p k small has to out = tested_runs c ss gc run n ret exit later p k small has to out

  while_runs : (c : Expression) (ss : Statements) → IsExpression x.sizes x.procedures MayCall c → ArmRuns ss → StatementRuns (While c c ss)
  while_runs c ss gc run not = while_loop_runs (always c) c refl ss gc run

  -- ---- DO CASE

  -- what a value leads to by one silent step
  abbrev after_case : Statements → ℕ → Statements → Statements
  after_case later v End = later
  after_case later v (Returned u) = later
  after_case later zero (Then s rest) = Then s later
  after_case later (suc v) (Then s rest) = Then (Case (Value v) rest) later

  case_is : (later : Statements) (v : ℕ) (ss : Statements) → N x (D (Then (Case (Value v) ss) later)) ≡ Silent (D (after_case later v ss))
  case_is later v End = dx (Then (Case (Value v) End) later) refl
  case_is later v (Returned u) = dx (Then (Case (Value v) (Returned u)) later) refl
  case_is later zero (Then s rest) = dx (Then (Case (Value zero) (Then s rest)) later) refl
  case_is later (suc v) (Then s rest) = dx (Then (Case (Value (suc v)) (Then s rest)) later) refl

  abbrev pub CasesRun : Statements → Type 0
  CasesRun End = Unit {0}
  CasesRun (Then s later) = CaseRuns s × CasesRun later
  CasesRun (Returned v) = ⊥

  abbrev cases_at : ℕ → Statements → List (List Instruction)
  cases_at exit ss = cases_code x.procedures around exit ss

  -- a value that has no case
  missed : (ss : Statements) → CasesRun ss → (n exit k : ℕ) (later : Statements) (p v : ℕ) → length (cases_at exit ss) ≤ v → K k 2 n later p → K (k + leads ss) 2 n (after_case later v ss) p
  missed End runs n exit k later p v le go = k_more k (k + 0) 2 2 n later p (omega arith) (omega arith) go
  missed (Returned u) runs n exit k later p v le go = absurd runs
  missed (Then s rest) runs n exit k later p zero le go = absurd (omega (arith, le))
  missed (Then s rest) runs n exit k later p (suc v) le go = λ a.
      eased x (suc (k + leads rest)) (k + (lead s + leads rest + 1)) n 2 2 (D (Then (Case (Value v) rest) later)) (At r p a ws) (omega arith) (omega arith)
      (up x (k + leads rest) n 2 (omega arith) (D (Then (Case (Value v) rest) later)) (D (after_case later v rest)) (At r p a ws) (case_is later v rest) (missed rest runs.1 n exit k later p v (omega (arith, le)) go a))

  -- where a case's entry leads, and what it does there
  abbrev Taken : ℕ → ℕ → ℕ → Statements → ℕ → ℕ → Type 0
  Taken n k q ss v d = (slice_get (x.code r) (q + v) ≡ Some (op.Case d)) × K k 2 n ss (q + suc v + d)

  taken : (ss : Statements) → CasesRun ss → (n : ℕ) → Returns around n → (exit k : ℕ) (later : Statements) (before q pc v to : ℕ) → k + leads ss ≤ x.room → v < length (cases_at exit ss) → HasAt (x.code r) q (entries before (cases_at exit ss)) → HasAt (x.code r) pc (all_of (cases_at exit ss))
      → pc ≡ q + length (cases_at exit ss) + 1 + before → to ≡ pc + length (all_of (cases_at exit ss)) + exit → K k 1 n later to → (d : ℕ) × Taken n (k + leads ss) q (after_case later v ss) v d
  taken End runs n ret exit k later before q pc v to small lt has code at end out = absurd (omega (arith, lt))
  taken (Returned u) runs n ret exit k later before q pc v to small lt has code at end out = absurd runs
  taken (Then s rest) runs n ret exit k later before q pc zero to small lt has code at end out =
      let others = cases_at exit rest in
      let beyond = length (all_of others) + exit in
      let cs = code_at (1 + beyond) s in
      let c = cs ++ op.Ahead beyond ∷ [] in
      let d = length others + 1 + before in
      let hc = has_front (x.code r) pc c (all_of others) code in
      let pa = pc + length cs in
      let ha = has_back (x.code r) pc cs (op.Ahead beyond ∷ []) hc in
      let len = length-append cs (op.Ahead beyond ∷ []) in
      let len2 = length-append c (all_of others) in
      let leaves : K k 2 n later pa = λ a.
      down x k n 1 (D later) (At r pa a ws) (At r (pa + 1 + beyond) a ws) (acts x r pa a ws (op.Ahead beyond) ha.0)
      (then_ x k n 1 1 (D later) (At r (pa + 1 + beyond) a ws) (omega (arith, small)) (omega arith) (k_at k 1 n later to (pa + 1 + beyond) (omega (arith, end, len, len2)) out a)) in (
        d,
        (
          subst (λ y. slice_get (x.code r) y ≡ Some (op.Case d)) (omega arith) has.0,
          k_at (k + (lead s + leads rest + 1)) 2 n (Then s later) pc (q + suc zero + d) (omega (arith, at))
              (k_more (k + lead s) (k + (lead s + leads rest + 1)) 2 2 n (Then s later) pc (omega arith) (omega arith)
              (runs.0 n ret (1 + beyond) later pc k (omega (arith, small)) (has_front (x.code r) pc cs (op.Ahead beyond ∷ []) hc) leaves (k_at k 1 n later to (pa + (1 + beyond)) (omega (arith, end, len, len2)) out))),
        ),
      )
  taken (Then s rest) runs n ret exit k later before q pc (suc v) to small lt has code at end out =
      let others = cases_at exit rest in
      let beyond = length (all_of others) + exit in
      let c = code_at (1 + beyond) s ++ op.Ahead beyond ∷ [] in
      let len2 = length-append c (all_of others) in
      let t = taken rest runs.1 n ret exit k later (before + length c) (q + 1) (pc + length c) v to (omega (arith, small)) (omega (arith, lt)) has.1 (has_back (x.code r) pc c (all_of others) code) (omega (arith, at)) (omega (arith, end, len2)) out in (
        t.0,
        (
          subst (λ y. slice_get (x.code r) y ≡ Some (op.Case t.0)) (omega arith) t.1.0,
          λ a. eased x (suc (k + leads rest)) (k + (lead s + leads rest + 1)) n 2 2 (D (Then (Case (Value v) rest) later)) (At r (q + suc (suc v) + t.0) a ws) (omega arith) (omega arith)
              (up x (k + leads rest) n 2 (omega arith) (D (Then (Case (Value v) rest) later)) (D (after_case later v rest)) (At r (q + suc (suc v) + t.0) a ws) (case_is later v rest)
              (k_at (k + leads rest) 2 n (after_case later v rest) (q + 1 + suc v + t.0) (q + suc (suc v) + t.0) (omega arith) t.1.1 a)),
        ),
      )

  switch_by : (ss : Statements) → CasesRun ss → (n : ℕ) → Returns around n → (exit k : ℕ) (later : Statements) (p v : ℕ) → k + (leads ss + 5) ≤ x.room → HasAt (x.code r) p (switching (cases_at exit ss) exit) → K k 1 n later (p + length (switching (cases_at exit ss) exit) + exit)
      → (b : Bool) → nat_lt v (length (cases_at exit ss)) ≡ b → S x 2 n 0 (D (Then (Case (Value v) ss) later)) (At r p v ws)
  switch_by ss runs n ret exit k later p v small has out b e =
      let cases = cases_at exit ss in
      let m = length cases in
      let es = entries 0 cases in
      let ahead = op.Ahead (length (all_of cases) + exit) in
      let es_len = entries_length 0 cases in
      let pj = p + 1 + m in
      let h1 = has_front (x.code r) (p + 1) es (ahead ∷ all_of cases) has.1 in
      let h2 = has_at x r (p + 1 + length es) pj (ahead ∷ all_of cases) (omega (arith, es_len)) (has_back (x.code r) (p + 1) es (ahead ∷ all_of cases) has.1) in
      let len = length-append es (ahead ∷ all_of cases) in
      let to = pj + 1 + length (all_of cases) + exit in
      let out' = k_at k 1 n later (p + length (switching cases exit) + exit) to (omega (arith, len, es_len)) out in
      let R = D (Then (Case (Value v) ss) later) in
      let Q = after_case later v ss in
      let kk = k + leads ss in
      let done : (q : ℕ) → X x (At r p v ws) ≡ Silent (At r q v ws) → K kk 2 n Q q → S x 2 n 0 R (At r p v ws) = λ q i go.
      both x 1 n 0 R (D Q) (At r p v ws) (At r q v ws) (case_is later v ss) i (then_ x kk n 2 2 (D Q) (At r q v ws) (omega (arith, small)) (omega arith) (go v)) in
      let act = acts x r p v ws (op.Switch m) has.0 in
      by b e done act h1 h2 out'
    where
      by : (b : Bool) → nat_lt v (length (cases_at exit ss)) ≡ b → ((q : ℕ) → X x (At r p v ws) ≡ Silent (At r q v ws) → K (k + leads ss) 2 n (after_case later v ss) q → S x 2 n 0 (D (Then (Case (Value v) ss) later)) (At r p v ws))
          → X x (At r p v ws) ≡ (if nat_lt v (length (cases_at exit ss)) then switched (slice_get (x.code r) (p + 1 + v)) r (p + 1 + suc v) v ws else Silent (At r (p + 1 + length (cases_at exit ss)) v ws))
          → HasAt (x.code r) (p + 1) (entries 0 (cases_at exit ss)) → HasAt (x.code r) (p + 1 + length (cases_at exit ss)) (op.Ahead (length (all_of (cases_at exit ss)) + exit) ∷ all_of (cases_at exit ss))
          → K k 1 n later (p + 1 + length (cases_at exit ss) + 1 + length (all_of (cases_at exit ss)) + exit) → S x 2 n 0 (D (Then (Case (Value v) ss) later)) (At r p v ws)
      by true e done act h1 h2 out' =
          let m = length (cases_at exit ss) in
          let t = taken ss runs n ret exit k later 0 (p + 1) (p + 1 + m + 1) v (p + 1 + m + 1 + length (all_of (cases_at exit ss)) + exit) (omega (arith, small)) (ltb-true v m e) h1 h2.1 (omega arith) refl out' in
          done (p + 1 + suc v + t.0)
          (act ∙ ap (λ c. if c then switched (slice_get (x.code r) (p + 1 + v)) r (p + 1 + suc v) v ws else Silent (At r (p + 1 + m) v ws)) e ∙ ap (λ o. switched o r (p + 1 + suc v) v ws) t.1.0) t.1.1
      by false e done act h1 h2 out' =
          let m = length (cases_at exit ss) in
          let d = length (all_of (cases_at exit ss)) + exit in
          let pj = p + 1 + m in
          done pj (act ∙ ap (λ c. if c then switched (slice_get (x.code r) (p + 1 + v)) r (p + 1 + suc v) v ws else Silent (At r pj v ws)) e)
          (missed ss runs n exit k later pj v (ltb-false v m e)
          (λ a. down x k n 1 (D later) (At r pj a ws) (At r (pj + 1 + d) a ws) (acts x r pj a ws (op.Ahead d) h2.0) (then_ x k n 1 1 (D later) (At r (pj + 1 + d) a ws) (omega (arith, small)) (omega arith) (k_at k 1 n later (pj + 1 + length (all_of (cases_at exit ss)) + exit) (pj + 1 + d) (omega arith) out' a))))

  switch_runs : (e : Expression) (ss : Statements) → IsExpression x.sizes x.procedures MayCall e → CasesRun ss → StatementRuns (Case e ss)
  switch_runs e ss ge runs not n ret exit later p k small has to out a =
      let ce = expression_code x.procedures e in
      let cs = switching (cases_at exit ss) exit in
      let pe = p + length ce in
      eased x (nodes e + 2) (k + (nodes e + leads ss + 5)) n 0 1 (D (Then (Case e ss) later)) (At r p a ws) (omega arith) (omega arith)
      (expression_sim x MayCall calls e ge (omega (arith, small)) n (λ y. D (Then (Case y ss) later)) (in_case x D dx later ss) r p ws (has_front (x.code r) p ce cs has)
      (λ v lt. rise x n 0 (D (Then (Case (Value v) ss) later)) (At r pe v ws) (omega arith)
      (switch_by ss runs n ret exit k later pe v (omega (arith, small)) (has_back (x.code r) p ce cs has) (k_at k 1 n later (p + length (ce ++ cs) + exit) (pe + length cs + exit) (omega (arith, length-append ce cs)) out) _ refl)) a)

  -- ---- a DO with an index

  -- what the accumulator holds of an index of which the low byte alone is read where it is a BYTE
  abbrev kept : Width → (accumulator index : ℕ) → ℕ
  kept widths.Byte a i = a / 256 * 256 + i
  kept widths.Word a i = i

  kept_low : (w : Width) (a i : ℕ) → HasLow i (kept w a i)
  kept_low widths.Byte a i = omega arith
  kept_low widths.Word a i = refl

  kept_sum : (w : Width) (a i s : ℕ) → low w (kept w a i + s) ≡ low w (i + s)
  kept_sum widths.Byte a i s = omega arith
  kept_sum widths.Word a i s = refl

  low_index : (w : Width) (y : Where) → Lies x.sizes w y → (p a : ℕ) (us : List Word) → slice_get (x.code r) p ≡ Some (low_load w (place_of y)) → X x (At r p a us) ≡ Touch (Read w y) (λ i. At r (p + 1) (kept w a i) us)
  low_index widths.Byte y lies p a us h = acts x r p a us (op.Low (lows.Load (place_of y)) highs.Kept) h ∙ ap (λ t. loaded widths.Byte t (λ i. At r (p + 1) (a / 256 * 256 + i) us)) (found_plain x widths.Byte y lies)
  low_index widths.Word y lies p a us h = acts x r p a us (op.Load widths.Word (place_of y)) h ∙ ap (λ t. loaded widths.Word t (λ i. At r (p + 1) i us)) (found_plain x widths.Word y lies)

  narrow_is : (w : Width) → is_narrow w ≡ true → w ≡ widths.Byte
  narrow_is widths.Byte h = refl
  narrow_is widths.Word h = absurd (true≢false (sym h))

  returned_low : (w : Width) (v c : ℕ) → IsReturned w v c → low w c ≡ low w v
  returned_low widths.Byte v c h = h
  returned_low widths.Word v c h = ap (λ z. z % 65536) h

  module _ (o : Counting) (y : Scalar) (bound step : Expression) (ss : Statements) (lies : Lies x.sizes y.width y.place) (gb : IsExpression x.sizes x.procedures MayCall bound) (gs : IsExpression x.sizes x.procedures MayCall step) (by : StepIs o y.width (operand_of step)) (run : ArmRuns ss) (later : Statements) (pr : ℕ) where
    abbrev l : Loop
    l = Count o y bound step ss

    abbrev w : Width
    w = y.width

    -- the sum is tested: a round begins, or the loop ends
    ending_by : (n k z : ℕ) (i : Context) (pe : ℕ) → k ≤ x.room → ((a : ℕ) → S x 2 n 0 (D (Then (Round l) later)) (At r pr a ws)) → K k 2 (suc n) later pe → (b : Bool) → X x i ≡ Silent (At r (if b then pe else pr) z ws) → S x 2 (suc n) 0 (D (Then (Ending b l) later)) i
    ending_by n k z i pe small round go false h =
        both_more x 1 n 0 (D (Then (Ending false l) later)) (D (Then (Round l) later)) i (At r pr z ws) (dx (Then (Ending false l) later) refl) h (soon x n 0 2 (D (Then (Round l) later)) (At r pr z ws) (omega arith) (round z))
    ending_by n k z i pe small round go true h =
        both_more x 1 n 0 (D (Then (Ending true l) later)) (D later) i (At r pe z ws) (dx (Then (Ending true l) later) refl) h
        (then_ x k n 2 2 (D later) (At r pe z ws) (omega (arith, small)) (omega arith) (k_fewer k 2 n later pe go z))

    -- the sum is stored, and tested by the jump after it
    storing_then : (n sum : ℕ) (left : Bool) (us : List Word) (p : ℕ) → slice_get (x.code r) p ≡ Some (op.Store w (place_of y.place)) → S x 2 n 0 (D (Then (Ending left l) later)) (At r (p + 1) (low w sum) us) → S x 2 n 0 (D (Then (Storing sum left l) later)) (At r p (low w sum) us)
    storing_then n sum left us p h k =
        let z = low w sum in
        touches x 2 n 0 (Write w y.place z) (D (Then (Storing sum left l) later)) (λ v. D (Then (Ending left l) later)) (At r p z us) (λ v. At r (p + 1) z us) (dx (Then (Storing sum left l) later) refl)
        (acts x r p z us (op.Store w (place_of y.place)) h ∙ ap (λ o. stored w o z (At r (p + 1) z us)) (found_plain x w y.place lies) ∙ ap (λ t. Touch (Write w y.place t) (λ v. At r (p + 1) z us)) (low_twice w sum))
        (λ v lt. soon x n 0 2 (D (Then (Ending left l) later)) (At r (p + 1) z us) (omega arith) k)

    -- the index is read, and the step added
    adding_then : (n s a : ℕ) (us vs : List Word) (p : ℕ) → slice_get (x.code r) p ≡ Some (op.Load w (place_of y.place)) → ((i : ℕ) → X x (At r (p + 1) i us) ≡ Silent (At r (p + 2) (low w (i + s)) vs)) → slice_get (x.code r) (p + 2) ≡ Some (op.Store w (place_of y.place))
        → ((i : ℕ) → i < values w → S x 2 n 0 (D (Then (Ending (leaves o w i s) l) later)) (At r (p + 2 + 1) (low w (i + s)) vs)) → (f : ℕ) → S x 2 n f (D (Then (Stepping (Value s) l) later)) (At r p a us)
    adding_then n s a us vs p h add st k f =
        touches x 2 n f (Read w y.place) (D (Then (Stepping (Value s) l) later)) (λ i. D (Then (Adding i s l) later)) (At r p a us) (λ i. At r (p + 1) i us) (dx (Then (Stepping (Value s) l) later) refl)
        (acts x r p a us (op.Load w (place_of y.place)) h ∙ ap (λ o. loaded w o (λ i. At r (p + 1) i us)) (found_plain x w y.place lies))
        (λ i lt. soon x n 0 2 (D (Then (Adding i s l) later)) (At r (p + 1) i us) (omega arith)
        (both x 1 n 0 (D (Then (Adding i s l) later)) (D (Then (Storing (i + s) (leaves o w i s) l) later)) (At r (p + 1) i us) (At r (p + 2) (low w (i + s)) vs) (dx (Then (Adding i s l) later) refl) (add i)
        (soon x n 0 2 (D (Then (Storing (i + s) (leaves o w i s) l) later)) (At r (p + 2) (low w (i + s)) vs) (omega arith) (storing_then n (i + s) (leaves o w i s) vs (p + 2) st (k i lt)))))

    back_to : (before p : ℕ) → p ≡ pr + before → p + 4 - (before + 4) ≡ pr
    back_to before p e = omega (arith, e)

    back_soon : (before p : ℕ) → p ≡ pr + before → p + 2 - (before + 2) ≡ pr
    back_soon before p e = omega (arith, e)

    back_far : (before p : ℕ) → p ≡ pr + before → p + 6 - (before + 6) ≡ pr
    back_far before p e = omega (arith, e)

    -- a constant step of an INTEGER
    signed_then : (left : Relation) (from n k s before p : ℕ) → folded step ≡ Some s → ((i : ℕ) → i < values w → stands left (low w (i + s)) from ≡ leaves o w i s) → k ≤ x.room → p ≡ pr + before → HasAt (x.code r) p (next_with_sign left from y s before) → ((a : ℕ) → S x 2 n 0 (D (Then (Round l) later)) (At r pr a ws))
        → K k 2 (suc n) later (p + 4) → (a : ℕ) → S x (nodes step + 3) (suc n) 1 (D (Then (Stepping step l) later)) (At r p a ws)
    signed_then left from n k s before p known tells small at has round go a =
        folds x step s known 3 (suc n) 1 (omega arith) (λ e. D (Then (Stepping e l) later)) (in_stepping x D dx later l) (At r p a ws)
        (λ R u. up x 2 (suc n) 1 (omega arith) R (D (Then (Stepping (Value s) l) later)) (At r p a ws) u
        (adding_then (suc n) s a ws ws p has.0 (λ i. acts x r (p + 1) i ws (op.BinaryConstant binary.Add w s) has.1.0 ∙ ap (λ q. Silent (At r q (low w (i + s)) ws)) (omega arith))
        (subst (λ q. slice_get (x.code r) q ≡ Some (op.Store w (place_of y.place))) (omega arith) has.1.1.0)
        (λ i lt. ending_by n k (low w (i + s)) (At r (p + 2 + 1) (low w (i + s)) ws) (p + 4) small round go (leaves o w i s)
        (acts x r (p + 2 + 1) (low w (i + s)) ws (op.BackUnless (test.Constant left from) (before + 4)) (subst (λ q. slice_get (x.code r) q ≡ Some (op.BackUnless (test.Constant left from) (before + 4))) (omega arith) has.1.1.1.0)
        ∙ ap (λ b. Silent (At r (if b then p + 2 + 1 + 1 else p + 2 + 1 + 1 - (before + 4)) (low w (i + s)) ws)) (tells i lt)
        ∙ ap (λ q. Silent (At r (if leaves o w i s then q else p + 2 + 1 + 1 - (before + 4)) (low w (i + s)) ws)) (omega arith)
        ∙ ap (λ q. Silent (At r (if leaves o w i s then p + 4 else q) (low w (i + s)) ws)) (ap (λ q. q - (before + 4)) (omega arith) ∙ back_to before p at))) 1))

    -- a round begins, or the loop ends, by a step of the rest alone
    over_by : (n k z pe : ℕ) → k ≤ x.room → ((a : ℕ) → S x 2 n 0 (D (Then (Round l) later)) (At r pr a ws)) → K k 2 (suc n) later pe → (b : Bool) → T x n 2 (D (Then (Ending b l) later)) (At r (if b then pe else pr) z ws)
    over_by n k z pe small round go false =
        then_ x 3 n 0 2 (D (Then (Ending false l) later)) (At r pr z ws) (omega arith) (omega arith)
        (up x 2 n 0 (omega arith) (D (Then (Ending false l) later)) (D (Then (Round l) later)) (At r pr z ws) (dx (Then (Ending false l) later) refl) (round z))
    over_by n k z pe small round go true =
        then_ x (suc k) n 2 2 (D (Then (Ending true l) later)) (At r pe z ws) (omega (arith, small)) (omega arith)
        (up x k n 2 (omega arith) (D (Then (Ending true l) later)) (D later) (At r pe z ws) (dx (Then (Ending true l) later) refl) (k_fewer k 2 n later pe go z))

    -- the sum is stored, and by the same instruction a round begins or the loop ends
    storing_on : (n k i c s before p : ℕ) → low w (c + s) ≡ low w (i + s) → o ≡ counting.Up → i < values w → k ≤ x.room → p ≡ pr + before → slice_get (x.code r) (p + 1) ≡ Some (op.Next w (place_of y.place) s (before + 2)) → ((a : ℕ) → S x 2 n 0 (D (Then (Round l) later)) (At r pr a ws)) → K k 2 (suc n) later (p + 2)
        → S x 2 (suc n) 0 (D (Then (Storing (i + s) (leaves o w i s) l) later)) (At r (p + 1) c ws)
    storing_on n k i c s before p same upwards lt small at h round go =
        let b = leaves o w i s in
        let sum = low w (i + s) in
        let z = with_low w c (c + s) in
        touches_more x 2 n 0 (Write w y.place sum) (D (Then (Storing (i + s) b l) later)) (λ v. D (Then (Ending b l) later)) (At r (p + 1) c ws) (λ v. At r (if b then p + 2 else pr) z ws) (dx (Then (Storing (i + s) b l) later) refl)
        (acts x r (p + 1) c ws (op.Next w (place_of y.place) s (before + 2)) h
        ∙ ap (λ t. stored w t (c + s) (At r (if nat_lt (low w (c + s)) s then p + 1 + 1 else p + 1 + 1 - (before + 2)) z ws)) (found_plain x w y.place lies)
        ∙ ap (λ t. Touch (Write w y.place t) (λ v. At r (if nat_lt t s then p + 1 + 1 else p + 1 + 1 - (before + 2)) z ws)) same
        ∙ ap (λ q. Touch (Write w y.place sum) (λ v. At r (if q then p + 1 + 1 else p + 1 + 1 - (before + 2)) z ws)) (counted_sum o w i s upwards lt)
        ∙ ap (λ q. Touch (Write w y.place sum) (λ v. At r (if b then q else p + 1 + 1 - (before + 2)) z ws)) (omega arith)
        ∙ ap (λ q. Touch (Write w y.place sum) (λ v. At r (if b then p + 2 else q) z ws)) (ap (λ q. q - (before + 2)) (omega arith) ∙ back_soon before p at))
        (λ v vt. over_by n k z (p + 2) small round go b)

    -- a constant step of a BYTE or WORD
    counted_then : (n k s before p : ℕ) → folded step ≡ Some s → o ≡ counting.Up → k ≤ x.room → p ≡ pr + before → HasAt (x.code r) p (low_load w (place_of y.place) ∷ op.Next w (place_of y.place) s (before + 2) ∷ []) → ((a : ℕ) → S x 2 n 0 (D (Then (Round l) later)) (At r pr a ws)) → K k 2 (suc n) later (p + 2)
        → (a : ℕ) → S x (nodes step + 3) (suc n) 1 (D (Then (Stepping step l) later)) (At r p a ws)
    counted_then n k s before p known upwards small at has round go a =
        folds x step s known 3 (suc n) 1 (omega arith) (λ e. D (Then (Stepping e l) later)) (in_stepping x D dx later l) (At r p a ws)
        (λ R u. up x 2 (suc n) 1 (omega arith) R (D (Then (Stepping (Value s) l) later)) (At r p a ws) u
        (touches x 2 (suc n) 1 (Read w y.place) (D (Then (Stepping (Value s) l) later)) (λ i. D (Then (Adding i s l) later)) (At r p a ws) (λ i. At r (p + 1) (kept w a i) ws) (dx (Then (Stepping (Value s) l) later) refl)
        (low_index w y.place lies p a ws has.0)
        (λ i lt. then_ x 3 (suc n) 0 2 (D (Then (Adding i s l) later)) (At r (p + 1) (kept w a i) ws) (omega arith) (omega arith)
        (up x 2 (suc n) 0 (omega arith) (D (Then (Adding i s l) later)) (D (Then (Storing (i + s) (leaves o w i s) l) later)) (At r (p + 1) (kept w a i) ws) (dx (Then (Adding i s l) later) refl)
        (storing_on n k i (kept w a i) s before p (kept_sum w a i s) upwards lt small at has.1.0 round go)))))

    -- a constant step
    number_then : (c : Counting) → o ≡ c → (n k s before p : ℕ) → folded step ≡ Some s → StepIs c w (Number s) → s < 65536 → k ≤ x.room → p ≡ pr + before → HasAt (x.code r) p (next_by_number c y s before) → ((a : ℕ) → S x 2 n 0 (D (Then (Round l) later)) (At r pr a ws)) → K k 2 (suc n) later (p + length (next_by_number c y s before))
        → (a : ℕ) → S x (nodes step + 3) (suc n) 1 (D (Then (Stepping step l) later)) (At r p a ws)
    number_then counting.Up so n k s before p known by word small at has round go a = counted_then n k s before p known so small at has round go a
    number_then counting.SignedUp so n k s before p known by word small at has round go a =
        signed_then relation.LessSigned ((s + 32768) % 65536) n k s before p known (λ i lt. up_sum w i s by.1 lt by.0 ∙ ap (λ q. leaves q w i s) (sym so)) small at has round go a
    number_then counting.SignedDown so n k s before p known by word small at has round go a =
        signed_then relation.GreaterSigned ((s + 32767) % 65536) n k s before p known (λ i lt. down_sum w i s by.1 lt by.0 word ∙ ap (λ q. leaves q w i s) (sym so)) small at has round go a

    -- every other step is pushed twice
    pushed_then : (n k s before p : ℕ) → o ≡ counting.Up → k ≤ x.room → p ≡ pr + before → HasAt (x.code r) p (add_pushed y before) → ((a : ℕ) → S x 2 n 0 (D (Then (Round l) later)) (At r pr a ws)) → K k 2 (suc n) later (p + 6) → S x 2 (suc n) 2 (D (Then (Stepping (Value s) l) later)) (At r p s ws)
    pushed_then n k s before p upwards small at has round go =
        let us = words.Value s ∷ ws in
        let R = D (Then (Stepping (Value s) l) later) in
        push_then x 2 (suc n) 1 R r p s ws has.0
        (soon x (suc n) 1 1 R (At r (p + 1) s us) (omega arith)
        (push_then x 2 (suc n) 0 R r (p + 1) s us has.1.0
        (soon x (suc n) 0 0 R (At r (p + 1 + 1) s (words.Value s ∷ us)) (omega arith)
        (adding_then (suc n) s s (words.Value s ∷ us) us (p + 1 + 1) has.1.1.0
        (λ i. acts x r (p + 1 + 1 + 1) i (words.Value s ∷ us) (op.Binary binary.Add w) has.1.1.1.0 ∙ ap (λ q. Silent (At r q (low w (s + i)) us)) (omega arith) ∙ ap (λ z. Silent (At r (p + 1 + 1 + 2) (low w z) us)) (omega arith))
        (subst (λ q. slice_get (x.code r) q ≡ Some (op.Store w (place_of y.place))) (omega arith) has.1.1.1.1.0)
        (λ i lt. ending_by n k (low w (i + s)) (At r (p + 1 + 1 + 2 + 1) (low w (i + s)) us) (p + 6) small round go (leaves o w i s)
        (acts x r (p + 1 + 1 + 2 + 1) (low w (i + s)) us (op.BackUnless (test.Top relation.Greater) (before + 6)) (subst (λ q. slice_get (x.code r) q ≡ Some (op.BackUnless (test.Top relation.Greater) (before + 6))) (omega arith) has.1.1.1.1.1.0)
        ∙ ap (λ b. Silent (At r (if b then p + 1 + 1 + 2 + 1 + 1 else p + 1 + 1 + 2 + 1 + 1 - (before + 6)) (low w (i + s)) ws)) (counted_sum o w i s upwards lt)
        ∙ ap (λ q. Silent (At r (if leaves o w i s then q else p + 1 + 1 + 2 + 1 + 1 - (before + 6)) (low w (i + s)) ws)) (omega arith)
        ∙ ap (λ q. Silent (At r (if leaves o w i s then p + 6 else q) (low w (i + s)) ws)) (ap (λ q. q - (before + 6)) (omega arith) ∙ back_far before p at))) 0))))

    computed_then : (n k before p : ℕ) → o ≡ counting.Up → nodes step + 2 ≤ x.room → k ≤ x.room → p ≡ pr + before → HasAt (x.code r) p (expression_code x.procedures step ++ add_pushed y (before + length (expression_code x.procedures step))) → ((a : ℕ) → S x 2 n 0 (D (Then (Round l) later)) (At r pr a ws))
        → K k 2 (suc n) later (p + length (expression_code x.procedures step ++ add_pushed y (before + length (expression_code x.procedures step)))) → (a : ℕ) → S x (nodes step + 3) (suc n) 1 (D (Then (Stepping step l) later)) (At r p a ws)
    computed_then n k before p upwards fits small at has round go a =
        let ce = expression_code x.procedures step in
        let ca = add_pushed y (before + length ce) in
        let pe = p + length ce in
        eased x (nodes step + 2) (nodes step + 3) (suc n) 0 1 (D (Then (Stepping step l) later)) (At r p a ws) (omega arith) (omega arith)
        (expression_sim x MayCall calls step gs fits (suc n) (λ e. D (Then (Stepping e l) later)) (in_stepping x D dx later l) r p ws (has_front (x.code r) p ce ca has)
        (λ s lt. rise x (suc n) 2 (D (Then (Stepping (Value s) l) later)) (At r pe s ws) (omega arith)
        (pushed_then n k s (before + length ce) pe upwards small (omega (arith, at)) (has_back (x.code r) p ce ca has) round (k_at k 2 (suc n) later (p + length (ce ++ ca)) (pe + 6) (omega (arith, length-append ce ca)) go))) a)

    step_then : (q : Operand) → IsOperand step q → StepIs o w q → nodes step + 2 ≤ x.room → (n k before p : ℕ) → k ≤ x.room → p ≡ pr + before → HasAt (x.code r) p (next_round o y q (expression_code x.procedures step) before) → ((a : ℕ) → S x 2 n 0 (D (Then (Round l) later)) (At r pr a ws))
        → K k 2 (suc n) later (p + length (next_round o y q (expression_code x.procedures step) before)) → (a : ℕ) → S x (nodes step + 3) (suc n) 1 (D (Then (Stepping step l) later)) (At r p a ws)
    step_then (Number s) is by fits n k before p small at has round go a = number_then o refl n k s before p is by (folded_small x.sizes x.procedures MayCall step gs s is) small at has round go a
    step_then (Name read z) is by fits n k before p small at has round go a = computed_then n k before p (named_up o w read z by) fits small at has round go a
    step_then Computed is by fits n k before p small at has round go a = computed_then n k before p (computed_up o w by) fits small at has round go a

    -- the index, before it is compared
    abbrev seen : (bytes : Bool) → (accumulator index : ℕ) → ℕ
    seen true a i = kept w a i
    seen false a i = i

    index_is : (b : Bool) → counts_bytes y bound ≡ b → (a : ℕ) → slice_get (x.code r) pr ≡ Some (index_read b y) → X x (At r pr a ws) ≡ Touch (Read w y.place) (λ i. At r (pr + 1) (seen b a i) ws)
    index_is true is a h =
        let narrow = narrow_is w (and_parts (is_narrow w) (is_byte bound) is).0 in
        low_index w y.place lies pr a ws (subst (λ v. slice_get (x.code r) pr ≡ Some (low_load v (place_of y.place))) (sym narrow) h)
    index_is false is a h = acts x r pr a ws (op.Load w (place_of y.place)) h ∙ ap (λ t. loaded w t (λ i. At r (pr + 1) i ws)) (found_plain x w y.place lies)

    holds_index : (b : Bool) → counts_bytes y bound ≡ b → (a i : ℕ) → i < values w → Holds b i (seen b a i) bound
    holds_index true is a i lt = (subst (λ v. i < values v) (narrow_is w (and_parts (is_narrow w) (is_byte bound) is).0) lt, (and_parts (is_narrow w) (is_byte bound) is).1, kept_low w a i)
    holds_index false is a i lt = refl

    -- the bound's code
    abbrev comparison : (bytes : Bool) → List Instruction
    comparison b = compared b (beside (operand_of bound) (low_code x.procedures bound)) (beside (operand_of bound) (expression_code x.procedures bound))

    abbrev index : Operand
    index = Name w (place_of y.place)

    abbrev in_place : (bytes : Bool) → Option Test
    in_place b = named b (within o) index (operand_of bound)

    -- a round begins by this code and this test
    abbrev asked : (bytes : Bool) → Option Test → List Instruction
    asked b z = unless_named z (index_read b y ∷ comparison b)

    abbrev tested : (bytes : Bool) → Option Test → Test
    tested b z = or_test z (related b (within o) (operand_of bound))

    abbrev Begins : (bytes : Bool) (m on d : ℕ) → Option Test → Type 0
    Begins b m on d z = HasAt (x.code r) pr (asked b z ++ op.AheadUnless (tested b z) d ∷ []) → pr + length (asked b z) + 1 ≡ on → (a : ℕ) → S x 2 m 0 (D (Then (Round l) later)) (At r pr a ws)

    module _ (bytes : Bool) (is : counts_bytes y bound ≡ bytes) (m kk : ℕ) (wide : kk + nodes bound ≤ x.room) (on d : ℕ) (ours : K kk 2 m (behind ss (Then (Stepping step l) later)) on) (theirs : K kk 2 m later (on + d)) where
      -- the index is read, and then compared
      read_then : nodes bound + 2 ≤ x.room → Begins bytes m on d None
      read_then fits has at a =
          touches x 2 m 0 (Read w y.place) (D (Then (Round l) later)) (λ i. D (Then (Comparing i bound l) later)) (At r pr a ws) (λ i. At r (pr + 1) (seen bytes a i) ws) (dx (Then (Round l) later) refl)
          (index_is bytes is a has.0)
          (λ i lt. then_ x (nodes bound + 3) m 1 2 (D (Then (Comparing i bound l) later)) (At r (pr + 1) (seen bytes a i) ws) (omega (arith, fits)) (omega arith)
          (bound_sim x MayCall calls m kk (omega (arith, wide)) D (behind ss (Then (Stepping step l) later)) later r on (on + d) ws ours theirs
          bytes o i (seen bytes a i) (λ e. D (Then (Comparing i e l) later)) (in_comparing x D dx later i l) (λ v. dx (Then (Comparing i (Value v) l) later) refl) bound gb (holds_index bytes is a i lt) fits (pr + 1) d has.1 (omega (arith, at)) (omega (arith, at))))

      -- the test reads it
      test_then : (c : ℕ) → operand_of bound ≡ Number c → Suits bytes w → Begins bytes m on d (Some (test.Named (within o) w (place_of y.place) c))
      test_then c number suits has at a =
          let known : folded bound ≡ Some c = subst (λ q. IsOperand bound q) number (operand_is bound) in
          let same = constant_fits x.sizes x.procedures MayCall bound gb c known bytes (λ h. (and_parts (is_narrow w) (is_byte bound) (is ∙ h)).1) w suits in
          bound_in_place x MayCall calls m kk (omega (arith, wide)) D (behind ss (Then (Stepping step l) later)) later r on (on + d) ws ours theirs
          o w y.place lies (D (Then (Round l) later)) (λ i e. D (Then (Comparing i e l) later)) (λ i. in_comparing x D dx later i l) (λ i v. dx (Then (Comparing i (Value v) l) later) refl) bound (dx (Then (Round l) later) refl)
          c known same wide pr d has.0 (omega (arith, at)) (omega (arith, at)) 2 0 a

      asked_then : nodes bound + 2 ≤ x.room → Begins bytes m on d (in_place bytes)
      asked_then fits = name_named (Begins bytes m on d) bytes (within o) w (place_of y.place) (operand_of bound) (read_then fits) test_then

    -- the rounds, by induction on the number of instructions
    round_sim : (bytes : Bool) → counts_bytes y bound ≡ bytes → (exit k : ℕ) → k + (nodes bound + nodes step + leads ss + 5) ≤ x.room → (cb cs ca : List Instruction) → cb ≡ asked bytes (in_place bytes) → cs ≡ codes_at 0 ss → ca ≡ next_round o y (operand_of step) (expression_code x.procedures step) (length cb + length cs + 1)
        → HasAt (x.code r) pr (cb ++ (op.AheadUnless (tested bytes (in_place bytes)) (length cs + length ca + exit) ∷ (cs ++ ca)))
        → (n : ℕ) → Returns around n → K k 2 n later (pr + length cb + 1 + length cs + length ca) → K k 1 n later (pr + length cb + 1 + length cs + length ca + exit) → (a : ℕ) → S x 2 n 0 (D (Then (Round l) later)) (At r pr a ws)
    round_sim bytes is exit k small cb cs ca eb es ea has zero ret to out a = tt
    round_sim bytes is exit k small cb cs ca eb es ea has (suc n) ret to out a =
        let jump = op.AheadUnless (tested bytes (in_place bytes)) (length cs + length ca + exit) in
        let m = suc n in
        let pj = pr + length cb in
        let on = pj + 1 in
        let pg = on + length cs in
        let pe = pg + length ca in
        let d = length cs + length ca + exit in
        let h1 = has_back (x.code r) pr cb (jump ∷ (cs ++ ca)) has in
        let h2 = has_front (x.code r) on cs ca h1.1 in
        let h3 = has_back (x.code r) on cs ca h1.1 in
        let round = round_sim bytes is exit k small cb cs ca eb es ea has n (fewer_returns around n ret) (k_fewer k 2 n later pe to) (k_fewer k 1 n later (pe + exit) out) in
        let ks = nodes step + 3 in
        let next : K (nodes step + 3) 1 m (Then (Stepping step l) later) pg = step_then (operand_of step) (operand_is step) by (omega (arith, small)) n k (length cb + length cs + 1) pg (omega (arith, small)) (omega arith)
        (subst (λ c. HasAt (x.code r) pg c) ea h3) round (k_at k 2 m later pe (pg + length (next_round o y (operand_of step) (expression_code x.procedures step) (length cb + length cs + 1))) (omega (arith, ap length ea)) to) in
        let kk = k + leads ss + ks in
        let ours = run m ret 0 (Then (Stepping step l) later) on ks (omega (arith, small)) (subst (λ c. HasAt (x.code r) on c) es h2)
        (k_more ks ks 1 2 m (Then (Stepping step l) later) (on + length (codes_at 0 ss)) (omega arith) (omega arith) (k_at ks 1 m (Then (Stepping step l) later) pg (on + length (codes_at 0 ss)) (omega (arith, ap length es)) next))
        (k_at ks 1 m (Then (Stepping step l) later) pg (on + length (codes_at 0 ss) + 0) (omega (arith, ap length es)) next) in
        let len = ap length eb in
        asked_then bytes is m kk (omega (arith, small)) on d
        (k_more (ks + leads ss) kk 2 2 m (behind ss (Then (Stepping step l) later)) on (omega arith) (omega arith) ours)
        (k_more k kk 1 2 m later (on + d) (omega arith) (omega arith) (k_at k 1 m later (pe + exit) (on + d) (omega arith) out))
        (omega (arith, small)) (subst (λ c. HasAt (x.code r) pr (c ++ jump ∷ [])) eb (has_head (x.code r) pr cb jump (cs ++ ca) has)) (omega (arith, len)) a

  abbrev pub LoopRuns : Loop → Type 0
  LoopRuns (Count o y bound step ss) = ArmRuns ss

  iterate_runs : (e : Expression) (l : Loop) → IsExpression x.sizes x.procedures MayCall e → IsLoop x.sizes x.procedures MayCall around l → LoopRuns l → StatementRuns (Iterate e l)
  iterate_runs e (Count o y bound step ss) ge gl runs not n ret exit later p k small has to out a =
      let bytes = counts_bytes y bound in
      let ce = returned_code x.procedures y.width e in
      let comparison = compared bytes (beside (operand_of bound) (low_code x.procedures bound)) (beside (operand_of bound) (expression_code x.procedures bound)) in
      let index = Name y.width (place_of y.place) in
      let cb = unless_named (named bytes (within o) index (operand_of bound)) (index_read bytes y ∷ comparison) in
      let cs = codes_at 0 ss in
      let ca = next_round o y (operand_of step) (expression_code x.procedures step) (length cb + length cs + 1) in
      let jump = op.AheadUnless (compared_by bytes (within o) index (operand_of bound)) (length cs + length ca + exit) in
      let rounds = cb ++ (jump ∷ (cs ++ ca)) in
      let tail = op.Store y.width (place_of y.place) ∷ rounds in
      let pe = p + length ce in
      let pr = pe + 1 in
      let l = Count o y bound step ss in
      let len = length-append ce tail in
      let len2 = length-append cb (jump ∷ (cs ++ ca)) in
      let len3 = length-append cs ca in
      let h = has_back (x.code r) p ce tail has in
      let end = pr + length cb + 1 + length cs + length ca in
      eased x (nodes e + 2) (k + (nodes e + (nodes bound + nodes step + leads ss) + 5)) n 0 1 (D (Then (Iterate e l) later)) (At r p a ws) (omega arith) (omega arith)
      (returned_sim y.width e ge (omega (arith, small)) n (λ z. D (Then (Iterate z l) later)) (in_iterate x D dx later l) p (has_front (x.code r) p ce tail has)
      (λ v c lt is. rise x n 0 (D (Then (Iterate (Value v) l) later)) (At r pe c ws) (omega arith)
      (touches x 2 n 0 (Write y.width y.place (low y.width v)) (D (Then (Iterate (Value v) l) later)) (λ z. D (Then (Round l) later)) (At r pe c ws) (λ z. At r pr c ws) (dx (Then (Iterate (Value v) l) later) refl)
      (acts x r pe c ws (op.Store y.width (place_of y.place)) h.0 ∙ ap (λ o. stored y.width o c (At r pr c ws)) (found_plain x y.width y.place gl.0) ∙ ap (λ t. Touch (Write y.width y.place t) (λ z. At r pr c ws)) (returned_low y.width v c is))
      (λ z zt. soon x n 0 2 (D (Then (Round l) later)) (At r pr c ws) (omega arith)
      (round_sim o y bound step ss gl.0 gl.1 gl.2 gl.4 runs later pr bytes refl exit k (omega (arith, small)) cb cs ca refl refl refl h.1 n ret
      (k_at k 2 n later (p + length (ce ++ tail)) end (omega (arith, len, len2, len3)) to) (k_at k 1 n later (p + length (ce ++ tail) + exit) (end + exit) (omega (arith, len, len2, len3)) out) c)))) a)

  -- ---- all statements

  simple_enables : StatementRuns Enabling
  simple_enables not n ret exit later p k small has to out a = enables x (k + 5) n 1 (D (Then Enabling later)) (D later) (At r p a ws) (At r (p + 1) a ws) (dx (Then Enabling later) refl) (acts x r p a ws op.Enable has.0) (then_ x k n 2 2 (D later) (At r (p + 1) a ws) (omega (arith, small)) (omega arith) (to a))

  simple_disables : StatementRuns Disabling
  simple_disables not n ret exit later p k small has to out a = disables x (k + 5) n 1 (D (Then Disabling later)) (D later) (At r p a ws) (At r (p + 1) a ws) (dx (Then Disabling later) refl) (acts x r p a ws op.Disable has.0) (then_ x k n 2 2 (D later) (At r (p + 1) a ws) (omega (arith, small)) (omega arith) (to a))

  simple_halts : StatementRuns Halting
  simple_halts not n ret exit later p k small has to out a = halts x (k + 5) n 1 (D (Then Halting later)) (D later) (At r p a ws) (At r (p + 1) a ws) (dx (Then Halting later) refl) (acts x r p a ws op.Halt has.0) (then_ x k n 2 2 (D later) (At r (p + 1) a ws) (omega (arith, small)) (omega arith) (to a))

  block_runs : (ss : Statements) → StatementsRun ss → StatementRuns (Block ss)
  block_runs ss run not n ret exit later p k small has to out a =
      let leaving : (f : ℕ) → f ≤ 2 → (q : ℕ) → K k f n later q → K (suc k) f n (Then Leaving later) q = λ f le q go b. up x k n f le (D (Then Leaving later)) (D later) (At r q b ws) (dx (Then Leaving later) refl) (go b) in
      let q = p + length (codes_at exit ss) in
      eased x (suc (suc k + leads ss)) (k + (leads ss + 2)) n 1 1 (D (Then (Block ss) later)) (At r p a ws) (omega arith) (omega arith)
      (up x (suc k + leads ss) n 1 (omega arith) (D (Then (Block ss) later)) (D (behind ss (Then Leaving later))) (At r p a ws) (dx (Then (Block ss) later) refl)
      (run not n ret exit (Then Leaving later) p (suc k) (omega (arith, small)) has (leaving 2 (omega arith) q to) (leaving 1 (omega arith) (q + exit) out) a))

  mutual
    pub statement_sim : (s : Statement) → IsStatement x.sizes x.procedures MayCall around s → StatementRuns s
    statement_sim Empty good = λ not. absurd (true≢false not)
    statement_sim (Assign ts e) good = assign_runs ts e good.0 good.1
    statement_sim (Evaluate e) good = evaluate_runs e good
    statement_sim Return good = λ not n ret exit later p k small has to out a. eased x 2 (k + 5) n 1 1 (D (Then Return later)) (At r p a ws) (omega arith) (omega arith) (return_then around good n ret later p a has)
    statement_sim (ReturnValue w e) good = λ not n ret exit later p k small has to out a. eased x (nodes e + 2) (k + (nodes e + 5)) n 0 1 (D (Then (ReturnValue w e) later)) (At r p a ws) (omega arith) (omega arith) (value_then around good.0 w e good.1 (omega (arith, small)) n ret later p a has)
    statement_sim Enabling good = simple_enables
    statement_sim Disabling good = simple_disables
    statement_sim Halting good = simple_halts
    statement_sim (If c arm other) good = if_runs c arm other good.0 (arm_runs arm (statements_sim arm good.1) (are_silent arm) refl) (arm_runs other (statements_sim other good.2) (are_silent other) refl)
    statement_sim (Block ss) good = block_runs ss (statements_sim ss good)
    statement_sim (While left c ss) good = subst (λ e. StatementRuns (While e c ss)) (sym good.0) (while_runs c ss good.1 (arm_runs ss (statements_sim ss good.2) (are_silent ss) refl))
    statement_sim (Case e ss) good = switch_runs e ss good.0 (cases_sim ss good.1)
    statement_sim (Iterate e l) good = iterate_runs e l good.0 good.1 (loop_sim l good.1)
    statement_sim Leaving good = absurd good
    statement_sim (Round l) good = absurd good
    statement_sim (Comparing i e l) good = absurd good
    statement_sim (Stepping e l) good = absurd good
    statement_sim (Adding i s l) good = absurd good
    statement_sim (Storing s b l) good = absurd good
    statement_sim (Ending b l) good = absurd good

    loop_sim : (l : Loop) → IsLoop x.sizes x.procedures MayCall around l → LoopRuns l
    loop_sim (Count o y bound step ss) good = arm_runs ss (statements_sim ss good.3) (are_silent ss) refl

    cases_sim : (ss : Statements) → AreStatements x.sizes x.procedures MayCall around ss → CasesRun ss
    cases_sim End good = tt
    cases_sim (Then s rest) good = (case_runs s (statement_sim s good.0) (is_silent s) refl, cases_sim rest good.1)
    cases_sim (Returned v) good = absurd good

    pub statements_sim : (ss : Statements) → AreStatements x.sizes x.procedures MayCall around ss → StatementsRun ss
    statements_sim End good = λ not. absurd (true≢false not)
    statements_sim (Then s rest) good = λ not. pair_runs s rest (statement_sim s good.0) (statements_sim rest good.1) (is_silent s) (are_silent rest) refl refl not
    statements_sim (Returned v) good = absurd good

  -- ---- statements to whose end control never comes

  endless : (s : Statement) → stays s ≡ true → IsStatement x.sizes x.procedures MayCall around s → (n : ℕ) → Returns around n → (exit : ℕ) (later : Statements) (p k : ℕ) → k + lead s ≤ x.room → HasAt (x.code r) p (code_at exit s) → K (k + lead s) 1 n (Then s later) p
  endless (ReturnValue w e) h good n ret exit later p k small has = λ a.
      eased x (nodes e + 2) (k + (nodes e + 5)) n 0 1 (D (Then (ReturnValue w e) later)) (At r p a ws) (omega arith) (omega arith) (value_then around good.0 w e good.1 (omega (arith, small)) n ret later p a has)
  endless (While left c ss) h good n ret exit later p k small has =
      subst (λ e. K (k + (nodes c + leads ss + 5)) 1 n (Then (While e c ss) later) p) (sym good.0)
      (always_runs c h ss (arm_runs ss (statements_sim ss good.2) (are_silent ss) refl) n ret exit later p k small (subst (λ b. HasAt (x.code r) p (while_loop b (condition_code x.procedures c) (test_of c) (codes_at 0 ss) exit)) h has))
  endless Empty h good n ret exit later p k small has = absurd (true≢false (sym h))
  endless (Assign ts e) h good n ret exit later p k small has = absurd (true≢false (sym h))
  endless (Evaluate e) h good n ret exit later p k small has = absurd (true≢false (sym h))
  endless Return h good n ret exit later p k small has = absurd (true≢false (sym h))
  endless Enabling h good n ret exit later p k small has = absurd (true≢false (sym h))
  endless Disabling h good n ret exit later p k small has = absurd (true≢false (sym h))
  endless Halting h good n ret exit later p k small has = absurd (true≢false (sym h))
  endless (If c arm other) h good n ret exit later p k small has = absurd (true≢false (sym h))
  endless (Block ss) h good n ret exit later p k small has = absurd (true≢false (sym h))
  endless (Case e ss) h good n ret exit later p k small has = absurd (true≢false (sym h))
  endless (Iterate e l) h good n ret exit later p k small has = absurd (true≢false (sym h))
  endless Leaving h good n ret exit later p k small has = absurd (true≢false (sym h))
  endless (Round l) h good n ret exit later p k small has = absurd (true≢false (sym h))
  endless (Comparing i e l) h good n ret exit later p k small has = absurd (true≢false (sym h))
  endless (Stepping e l) h good n ret exit later p k small has = absurd (true≢false (sym h))
  endless (Adding i s l) h good n ret exit later p k small has = absurd (true≢false (sym h))
  endless (Storing s b l) h good n ret exit later p k small has = absurd (true≢false (sym h))
  endless (Ending b l) h good n ret exit later p k small has = absurd (true≢false (sym h))

  -- a statement before some to whose end control never comes
  before_endless : (s : Statement) (rest : Statements) → StatementRuns s → (b : Bool) → is_silent s ≡ b → (n : ℕ) → Returns around n → (exit : ℕ) (later : Statements) (p k : ℕ) → k + (lead s + leads rest + 1) ≤ x.room → HasAt (x.code r) p (code_at 0 s ++ codes_at exit rest)
      → K (k + leads rest) 1 n (behind rest later) (p + length (code_at 0 s)) → K (k + (lead s + leads rest + 1)) 1 n (Then s (behind rest later)) p
  before_endless s rest run true es n ret exit later p k small has next =
      let cs = code_at 0 s in
      let none = ap length (silent_code x.procedures around s es 0) in
      k_more (k + leads rest + lead s) (k + (lead s + leads rest + 1)) 1 1 n (Then s (behind rest later)) p (omega arith) (omega arith)
      (silent_sim s es n (k + leads rest) 1 (behind rest later) p (omega arith) (k_at (k + leads rest) 1 n (behind rest later) (p + length cs) p (omega (arith, none)) next))
  before_endless s rest run false es n ret exit later p k small has next =
      let cs = code_at 0 s in
      k_more (k + leads rest + lead s) (k + (lead s + leads rest + 1)) 1 1 n (Then s (behind rest later)) p (omega arith) (omega arith)
      (run es n ret 0 (behind rest later) p (k + leads rest) (omega (arith, small)) (has_front (x.code r) p cs (codes_at exit rest) has)
      (k_more (k + leads rest) (k + leads rest) 1 2 n (behind rest later) (p + length cs) (omega arith) (omega arith) next)
      (k_at (k + leads rest) 1 n (behind rest later) (p + length cs) (p + length cs + 0) (omega arith) next))

  all_endless : (ss : Statements) → all_stay ss ≡ true → AreStatements x.sizes x.procedures MayCall around ss → (n : ℕ) → Returns around n → (exit : ℕ) (later : Statements) (p k : ℕ) → k + leads ss ≤ x.room → HasAt (x.code r) p (codes_at exit ss) → K (k + leads ss) 1 n (behind ss later) p
  all_endless End h good n ret exit later p k small has = absurd (true≢false (sym h))
  all_endless (Returned v) h good n ret exit later p k small has = absurd (true≢false (sym h))
  all_endless (Then s End) h good n ret exit later p k small has =
      k_more (k + lead s) (k + (lead s + 0 + 1)) 1 1 n (Then s later) p (omega arith) (omega arith) (endless s h good.0 n ret exit later p k (omega (arith, small)) (has_front (x.code r) p (code_at exit s) [] has))
  all_endless (Then s (Then t rest)) h good n ret exit later p k small has =
      let more = Then t rest in
      let here : HasAt (x.code r) p (code_at 0 s ++ codes_at exit more) = subst (λ b. HasAt (x.code r) p (code_at (exit_before b exit) s ++ codes_at exit more)) (stay_all_loud more h) has in
      before_endless s more (statement_sim s good.0) (is_silent s) refl n ret exit later p k small here
      (all_endless (Then t rest) h good.1 n ret exit later (p + length (code_at 0 s)) k (omega (arith, small)) (has_back (x.code r) p (code_at 0 s) (codes_at exit more) here))
  all_endless (Then s (Returned v)) h good n ret exit later p k small has = absurd (true≢false (sym h))

  -- the statements of a routine, by whether control comes to their end
  pub whole_runs : (ss : Statements) → AreStatements x.sizes x.procedures MayCall around ss → (b : Bool) → all_stay ss ≡ b → (n : ℕ) → Returns around n → (k : ℕ) → k + leads ss ≤ x.room → HasAt (x.code r) 0 (codes_at 0 ss ++ ended_by b around)
      → (HasAt (x.code r) (0 + length (codes_at 0 ss)) (ending around) → K k 2 n End (0 + length (codes_at 0 ss)) × K k 1 n End (0 + length (codes_at 0 ss) + 0)) → K (k + leads ss) 2 n (behind ss End) 0
  whole_runs ss good true is n ret k small has end =
      k_more (k + leads ss) (k + leads ss) 1 2 n (behind ss End) 0 (omega arith) (omega arith) (all_endless ss is good n ret 0 End 0 k small (has_front (x.code r) 0 (codes_at 0 ss) [] has))
  whole_runs ss good false is n ret k small has end =
      let at = end (has_back (x.code r) 0 (codes_at 0 ss) (ending around) has) in
      arm_runs ss (statements_sim ss good) (are_silent ss) refl n ret 0 End 0 k small (has_front (x.code r) 0 (codes_at 0 ss) (ending around) has) at.0 at.1

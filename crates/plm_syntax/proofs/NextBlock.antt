-- What a run does next where the parser has tested the next tokens, in statements and blocks.
use Rattle.std.proofs.Common.{◌≡◌, ℕ, zero, suc, ◌+◌, nat_lt, ◌≤◌, ◌<◌, List, [], ◌∷◌, ◌++◌, Bool, true, false, cond, Option, Some, None, Result, Ok, Err, refl, sym, ap, ◌∙◌, subst, arith, length}
use Rattle.plm_token.specs.declared.token.Keyword.TheVariants as key
use Rattle.plm_token.specs.declared.token.Mark.TheVariants as mark
use Rattle.plm_syntax.specs.declared.tree.Position.{Position}
use Rattle.plm_syntax.specs.declared.tree.Scalar.{Scalar}
use Rattle.plm_syntax.specs.Terminal.{NameT, Terminal, Name, Numeral, Text, Key, Sign, Finish, Leaf, leaf_at, is_key}
use Rattle.plm_syntax.specs.Inner.Terminal.{is_sign, is_finish}
use Rattle.plm_syntax.specs.Tree.{no_expressions, no_member, no_names, names, no_elements, public_linkage, external_linkage, no_references, EmptyS, EnableS, DisableS, HaltS, no_statements, BlockT, BlockOf, ItemsT, no_items, ModuleT}
use Rattle.plm_syntax.specs.WellFormed.{is_end_name}
use Rattle.plm_syntax.specs.Inner.Symbol.{Value, Symbol, depth, Rule, behind, otherwise, before, need, push, ReferencesR, NamesR, StatementsR, ItemsR, EndR, ElementsR, ModuleR, SubscriptsG, SelectorG, StatementG, LeadG, TargetG, MoreTargetsG, CalledG, ReturnedG, ArmG, OtherwiseG, DoG, StepG, StatementsG, EndG, ItemsG, ItemLeadG, ItemColonG, ParametersG, ParameterG, MoreParametersG, ReturnedTypeG, InterruptG, InterruptNumberG, LinkageG, ElementG, MoreElementsG, Need, Want, Do, Leave, Refused, Over, Take, Keep}
use Rattle.plm_syntax.specs.Inner.Machine.{an_expression, subscripts_rule, selector_rule, make_simple, add_label, add_target, make_assign, make_call, make_return, join_arms, make_if, make_do, make_while, make_case, set_step, statement_rule, more_targets, assignment_rule, target, called, no_labels, no_statement_yet, arm, do_rule, end_rule, and_more, make_declare, set_returned, set_linkage, make_module, scalar_of, interrupt_number, items_rule, module_rule, start_rule, Move, feed, Trace, trace, Stop, Reading, run, start, Ended, Wrong, Then, Deep, Refusal}
use Rattle.plm_syntax.specs.declared.cursor.Cursor.{Cursor}
use Rattle.plm_syntax.specs.declared.failure.Failure.{Failure}
use Rattle.plm_syntax.specs.declared.tree.Item.{Item}
use Rattle.plm_syntax.specs.declared.tree.Module.{Module}
use Rattle.plm_syntax.specs.View.{module_of}
use Rattle.plm_token.specs.declared.token.Kind.{Kind}
use Rattle.plm_token.specs.declared.token.Kind.TheVariants.{Reserved, Identifier, Numeral as NumeralKind, String, Special}
use Rattle.plm_syntax.specs.Faults.{terminal_of}
use Rattle.plm_token.specs.declared.token.Token.{Token}
use Rattle.std.specs.Prelude.{◌&&◌, IsErrAnd}
use Rattle.std.proofs.lemmas.Bool.{ltb-true, ltb-false, true≢false, false≢true}
use Rattle.plm_syntax.specs.Inner.Parsed.{ahead, next_of, first_of, stream, place_at, is_name, is_number, Takes, Finishes, Fails}
use Rattle.plm_syntax.specs.Inner.Blocks.{items_part, statements_part, LeadsItem, Parses, begins, begins_second, is_label, is_heading, begins_statement, Labels}
use Rattle.plm_syntax.specs.declared.tree.Name.{Name as NameTree}
use Rattle.plm_syntax.proofs.Steps.{go, trace_step, same_trace, ruled, feed_want, IsDecided, ruled_behind, ruled_otherwise}
use Rattle.plm_syntax.proofs.DriveExpression.{Some_leaf, some_leaf, pushed, a_reference}
use Rattle.plm_syntax.proofs.DriveDeclaration.{acted}
use Rattle.plm_syntax.proofs.StatementSteps.{marked, arm_is, statements_is}
use Rattle.plm_syntax.proofs.DriveBlock.{returned_is, item_label, item_plain, begun, assignment_begun}
use Rattle.plm_syntax.proofs.Along.{at_front, as_run, passed_over, judged, run_judged, bounded, gone, refusal}
use Rattle.plm_syntax.proofs.NextDeclaration.{at_token, prefixed}

-- ---- the next tokens

pub begins_is : (test : Terminal → Bool) (n : ℕ) (ts : List Token) → begins test (stream n ts) ≡ test (first_of n ts)
begins_is test n [] = refl
begins_is test n (t ∷ ts) = refl

-- a name that is no label stands before no colon
pub no_colon : (c rest : Cursor) (n : NameT) (p : Position) → Takes c (Name n) p rest → is_label (ahead c) ≡ false → is_sign mark.Colon (next_of rest) ≡ false
no_colon c rest n p k h = sym (begins_is (is_sign mark.Colon) rest.number rest.tokens.now) ∙ sym (ap is_label k.is) ∙ h

abbrev first_terminal : List Leaf → Terminal
first_terminal [] = Finish
first_terminal (l ∷ ls) = l.terminal

first_is : (n : ℕ) (ts : List Token) → first_terminal (stream n ts) ≡ first_of n ts
first_is n [] = refl
first_is n (t ∷ ts) = refl

pub next_is : (c rest : Cursor) (t : Terminal) (p : Position) → Takes c t p rest → next_of c ≡ t
next_is c rest t p k = sym (first_is c.number c.tokens.now) ∙ ap first_terminal k.is

some_ahead : (n : ℕ) (ts : List Token) → Some_leaf (stream n ts)
some_ahead n [] = some_leaf
some_ahead n (t ∷ ts) = some_leaf

-- ---- tokens with which a goal cannot begin

pub statement_refused : (o : Option NameT) (t : Terminal) → is_name t ≡ false → is_key key.If t ≡ false → is_key key.Do t ≡ false → is_sign mark.Semicolon t ≡ false → is_key key.Call t ≡ false → is_key key.Return t ≡ false → is_key key.Enable t ≡ false → is_key key.Disable t ≡ false → is_key key.Halt t ≡ false → statement_rule o t ≡ Refused
statement_refused o (Name n) a b c d e f g h i = absurd (true≢false a)
statement_refused o (Numeral n) a b c d e f g h i = refl
statement_refused o (Text n) a b c d e f g h i = refl
statement_refused o Finish a b c d e f g h i = refl
statement_refused o (Sign m) a b c d e f g h i = ap (λ (x : Bool). cond x (Keep false (λ p. Do (make_simple (EmptyS p)) ∷ [])) Refused) d
statement_refused o (Key k) a b c d e f g h i =
    ap (λ (x : Bool). cond x (Keep false (λ p. Want CalledG ∷ need mark.Semicolon ∷ Do (make_call p) ∷ [])) (cond (is_key key.Return (Key k)) (Keep false (λ p. Want (ReturnedG p) ∷ [])) (cond (is_key key.Enable (Key k)) (Keep false (λ p. need mark.Semicolon ∷ Do (make_simple (EnableS p)) ∷ [])) (cond (is_key key.Disable (Key k)) (Keep false (λ p. need mark.Semicolon ∷ Do (make_simple (DisableS p)) ∷ [])) (cond (is_key key.Halt (Key k)) (Keep false (λ p. need mark.Semicolon ∷ Do (make_simple (HaltS p)) ∷ [])) (cond (is_key key.If (Key k)) (Keep false (λ p. an_expression (Need (Key key.Then) ∷ Want ArmG ∷ Want OtherwiseG ∷ Do (make_if p) ∷ []))) (cond (is_key key.Do (Key k)) (Keep true (λ p. Want (DoG p o) ∷ Leave ∷ [])) Refused))))))) e
    ∙ ap (λ (x : Bool). cond x (Keep false (λ p. Want (ReturnedG p) ∷ [])) (cond (is_key key.Enable (Key k)) (Keep false (λ p. need mark.Semicolon ∷ Do (make_simple (EnableS p)) ∷ [])) (cond (is_key key.Disable (Key k)) (Keep false (λ p. need mark.Semicolon ∷ Do (make_simple (DisableS p)) ∷ [])) (cond (is_key key.Halt (Key k)) (Keep false (λ p. need mark.Semicolon ∷ Do (make_simple (HaltS p)) ∷ [])) (cond (is_key key.If (Key k)) (Keep false (λ p. an_expression (Need (Key key.Then) ∷ Want ArmG ∷ Want OtherwiseG ∷ Do (make_if p) ∷ []))) (cond (is_key key.Do (Key k)) (Keep true (λ p. Want (DoG p o) ∷ Leave ∷ [])) Refused)))))) f
    ∙ ap (λ (x : Bool). cond x (Keep false (λ p. need mark.Semicolon ∷ Do (make_simple (EnableS p)) ∷ [])) (cond (is_key key.Disable (Key k)) (Keep false (λ p. need mark.Semicolon ∷ Do (make_simple (DisableS p)) ∷ [])) (cond (is_key key.Halt (Key k)) (Keep false (λ p. need mark.Semicolon ∷ Do (make_simple (HaltS p)) ∷ [])) (cond (is_key key.If (Key k)) (Keep false (λ p. an_expression (Need (Key key.Then) ∷ Want ArmG ∷ Want OtherwiseG ∷ Do (make_if p) ∷ []))) (cond (is_key key.Do (Key k)) (Keep true (λ p. Want (DoG p o) ∷ Leave ∷ [])) Refused))))) g
    ∙ ap (λ (x : Bool). cond x (Keep false (λ p. need mark.Semicolon ∷ Do (make_simple (DisableS p)) ∷ [])) (cond (is_key key.Halt (Key k)) (Keep false (λ p. need mark.Semicolon ∷ Do (make_simple (HaltS p)) ∷ [])) (cond (is_key key.If (Key k)) (Keep false (λ p. an_expression (Need (Key key.Then) ∷ Want ArmG ∷ Want OtherwiseG ∷ Do (make_if p) ∷ []))) (cond (is_key key.Do (Key k)) (Keep true (λ p. Want (DoG p o) ∷ Leave ∷ [])) Refused)))) h
    ∙ ap (λ (x : Bool). cond x (Keep false (λ p. need mark.Semicolon ∷ Do (make_simple (HaltS p)) ∷ [])) (cond (is_key key.If (Key k)) (Keep false (λ p. an_expression (Need (Key key.Then) ∷ Want ArmG ∷ Want OtherwiseG ∷ Do (make_if p) ∷ []))) (cond (is_key key.Do (Key k)) (Keep true (λ p. Want (DoG p o) ∷ Leave ∷ [])) Refused))) i
    ∙ ap (λ (x : Bool). cond x (Keep false (λ p. an_expression (Need (Key key.Then) ∷ Want ArmG ∷ Want OtherwiseG ∷ Do (make_if p) ∷ []))) (cond (is_key key.Do (Key k)) (Keep true (λ p. Want (DoG p o) ∷ Leave ∷ [])) Refused)) b
    ∙ ap (λ (x : Bool). cond x (Keep true (λ p. Want (DoG p o) ∷ Leave ∷ [])) Refused) c

pub more_targets_refused : (t : Terminal) → is_sign mark.Comma t ≡ false → is_sign mark.Equal t ≡ false → more_targets t ≡ Refused
more_targets_refused t g h = ap (λ (x : Bool). cond x (Take false (Do add_target ∷ Want TargetG ∷ [])) (cond (is_sign mark.Equal t) (Take false (Do add_target ∷ an_expression (need mark.Semicolon ∷ Do make_assign ∷ []))) Refused)) g ∙ ap (λ (x : Bool). cond x (Take false (Do add_target ∷ an_expression (need mark.Semicolon ∷ Do make_assign ∷ []))) Refused) h

pub target_refused : (t : Terminal) → is_name t ≡ false → target t ≡ Refused
target_refused (Name n) h = absurd (true≢false h)
target_refused (Numeral n) h = refl
target_refused (Text n) h = refl
target_refused (Key n) h = refl
target_refused (Sign n) h = refl
target_refused Finish h = refl

pub called_refused : (t : Terminal) → is_name t ≡ false → called t ≡ Refused
called_refused (Name n) h = absurd (true≢false h)
called_refused (Numeral n) h = refl
called_refused (Text n) h = refl
called_refused (Key n) h = refl
called_refused (Sign n) h = refl
called_refused Finish h = refl

pub start_refused : (t : Terminal) → is_name t ≡ false → start_rule t ≡ Refused
start_refused (Name n) h = absurd (true≢false h)
start_refused (Numeral n) h = refl
start_refused (Text n) h = refl
start_refused (Key n) h = refl
start_refused (Sign n) h = refl
start_refused Finish h = refl

pub interrupt_refused : (t : Terminal) → is_number t ≡ false → interrupt_number t ≡ Refused
interrupt_refused (Name n) h = refl
interrupt_refused (Numeral n) h = absurd (true≢false h)
interrupt_refused (Text n) h = refl
interrupt_refused (Key n) h = refl
interrupt_refused (Sign n) h = refl
interrupt_refused Finish h = refl

pub end_refused : (o : Option NameT) (t : Terminal) → is_name t ≡ false → is_sign mark.Semicolon t ≡ false → end_rule o t ≡ Refused
end_refused o (Name n) g h = absurd (true≢false g)
end_refused o (Numeral n) g h = refl
end_refused o (Text n) g h = refl
end_refused o (Key n) g h = refl
end_refused o (Sign n) g h = ap (λ (x : Bool). cond x (Take false (push (EndR None) ∷ [])) Refused) h
end_refused o Finish g h = refl

pub module_refused : (n : NameT) (t : Terminal) → is_key key.Do t ≡ false → module_rule n t ≡ Refused
module_refused n t h = ap (λ (x : Bool). cond x (Take true (need mark.Semicolon ∷ push (ItemsR no_items) ∷ Want (ItemsG (Some n)) ∷ Leave ∷ Do (make_module n) ∷ Need Finish ∷ [])) Refused) h

pub do_refused : (p : Position) (o : Option NameT) (t : Terminal) → is_name t ≡ false → is_sign mark.Semicolon t ≡ false → is_key key.While t ≡ false → is_key key.Case t ≡ false → do_rule p o t ≡ Refused
do_refused p o (Name n) a b c d = absurd (true≢false a)
do_refused p o (Numeral n) a b c d = refl
do_refused p o (Text n) a b c d = refl
do_refused p o Finish a b c d = refl
do_refused p o (Sign m) a b c d = ap (λ (x : Bool). cond x (Take false (push (ItemsR no_items) ∷ Want (ItemsG o) ∷ Do (make_do p) ∷ [])) Refused) b
do_refused p o (Key k) a b c d =
    ap (λ (x : Bool). cond x (Take false (an_expression (need mark.Semicolon ∷ no_statement_yet ∷ Want (StatementsG o) ∷ Do (make_while p) ∷ []))) (cond (is_key key.Case (Key k)) (Take false (an_expression (need mark.Semicolon ∷ no_statement_yet ∷ Want (StatementsG o) ∷ Do (make_case p) ∷ []))) Refused)) c
    ∙ ap (λ (x : Bool). cond x (Take false (an_expression (need mark.Semicolon ∷ no_statement_yet ∷ Want (StatementsG o) ∷ Do (make_case p) ∷ []))) Refused) d

-- ---- goals that are over

pub no_step : (c : Cursor) (s : List Symbol) (v : List Value) → is_key key.By (next_of c) ≡ false → run 64 (Want StepG ∷ s) v (ahead c) ≡ run 64 s v (ahead c)
no_step c s v h = passed_over StepG c s v (ap (λ (b : Bool). cond b (Take false (an_expression (Do set_step ∷ []))) Over) h)

pub no_else : (c : Cursor) (s : List Symbol) (v : List Value) → is_key key.Else (next_of c) ≡ false → run 64 (Want OtherwiseG ∷ s) v (ahead c) ≡ run 64 s v (ahead c)
no_else c s v h = passed_over OtherwiseG c s v (ap (λ (b : Bool). cond b (Take false (Want ArmG ∷ Do join_arms ∷ [])) Over) h)

pub no_parameters_there : (c : Cursor) (s : List Symbol) (v : List Value) → is_sign mark.LeftParenthesis (next_of c) ≡ false → run 64 (Want ParametersG ∷ s) v (ahead c) ≡ run 64 s v (ahead c)
no_parameters_there c s v h = passed_over ParametersG c s v (ap (λ (b : Bool). cond b (Take false (Want ParameterG ∷ Want MoreParametersG ∷ [])) Over) h)

pub no_type_there : (c : Cursor) (s : List Symbol) (v : List Value) → scalar_of (next_of c) ≡ None → run 64 (Want ReturnedTypeG ∷ s) v (ahead c) ≡ run 64 s v (ahead c)
no_type_there c s v h = passed_over ReturnedTypeG c s v (ap (λ (o : Option Scalar). elim o [ None ↦ Over | Some k ↦ Take false (Do (set_returned k) ∷ []) ]) h)

pub no_interrupt_there : (c : Cursor) (s : List Symbol) (v : List Value) → is_key key.Interrupt (next_of c) ≡ false → run 64 (Want InterruptG ∷ s) v (ahead c) ≡ run 64 s v (ahead c)
no_interrupt_there c s v h = passed_over InterruptG c s v (ap (λ (b : Bool). cond b (Take false (Want InterruptNumberG ∷ [])) Over) h)

pub no_linkage_there : (c : Cursor) (s : List Symbol) (v : List Value) → is_key key.Public (next_of c) ≡ false → is_key key.External (next_of c) ≡ false → run 64 (Want LinkageG ∷ s) v (ahead c) ≡ run 64 s v (ahead c)
no_linkage_there c s v g h = passed_over LinkageG c s v
    (ap (λ (b : Bool). cond b (Take false (Do (set_linkage public_linkage) ∷ [])) (cond (is_key key.External (next_of c)) (Take false (Do (set_linkage external_linkage) ∷ [])) Over)) g
    ∙ ap (λ (b : Bool). cond b (Take false (Do (set_linkage external_linkage) ∷ [])) Over) h)

-- ---- goals that go on as others

assignment_is : (t : Terminal) (s : List Symbol) (v : List Value) (p : Option Position) → ruled (assignment_rule t) s v t p ≡ feed (Want SubscriptsG ∷ Want SelectorG ∷ Want MoreTargetsG ∷ s) v t p
assignment_is t s v p =
    ruled_otherwise (subscripts_rule t) (otherwise (behind (selector_rule t) (Want MoreTargetsG ∷ [])) (more_targets t)) (Want SelectorG ∷ Want MoreTargetsG ∷ []) s s v t p
    (ruled_otherwise (selector_rule t) (more_targets t) (Want MoreTargetsG ∷ []) s s v t p (sym (feed_want MoreTargetsG s v t p))
    ∙ sym (feed_want SelectorG (Want MoreTargetsG ∷ s) v t p))
    ∙ sym (feed_want SubscriptsG (Want SelectorG ∷ Want MoreTargetsG ∷ s) v t p)

lead_leaf : (n : NameT) (s : List Symbol) (v : List Value) (l : Leaf) (ls : List Leaf) → is_sign mark.Colon l.terminal ≡ false → trace (Want (LeadG n) ∷ s) v (l ∷ ls) ≡ trace (Want SubscriptsG ∷ Want SelectorG ∷ Want MoreTargetsG ∷ s) v (l ∷ ls)
lead_leaf n s v l ls h = same_trace (Want (LeadG n) ∷ s) (Want SubscriptsG ∷ Want SelectorG ∷ Want MoreTargetsG ∷ s) v v l ls
    (feed_want (LeadG n) s v l.terminal l.place
    ∙ ap (λ (b : Bool). ruled (cond b (Take false (Do (add_label n) ∷ Want (StatementG (Some n)) ∷ [])) (assignment_rule l.terminal)) s v l.terminal l.place) h
    ∙ assignment_is l.terminal s v l.place)

pub target_goes : (n : NameT) (c : Cursor) (s : List Symbol) (v : List Value) → is_sign mark.Colon (next_of c) ≡ false → run 64 (Want (LeadG n) ∷ s) v (ahead c) ≡ run 64 (Want SubscriptsG ∷ Want SelectorG ∷ Want MoreTargetsG ∷ s) v (ahead c)
target_goes n c s v h = at_front c (Want (LeadG n) ∷ s) (Want SubscriptsG ∷ Want SelectorG ∷ Want MoreTargetsG ∷ s) v v (λ l ls q. lead_leaf n s v l ls (ap (is_sign mark.Colon) q ∙ h))

pub returned_goes : (p : Position) (c : Cursor) (s : List Symbol) (v : List Value) → is_sign mark.Semicolon (next_of c) ≡ false → run 64 (Want (ReturnedG p) ∷ s) v (ahead c) ≡ run 64 (an_expression (need mark.Semicolon ∷ Do (make_return p) ∷ s)) v (ahead c)
returned_goes p c s v h = at_front c (Want (ReturnedG p) ∷ s) (an_expression (need mark.Semicolon ∷ Do (make_return p) ∷ s)) v v (λ l ls q. returned_is p s v l ls (ap (is_sign mark.Semicolon) q ∙ h))

pub statements_go : (o : Option NameT) (c : Cursor) (s : List Symbol) (v : List Value) → is_key key.End (next_of c) ≡ false → run 64 (Want (StatementsG o) ∷ s) v (ahead c) ≡ run 64 (Want (StatementG None) ∷ (and_more o ++ s)) (NamesR no_names ∷ v) (ahead c)
statements_go o c s v h = at_token c (Want (StatementsG o) ∷ s) (Want (StatementG None) ∷ (and_more o ++ s)) v (NamesR no_names ∷ v) refl (λ l ls q some. statements_is o s v l ls (ap (is_key key.End) q ∙ h) some)

-- ---- arms

judged_marked : (m n : ℕ) (r : Trace) → m ≤ 64 → judged n (marked m r) ≡ judged n r
judged_marked m n (Ended s v) h = refl
judged_marked m n (Wrong k) h = refl
judged_marked m zero (Then zero r) h = refl
judged_marked m (suc n) (Then zero r) h = by_test (nat_lt 64 m) refl
  where
    by_test : (b : Bool) → nat_lt 64 m ≡ b → ◌≡◌ {A = Result Reading Stop} (elim b [ true ↦ Err (Deep n) | false ↦ judged n r ]) (judged n r)
    by_test true q = absurd (omega (arith, h, ltb-true 64 m q))
    by_test false q = refl
judged_marked m n (Then (suc k) r) h = refl

pub arm_goes : (c : Cursor) (s : List Symbol) (v : List Value) (room r : ℕ) → depth s + room ≡ 64 → room ≡ suc r → run 64 (Want ArmG ∷ s) v (ahead c) ≡ run 64 (Want (StatementG None) ∷ Leave ∷ s) (NamesR no_names ∷ v) (ahead c)
arm_goes c s v room r h e = by_tokens c.number c.tokens.now
  where
    by_leaf : (l : Leaf) (ls : List Leaf) → Some_leaf ls → run 64 (Want ArmG ∷ s) v (l ∷ ls) ≡ run 64 (Want (StatementG None) ∷ Leave ∷ s) (NamesR no_names ∷ v) (l ∷ ls)
    by_leaf l ls some = run_judged (Want ArmG ∷ s) v (l ∷ ls) ∙ ap (judged (length (l ∷ ls))) (arm_is s v l ls some)
        ∙ judged_marked (suc (depth s)) (length (l ∷ ls)) (trace (Want (StatementG None) ∷ Leave ∷ s) (NamesR no_names ∷ v) (l ∷ ls)) (omega (arith, h, e))
        ∙ sym (run_judged (Want (StatementG None) ∷ Leave ∷ s) (NamesR no_names ∷ v) (l ∷ ls))

    by_tokens : (n : ℕ) (ts : List Token) → run 64 (Want ArmG ∷ s) v (stream n ts) ≡ run 64 (Want (StatementG None) ∷ Leave ∷ s) (NamesR no_names ∷ v) (stream n ts)
    by_tokens n [] = refl
    by_tokens n (t ∷ ts) = by_leaf (leaf_at (terminal_of t.kind t.text.now (place_at n t)) (place_at n t)) (stream (n + 1) ts) (some_ahead (n + 1) ts)

beyond : (k n : ℕ) (o : Result Reading Stop) → 64 < k → bounded k n o ≡ Err (Deep n)
beyond k n o h = by_test (nat_lt 64 k) refl
  where
    by_test : (b : Bool) → nat_lt 64 k ≡ b → ◌≡◌ {A = Result Reading Stop} (elim b [ true ↦ Err (Deep n) | false ↦ o ]) (Err (Deep n))
    by_test true q = refl
    by_test false q = absurd (omega (arith, h, ltb-false 64 k q))

pub arm_too_deep : (t : Terminal) (p : Position) (s : List Symbol) (v : List Value) (ls : List Leaf) → begins_statement t ≡ true → 64 < suc (depth s) → run 64 (Want ArmG ∷ s) v (leaf_at t p ∷ ls) ≡ Err (Deep (length ls))
arm_too_deep (Name n) p s v ls e h = beyond (suc (depth s)) (length ls) _ h
arm_too_deep (Sign mark.Semicolon) p s v ls e h = beyond (suc (depth s)) (length ls) _ h
arm_too_deep (Key key.Call) p s v ls e h = beyond (suc (depth s)) (length ls) _ h
arm_too_deep (Key key.Return) p s v ls e h = beyond (suc (depth s)) (length ls) _ h
arm_too_deep (Key key.Enable) p s v ls e h = beyond (suc (depth s)) (length ls) _ h
arm_too_deep (Key key.Disable) p s v ls e h = beyond (suc (depth s)) (length ls) _ h
arm_too_deep (Key key.Halt) p s v ls e h = beyond (suc (depth s)) (length ls) _ h
arm_too_deep (Key key.If) p s v ls e h = beyond (suc (depth s)) (length ls) _ h
arm_too_deep (Key key.Do) p s v ls e h = beyond (suc (suc (depth s))) (length ls) _ (omega (arith, h))
arm_too_deep (Numeral n) p s v ls e h = absurd (false≢true e)
arm_too_deep (Text n) p s v ls e h = absurd (false≢true e)
arm_too_deep Finish p s v ls e h = absurd (false≢true e)
arm_too_deep (Key k) p s v ls e h = absurd (false≢true e)
arm_too_deep (Sign m) p s v ls e h = absurd (false≢true e)

pub arm_refused : (t : Terminal) → begins_statement t ≡ false → arm t ≡ Refused
arm_refused (Name n) e = absurd (true≢false e)
arm_refused (Sign mark.Semicolon) e = absurd (true≢false e)
arm_refused (Key key.Call) e = absurd (true≢false e)
arm_refused (Key key.Return) e = absurd (true≢false e)
arm_refused (Key key.Enable) e = absurd (true≢false e)
arm_refused (Key key.Disable) e = absurd (true≢false e)
arm_refused (Key key.Halt) e = absurd (true≢false e)
arm_refused (Key key.If) e = absurd (true≢false e)
arm_refused (Key key.Do) e = absurd (true≢false e)
arm_refused (Numeral n) e = refl
arm_refused (Text n) e = refl
arm_refused Finish e = refl
arm_refused (Key k) e = refl
arm_refused (Sign m) e = refl

-- ---- the end of a block's items

items_are : (o : Option NameT) (t : Terminal) → is_name t ≡ false → items_rule o t ≡ cond (is_key key.Declare t) (Keep false (λ p. push (ElementsR no_elements) ∷ Want ElementG ∷ Want MoreElementsG ∷ Do (make_declare p) ∷ Want (ItemsG o) ∷ []))
    (cond (is_key key.End t) (Take false (no_statement_yet ∷ Want (EndG o) ∷ [])) (before (no_statement_yet ∷ no_labels ∷ []) (behind (statement_rule None t) (and_more o))))
items_are o (Name n) h = absurd (true≢false h)
items_are o (Numeral n) h = refl
items_are o (Text n) h = refl
items_are o (Key n) h = refl
items_are o (Sign n) h = refl
items_are o Finish h = refl

-- before a token that is no name
plain_entry : (o : Option NameT) (s : List Symbol) (v : List Value) (l : Leaf) (ls : List Leaf) → is_name l.terminal ≡ false → is_key key.Declare l.terminal ≡ false → Some_leaf ls
    → trace (Want (ItemsG o) ∷ s) v (l ∷ ls) ≡ trace (Want (StatementsG o) ∷ s) (StatementsR no_statements ∷ v) (l ∷ ls)
plain_entry o s v l ls g h some = by_test (is_key key.End l.terminal) refl
  where
    undeclared : items_rule o l.terminal ≡ cond (is_key key.End l.terminal) (Take false (no_statement_yet ∷ Want (EndG o) ∷ [])) (before (no_statement_yet ∷ no_labels ∷ []) (behind (statement_rule None l.terminal) (and_more o)))
    undeclared = items_are o l.terminal g ∙ ap (λ (b : Bool). cond b (Keep false (λ p. push (ElementsR no_elements) ∷ Want ElementG ∷ Want MoreElementsG ∷ Do (make_declare p) ∷ Want (ItemsG o) ∷ [])) (cond (is_key key.End l.terminal) (Take false (no_statement_yet ∷ Want (EndG o) ∷ [])) (before (no_statement_yet ∷ no_labels ∷ []) (behind (statement_rule None l.terminal) (and_more o))))) h

    by_test : (b : Bool) → is_key key.End l.terminal ≡ b → trace (Want (ItemsG o) ∷ s) v (l ∷ ls) ≡ trace (Want (StatementsG o) ∷ s) (StatementsR no_statements ∷ v) (l ∷ ls)
    by_test true e =
        trace_step (Want (ItemsG o) ∷ s) v l ls
        ∙ ap (λ (m : Move). go m ls) (feed_want (ItemsG o) s v l.terminal l.place ∙ ap (λ (x : Rule). ruled x s v l.terminal l.place) (undeclared ∙ ap (λ (b : Bool). cond b (Take false (no_statement_yet ∷ Want (EndG o) ∷ [])) (before (no_statement_yet ∷ no_labels ∷ []) (behind (statement_rule None l.terminal) (and_more o)))) e))
        ∙ ap (Then 0) (pushed (StatementsR no_statements) (Want (EndG o) ∷ s) v some)
        ∙ sym (trace_step (Want (StatementsG o) ∷ s) (StatementsR no_statements ∷ v) l ls
        ∙ ap (λ (m : Move). go m ls) (feed_want (StatementsG o) s (StatementsR no_statements ∷ v) l.terminal l.place ∙ ap (λ (b : Bool). ruled (cond b (Take false (Want (EndG o) ∷ [])) (before (no_labels ∷ []) (behind (statement_rule None l.terminal) (and_more o)))) s (StatementsR no_statements ∷ v) l.terminal l.place) e))
    by_test false e =
        item_plain o s v l ls (undeclared ∙ ap (λ (b : Bool). cond b (Take false (no_statement_yet ∷ Want (EndG o) ∷ [])) (before (no_statement_yet ∷ no_labels ∷ []) (behind (statement_rule None l.terminal) (and_more o)))) e) some
        ∙ sym (statements_is o s (StatementsR no_statements ∷ v) l ls e some)

more_targets_decided : (t : Terminal) → IsDecided (more_targets t)
more_targets_decided t = by_test (is_sign mark.Comma t) (is_sign mark.Equal t)
  where
    by_test : (a b : Bool) → IsDecided (cond a (Take false (Do add_target ∷ Want TargetG ∷ [])) (cond b (Take false (Do add_target ∷ an_expression (need mark.Semicolon ∷ Do make_assign ∷ []))) Refused))
    by_test true b = tt
    by_test false true = tt
    by_test false false = tt

decided_otherwise : (r r' : Rule) → IsDecided r' → IsDecided (otherwise r r')
decided_otherwise Refused r' h = tt
decided_otherwise Over r' h = h
decided_otherwise (Take b q) r' h = tt
decided_otherwise (Keep b f) r' h = tt

decided_behind : (r : Rule) (a : List Symbol) → IsDecided r → IsDecided (behind r a)
decided_behind Refused a h = tt
decided_behind Over a h = h
decided_behind (Take b q) a h = tt
decided_behind (Keep b f) a h = tt

assignment_decided : (t : Terminal) → IsDecided (assignment_rule t)
assignment_decided t = decided_otherwise (behind (subscripts_rule t) (Want SelectorG ∷ Want MoreTargetsG ∷ [])) (otherwise (behind (selector_rule t) (Want MoreTargetsG ∷ [])) (more_targets t))
    (decided_otherwise (behind (selector_rule t) (Want MoreTargetsG ∷ [])) (more_targets t) (more_targets_decided t))

-- after a name that begins a statement without a label
name_entry : (o : Option NameT) (n : NameT) (s : List Symbol) (v : List Value) (l : Leaf) (ls : List Leaf) → is_sign mark.Colon l.terminal ≡ false → Some_leaf ls
    → trace (Want (ItemLeadG n o) ∷ s) v (l ∷ ls) ≡ trace (Want (LeadG n) ∷ (and_more o ++ s)) (a_reference n no_expressions no_member ∷ ReferencesR no_references ∷ NamesR no_names ∷ StatementsR no_statements ∷ v) (l ∷ ls)
name_entry o n s v l ls h some =
    prefixed (ItemLeadG n o) (assignment_begun n) s (Want SubscriptsG ∷ Want SelectorG ∷ Want MoreTargetsG ∷ (and_more o ++ s)) (behind (assignment_rule l.terminal) (and_more o)) v (a_reference n no_expressions no_member ∷ ReferencesR no_references ∷ NamesR no_names ∷ StatementsR no_statements ∷ v) l ls
    (ap (λ (b : Bool). cond b (Take false (Want (ItemColonG n o) ∷ [])) (before (assignment_begun n) (behind (assignment_rule l.terminal) (and_more o)))) h)
    (decided_behind (assignment_rule l.terminal) (and_more o) (assignment_decided l.terminal))
    (ruled_behind (assignment_rule l.terminal) (and_more o) s (a_reference n no_expressions no_member ∷ ReferencesR no_references ∷ NamesR no_names ∷ StatementsR no_statements ∷ v) l.terminal l.place (assignment_decided l.terminal)
    ∙ assignment_is l.terminal (and_more o ++ s) (a_reference n no_expressions no_member ∷ ReferencesR no_references ∷ NamesR no_names ∷ StatementsR no_statements ∷ v) l.place)
    (begun n v ls some) (λ x. refl)
    ∙ sym (lead_leaf n (and_more o ++ s) (a_reference n no_expressions no_member ∷ ReferencesR no_references ∷ NamesR no_names ∷ StatementsR no_statements ∷ v) l ls h)

both_false : (a b : Bool) → a ≡ true → (a && b) ≡ false → b ≡ false
both_false true b e h = h
both_false false b e h = absurd (false≢true e)

-- after a name and a colon that begin no procedure
colon_entry : (o : Option NameT) (m : NameT) (s : List Symbol) (v : List Value) (n : ℕ) (ts : List Token) → begins (is_key key.Procedure) (stream n ts) ≡ false
    → trace (Want (ItemColonG m o) ∷ s) v (stream n ts) ≡ trace (Do (add_label m) ∷ Want (StatementG (Some m)) ∷ (and_more o ++ s)) (a_reference m no_expressions no_member ∷ ReferencesR no_references ∷ NamesR no_names ∷ StatementsR no_statements ∷ v) (stream n ts)
colon_entry o m s v n [] h = refl
colon_entry o m s v n (t ∷ ts) h =
    item_label o m s v (leaf_at (terminal_of t.kind t.text.now (place_at n t)) (place_at n t)) (stream (n + 1) ts) h (some_ahead (n + 1) ts)
    ∙ sym (acted (add_label m) (Want (StatementG (Some m)) ∷ (and_more o ++ s)) (a_reference m no_expressions no_member ∷ ReferencesR no_references ∷ NamesR no_names ∷ StatementsR no_statements ∷ v) (NamesR (names no_names m) ∷ StatementsR no_statements ∷ v) (some_ahead n (t ∷ ts)) refl)

-- after a name that begins no procedure
named_entry : (o : Option NameT) (m : NameT) (s : List Symbol) (v : List Value) (n : ℕ) (ts : List Token) → (begins (is_sign mark.Colon) (stream n ts) && begins_second (is_key key.Procedure) (stream n ts)) ≡ false
    → trace (Want (ItemLeadG m o) ∷ s) v (stream n ts) ≡ trace (push (ReferencesR no_references) ∷ push (a_reference m no_expressions no_member) ∷ Want (LeadG m) ∷ (and_more o ++ s)) (NamesR no_names ∷ StatementsR no_statements ∷ v) (stream n ts)
named_entry o m s v n [] h = refl
named_entry o m s v n (t ∷ ts) h = by_leaf (leaf_at (terminal_of t.kind t.text.now (place_at n t)) (place_at n t)) h
  where
    ready : (l : Leaf) → trace (push (ReferencesR no_references) ∷ push (a_reference m no_expressions no_member) ∷ Want (LeadG m) ∷ (and_more o ++ s)) (NamesR no_names ∷ StatementsR no_statements ∷ v) (l ∷ stream (n + 1) ts) ≡ trace (Want (LeadG m) ∷ (and_more o ++ s)) (a_reference m no_expressions no_member ∷ ReferencesR no_references ∷ NamesR no_names ∷ StatementsR no_statements ∷ v) (l ∷ stream (n + 1) ts)
    ready l = pushed (ReferencesR no_references) (push (a_reference m no_expressions no_member) ∷ Want (LeadG m) ∷ (and_more o ++ s)) (NamesR no_names ∷ StatementsR no_statements ∷ v) (some_leaf {l = l} {ls = stream (n + 1) ts})
        ∙ pushed (a_reference m no_expressions no_member) (Want (LeadG m) ∷ (and_more o ++ s)) (ReferencesR no_references ∷ NamesR no_names ∷ StatementsR no_statements ∷ v) (some_leaf {l = l} {ls = stream (n + 1) ts})

    by_test : (l : Leaf) → (b : Bool) → is_sign mark.Colon l.terminal ≡ b → (is_sign mark.Colon l.terminal && begins (is_key key.Procedure) (stream (n + 1) ts)) ≡ false
        → trace (Want (ItemLeadG m o) ∷ s) v (l ∷ stream (n + 1) ts) ≡ trace (Want (LeadG m) ∷ (and_more o ++ s)) (a_reference m no_expressions no_member ∷ ReferencesR no_references ∷ NamesR no_names ∷ StatementsR no_statements ∷ v) (l ∷ stream (n + 1) ts)
    by_test l true e h =
        trace_step (Want (ItemLeadG m o) ∷ s) v l (stream (n + 1) ts)
        ∙ ap (λ (x : Move). go x (stream (n + 1) ts)) (feed_want (ItemLeadG m o) s v l.terminal l.place ∙ ap (λ (b : Bool). ruled (cond b (Take false (Want (ItemColonG m o) ∷ [])) (before (assignment_begun m) (behind (assignment_rule l.terminal) (and_more o)))) s v l.terminal l.place) e)
        ∙ ap (Then 0) (colon_entry o m s v (n + 1) ts (both_false (is_sign mark.Colon l.terminal) (begins (is_key key.Procedure) (stream (n + 1) ts)) e h))
        ∙ sym (trace_step (Want (LeadG m) ∷ (and_more o ++ s)) (a_reference m no_expressions no_member ∷ ReferencesR no_references ∷ NamesR no_names ∷ StatementsR no_statements ∷ v) l (stream (n + 1) ts)
        ∙ ap (λ (x : Move). go x (stream (n + 1) ts)) (feed_want (LeadG m) (and_more o ++ s) (a_reference m no_expressions no_member ∷ ReferencesR no_references ∷ NamesR no_names ∷ StatementsR no_statements ∷ v) l.terminal l.place ∙ ap (λ (b : Bool). ruled (cond b (Take false (Do (add_label m) ∷ Want (StatementG (Some m)) ∷ [])) (assignment_rule l.terminal)) (and_more o ++ s) (a_reference m no_expressions no_member ∷ ReferencesR no_references ∷ NamesR no_names ∷ StatementsR no_statements ∷ v) l.terminal l.place) e))
    by_test l false e h = name_entry o m s v l (stream (n + 1) ts) e (some_ahead (n + 1) ts)

    by_leaf : (l : Leaf) → (is_sign mark.Colon l.terminal && begins (is_key key.Procedure) (stream (n + 1) ts)) ≡ false → trace (Want (ItemLeadG m o) ∷ s) v (l ∷ stream (n + 1) ts) ≡ trace (push (ReferencesR no_references) ∷ push (a_reference m no_expressions no_member) ∷ Want (LeadG m) ∷ (and_more o ++ s)) (NamesR no_names ∷ StatementsR no_statements ∷ v) (l ∷ stream (n + 1) ts)
    by_leaf l h = by_test l (is_sign mark.Colon l.terminal) refl h ∙ sym (ready l)

terminal_entry : (o : Option NameT) (s : List Symbol) (v : List Value) (u : Terminal) (p : Position) (n : ℕ) (ts : List Token) → is_key key.Declare u ≡ false → (is_name u && (begins (is_sign mark.Colon) (stream n ts) && begins_second (is_key key.Procedure) (stream n ts))) ≡ false
    → trace (Want (ItemsG o) ∷ s) v (leaf_at u p ∷ stream n ts) ≡ trace (Want (StatementsG o) ∷ s) (StatementsR no_statements ∷ v) (leaf_at u p ∷ stream n ts)
terminal_entry o s v (Name m) p n ts g h = ap (Then 0) (named_entry o m s v n ts h ∙ sym (pushed (NamesR no_names) (push (ReferencesR no_references) ∷ push (a_reference m no_expressions no_member) ∷ Want (LeadG m) ∷ (and_more o ++ s)) (StatementsR no_statements ∷ v) (some_ahead n ts)))
terminal_entry o s v (Numeral m) p n ts g h = plain_entry o s v (leaf_at (Numeral m) p) (stream n ts) refl g (some_ahead n ts)
terminal_entry o s v (Text m) p n ts g h = plain_entry o s v (leaf_at (Text m) p) (stream n ts) refl g (some_ahead n ts)
terminal_entry o s v (Key m) p n ts g h = plain_entry o s v (leaf_at (Key m) p) (stream n ts) refl g (some_ahead n ts)
terminal_entry o s v (Sign m) p n ts g h = plain_entry o s v (leaf_at (Sign m) p) (stream n ts) refl g (some_ahead n ts)
terminal_entry o s v Finish p n ts g h = plain_entry o s v (leaf_at Finish p) (stream n ts) refl g (some_ahead n ts)

-- Where neither a declaration nor a procedure comes next, the statements begin.
pub statements_begin : (o : Option NameT) (c : Cursor) (s : List Symbol) (v : List Value) → is_key key.Declare (next_of c) ≡ false → is_heading (ahead c) ≡ false
    → run 64 (Want (ItemsG o) ∷ s) v (ahead c) ≡ run 64 (Want (StatementsG o) ∷ s) (StatementsR no_statements ∷ v) (ahead c)
statements_begin o c s v g h = by_tokens c.number c.tokens.now g h
  where
    by_tokens : (n : ℕ) (ts : List Token) → is_key key.Declare (first_of n ts) ≡ false → is_heading (stream n ts) ≡ false → run 64 (Want (ItemsG o) ∷ s) v (stream n ts) ≡ run 64 (Want (StatementsG o) ∷ s) (StatementsR no_statements ∷ v) (stream n ts)
    by_tokens n [] g h = refl
    by_tokens n (t ∷ ts) g h = as_run (Want (ItemsG o) ∷ s) (Want (StatementsG o) ∷ s) v (StatementsR no_statements ∷ v) (stream n (t ∷ ts)) (terminal_entry o s v (terminal_of t.kind t.text.now (place_at n t)) (place_at n t) (n + 1) ts g h)

-- ---- labels and the names after END

pub unnamed : (c : Cursor) → is_name (next_of c) ≡ false → is_label (ahead c) ≡ false
unnamed c h = by_tokens c.number c.tokens.now h
  where
    by_tokens : (n : ℕ) (ts : List Token) → is_name (first_of n ts) ≡ false → is_label (stream n ts) ≡ false
    by_tokens n [] g = refl
    by_tokens n (t ∷ ts) g = ap (λ (b : Bool). b && begins (is_sign mark.Colon) (stream (n + 1) ts)) g

pub uncoloned : (c rest : Cursor) (n : NameT) (p : Position) → Takes c (Name n) p rest → is_sign mark.Colon (next_of rest) ≡ false → is_label (ahead c) ≡ false
uncoloned c rest n p k h = ap is_label k.is ∙ begins_is (is_sign mark.Colon) rest.number rest.tokens.now ∙ h

pub unheaded : (ls : List Leaf) → is_label ls ≡ false → is_heading ls ≡ false
unheaded [] h = refl
unheaded (l ∷ ls) h = by_tests (is_name l.terminal) (begins (is_sign mark.Colon) ls) h
  where
    by_tests : (a b : Bool) → (a && b) ≡ false → (a && (b && begins_second (is_key key.Procedure) ls)) ≡ false
    by_tests false b h = refl
    by_tests true false h = refl
    by_tests true true h = absurd (true≢false h)

pub no_procedure : (c rest : Cursor) (n : NameTree) → Labels c n rest → is_key key.Procedure (next_of rest) ≡ false → is_heading (ahead c) ≡ false
no_procedure c rest n k h = ap is_heading k.is ∙ begins_is (is_key key.Procedure) rest.number rest.tokens.now ∙ h

pub end_taken : (o : Option NameT) (n : NameT) (p : Position) (s : List Symbol) (v : List Value) (ls : List Leaf) → is_end_name o n ≡ true → run 64 (Want (EndG o) ∷ s) v (leaf_at (Name n) p ∷ ls) ≡ run 64 (need mark.Semicolon ∷ push (EndR (Some n)) ∷ s) v ls
end_taken o n p s v ls h = ap (λ (m : Move). gone m ls) (feed_want (EndG o) s v (Name n) (Some p) ∙ ap (λ (b : Bool). ruled (cond b (Take false (need mark.Semicolon ∷ push (EndR (Some n)) ∷ [])) Refused) s v (Name n) (Some p)) h)

pub end_other : (o : Option NameT) (c rest : Cursor) (n : NameT) (p : Position) → Takes c (Name n) p rest → is_end_name o n ≡ false → end_rule o (next_of c) ≡ Refused
end_other o c rest n p k h = ap (end_rule o) (next_is c rest (Name n) p k) ∙ ap (λ (b : Bool). cond b (Take false (need mark.Semicolon ∷ push (EndR (Some n)) ∷ [])) Refused) h

-- ---- parts of blocks

pub block_parts : (b : BlockT) → BlockOf (items_part b) (statements_part b) ≡ b
block_parts (BlockOf is ss) = refl

abbrev pub deep_at_length : ℕ → Result Reading Stop
deep_at_length n = Err (Deep n)

pub failed_item : (x : Result (Option (Item × Cursor)) Failure) (f : Failure) → IsErrAnd x (λ e. e ≡ f) → (c : Cursor) (room : ℕ)
    → ((l : Option NameT) (is : ItemsT) (s : List Symbol) (v : List Value) → depth s + room ≡ 64 → Fails f (run 64 (Want (ItemsG l) ∷ s) (ItemsR is ∷ v) (ahead c))) → LeadsItem x c room
failed_item (Ok None) f q c room h = absurd q
failed_item (Ok (Some y)) f q c room h = absurd q
failed_item (Err g) f q c room h = λ l is s v d. subst (λ (k : Failure). Fails k (run 64 (Want (ItemsG l) ∷ s) (ItemsR is ∷ v) (ahead c))) (sym q) (h l is s v d)

pub failed_module : (x : Result Module Failure) (f : Failure) → IsErrAnd x (λ e. e ≡ f) → (c : Cursor) → Fails f (run 64 start [] (ahead c)) → Parses c x
failed_module (Ok m) f q c h = absurd q
failed_module (Err g) f q c h = subst (λ (k : Failure). Fails k (run 64 start [] (ahead c))) (sym q) h

no_finish : (k : Kind) (text : List ℕ) (p : Position) → is_finish (terminal_of k text p) ≡ false
no_finish (Reserved w) text p = refl
no_finish Identifier text p = refl
no_finish (NumeralKind v) text p = refl
no_finish String text p = refl
no_finish (Special m) text p = refl

-- a token comes next, and not the end of the text
pub more_text : (c rest : Cursor) (k : Kind) (text : List ℕ) (p : Position) → Takes c (terminal_of k text p) p rest → is_finish (next_of c) ≡ false
more_text c rest k text p h = ap is_finish (next_is c rest (terminal_of k text p) p h) ∙ no_finish k text p

abbrev pub finished : ModuleT → Result Reading Stop
finished m = Ok (record { awaited = []; read = ModuleR m ∷ [] })

pub finishes : (m : Module) (c rest : Cursor) (r : Result Module Failure) → Finishes m rest r
    → (is_finish (next_of rest) ≡ false → run 64 start [] (ahead c) ≡ Err (Refusal (length rest.tokens.now))) → (rest.tokens.now ≡ [] → run 64 start [] (ahead c) ≡ finished (module_of m)) → Parses c r
finishes m c rest (Ok x) h stop go = go h.1 ∙ ap (λ (y : Module). finished (module_of y)) (sym h.0)
finishes m c rest (Err f) h stop go = refusal f rest h.1 (stop h.0)

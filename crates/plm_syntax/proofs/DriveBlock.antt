-- The leaves of statements, blocks and modules lead a run over them.
use Rattle.std.proofs.Common.{◌≡◌, ℕ, suc, List, [], ◌∷◌, ◌++◌, Bool, true, false, cond, Option, Some, None, refl, sym, ap, ◌∙◌, arith}
use Rattle.plm_token.specs.declared.token.Keyword.{Keyword}
use Rattle.plm_token.specs.declared.token.Keyword.TheVariants as key
use Rattle.plm_token.specs.declared.token.Mark.TheVariants as mark
use Rattle.plm_syntax.specs.declared.tree.Position.{Position}
use Rattle.plm_syntax.specs.declared.tree.Scalar.{Scalar}
use Rattle.plm_syntax.specs.declared.tree.Scalar.TheVariants as scalar
use Rattle.plm_syntax.specs.declared.tree.UnaryOperator.TheVariants as unary
use Rattle.plm_syntax.specs.Terminal.{NameT, NumeralT, Terminal, Name, Key, Sign, Finish, Leaf, leaf, leaf_at, is_key}
use Rattle.plm_syntax.specs.Inner.Terminal.{is_sign}
use Rattle.plm_syntax.specs.Tree.{Pointer, Offset, ExpressionT, NumeralE, TextE, ReferenceE, LocationE, ParenthesisedE, EmbeddedE, UnaryE, BinaryE, ReferenceT, ReferenceOf, ExpressionsT, no_expressions, expressions, SelectorT, no_member, member, member_at, LocationOf, ConstantsOf, NamesT, no_names, names, ElementsT, LinkageT, no_linkage, public_linkage, external_linkage, ReferencesT, no_references, references, StatementT, Labelled, BasicT, EmptyS, AssignS, CallS, ReturnS, ReturnValueS, EnableS, DisableS, HaltS, IfS, IfElseS, DoS, WhileS, CaseS, IterateS, StatementsT, no_statements, statements, BlockT, BlockOf, ItemsT, no_items, items, ItemT, DeclareI, ProcedureI, ModuleT, ModuleOf}
use Rattle.plm_syntax.specs.Spelling.{binary_sign, last_name, expression, reference, subscripts, selector, listed_names, parenthesised_names, returned, interrupt, linkage, ending, listed_references, targets, labels, step, statement, basic, statement_list, block, item_list, item, module_leaves, put_leaf, leaves_of}
use Rattle.plm_syntax.specs.WellFormed.{Well, WellExpressions, WellSelector, WellElements, WellTargets, WellStep, ends_open, basic_open, is_end_name, WellEnd, WellStatement, WellBasic, WellStatements, WellItems, WellItem, WellModule}
use Rattle.plm_syntax.specs.Inner.Symbol.{Value, Goal, Symbol, depth, Rule, behind, before, need, push, ExpressionR, ExpressionsR, NameR, ReferencesR, NamesR, StatementR, StatementsR, ItemsR, StepR, EndR, RangeR, HeaderR, ModuleR, Products, Sums, Relations, Conjunctions, Disjunctions, NegationG, MoreG, MoreSubscriptsG, SelectorG, StatementG, LeadG, TargetG, MoreTargetsG, ReturnedG, ArmG, OtherwiseG, StepG, StatementsG, EndG, ItemsG, ItemLeadG, ItemColonG, ParametersG, ParameterG, MoreParametersG, ReturnedTypeG, InterruptG, LinkageG, Need, Want, Do, Leave, Refused, Over, Take, Keep}
use Rattle.plm_syntax.specs.Inner.Machine.{an_expression, make_unary, add_expression, set_subscripts, more, signed, negation, expression_at, make_simple, add_label, add_target, make_assign, make_call, make_return, join_arms, make_if, add_statement, make_do, make_while, make_case, make_range, set_step, make_iterate, statement_rule, no_labels, no_statement_yet, and_more, make_declare, make_procedure, set_returned, set_interrupt, make_module, items_rule, procedure_symbols, rule, Move, Trace, trace, start, Ended, Then}
use Rattle.plm_syntax.proofs.Steps.{go, trace_step, same_trace, ruled, feed_want, IsDecided, ruled_behind, Stops, stops}
use Rattle.plm_syntax.proofs.DriveExpression.{put_then, Some_leaf, some_leaf, pushed, some_expression, some_listed, some_subscripts, a_reference, whole, signed_decided}
use Rattle.plm_syntax.proofs.DriveParts.{drives, drives_reference}
use Rattle.plm_syntax.proofs.DriveDeclaration.{acted, elements_drive}
use Rattle.plm_syntax.proofs.StatementSteps.{departed, plain_decided, statement_plain, entered, marked, arm_is, statements_is, labels_read, Targeted, by_comma, by_equal, some_selector, targets_drive, NoElse, no_else, some_no_else, Enough, enough, some_enough, no_otherwise, Begins_statement, begins_statement, begins_basic, begins_a_statement, to_no_else, to_some, same_statement, marked_statement}

abbrev pub DrivesStatement : StatementT → Type 0
DrivesStatement st = (s : List Symbol) (v : List Value) (ls : List Leaf) (r : Trace) → Enough (ends_open st) ls → trace s (StatementR st ∷ v) ls ≡ r
    → trace (Want (StatementG None) ∷ s) (NamesR no_names ∷ v) (statement put_leaf 0 (depth s) st ls) ≡ statement put_then 0 (depth s) st r

abbrev pub DrivesBasic : Option NameT → BasicT → Type 0
DrivesBasic lab b = (ns : NamesT) (s : List Symbol) (v : List Value) (ls : List Leaf) (r : Trace) → Enough (basic_open b) ls → trace s (StatementR (Labelled ns b) ∷ v) ls ≡ r
    → trace (Want (StatementG lab) ∷ s) (NamesR ns ∷ v) (basic put_leaf 0 (depth s) b ls) ≡ basic put_then 0 (depth s) b r

pub labelled : (ns : NamesT) (b : BasicT) → DrivesBasic (last_name ns) b → DrivesStatement (Labelled ns b)
labelled no_names b h = λ s v ls r q k. h no_names s v ls r q k
labelled (names ns n) b h = λ s v ls r q k. labels_read ns n s v (basic put_leaf 0 (depth s) b ls) _ (to_some (begins_basic 0 (depth s) b (some_enough (basic_open b) q))) (h (names ns n) s v ls r q k)

pub assigned : (lab : Option NameT) (xs : ReferencesT) (e : ExpressionT) → WellTargets xs → Well e → DrivesBasic lab (AssignS xs e)
assigned lab xs e w u = λ ns s v ls r q k. targets_drive lab xs w s (NamesR ns ∷ v) (expression put_leaf (depth s) e (leaf (Sign mark.Semicolon) ∷ ls)) _ (some_expression e (depth s) (leaf (Sign mark.Semicolon) ∷ ls))
    (whole (drives e u) (need mark.Semicolon ∷ Do make_assign ∷ s) (ReferencesR xs ∷ NamesR ns ∷ v) (leaf (Sign mark.Semicolon) ∷ ls) _ (stops (omega arith)) (ap (Then 0) (acted make_assign s _ _ q refl ∙ k)))

pub call : (lab : Option NameT) (p : Position) (n : NameT) (es : ExpressionsT) (m : SelectorT) → WellExpressions es → WellSelector m → DrivesBasic lab (CallS p (ReferenceOf n es m))
call lab p n es m w u = λ ns s v ls r q k. ap (λ (x : Trace). Then 0 (Then 0 x)) ((drives_reference es m w u).begun n (need mark.Semicolon ∷ Do (make_call p) ∷ s) (NamesR ns ∷ v) (leaf (Sign mark.Semicolon) ∷ ls) _ (stops (omega arith))
    (ap (Then 0) (acted (make_call p) s _ _ q refl ∙ k)))

-- a goal that goes on as an expression, with symbols after
behind_decided : (r : Rule) (a : List Symbol) → IsDecided r → IsDecided (behind r a)
behind_decided Refused a h = tt
behind_decided Over a h = h
behind_decided (Take b q) a h = tt
behind_decided (Keep b f) a h = tt

negation_decided : (t : Terminal) → IsDecided (negation t)
negation_decided t = by_test (is_key key.Not t)
  where
    by_test : (b : Bool) → IsDecided (cond b (Keep true (λ p. Want NegationG ∷ Leave ∷ Do (make_unary p unary.Not) ∷ [])) (behind (signed t) (Want (MoreG Products) ∷ Want (MoreG Sums) ∷ Want (MoreG Relations) ∷ [])))
    by_test true = tt
    by_test false = behind_decided (signed t) (Want (MoreG Products) ∷ Want (MoreG Sums) ∷ Want (MoreG Relations) ∷ []) (signed_decided t)

pub expression_goes : (g : Goal) (a s : List Symbol) (v : List Value) (l : Leaf) (ls : List Leaf) → rule g l.terminal ≡ behind (expression_at l.terminal) a → trace (Want g ∷ s) v (l ∷ ls) ≡ trace (an_expression (a ++ s)) v (l ∷ ls)
expression_goes g a s v l ls h = same_trace (Want g ∷ s) (an_expression (a ++ s)) v v l ls
    (feed_want g s v l.terminal l.place
    ∙ ap (λ (r : Rule). ruled r s v l.terminal l.place) h
    ∙ ruled_behind (expression_at l.terminal) a s v l.terminal l.place (behind_decided (negation l.terminal) (Want (MoreG Conjunctions) ∷ Want (MoreG Disjunctions) ∷ []) (negation_decided l.terminal))
    ∙ ruled_behind (negation l.terminal) (Want (MoreG Conjunctions) ∷ Want (MoreG Disjunctions) ∷ []) (a ++ s) v l.terminal l.place (negation_decided l.terminal)
    ∙ sym (feed_want NegationG (Want (MoreG Conjunctions) ∷ Want (MoreG Disjunctions) ∷ (a ++ s)) v l.terminal l.place))

-- RETURN and what begins an expression
pub returned_is : (p : Position) (s : List Symbol) (v : List Value) (l : Leaf) (ls : List Leaf) → is_sign mark.Semicolon l.terminal ≡ false → trace (Want (ReturnedG p) ∷ s) v (l ∷ ls) ≡ trace (an_expression (need mark.Semicolon ∷ Do (make_return p) ∷ s)) v (l ∷ ls)
returned_is p s v l ls h = expression_goes (ReturnedG p) (need mark.Semicolon ∷ Do (make_return p) ∷ []) s v l ls
    (ap (λ (b : Bool). cond b (Take false (Do (make_simple (ReturnS p)) ∷ [])) (behind (expression_at l.terminal) (need mark.Semicolon ∷ Do (make_return p) ∷ []))) h)

-- an expression does not begin with a semicolon
pub data NoSemicolon : List Leaf → Type 0 where
  no_semicolon : {l : Leaf} {ls : List Leaf} → is_sign mark.Semicolon l.terminal ≡ false → NoSemicolon (l ∷ ls)

pub no_semicolon_first : (e : ExpressionT) (d : ℕ) (ls : List Leaf) → NoSemicolon (expression put_leaf d e ls)
no_semicolon_first (NumeralE n) d ls = no_semicolon refl
no_semicolon_first (TextE s) d ls = no_semicolon refl
no_semicolon_first (ReferenceE (ReferenceOf n es m)) d ls = no_semicolon refl
no_semicolon_first (LocationE (LocationOf p Pointer x)) d ls = no_semicolon refl
no_semicolon_first (LocationE (LocationOf p Offset x)) d ls = no_semicolon refl
no_semicolon_first (LocationE (ConstantsOf p Pointer x)) d ls = no_semicolon refl
no_semicolon_first (LocationE (ConstantsOf p Offset x)) d ls = no_semicolon refl
no_semicolon_first (ParenthesisedE p e) d ls = no_semicolon refl
no_semicolon_first (EmbeddedE p x e) d ls = no_semicolon refl
no_semicolon_first (UnaryE p unary.Plus e) d ls = no_semicolon refl
no_semicolon_first (UnaryE p unary.Minus e) d ls = no_semicolon refl
no_semicolon_first (UnaryE p unary.Not e) d ls = no_semicolon refl
no_semicolon_first (BinaryE p o a b) d ls = no_semicolon_first a d (leaf_at (binary_sign o) p ∷ expression put_leaf d b ls)

pub returned_value_is : (p : Position) (s : List Symbol) (v : List Value) {ls : List Leaf} → NoSemicolon ls → trace (Want (ReturnedG p) ∷ s) v ls ≡ trace (an_expression (need mark.Semicolon ∷ Do (make_return p) ∷ s)) v ls
returned_value_is p s v (no_semicolon {l} {ls} h) = returned_is p s v l ls h

pub return_value : (lab : Option NameT) (p : Position) (e : ExpressionT) → Well e → DrivesBasic lab (ReturnValueS p e)
return_value lab p e w = λ ns s v ls r q k. ap (Then 0)
    (returned_value_is p s (NamesR ns ∷ v) (no_semicolon_first e (depth s) (leaf (Sign mark.Semicolon) ∷ ls))
    ∙ whole (drives e w) (need mark.Semicolon ∷ Do (make_return p) ∷ s) (NamesR ns ∷ v) (leaf (Sign mark.Semicolon) ∷ ls) _ (stops (omega arith)) (ap (Then 0) (acted (make_return p) s _ _ q refl ∙ k)))

-- ---- IF

pub arm_drives : (st : StatementT) → WellStatement st → DrivesStatement st → (s : List Symbol) (v : List Value) (ls : List Leaf) (r : Trace) → Enough (ends_open st) ls → trace s (StatementR st ∷ v) ls ≡ r
    → trace (Want ArmG ∷ s) v (statement put_leaf (suc (depth s)) (suc (depth s)) st ls) ≡ statement put_then (suc (depth s)) (suc (depth s)) st r
arm_drives st w h s v ls r q k =
    ap (trace (Want ArmG ∷ s) v) (same_statement (suc (depth s)) (suc (depth s)) st ls)
    ∙ enters (begins_a_statement 0 (suc (depth s)) st (some_enough (ends_open st) q))
    ∙ ap (marked (suc (depth s))) (h (Leave ∷ s) v ls r q (departed s _ (some_enough (ends_open st) q) ∙ k))
    ∙ marked_statement (suc (depth s)) (suc (depth s)) st w r
  where
    enters : {us : List Leaf} → Begins_statement us → trace (Want ArmG ∷ s) v us ≡ marked (suc (depth s)) (trace (Want (StatementG None) ∷ Leave ∷ s) (NamesR no_names ∷ v) us)
    enters (begins_statement {l} {ls = more} a b c) = arm_is s v l more c

pub if_then : (lab : Option NameT) (p : Position) (e : ExpressionT) (st : StatementT) → Well e → WellStatement st → DrivesStatement st → DrivesBasic lab (IfS p e st)
if_then lab p e st w u h = λ ns s v ls r q k. ap (Then 0)
    (whole (drives e w) (Need (Key key.Then) ∷ Want ArmG ∷ Want OtherwiseG ∷ Do (make_if p) ∷ s) (NamesR ns ∷ v) (leaf (Key key.Then) ∷ statement put_leaf (suc (depth s)) (suc (depth s)) st ls) _ (stops (omega arith))
    (ap (Then 0) (arm_drives st u h (Want OtherwiseG ∷ Do (make_if p) ∷ s) (ExpressionR e ∷ NamesR ns ∷ v) ls r (enough (ends_open st) q)
    (no_otherwise (Do (make_if p) ∷ s) _ q ∙ acted (make_if p) s _ _ (some_no_else q) refl ∙ k))))

-- where the THEN part is closed, ELSE is its own
pub closed_enough : (b : Bool) → b ≡ false → (ls : List Leaf) → Enough b (leaf (Key key.Else) ∷ ls)
closed_enough false e ls = some_leaf
closed_enough true e ls = absurd cc

pub if_else : (lab : Option NameT) (p : Position) (e : ExpressionT) (st su : StatementT) → Well e → WellStatement st → WellStatement su → ends_open st ≡ false → DrivesStatement st → DrivesStatement su → DrivesBasic lab (IfElseS p e st su)
if_else lab p e st su w u x closed h g = λ ns s v ls r q k. ap (Then 0)
    (whole (drives e w) (Need (Key key.Then) ∷ Want ArmG ∷ Want OtherwiseG ∷ Do (make_if p) ∷ s) (NamesR ns ∷ v) (leaf (Key key.Then) ∷ statement put_leaf (suc (depth s)) (suc (depth s)) st (leaf (Key key.Else) ∷ statement put_leaf (suc (depth s)) (suc (depth s)) su ls)) _ (stops (omega arith))
    (ap (Then 0) (arm_drives st u h (Want OtherwiseG ∷ Do (make_if p) ∷ s) (ExpressionR e ∷ NamesR ns ∷ v) (leaf (Key key.Else) ∷ statement put_leaf (suc (depth s)) (suc (depth s)) su ls) _ (closed_enough (ends_open st) closed _)
    (ap (Then 0) (arm_drives su x g (Do join_arms ∷ Do (make_if p) ∷ s) (StatementR st ∷ ExpressionR e ∷ NamesR ns ∷ v) ls r q
    (acted join_arms (Do (make_if p) ∷ s) _ _ (some_enough (ends_open su) q) refl ∙ acted (make_if p) s _ _ (some_enough (ends_open su) q) refl ∙ k))))))

-- ---- lists of statements, and ends

pub ending_drives : (lab e : Option NameT) → WellEnd lab e → (s : List Symbol) (v : List Value) (ls : List Leaf) (r : Trace) → Some_leaf ls → trace s (EndR e ∷ v) ls ≡ r → trace (Want (StatementsG lab) ∷ s) v (ending put_leaf e ls) ≡ ending put_then e r
ending_drives lab None w s v ls r q k = ap (λ (x : Trace). Then 0 (Then 0 x)) (pushed (EndR None) s v q ∙ k)
ending_drives lab (Some n) w s v ls r q k = ap (Then 0) (end_named lab n w s v (leaf (Sign mark.Semicolon) ∷ ls) ∙ ap (λ (x : Trace). Then 0 (Then 0 x)) (pushed (EndR (Some n)) s v q ∙ k))
  where
    end_named : (lab : Option NameT) (n : NameT) → is_end_name lab n ≡ true → (s : List Symbol) (v : List Value) (ls : List Leaf) → trace (Want (EndG lab) ∷ s) v (leaf (Name n) ∷ ls) ≡ Then 0 (trace (need mark.Semicolon ∷ push (EndR (Some n)) ∷ s) v ls)
    end_named lab n h s v ls = trace_step (Want (EndG lab) ∷ s) v (leaf (Name n)) ls ∙ ap (λ (m : Move). go m ls) (feed_want (EndG lab) s v (Name n) None ∙ ap (λ (b : Bool). ruled (cond b (Take false (need mark.Semicolon ∷ push (EndR (Some n)) ∷ [])) Refused) s v (Name n) None) h)

pub end_no_else : (e : Option NameT) (ls : List Leaf) → NoElse (ending put_leaf e ls)
end_no_else None ls = no_else refl
end_no_else (Some n) ls = no_else refl

pub statements_enter : (lab : Option NameT) (s : List Symbol) (v : List Value) {ls : List Leaf} → Begins_statement ls → trace (Want (StatementsG lab) ∷ s) v ls ≡ trace (Want (StatementG None) ∷ (and_more lab ++ s)) (NamesR no_names ∷ v) ls
statements_enter lab s v (begins_statement {l} {ls} a b c) = statements_is lab s v l ls a c

abbrev pub DrivesStatements : StatementsT → Type 0
DrivesStatements ss = (lab : Option NameT) (s : List Symbol) (v : List Value) (ls : List Leaf) (r : Trace) → NoElse ls → trace (Want (StatementsG lab) ∷ s) (StatementsR ss ∷ v) ls ≡ r
    → trace (Want (StatementsG lab) ∷ s) (StatementsR no_statements ∷ v) (statement_list put_leaf (depth s) ss ls) ≡ statement_list put_then (depth s) ss r

pub another_statement : (ss : StatementsT) (st : StatementT) → DrivesStatements ss → DrivesStatement st → DrivesStatements (statements ss st)
another_statement ss st hs h = λ lab s v ls r q k.
    hs lab s v (statement put_leaf 0 (depth s) st ls) _ (to_no_else (begins_a_statement 0 (depth s) st (some_no_else q)))
    (statements_enter lab s (StatementsR ss ∷ v) (begins_a_statement 0 (depth s) st (some_no_else q))
    ∙ h (and_more lab ++ s) (StatementsR ss ∷ v) ls r (enough (ends_open st) q) (acted add_statement (Want (StatementsG lab) ∷ s) _ _ (some_no_else q) refl ∙ k))

pub some_statements : (d : ℕ) (ss : StatementsT) {ls : List Leaf} → Some_leaf ls → Some_leaf (statement_list put_leaf d ss ls)
some_statements d no_statements q = q
some_statements d (statements ss st) {ls} q = some_statements d ss (to_some (begins_a_statement 0 d st q))

pub some_ending : (e : Option NameT) (ls : List Leaf) → Some_leaf (ending put_leaf e ls)
some_ending None ls = some_leaf
some_ending (Some n) ls = some_leaf

pub body_drives : (ss : StatementsT) (lab e : Option NameT) → DrivesStatements ss → WellEnd lab e → (s : List Symbol) (v : List Value) (ls : List Leaf) (r : Trace) → Some_leaf ls → trace s (EndR e ∷ StatementsR ss ∷ v) ls ≡ r
    → trace (no_statement_yet ∷ Want (StatementsG lab) ∷ s) v (statement_list put_leaf (depth s) ss (ending put_leaf e ls)) ≡ statement_list put_then (depth s) ss (ending put_then e r)
body_drives ss lab e h w s v ls r q k = pushed (StatementsR no_statements) (Want (StatementsG lab) ∷ s) v (some_statements (depth s) ss (some_ending e ls))
    ∙ h lab s v (ending put_leaf e ls) _ (end_no_else e ls) (ending_drives lab e w s (StatementsR ss ∷ v) ls r q k)

pub while : (lab : Option NameT) (p : Position) (e : ExpressionT) (ss : StatementsT) (n : Option NameT) → Well e → DrivesStatements ss → WellEnd lab n → DrivesBasic lab (WhileS p e ss n)
while lab p e ss n w h u = λ ns s v ls r q k. ap (λ (x : Trace). Then (suc (depth s)) (Then 0 x))
    (whole (drives e w) (need mark.Semicolon ∷ no_statement_yet ∷ Want (StatementsG lab) ∷ Do (make_while p) ∷ Leave ∷ s) (NamesR ns ∷ v) (leaf (Sign mark.Semicolon) ∷ statement_list put_leaf (suc (depth s)) ss (ending put_leaf n ls)) _ (stops (omega arith))
    (ap (Then 0) (body_drives ss lab n h u (Do (make_while p) ∷ Leave ∷ s) (ExpressionR e ∷ NamesR ns ∷ v) ls r q (acted (make_while p) (Leave ∷ s) _ _ q refl ∙ departed s _ q ∙ k))))

pub case_of : (lab : Option NameT) (p : Position) (e : ExpressionT) (ss : StatementsT) (n : Option NameT) → Well e → DrivesStatements ss → WellEnd lab n → DrivesBasic lab (CaseS p e ss n)
case_of lab p e ss n w h u = λ ns s v ls r q k. ap (λ (x : Trace). Then (suc (depth s)) (Then 0 x))
    (whole (drives e w) (need mark.Semicolon ∷ no_statement_yet ∷ Want (StatementsG lab) ∷ Do (make_case p) ∷ Leave ∷ s) (NamesR ns ∷ v) (leaf (Sign mark.Semicolon) ∷ statement_list put_leaf (suc (depth s)) ss (ending put_leaf n ls)) _ (stops (omega arith))
    (ap (Then 0) (body_drives ss lab n h u (Do (make_case p) ∷ Leave ∷ s) (ExpressionR e ∷ NamesR ns ∷ v) ls r q (acted (make_case p) (Leave ∷ s) _ _ q refl ∙ departed s _ q ∙ k))))

abbrev pub by_and_on : Option NameT → Position → List Symbol → List Symbol
by_and_on lab p s = Do make_range ∷ push (StepR None) ∷ Want StepG ∷ need mark.Semicolon ∷ no_statement_yet ∷ Want (StatementsG lab) ∷ Do (make_iterate p) ∷ Leave ∷ s

pub step_drives : (t : Option ExpressionT) → WellStep t → (lab : Option NameT) (p : Position) (i : NameT) (a b : ExpressionT) (s : List Symbol) (v : List Value) (ls : List Leaf) (r : Trace)
    → trace (no_statement_yet ∷ Want (StatementsG lab) ∷ Do (make_iterate p) ∷ Leave ∷ s) (StepR t ∷ RangeR i a b ∷ v) ls ≡ r
    → trace (by_and_on lab p s) (ExpressionR b ∷ ExpressionR a ∷ NameR i ∷ v) (step put_leaf (suc (depth s)) t (leaf (Sign mark.Semicolon) ∷ ls)) ≡ step put_then (suc (depth s)) t (Then 0 r)
step_drives None w lab p i a b s v ls r k = ap (Then 0) k
step_drives (Some e) w lab p i a b s v ls r k = ap (Then 0)
    (whole (drives e w) (Do set_step ∷ need mark.Semicolon ∷ no_statement_yet ∷ Want (StatementsG lab) ∷ Do (make_iterate p) ∷ Leave ∷ s) (StepR None ∷ RangeR i a b ∷ v) (leaf (Sign mark.Semicolon) ∷ ls) _ (stops (omega arith)) (ap (Then 0) k))

pub step_stops : (d : ℕ) (t : Option ExpressionT) (ls : List Leaf) → Stops 7 (step put_leaf d t (leaf (Sign mark.Semicolon) ∷ ls))
step_stops d None ls = stops (omega arith)
step_stops d (Some e) ls = stops (omega arith)

pub iterate : (lab : Option NameT) (p : Position) (i : NameT) (a b : ExpressionT) (t : Option ExpressionT) (ss : StatementsT) (n : Option NameT) → Well a → Well b → WellStep t → DrivesStatements ss → WellEnd lab n → DrivesBasic lab (IterateS p i a b t ss n)
iterate lab p i a b t ss n wa wb wt h u = λ ns s v ls r q k. ap (λ (x : Trace). Then (suc (depth s)) (Then 0 (Then 0 x)))
    (whole (drives a wa) (Need (Key key.To) ∷ an_expression (by_and_on lab p s)) (NameR i ∷ NamesR ns ∷ v) (leaf (Key key.To) ∷ expression put_leaf (suc (depth s)) b (step put_leaf (suc (depth s)) t (leaf (Sign mark.Semicolon) ∷ statement_list put_leaf (suc (depth s)) ss (ending put_leaf n ls)))) _ (stops (omega arith))
    (ap (Then 0) (whole (drives b wb) (by_and_on lab p s) (ExpressionR a ∷ NameR i ∷ NamesR ns ∷ v) (step put_leaf (suc (depth s)) t (leaf (Sign mark.Semicolon) ∷ statement_list put_leaf (suc (depth s)) ss (ending put_leaf n ls))) _ (step_stops (suc (depth s)) t _)
    (step_drives t wt lab p i a b s (NamesR ns ∷ v) (statement_list put_leaf (suc (depth s)) ss (ending put_leaf n ls)) _
    (body_drives ss lab n h u (Do (make_iterate p) ∷ Leave ∷ s) (StepR t ∷ RangeR i a b ∷ NamesR ns ∷ v) ls r q (acted (make_iterate p) (Leave ∷ s) _ _ q refl ∙ departed s _ q ∙ k))))))

-- ---- blocks

-- a block's first statement
pub item_label : (lab : Option NameT) (n : NameT) (s : List Symbol) (v : List Value) (l : Leaf) (ls : List Leaf) → is_key key.Procedure l.terminal ≡ false → Some_leaf ls
    → trace (Want (ItemColonG n lab) ∷ s) v (l ∷ ls) ≡ trace (Want (StatementG (Some n)) ∷ (and_more lab ++ s)) (NamesR (names no_names n) ∷ StatementsR no_statements ∷ v) (l ∷ ls)
item_label lab n s v l ls h q = entered (ItemColonG n lab) (StatementG (Some n)) (no_statement_yet ∷ push (NamesR (names no_names n)) ∷ []) (and_more lab) s v (NamesR (names no_names n) ∷ StatementsR no_statements ∷ v) l ls
    (ap (λ (b : Bool). cond b (Take true (procedure_symbols n (Want (ItemsG lab) ∷ []))) (before (no_statement_yet ∷ push (NamesR (names no_names n)) ∷ []) (behind (statement_rule (Some n) l.terminal) (and_more lab)))) h)
    (plain_decided (statement_rule (Some n) l.terminal) (statement_plain (Some n) l.terminal))
    (λ x. pushed (StatementsR no_statements) (push (NamesR (names no_names n)) ∷ x) v q ∙ pushed (NamesR (names no_names n)) x _ q) (λ x. refl)

pub item_plain : (lab : Option NameT) (s : List Symbol) (v : List Value) (l : Leaf) (ls : List Leaf) → items_rule lab l.terminal ≡ before (no_statement_yet ∷ no_labels ∷ []) (behind (statement_rule None l.terminal) (and_more lab)) → Some_leaf ls
    → trace (Want (ItemsG lab) ∷ s) v (l ∷ ls) ≡ trace (Want (StatementG None) ∷ (and_more lab ++ s)) (NamesR no_names ∷ StatementsR no_statements ∷ v) (l ∷ ls)
item_plain lab s v l ls h q = entered (ItemsG lab) (StatementG None) (no_statement_yet ∷ no_labels ∷ []) (and_more lab) s v (NamesR no_names ∷ StatementsR no_statements ∷ v) l ls h
    (plain_decided (statement_rule None l.terminal) (statement_plain None l.terminal))
    (λ x. pushed (StatementsR no_statements) (no_labels ∷ x) v q ∙ pushed (NamesR no_names) x _ q) (λ x. refl)

-- the four trees that an assignment begins with
abbrev pub assignment_begun : NameT → List Symbol
assignment_begun n = no_statement_yet ∷ no_labels ∷ push (ReferencesR no_references) ∷ push (a_reference n no_expressions no_member) ∷ []

pub begun : (n : NameT) (v : List Value) (ls : List Leaf) → Some_leaf ls → (x : List Symbol) → trace (assignment_begun n ++ x) v ls ≡ trace x (a_reference n no_expressions no_member ∷ ReferencesR no_references ∷ NamesR no_names ∷ StatementsR no_statements ∷ v) ls
begun n v ls q x = pushed (StatementsR no_statements) (no_labels ∷ push (ReferencesR no_references) ∷ push (a_reference n no_expressions no_member) ∷ x) v q
    ∙ pushed (NamesR no_names) (push (ReferencesR no_references) ∷ push (a_reference n no_expressions no_member) ∷ x) _ q
    ∙ pushed (ReferencesR no_references) (push (a_reference n no_expressions no_member) ∷ x) _ q
    ∙ pushed (a_reference n no_expressions no_member) x _ q

pub data Two : List Leaf → Type 0 where
  two : {l : Leaf} {ls : List Leaf} → Some_leaf ls → Two (l ∷ ls)

-- after the name, both read the same
pub lead_same : (lab : Option NameT) (n : NameT) (es : ExpressionsT) (m : SelectorT) (d : ℕ) (s : List Symbol) (v : List Value) {ls : List Leaf} → Targeted ls → Two ls
    → trace (Want (ItemLeadG n lab) ∷ s) v (subscripts put_leaf d es (selector put_leaf d m ls)) ≡ trace (push (ReferencesR no_references) ∷ push (a_reference n no_expressions no_member) ∷ Want (LeadG n) ∷ (and_more lab ++ s)) (NamesR no_names ∷ StatementsR no_statements ∷ v) (subscripts put_leaf d es (selector put_leaf d m ls))
lead_same lab n no_expressions no_member d s v by_comma (two q) = ap (Then 0) (begun n v _ q (Do add_target ∷ Want TargetG ∷ (and_more lab ++ s)))
lead_same lab n no_expressions no_member d s v by_equal (two q) = ap (Then 0) (begun n v _ q (Do add_target ∷ an_expression (need mark.Semicolon ∷ Do make_assign ∷ (and_more lab ++ s))))
lead_same lab n no_expressions (member k) d s v t q = refl
lead_same lab n no_expressions (member_at k e) d s v t q = refl
lead_same lab n (expressions es e) m d s v {ls} t q = ap (Then (suc (depth s))) (begun n v _ (some_listed (suc d) es (some_expression e (suc d) (leaf (Sign mark.RightParenthesis) ∷ selector put_leaf d m ls))) (push (ExpressionsR no_expressions) ∷ an_expression (Do add_expression ∷ Want MoreSubscriptsG ∷ Leave ∷ Do set_subscripts ∷ Want SelectorG ∷ Want MoreTargetsG ∷ (and_more lab ++ s))))

abbrev pub SameEntry : (List Leaf) → Type 0
SameEntry ls = (lab : Option NameT) (s : List Symbol) (v : List Value) → trace (Want (ItemsG lab) ∷ s) v ls ≡ trace (Want (StatementG None) ∷ (and_more lab ++ s)) (NamesR no_names ∷ StatementsR no_statements ∷ v) ls

pub entry_reference : (d : ℕ) (x : ReferenceT) (ls : List Leaf) → Targeted ls → Two ls → SameEntry (reference put_leaf 0 d x ls)
entry_reference d (ReferenceOf n es m) ls t q = λ lab s v. ap (Then 0) (lead_same lab n es m d s v t q)

pub entry_listed : (d : ℕ) (xs : ReferencesT) (x : ReferenceT) (ls : List Leaf) → Some_leaf ls → SameEntry (listed_references put_leaf 0 d (references xs x) ls)
entry_listed d no_references x ls q = entry_reference d x (leaf (Sign mark.Comma) ∷ ls) by_comma (two q)
entry_listed d (references ys y) (ReferenceOf n es m) ls q = entry_listed d ys y (reference put_leaf 0 d (ReferenceOf n es m) (leaf (Sign mark.Comma) ∷ ls)) some_leaf

pub entry_targets : (d : ℕ) (xs : ReferencesT) → WellTargets xs → (ls : List Leaf) → Some_leaf ls → SameEntry (targets put_leaf 0 d xs (leaf (Sign mark.Equal) ∷ ls))
entry_targets d no_references w ls q = absurd w
entry_targets d (references no_references x) w ls q = entry_reference d x (leaf (Sign mark.Equal) ∷ ls) by_equal (two q)
entry_targets d (references (references ys y) (ReferenceOf n es m)) w ls q = entry_listed d ys y (reference put_leaf 0 d (ReferenceOf n es m) (leaf (Sign mark.Equal) ∷ ls)) some_leaf

-- a statement's second leaf and on
pub rest_of : {ls : List Leaf} → Begins_statement ls → Two ls
rest_of (begins_statement a b c) = two c

pub entry_key : (k : Keyword) (p : Position) (ls : List Leaf) → ((lab : Option NameT) → items_rule lab (Key k) ≡ before (no_statement_yet ∷ no_labels ∷ []) (behind (statement_rule None (Key k)) (and_more lab))) → Two (leaf_at (Key k) p ∷ ls) → SameEntry (leaf_at (Key k) p ∷ ls)
entry_key k p ls h (two q) = λ lab s v. item_plain lab s v (leaf_at (Key k) p) ls (h lab) q

pub entry_basic : (d : ℕ) (lab : Option NameT) (b : BasicT) → WellBasic lab b → (ls : List Leaf) → Some_leaf ls → SameEntry (basic put_leaf 0 d b ls)
entry_basic d o (EmptyS p) w ls q = λ lab s v. item_plain lab s v (leaf_at (Sign mark.Semicolon) p) ls refl q
entry_basic d o (AssignS xs e) w ls q = entry_targets d xs w.0 (expression put_leaf d e (leaf (Sign mark.Semicolon) ∷ ls)) (some_expression e d (leaf (Sign mark.Semicolon) ∷ ls))
entry_basic d o (CallS p x) w ls q = entry_key key.Call p _ (λ lab. refl) (rest_of (begins_basic 0 d (CallS p x) q))
entry_basic d o (ReturnS p) w ls q = entry_key key.Return p _ (λ lab. refl) (rest_of (begins_basic 0 d (ReturnS p) q))
entry_basic d o (ReturnValueS p e) w ls q = entry_key key.Return p _ (λ lab. refl) (rest_of (begins_basic 0 d (ReturnValueS p e) q))
entry_basic d o (EnableS p) w ls q = entry_key key.Enable p _ (λ lab. refl) (rest_of (begins_basic 0 d (EnableS p) q))
entry_basic d o (DisableS p) w ls q = entry_key key.Disable p _ (λ lab. refl) (rest_of (begins_basic 0 d (DisableS p) q))
entry_basic d o (HaltS p) w ls q = entry_key key.Halt p _ (λ lab. refl) (rest_of (begins_basic 0 d (HaltS p) q))
entry_basic d o (IfS p e s) w ls q = entry_key key.If p _ (λ lab. refl) (rest_of (begins_basic 0 d (IfS p e s) q))
entry_basic d o (IfElseS p e s t) w ls q = entry_key key.If p _ (λ lab. refl) (rest_of (begins_basic 0 d (IfElseS p e s t) q))
entry_basic d o (DoS p b n) w ls q = entry_key key.Do p _ (λ lab. refl) (rest_of (begins_basic 0 d (DoS p b n) q))
entry_basic d o (WhileS p e ss n) w ls q = entry_key key.Do p _ (λ lab. refl) (rest_of (begins_basic 0 d (WhileS p e ss n) q))
entry_basic d o (CaseS p e ss n) w ls q = entry_key key.Do p _ (λ lab. refl) (rest_of (begins_basic 0 d (CaseS p e ss n) q))
entry_basic d o (IterateS p i a b s ss n) w ls q = entry_key key.Do p _ (λ lab. refl) (rest_of (begins_basic 0 d (IterateS p i a b s ss n) q))

-- the second leaf after a label is not PROCEDURE
pub data NoProcedure : List Leaf → Type 0 where
  no_procedure : {l : Leaf} {ls : List Leaf} → is_key key.Procedure l.terminal ≡ false → Some_leaf ls → NoProcedure (l ∷ ls)

pub entry_label : (n : NameT) (ls : List Leaf) → NoProcedure ls → SameEntry (leaf (Name n) ∷ leaf (Sign mark.Colon) ∷ ls)
entry_label n _ (no_procedure {l} {ls} h q) = λ lab s v. ap (λ (x : Trace). Then 0 (Then 0 x)) (item_label lab n s v l ls h q ∙ sym (acted (add_label n) (Want (StatementG (Some n)) ∷ (and_more lab ++ s)) (a_reference n no_expressions no_member ∷ ReferencesR no_references ∷ NamesR no_names ∷ StatementsR no_statements ∷ v) (NamesR (names no_names n) ∷ StatementsR no_statements ∷ v) (some_leaf {l = l} {ls = ls}) refl))

pub entry_labels : (ns : NamesT) (n : NameT) (ls : List Leaf) → NoProcedure ls → SameEntry (labels put_leaf 0 (names ns n) ls)
entry_labels no_names n ls q = entry_label n ls q
entry_labels (names ms l) n ls q = entry_labels ms l (leaf (Name n) ∷ leaf (Sign mark.Colon) ∷ ls) (no_procedure refl some_leaf)

pub reference_no_procedure : (m d : ℕ) (x : ReferenceT) {ls : List Leaf} → Some_leaf ls → NoProcedure (reference put_leaf m d x ls)
reference_no_procedure m d (ReferenceOf n es k) q = no_procedure refl (some_subscripts d es (some_selector d k q))

pub listed_no_procedure : (m d : ℕ) (xs : ReferencesT) (x : ReferenceT) (ls : List Leaf) → NoProcedure (listed_references put_leaf m d (references xs x) ls)
listed_no_procedure m d no_references x ls = reference_no_procedure m d x {ls = leaf (Sign mark.Comma) ∷ ls} some_leaf
listed_no_procedure m d (references ys y) x ls = listed_no_procedure m d ys y (reference put_leaf 0 d x (leaf (Sign mark.Comma) ∷ ls))

pub targets_no_procedure : (m d : ℕ) (xs : ReferencesT) {ls : List Leaf} → Some_leaf ls → NoProcedure (targets put_leaf m d xs (leaf (Sign mark.Equal) ∷ ls))
targets_no_procedure m d no_references q = no_procedure refl q
targets_no_procedure m d (references no_references x) {ls} q = reference_no_procedure m d x {ls = leaf (Sign mark.Equal) ∷ ls} some_leaf
targets_no_procedure m d (references (references ys y) x) {ls} q = listed_no_procedure m d ys y (reference put_leaf 0 d x (leaf (Sign mark.Equal) ∷ ls))

pub basic_no_procedure : (m d : ℕ) (b : BasicT) {ls : List Leaf} → Some_leaf ls → NoProcedure (basic put_leaf m d b ls)
basic_no_procedure m d (EmptyS p) q = no_procedure refl q
basic_no_procedure m d (AssignS xs e) {ls} q = targets_no_procedure m d xs (some_expression e d (leaf (Sign mark.Semicolon) ∷ ls))
basic_no_procedure m d (CallS p (ReferenceOf n es k)) q = no_procedure refl some_leaf
basic_no_procedure m d (ReturnS p) q = no_procedure refl some_leaf
basic_no_procedure m d (ReturnValueS p e) {ls} q = no_procedure refl (some_expression e d (leaf (Sign mark.Semicolon) ∷ ls))
basic_no_procedure m d (EnableS p) q = no_procedure refl some_leaf
basic_no_procedure m d (DisableS p) q = no_procedure refl some_leaf
basic_no_procedure m d (HaltS p) q = no_procedure refl some_leaf
basic_no_procedure m d (IfS p e s) {ls} q = no_procedure refl (some_expression e d (leaf (Key key.Then) ∷ statement put_leaf (suc d) (suc d) s ls))
basic_no_procedure m d (IfElseS p e s t) {ls} q = no_procedure refl (some_expression e d (leaf (Key key.Then) ∷ statement put_leaf (suc d) (suc d) s (leaf (Key key.Else) ∷ statement put_leaf (suc d) (suc d) t ls)))
basic_no_procedure m d (DoS p b n) q = no_procedure refl some_leaf
basic_no_procedure m d (WhileS p e ss n) q = no_procedure refl some_leaf
basic_no_procedure m d (CaseS p e ss n) q = no_procedure refl some_leaf
basic_no_procedure m d (IterateS p i a b s ss n) q = no_procedure refl some_leaf

pub entry_statement : (d : ℕ) (st : StatementT) → WellStatement st → (ls : List Leaf) → Some_leaf ls → SameEntry (statement put_leaf 0 d st ls)
entry_statement d (Labelled no_names b) w ls q = entry_basic d None b w ls q
entry_statement d (Labelled (names ns n) b) w ls q = entry_labels ns n (basic put_leaf 0 d b ls) (basic_no_procedure 0 d b q)

pub entry_statements : (d : ℕ) (ss : StatementsT) (st : StatementT) → WellStatements (statements ss st) → (ls : List Leaf) → Some_leaf ls → (lab : Option NameT) (s : List Symbol) (v : List Value)
    → trace (Want (ItemsG lab) ∷ s) v (statement_list put_leaf d (statements ss st) ls) ≡ trace (Want (StatementsG lab) ∷ s) (StatementsR no_statements ∷ v) (statement_list put_leaf d (statements ss st) ls)
entry_statements d no_statements st w ls q lab s v = entry_statement d st w.1 ls q lab s v ∙ sym (statements_enter lab s (StatementsR no_statements ∷ v) (begins_a_statement 0 d st q))
entry_statements d (statements ss su) st w ls q lab s v = entry_statements d ss su w.0 (statement put_leaf 0 d st ls) (to_some (begins_a_statement 0 d st q)) lab s v

-- from the declarations to the statements and the end of a block
pub block_end : (ss : StatementsT) (lab e : Option NameT) → WellStatements ss → DrivesStatements ss → WellEnd lab e → (s : List Symbol) (v : List Value) (ls : List Leaf) (r : Trace) → Some_leaf ls → trace s (EndR e ∷ StatementsR ss ∷ v) ls ≡ r
    → trace (Want (ItemsG lab) ∷ s) v (statement_list put_leaf (depth s) ss (ending put_leaf e ls)) ≡ statement_list put_then (depth s) ss (ending put_then e r)
block_end no_statements lab None w h u s v ls r q k = ending_drives lab None u s (StatementsR no_statements ∷ v) ls r q k
block_end no_statements lab (Some n) w h u s v ls r q k = items_end lab n s v (leaf (Sign mark.Semicolon) ∷ ls) ∙ ending_drives lab (Some n) u s (StatementsR no_statements ∷ v) ls r q k
  where
    items_end : (lab : Option NameT) (n : NameT) (s : List Symbol) (v : List Value) (ls : List Leaf) → trace (Want (ItemsG lab) ∷ s) v (leaf (Key key.End) ∷ leaf (Name n) ∷ ls) ≡ trace (Want (StatementsG lab) ∷ s) (StatementsR no_statements ∷ v) (leaf (Key key.End) ∷ leaf (Name n) ∷ ls)
    items_end lab n s v ls = refl
block_end (statements ss st) lab e w h u s v ls r q k = entry_statements (depth s) ss st w (ending put_leaf e ls) (some_ending e ls) lab s v
    ∙ h lab s v (ending put_leaf e ls) _ (end_no_else e ls) (ending_drives lab e u s (StatementsR (statements ss st) ∷ v) ls r q k)

-- ---- procedures

pub linkage_drives : (k : LinkageT) (n : NameT) (ps : NamesT) (t : Option Scalar) (i : Option NumeralT) (s : List Symbol) (v : List Value) (ls : List Leaf) (r : Trace) → trace s (HeaderR n ps t i k ∷ v) ls ≡ r
    → trace (Want LinkageG ∷ need mark.Semicolon ∷ s) (HeaderR n ps t i no_linkage ∷ v) (linkage put_leaf k (leaf (Sign mark.Semicolon) ∷ ls)) ≡ linkage put_then k (Then 0 r)
linkage_drives no_linkage n ps t i s v ls r h = ap (Then 0) h
linkage_drives public_linkage n ps t i s v ls r h = ap (λ (x : Trace). Then 0 (Then 0 x)) h
linkage_drives external_linkage n ps t i s v ls r h = ap (λ (x : Trace). Then 0 (Then 0 x)) h

pub some_linkage : (k : LinkageT) (ls : List Leaf) → Some_leaf (linkage put_leaf k (leaf (Sign mark.Semicolon) ∷ ls))
some_linkage no_linkage ls = some_leaf
some_linkage public_linkage ls = some_leaf
some_linkage external_linkage ls = some_leaf

pub no_interrupt : (k : LinkageT) (s : List Symbol) (v : List Value) (ls : List Leaf) → trace (Want InterruptG ∷ s) v (linkage put_leaf k (leaf (Sign mark.Semicolon) ∷ ls)) ≡ trace s v (linkage put_leaf k (leaf (Sign mark.Semicolon) ∷ ls))
no_interrupt no_linkage s v ls = refl
no_interrupt public_linkage s v ls = refl
no_interrupt external_linkage s v ls = refl

pub interrupt_drives : (i : Option NumeralT) (k : LinkageT) (n : NameT) (ps : NamesT) (t : Option Scalar) (s : List Symbol) (v : List Value) (ls : List Leaf) (r : Trace) → trace s (HeaderR n ps t i k ∷ v) ls ≡ r
    → trace (Want InterruptG ∷ Want LinkageG ∷ need mark.Semicolon ∷ s) (HeaderR n ps t None no_linkage ∷ v) (interrupt put_leaf i (linkage put_leaf k (leaf (Sign mark.Semicolon) ∷ ls))) ≡ interrupt put_then i (linkage put_then k (Then 0 r))
interrupt_drives None k n ps t s v ls r h = no_interrupt k (Want LinkageG ∷ need mark.Semicolon ∷ s) _ ls ∙ linkage_drives k n ps t None s v ls r h
interrupt_drives (Some m) k n ps t s v ls r h = ap (λ (x : Trace). Then 0 (Then 0 x)) (acted (set_interrupt m) (Want LinkageG ∷ need mark.Semicolon ∷ s) _ _ (some_linkage k ls) refl ∙ linkage_drives k n ps t (Some m) s v ls r h)

pub some_interrupt : (i : Option NumeralT) (k : LinkageT) (ls : List Leaf) → Some_leaf (interrupt put_leaf i (linkage put_leaf k (leaf (Sign mark.Semicolon) ∷ ls)))
some_interrupt None k ls = some_linkage k ls
some_interrupt (Some m) k ls = some_leaf

pub no_type : (i : Option NumeralT) (k : LinkageT) (s : List Symbol) (v : List Value) (ls : List Leaf) → trace (Want ReturnedTypeG ∷ s) v (interrupt put_leaf i (linkage put_leaf k (leaf (Sign mark.Semicolon) ∷ ls))) ≡ trace s v (interrupt put_leaf i (linkage put_leaf k (leaf (Sign mark.Semicolon) ∷ ls)))
no_type None no_linkage s v ls = refl
no_type None public_linkage s v ls = refl
no_type None external_linkage s v ls = refl
no_type (Some m) k s v ls = refl

pub returned_drives : (t : Option Scalar) (i : Option NumeralT) (k : LinkageT) (n : NameT) (ps : NamesT) (s : List Symbol) (v : List Value) (ls : List Leaf) (r : Trace) → trace s (HeaderR n ps t i k ∷ v) ls ≡ r
    → trace (Want ReturnedTypeG ∷ Want InterruptG ∷ Want LinkageG ∷ need mark.Semicolon ∷ s) (HeaderR n ps None None no_linkage ∷ v) (returned put_leaf t (interrupt put_leaf i (linkage put_leaf k (leaf (Sign mark.Semicolon) ∷ ls)))) ≡ returned put_then t (interrupt put_then i (linkage put_then k (Then 0 r)))
returned_drives None i k n ps s v ls r h = no_type i k (Want InterruptG ∷ Want LinkageG ∷ need mark.Semicolon ∷ s) _ ls ∙ interrupt_drives i k n ps None s v ls r h
returned_drives (Some scalar.Byte) i k n ps s v ls r h = ap (Then 0) (acted (set_returned scalar.Byte) (Want InterruptG ∷ Want LinkageG ∷ need mark.Semicolon ∷ s) _ _ (some_interrupt i k ls) refl ∙ interrupt_drives i k n ps (Some scalar.Byte) s v ls r h)
returned_drives (Some scalar.Word) i k n ps s v ls r h = ap (Then 0) (acted (set_returned scalar.Word) (Want InterruptG ∷ Want LinkageG ∷ need mark.Semicolon ∷ s) _ _ (some_interrupt i k ls) refl ∙ interrupt_drives i k n ps (Some scalar.Word) s v ls r h)
returned_drives (Some scalar.Address) i k n ps s v ls r h = ap (Then 0) (acted (set_returned scalar.Address) (Want InterruptG ∷ Want LinkageG ∷ need mark.Semicolon ∷ s) _ _ (some_interrupt i k ls) refl ∙ interrupt_drives i k n ps (Some scalar.Address) s v ls r h)
returned_drives (Some scalar.Pointer) i k n ps s v ls r h = ap (Then 0) (acted (set_returned scalar.Pointer) (Want InterruptG ∷ Want LinkageG ∷ need mark.Semicolon ∷ s) _ _ (some_interrupt i k ls) refl ∙ interrupt_drives i k n ps (Some scalar.Pointer) s v ls r h)
returned_drives (Some scalar.Integer) i k n ps s v ls r h = ap (Then 0) (acted (set_returned scalar.Integer) (Want InterruptG ∷ Want LinkageG ∷ need mark.Semicolon ∷ s) _ _ (some_interrupt i k ls) refl ∙ interrupt_drives i k n ps (Some scalar.Integer) s v ls r h)

pub some_returned : (t : Option Scalar) (i : Option NumeralT) (k : LinkageT) (ls : List Leaf) → Some_leaf (returned put_leaf t (interrupt put_leaf i (linkage put_leaf k (leaf (Sign mark.Semicolon) ∷ ls))))
some_returned None i k ls = some_interrupt i k ls
some_returned (Some t) i k ls = some_leaf

pub no_parameters : (t : Option Scalar) (i : Option NumeralT) (k : LinkageT) (s : List Symbol) (v : List Value) (ls : List Leaf) → trace (Want ParametersG ∷ s) v (returned put_leaf t (interrupt put_leaf i (linkage put_leaf k (leaf (Sign mark.Semicolon) ∷ ls)))) ≡ trace s v (returned put_leaf t (interrupt put_leaf i (linkage put_leaf k (leaf (Sign mark.Semicolon) ∷ ls))))
no_parameters None None no_linkage s v ls = refl
no_parameters None None public_linkage s v ls = refl
no_parameters None None external_linkage s v ls = refl
no_parameters None (Some m) k s v ls = refl
no_parameters (Some scalar.Byte) i k s v ls = refl
no_parameters (Some scalar.Word) i k s v ls = refl
no_parameters (Some scalar.Address) i k s v ls = refl
no_parameters (Some scalar.Pointer) i k s v ls = refl
no_parameters (Some scalar.Integer) i k s v ls = refl

abbrev pub parameter_and_more : List Symbol → List Symbol
parameter_and_more s = Want ParameterG ∷ Want MoreParametersG ∷ s

pub parameters_listed : (ps : NamesT) (n : NameT) (s : List Symbol) (v : List Value) (ls : List Leaf) (r : Trace) → trace (parameter_and_more s) (HeaderR n ps None None no_linkage ∷ v) ls ≡ r → trace (parameter_and_more s) (HeaderR n no_names None None no_linkage ∷ v) (listed_names put_leaf ps ls) ≡ listed_names put_then ps r
parameters_listed no_names n s v ls r k = k
parameters_listed (names ps p) n s v ls r k = parameters_listed ps n s v (leaf (Name p) ∷ leaf (Sign mark.Comma) ∷ ls) _ (ap (λ (x : Trace). Then 0 (Then 0 x)) k)

pub header_drives : (ps : NamesT) (t : Option Scalar) (i : Option NumeralT) (k : LinkageT) (n : NameT) (s : List Symbol) (v : List Value) (ls : List Leaf) (r : Trace) → trace s (HeaderR n ps t i k ∷ v) ls ≡ r
    → trace (Want ParametersG ∷ Want ReturnedTypeG ∷ Want InterruptG ∷ Want LinkageG ∷ need mark.Semicolon ∷ s) (HeaderR n no_names None None no_linkage ∷ v) (parenthesised_names put_leaf ps (returned put_leaf t (interrupt put_leaf i (linkage put_leaf k (leaf (Sign mark.Semicolon) ∷ ls))))) ≡ parenthesised_names put_then ps (returned put_then t (interrupt put_then i (linkage put_then k (Then 0 r))))
header_drives no_names t i k n s v ls r h = no_parameters t i k (Want ReturnedTypeG ∷ Want InterruptG ∷ Want LinkageG ∷ need mark.Semicolon ∷ s) _ ls ∙ returned_drives t i k n no_names s v ls r h
header_drives (names ps p) t i k n s v ls r h = ap (Then 0) (parameters_listed ps n (Want ReturnedTypeG ∷ Want InterruptG ∷ Want LinkageG ∷ need mark.Semicolon ∷ s) v (leaf (Name p) ∷ leaf (Sign mark.RightParenthesis) ∷ returned put_leaf t (interrupt put_leaf i (linkage put_leaf k (leaf (Sign mark.Semicolon) ∷ ls)))) _
    (ap (λ (x : Trace). Then 0 (Then 0 x)) (returned_drives t i k n (names ps p) s v ls r h)))

pub some_header : (ps : NamesT) (t : Option Scalar) (i : Option NumeralT) (k : LinkageT) (ls : List Leaf) → Some_leaf (parenthesised_names put_leaf ps (returned put_leaf t (interrupt put_leaf i (linkage put_leaf k (leaf (Sign mark.Semicolon) ∷ ls)))))
some_header no_names t i k ls = some_returned t i k ls
some_header (names ps p) t i k ls = some_leaf

abbrev pub DrivesItems : ItemsT → Type 0
DrivesItems is = (lab : Option NameT) (s : List Symbol) (v : List Value) (ls : List Leaf) (r : Trace) → Some_leaf ls → trace (Want (ItemsG lab) ∷ s) (ItemsR is ∷ v) ls ≡ r
    → trace (Want (ItemsG lab) ∷ s) (ItemsR no_items ∷ v) (item_list put_leaf (depth s) is ls) ≡ item_list put_then (depth s) is r

abbrev pub DrivesItem : ItemT → Type 0
DrivesItem i = (is : ItemsT) (lab : Option NameT) (s : List Symbol) (v : List Value) (ls : List Leaf) (r : Trace) → Some_leaf ls → trace (Want (ItemsG lab) ∷ s) (ItemsR (items is i) ∷ v) ls ≡ r
    → trace (Want (ItemsG lab) ∷ s) (ItemsR is ∷ v) (item put_leaf (depth s) i ls) ≡ item put_then (depth s) i r

-- a block and its end
abbrev pub DrivesBlock : BlockT → Type 0
DrivesBlock (BlockOf is ss) = (lab e : Option NameT) → WellEnd lab e → (s : List Symbol) (v : List Value) (ls : List Leaf) (r : Trace) → Some_leaf ls → trace s (EndR e ∷ StatementsR ss ∷ ItemsR is ∷ v) ls ≡ r
    → trace (push (ItemsR no_items) ∷ Want (ItemsG lab) ∷ s) v (block put_leaf (depth s) (BlockOf is ss) (ending put_leaf e ls)) ≡ block put_then (depth s) (BlockOf is ss) (ending put_then e r)

pub some_item : (d : ℕ) (i : ItemT) (ls : List Leaf) → Some_leaf (item put_leaf d i ls)
some_item d (DeclareI p es) ls = some_leaf
some_item d (ProcedureI n ps t i k b e) ls = some_leaf

pub some_items : (d : ℕ) (is : ItemsT) {ls : List Leaf} → Some_leaf ls → Some_leaf (item_list put_leaf d is ls)
some_items d no_items q = q
some_items d (items is i) {ls} q = some_items d is (some_item d i ls)

pub another_item : (is : ItemsT) (i : ItemT) → DrivesItems is → DrivesItem i → DrivesItems (items is i)
another_item is i h g = λ lab s v ls r q k. h lab s v (item put_leaf (depth s) i ls) _ (some_item (depth s) i ls) (g is lab s v ls r q k)

pub block_drives : (is : ItemsT) (ss : StatementsT) → WellStatements ss → DrivesItems is → DrivesStatements ss → DrivesBlock (BlockOf is ss)
block_drives is ss w h g = λ lab e u s v ls r q k.
    pushed (ItemsR no_items) (Want (ItemsG lab) ∷ s) v (some_items (depth s) is (some_statements (depth s) ss (some_ending e ls)))
    ∙ h lab s v (statement_list put_leaf (depth s) ss (ending put_leaf e ls)) _ (some_statements (depth s) ss (some_ending e ls)) (block_end ss lab e w g u s (ItemsR is ∷ v) ls r q k)

pub declaration : (p : Position) (es : ElementsT) → WellElements es → DrivesItem (DeclareI p es)
declaration p es w = λ is lab s v ls r q k. ap (Then 0) (elements_drive es w (Do (make_declare p) ∷ Want (ItemsG lab) ∷ s) (ItemsR is ∷ v) ls r (acted (make_declare p) (Want (ItemsG lab) ∷ s) _ _ q refl ∙ k))

pub procedure : (n : NameT) (ps : NamesT) (t : Option Scalar) (i : Option NumeralT) (l : LinkageT) (bs : ItemsT) (ss : StatementsT) (e : Option NameT) → DrivesBlock (BlockOf bs ss) → WellEnd (Some n) e → DrivesItem (ProcedureI n ps t i l (BlockOf bs ss) e)
procedure n ps t i l bs ss e h w = λ is lab s v ls r q k. ap (λ (x : Trace). Then 0 (Then 0 (Then (suc (depth s)) x)))
    (pushed (HeaderR n no_names None None no_linkage) (Want ParametersG ∷ Want ReturnedTypeG ∷ Want InterruptG ∷ Want LinkageG ∷ need mark.Semicolon ∷ push (ItemsR no_items) ∷ Want (ItemsG (Some n)) ∷ Leave ∷ Do make_procedure ∷ Want (ItemsG lab) ∷ s) (ItemsR is ∷ v) (some_header ps t i l (block put_leaf (suc (depth s)) (BlockOf bs ss) (ending put_leaf e ls)))
    ∙ header_drives ps t i l n (push (ItemsR no_items) ∷ Want (ItemsG (Some n)) ∷ Leave ∷ Do make_procedure ∷ Want (ItemsG lab) ∷ s) (ItemsR is ∷ v) (block put_leaf (suc (depth s)) (BlockOf bs ss) (ending put_leaf e ls)) _
    (h (Some n) e w (Leave ∷ Do make_procedure ∷ Want (ItemsG lab) ∷ s) (HeaderR n ps t i l ∷ ItemsR is ∷ v) ls r q
    (departed (Do make_procedure ∷ Want (ItemsG lab) ∷ s) _ q ∙ acted make_procedure (Want (ItemsG lab) ∷ s) _ _ q refl ∙ k)))

pub do_block : (lab : Option NameT) (p : Position) (is : ItemsT) (ss : StatementsT) (n : Option NameT) → DrivesBlock (BlockOf is ss) → WellEnd lab n → DrivesBasic lab (DoS p (BlockOf is ss) n)
do_block lab p is ss n h w = λ ns s v ls r q k. ap (λ (x : Trace). Then (suc (depth s)) (Then 0 x))
    (h lab n w (Do (make_do p) ∷ Leave ∷ s) (NamesR ns ∷ v) ls r q (acted (make_do p) (Leave ∷ s) _ _ q refl ∙ departed s _ q ∙ k))

mutual
  pub drives_statement : (st : StatementT) → WellStatement st → DrivesStatement st
  drives_statement (Labelled ns b) w = labelled ns b (drives_basic (last_name ns) b w)

  drives_basic : (lab : Option NameT) (b : BasicT) → WellBasic lab b → DrivesBasic lab b
  drives_basic lab (EmptyS p) w = λ ns s v ls r q k. ap (Then 0) (acted (make_simple (EmptyS p)) s _ _ q refl ∙ k)
  drives_basic lab (AssignS xs e) w = assigned lab xs e w.0 w.1
  drives_basic lab (CallS p (ReferenceOf n es m)) w = call lab p n es m w.0 w.1
  drives_basic lab (ReturnS p) w = λ ns s v ls r q k. ap (λ (x : Trace). Then 0 (Then 0 x)) (acted (make_simple (ReturnS p)) s _ _ q refl ∙ k)
  drives_basic lab (ReturnValueS p e) w = return_value lab p e w
  drives_basic lab (EnableS p) w = λ ns s v ls r q k. ap (λ (x : Trace). Then 0 (Then 0 x)) (acted (make_simple (EnableS p)) s _ _ q refl ∙ k)
  drives_basic lab (DisableS p) w = λ ns s v ls r q k. ap (λ (x : Trace). Then 0 (Then 0 x)) (acted (make_simple (DisableS p)) s _ _ q refl ∙ k)
  drives_basic lab (HaltS p) w = λ ns s v ls r q k. ap (λ (x : Trace). Then 0 (Then 0 x)) (acted (make_simple (HaltS p)) s _ _ q refl ∙ k)
  drives_basic lab (IfS p e st) w = if_then lab p e st w.0 w.1 (drives_statement st w.1)
  drives_basic lab (IfElseS p e st su) w = if_else lab p e st su w.0 w.1 w.3 w.2 (drives_statement st w.1) (drives_statement su w.3)
  drives_basic lab (DoS p (BlockOf is ss) n) w = do_block lab p is ss n (block_drives is ss w.0.1 (drives_items is w.0.0) (drives_statements ss w.0.1)) w.1
  drives_basic lab (WhileS p e ss n) w = while lab p e ss n w.0 (drives_statements ss w.1) w.2
  drives_basic lab (CaseS p e ss n) w = case_of lab p e ss n w.0 (drives_statements ss w.1) w.2
  drives_basic lab (IterateS p i a b t ss n) w = iterate lab p i a b t ss n w.0 w.1 w.2 (drives_statements ss w.3) w.4

  drives_statements : (ss : StatementsT) → WellStatements ss → DrivesStatements ss
  drives_statements no_statements w = λ lab s v ls r q k. k
  drives_statements (statements ss st) w = another_statement ss st (drives_statements ss w.0) (drives_statement st w.1)

  drives_items : (is : ItemsT) → WellItems is → DrivesItems is
  drives_items no_items w = λ lab s v ls r q k. k
  drives_items (items is i) w = another_item is i (drives_items is w.0) (drives_item i w.1)

  drives_item : (i : ItemT) → WellItem i → DrivesItem i
  drives_item (DeclareI p es) w = declaration p es w
  drives_item (ProcedureI n ps t i l (BlockOf bs ss) e) w = procedure n ps t i l bs ss e (block_drives bs ss w.0.1 (drives_items bs w.0.0) (drives_statements ss w.0.1)) w.1

-- A well-formed module's leaves are read, and make the module.
pub module_drives : (m : ModuleT) → WellModule m → trace start [] (leaves_of m) ≡ module_leaves put_then 0 m (Ended [] (ModuleR m ∷ []))
module_drives (ModuleOf n (BlockOf is ss) e) w = ap (λ (x : Trace). Then 0 (Then 0 (Then 1 (Then 0 x))))
    (block_drives is ss w.0.1 (drives_items is w.0.0) (drives_statements ss w.0.1) (Some n) e w.1 (Leave ∷ Do (make_module n) ∷ Need Finish ∷ []) [] (leaf Finish ∷ []) _ some_leaf refl)

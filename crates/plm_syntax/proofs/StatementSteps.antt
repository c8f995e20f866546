-- Steps at the beginning of a statement.
use Rattle.std.proofs.Common.{◌≡◌, ℕ, zero, suc, List, [], ◌∷◌, ◌++◌, Bool, true, false, cond, Option, Some, None, refl, sym, ap, ◌∙◌, append_assoc, arith}
use Rattle.plm_token.specs.declared.token.Keyword.TheVariants as key
use Rattle.plm_token.specs.declared.token.Mark.TheVariants as mark
use Rattle.plm_syntax.specs.declared.tree.Position.{Position}
use Rattle.plm_syntax.specs.Terminal.{NameT, Terminal, Name, Numeral, Text, Key, Sign, Finish, Leaf, leaf, is_key}
use Rattle.plm_syntax.specs.Inner.Terminal.{is_sign}
use Rattle.plm_syntax.specs.Tree.{ReferenceT, ReferenceOf, ExpressionsT, no_expressions, expressions, SelectorT, no_member, member, member_at, NamesT, no_names, names, ReferencesT, no_references, references, StatementT, Labelled, BasicT, EmptyS, AssignS, CallS, ReturnS, ReturnValueS, EnableS, DisableS, HaltS, IfS, IfElseS, DoS, WhileS, CaseS, IterateS}
use Rattle.plm_syntax.specs.Spelling.{expression, reference, subscripts, selector, listed_references, targets, labels, statement, basic, put_leaf}
use Rattle.plm_syntax.specs.WellFormed.{WellReference, WellExpressions, WellSelector, WellSomeReferences, WellTargets, WellStatement, WellBasic}
use Rattle.plm_syntax.specs.Inner.Symbol.{Value, Goal, Symbol, depth, Rule, behind, before, opened, need, push, ReferencesR, NamesR, SubscriptsG, SelectorG, StatementG, LeadG, TargetG, MoreTargetsG, CalledG, ReturnedG, ArmG, OtherwiseG, DoG, StatementsG, EndG, Need, Want, Do, Leave, Refused, Over, Take, Keep}
use Rattle.plm_syntax.specs.Inner.Machine.{an_expression, make_simple, add_label, add_target, make_assign, make_call, join_arms, make_if, statement_rule, no_labels, and_more, rule, Move, moved, Trace, trace, Ended, Wrong, Then}
use Rattle.plm_syntax.proofs.Steps.{go, trace_step, same_trace, ruled, feed_want, over, IsDecided, Stops, stops}
use Rattle.plm_syntax.proofs.DriveExpression.{put_then, Some_leaf, some_leaf, some_of, pushed, some_expression, some_subscripts, a_reference}
use Rattle.plm_syntax.proofs.DriveParts.{drives_reference}
use Rattle.plm_syntax.proofs.DriveDeclaration.{acted}

pub departed : {ls : List Leaf} (s : List Symbol) (v : List Value) → Some_leaf ls → trace (Leave ∷ s) v ls ≡ trace s v ls
departed s v (some_leaf {l} {ls}) = same_trace (Leave ∷ s) s v v l ls refl

-- ---- goals that stand for a statement

-- a rule that awaits no levels but the one that its token opens
abbrev pub IsPlain : Rule → Type 0
IsPlain Refused = Unit {0}
IsPlain Over = ⊥
IsPlain (Take true q) = (x : List Symbol) → depth (q ++ x) ≡ suc (depth x)
IsPlain (Take false q) = (x : List Symbol) → depth (q ++ x) ≡ depth x
IsPlain (Keep true f) = (p : Position) (x : List Symbol) → depth (f p ++ x) ≡ suc (depth x)
IsPlain (Keep false f) = (p : Position) (x : List Symbol) → depth (f p ++ x) ≡ depth x

pub plain_decided : (r : Rule) → IsPlain r → IsDecided r
plain_decided Refused h = tt
plain_decided Over h = h
plain_decided (Take b q) h = tt
plain_decided (Keep b f) h = tt

pub statement_plain : (lab : Option NameT) (t : Terminal) → IsPlain (statement_rule lab t)
statement_plain lab (Name n) = λ x. refl
statement_plain lab (Numeral n) = tt
statement_plain lab (Text n) = tt
statement_plain lab Finish = tt
statement_plain lab (Sign m) = by_test (is_sign mark.Semicolon (Sign m))
  where
    by_test : (b : Bool) → IsPlain (cond b (Keep false (λ p. Do (make_simple (EmptyS p)) ∷ [])) Refused)
    by_test true = λ p x. refl
    by_test false = tt
statement_plain lab (Key k) = by_test (is_key key.Call (Key k)) (is_key key.Return (Key k)) (is_key key.Enable (Key k)) (is_key key.Disable (Key k)) (is_key key.Halt (Key k)) (is_key key.If (Key k)) (is_key key.Do (Key k))
  where
    by_test : (b c d e f g h : Bool) → IsPlain (cond b (Keep false (λ p. Want CalledG ∷ need mark.Semicolon ∷ Do (make_call p) ∷ []))
        (cond c (Keep false (λ p. Want (ReturnedG p) ∷ []))
        (cond d (Keep false (λ p. need mark.Semicolon ∷ Do (make_simple (EnableS p)) ∷ []))
        (cond e (Keep false (λ p. need mark.Semicolon ∷ Do (make_simple (DisableS p)) ∷ []))
        (cond f (Keep false (λ p. need mark.Semicolon ∷ Do (make_simple (HaltS p)) ∷ []))
        (cond g (Keep false (λ p. an_expression (Need (Key key.Then) ∷ Want ArmG ∷ Want OtherwiseG ∷ Do (make_if p) ∷ [])))
        (cond h (Keep true (λ p. Want (DoG p lab) ∷ Leave ∷ [])) Refused)))))))
    by_test true c d e f g h = λ p x. refl
    by_test false true d e f g h = λ p x. refl
    by_test false false true e f g h = λ p x. refl
    by_test false false false true f g h = λ p x. refl
    by_test false false false false true g h = λ p x. refl
    by_test false false false false false true h = λ p x. refl
    by_test false false false false false false true = λ p x. refl
    by_test false false false false false false false = tt

-- a goal that goes on as another, with symbols before and after
pub entered : (g g' : Goal) (pre a s : List Symbol) (v v' : List Value) (l : Leaf) (ls : List Leaf) → rule g l.terminal ≡ before pre (behind (rule g' l.terminal) a) → IsDecided (rule g' l.terminal)
    → ((x : List Symbol) → trace (pre ++ x) v ls ≡ trace x v' ls) → ((x : List Symbol) → depth (pre ++ x) ≡ depth x)
    → trace (Want g ∷ s) v (l ∷ ls) ≡ trace (Want g' ∷ (a ++ s)) v' (l ∷ ls)
entered g g' pre a s v v' l ls e decided acts deep =
    trace_step (Want g ∷ s) v l ls
    ∙ ap (λ (m : Move). go m ls) (feed_want g s v l.terminal l.place ∙ ap (λ (r : Rule). ruled r s v l.terminal l.place) e)
    ∙ by_rule (rule g' l.terminal) decided l.place
    ∙ ap (λ (m : Move). go m ls) (sym (feed_want g' (a ++ s) v' l.terminal l.place))
    ∙ sym (trace_step (Want g' ∷ (a ++ s)) v' l ls)
  where
    same : (q : List Symbol) → (pre ++ (q ++ a)) ++ s ≡ pre ++ (q ++ (a ++ s))
    same q = append_assoc pre (q ++ a) s ∙ ap (λ (x : List Symbol). pre ++ x) (append_assoc q a s)

    moves : (b : Bool) (q : List Symbol) → go (moved b ((pre ++ (q ++ a)) ++ s) v) ls ≡ go (moved b (q ++ (a ++ s)) v') ls
    moves true q = ap (λ (x : List Symbol). go (moved true x v) ls) (same q) ∙ ap (λ (n : ℕ). Then n (trace (pre ++ (q ++ (a ++ s))) v ls)) (deep (q ++ (a ++ s))) ∙ ap (Then (depth (q ++ (a ++ s)))) (acts (q ++ (a ++ s)))
    moves false q = ap (λ (x : List Symbol). go (moved false x v) ls) (same q) ∙ ap (Then 0) (acts (q ++ (a ++ s)))

    by_rule : (r : Rule) → IsDecided r → (p : Option Position) → go (ruled (before pre (behind r a)) s v l.terminal p) ls ≡ go (ruled r (a ++ s) v' l.terminal p) ls
    by_rule Refused h p = refl
    by_rule Over h p = absurd h
    by_rule (Take b q) h p = moves b q
    by_rule (Keep b f) h None = refl
    by_rule (Keep b f) h (Some p) = moves b (f p)

-- a trace whose first token opens up to m, if it opens no more
abbrev pub marked : ℕ → Trace → Trace
marked m (Ended s v) = Ended s v
marked m (Wrong n) = Wrong n
marked m (Then zero r) = Then m r
marked m (Then (suc n) r) = Then (suc n) r

-- an arm is a statement a level deeper
pub arm_is : (s : List Symbol) (v : List Value) (l : Leaf) (ls : List Leaf) → Some_leaf ls → trace (Want ArmG ∷ s) v (l ∷ ls) ≡ marked (suc (depth s)) (trace (Want (StatementG None) ∷ Leave ∷ s) (NamesR no_names ∷ v) (l ∷ ls))
arm_is s v l ls q =
    trace_step (Want ArmG ∷ s) v l ls
    ∙ ap (λ (m : Move). go m ls) (feed_want ArmG s v l.terminal l.place)
    ∙ by_rule (statement_rule None l.terminal) (statement_plain None l.terminal) l.place
    ∙ ap (λ (m : Move). marked (suc (depth s)) (go m ls)) (sym (feed_want (StatementG None) (Leave ∷ s) (NamesR no_names ∷ v) l.terminal l.place))
    ∙ ap (marked (suc (depth s))) (sym (trace_step (Want (StatementG None) ∷ Leave ∷ s) (NamesR no_names ∷ v) l ls))
  where
    opens : (q' : List Symbol) (n : ℕ) → depth (q' ++ (Leave ∷ s)) ≡ n → go (moved true (no_labels ∷ ((q' ++ Leave ∷ []) ++ s)) v) ls ≡ Then n (trace (q' ++ (Leave ∷ s)) (NamesR no_names ∷ v) ls)
    opens q' n e = ap (λ (x : List Symbol). Then (depth x) (trace (no_labels ∷ x) v ls)) (append_assoc q' (Leave ∷ []) s)
        ∙ ap (λ (m : ℕ). Then m (trace (no_labels ∷ (q' ++ (Leave ∷ s))) v ls)) e
        ∙ ap (Then n) (pushed (NamesR no_names) (q' ++ (Leave ∷ s)) v q)

    deeper : (q' : List Symbol) → depth (q' ++ (Leave ∷ s)) ≡ suc (suc (depth s)) → go (moved true (no_labels ∷ ((q' ++ Leave ∷ []) ++ s)) v) ls ≡ marked (suc (depth s)) (go (moved true (q' ++ (Leave ∷ s)) (NamesR no_names ∷ v)) ls)
    deeper q' e = opens q' (suc (suc (depth s))) e ∙ sym (ap (λ (n : ℕ). marked (suc (depth s)) (Then n (trace (q' ++ (Leave ∷ s)) (NamesR no_names ∷ v) ls))) e)

    by_rule : (r : Rule) → IsPlain r → (p : Option Position) → go (ruled (before (no_labels ∷ []) (opened r)) s v l.terminal p) ls ≡ marked (suc (depth s)) (go (ruled r (Leave ∷ s) (NamesR no_names ∷ v) l.terminal p) ls)
    by_rule Refused h p = refl
    by_rule Over h p = absurd h
    by_rule (Take false q') h p = opens q' (suc (depth s)) (h (Leave ∷ s))
    by_rule (Take true q') h p = deeper q' (h (Leave ∷ s))
    by_rule (Keep b f) h None = refl
    by_rule (Keep false f) h (Some p) = opens (f p) (suc (depth s)) (h p (Leave ∷ s))
    by_rule (Keep true f) h (Some p) = deeper (f p) (h p (Leave ∷ s))

pub statements_is : (lab : Option NameT) (s : List Symbol) (v : List Value) (l : Leaf) (ls : List Leaf) → is_key key.End l.terminal ≡ false → Some_leaf ls → trace (Want (StatementsG lab) ∷ s) v (l ∷ ls) ≡ trace (Want (StatementG None) ∷ (and_more lab ++ s)) (NamesR no_names ∷ v) (l ∷ ls)
statements_is lab s v l ls e q = entered (StatementsG lab) (StatementG None) (no_labels ∷ []) (and_more lab) s v (NamesR no_names ∷ v) l ls
    (ap (λ (b : Bool). cond b (Take false (Want (EndG lab) ∷ [])) (before (no_labels ∷ []) (behind (statement_rule None l.terminal) (and_more lab)))) e)
    (plain_decided (statement_rule None l.terminal) (statement_plain None l.terminal))
    (λ x. pushed (NamesR no_names) x v q) (λ x. refl)

-- ---- labels

pub labels_read : (ns : NamesT) (n : NameT) (s : List Symbol) (v : List Value) (ls : List Leaf) (r : Trace) → Some_leaf ls → trace (Want (StatementG (Some n)) ∷ s) (NamesR (names ns n) ∷ v) ls ≡ r
    → trace (Want (StatementG None) ∷ s) (NamesR no_names ∷ v) (labels put_leaf 0 (names ns n) ls) ≡ labels put_then 0 (names ns n) r
labels_read no_names n s v ls r q k = ap (λ (x : Trace). Then 0 (Then 0 x)) (acted (add_label n) (Want (StatementG (Some n)) ∷ s) _ _ q refl ∙ k)
labels_read (names ms l) n s v ls r q k = labels_read ms l s v (leaf (Name n) ∷ leaf (Sign mark.Colon) ∷ ls) _ some_leaf
    (ap (λ (x : Trace). Then 0 (Then 0 x)) (acted (add_label n) (Want (StatementG (Some n)) ∷ s) _ _ q refl ∙ k))

-- ---- assignments

pub data Targeted : List Leaf → Type 0 where
  by_comma : {ls : List Leaf} → Targeted (leaf (Sign mark.Comma) ∷ ls)
  by_equal : {ls : List Leaf} → Targeted (leaf (Sign mark.Equal) ∷ ls)

pub targeted_stops : {ls : List Leaf} → Targeted ls → Stops 1 ls
targeted_stops by_comma = stops (omega arith)
targeted_stops by_equal = stops (omega arith)

pub lead_is : (n : NameT) (es : ExpressionsT) (m : SelectorT) (d : ℕ) (s : List Symbol) (v : List Value) {ls : List Leaf} → Targeted ls → trace (Want (LeadG n) ∷ s) v (subscripts put_leaf d es (selector put_leaf d m ls)) ≡ trace (Want SubscriptsG ∷ Want SelectorG ∷ Want MoreTargetsG ∷ s) v (subscripts put_leaf d es (selector put_leaf d m ls))
lead_is n no_expressions no_member d s v by_comma = refl
lead_is n no_expressions no_member d s v by_equal = refl
lead_is n no_expressions (member k) d s v q = refl
lead_is n no_expressions (member_at k e) d s v q = refl
lead_is n (expressions es e) m d s v q = refl

pub some_selector : (d : ℕ) (m : SelectorT) {ls : List Leaf} → Some_leaf ls → Some_leaf (selector put_leaf d m ls)
some_selector d no_member q = q
some_selector d (member n) q = some_leaf
some_selector d (member_at n e) q = some_leaf

-- an assignment's first target
pub first_target : (lab : Option NameT) (n : NameT) (es : ExpressionsT) (m : SelectorT) → WellExpressions es → WellSelector m → (s : List Symbol) (v : List Value) (ls : List Leaf) (r : Trace) → Targeted ls → trace (Want MoreTargetsG ∷ s) (a_reference n es m ∷ ReferencesR no_references ∷ v) ls ≡ r
    → trace (Want (StatementG lab) ∷ s) v (reference put_leaf 0 (depth s) (ReferenceOf n es m) ls) ≡ reference put_then 0 (depth s) (ReferenceOf n es m) r
first_target lab n es m w u s v ls r q k = ap (Then 0)
    (pushed (ReferencesR no_references) (push (a_reference n no_expressions no_member) ∷ Want (LeadG n) ∷ s) v (some_subscripts (depth s) es (some_selector (depth s) m (some_of (targeted_stops q))))
    ∙ pushed (a_reference n no_expressions no_member) (Want (LeadG n) ∷ s) _ (some_subscripts (depth s) es (some_selector (depth s) m (some_of (targeted_stops q))))
    ∙ lead_is n es m (depth s) s _ q
    ∙ (drives_reference es m w u).tail n (Want MoreTargetsG ∷ s) (ReferencesR no_references ∷ v) ls r (targeted_stops q) k)

-- another one
pub next_target : (n : NameT) (es : ExpressionsT) (m : SelectorT) → WellExpressions es → WellSelector m → (s : List Symbol) (v : List Value) (ls : List Leaf) (r : Trace) → Targeted ls → trace (Want MoreTargetsG ∷ s) (a_reference n es m ∷ v) ls ≡ r
    → trace (Want TargetG ∷ s) v (reference put_leaf 0 (depth s) (ReferenceOf n es m) ls) ≡ reference put_then 0 (depth s) (ReferenceOf n es m) r
next_target n es m w u s v ls r q k = ap (Then 0) ((drives_reference es m w u).begun n (Want MoreTargetsG ∷ s) v ls r (targeted_stops q) k)

pub targets_listed : (lab : Option NameT) (xs : ReferencesT) (x : ReferenceT) → WellSomeReferences xs → WellReference x → (s : List Symbol) (v : List Value) (ls : List Leaf) (r : Trace) → Some_leaf ls → trace (Want TargetG ∷ s) (ReferencesR (references xs x) ∷ v) ls ≡ r
    → trace (Want (StatementG lab) ∷ s) v (listed_references put_leaf 0 (depth s) (references xs x) ls) ≡ listed_references put_then 0 (depth s) (references xs x) r
targets_listed lab no_references (ReferenceOf n es m) w u s v ls r q k = first_target lab n es m u.0 u.1 s v (leaf (Sign mark.Comma) ∷ ls) _ by_comma (ap (Then 0) (acted add_target (Want TargetG ∷ s) _ _ q refl ∙ k))
targets_listed lab (references ys y) (ReferenceOf n es m) w u s v ls r q k = targets_listed lab ys y w.0 w.1 s v (reference put_leaf 0 (depth s) (ReferenceOf n es m) (leaf (Sign mark.Comma) ∷ ls)) _ some_leaf
    (next_target n es m u.0 u.1 s (ReferencesR (references ys y) ∷ v) (leaf (Sign mark.Comma) ∷ ls) _ by_comma (ap (Then 0) (acted add_target (Want TargetG ∷ s) _ _ q refl ∙ k)))

pub targets_drive : (lab : Option NameT) (xs : ReferencesT) → WellTargets xs → (s : List Symbol) (v : List Value) (ls : List Leaf) (r : Trace) → Some_leaf ls → trace (an_expression (need mark.Semicolon ∷ Do make_assign ∷ s)) (ReferencesR xs ∷ v) ls ≡ r
    → trace (Want (StatementG lab) ∷ s) v (targets put_leaf 0 (depth s) xs (leaf (Sign mark.Equal) ∷ ls)) ≡ targets put_then 0 (depth s) xs (Then 0 r)
targets_drive lab no_references w s v ls r q k = absurd w
targets_drive lab (references no_references (ReferenceOf n es m)) w s v ls r q k = first_target lab n es m w.1.0 w.1.1 s v (leaf (Sign mark.Equal) ∷ ls) _ by_equal (ap (Then 0) (acted add_target (an_expression (need mark.Semicolon ∷ Do make_assign ∷ s)) _ _ q refl ∙ k))
targets_drive lab (references (references ys y) (ReferenceOf n es m)) w s v ls r q k = targets_listed lab ys y w.0.0 w.0.1 s v (reference put_leaf 0 (depth s) (ReferenceOf n es m) (leaf (Sign mark.Equal) ∷ ls)) _ some_leaf
    (next_target n es m w.1.0 w.1.1 s (ReferencesR (references ys y) ∷ v) (leaf (Sign mark.Equal) ∷ ls) _ by_equal (ap (Then 0) (acted add_target (an_expression (need mark.Semicolon ∷ Do make_assign ∷ s)) _ _ q refl ∙ k)))

-- ---- what follows a statement

pub data NoElse : List Leaf → Type 0 where
  no_else : {l : Leaf} {ls : List Leaf} → is_key key.Else l.terminal ≡ false → NoElse (l ∷ ls)

pub some_no_else : {ls : List Leaf} → NoElse ls → Some_leaf ls
some_no_else (no_else h) = some_leaf

-- a statement that ends in an open IF is not followed by ELSE
abbrev pub Enough : Bool → List Leaf → Type 0
Enough true ls = NoElse ls
Enough false ls = Some_leaf ls

pub enough : (b : Bool) {ls : List Leaf} → NoElse ls → Enough b ls
enough true q = q
enough false q = some_no_else q

pub some_enough : (b : Bool) {ls : List Leaf} → Enough b ls → Some_leaf ls
some_enough true q = some_no_else q
some_enough false q = q

pub no_otherwise : {ls : List Leaf} (s : List Symbol) (v : List Value) → NoElse ls → trace (Want OtherwiseG ∷ s) v ls ≡ trace s v ls
no_otherwise s v (no_else {l} {ls} h) = over OtherwiseG s v l ls (ap (λ (b : Bool). cond b (Take false (Want ArmG ∷ Do join_arms ∷ [])) Over) h)

-- ---- the first leaves of a statement

-- two leaves, of which the first is no END and no ELSE
pub data Begins_statement : List Leaf → Type 0 where
  begins_statement : {l : Leaf} {ls : List Leaf} → is_key key.End l.terminal ≡ false → is_key key.Else l.terminal ≡ false → Some_leaf ls → Begins_statement (l ∷ ls)

pub begins_reference : (m d : ℕ) (x : ReferenceT) {ls : List Leaf} → Some_leaf ls → Begins_statement (reference put_leaf m d x ls)
begins_reference m d (ReferenceOf n es k) q = begins_statement refl refl (some_subscripts d es (some_selector d k q))

pub begins_listed : (m d : ℕ) (xs : ReferencesT) (x : ReferenceT) {ls : List Leaf} → Some_leaf ls → Begins_statement (listed_references put_leaf m d (references xs x) ls)
begins_listed m d no_references x {ls} q = begins_reference m d x {ls = leaf (Sign mark.Comma) ∷ ls} some_leaf
begins_listed m d (references ys y) (ReferenceOf n es k) {ls} q = begins_listed m d ys y {ls = reference put_leaf 0 d (ReferenceOf n es k) (leaf (Sign mark.Comma) ∷ ls)} some_leaf

pub begins_targets : (m d : ℕ) (xs : ReferencesT) {ls : List Leaf} → Some_leaf ls → Begins_statement (targets put_leaf m d xs (leaf (Sign mark.Equal) ∷ ls))
begins_targets m d no_references q = begins_statement refl refl q
begins_targets m d (references no_references x) {ls} q = begins_reference m d x {ls = leaf (Sign mark.Equal) ∷ ls} some_leaf
begins_targets m d (references (references ys y) (ReferenceOf n es k)) {ls} q = begins_listed m d ys y {ls = reference put_leaf 0 d (ReferenceOf n es k) (leaf (Sign mark.Equal) ∷ ls)} some_leaf

pub begins_basic : (m d : ℕ) (b : BasicT) {ls : List Leaf} → Some_leaf ls → Begins_statement (basic put_leaf m d b ls)
begins_basic m d (EmptyS p) q = begins_statement refl refl q
begins_basic m d (AssignS xs e) {ls} q = begins_targets m d xs (some_expression e d (leaf (Sign mark.Semicolon) ∷ ls))
begins_basic m d (CallS p (ReferenceOf n es k)) q = begins_statement refl refl some_leaf
begins_basic m d (ReturnS p) q = begins_statement refl refl some_leaf
begins_basic m d (ReturnValueS p e) {ls} q = begins_statement refl refl (some_expression e d (leaf (Sign mark.Semicolon) ∷ ls))
begins_basic m d (EnableS p) q = begins_statement refl refl some_leaf
begins_basic m d (DisableS p) q = begins_statement refl refl some_leaf
begins_basic m d (HaltS p) q = begins_statement refl refl some_leaf
begins_basic m d (IfS p e s) {ls} q = begins_statement refl refl (some_expression e d (leaf (Key key.Then) ∷ statement put_leaf (suc d) (suc d) s ls))
begins_basic m d (IfElseS p e s t) {ls} q = begins_statement refl refl (some_expression e d (leaf (Key key.Then) ∷ statement put_leaf (suc d) (suc d) s (leaf (Key key.Else) ∷ statement put_leaf (suc d) (suc d) t ls)))
begins_basic m d (DoS p b n) q = begins_statement refl refl some_leaf
begins_basic m d (WhileS p e ss n) q = begins_statement refl refl some_leaf
begins_basic m d (CaseS p e ss n) q = begins_statement refl refl some_leaf
begins_basic m d (IterateS p i a b s ss n) q = begins_statement refl refl some_leaf

pub begins_labels : (m : ℕ) (ns : NamesT) (n : NameT) (ls : List Leaf) → Begins_statement (labels put_leaf m (names ns n) ls)
begins_labels m no_names n ls = begins_statement refl refl some_leaf
begins_labels m (names ms l) n ls = begins_labels m ms l (leaf (Name n) ∷ leaf (Sign mark.Colon) ∷ ls)

pub begins_a_statement : (m d : ℕ) (s : StatementT) {ls : List Leaf} → Some_leaf ls → Begins_statement (statement put_leaf m d s ls)
begins_a_statement m d (Labelled no_names b) q = begins_basic m d b q
begins_a_statement m d (Labelled (names ns n) b) {ls} q = begins_labels m ns n (basic put_leaf 0 d b ls)

pub to_no_else : {ls : List Leaf} → Begins_statement ls → NoElse ls
to_no_else (begins_statement a b c) = no_else b

pub to_some : {ls : List Leaf} → Begins_statement ls → Some_leaf ls
to_some (begins_statement a b c) = some_leaf

-- ---- the number at the first leaf of an arm

pub same_listed : (m d : ℕ) (xs : ReferencesT) (x : ReferenceT) (ls : List Leaf) → listed_references put_leaf m d (references xs x) ls ≡ listed_references put_leaf 0 d (references xs x) ls
same_listed m d no_references (ReferenceOf n es k) ls = refl
same_listed m d (references ys y) x ls = same_listed m d ys y (reference put_leaf 0 d x (leaf (Sign mark.Comma) ∷ ls))

pub same_targets : (m d : ℕ) (xs : ReferencesT) (ls : List Leaf) → targets put_leaf m d xs ls ≡ targets put_leaf 0 d xs ls
same_targets m d no_references ls = refl
same_targets m d (references no_references (ReferenceOf n es k)) ls = refl
same_targets m d (references (references ys y) x) ls = same_listed m d ys y (reference put_leaf 0 d x ls)

pub same_basic : (m d : ℕ) (b : BasicT) (ls : List Leaf) → basic put_leaf m d b ls ≡ basic put_leaf 0 d b ls
same_basic m d (EmptyS p) ls = refl
same_basic m d (AssignS xs e) ls = same_targets m d xs (leaf (Sign mark.Equal) ∷ expression put_leaf d e (leaf (Sign mark.Semicolon) ∷ ls))
same_basic m d (CallS p x) ls = refl
same_basic m d (ReturnS p) ls = refl
same_basic m d (ReturnValueS p e) ls = refl
same_basic m d (EnableS p) ls = refl
same_basic m d (DisableS p) ls = refl
same_basic m d (HaltS p) ls = refl
same_basic m d (IfS p e s) ls = refl
same_basic m d (IfElseS p e s t) ls = refl
same_basic m d (DoS p b n) ls = refl
same_basic m d (WhileS p e ss n) ls = refl
same_basic m d (CaseS p e ss n) ls = refl
same_basic m d (IterateS p i a b s ss n) ls = refl

pub same_labels : (m : ℕ) (ns : NamesT) (n : NameT) (ls : List Leaf) → labels put_leaf m (names ns n) ls ≡ labels put_leaf 0 (names ns n) ls
same_labels m no_names n ls = refl
same_labels m (names ms l) n ls = same_labels m ms l (leaf (Name n) ∷ leaf (Sign mark.Colon) ∷ ls)

pub same_statement : (m d : ℕ) (s : StatementT) (ls : List Leaf) → statement put_leaf m d s ls ≡ statement put_leaf 0 d s ls
same_statement m d (Labelled no_names b) ls = same_basic m d b ls
same_statement m d (Labelled (names ns n) b) ls = same_labels m ns n (basic put_leaf 0 d b ls)

pub marked_listed : (m d : ℕ) (xs : ReferencesT) (x : ReferenceT) (r : Trace) → marked m (listed_references put_then 0 d (references xs x) r) ≡ listed_references put_then m d (references xs x) r
marked_listed m d no_references (ReferenceOf n es k) r = refl
marked_listed m d (references ys y) x r = marked_listed m d ys y (reference put_then 0 d x (Then 0 r))

pub marked_targets : (m d : ℕ) (xs : ReferencesT) → WellTargets xs → (r : Trace) → marked m (targets put_then 0 d xs r) ≡ targets put_then m d xs r
marked_targets m d no_references w r = absurd w
marked_targets m d (references no_references (ReferenceOf n es k)) w r = refl
marked_targets m d (references (references ys y) x) w r = marked_listed m d ys y (reference put_then 0 d x r)

pub marked_basic : (m d : ℕ) (lab : Option NameT) (b : BasicT) → WellBasic lab b → (r : Trace) → marked m (basic put_then 0 d b r) ≡ basic put_then m d b r
marked_basic m d lab (EmptyS p) w r = refl
marked_basic m d lab (AssignS xs e) w r = marked_targets m d xs w.0 (Then 0 (expression put_then d e (Then 0 r)))
marked_basic m d lab (CallS p x) w r = refl
marked_basic m d lab (ReturnS p) w r = refl
marked_basic m d lab (ReturnValueS p e) w r = refl
marked_basic m d lab (EnableS p) w r = refl
marked_basic m d lab (DisableS p) w r = refl
marked_basic m d lab (HaltS p) w r = refl
marked_basic m d lab (IfS p e s) w r = refl
marked_basic m d lab (IfElseS p e s t) w r = refl
marked_basic m d lab (DoS p b n) w r = refl
marked_basic m d lab (WhileS p e ss n) w r = refl
marked_basic m d lab (CaseS p e ss n) w r = refl
marked_basic m d lab (IterateS p i a b s ss n) w r = refl

pub marked_labels : (m : ℕ) (ns : NamesT) (n : NameT) (r : Trace) → marked m (labels put_then 0 (names ns n) r) ≡ labels put_then m (names ns n) r
marked_labels m no_names n r = refl
marked_labels m (names ms l) n r = marked_labels m ms l (Then 0 (Then 0 r))

pub marked_statement : (m d : ℕ) (s : StatementT) → WellStatement s → (r : Trace) → marked m (statement put_then 0 d s r) ≡ statement put_then m d s r
marked_statement m d (Labelled no_names b) w r = marked_basic m d None b w r
marked_statement m d (Labelled (names ns n) b) w r = marked_labels m ns n (basic put_then 0 d b r)

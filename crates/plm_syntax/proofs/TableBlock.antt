-- What the rules of statements, blocks and modules say.
use Rattle.std.proofs.Common.{◌≡◌, ℕ, suc, List, [], ◌∷◌, Bool, true, false, cond, Option, Some, None, refl, sym, ap, ◌∙◌, subst}
use Rattle.plm_token.specs.declared.token.Keyword.TheVariants as key
use Rattle.plm_token.specs.declared.token.Mark.TheVariants as mark
use Rattle.plm_syntax.specs.declared.tree.Position.{Position}
use Rattle.plm_syntax.specs.Terminal.{NameT, Terminal, Name, Numeral, Text, Key, Sign, Finish, Leaf, leaf, leaf_at, is_key}
use Rattle.plm_syntax.specs.Inner.Terminal.{is_sign}
use Rattle.plm_syntax.specs.Tree.{ExpressionT, ReferenceE, ReferenceT, ReferenceOf, ExpressionsT, no_expressions, SelectorT, no_member, NamesT, no_names, names, no_elements, elements, ReferencesT, no_references, references, Labelled, BasicT, EmptyS, AssignS, CallS, ReturnS, ReturnValueS, EnableS, DisableS, HaltS, IfS, IfElseS, StatementsT, no_statements, statements, BlockOf, ItemsT, no_items, items, ItemT, DeclareI, ProcedureI, ModuleOf}
use Rattle.plm_syntax.specs.Spelling.{last_name, behind_labels, expression, reference, subscripts, selector, parenthesised_names, returned, interrupt, linkage, listed_references, targets, labels, step, statement, basic, statement_list, item_list, item, put_leaf}
use Rattle.plm_syntax.specs.WellFormed.{Well, WellExpressions, WellSomeReferences, WellTargets, basic_open, is_end_name, WellBasic, WellStatements, WellItems, WellItem}
use Rattle.plm_syntax.specs.Inner.Symbol.{Symbol, Rule, behind, otherwise, before, opened, need, push, ExpressionR, ExpressionsR, ReferencesR, NamesR, StepR, EndR, ElementsR, SubscriptsG, MoreSubscriptsG, SelectorG, MemberG, StatementG, LeadG, TargetG, MoreTargetsG, CalledG, ReturnedG, ArmG, OtherwiseG, DoG, StepG, StatementsG, EndG, ItemsG, ItemLeadG, ItemColonG, ElementG, MoreElementsG, ModuleG, StartG, Need, Want, Do, Leave, Refused, Over, Take, Keep}
use Rattle.plm_syntax.specs.Inner.Machine.{plain, an_expression, add_expression, set_subscripts, subscripts_rule, selector_rule, add_target, make_assign, make_return, make_if, make_while, make_case, make_range, set_step, make_iterate, statement_rule, more_targets, assignment_rule, lead, target, called, returned_rule, no_labels, no_statement_yet, arm, otherwise_rule, do_rule, step_rule, end_rule, and_more, statements_rule, make_declare, items_rule, item_lead, item_colon, module_rule, start_rule}
use Rattle.plm_syntax.proofs.Steps.{IsDecided}
use Rattle.plm_syntax.proofs.StatementSteps.{plain_decided, statement_plain}
use Rattle.plm_syntax.proofs.TableExpression.{expression_of, reference_of, expression_says, subscripts_says, selector_says}
use Rattle.plm_syntax.proofs.GoalTrees.{Group, group_leaves, group_statement, WellGroup, Ended_statements, ended_leaves, WellEnded, Ended_block, block_leaves, WellEndedBlock, begins_else, Means, Awaits, Says, split, on_sign, on_key, on_behind, on_otherwise, on_before, on_same, PlainDo, WhileDo, CaseDo, IterateDo, without, with_else, An, AStatement, Otherwise}

-- A statement with its labels, from the part after them.
pub with_labels : (m d : ℕ) (K : List Leaf → Type 0) (lab : Option NameT) (ns : NamesT) → last_name ns ≡ lab → (b : BasicT) → WellBasic lab b → (ls rest : List Leaf) → ls ≡ basic put_leaf (behind_labels m ns) d b rest → (begins_else rest ≡ true → basic_open b ≡ false) → K rest → AStatement m d K (labels put_leaf m ns ls)
with_labels m d K lab ns e b w ls rest is closed goes = record { part = Labelled ns b; rest = rest; ok = subst (λ (x : Option NameT). WellBasic x b) (sym e) w; is = ap (labels put_leaf m ns) is; closed = closed; goes = goes }

-- the same of another beginning
pub along : (m d : ℕ) (K : List Leaf → Type 0) (us ls : List Leaf) → ls ≡ us → AStatement m d K us → AStatement m d K ls
along m d K us ls e h = record { part = h.part; rest = h.rest; ok = h.ok; is = e ∙ h.is; closed = h.closed; goes = h.goes }

pub group_open : (p : Position) (g : Group) → basic_open (group_statement p g) ≡ false
group_open p (PlainDo is ss n) = refl
group_open p (WhileDo e ss n) = refl
group_open p (CaseDo e ss n) = refl
group_open p (IterateDo i a b t ss n) = refl

pub group_well : (lab : Option NameT) (p : Position) (g : Group) → WellGroup lab g → WellBasic lab (group_statement p g)
group_well lab p (PlainDo is ss n) w = w
group_well lab p (WhileDo e ss n) w = w
group_well lab p (CaseDo e ss n) w = w
group_well lab p (IterateDo i a b t ss n) w = w

pub group_is : (m d : ℕ) (p : Position) (g : Group) (r : List Leaf) → leaf_at (Key key.Do) p ∷ group_leaves (suc d) g r ≡ basic put_leaf m d (group_statement p g) r
group_is m d p (PlainDo is ss n) r = refl
group_is m d p (WhileDo e ss n) r = refl
group_is m d p (CaseDo e ss n) r = refl
group_is m d p (IterateDo i a b t ss n) r = refl

-- IF, its THEN part, and what stands after it
pub if_of : (p : Position) (lab : Option NameT) (m d : ℕ) (K : List Leaf → Type 0) (ns : NamesT) → last_name ns ≡ lab → (e : ExpressionT) → Well e → (ls us : List Leaf) → ls ≡ expression put_leaf d e (leaf (Key key.Then) ∷ us) → (a : AStatement (suc d) (suc d) (Otherwise d K) us) → Otherwise d K a.rest → AStatement m d K (labels put_leaf m ns (leaf_at (Key key.If) p ∷ ls))
if_of p lab m d K ns f e we ls us is a (without none k) = with_labels m d K lab ns f (IfS p e a.part) (we, a.ok) (leaf_at (Key key.If) p ∷ ls) a.rest
    (ap (λ (x : List Leaf). leaf_at (Key key.If) p ∷ x) (is ∙ ap (λ (x : List Leaf). expression put_leaf d e (leaf (Key key.Then) ∷ x)) a.is)) (λ h. let c : true ≡ false = sym h ∙ none in absurd cc) k
if_of p lab m d K ns f e we ls us is a (with_else vs g b) = with_labels m d K lab ns f (IfElseS p e a.part b.part) (we, a.ok, a.closed (ap begins_else g), b.ok) (leaf_at (Key key.If) p ∷ ls) b.rest
    (ap (λ (x : List Leaf). leaf_at (Key key.If) p ∷ x) (is ∙ ap (λ (x : List Leaf). expression put_leaf d e (leaf (Key key.Then) ∷ x)) (a.is ∙ ap (statement put_leaf (suc d) (suc d) a.part) (g ∙ ap (λ (x : List Leaf). leaf (Key key.Else) ∷ x) b.is)))) b.closed b.goes

pub statement_says : (lab : Option NameT) (d : ℕ) (K : List Leaf → Type 0) (t : Terminal) → Says (Means (StatementG lab) d K) d K t (statement_rule lab t)
statement_says lab d K (Name n) = λ ls w m ns e. w m ns
statement_says lab d K (Numeral n) = tt
statement_says lab d K (Text n) = tt
statement_says lab d K Finish = tt
statement_says lab d K (Sign s) = on_sign (Means (StatementG lab) d K) d K mark.Semicolon (Sign s) _ Refused
    (λ p ls w m ns e. with_labels m d K lab ns e (EmptyS p) tt (leaf_at (Sign mark.Semicolon) p ∷ ls) ls refl (λ h. refl) w) (λ h. tt)
statement_says lab d K (Key k) = on_key (Means (StatementG lab) d K) d K key.Call (Key k) _ _
    (λ p ls w m ns e. with_labels m d K lab ns e (CallS p w.part) w.ok (leaf_at (Key key.Call) p ∷ ls) w.goes.rest (ap (λ (x : List Leaf). leaf_at (Key key.Call) p ∷ x) (w.is ∙ ap (reference put_leaf 0 d w.part) w.goes.is)) (λ h. refl) w.goes.goes)
    (λ h. on_key (Means (StatementG lab) d K) d K key.Return (Key k) _ _ (λ p ls w m ns e. w m ns)
    (λ h. on_key (Means (StatementG lab) d K) d K key.Enable (Key k) _ _ (λ p ls w m ns e. with_labels m d K lab ns e (EnableS p) tt (leaf_at (Key key.Enable) p ∷ ls) w.rest (ap (λ (x : List Leaf). leaf_at (Key key.Enable) p ∷ x) w.is) (λ h. refl) w.goes)
    (λ h. on_key (Means (StatementG lab) d K) d K key.Disable (Key k) _ _ (λ p ls w m ns e. with_labels m d K lab ns e (DisableS p) tt (leaf_at (Key key.Disable) p ∷ ls) w.rest (ap (λ (x : List Leaf). leaf_at (Key key.Disable) p ∷ x) w.is) (λ h. refl) w.goes)
    (λ h. on_key (Means (StatementG lab) d K) d K key.Halt (Key k) _ _ (λ p ls w m ns e. with_labels m d K lab ns e (HaltS p) tt (leaf_at (Key key.Halt) p ∷ ls) w.rest (ap (λ (x : List Leaf). leaf_at (Key key.Halt) p ∷ x) w.is) (λ h. refl) w.goes)
    (λ h. on_key (Means (StatementG lab) d K) d K key.If (Key k) _ _
    (λ p ls w m ns e. let x = expression_of d K ls (Need (Key key.Then) ∷ Want ArmG ∷ Want OtherwiseG ∷ Do (make_if p) ∷ []) w in if_of p lab m d K ns e x.part x.ok ls x.goes.rest (x.is ∙ ap (expression put_leaf d x.part) x.goes.is) x.goes.goes x.goes.goes.goes)
    (λ h. on_key (Means (StatementG lab) d K) d K key.Do (Key k) _ Refused
    (λ p ls w m ns e. with_labels m d K lab ns e (group_statement p w.part) (group_well lab p w.part w.ok) (leaf_at (Key key.Do) p ∷ ls) w.rest (ap (λ (x : List Leaf). leaf_at (Key key.Do) p ∷ x) w.is ∙ group_is (behind_labels m ns) d p w.part w.rest) (λ h. group_open p w.part) w.goes)
    (λ h. tt)))))))

-- ---- assignments

pub target_next : (m d : ℕ) (xs : ReferencesT) → WellTargets xs → (ls : List Leaf) → targets put_leaf m d xs (leaf (Sign mark.Comma) ∷ ls) ≡ listed_references put_leaf m d xs ls
target_next m d no_references w ls = absurd w
target_next m d (references no_references x) w ls = refl
target_next m d (references (references ys y) x) w ls = refl

pub target_added : (m d : ℕ) (xs : ReferencesT) → WellTargets xs → (x : ReferenceT) (ls : List Leaf) → listed_references put_leaf m d xs (reference put_leaf 0 d x ls) ≡ targets put_leaf m d (references xs x) ls
target_added m d no_references w x ls = absurd w
target_added m d (references ys y) w x ls = refl

pub some_are_targets : (xs : ReferencesT) → WellTargets xs → WellSomeReferences xs
some_are_targets no_references w = tt
some_are_targets (references xs x) w = w

pub assign_of : (m d : ℕ) (K : List Leaf → Type 0) (ns : NamesT) (xs : ReferencesT) → WellTargets xs → (e : ExpressionT) → Well e → (ls rest : List Leaf) → ls ≡ expression put_leaf d e (leaf (Sign mark.Semicolon) ∷ rest) → K rest → AStatement m d K (labels put_leaf m ns (targets put_leaf (behind_labels m ns) d xs (leaf (Sign mark.Equal) ∷ ls)))
assign_of m d K ns xs w e we ls rest is goes = record { part = Labelled ns (AssignS xs e); rest = rest; ok = (w, we); is = ap (λ (x : List Leaf). labels put_leaf m ns (targets put_leaf (behind_labels m ns) d xs (leaf (Sign mark.Equal) ∷ x))) is; closed = λ h. refl; goes = goes }

pub more_targets_says : (d : ℕ) (K : List Leaf → Type 0) (t : Terminal) → Says (Means MoreTargetsG d K) d K t (more_targets t)
more_targets_says d K t = on_sign (Means MoreTargetsG d K) d K mark.Comma t _ _
    (λ ls w m ns xs o. along m d K _ _ (ap (labels put_leaf m ns) (target_next (behind_labels m ns) d xs o ls)) (w m ns xs o))
    (λ h. on_sign (Means MoreTargetsG d K) d K mark.Equal t _ Refused
    (λ ls w m ns xs o. let x = expression_of d K ls (need mark.Semicolon ∷ Do make_assign ∷ []) w in assign_of m d K ns xs o x.part x.ok ls x.goes.rest (x.is ∙ ap (expression put_leaf d x.part) x.goes.is) x.goes.goes)
    (λ i. tt))

pub target_says : (d : ℕ) (K : List Leaf → Type 0) (t : Terminal) → Says (Means TargetG d K) d K t (target t)
target_says d K (Numeral n) = tt
target_says d K (Text n) = tt
target_says d K (Key n) = tt
target_says d K (Sign n) = tt
target_says d K Finish = tt
target_says d K (Name n) = λ ls w m ns xs o.
    let x = reference_of d n K ls (Want MoreTargetsG ∷ []) w in
    along m d K _ _ (ap (λ (y : List Leaf). labels put_leaf m ns (listed_references put_leaf (behind_labels m ns) d xs y)) x.is ∙ ap (labels put_leaf m ns) (target_added (behind_labels m ns) d xs o x.part x.rest)) (x.goes m ns (references xs x.part) (some_are_targets xs o, x.ok))

pub first_target_is : (m d : ℕ) (n : NameT) (es : ExpressionsT) (s : SelectorT) (ls : List Leaf) → leaf (Name n) ∷ subscripts put_leaf d es (selector put_leaf d s ls) ≡ targets put_leaf m d (references no_references (ReferenceOf n es s)) ls
first_target_is m d n es s ls = refl

-- after the name of the first target
abbrev pub AssignsTo : ℕ → (List Leaf → Type 0) → NameT → List Leaf → Type 0
AssignsTo d K n ls = (m : ℕ) (ns : NamesT) → AStatement m d K (labels put_leaf m ns (leaf (Name n) ∷ ls))

pub assigns_from : (d : ℕ) (K : List Leaf → Type 0) (n : NameT) (es : ExpressionsT) → WellExpressions es → (ls : List Leaf) → Means SelectorG d (Awaits (Want MoreTargetsG ∷ []) d K) ls → AssignsTo d K n (subscripts put_leaf d es ls)
assigns_from d K n es w ls h m ns = along m d K _ _ (ap (λ (x : List Leaf). labels put_leaf m ns (leaf (Name n) ∷ subscripts put_leaf d es x)) h.is) (h.goes m ns (references no_references (ReferenceOf n es h.part)) (tt, (w, h.ok)))

pub assignment_says : (n : NameT) (d : ℕ) (K : List Leaf → Type 0) (t : Terminal) → Says (AssignsTo d K n) d K t (assignment_rule t)
assignment_says n d K t = on_otherwise (AssignsTo d K n) d K (Means SubscriptsG d (Awaits (Want SelectorG ∷ Want MoreTargetsG ∷ []) d K)) t (Want SelectorG ∷ Want MoreTargetsG ∷ []) (subscripts_rule t) _ (subscripts_says d (Awaits (Want SelectorG ∷ Want MoreTargetsG ∷ []) d K) t)
    (λ ls w m ns. along m d K _ _ (ap (λ (x : List Leaf). labels put_leaf m ns (leaf (Name n) ∷ x)) w.is) (assigns_from d K n w.part w.ok w.rest w.goes m ns))
    (on_otherwise (AssignsTo d K n) d K (Means SelectorG d (Awaits (Want MoreTargetsG ∷ []) d K)) t (Want MoreTargetsG ∷ []) (selector_rule t) _ (selector_says d (Awaits (Want MoreTargetsG ∷ []) d K) t)
    (λ ls w. assigns_from d K n no_expressions tt ls w)
    (on_same (AssignsTo d K n) d K (Means MoreTargetsG d K) t (more_targets t) (λ ls w m ns. w m ns (references no_references (ReferenceOf n no_expressions no_member)) (tt, (tt, tt))) (more_targets_says d K t)))

pub label_added : (m : ℕ) (ns : NamesT) (n : NameT) (ls : List Leaf) → labels put_leaf m ns (leaf (Name n) ∷ leaf (Sign mark.Colon) ∷ ls) ≡ labels put_leaf m (names ns n) ls
label_added m no_names n ls = refl
label_added m (names ns l) n ls = refl

pub lead_says : (n : NameT) (d : ℕ) (K : List Leaf → Type 0) (t : Terminal) → Says (Means (LeadG n) d K) d K t (lead n t)
lead_says n d K t = on_sign (Means (LeadG n) d K) d K mark.Colon t _ (assignment_rule t) (λ ls w m ns. along m d K _ _ (label_added m ns n ls) (w m (names ns n) refl)) (λ h. assignment_says n d K t)

pub called_says : (d : ℕ) (K : List Leaf → Type 0) (t : Terminal) → Says (Means CalledG d K) d K t (called t)
called_says d K (Numeral n) = tt
called_says d K (Text n) = tt
called_says d K (Key n) = tt
called_says d K (Sign n) = tt
called_says d K Finish = tt
called_says d K (Name n) = λ ls w. reference_of d n K ls [] w

pub returned_says : (p : Position) (d : ℕ) (K : List Leaf → Type 0) (t : Terminal) → Says (Means (ReturnedG p) d K) d K t (returned_rule p t)
returned_says p d K t = on_sign (Means (ReturnedG p) d K) d K mark.Semicolon t _ _
    (λ ls w m ns. with_labels m d K (last_name ns) ns refl (ReturnS p) tt (leaf_at (Key key.Return) p ∷ leaf (Sign mark.Semicolon) ∷ ls) ls refl (λ h. refl) w)
    (λ h. expression_says (Means (ReturnedG p) d K) (need mark.Semicolon ∷ Do (make_return p) ∷ []) d K t
    (λ ls w m ns. with_labels m d K (last_name ns) ns refl (ReturnValueS p w.part) w.ok (leaf_at (Key key.Return) p ∷ ls) w.goes.rest (ap (λ (x : List Leaf). leaf_at (Key key.Return) p ∷ x) (w.is ∙ ap (expression put_leaf d w.part) w.goes.is)) (λ h. refl) w.goes.goes))

-- ---- arms

pub on_opened : (M N : List Leaf → Type 0) (d : ℕ) (K : List Leaf → Type 0) (t : Terminal) (r : Rule) → Says N (suc d) K t r → IsDecided r → ((ls : List Leaf) → N ls → M ls) → Says M d K t (opened r)
on_opened M N d K t Refused h i g = tt
on_opened M N d K t Over h i g = absurd i
on_opened M N d K t (Take b q) h i g = λ ls w. g (leaf t ∷ ls) (h ls (split q (Leave ∷ []) d K ls w))
on_opened M N d K t (Keep b f) h i g = λ p ls w. g (leaf_at t p ∷ ls) (h p ls (split (f p) (Leave ∷ []) d K ls w))

pub arm_says : (d : ℕ) (K : List Leaf → Type 0) (t : Terminal) → Says (Means ArmG d K) d K t (arm t)
arm_says d K t = on_before (Means ArmG d K) d K t (no_labels ∷ []) (opened (statement_rule None t)) (λ q ls w. w)
    (on_opened (Means ArmG d K) (Means (StatementG None) (suc d) K) d K t (statement_rule None t) (statement_says None (suc d) K t) (plain_decided (statement_rule None t) (statement_plain None t)) (λ ls w. w (suc d) no_names refl))

pub otherwise_says : (d : ℕ) (K : List Leaf → Type 0) (t : Terminal) → Says (Means OtherwiseG d K) d K t (otherwise_rule t)
otherwise_says d K t = on_key (Means OtherwiseG d K) d K key.Else t _ Over (λ ls w. with_else ls refl w) (λ h l ls i w. without (ap (is_key key.Else) i ∙ h) w)

-- ---- DO groups

pub step_says : (d : ℕ) (K : List Leaf → Type 0) (t : Terminal) → Says (Means StepG d K) d K t (step_rule t)
step_says d K t = on_key (Means StepG d K) d K key.By t _ Over
    (λ ls w. let x = expression_of d K ls (Do set_step ∷ []) w in record { part = Some x.part; rest = x.rest; ok = x.ok; is = ap (λ (y : List Leaf). leaf (Key key.By) ∷ y) x.is; goes = x.goes })
    (λ h l ls i w. record { part = None; rest = l ∷ ls; ok = tt; is = refl; goes = w })

pub end_says : (lab : Option NameT) (d : ℕ) (K : List Leaf → Type 0) (t : Terminal) → Says (Means (EndG lab) d K) d K t (end_rule lab t)
end_says lab d K (Name n) = by_name (is_end_name lab n) refl
  where
    by_name : (b : Bool) → is_end_name lab n ≡ b → Says (Means (EndG lab) d K) d K (Name n) (cond b (Take false (need mark.Semicolon ∷ push (EndR (Some n)) ∷ [])) Refused)
    by_name true e = λ ls w. record { part = Some n; rest = w.rest; ok = e; is = ap (λ (x : List Leaf). leaf (Key key.End) ∷ leaf (Name n) ∷ x) w.is; goes = w.goes }
    by_name false e = tt
end_says lab d K (Numeral n) = tt
end_says lab d K (Text n) = tt
end_says lab d K (Key n) = tt
end_says lab d K Finish = tt
end_says lab d K (Sign s) = on_sign (Means (EndG lab) d K) d K mark.Semicolon (Sign s) _ Refused (λ ls w. record { part = None; rest = ls; ok = tt; is = refl; goes = w }) (λ h. tt)

-- the statements that follow, from one statement on
abbrev pub more_and_end : (lab : Option NameT) → List Symbol
more_and_end lab = and_more lab

pub statement_then : (lab : Option NameT) (d : ℕ) (K : List Leaf → Type 0) (ss : StatementsT) → WellStatements ss → (ls : List Leaf) → AStatement 0 d (Awaits (and_more lab) d K) ls → An Ended_statements (WellEnded lab) (ended_leaves d) K (statement_list put_leaf d ss ls)
statement_then lab d K ss w ls a = let g = a.goes (statements ss a.part) (w, a.ok) in record { part = g.part; rest = g.rest; ok = g.ok; is = ap (statement_list put_leaf d ss) a.is ∙ g.is; goes = g.goes }

pub statements_says : (lab : Option NameT) (d : ℕ) (K : List Leaf → Type 0) (t : Terminal) → Says (Means (StatementsG lab) d K) d K t (statements_rule lab t)
statements_says lab d K t = on_key (Means (StatementsG lab) d K) d K key.End t _ _
    (λ ls w ss o. record { part = record { list = ss; name = w.part }; rest = w.rest; ok = (o, w.ok); is = ap (statement_list put_leaf d ss) w.is; goes = w.goes })
    (λ h. on_before (Means (StatementsG lab) d K) d K t (no_labels ∷ []) (behind (statement_rule None t) (and_more lab)) (λ q ls w. w)
    (on_behind (Means (StatementsG lab) d K) d K (Means (StatementG None) d (Awaits (and_more lab) d K)) t (and_more lab) (statement_rule None t) (statement_says None d (Awaits (and_more lab) d K) t) (plain_decided (statement_rule None t) (statement_plain None t))
    (λ ls w ss o. statement_then lab d K ss o ls (w 0 no_names refl))))

pub do_says : (p : Position) (lab : Option NameT) (d : ℕ) (K : List Leaf → Type 0) (t : Terminal) → Says (Means (DoG p lab) d K) d K t (do_rule p lab t)
do_says p lab d K (Numeral n) = tt
do_says p lab d K (Text n) = tt
do_says p lab d K Finish = tt
do_says p lab d K (Name i) = λ ls w.
    let a = expression_of d K w.rest (Need (Key key.To) ∷ an_expression (Do make_range ∷ push (StepR None) ∷ Want StepG ∷ need mark.Semicolon ∷ no_statement_yet ∷ Want (StatementsG lab) ∷ Do (make_iterate p) ∷ [])) w.goes in
    let b = expression_of d K a.goes.rest (Do make_range ∷ push (StepR None) ∷ Want StepG ∷ need mark.Semicolon ∷ no_statement_yet ∷ Want (StatementsG lab) ∷ Do (make_iterate p) ∷ []) a.goes.goes in
    let c = b.goes.goes.goes no_statements tt in
    record {
      part = IterateDo i a.part b.part b.goes.part c.part.list c.part.name;
      rest = c.rest;
      ok = (a.ok, b.ok, b.goes.ok, c.ok.0, c.ok.1);
      is = ap (λ (x : List Leaf). leaf (Name i) ∷ x) (w.is ∙ ap (λ (x : List Leaf). leaf (Sign mark.Equal) ∷ x) (a.is ∙ ap (expression put_leaf d a.part) (a.goes.is ∙ ap (λ (x : List Leaf). leaf (Key key.To) ∷ x) (b.is ∙ ap (expression put_leaf d b.part) (b.goes.is ∙ ap (step put_leaf d b.goes.part) (b.goes.goes.is ∙ ap (λ (x : List Leaf). leaf (Sign mark.Semicolon) ∷ x) c.is))))));
      goes = c.goes;
    }
do_says p lab d K (Sign s) = on_sign (Means (DoG p lab) d K) d K mark.Semicolon (Sign s) _ Refused
    (λ ls w. let c = w no_items tt in record { part = PlainDo c.part.front c.part.list c.part.name; rest = c.rest; ok = ((c.ok.0, c.ok.1), c.ok.2); is = ap (λ (x : List Leaf). leaf (Sign mark.Semicolon) ∷ x) c.is; goes = c.goes }) (λ h. tt)
do_says p lab d K (Key k) = on_key (Means (DoG p lab) d K) d K key.While (Key k) _ _
    (λ ls w.
    let a = expression_of d K ls (need mark.Semicolon ∷ no_statement_yet ∷ Want (StatementsG lab) ∷ Do (make_while p) ∷ []) w in
    let c = a.goes.goes no_statements tt in
    record { part = WhileDo a.part c.part.list c.part.name; rest = c.rest; ok = (a.ok, c.ok.0, c.ok.1); is = ap (λ (x : List Leaf). leaf (Key key.While) ∷ x) (a.is ∙ ap (expression put_leaf d a.part) (a.goes.is ∙ ap (λ (x : List Leaf). leaf (Sign mark.Semicolon) ∷ x) c.is)); goes = c.goes })
    (λ h. on_key (Means (DoG p lab) d K) d K key.Case (Key k) _ Refused
    (λ ls w.
    let a = expression_of d K ls (need mark.Semicolon ∷ no_statement_yet ∷ Want (StatementsG lab) ∷ Do (make_case p) ∷ []) w in
    let c = a.goes.goes no_statements tt in
    record { part = CaseDo a.part c.part.list c.part.name; rest = c.rest; ok = (a.ok, c.ok.0, c.ok.1); is = ap (λ (x : List Leaf). leaf (Key key.Case) ∷ x) (a.is ∙ ap (expression put_leaf d a.part) (a.goes.is ∙ ap (λ (x : List Leaf). leaf (Sign mark.Semicolon) ∷ x) c.is)); goes = c.goes })
    (λ i. tt))

-- ---- blocks

-- from a block's first statement on
pub block_then : (lab : Option NameT) (d : ℕ) (K : List Leaf → Type 0) (is : ItemsT) → WellItems is → (ls : List Leaf) → An Ended_statements (WellEnded lab) (ended_leaves d) K ls → An Ended_block (WellEndedBlock lab) (block_leaves d) K (item_list put_leaf d is ls)
block_then lab d K is w ls g = record { part = record { front = is; list = g.part.list; name = g.part.name }; rest = g.rest; ok = (w, g.ok.0, g.ok.1); is = ap (item_list put_leaf d is) g.is; goes = g.goes }

-- from one more declaration or procedure on
pub item_then : (lab : Option NameT) (d : ℕ) (K : List Leaf → Type 0) (is : ItemsT) → WellItems is → (i : ItemT) → WellItem i → (ls rest : List Leaf) → ls ≡ item put_leaf d i rest → Means (ItemsG lab) d K rest → An Ended_block (WellEndedBlock lab) (block_leaves d) K (item_list put_leaf d is ls)
item_then lab d K is w i wi ls rest e h = let g = h (items is i) (w, wi) in record { part = g.part; rest = g.rest; ok = g.ok; is = ap (item_list put_leaf d is) e ∙ g.is; goes = g.goes }

pub items_statement : (lab : Option NameT) (d : ℕ) (K : List Leaf → Type 0) (t : Terminal) → Says (Means (ItemsG lab) d K) d K t (before (no_statement_yet ∷ no_labels ∷ []) (behind (statement_rule None t) (and_more lab)))
items_statement lab d K t = on_before (Means (ItemsG lab) d K) d K t (no_statement_yet ∷ no_labels ∷ []) (behind (statement_rule None t) (and_more lab)) (λ q ls w. w)
    (on_behind (Means (ItemsG lab) d K) d K (Means (StatementG None) d (Awaits (and_more lab) d K)) t (and_more lab) (statement_rule None t) (statement_says None d (Awaits (and_more lab) d K) t) (plain_decided (statement_rule None t) (statement_plain None t))
    (λ ls w is o. block_then lab d K is o ls (statement_then lab d K no_statements tt ls (w 0 no_names refl))))

pub items_other : (lab : Option NameT) (d : ℕ) (K : List Leaf → Type 0) (t : Terminal) → Says (Means (ItemsG lab) d K) d K t (cond (is_key key.Declare t) (Keep false (λ p. push (ElementsR no_elements) ∷ Want ElementG ∷ Want MoreElementsG ∷ Do (make_declare p) ∷ Want (ItemsG lab) ∷ []))
    (cond (is_key key.End t) (Take false (no_statement_yet ∷ Want (EndG lab) ∷ []))
    (before (no_statement_yet ∷ no_labels ∷ []) (behind (statement_rule None t) (and_more lab)))))
items_other lab d K t = on_key (Means (ItemsG lab) d K) d K key.Declare t _ _
    (λ p ls w is o. let e = w.goes (elements no_elements w.part) (tt, w.ok) in
    item_then lab d K is o (DeclareI p e.part) e.ok (leaf_at (Key key.Declare) p ∷ ls) e.rest (ap (λ (x : List Leaf). leaf_at (Key key.Declare) p ∷ x) (w.is ∙ e.is)) e.goes)
    (λ h. on_key (Means (ItemsG lab) d K) d K key.End t _ _
    (λ ls w is o. block_then lab d K is o (leaf (Key key.End) ∷ ls) (record { part = record { list = no_statements; name = w.part }; rest = w.rest; ok = (tt, w.ok); is = w.is; goes = w.goes }))
    (λ i. items_statement lab d K t))

pub items_says : (lab : Option NameT) (d : ℕ) (K : List Leaf → Type 0) (t : Terminal) → Says (Means (ItemsG lab) d K) d K t (items_rule lab t)
items_says lab d K (Name n) = λ ls w is o. w is o
items_says lab d K (Numeral n) = items_other lab d K (Numeral n)
items_says lab d K (Text n) = items_other lab d K (Text n)
items_says lab d K (Key n) = items_other lab d K (Key n)
items_says lab d K (Sign n) = items_other lab d K (Sign n)
items_says lab d K Finish = items_other lab d K Finish

pub assignment_decided : (t : Terminal) → IsDecided (assignment_rule t)
assignment_decided t = by_tests (is_sign mark.LeftParenthesis t) (is_sign mark.Period t) (is_sign mark.Comma t) (is_sign mark.Equal t)
  where
    by_tests : (a b c e : Bool) → IsDecided (otherwise (behind (cond a (Take true (push (ExpressionsR no_expressions) ∷ an_expression (Do add_expression ∷ Want MoreSubscriptsG ∷ Leave ∷ Do set_subscripts ∷ []))) Over) (Want SelectorG ∷ Want MoreTargetsG ∷ []))
        (otherwise (behind (cond b (Take false (Want MemberG ∷ [])) Over) (Want MoreTargetsG ∷ []))
        (cond c (Take false (Do add_target ∷ Want TargetG ∷ [])) (cond e (Take false (Do add_target ∷ an_expression (need mark.Semicolon ∷ Do make_assign ∷ []))) Refused))))
    by_tests true b c e = tt
    by_tests false true c e = tt
    by_tests false false true e = tt
    by_tests false false false true = tt
    by_tests false false false false = tt

pub item_lead_says : (n : NameT) (lab : Option NameT) (d : ℕ) (K : List Leaf → Type 0) (t : Terminal) → Says (Means (ItemLeadG n lab) d K) d K t (item_lead n lab t)
item_lead_says n lab d K t = on_sign (Means (ItemLeadG n lab) d K) d K mark.Colon t _ _ (λ ls w is o. w is o)
    (λ h. on_before (Means (ItemLeadG n lab) d K) d K t (no_statement_yet ∷ no_labels ∷ push (ReferencesR no_references) ∷ push (ExpressionR (ReferenceE (plain n))) ∷ []) (behind (assignment_rule t) (and_more lab)) (λ q ls w. w)
    (on_behind (Means (ItemLeadG n lab) d K) d K (AssignsTo d (Awaits (and_more lab) d K) n) t (and_more lab) (assignment_rule t) (assignment_says n d (Awaits (and_more lab) d K) t) (assignment_decided t)
    (λ ls w is o. block_then lab d K is o (leaf (Name n) ∷ ls) (statement_then lab d K no_statements tt (leaf (Name n) ∷ ls) (w 0 no_names)))))

pub item_colon_says : (n : NameT) (lab : Option NameT) (d : ℕ) (K : List Leaf → Type 0) (t : Terminal) → Says (Means (ItemColonG n lab) d K) d K t (item_colon n lab t)
item_colon_says n lab d K t = on_key (Means (ItemColonG n lab) d K) d K key.Procedure t _ _
    (λ ls w is o.
    let r = w.goes in
    let i = r.goes in
    let l = i.goes in
    let b = l.goes.goes no_items tt in
    item_then lab d K is o (ProcedureI n w.part r.part i.part l.part (BlockOf b.part.front b.part.list) b.part.name) ((b.ok.0, b.ok.1), b.ok.2)
    (leaf (Name n) ∷ leaf (Sign mark.Colon) ∷ leaf (Key key.Procedure) ∷ ls) b.rest
    (ap (λ (x : List Leaf). leaf (Name n) ∷ leaf (Sign mark.Colon) ∷ leaf (Key key.Procedure) ∷ x) (w.is ∙ ap (parenthesised_names put_leaf w.part) (r.is ∙ ap (returned put_leaf r.part) (i.is ∙ ap (interrupt put_leaf i.part) (l.is ∙ ap (linkage put_leaf l.part) (l.goes.is ∙ ap (λ (x : List Leaf). leaf (Sign mark.Semicolon) ∷ x) b.is)))))) b.goes)
    (λ h. on_before (Means (ItemColonG n lab) d K) d K t (no_statement_yet ∷ push (NamesR (names no_names n)) ∷ []) (behind (statement_rule (Some n) t) (and_more lab)) (λ q ls w. w)
    (on_behind (Means (ItemColonG n lab) d K) d K (Means (StatementG (Some n)) d (Awaits (and_more lab) d K)) t (and_more lab) (statement_rule (Some n) t) (statement_says (Some n) d (Awaits (and_more lab) d K) t) (plain_decided (statement_rule (Some n) t) (statement_plain (Some n) t))
    (λ ls w is o. block_then lab d K is o (leaf (Name n) ∷ leaf (Sign mark.Colon) ∷ ls) (statement_then lab d K no_statements tt (leaf (Name n) ∷ leaf (Sign mark.Colon) ∷ ls) (w 0 (names no_names n) refl)))))

-- ---- modules

pub module_says : (n : NameT) (d : ℕ) (K : List Leaf → Type 0) (t : Terminal) → Says (Means (ModuleG n) d K) d K t (module_rule n t)
module_says n d K t = on_key (Means (ModuleG n) d K) d K key.Do t _ Refused
    (λ ls w. let b = w.goes no_items tt in
    record {
      part = ModuleOf n (BlockOf b.part.front b.part.list) b.part.name;
      rest = b.goes.rest;
      ok = ((b.ok.0, b.ok.1), b.ok.2);
      is = ap (λ (x : List Leaf). leaf (Name n) ∷ leaf (Sign mark.Colon) ∷ leaf (Key key.Do) ∷ x) (w.is ∙ ap (λ (x : List Leaf). leaf (Sign mark.Semicolon) ∷ x) (b.is ∙ ap (block_leaves (suc d) b.part) b.goes.is));
      goes = b.goes.goes;
    })
    (λ h. tt)

pub start_says : (d : ℕ) (K : List Leaf → Type 0) (t : Terminal) → Says (Means StartG d K) d K t (start_rule t)
start_says d K (Numeral n) = tt
start_says d K (Text n) = tt
start_says d K (Key n) = tt
start_says d K (Sign n) = tt
start_says d K Finish = tt
start_says d K (Name n) = λ ls w. record { part = w.goes.part; rest = w.goes.rest; ok = w.goes.ok; is = ap (λ (x : List Leaf). leaf (Name n) ∷ x) w.is ∙ w.goes.is; goes = w.goes.goes }

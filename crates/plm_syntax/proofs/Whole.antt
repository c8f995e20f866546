-- Runs and modules: no two modules are spelled by one list, and what a run takes begins a module.
use Rattle.std.proofs.Common.{◌≡◌, ℕ, suc, List, [], ◌∷◌, ◌++◌, Bool, true, false, cond, Option, Some, None, refl, sym, ap, ◌∙◌, subst, length}
use Rattle.plm_syntax.specs.declared.tree.Position.{Position}
use Rattle.plm_syntax.specs.Terminal.{Terminal, Leaf, leaf, leaf_at}
use Rattle.plm_syntax.specs.Inner.Terminal.{is_same}
use Rattle.plm_syntax.specs.Tree.{ModuleT}
use Rattle.plm_syntax.specs.Spelling.{module_leaves, put_leaf, leaves_of, levels_of}
use Rattle.plm_syntax.specs.WellFormed.{WellModule}
use Rattle.plm_syntax.specs.Inner.Symbol.{Value, Action, Goal, Symbol, depth, Rule, ModuleR, PrimaryG, SignedG, NegationG, MoreG, InsideG, AfterReferenceG, SubscriptsG, MoreSubscriptsG, SelectorG, MemberG, MemberSubscriptG, LocatedG, ValueG, NegativeG, MoreValuesG, StatementG, LeadG, TargetG, MoreTargetsG, CalledG, ReturnedG, ArmG, OtherwiseG, DoG, StepG, StatementsG, EndG, ItemsG, ItemLeadG, ItemColonG, ParametersG, ParameterG, MoreParametersG, ReturnedTypeG, InterruptG, InterruptNumberG, LinkageG, ElementG, ElementLeadG, LiteralTextG, VariableG, MoreVariablesG, BasedG, BaseG, DimensionG, DimensionBodyG, TypeG, MemberOfG, MemberNameG, MoreMemberNamesG, CountG, CountNumberG, MemberTypeG, MoreMembersG, AttributesG, AtG, AtBodyG, InitialG, MoreElementsG, ModuleG, StartG, Need, Want, Do, Leave, Refused, Over, Take, Keep}
use Rattle.plm_syntax.specs.Inner.Machine.{again, rule, Move, kept, feed, Trace, trace, start, Stay, Next, Open, Ended, Then}
use Rattle.std.proofs.Common.{take, drop}
use Rattle.std.proofs.lemmas.List.{append-nil}
use Rattle.plm_syntax.specs.Sentence.{IsKept, Fits, AllWithin, Begins, BeginsWithin, SpellOnce}
use Rattle.plm_syntax.proofs.Steps.{go, trace_step, ruled, feed_want}
use Rattle.plm_syntax.proofs.Levels.{thens, levels_module_leaves}
use Rattle.plm_syntax.proofs.DriveBlock.{module_drives}
use Rattle.plm_syntax.proofs.Fill.{fill_all}
use Rattle.plm_syntax.proofs.GoalTrees.{Means, Awaits, Says, split, same_is}
use Rattle.plm_syntax.proofs.TableExpression.{more_says, subscripts_says, more_subscripts_says, selector_says, member_says, member_subscript_says, located_says, value_says, negative_says, more_values_says, primary_says, signed_says, negation_says, inside_says, after_reference_says}
use Rattle.plm_syntax.proofs.TableDeclaration.{parameter_says, member_name_says, more_parameters_says, more_member_names_says, parameters_says, returned_type_says, interrupt_says, interrupt_number_says, linkage_says, at_says, at_body_says, initial_says, attributes_says, count_says, count_number_says, member_type_says, member_of_says, more_members_says, type_says, dimension_says, dimension_body_says, based_says, base_says, variable_says, more_variables_says, element_lead_says, literal_text_says, element_says, more_elements_says}
use Rattle.plm_syntax.proofs.TableBlock.{statement_says, more_targets_says, target_says, lead_says, called_says, returned_says, arm_says, otherwise_says, step_says, end_says, statements_says, do_says, items_says, item_lead_says, item_colon_says, module_says, start_says}

pub taken : (q s : List Symbol) (K : List Leaf → Type 0) (ls : List Leaf) → Awaits (q ++ s) 0 K ls → Awaits q (depth s) (Awaits s 0 K) ls
taken q s K ls w = split q s 0 K ls w

pub ended_stack : {s t : List Symbol} {v w : List Value} → Ended s v ≡ Ended t w → s ≡ t
ended_stack h = cc

pub ended_values : {s t : List Symbol} {v w : List Value} → Ended s v ≡ Ended t w → v ≡ w
ended_values h = cc

pub then_level : {m n : ℕ} {r q : Trace} → Then m r ≡ Then n q → m ≡ n
then_level h = cc

pub then_rest : {m n : ℕ} {r q : Trace} → Then m r ≡ Then n q → r ≡ q
then_rest h = cc

pub fit_length : (ls ts : List Leaf) → Fits ls ts → length ls ≡ length ts
fit_length [] [] f = refl
fit_length [] (t ∷ ts) f = absurd f
fit_length (l ∷ ls) [] f = absurd f
fit_length (l ∷ ls) (t ∷ ts) f = ap suc (fit_length ls ts f.2)

pub table : (g : Goal) (d : ℕ) (K : List Leaf → Type 0) (t : Terminal) → Says (Means g d K) d K t (rule g t)
table PrimaryG d K t = primary_says d K t
table SignedG d K t = signed_says d K t
table NegationG d K t = negation_says d K t
table (MoreG a) d K t = more_says a d K t
table (InsideG a) d K t = inside_says a d K t
table (AfterReferenceG a) d K t = after_reference_says a d K t
table SubscriptsG d K t = subscripts_says d K t
table MoreSubscriptsG d K t = more_subscripts_says d K t
table SelectorG d K t = selector_says d K t
table MemberG d K t = member_says d K t
table MemberSubscriptG d K t = member_subscript_says d K t
table (LocatedG a b) d K t = located_says a b d K t
table ValueG d K t = value_says d K t
table NegativeG d K t = negative_says d K t
table MoreValuesG d K t = more_values_says d K t
table (StatementG a) d K t = statement_says a d K t
table (LeadG a) d K t = lead_says a d K t
table TargetG d K t = target_says d K t
table MoreTargetsG d K t = more_targets_says d K t
table CalledG d K t = called_says d K t
table (ReturnedG a) d K t = returned_says a d K t
table ArmG d K t = arm_says d K t
table OtherwiseG d K t = otherwise_says d K t
table (DoG a b) d K t = do_says a b d K t
table StepG d K t = step_says d K t
table (StatementsG a) d K t = statements_says a d K t
table (EndG a) d K t = end_says a d K t
table (ItemsG a) d K t = items_says a d K t
table (ItemLeadG a b) d K t = item_lead_says a b d K t
table (ItemColonG a b) d K t = item_colon_says a b d K t
table ParametersG d K t = parameters_says d K t
table ParameterG d K t = parameter_says d K t
table MoreParametersG d K t = more_parameters_says d K t
table ReturnedTypeG d K t = returned_type_says d K t
table InterruptG d K t = interrupt_says d K t
table InterruptNumberG d K t = interrupt_number_says d K t
table LinkageG d K t = linkage_says d K t
table ElementG d K t = element_says d K t
table ElementLeadG d K t = element_lead_says d K t
table LiteralTextG d K t = literal_text_says d K t
table VariableG d K t = variable_says d K t
table MoreVariablesG d K t = more_variables_says d K t
table BasedG d K t = based_says d K t
table BaseG d K t = base_says d K t
table DimensionG d K t = dimension_says d K t
table DimensionBodyG d K t = dimension_body_says d K t
table TypeG d K t = type_says d K t
table MemberOfG d K t = member_of_says d K t
table MemberNameG d K t = member_name_says d K t
table MoreMemberNamesG d K t = more_member_names_says d K t
table CountG d K t = count_says d K t
table CountNumberG d K t = count_number_says d K t
table MemberTypeG d K t = member_type_says d K t
table MoreMembersG d K t = more_members_says d K t
table AttributesG d K t = attributes_says d K t
table AtG d K t = at_says d K t
table AtBodyG d K t = at_body_says d K t
table InitialG d K t = initial_says d K t
table MoreElementsG d K t = more_elements_says d K t
table (ModuleG a) d K t = module_says a d K t
table StartG d K t = start_says d K t

-- ---- one token

-- a leaf that the token is, and the leaves that a stack stands for from it on
pub record Before (s : List Symbol) (K : List Leaf → Type 0) (t : Leaf) (ls : List Leaf) : Type 0 where
  pub first : Leaf
  pub same : first.terminal ≡ t.terminal
  pub kept : IsKept first.place t.place
  pub stands : Awaits s 0 K (first ∷ ls)

-- what a move makes good
abbrev pub MovesGood : List Symbol → (List Leaf → Type 0) → Leaf → Move → Type 0
MovesGood s K t Stay = Unit {0}
MovesGood s K t (Next s' v') = (ls : List Leaf) → Awaits s' 0 K ls → Before s K t ls
MovesGood s K t (Open s' v') = (ls : List Leaf) → Awaits s' 0 K ls → Before s K t ls

pub want_good : (g : Goal) (s : List Symbol) (v : List Value) (K : List Leaf → Type 0) (t : Terminal) (p : Option Position) (r : Rule) → Says (Means g (depth s) (Awaits s 0 K)) (depth s) (Awaits s 0 K) t r → MovesGood s K (record { terminal = t; place = p }) (feed s v t p) → MovesGood (Want g ∷ s) K (record { terminal = t; place = p }) (ruled r s v t p)
want_good g s v K t p Refused h k = tt
want_good g s v K t p Over h k = by_move (feed s v t p) k
  where
    by_move : (m : Move) → MovesGood s K (record { terminal = t; place = p }) m → MovesGood (Want g ∷ s) K (record { terminal = t; place = p }) m
    by_move Stay k = tt
    by_move (Next s' v') k = λ ls w. let b = k ls w in record { first = b.first; same = b.same; kept = b.kept; stands = h b.first ls b.same b.stands }
    by_move (Open s' v') k = λ ls w. let b = k ls w in record { first = b.first; same = b.same; kept = b.kept; stands = h b.first ls b.same b.stands }
want_good g s v K t p (Take true q) h k = λ ls w. record { first = leaf t; same = refl; kept = tt; stands = h ls (taken q s K ls w) }
want_good g s v K t p (Take false q) h k = λ ls w. record { first = leaf t; same = refl; kept = tt; stands = h ls (taken q s K ls w) }
want_good g s v K t None (Keep b f) h k = tt
want_good g s v K t (Some p) (Keep true f) h k = λ ls w. record { first = leaf_at t p; same = refl; kept = refl; stands = h p ls (taken (f p) s K ls w) }
want_good g s v K t (Some p) (Keep false f) h k = λ ls w. record { first = leaf_at t p; same = refl; kept = refl; stands = h p ls (taken (f p) s K ls w) }

pub need_good : (u : Terminal) (s : List Symbol) (v : List Value) (K : List Leaf → Type 0) (t : Terminal) (p : Option Position) (b : Bool) → is_same u t ≡ b → MovesGood (Need u ∷ s) K (record { terminal = t; place = p }) (cond b (Next s v) Stay)
need_good u s v K t p true e = λ ls w. record { first = leaf u; same = same_is u t e; kept = tt; stands = record { rest = ls; is = refl; goes = w } }
need_good u s v K t p false e = tt

pub moves_good : (s : List Symbol) (v : List Value) (K : List Leaf → Type 0) (t : Terminal) (p : Option Position) → MovesGood s K (record { terminal = t; place = p }) (feed s v t p)
moves_good [] v K t p = tt
moves_good (Need u ∷ s) v K t p = need_good u s v K t p (is_same u t) refl
moves_good (Want g ∷ s) v K t p = subst (MovesGood (Want g ∷ s) K (record { terminal = t; place = p })) (sym (feed_want g s v t p)) (want_good g s v K t p (rule g t) (table g (depth s) (Awaits s 0 K) t) (moves_good s v K t p))
moves_good (Do a ∷ s) v K t p = by_option (a v) (λ w. moves_good s w K t p)
  where
    again : (m : Move) → MovesGood s K (record { terminal = t; place = p }) m → MovesGood (Do a ∷ s) K (record { terminal = t; place = p }) m
    again Stay k = tt
    again (Next s' v') k = λ ls w. let b = k ls w in record { first = b.first; same = b.same; kept = b.kept; stands = b.stands }
    again (Open s' v') k = λ ls w. let b = k ls w in record { first = b.first; same = b.same; kept = b.kept; stands = b.stands }

    by_option : (o : Option (List Value)) → ((w : List Value) → MovesGood s K (record { terminal = t; place = p }) (feed s w t p)) → MovesGood (Do a ∷ s) K (record { terminal = t; place = p }) (elim o [ None ↦ Stay | Some w ↦ feed s w t p ])
    by_option None k = tt
    by_option (Some w) k = again (feed s w t p) (k w)
moves_good (Leave ∷ s) v K t p = again (feed s v t p) (moves_good s v K t p)
  where
    again : (m : Move) → MovesGood s K (record { terminal = t; place = p }) m → MovesGood (Leave ∷ s) K (record { terminal = t; place = p }) m
    again Stay k = tt
    again (Next s' v') k = λ ls w. let b = k ls w in record { first = b.first; same = b.same; kept = b.kept; stands = b.stands }
    again (Open s' v') k = λ ls w. let b = k ls w in record { first = b.first; same = b.same; kept = b.kept; stands = b.stands }

-- ---- runs over tokens

-- A run without a refusal, with the levels that its tokens open.
pub data Path : List Symbol → List Value → List Leaf → List ℕ → List Symbol → List Value → Type 0 where
  here : {s : List Symbol} {v : List Value} → Path s v [] [] s v
  on : {s s' t : List Symbol} {v v' w : List Value} {l : Leaf} {ls : List Leaf} {ns : List ℕ} → feed s v l.terminal l.place ≡ Next s' v' → Path s' v' ls ns t w → Path s v (l ∷ ls) (0 ∷ ns) t w
  in_level : {s s' t : List Symbol} {v v' w : List Value} {l : Leaf} {ls : List Leaf} {ns : List ℕ} → feed s v l.terminal l.place ≡ Open s' v' → Path s' v' ls ns t w → Path s v (l ∷ ls) (depth s' ∷ ns) t w

-- a trace that ends is a path
pub path_of : (ls : List Leaf) (s : List Symbol) (v : List Value) (ns : List ℕ) (t : List Symbol) (w : List Value) → trace s v ls ≡ thens ns (Ended t w) → Path s v ls ns t w
path_of [] s v [] t w e =
    let is : s ≡ t = ended_stack e in
    let iv : v ≡ w = ended_values e in
    subst (λ (x : List Symbol). Path s v [] [] x w) is (subst (λ (y : List Value). Path s v [] [] s y) iv here)
path_of [] s v (n ∷ ns) t w e = absurd cc
path_of (l ∷ ls) s v ns t w e = by_move (λ a x ks h. path_of ls a x ks t w h) (feed s v l.terminal l.place) refl ns (sym (trace_step s v l ls) ∙ e)
  where
    by_move : ((a : List Symbol) (x : List Value) (ks : List ℕ) → trace a x ls ≡ thens ks (Ended t w) → Path a x ls ks t w) → (m : Move) → feed s v l.terminal l.place ≡ m → (ns : List ℕ) → go m ls ≡ thens ns (Ended t w) → Path s v (l ∷ ls) ns t w
    by_move again Stay f [] g = absurd cc
    by_move again Stay f (n ∷ ns) g = absurd cc
    by_move again (Next s' v') f [] g = absurd cc
    by_move again (Next s' v') f (n ∷ ns) g = subst (λ (k : ℕ). Path s v (l ∷ ls) (k ∷ ns) t w) (then_level g) (on f (again s' v' ns (then_rest g)))
    by_move again (Open s' v') f [] g = absurd cc
    by_move again (Open s' v') f (n ∷ ns) g = subst (λ (k : ℕ). Path s v (l ∷ ls) (k ∷ ns) t w) (then_level g) (in_level f (again s' v' ns (then_rest g)))

-- a module's leaves make a path to the module
pub module_path : (m : ModuleT) → WellModule m → Path start [] (leaves_of m) (levels_of m) [] (ModuleR m ∷ [])
module_path m w =
    let h = levels_module_leaves 0 m in
    subst (λ (ns : List ℕ). Path start [] (leaves_of m) ns [] (ModuleR m ∷ [])) (sym (append-nil h.levels) ∙ sym (h.in_list []))
    (path_of (leaves_of m) start [] h.levels [] (ModuleR m ∷ []) (module_drives m w ∙ h.in_trace (Ended [] (ModuleR m ∷ []))))

-- a token does what a leaf does that it fits
pub kept_feed : (b : Bool) (f : Position → List Symbol) (s : List Symbol) (v : List Value) (p q : Option Position) → IsKept p q → (kept b f s v p ≡ Stay → ⊥) → kept b f s v q ≡ kept b f s v p
kept_feed b f s v None q k some = absurd (some refl)
kept_feed b f s v (Some p) q k some = ap (kept b f s v) k

pub fit_ruled : (r : Rule) (s : List Symbol) (v : List Value) (t : Terminal) (p q : Option Position) → IsKept p q → ((feed s v t p ≡ Stay → ⊥) → feed s v t q ≡ feed s v t p) → (ruled r s v t p ≡ Stay → ⊥) → ruled r s v t q ≡ ruled r s v t p
fit_ruled Refused s v t p q k same some = refl
fit_ruled Over s v t p q k same some = same some
fit_ruled (Take b x) s v t p q k same some = refl
fit_ruled (Keep b f) s v t p q k same some = kept_feed b f s v p q k some

-- what an action makes of a token
abbrev pub then_feed : Option (List Value) → List Symbol → Terminal → Option Position → Move
then_feed None s t p = Stay
then_feed (Some w) s t p = feed s w t p

pub feed_do : (a : Action) (s : List Symbol) (v : List Value) (t : Terminal) (p : Option Position) → feed (Do a ∷ s) v t p ≡ then_feed (a v) s t p
feed_do a s v t p = by_option (a v)
  where
    by_option : (o : Option (List Value)) → (elim o [ None ↦ Stay | Some w ↦ feed s w t p ]) ≡ then_feed o s t p
    by_option None = refl
    by_option (Some w) = refl

pub fit_did : (o : Option (List Value)) (s : List Symbol) (t : Terminal) (p q : Option Position) → ((w : List Value) → (feed s w t p ≡ Stay → ⊥) → feed s w t q ≡ feed s w t p) → (then_feed o s t p ≡ Stay → ⊥) → then_feed o s t q ≡ then_feed o s t p
fit_did None s t p q same some = refl
fit_did (Some w) s t p q same some = same w some

pub fit_feed : (s : List Symbol) (v : List Value) (t : Terminal) (p q : Option Position) → IsKept p q → (feed s v t p ≡ Stay → ⊥) → feed s v t q ≡ feed s v t p
fit_feed [] v t p q k some = refl
fit_feed (Need u ∷ s) v t p q k some = refl
fit_feed (Want g ∷ s) v t p q k some = feed_want g s v t q ∙ fit_ruled (rule g t) s v t p q k (λ h. fit_feed s v t p q k h) (λ h. some (feed_want g s v t p ∙ h)) ∙ sym (feed_want g s v t p)
fit_feed (Do a ∷ s) v t p q k some = feed_do a s v t q ∙ fit_did (a v) s t p q (λ w h. fit_feed s w t p q k h) (λ h. some (feed_do a s v t p ∙ h)) ∙ sym (feed_do a s v t p)
fit_feed (Leave ∷ s) v t p q k some = fit_feed s v t p q k some

pub next_is : {m : Move} {s : List Symbol} {v : List Value} → m ≡ Next s v → m ≡ Stay → ⊥
next_is {m} {s} {v} h k = let c : Next s v ≡ Stay = sym h ∙ k in absurd cc

pub open_is : {m : Move} {s : List Symbol} {v : List Value} → m ≡ Open s v → m ≡ Stay → ⊥
open_is {m} {s} {v} h k = let c : Open s v ≡ Stay = sym h ∙ k in absurd cc

pub fit_next : (s s' : List Symbol) (v v' : List Value) (l t : Leaf) → l.terminal ≡ t.terminal → IsKept l.place t.place → feed s v l.terminal l.place ≡ Next s' v' → feed s v t.terminal t.place ≡ Next s' v'
fit_next s s' v v' l t e k h = ap (λ (x : Terminal). feed s v x t.place) (sym e) ∙ fit_feed s v l.terminal l.place t.place k (next_is h) ∙ h

pub fit_open : (s s' : List Symbol) (v v' : List Value) (l t : Leaf) → l.terminal ≡ t.terminal → IsKept l.place t.place → feed s v l.terminal l.place ≡ Open s' v' → feed s v t.terminal t.place ≡ Open s' v'
fit_open s s' v v' l t e k h = ap (λ (x : Terminal). feed s v x t.place) (sym e) ∙ fit_feed s v l.terminal l.place t.place k (open_is h) ∙ h

pub fit_path : (ts ls : List Leaf) (s t : List Symbol) (v w : List Value) (ns : List ℕ) → Fits ls ts → Path s v ls ns t w → Path s v ts ns t w
fit_path [] [] s t v w ns f here = here
fit_path [] (l ∷ ls) s t v w ns f p = absurd f
fit_path (u ∷ ts) [] s t v w ns f p = absurd f
fit_path (u ∷ ts) (l ∷ ls) s t v w _ f (on {s' = s'} {v' = v'} {ns = ns} h p) = on (fit_next s s' v v' l u f.0 f.1 h) (fit_path ts ls s' t v' w ns f.2 p)
fit_path (u ∷ ts) (l ∷ ls) s t v w _ f (in_level {s' = s'} {v' = v'} {ns = ns} h p) = in_level (fit_open s s' v v' l u f.0 f.1 h) (fit_path ts ls s' t v' w ns f.2 p)

-- ---- paths and parts

-- a path's front
pub record Front (s : List Symbol) (v : List Value) (front : List Leaf) (back : List Leaf) (ns : List ℕ) (t : List Symbol) (w : List Value) : Type 0 where
  pub stack : List Symbol
  pub seen : List Value
  pub to : Path s v front (take (length front) ns) stack seen
  pub then_on : Path stack seen back (drop (length front) ns) t w

pub front_of : (front back : List Leaf) (s t : List Symbol) (v w : List Value) (ns : List ℕ) → Path s v (front ++ back) ns t w → Front s v front back ns t w
front_of [] back s t v w ns p = record { stack = s; seen = v; to = here; then_on = p }
front_of (l ∷ front) back s t v w _ (on {s' = s'} {v' = v'} {ns = ns} h p) = let f = front_of front back s' t v' w ns p in record { stack = f.stack; seen = f.seen; to = on h f.to; then_on = f.then_on }
front_of (l ∷ front) back s t v w _ (in_level {s' = s'} {v' = v'} {ns = ns} h p) = let f = front_of front back s' t v' w ns p in record { stack = f.stack; seen = f.seen; to = in_level h f.to; then_on = f.then_on }

-- where the same tokens lead
pub record Same (ns ms : List ℕ) (s t : List Symbol) (v w : List Value) : Type 0 where
  pub levels : ns ≡ ms
  pub stacks : s ≡ t
  pub values : v ≡ w

pub next_stack : {s s' : List Symbol} {v v' : List Value} → Next s v ≡ Next s' v' → s ≡ s'
next_stack h = cc

pub next_values : {s s' : List Symbol} {v v' : List Value} → Next s v ≡ Next s' v' → v ≡ v'
next_values h = cc

pub open_stack : {s s' : List Symbol} {v v' : List Value} → Open s v ≡ Open s' v' → s ≡ s'
open_stack h = cc

pub open_values : {s s' : List Symbol} {v v' : List Value} → Open s v ≡ Open s' v' → v ≡ v'
open_values h = cc

pub only_path : (ls : List Leaf) (s t t' : List Symbol) (v w w' : List Value) (ns ms : List ℕ) → Path s v ls ns t w → Path s v ls ms t' w' → Same ns ms t t' w w'
only_path [] s t t' v w w' ns ms here here = record { levels = refl; stacks = refl; values = refl }
only_path (l ∷ ls) s t t' v w w' _ _ (on {s' = a} {v' = x} {ns = ns} h p) (on {s' = b} {v' = y} {ns = ms} k q) =
    let e = sym h ∙ k in
    let r = only_path ls b t t' y w w' ns ms (subst (λ (z : List Value). Path b z ls ns t w) (next_values e) (subst (λ (z : List Symbol). Path z x ls ns t w) (next_stack e) p)) q in
    record { levels = ap (λ (z : List ℕ). 0 ∷ z) r.levels; stacks = r.stacks; values = r.values }
only_path (l ∷ ls) s t t' v w w' _ _ (on {s' = a} {v' = x} h p) (in_level {s' = b} {v' = y} k q) = let e : Next a x ≡ Open b y = sym h ∙ k in absurd cc
only_path (l ∷ ls) s t t' v w w' _ _ (in_level {s' = a} {v' = x} h p) (on {s' = b} {v' = y} k q) = let e : Open a x ≡ Next b y = sym h ∙ k in absurd cc
only_path (l ∷ ls) s t t' v w w' _ _ (in_level {s' = a} {v' = x} {ns = ns} h p) (in_level {s' = b} {v' = y} {ns = ms} k q) =
    let e = sym h ∙ k in
    let r = only_path ls b t t' y w w' ns ms (subst (λ (z : List Value). Path b z ls ns t w) (open_values e) (subst (λ (z : List Symbol). Path z x ls ns t w) (open_stack e) p)) q in
    record { levels = ap (λ (z : List Symbol). depth z ∷ ns) (open_stack e) ∙ ap (λ (z : List ℕ). depth b ∷ z) r.levels; stacks = r.stacks; values = r.values }

-- ---- no two modules

pub one_module : {m n : ModuleT} → ModuleR m ∷ [] ≡ ModuleR n ∷ [] → m ≡ n
one_module h = cc

pub once : SpellOnce
once m n ts wm wn fm fn = one_module ((only_path ts start [] [] [] (ModuleR m ∷ []) (ModuleR n ∷ []) (levels_of m) (levels_of n)
    (fit_path ts (leaves_of m) start [] [] (ModuleR m ∷ []) (levels_of m) fm (module_path m wm))
    (fit_path ts (leaves_of n) start [] [] (ModuleR n ∷ []) (levels_of n) fn (module_path n wn))).values)

-- ---- from a run back to a module

-- leaves that the tokens are, and on
pub record Completed (s : List Symbol) (K : List Leaf → Type 0) (ts ls : List Leaf) : Type 0 where
  pub front : List Leaf
  pub fits : Fits front ts
  pub stands : Awaits s 0 K (front ++ ls)

pub completed : (ts : List Leaf) (s t : List Symbol) (v w : List Value) (ns : List ℕ) (K : List Leaf → Type 0) (ls : List Leaf) → Path s v ts ns t w → Awaits t 0 K ls → Completed s K ts ls
completed [] s t v w ns K ls here a = record { front = []; fits = tt; stands = a }
completed (u ∷ ts) s t v w _ K ls (on {s' = s'} {v' = v'} {ns = ns} h p) a =
    let c = completed ts s' t v' w ns K ls p a in
    let b = (subst (MovesGood s K u) h (moves_good s v K u.terminal u.place)) (c.front ++ ls) c.stands in
    record { front = b.first ∷ c.front; fits = (b.same, b.kept, c.fits); stands = b.stands }
completed (u ∷ ts) s t v w _ K ls (in_level {s' = s'} {v' = v'} {ns = ns} h p) a =
    let c = completed ts s' t v' w ns K ls p a in
    let b = (subst (MovesGood s K u) h (moves_good s v K u.terminal u.place)) (c.front ++ ls) c.stands in
    record { front = b.first ∷ c.front; fits = (b.same, b.kept, c.fits); stands = b.stands }

abbrev pub Nothing_left : List Leaf → Type 0
Nothing_left ls = ls ≡ []

-- what was read begins a module
pub begun_by : (ts : List Leaf) (s : List Symbol) (v : List Value) (ns : List ℕ) → Path start [] ts ns s v → Begins ts
begun_by ts s v ns p =
    let f = fill_all s 0 Nothing_left [] refl in
    let c = completed ts start s [] v ns Nothing_left f.leaves p f.good in
    record { tree = c.stands.part; front = c.front; back = f.leaves; well = c.stands.ok; parts = ap (module_leaves put_leaf 0 c.stands.part) (sym c.stands.goes) ∙ sym c.stands.is; fits = c.fits }

-- and its levels are those of the run
pub levels_begun : (ts : List Leaf) (s : List Symbol) (v : List Value) (ns : List ℕ) → Path start [] ts ns s v → (b : Begins ts) → take (length ts) (levels_of b.tree) ≡ ns
levels_begun ts s v ns p b =
    let m = subst (λ (x : List Leaf). Path start [] x (levels_of b.tree) [] (ModuleR b.tree ∷ [])) b.parts (module_path b.tree b.well) in
    let f = front_of b.front b.back start [] [] (ModuleR b.tree ∷ []) (levels_of b.tree) m in
    ap (λ (n : ℕ). take n (levels_of b.tree)) (sym (fit_length b.front ts b.fits))
    ∙ (only_path ts start f.stack s [] f.seen v (take (length b.front) (levels_of b.tree)) ns (fit_path ts b.front start f.stack [] f.seen (take (length b.front) (levels_of b.tree)) b.fits f.to) p).levels

pub begun_within : (limit : ℕ) (ts : List Leaf) (s : List Symbol) (v : List Value) (ns : List ℕ) → Path start [] ts ns s v → AllWithin limit ns → BeginsWithin limit ts
begun_within limit ts s v ns p w = let b = begun_by ts s v ns p in record { begun = b; within = subst (AllWithin limit) (sym (levels_begun ts s v ns p b)) w }

-- a module that begins so leads over the tokens
pub record Led (ts : List Leaf) (ns : List ℕ) : Type 0 where
  pub stack : List Symbol
  pub seen : List Value
  pub path : Path start [] ts ns stack seen

pub led : (ts : List Leaf) (b : Begins ts) → Led ts (take (length ts) (levels_of b.tree))
led ts b =
    let m = subst (λ (x : List Leaf). Path start [] x (levels_of b.tree) [] (ModuleR b.tree ∷ [])) b.parts (module_path b.tree b.well) in
    let f = front_of b.front b.back start [] [] (ModuleR b.tree ∷ []) (levels_of b.tree) m in
    record { stack = f.stack; seen = f.seen; path = subst (λ (n : ℕ). Path start [] ts (take n (levels_of b.tree)) f.stack f.seen) (fit_length b.front ts b.fits) (fit_path ts b.front start f.stack [] f.seen (take (length b.front) (levels_of b.tree)) b.fits f.to) }

-- Steps of a run over the tokens ahead of the parser.
use Rattle.std.proofs.Common.{◌≡◌, ℕ, zero, suc, ◌+◌, List, [], ◌∷◌, ◌++◌, Bool, true, false, cond, Option, Some, None, Result, Ok, Err, refl, sym, ap, ◌∙◌, subst, append_assoc, arith, length, nat_lt}
use Rattle.std.specs.Prelude.{nat_eq, IsErrAnd}
use Rattle.std.proofs.lemmas.Bool.{ltb-true, ltb-false}
use Rattle.plm_token.specs.declared.token.Token.{Token}
use Rattle.plm_syntax.specs.declared.tree.Position.{Position}
use Rattle.plm_syntax.specs.declared.tree.BinaryOperator.{BinaryOperator}
use Rattle.plm_syntax.specs.declared.tree.BinaryOperator.TheVariants as binary
use Rattle.plm_syntax.specs.declared.cursor.Cursor.{Cursor}
use Rattle.plm_syntax.specs.declared.failure.Failure.{Failure}
use Rattle.plm_syntax.specs.declared.failure.Failure.TheVariants as failure
use Rattle.plm_syntax.specs.Terminal.{Terminal, Finish, Leaf, leaf, leaf_at}
use Rattle.plm_syntax.specs.Inner.Terminal.{is_same}
use Rattle.plm_syntax.specs.Spelling.{binary_sign}
use Rattle.plm_syntax.specs.WellFormed.{precedence_of}
use Rattle.plm_syntax.specs.Faults.{terminal_of}
use Rattle.plm_syntax.specs.Inner.Symbol.{Value, Goal, Precedence, Symbol, depth, Rule, Need, Want, Do, Leave, Refused, Over, Keep, MoreG}
use Rattle.plm_syntax.specs.Inner.Machine.{operand, again, number_of, operator_of, make_binary, operation, more, rule, Move, Stay, Next, Open, feed, Trace, Ended, Wrong, Then, trace, Stop, Refusal, Deep, Reading, run}
use Rattle.plm_syntax.specs.Inner.Parsed.{place_at, stream, ahead, first_of, next_of, Takes, Fails, Arrives}
use Rattle.plm_syntax.proofs.Steps.{ruled, feed_want, over, same_rule}

-- what a run makes of a token
abbrev pub gone : Move → List Leaf → Result Reading Stop
gone m ls = elim m [ Stay ↦ Err (Refusal (length ls)) | Next s' v' ↦ run 64 s' v' ls | Open s' v' ↦ elim (nat_lt 64 (depth s')) [ true ↦ Err (Deep (length ls)) | false ↦ run 64 s' v' ls ] ]

-- ---- a run from its trace

abbrev pub judged : ℕ → Trace → Result Reading Stop
judged n (Ended s v) = Ok (record { awaited = s; read = v })
judged n (Wrong k) = Err (Refusal k)
judged zero (Then d r) = Err (Refusal 0)
judged (suc n) (Then d r) = elim (nat_lt 64 d) [ true ↦ Err (Deep n) | false ↦ judged n r ]

pub run_judged : (s : List Symbol) (v : List Value) (ls : List Leaf) → run 64 s v ls ≡ judged (length ls) (trace s v ls)
run_judged s v [] = refl
run_judged s v (l ∷ ls) = by_move (λ s' v'. run_judged s' v' ls) (feed s v l.terminal l.place)
  where
    by_move : ((s' : List Symbol) (v' : List Value) → run 64 s' v' ls ≡ judged (length ls) (trace s' v' ls)) → (m : Move) → (elim m [ Stay ↦ Err (Refusal (length ls)) | Next s' v' ↦ run 64 s' v' ls | Open s' v' ↦ elim (nat_lt 64 (depth s')) [ true ↦ Err (Deep (length ls)) | false ↦ run 64 s' v' ls ] ])
        ≡ judged (suc (length ls)) (elim m [ Stay ↦ Wrong (length ls) | Next s' v' ↦ Then 0 (trace s' v' ls) | Open s' v' ↦ Then (depth s') (trace s' v' ls) ])
    by_move g Stay = refl
    by_move g (Next s' v') = g s' v'
    by_move g (Open s' v') = ap (λ (o : Result Reading Stop). elim (nat_lt 64 (depth s')) [ true ↦ Err (Deep (length ls)) | false ↦ o ]) (g s' v')

pub as_run : (s s' : List Symbol) (v v' : List Value) (ls : List Leaf) → trace s v ls ≡ trace s' v' ls → run 64 s v ls ≡ run 64 s' v' ls
as_run s s' v v' ls h = run_judged s v ls ∙ ap (judged (length ls)) h ∙ sym (run_judged s' v' ls)

-- ---- at the next token

pub at_front : (c : Cursor) (s s' : List Symbol) (v v' : List Value) → ((l : Leaf) (ls : List Leaf) → l.terminal ≡ next_of c → trace s v (l ∷ ls) ≡ trace s' v' (l ∷ ls)) → run 64 s v (ahead c) ≡ run 64 s' v' (ahead c)
at_front c s s' v v' h = by_tokens c.number c.tokens.now h
  where
    by_tokens : (n : ℕ) (ts : List Token) → ((l : Leaf) (ls : List Leaf) → l.terminal ≡ first_of n ts → trace s v (l ∷ ls) ≡ trace s' v' (l ∷ ls)) → run 64 s v (stream n ts) ≡ run 64 s' v' (stream n ts)
    by_tokens n [] g = as_run s s' v v' (leaf Finish ∷ []) (g (leaf Finish) [] refl)
    by_tokens n (t ∷ ts) g = as_run s s' v v' (stream n (t ∷ ts)) (g (leaf_at (terminal_of t.kind t.text.now (place_at n t)) (place_at n t)) (stream (n + 1) ts) refl)

-- what is left out of sight of the next token
pub quiet : (c : Cursor) (s s' : List Symbol) (v v' : List Value) → ((t : Terminal) (p : Option Position) → feed s v t p ≡ feed s' v' t p) → run 64 s v (ahead c) ≡ run 64 s' v' (ahead c)
quiet c s s' v v' h = by_tokens c.number c.tokens.now
  where
    by_tokens : (n : ℕ) (ts : List Token) → run 64 s v (stream n ts) ≡ run 64 s' v' (stream n ts)
    by_tokens n [] = ap (λ (m : Move). gone m []) (h Finish None)
    by_tokens n (t ∷ ts) = ap (λ (m : Move). gone m (stream (n + 1) ts)) (h (terminal_of t.kind t.text.now (place_at n t)) (Some (place_at n t)))

pub passed_over : (g : Goal) (c : Cursor) (s : List Symbol) (v : List Value) → rule g (next_of c) ≡ Over → run 64 (Want g ∷ s) v (ahead c) ≡ run 64 s v (ahead c)
passed_over g c s v h = at_front c (Want g ∷ s) s v v (λ l ls q. over g s v l ls (ap (rule g) q ∙ h))

pub same_goal : (g g' : Goal) (c : Cursor) (s : List Symbol) (v : List Value) → rule g (next_of c) ≡ rule g' (next_of c) → run 64 (Want g ∷ s) v (ahead c) ≡ run 64 (Want g' ∷ s) v (ahead c)
same_goal g g' c s v h = at_front c (Want g ∷ s) (Want g' ∷ s) v v (λ l ls q. same_rule g g' s v l ls (ap (rule g) q ∙ h ∙ sym (ap (rule g') q)))

pub ahead_length : (n : ℕ) (ts : List Token) → length (stream n ts) ≡ suc (length ts)
ahead_length n [] = refl
ahead_length n (t ∷ ts) = ap suc (ahead_length (n + 1) ts)

-- ---- refusals

stays : (c : Cursor) (s : List Symbol) (v : List Value) → ((p : Option Position) → feed s v (next_of c) p ≡ Stay) → run 64 s v (ahead c) ≡ Err (Refusal (length c.tokens.now))
stays c s v h = by_tokens c.number c.tokens.now h
  where
    by_tokens : (n : ℕ) (ts : List Token) → ((p : Option Position) → feed s v (first_of n ts) p ≡ Stay) → run 64 s v (stream n ts) ≡ Err (Refusal (length ts))
    by_tokens n [] g = ap (λ (m : Move). gone m []) (g None)
    by_tokens n (t ∷ ts) g = ap (λ (m : Move). gone m (stream (n + 1) ts)) (g (Some (place_at n t))) ∙ ap (λ (k : ℕ). let x : Result Reading Stop = Err (Refusal k) in x) (ahead_length (n + 1) ts)

pub refused : (g : Goal) (c : Cursor) (s : List Symbol) (v : List Value) → rule g (next_of c) ≡ Refused → run 64 (Want g ∷ s) v (ahead c) ≡ Err (Refusal (length c.tokens.now))
refused g c s v h = stays c (Want g ∷ s) v (λ p. feed_want g s v (next_of c) p ∙ ap (λ (r : Rule). ruled r s v (next_of c) p) h)

pub need_refused : (t : Terminal) (c : Cursor) (s : List Symbol) (v : List Value) → is_same t (next_of c) ≡ false → run 64 (Need t ∷ s) v (ahead c) ≡ Err (Refusal (length c.tokens.now))
need_refused t c s v h = stays c (Need t ∷ s) v (λ p. ap (λ (b : Bool). cond b (Next s v) Stay) h)

-- ---- a token taken

pub taken : (s : List Symbol) (v : List Value) {c rest : Cursor} {t : Terminal} {p : Position} → Takes c t p rest → run 64 s v (ahead c) ≡ run 64 s v (leaf_at t p ∷ ahead rest)
taken s v h = ap (run 64 s v) h.is

-- a level opened, where there is room, and where there is none
abbrev pub bounded : ℕ → ℕ → Result Reading Stop → Result Reading Stop
bounded d n o = elim (nat_lt 64 d) [ true ↦ Err (Deep n) | false ↦ o ]

pub entered : (d room r n : ℕ) (o : Result Reading Stop) → d + room ≡ 64 → room ≡ suc r → bounded (suc d) n o ≡ o
entered d room r n o h e = by_test (nat_lt 64 (suc d)) refl
  where
    by_test : (b : Bool) → nat_lt 64 (suc d) ≡ b → ◌≡◌ {A = Result Reading Stop} (elim b [ true ↦ Err (Deep n) | false ↦ o ]) o
    by_test true q = absurd (omega (arith, ltb-true 64 (suc d) q))
    by_test false q = refl

pub too_deep : (d room : ℕ) (c : Cursor) (o : Result Reading Stop) → d + room ≡ 64 → room ≡ 0 → bounded (suc d) (length (ahead c)) o ≡ Err (Deep (suc (length c.tokens.now)))
too_deep d room c o h e = by_test (nat_lt 64 (suc d)) refl
  where
    by_test : (b : Bool) → nat_lt 64 (suc d) ≡ b → ◌≡◌ {A = Result Reading Stop} (elim b [ true ↦ Err (Deep (length (ahead c))) | false ↦ o ]) (Err (Deep (suc (length c.tokens.now))))
    by_test true q = ap (λ (k : ℕ). let x : Result Reading Stop = Err (Deep k) in x) (ahead_length c.number c.tokens.now)
    by_test false q = absurd (omega (arith, ltb-false 64 (suc d) q))

-- ---- what a call returned, after a step

pub fails_behind : (f : Failure) {r r' : Result Reading Stop} → r ≡ r' → Fails f r' → Fails f r
fails_behind f e h = subst (Fails f) (sym e) h

pub arrives_behind : {A : Type 0} (part : A → List Value → List Value) (s : List Symbol) (v : List Value) (x : Result (A × Cursor) Failure) {r r' : Result Reading Stop} → r ≡ r' → Arrives part s v x r' → Arrives part s v x r
arrives_behind part s v x e h = subst (Arrives part s v x) (sym e) h

-- ---- operators

pub operator_is : (o : BinaryOperator) → operator_of (binary_sign o) ≡ Some o
operator_is binary.Multiply = refl
operator_is binary.Divide = refl
operator_is binary.Modulo = refl
operator_is binary.Add = refl
operator_is binary.Subtract = refl
operator_is binary.Equal = refl
operator_is binary.NotEqual = refl
operator_is binary.Less = refl
operator_is binary.LessEqual = refl
operator_is binary.Greater = refl
operator_is binary.GreaterEqual = refl
operator_is binary.And = refl
operator_is binary.Or = refl
operator_is binary.ExclusiveOr = refl

more_is : (l : Precedence) (o : BinaryOperator) → nat_eq (precedence_of o) (number_of l) ≡ true → more l (binary_sign o) ≡ Keep false (λ p. operand l ++ (Do (make_binary p o) ∷ again l))
more_is l o h = ap (λ (x : Option BinaryOperator). elim x [ None ↦ Over | Some k ↦ operation l k ]) (operator_is o) ∙ ap (λ (b : Bool). cond b (Keep false (λ p. operand l ++ (Do (make_binary p o) ∷ again l))) Over) h

pub operator_taken : (l : Precedence) (o : BinaryOperator) (p : Position) (s : List Symbol) (v : List Value) (ls : List Leaf) → nat_eq (precedence_of o) (number_of l) ≡ true → run 64 (Want (MoreG l) ∷ s) v (leaf_at (binary_sign o) p ∷ ls) ≡ run 64 (operand l ++ (Do (make_binary p o) ∷ (again l ++ s))) v ls
operator_taken l o p s v ls h =
    ap (λ (m : Move). gone m ls) (feed_want (MoreG l) s v (binary_sign o) (Some p) ∙ ap (λ (r : Rule). ruled r s v (binary_sign o) (Some p)) (more_is l o h))
    ∙ ap (λ (x : List Symbol). run 64 x v ls) (append_assoc (operand l) (Do (make_binary p o) ∷ again l) s)

-- ---- failures of a call

pub failed : {A : Type 0} (part : A → List Value → List Value) (s : List Symbol) (v : List Value) (x : Result (A × Cursor) Failure) (f : Failure) {r r' : Result Reading Stop}
    → IsErrAnd x (λ e. e ≡ f) → r ≡ r' → Fails f r' → Arrives part s v x r
failed part s v (Ok y) f q e h = absurd q
failed part s v (Err g) f {r} {r'} q e h = subst (λ (k : Failure). Fails k r) (sym q) (subst (Fails f) (sym e) h)

-- where memory runs out nothing is promised
pub out_of_memory : {A : Type 0} (part : A → List Value → List Value) (s : List Symbol) (v : List Value) (x : Result (A × Cursor) Failure) (r : Result Reading Stop) → IsErrAnd x (λ e. e ≡ failure.Memory) → Arrives part s v x r
out_of_memory part s v (Ok y) r q = absurd q
out_of_memory part s v (Err f) r q = subst (λ (k : Failure). Fails k r) (sym q) tt

pub refusal : (f : Failure) (c : Cursor) {r : Result Reading Stop} → f ≡ failure.Refused (length c.tokens.now) → r ≡ Err (Refusal (length c.tokens.now)) → Fails f r
refusal f c {r} q e = subst (λ (k : Failure). Fails k r) (sym q) e

pub depth_failure : (f : Failure) (c : Cursor) {r : Result Reading Stop} → f ≡ failure.Deep (suc (length c.tokens.now)) → r ≡ Err (Deep (suc (length c.tokens.now))) → Fails f r
depth_failure f c {r} q e = subst (λ (k : Failure). Fails k r) (sym q) e

pub deeper : (d room r : ℕ) → d + room ≡ 64 → room ≡ suc r → suc d + r ≡ 64
deeper d room r h e = omega (arith, h, e)

-- a part that stands in a level of its own
pub arrives_left : {A : Type 0} (part : A → List Value → List Value) (s : List Symbol) (v : List Value) (x : Result (A × Cursor) Failure) {r r' : Result Reading Stop} → r ≡ r' → Arrives part (Leave ∷ s) v x r' → Arrives part s v x r
arrives_left part s v (Ok y) {r} {r'} e h = e ∙ h ∙ quiet y.1 (Leave ∷ s) s (part y.0 v) (part y.0 v) (λ t p. refl)
arrives_left part s v (Err f) e h = subst (Fails f) (sym e) h

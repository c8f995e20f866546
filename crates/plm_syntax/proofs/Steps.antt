-- One step of a run, and what may follow an expression.
use Rattle.std.proofs.Common.{◌≡◌, ℕ, ◌≤◌, ◌<◌, List, [], ◌∷◌, ◌++◌, Bool, true, false, cond, Option, Some, None, refl, sym, ap, ◌∙◌, append_assoc, arith, length}
use Rattle.plm_token.specs.declared.token.Mark.TheVariants as mark
use Rattle.plm_syntax.specs.declared.tree.Position.{Position}
use Rattle.plm_syntax.specs.declared.tree.BinaryOperator.{BinaryOperator}
use Rattle.plm_syntax.specs.Terminal.{Terminal, Name, Numeral, Text, Key, Sign, Finish, Leaf}
use Rattle.plm_syntax.specs.Inner.Terminal.{is_sign}
use Rattle.plm_syntax.specs.Tree.{no_expressions}
use Rattle.plm_syntax.specs.WellFormed.{precedence_of}
use Rattle.plm_syntax.specs.Inner.Symbol.{Value, Action, Precedence, Goal, Symbol, depth, Rule, behind, otherwise, need, push, ExpressionsR, MoreG, SubscriptsG, MoreSubscriptsG, SelectorG, MemberG, MemberSubscriptG, Want, Do, Leave, Refused, Over, Take, Keep}
use Rattle.plm_syntax.specs.Inner.Machine.{operand, again, number_of, an_expression, operator_of, make_binary, add_expression, set_subscripts, set_member_subscript, operation, more, rule, Move, moved, kept, feed, Trace, trace, Stay, Next, Open, Wrong, Then}
use Rattle.std.specs.Prelude.{nat_eq}
use Rattle.std.proofs.lemmas.Bool.{eqb-true}

-- what a run makes of one token
abbrev pub go : Move → List Leaf → Trace
go Stay ls = Wrong (length ls)
go (Next s v) ls = Then 0 (trace s v ls)
go (Open s v) ls = Then (depth s) (trace s v ls)

pub trace_step : (s : List Symbol) (v : List Value) (l : Leaf) (ls : List Leaf) → trace s v (l ∷ ls) ≡ go (feed s v l.terminal l.place) ls
trace_step s v l ls = by_move (feed s v l.terminal l.place)
  where
    by_move : (m : Move) → (elim m [ Stay ↦ Wrong (length ls) | Next s' v' ↦ Then 0 (trace s' v' ls) | Open s' v' ↦ Then (depth s') (trace s' v' ls) ]) ≡ go m ls
    by_move Stay = refl
    by_move (Next s' v') = refl
    by_move (Open s' v') = refl

pub same_trace : (s s' : List Symbol) (v v' : List Value) (l : Leaf) (ls : List Leaf) → feed s v l.terminal l.place ≡ feed s' v' l.terminal l.place → trace s v (l ∷ ls) ≡ trace s' v' (l ∷ ls)
same_trace s s' v v' l ls h = trace_step s v l ls ∙ ap (λ (m : Move). go m ls) h ∙ sym (trace_step s' v' l ls)

-- what a rule makes of a token
abbrev pub ruled : Rule → List Symbol → List Value → Terminal → Option Position → Move
ruled Refused s v t p = Stay
ruled Over s v t p = feed s v t p
ruled (Take b r) s v t p = moved b (r ++ s) v
ruled (Keep b f) s v t p = kept b f s v p

pub feed_want : (g : Goal) (s : List Symbol) (v : List Value) (t : Terminal) (p : Option Position) → feed (Want g ∷ s) v t p ≡ ruled (rule g t) s v t p
feed_want g s v t p = by_rule (rule g t)
  where
    by_rule : (r : Rule) → (elim r [ Refused ↦ Stay | Over ↦ feed s v t p | Take b r ↦ moved b (r ++ s) v | Keep b f ↦ kept b f s v p ]) ≡ ruled r s v t p
    by_rule Refused = refl
    by_rule Over = refl
    by_rule (Take b r) = refl
    by_rule (Keep b f) = refl

-- a goal that is over before the token
pub over : (g : Goal) (s : List Symbol) (v : List Value) (l : Leaf) (ls : List Leaf) → rule g l.terminal ≡ Over → trace (Want g ∷ s) v (l ∷ ls) ≡ trace s v (l ∷ ls)
over g s v l ls h = same_trace (Want g ∷ s) s v v l ls (feed_want g s v l.terminal l.place ∙ ap (λ (r : Rule). ruled r s v l.terminal l.place) h)

-- two goals with one rule for the token
pub same_rule : (g g' : Goal) (s : List Symbol) (v : List Value) (l : Leaf) (ls : List Leaf) → rule g l.terminal ≡ rule g' l.terminal → trace (Want g ∷ s) v (l ∷ ls) ≡ trace (Want g' ∷ s) v (l ∷ ls)
same_rule g g' s v l ls h = same_trace (Want g ∷ s) (Want g' ∷ s) v v l ls (feed_want g s v l.terminal l.place ∙ ap (λ (r : Rule). ruled r s v l.terminal l.place) h ∙ sym (feed_want g' s v l.terminal l.place))

-- a rule that is not over
abbrev pub IsDecided : Rule → Type 0
IsDecided Over = ⊥
IsDecided r = Unit {0}

pub ruled_behind : (r : Rule) (a s : List Symbol) (v : List Value) (t : Terminal) (p : Option Position) → IsDecided r → ruled (behind r a) s v t p ≡ ruled r (a ++ s) v t p
ruled_behind Refused a s v t p h = refl
ruled_behind Over a s v t p h = absurd h
ruled_behind (Take b r) a s v t p h = ap (λ (x : List Symbol). moved b x v) (append_assoc r a s)
ruled_behind (Keep b f) a s v t None h = refl
ruled_behind (Keep b f) a s v t (Some p) h = ap (λ (x : List Symbol). moved b x v) (append_assoc (f p) a s)

-- a rule that goes on with another where it is over
pub ruled_otherwise : (r r' : Rule) (a s s' : List Symbol) (v : List Value) (t : Terminal) (p : Option Position) → ruled r' s v t p ≡ feed (a ++ s) v t p → ruled (otherwise (behind r a) r') s v t p ≡ ruled r (a ++ s) v t p
ruled_otherwise Refused r' a s s' v t p h = refl
ruled_otherwise Over r' a s s' v t p h = h
ruled_otherwise (Take b r) r' a s s' v t p h = ap (λ (x : List Symbol). moved b x v) (append_assoc r a s)
ruled_otherwise (Keep b f) r' a s s' v t None h = refl
ruled_otherwise (Keep b f) r' a s s' v t (Some p) h = ap (λ (x : List Symbol). moved b x v) (append_assoc (f p) a s)

-- ---- what may follow

-- how tightly a token binds what stands before it: "(" and "." of a reference, operators by their precedence, all else not at all
abbrev pub binds_as : Option BinaryOperator → Terminal → ℕ
binds_as (Some o) t = precedence_of o
binds_as None t = cond (is_sign mark.LeftParenthesis t) 0 (cond (is_sign mark.Period t) 1 8)

abbrev pub binds : Terminal → ℕ
binds t = binds_as (operator_of t) t

-- the next token binds nothing of precedence n or tighter
pub data Stops (n : ℕ) : List Leaf → Type 0 where
  stops : {l : Leaf} {ls : List Leaf} → n < binds l.terminal → Stops n (l ∷ ls)

pub less : {n : ℕ} (m : ℕ) {ls : List Leaf} → m ≤ n → Stops n ls → Stops m ls
less m e (stops h) = stops (omega (arith, e, h))

pub did : {n : ℕ} {ls : List Leaf} (a : Action) (s : List Symbol) (v w : List Value) → Stops n ls → a v ≡ Some w → trace (Do a ∷ s) v ls ≡ trace s w ls
did a s v w (stops {l} {ls} h) e = same_trace (Do a ∷ s) s v w l ls (by_option (a v) e)
  where
    by_option : (o : Option (List Value)) → o ≡ Some w → (elim o [ None ↦ Stay | Some x ↦ feed s x l.terminal l.place ]) ≡ feed s w l.terminal l.place
    by_option None e = absurd cc
    by_option (Some x) e = let is : x ≡ w = cc in ap (λ (y : List Value). feed s y l.terminal l.place) is

pub left : {n : ℕ} {ls : List Leaf} (s : List Symbol) (v : List Value) → Stops n ls → trace (Leave ∷ s) v ls ≡ trace s v ls
left s v (stops {l} {ls} h) = same_trace (Leave ∷ s) s v v l ls refl

pub operation_over : (l : Precedence) (o : BinaryOperator) → number_of l < precedence_of o → operation l o ≡ Over
operation_over l o h = by_test (nat_eq (precedence_of o) (number_of l)) refl
  where
    by_test : (b : Bool) → nat_eq (precedence_of o) (number_of l) ≡ b → operation l o ≡ Over
    by_test false e = ap (λ (b : Bool). cond b (Keep false (λ p. operand l ++ (Do (make_binary p o) ∷ again l))) Over) e
    by_test true e = absurd (omega (arith, h, eqb-true (precedence_of o) (number_of l) e))

pub more_over : (l : Precedence) (t : Terminal) → number_of l < binds t → more l t ≡ Over
more_over l t h = by_operator (operator_of t) h
  where
    by_operator : (o : Option BinaryOperator) → number_of l < binds_as o t → (elim o [ None ↦ Over | Some o ↦ operation l o ]) ≡ Over
    by_operator None h = refl
    by_operator (Some o) h = operation_over l o h

pub no_more : {ls : List Leaf} (l : Precedence) (s : List Symbol) (v : List Value) → Stops (number_of l) ls → trace (Want (MoreG l) ∷ s) v ls ≡ trace s v ls
no_more l s v (stops {l = k} {ls} h) = over (MoreG l) s v k ls (more_over l k.terminal h)

pub no_parenthesis : (t : Terminal) → 0 < binds t → is_sign mark.LeftParenthesis t ≡ false
no_parenthesis (Sign mark.LeftParenthesis) h = absurd (omega (arith, h))
no_parenthesis (Name n) h = refl
no_parenthesis (Numeral n) h = refl
no_parenthesis (Text n) h = refl
no_parenthesis (Key n) h = refl
no_parenthesis Finish h = refl
no_parenthesis (Sign m) h = refl

pub no_period : (t : Terminal) → 1 < binds t → is_sign mark.Period t ≡ false
no_period (Sign mark.Period) h = absurd (omega (arith, h))
no_period (Name n) h = refl
no_period (Numeral n) h = refl
no_period (Text n) h = refl
no_period (Key n) h = refl
no_period Finish h = refl
no_period (Sign m) h = refl

pub no_subscripts : {ls : List Leaf} (s : List Symbol) (v : List Value) → Stops 0 ls → trace (Want SubscriptsG ∷ s) v ls ≡ trace s v ls
no_subscripts s v (stops {l} {ls} h) = over SubscriptsG s v l ls (ap (λ (b : Bool). cond b (Take true (push (ExpressionsR no_expressions) ∷ an_expression (Do add_expression ∷ Want MoreSubscriptsG ∷ Leave ∷ Do set_subscripts ∷ []))) Over) (no_parenthesis l.terminal h))

pub no_selector : {ls : List Leaf} (s : List Symbol) (v : List Value) → Stops 1 ls → trace (Want SelectorG ∷ s) v ls ≡ trace s v ls
no_selector s v (stops {l} {ls} h) = over SelectorG s v l ls (ap (λ (b : Bool). cond b (Take false (Want MemberG ∷ [])) Over) (no_period l.terminal h))

pub no_member_subscript : {ls : List Leaf} (s : List Symbol) (v : List Value) → Stops 0 ls → trace (Want MemberSubscriptG ∷ s) v ls ≡ trace s v ls
no_member_subscript s v (stops {l} {ls} h) = over MemberSubscriptG s v l ls (ap (λ (b : Bool). cond b (Take true (an_expression (need mark.RightParenthesis ∷ Leave ∷ Do set_member_subscript ∷ []))) Over) (no_parenthesis l.terminal h))

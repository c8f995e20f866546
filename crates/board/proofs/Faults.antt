-- Which fault a text has: the fold over its lines against the format's own terms.
use Rattle.std.proofs.lemmas.Bool.{ltb-false, or_parts, and_parts}
use Rattle.std.proofs.lemmas.Option.{same_Some, none-some}
use Rattle.std.proofs.Common.{◌≡◌, ◌∙◌, ℕ, suc, ◌+◌, ◌-◌, ◌^◌, ◌≤◌, ◌++◌, ◌==◌, min, max, Bool, true, false, cond, List, [], ◌∷◌, Option, Some, None, length, refl, sym, ap, ap₂, subst, arith, inl, inr, ◌⊎◌, append_assoc, append-nil, true≢false}
use Rattle.std.specs.Prelude.{not, ◌&&◌, ◌||◌, nat_lt, nat_le, is_some, map, if◌then◌else◌}
use Rattle.std.specs.List.{list_any}
use Rattle.std.proofs.lemmas.Bool.Decides.{nat_tests}
use Rattle.std.proofs.lemmas.List.Folds.{list_any-append}
use Rattle.std.proofs.lemmas.List.Sums.{fold-append}
use Rattle.std.proofs.Math.Bool.{or-true, or-false}
use Rattle.word86.specs.declared.fault.Fault.{Fault}
use Rattle.word86.specs.declared.fault.Fault.TheVariants.{At as Fault-At}
use Rattle.word86.specs.declared.number.Number.{Number}
use Rattle.word86.specs.declared.number.Number.TheVariants.{E701, E702, E703}
use Rattle.board.specs.declared.reading.Item.{Item}
use Rattle.board.specs.declared.reading.Item.TheVariants.{Fill, At, Stop}
use Rattle.board.specs.Timetable.{last_turn}
use Rattle.board.specs.Schedule.{Text, View, item_of, is_skipped, start, with_item, with_line, fault_of, fault_from, failed}
use Rattle.board.specs.Spelling.{said}
use Rattle.board.specs.Format.{IsLineOf, forbids, is_out_of_order, AreInOrder, Spell, Say, is_stop, line_number, HasFault, NoItem, OutOfOrder, NoStop}
use Rattle.board.proofs.LineForms.{line_is, line_from, no_line}
use Rattle.board.proofs.Spelled.{Core, core, bad, add, adds, Goes, after, counted, with_core, refused_item, cons_nil, head_same, tail_same, line_skipped, line_said, line_taken, stuck, forward, backward, middle, grown, last_append}

-- ---- items out of order

-- a test that a second one implies
with_implied : (s y x : Bool) → (y ≡ true → x ≡ true) → (s || x) ≡ ((s || y) || x)
with_implied true y x h = refl
with_implied false true x h = h refl
with_implied false false x h = refl

-- the last turn is not above this one, where one stands before
last_below : (ts : List ℕ) (m : ℕ) → (not (length ts == 0) && nat_lt m (last_turn ts)) ≡ false → not (length ts == 0) ≡ true → last_turn ts ≤ m
last_below ts m h some = ltb-false m (last_turn ts) (ap (λ t. t && nat_lt m (last_turn ts)) (sym some) ∙ h)

below_too : (n l m : ℕ) → nat_lt n l ≡ true → l ≤ m → nat_lt n m ≡ true
below_too n l m e le = grind (arith, nat_tests)

up_to_too : (n l m : ℕ) → nat_le n l ≡ true → l ≤ m → nat_le n m ≡ true
up_to_too n l m e le = grind (arith, nat_tests)

at_forbids : (ts : List ℕ) (m n : ℕ) → (not (length ts == 0) && nat_lt m (last_turn ts)) ≡ false → (not (length ts == 0) && nat_lt n (last_turn ts)) ≡ true → nat_lt n m ≡ true
at_forbids ts m n h e =
    below_too n (last_turn ts) m (and_parts (not (length ts == 0)) (nat_lt n (last_turn ts)) e).1 (last_below ts m h (and_parts (not (length ts == 0)) (nat_lt n (last_turn ts)) e).0)

stop_forbids : (ts : List ℕ) (m n : ℕ) → (not (length ts == 0) && nat_lt m (last_turn ts)) ≡ false → (not (length ts == 0) && nat_le n (last_turn ts)) ≡ true → nat_le n m ≡ true
stop_forbids ts m n h e =
    up_to_too n (last_turn ts) m (and_parts (not (length ts == 0)) (nat_le n (last_turn ts)) e).1 (last_below ts m h (and_parts (not (length ts == 0)) (nat_le n (last_turn ts)) e).0)

-- one more item makes just that out of order which it forbids
bad_next : (z x : Item) (c : Core) → bad z c ≡ false → bad x (add z c) ≡ (bad x c || forbids z x)
bad_next (Fill b) (Fill d) c h = sym (or-true (bad (Fill d) c))
bad_next (Fill b) (At n e) c h = sym (or-false (bad (At n e) c))
bad_next (Fill b) (Stop n) c h = sym (or-false (bad (Stop n) c))
bad_next (At m d) (Fill b) c h =
    (ap (λ t. is_some c.fill || is_some c.stop || t) (grown c.turns m) ∙ or-true (is_some c.fill || is_some c.stop)) ∙ sym (or-true (bad (Fill b) c))
bad_next (At m d) (At n e) c h =
    ap (λ t. is_some c.stop || (t && nat_lt n (last_turn (c.turns ++ m ∷ [])))) (grown c.turns m)
    ∙ (ap (λ k. is_some c.stop || nat_lt n k) (last_append c.turns m)
    ∙ with_implied (is_some c.stop) (not (length c.turns == 0) && nat_lt n (last_turn c.turns)) (nat_lt n m) (at_forbids c.turns m n (or_parts (is_some c.stop) (not (length c.turns == 0) && nat_lt m (last_turn c.turns)) h).1))
bad_next (At m d) (Stop n) c h =
    ap (λ t. is_some c.stop || (t && nat_le n (last_turn (c.turns ++ m ∷ [])))) (grown c.turns m)
    ∙ (ap (λ k. is_some c.stop || nat_le n k) (last_append c.turns m)
    ∙ with_implied (is_some c.stop) (not (length c.turns == 0) && nat_le n (last_turn c.turns)) (nat_le n m) (stop_forbids c.turns m n (or_parts (is_some c.stop) (not (length c.turns == 0) && nat_lt m (last_turn c.turns)) h).1))
bad_next (Stop m) (Fill b) c h = middle (is_some c.fill) true (not (length c.turns == 0)) refl ∙ sym (or-true (bad (Fill b) c))
bad_next (Stop m) (At n e) c h = sym (or-true (bad (At n e) c))
bad_next (Stop m) (Stop n) c h = sym (or-true (bad (Stop n) c))

-- what was read stands for these items: the same is out of order
abbrev Tied : List Item → Core → Type 0
Tied earlier c = (x : Item) → bad x c ≡ is_out_of_order earlier x

tied_start : Tied [] (core start)
tied_start (Fill b) = refl
tied_start (At n e) = refl
tied_start (Stop n) = refl

tied_next : (earlier : List Item) (z : Item) (c : Core) → Tied earlier c → bad z c ≡ false → Tied (earlier ++ z ∷ []) (add z c)
tied_next earlier z c t h x =
    bad_next z x c h
    ∙ (ap (λ b. b || forbids z x) (t x)
    ∙ (ap (λ b. is_out_of_order earlier x || b) (sym (or-false (forbids z x)))
    ∙ sym (list_any-append (λ y. forbids y x) earlier (z ∷ []))))

record Ordered (items earlier : List Item) (c : Core) : Type 0 where
  goes : Goes items c
  tied : Tied (earlier ++ items) (adds items c)

goes_of : (items earlier : List Item) (c : Core) → Tied earlier c → AreInOrder earlier items → Ordered items earlier c
goes_of [] earlier c t h = record { goes = tt; tied = subst (λ (l : List Item). Tied l c) (sym (append-nil earlier)) t }
goes_of (x ∷ xs) earlier c t h =
    let fits : bad x c ≡ false = t x ∙ h.0 in
    let r = goes_of xs (earlier ++ x ∷ []) (add x c) (tied_next earlier x c t fits) h.1 in
    record { goes = (fits, r.goes); tied = subst (λ (l : List Item). Tied l (adds xs (add x c))) (append_assoc earlier (x ∷ []) xs) r.tied }

order_of : (items earlier : List Item) (c : Core) → Tied earlier c → Goes items c → AreInOrder earlier items
order_of [] earlier c t g = tt
order_of (x ∷ xs) earlier c t g = (sym (t x) ∙ g.0, order_of xs (earlier ++ x ∷ []) (add x c) (tied_next earlier x c t g.0) g.1)

-- ---- lines and items

read_of : (ls : List Text) (xs : List Item) → Spell ls xs → map item_of ls ≡ map Some xs
read_of [] [] h = refl
read_of [] (x ∷ xs) h = absurd h
read_of (l ∷ ls) [] h = absurd h
read_of (l ∷ ls) (x ∷ xs) h = ap₂ (λ (o : Option Item) (os : List (Option Item)). o ∷ os) (line_from x l h.0) (read_of ls xs h.1)

spell_of : (ls : List Text) (xs : List Item) → map item_of ls ≡ map Some xs → Spell ls xs
spell_of [] [] h = tt
spell_of [] (x ∷ xs) h = cons_nil _ _ (sym h)
spell_of (l ∷ ls) [] h = cons_nil _ _ h
spell_of (l ∷ ls) (x ∷ xs) h = (line_is l x (head_same _ _ _ _ h), spell_of ls xs (tail_same _ _ _ _ h))

-- ---- the number of a line

abbrev cap : ℕ
cap = 2 ^ 32 - 1

either_line : (t : Bool) (a b : View) (n : ℕ) → a.line ≡ n → b.line ≡ n → (if t then a else b).line ≡ n
either_line true a b n e f = e
either_line false a b n e f = f

item_line : (o : Option Item) (v : View) → (with_item o v).line ≡ v.line
item_line None v = refl
item_line (Some (Fill b)) v = either_line (is_some v.fill || is_some v.stop || not (length v.turns == 0)) (failed E702 v) (record v { fill = Some b }) v.line refl refl
item_line (Some (At n e)) v = either_line (is_some v.stop || (not (length v.turns == 0) && nat_lt n (last_turn v.turns))) (failed E702 v) (record v { turns = v.turns ++ n ∷ []; events = v.events ++ e ∷ [] }) v.line refl refl
item_line (Some (Stop n)) v = either_line (is_some v.stop || (not (length v.turns == 0) && nat_le n (last_turn v.turns))) (failed E702 v) (record v { stop = Some n }) v.line refl refl

line_counted : (t : Bool) (l : Text) (v : View) → v.fault ≡ None → is_skipped l ≡ t → (with_line v l).line ≡ min (v.line + 1) cap
line_counted true l v none e = ap (λ (u : View). u.line) (line_skipped l v none e)
line_counted false l v none e = ap (λ (u : View). u.line) (line_said l v none e) ∙ item_line (item_of l) (counted v)

fault_before : (o : Option (ℕ × Number)) (ls : List Text) (u : View) → u.fault ≡ o → (after ls u).fault ≡ None → o ≡ None
fault_before None ls u e h = refl
fault_before (Some f) ls u e h = absurd (none-some f (sym h ∙ (ap (λ (x : View). x.fault) (stuck ls u (ap is_some e)) ∙ e)))

capped : (a b n m c : ℕ) → b ≡ min (a + 1) c → m ≡ suc n → min (b + n) c ≡ min (a + m) c
capped a b n m c e f = omega (arith, e, f)

small : (a c : ℕ) → min (a + 1) c ≤ c
small a c = omega arith

no_more : (a c : ℕ) → a ≤ c → a ≡ min (a + 0) c
no_more a c le = omega (arith, le)

lines_counted : (ls : List Text) (v : View) → v.line ≤ cap → v.fault ≡ None → (after ls v).fault ≡ None → (after ls v).line ≡ min (v.line + length ls) cap
lines_counted [] v le none end = no_more v.line cap le
lines_counted (l ∷ ls) v le none end =
    let u = with_line v l in
    let n = line_counted (is_skipped l) l v none refl in
    let fine = fault_before u.fault ls u refl end in
    lines_counted ls u (subst (λ k. k ≤ cap) (sym n) (small v.line cap)) fine end ∙ capped v.line u.line (length ls) (length (l ∷ ls)) cap n (let one : length (l ∷ ls) ≡ suc (length ls) = omega arith in one)

-- ---- from the format's terms to what is read

record Passed (before : List Text) (items : List Item) : Type 0 where
  no_fault : (after before start).fault ≡ None
  read : core (after before start) ≡ adds items (core start)
  tied : Tied items (core (after before start))
  line : (after before start).line ≡ line_number (length before)

from_zero : (n c : ℕ) → min (0 + n) c ≡ min n c
from_zero n c = omega arith

zero_capped : 0 ≤ cap
zero_capped = omega arith

passed : (before : List Text) (items : List Item) → Say before items → Passed before items
passed before items h =
    let o = goes_of items [] (core start) tied_start h.in_order in
    let r = forward before start items (read_of (said before) items h.spelled) refl o.goes in
    record {
      no_fault = r.0;
      read = r.1;
      tied = subst (Tied items) (sym r.1) o.tied;
      line = lines_counted before start zero_capped refl r.0 ∙ from_zero (length before) cap;
    }

line_after : (a n c : ℕ) → a ≡ min n c → min (a + 1) c ≡ min (n + 1) c
line_after a n c e = omega (arith, e)

-- a line after these that fails, and what is read then
fails_at : (before : List Text) (l : Text) (rest : List Text) (items : List Item) (number : Number) → Passed before items → is_skipped l ≡ false → with_item (item_of l) (counted (after before start)) ≡ failed number (counted (after before start)) → fault_of (after (before ++ (l ∷ rest)) start) ≡ Some (Fault-At 0 (line_number (length before + 1)) number)
fails_at before l rest items number p shown e =
    let v = after before start in
    let u = failed number (counted v) in
    let all : after (before ++ (l ∷ rest)) start ≡ u =
    fold-append with_line start before (l ∷ rest) ∙ (ap (after rest) (line_said l v p.no_fault shown ∙ e) ∙ stuck rest u refl) in
    ap fault_of all ∙ ap (λ n. Some (Fault-At 0 n number)) (line_after v.line (length before) cap p.line)

no_stop : (xs : List Item) (c : Core) → c.stop ≡ None → list_any is_stop xs ≡ false → (adds xs c).stop ≡ None
no_stop [] c none h = none
no_stop (Fill b ∷ xs) c none h = no_stop xs (add (Fill b) c) none h
no_stop (At n e ∷ xs) c none h = no_stop xs (add (At n e) c) none h
no_stop (Stop n ∷ xs) c none h = absurd (true≢false h)

pub answered : (lines : List Text) (line : ℕ) (number : Number) → HasFault lines line number → fault_of (after lines start) ≡ Some (Fault-At 0 line number)
answered lines line number (NoItem before l rest items is said shown none) =
    let p = passed before items said in
    ap (λ (ls : List Text). fault_of (after ls start)) is
    ∙ fails_at before l rest items E701 p shown (ap (λ (o : Option Item). with_item o (counted (after before start))) (no_line (item_of l) l refl none))
answered lines line number (OutOfOrder before l rest items x is said shown spelled out) =
    let p = passed before items said in
    ap (λ (ls : List Text). fault_of (after ls start)) is
    ∙ fails_at before l rest items E702 p shown
    (ap (λ (o : Option Item). with_item o (counted (after before start))) (line_from x l spelled) ∙ refused_item x (counted (after before start)) (p.tied x ∙ out))
answered lines line number (NoStop items said none) =
    let p = passed lines items said in
    let stop : (after lines start).stop ≡ None = ap (λ (c : Core). c.stop) p.read ∙ no_stop items (core start) refl none in
    ap₂ (fault_from (after lines start).line) p.no_fault stop ∙ ap (λ n. Some (Fault-At 0 (max n 1) E703)) p.line

-- ---- the other way

-- the first line that fails, after lines that say items
record Broken (ls : List Text) (v : View) (earlier : List Item) (g : ℕ × Number) : Type 0 where
  before : List Text
  l : Text
  rest : List Text
  items : List Item
  lines : ls ≡ before ++ (l ∷ rest)
  spelled : Spell (said before) items
  in_order : AreInOrder earlier items
  shown : is_skipped l ≡ false
  line : g.0 ≡ min (v.line + (length before + 1)) cap
  why : ((item_of l ≡ None) × (g.1 ≡ E701)) ⊎ ((x : Item) × (item_of l ≡ Some x) × (is_out_of_order (earlier ++ items) x ≡ true) × (g.1 ≡ E702))

abbrev Breaks : List Text → Type 0
Breaks ls = (v : View) (earlier : List Item) (g : ℕ × Number) → v.fault ≡ None → Tied earlier (core v) → (after ls v).fault ≡ Some g → Broken ls v earlier g

pair_same : (g : ℕ × Number) (n : ℕ) (k : Number) → Some (n, k) ≡ Some g → (g.0 ≡ n) × (g.1 ≡ k)
pair_same g n k e = let same : (n, k) ≡ g = cc in (sym (ap (λ (p : ℕ × Number). p.0) same), sym (ap (λ (p : ℕ × Number). p.1) same))

-- it fails at once
here : (l : Text) (ls : List Text) (v : View) (g : ℕ × Number) (number : Number) → v.fault ≡ None → is_skipped l ≡ false → with_item (item_of l) (counted v) ≡ failed number (counted v) → (after (l ∷ ls) v).fault ≡ Some g → (g.0 ≡ min (v.line + 1) cap) × (g.1 ≡ number)
here l ls v g number none e same end =
    let u = failed number (counted v) in
    let all : after (l ∷ ls) v ≡ u = ap (after ls) (line_said l v none e ∙ same) ∙ stuck ls u refl in
    pair_same g (min (v.line + 1) cap) number (sym (ap (λ (x : View). x.fault) all) ∙ end)

alone : (a c n : ℕ) → n ≡ min (a + 1) c → n ≡ min (a + (0 + 1)) c
alone a c n e = omega (arith, e)

further : (a b n m c g : ℕ) → b ≡ min (a + 1) c → m ≡ suc n → g ≡ min (b + (n + 1)) c → g ≡ min (a + (m + 1)) c
further a b n m c g e f h = omega (arith, e, f, h)

length_next : (l : Text) (ls : List Text) → length (l ∷ ls) ≡ suc (length ls)
length_next l ls = omega arith

breaks_item : (b : Bool) (l : Text) (ls : List Text) (x : Item) → Breaks ls → is_skipped l ≡ false → item_of l ≡ Some x → (v : View) (earlier : List Item) (g : ℕ × Number) → bad x (core v) ≡ b → v.fault ≡ None → Tied earlier (core v) → (after (l ∷ ls) v).fault ≡ Some g → Broken (l ∷ ls) v earlier g
breaks_item true l ls x more e i v earlier g out none t end =
    let h = here l ls v g E702 none e (ap (λ o. with_item o (counted v)) i ∙ refused_item x (counted v) out) end in
    record {
      before = [];
      l = l;
      rest = ls;
      items = [];
      lines = refl;
      spelled = tt;
      in_order = tt;
      shown = e;
      line = alone v.line cap g.0 h.0;
      why = inr (x, i, ap (λ (k : List Item). is_out_of_order k x) (append-nil earlier) ∙ (sym (t x) ∙ out), h.1);
    }
breaks_item false l ls x more e i v earlier g fits none t end =
    let u = with_core (add x (core v)) (counted v) in
    let w = line_taken l v x none e i fits in
    let r = more u (earlier ++ x ∷ []) g none (tied_next earlier x (core v) t fits) (sym (ap (λ (y : View). (after ls y).fault) w) ∙ end) in
    record {
      before = l ∷ r.before;
      l = r.l;
      rest = r.rest;
      items = x ∷ r.items;
      lines = ap (λ (k : List Text). l ∷ k) r.lines;
      spelled = subst (λ s. Spell (cond (not s) (l ∷ said r.before) (said r.before)) (x ∷ r.items)) (sym e) (line_is l x i, r.spelled);
      in_order = (sym (t x) ∙ fits, r.in_order);
      shown = r.shown;
      line = further v.line u.line (length r.before) (length (l ∷ r.before)) cap g.0 refl (length_next l r.before) r.line;
      why = elim r.why [
        | inl none ↦ inl none
        | inr some ↦ inr (some.0, some.1, ap (λ (k : List Item). is_out_of_order k some.0) (sym (append_assoc earlier (x ∷ []) r.items)) ∙ some.2, some.3)
      ];
    }

breaks_said : (o : Option Item) (l : Text) (ls : List Text) → Breaks ls → is_skipped l ≡ false → item_of l ≡ o → (v : View) (earlier : List Item) (g : ℕ × Number) → v.fault ≡ None → Tied earlier (core v) → (after (l ∷ ls) v).fault ≡ Some g → Broken (l ∷ ls) v earlier g
breaks_said None l ls more e i v earlier g none t end =
    let h = here l ls v g E701 none e (ap (λ o. with_item o (counted v)) i) end in
    record {
      before = [];
      l = l;
      rest = ls;
      items = [];
      lines = refl;
      spelled = tt;
      in_order = tt;
      shown = e;
      line = alone v.line cap g.0 h.0;
      why = inl (i, h.1);
    }
breaks_said (Some x) l ls more e i v earlier g none t end = breaks_item (bad x (core v)) l ls x more e i v earlier g refl none t end

breaks_line : (t : Bool) (l : Text) (ls : List Text) → Breaks ls → is_skipped l ≡ t → (v : View) (earlier : List Item) (g : ℕ × Number) → v.fault ≡ None → Tied earlier (core v) → (after (l ∷ ls) v).fault ≡ Some g → Broken (l ∷ ls) v earlier g
breaks_line true l ls more e v earlier g none t end =
    let w = line_skipped l v none e in
    let r = more (counted v) earlier g none t (sym (ap (λ (y : View). (after ls y).fault) w) ∙ end) in
    record {
      before = l ∷ r.before;
      l = r.l;
      rest = r.rest;
      items = r.items;
      lines = ap (λ (k : List Text). l ∷ k) r.lines;
      spelled = subst (λ s. Spell (cond (not s) (l ∷ said r.before) (said r.before)) r.items) (sym e) r.spelled;
      in_order = r.in_order;
      shown = r.shown;
      line = further v.line (counted v).line (length r.before) (length (l ∷ r.before)) cap g.0 refl (length_next l r.before) r.line;
      why = r.why;
    }
breaks_line false l ls more e v earlier g none t end = breaks_said (item_of l) l ls more e refl v earlier g none t end

breaks : (ls : List Text) → Breaks ls
breaks [] v earlier g none t end = absurd (none-some g (sym none ∙ end))
breaks (l ∷ ls) v earlier g none t end = breaks_line (is_skipped l) l ls (breaks ls) refl v earlier g none t end

-- a fault with its line and number, in the format's terms
abbrev Has : List Text → Fault → Type 0
Has lines f = (line : ℕ) × (number : Number) × (f ≡ Fault-At 0 line number) × HasFault lines line number

nothing_spelled : (l : Text) → item_of l ≡ None → (x : Item) → IsLineOf x l → ⊥
nothing_spelled l none x h = none-some x (sym none ∙ line_from x l h)

line_from_zero : (n k c : ℕ) → n ≡ min (0 + k) c → n ≡ min k c
line_from_zero n k c e = omega (arith, e)

broken_has : (lines : List Text) (g : ℕ × Number) → Broken lines start [] g → Has lines (Fault-At 0 g.0 g.1)
broken_has lines g b =
    let at : g.0 ≡ line_number (length b.before + 1) = line_from_zero g.0 (length b.before + 1) cap b.line in
    let said : Say b.before b.items = record { spelled = b.spelled; in_order = b.in_order } in
    elim b.why [
      | inl none ↦ (line_number (length b.before + 1), E701, ap₂ (λ n k. Fault-At 0 n k) at none.1, NoItem b.before b.l b.rest b.items b.lines said b.shown (nothing_spelled b.l none.0))
      | inr some ↦ (line_number (length b.before + 1), E702, ap₂ (λ n k. Fault-At 0 n k) at some.3, OutOfOrder b.before b.l b.rest b.items some.0 b.lines said b.shown (line_is b.l some.0 some.1) some.2)
    ]

stop_kept : (xs : List Item) (c : Core) → (adds xs c).stop ≡ None → c.stop ≡ None
stop_kept [] c h = h
stop_kept (Fill b ∷ xs) c h = stop_kept xs (add (Fill b) c) h
stop_kept (At n e ∷ xs) c h = stop_kept xs (add (At n e) c) h
stop_kept (Stop n ∷ xs) c h = absurd (none-some n (sym (stop_kept xs (add (Stop n) c) h)))

stop_missing : (xs : List Item) (c : Core) → (adds xs c).stop ≡ None → list_any is_stop xs ≡ false
stop_missing [] c h = refl
stop_missing (Fill b ∷ xs) c h = stop_missing xs (add (Fill b) c) h
stop_missing (At n e ∷ xs) c h = stop_missing xs (add (At n e) c) h
stop_missing (Stop n ∷ xs) c h = absurd (none-some n (sym (stop_kept xs (add (Stop n) c) h)))

moved : (lines : List Text) (f g : Fault) → Has lines f → Some f ≡ Some g → Has lines g
moved lines f g h e = (h.0, h.1, sym (same_Some f g e) ∙ h.2, h.3)

ended_has : (lines : List Text) → (after lines start).fault ≡ None → (after lines start).stop ≡ None → Has lines (Fault-At 0 (max (after lines start).line 1) E703)
ended_has lines none stop =
    let r = backward lines start refl none in
    let said : Say lines r.items = record { spelled = spell_of (said lines) r.items r.lines; in_order = order_of r.items [] (core start) tied_start r.goes } in
    let line = lines_counted lines start zero_capped refl none ∙ from_zero (length lines) cap in (
      max (line_number (length lines)) 1,
      E703,
      ap (λ n. Fault-At 0 (max n 1) E703) line,
      NoStop r.items said (stop_missing r.items (core start) (sym (ap (λ (c : Core). c.stop) r.all) ∙ stop)),
    )

has_of : (o : Option (ℕ × Number)) (s : Option ℕ) (lines : List Text) (f : Fault) → (after lines start).fault ≡ o → (after lines start).stop ≡ s → fault_from (after lines start).line o s ≡ Some f → Has lines f
has_of (Some g) s lines f e d h = moved lines (Fault-At 0 g.0 g.1) f (broken_has lines g (breaks lines start [] g refl tied_start e)) h
has_of None None lines f e d h = moved lines (Fault-At 0 (max (after lines start).line 1) E703) f (ended_has lines e d) h
has_of None (Some n) lines f e d h = absurd (none-some f h)

pub has : (lines : List Text) (f : Fault) → fault_of (after lines start) ≡ Some f → Has lines f
has lines f h = has_of (after lines start).fault (after lines start).stop lines f refl refl h

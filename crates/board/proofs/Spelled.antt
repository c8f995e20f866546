-- A text is read without a fault exactly where it spells a schedule.
use Rattle.std.proofs.lemmas.Bool.{lt-leb, le-ltb, leb-false, ltb-false, and_right, or_right, or_parts}
use Rattle.std.proofs.lemmas.Option.{none-some, same_Some}
use Rattle.std.proofs.Common.{◌≡◌, ◌∙◌, ℕ, ◌+◌, ◌-◌, ◌^◌, ◌<◌, ◌≤◌, ◌++◌, ◌==◌, min, Bool, true, false, cond, List, [], ◌∷◌, Option, Some, None, length, refl, sym, ap, ap₂, subst, arith, inl, inr, ◌⊎◌, append_assoc, append-nil, length-append, true≢false}
use Rattle.std.specs.Prelude.{not, ◌&&◌, ◌||◌, nat_lt, nat_le, is_some, map, fold, slice_index, if◌then◌else◌}
use Rattle.std.proofs.lemmas.Bool.Decides.{nat_tests}
use Rattle.word86.specs.declared.event.Event.{Event}
use Rattle.word86.specs.declared.number.Number.{Number}
use Rattle.word86.specs.declared.number.Number.TheVariants.{E702}
use Rattle.std.proofs.Math.Seq.{get_or-append_seam}
use Rattle.board.specs.declared.reading.Item.{Item}
use Rattle.board.specs.declared.reading.Item.TheVariants.{Fill, At, Stop}
use Rattle.board.specs.Timetable.{last_turn}
use Rattle.board.specs.Schedule.{Text, View, item_of, is_skipped, start, with_item, with_line, read_lines, fault_of, fault_from, failed}
use Rattle.board.specs.Spelling.{Due, Plan, fill_items, items_of, IsInOrder, said, lines_in, Spells, IsPlan}

-- what is read so far but for lines and faults
pub record Core : Type 0 where
  pub fill : Option ℕ
  pub turns : List ℕ
  pub events : List Event
  pub stop : Option ℕ

abbrev pub core : View → Core
core v = record { fill = v.fill; turns = v.turns; events = v.events; stop = v.stop }

-- the item is out of order
abbrev pub bad : Item → Core → Bool
bad (Fill b) c = is_some c.fill || is_some c.stop || not (length c.turns == 0)
bad (At n e) c = is_some c.stop || (not (length c.turns == 0) && nat_lt n (last_turn c.turns))
bad (Stop n) c = is_some c.stop || (not (length c.turns == 0) && nat_le n (last_turn c.turns))

abbrev pub add : Item → Core → Core
add (Fill b) c = record c { fill = Some b }
add (At n e) c = record c { turns = c.turns ++ n ∷ []; events = c.events ++ e ∷ [] }
add (Stop n) c = record c { stop = Some n }

abbrev pub adds : List Item → Core → Core
adds [] c = c
adds (x ∷ xs) c = adds xs (add x c)

abbrev pub Goes : List Item → Core → Type 0
Goes [] c = Unit {0}
Goes (x ∷ xs) c = (bad x c ≡ false) × Goes xs (add x c)

taken_item : (x : Item) (v : View) → bad x (core v) ≡ false → with_item (Some x) v ≡ (let u : View = record { fill = (add x (core v)).fill; turns = (add x (core v)).turns; events = (add x (core v)).events; stop = (add x (core v)).stop; line = v.line; fault = v.fault } in u)
taken_item (Fill b) v e = ap (λ t. if t then failed E702 v else record v { fill = Some b }) e
taken_item (At n d) v e = ap (λ t. if t then failed E702 v else record v { turns = v.turns ++ n ∷ []; events = v.events ++ d ∷ [] }) e
taken_item (Stop n) v e = ap (λ t. if t then failed E702 v else record v { stop = Some n }) e

pub refused_item : (x : Item) (v : View) → bad x (core v) ≡ true → with_item (Some x) v ≡ failed E702 v
refused_item (Fill b) v e = ap (λ t. if t then failed E702 v else record v { fill = Some b }) e
refused_item (At n d) v e = ap (λ t. if t then failed E702 v else record v { turns = v.turns ++ n ∷ []; events = v.events ++ d ∷ [] }) e
refused_item (Stop n) v e = ap (λ t. if t then failed E702 v else record v { stop = Some n }) e

positive : (n : ℕ) → 0 < n → not (n == 0) ≡ true
positive n lt = ap not (let x : (n == 0) ≡ false = grind (arith, nat_tests) in x)

none_yet : (ts : List ℕ) (n : ℕ) → (length ts == 0) ≡ true → last_turn ts ≤ n
none_yet [] n e = omega arith
none_yet (t ∷ ts) n e = absurd (let x : length (t ∷ ts) ≡ 0 = grind (arith, nat_tests) in omega (arith, x))

pub middle : (a b c : Bool) → b ≡ true → (a || b || c) ≡ true
middle true b c e = refl
middle false b c e = ap (λ t. t || c) e

pub cons_nil : {A : Type 0} (x : A) (xs : List A) → x ∷ xs ≡ [] → ⊥
cons_nil x xs e = cc

pub head_same : {A : Type 0} (x y : A) (xs ys : List A) → x ∷ xs ≡ y ∷ ys → x ≡ y
head_same x y xs ys e = cc

pub tail_same : {A : Type 0} (x y : A) (xs ys : List A) → x ∷ xs ≡ y ∷ ys → xs ≡ ys
tail_same x y xs ys e = cc

-- ---- lines and items

-- what the lines left lead to
abbrev pub after : List Text → View → View
after ls v = fold with_line v ls

abbrev pub counted : View → View
counted v = record v { line = min (v.line + 1) (2 ^ 32 - 1) }

-- the view after an item
abbrev pub with_core : Core → View → View
with_core c v = record { fill = c.fill; turns = c.turns; events = c.events; stop = c.stop; line = v.line; fault = v.fault }

line_faulty : (l : Text) (v : View) → is_some v.fault ≡ true → with_line v l ≡ v
line_faulty l v h = ap (λ t. if t then v else (if is_skipped l then counted v else with_item (item_of l) (counted v))) h

pub line_skipped : (l : Text) (v : View) → v.fault ≡ None → is_skipped l ≡ true → with_line v l ≡ counted v
line_skipped l v none e =
    ap (λ t. if t then v else (if is_skipped l then counted v else with_item (item_of l) (counted v))) (ap is_some none)
    ∙ ap (λ t. if t then counted v else with_item (item_of l) (counted v)) e

pub line_said : (l : Text) (v : View) → v.fault ≡ None → is_skipped l ≡ false → with_line v l ≡ with_item (item_of l) (counted v)
line_said l v none e =
    ap (λ t. if t then v else (if is_skipped l then counted v else with_item (item_of l) (counted v))) (ap is_some none)
    ∙ ap (λ t. if t then counted v else with_item (item_of l) (counted v)) e

pub line_taken : (l : Text) (v : View) (x : Item) → v.fault ≡ None → is_skipped l ≡ false → item_of l ≡ Some x → bad x (core v) ≡ false → with_line v l ≡ with_core (add x (core v)) (counted v)
line_taken l v x none e i g = line_said l v none e ∙ ap (λ o. with_item o (counted v)) i ∙ taken_item x (counted v) g

pub stuck : (ls : List Text) (v : View) → is_some v.fault ≡ true → after ls v ≡ v
stuck [] v h = refl
stuck (l ∷ ls) v h = ap (after ls) (line_faulty l v h) ∙ stuck ls v h

-- a line with a fault is not got over
broken : (l : Text) (ls : List Text) (v u : View) → with_line v l ≡ u → is_some u.fault ≡ true → (after (l ∷ ls) v).fault ≡ None → ⊥
broken l ls v u e h end =
    let same : after (l ∷ ls) v ≡ u = ap (after ls) e ∙ stuck ls u h in
    true≢false (sym h ∙ ap is_some (sym (ap (λ (x : View). x.fault) same) ∙ end))

abbrev pub Read : List Text → View → List Item → Type 0
Read ls v items = ((after ls v).fault ≡ None) × (core (after ls v) ≡ adds items (core v))

abbrev pub Forward : List Text → Type 0
Forward ls = (v : View) (items : List Item) → map item_of (said ls) ≡ map Some items → v.fault ≡ None → Goes items (core v) → Read ls v items

forward_line : (t : Bool) (l : Text) (ls : List Text) → Forward ls → is_skipped l ≡ t → (v : View) (items : List Item) → map item_of (cond (not t) (l ∷ said ls) (said ls)) ≡ map Some items → v.fault ≡ None → Goes items (core v) → Read (l ∷ ls) v items
forward_line true l ls more e v items h none g =
    subst (λ (u : View). ((after ls u).fault ≡ None) × (core (after ls u) ≡ adds items (core v))) (sym (line_skipped l v none e)) (more (counted v) items h none g)
forward_line false l ls more e v [] h none g = absurd (cons_nil _ _ h)
forward_line false l ls more e v (x ∷ xs) h none g =
    let i : item_of l ≡ Some x = head_same _ _ _ _ h in
    let rest : map item_of (said ls) ≡ map Some xs = tail_same _ _ _ _ h in
    subst (λ (u : View). ((after ls u).fault ≡ None) × (core (after ls u) ≡ adds xs (add x (core v)))) (sym (line_taken l v x none e i g.0)) (more (with_core (add x (core v)) (counted v)) xs rest none g.1)

pub forward : (ls : List Text) → Forward ls
forward [] v [] h none g = (none, refl)
forward [] v (x ∷ xs) h none g = absurd (cons_nil _ _ (sym h))
forward (l ∷ ls) v items h none g = forward_line (is_skipped l) l ls (forward ls) refl v items h none g

pub record Said (ls : List Text) (v : View) : Type 0 where
  pub items : List Item
  pub lines : map item_of (said ls) ≡ map Some items
  pub goes : Goes items (core v)
  pub all : core (after ls v) ≡ adds items (core v)

abbrev pub Backward : List Text → Type 0
Backward ls = (v : View) → v.fault ≡ None → (after ls v).fault ≡ None → Said ls v

backward_item : (b : Bool) (l : Text) (ls : List Text) (x : Item) (v : View) → Backward ls → is_skipped l ≡ false → item_of l ≡ Some x → bad x (core v) ≡ b → v.fault ≡ None → (after (l ∷ ls) v).fault ≡ None → Said (l ∷ ls) v
backward_item true l ls x v more e i g none end =
    absurd (broken l ls v (failed E702 (counted v)) (line_said l v none e ∙ ap (λ o. with_item o (counted v)) i ∙ refused_item x (counted v) g) refl end)
backward_item false l ls x v more e i g none end =
    let w = line_taken l v x none e i g in
    let u = with_core (add x (core v)) (counted v) in
    let r = more u none (sym (ap (λ (y : View). (after ls y).fault) w) ∙ end) in
    record {
      items = x ∷ r.items;
      lines = ap (λ t. map item_of (cond (not t) (l ∷ said ls) (said ls))) e ∙ ap₂ (λ (o : Option Item) (os : List (Option Item)). o ∷ os) i r.lines;
      goes = (g, r.goes);
      all = ap (λ (y : View). core (after ls y)) w ∙ r.all;
    }

backward_said : (o : Option Item) (l : Text) (ls : List Text) (v : View) → Backward ls → is_skipped l ≡ false → item_of l ≡ o → v.fault ≡ None → (after (l ∷ ls) v).fault ≡ None → Said (l ∷ ls) v
backward_said None l ls v more e i none end = absurd (broken l ls v (with_item None (counted v)) (line_said l v none e ∙ ap (λ o. with_item o (counted v)) i) refl end)
backward_said (Some x) l ls v more e i none end = backward_item (bad x (core v)) l ls x v more e i refl none end

backward_line : (t : Bool) (l : Text) (ls : List Text) (v : View) → Backward ls → is_skipped l ≡ t → v.fault ≡ None → (after (l ∷ ls) v).fault ≡ None → Said (l ∷ ls) v
backward_line true l ls v more e none end =
    let w = line_skipped l v none e in
    let r = more (counted v) none (sym (ap (λ (y : View). (after ls y).fault) w) ∙ end) in
    record {
      items = r.items;
      lines = ap (λ t. map item_of (cond (not t) (l ∷ said ls) (said ls))) e ∙ r.lines;
      goes = r.goes;
      all = ap (λ (y : View). core (after ls y)) w ∙ r.all;
    }
backward_line false l ls v more e none end = backward_said (item_of l) l ls v more e refl none end

pub backward : (ls : List Text) → Backward ls
backward [] v none end = record { items = []; lines = refl; goes = tt; all = refl }
backward (l ∷ ls) v none end = backward_line (is_skipped l) l ls v (backward ls) refl none end

-- ---- items and plans

pub last_append : (ts : List ℕ) (n : ℕ) → last_turn (ts ++ n ∷ []) ≡ n
last_append ts n =
    let e : length (ts ++ n ∷ []) - 1 ≡ length ts = omega (arith, length-append ts (n ∷ [])) in
    ap (λ (i : ℕ). slice_index (ts ++ n ∷ []) i) e ∙ get_or-append_seam ts n [] 0

-- there is no turn yet, or the last one is below
abbrev Below : List ℕ → ℕ → Type 0
Below ts n = ((length ts == 0) ≡ true) ⊎ (last_turn ts < n)

stop_fits : (ts : List ℕ) (n : ℕ) → Below ts n → (not (length ts == 0) && nat_le n (last_turn ts)) ≡ false
stop_fits ts n (inl e) = ap (λ t. not t && nat_le n (last_turn ts)) e
stop_fits ts n (inr lt) = and_right (not (length ts == 0)) (nat_le n (last_turn ts)) (lt-leb n (last_turn ts) lt)

at_fits : (ts : List ℕ) (n : ℕ) → last_turn ts ≤ n → (not (length ts == 0) && nat_lt n (last_turn ts)) ≡ false
at_fits ts n le = and_right (not (length ts == 0)) (nat_lt n (last_turn ts)) (le-ltb n (last_turn ts) le)

abbrev items_from : List Due → ℕ → List Item
items_from ds stop = map (λ d. At d.turn d.event) ds ++ (Stop stop ∷ [])

abbrev ended_with : List Due → ℕ → Core → Core
ended_with ds stop c = record { fill = c.fill; turns = c.turns ++ map (λ d. d.turn) ds; events = c.events ++ map (λ d. d.event) ds; stop = Some stop }

same_core : (f : Option ℕ) (a b : List ℕ) (c d : List Event) (s : Option ℕ) → a ≡ b → c ≡ d → (let x : Core = record { fill = f; turns = a; events = c; stop = s } in x) ≡ (let y : Core = record { fill = f; turns = b; events = d; stop = s } in y)
same_core f a b c d s e g = ap₂ (λ (x : List ℕ) (y : List Event). let z : Core = record { fill = f; turns = x; events = y; stop = s } in z) e g

goes_in_order : (ds : List Due) (stop : ℕ) (c : Core) → c.stop ≡ None → IsInOrder (last_turn c.turns) ds stop → Below c.turns stop → Goes (items_from ds stop) c × (adds (items_from ds stop) c ≡ ended_with ds stop c)
goes_in_order [] stop c none order below = (
  (ap (λ o. is_some o || (not (length c.turns == 0) && nat_le stop (last_turn c.turns))) none ∙ stop_fits c.turns stop below, tt),
  same_core c.fill c.turns (c.turns ++ []) c.events (c.events ++ []) (Some stop) (sym (append-nil c.turns)) (sym (append-nil c.events)),
)
goes_in_order (d ∷ ds) stop c none order below =
    let k = add (At d.turn d.event) c in
    let last = last_append c.turns d.turn in
    let r = goes_in_order ds stop k none (subst (λ n. IsInOrder n ds stop) (sym last) order.2) (inr (subst (λ n. n < stop) (sym last) order.1)) in (
      (ap (λ o. is_some o || (not (length c.turns == 0) && nat_lt d.turn (last_turn c.turns))) none ∙ at_fits c.turns d.turn order.0, r.0),
      r.1
          ∙ same_core c.fill ((c.turns ++ d.turn ∷ []) ++ map (λ x. x.turn) ds) (c.turns ++ (d.turn ∷ map (λ x. x.turn) ds)) ((c.events ++ d.event ∷ []) ++ map (λ x. x.event) ds) (c.events ++ (d.event ∷ map (λ x. x.event) ds)) (Some stop)
          (append_assoc c.turns (d.turn ∷ []) (map (λ x. x.turn) ds))
          (append_assoc c.events (d.event ∷ []) (map (λ x. x.event) ds)),
    )

abbrev fresh : Option ℕ → Core
fresh f = record { fill = f; turns = []; events = []; stop = None }

plan_goes : (f : Option ℕ) (ds : List Due) (stop : ℕ) → IsInOrder 0 ds stop → Goes (fill_items f ++ items_from ds stop) (fresh None) × (adds (fill_items f ++ items_from ds stop) (fresh None) ≡ ended_with ds stop (fresh f))
plan_goes None ds stop order = goes_in_order ds stop (fresh None) refl order (inl refl)
plan_goes (Some b) ds stop order = let r = goes_in_order ds stop (fresh (Some b)) refl order (inl refl) in ((refl, r.0), r.1)

fault_none : (v : View) (n : ℕ) → v.fault ≡ None → v.stop ≡ Some n → fault_of v ≡ None
fault_none v n f s = ap₂ (fault_from v.line) f s

pub complete : (text : Text) (p : Plan) → Spells text p → IsPlan (read_lines text) p
complete text p h =
    let g = plan_goes p.fill p.events p.stop h.in_order in
    let r = forward (lines_in text) start (items_of p) h.lines refl g.0 in
    let e : core (read_lines text) ≡ ended_with p.events p.stop (fresh p.fill) = r.1 ∙ g.1 in
    record {
      no_fault = fault_none (read_lines text) p.stop r.0 (ap (λ (c : Core). c.stop) e);
      fill = ap (λ (c : Core). c.fill) e;
      turns = ap (λ (c : Core). c.turns) e;
      events = ap (λ (c : Core). c.events) e;
      stop = ap (λ (c : Core). c.stop) e;
    }

-- ---- the other way

-- FILL may not come here
abbrev NoFill : List Item → Core → Type 0
NoFill (Fill b ∷ xs) c = (is_some c.fill || not (length c.turns == 0)) ≡ true
NoFill _ c = Unit {0}

no_fill : (xs : List Item) (c : Core) → (is_some c.fill || not (length c.turns == 0)) ≡ true → NoFill xs c
no_fill [] c h = tt
no_fill (Fill b ∷ xs) c h = h
no_fill (At n e ∷ xs) c h = tt
no_fill (Stop n ∷ xs) c h = tt

clash : (a s t : Bool) → (a || s || t) ≡ false → (a || t) ≡ true → ⊥
clash true s t e h = true≢false e
clash false true t e h = true≢false e
clash false false t e h = true≢false (sym h ∙ e)

ended : (xs : List Item) (c : Core) (n : ℕ) → c.stop ≡ Some n → Goes xs c → xs ≡ []
ended [] c n s g = refl
ended (Fill b ∷ xs) c n s g = absurd (true≢false (sym (middle (is_some c.fill) (is_some c.stop) (not (length c.turns == 0)) (ap is_some s)) ∙ g.0))
ended (At m e ∷ xs) c n s g = absurd (true≢false (sym (ap (λ o. is_some o || (not (length c.turns == 0) && nat_lt m (last_turn c.turns))) s) ∙ g.0))
ended (Stop m ∷ xs) c n s g = absurd (true≢false (sym (ap (λ o. is_some o || (not (length c.turns == 0) && nat_le m (last_turn c.turns))) s) ∙ g.0))

below_from : (t : Bool) (ts : List ℕ) (n : ℕ) → (length ts == 0) ≡ t → (not t && nat_le n (last_turn ts)) ≡ false → Below ts n
below_from true ts n e h = inl e
below_from false ts n e h = inr (leb-false n (last_turn ts) h)

order_from : (t : Bool) (ts : List ℕ) (n : ℕ) → (length ts == 0) ≡ t → (not t && nat_lt n (last_turn ts)) ≡ false → last_turn ts ≤ n
order_from true ts n e h = none_yet ts n e
order_from false ts n e h = ltb-false n (last_turn ts) h

record Ordered (items : List Item) (c : Core) (n : ℕ) : Type 0 where
  due : List Due
  items_are : items ≡ items_from due n
  in_order : IsInOrder (last_turn c.turns) due n
  below : Below c.turns n

pub grown : (ts : List ℕ) (n : ℕ) → not (length (ts ++ n ∷ []) == 0) ≡ true
grown ts n = let e : 0 < length (ts ++ n ∷ []) = omega (arith, length-append ts (n ∷ [])) in positive (length (ts ++ n ∷ [])) e

below_next : (ts : List ℕ) (m n : ℕ) → Below (ts ++ m ∷ []) n → m < n
below_next ts m n (inl e) = absurd (true≢false (sym (grown ts m) ∙ ap not e))
below_next ts m n (inr lt) = subst (λ k. k < n) (last_append ts m) lt

below_before : (t : Bool) (ts : List ℕ) (m n : ℕ) → (length ts == 0) ≡ t → last_turn ts ≤ m → m < n → Below ts n
below_before true ts m n e le lt = inl e
below_before false ts m n e le lt = inr (omega (arith, le, lt))

ordered : (items : List Item) (c : Core) (n : ℕ) → c.stop ≡ None → NoFill items c → Goes items c → (adds items c).stop ≡ Some n → Ordered items c n
ordered [] c n none free g end = absurd (none-some n (sym none ∙ end))
ordered (Fill b ∷ xs) c n none free g end = absurd (clash (is_some c.fill) (is_some c.stop) (not (length c.turns == 0)) g.0 free)
ordered (Stop m ∷ xs) c n none free g end =
    let alone : xs ≡ [] = ended xs (add (Stop m) c) m refl g.1 in
    let same : m ≡ n = same_Some m n (sym (ap (λ (l : List Item). (adds l (add (Stop m) c)).stop) alone) ∙ end) in
    record {
      due = [];
      items_are = ap₂ (λ (k : ℕ) (l : List Item). Stop k ∷ l) same alone;
      in_order = tt;
      below = subst (Below c.turns) same (below_from (length c.turns == 0) c.turns m refl (or_parts (is_some c.stop) _ g.0).1);
    }
ordered (At m e ∷ xs) c n none free g end =
    let k = add (At m e) c in
    let r = ordered xs k n none (no_fill xs k (or_right (is_some c.fill) _ (grown c.turns m))) g.1 end in
    let le = order_from (length c.turns == 0) c.turns m refl (or_parts (is_some c.stop) _ g.0).1 in
    let lt = below_next c.turns m n r.below in
    record {
      due = (let d : Due = record { turn = m; event = e } in d) ∷ r.due;
      items_are = ap (λ (l : List Item). At m e ∷ l) r.items_are;
      in_order = (le, lt, subst (λ j. IsInOrder j r.due n) (last_append c.turns m) r.in_order);
      below = below_before (length c.turns == 0) c.turns m n refl le lt;
    }

stop_of : (o : Option ℕ) (f : Option (ℕ × Number)) (line : ℕ) → fault_from line f o ≡ None → (f ≡ None) × ((n : ℕ) × (o ≡ Some n))
stop_of o (Some f) line e = absurd (none-some _ (sym e))
stop_of None None line e = absurd (none-some _ (sym e))
stop_of (Some n) None line e = (refl, (n, refl))

planned : (items : List Item) (n : ℕ) → Goes items (fresh None) → (adds items (fresh None)).stop ≡ Some n → (p : Plan) × (items ≡ items_of p) × IsInOrder 0 p.events p.stop
planned [] n g end = absurd (none-some n end)
planned (Fill b ∷ xs) n g end =
    let r = ordered xs (fresh (Some b)) n refl (no_fill xs (fresh (Some b)) refl) g.1 end in
    (record { fill = Some b; events = r.due; stop = n }, ap (λ (l : List Item). Fill b ∷ l) r.items_are, r.in_order)
planned (At m e ∷ xs) n g end = let r = ordered (At m e ∷ xs) (fresh None) n refl tt g end in (record { fill = None; events = r.due; stop = n }, r.items_are, r.in_order)
planned (Stop m ∷ xs) n g end = let r = ordered (Stop m ∷ xs) (fresh None) n refl tt g end in (record { fill = None; events = r.due; stop = n }, r.items_are, r.in_order)

pub sound : (text : Text) → fault_of (read_lines text) ≡ None → (p : Plan) × Spells text p
sound text h =
    let v = read_lines text in
    let f = stop_of v.stop v.fault v.line h in
    let r = backward (lines_in text) start refl f.0 in
    let t = planned r.items f.1.0 r.goes (sym (ap (λ (c : Core). c.stop) r.all) ∙ f.1.1) in
    (t.0, record { lines = r.lines ∙ ap (map Some) t.1; in_order = t.2 })

-- The order of priority: what a search over the places of it finds.
use Rattle.std.proofs.lemmas.Bool.{or_left, lt-ltb, ltb-true, false_from_ne_true, or_parts, and_parts, not-true, and_from}
use Rattle.std.proofs.Math.Bool.{and-false}
use Rattle.std.proofs.Common.{◌≡◌, ℕ, zero, suc, ◌+◌, ◌-◌, ◌<◌, ◌≤◌, ◌⊎◌, inl, inr, Bool, true, false, not, ◌&&◌, ◌||◌, refl, sym, ap, ◌∙◌, subst, arith, mod-lt, Option, Some, None, find, map, nat_lt, List, IfSome}
use Rattle.std.specs.Prelude.{if◌then◌else◌, is_some, unwrap_or}
use Rattle.std.specs.List.{list_all, range_with_len}
use Rattle.pic8259.specs.Levels.{has, level_at, rank, highest}
use Rattle.pic8259.specs.Priority.{IsHighest, MayInterrupt, IsNext}
use Rattle.pic8259.specs.Controller.{Controller, is_above, is_wanted, pending, int_line, vector, taken, acknowledged}

-- n levels in the order of priority, from a place on
abbrev pub places : ℕ → ℕ → ℕ → List ℕ
places lowest i n = map (level_at lowest) (range_with_len i n)

clash : true ≡ false → ⊥
clash e = cc

-- a search found the level at this place, and none before it
pub record FoundAt (lowest : ℕ) (t : ℕ → Bool) (i n k : ℕ) : Type 0 where
  pub place : ℕ
  pub from : i ≤ place
  pub within : place < i + n
  pub level_is : k ≡ level_at lowest place
  pub passes : t (level_at lowest place) ≡ true
  pub none_before : (j : ℕ) → i ≤ j → j < place → t (level_at lowest j) ≡ false

later : (t : ℕ → Bool) (lowest i place : ℕ) → t (level_at lowest i) ≡ false → ((j : ℕ) → i + 1 ≤ j → j < place → t (level_at lowest j) ≡ false) → (j : ℕ) → i ≤ j → j < place → t (level_at lowest j) ≡ false
later t lowest i place e f j a b =
    let split : (j ≡ i) ⊎ (i + 1 ≤ j) = grind arith in
    elim split [ inl same ↦ ap (λ x. t (level_at lowest x)) same ∙ e | inr more ↦ f j more b ]

find_some_step : (lowest : ℕ) (t : ℕ → Bool) (n i k : ℕ) (b : Bool) → (find t (places lowest (i + 1) n) ≡ Some k → FoundAt lowest t (i + 1) n k) → t (level_at lowest i) ≡ b → (if b then Some (level_at lowest i) else find t (places lowest (i + 1) n)) ≡ Some k → FoundAt lowest t i (suc n) k
find_some_step lowest t n i k true f e h = record { place = i; from = omega arith; within = omega arith; level_is = cc; passes = e; none_before = λ j a b. absurd (omega arith) }
find_some_step lowest t n i k false f e h =
    let r = f h in
    record { place = r.place; from = omega (arith, r.from); within = omega (arith, r.within); level_is = r.level_is; passes = r.passes; none_before = later t lowest i r.place e r.none_before }

pub find_some : (lowest : ℕ) (t : ℕ → Bool) (n i k : ℕ) → find t (places lowest i n) ≡ Some k → FoundAt lowest t i n k
find_some lowest t zero i k h = absurd (cc)
find_some lowest t (suc n) i k h = find_some_step lowest t n i k (t (level_at lowest i)) (find_some lowest t n (i + 1) k) refl h

find_none_step : (lowest : ℕ) (t : ℕ → Bool) (n i : ℕ) (b : Bool) → (find t (places lowest (i + 1) n) ≡ None → (j : ℕ) → i + 1 ≤ j → j < i + 1 + n → t (level_at lowest j) ≡ false) → t (level_at lowest i) ≡ b → (if b then Some (level_at lowest i) else find t (places lowest (i + 1) n)) ≡ None → (j : ℕ) → i ≤ j → j < i + 1 + n → t (level_at lowest j) ≡ false
find_none_step lowest t n i true f e h j a b = absurd (cc)
find_none_step lowest t n i false f e h j a b = later t lowest i (i + 1 + n) e (f h) j a b

pub find_none : (lowest : ℕ) (t : ℕ → Bool) (n i : ℕ) → find t (places lowest i n) ≡ None → (j : ℕ) → i ≤ j → j < i + n → t (level_at lowest j) ≡ false
find_none lowest t zero i h j a b = absurd (omega arith)
find_none lowest t (suc n) i h j a b = find_none_step lowest t n i (t (level_at lowest i)) (find_none lowest t n (i + 1)) refl h j a (omega arith)

-- what a search finds where a place is the first that passes
pub find_make : (lowest : ℕ) (t : ℕ → Bool) (n i place : ℕ) → i ≤ place → place < i + n → t (level_at lowest place) ≡ true → ((j : ℕ) → i ≤ j → j < place → t (level_at lowest j) ≡ false) → find t (places lowest i n) ≡ Some (level_at lowest place)
find_make lowest t zero i place a b e f = absurd (omega arith)
find_make lowest t (suc n) i place a b e f =
    let split : (i ≡ place) ⊎ (i < place) = grind arith in
    elim split [
      | inl same ↦
          let here : t (level_at lowest i) ≡ true = ap (λ x. t (level_at lowest x)) same ∙ e in
          ap (λ b. if b then Some (level_at lowest i) else find t (places lowest (i + 1) n)) here ∙ ap (λ x. Some (level_at lowest x)) same
      | inr more ↦
          let no : t (level_at lowest i) ≡ false = f i (omega arith) more in
          ap (λ b. if b then Some (level_at lowest i) else find t (places lowest (i + 1) n)) no
          ∙ find_make lowest t n (i + 1) place (omega arith) (omega arith) e (λ j c d. f j (omega arith) d)
    ]

pub find_nothing : (lowest : ℕ) (t : ℕ → Bool) (n i : ℕ) → ((j : ℕ) → i ≤ j → j < i + n → t (level_at lowest j) ≡ false) → find t (places lowest i n) ≡ None
find_nothing lowest t zero i f = refl
find_nothing lowest t (suc n) i f =
    ap (λ b. if b then Some (level_at lowest i) else find t (places lowest (i + 1) n)) (f i (omega arith) (omega arith))
    ∙ find_nothing lowest t n (i + 1) (λ j a b. f j (omega arith) (omega arith))

-- places and levels are one another's inverses
pub rank_at : (lowest i : ℕ) → lowest < 8 → i < 8 → rank lowest (level_at lowest i) ≡ i
rank_at lowest i a b = omega arith

pub level_of_rank : (lowest j : ℕ) → lowest < 8 → j < 8 → level_at lowest (rank lowest j) ≡ j
level_of_rank lowest j a b = omega arith

pub rank_below : (lowest j : ℕ) → rank lowest j < 8
rank_below lowest j = mod-lt (j + 7 - lowest) (omega arith)

-- a test of all places
pub all_true : (lowest : ℕ) (t : ℕ → Bool) (n i : ℕ) → ((j : ℕ) → i ≤ j → j < i + n → t (level_at lowest j) ≡ true) → list_all t (places lowest i n) ≡ true
all_true lowest t zero i f = refl
all_true lowest t (suc n) i f =
    ap (λ b. b && list_all t (places lowest (i + 1) n)) (f i (omega arith) (omega arith))
    ∙ all_true lowest t n (i + 1) (λ j a b. f j (omega arith) (omega arith))

pub all_at : (lowest : ℕ) (t : ℕ → Bool) (n i j : ℕ) → list_all t (places lowest i n) ≡ true → i ≤ j → j < i + n → t (level_at lowest j) ≡ true
all_at lowest t zero i j h a b = absurd (omega arith)
all_at lowest t (suc n) i j h a b =
    let split : (i ≡ j) ⊎ (i < j) = grind arith in
    elim split [
      | inl same ↦ ap (λ x. t (level_at lowest x)) (sym same) ∙ (and_parts (t (level_at lowest i)) (list_all t (places lowest (i + 1) n)) h).0
      | inr more ↦ all_at lowest t n (i + 1) j (and_parts (t (level_at lowest i)) (list_all t (places lowest (i + 1) n)) h).1 (omega arith) (omega arith)
    ]

-- the highest level that passes a test
pub highest_found : (lowest : ℕ) (t : ℕ → Bool) (k : ℕ) → highest lowest t ≡ Some k → FoundAt lowest t 0 8 k
unfolding highest
highest_found lowest t k h = find_some lowest t 8 0 k h

pub highest_level : (lowest : ℕ) (t : ℕ → Bool) (k : ℕ) → highest lowest t ≡ Some k → k < 8
highest_level lowest t k h =
    let r = highest_found lowest t k h in
    subst (λ x. x < 8) (sym r.level_is) (mod-lt (lowest + 1 + r.place) (omega arith))

if_some_level : (lowest : ℕ) (t : ℕ → Bool) (o : Option ℕ) → highest lowest t ≡ o → IfSome o (λ k. k < 8)
if_some_level lowest t None h = tt
if_some_level lowest t (Some k) h = highest_level lowest t k h

pub highest_levels : (lowest : ℕ) (t : ℕ → Bool) → IfSome (highest lowest t) (λ k. k < 8)
highest_levels lowest t = if_some_level lowest t (highest lowest t) refl

pub highest_is : (lowest : ℕ) (t : ℕ → Bool) (k : ℕ) → lowest < 8 → highest lowest t ≡ Some k → IsHighest lowest t k
highest_is lowest t k below h =
    let r = highest_found lowest t k h in
    record {
      is_level = highest_level lowest t k h;
      passes = ap t r.level_is ∙ r.passes;
      none_above = λ j small e.
          let at_place : rank lowest k ≡ r.place = ap (rank lowest) r.level_is ∙ rank_at lowest r.place below (omega (arith, r.within)) in
          let split : (rank lowest j < r.place) ⊎ (r.place ≤ rank lowest j) = grind arith in
          elim split [
            | inl less ↦ absurd (clash (sym e ∙ (ap t (sym (level_of_rank lowest j below small)) ∙ r.none_before (rank lowest j) (omega arith) less)))
            | inr more ↦ omega (arith, at_place, more)
          ];
    }

or_not : (x a : Bool) → a ≡ false → (x || not a) ≡ true
or_not true a h = refl
or_not false a h = ap not h

or_served_at : (x a : Bool) → (x || not a) ≡ true → a ≡ true → x ≡ true
or_served_at true a h e = refl
or_served_at false a h e = absurd (clash (sym h ∙ ap not e))

or_served : (i j : ℕ) (a : Bool) → (nat_lt i j || not a) ≡ true → a ≡ true → i < j
or_served i j a h e = ltb-true i j (or_served_at (nat_lt i j) a h e)

-- the level that is next, from the first one that is in service or wanted
above_first : (lowest place : ℕ) (a : ℕ → Bool) → lowest < 8 → place < 8 → a (level_at lowest place) ≡ false → ((j : ℕ) → 0 ≤ j → j < place → a (level_at lowest j) ≡ false) → is_above lowest a (level_at lowest place) ≡ true
above_first lowest place a below small here before =
    all_true lowest (λ j. nat_lt (rank lowest (level_at lowest place)) (rank lowest j) || not (a j)) 8 0 (λ j c d.
    let mine : rank lowest (level_at lowest place) ≡ place = rank_at lowest place below small in
    let its : rank lowest (level_at lowest j) ≡ j = rank_at lowest j below (omega arith) in
    let split : (j < place) ⊎ ((j ≡ place) ⊎ (place < j)) = grind arith in
    elim split [
      | inl less ↦ or_not (nat_lt (rank lowest (level_at lowest place)) (rank lowest (level_at lowest j))) (a (level_at lowest j)) (before j c less)
      | inr (inl same) ↦ or_not (nat_lt (rank lowest (level_at lowest place)) (rank lowest (level_at lowest j))) (a (level_at lowest j)) (ap (λ x. a (level_at lowest x)) same ∙ here)
      | inr (inr more) ↦ or_left (nat_lt (rank lowest (level_at lowest place)) (rank lowest (level_at lowest j))) (not (a (level_at lowest j))) (lt-ltb (rank lowest (level_at lowest place)) (rank lowest (level_at lowest j)) (omega (arith, mine, its, more)))
    ])

-- a level in service leaves none below it, nor itself
above_served : (lowest place i : ℕ) (a : ℕ → Bool) → lowest < 8 → place < 8 → i < 8 → place ≤ i → a (level_at lowest place) ≡ true → is_above lowest a (level_at lowest i) ≡ false
above_served lowest place i a below small small_i le served =
    false_from_ne_true (is_above lowest a (level_at lowest i)) (λ h.
    let at_place = all_at lowest (λ j. nat_lt (rank lowest (level_at lowest i)) (rank lowest j) || not (a j)) 8 0 place h (omega arith) (omega arith) in
    let mine : rank lowest (level_at lowest i) ≡ i = rank_at lowest i below small_i in
    let its : rank lowest (level_at lowest place) ≡ place = rank_at lowest place below small in
    let less : rank lowest (level_at lowest i) < rank lowest (level_at lowest place) = or_served (rank lowest (level_at lowest i)) (rank lowest (level_at lowest place)) (a (level_at lowest place)) at_place served in
    omega (arith, mine, its, less, le))

or_rest : (x y : Bool) → x ≡ false → (x || y) ≡ true → y ≡ true
or_rest x y e h = sym (ap (λ b. b || y) e) ∙ h

-- nothing active: nothing is next
pub next_none : (lowest : ℕ) (a w : ℕ → Bool) → highest lowest (λ k. a k || w k) ≡ None → highest lowest (λ k. is_above lowest a k && w k) ≡ None
unfolding highest
next_none lowest a w h =
    find_nothing lowest (λ k. is_above lowest a k && w k) 8 0 (λ j c d.
    let none = find_none lowest (λ k. a k || w k) 8 0 h j c d in
    ap (λ b. is_above lowest a (level_at lowest j) && b) (or_parts (a (level_at lowest j)) (w (level_at lowest j)) none).1 ∙ and-false (is_above lowest a (level_at lowest j)))

-- the first active level is in service: nothing is next
pub next_served : (lowest : ℕ) (a w : ℕ → Bool) (k : ℕ) → lowest < 8 → highest lowest (λ k. a k || w k) ≡ Some k → a k ≡ true → highest lowest (λ k. is_above lowest a k && w k) ≡ None
unfolding highest
next_served lowest a w k below h served =
    let r = find_some lowest (λ k. a k || w k) 8 0 k h in
    let small : r.place < 8 = omega (arith, r.within) in
    let served_there : a (level_at lowest r.place) ≡ true = sym (ap a r.level_is) ∙ served in
    find_nothing lowest (λ k. is_above lowest a k && w k) 8 0 (λ j c d.
    let split : (j < r.place) ⊎ (r.place ≤ j) = grind arith in
    elim split [
      | inl less ↦ ap (λ b. is_above lowest a (level_at lowest j) && b) (or_parts (a (level_at lowest j)) (w (level_at lowest j)) (r.none_before j c less)).1 ∙ and-false (is_above lowest a (level_at lowest j))
      | inr more ↦ ap (λ b. b && w (level_at lowest j)) (above_served lowest r.place j a below small (omega arith) more served_there)
    ])

-- the first active level is not in service: it is next
pub next_wanted : (lowest : ℕ) (a w : ℕ → Bool) (k : ℕ) → lowest < 8 → highest lowest (λ k. a k || w k) ≡ Some k → a k ≡ false → highest lowest (λ k. is_above lowest a k && w k) ≡ Some k
unfolding highest
next_wanted lowest a w k below h unserved =
    let r = find_some lowest (λ k. a k || w k) 8 0 k h in
    let small : r.place < 8 = omega (arith, r.within) in
    let unserved_there : a (level_at lowest r.place) ≡ false = sym (ap a r.level_is) ∙ unserved in
    let above : is_above lowest a (level_at lowest r.place) ≡ true = above_first lowest r.place a below small unserved_there (λ j c d. (or_parts (a (level_at lowest j)) (w (level_at lowest j)) (r.none_before j c d)).0) in
    let wanted : w (level_at lowest r.place) ≡ true = or_rest (a (level_at lowest r.place)) (w (level_at lowest r.place)) unserved_there r.passes in
    find_make lowest (λ k. is_above lowest a k && w k) 8 0 r.place r.from r.within
    (ap (λ b. b && w (level_at lowest r.place)) above ∙ wanted)
    (λ j c d. ap (λ b. is_above lowest a (level_at lowest j) && b) (or_parts (a (level_at lowest j)) (w (level_at lowest j)) (r.none_before j c d)).1 ∙ and-false (is_above lowest a (level_at lowest j)))
    ∙ ap Some (sym r.level_is)

-- the same, of a controller
pub pending_none : (s : Controller) → highest s.lowest (λ k. has s.in_service k || is_wanted s k) ≡ None → pending s ≡ None
unfolding pending
pending_none s h = next_none s.lowest (has s.in_service) (is_wanted s) h

pub pending_served : (s : Controller) (k : ℕ) → s.lowest < 8 → highest s.lowest (λ k. has s.in_service k || is_wanted s k) ≡ Some k → has s.in_service k ≡ true → pending s ≡ None
unfolding pending
pending_served s k below h e = next_served s.lowest (has s.in_service) (is_wanted s) k below h e

pub pending_wanted : (s : Controller) (k : ℕ) → s.lowest < 8 → highest s.lowest (λ k. has s.in_service k || is_wanted s k) ≡ Some k → has s.in_service k ≡ false → pending s ≡ Some k
unfolding pending
pending_wanted s k below h e = next_wanted s.lowest (has s.in_service) (is_wanted s) k below h e

pub ruleset next_level = (pending_none, pending_served, pending_wanted)

above_levels : (lowest : ℕ) (a : ℕ → Bool) (k : ℕ) → lowest < 8 → is_above lowest a k ≡ true → (j : ℕ) → j < 8 → a j ≡ true → rank lowest k < rank lowest j
above_levels lowest a k below h j small served =
    let there = all_at lowest (λ j. nat_lt (rank lowest k) (rank lowest j) || not (a j)) 8 0 (rank lowest j) h (omega arith) (rank_below lowest j) in
    let same : level_at lowest (rank lowest j) ≡ j = level_of_rank lowest j below small in
    or_served (rank lowest k) (rank lowest j) (a j) (ap (λ x. nat_lt (rank lowest k) (rank lowest x) || not (a x)) (sym same) ∙ there) served

higher_at : (less : Bool) (served : Bool) (r q m : ℕ) → less ≡ nat_lt q m → q < r → (served ≡ true → r < m) → (less || not served) ≡ true
higher_at true served r q m e a f = refl
higher_at false false r q m e a f = refl
higher_at false true r q m e a f = absurd (clash (sym (lt-ltb q m (omega (arith, a, f refl))) ∙ sym e))

higher_is_above : (lowest : ℕ) (a : ℕ → Bool) (k j i : ℕ) → rank lowest j < rank lowest k → (a i ≡ true → rank lowest k < rank lowest i) → (nat_lt (rank lowest j) (rank lowest i) || not (a i)) ≡ true
higher_is_above lowest a k j i less f = higher_at (nat_lt (rank lowest j) (rank lowest i)) (a i) (rank lowest k) (rank lowest j) (rank lowest i) refl less f

-- what a level that is next is among all wanted ones: none of these stands above it
wanted_above : (lowest : ℕ) (a w : ℕ → Bool) (k : ℕ) → lowest < 8 → IsHighest lowest (λ k. is_above lowest a k && w k) k → (j : ℕ) → j < 8 → w j ≡ true → rank lowest k ≤ rank lowest j
wanted_above lowest a w k below h j small wanted =
    let split : (rank lowest k ≤ rank lowest j) ⊎ (rank lowest j < rank lowest k) = grind arith in
    let mine = above_levels lowest a k below (and_parts (is_above lowest a k) (w k) h.passes).0 in
    elim split [
      | inl le ↦ le
      | inr less ↦
          let above : is_above lowest a j ≡ true = all_true lowest (λ i. nat_lt (rank lowest j) (rank lowest i) || not (a i)) 8 0 (λ i c d.
          higher_is_above lowest a k j (level_at lowest i) less (mine (level_at lowest i) (mod-lt (lowest + 1 + i) (omega arith)))) in
          h.none_above j small (ap (λ b. b && w j) above ∙ wanted)
    ]

pub pending_is_next : (s : Controller) (k : ℕ) → s.lowest < 8 → pending s ≡ Some k → IsNext s k
unfolding pending
pending_is_next s k below h =
    let top = highest_is s.lowest (λ k. is_above s.lowest (has s.in_service) k && is_wanted s k) k below h in
    let parts = and_parts (is_above s.lowest (has s.in_service) k) (is_wanted s k) top.passes in
    record {
      is_level = top.is_level;
      requested = (and_parts (has s.requested k) (not (has s.masked k)) parts.1).0;
      unmasked = not-true (has s.masked k) (and_parts (has s.requested k) (not (has s.masked k)) parts.1).1;
      above_service = above_levels s.lowest (has s.in_service) k below parts.0;
      highest = λ j small asked free. wanted_above s.lowest (has s.in_service) (is_wanted s) k below top j small (ap (λ b. b && not (has s.masked j)) asked ∙ ap not free);
    }

-- where a search finds nothing, no level passes
pub none_passes : (lowest : ℕ) (t : ℕ → Bool) → lowest < 8 → highest lowest t ≡ None → (k : ℕ) → k < 8 → t k ≡ false
unfolding highest
none_passes lowest t below h k small =
    ap t (sym (level_of_rank lowest k below small)) ∙ find_none lowest t 8 0 h (rank lowest k) (omega arith) (rank_below lowest k)

above_test : (less served : Bool) (q m : ℕ) → less ≡ nat_lt q m → (served ≡ true → q < m) → (less || not served) ≡ true
above_test true served q m e f = refl
above_test false false q m e f = refl
above_test false true q m e f = absurd (clash (sym (lt-ltb q m (f refl)) ∙ sym e))

above_of : (lowest : ℕ) (a : ℕ → Bool) (k : ℕ) → ((j : ℕ) → j < 8 → a j ≡ true → rank lowest k < rank lowest j) → is_above lowest a k ≡ true
above_of lowest a k f =
    all_true lowest (λ i. nat_lt (rank lowest k) (rank lowest i) || not (a i)) 8 0 (λ i c d.
    above_test (nat_lt (rank lowest k) (rank lowest (level_at lowest i))) (a (level_at lowest i)) (rank lowest k) (rank lowest (level_at lowest i)) refl
    (f (level_at lowest i) (mod-lt (lowest + 1 + i) (omega arith))))

-- a level that may interrupt passes the search's test
may_pass : (s : Controller) (k : ℕ) → MayInterrupt s k → (is_above s.lowest (has s.in_service) k && is_wanted s k) ≡ true
may_pass s k h =
    and_from (is_above s.lowest (has s.in_service) k) (is_wanted s k) (above_of s.lowest (has s.in_service) k h.above_service)
    (and_from (has s.requested k) (not (has s.masked k)) h.requested (ap not h.unmasked))

not_none : (s : Controller) (k : ℕ) → s.lowest < 8 → MayInterrupt s k → pending s ≡ None → ⊥
unfolding pending
not_none s k below h none =
    clash (sym (may_pass s k h) ∙ none_passes s.lowest (λ k. is_above s.lowest (has s.in_service) k && is_wanted s k) below none k h.is_level)

may_of : (s : Controller) (k : ℕ) → IsNext s k → MayInterrupt s k
may_of s k h = record { is_level = h.is_level; requested = h.requested; unmasked = h.unmasked; above_service = h.above_service }

-- two levels of one priority are one
same_rank : (lowest j k : ℕ) → lowest < 8 → j < 8 → k < 8 → rank lowest j ≡ rank lowest k → j ≡ k
same_rank lowest j k below a b e = sym (level_of_rank lowest j below a) ∙ (ap (level_at lowest) e ∙ level_of_rank lowest k below b)

one_next : (s : Controller) (j k : ℕ) → s.lowest < 8 → IsNext s j → IsNext s k → j ≡ k
one_next s j k below h g =
    let le = h.highest k g.is_level g.requested g.unmasked in
    let ge = g.highest j h.is_level h.requested h.unmasked in
    same_rank s.lowest j k below h.is_level g.is_level (omega (arith, le, ge))

next_found : (o : Option ℕ) (s : Controller) (k : ℕ) → s.lowest < 8 → IsNext s k → pending s ≡ o → o ≡ Some k
next_found None s k below h e = absurd (not_none s k below (may_of s k h) e)
next_found (Some j) s k below h e = ap Some (one_next s j k below (pending_is_next s j below e) h)

pub next_is_pending : (s : Controller) (k : ℕ) → s.lowest < 8 → IsNext s k → pending s ≡ Some k
next_is_pending s k below h = next_found (pending s) s k below h refl

some_up : (o : Option ℕ) → (o ≡ None → ⊥) → is_some o ≡ true
some_up None f = absurd (f refl)
some_up (Some k) f = refl

pub line_up : (s : Controller) (k : ℕ) → s.lowest < 8 → s.mode_8086 ≡ true → MayInterrupt s k → int_line s ≡ true
line_up s k below mode h = and_from s.mode_8086 (is_some (pending s)) mode (some_up (pending s) (not_none s k below h))

pub line_mode : (s : Controller) → int_line s ≡ true → s.mode_8086 ≡ true
line_mode s h = (and_parts s.mode_8086 (is_some (pending s)) h).0

level_taken : (o : Option ℕ) (s : Controller) → s.lowest < 8 → pending s ≡ o → is_some o ≡ true → (k : ℕ) × IsNext s k × (vector s ≡ s.base + k) × (acknowledged s ≡ taken (Some k) s)
level_taken None s below e up = absurd (clash (sym up))
level_taken (Some k) s below e up = (k, pending_is_next s k below e, ap (λ (o : Option ℕ). s.base + unwrap_or o 0) e, ap (λ (o : Option ℕ). taken o s) e)

pub line_level : (s : Controller) → s.lowest < 8 → int_line s ≡ true → (k : ℕ) × IsNext s k × (vector s ≡ s.base + k) × (acknowledged s ≡ taken (Some k) s)
line_level s below h = level_taken (pending s) s below refl (and_parts s.mode_8086 (is_some (pending s)) h).1

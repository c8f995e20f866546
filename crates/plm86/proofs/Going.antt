-- A run of the meaning, one choice after another.
use Rattle.std.proofs.Common.{◌≡◌, ℕ, zero, suc, ◌+◌, ◌-◌, ◌<◌, ◌≤◌, ◌++◌, Bool, true, false, cond, option_map, List, [], ◌∷◌, Option, Some, None, Result, Ok, Err, refl, sym, ap, ap₂, ◌∙◌, subst, append_assoc, append-nil, drop, drop-cons, get_or, length, arith}
use Rattle.std.proofs.lemmas.List.{drop_all}
use Rattle.std.specs.Prelude.{map, replicate}
use Rattle.std.proofs.lemmas.Grind.{flat_map-append}
use Rattle.std.proofs.KnownBytes.{Appends-trans, Appends-nil}
use Rattle.word86.specs.declared.event.Event.{Event}
use Rattle.word86.specs.declared.label.Label.{Label}
use Rattle.word86.specs.Sink.{Appends, Cut, Rises}
use Rattle.listing_map.specs.Lines.{label_line, end_line}
use Rattle.word86.specs.declared.power_on.PowerOn.{PowerOn}
use Rattle.ppi_kbd.specs.Chips.{ChipState, reset}
use Rattle.ppi_kbd.specs.Ports.{Shows}
use Rattle.ppi_kbd.specs.BoardChips.{board_chips}
use Rattle.plm_decl.specs.declared.names.Names.{Names}
use Rattle.plm_decl.specs.declared.placement.Placement.{Placement}
use Rattle.plm_decl.specs.Placement.{sizes_of}
use Rattle.plm_type.specs.Next.{next}
use Rattle.plm_type.specs.Programs.{procedures_of, handler_rest}
use Rattle.plm_type.specs.Rest.{Rest, Main, Handler}
use Rattle.plm_meaning.specs.Context.{to_run_of}
use Rattle.plm_meaning.specs.declared.meaning.Step.{Step}
use Rattle.plm_meaning.specs.declared.meaning.Meaning.{Meaning}
use Rattle.plm_meaning.specs.declared.meaning.Stop.TheVariants as stops
use Rattle.plm_type.specs.declared.program.Line.{Line}
use Rattle.plm_meaning.specs.Around.{names_of}
use Rattle.plm_meaning.specs.Meaning.{state_of, leads, leads_in, IsRunOf, Opens, Made, Stopped}
use Rattle.plm_meaning.specs.Shown.{store_of, labels_of}
use Rattle.plm_meaning.specs.Store.{Store, shared}
use Rattle.plm_meaning.specs.System.{Choice, Program, Occurs, Enter, Leave, Idle, State, is_interrupted, enter_step}
use Rattle.plm_meaning.specs.Taken.{Taken, Makes, BadAt, taken_of}
use Rattle.board.specs.Trace.{lines}
use Rattle.plm86.specs.Mean.{Mid, one_step, turn_choices, choices_from, unless_refused, behind, goes_on, first_allowed, run_of, meant, last_line, run_text}
use Rattle.plm86.specs.Inner.Meaning.{a_step, label_of, event_choices, Came, IsIdle, Far, Ended, Stops}
use Rattle.plm86.specs.declared.mean.MeanEnd.{MeanEnd}
use Rattle.plm86.specs.declared.mean.MeanEnd.TheVariants as ends
use Rattle.plm86.specs.declared.mean.Ending.{Ending}
use Rattle.plm86.specs.declared.mean.Ending.TheVariants as endings

-- ---- texts

lines-append : (xs ys : List Label) → lines (xs ++ ys) ≡ lines xs ++ lines ys
lines-append xs ys = flat_map-append label_line xs ys

-- a beginning of the first text is one of both
pub cut_longer : (a b : Option (List ℕ)) (s t : List ℕ) → Cut a b s → Cut a b (s ++ t)
cut_longer a b s t h = (h.0, h.1 ++ t, ap (λ (l : List ℕ). l ++ t) h.2 ∙ append_assoc h.0 h.1 t, h.3)

-- the second text's beginning, after the first
pub cut_after : (a b c : Option (List ℕ)) (s t : List ℕ) → Appends a b s → Cut b c t → Cut a c (s ++ t)
cut_after a b c s t first h = (s ++ h.0, h.1, ap (λ (l : List ℕ). s ++ l) h.2 ∙ sym (append_assoc s h.0 h.1), Appends-trans a b c s h.0 first h.3)

-- ---- the first choice that is allowed

module _ (names : Names) (placement : Placement) where
  pub kept : (m n : Meaning) → n.around ≡ m.around → IsRunOf m names placement → IsRunOf n names placement
  kept m n e r = record { declares = ap names_of e ∙ r.declares; places = ap (λ a. a.placement.now) e ∙ r.places }

  leads_are : (m : Meaning) (c : Choice Event) (s : Mid) → IsRunOf m names placement → leads names placement c s ≡ leads_in m c s
  leads_are m c s r = ap₂ (λ (n : Names) (l : Placement). leads n l c s) (sym r.declares) (sym r.places)

  abbrev makes_silently : Mid → Taken (Store ChipState) Rest Label
  makes_silently s = Makes s []

  -- what comes by these choices leads from one run to the other, with this label
  abbrev pub GoesTo : (m n : Meaning) → List (Choice Event) → Option Label → ChipState → Type 0
  GoesTo m n cs l p = (q : ChipState) × Shows n.store.ports q × (first_allowed names placement cs (state_of m p) ≡ Makes (state_of n q) (labels_of l))

  pub makes_first : (m n : Meaning) (c : Choice Event) (cs : List (Choice Event)) (l : Option Label) → Made m n c l → IsRunOf m names placement → (p : ChipState) → Shows m.store.ports p → GoesTo m n (c ∷ cs) l p
  makes_first m n c cs l made r p shows =
      let x = made p shows in
      (x.0, x.1, ap (λ (t : Taken (Store ChipState) Rest Label). unless_refused t (first_allowed names placement cs (state_of m p))) (leads_are m c (state_of m p) r ∙ x.2))

  pub gives_way : (m n : Meaning) (c : Choice Event) (cs : List (Choice Event)) → Stopped m n c stops.NotAllowed → IsRunOf m names placement → (p : ChipState) → Shows m.store.ports p
      → first_allowed names placement (c ∷ cs) (state_of m p) ≡ first_allowed names placement cs (state_of n p)
  gives_way m n c cs stopped r p shows =
      let x = stopped p shows in
      ap (λ (t : Taken (Store ChipState) Rest Label). unless_refused t (first_allowed names placement cs (state_of m p))) (leads_are m c (state_of m p) r ∙ x.0)
      ∙ ap (first_allowed names placement cs) (sym x.1)

  pub goes_behind : (m n k : Meaning) (c : Choice Event) (cs : List (Choice Event)) (l : Option Label) → Stopped m n c stops.NotAllowed → IsRunOf m names placement → (p : ChipState) → Shows m.store.ports p → GoesTo n k cs l p → GoesTo m k (c ∷ cs) l p
  goes_behind m n k c cs l stopped r p shows x = (x.0, x.1, gives_way m n c cs stopped r p shows ∙ x.2)

  pub idle_behind : (m n : Meaning) (c : Choice Event) (cs : List (Choice Event)) → Stopped m n c stops.NotAllowed → n.around ≡ m.around → IsIdle n cs → IsRunOf m names placement → (p : ChipState) → Shows m.store.ports p
      → first_allowed names placement (c ∷ cs) (state_of m p) ≡ Makes (state_of m p) []
  idle_behind m n c cs stopped same idle r p shows =
      let x = stopped p shows in
      gives_way m n c cs stopped r p shows ∙ idle names placement (kept m n same r) p x.2 ∙ ap (λ (s : Mid). makes_silently s) x.1

  pub stops_behind : (m n : Meaning) (c : Choice Event) (cs : List (Choice Event)) (e : Ending) → Stopped m n c stops.NotAllowed → IsRunOf m names placement → (p : ChipState) → Shows m.store.ports p
      → Stops e (first_allowed names placement cs (state_of n p)) → Stops e (first_allowed names placement (c ∷ cs) (state_of m p))
  stops_behind m n c cs e stopped r p shows x = subst (Stops e) (sym (gives_way m n c cs stopped r p shows)) x

  pub is_bad : (m n : Meaning) (c : Choice Event) (cs : List (Choice Event)) (at : Line) → Stopped m n c (stops.Bad at) → IsRunOf m names placement → (p : ChipState) → Shows m.store.ports p
      → first_allowed names placement (c ∷ cs) (state_of m p) ≡ BadAt at.«module» at.line
  is_bad m n c cs at stopped r p shows =
      ap (λ (t : Taken (Store ChipState) Rest Label). unless_refused t (first_allowed names placement cs (state_of m p))) (leads_are m c (state_of m p) r ∙ (stopped p shows).0)

  -- ---- where no interrupt can be taken, that it is entered need not be tried

  abbrev can_enter : Meaning → ChipState → Bool
  can_enter m p = is_interrupted (shared board_chips) {R = Rest} (option_map (λ h. Handler (to_run_of h)) m.handler) m.on (store_of m.store p)

  abbrev entered : (can : Bool) → (m : Meaning) → ChipState → Taken (Store ChipState) Rest Label
  entered can m p =
      taken_of
      (enter_step (shared board_chips) Rest (next placement.offsets.items (sizes_of names) (procedures_of names)) (handler_rest names) can (Main (to_run_of m.main)) (store_of m.store p))
      None

  pub enters : (m : Meaning) (p : ChipState) → can_enter m p ≡ true → first_allowed names placement a_step (state_of m p) ≡ first_allowed names placement (Enter ∷ []) (state_of m p)
  enters m p e =
      let s = state_of m p in
      ap (λ (b : Bool). unless_refused (entered b m p) (first_allowed names placement (Program ∷ Leave ∷ []) s)) e
      ∙ sym (ap (λ (b : Bool). unless_refused (entered b m p) (makes_silently s)) e)

  pub goes_past : (m : Meaning) (p : ChipState) → can_enter m p ≡ false → first_allowed names placement a_step (state_of m p) ≡ first_allowed names placement (Program ∷ Leave ∷ []) (state_of m p)
  goes_past m p e = ap (λ (b : Bool). unless_refused (entered b m p) (first_allowed names placement (Program ∷ Leave ∷ []) (state_of m p))) e

  -- ---- what is left of a run

  module _ (whole : List Label × MeanEnd) (left : List (List (Choice Event))) (cs : List (Choice Event)) (m : Meaning) (old a : Option (List ℕ)) (before f : ℕ) (x : Far names placement whole (cs ∷ left) m old a before f) where
    pub far_goes : (n : Meaning) (b : Option (List ℕ)) (g : ℕ) (l : Option Label) → n.around ≡ m.around → GoesTo m n cs l x.chips → Appends a b (lines (labels_of l)) × (g ≡ f) → Far names placement whole left n old b before g
    far_goes n b g l same y wrote =
        let ls = labels_of l in
        let rest = run_of names placement left in
        let went : run_of names placement (cs ∷ left) (state_of m x.chips) ≡ behind ls (rest (state_of n y.0)) = ap (λ (t : Taken (Store ChipState) Rest Label). goes_on t rest) y.2 in
        record {
          run = kept m n same x.run;
          chips = y.0;
          shows = y.1;
          done = x.done ++ ls;
          labels = append_assoc x.done ls (rest (state_of n y.0)).0 ∙ sym (ap (λ (r : List Label × MeanEnd). x.done ++ r.0) went) ∙ x.labels;
          ends = sym (ap (λ (r : List Label × MeanEnd). r.1) went) ∙ x.ends;
          taken = subst (Appends old b) (sym (lines-append x.done ls)) (Appends-trans old a b (lines x.done) (lines ls) x.taken wrote.0);
          same = wrote.1 ∙ x.same;
        }

    pub far_breaks : (n : Meaning) (b : Option (List ℕ)) (g : ℕ) (l : Option Label) → GoesTo m n cs l x.chips → Cut a b (lines (labels_of l)) × Rises f g → Cut old b (lines whole.0) × Rises before g
    far_breaks n b g l y wrote =
        let ls = labels_of l in
        let rest = run_of names placement left in
        let went : run_of names placement (cs ∷ left) (state_of m x.chips) ≡ behind ls (rest (state_of n y.0)) = ap (λ (t : Taken (Store ChipState) Rest Label). goes_on t rest) y.2 in
        let more = (rest (state_of n y.0)).0 in
        let all : lines x.done ++ (lines ls ++ lines more) ≡ lines whole.0 =
        sym (lines-append x.done (ls ++ more) ∙ ap (λ (t : List ℕ). lines x.done ++ t) (lines-append ls more))
        ∙ ap lines (sym (ap (λ (r : List Label × MeanEnd). x.done ++ r.0) went) ∙ x.labels) in
        (subst (Cut old b) all (cut_after old a b (lines x.done) (lines ls ++ lines more) x.taken (cut_longer a b (lines ls) (lines more) wrote.0)), subst (λ (z : ℕ). Rises z g) x.same wrote.1)

    pub far_ends : (e : Ending) → Stops e (first_allowed names placement cs (state_of m x.chips)) → Ended whole old a before f e
    far_ends (endings.Bad at) s =
        let rest = run_of names placement left in
        let went : run_of names placement (cs ∷ left) (state_of m x.chips) ≡ ([], ends.Bad at.«module» at.line) = ap (λ (t : Taken (Store ChipState) Rest Label). goes_on t rest) s in
        let all : x.done ≡ whole.0 = sym (append-nil x.done) ∙ sym (ap (λ (r : List Label × MeanEnd). x.done ++ r.0) went) ∙ x.labels in
        (sym x.ends ∙ ap (λ (r : List Label × MeanEnd). r.1) went, subst (λ (ls : List Label). Appends old a (lines ls)) all x.taken, x.same)
    far_ends endings.Memory s =
        let more = (run_of names placement (cs ∷ left) (state_of m x.chips)).0 in
        ((lines x.done, lines more, sym (ap lines x.labels) ∙ lines-append x.done more, x.taken), x.same)
    far_ends endings.Broken s = absurd s

-- ---- what came of choices

-- of other choices, where their first one that is allowed is the same
pub came_same : (m n : Meaning) (cs ds : List (Choice Event)) (came : Result (Option Step) Ending)
    → ((names : Names) (placement : Placement) (p : ChipState) → Shows m.store.ports p → first_allowed names placement ds (state_of m p) ≡ first_allowed names placement cs (state_of m p))
    → Came m n cs came → Came m n ds came
came_same m n cs ds (Ok s) same x = record {
  run = x.run;
  each = λ names placement r p shows. let y = x.each names placement r p shows in (y.0, y.1, same names placement p shows ∙ y.2);
}
came_same m n cs ds (Err e) same x = record {
  run = x.run;
  each = λ names placement r p shows. subst (Stops e) (sym (same names placement p shows)) (x.each names placement r p shows);
}

pub came_first : (m n : Meaning) (c : Choice Event) (cs : List (Choice Event)) (s : Step) → Made m n c s.label → n.around ≡ m.around → Came m n (c ∷ cs) (Ok (Some s))
came_first m n c cs s made same = record {
  run = same;
  each = λ names placement r p shows. makes_first names placement m n c cs s.label made r p shows;
}

pub came_of_none : (m n : Meaning) (c : Choice Event) → Stopped m n c stops.NotAllowed → n.around ≡ m.around → Came m n (c ∷ []) (Ok None)
came_of_none m n c stopped same = record {
  run = same;
  each = λ names placement r p shows. (p, (stopped p shows).2, gives_way names placement m n c [] stopped r p shows);
}

pub came_to_bad : (m n : Meaning) (c : Choice Event) (cs : List (Choice Event)) (at : Line) → Stopped m n c (stops.Bad at) → n.around ≡ m.around → Came m n (c ∷ cs) (Err (endings.Bad at))
came_to_bad m n c cs at stopped same = record {
  run = same;
  each = λ names placement r p shows. is_bad names placement m n c cs at stopped r p shows;
}

pub came_short : (m n : Meaning) (cs : List (Choice Event)) → n.around ≡ m.around → Came m n cs (Err endings.Memory)
came_short m n cs same = record {
  run = same;
  each = λ names placement r p shows. tt;
}

-- behind a choice that is not allowed
pub came_behind : (m n k : Meaning) (c : Choice Event) (cs : List (Choice Event)) (came : Result (Option Step) Ending) → Stopped m n c stops.NotAllowed → n.around ≡ m.around → Came n k cs came → Came m k (c ∷ cs) came
came_behind m n k c cs (Ok s) stopped same x = record {
  run = x.run ∙ same;
  each = λ names placement r p shows. goes_behind names placement m n k c cs (label_of s) stopped r p shows (x.each names placement (kept names placement m n same r) p (stopped p shows).2);
}
came_behind m n k c cs (Err e) stopped same x = record {
  run = x.run ∙ same;
  each = λ names placement r p shows. stops_behind names placement m n c cs e stopped r p shows (x.each names placement (kept names placement m n same r) p (stopped p shows).2);
}

pub idle_alone : (m n : Meaning) (c : Choice Event) → Stopped m n c stops.NotAllowed → n.around ≡ m.around → IsIdle m (c ∷ [])
idle_alone m n c stopped same = λ names placement r p shows. idle_behind names placement m n c [] stopped same (λ names placement r p shows. refl) r p shows

-- ---- waiting

module _ (names : Names) (placement : Placement) where
  waits_or_not : (can : Bool) (s : Mid) → unless_refused (taken_of (cond can None (Some (s, []))) None) (Makes s []) ≡ Makes s []
  waits_or_not true s = refl
  waits_or_not false s = refl

  -- where main waits nothing comes, as where nothing is allowed
  idle_changes_nothing : (s : Mid) → first_allowed names placement (Idle ∷ []) s ≡ Makes s []
  idle_changes_nothing (State main None on true w a b) = waits_or_not (is_interrupted (shared board_chips) {R = Rest} None on w) (State main None on true w a b)
  idle_changes_nothing (State main None on false w a b) = refl
  idle_changes_nothing (State main (Some h) on halted w a b) = refl

  one_step_is : (s : Mid) → first_allowed names placement one_step s ≡ first_allowed names placement a_step s
  one_step_is s =
      let choose = leads names placement in
      ap (λ (t : Taken (Store ChipState) Rest Label). unless_refused (choose Enter s) (unless_refused (choose Program s) (unless_refused (choose Leave s) t))) (idle_changes_nothing s)

  -- where nothing comes in one turn, nothing does in all of them
  idle_run : (count : ℕ) (left : List (List (Choice Event))) (s : Mid) → first_allowed names placement one_step s ≡ Makes s [] → run_of names placement (replicate count one_step ++ left) s ≡ run_of names placement left s
  idle_run zero left s e = refl
  idle_run (suc d) left s e =
      ap (λ (t : Taken (Store ChipState) Rest Label). goes_on t (run_of names placement (replicate d one_step ++ left))) e ∙ idle_run d left s e

module _ (names : Names) (placement : Placement) (whole : List Label × MeanEnd) (m : Meaning) (old a : Option (List ℕ)) (before f : ℕ) where
  -- other choices that make the same run
  far_same : (left other : List (List (Choice Event))) → (x : Far names placement whole left m old a before f)
      → run_of names placement other (state_of m x.chips) ≡ run_of names placement left (state_of m x.chips) → Far names placement whole other m old a before f
  far_same left other x e = record {
    run = x.run;
    chips = x.chips;
    shows = x.shows;
    done = x.done;
    labels = ap (λ (r : List Label × MeanEnd). x.done ++ r.0) e ∙ x.labels;
    ends = ap (λ (r : List Label × MeanEnd). r.1) e ∙ x.ends;
    taken = x.taken;
    same = x.same;
  }

  -- that main waits need not be tried
  pub far_one_step : (left : List (List (Choice Event))) → Far names placement whole (one_step ∷ left) m old a before f → Far names placement whole (a_step ∷ left) m old a before f
  far_one_step left x =
      far_same (one_step ∷ left) (a_step ∷ left) x
      (ap (λ (t : Taken (Store ChipState) Rest Label). goes_on t (run_of names placement left)) (sym (one_step_is names placement (state_of m x.chips))))

  -- where nothing comes, one turn is as good as all of them
  pub far_idle : (count : ℕ) (left : List (List (Choice Event))) → IsIdle m a_step → Far names placement whole (replicate count one_step ++ left) m old a before f
      → Far names placement whole (a_step ∷ left) m old a before f
  far_idle count left idle x =
      let s = state_of m x.chips in
      let none = idle names placement x.run x.chips x.shows in
      far_same (replicate count one_step ++ left) (a_step ∷ left) x
      (ap (λ (t : Taken (Store ChipState) Rest Label). goes_on t (run_of names placement left)) none
      ∙ sym (idle_run names placement count left s (one_step_is names placement s ∙ none)))

-- ---- turns

abbrev alone : Event → List (Choice Event)
alone e = Occurs e ∷ []

event_left : (es : List Event) (k : ℕ) (d : Event) (left : List (List (Choice Event))) → k < length es
    → event_choices (drop k es) ++ left ≡ (Occurs (get_or es k d) ∷ []) ∷ (event_choices (drop (k + 1) es) ++ left)
event_left es k d left lt =
    let next : suc k ≡ k + 1 = omega arith in
    ap (λ (xs : List Event). map alone xs ++ left) (drop-cons es k d lt) ∙ ap (λ (n : ℕ). alone (get_or es k d) ∷ (map alone (drop n es) ++ left)) next

steps_left : (count turn : ℕ) (left : List (List (Choice Event))) → turn < count → replicate (count - turn) one_step ++ left ≡ one_step ∷ (replicate (count - (turn + 1)) one_step ++ left)
steps_left count turn left lt =
    let e : count - turn ≡ suc (count - (turn + 1)) = omega (arith, lt) in
    ap (λ (n : ℕ). replicate n one_step ++ left) e

no_steps_left : (count turn : ℕ) (left : List (List (Choice Event))) → count ≤ turn → replicate (count - turn) one_step ++ left ≡ left
no_steps_left count turn left le = let e : count - turn ≡ 0 = omega (arith, le) in ap (λ (n : ℕ). replicate n one_step ++ left) e

-- turns without events have their steps alone
quiet_left : (due : ℕ → List Event) (d rest turn later : ℕ) → later ≡ turn + d → ((t : ℕ) → turn ≤ t → t < later → due t ≡ []) → choices_from due (d + rest) turn ≡ replicate d one_step ++ choices_from due rest later
quiet_left due zero rest turn later e quiet =
    let none : 0 + rest ≡ rest = omega arith in
    let same : turn ≡ later = omega (arith, e) in
    ap₂ (λ (n t : ℕ). choices_from due n t) none same
quiet_left due (suc d) rest turn later e quiet =
    let more : suc d + rest ≡ suc (d + rest) = omega arith in
    ap (λ (n : ℕ). choices_from due n turn) more
    ∙ ap (λ (es : List Event). turn_choices es ++ choices_from due (d + rest) (suc turn)) (quiet turn (omega arith) (omega (arith, e)))
    ∙ ap (λ (ls : List (List (Choice Event))). one_step ∷ ls) (quiet_left due d rest (suc turn) later (omega (arith, e)) (λ t ge lt. quiet t (omega (arith, ge)) lt))

-- a turn's events, and then the steps of the turns up to a later one, none of which has events
stretch_left : (due : ℕ → List Event) (stop turn later : ℕ) → turn < later → later ≤ stop → ((t : ℕ) → turn < t → t < later → due t ≡ [])
    → choices_from due (stop - turn) turn ≡ event_choices (due turn) ++ (replicate (later - turn) one_step ++ choices_from due (stop - later) later)
stretch_left due stop turn later lt le quiet =
    let d = later - (turn + 1) in
    let rest = choices_from due (stop - later) later in
    let count : stop - turn ≡ suc (d + (stop - later)) = omega (arith, lt, le) in
    let all : suc d ≡ later - turn = omega (arith, lt) in
    ap (λ (n : ℕ). choices_from due n turn) count
    ∙ append_assoc (event_choices (due turn)) (one_step ∷ []) (choices_from due (d + (stop - later)) (suc turn))
    ∙ ap (λ (ls : List (List (Choice Event))). event_choices (due turn) ++ (one_step ∷ ls)) (quiet_left due d (stop - later) (suc turn) later (omega (arith, lt)) (λ t ge below. quiet t (omega (arith, ge)) below))
    ∙ ap (λ (n : ℕ). event_choices (due turn) ++ (replicate n one_step ++ rest)) all

none_left : (due : ℕ → List Event) (stop turn : ℕ) → stop ≤ turn → choices_from due (stop - turn) turn ≡ []
none_left due stop turn le = let count : stop - turn ≡ 0 = omega (arith, le) in ap (λ (n : ℕ). choices_from due n turn) count

module _ (names : Names) (placement : Placement) (whole : List Label × MeanEnd) (m : Meaning) (old a : Option (List ℕ)) (before f : ℕ) where
  abbrev pub FarWith : List (List (Choice Event)) → Type 0
  FarWith left = Far names placement whole left m old a before f

  -- an event of a turn is what comes next
  pub far_event : (es : List Event) (k : ℕ) (d : Event) (left : List (List (Choice Event))) → k < length es
      → FarWith (event_choices (drop k es) ++ left) → FarWith ((Occurs (get_or es k d) ∷ []) ∷ (event_choices (drop (k + 1) es) ++ left))
  far_event es k d left lt x = subst FarWith (event_left es k d left lt) x

  -- after the events of a turn its step is left
  pub far_events : (es : List Event) (k : ℕ) (left : List (List (Choice Event))) → length es ≤ k → FarWith (event_choices (drop k es) ++ left) → FarWith left
  far_events es k left le x = subst (λ (xs : List Event). FarWith (event_choices xs ++ left)) (drop_all k es le) x

  pub far_step : (count turn : ℕ) (left : List (List (Choice Event))) → turn < count
      → FarWith (replicate (count - turn) one_step ++ left) → FarWith (a_step ∷ (replicate (count - (turn + 1)) one_step ++ left))
  far_step count turn left lt x = far_one_step names placement whole m old a before f (replicate (count - (turn + 1)) one_step ++ left) (subst FarWith (steps_left count turn left lt) x)

  pub far_first_step : (count : ℕ) (left : List (List (Choice Event))) → FarWith (replicate count one_step ++ left) → FarWith (replicate (count - 0) one_step ++ left)
  far_first_step count left x = let all : count ≡ count - 0 = omega arith in subst (λ (n : ℕ). FarWith (replicate n one_step ++ left)) all x

  pub far_last_step : (count turn : ℕ) (left : List (List (Choice Event))) → count ≤ turn → FarWith (replicate (count - turn) one_step ++ left) → FarWith left
  far_last_step count turn left le x = subst FarWith (no_steps_left count turn left le) x

  pub far_stretch : (due : ℕ → List Event) (stop turn later : ℕ) → turn < later → later ≤ stop → ((t : ℕ) → turn < t → t < later → due t ≡ [])
      → FarWith (choices_from due (stop - turn) turn) → FarWith (event_choices (due turn) ++ (replicate (later - turn) one_step ++ choices_from due (stop - later) later))
  far_stretch due stop turn later lt le quiet x = subst FarWith (stretch_left due stop turn later lt le quiet) x

  pub far_last : (due : ℕ → List Event) (stop turn : ℕ) → stop ≤ turn → FarWith (choices_from due (stop - turn) turn) → FarWith []
  far_last due stop turn le x = subst FarWith (none_left due stop turn le) x

  pub far_first : (due : ℕ → List Event) (stop : ℕ) → FarWith (choices_from due stop 0) → FarWith (choices_from due (stop - 0) 0)
  far_first due stop x = let all : stop ≡ stop - 0 = omega arith in subst (λ (n : ℕ). FarWith (choices_from due n 0)) all x

-- ---- a whole run

-- where the power comes on, all is left
pub far_starts : (names : Names) (placement : Placement) (power : PowerOn) (due : ℕ → List Event) (stop : ℕ) (m : Meaning) → Opens m names placement power → (a : Option (List ℕ)) (f : ℕ)
    → Far names placement (meant names placement power due stop) (choices_from due stop 0) m a a f f
far_starts names placement power due stop m opens a f =
    let rest = run_of names placement (choices_from due stop 0) in
    record {
      run = opens.run;
      chips = reset;
      shows = opens.chips;
      done = [];
      labels = ap (λ (s : Mid). (rest s).0) opens.state;
      ends = ap (λ (s : Mid). (rest s).1) opens.state;
      taken = Appends-nil a;
      same = refl;
    }

module _ (names : Names) (placement : Placement) (whole : List Label × MeanEnd) (m : Meaning) (old a : Option (List ℕ)) (before f : ℕ) (x : Far names placement whole [] m old a before f) where
  lines_done : lines x.done ≡ lines whole.0
  lines_done = ap lines (sym (append-nil x.done) ∙ x.labels)

  text_is : (stop : ℕ) → lines x.done ++ end_line stop ≡ run_text stop whole
  text_is stop = ap₂ (λ (ls : List ℕ) (e : MeanEnd). ls ++ last_line stop e) lines_done x.ends

  -- the stop was reached, and its line written
  pub far_closes : (stop : ℕ) (b : Option (List ℕ)) (g : ℕ) → Appends a b (end_line stop) × (g ≡ f) → (ends.Stopped ≡ whole.1) × Appends old b (run_text stop whole) × (g ≡ before)
  far_closes stop b g wrote =
      (x.ends, subst (Appends old b) (text_is stop) (Appends-trans old a b (lines x.done) (end_line stop) x.taken wrote.0), wrote.1 ∙ x.same)

  -- the sink failed in the last line
  pub far_breaks_last : (stop : ℕ) (b : Option (List ℕ)) (g : ℕ) → Cut a b (end_line stop) × Rises f g → Cut old b (run_text stop whole) × Rises before g
  far_breaks_last stop b g wrote =
      (subst (Cut old b) (text_is stop) (cut_after old a b (lines x.done) (end_line stop) x.taken wrote.0), subst (λ (z : ℕ). Rises z g) x.same wrote.1)

module _ (stop : ℕ) (whole : List Label × MeanEnd) (old new : Option (List ℕ)) (before after : ℕ) where
  -- a run that a Bad step ended has no last line
  pub bad_closes : (at : Line) → Ended whole old new before after (endings.Bad at) → (ends.Bad at.«module» at.line ≡ whole.1) × Appends old new (run_text stop whole) × (after ≡ before)
  bad_closes at x =
      let none : lines whole.0 ≡ run_text stop whole = sym (append-nil (lines whole.0)) ∙ ap (λ (e : MeanEnd). lines whole.0 ++ last_line stop e) (sym x.0) in
      (sym x.0, subst (Appends old new) none x.1, x.2)

  -- what was taken of the labels' lines is a beginning of the run's text
  pub cut_of_run : Cut old new (lines whole.0) → Cut old new (run_text stop whole)
  cut_of_run x = cut_longer old new (lines whole.0) (last_line stop whole.1) x

-- nothing was taken
pub nothing_taken : (text : List ℕ) (a : Option (List ℕ)) → Cut a a text
nothing_taken text a = ([], text, refl, Appends-nil a)

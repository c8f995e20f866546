-- The labels of `mean` are those of a run that the language allows.
use Rattle.std.proofs.Common.{◌≡◌, ℕ, Bool, true, false, ◌++◌, List, [], ◌∷◌, Option, Some, None, refl, sym, ap, ◌∙◌, append_assoc, append-nil, inl, inr, ◌⊎◌}
use Rattle.std.proofs.lemmas.Option.{some_pair_parts}
use Rattle.word86.specs.Action.{Shared, Action, Silent, Touch, Enable, Disable, Halt, Over, Bad, IsBad}
use Rattle.word86.specs.declared.event.Event.{Event}
use Rattle.word86.specs.declared.label.Label.{Label}
use Rattle.ppi_kbd.specs.Chips.{ChipState}
use Rattle.ppi_kbd.specs.BoardChips.{board_chips}
use Rattle.plm_decl.specs.declared.names.Names.{Names}
use Rattle.plm_decl.specs.declared.placement.Placement.{Placement}
use Rattle.plm_decl.specs.Placement.{sizes_of}
use Rattle.plm_type.specs.Rest.{Rest}
use Rattle.plm_type.specs.Next.{next}
use Rattle.plm_type.specs.Programs.{procedures_of, handler_rest}
use Rattle.plm_meaning.specs.Meaning.{first_of, leads}
use Rattle.plm_meaning.specs.Store.{Store, shared}
use Rattle.plm_meaning.specs.System.{Choice, Program, Occurs, Enter, Leave, Idle, System, State, step, steps, is_interrupted, and_then, labelled, BadIsNext}
use Rattle.plm_meaning.specs.Taken.{Taken, Makes, BadAt, Refused, taken_of, bad_next, bad_place, unless}
use Rattle.plm86.specs.Mean.{Mid, unless_refused, behind, goes_on, first_allowed, run_of, choices_from, meant, IsAllowed, MeanLaw}
use Rattle.plm86.specs.declared.mean.MeanEnd.{MeanEnd}
use Rattle.plm86.specs.declared.mean.MeanEnd.TheVariants as ends

-- ---- what was taken

step_made : {S R L : Type 0} → (o : Option (System S R × List L)) (b : Option (ℕ × ℕ)) (t : System S R) (ls : List L) → taken_of o b ≡ Makes t ls → o ≡ Some (t, ls)
step_made (Some x) b t ls h =
    let state : x.0 ≡ t = cc in
    let labels : x.1 ≡ ls = cc in
    ap (λ s. Some (s, x.1)) state ∙ ap (λ l. Some (t, l)) labels
step_made None (Some x) t ls h = absurd cc
step_made None None t ls h = absurd cc

step_bad : {S R L : Type 0} → (o : Option (System S R × List L)) (b : Option (ℕ × ℕ)) (m l : ℕ) → taken_of o b ≡ BadAt m l → b ≡ Some (m, l)
step_bad (Some x) b m l h = absurd cc
step_bad None (Some x) m l h =
    let first : x.0 ≡ m = cc in
    let second : x.1 ≡ l = cc in
    ap (λ i. Some (i, x.1)) first ∙ ap (λ j. Some (m, j)) second
step_bad None None m l h = absurd cc

place_bad : {A R : Type 0} (a : Action A R) (b : ℕ × ℕ) → bad_place a ≡ Some b → IsBad a
place_bad (Bad m l) b h = tt
place_bad (Silent r) b h = absurd cc
place_bad (Touch x k) b h = absurd cc
place_bad (Enable r) b h = absurd cc
place_bad (Disable r) b h = absurd cc
place_bad (Halt r) b h = absurd cc
place_bad Over b h = absurd cc

unless_bad : (can : Bool) (o : Option (ℕ × ℕ)) (b : ℕ × ℕ) → unless can o ≡ Some b → (can ≡ false) × (o ≡ Some b)
unless_bad true o b h = absurd cc
unless_bad false o b h = (refl, h)

-- ---- one run after another

-- The labels before those of the first run stand before those of both.
labelled_both : {S L : Type 0} → (before ls ms : List L) (t u : S) (y : S × List L) (o : Option (S × List L)) → labelled before (Some y) ≡ Some (t, ls) → o ≡ Some (u, y.1 ++ ms) → labelled before o ≡ Some (u, ls ++ ms)
labelled_both before ls ms t u y o h e =
    let labels = (some_pair_parts y.0 t (before ++ y.1) ls h).1 in
    ap (labelled before) e ∙ ap (λ l. Some (u, l)) (sym (append_assoc before y.1 ms) ∙ ap (λ l. l ++ ms) labels)

state_labelled : {S L : Type 0} → (before ls : List L) (t : S) (y : S × List L) → labelled before (Some y) ≡ Some (t, ls) → y.0 ≡ t
state_labelled before ls t y h = (some_pair_parts y.0 t (before ++ y.1) ls h).0

-- Where the first run leads on by the second, after a step too.
leads_on : {S L : Type 0} → (f g : S → Option (S × List L)) (t u : S) (ms : List L) → ((s : S) (ls : List L) → f s ≡ Some (t, ls) → g s ≡ Some (u, ls ++ ms))
    → (x : S × List L) (ls : List L) (o : Option (S × List L)) → f x.0 ≡ o → labelled x.1 o ≡ Some (t, ls) → labelled x.1 (g x.0) ≡ Some (u, ls ++ ms)
leads_on f g t u ms r x ls None is h = absurd cc
leads_on f g t u ms r x ls (Some y) is h =
    labelled_both x.1 ls ms t u y (g x.0) h (r x.0 y.1 (is ∙ ap (λ z. Some (z, y.1)) (state_labelled x.1 ls t y h)))

step_leads_on : {S L : Type 0} → (f g : S → Option (S × List L)) (t u : S) (ms : List L) → ((s : S) (ls : List L) → f s ≡ Some (t, ls) → g s ≡ Some (u, ls ++ ms))
    → (o : Option (S × List L)) (ls : List L) → and_then o (λ x. labelled x.1 (f x.0)) ≡ Some (t, ls) → and_then o (λ x. labelled x.1 (g x.0)) ≡ Some (u, ls ++ ms)
step_leads_on f g t u ms r None ls h = absurd cc
step_leads_on f g t u ms r (Some x) ls h = leads_on f g t u ms r x ls (f x.0) refl h

module _ (sh : Shared) (R : Type 0) (next : R → Action sh.Access R) (body : ℕ → R) where
  alone : (c : Choice sh.Event) (s t : System sh.State R) (ls : List sh.Label) → step sh R next body c s ≡ Some (t, ls) → steps sh R next body (c ∷ []) s ≡ Some (t, ls)
  alone c s t ls e =
      ap (λ (o : Option (System sh.State R × List sh.Label)). and_then o (λ x. labelled x.1 (steps sh R next body [] x.0))) e ∙ ap (λ (l : List sh.Label). Some (t, l)) (append-nil ls)

  both : (cs ds : List (Choice sh.Event)) (s t u : System sh.State R) (ls ms : List sh.Label) → steps sh R next body cs s ≡ Some (t, ls) → steps sh R next body ds t ≡ Some (u, ms)
      → steps sh R next body (cs ++ ds) s ≡ Some (u, ls ++ ms)
  both [] ds s t u ls ms a b =
      let same = some_pair_parts s t [] ls a in
      let state = same.0 in
      let labels = same.1 in
      ap (steps sh R next body ds) state ∙ b ∙ ap (λ (l : List sh.Label). Some (u, l ++ ms)) labels
  both (c ∷ cs) ds s t u ls ms a b =
      step_leads_on (steps sh R next body cs) (steps sh R next body (cs ++ ds)) t u ms (λ v l h. both cs ds v t u l ms h b) (step sh R next body c s) ls a

  bad_is_next : (c : Choice sh.Event) (s : System sh.State R) (b : ℕ × ℕ) → bad_next sh R next body c s ≡ Some b → BadIsNext sh R next body s
  bad_is_next Program (State main (Some h) on halted w i j) b e = place_bad (next h) b e
  bad_is_next Program (State main None on true w i j) b e = absurd cc
  bad_is_next Program (State main None on false w i j) b e =
      let x = unless_bad (is_interrupted sh {R = R} None on w) (bad_place (next main)) b e in
      (x.0, place_bad (next main) b x.1)
  bad_is_next (Occurs v) s b e = absurd cc
  bad_is_next Enter s b e = absurd cc
  bad_is_next Leave s b e = absurd cc
  bad_is_next Idle s b e = absurd cc

-- ---- a run of the meaning

-- what gives way to what comes instead was refused
makes_of : (x y : Taken (Store ChipState) Rest Label) (t : Mid) (ls : List Label) → unless_refused x y ≡ Makes t ls → (x ≡ Makes t ls) ⊎ (y ≡ Makes t ls)
makes_of (Makes u ms) y t ls h = inl h
makes_of (BadAt m l) y t ls h = inl h
makes_of Refused y t ls h = inr h

bad_of : (x y : Taken (Store ChipState) Rest Label) (m l : ℕ) → unless_refused x y ≡ BadAt m l → (x ≡ BadAt m l) ⊎ (y ≡ BadAt m l)
bad_of (Makes u ms) y m l h = inl h
bad_of (BadAt i j) y m l h = inl h
bad_of Refused y m l h = inr h

nothing_made : (s t : Mid) (ls : List Label) → Makes s [] ≡ Makes t ls → ◌≡◌ {A = Option (Mid × List Label)} (Some (s, [])) (Some (t, ls))
nothing_made s t ls h = step_made (Some (s, [])) None t ls h

module _ (names : Names) (placement : Placement) where
  abbrev all : List (Choice Event) → Mid → Option (Mid × List Label)
  all = steps (shared board_chips) Rest (next placement.offsets.items (sizes_of names) (procedures_of names)) (handler_rest names)

  abbrev is_next : Mid → Type 0
  is_next = BadIsNext (shared board_chips) Rest (next placement.offsets.items (sizes_of names) (procedures_of names)) (handler_rest names)

  one_made : (c : Choice Event) (s t : Mid) (ls : List Label) → leads names placement c s ≡ Makes t ls → all (c ∷ []) s ≡ Some (t, ls)
  one_made c s t ls h =
      let following = next placement.offsets.items (sizes_of names) (procedures_of names) in
      let body = handler_rest names in
      alone (shared board_chips) Rest following body c s t ls
      (step_made (step (shared board_chips) Rest following body c s) (bad_next (shared board_chips) Rest following body c s) t ls h)

  one_bad : (c : Choice Event) (s : Mid) (m l : ℕ) → leads names placement c s ≡ BadAt m l → is_next s
  one_bad c s m l h =
      let following = next placement.offsets.items (sizes_of names) (procedures_of names) in
      let body = handler_rest names in
      bad_is_next (shared board_chips) Rest following body c s (m, l)
      (step_bad (step (shared board_chips) Rest following body c s) (bad_next (shared board_chips) Rest following body c s) m l h)

  -- one of the choices is taken, or nothing comes
  taken_first : (cs : List (Choice Event)) (s t : Mid) (ls : List Label) → first_allowed names placement cs s ≡ Makes t ls → (ds : List (Choice Event)) × (all ds s ≡ Some (t, ls))
  taken_first [] s t ls h = ([], nothing_made s t ls h)
  taken_first (c ∷ cs) s t ls h =
      elim (makes_of (leads names placement c s) (first_allowed names placement cs s) t ls h) [
        | inl a ↦ (c ∷ [], one_made c s t ls a)
        | inr b ↦ taken_first cs s t ls b
      ]

  first_bad : (cs : List (Choice Event)) (s : Mid) (m l : ℕ) → first_allowed names placement cs s ≡ BadAt m l → is_next s
  first_bad [] s m l h = absurd cc
  first_bad (c ∷ cs) s m l h =
      elim (bad_of (leads names placement c s) (first_allowed names placement cs s) m l h) [
        | inl a ↦ one_bad c s m l a
        | inr b ↦ first_bad cs s m l b
      ]

  -- a run goes on from a step as it is allowed from there
  goes_allowed : (rest : Mid → List Label × MeanEnd) (cs : List (Choice Event)) (s : Mid) → ((t : Mid) → IsAllowed names placement t (rest t))
      → (x : Taken (Store ChipState) Rest Label) → first_allowed names placement cs s ≡ x → IsAllowed names placement s (goes_on x rest)
  goes_allowed rest cs s later (Makes t ls) is =
      let first = taken_first cs s t ls is in
      let more = later t in
      let following = next placement.offsets.items (sizes_of names) (procedures_of names) in
      record {
        choices = first.0 ++ more.choices;
        last = more.last;
        made = both (shared board_chips) Rest following (handler_rest names) first.0 more.choices s t more.last ls (rest t).0 first.1 more.made;
        bad = more.bad;
      }
  goes_allowed rest cs s later (BadAt m l) is = record { choices = []; last = s; made = refl; bad = λ i j e. first_bad cs s m l is }
  goes_allowed rest cs s later Refused is = record { choices = []; last = s; made = refl; bad = λ i j e. absurd cc }

  pub allowed : (xs : List (List (Choice Event))) (s : Mid) → IsAllowed names placement s (run_of names placement xs s)
  allowed [] s = record { choices = []; last = s; made = refl; bad = λ m l e. absurd cc }
  allowed (cs ∷ xs) s = goes_allowed (run_of names placement xs) cs s (allowed xs) (first_allowed names placement cs s) refl

pub mean_is_allowed : MeanLaw
mean_is_allowed names placement power due stop = allowed names placement (choices_from due stop 0) (first_of names placement power)

-- What a choice of the program leads to, by the action of the context that runs.
use Rattle.std.proofs.Common.{◌≡◌, ℕ, Bool, true, false, List, Option, Some, None, refl, ap, sym, ◌∙◌}
use Rattle.word86.specs.Action.{Shared, Action, Silent, Touch, Enable, Disable, Halt, Over, Bad, map_action, perform, on_after, halted_after}
use Rattle.plm_meaning.specs.System.{Program, System, State, and_then, is_interrupted, settled, counted}
use Rattle.plm_meaning.specs.Taken.{Taken, Makes, unless, bad_place, taken_of, taken}

-- ---- actions under a function

pub counted_map : {A R S : Type 0} (f : R → S) (can : Bool) (a : Action A R) (s w : ℕ) → counted can (map_action f a) s w ≡ counted can a s w
counted_map f false a s w = refl
counted_map f true (Silent r) s w = refl
counted_map f true (Touch a k) s w = refl
counted_map f true (Enable r) s w = refl
counted_map f true (Disable r) s w = refl
counted_map f true (Halt r) s w = refl
counted_map f true Over s w = refl
counted_map f true (Bad module_index line) s w = refl

pub on_map : {A R S : Type 0} (f : R → S) (a : Action A R) (on : Bool) → on_after (map_action f a) on ≡ on_after a on
on_map f (Silent r) on = refl
on_map f (Touch a k) on = refl
on_map f (Enable r) on = refl
on_map f (Disable r) on = refl
on_map f (Halt r) on = refl
on_map f Over on = refl
on_map f (Bad module_index line) on = refl

pub halted_map : {A R S : Type 0} (f : R → S) (a : Action A R) → halted_after (map_action f a) ≡ halted_after a
halted_map f (Silent r) = refl
halted_map f (Touch a k) = refl
halted_map f (Enable r) = refl
halted_map f (Disable r) = refl
halted_map f (Halt r) = refl
halted_map f Over = refl
halted_map f (Bad module_index line) = refl

module _ (sh : Shared) {R S : Type 0} (f : R → S) where
  abbrev put : Option (R × sh.State × List sh.Label) → Option (S × sh.State × List sh.Label)
  put None = None
  put (Some x) = Some (f x.0, x.1, x.2)

  perform_map : (a : Action sh.Access R) (v : sh.State) → perform sh (map_action f a) v ≡ put (perform sh a v)
  perform_map (Silent r) v = refl
  perform_map (Touch a k) v = refl
  perform_map (Enable r) v = refl
  perform_map (Disable r) v = refl
  perform_map (Halt r) v = refl
  perform_map Over v = refl
  perform_map (Bad module_index line) v = refl

-- ---- steps

module _ (sh : Shared) (T : Type 0) (next : T → Action sh.Access T) (body : ℕ → T) {R : Type 0} (f : R → T) where
  abbrev lead : System sh.State T → Taken sh.State T sh.Label
  lead = taken sh T next body Program

  -- of main, by what it does next
  abbrev main_by : (on : Bool) → sh.State → (s w : ℕ) → Action sh.Access T → Taken sh.State T sh.Label
  main_by on v s w a =
      taken_of
      (and_then (counted (is_interrupted sh {R = T} None on v) a s w) (λ n.
      and_then (perform sh a v) (λ x.
      Some (settled sh (State x.0 None (on_after a on) (halted_after a) x.1 n.0 n.1), x.2))))
      (unless (is_interrupted sh {R = T} None on v) (bad_place a))

  main_makes : (main : T) (on : Bool) (v : sh.State) (s w : ℕ) (a : Action sh.Access R) (n : ℕ × ℕ) (r : R) (v' : sh.State) (ls : List sh.Label)
      → next main ≡ map_action f a → counted (is_interrupted sh {R = T} None on v) a s w ≡ Some n → perform sh a v ≡ Some (r, v', ls)
      → lead (State main None on false v s w) ≡ Makes (settled sh (State (f r) None (on_after a on) (halted_after a) v' n.0 n.1)) ls
  main_makes main on v s w a n r v' ls e c p =
      let can = is_interrupted sh {R = T} None on v in
      ap (main_by on v s w) e
      ∙ (λ j. taken_of
      (and_then ((counted_map f can a s w ∙ c) j) (λ m.
      and_then ((perform_map sh f a v ∙ ap (put sh f) p) j) (λ x.
      Some (settled sh (State x.0 None (on_map f a on j) (halted_map f a j) x.1 m.0 m.1), x.2))))
      (unless can (bad_place (map_action f a))))

  -- the same, where the state is known by equations
  pub main_goes : (main : T) (handler : Option T) (on halted : Bool) (v : sh.State) (s w : ℕ) (can : Bool) (a : Action sh.Access R) (n : ℕ × ℕ) (r : R) (v' : sh.State) (ls : List sh.Label) (on' halted' : Bool) (new : System sh.State T)
      → handler ≡ None → halted ≡ false → can ≡ is_interrupted sh handler on v → next main ≡ map_action f a → counted can a s w ≡ Some n → perform sh a v ≡ Some (r, v', ls)
      → on' ≡ on_after a on → halted' ≡ halted_after a → new ≡ settled sh (State (f r) handler on' halted' v' n.0 n.1)
      → lead (State main handler on halted v s w) ≡ Makes new ls
  main_goes main handler on halted v s w can a n r v' ls on' halted' new none off can_is e c p on_is halted_is new_is =
      (λ j. lead (State main (none j) on (off j) v s w))
      ∙ main_makes main on v s w a n r v' ls e (ap (λ b. counted b a s w) (sym (can_is ∙ ap (λ h. is_interrupted sh h on v) none)) ∙ c) p
      ∙ ap (λ t. Makes t ls) (sym (new_is ∙ (λ j. settled sh (State (f r) (none j) (on_is j) (halted_is j) v' n.0 n.1))))

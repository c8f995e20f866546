-- Start-up makes no label but those of events, leads to main, and leaves RAM as it was where it sets nothing.
use Rattle.std.proofs.Common.{◌≡◌, ℕ, zero, suc, ◌+◌, ◌<◌, ◌≤◌, ◌^◌, inl, inr, List, [], ◌∷◌, map, length, take, refl, sym, ◌∙◌, subst, arith, ap₂}
use Rattle.std.specs.Prelude.{slice_index}
use Rattle.std.proofs.lemmas.Bool.{cases_lt}
use Rattle.word86.specs.MemoryMap.{ram_size, vectors_size}
use Rattle.word86.specs.Action.{Shared}
use Rattle.word86.specs.Chips.{Chips}
use Rattle.word86.specs.Page.{Pages, AreWhole}
use Rattle.plm_meaning.specs.Store.{Store, shared}
use Rattle.i86_code.specs.Coding.{IsOneForm, IsShort}
use Rattle.cpu8086.specs.declared.cpu.Cpu.{Cpu}
use Rattle.board.specs.World.{World, Whole, board_model, occurs}
use Rattle.board.specs.Machine.{Board, outputs, final, power_on}
use Rattle.plm86.specs.Inner.BoardLaws.{LawsBelow}
use Rattle.plm86.specs.Boots.{after_events, Boots}
use Rattle.plm86.specs.Headline.{IsGoing, IsAt, StartsQuietly, StartsNoSooner, board_turn}
use Rattle.plm86.specs.Laws.{Assembly, IsPut, IsSetBy, QuietFromRom, power_on_memory}
use Rattle.layout_link.specs.Rom.{CodeInRom}
use Rattle.layout_link.specs.Startup.{Act, PutWord, PutByte, Copy, HasStartUp, start_up_turns}
use Rattle.plm86.specs.Startup.{with_vectors, after_act, after_acts}
use Rattle.plm86.proofs.Machine.Startup.{boots, never_there}
use Rattle.plm86.proofs.Machine.Regions.{of_board, events_law}
use Rattle.plm86.proofs.Machine.Copying.{byte_put_other, word_put_other, copied_beside}
use Rattle.plm86.proofs.Machine.Vectors.{rounds_beside}
use Rattle.plm86.proofs.Composition.PowerOn.{in_ram}
use Rattle.plm86.proofs.Headline.FromRom.{at_the_end, boots_from}
use Rattle.plm86.proofs.Headline.Orderly.{boots_orderly}

module _ (sh : Shared) {M : Type 0} (turn : List sh.Event → M → M × List sh.Label) (Begins : M → sh.State → Type 0) where
  -- the labels of a start-up's turns are those of their events
  labels_are : (k : ℕ) (b : M) (w : sh.State) → Boots sh turn Begins k b w → (due : List (List sh.Event)) → take k (outputs turn due b) ≡ map (map sh.event_label) (take k due)
  labels_are zero b w h due = refl
  labels_are (suc k) b w h [] = refl
  labels_are (suc k) b w h (es ∷ due) = let t = h es in ap₂ (λ x y. x ∷ y) t.0 (labels_are k (turn es b).0 (after_events sh es w) t.1 due)

  -- and where it ends, main begins
  ends : (k : ℕ) (b : M) (w : sh.State) → Boots sh turn Begins k b w → (due : List (List sh.Event)) → length due ≡ k → (v : sh.State) × Begins (final turn due b) v
  ends zero b w h [] e = (w, h)
  ends zero b w h (es ∷ due) e = absurd (omega (arith, e))
  ends (suc k) b w h [] e = absurd (omega (arith, e))
  ends (suc k) b w h (es ∷ due) e = ends k (turn es b).0 (after_events sh es w) (h es).1 due (omega (arith, e))

-- ---- what the acts leave alone

act_beside : (act : Act) (f : ℕ → ℕ) (a : ℕ) → ¬ IsPut act a → after_act act f a ≡ f a
act_beside (PutWord to v) f a free = word_put_other to v a f (λ e. free (omega (arith, e), omega (arith, e))) (λ e. free (omega (arith, e), omega (arith, e)))
act_beside (PutByte to v) f a free = byte_put_other to v a f free
act_beside (Copy from to more) f a free = elim (cases_lt a to) [
  | inl lt ↦ copied_beside (suc more) from to f a (inl lt)
  | inr le ↦ elim (cases_lt a (to + suc more)) [
    | inl lt ↦ absurd (free (le, lt))
    | inr past ↦ copied_beside (suc more) from to f a (inr past)
  ]
]

acts_beside : (acts : List Act) (f : ℕ → ℕ) (a : ℕ) → ¬ IsSetBy acts a → after_acts acts f a ≡ f a
acts_beside [] f a free = refl
acts_beside (act ∷ acts) f a free = acts_beside acts (after_act act f) a (λ s. free (inr s)) ∙ act_beside act f a (λ p. free (inl p))

behind_vectors : (acts : List Act) (a : ℕ) → ¬ IsSetBy acts a → vectors_size ≤ a
behind_vectors [] a free = elim (cases_lt a vectors_size) [
  | inl lt ↦ absurd (free lt)
  | inr le ↦ le
]
behind_vectors (act ∷ acts) a free = behind_vectors acts a (λ s. free (inr s))

-- memory when start-up ends is as before it, where nothing is set
pub left_alone : (entry : ℕ) (acts : List Act) (f : ℕ → ℕ) (a : ℕ) → ¬ IsSetBy acts a → after_acts acts (with_vectors entry 0 256 f) a ≡ f a
left_alone entry acts f a free = acts_beside acts (with_vectors entry 0 256 f) a free ∙ rounds_beside entry 0 256 f a (inr (behind_vectors acts a free))

-- ---- from memory to the board's RAM

-- the processor goes on at this place, and the board's memory is this one
abbrev Left : {P : Type 0} → Chips P → List ℕ → (ℕ → ℕ) → (place : ℕ) → Board (World P) → Store P → Type 0
Left c rom f place b s = Whole rom b.world × IsGoing b.cpu.phase × ((a : ℕ) → a < 2 ^ 20 → (board_model c).load b.world a ≡ f a) × IsAt place b.cpu.registers

module _ (below : LawsBelow) (only : IsOneForm) (short : IsShort) where
  -- where what is not set is as at power-on in the memory that start-up leaves
  pub quiet_by_memory : {P : Type 0} (c : Chips P) (x : Assembly) → CodeInRom x.rom x.code → (entry : ℕ) (acts : List Act) → HasStartUp x.code entry acts x.main_at → (chips : P) (IsSet : ℕ → Type 0)
      → ((ram : List ℕ) (screen : Pages) → length ram ≡ ram_size → AreWhole screen → (a : ℕ) → a < ram_size → ¬ IsSet a → after_acts acts (with_vectors entry 0 256 (power_on_memory x.rom ram screen)) a ≡ slice_index ram a)
      → StartsQuietly c (start_up_turns acts) x.main_at IsSet x.rom chips
  quiet_by_memory {P} c x in_rom entry acts start chips IsSet kept general ram screen small ram_long whole =
      let f = at_the_end x.rom entry acts ram screen in
      let n = start_up_turns acts in
      let b = power_on general x.rom ram screen chips in
      let s : Store P = record { objects = []; screen = screen; chips = chips } in
      let ends_at = Left c x.rom f x.main_at in
      let booted : Boots (shared c) (board_turn c) ends_at n b s =
      boots (board_model c) c (λ w. w.chips) (Whole x.rom) (of_board below c x.rom) (occurs c) (events_law c x.rom) x.code ends_at (suc start.p6) n b s
      (boots_from below only short c x in_rom entry acts start (suc start.p6) (omega arith) general ram screen small ram_long whole s chips refl ends_at
      (λ g words flags d p h. (h.world.whole, subst (λ (z : Cpu). IsGoing z.phase) (sym h.is) tt, h.world.memory, subst (λ (z : Cpu). IsAt x.main_at z.registers) (sym h.is) (refl, refl)))) in
      record {
        quiet = labels_are (shared c) (board_turn c) ends_at n b s booted;
        orderly = λ due few. boots_orderly c ends_at (λ d v h. h.1) n b s booted due few;
        arrives = λ due turns. (ends (shared c) (board_turn c) ends_at n b s booted due turns).1.3;
        keeps = λ due turns a lt free.
            let t = ends (shared c) (board_turn c) ends_at n b s booted due turns in
            let w = (final (board_turn c) due b).world in
            sym (in_ram w.rom w.ram w.screen t.1.0.ram a lt) ∙ t.1.2 a (omega (arith, lt)) ∙ kept ram screen ram_long whole a lt free;
      }

  -- where all of start-up stands before main
  pub no_sooner : {P : Type 0} (c : Chips P) (x : Assembly) → CodeInRom x.rom x.code → (entry : ℕ) (acts : List Act) (start : HasStartUp x.code entry acts x.main_at) → start.p6 < x.main_at → (chips : P)
      → StartsNoSooner c (start_up_turns acts) x.main_at x.rom chips
  no_sooner {P} c x in_rom entry acts start before chips general ram screen small ram_long whole due few =
      let n = start_up_turns acts in
      let b = power_on general x.rom ram screen chips in
      let s : Store P = record { objects = []; screen = screen; chips = chips } in
      let any : Board (World P) → Store P → Type 0 = λ d v. Unit {0} in
      never_there (board_model c) c (λ w. w.chips) (Whole x.rom) (of_board below c x.rom) (occurs c) (events_law c x.rom) x.code any x.main_at n b s
      (boots_from below only short c x in_rom entry acts start x.main_at before general ram screen small ram_long whole s chips refl any (λ g words flags d p h. tt)) due few

  pub quiet_from_rom : (P : Type 0) → QuietFromRom P
  quiet_from_rom P c x in_rom entry acts start chips =
      quiet_by_memory c x in_rom entry acts start chips (IsSetBy acts)
      (λ ram screen ram_long whole a lt free. left_alone entry acts (power_on_memory x.rom ram screen) a free ∙ in_ram x.rom ram screen ram_long a lt)

-- a start that sets less sets no more
pub quiet_wider : {P : Type 0} (c : Chips P) (n main_at : ℕ) (IsSet IsSetMore : ℕ → Type 0) → ((a : ℕ) → IsSet a → IsSetMore a) → (rom : List ℕ) (chips : P) → StartsQuietly c n main_at IsSet rom chips → StartsQuietly c n main_at IsSetMore rom chips
quiet_wider c n main_at IsSet IsSetMore wider rom chips h general ram screen small ram_long whole =
    let q = h general ram screen small ram_long whole in
    record { quiet = q.quiet; orderly = q.orderly; arrives = q.arrives; keeps = λ due turns a lt free. q.keeps due turns a lt (λ s. free (wider a s)) }

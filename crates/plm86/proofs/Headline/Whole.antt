-- What the board does is a run of the program.
use Rattle.std.proofs.Common.{◌≡◌, suc, ◌+◌, ◌*◌, true, false, List, [], ◌++◌, map, length, drop, Some, None, refl, sym, subst, arith}
use Rattle.word86.specs.MemoryMap.{stack_top}
use Rattle.word86.specs.declared.event.Event.{Event}
use Rattle.word86.specs.declared.label.Label.{Label}
use Rattle.word86.specs.Event.{event_label}
use Rattle.word86.specs.Access.{Access, answers}
use Rattle.word86.specs.Following.{Follows}
use Rattle.plm_meaning.specs.System.{System, first_state}
use Rattle.plm_meaning.specs.Store.{Store, shared}
use Rattle.i86_table.specs.Contexts.{Context, Own}
use Rattle.i86_table.specs.Words.{HasWords, KeepsWords}
use Rattle.i86_code.specs.Widths.{DecodedHasWidths}
use Rattle.cpu8086.specs.declared.cpu.Cpu.{Cpu}
use Rattle.board.specs.World.{World, Whole, board_model, occurs}
use Rattle.plm86.specs.Inner.BoardLaws.{LawsBelow}
use Rattle.plm86.specs.Inner.Duo.{Duo, Alone, duo_after_events, act, main_in, has_handler, shared_with}
use Rattle.board.specs.Machine.{Board}
use Rattle.plm86.specs.Headline.{Stands, HasStore, IsGoing, IsBounded, is_serving, shared_in, board_turn}
use Rattle.plm86.specs.Laws.{Assembly, IsSound, FromLayers, Begins, Compiled, offers_of, main_of, starts_of, firmware_of}
use Rattle.plm86.specs.Inner.Layers.{FromInstructions}
use Rattle.plm86.proofs.Headline.Joining
use Rattle.plm86.proofs.Machine.Regions.{of_board, events_law}
use Rattle.plm86.proofs.Headline.Compose
use Rattle.plm86.proofs.Headline.Orderly.{run_orderly}
use Rattle.plm86.proofs.Headline.Stored.{has_store}
use Rattle.plm86.proofs.Headline.Words.{code_widths, main_has}
use Rattle.plm86.proofs.Machine.Lift
use Rattle.plm86.proofs.Machine.Lift.{Single}

-- the board and its contexts in step, and words in main's
abbrev InStep : {P : Type 0} → LawsBelow → (x : Assembly) → IsSound x → Rattle.word86.specs.Chips.Chips P → Board (World P) → Duo (Store P) Context → Type 0
InStep below x sound c b d = Lift.Stands (board_model c) c (λ w. w.chips) (Whole x.rom) (of_board below c x.rom) (occurs c) (events_law c x.rom) x.code x.find x.words x.entry x.main x.handler x.placed x.size sound.is_placed sound.finds sound.enough b d × HasWords (main_in d)

-- a turn keeps them so
stays_in_step : {P : Type 0} (below : LawsBelow) (c : Rattle.word86.specs.Chips.Chips P) (x : Assembly) (sound : IsSound x) → DecodedHasWidths → KeepsWords → (es : List Event) (b : Board (World P)) (d e : Duo (Store P) Context) (ls : List Label) → InStep below x sound c b d
    → act (shared c) Context (offers_of x) (starts_of x) (duo_after_events (shared c) es d) ≡ Some (e, ls) → ((board_turn c es b).1 ≡ map event_label es ++ ls) × InStep below x sound c (board_turn c es b).0 e
stays_in_step below c x sound widths keeps es b d e ls st out =
    let m = board_model c in
    let laws = of_board below c x.rom in
    let events = events_law c x.rom in
    let fine = Lift.memory_of m c (λ w. w.chips) (Whole x.rom) laws (occurs c) events x.code x.find x.words x.entry x.main x.handler x.placed x.size sound.is_placed sound.finds sound.enough b d st.0 in
    let up = Lift.lifts m c (λ w. w.chips) (Whole x.rom) laws (occurs c) events x.code x.find x.words x.entry x.main x.handler x.placed x.size sound.is_placed sound.finds sound.enough es b d e ls st.0 out in
    let leads = keeps x.code x.find x.words x.entry x.main x.handler (code_widths m widths x.code b.world fine.spelled) in
    (up.0, (up.1, main_has c (offers_of x) (starts_of x) leads es d e ls st.1 out))

pub from_instructions : LawsBelow → DecodedHasWidths → KeepsWords → (P R : Type 0) → FromInstructions P R
from_instructions below widths keeps P R c x sound next first body limit most compiled paced start_turns reset state boots due safe =
    let sh = shared c in
    let m = board_model c in
    let laws = of_board below c x.rom in
    let events = events_law c x.rom in
    let o = offers_of x in
    let s = starts_of x in
    let t = board_turn c in
    let n = length due in
    let lifts = stays_in_step below c x sound widths keeps in
    let begins = Lift.begins m c (λ w. w.chips) (Whole x.rom) laws (occurs c) events x.code x.find x.words x.entry x.main x.handler x.placed x.size sound.is_placed sound.finds sound.enough in
    let in_step : (b : Board (World P)) (v : Store P) → Begins c x b v → (d : Context) × InStep below x sound c b (Alone d false false v) × Follows Access answers R next Context o limit most true n limit first d =
    λ b v h. (
      Own x.main_at h.registers [] false None,
      (record { pair = Single x.main_at h.registers [] false false v; is = refl; fits = record { sp = stack_top; is = h.is; stack = record { words = tt; within = omega arith; at = refl }; fine = h.fine; flags = h.flags; low = sound.main_low } }, (h.words, tt, omega arith)),
      compiled.follows n h.registers h.words,
    ) in
    let fits : (b : Board (World P)) (d : Duo (Store P) Context) → InStep below x sound c b d → HasWords (main_in d) = λ b d st. st.1 in
    let shows : (b : Board (World P)) (d : Duo (Store P) Context) (run : System (Store P) R) → shared_with d ≡ shared_in run → has_handler d ≡ is_serving run → InStep below x sound c b d → Stands c (firmware_of x) (Lift.level_of (main_in d)) run b =
    λ b d run same serving st.
    let bounds = Lift.bounded m c (λ w. w.chips) (Whole x.rom) laws (occurs c) events x.code x.find x.words x.entry x.main x.handler x.placed x.size sound.is_placed sound.finds sound.enough b d st.0 in
    let fine = Lift.memory_of m c (λ w. w.chips) (Whole x.rom) laws (occurs c) events x.code x.find x.words x.entry x.main x.handler x.placed x.size sound.is_placed sound.finds sound.enough b d st.0 in
    let work = Lift.at_work m c (λ w. w.chips) (Whole x.rom) laws (occurs c) events x.code x.find x.words x.entry x.main x.handler x.placed x.size sound.is_placed sound.finds sound.enough b d st.0 in
    record {
      whole = fine.whole;
      vectors = fine.vectors;
      store = subst (λ (v : Store P). HasStore x.placed x.size v b.world) same (has_store c x sound.is_placed (shared_with d) b.world fine);
      segments = work.0;
      going = work.1;
      bounded = subst (λ serves. IsBounded (2 * x.main) (2 * (3 + x.handler)) (Lift.level_of (main_in d)) serves b.cpu.registers.sp) serving bounds.0;
      from_top = bounds.1;
      in_room = bounds.2;
    } in
    let w = Compose.booted sh R next body Context o s limit most HasWords compiled.serves (Board (World P)) t (InStep below x sound c) begins lifts fits (Stands c (firmware_of x)) Lift.level_of shows
    start_turns due limit reset first state n (Begins c x) in_step (omega arith) (omega arith) boots safe in
    let going : (b : Board (World P)) (v : Store P) → Begins c x b v → IsGoing b.cpu.phase = λ b v h. subst (λ (z : Cpu). IsGoing z.phase) (sym h.is) tt in (
      record {
        pieces = w.0;
        fits = w.1;
        pace = Compose.pace sh R next body Context o s limit most HasWords compiled.serves (Board (World P)) t (InStep below x sound c) begins lifts fits (Stands c (firmware_of x)) Lift.level_of shows 64 limit (drop start_turns w.0) paced (omega arith) w.2;
        stands = w.3;
      },
      run_orderly c (Begins c x) going (firmware_of x) R next body start_turns due reset state w.0 (first_state first state) boots w.3,
    )

pub from_layers : LawsBelow → DecodedHasWidths → KeepsWords → (P R I : Type 0) → FromLayers P R I
from_layers below widths keeps P R I c x sound next first body does begin procedure k1 m1 k2 m2 lowered compiled paced start_turns chips first_store boots general ram screen small ram_long whole =
    let o = offers_of x in
    let both : Compiled x R next (λ g. first) (λ v d. body v) (k1 * suc k2 + k2) (suc m2 * m1) = record {
      follows = λ n g h. Joining.joins Access answers R next I does Context o k1 m1 k2 m2 true n (n * suc m2) k1 k2 first (begin g) (main_of x g) (omega arith) (omega arith) (omega arith) (lowered.tracks (n * suc m2) g) (compiled.follows n g h);
      serves = λ n v d h. Joining.joins Access answers R next I does Context o k1 m1 k2 m2 false n (n * suc m2) k1 k2 (body v) (procedure v d) (starts_of x v d) (omega arith) (omega arith) (omega arith) (lowered.bodies (n * suc m2) v d) (compiled.serves n v d h);
    } in
    from_instructions below widths keeps P R c x sound next first body (k1 * suc k2 + k2) (suc m2 * m1) both paced start_turns _ _ (boots general ram screen small ram_long whole)

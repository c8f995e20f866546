-- From the bytes of a ROM to what the board does.
use Rattle.std.proofs.Common.{◌≡◌, ℕ, suc, ◌<◌, false, List, length, refl, sym, arith}
use Rattle.word86.specs.MemoryMap.{ram_size, stack_top}
use Rattle.i86_table.specs.Contexts.{Working, all_registers}
use Rattle.i86_table.specs.Words.{AreWords, KeepsWords}
use Rattle.i86_code.specs.Coding.{IsOneForm, IsShort}
use Rattle.i86_code.specs.Widths.{DecodedHasWidths}
use Rattle.word86.specs.Chips.{Chips}
use Rattle.word86.specs.Page.{Pages, AreWhole}
use Rattle.plm_meaning.specs.Store.{Store, with_chips}
use Rattle.cpu8086.specs.Turn.{GeneralRegisters, HoldWords}
use Rattle.board.specs.World.{World, Whole, board_model, occurs}
use Rattle.board.specs.Machine.{Board, power_on}
use Rattle.plm86.specs.Inner.BoardLaws.{LawsBelow}
use Rattle.plm86.specs.Relation.{FlagsAre}
use Rattle.plm86.specs.Laws.{Assembly, IsSound, Begins, BootsUp, FromRom, HoldsStore, power_on_memory}
use Rattle.layout_link.specs.Rom.{CodeInRom, WordsInRom}
use Rattle.layout_link.specs.Startup.{Act, HasStartUp, start_up_turns}
use Rattle.plm86.specs.Startup.{with_vectors, after_acts}
use Rattle.plm86.proofs.Machine.Regions.{of_board, events_law}
use Rattle.plm86.proofs.Machine.Placing.{spelled_by_rom}
use Rattle.plm86.proofs.Machine.Startup.{Boot, BootsBefore, boots, boots_by}
use Rattle.plm86.proofs.Machine.Booting.{IsLate, leads_to_main, reset_registers}
use Rattle.plm86.proofs.Machine.Beginning.{main_begins}
use Rattle.plm86.proofs.Headline.Whole.{from_layers}

-- memory when start-up ends, from power-on
abbrev pub at_the_end : (rom : List ℕ) (entry : ℕ) (acts : List Act) (ram : List ℕ) (screen : Pages) → ℕ → ℕ
at_the_end rom entry acts ram screen = after_acts acts (with_vectors entry 0 256 (power_on_memory rom ram screen))

module _ (below : LawsBelow) (only : IsOneForm) (short : IsShort) where
  -- start-up leads from power-on to all that follows from main's registers and the memory when it ends
  pub boots_from : {P : Type 0} (c : Chips P) (x : Assembly) → CodeInRom x.rom x.code → (entry : ℕ) (acts : List Act) (start : HasStartUp x.code entry acts x.main_at) (place : ℕ) → start.p6 < place → (general : GeneralRegisters) (ram : List ℕ) (screen : Pages) → HoldWords general → length ram ≡ ram_size → AreWhole screen → (s : Store P) (chips : P) → s.chips ≡ chips → (Begins : Board (World P) → Store P → Type 0)
      → ((g : Working) → AreWords g → FlagsAre false g.flags → (d : Board (World P)) (p : P) → Boot (board_model c) c (λ w. w.chips) (Whole x.rom) (of_board below c x.rom) (occurs c) (events_law c x.rom) x.code (all_registers x.main_at g stack_top) (at_the_end x.rom entry acts ram screen) d p → Begins d (with_chips p s))
      → BootsBefore (board_model c) c (λ w. w.chips) (Whole x.rom) (of_board below c x.rom) (occurs c) (events_law c x.rom) x.code Begins place (start_up_turns acts) (power_on general x.rom ram screen chips) s
  boots_from {P} c x in_rom entry acts start place before general ram screen small ram_long whole s chips same Begins begins =
      let m = board_model c in
      let laws = of_board below c x.rom in
      let events = events_law c x.rom in
      let f = power_on_memory x.rom ram screen in
      let w : World P = record { ram = ram; screen = screen; rom = x.rom; chips = chips } in
      let sizes : Whole x.rom w = record { ram = ram_long; screen = whole; same_rom = refl } in
      let at_reset : Boot m c (λ w. w.chips) (Whole x.rom) laws (occurs c) events x.code (reset_registers general) f (power_on general x.rom ram screen chips) s.chips = record {
        is = refl;
        world = record { whole = sizes; spelled = spelled_by_rom c x.rom w sizes only short x.code in_rom; memory = λ a lt. refl; chips_are = sym same };
      } in
      boots_by m c (λ w. w.chips) (Whole x.rom) laws (occurs c) events x.code Begins place (start_up_turns acts)
      (Boot m c (λ w. w.chips) (Whole x.rom) laws (occurs c) events x.code (reset_registers general) f)
      (IsLate m c (λ w. w.chips) (Whole x.rom) laws (occurs c) events x.code Begins place entry acts x.main_at start before (at_the_end x.rom entry acts ram screen))
      (power_on general x.rom ram screen chips) s
      (leads_to_main m c (λ w. w.chips) (Whole x.rom) laws (occurs c) events x.code Begins place entry acts x.main_at start before general small f)
      (λ d p t. begins t.registers t.words t.flags d p t.boot) at_reset

  module _ (widths : DecodedHasWidths) (keeps : KeepsWords) where
    starts_up : {P : Type 0} (c : Chips P) (x : Assembly) (sound : IsSound x) → CodeInRom x.rom x.code → WordsInRom x.rom x.words → (entry : ℕ) (acts : List Act) → HasStartUp x.code entry acts x.main_at → (general : GeneralRegisters) (ram : List ℕ) (screen : Pages) → HoldWords general → length ram ≡ ram_size → AreWhole screen → (s : Store P) → HoldsStore x s (at_the_end x.rom entry acts ram screen) → (chips : P) → s.chips ≡ chips → BootsUp c x (start_up_turns acts) (power_on general x.rom ram screen chips) s
    starts_up c x sound in_rom tables entry acts start general ram screen small ram_long whole s holds chips same =
        boots (board_model c) c (λ w. w.chips) (Whole x.rom) (of_board below c x.rom) (occurs c) (events_law c x.rom) x.code (Begins c x) (suc start.p6) (start_up_turns acts) (power_on general x.rom ram screen chips) s
        (boots_from c x in_rom entry acts start (suc start.p6) (omega arith) general ram screen small ram_long whole s chips same (Begins c x)
        (λ g words flags d p b. main_begins below c x sound in_rom.size tables s (at_the_end x.rom entry acts ram screen) g words flags holds d p b))

    pub from_rom : (P R I : Type 0) → FromRom P R I
    from_rom P R I c x sound in_rom tables entry acts start next first body does begin procedure k1 m1 k2 m2 lowered compiled paced chips first_store leaves =
        from_layers below widths keeps P R I c x sound next first body does begin procedure k1 m1 k2 m2 lowered compiled paced (start_up_turns acts) chips first_store
        (λ general ram screen small ram_long whole. let t = leaves ram screen ram_long whole in starts_up c x sound in_rom tables entry acts start general ram screen small ram_long whole (first_store ram screen) t.0 chips t.1)

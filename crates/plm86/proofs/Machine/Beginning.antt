-- Where start-up ends, main begins.
use Rattle.std.proofs.Common.{◌≡◌, ℕ, ◌+◌, ◌*◌, ◌/◌, ◌%◌, ◌<◌, ◌≤◌, false, length, ap, ◌∙◌, arith, ap₂}
use Rattle.word86.specs.MemoryMap.{vectors_size, code_segment, data_start, stack_top}
use Rattle.word86.specs.Chips.{Chips}
use Rattle.word86.specs.Page.{page_at}
use Rattle.plm_meaning.specs.Store.{Store, with_chips}
use Rattle.i86_table.specs.Contexts.{Working, all_registers}
use Rattle.cpu8086.specs.Machine.{physical, next_offset, loaded_byte, loaded_word}
use Rattle.board.specs.World.{World, board_model, occurs, Whole}
use Rattle.board.specs.Machine.{Board}
use Rattle.plm86.specs.Inner.BoardLaws.{LawsBelow}
use Rattle.plm86.specs.Relation.{FlagsAre}
use Rattle.plm86.specs.Laws.{Assembly, IsSound, Begins, HoldsStore}
use Rattle.plm86.proofs.Machine.Memory.{page_low}
use Rattle.plm86.proofs.Machine.Regions.{of_board, events_law}
use Rattle.plm86.proofs.Machine.Startup.{Boot}
use Rattle.plm86.proofs.Machine.Placing.{tables_by_rom}
use Rattle.layout_link.specs.Rom.{WordsInRom}
use Rattle.i86_table.specs.Words.{AreWords}

word_of_halves : (v : ℕ) → v < 65536 → v % 256 % 256 + 256 * (v / 256 % 256) ≡ v
word_of_halves v h = omega (arith, h)

module _ {P : Type 0} (below : LawsBelow) (c : Chips P) (x : Assembly) (sound : IsSound x) (rom_size : length x.rom ≤ 65536) (tables : WordsInRom x.rom x.words) where
  pub main_begins : (s : Store P) (f : ℕ → ℕ) (g : Working) → AreWords g → FlagsAre false g.flags → HoldsStore x s f → (d : Board (World P)) (p : P)
      → Boot (board_model c) c (λ w. w.chips) (Whole x.rom) (of_board below c x.rom) (occurs c) (events_law c x.rom) x.code (all_registers x.main_at g stack_top) f d p → Begins c x d (with_chips p s)
  unfolding loaded_word loaded_byte
  main_begins s f g small off ready d p b =
      let m = board_model c in
      let k = b.world in
      let word : (o low high : ℕ) → o + 1 < vectors_size → f o ≡ low → f (o + 1) ≡ high → loaded_word m d.world 0 o ≡ low % 256 + 256 * (high % 256) = λ o low high h el eh.
      let lo : physical 0 o ≡ o = omega (arith, h) in
      let hi : physical 0 (next_offset o) ≡ o + 1 = omega (arith, h) in
      ap₂ (λ u v. m.load d.world u % 256 + 256 * (m.load d.world v % 256)) lo hi ∙ ap₂ (λ u v. u % 256 + 256 * (v % 256)) (k.memory o (omega (arith, h)) ∙ el) (k.memory (o + 1) (omega (arith, h)) ∙ eh) in
      record {
        registers = g;
        is = b.is;
        words = small;
        flags = off;
        fine = record {
          whole = k.whole;
          spelled = k.spelled;
          tables = tables_by_rom c x.rom d.world k.whole x.words rom_size tables;
          vectors = record {
            offset = λ n h. let v = ready.vectors n h in word (4 * n) (x.entry n % 256) (x.entry n / 256) (omega (arith, h)) v.0 v.1 ∙ word_of_halves (x.entry n) (ready.entries n h);
            segment = λ n h. let v = ready.vectors n h in let e : 4 * n + 2 + 1 ≡ 4 * n + 3 = omega arith in word (4 * n + 2) (code_segment % 256) (code_segment / 256) (omega (arith, h)) v.2 (ap f e ∙ v.3);
          };
          holds = record {
            bytes = λ j i lt. let h = sound.is_placed.below j i (omega (arith, lt, ready.sizes j)) in k.memory (data_start + (x.placed j + i)) (omega (arith, h)) ∙ ready.bytes j i lt;
            screen = λ page i lt. k.memory (page_at page + i) (omega (arith, page_low page i lt)) ∙ ready.screen page i lt;
          };
          chips_are = k.chips_are;
          sizes = ready.sizes;
          screen_size = ready.screen_size;
        };
      }

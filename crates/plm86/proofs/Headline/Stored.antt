-- What the board has of the program's store: by address in the relation, by the bytes of RAM and of the pages in the headline.
use Rattle.std.proofs.Common.{◌≡◌, ℕ, ◌+◌, ◌<◌, List, sym, ap, ◌∙◌, subst, arith, ap₂}
use Rattle.std.proofs.lemmas.List.{ext_get_or}
use Rattle.std.specs.Prelude.{slice_index}
use Rattle.word86.specs.MemoryMap.{data_start}
use Rattle.word86.specs.declared.page.Page.{Page}
use Rattle.word86.specs.declared.page.Page.TheVariants.{Monochrome, Colour}
use Rattle.word86.specs.Chips.{Chips}
use Rattle.word86.specs.Page.{Pages, page_size, page_of}
use Rattle.plm_meaning.specs.Store.{Store}
use Rattle.board.specs.World.{World, Whole, board_model}
use Rattle.plm86.specs.Headline.{HasStore}
use Rattle.plm86.specs.Laws.{Assembly}
use Rattle.plm86.specs.Relation.{Fine, Placed}
use Rattle.plm86.proofs.Machine.Memory.{page_whole}
use Rattle.plm86.proofs.Composition.PowerOn.{in_ram, on_page}

-- pages alike one by one
same_pages : (a b : Pages) → ((page : Page) → page_of page a ≡ page_of page b) → a ≡ b
same_pages a b h = ap₂ (λ (x y : List ℕ). let p : Pages = record { monochrome = x; colour = y } in p) (h Monochrome) (h Colour)

pub has_store : {P : Type 0} (c : Chips P) (x : Assembly) → Placed x.placed x.size → (s : Store P) (w : World P) → Fine (board_model c) (λ w. w.chips) (Whole x.rom) x.code x.words x.entry x.placed x.size s w → HasStore x.placed x.size s w
has_store c x is_placed s w fine = record {
  sizes = fine.sizes;
  bytes = λ k i lt.
      let low = is_placed.below k i lt in
      let same : data_start + x.placed k + i ≡ data_start + (x.placed k + i) = omega arith in
      ap (slice_index w.ram) same ∙ sym (in_ram w.rom w.ram w.screen fine.whole.ram (data_start + (x.placed k + i)) (omega (arith, low)))
      ∙ fine.holds.bytes k i (subst (λ n. i < n) (sym (fine.sizes k)) lt);
  screen = same_pages w.screen s.screen (λ page.
      let long = page_whole page w.screen fine.whole.screen in
      ext_get_or 0 (page_of page w.screen) (page_of page s.screen) (long ∙ sym (page_whole page s.screen fine.screen_size)) (λ i lt.
      let low : i < page_size = omega (arith, lt, long) in
      sym (on_page w.rom w.ram w.screen fine.whole.ram fine.whole.screen page i low) ∙ fine.holds.screen page i low));
  chips = fine.chips_are;
}

-- Data accesses are accesses to the objects and to the pages of the screen.
use Rattle.std.proofs.Common.{◌≡◌, ℕ, ◌+◌, ◌-◌, ◌*◌, ◌/◌, ◌%◌, ◌^◌, ◌<◌, ◌≤◌, ◌==◌, ◌⊎◌, inl, inr, true, List, [], ◌++◌, length, Option, sym, ap, ◌∙◌, subst, arith, ap₂, ⊎_elim, true≢false}
use Rattle.std.specs.Prelude.{◌≢◌, slice_index, slice_set, nat_eq, if◌then◌else◌}
use Rattle.std.proofs.lemmas.Bool.{ne_eqb, eq-eqb, cases_eq, cases_Bool, cases_lt}
use Rattle.std.proofs.lemmas.List.{get_or-set_other, get_or-set_same, length-set, get_or_past, length-append}
use Rattle.std.proofs.lemmas.Bool.Decides.{eqb_tells}
use Rattle.word86.specs.MemoryMap.{ram_size, data_segment, data_start, code_start, first_offset, data_end}
use Rattle.i86_table.specs.declared.instruction.Instr.{Instr}
use Rattle.word86.specs.declared.width.Width.{Width}
use Rattle.word86.specs.declared.width.Width.TheVariants as widths
use Rattle.word86.specs.declared.page.Page.{Page}
use Rattle.word86.specs.declared.page.Page.TheVariants.{Monochrome, Colour}
use Rattle.word86.specs.Page.{Pages, AreWhole, page_at, page_size, page_of, with_page}
use Rattle.cpu8086.specs.declared.bus.Store as bus
use Rattle.cpu8086.specs.declared.bus.Store.TheVariants as stores
use Rattle.cpu8086.specs.BusModel.{BusModel}
use Rattle.cpu8086.specs.BusLaws.{stored}
use Rattle.cpu8086.specs.Machine.{loaded_byte, loaded_word}
use Rattle.plm86.proofs.Machine.Memory
use Rattle.plm86.proofs.Machine.Memory.{page_low, page_whole, word_is, spelled_kept, tables_kept, vectors_kept, stacked_kept}
use Rattle.word86.specs.Chips.{Chips}
use Rattle.plm_meaning.specs.Store.{Store, object, with_screen, value_at, with_value}
use Rattle.i86_table.specs.Contexts.{bytes}
use Rattle.plm86.specs.Inner.BoardLaws.{OfBoard}
use Rattle.plm86.specs.Relation.{Fine, Placed}
use Rattle.plm86.specs.Inner.Stacks.{Stack}

abbrev pub store_at : Width → ℕ → ℕ → bus.Store
store_at widths.Byte a v = stores.Byte a v
store_at widths.Word a v = stores.Word a (a + 1) v

-- an address apart from all bytes of a store
pub stored_apart : (width : Width) (a v b x : ℕ) → ((n : ℕ) → n < bytes width → b ≢ a + n) → stored (store_at width a v) b x ≡ x
stored_apart widths.Byte a v b x n = ap (λ t. if t then v else x) (ne_eqb b a (λ e. n 0 (omega arith) (omega (arith, e))))
stored_apart widths.Word a v b x n =
    ap (λ t. if t then v / 256 else if b == a then v % 256 else x) (ne_eqb b (a + 1) (n 1 (omega arith))) ∙ ap (λ t. if t then v % 256 else x) (ne_eqb b a (λ e. n 0 (omega arith) (omega (arith, e))))

eq_shift : (c i j : ℕ) → nat_eq (c + j) (c + i) ≡ nat_eq j i
eq_shift c i j = elim (cases_eq j i) [
  | inl e ↦ eq-eqb (c + j) (c + i) (omega (arith, e)) ∙ sym (eq-eqb j i e)
  | inr n ↦ ne_eqb (c + j) (c + i) (λ e. n (omega (arith, e))) ∙ sym (ne_eqb j i n)
]

stored_shift : (width : Width) (c i j v x : ℕ) → stored (store_at width (c + i) v) (c + j) x ≡ stored (store_at width i v) j x
stored_shift widths.Byte c i j v x = ap (λ t. if t then v else x) (eq_shift c i j)
stored_shift widths.Word c i j v x =
    let up : nat_eq (c + j) (c + i + 1) ≡ nat_eq j (i + 1) = ap (nat_eq (c + j)) (omega arith) ∙ eq_shift c (i + 1) j in
    ap₂ (λ s t. if s then v / 256 else if t then v % 256 else x) up (eq_shift c i j)

put_index : (l : List ℕ) (i j v : ℕ) → i < length l → slice_index (slice_set l i v) j ≡ (if j == i then v else slice_index l j)
put_index l i j v h = elim (eqb_tells j i) [
  | inl e ↦ rw (e.0) (ap (slice_index (slice_set l i v)) e.1 ∙ get_or-set_same l i v 0 h)
  | inr n ↦ rw (n.0) (get_or-set_other l i j v 0 n.1)
]

set_index : (width : Width) (l : List ℕ) (i j v : ℕ) → i + bytes width ≤ length l → slice_index (with_value width l i v) j ≡ stored (store_at width i v) j (slice_index l j)
set_index widths.Byte l i j v h = put_index l i j v (omega (arith, h))
set_index widths.Word l i j v h =
    put_index (slice_set l i (v % 256)) (i + 1) j (v / 256) (omega (arith, h, length-set l i (v % 256))) ∙ ap (λ x. if j == i + 1 then v / 256 else x) (put_index l i j (v % 256) (omega (arith, h)))

length_set : (width : Width) (l : List ℕ) (i v : ℕ) → length (with_value width l i v) ≡ length l
length_set widths.Byte l i v = length-set l i v
length_set widths.Word l i v = length-set (slice_set l i (v % 256)) (i + 1) (v / 256) ∙ length-set l i (v % 256)

-- a page of its size in the place of one
still_whole : (page : Page) (l : List ℕ) (s : Pages) → AreWhole s → length l ≡ page_size → AreWhole (with_page page l s)
still_whole Monochrome l s h e = record { monochrome = e; colour = h.colour }
still_whole Colour l s h e = record { monochrome = h.monochrome; colour = e }

pub some_bytes : (width : Width) → (1 ≤ bytes width) × (bytes width ≤ 2)
some_bytes widths.Byte = (omega arith, omega arith)
some_bytes widths.Word = (omega arith, omega arith)

module _ {W P : Type 0} (m : BusModel W) (c : Chips P) (chips : W → P) (Whole : W → Type 0) (laws : OfBoard m c chips Whole) where
  -- a store where every byte is kept
  pub after : (w : W) (width : Width) (a v : ℕ) → ((n : ℕ) → n < bytes width → m.keeps w (a + n) ≡ true) → (b : ℕ) → b < 2 ^ 20 → m.load (m.store w (store_at width a v)) b ≡ stored (store_at width a v) b (m.load w b)
  after w width a v kept b h = laws.loads w (store_at width a v) b h ∙ (elim (cases_Bool (m.keeps w b)) [
    | inl k ↦ ap (λ t. if t then stored (store_at width a v) b (m.load w b) else m.load w b) k
    | inr k ↦ ap (λ t. if t then stored (store_at width a v) b (m.load w b) else m.load w b) k ∙ sym (stored_apart width a v b (m.load w b) (λ n lt e. true≢false (sym (kept n lt) ∙ ap (m.keeps w) (sym e) ∙ k)))
  ])

  pub after_apart : (w : W) (width : Width) (a v b : ℕ) → ((n : ℕ) → n < bytes width → m.keeps w (a + n) ≡ true) → b < 2 ^ 20 → ((n : ℕ) → n < bytes width → b ≢ a + n) → m.load (m.store w (store_at width a v)) b ≡ m.load w b
  after_apart w width a v b kept h away = after w width a v kept b h ∙ stored_apart width a v b (m.load w b) away

  abbrev pub load_at : Width → W → ℕ → ℕ
  load_at widths.Byte w off = loaded_byte m w data_segment off
  load_at widths.Word w off = loaded_word m w data_segment off

  module _ (code : ℕ → Option (Instr × ℕ)) (words : ℕ → Option ℕ) (entry placed size : ℕ → ℕ) (is_placed : Placed placed size) where
    -- a read of an object
    pub read_is : (width : Width) (s : Store P) (w : W) (off k i : ℕ) → Fine m chips Whole code words entry placed size s w → off ≡ placed k + i → i + bytes width ≤ size k → load_at width w off ≡ value_at width (object s k) i
    unfolding loaded_byte
    read_is widths.Byte s w off k i f e fits =
        let below = is_placed.below k i (omega (arith, fits)) in
        ap (λ x. m.load w x % 256) (Memory.low_at off (omega (arith, e, below)) ∙ ap (λ x. data_start + x) e) ∙ ap (λ x. x % 256) (f.holds.bytes k i (omega (arith, f.sizes k, fits)))
    read_is widths.Word s w off k i f e fits =
        let below = is_placed.below k (i + 1) (omega (arith, fits)) in
        let next : data_start + 1 + off ≡ data_start + (placed k + (i + 1)) = omega (arith, e) in
        word_is m c chips Whole laws w off (omega (arith, e, below))
        ∙ ap₂ (λ x y. m.load w x % 256 + 256 * (m.load w y % 256)) (ap (λ x. data_start + x) e) next
        ∙ ap₂ (λ x y. x % 256 + 256 * (y % 256)) (f.holds.bytes k i (omega (arith, f.sizes k, fits))) (f.holds.bytes k (i + 1) (omega (arith, f.sizes k, fits)))

    exists : (s : Store P) (k : ℕ) → 0 < length (object s k) → k < length s.objects
    exists s k h = elim (cases_lt k (length s.objects)) [
      | inl lt ↦ lt
      | inr le ↦ absurd (omega (arith, h, ap length (get_or_past s.objects k [] le)))
    ]

    abbrev pub with_object : Store P → ℕ → List ℕ → Store P
    with_object s k l = record { objects = slice_set s.objects k l; screen = s.screen; chips = s.chips }

    object_same : (s : Store P) (k : ℕ) (l : List ℕ) → 0 < length (object s k) → object (with_object s k l) k ≡ l
    object_same s k l h = get_or-set_same s.objects k l [] (exists s k h)

    object_other : (s : Store P) (k h : ℕ) (l : List ℕ) → h ≢ k → object (with_object s k l) h ≡ object s h
    object_other s k h l n = get_or-set_other s.objects k h l [] n

    -- a write of an object keeps all else
    pub write_is : (width : Width) (s : Store P) (w : W) (off k i v : ℕ) → Fine m chips Whole code words entry placed size s w → off ≡ placed k + i → i + bytes width ≤ size k
        → Fine m chips Whole code words entry placed size (with_object s k (with_value width (object s k) i v)) (m.store w (store_at width (data_start + off) v))
    write_is width s w off k i v f e fits =
        let some = some_bytes width in
        let a = data_start + off in
        let new = with_value width (object s k) i v in
        let t = with_object s k new in
        let u = m.store w (store_at width a v) in
        let top = is_placed.below k (i + (bytes width - 1)) (omega (arith, fits, some.0, some.1)) in
        let low = is_placed.above k i (omega (arith, fits, some.0)) in
        let len : length new ≡ length (object s k) = length_set width (object s k) i v in
        let filled : 0 < length (object s k) = omega (arith, f.sizes k, fits, some.0) in
        let kept : (n : ℕ) → n < bytes width → m.keeps w (a + n) ≡ true = λ n lt. laws.ram w f.whole (a + n) (omega (arith, lt, e, top)) in
        let far : (b : ℕ) → b < 2 ^ 20 → (b < data_start + first_offset) ⊎ (data_start + data_end ≤ b) → m.load u b ≡ m.load w b = λ b lt side. after_apart w width a v b kept lt (λ n less eq. ⊎_elim (λ h. absurd (omega (arith, h, eq, e, low))) (λ h. absurd (omega (arith, h, eq, e, top, less))) side) in
        let here : (j : ℕ) → j < length (object t k) → m.load u (data_start + (placed k + j)) ≡ slice_index (object t k) j = λ j lt.
        let old : j < length (object s k) = omega (arith, lt, ap length (object_same s k new filled), len) in
        let at = is_placed.below k j (omega (arith, old, f.sizes k)) in
        let base : a ≡ data_start + placed k + i = omega (arith, e) in
        let there : data_start + (placed k + j) ≡ data_start + placed k + j = omega arith in
        after w width a v kept (data_start + (placed k + j)) (omega (arith, at))
        ∙ ap₂ (λ x y. stored (store_at width x v) y (m.load w (data_start + (placed k + j)))) base there
        ∙ stored_shift width (data_start + placed k) i j v (m.load w (data_start + (placed k + j)))
        ∙ ap (stored (store_at width i v) j) (f.holds.bytes k j old)
        ∙ sym (set_index width (object s k) i j v (omega (arith, f.sizes k, fits)))
        ∙ ap (λ l. slice_index l j) (sym (object_same s k new filled)) in
        let away : (h j : ℕ) → h ≢ k → j < length (object t h) → m.load u (data_start + (placed h + j)) ≡ slice_index (object t h) j = λ h j ne lt.
        let same = object_other s k h new ne in
        let old : j < length (object s h) = omega (arith, lt, ap length same) in
        let at = is_placed.below h j (omega (arith, old, f.sizes h)) in
        after_apart w width a v (data_start + (placed h + j)) kept (omega (arith, at)) (λ n less eq. ne (is_placed.apart h k j (i + n) (omega (arith, old, f.sizes h)) (omega (arith, less, fits)) (omega (arith, eq, e))))
        ∙ f.holds.bytes h j old ∙ ap (λ l. slice_index l j) (sym same) in
        record {
          whole = laws.stays w (store_at width a v) f.whole;
          spelled = spelled_kept m c chips Whole laws code w u (λ b le lt. far b lt (inr (omega (arith, le)))) f.spelled;
          tables = tables_kept m c chips Whole laws words w u (λ b le lt. far b lt (inr (omega (arith, le)))) f.tables;
          vectors = vectors_kept m c chips Whole laws entry w u (λ b lt. far b (omega (arith, lt)) (inl (omega (arith, lt)))) f.vectors;
          holds = record {
            bytes = λ h j lt. elim (cases_eq h k) [
              | inl eq ↦ subst (λ x. m.load u (data_start + (placed x + j)) ≡ slice_index (object t x) j) (sym eq) (here j (subst (λ x. j < length (object t x)) eq lt))
              | inr ne ↦ away h j ne lt
            ];
            screen = λ page j lt. far (page_at page + j) (omega (arith, page_low page j lt)) (inr (omega arith)) ∙ f.holds.screen page j lt;
          };
          chips_are = laws.store_chips w (store_at width a v) ∙ f.chips_are;
          sizes = λ h. elim (cases_eq h k) [
            | inl eq ↦ subst (λ x. length (object t x) ≡ size x) (sym eq) (ap length (object_same s k new filled) ∙ len ∙ f.sizes k)
            | inr ne ↦ ap length (object_other s k h new ne) ∙ f.sizes h
          ];
          screen_size = f.screen_size;
        }

    -- the stack is apart
    pub write_stack : (width : Width) (s : Store P) (w : W) (off k i v sp : ℕ) (st base : List ℕ) (room : ℕ) → Fine m chips Whole code words entry placed size s w → off ≡ placed k + i → i + bytes width ≤ size k → data_end ≤ sp → Stack m w sp st base room → Stack m (m.store w (store_at width (data_start + off) v)) sp st base room
    write_stack width s w off k i v sp st base room f e fits le st_at =
        let some = some_bytes width in
        let top = is_placed.below k (i + (bytes width - 1)) (omega (arith, fits, some.0, some.1)) in
        let kept : (n : ℕ) → n < bytes width → m.keeps w (data_start + off + n) ≡ true = λ n lt. laws.ram w f.whole (data_start + off + n) (omega (arith, lt, e, top)) in
        record {
          words = stacked_kept m c chips Whole laws w (m.store w (store_at width (data_start + off) v)) sp (st ++ base) (omega (arith, st_at.at, length-append st base)) (λ b ge lt. after_apart w width (data_start + off) v b kept (omega (arith, lt)) (λ n less eq. absurd (omega (arith, eq, ge, le, less, e, top)))) st_at.words;
          within = st_at.within;
          at = st_at.at;
        }

    page_kept : (page : Page) (w : W) (width : Width) (i : ℕ) → Whole w → i + bytes width ≤ page_size → (n : ℕ) → n < bytes width → m.keeps w (page_at page + i + n) ≡ true
    page_kept page w width i t h n lt = laws.screen w t page (page_at page + i + n) (omega arith) (omega (arith, h, lt))

    -- what a store to a page leaves there
    stored_here : (page : Page) (width : Width) (s : Store P) (w : W) (i v j : ℕ) → Fine m chips Whole code words entry placed size s w → i + bytes width ≤ page_size → j < page_size
        → m.load (m.store w (store_at width (page_at page + i) v)) (page_at page + j) ≡ slice_index (with_value width (page_of page s.screen) i v) j
    stored_here page width s w i v j f fits lt =
        let at = page_at page + j in
        after w width (page_at page + i) v (page_kept page w width i f.whole fits) at (omega (arith, page_low page j lt))
        ∙ stored_shift width (page_at page) i j v (m.load w at)
        ∙ ap (stored (store_at width i v) j) (f.holds.screen page j lt)
        ∙ sym (set_index width (page_of page s.screen) i j v (omega (arith, page_whole page s.screen f.screen_size, fits)))

    -- a store to one page leaves the other: they share no address
    stored_there : (page other : Page) (width : Width) (s : Store P) (w : W) (i v j : ℕ) → Fine m chips Whole code words entry placed size s w → i + bytes width ≤ page_size → j < page_size
        → ((n : ℕ) → n < page_size → page_at other + j ≢ page_at page + n)
        → m.load (m.store w (store_at width (page_at page + i) v)) (page_at other + j) ≡ slice_index (page_of other s.screen) j
    stored_there page other width s w i v j f fits lt apart =
        after_apart w width (page_at page + i) v (page_at other + j) (page_kept page w width i f.whole fits) (omega (arith, page_low other j lt)) (λ n less e. apart (i + n) (omega (arith, fits, less)) (omega (arith, e)))
        ∙ f.holds.screen other j lt

    -- both pages after a store to one
    pages_stored : (page other : Page) (width : Width) (s : Store P) (w : W) (i v j : ℕ) → Fine m chips Whole code words entry placed size s w → i + bytes width ≤ page_size → j < page_size
        → m.load (m.store w (store_at width (page_at page + i) v)) (page_at other + j) ≡ slice_index (page_of other (with_page page (with_value width (page_of page s.screen) i v) s.screen)) j
    pages_stored Monochrome Monochrome width s w i v j f fits lt = stored_here Monochrome width s w i v j f fits lt
    pages_stored Monochrome Colour width s w i v j f fits lt = stored_there Monochrome Colour width s w i v j f fits lt (λ n less e. absurd (omega (arith, less, e)))
    pages_stored Colour Monochrome width s w i v j f fits lt = stored_there Colour Monochrome width s w i v j f fits lt (λ n less e. absurd (omega (arith, lt, e)))
    pages_stored Colour Colour width s w i v j f fits lt = stored_here Colour width s w i v j f fits lt

    -- a write to a page keeps all else
    pub page_write_is : (page : Page) (width : Width) (s : Store P) (w : W) (i v : ℕ) → Fine m chips Whole code words entry placed size s w → i + bytes width ≤ page_size
        → Fine m chips Whole code words entry placed size (with_screen (with_page page (with_value width (page_of page s.screen) i v) s.screen) s) (m.store w (store_at width (page_at page + i) v))
    page_write_is page width s w i v f fits =
        let some = some_bytes width in
        let a = page_at page + i in
        let u = m.store w (store_at width a v) in
        let kept = page_kept page w width i f.whole fits in
        let far : (b : ℕ) → b < 2 ^ 20 → (b < ram_size) ⊎ (code_start ≤ b) → m.load u b ≡ m.load w b = λ b lt side. after_apart w width a v b kept lt (λ n less eq. ⊎_elim
        (λ h. absurd (omega (arith, h, eq)))
        (λ h. let low = page_low page (i + n) (omega (arith, fits, less)) in absurd (omega (arith, h, eq, low)))
        side) in
        record {
          whole = laws.stays w (store_at width a v) f.whole;
          spelled = spelled_kept m c chips Whole laws code w u (λ b le lt. far b lt (inr (omega (arith, le)))) f.spelled;
          tables = tables_kept m c chips Whole laws words w u (λ b le lt. far b lt (inr (omega (arith, le)))) f.tables;
          vectors = vectors_kept m c chips Whole laws entry w u (λ b lt. far b (omega (arith, lt)) (inl (omega (arith, lt)))) f.vectors;
          holds = record {
            bytes = λ h j lt. let at = is_placed.below h j (omega (arith, lt, f.sizes h)) in far (data_start + (placed h + j)) (omega (arith, at)) (inl (omega (arith, at))) ∙ f.holds.bytes h j lt;
            screen = λ other j lt. pages_stored page other width s w i v j f fits lt;
          };
          chips_are = laws.store_chips w (store_at width a v) ∙ f.chips_are;
          sizes = f.sizes;
          screen_size = still_whole page (with_value width (page_of page s.screen) i v) s.screen f.screen_size (length_set width (page_of page s.screen) i v ∙ page_whole page s.screen f.screen_size);
        }

    pub page_write_stack : (page : Page) (width : Width) (s : Store P) (w : W) (i v sp : ℕ) (st base : List ℕ) (room : ℕ) → Fine m chips Whole code words entry placed size s w → i + bytes width ≤ page_size → Stack m w sp st base room
        → Stack m (m.store w (store_at width (page_at page + i) v)) sp st base room
    page_write_stack page width s w i v sp st base room f fits st_at = record {
      words = stacked_kept m c chips Whole laws w (m.store w (store_at width (page_at page + i) v)) sp (st ++ base) (omega (arith, st_at.at, length-append st base)) (λ b ge lt. after_apart w width (page_at page + i) v b (page_kept page w width i f.whole fits) (omega (arith, lt)) (λ n less eq. absurd (omega (arith, eq, lt)))) st_at.words;
      within = st_at.within;
      at = st_at.at;
    }

-- Loads after stores, by regions of the memory.
use Rattle.std.proofs.Common.{◌≡◌, ℕ, suc, ◌+◌, ◌-◌, ◌*◌, ◌/◌, ◌%◌, ◌^◌, ◌<◌, ◌≤◌, ◌==◌, ◌⊎◌, inl, inr, Bool, true, false, cond, List, [], ◌∷◌, ◌++◌, length, Option, Some, None, refl, sym, ap, ◌∙◌, arith, ap₂}
use Rattle.std.specs.Prelude.{◌≢◌, nat_lt, nat_le, ◌&&◌, if◌then◌else◌}
use Rattle.std.proofs.lemmas.Bool.{ne_eqb, eq-eqb, lt-leb, le-leb, le-ltb, lt-ltb, and_from}
use Rattle.word86.specs.MemoryMap.{ram_size, vectors_size, data_segment, screen_segment, code_segment, data_start, code_start, data_end, stack_top}
use Rattle.i86_table.specs.declared.instruction.Instr.{Instr}
use Rattle.cpu8086.specs.declared.bus.Store.TheVariants as stores
use Rattle.word86.specs.declared.label.Label.{Label}
use Rattle.word86.specs.declared.page.Page.{Page}
use Rattle.word86.specs.declared.page.Page.TheVariants.{Monochrome, Colour}
use Rattle.i86_table.specs.declared.registers.Regs.{Regs}
use Rattle.i86_code.specs.Decoding.{decoded}
use Rattle.std.proofs.Common.{append-nil, length-append, ⊎_elim, drop, zero, subst, eqb-true}
use Rattle.std.proofs.Math.Bool.{and-false}
use Rattle.cpu8086.specs.BusModel.{BusModel}
use Rattle.cpu8086.specs.BusLaws.{stored}
use Rattle.word86.specs.declared.width.Width.TheVariants as widths
use Rattle.cpu8086.specs.Machine.{Machine, physical, next_offset, loaded_byte, loaded_word, stored_access, stored_at, pushed, popped, labels_of}
use Rattle.cpu8086.specs.Turn.{fetched}
use Rattle.word86.specs.Chips.{Chips}
use Rattle.word86.specs.Page.{Pages, AreWhole, page_begins, page_at, page_size, page_of}
use Rattle.plm_meaning.specs.Store.{Store, screen_label}
use Rattle.i86_table.specs.Contexts.{Working, all_registers, stack_word}
use Rattle.board.specs.World.{is_on, spot, byte_label, word_label, byte_shown, word_shown}
use Rattle.plm86.specs.Inner.BoardLaws.{OfBoard}
use Rattle.plm86.specs.Relation.{Spelled, HasTables, Fine, Placed}
use Rattle.plm86.specs.Inner.Stacks.{Stacked, Stack}
use Rattle.plm86.specs.Headline.{Vectors}

pub stored_word_other : (low high v a x : ℕ) → a ≢ low → a ≢ high → stored (stores.Word low high v) a x ≡ x
stored_word_other low high v a x nl nh =
    ap (λ b. if b then v / 256 else if a == low then v % 256 else x) (ne_eqb a high nh) ∙ ap (λ b. if b then v % 256 else x) (ne_eqb a low nl)

pub stored_word_high : (low high v x : ℕ) → stored (stores.Word low high v) high x ≡ v / 256
stored_word_high low high v x = ap (λ b. if b then v / 256 else if high == low then v % 256 else x) (eq-eqb high high refl)

pub stored_word_low : (low high v x : ℕ) → low ≢ high → stored (stores.Word low high v) low x ≡ v % 256
stored_word_low low high v x n =
    ap (λ b. if b then v / 256 else if low == low then v % 256 else x) (ne_eqb low high n) ∙ ap (λ b. if b then v % 256 else x) (eq-eqb low low refl)

same : {A : Type 0} (b : Bool) (x : A) → cond b x x ≡ x
same true x = refl
same false x = refl

halves : (v : ℕ) → v % 256 % 256 + 256 * (v / 256 % 256) ≡ v % 65536
halves v = omega arith

-- addresses in the segment of data and stack
pub low_at : (off : ℕ) → off < 65536 → physical data_segment off ≡ data_start + off
low_at off h = omega (arith, h)

pub high_at : (off : ℕ) → off + 1 < 65536 → physical data_segment (next_offset off) ≡ data_start + 1 + off
high_at off h = omega (arith, h)

-- ---- the pages of the screen

-- they lie behind RAM and before the code's segment
pub page_low : (page : Page) (i : ℕ) → i < page_size → page_at page + i < code_start
page_low Monochrome i h = omega (arith, h)
page_low Colour i h = omega (arith, h)

-- addresses in the screen's segment
pub page_place : (page : Page) (i : ℕ) → i < page_size → physical screen_segment (page_begins page + i) ≡ page_at page + i
page_place Monochrome i h = omega (arith, h)
page_place Colour i h = omega (arith, h)

pub page_next : (page : Page) (i : ℕ) → i + 1 < page_size → physical screen_segment (next_offset (page_begins page + i)) ≡ page_at page + i + 1
page_next Monochrome i h = omega (arith, h)
page_next Colour i h = omega (arith, h)

pub page_whole : (page : Page) (s : Pages) → AreWhole s → length (page_of page s) ≡ page_size
page_whole Monochrome s h = h.monochrome
page_whole Colour s h = h.colour

-- an address below a page, on it, and past it
dark : (page : Page) (a : ℕ) → a < page_at page → is_on page a ≡ false
dark page a lt = ap (λ b. b && nat_lt a (page_at page + page_size)) (lt-leb (page_at page) a lt)

lit : (page : Page) (a : ℕ) → page_at page ≤ a → a < page_at page + page_size → is_on page a ≡ true
lit page a le lt = and_from (nat_le (page_at page) a) (nat_lt a (page_at page + page_size)) (le-leb (page_at page) a le) (lt-ltb a (page_at page + page_size) lt)

past : (page : Page) (a : ℕ) → page_at page + page_size ≤ a → is_on page a ≡ false
past page a le = ap (λ b. nat_le (page_at page) a && b) (le-ltb a (page_at page + page_size) le) ∙ and-false (nat_le (page_at page) a)

abbrev some_at : Page → ℕ → Option (Page × ℕ)
some_at page i = Some (page, i)

-- no page has an address of RAM
unseen : (a : ℕ) → a < ram_size → spot a ≡ None
unseen a h =
    ap (λ b. if b then some_at Monochrome (a - page_at Monochrome) else if is_on Colour a then some_at Colour (a - page_at Colour) else None) (dark Monochrome a (omega (arith, h)))
    ∙ ap (λ b. if b then some_at Colour (a - page_at Colour) else None) (dark Colour a (omega (arith, h)))

-- each page has its own addresses
seen : (page : Page) (i : ℕ) → i < page_size → spot (page_at page + i) ≡ Some (page, i)
seen Monochrome i h =
    let a = page_at Monochrome + i in
    let index : a - page_at Monochrome ≡ i = omega arith in
    ap (λ b. if b then some_at Monochrome (a - page_at Monochrome) else if is_on Colour a then some_at Colour (a - page_at Colour) else None) (lit Monochrome a (omega arith) (omega (arith, h)))
    ∙ ap (λ k. some_at Monochrome k) index
seen Colour i h =
    let a = page_at Colour + i in
    let index : a - page_at Colour ≡ i = omega arith in
    ap (λ b. if b then some_at Monochrome (a - page_at Monochrome) else if is_on Colour a then some_at Colour (a - page_at Colour) else None) (past Monochrome a (omega arith))
    ∙ ap (λ b. if b then some_at Colour (a - page_at Colour) else None) (lit Colour a (omega arith) (omega (arith, h)))
    ∙ ap (λ k. some_at Colour k) index

-- the board labels a store to a page as the meaning does
byte_label_is : (page : Page) (i v : ℕ) → byte_label page i v ≡ screen_label page widths.Byte i v
byte_label_is Monochrome i v = refl
byte_label_is Colour i v = refl

word_label_is : (page : Page) (i v : ℕ) → word_label page i v ≡ screen_label page widths.Word i v
word_label_is Monochrome i v = refl
word_label_is Colour i v = refl

module _ {W P : Type 0} (m : BusModel W) (c : Chips P) (chips : W → P) (Whole : W → Type 0) (laws : OfBoard m c chips Whole) where
  pub word_other : (w : W) (low high v a : ℕ) → a < 2 ^ 20 → a ≢ low → a ≢ high → m.load (m.store w (stores.Word low high v)) a ≡ m.load w a
  word_other w low high v a h nl nh =
      laws.loads w (stores.Word low high v) a h
      ∙ ap (λ x. if m.keeps w a then x else m.load w a) (stored_word_other low high v a (m.load w a) nl nh)
      ∙ same (m.keeps w a) (m.load w a)

  pub word_low : (w : W) (low high v : ℕ) → low < 2 ^ 20 → low ≢ high → m.keeps w low ≡ true → m.load (m.store w (stores.Word low high v)) low ≡ v % 256
  word_low w low high v h n k =
      laws.loads w (stores.Word low high v) low h
      ∙ ap (λ b. if b then stored (stores.Word low high v) low (m.load w low) else m.load w low) k
      ∙ stored_word_low low high v (m.load w low) n

  pub word_high : (w : W) (low high v : ℕ) → high < 2 ^ 20 → m.keeps w high ≡ true → m.load (m.store w (stores.Word low high v)) high ≡ v / 256
  word_high w low high v h k =
      laws.loads w (stores.Word low high v) high h
      ∙ ap (λ b. if b then stored (stores.Word low high v) high (m.load w high) else m.load w high) k
      ∙ stored_word_high low high v (m.load w high)

  pub lost : (w : W) (s : _) (a : ℕ) → Whole w → code_start ≤ a → a < 2 ^ 20 → m.load (m.store w s) a ≡ m.load w a
  lost w s a t le lt = laws.loads w s a lt ∙ ap (λ b. if b then stored s a (m.load w a) else m.load w a) (laws.rom w t a le)

  -- a word in the segment of data and stack
  pub word_is : (w : W) (off : ℕ) → off + 1 < 65536 → loaded_word m w data_segment off ≡ m.load w (data_start + off) % 256 + 256 * (m.load w (data_start + 1 + off) % 256)
  unfolding loaded_word loaded_byte
  word_is w off h = ap₂ (λ x y. m.load w x % 256 + 256 * (m.load w y % 256)) (low_at off (omega (arith, h))) (high_at off h)

  pub word_small : (w : W) (seg off : ℕ) → loaded_word m w seg off < 65536
  unfolding loaded_word loaded_byte
  word_small w seg off = omega arith

  pub stacked_kept : (w u : W) (sp : ℕ) (l : List ℕ) → sp + 2 * length l ≤ stack_top → ((a : ℕ) → data_start + sp ≤ a → a < data_start + stack_top → m.load u a ≡ m.load w a) → Stacked m w sp l → Stacked m u sp l
  stacked_kept w u sp [] h e s = tt
  stacked_kept w u sp (v ∷ l) h e s = (
    word_is u sp (omega (arith, h)) ∙ ap₂ (λ x y. x % 256 + 256 * (y % 256)) (e (data_start + sp) (omega (arith, h)) (omega (arith, h))) (e (data_start + 1 + sp) (omega (arith, h)) (omega (arith, h))) ∙ sym (word_is w sp (omega (arith, h))) ∙ s.0,
    stacked_kept w u (sp + 2) l (omega (arith, h)) (λ a le lt. e a (omega (arith, le)) lt) s.1,
  )

  pub no_label : (w : W) (low high v : ℕ) → low < ram_size → high < ram_size → m.store_label w (stores.Word low high v) ≡ None
  no_label w low high v hl hh =
      laws.labels w (stores.Word low high v) ∙ ap₂ (λ x y. word_shown x y v) (unseen low hl) (unseen high hh)

  pub no_byte_label : (w : W) (a v : ℕ) → a < ram_size → m.store_label w (stores.Byte a v) ≡ None
  no_byte_label w a v h = laws.labels w (stores.Byte a v) ∙ ap (λ x. byte_shown x v) (unseen a h)

  -- a word stored in the segment of data and stack
  pub word_stored : (r : Regs) (off v : ℕ) (w : W) (ls : List Label) → off + 1 < 65536 → stored_at m widths.Word data_segment off v (record { registers = r; world = w; labels = ls }) ≡ record { registers = r; world = m.store w (stores.Word (data_start + off) (data_start + 1 + off) v); labels = ls }
  unfolding stored_access
  word_stored r off v w ls h =
      let f : ℕ → ℕ → Machine W = λ a b. record { registers = r; world = m.store w (stores.Word a b v); labels = ls ++ labels_of (m.store_label w (stores.Word a b v)) } in
      ap₂ f (low_at off (omega (arith, h))) (high_at off h)
      ∙ ap (λ o. record { registers = r; world = m.store w (stores.Word (data_start + off) (data_start + 1 + off) v); labels = ls ++ labels_of o }) (no_label w (data_start + off) (data_start + 1 + off) v (omega (arith, h)) (omega (arith, h)))
      ∙ ap (λ l. record { registers = r; world = m.store w (stores.Word (data_start + off) (data_start + 1 + off) v); labels = l }) (append-nil ls)

  pub byte_stored : (r : Regs) (off v : ℕ) (w : W) (ls : List Label) → off + 1 < 65536 → stored_at m widths.Byte data_segment off v (record { registers = r; world = w; labels = ls }) ≡ record { registers = r; world = m.store w (stores.Byte (data_start + off) v); labels = ls }
  unfolding stored_access
  byte_stored r off v w ls h =
      ap (λ a. record { registers = r; world = m.store w (stores.Byte a v); labels = ls ++ labels_of (m.store_label w (stores.Byte a v)) }) (low_at off (omega (arith, h)))
      ∙ ap (λ o. record { registers = r; world = m.store w (stores.Byte (data_start + off) v); labels = ls ++ labels_of o }) (no_byte_label w (data_start + off) v (omega (arith, h)))
      ∙ ap (λ l. record { registers = r; world = m.store w (stores.Byte (data_start + off) v); labels = l }) (append-nil ls)

  -- stores to a page of the screen
  pub page_byte_stored : (page : Page) (r : Regs) (i v : ℕ) (w : W) → i + 1 ≤ page_size
      → stored_at m widths.Byte screen_segment (page_begins page + i) v (record { registers = r; world = w; labels = [] })
      ≡ record { registers = r; world = m.store w (stores.Byte (page_at page + i) v); labels = screen_label page widths.Byte i v ∷ [] }
  unfolding stored_access
  page_byte_stored page r i v w h =
      let at = page_at page + i in
      ap (λ a. record { registers = r; world = m.store w (stores.Byte a v); labels = labels_of (m.store_label w (stores.Byte a v)) }) (page_place page i (omega (arith, h)))
      ∙ ap (λ o. record { registers = r; world = m.store w (stores.Byte at v); labels = labels_of o })
      (laws.labels w (stores.Byte at v) ∙ ap (λ x. byte_shown x v) (seen page i (omega (arith, h))) ∙ ap (λ l. Some l) (byte_label_is page i v))

  pub page_word_stored : (page : Page) (r : Regs) (i v : ℕ) (w : W) → i + 2 ≤ page_size
      → stored_at m widths.Word screen_segment (page_begins page + i) v (record { registers = r; world = w; labels = [] })
      ≡ record { registers = r; world = m.store w (stores.Word (page_at page + i) (page_at page + i + 1) v); labels = screen_label page widths.Word i v ∷ [] }
  unfolding stored_access
  page_word_stored page r i v w h =
      let low = page_at page + i in
      let high = page_at page + i + 1 in
      let next : high ≡ page_at page + (i + 1) = omega arith in
      ap₂ (λ a b. record { registers = r; world = m.store w (stores.Word a b v); labels = labels_of (m.store_label w (stores.Word a b v)) }) (page_place page i (omega (arith, h))) (page_next page i (omega (arith, h)))
      ∙ ap (λ o. record { registers = r; world = m.store w (stores.Word low high v); labels = labels_of o })
      (laws.labels w (stores.Word low high v)
      ∙ ap₂ (λ x y. word_shown x y v) (seen page i (omega (arith, h))) (ap spot next ∙ seen page (i + 1) (omega (arith, h)))
      ∙ ap (λ l. Some l) (word_label_is page i v))

  -- a push, below the top t + 2
  pub push_is : (p : ℕ) (g : Working) (t v : ℕ) (w : W) (ls : List Label) → t + 1 < 65536 → pushed m v (record { registers = all_registers p g (t + 2); world = w; labels = ls }) ≡ record { registers = all_registers p g t; world = m.store w (stores.Word (data_start + t) (data_start + 1 + t) v); labels = ls }
  unfolding pushed
  push_is p g t v w ls h =
      let down : (t + 2 + 65534) % 65536 ≡ t = omega (arith, h) in
      ap (λ s. stored_at m widths.Word data_segment s v (record { registers = all_registers p g s; world = w; labels = ls })) down ∙ word_stored (all_registers p g t) t v w ls h

  -- what a push leaves: a word more
  pub push_stacks : (w : W) (t v rest : ℕ) (st base : List ℕ) (room : ℕ) → Whole w → length st < room → t + 2 * (suc (length st) + length base) ≡ stack_top → Stack m w (t + 2) st base room → Stack m (m.store w (stores.Word (data_start + t) (data_start + 1 + t) v)) t (v % 65536 ∷ st) base room
  push_stacks w t v rest st base room whole lt at s =
      let u = m.store w (stores.Word (data_start + t) (data_start + 1 + t) v) in
      let lo = word_low w (data_start + t) (data_start + 1 + t) v (omega (arith, at)) (λ e. absurd (omega (arith, e))) (laws.ram w whole (data_start + t) (omega (arith, at))) in
      let hi = word_high w (data_start + t) (data_start + 1 + t) v (omega (arith, at)) (laws.ram w whole (data_start + 1 + t) (omega (arith, at))) in
      let value : loaded_word m u data_segment t ≡ v % 65536 = word_is u t (omega (arith, at)) ∙ ap₂ (λ x y. x % 256 + 256 * (y % 256)) lo hi ∙ halves v in
      record {
        words = (value, stacked_kept w u (t + 2) (st ++ base) (omega (arith, at, length-append st base)) (λ a le up. word_other w (data_start + t) (data_start + 1 + t) v a (omega (arith, up)) (λ e. absurd (omega (arith, e, le))) (λ e. absurd (omega (arith, e, le)))) s.words);
        within = lt;
        at = at;
      }

  pub pop_stacks : (w : W) (sp v : ℕ) (st base : List ℕ) (room : ℕ) → Stack m w sp (v ∷ st) base room → Stack m w (sp + 2) st base room
  pop_stacks w sp v st base room s = record { words = s.words.1; within = omega (arith, s.within); at = omega (arith, s.at) }

  -- words that are dropped
  pub drop_stacks : (k : ℕ) (w : W) (sp : ℕ) (st base : List ℕ) (room : ℕ) → k ≤ length st → Stack m w sp st base room → Stack m w (sp + 2 * k) (drop k st) base room
  drop_stacks zero w sp st base room h s = let same : sp ≡ sp + 2 * 0 = omega arith in subst (λ z. Stack m w z st base room) same s
  drop_stacks (suc k) w sp [] base room h s = absurd (omega (arith, h))
  drop_stacks (suc k) w sp (v ∷ st) base room h s =
      let same : sp + 2 + 2 * k ≡ sp + 2 * suc k = omega arith in
      subst (λ z. Stack m w z (drop k st) base room) same (drop_stacks k w (sp + 2) st base room (omega (arith, h)) (pop_stacks w sp v st base room s))

  -- a context's own word, where it lies
  pub own_word : (off v : ℕ) (w : W) (sp : ℕ) (st base : List ℕ) → Stacked m w sp (st ++ base) → stack_word off sp st ≡ Some v → loaded_word m w data_segment off ≡ v
  own_word off v w sp [] base s e = absurd (let wrong = e in cc)
  own_word off v w sp (x ∷ st) base s e = by (off == sp) refl (stack_word off (sp + 2) st) (own_word off v w (sp + 2) st base s.1) e
    where
      by : (b : Bool) → (off == sp) ≡ b → (o : Option ℕ) → (o ≡ Some v → loaded_word m w data_segment off ≡ v) → (if b then Some x else o) ≡ Some v → loaded_word m w data_segment off ≡ v
      by true same o more e = let value : x ≡ v = cc in ap (loaded_word m w data_segment) (eqb-true off sp same) ∙ s.0 ∙ value
      by false same o more e = more e

  pub pop_is : (p : ℕ) (g : Working) (sp v : ℕ) (w : W) (l : List ℕ) → sp + 2 < 65536 → Stacked m w sp (v ∷ l) → popped m w (all_registers p g sp) ≡ (v, all_registers p g (sp + 2))
  unfolding popped
  pop_is p g sp v w l h s =
      let up : (sp + 2) % 65536 ≡ sp + 2 = omega (arith, h) in
      ap₂ (λ x y. (x, all_registers p g y)) s.0 up

  -- memory that is kept but for the stack
  abbrev pub Beside : W → W → Type 0
  Beside w u = (a : ℕ) → a < 2 ^ 20 → (a < data_start + data_end) ⊎ (ram_size ≤ a) → m.load u a ≡ m.load w a

  fetch_kept : (w u : W) (p : ℕ) → ((a : ℕ) → code_start ≤ a → a < 2 ^ 20 → m.load u a ≡ m.load w a) → p < 65536 → fetched m u code_segment p ≡ fetched m w code_segment p
  unfolding fetched loaded_byte
  fetch_kept w u p e h =
      let one : (q : ℕ) → q < 65536 → m.load u (physical code_segment q) % 256 ≡ m.load w (physical code_segment q) % 256 = λ q lt. ap (λ x. x % 256) (e (physical code_segment q) (omega (arith, lt)) (omega (arith, lt))) in
      λ i. one p h i ∷ one ((p + 1) % 65536) (omega arith) i ∷ one ((p + 2) % 65536) (omega arith) i ∷ one ((p + 3) % 65536) (omega arith) i ∷ one ((p + 4) % 65536) (omega arith) i ∷ one ((p + 5) % 65536) (omega arith) i ∷ one ((p + 6) % 65536) (omega arith) i ∷ one ((p + 7) % 65536) (omega arith) i ∷ []

  pub spelled_kept : (code : ℕ → Option (Instr × ℕ)) (w u : W) → ((a : ℕ) → code_start ≤ a → a < 2 ^ 20 → m.load u a ≡ m.load w a) → Spelled m code w → Spelled m code u
  spelled_kept code w u e s = record { bounded = s.bounded; spelled = λ p d at. ap decoded (fetch_kept w u p e (s.bounded p d at)) ∙ s.spelled p d at }

  pub tables_kept : (words : ℕ → Option ℕ) (w u : W) → ((a : ℕ) → code_start ≤ a → a < 2 ^ 20 → m.load u a ≡ m.load w a) → HasTables m words w → HasTables m words u
  unfolding loaded_word loaded_byte
  tables_kept words w u e x off v at =
      let t = x off v at in
      (t.0, ap₂ (λ a b. a % 256 + 256 * (b % 256)) (e (physical code_segment off) (omega (arith, t.0)) (omega (arith, t.0))) (e (physical code_segment (next_offset off)) (omega (arith, t.0)) (omega (arith, t.0))) ∙ t.1)

  vector_word : (w u : W) (off : ℕ) → off + 1 < vectors_size → ((a : ℕ) → a < vectors_size → m.load u a ≡ m.load w a) → loaded_word m u 0 off ≡ loaded_word m w 0 off
  unfolding loaded_word loaded_byte
  vector_word w u off h e = ap₂ (λ x y. x % 256 + 256 * (y % 256)) (e (physical 0 off) (omega (arith, h))) (e (physical 0 (next_offset off)) (omega (arith, h)))

  pub vectors_kept : (entry : ℕ → ℕ) (w u : W) → ((a : ℕ) → a < vectors_size → m.load u a ≡ m.load w a) → Vectors m entry w → Vectors m entry u
  vectors_kept entry w u e v = record {
    offset = λ n h. vector_word w u (4 * n) (omega (arith, h)) e ∙ v.offset n h;
    segment = λ n h. vector_word w u (4 * n + 2) (omega (arith, h)) e ∙ v.segment n h;
  }

  module _ (code : ℕ → Option (Instr × ℕ)) (words : ℕ → Option ℕ) (entry placed size : ℕ → ℕ) (is_placed : Placed placed size) where
    -- a store on the stack, or none, keeps what is beside it
    pub fine_beside : (s : Store P) (w u : W) → Beside w u → Whole u → chips u ≡ chips w → Fine m chips Whole code words entry placed size s w → Fine m chips Whole code words entry placed size s u
    fine_beside s w u e t same_chips f = record {
      whole = t;
      spelled = spelled_kept code w u (λ a le lt. e a lt (inr (omega (arith, le)))) f.spelled;
      tables = tables_kept words w u (λ a le lt. e a lt (inr (omega (arith, le)))) f.tables;
      vectors = vectors_kept entry w u (λ a lt. e a (omega (arith, lt)) (inl (omega (arith, lt)))) f.vectors;
      holds = record {
        bytes = λ k i lt. let inside = is_placed.below k i (omega (arith, lt, f.sizes k)) in e (data_start + (placed k + i)) (omega (arith, inside)) (inl (omega (arith, inside))) ∙ f.holds.bytes k i lt;
        screen = λ page i lt. e (page_at page + i) (omega (arith, page_low page i lt)) (inr (omega arith)) ∙ f.holds.screen page i lt;
      };
      chips_are = same_chips ∙ f.chips_are;
      sizes = f.sizes;
      screen_size = f.screen_size;
    }

    pub fine_push : (s : Store P) (w : W) (t v : ℕ) → data_end ≤ t → t + 1 < 65536 → Fine m chips Whole code words entry placed size s w → Fine m chips Whole code words entry placed size s (m.store w (stores.Word (data_start + t) (data_start + 1 + t) v))
    fine_push s w t v le lt f =
        fine_beside s w (m.store w (stores.Word (data_start + t) (data_start + 1 + t) v))
        (λ a h side. word_other w (data_start + t) (data_start + 1 + t) v a h (λ e. off_stack a (data_start + t) e (omega (arith, le)) (omega (arith, lt)) side) (λ e. off_stack a (data_start + 1 + t) e (omega (arith, le)) (omega (arith, lt)) side))
        (laws.stays w (stores.Word (data_start + t) (data_start + 1 + t) v) f.whole) (laws.store_chips w (stores.Word (data_start + t) (data_start + 1 + t) v)) f
      where
        off_stack : (a x : ℕ) → a ≡ x → data_start + data_end ≤ x → x < ram_size → (a < data_start + data_end) ⊎ (ram_size ≤ a) → ⊥
        off_stack a x e le lt side = ⊎_elim (λ h. absurd (omega (arith, e, h, le))) (λ h. absurd (omega (arith, e, h, lt))) side

    -- where only chips change
    pub fine_chips : (s : Store P) (w u : W) (p : P) → ((a : ℕ) → m.load u a ≡ m.load w a) → Whole u → chips u ≡ p → Fine m chips Whole code words entry placed size s w → Fine m chips Whole code words entry placed size (record { objects = s.objects; screen = s.screen; chips = p }) u
    fine_chips s w u p e t same_chips f = record {
      whole = t;
      spelled = spelled_kept code w u (λ a le lt. e a) f.spelled;
      tables = tables_kept words w u (λ a le lt. e a) f.tables;
      vectors = vectors_kept entry w u (λ a lt. e a) f.vectors;
      holds = record {
        bytes = λ k i lt. e (data_start + (placed k + i)) ∙ f.holds.bytes k i lt;
        screen = λ page i lt. e (page_at page + i) ∙ f.holds.screen page i lt;
      };
      chips_are = same_chips;
      sizes = f.sizes;
      screen_size = f.screen_size;
    }

    pub stack_chips : (w u : W) (sp : ℕ) (st base : List ℕ) (room : ℕ) → ((a : ℕ) → m.load u a ≡ m.load w a) → Stack m w sp st base room → Stack m u sp st base room
    stack_chips w u sp st base room e k = record {
      words = stacked_kept w u sp (st ++ base) (omega (arith, k.at, length-append st base)) (λ a ge lt. e a) k.words;
      within = k.within;
      at = k.at;
    }

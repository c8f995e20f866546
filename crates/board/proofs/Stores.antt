-- A store below the screen leaves and_parts pages, and shows nothing. A word has its bytes side by side on one page, or not and_parts on one.
use Rattle.std.proofs.Common.{◌≡◌, ℕ, ◌+◌, ◌-◌, ◌<◌, ◌≤◌, Bool, true, false, List, length, arith, ap, sym, subst, refl, ◌∙◌}
use Rattle.std.specs.Prelude.{slice_set, nat_lt, nat_le, ◌&&◌, if◌then◌else◌, Option, Some, None}
use Rattle.std.proofs.lemmas.Bool.{lt-leb, lt-ltb, le-leb, le-ltb, ltb-true, leb-true, and_parts, cond-false}
use Rattle.std.proofs.lemmas.List.{length-set}
use Rattle.std.proofs.Math.Bool.{and-false}
use Rattle.word86.specs.declared.label.Label.TheVariants.{ScrW}
use Rattle.word86.specs.declared.page.Page.{Page}
use Rattle.word86.specs.declared.page.Page.TheVariants.{Monochrome, Colour}
use Rattle.word86.specs.MemoryMap.{ram_size}
use Rattle.word86.specs.Page.{page_at, page_size}
use Rattle.cpu8086.specs.declared.bus.Store.TheVariants as stores
use Rattle.cpu8086.specs.Machine.{physical, next_offset}
use Rattle.board.specs.World.{put, is_on, spot, byte_shown, word_shown, shown_store}

below_region : (base : ℕ) (l : List ℕ) (a v : ℕ) → a < base → put base l a v ≡ l
below_region base l a v lt = ap (λ t. if t && nat_lt a (base + length l) then slice_set l (a - base) v else l) (lt-leb base a lt)

pub below_monochrome : (l : List ℕ) (a v : ℕ) → a < ram_size → put (page_at Monochrome) l a v ≡ l
below_monochrome l a v lt = below_region (page_at Monochrome) l a v (omega (arith, lt))

pub below_colour : (l : List ℕ) (a v : ℕ) → a < ram_size → put (page_at Colour) l a v ≡ l
below_colour l a v lt = below_region (page_at Colour) l a v (omega (arith, lt))

above_region : (base : ℕ) (l : List ℕ) (a v : ℕ) → base + length l ≤ a → put base l a v ≡ l
above_region base l a v le = ap (λ t. if nat_le base a && t then slice_set l (a - base) v else l) (le-ltb a (base + length l) le) ∙ cond-false (nat_le base a && false) (slice_set l (a - base) v) l (and-false (nat_le base a))

-- a byte of the colour page is neither in RAM nor on the other page
pub colour_is_not_ram : (l : List ℕ) (i v : ℕ) → length l ≡ ram_size → put 0 l (page_at Colour + i) v ≡ l
colour_is_not_ram l i v whole = above_region 0 l (page_at Colour + i) v (omega (arith, whole))

pub colour_is_not_monochrome : (l : List ℕ) (i v : ℕ) → length l ≡ page_size → put (page_at Monochrome) l (page_at Colour + i) v ≡ l
colour_is_not_monochrome l i v whole = above_region (page_at Monochrome) l (page_at Colour + i) v (omega (arith, whole))

pub put_on_colour : (l : List ℕ) (i v : ℕ) → length l ≡ page_size → i < page_size → put (page_at Colour) l (page_at Colour + i) v ≡ slice_set l i v
put_on_colour l i v whole lt =
    let base = page_at Colour in
    let low : base ≤ base + i = omega arith in
    let high : base + i < base + length l = omega (arith, whole, lt) in
    let at : base + i - base ≡ i = omega arith in
    ap (λ t. if t && nat_lt (base + i) (base + length l) then slice_set l (base + i - base) v else l) (le-leb base (base + i) low)
    ∙ ap (λ t. if t then slice_set l (base + i - base) v else l) (lt-ltb (base + i) (base + length l) high)
    ∙ ap (λ k. slice_set l k v) at

-- ---- words in RAM

in_region : (l : List ℕ) (a v : ℕ) → a < length l → put 0 l a v ≡ slice_set l a v
in_region l a v lt =
    let low : 0 ≤ a = omega arith in
    let high : a < 0 + length l = omega (arith, lt) in
    let at : a - 0 ≡ a = omega arith in
    ap (λ t. if t && nat_lt a (0 + length l) then slice_set l (a - 0) v else l) (le-leb 0 a low)
    ∙ ap (λ t. if t then slice_set l (a - 0) v else l) (lt-ltb a (0 + length l) high)
    ∙ ap (λ k. slice_set l k v) at

pub word_in_ram : (l : List ℕ) (a v w : ℕ) → length l ≡ ram_size → a + 1 < ram_size → put 0 (put 0 l a v) (a + 1) w ≡ slice_set (slice_set l a v) (a + 1) w
word_in_ram l a v w whole lt =
    let low : a < length l = omega (arith, whole, lt) in
    let high : a + 1 < length (slice_set l a v) = omega (arith, whole, lt, length-set l a v) in
    ap (λ k. put 0 k (a + 1) w) (in_region l a v low) ∙ in_region (slice_set l a v) (a + 1) w high

pub word_below_monochrome : (l : List ℕ) (a v w : ℕ) → a + 1 < ram_size → put (page_at Monochrome) (put (page_at Monochrome) l a v) (a + 1) w ≡ l
word_below_monochrome l a v w lt = ap (λ k. put (page_at Monochrome) k (a + 1) w) (below_monochrome l a v (omega (arith, lt))) ∙ below_monochrome l (a + 1) w lt

pub word_below_colour : (l : List ℕ) (a v w : ℕ) → a + 1 < ram_size → put (page_at Colour) (put (page_at Colour) l a v) (a + 1) w ≡ l
word_below_colour l a v w lt = ap (λ k. put (page_at Colour) k (a + 1) w) (below_colour l a v (omega (arith, lt))) ∙ below_colour l (a + 1) w lt

-- what lies below a page is not on it
below_page : (page : Page) (a : ℕ) → a < page_at page → is_on page a ≡ false
below_page page a lt = ap (λ t. t && nat_lt a (page_at page + page_size)) (lt-leb (page_at page) a lt)

abbrev some_at : Page → ℕ → Option (Page × ℕ)
some_at page i = Some (page, i)

no_spot : (a : ℕ) → a < ram_size → spot a ≡ None
no_spot a lt =
    ap (λ t. if t then some_at Monochrome (a - page_at Monochrome) else if is_on Colour a then some_at Colour (a - page_at Colour) else None) (below_page Monochrome a (omega (arith, lt)))
    ∙ ap (λ t. if t then some_at Colour (a - page_at Colour) else None) (below_page Colour a (omega (arith, lt)))

pub unseen_byte : (a v : ℕ) → a < ram_size → None ≡ shown_store (stores.Byte a v)
unseen_byte a v lt = sym (ap (λ s. byte_shown s v) (no_spot a lt))

pub unseen_word : (low high v : ℕ) → low < ram_size → high < ram_size → None ≡ shown_store (stores.Word low high v)
unseen_word low high v lt next = sym (ap (λ s. word_shown s (spot high) v) (no_spot low lt) ∙ ap (λ s. word_shown None s v) (no_spot high next))

-- ---- where the bytes of a word are

-- an address on a page, by the page and the offset in it
record Lies (a : ℕ) (page : Page) (i : ℕ) : Type 0 where
  at : a ≡ page_at page + i
  inside : i < page_size

within : (page : Page) (a : ℕ) → is_on page a ≡ true → Lies a page (a - page_at page)
within page a e =
    let t = and_parts (nat_le (page_at page) a) (nat_lt a (page_at page + page_size)) e in
    let low = leb-true (page_at page) a t.0 in
    let high = ltb-true a (page_at page + page_size) t.1 in
    record { at = omega arith; inside = omega arith }

abbrev the : Option (Page × ℕ) → Page × ℕ
the None = (Monochrome, 0)
the (Some x) = x

found : (a : ℕ) (p page : Page) (k i : ℕ) → Lies a p k → some_at p k ≡ some_at page i → Lies a page i
found a p page k i l e =
    let same : p ≡ page = ap (λ (z : Option (Page × ℕ)). (the z).0) e in
    let at : k ≡ i = ap (λ (z : Option (Page × ℕ)). (the z).1) e in
    subst (λ (x : Page). Lies a x i) same (subst (λ (n : ℕ). Lies a p n) at l)

-- what `spot` answers, by its two tests
by_tests : (a : ℕ) (page : Page) (i : ℕ) (t u : Bool) → is_on Monochrome a ≡ t → is_on Colour a ≡ u
    → (if t then some_at Monochrome (a - page_at Monochrome) else if u then some_at Colour (a - page_at Colour) else None) ≡ some_at page i → Lies a page i
by_tests a page i true u x y e = found a Monochrome page (a - page_at Monochrome) i (within Monochrome a x) e
by_tests a page i false true x y e = found a Colour page (a - page_at Colour) i (within Colour a y) e
by_tests a page i false false x y e = absurd cc

spot_lies : (a : ℕ) (page : Page) (i : ℕ) → spot a ≡ Some (page, i) → Lies a page i
spot_lies a page i e = by_tests a page i (is_on Monochrome a) (is_on Colour a) refl refl e

-- the pages are 32,768 addresses apart, and the bytes of a word 1 or, where its offset wraps, 65,535
side_by_side : (segment offset : ℕ) → offset < 65536 → (p q : Page) (i j : ℕ) → Lies (physical segment offset) p i → Lies (physical segment (next_offset offset)) q j → (q ≡ p) × (j ≡ i + 1)
side_by_side segment offset lt Monochrome Monochrome i j x y = (refl, omega (arith, lt, x.at, x.inside, y.at, y.inside))
side_by_side segment offset lt Monochrome Colour i j x y = absurd (omega (arith, lt, x.at, x.inside, y.at, y.inside))
side_by_side segment offset lt Colour Monochrome i j x y = absurd (omega (arith, lt, x.at, x.inside, y.at, y.inside))
side_by_side segment offset lt Colour Colour i j x y = (refl, omega (arith, lt, x.at, x.inside, y.at, y.inside))

pub no_word_on_two_pages : (segment offset : ℕ) → offset < 65536 → (p q : Page) (i j : ℕ)
    → spot (physical segment offset) ≡ Some (p, i) → spot (physical segment (next_offset offset)) ≡ Some (q, j) → (q ≡ p) × (j ≡ i + 1)
no_word_on_two_pages segment offset lt p q i j x y =
    side_by_side segment offset lt p q i j (spot_lies (physical segment offset) p i x) (spot_lies (physical segment (next_offset offset)) q j y)

-- ---- words on the colour page

colour_spot : (a i : ℕ) → a ≡ page_at Colour + i → i < page_size → spot a ≡ Some (Colour, i)
colour_spot a i at lt =
    let high : page_at Monochrome + page_size ≤ a = omega (arith, at) in
    let from : page_at Colour ≤ a = omega (arith, at) in
    let to : a < page_at Colour + page_size = omega (arith, at, lt) in
    let same : a - page_at Colour ≡ i = omega (arith, at) in
    ap (λ t. if nat_le (page_at Monochrome) a && t then some_at Monochrome (a - page_at Monochrome) else if is_on Colour a then some_at Colour (a - page_at Colour) else None) (le-ltb a (page_at Monochrome + page_size) high)
    ∙ cond-false (nat_le (page_at Monochrome) a && false) (some_at Monochrome (a - page_at Monochrome)) (if is_on Colour a then some_at Colour (a - page_at Colour) else None) (and-false (nat_le (page_at Monochrome) a))
    ∙ ap (λ t. if t && nat_lt a (page_at Colour + page_size) then some_at Colour (a - page_at Colour) else None) (le-leb (page_at Colour) a from)
    ∙ ap (λ t. if t then some_at Colour (a - page_at Colour) else None) (lt-ltb a (page_at Colour + page_size) to)
    ∙ ap (some_at Colour) same

pub seen_word : (low high i v : ℕ) → low ≡ page_at Colour + i → high ≡ page_at Colour + (i + 1) → i + 1 < page_size → Some (ScrW i v) ≡ shown_store (stores.Word low high v)
seen_word low high i v at next lt =
    sym (ap (λ s. word_shown s (spot high) v) (colour_spot low i at (omega (arith, lt))) ∙ ap (λ s. word_shown (some_at Colour i) s v) (colour_spot high (i + 1) next lt))

-- Where the code's accesses go, and where the meaning's do.
use Rattle.std.proofs.lemmas.Bool.{and_parts, and_from, leb-true, le-leb}
use Rattle.std.proofs.lemmas.Option.{none-some}
use Rattle.std.proofs.Common.{◌≡◌, ℕ, ◌+◌, ◌-◌, ◌%◌, ◌<◌, ◌≤◌, Bool, true, false, Some, None, refl, ap, ◌∙◌, arith}
use Rattle.std.specs.Prelude.{if◌then◌else◌, slice_index}
use Rattle.word86.specs.declared.width.Width.{Width}
use Rattle.word86.specs.declared.width.Width.TheVariants as widths
use Rattle.word86.specs.Access.{Where, In, Screen}
use Rattle.word86.specs.declared.page.Page.{Page}
use Rattle.word86.specs.declared.page.Page.TheVariants.{Monochrome, Colour}
use Rattle.word86.specs.Page.{page_begins, page_size}
use Rattle.word86.specs.Place.{bytes, covers, held}
use Rattle.plm_type.specs.Rest.{Anchor, InObject, OnScreen, Behind, There, Refer, NoSubscripts}
use Rattle.plm_type.specs.Places.{placed}
use Rattle.plm_type.specs.Next.{address_of}
use Rattle.icode.specs.Machine.{address, found}
use Rattle.lower.specs.Expressions.{place_of, anchor_place}
use Rattle.lower.specs.Well.{Lies, AnchorLies}
use Rattle.lower.proofs.Setting.{Setting}

pub bytes_some : (w : Width) → 1 ≤ bytes w
bytes_some widths.Byte = omega arith
bytes_some widths.Word = omega arith

-- a page ends in the first 65,536 bytes of the screen's segment
page_low : (page : Page) → page_begins page + page_size < 65536
page_low Monochrome = omega arith
page_low Colour = omega arith

pub covered : (first size a n : ℕ) → first ≤ a → a + n ≤ first + size → covers first size a n ≡ true
covered first size a n h k = and_from _ _ (le-leb first a h) (le-leb (a + n) (first + size) k)

pub of_covered : (first size a n : ℕ) → covers first size a n ≡ true → (first ≤ a) × (a + n ≤ first + size)
of_covered first size a n h = let both = and_parts _ _ h in (leb-true first a both.0, leb-true (a + n) (first + size) both.1)

-- an anchor that lies at a fixed place
abbrev pub IsFixed : Anchor → Type 0
IsFixed (InObject k start size) = Unit {0}
IsFixed (OnScreen page start size) = Unit {0}
IsFixed (Behind base) = ⊥
IsFixed (There address) = ⊥

fixed_at : (o start offset more further : ℕ) → (offset + more) % 65536 ≡ further % 65536 → (o + start + further) % 65536 ≡ (o + (start + offset) % 65536 + more) % 65536
fixed_at o start offset more further e = omega (arith, e)

module _ (x : Setting) where
  pub found_plain : (w : Width) (y : Where) → Lies x.sizes w y → found x.offsets x.sizes w (place_of y) (address x.offsets x.sizes (place_of y) 0) ≡ Some y
  found_plain w (In k i) h =
      let e : (slice_index x.offsets k + i + 0) % 65536 ≡ slice_index x.offsets k + i = omega (arith, x.low_enough k i (bytes w) (bytes_some w) h, bytes_some w) in
      ap (λ a. held 0 x.offsets x.sizes a (bytes w)) e ∙ x.finds k i (bytes w) (bytes_some w) h
  found_plain w (Screen page i) h =
      let o = page_begins page in
      let e : (o + i + 0) % 65536 ≡ o + i = omega (arith, h, bytes_some w, page_low page) in
      let d : o + i - o ≡ i = omega arith in
      ap (λ a. if covers o page_size a (bytes w) then Some (Screen page (a - o)) else None) e
      ∙ ap (λ b. if b then Some (Screen page (o + i - o)) else None) (covered o page_size (o + i) (bytes w) (omega arith) (omega (arith, h)))
      ∙ ap (λ j. Some (Screen page j)) d

  in_object : (w : Width) (k start size a : ℕ) (y : Where) → start + size ≤ slice_index x.sizes k → (b : Bool) → covers (slice_index x.offsets k + start) size a (bytes w) ≡ b
      → (if b then Some (In k (a - slice_index x.offsets k)) else None) ≡ Some y → held 0 x.offsets x.sizes a (bytes w) ≡ Some y
  in_object w k start size a y lies false e h = absurd (none-some y h)
  in_object w k start size a y lies true e h =
      let o = slice_index x.offsets k in
      let c = of_covered (o + start) size a (bytes w) e in
      let at : a ≡ o + (a - o) = omega (arith, c.0) in
      ap (λ b. held 0 x.offsets x.sizes b (bytes w)) at ∙ x.finds k (a - o) (bytes w) (bytes_some w) (omega (arith, c.0, c.1, lies)) ∙ h

  on_screen : (page : Page) (w : Width) (start size a : ℕ) (y : Where) → start + size ≤ page_size → (b : Bool) → covers (page_begins page + start) size a (bytes w) ≡ b
      → (if b then Some (Screen page (a - page_begins page)) else None) ≡ Some y → (if covers (page_begins page) page_size a (bytes w) then Some (Screen page (a - page_begins page)) else None) ≡ Some y
  on_screen page w start size a y lies false e h = absurd (none-some y h)
  on_screen page w start size a y lies true e h =
      let o = page_begins page in
      let c = of_covered (o + start) size a (bytes w) e in
      ap (λ b. if b then Some (Screen page (a - o)) else None) (covered o page_size a (bytes w) (omega (arith, c.0)) (omega (arith, c.1, lies))) ∙ h

  -- what the meaning finds at an address, the code does
  pub found_fixed : (w : Width) (anchor : Anchor) → AnchorLies x.sizes anchor → IsFixed anchor → (offset a : ℕ) (y : Where) → placed x.offsets x.sizes w anchor a ≡ Some y → found x.offsets x.sizes w (anchor_place anchor offset) a ≡ Some y
  found_fixed w (InObject k start size) lies fixed offset a y h = in_object w k start size a y lies _ refl h
  found_fixed w (OnScreen page start size) lies fixed offset a y h = on_screen page w start size a y lies _ refl h
  found_fixed w (Behind base) lies fixed offset a y h = absurd fixed
  found_fixed w (There b) lies fixed offset a y h = absurd fixed

  pub address_fixed : (m l : ℕ) (anchor : Anchor) → IsFixed anchor → (offset more further : ℕ) → (offset + more) % 65536 ≡ further % 65536
      → address_of x.offsets x.sizes x.procedures (Refer m l anchor further NoSubscripts) ≡ Some (address x.offsets x.sizes (anchor_place anchor offset) more)
  address_fixed m l (InObject k start size) fixed offset more further e = ap Some (fixed_at (slice_index x.offsets k) start offset more further e)
  address_fixed m l (OnScreen page start size) fixed offset more further e = ap Some (fixed_at (page_begins page) start offset more further e)
  address_fixed m l (Behind base) fixed offset more further e = absurd fixed
  address_fixed m l (There b) fixed offset more further e = absurd fixed

-- The board's memory is lawful. The ghost items of its bus cite this, so that it stands in specs.
use Rattle.std.specs.Prelude.{ℕ, Bool, true, false, ◌≡◌, ◌==◌, ◌+◌, ◌-◌, ◌%◌, ◌/◌, ◌<◌, ◌≤◌, ◌&&◌, ◌||◌, nat_lt, nat_le, if◌then◌else◌, List, slice_index, slice_set, length, refl}
use Rattle.std.proofs.Common.{cond, ◌∙◌, ◌⊎◌, sym, ap, arith, inl, inr, subst}
use Rattle.std.proofs.lemmas.Bool.Decides.{eqb_tells}
use Rattle.std.proofs.lemmas.Bool.{ltb-true, leb-true, and_parts}
use Rattle.std.proofs.lemmas.List.{get_or-set_other, get_or-set_same, length-set}
use Rattle.cpu8086.specs.declared.bus.Store.{Store}
use Rattle.cpu8086.specs.declared.bus.Store.TheVariants as stores
use Rattle.cpu8086.specs.BusLaws.{LoadAfterStore, PortsKeepMemory, stored}
use Rattle.word86.specs.Chips.{Chips}
use Rattle.word86.specs.declared.page.Page.TheVariants.{Monochrome, Colour}
use Rattle.word86.specs.Page.{Pages, page_at}
use Rattle.board.specs.World.{lies_in, region, put, after_store, memory_byte, is_kept, screen_after, board_model}

chosen : {A : Type 0} (b : Bool) (x y : A) → ((b ≡ true) × (cond b x y ≡ x)) ⊎ ((b ≡ false) × (cond b x y ≡ y))
chosen true x y = inl (refl, refl)
chosen false x y = inr (refl, refl)

pub length-put : (base : ℕ) (l : List ℕ) (a v : ℕ) → length (put base l a v) ≡ length l
length-put base l a v = elim (chosen (lies_in base l a) (slice_set l (a - base) v) l) [
  | inl e ↦ ap length e.1 ∙ length-set l (a - base) v
  | inr e ↦ ap length e.1
]

pub length-after_store : (base : ℕ) (l : List ℕ) (s : Store) → length (after_store base l s) ≡ length l
length-after_store base l (stores.Byte a v) = length-put base l a v
length-after_store base l (stores.Word low high v) = length-put base (put base l low (v % 256)) high (v / 256) ∙ length-put base l low (v % 256)

inside : (base : ℕ) (l : List ℕ) (a : ℕ) → lies_in base l a ≡ true → (base ≤ a) × (a < base + length l)
inside base l a e = let t = and_parts (nat_le base a) (nat_lt a (base + length l)) e in (leb-true base a t.0, ltb-true a (base + length l) t.1)

same_within : (base : ℕ) (l k : List ℕ) (a : ℕ) → length k ≡ length l → lies_in base k a ≡ lies_in base l a
same_within base l k a e = ap (λ n. nat_le base a && nat_lt a (base + n)) e

either : {A : Type 0} (t : Bool) (x : A) → cond t x x ≡ x
either true x = refl
either false x = refl

-- the byte of a list at an address, after a byte was put
put_index : (base : ℕ) (l : List ℕ) (a v b : ℕ) → lies_in base l b ≡ true → slice_index (put base l a v) (b - base) ≡ (if b == a then v else slice_index l (b - base))
put_index base l a v b e =
    let here = inside base l b e in
    elim (eqb_tells b a) [
      | inl same ↦ rw (same.0) (let e2 : lies_in base l a ≡ true = subst (λ x. lies_in base l x ≡ true) same.1 e in
          subst (λ x. slice_index (put base l a v) (x - base) ≡ v) (sym same.1)
          (ap (λ (t : Bool). slice_index (cond t (slice_set l (a - base) v) l) (a - base)) e2 ∙ get_or-set_same l (a - base) v 0 (omega (arith, here.0, here.1, same.1))))
      | inr other ↦ rw (other.0) (elim (chosen (lies_in base l a) (slice_set l (a - base) v) l) [
        | inl w ↦ ap (λ (k : List ℕ). slice_index k (b - base)) w.1 ∙ get_or-set_other l (a - base) (b - base) v 0 (let there = inside base l a w.0 in omega (arith, other.1, here.0, there.0))
        | inr w ↦ ap (λ (k : List ℕ). slice_index k (b - base)) w.1
      ])
    ]

put_all_index : (base : ℕ) (l : List ℕ) (s : Store) (b : ℕ) → lies_in base l b ≡ true → slice_index (after_store base l s) (b - base) ≡ stored s b (slice_index l (b - base))
put_all_index base l (stores.Byte a v) b e = put_index base l a v b e
put_all_index base l (stores.Word low high v) b e =
    put_index base (put base l low (v % 256)) high (v / 256) b (same_within base l (put base l low (v % 256)) b (length-put base l low (v % 256)) ∙ e)
    ∙ ap (λ x. if b == high then v / 256 else x) (put_index base l low (v % 256) b e)

region_put : (base : ℕ) (l : List ℕ) (s : Store) (b beyond : ℕ) → region base (after_store base l s) b beyond ≡ (if lies_in base l b then stored s b (slice_index l (b - base)) else beyond)
region_put base l s b beyond =
    let len = same_within base l (after_store base l s) b (length-after_store base l s) in
    elim (chosen (lies_in base l b) (stored s b (slice_index l (b - base))) beyond) [
      | inl w ↦ ap (λ t. if t then slice_index (after_store base l s) (b - base) else beyond) (len ∙ w.0) ∙ put_all_index base l s b w.0 ∙ sym w.1
      | inr w ↦ ap (λ t. if t then slice_index (after_store base l s) (b - base) else beyond) (len ∙ w.0) ∙ sym w.1
    ]

nested : (t u v : Bool) (f : ℕ → ℕ) (x y z w : ℕ)
    → cond t (f x) (cond u (f y) (cond v (f z) w)) ≡ cond (t || (u || v)) (f (cond t x (cond u y (cond v z w)))) (cond t x (cond u y (cond v z w)))
nested true u v f x y z w = refl
nested false true v f x y z w = refl
nested false false true f x y z w = refl
nested false false false f x y z w = refl

pub byte_after_store : (ram : List ℕ) (screen : Pages) (rom : List ℕ) (s : Store) (a : ℕ)
    → memory_byte (after_store 0 ram s) (screen_after screen s) rom a ≡ (if is_kept ram screen a then stored s a (memory_byte ram screen rom a) else memory_byte ram screen rom a)
byte_after_store ram screen rom s a =
    let beyond = region (0x100000 - length rom) rom a 255 in
    let low = page_at Monochrome in
    let high = page_at Colour in
    let in_ram = lies_in 0 ram a in
    let in_low = lies_in low screen.monochrome a in
    let byte = stored s a (slice_index ram (a - 0)) in
    let low_byte = stored s a (slice_index screen.monochrome (a - low)) in
    region_put 0 ram s a (region low (after_store low screen.monochrome s) a (region high (after_store high screen.colour s) a beyond))
    ∙ ap (λ x. if in_ram then byte else x) (region_put low screen.monochrome s a (region high (after_store high screen.colour s) a beyond))
    ∙ ap (λ x. if in_ram then byte else if in_low then low_byte else x) (region_put high screen.colour s a beyond)
    ∙ nested in_ram in_low (lies_in high screen.colour a) (λ x. stored s a x) (slice_index ram (a - 0)) (slice_index screen.monochrome (a - low)) (slice_index screen.colour (a - high)) beyond

pub load_after_store_law : {P : Type 0} (c : Chips P) → LoadAfterStore (board_model c)
load_after_store_law c w s a h = byte_after_store w.ram w.screen w.rom s a

pub ports_law : {P : Type 0} (c : Chips P) → PortsKeepMemory (board_model c)
ports_law c = record { reading = λ w width port a. refl; writing = λ w width port value a. refl; acknowledging = λ w a. refl }

-- The tests' bus: memory that keeps all that is stored, a screen at 0B0000H to 0BFFFFH, ports that read 5A5AH, and a request for an
-- interrupt.
use Rattle.std.specs.Prelude.{ℕ, Bool, true, false, ◌≡◌, ◌==◌, ◌%◌, ◌/◌, ◌<◌, nat_lt, if◌then◌else◌, Option, Some, None, is_some, unwrap_or, List, slice_index_or, slice_set, length, refl}
use Rattle.std.proofs.Common.{cond, ◌∙◌, ◌⊎◌, sym, ap, arith, inl, inr}
use Rattle.std.proofs.lemmas.Bool.Decides.{eqb_tells}
use Rattle.std.proofs.lemmas.Bool.{ltb-true}
use Rattle.std.proofs.lemmas.List.{get_or-set_other, get_or-set_same, length-set}
use Rattle.word86.specs.declared.label.Label.{Label}
use Rattle.word86.specs.declared.label.Label.TheVariants.{Scr, ScrW}
use Rattle.cpu8086.specs.declared.bus.Store.{Store}
use Rattle.cpu8086.specs.declared.bus.Store.TheVariants as stores
use Rattle.cpu8086.specs.BusModel.{BusModel}
use Rattle.cpu8086.specs.BusLaws.{LoadAfterStore, PortsKeepMemory}

abbrev pub TestWorld : Type 0
TestWorld = List ℕ × Option ℕ

abbrev pub put : List ℕ → ℕ → ℕ → List ℕ
put l a v = if nat_lt a (length l) then slice_set l a v else l

abbrev pub put_store : List ℕ → Store → List ℕ
put_store l (stores.Byte address value) = put l address value
put_store l (stores.Word low high value) = put (put l low (value % 256)) high (value / 256)

abbrev pub on_screen : ℕ → Bool
on_screen a = a / 65536 == 11

abbrev pub shown : Store → Option Label
shown (stores.Byte address value) = if on_screen address then Some (Scr (address % 65536) value) else None
shown (stores.Word low high value) = if on_screen low then Some (ScrW (low % 65536) value) else None

abbrev pub test_bus : BusModel TestWorld
test_bus = record {
  load = λ w a. slice_index_or w.0 a 255;
  store = λ w s. (put_store w.0 s, w.1);
  store_label = λ w s. shown s;
  keeps = λ w a. nat_lt a (length w.0);
  port_value = λ w width port. 0x5A5A;
  port_in = λ w width port. w;
  port_out = λ w width port value. w;
  int_line = λ w. is_some w.1;
  vector = λ w. unwrap_or w.1 0;
  acknowledge = λ w. (w.0, None);
}

chosen : {A : Type 0} (b : Bool) (x y : A) → ((b ≡ true) × (cond b x y ≡ x)) ⊎ ((b ≡ false) × (cond b x y ≡ y))
chosen true x y = inl (refl, refl)
chosen false x y = inr (refl, refl)

length-put : (l : List ℕ) (a v : ℕ) → length (put l a v) ≡ length l
length-put l a v = elim (chosen (nat_lt a (length l)) (slice_set l a v) l) [
  | inl within ↦ ap length within.1 ∙ length-set l a v
  | inr past ↦ ap length past.1
]

-- what is read after one byte is stored
put_reads : (l : List ℕ) (a v b : ℕ) → slice_index_or (put l a v) b 255 ≡ (if nat_lt b (length l) then (if b == a then v else slice_index_or l b 255) else slice_index_or l b 255)
put_reads l a v b =
    elim (eqb_tells b a) [
      | inl same ↦ rw (same.0, same.1) (at_same l a v)
      | inr other ↦ rw (other.0) (elim (chosen (nat_lt a (length l)) (slice_set l a v) l) [
        | inl within ↦ ap (λ (k : List ℕ). slice_index_or k b 255) within.1 ∙ get_or-set_other l a b v 255 other.1 ∙ sym (either (nat_lt b (length l)) (slice_index_or l b 255))
        | inr past ↦ ap (λ (k : List ℕ). slice_index_or k b 255) past.1 ∙ sym (either (nat_lt b (length l)) (slice_index_or l b 255))
      ])
    ]
  where
    either : (t : Bool) (x : ℕ) → cond t x x ≡ x
    either true x = refl
    either false x = refl

    at_same : (l : List ℕ) (a v : ℕ) → slice_index_or (put l a v) a 255 ≡ (if nat_lt a (length l) then v else slice_index_or l a 255)
    at_same l a v =
        elim (chosen (nat_lt a (length l)) (slice_set l a v) l) [
          | inl within ↦ let lt : a < length l = omega (arith, ltb-true a (length l) within.0) in
              ap (λ (k : List ℕ). slice_index_or k a 255) within.1 ∙ get_or-set_same l a v 255 lt ∙ rw (within.0) refl
          | inr past ↦ ap (λ (k : List ℕ). slice_index_or k a 255) past.1 ∙ rw (past.0) refl
        ]

pub load_after_store_law : LoadAfterStore test_bus
load_after_store_law w (stores.Byte address value) a h = put_reads w.0 address value a
load_after_store_law w (stores.Word low high value) a h =
    put_reads (put w.0 low (value % 256)) high (value / 256) a
    ∙ rw (length-put w.0 low (value % 256), put_reads w.0 low (value % 256) a) (nested (nat_lt a (length w.0)) (a == high) (value / 256) _ _)
  where
    nested : (t s : Bool) (x y z : ℕ) → cond t (cond s x (cond t y z)) (cond t y z) ≡ cond t (cond s x y) z
    nested true s x y z = refl
    nested false s x y z = refl

pub ports_law : PortsKeepMemory test_bus
ports_law = record { reading = λ w width port a. refl; writing = λ w width port value a. refl; acknowledging = λ w a. refl }

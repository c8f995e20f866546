-- What the processor offers at loads and stores.
use Rattle.std.proofs.Common.{◌≡◌, ℕ, false, List, Option, refl}
use Rattle.word86.specs.declared.width.Width.{Width}
use Rattle.word86.specs.declared.width.Width.TheVariants as widths
use Rattle.word86.specs.declared.place.Place.{Place}
use Rattle.word86.specs.declared.place.Place.TheVariants as place
use Rattle.word86.specs.Access.{Where}
use Rattle.i86_table.specs.declared.registers.Register16.TheVariants.{Ax, Cx}
use Rattle.i86_table.specs.declared.registers.Register8.TheVariants.{Cl}
use Rattle.i86_table.specs.declared.registers.Segment.{Segment}
use Rattle.i86_table.specs.declared.instruction.Base.{Base}
use Rattle.i86_table.specs.declared.open.Use.TheVariants.{Operate}
use Rattle.i86_table.specs.declared.open.Open.TheVariants as opens
use Rattle.i86_table.specs.declared.instruction.AluOperation.{AluOperation}
use Rattle.i86_table.specs.Open.{closed, spot_address}
use Rattle.i86_table.specs.Contexts.{Own, Working, Given, set_byte, set_word, input_gives, byte_in, output_takes, alu_word, offset_in, place_in, bytes, reads, writes, offered}
use Rattle.select.specs.Rows.{loads, loads_right, stores, stores_right, spot}
use Rattle.select.specs.Inner.Rows.{segment_of}

abbrev pub right_gives : Width → Working → ℕ → Working
right_gives widths.Byte g v = set_byte g Cl v
right_gives widths.Word g v = set_word g Cx v

abbrev pub right_takes : Width → Working → ℕ
right_takes widths.Byte g = byte_in g Cl
right_takes widths.Word g = g.cx

module _ (find : ℕ → ℕ → Option (ℕ × ℕ)) (words : ℕ → Option ℕ) (main handler : ℕ) (given : Option Given) where
  abbrev pub where_at : Width → Segment → Option Base → (number : ℕ) → Working → Option Where
  where_at width s base m g = place_in find s (offset_in g (spot_address base m)) (bytes width)

  pub load_offered : (width : Width) (y : Place) (base : Option Base) (m q : ℕ) (g : Working) (st : List ℕ)
      → offered find words main handler (closed (loads width base (segment_of y)) m) q g st false given ≡ reads (where_at width (segment_of y) base m g) width (λ v. Own q (input_gives width g v) st false given)
  load_offered widths.Byte y base m q g st = refl
  load_offered widths.Word (place.Ram k n) base m q g st = refl
  load_offered widths.Word (place.Screen page n) base m q g st = refl

  pub right_offered : (width : Width) (y : Place) (m q : ℕ) (g : Working) (st : List ℕ)
      → offered find words main handler (closed (loads_right width (segment_of y)) m) q g st false given ≡ reads (where_at width (segment_of y) Rattle.std.specs.Prelude.None m g) width (λ v. Own q (right_gives width g v) st false given)
  right_offered widths.Byte y m q g st = refl
  right_offered widths.Word (place.Ram k n) m q g st = refl
  right_offered widths.Word (place.Screen page n) m q g st = refl

  pub store_right_offered : (width : Width) (y : Place) (m q : ℕ) (g : Working) (st : List ℕ)
      → offered find words main handler (closed (stores_right width (segment_of y)) m) q g st false given ≡ writes (where_at width (segment_of y) Rattle.std.specs.Prelude.None m g) width (right_takes width g) (Own q g st false given)
  store_right_offered widths.Byte y m q g st = refl
  store_right_offered widths.Word y m q g st = refl

  pub store_offered : (width : Width) (y : Place) (base : Option Base) (m q : ℕ) (g : Working) (st : List ℕ)
      → offered find words main handler (closed (stores width base (segment_of y)) m) q g st false given ≡ writes (where_at width (segment_of y) base m g) width (output_takes width g) (Own q g st false given)
  store_offered widths.Byte y base m q g st = refl
  store_offered widths.Word y base m q g st = refl

  pub alu_offered : (f : AluOperation) (y : Place) (m q : ℕ) (g : Working) (st : List ℕ)
      → offered find words main handler (closed (opens.Word (Operate f) Ax (spot Rattle.std.specs.Prelude.None (segment_of y))) m) q g st false given
      ≡ reads (where_at widths.Word (segment_of y) Rattle.std.specs.Prelude.None m g) widths.Word (λ v. Own q (alu_word f Ax v g) st false given)
  alu_offered f y m q g st = refl

-- The chips of this board, as what a program or a processor finds on its ports: values and vectors have their widths.
use Rattle.std.specs.Prelude.{ℕ, ◌<◌}
use Rattle.std.proofs.Common.{lit<}
use Rattle.std.proofs.lemmas.Nat.{mod_below, mul-add-lt}
use Rattle.word86.specs.declared.width.Width.{Width}
use Rattle.word86.specs.declared.width.Width.TheVariants.{Byte, Word}
use Rattle.word86.specs.Access.{values}
use Rattle.word86.specs.Chips.{Chips}
use Rattle.ppi_kbd.specs.Chips.{ChipState, device_value, byte_value, next_port, value, reading, writing, int_line, vector, acknowledged, occurs}
use Rattle.ppi_kbd.specs.Device.{device_of}
use Rattle.pic8259.specs.Controller as pic

pub byte_fits : (c : ChipState) (port : ℕ) → byte_value c port < 256
byte_fits c port = mod_below (device_value (device_of port) c) 256 (lit< tt)

pub value_fits : (c : ChipState) (width : Width) (port : ℕ) → value c width port < values width
value_fits c Byte port = byte_fits c port
value_fits c Word port = mul-add-lt (byte_value (reading c Byte port) (next_port port)) 256 (byte_value c port) 256 (byte_fits (reading c Byte port) (next_port port)) (byte_fits c port)

pub vector_fits : (c : ChipState) → vector c < 256
vector_fits c = mod_below (pic.vector c.interrupts) 256 (lit< tt)

abbrev pub board_chips : Chips ChipState
board_chips = record {
  value = value;
  reading = reading;
  writing = writing;
  int_line = int_line;
  vector = vector;
  acknowledge = acknowledged;
  occurs = occurs;
  value_fits = value_fits;
  vector_fits = vector_fits;
}

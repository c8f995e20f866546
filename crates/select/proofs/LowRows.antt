-- The row of a low byte is what AL gets, and what becomes of AH.
use Rattle.std.proofs.Common.{◌≡◌, ℕ, Bool, true, false, List, [], ◌∷◌, ◌++◌, refl}
use Rattle.std.specs.Prelude.{nat_le, if◌then◌else◌}
use Rattle.word86.specs.declared.width.Width.TheVariants as widths
use Rattle.i86_table.specs.declared.registers.Register16.TheVariants.{Dx}
use Rattle.i86_table.specs.declared.instruction.Port.TheVariants as ports
use Rattle.i86_table.specs.declared.instruction.Instr.{Instr}
use Rattle.i86_table.specs.declared.instruction.Instr.TheVariants as i
use Rattle.icode.specs.declared.instruction.LowByte.{LowByte}
use Rattle.icode.specs.declared.instruction.LowByte.TheVariants as lows
use Rattle.icode.specs.declared.instruction.Right.TheVariants as rights
use Rattle.select.specs.Rows.{plain, low_row, load_number}

received_then : (b : Bool) (port : ℕ) (ns : List Instr) → plain (if b then load_number Dx port ∷ i.In widths.Byte ports.Dx ∷ [] else i.In widths.Byte (ports.Fixed port) ∷ []) ++ plain ns
    ≡ plain (if b then load_number Dx port ∷ i.In widths.Byte ports.Dx ∷ ns else i.In widths.Byte (ports.Fixed port) ∷ ns)
received_then true port ns = refl
received_then false port ns = refl

pub row_then : (low : LowByte) (ns : List Instr) → low_row low [] ++ plain ns ≡ low_row low ns
row_then (lows.Constant k) ns = refl
row_then (lows.Load x) ns = refl
row_then (lows.LoadAt x) ns = refl
row_then lows.LoadThere ns = refl
row_then lows.Receive ns = refl
row_then (lows.ReceiveFrom port) ns = received_then (nat_le 256 port) port ns
row_then lows.High ns = refl
row_then (lows.Operate o (rights.Constant k)) ns = refl
row_then (lows.Operate o (rights.Plain x)) ns = refl
row_then (lows.Operate o rights.Top) ns = refl

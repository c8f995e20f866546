-- The numbers that registers, segments, base registers and conditions have in an encoding.
use Rattle.std.specs.Prelude.{ℕ}
use Rattle.i86_table.specs.declared.registers.Register8.{Register8}
use Rattle.i86_table.specs.declared.registers.Register8.TheVariants.{Al, Cl, Dl, Bl, Ah, Ch, Dh, Bh}
use Rattle.i86_table.specs.declared.registers.Register16.{Register16}
use Rattle.i86_table.specs.declared.registers.Register16.TheVariants.{Ax, Cx, Dx, Bx, Sp, Bp, Si, Di}
use Rattle.i86_table.specs.declared.registers.Segment.{Segment}
use Rattle.i86_table.specs.declared.registers.Segment.TheVariants.{Es, Cs, Ss, Ds}

abbrev pub byte_register_code : Register8 → ℕ
byte_register_code Al = 0
byte_register_code Cl = 1
byte_register_code Dl = 2
byte_register_code Bl = 3
byte_register_code Ah = 4
byte_register_code Ch = 5
byte_register_code Dh = 6
byte_register_code Bh = 7

abbrev pub word_register_code : Register16 → ℕ
word_register_code Ax = 0
word_register_code Cx = 1
word_register_code Dx = 2
word_register_code Bx = 3
word_register_code Sp = 4
word_register_code Bp = 5
word_register_code Si = 6
word_register_code Di = 7

abbrev pub segment_code : Segment → ℕ
segment_code Es = 0
segment_code Cs = 1
segment_code Ss = 2
segment_code Ds = 3

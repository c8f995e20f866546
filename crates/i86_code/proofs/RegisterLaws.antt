-- A number and what it names undo each other.
use Rattle.std.proofs.Common.{◌≡◌, ◌<◌, refl, arith}
use Rattle.i86_table.specs.declared.registers.Register8.{Register8}
use Rattle.i86_table.specs.declared.registers.Register8.TheVariants.{Al, Cl, Dl, Bl, Ah, Ch, Dh, Bh}
use Rattle.i86_table.specs.declared.registers.Register16.{Register16}
use Rattle.i86_table.specs.declared.registers.Register16.TheVariants.{Ax, Cx, Dx, Bx, Sp, Bp, Si, Di}
use Rattle.i86_table.specs.Numbers.{byte_register_code, word_register_code}
use Rattle.i86_code.specs.Opcode.{byte_register_at, word_register_at}

pub byte_again : (r : Register8) → byte_register_at (byte_register_code r) ≡ r
byte_again Al = refl
byte_again Cl = refl
byte_again Dl = refl
byte_again Bl = refl
byte_again Ah = refl
byte_again Ch = refl
byte_again Dh = refl
byte_again Bh = refl

pub byte_below : (r : Register8) → byte_register_code r < 8
byte_below Al = omega arith
byte_below Cl = omega arith
byte_below Dl = omega arith
byte_below Bl = omega arith
byte_below Ah = omega arith
byte_below Ch = omega arith
byte_below Dh = omega arith
byte_below Bh = omega arith

pub word_again : (r : Register16) → word_register_at (word_register_code r) ≡ r
word_again Ax = refl
word_again Cx = refl
word_again Dx = refl
word_again Bx = refl
word_again Sp = refl
word_again Bp = refl
word_again Si = refl
word_again Di = refl

pub word_below : (r : Register16) → word_register_code r < 8
word_below Ax = omega arith
word_below Cx = omega arith
word_below Dx = omega arith
word_below Bx = omega arith
word_below Sp = omega arith
word_below Bp = omega arith
word_below Si = omega arith
word_below Di = omega arith

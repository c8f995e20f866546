-- A context's registers are the processor's, but for SP.
use Rattle.std.proofs.Common.{◌≡◌, ℕ, false, refl, true≢false}
use Rattle.i86_table.specs.declared.registers.Register16.{Register16}
use Rattle.i86_table.specs.declared.registers.Register16.TheVariants.{Ax, Cx, Dx, Bx, Sp, Bp, Si, Di}
use Rattle.i86_table.specs.declared.registers.Register8.{Register8}
use Rattle.i86_table.specs.declared.registers.Register8.TheVariants.{Al, Cl, Dl, Bl, Ah, Ch, Dh, Bh}
use Rattle.i86_table.specs.declared.instruction.Address.{Address}
use Rattle.i86_table.specs.declared.instruction.Address.TheVariants.{Direct, Based}
use Rattle.i86_table.specs.declared.instruction.Base.TheVariants as bases
use Rattle.i86_table.specs.declared.instruction.Port.{Port}
use Rattle.i86_table.specs.declared.instruction.Port.TheVariants as ports
use Rattle.i86_table.specs.State.{word_of, byte_of, with_word, with_byte, offset_of, port_of}
use Rattle.i86_table.specs.Contexts.{Working, all_registers, is_sp, word_in, byte_in, set_word, set_byte, offset_in, port_in}
use Rattle.i86_table.specs.ContextLaw.{ContextRegisters}

words_set : (p : ℕ) (g : Working) (sp : ℕ) (r : Register16) (v : ℕ) → is_sp r ≡ false → with_word (all_registers p g sp) r v ≡ all_registers p (set_word g r v) sp
words_set p g sp Ax v e = refl
words_set p g sp Cx v e = refl
words_set p g sp Dx v e = refl
words_set p g sp Bx v e = refl
words_set p g sp Sp v e = absurd (true≢false e)
words_set p g sp Bp v e = refl
words_set p g sp Si v e = refl
words_set p g sp Di v e = refl

words_read : (p : ℕ) (g : Working) (sp : ℕ) (r : Register16) → is_sp r ≡ false → word_of (all_registers p g sp) r ≡ word_in g r
words_read p g sp Ax e = refl
words_read p g sp Cx e = refl
words_read p g sp Dx e = refl
words_read p g sp Bx e = refl
words_read p g sp Sp e = absurd (true≢false e)
words_read p g sp Bp e = refl
words_read p g sp Si e = refl
words_read p g sp Di e = refl

bytes_read : (p : ℕ) (g : Working) (sp : ℕ) (r : Register8) → byte_of (all_registers p g sp) r ≡ byte_in g r
bytes_read p g sp Al = refl
bytes_read p g sp Cl = refl
bytes_read p g sp Dl = refl
bytes_read p g sp Bl = refl
bytes_read p g sp Ah = refl
bytes_read p g sp Ch = refl
bytes_read p g sp Dh = refl
bytes_read p g sp Bh = refl

bytes_set : (p : ℕ) (g : Working) (sp : ℕ) (r : Register8) (v : ℕ) → with_byte (all_registers p g sp) r v ≡ all_registers p (set_byte g r v) sp
bytes_set p g sp Al v = refl
bytes_set p g sp Cl v = refl
bytes_set p g sp Dl v = refl
bytes_set p g sp Bl v = refl
bytes_set p g sp Ah v = refl
bytes_set p g sp Ch v = refl
bytes_set p g sp Dh v = refl
bytes_set p g sp Bh v = refl

flags-set_word : (g : Working) (r : Register16) (v : ℕ) → (set_word g r v).flags ≡ g.flags
flags-set_word g Ax v = refl
flags-set_word g Cx v = refl
flags-set_word g Dx v = refl
flags-set_word g Bx v = refl
flags-set_word g Sp v = refl
flags-set_word g Bp v = refl
flags-set_word g Si v = refl
flags-set_word g Di v = refl

flags-set_byte : (g : Working) (r : Register8) (v : ℕ) → (set_byte g r v).flags ≡ g.flags
flags-set_byte g Al v = refl
flags-set_byte g Cl v = refl
flags-set_byte g Dl v = refl
flags-set_byte g Bl v = refl
flags-set_byte g Ah v = refl
flags-set_byte g Ch v = refl
flags-set_byte g Dh v = refl
flags-set_byte g Bh v = refl

offsets_read : (p : ℕ) (g : Working) (sp : ℕ) (t : Address) → offset_of (all_registers p g sp) t ≡ offset_in g t
offsets_read p g sp (Direct n) = refl
offsets_read p g sp (Based bases.BxSi d) = refl
offsets_read p g sp (Based bases.BxDi d) = refl
offsets_read p g sp (Based bases.BpSi d) = refl
offsets_read p g sp (Based bases.BpDi d) = refl
offsets_read p g sp (Based bases.Si d) = refl
offsets_read p g sp (Based bases.Di d) = refl
offsets_read p g sp (Based bases.Bp d) = refl
offsets_read p g sp (Based bases.Bx d) = refl

ports_read : (p : ℕ) (g : Working) (sp : ℕ) (t : Port) → port_of (all_registers p g sp) t ≡ port_in g t
ports_read p g sp (ports.Fixed n) = refl
ports_read p g sp ports.Dx = refl

pub context_registers : ContextRegisters
context_registers = record {
  words = words_read;
  bytes = bytes_read;
  offsets = offsets_read;
  ports = ports_read;
  set_words = words_set;
  set_bytes = bytes_set;
  word_flags = flags-set_word;
  byte_flags = flags-set_byte;
}

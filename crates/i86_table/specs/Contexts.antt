-- A context of the code (main, or an interrupt procedure) in the processor, and what its next instruction does. A context has
-- its place, its registers and its own part of the stack; memory and the other context's stack are no part of it. Whatever a
-- code generator never writes is refused: no meaning of a program has such a step.
use Rattle.std.specs.Prelude.{ℕ, Bool, true, false, not, ◌==◌, ◌+◌, ◌-◌, ◌*◌, ◌%◌, ◌/◌, ◌&&◌, nat_lt, nat_le, if◌then◌else◌, Option, Some, None, List, [], ◌∷◌, length, drop}
use Rattle.word86.specs.declared.width.Width.{Width}
use Rattle.word86.specs.declared.width.Width.TheVariants as widths
use Rattle.word86.specs.declared.page.Page.TheVariants.{Monochrome, Colour}
use Rattle.word86.specs.Access.{Access, Where, In, Screen, Read, Write, Input, Output}
use Rattle.word86.specs.Action.{Silent, Touch, Enable, Disable, Halt, Over, Bad}
use Rattle.word86.specs.Following.{Offer, Does, Arms}
use Rattle.word86.specs.MemoryMap.{screen_segment, code_segment, data_segment, stack_top}
use Rattle.word86.specs.Page.{page_begins, page_size}
use Rattle.word86.specs.Place.{covers}
use Rattle.i86_table.specs.declared.registers.Regs.{Regs}
use Rattle.i86_table.specs.declared.registers.Register16.{Register16}
use Rattle.i86_table.specs.declared.registers.Register16.TheVariants.{Ax, Dx, Sp}
use Rattle.i86_table.specs.declared.registers.Register8.{Register8}
use Rattle.i86_table.specs.declared.registers.Register8.TheVariants.{Al, Cl}
use Rattle.i86_table.specs.declared.registers.Segment.{Segment}
use Rattle.i86_table.specs.declared.registers.Segment.TheVariants as segments
use Rattle.i86_table.specs.declared.flags.Flags.{Flags}
use Rattle.i86_table.specs.declared.outcome.Outcome.{Outcome}
use Rattle.i86_table.specs.declared.outcome.Product.{Product}
use Rattle.i86_table.specs.declared.outcome.Division.{Division}
use Rattle.i86_table.specs.declared.instruction.Memory.{Memory}
use Rattle.i86_table.specs.declared.instruction.Address.{Address}
use Rattle.i86_table.specs.declared.instruction.RmOperand.TheVariants as rm
use Rattle.i86_table.specs.declared.instruction.Operands.{Operands}
use Rattle.i86_table.specs.declared.instruction.Operands.TheVariants.{FromRegister, FromMemory, Immediate}
use Rattle.i86_table.specs.declared.instruction.TestMask.{TestMask}
use Rattle.i86_table.specs.declared.instruction.TestMask.TheVariants as masks
use Rattle.i86_table.specs.declared.instruction.Port.{Port}
use Rattle.i86_table.specs.declared.instruction.Count.{Count}
use Rattle.i86_table.specs.declared.instruction.Count.TheVariants as counts
use Rattle.i86_table.specs.declared.instruction.AluOperation.{AluOperation}
use Rattle.i86_table.specs.declared.instruction.AluOperation.TheVariants.{Add}
use Rattle.i86_table.specs.declared.instruction.Instr.{Instr}
use Rattle.i86_table.specs.declared.instruction.Instr.TheVariants as i
use Rattle.i86_table.specs.State.{word_of, byte_of, with_word, with_byte, offset_of, port_of}
use Rattle.i86_table.specs.Condition.{holds}
use Rattle.i86_table.specs.Arithmetic.{is_comparison, without_trap_and_interrupts, operated, tested, changed, shifted, multiplied, divided, with_flag, flag_bit, sign_extended, sign_word}

-- the registers that a context has for itself: all but SP, IP and the segments
pub record Working : Type 0 where
  pub ax : ℕ
  pub cx : ℕ
  pub dx : ℕ
  pub bx : ℕ
  pub bp : ℕ
  pub si : ℕ
  pub di : ℕ
  pub flags : Flags

-- all registers, at this place and this stack pointer; code, data, stack and screen keep their segments
abbrev pub all_registers : (place : ℕ) → Working → (sp : ℕ) → Regs
all_registers place g sp = record { ax = g.ax; cx = g.cx; dx = g.dx; bx = g.bx; sp = sp; bp = g.bp; si = g.si; di = g.di; es = screen_segment; cs = code_segment; ss = data_segment; ds = data_segment; ip = place; flags = g.flags }

abbrev pub working : Regs → Working
working r = record { ax = r.ax; cx = r.cx; dx = r.dx; bx = r.bx; bp = r.bp; si = r.si; di = r.di; flags = r.flags }

abbrev pub is_sp : Register16 → Bool
is_sp Sp = true
is_sp _ = false

abbrev pub is_stack : Segment → Bool
is_stack segments.Ss = true
is_stack _ = false

-- registers by name
abbrev pub word_in : Working → Register16 → ℕ
word_in g r = word_of (all_registers 0 g 0) r

abbrev pub byte_in : Working → Register8 → ℕ
byte_in g r = byte_of (all_registers 0 g 0) r

abbrev pub set_word : Working → Register16 → ℕ → Working
set_word g r v = working (with_word (all_registers 0 g 0) r v)

abbrev pub set_byte : Working → Register8 → ℕ → Working
set_byte g r v = working (with_byte (all_registers 0 g 0) r v)

abbrev pub set_flags : Working → Flags → Working
set_flags g f = record g { flags = f }

-- What an interrupt procedure has to give back: the registers that it was given. And where the stack pointer stood at its first
-- instruction.
pub record Given : Type 0 where
  pub registers : Working
  pub top : ℕ

-- A context: its place, its registers, its words on the stack from the newest one, whether its last instruction was STI, and, for
-- an interrupt procedure, what it was given.
pub data Context : Type 0 where
  Own : (place : ℕ) → Working → (stack : List ℕ) → (after_sti : Bool) → (given : Option Given) → Context

-- the words that main and an interrupt procedure may have on the stack
abbrev pub room : (main handler : ℕ) → Option Given → ℕ
room main handler None = main
room main handler (Some s) = handler

-- where the stack pointer stands while a context has no word on the stack: main's begins behind the stack's room
abbrev pub top_of : Option Given → ℕ
top_of None = stack_top
top_of (Some s) = s.top

-- where it stands below the context's words
abbrev pub stack_pointer : Option Given → (stack : List ℕ) → ℕ
stack_pointer given stack = top_of given - 2 * length stack

-- the word at an offset, of words on the stack whose newest one lies at sp
abbrev pub stack_word : (offset sp : ℕ) → List ℕ → Option ℕ
stack_word offset sp [] = None
stack_word offset sp (v ∷ stack) = if offset == sp then Some v else stack_word offset (sp + 2) stack

-- ---- operands

-- the offset of an operand in memory
abbrev pub offset_in : Working → Address → ℕ
offset_in g address = offset_of (all_registers 0 g 0) address

abbrev pub port_in : Working → Port → ℕ
port_in g p = port_of (all_registers 0 g 0) p

abbrev pub count_in : Working → Count → ℕ
count_in g counts.One = 1
count_in g counts.Cl = byte_in g Cl

abbrev pub bytes : Width → ℕ
bytes widths.Byte = 1
bytes widths.Word = 2

abbrev pub in_object : Option (ℕ × ℕ) → Option Where
in_object None = None
in_object (Some x) = Some (In x.0 x.1)

-- the page that has all of n bytes from this offset of the screen's segment, and the index of the first of them there
abbrev pub on_screen : (offset n : ℕ) → Option Where
on_screen offset n =
    if covers (page_begins Monochrome) page_size offset n then Some (Screen Monochrome (offset - page_begins Monochrome))
    else if covers (page_begins Colour) page_size offset n then Some (Screen Colour (offset - page_begins Colour))
    else None

-- a place this distance on, modulo 65,536
abbrev pub further : (place distance : ℕ) → ℕ
further place distance = (place + distance) % 65536

-- ---- what registers an instruction leaves

abbrev pub word_result : Register16 → Working → Outcome → Working
word_result r g x = set_word (set_flags g x.flags) r x.value

abbrev pub byte_result : Register8 → Working → Outcome → Working
byte_result r g x = set_byte (set_flags g x.flags) r x.value

-- arithmetic on a register and a value
abbrev pub alu_word : AluOperation → Register16 → ℕ → Working → Working
alu_word f r v g =
    let x = operated f widths.Word (word_in g r) v g.flags in
    if is_comparison f then set_flags g x.flags else word_result r g x

abbrev pub alu_byte : AluOperation → Register8 → ℕ → Working → Working
alu_byte f r v g =
    let x = operated f widths.Byte (byte_in g r) v g.flags in
    if is_comparison f then set_flags g x.flags else byte_result r g x

abbrev pub byte_product : Product → Working → Working
byte_product x g = set_word (set_flags g x.flags) Ax x.value

abbrev pub word_product : Product → Working → Working
word_product x g = set_word (set_word (set_flags g x.flags) Ax (x.value % 65536)) Dx (x.value / 65536)

abbrev pub byte_quotient : Division → Working → Working
byte_quotient x g = set_word g Ax (x.remainder * 256 + x.quotient)

abbrev pub word_quotient : Division → Working → Working
word_quotient x g = set_word (set_word g Ax x.quotient) Dx x.remainder

abbrev pub input_gives : Width → Working → ℕ → Working
input_gives widths.Byte g v = set_byte g Al v
input_gives widths.Word g v = set_word g Ax v

abbrev pub output_takes : Width → Working → ℕ
output_takes widths.Byte g = byte_in g Al
output_takes widths.Word g = g.ax

-- ---- offers

-- no meaning of a program has this step
abbrev pub refused : Offer Access Context
refused = Does (Bad 0 0)

abbrev pub unless : Bool → Offer Access Context → Offer Access Context
unless true x = refused
unless false x = x

abbrev pub silently : Context → Offer Access Context
silently c = Does (Silent c)

abbrev pub reads : Option Where → Width → (ℕ → Context) → Offer Access Context
reads None width k = refused
reads (Some x) width k = Does (Touch (Read width x) k)

abbrev pub writes : Option Where → Width → ℕ → Context → Offer Access Context
writes None width v c = refused
writes (Some x) width v c = Does (Touch (Write width x v) (λ u. c))

-- on with a number, where there is one
abbrev pub takes : Option ℕ → (ℕ → Context) → Offer Access Context
takes None k = refused
takes (Some v) k = silently (k v)

-- a quotient, or the fault of a division
abbrev pub divides : Option Division → (Division → Context) → Offer Access Context
divides None k = refused
divides (Some x) k = silently (k x)

-- all registers but the flags, which come back from the stack
abbrev pub same_registers : Working → Working → Bool
same_registers s g = (s.ax == g.ax) && ((s.cx == g.cx) && ((s.dx == g.dx) && ((s.bx == g.bx) && ((s.bp == g.bp) && ((s.si == g.si) && (s.di == g.di))))))

-- an interrupt procedure may end: its part of the stack is empty, and the registers are those that it was given
abbrev pub gives_back : (given now : Working) → (stack : List ℕ) → Bool
gives_back given now [] = same_registers given now
gives_back given now (x ∷ xs) = false

-- what a word register holds, the stack pointer among them
abbrev pub moved_word : Register16 → Working → List ℕ → Option Given → ℕ
moved_word s g st given = if is_sp s then stack_pointer given st else word_in g s

-- ADD SP: the newest words go, two bytes each; there is no other arithmetic on the stack pointer
abbrev pub stack_offer : AluOperation → (n q : ℕ) → Working → List ℕ → Option Given → Offer Access Context
stack_offer Add n q g st given =
    if n % 2 == 0 && nat_le (n / 2) (length st) then silently (Own q (set_flags g (operated Add widths.Word (stack_pointer given st) n g.flags).flags) (drop (n / 2) st) false given) else refused
stack_offer _ n q g st given = refused

-- find tells where an offset in the data's segment is: object and index of its byte, if n bytes from there lie in one object
module _ (find : (offset n : ℕ) → Option (ℕ × ℕ)) where
  abbrev pub place_in : Segment → (offset n : ℕ) → Option Where
  place_in segments.Ds offset n = in_object (find offset n)
  place_in segments.Es offset n = on_screen offset n
  place_in _ offset n = None

  abbrev pub place_of : Working → Memory → Width → Option Where
  place_of g at width = place_in at.segment (offset_in g at.address) (bytes width)

  -- on with a word of memory, or of the context's own words where the place lies in the stack's segment
  abbrev pub fetch_offer : Working → Memory → List ℕ → Option Given → (ℕ → Context) → Offer Access Context
  fetch_offer g at st given k = if is_stack at.segment then takes (stack_word (offset_in g at.address) (stack_pointer given st) st) k else reads (place_of g at widths.Word) widths.Word k

  abbrev pub move_word_offer : Operands Register16 ℕ → ℕ → Working → List ℕ → Option Given → Offer Access Context
  move_word_offer (FromRegister (rm.Register r) s) q g st given = unless (is_sp r) (silently (Own q (set_word g r (moved_word s g st given)) st false given))
  move_word_offer (FromRegister (rm.Memory at) s) q g st given = unless (is_sp s) (writes (place_of g at widths.Word) widths.Word (word_in g s) (Own q g st false given))
  move_word_offer (FromMemory r at) q g st given = unless (is_sp r) (fetch_offer g at st given (λ v. Own q (set_word g r v) st false given))
  move_word_offer (Immediate (rm.Register r) v) q g st given = unless (is_sp r) (silently (Own q (set_word g r v) st false given))
  move_word_offer (Immediate (rm.Memory at) v) q g st given = writes (place_of g at widths.Word) widths.Word v (Own q g st false given)

  abbrev pub move_byte_offer : Operands Register8 ℕ → ℕ → Working → List ℕ → Option Given → Offer Access Context
  move_byte_offer (FromRegister (rm.Register r) s) q g st given = silently (Own q (set_byte g r (byte_in g s)) st false given)
  move_byte_offer (FromRegister (rm.Memory at) s) q g st given = writes (place_of g at widths.Byte) widths.Byte (byte_in g s) (Own q g st false given)
  move_byte_offer (FromMemory r at) q g st given = reads (place_of g at widths.Byte) widths.Byte (λ v. Own q (set_byte g r v) st false given)
  move_byte_offer (Immediate (rm.Register r) v) q g st given = silently (Own q (set_byte g r v) st false given)
  move_byte_offer (Immediate (rm.Memory at) v) q g st given = writes (place_of g at widths.Byte) widths.Byte v (Own q g st false given)

  abbrev pub alu_word_offer : AluOperation → Operands Register16 ℕ → ℕ → Working → List ℕ → Option Given → Offer Access Context
  alu_word_offer f (FromRegister (rm.Register r) s) q g st given = unless (is_sp r) (unless (is_sp s) (silently (Own q (alu_word f r (word_in g s) g) st false given)))
  alu_word_offer f (FromMemory r at) q g st given = unless (is_sp r) (reads (place_of g at widths.Word) widths.Word (λ v. Own q (alu_word f r v g) st false given))
  alu_word_offer f (Immediate (rm.Register r) n) q g st given = if is_sp r then stack_offer f n q g st given else silently (Own q (alu_word f r n g) st false given)
  -- a comparison stores nothing, so its target may lie in memory
  alu_word_offer f (FromRegister (rm.Memory at) s) q g st given = unless (not (is_comparison f)) (unless (is_sp s) (reads (place_of g at widths.Word) widths.Word (λ v. Own q (set_flags g (operated f widths.Word v (word_in g s) g.flags).flags) st false given)))
  alu_word_offer f (Immediate (rm.Memory at) n) q g st given = unless (not (is_comparison f)) (reads (place_of g at widths.Word) widths.Word (λ v. Own q (set_flags g (operated f widths.Word v n g.flags).flags) st false given))

  abbrev pub alu_byte_offer : AluOperation → Operands Register8 ℕ → ℕ → Working → List ℕ → Option Given → Offer Access Context
  alu_byte_offer f (FromRegister (rm.Register r) s) q g st given = silently (Own q (alu_byte f r (byte_in g s) g) st false given)
  alu_byte_offer f (FromMemory r at) q g st given = reads (place_of g at widths.Byte) widths.Byte (λ v. Own q (alu_byte f r v g) st false given)
  alu_byte_offer f (Immediate (rm.Register r) v) q g st given = silently (Own q (alu_byte f r v g) st false given)
  alu_byte_offer f (FromRegister (rm.Memory at) s) q g st given = unless (not (is_comparison f)) (reads (place_of g at widths.Byte) widths.Byte (λ v. Own q (set_flags g (operated f widths.Byte v (byte_in g s) g.flags).flags) st false given))
  alu_byte_offer f (Immediate (rm.Memory at) n) q g st given = unless (not (is_comparison f)) (reads (place_of g at widths.Byte) widths.Byte (λ v. Own q (set_flags g (operated f widths.Byte v n g.flags).flags) st false given))

abbrev pub word_mask : Working → TestMask Register16 ℕ → ℕ
word_mask g (masks.Register r) = word_in g r
word_mask g (masks.Immediate n) = n

abbrev pub byte_mask : Working → TestMask Register8 ℕ → ℕ
byte_mask g (masks.Register r) = byte_in g r
byte_mask g (masks.Immediate n) = n

abbrev pub masks_sp : TestMask Register16 ℕ → Bool
masks_sp (masks.Register r) = is_sp r
masks_sp (masks.Immediate n) = false

abbrev pub exchanged : Register16 → Register16 → Working → Working
exchanged r s g = set_word (set_word g r (word_in g s)) s (word_in g r)

abbrev pub pop_offer : Register16 → ℕ → Working → List ℕ → Option Given → Offer Access Context
pop_offer r q g [] given = refused
pop_offer r q g (v ∷ st) given = unless (is_sp r) (silently (Own q (set_word g r v) st false given))

abbrev pub return_offer : Working → List ℕ → Option Given → Offer Access Context
return_offer g [] given = refused
return_offer g (v ∷ st) given = silently (Own v g st false given)

-- an interrupt procedure has no STI
abbrev pub enable_offer : ℕ → Working → List ℕ → Option Given → Offer Access Context
enable_offer q g st None = Arms (Own q (set_flags g (with_flag (flag_bit 512) true g.flags)) st true None)
enable_offer q g st (Some s) = refused

-- HLT comes right after STI alone, and NOP there is what ENABLE means
abbrev pub halt_offer : ℕ → Working → List ℕ → Bool → Option Given → Offer Access Context
halt_offer q g st true given = Does (Halt (Own q g st false given))
halt_offer q g st false given = refused

abbrev pub nop_offer : ℕ → Working → List ℕ → Bool → Option Given → Offer Access Context
nop_offer q g st true given = Does (Enable (Own q g st false given))
nop_offer q g st false given = silently (Own q g st false given)

abbrev pub end_offer : Working → List ℕ → Option Given → Offer Access Context
end_offer g st None = refused
end_offer g st (Some s) = if gives_back s.registers g st then Does Over else refused

-- words tells the words of tables that lie in the code's segment, by their offset there; a jump takes its place from one of them
abbrev pub jump_offer : (words : (offset : ℕ) → Option ℕ) → Segment → (offset : ℕ) → Working → List ℕ → Option Given → Offer Access Context
jump_offer words segments.Cs offset g st given = takes (words offset) (λ place. Own place g st false given)
jump_offer words _ offset g st given = refused

module _ (find : (offset n : ℕ) → Option (ℕ × ℕ)) (words : (offset : ℕ) → Option ℕ) (main handler : ℕ) where
  -- a word more on the stack, if there is room
  abbrev pub pushes : List ℕ → Option Given → Context → Offer Access Context
  pushes stack given c = if nat_lt (length stack) (room main handler given) then silently c else refused

  -- what an instruction does, where q is the place after it
  abbrev pub offered : Instr → (q : ℕ) → Working → List ℕ → (after_sti : Bool) → Option Given → Offer Access Context
  offered i.Nop q g st a given = nop_offer q g st a given
  offered (i.MoveWord operands) q g st a given = move_word_offer find operands q g st given
  offered (i.MoveByte operands) q g st a given = move_byte_offer find operands q g st given
  offered (i.AluWord f operands) q g st a given = alu_word_offer find f operands q g st given
  offered (i.AluByte f operands) q g st a given = alu_byte_offer find f operands q g st given
  offered (i.TestWord (rm.Register r) n) q g st a given = unless (is_sp r) (unless (masks_sp n) (silently (Own q (set_flags g (tested widths.Word (word_in g r) (word_mask g n) g.flags)) st false given)))
  offered (i.TestByte (rm.Register r) n) q g st a given = silently (Own q (set_flags g (tested widths.Byte (byte_in g r) (byte_mask g n) g.flags)) st false given)
  offered (i.TestByte (rm.Memory at) n) q g st a given = reads (place_of find g at widths.Byte) widths.Byte (λ v. Own q (set_flags g (tested widths.Byte v (byte_mask g n) g.flags)) st false given)
  offered (i.ExchangeWords p) q g st a given = unless (is_sp p.first) (unless (is_sp p.second) (silently (Own q (exchanged p.first p.second g) st false given)))
  offered (i.UnaryWord f (rm.Register r)) q g st a given = unless (is_sp r) (silently (Own q (word_result r g (changed f widths.Word (word_in g r) g.flags)) st false given))
  offered (i.UnaryByte f (rm.Register r)) q g st a given = silently (Own q (byte_result r g (changed f widths.Byte (byte_in g r) g.flags)) st false given)
  offered (i.ShiftWord f (rm.Register r) n) q g st a given = unless (is_sp r) (silently (Own q (word_result r g (shifted f widths.Word (word_in g r) (count_in g n) g.flags)) st false given))
  offered (i.ShiftByte f (rm.Register r) n) q g st a given = silently (Own q (byte_result r g (shifted f widths.Byte (byte_in g r) (count_in g n) g.flags)) st false given)
  offered (i.MultiplyWord s (rm.Register r)) q g st a given = unless (is_sp r) (silently (Own q (word_product (multiplied s widths.Word g.ax (word_in g r) g.flags) g) st false given))
  offered (i.MultiplyByte s (rm.Register r)) q g st a given = silently (Own q (byte_product (multiplied s widths.Byte (byte_in g Al) (byte_in g r) g.flags) g) st false given)
  offered (i.DivideWord s (rm.Register r)) q g st a given = unless (is_sp r) (divides (divided s widths.Word (g.dx * 65536 + g.ax) (word_in g r)) (λ x. Own q (word_quotient x g) st false given))
  offered (i.DivideByte s (rm.Register r)) q g st a given = divides (divided s widths.Byte g.ax (byte_in g r)) (λ x. Own q (byte_quotient x g) st false given)
  offered i.ConvertByte q g st a given = silently (Own q (set_word g Ax (sign_extended (byte_in g Al))) st false given)
  offered i.ConvertWord q g st a given = silently (Own q (set_word g Dx (sign_word g.ax)) st false given)
  offered (i.Push (rm.Register r)) q g st a given = unless (is_sp r) (pushes st given (Own q g (word_in g r % 65536 ∷ st) false given))
  offered (i.Pop (rm.Register r)) q g st a given = pop_offer r q g st given
  offered (i.JumpIf condition d) q g st a given = silently (Own (if holds condition g.flags then further q (sign_extended d) else q) g st false given)
  offered (i.JumpShort d) q g st a given = silently (Own (further q (sign_extended d)) g st false given)
  offered (i.Jump d) q g st a given = silently (Own (further q d) g st false given)
  offered (i.JumpTo (rm.Register r)) q g st a given = unless (is_sp r) (unless (nat_le 65536 (word_in g r)) (silently (Own (word_in g r) g st false given)))
  offered (i.JumpTo (rm.Memory at)) q g st a given = jump_offer words at.segment (offset_in g at.address) g st given
  offered (i.Call d) q g st a given = pushes st given (Own (further q d) g (q % 65536 ∷ st) false given)
  offered i.Return q g st a given = return_offer g st given
  offered (i.In width p) q g st a given = Does (Touch (Input width (port_in g p)) (λ v. Own q (input_gives width g v) st false given))
  offered (i.Out width p) q g st a given = Does (Touch (Output width (port_in g p) (output_takes width g)) (λ u. Own q g st false given))
  offered i.DisableInterrupts q g st a given = Does (Disable (Own q (set_flags g (with_flag (flag_bit 512) false g.flags)) st false given))
  offered i.EnableInterrupts q g st a given = enable_offer q g st given
  offered i.Halt q g st a given = halt_offer q g st a given
  offered i.InterruptReturn q g st a given = end_offer g st given
  offered _ q g st a given = refused

-- the code: at each place an instruction and its length, or none
module _ (code : ℕ → Option (Instr × ℕ)) (find : (offset n : ℕ) → Option (ℕ × ℕ)) (words : (offset : ℕ) → Option ℕ) (entry : (vector : ℕ) → ℕ) (main handler : ℕ) where
  abbrev pub offered_at : Option (Instr × ℕ) → ℕ → Working → List ℕ → Bool → Option Given → Offer Access Context
  offered_at None place g st a given = refused
  offered_at (Some x) place g st a given = offered find words main handler x.0 (further place x.1) g st a given

  -- what a context's next instruction does
  abbrev pub offer : Context → Offer Access Context
  offer (Own place g st a given) = offered_at (code place) place g st a given

  -- an interrupt procedure begins with main's registers, interrupts off, and nothing of its own on the stack, below a frame of six bytes
  abbrev pub start : (vector : ℕ) → Context → Context
  start vector (Own place g st a given) = Own (entry vector) (set_flags g (without_trap_and_interrupts g.flags)) [] false (Some (record { registers = g; top = stack_pointer given st - 6 }))

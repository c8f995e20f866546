-- Start-up as code: from the processor's reset to main. It sets all vectors in a loop, puts values and copies bytes from the ROM into
-- RAM, loads the segments and the stack pointer, and goes on to main.
use Rattle.std.specs.Prelude.{ℕ, suc, ◌≡◌, ◌+◌, ◌<◌, Option, Some, List, [], ◌∷◌}
use Rattle.word86.specs.declared.width.Width.TheVariants as widths
use Rattle.word86.specs.MemoryMap.{vectors_size, data_segment, screen_segment, code_segment, stack_top, reset_offset}
use Rattle.i86_table.specs.declared.registers.Register16.{Register16}
use Rattle.i86_table.specs.declared.registers.Register16.TheVariants.{Ax, Cx, Dx, Bx, Sp, Si, Di}
use Rattle.i86_table.specs.declared.registers.Segment.TheVariants as segments
use Rattle.i86_table.specs.declared.registers.LoadableSegment.TheVariants as loadables
use Rattle.i86_table.specs.declared.instruction.Memory.{Memory}
use Rattle.i86_table.specs.declared.instruction.Address.{Address}
use Rattle.i86_table.specs.declared.instruction.Address.TheVariants.{Direct, Based}
use Rattle.i86_table.specs.declared.instruction.Base.TheVariants as bases
use Rattle.i86_table.specs.declared.instruction.RmOperand.TheVariants as places
use Rattle.i86_table.specs.declared.instruction.Operands.TheVariants.{FromRegister, Immediate}
use Rattle.i86_table.specs.declared.instruction.AluOperation.TheVariants.{Add, Cmp}
use Rattle.i86_table.specs.declared.instruction.Condition.TheVariants as conditions
use Rattle.i86_table.specs.declared.instruction.Repeat.TheVariants as repeats
use Rattle.i86_table.specs.declared.instruction.Instr.{Instr}
use Rattle.i86_table.specs.declared.instruction.Instr.TheVariants as i
use Rattle.i86_table.specs.Arithmetic.{sign_extended}
use Rattle.i86_table.specs.Contexts.{further}

-- ---- instructions

abbrev pub in_data : Address → Memory
in_data address = record { segment = segments.Ds; address = address }

-- MOV register,value
abbrev pub load_word : Register16 → ℕ → Instr
load_word register value = i.MoveWord (Immediate (places.Register register) value)

-- MOV WORD PTR [address],value and MOV BYTE PTR [address],value
abbrev pub put_word : (address value : ℕ) → Instr
put_word address value = i.MoveWord (Immediate (places.Memory (in_data (Direct address))) value)

abbrev pub put_byte : (address value : ℕ) → Instr
put_byte address value = i.MoveByte (Immediate (places.Memory (in_data (Direct address))) value)

-- MOV [BX],AX and MOV [BX+2],DX
abbrev pub low_half : Instr
low_half = i.MoveWord (FromRegister (places.Memory (in_data (Based bases.Bx 0))) Ax)

abbrev pub high_half : Instr
high_half = i.MoveWord (FromRegister (places.Memory (in_data (Based bases.Bx 2))) Dx)

-- REP MOVSB from the code's segment
abbrev pub rep_movsb : Instr
rep_movsb = i.MoveString widths.Byte segments.Cs repeats.WhileCx

-- ---- places

module _ (code : (place : ℕ) → Option (Instr × ℕ)) where
  -- the instruction stands here, and the next one there, further on
  abbrev pub Stands : (here : ℕ) → Instr → (there : ℕ) → Type 0
  Stands here instruction there = (length : ℕ) × (code here ≡ Some (instruction, length)) × (further here length ≡ there) × (here < there)

  -- all vectors, by a loop of five instructions: MOV [BX],AX; MOV [BX+2],DX; ADD BX,4; CMP BX,vectors_size; JNE back
  pub record HasLoop (l back : ℕ) : Type 0 where
    pub fits : l + 14 < 65536
    pub first : code l ≡ Some (low_half, 2)
    pub second : code (l + 2) ≡ Some (high_half, 3)
    pub third : code (l + 5) ≡ Some (i.AluWord Add (Immediate (places.Register Bx) 4), 3)
    pub fourth : code (l + 8) ≡ Some (i.AluWord Cmp (Immediate (places.Register Bx) vectors_size), 4)
    pub fifth : code (l + 12) ≡ Some (i.JumpIf conditions.NotEqual back, 2)
    pub again : further (l + 14) (sign_extended back) ≡ l

-- what start-up does to RAM after the loop; addresses count from 0
pub data Act : Type 0 where
  PutWord : (address value : ℕ) → Act
  PutByte : (address value : ℕ) → Act
  -- one byte or more from this offset of the code's segment: MOV SI,from; MOV DI,to; MOV CX,count; REP MOVSB
  Copy : (from to more : ℕ) → Act

module _ (code : (place : ℕ) → Option (Instr × ℕ)) where
  abbrev pub HasAct : (here : ℕ) → Act → (there : ℕ) → Type 0
  HasAct here (PutWord address value) there = (address + 1 < 65536) × Stands code here (put_word address value) there
  HasAct here (PutByte address value) there = (address + 1 < 65536) × Stands code here (put_byte address value) there
  HasAct here (Copy from to more) there =
      (p : ℕ) × (q : ℕ) × (r : ℕ) × (from + suc more < 65536) × (to + suc more < 65536) × (r + 3 < 65536)
      × Stands code here (load_word Si from) p × Stands code p (load_word Di to) q × Stands code q (load_word Cx (suc more)) r
      × (code r ≡ Some (rep_movsb, 3)) × (r + 3 ≡ there)

  abbrev pub HasActs : (here : ℕ) → List Act → (there : ℕ) → Type 0
  HasActs here [] there = here ≡ there
  HasActs here (act ∷ acts) there = (next : ℕ) × HasAct here act next × HasActs next acts there

-- one byte is copied a turn
abbrev pub turns_of : Act → ℕ
turns_of (PutWord address value) = 1
turns_of (PutByte address value) = 1
turns_of (Copy from to more) = 3 + suc more

abbrev pub turns_of_all : List Act → ℕ
turns_of_all [] = 0
turns_of_all (act ∷ acts) = turns_of act + turns_of_all acts

-- ---- the whole

-- The far jump of the reset; MOV AX,entry; MOV DX,code_segment; MOV BX,0; the loop; CLD; the acts; MOV AX,data_segment; MOV DS,AX;
-- MOV SS,AX; MOV AX,screen_segment; MOV ES,AX; MOV SP,stack_top; JMP to main. Each register that is read was loaded.
pub record HasStartUp (code : (place : ℕ) → Option (Instr × ℕ)) (entry : ℕ) (acts : List Act) (main_at : ℕ) : Type 0 where
  pub begin : ℕ
  pub second : ℕ
  pub third : ℕ
  pub loop : ℕ
  pub back : ℕ
  pub acting : ℕ
  pub acted : ℕ
  pub p1 : ℕ
  pub p2 : ℕ
  pub p3 : ℕ
  pub p4 : ℕ
  pub p5 : ℕ
  pub p6 : ℕ
  pub distance : ℕ
  pub reset : (length : ℕ) × (code reset_offset ≡ Some (i.JumpFar begin code_segment, length))
  pub load_entry : Stands code begin (load_word Ax entry) second
  pub load_segment : Stands code second (load_word Dx code_segment) third
  pub load_first : Stands code third (load_word Bx 0) loop
  pub sets_vectors : HasLoop code loop back
  pub clear : Stands code (loop + 14) i.ClearDirection acting
  pub has_acts : HasActs code acting acts acted
  pub load_data : Stands code acted (load_word Ax data_segment) p1
  pub to_ds : Stands code p1 (i.MoveToSegment loadables.Ds (places.Register Ax)) p2
  pub to_ss : Stands code p2 (i.MoveToSegment loadables.Ss (places.Register Ax)) p3
  pub load_screen : Stands code p3 (load_word Ax screen_segment) p4
  pub to_es : Stands code p4 (i.MoveToSegment loadables.Es (places.Register Ax)) p5
  pub load_stack : Stands code p5 (load_word Sp stack_top) p6
  pub goes : (length : ℕ) × (code p6 ≡ Some (i.Jump distance, length)) × (further (further p6 length) distance ≡ main_at)

-- and its last instruction, the jump to main, stands before this place
abbrev pub HasStartUpBefore : (end : ℕ) (code : (place : ℕ) → Option (Instr × ℕ)) (entry : ℕ) (acts : List Act) (main_at : ℕ) → Type 0
HasStartUpBefore end code entry acts main_at = (x : HasStartUp code entry acts main_at) × (x.p6 < end)

-- its turns without acts: the far jump, three loads, five for each vector, and eight behind the loop
abbrev pub turns_without_acts : ℕ
turns_without_acts = 1292

abbrev pub start_up_turns : List Act → ℕ
start_up_turns acts = turns_without_acts + turns_of_all acts

-- How much of the stack a program takes, how much of a ROM, and which programs are refused for it: exactly. What `build` promises of what
-- a ROM does says nothing of how code is made; this does, and it stands apart.
use Rattle.std.specs.Prelude.{◌≡◌, ℕ, ◌+◌, ◌<◌, ◌⊎◌, List, ⊤}
use Rattle.word86.specs.declared.fault.Fault.{Fault}
use Rattle.word86.specs.declared.fault.Fault.TheVariants.{Memory, At}
use Rattle.word86.specs.declared.number.Number.TheVariants.{E501, E601}
use Rattle.word86.specs.MemoryMap.{stack_room}
use Rattle.plm_decl.specs.declared.names.Names.{Names}
use Rattle.icode.specs.declared.code.Code.{Code}
use Rattle.icode.specs.Counted.{IsCounted}
use Rattle.lower.specs.Lowering.{IsLowered}
use Rattle.select.specs.declared.part.Part.{Part}
use Rattle.select.specs.Selection.{AreParts}
use Rattle.layout_link.specs.declared.image.Image.{Image}
use Rattle.layout_link.specs.declared.image.RomSize.{RomSize}
use Rattle.layout_link.specs.Image.{bytes_in}
use Rattle.layout_link.specs.Linker.{needed, place_of, acts_in}
use Rattle.layout_link.specs.Startup.{start_up_turns}
use Rattle.layout_link.specs.Tasks.{is_main}
use Rattle.plm86.specs.Build.{AreTyped, IsFaulty, StartsUp}

module _ (names : Names) where
  -- What is counted of the program's code, in bytes. For main it is the largest sum along a path of calls: of each routine what it has
  -- pushed, and at each call two bytes more, for where the call returns. For an interrupt it is the same of its procedure, six bytes for
  -- its entry, and two for each register that its procedure and what that calls can change: the largest of any.
  pub record TakesStack (main handler : ℕ) : Type 0 where
    pub code : Code
    pub lowered : IsLowered names code
    pub counted : IsCounted code main handler

  -- the parts that are selected of the program's code
  pub record HasParts (parts : List Part) : Type 0 where
    pub code : Code
    pub lowered : IsLowered names code
    pub selected : AreParts code parts

  -- main and an interrupt take more of the stack together than there is
  abbrev pub IsTooDeep : Type 0
  IsTooDeep = (main : ℕ) × (handler : ℕ) × TakesStack main handler × (stack_room < main + handler)

  module _ (size : RomSize) where
    -- start-up, the parts, the initial bytes and the far jump of the reset do not fit the ROM
    abbrev pub IsTooLong : Type 0
    IsTooLong = (parts : List Part) × HasParts parts × (bytes_in size < needed names parts)

    -- The program fits, the image tells what is counted of its code, and its turns of start-up lead to main's first instruction: where
    -- the first part that is main's begins.
    pub record Fits (image : Image) : Type 0 where
      pub stack : TakesStack image.stack.main image.stack.handler
      pub in_stack : ¬ IsTooDeep
      pub parts : List Part
      pub has_parts : HasParts parts
      pub in_rom : ¬ IsTooLong
      pub turns : image.start_turns ≡ start_up_turns (acts_in names parts size)
      pub starts : StartsUp names image (place_of names parts size is_main)

    -- the stack is looked at before the ROM
    abbrev pub DoesNotFit : Fault → Type 0
    DoesNotFit f = ((f ≡ At 0 1 E501) × IsTooDeep) ⊎ ((f ≡ At 0 1 E601) × ¬ IsTooDeep × IsTooLong)

    -- want of memory may come at any point
    abbrev pub LacksRoom : Fault → Type 0
    LacksRoom Memory = ⊤
    LacksRoom (At which line number) = DoesNotFit (At which line number)

-- ---- of texts

-- what they declare fits
pub record FitsTexts (texts : List (List ℕ)) (size : RomSize) (image : Image) : Type 0 where
  pub names : Names
  pub typed : AreTyped texts names
  pub fits : Fits names size image

-- they are refused for what is wrong in them; or nothing is, and what they declare does not fit
pub data IsExactly (texts : List (List ℕ)) (size : RomSize) (f : Fault) : Type 0 where
  in_texts : IsFaulty texts f → IsExactly texts size f
  for_room : (names : Names) → AreTyped texts names → DoesNotFit names size f → IsExactly texts size f

abbrev pub RefusesExactly : List (List ℕ) → RomSize → Fault → Type 0
RefusesExactly texts size Memory = ⊤
RefusesExactly texts size (At which line number) = IsExactly texts size (At which line number)

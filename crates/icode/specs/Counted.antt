-- The counted stack: the most words that are pushed along any path of calls, and the registers that are changed along one.
use Rattle.std.specs.Prelude.{◌≡◌, ℕ, ◌+◌, ◌*◌, ◌≤◌, Bool, if◌then◌else◌, List, [], ◌∷◌, Option, Some, None, slice_get}
use Rattle.icode.specs.declared.instruction.Instruction.{Instruction}
use Rattle.icode.specs.declared.instruction.Instruction.TheVariants.{Invoke}
use Rattle.icode.specs.declared.code.Position.{Position}
use Rattle.icode.specs.declared.code.Procedure as declared
use Rattle.icode.specs.declared.code.Routine.{Routine}
use Rattle.icode.specs.declared.code.Routine.TheVariants.{Main, Procedure, Unserved, Nowhere}
use Rattle.icode.specs.declared.code.Code.{Code}
use Rattle.icode.specs.declared.registers.Registers.{Registers}
use Rattle.icode.specs.Code.{code_of}
use Rattle.icode.specs.Heights.{height}
use Rattle.icode.specs.Registers.{joined, changes}

module _ (code : Routine → List Instruction) where
  -- a routine is called at a place
  abbrev pub Calls : Position → Routine → Type 0
  Calls p r = (q : ℕ) × (slice_get (code p.routine) p.index ≡ Some (Invoke q)) × (Procedure q ≡ r)

  -- a path of calls leads from one routine to another: the places of the calls, the newest first
  abbrev pub IsPath : Routine → List Position → Routine → Type 0
  IsPath begin [] r = begin ≡ r
  IsPath begin (p ∷ ps) r = Calls p r × IsPath begin ps p.routine

  -- the words that are pushed along it: at each call the values of its routine, and where it goes on
  abbrev pub words_along : List Position → ℕ
  words_along [] = 0
  words_along (p ∷ ps) = height (code p.routine) p.index + 1 + words_along ps

  -- the most words that a routine and what it calls, directly or not, push together
  pub record IsDepth (begin : Routine) (most : ℕ) : Type 0 where
    pub bounds : (ps : List Position) (r : Routine) (k : ℕ) → IsPath begin ps r → height (code r) k + words_along ps ≤ most
    pub reached : (ps : List Position) × (r : Routine) × (k : ℕ) × IsPath begin ps r × (height (code r) k + words_along ps ≡ most)

  -- these registers are all that the instructions along its paths of calls can change
  abbrev pub HasAll : Routine → Registers → Type 0
  HasAll begin g = (ps : List Position) (r : Routine) (k : ℕ) (x : Instruction) → IsPath begin ps r → slice_get (code r) k ≡ Some x → joined g (changes x) ≡ g

  -- and no others
  pub record IsChanged (begin : Routine) (g : Registers) : Type 0 where
    pub all : HasAll begin g
    pub least : (h : Registers) → HasAll begin h → joined h g ≡ h

abbrev pub one_if : Bool → ℕ
one_if b = if b then 1 else 0

abbrev pub number_of : Registers → ℕ
number_of g = one_if g.accumulator + one_if g.right + one_if g.high + one_if g.address + one_if g.frame

abbrev pub HasVector : Option declared.Procedure → Type 0
HasVector (Some p) = (v : ℕ) × (p.vector ≡ Some v)
HasVector None = ⊥

-- what an interrupt enters: a procedure with a vector, or the routine for vectors without one
abbrev pub IsHandler : Code → Routine → Type 0
IsHandler c Main = ⊥
IsHandler c (Procedure k) = HasVector (slice_get c.procedures.items k)
IsHandler c Unserved = Unit {0}
IsHandler c Nowhere = ⊥

-- the words of an interrupt: the flags and where main goes on, the registers that are saved, and what is pushed then
pub record IsRoom (c : Code) (r : Routine) (most : ℕ) : Type 0 where
  pub saved : Registers
  pub words : ℕ
  pub is_changed : IsChanged (code_of c) r saved
  pub is_depth : IsDepth (code_of c) r words
  pub is : 3 + number_of saved + words ≡ most

-- The bytes that main pushes at most, and the bytes of an interrupt: the largest of any.
pub record IsCounted (c : Code) (main handler : ℕ) : Type 0 where
  pub deepest : ℕ
  pub largest : ℕ
  pub of_main : IsDepth (code_of c) Main deepest
  pub main_is : main ≡ 2 * deepest
  pub bounds : (r : Routine) (n : ℕ) → IsHandler c r → IsRoom c r n → n ≤ largest
  pub reached : (r : Routine) × IsHandler c r × IsRoom c r largest
  pub handler_is : handler ≡ 2 * largest

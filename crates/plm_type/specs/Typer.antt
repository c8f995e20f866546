-- What is said of a construct: its tree, its type, and the faults that are found in it, in the order in which they are found.
use Rattle.std.specs.Prelude.{List, Option}
use Rattle.plm_decl.specs.declared.layout.ScalarType.{ScalarType}
use Rattle.plm_decl.specs.declared.found.Found.{Found}
use Rattle.plm_type.specs.declared.numbers.Numbers.{Numbers}
use Rattle.plm_type.specs.declared.program.Counting.{Counting}
use Rattle.plm_type.specs.Rest.{Expression, Expressions, Target}

-- an expression; what has a fault has no type
pub record Typed : Type 0 where
  pub tree : Expression
  pub scalar : Option ScalarType
  pub numbers : Numbers
  pub faults : List Found

-- a target; that of DATA keeps its type
pub record TypedTarget : Type 0 where
  pub tree : Target
  pub scalar : Option ScalarType
  pub faults : List Found

-- several expressions
pub record TypedList : Type 0 where
  pub trees : Expressions
  pub types : List (Option ScalarType)
  pub faults : List Found

-- the subscripts of a reference to a variable, and that of its member
pub record Parts : Type 0 where
  pub subscripts : Expressions
  pub member : Expressions
  pub subscript_types : List (Option ScalarType)
  pub member_types : List (Option ScalarType)
  pub faults : List Found

-- the targets of an assignment
pub record TypedTargets : Type 0 where
  pub trees : List Target
  pub types : List (Option ScalarType)
  pub faults : List Found

-- what has no type
pub record Noted (A : Type 0) : Type 0 where
  pub tree : A
  pub faults : List Found

-- the step of a DO with an index, and how it counts
pub record TypedStep : Type 0 where
  pub tree : Expression
  pub counting : Counting
  pub faults : List Found

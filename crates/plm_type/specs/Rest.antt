-- What a context has still to do: trees of the language in which names stand for places and types are known, and whose evaluated
-- parts are replaced by their values. What a program has to do at first are the same trees, without the forms of rests.
use Rattle.std.specs.Prelude.{ℕ, Bool, List}
use Rattle.word86.specs.declared.width.Width.{Width}
use Rattle.word86.specs.declared.operation.UnaryOperation.{UnaryOperation}
use Rattle.word86.specs.declared.operation.BinaryOperation.{BinaryOperation}
use Rattle.word86.specs.declared.page.Page.{Page}
use Rattle.word86.specs.Access.{Where}
use Rattle.plm_type.specs.declared.program.Counting.{Counting}

-- where a variable's bytes begin: at this index of a RAM object or of a page of the screen, with the size of what its declaration takes, or
-- at the address that its base holds
pub data Anchor : Type 0 where
  InObject : (object start size : ℕ) → Anchor
  OnScreen : Page → (start size : ℕ) → Anchor
  Behind : (base : Where) → Anchor
  -- in rests only: the base has been read
  There : (address : ℕ) → Anchor
  deriving IsSet as Anchor-set

-- a parameter, or an index: a scalar that lies at a fixed place
pub record Scalar : Type 0 where
  pub width : Width
  pub place : Where
  deriving IsSet as Scalar-set

mutual
  pub data Expression : Type 0 where
    Constant : ℕ → Expression
    -- a scalar that lies at a fixed place
    Plain : Width → Where → Expression
    Variable : Width → Reference → Expression
    -- the address of a variable, or of constant bytes
    Location : Reference → Expression
    -- with the width of the operand
    Unary : UnaryOperation → Width → Expression → Expression
    -- with the module and the line of the operator, and the width of the value
    Binary : (module_index line : ℕ) → BinaryOperation → Width → Expression → Expression → Expression
    -- ( t := e )
    Embedded : Target → Expression → Expression
    Input : Width → Expression → Expression
    Call : (procedure : ℕ) → Expressions → Expression
    -- in rests only: a value; a call whose parameters get their values; a call whose body runs
    Value : ℕ → Expression
    Passing : (procedure : ℕ) → List Scalar → List ℕ → Expression
    Running : Statements → Expression
    deriving IsSet as Expression-set

  pub data Expressions : Type 0 where
    NoMore : Expressions
    More : Expression → Expressions → Expressions
    deriving IsSet as Expressions-set

  -- with the module and the line of its name; its bytes begin offset bytes after its anchor, and after its subscripts: what those
  -- that have their values pass over is in the offset
  pub data Reference : Type 0 where
    Refer : (module_index line : ℕ) → Anchor → (offset : ℕ) → Subscripts → Reference
    deriving IsSet as Reference-set

  -- each with how many bytes an element has
  pub data Subscripts : Type 0 where
    NoSubscripts : Subscripts
    Subscript : (stride : ℕ) → Expression → Subscripts → Subscripts
    deriving IsSet as Subscripts-set

  pub data Target : Type 0 where
    ToPlain : Width → Where → Target
    ToVariable : Width → Reference → Target
    -- OUTPUT and OUTWORD of a port
    ToPort : Width → Expression → Target
    deriving IsSet as Target-set

  pub data Targets : Type 0 where
    Only : Target → Targets
    Also : Target → Targets → Targets
    deriving IsSet as Targets-set

  -- DO i = .. TO b BY s: how the index counts, the index, the bound, the step and the body
  pub data Loop : Type 0 where
    Count : Counting → Scalar → (bound step : Expression) → Statements → Loop
    deriving IsSet as Loop-set

  pub data Statement : Type 0 where
    Empty : Statement
    Assign : Targets → Expression → Statement
    -- CALL: a value is dropped
    Evaluate : Expression → Statement
    Return : Statement
    ReturnValue : Width → Expression → Statement
    Enabling : Statement
    Disabling : Statement
    Halting : Statement
    -- the statements of THEN, and those of ELSE
    If : Expression → Statements → Statements → Statement
    Block : Statements → Statement
    -- what is left of the test; the test, and the body
    While : (left condition : Expression) → Statements → Statement
    Case : Expression → Statements → Statement
    -- a DO with an index, and its first value
    Iterate : Expression → Loop → Statement
    -- in rests only: the end of a block
    Leaving : Statement
    -- a round of a DO with an index begins; its index is compared with the bound
    Round : Loop → Statement
    Comparing : (index : ℕ) → Expression → Loop → Statement
    -- after the body: the step; the index, to which the step is added; the sum, which the index gets, and whether it leaves the range
    -- of the index
    Stepping : Expression → Loop → Statement
    Adding : (index step : ℕ) → Loop → Statement
    Storing : (sum : ℕ) → (leaves : Bool) → Loop → Statement
    Ending : (leaves : Bool) → Loop → Statement
    deriving IsSet as Statement-set

  pub data Statements : Type 0 where
    End : Statements
    Then : Statement → Statements → Statements
    -- in rests only: what a RETURN leaves
    Returned : ℕ → Statements
    deriving IsSet as Statements-set

-- a procedure: its parameters in order, and its body
pub record Procedure : Type 0 where
  pub parameters : List Scalar
  pub body : Statements
  deriving IsSet as Procedure-set

-- main, or an interrupt procedure
pub data Rest : Type 0 where
  Main : Statements → Rest
  Handler : Statements → Rest

-- Trees that checked programs have: no parts of rests, places inside their objects, as many arguments as parameters.
use Rattle.std.specs.Prelude.{◌≡◌, ℕ, zero, suc, ◌+◌, ◌≤◌, ◌<◌, List, [], ◌∷◌, length, Some, slice_get, slice_index}
use Rattle.word86.specs.declared.width.Width.{Width}
use Rattle.word86.specs.declared.width.Width.TheVariants as widths
use Rattle.word86.specs.Access.{Where, In, Screen}
use Rattle.word86.specs.Page.{page_size}
use Rattle.word86.specs.Place.{bytes}
use Rattle.plm_type.specs.declared.program.Counting.{Counting}
use Rattle.plm_type.specs.declared.program.Counting.TheVariants as counting
use Rattle.plm_type.specs.Rest.{Anchor, InObject, OnScreen, Behind, There, Scalar, Expression, Constant, Plain, Variable, Location, Unary, Binary, Embedded, Input, Call, Value, Passing, Running, Expressions, NoMore, More, Reference, Refer, Subscripts, NoSubscripts, Subscript, Target, ToPlain, ToVariable, ToPort, Targets, Only, Also, Loop, Count, Statement, Empty, Assign, Evaluate, Return, ReturnValue, Enabling, Disabling, Halting, If, Block, While, Case, Iterate, Leaving, Round, Comparing, Stepping, Adding, Storing, Ending, Statements, End, Then, Returned, Procedure}
use Rattle.lower.specs.Expressions.{Operand, Number, Name, Computed, operand_of, count_of}
use Rattle.lower.specs.Statements.{Kind, OfMain, Called, Giving, Serving}

-- an INTEGER counts by a number, of the sign by which it counts
abbrev pub StepIs : Counting → Width → Operand → Type 0
StepIs counting.Up width step = Unit {0}
StepIs counting.SignedUp width (Number s) = (s < 32768) × (width ≡ widths.Word)
StepIs counting.SignedUp width (Name read x) = ⊥
StepIs counting.SignedUp width Computed = ⊥
StepIs counting.SignedDown width (Number s) = (32768 ≤ s) × (width ≡ widths.Word)
StepIs counting.SignedDown width (Name read x) = ⊥
StepIs counting.SignedDown width Computed = ⊥

-- the objects' sizes
module _ (sizes : List ℕ) where
  -- what is read or written with this width lies in its object, or in its page of the screen
  abbrev pub Lies : Width → Where → Type 0
  Lies width (In k i) = i + bytes width ≤ slice_index sizes k
  Lies width (Screen page i) = i + bytes width ≤ page_size

  abbrev pub ScalarLies : Scalar → Type 0
  ScalarLies x = Lies x.width x.place

  abbrev pub AllLie : List Scalar → Type 0
  AllLie [] = Unit {0}
  AllLie (x ∷ xs) = ScalarLies x × AllLie xs

  -- a variable's bytes lie in its object, or in its page of the screen; its base is a word
  abbrev pub AnchorLies : Anchor → Type 0
  AnchorLies (InObject k start size) = start + size ≤ slice_index sizes k
  AnchorLies (OnScreen page start size) = start + size ≤ page_size
  AnchorLies (Behind base) = Lies widths.Word base
  AnchorLies (There address) = ⊥

  module _ (procedures : List Procedure) (MayCall : ℕ → Type 0) where
    -- a procedure that may be called, with as many arguments as it has parameters, which lie in their objects
    abbrev pub IsCall : ℕ → ℕ → Type 0
    IsCall p given = (procedure : Procedure) × (slice_get procedures p ≡ Some procedure) × (length procedure.parameters ≡ given) × AllLie procedure.parameters × MayCall p

    -- there are at most two subscripts: an element's and its member's
    abbrev mutual
      pub IsExpression : Expression → Type 0
      IsExpression (Constant k) = k < 65536
      IsExpression (Plain width x) = Lies width x
      IsExpression (Variable width r) = IsReference r
      IsExpression (Location r) = IsReference r
      IsExpression (Unary o width e) = IsExpression e
      IsExpression (Binary module_index line o width a b) = IsExpression a × IsExpression b
      IsExpression (Embedded t e) = IsTarget t × IsExpression e
      IsExpression (Input width port) = IsExpression port
      IsExpression (Call p es) = IsCall p (count_of es) × AreExpressions es
      IsExpression (Value v) = ⊥
      IsExpression (Passing p xs vs) = ⊥
      IsExpression (Running ss) = ⊥

      pub AreExpressions : Expressions → Type 0
      AreExpressions NoMore = Unit {0}
      AreExpressions (More e es) = IsExpression e × AreExpressions es

      pub IsReference : Reference → Type 0
      IsReference (Refer module_index line anchor offset ss) = AnchorLies anchor × AreSubscripts 2 ss

      pub AreSubscripts : ℕ → Subscripts → Type 0
      AreSubscripts n NoSubscripts = Unit {0}
      AreSubscripts zero (Subscript stride e more) = ⊥
      AreSubscripts (suc n) (Subscript stride e more) = IsExpression e × AreSubscripts n more

      pub IsTarget : Target → Type 0
      IsTarget (ToPlain width x) = Lies width x
      IsTarget (ToVariable width r) = IsReference r
      IsTarget (ToPort width port) = IsExpression port

    abbrev pub AreTargets : Targets → Type 0
    AreTargets (Only t) = IsTarget t
    AreTargets (Also t ts) = IsTarget t × AreTargets ts

    -- RETURN stands in procedures alone, with a value in those that give one
    abbrev pub MayReturn : Kind → Type 0
    MayReturn OfMain = ⊥
    MayReturn Called = Unit {0}
    MayReturn Giving = Unit {0}
    MayReturn Serving = Unit {0}

    abbrev pub MayReturnValue : Kind → Type 0
    MayReturnValue OfMain = ⊥
    MayReturnValue Called = ⊥
    MayReturnValue Giving = Unit {0}
    MayReturnValue Serving = ⊥

    module _ (around : Kind) where
      abbrev mutual
        pub IsStatement : Statement → Type 0
        IsStatement Empty = Unit {0}
        IsStatement (Assign ts e) = AreTargets ts × IsExpression e
        IsStatement (Evaluate e) = IsExpression e
        IsStatement Return = MayReturn around
        IsStatement (ReturnValue width e) = MayReturnValue around × IsExpression e
        IsStatement Enabling = Unit {0}
        IsStatement Disabling = Unit {0}
        IsStatement Halting = Unit {0}
        IsStatement (If c arm other) = IsExpression c × AreStatements arm × AreStatements other
        IsStatement (Block ss) = AreStatements ss
        IsStatement (While left c ss) = (left ≡ c) × IsExpression c × AreStatements ss
        IsStatement (Case e ss) = IsExpression e × AreStatements ss
        IsStatement (Iterate a l) = IsExpression a × IsLoop l
        IsStatement Leaving = ⊥
        IsStatement (Round l) = ⊥
        IsStatement (Comparing i e l) = ⊥
        IsStatement (Stepping e l) = ⊥
        IsStatement (Adding i s l) = ⊥
        IsStatement (Storing sum leaves l) = ⊥
        IsStatement (Ending leaves l) = ⊥

        pub IsLoop : Loop → Type 0
        IsLoop (Count o x bound step ss) = ScalarLies x × IsExpression bound × IsExpression step × AreStatements ss × StepIs o x.width (operand_of step)

        pub AreStatements : Statements → Type 0
        AreStatements End = Unit {0}
        AreStatements (Then s later) = IsStatement s × AreStatements later
        AreStatements (Returned v) = ⊥

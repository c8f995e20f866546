-- The trees of a program are equal in one way at most.
use Rattle.std.specs.Prelude.{◌≡◌, ℕ, Bool, List, ◌⊎◌}
use Rattle.std.specs.Coded.{Coded-set, coded_ℕ, coded_bool, coded×, coded⊎, code_by}
use mathlib.Core.List.{is_set as List-set}
use Rattle.std.proofs.Common.{inl, inr, refl}
use Rattle.word86.specs.declared.width.Width.{Width}
use Rattle.word86.specs.declared.operation.UnaryOperation.{UnaryOperation}
use Rattle.word86.specs.declared.operation.BinaryOperation.{BinaryOperation}
use Rattle.word86.specs.declared.page.Page.{Page}
use Rattle.word86.specs.contracts.width.Width as coded_width
use Rattle.word86.specs.contracts.operation.UnaryOperation as coded_unary
use Rattle.word86.specs.contracts.operation.BinaryOperation as coded_binary
use Rattle.word86.specs.contracts.page.Page as coded_page
use Rattle.word86.specs.Access.{Where, In, Screen}
use Rattle.plm_type.specs.declared.program.Counting.{Counting}
use Rattle.plm_type.specs.contracts.program.Counting as coded_counting
use Rattle.plm_type.specs.Rest as rest
use Rattle.plm_type.specs.Rest.{Scalar, Anchor, Statements, Procedure}

ℕ-set : IsSet ℕ
ℕ-set = Coded-set coded_ℕ

Page-set : IsSet Page
Page-set = Coded-set coded_page.the_row.coded

Width-set : IsSet Width
Width-set = Coded-set coded_width.the_row.coded

UnaryOperation-set : IsSet UnaryOperation
UnaryOperation-set = Coded-set coded_unary.the_row.coded

BinaryOperation-set : IsSet BinaryOperation
BinaryOperation-set = Coded-set coded_binary.the_row.coded

split : Where → (ℕ × ℕ) ⊎ (Page × ℕ)
split (In k i) = inl (k, i)
split (Screen page i) = inr (page, i)

join : (ℕ × ℕ) ⊎ (Page × ℕ) → Where
join (inl p) = In p.0 p.1
join (inr p) = Screen p.0 p.1

join_split : (w : Where) → join (split w) ≡ w
unfolding join split
join_split (In k i) = refl
join_split (Screen page i) = refl

Where-set : IsSet Where
Where-set = Coded-set (code_by ((ℕ × ℕ) ⊎ (Page × ℕ)) (coded⊎ (coded× coded_ℕ coded_ℕ) (coded× coded_page.the_row.coded coded_ℕ)) split join join_split)

Counting-set : IsSet Counting
Counting-set = Coded-set coded_counting.the_row.coded

Bool-set : IsSet Bool
Bool-set = Coded-set coded_bool

Scalar-set : IsSet Scalar
Scalar-set = rest.Scalar-set Width-set Where-set

Anchor-set : IsSet Anchor
Anchor-set = rest.Anchor-set ℕ-set Page-set Where-set

pub Statements-set : IsSet Statements
Statements-set = rest.Statements-set ℕ-set Width-set Where-set UnaryOperation-set BinaryOperation-set (List-set Scalar-set) (List-set ℕ-set) Anchor-set Counting-set Scalar-set Bool-set

pub Procedures-set : IsSet (List Procedure)
Procedures-set = List-set (rest.Procedure-set (List-set Scalar-set) Statements-set)

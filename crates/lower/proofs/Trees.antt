-- The code of trees that the syntax of Rust holds in other shapes.
use Rattle.std.proofs.Common.{◌≡◌, ℕ, suc, ◌+◌, ◌≤◌, ◌++◌, false, List, [], ◌∷◌, length, map, slice_index_or, Option, Some, None, refl, ap, sym, ◌∙◌, append-nil, arith, ◌⊎◌, inl, inr}
use Rattle.word86.specs.declared.width.Width.{Width}
use Rattle.word86.specs.declared.width.Width.TheVariants as widths
use Rattle.word86.specs.declared.operation.BinaryOperation.TheVariants as binary
use Rattle.word86.specs.Place.{where_of}
use Rattle.word86.specs.declared.page.Page.{Page}
use Rattle.word86.specs.declared.place.Place.{Place}
use Rattle.word86.specs.declared.place.Place.TheVariants as places
use Rattle.plm_type.specs.declared.program.Operation.{Operation}
use Rattle.plm_type.specs.declared.program.Scalar as declared_scalar
use Rattle.plm_type.specs.declared.program.Subscript.{Subscript}
use Rattle.plm_type.specs.declared.program.Expression as declared_expression
use Rattle.plm_type.specs.declared.program.Anchor as declared_anchor
use Rattle.plm_type.specs.declared.program.Anchor.TheVariants as anchors
use Rattle.plm_type.specs.declared.program.Target as declared_target
use Rattle.plm_type.specs.Rest.{Expression, Binary, Scalar, Procedure, Target}
use Rattle.plm_type.specs.View.{scalar_of, expression_of, expressions_of, subscripts_of, chained, anchor_of, target_of, targets_of}
use Rattle.icode.specs.declared.instruction.Instruction.{Instruction}
use Rattle.icode.specs.declared.instruction.Instruction.TheVariants as op
use Rattle.lower.specs.Expressions.{Operand, place_of, constant_of, folded, expression_code, dropped_code, number_of, operand_of, passing, call_code, count_of, anchor_place, moved, based, reading, locating, writing, second_passed, pair, target_code, targets_code}
use Rattle.lower.specs.Conditions.{always}
use Rattle.lower.specs.Inner.Expressions.{first_passed, other_passed, others_code}
use Rattle.lower.specs.Inner.Put.{name_of}

pub same_place : (p : Place) → place_of (where_of p) ≡ p
same_place (places.Ram k i) = refl
same_place (places.Screen page i) = refl

-- with an operator an operand is no name
number_nameless : (z : Option ℕ) → name_of (number_of z) ≡ None
number_nameless (Some k) = refl
number_nameless None = refl

chain_nameless : (e : Expression) (os : List Operation) → name_of (operand_of e) ≡ None → name_of (operand_of (chained e os)) ≡ None
chain_nameless e [] h = h
chain_nameless e (o ∷ os) h = let one = Binary o.line.module o.line.line o.operation o.width e (expression_of o.operand) in chain_nameless one os (number_nameless (folded one))

pub chain_is : (e : Expression) (os : List Operation) → 1 ≤ length os → name_of (operand_of (chained e os)) ≡ None
chain_is e [] h = absurd (omega (arith, h))
chain_is e (o ∷ os) h = let one = Binary o.line.module o.line.line o.operation o.width e (expression_of o.operand) in chain_nameless one os (number_nameless (folded one))

-- nor is it a constant
chain_unknown : (e : Expression) (os : List Operation) → constant_of e ≡ None → constant_of (chained e os) ≡ None
chain_unknown e [] h = h
chain_unknown e (o ∷ os) h = chain_unknown _ os refl

pub chain_computed : (e : Expression) (os : List Operation) → 1 ≤ length os → constant_of (chained e os) ≡ None
chain_computed e [] h = absurd (omega (arith, h))
chain_computed e (o ∷ os) h = chain_unknown _ os refl

-- nor one that holds
chain_not_always : (e : Expression) (os : List Operation) → always e ≡ false → always (chained e os) ≡ false
chain_not_always e [] h = h
chain_not_always e (o ∷ os) h = chain_not_always _ os refl

pub chain_tested : (e : Expression) (os : List Operation) → 1 ≤ length os → always (chained e os) ≡ false
chain_tested e [] h = absurd (omega (arith, h))
chain_tested e (o ∷ os) h = chain_not_always _ os refl

-- no operators after the left operand
pub chain_none : (e : Expression) (os : List Operation) → length os ≡ 0 → chained e os ≡ e
chain_none e [] h = refl
chain_none e (o ∷ os) h = absurd (omega (arith, h))

-- a value of operators is dropped as it is computed
chain_kept : (ps : List Procedure) (e : Expression) (os : List Operation) → dropped_code ps e ≡ expression_code ps e → dropped_code ps (chained e os) ≡ expression_code ps (chained e os)
chain_kept ps e [] h = h
chain_kept ps e (o ∷ os) h = chain_kept ps _ os refl

pub chain_dropped : (ps : List Procedure) (e : Expression) (os : List Operation) → 1 ≤ length os → dropped_code ps (chained e os) ≡ expression_code ps (chained e os)
chain_dropped ps e [] h = absurd (omega (arith, h))
chain_dropped ps e (o ∷ os) h = chain_kept ps _ os refl

-- a call of several arguments
pub call_of_many : (p : ℕ) (xs : List Scalar) (es : List declared_expression.Expression) (first second pushed : List Instruction) → 3 ≤ length es
    → call_code p xs (expressions_of es) first second pushed ≡ pushed ++ (passing xs ++ op.Drop (length es) ∷ op.Invoke p ∷ [])
call_of_many p xs [] first second pushed h = absurd (omega (arith, h))
call_of_many p xs (e ∷ []) first second pushed h = absurd (omega (arith, h))
call_of_many p xs (e ∷ f ∷ []) first second pushed h = absurd (omega (arith, h))
call_of_many p xs (e ∷ f ∷ g ∷ es) first second pushed h = ap (λ n. pushed ++ (passing xs ++ op.Drop n ∷ op.Invoke p ∷ [])) (counted es) where
  all : (es : List declared_expression.Expression) → count_of (expressions_of es) ≡ length es
  all [] = refl
  all (e ∷ es) = ap suc (all es)

  counted : (es : List declared_expression.Expression) → 3 + count_of (expressions_of es) ≡ length (e ∷ f ∷ g ∷ es)
  counted es = omega (arith, all es)

-- a call of two
pub pair_parts : (xs : List Scalar) (o q : Operand) (first second : List Instruction) → pair xs o q first second ≡ first_passed xs o first ++ other_passed xs q second
pair_parts [] o q first second = refl
pair_parts (x ∷ []) o q first second = refl
pair_parts (x ∷ y ∷ xs) o q first second = refl

pub other_of_two : (ps : List declared_scalar.Scalar) (d e : declared_scalar.Scalar) (q : Operand) (code : List Instruction) → 2 ≤ length ps
    → second_passed (scalar_of (slice_index_or ps 0 d)) (scalar_of (slice_index_or ps 1 e)) q code ≡ other_passed (map scalar_of ps) q code
other_of_two [] d e q code h = absurd (omega (arith, h))
other_of_two (x ∷ []) d e q code h = absurd (omega (arith, h))
other_of_two (x ∷ y ∷ ps) d e q code h = refl

-- with subscripts an address is in the accumulator already
pub based_behind : (base : Place) (offset : ℕ) (ss : List Subscript) → 1 ≤ length ss
    → based (where_of base) offset (subscripts_of ss) ≡ op.BinaryPlain binary.Add widths.Word widths.Word base ∷ moved offset
based_behind base offset [] h = absurd (omega (arith, h))
based_behind base offset (s ∷ ss) h = ap (λ p. op.BinaryPlain binary.Add widths.Word widths.Word p ∷ moved offset) (same_place base)

-- an anchor in an object or on the screen is no base
pub not_based : (a : declared_anchor.Anchor) → ((k : ℕ) × (start : ℕ) × (size : ℕ) × (a ≡ anchors.InObject k start size)) ⊎ ((page : Page) × (start : ℕ) × (size : ℕ) × (a ≡ anchors.OnScreen page start size)) → (base : Place) → a ≡ anchors.Behind base → ⊥
not_based a (inl x) base e = let f : anchors.Behind base ≡ anchors.InObject x.0 x.1 x.2 = sym e ∙ x.3 in absurd (cc)
not_based a (inr x) base e = let f : anchors.Behind base ≡ anchors.OnScreen x.0 x.1 x.2 = sym e ∙ x.3 in absurd (cc)

-- after subscripts at a fixed place
pub reading_behind : (width : Width) (a : declared_anchor.Anchor) (offset : ℕ) (ss : List Subscript) → ((base : Place) → a ≡ anchors.Behind base → ⊥) → 1 ≤ length ss
    → reading width (anchor_of a) offset (subscripts_of ss) ≡ op.LoadAt width (anchor_place (anchor_of a) offset) ∷ []
reading_behind width a offset [] fixed h = absurd (omega (arith, h))
reading_behind width (anchors.InObject k start size) offset (s ∷ ss) fixed h = refl
reading_behind width (anchors.OnScreen page start size) offset (s ∷ ss) fixed h = refl
reading_behind width (anchors.Behind base) offset (s ∷ ss) fixed h = absurd (fixed base refl)

pub locating_behind : (a : declared_anchor.Anchor) (offset : ℕ) (ss : List Subscript) → ((base : Place) → a ≡ anchors.Behind base → ⊥) → 1 ≤ length ss
    → locating (anchor_of a) offset (subscripts_of ss) ≡ op.LocateAt (anchor_place (anchor_of a) offset) ∷ []
locating_behind a offset [] fixed h = absurd (omega (arith, h))
locating_behind (anchors.InObject k start size) offset (s ∷ ss) fixed h = refl
locating_behind (anchors.OnScreen page start size) offset (s ∷ ss) fixed h = refl
locating_behind (anchors.Behind base) offset (s ∷ ss) fixed h = absurd (fixed base refl)

pub writing_behind : (width : Width) (a : declared_anchor.Anchor) (offset : ℕ) (ss : List Subscript) (code : List Instruction) → ((base : Place) → a ≡ anchors.Behind base → ⊥) → 1 ≤ length ss
    → writing width (anchor_of a) offset (subscripts_of ss) code ≡ op.Push ∷ (code ++ op.StoreAt width (anchor_place (anchor_of a) offset) ∷ [])
writing_behind width a offset [] code fixed h = absurd (omega (arith, h))
writing_behind width (anchors.InObject k start size) offset (s ∷ ss) code fixed h = refl
writing_behind width (anchors.OnScreen page start size) offset (s ∷ ss) code fixed h = refl
writing_behind width (anchors.Behind base) offset (s ∷ ss) code fixed h = absurd (fixed base refl)

-- the first target, then the others
pub targets_coded : (ps : List Procedure) (t : Target) (us : List declared_target.Target) → targets_code ps (targets_of t us) ≡ target_code ps t ++ others_code ps us
targets_coded ps t [] = sym (append-nil (target_code ps t))
targets_coded ps t (u ∷ us) = ap (λ c. target_code ps t ++ c) (targets_coded ps (target_of u) us)

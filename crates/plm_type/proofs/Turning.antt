-- Operators with their right operands, turned INTEGER one after the other.
use Rattle.std.proofs.Common.{◌≡◌, ℕ, zero, suc, ◌+◌, ◌<◌, List, [], ◌∷◌, length, get_or, set, refl, sym, ap, ◌∙◌, subst, arith}
use Rattle.std.proofs.lemmas.List.{map-set, get_or-map, with_items_is}
use Rattle.std.specs.Global.{Vec}
use Rattle.std.specs.Vec.{with_items}
use Rattle.word86.specs.declared.width.Width.TheVariants as width
use Rattle.word86.specs.declared.operation.BinaryOperation.{BinaryOperation}
use Rattle.plm_type.specs.declared.program.Expression as declared
use Rattle.plm_type.specs.declared.program.Expression.TheBlock.{hidden-the_row-Operation-0}
use Rattle.plm_type.specs.declared.program.Operation as declared_operation
use Rattle.plm_type.specs.declared.program.Line.{Line}
use Rattle.plm_type.specs.Rest.{Expression, Binary}
use Rattle.plm_type.specs.Numbers.{integer_of}
use Rattle.plm_type.specs.View.{expression_of, chained_in, chained}
use Rattle.plm_type.specs.Inner.Turned.{Operation, operation_of, operations_of, turned, all_turned, turned_first}
use Rattle.plm_type.proofs.Rows.{operation_row}

-- ---- one after the other

turn_step : (us : List Operation) (i : ℕ) (d : Operation) → i < length us → set (turned_first i us) i (turned (get_or us i d)) ≡ turned_first (suc i) us
turn_step [] i d h = absurd (omega (arith, h))
turn_step (u ∷ us) zero d h = refl
turn_step (u ∷ us) (suc i) d h = ap (λ vs. turned u ∷ vs) (turn_step us i d (omega (arith, h)))

turn_all : (us : List Operation) → turned_first (length us) us ≡ all_turned us
turn_all [] = refl
turn_all (u ∷ us) = ap (λ vs. turned u ∷ vs) (turn_all us)

length_view : (ys : List declared_operation.Operation) → length (operations_of ys) ≡ length ys
length_view [] = refl
length_view (y ∷ ys) = ap suc (length_view ys)

pub turned_whole : (ys : List declared_operation.Operation) (i : ℕ) → i ≡ length ys → turned_first i (operations_of ys) ≡ all_turned (operations_of ys)
turned_whole ys i e = ap (λ n. turned_first n (operations_of ys)) (e ∙ sym (length_view ys)) ∙ turn_all (operations_of ys)

pub turn_at : (xs ys : List declared_operation.Operation) (i : ℕ) (d o : declared_operation.Operation) → i < length ys → operations_of xs ≡ turned_first i (operations_of ys)
    → operation_of o ≡ turned (operation_of (get_or ys i d)) → operations_of (set xs i o) ≡ turned_first (i + 1) (operations_of ys)
turn_at xs ys i d o h e is =
    map-set operation_of xs i o ∙ ap (λ us. set us i (operation_of o)) e ∙ ap (set (turned_first i (operations_of ys)) i) is
    ∙ ap (λ u. set (turned_first i (operations_of ys)) i (turned u)) (sym (get_or-map operation_of ys i d (operation_of d) h))
    ∙ turn_step (operations_of ys) i (operation_of d) (subst (λ n. i < n) (sym (length_view ys)) h)
    ∙ (let next : suc i ≡ i + 1 = omega arith in ap (λ n. turned_first n (operations_of ys)) next)

abbrev word : Line → BinaryOperation → Expression → Operation
word l o e = record { line = l; operation = o; width = width.Word; operand = e }

pub alike : (l m : Line) (o p : BinaryOperation) (a b : Expression) → l ≡ m → o ≡ p → a ≡ b → word l o a ≡ word m p b
alike l m o p a b e f g = λ j. word (e j) (f j) (g j)

-- ---- a chain of them

abbrev joined : Expression → List Operation → Expression
joined left [] = left
joined left (u ∷ us) = joined (Binary u.line.module u.line.line u.operation u.width left u.operand) us

chained_is : (left : Expression) (os : List declared_operation.Operation) → chained left os ≡ joined left (operations_of os)
chained_is left [] = refl
chained_is left (o ∷ os) = chained_is (Binary o.line.module o.line.line o.operation o.width left (expression_of o.operand)) os

joined_turned : (left : Expression) (us : List Operation) → joined (integer_of left) (all_turned us) ≡ integer_of (joined left us)
joined_turned left [] = refl
joined_turned left (u ∷ us) = joined_turned (Binary u.line.module u.line.line u.operation u.width left u.operand) us

-- the first operand and the operators, each turned where it lies
pub turned_chain : (e d : declared.Expression) (u v : Vec declared_operation.Operation) (os : List declared_operation.Operation) → u ≡ v → length os ≡ u.len
    → expression_of e ≡ integer_of (expression_of d) → operations_of os ≡ all_turned (operations_of u.items)
    → chained_in (expression_of e) (hidden-the_row-Operation-0 (with_items u os)) ≡ integer_of (chained_in (expression_of d) (hidden-the_row-Operation-0 v))
turned_chain e d u v os is whole first others =
    operation_row (with_items u os) (expression_of e)
    ∙ ap (chained (expression_of e)) (with_items_is u os whole)
    ∙ chained_is (expression_of e) os
    ∙ ap (joined (expression_of e)) (others ∙ ap (λ (w : Vec declared_operation.Operation). all_turned (operations_of w.items)) is)
    ∙ ap (λ x. joined x (all_turned (operations_of v.items))) first
    ∙ joined_turned (expression_of d) (operations_of v.items)
    ∙ ap integer_of (sym (chained_is (expression_of d) v.items) ∙ sym (operation_row v (expression_of d)))

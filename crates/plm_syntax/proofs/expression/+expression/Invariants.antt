use Rattle.std.proofs.Common.{◌≡◌, ◌∷◌, ℕ, suc, List, ◌+◌, ◌*◌, ◌≤◌, length}
use Rattle.plm_syntax.specs.Terminal.{NameT}
use Rattle.plm_syntax.specs.Tree.{ExpressionT}
use Rattle.plm_syntax.specs.View.{expressions_of, values_of}
use Rattle.plm_syntax.specs.Inner.Symbol.{Value, Precedence, Symbol, depth, Products, Sums, Relations, Conjunctions, Disjunctions, ExpressionR, ExpressionsR, ValuesR, Want, Do, Leave, MoreG, SubscriptsG, MoreSubscriptsG, MoreValuesG}
use Rattle.plm_syntax.specs.Inner.Machine.{a_value_list, set_subscripts, run}
use Rattle.plm_syntax.specs.Inner.Parsed.{ahead}
use Rattle.plm_syntax.specs.Inner.Parts.{precedence_view, tightness, read_operations, reference_read}
use Rattle.plm_syntax.proofs.expression.+expression.Given as goal

-- how many calls may follow one at the same token
abbrev pub rank : Precedence → ℕ
rank Products = 2
rank Sums = 4
rank Relations = 6
rank Conjunctions = 9
rank Disjunctions = 11

abbrev pub decreases-more : goal.decreases-more
decreases-more l = 16 * length l.cursor.tokens.now + 1

abbrev pub decreases-operations : goal.decreases-operations
decreases-operations l = 16 * length l.cursor.tokens.now

abbrev pub decreases-climb : goal.decreases-climb
decreases-climb l = 16 * length l.cursor.tokens.now + 10

abbrev pub decreases-climb_from : goal.decreases-climb_from
decreases-climb_from l = 16 * length l.cursor.tokens.now + (2 + tightness (precedence_view l.precedence))

abbrev pub decreases-behind_reference : goal.decreases-behind_reference
decreases-behind_reference l = 16 * length l.cursor.tokens.now + 11

abbrev pub decreases-subscripts : goal.decreases-subscripts
decreases-subscripts l = 16 * length l.cursor.tokens.now

abbrev pub decreases-selector : goal.decreases-selector
decreases-selector l = 16 * length l.cursor.tokens.now

abbrev pub decreases-reference : goal.decreases-reference
decreases-reference l = 16 * length l.cursor.tokens.now + 1

abbrev pub decreases-location : goal.decreases-location
decreases-location l = 16 * length l.cursor.tokens.now

abbrev pub decreases-value : goal.decreases-value
decreases-value l = 16 * length l.cursor.tokens.now

abbrev pub decreases-values : goal.decreases-values
decreases-values l = 16 * length l.cursor.tokens.now + 1

abbrev pub decreases-primary : goal.decreases-primary
decreases-primary l = 16 * length l.cursor.tokens.now

abbrev pub decreases-signed : goal.decreases-signed
decreases-signed l = 16 * length l.cursor.tokens.now + 1

abbrev pub decreases-operand : goal.decreases-operand
decreases-operand l = 16 * length l.cursor.tokens.now + rank (precedence_view l.precedence)

abbrev pub decreases-binary : goal.decreases-binary
decreases-binary l = 16 * length l.cursor.tokens.now + (rank (precedence_view l.precedence) + 1)

abbrev pub decreases-whole : goal.decreases-whole
decreases-whole l = 16 * length l.cursor.tokens.now + 13

abbrev pub decreases-negation : goal.decreases-negation
decreases-negation l = 16 * length l.cursor.tokens.now + 8

abbrev pub decreases-parenthesised : goal.decreases-parenthesised
decreases-parenthesised l = 16 * length l.cursor.tokens.now + 15

abbrev pub decreases-closed : goal.decreases-closed
decreases-closed l = 16 * length l.cursor.tokens.now + 14

abbrev pub invariant-operations-loop-place : goal.invariant-operations-loop-place
invariant-operations-loop-place l = record {
  leads : (left : ExpressionT) (s : List Symbol) (v : List Value) → depth s + l.room ≡ 64
      → run 64 (Want (MoreG (precedence_view l.precedence)) ∷ s) (ExpressionR left ∷ v) (ahead l.fn.cursor)
      ≡ run 64 (Want (MoreG (precedence_view l.precedence)) ∷ s) (read_operations left l.list.items v) (ahead l.rest);
  shorter : length l.rest.tokens.now ≤ length l.fn.cursor.tokens.now;
}

abbrev pub decreases-operations-loop-place : goal.decreases-operations-loop-place
decreases-operations-loop-place l = length l.rest.tokens.now

abbrev pub invariant-subscripts-loop-after : goal.invariant-subscripts-loop-after
invariant-subscripts-loop-after l = record {
  leads : (n : NameT) (s : List Symbol) (v : List Value) → depth s + l.room ≡ 64
      → run 64 (Want SubscriptsG ∷ s) (reference_read n v) (ahead l.fn.cursor)
      ≡ run 64 (Want MoreSubscriptsG ∷ Leave ∷ Do set_subscripts ∷ s) (ExpressionsR (expressions_of l.list.items) ∷ reference_read n v) (ahead l.rest);
  inside : l.room ≡ suc l.inside;
  shorter : suc (length l.rest.tokens.now) ≤ length l.fn.cursor.tokens.now;
}

abbrev pub decreases-subscripts-loop-after : goal.decreases-subscripts-loop-after
decreases-subscripts-loop-after l = length l.rest.tokens.now

abbrev pub invariant-values-loop-after : goal.invariant-values-loop-after
invariant-values-loop-after l = record {
  leads : (s : List Symbol) (v : List Value) → depth s + l.room ≡ 64
      → run 64 (a_value_list s) v (ahead l.fn.cursor) ≡ run 64 (Want MoreValuesG ∷ s) (ValuesR (values_of l.list.items) ∷ v) (ahead l.rest);
  shorter : length l.rest.tokens.now ≤ length l.fn.cursor.tokens.now;
}

abbrev pub decreases-values-loop-after : goal.decreases-values-loop-after
decreases-values-loop-after l = length l.rest.tokens.now

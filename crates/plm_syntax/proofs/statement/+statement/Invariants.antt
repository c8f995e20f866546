use Rattle.std.proofs.Common.{◌≡◌, ◌∷◌, List, ◌+◌, ◌*◌, ◌≤◌, length, None}
use Rattle.plm_syntax.specs.Tree.{no_names, no_statements, no_items}
use Rattle.plm_syntax.specs.View.{base_of, names_of, statements_of, items_of}
use Rattle.plm_syntax.specs.Inner.Symbol.{Value, Symbol, depth, NamesR, StatementsR, ItemsR, Want, StatementG, StatementsG, ItemsG}
use Rattle.plm_syntax.specs.Inner.Machine.{run}
use Rattle.plm_syntax.specs.Inner.Parsed.{ahead}
use Rattle.plm_syntax.proofs.statement.+statement.Given as goal

abbrev pub decreases-condition : goal.decreases-condition
decreases-condition l = 8 * length l.cursor.tokens.now

abbrev pub decreases-group : goal.decreases-group
decreases-group l = 8 * length l.cursor.tokens.now

abbrev pub decreases-governed : goal.decreases-governed
decreases-governed l = 8 * length l.cursor.tokens.now

abbrev pub decreases-iterate : goal.decreases-iterate
decreases-iterate l = 8 * length l.cursor.tokens.now

abbrev pub decreases-basic : goal.decreases-basic
decreases-basic l = 8 * length l.cursor.tokens.now

abbrev pub decreases-statement : goal.decreases-statement
decreases-statement l = 8 * length l.cursor.tokens.now + 1

abbrev pub decreases-arm : goal.decreases-arm
decreases-arm l = 8 * length l.cursor.tokens.now + 2

abbrev pub decreases-statements : goal.decreases-statements
decreases-statements l = 8 * length l.cursor.tokens.now + 2

abbrev pub decreases-procedure : goal.decreases-procedure
decreases-procedure l = 8 * length l.cursor.tokens.now

abbrev pub decreases-item : goal.decreases-item
decreases-item l = 8 * length l.cursor.tokens.now

abbrev pub decreases-block : goal.decreases-block
decreases-block l = 8 * length l.cursor.tokens.now + 3

abbrev pub invariant-block-loop-items : goal.invariant-block-loop-items
invariant-block-loop-items l = record {
  leads : (s : List Symbol) (v : List Value) → depth s + l.room ≡ 64
      → run 64 (Want (ItemsG (base_of l.fn.label)) ∷ s) (ItemsR no_items ∷ v) (ahead l.fn.cursor) ≡ run 64 (Want (ItemsG (base_of l.fn.label)) ∷ s) (ItemsR (items_of l.items.items) ∷ v) (ahead l.rest);
  shorter : length l.rest.tokens.now ≤ length l.fn.cursor.tokens.now;
}

abbrev pub decreases-block-loop-items : goal.decreases-block-loop-items
decreases-block-loop-items l = length l.rest.tokens.now

abbrev pub invariant-statements-loop-after : goal.invariant-statements-loop-after
invariant-statements-loop-after l = record {
  leads : (s : List Symbol) (v : List Value) → depth s + l.room ≡ 64
      → run 64 (Want (StatementsG (base_of l.fn.label)) ∷ s) (StatementsR no_statements ∷ v) (ahead l.fn.cursor) ≡ run 64 (Want (StatementsG (base_of l.fn.label)) ∷ s) (StatementsR (statements_of l.list.items) ∷ v) (ahead l.rest);
  shorter : length l.rest.tokens.now ≤ length l.fn.cursor.tokens.now;
}

abbrev pub decreases-statements-loop-after : goal.decreases-statements-loop-after
decreases-statements-loop-after l = length l.rest.tokens.now

abbrev pub invariant-statement-loop-label : goal.invariant-statement-loop-label
invariant-statement-loop-label l = record {
  leads : (s : List Symbol) (v : List Value)
      → run 64 (Want (StatementG None) ∷ s) (NamesR no_names ∷ v) (ahead l.fn.cursor) ≡ run 64 (Want (StatementG (base_of l.last)) ∷ s) (NamesR (names_of l.labels.items) ∷ v) (ahead l.rest);
  shorter : length l.rest.tokens.now ≤ length l.fn.cursor.tokens.now;
}

abbrev pub decreases-statement-loop-label : goal.decreases-statement-loop-label
decreases-statement-loop-label l = length l.rest.tokens.now

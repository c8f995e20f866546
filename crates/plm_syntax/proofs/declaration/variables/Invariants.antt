use Rattle.std.proofs.Common.{◌≡◌, ◌∷◌, List, ◌≤◌, length}
use Rattle.plm_syntax.specs.Tree.{no_variables}
use Rattle.plm_syntax.specs.View.{variables_from}
use Rattle.plm_syntax.specs.Inner.Symbol.{Value, Symbol, VariablesR, Want, Do, VariableG, MoreVariablesG}
use Rattle.plm_syntax.specs.Inner.Machine.{add_variable, run}
use Rattle.plm_syntax.specs.Inner.Parsed.{ahead}
use Rattle.plm_syntax.proofs.declaration.variables.Given as goal

abbrev pub invariant-loop-after : goal.invariant-loop-after
invariant-loop-after l = record {
  leads : (s : List Symbol) (v : List Value)
      → run 64 (Want VariableG ∷ Do add_variable ∷ Want MoreVariablesG ∷ s) (VariablesR no_variables ∷ v) (ahead l.fn.cursor) ≡ run 64 (Want MoreVariablesG ∷ s) (VariablesR (variables_from l.list.items no_variables) ∷ v) (ahead l.rest);
  shorter : length l.rest.tokens.now ≤ length l.fn.cursor.tokens.now;
}

abbrev pub decreases-loop-after : goal.decreases-loop-after
decreases-loop-after l = length l.rest.tokens.now

use Rattle.std.proofs.Common.{◌≡◌, ◌∷◌, List, ◌+◌, ◌≤◌, length}
use Rattle.plm_syntax.specs.Tree.{no_elements}
use Rattle.plm_syntax.specs.View.{elements_of}
use Rattle.plm_syntax.specs.Inner.Symbol.{Value, Symbol, depth, ElementsR, Want, ElementG, MoreElementsG}
use Rattle.plm_syntax.specs.Inner.Machine.{run}
use Rattle.plm_syntax.specs.Inner.Parsed.{ahead}
use Rattle.plm_syntax.proofs.declaration.elements.Given as goal

abbrev pub invariant-loop-after : goal.invariant-loop-after
invariant-loop-after l = record {
  leads : (s : List Symbol) (v : List Value) → depth s + l.room ≡ 64
      → run 64 (Want ElementG ∷ Want MoreElementsG ∷ s) (ElementsR no_elements ∷ v) (ahead l.fn.cursor) ≡ run 64 (Want MoreElementsG ∷ s) (ElementsR (elements_of l.list.items) ∷ v) (ahead l.rest);
  shorter : length l.rest.tokens.now ≤ length l.fn.cursor.tokens.now;
}

abbrev pub decreases-loop-after : goal.decreases-loop-after
decreases-loop-after l = length l.rest.tokens.now

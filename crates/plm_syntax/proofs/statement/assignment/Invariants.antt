use Rattle.std.proofs.Common.{◌≡◌, ◌∷◌, ◌++◌, [], List, ◌+◌, ◌≤◌, length}
use Rattle.plm_syntax.specs.declared.tree.Reference.{Reference}
use Rattle.plm_syntax.specs.Tree.{NamesT, no_references}
use Rattle.plm_syntax.specs.View.{name_of, references_from}
use Rattle.plm_syntax.specs.Inner.Symbol.{Value, Symbol, depth, NamesR, ReferencesR, Want, SubscriptsG, SelectorG, MoreTargetsG}
use Rattle.plm_syntax.specs.Inner.Machine.{run}
use Rattle.plm_syntax.specs.Inner.Parsed.{ahead}
use Rattle.plm_syntax.specs.Inner.Parts.{reference_read, read_reference}
use Rattle.plm_syntax.proofs.statement.assignment.Given as goal

-- the last target is not yet among those that the run has
abbrev pub invariant-loop-after : goal.invariant-loop-after
invariant-loop-after l =
    (before : List Reference) × (last : Reference) × (l.targets.items ≡ before ++ last ∷ [])
    × ((ls : NamesT) (s : List Symbol) (v : List Value) → depth s + l.room ≡ 64
    → run 64 (Want SubscriptsG ∷ Want SelectorG ∷ Want MoreTargetsG ∷ s) (reference_read (name_of l.fn.name) (ReferencesR no_references ∷ NamesR ls ∷ v)) (ahead l.fn.cursor)
    ≡ run 64 (Want MoreTargetsG ∷ s) (read_reference last (ReferencesR (references_from before no_references) ∷ NamesR ls ∷ v)) (ahead l.rest))
    × (length l.rest.tokens.now ≤ length l.fn.cursor.tokens.now)

abbrev pub decreases-loop-after : goal.decreases-loop-after
decreases-loop-after l = length l.rest.tokens.now

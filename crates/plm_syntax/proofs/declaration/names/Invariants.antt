use Rattle.std.proofs.Common.{◌≡◌, ◌∷◌, [], List, ◌≤◌, length}
use Rattle.plm_syntax.specs.Terminal.{NameT}
use Rattle.plm_syntax.specs.Tree.{no_names}
use Rattle.plm_syntax.specs.View.{names_of}
use Rattle.plm_syntax.specs.Inner.Symbol.{Value, Symbol, NamesR, Want, MemberNameG, MoreMemberNamesG, ParameterG, MoreParametersG}
use Rattle.plm_syntax.specs.Inner.Machine.{run}
use Rattle.plm_syntax.specs.Inner.Parsed.{ahead}
use Rattle.plm_syntax.specs.Inner.Parts.{read_parameters}
use Rattle.plm_syntax.proofs.declaration.names.Given as goal

abbrev pub invariant-loop-after : goal.invariant-loop-after
invariant-loop-after l = record {
  members : (s : List Symbol) (v : List Value)
      → run 64 (Want MemberNameG ∷ Want MoreMemberNamesG ∷ s) (NamesR no_names ∷ v) (ahead l.fn.cursor) ≡ run 64 (Want MoreMemberNamesG ∷ s) (NamesR (names_of l.list.items) ∷ v) (ahead l.rest);
  parameters : (n : NameT) (s : List Symbol) (v : List Value)
      → run 64 (Want ParameterG ∷ Want MoreParametersG ∷ s) (read_parameters n [] v) (ahead l.fn.cursor) ≡ run 64 (Want MoreParametersG ∷ s) (read_parameters n l.list.items v) (ahead l.rest);
  shorter : length l.rest.tokens.now ≤ length l.fn.cursor.tokens.now;
}

abbrev pub decreases-loop-after : goal.decreases-loop-after
decreases-loop-after l = length l.rest.tokens.now

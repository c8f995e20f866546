use Rattle.std.specs.Prelude.{◌++◌, List, map, length}
use Rattle.word86.specs.declared.fault.Fault.{Fault}
use Rattle.plm_token.specs.Scanner.{lexemes}
use Rattle.plm_syntax.specs.Tree.{ModuleT}
use Rattle.plm_syntax.specs.View.{module_of}
use Rattle.plm86.specs.Build.{AreTrees, IsFirstUnparsed}
use Rattle.plm86.proofs.build.parse_all.Given as goal

abbrev pub invariant-loop-tokens : goal.invariant-loop-tokens
invariant-loop-tokens l = record {
  parsed : (behind : List ModuleT) → AreTrees (map (λ t. lexemes t.items) l.tokens-iterator.rest.items) behind → AreTrees (map (λ t. lexemes t.items) l.fn.scanned.items) (map module_of l.modules.items ++ behind);
  unparsed : (f : Fault) → IsFirstUnparsed (length l.modules.items) (map (λ t. lexemes t.items) l.tokens-iterator.rest.items) f → IsFirstUnparsed 0 (map (λ t. lexemes t.items) l.fn.scanned.items) f;
}

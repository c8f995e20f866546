use Rattle.std.proofs.Common.{◌≡◌, map, drop}
use Rattle.plm_syntax.specs.View.{module_of}
use Rattle.plm_decl.specs.Inner.Resolver.{known_of}
use Rattle.plm_decl.specs.Resolver.{nothing_known}
use Rattle.plm_decl.specs.Joins.{modules_from}
use Rattle.plm_decl.proofs.modules.walked.Given as goal

abbrev pub invariant-loop-number : goal.invariant-loop-number
invariant-loop-number l =
    modules_from l.number (map module_of (drop l.number l.modules)) (known_of l.resolver) ≡ modules_from 0 (map module_of l.modules) nothing_known

use Rattle.std.proofs.Common.{◌≡◌, ℕ, ◌<◌, ◌↔◌, length, map}
use Rattle.plm_decl.specs.Names.{procedure_of}
use Rattle.plm_type.specs.Inner.Reach.{IsMarked}
use Rattle.plm_type.specs.Interrupts as spec
use Rattle.plm_type.proofs.interrupts.reaching.Given as goal

abbrev pub invariant-loop-number : goal.invariant-loop-number
invariant-loop-number l =
    record {
      long : length l.reaching.items ≡ l.number;
      exact : (p : ℕ) → p < l.number → IsMarked l.reaching.items p ↔ spec.LetsIn (map procedure_of l.procedures) p;
    }

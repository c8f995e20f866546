use Rattle.std.proofs.Common.{◌≡◌, drop, map, fold}
use Rattle.plm_syntax.specs.Literals.{nothing_out}
use Rattle.plm_syntax.specs.Inner.Literals.{out_of, source_view, out_with_text}
use Rattle.plm_syntax.proofs.literals.replaced.Given as goal

abbrev pub invariant-loop-source : goal.invariant-loop-source
invariant-loop-source l =
    fold (λ o p. out_with_text p o) nothing_out (map source_view l.sources) ≡ fold (λ o p. out_with_text p o) (out_of l.expander) (map source_view (drop l.source-index l.sources))

use Rattle.std.specs.Prelude.{◌≡◌, ◌++◌, map, drop}
use Rattle.plm_token.specs.Scanner.{lexemes}
use Rattle.plm86.specs.Build.{text_of, scan_faults, tokens_of}
use Rattle.plm86.proofs.build.scan_all.Given as goal

abbrev pub invariant-loop-ordinal : goal.invariant-loop-ordinal
invariant-loop-ordinal l = record {
  says : scan_faults 0 (map text_of l.fn.sources) ≡ scan_faults l.ordinal (map text_of (drop l.ordinal l.sources));
  tokens : map tokens_of (map text_of l.fn.sources) ≡ map (λ t. lexemes t.items) l.scanned.items ++ map tokens_of (map text_of (drop l.ordinal l.sources));
}

use Rattle.std.proofs.Common.{◌≡◌, ◌++◌, ◌&&◌, map, drop}
use Rattle.plm_syntax.specs.View.{value_of}
use Rattle.plm_decl.specs.Expressions.{all_constant_data, are_constants}
use Rattle.plm_decl.proofs.resolver.Resolver.constant_values.Given as goal

abbrev pub invariant-loop-value : goal.invariant-loop-value
invariant-loop-value l = record {
  bytes : l.bytes.items ++ all_constant_data (map value_of (drop l.value-index l.values)) ≡ all_constant_data (map value_of l.values);
  fit : (l.are_bytes && are_constants (map value_of (drop l.value-index l.values))) ≡ are_constants (map value_of l.values);
}

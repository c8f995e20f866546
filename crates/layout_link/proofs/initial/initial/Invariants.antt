use Rattle.std.proofs.Common.{◌≡◌, ◌+◌, ◌<◌, ◌++◌, drop, length}
use Rattle.layout_link.specs.Initial.{HaveBytes, joined, stretches, data_tasks, copied_bytes}
use Rattle.layout_link.proofs.initial.initial.Given as goal

abbrev pub invariant-loop-k : goal.invariant-loop-k
invariant-loop-k l = record {
  tasks : l.fn.tasks.items ++ data_tasks 0 0 (stretches l.offsets l.names.variables.items 0 l.names.objects.items)
      ≡ l.tasks.items ++ data_tasks (length l.bytes.items) l.copies (joined l.stretch.to l.stretch.bytes.items (stretches l.offsets l.names.variables.items l.k (drop l.k l.names.objects.items)));
  bytes : copied_bytes 0 (stretches l.offsets l.names.variables.items 0 l.names.objects.items)
      ≡ l.bytes.items ++ copied_bytes l.copies (joined l.stretch.to l.stretch.bytes.items (stretches l.offsets l.names.variables.items l.k (drop l.k l.names.objects.items)));
  small : HaveBytes l.offsets l.names.variables.items (drop l.k l.names.objects.items) → HaveBytes l.offsets l.names.variables.items l.names.objects.items;
  within : l.stretch.to + length l.stretch.bytes.items < 65536;
}

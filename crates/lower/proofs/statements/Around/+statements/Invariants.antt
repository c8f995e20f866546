use Rattle.std.proofs.Common.{◌≡◌, ◌+◌, ◌++◌, length, map, vec_items, reverse, drop}
use Rattle.plm_type.specs.View.{statements_of, procedures_of}
use Rattle.lower.specs.Statements.{all_of, statements_code, cases_code}
use Rattle.lower.proofs.statements.Around.+statements.Given as goal

abbrev pub invariant-statements-loop-k : goal.invariant-statements-loop-k
invariant-statements-loop-k l =
    let ps = procedures_of l.self.callees.procedures.now in
    l.code.items ++ statements_code ps l.self.kind l.exit (statements_of (drop l.k l.body)) ≡ l.initial.code.items ++ statements_code ps l.self.kind l.exit (statements_of l.body)

abbrev pub invariant-each_case-loop-k : goal.invariant-each_case-loop-k
invariant-each_case-loop-k l =
    let ps = procedures_of l.self.callees.procedures.now in
    let others = cases_code ps l.self.kind l.exit (statements_of (drop l.k l.cases)) in
    record {
      coded : map vec_items l.codes.items ≡ reverse others;
      passed : l.behind ≡ length (all_of others) + l.exit;
    }

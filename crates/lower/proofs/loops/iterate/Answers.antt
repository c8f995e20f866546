use Rattle.std.proofs.Common.{◌≡◌, ◌+◌, ◌++◌, ◌∷◌, Bool, OnOk, length, ap, subst, sym, ◌∙◌, arith, rules}
use Rattle.plm_type.specs.View.{expression_of, procedures_of, scalar_of}
use Rattle.icode.specs.declared.instruction.Instruction.TheVariants as op
use Rattle.icode.specs.declared.instruction.Relation.{Relation}
use Rattle.lower.specs.Expressions.{Name, place_of, operand_of, beside, expression_code}
use Rattle.lower.specs.Statements.{counts_bytes, index_read, within}
use Rattle.lower.specs.Conditions.{compared, named, unless_named, compared_by}
use Rattle.lower.specs.LowBytes.{low_code}
use Rattle.lower.proofs.Trees.{same_place}
use Rattle.lower.proofs.Known.{iterated}
use Rattle.lower.proofs.loops.iterate.Goals as goal

pub returns-clause-code : goal.returns-clause-code
returns-clause-code c =
    let ps = procedures_of c.args.callees.procedures.now in
    let r = c.args.rounds.now in
    let x = scalar_of r.index in
    let o = r.counting in
    let b = expression_of r.bound in
    let step = expression_of r.step in
    let body = c.args.body.now in
    let bytes = counts_bytes x b in
    let low = beside (operand_of b) (low_code ps b) in
    let whole = beside (operand_of b) (expression_code ps b) in
    let index = Name x.width (place_of x.place) in
    let narrow : c.counts_bytes-bytes.result ≡ bytes = c.counts_bytes-bytes.ensures in
    let relation = c.within-relation.result in
    let code = λ (y : Bool) (q : Relation). unless_named (named y q index (operand_of b)) (index_read y x ∷ compared y low whole) in
    let asks : c.bound_test.new.code.items ≡ code bytes (within o) =
    c.in_ok-test.ensures.code ∙ ap (λ l. l ++ code c.counts_bytes-bytes.result relation) c.new-asked.ensures.items ∙ ap (λ y. code y relation) narrow ∙ ap (code bytes) c.within-relation.ensures in
    let tests = c.in_ok-test.ensures.test ∙ ap (λ y. compared_by y relation index (operand_of b)) narrow ∙ ap (λ q. compared_by bytes q index (operand_of b)) c.within-relation.ensures in
    let count : c.len.result ≡ length c.bound_test.new.code.items = search rules in
    let far : c.in_ok-before.before ≡ length c.deref.result.now + length body + 1 = omega (arith, c.in_ok-before.ensures.sum, c.in_ok-distance.ensures.sum, count, ap length c.deref.ensures.value) in
    let is = iterated o x (operand_of b) (operand_of step) (compared bytes low whole) (expression_code ps step) body c.args.code.now.items c.put.new.code.items c.deref.result.now c.deref-2.result.now (op.Store r.index.width r.index.place) bytes c.in_ok-test.test
    c.in_ok-before.before c.args.exit c.in_ok-put.ensures.code (sym (ap (op.Store r.index.width) (same_place r.index.place))) (c.deref.ensures.value ∙ asks) tests (c.deref-2.ensures.value ∙ c.in_ok-again.ensures.code) far in
    subst (λ l. OnOk c.count.result (c.count.new.code.items ≡ l)) is c.count.ensures.code

use Rattle.std.proofs.Common.{◌≡◌, ◌++◌, [], ◌∷◌, append-nil, length, length-append, map, drop, ap, ◌∙◌, sym, rules, Bor}
use Rattle.std.specs.Iterator.Adapters.{zip_first, zip_second}
use Rattle.std.specs.Slice.Iter.{iter_rest}
use Rattle.std.proofs.lemmas.Slice.Zip.{zip_turn, Zip-so_far, either_empty_from_Zip}
use Rattle.plm_decl.specs.declared.names.Procedure.{Procedure}
use Rattle.plm_decl.specs.Names.{procedure_of}
use Rattle.plm_type.specs.declared.program.Procedure as typed
use Rattle.plm_type.specs.View.{statements_of, procedures_of}
use Rattle.lower.specs.Inner.Lowering.{plain, one_lowered, all_lowered}
use Rattle.lower.proofs.Procedures.{one_more, nothing_left}
use Rattle.lower.proofs.statements.Around.all.Goals as goal

pub loop-declared-preserved : goal.loop-declared-preserved
loop-declared-preserved c =
    let ts = c.args.self.callees.procedures.now in
    let ds = c.args.names.now.procedures.items in
    let ps = procedures_of ts in
    let pair : Bor Procedure × Bor typed.Procedure = (c.in-Some.declared, c.in-Some.procedure) in
    let s = c.into_iter-declared-iterator.result in
    let first : iter_rest (zip_first s) ≡ ds = search rules in
    let second : iter_rest (zip_second s) ≡ ts = search rules in
    let turn = zip_turn ds ts c.loop-declared.yielded s c.loop-declared.declared-iterator c.next.new.self c.next.result first second c.loop-declared.yielded_by pair c.in-Some.is c.next.ensures.steps in
    let made = c.in_ok-procedure.ensures.code ∙ ap (λ b. one_lowered ps (procedure_of c.in-Some.declared.now) (statements_of b)) c.deref-in-loop-declared.ensures.value in
    let m = length (c.loop-declared.yielded ++ pair ∷ []) in
    ap (λ qs. map plain qs ++ all_lowered ps (map procedure_of (drop m ds)) (procedures_of (drop m ts))) c.in_ok-push.ensures.items
    ∙ one_more ps ds ts (length c.loop-declared.yielded) m c.in-Some.declared.now c.in-Some.procedure.now c.loop-declared.procedures.items c.in_ok-procedure.field-0
    turn.0 turn.1 (turn.2 c.in-Some.declared.now) (turn.3 c.in-Some.procedure.now) (length-append c.loop-declared.yielded (pair ∷ [])) made
    ∙ c.loop-declared.invariant

pub returns-clause-code : goal.returns-clause-code
returns-clause-code c =
    let ts = c.args.self.callees.procedures.now in
    let ds = c.args.names.now.procedures.items in
    let ps = procedures_of ts in
    let n = length c.loop-declared.yielded in
    let s = c.into_iter-declared-iterator.result in
    let t = c.loop-declared.declared-iterator in
    let first : iter_rest (zip_first s) ≡ ds = search rules in
    let second : iter_rest (zip_second s) ≡ ts = search rules in
    let far = Zip-so_far c.loop-declared.yielded s t c.loop-declared.yielded_by in
    let ended = either_empty_from_Zip t c.next.new.self c.next.result c.in-None.is c.next.ensures.steps in
    let left = nothing_left ps ds ts n (iter_rest (zip_first t)) (iter_rest (zip_second t)) (far.0 ∙ ap (drop n) first) (far.1 ∙ ap (drop n) second) ended in
    sym (append-nil (map plain c.loop-declared.procedures.items)) ∙ ap (λ qs. map plain c.loop-declared.procedures.items ++ qs) (sym left) ∙ c.loop-declared.invariant

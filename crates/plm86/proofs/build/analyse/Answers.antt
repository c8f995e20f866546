use Rattle.std.specs.Prelude.{map}
use Rattle.std.proofs.Common.{rules}
use Rattle.std.proofs.lemmas.Result.{IfOk-weaker, IfErr-weaker}
use Rattle.plm_syntax.specs.View.{module_of}
use Rattle.plm86.specs.Build.{text_of, AreDeclared}
use Rattle.plm86.proofs.Phases.{modules_are, unresolved_refused, untyped_refused, program_typed}
use Rattle.plm86.proofs.build.analyse.Goals as goal

pub returns-in_err-names-clause-refused : goal.returns-in_err-names-clause-refused
returns-in_err-names-clause-refused c =
    let texts = map text_of c.args.sources.now in
    let are = modules_are texts c.in_ok-scanned.scanned.items c.in_ok-modules.modules.items c.deref.result.now c.in_ok-scanned.ensures.says c.in_ok-scanned.ensures.tokens c.in_ok-modules.ensures c.deref.ensures.value in
    let said = unresolved_refused texts (map module_of c.deref.result.now) are c.in_err-names.field-0.0 c.in_err-names.ensures.refused in
    search rules

pub returns-clause-typed : goal.returns-clause-typed
returns-clause-typed c =
    let texts = map text_of c.args.sources.now in
    let are = modules_are texts c.in_ok-scanned.scanned.items c.in_ok-modules.modules.items c.deref.result.now c.in_ok-scanned.ensures.says c.in_ok-scanned.ensures.tokens c.in_ok-modules.ensures c.deref.ensures.value in
    let declared : AreDeclared texts c.in_ok-names.names = record { trees = map module_of c.deref.result.now; modules = are; declared = c.in_ok-names.ensures.names } in
    IfOk-weaker c.check.result _ _ (λ p said. program_typed texts c.in_ok-names.names p declared said) c.check.ensures.typed

pub returns-clause-refused : goal.returns-clause-refused
returns-clause-refused c =
    let texts = map text_of c.args.sources.now in
    let are = modules_are texts c.in_ok-scanned.scanned.items c.in_ok-modules.modules.items c.deref.result.now c.in_ok-scanned.ensures.says c.in_ok-scanned.ensures.tokens c.in_ok-modules.ensures c.deref.ensures.value in
    let declared : AreDeclared texts c.in_ok-names.names = record { trees = map module_of c.deref.result.now; modules = are; declared = c.in_ok-names.ensures.names } in
    IfErr-weaker c.check.result _ _ (λ f said. untyped_refused texts c.in_ok-names.names declared f said) c.check.ensures.refused

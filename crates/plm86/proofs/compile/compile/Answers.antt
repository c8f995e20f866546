use Rattle.std.proofs.Common.{◌≡◌, ◌<◌, ◌⊎◌, subst, rules}
use Rattle.std.specs.Prelude.{IfOk, IfErr}
use Rattle.word86.specs.declared.fault.Fault.TheVariants.{Memory, At}
use Rattle.word86.specs.declared.number.Number.TheVariants.{E601}
use Rattle.plm_type.specs.Checked.{AreTyped}
use Rattle.layout_link.specs.Image.{bytes_in}
use Rattle.layout_link.specs.Linker.{needed}
use Rattle.plm86.specs.Inner.Compiling.{IsLinked}
use Rattle.plm86.proofs.Composition.Exactly.{lacks_memory, lacks_stack, lacks_rom}
use Rattle.plm86.proofs.Composition.Linked.{is_image, does_fit}
use Rattle.plm86.proofs.Composition.Refused.{of_memory, of_count, of_answer}
use Rattle.plm86.proofs.compile.compile.Goals as goal

pub returns-clause-image : goal.returns-clause-image
returns-clause-image c =
    let promises = c.layers_keep_their_promises.ensures in
    let names = c.args.program.now.names in
    let same = c.names-names.ensures.names in
    let typed : AreTyped c.args.program.now names = subst (AreTyped c.args.program.now) same c.names-names.ensures.typed in
    let stack = c.in_ok-stack.stack in
    let parts = c.in_ok-parts.parts.items in
    let counted = c.in_ok-stack.ensures in
    let r = c.assemble.result in
    let linked = subst (λ n. IfOk r (IsLinked n parts stack c.args.size)) same c.assemble.ensures.linked in
    is_image promises c.args.program.now names typed c.in_ok-code.code c.in_ok-code.ensures.lowered stack counted.counted counted.fits counted.runs parts c.in_ok-parts.ensures.parts c.args.size r linked

pub returns-clause-refused : goal.returns-clause-refused
returns-clause-refused c =
    let promises = c.layers_keep_their_promises.ensures in
    let names = c.args.program.now.names in
    let same = c.names-names.ensures.names in
    let typed : AreTyped c.args.program.now names = subst (AreTyped c.args.program.now) same c.names-names.ensures.typed in
    let parts = c.in_ok-parts.parts.items in
    let r = c.assemble.result in
    let full = subst (λ n. IfErr r (λ f. (f ≡ Memory) ⊎ ((f ≡ At 0 1 E601) × (bytes_in c.args.size < needed n parts)))) same c.assemble.ensures.full in
    of_answer names c.args.size c.in_ok-code.code c.in_ok-code.ensures.lowered parts c.in_ok-parts.ensures.parts (promises.room c.args.program.now names typed (promises.well_formed c.args.program.now names typed)) promises.parts_room r full

pub returns-in_err-code-clause-refused : goal.returns-in_err-code-clause-refused
returns-in_err-code-clause-refused c = let said = of_memory c.args.program.now.names c.args.size c.in_err-code.field-0.0 c.in_err-code.ensures.memory in search rules

pub returns-in_err-stack-clause-refused : goal.returns-in_err-stack-clause-refused
returns-in_err-stack-clause-refused c =
    let promises = c.layers_keep_their_promises.ensures in
    let names = c.args.program.now.names in
    let typed : AreTyped c.args.program.now names = subst (AreTyped c.args.program.now) c.names-names.ensures.names c.names-names.ensures.typed in
    let sound = promises.sound names (promises.well_formed c.args.program.now names typed) in
    let said = of_count names c.args.size c.in_ok-code.code c.in_ok-code.ensures.lowered sound promises.heights promises.few_calls_fit c.in_err-stack.field-0.0 c.in_err-stack.ensures.refused in
    search rules

pub returns-in_err-parts-clause-refused : goal.returns-in_err-parts-clause-refused
returns-in_err-parts-clause-refused c = let said = of_memory c.args.program.now.names c.args.size c.in_err-parts.field-0.0 c.in_err-parts.ensures.memory in search rules

pub returns-clause-fits : goal.returns-clause-fits
returns-clause-fits c =
    let promises = c.layers_keep_their_promises.ensures in
    let names = c.args.program.now.names in
    let same = c.names-names.ensures.names in
    let typed : AreTyped c.args.program.now names = subst (AreTyped c.args.program.now) same c.names-names.ensures.typed in
    let stack = c.in_ok-stack.stack in
    let parts = c.in_ok-parts.parts.items in
    let counted = c.in_ok-stack.ensures in
    let r = c.assemble.result in
    let linked = subst (λ n. IfOk r (IsLinked n parts stack c.args.size)) same c.assemble.ensures.linked in
    does_fit promises c.args.program.now names typed c.in_ok-code.code c.in_ok-code.ensures.lowered stack counted.counted counted.fits counted.runs parts c.in_ok-parts.ensures.parts c.args.size r linked

pub returns-clause-exact : goal.returns-clause-exact
returns-clause-exact c =
    let names = c.args.program.now.names in
    let same = c.names-names.ensures.names in
    let stack = c.in_ok-stack.stack in
    let counted = c.in_ok-stack.ensures in
    let parts = c.in_ok-parts.parts.items in
    let r = c.assemble.result in
    let full = subst (λ n. IfErr r (λ f. (f ≡ Memory) ⊎ ((f ≡ At 0 1 E601) × (bytes_in c.args.size < needed n parts)))) same c.assemble.ensures.full in
    lacks_rom names c.args.size c.in_ok-code.code c.in_ok-code.ensures.lowered stack.main stack.handler counted.counted counted.fits parts c.in_ok-parts.ensures.parts r full

pub returns-in_err-code-clause-exact : goal.returns-in_err-code-clause-exact
returns-in_err-code-clause-exact c = let said = lacks_memory c.args.program.now.names c.args.size c.in_err-code.field-0.0 c.in_err-code.ensures.memory in search rules

pub returns-in_err-stack-clause-exact : goal.returns-in_err-stack-clause-exact
returns-in_err-stack-clause-exact c =
    let said = lacks_stack c.args.program.now.names c.args.size c.in_ok-code.code c.in_ok-code.ensures.lowered c.in_err-stack.field-0.0 c.in_err-stack.ensures.refused in
    search rules

pub returns-in_err-parts-clause-exact : goal.returns-in_err-parts-clause-exact
returns-in_err-parts-clause-exact c = let said = lacks_memory c.args.program.now.names c.args.size c.in_err-parts.field-0.0 c.in_err-parts.ensures.memory in search rules

use Rattle.std.specs.Prelude.{map}
use Rattle.std.proofs.Common.{rules}
use Rattle.plm86.specs.Build.{text_of}
use Rattle.plm86.proofs.Phases.{faulty_refused, faulty_refused_exactly, compile_refused, compile_refused_exactly, compile_fits, compile_built}
use Rattle.plm86.proofs.build.build_program.Goals as goal

pub returns-in_err-program-clause-refused : goal.returns-in_err-program-clause-refused
returns-in_err-program-clause-refused c =
    let said = faulty_refused (map text_of c.args.sources.now) c.args.size c.in_err-program.field-0.0 c.in_err-program.ensures.refused in
    search rules

pub returns-in_err-image-clause-refused : goal.returns-in_err-image-clause-refused
returns-in_err-image-clause-refused c =
    let said = compile_refused (map text_of c.args.sources.now) c.args.size c.in_ok-program.program.names c.in_ok-program.ensures.typed c.in_err-image.field-0.0 c.in_err-image.ensures.refused in
    search rules

pub returns-clause-built : goal.returns-clause-built
returns-clause-built c =
    compile_built (map text_of c.args.sources.now) c.args.size c.in_ok-program.program.names c.in_ok-program.ensures.typed c.in_ok-image.image c.in_ok-image.ensures.image

pub returns-in_err-program-clause-exact : goal.returns-in_err-program-clause-exact
returns-in_err-program-clause-exact c =
    let said = faulty_refused_exactly (map text_of c.args.sources.now) c.args.size c.in_err-program.field-0.0 c.in_err-program.ensures.refused in
    search rules

pub returns-in_err-image-clause-exact : goal.returns-in_err-image-clause-exact
returns-in_err-image-clause-exact c =
    let said = compile_refused_exactly (map text_of c.args.sources.now) c.args.size c.in_ok-program.program.names c.in_ok-program.ensures.typed c.in_err-image.field-0.0 c.in_err-image.ensures.exact in
    search rules

pub returns-clause-fits : goal.returns-clause-fits
returns-clause-fits c =
    compile_fits (map text_of c.args.sources.now) c.args.size c.in_ok-program.program.names c.in_ok-program.ensures.typed c.in_ok-image.image c.in_ok-image.ensures.fits

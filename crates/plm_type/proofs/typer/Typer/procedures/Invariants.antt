use Rattle.std.proofs.Common.{◌≡◌, drop, map}
use Rattle.plm_decl.specs.Names.{procedure_of}
use Rattle.plm_type.specs.Inner.Typer.{variables, procedures, sizes, noted_after}
use Rattle.plm_type.specs.Statements.{typed_procedures}
use Rattle.plm_type.specs.View as view
use Rattle.plm_type.proofs.Lists.{mapped_before}
use Rattle.plm_type.proofs.typer.Typer.procedures.Given as goal

abbrev pub invariant-loop-procedure : goal.invariant-loop-procedure
invariant-loop-procedure l =
    let ps = procedures l.self in
    let all = typed_procedures (variables l.self) ps (sizes l.self) in
    mapped_before view.procedure_of l.typed.items l.faults.items (all (map procedure_of (drop l.procedure-index l.procedure-items))) ≡ noted_after l.initial.faults.items (all ps)

-- As many procedures are typed as are declared.
use Rattle.std.proofs.Common.{◌≡◌, List, length, map, sym, ap, ◌∙◌}
use Rattle.std.proofs.lemmas.List.{length-map}
use Rattle.plm_decl.specs.declared.names.Names.{Names}
use Rattle.plm_decl.specs.Names.{procedure_of}
use Rattle.plm_type.specs.declared.program.Procedure as declared
use Rattle.plm_type.specs.Programs.{declared_procedures, procedures_of}
use Rattle.plm_type.specs.View as view

pub as_many_procedures : (names : Names) (given made : List declared.Procedure) → given ≡ made → map view.procedure_of made ≡ procedures_of names → length given ≡ length names.procedures.items
as_many_procedures names given made same typed =
    ap length same ∙ sym (length-map made view.procedure_of) ∙ ap length typed ∙ length-map (declared_procedures names) _ ∙ length-map names.procedures.items procedure_of

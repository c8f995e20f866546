use Rattle.std.proofs.Common.{sym, subst, ap, ◌∙◌}
use Rattle.i86_code.specs.declared.form.Form.{Form}
use Rattle.i86_code.specs.Forms.{FieldsFit, form_bytes}
use Rattle.i86_code.proofs.WrittenForms.{written}
use Rattle.i86_code.proofs.BestForms.{written_best}
use Rattle.i86_code.proofs.coding.encode.Goals as goal

pub bytes-requires : goal.bytes-requires
bytes-requires c = subst (λ (f : Form). FieldsFit f.fields) (sym c.of-form.ensures) (written c.pair_laws.ensures.bytes c.pair_laws.ensures.words c.args.instruction.now c.instruction_fits.ensures).fits

pub returns-clause-best : goal.returns-clause-best
returns-clause-best c = written_best c.pair_laws.ensures.bytes c.pair_laws.ensures.words c.args.instruction.now _ c.instruction_fits.ensures (c.bytes.ensures ∙ ap form_bytes c.of-form.ensures)

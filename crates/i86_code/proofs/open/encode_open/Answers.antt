use Rattle.std.proofs.Common.{sym, subst, ap, ◌∙◌}
use Rattle.i86_code.specs.declared.form.Form.{Form}
use Rattle.i86_code.specs.Forms.{FieldsFit, form_bytes}
use Rattle.i86_code.proofs.OpenAgain.{open_fits, open_spelling, is_open}
use Rattle.i86_code.proofs.open.encode_open.Goals as goal

pub bytes-requires : goal.bytes-requires
bytes-requires c = subst (λ (f : Form). FieldsFit f.fields) (sym c.open_form.ensures) (open_fits c.args.instruction c.args.number c.constant_fits.ensures c.ranges.number.fits)

pub returns-clause-bytes : goal.returns-clause-bytes
returns-clause-bytes c = c.bytes.ensures ∙ ap form_bytes c.open_form.ensures ∙ open_spelling c.args.instruction c.args.number

pub returns-clause-whatever_number : goal.returns-clause-whatever_number
returns-clause-whatever_number c = is_open c.args.instruction c.constant_fits.ensures

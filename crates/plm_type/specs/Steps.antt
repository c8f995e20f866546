-- The step of a DO with an index.
use Rattle.std.specs.Prelude.{ℕ, Bool, true, false, ◌&&◌, nat_lt, nat_le, cond, Option, Some, None, option_map}
use Rattle.word86.specs.declared.number.Number.TheVariants.{E401}
use Rattle.plm_syntax.specs.declared.tree.Position.{Position}
use Rattle.plm_syntax.specs.declared.tree.UnaryOperator.TheVariants as sign
use Rattle.plm_syntax.specs.Terminal.{NumeralT}
use Rattle.plm_decl.specs.Datum.{signed}
use Rattle.plm_decl.specs.Resolved.{ExpressionR, NumberR, TextR, ReferenceR, LocationR, ParenthesisedR, EmbeddedR, UnaryR, BinaryR}
use Rattle.plm_type.specs.declared.steps.SignedStep.{SignedStep}
use Rattle.plm_type.specs.declared.program.Counting.{Counting}
use Rattle.plm_type.specs.declared.program.Counting.TheVariants as counting
use Rattle.plm_type.specs.Rest.{Expression, Constant}
use Rattle.plm_type.specs.Faults.{fault_unless}
use Rattle.plm_type.specs.Typer.{TypedStep, Noted}

-- ---- with an INTEGER index: a number, perhaps after one sign

abbrev pub number_alone : ExpressionR → Option NumeralT
number_alone (NumberR n) = Some n
number_alone (TextR p cs) = None
number_alone (ReferenceR x) = None
number_alone (LocationR l) = None
number_alone (ParenthesisedR p e) = None
number_alone (EmbeddedR p x e) = None
number_alone (UnaryR p o e) = None
number_alone (BinaryR p o a b) = None

abbrev pub with_its_sign : (negative : Bool) → NumeralT → SignedStep
with_its_sign negative n = record { negative = negative; value = n.value; place = n.place }

abbrev pub signed_step : ExpressionR → Option SignedStep
signed_step (NumberR n) = Some (with_its_sign false n)
signed_step (TextR p cs) = None
signed_step (ReferenceR x) = None
signed_step (LocationR l) = None
signed_step (ParenthesisedR p e) = None
signed_step (EmbeddedR p x e) = None
signed_step (UnaryR p sign.Plus e) = option_map (with_its_sign false) (number_alone e)
signed_step (UnaryR p sign.Minus e) = option_map (with_its_sign true) (number_alone e)
signed_step (UnaryR p sign.Not e) = None
signed_step (BinaryR p o a b) = None

abbrev pub step_fits : SignedStep → Bool
step_fits s = nat_le s.value (cond s.negative 32768 32767)

-- it is one constant with its sign
abbrev pub step_value : SignedStep → ℕ
step_value s = cond (step_fits s) (signed s.negative 65536 s.value) 0

abbrev pub counting_by : SignedStep → Counting
counting_by s = cond (s.negative && nat_lt 0 s.value) counting.SignedDown counting.SignedUp

abbrev pub integer_step : (module_index : ℕ) → Position → Option SignedStep → TypedStep
integer_step module_index p None = record { tree = Constant 0; counting = counting.SignedUp; faults = fault_unless module_index false E401 p }
integer_step module_index p (Some s) = record { tree = Constant (step_value s); counting = counting_by s; faults = fault_unless module_index (step_fits s) E401 s.place }

abbrev pub number_step : Noted Expression → TypedStep
number_step e = record { tree = e.tree; counting = counting.Up; faults = e.faults }

abbrev pub chosen_step : Bool → TypedStep → TypedStep → TypedStep
chosen_step c a b = record { tree = cond c a.tree b.tree; counting = cond c a.counting b.counting; faults = cond c a.faults b.faults }

-- No form has more than eight bytes.
use Rattle.std.proofs.Common.{◌≡◌, ℕ, ◌≤◌, List, [], ◌∷◌, ◌++◌, Some, length, sym, ap, subst, arith}
use Rattle.std.proofs.lemmas.List.{length-append}
use Rattle.i86_code.specs.declared.form.Fields.{Fields}
use Rattle.i86_code.specs.declared.form.Fields.TheVariants as fields
use Rattle.i86_code.specs.declared.form.Prefixes.{Prefixes}
use Rattle.i86_code.specs.declared.form.Prefixes.TheVariants as prefixes
use Rattle.i86_code.specs.declared.form.RegisterOrMemory.{RegisterOrMemory}
use Rattle.i86_code.specs.declared.form.RegisterOrMemory.TheVariants.{Register, Indirect, Direct, Near, Far}
use Rattle.i86_code.specs.declared.form.Form.{Form}
use Rattle.i86_code.specs.Forms.{place_bytes, word_bytes, field_bytes, prefix_bytes, form_bytes, opcode_byte}
use Rattle.i86_code.specs.Decoding.{decoded}
use Rattle.i86_code.specs.Coding.{IsOneForm, IsShort}
use Rattle.i86_code.proofs.DecodeLaws.{decoded_again}

place_size : (r : ℕ) (p : RegisterOrMemory) → length (place_bytes r p) ≤ 3
place_size r (Register c) = omega arith
place_size r (Indirect b) = omega arith
place_size r (Direct n) = omega arith
place_size r (Near b d) = omega arith
place_size r (Far b d) = omega arith

field_size : (f : Fields) → length (field_bytes f) ≤ 5
field_size fields.Nothing = omega arith
field_size (fields.Byte n) = omega arith
field_size (fields.Word n) = omega arith
field_size (fields.TwoWords m n) = omega arith
field_size (fields.Address r p) = omega (arith, place_size r p)
field_size (fields.AddressByte r p n) = omega (arith, place_size r p, length-append (place_bytes r p) (n ∷ []))
field_size (fields.AddressWord r p n) = omega (arith, place_size r p, length-append (place_bytes r p) (word_bytes n))
field_size (fields.Unary w r p) = omega (arith, place_size r p)
field_size (fields.TestByte p n) = omega (arith, place_size 0 p, length-append (place_bytes 0 p) (n ∷ []))
field_size (fields.TestWord p n) = omega (arith, place_size 0 p, length-append (place_bytes 0 p) (word_bytes n))

prefix_size : (p : Prefixes) → length (prefix_bytes p) ≤ 2
prefix_size prefixes.Nothing = omega arith
prefix_size (prefixes.Override s) = omega arith
prefix_size prefixes.Repeat = omega arith
prefix_size (prefixes.OverrideRepeat s) = omega arith
prefix_size (prefixes.RepeatOverride s) = omega arith

form_size : (f : Form) → length (form_bytes f) ≤ 8
form_size f = omega (arith, prefix_size f.prefixes, field_size f.fields, length-append (prefix_bytes f.prefixes) (opcode_byte f.opcode ∷ field_bytes f.fields))

pub is_short : IsShort
is_short front i s = omega (arith, form_size s.form, ap length s.spelling)

pub is_one_form : IsOneForm
is_one_form front rest i s = subst (λ (t : List ℕ). decoded (t ++ rest) ≡ Some (i, length t)) (sym s.spelling) (decoded_again s.form rest i s.fits s.says)

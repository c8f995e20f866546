-- What is decoded is spelt by its bytes.
use Rattle.std.proofs.lemmas.Option.{same_Some}
use Rattle.std.proofs.Common.{◌≡◌, ℕ, ◌-◌, ◌<◌, ◌≤◌, Option, Some, None, List, ◌∷◌, length, take, ap, subst, arith}
use Rattle.std.specs.Prelude.{IfSome}
use Rattle.std.proofs.lemmas.List.{length-append, length-take}
use Rattle.i86_table.specs.declared.instruction.Instr.{Instr}
use Rattle.i86_code.specs.declared.form.Form.{Form}
use Rattle.i86_code.specs.Forms.{form_bytes, prefix_bytes, field_bytes, opcode_byte, Spells}
use Rattle.i86_code.specs.Reading.{Read, form_at}
use Rattle.i86_code.specs.Instructions.{instruction_of}
use Rattle.i86_code.specs.Decoding.{decoded, form_then, instruction_then}
use Rattle.i86_code.specs.Coding.{DecodedSpells}
use Rattle.i86_code.proofs.DecodeLaws.{decoded_found}

said_within : (o : Option Instr) (k m : ℕ) (d : Instr × ℕ) → k ≤ m → instruction_then o k ≡ Some d → d.1 ≤ m
said_within None k m d h e = absurd (let wrong = e in cc)
said_within (Some j) k m d h e = subst (λ (x : Instr × ℕ). x.1 ≤ m) (same_Some (j, k) d e) h

within : (bytes : List ℕ) (o : Read Form) (d : Instr × ℕ) → form_then bytes o ≡ Some d → d.1 ≤ length bytes
within bytes None d e = absurd (let wrong = e in cc)
within bytes (Some x) d e = said_within (instruction_of x.0) (length bytes - length x.1) (length bytes) d (omega arith) e

decoded_within : (bytes : List ℕ) (d : Instr × ℕ) → decoded bytes ≡ Some d → d.1 ≤ length bytes
unfolding decoded
decoded_within bytes d e = within bytes (form_at bytes) d e

form_some : (f : Form) → 0 < length (form_bytes f)
form_some f = omega (arith, length-append (prefix_bytes f.prefixes) (opcode_byte f.opcode ∷ field_bytes f.fields))

spelt_some : (bytes : List ℕ) (i : Instr) (n : ℕ) → Spells (take n bytes) i → 0 < n
spelt_some bytes i n s = omega (arith, form_some s.form, ap length s.spelling, length-take n bytes)

pub is_decoded_spells : DecodedSpells
is_decoded_spells bytes i n h e =
    let spelt : Spells (take n bytes) i = subst (λ (o : Option (Instr × ℕ)). IfSome o (λ d. Spells (take d.1 bytes) d.0)) e (decoded_found bytes h) in
    (spelt, spelt_some bytes i n spelt, decoded_within bytes (i, n) e)

-- What is decoded is spelled so, and what is spelled is decoded, whatever follows it.
use Rattle.std.proofs.Common.{◌≡◌, ℕ, ◌-◌, ◌≤◌, Option, Some, None, List, ◌++◌, length, take, refl, ap, ◌∙◌, arith}
use Rattle.std.specs.Prelude.{IfSome, IfNone}
use Rattle.std.proofs.lemmas.List.{length-append, take_at}
use Rattle.i86_table.specs.declared.instruction.Instr.{Instr}
use Rattle.i86_code.specs.declared.form.Form.{Form}
use Rattle.i86_code.specs.Forms.{form_bytes, IsForm, Spells}
use Rattle.i86_code.specs.Reading.{Read, form_at}
use Rattle.i86_code.specs.Instructions.{instruction_of}
use Rattle.i86_code.specs.Decoding.{decoded, form_then, instruction_then}
use Rattle.i86_code.specs.Coding.{AreBytes}
use Rattle.i86_code.proofs.FormLaws.{form_again, form_found}

pub decoded_again : (f : Form) (rest : List ℕ) (i : Instr) → IsForm f → instruction_of f ≡ Some i → decoded (form_bytes f ++ rest) ≡ Some (i, length (form_bytes f))
unfolding decoded
decoded_again f rest i h says =
    let n : length (form_bytes f ++ rest) - length rest ≡ length (form_bytes f) = omega (arith, length-append (form_bytes f) rest) in
    ap (form_then (form_bytes f ++ rest)) (form_again f rest h)
    ∙ ap (λ (o : Option Instr). instruction_then o (length (form_bytes f ++ rest) - length rest)) says
    ∙ ap (λ (k : ℕ). Some (i, k)) n

pub shorter : (bytes : List ℕ) (f : Form) (rest : List ℕ) → AreBytes bytes → form_at bytes ≡ Some (f, rest) → length rest ≤ length bytes
shorter bytes f rest h e = let s = (form_found bytes f rest h e).spelling in omega (arith, ap length s, length-append (form_bytes f) rest)

found_then : (bytes : List ℕ) (o : Read Form) → AreBytes bytes → form_at bytes ≡ o → IfSome (form_then bytes o) (λ d. Spells (take d.1 bytes) d.0)
found_then bytes None h e = tt
found_then bytes (Some x) h e = said (instruction_of x.0) refl
  where
    said : (o : Option Instr) → instruction_of x.0 ≡ o → IfSome (instruction_then o (length bytes - length x.1)) (λ d. Spells (take d.1 bytes) d.0)
    said None s = tt
    said (Some i) s =
        let found = form_found bytes x.0 x.1 h e in
        let n : length (form_bytes x.0) ≡ length bytes - length x.1 = omega (arith, ap length found.spelling, length-append (form_bytes x.0) x.1) in
        record { form = x.0; fits = found.form; spelling = ap (λ (t : List ℕ). take (length bytes - length x.1) t) found.spelling ∙ take_at (form_bytes x.0) x.1 (length bytes - length x.1) n; says = s }

pub decoded_found : (bytes : List ℕ) → AreBytes bytes → IfSome (decoded bytes) (λ d. Spells (take d.1 bytes) d.0)
unfolding decoded
decoded_found bytes h = found_then bytes (form_at bytes) h refl

pub decoded_none : (bytes : List ℕ) (o : Option (Instr × ℕ)) → o ≡ decoded bytes → IfNone o ((front rest : List ℕ) (i : Instr) → Spells front i → bytes ≡ front ++ rest → ⊥)
decoded_none bytes (Some d) e = tt
decoded_none bytes None e = λ front rest i s at.
    let whole : bytes ≡ form_bytes s.form ++ rest = at ∙ ap (λ (t : List ℕ). t ++ rest) s.spelling in
    let again = ap decoded whole ∙ decoded_again s.form rest i s.fits s.says in
    let wrong = e ∙ again in cc

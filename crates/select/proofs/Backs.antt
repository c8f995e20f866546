-- Registers that are saved and come back, one by one.
use Rattle.std.proofs.Common.{◌≡◌, Bool, true, false, List, [], ◌∷◌, ◌++◌, sym, ap, ◌∙◌}
use Rattle.std.proofs.lemmas.List.{map-append, append-nil, append_assoc}
use Rattle.i86_table.specs.declared.registers.Register16.{Register16}
use Rattle.i86_table.specs.declared.registers.Register16.TheVariants.{Ax, Bx, Cx, Dx, Bp}
use Rattle.i86_table.specs.declared.instruction.Instr.TheVariants as i
use Rattle.icode.specs.declared.registers.Registers.{Registers}
use Rattle.select.specs.declared.part.Step.{Step}
use Rattle.select.specs.declared.part.Step.TheVariants.{Plain}
use Rattle.select.specs.Rows.{saved, given_back, with_register, registers_of, plain, pop}

one_more : (b : Bool) (r : Register16) (rs : List Register16) (base : List Step) → (base ++ plain (given_back rs)) ++ plain (given_back (with_register b r [])) ≡ base ++ plain (given_back (with_register b r rs))
one_more true r rs base = append_assoc base (plain (given_back rs)) (plain (pop r ∷ [])) ∙ ap (λ z. base ++ z) (sym (map-append Plain (given_back rs) (pop r ∷ [])))
one_more false r rs base = append-nil (base ++ plain (given_back rs))

-- the five registers, and the end of the interrupt procedure
pub all_back : (s : Registers) (base : List Step)
    → (((((base ++ plain (given_back (with_register s.frame Bp []))) ++ plain (given_back (with_register s.address Bx []))) ++ plain (given_back (with_register s.high Dx []))) ++ plain (given_back (with_register s.right Cx []))) ++ plain (given_back (with_register s.accumulator Ax []))) ++ (Plain i.InterruptReturn ∷ [])
    ≡ base ++ plain (given_back (registers_of s) ++ i.InterruptReturn ∷ [])
all_back s base =
    let r5 = with_register s.frame Bp [] in
    let r4 = with_register s.address Bx r5 in
    let r3 = with_register s.high Dx r4 in
    let r2 = with_register s.right Cx r3 in
    let r1 = with_register s.accumulator Ax r2 in
    let address = plain (given_back (with_register s.address Bx [])) in
    let high = plain (given_back (with_register s.high Dx [])) in
    let right = plain (given_back (with_register s.right Cx [])) in
    let accumulator = plain (given_back (with_register s.accumulator Ax [])) in
    ap (λ z. (((z ++ high) ++ right) ++ accumulator) ++ (Plain i.InterruptReturn ∷ [])) (one_more s.address Bx r5 base)
    ∙ ap (λ z. ((z ++ right) ++ accumulator) ++ (Plain i.InterruptReturn ∷ [])) (one_more s.high Dx r4 base)
    ∙ ap (λ z. (z ++ accumulator) ++ (Plain i.InterruptReturn ∷ [])) (one_more s.right Cx r3 base)
    ∙ ap (λ z. z ++ (Plain i.InterruptReturn ∷ [])) (one_more s.accumulator Ax r2 base)
    ∙ append_assoc base (plain (given_back r1)) (Plain i.InterruptReturn ∷ [])
    ∙ ap (λ z. base ++ z) (sym (map-append Plain (given_back r1) (i.InterruptReturn ∷ [])))

-- a register that is saved, and the others after it
one_saved : (b : Bool) (r : Register16) (rs : List Register16) (base : List Step) → (base ++ plain (saved (with_register b r []))) ++ plain (saved rs) ≡ base ++ plain (saved (with_register b r rs))
one_saved true r rs base = append_assoc base (plain (saved (r ∷ []))) (plain (saved rs))
one_saved false r rs base = ap (λ z. z ++ plain (saved rs)) (append-nil base)

pub all_saved : (s : Registers) (base : List Step)
    → ((((base ++ plain (saved (with_register s.accumulator Ax []))) ++ plain (saved (with_register s.right Cx []))) ++ plain (saved (with_register s.high Dx []))) ++ plain (saved (with_register s.address Bx []))) ++ plain (saved (with_register s.frame Bp []))
    ≡ base ++ plain (saved (registers_of s))
all_saved s base =
    let r5 = with_register s.frame Bp [] in
    let r4 = with_register s.address Bx r5 in
    let r3 = with_register s.high Dx r4 in
    let r2 = with_register s.right Cx r3 in
    let b1 = base ++ plain (saved (with_register s.accumulator Ax [])) in
    let b2 = b1 ++ plain (saved (with_register s.right Cx [])) in
    let b3 = b2 ++ plain (saved (with_register s.high Dx [])) in
    one_saved s.address Bx r5 b3
    ∙ one_saved s.high Dx r4 b2
    ∙ one_saved s.right Cx r3 b1
    ∙ one_saved s.accumulator Ax r2 base

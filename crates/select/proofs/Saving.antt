-- The registers that are saved, and those of the routine for vectors without a procedure.
use Rattle.std.proofs.Common.{◌≡◌, ℕ, zero, suc, ◌+◌, ◌≤◌, Bool, true, false, List, [], ◌∷◌, length, Some, slice_get, sym, ap, ◌∙◌, ap₂, subst, arith}
use Rattle.std.proofs.lemmas.Option.{none-some, same_Some}
use Rattle.std.proofs.Math.Bool.{or-false}
use Rattle.std.specs.Prelude.{◌||◌}
use Rattle.i86_table.specs.declared.registers.Register16.{Register16}
use Rattle.i86_table.specs.declared.registers.Register16.TheVariants.{Ax, Bx, Cx, Dx, Bp}
use Rattle.icode.specs.declared.instruction.Instruction.{Instruction}
use Rattle.icode.specs.declared.instruction.Instruction.TheVariants as op
use Rattle.icode.specs.declared.code.Position.{Position}
use Rattle.icode.specs.declared.code.Routine.{Routine}
use Rattle.icode.specs.declared.code.Routine.TheVariants.{Unserved}
use Rattle.icode.specs.declared.code.Code.{Code}
use Rattle.icode.specs.declared.registers.Registers.{Registers}
use Rattle.icode.specs.Code.{code_of}
use Rattle.icode.specs.Counted.{IsPath, HasAll, one_if}
use Rattle.icode.specs.Registers.{none, joined, changes}
use Rattle.select.specs.Rows.{with_register, registers_of}
use Rattle.select.specs.Saved.{UnservedChangesNone, RegistersAreCounted}

-- ---- how many there are

one_more : (b : Bool) (r : Register16) (rs : List Register16) → length (with_register b r rs) ≡ one_if b + length rs
one_more true r rs = omega arith
one_more false r rs = omega arith

one_few : (b : Bool) → one_if b ≤ 1
one_few true = omega arith
one_few false = omega arith

pub counted : RegistersAreCounted
counted g =
    let bp = with_register g.frame Bp [] in
    let bx = with_register g.address Bx bp in
    let dx = with_register g.high Dx bx in
    let cx = with_register g.right Cx dx in
    omega (arith, one_more g.accumulator Ax cx, one_more g.right Cx dx, one_more g.high Dx bx, one_more g.address Bx bp, one_more g.frame Bp [])

pub few_registers : (g : Registers) → length (registers_of g) ≤ 5
few_registers g = omega (arith, counted g, one_few g.accumulator, one_few g.right, one_few g.high, one_few g.address, one_few g.frame)

-- ---- a routine that is used up at once

only_finish : (k : ℕ) (x : Instruction) → slice_get (op.Finish ∷ []) k ≡ Some x → op.Finish ≡ x
only_finish zero x e = same_Some op.Finish x e
only_finish (suc k) x e = absurd (none-some x e)

no_call : (q : ℕ) → op.Finish ≡ op.Invoke q → ⊥
no_call q e = absurd (cc)

with_none : (h : Registers) → joined h none ≡ h
with_none h =
    ap₂ (λ a b. record { accumulator = a; right = b; high = h.high || false; address = h.address || false; frame = h.frame || false }) (or-false h.accumulator) (or-false h.right)
    ∙ ap₂ (λ a b. record { accumulator = h.accumulator; right = h.right; high = a; address = b; frame = h.frame || false }) (or-false h.high) (or-false h.address)
    ∙ ap (λ a. record { accumulator = h.accumulator; right = h.right; high = h.high; address = h.address; frame = a }) (or-false h.frame)

module _ (c : Code) where
  stays : (ps : List Position) (r : Routine) → IsPath (code_of c) Unserved ps r → Unserved ≡ r
  stays [] r path = path
  stays (p ∷ ps) r path =
      let here = stays ps p.routine path.1 in
      let q = path.0.0 in
      absurd (no_call q (only_finish p.index (op.Invoke q) (subst (λ s. slice_get (code_of c s) p.index ≡ Some (op.Invoke q)) (sym here) path.0.1)))

  nothing_changed : HasAll (code_of c) Unserved none
  nothing_changed ps r k x path e =
      let is = only_finish k x (subst (λ s. slice_get (code_of c s) k ≡ Some x) (sym (stays ps r path)) e) in
      ap (λ y. joined none (changes y)) (sym is)

pub unserved : UnservedChangesNone
unserved c = record { all = nothing_changed c; least = λ h all. with_none h }

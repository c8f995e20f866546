-- Main's ENABLE and HALT, and the end of an interrupt procedure.
use Rattle.std.proofs.Common.{◌≡◌, ℕ, zero, suc, ◌<◌, Bool, true, false, List, [], Option, Some, None, refl, sym, ap, ◌∙◌, subst, inr, arith}
use Rattle.std.specs.Prelude.{if◌then◌else◌}
use Rattle.word86.specs.Access.{Access, answers}
use Rattle.word86.specs.Action.{Action, Enable, Halt, Over}
use Rattle.word86.specs.Following.{Offer, Does, Arms, Switch}
use Rattle.i86_table.specs.declared.instruction.Instr.{Instr}
use Rattle.i86_table.specs.declared.instruction.Instr.TheVariants as i
use Rattle.i86_table.specs.Arithmetic.{with_flag, flag_bit}
use Rattle.i86_table.specs.Contexts.{Context, Own, Working, Given, set_flags, offer, gives_back, refused}
use Rattle.select.specs.Linked.{StandsAt}
use Rattle.select.proofs.Engine
use Rattle.select.proofs.Engine.{Fl, Mt}

-- main is given nothing
abbrev pub is_main : Option Given → Bool
is_main None = true
is_main (Some g) = false

abbrev pub with_interrupts : Working → Working
with_interrupts g = set_flags g (with_flag (flag_bit 512) true g.flags)

module _ (R : Type 0) (next : R → Action Access R) (code : ℕ → Option (Instr × ℕ)) (find : ℕ → ℕ → Option (ℕ × ℕ)) (words : ℕ → Option ℕ) (entry : ℕ → ℕ) (main handler limit : ℕ) (offsets places : List ℕ) where
  abbrev pub F : Option Given → ℕ → ℕ → R → Context → Type 0
  F given n f r c = Fl R next code find words entry main handler limit (is_main given) offsets places given n f r c

  abbrev Sw : ℕ → R → Offer Access Context → Type 0
  Sw n r o = Switch Access answers R next Context (offer code find words entry main handler) limit 1 (F None n limit) r o

  -- STI, and an instruction that turns interrupts on
  pub arms : (n f : ℕ) (r : R) (c d : Context) → offer code find words entry main handler c ≡ Arms d → Sw n r (offer code find words entry main handler d) → F None (suc n) (suc f) r c
  arms n f r c d e s = (zero, r, refl, inr (subst (λ o. Mt R next code find words entry main handler limit true offsets places None (F None n) (suc f) zero r o) (sym e) (f, omega arith, s)), omega arith)

  pub enables : (given : Option Given) (n f p m q : ℕ) (r r2 : R) (g : Working) (st : List ℕ) → (is_main given ≡ false → ⊥) → next r ≡ Enable r2
      → StandsAt code p i.EnableInterrupts m → m < 65536 → StandsAt code m i.Nop q → q < 65536 → F given n limit r2 (Own q (with_interrupts g) st false given) → F given (suc n) (suc f) r (Own p g st false given)
  enables None n f p m q r r2 g st is u at low behind low2 go =
      arms n f r (Own p g st false None) (Own m (with_interrupts g) st true None)
      (Engine.stands R next code find words entry main handler limit true offsets places None p m i.EnableInterrupts g st false at low)
      (subst (λ o. Sw n r o) (sym (Engine.stands R next code find words entry main handler limit true offsets places None m q i.Nop (with_interrupts g) st true behind low2)) (r2, u, go))
  enables (Some s) n f p m q r r2 g st is u at low behind low2 go = absurd (is refl)

  pub halts : (given : Option Given) (n f p m q : ℕ) (r r2 : R) (g : Working) (st : List ℕ) → (is_main given ≡ false → ⊥) → next r ≡ Halt r2
      → StandsAt code p i.EnableInterrupts m → m < 65536 → StandsAt code m i.Halt q → q < 65536 → F given n limit r2 (Own q (with_interrupts g) st false given) → F given (suc n) (suc f) r (Own p g st false given)
  halts None n f p m q r r2 g st is u at low behind low2 go =
      arms n f r (Own p g st false None) (Own m (with_interrupts g) st true None)
      (Engine.stands R next code find words entry main handler limit true offsets places None p m i.EnableInterrupts g st false at low)
      (subst (λ o. Sw n r o) (sym (Engine.stands R next code find words entry main handler limit true offsets places None m q i.Halt (with_interrupts g) st true behind low2)) (r2, u, go))
  halts (Some s) n f p m q r r2 g st is u at low behind low2 go = absurd (is refl)

  -- IRET
  pub ends : (given : Given) (n f p q : ℕ) (r : R) (g : Working) → next r ≡ Over → StandsAt code p i.InterruptReturn q → q < 65536 → gives_back given.registers g [] ≡ true → F (Some given) n f r (Own p g [] false (Some given))
  ends given zero f p q r g u at low e = tt
  ends given (suc n) f p q r g u at low e =
      let over : offer code find words entry main handler (Own p g [] false (Some given)) ≡ Does Over =
      Engine.stands R next code find words entry main handler limit false offsets places (Some given) p q i.InterruptReturn g [] false at low ∙ ap (λ (b : Bool). if b then Does Over else refused) e in
      (zero, r, refl, inr (subst (λ o. Mt R next code find words entry main handler limit false offsets places (Some given) (F (Some given) n) f zero r o) (sym over) u), omega arith)

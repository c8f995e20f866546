-- What a context does at a jump, short or long.
use Rattle.std.proofs.Common.{◌≡◌, ℕ, ◌<◌, inl, inr, Bool, true, false, not, List, Option, refl, ap, ◌∙◌, arith}
use Rattle.std.specs.Prelude.{if◌then◌else◌}
use Rattle.word86.specs.Action.{Silent}
use Rattle.word86.specs.Following.{Does}
use Rattle.i86_table.specs.declared.instruction.Condition.{Condition}
use Rattle.i86_table.specs.declared.instruction.Instr.{Instr}
use Rattle.i86_table.specs.declared.instruction.Instr.TheVariants as i
use Rattle.i86_table.specs.Arithmetic.{sign_extended}
use Rattle.i86_table.specs.Condition.{holds}
use Rattle.i86_table.specs.Inverse.{inverse, InverseHolds}
use Rattle.i86_table.specs.Contexts.{Context, Own, Working, Given, further, offer, offered, offered_at}
use Rattle.select.specs.declared.part.Step.TheVariants.{Goto, GotoIf}
use Rattle.select.specs.Linked.{StandsAt, Stands}
use Rattle.select.specs.Inner.Arriving.{ArrivesSoon, JumpsArrive}

module _ (inverse_holds : InverseHolds) (code : ℕ → Option (Instr × ℕ)) (find : (offset n : ℕ) → Option (ℕ × ℕ)) (words : ℕ → Option ℕ) (entry : (vector : ℕ) → ℕ) (main handler : ℕ) (offsets places : List ℕ) where
  -- what an instruction that stands here does
  pub does_here : (here there : ℕ) (n : Instr) (g : Working) (st : List ℕ) (a : Bool) (given : Option Given) → there < 65536 → StandsAt code here n there
      → (c : Context) → offered find words main handler n there g st a given ≡ Does (Silent c) → offer code find words entry main handler (Own here g st a given) ≡ Does (Silent c)
  does_here here there n g st a given low (size, is, end) c e =
      let far : further here size ≡ there = omega (arith, end, low) in
      ap (λ x. offered_at code find words entry main handler x here g st a given) is ∙ ap (λ q. offered find words main handler n q g st a given) far ∙ e

  goto_arrives : (here there to t : ℕ) → there < 65536 → (g : Working) (st : List ℕ) (a : Bool) (given : Option Given) → Stands code words offsets places here there to (Goto t)
      → ArrivesSoon code find words entry main handler (Own here g st a given) (Own to g st false given)
  goto_arrives here there to t low g st a given h =
      elim h [
        | inl s ↦ inl (Own to g st false given, does_here here there (i.JumpShort s.0) g st a given low s.1 (Own to g st false given) (ap (λ p. Does (Silent (Own p g st false given))) s.2), refl)
        | inr s ↦ inl (Own to g st false given, does_here here there (i.Jump s.0) g st a given low s.1 (Own to g st false given) (ap (λ p. Does (Silent (Own p g st false given))) s.2), refl)
      ]

  -- the two instructions of a long one
  long_arrives : (here there to d middle : ℕ) (c : Condition) → there < 65536 → (g : Working) (st : List ℕ) (a : Bool) (given : Option Given)
      → StandsAt code here (i.JumpIf (inverse c) 3) middle → StandsAt code middle (i.Jump d) there → further middle (sign_extended 3) ≡ there → further there d ≡ to
      → (b : Bool) → holds c g.flags ≡ b → ArrivesSoon code find words entry main handler (Own here g st a given) (Own (if b then to else there) g st false given)
  long_arrives here there to d middle c low g st a given over long past leads true e =
      let t : holds (inverse c) g.flags ≡ false = inverse_holds c g.flags ∙ ap not e in
      let l : middle < 65536 = let z = long.2 in omega (arith, z, low) in
      inr (
        Own middle g st false given,
        does_here here middle (i.JumpIf (inverse c) 3) g st a given l over (Own middle g st false given) (ap (λ b. Does (Silent (Own (if b then further middle (sign_extended 3) else middle) g st false given))) t),
        (Own to g st false given, does_here middle there (i.Jump d) g st false given low long (Own to g st false given) (ap (λ p. Does (Silent (Own p g st false given))) leads), refl),
      )
  long_arrives here there to d middle c low g st a given over long past leads false e =
      let t : holds (inverse c) g.flags ≡ true = inverse_holds c g.flags ∙ ap not e in
      let l : middle < 65536 = let z = long.2 in omega (arith, z, low) in
      inl (
        Own there g st false given,
        does_here here middle (i.JumpIf (inverse c) 3) g st a given l over (Own there g st false given)
            (ap (λ b. Does (Silent (Own (if b then further middle (sign_extended 3) else middle) g st false given))) t ∙ ap (λ p. Does (Silent (Own p g st false given))) past),
        refl,
      )

  branch_arrives : (here there to t : ℕ) (c : Condition) → there < 65536 → (g : Working) (st : List ℕ) (a : Bool) (given : Option Given) → Stands code words offsets places here there to (GotoIf c t)
      → ArrivesSoon code find words entry main handler (Own here g st a given) (Own (if holds c g.flags then to else there) g st false given)
  branch_arrives here there to t c low g st a given h =
      elim h [
        | inl s ↦ inl (
          Own (if holds c g.flags then to else there) g st false given,
          does_here here there (i.JumpIf c s.0) g st a given low s.1 (Own (if holds c g.flags then to else there) g st false given)
              (ap (λ p. Does (Silent (Own (if holds c g.flags then p else there) g st false given))) s.2),
          refl,
        )
        | inr (d, middle, over, long, past, leads) ↦ long_arrives here there to d middle c low g st a given over long past leads (holds c g.flags) refl
      ]

  -- a jump that is not taken is one instruction, short or long
  pub passes : (here there to t : ℕ) (c : Condition) → there < 65536 → (g : Working) (st : List ℕ) (a : Bool) (given : Option Given) → holds c g.flags ≡ false
      → Stands code words offsets places here there to (GotoIf c t) → offer code find words entry main handler (Own here g st a given) ≡ Does (Silent (Own there g st false given))
  passes here there to t c low g st a given e (inl s) =
      does_here here there (i.JumpIf c s.0) g st a given low s.1 (Own there g st false given) (ap (λ (b : Bool). Does (Silent (Own (if b then further there (sign_extended s.0) else there) g st false given))) e)
  passes here there to t c low g st a given e (inr (d, middle, over, long, past, leads)) =
      let taken : holds (inverse c) g.flags ≡ true = inverse_holds c g.flags ∙ ap not e in
      let l : middle < 65536 = let z = long.2 in omega (arith, z, low) in
      does_here here middle (i.JumpIf (inverse c) 3) g st a given l over (Own there g st false given)
      (ap (λ (b : Bool). Does (Silent (Own (if b then further middle (sign_extended 3) else middle) g st false given))) taken ∙ ap (λ p. Does (Silent (Own p g st false given))) past)

  pub jumps_arrive : JumpsArrive code find words entry main handler offsets places
  jumps_arrive here there to low g st a given = (λ t. goto_arrives here there to t low g st a given, λ c t. branch_arrives here there to t c low g st a given)

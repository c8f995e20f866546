-- A processor that lets no interrupt in where it waits does so in each turn from there on; and what the board notes of it.
use Rattle.std.proofs.Common.{◌≡◌, ℕ, suc, ◌+◌, ◌<◌, Bool, true, false, cond, List, Option, Some, None, refl, sym, ap, ◌∙◌, subst, inl, inr, ◌⊎◌, arith}
use Rattle.std.specs.Prelude.{not, ◌&&◌}
use Rattle.std.proofs.lemmas.Bool.{cases_lt}
use Rattle.word86.specs.declared.event.Event.{Event}
use Rattle.i86_table.specs.Arithmetic.{has}
use Rattle.cpu8086.specs.declared.cpu.Cpu.{Cpu}
use Rattle.cpu8086.specs.declared.cpu.Phase.{Phase}
use Rattle.cpu8086.specs.declared.cpu.Phase.TheVariants as phases
use Rattle.cpu8086.specs.declared.cpu.Kind.{Kind}
use Rattle.cpu8086.specs.declared.cpu.Kind.TheVariants as kinds
use Rattle.cpu8086.specs.BusModel.{BusModel}
use Rattle.cpu8086.specs.Turn.{Outcome, acknowledging, still, phase_turn, turn_of}
use Rattle.ppi_kbd.specs.Chips.{ChipState}
use Rattle.ppi_kbd.specs.BoardChips.{board_chips}
use Rattle.board.specs.World.{World, board_model, occurs}
use Rattle.board.specs.Machine.{Board, all_occur, goes, turn_kind}
use Rattle.board.specs.Run.{board_turn, board_kind, board_after, kind_at}
use Rattle.board.specs.Watched.{waits, is_dead, FirstDead}
use Rattle.board.specs.Inner.Stretch.{works, noted_death}
use Rattle.board.proofs.Running.{board_next, last_or_before}
use Rattle.board.proofs.Waiting.{turn_waits}

-- ---- the processor

halted_dead : {W : Type 0} (m : BusModel W) (lets line : Bool) (cpu : Cpu) (w : W) → not lets ≡ true → (cond (lets && line) (acknowledging m cpu w) (still m phases.Halted cpu w kinds.Wait)).kind ≡ kinds.Wait
halted_dead m true line cpu w e = absurd cc
halted_dead m false line cpu w e = refl

phase_dead : {W : Type 0} (m : BusModel W) (phase : Phase) (cpu : Cpu) (w : W) → (waits phase && not (has cpu.registers.flags 512)) ≡ true → (phase_turn m phase cpu w).kind ≡ kinds.Wait
phase_dead m phases.Running cpu w e = absurd cc
phase_dead m phases.AfterSti cpu w e = absurd cc
phase_dead m phases.Halted cpu w e = halted_dead m (has cpu.registers.flags 512) (m.int_line w) cpu w e
phase_dead m (phases.Stopped at) cpu w e = absurd cc

turn_dead : {W : Type 0} (m : BusModel W) (cpu : Cpu) (w : W) → is_dead cpu ≡ true → (turn_of m cpu w).kind ≡ kinds.Wait
unfolding turn_of
turn_dead m cpu w e = phase_dead m cpu.phase cpu w e

-- ---- the board

board_dead : (es : List Event) (c : Board (World ChipState)) → is_dead c.cpu ≡ true → board_kind es c ≡ kinds.Wait
unfolding turn_kind
board_dead es c e = turn_dead (board_model board_chips) c.cpu (all_occur (board_model board_chips) (occurs board_chips) es c.world) e

alive_by : (d : Bool) → (d ≡ true → ⊥) → d ≡ false
alive_by true never = absurd (never refl)
alive_by false never = refl

-- a turn in which the processor does not wait begins with one that is not dead
pub alive : (es : List Event) (c : Board (World ChipState)) → (board_kind es c ≡ kinds.Wait → ⊥) → is_dead c.cpu ≡ false
alive es c never = alive_by (is_dead c.cpu) (λ e. never (board_dead es c e))

works_no_wait : (kind : Kind) → works kind ≡ true → kind ≡ kinds.Wait → ⊥
works_no_wait kinds.Ack e w = cc
works_no_wait kinds.Instr e w = cc
works_no_wait kinds.Wait e w = cc
works_no_wait (kinds.Opcode a) e w = cc

pub works_alive : (es : List Event) (c : Board (World ChipState)) → works (board_kind es c) ≡ true → is_dead c.cpu ≡ false
works_alive es c e = alive es c (works_no_wait (board_kind es c) e)

-- a turn in which the processor waits leaves the processor as it is
wait_keeps : (es : List Event) (c : Board (World ChipState)) → board_kind es c ≡ kinds.Wait → (board_turn es c).0.cpu ≡ c.cpu
unfolding goes turn_kind
wait_keeps es c e = ap (λ (o : Outcome (World ChipState)). o.cpu) (turn_waits (board_model board_chips) c.cpu (all_occur (board_model board_chips) (occurs board_chips) es c.world) e)

before_or_not : (k n : ℕ) → (k < n) ⊎ (k < n → ⊥)
before_or_not k n = elim (cases_lt k n) [ inl lower ↦ inl lower | inr upper ↦ inr (λ lt. absurd (omega (arith, lt, upper))) ]

module _ (due : ℕ → List Event) (b : Board (World ChipState)) where
  pub first_later : (n m : ℕ) (o : Option ℕ) → n < m + 1 → ((k : ℕ) → k < m → (k < n → ⊥) → is_dead (board_after due k b).cpu ≡ false) → FirstDead due b n o → FirstDead due b m o
  first_later n m (Some t) le new f = (omega (arith, f.0, le), f.1, f.2)
  first_later n m None le new f = λ k lt. elim (before_or_not k n) [ inl lower ↦ f k lower | inr upper ↦ new k lt upper ]

  pub noted_wait : (n : ℕ) (o : Option ℕ) (d : Bool) → d ≡ is_dead (board_after due n b).cpu → FirstDead due b n o → FirstDead due b (n + 1) (noted_death o n d)
  noted_wait n (Some t) d e f = (omega (arith, f.0), f.1, f.2)
  noted_wait n None true e f = (omega arith, sym e, f)
  noted_wait n None false e f = λ k lt. let below : k < suc n = omega (arith, lt) in elim (last_or_before k n below) [ inl lower ↦ f k lower | inr same ↦ subst (λ i. is_dead (board_after due i b).cpu ≡ false) (sym same) (sym e) ]

  noted_alive : (n : ℕ) (o : Option ℕ) → is_dead (board_after due n b).cpu ≡ false → FirstDead due b n o → FirstDead due b (n + 1) o
  noted_alive n o e f = first_later n (n + 1) o (omega arith) (λ k lt upper. let same : k ≡ n = omega (arith, lt, upper) in subst (λ i. is_dead (board_after due i b).cpu ≡ false) (sym same) e) f

  -- the board that waited is as dead as before
  dead_same : (n : ℕ) → kind_at due n b ≡ kinds.Wait → (board_after due (n + 1) b).cpu ≡ (board_after due n b).cpu
  dead_same n e =
      let one : n + 1 ≡ suc n = omega arith in
      ap (λ j. (board_after due j b).cpu) one ∙ ap (λ (x : Board (World ChipState)). x.cpu) (board_next due b n) ∙ wait_keeps (due n) (board_after due n b) e

  -- a turn more, and what the code notes of it
  pub noted_next : (n : ℕ) (kind : Kind) (old new : Option ℕ) (cpu : Cpu) → kind ≡ kind_at due n b → cpu ≡ (board_after due (n + 1) b).cpu
      → (kind ≡ kinds.Wait → new ≡ noted_death old n (is_dead cpu)) → ((kind ≡ kinds.Wait → ⊥) → new ≡ old) → FirstDead due b n old → FirstDead due b (n + 1) new
  noted_next n kinds.Wait old new cpu was here wait kept f =
      subst (FirstDead due b (n + 1)) (sym (wait refl)) (noted_wait n old (is_dead cpu) (ap is_dead (here ∙ dead_same n (sym was))) f)
  noted_next n kinds.Ack old new cpu was here wait kept f =
      subst (FirstDead due b (n + 1)) (sym (kept (λ e. cc))) (noted_alive n old (works_alive (due n) (board_after due n b) (ap works (sym was))) f)
  noted_next n kinds.Instr old new cpu was here wait kept f =
      subst (FirstDead due b (n + 1)) (sym (kept (λ e. cc))) (noted_alive n old (works_alive (due n) (board_after due n b) (ap works (sym was))) f)
  noted_next n (kinds.Opcode a) old new cpu was here wait kept f =
      subst (FirstDead due b (n + 1)) (sym (kept (λ e. cc))) (noted_alive n old (alive (due n) (board_after due n b) (λ e. let same : kinds.Opcode a ≡ kinds.Wait = was ∙ e in cc)) f)

  -- the board stays as it was before the turn that was the last one
  pub first_idle : (n m : ℕ) (o : Option ℕ) (last : ℕ) → last < n → n < m + 1 → ((k : ℕ) → k < m → (k < n → ⊥) → board_after due k b ≡ board_after due last b) → FirstDead due b n o → FirstDead due b m o
  first_idle n m None last here le same f = first_later n m None le (λ k lt upper. ap (λ (x : Board (World ChipState)). is_dead x.cpu) (same k lt upper) ∙ f last here) f
  first_idle n m (Some t) last here le same f = (omega (arith, f.0, le), f.1, f.2)

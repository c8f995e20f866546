-- The instructions of a `Switch` lead to the case that its value chooses.
use Rattle.std.proofs.Common.{◌≡◌, ℕ, suc, ◌+◌, ◌*◌, ◌%◌, ◌<◌, ◌≤◌, inl, inr, Bool, true, false, List, Option, Some, refl, sym, ap, ◌∙◌, subst, arith, slice_get}
use Rattle.std.specs.Prelude.{not, if◌then◌else◌, nat_lt}
use Rattle.std.proofs.lemmas.Bool.{lt-ltb, le-ltb}
use Rattle.word86.specs.declared.width.Width.TheVariants as widths
use Rattle.word86.specs.Action.{Silent}
use Rattle.word86.specs.Following.{Does}
use Rattle.i86_table.specs.declared.registers.Register16.TheVariants.{Ax, Bx}
use Rattle.i86_table.specs.declared.registers.Segment.TheVariants as segments
use Rattle.i86_table.specs.declared.instruction.Base.TheVariants as bases
use Rattle.i86_table.specs.declared.instruction.RmOperand.TheVariants as rm
use Rattle.i86_table.specs.declared.instruction.Count.TheVariants as counts
use Rattle.i86_table.specs.declared.instruction.AluOperation.TheVariants.{Cmp}
use Rattle.i86_table.specs.declared.instruction.ShiftOperation.TheVariants as shifts
use Rattle.i86_table.specs.declared.instruction.Condition.TheVariants as conditions
use Rattle.i86_table.specs.declared.instruction.Instr.{Instr}
use Rattle.i86_table.specs.declared.instruction.Instr.TheVariants as i
use Rattle.i86_table.specs.Open.{spot_memory}
use Rattle.i86_table.specs.Condition.{holds}
use Rattle.i86_table.specs.Inverse.{InverseHolds}
use Rattle.i86_table.specs.Arithmetic.{operated, shifted}
use Rattle.i86_table.specs.Contexts.{Context, Own, Working, Given, set_word, set_flags, word_result, offer, offered, takes}
use Rattle.icode.specs.declared.instruction.Instruction.TheVariants as op
use Rattle.icode.specs.declared.code.Routine.{Routine}
use Rattle.icode.specs.declared.code.Word.{Word}
use Rattle.icode.specs.Machine.{At, run_at, switched}
use Rattle.select.specs.Linked.{StandsAt}
use Rattle.select.specs.Rows.{alu_number, copy, spot, row, first_of}
use Rattle.select.specs.Promise.{Image, IsSelected, next_of, place_of}
use Rattle.select.specs.Cases.{SilentlyComes, LeadsSoon, CasesComeSoon}
use Rattle.select.specs.Inner.Arriving.{ArrivesSoon}
use Rattle.select.proofs.Rests.{Laws}
use Rattle.select.proofs.Chains
use Rattle.select.proofs.Flags
use Rattle.select.proofs.Jumping
use Rattle.select.proofs.Tables
use Rattle.select.proofs.Whole

module _ (inverse_holds : InverseHolds) (laws : Laws) (x : Image) (all : IsSelected x) where
  -- an instruction that stands here, and what comes after it
  then_comes : (most : ℕ) (c d e : Context) → offer x.code x.find x.words x.entry x.main x.handler c ≡ Does (Silent e) → SilentlyComes x most e d → SilentlyComes x (suc most) c d
  then_comes most c d e o s = inr (e, o, s)

  -- a jump, short or long, after one instruction
  comes_by_jump : (c d e : Context) → offer x.code x.find x.words x.entry x.main x.handler c ≡ Does (Silent e) → ArrivesSoon x.code x.find x.words x.entry x.main x.handler e d → SilentlyComes x 3 c d
  comes_by_jump c d e o (inl s) = inr (e, o, inr (s.0, s.1, inl s.2))
  comes_by_jump c d e o (inr s) = inr (e, o, inr (s.0, s.1, inr (s.2.0, s.2.1, s.2.2)))

  module _ (r : Routine) (k n : ℕ) (e : slice_get (x.icode r) k ≡ Some (op.Switch n)) (g : Working) (a : g.ax < 65536) where
    abbrev place : ℕ → ℕ
    place = place_of x r

    abbrev table : ℕ
    table = place (k + 1)

    abbrev Stand : Instr → ℕ → ℕ → Type 0
    Stand m here there = StandsAt x.code here m there

    abbrev does_here : (here there : ℕ) (m : Instr) (h : Working) (st : List ℕ) (b : Bool) (given : Option Given) → there < 65536 → Stand m here there
        → (c : Context) → offered x.find x.words x.main x.handler m there h st b given ≡ Does (Silent c) → offer x.code x.find x.words x.entry x.main x.handler (Own here h st b given) ≡ Does (Silent c)
    does_here = Jumping.does_here inverse_holds x.code x.find x.words x.entry x.main x.handler x.offsets x.places

    c : Chains.From x.code x.words x.offsets x.places (x.at r) (place k) (row (first_of (x.saves r) (x.icode r)) x.part (x.saves r) (k + 1) (op.Switch n)) table
    c = Whole.stand laws x all r k (op.Switch n) e

    entry_small : (j : ℕ) → j ≤ n → table + 2 * j < 65536
    entry_small = Tables.entry_small x all (Whole.stand laws x all) r k n e

    limit_is : n % 65536 ≡ n
    limit_is = omega (arith, entry_small n (omega arith))

    abbrev compared : Working
    compared = set_flags g (operated Cmp widths.Word g.ax (n % 65536) g.flags).flags

    abbrev copied : Working
    copied = set_word compared Bx g.ax

    abbrev doubled : Working
    doubled = word_result Bx copied (shifted shifts.Shl widths.Word g.ax 1 copied.flags)

    -- the jump after the cases is taken where the value is not below their number
    past_the_cases : (b : Bool) → nat_lt g.ax n ≡ b → holds conditions.NotBelow compared.flags ≡ not b
    past_the_cases b l = ap not (Flags.cmp_carry laws g.ax (n % 65536) g.flags ∙ ap (nat_lt g.ax) limit_is ∙ l)

    -- the code's own step, where the value is below the number of cases or not
    code_goes : (b : Bool) → nat_lt g.ax n ≡ b → (ws : List Word)
        → next_of x (At r k g.ax ws) ≡ (if b then switched (slice_get (x.icode r) (k + 1 + g.ax)) r (k + 1 + suc g.ax) g.ax ws else Silent (At r (k + 1 + n) g.ax ws))
    code_goes b l ws =
        ap (λ o. run_at x.offsets x.sizes (x.icode r) o r (k + 1) g.ax ws) e
        ∙ ap (λ (b : Bool). if b then switched (slice_get (x.icode r) (k + 1 + g.ax)) r (k + 1 + suc g.ax) g.ax ws else Silent (At r (k + 1 + n) g.ax ws)) l

    -- the comparison comes first
    compares : (st : List ℕ) (b : Bool) (given : Option Given) → offer x.code x.find x.words x.entry x.main x.handler (Own (place k) g st b given) ≡ Does (Silent (Own c.0 compared st false given))
    compares st b given = does_here (place k) c.0 (alu_number Cmp Ax (n % 65536)) g st b given c.2 c.1 (Own c.0 compared st false given) refl

    outside : n ≤ g.ax → LeadsSoon x 3 r k (k + 1 + n) g
    outside l = record {
      code = code_goes false (le-ltb g.ax n l);
      registers = compared;
      changes = record { ax = refl; cx = refl; dx = refl; bp = refl; si = refl; di = refl };
      instructions = leads;
    }
      where
        leads : (st : List ℕ) (b : Bool) (given : Option Given) → SilentlyComes x 3 (Own (place k) g st b given) (Own (place (k + 1 + n)) compared st false given)
        leads st b given =
            let jump = (Jumping.jumps_arrive inverse_holds x.code x.find x.words x.entry x.main x.handler x.offsets x.places c.0 c.3.0 (place (k + 1 + n)) c.3.2 compared st false given).1
            conditions.NotBelow (first_of (x.saves r) (x.icode r) (k + 1 + n)) c.3.1 in
            comes_by_jump (Own (place k) g st b given) (Own (place (k + 1 + n)) compared st false given) (Own c.0 compared st false given) (compares st b given)
            (subst (λ (b : Bool). ArrivesSoon x.code x.find x.words x.entry x.main x.handler (Own c.0 compared st false given) (Own (if b then place (k + 1 + n) else c.3.0) compared st false given)) (past_the_cases false (le-ltb g.ax n l)) jump)

    inside : g.ax < n → (d : ℕ) × (slice_get (x.icode r) (k + 1 + g.ax) ≡ Some (op.Case d)) × LeadsSoon x 5 r k (k + 1 + g.ax + 1 + d) g
    inside l = (
      case.0,
      case.1,
      record {
        code = λ ws. code_goes true (lt-ltb g.ax n l) ws ∙ ap (λ o. switched o r (k + 1 + suc g.ax) g.ax ws) case.1 ∙ ap (λ z. Silent (At r z g.ax ws)) (sym target_is);
        registers = doubled;
        changes = record { ax = refl; cx = refl; dx = refl; bp = refl; si = refl; di = refl };
        instructions = leads;
      },
    )
      where
        case : (d : ℕ) × (slice_get (x.icode r) (k + 1 + g.ax) ≡ Some (op.Case d))
        case = Tables.case_at x all (Whole.stand laws x all) r k n e g.ax l

        target_is : k + 1 + g.ax + 1 + case.0 ≡ k + 1 + suc g.ax + case.0
        target_is = Tables.index_sum k g.ax case.0

        small : table + 2 * g.ax < 65536
        small = entry_small g.ax (omega (arith, l))

        -- BX has the distance of the case's word from the table
        offset_is : (doubled.bx + table) % 65536 ≡ place (k + 1 + g.ax)
        offset_is = ap (λ z. (z + table) % 65536) (laws.shift.shl widths.Word g.ax 1 copied.flags a ∙ Tables.twice g.ax table small) ∙ Tables.turned_sum (2 * g.ax) table small
            ∙ sym (Tables.entry_at x all (Whole.stand laws x all) r k n e g.ax (omega (arith, l)))

        -- and that word is the place of the case's first instruction
        word_is : x.words ((doubled.bx + table) % 65536) ≡ Some (place (k + 1 + g.ax + 1 + case.0))
        word_is = ap x.words offset_is ∙ (Whole.stand laws x all r (k + 1 + g.ax) (op.Case case.0) case.1).1.0

        leads : (st : List ℕ) (b : Bool) (given : Option Given) → SilentlyComes x 5 (Own (place k) g st b given) (Own (place (k + 1 + g.ax + 1 + case.0)) doubled st false given)
        leads st b given =
            let rest = c.3.3 in
            let jump = rest.3.3 in
            let end = Own (place (k + 1 + g.ax + 1 + case.0)) doubled st false given in
            then_comes 4 (Own (place k) g st b given) end (Own c.0 compared st false given) (compares st b given)
            (then_comes 3 (Own c.0 compared st false given) end (Own c.3.0 compared st false given)
            (Jumping.passes inverse_holds x.code x.find x.words x.entry x.main x.handler x.offsets x.places c.0 c.3.0 (place (k + 1 + n)) (first_of (x.saves r) (x.icode r) (k + 1 + n)) conditions.NotBelow c.3.2 compared st false given (past_the_cases true (lt-ltb g.ax n l)) c.3.1)
            (then_comes 2 (Own c.3.0 compared st false given) end (Own rest.0 copied st false given)
            (does_here c.3.0 rest.0 (copy Bx Ax) compared st false given rest.2 rest.1 (Own rest.0 copied st false given) refl)
            (then_comes 1 (Own rest.0 copied st false given) end (Own rest.3.0 doubled st false given)
            (does_here rest.0 rest.3.0 (i.ShiftWord shifts.Shl (rm.Register Bx) counts.One) copied st false given rest.3.2 rest.3.1 (Own rest.3.0 doubled st false given) refl)
            (then_comes 0 (Own rest.3.0 doubled st false given) end end
            (does_here rest.3.0 jump.0 (i.JumpTo (rm.Memory (spot_memory (spot (Some bases.Bx) segments.Cs) table))) doubled st false given jump.2 jump.1 end (ap (λ o. takes o (λ place. Own place doubled st false given)) word_is))
            refl))))

-- every DO CASE
pub cases_soon : InverseHolds → Laws → CasesComeSoon
cases_soon inverse_holds laws x all r k n e g a = (inside inverse_holds laws x all r k n e g a, outside inverse_holds laws x all r k n e g a)

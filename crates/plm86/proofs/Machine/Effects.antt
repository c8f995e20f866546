-- Each instruction does to the processor what it does to its context.
use Rattle.std.proofs.Common.{◌≡◌, ℕ, ◌+◌, ◌-◌, ◌*◌, ◌/◌, ◌%◌, ◌<◌, ◌≤◌, ◌==◌, Bool, true, false, List, [], ◌∷◌, ◌++◌, length, drop, Option, Some, None, refl, sym, ap, ◌∙◌, subst, arith, ap₂, true≢false, eqb-true}
use Rattle.std.specs.Prelude.{◌&&◌, not, nat_lt, nat_le, if◌then◌else◌}
use Rattle.std.proofs.lemmas.Bool.{ltb-true, leb-true, leb-false, and_parts, not-false}
use Rattle.word86.specs.MemoryMap.{data_segment, code_segment, data_start, data_end, stack_top, stack_room}
use Rattle.word86.specs.declared.width.Width.{Width}
use Rattle.word86.specs.declared.width.Width.TheVariants as widths
use Rattle.word86.specs.declared.label.Label.{Label}
use Rattle.word86.specs.declared.page.Page.{Page}
use Rattle.word86.specs.declared.page.Page.TheVariants.{Monochrome, Colour}
use Rattle.word86.specs.Access.{Access, Where, In, Screen, Read, Write}
use Rattle.word86.specs.Chips.{Chips}
use Rattle.word86.specs.Page.{page_begins, page_at, page_size, page_of}
use Rattle.word86.specs.Place.{covers}
use Rattle.word86.specs.Action.{Silent, Touch, Enable, Disable, Halt, Over, Bad}
use Rattle.word86.specs.Following.{Offer, Does, Arms}
use Rattle.plm_meaning.specs.Store.{Store, with_chips, value_at, touch, screen_label, input_label, output_label}
use Rattle.i86_table.specs.declared.registers.Regs.{Regs}
use Rattle.i86_table.specs.declared.registers.Register16.{Register16}
use Rattle.i86_table.specs.declared.registers.Register16.TheVariants.{Ax, Cx, Dx, Bx, Sp, Bp, Si, Di}
use Rattle.i86_table.specs.declared.registers.Register8.{Register8}
use Rattle.i86_table.specs.declared.registers.Register8.TheVariants.{Al}
use Rattle.i86_table.specs.declared.registers.Segment.{Segment}
use Rattle.i86_table.specs.declared.registers.Segment.TheVariants as segments
use Rattle.i86_table.specs.declared.outcome.Outcome.{Outcome}
use Rattle.i86_table.specs.declared.outcome.Product.{Product}
use Rattle.i86_table.specs.declared.outcome.Division.{Division}
use Rattle.i86_table.specs.declared.instruction.Memory.{Memory}
use Rattle.i86_table.specs.declared.instruction.RmOperand.TheVariants as places
use Rattle.i86_table.specs.declared.instruction.Operands.{Operands}
use Rattle.i86_table.specs.declared.instruction.Operands.TheVariants.{FromRegister, FromMemory, Immediate}
use Rattle.i86_table.specs.declared.instruction.TestMask.{TestMask}
use Rattle.i86_table.specs.declared.pairs.WordPair.{WordPair}
use Rattle.i86_table.specs.declared.instruction.Port.{Port}
use Rattle.i86_table.specs.declared.instruction.Count.{Count}
use Rattle.i86_table.specs.declared.instruction.AluOperation.{AluOperation}
use Rattle.i86_table.specs.declared.instruction.AluOperation.TheVariants.{Add, Or, Adc, Sbb, And, Sub, Xor, Cmp}
use Rattle.i86_table.specs.declared.instruction.UnaryOperation.{UnaryOperation}
use Rattle.i86_table.specs.declared.instruction.ShiftOperation.{ShiftOperation}
use Rattle.i86_table.specs.declared.instruction.Signedness.{Signedness}
use Rattle.i86_table.specs.declared.instruction.Condition.{Condition}
use Rattle.i86_table.specs.declared.instruction.Instr.{Instr}
use Rattle.i86_table.specs.declared.instruction.Instr.TheVariants as i
use Rattle.i86_table.specs.State.{segment_of, word_of, byte_of, with_word, with_byte, offset_of}
use Rattle.i86_table.specs.Condition.{holds}
use Rattle.i86_table.specs.Arithmetic.{operated, tested, changed, shifted, multiplied, divided, added, with_flag, flag_bit, sign_extended, sign_word, is_comparison}
use Rattle.i86_table.specs.Contexts.{Working, Given, all_registers, is_sp, is_stack, top_of, stack_pointer, stack_word, takes, moved_word, stack_offer, jump_offer, word_in, byte_in, set_word, set_byte, set_flags, offset_in, port_in, count_in, Context, Own, room, bytes, further, in_object, on_screen, alu_word, alu_byte, word_result, byte_result, word_product, byte_product, word_quotient, byte_quotient, word_mask, byte_mask, masks_sp, input_gives, output_takes, refused, unless, silently, reads, writes, divides, place_in, place_of, offered}
use Rattle.cpu8086.specs.declared.bus.Store.TheVariants as stores
use Rattle.cpu8086.specs.BusModel.{BusModel}
use Rattle.cpu8086.specs.declared.cpu.Phase.TheVariants.{Running, AfterSti, Halted}
use Rattle.cpu8086.specs.Machine.{Machine, pushed, popped, loaded_byte, loaded_word, loaded, stored_at}
use Rattle.cpu8086.specs.Control.{called, called_at, returned, jumped_if}
use Rattle.cpu8086.specs.Arithmetic.{computed, changed_in_place, tested_place, shifted_place, multiplied_byte, multiplied_word, divided_byte, divided_word, byte_division, word_division}
use Rattle.cpu8086.specs.Moves as moves
use Rattle.cpu8086.specs.Moves.{pushed_place, popped_to, read_in, written_out}
use Rattle.cpu8086.specs.Effect.{effect}
use Rattle.cpu8086.specs.Turn.{phase_after}
use Rattle.plm86.specs.Inner.BoardLaws.{OfBoard}
use Rattle.plm86.specs.Relation.{Fine, Placed, Finds, FlagsAre}
use Rattle.plm86.specs.Inner.Stacks.{Stack}
use Rattle.plm86.proofs.Machine.Memory
use Rattle.plm86.proofs.Machine.Memory.{push_is, pop_is, push_stacks, pop_stacks, drop_stacks, own_word, fine_push}
use Rattle.plm86.proofs.Machine.Data
use Rattle.plm86.proofs.Machine.Data.{store_at, read_is, write_is, write_stack, load_at}
use Rattle.plm86.proofs.Machine.FlagLaws.{operated_keeps, tested_keeps, changed_keeps, shifted_keeps, multiplied_keeps, on_after_sti, off_after_cli}
use Rattle.plm86.proofs.Machine.Registers.{word_mask_is, byte_mask_is, pushed_value_is, count_is}

abbrev pub NotIret : Instr → Type 0
NotIret i.InterruptReturn = ⊥
NotIret _ = Unit {0}

module _ {W P : Type 0} (m : BusModel W) (c : Chips P) (chips : W → P) (Whole : W → Type 0) (laws : OfBoard m c chips Whole)
    (code : ℕ → Option (Instr × ℕ)) (find : ℕ → ℕ → Option (ℕ × ℕ)) (words : ℕ → Option ℕ) (entry : ℕ → ℕ) (main handler : ℕ) (placed size : ℕ → ℕ) (is_placed : Placed placed size) (finds : Finds find placed size) where
  abbrev pub F : Store P → W → Type 0
  F s w = Fine m chips Whole code words entry placed size s w

  -- a context in the processor, with what lies beyond its part of the stack
  pub record At (q : ℕ) (g : Working) (st base : List ℕ) (o : Option Given) (s : Store P) (on : Bool) (ls : List Label) (x : Machine W) : Type 0 where
    pub sp : ℕ
    pub w : W
    pub is : x ≡ record { registers = all_registers q g sp; world = w; labels = ls }
    pub stack : Stack m w sp st base (room main handler o)
    pub fine : F s w
    pub flags : FlagsAre on g.flags
    pub low : q < 65536

  abbrev pub Sits : Bool → Option Given → List ℕ → Context → Store P → Bool → List Label → Machine W → Type 0
  Sits a0 o0 base (Own p g st a o) s on ls x = At p g st base o0 s on ls x × (a ≡ a0) × (o ≡ o0)

  -- the machine x, after an instruction that halts, or delays, or neither, is what the offer comes to
  abbrev pub Meets : Bool → Option Given → List ℕ → Offer Access Context → Store P → Bool → Instr → Machine W → Type 0
  Meets a o base (Arms d) s on n x = Sits true o base d s true [] x × (phase_after n ≡ AfterSti)
  Meets a o base (Does (Silent d)) s on n x = Sits false o base d s on [] x × (phase_after n ≡ Running)
  Meets a o base (Does (Touch y k)) s on n x = Sits false o base (k (touch c y s).0) (touch c y s).1 on (touch c y s).2 x × (phase_after n ≡ Running)
  Meets a o base (Does (Enable d)) s on n x = (a ≡ true) × Sits false o base d s true [] x × (phase_after n ≡ Running)
  Meets a o base (Does (Disable d)) s on n x = Sits false o base d s false [] x × (phase_after n ≡ Running)
  Meets a o base (Does (Halt d)) s on n x = (a ≡ true) × Sits false o base d s true [] x × (phase_after n ≡ Halted)
  Meets a o base (Does Over) s on n x = ⊥
  Meets a o base (Does (Bad module_index line)) s on n x = Unit {0}

  module _ (o : Option Given) (base : List ℕ) (fits : room main handler o + length base ≤ stack_room / 2) (topped : top_of o + 2 * length base ≡ stack_top) (a : Bool) (s : Store P) (on : Bool) (sti : a ≡ true → on ≡ true) where
    unless_meets : (b t : Bool) (z : Offer Access Context) (n : Instr) (x : Machine W) → t ≡ b → (t ≡ false → Meets a o base z s on n x) → Meets a o base (unless b z) s on n x
    unless_meets true t z n x e h = tt
    unless_meets false t z n x e h = h e

    -- where the processor stands before the instruction, with the pointer after it
    module _ (q : ℕ) (hq : q < 65536) (g : Working) (st : List ℕ) (sp : ℕ) (w : W) (stack : Stack m w sp st base (room main handler o)) (fine : F s w) (flags : FlagsAre on g.flags) where
      abbrev before : Machine W
      before = record { registers = all_registers q g sp; world = w; labels = [] }

      deep : data_end ≤ sp
      deep = omega (arith, stack.at, stack.within, fits)

      pointer_is : sp ≡ stack_pointer o st
      pointer_is = omega (arith, stack.at, topped)

      -- only registers change
      settled : (p : ℕ) (lp : p < 65536) (h : Working) (x : Machine W) (b : Bool) → x ≡ record { registers = all_registers p h sp; world = w; labels = [] } → FlagsAre b h.flags → At p h st base o s b [] x
      settled p lp h x b e f = record { sp = sp; w = w; is = e; stack = stack; fine = fine; flags = f; low = lp }

      abbrev x_of : Regs → Machine W
      x_of y = record { registers = y; world = w; labels = [] }

      -- only registers change, and the context goes on
      goes_on : (n : Instr) (x : Machine W) (p : ℕ) → p < 65536 → (h : Working) → phase_after n ≡ Running → x ≡ x_of (all_registers p h sp) → FlagsAre on h.flags → Meets a o base (silently (Own p h st false o)) s on n x
      goes_on n x p lp h ph e f = ((settled p lp h x on e f, refl, refl), ph)

      -- a word register gets a value
      word_out : (n : Instr) (x : Machine W) (h : Working) (r : Register16) (v : ℕ) → phase_after n ≡ Running → is_sp r ≡ false → x ≡ x_of (with_word (all_registers q h sp) r v) → FlagsAre on h.flags → Meets a o base (silently (Own q (set_word h r v) st false o)) s on n x
      word_out n x h r v ph k e f = goes_on n x q hq (set_word h r v) ph (e ∙ ap x_of (laws.below.registers.set_words q h sp r v k)) (subst (FlagsAre on) (sym (laws.below.registers.word_flags h r v)) f)

      byte_out : (n : Instr) (x : Machine W) (h : Working) (r : Register8) (v : ℕ) → phase_after n ≡ Running → x ≡ x_of (with_byte (all_registers q h sp) r v) → FlagsAre on h.flags → Meets a o base (silently (Own q (set_byte h r v) st false o)) s on n x
      byte_out n x h r v ph e f = goes_on n x q hq (set_byte h r v) ph (e ∙ ap x_of (laws.below.registers.set_bytes q h sp r v)) (subst (FlagsAre on) (sym (laws.below.registers.byte_flags h r v)) f)

      -- what the instruction comes to, from the context's offer
      abbrev Fits : Instr → ℕ → Type 0
      Fits n start = Meets a o base (offered find words main handler n q g st a o) s on n (effect m n start before)

      -- ---- the processor's control

      nop : (start : ℕ) (b : Bool) → a ≡ b → Meets a o base (offered find words main handler i.Nop q g st b o) s on i.Nop (effect m i.Nop start before)
      unfolding effect
      nop start true e = (e, (settled q hq g before true refl (subst (λ b. FlagsAre b g.flags) (sti e) flags), refl, refl), refl)
      nop start false e = ((settled q hq g before on refl flags, refl, refl), refl)

      halt : (start : ℕ) (b : Bool) → a ≡ b → Meets a o base (offered find words main handler i.Halt q g st b o) s on i.Halt (effect m i.Halt start before)
      unfolding effect
      halt start true e = (e, (settled q hq g before true refl (subst (λ b. FlagsAre b g.flags) (sti e) flags), refl, refl), refl)
      halt start false e = tt

      sti_runs : (start : ℕ) (p : Option Given) → o ≡ p → Meets a o base (offered find words main handler i.EnableInterrupts q g st a p) s on i.EnableInterrupts (effect m i.EnableInterrupts start before)
      unfolding effect
      sti_runs start None e = ((settled q hq (set_flags g (with_flag (flag_bit 512) true g.flags)) (effect m i.EnableInterrupts start before) true refl (on_after_sti laws.below on g.flags flags), refl, sym e), refl)
      sti_runs start (Some h) e = tt

      cli_runs : (start : ℕ) → Fits i.DisableInterrupts start
      unfolding effect
      cli_runs start = ((settled q hq (set_flags g (with_flag (flag_bit 512) false g.flags)) _ false refl (off_after_cli laws.below on g.flags flags), refl, refl), refl)

      -- ---- moves between registers

      move_word_immediate : (start v : ℕ) (r : Register16) → Fits (i.MoveWord (Immediate (places.Register r) v)) start
      unfolding effect moves.moved
      move_word_immediate start v r = let n = i.MoveWord (Immediate (places.Register r) v) in
          unless_meets (is_sp r) (is_sp r) _ n (effect m n start before) refl (λ k. word_out n (effect m n start before) g r v refl k refl flags)

      move_byte_immediate : (start v : ℕ) (r : Register8) → Fits (i.MoveByte (Immediate (places.Register r) v)) start
      unfolding effect moves.moved
      move_byte_immediate start v r = let n = i.MoveByte (Immediate (places.Register r) v) in byte_out n (effect m n start before) g r v refl refl flags

      moved_is : (t : Register16) → word_of (all_registers q g sp) t ≡ moved_word t g st o
      moved_is Ax = refl
      moved_is Cx = refl
      moved_is Dx = refl
      moved_is Bx = refl
      moved_is Sp = pointer_is
      moved_is Bp = refl
      moved_is Si = refl
      moved_is Di = refl

      move_word_register : (start : ℕ) (r t : Register16) → Fits (i.MoveWord (FromRegister (places.Register r) t)) start
      unfolding effect moves.moved
      move_word_register start r t = let n = i.MoveWord (FromRegister (places.Register r) t) in
          unless_meets (is_sp r) (is_sp r) _ n (effect m n start before) refl (λ kr.
          word_out n (effect m n start before) g r (moved_word t g st o) refl kr (ap (λ v. x_of (with_word (all_registers q g sp) r v)) (moved_is t)) flags)

      move_byte_register : (start : ℕ) (r t : Register8) → Fits (i.MoveByte (FromRegister (places.Register r) t)) start
      unfolding effect moves.moved
      move_byte_register start r t = let n = i.MoveByte (FromRegister (places.Register r) t) in
          byte_out n (effect m n start before) g r (byte_in g t) refl (ap (λ v. x_of (with_byte (all_registers q g sp) r v)) (laws.below.registers.bytes q g sp t)) flags

      -- ---- arithmetic

      abbrev word_sum : AluOperation → Register16 → ℕ → ℕ → Machine W
      word_sum f r x y = let z = operated f widths.Word x y g.flags in if is_comparison f then x_of (all_registers q (set_flags g z.flags) sp) else x_of (with_word (all_registers q (set_flags g z.flags) sp) r z.value)

      abbrev byte_sum : AluOperation → Register8 → ℕ → ℕ → Machine W
      byte_sum f r x y = let z = operated f widths.Byte x y g.flags in if is_comparison f then x_of (all_registers q (set_flags g z.flags) sp) else x_of (with_byte (all_registers q (set_flags g z.flags) sp) r z.value)

      word_chosen : (h : Working) (b : Bool) (r : Register16) (v : ℕ) → is_sp r ≡ false → (if b then x_of (all_registers q h sp) else x_of (with_word (all_registers q h sp) r v)) ≡ x_of (all_registers q (if b then h else set_word h r v) sp)
      word_chosen h true r v k = refl
      word_chosen h false r v k = ap x_of (laws.below.registers.set_words q h sp r v k)

      byte_chosen : (h : Working) (b : Bool) (r : Register8) (v : ℕ) → (if b then x_of (all_registers q h sp) else x_of (with_byte (all_registers q h sp) r v)) ≡ x_of (all_registers q (if b then h else set_byte h r v) sp)
      byte_chosen h true r v = refl
      byte_chosen h false r v = ap x_of (laws.below.registers.set_bytes q h sp r v)

      flags_chosen : (h k : Working) (b : Bool) → FlagsAre on h.flags → k.flags ≡ h.flags → FlagsAre on (if b then h else k).flags
      flags_chosen h k true f e = f
      flags_chosen h k false f e = subst (FlagsAre on) (sym e) f

      word_sum_is : (f : AluOperation) (r : Register16) (v : ℕ) → is_sp r ≡ false → word_sum f r (word_of (all_registers q g sp) r) v ≡ x_of (all_registers q (alu_word f r v g) sp)
      word_sum_is f r v k =
          let z = operated f widths.Word (word_in g r) v g.flags in
          let h = set_flags g z.flags in
          ap (λ x. word_sum f r x v) (laws.below.registers.words q g sp r k)
          ∙ word_chosen h (is_comparison f) r z.value k

      byte_sum_is : (f : AluOperation) (r : Register8) (v : ℕ) → byte_sum f r (byte_of (all_registers q g sp) r) v ≡ x_of (all_registers q (alu_byte f r v g) sp)
      byte_sum_is f r v =
          let z = operated f widths.Byte (byte_in g r) v g.flags in
          let h = set_flags g z.flags in
          ap (λ x. byte_sum f r x v) (laws.below.registers.bytes q g sp r)
          ∙ byte_chosen h (is_comparison f) r z.value

      word_sum_flags : (f : AluOperation) (r : Register16) (v : ℕ) → FlagsAre on (alu_word f r v g).flags
      word_sum_flags f r v =
          let z = operated f widths.Word (word_in g r) v g.flags in
          let h = set_flags g z.flags in
          flags_chosen h (word_result r g z) (is_comparison f) (operated_keeps laws.below f widths.Word (word_in g r) v on g.flags flags) (laws.below.registers.word_flags h r z.value)

      byte_sum_flags : (f : AluOperation) (r : Register8) (v : ℕ) → FlagsAre on (alu_byte f r v g).flags
      byte_sum_flags f r v =
          let z = operated f widths.Byte (byte_in g r) v g.flags in
          let h = set_flags g z.flags in
          flags_chosen h (byte_result r g z) (is_comparison f) (operated_keeps laws.below f widths.Byte (byte_in g r) v on g.flags flags) (laws.below.registers.byte_flags h r z.value)

      alu_word_register : (start : ℕ) (f : AluOperation) (r t : Register16) → Fits (i.AluWord f (FromRegister (places.Register r) t)) start
      unfolding effect computed
      alu_word_register start f r t = let n = i.AluWord f (FromRegister (places.Register r) t) in
          unless_meets (is_sp r) (is_sp r) _ n (effect m n start before) refl (λ kr.
          unless_meets (is_sp t) (is_sp t) _ n (effect m n start before) refl (λ kt.
          goes_on n (effect m n start before) q hq (alu_word f r (word_in g t) g) refl (ap (word_sum f r (word_of (all_registers q g sp) r)) (laws.below.registers.words q g sp t kt) ∙ word_sum_is f r (word_in g t) kr) (word_sum_flags f r (word_in g t))))

      -- ADD SP: words are dropped
      pointer_added : (v : ℕ) → sp + v < 65536 → (operated Add widths.Word sp v g.flags).value ≡ sp + v
      unfolding operated added
      pointer_added v h = omega (arith, h)

      drops : (b : Bool) (v : ℕ) → (v % 2 == 0 && nat_le (v / 2) (length st)) ≡ b → let n = i.AluWord Add (Immediate (places.Register Sp) v) in
          Meets a o base (if b then silently (Own q (set_flags g (operated Add widths.Word (stack_pointer o st) v g.flags).flags) (drop (v / 2) st) false o) else refused) s on n (word_sum Add Sp sp v)
      drops false v e = tt
      drops true v e =
          let both = and_parts (v % 2 == 0) (nat_le (v / 2) (length st)) e in
          let even : v % 2 ≡ 0 = eqb-true (v % 2) 0 both.0 in
          let few : v / 2 ≤ length st = leb-true (v / 2) (length st) both.1 in
          let whole : sp + v ≡ sp + 2 * (v / 2) = omega (arith, even) in
          let value : (operated Add widths.Word sp v g.flags).value ≡ sp + 2 * (v / 2) = pointer_added v (omega (arith, few, even, stack.at)) ∙ whole in
          let h : ℕ → Working = λ z. set_flags g (operated Add widths.Word z v g.flags).flags in
          let done : At q (h sp) (drop (v / 2) st) base o s on [] (word_sum Add Sp sp v) = record {
            sp = sp + 2 * (v / 2);
            w = w;
            is = ap (λ z. x_of (all_registers q (h sp) z)) value;
            stack = drop_stacks m c chips Whole laws (v / 2) w sp st base (room main handler o) few stack;
            fine = fine;
            flags = operated_keeps laws.below Add widths.Word sp v on g.flags flags;
            low = hq;
          } in
          ((subst (λ z. At q (h z) (drop (v / 2) st) base o s on [] (word_sum Add Sp sp v)) pointer_is done, refl, refl), refl)

      stack_arithmetic : (f : AluOperation) (r : Register16) → is_sp r ≡ true → (v : ℕ) → let n = i.AluWord f (Immediate (places.Register r) v) in Meets a o base (stack_offer f v q g st o) s on n (word_sum f r (word_of (all_registers q g sp) r) v)
      stack_arithmetic Add Sp k v = drops (v % 2 == 0 && nat_le (v / 2) (length st)) v refl
      stack_arithmetic Add Ax k v = absurd (true≢false (sym k))
      stack_arithmetic Add Cx k v = absurd (true≢false (sym k))
      stack_arithmetic Add Dx k v = absurd (true≢false (sym k))
      stack_arithmetic Add Bx k v = absurd (true≢false (sym k))
      stack_arithmetic Add Bp k v = absurd (true≢false (sym k))
      stack_arithmetic Add Si k v = absurd (true≢false (sym k))
      stack_arithmetic Add Di k v = absurd (true≢false (sym k))
      stack_arithmetic Or r k v = tt
      stack_arithmetic Adc r k v = tt
      stack_arithmetic Sbb r k v = tt
      stack_arithmetic And r k v = tt
      stack_arithmetic Sub r k v = tt
      stack_arithmetic Xor r k v = tt
      stack_arithmetic Cmp r k v = tt

      alu_word_immediate : (start : ℕ) (f : AluOperation) (r : Register16) (v : ℕ) → Fits (i.AluWord f (Immediate (places.Register r) v)) start
      unfolding effect computed
      alu_word_immediate start f r v = by (is_sp r) refl
        where
          by : (b : Bool) → is_sp r ≡ b → let n = i.AluWord f (Immediate (places.Register r) v) in Meets a o base (if b then stack_offer f v q g st o else silently (Own q (alu_word f r v g) st false o)) s on n (word_sum f r (word_of (all_registers q g sp) r) v)
          by true k = stack_arithmetic f r k v
          by false k = let n = i.AluWord f (Immediate (places.Register r) v) in goes_on n (word_sum f r (word_of (all_registers q g sp) r) v) q hq (alu_word f r v g) refl (word_sum_is f r v k) (word_sum_flags f r v)

      alu_byte_register : (start : ℕ) (f : AluOperation) (r t : Register8) → Fits (i.AluByte f (FromRegister (places.Register r) t)) start
      unfolding effect computed
      alu_byte_register start f r t = let n = i.AluByte f (FromRegister (places.Register r) t) in
          goes_on n (effect m n start before) q hq (alu_byte f r (byte_in g t) g) refl (ap (byte_sum f r (byte_of (all_registers q g sp) r)) (laws.below.registers.bytes q g sp t) ∙ byte_sum_is f r (byte_in g t)) (byte_sum_flags f r (byte_in g t))

      alu_byte_immediate : (start : ℕ) (f : AluOperation) (r : Register8) (v : ℕ) → Fits (i.AluByte f (Immediate (places.Register r) v)) start
      unfolding effect computed
      alu_byte_immediate start f r v = let n = i.AluByte f (Immediate (places.Register r) v) in
          goes_on n (effect m n start before) q hq (alu_byte f r v g) refl (byte_sum_is f r v) (byte_sum_flags f r v)

      -- a comparison with a target in memory
      compared_flags : (width : Width) (f : AluOperation) (v x : ℕ) → FlagsAre on (set_flags g (operated f width v x g.flags).flags).flags
      compared_flags width f v x = operated_keeps laws.below f width v x on g.flags flags

      test_word : (start : ℕ) (r : Register16) (n : TestMask Register16 ℕ) → Fits (i.TestWord (places.Register r) n) start
      unfolding effect tested_place
      test_word start r n = let k = i.TestWord (places.Register r) n in
          unless_meets (is_sp r) (is_sp r) _ k (effect m k start before) refl (λ kr.
          unless_meets (masks_sp n) (masks_sp n) _ k (effect m k start before) refl (λ kn.
          goes_on k (effect m k start before) q hq (set_flags g (tested widths.Word (word_in g r) (word_mask g n) g.flags)) refl
          (ap₂ (λ x y. x_of (all_registers q (set_flags g (tested widths.Word x y g.flags)) sp)) (laws.below.registers.words q g sp r kr) (word_mask_is laws.below.registers q g sp n kn)) (tested_keeps laws.below widths.Word (word_in g r) (word_mask g n) on g.flags flags)))

      test_byte : (start : ℕ) (r : Register8) (n : TestMask Register8 ℕ) → Fits (i.TestByte (places.Register r) n) start
      unfolding effect tested_place
      test_byte start r n = let k = i.TestByte (places.Register r) n in
          goes_on k (effect m k start before) q hq (set_flags g (tested widths.Byte (byte_in g r) (byte_mask g n) g.flags)) refl
          (ap₂ (λ x y. x_of (all_registers q (set_flags g (tested widths.Byte x y g.flags)) sp)) (laws.below.registers.bytes q g sp r) (byte_mask_is laws.below.registers q g sp n)) (tested_keeps laws.below widths.Byte (byte_in g r) (byte_mask g n) on g.flags flags)

      exchange_words : (start : ℕ) (p : WordPair) → Fits (i.ExchangeWords p) start
      unfolding effect
      exchange_words start p = let k = i.ExchangeWords p in
          let h = set_word g p.first (word_in g p.second) in
          unless_meets (is_sp p.first) (is_sp p.first) _ k (effect m k start before) refl (λ kf.
          unless_meets (is_sp p.second) (is_sp p.second) _ k (effect m k start before) refl (λ ks.
          word_out k (effect m k start before) h p.second (word_in g p.first) refl ks
          (ap₂ (λ x y. x_of (with_word (with_word (all_registers q g sp) p.first x) p.second y)) (laws.below.registers.words q g sp p.second ks) (laws.below.registers.words q g sp p.first kf)
          ∙ ap (λ z. x_of (with_word z p.second (word_in g p.first))) (laws.below.registers.set_words q g sp p.first (word_in g p.second) kf))
          (subst (FlagsAre on) (sym (laws.below.registers.word_flags g p.first (word_in g p.second))) flags)))

      -- an outcome in a register
      abbrev word_outcome : Register16 → Outcome → Machine W
      word_outcome r z = x_of (with_word (all_registers q (set_flags g z.flags) sp) r z.value)

      abbrev byte_outcome : Register8 → Outcome → Machine W
      byte_outcome r z = x_of (with_byte (all_registers q (set_flags g z.flags) sp) r z.value)

      unary_word : (start : ℕ) (f : UnaryOperation) (r : Register16) → Fits (i.UnaryWord f (places.Register r)) start
      unfolding effect changed_in_place
      unary_word start f r = let n = i.UnaryWord f (places.Register r) in
          let z = changed f widths.Word (word_in g r) g.flags in
          unless_meets (is_sp r) (is_sp r) _ n (effect m n start before) refl (λ k.
          word_out n (effect m n start before) (set_flags g z.flags) r z.value refl k (ap (λ x. word_outcome r (changed f widths.Word x g.flags)) (laws.below.registers.words q g sp r k)) (changed_keeps laws.below f widths.Word (word_in g r) on g.flags flags))

      unary_byte : (start : ℕ) (f : UnaryOperation) (r : Register8) → Fits (i.UnaryByte f (places.Register r)) start
      unfolding effect changed_in_place
      unary_byte start f r = let n = i.UnaryByte f (places.Register r) in
          let z = changed f widths.Byte (byte_in g r) g.flags in
          byte_out n (effect m n start before) (set_flags g z.flags) r z.value refl (ap (λ x. byte_outcome r (changed f widths.Byte x g.flags)) (laws.below.registers.bytes q g sp r)) (changed_keeps laws.below f widths.Byte (byte_in g r) on g.flags flags)

      shift_word : (start : ℕ) (f : ShiftOperation) (r : Register16) (k : Count) → Fits (i.ShiftWord f (places.Register r) k) start
      unfolding effect shifted_place
      shift_word start f r k = let n = i.ShiftWord f (places.Register r) k in
          let z = shifted f widths.Word (word_in g r) (count_in g k) g.flags in
          unless_meets (is_sp r) (is_sp r) _ n (effect m n start before) refl (λ e.
          word_out n (effect m n start before) (set_flags g z.flags) r z.value refl e (ap₂ (λ x y. word_outcome r (shifted f widths.Word x y g.flags)) (laws.below.registers.words q g sp r e) (count_is q g sp k)) (shifted_keeps laws.below f widths.Word (word_in g r) (count_in g k) on g.flags flags))

      shift_byte : (start : ℕ) (f : ShiftOperation) (r : Register8) (k : Count) → Fits (i.ShiftByte f (places.Register r) k) start
      unfolding effect shifted_place
      shift_byte start f r k = let n = i.ShiftByte f (places.Register r) k in
          let z = shifted f widths.Byte (byte_in g r) (count_in g k) g.flags in
          byte_out n (effect m n start before) (set_flags g z.flags) r z.value refl (ap₂ (λ x y. byte_outcome r (shifted f widths.Byte x y g.flags)) (laws.below.registers.bytes q g sp r) (count_is q g sp k)) (shifted_keeps laws.below f widths.Byte (byte_in g r) (count_in g k) on g.flags flags)

      multiply_word : (start : ℕ) (t : Signedness) (r : Register16) → Fits (i.MultiplyWord t (places.Register r)) start
      unfolding effect multiplied_word
      multiply_word start t r = let n = i.MultiplyWord t (places.Register r) in
          let product : ℕ → Product = λ x. multiplied t widths.Word g.ax x g.flags in
          unless_meets (is_sp r) (is_sp r) _ n (effect m n start before) refl (λ k.
          goes_on n (effect m n start before) q hq (word_product (product (word_in g r)) g) refl (ap (λ x. x_of (all_registers q (word_product (product x) g) sp)) (laws.below.registers.words q g sp r k)) (multiplied_keeps laws.below t widths.Word g.ax (word_in g r) on g.flags flags))

      multiply_byte : (start : ℕ) (t : Signedness) (r : Register8) → Fits (i.MultiplyByte t (places.Register r)) start
      unfolding effect multiplied_byte
      multiply_byte start t r = let n = i.MultiplyByte t (places.Register r) in
          let product : ℕ → Product = λ x. multiplied t widths.Byte (byte_in g Al) x g.flags in
          goes_on n (effect m n start before) q hq (byte_product (product (byte_in g r)) g) refl (ap (λ x. x_of (all_registers q (byte_product (product x) g) sp)) (laws.below.registers.bytes q g sp r)) (multiplied_keeps laws.below t widths.Byte (byte_in g Al) (byte_in g r) on g.flags flags)

      -- a division; its fault is no concern of the context
      divide_word : (start : ℕ) (t : Signedness) (r : Register16) → Fits (i.DivideWord t (places.Register r)) start
      unfolding effect divided_word
      divide_word start t r = let n = i.DivideWord t (places.Register r) in
          let quotient : ℕ → Option Division = λ x. divided t widths.Word (g.dx * 65536 + g.ax) x in
          let v = word_of (all_registers q g sp) r in
          unless_meets (is_sp r) (is_sp r) _ n (word_division m (quotient v) before) refl (λ k.
          subst (λ y. Meets a o base (divides (quotient y) (λ x. Own q (word_quotient x g) st false o)) s on n (word_division m (quotient v) before)) (laws.below.registers.words q g sp r k) (go (quotient v)))
        where
          go : (d : Option Division) → Meets a o base (divides d (λ x. Own q (word_quotient x g) st false o)) s on (i.DivideWord t (places.Register r)) (word_division m d before)
          go None = tt
          go (Some x) = ((settled q hq (word_quotient x g) _ on refl flags, refl, refl), refl)

      divide_byte : (start : ℕ) (t : Signedness) (r : Register8) → Fits (i.DivideByte t (places.Register r)) start
      unfolding effect divided_byte
      divide_byte start t r = let n = i.DivideByte t (places.Register r) in
          let quotient : ℕ → Option Division = λ x. divided t widths.Byte g.ax x in
          let v = byte_of (all_registers q g sp) r in
          subst (λ y. Meets a o base (divides (quotient y) (λ x. Own q (byte_quotient x g) st false o)) s on n (byte_division m (quotient v) before)) (laws.below.registers.bytes q g sp r) (go (quotient v))
        where
          go : (d : Option Division) → Meets a o base (divides d (λ x. Own q (byte_quotient x g) st false o)) s on (i.DivideByte t (places.Register r)) (byte_division m d before)
          go None = tt
          go (Some x) = ((settled q hq (byte_quotient x g) _ on refl flags, refl, refl), refl)

      convert_byte : (start : ℕ) → Fits i.ConvertByte start
      unfolding effect
      convert_byte start = ((settled q hq (set_word g Ax (sign_extended (byte_in g Al))) _ on refl flags, refl, refl), refl)

      convert_word : (start : ℕ) → Fits i.ConvertWord start
      unfolding effect
      convert_word start = ((settled q hq (set_word g Dx (sign_word g.ax)) _ on refl flags, refl, refl), refl)

      -- ---- jumps

      jump_if : (start : ℕ) (k : Condition) (d : ℕ) → Fits (i.JumpIf k d) start
      unfolding effect
      jump_if start k d = ((go (holds k g.flags), refl, refl), refl)
        where
          go : (b : Bool) → At (if b then further q (sign_extended d) else q) g st base o s on [] (x_of (jumped_if b d (all_registers q g sp)))
          go true = settled (further q (sign_extended d)) (omega arith) g _ on refl flags
          go false = settled q hq g _ on refl flags

      jump_short : (start d : ℕ) → Fits (i.JumpShort d) start
      unfolding effect
      jump_short start d = goes_on (i.JumpShort d) (effect m (i.JumpShort d) start before) (further q (sign_extended d)) (omega arith) g refl refl flags

      jump_near : (start d : ℕ) → Fits (i.Jump d) start
      unfolding effect
      jump_near start d = goes_on (i.Jump d) (effect m (i.Jump d) start before) (further q d) (omega arith) g refl refl flags

      jump_to : (start : ℕ) (r : Register16) → Fits (i.JumpTo (places.Register r)) start
      unfolding effect
      jump_to start r = let n = i.JumpTo (places.Register r) in
          unless_meets (is_sp r) (is_sp r) _ n (effect m n start before) refl (λ k.
          unless_meets (nat_le 65536 (word_in g r)) (nat_le 65536 (word_in g r)) _ n (effect m n start before) refl (λ small.
          goes_on n (effect m n start before) (word_in g r) (leb-false 65536 (word_in g r) small) g refl (ap (λ p. x_of (all_registers p g sp)) (laws.below.registers.words q g sp r k)) flags))

      -- a number that the context goes on with
      takes_meet : (p : Option ℕ) (k : ℕ → Context) (n : Instr) (x : Machine W) → phase_after n ≡ Running → ((v : ℕ) → p ≡ Some v → Sits false o base (k v) s on [] x) → Meets a o base (takes p k) s on n x
      takes_meet None k n x ph h = tt
      takes_meet (Some v) k n x ph h = (h v refl, ph)

      -- through a table in the code's segment
      jump_through : (start : ℕ) (t : Memory) → Fits (i.JumpTo (places.Memory t)) start
      unfolding effect
      jump_through start t = subst (λ z. Meets a o base (jump_offer words t.segment z g st o) s on (i.JumpTo (places.Memory t)) (effect m (i.JumpTo (places.Memory t)) start before)) (laws.below.registers.offsets q g sp t.address) (by t.segment (offset_of (all_registers q g sp) t.address))
        where
          by : (segment : Segment) (off : ℕ) → Meets a o base (jump_offer words segment off g st o) s on (i.JumpTo (places.Memory t)) (x_of (record (all_registers q g sp) { ip = loaded_word m w (segment_of (all_registers q g sp) segment) off }))
          by segments.Cs off = takes_meet (words off) (λ place. Own place g st false o) (i.JumpTo (places.Memory t)) _ refl (λ v e.
              let at = fine.tables off v e in
              let small : v < 65536 = omega (arith, Memory.word_small m c chips Whole laws w code_segment off, at.1) in
              (settled v small g _ on (ap (λ p. x_of (all_registers p g sp)) at.1) flags, refl, refl))
          by segments.Es off = tt
          by segments.Ss off = tt
          by segments.Ds off = tt

      -- ---- the stack

      -- a word more
      pushed_here : (v : ℕ) → length st < room main handler o → pushed m v before ≡ record { registers = all_registers q g (sp - 2); world = m.store w (stores.Word (data_start + (sp - 2)) (data_start + 1 + (sp - 2)) v); labels = [] }
      pushed_here v lt =
          let up : sp ≡ sp - 2 + 2 = omega (arith, deep) in
          ap (λ z. pushed m v (record { registers = all_registers q g z; world = w; labels = [] })) up ∙ push_is m c chips Whole laws q g (sp - 2) v w [] (omega (arith, stack.at))

      push_meets : (b : Bool) → nat_lt (length st) (room main handler o) ≡ b → (p v : ℕ) (lp : p < 65536) (n : Instr) (x : Machine W) → phase_after n ≡ Running
          → (length st < room main handler o → x ≡ record { registers = all_registers p g (sp - 2); world = m.store w (stores.Word (data_start + (sp - 2)) (data_start + 1 + (sp - 2)) v); labels = [] })
          → Meets a o base (if b then silently (Own p g (v % 65536 ∷ st) false o) else refused) s on n x
      push_meets false e p v lp n x ph same = tt
      push_meets true e p v lp n x ph same =
          let lt : length st < room main handler o = ltb-true _ _ e in
          let up : sp ≡ sp - 2 + 2 = omega (arith, deep) in
          let more : Stack m w (sp - 2 + 2) st base (room main handler o) = subst (λ z. Stack m w z st base (room main handler o)) up stack in
          let t = sp - 2 in (
            (
              record {
                sp = t;
                w = m.store w (stores.Word (data_start + t) (data_start + 1 + t) v);
                is = same lt;
                stack = push_stacks m c chips Whole laws w t v 0 st base (room main handler o) fine.whole lt (omega (arith, stack.at, up)) more;
                fine = fine_push m c chips Whole laws code words entry placed size is_placed s w t v (omega (arith, stack.at, lt, fits)) (omega (arith, stack.at)) fine;
                flags = flags;
                low = lp;
              },
              refl,
              refl,
            ),
            ph,
          )

      push_runs : (start : ℕ) (r : Register16) → Fits (i.Push (places.Register r)) start
      unfolding effect pushed_place
      push_runs start r = let n = i.Push (places.Register r) in
          unless_meets (is_sp r) (is_sp r) _ n (effect m n start before) refl (λ k.
          push_meets (nat_lt (length st) (room main handler o)) refl q (word_in g r) hq n (effect m n start before) refl (λ lt. ap (λ v. pushed m v before) (pushed_value_is m w q g sp r k) ∙ pushed_here (word_in g r) lt))

      call_runs : (start d : ℕ) → Fits (i.Call d) start
      unfolding effect called called_at
      call_runs start d = let n = i.Call d in
          push_meets (nat_lt (length st) (room main handler o)) refl (further q d) q (omega arith) n (effect m n start before) refl (λ lt. ap (λ (y : Machine W). record y { registers = record y.registers { ip = further q d } }) (pushed_here q lt))

      popped_here : (v : ℕ) (l : List ℕ) → st ≡ v ∷ l → (popped m w (all_registers q g sp) ≡ (v, all_registers q g (sp + 2))) × Stack m w (sp + 2) l base (room main handler o)
      popped_here v l e =
          let stack1 : Stack m w sp (v ∷ l) base (room main handler o) = subst (λ z. Stack m w sp z base (room main handler o)) e stack in
          (pop_is m c chips Whole laws q g sp v w (l ++ base) (omega (arith, stack1.at)) stack1.words, pop_stacks m c chips Whole laws w sp v l base (room main handler o) stack1)

      pop_runs : (start : ℕ) (r : Register16) (l : List ℕ) → st ≡ l → let n = i.Pop (places.Register r) in Meets a o base (offered find words main handler n q g l a o) s on n (effect m n start before)
      unfolding effect popped_to
      pop_runs start r [] e = tt
      pop_runs start r (v ∷ l) e = let n = i.Pop (places.Register r) in
          unless_meets (is_sp r) (is_sp r) _ n (effect m n start before) refl (λ k.
          let y = popped_here v l e in
          let done : At q (set_word g r v) l base o s on [] (effect m n start before) = record {
            sp = sp + 2;
            w = w;
            is = ap (λ (z : ℕ × Regs). x_of (with_word z.1 r z.0)) y.0 ∙ ap x_of (laws.below.registers.set_words q g (sp + 2) r v k);
            stack = y.1;
            fine = fine;
            flags = subst (FlagsAre on) (sym (laws.below.registers.word_flags g r v)) flags;
            low = hq;
          } in
          ((done, refl, refl), refl))

      return_runs : (start : ℕ) (l : List ℕ) → st ≡ l → let n = i.Return in Meets a o base (offered find words main handler n q g l a o) s on n (effect m n start before)
      unfolding effect returned
      return_runs start [] e = tt
      return_runs start (v ∷ l) e =
          let y = popped_here v l e in
          let small : v < 65536 = omega (arith, Memory.word_small m c chips Whole laws w data_segment sp, (subst (λ z. Stack m w sp z base (room main handler o)) e stack).words.0) in
          ((record { sp = sp + 2; w = w; is = ap (λ (z : ℕ × Regs). x_of (record z.1 { ip = z.0 })) y.0; stack = y.1; fine = fine; flags = flags; low = small }, refl, refl), refl)

      -- ---- memory

      abbrev load_in : Width → Segment → ℕ → ℕ
      load_in width seg off = loaded m width w (segment_of (all_registers q g sp) seg) off

      -- what an access finds
      found : (p : Option (ℕ × ℕ)) (y : Where) → in_object p ≡ Some y → (k : ℕ) × (j : ℕ) × (p ≡ Some (k, j)) × (y ≡ In k j)
      found None y e = absurd cc
      found (Some x) y e = (x.0, x.1, refl, cc)

      -- a page, and the index there of the first of n bytes
      abbrev IsPaged : (off n : ℕ) → Where → Type 0
      IsPaged off n y = (page : Page) × (j : ℕ) × (off ≡ page_begins page + j) × (j + n ≤ page_size) × (y ≡ Screen page j)

      -- what one page has; else what is told of the others
      paged_by : (page : Page) (off n : ℕ) (y : Where) (b : Bool) (other : Option Where) → covers (page_begins page) page_size off n ≡ b → (other ≡ Some y → IsPaged off n y) → (if b then Some (Screen page (off - page_begins page)) else other) ≡ Some y → IsPaged off n y
      paged_by page off n y false other t more e = more e
      paged_by page off n y true other t more e =
          let both = and_parts (nat_le (page_begins page) off) (nat_le (off + n) (page_begins page + page_size)) t in
          let low : page_begins page ≤ off = leb-true (page_begins page) off both.0 in
          let high : off + n ≤ page_begins page + page_size = leb-true (off + n) (page_begins page + page_size) both.1 in
          (page, off - page_begins page, omega (arith, low), omega (arith, low, high), cc)

      paged : (off n : ℕ) (y : Where) → on_screen off n ≡ Some y → IsPaged off n y
      paged off n y e = paged_by Monochrome off n y (covers (page_begins Monochrome) page_size off n) (if covers (page_begins Colour) page_size off n then Some (Screen Colour (off - page_begins Colour)) else None) refl (paged_by Colour off n y (covers (page_begins Colour) page_size off n) None refl (λ h. absurd cc)) e

      read_place : (width : Width) (seg : Segment) (off : ℕ) (y : Where) → place_in find seg off (bytes width) ≡ Some y → load_in width seg off ≡ (touch c (Read width y) s).0
      unfolding loaded_word loaded_byte
      read_place width segments.Ds off y e =
          let t = found (find off (bytes width)) y e in
          let b = finds off (bytes width) t.0 t.1 t.2 in
          data_load width off ∙ read_is m c chips Whole laws code words entry placed size is_placed width s w off t.0 t.1 fine b.0 b.1 ∙ ap (λ z. (touch c (Read width z) s).0) (sym t.3)
        where
          data_load : (width : Width) (off : ℕ) → load_in width segments.Ds off ≡ load_at m c chips Whole laws width w off
          data_load widths.Byte off = refl
          data_load widths.Word off = refl
      read_place width segments.Es off y e =
          let t = paged off (bytes width) y e in
          ap (load_in width segments.Es) t.2 ∙ page_load t.0 width t.1 t.3 ∙ ap (λ z. (touch c (Read width z) s).0) (sym t.4)
        where
          page_load : (page : Page) (width : Width) (j : ℕ) → j + bytes width ≤ page_size → load_in width segments.Es (page_begins page + j) ≡ value_at width (page_of page s.screen) j
          page_load page widths.Byte j h = ap (λ x. m.load w x % 256) (Memory.page_place page j (omega (arith, h))) ∙ ap (λ x. x % 256) (fine.holds.screen page j (omega (arith, h)))
          page_load page widths.Word j h =
              let next : page_at page + j + 1 ≡ page_at page + (j + 1) = omega arith in
              ap₂ (λ x y. m.load w x % 256 + 256 * (m.load w y % 256)) (Memory.page_place page j (omega (arith, h))) (Memory.page_next page j (omega (arith, h)) ∙ next)
              ∙ ap₂ (λ x y. x % 256 + 256 * (y % 256)) (fine.holds.screen page j (omega (arith, h))) (fine.holds.screen page (j + 1) (omega (arith, h)))
      read_place width segments.Ss off y e = absurd cc
      read_place width segments.Cs off y e = absurd cc

      abbrev store_in : Width → Segment → ℕ → ℕ → Machine W
      store_in width seg off v = stored_at m width (segment_of (all_registers q g sp) seg) off v before

      data_store : (width : Width) (off v : ℕ) → off + 1 < 65536 → store_in width segments.Ds off v ≡ record { registers = all_registers q g sp; world = m.store w (store_at width (data_start + off) v); labels = [] }
      data_store widths.Byte off v h = Memory.byte_stored m c chips Whole laws (all_registers q g sp) off v w [] h
      data_store widths.Word off v h = Memory.word_stored m c chips Whole laws (all_registers q g sp) off v w [] h ∙ ap (λ b. record { registers = all_registers q g sp; world = m.store w (stores.Word (data_start + off) b v); labels = [] }) (omega arith)

      page_store : (page : Page) (width : Width) (j v : ℕ) → j + bytes width ≤ page_size → store_in width segments.Es (page_begins page + j) v ≡ record { registers = all_registers q g sp; world = m.store w (store_at width (page_at page + j) v); labels = screen_label page width j v ∷ [] }
      page_store page widths.Byte j v h = Memory.page_byte_stored m c chips Whole laws page (all_registers q g sp) j v w h
      page_store page widths.Word j v h = Memory.page_word_stored m c chips Whole laws page (all_registers q g sp) j v w h

      write_place : (width : Width) (seg : Segment) (off v : ℕ) (y : Where) → place_in find seg off (bytes width) ≡ Some y → At q g st base o (touch c (Write width y v) s).1 on (touch c (Write width y v) s).2 (store_in width seg off v)
      write_place width segments.Ds off v y e =
          let t = found (find off (bytes width)) y e in
          let b = finds off (bytes width) t.0 t.1 t.2 in
          let some = Data.some_bytes width in
          let below = is_placed.below t.0 t.1 (omega (arith, b.1, some.0)) in
          subst (λ z. At q g st base o (touch c (Write width z v) s).1 on (touch c (Write width z v) s).2 (store_in width segments.Ds off v)) (sym t.3) (record {
            sp = sp;
            w = m.store w (store_at width (data_start + off) v);
            is = data_store width off v (omega (arith, below, b.0));
            stack = write_stack m c chips Whole laws code words entry placed size is_placed width s w off t.0 t.1 v sp st base (room main handler o) fine b.0 b.1 deep stack;
            fine = write_is m c chips Whole laws code words entry placed size is_placed width s w off t.0 t.1 v fine b.0 b.1;
            flags = flags;
            low = hq;
          })
      write_place width segments.Es off v y e =
          let t = paged off (bytes width) y e in
          subst (λ z. At q g st base o (touch c (Write width z v) s).1 on (touch c (Write width z v) s).2 (store_in width segments.Es off v)) (sym t.4) (record {
            sp = sp;
            w = m.store w (store_at width (page_at t.0 + t.1) v);
            is = ap (λ z. store_in width segments.Es z v) t.2 ∙ page_store t.0 width t.1 v t.3;
            stack = Data.page_write_stack m c chips Whole laws code words entry placed size is_placed t.0 width s w t.1 v sp st base (room main handler o) fine t.3 stack;
            fine = Data.page_write_is m c chips Whole laws code words entry placed size is_placed t.0 width s w t.1 v fine t.3;
            flags = flags;
            low = hq;
          })
      write_place width segments.Ss off v y e = absurd cc
      write_place width segments.Cs off v y e = absurd cc

      -- a read and what it is for
      reads_meet : (width : Width) (t : Memory) (p : Option Where) → place_of find g t width ≡ p → (k : ℕ → Context) (n : Instr) (x : Machine W) → phase_after n ≡ Running
          → ((v : ℕ) → load_in width t.segment (offset_of (all_registers q g sp) t.address) ≡ v → Sits false o base (k v) s on [] x) → Meets a o base (reads p width k) s on n x
      reads_meet width t None e k n x ph h = tt
      reads_meet width t (Some y) e k n x ph h = (read_done y (h ((touch c (Read width y) s).0) (ap (load_in width t.segment) (laws.below.registers.offsets q g sp t.address) ∙ read_place width t.segment (offset_in g t.address) y e)), ph)
        where
          read_done : (y : Where) → Sits false o base (k (touch c (Read width y) s).0) s on [] x → Sits false o base (k (touch c (Read width y) s).0) (touch c (Read width y) s).1 on (touch c (Read width y) s).2 x
          read_done (In d j) z = z
          read_done (Screen page j) z = z

      writes_meet : (width : Width) (t : Memory) (v : ℕ) (p : Option Where) → place_of find g t width ≡ p → (n : Instr) (x : Machine W) → phase_after n ≡ Running
          → x ≡ store_in width t.segment (offset_of (all_registers q g sp) t.address) v → Meets a o base (writes p width v (Own q g st false o)) s on n x
      writes_meet width t v None e n x ph h = tt
      writes_meet width t v (Some y) e n x ph h =
          let z = write_place width t.segment (offset_in g t.address) v y e in
          let same : x ≡ store_in width t.segment (offset_in g t.address) v = h ∙ ap (λ z. store_in width t.segment z v) (laws.below.registers.offsets q g sp t.address) in
          ((subst (λ z. At q g st base o (touch c (Write width y v) s).1 on (touch c (Write width y v) s).2 z) (sym same) z, refl, refl), ph)

      stack_load : (segment : Segment) → is_stack segment ≡ true → (off v : ℕ) → stack_word off (stack_pointer o st) st ≡ Some v → load_in widths.Word segment off ≡ v
      stack_load segments.Ss k off v e = own_word m c chips Whole laws off v w sp st base stack.words (ap (λ z. stack_word off z st) pointer_is ∙ e)
      stack_load segments.Es k off v e = absurd (true≢false (sym k))
      stack_load segments.Cs k off v e = absurd (true≢false (sym k))
      stack_load segments.Ds k off v e = absurd (true≢false (sym k))

      fetch_word : (start : ℕ) (r : Register16) (t : Memory) → Fits (i.MoveWord (FromMemory r t)) start
      unfolding effect moves.moved
      fetch_word start r t = let n = i.MoveWord (FromMemory r t) in
          unless_meets (is_sp r) (is_sp r) _ n (effect m n start before) refl (λ k. by (is_stack t.segment) refl (λ v e.
          (settled q hq (set_word g r v) _ on (ap (λ z. x_of (with_word (all_registers q g sp) r z)) e ∙ ap x_of (laws.below.registers.set_words q g sp r v k)) (subst (FlagsAre on) (sym (laws.below.registers.word_flags g r v)) flags), refl, refl)))
        where
          by : (b : Bool) → is_stack t.segment ≡ b → let n = i.MoveWord (FromMemory r t) in let x = x_of (with_word (all_registers q g sp) r (load_in widths.Word t.segment (offset_of (all_registers q g sp) t.address))) in let k : ℕ → Context = λ v. Own q (set_word g r v) st false o in
              ((v : ℕ) → load_in widths.Word t.segment (offset_of (all_registers q g sp) t.address) ≡ v → Sits false o base (k v) s on [] x)
              → Meets a o base (if b then takes (stack_word (offset_in g t.address) (stack_pointer o st) st) k else reads (place_of find g t widths.Word) widths.Word k) s on n x
          by true same h = takes_meet (stack_word (offset_in g t.address) (stack_pointer o st) st) _ (i.MoveWord (FromMemory r t)) _ refl (λ v e. h v (ap (load_in widths.Word t.segment) (laws.below.registers.offsets q g sp t.address) ∙ stack_load t.segment same (offset_in g t.address) v e))
          by false same h = reads_meet widths.Word t (place_of find g t widths.Word) refl _ (i.MoveWord (FromMemory r t)) _ refl h

      fetch_byte : (start : ℕ) (r : Register8) (t : Memory) → Fits (i.MoveByte (FromMemory r t)) start
      unfolding effect moves.moved
      fetch_byte start r t = let n = i.MoveByte (FromMemory r t) in
          reads_meet widths.Byte t (place_of find g t widths.Byte) refl (λ v. Own q (set_byte g r v) st false o) n (effect m n start before) refl (λ v e.
          (settled q hq (set_byte g r v) _ on (ap (λ z. x_of (with_byte (all_registers q g sp) r z)) e ∙ ap x_of (laws.below.registers.set_bytes q g sp r v)) (subst (FlagsAre on) (sym (laws.below.registers.byte_flags g r v)) flags), refl, refl))

      alu_word_memory : (start : ℕ) (f : AluOperation) (r : Register16) (t : Memory) → Fits (i.AluWord f (FromMemory r t)) start
      unfolding effect computed
      alu_word_memory start f r t = let n = i.AluWord f (FromMemory r t) in
          unless_meets (is_sp r) (is_sp r) _ n (effect m n start before) refl (λ k.
          reads_meet widths.Word t (place_of find g t widths.Word) refl (λ v. Own q (alu_word f r v g) st false o) n (effect m n start before) refl (λ v e.
          (settled q hq (alu_word f r v g) _ on (ap (word_sum f r (word_of (all_registers q g sp) r)) e ∙ word_sum_is f r v k) (word_sum_flags f r v), refl, refl)))

      alu_byte_memory : (start : ℕ) (f : AluOperation) (r : Register8) (t : Memory) → Fits (i.AluByte f (FromMemory r t)) start
      unfolding effect computed
      alu_byte_memory start f r t = let n = i.AluByte f (FromMemory r t) in
          reads_meet widths.Byte t (place_of find g t widths.Byte) refl (λ v. Own q (alu_byte f r v g) st false o) n (effect m n start before) refl (λ v e.
          (settled q hq (alu_byte f r v g) _ on (ap (byte_sum f r (byte_of (all_registers q g sp) r)) e ∙ byte_sum_is f r v) (byte_sum_flags f r v), refl, refl))

      -- a comparison of memory with a value
      compared_to : (f : AluOperation) (b : Bool) → not (is_comparison f) ≡ b → b ≡ false → (x y : Machine W) → (if is_comparison f then x else y) ≡ x
      compared_to f b e off x y = ap (λ t. if t then x else y) (not-false (is_comparison f) (e ∙ off))

      compare_word : (start : ℕ) (f : AluOperation) (t : Memory) (r : Register16) → Fits (i.AluWord f (FromRegister (places.Memory t) r)) start
      unfolding effect computed
      compare_word start f t r = let n = i.AluWord f (FromRegister (places.Memory t) r) in
          unless_meets (not (is_comparison f)) (not (is_comparison f)) _ n (effect m n start before) refl (λ kf.
          unless_meets (is_sp r) (is_sp r) _ n (effect m n start before) refl (λ k.
          reads_meet widths.Word t (place_of find g t widths.Word) refl (λ v. Own q (set_flags g (operated f widths.Word v (word_in g r) g.flags).flags) st false o) n (effect m n start before) refl (λ v e. (
            settled q hq (set_flags g (operated f widths.Word v (word_in g r) g.flags).flags) _ on
                (compared_to f (not (is_comparison f)) refl kf _ _ ∙ ap₂ (λ x y. x_of (all_registers q (set_flags g (operated f widths.Word x y g.flags).flags) sp)) e (laws.below.registers.words q g sp r k)) (compared_flags widths.Word f v (word_in g r)),
            refl,
            refl,
          ))))

      compare_word_number : (start : ℕ) (f : AluOperation) (t : Memory) (n : ℕ) → Fits (i.AluWord f (Immediate (places.Memory t) n)) start
      unfolding effect computed
      compare_word_number start f t x = let n = i.AluWord f (Immediate (places.Memory t) x) in
          unless_meets (not (is_comparison f)) (not (is_comparison f)) _ n (effect m n start before) refl (λ kf.
          reads_meet widths.Word t (place_of find g t widths.Word) refl (λ v. Own q (set_flags g (operated f widths.Word v x g.flags).flags) st false o) n (effect m n start before) refl (λ v e. (
            settled q hq (set_flags g (operated f widths.Word v x g.flags).flags) _ on
                (compared_to f (not (is_comparison f)) refl kf _ _ ∙ ap (λ y. x_of (all_registers q (set_flags g (operated f widths.Word y x g.flags).flags) sp)) e) (compared_flags widths.Word f v x),
            refl,
            refl,
          )))

      compare_byte : (start : ℕ) (f : AluOperation) (t : Memory) (r : Register8) → Fits (i.AluByte f (FromRegister (places.Memory t) r)) start
      unfolding effect computed
      compare_byte start f t r = let n = i.AluByte f (FromRegister (places.Memory t) r) in
          unless_meets (not (is_comparison f)) (not (is_comparison f)) _ n (effect m n start before) refl (λ kf.
          reads_meet widths.Byte t (place_of find g t widths.Byte) refl (λ v. Own q (set_flags g (operated f widths.Byte v (byte_in g r) g.flags).flags) st false o) n (effect m n start before) refl (λ v e. (
            settled q hq (set_flags g (operated f widths.Byte v (byte_in g r) g.flags).flags) _ on
                (compared_to f (not (is_comparison f)) refl kf _ _ ∙ ap₂ (λ x y. x_of (all_registers q (set_flags g (operated f widths.Byte x y g.flags).flags) sp)) e (laws.below.registers.bytes q g sp r)) (compared_flags widths.Byte f v (byte_in g r)),
            refl,
            refl,
          )))

      compare_byte_number : (start : ℕ) (f : AluOperation) (t : Memory) (n : ℕ) → Fits (i.AluByte f (Immediate (places.Memory t) n)) start
      unfolding effect computed
      compare_byte_number start f t x = let n = i.AluByte f (Immediate (places.Memory t) x) in
          unless_meets (not (is_comparison f)) (not (is_comparison f)) _ n (effect m n start before) refl (λ kf.
          reads_meet widths.Byte t (place_of find g t widths.Byte) refl (λ v. Own q (set_flags g (operated f widths.Byte v x g.flags).flags) st false o) n (effect m n start before) refl (λ v e. (
            settled q hq (set_flags g (operated f widths.Byte v x g.flags).flags) _ on
                (compared_to f (not (is_comparison f)) refl kf _ _ ∙ ap (λ y. x_of (all_registers q (set_flags g (operated f widths.Byte y x g.flags).flags) sp)) e) (compared_flags widths.Byte f v x),
            refl,
            refl,
          )))

      -- a test of memory with a mask
      test_byte_memory : (start : ℕ) (t : Memory) (n : TestMask Register8 ℕ) → Fits (i.TestByte (places.Memory t) n) start
      unfolding effect tested_place
      test_byte_memory start t x = let n = i.TestByte (places.Memory t) x in
          reads_meet widths.Byte t (place_of find g t widths.Byte) refl (λ v. Own q (set_flags g (tested widths.Byte v (byte_mask g x) g.flags)) st false o) n (effect m n start before) refl (λ v e. (
            settled q hq (set_flags g (tested widths.Byte v (byte_mask g x) g.flags)) _ on
                (ap₂ (λ y z. x_of (all_registers q (set_flags g (tested widths.Byte y z g.flags)) sp)) e (byte_mask_is laws.below.registers q g sp x)) (tested_keeps laws.below widths.Byte v (byte_mask g x) on g.flags flags),
            refl,
            refl,
          ))

      keep_word : (start : ℕ) (r : Register16) (t : Memory) → Fits (i.MoveWord (FromRegister (places.Memory t) r)) start
      unfolding effect moves.moved
      keep_word start r t = let n = i.MoveWord (FromRegister (places.Memory t) r) in
          unless_meets (is_sp r) (is_sp r) _ n (effect m n start before) refl (λ k.
          writes_meet widths.Word t (word_in g r) (place_of find g t widths.Word) refl n (effect m n start before) refl (ap (store_in widths.Word t.segment (offset_of (all_registers q g sp) t.address)) (laws.below.registers.words q g sp r k)))

      keep_byte : (start : ℕ) (r : Register8) (t : Memory) → Fits (i.MoveByte (FromRegister (places.Memory t) r)) start
      unfolding effect moves.moved
      keep_byte start r t = let n = i.MoveByte (FromRegister (places.Memory t) r) in
          writes_meet widths.Byte t (byte_in g r) (place_of find g t widths.Byte) refl n (effect m n start before) refl (ap (store_in widths.Byte t.segment (offset_of (all_registers q g sp) t.address)) (laws.below.registers.bytes q g sp r))

      keep_word_number : (start v : ℕ) (t : Memory) → Fits (i.MoveWord (Immediate (places.Memory t) v)) start
      unfolding effect moves.moved
      keep_word_number start v t = let n = i.MoveWord (Immediate (places.Memory t) v) in
          writes_meet widths.Word t v (place_of find g t widths.Word) refl n (effect m n start before) refl refl

      keep_byte_number : (start v : ℕ) (t : Memory) → Fits (i.MoveByte (Immediate (places.Memory t) v)) start
      unfolding effect moves.moved
      keep_byte_number start v t = let n = i.MoveByte (Immediate (places.Memory t) v) in
          writes_meet widths.Byte t v (place_of find g t widths.Byte) refl n (effect m n start before) refl refl

      -- ---- ports

      input_value : (width : Width) (port : ℕ) → m.port_value w width port ≡ c.value s.chips width port
      input_value width port = laws.value w width port ∙ ap (λ x. c.value x width port) fine.chips_are

      input_flags : (width : Width) (x : ℕ) → (input_gives width g x).flags ≡ g.flags
      input_flags widths.Byte x = refl
      input_flags widths.Word x = refl

      abbrev input_to : Width → ℕ → ℕ → Machine W
      input_to width port v = record { registers = all_registers q (input_gives width g v) sp; world = m.port_in w width port; labels = input_label width port v ∷ [] }

      input_is : (width : Width) (p : Port) → read_in m width p before ≡ input_to width (port_in g p) (c.value s.chips width (port_in g p))
      unfolding read_in
      input_is widths.Byte p = let port = port_in g p in
          let small : c.value s.chips widths.Byte port % 256 ≡ c.value s.chips widths.Byte port = omega (arith, c.value_fits s.chips widths.Byte port) in
          ap (λ y. input_to widths.Byte y (m.port_value w widths.Byte y % 256)) (laws.below.registers.ports q g sp p) ∙ ap (λ v. input_to widths.Byte port (v % 256)) (input_value widths.Byte port) ∙ ap (input_to widths.Byte port) small
      input_is widths.Word p = let port = port_in g p in
          let small : c.value s.chips widths.Word port % 65536 ≡ c.value s.chips widths.Word port = omega (arith, c.value_fits s.chips widths.Word port) in
          ap (λ y. input_to widths.Word y (m.port_value w widths.Word y % 65536)) (laws.below.registers.ports q g sp p) ∙ ap (λ v. input_to widths.Word port (v % 65536)) (input_value widths.Word port) ∙ ap (input_to widths.Word port) small

      input_runs : (start : ℕ) (width : Width) (p : Port) → Fits (i.In width p) start
      unfolding effect
      input_runs start width p =
          let port = port_in g p in
          let v = c.value s.chips width port in
          let u = m.port_in w width port in
          let done : At q (input_gives width g v) st base o (with_chips (c.reading s.chips width port) s) on (input_label width port v ∷ []) (read_in m width p before) = record {
            sp = sp;
            w = u;
            is = input_is width p;
            stack = Memory.stack_chips m c chips Whole laws code words entry placed size is_placed w u sp st base (room main handler o) (laws.ports.reading w width port) stack;
            fine = Memory.fine_chips m c chips Whole laws code words entry placed size is_placed s w u (c.reading s.chips width port) (laws.ports.reading w width port) (laws.in_stays w width port fine.whole) (laws.in_chips w width port ∙ ap (λ x. c.reading x width port) fine.chips_are) fine;
            flags = subst (FlagsAre on) (sym (input_flags width v)) flags;
            low = hq;
          } in
          ((done, refl, refl), refl)

      output_is : (width : Width) (p : Port) → written_out m width p before ≡ record { registers = all_registers q g sp; world = m.port_out w width (port_in g p) (output_takes width g); labels = output_label width (port_in g p) (output_takes width g) ∷ [] }
      unfolding written_out
      output_is widths.Byte p = ap (λ port. record { registers = all_registers q g sp; world = m.port_out w widths.Byte port (output_takes widths.Byte g); labels = output_label widths.Byte port (output_takes widths.Byte g) ∷ [] }) (laws.below.registers.ports q g sp p)
      output_is widths.Word p = ap (λ port. record { registers = all_registers q g sp; world = m.port_out w widths.Word port (output_takes widths.Word g); labels = output_label widths.Word port (output_takes widths.Word g) ∷ [] }) (laws.below.registers.ports q g sp p)

      output_runs : (start : ℕ) (width : Width) (p : Port) → Fits (i.Out width p) start
      unfolding effect
      output_runs start width p =
          let port = port_in g p in
          let v = output_takes width g in
          let u = m.port_out w width port v in
          let done : At q g st base o (with_chips (c.writing s.chips width port v) s) on (output_label width port v ∷ []) (written_out m width p before) = record {
            sp = sp;
            w = u;
            is = output_is width p;
            stack = Memory.stack_chips m c chips Whole laws code words entry placed size is_placed w u sp st base (room main handler o) (laws.ports.writing w width port v) stack;
            fine = Memory.fine_chips m c chips Whole laws code words entry placed size is_placed s w u (c.writing s.chips width port v) (laws.ports.writing w width port v) (laws.out_stays w width port v fine.whole) (laws.out_chips w width port v ∙ ap (λ x. c.writing x width port v) fine.chips_are) fine;
            flags = flags;
            low = hq;
          } in
          ((done, refl, refl), refl)

      -- ---- every instruction but IRET

      move_word_runs : (start : ℕ) (operands : Operands Register16 ℕ) → Fits (i.MoveWord operands) start
      move_word_runs start (FromRegister (places.Register r) t) = move_word_register start r t
      move_word_runs start (FromRegister (places.Memory d) t) = keep_word start t d
      move_word_runs start (FromMemory r t) = fetch_word start r t
      move_word_runs start (Immediate (places.Register r) v) = move_word_immediate start v r
      move_word_runs start (Immediate (places.Memory d) v) = keep_word_number start v d

      move_byte_runs : (start : ℕ) (operands : Operands Register8 ℕ) → Fits (i.MoveByte operands) start
      move_byte_runs start (FromRegister (places.Register r) t) = move_byte_register start r t
      move_byte_runs start (FromRegister (places.Memory d) t) = keep_byte start t d
      move_byte_runs start (FromMemory r t) = fetch_byte start r t
      move_byte_runs start (Immediate (places.Register r) v) = move_byte_immediate start v r
      move_byte_runs start (Immediate (places.Memory d) v) = keep_byte_number start v d

      alu_word_runs : (start : ℕ) (f : AluOperation) (operands : Operands Register16 ℕ) → Fits (i.AluWord f operands) start
      alu_word_runs start f (FromRegister (places.Register r) t) = alu_word_register start f r t
      alu_word_runs start f (FromRegister (places.Memory d) t) = compare_word start f d t
      alu_word_runs start f (FromMemory r t) = alu_word_memory start f r t
      alu_word_runs start f (Immediate (places.Register r) v) = alu_word_immediate start f r v
      alu_word_runs start f (Immediate (places.Memory d) v) = compare_word_number start f d v

      alu_byte_runs : (start : ℕ) (f : AluOperation) (operands : Operands Register8 ℕ) → Fits (i.AluByte f operands) start
      alu_byte_runs start f (FromRegister (places.Register r) t) = alu_byte_register start f r t
      alu_byte_runs start f (FromRegister (places.Memory d) t) = compare_byte start f d t
      alu_byte_runs start f (FromMemory r t) = alu_byte_memory start f r t
      alu_byte_runs start f (Immediate (places.Register r) v) = alu_byte_immediate start f r v
      alu_byte_runs start f (Immediate (places.Memory d) v) = compare_byte_number start f d v

      pub instr_runs : (start : ℕ) (n : Instr) → NotIret n → Fits n start
      instr_runs start i.Nop ni = nop start a refl
      instr_runs start (i.MoveWord operands) ni = move_word_runs start operands
      instr_runs start (i.MoveByte operands) ni = move_byte_runs start operands
      instr_runs start (i.AluWord f operands) ni = alu_word_runs start f operands
      instr_runs start (i.AluByte f operands) ni = alu_byte_runs start f operands
      instr_runs start (i.TestWord (places.Register r) n) ni = test_word start r n
      instr_runs start (i.TestWord (places.Memory d) n) ni = tt
      instr_runs start (i.TestByte (places.Register r) n) ni = test_byte start r n
      instr_runs start (i.TestByte (places.Memory d) n) ni = test_byte_memory start d n
      instr_runs start (i.ExchangeWords p) ni = exchange_words start p
      instr_runs start (i.UnaryWord f (places.Register r)) ni = unary_word start f r
      instr_runs start (i.UnaryWord f (places.Memory d)) ni = tt
      instr_runs start (i.UnaryByte f (places.Register r)) ni = unary_byte start f r
      instr_runs start (i.UnaryByte f (places.Memory d)) ni = tt
      instr_runs start (i.ShiftWord f (places.Register r) k) ni = shift_word start f r k
      instr_runs start (i.ShiftWord f (places.Memory d) k) ni = tt
      instr_runs start (i.ShiftByte f (places.Register r) k) ni = shift_byte start f r k
      instr_runs start (i.ShiftByte f (places.Memory d) k) ni = tt
      instr_runs start (i.MultiplyWord t (places.Register r)) ni = multiply_word start t r
      instr_runs start (i.MultiplyWord t (places.Memory d)) ni = tt
      instr_runs start (i.MultiplyByte t (places.Register r)) ni = multiply_byte start t r
      instr_runs start (i.MultiplyByte t (places.Memory d)) ni = tt
      instr_runs start (i.DivideWord t (places.Register r)) ni = divide_word start t r
      instr_runs start (i.DivideWord t (places.Memory d)) ni = tt
      instr_runs start (i.DivideByte t (places.Register r)) ni = divide_byte start t r
      instr_runs start (i.DivideByte t (places.Memory d)) ni = tt
      instr_runs start i.ConvertByte ni = convert_byte start
      instr_runs start i.ConvertWord ni = convert_word start
      instr_runs start (i.Push (places.Register r)) ni = push_runs start r
      instr_runs start (i.Push (places.Memory d)) ni = tt
      instr_runs start (i.Pop (places.Register r)) ni = pop_runs start r st refl
      instr_runs start (i.Pop (places.Memory d)) ni = tt
      instr_runs start (i.JumpIf k d) ni = jump_if start k d
      instr_runs start (i.JumpShort d) ni = jump_short start d
      instr_runs start (i.Jump d) ni = jump_near start d
      instr_runs start (i.JumpTo (places.Register r)) ni = jump_to start r
      instr_runs start (i.JumpTo (places.Memory d)) ni = jump_through start d
      instr_runs start (i.Call d) ni = call_runs start d
      instr_runs start i.Return ni = return_runs start st refl
      instr_runs start (i.In width p) ni = input_runs start width p
      instr_runs start (i.Out width p) ni = output_runs start width p
      instr_runs start i.DisableInterrupts ni = cli_runs start
      instr_runs start i.EnableInterrupts ni = sti_runs start o refl
      instr_runs start i.Halt ni = halt start a refl
      instr_runs start i.InterruptReturn ni = absurd ni
      instr_runs start _ ni = tt

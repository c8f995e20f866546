-- The loop of start-up that sets all vectors.
use Rattle.std.proofs.Common.{◌≡◌, ℕ, zero, suc, ◌+◌, ◌-◌, ◌*◌, ◌/◌, ◌%◌, ◌<◌, ◌≤◌, ◌==◌, ◌⊎◌, inl, inr, Bool, true, false, not, [], Option, Some, refl, sym, ap, ◌∙◌, subst, arith, ap₂, ⊎_elim, eq-eqb}
use Rattle.std.proofs.lemmas.Bool.{ne_eqb, cases_eq}
use Rattle.word86.specs.MemoryMap.{ram_size, vectors_size, code_segment}
use Rattle.word86.specs.declared.event.Event.{Event}
use Rattle.word86.specs.declared.width.Width.TheVariants as widths
use Rattle.word86.specs.Chips.{Chips}
use Rattle.plm_meaning.specs.Store.{Store}
use Rattle.i86_table.specs.declared.registers.Regs.{Regs}
use Rattle.i86_table.specs.declared.registers.Register16.TheVariants.{Bx}
use Rattle.i86_table.specs.declared.flags.Flags.{Flags}
use Rattle.i86_table.specs.declared.instruction.RmOperand.TheVariants as places
use Rattle.i86_table.specs.declared.instruction.Operands.TheVariants.{Immediate}
use Rattle.i86_table.specs.declared.instruction.AluOperation.TheVariants.{Add, Cmp}
use Rattle.i86_table.specs.declared.instruction.Condition.TheVariants as conditions
use Rattle.i86_table.specs.declared.instruction.Instr.{Instr}
use Rattle.i86_table.specs.declared.instruction.Instr.TheVariants as i
use Rattle.i86_table.specs.Arithmetic.{has, with_result, added, subtracted, operated, sign_extended}
use Rattle.i86_table.specs.Contexts.{bytes, further}
use Rattle.cpu8086.specs.declared.bus.Store.TheVariants as stores
use Rattle.cpu8086.specs.declared.cpu.Phase.TheVariants.{Running}
use Rattle.cpu8086.specs.BusModel.{BusModel}
use Rattle.cpu8086.specs.BusLaws.{stored}
use Rattle.cpu8086.specs.Machine.{Machine, stored_access, stored_at, labels_of}
use Rattle.cpu8086.specs.Control.{jumped_if}
use Rattle.cpu8086.specs.Arithmetic.{computed}
use Rattle.cpu8086.specs.Moves.{moved}
use Rattle.cpu8086.specs.Effect.{effect}
use Rattle.cpu8086.specs.Turn.{GeneralRegisters, reset_with, phase_after}
use Rattle.layout_link.specs.Startup.{low_half, high_half, HasLoop}
use Rattle.plm86.specs.Startup.{word_put, with_vectors}
use Rattle.plm86.specs.Inner.BoardLaws.{LawsBelow, OfBoard, Events}
use Rattle.board.specs.Machine.{Board}
use Rattle.plm86.specs.Relation.{FlagsAre}
use Rattle.plm86.proofs.Machine.Memory
use Rattle.plm86.proofs.Machine.Data
use Rattle.plm86.proofs.Machine.Data.{store_at}
use Rattle.plm86.proofs.Machine.FlagLaws.{operated_keeps}
use Rattle.plm86.proofs.Machine.Startup.{Known, Boot, Leads, steps_by, then_leads}

-- the flag that a comparison leaves for JNE
compared : (below : LawsBelow) (a b : ℕ) (f : Flags) → has (operated Cmp widths.Word a b f).flags 64 ≡ ((a + 65536 - (b + 0)) % 65536 == 0)
unfolding operated subtracted with_result
compared below a b f = below.other_flags 4 64 _ _ refl refl ∙ below.other_flags 128 64 _ _ refl refl ∙ below.set_flag 64 _ _ (omega arith) refl

sum_is : (a b : ℕ) (fl : Flags) → a + b < 65536 → (operated Add widths.Word a b fl).value ≡ a + b
unfolding operated added
sum_is a b fl h = omega (arith, h)

-- the registers that the loop leaves alone are as at the reset
abbrev pub loop_registers : GeneralRegisters → (ax bx ip : ℕ) → Flags → Regs
loop_registers general ax bx ip fl = record (reset_with general).registers { ax = ax; dx = code_segment; bx = bx; cs = code_segment; ip = ip; flags = fl }

module _ {W P : Type 0} (m : BusModel W) (c : Chips P) (chips : W → P) (Whole : W → Type 0) (laws : OfBoard m c chips Whole)
    (occurs : Event → W → W) (events : Events m c chips Whole occurs) (code : ℕ → Option (Instr × ℕ)) (Begins : Board W → Store P → Type 0) (place : ℕ) where
  abbrev Boots : Regs → (ℕ → ℕ) → Board W → P → Type 0
  Boots r f b p = Boot m c chips Whole laws occurs events code r f b p

  abbrev To : ℕ → (Board W → P → Type 0) → (Board W → P → Type 0) → Type 0
  To k S T = Leads m c chips Whole laws occurs events code Begins place k S T

  abbrev Has : (ℕ → ℕ) → P → W → Type 0
  Has f p w = Known m c chips Whole laws occurs events code f p w

  -- a store to RAM
  pub world_stored : (f : ℕ → ℕ) (p : P) (w : W) (width : _) (a v : ℕ) → a + bytes width ≤ ram_size → Has f p w → Has (λ b. stored (store_at width a v) b (f b)) p (m.store w (store_at width a v))
  world_stored f p w width a v h k = record {
    whole = laws.stays w (store_at width a v) k.whole;
    spelled = Memory.spelled_kept m c chips Whole laws code w (m.store w (store_at width a v)) (λ b le lt. Memory.lost m c chips Whole laws w (store_at width a v) b k.whole (omega (arith, le)) lt) k.spelled;
    memory = λ b lt. Data.after m c chips Whole laws w width a v (λ n less. laws.ram w k.whole (a + n) (omega (arith, h, less))) b lt ∙ ap (stored (store_at width a v) b) (k.memory b lt);
    chips_are = laws.store_chips w (store_at width a v) ∙ k.chips_are;
  }

  pub low_word : (r : Regs) (off v : ℕ) (w : W) → off + 1 < 65536 → stored_at m widths.Word 0 off v (record { registers = r; world = w; labels = [] }) ≡ record { registers = r; world = m.store w (store_at widths.Word off v); labels = [] }
  unfolding stored_access
  low_word r off v w h =
      ap₂ (λ a b. record { registers = r; world = m.store w (stores.Word a b v); labels = labels_of (m.store_label w (stores.Word a b v)) }) (omega (arith, h)) (omega (arith, h))
      ∙ ap (λ o. record { registers = r; world = m.store w (stores.Word off (off + 1) v); labels = labels_of o }) (Memory.no_label m c chips Whole laws w off (off + 1) v (omega (arith, h)) (omega (arith, h)))

  pub step : (r : Regs) (f : ℕ → ℕ) (n : Instr) (len : ℕ) (q : Regs) (g : ℕ → ℕ) → r.cs ≡ code_segment → has r.flags 512 ≡ false → phase_after n ≡ Running → code r.ip ≡ Some (n, len) → ¬ (r.ip ≡ place)
      → ((p : P) (w : W) → Has f p w → (u : W) × (effect m n r.ip (record { registers = record r { ip = (r.ip + len) % 65536 }; world = w; labels = [] }) ≡ record { registers = q; world = u; labels = [] }) × Has g p u)
      → To 1 (Boots r f) (Boots q g)
  step r f n len q g at off phase here away does = steps_by m c chips Whole laws occurs events code Begins place r f n len q g at off phase here away does

  module _ (general : GeneralRegisters) where
    abbrev regs : (ax bx ip : ℕ) → Flags → Regs
    regs ax bx ip fl = loop_registers general ax bx ip fl

    -- MOV [BX],AX and MOV [BX+2],DX
    first_is : (ax bx l : ℕ) (fl : Flags) (f : ℕ → ℕ) (p : P) (w : W) → bx + 1 < 65536 → l + 2 < 65536 → Has f p w → (u : W) × (effect m low_half l (record { registers = regs ax bx ((l + 2) % 65536) fl; world = w; labels = [] }) ≡ record { registers = regs ax bx (l + 2) fl; world = u; labels = [] }) × Has (word_put bx ax f) p u
    unfolding effect moved
    first_is ax bx l fl f p w h hl k = (
      m.store w (store_at widths.Word bx ax),
      ap₂ (λ a b. stored_at m widths.Word 0 a ax (record { registers = regs ax bx b fl; world = w; labels = [] })) (omega (arith, h)) (omega (arith, hl)) ∙ low_word (regs ax bx (l + 2) fl) bx ax w h,
      world_stored f p w widths.Word bx ax (omega (arith, h)) k,
    )

    second_is : (ax bx l : ℕ) (fl : Flags) (f : ℕ → ℕ) (p : P) (w : W) → bx + 3 < 65536 → l + 3 < 65536 → Has f p w → (u : W) × (effect m high_half l (record { registers = regs ax bx ((l + 3) % 65536) fl; world = w; labels = [] }) ≡ record { registers = regs ax bx (l + 3) fl; world = u; labels = [] }) × Has (word_put (bx + 2) code_segment f) p u
    unfolding effect moved
    second_is ax bx l fl f p w h hl k = (
      m.store w (store_at widths.Word (bx + 2) code_segment),
      ap₂ (λ a b. stored_at m widths.Word 0 a code_segment (record { registers = regs ax bx b fl; world = w; labels = [] })) (omega (arith, h)) (omega (arith, hl)) ∙ low_word (regs ax bx (l + 3) fl) (bx + 2) code_segment w (omega (arith, h)),
      world_stored f p w widths.Word (bx + 2) code_segment (omega (arith, h)) k,
    )

    third_is : (ax bx l : ℕ) (fl : Flags) (f : ℕ → ℕ) (p : P) (w : W) → bx + 4 < 65536 → l + 3 < 65536 → Has f p w → (u : W) × (effect m (i.AluWord Add (Immediate (places.Register Bx) 4)) l (record { registers = regs ax bx ((l + 3) % 65536) fl; world = w; labels = [] }) ≡ record { registers = regs ax (bx + 4) (l + 3) (operated Add widths.Word bx 4 fl).flags; world = u; labels = [] }) × Has f p u
    unfolding effect computed
    third_is ax bx l fl f p w h hl k =
        let value : (operated Add widths.Word bx 4 fl).value ≡ bx + 4 = sum_is bx 4 fl h in
        let at : (l + 3) % 65536 ≡ l + 3 = omega (arith, hl) in
        (w, ap₂ (λ a b. record { registers = regs ax a b (operated Add widths.Word bx 4 fl).flags; world = w; labels = [] }) value at, k)

    fourth_is : (ax bx l : ℕ) (fl : Flags) (f : ℕ → ℕ) (p : P) (w : W) → l + 4 < 65536 → Has f p w → (u : W) × (effect m (i.AluWord Cmp (Immediate (places.Register Bx) vectors_size)) l (record { registers = regs ax bx ((l + 4) % 65536) fl; world = w; labels = [] }) ≡ record { registers = regs ax bx (l + 4) (operated Cmp widths.Word bx vectors_size fl).flags; world = u; labels = [] }) × Has f p u
    unfolding effect computed
    fourth_is ax bx l fl f p w hl k = (w, ap (λ b. record { registers = regs ax bx b (operated Cmp widths.Word bx vectors_size fl).flags; world = w; labels = [] }) (omega (arith, hl)), k)

    fifth_on : (ax bx l back : ℕ) (fl : Flags) (f : ℕ → ℕ) (p : P) (w : W) → l + 2 < 65536 → has fl 64 ≡ false → Has f p w → (u : W) × (effect m (i.JumpIf conditions.NotEqual back) l (record { registers = regs ax bx ((l + 2) % 65536) fl; world = w; labels = [] }) ≡ record { registers = regs ax bx (further (l + 2) (sign_extended back)) fl; world = u; labels = [] }) × Has f p u
    unfolding effect
    fifth_on ax bx l back fl f p w hl z k =
        let x : ℕ → Machine W = λ b. record { registers = regs ax bx b fl; world = w; labels = [] } in
        (w, ap (λ (t : Bool). record { registers = jumped_if (not t) back (regs ax bx ((l + 2) % 65536) fl); world = w; labels = [] }) z ∙ ap (λ b. x (further b (sign_extended back))) (omega (arith, hl)), k)

    fifth_off : (ax bx l back : ℕ) (fl : Flags) (f : ℕ → ℕ) (p : P) (w : W) → l + 2 < 65536 → has fl 64 ≡ true → Has f p w → (u : W) × (effect m (i.JumpIf conditions.NotEqual back) l (record { registers = regs ax bx ((l + 2) % 65536) fl; world = w; labels = [] }) ≡ record { registers = regs ax bx (l + 2) fl; world = u; labels = [] }) × Has f p u
    unfolding effect
    fifth_off ax bx l back fl f p w hl z k =
        let x : ℕ → Machine W = λ b. record { registers = regs ax bx b fl; world = w; labels = [] } in
        (w, ap (λ (t : Bool). record { registers = jumped_if (not t) back (regs ax bx ((l + 2) % 65536) fl); world = w; labels = [] }) z ∙ ap x (omega (arith, hl)), k)

    -- some flags, interrupts off
    abbrev pub Somewhere : ℕ → ℕ → ℕ → (ℕ → ℕ) → Board W → P → Type 0
    Somewhere ax bx ip f b p = (fl : Flags) × FlagsAre false fl × Boots (regs ax bx ip fl) f b p

    module _ (l back : ℕ) (loop : HasLoop code l back) (before : l + 14 ≤ place) (ax : ℕ) where
      four : (k : ℕ) (f : ℕ → ℕ) (fl : Flags) → k < 256 → FlagsAre false fl
          → To 4 (Boots (regs ax (4 * k) l fl) f) (Boots (regs ax (4 * k + 4) (l + 12) (operated Cmp widths.Word (4 * k + 4) vectors_size (operated Add widths.Word (4 * k) 4 fl).flags).flags) (word_put (4 * k + 2) code_segment (word_put (4 * k) ax f)))
      four k f fl h ok =
          let bx = 4 * k in
          let f1 = word_put bx ax f in
          let f2 = word_put (bx + 2) code_segment f1 in
          let fl1 = (operated Add widths.Word bx 4 fl).flags in
          let fl2 = (operated Cmp widths.Word (bx + 4) vectors_size fl1).flags in
          let ok1 = operated_keeps laws.below Add widths.Word bx 4 false fl ok in
          let s1 = step (regs ax bx l fl) f low_half 2 (regs ax bx (l + 2) fl) f1 refl ok.on_is refl loop.first (λ e. omega (arith, e, before)) (λ p w. first_is ax bx l fl f p w (omega (arith, h)) (omega (arith, loop.fits))) in
          let s2 = step (regs ax bx (l + 2) fl) f1 high_half 3 (regs ax bx (l + 2 + 3) fl) f2 refl ok.on_is refl loop.second (λ e. omega (arith, e, before)) (λ p w. second_is ax bx (l + 2) fl f1 p w (omega (arith, h)) (omega (arith, loop.fits))) in
          let s3 = step (regs ax bx (l + 2 + 3) fl) f2 (i.AluWord Add (Immediate (places.Register Bx) 4)) 3 (regs ax (bx + 4) (l + 2 + 3 + 3) fl1) f2 refl ok.on_is refl (ap code (omega arith) ∙ loop.third) (λ e. omega (arith, e, before)) (λ p w. third_is ax bx (l + 2 + 3) fl f2 p w (omega (arith, h)) (omega (arith, loop.fits))) in
          let s4 = step (regs ax (bx + 4) (l + 2 + 3 + 3) fl1) f2 (i.AluWord Cmp (Immediate (places.Register Bx) vectors_size)) 4 (regs ax (bx + 4) (l + 2 + 3 + 3 + 4) fl2) f2 refl ok1.on_is refl (ap code (omega arith) ∙ loop.fourth) (λ e. omega (arith, e, before)) (λ p w. fourth_is ax (bx + 4) (l + 2 + 3 + 3) fl1 f2 p w (omega (arith, loop.fits))) in
          let two = then_leads m c chips Whole laws occurs events code Begins place 1 1 (Boots (regs ax bx l fl) f) (Boots (regs ax bx (l + 2) fl) f1) (Boots (regs ax bx (l + 2 + 3) fl) f2) s1 s2 in
          let three = then_leads m c chips Whole laws occurs events code Begins place 2 1 (Boots (regs ax bx l fl) f) (Boots (regs ax bx (l + 2 + 3) fl) f2) (Boots (regs ax (bx + 4) (l + 2 + 3 + 3) fl1) f2) two s3 in
          let all = then_leads m c chips Whole laws occurs events code Begins place 3 1 (Boots (regs ax bx l fl) f) (Boots (regs ax (bx + 4) (l + 2 + 3 + 3) fl1) f2) (Boots (regs ax (bx + 4) (l + 2 + 3 + 3 + 4) fl2) f2) three s4 in
          let here : l + 2 + 3 + 3 + 4 ≡ l + 12 = omega arith in
          subst (λ z. To 4 (Boots (regs ax bx l fl) f) (Boots (regs ax (bx + 4) z fl2) f2)) here all

      again_at : (fl : Flags) (bx : ℕ) → bx < vectors_size → has (operated Cmp widths.Word bx vectors_size fl).flags 64 ≡ false
      again_at fl bx h = compared laws.below bx vectors_size fl ∙ ne_eqb ((bx + 65536 - (vectors_size + 0)) % 65536) 0 (λ e. absurd (omega (arith, e, h)))

      done_at : (fl : Flags) (bx : ℕ) → bx ≡ vectors_size → has (operated Cmp widths.Word bx vectors_size fl).flags 64 ≡ true
      done_at fl bx h = compared laws.below bx vectors_size fl ∙ eq-eqb ((bx + 65536 - (vectors_size + 0)) % 65536) 0 (omega (arith, h))

      -- a round that goes on
      round : (k : ℕ) (f : ℕ → ℕ) → k < 255 → To 5 (Somewhere ax (4 * k) l f) (Somewhere ax (4 * suc k) l (word_put (4 * k + 2) code_segment (word_put (4 * k) ax f)))
      round k f h j b s at rest =
          let fl = at.0 in
          let bx = 4 * k + 4 in
          let f2 = word_put (4 * k + 2) code_segment (word_put (4 * k) ax f) in
          let fl1 = (operated Add widths.Word (4 * k) 4 fl).flags in
          let fl2 = (operated Cmp widths.Word bx vectors_size fl1).flags in
          let ok2 : FlagsAre false fl2 = operated_keeps laws.below Cmp widths.Word bx vectors_size false fl1 (operated_keeps laws.below Add widths.Word (4 * k) 4 false fl at.1) in
          let s5 = step (regs ax bx (l + 12) fl2) f2 (i.JumpIf conditions.NotEqual back) 2 (regs ax bx (further (l + 12 + 2) (sign_extended back)) fl2) f2 refl ok2.on_is refl loop.fifth (λ e. omega (arith, e, before)) (λ p w. fifth_on ax bx (l + 12) back fl2 f2 p w (omega (arith, loop.fits)) (again_at fl1 bx (omega (arith, h)))) in
          let all = then_leads m c chips Whole laws occurs events code Begins place 4 1 (Boots (regs ax (4 * k) l fl) f) (Boots (regs ax bx (l + 12) fl2) f2) (Boots (regs ax bx (further (l + 12 + 2) (sign_extended back)) fl2) f2) (four k f fl (omega (arith, h)) at.1) s5 in
          let to : further (l + 12 + 2) (sign_extended back) ≡ l = ap (λ z. further z (sign_extended back)) (omega arith) ∙ loop.again in
          let next : bx ≡ 4 * suc k = omega arith in
          all j b s at.2 (λ d p t. rest d p (fl2, ok2, subst (λ z. Boots (regs ax z l fl2) f2 d p) next (subst (λ z. Boots (regs ax bx z fl2) f2 d p) to t)))

      -- the last one
      last_round : (f : ℕ → ℕ) → To 5 (Somewhere ax (4 * 255) l f) (Somewhere ax vectors_size (l + 14) (word_put (4 * 255 + 2) code_segment (word_put (4 * 255) ax f)))
      last_round f j b s at rest =
          let fl = at.0 in
          let bx = 4 * 255 + 4 in
          let f2 = word_put (4 * 255 + 2) code_segment (word_put (4 * 255) ax f) in
          let fl1 = (operated Add widths.Word (4 * 255) 4 fl).flags in
          let fl2 = (operated Cmp widths.Word bx vectors_size fl1).flags in
          let ok2 : FlagsAre false fl2 = operated_keeps laws.below Cmp widths.Word bx vectors_size false fl1 (operated_keeps laws.below Add widths.Word (4 * 255) 4 false fl at.1) in
          let s5 = step (regs ax bx (l + 12) fl2) f2 (i.JumpIf conditions.NotEqual back) 2 (regs ax bx (l + 12 + 2) fl2) f2 refl ok2.on_is refl loop.fifth (λ e. omega (arith, e, before)) (λ p w. fifth_off ax bx (l + 12) back fl2 f2 p w (omega (arith, loop.fits)) (done_at fl1 bx (omega arith))) in
          let all = then_leads m c chips Whole laws occurs events code Begins place 4 1 (Boots (regs ax (4 * 255) l fl) f) (Boots (regs ax bx (l + 12) fl2) f2) (Boots (regs ax bx (l + 12 + 2) fl2) f2) (four 255 f fl (omega arith) at.1) s5 in
          let to : l + 12 + 2 ≡ l + 14 = omega arith in
          let next : bx ≡ vectors_size = omega arith in
          all j b s at.2 (λ d p t. rest d p (fl2, ok2, subst (λ z. Boots (regs ax z (l + 14) fl2) f2 d p) next (subst (λ z. Boots (regs ax bx z fl2) f2 d p) to t)))

      -- i more vectors from the k-th on
      loops : (i k : ℕ) (f : ℕ → ℕ) → k + suc i ≡ 256 → To (5 * suc i) (Somewhere ax (4 * k) l f) (Somewhere ax vectors_size (l + 14) (with_vectors ax k (suc i) f))
      unfolding with_vectors
      loops zero k f e =
          let last : k ≡ 255 = omega (arith, e) in
          subst (λ z. To 5 (Somewhere ax (4 * z) l f) (Somewhere ax vectors_size (l + 14) (word_put (4 * z + 2) code_segment (word_put (4 * z) ax f)))) (sym last) (last_round f)
      loops (suc i) k f e =
          let f2 = word_put (4 * k + 2) code_segment (word_put (4 * k) ax f) in
          let more : 5 + 5 * suc i ≡ 5 * suc (suc i) = omega arith in
          subst (λ n. To n (Somewhere ax (4 * k) l f) (Somewhere ax vectors_size (l + 14) (with_vectors ax (suc k) (suc i) f2))) more
          (then_leads m c chips Whole laws occurs events code Begins place 5 (5 * suc i) (Somewhere ax (4 * k) l f) (Somewhere ax (4 * suc k) l f2) (Somewhere ax vectors_size (l + 14) (with_vectors ax (suc k) (suc i) f2))
          (round k f (omega (arith, e))) (loops i (suc k) f2 (omega (arith, e))))

      -- all 256 vectors are set in 1,280 turns
      pub sets_vectors : (f : ℕ → ℕ) → To 1280 (Somewhere ax 0 l f) (Somewhere ax vectors_size (l + 14) (with_vectors ax 0 256 f))
      sets_vectors f = loops 255 0 f (omega arith)

-- what the loop leaves: below, as before; the vectors; above, as before
stored_far : (at v a x : ℕ) → (a < at) ⊎ (at + 1 < a) → stored (store_at widths.Word at v) a x ≡ x
stored_far at v a x h = Data.stored_apart widths.Word at v a x (λ n less e. ⊎_elim (λ g. absurd (omega (arith, g, e))) (λ g. absurd (omega (arith, g, e, less))) h)

pub rounds_beside : (ax k i : ℕ) (f : ℕ → ℕ) (a : ℕ) → (a < 4 * k) ⊎ (4 * (k + i) ≤ a) → with_vectors ax k i f a ≡ f a
unfolding with_vectors
rounds_beside ax k zero f a h = refl
rounds_beside ax k (suc i) f a h =
    rounds_beside ax (suc k) i (word_put (4 * k + 2) code_segment (word_put (4 * k) ax f)) a (⊎_elim (λ g. inl (omega (arith, g))) (λ g. inr (omega (arith, g))) h)
    ∙ stored_far (4 * k + 2) code_segment a (word_put (4 * k) ax f a) (⊎_elim (λ g. inl (omega (arith, g))) (λ g. inr (omega (arith, g))) h)
    ∙ stored_far (4 * k) ax a (f a) (⊎_elim (λ g. inl (omega (arith, g))) (λ g. inr (omega (arith, g))) h)

pub rounds_set : (ax k i : ℕ) (f : ℕ → ℕ) (n : ℕ) → k ≤ n → n < k + i → (with_vectors ax k i f (4 * n) ≡ ax % 256) × (with_vectors ax k i f (4 * n + 1) ≡ ax / 256) × (with_vectors ax k i f (4 * n + 2) ≡ code_segment % 256) × (with_vectors ax k i f (4 * n + 3) ≡ code_segment / 256)
unfolding with_vectors
rounds_set ax k zero f n le lt = absurd (omega (arith, le, lt))
rounds_set ax k (suc i) f n le lt = elim (cases_eq n k) [
  | inr ne ↦ rounds_set ax (suc k) i (word_put (4 * k + 2) code_segment (word_put (4 * k) ax f)) n (omega (arith, ne, le)) (omega (arith, lt))
  | inl e ↦ let g = word_put (4 * k) ax f in
      let f2 = word_put (4 * k + 2) code_segment g in
      let here : 4 * n ≡ 4 * k = omega (arith, e) in
      let zero_more : 4 * n ≡ 4 * n + 0 = omega arith in
      let zero_k : 4 * k + 0 ≡ 4 * k = omega arith in
      let three_k : 4 * k + 3 ≡ 4 * k + 2 + 1 = omega arith in
      let at : (d : ℕ) → d < 4 → with_vectors ax (suc k) i f2 (4 * n + d) ≡ f2 (4 * k + d) = λ d less. ap (λ z. with_vectors ax (suc k) i f2 (z + d)) here ∙ rounds_beside ax (suc k) i f2 (4 * k + d) (inl (omega (arith, less))) in (
        ap (with_vectors ax (suc k) i f2) zero_more ∙ at 0 (omega arith) ∙ ap f2 zero_k ∙ stored_far (4 * k + 2) code_segment (4 * k) (g (4 * k)) (inl (omega arith)) ∙ Memory.stored_word_low (4 * k) (4 * k + 1) ax (f (4 * k)) (λ q. absurd (omega (arith, q))),
        at 1 (omega arith) ∙ stored_far (4 * k + 2) code_segment (4 * k + 1) (g (4 * k + 1)) (inl (omega arith)) ∙ Memory.stored_word_high (4 * k) (4 * k + 1) ax (f (4 * k + 1)),
        at 2 (omega arith) ∙ Memory.stored_word_low (4 * k + 2) (4 * k + 2 + 1) code_segment (g (4 * k + 2)) (λ q. absurd (omega (arith, q))),
        at 3 (omega arith) ∙ ap f2 three_k ∙ Memory.stored_word_high (4 * k + 2) (4 * k + 2 + 1) code_segment (g (4 * k + 2 + 1)),
      )
]

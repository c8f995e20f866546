-- Start-up's code leads from the reset to main.
use Rattle.std.proofs.Common.{◌≡◌, ℕ, suc, ◌+◌, ◌<◌, ◌≤◌, false, List, [], ◌∷◌, ◌++◌, map, Option, Some, refl, sym, ap, ◌∙◌, subst, arith, append-nil}
use Rattle.word86.specs.MemoryMap.{vectors_size, data_segment, screen_segment, code_segment, stack_top, reset_offset}
use Rattle.word86.specs.declared.event.Event.{Event}
use Rattle.word86.specs.declared.width.Width.TheVariants as widths
use Rattle.word86.specs.Chips.{Chips}
use Rattle.plm_meaning.specs.Store.{Store}
use Rattle.word86.specs.Event.{event_label}
use Rattle.i86_table.specs.declared.registers.Regs.{Regs}
use Rattle.i86_table.specs.declared.registers.Register16.{Register16}
use Rattle.i86_table.specs.declared.registers.Register16.TheVariants.{Ax, Cx, Dx, Bx, Sp, Si, Di}
use Rattle.i86_table.specs.declared.registers.LoadableSegment.{LoadableSegment}
use Rattle.i86_table.specs.declared.registers.LoadableSegment.TheVariants as loadables
use Rattle.i86_table.specs.declared.instruction.RmOperand.TheVariants as places
use Rattle.i86_table.specs.declared.instruction.Instr.{Instr}
use Rattle.i86_table.specs.declared.instruction.Instr.TheVariants as i
use Rattle.i86_table.specs.State.{with_word, with_segment}
use Rattle.i86_table.specs.Arithmetic.{has, with_flag, flag_bit}
use Rattle.i86_table.specs.Contexts.{Working, all_registers, working, further}
use Rattle.i86_table.specs.Words.{AreWords}
use Rattle.i86_code.specs.Decoding.{decoded}
use Rattle.cpu8086.specs.declared.cpu.Phase.TheVariants.{Running}
use Rattle.cpu8086.specs.BusModel.{BusModel}
use Rattle.cpu8086.specs.Machine.{Machine, stored_at, loaded_byte}
use Rattle.cpu8086.specs.Moves.{moved, moved_to_segment}
use Rattle.cpu8086.specs.Effect.{effect}
use Rattle.cpu8086.specs.Turn.{GeneralRegisters, HoldWords, reset_with, phase_after, fetched}
use Rattle.plm86.specs.Inner.BoardLaws.{OfBoard, Events}
use Rattle.board.specs.Machine.{Board, all_occur, goes}
use Rattle.plm86.specs.Relation.{FlagsAre}
use Rattle.layout_link.specs.Startup.{load_word, put_word, put_byte, Stands, Act, PutWord, PutByte, Copy, HasAct, HasActs, turns_of, turns_of_all, HasStartUp, start_up_turns}
use Rattle.plm86.specs.Startup.{word_put, byte_put, with_vectors, copied, after_act, after_acts}
use Rattle.plm86.proofs.Machine.Data.{store_at}
use Rattle.plm86.proofs.Machine.FlagLaws.{direction_keeps}
use Rattle.plm86.proofs.Machine.Startup
use Rattle.plm86.proofs.Machine.Startup.{Known, Boot, Leads, steps_by, then_leads, none, one, chips_later, boot_turn, world_later}
use Rattle.plm86.proofs.Machine.Vectors
use Rattle.plm86.proofs.Machine.Vectors.{loop_registers, Somewhere, low_word, world_stored}
use Rattle.plm86.proofs.Machine.Copying.{copying, low_byte, copies}

-- AX is loaded again before main
abbrev pub but_ax : Regs → Working
but_ax r = record (working r) { ax = 0 }

-- between the loop and the loading of segments: data is at 0, and strings go up
pub record IsEarly (r : Regs) : Type 0 where
  pub cs : r.cs ≡ code_segment
  pub ds : r.ds ≡ 0
  pub es : r.es ≡ 0
  pub flags : FlagsAre false r.flags
  pub up : has r.flags 1024 ≡ false
  pub words : AreWords (but_ax r)

abbrev pub reset_registers : GeneralRegisters → Regs
reset_registers general = (reset_with general).registers

module _ {W P : Type 0} (m : BusModel W) (c : Chips P) (chips : W → P) (Whole : W → Type 0) (laws : OfBoard m c chips Whole)
    (occurs : Event → W → W) (events : Events m c chips Whole occurs) (code : ℕ → Option (Instr × ℕ)) (Begins : Board W → Store P → Type 0) (place : ℕ) where
  abbrev Boots : Regs → (ℕ → ℕ) → Board W → P → Type 0
  Boots r f b p = Boot m c chips Whole laws occurs events code r f b p

  abbrev To : ℕ → (Board W → P → Type 0) → (Board W → P → Type 0) → Type 0
  To k S T = Leads m c chips Whole laws occurs events code Begins place k S T

  abbrev Has : (ℕ → ℕ) → P → W → Type 0
  Has f p w = Known m c chips Whole laws occurs events code f p w

  abbrev chain : (k l : ℕ) (S T U : Board W → P → Type 0) → To k S T → To l T U → To (k + l) S U
  chain k l S T U f g = then_leads m c chips Whole laws occurs events code Begins place k l S T U f g

  -- ---- single instructions

  abbrev behind : Regs → ℕ → W → Machine W
  behind r ip w = record { registers = record r { ip = ip }; world = w; labels = [] }

  -- an instruction that stands here, before that place, and leads there
  steps_to : (r : Regs) (f : ℕ → ℕ) (n : Instr) (q : ℕ → Regs) (g : ℕ → ℕ) (here there : ℕ) → r.cs ≡ code_segment → has r.flags 512 ≡ false → phase_after n ≡ Running → r.ip ≡ here → (length : ℕ) → code here ≡ Some (n, length) → further here length ≡ there → here < place
      → ((ip : ℕ) (p : P) (w : W) → Has f p w → (u : W) × (effect m n r.ip (behind r ip w) ≡ record { registers = q ip; world = u; labels = [] }) × Has g p u)
      → To 1 (Boots r f) (Boots (q there) g)
  steps_to r f n q g here there cs off phase at length st on before does =
      let same : further r.ip length ≡ there = ap (λ z. further z length) at ∙ on in
      subst (λ z. To 1 (Boots r f) (Boots (q z) g)) same
      (steps_by m c chips Whole laws occurs events code Begins place r f n length (q (further r.ip length)) g cs off phase (ap code at ∙ st) (λ e. omega (arith, e, at, before)) (does (further r.ip length)))

  loads : (r : Regs) (f : ℕ → ℕ) (register : Register16) (v here there : ℕ) → r.cs ≡ code_segment → has r.flags 512 ≡ false → r.ip ≡ here → Stands code here (load_word register v) there → here < place → To 1 (Boots r f) (Boots (with_word (record r { ip = there }) register v) f)
  unfolding effect moved
  loads r f register v here there cs off at st before = steps_to r f (load_word register v) (λ ip. with_word (record r { ip = ip }) register v) f here there cs off refl at st.0 st.1 st.2 before (λ ip p w k. (w, refl, k))

  loads_segment : (r : Regs) (f : ℕ → ℕ) (segment : LoadableSegment) (here there : ℕ) → r.cs ≡ code_segment → has r.flags 512 ≡ false → r.ip ≡ here → Stands code here (i.MoveToSegment segment (places.Register Ax)) there → here < place → To 1 (Boots r f) (Boots (with_segment (record r { ip = there }) segment r.ax) f)
  unfolding effect moved_to_segment
  loads_segment r f segment here there cs off at st before = steps_to r f (i.MoveToSegment segment (places.Register Ax)) (λ ip. with_segment (record r { ip = ip }) segment r.ax) f here there cs off refl at st.0 st.1 st.2 before (λ ip p w k. (w, refl, k))

  clears : (r : Regs) (f : ℕ → ℕ) (here there : ℕ) → r.cs ≡ code_segment → has r.flags 512 ≡ false → r.ip ≡ here → Stands code here i.ClearDirection there → here < place → To 1 (Boots r f) (Boots (record r { ip = there; flags = with_flag (flag_bit 1024) false r.flags }) f)
  unfolding effect
  clears r f here there cs off at st before = steps_to r f i.ClearDirection (λ ip. record r { ip = ip; flags = with_flag (flag_bit 1024) false r.flags }) f here there cs off refl at st.0 st.1 st.2 before (λ ip p w k. (w, refl, k))

  jumps : (r : Regs) (f : ℕ → ℕ) (here length d there : ℕ) → r.cs ≡ code_segment → has r.flags 512 ≡ false → r.ip ≡ here → code here ≡ Some (i.Jump d, length) → further (further here length) d ≡ there → here < place → To 1 (Boots r f) (Boots (record r { ip = there }) f)
  unfolding effect
  jumps r f here length d there cs off at st to before = subst (λ z. To 1 (Boots r f) (Boots (record r { ip = z }) f)) to (steps_to r f (i.Jump d) (λ ip. record r { ip = further ip d }) f here (further here length) cs off refl at length st refl before (λ ip p w k. (w, refl, k)))

  puts_word : (r : Regs) (f : ℕ → ℕ) (a v here there : ℕ) → IsEarly r → a + 1 < 65536 → r.ip ≡ here → Stands code here (put_word a v) there → here < place → To 1 (Boots r f) (Boots (record r { ip = there }) (word_put a v f))
  unfolding effect moved
  puts_word r f a v here there e h at st before = steps_to r f (put_word a v) (λ ip. record r { ip = ip }) (word_put a v f) here there e.cs e.flags.on_is refl at st.0 st.1 st.2 before
      (λ ip p w k. (
        m.store w (store_at widths.Word a v),
        ap (λ d. stored_at m widths.Word d a v (behind r ip w)) e.ds ∙ low_word m c chips Whole laws occurs events code Begins place (record r { ip = ip }) a v w h,
        world_stored m c chips Whole laws occurs events code Begins place f p w widths.Word a v (omega (arith, h)) k,
      ))

  puts_byte : (r : Regs) (f : ℕ → ℕ) (a v here there : ℕ) → IsEarly r → a + 1 < 65536 → r.ip ≡ here → Stands code here (put_byte a v) there → here < place → To 1 (Boots r f) (Boots (record r { ip = there }) (byte_put a v f))
  unfolding effect moved
  puts_byte r f a v here there e h at st before = steps_to r f (put_byte a v) (λ ip. record r { ip = ip }) (byte_put a v f) here there e.cs e.flags.on_is refl at st.0 st.1 st.2 before
      (λ ip p w k. (
        m.store w (store_at widths.Byte a v),
        ap (λ d. stored_at m widths.Byte d a v (behind r ip w)) e.ds ∙ low_byte m c chips Whole laws occurs events code Begins place (record r { ip = ip }) a v w (omega (arith, h)),
        world_stored m c chips Whole laws occurs events code Begins place f p w widths.Byte a v (omega (arith, h)) k,
      ))

  -- ---- acts

  abbrev Early : ℕ → (ℕ → ℕ) → Board W → P → Type 0
  Early ip f b p = (r : Regs) × IsEarly r × (r.ip ≡ ip) × Boots r f b p

  from_early : (k here : ℕ) (f : ℕ → ℕ) (T : Board W → P → Type 0) → ((r : Regs) → IsEarly r → r.ip ≡ here → To k (Boots r f) T) → To k (Early here f) T
  from_early k here f T go j b s at rest = go at.0 at.1 at.2 j b s at.3 rest

  to_early : (k : ℕ) (S : Board W → P → Type 0) (r : Regs) (g : ℕ → ℕ) → IsEarly r → To k S (Boots r g) → To k S (Early r.ip g)
  to_early k S r g e go j b s at rest = go j b s at (λ d p t. rest d p (r, e, refl, t))

  early_at : (r : Regs) (ip : ℕ) → IsEarly r → IsEarly (record r { ip = ip })
  early_at r ip e = record { cs = e.cs; ds = e.ds; es = e.es; flags = e.flags; up = e.up; words = record { ax = e.words.ax; cx = e.words.cx; dx = e.words.dx; bx = e.words.bx; bp = e.words.bp; si = e.words.si; di = e.words.di } }

  -- acts stand one behind the other
  act_rises : (act : Act) (here there : ℕ) → HasAct code here act there → here < there
  act_rises (PutWord a v) here there h = h.1.3
  act_rises (PutByte a v) here there h = h.1.3
  act_rises (Copy from to more) here there h =
      let first = h.6.3 in
      let second = h.7.3 in
      let third = h.8.3 in
      omega (arith, first, second, third, h.10)

  acts_rise : (acts : List Act) (here there : ℕ) → HasActs code here acts there → here ≤ there
  acts_rise [] here there h = omega (arith, h)
  acts_rise (act ∷ acts) here there h = omega (arith, act_rises act here h.0 h.1, acts_rise acts h.0 there h.2)

  act_runs : (act : Act) (here there : ℕ) (f : ℕ → ℕ) → HasAct code here act there → there ≤ place → To (turns_of act) (Early here f) (Early there (after_act act f))
  act_runs (PutWord a v) here there f h before = from_early 1 here f (Early there (word_put a v f)) (λ r e at.
      to_early 1 (Boots r f) (record r { ip = there }) (word_put a v f) (early_at r there e) (puts_word r f a v here there e h.0 at h.1 (omega (arith, h.1.3, before))))
  act_runs (PutByte a v) here there f h before = from_early 1 here f (Early there (byte_put a v f)) (λ r e at.
      to_early 1 (Boots r f) (record r { ip = there }) (byte_put a v f) (early_at r there e) (puts_byte r f a v here there e h.0 at h.1 (omega (arith, h.1.3, before))))
  act_runs (Copy from to more) here there f h before = from_early (3 + suc more) here f (Early there (copied (suc more) from to f)) (λ r e at.
      let p = h.0 in
      let q = h.1 in
      let l = h.2 in
      let first = h.6.3 in
      let second = h.7.3 in
      let third = h.8.3 in
      let ends = h.10 in
      let r1 : Regs = record r { ip = p; si = from } in
      let r2 : Regs = record r { ip = q; si = from; di = to } in
      let r3 : Regs = copying r (suc more) from to l in
      let r4 : Regs = copying r 0 (from + suc more) (to + suc more) (l + 3) in
      let s1 : To 1 (Boots r f) (Boots r1 f) = loads r f Si from here p e.cs e.flags.on_is at h.6 (omega (arith, first, second, third, ends, before)) in
      let s2 : To 1 (Boots r1 f) (Boots r2 f) = loads r1 f Di to p q e.cs e.flags.on_is refl h.7 (omega (arith, second, third, ends, before)) in
      let s3 : To 1 (Boots r2 f) (Boots r3 f) = loads r2 f Cx (suc more) q l e.cs e.flags.on_is refl h.8 (omega (arith, third, ends, before)) in
      let s4 : To (suc more) (Boots r3 f) (Boots r4 (copied (suc more) from to f)) = copies m c chips Whole laws occurs events code Begins place r e.cs e.es e.flags e.up more from to l f h.9 h.3 h.4 h.5 (omega (arith, ends, before)) in
      let s12 = chain 1 1 (Boots r f) (Boots r1 f) (Boots r2 f) s1 s2 in
      let s123 = chain 2 1 (Boots r f) (Boots r2 f) (Boots r3 f) s12 s3 in
      let all = chain 3 (suc more) (Boots r f) (Boots r3 f) (Boots r4 (copied (suc more) from to f)) s123 s4 in
      subst (λ z. To (3 + suc more) (Boots r f) (Early z (copied (suc more) from to f))) h.10
      (to_early (3 + suc more) (Boots r f) r4 (copied (suc more) from to f) (record { cs = e.cs; ds = e.ds; es = e.es; flags = e.flags; up = e.up; words = record { ax = e.words.ax; cx = omega arith; dx = e.words.dx; bx = e.words.bx; bp = e.words.bp; si = h.3; di = h.4 } }) all))

  acts_run : (acts : List Act) (here there : ℕ) (f : ℕ → ℕ) → HasActs code here acts there → there ≤ place → To (turns_of_all acts) (Early here f) (Early there (after_acts acts f))
  acts_run [] here there f h before = subst (λ z. To 0 (Early here f) (Early z f)) h (none m c chips Whole laws occurs events code Begins place (Early here f))
  acts_run (act ∷ acts) here there f h before =
      chain (turns_of act) (turns_of_all acts) (Early here f) (Early h.0 (after_act act f)) (Early there (after_acts acts (after_act act f)))
      (act_runs act here h.0 f h.1 (omega (arith, acts_rise acts h.0 there h.2, before))) (acts_run acts h.0 there (after_act act f) h.2 before)

  -- ---- from the reset

  same_bytes : (w : W) → fetched m w 0xFFFF 0 ≡ fetched m w code_segment reset_offset
  unfolding fetched loaded_byte
  same_bytes w = refl

  -- the far jump at the processor's reset
  jumps_far : (general : GeneralRegisters) (f : ℕ → ℕ) (begin length : ℕ) → code reset_offset ≡ Some (i.JumpFar begin code_segment, length) → To 1 (Boots (reset_registers general) f) (Boots (record (reset_registers general) { cs = code_segment; ip = begin }) f)
  unfolding effect
  jumps_far general f begin length here =
      let r : Regs = reset_registers general in
      let q : Regs = record r { cs = code_segment; ip = begin } in
      one m c chips Whole laws occurs events code Begins place (Boots r f) (Boots q f) (λ b p h there. let at_reset : 0xFFFF ≡ code_segment = ap (λ z. z.registers.cs) (sym h.is) ∙ there.0 in omega (arith, at_reset)) (λ es b p h.
      let v = all_occur m occurs es b.world in
      let k = world_later m c chips Whole laws occurs events code f es p b.world h.world in
      let spelled : decoded (fetched m v 0xFFFF 0) ≡ Some (i.JumpFar begin code_segment, length) = ap decoded (same_bytes v) ∙ k.spelled.spelled reset_offset (i.JumpFar begin code_segment, length) here in
      let done : Machine W = record { registers = q; world = v; labels = [] } in
      let gone : goes m occurs (record { cpu = b.cpu; world = v }) ≡ Startup.after m c chips Whole laws occurs events done =
      ap (λ z. goes m occurs (record { cpu = z; world = v })) h.is ∙ boot_turn m c chips Whole laws occurs events r v (i.JumpFar begin code_segment) length refl refl spelled in
      (ap (λ z. map event_label es ++ z.1) gone ∙ append-nil (map event_label es), subst (λ z. Boots q f z.0 (chips_later m c chips Whole laws occurs events es p)) (sym gone) (record { is = refl; world = k })))

  module _ (entry : ℕ) (acts : List Act) (main_at : ℕ) (x : HasStartUp code entry acts main_at) (before : x.p6 < place) where
    -- all of it stands before its last instruction
    acted_low : x.acted + 6 ≤ x.p6
    acted_low =
        let a = x.load_data.3 in
        let b = x.to_ds.3 in
        let c1 = x.to_ss.3 in
        let d = x.load_screen.3 in
        let e = x.to_es.3 in
        let g = x.load_stack.3 in
        omega (arith, a, b, c1, d, e, g)

    loop_low : x.loop + 15 ≤ x.acted
    loop_low =
        let a = x.clear.3 in
        let b = acts_rise acts x.acting x.acted x.has_acts in
        omega (arith, a, b)

    begin_low : x.begin + 3 ≤ x.loop
    begin_low =
        let a = x.load_entry.3 in
        let b = x.load_segment.3 in
        let c1 = x.load_first.3 in
        omega (arith, a, b, c1)

    -- main's registers at its beginning, with these flags
    pub record IsLate (f : ℕ → ℕ) (b : Board W) (p : P) : Type 0 where
      pub registers : Working
      pub words : AreWords registers
      pub flags : FlagsAre false registers.flags
      pub boot : Boots (all_registers main_at registers stack_top) f b p

    -- the loop's registers, from the reset on
    to_loop : (general : GeneralRegisters) (f : ℕ → ℕ) → To 4 (Boots (reset_registers general) f) (Somewhere m c chips Whole laws occurs events code Begins place general entry 0 x.loop f)
    to_loop general f =
        let r : Regs = reset_registers general in
        let r0 : Regs = record r { cs = code_segment; ip = x.begin } in
        let r1 : Regs = record r0 { ip = x.second; ax = entry } in
        let r2 : Regs = record r1 { ip = x.third; dx = code_segment } in
        let r3 : Regs = loop_registers general entry 0 x.loop (record { 0 = 0 }) in
        let s1 = jumps_far general f x.begin x.reset.0 x.reset.1 in
        let s2 : To 1 (Boots r0 f) (Boots r1 f) = loads r0 f Ax entry x.begin x.second refl refl refl x.load_entry (omega (arith, begin_low, loop_low, acted_low, before)) in
        let s3 : To 1 (Boots r1 f) (Boots r2 f) = loads r1 f Dx code_segment x.second x.third refl refl refl x.load_segment (let a = x.load_segment.3 in let b = x.load_first.3 in omega (arith, a, b, loop_low, acted_low, before)) in
        let s4 : To 1 (Boots r2 f) (Boots r3 f) = loads r2 f Bx 0 x.third x.loop refl refl refl x.load_first (let a = x.load_first.3 in omega (arith, a, loop_low, acted_low, before)) in
        let s12 = chain 1 1 (Boots r f) (Boots r0 f) (Boots r1 f) s1 s2 in
        let s123 = chain 2 1 (Boots r f) (Boots r1 f) (Boots r2 f) s12 s3 in
        let all = chain 3 1 (Boots r f) (Boots r2 f) (Boots r3 f) s123 s4 in
        λ j b s at rest. all j b s at (λ d p t. rest d p (record { 0 = 0 }, record { on_is = refl; known = refl }, t))

    -- CLD after the loop
    to_acts : (general : GeneralRegisters) → HoldWords general → (g : ℕ → ℕ) → To 1 (Somewhere m c chips Whole laws occurs events code Begins place general entry vectors_size (x.loop + 14) g) (Early x.acting g)
    to_acts general small g j b s at rest =
        let fl = at.0 in
        let r : Regs = loop_registers general entry vectors_size (x.loop + 14) fl in
        let q : Regs = record r { ip = x.acting; flags = with_flag (flag_bit 1024) false fl } in
        let early : IsEarly q = record { cs = refl; ds = refl; es = refl; flags = direction_keeps laws.below false false fl at.1; up = laws.below.set_flag 1024 false fl (omega arith) refl; words = record { ax = omega arith; cx = small.cx; dx = omega arith; bx = omega arith; bp = small.bp; si = small.si; di = small.di } } in
        clears r g (x.loop + 14) x.acting refl at.1.on_is refl x.clear (omega (arith, loop_low, acted_low, before)) j b s at.2 (λ d p t. rest d p (q, early, refl, t))

    -- segments, stack pointer, and the jump to main
    to_main : (g : ℕ → ℕ) → To 7 (Early x.acted g) (IsLate g)
    to_main g = from_early 7 x.acted g (IsLate g) (λ r e at.
        let off = e.flags.on_is in
        let b2 = x.to_ds.3 in
        let b3 = x.to_ss.3 in
        let b4 = x.load_screen.3 in
        let b5 = x.to_es.3 in
        let b6 = x.load_stack.3 in
        let r1 : Regs = record r { ip = x.p1; ax = data_segment } in
        let r2 : Regs = record r1 { ip = x.p2; ds = data_segment } in
        let r3 : Regs = record r2 { ip = x.p3; ss = data_segment } in
        let r4 : Regs = record r3 { ip = x.p4; ax = screen_segment } in
        let r5 : Regs = record r4 { ip = x.p5; es = screen_segment } in
        let r6 : Regs = record r5 { ip = x.p6; sp = stack_top } in
        let r7 : Regs = record r6 { ip = main_at } in
        let s1 : To 1 (Boots r g) (Boots r1 g) = loads r g Ax data_segment x.acted x.p1 e.cs off at x.load_data (omega (arith, acted_low, before)) in
        let s2 : To 1 (Boots r1 g) (Boots r2 g) = loads_segment r1 g loadables.Ds x.p1 x.p2 e.cs off refl x.to_ds (omega (arith, b2, b3, b4, b5, b6, before)) in
        let s3 : To 1 (Boots r2 g) (Boots r3 g) = loads_segment r2 g loadables.Ss x.p2 x.p3 e.cs off refl x.to_ss (omega (arith, b3, b4, b5, b6, before)) in
        let s4 : To 1 (Boots r3 g) (Boots r4 g) = loads r3 g Ax screen_segment x.p3 x.p4 e.cs off refl x.load_screen (omega (arith, b4, b5, b6, before)) in
        let s5 : To 1 (Boots r4 g) (Boots r5 g) = loads_segment r4 g loadables.Es x.p4 x.p5 e.cs off refl x.to_es (omega (arith, b5, b6, before)) in
        let s6 : To 1 (Boots r5 g) (Boots r6 g) = loads r5 g Sp stack_top x.p5 x.p6 e.cs off refl x.load_stack (omega (arith, b6, before)) in
        let s7 : To 1 (Boots r6 g) (Boots r7 g) = jumps r6 g x.p6 x.goes.0 x.distance main_at e.cs off refl x.goes.1 x.goes.2 before in
        let t2 = chain 1 1 (Boots r g) (Boots r1 g) (Boots r2 g) s1 s2 in
        let t3 = chain 2 1 (Boots r g) (Boots r2 g) (Boots r3 g) t2 s3 in
        let t4 = chain 3 1 (Boots r g) (Boots r3 g) (Boots r4 g) t3 s4 in
        let t5 = chain 4 1 (Boots r g) (Boots r4 g) (Boots r5 g) t4 s5 in
        let t6 = chain 5 1 (Boots r g) (Boots r5 g) (Boots r6 g) t5 s6 in
        let all = chain 6 1 (Boots r g) (Boots r6 g) (Boots r7 g) t6 s7 in
        let same : r7 ≡ all_registers main_at (working r7) stack_top = ap (λ z. record r7 { cs = z }) e.cs in
        λ j b s here rest. all j b s here (λ d p t. rest d p (record { registers = working r7; words = record { ax = omega arith; cx = e.words.cx; dx = e.words.dx; bx = e.words.bx; bp = e.words.bp; si = e.words.si; di = e.words.di }; flags = e.flags; boot = subst (λ z. Boots z g d p) same t })))

    -- all of start-up
    pub leads_to_main : (general : GeneralRegisters) → HoldWords general → (f : ℕ → ℕ) → To (start_up_turns acts) (Boots (reset_registers general) f) (IsLate (after_acts acts (with_vectors entry 0 256 f)))
    leads_to_main general small f =
        let r : Regs = reset_registers general in
        let g = with_vectors entry 0 256 f in
        let h = after_acts acts g in
        let n = turns_of_all acts in
        let L : (ℕ → ℕ) → Board W → P → Type 0 = Somewhere m c chips Whole laws occurs events code Begins place general entry 0 x.loop in
        let D : (ℕ → ℕ) → Board W → P → Type 0 = Somewhere m c chips Whole laws occurs events code Begins place general entry vectors_size (x.loop + 14) in
        let vectors : To 1280 (L f) (D g) = Vectors.sets_vectors m c chips Whole laws occurs events code Begins place general x.loop x.back x.sets_vectors (omega (arith, loop_low, acted_low, before)) entry f in
        let t1 = chain 4 1280 (Boots r f) (L f) (D g) (to_loop general f) vectors in
        let t2 = chain 1284 1 (Boots r f) (D g) (Early x.acting g) t1 (to_acts general small g) in
        let t3 = chain 1285 n (Boots r f) (Early x.acting g) (Early x.acted h) t2 (acts_run acts x.acting x.acted g x.has_acts (omega (arith, acted_low, before))) in
        let t4 = chain (1285 + n) 7 (Boots r f) (Early x.acted h) (IsLate h) t3 (to_main h) in
        let turns : 1285 + n + 7 ≡ start_up_turns acts = omega arith in
        subst (λ k. To k (Boots r f) (IsLate h)) turns t4

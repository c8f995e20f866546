-- The processor's turns are those of its two contexts, over one memory.
use Rattle.std.proofs.Common.{◌≡◌, ℕ, ◌+◌, ◌-◌, ◌*◌, ◌%◌, ◌/◌, ◌<◌, ◌≤◌, ◌==◌, ◌⊎◌, inl, inr, Bool, true, false, List, [], ◌∷◌, ◌++◌, map, length, Option, Some, None, refl, sym, ap, ◌∙◌, subst, subst₂, arith, ap₂, ⊎_elim, true≢false, append-nil, eqb-true}
use Rattle.std.specs.Prelude.{◌&&◌, if◌then◌else◌}
use Rattle.std.proofs.lemmas.Bool.{and_parts}
use Rattle.std.proofs.lemmas.Nat.{and_le_r}
use Rattle.std.specs.Int.RustNames.{bit_and}
use Rattle.word86.specs.MemoryMap.{code_segment, data_start, data_end, stack_top, stack_room}
use Rattle.word86.specs.declared.event.Event.{Event}
use Rattle.word86.specs.declared.label.Label.{Label}
use Rattle.word86.specs.declared.label.Label.TheVariants as labels
use Rattle.word86.specs.Access.{Access}
use Rattle.word86.specs.Chips.{Chips}
use Rattle.word86.specs.Action.{Shared, Silent, Touch, Enable, Disable, Halt, Over, Bad}
use Rattle.word86.specs.Following.{Offer, Does, Arms}
use Rattle.plm_meaning.specs.Store.{Store, touch, with_chips, shared}
use Rattle.word86.specs.Event.{event_label}
use Rattle.i86_table.specs.declared.registers.Regs.{Regs}
use Rattle.i86_table.specs.declared.instruction.Instr.{Instr}
use Rattle.i86_table.specs.declared.instruction.Instr.TheVariants as i
use Rattle.i86_table.specs.Arithmetic.{has, flags_of, without_trap_and_interrupts}
use Rattle.i86_table.specs.Contexts.{Working, Given, all_registers, set_flags, Context, Own, room, top_of, stack_pointer, refused, offered, offered_at, offer, start, gives_back}
use Rattle.i86_code.specs.Decoding.{decoded}
use Rattle.cpu8086.specs.declared.bus.Store.TheVariants as stores
use Rattle.cpu8086.specs.declared.cpu.Cpu.{Cpu}
use Rattle.cpu8086.specs.declared.cpu.Kind.TheVariants as kinds
use Rattle.cpu8086.specs.declared.cpu.Phase.{Phase}
use Rattle.cpu8086.specs.declared.cpu.Phase.TheVariants.{Running, AfterSti, Halted}
use Rattle.cpu8086.specs.BusModel.{BusModel}
use Rattle.cpu8086.specs.Machine.{Machine, pushed, popped, loaded_word}
use Rattle.cpu8086.specs.Control.{interrupted, returned, flags_popped, returned_from_interrupt}
use Rattle.cpu8086.specs.Effect.{effect}
use Rattle.cpu8086.specs.Turn.{turn_of, doing, acknowledging, fetched, phase_after, decoded_turn, instruction_turn, still, Outcome}
use Rattle.plm86.specs.Inner.BoardLaws.{OfBoard, Events}
use Rattle.plm86.specs.Inner.Duo.{Duo, Alone, Armed, Serving, duo_after_events, execute, serve, alone, act, main_in, has_handler, shared_with}
use Rattle.plm86.specs.Headline.{HasSegments, IsGoing, IsBounded}
use Rattle.plm86.specs.Boots.{after_events}
use Rattle.board.specs.Machine.{Board, all_occur, goes, turn}
use Rattle.plm86.specs.Relation.{Fine, Placed, Finds, FlagsAre}
use Rattle.plm86.specs.Inner.Stacks.{Stacked, Stack}
use Rattle.plm86.proofs.Machine.Memory
use Rattle.plm86.proofs.Machine.Memory.{push_is, pop_is, push_stacks, fine_push}
use Rattle.plm86.proofs.Machine.Effects.{At, Sits, Meets, instr_runs, NotIret}
use Rattle.plm86.proofs.Machine.FlagLaws.{off_after_both}

-- the processor and its contexts, in step
pub data Pair (S : Type 0) : Type 0 where
  Single : (p : ℕ) → (g : Working) → (st : List ℕ) → (on halted : Bool) → S → Pair S
  Primed : (p : ℕ) → (g : Working) → (st : List ℕ) → S → Pair S
  Twofold : (p : ℕ) → (g : Working) → (st : List ℕ) → (p0 : ℕ) → (g0 : Working) → (st0 : List ℕ) → S → Pair S

-- what an interrupt procedure is given by main at this place
abbrev pub saved : Working → List ℕ → Given
saved g st = record { registers = g; top = stack_pointer None st - 6 }

abbrev pub contexts : {S : Type 0} → Pair S → Duo S Context
contexts (Single p g st on halted s) = Alone (Own p g st false None) on halted s
contexts (Primed p g st s) = Armed (Own p g st true None) s
contexts (Twofold p g st p0 g0 st0 s) = Serving (Own p0 g0 st0 false None) (Own p g st false (Some (saved g0 st0))) s

-- where the stack pointer is while the context runs and nothing lies beyond its words
abbrev pub level_of : Context → ℕ
level_of (Own p g st a o) = stack_top - 2 * length st

-- what an acknowledgement leaves on the stack
abbrev pub frame : ℕ → Working → List ℕ → List ℕ
frame p g st = p % 65536 ∷ code_segment ∷ g.flags.0 % 65536 ∷ st

iret_or : (n : Instr) → NotIret n ⊎ (n ≡ i.InterruptReturn)
iret_or i.InterruptReturn = inr refl
iret_or _ = inl tt

module _ {W P : Type 0} (m : BusModel W) (c : Chips P) (chips : W → P) (Whole : W → Type 0) (laws : OfBoard m c chips Whole)
    (occurs : Event → W → W) (events : Events m c chips Whole occurs)
    (code : ℕ → Option (Instr × ℕ)) (find : ℕ → ℕ → Option (ℕ × ℕ)) (words : ℕ → Option ℕ) (entry : ℕ → ℕ) (main handler : ℕ) (placed size : ℕ → ℕ) (is_placed : Placed placed size) (finds : Finds find placed size)
    (enough : main + 3 + handler ≤ stack_room / 2) where
  abbrev F : Store P → W → Type 0
  F s w = Fine m chips Whole code words entry placed size s w

  abbrev cpu_at : Regs → Phase → Cpu
  cpu_at r phase = record { registers = r; phase = phase }

  abbrev waits_if : Bool → Phase
  waits_if true = Halted
  waits_if false = Running

  pub record Run (b : Board W) (p : ℕ) (g : Working) (st base : List ℕ) (o : Option Given) (s : Store P) (on : Bool) (phase : Phase) : Type 0 where
    pub sp : ℕ
    pub is : b.cpu ≡ cpu_at (all_registers p g sp) phase
    pub stack : Stack m b.world sp st base (room main handler o)
    pub fine : F s b.world
    pub flags : FlagsAre on g.flags
    pub low : p < 65536

  abbrev Waits : ℕ → List ℕ → Type 0
  Waits p st = (length st ≤ main) × (p < 65536)

  abbrev Fits : Pair (Store P) → Board W → Type 0
  Fits (Single p g st on halted s) b = Run b p g st [] None s on (waits_if halted)
  Fits (Primed p g st s) b = Run b p g st [] None s true AfterSti
  Fits (Twofold p g st p0 g0 st0 s) b = Run b p g st (frame p0 g0 st0) (Some (saved g0 st0)) s false Running × Waits p0 st0 × FlagsAre true g0.flags

  pub record Stands (b : Board W) (d : Duo (Store P) Context) : Type 0 where
    pub pair : Pair (Store P)
    pub is : d ≡ contexts pair
    pub fits : Fits pair b

  abbrev Lifted : Option (Duo (Store P) Context × List Label) → Board W × List Label → Type 0
  Lifted None out = Unit {0}
  Lifted (Some x) out = (out.1 ≡ x.1) × Stands out.0 x.0

  -- the board after an instruction's effect
  abbrev after : Instr → Machine W → Board W × List Label
  after n x = (record { cpu = cpu_at x.registers (phase_after n); world = x.world }, x.labels)

  abbrev AtIs : ℕ → Working → List ℕ → List ℕ → Option Given → Store P → Bool → List Label → Machine W → Type 0
  AtIs q g st base o s on ls x = At m c chips Whole laws code find words entry main handler placed size is_placed finds q g st base o s on ls x

  abbrev SitsIs : Bool → Option Given → List ℕ → Context → Store P → Bool → List Label → Machine W → Type 0
  SitsIs a o base d s on ls x = Sits m c chips Whole laws code find words entry main handler placed size is_placed finds a o base d s on ls x

  runs_on : (p : ℕ) (g : Working) (st base : List ℕ) (o : Option Given) (s : Store P) (on : Bool) (phase : Phase) (ls : List Label) (n : Instr) (x : Machine W) → AtIs p g st base o s on ls x → phase_after n ≡ phase → Run (after n x).0 p g st base o s on phase
  runs_on p g st base o s on phase ls n x at e =
      subst (λ y. Run (after n y).0 p g st base o s on phase) (sym at.is) (record {
        sp = at.sp;
        is = ap (cpu_at (all_registers p g at.sp)) e;
        stack = at.stack;
        fine = at.fine;
        flags = at.flags;
        low = at.low;
      })

  shown : (p : ℕ) (g : Working) (st base : List ℕ) (o : Option Given) (s : Store P) (on : Bool) (ls : List Label) (n : Instr) (x : Machine W) → AtIs p g st base o s on ls x → (after n x).1 ≡ ls
  shown p g st base o s on ls n x at = ap (λ (y : Machine W). y.labels) at.is

  single : (d : Context) (s : Store P) (ls : List Label) (on h : Bool) (n : Instr) (x : Machine W) → SitsIs false None [] d s on ls x → phase_after n ≡ waits_if h → Lifted (Some (Alone d on h s, ls)) (after n x)
  single (Own p g st a o) s ls on h n x sits e =
      (shown p g st [] None s on ls n x sits.0, record { pair = Single p g st on h s; is = ap₂ (λ y z. Alone (Own p g st y z) on h s) sits.1 sits.2; fits = runs_on p g st [] None s on (waits_if h) ls n x sits.0 e })

  primed : (d : Context) (s : Store P) (n : Instr) (x : Machine W) → SitsIs true None [] d s true [] x → phase_after n ≡ AfterSti → Lifted (Some (Armed d s, [])) (after n x)
  primed (Own p g st a o) s n x sits e =
      (shown p g st [] None s true [] n x sits.0, record { pair = Primed p g st s; is = ap₂ (λ y z. Armed (Own p g st y z) s) sits.1 sits.2; fits = runs_on p g st [] None s true AfterSti [] n x sits.0 e })

  abbrev Sh : Shared
  Sh = shared c

  abbrev off : Context → Offer Access Context
  off d = offer code find words entry main handler d

  abbrev beg : ℕ → Context → Context
  beg v d = start code find words entry main handler v d

  abbrev MeetsIs : Bool → Option Given → List ℕ → Offer Access Context → Store P → Bool → Instr → Machine W → Type 0
  MeetsIs a o base z s on n x = Meets m c chips Whole laws code find words entry main handler placed size is_placed finds a o base z s on n x

  main_lifted : (z : Offer Access Context) (a on : Bool) (s : Store P) (n : Instr) (x : Machine W) → MeetsIs a None [] z s on n x → Lifted (execute Sh Context off beg z on s) (after n x)
  main_lifted (Arms d) a on s n x h = primed d s n x h.0 h.1
  main_lifted (Does (Silent d)) a on s n x h = single d s [] on false n x h.0 h.1
  main_lifted (Does (Touch y k)) a on s n x h = single (k (touch c y s).0) (touch c y s).1 (touch c y s).2 on false n x h.0 h.1
  main_lifted (Does (Enable d)) a on s n x h = single d s [] true false n x h.1 h.2
  main_lifted (Does (Disable d)) a on s n x h = single d s [] false false n x h.0 h.1
  main_lifted (Does (Halt d)) a on s n x h = single d s [] true true n x h.1 h.2
  main_lifted (Does Over) a on s n x h = absurd h
  main_lifted (Does (Bad module_index line)) a on s n x h = tt

  twofold : (p0 : ℕ) (g0 : Working) (st0 : List ℕ) → Waits p0 st0 → FlagsAre true g0.flags → (d : Context) (s : Store P) (ls : List Label) (n : Instr) (x : Machine W) → SitsIs false (Some (saved g0 st0)) (frame p0 g0 st0) d s false ls x → phase_after n ≡ Running → Lifted (Some (Serving (Own p0 g0 st0 false None) d s, ls)) (after n x)
  twofold p0 g0 st0 lt fl (Own p g st a o) s ls n x sits e = (
    shown p g st (frame p0 g0 st0) (Some (saved g0 st0)) s false ls n x sits.0,
    record {
      pair = Twofold p g st p0 g0 st0 s;
      is = ap₂ (λ y z. Serving (Own p0 g0 st0 false None) (Own p g st y z) s) sits.1 sits.2;
      fits = (runs_on p g st (frame p0 g0 st0) (Some (saved g0 st0)) s false Running ls n x sits.0 e, lt, fl);
    },
  )

  handler_lifted : (p0 : ℕ) (g0 : Working) (st0 : List ℕ) → Waits p0 st0 → FlagsAre true g0.flags → (z : Offer Access Context) (s : Store P) (n : Instr) (x : Machine W) → MeetsIs false (Some (saved g0 st0)) (frame p0 g0 st0) z s false n x → Lifted (serve Sh Context off beg z (Own p0 g0 st0 false None) s) (after n x)
  handler_lifted p0 g0 st0 lt fl (Arms d) s n x h = tt
  handler_lifted p0 g0 st0 lt fl (Does (Silent d)) s n x h = twofold p0 g0 st0 lt fl d s [] n x h.0 h.1
  handler_lifted p0 g0 st0 lt fl (Does (Touch y k)) s n x h = twofold p0 g0 st0 lt fl (k (touch c y s).0) (touch c y s).1 (touch c y s).2 n x h.0 h.1
  handler_lifted p0 g0 st0 lt fl (Does (Enable d)) s n x h = absurd (true≢false (sym h.0))
  handler_lifted p0 g0 st0 lt fl (Does (Disable d)) s n x h = twofold p0 g0 st0 lt fl d s [] n x h.0 h.1
  handler_lifted p0 g0 st0 lt fl (Does (Halt d)) s n x h = absurd (true≢false (sym h.0))
  handler_lifted p0 g0 st0 lt fl (Does Over) s n x h = absurd h
  handler_lifted p0 g0 st0 lt fl (Does (Bad module_index line)) s n x h = tt

  abbrev out_of : Outcome W → Board W × List Label
  out_of u = (record { cpu = u.cpu; world = u.world }, u.labels)

  abbrev at_place : ℕ → Working → ℕ → W → Phase → Board W
  at_place p g sp w phase = record { cpu = cpu_at (all_registers p g sp) phase; world = w }

  abbrev behind : ℕ → ℕ → Working → ℕ → W → Machine W
  behind p length g sp w = record { registers = all_registers ((p + length) % 65536) g sp; world = w; labels = [] }

  -- the instruction at the place
  instruction_is : (p : ℕ) (g : Working) (sp : ℕ) (w : W) (phase : Phase) (z : Instr × ℕ) → decoded (fetched m w code_segment p) ≡ Some z → out_of (instruction_turn m (cpu_at (all_registers p g sp) phase) w) ≡ after z.0 (effect m z.0 p (behind p z.1 g sp w))
  unfolding instruction_turn doing
  instruction_is p g sp w phase z spelled = ap (λ y. out_of (decoded_turn m y (cpu_at (all_registers p g sp) phase) w)) spelled

  -- the turn of the instruction at the place, where nothing is acknowledged
  abbrev Goes : ℕ → Working → ℕ → W → Phase → Type 0
  Goes p g sp w phase = (z : Instr × ℕ) → decoded (fetched m w code_segment p) ≡ Some z → goes m occurs (at_place p g sp w phase) ≡ after z.0 (effect m z.0 p (behind p z.1 g sp w))

  running : (p : ℕ) (g : Working) (sp : ℕ) (w : W) → (has g.flags 512 && m.int_line w) ≡ false → Goes p g sp w Running
  unfolding goes turn_of
  running p g sp w none z spelled =
      let cpu = cpu_at (all_registers p g sp) Running in
      ap (λ b. out_of (if b then acknowledging m cpu w else instruction_turn m cpu w)) none ∙ instruction_is p g sp w Running z spelled

  after_sti : (p : ℕ) (g : Working) (sp : ℕ) (w : W) → Goes p g sp w AfterSti
  unfolding goes turn_of
  after_sti p g sp w z spelled = instruction_is p g sp w AfterSti z spelled

  waiting : (p : ℕ) (g : Working) (sp : ℕ) (w : W) → (has g.flags 512 && m.int_line w) ≡ false → goes m occurs (at_place p g sp w Halted) ≡ (at_place p g sp w Halted, [])
  unfolding goes turn_of
  waiting p g sp w none =
      let cpu = cpu_at (all_registers p g sp) Halted in
      ap (λ b. out_of (if b then acknowledging m cpu w else still m Halted cpu w kinds.Wait)) none

  -- IRET, where the frame of an acknowledgement is on top
  iret_is : (q : ℕ) (g : Working) (sp : ℕ) (w : W) (p0 fl : ℕ) (l : List ℕ) → sp + 6 < 65536 → Stacked m w sp (p0 ∷ code_segment ∷ fl ∷ l)
      → returned_from_interrupt m w (all_registers q g sp) ≡ all_registers p0 (set_flags g (flags_of fl)) (sp + 2 + 2 + 2)
  unfolding returned_from_interrupt returned flags_popped
  iret_is q g sp w p0 fl l h s =
      let step3 : ℕ × Regs → Regs = λ z. record z.1 { flags = flags_of z.0 } in
      let step2 : ℕ × Regs → Regs = λ z. step3 (popped m w (record z.1 { cs = z.0 })) in
      let step1 : ℕ × Regs → Regs = λ z. step2 (popped m w (record z.1 { ip = z.0 })) in
      ap step1 (pop_is m c chips Whole laws q g sp p0 w (code_segment ∷ fl ∷ l) (omega (arith, h)) s)
      ∙ ap step2 (pop_is m c chips Whole laws p0 g (sp + 2) code_segment w (fl ∷ l) (omega (arith, h)) s.1)
      ∙ ap step3 (pop_is m c chips Whole laws p0 g (sp + 2 + 2) fl w l (omega (arith, h)) s.1.1)

  -- the registers are given back
  given_back : (s g : Working) (st : List ℕ) → gives_back s g st ≡ true → (◌≡◌ {A = List ℕ} st []) × (set_flags g s.flags ≡ s)
  given_back s g [] e =
      let a = and_parts (s.ax == g.ax) ((s.cx == g.cx) && ((s.dx == g.dx) && ((s.bx == g.bx) && ((s.bp == g.bp) && ((s.si == g.si) && (s.di == g.di)))))) e in
      let b = and_parts (s.cx == g.cx) ((s.dx == g.dx) && ((s.bx == g.bx) && ((s.bp == g.bp) && ((s.si == g.si) && (s.di == g.di))))) a.1 in
      let d = and_parts (s.dx == g.dx) ((s.bx == g.bx) && ((s.bp == g.bp) && ((s.si == g.si) && (s.di == g.di)))) b.1 in
      let f = and_parts (s.bx == g.bx) ((s.bp == g.bp) && ((s.si == g.si) && (s.di == g.di))) d.1 in
      let h = and_parts (s.bp == g.bp) ((s.si == g.si) && (s.di == g.di)) f.1 in
      let k = and_parts (s.si == g.si) (s.di == g.di) h.1 in
      (refl, λ j. record { ax = sym (eqb-true s.ax g.ax a.0) j; cx = sym (eqb-true s.cx g.cx b.0) j; dx = sym (eqb-true s.dx g.dx d.0) j; bx = sym (eqb-true s.bx g.bx f.0) j; bp = sym (eqb-true s.bp g.bp h.0) j; si = sym (eqb-true s.si g.si k.0) j; di = sym (eqb-true s.di g.di k.1) j; flags = s.flags })
  given_back s g (x ∷ xs) e = absurd (true≢false (sym e))

  instr_of : (o : Option Given) (base : List ℕ) → room main handler o + length base ≤ stack_room / 2 → top_of o + 2 * length base ≡ stack_top → (a : Bool) (s : Store P) (on : Bool) → (a ≡ true → on ≡ true) → (q : ℕ) (hq : q < 65536) (g : Working) (st : List ℕ) (sp : ℕ) (w : W) → Stack m w sp st base (room main handler o) → F s w → FlagsAre on g.flags → (start : ℕ) (n : Instr) → NotIret n
      → MeetsIs a o base (offered find words main handler n q g st a o) s on n (effect m n start (record { registers = all_registers q g sp; world = w; labels = [] }))
  instr_of o base fits topped a s on sti q hq g st sp w stack fine flags start n ni = instr_runs m c chips Whole laws code find words entry main handler placed size is_placed finds o base fits topped a s on sti q hq g st sp w stack fine flags start n ni

  -- an instruction of main; IRET is none
  main_runs : (n : Instr) (p q : ℕ) (hq : q < 65536) (g : Working) (st : List ℕ) (sp : ℕ) (w : W) (a on : Bool) (s : Store P) → (a ≡ true → on ≡ true) → Stack m w sp st [] main → F s w → FlagsAre on g.flags → Lifted (execute Sh Context off beg (offered find words main handler n q g st a None) on s) (after n (effect m n p (record { registers = all_registers q g sp; world = w; labels = [] })))
  main_runs n p q hq g st sp w a on s sti stack fine flags = ⊎_elim
      (λ ni. main_lifted (offered find words main handler n q g st a None) a on s n (effect m n p (record { registers = all_registers q g sp; world = w; labels = [] }))
      (instr_of None [] (omega (arith, enough)) refl a s on sti q hq g st sp w stack fine flags p n ni))
      (λ e. subst (λ n. Lifted (execute Sh Context off beg (offered find words main handler n q g st a None) on s) (after n (effect m n p (record { registers = all_registers q g sp; world = w; labels = [] })))) (sym e) tt)
      (iret_or n)

  main_goes : (z : Option (Instr × ℕ)) (phase : Phase) (p : ℕ) (g : Working) (st : List ℕ) (sp : ℕ) (w : W) (a on : Bool) (s : Store P) → code p ≡ z → Goes p g sp w phase → (a ≡ true → on ≡ true) → Stack m w sp st [] main → F s w → FlagsAre on g.flags → Lifted (execute Sh Context off beg (offered_at code find words entry main handler z p g st a None) on s) (goes m occurs (at_place p g sp w phase))
  main_goes None phase p g st sp w a on s e go sti stack fine flags = tt
  main_goes (Some z) phase p g st sp w a on s e go sti stack fine flags =
      subst (λ b. Lifted (execute Sh Context off beg (offered find words main handler z.0 ((p + z.1) % 65536) g st a None) on s) b) (sym (go z (fine.spelled.spelled p z e)))
      (main_runs z.0 p ((p + z.1) % 65536) (omega arith) g st sp w a on s sti stack fine flags)

  -- IRET gives main back its place, its registers and its stack
  iret_goes : (p0 : ℕ) (g0 : Working) (st0 : List ℕ) → Waits p0 st0 → FlagsAre true g0.flags → (b : Bool) (p q : ℕ) (g : Working) (st : List ℕ) (sp : ℕ) (w : W) (s : Store P) → gives_back g0 g st ≡ b → Stack m w sp st (frame p0 g0 st0) handler → F s w
      → Lifted (serve Sh Context off beg (if b then Does Over else refused) (Own p0 g0 st0 false None) s) (after i.InterruptReturn (effect m i.InterruptReturn p (record { registers = all_registers q g sp; world = w; labels = [] })))
  unfolding effect
  iret_goes p0 g0 st0 lt fl false p q g st sp w s e stack fine = tt
  iret_goes p0 g0 st0 lt fl true p q g st sp w s e stack fine =
      let back = given_back g0 g st e in
      let empty : length st ≡ 0 = ap length back.0 in
      let framed : Stacked m w sp (frame p0 g0 st0) = subst (λ l. Stacked m w sp (l ++ frame p0 g0 st0)) back.0 stack.words in
      let same_place : p0 % 65536 ≡ p0 = omega (arith, lt.1) in
      let same_flags : g0.flags.0 % 65536 ≡ g0.flags.0 = omega (arith, fl.known, and_le_r g0.flags.0 0xFD5) in
      let words : Stacked m w sp (p0 ∷ code_segment ∷ g0.flags.0 ∷ st0) = subst₂ (λ x y. Stacked m w sp (x ∷ code_segment ∷ y ∷ st0)) same_place same_flags framed in
      let regs : set_flags g (flags_of g0.flags.0) ≡ g0 = ap (λ v. set_flags g (record { 0 = v })) fl.known ∙ back.1 in
      let x : returned_from_interrupt m w (all_registers q g sp) ≡ all_registers p0 g0 (sp + 2 + 2 + 2) =
      iret_is q g sp w p0 g0.flags.0 st0 (omega (arith, stack.at)) words ∙ ap (λ (r : Working). all_registers p0 r (sp + 2 + 2 + 2)) regs in
      let out : Machine W = record { registers = returned_from_interrupt m w (all_registers q g sp); world = w; labels = [] } in
      let stands : AtIs p0 g0 st0 [] None s true [] out = record {
        sp = sp + 2 + 2 + 2;
        w = w;
        is = ap (λ r. record { registers = r; world = w; labels = [] }) x;
        stack = record { words = subst (λ l. Stacked m w (sp + 2 + 2 + 2) l) (sym (append-nil st0)) words.1.1.1; within = lt.0; at = omega (arith, stack.at, empty) };
        fine = fine;
        flags = fl;
        low = lt.1;
      } in
      single (Own p0 g0 st0 false None) s [] true false i.InterruptReturn out (stands, refl, refl) refl

  handler_runs : (p0 : ℕ) (g0 : Working) (st0 : List ℕ) → Waits p0 st0 → FlagsAre true g0.flags → (n : Instr) (p q : ℕ) (hq : q < 65536) (g : Working) (st : List ℕ) (sp : ℕ) (w : W) (s : Store P) → Stack m w sp st (frame p0 g0 st0) handler → F s w → FlagsAre false g.flags → Lifted (serve Sh Context off beg (offered find words main handler n q g st false (Some (saved g0 st0))) (Own p0 g0 st0 false None) s) (after n (effect m n p (record { registers = all_registers q g sp; world = w; labels = [] })))
  handler_runs p0 g0 st0 lt fl n p q hq g st sp w s stack fine flags = ⊎_elim
      (λ ni. handler_lifted p0 g0 st0 lt fl (offered find words main handler n q g st false (Some (saved g0 st0))) s n (effect m n p (record { registers = all_registers q g sp; world = w; labels = [] }))
      (instr_of (Some (saved g0 st0)) (frame p0 g0 st0) (omega (arith, enough, lt.0)) (omega (arith, enough, lt.0)) false s false (λ e. e) q hq g st sp w stack fine flags p n ni))
      (λ e. subst (λ n. Lifted (serve Sh Context off beg (offered find words main handler n q g st false (Some (saved g0 st0))) (Own p0 g0 st0 false None) s) (after n (effect m n p (record { registers = all_registers q g sp; world = w; labels = [] })))) (sym e)
      (iret_goes p0 g0 st0 lt fl (gives_back g0 g st) p q g st sp w s refl stack fine))
      (iret_or n)

  handler_goes : (z : Option (Instr × ℕ)) (p0 : ℕ) (g0 : Working) (st0 : List ℕ) → Waits p0 st0 → FlagsAre true g0.flags → (p : ℕ) (g : Working) (st : List ℕ) (sp : ℕ) (w : W) (s : Store P) → code p ≡ z → Goes p g sp w Running → Stack m w sp st (frame p0 g0 st0) handler → F s w → FlagsAre false g.flags → Lifted (serve Sh Context off beg (offered_at code find words entry main handler z p g st false (Some (saved g0 st0))) (Own p0 g0 st0 false None) s) (goes m occurs (at_place p g sp w Running))
  handler_goes None p0 g0 st0 lt fl p g st sp w s e go stack fine flags = tt
  handler_goes (Some z) p0 g0 st0 lt fl p g st sp w s e go stack fine flags =
      subst (λ b. Lifted (serve Sh Context off beg (offered find words main handler z.0 ((p + z.1) % 65536) g st false (Some (saved g0 st0))) (Own p0 g0 st0 false None) s) b) (sym (go z (fine.spelled.spelled p z e)))
      (handler_runs p0 g0 st0 lt fl z.0 p ((p + z.1) % 65536) (omega arith) g st sp w s stack fine flags)

  -- an acknowledgement pushes flags, CS and IP, and goes on by the vector
  interrupted_is : (n p : ℕ) (g : Working) (t : ℕ) (w : W) (ls : List Label) → bit_and g.flags.0 0xFD5 ≡ g.flags.0 → t + 6 < 65536 → let w1 = m.store w (stores.Word (data_start + (t + 2 + 2)) (data_start + 1 + (t + 2 + 2)) g.flags.0) in let w2 = m.store w1 (stores.Word (data_start + (t + 2)) (data_start + 1 + (t + 2)) code_segment) in let w3 = m.store w2 (stores.Word (data_start + t) (data_start + 1 + t) p) in
      interrupted m n (record { registers = all_registers p g (t + 2 + 2 + 2); world = w; labels = ls }) ≡ record { registers = record (all_registers p (set_flags g (without_trap_and_interrupts g.flags)) t) { ip = loaded_word m w3 0 (4 * n); cs = loaded_word m w3 0 (4 * n + 2) }; world = w3; labels = ls }
  unfolding interrupted
  interrupted_is n p g t w ls known h =
      let w1 = m.store w (stores.Word (data_start + (t + 2 + 2)) (data_start + 1 + (t + 2 + 2)) g.flags.0) in
      let w2 = m.store w1 (stores.Word (data_start + (t + 2)) (data_start + 1 + (t + 2)) code_segment) in
      let f = set_flags g (without_trap_and_interrupts g.flags) in
      let step3 : Machine W → Machine W = λ y. record y { registers = record y.registers { ip = loaded_word m y.world 0 (4 * n); cs = loaded_word m y.world 0 (4 * n + 2) } } in
      let step2 : Machine W → Machine W = λ b. step3 (pushed m b.registers.ip b) in
      let step1 : Machine W → Machine W = λ a. step2 (pushed m a.registers.cs (record a { registers = record a.registers { flags = without_trap_and_interrupts a.registers.flags } })) in
      ap (λ v. step1 (pushed m v (record { registers = all_registers p g (t + 2 + 2 + 2); world = w; labels = ls }))) known
      ∙ ap step1 (push_is m c chips Whole laws p g (t + 2 + 2) g.flags.0 w ls (omega (arith, h)))
      ∙ ap step2 (push_is m c chips Whole laws p f (t + 2) code_segment w1 ls (omega (arith, h)))
      ∙ ap step3 (push_is m c chips Whole laws p f t p w2 ls (omega (arith, h)))

  ack_goes : (p : ℕ) (hp : p < 65536) (g : Working) (st : List ℕ) (sp : ℕ) (w : W) (s : Store P) (h : Bool) → Stack m w sp st [] main → F s w → FlagsAre true g.flags
      → Lifted (Some (Serving (Own p g st false None) (beg (c.vector s.chips) (Own p g st false None)) (with_chips (c.acknowledge s.chips) s), labels.Ack (c.vector s.chips) ∷ [])) (out_of (acknowledging m (cpu_at (all_registers p g sp) (waits_if h)) w))
  unfolding acknowledging
  ack_goes p hp g st sp w s h stack fine flags =
      let t = sp - 6 in
      let up : sp ≡ t + 2 + 2 + 2 = omega (arith, stack.at, stack.within, enough) in
      let deep : data_end ≤ t = omega (arith, stack.at, stack.within, enough) in
      let room3 = main + 3 in
      let w0 = m.acknowledge w in
      let n = m.vector w in
      let s0 = with_chips (c.acknowledge s.chips) s in
      let w1 = m.store w0 (stores.Word (data_start + (t + 2 + 2)) (data_start + 1 + (t + 2 + 2)) g.flags.0) in
      let w2 = m.store w1 (stores.Word (data_start + (t + 2)) (data_start + 1 + (t + 2)) code_segment) in
      let w3 = m.store w2 (stores.Word (data_start + t) (data_start + 1 + t) p) in
      let same : (a : ℕ) → m.load w0 a ≡ m.load w a = laws.ports.acknowledging w in
      let f0 : F s0 w0 = Memory.fine_chips m c chips Whole laws code words entry placed size is_placed s w w0 (c.acknowledge s.chips) same (laws.ack_stays w fine.whole) (laws.ack_chips w ∙ ap c.acknowledge fine.chips_are) fine in
      let low : Stack m w0 sp st [] main = Memory.stack_chips m c chips Whole laws code words entry placed size is_placed w w0 sp st [] main same stack in
      let k0 : Stack m w0 (t + 2 + 2 + 2) st [] room3 = subst (λ z. Stack m w0 z st [] room3) up (record { words = low.words; within = omega (arith, low.within); at = low.at }) in
      let k1 = push_stacks m c chips Whole laws w0 (t + 2 + 2) g.flags.0 0 st [] room3 f0.whole (omega (arith, low.within)) (omega (arith, stack.at, up)) k0 in
      let f1 = fine_push m c chips Whole laws code words entry placed size is_placed s0 w0 (t + 2 + 2) g.flags.0 (omega (arith, deep)) (omega (arith, stack.at, up)) f0 in
      let k2 = push_stacks m c chips Whole laws w1 (t + 2) code_segment 0 (g.flags.0 % 65536 ∷ st) [] room3 f1.whole (omega (arith, low.within)) (omega (arith, stack.at, up)) k1 in
      let f2 = fine_push m c chips Whole laws code words entry placed size is_placed s0 w1 (t + 2) code_segment (omega (arith, deep)) (omega (arith, stack.at, up)) f1 in
      let k3 = push_stacks m c chips Whole laws w2 t p 0 (code_segment ∷ g.flags.0 % 65536 ∷ st) [] room3 f2.whole (omega (arith, low.within)) (omega (arith, stack.at, up)) k2 in
      let f3 = fine_push m c chips Whole laws code words entry placed size is_placed s0 w2 t p deep (omega (arith, stack.at, up)) f2 in
      let small : n < 256 = omega (arith, laws.vector w, c.vector_fits (chips w)) in
      let number : n ≡ c.vector s.chips = laws.vector w ∙ ap c.vector fine.chips_are in
      let g1 = set_flags g (without_trap_and_interrupts g.flags) in
      let small_entry : entry (c.vector s.chips) < 65536 = subst (λ v. entry v < 65536) number (omega (arith, f3.vectors.offset n small, Memory.word_small m c chips Whole laws w3 0 (4 * n))) in
      let x : interrupted m n (record { registers = all_registers p g sp; world = w0; labels = labels.Ack n ∷ [] }) ≡ record { registers = all_registers (entry n) g1 t; world = w3; labels = labels.Ack n ∷ [] } =
      ap (λ z. interrupted m n (record { registers = all_registers p g z; world = w0; labels = labels.Ack n ∷ [] })) up
      ∙ interrupted_is n p g t w0 (labels.Ack n ∷ []) flags.known (omega (arith, stack.at, up))
      ∙ ap₂ (λ a b. record { registers = record (all_registers p g1 t) { ip = a; cs = b }; world = w3; labels = labels.Ack n ∷ [] }) (f3.vectors.offset n small) (f3.vectors.segment n small) in
      let all : interrupted m n (record { registers = all_registers p g sp; world = w0; labels = labels.Ack n ∷ [] }) ≡ record { registers = all_registers (entry (c.vector s.chips)) g1 t; world = w3; labels = labels.Ack (c.vector s.chips) ∷ [] } =
      x ∙ ap (λ v. record { registers = all_registers (entry v) g1 t; world = w3; labels = labels.Ack v ∷ [] }) number in
      let made : Machine W → Board W × List Label = λ y. (record { cpu = cpu_at y.registers Running; world = y.world }, y.labels) in
      let done : Lifted (Some (Serving (Own p g st false None) (Own (entry (c.vector s.chips)) g1 [] false (Some (saved g st))) s0, labels.Ack (c.vector s.chips) ∷ [])) (made (record { registers = all_registers (entry (c.vector s.chips)) g1 t; world = w3; labels = labels.Ack (c.vector s.chips) ∷ [] })) = (
        refl,
        record {
          pair = Twofold (entry (c.vector s.chips)) g1 [] p g st s0;
          is = refl;
          fits = (record { sp = t; is = refl; stack = record { words = subst (λ l. Stacked m w3 t l) (append-nil (frame p g st)) k3.words; within = omega arith; at = omega (arith, k3.at) }; fine = f3; flags = off_after_both laws.below true g.flags flags; low = small_entry }, (low.within, hp), flags);
        },
      ) in
      subst (λ y. Lifted (Some (Serving (Own p g st false None) (Own (entry (c.vector s.chips)) g1 [] false (Some (saved g st))) s0, labels.Ack (c.vector s.chips) ∷ [])) (made y)) (sym all) done

  going_to_ack : (p : ℕ) (g : Working) (sp : ℕ) (w : W) (h : Bool) → (has g.flags 512 && m.int_line w) ≡ true → goes m occurs (at_place p g sp w (waits_if h)) ≡ out_of (acknowledging m (cpu_at (all_registers p g sp) (waits_if h)) w)
  unfolding goes turn_of
  going_to_ack p g sp w true takes = ap (λ b. out_of (if b then acknowledging m (cpu_at (all_registers p g sp) Halted) w else still m Halted (cpu_at (all_registers p g sp) Halted) w kinds.Wait)) takes
  going_to_ack p g sp w false takes = ap (λ b. out_of (if b then acknowledging m (cpu_at (all_registers p g sp) Running) w else instruction_turn m (cpu_at (all_registers p g sp) Running) w)) takes

  -- an acknowledgement is taken where the contexts take one
  takes_is : (g : Working) (w : W) (s : Store P) (on : Bool) → F s w → FlagsAre on g.flags → (has g.flags 512 && m.int_line w) ≡ (on && c.int_line s.chips)
  takes_is g w s on fine flags = ap₂ (λ x y. x && y) flags.on_is (laws.int_line w ∙ ap c.int_line fine.chips_are)

  single_goes : (b h : Bool) (p : ℕ) (hp : p < 65536) (g : Working) (st : List ℕ) (sp : ℕ) (w : W) (on : Bool) (s : Store P) → (on && (c.int_line s.chips)) ≡ b → Stack m w sp st [] main → F s w → FlagsAre on g.flags → Lifted (alone Sh Context off beg b (Own p g st false None) on h s) (goes m occurs (at_place p g sp w (waits_if h)))
  single_goes true h p hp g st sp w on s e stack fine flags =
      subst (λ o. Lifted (Some (Serving (Own p g st false None) (beg (c.vector s.chips) (Own p g st false None)) (with_chips (c.acknowledge s.chips) s), labels.Ack (c.vector s.chips) ∷ [])) o) (sym (going_to_ack p g sp w h (takes_is g w s on fine flags ∙ e)))
      (ack_goes p hp g st sp w s h stack fine (subst (λ x. FlagsAre x g.flags) (and_parts on (c.int_line s.chips) e).0 flags))
  single_goes false true p hp g st sp w on s e stack fine flags =
      subst (λ o. Lifted (Some (Alone (Own p g st false None) on true s, [])) o) (sym (waiting p g sp w (takes_is g w s on fine flags ∙ e)))
      (refl, record { pair = Single p g st on true s; is = refl; fits = record { sp = sp; is = refl; stack = stack; fine = fine; flags = flags; low = hp } })
  single_goes false false p hp g st sp w on s e stack fine flags =
      main_goes (code p) Running p g st sp w false on s refl (running p g sp w (takes_is g w s on fine flags ∙ e)) (λ f. absurd (true≢false (sym f))) stack fine flags

  placed_goes : (y : Pair (Store P)) (b : Board W) → Fits y b → Lifted (act Sh Context off beg (contexts y)) (goes m occurs b)
  placed_goes (Single p g st on h s) b k =
      subst (λ x. Lifted (alone Sh Context off beg ((on && (c.int_line s.chips))) (Own p g st false None) on h s) (goes m occurs (record { cpu = x; world = b.world }))) (sym k.is)
      (single_goes ((on && (c.int_line s.chips))) h p k.low g st k.sp b.world on s refl k.stack k.fine k.flags)
  placed_goes (Primed p g st s) b k =
      subst (λ x. Lifted (execute Sh Context off beg (off (Own p g st true None)) true s) (goes m occurs (record { cpu = x; world = b.world }))) (sym k.is)
      (main_goes (code p) AfterSti p g st k.sp b.world true true s refl (after_sti p g k.sp b.world) (λ e. refl) k.stack k.fine k.flags)
  placed_goes (Twofold p g st p0 g0 st0 s) b k =
      subst (λ x. Lifted (serve Sh Context off beg (off (Own p g st false (Some (saved g0 st0)))) (Own p0 g0 st0 false None) s) (goes m occurs (record { cpu = x; world = b.world }))) (sym k.0.is)
      (handler_goes (code p) p0 g0 st0 k.1 k.2 p g st k.0.sp b.world s refl (running p g k.0.sp b.world (ap (λ y. y && m.int_line b.world) k.0.flags.on_is)) k.0.stack k.0.fine k.0.flags)

  -- events
  later : List Event → Pair (Store P) → Pair (Store P)
  later es (Single p g st on h s) = Single p g st on h (after_events Sh es s)
  later es (Primed p g st s) = Primed p g st (after_events Sh es s)
  later es (Twofold p g st p0 g0 st0 s) = Twofold p g st p0 g0 st0 (after_events Sh es s)

  later_contexts : (es : List Event) (y : Pair (Store P)) → contexts (later es y) ≡ duo_after_events Sh es (contexts y)
  unfolding later
  later_contexts es (Single p g st on h s) = refl
  later_contexts es (Primed p g st s) = refl
  later_contexts es (Twofold p g st p0 g0 st0 s) = refl

  all_come_keep : (es : List Event) (w : W) (a : ℕ) → m.load (all_occur m occurs es w) a ≡ m.load w a
  all_come_keep [] w a = refl
  all_come_keep (e ∷ es) w a = all_come_keep es (occurs e w) a ∙ events.keeps e w a

  all_come_fine : (es : List Event) (s : Store P) (w : W) → F s w → F (after_events Sh es s) (all_occur m occurs es w)
  all_come_fine [] s w f = f
  all_come_fine (e ∷ es) s w f = all_come_fine es (with_chips (c.occurs e s.chips) s) (occurs e w)
      (Memory.fine_chips m c chips Whole laws code words entry placed size is_placed s w (occurs e w) (c.occurs e s.chips) (events.keeps e w) (events.stays e w f.whole) (events.chips_are e w ∙ ap (c.occurs e) f.chips_are) f)

  later_run : (es : List Event) (b : Board W) (p : ℕ) (g : Working) (st base : List ℕ) (o : Option Given) (s : Store P) (on : Bool) (phase : Phase) → Run b p g st base o s on phase → Run (record { cpu = b.cpu; world = all_occur m occurs es b.world }) p g st base o (after_events Sh es s) on phase
  later_run es b p g st base o s on phase k = record {
    sp = k.sp;
    is = k.is;
    stack = Memory.stack_chips m c chips Whole laws code words entry placed size is_placed b.world (all_occur m occurs es b.world) k.sp st base (room main handler o) (all_come_keep es b.world) k.stack;
    fine = all_come_fine es s b.world k.fine;
    flags = k.flags;
    low = k.low;
  }

  later_fits : (es : List Event) (y : Pair (Store P)) (b : Board W) → Fits y b → Fits (later es y) (record { cpu = b.cpu; world = all_occur m occurs es b.world })
  unfolding later
  later_fits es (Single p g st on h s) b k = later_run es b p g st [] None s on (waits_if h) k
  later_fits es (Primed p g st s) b k = later_run es b p g st [] None s true AfterSti k
  later_fits es (Twofold p g st p0 g0 st0 s) b k = (later_run es b p g st (frame p0 g0 st0) (Some (saved g0 st0)) s false Running k.0, k.1, k.2)

  pub lifts : (es : List Event) (b : Board W) (d e : Duo (Store P) Context) (ls : List Label) → Stands b d → act Sh Context off beg (duo_after_events Sh es d) ≡ Some (e, ls) → ((turn m occurs es b).1 ≡ map event_label es ++ ls) × Stands (turn m occurs es b).0 e
  lifts es b d e ls st goes_to =
      let b1 : Board W = record { cpu = b.cpu; world = all_occur m occurs es b.world } in
      let same : contexts (later es st.pair) ≡ duo_after_events Sh es d = later_contexts es st.pair ∙ ap (duo_after_events Sh es) (sym st.is) in
      let one : Lifted (act Sh Context off beg (duo_after_events Sh es d)) (goes m occurs b1) = subst (λ z. Lifted (act Sh Context off beg z) (goes m occurs b1)) same (placed_goes (later es st.pair) b1 (later_fits es st.pair b st.fits)) in
      let two : Lifted (Some (e, ls)) (goes m occurs b1) = subst (λ o. Lifted o (goes m occurs b1)) goes_to one in
      (ap (λ l. map event_label es ++ l) two.0, two.1)

  pub begins : (es : List Event) (b : Board W) → (ls : List Label) × ((turn m occurs es b).1 ≡ map event_label es ++ ls)
  begins es b = ((goes m occurs (record { cpu = b.cpu; world = all_occur m occurs es b.world })).1, refl)

  -- the stack pointer stays in its bounds
  abbrev InBounds : Duo (Store P) Context → ℕ → Type 0
  InBounds d sp = IsBounded (2 * main) (2 * (3 + handler)) (level_of (main_in d)) (has_handler d) sp × (sp ≤ stack_top) × (data_end ≤ sp)

  pub bounded : (b : Board W) (d : Duo (Store P) Context) → Stands b d → InBounds d b.cpu.registers.sp
  bounded b d st = subst (λ (d : Duo (Store P) Context). InBounds d b.cpu.registers.sp) (sym st.is) (go st.pair st.fits)
    where
      alone : (p : ℕ) (g : Working) (st : List ℕ) (s : Store P) (on : Bool) (phase : Phase) (k : Run b p g st [] None s on phase)
          → ((stack_top ≤ stack_top - 2 * length st + 2 * main) × (b.cpu.registers.sp ≡ stack_top - 2 * length st)) × (b.cpu.registers.sp ≤ stack_top) × (data_end ≤ b.cpu.registers.sp)
      alone p g st s on phase k =
          let same : b.cpu.registers.sp ≡ k.sp = ap (λ (z : Cpu). z.registers.sp) k.is in
          ((omega (arith, k.stack.within), omega (arith, k.stack.at, same)), omega (arith, k.stack.at, same), omega (arith, k.stack.at, k.stack.within, same, enough))

      go : (y : Pair (Store P)) → Fits y b → InBounds (contexts y) b.cpu.registers.sp
      go (Single p g st on h s) k = alone p g st s on (waits_if h) k
      go (Primed p g st s) k = alone p g st s true AfterSti k
      go (Twofold p g st p0 g0 st0 s) k =
          let same : b.cpu.registers.sp ≡ k.0.sp = ap (λ (z : Cpu). z.registers.sp) k.0.is in
          let at = k.0.stack.at in
          let within = k.0.stack.within in
          let low = k.1.0 in
          ((omega (arith, low), omega (arith, at, within, same)), omega (arith, at, same), omega (arith, at, within, same, low, enough))

  -- the memory is that of the store
  pub memory_of : (b : Board W) (d : Duo (Store P) Context) → Stands b d → F (shared_with d) b.world
  memory_of b d st = subst (λ (d : Duo (Store P) Context). F (shared_with d) b.world) (sym st.is) (go st.pair st.fits)
    where
      go : (y : Pair (Store P)) → Fits y b → F (shared_with (contexts y)) b.world
      go (Single p g st on h s) k = k.fine
      go (Primed p g st s) k = k.fine
      go (Twofold p g st p0 g0 st0 s) k = k.0.fine

  -- the segments are the program's, and the processor goes on
  pub at_work : (b : Board W) (d : Duo (Store P) Context) → Stands b d → HasSegments b.cpu.registers × IsGoing b.cpu.phase
  at_work b d st = go st.pair st.fits
    where
      waits : (halted : Bool) → IsGoing (waits_if halted)
      waits true = tt
      waits false = tt

      one : (p : ℕ) (g : Working) (st base : List ℕ) (o : Option Given) (s : Store P) (on : Bool) (phase : Phase) → IsGoing phase → Run b p g st base o s on phase → HasSegments b.cpu.registers × IsGoing b.cpu.phase
      one p g st base o s on phase going k =
          subst (λ (z : Cpu). HasSegments z.registers × IsGoing z.phase) (sym k.is) (record { cs = refl; ds = refl; ss = refl; es = refl }, going)

      go : (y : Pair (Store P)) → Fits y b → HasSegments b.cpu.registers × IsGoing b.cpu.phase
      go (Single p g st on h s) k = one p g st [] None s on (waits_if h) (waits h) k
      go (Primed p g st s) k = one p g st [] None s true AfterSti tt k
      go (Twofold p g st p0 g0 st0 s) k = one p g st (frame p0 g0 st0) (Some (saved g0 st0)) s false Running tt k.0

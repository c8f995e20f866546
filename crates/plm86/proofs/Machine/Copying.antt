-- The copy of initial bytes from the ROM: REP MOVSB, one byte a turn.
use Rattle.std.proofs.Common.{◌≡◌, ℕ, zero, suc, ◌+◌, ◌%◌, ◌<◌, ◌==◌, Bool, false, not, [], Option, Some, ap, ◌∙◌, subst, subst₂, arith, ap₂, refl, ◌≤◌, ◌/◌, ◌⊎◌, inl, inr, ⊎_elim, eq-eqb}
use Rattle.std.specs.Prelude.{◌≢◌, if◌then◌else◌}
use Rattle.std.proofs.lemmas.Bool.{ne_eqb}
use Rattle.word86.specs.MemoryMap.{code_segment, code_start}
use Rattle.word86.specs.declared.event.Event.{Event}
use Rattle.word86.specs.declared.width.Width.TheVariants as widths
use Rattle.word86.specs.Chips.{Chips}
use Rattle.plm_meaning.specs.Store.{Store}
use Rattle.i86_table.specs.declared.registers.Regs.{Regs}
use Rattle.i86_table.specs.declared.instruction.Instr.{Instr}
use Rattle.i86_table.specs.declared.instruction.Repeat.TheVariants as repeats
use Rattle.i86_table.specs.Arithmetic.{has}
use Rattle.cpu8086.specs.declared.bus.Store.TheVariants as stores
use Rattle.cpu8086.specs.BusModel.{BusModel}
use Rattle.cpu8086.specs.Machine.{Machine, physical, loaded_byte, stored_access, stored_at, labels_of}
use Rattle.cpu8086.specs.Strings.{string_moved, unit_moved, counted_down, stepped}
use Rattle.cpu8086.specs.Effect.{effect}
use Rattle.plm86.specs.Inner.BoardLaws.{OfBoard, Events}
use Rattle.board.specs.Machine.{Board}
use Rattle.plm86.specs.Relation.{FlagsAre}
use Rattle.layout_link.specs.Startup.{rep_movsb}
use Rattle.plm86.specs.Startup.{byte_put, word_put, copied}
use Rattle.plm86.proofs.Machine.Memory
use Rattle.plm86.proofs.Machine.Startup.{Known, Boot, Leads, steps_by, then_leads}
use Rattle.plm86.proofs.Machine.Vectors.{world_stored}

-- the registers that REP MOVSB works with
abbrev pub copying : Regs → (cx si di ip : ℕ) → Regs
copying r cx si di ip = record r { cx = cx; si = si; di = di; ip = ip }

module _ {W P : Type 0} (m : BusModel W) (c : Chips P) (chips : W → P) (Whole : W → Type 0) (laws : OfBoard m c chips Whole)
    (occurs : Event → W → W) (events : Events m c chips Whole occurs) (code : ℕ → Option (Instr × ℕ)) (Begins : Board W → Store P → Type 0) (place : ℕ) where
  abbrev Boots : Regs → (ℕ → ℕ) → Board W → P → Type 0
  Boots r f b p = Boot m c chips Whole laws occurs events code r f b p

  abbrev To : ℕ → (Board W → P → Type 0) → (Board W → P → Type 0) → Type 0
  To k S T = Leads m c chips Whole laws occurs events code Begins place k S T

  pub low_byte : (r : Regs) (off v : ℕ) (w : W) → off < 65536 → stored_at m widths.Byte 0 off v (record { registers = r; world = w; labels = [] }) ≡ record { registers = r; world = m.store w (stores.Byte off v); labels = [] }
  unfolding stored_access
  low_byte r off v w h =
      ap (λ a. record { registers = r; world = m.store w (stores.Byte a v); labels = labels_of (m.store_label w (stores.Byte a v)) }) (omega (arith, h))
      ∙ ap (λ o. record { registers = r; world = m.store w (stores.Byte off v); labels = labels_of o }) (Memory.no_byte_label m c chips Whole laws w off v (omega (arith, h)))

  -- one repetition
  unit_is : (r : Regs) (n si di l : ℕ) (f : ℕ → ℕ) (p : P) (w : W) → r.cs ≡ code_segment → r.es ≡ 0 → has r.flags 1024 ≡ false → suc n < 65536 → si + 1 < 65536 → di + 1 < 65536 → l + 3 < 65536 → Known m c chips Whole laws occurs events code f p w
      → (u : W) × (effect m rep_movsb l (record { registers = copying r (suc n) si di ((l + 3) % 65536); world = w; labels = [] }) ≡ record { registers = copying r n (suc si) (suc di) (if n == 0 then l + 3 else l); world = u; labels = [] }) × Known m c chips Whole laws occurs events code (byte_put di (f (code_start + si) % 256) f) p u
  unfolding effect string_moved unit_moved loaded_byte
  unit_is r n si di l f p w cs es up hn hs hd hl k =
      let v = f (code_start + si) % 256 in
      let u = m.store w (stores.Byte di v) in
      let r0 : Regs = copying r (suc n) si di ((l + 3) % 65536) in
      let x0 : Machine W = record { registers = r0; world = w; labels = [] } in
      let stepped_by : Regs = record r0 { si = stepped r.flags widths.Byte si; di = stepped r.flags widths.Byte di } in
      let more : Machine W → Machine W = λ x. record { registers = counted_down repeats.WhileCx l stepped_by; world = x.world; labels = x.labels } in
      let from : physical code_segment si ≡ code_start + si = omega (arith, hs) in
      let read : m.load w (physical code_segment si) % 256 ≡ v = ap (λ x. m.load w x % 256) from ∙ ap (λ x. x % 256) (k.memory (code_start + si) (omega (arith, hs))) in
      let left : (suc n + 65535) % 65536 ≡ n = omega (arith, hn) in
      let past : (l + 3) % 65536 ≡ l + 3 = omega (arith, hl) in
      let si1 : (si + 1) % 65536 ≡ suc si = omega (arith, hs) in
      let di1 : (di + 1) % 65536 ≡ suc di = omega (arith, hd) in
      let made : ℕ → ℕ → ℕ → ℕ → Machine W = λ cx s d e. record { registers = copying r cx s d (if cx == 0 then e else l); world = u; labels = [] } in (
        u,
        ap (λ (b : Bool). if not b then more (stored_at m widths.Byte r.es di (m.load w (physical r.cs si) % 256) x0) else x0) (ne_eqb (suc n) 0 (λ e. absurd (omega (arith, e))))
            ∙ ap₂ (λ a b. more (stored_at m widths.Byte a di (m.load w (physical b si) % 256) x0)) es cs
            ∙ ap (λ y. more (stored_at m widths.Byte 0 di y x0)) read
            ∙ ap more (low_byte r0 di v w (omega (arith, hd)))
            ∙ ap (λ (t : Bool). made ((suc n + 65535) % 65536) ((si + (if t then 65535 else 1)) % 65536) ((di + (if t then 65535 else 1)) % 65536) ((l + 3) % 65536)) up
            ∙ ap₂ (λ a b. made a ((si + 1) % 65536) ((di + 1) % 65536) b) left past
            ∙ ap₂ (λ a b. made n a b (l + 3)) si1 di1,
        world_stored m c chips Whole laws occurs events code Begins place f p w widths.Byte di v (omega (arith, hd)) k,
      )

  -- n bytes in n turns
  pub copies : (r : Regs) → r.cs ≡ code_segment → r.es ≡ 0 → FlagsAre false r.flags → has r.flags 1024 ≡ false → (n si di l : ℕ) (f : ℕ → ℕ) → code l ≡ Some (rep_movsb, 3) → si + suc n < 65536 → di + suc n < 65536 → l + 3 < 65536 → l < place
      → To (suc n) (Boots (copying r (suc n) si di l) f) (Boots (copying r 0 (si + suc n) (di + suc n) (l + 3)) (copied (suc n) si di f))
  unfolding copied
  copies r cs es off up zero si di l f here hs hd hl before =
      let g : ℕ → ℕ = byte_put di (f (code_start + si) % 256) f in
      let s1 : To 1 (Boots (copying r 1 si di l) f) (Boots (copying r 0 (suc si) (suc di) (l + 3)) g) =
      steps_by m c chips Whole laws occurs events code Begins place (copying r 1 si di l) f rep_movsb 3 (copying r 0 (suc si) (suc di) (l + 3)) g cs off.on_is refl here (λ e. omega (arith, e, before)) (λ p w. unit_is r 0 si di l f p w cs es up (omega (arith, hs)) (omega (arith, hs)) (omega (arith, hd)) hl) in
      let e1 : suc si ≡ si + 1 = omega arith in
      let e2 : suc di ≡ di + 1 = omega arith in
      subst₂ (λ a b. To 1 (Boots (copying r 1 si di l) f) (Boots (copying r 0 a b (l + 3)) g)) e1 e2 s1
  copies r cs es off up (suc k) si di l f here hs hd hl before =
      let g : ℕ → ℕ = byte_put di (f (code_start + si) % 256) f in
      let h : ℕ → ℕ = copied (suc k) (suc si) (suc di) g in
      let s1 : To 1 (Boots (copying r (suc (suc k)) si di l) f) (Boots (copying r (suc k) (suc si) (suc di) l) g) =
      steps_by m c chips Whole laws occurs events code Begins place (copying r (suc (suc k)) si di l) f rep_movsb 3 (copying r (suc k) (suc si) (suc di) l) g cs off.on_is refl here (λ e. omega (arith, e, before))
      (λ p w z. let t = unit_is r (suc k) si di l f p w cs es up (omega (arith, hs)) (omega (arith, hs)) (omega (arith, hd)) hl z in
      (t.0, t.1 ∙ ap (λ (b : Bool). record { registers = copying r (suc k) (suc si) (suc di) (if b then l + 3 else l); world = t.0; labels = [] }) (ne_eqb (suc k) 0 (λ e. absurd (omega (arith, e)))), t.2)) in
      let rest = copies r cs es off up k (suc si) (suc di) l g here (omega (arith, hs)) (omega (arith, hd)) hl before in
      let both = then_leads m c chips Whole laws occurs events code Begins place 1 (suc k) (Boots (copying r (suc (suc k)) si di l) f) (Boots (copying r (suc k) (suc si) (suc di) l) g) (Boots (copying r 0 (suc si + suc k) (suc di + suc k) (l + 3)) h) s1 rest in
      let turns : 1 + suc k ≡ suc (suc k) = omega arith in
      let e1 : suc si + suc k ≡ si + suc (suc k) = omega arith in
      let e2 : suc di + suc k ≡ di + suc (suc k) = omega arith in
      let same : To (suc (suc k)) (Boots (copying r (suc (suc k)) si di l) f) (Boots (copying r 0 (suc si + suc k) (suc di + suc k) (l + 3)) h) = subst (λ n. To n (Boots (copying r (suc (suc k)) si di l) f) (Boots (copying r 0 (suc si + suc k) (suc di + suc k) (l + 3)) h)) turns both in
      subst₂ (λ a b. To (suc (suc k)) (Boots (copying r (suc (suc k)) si di l) f) (Boots (copying r 0 a b (l + 3)) h)) e1 e2 same

-- ---- what puts and copies leave, byte by byte

pub byte_put_same : (a v : ℕ) (f : ℕ → ℕ) → byte_put a v f a ≡ v
byte_put_same a v f = ap (λ t. if t then v else f a) (eq-eqb a a refl)

pub byte_put_other : (a v b : ℕ) (f : ℕ → ℕ) → b ≢ a → byte_put a v f b ≡ f b
byte_put_other a v b f n = ap (λ t. if t then v else f b) (ne_eqb b a n)

pub word_put_low : (a v : ℕ) (f : ℕ → ℕ) → word_put a v f a ≡ v % 256
word_put_low a v f = Memory.stored_word_low a (a + 1) v (f a) (λ e. absurd (omega (arith, e)))

pub word_put_high : (a v : ℕ) (f : ℕ → ℕ) → word_put a v f (a + 1) ≡ v / 256
word_put_high a v f = Memory.stored_word_high a (a + 1) v (f (a + 1))

pub word_put_other : (a v b : ℕ) (f : ℕ → ℕ) → b ≢ a → b ≢ a + 1 → word_put a v f b ≡ f b
word_put_other a v b f n k = Memory.stored_word_other a (a + 1) v b (f b) n k

-- a copy leaves what is beside it
pub copied_beside : (n from to : ℕ) (f : ℕ → ℕ) (a : ℕ) → (a < to) ⊎ (to + n ≤ a) → copied n from to f a ≡ f a
unfolding copied
copied_beside zero from to f a h = refl
copied_beside (suc n) from to f a h =
    copied_beside n (suc from) (suc to) (byte_put to (f (code_start + from) % 256) f) a (⊎_elim (λ lt. inl (omega (arith, lt))) (λ le. inr (omega (arith, le))) h)
    ∙ byte_put_other to (f (code_start + from) % 256) a f (λ e. ⊎_elim (λ lt. absurd (omega (arith, e, lt))) (λ le. absurd (omega (arith, e, le))) h)

-- and puts the ROM's bytes there
pub copied_at : (n from to : ℕ) (f : ℕ → ℕ) (j : ℕ) → j < n → to + n ≤ code_start → copied n from to f (to + j) ≡ f (code_start + (from + j)) % 256
unfolding copied
copied_at zero from to f j h le = absurd (omega (arith, h))
copied_at (suc n) from to f zero h le =
    let v = f (code_start + from) % 256 in
    let here : to + 0 ≡ to = omega arith in
    let there : code_start + from ≡ code_start + (from + 0) = omega arith in
    ap (copied n (suc from) (suc to) (byte_put to v f)) here
    ∙ copied_beside n (suc from) (suc to) (byte_put to v f) to (inl (omega arith))
    ∙ byte_put_same to v f ∙ ap (λ a. f a % 256) there
copied_at (suc n) from to f (suc j) h le =
    let v = f (code_start + from) % 256 in
    let here : to + suc j ≡ suc to + j = omega arith in
    let there : code_start + (suc from + j) ≡ code_start + (from + suc j) = omega arith in
    ap (copied n (suc from) (suc to) (byte_put to v f)) here
    ∙ copied_at n (suc from) (suc to) (byte_put to v f) j (omega (arith, h)) (omega (arith, le))
    ∙ ap (λ b. b % 256) (byte_put_other to v (code_start + (suc from + j)) f (λ e. absurd (omega (arith, e, le)))) ∙ ap (λ a. f a % 256) there

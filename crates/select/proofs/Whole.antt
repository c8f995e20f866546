-- Main and the interrupt procedures follow their code.
use Rattle.std.proofs.Common.{◌≡◌, ℕ, suc, ◌+◌, ◌-◌, ◌%◌, ◌<◌, ◌≤◌, Bool, true, false, List, [], ◌∷◌, ◌++◌, length, Option, Some, None, refl, sym, ap, ◌∙◌, subst, arith, slice_get}
use Rattle.std.specs.Prelude.{◌==◌, if◌then◌else◌}
use Rattle.std.proofs.lemmas.Bool.{lt-ltb, eq-eqb, and_from}
use Rattle.select.proofs.Saving.{few_registers}
use Rattle.word86.specs.Access.{Access, answers}
use Rattle.word86.specs.Action.{Action, Silent, Over}
use Rattle.word86.specs.Following.{Follows, Does}
use Rattle.i86_table.specs.declared.registers.Register16.{Register16}
use Rattle.i86_table.specs.declared.registers.Register16.TheVariants.{Ax, Bx, Cx, Dx, Bp, Sp, Si, Di}
use Rattle.i86_table.specs.declared.instruction.Instr.{Instr}
use Rattle.i86_table.specs.declared.instruction.Instr.TheVariants as i
use Rattle.i86_table.specs.Arithmetic.{without_trap_and_interrupts}
use Rattle.i86_table.specs.Contexts.{Context, Own, Working, Given, word_in, set_word, set_flags, offer, offered, start, pushes, refused, gives_back, top_of, stack_pointer}
use Rattle.i86_table.specs.Words.{AreWords, HasWords}
use Rattle.icode.specs.declared.instruction.Instruction.{Instruction}
use Rattle.icode.specs.declared.code.Routine.{Routine}
use Rattle.icode.specs.declared.code.Routine.TheVariants.{Main}
use Rattle.icode.specs.declared.code.Word.{Word}
use Rattle.icode.specs.declared.registers.Registers.{Registers}
use Rattle.icode.specs.Registers.{changes}
use Rattle.icode.specs.Machine.{At, does}
use Rattle.icode.specs.Machine as machine
use Rattle.select.specs.declared.part.Step.TheVariants.{Plain}
use Rattle.select.specs.Rows.{push, pop, saved, given_back, with_register, registers_of, first_of, row, plain}
use Rattle.icode.specs.Runs.{Comes}
use Rattle.select.specs.Promise.{Image, IsSelected, IsServed, Counted, InstructionsFollow, next_of, place_of, accumulator_of}
use Rattle.select.proofs.Rests.{Laws}
use Rattle.select.proofs.Keeping.{OnlyChanges, Same, stays, changes_then, changes_wider}
use Rattle.select.proofs.Straight.{with_each, also}
use Rattle.select.proofs.Straight as straight
use Rattle.select.proofs.Chains
use Rattle.select.proofs.Engine
use Rattle.select.proofs.Arming
use Rattle.select.proofs.Arming.{is_main}
use Rattle.select.proofs.Routines
use Rattle.select.proofs.Following

-- the stack pointer is not among them
abbrev NoSp : List Register16 → Type 0
NoSp [] = Unit {0}
NoSp (Sp ∷ rs) = ⊥
NoSp (r ∷ rs) = NoSp rs

-- words on the stack once these registers were pushed
abbrev kept : List Register16 → Working → List ℕ → List ℕ
kept [] g st = st
kept (r ∷ rs) g st = kept rs g (word_in g r % 65536 ∷ st)

-- registers once they were popped again
abbrev restored : List Register16 → (from now : Working) → Working
restored [] g h = h
restored (r ∷ rs) g h = set_word (restored rs g h) r (word_in g r % 65536)

kept_length : (rs : List Register16) (g : Working) (st : List ℕ) → length (kept rs g st) ≡ length rs + length st
kept_length [] g st = omega arith
kept_length (r ∷ rs) g st = omega (arith, kept_length rs g (word_in g r % 65536 ∷ st))

module _ (find : ℕ → ℕ → Option (ℕ × ℕ)) (words : ℕ → Option ℕ) (main handler : ℕ) (given : Given) where
  abbrev St : List Instr → Working → List ℕ → Working → List ℕ → Type 0
  St ns a st b st2 = straight.Straight find words main handler (Some given) ns a st b st2

  pushed : (st : List ℕ) (c : Context) → length st < handler → pushes find words main handler st (Some given) c ≡ Does (Silent c)
  pushed st c l = ap (λ (b : Bool). if b then Does (Silent c) else refused) (lt-ltb (length st) handler l)

  push_is : (r : Register16) (rs : List Register16) (g : Working) (st : List ℕ) (q : ℕ) → NoSp (r ∷ rs) → length st < handler
      → offered find words main handler (push r) q g st false (Some given) ≡ Does (Silent (Own q g (word_in g r % 65536 ∷ st) false (Some given)))
  push_is Ax rs g st q n l = pushed st (Own q g (g.ax % 65536 ∷ st) false (Some given)) l
  push_is Cx rs g st q n l = pushed st (Own q g (g.cx % 65536 ∷ st) false (Some given)) l
  push_is Dx rs g st q n l = pushed st (Own q g (g.dx % 65536 ∷ st) false (Some given)) l
  push_is Bx rs g st q n l = pushed st (Own q g (g.bx % 65536 ∷ st) false (Some given)) l
  push_is Sp rs g st q n l = absurd n
  push_is Bp rs g st q n l = pushed st (Own q g (g.bp % 65536 ∷ st) false (Some given)) l
  push_is Si rs g st q n l = pushed st (Own q g (g.si % 65536 ∷ st) false (Some given)) l
  push_is Di rs g st q n l = pushed st (Own q g (g.di % 65536 ∷ st) false (Some given)) l

  pop_is : (r : Register16) (rs : List Register16) (g : Working) (v : ℕ) (st : List ℕ) (q : ℕ) → NoSp (r ∷ rs)
      → offered find words main handler (pop r) q g (v ∷ st) false (Some given) ≡ Does (Silent (Own q (set_word g r v) st false (Some given)))
  pop_is Ax rs g v st q n = refl
  pop_is Cx rs g v st q n = refl
  pop_is Dx rs g v st q n = refl
  pop_is Bx rs g v st q n = refl
  pop_is Sp rs g v st q n = absurd n
  pop_is Bp rs g v st q n = refl
  pop_is Si rs g v st q n = refl
  pop_is Di rs g v st q n = refl

  without_first : (r : Register16) (rs : List Register16) → NoSp (r ∷ rs) → NoSp rs
  without_first Ax rs n = n
  without_first Cx rs n = n
  without_first Dx rs n = n
  without_first Bx rs n = n
  without_first Sp rs n = absurd n
  without_first Bp rs n = n
  without_first Si rs n = n
  without_first Di rs n = n

  saves : (rs : List Register16) (g : Working) (st : List ℕ) → NoSp rs → length rs + length st ≤ handler → St (saved rs) g st g (kept rs g st)
  saves [] g st n l = (refl, refl)
  saves (r ∷ rs) g st n l =
      let st1 = word_in g r % 65536 ∷ st in
      (g, st1, λ q. push_is r rs g st q n (omega (arith, l)), saves rs g st1 (without_first r rs n) (omega (arith, l)))

  restores : (rs : List Register16) (g h : Working) (st : List ℕ) → NoSp rs → St (given_back rs) h (kept rs g st) (restored rs g h) st
  restores [] g h st n = (refl, refl)
  restores (r ∷ rs) g h st n =
      let st1 = word_in g r % 65536 ∷ st in
      let h1 = restored rs g h in
      let h2 = set_word h1 r (word_in g r % 65536) in
      also find words main handler (Some given) (given_back rs) (pop r ∷ []) h (kept rs g st1) h1 st1 h2 st (restores rs g h st1 (without_first r rs n))
      (h2, st, λ q. pop_is r rs h1 (word_in g r % 65536) st q n, (refl, refl))

back_pace : (rs : List Register16) (f : ℕ) → with_each (given_back rs) f ≡ length rs + f
back_pace [] f = omega arith
back_pace (r ∷ rs) f = more (given_back rs) (pop r) f ∙ back_pace rs (suc f) ∙ omega arith
  where
    more : (ns : List Instr) (n : Instr) (f : ℕ) → with_each (ns ++ n ∷ []) f ≡ with_each ns (suc f)
    more [] n f = refl
    more (m ∷ ns) n f = ap suc (more ns n f)

saved_pace : (rs : List Register16) (f : ℕ) → with_each (saved rs) f ≡ length rs + f
saved_pace [] f = omega arith
saved_pace (r ∷ rs) f = omega (arith, saved_pace rs f)

-- ---- what is saved

adds : (b : Bool) (r : Register16) (rs : List Register16) → NoSp rs → (NoSp rs → NoSp (r ∷ rs)) → NoSp (with_register b r rs)
adds true r rs n f = f n
adds false r rs n f = n

no_sp : (s : Registers) → NoSp (registers_of s)
no_sp s =
    adds s.accumulator Ax _ (adds s.right Cx _ (adds s.high Dx _ (adds s.address Bx _ (adds s.frame Bp [] tt (λ n. n)) (λ n. n)) (λ n. n)) (λ n. n)) (λ n. n)

-- another register is not touched
other : (b : Bool) (r : Register16) (rs : List Register16) (g h : Working) (get : Working → ℕ) → ((w : Working) (v : ℕ) → get (set_word w r v) ≡ get w) → get (restored (with_register b r rs) g h) ≡ get (restored rs g h)
other true r rs g h get f = f (restored rs g h) (word_in g r % 65536)
other false r rs g h get f = refl

-- it was saved, or it is as it was
itself : (b : Bool) (r : Register16) (rs : List Register16) (g h : Working) (get : Working → ℕ) → ((w : Working) (v : ℕ) → get (set_word w r v) ≡ v) → word_in g r ≡ get g → get g < 65536
    → (b ≡ false → get (restored rs g h) ≡ get g) → get (restored (with_register b r rs) g h) ≡ get g
itself true r rs g h get f is l e = f (restored rs g h) (word_in g r % 65536) ∙ ap (λ z. z % 65536) is ∙ omega (arith, l)
itself false r rs g h get f is l e = e refl

kept_so : (b : Bool) (u v : ℕ) → Same b u v → b ≡ false → v ≡ u
kept_so true u v s e = absurd (cc)
kept_so false u v s e = s

module _ (laws : Laws) (x : Image) (all : IsSelected x) where
  abbrev next : machine.Context → Action Access machine.Context
  next = next_of x

  pub stand : (r : Routine) (k : ℕ) (ins : Instruction) → slice_get (x.icode r) k ≡ Some ins
      → Chains.From x.code x.words x.offsets x.places (x.at r) (place_of x r k) (row (first_of (x.saves r) (x.icode r)) x.part (x.saves r) (k + 1) ins) (place_of x r (k + 1))
  stand r k ins e = Routines.row_stands x.code x.words x.offsets x.places x.part (x.at r) (all.low r) (x.saves r) (x.icode r) (all.stand r) k ins e

  module _ (g : Working) (are : AreWords g) (counted : Counted next (At Main 0 g.ax []) true x.main) where
    main_ends : Following.Ends laws x all stand None [] (At Main 0 g.ax []) x.main counted (omega arith) (omega (arith, all.few)) (omega arith) (λ h. Unit {0}) (λ n r k b ws ins c e h1 h2 o u. tt)
    main_ends n r k h p inv e at c =
        absurd (Following.allowed laws x all stand None [] (At Main 0 g.ax []) x.main counted (omega arith) (omega (arith, all.few)) (omega arith) (λ h. Unit {0}) (λ n r k b ws ins c e h1 h2 o u. tt) (At r k h.ax []) Over p e)

    main_follows : (n : ℕ) → Follows Access answers machine.Context next Context (offer x.code x.find x.words x.entry x.main x.handler) 20 1 true n 20 (At Main 0 g.ax []) (Own x.main_at g [] false None)
    main_follows n =
        subst (λ z. Follows Access answers machine.Context next Context (offer x.code x.find x.words x.entry x.main x.handler) 20 1 true n 20 (At Main 0 g.ax []) (Own z g [] false None)) (sym all.begins)
        (Engine.looser machine.Context next x.code x.find x.words x.entry x.main x.handler 20 true x.offsets x.places None n 8 20 (At Main 0 g.ax []) (Own (place_of x Main 0) g [] false None) (omega arith)
        (Following.bounds laws x all stand None [] (At Main 0 g.ax []) x.main counted (omega arith) (omega (arith, all.few)) (omega arith) (λ h. Unit {0}) (λ n r k b ws ins c e h1 h2 o u. tt) main_ends n Main 0 [] g (0, refl) are.ax tt tt))

  module _ (v : ℕ) (g : Working) (top : ℕ) (are : AreWords g) (top_small : top < 65536) (served : IsServed x v g.ax) where
    r0 : Routine
    r0 = x.serving v

    abbrev s0 : Registers
    s0 = x.saves (x.serving v)

    abbrev rs : List Register16
    rs = registers_of s0

    abbrev given : Given
    given = record { registers = g; top = top }

    abbrev begin : machine.Context
    begin = At (x.serving v) 0 g.ax []

    abbrev base : List ℕ
    base = kept rs g []

    abbrev Inv : Working → Type 0
    Inv h = OnlyChanges s0 g h

    base_length : length base ≡ length rs
    base_length = omega (arith, kept_length rs g [])

    enough : served.most + length base ≤ x.handler
    enough = omega (arith, base_length, served.enough)

    keeps : (n : ℕ) (r : Routine) (k b : ℕ) (ws : List Word) (ins : Instruction) → Comes next begin n (At r k b ws) → slice_get (x.icode r) k ≡ Some ins → (h1 h2 : Working) → OnlyChanges (changes ins) h1 h2 → Inv h1 → Inv h2
    keeps n r k b ws ins c e h1 h2 o inv = changes_then s0 g h1 h2 inv (changes_wider s0 (changes ins) h1 h2 (served.saves n r k b ws ins c e) o)

    gives : (h : Working) → Inv h → gives_back g (restored rs g h) [] ≡ true
    gives h o =
        and_from (g.ax == (restored rs g h).ax) _ (eq-eqb g.ax (restored rs g h).ax (sym ax_back))
        (and_from (g.cx == (restored rs g h).cx) _ (eq-eqb g.cx (restored rs g h).cx (sym cx_back))
        (and_from (g.dx == (restored rs g h).dx) _ (eq-eqb g.dx (restored rs g h).dx (sym dx_back))
        (and_from (g.bx == (restored rs g h).bx) _ (eq-eqb g.bx (restored rs g h).bx (sym bx_back))
        (and_from (g.bp == (restored rs g h).bp) _ (eq-eqb g.bp (restored rs g h).bp (sym bp_back))
        (and_from (g.si == (restored rs g h).si) _ (eq-eqb g.si (restored rs g h).si (sym si_back))
        (eq-eqb g.di (restored rs g h).di (sym di_back)))))))
      where
        r5 : List Register16
        r5 = with_register s0.frame Bp []

        ax_back : (restored rs g h).ax ≡ g.ax
        ax_back = itself s0.accumulator Ax _ g h (λ w. w.ax) (λ w v. refl) refl are.ax
            (λ e. other s0.right Cx _ g h (λ w. w.ax) (λ w v. refl) ∙ other s0.high Dx _ g h (λ w. w.ax) (λ w v. refl) ∙ other s0.address Bx _ g h (λ w. w.ax) (λ w v. refl) ∙ other s0.frame Bp [] g h (λ w. w.ax) (λ w v. refl) ∙ kept_so s0.accumulator g.ax h.ax o.0 e)

        cx_back : (restored rs g h).cx ≡ g.cx
        cx_back = other s0.accumulator Ax _ g h (λ w. w.cx) (λ w v. refl) ∙ itself s0.right Cx _ g h (λ w. w.cx) (λ w v. refl) refl are.cx
            (λ e. other s0.high Dx _ g h (λ w. w.cx) (λ w v. refl) ∙ other s0.address Bx _ g h (λ w. w.cx) (λ w v. refl) ∙ other s0.frame Bp [] g h (λ w. w.cx) (λ w v. refl) ∙ kept_so s0.right g.cx h.cx o.1 e)

        dx_back : (restored rs g h).dx ≡ g.dx
        dx_back = other s0.accumulator Ax _ g h (λ w. w.dx) (λ w v. refl) ∙ other s0.right Cx _ g h (λ w. w.dx) (λ w v. refl) ∙ itself s0.high Dx _ g h (λ w. w.dx) (λ w v. refl) refl are.dx
            (λ e. other s0.address Bx _ g h (λ w. w.dx) (λ w v. refl) ∙ other s0.frame Bp [] g h (λ w. w.dx) (λ w v. refl) ∙ kept_so s0.high g.dx h.dx o.2 e)

        bx_back : (restored rs g h).bx ≡ g.bx
        bx_back = other s0.accumulator Ax _ g h (λ w. w.bx) (λ w v. refl) ∙ other s0.right Cx _ g h (λ w. w.bx) (λ w v. refl) ∙ other s0.high Dx _ g h (λ w. w.bx) (λ w v. refl) ∙ itself s0.address Bx _ g h (λ w. w.bx) (λ w v. refl) refl are.bx
            (λ e. other s0.frame Bp [] g h (λ w. w.bx) (λ w v. refl) ∙ kept_so s0.address g.bx h.bx o.3 e)

        bp_back : (restored rs g h).bp ≡ g.bp
        bp_back = other s0.accumulator Ax _ g h (λ w. w.bp) (λ w v. refl) ∙ other s0.right Cx _ g h (λ w. w.bp) (λ w v. refl) ∙ other s0.high Dx _ g h (λ w. w.bp) (λ w v. refl) ∙ other s0.address Bx _ g h (λ w. w.bp) (λ w v. refl)
            ∙ itself s0.frame Bp [] g h (λ w. w.bp) (λ w v. refl) refl are.bp (λ e. kept_so s0.frame g.bp h.bp o.4 e)

        si_back : (restored rs g h).si ≡ g.si
        si_back = other s0.accumulator Ax _ g h (λ w. w.si) (λ w v. refl) ∙ other s0.right Cx _ g h (λ w. w.si) (λ w v. refl) ∙ other s0.high Dx _ g h (λ w. w.si) (λ w v. refl) ∙ other s0.address Bx _ g h (λ w. w.si) (λ w v. refl) ∙ other s0.frame Bp [] g h (λ w. w.si) (λ w v. refl) ∙ o.5

        di_back : (restored rs g h).di ≡ g.di
        di_back = other s0.accumulator Ax _ g h (λ w. w.di) (λ w v. refl) ∙ other s0.right Cx _ g h (λ w. w.di) (λ w v. refl) ∙ other s0.high Dx _ g h (λ w. w.di) (λ w v. refl) ∙ other s0.address Bx _ g h (λ w. w.di) (λ w v. refl) ∙ other s0.frame Bp [] g h (λ w. w.di) (λ w v. refl) ∙ o.6

    ends : Following.Ends laws x all stand (Some given) base begin served.most served.counted enough (omega (arith, all.few)) top_small Inv keeps
    ends n r k h p inv e at c =
        let same : r ≡ x.serving v = served.ends p.0 r k h.ax [] p.1 at in
        let own : x.saves r ≡ s0 = ap x.saves same in
        let c2 = subst (λ z. Chains.From x.code x.words x.offsets x.places (x.at r) (place_of x r k) (plain (given_back (registers_of z) ++ i.InterruptReturn ∷ [])) (place_of x r (k + 1))) own c in
        let all_back = given_back rs in
        let pace : with_each all_back 0 ≤ 8 = omega (arith, back_pace rs 0, few_registers s0) in
        iret n r k h inv e c2 pace
      where
        iret : (n : ℕ) (r : Routine) (k : ℕ) (h : Working) → Inv h → next (At r k h.ax []) ≡ Over
            → Chains.From x.code x.words x.offsets x.places (x.at r) (place_of x r k) (plain (given_back rs ++ i.InterruptReturn ∷ [])) (place_of x r (k + 1)) → with_each (given_back rs) 0 ≤ 8
            → Following.Fl laws x all stand (Some given) base begin served.most served.counted enough (omega (arith, all.few)) top_small Inv keeps n 8 (At r k h.ax []) (Own (place_of x r k) h base false (Some given))
        iret n r k h inv e c pace =
            let t = split (given_back rs) (place_of x r k) c in
            Engine.looser machine.Context next x.code x.find x.words x.entry x.main x.handler 20 false x.offsets x.places (Some given) n (with_each (given_back rs) 0) 8 (At r k h.ax []) (Own (place_of x r k) h base false (Some given)) pace
            (Engine.runs machine.Context next x.code x.find x.words x.entry x.main x.handler 20 false x.offsets x.places (Some given) (x.at r) (given_back rs) n 0 (place_of x r k) t.0 (At r k h.ax []) h base (restored rs g h) [] (restores x.find x.words x.main x.handler given rs g h [] (no_sp s0)) t.1
            (λ m le. Arming.ends machine.Context next x.code x.find x.words x.entry x.main x.handler 20 x.offsets x.places given m 0 t.0 t.2.0 (At r k h.ax []) (restored rs g h) e t.2.1 t.2.2 (gives h inv)))
          where
            split : (ns : List Instr) (p : ℕ) → Chains.From x.code x.words x.offsets x.places (x.at r) p (plain (ns ++ i.InterruptReturn ∷ [])) (place_of x r (k + 1))
                → (m : ℕ) × Chains.From x.code x.words x.offsets x.places (x.at r) p (plain ns) m × Chains.From x.code x.words x.offsets x.places (x.at r) m (Plain i.InterruptReturn ∷ []) (place_of x r (k + 1))
            split [] p h = (p, refl, h)
            split (n ∷ ns) p h = let t = split ns h.0 h.3 in (t.0, (h.0, h.1, h.2, t.1), t.2)

    began : Working
    began = set_flags g (without_trap_and_interrupts g.flags)

    handler_follows : (n : ℕ) → Follows Access answers machine.Context next Context (offer x.code x.find x.words x.entry x.main x.handler) 20 1 false n 20 begin (Own (x.entry v) (set_flags g (without_trap_and_interrupts g.flags)) [] false (Some given))
    unfolding began
    handler_follows n =
        let c = Routines.saves_stand x.code x.words x.offsets x.places x.part (x.at (x.serving v)) (all.low (x.serving v)) s0 (x.icode (x.serving v)) (all.stand (x.serving v)) in
        let pace : with_each (saved rs) 8 ≤ 20 = omega (arith, saved_pace rs 8, few_registers s0) in
        let room_for : length rs + 0 ≤ x.handler = omega (arith, served.enough) in
        subst (λ z. Follows Access answers machine.Context next Context (offer x.code x.find x.words x.entry x.main x.handler) 20 1 false n 20 begin (Own z began [] false (Some given))) (sym (all.starts v))
        (Engine.looser machine.Context next x.code x.find x.words x.entry x.main x.handler 20 false x.offsets x.places (Some given) n (with_each (saved rs) 8) 20 begin (Own (x.at (x.serving v) 0) began [] false (Some given)) pace
        (Engine.runs machine.Context next x.code x.find x.words x.entry x.main x.handler 20 false x.offsets x.places (Some given) (x.at (x.serving v)) (saved rs) n 8 (x.at (x.serving v) 0) (place_of x (x.serving v) 0) begin began [] began base
        (subst (λ z. St x.find x.words x.main x.handler given (saved rs) began [] began z) (flags_apart rs []) (saves x.find x.words x.main x.handler given rs began [] (no_sp s0) room_for)) c
        (λ m le. Following.bounds laws x all stand (Some given) base begin served.most served.counted enough (omega (arith, all.few)) top_small Inv keeps ends m (x.serving v) 0 [] began (0, refl) are.ax tt (stays s0 g))))
      where
        same_word : (r : Register16) → word_in (set_flags g (without_trap_and_interrupts g.flags)) r ≡ word_in g r
        same_word Ax = refl
        same_word Cx = refl
        same_word Dx = refl
        same_word Bx = refl
        same_word Sp = refl
        same_word Bp = refl
        same_word Si = refl
        same_word Di = refl

        flags_apart : (rs : List Register16) (st : List ℕ) → kept rs (set_flags g (without_trap_and_interrupts g.flags)) st ≡ kept rs g st
        flags_apart [] st = refl
        flags_apart (r ∷ rs) st = flags_apart rs (word_in (set_flags g (without_trap_and_interrupts g.flags)) r % 65536 ∷ st) ∙ ap (λ z. kept rs g (z % 65536 ∷ st)) (same_word r)

pub instructions_follow : Laws → InstructionsFollow
instructions_follow laws x all main_counted served = record {
  follows = λ n g are. main_follows laws x all g are (main_counted g.ax are.ax) n;
  serves = serves_all;
}
  where
    serves_all : (n v : ℕ) (c : Context) → HasWords c
        → Follows Access answers machine.Context (next_of x) Context (offer x.code x.find x.words x.entry x.main x.handler) 20 1 false n 20 (At (x.serving v) 0 (accumulator_of c) []) (start x.code x.find x.words x.entry x.main x.handler v c)
    serves_all n v (Own place g st a given) words =
        handler_follows laws x all v g (stack_pointer given st - 6) words.0 (small words.2) (served v g.ax words.0.ax) n
      where
        small : top_of given < 65536 → stack_pointer given st - 6 < 65536
        small l = omega (arith, l)

-- The instructions of a context follow the intermediate code, row by row.
use Rattle.std.proofs.Common.{true≢false, ◌≡◌, ℕ, zero, suc, ◌+◌, ◌-◌, ◌*◌, ◌/◌, ◌%◌, ◌<◌, ◌≤◌, ◌⊎◌, inl, inr, Bool, true, false, List, [], ◌∷◌, ◌++◌, length, drop, Option, Some, None, refl, sym, ap, ◌∙◌, subst, arith, slice_get}
use Rattle.std.specs.Prelude.{not, if◌then◌else◌, nat_le, nat_lt, nat_eq, ◌==◌, ◌&&◌, slice_index}
use Rattle.std.specs.Int.RustNames.{bit_and}
use Rattle.std.proofs.lemmas.Bool.{cases_lt, lt-ltb, le-ltb, le-leb, lt-leb, leb-true, leb-false, eq-eqb, ne_eqb, eqb-true, and_parts, and_right}
use Rattle.std.proofs.lemmas.Option.{none-some}
use Rattle.std.proofs.Math.Nat.{mul_comm}
use Rattle.std.proofs.lemmas.Nat.{and_comm, or_comm, xor_comm, and_mask, and_le_l, or_of_8, xor_of_8}
use Rattle.word86.specs.declared.width.Width.{Width}
use Rattle.word86.specs.declared.width.Width.TheVariants as widths
use Rattle.word86.specs.declared.page.Page.{Page}
use Rattle.word86.specs.declared.page.Page.TheVariants.{Monochrome, Colour}
use Rattle.word86.specs.declared.place.Place.{Place}
use Rattle.word86.specs.declared.place.Place.TheVariants as word_place
use Rattle.word86.specs.declared.operation.BinaryOperation.{BinaryOperation}
use Rattle.word86.specs.declared.operation.BinaryOperation.TheVariants as binary
use Rattle.word86.specs.declared.operation.UnaryOperation.{UnaryOperation}
use Rattle.word86.specs.declared.operation.UnaryOperation.TheVariants as unary
use Rattle.word86.specs.Access.{Access, Where, Screen, Read, Write, Input, Output, answers, values}
use Rattle.word86.specs.Action.{Action, Silent, Touch, Enable, Disable, Halt, Over, Bad, IsBad}
use Rattle.word86.specs.Following.{Does}
use Rattle.word86.specs.Arithmetic.{low}
use Rattle.word86.specs.Operation.{unary_value, binary_value}
use Rattle.word86.specs.MemoryMap.{stack_room}
use Rattle.word86.specs.Page.{page_begins, page_size}
use Rattle.word86.specs.Place.{covers, held}
use Rattle.word86.specs.Place as word_places
use Rattle.i86_table.specs.declared.registers.Register16.TheVariants.{Ax, Bx, Cx, Dx, Bp, Sp}
use Rattle.i86_table.specs.declared.registers.Register8.TheVariants.{Al, Ah, Cl, Ch}
use Rattle.i86_table.specs.declared.registers.Segment.{Segment}
use Rattle.i86_table.specs.declared.registers.Segment.TheVariants as segments
use Rattle.i86_table.specs.declared.instruction.Base.TheVariants as bases
use Rattle.i86_table.specs.declared.instruction.RmOperand.TheVariants as rm
use Rattle.i86_table.specs.declared.instruction.Operands.TheVariants.{FromRegister, FromMemory}
use Rattle.i86_table.specs.declared.instruction.TestMask.TheVariants as masks
use Rattle.i86_table.specs.declared.instruction.Port.TheVariants as ports
use Rattle.i86_table.specs.declared.instruction.Count.TheVariants as counts
use Rattle.i86_table.specs.declared.instruction.AluOperation.TheVariants.{Add, Cmp}
use Rattle.i86_table.specs.declared.instruction.ShiftOperation.TheVariants as shifts
use Rattle.i86_table.specs.declared.instruction.UnaryOperation.TheVariants as changes_of
use Rattle.i86_table.specs.declared.instruction.Condition.{Condition}
use Rattle.i86_table.specs.declared.instruction.Condition.TheVariants as conditions
use Rattle.i86_table.specs.declared.instruction.Instr.{Instr}
use Rattle.i86_table.specs.declared.instruction.Instr.TheVariants as i
use Rattle.i86_table.specs.declared.flags.Flags as flags_type
use Rattle.i86_table.specs.declared.open.Use.TheVariants.{Operate}
use Rattle.i86_table.specs.declared.open.Open.{Open}
use Rattle.i86_table.specs.declared.open.Open.TheVariants as opens
use Rattle.i86_table.specs.Open.{closed}
use Rattle.i86_table.specs.Condition.{holds}
use Rattle.i86_table.specs.Arithmetic.{has, with_flag, flag_bit, tested, operated, shifted}
use Rattle.i86_table.specs.Arithmetic as i86_arithmetic
use Rattle.i86_table.specs.Contexts.{Context, Own, Working, Given, further, set_word, set_byte, set_flags, word_result, alu_word, alu_byte, room, bytes, place_in, in_object, on_screen, reads, writes, pushes, refused, offered, input_gives, output_takes, top_of, stack_pointer, takes, silently}
use Rattle.icode.specs.declared.instruction.Instruction.{Instruction}
use Rattle.icode.specs.declared.instruction.Instruction.TheVariants as op
use Rattle.icode.specs.declared.instruction.Relation.{Relation}
use Rattle.icode.specs.declared.instruction.Test.{Test}
use Rattle.icode.specs.declared.instruction.Test.TheVariants as test
use Rattle.icode.specs.declared.instruction.LowByte.{LowByte}
use Rattle.icode.specs.declared.instruction.LowByte.TheVariants as lows
use Rattle.icode.specs.declared.instruction.High.{High}
use Rattle.icode.specs.declared.instruction.High.TheVariants as highs
use Rattle.icode.specs.declared.instruction.Right.{Right}
use Rattle.icode.specs.declared.instruction.Right.TheVariants as rights
use Rattle.icode.specs.declared.instruction.Direct.{Direct}
use Rattle.icode.specs.declared.instruction.Direct.TheVariants as directs
use Rattle.icode.specs.declared.code.Routine.{Routine}
use Rattle.icode.specs.declared.code.Routine.TheVariants.{Procedure, Nowhere}
use Rattle.icode.specs.declared.code.Word.{Word}
use Rattle.icode.specs.declared.code.Word.TheVariants.{Value, Return}
use Rattle.icode.specs.declared.registers.Registers.{Registers}
use Rattle.icode.specs.Registers.{none, just_accumulator, just_right, just_high, joined, of_operator, is_direct, of_direct, of_read, of_test, of_drop, changes}
use Rattle.icode.specs.Machine.{At, address, found, loaded, stored, with_low, run, run_at, does, is_odd, stands, value_on_top, with_value, value_in, computed, jumped, dropped, switched, settled, direct_value, of_bytes}
use Rattle.icode.specs.Machine as machine
use Rattle.select.specs.declared.part.Step.{Step}
use Rattle.select.specs.declared.part.Step.TheVariants.{Plain, GotoIf}
use Rattle.select.specs.Linked.{Stands}
use Rattle.select.specs.Rows
use Rattle.select.specs.Rows.{load_number, accumulator_gets, exchange, copy, clear_byte, clear_high, push, pop, alu, alu_number, core, narrow, narrow_right, then_narrow, narrow_sum, loads, loads_right, stores, spot, row, first_of, plain, direct, by_constant, by_read, from_stack, commutes, fails, without_sign, registers_of, given_back, arithmetic, low_number, byte_alu, low_gets, low_on, cleared, low_row, low_compared, compares_byte, compares_word, tests_byte}
use Rattle.select.specs.Inner.Rows.{segment_of}
use Rattle.icode.specs.Made.{asked_constant}
use Rattle.icode.specs.Runs.{Leads, Comes}
use Rattle.select.specs.Promise.{Allowed, Counted, Image, IsSelected, next_of, place_of}
use Rattle.select.proofs.Rests.{Laws}
use Rattle.select.proofs.Keeping.{OnlyChanges, changes_then, changes_wider, stays}
use Rattle.select.proofs.Straight.{with_each, also}
use Rattle.select.proofs.Chains
use Rattle.select.proofs.Engine
use Rattle.select.proofs.Arming
use Rattle.select.proofs.Arming.{is_main, with_interrupts}
use Rattle.select.proofs.Cores
use Rattle.select.proofs.Flags
use Rattle.select.proofs.Stacks
use Rattle.select.proofs.Tables
use Rattle.select.proofs.Offers
use Rattle.select.proofs.Rounds
use Rattle.select.proofs.Offers.{right_gives}

module _ (laws : Laws) (x : Image) (all : IsSelected x)
    (rows_stand : (r : Routine) (k : ℕ) (ins : Instruction) → slice_get (x.icode r) k ≡ Some ins → Chains.From x.code x.words x.offsets x.places (x.at r) (place_of x r k) (row (first_of (x.saves r) (x.icode r)) x.part (x.saves r) (k + 1) ins) (place_of x r (k + 1)))
    (given : Option Given) (base : List ℕ) (begin : machine.Context) (most : ℕ)
    (counted : Counted (next_of x) begin (is_main given) most) (enough : most + length base ≤ room x.main x.handler given) (few : room x.main x.handler given ≤ stack_room / 2) (top_small : top_of given < 65536)
    (Inv : Working → Type 0)
    (keeps : (n : ℕ) (r : Routine) (k b : ℕ) (ws : List Word) (ins : Instruction) → Comes (next_of x) begin n (At r k b ws) → slice_get (x.icode r) k ≡ Some ins → (g h : Working) → OnlyChanges (changes ins) g h → Inv g → Inv h) where
  abbrev next : machine.Context → Action Access machine.Context
  next = next_of x

  abbrev pub Fl : ℕ → ℕ → machine.Context → Context → Type 0
  Fl n f r c = Engine.Fl machine.Context next x.code x.find x.words x.entry x.main x.handler 20 (is_main given) x.offsets x.places given n f r c

  abbrev Str : List Instr → Working → List ℕ → Working → List ℕ → Type 0
  Str ns g st h st2 = Engine.Straight machine.Context next x.code x.find x.words x.entry x.main x.handler 20 (is_main given) x.offsets x.places given ns g st h st2

  abbrev Chain : Routine → ℕ → List Step → ℕ → Type 0
  Chain r p xs q = Chains.From x.code x.words x.offsets x.places (x.at r) p xs q

  abbrev place : Routine → ℕ → ℕ
  place = place_of x

  abbrev first : Routine → ℕ → ℕ
  first r = first_of (x.saves r) (x.icode r)

  abbrev pub stack_of : List Word → List ℕ
  stack_of ws = Stacks.stack_of place base ws

  abbrev pub Small : List Word → Type 0
  Small ws = Stacks.Small place base ws

  -- the code comes to it
  abbrev pub P : machine.Context → Type 0
  P c = (n : ℕ) × Comes next begin n c

  looser : (n f g : ℕ) (r : machine.Context) (c : Context) → f ≤ g → Fl n f r c → Fl n g r c
  looser = Engine.looser machine.Context next x.code x.find x.words x.entry x.main x.handler 20 (is_main given) x.offsets x.places given

  -- at the place of an instruction of the code
  abbrev pub Bound : ℕ → Type 0
  Bound n = (r : Routine) (k : ℕ) (ws : List Word) (g : Working) → P (At r k g.ax ws) → g.ax < 65536 → Small ws → Inv g → Fl n 8 (At r k g.ax ws) (Own (place r k) g (stack_of ws) false given)

  abbrev Later : ℕ → Type 0
  Later n = (j : ℕ) → j < n → Bound j

  arrives : (n : ℕ) (r : Routine) (k a q : ℕ) (ws : List Word) (g : Working) (st : List ℕ) → Bound n → q ≡ place r k → g.ax ≡ a → st ≡ stack_of ws → P (At r k a ws) → a < 65536 → Small ws → Inv g
      → Fl n 8 (At r k a ws) (Own q g st false given)
  arrives n r k a q ws g st go eq ea es p lt small inv =
      subst (λ z. Fl n 8 (At r k a ws) (Own z g st false given)) (sym eq)
      (subst (λ z. Fl n 8 (At r k a ws) (Own (place r k) g z false given)) (sym es)
      (subst (λ z. Fl n 8 (At r k z ws) (Own (place r k) g (stack_of ws) false given)) ea
      (go r k ws g (subst (λ z. P (At r k z ws)) (sym ea) p) (omega (arith, ea, lt)) small inv)))

  comes_on : (c d : machine.Context) (a : Action Access machine.Context) → P c → next c ≡ a → Leads a d → P d
  comes_on c d a p e l = (suc p.0, (c, p.1, subst (λ z. Leads z d) (sym e) l))

  pub allowed : (c : machine.Context) (a : Action Access machine.Context) → P c → next c ≡ a → Allowed (is_main given) a
  allowed c a p e = subst (λ z. Allowed (is_main given) z) e (counted.allowed p.0 c p.1)

  -- ---- addresses

  address_small : (y : Place) (m : ℕ) → address x.offsets x.sizes y m < 65536
  address_small (word_place.Ram j z) m = omega arith
  address_small (word_place.Screen page z) m = omega arith

  address_on : (y : Place) (m : ℕ) → (m + address x.offsets x.sizes y 0) % 65536 ≡ address x.offsets x.sizes y m
  address_on (word_place.Ram j z) m = omega arith
  address_on (word_place.Screen page z) m = omega arith

  abbrev colour_at : (a n : ℕ) → Bool → Option Where
  colour_at a n c = if c then Some (Screen Colour (a - page_begins Colour)) else None

  -- what lies in a page is found there
  page_found : (page : Page) (a n : ℕ) (w : Where) (b : Bool) → covers (page_begins page) page_size a n ≡ b
      → (if b then Some (Screen page (a - page_begins page)) else None) ≡ Some w → on_screen a n ≡ (if b then Some (Screen page (a - page_begins page)) else None)
  page_found page a n w false e h = absurd (none-some w h)
  page_found Monochrome a n w true e h = ap (λ (c : Bool). if c then Some (Screen Monochrome (a - page_begins Monochrome)) else colour_at a n (covers (page_begins Colour) page_size a n)) e
  page_found Colour a n w true e h =
      let begins : nat_le (page_begins Colour) a ≡ true = (and_parts (nat_le (page_begins Colour) a) (nat_le (a + n) (page_begins Colour + page_size)) e).0 in
      let behind : page_begins Colour ≤ a = leb-true (page_begins Colour) a begins in
      let past : covers (page_begins Monochrome) page_size a n ≡ false = and_right (nat_le (page_begins Monochrome) a) (nat_le (a + n) (page_begins Monochrome + page_size)) (lt-leb (a + n) (page_begins Monochrome + page_size) (omega (arith, behind))) in
      ap (λ (c : Bool). if c then Some (Screen Monochrome (a - page_begins Monochrome)) else colour_at a n (covers (page_begins Colour) page_size a n)) past ∙ ap (colour_at a n) e

  -- where the code finds a place's byte, the processor does
  place_found : (width : Width) (y : Place) (a : ℕ) (w : Where) → found x.offsets x.sizes width y a ≡ Some w → place_in x.find (segment_of y) a (bytes width) ≡ found x.offsets x.sizes width y a
  place_found widths.Byte (word_place.Ram j z) a w h = all.finds a 1
  place_found widths.Word (word_place.Ram j z) a w h = all.finds a 2
  place_found widths.Byte (word_place.Screen page z) a w h = page_found page a 1 w _ refl h
  place_found widths.Word (word_place.Screen page z) a w h = page_found page a 2 w _ refl h

  behind_found : (width : Width) (y : Place) (m : ℕ) (w : Where) → found x.offsets x.sizes width y (address x.offsets x.sizes y m) ≡ Some w
      → place_in x.find (segment_of y) ((m + address x.offsets x.sizes y 0) % 65536) (bytes width) ≡ found x.offsets x.sizes width y (address x.offsets x.sizes y m)
  behind_found width y m w h = ap (λ z. place_in x.find (segment_of y) z (bytes width)) (address_on y m) ∙ place_found width y (address x.offsets x.sizes y m) w h

  there_found : (width : Width) (m : ℕ) → m < 65536 → in_object (x.find ((m + 0) % 65536) (bytes width)) ≡ held 0 x.offsets x.sizes m (word_places.bytes width)
  there_found widths.Byte m l = let e : (m + 0) % 65536 ≡ m = omega (arith, l) in ap (λ z. in_object (x.find z 1)) e ∙ all.finds m 1
  there_found widths.Word m l = let e : (m + 0) % 65536 ≡ m = omega (arith, l) in ap (λ z. in_object (x.find z 2)) e ∙ all.finds m 2

  -- ---- an instruction of the code, at its place
  module _ (r : Routine) (k : ℕ) (ins : Instruction) (e : slice_get (x.icode r) k ≡ Some ins) (g : Working) (n : ℕ) (go : Later n) (a : g.ax < 65536) (inv : Inv g) (ws : List Word) (p : P (At r k g.ax ws)) (small : Small ws) where
    abbrev here : machine.Context
    here = At r k g.ax ws

    abbrev Goal : Type 0
    Goal = Fl n 8 (At r k g.ax ws) (Own (place r k) g (stack_of ws) false given)

    abbrev does_so : Action Access machine.Context
    does_so = run x.offsets x.sizes (x.icode r) ins r (k + 1) g.ax ws

    acts : (c : Action Access machine.Context) → does_so ≡ c → next (At r k g.ax ws) ≡ c
    acts c u = ap (λ z. run_at x.offsets x.sizes (x.icode r) z r (k + 1) g.ax ws) e ∙ u

    at_row : Chain r (place r k) (row (first r) x.part (x.saves r) (k + 1) ins) (place r (k + 1))
    at_row = rows_stand r k ins e

    bad : does_so ≡ Bad 0 0 → Goal
    bad u = Engine.spoilt machine.Context next x.code x.find x.words x.entry x.main x.handler 20 (is_main given) x.offsets x.places given n 8 (At r k g.ax ws) (Own (place r k) g (stack_of ws) false given) (subst (λ z. IsBad z) (sym (acts (Bad 0 0) u)) tt)

    -- the code goes on at an instruction, and a context is at its place
    lands : (m : ℕ) → m < n → (c : Action Access machine.Context) → does_so ≡ c → (r2 : Routine) (k2 v q : ℕ) (ws2 : List Word) (h : Working) (st : List ℕ)
        → Leads c (At r2 k2 v ws2) → q ≡ place r2 k2 → st ≡ stack_of ws2 → h.ax ≡ v → v < 65536 → Small ws2 → OnlyChanges (changes ins) g h → Fl m 8 (At r2 k2 v ws2) (Own q h st false given)
    lands m l c u r2 k2 v q ws2 h st leads eq es ea lt sm keep =
        arrives m r2 k2 v q ws2 h st (go m l) eq ea es (comes_on here (At r2 k2 v ws2) c p (acts c u) leads) lt sm (keeps p.0 r k g.ax ws ins p.1 e g h keep inv)

    -- a silent step, with these instructions, and whatever comes after them
    begins : (y : Instr) (ns : List Instr) (f q : ℕ) (d : machine.Context) (h : Working) (st2 : List ℕ) → does_so ≡ Silent d
        → Chain r (place r k) (plain (y ∷ ns)) q → with_each ns f ≤ 20 → Str (y ∷ ns) g (stack_of ws) h st2 → ((m : ℕ) → m < n → Fl m f d (Own q h st2 false given)) → Goal
    begins y ns f q d h st2 u c le s go2 =
        Engine.steps machine.Context next x.code x.find x.words x.entry x.main x.handler 20 (is_main given) x.offsets x.places given (x.at r) y ns n 8 f (place r k) q here d g (stack_of ws) h st2 (acts (Silent d) u) s c le go2

    -- a silent step to the next instruction
    silent : (y : Instr) (ns : List Instr) (v : ℕ) (ws2 : List Word) (h : Working) → does_so ≡ Silent (At r (k + 1) v ws2)
        → Chain r (place r k) (plain (y ∷ ns)) (place r (k + 1)) → with_each ns 8 ≤ 20 → Str (y ∷ ns) g (stack_of ws) h (stack_of ws2) → h.ax ≡ v → v < 65536 → Small ws2 → OnlyChanges (changes ins) g h → Goal
    silent y ns v ws2 h u c le s is lt sm keep =
        begins y ns 8 (place r (k + 1)) (At r (k + 1) v ws2) h (stack_of ws2) u c le s
        (λ m l. lands m l (Silent (At r (k + 1) v ws2)) u r (k + 1) v (place r (k + 1)) ws2 h (stack_of ws2) refl refl refl is lt sm keep)

    -- an access, and whatever comes after it
    touching : (before : List Instr) (y : Instr) (xs : List Step) (q : ℕ) (acc : Access) (d : ℕ → machine.Context) (g1 : Working) (st1 : List ℕ) (after : ℕ → Working)
        → does_so ≡ Touch acc d → Chain r (place r k) (plain before ++ Plain y ∷ xs) q → with_each before 0 ≤ 8 → Str before g (stack_of ws) g1 st1
        → ((z : ℕ) → offered x.find x.words x.main x.handler y z g1 st1 false given ≡ Does (Touch acc (λ v. Own z (after v) st1 false given)))
        → ((z : ℕ) → Chain r z xs q → (v : ℕ) → v < answers acc → (m : ℕ) → m < n → Fl m 20 (d v) (Own z (after v) st1 false given)) → Goal
    touching before y xs q acc d g1 st1 after u c le s off go2 =
        Engine.touches machine.Context next x.code x.find x.words x.entry x.main x.handler 20 (is_main given) x.offsets x.places given (x.at r) before y xs n 8 (place r k) q here acc d g (stack_of ws) g1 st1 after (acts (Touch acc d) u) s off c le go2

    -- instructions that only run, up to the next instruction's place
    finishes : (ns : List Instr) (f m z q : ℕ) (d : machine.Context) (g1 : Working) (st1 : List ℕ) (h : Working) (st2 : List ℕ) → with_each ns f ≤ 20 → Chain r z (plain ns) q → Str ns g1 st1 h st2
        → ((j : ℕ) → j ≤ m → Fl j f d (Own q h st2 false given)) → Fl m 20 d (Own z g1 st1 false given)
    finishes ns f m z q d g1 st1 h st2 le c s go2 =
        looser m (with_each ns f) 20 d (Own z g1 st1 false given) le
        (Engine.runs machine.Context next x.code x.find x.words x.entry x.main x.handler 20 (is_main given) x.offsets x.places given (x.at r) ns m f z q d g1 st1 h st2 s c go2)

    -- an access, instructions after it, and the next instruction
    accessing : (before : List Instr) (y : Instr) (behind : List Instr) (acc : Access) (v2 : ℕ → ℕ) (ws2 : List Word) (g1 : Working) (st1 : List ℕ) (after : ℕ → Working)
        → does_so ≡ Touch acc (λ v. At r (k + 1) (v2 v) ws2) → Chain r (place r k) (plain before ++ Plain y ∷ plain behind) (place r (k + 1))
        → with_each before 0 ≤ 8 → with_each behind 8 ≤ 20 → Str before g (stack_of ws) g1 st1
        → ((z : ℕ) → offered x.find x.words x.main x.handler y z g1 st1 false given ≡ Does (Touch acc (λ v. Own z (after v) st1 false given))) → Small ws2
        → ((v : ℕ) → v < answers acc → (h : Working) × Str behind (after v) st1 h (stack_of ws2) × (h.ax ≡ v2 v) × (v2 v < 65536) × OnlyChanges (changes ins) g h) → Goal
    accessing before y behind acc v2 ws2 g1 st1 after u c le1 le2 s off sm rest =
        touching before y (plain behind) (place r (k + 1)) acc (λ v. At r (k + 1) (v2 v) ws2) g1 st1 after u c le1 s off
        (λ z c2 v lt m l. let w = rest v lt in
        finishes behind 8 m z (place r (k + 1)) (At r (k + 1) (v2 v) ws2) (after v) st1 w.0 (stack_of ws2) le2 c2 w.1
        (λ j le. lands j (omega (arith, l, le)) (Touch acc (λ v. At r (k + 1) (v2 v) ws2)) u r (k + 1) (v2 v) (place r (k + 1)) ws2 w.0 (stack_of ws2) (v, lt, refl) refl refl w.2 w.3 sm w.4))

    -- a read, if there is a place, and whatever comes after it
    reading : (width : Width) (before : List Instr) (y : Instr) (xs : List Step) (q : ℕ) (o : Option Where) (d : ℕ → machine.Context) (g1 : Working) (after : ℕ → Working)
        → does_so ≡ loaded width o d → Chain r (place r k) (plain before ++ Plain y ∷ xs) q → with_each before 0 ≤ 8 → Str before g (stack_of ws) g1 (stack_of ws)
        → ((w : Where) → o ≡ Some w → (z : ℕ) → offered x.find x.words x.main x.handler y z g1 (stack_of ws) false given ≡ reads o width (λ v. Own z (after v) (stack_of ws) false given))
        → ((w : Where) → o ≡ Some w → (z : ℕ) → Chain r z xs q → (v : ℕ) → v < values width → (m : ℕ) → m < n → Fl m 20 (d v) (Own z (after v) (stack_of ws) false given)) → Goal
    reading width before y xs q None d g1 after u c le s off go2 = bad u
    reading width before y xs q (Some w) d g1 after u c le s off go2 = touching before y xs q (Read width w) d g1 (stack_of ws) after u c le s (off w refl) (go2 w refl)

    -- a jump where the test fails: the code is at one of two instructions
    branches : (cond : Condition) (b : Bool) (c : Action Access machine.Context) → does_so ≡ c → (t v : ℕ) (ws2 : List Word) (h : Working) → Leads c (At r (if b then k + 1 else t) v ws2)
        → holds cond h.flags ≡ not b → h.ax ≡ v → v < 65536 → Small ws2 → OnlyChanges (changes ins) g h
        → (z : ℕ) → Chain r z (GotoIf cond (first r t) ∷ []) (place r (k + 1)) → (m : ℕ) → m < n → Fl m 10 (At r (if b then k + 1 else t) v ws2) (Own z h (stack_of ws2) false given)
    branches cond true c u t v ws2 h leads e2 is lt sm keep z at m l =
        Engine.goes_if machine.Context next x.code x.find x.words x.entry x.main x.handler 20 (is_main given) x.offsets x.places given laws.inverse cond false m 8 z at.0 (place r t) (first r t) (At r (k + 1) v ws2) h (stack_of ws2) e2 at.1 at.2
        (λ j le. lands j (omega (arith, l, le)) c u r (k + 1) v at.0 ws2 h (stack_of ws2) leads at.3 refl is lt sm keep)
    branches cond false c u t v ws2 h leads e2 is lt sm keep z at m l =
        Engine.goes_if machine.Context next x.code x.find x.words x.entry x.main x.handler 20 (is_main given) x.offsets x.places given laws.inverse cond true m 8 z at.0 (place r t) (first r t) (At r t v ws2) h (stack_of ws2) e2 at.1 at.2
        (λ j le. lands j (omega (arith, l, le)) c u r t v (place r t) ws2 h (stack_of ws2) leads refl refl is lt sm keep)

    -- a read, instructions after it, and the next instruction
    read_on : (width : Width) (before : List Instr) (y : Instr) (behind : List Instr) (o : Option Where) (v2 : ℕ → ℕ) (g1 : Working) (after : ℕ → Working)
        → does_so ≡ loaded width o (λ v. At r (k + 1) (v2 v) ws) → Chain r (place r k) (plain before ++ Plain y ∷ plain behind) (place r (k + 1))
        → with_each before 0 ≤ 8 → with_each behind 8 ≤ 20 → Str before g (stack_of ws) g1 (stack_of ws)
        → ((w : Where) → o ≡ Some w → (z : ℕ) → offered x.find x.words x.main x.handler y z g1 (stack_of ws) false given ≡ reads o width (λ v. Own z (after v) (stack_of ws) false given))
        → ((v : ℕ) → v < values width → (h : Working) × Str behind (after v) (stack_of ws) h (stack_of ws) × (h.ax ≡ v2 v) × (v2 v < 65536) × OnlyChanges (changes ins) g h) → Goal
    read_on width before y behind None v2 g1 after u c le1 le2 s off rest = bad u
    read_on width before y behind (Some w) v2 g1 after u c le1 le2 s off rest = accessing before y behind (Read width w) v2 ws g1 (stack_of ws) after u c le1 le2 s (off w refl) small rest

    -- an operator's value after instructions of which the first comes with the step
    computing : (y : Instr) (ns : List Instr) (v : Option ℕ) (ws2 : List Word) (s : Registers) (g1 : Working) (ms : List Instr)
        → does_so ≡ machine.operated v (λ z. At r (k + 1) z ws2) → Chain r (place r k) (plain (y ∷ (ns ++ ms))) (place r (k + 1)) → with_each (ns ++ ms) 8 ≤ 20
        → Str (y ∷ ns) g (stack_of ws) g1 (stack_of ws2) → Small ws2 → OnlyChanges (changes ins) g g1 → joined (changes ins) s ≡ changes ins
        → Cores.Gives laws x.find x.words x.main x.handler given s ms g1 (stack_of ws2) v → Goal
    computing y ns None ws2 s g1 ms u c le st sm keep wider gives = bad u
    computing y ns (Some v) ws2 s g1 ms u c le st sm keep wider gives =
        silent y (ns ++ ms) v ws2 gives.0 u c le (also x.find x.words x.main x.handler given (y ∷ ns) ms g (stack_of ws) g1 (stack_of ws2) gives.0 (stack_of ws2) st gives.1) gives.2 gives.3 sm
        (changes_then (changes ins) g g1 gives.0 keep (changes_wider (changes ins) s g1 gives.0 wider gives.4))

    room_for : (d : machine.Context) → does_so ≡ Silent d → length (stack_of ws) < length (Rattle.select.specs.Promise.words_of d) + length base → nat_lt (length (stack_of ws)) (room x.main x.handler given) ≡ true
    room_for d u l =
        let p2 = comes_on here d (Silent d) p (acts (Silent d) u) refl in
        lt-ltb (length (stack_of ws)) (room x.main x.handler given) (omega (arith, l, enough, counted.few p2.0 d p2.1))

    -- the stack's words are few
    stack_few : length (stack_of ws) ≤ stack_room / 2
    stack_few = omega (arith, Stacks.stack_length place base ws, enough, few, counted.few p.0 here p.1)

  -- ---- the rows

  abbrev pub RowFollows : Instruction → Type 0
  RowFollows ins = (r : Routine) (k : ℕ) → slice_get (x.icode r) k ≡ Some ins → (g : Working) (n : ℕ) → Later n → g.ax < 65536 → Inv g → (ws : List Word) → P (At r k g.ax ws) → Small ws → Fl n 8 (At r k g.ax ws) (Own (place r k) g (stack_of ws) false given)

  load_constant_row : (c : ℕ) → RowFollows (op.Constant c)
  load_constant_row c r k e g n go a inv ws p sm =
      let h = Cores.accumulator_set laws x.find x.words x.main x.handler given c g (stack_of ws) in
      silent r k (op.Constant c) e g n go a inv ws p sm (accumulator_gets c) [] c ws h.0 refl (rows_stand r k (op.Constant c) e) (omega arith) h.1 h.2 ((all.made r).numbered k (op.Constant c) e) sm h.3

  locate_row : (y : Place) → RowFollows (op.Locate y)
  locate_row y r k e g n go a inv ws p sm =
      let v = address x.offsets x.sizes y 0 in
      silent r k (op.Locate y) e g n go a inv ws p sm (load_number Ax v) [] v ws (set_word g Ax v) refl
      (Chains.settled x.code x.words x.offsets x.places (x.at r) x.sizes (λ s. opens.Number Ax) y [] (place r k) (place r (k + 1)) (rows_stand r k (op.Locate y) e))
      (omega arith) (set_word g Ax v, stack_of ws, λ q. refl, (refl, refl)) refl (address_small y 0) sm (tt, refl, refl, refl, refl, refl, refl)

  sum_is : (b c : ℕ) (f : flags_type.Flags) → (operated Add widths.Word b c f).value ≡ (b + c) % 65536
  unfolding i86_arithmetic.operated i86_arithmetic.added
  sum_is b c f = omega arith

  locate_at_row : (y : Place) → RowFollows (op.LocateAt y)
  locate_at_row y r k e g n go a inv ws p sm =
      let v = address x.offsets x.sizes y 0 in
      let h = alu_word Add Ax v g in
      silent r k (op.LocateAt y) e g n go a inv ws p sm (alu_number Add Ax v) [] (address x.offsets x.sizes y g.ax) ws h refl
      (Chains.settled x.code x.words x.offsets x.places (x.at r) x.sizes (λ s. opens.OperateAx Add) y [] (place r k) (place r (k + 1)) (rows_stand r k (op.LocateAt y) e))
      (omega arith) (h, stack_of ws, λ q. refl, (refl, refl)) (sum_is g.ax v g.flags ∙ address_on y g.ax) (address_small y g.ax) sm (tt, refl, refl, refl, refl, refl, refl)

  -- what was read, as a value of its width
  narrowed : (width : Width) (g : Working) (st : List ℕ) (v : ℕ) → v < values width
      → (h : Working) × Str (narrow width) (input_gives width g v) st h st × (h.ax ≡ v) × (v < 65536) × OnlyChanges just_accumulator g h
  narrowed widths.Byte g st v lt = let h = set_byte (set_byte g Al v) Ah 0 in (h, (h, st, λ q. refl, (refl, refl)), omega (arith, lt), omega (arith, lt), (tt, refl, refl, refl, refl, refl, refl))
  narrowed widths.Word g st v lt = (set_word g Ax v, (refl, refl), refl, lt, (tt, refl, refl, refl, refl, refl, refl))

  narrow_pace : (width : Width) → with_each (narrow width) 8 ≤ 20
  narrow_pace widths.Byte = omega arith
  narrow_pace widths.Word = omega arith

  load_row : (width : Width) (y : Place) → RowFollows (op.Load width y)
  load_row width y r k e g n go a inv ws p sm =
      let v0 = address x.offsets x.sizes y 0 in
      read_on r k (op.Load width y) e g n go a inv ws p sm width [] (closed (loads width None (segment_of y)) v0) (narrow width) (found x.offsets x.sizes width y v0) (λ v. v) g (λ v. input_gives width g v) refl
      (Chains.settled x.code x.words x.offsets x.places (x.at r) x.sizes (loads width None) y (plain (narrow width)) (place r k) (place r (k + 1)) (rows_stand r k (op.Load width y) e))
      (omega arith) (narrow_pace width) (refl, refl)
      (λ at is z. Offers.load_offered x.find x.words x.main x.handler given width y None v0 z g (stack_of ws) ∙ ap (λ o. reads o width (λ v. Own z (input_gives width g v) (stack_of ws) false given)) (place_found width y v0 at is))
      (narrowed width g (stack_of ws))

  abbrev addressed : Registers
  addressed = record none { accumulator = true; address = true }

  load_at_row : (width : Width) (y : Place) → RowFollows (op.LoadAt width y)
  load_at_row width y r k e g n go a inv ws p sm =
      let v0 = address x.offsets x.sizes y 0 in
      let g1 = Cores.swapped laws x.find x.words x.main x.handler given Bx g in
      let c = rows_stand r k (op.LoadAt width y) e in
      read_on r k (op.LoadAt width y) e g n go a inv ws p sm width (exchange Bx ∷ []) (closed (loads width (Some bases.Bx) (segment_of y)) v0) (narrow width) (found x.offsets x.sizes width y (address x.offsets x.sizes y g.ax)) (λ v. v) g1 (λ v. input_gives width g1 v) refl
      (c.0, c.1, c.2, Chains.settled x.code x.words x.offsets x.places (x.at r) x.sizes (loads width (Some bases.Bx)) y (plain (narrow width)) c.0 (place r (k + 1)) c.3)
      (omega arith) (narrow_pace width) (g1, stack_of ws, Cores.exchanges laws x.find x.words x.main x.handler given Bx refl refl g (stack_of ws), (refl, refl))
      (λ at is z. Offers.load_offered x.find x.words x.main x.handler given width y (Some bases.Bx) v0 z g1 (stack_of ws) ∙ ap (λ o. reads o width (λ v. Own z (input_gives width g1 v) (stack_of ws) false given)) (behind_found width y g.ax at is))
      (λ v lt. let w = narrowed width g1 (stack_of ws) v lt in (w.0, w.1, w.2, w.3, changes_then addressed g g1 w.0 (tt, refl, refl, tt, refl, refl, refl) (changes_wider addressed just_accumulator g1 w.0 refl w.4)))

  there : Place
  there = word_place.Ram 0 0

  load_there_row : (width : Width) → RowFollows (op.LoadThere width)
  unfolding there
  load_there_row width r k e g n go a inv ws p sm =
      let g1 = Cores.swapped laws x.find x.words x.main x.handler given Bx g in
      read_on r k (op.LoadThere width) e g n go a inv ws p sm width (exchange Bx ∷ []) (closed (loads width (Some bases.Bx) segments.Ds) 0) (narrow width) (held 0 x.offsets x.sizes g.ax (word_places.bytes width)) (λ v. v) g1 (λ v. input_gives width g1 v) refl
      (rows_stand r k (op.LoadThere width) e)
      (omega arith) (narrow_pace width) (g1, stack_of ws, Cores.exchanges laws x.find x.words x.main x.handler given Bx refl refl g (stack_of ws), (refl, refl))
      (λ at is z. Offers.load_offered x.find x.words x.main x.handler given width there (Some bases.Bx) 0 z g1 (stack_of ws) ∙ ap (λ o. reads o width (λ v. Own z (input_gives width g1 v) (stack_of ws) false given)) (there_found width g.ax a))
      (λ v lt. let w = narrowed width g1 (stack_of ws) v lt in (w.0, w.1, w.2, w.3, changes_then addressed g g1 w.0 (tt, refl, refl, tt, refl, refl, refl) (changes_wider addressed just_accumulator g1 w.0 refl w.4)))

  pushes_is : (st : List ℕ) (c : Context) → nat_lt (length st) (room x.main x.handler given) ≡ true → pushes x.find x.words x.main x.handler st given c ≡ Does (Silent c)
  pushes_is st c e = ap (λ (b : Bool). if b then Does (Silent c) else refused) e

  push_row : RowFollows op.Push
  push_row r k e g n go a inv ws p sm =
      let some = room_for r k op.Push e g n go a inv ws p sm (At r (k + 1) g.ax (Value g.ax ∷ ws)) refl (omega (arith, Stacks.stack_length place base ws)) in
      let w : g.ax % 65536 ≡ g.ax = omega (arith, a) in
      silent r k op.Push e g n go a inv ws p sm (push Ax) [] g.ax (Value g.ax ∷ ws) g refl (rows_stand r k op.Push e) (omega arith)
      (g, stack_of (Value g.ax ∷ ws), λ q. pushes_is (stack_of ws) (Own q g (g.ax % 65536 ∷ stack_of ws) false given) some ∙ ap (λ z. Does (Silent (Own q g (z ∷ stack_of ws) false given))) w, (refl, refl)) refl a (a, sm) (stays none g)

  -- ---- words of the stack

  pick_row : (m : ℕ) → RowFollows (op.Pick m)
  pick_row m r k e g n go a inv ws p sm = by (slice_get ws m) refl
    where
      by : (o : Option Word) → slice_get ws m ≡ o → Fl n 8 (At r k g.ax ws) (Own (place r k) g (stack_of ws) false given)
      by None is = bad r k (op.Pick m) e g n go a inv ws p sm (ap (λ z. with_value (value_in z) (λ v. Silent (At r (k + 1) v ws))) is)
      by (Some (Return q)) is = bad r k (op.Pick m) e g n go a inv ws p sm (ap (λ z. with_value (value_in z) (λ v. Silent (At r (k + 1) v ws))) is)
      by (Some (Value v)) is = of_count (nat_eq m 0) refl
        where
          no_wrap : (top len sp ws base : ℕ) → sp ≡ top - 2 * len → len ≡ ws + base → m < ws → len ≤ stack_room / 2 → top < 65536 → (sp + 2 * m % 65536) % 65536 ≡ sp + 2 * m
          no_wrap top len sp ws base es el lt few small = omega (arith, es, el, lt, few, small)

          u : does_so r k (op.Pick m) e g n go a inv ws p sm ≡ Silent (At r (k + 1) v ws)
          u = ap (λ z. with_value (value_in z) (λ v. Silent (At r (k + 1) v ws))) is

          small : v < 65536
          small = Stacks.value_small place base ws m v is sm

          few_words : length (stack_of ws) ≤ room x.main x.handler given
          few_words = omega (arith, Stacks.stack_length place base ws, enough, counted.few p.0 (At r k g.ax ws) p.1)

          chain_of : (b : Bool) → nat_eq m 0 ≡ b → Chain r (place r k) (plain (if b then pop Ax ∷ push Ax ∷ [] else copy Bp Sp ∷ i.MoveWord (FromMemory Ax (Rows.own_word m)) ∷ [])) (place r (k + 1))
          chain_of b e2 = subst (λ (b : Bool). Chain r (place r k) (plain (if b then pop Ax ∷ push Ax ∷ [] else copy Bp Sp ∷ i.MoveWord (FromMemory Ax (Rows.own_word m)) ∷ [])) (place r (k + 1))) e2 (rows_stand r k (op.Pick m) e)

          -- the word on top comes off and goes back
          from_top : (st : List ℕ) → slice_get st 0 ≡ Some v → length st ≤ room x.main x.handler given → (h : Working) × Str (pop Ax ∷ push Ax ∷ []) g st h st × (h.ax ≡ v) × OnlyChanges (changes (op.Pick m)) g h
          from_top [] top few = absurd (cc)
          from_top (w ∷ st) top few =
              let h = set_word g Ax w in
              let w_is : w ≡ v = ap (λ o. Cores.or_zero o) top in
              let there_is : nat_lt (length st) (room x.main x.handler given) ≡ true = lt-ltb (length st) (room x.main x.handler given) (omega (arith, few)) in
              let whole : w % 65536 ≡ w = omega (arith, w_is, small) in (
                h,
                (h, st, λ q. refl, (h, w ∷ st, λ q. pushes_is st (Own q h (w % 65536 ∷ st) false given) there_is ∙ ap (λ z. Does (Silent (Own q h (z ∷ st) false given))) whole, (refl, refl))),
                w_is,
                (tt, refl, refl, refl, tt, refl, refl),
              )

          of_count : (b : Bool) → nat_eq m 0 ≡ b → Fl n 8 (At r k g.ax ws) (Own (place r k) g (stack_of ws) false given)
          of_count true e2 =
              let top = subst (λ z. slice_get (stack_of ws) z ≡ Some v) (eqb-true m 0 e2) (Stacks.value_there place base ws m v is) in
              let t = from_top (stack_of ws) top few_words in
              silent r k (op.Pick m) e g n go a inv ws p sm (pop Ax) (push Ax ∷ []) v ws t.0 u (chain_of true e2) (omega arith) t.1 t.2 small sm t.3
          of_count false e2 =
              let st = stack_of ws in
              let sp = stack_pointer given st in
              let g1 = set_word g Bp sp in
              let h = set_word g1 Ax v in
              let near : (sp + 2 * m % 65536) % 65536 ≡ sp + 2 * m = no_wrap (top_of given) (length st) sp (length ws) (length base) refl (Stacks.stack_length place base ws) (Stacks.within place base ws m v is) (stack_few r k (op.Pick m) e g n go a inv ws p sm) top_small in
              silent r k (op.Pick m) e g n go a inv ws p sm (copy Bp Sp) (i.MoveWord (FromMemory Ax (Rows.own_word m)) ∷ []) v ws h u (chain_of false e2) (omega arith)
              (g1, st, λ q. refl, (h, st, λ q. ap (λ z. takes z (λ v. Own q (set_word g1 Ax v) st false given)) (Stacks.found_word st m ((sp + 2 * m % 65536) % 65536) sp near ∙ Stacks.value_there place base ws m v is), (refl, refl)))
              refl small sm (tt, refl, refl, refl, tt, refl, refl)

  enough_words : (m : ℕ) (ws : List Word) → m ≤ length ws → (c : Action Access machine.Context) → (if nat_le m (length ws) then c else Bad 0 0) ≡ c
  enough_words m ws l c = ap (λ (b : Bool). if b then c else Bad 0 0) (le-leb m (length ws) l)

  too_few : (m : ℕ) (ws : List Word) → length ws < m → (c : Action Access machine.Context) → (if nat_le m (length ws) then c else Bad 0 0) ≡ Bad 0 0
  too_few m ws l c = ap (λ (b : Bool). if b then c else Bad 0 0) (lt-leb m (length ws) l)

  dropped_is : (m : ℕ) → 1 < m → Rows.dropped m ≡ alu_number Add Sp (2 * m % 65536)
  dropped_is m l =
      ap (λ (b : Bool). if b then i.Nop else if nat_eq m 1 then pop Cx else alu_number Add Sp (2 * m % 65536)) (ne_eqb m 0 (λ z. omega (arith, l, z)))
      ∙ ap (λ (b : Bool). if b then pop Cx else alu_number Add Sp (2 * m % 65536)) (ne_eqb m 1 (λ z. omega (arith, l, z)))

  drop_changes : (m : ℕ) → 1 < m → of_drop m ≡ none
  drop_changes m l = ap (λ (b : Bool). if b then just_right else none) (ne_eqb m 1 (λ z. omega (arith, l, z)))

  drop_row : (m : ℕ) → RowFollows (op.Drop m)
  drop_row m r k e g n go a inv ws p sm = by (cases_lt (length ws) m)
    where
      several : 1 < m → m ≤ length ws → Fl n 8 (At r k g.ax ws) (Own (place r k) g (stack_of ws) false given)
      several l le =
          let st = stack_of ws in
          let d = 2 * m % 65536 in
          let h = set_flags g (operated Add widths.Word (stack_pointer given st) d g.flags).flags in
          let size : m ≤ length st = omega (arith, le, Stacks.stack_length place base ws) in
          let half : d / 2 ≡ m = omega (arith, size, stack_few r k (op.Drop m) e g n go a inv ws p sm) in
          let even : d % 2 ≡ 0 = omega (arith, size, stack_few r k (op.Drop m) e g n go a inv ws p sm) in
          let whole : (d % 2 == 0) ≡ true = eq-eqb (d % 2) 0 even in
          let there : nat_le (d / 2) (length st) ≡ true = le-leb (d / 2) (length st) (omega (arith, half, size)) in
          silent r k (op.Drop m) e g n go a inv ws p sm (alu_number Add Sp d) [] g.ax (drop m ws) h (enough_words m ws le (Silent (At r (k + 1) g.ax (drop m ws))))
          (subst (λ z. Chain r (place r k) (plain (z ∷ [])) (place r (k + 1))) (dropped_is m l) (rows_stand r k (op.Drop m) e)) (omega arith) (
            h,
            drop m st,
            λ q. ap (λ (b : Bool). if b && nat_le (d / 2) (length st) then silently (Own q h (drop (d / 2) st) false given) else refused) whole
                ∙ ap (λ (b : Bool). if b then silently (Own q h (drop (d / 2) st) false given) else refused) there ∙ ap (λ z. Does (Silent (Own q h (drop z st) false given))) half,
            (refl, sym (Stacks.dropped_stack place base m ws le)),
          )
          refl a (Stacks.dropped_small place base m ws sm) (subst (λ z. OnlyChanges z g h) (sym (drop_changes m l)) (stays none g))

      one : m ≡ 1 → m ≤ length ws → Fl n 8 (At r k g.ax ws) (Own (place r k) g (stack_of ws) false given)
      one is le = of ws p sm (subst (λ z. z ≤ length ws) is le)
        where
          e1 : slice_get (x.icode r) k ≡ Some (op.Drop 1)
          e1 = e ∙ ap (λ z. Some (op.Drop z)) is

          of : (ws : List Word) → P (At r k g.ax ws) → Small ws → 1 ≤ length ws → Fl n 8 (At r k g.ax ws) (Own (place r k) g (stack_of ws) false given)
          of [] p sm le = absurd (omega (arith, le))
          of (w ∷ ws) p sm le =
              let h = set_word g Cx (Stacks.number_of place base w) in
              silent r k (op.Drop 1) e1 g n go a inv (w ∷ ws) p sm (pop Cx) [] g.ax ws h (enough_words 1 (w ∷ ws) le (Silent (At r (k + 1) g.ax ws))) (rows_stand r k (op.Drop 1) e1) (omega arith)
              (h, stack_of ws, λ q. refl, (refl, refl)) refl a sm.1 (refl, tt, refl, refl, refl, refl, refl)

      nothing : m ≡ 0 → Fl n 8 (At r k g.ax ws) (Own (place r k) g (stack_of ws) false given)
      nothing is =
          let e0 = e ∙ ap (λ z. Some (op.Drop z)) is in
          silent r k (op.Drop 0) e0 g n go a inv ws p sm i.Nop [] g.ax ws g (enough_words 0 ws (omega arith) (Silent (At r (k + 1) g.ax ws))) (rows_stand r k (op.Drop 0) e0) (omega arith) (g, stack_of ws, λ q. refl, (refl, refl)) refl a sm (stays none g)

      by : (length ws < m) ⊎ (m ≤ length ws) → Fl n 8 (At r k g.ax ws) (Own (place r k) g (stack_of ws) false given)
      by (inl l) = bad r k (op.Drop m) e g n go a inv ws p sm (too_few m ws l (Silent (At r (k + 1) g.ax (drop m ws))))
      by (inr l) = few_or (cases_lt 1 m) (cases_lt 0 m)
        where
          few_or : (1 < m) ⊎ (m ≤ 1) → (0 < m) ⊎ (m ≤ 0) → Fl n 8 (At r k g.ax ws) (Own (place r k) g (stack_of ws) false given)
          few_or (inl s) z = several s l
          few_or (inr s) (inl z) = one (omega (arith, s, z)) l
          few_or (inr s) (inr z) = nothing (omega (arith, z))

  -- ---- operators

  change_row : (o : UnaryOperation) (width : Width) (y : Instr) (ns : List Instr) → Rows.changed o width ≡ y ∷ ns → with_each (y ∷ ns) 8 ≤ 20 → RowFollows (op.Unary o width)
  change_row o width y ns is le r k e g n go a inv ws p sm =
      let c = Cores.change_gives laws x.find x.words x.main x.handler given o width g (stack_of ws) a in
      silent r k (op.Unary o width) e g n go a inv ws p sm y ns (unary_value o width g.ax) ws c.0 refl
      (subst (λ z. Chain r (place r k) (plain z) (place r (k + 1))) is (rows_stand r k (op.Unary o width) e)) (omega (arith, le)) (subst (λ z. Str z g (stack_of ws) c.0 (stack_of ws)) is c.1) c.2 c.3 sm c.4

  unary_row : (o : UnaryOperation) (width : Width) → RowFollows (op.Unary o width)
  unary_row unary.Plus width = change_row unary.Plus width i.Nop [] refl (omega arith)
  unary_row unary.Minus widths.Byte = change_row unary.Minus widths.Byte (i.UnaryWord changes_of.Neg (rm.Register Ax)) (clear_high ∷ []) refl (omega arith)
  unary_row unary.Minus widths.Word = change_row unary.Minus widths.Word (i.UnaryWord changes_of.Neg (rm.Register Ax)) [] refl (omega arith)
  unary_row unary.Not widths.Byte = change_row unary.Not widths.Byte (i.UnaryWord changes_of.Not (rm.Register Ax)) (clear_high ∷ []) refl (omega arith)
  unary_row unary.Not widths.Word = change_row unary.Not widths.Word (i.UnaryWord changes_of.Not (rm.Register Ax)) [] refl (omega arith)
  unary_row unary.Low width = change_row unary.Low width clear_high [] refl (omega arith)
  unary_row unary.High width = change_row unary.High width (i.MoveByte (FromRegister (rm.Register Al) Ah)) (clear_high ∷ []) refl (omega arith)
  unary_row unary.Double width = change_row unary.Double width i.Nop [] refl (omega arith)

  -- an operator whose operands change places
  swaps : (o : BinaryOperation) → commutes o ≡ true → (w : Width) (u v : ℕ) → binary_value o w u v ≡ binary_value o w v u
  swaps binary.Add d w u v = ap (λ z. Some (low w z)) (omega arith)
  swaps binary.Multiply d w u v = ap (λ z. Some (low w z)) (mul_comm u v)
  swaps binary.And d w u v = ap (λ z. Some z) (and_comm u v)
  swaps binary.Or d w u v = ap (λ z. Some z) (or_comm u v)
  swaps binary.ExclusiveOr d w u v = ap (λ z. Some z) (xor_comm u v)
  swaps binary.Divide d w u v = absurd (true≢false (sym d))
  swaps binary.Modulo d w u v = absurd (true≢false (sym d))
  swaps binary.Subtract d w u v = absurd (true≢false (sym d))
  swaps binary.Equal d w u v = absurd (true≢false (sym d))
  swaps binary.NotEqual d w u v = absurd (true≢false (sym d))
  swaps binary.Less d w u v = absurd (true≢false (sym d))
  swaps binary.LessEqual d w u v = absurd (true≢false (sym d))
  swaps binary.Greater d w u v = absurd (true≢false (sym d))
  swaps binary.GreaterEqual d w u v = absurd (true≢false (sym d))
  swaps binary.ShiftLeft d w u v = absurd (true≢false (sym d))
  swaps binary.ShiftRight d w u v = absurd (true≢false (sym d))
  swaps binary.RotateLeft d w u v = absurd (true≢false (sym d))
  swaps binary.RotateRight d w u v = absurd (true≢false (sym d))
  swaps binary.DivideSigned d w u v = absurd (true≢false (sym d))
  swaps binary.ModuloSigned d w u v = absurd (true≢false (sym d))
  swaps binary.LessSigned d w u v = absurd (true≢false (sym d))
  swaps binary.LessEqualSigned d w u v = absurd (true≢false (sym d))
  swaps binary.GreaterSigned d w u v = absurd (true≢false (sym d))
  swaps binary.GreaterEqualSigned d w u v = absurd (true≢false (sym d))

  binary_row : (o : BinaryOperation) (width : Width) → RowFollows (op.Binary o width)
  binary_row o width r k e g n go a inv [] p sm = bad r k (op.Binary o width) e g n go a inv [] p sm refl
  binary_row o width r k e g n go a inv (Return q ∷ ws) p sm = bad r k (op.Binary o width) e g n go a inv (Return q ∷ ws) p sm refl
  binary_row o width r k e g n go a inv (Value v ∷ ws) p sm = by (commutes o) refl
    where
      stands_so : (b : Bool) → commutes o ≡ b → Chain r (place r k) (plain (Rows.from_stack b ++ core o width)) (place r (k + 1))
      stands_so b d = subst (λ (b : Bool). Chain r (place r k) (plain (Rows.from_stack b ++ core o width)) (place r (k + 1))) d (rows_stand r k (op.Binary o width) e)

      by : (b : Bool) → commutes o ≡ b → Fl n 8 (At r k g.ax (Value v ∷ ws)) (Own (place r k) g (stack_of (Value v ∷ ws)) false given)
      by true d =
          let g1 = set_word g Cx v in
          computing r k (op.Binary o width) e g n go a inv (Value v ∷ ws) p sm (pop Cx) [] (binary_value o width v g.ax) ws (Cores.core_changes o) g1 (core o width) refl (stands_so true d) (let s = Cores.short o width in omega (arith, s))
          (g1, stack_of ws, λ q. refl, (refl, refl)) sm.1 (Cores.operands_put o g g1 refl refl refl refl refl) (Cores.core_within o)
          (subst (λ z. Cores.Gives laws x.find x.words x.main x.handler given (Cores.core_changes o) (core o width) g1 (stack_of ws) z) (swaps o d width g.ax v) (Cores.core_gives laws x.find x.words x.main x.handler given o width g1 (stack_of ws) a sm.0))
      by false d =
          let g0 = Cores.swapped laws x.find x.words x.main x.handler given Cx g in
          let g1 = set_word g0 Ax v in
          computing r k (op.Binary o width) e g n go a inv (Value v ∷ ws) p sm (exchange Cx) (pop Ax ∷ []) (binary_value o width v g.ax) ws (Cores.core_changes o) g1 (core o width) refl (stands_so false d) (let s = Cores.short o width in omega (arith, s))
          (g0, v ∷ stack_of ws, Cores.exchanges laws x.find x.words x.main x.handler given Cx refl refl g (v ∷ stack_of ws), (g1, stack_of ws, λ q. refl, (refl, refl))) sm.1 (Cores.operands_put o g g1 refl refl refl refl refl) (Cores.core_within o)
          (Cores.core_gives laws x.find x.words x.main x.handler given o width g1 (stack_of ws) sm.0 a)

  sum_pace : (o : BinaryOperation) (width : Width) → with_each (narrow_sum o width) 8 ≤ 20
  sum_pace binary.Add widths.Byte = omega arith
  sum_pace binary.Add widths.Word = omega arith
  sum_pace binary.Subtract widths.Byte = omega arith
  sum_pace binary.Subtract widths.Word = omega arith
  sum_pace _ width = omega arith

  constant_row : (o : BinaryOperation) (width : Width) (c : ℕ) → RowFollows (op.BinaryConstant o width c)
  constant_row o width c r k e g n go a inv ws p sm =
      by (by_constant o width c) refl (Cores.some_constant o width c) (Cores.constant_pace o width c) (binary_value o width g.ax c) refl
      (Cores.constant_gives laws x.find x.words x.main x.handler given o width c g (stack_of ws) a ((all.made r).numbered k (op.BinaryConstant o width c) e))
    where
      by : (ns : List Instr) → by_constant o width c ≡ ns → 0 < length ns → with_each ns 8 ≤ 20 → (v : Option ℕ) → binary_value o width g.ax c ≡ v
          → Cores.Gives laws x.find x.words x.main x.handler given (of_direct o) ns g (stack_of ws) v → Fl n 8 (At r k g.ax ws) (Own (place r k) g (stack_of ws) false given)
      by ns are some pace None is gives = bad r k (op.BinaryConstant o width c) e g n go a inv ws p sm (ap (λ z. machine.operated z (λ v. At r (k + 1) v ws)) is)
      by [] are some pace (Some v) is gives = absurd (omega (arith, some))
      by (y ∷ ns) are some pace (Some v) is gives =
          silent r k (op.BinaryConstant o width c) e g n go a inv ws p sm y ns v ws gives.0 (ap (λ z. machine.operated z (λ v. At r (k + 1) v ws)) is)
          (subst (λ z. Chain r (place r k) (plain z) (place r (k + 1))) are (rows_stand r k (op.BinaryConstant o width c) e)) (omega (arith, pace)) gives.1 gives.2 gives.3 sm gives.4

  -- nothing goes on where there is no quotient
  stuck : (m f : ℕ) (ws : List Word) (c : Context) → Fl m f (At Nowhere 0 0 ws) c
  stuck m f ws c =
      Engine.spoilt machine.Context next x.code x.find x.words x.entry x.main x.handler 20 (is_main given) x.offsets x.places given m f (At Nowhere 0 0 ws) c
      (subst (λ z. IsBad (run_at x.offsets x.sizes z (slice_get z 0) Nowhere (0 + 1) 0 ws)) (sym all.nowhere) tt)

  -- ---- an operator and what is read at a place

  -- what was read is in its register
  read_value : (o : BinaryOperation) (width : Width) (st : List ℕ) (h : Working) (b v : ℕ) → b < 65536 → h.ax ≡ b → h.cx ≡ v → v < 65536 → (y : Option ℕ) → binary_value o width b v ≡ y → Cores.Gives laws x.find x.words x.main x.handler given (Cores.core_changes o) (core o width) h st y
  read_value o width st h b v lb ea ec lt y is =
      let c = Cores.core_gives laws x.find x.words x.main x.handler given o width h st (omega (arith, ea, lb)) (omega (arith, ec, lt)) in
      let same : binary_value o width h.ax h.cx ≡ y = ap (λ z. binary_value o width z h.cx) ea ∙ ap (binary_value o width b) ec ∙ is in
      subst (λ z. Cores.Gives laws x.find x.words x.main x.handler given (Cores.core_changes o) (core o width) h st z) same c

  module _ (o : BinaryOperation) (width read : Width) (y : Place) (r : Routine) (k : ℕ) (e : slice_get (x.icode r) k ≡ Some (op.BinaryPlain o width read y)) (g : Working) (n : ℕ) (go : Later n) (a : g.ax < 65536) (inv : Inv g) (ws : List Word) (p : P (At r k g.ax ws)) (sm : Small ws) where
    abbrev plain_at : ℕ
    plain_at = address x.offsets x.sizes y 0

    -- after the access instructions lead to the operator's value, or nothing goes on
    after_read : (w : Where) → found x.offsets x.sizes read y plain_at ≡ Some w → (v : ℕ) → v < values read → (m : ℕ) → m < n → (z : ℕ) (g2 : Working) (ns : List Instr) → Chain r z (plain ns) (place r (k + 1)) → with_each ns 8 ≤ 20
        → (s : Option ℕ) → binary_value o width g.ax v ≡ s
        → ((u : ℕ) → s ≡ Some u → (h : Working) × Str ns g2 (stack_of ws) h (stack_of ws) × (h.ax ≡ u) × (u < 65536) × OnlyChanges (of_read read o) g h)
        → Fl m 20 (computed (binary_value o width g.ax v) r (k + 1) ws) (Own z g2 (stack_of ws) false given)
    after_read w ow v lt m l z g2 ns c le None is gives =
        subst (λ q. Fl m 20 (computed q r (k + 1) ws) (Own z g2 (stack_of ws) false given)) (sym is) (stuck m 20 ws (Own z g2 (stack_of ws) false given))
    after_read w ow v lt m l z g2 ns c le (Some u) is gives =
        let t = gives u refl in
        let d = λ (v : ℕ). computed (binary_value o width g.ax v) r (k + 1) ws in
        subst (λ q. Fl m 20 (computed q r (k + 1) ws) (Own z g2 (stack_of ws) false given)) (sym is)
        (finishes r k (op.BinaryPlain o width read y) e g n go a inv ws p sm ns 8 m z (place r (k + 1)) (At r (k + 1) u ws) g2 (stack_of ws) t.0 (stack_of ws) le c t.1
        (λ j less. lands r k (op.BinaryPlain o width read y) e g n go a inv ws p sm j (omega (arith, l, less)) (Touch (Read read w) d) (ap (λ q. loaded read q d) ow) r (k + 1) u (place r (k + 1)) ws t.0 (stack_of ws) (v, lt, ap (λ q. computed q r (k + 1) ws) is) refl refl t.2 t.3 sm t.4))

  plain_row : (o : BinaryOperation) (width read : Width) (y : Place) → RowFollows (op.BinaryPlain o width read y)
  plain_row o width widths.Byte y r k e g n go a inv ws p sm =
      let v0 = address x.offsets x.sizes y 0 in
      let ns = clear_byte Ch ∷ core o width in
      reading r k (op.BinaryPlain o width widths.Byte y) e g n go a inv ws p sm widths.Byte [] (closed (loads_right widths.Byte (segment_of y)) v0) (plain ns) (place r (k + 1)) (found x.offsets x.sizes widths.Byte y v0) (λ v. computed (binary_value o width g.ax v) r (k + 1) ws) g (λ v. set_byte g Cl v) refl
      (Chains.settled x.code x.words x.offsets x.places (x.at r) x.sizes (loads_right widths.Byte) y (plain ns) (place r k) (place r (k + 1)) (rows_stand r k (op.BinaryPlain o width widths.Byte y) e))
      (omega arith) (refl, refl)
      (λ at is z. Offers.right_offered x.find x.words x.main x.handler given widths.Byte y v0 z g (stack_of ws) ∙ ap (λ o. reads o widths.Byte (λ v. Own z (set_byte g Cl v) (stack_of ws) false given)) (place_found widths.Byte y v0 at is))
      (λ w ow z c v lt m l. after_read o width widths.Byte y r k e g n go a inv ws p sm w ow v lt m l z (set_byte g Cl v) ns c (let s = Cores.short o width in omega (arith, s)) (binary_value o width g.ax v) refl
      (λ u is. byte_gives v lt u is))
    where
      byte_gives : (v : ℕ) → v < 256 → (u : ℕ) → binary_value o width g.ax v ≡ Some u
          → (h : Working) × Str (clear_byte Ch ∷ core o width) (set_byte g Cl v) (stack_of ws) h (stack_of ws) × (h.ax ≡ u) × (u < 65536) × OnlyChanges (of_operator o) g h
      byte_gives v lt u is =
          let h = set_byte (set_byte g Cl v) Ch 0 in
          let c = read_value o width (stack_of ws) h g.ax v a refl (omega (arith, lt)) (omega (arith, lt)) (Some u) is in
          (c.0, (h, stack_of ws, λ q. refl, c.1), c.2, c.3, changes_then (of_operator o) g h c.0 (Cores.operands_put o g h refl refl refl refl refl) (changes_wider (of_operator o) (Cores.core_changes o) h c.0 (Cores.core_within o) c.4))
  plain_row o width widths.Word y r k e g n go a inv ws p sm = by (is_direct o) refl
    where
      v0 : ℕ
      v0 = address x.offsets x.sizes y 0

      stands_so : (b : Bool) → is_direct o ≡ b
          → Chain r (place r k) (if b then Rows.on_place (λ s. opens.Word (Operate (direct o)) Ax (spot None s)) y ∷ plain (narrow_sum o width) else Rows.on_place (loads_right widths.Word) y ∷ plain (core o width)) (place r (k + 1))
      stands_so b d = subst (λ (b : Bool). Chain r (place r k) (if b then Rows.on_place (λ s. opens.Word (Operate (direct o)) Ax (spot None s)) y ∷ plain (narrow_sum o width) else Rows.on_place (loads_right widths.Word) y ∷ plain (core o width)) (place r (k + 1))) d
          (rows_stand r k (op.BinaryPlain o width widths.Word y) e)

      direct_gives : is_direct o ≡ true → (v : ℕ) → v < 65536 → (u : ℕ) → (s : Option ℕ) → s ≡ Some u → Cores.After laws x.find x.words x.main x.handler given (narrow_sum o width) g (alu_word (direct o) Ax v g) (stack_of ws) s
          → (h : Working) × Str (narrow_sum o width) (alu_word (direct o) Ax v g) (stack_of ws) h (stack_of ws) × (h.ax ≡ u) × (u < 65536) × OnlyChanges (of_direct o) g h
      direct_gives d v lt u s is c =
          let t = subst (λ z. Cores.After laws x.find x.words x.main x.handler given (narrow_sum o width) g (alu_word (direct o) Ax v g) (stack_of ws) z) is c in
          (t.0, t.1, t.2, t.3, subst (λ (b : Bool). OnlyChanges (if b then just_accumulator else of_operator o) g t.0) (sym d) t.4)

      word_gives : is_direct o ≡ false → (v : ℕ) → v < 65536 → (u : ℕ) → binary_value o width g.ax v ≡ Some u
          → (h : Working) × Str (core o width) (set_word g Cx v) (stack_of ws) h (stack_of ws) × (h.ax ≡ u) × (u < 65536) × OnlyChanges (of_direct o) g h
      word_gives d v lt u is =
          let h = set_word g Cx v in
          let c = read_value o width (stack_of ws) h g.ax v a refl refl lt (Some u) is in (
            c.0,
            c.1,
            c.2,
            c.3,
            subst (λ (b : Bool). OnlyChanges (if b then just_accumulator else of_operator o) g c.0) (sym d)
                (changes_then (of_operator o) g h c.0 (Cores.operands_put o g h refl refl refl refl refl) (changes_wider (of_operator o) (Cores.core_changes o) h c.0 (Cores.core_within o) c.4)),
          )

      by : (b : Bool) → is_direct o ≡ b → Fl n 8 (At r k g.ax ws) (Own (place r k) g (stack_of ws) false given)
      by true d =
          reading r k (op.BinaryPlain o width widths.Word y) e g n go a inv ws p sm widths.Word [] (closed (opens.Word (Operate (direct o)) Ax (spot None (segment_of y))) v0) (plain (narrow_sum o width)) (place r (k + 1)) (found x.offsets x.sizes widths.Word y v0) (λ v. computed (binary_value o width g.ax v) r (k + 1) ws) g (λ v. alu_word (direct o) Ax v g) refl
          (Chains.settled x.code x.words x.offsets x.places (x.at r) x.sizes (λ s. opens.Word (Operate (direct o)) Ax (spot None s)) y (plain (narrow_sum o width)) (place r k) (place r (k + 1)) (stands_so true d))
          (omega arith) (refl, refl)
          (λ at is z. Offers.alu_offered x.find x.words x.main x.handler given (direct o) y v0 z g (stack_of ws) ∙ ap (λ q. reads q widths.Word (λ v. Own z (alu_word (direct o) Ax v g) (stack_of ws) false given)) (place_found widths.Word y v0 at is))
          (λ w ow z c v lt m l. after_read o width widths.Word y r k e g n go a inv ws p sm w ow v lt m l z (alu_word (direct o) Ax v g) (narrow_sum o width) c (sum_pace o width) (binary_value o width g.ax v) refl
          (λ u is. direct_gives d v lt u (binary_value o width g.ax v) is (Cores.after_direct laws x.find x.words x.main x.handler given o width g (stack_of ws) v d a lt)))
      by false d =
          reading r k (op.BinaryPlain o width widths.Word y) e g n go a inv ws p sm widths.Word [] (closed (loads_right widths.Word (segment_of y)) v0) (plain (core o width)) (place r (k + 1)) (found x.offsets x.sizes widths.Word y v0) (λ v. computed (binary_value o width g.ax v) r (k + 1) ws) g (λ v. set_word g Cx v) refl
          (Chains.settled x.code x.words x.offsets x.places (x.at r) x.sizes (loads_right widths.Word) y (plain (core o width)) (place r k) (place r (k + 1)) (stands_so false d))
          (omega arith) (refl, refl)
          (λ at is z. Offers.right_offered x.find x.words x.main x.handler given widths.Word y v0 z g (stack_of ws) ∙ ap (λ q. reads q widths.Word (λ v. Own z (set_word g Cx v) (stack_of ws) false given)) (place_found widths.Word y v0 at is))
          (λ w ow z c v lt m l. after_read o width widths.Word y r k e g n go a inv ws p sm w ow v lt m l z (set_word g Cx v) (core o width) c (let s = Cores.short o width in omega (arith, s)) (binary_value o width g.ax v) refl
          (λ u is. word_gives d v lt u is))

  -- ---- stores and ports

  takes_low : (width : Width) (g : Working) → g.ax < 65536 → output_takes width g ≡ low width g.ax
  takes_low widths.Byte g l = refl
  takes_low widths.Word g l = omega (arith, l)

  module _ (r : Routine) (k : ℕ) (ins : Instruction) (e : slice_get (x.icode r) k ≡ Some ins) (g : Working) (n : ℕ) (go : Later n) (a : g.ax < 65536) (inv : Inv g) (ws : List Word) (p : P (At r k g.ax ws)) (sm : Small ws) where
    -- a write, if there is a place
    storing : (width : Width) (before : List Instr) (y : Instr) (o : Option Where) (v : ℕ) (ws2 : List Word) (g1 : Working) → does_so r k ins e g n go a inv ws p sm ≡ stored width o v (At r (k + 1) v ws2)
        → Chain r (place r k) (plain before ++ Plain y ∷ []) (place r (k + 1)) → with_each before 0 ≤ 8 → Str before g (stack_of ws) g1 (stack_of ws2) → g1.ax ≡ v → v < 65536 → Small ws2 → OnlyChanges (changes ins) g g1
        → ((w : Where) → o ≡ Some w → (z : ℕ) → offered x.find x.words x.main x.handler y z g1 (stack_of ws2) false given ≡ writes o width (output_takes width g1) (Own z g1 (stack_of ws2) false given)) → Fl n 8 (At r k g.ax ws) (Own (place r k) g (stack_of ws) false given)
    storing width before y None v ws2 g1 u c le s is lt sm2 keep off = bad r k ins e g n go a inv ws p sm u
    storing width before y (Some w) v ws2 g1 u c le s is lt sm2 keep off =
        let taken : output_takes width g1 ≡ low width v = takes_low width g1 (omega (arith, is, lt)) ∙ ap (low width) is in
        accessing r k ins e g n go a inv ws p sm before y [] (Write width w (low width v)) (λ _. v) ws2 g1 (stack_of ws2) (λ _. g1) u c le (omega arith) s
        (λ z. off w refl z ∙ ap (λ q. Does (Touch (Write width w q) (λ _. Own z g1 (stack_of ws2) false given))) taken) sm2
        (λ v2 lt2. (g1, (refl, refl), is, lt, keep))

  -- CX or CL is written, which holds the value that was on top
  store_top_row : (width : Width) (y : Place) → RowFollows (op.StoreTop width y)
  store_top_row width y r k e g n go a inv [] p sm = bad r k (op.StoreTop width y) e g n go a inv [] p sm refl
  store_top_row width y r k e g n go a inv (Return q ∷ ws) p sm = bad r k (op.StoreTop width y) e g n go a inv (Return q ∷ ws) p sm refl
  store_top_row width y r k e g n go a inv (Value v ∷ ws) p sm = by (found x.offsets x.sizes width y v0) refl
    where
      v0 : ℕ
      v0 = address x.offsets x.sizes y 0

      g1 : Working
      g1 = set_word g Cx v

      taken : (width : Width) → Offers.right_takes width g1 ≡ low width v
      taken widths.Byte = refl
      taken widths.Word = omega (arith, sm.0)

      chained : Chain r (place r k) (Plain (pop Cx) ∷ Plain (closed (Rows.stores_right width (segment_of y)) v0) ∷ []) (place r (k + 1))
      chained =
          let c = rows_stand r k (op.StoreTop width y) e in
          (c.0, c.1, c.2, Chains.settled x.code x.words x.offsets x.places (x.at r) x.sizes (Rows.stores_right width) y [] c.0 (place r (k + 1)) c.3)

      by : (o : Option Where) → found x.offsets x.sizes width y v0 ≡ o → Fl n 8 (At r k g.ax (Value v ∷ ws)) (Own (place r k) g (stack_of (Value v ∷ ws)) false given)
      by None is = bad r k (op.StoreTop width y) e g n go a inv (Value v ∷ ws) p sm (ap (λ z. stored width z v (At r (k + 1) g.ax ws)) is)
      by (Some w) is =
          accessing r k (op.StoreTop width y) e g n go a inv (Value v ∷ ws) p sm (pop Cx ∷ []) (closed (Rows.stores_right width (segment_of y)) v0) [] (Write width w (low width v)) (λ _. g.ax) ws g1 (stack_of ws) (λ _. g1)
          (ap (λ z. stored width z v (At r (k + 1) g.ax ws)) is) chained (omega arith) (omega arith) (g1, stack_of ws, λ q. refl, (refl, refl))
          (λ z. Offers.store_right_offered x.find x.words x.main x.handler given width y v0 z g1 (stack_of ws)
          ∙ ap (λ q. writes q width (Offers.right_takes width g1) (Own z g1 (stack_of ws) false given)) (place_found width y v0 w is ∙ is)
          ∙ ap (λ q. Does (Touch (Write width w q) (λ _. Own z g1 (stack_of ws) false given))) (taken width)) sm.1
          (λ u lt. (g1, (refl, refl), refl, a, (refl, tt, refl, refl, refl, refl, refl)))

  store_row : (width : Width) (y : Place) → RowFollows (op.Store width y)
  store_row width y r k e g n go a inv ws p sm =
      let v0 = address x.offsets x.sizes y 0 in
      storing r k (op.Store width y) e g n go a inv ws p sm width [] (closed (stores width None (segment_of y)) v0) (found x.offsets x.sizes width y v0) g.ax ws g refl
      (Chains.settled x.code x.words x.offsets x.places (x.at r) x.sizes (stores width None) y [] (place r k) (place r (k + 1)) (rows_stand r k (op.Store width y) e))
      (omega arith) (refl, refl) refl a sm (stays none g)
      (λ at is z. Offers.store_offered x.find x.words x.main x.handler given width y None v0 z g (stack_of ws) ∙ ap (λ q. writes q width (output_takes width g) (Own z g (stack_of ws) false given)) (place_found width y v0 at is))

  store_at_row : (width : Width) (y : Place) → RowFollows (op.StoreAt width y)
  store_at_row width y r k e g n go a inv [] p sm = bad r k (op.StoreAt width y) e g n go a inv [] p sm refl
  store_at_row width y r k e g n go a inv (Return q ∷ ws) p sm = bad r k (op.StoreAt width y) e g n go a inv (Return q ∷ ws) p sm refl
  store_at_row width y r k e g n go a inv (Value v ∷ ws) p sm =
      let v0 = address x.offsets x.sizes y 0 in
      let g0 = Cores.swapped laws x.find x.words x.main x.handler given Bx g in
      let g1 = set_word g0 Ax v in
      let c = rows_stand r k (op.StoreAt width y) e in
      storing r k (op.StoreAt width y) e g n go a inv (Value v ∷ ws) p sm width (exchange Bx ∷ pop Ax ∷ []) (closed (stores width (Some bases.Bx) (segment_of y)) v0) (found x.offsets x.sizes width y (address x.offsets x.sizes y g.ax)) v ws g1 refl
      (c.0, c.1, c.2, (c.3.0, c.3.1, c.3.2, Chains.settled x.code x.words x.offsets x.places (x.at r) x.sizes (stores width (Some bases.Bx)) y [] c.3.0 (place r (k + 1)) c.3.3))
      (omega arith) (g0, v ∷ stack_of ws, Cores.exchanges laws x.find x.words x.main x.handler given Bx refl refl g (v ∷ stack_of ws), (g1, stack_of ws, λ q. refl, (refl, refl))) refl sm.0 sm.1 (tt, refl, refl, tt, refl, refl, refl)
      (λ at is z. Offers.store_offered x.find x.words x.main x.handler given width y (Some bases.Bx) v0 z g1 (stack_of ws) ∙ ap (λ q. writes q width (output_takes width g1) (Own z g1 (stack_of ws) false given)) (behind_found width y g.ax at is))

  -- the address goes to BX before AX has the constant
  store_constant_row : (width : Width) (y : Place) (c : ℕ) → RowFollows (op.StoreConstantAt width y c)
  store_constant_row width y c r k e g n go a inv ws p sm =
      let v0 = address x.offsets x.sizes y 0 in
      let g0 = Cores.swapped laws x.find x.words x.main x.handler given Bx g in
      let w = Cores.accumulator_set laws x.find x.words x.main x.handler given c g0 (stack_of ws) in
      let h = w.0 in
      let s = rows_stand r k (op.StoreConstantAt width y c) e in
      storing r k (op.StoreConstantAt width y c) e g n go a inv ws p sm width (exchange Bx ∷ accumulator_gets c ∷ []) (closed (stores width (Some bases.Bx) (segment_of y)) v0) (found x.offsets x.sizes width y (address x.offsets x.sizes y g.ax)) c ws h refl
      (s.0, s.1, s.2, (s.3.0, s.3.1, s.3.2, Chains.settled x.code x.words x.offsets x.places (x.at r) x.sizes (stores width (Some bases.Bx)) y [] s.3.0 (place r (k + 1)) s.3.3))
      (omega arith) (g0, stack_of ws, Cores.exchanges laws x.find x.words x.main x.handler given Bx refl refl g (stack_of ws), w.1) w.2 ((all.made r).numbered k (op.StoreConstantAt width y c) e) sm
      (changes_then addressed g g0 h (tt, refl, refl, tt, refl, refl, refl) (changes_wider addressed just_accumulator g0 h refl w.3))
      (λ at is z. Offers.store_offered x.find x.words x.main x.handler given width y (Some bases.Bx) v0 z h (stack_of ws)
      ∙ ap (λ b. writes (place_in x.find (segment_of y) ((b + v0) % 65536) (bytes width)) width (output_takes width h) (Own z h (stack_of ws) false given)) w.3.3
      ∙ ap (λ q. writes q width (output_takes width h) (Own z h (stack_of ws) false given)) (behind_found width y g.ax at is))

  store_there_row : (width : Width) → RowFollows (op.StoreThere width)
  unfolding there
  store_there_row width r k e g n go a inv [] p sm = bad r k (op.StoreThere width) e g n go a inv [] p sm refl
  store_there_row width r k e g n go a inv (Return q ∷ ws) p sm = bad r k (op.StoreThere width) e g n go a inv (Return q ∷ ws) p sm refl
  store_there_row width r k e g n go a inv (Value v ∷ ws) p sm =
      let g0 = Cores.swapped laws x.find x.words x.main x.handler given Bx g in
      let g1 = set_word g0 Ax v in
      storing r k (op.StoreThere width) e g n go a inv (Value v ∷ ws) p sm width (exchange Bx ∷ pop Ax ∷ []) (closed (stores width (Some bases.Bx) segments.Ds) 0) (held 0 x.offsets x.sizes g.ax (word_places.bytes width)) v ws g1 refl
      (rows_stand r k (op.StoreThere width) e)
      (omega arith) (g0, v ∷ stack_of ws, Cores.exchanges laws x.find x.words x.main x.handler given Bx refl refl g (v ∷ stack_of ws), (g1, stack_of ws, λ q. refl, (refl, refl))) refl sm.0 sm.1 (tt, refl, refl, tt, refl, refl, refl)
      (λ at is z. Offers.store_offered x.find x.words x.main x.handler given width there (Some bases.Bx) 0 z g1 (stack_of ws) ∙ ap (λ q. writes q width (output_takes width g1) (Own z g1 (stack_of ws) false given)) (there_found width g.ax a))

  abbrev ported : Registers
  ported = record none { accumulator = true; high = true }

  send_row : (width : Width) → RowFollows (op.Send width)
  send_row width r k e g n go a inv [] p sm = bad r k (op.Send width) e g n go a inv [] p sm refl
  send_row width r k e g n go a inv (Return q ∷ ws) p sm = bad r k (op.Send width) e g n go a inv (Return q ∷ ws) p sm refl
  send_row width r k e g n go a inv (Value v ∷ ws) p sm =
      let g0 = Cores.swapped laws x.find x.words x.main x.handler given Dx g in
      let g1 = set_word g0 Ax v in
      accessing r k (op.Send width) e g n go a inv (Value v ∷ ws) p sm (exchange Dx ∷ pop Ax ∷ []) (i.Out width ports.Dx) [] (Output width g.ax (low width v)) (λ _. v) ws g1 (stack_of ws) (λ _. g1) refl (rows_stand r k (op.Send width) e) (omega arith) (omega arith)
      (g0, v ∷ stack_of ws, Cores.exchanges laws x.find x.words x.main x.handler given Dx refl refl g (v ∷ stack_of ws), (g1, stack_of ws, λ q. refl, (refl, refl)))
      (λ z. ap (λ q. Does (Touch (Output width g.ax q) (λ _. Own z g1 (stack_of ws) false given))) (takes_low width g1 sm.0)) sm.1
      (λ u lt. (g1, (refl, refl), refl, sm.0, (tt, refl, tt, refl, refl, refl, refl)))

  send_to_row : (width : Width) (port : ℕ) → RowFollows (op.SendTo width port)
  send_to_row width port r k e g n go a inv ws p sm = by (nat_le 256 port) refl
    where
      stands_so : (b : Bool) → nat_le 256 port ≡ b → Chain r (place r k) (plain (if b then load_number Dx port ∷ i.Out width ports.Dx ∷ [] else i.Out width (ports.Fixed port) ∷ [])) (place r (k + 1))
      stands_so b d = subst (λ (b : Bool). Chain r (place r k) (plain (if b then load_number Dx port ∷ i.Out width ports.Dx ∷ [] else i.Out width (ports.Fixed port) ∷ [])) (place r (k + 1))) d (rows_stand r k (op.SendTo width port) e)

      by : (b : Bool) → nat_le 256 port ≡ b → Fl n 8 (At r k g.ax ws) (Own (place r k) g (stack_of ws) false given)
      by true d =
          let g1 = set_word g Dx port in
          accessing r k (op.SendTo width port) e g n go a inv ws p sm (load_number Dx port ∷ []) (i.Out width ports.Dx) [] (Output width port (low width g.ax)) (λ _. g.ax) ws g1 (stack_of ws) (λ _. g1) refl (stands_so true d) (omega arith) (omega arith)
          (g1, stack_of ws, λ q. refl, (refl, refl)) (λ z. ap (λ q. Does (Touch (Output width port q) (λ _. Own z g1 (stack_of ws) false given))) (takes_low width g1 a)) sm
          (λ u lt. (g1, (refl, refl), refl, a, subst (λ (b : Bool). OnlyChanges (if b then just_high else none) g g1) (sym d) (refl, refl, tt, refl, refl, refl, refl)))
      by false d =
          accessing r k (op.SendTo width port) e g n go a inv ws p sm [] (i.Out width (ports.Fixed port)) [] (Output width port (low width g.ax)) (λ _. g.ax) ws g (stack_of ws) (λ _. g) refl (stands_so false d) (omega arith) (omega arith)
          (refl, refl) (λ z. ap (λ q. Does (Touch (Output width port q) (λ _. Own z g (stack_of ws) false given))) (takes_low width g a)) sm
          (λ u lt. (g, (refl, refl), refl, a, subst (λ (b : Bool). OnlyChanges (if b then just_high else none) g g) (sym d) (stays none g)))

  receive_row : (width : Width) → RowFollows (op.Receive width)
  receive_row width r k e g n go a inv ws p sm =
      let g1 = Cores.swapped laws x.find x.words x.main x.handler given Dx g in
      accessing r k (op.Receive width) e g n go a inv ws p sm (exchange Dx ∷ []) (i.In width ports.Dx) (narrow width) (Input width g.ax) (λ v. v) ws g1 (stack_of ws) (λ v. input_gives width g1 v) refl (rows_stand r k (op.Receive width) e) (omega arith) (narrow_pace width)
      (g1, stack_of ws, Cores.exchanges laws x.find x.words x.main x.handler given Dx refl refl g (stack_of ws), (refl, refl)) (λ z. refl) sm
      (λ v lt. let w = narrowed width g1 (stack_of ws) v lt in (w.0, w.1, w.2, w.3, changes_then ported g g1 w.0 (tt, refl, tt, refl, refl, refl, refl) (changes_wider ported just_accumulator g1 w.0 refl w.4)))

  receive_from_row : (width : Width) (port : ℕ) → RowFollows (op.ReceiveFrom width port)
  receive_from_row width port r k e g n go a inv ws p sm = by (nat_le 256 port) refl
    where
      stands_so : (b : Bool) → nat_le 256 port ≡ b → Chain r (place r k) (plain (if b then load_number Dx port ∷ then_narrow width (i.In width ports.Dx) else then_narrow width (i.In width (ports.Fixed port)))) (place r (k + 1))
      stands_so b d = subst (λ (b : Bool). Chain r (place r k) (plain (if b then load_number Dx port ∷ then_narrow width (i.In width ports.Dx) else then_narrow width (i.In width (ports.Fixed port)))) (place r (k + 1))) d (rows_stand r k (op.ReceiveFrom width port) e)

      by : (b : Bool) → nat_le 256 port ≡ b → Fl n 8 (At r k g.ax ws) (Own (place r k) g (stack_of ws) false given)
      by true d =
          let g1 = set_word g Dx port in
          accessing r k (op.ReceiveFrom width port) e g n go a inv ws p sm (load_number Dx port ∷ []) (i.In width ports.Dx) (narrow width) (Input width port) (λ v. v) ws g1 (stack_of ws) (λ v. input_gives width g1 v) refl (stands_so true d) (omega arith) (narrow_pace width)
          (g1, stack_of ws, λ q. refl, (refl, refl)) (λ z. refl) sm
          (λ v lt. let w = narrowed width g1 (stack_of ws) v lt in (
            w.0,
            w.1,
            w.2,
            w.3,
            subst (λ (b : Bool). OnlyChanges (joined just_accumulator (if b then just_high else none)) g w.0) (sym d)
                (changes_then ported g g1 w.0 (tt, refl, tt, refl, refl, refl, refl) (changes_wider ported just_accumulator g1 w.0 refl w.4)),
          ))
      by false d =
          accessing r k (op.ReceiveFrom width port) e g n go a inv ws p sm [] (i.In width (ports.Fixed port)) (narrow width) (Input width port) (λ v. v) ws g (stack_of ws) (λ v. input_gives width g v) refl (stands_so false d) (omega arith) (narrow_pace width)
          (refl, refl) (λ z. refl) sm
          (λ v lt. let w = narrowed width g (stack_of ws) v lt in (w.0, w.1, w.2, w.3, subst (λ (b : Bool). OnlyChanges (joined just_accumulator (if b then just_high else none)) g w.0) (sym d) w.4))

  -- ---- low bytes

  direct_is : (o : Direct) (b c : ℕ) (f : flags_type.Flags) → b < 256 → c < 256 → (operated (arithmetic o) widths.Byte b c f).value ≡ direct_value o b c
  unfolding i86_arithmetic.operated i86_arithmetic.added i86_arithmetic.subtracted i86_arithmetic.combined
  direct_is directs.Add b c f l m = omega (arith, l, m)
  direct_is directs.Subtract b c f l m = omega (arith, l, m)
  direct_is directs.And b c f l m = refl
  direct_is directs.Or b c f l m = refl
  direct_is directs.ExclusiveOr b c f l m = refl

  direct_small : (o : Direct) (b c : ℕ) → b < 256 → c < 256 → direct_value o b c < 256
  direct_small directs.Add b c l m = omega arith
  direct_small directs.Subtract b c l m = omega arith
  direct_small directs.And b c l m = omega (arith, l, and_le_l b c)
  direct_small directs.Or b c l m = or_of_8 b c l m
  direct_small directs.ExclusiveOr b c l m = xor_of_8 b c l m

  -- AL has a byte: then the high byte stays or becomes 0
  settles : (s : Registers) → s.accumulator ≡ true → (high : High) (g h : Working) (st : List ℕ) (b v : ℕ) → b < 65536 → v < 256 → h.ax ≡ b / 256 * 256 + v → OnlyChanges s g h
      → (h2 : Working) × Str (cleared high) h st h2 st × (h2.ax ≡ settled high b v) × (settled high b v < 65536) × OnlyChanges s g h2
  settles s acc highs.Kept g h st b v lb lv is keep = (h, (refl, refl), is, omega (arith, lb, lv), keep)
  settles s acc highs.Cleared g h st b v lb lv is keep =
      (set_byte h Ah 0, (set_byte h Ah 0, st, λ q. refl, (refl, refl)), omega (arith, is, lv), omega (arith, lv), changes_then s g h (set_byte h Ah 0) keep (Cores.byte_keeps laws x.find x.words x.main x.handler given s acc h))

  cleared_pace : (high : High) → with_each (cleared high) 8 ≤ 9
  cleared_pace highs.Kept = omega arith
  cleared_pace highs.Cleared = omega arith

  -- what was read into AL
  gained : (s : Registers) → s.accumulator ≡ true → (high : High) (g g1 : Working) (st : List ℕ) (v : ℕ) → g1.ax ≡ g.ax → g.ax < 65536 → v < 256 → OnlyChanges s g (set_byte g1 Al v)
      → (h : Working) × Str (cleared high) (input_gives widths.Byte g1 v) st h st × (h.ax ≡ settled high g.ax v) × (settled high g.ax v < 65536) × OnlyChanges s g h
  gained s acc high g g1 st v is lt lv keep = settles s acc high g (set_byte g1 Al v) st g.ax v lt lv (omega (arith, is, lt, lv)) keep

  low_constant_row : (c : ℕ) (high : High) → RowFollows (op.Low (lows.Constant c) high)
  low_constant_row c high r k e g n go a inv ws p sm =
      let h = set_byte g Al (c % 256) in
      let t = settles just_accumulator refl high g h (stack_of ws) g.ax (c % 256) a (omega arith) (omega (arith, a)) (tt, refl, refl, refl, refl, refl, refl) in
      silent r k (op.Low (lows.Constant c) high) e g n go a inv ws p sm (low_gets c) (cleared high) (settled high g.ax (c % 256)) ws t.0 refl (rows_stand r k (op.Low (lows.Constant c) high) e) (omega (arith, cleared_pace high))
      (h, stack_of ws, λ q. refl, t.1) t.2 t.3 sm t.4

  low_high_row : (high : High) → RowFollows (op.Low lows.High high)
  low_high_row high r k e g n go a inv ws p sm =
      let h = set_byte g Al (Rattle.i86_table.specs.Contexts.byte_in g Ah) in
      let t = settles just_accumulator refl high g h (stack_of ws) g.ax (g.ax / 256) a (omega (arith, a)) (omega (arith, a)) (tt, refl, refl, refl, refl, refl, refl) in
      silent r k (op.Low lows.High high) e g n go a inv ws p sm (i.MoveByte (FromRegister (rm.Register Al) Ah)) (cleared high) (settled high g.ax (g.ax / 256)) ws t.0 refl (rows_stand r k (op.Low lows.High high) e) (omega (arith, cleared_pace high))
      (h, stack_of ws, λ q. refl, t.1) t.2 t.3 sm t.4

  low_load_row : (y : Place) (high : High) → RowFollows (op.Low (lows.Load y) high)
  low_load_row y high r k e g n go a inv ws p sm =
      let v0 = address x.offsets x.sizes y 0 in
      read_on r k (op.Low (lows.Load y) high) e g n go a inv ws p sm widths.Byte [] (closed (loads widths.Byte None (segment_of y)) v0) (cleared high) (found x.offsets x.sizes widths.Byte y v0) (λ v. settled high g.ax v) g (λ v. input_gives widths.Byte g v) refl
      (Chains.settled x.code x.words x.offsets x.places (x.at r) x.sizes (loads widths.Byte None) y (plain (cleared high)) (place r k) (place r (k + 1)) (rows_stand r k (op.Low (lows.Load y) high) e))
      (omega arith) (omega (arith, cleared_pace high)) (refl, refl)
      (λ at is z. Offers.load_offered x.find x.words x.main x.handler given widths.Byte y None v0 z g (stack_of ws) ∙ ap (λ o. reads o widths.Byte (λ v. Own z (input_gives widths.Byte g v) (stack_of ws) false given)) (place_found widths.Byte y v0 at is))
      (λ v lt. gained just_accumulator refl high g g (stack_of ws) v refl a lt (tt, refl, refl, refl, refl, refl, refl))

  low_load_at_row : (y : Place) (high : High) → RowFollows (op.Low (lows.LoadAt y) high)
  low_load_at_row y high r k e g n go a inv ws p sm =
      let v0 = address x.offsets x.sizes y 0 in
      let g1 = set_word g Bx g.ax in
      let c = rows_stand r k (op.Low (lows.LoadAt y) high) e in
      read_on r k (op.Low (lows.LoadAt y) high) e g n go a inv ws p sm widths.Byte (copy Bx Ax ∷ []) (closed (loads widths.Byte (Some bases.Bx) (segment_of y)) v0) (cleared high) (found x.offsets x.sizes widths.Byte y (address x.offsets x.sizes y g.ax)) (λ v. settled high g.ax v) g1 (λ v. input_gives widths.Byte g1 v) refl
      (c.0, c.1, c.2, Chains.settled x.code x.words x.offsets x.places (x.at r) x.sizes (loads widths.Byte (Some bases.Bx)) y (plain (cleared high)) c.0 (place r (k + 1)) c.3)
      (omega arith) (omega (arith, cleared_pace high)) (g1, stack_of ws, λ q. refl, (refl, refl))
      (λ at is z. Offers.load_offered x.find x.words x.main x.handler given widths.Byte y (Some bases.Bx) v0 z g1 (stack_of ws) ∙ ap (λ o. reads o widths.Byte (λ v. Own z (input_gives widths.Byte g1 v) (stack_of ws) false given)) (behind_found widths.Byte y g.ax at is))
      (λ v lt. gained addressed refl high g g1 (stack_of ws) v refl a lt (tt, refl, refl, tt, refl, refl, refl))

  low_load_there_row : (high : High) → RowFollows (op.Low lows.LoadThere high)
  unfolding there
  low_load_there_row high r k e g n go a inv ws p sm =
      let g1 = set_word g Bx g.ax in
      read_on r k (op.Low lows.LoadThere high) e g n go a inv ws p sm widths.Byte (copy Bx Ax ∷ []) (closed (loads widths.Byte (Some bases.Bx) segments.Ds) 0) (cleared high) (held 0 x.offsets x.sizes g.ax 1) (λ v. settled high g.ax v) g1 (λ v. input_gives widths.Byte g1 v) refl
      (rows_stand r k (op.Low lows.LoadThere high) e)
      (omega arith) (omega (arith, cleared_pace high)) (g1, stack_of ws, λ q. refl, (refl, refl))
      (λ at is z. Offers.load_offered x.find x.words x.main x.handler given widths.Byte there (Some bases.Bx) 0 z g1 (stack_of ws) ∙ ap (λ o. reads o widths.Byte (λ v. Own z (input_gives widths.Byte g1 v) (stack_of ws) false given)) (there_found widths.Byte g.ax a))
      (λ v lt. gained addressed refl high g g1 (stack_of ws) v refl a lt (tt, refl, refl, tt, refl, refl, refl))

  low_receive_row : (high : High) → RowFollows (op.Low lows.Receive high)
  low_receive_row high r k e g n go a inv ws p sm =
      let g1 = set_word g Dx g.ax in
      accessing r k (op.Low lows.Receive high) e g n go a inv ws p sm (copy Dx Ax ∷ []) (i.In widths.Byte ports.Dx) (cleared high) (Input widths.Byte g.ax) (λ v. settled high g.ax v) ws g1 (stack_of ws) (λ v. input_gives widths.Byte g1 v) refl (rows_stand r k (op.Low lows.Receive high) e) (omega arith) (omega (arith, cleared_pace high))
      (g1, stack_of ws, λ q. refl, (refl, refl)) (λ z. refl) sm
      (λ v lt. gained ported refl high g g1 (stack_of ws) v refl a lt (tt, refl, tt, refl, refl, refl, refl))

  low_receive_from_row : (port : ℕ) (high : High) → RowFollows (op.Low (lows.ReceiveFrom port) high)
  low_receive_from_row port high r k e g n go a inv ws p sm = by (nat_le 256 port) refl
    where
      stands_so : (b : Bool) → nat_le 256 port ≡ b → Chain r (place r k) (plain (if b then load_number Dx port ∷ i.In widths.Byte ports.Dx ∷ cleared high else i.In widths.Byte (ports.Fixed port) ∷ cleared high)) (place r (k + 1))
      stands_so b d = subst (λ (b : Bool). Chain r (place r k) (plain (if b then load_number Dx port ∷ i.In widths.Byte ports.Dx ∷ cleared high else i.In widths.Byte (ports.Fixed port) ∷ cleared high)) (place r (k + 1))) d (rows_stand r k (op.Low (lows.ReceiveFrom port) high) e)

      by : (b : Bool) → nat_le 256 port ≡ b → Fl n 8 (At r k g.ax ws) (Own (place r k) g (stack_of ws) false given)
      by true d =
          let g1 = set_word g Dx port in
          accessing r k (op.Low (lows.ReceiveFrom port) high) e g n go a inv ws p sm (load_number Dx port ∷ []) (i.In widths.Byte ports.Dx) (cleared high) (Input widths.Byte port) (λ v. settled high g.ax v) ws g1 (stack_of ws) (λ v. input_gives widths.Byte g1 v) refl (stands_so true d) (omega arith) (omega (arith, cleared_pace high))
          (g1, stack_of ws, λ q. refl, (refl, refl)) (λ z. refl) sm
          (λ v lt. let w = gained ported refl high g g1 (stack_of ws) v refl a lt (tt, refl, tt, refl, refl, refl, refl) in
          (w.0, w.1, w.2, w.3, subst (λ (b : Bool). OnlyChanges (joined just_accumulator (if b then just_high else none)) g w.0) (sym d) w.4))
      by false d =
          accessing r k (op.Low (lows.ReceiveFrom port) high) e g n go a inv ws p sm [] (i.In widths.Byte (ports.Fixed port)) (cleared high) (Input widths.Byte port) (λ v. settled high g.ax v) ws g (stack_of ws) (λ v. input_gives widths.Byte g v) refl (stands_so false d) (omega arith) (omega (arith, cleared_pace high))
          (refl, refl) (λ z. refl) sm
          (λ v lt. let w = gained just_accumulator refl high g g (stack_of ws) v refl a lt (tt, refl, refl, refl, refl, refl, refl) in
          (w.0, w.1, w.2, w.3, subst (λ (b : Bool). OnlyChanges (joined just_accumulator (if b then just_high else none)) g w.0) (sym d) w.4))

  -- an operation on AL and a byte, where AX is a word; what it leaves, and that it leads there
  abbrev after_direct : Direct → ℕ → Working → Working
  after_direct o c g = let z = operated (arithmetic o) widths.Byte (g.ax % 256) c g.flags in set_byte (set_flags g z.flags) Al z.value

  direct_leaves : (o : Direct) (c : ℕ) (g : Working) → alu_byte (arithmetic o) Al c g ≡ after_direct o c g
  direct_leaves directs.Add c g = refl
  direct_leaves directs.Subtract c g = refl
  direct_leaves directs.And c g = refl
  direct_leaves directs.Or c g = refl
  direct_leaves directs.ExclusiveOr c g = refl

  direct_settles : (s : Registers) → s.accumulator ≡ true → (o : Direct) (high : High) (g0 g : Working) (st : List ℕ) (c : ℕ) → g.ax < 65536 → c < 256 → OnlyChanges s g0 (after_direct o c g)
      → (h2 : Working) × Str (cleared high) (after_direct o c g) st h2 st × (h2.ax ≡ of_bytes o high g.ax c) × (of_bytes o high g.ax c < 65536) × OnlyChanges s g0 h2
  direct_settles s acc o high g0 g st c l m keep =
      let small : g.ax % 256 < 256 = omega arith in
      let is = direct_is o (g.ax % 256) c g.flags small m in
      let few = direct_small o (g.ax % 256) c small m in
      settles s acc high g0 (after_direct o c g) st g.ax (direct_value o (g.ax % 256) c) l few (omega (arith, l, is, few)) keep

  operate_constant_row : (o : Direct) (c : ℕ) (high : High) → RowFollows (op.Low (lows.Operate o (rights.Constant c)) high)
  operate_constant_row o c high r k e g n go a inv ws p sm =
      let t = direct_settles just_accumulator refl o high g g (stack_of ws) (c % 256) a (omega arith) (tt, refl, refl, refl, refl, refl, refl) in
      silent r k (op.Low (lows.Operate o (rights.Constant c)) high) e g n go a inv ws p sm (low_number (arithmetic o) c) (cleared high) (of_bytes o high g.ax (c % 256)) ws t.0 refl
      (rows_stand r k (op.Low (lows.Operate o (rights.Constant c)) high) e) (omega (arith, cleared_pace high))
      (after_direct o (c % 256) g, stack_of ws, λ q. ap (λ z. Does (Silent (Own q z (stack_of ws) false given))) (direct_leaves o (c % 256) g), t.1) t.2 t.3 sm t.4

  operate_plain_row : (o : Direct) (y : Place) (high : High) → RowFollows (op.Low (lows.Operate o (rights.Plain y)) high)
  operate_plain_row o y high r k e g n go a inv ws p sm =
      let v0 = address x.offsets x.sizes y 0 in
      read_on r k (op.Low (lows.Operate o (rights.Plain y)) high) e g n go a inv ws p sm widths.Byte [] (closed (low_on (Operate (arithmetic o)) (segment_of y)) v0) (cleared high) (found x.offsets x.sizes widths.Byte y v0) (λ v. of_bytes o high g.ax v) g (λ v. after_direct o v g) refl
      (Chains.settled x.code x.words x.offsets x.places (x.at r) x.sizes (low_on (Operate (arithmetic o))) y (plain (cleared high)) (place r k) (place r (k + 1)) (rows_stand r k (op.Low (lows.Operate o (rights.Plain y)) high) e))
      (omega arith) (omega (arith, cleared_pace high)) (refl, refl)
      (λ at is z. low_offered o y v0 z g (stack_of ws) ∙ ap (λ o2. reads o2 widths.Byte (λ v. Own z (after_direct o v g) (stack_of ws) false given)) (place_found widths.Byte y v0 at is))
      (λ v lt. direct_settles just_accumulator refl o high g g (stack_of ws) v a lt (tt, refl, refl, refl, refl, refl, refl))
    where
      low_offered : (o : Direct) (y : Place) (m q : ℕ) (g : Working) (st : List ℕ) → offered x.find x.words x.main x.handler (closed (low_on (Operate (arithmetic o)) (segment_of y)) m) q g st false given
          ≡ reads (Offers.where_at x.find x.words x.main x.handler given widths.Byte (segment_of y) None m g) widths.Byte (λ v. Own q (after_direct o v g) st false given)
      low_offered directs.Add y m q g st = refl
      low_offered directs.Subtract y m q g st = refl
      low_offered directs.And y m q g st = refl
      low_offered directs.Or y m q g st = refl
      low_offered directs.ExclusiveOr y m q g st = refl

  both_registers : Registers
  both_registers = record none { accumulator = true; right = true }

  operate_top_row : (o : Direct) (high : High) → RowFollows (op.Low (lows.Operate o rights.Top) high)
  unfolding both_registers
  operate_top_row o high r k e g n go a inv [] p sm = bad r k (op.Low (lows.Operate o rights.Top) high) e g n go a inv [] p sm refl
  operate_top_row o high r k e g n go a inv (Return q ∷ ws) p sm = bad r k (op.Low (lows.Operate o rights.Top) high) e g n go a inv (Return q ∷ ws) p sm refl
  operate_top_row o high r k e g n go a inv (Value v ∷ ws) p sm =
      let g0 = Cores.swapped laws x.find x.words x.main x.handler given Cx g in
      let g1 = set_word g0 Ax v in
      let c = g.ax % 256 in
      let t = direct_settles both_registers refl o high g g1 (stack_of ws) c sm.0 (omega arith) (tt, tt, refl, refl, refl, refl, refl) in
      silent r k (op.Low (lows.Operate o rights.Top) high) e g n go a inv (Value v ∷ ws) p sm (exchange Cx) (pop Ax ∷ byte_alu (arithmetic o) Al Cl ∷ cleared high) (of_bytes o high v c) ws t.0 refl
      (rows_stand r k (op.Low (lows.Operate o rights.Top) high) e) (omega (arith, cleared_pace high))
      (g0, v ∷ stack_of ws, Cores.exchanges laws x.find x.words x.main x.handler given Cx refl refl g (v ∷ stack_of ws), (g1, stack_of ws, λ q. refl, (after_direct o c g1, stack_of ws, λ q. ap (λ z. Does (Silent (Own q z (stack_of ws) false given))) (direct_leaves o c g1), t.1))) t.2 t.3 sm.1 t.4

  operate_row : (o : Direct) (y : Right) (high : High) → RowFollows (op.Low (lows.Operate o y) high)
  operate_row o (rights.Constant c) high = operate_constant_row o c high
  operate_row o (rights.Plain y) high = operate_plain_row o y high
  operate_row o rights.Top high = operate_top_row o high

  low_byte_row : (low : LowByte) (high : High) → RowFollows (op.Low low high)
  low_byte_row (lows.Constant c) high = low_constant_row c high
  low_byte_row (lows.Load y) high = low_load_row y high
  low_byte_row (lows.LoadAt y) high = low_load_at_row y high
  low_byte_row lows.LoadThere high = low_load_there_row high
  low_byte_row lows.Receive high = low_receive_row high
  low_byte_row (lows.ReceiveFrom port) high = low_receive_from_row port high
  low_byte_row lows.High high = low_high_row high
  low_byte_row (lows.Operate o y) high = operate_row o y high

  -- ---- jumps

  module _ (r : Routine) (k : ℕ) (ins : Instruction) (e : slice_get (x.icode r) k ≡ Some ins) (g : Working) (n : ℕ) (go : Later n) (a : g.ax < 65536) (inv : Inv g) (ws : List Word) (p : P (At r k g.ax ws)) (sm : Small ws) where
    -- the code and the instructions jump to an instruction of the same routine
    jumps : (t : ℕ) → does_so r k ins e g n go a inv ws p sm ≡ Silent (At r t g.ax ws) → Chain r (place r k) (Rattle.select.specs.declared.part.Step.TheVariants.Goto (first r t) ∷ []) (place r (k + 1)) → Fl n 8 (At r k g.ax ws) (Own (place r k) g (stack_of ws) false given)
    jumps t u c = by n refl
      where
        by : (m : ℕ) → m ≡ n → Fl m 8 (At r k g.ax ws) (Own (place r k) g (stack_of ws) false given)
        by zero is = tt
        by (suc m) is =
            let l : m < n = omega (arith, is) in
            Engine.goes machine.Context next x.code x.find x.words x.entry x.main x.handler 20 (is_main given) x.offsets x.places given m 8 (place r k) c.0 (place r t) (first r t) (At r k g.ax ws) (At r t g.ax ws) g (stack_of ws) (acts r k ins e g n go a inv ws p sm (Silent (At r t g.ax ws)) u) c.1 c.2
            (looser m 8 20 (At r t g.ax ws) (Own (place r t) g (stack_of ws) false given) (omega arith)
            (lands r k ins e g n go a inv ws p sm m l (Silent (At r t g.ax ws)) u r t g.ax (place r t) ws g (stack_of ws) refl refl refl refl a sm (stays (changes ins) g)))

    -- a test of the accumulator's lowest bit
    bit_is : (y : ℕ) → nat_eq (bit_and (y % 256) 1) 0 ≡ not (is_odd y)
    bit_is y = ap (λ z. nat_eq z 0) (and_mask (y % 256) 1) ∙ by (y % 2) (y % 256 % 2) (omega arith) (omega arith)
      where
        by : (m l : ℕ) → l ≡ m → m < 2 → nat_eq l 0 ≡ not (nat_eq m 1)
        by zero l e h = ap (λ z. nat_eq z 0) e
        by (suc zero) l e h = ap (λ z. nat_eq z 0) e
        by (suc (suc m)) l e h = absurd (omega (arith, h))

    odd_jumps : (t : ℕ) → does_so r k ins e g n go a inv ws p sm ≡ jumped x.offsets x.sizes test.Odd r (k + 1) t g.ax ws → Chain r (place r k) (Rows.unless test.Odd (first r t)) (place r (k + 1)) → Fl n 8 (At r k g.ax ws) (Own (place r k) g (stack_of ws) false given)
    odd_jumps t u c =
        let h = set_flags g (tested widths.Byte (g.ax % 256) 1 g.flags) in
        let d = At r (if is_odd g.ax then k + 1 else t) g.ax ws in
        begins r k ins e g n go a inv ws p sm (i.TestByte (rm.Register Al) (masks.Immediate 1)) [] 10 c.0 d h (stack_of ws) u (c.0, c.1, c.2, refl) (omega arith) (h, stack_of ws, λ q. refl, (refl, refl))
        (branches r k ins e g n go a inv ws p sm conditions.Equal (is_odd g.ax) (Silent d) u t g.ax ws h refl (Flags.no_bit laws widths.Byte (g.ax % 256) 1 g.flags ∙ bit_is g.ax) refl a sm (stays (changes ins) g) c.0 c.3)

    abbrev compared : (c : ℕ) → Working
    compared c = set_flags g (operated Cmp widths.Word g.ax c g.flags).flags

    constant_jumps : (o : Relation) (v t : ℕ) → v < 65536 → does_so r k ins e g n go a inv ws p sm ≡ jumped x.offsets x.sizes (test.Constant o v) r (k + 1) t g.ax ws → Chain r (place r k) (Rows.unless (test.Constant o v) (first r t)) (place r (k + 1)) → Fl n 8 (At r k g.ax ws) (Own (place r k) g (stack_of ws) false given)
    constant_jumps o v t lv u c = by (nat_eq v 0) refl
      where
        d : machine.Context
        d = At r (if stands o g.ax v then k + 1 else t) g.ax ws

        by_flags : (y : Instr) (f : flags_type.Flags) → Chain r (place r k) (Plain y ∷ GotoIf (fails o) (first r t) ∷ []) (place r (k + 1))
            → ((q : ℕ) → offered x.find x.words x.main x.handler y q g (stack_of ws) false given ≡ Does (Silent (Own q (set_flags g f) (stack_of ws) false given)))
            → holds (fails o) f ≡ not (stands o g.ax v) → Fl n 8 (At r k g.ax ws) (Own (place r k) g (stack_of ws) false given)
        by_flags y f c off tells =
            let h = set_flags g f in
            begins r k ins e g n go a inv ws p sm y [] 10 c.0 d h (stack_of ws) u (c.0, c.1, c.2, refl) (omega arith) (h, stack_of ws, off, (refl, refl))
            (branches r k ins e g n go a inv ws p sm (fails o) (stands o g.ax v) (Silent d) u t g.ax ws h refl tells refl a sm (stays (changes ins) g) c.0 c.3)

        chain_of : (b : Bool) → nat_eq v 0 ≡ b → Chain r (place r k) (Plain (if b then i.TestWord (rm.Register Ax) (masks.Register Ax) else alu_number Cmp Ax v) ∷ GotoIf (fails o) (first r t) ∷ []) (place r (k + 1))
        chain_of b is = subst (λ (b : Bool). Chain r (place r k) (Plain (if b then i.TestWord (rm.Register Ax) (masks.Register Ax) else alu_number Cmp Ax v) ∷ GotoIf (fails o) (first r t) ∷ []) (place r (k + 1))) is c

        by : (b : Bool) → nat_eq v 0 ≡ b → Fl n 8 (At r k g.ax ws) (Own (place r k) g (stack_of ws) false given)
        by true is =
            by_flags (i.TestWord (rm.Register Ax) (masks.Register Ax)) (tested widths.Word g.ax g.ax g.flags) (chain_of true is) (λ q. refl)
            (Flags.fails_at_zero laws o g.ax g.flags a ∙ ap (λ z. not (stands o g.ax z)) (sym (eqb-true v 0 is)))
        by false is = by_flags (alu_number Cmp Ax v) (operated Cmp widths.Word g.ax v g.flags).flags (chain_of false is) (λ q. refl) (Flags.fails_where laws o g.ax v g.flags a lv)

    word_jumps : (o : Relation) (y : Place) (t : ℕ) → does_so r k ins e g n go a inv ws p sm ≡ jumped x.offsets x.sizes (test.Plain o widths.Word y) r (k + 1) t g.ax ws → Chain r (place r k) (Rows.unless (test.Plain o widths.Word y) (first r t)) (place r (k + 1)) → Fl n 8 (At r k g.ax ws) (Own (place r k) g (stack_of ws) false given)
    word_jumps o y t u c =
        let v0 = address x.offsets x.sizes y 0 in
        let d = λ (v : ℕ). At r (if stands o g.ax v then k + 1 else t) g.ax ws in
        reading r k ins e g n go a inv ws p sm widths.Word [] (closed (opens.Word (Operate Cmp) Ax (spot None (segment_of y))) v0) (GotoIf (fails o) (first r t) ∷ []) (place r (k + 1)) (found x.offsets x.sizes widths.Word y v0) d g compared u
        (Chains.settled x.code x.words x.offsets x.places (x.at r) x.sizes (λ s. opens.Word (Operate Cmp) Ax (spot None s)) y (GotoIf (fails o) (first r t) ∷ []) (place r k) (place r (k + 1)) c) (omega arith) (refl, refl)
        (λ at is z. Offers.alu_offered x.find x.words x.main x.handler given Cmp y v0 z g (stack_of ws) ∙ ap (λ q. reads q widths.Word (λ v. Own z (compared v) (stack_of ws) false given)) (place_found widths.Word y v0 at is))
        (λ w ow z c2 v lt m l. looser m 10 20 (d v) (Own z (compared v) (stack_of ws) false given) (omega arith)
        (branches r k ins e g n go a inv ws p sm (fails o) (stands o g.ax v) (Touch (Read widths.Word w) d) (u ∙ ap (λ q. loaded widths.Word q d) ow) t g.ax ws (compared v) (v, lt, refl) (Flags.fails_where laws o g.ax v g.flags a lt) refl a sm (stays (changes ins) g) z c2 m l))

    byte_jumps : (o : Relation) (y : Place) (t : ℕ) → just_right ≡ changes ins → does_so r k ins e g n go a inv ws p sm ≡ jumped x.offsets x.sizes (test.Plain o widths.Byte y) r (k + 1) t g.ax ws → Chain r (place r k) (Rows.unless (test.Plain o widths.Byte y) (first r t)) (place r (k + 1)) → Fl n 8 (At r k g.ax ws) (Own (place r k) g (stack_of ws) false given)
    byte_jumps o y t right u c =
        let v0 = address x.offsets x.sizes y 0 in
        let d = λ (v : ℕ). At r (if stands o g.ax v then k + 1 else t) g.ax ws in
        let ns = clear_byte Ch ∷ alu Cmp Ax Cx ∷ [] in
        let jump = GotoIf (fails o) (first r t) ∷ [] in
        reading r k ins e g n go a inv ws p sm widths.Byte [] (closed (loads_right widths.Byte (segment_of y)) v0) (plain ns ++ jump) (place r (k + 1)) (found x.offsets x.sizes widths.Byte y v0) d g (λ v. set_byte g Cl v) u
        (Chains.settled x.code x.words x.offsets x.places (x.at r) x.sizes (loads_right widths.Byte) y (plain ns ++ jump) (place r k) (place r (k + 1)) c) (omega arith) (refl, refl)
        (λ at is z. Offers.right_offered x.find x.words x.main x.handler given widths.Byte y v0 z g (stack_of ws) ∙ ap (λ q. reads q widths.Byte (λ v. Own z (set_byte g Cl v) (stack_of ws) false given)) (place_found widths.Byte y v0 at is))
        (λ w ow z c2 v lt m l.
        let h1 = set_byte (set_byte g Cl v) Ch 0 in
        let h = set_flags h1 (operated Cmp widths.Word h1.ax h1.cx h1.flags).flags in
        let cv : h1.cx ≡ v = omega (arith, lt) in
        let small : h1.cx < 65536 = omega (arith, lt) in
        let fails_so : holds (fails o) h.flags ≡ not (stands o g.ax v) = Flags.fails_where laws o g.ax h1.cx h1.flags a small ∙ ap (λ q. not (stands o g.ax q)) cv in
        let s = Engine.parted machine.Context next x.code x.find x.words x.entry x.main x.handler 20 (is_main given) x.offsets x.places given (x.at r) ns jump z (place r (k + 1)) c2 in
        finishes r k ins e g n go a inv ws p sm ns 10 m z s.0 (d v) (set_byte g Cl v) (stack_of ws) h (stack_of ws) (omega arith) s.1 (h1, stack_of ws, λ q. refl, (h, stack_of ws, λ q. refl, (refl, refl)))
        (λ j le. branches r k ins e g n go a inv ws p sm (fails o) (stands o g.ax v) (Touch (Read widths.Byte w) d) (u ∙ ap (λ q. loaded widths.Byte q d) ow) t g.ax ws h (v, lt, refl) fails_so refl a sm
        (subst (λ q. OnlyChanges q g h) right (refl, tt, refl, refl, refl, refl, refl)) s.0 s.2 j (omega (arith, l, le))))

    abbrev compared_low : (c : ℕ) → Working
    compared_low c = set_flags g (operated Cmp widths.Byte (g.ax % 256) c g.flags).flags

    low_constant_jumps : (o : Relation) (v t : ℕ) → does_so r k ins e g n go a inv ws p sm ≡ jumped x.offsets x.sizes (test.Low o (rights.Constant v)) r (k + 1) t g.ax ws → Chain r (place r k) (Rows.unless (test.Low o (rights.Constant v)) (first r t)) (place r (k + 1)) → Fl n 8 (At r k g.ax ws) (Own (place r k) g (stack_of ws) false given)
    low_constant_jumps o v t u c =
        let d = At r (if stands o (g.ax % 256) (v % 256) then k + 1 else t) g.ax ws in
        let h = compared_low (v % 256) in
        begins r k ins e g n go a inv ws p sm (low_number Cmp v) [] 10 c.0 d h (stack_of ws) u (c.0, c.1, c.2, refl) (omega arith) (h, stack_of ws, λ q. refl, (refl, refl))
        (branches r k ins e g n go a inv ws p sm (fails (without_sign o)) (stands o (g.ax % 256) (v % 256)) (Silent d) u t g.ax ws h refl (Flags.byte_fails_where laws o (g.ax % 256) (v % 256) g.flags (omega arith) (omega arith)) refl a sm (stays (changes ins) g) c.0 c.3)

    low_plain_jumps : (o : Relation) (y : Place) (t : ℕ) → does_so r k ins e g n go a inv ws p sm ≡ jumped x.offsets x.sizes (test.Low o (rights.Plain y)) r (k + 1) t g.ax ws → Chain r (place r k) (Rows.unless (test.Low o (rights.Plain y)) (first r t)) (place r (k + 1)) → Fl n 8 (At r k g.ax ws) (Own (place r k) g (stack_of ws) false given)
    low_plain_jumps o y t u c =
        let v0 = address x.offsets x.sizes y 0 in
        let d = λ (v : ℕ). At r (if stands o (g.ax % 256) v then k + 1 else t) g.ax ws in
        reading r k ins e g n go a inv ws p sm widths.Byte [] (closed (low_on (Operate Cmp) (segment_of y)) v0) (GotoIf (fails (without_sign o)) (first r t) ∷ []) (place r (k + 1)) (found x.offsets x.sizes widths.Byte y v0) d g compared_low u
        (Chains.settled x.code x.words x.offsets x.places (x.at r) x.sizes (low_on (Operate Cmp)) y (GotoIf (fails (without_sign o)) (first r t) ∷ []) (place r k) (place r (k + 1)) c) (omega arith) (refl, refl)
        (λ at is z. ap (λ q. reads q widths.Byte (λ v. Own z (compared_low v) (stack_of ws) false given)) (place_found widths.Byte y v0 at is))
        (λ w ow z c2 v lt m l. looser m 10 20 (d v) (Own z (compared_low v) (stack_of ws) false given) (omega arith)
        (branches r k ins e g n go a inv ws p sm (fails (without_sign o)) (stands o (g.ax % 256) v) (Touch (Read widths.Byte w) d) (u ∙ ap (λ q. loaded widths.Byte q d) ow) t g.ax ws (compared_low v) (v, lt, refl) (Flags.byte_fails_where laws o (g.ax % 256) v g.flags (omega arith) lt) refl a sm (stays (changes ins) g) z c2 m l))

    -- an instruction reads what lies at a place, and leaves flags by which a jump goes
    asks_there : (width : Width) (y : Place) (f : Segment → Open) (cond : Condition) (so : ℕ → Bool) (flags : ℕ → flags_type.Flags) (t : ℕ)
        → does_so r k ins e g n go a inv ws p sm ≡ loaded width (found x.offsets x.sizes width y (address x.offsets x.sizes y 0)) (λ v. At r (if so v then k + 1 else t) g.ax ws)
        → Chain r (place r k) (Rows.on_place f y ∷ GotoIf cond (first r t) ∷ []) (place r (k + 1))
        → ((z : ℕ) → offered x.find x.words x.main x.handler (closed (f (segment_of y)) (address x.offsets x.sizes y 0)) z g (stack_of ws) false given
        ≡ reads (place_in x.find (segment_of y) (address x.offsets x.sizes y 0) (bytes width)) width (λ v. Own z (set_flags g (flags v)) (stack_of ws) false given))
        → ((v : ℕ) → v < values width → holds cond (flags v) ≡ not (so v)) → Fl n 8 (At r k g.ax ws) (Own (place r k) g (stack_of ws) false given)
    asks_there width y f cond so flags t u c off tells =
        let v0 = address x.offsets x.sizes y 0 in
        let d = λ (v : ℕ). At r (if so v then k + 1 else t) g.ax ws in
        let after = λ (v : ℕ). set_flags g (flags v) in
        let jump = GotoIf cond (first r t) ∷ [] in
        reading r k ins e g n go a inv ws p sm width [] (closed (f (segment_of y)) v0) jump (place r (k + 1)) (found x.offsets x.sizes width y v0) d g after u
        (Chains.settled x.code x.words x.offsets x.places (x.at r) x.sizes f y jump (place r k) (place r (k + 1)) c) (omega arith) (refl, refl)
        (λ at is z. off z ∙ ap (λ q. reads q width (λ v. Own z (after v) (stack_of ws) false given)) (place_found width y v0 at is))
        (λ w ow z c2 v lt m l. looser m 10 20 (d v) (Own z (after v) (stack_of ws) false given) (omega arith)
        (branches r k ins e g n go a inv ws p sm cond (so v) (Touch (Read width w) d) (u ∙ ap (λ q. loaded width q d) ow) t g.ax ws (after v) (v, lt, refl) (tells v lt) refl a sm (stays (changes ins) g) z c2 m l))

    named_byte_jumps : (o : Relation) (y : Place) (c t : ℕ) → does_so r k ins e g n go a inv ws p sm ≡ jumped x.offsets x.sizes (test.Named o widths.Byte y c) r (k + 1) t g.ax ws → Chain r (place r k) (Rows.unless (test.Named o widths.Byte y c) (first r t)) (place r (k + 1)) → Fl n 8 (At r k g.ax ws) (Own (place r k) g (stack_of ws) false given)
    named_byte_jumps o y c t u s =
        asks_there widths.Byte y (compares_byte c) (fails (without_sign o)) (λ v. stands o v (c % 256)) (λ v. (operated Cmp widths.Byte v (c % 256) g.flags).flags) t u s (λ z. refl)
        (λ v l. Flags.byte_fails_where laws o v (c % 256) g.flags l (omega arith))

    named_word_jumps : (o : Relation) (y : Place) (c t : ℕ) → c < 65536 → does_so r k ins e g n go a inv ws p sm ≡ jumped x.offsets x.sizes (test.Named o widths.Word y c) r (k + 1) t g.ax ws → Chain r (place r k) (Rows.unless (test.Named o widths.Word y c) (first r t)) (place r (k + 1)) → Fl n 8 (At r k g.ax ws) (Own (place r k) g (stack_of ws) false given)
    named_word_jumps o y c t small u s =
        let whole : c ≡ c % 65536 = omega (arith, small) in
        asks_there widths.Word y (compares_word c) (fails o) (λ v. stands o v (c % 65536)) (λ v. (operated Cmp widths.Word v c g.flags).flags) t u s (λ z. refl)
        (λ v l. Flags.fails_where laws o v c g.flags l small ∙ ap (λ q. not (stands o v q)) whole)

    odd_named_jumps : (y : Place) (t : ℕ) → does_so r k ins e g n go a inv ws p sm ≡ jumped x.offsets x.sizes (test.OddNamed y) r (k + 1) t g.ax ws → Chain r (place r k) (Rows.unless (test.OddNamed y) (first r t)) (place r (k + 1)) → Fl n 8 (At r k g.ax ws) (Own (place r k) g (stack_of ws) false given)
    odd_named_jumps y t u s =
        asks_there widths.Byte y (tests_byte 1) conditions.Equal is_odd (λ v. tested widths.Byte v 1 g.flags) t u s (λ z. refl)
        (λ v l. let e : v ≡ v % 256 = omega (arith, l) in Flags.no_bit laws widths.Byte v 1 g.flags ∙ ap (λ q. nat_eq (bit_and q 1) 0) e ∙ bit_is v)

  module _ (r : Routine) (k : ℕ) (ins : Instruction) (e : slice_get (x.icode r) k ≡ Some ins) (g : Working) (n : ℕ) (go : Later n) (a : g.ax < 65536) (inv : Inv g) where
    abbrev DoesSo : List Word → Action Access machine.Context
    DoesSo ws = run x.offsets x.sizes (x.icode r) ins r (k + 1) g.ax ws

    top_jumps : (o : Relation) (t : ℕ) → just_right ≡ changes ins → (ws : List Word) (p : P (At r k g.ax ws)) (sm : Small ws) → DoesSo ws ≡ jumped x.offsets x.sizes (test.Top o) r (k + 1) t g.ax ws → Chain r (place r k) (Rows.unless (test.Top o) (first r t)) (place r (k + 1)) → Fl n 8 (At r k g.ax ws) (Own (place r k) g (stack_of ws) false given)
    top_jumps o t right [] p sm u c = bad r k ins e g n go a inv [] p sm u
    top_jumps o t right (Return q ∷ ws) p sm u c = bad r k ins e g n go a inv (Return q ∷ ws) p sm u
    top_jumps o t right (Value v ∷ ws) p sm u c =
        let h1 = set_word g Cx v in
        let h = set_flags h1 (operated Cmp widths.Word v h1.ax h1.flags).flags in
        let d = At r (if stands o v g.ax then k + 1 else t) g.ax ws in
        begins r k ins e g n go a inv (Value v ∷ ws) p sm (pop Cx) (alu Cmp Cx Ax ∷ []) 10 c.3.0 d h (stack_of ws) u (c.0, c.1, c.2, (c.3.0, c.3.1, c.3.2, refl)) (omega arith) (h1, stack_of ws, λ q. refl, (h, stack_of ws, λ q. refl, (refl, refl)))
        (branches r k ins e g n go a inv (Value v ∷ ws) p sm (fails o) (stands o v g.ax) (Silent d) u t g.ax ws h refl (Flags.fails_where laws o v g.ax h1.flags sm.0 a) refl a sm.1
        (subst (λ q. OnlyChanges q g h) right (refl, tt, refl, refl, refl, refl, refl)) c.3.0 c.3.3)

    low_top_jumps : (o : Relation) (t : ℕ) → just_right ≡ changes ins → (ws : List Word) (p : P (At r k g.ax ws)) (sm : Small ws) → DoesSo ws ≡ jumped x.offsets x.sizes (test.Low o rights.Top) r (k + 1) t g.ax ws → Chain r (place r k) (Rows.unless (test.Low o rights.Top) (first r t)) (place r (k + 1)) → Fl n 8 (At r k g.ax ws) (Own (place r k) g (stack_of ws) false given)
    low_top_jumps o t right [] p sm u c = bad r k ins e g n go a inv [] p sm u
    low_top_jumps o t right (Return q ∷ ws) p sm u c = bad r k ins e g n go a inv (Return q ∷ ws) p sm u
    low_top_jumps o t right (Value v ∷ ws) p sm u c =
        let h1 = set_word g Cx v in
        let h = set_flags h1 (operated Cmp widths.Byte (v % 256) (g.ax % 256) h1.flags).flags in
        let d = At r (if stands o (v % 256) (g.ax % 256) then k + 1 else t) g.ax ws in
        begins r k ins e g n go a inv (Value v ∷ ws) p sm (pop Cx) (byte_alu Cmp Cl Al ∷ []) 10 c.3.0 d h (stack_of ws) u (c.0, c.1, c.2, (c.3.0, c.3.1, c.3.2, refl)) (omega arith) (h1, stack_of ws, λ q. refl, (h, stack_of ws, λ q. refl, (refl, refl)))
        (branches r k ins e g n go a inv (Value v ∷ ws) p sm (fails (without_sign o)) (stands o (v % 256) (g.ax % 256)) (Silent d) u t g.ax ws h refl (Flags.byte_fails_where laws o (v % 256) (g.ax % 256) h1.flags (omega arith) (omega arith)) refl a sm.1
        (subst (λ q. OnlyChanges q g h) right (refl, tt, refl, refl, refl, refl, refl)) c.3.0 c.3.3)

    test_jumps : (t : Test) (target : ℕ) → of_test t ≡ changes ins → asked_constant t < 65536 → (ws : List Word) (p : P (At r k g.ax ws)) (sm : Small ws)
        → DoesSo ws ≡ jumped x.offsets x.sizes t r (k + 1) target g.ax ws → Chain r (place r k) (Rows.unless t (first r target)) (place r (k + 1)) → Fl n 8 (At r k g.ax ws) (Own (place r k) g (stack_of ws) false given)
    test_jumps test.Odd target right num ws p sm u c = odd_jumps r k ins e g n go a inv ws p sm target u c
    test_jumps (test.Constant o v) target right num ws p sm u c = constant_jumps r k ins e g n go a inv ws p sm o v target num u c
    test_jumps (test.Plain o widths.Byte y) target right num ws p sm u c = byte_jumps r k ins e g n go a inv ws p sm o y target right u c
    test_jumps (test.Plain o widths.Word y) target right num ws p sm u c = word_jumps r k ins e g n go a inv ws p sm o y target u c
    test_jumps (test.Low o (rights.Constant v)) target right num ws p sm u c = low_constant_jumps r k ins e g n go a inv ws p sm o v target u c
    test_jumps (test.Low o (rights.Plain y)) target right num ws p sm u c = low_plain_jumps r k ins e g n go a inv ws p sm o y target u c
    test_jumps (test.Low o rights.Top) target right num ws p sm u c = low_top_jumps o target right ws p sm u c
    test_jumps (test.Top o) target right num ws p sm u c = top_jumps o target right ws p sm u c
    test_jumps (test.Named o widths.Byte y v) target right num ws p sm u c = named_byte_jumps r k ins e g n go a inv ws p sm o y v target u c
    test_jumps (test.Named o widths.Word y v) target right num ws p sm u c = named_word_jumps r k ins e g n go a inv ws p sm o y v target num u c
    test_jumps (test.OddNamed y) target right num ws p sm u c = odd_named_jumps r k ins e g n go a inv ws p sm y target u c

  -- ---- a table

  abbrev compared_with : Working → ℕ → Working
  compared_with g m = set_flags g (operated Cmp widths.Word g.ax (m % 65536) g.flags).flags

  switch_row : (m : ℕ) → RowFollows (op.Switch m)
  switch_row m r k e g n go a inv ws p sm = by (cases_lt g.ax m)
    where
      c : Chain r (place r k) (row (first r) x.part (x.saves r) (k + 1) (op.Switch m)) (place r (k + 1))
      c = rows_stand r k (op.Switch m) e

      few_cases : m < 65536
      few_cases = omega (arith, Tables.entry_small x all rows_stand r k m e m (omega arith))

      limit_is : m % 65536 ≡ m
      limit_is = omega (arith, few_cases)

      outside : (nat_lt g.ax m ≡ false) → holds conditions.NotBelow (compared_with g m).flags ≡ true
      outside l = ap not (Flags.cmp_carry laws g.ax (m % 65536) g.flags ∙ ap (nat_lt g.ax) limit_is ∙ l)

      inside : (nat_lt g.ax m ≡ true) → holds conditions.NotBelow (compared_with g m).flags ≡ false
      inside l = ap not (Flags.cmp_carry laws g.ax (m % 65536) g.flags ∙ ap (nat_lt g.ax) limit_is ∙ l)

      past : m ≤ g.ax → Fl n 8 (At r k g.ax ws) (Own (place r k) g (stack_of ws) false given)
      past l =
          let d = At r (k + 1 + m) g.ax ws in
          let u = ap (λ (b : Bool). if b then switched (slice_get (x.icode r) (k + 1 + g.ax)) r (k + 1 + suc g.ax) g.ax ws else Silent (At r (k + 1 + m) g.ax ws)) (le-ltb g.ax m l) in
          begins r k (op.Switch m) e g n go a inv ws p sm (alu_number Cmp Ax (m % 65536)) [] 10 c.0 d (compared_with g m) (stack_of ws) u (c.0, c.1, c.2, refl) (omega arith) ((compared_with g m), stack_of ws, λ q. refl, (refl, refl))
          (λ j less. Engine.goes_if machine.Context next x.code x.find x.words x.entry x.main x.handler 20 (is_main given) x.offsets x.places given laws.inverse conditions.NotBelow true j 8 c.0 c.3.0 (place r (k + 1 + m)) (first r (k + 1 + m)) d (compared_with g m) (stack_of ws) (outside (le-ltb g.ax m l)) c.3.1 c.3.2
          (λ j1 le. lands r k (op.Switch m) e g n go a inv ws p sm j1 (omega (arith, le, less)) (Silent d) u r (k + 1 + m) g.ax (place r (k + 1 + m)) ws (compared_with g m) (stack_of ws) refl refl refl refl a sm (refl, refl, refl, tt, refl, refl, refl)))

      chosen : g.ax < m → Fl n 8 (At r k g.ax ws) (Own (place r k) g (stack_of ws) false given)
      chosen l =
          let t = Tables.case_at x all rows_stand r k m e g.ax l in
          let target = k + 1 + suc g.ax + t.0 in
          let d = At r target g.ax ws in
          let u = ap (λ (b : Bool). if b then switched (slice_get (x.icode r) (k + 1 + g.ax)) r (k + 1 + suc g.ax) g.ax ws else Silent (At r (k + 1 + m) g.ax ws)) (lt-ltb g.ax m l)
          ∙ ap (λ z. switched z r (k + 1 + suc g.ax) g.ax ws) t.1 in
          let h1 = set_word (compared_with g m) Bx g.ax in
          let h2 = word_result Bx h1 (shifted shifts.Shl widths.Word g.ax 1 h1.flags) in
          let rest = c.3.3 in
          let jump = rest.3.3 in
          let table = place r (k + 1) in
          let small = Tables.entry_small x all rows_stand r k m e g.ax (omega (arith, l)) in
          let doubled : h2.bx ≡ 2 * g.ax = laws.shift.shl widths.Word g.ax 1 h1.flags a ∙ Tables.twice g.ax table small in
          let offset : (h2.bx + table) % 65536 ≡ place r (k + 1 + g.ax) = ap (λ z. (z + table) % 65536) doubled ∙ Tables.turned_sum (2 * g.ax) table small ∙ sym (Tables.entry_at x all rows_stand r k m e g.ax (omega (arith, l))) in
          let entry = rows_stand r (k + 1 + g.ax) (op.Case t.0) t.1 in
          let to : k + 1 + g.ax + 1 + t.0 ≡ target = Tables.index_sum k g.ax t.0 in
          begins r k (op.Switch m) e g n go a inv ws p sm (alu_number Cmp Ax (m % 65536)) [] 13 c.0 d (compared_with g m) (stack_of ws) u (c.0, c.1, c.2, refl) (omega arith) ((compared_with g m), stack_of ws, λ q. refl, (refl, refl))
          (λ j less. Engine.goes_if machine.Context next x.code x.find x.words x.entry x.main x.handler 20 (is_main given) x.offsets x.places given laws.inverse conditions.NotBelow false j 11 c.0 c.3.0 (place r (k + 1 + m)) (first r (k + 1 + m)) d (compared_with g m) (stack_of ws) (inside (lt-ltb g.ax m l)) c.3.1 c.3.2
          (λ j1 le. looser j1 11 11 d (Own c.3.0 (compared_with g m) (stack_of ws) false given) (omega arith)
          (Engine.runs machine.Context next x.code x.find x.words x.entry x.main x.handler 20 (is_main given) x.offsets x.places given (x.at r) (copy Bx Ax ∷ i.ShiftWord shifts.Shl (rm.Register Bx) counts.One ∷ []) j1 9 c.3.0 rest.3.0 d (compared_with g m) (stack_of ws) h2 (stack_of ws)
          (h1, stack_of ws, λ q. refl, (h2, stack_of ws, λ q. refl, (refl, refl)))
          (rest.0, rest.1, rest.2, (rest.3.0, rest.3.1, rest.3.2, refl))
          (λ j2 le2. leaps j2 rest.3.0 jump.0 (place r target) table h2 d jump.1 jump.2 (ap x.words offset ∙ entry.1.0 ∙ ap (λ z. Some (place r z)) to)
          (λ j3 le3. lands r k (op.Switch m) e g n go a inv ws p sm j3 (omega (arith, le, less, le2, le3)) (Silent d) u r target g.ax (place r target) ws h2 (stack_of ws) refl refl refl refl a sm (refl, refl, refl, tt, refl, refl, refl))))))
        where
          -- the jump through the table
          leaps : (j z q to table : ℕ) (h : Working) (d : machine.Context) → Rattle.select.specs.Linked.StandsAt x.code z (i.JumpTo (rm.Memory (Rattle.i86_table.specs.Open.spot_memory (spot (Some bases.Bx) segments.Cs) table))) q → q < 65536
              → x.words ((h.bx + table) % 65536) ≡ Some to → ((m : ℕ) → m ≤ j → Fl m 8 d (Own to h (stack_of ws) false given)) → Fl j 9 d (Own z h (stack_of ws) false given)
          leaps zero z q to table h d s low is go2 = tt
          leaps (suc j) z q to table h d s low is go2 =
              Engine.alone machine.Context next x.code x.find x.words x.entry x.main x.handler 20 (is_main given) x.offsets x.places given j 8 d (Own z h (stack_of ws) false given) (Own to h (stack_of ws) false given)
              (Engine.stands machine.Context next x.code x.find x.words x.entry x.main x.handler 20 (is_main given) x.offsets x.places given z q (i.JumpTo (rm.Memory (Rattle.i86_table.specs.Open.spot_memory (spot (Some bases.Bx) segments.Cs) table))) h (stack_of ws) false s low ∙ ap (λ o. takes o (λ place. Own place h (stack_of ws) false given)) is)
              (go2 j (omega arith))

      by : (g.ax < m) ⊎ (m ≤ g.ax) → Fl n 8 (At r k g.ax ws) (Own (place r k) g (stack_of ws) false given)
      by (inl l) = chosen l
      by (inr l) = past l

  -- ---- the end of a round

  -- a jump follows the store, or none where the sum never stays
  asks_or_not : (width : Width) (s : ℕ) → s < 65536 → (r : Routine) (z t q : ℕ) → Chain r z (Rows.again width s t) q → ((s < values width) × Chain r z (GotoIf (Rows.stays_in_range s) t ∷ []) q) ⊎ ((values width ≤ s) × (z ≡ q))
  asks_or_not widths.Word s l r z t q c = inl (l, c)
  asks_or_not widths.Byte s l r z t q c = by (nat_le 256 s) refl c
    where
      by : (b : Bool) → nat_le 256 s ≡ b → Chain r z (if b then [] else GotoIf (Rows.stays_in_range s) t ∷ []) q → ((s < 256) × Chain r z (GotoIf (Rows.stays_in_range s) t ∷ []) q) ⊎ ((256 ≤ s) × (z ≡ q))
      by true e c = inr (leb-true 256 s e, c)
      by false e c = inl (leb-false 256 s e, c)

  module _ (width : Width) (y : Place) (s m : ℕ) (r : Routine) (k : ℕ) (e : slice_get (x.icode r) k ≡ Some (op.Next width y s m)) (g : Working) (n : ℕ) (go : Later n) (a : g.ax < 65536) (inv : Inv g) (ws : List Word) (p : P (At r k g.ax ws)) (sm : Small ws) where
    -- the sum left the range of its width
    abbrev sum_left : Bool
    sum_left = nat_lt (low width (g.ax + s)) s

    abbrev new_accumulator : ℕ
    new_accumulator = with_low width g.ax (g.ax + s)

    abbrev round_at : ℕ
    round_at = k + 1 - m

    abbrev then_at : Bool → machine.Context
    then_at b = At r (if b then k + 1 else round_at) new_accumulator ws

    -- after the store
    module _ (at : Where) (is : found x.offsets x.sizes width y (address x.offsets x.sizes y 0) ≡ Some at) (h : Working) (ax : h.ax ≡ new_accumulator) (keep : OnlyChanges just_accumulator g h) where
      abbrev written : Action Access machine.Context
      written = Touch (Write width at (low width (g.ax + s))) (λ _. then_at sum_left)

      writes_so : does_so r k (op.Next width y s m) e g n go a inv ws p sm ≡ written
      writes_so = ap (λ o. stored width o (g.ax + s) (then_at sum_left)) is

      small : new_accumulator < 65536
      small = Rounds.with_low_small width g.ax (g.ax + s) a

      -- with a jump, and without
      asks : holds (Rows.stays_in_range s) h.flags ≡ not sum_left → (z : ℕ) → Chain r z (GotoIf (Rows.stays_in_range s) (first r round_at) ∷ []) (place r (k + 1)) → (v : ℕ) → v < answers (Write width at (low width (g.ax + s))) → (j : ℕ) → j < n
          → Fl j 20 (then_at sum_left) (Own z h (stack_of ws) false given)
      asks tells z c v lt j l =
          looser j 10 20 (then_at sum_left) (Own z h (stack_of ws) false given) (omega arith)
          (branches r k (op.Next width y s m) e g n go a inv ws p sm (Rows.stays_in_range s) sum_left written writes_so round_at new_accumulator ws h (v, lt, refl) tells ax small sm keep z c j l)

      asks_nothing : sum_left ≡ true → (z : ℕ) → z ≡ place r (k + 1) → (v : ℕ) → v < answers (Write width at (low width (g.ax + s))) → (j : ℕ) → j < n → Fl j 20 (then_at sum_left) (Own z h (stack_of ws) false given)
      asks_nothing past z c v lt j l =
          subst (λ (b : Bool). Fl j 20 (then_at b) (Own z h (stack_of ws) false given)) (sym past)
          (looser j 8 20 (then_at true) (Own z h (stack_of ws) false given) (omega arith)
          (lands r k (op.Next width y s m) e g n go a inv ws p sm j l written writes_so r (k + 1) new_accumulator z ws h (stack_of ws) (v, lt, ap then_at past) c refl ax small sm keep))

      goes_on : (s < values width → holds (Rows.stays_in_range s) h.flags ≡ not sum_left) → (z : ℕ) → Chain r z (Rows.again width s (first r round_at)) (place r (k + 1)) → (v : ℕ) → v < answers (Write width at (low width (g.ax + s))) → (j : ℕ) → j < n
          → Fl j 20 (then_at sum_left) (Own z h (stack_of ws) false given)
      goes_on tells z c v lt j l = by (asks_or_not width s ((all.made r).numbered k (op.Next width y s m) e) r z (first r round_at) (place r (k + 1)) c)
        where
          by : ((s < values width) × Chain r z (GotoIf (Rows.stays_in_range s) (first r round_at) ∷ []) (place r (k + 1))) ⊎ ((values width ≤ s) × (z ≡ place r (k + 1))) → Fl j 20 (then_at sum_left) (Own z h (stack_of ws) false given)
          by (inl c) = asks (tells c.0) z c.1 v lt j l
          by (inr c) = asks_nothing (lt-ltb (low width (g.ax + s)) s (let b = Rounds.low_below width (g.ax + s) in omega (arith, b, c.0))) z c.1 v lt j l

    writes_then : (o : Option Where) → found x.offsets x.sizes width y (address x.offsets x.sizes y 0) ≡ o → Fl n 8 (At r k g.ax ws) (Own (place r k) g (stack_of ws) false given)
    writes_then None is = bad r k (op.Next width y s m) e g n go a inv ws p sm (ap (λ o. stored width o (g.ax + s) (then_at sum_left)) is)
    writes_then (Some at) is =
        let v0 = address x.offsets x.sizes y 0 in
        let w = Rounds.step_gives laws x.find x.words x.main x.handler given width s g (stack_of ws) a in
        let h = w.0 in
        let c = rows_stand r k (op.Next width y s m) e in
        let after = Rows.again width s (first r round_at) in
        let small : h.ax < 65536 = subst (λ z. z < 65536) (sym w.2) (Rounds.with_low_small width g.ax (g.ax + s) a) in
        let taken : output_takes width h ≡ low width (g.ax + s) = takes_low width h small ∙ ap (low width) w.2 ∙ Rounds.low_kept width g.ax (g.ax + s) in
        touching r k (op.Next width y s m) e g n go a inv ws p sm (Rows.step_added width s ∷ []) (closed (stores width None (segment_of y)) v0) after (place r (k + 1)) (Write width at (low width (g.ax + s))) (λ _. then_at sum_left) h (stack_of ws) (λ _. h)
        (writes_so at is h w.2 w.4)
        (c.0, c.1, c.2, Chains.settled x.code x.words x.offsets x.places (x.at r) x.sizes (stores width None) y after c.0 (place r (k + 1)) c.3) (omega arith) w.1
        (λ z. Offers.store_offered x.find x.words x.main x.handler given width y None v0 z h (stack_of ws)
        ∙ ap (λ q. writes q width (output_takes width h) (Own z h (stack_of ws) false given)) (place_found width y v0 at is ∙ is)
        ∙ ap (λ q. Does (Touch (Write width at q) (λ _. Own z h (stack_of ws) false given))) taken)
        (goes_on at is h w.2 w.4 w.3)

  next_row : (width : Width) (y : Place) (s m : ℕ) → RowFollows (op.Next width y s m)
  next_row width y s m r k e g n go a inv ws p sm = writes_then width y s m r k e g n go a inv ws p sm (found x.offsets x.sizes width y (address x.offsets x.sizes y 0)) refl

  -- ---- calls, interrupts, ends

  leave_row : RowFollows op.Leave
  leave_row r k e g n go a inv [] p sm = bad r k op.Leave e g n go a inv [] p sm refl
  leave_row r k e g n go a inv (Value v ∷ ws) p sm = bad r k op.Leave e g n go a inv (Value v ∷ ws) p sm refl
  leave_row r k e g n go a inv (Return q ∷ ws) p sm =
      let c = rows_stand r k op.Leave e in
      let d = At q.routine q.index g.ax ws in
      by n refl c d
    where
      by : (m : ℕ) → m ≡ n → Chain r (place r k) (Plain i.Return ∷ []) (place r (k + 1)) → (d : machine.Context) → Fl m 8 (At r k g.ax (Return q ∷ ws)) (Own (place r k) g (stack_of (Return q ∷ ws)) false given)
      by zero is c d = tt
      by (suc m) is c d =
          let l : m < n = omega (arith, is) in
          let d = At q.routine q.index g.ax ws in
          Engine.joint machine.Context next x.code x.find x.words x.entry x.main x.handler 20 (is_main given) x.offsets x.places given m 8 (At r k g.ax (Return q ∷ ws)) d (Own (place r k) g (stack_of (Return q ∷ ws)) false given) (Own (place q.routine q.index) g (stack_of ws) false given) (acts r k op.Leave e g n go a inv (Return q ∷ ws) p sm (Silent d) refl)
          (Engine.stands machine.Context next x.code x.find x.words x.entry x.main x.handler 20 (is_main given) x.offsets x.places given (place r k) c.0 i.Return g (stack_of (Return q ∷ ws)) false c.1 c.2)
          (looser m 8 20 d (Own (place q.routine q.index) g (stack_of ws) false given) (omega arith)
          (lands r k op.Leave e g n go a inv (Return q ∷ ws) p sm m l (Silent d) refl q.routine q.index g.ax (place q.routine q.index) ws g (stack_of ws) refl refl refl refl a sm.1 (stays none g)))

  invoke_row : (q : ℕ) → RowFollows (op.Invoke q)
  invoke_row q r k e g n go a inv ws p sm = by n refl
    where
      by : (m : ℕ) → m ≡ n → Fl m 8 (At r k g.ax ws) (Own (place r k) g (stack_of ws) false given)
      by zero is = tt
      by (suc m) is =
          let l : m < n = omega (arith, is) in
          let ws2 = Return (record { routine = r; index = k + 1 }) ∷ ws in
          let d = At (Procedure q) 0 g.ax ws2 in
          let c = rows_stand r k (op.Invoke q) e in
          let some = room_for r k (op.Invoke q) e g n go a inv ws p sm d refl (omega (arith, Stacks.stack_length place base ws)) in
          let begins_at = all.callable r k (op.Invoke q) e in
          let far = (0 + (slice_index x.places (x.part q) + 65536 - c.0 % 65536) % 65536) % 65536 in
          let low_call = all.low (Procedure q) (first (Procedure q) 0) in
          let reached : further c.0 far ≡ place (Procedure q) 0 = distance c.0 (slice_index x.places (x.part q)) (place (Procedure q) 0) c.2 begins_at low_call in
          let at_m : c.0 % 65536 ≡ place r (k + 1) = ends_at c.0 (place r (k + 1)) c.2 c.3 in
          let small_k : place r (k + 1) < 65536 = all.low r (first r (k + 1)) in
          let off = Engine.stands machine.Context next x.code x.find x.words x.entry x.main x.handler 20 (is_main given) x.offsets x.places given (place r k) c.0 (i.Call far) g (stack_of ws) false c.1 c.2
          ∙ pushes_is (stack_of ws) (Own (further c.0 far) g (c.0 % 65536 ∷ stack_of ws) false given) some
          ∙ ap (λ z. Does (Silent (Own z g (c.0 % 65536 ∷ stack_of ws) false given))) reached
          ∙ ap (λ z. Does (Silent (Own (place (Procedure q) 0) g (z ∷ stack_of ws) false given))) at_m in
          Engine.joint machine.Context next x.code x.find x.words x.entry x.main x.handler 20 (is_main given) x.offsets x.places given m 8 (At r k g.ax ws) d (Own (place r k) g (stack_of ws) false given) (Own (place (Procedure q) 0) g (place r (k + 1) ∷ stack_of ws) false given) (acts r k (op.Invoke q) e g n go a inv ws p sm (Silent d) refl) off
          (looser m 8 20 d (Own (place (Procedure q) 0) g (place r (k + 1) ∷ stack_of ws) false given) (omega arith)
          (lands r k (op.Invoke q) e g n go a inv ws p sm m l (Silent d) refl (Procedure q) 0 g.ax (place (Procedure q) 0) ws2 g (stack_of ws2) refl refl refl refl a (small_k, sm) (stays none g)))
        where
          distance : (m s t : ℕ) → m < 65536 → s ≡ t → t < 65536 → (m + (0 + (s + 65536 - m % 65536) % 65536) % 65536) % 65536 ≡ t
          distance m s t l is lt = omega (arith, l, is, lt)

          ends_at : (m t : ℕ) → m < 65536 → m ≡ t → m % 65536 ≡ t
          ends_at m t l is = omega (arith, l, is)

  is_main_here : (c : machine.Context) (y : Action Access machine.Context) (d : machine.Context) (p : P c) → next c ≡ y → (y ≡ Enable d) ⊎ (y ≡ Halt d) → is_main given ≡ false → ⊥
  is_main_here c y d p e (inl is) off = subst (λ (b : Bool). Allowed b (Enable d)) off (allowed c (Enable d) p (e ∙ is))
  is_main_here c y d p e (inr is) off = subst (λ (b : Bool). Allowed b (Halt d)) off (allowed c (Halt d) p (e ∙ is))

  enable_row : RowFollows op.Enable
  enable_row r k e g n go a inv ws p sm = by n refl
    where
      by : (m : ℕ) → m ≡ n → Fl m 8 (At r k g.ax ws) (Own (place r k) g (stack_of ws) false given)
      by zero is = tt
      by (suc m) is =
          let l : m < n = omega (arith, is) in
          let d = At r (k + 1) g.ax ws in
          let c = rows_stand r k op.Enable e in
          let u = acts r k op.Enable e g n go a inv ws p sm (Enable d) refl in
          Arming.enables machine.Context next x.code x.find x.words x.entry x.main x.handler 20 x.offsets x.places given m 7 (place r k) c.0 c.3.0 (At r k g.ax ws) d g (stack_of ws) (is_main_here (At r k g.ax ws) (Enable d) d p u (inl refl)) u c.1 c.2 c.3.1 c.3.2
          (looser m 8 20 d (Own c.3.0 (with_interrupts g) (stack_of ws) false given) (omega arith)
          (lands r k op.Enable e g n go a inv ws p sm m l (Enable d) refl r (k + 1) g.ax c.3.0 ws (with_interrupts g) (stack_of ws) refl c.3.3 refl refl a sm (stays none g)))

  halt_row : RowFollows op.Halt
  halt_row r k e g n go a inv ws p sm = by n refl
    where
      by : (m : ℕ) → m ≡ n → Fl m 8 (At r k g.ax ws) (Own (place r k) g (stack_of ws) false given)
      by zero is = tt
      by (suc m) is =
          let l : m < n = omega (arith, is) in
          let d = At r (k + 1) g.ax ws in
          let c = rows_stand r k op.Halt e in
          let u = acts r k op.Halt e g n go a inv ws p sm (Halt d) refl in
          Arming.halts machine.Context next x.code x.find x.words x.entry x.main x.handler 20 x.offsets x.places given m 7 (place r k) c.0 c.3.0 (At r k g.ax ws) d g (stack_of ws) (is_main_here (At r k g.ax ws) (Halt d) d p u (inr refl)) u c.1 c.2 c.3.1 c.3.2
          (looser m 8 20 d (Own c.3.0 (with_interrupts g) (stack_of ws) false given) (omega arith)
          (lands r k op.Halt e g n go a inv ws p sm m l (Halt d) refl r (k + 1) g.ax c.3.0 ws (with_interrupts g) (stack_of ws) refl c.3.3 refl refl a sm (stays none g)))

  disable_row : RowFollows op.Disable
  disable_row r k e g n go a inv ws p sm = by n refl
    where
      by : (m : ℕ) → m ≡ n → Fl m 8 (At r k g.ax ws) (Own (place r k) g (stack_of ws) false given)
      by zero is = tt
      by (suc m) is =
          let l : m < n = omega (arith, is) in
          let d = At r (k + 1) g.ax ws in
          let c = rows_stand r k op.Disable e in
          let h = set_flags g (with_flag (flag_bit 512) false g.flags) in
          Engine.disable machine.Context next x.code x.find x.words x.entry x.main x.handler 20 (is_main given) x.offsets x.places given m 8 (At r k g.ax ws) d (Own (place r k) g (stack_of ws) false given) (Own c.0 h (stack_of ws) false given) (acts r k op.Disable e g n go a inv ws p sm (Disable d) refl)
          (Engine.stands machine.Context next x.code x.find x.words x.entry x.main x.handler 20 (is_main given) x.offsets x.places given (place r k) c.0 i.DisableInterrupts g (stack_of ws) false c.1 c.2)
          (looser m 8 20 d (Own c.0 h (stack_of ws) false given) (omega arith)
          (lands r k op.Disable e g n go a inv ws p sm m l (Disable d) refl r (k + 1) g.ax c.0 ws h (stack_of ws) refl c.3 refl refl a sm (stays none g)))

  -- an interrupt procedure ends with nothing of its own on the stack
  abbrev pub Ends : Type 0
  Ends = (n : ℕ) (r : Routine) (k : ℕ) (g : Working) → P (At r k g.ax []) → Inv g → next (At r k g.ax []) ≡ Over → slice_get (x.icode r) k ≡ Some op.Finish
      → Chain r (place r k) (row (first r) x.part (x.saves r) (k + 1) op.Finish) (place r (k + 1)) → Fl n 8 (At r k g.ax []) (Own (place r k) g base false given)

  module _ (ends : Ends) where
    finish_row : RowFollows op.Finish
    finish_row r k e g n go a inv [] p sm = ends n r k g p inv (acts r k op.Finish e g n go a inv [] p sm Over refl) e (rows_stand r k op.Finish e)
    finish_row r k e g n go a inv (w ∷ ws) p sm = bad r k op.Finish e g n go a inv (w ∷ ws) p sm refl

    case_row : (m : ℕ) → RowFollows (op.Case m)
    case_row m r k e g n go a inv ws p sm = bad r k (op.Case m) e g n go a inv ws p sm refl

    row_follows : (ins : Instruction) → RowFollows ins
    row_follows (op.Constant c) = load_constant_row c
    row_follows (op.Locate y) = locate_row y
    row_follows (op.LocateAt y) = locate_at_row y
    row_follows (op.Load width y) = load_row width y
    row_follows (op.LoadAt width y) = load_at_row width y
    row_follows (op.LoadThere width) = load_there_row width
    row_follows (op.Low low high) = low_byte_row low high
    row_follows op.Push = push_row
    row_follows (op.Pick m) = pick_row m
    row_follows (op.Drop m) = drop_row m
    row_follows (op.Unary o width) = unary_row o width
    row_follows (op.Binary o width) = binary_row o width
    row_follows (op.BinaryConstant o width c) = constant_row o width c
    row_follows (op.BinaryPlain o width read y) = plain_row o width read y
    row_follows (op.Store width y) = store_row width y
    row_follows (op.StoreAt width y) = store_at_row width y
    row_follows (op.StoreThere width) = store_there_row width
    row_follows (op.StoreTop width y) = store_top_row width y
    row_follows (op.StoreConstantAt width y c) = store_constant_row width y c
    row_follows (op.Send width) = send_row width
    row_follows (op.SendTo width port) = send_to_row width port
    row_follows (op.Receive width) = receive_row width
    row_follows (op.ReceiveFrom width port) = receive_from_row width port
    row_follows (op.Ahead m) = λ r k e g n go a inv ws p sm. jumps r k (op.Ahead m) e g n go a inv ws p sm (k + 1 + m) refl (rows_stand r k (op.Ahead m) e)
    row_follows (op.AheadUnless t m) = λ r k e g n go a inv ws p sm. test_jumps r k (op.AheadUnless t m) e g n go a inv t (k + 1 + m) refl ((all.made r).numbered k (op.AheadUnless t m) e) ws p sm refl (rows_stand r k (op.AheadUnless t m) e)
    row_follows (op.Back m) = λ r k e g n go a inv ws p sm. jumps r k (op.Back m) e g n go a inv ws p sm (k + 1 - m) refl (rows_stand r k (op.Back m) e)
    row_follows (op.BackUnless t m) = λ r k e g n go a inv ws p sm. test_jumps r k (op.BackUnless t m) e g n go a inv t (k + 1 - m) refl ((all.made r).numbered k (op.BackUnless t m) e) ws p sm refl (rows_stand r k (op.BackUnless t m) e)
    row_follows (op.Next width y s m) = next_row width y s m
    row_follows (op.Switch m) = switch_row m
    row_follows (op.Case m) = case_row m
    row_follows (op.Invoke q) = invoke_row q
    row_follows op.Leave = leave_row
    row_follows op.Enable = enable_row
    row_follows op.Disable = disable_row
    row_follows op.Halt = halt_row
    row_follows op.Finish = finish_row

    -- ---- every number of instructions

    follows_at : (n : ℕ) → Later n → (r : Routine) (k : ℕ) (o : Option Instruction) → slice_get (x.icode r) k ≡ o → (ws : List Word) (g : Working) (p : P (At r k g.ax ws)) (a : g.ax < 65536) (sm : Small ws) → Inv g
        → Fl n 8 (At r k g.ax ws) (Own (place r k) g (stack_of ws) false given)
    follows_at n go r k None e ws g p a sm inv =
        Engine.spoilt machine.Context next x.code x.find x.words x.entry x.main x.handler 20 (is_main given) x.offsets x.places given n 8 (At r k g.ax ws) (Own (place r k) g (stack_of ws) false given) (subst (λ z. IsBad (run_at x.offsets x.sizes (x.icode r) z r (k + 1) g.ax ws)) (sym e) tt)
    follows_at n go r k (Some ins) e ws g p a sm inv = row_follows ins r k e g n go a inv ws p sm

    below : (n m : ℕ) → m < n → Bound m
    below zero m l r k ws g p a sm inv = absurd (omega (arith, l))
    below (suc n) m l r k ws g p a sm inv = follows_at m (λ j less. below n j (omega (arith, l, less))) r k (slice_get (x.icode r) k) refl ws g p a sm inv

    pub bounds : (n : ℕ) → Bound n
    bounds n = below (suc n) n (omega arith)

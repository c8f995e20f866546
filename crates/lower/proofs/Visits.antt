-- Code that runs stays in the routines that it begins in and that they call.
use Rattle.std.proofs.Common.{◌≡◌, ℕ, zero, suc, ◌+◌, ◌%◌, ◌-◌, Bool, true, false, List, [], ◌∷◌, Option, Some, None, refl, subst, slice_get}
use Rattle.std.specs.Prelude.{drop, nat_le, nat_lt, length, if◌then◌else◌}
use Rattle.word86.specs.declared.width.Width.{Width}
use Rattle.word86.specs.declared.width.Width.TheVariants as widths
use Rattle.word86.specs.Access.{Access, Where}
use Rattle.word86.specs.Action.{Action, Silent, Touch, Enable, Disable, Halt, Over, Bad}
use Rattle.word86.specs.Arithmetic.{low}
use Rattle.word86.specs.Operation.{binary_value}
use Rattle.word86.specs.Place.{bytes, held}
use Rattle.icode.specs.declared.instruction.Instruction.{Instruction}
use Rattle.icode.specs.declared.instruction.Instruction.TheVariants as op
use Rattle.icode.specs.declared.instruction.LowByte.TheVariants as lows
use Rattle.icode.specs.declared.instruction.Right.TheVariants as rights
use Rattle.icode.specs.declared.instruction.Test.{Test}
use Rattle.icode.specs.declared.instruction.Test.TheVariants as test
use Rattle.icode.specs.declared.code.Routine.{Routine}
use Rattle.icode.specs.declared.code.Routine.TheVariants as routine
use Rattle.icode.specs.declared.code.Word.{Word}
use Rattle.icode.specs.declared.code.Word.TheVariants.{Value, Return}
use Rattle.icode.specs.Machine.{Context, At, operated, computed, with_value, value_in, value_on_top, return_on_top, loaded, stored, with_low, left, finished, switched, address, found, jumped, run, run_at, does, stands, is_odd, settled, of_bytes}
use Rattle.icode.specs.Runs.{Leads, Comes}

module _ (Inside : Routine → Type 0) (nowhere : Inside routine.Nowhere) where
  abbrev WordInside : Word → Type 0
  WordInside (Value v) = Unit {0}
  WordInside (Return p) = Inside p.routine

  abbrev AreInside : List Word → Type 0
  AreInside [] = Unit {0}
  AreInside (w ∷ ws) = WordInside w × AreInside ws

  -- it is in such a routine, and goes back to such
  abbrev pub IsInside : Context → Type 0
  IsInside (At r p a ws) = Inside r × AreInside ws

  -- where an instruction leads, and which one it has to be
  abbrev Stays : Option Instruction → Action Access Context → Type 0
  Stays o (Silent d) = IsInside d
  Stays o (Touch a k) = (v : ℕ) → IsInside (k v)
  Stays o (Enable d) = (o ≡ Some op.Enable) × IsInside d
  Stays o (Disable d) = IsInside d
  Stays o (Halt d) = (o ≡ Some op.Halt) × IsInside d
  Stays o Over = o ≡ Some op.Finish
  Stays o (Bad module_index line) = Unit {0}

  dropped_inside : (n : ℕ) (ws : List Word) → AreInside ws → AreInside (drop n ws)
  dropped_inside zero ws f = f
  dropped_inside (suc n) [] f = tt
  dropped_inside (suc n) (w ∷ ws) f = dropped_inside n ws f.1

  module _ (o : Option Instruction) where
    operated_stays : (v : Option ℕ) (k : ℕ → Context) → ((x : ℕ) → IsInside (k x)) → Stays o (operated v k)
    operated_stays (Some v) k f = f v
    operated_stays None k f = tt

    computed_inside : (v : Option ℕ) (r : Routine) (p : ℕ) (ws : List Word) → Inside r → AreInside ws → IsInside (computed v r p ws)
    computed_inside (Some x) r p ws f g = (f, g)
    computed_inside None r p ws f g = (nowhere, g)

    with_stays : (v : Option ℕ) (k : ℕ → Action Access Context) → ((x : ℕ) → Stays o (k x)) → Stays o (with_value v k)
    with_stays (Some v) k f = f v
    with_stays None k f = tt

    loaded_stays : (w : Width) (x : Option Where) (k : ℕ → Context) → ((v : ℕ) → IsInside (k v)) → Stays o (loaded w x k)
    loaded_stays w (Some x) k f = f
    loaded_stays w None k f = tt

    stored_stays : (w : Width) (x : Option Where) (v : ℕ) (c : Context) → IsInside c → Stays o (stored w x v c)
    stored_stays w (Some x) v c f = λ _. f
    stored_stays w None v c f = tt

    left_stays : (a : ℕ) (ws : List Word) → AreInside ws → Stays o (left (return_on_top ws) a (drop 1 ws))
    left_stays a [] f = tt
    left_stays a (Value v ∷ ws) f = tt
    left_stays a (Return p ∷ ws) f = f

    either : (b : Bool) (d : Context) → IsInside d → Stays o (if b then Silent d else Bad 0 0)
    either true d f = f
    either false d f = tt

    switched_stays : (x : Option Instruction) (r : Routine) (p a : ℕ) (ws : List Word) → Inside r → AreInside ws → Stays o (switched x r p a ws)
    switched_stays None r p a ws f g = tt
    switched_stays (Some (op.Case k)) r p a ws f g = (f, g)
    switched_stays (Some _) r p a ws f g = tt

    switch_stays : (b : Bool) (x : Option Instruction) (r : Routine) (p q a : ℕ) (ws : List Word) → Inside r → AreInside ws → Stays o (if b then switched x r p a ws else Silent (At r q a ws))
    switch_stays true x r p q a ws f g = switched_stays x r p a ws f g
    switch_stays false x r p q a ws f g = (f, g)

  module _ (offsets sizes : List ℕ) where
    jumped_stays : (o : Option Instruction) (t : Test) (r : Routine) (p q a : ℕ) (ws : List Word) → Inside r → AreInside ws → Stays o (jumped offsets sizes t r p q a ws)
    jumped_stays o test.Odd r p q a ws f g = (f, g)
    jumped_stays o (test.Constant c k) r p q a ws f g = (f, g)
    jumped_stays o (test.Plain c read x) r p q a ws f g = loaded_stays o read (found offsets sizes read x (address offsets sizes x 0)) (λ v. At r (if stands c a v then p else q) a ws) (λ v. (f, g))
    jumped_stays o (test.Low c (rights.Constant k)) r p q a ws f g = (f, g)
    jumped_stays o (test.Low c (rights.Plain x)) r p q a ws f g = loaded_stays o widths.Byte (found offsets sizes widths.Byte x (address offsets sizes x 0)) (λ v. At r (if stands c (a % 256) v then p else q) a ws) (λ v. (f, g))
    jumped_stays o (test.Low c rights.Top) r p q a ws f g = with_stays o (value_on_top ws) (λ v. Silent (At r (if stands c (v % 256) (a % 256) then p else q) a (drop 1 ws))) (λ v. (f, dropped_inside 1 ws g))
    jumped_stays o (test.Named c read x k) r p q a ws f g = loaded_stays o read (found offsets sizes read x (address offsets sizes x 0)) (λ v. At r (if stands c v (low read k) then p else q) a ws) (λ v. (f, g))
    jumped_stays o (test.OddNamed x) r p q a ws f g = loaded_stays o widths.Byte (found offsets sizes widths.Byte x (address offsets sizes x 0)) (λ v. At r (if is_odd v then p else q) a ws) (λ v. (f, g))
    jumped_stays o (test.Top c) r p q a ws f g = with_stays o (value_on_top ws) (λ v. Silent (At r (if stands c v a then p else q) a (drop 1 ws))) (λ v. (f, dropped_inside 1 ws g))

    finished_stays : (ws : List Word) → Stays (Some op.Finish) (finished ws)
    finished_stays [] = refl
    finished_stays (w ∷ ws) = tt

    module _ (all : List Instruction) where
      run_stays : (x : Instruction) (r : Routine) (p a : ℕ) (ws : List Word) → Inside r → AreInside ws → ((q : ℕ) → x ≡ op.Invoke q → Inside (routine.Procedure q)) → Stays (Some x) (run offsets sizes all x r p a ws)
      run_stays (op.Constant k) r p a ws f g c = (f, g)
      run_stays (op.Locate x) r p a ws f g c = (f, g)
      run_stays (op.LocateAt x) r p a ws f g c = (f, g)
      run_stays (op.Load width x) r p a ws f g c = loaded_stays (Some (op.Load width x)) width (found offsets sizes width x (address offsets sizes x 0)) (λ v. At r p v ws) (λ v. (f, g))
      run_stays (op.LoadAt width x) r p a ws f g c = loaded_stays (Some (op.LoadAt width x)) width (found offsets sizes width x (address offsets sizes x a)) (λ v. At r p v ws) (λ v. (f, g))
      run_stays (op.LoadThere width) r p a ws f g c = loaded_stays (Some (op.LoadThere width)) width (held 0 offsets sizes a (bytes width)) (λ v. At r p v ws) (λ v. (f, g))
      run_stays (op.Low (lows.Constant k) high) r p a ws f g c = (f, g)
      run_stays (op.Low (lows.Load x) high) r p a ws f g c = loaded_stays (Some (op.Low (lows.Load x) high)) widths.Byte (found offsets sizes widths.Byte x (address offsets sizes x 0)) (λ v. At r p (settled high a v) ws) (λ v. (f, g))
      run_stays (op.Low (lows.LoadAt x) high) r p a ws f g c = loaded_stays (Some (op.Low (lows.LoadAt x) high)) widths.Byte (found offsets sizes widths.Byte x (address offsets sizes x a)) (λ v. At r p (settled high a v) ws) (λ v. (f, g))
      run_stays (op.Low lows.LoadThere high) r p a ws f g c = loaded_stays (Some (op.Low lows.LoadThere high)) widths.Byte (held 0 offsets sizes a 1) (λ v. At r p (settled high a v) ws) (λ v. (f, g))
      run_stays (op.Low lows.Receive high) r p a ws f g c = λ v. (f, g)
      run_stays (op.Low (lows.ReceiveFrom port) high) r p a ws f g c = λ v. (f, g)
      run_stays (op.Low lows.High high) r p a ws f g c = (f, g)
      run_stays (op.Low (lows.Operate o (rights.Constant k)) high) r p a ws f g c = (f, g)
      run_stays (op.Low (lows.Operate o (rights.Plain x)) high) r p a ws f g c =
          loaded_stays (Some (op.Low (lows.Operate o (rights.Plain x)) high)) widths.Byte (found offsets sizes widths.Byte x (address offsets sizes x 0)) (λ v. At r p (of_bytes o high a v) ws) (λ v. (f, g))
      run_stays (op.Low (lows.Operate o rights.Top) high) r p a ws f g c =
          with_stays (Some (op.Low (lows.Operate o rights.Top) high)) (value_on_top ws) (λ v. Silent (At r p (of_bytes o high v (a % 256)) (drop 1 ws))) (λ v. (f, dropped_inside 1 ws g))
      run_stays op.Push r p a ws f g c = (f, (tt, g))
      run_stays (op.Pick n) r p a ws f g c = with_stays (Some (op.Pick n)) (value_in (slice_get ws n)) (λ v. Silent (At r p v ws)) (λ v. (f, g))
      run_stays (op.Drop n) r p a ws f g c = either (Some (op.Drop n)) (nat_le n (length ws)) (At r p a (drop n ws)) (f, dropped_inside n ws g)
      run_stays (op.Unary o width) r p a ws f g c = (f, g)
      run_stays (op.Binary o width) r p a ws f g c =
          with_stays (Some (op.Binary o width)) (value_on_top ws) (λ v. operated (binary_value o width v a) (λ x. At r p x (drop 1 ws))) (λ v. operated_stays (Some (op.Binary o width)) (binary_value o width v a) (λ x. At r p x (drop 1 ws)) (λ x. (f, dropped_inside 1 ws g)))
      run_stays (op.BinaryConstant o width k) r p a ws f g c = operated_stays (Some (op.BinaryConstant o width k)) (binary_value o width a k) (λ x. At r p x ws) (λ x. (f, g))
      run_stays (op.BinaryPlain o width read x) r p a ws f g c =
          loaded_stays (Some (op.BinaryPlain o width read x)) read (found offsets sizes read x (address offsets sizes x 0)) (λ v. computed (binary_value o width a v) r p ws) (λ v. computed_inside (Some (op.BinaryPlain o width read x)) (binary_value o width a v) r p ws f g)
      run_stays (op.Store width x) r p a ws f g c = stored_stays (Some (op.Store width x)) width (found offsets sizes width x (address offsets sizes x 0)) a (At r p a ws) (f, g)
      run_stays (op.StoreAt width x) r p a ws f g c =
          with_stays (Some (op.StoreAt width x)) (value_on_top ws) (λ v. stored width (found offsets sizes width x (address offsets sizes x a)) v (At r p v (drop 1 ws)))
          (λ v. stored_stays (Some (op.StoreAt width x)) width (found offsets sizes width x (address offsets sizes x a)) v (At r p v (drop 1 ws)) (f, dropped_inside 1 ws g))
      run_stays (op.StoreThere width) r p a ws f g c =
          with_stays (Some (op.StoreThere width)) (value_on_top ws) (λ v. stored width (held 0 offsets sizes a (bytes width)) v (At r p v (drop 1 ws)))
          (λ v. stored_stays (Some (op.StoreThere width)) width (held 0 offsets sizes a (bytes width)) v (At r p v (drop 1 ws)) (f, dropped_inside 1 ws g))
      run_stays (op.StoreTop width x) r p a ws f g c =
          with_stays (Some (op.StoreTop width x)) (value_on_top ws) (λ v. stored width (found offsets sizes width x (address offsets sizes x 0)) v (At r p a (drop 1 ws)))
          (λ v. stored_stays (Some (op.StoreTop width x)) width (found offsets sizes width x (address offsets sizes x 0)) v (At r p a (drop 1 ws)) (f, dropped_inside 1 ws g))
      run_stays (op.StoreConstantAt width x k) r p a ws f g c = stored_stays (Some (op.StoreConstantAt width x k)) width (found offsets sizes width x (address offsets sizes x a)) k (At r p k ws) (f, g)
      run_stays (op.Send width) r p a ws f g c = sent ws g
        where
          sent : (ws : List Word) → AreInside ws → Stays (Some (op.Send width)) (run offsets sizes all (op.Send width) r p a ws)
          sent [] g = tt
          sent (Value v ∷ ws) g = λ _. (f, g.1)
          sent (Return q ∷ ws) g = tt
      run_stays (op.SendTo width port) r p a ws f g c = λ _. (f, g)
      run_stays (op.Receive width) r p a ws f g c = λ v. (f, g)
      run_stays (op.ReceiveFrom width port) r p a ws f g c = λ v. (f, g)
      run_stays (op.Ahead n) r p a ws f g c = (f, g)
      run_stays (op.AheadUnless t n) r p a ws f g c = jumped_stays (Some (op.AheadUnless t n)) t r p (p + n) a ws f g
      run_stays (op.Back n) r p a ws f g c = (f, g)
      run_stays (op.BackUnless t n) r p a ws f g c = jumped_stays (Some (op.BackUnless t n)) t r p (p - n) a ws f g
      run_stays (op.Next width x s n) r p a ws f g c =
          stored_stays (Some (op.Next width x s n)) width (found offsets sizes width x (address offsets sizes x 0)) (a + s) (At r (if nat_lt (low width (a + s)) s then p else p - n) (with_low width a (a + s)) ws) (f, g)
      run_stays (op.Switch n) r p a ws f g c = switch_stays (Some (op.Switch n)) (nat_lt a n) (slice_get all (p + a)) r (p + suc a) (p + n) a ws f g
      run_stays (op.Case n) r p a ws f g c = tt
      run_stays (op.Invoke q) r p a ws f g c = (c q refl, (f, g))
      run_stays op.Leave r p a ws f g c = left_stays (Some op.Leave) a ws g
      run_stays op.Enable r p a ws f g c = (refl, (f, g))
      run_stays op.Disable r p a ws f g c = (f, g)
      run_stays op.Halt r p a ws f g c = (refl, (f, g))
      run_stays op.Finish r p a ws f g c = finished_stays ws

    module _ (code : Routine → List Instruction) (calls : (r : Routine) (k q : ℕ) → Inside r → slice_get (code r) k ≡ Some (op.Invoke q) → Inside (routine.Procedure q)) where
      -- the instruction of a context
      abbrev next_of : Context → Option Instruction
      next_of (At r p a ws) = slice_get (code r) p

      does_stays : (c : Context) → IsInside c → Stays (next_of c) (does offsets sizes code c)
      does_stays (At r p a ws) f = by (slice_get (code r) p) refl
        where
          by : (o : Option Instruction) → slice_get (code r) p ≡ o → Stays o (run_at offsets sizes (code r) o r (p + 1) a ws)
          by None e = tt
          by (Some x) e = run_stays (code r) x r (p + 1) a ws f.0 f.1 (λ q i. calls r p q f.0 (subst (λ y. slice_get (code r) p ≡ Some y) i e))

      leads_inside : (o : Option Instruction) (a : Action Access Context) (d : Context) → Stays o a → Leads a d → IsInside d
      leads_inside o (Silent c) d f e = subst (λ c. IsInside c) e f
      leads_inside o (Touch a k) d f e = subst (λ c. IsInside c) e.2 (f e.0)
      leads_inside o (Enable c) d f e = subst (λ c. IsInside c) e f.1
      leads_inside o (Disable c) d f e = subst (λ c. IsInside c) e f
      leads_inside o (Halt c) d f e = subst (λ c. IsInside c) e f.1
      leads_inside o Over d f e = absurd e
      leads_inside o (Bad module_index line) d f e = absurd e

      pub comes_inside : (begin : Context) → IsInside begin → (n : ℕ) (d : Context) → Comes (does offsets sizes code) begin n d → IsInside d
      comes_inside begin f zero d e = subst (λ c. IsInside c) e f
      comes_inside begin f (suc n) d e = leads_inside (next_of e.0) (does offsets sizes code e.0) d (does_stays e.0 (comes_inside begin f n e.0 e.1)) e.2

      -- in one of the routines it comes to an instruction
      abbrev pub Meets : Instruction → Type 0
      Meets x = (r : Routine) × (k : ℕ) × Inside r × (slice_get (code r) k ≡ Some x)

      pub over_meets : (c : Context) → IsInside c → does offsets sizes code c ≡ Over → Meets op.Finish
      over_meets (At r p a ws) f e = (r, p, f.0, subst (λ y. Stays (slice_get (code r) p) y) e (does_stays (At r p a ws) f))

      pub enable_meets : (c d : Context) → IsInside c → does offsets sizes code c ≡ Enable d → Meets op.Enable
      enable_meets (At r p a ws) d f e = (r, p, f.0, (subst (λ y. Stays (slice_get (code r) p) y) e (does_stays (At r p a ws) f)).0)

      pub halt_meets : (c d : Context) → IsInside c → does offsets sizes code c ≡ Halt d → Meets op.Halt
      halt_meets (At r p a ws) d f e = (r, p, f.0, (subst (λ y. Stays (slice_get (code r) p) y) e (does_stays (At r p a ws) f)).0)

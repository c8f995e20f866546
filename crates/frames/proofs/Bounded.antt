-- No run has more words on its stack than the paths of calls push.
use Rattle.std.proofs.Common.{◌≡◌, ℕ, zero, suc, ◌+◌, ◌/◌, ◌%◌, ◌-◌, ◌≤◌, Bool, true, false, if◌then◌else◌, List, [], ◌∷◌, length, take, drop, Option, Some, None, slice_get, refl, sym, ap, ◌∙◌, subst, arith, ◌⊎◌, inl, inr}
use Rattle.std.specs.Prelude.{nat_lt, nat_le}
use Rattle.std.proofs.lemmas.Option.{none-some, same_Some}
use Rattle.word86.specs.declared.width.Width.{Width}
use Rattle.word86.specs.declared.width.Width.TheVariants as widths
use Rattle.word86.specs.Access.{Access, Where}
use Rattle.word86.specs.Action.{Action, Silent, Touch, Enable, Disable, Halt, Over, Bad}
use Rattle.word86.specs.Arithmetic.{low}
use Rattle.word86.specs.Operation.{unary_value, binary_value}
use Rattle.word86.specs.Place.{bytes, held}
use Rattle.icode.specs.declared.instruction.Instruction.{Instruction}
use Rattle.icode.specs.declared.instruction.Instruction.TheVariants as op
use Rattle.icode.specs.declared.instruction.LowByte.TheVariants as lows
use Rattle.icode.specs.declared.instruction.Right.TheVariants as rights
use Rattle.icode.specs.declared.instruction.Test.{Test}
use Rattle.icode.specs.declared.instruction.Test.TheVariants as test
use Rattle.icode.specs.declared.code.Routine.{Routine}
use Rattle.icode.specs.declared.code.Routine.TheVariants.{Nowhere}
use Rattle.icode.specs.declared.code.Position.{Position}
use Rattle.icode.specs.declared.code.Word.{Word}
use Rattle.icode.specs.declared.code.Word.TheVariants.{Value, Return}
use Rattle.icode.specs.Machine.{Context, At, is_odd, stands, address, found, operated, computed, value_in, with_value, loaded, stored, with_low, switched, jumped, run_at, does, settled, of_bytes}
use Rattle.icode.specs.Heights.{popped, after, behind, height, HasHeights}
use Rattle.icode.specs.Counted.{IsPath, words_along, IsDepth}
use Rattle.icode.specs.Runs.{Leads, Comes}

-- wherever an action leads
abbrev pub Each : (Context → Type 0) → Action Access Context → Type 0
Each P (Silent c) = P c
Each P (Touch a k) = (v : ℕ) → P (k v)
Each P (Enable c) = P c
Each P (Disable c) = P c
Each P (Halt c) = P c
Each P Over = Unit {0}
Each P (Bad module_index line) = Unit {0}

led : (P : Context → Type 0) (a : Action Access Context) (d : Context) → Each P a → Leads a d → P d
led P (Silent c) d h e = subst P e h
led P (Touch a k) d h e = subst P e.2 (h e.0)
led P (Enable c) d h e = subst P e h
led P (Disable c) d h e = subst P e h
led P (Halt c) d h e = subst P e h
led P Over d h e = absurd e
led P (Bad module_index line) d h e = absurd e

-- ---- heights along the code

height_next : (h k : ℕ) (all : List Instruction) (x : Instruction) → slice_get all k ≡ Some x → behind h (take (suc k) all) ≡ after x (behind h (take k all))
height_next h k [] x e = absurd (none-some x e)
height_next h zero (y ∷ all) x e = ap (λ z. after z h) (same_Some y x e)
height_next h (suc k) (y ∷ all) x e = height_next (after y h) k all x e

pub next_height : (k : ℕ) (all : List Instruction) (x : Instruction) → slice_get all k ≡ Some x → height all (k + 1) ≡ after x (height all k)
next_height k all x e = let one : k + 1 ≡ suc k = omega arith in ap (λ n. height all n) one ∙ height_next 0 k all x e

module _ (offsets sizes : List ℕ) (code : Routine → List Instruction) (has_heights : (r : Routine) → HasHeights (code r)) (nowhere : code Nowhere ≡ []) (begin : Routine) (most : ℕ) (depth : IsDepth code begin most) where
  -- k values of the routine that runs, and below them the words of those that called it
  abbrev pub Shape : ℕ → List Position → List Word → Type 0
  Shape zero [] [] = Unit {0}
  Shape zero [] (w ∷ ws) = ⊥
  Shape zero (p ∷ ps) [] = ⊥
  Shape zero (p ∷ ps) (Value v ∷ ws) = ⊥
  Shape zero (p ∷ ps) (Return q ∷ ws) = (q.routine ≡ p.routine) × (q.index ≡ p.index + 1) × Shape (height (code p.routine) p.index) ps ws
  Shape (suc k) ps [] = ⊥
  Shape (suc k) ps (Value v ∷ ws) = Shape k ps ws
  Shape (suc k) ps (Return q ∷ ws) = ⊥

  size : (k : ℕ) (ps : List Position) (ws : List Word) → Shape k ps ws → length ws ≡ k + words_along code ps
  size zero [] [] h = refl
  size zero [] (w ∷ ws) h = absurd h
  size zero (p ∷ ps) [] h = absurd h
  size zero (p ∷ ps) (Value v ∷ ws) h = absurd h
  size zero (p ∷ ps) (Return q ∷ ws) h = omega (arith, size (height (code p.routine) p.index) ps ws h.2)
  size (suc k) ps [] h = absurd h
  size (suc k) ps (Value v ∷ ws) h = omega (arith, size k ps ws h)
  size (suc k) ps (Return q ∷ ws) h = absurd h

  abbrev pub Standing : Context → Type 0
  Standing (At r p a ws) = (ps : List Position) × IsPath code begin ps r × Shape (height (code r) p) ps ws

  -- where there is no quotient
  abbrev pub Lost : Context → Type 0
  Lost (At r p a ws) = (r ≡ Nowhere) × (length ws ≤ most)

  abbrev pub Ok : Context → Type 0
  Ok c = Standing c ⊎ Lost c

  few : (r : Routine) (k : ℕ) (ps : List Position) (ws : List Word) → IsPath code begin ps r → Shape (height (code r) k) ps ws → length ws ≤ most
  few r k ps ws path h = omega (arith, size (height (code r) k) ps ws h, depth.bounds ps r k path)

  to : (r : Routine) (q a k : ℕ) (ps : List Position) (ws : List Word) → IsPath code begin ps r → height (code r) q ≡ k → Shape k ps ws → Ok (At r q a ws)
  to r q a k ps ws path e h = inl (ps, path, subst (λ n. Shape n ps ws) (sym e) h)

  taken : (k : ℕ) (ps : List Position) (v : ℕ) (ws : List Word) → Shape k ps (Value v ∷ ws) → Shape (k - 1) ps ws
  taken zero [] v ws h = absurd h
  taken zero (p ∷ ps) v ws h = absurd h
  taken (suc k) ps v ws h = let e : k ≡ suc k - 1 = omega arith in subst (λ n. Shape n ps ws) e h

  without : (n k j : ℕ) (ps : List Position) (ws : List Word) → k ≡ n + j → Shape k ps ws → Shape j ps (drop n ws)
  without zero k j ps ws e h = let e' : k ≡ j = omega (arith, e) in subst (λ x. Shape x ps ws) e' h
  without (suc n) zero j ps ws e h = absurd (omega (arith, e))
  without (suc n) (suc k) j ps [] e h = absurd h
  without (suc n) (suc k) j ps (Value v ∷ ws) e h = without n k j ps ws (omega (arith, e)) h
  without (suc n) (suc k) j ps (Return q ∷ ws) e h = absurd h

  -- ---- what may not be there

  loads : (w : Width) (x : Option Where) (k : ℕ → Context) → ((v : ℕ) → Ok (k v)) → Each Ok (loaded w x k)
  loads w (Some x) k h = h
  loads w None k h = tt

  stores : (w : Width) (x : Option Where) (v : ℕ) (c : Context) → Ok c → Each Ok (stored w x v c)
  stores w (Some x) v c h = λ _. h
  stores w None v c h = tt

  operates : (o : Option ℕ) (k : ℕ → Context) → ((v : ℕ) → Ok (k v)) → Each Ok (operated o k)
  operates (Some v) k h = h v
  operates None k h = tt

  computes : (o : Option ℕ) (r : Routine) (p : ℕ) (ws : List Word) → length ws ≤ most → ((v : ℕ) → Ok (At r p v ws)) → Ok (computed o r p ws)
  computes (Some v) r p ws le h = h v
  computes None r p ws le h = inr (refl, le)

  picks : (o : Option ℕ) (k : ℕ → Context) → ((v : ℕ) → Ok (k v)) → Each Ok (with_value o (λ v. Silent (k v)))
  picks (Some v) k h = h v
  picks None k h = tt

  either : (b : Bool) (r : Routine) (p q a : ℕ) (ws : List Word) → Ok (At r p a ws) → Ok (At r q a ws) → Ok (At r (if b then p else q) a ws)
  either true r p q a ws y n = y
  either false r p q a ws y n = n

  drops : (b : Bool) (c : Context) → Ok c → Each Ok (if b then Silent c else Bad 0 0)
  drops true c h = h
  drops false c h = tt

  -- ---- jumps

  jumps : (t : Test) (r : Routine) (p q a k : ℕ) (ps : List Position) (ws : List Word) → IsPath code begin ps r → k - popped t ≡ 0 → height (code r) p ≡ 0 → height (code r) q ≡ 0 → Shape k ps ws → Each Ok (jumped offsets sizes t r p q a ws)
  jumps test.Odd r p q a k ps ws path e ep eq h =
      let h' : Shape 0 ps ws = (let e' : k ≡ 0 = omega (arith, e) in subst (λ n. Shape n ps ws) e' h) in
      either (is_odd a) r p q a ws (to r p a 0 ps ws path ep h') (to r q a 0 ps ws path eq h')
  jumps (test.Constant o n) r p q a k ps ws path e ep eq h =
      let h' : Shape 0 ps ws = (let e' : k ≡ 0 = omega (arith, e) in subst (λ n. Shape n ps ws) e' h) in
      either (stands o a n) r p q a ws (to r p a 0 ps ws path ep h') (to r q a 0 ps ws path eq h')
  jumps (test.Plain o read x) r p q a k ps ws path e ep eq h =
      let h' : Shape 0 ps ws = (let e' : k ≡ 0 = omega (arith, e) in subst (λ n. Shape n ps ws) e' h) in
      loads read (found offsets sizes read x (address offsets sizes x 0)) (λ v. At r (if stands o a v then p else q) a ws)
      (λ v. either (stands o a v) r p q a ws (to r p a 0 ps ws path ep h') (to r q a 0 ps ws path eq h'))
  jumps (test.Low o (rights.Constant n)) r p q a k ps ws path e ep eq h =
      let h' : Shape 0 ps ws = (let e' : k ≡ 0 = omega (arith, e) in subst (λ n. Shape n ps ws) e' h) in
      either (stands o (a % 256) (n % 256)) r p q a ws (to r p a 0 ps ws path ep h') (to r q a 0 ps ws path eq h')
  jumps (test.Low o (rights.Plain x)) r p q a k ps ws path e ep eq h =
      let h' : Shape 0 ps ws = (let e' : k ≡ 0 = omega (arith, e) in subst (λ n. Shape n ps ws) e' h) in
      loads widths.Byte (found offsets sizes widths.Byte x (address offsets sizes x 0)) (λ v. At r (if stands o (a % 256) v then p else q) a ws)
      (λ v. either (stands o (a % 256) v) r p q a ws (to r p a 0 ps ws path ep h') (to r q a 0 ps ws path eq h'))
  jumps (test.Low o rights.Top) r p q a k ps [] path e ep eq h = tt
  jumps (test.Low o rights.Top) r p q a k ps (Return w ∷ ws) path e ep eq h = tt
  jumps (test.Low o rights.Top) r p q a k ps (Value v ∷ ws) path e ep eq h =
      let h' : Shape 0 ps ws = subst (λ n. Shape n ps ws) e (taken k ps v ws h) in
      either (stands o (v % 256) (a % 256)) r p q a ws (to r p a 0 ps ws path ep h') (to r q a 0 ps ws path eq h')
  jumps (test.Named o read x n) r p q a k ps ws path e ep eq h =
      let h' : Shape 0 ps ws = (let e' : k ≡ 0 = omega (arith, e) in subst (λ n. Shape n ps ws) e' h) in
      loads read (found offsets sizes read x (address offsets sizes x 0)) (λ v. At r (if stands o v (low read n) then p else q) a ws)
      (λ v. either (stands o v (low read n)) r p q a ws (to r p a 0 ps ws path ep h') (to r q a 0 ps ws path eq h'))
  jumps (test.OddNamed x) r p q a k ps ws path e ep eq h =
      let h' : Shape 0 ps ws = (let e' : k ≡ 0 = omega (arith, e) in subst (λ n. Shape n ps ws) e' h) in
      loads widths.Byte (found offsets sizes widths.Byte x (address offsets sizes x 0)) (λ v. At r (if is_odd v then p else q) a ws)
      (λ v. either (is_odd v) r p q a ws (to r p a 0 ps ws path ep h') (to r q a 0 ps ws path eq h'))
  jumps (test.Top o) r p q a k ps [] path e ep eq h = tt
  jumps (test.Top o) r p q a k ps (Return w ∷ ws) path e ep eq h = tt
  jumps (test.Top o) r p q a k ps (Value v ∷ ws) path e ep eq h =
      let h' : Shape 0 ps ws = subst (λ n. Shape n ps ws) e (taken k ps v ws h) in
      either (stands o v a) r p q a ws (to r p a 0 ps ws path ep h') (to r q a 0 ps ws path eq h')

  switches : (o : Option Instruction) (r : Routine) (p b a : ℕ) (ps : List Position) (ws : List Word) → slice_get (code r) b ≡ o → p ≡ b + 1 → IsPath code begin ps r → Shape 0 ps ws → Each Ok (switched o r p a ws)
  switches (Some (op.Case m)) r p b a ps ws e ep path h =
      let e' : p + m ≡ b + 1 + m = ap (λ n. n + m) ep in
      to r (p + m) a 0 ps ws path (ap (λ n. height (code r) n) e' ∙ ((has_heights r).flat b (b + 1 + m) (op.Case m) e refl).1) h
  switches _ r p b a ps ws e ep path h = tt

  chooses : (c : Bool) (o : Option Instruction) (r : Routine) (p b a q : ℕ) (ps : List Position) (ws : List Word) → slice_get (code r) b ≡ o → p ≡ b + 1 → IsPath code begin ps r → height (code r) q ≡ 0 → Shape 0 ps ws
      → Each Ok (if c then switched o r p a ws else Silent (At r q a ws))
  chooses true o r p b a q ps ws e ep path eq h = switches o r p b a ps ws e ep path h
  chooses false o r p b a q ps ws e ep path eq h = to r q a 0 ps ws path eq h

  leaves : (k : ℕ) (r : Routine) (q : Position) (a : ℕ) (ps : List Position) (ws : List Word) → IsPath code begin ps r → Shape k ps (Return q ∷ ws) → Ok (At q.routine q.index a ws)
  leaves zero r q a [] ws path h = absurd h
  leaves zero r q a (p ∷ ps) ws path h =
      let call = path.0 in
      let e : height (code p.routine) (p.index + 1) ≡ height (code p.routine) p.index = next_height p.index (code p.routine) (op.Invoke call.0) call.1 in
      let there : Ok (At p.routine (p.index + 1) a ws) = to p.routine (p.index + 1) a (height (code p.routine) p.index) ps ws path.1 e h.2 in
      subst (λ r'. Ok (At r' q.index a ws)) (sym h.0) (subst (λ i. Ok (At p.routine i a ws)) (sym h.1) there)
  leaves (suc k) r q a ps ws path h = absurd h

  -- ---- each instruction

  step : (o : Option Instruction) (r : Routine) (p a : ℕ) (ps : List Position) (ws : List Word) → slice_get (code r) p ≡ o → IsPath code begin ps r → Shape (height (code r) p) ps ws → Each Ok (run_at offsets sizes (code r) o r (p + 1) a ws)
  step None r p a ps ws e path h = tt
  step (Some (op.Constant k)) r p a ps ws e path h = to r (p + 1) k _ ps ws path (next_height p (code r) (op.Constant k) e) h
  step (Some (op.Locate x)) r p a ps ws e path h = to r (p + 1) (address offsets sizes x 0) _ ps ws path (next_height p (code r) (op.Locate x) e) h
  step (Some (op.LocateAt x)) r p a ps ws e path h = to r (p + 1) (address offsets sizes x a) _ ps ws path (next_height p (code r) (op.LocateAt x) e) h
  step (Some (op.Load width x)) r p a ps ws e path h = loads width (found offsets sizes width x (address offsets sizes x 0)) (λ v. At r (p + 1) v ws) (λ v. to r (p + 1) v _ ps ws path (next_height p (code r) (op.Load width x) e) h)
  step (Some (op.LoadAt width x)) r p a ps ws e path h = loads width (found offsets sizes width x (address offsets sizes x a)) (λ v. At r (p + 1) v ws) (λ v. to r (p + 1) v _ ps ws path (next_height p (code r) (op.LoadAt width x) e) h)
  step (Some (op.LoadThere width)) r p a ps ws e path h = loads width (held 0 offsets sizes a (bytes width)) (λ v. At r (p + 1) v ws) (λ v. to r (p + 1) v _ ps ws path (next_height p (code r) (op.LoadThere width) e) h)
  step (Some (op.Low (lows.Constant k) high)) r p a ps ws e path h = to r (p + 1) (settled high a (k % 256)) _ ps ws path (next_height p (code r) (op.Low (lows.Constant k) high) e) h
  step (Some (op.Low (lows.Load x) high)) r p a ps ws e path h = loads widths.Byte (found offsets sizes widths.Byte x (address offsets sizes x 0)) (λ v. At r (p + 1) (settled high a v) ws) (λ v. to r (p + 1) (settled high a v) _ ps ws path (next_height p (code r) (op.Low (lows.Load x) high) e) h)
  step (Some (op.Low (lows.LoadAt x) high)) r p a ps ws e path h = loads widths.Byte (found offsets sizes widths.Byte x (address offsets sizes x a)) (λ v. At r (p + 1) (settled high a v) ws) (λ v. to r (p + 1) (settled high a v) _ ps ws path (next_height p (code r) (op.Low (lows.LoadAt x) high) e) h)
  step (Some (op.Low lows.LoadThere high)) r p a ps ws e path h = loads widths.Byte (held 0 offsets sizes a 1) (λ v. At r (p + 1) (settled high a v) ws) (λ v. to r (p + 1) (settled high a v) _ ps ws path (next_height p (code r) (op.Low lows.LoadThere high) e) h)
  step (Some (op.Low lows.Receive high)) r p a ps ws e path h = λ v. to r (p + 1) (settled high a v) _ ps ws path (next_height p (code r) (op.Low lows.Receive high) e) h
  step (Some (op.Low (lows.ReceiveFrom port) high)) r p a ps ws e path h = λ v. to r (p + 1) (settled high a v) _ ps ws path (next_height p (code r) (op.Low (lows.ReceiveFrom port) high) e) h
  step (Some (op.Low lows.High high)) r p a ps ws e path h = to r (p + 1) (settled high a (a / 256)) _ ps ws path (next_height p (code r) (op.Low lows.High high) e) h
  step (Some (op.Low (lows.Operate o (rights.Constant k)) high)) r p a ps ws e path h = to r (p + 1) (of_bytes o high a (k % 256)) _ ps ws path (next_height p (code r) (op.Low (lows.Operate o (rights.Constant k)) high) e) h
  step (Some (op.Low (lows.Operate o (rights.Plain x)) high)) r p a ps ws e path h = loads widths.Byte (found offsets sizes widths.Byte x (address offsets sizes x 0)) (λ v. At r (p + 1) (of_bytes o high a v) ws) (λ v. to r (p + 1) (of_bytes o high a v) _ ps ws path (next_height p (code r) (op.Low (lows.Operate o (rights.Plain x)) high) e) h)
  step (Some (op.Low (lows.Operate o rights.Top) high)) r p a ps [] e path h = tt
  step (Some (op.Low (lows.Operate o rights.Top) high)) r p a ps (Return q ∷ ws) e path h = tt
  step (Some (op.Low (lows.Operate o rights.Top) high)) r p a ps (Value v ∷ ws) e path h = to r (p + 1) (of_bytes o high v (a % 256)) _ ps ws path (next_height p (code r) (op.Low (lows.Operate o rights.Top) high) e) (taken (height (code r) p) ps v ws h)
  step (Some op.Push) r p a ps ws e path h = to r (p + 1) a (suc (height (code r) p)) ps (Value a ∷ ws) path (next_height p (code r) op.Push e) h
  step (Some (op.Pick n)) r p a ps ws e path h = picks (value_in (slice_get ws n)) (λ v. At r (p + 1) v ws) (λ v. to r (p + 1) v _ ps ws path (next_height p (code r) (op.Pick n) e) h)
  step (Some (op.Drop n)) r p a ps ws e path h =
      let k = height (code r) p in
      let parts : k ≡ n + (k - n) = omega (arith, (has_heights r).drops p n e) in
      drops (nat_le n (length ws)) (At r (p + 1) a (drop n ws)) (to r (p + 1) a (k - n) ps (drop n ws) path (next_height p (code r) (op.Drop n) e) (without n k (k - n) ps ws parts h))
  step (Some (op.Unary o width)) r p a ps ws e path h = to r (p + 1) (unary_value o width a) _ ps ws path (next_height p (code r) (op.Unary o width) e) h
  step (Some (op.Binary o width)) r p a ps [] e path h = tt
  step (Some (op.Binary o width)) r p a ps (Return q ∷ ws) e path h = tt
  step (Some (op.Binary o width)) r p a ps (Value v ∷ ws) e path h =
      operates (binary_value o width v a) (λ x. At r (p + 1) x ws) (λ x. to r (p + 1) x _ ps ws path (next_height p (code r) (op.Binary o width) e) (taken (height (code r) p) ps v ws h))
  step (Some (op.BinaryConstant o width k)) r p a ps ws e path h = operates (binary_value o width a k) (λ x. At r (p + 1) x ws) (λ x. to r (p + 1) x _ ps ws path (next_height p (code r) (op.BinaryConstant o width k) e) h)
  step (Some (op.BinaryPlain o width read x)) r p a ps ws e path h =
      loads read (found offsets sizes read x (address offsets sizes x 0)) (λ v. computed (binary_value o width a v) r (p + 1) ws)
      (λ v. computes (binary_value o width a v) r (p + 1) ws (few r p ps ws path h) (λ z. to r (p + 1) z _ ps ws path (next_height p (code r) (op.BinaryPlain o width read x) e) h))
  step (Some (op.Store width x)) r p a ps ws e path h = stores width (found offsets sizes width x (address offsets sizes x 0)) a (At r (p + 1) a ws) (to r (p + 1) a _ ps ws path (next_height p (code r) (op.Store width x) e) h)
  step (Some (op.StoreAt width x)) r p a ps [] e path h = tt
  step (Some (op.StoreAt width x)) r p a ps (Return q ∷ ws) e path h = tt
  step (Some (op.StoreAt width x)) r p a ps (Value v ∷ ws) e path h =
      stores width (found offsets sizes width x (address offsets sizes x a)) v (At r (p + 1) v ws) (to r (p + 1) v _ ps ws path (next_height p (code r) (op.StoreAt width x) e) (taken (height (code r) p) ps v ws h))
  step (Some (op.StoreThere width)) r p a ps [] e path h = tt
  step (Some (op.StoreThere width)) r p a ps (Return q ∷ ws) e path h = tt
  step (Some (op.StoreThere width)) r p a ps (Value v ∷ ws) e path h =
      stores width (held 0 offsets sizes a (bytes width)) v (At r (p + 1) v ws) (to r (p + 1) v _ ps ws path (next_height p (code r) (op.StoreThere width) e) (taken (height (code r) p) ps v ws h))
  step (Some (op.StoreTop width x)) r p a ps [] e path h = tt
  step (Some (op.StoreTop width x)) r p a ps (Return q ∷ ws) e path h = tt
  step (Some (op.StoreTop width x)) r p a ps (Value v ∷ ws) e path h =
      stores width (found offsets sizes width x (address offsets sizes x 0)) v (At r (p + 1) a ws) (to r (p + 1) a _ ps ws path (next_height p (code r) (op.StoreTop width x) e) (taken (height (code r) p) ps v ws h))
  step (Some (op.StoreConstantAt width x k)) r p a ps ws e path h = stores width (found offsets sizes width x (address offsets sizes x a)) k (At r (p + 1) k ws) (to r (p + 1) k _ ps ws path (next_height p (code r) (op.StoreConstantAt width x k) e) h)
  step (Some (op.Send width)) r p a ps [] e path h = tt
  step (Some (op.Send width)) r p a ps (Return q ∷ ws) e path h = tt
  step (Some (op.Send width)) r p a ps (Value v ∷ ws) e path h = λ _. to r (p + 1) v _ ps ws path (next_height p (code r) (op.Send width) e) (taken (height (code r) p) ps v ws h)
  step (Some (op.SendTo width port)) r p a ps ws e path h = λ _. to r (p + 1) a _ ps ws path (next_height p (code r) (op.SendTo width port) e) h
  step (Some (op.Receive width)) r p a ps ws e path h = λ v. to r (p + 1) v _ ps ws path (next_height p (code r) (op.Receive width) e) h
  step (Some (op.ReceiveFrom width port)) r p a ps ws e path h = λ v. to r (p + 1) v _ ps ws path (next_height p (code r) (op.ReceiveFrom width port) e) h
  step (Some (op.Ahead n)) r p a ps ws e path h =
      let f = (has_heights r).flat p (p + 1 + n) (op.Ahead n) e refl in
      let level : height (code r) p ≡ 0 = sym (next_height p (code r) (op.Ahead n) e) ∙ f.0 in
      to r (p + 1 + n) a 0 ps ws path f.1 (subst (λ k. Shape k ps ws) level h)
  step (Some (op.AheadUnless t n)) r p a ps ws e path h =
      let f = (has_heights r).flat p (p + 1 + n) (op.AheadUnless t n) e refl in
      jumps t r (p + 1) (p + 1 + n) a (height (code r) p) ps ws path (sym (next_height p (code r) (op.AheadUnless t n) e) ∙ f.0) f.0 f.1 h
  step (Some (op.Back n)) r p a ps ws e path h =
      let f = (has_heights r).flat p (p + 1 - n) (op.Back n) e refl in
      let level : height (code r) p ≡ 0 = sym (next_height p (code r) (op.Back n) e) ∙ f.0 in
      to r (p + 1 - n) a 0 ps ws path f.1 (subst (λ k. Shape k ps ws) level h)
  step (Some (op.BackUnless t n)) r p a ps ws e path h =
      let f = (has_heights r).flat p (p + 1 - n) (op.BackUnless t n) e refl in
      jumps t r (p + 1) (p + 1 - n) a (height (code r) p) ps ws path (sym (next_height p (code r) (op.BackUnless t n) e) ∙ f.0) f.0 f.1 h
  step (Some (op.Next width x s n)) r p a ps ws e path h =
      let f = (has_heights r).flat p (p + 1 - n) (op.Next width x s n) e refl in
      let level : height (code r) p ≡ 0 = sym (next_height p (code r) (op.Next width x s n) e) ∙ f.0 in
      let h' : Shape 0 ps ws = subst (λ k. Shape k ps ws) level h in
      let b = nat_lt (low width (a + s)) s in
      let v = with_low width a (a + s) in
      stores width (found offsets sizes width x (address offsets sizes x 0)) (a + s) (At r (if b then p + 1 else p + 1 - n) v ws) (either b r (p + 1) (p + 1 - n) v ws (to r (p + 1) v 0 ps ws path f.0 h') (to r (p + 1 - n) v 0 ps ws path f.1 h'))
  step (Some (op.Switch n)) r p a ps ws e path h =
      let f = (has_heights r).flat p (p + 1 + n) (op.Switch n) e refl in
      let level : height (code r) p ≡ 0 = sym (next_height p (code r) (op.Switch n) e) ∙ f.0 in
      let place : p + 1 + suc a ≡ p + 1 + a + 1 = omega arith in
      chooses (nat_lt a n) (slice_get (code r) (p + 1 + a)) r (p + 1 + suc a) (p + 1 + a) a (p + 1 + n) ps ws refl place path f.1 (subst (λ k. Shape k ps ws) level h)
  step (Some (op.Case n)) r p a ps ws e path h = tt
  step (Some (op.Invoke q)) r p a ps ws e path h = inl (record { routine = r; index = p } ∷ ps, ((q, e, refl), path), (refl, refl, h))
  step (Some op.Leave) r p a ps [] e path h = tt
  step (Some op.Leave) r p a ps (Value v ∷ ws) e path h = tt
  step (Some op.Leave) r p a ps (Return q ∷ ws) e path h = leaves (height (code r) p) r q a ps ws path h
  step (Some op.Enable) r p a ps ws e path h = to r (p + 1) a _ ps ws path (next_height p (code r) op.Enable e) h
  step (Some op.Disable) r p a ps ws e path h = to r (p + 1) a _ ps ws path (next_height p (code r) op.Disable e) h
  step (Some op.Halt) r p a ps ws e path h = to r (p + 1) a _ ps ws path (next_height p (code r) op.Halt e) h
  step (Some op.Finish) r p a ps [] e path h = tt
  step (Some op.Finish) r p a ps (w ∷ ws) e path h = tt

  -- ---- runs

  stuck : (xs : List Instruction) (r : Routine) (p a : ℕ) (ws : List Word) → xs ≡ [] → Each Ok (run_at offsets sizes xs (slice_get xs p) r (p + 1) a ws)
  stuck xs r p a ws e = subst (λ ys. Each Ok (run_at offsets sizes ys (slice_get ys p) r (p + 1) a ws)) (sym e) tt

  steps : (c : Context) → Ok c → Each Ok (does offsets sizes code c)
  steps (At r p a ws) (inl s) = step (slice_get (code r) p) r p a s.0 ws refl s.1 s.2
  steps (At r p a ws) (inr s) = stuck (code r) r p a ws (ap code s.0 ∙ nowhere)

  pub comes_ok : (n a : ℕ) (c : Context) → Comes (does offsets sizes code) (At begin 0 a []) n c → Ok c
  comes_ok zero a c e = subst Ok e (inl ([], refl, tt))
  comes_ok (suc n) a c e = led Ok (does offsets sizes code e.0) c (steps e.0 (comes_ok n a e.0 e.1)) e.2

  small : (r : Routine) (k b : ℕ) (ws : List Word) → Ok (At r k b ws) → length ws ≤ most
  small r k b ws (inl s) = few r k s.0 ws s.1 s.2
  small r k b ws (inr s) = s.1

  pub bounded : (n a : ℕ) (r : Routine) (k b : ℕ) (ws : List Word) → Comes (does offsets sizes code) (At begin 0 a []) n (At r k b ws) → length ws ≤ most
  bounded n a r k b ws e = small r k b ws (comes_ok n a (At r k b ws) e)

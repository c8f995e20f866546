-- Conditions, and the jumps that test them.
use Rattle.std.proofs.lemmas.Option.{none-some, same_Some}
use Rattle.std.proofs.Common.{◌≡◌, ℕ, zero, suc, ◌+◌, ◌%◌, ◌<◌, ◌≤◌, Bool, true, false, List, [], ◌∷◌, ◌++◌, length, Option, Some, None, refl, sym, ap, ◌∙◌, subst, arith, slice_get, length-append, true≢false}
use Rattle.std.proofs.lemmas.Bool.{and_parts}
use Rattle.std.specs.Prelude.{if◌then◌else◌, not, nat_eq}
use Rattle.word86.specs.declared.width.Width.{Width}
use Rattle.word86.specs.declared.width.Width.TheVariants as widths
use Rattle.word86.specs.declared.operation.BinaryOperation.{BinaryOperation}
use Rattle.word86.specs.declared.operation.BinaryOperation.TheVariants as binary
use Rattle.word86.specs.declared.place.Place.{Place}
use Rattle.word86.specs.Access.{Read, Where}
use Rattle.word86.specs.Action.{Silent, Touch, map_action}
use Rattle.word86.specs.Arithmetic.{low}
use Rattle.word86.specs.Operation.{truth, binary_value}
use Rattle.plm_type.specs.Rest.{Expression, Constant, Plain, Variable, Location, Unary, Binary, Embedded, Input, Call, Value, Passing, Running, Statements, Procedure, Rest}
use Rattle.plm_type.specs.declared.program.Counting.{Counting}
use Rattle.plm_type.specs.Next.{is_odd, operated, has_passed}
use Rattle.icode.specs.declared.instruction.Instruction.TheVariants as op
use Rattle.icode.specs.declared.instruction.Relation.{Relation}
use Rattle.icode.specs.declared.instruction.Relation.TheVariants as relation
use Rattle.icode.specs.declared.instruction.Test.TheVariants as test
use Rattle.icode.specs.declared.instruction.Right.TheVariants as rights
use Rattle.icode.specs.declared.code.Routine.{Routine}
use Rattle.icode.specs.declared.code.Word.{Word}
use Rattle.icode.specs.declared.code.Word.TheVariants as words
use Rattle.icode.specs.Machine.{Context, At, stands, loaded}
use Rattle.lower.specs.Expressions.{folded, Operand, Number, Name, Computed, operand_of, place_of, beside, relation_of, stands_to, expression_code}
use Rattle.lower.specs.Conditions.{low_stands_to, are_bytes, related, named, or_test, unless_named, asked, test_of, compared, asking, condition_code}
use Rattle.lower.specs.LowBytes.{is_byte, low_code}
use Rattle.lower.specs.Statements.{within}
use Rattle.lower.specs.Well.{Lies, IsExpression}
use Rattle.lower.proofs.Setting.{Setting}
use Rattle.lower.proofs.Sim.{N, X, T, S, eased, then_, up, both, touches}
use Rattle.lower.proofs.Holes.{IsHole, in_left, in_right, acts, HasAt, has_front, has_back}
use Rattle.lower.proofs.Sums.{reaches}
use Rattle.lower.proofs.Memory.{found_plain}
use Rattle.lower.proofs.Exprs.{IsOperand, operand_is, ProcedureRuns, rise, soon_in, push_then}
use Rattle.lower.proofs.Nodes.{nodes}
use Rattle.lower.proofs.Folds.{folded_small, folds}
use Rattle.lower.proofs.InPlace.{Suits, by_named}
use Rattle.lower.proofs.Terms.{expression_sim}
use Rattle.lower.proofs.LowBytes.{HasLow, Fits, folded_fits, low_sim}

odd_truth : (b : Bool) → is_odd (truth b) ≡ b
odd_truth true = refl
odd_truth false = refl

-- an operator that is a relation answers whether it holds
relation_is : (o : BinaryOperation) (q : Relation) → relation_of o ≡ Some q → (w : Width) (u v : ℕ) → binary_value o w u v ≡ Some (truth (stands q u v))
relation_is binary.Equal q h w u v = ap (λ y. Some (truth (stands y u v))) (same_Some relation.Equal q h)
relation_is binary.NotEqual q h w u v = ap (λ y. Some (truth (stands y u v))) (same_Some relation.NotEqual q h)
relation_is binary.Less q h w u v = ap (λ y. Some (truth (stands y u v))) (same_Some relation.Less q h)
relation_is binary.LessEqual q h w u v = ap (λ y. Some (truth (stands y u v))) (same_Some relation.LessEqual q h)
relation_is binary.Greater q h w u v = ap (λ y. Some (truth (stands y u v))) (same_Some relation.Greater q h)
relation_is binary.GreaterEqual q h w u v = ap (λ y. Some (truth (stands y u v))) (same_Some relation.GreaterEqual q h)
relation_is binary.Multiply q h w u v = absurd (none-some q h)
relation_is binary.Divide q h w u v = absurd (none-some q h)
relation_is binary.Modulo q h w u v = absurd (none-some q h)
relation_is binary.Add q h w u v = absurd (none-some q h)
relation_is binary.Subtract q h w u v = absurd (none-some q h)
relation_is binary.And q h w u v = absurd (none-some q h)
relation_is binary.Or q h w u v = absurd (none-some q h)
relation_is binary.ExclusiveOr q h w u v = absurd (none-some q h)
relation_is binary.ShiftLeft q h w u v = absurd (none-some q h)
relation_is binary.ShiftRight q h w u v = absurd (none-some q h)
relation_is binary.RotateLeft q h w u v = absurd (none-some q h)
relation_is binary.RotateRight q h w u v = absurd (none-some q h)
relation_is binary.DivideSigned q h w u v = absurd (none-some q h)
relation_is binary.ModuloSigned q h w u v = absurd (none-some q h)
relation_is binary.LessSigned q h w u v = ap (λ y. Some (truth (stands y u v))) (same_Some relation.LessSigned q h)
relation_is binary.LessEqualSigned q h w u v = ap (λ y. Some (truth (stands y u v))) (same_Some relation.LessEqualSigned q h)
relation_is binary.GreaterSigned q h w u v = ap (λ y. Some (truth (stands y u v))) (same_Some relation.GreaterSigned q h)
relation_is binary.GreaterEqualSigned q h w u v = ap (λ y. Some (truth (stands y u v))) (same_Some relation.GreaterEqualSigned q h)

other_way : (b : Bool) (s t : Statements) → (if b then s else t) ≡ (if not b then t else s)
other_way true s t = refl
other_way false s t = refl

-- what the accumulator holds of an index that is compared with its bound
abbrev pub Holds : (bytes : Bool) → (value accumulator : ℕ) (bound : Expression) → Type 0
Holds true i z e = (i < 256) × (is_byte e ≡ true) × HasLow i z
Holds false i z e = z ≡ i

-- a constant with which a scalar is compared where it lies is no wider
module _ (sizes : List ℕ) (procedures : List Procedure) (MayCall : ℕ → Type 0) where
  pub constant_fits : (e : Expression) → IsExpression sizes procedures MayCall e → (c : ℕ) → folded e ≡ Some c → (bytes : Bool) → (bytes ≡ true → is_byte e ≡ true) → (w : Width) → Suits bytes w → low w c ≡ c
  constant_fits e good c is bytes narrow widths.Byte suits =
      let lt : c < 256 = subst (λ (b : Bool). Fits b c) (narrow suits) (folded_fits sizes procedures MayCall e good c is) in
      omega (arith, lt)
  constant_fits e good c is bytes narrow widths.Word suits = let lt = folded_small sizes procedures MayCall e good c is in omega (arith, lt)

module _ (x : Setting) (MayCall : ℕ → Type 0) (calls : (q : ℕ) → MayCall q → ProcedureRuns x q) where
  -- where a test leads: on where it holds, else further
  module _ (n k : ℕ) (small : k ≤ x.room) (D : Statements → Rest) (yes no : Statements) (r : Routine) (on further : ℕ) (ws : List Word)
      (ky : (a : ℕ) → S x k n 2 (D yes) (At r on a ws)) (kn : (a : ℕ) → S x k n 2 (D no) (At r further a ws)) where
    led : (b : Bool) (a : ℕ) → S x k n 2 (D (if b then yes else no)) (At r (if b then on else further) a ws)
    led true a = ky a
    led false a = kn a

    led_soon : (b : Bool) (a : ℕ) → T x n 2 (D (if b then yes else no)) (At r (if b then on else further) a ws)
    led_soon b a = then_ x k n 2 2 (D (if b then yes else no)) (At r (if b then on else further) a ws) (omega (arith, small)) (omega arith) (led b a)

    -- the lowest bit of a value decides
    odd_then : (R : Rest) (p v a d : ℕ) → is_odd a ≡ is_odd v → N x R ≡ Silent (D (if is_odd v then yes else no)) → slice_get (x.code r) p ≡ Some (op.AheadUnless test.Odd d) → p + 1 ≡ on → p + 1 + d ≡ further → S x 2 n 0 R (At r p a ws)
    odd_then R p v a d same u h e f =
        both x 1 n 0 R (D (if is_odd v then yes else no)) (At r p a ws) (At r (if is_odd v then on else further) a ws) u
        (acts x r p a ws (op.AheadUnless test.Odd d) h ∙ ap (λ (b : Bool). Silent (At r (if b then p + 1 else p + 1 + d) a ws)) same
        ∙ ap (λ y. Silent (At r (if is_odd v then y else p + 1 + d) a ws)) e ∙ ap (λ y. Silent (At r (if is_odd v then on else y) a ws)) f) (led_soon (is_odd v) a)

    -- a plain scalar that the test reads itself, compared with a constant
    named_sim : (q : Relation) (w : Width) (y : Where) → Lies x.sizes w y → (e : Expression) (c : ℕ) → folded e ≡ Some c → low w c ≡ c → k + nodes e ≤ x.room → (R : Rest) (Q : ℕ → Expression → Rest) → ((u : ℕ) → IsHole x (Q u)) → N x R ≡ Touch (Read w y) (λ u. Q u e)
        → ((u j f : ℕ) (i : Context) → f ≤ 2 → S x j n f (D (if stands q u c then yes else no)) i → S x (suc (suc j)) n f (Q u (Value c)) i) → (p d : ℕ) → slice_get (x.code r) p ≡ Some (op.AheadUnless (test.Named q w (place_of y) c) d)
        → p + 1 ≡ on → p + 1 + d ≡ further → (m f a : ℕ) → S x m n f R (At r p a ws)
    named_sim q w y lies e c is same wide R Q holes reads stepped p d h at to m f a =
        touches x m n f (Read w y) R (λ u. Q u e) (At r p a ws) (λ u. At r (if stands q u c then on else further) a ws) reads
        (acts x r p a ws (op.AheadUnless (test.Named q w (place_of y) c) d) h
        ∙ ap (λ o. loaded w o (λ u. At r (if stands q u (low w c) then p + 1 else p + 1 + d) a ws)) (found_plain x w y lies)
        ∙ ap (λ t. Touch (Read w y) (λ u. At r (if stands q u t then p + 1 else p + 1 + d) a ws)) same
        ∙ ap (λ t. Touch (Read w y) (λ u. At r (if stands q u c then t else p + 1 + d) a ws)) at
        ∙ ap (λ t. Touch (Read w y) (λ u. At r (if stands q u c then on else t) a ws)) to)
        (λ u lt.
        let i = At r (if stands q u c then on else further) a ws in
        then_ x (nodes e + suc (suc (suc k))) n 2 2 (Q u e) i (omega (arith, wide)) (omega arith)
        (folds x e c is (suc (suc (suc k))) n 2 (omega arith) (Q u) (holes u) i
        (λ P z. up x (suc (suc k)) n 2 (omega arith) P (Q u (Value c)) i z (stepped u k 2 i (omega arith) (led (stands q u c) a)))))

    -- a comparison whose operands have their values: some silent steps lead to a decision by whether it stands
    module _ (q : Relation) (u : ℕ) (Q : Expression → Rest) (stepped : (v m f : ℕ) (i : Context) → f ≤ 2 → S x m n f (D (if stands q u v then yes else no)) i → S x (suc (suc m)) n f (Q (Value v)) i)
        (decided : (v : ℕ) (i : Context) → (a : ℕ) → X x i ≡ Silent (At r (if stands q u v then on else further) a ws) → S x 2 n 0 (Q (Value v)) i) (qx : IsHole x Q) where
      compared_sim : (e : Expression) → IsExpression x.sizes x.procedures MayCall e → nodes e + 2 ≤ x.room → (o : Operand) → IsOperand e o → (p d : ℕ) → HasAt (x.code r) p (beside o (expression_code x.procedures e) ++ op.AheadUnless (stands_to q o) d ∷ [])
          → p + length (beside o (expression_code x.procedures e)) + 1 ≡ on → p + length (beside o (expression_code x.procedures e)) + 1 + d ≡ further → S x (nodes e + 3) n 1 (Q e) (At r p u ws)
      compared_sim e good fits (Number c) is p d has at to =
          let at' : p + 1 ≡ on = omega (arith, at) in
          let to' : p + 1 + d ≡ further = omega (arith, to) in
          folds x e c is 3 n 1 (omega arith) Q qx (At r p u ws)
          (λ R z. up x 2 n 1 (omega arith) R (Q (Value c)) (At r p u ws) z
          (eased x 2 2 n 0 1 (Q (Value c)) (At r p u ws) (omega arith) (omega arith)
          (decided c (At r p u ws) u (acts x r p u ws (op.AheadUnless (test.Constant q c) d) has.0
          ∙ ap (λ y. Silent (At r (if stands q u c then y else p + 1 + d) u ws)) at' ∙ ap (λ y. Silent (At r (if stands q u c then on else y) u ws)) to'))))
      compared_sim e good fits (Name read y) is p d has at to =
          let at' : p + 1 ≡ on = omega (arith, at) in
          let to' : p + 1 + d ≡ further = omega (arith, to) in
          let lies : Lies x.sizes read is.0 = subst (λ e. IsExpression x.sizes x.procedures MayCall e) is.1 good in
          subst (λ y. S x (nodes e + 3) n 1 (Q y) (At r p u ws)) (sym is.1)
          (touches x (nodes e + 3) n 1 (Read read is.0) (Q (Plain read is.0)) (λ v. Q (Value v)) (At r p u ws) (λ v. At r (if stands q u v then on else further) u ws)
          (qx (Plain read is.0) refl)
          (acts x r p u ws (op.AheadUnless (test.Plain q read y) d) has.0
          ∙ ap (λ t. loaded read (Rattle.icode.specs.Machine.found x.offsets x.sizes read t (Rattle.icode.specs.Machine.address x.offsets x.sizes t 0)) (λ v. At r (if stands q u v then p + 1 else p + 1 + d) u ws)) is.2
          ∙ ap (λ o. loaded read o (λ v. At r (if stands q u v then p + 1 else p + 1 + d) u ws)) (found_plain x read is.0 lies)
          ∙ ap (λ t. Touch (Read read is.0) (λ v. At r (if stands q u v then t else p + 1 + d) u ws)) at'
          ∙ ap (λ t. Touch (Read read is.0) (λ v. At r (if stands q u v then on else t) u ws)) to')
          (λ v lt. then_ x (suc (suc k)) n 2 2 (Q (Value v)) (At r (if stands q u v then on else further) u ws) (omega (arith, small)) (omega arith)
          (stepped v k 2 (At r (if stands q u v then on else further) u ws) (omega arith) (led (stands q u v) u))))
      compared_sim e good fits Computed is p d has at to =
          let ce = expression_code x.procedures e in
          let jump = op.AheadUnless (test.Top q) d ∷ [] in
          let pe = p + 1 + length ce in
          let st = words.Value u ∷ ws in
          let at' : pe + 1 ≡ on = omega (arith, at) in
          let to' : pe + 1 + d ≡ further = omega (arith, to) in
          push_then x (nodes e + 3) n 0 (Q e) r p u ws has.0
          (soon_in x (nodes e + 2) n 0 0 (Q e) (At r (p + 1) u st) fits (omega arith)
          (expression_sim x MayCall calls e good fits n Q qx r (p + 1) st (has_front (x.code r) (p + 1) ce jump has.1)
          (λ v lt. rise x n 0 (Q (Value v)) (At r pe v st) (omega arith)
          (decided v (At r pe v st) v (acts x r pe v st (op.AheadUnless (test.Top q) d) (has_back (x.code r) (p + 1) ce jump has.1).0
          ∙ ap (λ y. Silent (At r (if stands q u v then y else pe + 1 + d) v ws)) at' ∙ ap (λ y. Silent (At r (if stands q u v then on else y) v ws)) to'))) u))

      -- the same of bytes
      low_compared_sim : u < 256 → (e : Expression) → IsExpression x.sizes x.procedures MayCall e → is_byte e ≡ true → nodes e + 2 ≤ x.room → (o : Operand) → IsOperand e o → (p d a : ℕ) → HasLow u a
          → HasAt (x.code r) p (beside o (low_code x.procedures e) ++ op.AheadUnless (low_stands_to q o) d ∷ [])
          → p + length (beside o (low_code x.procedures e)) + 1 ≡ on → p + length (beside o (low_code x.procedures e)) + 1 + d ≡ further → S x (nodes e + 3) n 1 (Q e) (At r p a ws)
      low_compared_sim us e good byte room (Number c) is p d a ha has at to =
          let at' : p + 1 ≡ on = omega (arith, at) in
          let to' : p + 1 + d ≡ further = omega (arith, to) in
          let lt : c < 256 = subst (λ (b : Bool). Fits b c) byte (folded_fits x.sizes x.procedures MayCall e good c is) in
          let cs : c % 256 ≡ c = omega (arith, lt) in
          let left : a % 256 ≡ u = omega (arith, ha, us) in
          folds x e c is 3 n 1 (omega arith) Q qx (At r p a ws)
          (λ R z. up x 2 n 1 (omega arith) R (Q (Value c)) (At r p a ws) z
          (eased x 2 2 n 0 1 (Q (Value c)) (At r p a ws) (omega arith) (omega arith)
          (decided c (At r p a ws) a (acts x r p a ws (op.AheadUnless (test.Low q (rights.Constant c)) d) has.0
          ∙ ap (λ y. Silent (At r (if stands q y (c % 256) then p + 1 else p + 1 + d) a ws)) left ∙ ap (λ y. Silent (At r (if stands q u y then p + 1 else p + 1 + d) a ws)) cs
          ∙ ap (λ y. Silent (At r (if stands q u c then y else p + 1 + d) a ws)) at' ∙ ap (λ y. Silent (At r (if stands q u c then on else y) a ws)) to'))))
      low_compared_sim us e good byte room (Name widths.Word y) is p d a ha has at to = absurd (true≢false (sym (subst (λ y. is_byte y ≡ true) is.1 byte)))
      low_compared_sim us e good byte room (Name widths.Byte y) is p d a ha has at to =
          let at' : p + 1 ≡ on = omega (arith, at) in
          let to' : p + 1 + d ≡ further = omega (arith, to) in
          let left : a % 256 ≡ u = omega (arith, ha, us) in
          let lies : Lies x.sizes widths.Byte is.0 = subst (λ e. IsExpression x.sizes x.procedures MayCall e) is.1 good in
          subst (λ y. S x (nodes e + 3) n 1 (Q y) (At r p a ws)) (sym is.1)
          (touches x (nodes e + 3) n 1 (Read widths.Byte is.0) (Q (Plain widths.Byte is.0)) (λ v. Q (Value v)) (At r p a ws) (λ v. At r (if stands q u v then on else further) a ws)
          (qx (Plain widths.Byte is.0) refl)
          (acts x r p a ws (op.AheadUnless (test.Low q (rights.Plain y)) d) has.0
          ∙ ap (λ t. loaded widths.Byte (Rattle.icode.specs.Machine.found x.offsets x.sizes widths.Byte t (Rattle.icode.specs.Machine.address x.offsets x.sizes t 0)) (λ v. At r (if stands q (a % 256) v then p + 1 else p + 1 + d) a ws)) is.2
          ∙ ap (λ o. loaded widths.Byte o (λ v. At r (if stands q (a % 256) v then p + 1 else p + 1 + d) a ws)) (found_plain x widths.Byte is.0 lies)
          ∙ ap (λ t. Touch (Read widths.Byte is.0) (λ v. At r (if stands q t v then p + 1 else p + 1 + d) a ws)) left
          ∙ ap (λ t. Touch (Read widths.Byte is.0) (λ v. At r (if stands q u v then t else p + 1 + d) a ws)) at'
          ∙ ap (λ t. Touch (Read widths.Byte is.0) (λ v. At r (if stands q u v then on else t) a ws)) to')
          (λ v lt. then_ x (suc (suc k)) n 2 2 (Q (Value v)) (At r (if stands q u v then on else further) a ws) (omega (arith, small)) (omega arith)
          (stepped v k 2 (At r (if stands q u v then on else further) a ws) (omega arith) (led (stands q u v) a))))
      low_compared_sim us e good byte room Computed is p d a ha has at to =
          let ce = low_code x.procedures e in
          let jump = op.AheadUnless (test.Low q rights.Top) d ∷ [] in
          let pe = p + 1 + length ce in
          let st = words.Value a ∷ ws in
          let at' : pe + 1 ≡ on = omega (arith, at) in
          let to' : pe + 1 + d ≡ further = omega (arith, to) in
          let left : a % 256 ≡ u = omega (arith, ha, us) in
          push_then x (nodes e + 3) n 0 (Q e) r p a ws has.0
          (soon_in x (nodes e + 2) n 0 0 (Q e) (At r (p + 1) a st) room (omega arith)
          (low_sim x MayCall calls e good room n Q qx r (p + 1) st (has_front (x.code r) (p + 1) ce jump has.1)
          (λ v c vf hc.
          let right : c % 256 ≡ v = (let lt : v < 256 = subst (λ (b : Bool). Fits b v) byte vf in omega (arith, hc, lt)) in
          rise x n 0 (Q (Value v)) (At r pe c st) (omega arith)
          (decided v (At r pe c st) c (acts x r pe c st (op.AheadUnless (test.Low q rights.Top) d) (has_back (x.code r) (p + 1) ce jump has.1).0
          ∙ ap (λ y. Silent (At r (if stands q y (c % 256) then pe + 1 else pe + 1 + d) c ws)) left ∙ ap (λ y. Silent (At r (if stands q u y then pe + 1 else pe + 1 + d) c ws)) right
          ∙ ap (λ y. Silent (At r (if stands q u v then y else pe + 1 + d) c ws)) at' ∙ ap (λ y. Silent (At r (if stands q u v then on else y) c ws)) to'))) a))

    -- a condition: what is computed before its test, and the test
    module _ (Q : Expression → Rest) (qx : IsHole x Q) (steps : (v : ℕ) → N x (Q (Value v)) ≡ Silent (D (if is_odd v then yes else no))) where
      plainly : (c : Expression) → IsExpression x.sizes x.procedures MayCall c → nodes c + 2 ≤ x.room → (p d : ℕ) → HasAt (x.code r) p (low_code x.procedures c ++ op.AheadUnless test.Odd d ∷ [])
          → p + length (low_code x.procedures c) + 1 ≡ on → p + length (low_code x.procedures c) + 1 + d ≡ further → (a : ℕ) → S x (nodes c + 3) n 0 (Q c) (At r p a ws)
      plainly c good room p d has at to a =
          let cc = low_code x.procedures c in
          let pc = p + length cc in
          eased x (nodes c + 2) (nodes c + 3) n 0 0 (Q c) (At r p a ws) (omega arith) (omega arith)
          (low_sim x MayCall calls c good room n Q qx r p ws (has_front (x.code r) p cc (op.AheadUnless test.Odd d ∷ []) has)
          (λ v z fits hz.
          let bits : z % 2 ≡ v % 2 = omega (arith, hz) in
          rise x n 0 (Q (Value v)) (At r pc z ws) (omega arith)
          (odd_then (Q (Value v)) pc v z d (ap (λ y. nat_eq y 1) bits) (steps v) (has_back (x.code r) p cc (op.AheadUnless test.Odd d ∷ []) has).0 at to)) a)

      -- the lowest bit of a plain BYTE, which the test reads itself
      odd_in_place : (y : Where) → Lies x.sizes widths.Byte y → (p d : ℕ) → slice_get (x.code r) p ≡ Some (op.AheadUnless (test.OddNamed (place_of y)) d) → p + 1 ≡ on → p + 1 + d ≡ further → (m f a : ℕ) → S x m n f (Q (Plain widths.Byte y)) (At r p a ws)
      odd_in_place y lies p d h at to m f a =
          touches x m n f (Read widths.Byte y) (Q (Plain widths.Byte y)) (λ v. Q (Value v)) (At r p a ws) (λ v. At r (if is_odd v then on else further) a ws) (qx (Plain widths.Byte y) refl)
          (acts x r p a ws (op.AheadUnless (test.OddNamed (place_of y)) d) h
          ∙ ap (λ o. loaded widths.Byte o (λ v. At r (if is_odd v then p + 1 else p + 1 + d) a ws)) (found_plain x widths.Byte y lies)
          ∙ ap (λ t. Touch (Read widths.Byte y) (λ v. At r (if is_odd v then t else p + 1 + d) a ws)) at
          ∙ ap (λ t. Touch (Read widths.Byte y) (λ v. At r (if is_odd v then on else t) a ws)) to)
          (λ v lt. then_ x (suc k) n 2 2 (Q (Value v)) (At r (if is_odd v then on else further) a ws) (omega (arith, small)) (omega arith)
          (up x k n 2 (omega arith) (Q (Value v)) (D (if is_odd v then yes else no)) (At r (if is_odd v then on else further) a ws) (steps v) (led (is_odd v) a)))

      -- a relation between two values leads to a decision by two silent steps
      relation_value : (m l : ℕ) (o : BinaryOperation) (w : Width) (q : Relation) → relation_of o ≡ Some q → (u v : ℕ) → N x (Q (Binary m l o w (Value u) (Value v))) ≡ Silent (Q (Value (truth (stands q u v))))
      relation_value m l o w q e u v = qx (Binary m l o w (Value u) (Value v)) refl ∙ ap (λ y. map_action Q (operated m l y)) (relation_is o q e w u v)

      relation_leads : (q : Relation) (u v : ℕ) → N x (Q (Value (truth (stands q u v)))) ≡ Silent (D (if stands q u v then yes else no))
      relation_leads q u v = steps (truth (stands q u v)) ∙ ap (λ y. Silent (D (if y then yes else no))) (odd_truth (stands q u v))

      relation_stepped : (m l : ℕ) (o : BinaryOperation) (w : Width) (q : Relation) → relation_of o ≡ Some q → (u v j f : ℕ) (i : Context) → f ≤ 2 → S x j n f (D (if stands q u v then yes else no)) i → S x (suc (suc j)) n f (Q (Binary m l o w (Value u) (Value v))) i
      relation_stepped m l o w q e u v j f i le h =
          let V = Q (Value (truth (stands q u v))) in
          up x (suc j) n f le (Q (Binary m l o w (Value u) (Value v))) V i (relation_value m l o w q e u v) (up x j n f le V (D (if stands q u v then yes else no)) i (relation_leads q u v) h)

      relation_decided : (m l : ℕ) (o : BinaryOperation) (w : Width) (q : Relation) → relation_of o ≡ Some q → (u v : ℕ) (i : Context) (a : ℕ) → X x i ≡ Silent (At r (if stands q u v then on else further) a ws) → S x 2 n 0 (Q (Binary m l o w (Value u) (Value v))) i
      relation_decided m l o w q e u v i a h =
          let V = Q (Value (truth (stands q u v))) in
          up x 1 n 0 (omega arith) (Q (Binary m l o w (Value u) (Value v))) V i (relation_value m l o w q e u v)
          (both x 0 n 0 V (D (if stands q u v then yes else no)) i (At r (if stands q u v then on else further) a ws) (relation_leads q u v) h (led_soon (stands q u v) a))

      -- operands that are read or computed before the test
      by_comparison : (m l : ℕ) (o : BinaryOperation) (w : Width) (c b : Expression) → IsExpression x.sizes x.procedures MayCall c → IsExpression x.sizes x.procedures MayCall b → nodes (Binary m l o w c b) + 2 ≤ x.room → (q : Relation) → relation_of o ≡ Some q → (y : Bool) → are_bytes c b ≡ y → (p d : ℕ)
          → HasAt (x.code r) p (compared y (low_code x.procedures c ++ beside (operand_of b) (low_code x.procedures b)) (expression_code x.procedures c ++ beside (operand_of b) (expression_code x.procedures b)) ++ op.AheadUnless (related y q (operand_of b)) d ∷ [])
          → p + length (compared y (low_code x.procedures c ++ beside (operand_of b) (low_code x.procedures b)) (expression_code x.procedures c ++ beside (operand_of b) (expression_code x.procedures b))) + 1 ≡ on
          → p + length (compared y (low_code x.procedures c ++ beside (operand_of b) (low_code x.procedures b)) (expression_code x.procedures c ++ beside (operand_of b) (expression_code x.procedures b))) + 1 + d ≡ further
          → (a : ℕ) → S x (nodes (Binary m l o w c b) + 3) n 0 (Q (Binary m l o w c b)) (At r p a ws)
      by_comparison m l o w c b gc gb room q e true f p d has at to a =
          let cc = low_code x.procedures c in
          let cb = beside (operand_of b) (low_code x.procedures b) in
          let jump = op.AheadUnless (low_stands_to q (operand_of b)) d ∷ [] in
          let pc = p + length cc in
          let has' : HasAt (x.code r) p (cc ++ (cb ++ jump)) = subst (λ y. HasAt (x.code r) p y) (Rattle.std.proofs.Common.append_assoc cc cb jump) has in
          let len = length-append cc cb in
          eased x (nodes c + 2) (nodes (Binary m l o w c b) + 3) n 0 0 (Q (Binary m l o w c b)) (At r p a ws) (omega arith) (omega arith)
          (low_sim x MayCall calls c gc (omega (arith, room)) n (λ y. Q (Binary m l o w y b)) (in_left x Q qx m l o w b) r p ws (has_front (x.code r) p cc (cb ++ jump) has')
          (λ u z fits hu.
          let us : u < 256 = subst (λ (f : Bool). Fits f u) (and_parts (is_byte c) (is_byte b) f).0 fits in
          let Q' = λ (y : Expression). Q (Binary m l o w (Value u) y) in
          eased x (nodes b + 3) x.room n 1 2 (Q' b) (At r pc z ws) (omega (arith, room)) (omega arith)
          (low_compared_sim q u Q'
          (relation_stepped m l o w q e u) (relation_decided m l o w q e u)
          (in_right x Q qx m l o w u) us b gb (and_parts (is_byte c) (is_byte b) f).1 (omega (arith, room)) (operand_of b) (operand_is b) pc d z hu (has_back (x.code r) p cc (cb ++ jump) has') (omega (arith, at, len)) (omega (arith, to, len)))) a)
      by_comparison m l o w c b gc gb room q e false f p d has at to a =
          let cc = expression_code x.procedures c in
          let cb = beside (operand_of b) (expression_code x.procedures b) in
          let jump = op.AheadUnless (stands_to q (operand_of b)) d ∷ [] in
          let pc = p + length cc in
          let has' : HasAt (x.code r) p (cc ++ (cb ++ jump)) = subst (λ y. HasAt (x.code r) p y) (Rattle.std.proofs.Common.append_assoc cc cb jump) has in
          let len = length-append cc cb in
          eased x (nodes c + 2) (nodes (Binary m l o w c b) + 3) n 0 0 (Q (Binary m l o w c b)) (At r p a ws) (omega arith) (omega arith)
          (expression_sim x MayCall calls c gc (omega (arith, room)) n (λ y. Q (Binary m l o w y b)) (in_left x Q qx m l o w b) r p ws (has_front (x.code r) p cc (cb ++ jump) has')
          (λ u lt.
          let Q' = λ (y : Expression). Q (Binary m l o w (Value u) y) in
          eased x (nodes b + 3) x.room n 1 2 (Q' b) (At r pc u ws) (omega (arith, room)) (omega arith)
          (compared_sim q u Q'
          (relation_stepped m l o w q e u) (relation_decided m l o w q e u)
          (in_right x Q qx m l o w u) b gb (omega (arith, room)) (operand_of b) (operand_is b) pc d (has_back (x.code r) p cc (cb ++ jump) has') (omega (arith, at, len)) (omega (arith, to, len)))) a)

      -- the left operand is read by the test itself
      by_scalar : (m l : ℕ) (o : BinaryOperation) (w : Width) (c b : Expression) → IsExpression x.sizes x.procedures MayCall c → IsExpression x.sizes x.procedures MayCall b → k + nodes (Binary m l o w c b) ≤ x.room → (q : Relation) → relation_of o ≡ Some q → (y : Bool) → are_bytes c b ≡ y
          → (v : Width) (z : Place) (j : ℕ) → IsOperand c (Name v z) → IsOperand b (Number j) → Suits y v → (p d : ℕ) → slice_get (x.code r) p ≡ Some (op.AheadUnless (test.Named q v z j) d) → p + 1 ≡ on → p + 1 + d ≡ further
          → (a : ℕ) → S x (nodes (Binary m l o w c b) + 3) n 0 (Q (Binary m l o w c b)) (At r p a ws)
      by_scalar m l o w c b gc gb wide q e y f v z j is known suits p d h at to a =
          let s = is.0 in
          let lies : Lies x.sizes v s = subst (λ t. IsExpression x.sizes x.procedures MayCall t) is.1 gc in
          let narrow : y ≡ true → is_byte b ≡ true = λ g. (and_parts (is_byte c) (is_byte b) (f ∙ g)).1 in
          subst (λ t. S x (nodes (Binary m l o w c b) + 3) n 0 (Q (Binary m l o w t b)) (At r p a ws)) (sym is.1)
          (named_sim q v s lies b j known (constant_fits x.sizes x.procedures MayCall b gb j known y narrow v suits) (omega (arith, wide)) (Q (Binary m l o w (Plain v s) b)) (λ u t. Q (Binary m l o w (Value u) t)) (λ u. in_right x Q qx m l o w u)
          (in_left x Q qx m l o w b (Plain v s) refl)
          (λ u. relation_stepped m l o w q e u j)
          p d (subst (λ t. slice_get (x.code r) p ≡ Some (op.AheadUnless (test.Named q v t j) d)) is.2 h) at to (nodes (Binary m l o w c b) + 3) 0 a)

      by_relation : (m l : ℕ) (o : BinaryOperation) (w : Width) (c b : Expression) → IsExpression x.sizes x.procedures MayCall c → IsExpression x.sizes x.procedures MayCall b → nodes (Binary m l o w c b) + 2 ≤ x.room → k + nodes (Binary m l o w c b) ≤ x.room → (z : Option Relation) → relation_of o ≡ z
          → (y : Bool) → are_bytes c b ≡ y → (p d : ℕ)
          → HasAt (x.code r) p (asking z (λ q. unless_named (named y q (operand_of c) (operand_of b)) (compared y (low_code x.procedures c ++ beside (operand_of b) (low_code x.procedures b)) (expression_code x.procedures c ++ beside (operand_of b) (expression_code x.procedures b)))) (low_code x.procedures (Binary m l o w c b)) ++ op.AheadUnless (asked z y (operand_of c) (operand_of b)) d ∷ [])
          → p + length (asking z (λ q. unless_named (named y q (operand_of c) (operand_of b)) (compared y (low_code x.procedures c ++ beside (operand_of b) (low_code x.procedures b)) (expression_code x.procedures c ++ beside (operand_of b) (expression_code x.procedures b)))) (low_code x.procedures (Binary m l o w c b))) + 1 ≡ on
          → p + length (asking z (λ q. unless_named (named y q (operand_of c) (operand_of b)) (compared y (low_code x.procedures c ++ beside (operand_of b) (low_code x.procedures b)) (expression_code x.procedures c ++ beside (operand_of b) (expression_code x.procedures b)))) (low_code x.procedures (Binary m l o w c b))) + 1 + d ≡ further
          → (a : ℕ) → S x (nodes (Binary m l o w c b) + 3) n 0 (Q (Binary m l o w c b)) (At r p a ws)
      by_relation m l o w c b gc gb room wide None e y f p d has at to a = plainly (Binary m l o w c b) (gc, gb) room p d has at to a
      by_relation m l o w c b gc gb room wide (Some q) e y f p d has at to a =
          let comparison = compared y (low_code x.procedures c ++ beside (operand_of b) (low_code x.procedures b)) (expression_code x.procedures c ++ beside (operand_of b) (expression_code x.procedures b)) in
          by_named
          (λ z. HasAt (x.code r) p (unless_named z comparison ++ op.AheadUnless (or_test z (related y q (operand_of b))) d ∷ []) → p + length (unless_named z comparison) + 1 ≡ on → p + length (unless_named z comparison) + 1 + d ≡ further
          → S x (nodes (Binary m l o w c b) + 3) n 0 (Q (Binary m l o w c b)) (At r p a ws))
          y q (operand_of c) (operand_of b)
          (λ has at to. by_comparison m l o w c b gc gb room q e y f p d has at to a)
          (λ v z j is number suits has at to. by_scalar m l o w c b gc gb wide q e y f v z j (subst (λ t. IsOperand c t) is (operand_is c)) (subst (λ t. IsOperand b t) number (operand_is b)) suits p d has.0 (omega (arith, at)) (omega (arith, to)) a)
          has at to

      pub condition_sim : (c : Expression) → IsExpression x.sizes x.procedures MayCall c → nodes c + 2 ≤ x.room → k + nodes c ≤ x.room → (p d : ℕ) → HasAt (x.code r) p (condition_code x.procedures c ++ op.AheadUnless (test_of c) d ∷ [])
          → p + length (condition_code x.procedures c) + 1 ≡ on → p + length (condition_code x.procedures c) + 1 + d ≡ further → (a : ℕ) → S x (nodes c + 3) n 0 (Q c) (At r p a ws)
      condition_sim (Constant v) good fits wide p d has at to a = plainly (Constant v) good fits p d has at to a
      condition_sim (Plain widths.Byte y) good fits wide p d has at to a = odd_in_place y good p d has.0 (omega (arith, at)) (omega (arith, to)) (nodes (Plain widths.Byte y) + 3) 0 a
      condition_sim (Plain widths.Word y) good fits wide p d has at to a = plainly (Plain widths.Word y) good fits p d has at to a
      condition_sim (Variable w q) good fits wide p d has at to a = plainly (Variable w q) good fits p d has at to a
      condition_sim (Location q) good fits wide p d has at to a = plainly (Location q) good fits p d has at to a
      condition_sim (Unary o w e) good fits wide p d has at to a = plainly (Unary o w e) good fits p d has at to a
      condition_sim (Binary m l o w c b) good fits wide p d has at to a = by_relation m l o w c b good.0 good.1 fits wide (relation_of o) refl (are_bytes c b) refl p d has at to a
      condition_sim (Embedded t e) good fits wide p d has at to a = plainly (Embedded t e) good fits p d has at to a
      condition_sim (Input w e) good fits wide p d has at to a = plainly (Input w e) good fits p d has at to a
      condition_sim (Call q es) good fits wide p d has at to a = plainly (Call q es) good fits p d has at to a
      condition_sim (Value v) good fits wide p d has at to a = absurd good
      condition_sim (Passing q xs vs) good fits wide p d has at to a = absurd good
      condition_sim (Running ss) good fits wide p d has at to a = absurd good

    -- the bound of an index i, which is not behind it
    module _ (o : Counting) (i z : ℕ) (Q : Expression → Rest) (qx : IsHole x Q) (steps : (v : ℕ) → N x (Q (Value v)) ≡ Silent (D (if has_passed o i v then no else yes))) where
      bound_leads : (v : ℕ) → N x (Q (Value v)) ≡ Silent (D (if stands (within o) i v then yes else no))
      bound_leads v = steps v ∙ ap (λ s. Silent (D s)) (other_way (has_passed o i v) no yes) ∙ ap (λ b. Silent (D (if b then yes else no))) (sym (reaches o i v))

      bound_stepped : (v m f : ℕ) (c : Context) → f ≤ 2 → S x m n f (D (if stands (within o) i v then yes else no)) c → S x (suc (suc m)) n f (Q (Value v)) c
      bound_stepped v j f c le h = eased x (suc j) (suc (suc j)) n f f (Q (Value v)) c (omega arith) (omega arith) (up x j n f le (Q (Value v)) (D (if stands (within o) i v then yes else no)) c (bound_leads v) h)

      bound_decided : (v : ℕ) (c : Context) (a : ℕ) → X x c ≡ Silent (At r (if stands (within o) i v then on else further) a ws) → S x 2 n 0 (Q (Value v)) c
      bound_decided v c a h = both x 1 n 0 (Q (Value v)) (D (if stands (within o) i v then yes else no)) c (At r (if stands (within o) i v then on else further) a ws) (bound_leads v) h (led_soon (stands (within o) i v) a)

      bound_by : (bytes : Bool) (e : Expression) → IsExpression x.sizes x.procedures MayCall e → Holds bytes i z e → nodes e + 2 ≤ x.room → (p d : ℕ)
          → HasAt (x.code r) p (compared bytes (beside (operand_of e) (low_code x.procedures e)) (beside (operand_of e) (expression_code x.procedures e)) ++ op.AheadUnless (related bytes (within o) (operand_of e)) d ∷ [])
          → p + length (compared bytes (beside (operand_of e) (low_code x.procedures e)) (beside (operand_of e) (expression_code x.procedures e))) + 1 ≡ on
          → p + length (compared bytes (beside (operand_of e) (low_code x.procedures e)) (beside (operand_of e) (expression_code x.procedures e))) + 1 + d ≡ further → S x (nodes e + 3) n 1 (Q e) (At r p z ws)
      bound_by true e good holds fits p d has at to =
          low_compared_sim (within o) i Q bound_stepped bound_decided qx holds.0 e good holds.1 fits (operand_of e) (operand_is e) p d z holds.2 has at to
      bound_by false e good holds fits p d has at to =
          subst (λ c. S x (nodes e + 3) n 1 (Q e) (At r p c ws)) (sym holds) (compared_sim (within o) i Q bound_stepped bound_decided qx e good fits (operand_of e) (operand_is e) p d has at to)

    pub bound_sim : (bytes : Bool) (o : Counting) (i z : ℕ) (Q : Expression → Rest) → IsHole x Q → ((v : ℕ) → N x (Q (Value v)) ≡ Silent (D (if has_passed o i v then no else yes))) → (e : Expression) → IsExpression x.sizes x.procedures MayCall e → Holds bytes i z e → nodes e + 2 ≤ x.room → (p d : ℕ)
        → HasAt (x.code r) p (compared bytes (beside (operand_of e) (low_code x.procedures e)) (beside (operand_of e) (expression_code x.procedures e)) ++ op.AheadUnless (related bytes (within o) (operand_of e)) d ∷ [])
        → p + length (compared bytes (beside (operand_of e) (low_code x.procedures e)) (beside (operand_of e) (expression_code x.procedures e))) + 1 ≡ on
        → p + length (compared bytes (beside (operand_of e) (low_code x.procedures e)) (beside (operand_of e) (expression_code x.procedures e))) + 1 + d ≡ further → S x (nodes e + 3) n 1 (Q e) (At r p z ws)
    bound_sim bytes o i z Q qx steps e good holds fits p d has at to = bound_by o i z Q qx steps bytes e good holds fits p d has at to

    -- of an index that the test reads itself
    pub bound_in_place : (o : Counting) (w : Width) (y : Where) → Lies x.sizes w y → (R : Rest) (Q : ℕ → Expression → Rest) → ((i : ℕ) → IsHole x (Q i)) → ((i v : ℕ) → N x (Q i (Value v)) ≡ Silent (D (if has_passed o i v then no else yes))) → (e : Expression) → N x R ≡ Touch (Read w y) (λ i. Q i e) → (c : ℕ) → folded e ≡ Some c → low w c ≡ c
        → k + nodes e ≤ x.room → (p d : ℕ) → slice_get (x.code r) p ≡ Some (op.AheadUnless (test.Named (within o) w (place_of y) c) d) → p + 1 ≡ on → p + 1 + d ≡ further → (m f a : ℕ) → S x m n f R (At r p a ws)
    bound_in_place o w y lies R Q holes steps e reads c is same wide p d h at to m f a =
        named_sim (within o) w y lies e c is same wide R Q holes reads (λ i j f g le go. bound_stepped o i a (Q i) (holes i) (steps i) c j f g le go) p d h at to m f a

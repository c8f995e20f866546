-- The code of expressions, references, targets and calls does what their rests do.
use Rattle.std.proofs.lemmas.Bool.{le-leb}
use Rattle.std.proofs.lemmas.Option.{none-some, same_Some}
use Rattle.std.proofs.Common.{◌≡◌, ℕ, suc, ◌+◌, ◌*◌, ◌%◌, ◌≤◌, List, [], ◌∷◌, ◌++◌, length, drop, Option, Some, None, refl, ap, ◌∙◌, subst, arith, slice_get, length-append, ◌<◌, append_assoc, sym}
use Rattle.std.specs.Prelude.{if◌then◌else◌, nat_eq}
use Rattle.word86.specs.declared.width.Width.{Width}
use Rattle.word86.specs.declared.width.Width.TheVariants as widths
use Rattle.word86.specs.declared.operation.BinaryOperation.TheVariants as binary
use Rattle.word86.specs.Access.{Access, Read, Write, Output, Where}
use Rattle.word86.specs.Access as access
use Rattle.word86.specs.Action.{Silent, Touch, Bad, map_action}
use Rattle.word86.specs.Arithmetic.{low}
use Rattle.plm_type.specs.Rest.{Anchor, InObject, OnScreen, Behind, There, Scalar, Expression, Constant, Plain, Variable, Location, Unary, Binary, Embedded, Input, Call, Value, Passing, Running, Expressions, NoMore, More, Reference, Refer, Subscripts, NoSubscripts, Subscript, Target, ToPlain, ToVariable, ToPort, Statements, Procedure, Rest}
use Rattle.plm_type.specs.Next.{value_of, next_passing, next_call, indexed, next_expressions, parameters_of, body_of}
use Rattle.icode.specs.declared.instruction.Instruction.TheVariants as op
use Rattle.icode.specs.declared.instruction.Instruction.{Instruction}
use Rattle.icode.specs.declared.instruction.LowByte.TheVariants as lows
use Rattle.icode.specs.declared.instruction.High.TheVariants as highs
use Rattle.icode.specs.declared.code.Routine.{Routine}
use Rattle.icode.specs.declared.code.Routine.TheVariants as routine
use Rattle.icode.specs.declared.code.Word.{Word}
use Rattle.icode.specs.declared.code.Word.TheVariants.{Return}
use Rattle.icode.specs.declared.code.Word.TheVariants as words
use Rattle.icode.specs.Machine.{Context, At, stored, with_value, value_in, settled, loaded}
use Rattle.lower.proofs.Known.{argument_computed, known_code}
use Rattle.lower.specs.Expressions.{leads_to, by_offset, writing, folded, Operand, Number, Name, Computed, operand_of, place_of, beside, operation, anchor_place, scaled, reading, locating, based, receiving, sending, passing, alone, count_of, are_giving, gives, used, expression_code, pushed_code, subscripts_code, target_code, calling, stored_in, argument_code, second_passed, pair}
use Rattle.lower.specs.Well.{AllLie, AnchorLies, IsExpression, AreExpressions, AreSubscripts, IsTarget, Lies}
use Rattle.lower.proofs.Setting.{Setting}
use Rattle.lower.proofs.Sim.{N, S, eased, then_, up, down, both, touches, T}
use Rattle.lower.proofs.Holes.{IsHole, AreHoles, IsReferenceHole, IsTargetHole, in_unary, in_left, in_right, in_input, in_embedded, in_arguments, in_variable, in_location, in_embedded_target, in_first, in_others, in_subscript, acts, HasAt, has_front, has_back}
use Rattle.lower.proofs.Memory.{found_plain}
use Rattle.lower.proofs.Values.{values_small}
use Rattle.lower.proofs.Nodes.{nodes, all_nodes, subscripts_nodes, target_nodes}
use Rattle.lower.proofs.Folds.{folds, folded_small}
use Rattle.lower.proofs.Exprs.{IsOperand, operand_is, of_values, pushed, values_back, get_pushed, drop_pushed, length_pushed, Reached, one_sum, two_sums, After, Left, ProcedureRuns, moved_to, after_at, left_at, used_then, rise_in, rise, ended, soon_in, soon, push_then, folded_then, known_then, plain_then, unary_then, right_then, scaled_then, read_final, locate_final, fixed_written, behind_written}

-- what a target gets of a value it gets of the accumulator
abbrev pub Gets : Target → (value accumulator : ℕ) → Type 0
Gets (ToPlain w y) v u = low w u ≡ low w v
Gets (ToVariable w q) v u = low w u ≡ low w v
Gets (ToPort w e) v u = low w u ≡ low w v

pub gets_itself : (t : Target) (v : ℕ) → Gets t v v
gets_itself (ToPlain w y) v = refl
gets_itself (ToVariable w q) v = refl
gets_itself (ToPort w e) v = refl

module _ (x : Setting) (MayCall : ℕ → Type 0) (calls : (q : ℕ) → MayCall q → ProcedureRuns x q) where
  abbrev Good : Expression → Type 0
  Good e = IsExpression x.sizes x.procedures MayCall e

  -- what is still to be evaluated is no value
  pub not_value : (e : Expression) → IsExpression x.sizes x.procedures MayCall e → value_of e ≡ None
  not_value (Constant k) good = refl
  not_value (Plain w z) good = refl
  not_value (Variable w r) good = refl
  not_value (Location r) good = refl
  not_value (Unary o w e) good = refl
  not_value (Binary m l o w a b) good = refl
  not_value (Embedded t e) good = refl
  not_value (Input w e) good = refl
  not_value (Call p es) good = refl
  not_value (Value v) good = absurd good
  not_value (Passing p xs vs) good = refl
  not_value (Running ss) good = refl

  lifted : (m k n f : ℕ) (R : Rest) (i : Context) → m ≤ k → S x m n f R i → S x k n f R i
  lifted m k n f R i le h = eased x m k n f f R i le (omega arith) h

  -- what the code of an expression does, wherever it stands
  abbrev pub Runs : Expression → ℕ → (Expression → Rest) → Routine → List Word → Type 0
  Runs e n C r ws = (p : ℕ) → HasAt (x.code r) p (expression_code x.procedures e) → After x n C r (p + length (expression_code x.procedures e)) ws → (a : ℕ) → S x (nodes e + 2) n 0 (C e) (At r p a ws)

  -- ---- ports

  received_from : (e : Expression) (n : ℕ) (C : Expression → Rest) → IsHole x C → (w : Width) (r : Routine) (p : ℕ) (ws : List Word) → HasAt (x.code r) p (expression_code x.procedures e ++ op.Receive w ∷ [])
      → After x n C r (p + length (expression_code x.procedures e ++ op.Receive w ∷ [])) ws → Runs e n (λ y. C (Input w y)) r ws → (a : ℕ) → S x (nodes e + 2) n 0 (C (Input w e)) (At r p a ws)
  received_from e n C cx w r p ws has after sim a =
      let ce = expression_code x.procedures e in
      let pe = p + length ce in
      sim p (has_front (x.code r) p ce (op.Receive w ∷ []) has)
      (λ q lt. rise x n 0 (C (Input w (Value q))) (At r pe q ws) (omega arith)
      (touches x 2 n 0 (access.Input w q) (C (Input w (Value q))) (λ v. C (Value v)) (At r pe q ws) (λ v. At r (pe + 1) v ws) (cx (Input w (Value q)) refl) (acts x r pe q ws (op.Receive w) (has_back (x.code r) p ce (op.Receive w ∷ []) has).0)
      (λ v lt. ended x n C r (pe + 1) ws (after_at x n C r (p + length (ce ++ op.Receive w ∷ [])) (pe + 1) ws (omega (arith, length-append ce (op.Receive w ∷ []))) after) v (values_small w v lt)))) a

  received : (e : Expression) (o : Operand) → IsOperand e o → (n : ℕ) (C : Expression → Rest) → IsHole x C → (w : Width) (r : Routine) (p : ℕ) (ws : List Word) → HasAt (x.code r) p (receiving w o (expression_code x.procedures e))
      → After x n C r (p + length (receiving w o (expression_code x.procedures e))) ws → Runs e n (λ y. C (Input w y)) r ws → (a : ℕ) → S x (nodes e + 2) n 0 (C (Input w e)) (At r p a ws)
  received e (Number k) is n C cx w r p ws has after sim a =
      folds x e k is 2 n 0 (omega arith) (λ y. C (Input w y)) (in_input x C cx w) (At r p a ws)
      (λ R u. up x 1 n 0 (omega arith) R (C (Input w (Value k))) (At r p a ws) u
      (touches x 1 n 0 (access.Input w k) (C (Input w (Value k))) (λ v. C (Value v)) (At r p a ws) (λ v. At r (p + 1) v ws) (cx (Input w (Value k)) refl) (acts x r p a ws (op.ReceiveFrom w k) has.0) (λ v lt. ended x n C r (p + 1) ws after v (values_small w v lt))))
  received e (Name read y) is n C cx w r p ws has after sim a = received_from e n C cx w r p ws has after sim a
  received e Computed is n C cx w r p ws has after sim a = received_from e n C cx w r p ws has after sim a

  -- what is in the accumulator is sent
  sent_to : (e : Expression) → nodes e + 2 ≤ x.room → (n v u : ℕ) (C : Target → Rest) (done : Rest) → IsTargetHole x v C done → (w : Width) → low w u ≡ low w v → (r : Routine) (p : ℕ) (ws : List Word) → HasAt (x.code r) p (op.Push ∷ (expression_code x.procedures e ++ op.Send w ∷ []))
      → S x x.room n 2 done (At r (p + length (op.Push ∷ (expression_code x.procedures e ++ op.Send w ∷ []))) u ws) → Runs e n (λ y. C (ToPort w y)) r (words.Value u ∷ ws) → S x (nodes e + 2) n 2 (C (ToPort w e)) (At r p u ws)
  sent_to e fits n v u C done tx w gets r p ws has after sim =
      let ce = expression_code x.procedures e in
      let pe = p + 1 + length ce in
      let st = words.Value u ∷ ws in
      push_then x (nodes e + 2) n 1 (C (ToPort w e)) r p u ws has.0
      (soon_in x (nodes e + 2) n 0 1 (C (ToPort w e)) (At r (p + 1) u st) fits (omega arith)
      (sim (p + 1) (has_front (x.code r) (p + 1) ce (op.Send w ∷ []) has.1)
      (λ q lt. rise x n 0 (C (ToPort w (Value q))) (At r pe q st) (omega arith)
      (touches x 2 n 0 (Output w q (low w v)) (C (ToPort w (Value q))) (λ z. done) (At r pe q st) (λ z. At r (pe + 1) u ws) (tx.port w q)
      (acts x r pe q st (op.Send w) (has_back (x.code r) (p + 1) ce (op.Send w ∷ []) has.1).0 ∙ ap (λ y. Touch (Output w q y) (λ _. At r (pe + 1) u ws)) gets)
      (λ z lt. then_ x x.room n 2 2 done (At r (pe + 1) u ws) (omega arith) (omega arith) (moved_to x x.room n 2 done r (p + length (op.Push ∷ (ce ++ op.Send w ∷ []))) (pe + 1) u ws (omega (arith, length-append ce (op.Send w ∷ []))) after)))) u))

  sent : (e : Expression) → nodes e + 2 ≤ x.room → (o : Operand) → IsOperand e o → (n v u : ℕ) (C : Target → Rest) (done : Rest) → IsTargetHole x v C done → (w : Width) → low w u ≡ low w v → (r : Routine) (p : ℕ) (ws : List Word) → HasAt (x.code r) p (sending w o (expression_code x.procedures e))
      → S x x.room n 2 done (At r (p + length (sending w o (expression_code x.procedures e))) u ws) → Runs e n (λ y. C (ToPort w y)) r (words.Value u ∷ ws) → S x (nodes e + 2) n 2 (C (ToPort w e)) (At r p u ws)
  sent e fits (Number k) is n v u C done tx w gets r p ws has after sim =
      folds x e k is 2 n 2 (omega arith) (λ y. C (ToPort w y)) (tx.port_part w) (At r p u ws)
      (λ R t. up x 1 n 2 (omega arith) R (C (ToPort w (Value k))) (At r p u ws) t
      (touches x 1 n 2 (Output w k (low w v)) (C (ToPort w (Value k))) (λ z. done) (At r p u ws) (λ z. At r (p + 1) u ws) (tx.port w k) (acts x r p u ws (op.SendTo w k) has.0 ∙ ap (λ y. Touch (Output w k y) (λ _. At r (p + 1) u ws)) gets)
      (λ z lt. then_ x x.room n 2 2 done (At r (p + 1) u ws) (omega arith) (omega arith) after)))
  sent e fits (Name read y) is n v u C done tx w gets r p ws has after sim = sent_to e fits n v u C done tx w gets r p ws has after sim
  sent e fits Computed is n v u C done tx w gets r p ws has after sim = sent_to e fits n v u C done tx w gets r p ws has after sim

  -- ---- calls

  -- a call whose parameters have their values
  invoked : (q : ℕ) (procedure : Procedure) → slice_get x.procedures q ≡ Some procedure → MayCall q → (n : ℕ) (C : Expression → Rest) → IsHole x C → (R : Rest) → N x R ≡ Silent (C (Running procedure.body))
      → (r : Routine) (p a : ℕ) (ws : List Word) → slice_get (x.code r) p ≡ Some (op.Invoke q) → Left x (are_giving procedure.body) n C r (p + 1) ws → S x 2 n 0 R (At r p a ws)
  invoked q procedure got may n C cx R u r p a ws h after =
      let st = Return (record { routine = r; index = p + 1 }) ∷ ws in
      both x 1 n 0 R (C (Running procedure.body)) (At r p a ws) (At (routine.Procedure q) 0 a st) u (acts x r p a ws (op.Invoke q) h)
      (then_ x x.room n 2 2 (C (Running procedure.body)) (At (routine.Procedure q) 0 a st) (omega arith) (omega arith) (calls q may procedure got n C cx r (p + 1) ws after a))

  none_left : (q : ℕ) (xs : List Scalar) (body : Statements) → next_passing q xs [] body ≡ Silent (Running body)
  none_left q [] body = refl
  none_left q (y ∷ xs) body = refl

  called_is : (q : ℕ) (procedure : Procedure) → slice_get x.procedures q ≡ Some procedure → (C : Expression → Rest) → IsHole x C → (vs : List ℕ) → N x (C (Call q (of_values vs))) ≡ map_action C (next_passing q procedure.parameters vs procedure.body)
  called_is q procedure got C cx vs =
      let a = next_expressions x.offsets x.sizes x.procedures (of_values vs) in
      cx (Call q (of_values vs)) refl ∙ ap (λ y. map_action C (next_call q y (slice_get x.procedures q) a)) (values_back vs) ∙ ap (λ y. map_action C (next_call q (Some vs) y a)) got

  passing_is : (q : ℕ) (procedure : Procedure) → slice_get x.procedures q ≡ Some procedure → (C : Expression → Rest) → IsHole x C → (xs : List Scalar) (vs : List ℕ) → N x (C (Passing q xs vs)) ≡ map_action C (next_passing q xs vs procedure.body)
  passing_is q procedure got C cx xs vs = cx (Passing q xs vs) refl ∙ ap (λ o. map_action C (next_passing q xs vs (body_of o))) got

  -- what may follow an argument for a parameter of a width
  abbrev Argued : Width → ℕ → (Expression → Rest) → Routine → ℕ → List Word → Type 0
  Argued w n C r p ws = (v u : ℕ) → v < 65536 → low w u ≡ low w v → S x x.room n 2 (C (Value v)) (At r p u ws)

  argued_at : (w : Width) (n : ℕ) (C : Expression → Rest) (r : Routine) (p q : ℕ) (ws : List Word) → p ≡ q → Argued w n C r p ws → Argued w n C r q ws
  argued_at w n C r p q ws e k v u lt is = moved_to x x.room n 2 (C (Value v)) r p q u ws e (k v u lt is)

  argued : (w : Width) (e : Expression) → IsExpression x.sizes x.procedures MayCall e → (o : Operand) → IsOperand e o → (n : ℕ) (C : Expression → Rest) → IsHole x C → (r : Routine) (p : ℕ) (ws : List Word) → HasAt (x.code r) p (argument_code w o (expression_code x.procedures e))
      → Argued w n C r (p + length (argument_code w o (expression_code x.procedures e))) ws → Runs e n C r ws → (a : ℕ) → S x (nodes e + 2) n 0 (C e) (At r p a ws)
  argued widths.Word e good o is n C cx r p ws has after sim a = sim p has (λ v lt. after v v lt refl) a
  argued widths.Byte e good (Number k) is n C cx r p ws has after sim a =
      folds x e k is 2 n 0 (omega arith) C cx (At r p a ws)
      (λ R u. both x 1 n 0 R (C (Value k)) (At r p a ws) (At r (p + 1) (settled highs.Kept a (k % 256)) ws) u (acts x r p a ws (op.Low (lows.Constant k) highs.Kept) has.0)
      (then_ x x.room n 2 2 (C (Value k)) (At r (p + 1) (settled highs.Kept a (k % 256)) ws) (omega arith) (omega arith) (after k (settled highs.Kept a (k % 256)) (folded_small x.sizes x.procedures MayCall e good k is) (omega arith))))
  argued widths.Byte e good (Name widths.Byte y) is n C cx r p ws has after sim a =
      let lies : Lies x.sizes widths.Byte is.0 = subst (λ e. IsExpression x.sizes x.procedures MayCall e) is.1 good in
      subst (λ z. S x (nodes e + 2) n 0 (C z) (At r p a ws)) (sym is.1)
      (touches x (nodes e + 2) n 0 (Read widths.Byte is.0) (C (Plain widths.Byte is.0)) (λ v. C (Value v)) (At r p a ws) (λ v. At r (p + 1) (settled highs.Kept a v) ws) (cx (Plain widths.Byte is.0) refl)
      (acts x r p a ws (op.Low (lows.Load y) highs.Kept) has.0
      ∙ ap (λ t. loaded widths.Byte (Rattle.icode.specs.Machine.found x.offsets x.sizes widths.Byte t (Rattle.icode.specs.Machine.address x.offsets x.sizes t 0)) (λ v. At r (p + 1) (settled highs.Kept a v) ws)) is.2
      ∙ ap (λ o. loaded widths.Byte o (λ v. At r (p + 1) (settled highs.Kept a v) ws)) (found_plain x widths.Byte is.0 lies))
      (λ v lt. then_ x x.room n 2 2 (C (Value v)) (At r (p + 1) (settled highs.Kept a v) ws) (omega arith) (omega arith) (after v (settled highs.Kept a v) (values_small widths.Byte v lt) (omega arith))))
  argued widths.Byte e good (Name widths.Word y) is n C cx r p ws has after sim a = sim p has (λ v lt. after v v lt refl) a
  argued widths.Byte e good Computed is n C cx r p ws has after sim a = sim p has (λ v lt. after v v lt refl) a

  -- the last parameter gets what is in the accumulator of its argument v
  last_stored : (q : ℕ) (procedure : Procedure) → slice_get x.procedures q ≡ Some procedure → MayCall q → (n : ℕ) (C : Expression → Rest) → IsHole x C → (v t : ℕ) (y : Scalar) → low y.width t ≡ low y.width v → Lies x.sizes y.width y.place → (R : Rest) → N x R ≡ map_action C (next_passing q (y ∷ []) (v ∷ []) procedure.body)
      → (r : Routine) (p : ℕ) (ws : List Word) → HasAt (x.code r) p (stored_in y ∷ op.Invoke q ∷ []) → Left x (are_giving procedure.body) n C r (p + 2) ws → S x 2 n 0 R (At r p t ws)
  last_stored q procedure got may n C cx v t y is lie R u r p ws has after =
      touches x 2 n 0 (Write y.width y.place (low y.width v)) R (λ z. C (Passing q [] [])) (At r p t ws) (λ z. At r (p + 1) t ws) u
      (acts x r p t ws (stored_in y) has.0 ∙ ap (λ o. stored y.width o t (At r (p + 1) t ws)) (found_plain x y.width y.place lie) ∙ ap (λ z. Touch (Write y.width y.place z) (λ _. At r (p + 1) t ws)) is)
      (λ z lt. soon x n 0 2 (C (Passing q [] [])) (At r (p + 1) t ws) (omega arith)
      (invoked q procedure got may n C cx (C (Passing q [] [])) (passing_is q procedure got C cx [] []) r (p + 1) t ws has.1.0 (left_at x (are_giving procedure.body) n C r (p + 2) (p + 1 + 1) ws (omega arith) after)))

  -- one argument alone
  alone_sim : (q : ℕ) (procedure : Procedure) → slice_get x.procedures q ≡ Some procedure → MayCall q → (n : ℕ) (C : Expression → Rest) → IsHole x C → (e : Expression) → IsExpression x.sizes x.procedures MayCall e → (xs : List Scalar) → xs ≡ procedure.parameters → length xs ≡ 1 → AllLie x.sizes xs → (r : Routine) (p : ℕ) (ws : List Word)
      → HasAt (x.code r) p (alone xs (operand_of e) (expression_code x.procedures e) ++ op.Invoke q ∷ []) → Left x (are_giving procedure.body) n C r (p + length (alone xs (operand_of e) (expression_code x.procedures e) ++ op.Invoke q ∷ [])) ws
      → Runs e n (λ y. C (Call q (More y NoMore))) r ws → (a : ℕ) → S x (nodes e + 2) n 0 (C (Call q (More e NoMore))) (At r p a ws)
  alone_sim q procedure got may n C cx e good [] same len lie r p ws has after sim a = absurd (omega (arith, len))
  alone_sim q procedure got may n C cx e good (y ∷ z ∷ xs) same len lie r p ws has after sim a = absurd (omega (arith, len))
  alone_sim q procedure got may n C cx e good (y ∷ []) same len lie r p ws has after sim a =
      let ca = argument_code y.width (operand_of e) (expression_code x.procedures e) in
      let cr = stored_in y ∷ op.Invoke q ∷ [] in
      let has' : HasAt (x.code r) p (ca ++ cr) = subst (λ l. HasAt (x.code r) p l) (append_assoc ca (stored_in y ∷ []) (op.Invoke q ∷ [])) has in
      let at : p + length ((ca ++ stored_in y ∷ []) ++ op.Invoke q ∷ []) ≡ p + length ca + 2 = omega (arith, length-append (ca ++ stored_in y ∷ []) (op.Invoke q ∷ []), length-append ca (stored_in y ∷ [])) in
      let E = λ (d : Expression). C (Call q (More d NoMore)) in
      argued y.width e good (operand_of e) (operand_is e) n E (in_first x (λ es. C (Call q es)) (in_arguments x C cx q) NoMore) r p ws (has_front (x.code r) p ca cr has')
      (λ v u lt is. rise x n 0 (E (Value v)) (At r (p + length ca) u ws) (omega arith)
      (last_stored q procedure got may n C cx v u y is lie.0 (E (Value v)) (called_is q procedure got C cx (v ∷ []) ∙ ap (λ ys. map_action C (next_passing q ys (v ∷ []) procedure.body)) (sym same)) r (p + length ca) ws (has_back (x.code r) p ca cr has')
      (left_at x (are_giving procedure.body) n C r (p + length ((ca ++ stored_in y ∷ []) ++ op.Invoke q ∷ [])) (p + length ca + 2) ws at after))) sim a

  -- two arguments, of which the first one, v, is in the accumulator
  module _ (q : ℕ) (procedure : Procedure) (got : slice_get x.procedures q ≡ Some procedure) (may : MayCall q) (n : ℕ) (C : Expression → Rest) (cx : IsHole x C) (y z : Scalar) (lie : Lies x.sizes y.width y.place) (lie' : Lies x.sizes z.width z.place) (same : y ∷ z ∷ [] ≡ procedure.parameters) (v t : ℕ) (is : low y.width t ≡ low y.width v) where
    abbrev F : Expression → Rest
    F d = C (Call q (More (Value v) (More d NoMore)))

    both_values : (w : ℕ) → N x (F (Value w)) ≡ Touch (Write y.width y.place (low y.width v)) (λ _. C (Passing q (z ∷ []) (w ∷ [])))
    both_values w = called_is q procedure got C cx (v ∷ w ∷ []) ∙ ap (λ ys. map_action C (next_passing q ys (v ∷ w ∷ []) procedure.body)) (sym same)

    -- the first one on top, the second one in the accumulator
    both_stored : (w u : ℕ) → low z.width u ≡ low z.width w → (r : Routine) (p : ℕ) (ws : List Word) → HasAt (x.code r) p (op.StoreTop y.width (place_of y.place) ∷ stored_in z ∷ op.Invoke q ∷ []) → Left x (are_giving procedure.body) n C r (p + 3) ws → S x 2 n 0 (F (Value w)) (At r p u (words.Value t ∷ ws))
    both_stored w u ju r p ws has after =
        touches x 2 n 0 (Write y.width y.place (low y.width v)) (F (Value w)) (λ _. C (Passing q (z ∷ []) (w ∷ []))) (At r p u (words.Value t ∷ ws)) (λ _. At r (p + 1) u ws) (both_values w)
        (acts x r p u (words.Value t ∷ ws) (op.StoreTop y.width (place_of y.place)) has.0 ∙ ap (λ o. stored y.width o t (At r (p + 1) u ws)) (found_plain x y.width y.place lie) ∙ ap (λ k. Touch (Write y.width y.place k) (λ _. At r (p + 1) u ws)) is)
        (λ k lt. soon x n 0 2 (C (Passing q (z ∷ []) (w ∷ []))) (At r (p + 1) u ws) (omega arith)
        (last_stored q procedure got may n C cx w u z ju lie' (C (Passing q (z ∷ []) (w ∷ []))) (passing_is q procedure got C cx (z ∷ []) (w ∷ [])) r (p + 1) ws has.1 (left_at x (are_giving procedure.body) n C r (p + 3) (p + 1 + 2) ws (omega arith) after)))

    -- the second one is computed beside the first one
    beside_sim : (f : Expression) → IsExpression x.sizes x.procedures MayCall f → nodes f + 2 ≤ x.room → (o : Operand) → IsOperand f o → (r : Routine) (p : ℕ) (ws : List Word) (code : List Instruction) → code ≡ argument_code z.width o (expression_code x.procedures f)
        → HasAt (x.code r) p (op.Push ∷ (code ++ (op.StoreTop y.width (place_of y.place) ∷ stored_in z ∷ op.Invoke q ∷ []))) → Left x (are_giving procedure.body) n C r (p + length (op.Push ∷ (code ++ (op.StoreTop y.width (place_of y.place) ∷ stored_in z ∷ op.Invoke q ∷ [])))) ws
        → Runs f n F r (words.Value t ∷ ws) → S x (nodes f + 2) n 1 (F f) (At r p t ws)
    beside_sim f good fits o iso r p ws code coded has after sim =
        let last = op.StoreTop y.width (place_of y.place) ∷ stored_in z ∷ op.Invoke q ∷ [] in
        let st = words.Value t ∷ ws in
        let ca = argument_code z.width o (expression_code x.procedures f) in
        let has' : HasAt (x.code r) (p + 1) (ca ++ last) = subst (λ l. HasAt (x.code r) (p + 1) (l ++ last)) coded has.1 in
        push_then x (nodes f + 2) n 0 (F f) r p t ws has.0
        (soon_in x (nodes f + 2) n 0 0 (F f) (At r (p + 1) t st) fits (omega arith)
        (argued z.width f good o iso n F (in_first x (λ es. C (Call q (More (Value v) es))) (in_others x (λ es. C (Call q es)) (in_arguments x C cx q) v) NoMore) r (p + 1) st (has_front (x.code r) (p + 1) ca last has')
        (λ w u lt ju. rise x n 0 (F (Value w)) (At r (p + 1 + length ca) u st) (omega arith)
        (both_stored w u ju r (p + 1 + length ca) ws (has_back (x.code r) (p + 1) ca last has')
        (left_at x (are_giving procedure.body) n C r (p + length (op.Push ∷ (code ++ last))) (p + 1 + length ca + 3) ws (omega (arith, ap length coded, length-append code last)) after))) sim t))

    -- the second one is known, and comes into the accumulator
    known_second : (k : ℕ) → k < 65536 → (w : Width) (f : Expression) → IsOperand f (Number k) → (r : Routine) (p a : ℕ) (ws : List Word) → HasAt (x.code r) p (argument_code w (Number k) (expression_code x.procedures f)) → (R : Rest)
        → ((u : ℕ) → low w u ≡ low w k → T x n 0 R (At r (p + length (argument_code w (Number k) (expression_code x.procedures f))) u ws)) → S x 2 n 1 R (At r p a ws)
    known_second k lt widths.Byte f iso r p a ws has R go =
        down x 2 n 0 R (At r p a ws) (At r (p + 1) (settled highs.Kept a (k % 256)) ws) (acts x r p a ws (op.Low (lows.Constant k) highs.Kept) has.0) (go (settled highs.Kept a (k % 256)) (omega arith))
    known_second k lt widths.Word f iso r p a ws has R go =
        let coded = known_code x.procedures f k iso in
        let has' = subst (λ l. HasAt (x.code r) p l) coded has in
        down x 2 n 0 R (At r p a ws) (At r (p + 1) k ws) (acts x r p a ws (op.Constant k) has'.0)
        (subst (λ l. T x n 0 R (At r (p + length l) k ws)) coded (go k refl))

    second_sim : (f : Expression) → IsExpression x.sizes x.procedures MayCall f → nodes f + 2 ≤ x.room → (o : Operand) → IsOperand f o → (r : Routine) (p : ℕ) (ws : List Word) → HasAt (x.code r) p (second_passed y z o (expression_code x.procedures f) ++ op.Invoke q ∷ [])
        → Left x (are_giving procedure.body) n C r (p + length (second_passed y z o (expression_code x.procedures f) ++ op.Invoke q ∷ [])) ws → Runs f n F r (words.Value t ∷ ws) → S x (nodes f + 2) n 1 (F f) (At r p t ws)
    second_sim f good fits (Number k) iso r p ws has after sim =
        let ca = argument_code z.width (Number k) (expression_code x.procedures f) in
        let cr = stored_in z ∷ op.Invoke q ∷ [] in
        let has' : HasAt (x.code r) (p + 1) (ca ++ cr) = subst (λ l. HasAt (x.code r) (p + 1) l) (append_assoc ca (stored_in z ∷ []) (op.Invoke q ∷ [])) has.1 in
        let pa = p + 1 + length ca in
        let Q = C (Passing q (z ∷ []) (k ∷ [])) in
        let ks = folded_small x.sizes x.procedures MayCall f good k iso in
        folds x f k iso 2 n 1 (omega arith) F (in_first x (λ es. C (Call q (More (Value v) es))) (in_others x (λ es. C (Call q es)) (in_arguments x C cx q) v) NoMore) (At r p t ws)
        (λ R u. up x 1 n 1 (omega arith) R (F (Value k)) (At r p t ws) u
        (touches x 1 n 1 (Write y.width y.place (low y.width v)) (F (Value k)) (λ _. Q) (At r p t ws) (λ _. At r (p + 1) t ws) (both_values k)
        (acts x r p t ws (stored_in y) has.0 ∙ ap (λ o. stored y.width o t (At r (p + 1) t ws)) (found_plain x y.width y.place lie) ∙ ap (λ j. Touch (Write y.width y.place j) (λ _. At r (p + 1) t ws)) is)
        (λ j lt. soon x n 1 2 Q (At r (p + 1) t ws) (omega arith)
        (known_second k ks z.width f iso r (p + 1) t ws (has_front (x.code r) (p + 1) ca cr has') Q
        (λ w ju. soon x n 0 0 Q (At r pa w ws) (omega arith)
        (last_stored q procedure got may n C cx k w z ju lie' Q (passing_is q procedure got C cx (z ∷ []) (k ∷ [])) r pa ws (has_back (x.code r) (p + 1) ca cr has')
        (left_at x (are_giving procedure.body) n C r (p + length ((stored_in y ∷ (ca ++ stored_in z ∷ [])) ++ op.Invoke q ∷ [])) (pa + 2) ws (omega (arith, length-append (ca ++ stored_in z ∷ []) (op.Invoke q ∷ []), length-append ca (stored_in z ∷ []))) after)))))))
    second_sim f good fits (Name w k) iso r p ws has after sim =
        let ca = argument_code z.width (Name w k) (expression_code x.procedures f) in
        let last = op.StoreTop y.width (place_of y.place) ∷ stored_in z ∷ [] in
        let assoc = ap (λ l. op.Push ∷ l) (append_assoc ca last (op.Invoke q ∷ [])) in
        beside_sim f good fits (Name w k) iso r p ws ca refl (subst (λ l. HasAt (x.code r) p l) assoc has) (left_at x (are_giving procedure.body) n C r (p + length (op.Push ∷ ((ca ++ last) ++ op.Invoke q ∷ []))) (p + length (op.Push ∷ (ca ++ (last ++ op.Invoke q ∷ [])))) ws (ap (λ l. p + length l) assoc) after) sim
    second_sim f good fits Computed iso r p ws has after sim =
        let ca = expression_code x.procedures f in
        let last = op.StoreTop y.width (place_of y.place) ∷ stored_in z ∷ [] in
        let assoc = ap (λ l. op.Push ∷ l) (append_assoc ca last (op.Invoke q ∷ [])) in
        beside_sim f good fits Computed iso r p ws ca (argument_computed z.width ca) (subst (λ l. HasAt (x.code r) p l) assoc has)
        (left_at x (are_giving procedure.body) n C r (p + length (op.Push ∷ ((ca ++ last) ++ op.Invoke q ∷ []))) (p + length (op.Push ∷ (ca ++ (last ++ op.Invoke q ∷ [])))) ws (ap (λ l. p + length l) assoc) after) sim

  -- two arguments
  pair_sim : (q : ℕ) (procedure : Procedure) → slice_get x.procedures q ≡ Some procedure → MayCall q → (n : ℕ) (C : Expression → Rest) → IsHole x C → (e f : Expression) → IsExpression x.sizes x.procedures MayCall e → IsExpression x.sizes x.procedures MayCall f → nodes f + 2 ≤ x.room
      → (xs : List Scalar) → xs ≡ procedure.parameters → length xs ≡ 2 → AllLie x.sizes xs → (r : Routine) (p : ℕ) (ws : List Word)
      → HasAt (x.code r) p (pair xs (operand_of e) (operand_of f) (expression_code x.procedures e) (expression_code x.procedures f) ++ op.Invoke q ∷ [])
      → Left x (are_giving procedure.body) n C r (p + length (pair xs (operand_of e) (operand_of f) (expression_code x.procedures e) (expression_code x.procedures f) ++ op.Invoke q ∷ [])) ws
      → Runs e n (λ d. C (Call q (More d (More f NoMore)))) r ws → ((v t : ℕ) → Runs f n (λ d. C (Call q (More (Value v) (More d NoMore)))) r (words.Value t ∷ ws)) → (a : ℕ) → S x (nodes e + 2) n 0 (C (Call q (More e (More f NoMore)))) (At r p a ws)
  pair_sim q procedure got may n C cx e f ge gf fits [] same len lie r p ws has after sim next a = absurd (omega (arith, len))
  pair_sim q procedure got may n C cx e f ge gf fits (y ∷ []) same len lie r p ws has after sim next a = absurd (omega (arith, len))
  pair_sim q procedure got may n C cx e f ge gf fits (y ∷ z ∷ o ∷ xs) same len lie r p ws has after sim next a = absurd (omega (arith, len))
  pair_sim q procedure got may n C cx e f ge gf fits (y ∷ z ∷ []) same len lie r p ws has after sim next a =
      let ca = argument_code y.width (operand_of e) (expression_code x.procedures e) in
      let cs = second_passed y z (operand_of f) (expression_code x.procedures f) in
      let cr = cs ++ op.Invoke q ∷ [] in
      let has' : HasAt (x.code r) p (ca ++ cr) = subst (λ l. HasAt (x.code r) p l) (append_assoc ca cs (op.Invoke q ∷ [])) has in
      let pa = p + length ca in
      let E = λ (d : Expression). C (Call q (More d (More f NoMore))) in
      argued y.width e ge (operand_of e) (operand_is e) n E (in_first x (λ es. C (Call q es)) (in_arguments x C cx q) (More f NoMore)) r p ws (has_front (x.code r) p ca cr has')
      (λ v t lt is. rise_in x (nodes f + 2) n 1 (E (Value v)) (At r pa t ws) fits (omega arith)
      (second_sim q procedure got may n C cx y z lie.0 lie.1.0 same v t is f gf fits (operand_of f) (operand_is f) r pa ws (has_back (x.code r) p ca cr has')
      (left_at x (are_giving procedure.body) n C r (p + length ((ca ++ cs) ++ op.Invoke q ∷ [])) (pa + length cr) ws (omega (arith, ap length (append_assoc ca cs (op.Invoke q ∷ [])), length-append ca cr)) after) (next v t))) sim a

  -- the values of several arguments are pushed
  passed : (q : ℕ) (procedure : Procedure) → slice_get x.procedures q ≡ Some procedure → MayCall q → (n : ℕ) (C : Expression → Rest) → IsHole x C → (r : Routine) (ws : List Word) (total back : ℕ) → Left x (are_giving procedure.body) n C r back ws
      → (xs : List Scalar) (vs : List ℕ) (us : List Word) → length xs ≡ length vs → AllLie x.sizes xs → drop total (pushed vs us) ≡ ws → total ≤ length (pushed vs us) → (R : Rest) → N x R ≡ map_action C (next_passing q xs vs procedure.body)
      → (p a : ℕ) → HasAt (x.code r) p (passing xs ++ op.Drop total ∷ op.Invoke q ∷ []) → back ≡ p + length (passing xs) + 2 → S x 2 n 1 R (At r p a (pushed vs us))
  passed q procedure got may n C cx r ws total back after [] [] us len lie dr le R u p a has at =
      down x 2 n 0 R (At r p a us) (At r (p + 1) a ws)
      (acts x r p a us (op.Drop total) has.0 ∙ ap (λ b. if b then Silent (At r (p + 1) a (drop total us)) else Bad 0 0) (le-leb total (length us) le) ∙ ap (λ w. Silent (At r (p + 1) a w)) dr)
      (soon x n 0 0 R (At r (p + 1) a ws) (omega arith) (invoked q procedure got may n C cx R u r (p + 1) a ws has.1.0 (left_at x (are_giving procedure.body) n C r back (p + 1 + 1) ws (omega (arith, at)) after)))
  passed q procedure got may n C cx r ws total back after (y ∷ xs) (v ∷ vs) us len lie dr le R u p a has at =
      let st = pushed vs (words.Value v ∷ us) in
      let len' : length xs ≡ length vs = omega (arith, len) in
      let top : slice_get st (length xs) ≡ Some (words.Value v) = ap (λ k. slice_get st k) (omega (arith, len')) ∙ get_pushed vs 0 (words.Value v ∷ us) in
      down x 2 n 0 R (At r p a st) (At r (p + 1) v st) (acts x r p a st (op.Pick (length xs)) has.0 ∙ ap (λ w. with_value (value_in w) (λ v. Silent (At r (p + 1) v st))) top)
      (soon x n 0 0 R (At r (p + 1) v st) (omega arith)
      (touches x 2 n 0 (Write y.width y.place (low y.width v)) R (λ z. C (Passing q xs vs)) (At r (p + 1) v st) (λ z. At r (p + 1 + 1) v st) u
      (acts x r (p + 1) v st (op.Store y.width (place_of y.place)) has.1.0 ∙ ap (λ o. stored y.width o v (At r (p + 1 + 1) v st)) (found_plain x y.width y.place lie.0))
      (λ z lt. soon x n 1 2 (C (Passing q xs vs)) (At r (p + 1 + 1) v st) (omega arith)
      (passed q procedure got may n C cx r ws total back after xs vs (words.Value v ∷ us) len' lie.1 dr le (C (Passing q xs vs)) (passing_is q procedure got C cx xs vs) (p + 1 + 1) v has.1.1 (omega (arith, at))))))
  passed q procedure got may n C cx r ws total back after [] (v ∷ vs) us len lie dr le R u p a has at = absurd (omega (arith, len))
  passed q procedure got may n C cx r ws total back after (y ∷ xs) [] us len lie dr le R u p a has at = absurd (omega (arith, len))

  -- constant subscripts lead on, a step each
  pub led_sim : (ss : Subscripts) (offset to : ℕ) → leads_to (Some offset) ss ≡ Some to → (k n f : ℕ) → f ≤ 2 → (C : Reference → Rest) → IsReferenceHole x C → (m l : ℕ) (anchor : Anchor) (i : Context) → S x k n f (C (Refer m l anchor to NoSubscripts)) i
      → S x (subscripts_nodes ss + k) n f (C (Refer m l anchor offset ss)) i
  led_sim NoSubscripts offset to is k n f le C cx m l anchor i go =
      eased x k (subscripts_nodes NoSubscripts + k) n f f (C (Refer m l anchor offset NoSubscripts)) i (omega arith) (omega arith) (subst (λ o. S x k n f (C (Refer m l anchor o NoSubscripts)) i) (sym (same_Some offset to is)) go)
  led_sim (Subscript s (Constant v) more) offset to is k n f le C cx m l anchor i go =
      let here = C (Refer m l anchor offset (Subscript s (Constant v) more)) in
      let o = (offset + s * v) % 65536 in
      eased x (suc (subscripts_nodes more + k)) (subscripts_nodes (Subscript s (Constant v) more) + k) n f f here i (omega arith) (omega arith)
      (up x (subscripts_nodes more + k) n f le here (C (Refer m l anchor o more)) i (in_subscript x C cx m l anchor offset s more (Constant v) refl) (led_sim more o to is k n f le C cx m l anchor i go))
  led_sim (Subscript s (Plain w y) more) offset to is k n f le C cx m l anchor i go = absurd (none-some to is)
  led_sim (Subscript s (Variable w q) more) offset to is k n f le C cx m l anchor i go = absurd (none-some to is)
  led_sim (Subscript s (Location q) more) offset to is k n f le C cx m l anchor i go = absurd (none-some to is)
  led_sim (Subscript s (Unary o w e) more) offset to is k n f le C cx m l anchor i go = absurd (none-some to is)
  led_sim (Subscript s (Binary j h o w a b) more) offset to is k n f le C cx m l anchor i go = absurd (none-some to is)
  led_sim (Subscript s (Embedded t e) more) offset to is k n f le C cx m l anchor i go = absurd (none-some to is)
  led_sim (Subscript s (Input w e) more) offset to is k n f le C cx m l anchor i go = absurd (none-some to is)
  led_sim (Subscript s (Call q es) more) offset to is k n f le C cx m l anchor i go = absurd (none-some to is)
  led_sim (Subscript s (Value v) more) offset to is k n f le C cx m l anchor i go = absurd (none-some to is)
  led_sim (Subscript s (Passing q xs vs) more) offset to is k n f le C cx m l anchor i go = absurd (none-some to is)
  led_sim (Subscript s (Running rs) more) offset to is k n f le C cx m l anchor i go = absurd (none-some to is)

  -- what is read and located, by where constant subscripts lead
  read_by : (w : Width) (m l : ℕ) (anchor : Anchor) → AnchorLies x.sizes anchor → (offset : ℕ) (ss : Subscripts) (z : Option ℕ) → leads_to (Some offset) ss ≡ z → (n : ℕ) (C : Expression → Rest) → IsHole x C → (r : Routine) (p : ℕ) (ws : List Word) (code : List Instruction)
      → HasAt (x.code r) p (by_offset z (λ to. reading w anchor to NoSubscripts) code) → After x n C r (p + length (by_offset z (λ to. reading w anchor to NoSubscripts) code)) ws → (a : ℕ)
      → (HasAt (x.code r) p code → After x n C r (p + length code) ws → S x (subscripts_nodes ss + 2) n 0 (C (Variable w (Refer m l anchor offset ss))) (At r p a ws)) → S x (subscripts_nodes ss + 2) n 0 (C (Variable w (Refer m l anchor offset ss))) (At r p a ws)
  read_by w m l anchor lies offset ss (Some to) is n C cx r p ws code has after a sim =
      led_sim ss offset to is 2 n 0 (omega arith) (λ q. C (Variable w q)) (in_variable x C cx w) m l anchor (At r p a ws) (read_final x n C cx r ws m l w anchor lies NoSubscripts to to a refl p has after)
  read_by w m l anchor lies offset ss None is n C cx r p ws code has after a sim = sim has after

  located_by : (m l : ℕ) (anchor : Anchor) → AnchorLies x.sizes anchor → (offset : ℕ) (ss : Subscripts) (z : Option ℕ) → leads_to (Some offset) ss ≡ z → (n : ℕ) (C : Expression → Rest) → IsHole x C → (r : Routine) (p : ℕ) (ws : List Word) (code : List Instruction)
      → HasAt (x.code r) p (by_offset z (λ to. locating anchor to NoSubscripts) code) → After x n C r (p + length (by_offset z (λ to. locating anchor to NoSubscripts) code)) ws → (a : ℕ)
      → (HasAt (x.code r) p code → After x n C r (p + length code) ws → S x (subscripts_nodes ss + 2) n 0 (C (Location (Refer m l anchor offset ss))) (At r p a ws)) → S x (subscripts_nodes ss + 2) n 0 (C (Location (Refer m l anchor offset ss))) (At r p a ws)
  located_by m l anchor lies offset ss (Some to) is n C cx r p ws code has after a sim =
      led_sim ss offset to is 2 n 0 (omega arith) (λ q. C (Location q)) (in_location x C cx) m l anchor (At r p a ws) (locate_final x n C cx r ws m l anchor lies NoSubscripts to to a refl p has after)
  located_by m l anchor lies offset ss None is n C cx r p ws code has after a sim = sim has after

  -- what is written at a place without subscripts
  settled_sim : (w : Width) (m l : ℕ) (anchor : Anchor) → AnchorLies x.sizes anchor → (to n v u : ℕ) → low w u ≡ low w v → (C : Target → Rest) (done : Rest) → IsTargetHole x v C done → (r : Routine) (p : ℕ) (ws : List Word) → HasAt (x.code r) p (writing w anchor to NoSubscripts [])
      → S x x.room n 2 done (At r (p + length (writing w anchor to NoSubscripts [])) u ws) → S x 2 n 2 (C (ToVariable w (Refer m l anchor to NoSubscripts))) (At r p u ws)
  settled_sim w m l (Behind base) lies to n v u gets C done tx r p ws has after =
      let cw = based base to NoSubscripts ++ op.StoreThere w ∷ [] in
      let st = words.Value u ∷ ws in
      let R = C (ToVariable w (Refer m l (Behind base) to NoSubscripts)) in
      push_then x 2 n 1 R r p u ws has.0
      (soon x n 0 1 R (At r (p + 1) u st) (omega arith)
      (behind_written x n v u C done tx r ws m l w gets base lies NoSubscripts to to u refl (p + 1) has.1 (moved_to x x.room n 2 done r (p + length (op.Push ∷ cw)) (p + 1 + length cw) u ws (omega arith) after)))
  settled_sim w m l (InObject k start size) lies to n v u gets C done tx r p ws has after =
      eased x 2 2 n 0 2 (C (ToVariable w (Refer m l (InObject k start size) to NoSubscripts))) (At r p u ws) (omega arith) (omega arith)
      (fixed_written x n v u C done tx r ws m l w gets (InObject k start size) lies tt to to 0 (omega arith) (At r p u ws) (p + 1) (acts x r p u ws (op.Store w (anchor_place (InObject k start size) to)) has.0) after)
  settled_sim w m l (OnScreen page start size) lies to n v u gets C done tx r p ws has after =
      eased x 2 2 n 0 2 (C (ToVariable w (Refer m l (OnScreen page start size) to NoSubscripts))) (At r p u ws) (omega arith) (omega arith)
      (fixed_written x n v u C done tx r ws m l w gets (OnScreen page start size) lies tt to to 0 (omega arith) (At r p u ws) (p + 1) (acts x r p u ws (op.Store w (anchor_place (OnScreen page start size) to)) has.0) after)
  settled_sim w m l (There b) lies to n v u gets C done tx r p ws has after = absurd lies

  written_by : (w : Width) (m l : ℕ) (anchor : Anchor) → AnchorLies x.sizes anchor → (offset : ℕ) (ss : Subscripts) (z : Option ℕ) → leads_to (Some offset) ss ≡ z → (n v u : ℕ) → low w u ≡ low w v → (C : Target → Rest) (done : Rest) → IsTargetHole x v C done → (r : Routine) (p : ℕ) (ws : List Word) (code : List Instruction)
      → HasAt (x.code r) p (by_offset z (λ to. writing w anchor to NoSubscripts []) code) → S x x.room n 2 done (At r (p + length (by_offset z (λ to. writing w anchor to NoSubscripts []) code)) u ws)
      → (HasAt (x.code r) p code → S x x.room n 2 done (At r (p + length code) u ws) → S x (target_nodes (ToVariable w (Refer m l anchor offset ss)) + 2) n 2 (C (ToVariable w (Refer m l anchor offset ss))) (At r p u ws))
      → S x (target_nodes (ToVariable w (Refer m l anchor offset ss)) + 2) n 2 (C (ToVariable w (Refer m l anchor offset ss))) (At r p u ws)
  written_by w m l anchor lies offset ss (Some to) is n v u gets C done tx r p ws code has after sim =
      eased x (subscripts_nodes ss + 2) (target_nodes (ToVariable w (Refer m l anchor offset ss)) + 2) n 2 2 (C (ToVariable w (Refer m l anchor offset ss))) (At r p u ws) (omega arith) (omega arith)
      (led_sim ss offset to is 2 n 2 (omega arith) (λ q. C (ToVariable w q)) (tx.part w) m l anchor (At r p u ws) (settled_sim w m l anchor lies to n v u gets C done tx r p ws has after))
  written_by w m l anchor lies offset ss None is n v u gets C done tx r p ws code has after sim = sim has after

  -- what the code of subscripts does
  abbrev SubscriptsRun : Subscripts → ℕ → (Reference → Rest) → (m l : ℕ) (anchor : Anchor) (offset : ℕ) → Routine → List Word → Type 0
  SubscriptsRun ss n C m l anchor offset r ws =
      (p : ℕ) → HasAt (x.code r) p (subscripts_code x.procedures ss) → ((further more : ℕ) → Reached ss offset further more → S x 2 n 0 (C (Refer m l anchor further NoSubscripts)) (At r (p + length (subscripts_code x.procedures ss)) more ws))
      → (a : ℕ) → S x (subscripts_nodes ss + 2) n 0 (C (Refer m l anchor offset ss)) (At r p a ws)

  written_sim : (w : Width) (m l : ℕ) (anchor : Anchor) (offset : ℕ) (ss : Subscripts) → IsTarget x.sizes x.procedures MayCall (ToVariable w (Refer m l anchor offset ss)) → target_nodes (ToVariable w (Refer m l anchor offset ss)) + 2 ≤ x.room → (n v u : ℕ) → low w u ≡ low w v
      → (C : Target → Rest) (done : Rest) → IsTargetHole x v C done → (r : Routine) (p : ℕ) (ws : List Word) → SubscriptsRun ss n (λ q. C (ToVariable w q)) m l anchor offset r (words.Value u ∷ ws) → HasAt (x.code r) p (writing w anchor offset ss (subscripts_code x.procedures ss))
      → S x x.room n 2 done (At r (p + length (writing w anchor offset ss (subscripts_code x.procedures ss))) u ws) → S x (target_nodes (ToVariable w (Refer m l anchor offset ss)) + 2) n 2 (C (ToVariable w (Refer m l anchor offset ss))) (At r p u ws)
  written_sim w m l (Behind base) offset ss good fits n v u gets C done tx r p ws run has after =
      let cs = subscripts_code x.procedures ss in
      let cw = based base offset ss ++ op.StoreThere w ∷ [] in
      let st = words.Value u ∷ ws in
      push_then x (target_nodes (ToVariable w (Refer m l (Behind base) offset ss)) + 2) n 1 (C (ToVariable w (Refer m l (Behind base) offset ss))) r p u ws has.0
      (soon_in x (subscripts_nodes ss + 2) n 0 1 (C (ToVariable w (Refer m l (Behind base) offset ss))) (At r (p + 1) u st) (omega (arith, fits)) (omega arith)
      (run (p + 1) (has_front (x.code r) (p + 1) cs cw has.1)
      (λ further more is. behind_written x n v u C done tx r ws m l w gets base good.0 ss offset further more is (p + 1 + length cs) (has_back (x.code r) (p + 1) cs cw has.1)
      (moved_to x x.room n 2 done r (p + length (op.Push ∷ (cs ++ cw))) (p + 1 + length cs + length cw) u ws (omega (arith, length-append cs cw)) after)) u))
  written_sim w m l (InObject k start size) offset NoSubscripts good fits n v u gets C done tx r p ws run has after =
      eased x 2 (target_nodes (ToVariable w (Refer m l (InObject k start size) offset NoSubscripts)) + 2) n 0 2 (C (ToVariable w (Refer m l (InObject k start size) offset NoSubscripts))) (At r p u ws) (omega arith) (omega arith)
      (fixed_written x n v u C done tx r ws m l w gets (InObject k start size) good.0 tt offset offset 0 (omega arith) (At r p u ws) (p + 1) (acts x r p u ws (op.Store w (anchor_place (InObject k start size) offset)) has.0) after)
  written_sim w m l (OnScreen page start size) offset NoSubscripts good fits n v u gets C done tx r p ws run has after =
      eased x 2 (target_nodes (ToVariable w (Refer m l (OnScreen page start size) offset NoSubscripts)) + 2) n 0 2 (C (ToVariable w (Refer m l (OnScreen page start size) offset NoSubscripts))) (At r p u ws) (omega arith) (omega arith)
      (fixed_written x n v u C done tx r ws m l w gets (OnScreen page start size) good.0 tt offset offset 0 (omega arith) (At r p u ws) (p + 1) (acts x r p u ws (op.Store w (anchor_place (OnScreen page start size) offset)) has.0) after)
  written_sim w m l (InObject k start size) offset (Subscript s e ss) good fits n v u gets C done tx r p ws run has after =
      let anchor = InObject k start size in
      let q = Subscript s e ss in
      let cs = subscripts_code x.procedures (Subscript s e ss) in
      let cw = op.StoreAt w (anchor_place (InObject k start size) offset) ∷ [] in
      let st = words.Value u ∷ ws in
      let pc = p + 1 + length cs in
      push_then x (target_nodes (ToVariable w (Refer m l anchor offset q)) + 2) n 1 (C (ToVariable w (Refer m l anchor offset q))) r p u ws has.0
      (soon_in x (subscripts_nodes q + 2) n 0 1 (C (ToVariable w (Refer m l anchor offset q))) (At r (p + 1) u st) (omega (arith, fits)) (omega arith)
      (run (p + 1) (has_front (x.code r) (p + 1) cs cw has.1)
      (λ further more is. fixed_written x n v u C done tx r ws m l w gets (InObject k start size) good.0 tt offset further more is (At r pc more st) (pc + 1) (acts x r pc more st (op.StoreAt w (anchor_place (InObject k start size) offset)) (has_back (x.code r) (p + 1) cs cw has.1).0)
      (moved_to x x.room n 2 done r (p + length (op.Push ∷ (cs ++ cw))) (pc + 1) u ws (omega (arith, length-append cs cw)) after)) u))
  written_sim w m l (OnScreen page start size) offset (Subscript s e ss) good fits n v u gets C done tx r p ws run has after =
      let anchor = OnScreen page start size in
      let q = Subscript s e ss in
      let cs = subscripts_code x.procedures (Subscript s e ss) in
      let cw = op.StoreAt w (anchor_place (OnScreen page start size) offset) ∷ [] in
      let st = words.Value u ∷ ws in
      let pc = p + 1 + length cs in
      push_then x (target_nodes (ToVariable w (Refer m l anchor offset q)) + 2) n 1 (C (ToVariable w (Refer m l anchor offset q))) r p u ws has.0
      (soon_in x (subscripts_nodes q + 2) n 0 1 (C (ToVariable w (Refer m l anchor offset q))) (At r (p + 1) u st) (omega (arith, fits)) (omega arith)
      (run (p + 1) (has_front (x.code r) (p + 1) cs cw has.1)
      (λ further more is. fixed_written x n v u C done tx r ws m l w gets (OnScreen page start size) good.0 tt offset further more is (At r pc more st) (pc + 1) (acts x r pc more st (op.StoreAt w (anchor_place (OnScreen page start size) offset)) (has_back (x.code r) (p + 1) cs cw has.1).0)
      (moved_to x x.room n 2 done r (p + length (op.Push ∷ (cs ++ cw))) (pc + 1) u ws (omega (arith, length-append cs cw)) after)) u))
  written_sim w m l (There b) offset ss good fits n v u gets C done tx r p ws run has after = absurd good.0

  mutual
    pub expression_sim : (e : Expression) → IsExpression x.sizes x.procedures MayCall e → nodes e + 2 ≤ x.room → (n : ℕ) (C : Expression → Rest) → IsHole x C → (r : Routine) (p : ℕ) (ws : List Word) → HasAt (x.code r) p (expression_code x.procedures e)
        → After x n C r (p + length (expression_code x.procedures e)) ws → (a : ℕ) → S x (nodes e + 2) n 0 (C e) (At r p a ws)
    expression_sim (Constant k) good fits n C cx r p ws has after a = folded_then x n C cx r ws (Constant k) p k a refl good has.0 after
    expression_sim (Plain w y) good fits n C cx r p ws has after a = lifted 2 (nodes (Plain w y) + 2) n 0 (C (Plain w y)) (At r p a ws) (omega arith) (plain_then x n C cx r ws p a w y good has.0 after)
    expression_sim (Variable w (Refer m l anchor offset ss)) good fits n C cx r p ws has after a =
        let cs = subscripts_code x.procedures ss in
        let cr = reading w anchor offset ss in
        lifted (subscripts_nodes ss + 2) (1 + subscripts_nodes ss + 2) n 0 (C (Variable w (Refer m l anchor offset ss))) (At r p a ws) (omega arith)
        (read_by w m l anchor good.0 offset ss (leads_to (Some offset) ss) refl n C cx r p ws (cs ++ cr) has after a
        (λ h k. subscripts_sim ss good.1 (omega (arith, fits)) n (λ q. C (Variable w q)) (in_variable x C cx w) m l anchor offset r p ws (has_front (x.code r) p cs cr h)
        (λ further more is. read_final x n C cx r ws m l w anchor good.0 ss offset further more is (p + length cs) (has_back (x.code r) p cs cr h) (after_at x n C r (p + length (cs ++ cr)) (p + length cs + length cr) ws (omega (arith, length-append cs cr)) k)) a))
    expression_sim (Location (Refer m l anchor offset ss)) good fits n C cx r p ws has after a =
        let cs = subscripts_code x.procedures ss in
        let cr = locating anchor offset ss in
        lifted (subscripts_nodes ss + 2) (1 + subscripts_nodes ss + 2) n 0 (C (Location (Refer m l anchor offset ss))) (At r p a ws) (omega arith)
        (located_by m l anchor good.0 offset ss (leads_to (Some offset) ss) refl n C cx r p ws (cs ++ cr) has after a
        (λ h k. subscripts_sim ss good.1 (omega (arith, fits)) n (λ q. C (Location q)) (in_location x C cx) m l anchor offset r p ws (has_front (x.code r) p cs cr h)
        (λ further more is. locate_final x n C cx r ws m l anchor good.0 ss offset further more is (p + length cs) (has_back (x.code r) p cs cr h) (after_at x n C r (p + length (cs ++ cr)) (p + length cs + length cr) ws (omega (arith, length-append cs cr)) k)) a))
    expression_sim (Unary o w e) good fits n C cx r p ws has after a =
        let ce = expression_code x.procedures e in
        let cu = op.Unary o w ∷ [] in
        let pe = p + length ce in
        known_then x n C cx r ws x.procedures MayCall (Unary o w e) good (folded (Unary o w e)) refl (ce ++ cu) p has after
        (λ h k b. lifted (nodes e + 2) (nodes (Unary o w e) + 2) n 0 (C (Unary o w e)) (At r p b ws) (omega arith)
        (expression_sim e good (omega (arith, fits)) n (λ y. C (Unary o w y)) (in_unary x C cx o w) r p ws (has_front (x.code r) p ce cu h)
        (λ v lt. rise x n 0 (C (Unary o w (Value v))) (At r pe v ws) (omega arith)
        (unary_then x n C cx r ws pe v o w lt (has_back (x.code r) p ce cu h).0 (after_at x n C r (p + length (ce ++ cu)) (pe + 1) ws (omega (arith, length-append ce cu)) k))) b)) a
    expression_sim (Binary m l o w d b) good fits n C cx r p ws has after a =
        let ca = expression_code x.procedures d in
        let cb = expression_code x.procedures b in
        let cr = beside (operand_of b) cb ++ operation o w (operand_of b) ∷ [] in
        let pa = p + length ca in
        known_then x n C cx r ws x.procedures MayCall (Binary m l o w d b) good (folded (Binary m l o w d b)) refl (ca ++ cr) p has after
        (λ h k j. lifted (nodes d + 2) (nodes (Binary m l o w d b) + 2) n 0 (C (Binary m l o w d b)) (At r p j ws) (omega arith)
        (expression_sim d good.0 (omega (arith, fits)) n (λ y. C (Binary m l o w y b)) (in_left x C cx m l o w b) r p ws (has_front (x.code r) p ca cr h)
        (λ u us. rise_in x (nodes b + 2) n 1 (C (Binary m l o w (Value u) b)) (At r pa u ws) (omega (arith, fits)) (omega arith)
        (right_then x x.procedures MayCall b good.1 (omega (arith, fits)) (operand_of b) (operand_is b) cb n C cx m l o w u us r pa ws (has_back (x.code r) p ca cr h)
        (λ q h k. expression_sim b good.1 (omega (arith, fits)) n (λ y. C (Binary m l o w (Value u) y)) (in_right x C cx m l o w u) r q (words.Value u ∷ ws) h k u)
        (after_at x n C r (p + length (ca ++ cr)) (pa + length cr) ws (omega (arith, length-append ca cr)) k))) j)) a
    expression_sim (Embedded t e) good fits n C cx r p ws has after a =
        let ce = expression_code x.procedures e in
        let ct = target_code x.procedures t in
        let pe = p + length ce in
        lifted (nodes e + 2) (nodes (Embedded t e) + 2) n 0 (C (Embedded t e)) (At r p a ws) (omega arith)
        (expression_sim e good.1 (omega (arith, fits)) n (λ y. C (Embedded t y)) (in_embedded x C cx t) r p ws (has_front (x.code r) p ce ct has)
        (λ v lt. rise_in x (target_nodes t + 2) n 2 (C (Embedded t (Value v))) (At r pe v ws) (omega (arith, fits)) (omega arith)
        (target_sim t good.0 (omega (arith, fits)) n v v (gets_itself t v) (λ y. C (Embedded y (Value v))) (C (Value v)) (in_embedded_target x C cx v) r pe ws (has_back (x.code r) p ce ct has)
        (moved_to x x.room n 2 (C (Value v)) r (p + length (ce ++ ct)) (pe + length ct) v ws (omega (arith, length-append ce ct)) (after v lt)))) a)
    expression_sim (Input w e) good fits n C cx r p ws has after a =
        lifted (nodes e + 2) (nodes (Input w e) + 2) n 0 (C (Input w e)) (At r p a ws) (omega arith)
        (received e (operand_of e) (operand_is e) n C cx w r p ws has after (λ q h k b. expression_sim e good (omega (arith, fits)) n (λ y. C (Input w y)) (in_input x C cx w) r q ws h k b) a)
    expression_sim (Call q es) good fits n C cx r p ws has after a =
        let cc = calling x.procedures q es in
        let g = gives (slice_get x.procedures q) in
        let cu = used g in
        let named : g ≡ are_giving good.0.0.body = ap gives good.0.1 in
        let after' = after_at x n C r (p + length (cc ++ cu)) (p + length cc + length cu) ws (omega (arith, length-append cc cu)) after in
        lifted (all_nodes es + 2) (nodes (Call q es) + 2) n 0 (C (Call q es)) (At r p a ws) (omega arith)
        (call_sim es q good (omega (arith, fits)) n C cx r p ws (has_front (x.code r) p cc cu has) (subst (λ b. Left x b n C r (p + length cc) ws) named (used_then x g n C r (p + length cc) ws (has_back (x.code r) p cc cu has) after')) a)
    expression_sim (Value v) good fits n C cx r p ws has after a = absurd good
    expression_sim (Passing q xs vs) good fits n C cx r p ws has after a = absurd good
    expression_sim (Running ss) good fits n C cx r p ws has after a = absurd good

    -- a call, after which its value may be left out
    pub call_sim : (es : Expressions) (q : ℕ) (good : IsExpression x.sizes x.procedures MayCall (Call q es)) → all_nodes es + 2 ≤ x.room → (n : ℕ) (C : Expression → Rest) → IsHole x C → (r : Routine) (p : ℕ) (ws : List Word) → HasAt (x.code r) p (calling x.procedures q es)
        → Left x (are_giving good.0.0.body) n C r (p + length (calling x.procedures q es)) ws → (a : ℕ) → S x (all_nodes es + 2) n 0 (C (Call q es)) (At r p a ws)
    call_sim NoMore q good fits n C cx r p ws has after a =
        lifted 2 (all_nodes NoMore + 2) n 0 (C (Call q NoMore)) (At r p a ws) (omega arith)
        (invoked q good.0.0 good.0.1 good.0.4 n C cx (C (Call q NoMore)) (called_is q good.0.0 good.0.1 C cx [] ∙ ap (map_action C) (none_left q good.0.0.parameters good.0.0.body)) r p a ws has.0 after)
    call_sim (More e NoMore) q good fits n C cx r p ws has after a =
        let procedure = good.0.0 in
        let got = good.0.1 in
        let named : parameters_of (slice_get x.procedures q) ≡ procedure.parameters = ap parameters_of got in
        let ce = expression_code x.procedures e in
        let coded = λ (xs : List Scalar). alone xs (operand_of e) ce ++ op.Invoke q ∷ [] in
        lifted (nodes e + 2) (all_nodes (More e NoMore) + 2) n 0 (C (Call q (More e NoMore))) (At r p a ws) (omega arith)
        (alone_sim q procedure got good.0.4 n C cx e good.1.0 procedure.parameters refl good.0.2 good.0.3 r p ws (subst (λ xs. HasAt (x.code r) p (coded xs)) named has) (subst (λ xs. Left x (are_giving good.0.0.body) n C r (p + length (coded xs)) ws) named after)
        (λ q' h k b. expression_sim e good.1.0 (omega (arith, fits)) n (λ y. C (Call q (More y NoMore))) (in_first x (λ es. C (Call q es)) (in_arguments x C cx q) NoMore) r q' ws h k b) a)
    call_sim (More e (More f NoMore)) q good fits n C cx r p ws has after a =
        let procedure = good.0.0 in
        let got = good.0.1 in
        let named : parameters_of (slice_get x.procedures q) ≡ procedure.parameters = ap parameters_of got in
        let ce = expression_code x.procedures e in
        let cf = expression_code x.procedures f in
        let coded = λ (xs : List Scalar). pair xs (operand_of e) (operand_of f) ce cf ++ op.Invoke q ∷ [] in
        lifted (nodes e + 2) (all_nodes (More e (More f NoMore)) + 2) n 0 (C (Call q (More e (More f NoMore)))) (At r p a ws) (omega arith)
        (pair_sim q procedure got good.0.4 n C cx e f good.1.0 good.1.1.0 (omega (arith, fits)) procedure.parameters refl good.0.2 good.0.3 r p ws (subst (λ xs. HasAt (x.code r) p (coded xs)) named has) (subst (λ xs. Left x (are_giving good.0.0.body) n C r (p + length (coded xs)) ws) named after)
        (λ q' h k b. expression_sim e good.1.0 (omega (arith, fits)) n (λ y. C (Call q (More y (More f NoMore)))) (in_first x (λ es. C (Call q es)) (in_arguments x C cx q) (More f NoMore)) r q' ws h k b)
        (λ v t q' h k b. expression_sim f good.1.1.0 (omega (arith, fits)) n (λ y. C (Call q (More (Value v) (More y NoMore)))) (in_first x (λ es. C (Call q (More (Value v) es))) (in_others x (λ es. C (Call q es)) (in_arguments x C cx q) v) NoMore) r q' (words.Value t ∷ ws) h k b) a)
    call_sim (More e (More f (More g es))) q good fits n C cx r p ws has after a =
        let procedure = good.0.0 in
        let got = good.0.1 in
        let total = 3 + count_of es in
        let tail = op.Drop total ∷ op.Invoke q ∷ [] in
        let named : parameters_of (slice_get x.procedures q) ≡ procedure.parameters = ap parameters_of got in
        let ce = expression_code x.procedures e in
        let cf = pushed_code x.procedures (More f (More g es)) in
        let cp = ce ++ (op.Push ∷ cf) in
        let cr = passing procedure.parameters ++ tail in
        let has' : HasAt (x.code r) p (cp ++ cr) = subst (λ xs. HasAt (x.code r) p (cp ++ (passing xs ++ tail))) named has in
        let after' : Left x (are_giving good.0.0.body) n C r (p + length (cp ++ cr)) ws = subst (λ xs. Left x (are_giving good.0.0.body) n C r (p + length (cp ++ (passing xs ++ tail))) ws) named after in
        let hp = has_front (x.code r) p cp cr has' in
        let hr = has_back (x.code r) p cp cr has' in
        let pe = p + length ce in
        let h1 = has_back (x.code r) p ce (op.Push ∷ cf) hp in
        let at : p + length cp ≡ pe + 1 + length cf = omega (arith, length-append ce (op.Push ∷ cf)) in
        let mf = all_nodes (More f (More g es)) + 2 in
        lifted (nodes e + 2) (all_nodes (More e (More f (More g es))) + 2) n 0 (C (Call q (More e (More f (More g es))))) (At r p a ws) (omega arith)
        (expression_sim e good.1.0 (omega (arith, fits)) n (λ y. C (Call q (More y (More f (More g es))))) (in_first x (λ ys. C (Call q ys)) (in_arguments x C cx q) (More f (More g es))) r p ws (has_front (x.code r) p ce (op.Push ∷ cf) hp)
        (λ v lt. rise_in x mf n 2 (C (Call q (More (Value v) (More f (More g es))))) (At r pe v ws) (omega (arith, fits)) (omega arith)
        (push_then x mf n 1 (C (Call q (More (Value v) (More f (More g es))))) r pe v ws h1.0
        (soon_in x mf n 1 1 (C (Call q (More (Value v) (More f (More g es))))) (At r (pe + 1) v (words.Value v ∷ ws)) (omega (arith, fits)) (omega arith)
        (arguments_sim (More f (More g es)) good.1.1 (omega (arith, fits)) n (λ ys. C (Call q (More (Value v) ys))) (in_others x (λ ys. C (Call q ys)) (in_arguments x C cx q) v) r (pe + 1) (words.Value v ∷ ws) h1.1
        (λ vs len b.
        let total_is : total ≡ length (v ∷ vs) = omega (arith, len) in
        let R = C (Call q (of_values (v ∷ vs))) in
        moved_to x 2 n 1 R r (p + length cp) (pe + 1 + length cf) b (pushed (v ∷ vs) ws) at
        (passed q procedure got good.0.4 n C cx r ws total (p + length (cp ++ cr)) after' procedure.parameters (v ∷ vs) ws (omega (arith, good.0.2, len)) good.0.3
        (ap (λ k. drop k (pushed (v ∷ vs) ws)) (omega (arith, total_is)) ∙ drop_pushed (v ∷ vs) 0 ws) (omega (arith, total_is, length_pushed (v ∷ vs) ws)) R (called_is q procedure got C cx (v ∷ vs)) (p + length cp) b hr
        (omega (arith, length-append cp cr, length-append (passing procedure.parameters) tail)))) v)))) a)

    arguments_sim : (es : Expressions) → AreExpressions x.sizes x.procedures MayCall es → all_nodes es + 2 ≤ x.room → (n : ℕ) (C : Expressions → Rest) → AreHoles x C → (r : Routine) (p : ℕ) (ws : List Word) → HasAt (x.code r) p (pushed_code x.procedures es)
        → ((vs : List ℕ) → length vs ≡ count_of es → (a : ℕ) → S x 2 n 1 (C (of_values vs)) (At r (p + length (pushed_code x.procedures es)) a (pushed vs ws))) → (a : ℕ) → S x (all_nodes es + 2) n 1 (C es) (At r p a ws)
    arguments_sim NoMore good fits n C cx r p ws has k a = lifted 2 (all_nodes NoMore + 2) n 1 (C NoMore) (At r p a ws) (omega arith) (moved_to x 2 n 1 (C NoMore) r (p + 0) p a ws (omega arith) (k [] refl a))
    arguments_sim (More e es) good fits n C cx r p ws has k a =
        let ce = expression_code x.procedures e in
        let cs = pushed_code x.procedures es in
        let pe = p + length ce in
        let h1 = has_back (x.code r) p ce (op.Push ∷ cs) has in
        let at : p + length (ce ++ (op.Push ∷ cs)) ≡ pe + 1 + length cs = omega (arith, length-append ce (op.Push ∷ cs)) in
        let ms = all_nodes es + 2 in
        eased x (nodes e + 2) (all_nodes (More e es) + 2) n 0 1 (C (More e es)) (At r p a ws) (omega arith) (omega arith)
        (expression_sim e good.0 (omega (arith, fits)) n (λ y. C (More y es)) (in_first x C cx es) r p ws (has_front (x.code r) p ce (op.Push ∷ cs) has)
        (λ v lt. rise_in x ms n 2 (C (More (Value v) es)) (At r pe v ws) (omega (arith, fits)) (omega arith)
        (push_then x ms n 1 (C (More (Value v) es)) r pe v ws h1.0
        (soon_in x ms n 1 1 (C (More (Value v) es)) (At r (pe + 1) v (words.Value v ∷ ws)) (omega (arith, fits)) (omega arith)
        (arguments_sim es good.1 (omega (arith, fits)) n (λ ys. C (More (Value v) ys)) (in_others x C cx v) r (pe + 1) (words.Value v ∷ ws) h1.1
        (λ vs len b. moved_to x 2 n 1 (C (of_values (v ∷ vs))) r (p + length (ce ++ (op.Push ∷ cs))) (pe + 1 + length cs) b (pushed vs (words.Value v ∷ ws)) at (k (v ∷ vs) (ap suc len) b)) v)))) a)

    pub subscripts_sim : (ss : Subscripts) → AreSubscripts x.sizes x.procedures MayCall 2 ss → subscripts_nodes ss + 2 ≤ x.room → (n : ℕ) (C : Reference → Rest) → IsReferenceHole x C → (m l : ℕ) (anchor : Anchor) (offset : ℕ) (r : Routine) (p : ℕ) (ws : List Word) → HasAt (x.code r) p (subscripts_code x.procedures ss)
        → ((further more : ℕ) → Reached ss offset further more → S x 2 n 0 (C (Refer m l anchor further NoSubscripts)) (At r (p + length (subscripts_code x.procedures ss)) more ws)) → (a : ℕ) → S x (subscripts_nodes ss + 2) n 0 (C (Refer m l anchor offset ss)) (At r p a ws)
    subscripts_sim NoSubscripts good fits n C cx m l anchor offset r p ws has k a =
        lifted 2 (subscripts_nodes NoSubscripts + 2) n 0 (C (Refer m l anchor offset NoSubscripts)) (At r p a ws) (omega arith) (moved_to x 2 n 0 (C (Refer m l anchor offset NoSubscripts)) r (p + 0) p a ws (omega arith) (k offset a refl))
    subscripts_sim (Subscript s e NoSubscripts) good fits n C cx m l anchor offset r p ws has k a =
        let ce = expression_code x.procedures e in
        let cs = scaled s ++ [] in
        let pe = p + length ce in
        let he = has_back (x.code r) p ce cs has in
        lifted (nodes e + 2) (subscripts_nodes (Subscript s e NoSubscripts) + 2) n 0 (C (Refer m l anchor offset (Subscript s e NoSubscripts))) (At r p a ws) (omega arith)
        (subst (λ y. S x (nodes e + 2) n 0 (C (indexed m l anchor offset s y e NoSubscripts)) (At r p a ws)) (not_value e good.0)
        (expression_sim e good.0 (omega (arith, fits)) n (λ y. C (indexed m l anchor offset s (value_of y) y NoSubscripts)) (in_subscript x C cx m l anchor offset s NoSubscripts) r p ws (has_front (x.code r) p ce cs has)
        (λ v lt.
        let R = C (Refer m l anchor ((offset + s * v) % 65536) NoSubscripts) in
        rise x n 1 R (At r pe v ws) (omega arith)
        (scaled_then x n 0 s v (omega arith) (nat_eq s 1) refl R r pe ws (has_front (x.code r) pe (scaled s) [] he)
        (λ b is. moved_to x 2 n 0 R r (p + length (ce ++ cs)) (pe + length (scaled s)) b ws (omega (arith, length-append ce cs, length-append (scaled s) [])) (k ((offset + s * v) % 65536) b (one_sum offset (s * v) b is))))) a))
    subscripts_sim (Subscript s e (Subscript t f NoSubscripts)) good fits n C cx m l anchor offset r p ws has k a =
        let ce = expression_code x.procedures e in
        let cf = expression_code x.procedures f in
        let add = op.Binary binary.Add widths.Word ∷ [] in
        let c3 = scaled t ++ add in
        let c2 = op.Push ∷ (cf ++ c3) in
        let c1 = scaled s ++ c2 in
        let pe = p + length ce in
        let ps = pe + length (scaled s) in
        let pf = ps + 1 + length cf in
        let pt = pf + length (scaled t) in
        let h1 = has_back (x.code r) p ce c1 has in
        let h2 = has_back (x.code r) pe (scaled s) c2 h1 in
        let h3 = has_back (x.code r) (ps + 1) cf c3 h2.1 in
        let h4 = has_back (x.code r) pf (scaled t) add h3 in
        let more = Subscript t f NoSubscripts in
        let mf = nodes f + 2 in
        lifted (nodes e + 2) (subscripts_nodes (Subscript s e more) + 2) n 0 (C (Refer m l anchor offset (Subscript s e more))) (At r p a ws) (omega arith)
        (subst (λ y. S x (nodes e + 2) n 0 (C (indexed m l anchor offset s y e more)) (At r p a ws)) (not_value e good.0)
        (expression_sim e good.0 (omega (arith, fits)) n (λ y. C (indexed m l anchor offset s (value_of y) y more)) (in_subscript x C cx m l anchor offset s more) r p ws (has_front (x.code r) p ce c1 has)
        (λ v lt.
        let o = (offset + s * v) % 65536 in
        let R = C (Refer m l anchor o more) in
        rise x n 2 R (At r pe v ws) (omega arith)
        (scaled_then x n 1 s v (omega arith) (nat_eq s 1) refl R r pe ws (has_front (x.code r) pe (scaled s) c2 h1)
        (λ b is. push_then x 2 n 0 R r ps b ws h2.0
        (soon_in x mf n 0 0 R (At r (ps + 1) b (words.Value b ∷ ws)) (omega (arith, fits)) (omega arith)
        (subst (λ y. S x mf n 0 (C (indexed m l anchor o t y f NoSubscripts)) (At r (ps + 1) b (words.Value b ∷ ws))) (not_value f good.1.0)
        (expression_sim f good.1.0 (omega (arith, fits)) n (λ y. C (indexed m l anchor o t (value_of y) y NoSubscripts)) (in_subscript x C cx m l anchor o t NoSubscripts) r (ps + 1) (words.Value b ∷ ws) (has_front (x.code r) (ps + 1) cf c3 h2.1)
        (λ u ut.
        let o' = (o + t * u) % 65536 in
        let Q = C (Refer m l anchor o' NoSubscripts) in
        rise x n 2 Q (At r pf u (words.Value b ∷ ws)) (omega arith)
        (scaled_then x n 1 t u (omega arith) (nat_eq t 1) refl Q r pf (words.Value b ∷ ws) (has_front (x.code r) pf (scaled t) add h3)
        (λ c js. down x 2 n 0 Q (At r pt c (words.Value b ∷ ws)) (At r (pt + 1) ((b + c) % 65536) ws) (acts x r pt c (words.Value b ∷ ws) (op.Binary binary.Add widths.Word) h4.0)
        (soon x n 0 0 Q (At r (pt + 1) ((b + c) % 65536) ws) (omega arith)
        (moved_to x 2 n 0 Q r (p + length (ce ++ c1)) (pt + 1) ((b + c) % 65536) ws (omega (arith, length-append ce c1, length-append (scaled s) c2, length-append cf c3, length-append (scaled t) add))
        (k o' ((b + c) % 65536) (two_sums offset (s * v) (t * u) b c is js))))))) b)))))) a))
    subscripts_sim (Subscript s e (Subscript t f (Subscript u g more))) good fits n C cx m l anchor offset r p ws has k a = absurd good.1.1

    pub target_sim : (t : Target) → IsTarget x.sizes x.procedures MayCall t → target_nodes t + 2 ≤ x.room → (n v u : ℕ) → Gets t v u → (C : Target → Rest) (done : Rest) → IsTargetHole x v C done → (r : Routine) (p : ℕ) (ws : List Word) → HasAt (x.code r) p (target_code x.procedures t)
        → S x x.room n 2 done (At r (p + length (target_code x.procedures t)) u ws) → S x (target_nodes t + 2) n 2 (C t) (At r p u ws)
    target_sim (ToPlain w y) good fits n v u gets C done tx r p ws has after =
        touches x (target_nodes (ToPlain w y) + 2) n 2 (Write w y (low w v)) (C (ToPlain w y)) (λ z. done) (At r p u ws) (λ z. At r (p + 1) u ws) (tx.plain w y)
        (acts x r p u ws (op.Store w (place_of y)) has.0 ∙ ap (λ o. stored w o u (At r (p + 1) u ws)) (found_plain x w y good) ∙ ap (λ z. Touch (Write w y z) (λ _. At r (p + 1) u ws)) gets)
        (λ z lt. then_ x x.room n 2 2 done (At r (p + 1) u ws) (omega arith) (omega arith) after)
    target_sim (ToVariable w (Refer m l anchor offset ss)) good fits n v u gets C done tx r p ws has after =
        written_by w m l anchor good.0 offset ss (leads_to (Some offset) ss) refl n v u gets C done tx r p ws (writing w anchor offset ss (subscripts_code x.procedures ss)) has after
        (λ h k. written_sim w m l anchor offset ss good fits n v u gets C done tx r p ws
        (λ q h' k' b. subscripts_sim ss good.1 (omega (arith, fits)) n (λ y. C (ToVariable w y)) (tx.part w) m l anchor offset r q (words.Value u ∷ ws) h' k' b) h k)
    target_sim (ToPort w e) good fits n v u gets C done tx r p ws has after =
        sent e fits (operand_of e) (operand_is e) n v u C done tx w gets r p ws has after (λ q h k b. expression_sim e good fits n (λ y. C (ToPort w y)) (tx.port_part w) r q (words.Value u ∷ ws) h k b)

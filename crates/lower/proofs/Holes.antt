-- Where in a rest the next part stands.
use Rattle.std.proofs.Common.{◌≡◌, ℕ, ◌+◌, List, [], ◌∷◌, ◌++◌, length, Option, Some, None, refl, ap, ◌∙◌, subst, arith, slice_get}
use Rattle.word86.specs.declared.width.Width.{Width}
use Rattle.word86.specs.declared.operation.UnaryOperation.{UnaryOperation}
use Rattle.word86.specs.declared.operation.BinaryOperation.{BinaryOperation}
use Rattle.word86.specs.Access.{Access, Write, Output, Where}
use Rattle.word86.specs.Action.{Action, Silent, Touch, Enable, Disable, Halt, Over, Bad, map_action}
use Rattle.word86.specs.Arithmetic.{low}
use Rattle.plm_type.specs.Rest.{Anchor, Expression, Variable, Location, Unary, Binary, Embedded, Input, Call, Value, Running, Expressions, More, Reference, Refer, Subscripts, Subscript, Target, ToPlain, ToVariable, ToPort, Targets, Only, Also, Loop, Assign, Evaluate, ReturnValue, If, While, Case, Iterate, Comparing, Stepping, Statements, End, Then, Returned, Rest, Main, Handler}
use Rattle.plm_type.specs.Next.{value_of, and_value, values_of, returned, next_unary, next_binary, next_input, indexed, written_at, next_port, embedded_after, next_embedded, next_argument, next_call, next_running, assigned, next_assign, evaluated, next_return, next_if, next_while, next_case, next_iterate, next_comparing, next_stepping, address_of, place_of, next_variable, next_location, next_written, next_expression, next_expressions, next_reference, next_target, next_first, next_statements}
use Rattle.icode.specs.declared.instruction.Instruction.{Instruction}
use Rattle.icode.specs.declared.code.Routine.{Routine}
use Rattle.icode.specs.declared.code.Word.{Word}
use Rattle.icode.specs.Machine.{At, run, run_at}
use Rattle.lower.proofs.Setting.{Setting}
use Rattle.lower.proofs.Sim.{N, X}

pub map_twice : {R S U : Type 0} → (f : S → U) (g : R → S) (a : Action Access R) → map_action f (map_action g a) ≡ map_action (λ r. f (g r)) a
map_twice f g (Silent r) = refl
map_twice f g (Touch a h) = refl
map_twice f g (Enable r) = refl
map_twice f g (Disable r) = refl
map_twice f g (Halt r) = refl
map_twice f g Over = refl
map_twice f g (Bad m l) = refl

abbrev AsSome : Option ℕ → Type 0
AsSome (Some v) = Unit {0}
AsSome None = ⊥

-- a write, or a Bad step at the name
abbrev pub write_to : Width → Reference → Option Where → ℕ → Rest → Action Access Rest
write_to w r (Some y) v done = Touch (Write w y (low w v)) (λ _. done)
write_to w (Refer m l anchor offset ss) None v done = Bad m l

module _ (x : Setting) where
  abbrev ex : Expression → Action Access Expression
  ex = next_expression x.offsets x.sizes x.procedures

  abbrev pub IsHole : (Expression → Rest) → Type 0
  IsHole C = (e : Expression) → value_of e ≡ None → N x (C e) ≡ map_action C (next_expression x.offsets x.sizes x.procedures e)

  abbrev pub AreHoles : (Expressions → Rest) → Type 0
  AreHoles C = (es : Expressions) → values_of es ≡ None → N x (C es) ≡ map_action C (next_expressions x.offsets x.sizes x.procedures es)

  abbrev pub IsBody : (Statements → Rest) → Type 0
  IsBody D = (ss : Statements) → returned ss ≡ None → N x (D ss) ≡ map_action D (next_statements x.offsets x.sizes x.procedures ss)

  abbrev pub IsReferenceHole : (Reference → Rest) → Type 0
  IsReferenceHole C = (r : Reference) → address_of x.offsets x.sizes x.procedures r ≡ None → N x (C r) ≡ map_action C (next_reference x.offsets x.sizes x.procedures r)

  -- a target that gets v, and what is left once it has it
  pub record IsTargetHole (v : ℕ) (C : Target → Rest) (done : Rest) : Type 0 where
    pub plain : (w : Width) (y : Where) → N x (C (ToPlain w y)) ≡ Touch (Write w y (low w v)) (λ _. done)
    pub part : (w : Width) → IsReferenceHole (λ r. C (ToVariable w r))
    pub written : (w : Width) (r : Reference) (a : ℕ) → address_of x.offsets x.sizes x.procedures r ≡ Some a → N x (C (ToVariable w r)) ≡ write_to w r (place_of x.offsets x.sizes x.procedures w r a) v done
    pub port_part : (w : Width) → IsHole (λ e. C (ToPort w e))
    pub port : (w : Width) (p : ℕ) → N x (C (ToPort w (Value p))) ≡ Touch (Output w p (low w v)) (λ _. done)

  module _ (C : Expression → Rest) (cx : IsHole C) where
    pub in_unary : (o : UnaryOperation) (w : Width) → IsHole (λ r. C (Unary o w r))
    in_unary o w e h = cx (Unary o w e) refl ∙ ap (λ y. map_action C (next_unary o w y (ex e))) h ∙ map_twice C (Unary o w) (ex e)

    pub in_left : (m l : ℕ) (o : BinaryOperation) (w : Width) (b : Expression) → IsHole (λ r. C (Binary m l o w r b))
    in_left m l o w b e h = cx (Binary m l o w e b) refl ∙ ap (λ y. map_action C (next_binary m l o w y (value_of b) e b (ex e) (ex b))) h ∙ map_twice C (λ r. Binary m l o w r b) (ex e)

    pub in_right : (m l : ℕ) (o : BinaryOperation) (w : Width) (v : ℕ) → IsHole (λ r. C (Binary m l o w (Value v) r))
    in_right m l o w v e h = cx (Binary m l o w (Value v) e) refl ∙ ap (λ y. map_action C (next_binary m l o w (Some v) y (Value v) e Over (ex e))) h ∙ map_twice C (λ r. Binary m l o w (Value v) r) (ex e)

    pub in_input : (w : Width) → IsHole (λ r. C (Input w r))
    in_input w e h = cx (Input w e) refl ∙ ap (λ y. map_action C (next_input w y (ex e))) h ∙ map_twice C (Input w) (ex e)

    pub in_embedded : (t : Target) → IsHole (λ r. C (Embedded t r))
    in_embedded t e h = cx (Embedded t e) refl ∙ ap (λ y. map_action C (next_embedded t y (next_target x.offsets x.sizes x.procedures t) (ex e))) h ∙ map_twice C (Embedded t) (ex e)

    pub in_arguments : (p : ℕ) → AreHoles (λ es. C (Call p es))
    in_arguments p es h =
        let a = next_expressions x.offsets x.sizes x.procedures es in
        cx (Call p es) refl ∙ ap (λ y. map_action C (next_call p y (slice_get x.procedures p) a)) h ∙ map_twice C (Call p) a

    pub in_running : IsBody (λ ss. C (Running ss))
    in_running ss h =
        let a = next_statements x.offsets x.sizes x.procedures ss in
        cx (Running ss) refl ∙ ap (λ y. map_action C (next_running y a)) h ∙ map_twice C Running a

    pub in_variable : (w : Width) → IsReferenceHole (λ r. C (Variable w r))
    in_variable w r h =
        let a = next_reference x.offsets x.sizes x.procedures r in
        cx (Variable w r) refl ∙ ap (λ y. map_action C (next_variable x.offsets x.sizes x.procedures w r y a)) h ∙ map_twice C (Variable w) a

    pub in_location : IsReferenceHole (λ r. C (Location r))
    in_location r h =
        let a = next_reference x.offsets x.sizes x.procedures r in
        cx (Location r) refl ∙ ap (λ y. map_action C (next_location x.offsets x.sizes x.procedures y a)) h ∙ map_twice C Location a

    embedded_written : (w : Width) (v : ℕ) (r : Reference) (o : Option Where) → map_action C (map_action (embedded_after v) (written_at w r o v)) ≡ write_to w r o v (C (Value v))
    embedded_written w v (Refer m l anchor offset ss) None = refl
    embedded_written w v r (Some y) = refl

    pub in_embedded_target : (v : ℕ) → IsTargetHole v (λ t. C (Embedded t (Value v))) (C (Value v))
    in_embedded_target v = record {
      plain = λ w y. cx (Embedded (ToPlain w y) (Value v)) refl;
      part = λ w r h.
          let a = next_reference x.offsets x.sizes x.procedures r in
          cx (Embedded (ToVariable w r) (Value v)) refl
          ∙ ap (λ y. map_action C (map_action (embedded_after v) (next_written x.offsets x.sizes x.procedures w r y v a))) h
          ∙ ap (map_action C) (map_twice (embedded_after v) (λ q. Some (ToVariable w q)) a)
          ∙ map_twice C (λ q. Embedded (ToVariable w q) (Value v)) a;
      written = λ w r a h.
          cx (Embedded (ToVariable w r) (Value v)) refl
          ∙ ap (λ y. map_action C (map_action (embedded_after v) (next_written x.offsets x.sizes x.procedures w r y v (next_reference x.offsets x.sizes x.procedures r)))) h
          ∙ embedded_written w v r (place_of x.offsets x.sizes x.procedures w r a);
      port_part = λ w e h.
          cx (Embedded (ToPort w e) (Value v)) refl
          ∙ ap (λ y. map_action C (map_action (embedded_after v) (next_port w y v (ex e)))) h
          ∙ ap (map_action C) (map_twice (embedded_after v) (λ q. Some (ToPort w q)) (ex e))
          ∙ map_twice C (λ q. Embedded (ToPort w q) (Value v)) (ex e);
      port = λ w p. cx (Embedded (ToPort w (Value p)) (Value v)) refl;
    }

  module _ (C : Expressions → Rest) (cx : AreHoles C) where
    pub in_first : (es : Expressions) → IsHole (λ r. C (More r es))
    in_first es e h =
        let a = next_expressions x.offsets x.sizes x.procedures es in
        cx (More e es) (ap (λ y. and_value y (values_of es)) h) ∙ ap (λ y. map_action C (next_argument y e es (ex e) a)) h ∙ map_twice C (λ r. More r es) (ex e)

    pub in_others : (v : ℕ) → AreHoles (λ r. C (More (Value v) r))
    in_others v es h =
        let a = next_expressions x.offsets x.sizes x.procedures es in
        cx (More (Value v) es) (ap (λ y. and_value (Some v) y) h) ∙ map_twice C (λ r. More (Value v) r) a

  module _ (C : Reference → Rest) (cx : IsReferenceHole C) where
    pub in_subscript : (m l : ℕ) (anchor : Anchor) (offset stride : ℕ) (more : Subscripts) → IsHole (λ e. C (indexed m l anchor offset stride (value_of e) e more))
    in_subscript m l anchor offset stride more e h =
        ap (λ y. N x (C (indexed m l anchor offset stride y e more))) h
        ∙ cx (Refer m l anchor offset (Subscript stride e more)) refl
        ∙ map_twice C (λ r. indexed m l anchor offset stride (value_of r) r more) (ex e)

  module _ (D : Statements → Rest) (dx : IsBody D) (later : Statements) where
    pub in_assign : (ts : Targets) → IsHole (λ r. D (Then (Assign ts r) later))
    in_assign ts e h = dx (Then (Assign ts e) later) refl ∙ ap (λ y. map_action D (next_assign ts y later (next_first x.offsets x.sizes x.procedures ts) (ex e))) h ∙ map_twice D (λ r. Then (Assign ts r) later) (ex e)

    pub in_evaluate : IsHole (λ r. D (evaluated (value_of r) r later))
    in_evaluate e h = ap (λ y. N x (D (evaluated y e later))) h ∙ dx (Then (Evaluate e) later) refl ∙ map_twice D (λ r. evaluated (value_of r) r later) (ex e)

    pub in_return : (w : Width) → IsHole (λ r. D (Then (ReturnValue w r) later))
    in_return w e h = dx (Then (ReturnValue w e) later) refl ∙ ap (λ y. map_action D (next_return w y later (ex e))) h ∙ map_twice D (λ r. Then (ReturnValue w r) later) (ex e)

    pub in_if : (s t : Statements) → IsHole (λ r. D (Then (If r s t) later))
    in_if s t e h = dx (Then (If e s t) later) refl ∙ ap (λ y. map_action D (next_if y s t later (ex e))) h ∙ map_twice D (λ r. Then (If r s t) later) (ex e)

    pub in_while : (c : Expression) (s : Statements) → IsHole (λ r. D (Then (While r c s) later))
    in_while c s e h = dx (Then (While e c s) later) refl ∙ ap (λ y. map_action D (next_while y c s later (ex e))) h ∙ map_twice D (λ r. Then (While r c s) later) (ex e)

    pub in_case : (s : Statements) → IsHole (λ r. D (Then (Case r s) later))
    in_case s e h = dx (Then (Case e s) later) refl ∙ ap (λ y. map_action D (next_case y s later (ex e))) h ∙ map_twice D (λ r. Then (Case r s) later) (ex e)

    pub in_iterate : (l : Loop) → IsHole (λ r. D (Then (Iterate r l) later))
    in_iterate l e h = dx (Then (Iterate e l) later) refl ∙ ap (λ y. map_action D (next_iterate y l later (ex e))) h ∙ map_twice D (λ r. Then (Iterate r l) later) (ex e)

    pub in_comparing : (i : ℕ) (l : Loop) → IsHole (λ r. D (Then (Comparing i r l) later))
    in_comparing i l e h = dx (Then (Comparing i e l) later) refl ∙ ap (λ y. map_action D (next_comparing i y l later (ex e))) h ∙ map_twice D (λ r. Then (Comparing i r l) later) (ex e)

    pub in_stepping : (l : Loop) → IsHole (λ r. D (Then (Stepping r l) later))
    in_stepping l e h = dx (Then (Stepping e l) later) refl ∙ ap (λ y. map_action D (next_stepping y l later (ex e))) h ∙ map_twice D (λ r. Then (Stepping r l) later) (ex e)

    only_written : (w : Width) (v : ℕ) (t : Target) (r : Reference) (o : Option Where) → map_action D (map_action (assigned (Only t) v later) (written_at w r o v)) ≡ write_to w r o v (D later)
    only_written w v t (Refer m l anchor offset ss) None = refl
    only_written w v t r (Some y) = refl

    also_written : (w : Width) (v : ℕ) (t : Target) (ts : Targets) (r : Reference) (o : Option Where) → map_action D (map_action (assigned (Also t ts) v later) (written_at w r o v)) ≡ write_to w r o v (D (Then (Assign ts (Value v)) later))
    also_written w v t ts (Refer m l anchor offset ss) None = refl
    also_written w v t ts r (Some y) = refl

    pub in_only : (v : ℕ) → IsTargetHole v (λ t. D (Then (Assign (Only t) (Value v)) later)) (D later)
    in_only v = record {
      plain = λ w y. dx (Then (Assign (Only (ToPlain w y)) (Value v)) later) refl;
      part = λ w r h.
          let a = next_reference x.offsets x.sizes x.procedures r in
          let t = Only (ToVariable w r) in
          dx (Then (Assign t (Value v)) later) refl
          ∙ ap (λ y. map_action D (map_action (assigned t v later) (next_written x.offsets x.sizes x.procedures w r y v a))) h
          ∙ ap (map_action D) (map_twice (assigned t v later) (λ q. Some (ToVariable w q)) a)
          ∙ map_twice D (λ q. Then (Assign (Only (ToVariable w q)) (Value v)) later) a;
      written = λ w r a h.
          let t = Only (ToVariable w r) in
          dx (Then (Assign t (Value v)) later) refl
          ∙ ap (λ y. map_action D (map_action (assigned t v later) (next_written x.offsets x.sizes x.procedures w r y v (next_reference x.offsets x.sizes x.procedures r)))) h
          ∙ only_written w v (ToVariable w r) r (place_of x.offsets x.sizes x.procedures w r a);
      port_part = λ w e h.
          let t = Only (ToPort w e) in
          dx (Then (Assign t (Value v)) later) refl
          ∙ ap (λ y. map_action D (map_action (assigned t v later) (next_port w y v (ex e)))) h
          ∙ ap (map_action D) (map_twice (assigned t v later) (λ q. Some (ToPort w q)) (ex e))
          ∙ map_twice D (λ q. Then (Assign (Only (ToPort w q)) (Value v)) later) (ex e);
      port = λ w p. dx (Then (Assign (Only (ToPort w (Value p))) (Value v)) later) refl;
    }

    pub in_also : (v : ℕ) (ts : Targets) → IsTargetHole v (λ t. D (Then (Assign (Also t ts) (Value v)) later)) (D (Then (Assign ts (Value v)) later))
    in_also v ts = record {
      plain = λ w y. dx (Then (Assign (Also (ToPlain w y) ts) (Value v)) later) refl;
      part = λ w r h.
          let a = next_reference x.offsets x.sizes x.procedures r in
          let t = Also (ToVariable w r) ts in
          dx (Then (Assign t (Value v)) later) refl
          ∙ ap (λ y. map_action D (map_action (assigned t v later) (next_written x.offsets x.sizes x.procedures w r y v a))) h
          ∙ ap (map_action D) (map_twice (assigned t v later) (λ q. Some (ToVariable w q)) a)
          ∙ map_twice D (λ q. Then (Assign (Also (ToVariable w q) ts) (Value v)) later) a;
      written = λ w r a h.
          let t = Also (ToVariable w r) ts in
          dx (Then (Assign t (Value v)) later) refl
          ∙ ap (λ y. map_action D (map_action (assigned t v later) (next_written x.offsets x.sizes x.procedures w r y v (next_reference x.offsets x.sizes x.procedures r)))) h
          ∙ also_written w v (ToVariable w r) ts r (place_of x.offsets x.sizes x.procedures w r a);
      port_part = λ w e h.
          let t = Also (ToPort w e) ts in
          dx (Then (Assign t (Value v)) later) refl
          ∙ ap (λ y. map_action D (map_action (assigned t v later) (next_port w y v (ex e)))) h
          ∙ ap (map_action D) (map_twice (assigned t v later) (λ q. Some (ToPort w q)) (ex e))
          ∙ map_twice D (λ q. Then (Assign (Also (ToPort w q) ts) (Value v)) later) (ex e);
      port = λ w p. dx (Then (Assign (Also (ToPort w (Value p)) ts) (Value v)) later) refl;
    }

  -- the two outermost ones
  pub in_main : IsBody Main
  in_main End h = absurd (subst (λ b. AsSome b) h tt)
  in_main (Then s later) h = refl
  in_main (Returned v) h = absurd (subst (λ b. AsSome b) h tt)

  pub in_handler : IsBody Handler
  in_handler End h = absurd (subst (λ b. AsSome b) h tt)
  in_handler (Then s later) h = refl
  in_handler (Returned v) h = absurd (subst (λ b. AsSome b) h tt)

  pub acts : (r : Routine) (p a : ℕ) (ws : List Word) (o : Instruction) → slice_get (x.code r) p ≡ Some o → X x (At r p a ws) ≡ run x.offsets x.sizes (x.code r) o r (p + 1) a ws
  acts r p a ws o h = ap (λ i. run_at x.offsets x.sizes (x.code r) i r (p + 1) a ws) h

-- these instructions stand in code at this place
abbrev pub HasAt : List Instruction → ℕ → List Instruction → Type 0
HasAt ops p [] = Unit {0}
HasAt ops p (o ∷ os) = (slice_get ops p ≡ Some o) × HasAt ops (p + 1) os

pub has_front : (ops : List Instruction) (p : ℕ) (a b : List Instruction) → HasAt ops p (a ++ b) → HasAt ops p a
has_front ops p [] b h = tt
has_front ops p (i ∷ a) b h = (h.0, has_front ops (p + 1) a b h.1)

pub has_back : (ops : List Instruction) (p : ℕ) (a b : List Instruction) → HasAt ops p (a ++ b) → HasAt ops (p + length a) b
has_back ops p [] b h = let e : p ≡ p + 0 = omega arith in subst (λ n. HasAt ops n b) e h
has_back ops p (i ∷ a) b h =
    let e : p + 1 + length a ≡ p + length (i ∷ a) = omega arith in
    subst (λ n. HasAt ops n b) e (has_back ops (p + 1) a b h.1)

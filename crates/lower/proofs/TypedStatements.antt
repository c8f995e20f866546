-- Of a program without faults of types: the trees of its statements are well formed.
use Rattle.std.proofs.lemmas.Bool.{and_parts, leb-true, ltb-true, ltb-false}
use Rattle.std.proofs.lemmas.Option.{none-some}
use Rattle.std.proofs.Common.{◌≡◌, ℕ, ◌<◌, Bool, true, false, cond, List, [], slice_get, Option, Some, None, refl, sym, arith, true≢false}
use Rattle.lower.proofs.Faultless.{none_of_both, holds_without_fault}
use Rattle.std.specs.Prelude.{◌&&◌, nat_le, nat_lt}
use Rattle.word86.specs.declared.width.Width.{Width}
use Rattle.word86.specs.declared.width.Width.TheVariants as widths
use Rattle.word86.specs.declared.number.Number.TheVariants.{E401}
use Rattle.plm_syntax.specs.declared.tree.Position.{Position}
use Rattle.plm_decl.specs.declared.layout.ScalarType.{ScalarType}
use Rattle.plm_decl.specs.declared.layout.ScalarType.TheVariants.{Byte, Word, Pointer, Integer}
use Rattle.plm_decl.specs.Datum.{signed}
use Rattle.plm_decl.specs.declared.names.Variable.{Variable}
use Rattle.plm_decl.specs.declared.resolved.Binding.{Binding}
use Rattle.plm_decl.specs.declared.resolved.Binding.TheVariants as binding
use Rattle.plm_decl.specs.Names.{ProcedureR}
use Rattle.plm_decl.specs.Resolved.{ExpressionR, ReferenceR', Use, ReferencesR, no_references, references, StatementR, EmptyR, AssignR, CallR, ReturnR, ReturnValueR, EnableR, DisableR, HaltR, IfR, IfElseR, DoR, WhileR, CaseR, IterateR, StatementsR, no_statements, statements}
use Rattle.plm_type.specs.declared.program.Counting.TheVariants as counting
use Rattle.plm_type.specs.declared.statements.Around.{Around}
use Rattle.plm_type.specs.Typer.{TypedStep}
use Rattle.plm_type.specs.Effects as effects
use Rattle.plm_type.specs.Rest.{Procedure}
use Rattle.plm_type.specs.Types.{width_of, may_count, is_integer}
use Rattle.plm_type.specs.Shapes.{form_type}
use Rattle.plm_type.specs.Typing.{variable_type, parameters_wanted}
use Rattle.plm_type.specs.Statements.{may_return, may_return_value, wanted_of_return, is_placed_scalar, is_index, index_for, variable_meant, wanted_among, targets, assignment, number_in}
use Rattle.plm_type.specs.Steps.{signed_step, step_fits, counting_by, integer_step, number_step, chosen_step}
use Rattle.lower.proofs.Typed.{tree_of, target_of, faults_of, wanted_tree, wanted_type, wanted_faults, given_types, given_faults, target_faults, of_number, of_count, of_bound, target_types, target_trees, of_targets, called, of_call, of_index, step_for, counting_for, of_step, statement_for, statements_for, of_statement, of_statements}
use Rattle.lower.specs.Expressions.{Number, operand_of}
use Rattle.lower.specs.Statements.{Kind}
use Rattle.lower.specs.Well.{StepIs, ScalarLies, IsExpression, AreTargets, MayReturn, MayReturnValue, IsStatement, AreStatements}
use Rattle.lower.proofs.TypedPlaces.{IsLying, AreLying, placed_lies}
use Rattle.lower.proofs.TypedTrees.{zero_well, AllCallable, parted, call_well, given_many, tree_well, given_well, target_well, wanted_well}

-- ---- the step of a DO with an index

integer_width : (t : Option ScalarType) → is_integer t ≡ true → width_of t ≡ widths.Word
integer_width None e = refl
integer_width (Some Byte) e = absurd (true≢false (sym e))
integer_width (Some Word) e = refl
integer_width (Some Pointer) e = refl
integer_width (Some Integer) e = refl

index_width : (o : Option Variable) → is_integer (variable_type o) ≡ true → (index_for o).width ≡ widths.Word
index_width None e = refl
index_width (Some v) e = integer_width (form_type v.form) e

signed_is : (w : Width) (negative : Bool) (n : ℕ) (c : Bool) → nat_lt 0 n ≡ c → w ≡ widths.Word → nat_le n (cond negative 32768 32767) ≡ true
    → StepIs (cond (negative && c) counting.SignedDown counting.SignedUp) w (Number (signed negative 65536 n))
signed_is w false n c e is le = (omega (arith, leb-true n 32767 le), is)
signed_is w true n true e is le = (omega (arith, leb-true n 32768 le, ltb-true 0 n e), is)
signed_is w true n false e is le = (omega (arith, ltb-false 0 n e), is)

fitting_is : (w : Width) (s : _) (b : Bool) → step_fits s ≡ b → b ≡ true → w ≡ widths.Word → StepIs (counting_by s) w (Number (cond b (signed s.negative 65536 s.value) 0))
fitting_is w s true e h is = signed_is w s.negative s.value (nat_lt 0 s.value) refl is e
fitting_is w s false e h is = absurd (true≢false (sym h))

integer_is : (w : Width) (m : ℕ) (p : Position) (o : Option _) → (integer_step m p o).faults ≡ [] → w ≡ widths.Word → StepIs (integer_step m p o).counting w (operand_of (integer_step m p o).tree)
integer_is w m p None f is = absurd (true≢false (sym (holds_without_fault m false E401 p f)))
integer_is w m p (Some s) f is = fitting_is w s (step_fits s) refl (holds_without_fault m (step_fits s) E401 s.place f) is

chosen_is : (c : Bool) (w : Width) (a b : TypedStep) → (c ≡ true → a.faults ≡ [] → StepIs a.counting w (operand_of a.tree)) → (c ≡ false → StepIs b.counting w (operand_of b.tree)) → (chosen_step c a b).faults ≡ []
    → StepIs (chosen_step c a b).counting w (operand_of (chosen_step c a b).tree)
chosen_is true w a b f g h = f refl h
chosen_is false w a b f g h = g refl

-- a missing one is 1
one_is : (c : Bool) (w : Width) → (c ≡ true → w ≡ widths.Word) → StepIs (cond c counting.SignedUp counting.Up) w (Number 1)
one_is true w f = (omega arith, f refl)
one_is false w f = tt

fitting_word : (negative : Bool) (n : ℕ) (b : Bool) → nat_le n (cond negative 32768 32767) ≡ b → cond b (signed negative 65536 n) 0 < 65536
fitting_word false n true e = omega (arith, leb-true n 32767 e)
fitting_word true n true e = omega arith
fitting_word negative n false e = omega arith

module _ (sizes : List ℕ) (trees : List Procedure) (MayCall : ℕ → Type 0) where
  integer_step_well : (m : ℕ) (p : Position) (o : Option _) → IsExpression sizes trees MayCall (integer_step m p o).tree
  integer_step_well m p None = zero_well sizes trees MayCall
  integer_step_well m p (Some s) = fitting_word s.negative s.value (step_fits s) refl

  chosen_step_well : (c : Bool) (a b : TypedStep) → IsExpression sizes trees MayCall a.tree → (b.faults ≡ [] → IsExpression sizes trees MayCall b.tree) → (chosen_step c a b).faults ≡ [] → IsExpression sizes trees MayCall (chosen_step c a b).tree
  chosen_step_well true a b f g h = f
  chosen_step_well false a b f g h = g h

module _ (ps : List ProcedureR) (sizes : List ℕ) (trees : List Procedure) (MayCall : ℕ → Type 0) (vs : List Variable) (all : AreLying sizes vs) (m : ℕ) where
  -- ---- parts

  index_lies : (o : Option Variable) → ((v : Variable) → o ≡ Some v → IsLying sizes v) → is_index o ≡ true → ScalarLies sizes (index_for o)
  index_lies None lies h = absurd (true≢false (sym h))
  index_lies (Some v) lies h = placed_lies sizes v (lies v refl) (and_parts (is_placed_scalar v) (may_count (form_type v.form)) h).0

  meant_lies : (b : Binding) (v : Variable) → variable_meant vs b ≡ Some v → IsLying sizes v
  meant_lies (binding.Variable k) v e = all k v e
  meant_lies (binding.Procedure q) v e = absurd (none-some v e)
  meant_lies (binding.Builtin b) v e = absurd (none-some v e)
  meant_lies binding.Nothing v e = absurd (none-some v e)

  number_well : (p : Position) (e : ExpressionR) → of_number vs ps sizes m p e ≡ [] → AllCallable ps sizes trees MayCall (effects.of_expression e) → IsExpression sizes trees MayCall (tree_of vs ps sizes m e)
  number_well p e f g = tree_well ps sizes trees MayCall vs all m e (none_of_both (faults_of vs ps sizes m e) _ f).0 g

  -- the value of DO CASE
  count_well : (p : Position) (e : ExpressionR) → of_count vs ps sizes m p e ≡ [] → AllCallable ps sizes trees MayCall (effects.of_expression e) → IsExpression sizes trees MayCall (tree_of vs ps sizes m e)
  count_well p e f g = tree_well ps sizes trees MayCall vs all m e (none_of_both (faults_of vs ps sizes m e) _ f).0 g

  bound_well : (t : Option ScalarType) (p : Position) (e : ExpressionR) → of_bound vs ps sizes m t p e ≡ [] → AllCallable ps sizes trees MayCall (effects.of_expression e) → IsExpression sizes trees MayCall (wanted_tree vs ps sizes m t e)
  bound_well t p e f g = wanted_well ps sizes trees MayCall vs all m t e (none_of_both (wanted_faults vs ps sizes m t e) _ f).0 g

  step_well : (t : Option ScalarType) (p : Position) (o : Option ExpressionR) → of_step vs ps sizes m t p o ≡ [] → AllCallable ps sizes trees MayCall (effects.of_step o) → IsExpression sizes trees MayCall (step_for vs ps sizes m t p o)
  step_well t p None f g = omega arith
  step_well t p (Some e) f g =
      chosen_step_well sizes trees MayCall (is_integer t) (integer_step m p (signed_step e)) (number_step (number_in vs ps sizes m p e)) (integer_step_well sizes trees MayCall m p (signed_step e)) (λ h. number_well p e h g) f

  step_is : (o : Option Variable) (p : Position) (by : Option ExpressionR) → of_step vs ps sizes m (variable_type o) p by ≡ []
      → StepIs (counting_for vs ps sizes m (variable_type o) p by) (index_for o).width (operand_of (step_for vs ps sizes m (variable_type o) p by))
  step_is o p None f = one_is (is_integer (variable_type o)) (index_for o).width (index_width o)
  step_is o p (Some e) f =
      chosen_is (is_integer (variable_type o)) (index_for o).width (integer_step m p (signed_step e)) (number_step (number_in vs ps sizes m p e)) (λ c g. integer_is (index_for o).width m p (signed_step e) g (index_width o c)) (λ c. tt) f

  targets_well : (xs : ReferencesR) (x : ReferenceR') → target_faults vs ps sizes m x ≡ [] → of_targets vs ps sizes m xs ≡ [] → AllCallable ps sizes trees MayCall (effects.of_parts x) → AllCallable ps sizes trees MayCall (effects.of_targets xs)
      → AreTargets sizes trees MayCall (targets (target_of vs ps sizes m x) (target_trees vs ps sizes m xs))
  targets_well no_references x e f g h = target_well ps sizes trees MayCall vs all m x e g
  targets_well (references y xs) x e f g h =
      let both = none_of_both (target_faults vs ps sizes m y) (of_targets vs ps sizes m xs) f in
      let calls = parted ps sizes trees MayCall (effects.of_parts y) (effects.of_targets xs) h in
      (target_well ps sizes trees MayCall vs all m x e g, targets_well xs y both.0 both.1 calls.0 calls.1)

  called_well : (p : Position) (x : ReferenceR') → of_call vs ps sizes m p x ≡ [] → AllCallable ps sizes trees MayCall (effects.of_value x) → IsExpression sizes trees MayCall (called vs ps sizes m p x)
  called_well p (Use q (binding.Procedure n) es s) f g =
      let ts = parameters_wanted vs (slice_get ps n) in
      let both = none_of_both (given_faults vs ps sizes m ts es) _ f in
      let calls = parted ps sizes trees MayCall (effects.of_list es) (effects.of_selector s) g.1 in
      (call_well ps sizes trees MayCall vs m q (slice_get ps n) s (given_types vs ps sizes m ts es) _ (given_many ps sizes trees MayCall vs all m es ts) g.0 both.1, given_well ps sizes trees MayCall vs all m es ts both.0 calls.0)
  called_well p (Use q (binding.Variable v) es s) f g = zero_well sizes trees MayCall
  called_well p (Use q (binding.Builtin b) es s) f g = zero_well sizes trees MayCall
  called_well p (Use q binding.Nothing es s) f g = zero_well sizes trees MayCall

  -- ---- statements
  module _ (around : Around) (kind : Kind) (returns : may_return around ≡ true → MayReturn sizes trees MayCall kind) (returns_value : (t : Option ScalarType) → may_return_value around t ≡ true → MayReturnValue sizes trees MayCall kind) where
    assigned_well : (xs : ReferencesR) (t : Option ScalarType) (e : ExpressionR) → of_targets vs ps sizes m xs ≡ [] → wanted_faults vs ps sizes m t e ≡ [] → AllCallable ps sizes trees MayCall (effects.of_targets xs) → AllCallable ps sizes trees MayCall (effects.of_expression e)
        → IsStatement sizes trees MayCall kind (assignment (target_trees vs ps sizes m xs) (wanted_tree vs ps sizes m t e))
    assigned_well no_references t e f h g k = wanted_well ps sizes trees MayCall vs all m t e h k
    assigned_well (references x xs) t e f h g k =
        let both = none_of_both (target_faults vs ps sizes m x) (of_targets vs ps sizes m xs) f in
        let calls = parted ps sizes trees MayCall (effects.of_parts x) (effects.of_targets xs) g in
        (targets_well xs x both.0 both.1 calls.0 calls.1, wanted_well ps sizes trees MayCall vs all m t e h k)

    mutual
      pub statement_well : (s : StatementR) → of_statement vs ps sizes m around s ≡ [] → AllCallable ps sizes trees MayCall (effects.of_statement s) → IsStatement sizes trees MayCall kind (statement_for vs ps sizes m around s)
      statement_well (EmptyR p) f g = tt
      statement_well (AssignR xs e) f g =
          let both = none_of_both (of_targets vs ps sizes m xs) _ f in
          let calls = parted ps sizes trees MayCall (effects.of_targets xs) (effects.of_expression e) g in
          let t = wanted_among (target_types vs ps sizes m xs) in
          assigned_well xs t e both.0 (none_of_both (wanted_faults vs ps sizes m t e) _ both.1).0 calls.0 calls.1
      statement_well (CallR p x) f g = called_well p x f g
      statement_well (ReturnR p) f g = returns (holds_without_fault m (may_return around) E401 p f)
      statement_well (ReturnValueR p e) f g =
          let t = wanted_of_return around in
          let both = none_of_both (wanted_faults vs ps sizes m t e) _ f in
          (returns_value (wanted_type vs ps sizes m t e) (holds_without_fault m (may_return_value around (wanted_type vs ps sizes m t e)) E401 p both.1), wanted_well ps sizes trees MayCall vs all m t e both.0 g)
      statement_well (EnableR p) f g = tt
      statement_well (DisableR p) f g = tt
      statement_well (HaltR p) f g = tt
      statement_well (IfR p e s) f g =
          let both = none_of_both (of_number vs ps sizes m p e) _ f in
          let calls = parted ps sizes trees MayCall (effects.of_expression e) (effects.of_statement s) g in
          (number_well p e both.0 calls.0, (statement_well s both.1 calls.1, tt), tt)
      statement_well (IfElseR p e s t) f g =
          let both = none_of_both (of_number vs ps sizes m p e) _ f in
          let arms = none_of_both (of_statement vs ps sizes m around s) (of_statement vs ps sizes m around t) both.1 in
          let calls = parted ps sizes trees MayCall (effects.of_expression e) _ g in
          let others = parted ps sizes trees MayCall (effects.of_statement s) (effects.of_statement t) calls.1 in
          (number_well p e both.0 calls.0, (statement_well s arms.0 others.0, tt), (statement_well t arms.1 others.1, tt))
      statement_well (DoR p ss) f g = statements_well ss f g
      statement_well (WhileR p e ss) f g =
          let both = none_of_both (of_number vs ps sizes m p e) _ f in
          let calls = parted ps sizes trees MayCall (effects.of_expression e) (effects.of_statements ss) g in
          (refl, number_well p e both.0 calls.0, statements_well ss both.1 calls.1)
      statement_well (CaseR p e ss) f g =
          let both = none_of_both (of_count vs ps sizes m p e) _ f in
          let calls = parted ps sizes trees MayCall (effects.of_expression e) (effects.of_statements ss) g in
          (count_well p e both.0 calls.0, statements_well ss both.1 calls.1)
      statement_well (IterateR p q b from to by ss) f g =
          let o = variable_meant vs b in
          let t = variable_type o in
          let index = none_of_both (of_index vs ps sizes m p q b) _ f in
          let first = none_of_both (of_bound vs ps sizes m t p from) _ index.1 in
          let second = none_of_both (of_bound vs ps sizes m t p to) _ first.1 in
          let third = none_of_both (of_step vs ps sizes m t p by) _ second.1 in
          let calls = parted ps sizes trees MayCall (effects.of_expression from) _ g in
          let later = parted ps sizes trees MayCall (effects.of_expression to) _ calls.1 in
          let last = parted ps sizes trees MayCall (effects.of_step by) (effects.of_statements ss) later.1 in
          let is = holds_without_fault m (is_index o) E401 p (none_of_both _ _ index.0).0 in
          (bound_well t p from first.0 calls.0, (index_lies o (meant_lies b) is, bound_well t p to second.0 later.0, step_well t p by third.0 last.0, statements_well ss third.1 last.1, step_is o p by third.0))

      pub statements_well : (ss : StatementsR) → of_statements vs ps sizes m around ss ≡ [] → AllCallable ps sizes trees MayCall (effects.of_statements ss) → AreStatements sizes trees MayCall kind (statements_for vs ps sizes m around ss)
      statements_well no_statements f g = tt
      statements_well (statements s ss) f g =
          let both = none_of_both (of_statement vs ps sizes m around s) (of_statements vs ps sizes m around ss) f in
          let calls = parted ps sizes trees MayCall (effects.of_statement s) (effects.of_statements ss) g in
          (statement_well s both.0 calls.0, statements_well ss both.1 calls.1)

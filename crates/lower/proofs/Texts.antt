-- The tree of a text without fault calls only what the text calls, and has ENABLE and HALT only where the text has them.
use Rattle.std.proofs.Common.{◌≡◌, ℕ, ⊎_elim, Bool, true, false, List, [], ◌∷◌, ◌++◌, Option, Some, None, refl, sym, ap, subst, arith, slice_get}
use Rattle.std.specs.Prelude.{cond, Contains}
use Rattle.std.proofs.lemmas.List.Elements.{Contains-append_left, Contains-append_right, Contains-append_cases}
use Rattle.lower.proofs.TypedTrees.{targets_evaluate}
use Rattle.lower.proofs.Faultless.{none_of_both, holds_without_fault}
use Rattle.word86.specs.declared.width.Width.{Width}
use Rattle.word86.specs.declared.operation.UnaryOperation.{UnaryOperation}
use Rattle.word86.specs.declared.operation.BinaryOperation.{BinaryOperation}
use Rattle.word86.specs.Access.{Where}
use Rattle.plm_syntax.specs.declared.tree.Position.{Position}
use Rattle.plm_decl.specs.declared.builtin.Builtin.{Builtin}
use Rattle.plm_decl.specs.declared.builtin.Builtin.TheVariants as builtin
use Rattle.plm_decl.specs.declared.layout.ScalarType.{ScalarType}
use Rattle.plm_decl.specs.declared.layout.ScalarType.TheVariants.{Word}
use Rattle.plm_decl.specs.declared.names.Variable.{Variable}
use Rattle.plm_decl.specs.declared.resolved.Binding.TheVariants as binding
use Rattle.plm_decl.specs.declared.found.Found.{Found}
use Rattle.plm_decl.specs.Layout.{size_of}
use Rattle.plm_decl.specs.Names.{ProcedureR}
use Rattle.plm_decl.specs.Resolved.{ExpressionR, NumberR, TextR, ReferenceR, LocationR, ParenthesisedR, EmbeddedR, UnaryR, BinaryR, ReferenceR', Use, ExpressionsR, no_expressions, expressions, SelectorR, no_member, member, member_at, LocationR', LocationOf, ConstantsOf, ReferencesR, no_references, references, StatementR, EmptyR, AssignR, CallR, ReturnR, ReturnValueR, EnableR, DisableR, HaltR, IfR, IfElseR, DoR, WhileR, CaseR, IterateR, StatementsR, no_statements, statements}
use Rattle.plm_type.specs.declared.effects.Effect.{Effect}
use Rattle.plm_type.specs.declared.effects.Effect.TheVariants.{Calls, Enables}
use Rattle.plm_type.specs.declared.statements.Around.{Around}
use Rattle.plm_type.specs.Typer.{TypedStep}
use Rattle.plm_type.specs.Rest.{Expression, Plain, Expressions, NoMore, More, Reference, Subscripts, NoSubscripts, Target, ToPlain, Targets}
use Rattle.plm_type.specs.Rest as rest
use Rattle.plm_type.specs.Expressions.{wanted_beside}
use Rattle.plm_type.specs.Typing.{is_measure, is_target, first_type, other_types, variable_type, wanted_arguments, parameters_wanted}
use Rattle.plm_type.specs.Types.{width_of, is_integer}
use Rattle.plm_type.specs.Shapes.{fixed_place, designated, read_of, store_to}
use Rattle.plm_type.specs.Trees.{entry_of, strided, use_read, use_stored, refer, builtin_value, operated, shifted, read_port, to_port}
use Rattle.plm_type.specs.Statements.{wanted_of_return, variable_meant, wanted_among, targets, assignment, number_in}
use Rattle.plm_type.specs.Steps.{signed_step, integer_step, number_step, chosen_step}
use Rattle.lower.proofs.Typed.{type_of, is_turned, wanted_tree, wanted_faults, given_trees, given_faults, target_type, target_types, tree_of, trees_of, selector_trees, value_of, location_of, target_of, faults_of, faults_in, selector_faults, value_faults, location_faults, target_faults, measured_value, argument_value, reference_value, target_trees, called, step_for, statement_for, statements_for}
use Rattle.lower.proofs.Typed as typed
use Rattle.plm_type.specs.Faults.{fault_unless}
use Rattle.plm_type.specs.Calls.{calls_in, argument_calls, reference_calls, subscript_calls, target_calls, targets_calls, statement_calls, statements_calls}
use Rattle.plm_type.specs.Effects.{of_expression, of_list, of_selector, of_parts, of_value, of_location, of_targets, of_step, of_statement, of_statements}
use Rattle.plm_type.specs.Interrupts as interrupts
use Rattle.lower.proofs.Integers.{turned_calls}
use Rattle.lower.proofs.Fitting.{Lets, Let}

-- ---- what calls are among

module _ (ps : List ProcedureR) where
  abbrev pub Within : List ℕ → List Effect → Type 0
  Within xs es = (q : ℕ) → Contains xs q → Contains (interrupts.called ps es) q

  called_append : (es fs : List Effect) → interrupts.called ps (es ++ fs) ≡ interrupts.called ps es ++ interrupts.called ps fs
  called_append [] fs = refl
  called_append (Calls q ∷ es) fs = ap (λ (l : List ℕ). q ∷ entry_of (slice_get ps q) ∷ l) (called_append es fs)
  called_append (Enables ∷ es) fs = called_append es fs

  none : (es : List Effect) → Within [] es
  none es q c = absurd (omega (arith, c.1))

  left : (xs : List ℕ) (es fs : List Effect) → Within xs es → Within xs (es ++ fs)
  left xs es fs f q c = subst (λ l. Contains l q) (sym (called_append es fs)) (Contains-append_left (interrupts.called ps es) (interrupts.called ps fs) q (f q c))

  right : (xs : List ℕ) (es fs : List Effect) → Within xs fs → Within xs (es ++ fs)
  right xs es fs f q c = subst (λ l. Contains l q) (sym (called_append es fs)) (Contains-append_right (interrupts.called ps es) (interrupts.called ps fs) q (f q c))

  all : (xs ys : List ℕ) (es : List Effect) → Within xs es → Within ys es → Within (xs ++ ys) es
  all xs ys es f g q c = ⊎_elim (f q) (g q) (Contains-append_cases xs ys q c)

  both : (xs ys : List ℕ) (es fs : List Effect) → Within xs es → Within ys fs → Within (xs ++ ys) (es ++ fs)
  both xs ys es fs f g = all xs ys (es ++ fs) (left xs es fs f) (right ys es fs g)

  -- ---- expressions

  strided_within : (stride : ℕ) (es : Expressions) (more : Subscripts) (fs : List Effect) → Within (argument_calls es) fs → Within (subscript_calls more) fs → Within (subscript_calls (strided stride es more)) fs
  strided_within stride NoMore more fs f g = g
  strided_within stride (More e es) more fs f g =
      all (calls_in e) (subscript_calls (strided stride es more)) fs (λ q c. f q (Contains-append_left (calls_in e) (argument_calls es) q c)) (strided_within stride es more fs (λ q c. f q (Contains-append_right (calls_in e) (argument_calls es) q c)) g)

  read_within : (t : ScalarType) (r : Reference) (o : Option Where) (fs : List Effect) → Within (reference_calls r) fs → Within (calls_in (elim o [ Some w ↦ Plain (width_of (Some t)) w | None ↦ rest.Variable (width_of (Some t)) r ])) fs
  read_within t r (Some w) fs f = none fs
  read_within t r None fs f = f

  store_within : (t : ScalarType) (r : Reference) (o : Option Where) (fs : List Effect) → Within (reference_calls r) fs → Within (target_calls (elim o [ Some w ↦ ToPlain (width_of (Some t)) w | None ↦ rest.ToVariable (width_of (Some t)) r ])) fs
  store_within t r (Some w) fs f = none fs
  store_within t r None fs f = f

  use_read_within : (v : Option Variable) (s : SelectorR) (r : Reference) (fs : List Effect) → Within (reference_calls r) fs → Within (calls_in (use_read v s r)) fs
  use_read_within None s r fs f = none fs
  use_read_within (Some v) s r fs f = by (designated v s)
    where
      by : (d : Option ScalarType) → Within (calls_in (elim d [ Some t ↦ read_of t r | None ↦ rest.Constant 0 ])) fs
      by (Some t) = read_within t r (fixed_place (size_of t) r) fs f
      by None = none fs

  use_stored_within : (v : Option Variable) (s : SelectorR) (r : Reference) (fs : List Effect) → Within (reference_calls r) fs → Within (target_calls (use_stored v s r)) fs
  use_stored_within None s r fs f = store_within Word r (fixed_place (size_of Word) r) fs f
  use_stored_within (Some v) s r fs f = by (designated v s)
    where
      by : (d : Option ScalarType) → Within (target_calls (elim d [ Some t ↦ store_to t r | None ↦ store_to Word r ])) fs
      by (Some t) = store_within t r (fixed_place (size_of t) r) fs f
      by None = store_within Word r (fixed_place (size_of Word) r) fs f

  operated_within : (es : Expressions) (fs : List Effect) → Within (argument_calls es) fs → (o : UnaryOperation) (w : Width) → Within (calls_in (operated o w es)) fs
  operated_within NoMore fs f o w = none fs
  operated_within (More e NoMore) fs f o w = λ q c. f q (Contains-append_left (calls_in e) [] q c)
  operated_within (More e (More d es)) fs f o w = none fs

  port_within : (es : Expressions) (fs : List Effect) → Within (argument_calls es) fs → (w : Width) → Within (calls_in (read_port w es)) fs
  port_within NoMore fs f w = none fs
  port_within (More e NoMore) fs f w = λ q c. f q (Contains-append_left (calls_in e) [] q c)
  port_within (More e (More d es)) fs f w = none fs

  to_port_within : (es : Expressions) (fs : List Effect) → Within (argument_calls es) fs → (b : Builtin) → Within (target_calls (to_port b es)) fs
  to_port_within NoMore fs f b = none fs
  to_port_within (More e NoMore) fs f b = λ q c. f q (Contains-append_left (calls_in e) [] q c)
  to_port_within (More e (More d es)) fs f b = none fs

  module _ (variables : List Variable) (sizes : List ℕ) (m : ℕ) where
    refer_within : (line : ℕ) (v : Option Variable) (s : SelectorR) (es gs : Expressions) (fs : List Effect) → Within (argument_calls es) fs → Within (argument_calls gs) fs → Within (reference_calls (refer variables m line v s es gs)) fs
    refer_within line None s es gs fs f g = none fs
    refer_within line (Some v) s es gs fs f g = strided_within v.stride es (strided _ gs NoSubscripts) fs f (strided_within _ gs NoSubscripts fs g (none fs))

    shifted_within : (line : ℕ) (es : Expressions) (fs : List Effect) → Within (argument_calls es) fs → (o : BinaryOperation) (w : Width) → Within (calls_in (shifted m line o w es)) fs
    shifted_within line NoMore fs f o w = none fs
    shifted_within line (More e NoMore) fs f o w = none fs
    shifted_within line (More e (More d NoMore)) fs f o w = λ q c.
        ⊎_elim (λ l. f q (Contains-append_left (calls_in e) (calls_in d ++ []) q l)) (λ r. f q (Contains-append_right (calls_in e) (calls_in d ++ []) q (Contains-append_left (calls_in d) [] q r))) (Contains-append_cases (calls_in e) (calls_in d) q c)
    shifted_within line (More e (More d (More c es))) fs f o w = none fs

    builtin_within : (b : Builtin) (line : ℕ) (w : Width) (es : Expressions) (fs : List Effect) → Within (argument_calls es) fs → Within (calls_in (builtin_value m line b w es)) fs
    builtin_within builtin.Low line w es fs f = operated_within es fs f _ w
    builtin_within builtin.High line w es fs f = operated_within es fs f _ w
    builtin_within builtin.Double line w es fs f = operated_within es fs f _ w
    builtin_within builtin.Signed line w es fs f = operated_within es fs f _ w
    builtin_within builtin.Unsigned line w es fs f = operated_within es fs f _ w
    builtin_within builtin.ShiftLeft line w es fs f = shifted_within line es fs f _ w
    builtin_within builtin.ShiftRight line w es fs f = shifted_within line es fs f _ w
    builtin_within builtin.RotateLeft line w es fs f = shifted_within line es fs f _ w
    builtin_within builtin.RotateRight line w es fs f = shifted_within line es fs f _ w
    builtin_within builtin.Input line w es fs f = port_within es fs f _
    builtin_within builtin.InputWord line w es fs f = port_within es fs f _
    builtin_within _ line w es fs f = none fs

    -- what LENGTH, LAST and SIZE give is a constant
    reference_within : (at : Position) (b : Builtin) (x : ReferenceR') (fs : List Effect) → Within (calls_in (reference_value variables ps sizes m at b x)) fs
    reference_within at b (Use p (binding.Variable v) es s) fs = none fs
    reference_within at b (Use p _ es s) fs = none fs

    argument_within : (at : Position) (b : Builtin) (e : ExpressionR) (fs : List Effect) → Within (calls_in (argument_value variables ps sizes m at b e)) fs
    argument_within at b (ReferenceR x) fs = reference_within at b x fs
    argument_within at b _ fs = none fs

    measured_within : (at : Position) (b : Builtin) (es : ExpressionsR) (fs : List Effect) → Within (calls_in (measured_value variables ps sizes m at b es)) fs
    measured_within at b no_expressions fs = none fs
    measured_within at b (expressions e no_expressions) fs = argument_within at b e fs
    measured_within at b (expressions e (expressions d es)) fs = none fs

    -- what a measure holds is not evaluated
    either_within : (p : Position) (b : Builtin) (es : ExpressionsR) (s : SelectorR) (measures : Bool) (ts : List (Option ScalarType)) (fs gs : List Found) → cond measures fs (given_faults variables ps sizes m ts es ++ gs) ≡ []
        → (given_faults variables ps sizes m ts es ≡ [] → Within (argument_calls (given_trees variables ps sizes m ts es)) (of_list es)) → (w : Width)
        → Within (calls_in (cond measures (measured_value variables ps sizes m p b es) (builtin_value m p.line b w (given_trees variables ps sizes m ts es)))) (cond measures [] (of_list es ++ of_selector s))
    either_within p b es s true ts fs gs h f w = measured_within p b es []
    either_within p b es s false ts fs gs h f w =
        let all = given_trees variables ps sizes m ts es in
        builtin_within b p.line w all (of_list es ++ of_selector s) (left (argument_calls all) (of_list es) (of_selector s) (f (none_of_both (given_faults variables ps sizes m ts es) gs h).0))

    -- a tree that may be turned INTEGER
    turned_within : (t : Option ScalarType) (e : ExpressionR) (fs : List Effect) → Within (calls_in (tree_of variables ps sizes m e)) fs → Within (calls_in (wanted_tree variables ps sizes m t e)) fs
    turned_within t e fs f = subst (λ (xs : List ℕ). Within xs fs) (sym (turned_calls (is_turned variables ps sizes m t e) (tree_of variables ps sizes m e))) f

    called_within : (n : ℕ) (xs : List ℕ) (fs : List Effect) → Within xs fs → Within (entry_of (slice_get ps n) ∷ xs) (Calls n ∷ fs)
    called_within n xs fs f q c =
        let entry = entry_of (slice_get ps n) in
        Contains-append_right (n ∷ []) (entry ∷ interrupts.called ps fs) q
        (⊎_elim (λ l. Contains-append_left (entry ∷ []) (interrupts.called ps fs) q l) (λ r. Contains-append_right (entry ∷ []) (interrupts.called ps fs) q (f q r)) (Contains-append_cases (entry ∷ []) xs q c))

    mutual
      pub expression_within : (e : ExpressionR) → faults_of variables ps sizes m e ≡ [] → Within (calls_in (tree_of variables ps sizes m e)) (of_expression e)
      expression_within (NumberR n) h = none []
      expression_within (TextR p cs) h = none []
      expression_within (ReferenceR x) h = value_within x h
      expression_within (LocationR l) h = location_within l h
      expression_within (ParenthesisedR p e) h = expression_within e h
      expression_within (EmbeddedR p x e) h =
          let a = none_of_both (target_faults variables ps sizes m x) _ h in
          let t = target_type variables ps sizes m x in
          let own = none_of_both (wanted_faults variables ps sizes m t e) _ a.1 in
          let stored = calls_in (wanted_tree variables ps sizes m t e) in
          all stored (target_calls (target_of variables ps sizes m x)) (of_parts x ++ of_expression e)
          (right stored (of_parts x) (of_expression e) (turned_within t e (of_expression e) (expression_within e (none_of_both (faults_of variables ps sizes m e) _ own.0).0)))
          (left (target_calls (target_of variables ps sizes m x)) (of_parts x) (of_expression e) (target_within x a.0))
      expression_within (UnaryR p o e) h = expression_within e (none_of_both (faults_of variables ps sizes m e) _ h).0
      expression_within (BinaryR p o a b) h =
          let f = none_of_both (faults_of variables ps sizes m a) _ h in
          let t = wanted_beside o (type_of variables ps sizes m b) in
          let u = wanted_beside o (type_of variables ps sizes m a) in
          both (calls_in (wanted_tree variables ps sizes m t a)) (calls_in (wanted_tree variables ps sizes m u b)) (of_expression a) (of_expression b)
          (turned_within t a (of_expression a) (expression_within a f.0)) (turned_within u b (of_expression b) (expression_within b (none_of_both (faults_of variables ps sizes m b) _ f.1).0))

      expressions_within : (es : ExpressionsR) → faults_in variables ps sizes m es ≡ [] → Within (argument_calls (trees_of variables ps sizes m es)) (of_list es)
      expressions_within no_expressions h = none []
      expressions_within (expressions e es) h =
          let f = none_of_both (faults_of variables ps sizes m e) _ h in
          both (calls_in (tree_of variables ps sizes m e)) (argument_calls (trees_of variables ps sizes m es)) (of_expression e) (of_list es) (expression_within e f.0) (expressions_within es f.1)

      given_within : (es : ExpressionsR) (ts : List (Option ScalarType)) → given_faults variables ps sizes m ts es ≡ [] → Within (argument_calls (given_trees variables ps sizes m ts es)) (of_list es)
      given_within no_expressions ts h = none []
      given_within (expressions e es) ts h =
          let f = none_of_both (wanted_faults variables ps sizes m (first_type ts) e) (given_faults variables ps sizes m (other_types ts) es) h in
          both (calls_in (wanted_tree variables ps sizes m (first_type ts) e)) (argument_calls (given_trees variables ps sizes m (other_types ts) es)) (of_expression e) (of_list es)
          (turned_within (first_type ts) e (of_expression e) (expression_within e (none_of_both (faults_of variables ps sizes m e) _ f.0).0)) (given_within es (other_types ts) f.1)

      selector_within : (s : SelectorR) → selector_faults variables ps sizes m s ≡ [] → Within (argument_calls (selector_trees variables ps sizes m s)) (of_selector s)
      selector_within no_member h = none []
      selector_within (member p n) h = none []
      selector_within (member_at p n e) h = all (calls_in (tree_of variables ps sizes m e)) [] (of_expression e) (expression_within e h) (none (of_expression e))

      value_within : (x : ReferenceR') → value_faults variables ps sizes m x ≡ [] → Within (calls_in (value_of variables ps sizes m x)) (of_value x)
      value_within (Use p (binding.Variable v) es s) h =
          let f = none_of_both (faults_in variables ps sizes m es) (selector_faults variables ps sizes m s) (none_of_both (faults_in variables ps sizes m es ++ selector_faults variables ps sizes m s) _ h).0 in
          use_read_within (slice_get variables v) s (refer variables m p.line (slice_get variables v) s (trees_of variables ps sizes m es) (selector_trees variables ps sizes m s)) (of_list es ++ of_selector s)
          (refer_within p.line (slice_get variables v) s (trees_of variables ps sizes m es) (selector_trees variables ps sizes m s) (of_list es ++ of_selector s)
          (left (argument_calls (trees_of variables ps sizes m es)) (of_list es) (of_selector s) (expressions_within es f.0)) (right (argument_calls (selector_trees variables ps sizes m s)) (of_list es) (of_selector s) (selector_within s f.1)))
      value_within (Use p (binding.Procedure n) es s) h =
          let ts = parameters_wanted variables (slice_get ps n) in
          let all = argument_calls (given_trees variables ps sizes m ts es) in
          called_within n all (of_list es ++ of_selector s) (left all (of_list es) (of_selector s) (given_within es ts (none_of_both (given_faults variables ps sizes m ts es) _ h).0))
      value_within (Use p (binding.Builtin b) es s) h =
          either_within p b es s (is_measure b) (wanted_arguments b) _ _ (none_of_both (fault_unless m _ _ p) _ h).1 (λ k. given_within es (wanted_arguments b) k) _
      value_within (Use p binding.Nothing es s) h = none (of_list es ++ of_selector s)

      location_within : (l : LocationR') → location_faults variables ps sizes m l ≡ [] → Within (calls_in (location_of variables ps sizes m l)) (of_location l)
      location_within (LocationOf p f (Use q (binding.Variable v) es s)) h =
          let g = none_of_both (faults_in variables ps sizes m es) (selector_faults variables ps sizes m s) (none_of_both (faults_in variables ps sizes m es ++ selector_faults variables ps sizes m s) _ h).0 in
          refer_within q.line (slice_get variables v) s (trees_of variables ps sizes m es) (selector_trees variables ps sizes m s) (of_list es ++ of_selector s)
          (left (argument_calls (trees_of variables ps sizes m es)) (of_list es) (of_selector s) (expressions_within es g.0)) (right (argument_calls (selector_trees variables ps sizes m s)) (of_list es) (of_selector s) (selector_within s g.1))
      location_within (LocationOf p f (Use q (binding.Procedure n) es s)) h = none (of_parts (Use q (binding.Procedure n) es s))
      location_within (LocationOf p f (Use q (binding.Builtin b) es s)) h = none (of_parts (Use q (binding.Builtin b) es s))
      location_within (LocationOf p f (Use q binding.Nothing es s)) h = none (of_parts (Use q binding.Nothing es s))
      location_within (ConstantsOf p f k) h = none []

      target_within : (x : ReferenceR') → target_faults variables ps sizes m x ≡ [] → Within (target_calls (target_of variables ps sizes m x)) (of_parts x)
      target_within (Use p (binding.Variable v) es s) h =
          let f = none_of_both (faults_in variables ps sizes m es) (selector_faults variables ps sizes m s) (none_of_both (faults_in variables ps sizes m es ++ selector_faults variables ps sizes m s) _ h).0 in
          use_stored_within (slice_get variables v) s (refer variables m p.line (slice_get variables v) s (trees_of variables ps sizes m es) (selector_trees variables ps sizes m s)) (of_list es ++ of_selector s)
          (refer_within p.line (slice_get variables v) s (trees_of variables ps sizes m es) (selector_trees variables ps sizes m s) (of_list es ++ of_selector s)
          (left (argument_calls (trees_of variables ps sizes m es)) (of_list es) (of_selector s) (expressions_within es f.0)) (right (argument_calls (selector_trees variables ps sizes m s)) (of_list es) (of_selector s) (selector_within s f.1)))
      target_within (Use p (binding.Builtin b) es s) h =
          let f = none_of_both (faults_in variables ps sizes m es) _ h in
          let port = holds_without_fault m (is_target b) _ p (none_of_both (fault_unless m (is_target b) _ p) _ f.1).0 in
          subst (λ c. Within (target_calls (to_port b (trees_of variables ps sizes m es))) (cond c [] (of_list es ++ of_selector s))) (sym (targets_evaluate b port))
          (left (target_calls (to_port b (trees_of variables ps sizes m es))) (of_list es) (of_selector s) (to_port_within (trees_of variables ps sizes m es) (of_list es) (expressions_within es f.0) b))
      target_within (Use p (binding.Procedure n) es s) h = none (of_parts (Use p (binding.Procedure n) es s))
      target_within (Use p binding.Nothing es s) h = none (of_parts (Use p binding.Nothing es s))

    -- ---- statements

    abbrev list_calls : List Target → List ℕ
    list_calls [] = []
    list_calls (t ∷ ts) = target_calls t ++ list_calls ts

    targets_within : (t : Target) (ts : List Target) (q : ℕ) → Contains (targets_calls (targets t ts)) q → Contains (target_calls t ++ list_calls ts) q
    targets_within t [] q c = Contains-append_left (target_calls t) [] q c
    targets_within t (u ∷ us) q c =
        ⊎_elim (λ l. Contains-append_left (target_calls t) (list_calls (u ∷ us)) q l) (λ r. Contains-append_right (target_calls t) (list_calls (u ∷ us)) q (targets_within u us q r)) (Contains-append_cases (target_calls t) (targets_calls (targets u us)) q c)

    assignment_within : (ts : List Target) (e : Expression) (es fs : List Effect) → Within (list_calls ts) es → Within (calls_in e) fs → Within (statement_calls (assignment ts e)) (es ++ fs)
    assignment_within [] e es fs f g = right (calls_in e) es fs g
    assignment_within (t ∷ ts) e es fs f g = all (calls_in e) (targets_calls (targets t ts)) (es ++ fs) (right (calls_in e) es fs g) (left (targets_calls (targets t ts)) es fs (λ q c. f q (targets_within t ts q c)))

    target_trees_within : (xs : ReferencesR) → typed.of_targets variables ps sizes m xs ≡ [] → Within (list_calls (target_trees variables ps sizes m xs)) (of_targets xs)
    target_trees_within no_references h = none []
    target_trees_within (references x xs) h =
        let f = none_of_both (target_faults variables ps sizes m x) (typed.of_targets variables ps sizes m xs) h in
        both (target_calls (target_of variables ps sizes m x)) (list_calls (target_trees variables ps sizes m xs)) (of_parts x) (of_targets xs) (target_within x f.0) (target_trees_within xs f.1)

    call_within : (p : Position) (x : ReferenceR') → typed.of_call variables ps sizes m p x ≡ [] → Within (calls_in (called variables ps sizes m p x)) (of_value x)
    call_within p (Use r (binding.Procedure n) es s) h =
        let ts = parameters_wanted variables (slice_get ps n) in
        let args = argument_calls (given_trees variables ps sizes m ts es) in
        called_within n args (of_list es ++ of_selector s) (left args (of_list es) (of_selector s) (given_within es ts (none_of_both (given_faults variables ps sizes m ts es) _ h).0))
    call_within p (Use r (binding.Variable v) es s) h = none (of_value (Use r (binding.Variable v) es s))
    call_within p (Use r (binding.Builtin b) es s) h = none (of_value (Use r (binding.Builtin b) es s))
    call_within p (Use r binding.Nothing es s) h = none (of_value (Use r binding.Nothing es s))

    wanted_within : (t : Option ScalarType) (e : ExpressionR) → wanted_faults variables ps sizes m t e ≡ [] → Within (calls_in (wanted_tree variables ps sizes m t e)) (of_expression e)
    wanted_within t e h = turned_within t e (of_expression e) (expression_within e (none_of_both (faults_of variables ps sizes m e) _ h).0)

    integer_step_within : (p : Position) (o : Option _) (fs : List Effect) → Within (calls_in (integer_step m p o).tree) fs
    integer_step_within p None fs = none fs
    integer_step_within p (Some s) fs = none fs

    chosen_within : (c : Bool) (a b : TypedStep) (fs : List Effect) → Within (calls_in a.tree) fs → (b.faults ≡ [] → Within (calls_in b.tree) fs) → (chosen_step c a b).faults ≡ [] → Within (calls_in (chosen_step c a b).tree) fs
    chosen_within true a b fs f g h = f
    chosen_within false a b fs f g h = g h

    step_within : (t : Option ScalarType) (p : Position) (o : Option ExpressionR) → typed.of_step variables ps sizes m t p o ≡ [] → Within (calls_in (step_for variables ps sizes m t p o)) (of_step o)
    step_within t p None h = none []
    step_within t p (Some e) h =
        chosen_within (is_integer t) (integer_step m p (signed_step e)) (number_step (number_in variables ps sizes m p e)) (of_expression e) (integer_step_within p (signed_step e) (of_expression e))
        (λ k. expression_within e (none_of_both (faults_of variables ps sizes m e) _ k).0) h

    abbrev tree : ExpressionR → List ℕ
    tree e = calls_in (tree_of variables ps sizes m e)

    mutual
      pub statement_within : (around : Around) (s : StatementR) → typed.of_statement variables ps sizes m around s ≡ [] → Within (statement_calls (statement_for variables ps sizes m around s)) (of_statement s)
      statement_within around (EmptyR p) h = none []
      statement_within around (AssignR xs e) h =
          let f = none_of_both (typed.of_targets variables ps sizes m xs) _ h in
          let t = wanted_among (target_types variables ps sizes m xs) in
          assignment_within (target_trees variables ps sizes m xs) (wanted_tree variables ps sizes m t e) (of_targets xs) (of_expression e) (target_trees_within xs f.0) (wanted_within t e (none_of_both (wanted_faults variables ps sizes m t e) _ f.1).0)
      statement_within around (CallR p x) h = call_within p x h
      statement_within around (ReturnR p) h = none []
      statement_within around (ReturnValueR p e) h = wanted_within (wanted_of_return around) e (none_of_both (wanted_faults variables ps sizes m (wanted_of_return around) e) _ h).0
      statement_within around (EnableR p) h = none (Enables ∷ [])
      statement_within around (DisableR p) h = none []
      statement_within around (HaltR p) h = none (Enables ∷ [])
      statement_within around (IfR p e s) h =
          let f = none_of_both (typed.of_number variables ps sizes m p e) (typed.of_statement variables ps sizes m around s) h in
          let arm = statement_calls (statement_for variables ps sizes m around s) in
          both (tree e) ((arm ++ []) ++ []) (of_expression e) (of_statement s) (expression_within e (none_of_both (faults_of variables ps sizes m e) _ f.0).0)
          (all (arm ++ []) [] (of_statement s) (all arm [] (of_statement s) (statement_within around s f.1) (none (of_statement s))) (none (of_statement s)))
      statement_within around (IfElseR p e s t) h =
          let f = none_of_both (typed.of_number variables ps sizes m p e) (typed.of_statement variables ps sizes m around s ++ typed.of_statement variables ps sizes m around t) h in
          let g = none_of_both (typed.of_statement variables ps sizes m around s) (typed.of_statement variables ps sizes m around t) f.1 in
          let arm = statement_calls (statement_for variables ps sizes m around s) in
          let other = statement_calls (statement_for variables ps sizes m around t) in
          both (tree e) ((arm ++ []) ++ (other ++ [])) (of_expression e) (of_statement s ++ of_statement t) (expression_within e (none_of_both (faults_of variables ps sizes m e) _ f.0).0)
          (both (arm ++ []) (other ++ []) (of_statement s) (of_statement t) (all arm [] (of_statement s) (statement_within around s g.0) (none (of_statement s))) (all other [] (of_statement t) (statement_within around t g.1) (none (of_statement t))))
      statement_within around (DoR p ss) h = statements_within around ss h
      statement_within around (WhileR p e ss) h =
          let f = none_of_both (typed.of_number variables ps sizes m p e) (typed.of_statements variables ps sizes m around ss) h in
          both (tree e) (statements_calls (statements_for variables ps sizes m around ss)) (of_expression e) (of_statements ss) (expression_within e (none_of_both (faults_of variables ps sizes m e) _ f.0).0) (statements_within around ss f.1)
      statement_within around (CaseR p e ss) h =
          let f = none_of_both (typed.of_count variables ps sizes m p e) (typed.of_statements variables ps sizes m around ss) h in
          both (tree e) (statements_calls (statements_for variables ps sizes m around ss)) (of_expression e) (of_statements ss) (expression_within e (none_of_both (faults_of variables ps sizes m e) _ f.0).0) (statements_within around ss f.1)
      statement_within around (IterateR p q i a b s ss) h =
          let t = variable_type (variable_meant variables i) in
          let f = none_of_both (typed.of_index variables ps sizes m p q i) _ h in
          let g = none_of_both (typed.of_bound variables ps sizes m t p a) _ f.1 in
          let k = none_of_both (typed.of_bound variables ps sizes m t p b) _ g.1 in
          let l = none_of_both (typed.of_step variables ps sizes m t p s) (typed.of_statements variables ps sizes m around ss) k.1 in
          let start = calls_in (wanted_tree variables ps sizes m t a) in
          let bound = calls_in (wanted_tree variables ps sizes m t b) in
          let step = calls_in (step_for variables ps sizes m t p s) in
          let body = statements_calls (statements_for variables ps sizes m around ss) in
          both start (bound ++ (step ++ body)) (of_expression a) (of_expression b ++ (of_step s ++ of_statements ss)) (wanted_within t a (none_of_both (wanted_faults variables ps sizes m t a) _ g.0).0)
          (both bound (step ++ body) (of_expression b) (of_step s ++ of_statements ss) (wanted_within t b (none_of_both (wanted_faults variables ps sizes m t b) _ k.0).0)
          (both step body (of_step s) (of_statements ss) (step_within t p s l.0) (statements_within around ss l.1)))

      pub statements_within : (around : Around) (ss : StatementsR) → typed.of_statements variables ps sizes m around ss ≡ [] → Within (statements_calls (statements_for variables ps sizes m around ss)) (of_statements ss)
      statements_within around no_statements h = none []
      statements_within around (statements s ss) h =
          let f = none_of_both (typed.of_statement variables ps sizes m around s) (typed.of_statements variables ps sizes m around ss) h in
          both (statement_calls (statement_for variables ps sizes m around s)) (statements_calls (statements_for variables ps sizes m around ss)) (of_statement s) (of_statements ss) (statement_within around s f.0) (statements_within around ss f.1)

-- ---- ENABLE and HALT

lets_left : (es fs : List Effect) → interrupts.lets_in es ≡ true → interrupts.lets_in (es ++ fs) ≡ true
lets_left [] fs e = cc
lets_left (Calls q ∷ es) fs e = lets_left es fs e
lets_left (Enables ∷ es) fs e = refl

lets_right : (es fs : List Effect) → interrupts.lets_in fs ≡ true → interrupts.lets_in (es ++ fs) ≡ true
lets_right [] fs e = e
lets_right (Calls q ∷ es) fs e = lets_right es fs e
lets_right (Enables ∷ es) fs e = refl

assignment_lets : (ts : List Target) (e : Expression) → Lets (assignment ts e) → ⊥
assignment_lets [] e l = l
assignment_lets (t ∷ ts) e l = l

module _ (variables : List Variable) (ps : List ProcedureR) (sizes : List ℕ) (m : ℕ) where
  mutual
    statement_lets : (around : Around) (s : StatementR) → Lets (statement_for variables ps sizes m around s) → interrupts.lets_in (of_statement s) ≡ true
    statement_lets around (EmptyR p) l = absurd l
    statement_lets around (AssignR xs e) l = absurd (assignment_lets (target_trees variables ps sizes m xs) (wanted_tree variables ps sizes m (wanted_among (target_types variables ps sizes m xs)) e) l)
    statement_lets around (CallR p x) l = absurd l
    statement_lets around (ReturnR p) l = absurd l
    statement_lets around (ReturnValueR p e) l = absurd l
    statement_lets around (EnableR p) l = refl
    statement_lets around (DisableR p) l = absurd l
    statement_lets around (HaltR p) l = refl
    statement_lets around (IfR p e s) l = lets_right (of_expression e) (of_statement s) (⊎_elim (λ a. ⊎_elim (λ b. statement_lets around s b) (λ b. absurd b) a) (λ a. absurd a) l)
    statement_lets around (IfElseR p e s t) l =
        lets_right (of_expression e) (of_statement s ++ of_statement t)
        (⊎_elim (λ a. lets_left (of_statement s) (of_statement t) (⊎_elim (λ b. statement_lets around s b) (λ b. absurd b) a)) (λ a. lets_right (of_statement s) (of_statement t) (⊎_elim (λ b. statement_lets around t b) (λ b. absurd b) a)) l)
    statement_lets around (DoR p ss) l = statements_let around ss l
    statement_lets around (WhileR p e ss) l = lets_right (of_expression e) (of_statements ss) (statements_let around ss l)
    statement_lets around (CaseR p e ss) l = lets_right (of_expression e) (of_statements ss) (statements_let around ss l)
    statement_lets around (IterateR p q i a b s ss) l =
        lets_right (of_expression a) (of_expression b ++ (of_step s ++ of_statements ss)) (lets_right (of_expression b) (of_step s ++ of_statements ss) (lets_right (of_step s) (of_statements ss) (statements_let around ss l)))

    pub statements_let : (around : Around) (ss : StatementsR) → Let (statements_for variables ps sizes m around ss) → interrupts.lets_in (of_statements ss) ≡ true
    statements_let around no_statements l = absurd l
    statements_let around (statements s ss) l = ⊎_elim (λ a. lets_left (of_statement s) (of_statements ss) (statement_lets around s a)) (λ a. lets_right (of_statement s) (of_statements ss) (statements_let around ss a)) l

-- The peak of a tree's code is below the leaves of the resolved tree that it comes from, where it has any.
use Rattle.std.proofs.Common.{◌≡◌, ℕ, zero, suc, ◌+◌, ◌-◌, ◌≤◌, Bool, true, false, List, [], ◌∷◌, Option, Some, None, map, refl, ap, arith, slice_get}
use Rattle.std.proofs.lemmas.Bool.{cond_both}
use Rattle.std.proofs.lemmas.Option.{none-some}
use Rattle.std.specs.Prelude.{cond, max}
use Rattle.word86.specs.declared.width.Width.{Width}
use Rattle.word86.specs.declared.width.Width.TheVariants as width
use Rattle.word86.specs.declared.operation.UnaryOperation.{UnaryOperation}
use Rattle.word86.specs.declared.operation.UnaryOperation.TheVariants as unary
use Rattle.word86.specs.declared.operation.BinaryOperation.{BinaryOperation}
use Rattle.word86.specs.declared.operation.BinaryOperation.TheVariants as binary
use Rattle.word86.specs.Access.{Where}
use Rattle.plm_syntax.specs.declared.tree.Position.{Position}
use Rattle.plm_decl.specs.declared.builtin.Builtin.{Builtin}
use Rattle.plm_decl.specs.declared.builtin.Builtin.TheVariants as builtin
use Rattle.plm_decl.specs.declared.layout.ScalarType.{ScalarType}
use Rattle.plm_decl.specs.declared.layout.ScalarType.TheVariants.{Word}
use Rattle.plm_decl.specs.declared.names.Variable.{Variable}
use Rattle.plm_decl.specs.declared.resolved.Binding.TheVariants as binding
use Rattle.plm_decl.specs.Layout.{size_of}
use Rattle.plm_decl.specs.Names.{ProcedureR, main_of}
use Rattle.plm_decl.specs.Resolved.{ExpressionR, NumberR, TextR, ReferenceR, LocationR, ParenthesisedR, EmbeddedR, UnaryR, BinaryR, ReferenceR', Use, ExpressionsR, no_expressions, expressions, SelectorR, no_member, member, member_at, LocationR', LocationOf, ConstantsOf, ReferencesR, no_references, references, StatementR, EmptyR, AssignR, CallR, ReturnR, ReturnValueR, EnableR, DisableR, HaltR, IfR, IfElseR, DoR, WhileR, CaseR, IterateR, StatementsR, no_statements, statements}
use Rattle.plm_type.specs.declared.statements.Around.{Around}
use Rattle.plm_type.specs.declared.statements.Around.TheVariants as stands
use Rattle.plm_type.specs.Rest as rest
use Rattle.plm_type.specs.Rest.{Expression, Expressions, NoMore, More, Reference, Refer, Subscripts, NoSubscripts, Target, Statements, End, Procedure}
use Rattle.plm_type.specs.Shapes.{designated, fixed_place, read_of, store_to, member_stride}
use Rattle.plm_type.specs.Expressions.{wanted_beside}
use Rattle.plm_type.specs.Statements.{wanted_of_return, variable_meant, wanted_among, assignment, targets}
use Rattle.plm_type.specs.Steps.{signed_step, integer_step}
use Rattle.plm_decl.specs.Names.{is_external_linkage}
use Rattle.plm_type.specs.Trees.{use_read, use_stored, refer, strided, operated, read_port, shifted, builtin_value}
use Rattle.plm_type.specs.Types.{width_of, is_integer}
use Rattle.plm_type.specs.Typing.{is_measure, is_target, first_type, other_types, variable_type, wanted_arguments, parameters_wanted}
use Rattle.plm_type.specs.Effects.{is_unevaluated}
use Rattle.plm_type.specs.Leaves.{expression_leaves, expressions_leaves, selector_leaves, reference_leaves, target_leaves, location_leaves, targets_leaves, step_leaves, most_in, most_of, procedures_most, most_leaves}
use Rattle.plm_decl.specs.declared.names.Names.{Names}
use Rattle.plm_decl.specs.Placement.{sizes_of}
use Rattle.plm_type.specs.Programs.{declared_procedures, main_tree, procedures_of}
use Rattle.icode.specs.declared.code.Routine.{Routine}
use Rattle.icode.specs.declared.code.Routine.TheVariants as routine
use Rattle.icode.specs.declared.instruction.Instruction.TheVariants.{Finish}
use Rattle.icode.specs.Heights.{height}
use Rattle.lower.proofs.Typed.{tree_of, type_of, is_turned, wanted_tree, given_trees, given_types, trees_of, selector_trees, value_of, location_of, target_of, target_type, measured_value, argument_value, reference_value, target_types, target_trees, called, step_for, statement_for, statements_for, body_for, procedure_for}
use Rattle.lower.specs.Expressions.{are_giving}
use Rattle.lower.specs.Statements.{OfMain}
use Rattle.lower.specs.Lowering.{kind_of, serves, procedure_code, vectors_of, program_code}
use Rattle.plm_type.specs.Numbers.{integer_of}
use Rattle.lower.proofs.Integers.{turned_peak}
use Rattle.lower.proofs.Peaks.{peak, pushed_peak, reference_peak, subscripts_peak, port_peak, target_peak, targets_peak, statement_peak, statements_peak, low, routine_low}

-- ---- references

read_peak : (t : ScalarType) (x : Reference) → peak (read_of t x) ≤ reference_peak x
read_peak t x = cases (fixed_place (size_of t) x)
  where
    cases : (o : Option Where) → peak (elim o [ Some w ↦ rest.Plain (width_of (Some t)) w | None ↦ rest.Variable (width_of (Some t)) x ]) ≤ reference_peak x
    cases (Some w) = omega arith
    cases None = omega arith

store_peak : (t : ScalarType) (x : Reference) → target_peak (store_to t x) ≤ suc (reference_peak x)
store_peak t x = cases (fixed_place (size_of t) x)
  where
    cases : (o : Option Where) → target_peak (elim o [ Some w ↦ rest.ToPlain (width_of (Some t)) w | None ↦ rest.ToVariable (width_of (Some t)) x ]) ≤ suc (reference_peak x)
    cases (Some w) = omega arith
    cases None = omega arith

use_peak : (o : Option Variable) (s : SelectorR) (x : Reference) → peak (use_read o s x) ≤ reference_peak x
use_peak None s x = omega arith
use_peak (Some v) s x = cases (designated v s)
  where
    cases : (o : Option ScalarType) → peak (elim o [ Some t ↦ read_of t x | None ↦ rest.Constant 0 ]) ≤ reference_peak x
    cases (Some t) = read_peak t x
    cases None = omega arith

stored_peak : (o : Option Variable) (s : SelectorR) (x : Reference) → target_peak (use_stored o s x) ≤ suc (reference_peak x)
stored_peak None s x = store_peak Word x
stored_peak (Some v) s x = cases (designated v s)
  where
    cases : (o : Option ScalarType) → target_peak (elim o [ Some t ↦ store_to t x | None ↦ store_to Word x ]) ≤ suc (reference_peak x)
    cases (Some t) = store_peak t x
    cases None = store_peak Word x

-- of expressions as subscripts
abbrev indexed_peak : Expressions → ℕ
indexed_peak NoMore = 0
indexed_peak (More e es) = max (suc (peak e)) (indexed_peak es)

strided_peak : (stride : ℕ) (es : Expressions) (others : Subscripts) → subscripts_peak (strided stride es others) ≡ max (indexed_peak es) (subscripts_peak others)
strided_peak stride NoMore others = omega arith
strided_peak stride (More e es) others = let h = strided_peak stride es others in omega (arith, h)

refer_peak : (variables : List Variable) (module_index line : ℕ) (o : Option Variable) (s : SelectorR) (es fs : Expressions) → reference_peak (refer variables module_index line o s es fs) ≤ max (indexed_peak es) (indexed_peak fs)
refer_peak variables module_index line None s es fs = omega arith
refer_peak variables module_index line (Some v) s es fs =
    let h = strided_peak v.stride es (strided (member_stride s) fs NoSubscripts) in
    let i = strided_peak (member_stride s) fs NoSubscripts in
    omega (arith, h, i)

-- ---- built-ins

operated_peak : (o : UnaryOperation) (w : Width) (es : Expressions) → peak (operated o w es) ≤ pushed_peak es
operated_peak o w NoMore = omega arith
operated_peak o w (More e NoMore) = omega arith
operated_peak o w (More e (More d es)) = omega arith

read_port_peak : (w : Width) (es : Expressions) → peak (read_port w es) ≤ pushed_peak es
read_port_peak w NoMore = omega arith
read_port_peak w (More e NoMore) = omega arith
read_port_peak w (More e (More d es)) = omega arith

port_at_most : (e : Expression) (n : ℕ) → port_peak e n ≤ suc n
port_at_most (rest.Constant k) n = omega arith
port_at_most (rest.Plain w x) n = omega arith
port_at_most (rest.Variable w r) n = omega arith
port_at_most (rest.Location r) n = omega arith
port_at_most (rest.Unary o w e) n = omega arith
port_at_most (rest.Binary i l o w a b) n = omega arith
port_at_most (rest.Embedded t e) n = omega arith
port_at_most (rest.Input w e) n = omega arith
port_at_most (rest.Call p es) n = omega arith
port_at_most (rest.Value v) n = omega arith
port_at_most (rest.Passing p xs vs) n = omega arith
port_at_most (rest.Running ss) n = omega arith

shifted_peak : (module_index line : ℕ) (o : BinaryOperation) (w : Width) (es : Expressions) → peak (shifted module_index line o w es) ≤ pushed_peak es
shifted_peak module_index line o w NoMore = omega arith
shifted_peak module_index line o w (More a NoMore) = omega arith
shifted_peak module_index line o w (More a (More b NoMore)) = omega arith
shifted_peak module_index line o w (More a (More b (More c es))) = omega arith

builtin_peak : (module_index line : ℕ) (b : Builtin) (w : Width) (es : Expressions) → peak (builtin_value module_index line b w es) ≤ pushed_peak es
builtin_peak module_index line builtin.Low w es = operated_peak unary.Low w es
builtin_peak module_index line builtin.High w es = operated_peak unary.High w es
builtin_peak module_index line builtin.Double w es = operated_peak unary.Double w es
builtin_peak module_index line builtin.ShiftLeft w es = shifted_peak module_index line binary.ShiftLeft w es
builtin_peak module_index line builtin.ShiftRight w es = shifted_peak module_index line binary.ShiftRight w es
builtin_peak module_index line builtin.RotateLeft w es = shifted_peak module_index line binary.RotateLeft w es
builtin_peak module_index line builtin.RotateRight w es = shifted_peak module_index line binary.RotateRight w es
builtin_peak module_index line builtin.Input w es = read_port_peak width.Byte es
builtin_peak module_index line builtin.InputWord w es = read_port_peak width.Word es
builtin_peak module_index line builtin.Length w es = omega arith
builtin_peak module_index line builtin.Last w es = omega arith
builtin_peak module_index line builtin.Size w es = omega arith
builtin_peak module_index line builtin.Output w es = omega arith
builtin_peak module_index line builtin.OutputWord w es = omega arith
builtin_peak module_index line builtin.Signed w es = operated_peak unary.Double w es
builtin_peak module_index line builtin.Unsigned w es = operated_peak unary.Double w es

reference_value_peak : (variables : List Variable) (procedures : List ProcedureR) (objects : List ℕ) (module_index : ℕ) (at : Position) (b : Builtin) (x : ReferenceR') → peak (reference_value variables procedures objects module_index at b x) ≤ 0
reference_value_peak variables procedures objects module_index at b (Use p (binding.Variable v) es s) = omega arith
reference_value_peak variables procedures objects module_index at b (Use p (binding.Procedure q) es s) = omega arith
reference_value_peak variables procedures objects module_index at b (Use p (binding.Builtin c) es s) = omega arith
reference_value_peak variables procedures objects module_index at b (Use p binding.Nothing es s) = omega arith

argument_peak : (variables : List Variable) (procedures : List ProcedureR) (objects : List ℕ) (module_index : ℕ) (at : Position) (b : Builtin) (e : ExpressionR) → peak (argument_value variables procedures objects module_index at b e) ≤ 0
argument_peak variables procedures objects module_index at b (ReferenceR x) = reference_value_peak variables procedures objects module_index at b x
argument_peak variables procedures objects module_index at b (NumberR n) = omega arith
argument_peak variables procedures objects module_index at b (TextR p cs) = omega arith
argument_peak variables procedures objects module_index at b (LocationR l) = omega arith
argument_peak variables procedures objects module_index at b (ParenthesisedR p e) = omega arith
argument_peak variables procedures objects module_index at b (EmbeddedR p x e) = omega arith
argument_peak variables procedures objects module_index at b (UnaryR p o e) = omega arith
argument_peak variables procedures objects module_index at b (BinaryR p o d e) = omega arith

measured_peak : (variables : List Variable) (procedures : List ProcedureR) (objects : List ℕ) (module_index : ℕ) (at : Position) (b : Builtin) (es : ExpressionsR) → peak (measured_value variables procedures objects module_index at b es) ≤ 0
measured_peak variables procedures objects module_index at b no_expressions = omega arith
measured_peak variables procedures objects module_index at b (expressions e no_expressions) = argument_peak variables procedures objects module_index at b e
measured_peak variables procedures objects module_index at b (expressions e (expressions d es)) = omega arith

one_leaf : (x : ReferenceR') → 1 ≤ reference_leaves x
one_leaf (Use p m es s) = cases (is_unevaluated m)
  where
    cases : (b : Bool) → 1 ≤ cond b 1 (1 + expressions_leaves es + selector_leaves s)
    cases true = omega arith
    cases false = omega arith

-- ---- trees

module _ (variables : List Variable) (procedures : List ProcedureR) (objects : List ℕ) (module_index : ℕ) where
  abbrev tree : ExpressionR → Expression
  tree e = tree_of variables procedures objects module_index e

  abbrev trees : ExpressionsR → Expressions
  trees es = trees_of variables procedures objects module_index es

  abbrev member_trees : SelectorR → Expressions
  member_trees s = selector_trees variables procedures objects module_index s

  -- where values of these types are wanted
  abbrev given : List (Option ScalarType) → ExpressionsR → Expressions
  given ts es = given_trees variables procedures objects module_index ts es

  abbrev turned : Option ScalarType → ExpressionR → Bool
  turned t e = is_turned variables procedures objects module_index t e

  -- a tree that may be turned INTEGER
  below : (b : Bool) (e : Expression) (n : ℕ) → suc (peak e) ≤ n → suc (peak (cond b (integer_of e) e)) ≤ n
  below b e zero h = absurd (omega (arith, h))
  below b e (suc n) h = let k = turned_peak b e n (omega (arith, h)) in omega (arith, k)

  built_in : (p : Position) (b : Builtin) (es : ExpressionsR) (s : SelectorR) (m : Bool) (w : Width) (us : Expressions) → pushed_peak us ≤ expressions_leaves es
      → suc (peak (cond m (measured_value variables procedures objects module_index p b es) (builtin_value module_index p.line b w us))) ≤ cond m 1 (1 + expressions_leaves es + selector_leaves s)
  built_in p b es s true w us h = let k = measured_peak variables procedures objects module_index p b es in omega (arith, k)
  built_in p b es s false w us h = let k = builtin_peak module_index p.line b w us in omega (arith, h, k)

  mutual
    pub tree_peak : (e : ExpressionR) → suc (peak (tree e)) ≤ expression_leaves e
    tree_peak (NumberR n) = omega arith
    tree_peak (TextR p cs) = omega arith
    tree_peak (ReferenceR x) = value_peak x
    tree_peak (LocationR l) = location_peak l
    tree_peak (ParenthesisedR p e) = tree_peak e
    tree_peak (EmbeddedR p x e) =
        let h = stored_at_peak x in
        let i = below (turned (target_type variables procedures objects module_index x) e) (tree e) (expression_leaves e) (tree_peak e) in
        omega (arith, h, i)
    tree_peak (UnaryR p o e) = tree_peak e
    tree_peak (BinaryR p o a b) =
        let x = below (turned (wanted_beside o (type_of variables procedures objects module_index b)) a) (tree a) (expression_leaves a) (tree_peak a) in
        let y = below (turned (wanted_beside o (type_of variables procedures objects module_index a)) b) (tree b) (expression_leaves b) (tree_peak b) in
        omega (arith, x, y)

    given_peak : (es : ExpressionsR) (ts : List (Option ScalarType)) → pushed_peak (given ts es) ≤ expressions_leaves es
    given_peak no_expressions ts = omega arith
    given_peak (expressions e es) ts =
        let x = below (turned (first_type ts) e) (tree e) (expression_leaves e) (tree_peak e) in
        let y = given_peak es (other_types ts) in
        omega (arith, x, y)

    indices_peak : (es : ExpressionsR) → indexed_peak (trees es) ≤ expressions_leaves es
    indices_peak no_expressions = omega arith
    indices_peak (expressions e es) = let x = tree_peak e in let y = indices_peak es in omega (arith, x, y)

    selector_peak : (s : SelectorR) → indexed_peak (member_trees s) ≤ selector_leaves s
    selector_peak no_member = omega arith
    selector_peak (member p m) = omega arith
    selector_peak (member_at p m e) = let x = tree_peak e in omega (arith, x)

    value_peak : (x : ReferenceR') → suc (peak (value_of variables procedures objects module_index x)) ≤ reference_leaves x
    value_peak (Use p (binding.Variable v) es s) =
        let h = use_peak (slice_get variables v) s (refer variables module_index p.line (slice_get variables v) s (trees es) (member_trees s)) in
        let i = refer_peak variables module_index p.line (slice_get variables v) s (trees es) (member_trees s) in
        let j = indices_peak es in
        let k = selector_peak s in
        omega (arith, h, i, j, k)
    value_peak (Use p (binding.Procedure q) es s) = let h = given_peak es (parameters_wanted variables (slice_get procedures q)) in omega (arith, h)
    value_peak (Use p (binding.Builtin b) es s) =
        let ts = wanted_arguments b in
        built_in p b es s (is_measure b) (width_of (first_type (given_types variables procedures objects module_index ts es))) (given ts es) (given_peak es ts)
    value_peak (Use p binding.Nothing es s) = omega arith

    location_peak : (l : LocationR') → suc (peak (location_of variables procedures objects module_index l)) ≤ location_leaves l
    location_peak (LocationOf p f (Use q (binding.Variable v) es s)) =
        let i = refer_peak variables module_index q.line (slice_get variables v) s (trees es) (member_trees s) in
        let j = indices_peak es in
        let k = selector_peak s in
        omega (arith, i, j, k)
    location_peak (LocationOf p f (Use q (binding.Procedure n) es s)) = omega arith
    location_peak (LocationOf p f (Use q (binding.Builtin b) es s)) = one_leaf (Use q (binding.Builtin b) es s)
    location_peak (LocationOf p f (Use q binding.Nothing es s)) = omega arith
    location_peak (ConstantsOf p f k) = omega arith

    stored_at_peak : (x : ReferenceR') → target_peak (target_of variables procedures objects module_index x) ≤ target_leaves x
    stored_at_peak (Use p (binding.Variable v) es s) =
        let h = stored_peak (slice_get variables v) s (refer variables module_index p.line (slice_get variables v) s (trees es) (member_trees s)) in
        let i = refer_peak variables module_index p.line (slice_get variables v) s (trees es) (member_trees s) in
        let j = indices_peak es in
        let k = selector_peak s in
        omega (arith, h, i, j, k)
    stored_at_peak (Use p (binding.Procedure q) es s) = omega arith
    stored_at_peak (Use p (binding.Builtin b) no_expressions s) = omega arith
    stored_at_peak (Use p (binding.Builtin b) (expressions e no_expressions) s) =
        let h = tree_peak e in
        let i = port_at_most (tree e) (peak (tree e)) in
        cond_both (is_target b) (expression_leaves e + 0) (1 + (expression_leaves e + 0) + selector_leaves s) (λ n. port_peak (tree e) (peak (tree e)) ≤ n) (λ _. omega (arith, h, i)) (λ _. omega (arith, h, i))
    stored_at_peak (Use p (binding.Builtin b) (expressions e (expressions d es)) s) = omega arith
    stored_at_peak (Use p binding.Nothing es s) = omega arith

  abbrev highest : List Target → ℕ
  highest [] = 0
  highest (t ∷ ts) = max (target_peak t) (highest ts)

  targets_highest : (t : Target) (ts : List Target) → targets_peak (targets t ts) ≡ max (target_peak t) (highest ts)
  targets_highest t [] = omega arith
  targets_highest t (u ∷ us) = let h = targets_highest u us in omega (arith, h)

  highest_low : (xs : ReferencesR) → highest (target_trees variables procedures objects module_index xs) ≤ targets_leaves xs
  highest_low no_references = omega arith
  highest_low (references x xs) = let h = stored_at_peak x in let i = highest_low xs in omega (arith, h, i)

  wanted_peak : (t : Option ScalarType) (d : ExpressionR) → suc (peak (wanted_tree variables procedures objects module_index t d)) ≤ expression_leaves d
  wanted_peak t d = below (turned t d) (tree d) (expression_leaves d) (tree_peak d)

  assignment_peak : (xs : ReferencesR) (t : Option ScalarType) (d : ExpressionR) → statement_peak (assignment (target_trees variables procedures objects module_index xs) (wanted_tree variables procedures objects module_index t d)) ≤ (targets_leaves xs + expression_leaves d) - 1
  assignment_peak no_references t d = let h = wanted_peak t d in omega (arith, h)
  assignment_peak (references x xs) t d =
      let h = targets_highest (target_of variables procedures objects module_index x) (target_trees variables procedures objects module_index xs) in
      let i = highest_low (references x xs) in
      let j = wanted_peak t d in
      omega (arith, h, i, j)

  called_peak : (p : Position) (x : ReferenceR') → peak (called variables procedures objects module_index p x) ≤ reference_leaves x - 1
  called_peak p (Use q (binding.Procedure n) es s) = let h = given_peak es (parameters_wanted variables (slice_get procedures n)) in omega (arith, h)
  called_peak p (Use q (binding.Variable v) es s) = omega arith
  called_peak p (Use q (binding.Builtin b) es s) = omega arith
  called_peak p (Use q binding.Nothing es s) = omega arith

  integer_step_peak : (p : Position) (o : Option _) (n : ℕ) → peak (integer_step module_index p o).tree ≤ n
  integer_step_peak p None n = omega arith
  integer_step_peak p (Some s) n = omega arith

  chosen_peak : (c : Bool) (a b : Expression) (n : ℕ) → peak a ≤ n → peak b ≤ n → peak (cond c a b) ≤ n
  chosen_peak true a b n x y = x
  chosen_peak false a b n x y = y

  step_peak : (t : Option ScalarType) (p : Position) (s : Option ExpressionR) → peak (step_for variables procedures objects module_index t p s) ≤ step_leaves s
  step_peak t p None = omega arith
  step_peak t p (Some e) =
      let h = tree_peak e in
      chosen_peak (is_integer t) (integer_step module_index p (signed_step e)).tree (tree e) (expression_leaves e) (integer_step_peak p (signed_step e) (expression_leaves e)) (omega (arith, h))

  mutual
    statement_low : (around : Around) (s : StatementR) → statement_peak (statement_for variables procedures objects module_index around s) ≤ most_in s - 1
    statement_low around (EmptyR p) = omega arith
    statement_low around (AssignR xs e) = assignment_peak xs (wanted_among (target_types variables procedures objects module_index xs)) e
    statement_low around (CallR p x) = called_peak p x
    statement_low around (ReturnR p) = omega arith
    statement_low around (ReturnValueR p e) = let h = wanted_peak (wanted_of_return around) e in omega (arith, h)
    statement_low around (EnableR p) = omega arith
    statement_low around (DisableR p) = omega arith
    statement_low around (HaltR p) = omega arith
    statement_low around (IfR p e s) = let h = tree_peak e in let i = statement_low around s in omega (arith, h, i)
    statement_low around (IfElseR p e s t) = let h = tree_peak e in let i = statement_low around s in let j = statement_low around t in omega (arith, h, i, j)
    statement_low around (DoR p ss) = statements_low around ss
    statement_low around (WhileR p e ss) = let h = tree_peak e in let i = statements_low around ss in omega (arith, h, i)
    statement_low around (CaseR p e ss) = let h = tree_peak e in let i = statements_low around ss in omega (arith, h, i)
    statement_low around (IterateR p q m a b s ss) =
        let t = variable_type (variable_meant variables m) in
        let h = wanted_peak t a in
        let i = wanted_peak t b in
        let j = step_peak t p s in
        let k = statements_low around ss in
        omega (arith, h, i, j, k)

    pub statements_low : (around : Around) (ss : StatementsR) → statements_peak (statements_for variables procedures objects module_index around ss) ≤ most_of ss - 1
    statements_low around no_statements = omega arith
    statements_low around (statements s ss) = let h = statement_low around s in let i = statements_low around ss in omega (arith, h, i)

-- ---- a program's procedures

module _ (variables : List Variable) (declared : List ProcedureR) (sizes : List ℕ) where
  body_low : (p : ProcedureR) → statements_peak (body_for variables declared sizes p) ≤ most_of p.body - 1
  body_low p = cases (is_external_linkage p.linkage)
    where
      cases : (b : Bool) → statements_peak (cond b End (statements_for variables declared sizes p.module (stands.Procedure p.returned) p.body)) ≤ most_of p.body - 1
      cases true = omega arith
      cases false = statements_low variables declared sizes p.module (stands.Procedure p.returned) p.body

  pub procedure_low : (ps : List ProcedureR) (q : ℕ) (x : Procedure) → slice_get (map (procedure_for variables declared sizes) ps) q ≡ Some x → statements_peak x.body ≤ procedures_most ps - 1
  procedure_low [] q x got = absurd (none-some x got)
  procedure_low (p ∷ ps) zero x got =
      let h = body_low p in
      let same : statements_peak (body_for variables declared sizes p) ≡ statements_peak x.body = ap (λ (o : Option Procedure). elim o [ None ↦ statements_peak (body_for variables declared sizes p) | Some y ↦ statements_peak y.body ]) got in
      omega (arith, h, same)
  procedure_low (p ∷ ps) (suc q) x got = let h = procedure_low ps q x got in omega (arith, h)

-- ---- programs

module _ (names : Names) where
  procedure_code_low : (q : ℕ) (o : Option Procedure) → slice_get (procedures_of names) q ≡ o → (s : Bool) (k : ℕ) → height (procedure_code (procedures_of names) s o) k ≤ most_leaves names - 1
  procedure_code_low q None got s k = low (most_leaves names - 1) 0 0 [] (omega arith, refl) k
  procedure_code_low q (Some x) got s k =
      let h = procedure_low names.variables.items (declared_procedures names) (sizes_of names) (declared_procedures names) q x got in
      routine_low (procedures_of names) (kind_of s (are_giving x.body)) x.body (most_leaves names - 1) (omega (arith, h)) k

  pub code_low : (r : Routine) (k : ℕ) → height (program_code names r) k ≤ most_leaves names - 1
  code_low routine.Main k =
      let m = main_of names.main in
      let h = statements_low names.variables.items (declared_procedures names) (sizes_of names) m.module stands.Main m.statements in
      routine_low (procedures_of names) OfMain (main_tree names) (most_leaves names - 1) (omega (arith, h)) k
  code_low (routine.Procedure q) k = procedure_code_low q (slice_get (procedures_of names) q) refl (serves (vectors_of names) q) k
  code_low routine.Unserved k = low (most_leaves names - 1) 0 0 (Finish ∷ []) (omega arith, (omega arith, refl)) k
  code_low routine.Nowhere k = low (most_leaves names - 1) 0 0 [] (omega arith, refl) k

-- Typed trees have no more nodes than the resolved ones that they come from.
use Rattle.std.proofs.Common.{◌≡◌, ℕ, ◌+◌, ◌≤◌, Bool, true, false, List, [], ◌∷◌, ◌++◌, Option, Some, None, arith, slice_get, take}
use Rattle.std.proofs.lemmas.Bool.{cond_both}
use Rattle.lower.proofs.Faultless.{not_none, none_of_both}
use Rattle.std.specs.Prelude.{cond}
use Rattle.word86.specs.declared.width.Width.{Width}
use Rattle.word86.specs.declared.width.Width.TheVariants as width
use Rattle.word86.specs.declared.operation.UnaryOperation.{UnaryOperation}
use Rattle.word86.specs.declared.operation.UnaryOperation.TheVariants as unary
use Rattle.word86.specs.declared.operation.BinaryOperation.{BinaryOperation}
use Rattle.word86.specs.declared.operation.BinaryOperation.TheVariants as binary
use Rattle.word86.specs.Access.{Where}
use Rattle.plm_syntax.specs.declared.tree.Position.{Position}
use Rattle.plm_decl.specs.declared.builtin.Builtin.{Builtin}
use Rattle.plm_decl.specs.declared.builtin.Builtin.TheVariants as builtin
use Rattle.plm_decl.specs.declared.layout.ScalarType.{ScalarType}
use Rattle.plm_decl.specs.declared.layout.ScalarType.TheVariants.{Word}
use Rattle.plm_decl.specs.declared.names.Variable.{Variable}
use Rattle.plm_decl.specs.declared.resolved.Binding.TheVariants as binding
use Rattle.plm_decl.specs.declared.found.Found.{Found}
use Rattle.plm_decl.specs.Layout.{size_of}
use Rattle.plm_decl.specs.Names.{ProcedureR}
use Rattle.plm_decl.specs.Resolved.{ExpressionR, NumberR, TextR, ReferenceR, LocationR, ParenthesisedR, EmbeddedR, UnaryR, BinaryR, ReferenceR', Use, ExpressionsR, no_expressions, expressions, SelectorR, no_member, member, member_at, LocationR', LocationOf, ConstantsOf, ReferencesR, no_references, references, StatementR, EmptyR, AssignR, CallR, ReturnR, ReturnValueR, EnableR, DisableR, HaltR, IfR, IfElseR, DoR, WhileR, CaseR, IterateR, StatementsR, no_statements, statements}
use Rattle.plm_type.specs.declared.statements.Around.{Around}
use Rattle.plm_type.specs.Rest as rest
use Rattle.plm_type.specs.Rest.{Expression, Expressions, NoMore, More, Reference, Refer, Subscripts, NoSubscripts, Target}
use Rattle.plm_type.specs.Shapes.{designated, fixed_place, read_of, store_to, member_stride}
use Rattle.word86.specs.declared.number.Number.TheVariants.{E401, E402}
use Rattle.plm_type.specs.Faults.{fault_unless, port_faults}
use Rattle.plm_type.specs.Expressions.{wanted_beside}
use Rattle.plm_type.specs.Statements.{wanted_of_return, variable_meant, wanted_among, assignment, targets}
use Rattle.plm_type.specs.Steps.{signed_step, integer_step}
use Rattle.plm_type.specs.Trees.{use_read, use_stored, refer, strided, to_port, operated, read_port, shifted, builtin_value}
use Rattle.plm_type.specs.Types.{width_of, is_integer, may_be_numbers}
use Rattle.plm_type.specs.Typing.{is_plain, is_measure, is_target, first_type, other_types, variable_type, wanted_arguments, parameters_wanted}
use Rattle.plm_type.specs.Effects.{is_unevaluated}
use Rattle.plm_type.specs.Nodes.{expression_nodes, expressions_nodes, selector_nodes, reference_nodes, location_nodes, target_nodes, targets_nodes, step_nodes, statement_nodes, statements_nodes}
use Rattle.lower.proofs.Typed.{tree_of, type_of, is_turned, wanted_tree, given_trees, given_types, trees_of, selector_trees, value_of, location_of, target_of, target_type, target_faults, measured_value, argument_value, reference_value, of_number, of_count, of_bound, target_types, target_trees, of_targets, called, of_index, step_for, of_step, statement_for, statements_for, of_statement, of_statements}
use Rattle.lower.proofs.Rooms as typed
use Rattle.lower.proofs.Integers.{turned_count}

-- ---- references

read_count : (t : ScalarType) (x : Reference) → typed.nodes (read_of t x) ≤ typed.reference_nodes x
read_count t (Refer m l anchor offset ss) = cases (fixed_place (size_of t) (Refer m l anchor offset ss))
  where
    cases : (o : Option Where) → typed.nodes (elim o [ Some w ↦ rest.Plain (width_of (Some t)) w | None ↦ rest.Variable (width_of (Some t)) (Refer m l anchor offset ss) ]) ≤ 1 + typed.subscripts_nodes ss
    cases (Some w) = omega arith
    cases None = omega arith

store_count : (t : ScalarType) (x : Reference) → typed.target_nodes (store_to t x) ≤ typed.reference_nodes x
store_count t (Refer m l anchor offset ss) = cases (fixed_place (size_of t) (Refer m l anchor offset ss))
  where
    cases : (o : Option Where) → typed.target_nodes (elim o [ Some w ↦ rest.ToPlain (width_of (Some t)) w | None ↦ rest.ToVariable (width_of (Some t)) (Refer m l anchor offset ss) ]) ≤ 1 + typed.subscripts_nodes ss
    cases (Some w) = omega arith
    cases None = omega arith

one_at_least : (x : Reference) → 1 ≤ typed.reference_nodes x
one_at_least (Refer m l anchor offset ss) = omega arith

use_count : (o : Option Variable) (s : SelectorR) (x : Reference) → typed.nodes (use_read o s x) ≤ typed.reference_nodes x
use_count None s x = one_at_least x
use_count (Some v) s x = cases (designated v s)
  where
    cases : (o : Option ScalarType) → typed.nodes (elim o [ Some t ↦ read_of t x | None ↦ rest.Constant 0 ]) ≤ typed.reference_nodes x
    cases (Some t) = read_count t x
    cases None = one_at_least x

stored_count : (o : Option Variable) (s : SelectorR) (x : Reference) → typed.target_nodes (use_stored o s x) ≤ typed.reference_nodes x
stored_count None s x = store_count Word x
stored_count (Some v) s x = cases (designated v s)
  where
    cases : (o : Option ScalarType) → typed.target_nodes (elim o [ Some t ↦ store_to t x | None ↦ store_to Word x ]) ≤ typed.reference_nodes x
    cases (Some t) = store_count t x
    cases None = store_count Word x

strided_count : (stride : ℕ) (es : Expressions) (others : Subscripts) → typed.subscripts_nodes (strided stride es others) ≡ typed.all_nodes es + typed.subscripts_nodes others
strided_count stride NoMore others = omega arith
strided_count stride (More e es) others = let h = strided_count stride es others in omega (arith, h)

refer_count : (variables : List Variable) (module_index line : ℕ) (o : Option Variable) (s : SelectorR) (es fs : Expressions)
    → typed.reference_nodes (refer variables module_index line o s es fs) ≤ 1 + typed.all_nodes es + typed.all_nodes fs
refer_count variables module_index line None s es fs = omega arith
refer_count variables module_index line (Some v) s es fs =
    let h = strided_count v.stride es (strided (member_stride s) fs NoSubscripts) in
    let i = strided_count (member_stride s) fs NoSubscripts in
    omega (arith, h, i)

-- ---- built-ins

operated_count : (o : UnaryOperation) (w : Width) (es : Expressions) → typed.nodes (operated o w es) ≤ 1 + typed.all_nodes es
operated_count o w NoMore = omega arith
operated_count o w (More e NoMore) = omega arith
operated_count o w (More e (More d es)) = omega arith

port_count : (w : Width) (es : Expressions) → typed.nodes (read_port w es) ≤ 1 + typed.all_nodes es
port_count w NoMore = omega arith
port_count w (More e NoMore) = omega arith
port_count w (More e (More d es)) = omega arith

to_port_count : (b : Builtin) (es : Expressions) → typed.target_nodes (to_port b es) ≤ 1 + typed.all_nodes es
to_port_count b NoMore = omega arith
to_port_count b (More e NoMore) = omega arith
to_port_count b (More e (More d es)) = omega arith

shifted_count : (module_index line : ℕ) (o : BinaryOperation) (w : Width) (es : Expressions) → typed.nodes (shifted module_index line o w es) ≤ 1 + typed.all_nodes es
shifted_count module_index line o w NoMore = omega arith
shifted_count module_index line o w (More a NoMore) = omega arith
shifted_count module_index line o w (More a (More b NoMore)) = omega arith
shifted_count module_index line o w (More a (More b (More c es))) = omega arith

builtin_count : (module_index line : ℕ) (b : Builtin) (w : Width) (es : Expressions) → typed.nodes (builtin_value module_index line b w es) ≤ 1 + typed.all_nodes es
builtin_count module_index line builtin.Low w es = operated_count unary.Low w es
builtin_count module_index line builtin.High w es = operated_count unary.High w es
builtin_count module_index line builtin.Double w es = operated_count unary.Double w es
builtin_count module_index line builtin.ShiftLeft w es = shifted_count module_index line binary.ShiftLeft w es
builtin_count module_index line builtin.ShiftRight w es = shifted_count module_index line binary.ShiftRight w es
builtin_count module_index line builtin.RotateLeft w es = shifted_count module_index line binary.RotateLeft w es
builtin_count module_index line builtin.RotateRight w es = shifted_count module_index line binary.RotateRight w es
builtin_count module_index line builtin.Input w es = port_count width.Byte es
builtin_count module_index line builtin.InputWord w es = port_count width.Word es
builtin_count module_index line builtin.Length w es = omega arith
builtin_count module_index line builtin.Last w es = omega arith
builtin_count module_index line builtin.Size w es = omega arith
builtin_count module_index line builtin.Output w es = omega arith
builtin_count module_index line builtin.OutputWord w es = omega arith
builtin_count module_index line builtin.Signed w es = operated_count unary.Double w es
builtin_count module_index line builtin.Unsigned w es = operated_count unary.Double w es

reference_count : (variables : List Variable) (procedures : List ProcedureR) (objects : List ℕ) (module_index : ℕ) (at : Position) (b : Builtin) (x : ReferenceR') → typed.nodes (reference_value variables procedures objects module_index at b x) ≤ 1
reference_count variables procedures objects module_index at b (Use p (binding.Variable v) es s) = omega arith
reference_count variables procedures objects module_index at b (Use p (binding.Procedure q) es s) = omega arith
reference_count variables procedures objects module_index at b (Use p (binding.Builtin c) es s) = omega arith
reference_count variables procedures objects module_index at b (Use p binding.Nothing es s) = omega arith

argument_count : (variables : List Variable) (procedures : List ProcedureR) (objects : List ℕ) (module_index : ℕ) (at : Position) (b : Builtin) (e : ExpressionR) → typed.nodes (argument_value variables procedures objects module_index at b e) ≤ 1
argument_count variables procedures objects module_index at b (ReferenceR x) = reference_count variables procedures objects module_index at b x
argument_count variables procedures objects module_index at b (NumberR n) = omega arith
argument_count variables procedures objects module_index at b (TextR p cs) = omega arith
argument_count variables procedures objects module_index at b (LocationR l) = omega arith
argument_count variables procedures objects module_index at b (ParenthesisedR p e) = omega arith
argument_count variables procedures objects module_index at b (EmbeddedR p x e) = omega arith
argument_count variables procedures objects module_index at b (UnaryR p o e) = omega arith
argument_count variables procedures objects module_index at b (BinaryR p o d e) = omega arith

measured_count : (variables : List Variable) (procedures : List ProcedureR) (objects : List ℕ) (module_index : ℕ) (at : Position) (b : Builtin) (es : ExpressionsR) → typed.nodes (measured_value variables procedures objects module_index at b es) ≤ 1
measured_count variables procedures objects module_index at b no_expressions = omega arith
measured_count variables procedures objects module_index at b (expressions e no_expressions) = argument_count variables procedures objects module_index at b e
measured_count variables procedures objects module_index at b (expressions e (expressions d es)) = omega arith

-- ---- each expression has a node

use_positive : (x : ReferenceR') → 1 ≤ reference_nodes x
use_positive (Use p m es s) = cases (is_unevaluated m)
  where
    cases : (b : Bool) → 1 ≤ cond b 1 (1 + expressions_nodes es + selector_nodes s)
    cases true = omega arith
    cases false = omega arith

positive : (e : ExpressionR) → 1 ≤ expression_nodes e
positive (NumberR n) = omega arith
positive (TextR p cs) = omega arith
positive (ReferenceR x) = use_positive x
positive (LocationR (LocationOf p f x)) = use_positive x
positive (LocationR (ConstantsOf p f k)) = omega arith
positive (ParenthesisedR p e) = positive e
positive (EmbeddedR p x e) = omega arith
positive (UnaryR p o e) = omega arith
positive (BinaryR p o a b) = omega arith

-- ---- trees

module _ (variables : List Variable) (procedures : List ProcedureR) (objects : List ℕ) (module_index : ℕ) where
  abbrev tree : ExpressionR → Expression
  tree e = tree_of variables procedures objects module_index e

  abbrev trees : ExpressionsR → Expressions
  trees es = trees_of variables procedures objects module_index es

  -- where values of these types are wanted
  abbrev given : List (Option ScalarType) → ExpressionsR → Expressions
  given ts es = given_trees variables procedures objects module_index ts es

  abbrev turned : Option ScalarType → ExpressionR → Bool
  turned t e = is_turned variables procedures objects module_index t e

  built_in : (p : Position) (b : Builtin) (es : ExpressionsR) (s : SelectorR) (m : Bool) (w : Width) (us : Expressions) → typed.all_nodes us ≤ expressions_nodes es
      → typed.nodes (cond m (measured_value variables procedures objects module_index p b es) (builtin_value module_index p.line b w us)) ≤ cond m 1 (1 + expressions_nodes es + selector_nodes s)
  built_in p b es s true w us h = measured_count variables procedures objects module_index p b es
  built_in p b es s false w us h = let k = builtin_count module_index p.line b w us in omega (arith, h, k)

  -- OUTPUT without a port is a fault of types
  loose_port : (b : Builtin) (es : ExpressionsR) (s : SelectorR) (m : Bool) → typed.all_nodes (trees es) ≤ expressions_nodes es
      → typed.target_nodes (to_port b (trees es)) ≤ 1 + cond m (expressions_nodes es) (1 + expressions_nodes es + selector_nodes s)
  loose_port b es s true h = let k = to_port_count b (trees es) in omega (arith, h, k)
  loose_port b es s false h = let k = to_port_count b (trees es) in omega (arith, h, k)

  mutual
    pub tree_count : (e : ExpressionR) → typed.nodes (tree e) ≤ expression_nodes e
    tree_count (NumberR n) = omega arith
    tree_count (TextR p cs) = omega arith
    tree_count (ReferenceR x) = value_count x
    tree_count (LocationR l) = location_count l
    tree_count (ParenthesisedR p e) = tree_count e
    tree_count (EmbeddedR p x e) =
        let h = target_count x in
        let i = turned_count (turned (target_type variables procedures objects module_index x) e) (tree e) (expression_nodes e) (tree_count e) in
        omega (arith, h, i)
    tree_count (UnaryR p o e) = let h = tree_count e in omega (arith, h)
    tree_count (BinaryR p o a b) =
        let x = turned_count (turned (wanted_beside o (type_of variables procedures objects module_index b)) a) (tree a) (expression_nodes a) (tree_count a) in
        let y = turned_count (turned (wanted_beside o (type_of variables procedures objects module_index a)) b) (tree b) (expression_nodes b) (tree_count b) in
        omega (arith, x, y)

    trees_count : (es : ExpressionsR) → typed.all_nodes (trees es) ≤ expressions_nodes es
    trees_count no_expressions = omega arith
    trees_count (expressions e es) = let x = tree_count e in let y = trees_count es in omega (arith, x, y)

    given_count : (es : ExpressionsR) (ts : List (Option ScalarType)) → typed.all_nodes (given ts es) ≤ expressions_nodes es
    given_count no_expressions ts = omega arith
    given_count (expressions e es) ts =
        let x = turned_count (turned (first_type ts) e) (tree e) (expression_nodes e) (tree_count e) in
        let y = given_count es (other_types ts) in
        omega (arith, x, y)

    selector_count : (s : SelectorR) → typed.all_nodes (selector_trees variables procedures objects module_index s) ≤ selector_nodes s
    selector_count no_member = omega arith
    selector_count (member p m) = omega arith
    selector_count (member_at p m e) = let x = tree_count e in omega (arith, x)

    value_count : (x : ReferenceR') → typed.nodes (value_of variables procedures objects module_index x) ≤ reference_nodes x
    value_count (Use p (binding.Variable v) es s) =
        let fs = selector_trees variables procedures objects module_index s in
        let h = use_count (slice_get variables v) s (refer variables module_index p.line (slice_get variables v) s (trees es) fs) in
        let i = refer_count variables module_index p.line (slice_get variables v) s (trees es) fs in
        let j = trees_count es in
        let k = selector_count s in
        omega (arith, h, i, j, k)
    value_count (Use p (binding.Procedure q) es s) = let h = given_count es (parameters_wanted variables (slice_get procedures q)) in omega (arith, h)
    value_count (Use p (binding.Builtin b) es s) =
        let ts = wanted_arguments b in
        built_in p b es s (is_measure b) (width_of (first_type (given_types variables procedures objects module_index ts es))) (given ts es) (given_count es ts)
    value_count (Use p binding.Nothing es s) = omega arith

    location_count : (l : LocationR') → typed.nodes (location_of variables procedures objects module_index l) ≤ location_nodes l
    location_count (LocationOf p f (Use q (binding.Variable v) es s)) =
        let fs = selector_trees variables procedures objects module_index s in
        let i = refer_count variables module_index q.line (slice_get variables v) s (trees es) fs in
        let j = trees_count es in
        let k = selector_count s in
        omega (arith, i, j, k)
    location_count (LocationOf p f (Use q (binding.Procedure n) es s)) = omega arith
    location_count (LocationOf p f (Use q (binding.Builtin b) es s)) = use_positive (Use q (binding.Builtin b) es s)
    location_count (LocationOf p f (Use q binding.Nothing es s)) = omega arith
    location_count (ConstantsOf p f k) = omega arith

    target_count : (x : ReferenceR') → typed.target_nodes (target_of variables procedures objects module_index x) ≤ 1 + target_nodes x
    target_count (Use p (binding.Variable v) es s) =
        let fs = selector_trees variables procedures objects module_index s in
        let h = stored_count (slice_get variables v) s (refer variables module_index p.line (slice_get variables v) s (trees es) fs) in
        let i = refer_count variables module_index p.line (slice_get variables v) s (trees es) fs in
        let j = trees_count es in
        let k = selector_count s in
        omega (arith, h, i, j, k)
    target_count (Use p (binding.Procedure q) es s) = omega arith
    target_count (Use p (binding.Builtin b) es s) = loose_port b es s (is_target b) (trees_count es)
    target_count (Use p binding.Nothing es s) = omega arith

  -- ---- targets and values of statements

  no_port : (p : Position) (b : Builtin) (s : SelectorR) → port_faults module_index p b s [] ≡ [] → 1 ≤ cond (is_target b) 0 (1 + 0 + selector_nodes s)
  no_port p builtin.Output s e = absurd (not_none _ [] (none_of_both (fault_unless module_index false E402 p) (fault_unless module_index (may_be_numbers (take 1 [])) E401 p) (none_of_both (fault_unless module_index (is_plain s) E401 p) _ (none_of_both [] _ e).1).1).0)
  no_port p builtin.OutputWord s e = absurd (not_none _ [] (none_of_both (fault_unless module_index false E402 p) (fault_unless module_index (may_be_numbers (take 1 [])) E401 p) (none_of_both (fault_unless module_index (is_plain s) E401 p) _ (none_of_both [] _ e).1).1).0)
  no_port p builtin.Length s e = omega arith
  no_port p builtin.Last s e = omega arith
  no_port p builtin.Size s e = omega arith
  no_port p builtin.Low s e = omega arith
  no_port p builtin.High s e = omega arith
  no_port p builtin.Double s e = omega arith
  no_port p builtin.ShiftLeft s e = omega arith
  no_port p builtin.ShiftRight s e = omega arith
  no_port p builtin.RotateLeft s e = omega arith
  no_port p builtin.RotateRight s e = omega arith
  no_port p builtin.Input s e = omega arith
  no_port p builtin.InputWord s e = omega arith
  no_port p builtin.Signed s e = omega arith
  no_port p builtin.Unsigned s e = omega arith

  tight_port : (p : Position) (b : Builtin) (es : ExpressionsR) (s : SelectorR) → target_faults variables procedures objects module_index (Use p (binding.Builtin b) es s) ≡ []
      → typed.target_nodes (to_port b (trees es)) ≤ cond (is_target b) (expressions_nodes es) (1 + expressions_nodes es + selector_nodes s)
  tight_port p b no_expressions s e = no_port p b s e
  tight_port p b (expressions d no_expressions) s e =
      let h = tree_count d in cond_both (is_target b) (expression_nodes d + 0) (1 + (expression_nodes d + 0) + selector_nodes s) (λ n. typed.nodes (tree d) ≤ n) (λ _. omega (arith, h)) (λ _. omega (arith, h))
  tight_port p b (expressions c (expressions d es)) s e =
      let h = positive c in
      cond_both (is_target b) (expression_nodes c + (expression_nodes d + expressions_nodes es)) (1 + (expression_nodes c + (expression_nodes d + expressions_nodes es)) + selector_nodes s) (λ n. 1 ≤ n) (λ _. omega (arith, h)) (λ _. omega (arith, h))

  checked_target : (x : ReferenceR') → target_faults variables procedures objects module_index x ≡ [] → typed.target_nodes (target_of variables procedures objects module_index x) ≤ target_nodes x
  checked_target (Use p (binding.Variable v) es s) e =
      let fs = selector_trees variables procedures objects module_index s in
      let h = stored_count (slice_get variables v) s (refer variables module_index p.line (slice_get variables v) s (trees es) fs) in
      let i = refer_count variables module_index p.line (slice_get variables v) s (trees es) fs in
      let j = trees_count es in
      let k = selector_count s in
      omega (arith, h, i, j, k)
  checked_target (Use p (binding.Procedure q) es s) e = omega arith
  checked_target (Use p (binding.Builtin b) es s) e = tight_port p b es s e
  checked_target (Use p binding.Nothing es s) e = omega arith

  abbrev sum_of : List Target → ℕ
  sum_of [] = 0
  sum_of (t ∷ ts) = typed.target_nodes t + sum_of ts

  targets_sum : (t : Target) (ts : List Target) → typed.targets_nodes (targets t ts) ≡ typed.target_nodes t + sum_of ts
  targets_sum t [] = omega arith
  targets_sum t (u ∷ us) = let h = targets_sum u us in omega (arith, h)

  targets_count : (xs : ReferencesR) → of_targets variables procedures objects module_index xs ≡ [] → sum_of (target_trees variables procedures objects module_index xs) ≤ targets_nodes xs
  targets_count no_references e = omega arith
  targets_count (references x xs) e =
      let h = checked_target x (none_of_both (target_faults variables procedures objects module_index x) (of_targets variables procedures objects module_index xs) e).0 in
      let i = targets_count xs (none_of_both (target_faults variables procedures objects module_index x) (of_targets variables procedures objects module_index xs) e).1 in
      omega (arith, h, i)

  wanted_count : (t : Option ScalarType) (d : ExpressionR) → typed.nodes (wanted_tree variables procedures objects module_index t d) ≤ expression_nodes d
  wanted_count t d = turned_count (turned t d) (tree d) (expression_nodes d) (tree_count d)

  assignment_count : (xs : ReferencesR) (t : Option ScalarType) (d : ExpressionR) → of_targets variables procedures objects module_index xs ≡ []
      → typed.statement_nodes (assignment (target_trees variables procedures objects module_index xs) (wanted_tree variables procedures objects module_index t d)) ≤ 1 + targets_nodes xs + expression_nodes d
  assignment_count no_references t d e = let h = wanted_count t d in omega (arith, h)
  assignment_count (references x xs) t d e =
      let h = targets_sum (target_of variables procedures objects module_index x) (target_trees variables procedures objects module_index xs) in
      let i = targets_count (references x xs) e in
      let j = wanted_count t d in
      omega (arith, h, i, j)

  called_count : (p : Position) (x : ReferenceR') → typed.nodes (called variables procedures objects module_index p x) ≤ reference_nodes x
  called_count p (Use q (binding.Procedure n) es s) = let h = given_count es (parameters_wanted variables (slice_get procedures n)) in omega (arith, h)
  called_count p (Use q (binding.Variable v) es s) = omega arith
  called_count p (Use q (binding.Builtin b) es s) = use_positive (Use q (binding.Builtin b) es s)
  called_count p (Use q binding.Nothing es s) = omega arith

  step_at_most : (e : Expression) → typed.step_nodes e ≤ typed.nodes e
  step_at_most (rest.Constant k) = omega arith
  step_at_most (rest.Plain w x) = omega arith
  step_at_most (rest.Variable w r) = omega arith
  step_at_most (rest.Location r) = omega arith
  step_at_most (rest.Unary o w e) = omega arith
  step_at_most (rest.Binary m l o w a b) = omega arith
  step_at_most (rest.Embedded t e) = omega arith
  step_at_most (rest.Input w e) = omega arith
  step_at_most (rest.Call p es) = omega arith
  step_at_most (rest.Value v) = omega arith
  step_at_most (rest.Passing p xs vs) = omega arith
  step_at_most (rest.Running ss) = omega arith

  integer_step_count : (p : Position) (o : Option _) (n : ℕ) → typed.step_nodes (integer_step module_index p o).tree ≤ n
  integer_step_count p None n = omega arith
  integer_step_count p (Some s) n = omega arith

  chosen_count : (c : Bool) (a b : Expression) (n : ℕ) → typed.step_nodes a ≤ n → typed.step_nodes b ≤ n → typed.step_nodes (cond c a b) ≤ n
  chosen_count true a b n x y = x
  chosen_count false a b n x y = y

  step_count : (t : Option ScalarType) (p : Position) (s : Option ExpressionR) → typed.step_nodes (step_for variables procedures objects module_index t p s) ≤ step_nodes s
  step_count t p None = omega arith
  step_count t p (Some e) =
      let h = step_at_most (tree e) in
      let i = tree_count e in
      chosen_count (is_integer t) (integer_step module_index p (signed_step e)).tree (tree e) (expression_nodes e) (integer_step_count p (signed_step e) (expression_nodes e)) (omega (arith, h, i))

  -- ---- statements

  abbrev faults_for : Around → StatementR → List Found
  faults_for around s = of_statement variables procedures objects module_index around s

  abbrev faults_among : Around → StatementsR → List Found
  faults_among around ss = of_statements variables procedures objects module_index around ss

  abbrev number_faults : Position → ExpressionR → List Found
  number_faults p e = of_number variables procedures objects module_index p e

  abbrev count_faults : Position → ExpressionR → List Found
  count_faults p e = of_count variables procedures objects module_index p e

  abbrev bound_faults : Option ScalarType → Position → ExpressionR → List Found
  bound_faults t p e = of_bound variables procedures objects module_index t p e

  mutual
    statement_count : (around : Around) (s : StatementR) → faults_for around s ≡ [] → typed.statement_nodes (statement_for variables procedures objects module_index around s) ≤ statement_nodes s
    statement_count around (EmptyR p) n = omega arith
    statement_count around (AssignR xs e) n = assignment_count xs (wanted_among (target_types variables procedures objects module_index xs)) e (none_of_both (of_targets variables procedures objects module_index xs) _ n).0
    statement_count around (CallR p x) n = let h = called_count p x in omega (arith, h)
    statement_count around (ReturnR p) n = omega arith
    statement_count around (ReturnValueR p e) n = let h = wanted_count (wanted_of_return around) e in omega (arith, h)
    statement_count around (EnableR p) n = omega arith
    statement_count around (DisableR p) n = omega arith
    statement_count around (HaltR p) n = omega arith
    statement_count around (IfR p e s) n =
        let h = tree_count e in
        let i = statement_count around s (none_of_both (number_faults p e) (faults_for around s) n).1 in
        omega (arith, h, i)
    statement_count around (IfElseR p e s t) n =
        let both = (none_of_both (number_faults p e) (faults_for around s ++ faults_for around t) n).1 in
        let h = tree_count e in
        let i = statement_count around s (none_of_both (faults_for around s) (faults_for around t) both).0 in
        let j = statement_count around t (none_of_both (faults_for around s) (faults_for around t) both).1 in
        omega (arith, h, i, j)
    statement_count around (DoR p ss) n = let h = statements_count around ss n in omega (arith, h)
    statement_count around (WhileR p e ss) n =
        let h = tree_count e in
        let i = statements_count around ss (none_of_both (number_faults p e) (faults_among around ss) n).1 in
        omega (arith, h, i)
    statement_count around (CaseR p e ss) n =
        let h = tree_count e in
        let i = statements_count around ss (none_of_both (count_faults p e) (faults_among around ss) n).1 in
        omega (arith, h, i)
    statement_count around (IterateR p q m a b s ss) n =
        let t = variable_type (variable_meant variables m) in
        let last = of_step variables procedures objects module_index t p s in
        let h = wanted_count t a in
        let i = wanted_count t b in
        let j = step_count t p s in
        let after_index = (none_of_both (of_index variables procedures objects module_index p q m) (bound_faults t p a ++ (bound_faults t p b ++ (last ++ faults_among around ss))) n).1 in
        let after_first = (none_of_both (bound_faults t p a) (bound_faults t p b ++ (last ++ faults_among around ss)) after_index).1 in
        let after_bound = (none_of_both (bound_faults t p b) (last ++ faults_among around ss) after_first).1 in
        let k = statements_count around ss (none_of_both last (faults_among around ss) after_bound).1 in
        omega (arith, h, i, j, k)

    pub statements_count : (around : Around) (ss : StatementsR) → faults_among around ss ≡ [] → typed.statements_nodes (statements_for variables procedures objects module_index around ss) ≤ statements_nodes ss
    statements_count around no_statements n = omega arith
    statements_count around (statements s ss) n =
        let h = statement_count around s (none_of_both (faults_for around s) (faults_among around ss) n).0 in
        let i = statements_count around ss (none_of_both (faults_for around s) (faults_among around ss) n).1 in
        omega (arith, h, i)

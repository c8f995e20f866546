-- Of a program without faults of types: the trees of its expressions are well formed.
use Rattle.std.proofs.lemmas.Bool.{and_parts, leb-true, eqb-true}
use Rattle.std.proofs.Common.{◌≡◌, ℕ, zero, suc, ◌+◌, ◌≤◌, ◌<◌, Bool, true, false, not, cond, nat_eq, List, [], ◌∷◌, ◌++◌, length, slice_get, Option, Some, None, refl, sym, ap, ◌∙◌, subst, arith, true≢false}
use Rattle.std.specs.Prelude.{nat_le, slice_index}
use Rattle.std.proofs.lemmas.Bool.Decides.{nat_tests}
use Rattle.lower.proofs.Faultless.{none_of_both, holds_without_fault}
use Rattle.word86.specs.declared.number.Number.TheVariants.{E401, E402}
use Rattle.word86.specs.declared.page.Page.{Page}
use Rattle.word86.specs.declared.width.Width.{Width}
use Rattle.word86.specs.declared.operation.UnaryOperation.{UnaryOperation}
use Rattle.word86.specs.declared.operation.BinaryOperation.{BinaryOperation}
use Rattle.plm_syntax.specs.declared.tree.Position.{Position}
use Rattle.plm_decl.specs.declared.builtin.Builtin.{Builtin}
use Rattle.plm_decl.specs.declared.builtin.Builtin.TheVariants as builtin
use Rattle.plm_decl.specs.declared.layout.ScalarType.{ScalarType}
use Rattle.plm_decl.specs.declared.layout.ScalarType.TheVariants.{Word}
use Rattle.plm_decl.specs.declared.names.Variable.{Variable}
use Rattle.plm_decl.specs.declared.resolved.Binding.TheVariants as binding
use Rattle.plm_decl.specs.declared.found.Found.{Found}
use Rattle.plm_decl.specs.Names.{ProcedureR}
use Rattle.plm_decl.specs.Layout.{size_of}
use Rattle.plm_decl.specs.Resolved.{ExpressionR, NumberR, TextR, ReferenceR, LocationR, ParenthesisedR, EmbeddedR, UnaryR, BinaryR, ReferenceR', Use, ExpressionsR, no_expressions, expressions, SelectorR, no_member, member, member_at, LocationR', LocationOf, ConstantsOf}
use Rattle.plm_type.specs.declared.effects.Effect.{Effect}
use Rattle.plm_type.specs.declared.effects.Effect.TheVariants.{Calls, Enables}
use Rattle.plm_type.specs.Effects as effects
use Rattle.word86.specs.declared.width.Width.TheVariants as widths
use Rattle.word86.specs.declared.operation.UnaryOperation.TheVariants as unary
use Rattle.word86.specs.declared.operation.BinaryOperation.TheVariants as binary
use Rattle.word86.specs.Access.{Where, In, Screen}
use Rattle.word86.specs.Page.{page_size}
use Rattle.plm_type.specs.Rest as rest
use Rattle.plm_type.specs.Rest.{Anchor, InObject, OnScreen, Behind, There, Expression, Constant, Expressions, NoMore, More, Reference, Refer, Subscripts, NoSubscripts, Subscript, Target, Scalar, Procedure}
use Rattle.plm_type.specs.Types.{width_of}
use Rattle.plm_type.specs.Expressions.{wanted_beside}
use Rattle.plm_type.specs.Typing.{is_measure, is_target, first_type, other_types, wanted_arguments, parameters_wanted, measure, may_be_located}
use Rattle.plm_type.specs.Shapes.{subscripts_fit, selector_fits, shape_fits, designated, member_stride, capped, read_of, store_to}
use Rattle.plm_type.specs.Faults.{fault_unless, may_be_used, use_faults, builtin_faults, call_faults}
use Rattle.plm_type.specs.Trees.{constant, text_value, operated, read_port, to_port, shifted, builtin_value, strided, entry_of, object_size, use_read, use_stored, constants_at, refer}
use Rattle.lower.proofs.Typed.{type_of, is_turned, wanted_tree, wanted_faults, given_trees, given_types, given_faults, target_type, tree_of, trees_of, selector_trees, value_of, location_of, target_of, types_of, selector_types, faults_of, faults_in, selector_faults, value_faults, location_faults, target_faults, measured_value, argument_value, reference_value}
use Rattle.lower.specs.Expressions.{count_of}
use Rattle.lower.specs.Well.{Lies, IsCall, IsExpression, AreExpressions, IsReference, AreSubscripts, IsTarget}
use Rattle.lower.proofs.Integers.{turned_well}
use Rattle.lower.proofs.TypedPlaces.{width_bytes, capped_least, IsLying, AreLying, anchor_lies}

-- ---- parts

subscripts_few : (part : Bool) (d : Option ℕ) (n : ℕ) → subscripts_fit part d n ≡ true → n ≤ 1
subscripts_few part None n h = grind (arith, nat_tests)
subscripts_few true (Some d) n h = grind (arith, nat_tests)
subscripts_few false (Some d) n h = grind (arith, nat_tests)

module _ (sizes : List ℕ) (trees : List Procedure) (MayCall : ℕ → Type 0) where
  two_strided : (a b : ℕ) (es fs : Expressions) → count_of es ≤ 1 → count_of fs ≤ 1 → AreExpressions sizes trees MayCall es → AreExpressions sizes trees MayCall fs → AreSubscripts sizes trees MayCall 2 (strided a es (strided b fs NoSubscripts))
  two_strided a b NoMore NoMore n m h g = tt
  two_strided a b NoMore (More f NoMore) n m h g = (g.0, tt)
  two_strided a b NoMore (More f (More e fs)) n m h g = absurd (omega (arith, m))
  two_strided a b (More e NoMore) NoMore n m h g = (h.0, tt)
  two_strided a b (More e NoMore) (More f NoMore) n m h g = (h.0, (g.0, tt))
  two_strided a b (More e NoMore) (More f (More d fs)) n m h g = absurd (omega (arith, m))
  two_strided a b (More e (More d es)) fs n m h g = absurd (omega (arith, n))

  pub zero_well : IsExpression sizes trees MayCall (Constant 0)
  zero_well = omega arith

  constant_if : (n : ℕ) (c : Bool) → nat_le n 65535 ≡ c → cond c n 0 < 65536
  constant_if n true h = let le = leb-true n 65535 h in omega (arith, le)
  constant_if n false h = omega arith

  constant_well : (n : ℕ) → IsExpression sizes trees MayCall (constant n)
  constant_well n = constant_if n (nat_le n 65535) refl

  -- ---- references

  refer_well : (vs : List Variable) → AreLying sizes vs → (m line : ℕ) (part : Bool) (o : Option Variable) → ((v : Variable) → o ≡ Some v → IsLying sizes v) → (s : SelectorR) (es fs : Expressions) (ts us : List (Option ScalarType))
      → length ts ≡ count_of es → count_of fs ≤ 1 → may_be_used part o s ts us ≡ true → AreExpressions sizes trees MayCall es → AreExpressions sizes trees MayCall fs → IsReference sizes trees MayCall (refer vs m line o s es fs)
  refer_well vs all m line part None lies s es fs ts us len few used h g = absurd (true≢false (sym used))
  refer_well vs all m line part (Some v) lies s es fs ts us len few used h g =
      let shape = and_parts (shape_fits part v (length ts) s) _ used in
      let fit = and_parts (subscripts_fit part v.dimension (length ts)) (selector_fits part v.form s) shape.0 in
      let least = subscripts_few part v.dimension (length ts) fit.0 in
      (anchor_lies sizes vs all v (lies v refl), two_strided v.stride (member_stride s) es fs (omega (arith, least, len)) few h g)

  read_if : (t : ScalarType) (r : Reference) (place : Where) (c : Bool) → IsReference sizes trees MayCall r → (c ≡ true → Lies sizes (width_of (Some t)) place)
      → IsExpression sizes trees MayCall (elim (cond c (Some place) None) [ Some w ↦ rest.Plain (width_of (Some t)) w | None ↦ rest.Variable (width_of (Some t)) r ])
  read_if t r place true h lies = lies refl
  read_if t r place false h lies = h

  store_if : (t : ScalarType) (r : Reference) (place : Where) (c : Bool) → IsReference sizes trees MayCall r → (c ≡ true → Lies sizes (width_of (Some t)) place)
      → IsTarget sizes trees MayCall (elim (cond c (Some place) None) [ Some w ↦ rest.ToPlain (width_of (Some t)) w | None ↦ rest.ToVariable (width_of (Some t)) r ])
  store_if t r place true h lies = lies refl
  store_if t r place false h lies = h

  in_object : (t : ScalarType) (k start offset size : ℕ) → start + size ≤ slice_index sizes k → nat_le (offset + size_of t) size ≡ true → Lies sizes (width_of (Some t)) (In k (capped (start + offset)))
  in_object t k start offset size h e = let le = leb-true (offset + size_of t) size e in omega (arith, h, le, width_bytes t, capped_least (start + offset))

  on_screen : (page : Page) (t : ScalarType) (start offset size : ℕ) → start + size ≤ page_size → nat_le (offset + size_of t) size ≡ true → Lies sizes (width_of (Some t)) (Screen page (capped (start + offset)))
  on_screen page t start offset size h e = let le = leb-true (offset + size_of t) size e in omega (arith, h, le, width_bytes t, capped_least (start + offset))

  read_well : (t : ScalarType) (r : Reference) → IsReference sizes trees MayCall r → IsExpression sizes trees MayCall (read_of t r)
  read_well t (Refer m line (InObject k start size) offset NoSubscripts) h = read_if t _ _ (nat_le (offset + size_of t) size) h (in_object t k start offset size h.0)
  read_well t (Refer m line (OnScreen page start size) offset NoSubscripts) h = read_if t _ _ (nat_le (offset + size_of t) size) h (on_screen page t start offset size h.0)
  read_well t (Refer m line (InObject k start size) offset (Subscript stride e ss)) h = h
  read_well t (Refer m line (OnScreen page start size) offset (Subscript stride e ss)) h = h
  read_well t (Refer m line (Behind b) offset ss) h = h
  read_well t (Refer m line (There a) offset ss) h = absurd h.0

  store_well : (t : ScalarType) (r : Reference) → IsReference sizes trees MayCall r → IsTarget sizes trees MayCall (store_to t r)
  store_well t (Refer m line (InObject k start size) offset NoSubscripts) h = store_if t _ _ (nat_le (offset + size_of t) size) h (in_object t k start offset size h.0)
  store_well t (Refer m line (OnScreen page start size) offset NoSubscripts) h = store_if t _ _ (nat_le (offset + size_of t) size) h (on_screen page t start offset size h.0)
  store_well t (Refer m line (InObject k start size) offset (Subscript stride e ss)) h = h
  store_well t (Refer m line (OnScreen page start size) offset (Subscript stride e ss)) h = h
  store_well t (Refer m line (Behind b) offset ss) h = h
  store_well t (Refer m line (There a) offset ss) h = absurd h.0

  read_designated : (o : Option ScalarType) (r : Reference) → IsReference sizes trees MayCall r → IsExpression sizes trees MayCall (elim o [ Some t ↦ read_of t r | None ↦ Constant 0 ])
  read_designated (Some t) r h = read_well t r h
  read_designated None r h = zero_well

  use_read_well : (o : Option Variable) (s : SelectorR) (r : Reference) → IsReference sizes trees MayCall r → IsExpression sizes trees MayCall (use_read o s r)
  use_read_well None s r h = zero_well
  use_read_well (Some v) s r h = read_designated (designated v s) r h

  store_designated : (o : Option ScalarType) (r : Reference) → IsReference sizes trees MayCall r → IsTarget sizes trees MayCall (elim o [ Some t ↦ store_to t r | None ↦ store_to Word r ])
  store_designated (Some t) r h = store_well t r h
  store_designated None r h = store_well Word r h

  use_stored_well : (o : Option Variable) (s : SelectorR) (r : Reference) → IsReference sizes trees MayCall r → IsTarget sizes trees MayCall (use_stored o s r)
  use_stored_well None s r h = store_well Word r h
  use_stored_well (Some v) s r h = store_designated (designated v s) r h

  object_is : (ns : List ℕ) (k : ℕ) → object_size (slice_get ns k) ≡ slice_index ns k
  object_is [] k = refl
  object_is (n ∷ ns) zero = refl
  object_is (n ∷ ns) (suc k) = object_is ns k

  constants_well : (m line k : ℕ) → IsReference sizes trees MayCall (constants_at m line k (object_size (slice_get sizes k)))
  constants_well m line k = (omega (arith, object_is sizes k), tt)

  -- ---- built-ins

  operated_well : (o : UnaryOperation) (w : Width) (es : Expressions) → AreExpressions sizes trees MayCall es → IsExpression sizes trees MayCall (operated o w es)
  operated_well o w NoMore h = zero_well
  operated_well o w (More e NoMore) h = h.0
  operated_well o w (More e (More d es)) h = zero_well

  read_port_well : (w : Width) (es : Expressions) → AreExpressions sizes trees MayCall es → IsExpression sizes trees MayCall (read_port w es)
  read_port_well w NoMore h = zero_well
  read_port_well w (More e NoMore) h = h.0
  read_port_well w (More e (More d es)) h = zero_well

  to_port_well : (b : Builtin) (es : Expressions) → AreExpressions sizes trees MayCall es → IsTarget sizes trees MayCall (to_port b es)
  to_port_well b NoMore h = zero_well
  to_port_well b (More e NoMore) h = h.0
  to_port_well b (More e (More d es)) h = zero_well

  shifted_well : (m line : ℕ) (o : BinaryOperation) (w : Width) (es : Expressions) → AreExpressions sizes trees MayCall es → IsExpression sizes trees MayCall (shifted m line o w es)
  shifted_well m line o w NoMore h = zero_well
  shifted_well m line o w (More a NoMore) h = zero_well
  shifted_well m line o w (More a (More b NoMore)) h = (h.0, h.1.0)
  shifted_well m line o w (More a (More b (More c es))) h = zero_well

  builtin_well : (m line : ℕ) (b : Builtin) (w : Width) (es : Expressions) → AreExpressions sizes trees MayCall es → IsExpression sizes trees MayCall (builtin_value m line b w es)
  builtin_well m line builtin.Low w es h = operated_well unary.Low w es h
  builtin_well m line builtin.High w es h = operated_well unary.High w es h
  builtin_well m line builtin.Double w es h = operated_well unary.Double w es h
  builtin_well m line builtin.ShiftLeft w es h = shifted_well m line binary.ShiftLeft w es h
  builtin_well m line builtin.ShiftRight w es h = shifted_well m line binary.ShiftRight w es h
  builtin_well m line builtin.RotateLeft w es h = shifted_well m line binary.RotateLeft w es h
  builtin_well m line builtin.RotateRight w es h = shifted_well m line binary.RotateRight w es h
  builtin_well m line builtin.Input w es h = read_port_well widths.Byte es h
  builtin_well m line builtin.InputWord w es h = read_port_well widths.Word es h
  builtin_well m line builtin.Length w es h = zero_well
  builtin_well m line builtin.Last w es h = zero_well
  builtin_well m line builtin.Size w es h = zero_well
  builtin_well m line builtin.Output w es h = zero_well
  builtin_well m line builtin.OutputWord w es h = zero_well
  builtin_well m line builtin.Signed w es h = operated_well unary.Double w es h
  builtin_well m line builtin.Unsigned w es h = operated_well unary.Double w es h

  measured_well : (vs : List Variable) (ps : List ProcedureR) (m : ℕ) (at : Position) (b : Builtin) (es : ExpressionsR) → IsExpression sizes trees MayCall (measured_value vs ps sizes m at b es)
  measured_well vs ps m at b no_expressions = zero_well
  measured_well vs ps m at b (expressions e no_expressions) = argument_well e
    where
      meant_well : (x : ReferenceR') → IsExpression sizes trees MayCall (reference_value vs ps sizes m at b x)
      meant_well (Use p (binding.Variable v) es s) = constant_well (measure b (slice_get vs v) (length (types_of vs ps sizes m es)) s)
      meant_well (Use p (binding.Procedure q) es s) = zero_well
      meant_well (Use p (binding.Builtin d) es s) = zero_well
      meant_well (Use p binding.Nothing es s) = zero_well

      argument_well : (e : ExpressionR) → IsExpression sizes trees MayCall (argument_value vs ps sizes m at b e)
      argument_well (NumberR n) = zero_well
      argument_well (TextR p cs) = zero_well
      argument_well (ReferenceR x) = meant_well x
      argument_well (LocationR l) = zero_well
      argument_well (ParenthesisedR p e) = zero_well
      argument_well (EmbeddedR p x e) = zero_well
      argument_well (UnaryR p o e) = zero_well
      argument_well (BinaryR p o a d) = zero_well
  measured_well vs ps m at b (expressions e (expressions d es)) = zero_well

pub targets_evaluate : (b : Builtin) → is_target b ≡ true → is_measure b ≡ false
targets_evaluate builtin.Output h = refl
targets_evaluate builtin.OutputWord h = refl
targets_evaluate builtin.Length h = absurd (true≢false (sym h))
targets_evaluate builtin.Last h = absurd (true≢false (sym h))
targets_evaluate builtin.Size h = absurd (true≢false (sym h))
targets_evaluate builtin.Low h = refl
targets_evaluate builtin.High h = refl
targets_evaluate builtin.Double h = refl
targets_evaluate builtin.ShiftLeft h = refl
targets_evaluate builtin.ShiftRight h = refl
targets_evaluate builtin.RotateLeft h = refl
targets_evaluate builtin.RotateRight h = refl
targets_evaluate builtin.Input h = refl
targets_evaluate builtin.InputWord h = refl
targets_evaluate builtin.Signed h = refl
targets_evaluate builtin.Unsigned h = refl

-- ---- calls

module _ (ps : List ProcedureR) (sizes : List ℕ) (trees : List Procedure) (MayCall : ℕ → Type 0) where
  -- a call of this procedure, with as many arguments as it has parameters
  abbrev pub Callable : Option ProcedureR → Type 0
  Callable None = Unit {0}
  Callable (Some p) = IsCall sizes trees MayCall p.entry (length p.parameters)

  -- what a text calls
  abbrev pub AllCallable : List Effect → Type 0
  AllCallable [] = Unit {0}
  AllCallable (Calls q ∷ es) = Callable (slice_get ps q) × AllCallable es
  AllCallable (Enables ∷ es) = AllCallable es

  pub parted : (es fs : List Effect) → AllCallable (es ++ fs) → AllCallable es × AllCallable fs
  parted [] fs h = (tt, h)
  parted (Calls q ∷ es) fs h = let both = parted es fs h.1 in ((h.0, both.0), both.1)
  parted (Enables ∷ es) fs h = parted es fs h

  pub call_well : (vs : List Variable) (m : ℕ) (place : Position) (o : Option ProcedureR) (s : SelectorR) (ts : List (Option ScalarType)) (n : ℕ)
      → length ts ≡ n → Callable o → call_faults vs m place o s ts ≡ [] → IsCall sizes trees MayCall (entry_of o) n
  call_well vs m place None s ts n len h f = absurd (true≢false (sym (holds_without_fault m false E401 place f)))
  call_well vs m place (Some q) s ts n len h f =
      let behind = (none_of_both _ _ f).1 in
      let count = holds_without_fault m (nat_eq (length q.parameters) (length ts)) E402 place (none_of_both _ _ behind).0 in
      subst (λ (k : ℕ). IsCall sizes trees MayCall q.entry k) (eqb-true (length q.parameters) (length ts) count ∙ len) h

  builtin_if : (c : Bool) (x y : Expression) (others own : List Found) (texts : List Effect)
      → IsExpression sizes trees MayCall x → (own ≡ [] → AllCallable texts → IsExpression sizes trees MayCall y) → cond c others own ≡ [] → AllCallable (cond c [] texts) → IsExpression sizes trees MayCall (cond c x y)
  builtin_if true x y others own texts h k f g = h
  builtin_if false x y others own texts h k f g = k f g

  -- ---- expressions
  module _ (vs : List Variable) (all : AreLying sizes vs) (m : ℕ) where
    pub as_many : (es : ExpressionsR) → length (types_of vs ps sizes m es) ≡ count_of (trees_of vs ps sizes m es)
    as_many no_expressions = refl
    as_many (expressions e es) = ap suc (as_many es)

    pub given_many : (es : ExpressionsR) (ts : List (Option ScalarType)) → length (given_types vs ps sizes m ts es) ≡ count_of (given_trees vs ps sizes m ts es)
    given_many no_expressions ts = refl
    given_many (expressions e es) ts = ap suc (given_many es (other_types ts))

    few_members : (s : SelectorR) → count_of (selector_trees vs ps sizes m s) ≤ 1
    few_members no_member = omega arith
    few_members (member p o) = omega arith
    few_members (member_at p o e) = omega arith

    used_well : (part : Bool) (line : ℕ) (p : Position) (v : ℕ) (es : ExpressionsR) (s : SelectorR)
        → use_faults m part p (slice_get vs v) s (types_of vs ps sizes m es) (selector_types vs ps sizes m s) ≡ []
        → AreExpressions sizes trees MayCall (trees_of vs ps sizes m es) → AreExpressions sizes trees MayCall (selector_trees vs ps sizes m s)
        → IsReference sizes trees MayCall (refer vs m line (slice_get vs v) s (trees_of vs ps sizes m es) (selector_trees vs ps sizes m s))
    used_well part line p v es s f h g =
        refer_well sizes trees MayCall vs all m line part (slice_get vs v) (all v) s _ _ (types_of vs ps sizes m es) (selector_types vs ps sizes m s) (as_many es) (few_members s)
        (holds_without_fault m (may_be_used part (slice_get vs v) s (types_of vs ps sizes m es) (selector_types vs ps sizes m s)) E401 p f) h g

    mutual
      pub tree_well : (e : ExpressionR) → faults_of vs ps sizes m e ≡ [] → AllCallable (effects.of_expression e) → IsExpression sizes trees MayCall (tree_of vs ps sizes m e)
      tree_well (NumberR n) f g = constant_well sizes trees MayCall n.value
      tree_well (TextR p cs) f g = constant_well sizes trees MayCall (text_value cs)
      tree_well (ReferenceR x) f g = value_well x f g
      tree_well (LocationR l) f g = location_well l f g
      tree_well (ParenthesisedR p e) f g = tree_well e f g
      tree_well (EmbeddedR p x e) f g =
          let first = none_of_both (target_faults vs ps sizes m x) _ f in
          let t = target_type vs ps sizes m x in
          let second = none_of_both (wanted_faults vs ps sizes m t e) _ first.1 in
          let calls = parted (effects.of_parts x) (effects.of_expression e) g in
          (target_well x first.0 calls.0, turned_well sizes trees MayCall (is_turned vs ps sizes m t e) (tree_of vs ps sizes m e) (tree_well e (none_of_both (faults_of vs ps sizes m e) _ second.0).0 calls.1))
      tree_well (UnaryR p o e) f g = tree_well e (none_of_both (faults_of vs ps sizes m e) _ f).0 g
      tree_well (BinaryR p o a b) f g =
          let first = none_of_both (faults_of vs ps sizes m a) _ f in
          let second = none_of_both (faults_of vs ps sizes m b) _ first.1 in
          let calls = parted (effects.of_expression a) (effects.of_expression b) g in (
            turned_well sizes trees MayCall (is_turned vs ps sizes m (wanted_beside o (type_of vs ps sizes m b)) a) (tree_of vs ps sizes m a) (tree_well a first.0 calls.0),
            turned_well sizes trees MayCall (is_turned vs ps sizes m (wanted_beside o (type_of vs ps sizes m a)) b) (tree_of vs ps sizes m b) (tree_well b second.0 calls.1),
          )

      pub trees_well : (es : ExpressionsR) → faults_in vs ps sizes m es ≡ [] → AllCallable (effects.of_list es) → AreExpressions sizes trees MayCall (trees_of vs ps sizes m es)
      trees_well no_expressions f g = tt
      trees_well (expressions e es) f g =
          let both = none_of_both (faults_of vs ps sizes m e) (faults_in vs ps sizes m es) f in
          let calls = parted (effects.of_expression e) (effects.of_list es) g in
          (tree_well e both.0 calls.0, trees_well es both.1 calls.1)

      pub given_well : (es : ExpressionsR) (ts : List (Option ScalarType)) → given_faults vs ps sizes m ts es ≡ [] → AllCallable (effects.of_list es) → AreExpressions sizes trees MayCall (given_trees vs ps sizes m ts es)
      given_well no_expressions ts f g = tt
      given_well (expressions e es) ts f g =
          let both = none_of_both (wanted_faults vs ps sizes m (first_type ts) e) (given_faults vs ps sizes m (other_types ts) es) f in
          let calls = parted (effects.of_expression e) (effects.of_list es) g in (
            turned_well sizes trees MayCall (is_turned vs ps sizes m (first_type ts) e) (tree_of vs ps sizes m e) (tree_well e (none_of_both (faults_of vs ps sizes m e) _ both.0).0 calls.0),
            given_well es (other_types ts) both.1 calls.1,
          )

      pub selector_well : (s : SelectorR) → selector_faults vs ps sizes m s ≡ [] → AllCallable (effects.of_selector s) → AreExpressions sizes trees MayCall (selector_trees vs ps sizes m s)
      selector_well no_member f g = tt
      selector_well (member p o) f g = tt
      selector_well (member_at p o e) f g = (tree_well e f g, tt)

      pub value_well : (x : ReferenceR') → value_faults vs ps sizes m x ≡ [] → AllCallable (effects.of_value x) → IsExpression sizes trees MayCall (value_of vs ps sizes m x)
      value_well (Use p (binding.Variable v) es s) f g =
          let both = none_of_both (faults_in vs ps sizes m es ++ selector_faults vs ps sizes m s) _ f in
          let parts = none_of_both (faults_in vs ps sizes m es) (selector_faults vs ps sizes m s) both.0 in
          let calls = parted (effects.of_list es) (effects.of_selector s) g in
          use_read_well sizes trees MayCall (slice_get vs v) s _ (used_well false p.line p v es s both.1 (trees_well es parts.0 calls.0) (selector_well s parts.1 calls.1))
      value_well (Use p (binding.Procedure q) es s) f g =
          let ts = parameters_wanted vs (slice_get ps q) in
          let both = none_of_both (given_faults vs ps sizes m ts es) _ f in
          let call = none_of_both (call_faults vs m p (slice_get ps q) s (given_types vs ps sizes m ts es)) _ both.1 in
          let calls = parted (effects.of_list es) (effects.of_selector s) g.1 in
          (call_well vs m p (slice_get ps q) s (given_types vs ps sizes m ts es) _ (given_many es ts) g.0 call.0, given_well es ts both.0 calls.0)
      value_well (Use p (binding.Builtin b) es s) f g =
          let both = none_of_both (fault_unless m (not (is_target b)) E401 p) _ f in
          let ts = wanted_arguments b in
          builtin_if (is_measure b) _ _ _ _ (effects.of_list es ++ effects.of_selector s) (measured_well sizes trees MayCall vs ps m p b es)
          (λ own calls. builtin_well sizes trees MayCall m p.line b (width_of (first_type (given_types vs ps sizes m ts es))) (given_trees vs ps sizes m ts es)
          (given_well es ts (none_of_both (given_faults vs ps sizes m ts es) (builtin_faults m p b s (given_types vs ps sizes m ts es)) own).0 (parted (effects.of_list es) (effects.of_selector s) calls).0))
          both.1 g
      value_well (Use p binding.Nothing es s) f g = zero_well sizes trees MayCall

      pub location_well : (l : LocationR') → location_faults vs ps sizes m l ≡ [] → AllCallable (effects.of_location l) → IsExpression sizes trees MayCall (location_of vs ps sizes m l)
      location_well (LocationOf p k (Use q (binding.Variable v) es s)) f g =
          let both = none_of_both (faults_in vs ps sizes m es ++ selector_faults vs ps sizes m s) _ f in
          let parts = none_of_both (faults_in vs ps sizes m es) (selector_faults vs ps sizes m s) both.0 in
          let used = none_of_both (fault_unless m (may_be_located (slice_get vs v)) E401 p) _ both.1 in
          let calls = parted (effects.of_list es) (effects.of_selector s) g in
          used_well true q.line q v es s used.1 (trees_well es parts.0 calls.0) (selector_well s parts.1 calls.1)
      location_well (LocationOf p k (Use q (binding.Procedure n) es s)) f g = zero_well sizes trees MayCall
      location_well (LocationOf p k (Use q (binding.Builtin b) es s)) f g = zero_well sizes trees MayCall
      location_well (LocationOf p k (Use q binding.Nothing es s)) f g = zero_well sizes trees MayCall
      location_well (ConstantsOf p k o) f g = constants_well sizes trees MayCall m p.line o

      pub target_well : (x : ReferenceR') → target_faults vs ps sizes m x ≡ [] → AllCallable (effects.of_parts x) → IsTarget sizes trees MayCall (target_of vs ps sizes m x)
      target_well (Use p (binding.Variable v) es s) f g =
          let both = none_of_both (faults_in vs ps sizes m es ++ selector_faults vs ps sizes m s) _ f in
          let parts = none_of_both (faults_in vs ps sizes m es) (selector_faults vs ps sizes m s) both.0 in
          let used = none_of_both (use_faults m false p (slice_get vs v) s (types_of vs ps sizes m es) (selector_types vs ps sizes m s)) _ both.1 in
          let calls = parted (effects.of_list es) (effects.of_selector s) g in
          use_stored_well sizes trees MayCall (slice_get vs v) s _ (used_well false p.line p v es s used.0 (trees_well es parts.0 calls.0) (selector_well s parts.1 calls.1))
      target_well (Use p (binding.Builtin b) es s) f g =
          let both = none_of_both (faults_in vs ps sizes m es) _ f in
          let is_port = holds_without_fault m (is_target b) E401 p (none_of_both (fault_unless m (is_target b) E401 p) (builtin_faults m p b s (types_of vs ps sizes m es)) both.1).0 in
          let evaluated = subst (λ (c : Bool). AllCallable (cond c [] (effects.of_list es ++ effects.of_selector s))) (targets_evaluate b is_port) g in
          to_port_well sizes trees MayCall b (trees_of vs ps sizes m es) (trees_well es both.0 (parted (effects.of_list es) (effects.of_selector s) evaluated).0)
      target_well (Use p (binding.Procedure q) es s) f g = zero_well sizes trees MayCall
      target_well (Use p binding.Nothing es s) f g = zero_well sizes trees MayCall

    -- where a value of a type is wanted
    pub wanted_well : (t : Option ScalarType) (e : ExpressionR) → wanted_faults vs ps sizes m t e ≡ [] → AllCallable (effects.of_expression e) → IsExpression sizes trees MayCall (wanted_tree vs ps sizes m t e)
    wanted_well t e f g = turned_well sizes trees MayCall (is_turned vs ps sizes m t e) (tree_of vs ps sizes m e) (tree_well e (none_of_both (faults_of vs ps sizes m e) _ f).0 g)

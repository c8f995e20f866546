-- Lists as the code goes over them, and as it builds them.
use Rattle.std.proofs.Common.{◌≡◌, ℕ, zero, suc, ◌+◌, ◌<◌, ◌≤◌, arith, List, [], ◌∷◌, ◌++◌, length, get_or, slice_get, take, drop, drop-cons, add-one, map, Bool, true, false, ◌&&◌, Option, is_some, append_assoc, refl, sym, ap, ◌∙◌}
use Rattle.std.proofs.lemmas.List.{append-nil}
use Rattle.std.specs.Global.{Box}
use Rattle.plm_decl.specs.declared.resolved.Expression as declared_resolved
use Rattle.plm_decl.specs.declared.resolved.Reference as resolved_reference
use Rattle.plm_decl.specs.declared.resolved.Statement as resolved_statement
use Rattle.plm_decl.specs.Resolved.{expressions, references, statements}
use Rattle.plm_decl.specs.ResolvedView as resolved
use Rattle.plm_type.specs.declared.program.Expression.{Expression}
use Rattle.plm_type.specs.declared.program.Target.{Target}
use Rattle.plm_type.specs.declared.program.Statement.{Statement}
use Rattle.plm_type.specs.Rest as rest
use Rattle.plm_type.specs.View as view
use Rattle.plm_decl.specs.declared.layout.ScalarType.{ScalarType}
use Rattle.plm_decl.specs.declared.found.Found.{Found}
use Rattle.plm_type.specs.declared.typer.TypedList as declared_list
use Rattle.plm_type.specs.declared.statements.TypedTargets as declared_targets
use Rattle.plm_type.specs.Typer.{TypedList, TypedTargets, Noted}
use Rattle.plm_type.specs.Types.{may_count, may_all_count, are_known_counts}
use Rattle.plm_type.specs.Trees.{strided}
use Rattle.plm_type.specs.Inner.Typer.{with_stride, noted, noted_after}
use Rattle.plm_type.specs.Statements.{targets, assignment}
use Rattle.plm_syntax.specs.declared.tree.Position.{Position}
use Rattle.plm_decl.specs.declared.builtin.Builtin.{Builtin}
use Rattle.plm_decl.specs.declared.names.Variable.{Variable}
use Rattle.plm_decl.specs.Names.{ProcedureR}
use Rattle.plm_type.specs.Typing.{variable_type, parameter_types}
use Rattle.plm_type.specs.Expressions.{before, wanted, typed, given, miscounted, argument, arguments}

pub drop_at : {X : Type 0} → (xs : List X) (i : ℕ) (x : X) → i < length xs → x ≡ get_or xs i x → drop i xs ≡ x ∷ drop (i + 1) xs
drop_at xs i x h e = drop-cons xs i x h ∙ (λ j. sym e j ∷ drop (sym (add-one i) j) xs)

pub expressions_at : (es : List declared_resolved.Expression) (i : ℕ) (x : declared_resolved.Expression) → i < length es → x ≡ get_or es i x
    → resolved.expressions_of (drop i es) ≡ expressions (resolved.expression_of x) (resolved.expressions_of (drop (i + 1) es))
expressions_at es i x h e = ap resolved.expressions_of (drop_at es i x h e)

pub references_at : (es : List resolved_reference.Reference) (i : ℕ) (x : resolved_reference.Reference) → i < length es → x ≡ get_or es i x
    → resolved.references_of (drop i es) ≡ references (resolved.reference_of x) (resolved.references_of (drop (i + 1) es))
references_at es i x h e = ap resolved.references_of (drop_at es i x h e)

pub statements_at : (es : List resolved_statement.Statement) (i : ℕ) (x : resolved_statement.Statement) → i < length es → x ≡ get_or es i x
    → resolved.statements_of (drop i es) ≡ statements (resolved.statement_of x) (resolved.statements_of (drop (i + 1) es))
statements_at es i x h e = ap resolved.statements_of (drop_at es i x h e)

-- ---- types of as many parameters as there are arguments

abbrev no_types : List (Option ScalarType)
no_types = []

pub none_taken : (n : ℕ) → take n no_types ≡ []
none_taken zero = refl
none_taken (suc n) = refl

module _ (variables : List Variable) where
  pub types_taken : (n : ℕ) (xs : List ℕ) → parameter_types variables (take n xs) ≡ take n (parameter_types variables xs)
  types_taken zero xs = refl
  types_taken (suc n) [] = refl
  types_taken (suc n) (x ∷ xs) = ap (λ (ts : List (Option ScalarType)). variable_type (slice_get variables x) ∷ ts) (types_taken n xs)

module _ (variables : List Variable) (procedures : List ProcedureR) (sizes : List ℕ) (module_index : ℕ) where
  -- types beyond the arguments are not asked
  pub given_taken : (ts : List (Option ScalarType)) (es : List declared_resolved.Expression)
      → given variables procedures sizes module_index (take (length es) ts) (resolved.expressions_of es) ≡ given variables procedures sizes module_index ts (resolved.expressions_of es)
  given_taken ts [] = refl
  given_taken [] (e ∷ es) = refl
  given_taken (t ∷ ts) (e ∷ es) = ap (before (wanted module_index t (typed variables procedures sizes module_index (resolved.expression_of e)))) (given_taken ts es)

-- ---- trees so far, before others

abbrev pub trees_before : List Expression → rest.Expressions → rest.Expressions
trees_before [] others = others
trees_before (e ∷ es) others = rest.More (view.expression_of e) (trees_before es others)

pub trees_pushed : (es : List Expression) (e : Expression) (others : rest.Expressions) → trees_before (es ++ e ∷ []) others ≡ trees_before es (rest.More (view.expression_of e) others)
trees_pushed [] e others = refl
trees_pushed (d ∷ es) e others = ap (rest.More (view.expression_of d)) (trees_pushed es e others)

pub trees_all : (es : List Expression) → trees_before es rest.NoMore ≡ view.expressions_of es
trees_all [] = refl
trees_all (d ∷ es) = ap (rest.More (view.expression_of d)) (trees_all es)

-- all that is said so far, before what is said of others
abbrev pub list_before : declared_list.TypedList → List Found → TypedList → TypedList
list_before es noted others =
    record { trees = trees_before es.trees.items others.trees; types = es.types.items ++ others.types; faults = noted ++ others.faults }

abbrev pub statements_before : List (Box Statement) → rest.Statements → rest.Statements
statements_before [] others = others
statements_before (s ∷ ss) others = rest.Then (view.statement_of s.value) (statements_before ss others)

-- all that is said so far, before what is said of others
abbrev pub noted_before : List (Box Statement) → List Found → Noted rest.Statements → Noted rest.Statements
noted_before ss noted others = record { tree = statements_before ss others.tree; faults = noted ++ others.faults }

abbrev pub targets_before : declared_targets.TypedTargets → List Found → TypedTargets → TypedTargets
targets_before xs noted others =
    record { trees = map view.target_of xs.trees.items ++ others.trees; types = xs.types.items ++ others.types; faults = noted ++ others.faults }

pub statements_pushed : (ss : List (Box Statement)) (s : Box Statement) (others : rest.Statements) → statements_before (ss ++ s ∷ []) others ≡ statements_before ss (rest.Then (view.statement_of s.value) others)
statements_pushed [] s others = refl
statements_pushed (t ∷ ss) s others = ap (rest.Then (view.statement_of t.value)) (statements_pushed ss s others)

pub statements_all : (ss : List (Box Statement)) → statements_before ss rest.End ≡ view.statements_of ss
statements_all [] = refl
statements_all (t ∷ ss) = ap (rest.Then (view.statement_of t.value)) (statements_all ss)

-- ---- subscripts

pub strided_are : (n m : ℕ) (es fs : List Expression)
    → view.subscripts_of (map (with_stride n) es ++ map (with_stride m) fs) ≡ strided n (view.expressions_of es) (strided m (view.expressions_of fs) rest.NoSubscripts)
strided_are n m [] [] = refl
strided_are n m [] (f ∷ fs) = ap (rest.Subscript m (view.expression_of f)) (strided_are n m [] fs)
strided_are n m (e ∷ es) fs = ap (rest.Subscript n (view.expression_of e)) (strided_are n m es fs)

-- ---- targets

pub targets_are : (t : Target) (ts : List Target) → view.targets_of (view.target_of t) ts ≡ targets (view.target_of t) (map view.target_of ts)
targets_are t [] = refl
targets_are t (u ∷ us) = ap (rest.Also (view.target_of t)) (targets_are u us)

-- ---- types of two lists

pub may_all_count_both : (ts us : List (Option ScalarType)) → may_all_count (ts ++ us) ≡ (may_all_count ts && may_all_count us)
may_all_count_both [] us = refl
may_all_count_both (t ∷ ts) us = and_more (may_count t) _ _ _ (may_all_count_both ts us)
  where
    and_more : (p a b c : Bool) → a ≡ (b && c) → (p && a) ≡ ((p && b) && c)
    and_more true a b c e = e
    and_more false a b c e = refl

pub known_counts_both : (ts us : List (Option ScalarType)) → are_known_counts (ts ++ us) ≡ (are_known_counts ts && are_known_counts us)
known_counts_both [] us = refl
known_counts_both (t ∷ ts) us = and_more (is_some t && may_count t) _ _ _ (known_counts_both ts us)
  where
    and_more : (p a b c : Bool) → a ≡ (b && c) → (p && a) ≡ ((p && b) && c)
    and_more true a b c e = e
    and_more false a b c e = refl

-- ---- a list of one

pub one_is : {X : Type 0} → (xs : List X) (x : X) → 1 ≤ length xs → length xs < 2 → x ≡ get_or xs 0 x → xs ≡ x ∷ []
one_is [] x h l e = absurd (omega arith)
one_is (y ∷ []) x h l e = ap (λ z. z ∷ []) (sym e)
one_is (y ∷ z ∷ zs) x h l e = absurd (omega arith)

-- ---- LENGTH, LAST and SIZE of several arguments

pub many_are : (vs : List Variable) (ps : List ProcedureR) (sizes : List ℕ) (module_index : ℕ) (p : Position) (b : Builtin) (es : List declared_resolved.Expression) (x : declared_resolved.Expression) → 2 ≤ length es
    → x ≡ get_or es 0 x
    → miscounted module_index p (argument vs ps sizes module_index p b (resolved.expression_of x)) ≡ arguments vs ps sizes module_index p b (resolved.expressions_of es)
many_are vs ps sizes module_index p b [] x h is = absurd (omega (arith, h))
many_are vs ps sizes module_index p b (e ∷ []) x h is = absurd (omega (arith, h))
many_are vs ps sizes module_index p b (e ∷ d ∷ es) x h is =
    ap (λ (y : declared_resolved.Expression). miscounted module_index p (argument vs ps sizes module_index p b (resolved.expression_of y))) is

-- ---- targets

pub assigned : (ts : List Target) (e : rest.Expression) (first : Target) (others : List Target) → (length ts ≡ 0 → ⊥) → first ≡ get_or ts 0 first → others ≡ take 0 ts ++ drop 1 ts
    → rest.Assign (view.targets_of (view.target_of first) others) e ≡ assignment (map view.target_of ts) e
assigned [] e first others h f r = absurd (h refl)
assigned (t ∷ ts) e first others h f r =
    (λ j. rest.Assign (view.targets_of (view.target_of (f j)) (r j)) e) ∙ ap (λ (x : rest.Targets). rest.Assign x e) (targets_are t ts)

pub mapped_more : {A B : Type 0} → (f : A → B) (xs : List A) (x : A) (others : List B) → map f (xs ++ x ∷ []) ++ others ≡ map f xs ++ f x ∷ others
mapped_more f [] x others = refl
mapped_more f (y ∷ ys) x others = ap (λ l. f y ∷ l) (mapped_more f ys x others)

-- all that is said so far, before what is said of others
abbrev pub mapped_before : {A B : Type 0} → (A → B) → List A → List Found → Noted (List B) → Noted (List B)
mapped_before f xs noted others = record { tree = map f xs ++ others.tree; faults = noted ++ others.faults }

-- one more is said
pub mapped_next : {A B : Type 0} → (f : A → B) (xs ys : List A) (x : A) (old new : List Found) (first : Noted B) (others : Noted (List B)) → ys ≡ xs ++ x ∷ [] → noted (f x) new ≡ noted_after old first
    → mapped_before f ys new others ≡ mapped_before f xs old (record { tree = first.tree ∷ others.tree; faults = first.faults ++ others.faults })
mapped_next f xs ys x old new first others more did =
    let tree = ap (λ l. map f l ++ others.tree) more ∙ mapped_more f xs x others.tree ∙ (λ j. map f xs ++ (did j).tree ∷ others.tree) in
    let faults = (λ j. (did j).faults ++ others.faults) ∙ append_assoc old first.faults others.faults in
    λ j. noted (tree j) (faults j)

pub mapped_all : {A B : Type 0} → (f : A → B) (xs : List A) (faults : List Found) → noted (map f xs) faults ≡ mapped_before f xs faults (noted [] [])
mapped_all f xs faults = λ j. noted (sym (append-nil (map f xs)) j) (sym (append-nil faults) j)

pub targets_pushed : (ts : List Target) (t : Target) (others : List rest.Target) → map view.target_of (ts ++ t ∷ []) ++ others ≡ map view.target_of ts ++ view.target_of t ∷ others
targets_pushed [] t others = refl
targets_pushed (u ∷ us) t others = ap (λ (l : List rest.Target). view.target_of u ∷ l) (targets_pushed us t others)

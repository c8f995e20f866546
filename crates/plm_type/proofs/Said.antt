-- What the code says of a construct's parts, after faults that are noted already, makes what it says of the construct.
use Rattle.std.proofs.Common.{◌≡◌, ℕ, ◌∷◌, ◌++◌, [], List, Option, Some, None, Result, Ok, IfOk, OnOk, append_assoc, refl, subst, sym, ap, ◌∙◌}
use Rattle.std.specs.Global.{Box}
use Rattle.word86.specs.declared.number.Number.TheVariants.{E401}
use Rattle.plm_syntax.specs.declared.tree.Position.{Position}
use Rattle.plm_syntax.specs.declared.tree.BinaryOperator.{BinaryOperator}
use Rattle.plm_decl.specs.declared.found.Found.{Found}
use Rattle.plm_decl.specs.declared.layout.ScalarType.{ScalarType}
use Rattle.plm_decl.specs.declared.layout.ScalarType.TheVariants as scalar
use Rattle.plm_type.specs.Rest as rest
use Rattle.plm_type.specs.declared.typer.Typed as declared
use Rattle.plm_type.specs.declared.references.TypedTarget as declared_target
use Rattle.plm_type.specs.declared.steps.Step as declared_step
use Rattle.plm_type.specs.Types as scalars
use Rattle.plm_type.specs.declared.numbers.Numbers.{Numbers}
use Rattle.plm_type.specs.Numbers.{both_numbers}
use Rattle.plm_type.specs.Faults.{fault_unless}
use Rattle.plm_type.specs.Typer.{Typed, TypedTarget, TypedList, TypedStep, Parts, Noted}
use Rattle.plm_type.specs.Expressions as spec
use Rattle.plm_type.specs.Statements.{wanted_among}
use Rattle.plm_type.specs.Inner.Typer.{said, target_said, step_said, noted, noted_after, after, target_after, list_after, parts_after}

-- what is said of an answer, said in other words
pub typed_moved : {E : Type 0} (r : Result declared.Typed E) (noted : List Found) {x y : Typed} → x ≡ y → IfOk r (λ e. said e noted ≡ x) → IfOk r (λ e. said e noted ≡ y)
typed_moved r noted is h = subst (λ (z : Typed). IfOk r (λ e. said e noted ≡ z)) is h

pub target_moved : {E : Type 0} (r : Result declared_target.TypedTarget E) (noted : List Found) {x y : TypedTarget} → x ≡ y → IfOk r (λ t. target_said t noted ≡ x) → IfOk r (λ t. target_said t noted ≡ y)
target_moved r noted is h = subst (λ (z : TypedTarget). IfOk r (λ t. target_said t noted ≡ z)) is h

pub noted_moved : {A T E : Type 0} (view : A → T) (r : Result A E) (faults : List Found) {x y : Noted T} → x ≡ y → IfOk r (λ a. noted (view a) faults ≡ x) → IfOk r (λ a. noted (view a) faults ≡ y)
noted_moved view r faults is h = subst (λ z. IfOk r (λ a. noted (view a) faults ≡ z)) is h

pub done_moved : {A E : Type 0} (r : Result A E) (x : List Found) {y z : List Found} → y ≡ z → OnOk r (x ≡ y) → OnOk r (x ≡ z)
done_moved r x is h = subst (λ (l : List Found). OnOk r (x ≡ l)) is h

-- ---- a result that was an answer

pub typed_at : {E : Type 0} {r : Result declared.Typed E} {e : declared.Typed} (noted : List Found) {x : Typed} → r ≡ Ok e → IfOk r (λ d. said d noted ≡ x) → said e noted ≡ x
typed_at noted {x = x} is h = subst (λ z. IfOk z (λ d. said d noted ≡ x)) is h

pub noted_at : {A T E : Type 0} (view : A → T) {r : Result A E} {a : A} (faults : List Found) {x : Noted T} → r ≡ Ok a → IfOk r (λ b. noted (view b) faults ≡ x) → noted (view a) faults ≡ x
noted_at view faults {x = x} is h = subst (λ z. IfOk z (λ b. noted (view b) faults ≡ x)) is h

pub step_at : {E : Type 0} {r : Result declared_step.Step E} {s : declared_step.Step} (noted : List Found) {x : TypedStep} → r ≡ Ok s → IfOk r (λ t. step_said t noted ≡ x) → step_said s noted ≡ x
step_at noted {x = x} is h = subst (λ z. IfOk z (λ t. step_said t noted ≡ x)) is h

pub boxed_at : {A E : Type 0} {r : Result (Box A) E} {b : Box A} {x : A} → r ≡ Ok b → IfOk r (λ c. c.value ≡ x) → b.value ≡ x
boxed_at {x = x} is h = subst (λ z. IfOk z (λ c. c.value ≡ x)) is h

pub at_ok : {A E : Type 0} (P : A → Type 0) {r : Result A E} {a : A} → r ≡ Ok a → IfOk r P → P a
at_ok P is h = subst (λ z. IfOk z P) is h

pub done_at : {E A : Type 0} {r : Result A E} {a : A} {P : Type 0} → r ≡ Ok a → OnOk r P → P
done_at {P = P} is h = subst (λ z. OnOk z P) is h

-- ---- what is said of a value

abbrev pub typed_with : Typed → List Found → Typed
typed_with e noted = record { tree = e.tree; scalar = e.scalar; numbers = e.numbers; faults = noted }

abbrev pub target_with : TypedTarget → List Found → TypedTarget
target_with x noted = record { tree = x.tree; scalar = x.scalar; faults = noted }

-- a construct's own faults stand after those of its part
pub own_after : (e : Typed) (old a b : List Found) → typed_with e ((old ++ a) ++ b) ≡ typed_with e (old ++ (a ++ b))
own_after e old a b = ap (typed_with e) (append_assoc old a b)

pub target_own_after : (x : TypedTarget) (old a b : List Found) → target_with x ((old ++ a) ++ b) ≡ target_with x (old ++ (a ++ b))
target_own_after x old a b = ap (target_with x) (append_assoc old a b)

-- ---- two parts, of which the second's faults are noted after the first's

pub embedded_said : (m : ℕ) (p : Position) (old : List Found) (x y : TypedTarget) (e d : Typed) → y ≡ target_after old x → d ≡ after y.faults e
    → spec.embedded m p (target_with y d.faults) (typed_with d []) ≡ after old (spec.embedded m p x e)
embedded_said m p old x y e d h g =
    let both = g ∙ ap (λ (z : TypedTarget). after z.faults e) h in
    let turned = spec.as_wanted m x.scalar e in
    let own = fault_unless m (scalars.takes x.scalar turned.scalar) E401 p in
    (λ j. spec.embedded m p (target_with (h j) (both j).faults) (typed_with (both j) []))
    ∙ ap (typed_with (spec.embedded m p x e)) (append_assoc (old ++ x.faults) e.faults (turned.faults ++ own) ∙ append_assoc old x.faults (e.faults ++ (turned.faults ++ own))
    ∙ ap (λ (l : List Found). old ++ (x.faults ++ l)) (sym (append_assoc e.faults turned.faults own)))

pub joined_said : (m : ℕ) (p : Position) (o : BinaryOperator) (first : Position) (left b d : Typed) → d ≡ after left.faults b
    → spec.binary m p o first (typed_with left d.faults) (typed_with d []) ≡ spec.binary m p o first left b
joined_said m p o first left b d h =
    let x = spec.as_wanted m (spec.wanted_beside o b.scalar) left in
    let y = spec.as_wanted m (spec.wanted_beside o left.scalar) b in
    let own = x.faults ++ (y.faults ++ fault_unless m (scalars.operands_fit o x.scalar y.scalar) E401 first) in
    (λ j. spec.binary m p o first (typed_with left (h j).faults) (typed_with (h j) []))
    ∙ ap (typed_with (spec.binary m p o first left b)) (append_assoc left.faults b.faults own)

pub joined_after : (m : ℕ) (p : Position) (o : BinaryOperator) (first : Position) (old : List Found) (a b : Typed)
    → spec.binary m p o first (after old a) b ≡ after old (spec.binary m p o first a b)
joined_after m p o first old a b = own_after (spec.binary m p o first a b) old a.faults _

abbrev quiet : TypedList → TypedList
quiet es = record { trees = es.trees; types = es.types; faults = [] }

abbrev pub parts_with : TypedList → TypedList → List Found → Parts
parts_with es us noted = spec.parts (quiet es) (record { trees = us.trees; types = us.types; faults = noted })

pub parts_made : (old : List Found) (a b y d : TypedList) → y ≡ list_after old a → d ≡ list_after y.faults b → parts_with y d d.faults ≡ parts_after old (spec.parts a b)
parts_made old a b y d h g =
    let both = g ∙ ap (λ (z : TypedList). list_after z.faults b) h in
    (λ j. parts_with (h j) (both j) (both j).faults) ∙ ap (parts_with a b) (append_assoc old a.faults b.faults)

-- ---- what has no type

-- a construct's own faults stand after those of its part
pub noted_own_after : {A : Type 0} (tree : A) (old a b : List Found) → noted tree ((old ++ a) ++ b) ≡ noted tree (old ++ (a ++ b))
noted_own_after tree old a b = ap (noted tree) (append_assoc old a b)

-- ---- operands beside each other

-- an operand as it is wanted, and then the other: their faults stand in this order
pub binary_said : (m : ℕ) (p : Position) (o : BinaryOperator) (first : Position) (numbers : Numbers) (a b l r : Typed)
    → numbers ≡ both_numbers o a.numbers b.numbers → l ≡ spec.wanted m (spec.wanted_beside o b.scalar) a → r ≡ spec.wanted m (spec.wanted_beside o a.scalar) (typed_with b l.faults)
    → spec.operated_on m p o first numbers (typed_with l r.faults) (typed_with r []) ≡ spec.binary m p o first a (typed_with b [])
binary_said m p o first numbers a b l r is f g =
    let x = spec.as_wanted m (spec.wanted_beside o b.scalar) a in
    let y = spec.as_wanted m (spec.wanted_beside o a.scalar) b in
    let own = fault_unless m (scalars.operands_fit o x.scalar y.scalar) E401 first in
    let all = ap (λ (z : Typed). spec.wanted m (spec.wanted_beside o a.scalar) (typed_with b z.faults)) f in
    let whole = g ∙ all in
    (λ j. spec.operated_on m p o first (is j) (typed_with (f j) (whole j).faults) (typed_with (whole j) []))
    ∙ ap (typed_with (spec.binary m p o first a (typed_with b []))) (append_assoc (a.faults ++ x.faults) y.faults own ∙ append_assoc a.faults x.faults (y.faults ++ own))

-- ---- where a value of a type is wanted

pub embedded_wanted : (m : ℕ) (p : Position) (x : TypedTarget) (e v : Typed) → v ≡ spec.wanted m x.scalar (typed_with e x.faults)
    → spec.assigned m p (target_with x v.faults) (typed_with v []) ≡ spec.embedded m p x (typed_with e [])
embedded_wanted m p x e v g =
    let turned = spec.as_wanted m x.scalar e in
    let own = fault_unless m (scalars.takes x.scalar turned.scalar) E401 p in
    (λ j. spec.assigned m p (target_with x (g j).faults) (typed_with (g j) []))
    ∙ ap (typed_with (spec.embedded m p x (typed_with e []))) (append_assoc x.faults turned.faults own)

-- after faults that are noted already
pub wanted_after : (m : ℕ) (t : Option ScalarType) (old : List Found) (e d v : Typed) → d ≡ after old e → v ≡ spec.wanted m t d → v ≡ after old (spec.wanted m t e)
wanted_after m t old e d v h g =
    g ∙ ap (spec.wanted m t) h ∙ ap (typed_with (spec.wanted m t e)) (append_assoc old e.faults (spec.as_wanted m t e).faults)

-- beside one target alone
pub wanted_alone : (m : ℕ) (t : Option ScalarType) (e : Typed) → spec.wanted m t e ≡ spec.wanted m (wanted_among (t ∷ [])) e
wanted_alone m None e = refl
wanted_alone m (Some scalar.Byte) e = refl
wanted_alone m (Some scalar.Word) e = refl
wanted_alone m (Some scalar.Pointer) e = refl
wanted_alone m (Some scalar.Integer) e = refl

-- its tree, with one more fault by its type
abbrev pub judged : {A : Type 0} → (rest.Expression → A) → (Option ScalarType → List Found) → Typed → Noted A
judged make own v = record { tree = make v.tree; faults = v.faults ++ own v.scalar }

pub judged_after : {A : Type 0} (make : rest.Expression → A) (own : Option ScalarType → List Found) (old : List Found) (v w : Typed) → v ≡ after old w
    → judged make own v ≡ noted_after old (judged make own w)
judged_after make own old v w h = ap (judged make own) h ∙ ap (noted (make w.tree)) (append_assoc old w.faults (own w.scalar))

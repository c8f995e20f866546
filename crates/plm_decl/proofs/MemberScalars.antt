-- Where a structure's members begin, in scalars.
use Rattle.std.proofs.Common.{◌≡◌, ℕ, ◌+◌, ◌-◌, ◌<◌, ◌≤◌, List, [], ◌∷◌, ◌++◌, Bool, true, false, cond, Option, Some, None, map, nat_lt, arith, refl, sym, subst, ap, ◌∙◌}
use Rattle.std.specs.Prelude.{slice_get}
use Rattle.std.proofs.lemmas.Bool.Decides.{nat_tests}
use Rattle.plm_decl.specs.declared.layout.Field.{Field}
use Rattle.plm_decl.specs.Layout.{FieldR, field_of, counted, elements, scalar_in}
use Rattle.plm_decl.specs.Inner.Structure.{scalars_of, scalars_with, scalars_before, scalars_after, begins_by}

abbrev first_of : List ℕ → ℕ
first_of [] = 0
first_of (n ∷ ns) = n

abbrev rest_of : List ℕ → List ℕ
rest_of [] = []
rest_of (n ∷ ns) = ns

are_elements : (d : Option ℕ) → scalars_of d ≡ elements d
are_elements None = refl
are_elements (Some n) = refl

pub with_elements : (f : Field) (n : ℕ) → scalars_with f n ≡ counted (n + elements f.member.dimension)
with_elements f n = ap (λ (m : ℕ). counted (n + m)) (are_elements f.member.dimension)

-- ---- one member more

before_pushed : (n : ℕ) (fs : List Field) (f : Field) → scalars_before n (fs ++ f ∷ []) ≡ scalars_before n fs ++ scalars_after n fs ∷ []
before_pushed n [] f = refl
before_pushed n (g ∷ fs) f = ap (λ (ns : List ℕ). n ∷ ns) (before_pushed (scalars_with g n) fs f)

after_pushed : (n : ℕ) (fs : List Field) (f : Field) → scalars_after n (fs ++ f ∷ []) ≡ scalars_with f (scalars_after n fs)
after_pushed n [] f = refl
after_pushed n (g ∷ fs) f = after_pushed (scalars_with g n) fs f

begin_pushed : (fs : List Field) (f : Field) → map (λ (f : Field). f.scalars_before) (fs ++ f ∷ []) ≡ map (λ (f : Field). f.scalars_before) fs ++ f.scalars_before ∷ []
begin_pushed [] f = refl
begin_pushed (g ∷ fs) f = ap (λ (ns : List ℕ). g.scalars_before ∷ ns) (begin_pushed fs f)

-- a member that begins where the others end is counted as they are
pub counts_more : (fs more : List Field) (f : Field) → map (λ (f : Field). f.scalars_before) fs ≡ scalars_before 0 fs → f.scalars_before ≡ scalars_after 0 fs → more ≡ fs ++ f ∷ []
    → map (λ (f : Field). f.scalars_before) more ≡ scalars_before 0 more
counts_more fs more f h e grown =
    ap (map (λ (f : Field). f.scalars_before)) grown
    ∙ begin_pushed fs f
    ∙ (λ j. h j ++ e j ∷ [])
    ∙ sym (before_pushed 0 fs f)
    ∙ ap (scalars_before 0) (sym grown)

pub sums_more : (fs more : List Field) (f : Field) (n : ℕ) → n ≡ scalars_after 0 fs → more ≡ fs ++ f ∷ [] → counted (n + elements f.member.dimension) ≡ scalars_after 0 more
sums_more fs more f n e grown = sym (with_elements f n) ∙ ap (scalars_with f) e ∙ sym (after_pushed 0 fs f) ∙ ap (scalars_after 0) (sym grown)

-- ---- from a member on

-- none begins before those that stand before it end
at_least : (gs fs : List Field) (f : Field) (n : ℕ) → n ≤ 18446744073709551615 → map (λ (f : Field). f.scalars_before) (gs ++ f ∷ fs) ≡ scalars_before n (gs ++ f ∷ fs) → n ≤ f.scalars_before
at_least [] fs f n small h = let e : f.scalars_before ≡ n = ap first_of h in omega (arith, e)
at_least (g ∷ gs) fs f n small h =
    let m = scalars_with g n in
    let up : n ≤ m = grind arith in
    let top : m ≤ 18446744073709551615 = grind arith in
    let rest = at_least gs fs f m top (ap rest_of h) in
    omega (arith, up, rest)

behind : (f : FieldR) (fs : List FieldR) (p : ℕ) → elements f.member.dimension ≤ p → scalar_in (f ∷ fs) p ≡ scalar_in fs (p - elements f.member.dimension)
behind f fs p h = chosen (nat_lt p (elements f.member.dimension)) (grind (arith, nat_tests))
  where
    chosen : (b : Bool) → b ≡ false → cond b f.member.scalar (scalar_in fs (p - elements f.member.dimension)) ≡ scalar_in fs (p - elements f.member.dimension)
    chosen true e = cc
    chosen false e = refl

pub uncounted : (n : ℕ) → counted n < 18446744073709551615 → counted n ≡ n
uncounted n h = grind arith

from_member : (gs fs : List Field) (f : Field) (n p : ℕ) → n ≤ 18446744073709551615 → map (λ (f : Field). f.scalars_before) (gs ++ f ∷ fs) ≡ scalars_before n (gs ++ f ∷ fs)
    → f.scalars_before ≤ p → f.scalars_before < 18446744073709551615
    → scalar_in (map field_of (f ∷ fs)) (p - f.scalars_before) ≡ scalar_in (map field_of (gs ++ f ∷ fs)) (p - n)
from_member [] fs f n p small h here short = ap (λ (m : ℕ). scalar_in (map field_of (f ∷ fs)) (p - m)) (ap first_of h)
from_member (g ∷ gs) fs f n p small h here short =
    let size = elements g.member.dimension in
    let m = scalars_with g n in
    let top : m ≤ 18446744073709551615 = grind arith in
    let begins : m ≤ f.scalars_before = at_least gs fs f m top (ap rest_of h) in
    let below : m < 18446744073709551615 = omega (arith, begins, short) in
    let whole : m ≡ n + size = with_elements g n ∙ uncounted (n + size) (subst (λ (x : ℕ). x < 18446744073709551615) (with_elements g n) below) in
    let room : size ≤ p - n = omega (arith, begins, whole, here) in
    let left : p - m ≡ p - n - size = omega (arith, whole) in
    from_member gs fs f m p top (ap rest_of h) here short
    ∙ ap (scalar_in (map field_of (gs ++ f ∷ fs))) left
    ∙ sym (behind (field_of g) (map field_of (gs ++ f ∷ fs)) (p - n) room)

leads : (p : ℕ) (gs fs all : List Field) (f : Field) → gs ++ f ∷ fs ≡ all → map (λ (f : Field). f.scalars_before) all ≡ scalars_before 0 all → begins_by f p ≡ true
    → scalar_in (map field_of (f ∷ fs)) (p - f.scalars_before) ≡ scalar_in (map field_of all) p
leads p gs fs all f e h begins =
    let here : f.scalars_before ≤ p = grind (arith, nat_tests) in
    let short : f.scalars_before < 18446744073709551615 = grind (arith, nat_tests) in
    let whole : p - 0 ≡ p = omega arith in
    from_member gs fs f 0 p (omega arith) (ap (map (λ (f : Field). f.scalars_before)) e ∙ h ∙ ap (scalars_before 0) (sym e)) here short
    ∙ ap (scalar_in (map field_of (gs ++ f ∷ fs))) whole
    ∙ ap (λ (l : List Field). scalar_in (map field_of l) p) e

-- the members from the first of these on have the scalar as far after it as it begins before
pub leads_from : (p : ℕ) (gs back all : List Field) (f : Field) → gs ++ back ≡ all → slice_get back 0 ≡ Some f → map (λ (f : Field). f.scalars_before) all ≡ scalars_before 0 all → begins_by f p ≡ true
    → scalar_in (map field_of back) (p - f.scalars_before) ≡ scalar_in (map field_of all) p
leads_from p gs [] all f e some h begins = cc
leads_from p gs (g ∷ fs) all f e some h begins =
    let same : g ≡ f = some_is g f some in
    subst (λ (x : Field). scalar_in (map field_of (g ∷ fs)) (p - x.scalars_before) ≡ scalar_in (map field_of all) p) same
    (leads p gs fs all g e h (ap (λ (x : Field). begins_by x p) same ∙ begins))
  where
    value : Field → Option Field → Field
    value d None = d
    value d (Some x) = x

    some_is : (g f : Field) → Some g ≡ Some f → g ≡ f
    some_is g f e = ap (value g) e

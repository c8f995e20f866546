-- The first of the least is the least.
use Rattle.std.proofs.Common.{◌≡◌, ℕ, List, IfNone, IfSome, sym, [], ◌∷◌, Bool, true, false, cond, nat_eq, nat_lt, Option, Some, None, ◌⊎◌, inl, inr, refl, subst, arith, Contains}
use Rattle.std.specs.List.{AllByRecursion}
use Rattle.std.proofs.lemmas.List.Elements.{All-from_recursion, Contains-append_right}
use Rattle.std.proofs.lemmas.Bool.Decides.{nat_tests}
use Rattle.plm_decl.specs.declared.found.Found.{Found}
use Rattle.word86.specs.FaultCode.{code_of}
use Rattle.plm_decl.specs.Found.{precedes, IsLeast}
use Rattle.plm_decl.specs.Least.{sooner, least}

-- by one number, then by a test
later_trans : (a b c : ℕ) (p q r : Bool) → (p ≡ false → q ≡ false → r ≡ false)
    → cond (nat_eq b a) p (nat_lt b a) ≡ false → cond (nat_eq c b) q (nat_lt c b) ≡ false → cond (nat_eq c a) r (nat_lt c a) ≡ false
later_trans a b c false false r h e f = let s = h refl refl in grind (arith, nat_tests)
later_trans a b c false true r h e f = grind (arith, nat_tests)
later_trans a b c true q r h e f = grind (arith, nat_tests)

not_both : (a b : ℕ) (p q : Bool) → (p ≡ true → q ≡ false) → cond (nat_eq a b) p (nat_lt a b) ≡ true → cond (nat_eq b a) q (nat_lt b a) ≡ false
not_both a b true q h e = let s = h refl in grind (arith, nat_tests)
not_both a b false q h e = grind (arith, nat_tests)

less_trans : (a b c : ℕ) → nat_lt b a ≡ false → nat_lt c b ≡ false → nat_lt c a ≡ false
less_trans a b c e f = grind (arith, nat_tests)

not_both_less : (a b : ℕ) → nat_lt a b ≡ true → nat_lt b a ≡ false
not_both_less a b e = grind (arith, nat_tests)

-- f is no later than each
abbrev pub FirstOf : Found → Option Found → Type 0
FirstOf f None = Unit {0}
FirstOf f (Some g) = precedes g f ≡ false

pub le_trans : (f g h : Found) → precedes g f ≡ false → precedes h g ≡ false → precedes h f ≡ false
le_trans f g h p q =
    later_trans f.module g.module h.module _ _ _
    (later_trans f.place.token g.place.token h.place.token _ _ _ (less_trans (code_of f.number) (code_of g.number) (code_of h.number))) p q

pub le_from_lt : (f g : Found) → precedes f g ≡ true → precedes g f ≡ false
le_from_lt f g p =
    not_both f.module g.module _ _
    (not_both f.place.token g.place.token _ _ (not_both_less (code_of f.number) (code_of g.number))) p

pub record Leading (o : Option Found) (fs : List Found) (f : Found) : Type 0 where
  pub first : FirstOf f o
  pub all : AllByRecursion (λ g. precedes g f ≡ false) fs
  pub among : (o ≡ Some f) ⊎ Contains fs f

here : (x f : Found) (fs : List Found) → x ≡ f → Contains (x ∷ fs) f
here x f fs e = (0, omega arith, e)

further : (x f : Found) (fs : List Found) → Contains fs f → Contains (x ∷ fs) f
further x f fs c = Contains-append_right (x ∷ []) fs f c

irreflexive : (f : Found) → precedes f f ≡ false
irreflexive f = same f.module f.place.token (code_of f.number)
  where
    same : (a t m : ℕ) → cond (nat_eq a a) (cond (nat_eq t t) (nat_lt m m) (nat_lt t t)) (nat_lt a a) ≡ false
    same a t m = grind (arith, nat_tests)

chosen : (b : Bool) (g x f : Found) (fs : List Found) → precedes x g ≡ b → Leading (cond b (Some x) (Some g)) fs f → Leading (Some g) (x ∷ fs) f
chosen true g x f fs e s = record {
  first = le_trans f x g s.first (le_from_lt x g e);
  all = (s.first, s.all);
  among = elim s.among [ inl p ↦ inr (here x f fs (cc)) | inr c ↦ inr (further x f fs c) ];
}
chosen false g x f fs e s = record {
  first = s.first;
  all = (le_trans f g x s.first e, s.all);
  among = elim s.among [ inl p ↦ inl p | inr c ↦ inr (further x f fs c) ];
}

some_is : (f g : Found) → Some g ≡ Some f → f ≡ g
some_is f g e = cc

pub leading_is : (o : Option Found) (fs : List Found) (f : Found) → least o fs ≡ Some f → Leading o fs f
leading_is None [] f e = cc
leading_is (Some g) [] f e = record { first = subst (λ x. precedes x f ≡ false) (some_is f g e) (irreflexive f); all = tt; among = inl e }
leading_is None (x ∷ fs) f e =
    let s = leading_is (Some x) fs f e in
    record { first = tt; all = (s.first, s.all); among = elim s.among [ inl p ↦ inr (here x f fs (cc)) | inr c ↦ inr (further x f fs c) ] }
leading_is (Some g) (x ∷ fs) f e = chosen (precedes x g) g x f fs refl (leading_is (sooner (Some g) x) fs f e)

never : (fs : List Found) (g : Found) → least (Some g) fs ≡ None → ⊥
never [] g e = cc
never (x ∷ fs) g e = by (precedes x g) (never fs) e
  where
    by : (b : Bool) → ((h : Found) → least (Some h) fs ≡ None → ⊥) → least (cond b (Some x) (Some g)) fs ≡ None → ⊥
    by true rest h = rest x h
    by false rest h = rest g h

pub none_is : (fs : List Found) → least None fs ≡ None → fs ≡ []
none_is [] e = refl
none_is (x ∷ fs) e = absurd (never fs x e)

pub least_found : (fs : List Found) (f : Found) → least None fs ≡ Some f → IsLeast fs f
least_found fs f e =
    let s = leading_is None fs f e in
    (elim s.among [ inl p ↦ absurd (cc) | inr c ↦ c ], All-from_recursion (λ g. precedes g f ≡ false) fs s.all)

-- the same of what a search answers
pub if_found : (fs : List Found) (o : Option Found) → o ≡ least None fs → IfSome o (λ f. IsLeast fs f)
if_found fs None e = tt
if_found fs (Some f) e = least_found fs f (sym e)

pub if_none : (fs : List Found) (o : Option Found) → o ≡ least None fs → IfNone o (fs ≡ [])
if_none fs None e = none_is fs (sym e)
if_none fs (Some f) e = tt

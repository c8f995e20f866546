-- Each declaration has a number of its own: no EXTERNAL name has that of another one or of a PUBLIC one.
use Rattle.std.proofs.Common.{◌≡◌, ℕ, ◌<◌, ◌≤◌, List, [], ◌∷◌, ◌++◌, length, Bool, true, false, cond, Option, Some, None, is_some, arith, sym, subst}
use Rattle.plm_decl.specs.declared.names.Item.{Item}
use Rattle.plm_decl.specs.declared.names.Item.TheVariants as item
use Rattle.plm_decl.specs.Scope.{Entries, found_in}
use Rattle.plm_decl.specs.Resolver.{Known, ExternalR}
use Rattle.plm_decl.specs.Linkage.{with_public, with_external}

abbrev pub IsNoneOf : Item → List ExternalR → Type 0
IsNoneOf i [] = Unit {0}
IsNoneOf i (e ∷ es) = ¬ (i ≡ e.item) × IsNoneOf i es

abbrev pub IsNotPublic : Item → Entries → Type 0
IsNotPublic i [] = Unit {0}
IsNotPublic i (p ∷ ps) = ¬ (p.1 ≡ i) × IsNotPublic i ps

-- no EXTERNAL declaration is another one's, or a PUBLIC one's
abbrev pub AreApart : List ExternalR → Entries → Type 0
AreApart [] ps = Unit {0}
AreApart (e ∷ es) ps = IsNoneOf e.item es × IsNotPublic e.item ps × AreApart es ps

-- ---- numbers that are given, among so many variables and procedures

abbrev IsGiven : ℕ → ℕ → Item → Type 0
IsGiven vs ps (item.Variable m) = m < vs
IsGiven vs ps (item.Procedure m) = m < ps

abbrev IsNew : ℕ → ℕ → Item → Type 0
IsNew vs ps (item.Variable m) = vs ≤ m
IsNew vs ps (item.Procedure m) = ps ≤ m

abbrev AreGiven : ℕ → ℕ → List ExternalR → Type 0
AreGiven vs ps [] = Unit {0}
AreGiven vs ps (e ∷ es) = IsGiven vs ps e.item × AreGiven vs ps es

abbrev ArePublic : ℕ → ℕ → Entries → Type 0
ArePublic vs ps [] = Unit {0}
ArePublic vs ps (e ∷ es) = IsGiven vs ps e.1 × ArePublic vs ps es

not_both : (vs ps : ℕ) (i : Item) → IsNew vs ps i → IsGiven vs ps i → ⊥
not_both vs ps (item.Variable m) a b = omega (arith, a, b)
not_both vs ps (item.Procedure m) a b = omega (arith, a, b)

given_more : (vs ps ws qs : ℕ) → vs ≤ ws → ps ≤ qs → (i : Item) → IsGiven vs ps i → IsGiven ws qs i
given_more vs ps ws qs a b (item.Variable m) h = omega (arith, a, h)
given_more vs ps ws qs a b (item.Procedure m) h = omega (arith, b, h)

all_more : (vs ps ws qs : ℕ) → vs ≤ ws → ps ≤ qs → (es : List ExternalR) → AreGiven vs ps es → AreGiven ws qs es
all_more vs ps ws qs a b [] h = tt
all_more vs ps ws qs a b (e ∷ es) h = (given_more vs ps ws qs a b e.item h.0, all_more vs ps ws qs a b es h.1)

public_more : (vs ps ws qs : ℕ) → vs ≤ ws → ps ≤ qs → (es : Entries) → ArePublic vs ps es → ArePublic ws qs es
public_more vs ps ws qs a b [] h = tt
public_more vs ps ws qs a b (e ∷ es) h = (given_more vs ps ws qs a b e.1 h.0, public_more vs ps ws qs a b es h.1)

-- what is new is none of those that are given
new_none : (vs ps : ℕ) (i : Item) (es : List ExternalR) → IsNew vs ps i → AreGiven vs ps es → IsNoneOf i es
new_none vs ps i [] n h = tt
new_none vs ps i (e ∷ es) n h = (λ s. not_both vs ps e.item (subst (λ (j : Item). IsNew vs ps j) s n) h.0, new_none vs ps i es n h.1)

new_not_public : (vs ps : ℕ) (i : Item) (es : Entries) → IsNew vs ps i → ArePublic vs ps es → IsNotPublic i es
new_not_public vs ps i [] n h = tt
new_not_public vs ps i (e ∷ es) n h = (λ s. not_both vs ps e.1 (subst (λ (j : Item). IsNew vs ps j) (sym s) n) h.0, new_not_public vs ps i es n h.1)

-- ---- one name more

none_more : (i : Item) (es : List ExternalR) (x : ExternalR) → IsNoneOf i es → ¬ (i ≡ x.item) → IsNoneOf i (es ++ x ∷ [])
none_more i [] x h n = (n, tt)
none_more i (e ∷ es) x h n = (h.0, none_more i es x h.1 n)

external_apart : (es : List ExternalR) (ps : Entries) (x : ExternalR) → IsNoneOf x.item es → IsNotPublic x.item ps → AreApart es ps → AreApart (es ++ x ∷ []) ps
external_apart [] ps x n q h = (tt, q, tt)
external_apart (e ∷ es) ps x n q h = (none_more e.item es x h.0 (λ s. n.0 (sym s)), h.1, external_apart es ps x n.1 q h.2)

external_given : (vs ps : ℕ) (es : List ExternalR) (x : ExternalR) → AreGiven vs ps es → IsGiven vs ps x.item → AreGiven vs ps (es ++ x ∷ [])
external_given vs ps [] x h g = (g, tt)
external_given vs ps (e ∷ es) x h g = (h.0, external_given vs ps es x h.1 g)

not_public_more : (i : Item) (ps : Entries) (p : List ℕ × Item) → IsNotPublic i ps → ¬ (p.1 ≡ i) → IsNotPublic i (ps ++ p ∷ [])
not_public_more i [] p h n = (n, tt)
not_public_more i (q ∷ ps) p h n = (h.0, not_public_more i ps p h.1 n)

public_apart : (es : List ExternalR) (ps : Entries) (p : List ℕ × Item) → IsNoneOf p.1 es → AreApart es ps → AreApart es (ps ++ p ∷ [])
public_apart [] ps p n h = tt
public_apart (e ∷ es) ps p n h = (h.0, not_public_more e.item ps p h.1 n.0, public_apart es ps p n.1 h.2)

public_given : (vs ps : ℕ) (es : Entries) (p : List ℕ × Item) → ArePublic vs ps es → IsGiven vs ps p.1 → ArePublic vs ps (es ++ p ∷ [])
public_given vs ps [] p h g = (g, tt)
public_given vs ps (e ∷ es) p h g = (h.0, public_given vs ps es p h.1 g)

-- ---- what is known

pub record AreNumbered (k : Known) : Type 0 where
  pub apart : AreApart k.externals k.publics
  pub externals : AreGiven (length k.variables) (length k.procedures) k.externals
  pub publics : ArePublic (length k.variables) (length k.procedures) k.publics

-- a declaration that has its number and is neither EXTERNAL nor PUBLIC yet
pub record IsUnlinked (i : Item) (k : Known) : Type 0 where
  pub given : IsGiven (length k.variables) (length k.procedures) i
  pub external : IsNoneOf i k.externals
  pub public : IsNotPublic i k.publics

-- declarations more, or none, and the same EXTERNAL and PUBLIC names
pub record Grows (k q : Known) : Type 0 where
  pub variables : length k.variables ≤ length q.variables
  pub procedures : length k.procedures ≤ length q.procedures
  pub externals : q.externals ≡ k.externals
  pub publics : q.publics ≡ k.publics

pub grown : {k q : Known} → Grows k q → AreNumbered k → AreNumbered q
grown {k} {q} g n = record {
  apart = subst (λ (es : List ExternalR). AreApart es q.publics) (sym g.externals) (subst (λ (ps : Entries). AreApart k.externals ps) (sym g.publics) n.apart);
  externals = subst (λ (es : List ExternalR). AreGiven (length q.variables) (length q.procedures) es) (sym g.externals)
      (all_more (length k.variables) (length k.procedures) (length q.variables) (length q.procedures) g.variables g.procedures k.externals n.externals);
  publics = subst (λ (ps : Entries). ArePublic (length q.variables) (length q.procedures) ps) (sym g.publics)
      (public_more (length k.variables) (length k.procedures) (length q.variables) (length q.procedures) g.variables g.procedures k.publics n.publics);
}

unlinked : {k q : Known} (i : Item) → Grows k q → AreNumbered k → IsNew (length k.variables) (length k.procedures) i → IsGiven (length q.variables) (length q.procedures) i → IsUnlinked i q
unlinked {k} {q} i g n new given = record {
  given = given;
  external = subst (λ (es : List ExternalR). IsNoneOf i es) (sym g.externals) (new_none (length k.variables) (length k.procedures) i k.externals new n.externals);
  public = subst (λ (ps : Entries). IsNotPublic i ps) (sym g.publics) (new_not_public (length k.variables) (length k.procedures) i k.publics new n.publics);
}

-- the next variable's number, and the next procedure's
pub variable_unlinked : {k q : Known} (i : Item) → i ≡ item.Variable (length k.variables) → length k.variables < length q.variables → Grows k q → AreNumbered k → IsUnlinked i q
variable_unlinked {k} {q} i is more g n =
    unlinked i g n (subst (λ (j : Item). IsNew (length k.variables) (length k.procedures) j) (sym is) (omega arith))
    (subst (λ (j : Item). IsGiven (length q.variables) (length q.procedures) j) (sym is) more)

pub procedure_unlinked : {k q : Known} (i : Item) → i ≡ item.Procedure (length k.procedures) → length k.procedures < length q.procedures → Grows k q → AreNumbered k → IsUnlinked i q
procedure_unlinked {k} {q} i is more g n =
    unlinked i g n (subst (λ (j : Item). IsNew (length k.variables) (length k.procedures) j) (sym is) (omega arith))
    (subst (λ (j : Item). IsGiven (length q.variables) (length q.procedures) j) (sym is) more)

-- ---- linkage

entry_numbered : (b : Bool) (p : List ℕ × Item) (k : Known) → AreNumbered k → IsUnlinked p.1 k → AreNumbered (record k { publics = cond b k.publics (k.publics ++ p ∷ []) })
entry_numbered true p k n u = record { apart = n.apart; externals = n.externals; publics = n.publics }
entry_numbered false p k n u = record {
  apart = public_apart k.externals k.publics p u.external n.apart;
  externals = n.externals;
  publics = public_given (length k.variables) (length k.procedures) k.publics p n.publics u.given;
}

pub public_numbered : (name : List ℕ) (i : Item) (o : Option Item) (k : Known) → AreNumbered k → IsUnlinked i k → AreNumbered (with_public name i o k)
public_numbered name i None k n u = entry_numbered (is_some (found_in name k.publics)) (name, i) k n u
public_numbered name i (Some first) k n u = record { apart = n.apart; externals = n.externals; publics = n.publics }

pub external_numbered : (name : List ℕ) (i : Item) (k : Known) → AreNumbered k → IsUnlinked i k → AreNumbered (with_external name i k)
external_numbered name i k n u =
    let x : ExternalR = record { name = name; item = i } in
    record {
      apart = external_apart k.externals k.publics x u.external u.public n.apart;
      externals = external_given (length k.variables) (length k.procedures) k.externals x n.externals u.given;
      publics = n.publics;
    }

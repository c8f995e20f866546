-- Joined modules: what the EXTERNAL names stand for.
use Rattle.std.proofs.Common.{◌≡◌, ℕ, zero, suc, List, [], ◌∷◌, map, length, Bool, true, false, cond, Option, Some, None, nat_eq, refl, sym, ap, subst, ◌∙◌}
use Rattle.std.specs.Prelude.{slice_get, slice_set, bytes_eq, option_map}
use Rattle.plm_syntax.specs.Tree.{ModuleT}
use Rattle.word86.specs.declared.number.Number.TheVariants.{E308, E310}
use Rattle.plm_decl.specs.declared.names.Variable.{Variable}
use Rattle.plm_decl.specs.declared.names.Item.{Item}
use Rattle.plm_decl.specs.declared.names.Item.TheVariants as item
use Rattle.plm_decl.specs.declared.names.Names.{Names}
use Rattle.plm_decl.specs.declared.found.Found.{Found}
use Rattle.plm_decl.specs.Names.{ProcedureR, procedure_of}
use Rattle.plm_decl.specs.Scope.{Entries, found_in}
use Rattle.plm_decl.specs.Resolver.{Known, ExternalR, note_whole}
use Rattle.plm_decl.specs.Linkage.{start}
use Rattle.plm_decl.specs.Joins.{same_type, same_procedure, agree, with_region, with_entry_at, region_joined, entry_joined, joined, unjoined, external_joined, externals_joined, have_room, program_fault, known_from}
use Rattle.plm_decl.specs.Modules.{AreNames}
use Rattle.plm_decl.specs.JoinedNames.{region_at, run_by, IsJoined, AreJoined}
use Rattle.plm_decl.proofs.OwnNumbers.{IsNoneOf, IsNotPublic, AreApart}
use Rattle.plm_decl.proofs.Joined.{fault_before}
use Rattle.plm_decl.proofs.Kept.{not_nil}
use Rattle.plm_decl.proofs.OwnNames.{externals_are_apart, fault_variables}

set_here : {X : Type 0} → (xs : List X) (i : ℕ) (x y : X) → slice_get xs i ≡ Some x → slice_get (slice_set xs i y) i ≡ Some y
set_here [] i x y e = cc
set_here (o ∷ xs) zero x y e = refl
set_here (o ∷ xs) (suc i) x y e = set_here xs i x y e

set_elsewhere : {X : Type 0} → (xs : List X) (i j : ℕ) (y : X) → ¬ (j ≡ i) → slice_get (slice_set xs i y) j ≡ slice_get xs j
set_elsewhere [] i j y h = refl
set_elsewhere (o ∷ xs) zero zero y h = absurd (h refl)
set_elsewhere (o ∷ xs) zero (suc j) y h = refl
set_elsewhere (o ∷ xs) (suc i) zero y h = refl
set_elsewhere (o ∷ xs) (suc i) (suc j) y h = set_elsewhere xs i j y (λ e. h (ap suc e))

-- ---- an item stands for what it did

abbrev IsSame : Known → Known → Item → Type 0
IsSame k q (item.Variable m) = slice_get q.variables m ≡ slice_get k.variables m
IsSame k q (item.Procedure m) = slice_get q.procedures m ≡ slice_get k.procedures m

same : (k : Known) (i : Item) → IsSame k k i
same k (item.Variable m) = refl
same k (item.Procedure m) = refl

same_then : (k q r : Known) (i : Item) → IsSame k q i → IsSame q r i → IsSame k r i
same_then k q r (item.Variable m) a b = b ∙ a
same_then k q r (item.Procedure m) a b = b ∙ a

noted_same : (f : Found) (k : Known) (i : Item) → IsSame k (note_whole f k) i
noted_same f k (item.Variable m) = refl
noted_same f k (item.Procedure m) = refl

region_same : (m : ℕ) (v w : Option Variable) (k : Known) (i : Item) → ¬ (i ≡ item.Variable m) → IsSame k (region_joined m v w k) i
region_same m None w k i h = same k i
region_same m (Some v) None k i h = same k i
region_same m (Some v) (Some w) k (item.Variable j) h = set_elsewhere k.variables m j (with_region w.region v) (λ e. h (ap item.Variable e))
region_same m (Some v) (Some w) k (item.Procedure j) h = refl

entry_same : (m : ℕ) (p : Option ProcedureR) (n : ℕ) (k : Known) (i : Item) → ¬ (i ≡ item.Procedure m) → IsSame k (entry_joined m p n k) i
entry_same m None n k i h = same k i
entry_same m (Some p) n k (item.Variable j) h = refl
entry_same m (Some p) n k (item.Procedure j) h = set_elsewhere k.procedures m j (with_entry_at n p) (λ e. h (ap item.Procedure e))

joined_same : (e p : Item) (k : Known) (i : Item) → ¬ (i ≡ e) → IsSame k (joined e p k) i
joined_same (item.Variable m) (item.Variable n) k i h = region_same m (slice_get k.variables m) (slice_get k.variables n) k i h
joined_same (item.Variable m) (item.Procedure n) k i h = same k i
joined_same (item.Procedure m) (item.Variable n) k i h = same k i
joined_same (item.Procedure m) (item.Procedure n) k i h = entry_same m (slice_get k.procedures m) n k i h

either_same : (b : Bool) (k x y : Known) (i : Item) → IsSame k x i → IsSame k y i → IsSame k (cond b x y) i
either_same true k x y i f g = f
either_same false k x y i f g = g

external_same : (e : Item) (o : Option Item) (k : Known) (i : Item) → ¬ (i ≡ e) → IsSame k (external_joined e o k) i
external_same e None k i h = noted_same (unjoined k e None) k i
external_same e (Some p) k i h = either_same (agree k e p) k _ _ i (joined_same e p k i h) (noted_same (unjoined k e (Some p)) k i)

externals_same : (es : List ExternalR) (k : Known) (i : Item) → IsNoneOf i es → IsSame k (externals_joined es k) i
externals_same [] k i h = same k i
externals_same (e ∷ es) k i h =
    let q = external_joined e.item (found_in e.name k.publics) k in
    same_then k q (externals_joined es q) i (external_same e.item (found_in e.name k.publics) k i h.0) (externals_same es q i h.1)

-- ---- the names and the faults stay

joined_publics : (e p : Item) (k : Known) → (joined e p k).publics ≡ k.publics
joined_publics (item.Variable m) (item.Variable n) k = region_publics (slice_get k.variables m) (slice_get k.variables n)
  where
    region_publics : (v w : Option Variable) → (region_joined m v w k).publics ≡ k.publics
    region_publics None w = refl
    region_publics (Some v) None = refl
    region_publics (Some v) (Some w) = refl
joined_publics (item.Variable m) (item.Procedure n) k = refl
joined_publics (item.Procedure m) (item.Variable n) k = refl
joined_publics (item.Procedure m) (item.Procedure n) k = entry_publics (slice_get k.procedures m)
  where
    entry_publics : (p : Option ProcedureR) → (entry_joined m p n k).publics ≡ k.publics
    entry_publics None = refl
    entry_publics (Some p) = refl

either_publics : (b : Bool) (k x y : Known) → x.publics ≡ k.publics → y.publics ≡ k.publics → (cond b x y).publics ≡ k.publics
either_publics true k x y f g = f
either_publics false k x y f g = g

external_publics : (e : Item) (o : Option Item) (k : Known) → (external_joined e o k).publics ≡ k.publics
external_publics e None k = refl
external_publics e (Some p) k = either_publics (agree k e p) k _ _ (joined_publics e p k) refl

joined_whole : (e p : Item) (k : Known) → (joined e p k).whole ≡ k.whole
joined_whole (item.Variable m) (item.Variable n) k = region_whole (slice_get k.variables m) (slice_get k.variables n)
  where
    region_whole : (v w : Option Variable) → (region_joined m v w k).whole ≡ k.whole
    region_whole None w = refl
    region_whole (Some v) None = refl
    region_whole (Some v) (Some w) = refl
joined_whole (item.Variable m) (item.Procedure n) k = refl
joined_whole (item.Procedure m) (item.Variable n) k = refl
joined_whole (item.Procedure m) (item.Procedure n) k = entry_whole (slice_get k.procedures m)
  where
    entry_whole : (p : Option ProcedureR) → (entry_joined m p n k).whole ≡ k.whole
    entry_whole None = refl
    entry_whole (Some p) = refl

whole_before : (b : Bool) (x : Known) (f : Found) (k : Known) → x.whole ≡ k.whole → (cond b x (note_whole f k)).whole ≡ [] → k.whole ≡ []
whole_before true x f k s e = sym s ∙ e
whole_before false x f k s e = absurd (not_nil k.whole f e)

external_before : (e : Item) (o : Option Item) (k : Known) → (external_joined e o k).whole ≡ [] → k.whole ≡ []
external_before e None k h = absurd (not_nil k.whole (unjoined k e None) h)
external_before e (Some p) k h = whole_before (agree k e p) (joined e p k) (unjoined k e (Some p)) k (joined_whole e p k) h

externals_before : (es : List ExternalR) (k : Known) → (externals_joined es k).whole ≡ [] → k.whole ≡ []
externals_before [] k h = h
externals_before (e ∷ es) k h = let o = found_in e.name k.publics in external_before e.item o k (externals_before es (external_joined e.item o k) h)

-- ---- one EXTERNAL name

abbrev IsApartFrom : Item → Option Item → Type 0
IsApartFrom i None = Unit {0}
IsApartFrom i (Some p) = ¬ (p ≡ i)

not_true : false ≡ true → ⊥
not_true e = cc

one_region : (m n : ℕ) (v w : Option Variable) (k : Known) → slice_get k.variables m ≡ v → slice_get k.variables n ≡ w → same_type k v w ≡ true → ¬ (n ≡ m)
    → region_at (region_joined m v w k).variables m ≡ region_at (region_joined m v w k).variables n
one_region m n None w k a b t h = absurd (not_true t)
one_region m n (Some v) None k a b t h = absurd (not_true t)
one_region m n (Some v) (Some w) k a b t h =
    let here = set_here k.variables m v (with_region w.region v) a in
    let there = set_elsewhere k.variables m n (with_region w.region v) h ∙ b in
    ap (option_map (λ (x : Variable). x.region)) here ∙ sym (ap (option_map (λ (x : Variable). x.region)) there)

one_entry : (m n : ℕ) (p q : Option ProcedureR) (k : Known) → slice_get k.procedures m ≡ p → same_procedure k p q ≡ true → run_by (entry_joined m p n k).procedures m ≡ Some n
one_entry m n None q k a t = absurd (not_true t)
one_entry m n (Some p) q k a t = ap (option_map (λ (x : ProcedureR). x.entry)) (set_here k.procedures m p (with_entry_at n p) a)

abbrev Joined : Known → Item → Option Item → Type 0
Joined k i o = IsJoined k.variables k.procedures i o

one_joined : (e p : Item) (k : Known) → agree k e p ≡ true → ¬ (p ≡ e) → Joined (joined e p k) e (Some p)
one_joined (item.Variable m) (item.Variable n) k t h = one_region m n (slice_get k.variables m) (slice_get k.variables n) k refl refl t (λ e. h (ap item.Variable e))
one_joined (item.Variable m) (item.Procedure n) k t h = absurd (not_true t)
one_joined (item.Procedure m) (item.Variable n) k t h = absurd (not_true t)
one_joined (item.Procedure m) (item.Procedure n) k t h = one_entry m n (slice_get k.procedures m) (slice_get k.procedures n) k refl t

where_joined : (b : Bool) (e p : Item) (f : Found) (k : Known) → agree k e p ≡ b → ¬ (p ≡ e) → (cond b (joined e p k) (note_whole f k)).whole ≡ [] → Joined (cond b (joined e p k) (note_whole f k)) e (Some p)
where_joined true e p f k is h none = one_joined e p k is h
where_joined false e p f k is h none = absurd (not_nil k.whole f none)

external_is : (e : Item) (o : Option Item) (k : Known) → IsApartFrom e o → (external_joined e o k).whole ≡ [] → Joined (external_joined e o k) e o
external_is e None k h none = absurd (not_nil k.whole (unjoined k e None) none)
external_is e (Some p) k h none = where_joined (agree k e p) e p (unjoined k e (Some p)) k refl h none

-- ---- all of them

abbrev AllSame : Known → Known → Option Item → Type 0
AllSame k q None = Unit {0}
AllSame k q (Some p) = IsSame k q p

carried : (k q : Known) (i : Item) (o : Option Item) → IsSame k q i → AllSame k q o → Joined k i o → Joined q i o
carried k q i None a b j = j
carried k q (item.Variable m) (Some (item.Variable n)) a b j = ap (option_map (λ (x : Variable). x.region)) a ∙ j ∙ sym (ap (option_map (λ (x : Variable). x.region)) b)
carried k q (item.Variable m) (Some (item.Procedure n)) a b j = j
carried k q (item.Procedure m) (Some (item.Variable n)) a b j = j
carried k q (item.Procedure m) (Some (item.Procedure n)) a b j = ap (option_map (λ (x : ProcedureR). x.entry)) a ∙ j

chosen_apart : (b : Bool) (e p : Item) (o : Option Item) → ¬ (p ≡ e) → IsApartFrom e o → IsApartFrom e (cond b (Some p) o)
chosen_apart true e p o h r = h
chosen_apart false e p o h r = r

-- a PUBLIC name that is found is among the PUBLIC ones
found_apart : (name : List ℕ) (e : Item) (ps : Entries) → IsNotPublic e ps → IsApartFrom e (found_in name ps)
found_apart name e [] h = tt
found_apart name e (p ∷ ps) h = chosen_apart (bytes_eq name p.0) e p.1 (found_in name ps) h.0 (found_apart name e ps h.1)

abbrev AllNoneOf : Option Item → List ExternalR → Type 0
AllNoneOf None es = Unit {0}
AllNoneOf (Some p) es = IsNoneOf p es

not_public : (i : Item) (ps : Entries) (name : List ℕ) (p : Item) → IsNotPublic i ps → found_in name ps ≡ Some p → ¬ (p ≡ i)
not_public i ps name p h e = subst (IsApartFrom i) e (found_apart name i ps h)

-- what is PUBLIC is none of these EXTERNAL names
public_none : (ps : Entries) (name : List ℕ) (p : Item) (es : List ExternalR) → AreApart es ps → found_in name ps ≡ Some p → IsNoneOf p es
public_none ps name p [] h e = tt
public_none ps name p (x ∷ es) h e = (not_public x.item ps name p h.1 e, public_none ps name p es h.2 e)

public_same : (o : Option Item) (ps : Entries) (name : List ℕ) (es : List ExternalR) (k : Known) → found_in name ps ≡ o → AreApart es ps → AllSame k (externals_joined es k) o
public_same None ps name es k e h = tt
public_same (Some p) ps name es k e h = externals_same es k p (public_none ps name p es h e)

all_joined : (es : List ExternalR) (k : Known) (ps : Entries) → k.publics ≡ ps → AreApart es ps → (externals_joined es k).whole ≡ []
    → AreJoined (externals_joined es k).variables (externals_joined es k).procedures ps es
all_joined [] k ps s h none = tt
all_joined (e ∷ es) k ps s h none =
    let o = found_in e.name k.publics in
    let q = external_joined e.item o k in
    let r = externals_joined es q in
    let name : o ≡ found_in e.name ps = ap (found_in e.name) s in
    let one = external_is e.item o k (subst (IsApartFrom e.item) (sym name) (found_apart e.name e.item ps h.1)) (externals_before es q none) in
    let last = carried q r e.item o (externals_same es q e.item h.0) (public_same o ps e.name es q (sym name) h.2) one in
    (subst (IsJoined r.variables r.procedures e.item) name last, all_joined es q ps (external_publics e.item o k ∙ s) h.2 none)

fault_procedures : (b : Bool) (f : Found) (k : Known) → (program_fault b f k).procedures ≡ k.procedures
fault_procedures true f k = refl
fault_procedures false f k = refl

pub externals_are_joined : (names : Names) (ms : List ModuleT) → AreNames names ms
    → let k = known_from ms in AreJoined names.variables.items (map procedure_of names.procedures.items) k.publics k.externals
externals_are_joined names ms are =
    let k = known_from ms in
    let before : Known = record k { externals = [] } in
    let q = externals_joined k.externals before in
    let f : Found = record { «module» = 0; place = start; number = E308 } in
    let g : Found = record { «module» = 0; place = start; number = E310 } in
    let p = program_fault (nat_eq (length q.mains) 1) f q in
    let none = fault_before (nat_eq (length q.mains) 1) f q (fault_before (have_room p.objects) g p are.no_whole_fault) in
    let vs : names.variables.items ≡ q.variables = are.variables ∙ fault_variables (have_room p.objects) g p ∙ fault_variables (nat_eq (length q.mains) 1) f q in
    let ps : map procedure_of names.procedures.items ≡ q.procedures = are.procedures ∙ fault_procedures (have_room p.objects) g p ∙ fault_procedures (nat_eq (length q.mains) 1) f q in
    let done = all_joined k.externals before k.publics refl (externals_are_apart ms) none in
    subst (λ (xs : List Variable). AreJoined xs (map procedure_of names.procedures.items) k.publics k.externals) (sym vs)
    (subst (λ (xs : List ProcedureR). AreJoined q.variables xs k.publics k.externals) (sym ps) done)

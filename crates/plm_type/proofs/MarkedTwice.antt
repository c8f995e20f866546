-- What several searches mark.
use Rattle.std.proofs.Common.{◌≡◌, ℕ, zero, suc, ◌+◌, ◌<◌, ◌≤◌, List, [], ◌∷◌, Bool, true, false, true≢false, Some, cond, ◌||◌, ◌++◌, append_assoc, length, slice_get, slice_index_or, refl, sym, ap, subst, ◌∙◌, arith, ◌↔◌, nat_lt}
use Rattle.std.proofs.lemmas.Bool.Decides.{nat_tests}
use Rattle.std.proofs.lemmas.List.{get_or_past}
use Rattle.plm_decl.specs.declared.names.Procedure.{Procedure}
use Rattle.plm_decl.specs.Names.{procedure_of}
use Rattle.plm_type.specs.Interrupts.{serves_interrupt}
use Rattle.plm_type.specs.Sharing.{handlers_from, LeadsFrom, LeadTwice}
use Rattle.plm_type.specs.Reach.{Graph, Leads}
use Rattle.plm_type.specs.Inner.Reach.{IsMarked, AreReached, marked_twice}

-- one of these marks it, where one has before
once_from : (g : Graph) (roots : List (List ℕ)) (all : List (List Bool)) → AreReached g roots all → (p : ℕ) → p < length g
    → marked_twice p true all ≡ true → (a : ℕ) × LeadsFrom g (slice_get roots a) p
once_from g [] [] r p h e = absurd (true≢false (sym e))
once_from g (root ∷ roots) (marks ∷ all) r p h e = by (slice_index_or marks p false) refl e (once_from g roots all r.2 p h)
  where
    by : (b : Bool) → slice_index_or marks p false ≡ b → cond b true (marked_twice p true all) ≡ true
        → (marked_twice p true all ≡ true → (a : ℕ) × LeadsFrom g (slice_get roots a) p) → (a : ℕ) × LeadsFrom g (slice_get (root ∷ roots) a) p
    by true m e later = (0, (r.1 p h).0 m)
    by false m e later = let s = later e in (suc s.0, s.1)
once_from g [] (marks ∷ all) r p h e = absurd r
once_from g (root ∷ roots) [] r p h e = absurd r

either : (b c : Bool) → c ≡ true → cond b true c ≡ true
either true c e = refl
either false c e = e

once_to : (g : Graph) (roots : List (List ℕ)) (all : List (List Bool)) → AreReached g roots all → (p : ℕ) → p < length g
    → (a : ℕ) → LeadsFrom g (slice_get roots a) p → marked_twice p true all ≡ true
once_to g [] [] r p h a l = absurd l
once_to g (root ∷ roots) (marks ∷ all) r p h zero l = ap (λ b. cond b true (marked_twice p true all)) ((r.1 p h).1 l)
once_to g (root ∷ roots) (marks ∷ all) r p h (suc a) l = either (slice_index_or marks p false) (marked_twice p true all) (once_to g roots all r.2 p h a l)
once_to g [] (marks ∷ all) r p h a l = absurd r
once_to g (root ∷ roots) [] r p h a l = absurd r

pub twice_from : (g : Graph) (roots : List (List ℕ)) (all : List (List Bool)) → AreReached g roots all → (p : ℕ) → p < length g
    → marked_twice p false all ≡ true → LeadTwice g roots p
twice_from g [] [] r p h e = absurd (true≢false (sym e))
twice_from g (root ∷ roots) (marks ∷ all) r p h e = by (slice_index_or marks p false) refl e (twice_from g roots all r.2 p h)
  where
    by : (b : Bool) → slice_index_or marks p false ≡ b → cond b (marked_twice p true all) (marked_twice p false all) ≡ true
        → (marked_twice p false all ≡ true → LeadTwice g roots p) → LeadTwice g (root ∷ roots) p
    by true m e later = let s = once_from g roots all r.2 p h e in record { a = 0; b = suc s.0; apart = omega arith; first = (r.1 p h).0 m; second = s.1 }
    by false m e later = let s = later e in let below = s.apart in record { a = suc s.a; b = suc s.b; apart = omega (arith, below); first = s.first; second = s.second }
twice_from g [] (marks ∷ all) r p h e = absurd r
twice_from g (root ∷ roots) [] r p h e = absurd r

both : (b c d : Bool) → c ≡ true → d ≡ true → cond b c d ≡ true
both true c d e f = e
both false c d e f = f

pub twice_to : (g : Graph) (roots : List (List ℕ)) (all : List (List Bool)) → AreReached g roots all → (p : ℕ) → p < length g
    → (a b : ℕ) → a < b → LeadsFrom g (slice_get roots a) p → LeadsFrom g (slice_get roots b) p → marked_twice p false all ≡ true
twice_to g [] [] r p h a b below l m = absurd l
twice_to g (root ∷ roots) (marks ∷ all) r p h a zero below l m = absurd (omega (arith, below))
twice_to g (root ∷ roots) (marks ∷ all) r p h zero (suc b) below l m =
    ap (λ c. cond c (marked_twice p true all) (marked_twice p false all)) ((r.1 p h).1 l) ∙ once_to g roots all r.2 p h b m
twice_to g (root ∷ roots) (marks ∷ all) r p h (suc a) (suc b) below l m =
    both (slice_index_or marks p false) (marked_twice p true all) (marked_twice p false all) (once_to g roots all r.2 p h a l) (twice_to g roots all r.2 p h a b (omega (arith, below)) l m)
twice_to g [] (marks ∷ all) r p h a b below l m = absurd r
twice_to g (root ∷ roots) [] r p h a b below l m = absurd r

-- past the last procedure nothing is marked
unmarked_past : (g : Graph) (roots : List (List ℕ)) (all : List (List Bool)) → AreReached g roots all → (p : ℕ) → length g ≤ p
    → (before : Bool) → marked_twice p before all ≡ false
unmarked_past g [] [] r p h before = refl
unmarked_past g (root ∷ roots) (marks ∷ all) r p h before =
    ap (λ b. cond b (before || marked_twice p true all) (marked_twice p before all)) (get_or_past marks p false (subst (λ n. n ≤ p) (sym r.0) h))
    ∙ unmarked_past g roots all r.2 p h before
unmarked_past g [] (marks ∷ all) r p h before = absurd r
unmarked_past g (root ∷ roots) [] r p h before = absurd r

pub within_marked : (g : Graph) (roots : List (List ℕ)) (all : List (List Bool)) → AreReached g roots all → (p : ℕ)
    → marked_twice p false all ≡ true → p < length g
within_marked g roots all r p e = by (nat_lt p (length g)) refl
  where
    by : (t : Bool) → nat_lt p (length g) ≡ t → p < length g
    by true lt = grind (arith, nat_tests)
    by false ge = let past : length g ≤ p = grind (arith, nat_tests) in absurd (true≢false (sym e ∙ unmarked_past g roots all r p past false))

-- ---- one more procedure is looked at

-- what all roots mark, with what those to come will
abbrev pub Marked : Graph → (all : List (List ℕ)) → (come : List (List ℕ)) → List (List Bool) → Type 0
Marked g all come marks = (more : List (List Bool)) → AreReached g come more → AreReached g all (marks ++ more)

pub one_searched : (g : Graph) (all : List (List ℕ)) (k : ℕ) (p : Procedure) (ps : List Procedure) (old new : List (List Bool)) (marks : List Bool)
    → serves_interrupt (Some (procedure_of p)) ≡ true → length marks ≡ length g → ((q : ℕ) → q < length g → IsMarked marks q ↔ Leads g (k ∷ []) q) → new ≡ old ++ marks ∷ []
    → Marked g all (handlers_from k (p ∷ ps)) old → Marked g all (handlers_from (k + 1) ps) new
one_searched g all k p ps old new marks e long exact is m more r =
    subst (λ (x : List (List Bool)). AreReached g all x) (sym (ap (λ (x : List (List Bool)). x ++ more) is ∙ append_assoc old (marks ∷ []) more))
    (m (marks ∷ more) (subst (λ (b : Bool). AreReached g (cond b ((k ∷ []) ∷ handlers_from (k + 1) ps) (handlers_from (k + 1) ps)) (marks ∷ more)) (sym e) (long, exact, r)))

pub none_searched : (g : Graph) (all : List (List ℕ)) (k : ℕ) (p : Procedure) (ps : List Procedure) (old new : List (List Bool))
    → serves_interrupt (Some (procedure_of p)) ≡ false → new ≡ old → Marked g all (handlers_from k (p ∷ ps)) old → Marked g all (handlers_from (k + 1) ps) new
none_searched g all k p ps old new e is m more r =
    subst (λ (x : List (List Bool)). AreReached g all (x ++ more)) (sym is)
    (m more (subst (λ (b : Bool). AreReached g (cond b ((k ∷ []) ∷ handlers_from (k + 1) ps) (handlers_from (k + 1) ps)) more) (sym e) r))

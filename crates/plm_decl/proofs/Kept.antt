-- What reading a tree keeps: tables grow, faults stay, and what is within the final counts stays so.
use Rattle.std.proofs.Common.{◌≡◌, ℕ, zero, suc, ◌≤◌, List, [], ◌∷◌, ◌++◌, length, Bool, true, false, ◌&&◌, cond, Option, Some, None, nat_lt, refl, sym, ◌∙◌, arith}
use Rattle.std.proofs.lemmas.Bool.{and_parts, and_from}
use Rattle.std.specs.List.{list_all}
use Rattle.std.specs.Prelude.{slice_get, slice_set}
use Rattle.std.specs.Option.{option_or}
use Rattle.std.proofs.lemmas.List.{length-append}
use Rattle.std.proofs.lemmas.List.Folds.{list_all-append}
use Rattle.std.proofs.lemmas.Bool.Decides.{nat_tests}
use Rattle.word86.specs.declared.number.Number.{Number}
use Rattle.plm_syntax.specs.declared.tree.Position.{Position}
use Rattle.plm_decl.specs.declared.names.Item.{Item}
use Rattle.plm_decl.specs.Scope.{Frame}
use Rattle.plm_decl.specs.Resolver.{Known, ExternalR, note, note_unless}
use Rattle.plm_decl.specs.Ranges.{Counts}
use Rattle.plm_decl.specs.Inner.Ranges.{Within, item_within, entries_within}

-- ---- tests

pub both : {a b : Bool} → a ≡ true → b ≡ true → (a && b) ≡ true
both {a} {b} p q = and_from a b p q

pub all_pushed : {X : Type 0} (p : X → Bool) (xs : List X) (x : X) → list_all p xs ≡ true → p x ≡ true → list_all p (xs ++ x ∷ []) ≡ true
all_pushed p xs x h e = list_all-append p xs (x ∷ []) ∙ both h (both e refl)

pub all_set : {X : Type 0} (p : X → Bool) (xs : List X) (i : ℕ) (x : X) → list_all p xs ≡ true → p x ≡ true → list_all p (slice_set xs i x) ≡ true
all_set p [] i x h e = refl
all_set p (y ∷ xs) zero x h e = both e (and_parts (p y) (list_all p xs) h).1
all_set p (y ∷ xs) (suc i) x h e = both (and_parts (p y) (list_all p xs) h).0 (all_set p xs i x (and_parts (p y) (list_all p xs) h).1 e)

pub last_of : {X : Type 0} (p : X → Bool) (xs : List X) (x : X) → list_all p (xs ++ x ∷ []) ≡ true → p x ≡ true
last_of p xs x h = (and_parts (p x) true (and_parts (list_all p xs) (p x && true) (sym (list_all-append p xs (x ∷ [])) ∙ h)).1).0

-- of what may be there
abbrev pub maybe : {X : Type 0} → (X → Bool) → Option X → Bool
maybe p None = true
maybe p (Some x) = p x

pub got : {X : Type 0} (p : X → Bool) (xs : List X) (i : ℕ) → list_all p xs ≡ true → maybe p (slice_get xs i) ≡ true
got p [] i h = refl
got p (x ∷ xs) zero h = (and_parts (p x) (list_all p xs) h).0
got p (x ∷ xs) (suc i) h = got p xs i (and_parts (p x) (list_all p xs) h).1

pub maybe_unless : {X : Type 0} (p : X → Bool) (b : Bool) (o : Option X) → maybe p o ≡ true → maybe p (cond b o None) ≡ true
maybe_unless p true o h = h
maybe_unless p false o h = refl

-- a number that a push makes
pub pushed_below : {X : Type 0} (xs : List X) (x : X) (n : ℕ) → length (xs ++ x ∷ []) ≤ n → nat_lt (length xs) n ≡ true
pushed_below xs x n h = let e = length-append xs (x ∷ []) in grind (arith, nat_tests)

pub pushed_most : {X : Type 0} (xs : List X) (x : X) (n : ℕ) → length (xs ++ x ∷ []) ≤ n → length xs ≤ n
pushed_most xs x n h = omega (arith, length-append xs (x ∷ []))

pub not_nil : {X : Type 0} (xs : List X) (x : X) → xs ++ x ∷ [] ≡ [] → ⊥
not_nil [] x e = cc
not_nil (y ∷ xs) x e = cc

-- ---- what is known

-- no fault was met, and the tables have no more entries than this many
abbrev pub Ends : Counts → Known → Type 0
Ends c k =
    (length k.variables ≤ c.variables) × (length k.structures ≤ c.structures) × (length k.objects ≤ c.objects) × (length k.procedures ≤ c.procedures)
    × (k.faults ≡ [])

abbrev pub frames_within : Counts → List Frame → Bool
frames_within c frames = list_all (λ l. entries_within c l.names) frames

abbrev pub external_within : Counts → ExternalR → Bool
external_within c e = item_within c e.item

-- from what was known to what is known
pub record Kept (c : Counts) (k q : Known) : Type 0 where
  pub ends : Ends c q → Ends c k
  pub within : Ends c q → Within c k → Within c q

pub kept_then : {c : Counts} {k q r : Known} → Kept c k q → Kept c q r → Kept c k r
kept_then a b = record { ends = λ h. a.ends (b.ends h); within = λ h w. b.within h (a.within (b.ends h) w) }

pub kept : (c : Counts) (k : Known) → Kept c k k
kept c k = record { ends = λ h. h; within = λ h w. w }

-- the same where it is read in a scope
pub record Reads (c : Counts) (frames : List Frame) (k q : Known) : Type 0 where
  pub ends : Ends c q → Ends c k
  pub within : frames_within c frames ≡ true → Ends c q → Within c k → Within c q

pub reads : {c : Counts} {frames : List Frame} {k q : Known} → Kept c k q → Reads c frames k q
reads a = record { ends = a.ends; within = λ h e w. a.within e w }

pub reads_then : {c : Counts} {frames : List Frame} {k q r : Known} → Reads c frames k q → Reads c frames q r → Reads c frames k r
reads_then a b = record { ends = λ e. a.ends (b.ends e); within = λ h e w. b.within h e (a.within h (b.ends e) w) }

-- and where names are declared on the way
pub record Declares (c : Counts) (frames : List Frame) (k : Known) (after : List Frame) (q : Known) : Type 0 where
  pub ends : Ends c q → Ends c k
  pub within : frames_within c frames ≡ true → Ends c q → Within c k → Within c q × (frames_within c after ≡ true)

pub declares_none : (c : Counts) (frames : List Frame) (k : Known) → Declares c frames k frames k
declares_none c frames k = record { ends = λ e. e; within = λ h e w. (w, h) }

pub declares_then : {c : Counts} {frames : List Frame} {k : Known} {after : List Frame} {q : Known} {last : List Frame} {r : Known}
    → Declares c frames k after q → Declares c after q last r → Declares c frames k last r
declares_then a b = record { ends = λ e. a.ends (b.ends e); within = λ h e w. let one = a.within h (b.ends e) w in b.within one.1 e one.0 }

pub unless_kept : (c : Counts) (b : Bool) (k q : Known) → Kept c k q → Kept c k (cond b k q)
unless_kept c true k q h = kept c k
unless_kept c false k q h = h

-- ---- faults

pub noted : (c : Counts) (n : Number) (p : Position) (k : Known) → Ends c (note n p k) → ⊥
noted c n p k h = not_nil k.faults _ h.4

pub note_kept : (c : Counts) (n : Number) (p : Position) (k : Known) → Kept c k (note n p k)
note_kept c n p k = record { ends = λ h. absurd (noted c n p k h); within = λ h w. absurd (noted c n p k h) }

pub note_unless_kept : (c : Counts) (b : Bool) (n : Number) (p : Position) (k : Known) → Kept c k (note_unless b n p k)
note_unless_kept c true n p k = kept c k
note_unless_kept c false n p k = note_kept c n p k

pub note_unless_holds : (c : Counts) (b : Bool) (n : Number) (p : Position) (k : Known) → Ends c (note_unless b n p k) → b ≡ true
note_unless_holds c true n p k h = refl
note_unless_holds c false n p k h = absurd (noted c n p k h)

-- ---- names

pub or_within : (c : Counts) (o p : Option Item) → maybe (item_within c) o ≡ true → maybe (item_within c) p ≡ true → maybe (item_within c) (option_or o p) ≡ true
or_within c None p g h = h
or_within c (Some i) p g h = g

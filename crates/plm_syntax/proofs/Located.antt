-- The first literal of a name, and where a table has it.
use Rattle.std.proofs.Common.{◌≡◌, ◌∙◌, ℕ, zero, suc, List, [], ◌∷◌, ◌++◌, length, map, take, Bool, true, false, cond, Option, Some, None, option_map, Result, Ok, Err, OnOk, OnErr, find, get_or, ap, refl, sym, arith, ◌⊎◌, inl, inr}
use Rattle.std.specs.Prelude.{bytes_eq}
use Rattle.std.specs.List.{slice_get}
use Rattle.std.specs.Bool.{if◌then◌else◌}
use Rattle.std.specs.Prelude.{nat_lt, ◌<◌}
use Rattle.std.proofs.lemmas.Slice.Eq.{bytes_eq-Decides}
use Rattle.std.proofs.lemmas.Bool.{ltb-true}
use Rattle.std.proofs.lemmas.Option.{slice_get_read, same_Some}
use Rattle.plm_token.specs.Names.{normal, names_equal}
use Rattle.plm_syntax.specs.declared.scope.Literal.{Literal}
use Rattle.plm_syntax.specs.Literals.{LiteralText}
use Rattle.plm_syntax.specs.Inner.Scope.{letters_of, literal_text, literal_at, has_name, first_named, place_in, ArePlaced, WillBePlaced}
use Rattle.std.specs.HashMap.{HashMap}
use Rattle.std.specs.Map.{lookup}
use denote.Ref.{Bor}

after_more : (o : Option ℕ) (p : ℕ) → option_map (λ i. suc i) o ≡ Some p → (q : ℕ) × (o ≡ Some q) × (p ≡ suc q)
after_more None p e = absurd (cc e)
after_more (Some q) p e = (q, refl, cc e)

same_test : (name : List ℕ) (x l : Literal) → Some x ≡ Some l → has_name name x ≡ has_name name l
same_test name x l e = let same : x ≡ l = cc e in ap (has_name name) same

-- the first literal of a name has it
pub found_named : (name : List ℕ) (ls : List Literal) (p : ℕ) (l : Literal) → first_named name ls ≡ Some p → slice_get ls p ≡ Some l → has_name name l ≡ true
found_named name [] p l e at = absurd (cc e)
found_named name (x ∷ xs) p l e at = by_test (λ q. found_named name xs q l) (has_name name x) refl e
  where
    by_test : ((q : ℕ) → first_named name xs ≡ Some q → slice_get xs q ≡ Some l → has_name name l ≡ true) → (b : Bool) → has_name name x ≡ b
        → cond b (Some 0) (option_map (λ i. suc i) (first_named name xs)) ≡ Some p → has_name name l ≡ true
    by_test further true t k =
        let here : 0 ≡ p = same_Some 0 p k in
        sym (same_test name x l (ap (slice_get (x ∷ xs)) here ∙ at)) ∙ t
    by_test further false t k = let behind = after_more (first_named name xs) p k in further behind.0 behind.1 (ap (slice_get (x ∷ xs)) (sym behind.2) ∙ at)

-- where a literal has a name, there is a first one
pub named_found : (name : List ℕ) (ls : List Literal) (p : ℕ) (l : Literal) → slice_get ls p ≡ Some l → has_name name l ≡ true → (q : ℕ) × (first_named name ls ≡ Some q)
named_found name [] p l at t = absurd (cc at)
named_found name (x ∷ xs) zero l at t = (0, ap (λ (b : Bool). cond b (Some 0) (option_map (λ i. suc i) (first_named name xs))) (same_test name x l at ∙ t))
named_found name (x ∷ xs) (suc p) l at t = by_test (has_name name x) (named_found name xs p l at t)
  where
    by_test : (b : Bool) → (q : ℕ) × (first_named name xs ≡ Some q) → (q : ℕ) × (cond b (Some 0) (option_map (λ i. suc i) (first_named name xs)) ≡ Some q)
    by_test true h = (0, refl)
    by_test false h = (suc h.0, ap (λ (o : Option ℕ). option_map (λ i. suc i) o) h.1)

-- what is first among the first so many is first of all
pub first_of_all : (name : List ℕ) (n : ℕ) (ls : List Literal) (p : ℕ) → first_named name (take n ls) ≡ Some p → first_named name ls ≡ Some p
first_of_all name zero ls p e = absurd (cc e)
first_of_all name (suc n) [] p e = e
first_of_all name (suc n) (x ∷ xs) p e = by_test (first_of_all name n xs) (has_name name x) e
  where
    by_test : ((q : ℕ) → first_named name (take n xs) ≡ Some q → first_named name xs ≡ Some q) → (b : Bool) → cond b (Some 0) (option_map (λ i. suc i) (first_named name (take n xs))) ≡ Some p → cond b (Some 0) (option_map (λ i. suc i) (first_named name xs)) ≡ Some p
    by_test further true k = k
    by_test further false k =
        let behind = after_more (first_named name (take n xs)) p k in
        ap (λ (o : Option ℕ). option_map (λ i. suc i) o) (further behind.0 behind.1) ∙ ap (λ (i : ℕ). Some i) (sym behind.2)

-- one more literal is first where none before has its name
pub first_pushed : (name : List ℕ) (ls : List Literal) (l : Literal) (p : ℕ) → first_named name (ls ++ l ∷ []) ≡ Some p
    → (first_named name ls ≡ Some p) ⊎ ((first_named name ls ≡ None) × (has_name name l ≡ true) × (p ≡ length ls))
first_pushed name [] l p e = by_test (has_name name l) refl e
  where
    by_test : (b : Bool) → has_name name l ≡ b → cond b (Some 0) None ≡ Some p → (first_named name [] ≡ Some p) ⊎ ((first_named name [] ≡ None) × (has_name name l ≡ true) × (p ≡ 0))
    by_test true t k = inr (let r : (first_named name [] ≡ None) × (has_name name l ≡ true) × (p ≡ 0) = (refl, t, sym (same_Some 0 p k)) in r)
    by_test false t k = absurd (cc k)
first_pushed name (x ∷ xs) l p e = by_test (first_pushed name xs l) (has_name name x) e
  where
    behind_one : (q : ℕ) → p ≡ suc q → (first_named name xs ≡ Some q) ⊎ ((first_named name xs ≡ None) × (has_name name l ≡ true) × (q ≡ length xs))
        → (option_map (λ i. suc i) (first_named name xs) ≡ Some p) ⊎ ((option_map (λ i. suc i) (first_named name xs) ≡ None) × (has_name name l ≡ true) × (p ≡ length (x ∷ xs)))
    behind_one q s (inl h) = inl (ap (λ (o : Option ℕ). option_map (λ i. suc i) o) h ∙ ap (λ (i : ℕ). Some i) (sym s))
    behind_one q s (inr h) = inr (let r : (option_map (λ i. suc i) (first_named name xs) ≡ None) × (has_name name l ≡ true) × (p ≡ length (x ∷ xs)) = (ap (λ (o : Option ℕ). option_map (λ i. suc i) o) h.0, h.1, omega (arith, s, h.2)) in r)

    by_test : ((q : ℕ) → first_named name (xs ++ l ∷ []) ≡ Some q → (first_named name xs ≡ Some q) ⊎ ((first_named name xs ≡ None) × (has_name name l ≡ true) × (q ≡ length xs)))
        → (b : Bool) → cond b (Some 0) (option_map (λ i. suc i) (first_named name (xs ++ l ∷ []))) ≡ Some p
        → (cond b (Some 0) (option_map (λ i. suc i) (first_named name xs)) ≡ Some p) ⊎ ((cond b (Some 0) (option_map (λ i. suc i) (first_named name xs)) ≡ None) × (has_name name l ≡ true) × (p ≡ length (x ∷ xs)))
    by_test further true k = inl k
    by_test further false k = let behind = after_more (first_named name (xs ++ l ∷ [])) p k in behind_one behind.0 behind.2 (further behind.0 behind.1)

first_inside : (name : List ℕ) (ls : List Literal) (p : ℕ) → first_named name ls ≡ Some p → slice_get ls p ≡ None → ⊥
first_inside name [] p e at = cc e
first_inside name (x ∷ xs) p e at = by_test (first_inside name xs) (has_name name x) e
  where
    by_test : ((q : ℕ) → first_named name xs ≡ Some q → slice_get xs q ≡ None → ⊥) → (b : Bool) → cond b (Some 0) (option_map (λ i. suc i) (first_named name xs)) ≡ Some p → ⊥
    by_test further true k =
        let here : 0 ≡ p = same_Some 0 p k in
        let none : Some x ≡ None = ap (slice_get (x ∷ xs)) here ∙ at in
        cc none
    by_test further false k = let behind = after_more (first_named name xs) p k in further behind.0 behind.1 (ap (slice_get (x ∷ xs)) (sym behind.2) ∙ at)

-- ---- what a table says of a name

-- the place that it has, where the literal there has the name
pub named_there : (name : List ℕ) (ls : List Literal) (place_of : List ℕ → Option ℕ) (p : ℕ) (l : Literal) → ArePlaced ls place_of → place_of name ≡ Some p → slice_get ls p ≡ Some l → has_name name l ≡ true
    → Some p ≡ first_named name ls
named_there name ls place_of p l placed e at t =
    let first = named_found name ls p l at t in
    sym e ∙ placed name first.0 first.1 ∙ sym first.1

-- none, where the literal at the place that it has is of another name, or there is none
pub named_nowhere : (name : List ℕ) (ls : List Literal) (place_of : List ℕ → Option ℕ) → ArePlaced ls place_of
    → ((p : ℕ) (l : Literal) → place_of name ≡ Some p → slice_get ls p ≡ Some l → has_name name l ≡ false) → None ≡ first_named name ls
named_nowhere name ls place_of placed other = by_first (first_named name ls) refl
  where
    by_found : (p : ℕ) → first_named name ls ≡ Some p → (found : Option Literal) → slice_get ls p ≡ found → None ≡ first_named name ls
    by_found p e None at = absurd (first_inside name ls p e at)
    by_found p e (Some l) at =
        let no : true ≡ false = sym (found_named name ls p l e at) ∙ other p l (placed name p e) at in
        absurd (cc no)

    by_first : (o : Option ℕ) → first_named name ls ≡ o → None ≡ first_named name ls
    by_first None e = sym e
    by_first (Some p) e = by_found p e (slice_get ls p) refl

-- ---- a name stands for the literal at its place

found_behind : (x : LiteralText) (xs : List LiteralText) (o : Option ℕ) → literal_at (x ∷ xs) (option_map (λ i. suc i) o) ≡ literal_at xs o
found_behind x xs None = refl
found_behind x xs (Some i) = refl

pub text_found : (text : List ℕ) (ls : List Literal) → literal_at (map literal_text ls) (first_named (normal text) ls) ≡ find (λ l. names_equal l.name text) (map literal_text ls)
unfolding names_equal
text_found text [] = refl
text_found text (l ∷ ls) =
    by_test (text_found text ls) (has_name (normal text) l)
    ∙ ap (λ (n : List ℕ). cond (bytes_eq n (normal text)) (Some (literal_text l)) (find (λ l. names_equal l.name text) (map literal_text ls))) l.name.now.in_normal_form
  where
    by_test : literal_at (map literal_text ls) (first_named (normal text) ls) ≡ find (λ l. names_equal l.name text) (map literal_text ls)
        → (b : Bool) → literal_at (literal_text l ∷ map literal_text ls) (cond b (Some 0) (option_map (λ i. suc i) (first_named (normal text) ls)))
        ≡ cond b (Some (literal_text l)) (find (λ l. names_equal l.name text) (map literal_text ls))
    by_test further true = refl
    by_test further false = found_behind (literal_text l) (map literal_text ls) (first_named (normal text) ls) ∙ further

-- ---- once a literal is declared

pub placed_pushed : (name : List ℕ) (ls : List Literal) (before after : List ℕ → Option ℕ) → ArePlaced ls before → None ≡ first_named name ls
    → ((other : List ℕ) → after other ≡ cond (bytes_eq name other) (Some (length ls)) (before other)) → WillBePlaced name ls after
placed_pushed name ls before after placed none updated l is other place e = by_case (first_pushed other ls l place e)
  where
    none_some : (p : ℕ) → first_named name ls ≡ Some p → ⊥
    none_some p f = cc (none ∙ f)

    by_case : (first_named other ls ≡ Some place) ⊎ ((first_named other ls ≡ None) × (has_name other l ≡ true) × (place ≡ length ls)) → after other ≡ Some place
    by_case (inl h) = updated other ∙ by_test (bytes_eq name other) refl
      where
        by_test : (b : Bool) → bytes_eq name other ≡ b → cond b (Some (length ls)) (before other) ≡ Some place
        by_test true t = absurd (none_some place (ap (λ (n : List ℕ). first_named n ls) ((bytes_eq-Decides name other).0 t) ∙ h))
        by_test false t = placed other place h
    by_case (inr h) =
        updated other
        ∙ ap (λ (b : Bool). cond b (Some (length ls)) (before other)) (ap (λ (n : List ℕ). bytes_eq n other) (sym is) ∙ h.1)
        ∙ ap (λ (i : ℕ). Some i) (sym h.2)

-- nothing has to be entered where the name has a literal
pub placed_already : (name : List ℕ) (ls : List Literal) (place_of : List ℕ → Option ℕ) (p : ℕ) → ArePlaced ls place_of → first_named name ls ≡ Some p → WillBePlaced name ls place_of
placed_already name ls place_of p placed there l is other place e = by_case (first_pushed other ls l place e)
  where
    by_case : (first_named other ls ≡ Some place) ⊎ ((first_named other ls ≡ None) × (has_name other l ≡ true) × (place ≡ length ls)) → place_of other ≡ Some place
    by_case (inl h) = placed other place h
    by_case (inr h) =
        let same : name ≡ other = (bytes_eq-Decides name other).0 (ap (λ (n : List ℕ). bytes_eq n other) (sym is) ∙ h.1) in
        let none : None ≡ Some p = sym h.0 ∙ ap (λ (n : List ℕ). first_named n ls) (sym same) ∙ there in
        absurd (cc none)

-- an entry for a name of no literal does no harm
pub placed_still : (name : List ℕ) (ls : List Literal) (n : ℕ) (before after : List ℕ → Option ℕ) → ArePlaced ls before → None ≡ first_named name ls
    → ((other : List ℕ) → after other ≡ cond (bytes_eq name other) (Some n) (before other)) → ArePlaced ls after
placed_still name ls n before after placed none updated other place e = updated other ∙ by_test (bytes_eq name other) refl
  where
    by_test : (b : Bool) → bytes_eq name other ≡ b → cond b (Some n) (before other) ≡ Some place
    by_test true t =
        let bad : None ≡ Some place = none ∙ ap (λ (m : List ℕ). first_named m ls) ((bytes_eq-Decides name other).0 t) ∙ e in
        absurd (cc bad)
    by_test false t = placed other place e

-- once the newest literals are gone
pub placed_fewer : (n : ℕ) (ls : List Literal) (place_of : List ℕ → Option ℕ) → ArePlaced ls place_of → ArePlaced (take n ls) place_of
placed_fewer n ls place_of placed name place e = placed name place (first_of_all name n ls place e)

abbrev pub HasOther : List ℕ → Option Literal → Type 0
HasOther name None = Unit {0}
HasOther name (Some l) = has_name name l ≡ false

-- the literal at the place that a table has for a name, where it has another name
pub at_place : (name : List ℕ) (ls : List Literal) (place_of : List ℕ → Option ℕ) (p : ℕ) (found : Option Literal) → place_of name ≡ Some p → slice_get ls p ≡ found → HasOther name found
    → (q : ℕ) (l : Literal) → place_of name ≡ Some q → slice_get ls q ≡ Some l → has_name name l ≡ false
at_place name ls place_of p found e at other q l f here =
    let same : p ≡ q = same_Some p q (sym e ∙ f) in
    by_found found (sym at ∙ ap (slice_get ls) same ∙ here) other
  where
    by_found : (o : Option Literal) → o ≡ Some l → HasOther name o → has_name name l ≡ false
    by_found None k h = absurd (cc k)
    by_found (Some x) k h = sym (same_test name x l k) ∙ h

-- what `get` gives of a vector
pub read_there : (xs ys : List Literal) (p : ℕ) (l : Literal) → xs ≡ ys → true ≡ nat_lt p (length xs) → l ≡ get_or xs p l → slice_get ys p ≡ Some l
read_there xs ys p l same lt e =
    let inside : p < length xs = ltb-true p (length xs) (sym lt) in
    ap (λ (zs : List Literal). slice_get zs p) (sym same) ∙ slice_get_read xs (length xs) p l refl inside e

pub either_way : {A E : Type 0} (r : Result A E) {U V W : Type 0} → OnOk r U → OnErr r V → (U → W) → (V → W) → W
either_way (Ok x) u v f g = f u
either_way (Err e) u v f g = g v

-- after a push, which may have failed
pub placed_so : (b : Bool) (name : List ℕ) (ls : List Literal) (l : Literal) (place_of : List ℕ → Option ℕ) → ArePlaced ls place_of → WillBePlaced name ls place_of → letters_of l.name.now.name ≡ name
    → ArePlaced (if b then ls ++ l ∷ [] else ls) place_of
placed_so false name ls l place_of placed more is = placed
placed_so true name ls l place_of placed more is = more l is

-- what `insert` makes of a table
pub updated_at : (name : List ℕ) (n m : ℕ) (before after : List ℕ → Option ℕ) → n ≡ m → ((other : List ℕ) → after other ≡ cond (bytes_eq name other) (Some n) (before other))
    → (other : List ℕ) → after other ≡ cond (bytes_eq name other) (Some m) (before other)
updated_at name n m before after e h other = h other ∙ ap (λ (i : ℕ). cond (bytes_eq name other) (Some i) (before other)) e

pub entries_same : {S : Type 0} (before after : HashMap (Bor (List ℕ)) ℕ S) (name : List ℕ) → after.entries ≡ before.entries → place_in after name ≡ place_in before name
entries_same before after name e = ap (λ (es : List (Bor (List ℕ) × ℕ)). lookup (λ k. bytes_eq name k.now) es) e

-- Numbers of names, and the first literals of names.
use Rattle.std.proofs.Common.{◌≡◌, ◌∙◌, ℕ, zero, suc, ◌<◌, List, [], ◌∷◌, ◌++◌, Bool, true, false, not, cond, ◌&&◌, Option, Some, None, is_some, find, length, map, take, option_map, get_or, ap, refl, sym, subst, arith, ◌⊎◌, inl, inr}
use Rattle.std.specs.Prelude.{nat_lt, bytes_eq}
use Rattle.std.specs.Bool.{if◌then◌else◌}
use Rattle.std.specs.List.{All, slice_get}
use Rattle.std.proofs.lemmas.Bool.{ltb-true, and_from, and_parts}
use Rattle.std.proofs.lemmas.Slice.Eq.{bytes_eq-Decides}
use Rattle.std.proofs.lemmas.Option.{slice_get-map, slice_get_read, slice_get_within, get_or_from_slice_get, same_Some}
use Rattle.std.proofs.lemmas.List.{map-append, take-append-le, take_all}
use Rattle.std.proofs.lemmas.List.Elements.{All-weaker, All-push}
use Rattle.plm_token.specs.Names.{normal, names_equal}
use Rattle.plm_token.specs.Literals.{Symbol}
use Rattle.plm_syntax.specs.declared.named_token.NamedToken.{NamedToken}
use Rattle.plm_syntax.specs.declared.names.FirstToken.{FirstToken}
use Rattle.plm_syntax.specs.declared.names.Names.{Names}
use Rattle.plm_syntax.specs.declared.scope.Literal.{Literal}
use Rattle.plm_syntax.specs.Literals.{is_identifier}
use Rattle.plm_syntax.specs.Inner.NamedToken.{named_symbol, IsSameName, is_same_name}
use Rattle.plm_syntax.specs.Inner.Names.{names_in, passes_one, is_number, has_number}
use Rattle.plm_syntax.specs.Inner.Scope.{letters_of, literal_text, literal_at, has_name, first_named, StandsAt, AreFirst, HaveNumbers, IsNumbered}
use Rattle.plm_syntax.proofs.Located.{first_of_all, text_found}

-- ---- what is read

-- what `get` gives of a vector
pub read_at : {X : Type 0} (xs ys : List X) (p : ℕ) (x : X) → xs ≡ ys → true ≡ nat_lt p (length xs) → x ≡ get_or xs p x → slice_get ys p ≡ Some x
read_at {X = X} xs ys p x same lt e =
    let inside : p < length xs = ltb-true p (length xs) (sym lt) in
    ap (λ (zs : List X). slice_get zs p) (sym same) ∙ slice_get_read xs (length xs) p x refl inside e

pub got_pushed : {X : Type 0} (xs : List X) (y : X) (i : ℕ) (x : X) → slice_get (xs ++ y ∷ []) i ≡ Some x → ((slice_get xs i ≡ Some x) × (i < length xs)) ⊎ ((i ≡ length xs) × (y ≡ x))
got_pushed [] y zero x e = inr (refl, cc e)
got_pushed [] y (suc i) x e = absurd (cc e)
got_pushed (z ∷ zs) y zero x e = inl (e, omega arith)
got_pushed {X = X} (z ∷ zs) y (suc i) x e = by_case (got_pushed zs y i x e)
  where
    by_case : ((slice_get zs i ≡ Some x) × (i < length zs)) ⊎ ((i ≡ length zs) × (y ≡ x)) → ((slice_get zs i ≡ Some x) × (suc i < length (z ∷ zs))) ⊎ ((suc i ≡ length (z ∷ zs)) × (y ≡ x))
    by_case (inl h) = inl (h.0, omega (arith, h.1))
    by_case (inr h) = inr (omega (arith, h.0), h.1)

pub got_first : {X : Type 0} (xs : List X) (n i : ℕ) (x : X) → slice_get (take n xs) i ≡ Some x → (slice_get xs i ≡ Some x) × (i < n)
got_first [] zero i x e = absurd (cc e)
got_first [] (suc n) i x e = absurd (cc e)
got_first (y ∷ ys) zero i x e = absurd (cc e)
got_first (y ∷ ys) (suc n) zero x e = (e, omega arith)
got_first (y ∷ ys) (suc n) (suc i) x e = let h = got_first ys n i x e in (h.0, omega (arith, h.1))

pub got_last : {X : Type 0} (xs : List X) (y : X) (i : ℕ) → i ≡ length xs → slice_get (xs ++ y ∷ []) i ≡ Some y
got_last [] y zero e = refl
got_last [] y (suc i) e = absurd (omega (arith, e))
got_last (x ∷ xs) y zero e = absurd (omega (arith, e))
got_last (x ∷ xs) y (suc i) e = got_last xs y i (omega (arith, e))

-- ---- names that are one

pub same_name_so : (a b : Symbol) → IsSameName a b → is_same_name a b ≡ true
same_name_so a b h =
    and_from (is_identifier a.kind) (is_identifier b.kind && bytes_eq (normal a.text) (normal b.text)) h.first
    (and_from (is_identifier b.kind) (bytes_eq (normal a.text) (normal b.text)) h.second ((bytes_eq-Decides (normal a.text) (normal b.text)).1 h.same))

pub same_name_is : (a b : Symbol) → is_same_name a b ≡ true → IsSameName a b
same_name_is a b h =
    let rest : (is_identifier b.kind && bytes_eq (normal a.text) (normal b.text)) ≡ true = (and_parts (is_identifier a.kind) (is_identifier b.kind && bytes_eq (normal a.text) (normal b.text)) h).1 in
    record {
      first = (and_parts (is_identifier a.kind) (is_identifier b.kind && bytes_eq (normal a.text) (normal b.text)) h).0;
      second = (and_parts (is_identifier b.kind) (bytes_eq (normal a.text) (normal b.text)) rest).0;
      same = (bytes_eq-Decides (normal a.text) (normal b.text)).0 (and_parts (is_identifier b.kind) (bytes_eq (normal a.text) (normal b.text)) rest).1;
    }

-- the symbol that a number stands for
pub stands_for : (names : List Symbol) (n : ℕ) (s : Symbol) → is_number names n s ≡ true → (r : Symbol) × (slice_get names n ≡ Some r) × IsSameName r s
stands_for names n s h = by_found (slice_get names n) refl h
  where
    by_found : (found : Option Symbol) → slice_get names n ≡ found → passes_one (λ r. is_same_name r s) found ≡ true → (r : Symbol) × (slice_get names n ≡ Some r) × IsSameName r s
    by_found None e k = absurd (cc k)
    by_found (Some r) e k = (r, e, same_name_is r s k)

pub number_there : (tokens : List FirstToken) (n : ℕ) (t : FirstToken) (s : Symbol) → slice_get tokens n ≡ Some t → IsSameName (named_symbol t.token.now) s
    → is_number (map (λ t. named_symbol t.token.now) tokens) n s ≡ true
number_there tokens n t s e h =
    ap (passes_one (λ r. is_same_name r s)) (slice_get-map (λ t. named_symbol t.token.now) tokens n ∙ ap (option_map (λ t. named_symbol t.token.now)) e)
    ∙ same_name_so (named_symbol t.token.now) s h

-- a new name is its number's
pub number_new : (tokens : List FirstToken) (n : ℕ) (t : FirstToken) → n ≡ length tokens → is_identifier t.token.now.token.kind ≡ true
    → is_number (map (λ t. named_symbol t.token.now) (tokens ++ t ∷ [])) n (named_symbol t.token.now) ≡ true
number_new tokens n t e is = number_there (tokens ++ t ∷ []) n t (named_symbol t.token.now) (got_last tokens t n e) (record { first = is; second = is; same = refl })

pub names_kept : (tokens : List FirstToken) (t : FirstToken) → take (length (map (λ t. named_symbol t.token.now) tokens)) (map (λ t. named_symbol t.token.now) (tokens ++ t ∷ [])) ≡ map (λ t. named_symbol t.token.now) tokens
names_kept tokens t =
    let all : List Symbol = map (λ t. named_symbol t.token.now) tokens in
    ap (take (length all)) (map-append (λ t. named_symbol t.token.now) tokens (t ∷ []))
    ∙ take-append-le (length all) all (named_symbol t.token.now ∷ []) (omega arith)
    ∙ take_all (length all) all (omega arith)

pub names_kept_so : (b : Bool) (tokens : List FirstToken) (t : FirstToken)
    → take (length (map (λ t. named_symbol t.token.now) tokens)) (map (λ t. named_symbol t.token.now) (if b then tokens ++ t ∷ [] else tokens)) ≡ map (λ t. named_symbol t.token.now) tokens
names_kept_so false tokens t = take_all (length (map (λ t. named_symbol t.token.now) tokens)) (map (λ t. named_symbol t.token.now) tokens) (omega arith)
names_kept_so true tokens t = names_kept tokens t

-- ---- once there are more names

pub found_still : {X : Type 0} (xs more : List X) (n : ℕ) (x : X) → take (length xs) more ≡ xs → slice_get xs n ≡ Some x → slice_get more n ≡ Some x
found_still {X = X} xs more n x kept e = (got_first more (length xs) n x (ap (λ (ys : List X). slice_get ys n) kept ∙ e)).0

pub number_still : (names more : List Symbol) (n : ℕ) (s : Symbol) → take (length names) more ≡ names → is_number names n s ≡ true → is_number more n s ≡ true
number_still names more n s kept h =
    let r = stands_for names n s h in
    ap (passes_one (λ r. is_same_name r s)) (found_still names more n r.0 kept r.1) ∙ same_name_so r.0 s r.2

pub has_still : (names more : List Symbol) (s : Symbol) (number : Option ℕ) → take (length names) more ≡ names → has_number names s number ≡ true → has_number more s number ≡ true
has_still names more s None kept h = refl
has_still names more s (Some n) kept h = number_still names more n s kept h

pub numbers_still : (names more : List Symbol) (tokens : List NamedToken) (numbers : List (Option ℕ)) → take (length names) more ≡ names → HaveNumbers names tokens numbers → HaveNumbers more tokens numbers
numbers_still names more tokens numbers kept h p number t e f = has_still names more (named_symbol t) number kept (h p number t e f)

pub numbered_still : (names more : List Symbol) (literals : List Literal) → take (length names) more ≡ names → All (λ l. IsNumbered names l) literals → All (λ l. IsNumbered more l) literals
numbered_still names more literals kept h =
    All-weaker (λ l. IsNumbered names l) (λ l. IsNumbered more l)
    (λ l k. record {
      name = has_still names more (named_symbol l.name.now) l.number kept k.name;
      text = numbers_still names more l.text.now.tokens.items l.numbers.items kept k.text;
      all = k.all;
    })
    literals h

-- kept twice is kept
pub kept_along : (a b c : List Symbol) → take (length a) b ≡ a → take (length b) c ≡ b → take (length a) c ≡ a
kept_along [] b c f g = refl
kept_along (x ∷ xs) [] c f g = absurd (cc f)
kept_along (x ∷ xs) (y ∷ ys) [] f g = absurd (cc g)
kept_along (x ∷ xs) (y ∷ ys) (z ∷ zs) f g =
    let h : z ≡ y = cc g in
    let k : y ≡ x = cc f in
    let rest : take (length xs) zs ≡ xs = kept_along xs ys zs (cc f) (cc g) in
    ap (λ (s : Symbol). s ∷ take (length xs) zs) (h ∙ k) ∙ ap (λ (ss : List Symbol). x ∷ ss) rest

pub kept_all : (a : List Symbol) → take (length a) a ≡ a
kept_all a = take_all (length a) a (omega arith)

-- one more token has its number
pub numbers_more : (names : List Symbol) (tokens : List NamedToken) (numbers : List (Option ℕ)) (i : ℕ) (t : NamedToken) (number : Option ℕ) → length numbers ≡ i → i < length tokens → t ≡ get_or tokens i t
    → has_number names (named_symbol t) number ≡ true → HaveNumbers names tokens numbers → HaveNumbers names tokens (numbers ++ number ∷ [])
numbers_more names tokens numbers i t number at lt is this h p n x e f = by_case (got_pushed numbers number p n e)
  where
    there : slice_get tokens i ≡ Some t
    there = slice_get_read tokens (length tokens) i t refl lt is

    by_case : ((slice_get numbers p ≡ Some n) × (p < length numbers)) ⊎ ((p ≡ length numbers) × (number ≡ n)) → has_number names (named_symbol x) n ≡ true
    by_case (inl k) = h p n x k.0 f
    by_case (inr k) =
        let here : p ≡ i = k.0 ∙ at in
        let same : t ≡ x = same_Some t x (sym there ∙ ap (slice_get tokens) (sym here) ∙ f) in
        ap (λ (y : NamedToken). has_number names (named_symbol y) n) (sym same) ∙ ap (has_number names (named_symbol t)) (sym k.1) ∙ this

-- the literal of a number is the one that its name stands for
pub stands_at : (names : List Symbol) (literals : List Literal) (number i : ℕ) (l : Literal) → slice_get literals i ≡ Some l → l.is_first ≡ true → l.number ≡ Some number → AreFirst literals → All (λ l. IsNumbered names l) literals
    → StandsAt names (map literal_text literals) number i
stands_at names literals number i l at is same first numbered =
    let its : has_number names (named_symbol l.name.now) (Some number) ≡ true
    = ap (has_number names (named_symbol l.name.now)) (sym same)
    ∙ (subst (λ (x : Literal). IsNumbered names x) (get_or_from_slice_get literals i l l at) (numbered i l (slice_get_within literals i l at))).name in
    let r = stands_for names number (named_symbol l.name.now) its in
    let name : List ℕ = letters_of l.name.now.name in (
      r.0,
      r.1,
      ap (literal_at (map literal_text literals)) (sym (first i l at is))
          ∙ ap (λ (n : List ℕ). literal_at (map literal_text literals) (first_named n literals)) (l.name.now.in_normal_form ∙ sym r.2.same)
          ∙ text_found r.0.text literals
          ∙ ap (λ (b : Bool). cond b (find (λ t. names_equal t.name r.0.text) (map literal_text literals)) None) (sym r.2.first),
    )

-- ---- the first literals of their names

pub first_at_end : (name : List ℕ) (ls : List Literal) (l : Literal) → None ≡ first_named name ls → has_name name l ≡ true → first_named name (ls ++ l ∷ []) ≡ Some (length ls)
first_at_end name [] l none is = ap (λ (b : Bool). cond b (Some 0) None) is
first_at_end name (x ∷ xs) l none is = by_test (λ k. first_at_end name xs l k is) (has_name name x) none
  where
    behind : (o : Option ℕ) → None ≡ option_map (λ i. suc i) o → None ≡ o
    behind None e = refl
    behind (Some i) e = absurd (cc e)

    by_test : (None ≡ first_named name xs → first_named name (xs ++ l ∷ []) ≡ Some (length xs)) → (b : Bool) → None ≡ cond b (Some 0) (option_map (λ i. suc i) (first_named name xs)) → cond b (Some 0) (option_map (λ i. suc i) (first_named name (xs ++ l ∷ []))) ≡ Some (suc (length xs))
    by_test further true e = absurd (cc e)
    by_test further false e = ap (λ (o : Option ℕ). option_map (λ i. suc i) o) (further (behind (first_named name xs) e))

first_stays : (name : List ℕ) (ls : List Literal) (l : Literal) (p : ℕ) → first_named name ls ≡ Some p → first_named name (ls ++ l ∷ []) ≡ Some p
first_stays name ls l p e =
    first_of_all name (length ls) (ls ++ l ∷ []) p
    (ap (first_named name) (take-append-le (length ls) ls (l ∷ []) (omega arith) ∙ take_all (length ls) ls (omega arith)) ∙ e)

pub first_among : (name : List ℕ) (n : ℕ) (ls : List Literal) (p : ℕ) → p < n → first_named name ls ≡ Some p → first_named name (take n ls) ≡ Some p
first_among name zero ls p lt e = absurd (omega (arith, lt))
first_among name (suc n) [] p lt e = e
first_among name (suc n) (x ∷ xs) p lt e = by_test (further (λ q less k. first_among name n xs q less k) (first_named name xs) refl) (has_name name x) e
  where
    further : ((q : ℕ) → q < n → first_named name xs ≡ Some q → first_named name (take n xs) ≡ Some q) → (o : Option ℕ) → first_named name xs ≡ o → option_map (λ i. suc i) o ≡ Some p
        → option_map (λ i. suc i) (first_named name (take n xs)) ≡ Some p
    further among None k f = absurd (cc f)
    further among (Some q) k f =
        let one : suc q ≡ p = same_Some (suc q) p f in
        ap (λ (o : Option ℕ). option_map (λ i. suc i) o) (among q (omega (arith, lt, one)) k) ∙ f

    by_test : (option_map (λ i. suc i) (first_named name xs) ≡ Some p → option_map (λ i. suc i) (first_named name (take n xs)) ≡ Some p) → (b : Bool) → cond b (Some 0) (option_map (λ i. suc i) (first_named name xs)) ≡ Some p → cond b (Some 0) (option_map (λ i. suc i) (first_named name (take n xs))) ≡ Some p
    by_test behind true k = k
    by_test behind false k = behind k

pub firsts_fewer : (n : ℕ) (ls : List Literal) → AreFirst ls → AreFirst (take n ls)
firsts_fewer n ls h i l e is =
    let there = got_first ls n i l e in
    first_among (letters_of l.name.now.name) n ls i there.1 (h i l there.0 is)

has_its_name : (l : Literal) → has_name (letters_of l.name.now.name) l ≡ true
has_its_name l = (bytes_eq-Decides (letters_of l.name.now.name) (letters_of l.name.now.name)).1 refl

pub firsts_more : (ls : List Literal) (l : Literal) → AreFirst ls → (l.is_first ≡ true → None ≡ first_named (letters_of l.name.now.name) ls) → AreFirst (ls ++ l ∷ [])
firsts_more ls l h new i x e is = by_case (got_pushed ls l i x e)
  where
    by_case : ((slice_get ls i ≡ Some x) × (i < length ls)) ⊎ ((i ≡ length ls) × (l ≡ x)) → first_named (letters_of x.name.now.name) (ls ++ l ∷ []) ≡ Some i
    by_case (inl k) = first_stays (letters_of x.name.now.name) ls l i (h i x k.0 is)
    by_case (inr k) =
        let none : None ≡ first_named (letters_of l.name.now.name) ls = new (ap (λ (y : Literal). y.is_first) k.1 ∙ is) in
        ap (λ (y : Literal). first_named (letters_of y.name.now.name) (ls ++ l ∷ [])) (sym k.1)
        ∙ first_at_end (letters_of l.name.now.name) ls l none (has_its_name l)
        ∙ ap (λ (m : ℕ). Some m) (sym k.0)

pub firsts_so : (b : Bool) (ls : List Literal) (l : Literal) → AreFirst ls → (l.is_first ≡ true → None ≡ first_named (letters_of l.name.now.name) ls) → AreFirst (if b then ls ++ l ∷ [] else ls)
firsts_so false ls l h new = h
firsts_so true ls l h new = firsts_more ls l h new

pub numbered_so : (b : Bool) (names : List Symbol) (ls : List Literal) (l : Literal) → All (λ l. IsNumbered names l) ls → IsNumbered names l → All (λ l. IsNumbered names l) (if b then ls ++ l ∷ [] else ls)
numbered_so false names ls l h k = h
numbered_so true names ls l h k = All-push (λ l. IsNumbered names l) ls l h k

-- no literal has the name
pub none_there : (found : Option ℕ) (none : Bool) → is_some found ≡ not none → none ≡ true → None ≡ found
none_there None none e h = refl
none_there (Some i) true e h = absurd (cc e)
none_there (Some i) false e h = absurd (cc h)

-- what a new literal has
pub numbered_new : (a b : Names) (all : List Symbol) (l : Literal) (tokens : List NamedToken) → b ≡ a → has_number (names_in a) (named_symbol l.name.now) l.number ≡ true → take (length (names_in b)) all ≡ names_in b
    → tokens ≡ l.text.now.tokens.items → HaveNumbers all tokens l.numbers.items → length l.numbers.items ≡ length tokens → IsNumbered all l
numbered_new a b all l tokens same name kept text have every = record {
  name = has_still (names_in b) all (named_symbol l.name.now) l.number kept (subst (λ (n : Names). has_number (names_in n) (named_symbol l.name.now) l.number ≡ true) (sym same) name);
  text = subst (λ (ts : List NamedToken). HaveNumbers all ts l.numbers.items) text have;
  all = every ∙ ap length text;
}

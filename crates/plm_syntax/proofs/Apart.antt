-- The literals in force have names of their own, and texts without strings.
use Rattle.std.proofs.Common.{◌≡◌, ℕ, zero, suc, ◌<◌, List, [], ◌∷◌, ◌++◌, length, take, get_or, Bool, true, false, cond, find, bytes_eq, Option, Some, None, Result, Ok, Err, refl, sym, ap, ◌∙◌, subst, arith}
use Rattle.std.proofs.lemmas.List.{append-nil}
use Rattle.std.proofs.lemmas.Slice.Eq.{bytes_eq-Decides}
use Rattle.word86.specs.declared.number.Number.{Number}
use Rattle.plm_token.specs.Names.{normal, names_equal}
use Rattle.plm_token.specs.Literals.{Symbol, literal_of}
use Rattle.plm_syntax.specs.Literals.{LiteralText, Blocks, closed, between}
use Rattle.plm_syntax.proofs.Words.{Word, Opens, Ends, Declares, Finishes, Named, Quoted, Other, ends_words, name_words, finished, named, behind}
use Rattle.plm_syntax.proofs.PlainText.{IsPlain, plain_literal}

abbrev pub IsAbsent : List ℕ → List LiteralText → Type 0
IsAbsent name ls = find (λ l. names_equal l.name name) ls ≡ None

abbrev pub ArePlain : List LiteralText → Type 0
ArePlain [] = Unit {0}
ArePlain (l ∷ ls) = IsPlain l.text × ArePlain ls

abbrev pub IsNone : List ℕ → List LiteralText → Type 0
IsNone name [] = Unit {0}
IsNone name (l ∷ ls) = (names_equal name l.name ≡ false) × IsNone name ls

abbrev pub AreApart : List LiteralText → Type 0
AreApart [] = Unit {0}
AreApart (l ∷ ls) = IsNone l.name ls × AreApart ls

-- ---- one more

pub plain_more : (ls : List LiteralText) (l : LiteralText) → ArePlain ls → IsPlain l.text → ArePlain (ls ++ l ∷ [])
plain_more [] l h k = (k, tt)
plain_more (x ∷ ls) l h k = (h.0, plain_more ls l h.1 k)

pub none_more : (name : List ℕ) (ls : List LiteralText) (l : LiteralText) → IsNone name ls → names_equal name l.name ≡ false → IsNone name (ls ++ l ∷ [])
none_more name [] l h k = (k, tt)
none_more name (x ∷ ls) l h k = (h.0, none_more name ls l h.1 k)

pub passed_over : {X : Type 0} (b : Bool) (x : X) (o : Option X) → cond b (Some x) o ≡ None → b ≡ false
passed_over true x o h = absurd cc
passed_over false x o h = refl

pub none_behind : {X : Type 0} (b : Bool) (x : X) (o : Option X) → cond b (Some x) o ≡ None → o ≡ None
none_behind true x o h = absurd cc
none_behind false x o h = h

pub apart_more : (ls : List LiteralText) (l : LiteralText) → AreApart ls → IsAbsent l.name ls → AreApart (ls ++ l ∷ [])
apart_more [] l h k = (tt, tt)
apart_more (x ∷ ls) l h k =
    (none_more x.name ls l h.0 (passed_over (names_equal x.name l.name) x (find (λ y. names_equal y.name l.name) ls) k), apart_more ls l h.1 (none_behind (names_equal x.name l.name) x (find (λ y. names_equal y.name l.name) ls) k))

-- ---- the first n

pub plain_take : (n : ℕ) (ls : List LiteralText) → ArePlain ls → ArePlain (take n ls)
plain_take zero ls h = tt
plain_take (suc n) [] h = tt
plain_take (suc n) (l ∷ ls) h = (h.0, plain_take n ls h.1)

pub none_take : (name : List ℕ) (n : ℕ) (ls : List LiteralText) → IsNone name ls → IsNone name (take n ls)
none_take name zero ls h = tt
none_take name (suc n) [] h = tt
none_take name (suc n) (l ∷ ls) h = (h.0, none_take name n ls h.1)

pub apart_take : (n : ℕ) (ls : List LiteralText) → AreApart ls → AreApart (take n ls)
apart_take zero ls h = tt
apart_take (suc n) [] h = tt
apart_take (suc n) (l ∷ ls) h = (none_take l.name n ls h.0, apart_take n ls h.1)

-- ---- what is found

pub same_name : (a b c : List ℕ) → names_equal a b ≡ true → names_equal c b ≡ names_equal c a
unfolding names_equal
same_name a b c h = ap (bytes_eq (normal c)) (sym ((bytes_eq-Decides (normal a) (normal b)).0 h))

pub none_at : (name : List ℕ) (ls : List LiteralText) (k : ℕ) (l : LiteralText) → IsNone name ls → k < length ls → get_or ls k l ≡ l → names_equal name l.name ≡ false
none_at name [] k l h lt e = absurd (omega (arith, lt))
none_at name (x ∷ ls) zero l h lt e = ap (λ (y : LiteralText). names_equal name y.name) (sym e) ∙ h.0
none_at name (x ∷ ls) (suc k) l h lt e = none_at name ls k l h.1 (omega (arith, lt)) e

pub find_at : (ls : List LiteralText) (k : ℕ) (l : LiteralText) (text : List ℕ) → AreApart ls → k < length ls → get_or ls k l ≡ l → names_equal l.name text ≡ true → find (λ x. names_equal x.name text) ls ≡ Some l
find_at [] k l text h lt e s = absurd (omega (arith, lt))
find_at (x ∷ ls) zero l text h lt e s = ap (λ (y : LiteralText). cond (names_equal y.name text) (Some y) (find (λ z. names_equal z.name text) ls)) e ∙ ap (λ (b : Bool). cond b (Some l) (find (λ z. names_equal z.name text) ls)) s
find_at (x ∷ ls) (suc k) l text h lt e s = ap (λ (b : Bool). cond b (Some x) (find (λ z. names_equal z.name text) ls)) (same_name l.name text x.name s ∙ none_at x.name ls k l h.0 (omega (arith, lt)) e) ∙ find_at ls k l text h.1 (omega (arith, lt)) e s

pub plain_found : (p : LiteralText → Bool) (ls : List LiteralText) (l : LiteralText) → find p ls ≡ Some l → ArePlain ls → IsPlain l.text
plain_found p [] l e h = absurd cc
plain_found p (x ∷ ls) l e h = by_test (p x) (λ k. plain_found p ls l k h.1) e
  where
    same : Some x ≡ Some l → x ≡ l
    same k = cc

    by_test : (b : Bool) → (find p ls ≡ Some l → IsPlain l.text) → cond b (Some x) (find p ls) ≡ Some l → IsPlain l.text
    by_test true on k = subst (λ (y : LiteralText). IsPlain y.text) (same k) h.0
    by_test false on k = on k

-- ---- through words

-- no literal has the name of a name that came out last, also after LITERALLY
abbrev pub IsFresh : Word → Word → List LiteralText → Type 0
IsFresh (Named n) b ls = IsAbsent n ls
IsFresh Declares (Named n) ls = IsAbsent n ls
IsFresh a b ls = Unit {0}

-- a name comes out where no literal has it
abbrev pub May : Word → List LiteralText → Type 0
May (Named n) ls = IsAbsent n ls
May w ls = Unit {0}

pub record Sound (bs : Blocks) (a b : Word) : Type 0 where
  pub plain : ArePlain bs.literals
  pub apart : AreApart bs.literals
  pub fresh : IsFresh a b bs.literals

pub plain_closed : (ls : List LiteralText) (ns : List ℕ) → ArePlain ls → ArePlain (closed ls ns).literals
plain_closed ls [] h = h
plain_closed ls (n ∷ ns) h = plain_take n ls h

pub apart_closed : (ls : List LiteralText) (ns : List ℕ) → AreApart ls → AreApart (closed ls ns).literals
apart_closed ls [] h = h
apart_closed ls (n ∷ ns) h = apart_take n ls h

pub plain_finished : (e : Bool) (bs : Blocks) → ArePlain bs.literals → ArePlain (finished e bs).literals
plain_finished true bs h = plain_closed bs.literals bs.starts h
plain_finished false bs h = h

pub apart_finished : (e : Bool) (bs : Blocks) → AreApart bs.literals → AreApart (finished e bs).literals
apart_finished true bs h = apart_closed bs.literals bs.starts h
apart_finished false bs h = h

pub plain_named : (name : Option (List ℕ)) (r : Result (List Symbol) Number) (bs : Blocks) → ((symbols : List Symbol) → r ≡ Ok symbols → IsPlain symbols) → ArePlain bs.literals → ArePlain (named name r bs).literals
plain_named None r bs p h = h
plain_named (Some n) (Ok text) bs p h = plain_more bs.literals (record { name = n; text = text }) h (p text refl)
plain_named (Some n) (Err number) bs p h = subst ArePlain (sym (append-nil bs.literals)) h

pub apart_named : (name : Option (List ℕ)) (r : Result (List Symbol) Number) (bs : Blocks) → ((n : List ℕ) → name ≡ Some n → IsAbsent n bs.literals) → AreApart bs.literals → AreApart (named name r bs).literals
apart_named None r bs p h = h
apart_named (Some n) (Ok text) bs p h = apart_more bs.literals (record { name = n; text = text }) h (p n refl)
apart_named (Some n) (Err number) bs p h = subst AreApart (sym (append-nil bs.literals)) h

pub fresh_name : (a b : Word) (n : List ℕ) (ls : List LiteralText) → IsFresh a b ls → name_words a b ≡ Some n → IsAbsent n ls
fresh_name Declares (Named m) n ls h e = subst (λ (x : List ℕ). IsAbsent x ls) (same e) h
  where
    same : Some m ≡ Some n → m ≡ n
    same k = cc
fresh_name a b n ls h e = absurd cc

pub fresh_declares : (a b : Word) (ls : List LiteralText) → IsFresh a b ls → IsFresh Declares a ls
fresh_declares (Named n) b ls h = h
fresh_declares a b ls h = tt

pub sound_behind : (w a b : Word) (bs : Blocks) → Sound bs a b → May w bs.literals → Sound (behind w a b bs) w a
sound_behind Opens a b bs s m = record { plain = s.plain; apart = s.apart; fresh = tt }
sound_behind Ends a b bs s m = record { plain = s.plain; apart = s.apart; fresh = tt }
sound_behind Declares a b bs s m = record { plain = s.plain; apart = s.apart; fresh = fresh_declares a b bs.literals s.fresh }
sound_behind Finishes a b bs s m = record { plain = plain_finished (ends_words a b) bs s.plain; apart = apart_finished (ends_words a b) bs s.apart; fresh = tt }
sound_behind (Named n) a b bs s m = record { plain = s.plain; apart = s.apart; fresh = m }
sound_behind (Quoted t) a b bs s m = record {
  plain = plain_named (name_words a b) (literal_of (between t)) bs (plain_literal (between t)) s.plain;
  apart = apart_named (name_words a b) (literal_of (between t)) bs (λ n e. fresh_name a b n bs.literals s.fresh e) s.apart;
  fresh = tt;
}
sound_behind Other a b bs s m = record { plain = s.plain; apart = s.apart; fresh = tt }

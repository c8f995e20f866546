-- Tokens of literals that put nothing out, and what that rests on.
use Rattle.std.proofs.lemmas.Bool.{and_from, and_parts}
use Rattle.std.proofs.Common.{◌≡◌, ◌∙◌, ℕ, zero, suc, List, [], ◌∷◌, ◌++◌, Bool, true, false, cond, Option, Some, None, find, fold, ap, refl, sym}
use Rattle.std.specs.List.{list_all}
use Rattle.std.specs.Option.{option_or}
use Rattle.std.specs.Prelude.{bytes_eq}
use Rattle.std.proofs.lemmas.List.Folds.{find-append}
use Rattle.word86.specs.declared.number.Number.{Number}
use Rattle.plm_token.specs.Names.{normal, names_equal}
use Rattle.plm_token.specs.Literals.{Symbol, on_line}
use Rattle.plm_syntax.specs.Literals.{LiteralText, Out, or_else, by_literal, literal_for, put, symbol_out, text_out, is_identifier}
use Rattle.plm_syntax.specs.Inner.NamedToken.{IsSameName}
use Rattle.plm_syntax.specs.Inner.Known.{each_quiet, is_quiet, is_quiet_text}

-- ---- tests of all tokens

pub all_along : {A : Type 0} (p q : A → Bool) → ((x : A) → p x ≡ true → q x ≡ true) → (xs : List A) → list_all p xs ≡ true → list_all q xs ≡ true
all_along p q f [] h = refl
all_along p q f (x ∷ xs) h = and_from (q x) (list_all q xs) (f x (and_parts (p x) (list_all p xs) h).0) (all_along p q f xs (and_parts (p x) (list_all p xs) h).1)

-- ---- more replacements, and more literals

found_still : (literals more : List LiteralText) (s : Symbol) (l : LiteralText) → literal_for literals s.kind s.text ≡ Some l → literal_for (literals ++ more) s.kind s.text ≡ Some l
found_still literals more s l e = by_kind (is_identifier s.kind) e
  where
    test : LiteralText → Bool
    test = λ t. names_equal t.name s.text

    by_kind : (b : Bool) → cond b (find test literals) None ≡ Some l → cond b (find test (literals ++ more)) None ≡ Some l
    by_kind true f = find-append test literals more ∙ ap (λ (x : Option LiteralText). option_or x (find test more)) f
    by_kind false f = absurd (cc f)

named_among_more : (n : ℕ) (literals more : List LiteralText) (s : Symbol) → ((x : Symbol) → is_quiet n literals x ≡ true → is_quiet n (literals ++ more) x ≡ true)
    → (found : Option LiteralText) → literal_for literals s.kind s.text ≡ found → each_quiet (is_quiet n literals) found ≡ true → each_quiet (is_quiet n (literals ++ more)) (literal_for (literals ++ more) s.kind s.text) ≡ true
named_among_more n literals more s f None e k = absurd (cc k)
named_among_more n literals more s f (Some l) e k =
    ap (each_quiet (is_quiet n (literals ++ more))) (found_still literals more s l e) ∙ all_along (is_quiet n literals) (is_quiet n (literals ++ more)) f l.text k

pub quiet_among_more : (n : ℕ) (literals more : List LiteralText) (s : Symbol) → is_quiet n literals s ≡ true → is_quiet n (literals ++ more) s ≡ true
unfolding is_quiet
quiet_among_more zero literals more s h = absurd (cc h)
quiet_among_more (suc n) literals more s h = named_among_more n literals more s (quiet_among_more n literals more) (literal_for literals s.kind s.text) refl h

-- ---- what a step does

-- tokens that are each quiet change nothing
all_same : (F : Symbol → Out → Out) (quiet : List LiteralText → Symbol → Bool) → ((s : Symbol) (o : Out) → quiet o.blocks.literals s ≡ true → F s o ≡ o)
    → (ss : List Symbol) (o : Out) → list_all (quiet o.blocks.literals) ss ≡ true → fold (λ p x. F x p) o ss ≡ o
all_same F quiet same [] o h = refl
all_same F quiet same (s ∷ ss) o h =
    ap (λ (q : Out). fold (λ p x. F x p) q ss) (same s o (and_parts (quiet o.blocks.literals s) (list_all (quiet o.blocks.literals) ss) h).0)
    ∙ all_same F quiet same ss o (and_parts (quiet o.blocks.literals s) (list_all (quiet o.blocks.literals) ss) h).1

or_same : (stop : Option (Number × ℕ)) (o next : Out) → next ≡ o → or_else stop o next ≡ o
or_same None o next e = e
or_same (Some s) o next e = refl

by_same : (replaced : LiteralText → Out) (found : Option LiteralText) (plain o : Out) (quiet : Symbol → Bool) → ((l : LiteralText) → list_all quiet l.text ≡ true → replaced l ≡ o)
    → each_quiet quiet found ≡ true → by_literal replaced found plain ≡ o
by_same replaced None plain o quiet f h = absurd (cc h)
by_same replaced (Some l) plain o quiet f h = f l h

quiet_symbol_out : (depth line : ℕ) (s : Symbol) (o : Out) → is_quiet depth o.blocks.literals s ≡ true → symbol_out depth line s o ≡ o
unfolding symbol_out is_quiet
quiet_symbol_out zero line s o h = absurd (cc h)
quiet_symbol_out (suc depth) line s o h =
    or_same o.stop o _ (by_same _ (literal_for o.blocks.literals s.kind s.text) (put (on_line line s) o) o (is_quiet depth o.blocks.literals)
    (λ l k. all_same (symbol_out depth line) (is_quiet depth) (quiet_symbol_out depth line) l.text o k) h)

-- a text that is quiet changes nothing
pub quiet_text_out : (depth line : ℕ) (text : List Symbol) (o : Out) → is_quiet_text depth o.blocks.literals text ≡ true → text_out depth line text o ≡ o
quiet_text_out depth line text o h = all_same (symbol_out depth line) (is_quiet depth) (quiet_symbol_out depth line) text o h

-- ---- two names that are one

named_same : (literals : List LiteralText) (a b : Symbol) → IsSameName a b → literal_for literals a.kind a.text ≡ literal_for literals b.kind b.text
unfolding names_equal
named_same literals a b h =
    ap (λ (x : Bool). cond x (find (λ l. names_equal l.name a.text) literals) None) (h.first ∙ sym h.second)
    ∙ ap (λ (n : List ℕ). cond (is_identifier b.kind) (find (λ l. bytes_eq (normal l.name) n) literals) None) h.same

pub quiet_same : (depth : ℕ) (literals : List LiteralText) (a b : Symbol) → IsSameName a b → is_quiet depth literals a ≡ is_quiet depth literals b
unfolding is_quiet
quiet_same zero literals a b h = refl
quiet_same (suc depth) literals a b h = ap (each_quiet (is_quiet depth literals)) (named_same literals a b h)

-- One token of a literal's text.
use Rattle.std.proofs.Common.{◌≡◌, ◌∙◌, ℕ, zero, suc, List, [], ◌∷◌, Bool, true, false, cond, Option, Some, None, is_some, Result, Ok, Err, map, fold, length, get_or, ◌<◌, ap, refl, sym, ◌≢◌, ◌-◌, arith}
use Rattle.std.specs.List.{slice_get}
use Rattle.std.proofs.lemmas.Option.{slice_get-get_or}
use Rattle.word86.specs.declared.number.Number.{Number}
use Rattle.word86.specs.declared.number.Number.TheVariants.{E202}
use Rattle.word86.specs.declared.fault.Fault.{Fault}
use Rattle.plm_token.specs.declared.token.Kind.{Kind}
use Rattle.plm_token.specs.declared.token.Token.{Token}
use Rattle.plm_syntax.specs.declared.literals.Source.{Source}
use Rattle.plm_token.specs.Scanner.{Lexeme, lexemes}
use Rattle.plm_token.specs.Literals.{Symbol, on_line, at_line, literal_of}
use Rattle.plm_syntax.specs.Literals.{LiteralText, Out, or_else, by_literal, literal_for, put, stop_at, symbol_out, text_out, source_out, declare, declared_name, is_string, between, nothing_out, expanded}
use Rattle.plm_syntax.specs.Inner.Scope.{symbol, text_of, text_at}
use Rattle.plm_syntax.specs.Inner.Literals.{with_text, out_with_text, text_for, declare_text, source_view}

stopped : (stop : Option (Number × ℕ)) (o next : Out) → is_some stop ≡ true → or_else stop o next ≡ o
stopped None o next e = absurd (cc e)
stopped (Some s) o next e = refl

going : (stop : Option (Number × ℕ)) (o next : Out) → is_some stop ≡ false → or_else stop o next ≡ next
going None o next e = refl
going (Some s) o next e = absurd (cc e)

pub symbol_stopped : (depth line : ℕ) (s : Symbol) (o : Out) → is_some o.stop ≡ true → o ≡ symbol_out depth line s o
unfolding symbol_out
symbol_stopped zero line s o e = sym (stopped o.stop o _ e)
symbol_stopped (suc depth) line s o e = sym (stopped o.stop o _ e)

pub symbol_plain : (depth line : ℕ) (s : Symbol) (o : Out) → is_some o.stop ≡ false → literal_for o.blocks.literals s.kind s.text ≡ None → put (on_line line s) o ≡ symbol_out depth line s o
unfolding symbol_out
symbol_plain zero line s o e none = sym (going o.stop o _ e ∙ rw none refl)
symbol_plain (suc depth) line s o e none = sym (going o.stop o _ e ∙ rw none refl)

pub symbol_deep : (line : ℕ) (s : Symbol) (o : Out) (l : LiteralText) → is_some o.stop ≡ false → literal_for o.blocks.literals s.kind s.text ≡ Some l → stop_at E202 line o ≡ symbol_out 0 line s o
unfolding symbol_out
symbol_deep line s o l e some = sym (going o.stop o _ e ∙ rw some refl)

pub symbol_text : (depth line : ℕ) (s : Symbol) (o : Out) (l : LiteralText) → is_some o.stop ≡ false → literal_for o.blocks.literals s.kind s.text ≡ Some l
    → text_out depth line l.text o ≡ symbol_out (suc depth) line s o
unfolding symbol_out
symbol_text depth line s o l e some = sym (going o.stop o _ e ∙ rw some refl)

pub symbol_at_ninth : (depth line : ℕ) (s : Symbol) (o : Out) (l : LiteralText) → depth ≡ 0 → is_some o.stop ≡ false → literal_for o.blocks.literals s.kind s.text ≡ Some l
    → stop_at E202 line o ≡ symbol_out depth line s o
symbol_at_ninth depth line s o l zeroth e some = rw zeroth (symbol_deep line s o l e some)

pub symbol_replaced : (depth line : ℕ) (s : Symbol) (o : Out) (l : LiteralText) → depth ≢ 0 → is_some o.stop ≡ false → literal_for o.blocks.literals s.kind s.text ≡ Some l
    → text_out (depth - 1) line l.text o ≡ symbol_out depth line s o
symbol_replaced zero line s o l more e some = absurd (more refl)
symbol_replaced (suc depth) line s o l more e some = let less : suc depth - 1 ≡ depth = omega arith in rw less (symbol_text depth line s o l e some)

-- ---- a literal by its number

pub some_at : (literals : List LiteralText) (i : ℕ) → i < length literals → (l : LiteralText) × (slice_get literals i ≡ Some l)
some_at literals i lt = let nameless : LiteralText = record { name = []; text = [] } in (get_or literals i nameless, slice_get-get_or literals i nameless lt)

pub numbered_deep : (depth line : ℕ) (s : Symbol) (o : Out) (i : ℕ) → depth ≡ 0 → is_some o.stop ≡ false → slice_get o.blocks.literals i ≡ literal_for o.blocks.literals s.kind s.text → i < length o.blocks.literals
    → stop_at E202 line o ≡ symbol_out depth line s o
numbered_deep depth line s o i zeroth e at lt = let named = some_at o.blocks.literals i lt in symbol_at_ninth depth line s o named.0 zeroth e (sym at ∙ named.1)

pub numbered_text : (depth line : ℕ) (s : Symbol) (o : Out) (i : ℕ) → depth ≢ 0 → is_some o.stop ≡ false → slice_get o.blocks.literals i ≡ literal_for o.blocks.literals s.kind s.text → i < length o.blocks.literals
    → text_out (depth - 1) line (text_at o.blocks.literals i) o ≡ symbol_out depth line s o
numbered_text depth line s o i more e at lt =
    let named = some_at o.blocks.literals i lt in
    ap (λ (found : Option LiteralText). text_out (depth - 1) line (text_of found) o) named.1 ∙ symbol_replaced depth line s o named.0 more e (sym at ∙ named.1)

-- only a string declares
pub no_string : (kind : Kind) (last before : Option Lexeme) → is_string kind ≡ false → declared_name kind last before ≡ None
no_string kind None before e = refl
no_string kind (Some last) None e = refl
no_string kind (Some last) (Some before) e = rw e refl

with_its_text : (t : Lexeme) (o : Out) (p : Bool) → is_string t.kind ≡ p
    → declare_text (declared_name t.kind o.last o.before) (cond p (Some (literal_of (between t.text))) None) t.line (put t o) ≡ declare (declared_name t.kind o.last o.before) (literal_of (between t.text)) t.line (put t o)
with_its_text t o true e = refl
with_its_text t o false e = rw (no_string t.kind o.last o.before e) refl

source_same : (t : Lexeme) (o : Out) → out_with_text (with_text t) o ≡ source_out t o
source_same t o = ap (λ (q : Out). or_else o.stop o (by_literal (λ l. text_out 7 t.line l.text o) (literal_for o.blocks.literals t.kind t.text) q)) (with_its_text t o (is_string t.kind) refl)

pub all_sources : (ts : List Lexeme) (o : Out) → fold (λ q p. out_with_text p q) o (map with_text ts) ≡ fold (λ q t. source_out t q) o ts
all_sources [] o = refl
all_sources (t ∷ ts) o = ap (λ (q : Out). fold (λ r p. out_with_text p r) q (map with_text ts)) (source_same t o) ∙ all_sources ts (source_out t o)

-- the sources prepared, replaced
pub expanded_same : (sources : List Source) (ts : List Lexeme) → map source_view sources ≡ map with_text ts → fold (λ q p. out_with_text p q) nothing_out (map source_view sources) ≡ expanded ts
unfolding expanded
expanded_same sources ts e = rw e (all_sources ts nothing_out)

abbrev strip : Lexeme → Symbol
strip t = record { kind = t.kind; text = t.text }

strip_line : (symbols : List Symbol) → map strip (map (on_line 0) symbols) ≡ symbols
strip_line [] = refl
strip_line (s ∷ ss) = ap (λ (xs : List Symbol). s ∷ xs) (strip_line ss)

strip_token : (ts : List Token) → map strip (lexemes ts) ≡ map symbol ts
strip_token [] = refl
strip_token (t ∷ ts) = ap (λ (xs : List Symbol). symbol t ∷ xs) (strip_token ts)

same_tokens : (r : Result (List Lexeme) Fault) (xs ys : List Lexeme) → r ≡ Ok xs → r ≡ Ok ys → xs ≡ ys
same_tokens r xs ys e f = cc

from_literal : (r : Result (List Symbol) Number) (ts : List Token) → at_line 0 r ≡ Ok (lexemes ts) → r ≡ Ok (map symbol ts)
from_literal (Ok symbols) ts e =
    let same : map (on_line 0) symbols ≡ lexemes ts = same_tokens (Ok (map (on_line 0) symbols)) (map (on_line 0) symbols) (lexemes ts) refl e in
    ap (λ (xs : List Symbol). Ok xs) (sym (strip_line symbols) ∙ ap (map strip) same ∙ strip_token ts)
from_literal (Err number) ts e = absurd (cc e)

pub text_ok : (kind : Kind) (text inner : List ℕ) (ts : List Token) → is_string kind ≡ true → inner ≡ between text → at_line 0 (literal_of inner) ≡ Ok (lexemes ts)
    → Some (Ok (map symbol ts)) ≡ text_for kind text
text_ok kind text inner ts string e h =
    let inside : literal_of inner ≡ Ok (map symbol ts) = from_literal (literal_of inner) ts h in
    rw (string, ← e, inside) refl

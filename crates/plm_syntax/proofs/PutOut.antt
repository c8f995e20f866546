-- What comes out of a source is put out token by token, and a name comes out only where no literal has it.
use Rattle.std.proofs.Common.{◌≡◌, ℕ, zero, suc, List, [], ◌∷◌, ◌++◌, length, take, fold, Bool, true, false, cond, find, Option, Some, None, is_some, Result, Ok, Err, refl, sym, ap, ◌∙◌, subst, append_assoc, arith}
use Rattle.std.specs.List.{Contains}
use Rattle.std.proofs.Math.Seq.{take-append_seam}
use Rattle.std.proofs.lemmas.List.{append-nil, length-append}
use Rattle.std.proofs.lemmas.List.Sums.{fold-append}
use Rattle.word86.specs.declared.number.Number.{Number}
use Rattle.word86.specs.declared.number.Number.TheVariants.{E202}
use Rattle.plm_token.specs.declared.token.Keyword.{Keyword}
use Rattle.plm_token.specs.declared.token.Keyword.TheVariants as key
use Rattle.plm_token.specs.declared.token.Mark.{Mark}
use Rattle.plm_token.specs.declared.token.Mark.TheVariants as mark
use Rattle.plm_token.specs.declared.token.Kind.{Kind}
use Rattle.plm_token.specs.declared.token.Kind.TheVariants.{Reserved, Identifier, Numeral as NumeralKind, String, Special}
use Rattle.plm_token.specs.Names.{names_equal}
use Rattle.plm_token.specs.Scanner.{Lexeme}
use Rattle.plm_token.specs.Literals.{Symbol, on_line, literal_of}
use Rattle.plm_syntax.specs.Terminal.{Finish, leaf}
use Rattle.plm_syntax.specs.Tree.{ModuleT}
use Rattle.plm_syntax.specs.Sentence.{Spells}
use Rattle.plm_syntax.specs.Literals.{LiteralText, Blocks, Out, is_identifier, is_string, declared_name, between, declare, put, put_source, literal_for, by_literal, stop_at, or_else, symbol_out, text_out, source_out, nothing_out, expanded}
use Rattle.plm_syntax.specs.Faults.{tokens_from, text_end}
use Rattle.plm_syntax.specs.InForce.{in_force, put_all, IsRead, of_source, of_text, LiteralsInForce}
use Rattle.plm_syntax.proofs.Replaced.{symbol_stopped, symbol_text}
use Rattle.plm_syntax.proofs.Words.{key_word, sign_word}
use Rattle.plm_syntax.proofs.InForce.{word_for, word_last, put_does, declare_last, declare_before, puts, at_token}
use Rattle.plm_syntax.proofs.PlainText.{IsPlain}
use Rattle.plm_syntax.proofs.Apart.{ArePlain, AreApart, find_at, plain_found, May, Sound, sound_behind}
use Rattle.plm_syntax.proofs.Replaced.{no_string}

-- ---- one token put out

abbrev pub SoundOut : Out → Type 0
SoundOut o = Sound o.blocks (word_last o.last) (word_last o.before)

abbrev pub MayOut : Lexeme → Out → Type 0
MayOut t o = May (word_for t.kind t.text) o.blocks.literals

pub sound_put : (t : Lexeme) (o : Out) → SoundOut o → MayOut t o → SoundOut (put_source t o)
sound_put t o s m =
    subst (λ (x : Option Lexeme). Sound (put_source t o).blocks (word_last (put_source t o).last) (word_last x)) (sym (declare_before (declared_name t.kind o.last o.before) (literal_of (between t.text)) t.line (put t o)))
    (subst (λ (x : Option Lexeme). Sound (put_source t o).blocks (word_last x) (word_last o.last)) (sym (declare_last (declared_name t.kind o.last o.before) (literal_of (between t.text)) t.line (put t o)))
    (subst (λ (x : Blocks). Sound x (word_for t.kind t.text) (word_last o.last)) (sym (put_does t o))
    (sound_behind (word_for t.kind t.text) (word_last o.last) (word_last o.before) o.blocks s m)))

pub declare_tokens : (name : Option (List ℕ)) (r : Result (List Symbol) Number) (line : ℕ) (o : Out) → (declare name r line o).tokens ≡ o.tokens
declare_tokens None r line o = refl
declare_tokens (Some n) (Ok text) line o = refl
declare_tokens (Some n) (Err number) line o = refl

pub put_tokens : (t : Lexeme) (o : Out) → (put_source t o).tokens ≡ o.tokens ++ t ∷ []
put_tokens t o = declare_tokens (declared_name t.kind o.last o.before) (literal_of (between t.text)) t.line (put t o)

-- a token that is no string declares nothing
pub put_plain : (t : Lexeme) (o : Out) → is_string t.kind ≡ false → put_source t o ≡ put t o
put_plain t o h = ap (λ (x : Option (List ℕ)). declare x (literal_of (between t.text)) t.line (put t o)) (no_string t.kind o.last o.before h)

-- ---- tokens put out one after the other

-- each name among the tokens comes out where no literal has it
abbrev pub Steps : Out → List Lexeme → Type 0
Steps o [] = Unit {0}
Steps o (t ∷ ts) = MayOut t o × Steps (put_source t o) ts

pub steps_more : (ts : List Lexeme) (t : Lexeme) (o : Out) → Steps o ts → MayOut t (puts o ts) → Steps o (ts ++ t ∷ [])
steps_more [] t o h m = (m, tt)
steps_more (x ∷ ts) t o h m = (h.0, steps_more ts t (put_source x o) h.1 m)

pub sound_steps : (ts : List Lexeme) (o : Out) → Steps o ts → SoundOut o → (n : ℕ) → SoundOut (puts o (take n ts))
sound_steps [] o h s zero = s
sound_steps [] o h s (suc n) = s
sound_steps (t ∷ ts) o h s zero = s
sound_steps (t ∷ ts) o h s (suc n) = sound_steps ts (put_source t o) h.1 (sound_put t o s h.0) n

pub record Good (o : Out) : Type 0 where
  pub told : put_all o.tokens ≡ o
  pub steps : Steps nothing_out o.tokens
  pub sound : SoundOut o

pub nothing_good : Good nothing_out
nothing_good = record { told = refl; steps = tt; sound = record { plain = tt; apart = tt; fresh = tt } }

-- From one state to another: if nothing stopped there, what is good stays good, and tokens are added.
pub record Gone (o p : Out) : Type 0 where
  pub good : Good p
  pub more : List Lexeme
  pub tokens : p.tokens ≡ o.tokens ++ more

abbrev pub Goes : Out → Out → Type 0
Goes o p = Good o → p.stop ≡ None → Gone o p

pub goes_same : (o : Out) → Goes o o
goes_same o g s = record { good = g; more = []; tokens = sym (append-nil o.tokens) }

pub goes_put : (t : Lexeme) (o : Out) → MayOut t o → Goes o (put_source t o)
goes_put t o m g s = record {
  good = record {
    told = ap put_all (put_tokens t o) ∙ fold-append (λ p x. put_source x p) nothing_out o.tokens (t ∷ []) ∙ ap (put_source t) g.told;
    steps = subst (Steps nothing_out) (sym (put_tokens t o)) (steps_more o.tokens t nothing_out g.steps (subst (MayOut t) (sym g.told) m));
    sound = sound_put t o g.sound m;
  };
  more = t ∷ [];
  tokens = put_tokens t o;
}

-- a step that leaves what has stopped as it is
pub goes_on : (o p q : Out) → Goes o p → ((stop : Number × ℕ) → p.stop ≡ Some stop → q ≡ p) → Goes p q → Goes o q
goes_on o p q h stays k g s = by_stop p.stop refl
  where
    by_stop : (stop : Option (Number × ℕ)) → p.stop ≡ stop → Gone o q
    by_stop None e = let a = h g e in let b = k a.good s in record { good = b.good; more = a.more ++ b.more; tokens = b.tokens ∙ ap (λ (x : List Lexeme). x ++ b.more) a.tokens ∙ append_assoc o.tokens a.more b.more }
    by_stop (Some x) e = let wrong : None ≡ Some x = sym s ∙ ap (λ (y : Out). y.stop) (stays x e) ∙ e in absurd cc

pub goes_or : (stop : Option (Number × ℕ)) (o next : Out) → Goes o next → Goes o (or_else stop o next)
goes_or None o next h = h
goes_or (Some stop) o next h = goes_same o

pub goes_literal : (found : Option LiteralText) (replaced : LiteralText → Out) (o as_it_is : Out) → (found ≡ None → Goes o as_it_is) → ((l : LiteralText) → found ≡ Some l → Goes o (replaced l)) → Goes o (by_literal replaced found as_it_is)
goes_literal None replaced o as_it_is h k = h refl
goes_literal (Some l) replaced o as_it_is h k = k l refl

-- ---- a name that comes out is no literal's, and a literal's text has no string

pub may_key : (k : Keyword) (ls : List LiteralText) → May (key_word k) ls
may_key key.Do ls = tt
may_key key.Procedure ls = tt
may_key key.End ls = tt
may_key key.Literally ls = tt
may_key k ls = tt

pub may_sign : (m : Mark) (ls : List LiteralText) → May (sign_word m) ls
may_sign mark.Semicolon ls = tt
may_sign m ls = tt

pub may_come : (k : Kind) (text : List ℕ) (ls : List LiteralText) → literal_for ls k text ≡ None → May (word_for k text) ls
may_come (Reserved k) text ls h = may_key k ls
may_come Identifier text ls h = h
may_come (NumeralKind v) text ls h = tt
may_come String text ls h = tt
may_come (Special m) text ls h = may_sign m ls

pub plain_for : (k : Kind) (text : List ℕ) (ls : List LiteralText) (l : LiteralText) → literal_for ls k text ≡ Some l → ArePlain ls → IsPlain l.text
plain_for k text ls l e h = by_kind (is_identifier k) e
  where
    by_kind : (b : Bool) → cond b (find (λ x. names_equal x.name text) ls) None ≡ Some l → IsPlain l.text
    by_kind true f = plain_found (λ x. names_equal x.name text) ls l f h
    by_kind false f = absurd cc

-- ---- replacements

pub symbol_stays : (depth line : ℕ) (s : Symbol) (o : Out) (stop : Number × ℕ) → o.stop ≡ Some stop → symbol_out depth line s o ≡ o
symbol_stays depth line s o stop e = sym (symbol_stopped depth line s o (ap is_some e))

pub text_stays : (depth line : ℕ) (text : List Symbol) (o : Out) (stop : Number × ℕ) → o.stop ≡ Some stop → text_out depth line text o ≡ o
text_stays depth line [] o stop e = refl
text_stays depth line (s ∷ text) o stop e = ap (text_out depth line text) (symbol_stays depth line s o stop e) ∙ text_stays depth line text o stop e

pub source_stays : (t : Lexeme) (o : Out) (stop : Number × ℕ) → o.stop ≡ Some stop → source_out t o ≡ o
source_stays t o stop e = ap (λ (x : Option (Number × ℕ)). or_else x o (by_literal (λ l. text_out 7 t.line l.text o) (literal_for o.blocks.literals t.kind t.text) (put_source t o))) e

abbrev pub sources_out : List Lexeme → Out → Out
sources_out ts o = fold (λ p t. source_out t p) o ts

pub sources_stay : (ts : List Lexeme) (o : Out) (stop : Number × ℕ) → o.stop ≡ Some stop → sources_out ts o ≡ o
sources_stay [] o stop e = refl
sources_stay (t ∷ ts) o stop e = ap (sources_out ts) (source_stays t o stop e) ∙ sources_stay ts o stop e

pub goes_text : (depth line : ℕ) → ((s : Symbol) (o : Out) → is_string s.kind ≡ false → Goes o (symbol_out depth line s o)) → (text : List Symbol) → IsPlain text → (o : Out) → Goes o (text_out depth line text o)
goes_text depth line each [] h o = goes_same o
goes_text depth line each (s ∷ text) h o = goes_on o (symbol_out depth line s o) (text_out depth line text (symbol_out depth line s o)) (each s o h.0) (λ stop e. text_stays depth line text (symbol_out depth line s o) stop e) (goes_text depth line each text h.1 (symbol_out depth line s o))

pub goes_put_symbol : (line : ℕ) (s : Symbol) (o : Out) → is_string s.kind ≡ false → literal_for o.blocks.literals s.kind s.text ≡ None → Goes o (put (on_line line s) o)
goes_put_symbol line s o h e = subst (Goes o) (put_plain (on_line line s) o h) (goes_put (on_line line s) o (may_come s.kind s.text o.blocks.literals e))

pub goes_stopped : (number : Number) (line : ℕ) (o : Out) → Goes o (stop_at number line o)
goes_stopped number line o g s = absurd cc

pub goes_symbol : (depth line : ℕ) (s : Symbol) (o : Out) → is_string s.kind ≡ false → Goes o (symbol_out depth line s o)
unfolding symbol_out
goes_symbol zero line s o h = goes_or o.stop o (by_literal (λ l. stop_at E202 line o) (literal_for o.blocks.literals s.kind s.text) (put (on_line line s) o))
    (goes_literal (literal_for o.blocks.literals s.kind s.text) (λ l. stop_at E202 line o) o (put (on_line line s) o) (goes_put_symbol line s o h) (λ l e. goes_stopped E202 line o))
goes_symbol (suc depth) line s o h = goes_or o.stop o (by_literal (λ l. text_out depth line l.text o) (literal_for o.blocks.literals s.kind s.text) (put (on_line line s) o))
    (goes_literal (literal_for o.blocks.literals s.kind s.text) (λ l. text_out depth line l.text o) o (put (on_line line s) o) (goes_put_symbol line s o h)
    (λ l e g r. goes_text depth line (λ x p. goes_symbol depth line x p) l.text (plain_for s.kind s.text o.blocks.literals l e g.sound.plain) o g r))

pub goes_source : (t : Lexeme) (o : Out) → Goes o (source_out t o)
goes_source t o = goes_or o.stop o (by_literal (λ l. text_out 7 t.line l.text o) (literal_for o.blocks.literals t.kind t.text) (put_source t o))
    (goes_literal (literal_for o.blocks.literals t.kind t.text) (λ l. text_out 7 t.line l.text o) o (put_source t o)
    (λ e. goes_put t o (may_come t.kind t.text o.blocks.literals e))
    (λ l e g r. goes_text 7 t.line (λ x p. goes_symbol 7 t.line x p) l.text (plain_for t.kind t.text o.blocks.literals l e g.sound.plain) o g r))

pub goes_sources : (ts : List Lexeme) (o : Out) → Goes o (sources_out ts o)
goes_sources [] o = goes_same o
goes_sources (t ∷ ts) o = goes_on o (source_out t o) (sources_out ts (source_out t o)) (goes_source t o) (λ stop e. sources_stay ts (source_out t o) stop e) (goes_sources ts (source_out t o))

-- ---- where a token is read

-- The whole is ahead of a state: what is good there stays good, and what has stopped is the whole.
pub record Ahead (o whole : Out) : Type 0 where
  pub goes : Goes o whole
  pub stays : (stop : Number × ℕ) → o.stop ≡ Some stop → whole ≡ o

pub ahead_text : (depth line : ℕ) (text : List Symbol) (o whole : Out) → IsPlain text → Ahead (text_out depth line text o) whole → Ahead o whole
ahead_text depth line text o whole h a = record {
  goes = goes_on o (text_out depth line text o) whole (goes_text depth line (λ x p. goes_symbol depth line x p) text h o) a.stays a.goes;
  stays = λ stop e. let same = text_stays depth line text o stop e in a.stays stop (ap (λ (x : Out). x.stop) same ∙ e) ∙ same;
}

pub ahead_sources : (ts : List Lexeme) (o : Out) → Ahead o (sources_out ts o)
ahead_sources ts o = record { goes = goes_sources ts o; stays = λ stop e. sources_stay ts o stop e }

-- what comes after the whole, of which nothing stopped, has not stopped
pub runs_before : (o whole : Out) → Ahead o whole → whole.stop ≡ None → o.stop ≡ None
runs_before o whole a h = by_stop o.stop refl
  where
    by_stop : (stop : Option (Number × ℕ)) → o.stop ≡ stop → o.stop ≡ None
    by_stop None e = e
    by_stop (Some x) e = let wrong : None ≡ Some x = sym h ∙ ap (λ (y : Out). y.stop) (a.stays x e) ∙ e in absurd cc

pub record Front (o whole : Out) : Type 0 where
  pub good : Good o
  pub more : List Lexeme
  pub tokens : whole.tokens ≡ o.tokens ++ more

pub front_of : (o whole : Out) → Good o → Ahead o whole → whole.stop ≡ None → Front o whole
front_of o whole g a h = let b = a.goes g h in record { good = g; more = b.more; tokens = b.tokens }

pub record Reading (whole : Out) (depth line : ℕ) (s : Symbol) (o : Out) : Type 0 where
  pub good : Good o
  pub ahead : Ahead o whole
  pub within : (lower : ℕ) (l : LiteralText) → depth ≡ suc lower → literal_for o.blocks.literals s.kind s.text ≡ Some l → Ahead (text_out lower line l.text o) whole

pub source_replaced : (t : Lexeme) (o : Out) (l : LiteralText) → o.stop ≡ None → literal_for o.blocks.literals t.kind t.text ≡ Some l → source_out t o ≡ text_out 7 t.line l.text o
source_replaced t o l e f =
    ap (λ (x : Option (Number × ℕ)). or_else x o (by_literal (λ y. text_out 7 t.line y.text o) (literal_for o.blocks.literals t.kind t.text) (put_source t o))) e
    ∙ ap (λ (x : Option LiteralText). by_literal (λ y. text_out 7 t.line y.text o) x (put_source t o)) f

pub reading_source : (front back : List Lexeme) (t : Lexeme) → (sources_out (t ∷ back) (sources_out front nothing_out)).stop ≡ None
    → Reading (sources_out (t ∷ back) (sources_out front nothing_out)) 8 t.line (record { kind = t.kind; text = t.text }) (sources_out front nothing_out)
reading_source front back t h =
    let ahead = ahead_sources (t ∷ back) (sources_out front nothing_out) in
    let runs = runs_before (sources_out front nothing_out) (sources_out (t ∷ back) (sources_out front nothing_out)) ahead h in
    record {
      good = (goes_sources front nothing_out nothing_good runs).good;
      ahead = ahead;
      within = λ lower l e f.
          let seventh : 7 ≡ lower = omega (arith, e) in
          subst (λ (n : ℕ). Ahead (text_out n t.line l.text (sources_out front nothing_out)) (sources_out (t ∷ back) (sources_out front nothing_out))) seventh
          (subst (λ (x : Out). Ahead x (sources_out (t ∷ back) (sources_out front nothing_out))) (source_replaced t (sources_out front nothing_out) l runs f) (ahead_sources back (source_out t (sources_out front nothing_out))));
    }

pub plain_front : (front back : List Symbol) → IsPlain (front ++ back) → IsPlain front
plain_front [] back h = tt
plain_front (s ∷ front) back h = (h.0, plain_front front back h.1)

pub plain_back : (front back : List Symbol) → IsPlain (front ++ back) → IsPlain back
plain_back [] back h = h
plain_back (s ∷ front) back h = plain_back front back h.1

pub reading_text : (depth line : ℕ) (front back : List Symbol) (x : Symbol) (o whole : Out) → Good o → whole.stop ≡ None → IsPlain (front ++ x ∷ back) → Ahead (text_out depth line (front ++ x ∷ back) o) whole
    → Reading whole depth line x (text_out depth line front o)
reading_text depth line front back x o whole g h plain a =
    let rest = plain_back front (x ∷ back) plain in
    let behind : Ahead (text_out depth line (x ∷ back) (text_out depth line front o)) whole
    = subst (λ (y : Out). Ahead y whole) (fold-append (λ q y. symbol_out depth line y q) o front (x ∷ back)) a in
    let ahead = ahead_text depth line (x ∷ back) (text_out depth line front o) whole rest behind in
    let runs = runs_before (text_out depth line front o) whole ahead h in
    record {
      good = (goes_text depth line (λ y q. goes_symbol depth line y q) front (plain_front front (x ∷ back) plain) o g runs).good;
      ahead = ahead;
      within = λ lower l e f.
          subst (λ (y : Out). Ahead y whole) (ap (λ (n : ℕ). symbol_out n line x (text_out depth line front o)) e ∙ sym (symbol_text lower line x (text_out depth line front o) l (ap is_some runs) f))
          (ahead_text depth line back (symbol_out depth line x (text_out depth line front o)) whole rest.1 behind);
    }

pub reading : (source : List Lexeme) → (sources_out source nothing_out).stop ≡ None → (depth line : ℕ) (s : Symbol) (o : Out) → IsRead source depth line s o → Reading (sources_out source nothing_out) depth line s o
unfolding expanded
reading source h _ _ _ _ (of_source front back t e) =
    let is = ap (λ (x : List Lexeme). sources_out x nothing_out) e ∙ fold-append (λ p x. source_out x p) nothing_out front (t ∷ back) in
    subst (λ (w : Out). Reading w 8 t.line (record { kind = t.kind; text = t.text }) (sources_out front nothing_out)) (sym is) (reading_source front back t (sym (ap (λ (x : Out). x.stop) is) ∙ h))
reading source h _ _ _ _ (of_text depth line s o l front back x r f e) =
    let a = reading source h (suc depth) line s o r in
    reading_text depth line front back x o (sources_out source nothing_out) a.good h
    (subst IsPlain e (plain_for s.kind s.text o.blocks.literals l f a.good.sound.plain))
    (subst (λ (y : List Symbol). Ahead (text_out depth line y o) (sources_out source nothing_out)) e (a.within depth l refl f))

-- ---- the law

pub at_front : (o whole : Out) (m : ModuleT) → Front o whole → Spells m (tokens_from 0 whole.tokens ++ leaf Finish ∷ []) → o.blocks.literals ≡ in_force m (length o.tokens)
at_front o whole m f w =
    ap (λ (x : Out). x.blocks.literals) (sym f.good.told ∙ ap put_all (sym (ap (take (length o.tokens)) f.tokens ∙ take-append_seam o.tokens f.more)))
    ∙ at_token whole.tokens m w (length o.tokens) (omega (arith, ap length f.tokens ∙ length-append o.tokens f.more))

pub found_at : (ls : List LiteralText) (l : LiteralText) (text : List ℕ) → AreApart ls → Contains ls l → names_equal l.name text ≡ true → literal_for ls Identifier text ≡ Some l
found_at ls l text h c e = find_at ls c.0 l text h c.1 c.2 e

pub are_in_force : LiteralsInForce
unfolding expanded
are_in_force source m h w =
    let whole = goes_sources source nothing_out nothing_good h in
    let spelled : Spells m (tokens_from 0 (sources_out source nothing_out).tokens ++ leaf Finish ∷ []) = subst (λ (x : Option (Number × ℕ)). Spells m (tokens_from 0 (sources_out source nothing_out).tokens ++ text_end x)) h w in
    record {
      where_read = λ depth line s o r.
          let a = reading source h depth line s o r in
          at_front o (sources_out source nothing_out) m (front_of o (sources_out source nothing_out) a.good a.ahead h) spelled;
      one_by_one = sym whole.good.told;
      at_token = λ n le. at_token (sources_out source nothing_out).tokens m spelled n le;
      found = λ n le l c text e. found_at (in_force m n) l text
          (subst AreApart (at_token (sources_out source nothing_out).tokens m spelled n le) (sound_steps (sources_out source nothing_out).tokens nothing_out whole.good.steps nothing_good.sound n).apart) c e;
    }

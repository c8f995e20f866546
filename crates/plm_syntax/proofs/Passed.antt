-- Runs of a text that put nothing out, and a text put out token by token.
use Rattle.std.proofs.lemmas.Bool.{and_from}
use Rattle.std.proofs.Common.{◌≡◌, ◌∙◌, ℕ, zero, suc, ◌+◌, ◌-◌, ◌<◌, ◌≤◌, List, [], ◌∷◌, ◌++◌, Bool, true, false, cond, ◌&&◌, Option, Some, None, length, map, fold, take, drop, option_map, get_or, ap, refl, sym, arith}
use Rattle.std.specs.List.{slice_get, slice_range}
use Rattle.std.proofs.Math.Seq.{drop-cons}
use Rattle.std.proofs.lemmas.Option.{slice_get-map, slice_get_read}
use Rattle.std.proofs.lemmas.List.{drop-map, drop_all, append-nil, append_assoc, append_cancel_right, take-append-drop}
use Rattle.std.proofs.lemmas.List.Sums.{fold-append}
use Rattle.std.proofs.lemmas.List.Folds.{list_all-append, drop_split}
use Rattle.word86.specs.declared.number.Number.{Number}
use Rattle.word86.specs.declared.number.Number.TheVariants.{E202}
use Rattle.plm_token.specs.Scanner.{Lexeme}
use Rattle.plm_token.specs.Literals.{Symbol, on_line}
use Rattle.plm_syntax.specs.declared.named_token.NamedToken.{NamedToken}
use Rattle.plm_syntax.specs.declared.scope.Literal.{Literal}
use Rattle.plm_syntax.specs.Literals.{LiteralText, Blocks, Out, opens, is_keyword, is_semicolon, opened, closed, ends_block, or_else, by_literal, literal_for, put, stop_at, symbol_out, text_out}
use Rattle.plm_syntax.specs.Inner.Scope.{named_symbol, literal_text, text_of, text_at}
use Rattle.plm_syntax.specs.Inner.Known.{is_quiet, is_quiet_text}
use Rattle.plm_syntax.proofs.Replaced.{some_at}
use Rattle.plm_syntax.proofs.Quiet.{quiet_text_out}

-- ---- a literal by its place

pub text_is : (literals : List Literal) (i : ℕ) (l : Literal) → i < length literals → l ≡ get_or literals i l → text_at (map literal_text literals) i ≡ map named_symbol l.text.now.tokens.items
text_is literals i l lt e = ap text_of (slice_get-map literal_text literals i ∙ ap (option_map literal_text) (slice_get_read literals (length literals) i l refl lt e))

-- ---- ranges of a text

-- tokens of a list, from one up to a second and on to a third
pub range_joined : {A : Type 0} (xs : List A) (f g t : ℕ) → f ≤ g → g ≤ t → slice_range xs f t ≡ slice_range xs f g ++ slice_range xs g t
range_joined xs f g t le le' =
    append_cancel_right (slice_range xs f t) (slice_range xs f g ++ slice_range xs g t) (drop t xs)
    (sym (drop_split xs f t (omega (arith, le, le')))
    ∙ drop_split xs f g le
    ∙ ap (λ ys. slice_range xs f g ++ ys) (drop_split xs g t le')
    ∙ sym (append_assoc (slice_range xs f g) (slice_range xs g t) (drop t xs)))

range_quiet : (d : ℕ) (ls : List LiteralText) (text : List Symbol) (f g t : ℕ) → f ≤ g → g ≤ t
    → is_quiet_text d ls (slice_range text f t) ≡ (is_quiet_text d ls (slice_range text f g) && is_quiet_text d ls (slice_range text g t))
range_quiet d ls text f g t le le' = ap (is_quiet_text d ls) (range_joined text f g t le le') ∙ list_all-append (is_quiet d ls) (slice_range text f g) (slice_range text g t)

pub quiet_both : (d : ℕ) (ls : List LiteralText) (text : List Symbol) (f g t : ℕ) → f ≤ g → g ≤ t → is_quiet_text d ls (slice_range text f g) ≡ true → is_quiet_text d ls (slice_range text g t) ≡ true
    → is_quiet_text d ls (slice_range text f t) ≡ true
quiet_both d ls text f g t le le' h k = range_quiet d ls text f g t le le' ∙ and_from (is_quiet_text d ls (slice_range text f g)) (is_quiet_text d ls (slice_range text g t)) h k

-- ---- literals go, and none comes

-- the literals of one are those of another, or the first of them
abbrev pub Fewer : Out → Out → Type 0
Fewer o q = (more : List LiteralText) × (o.blocks.literals ≡ q.blocks.literals ++ more)

pub fewer_same : (o q : Out) → o.blocks.literals ≡ q.blocks.literals → Fewer o q
fewer_same o q e = ([], e ∙ sym (append-nil q.blocks.literals))

pub fewer_along : (a b c : Out) → Fewer a b → Fewer b c → Fewer a c
fewer_along a b c f g = (g.0 ++ f.0, f.1 ∙ ap (λ (ls : List LiteralText). ls ++ f.0) g.1 ∙ append_assoc c.blocks.literals g.0 f.0)

pub fewer_closed : (literals : List LiteralText) (starts : List ℕ) → (more : List LiteralText) × (literals ≡ (closed literals starts).literals ++ more)
fewer_closed literals [] = ([], sym (append-nil literals))
fewer_closed literals (n ∷ ns) = (drop n literals, sym (take-append-drop n literals))

fewer_behind : (opens ends : Bool) (b : Blocks) → (more : List LiteralText) × (b.literals ≡ (cond opens (opened b) (cond ends (closed b.literals b.starts) b)).literals ++ more)
fewer_behind true ends b = ([], sym (append-nil b.literals))
fewer_behind false true b = fewer_closed b.literals b.starts
fewer_behind false false b = ([], sym (append-nil b.literals))

fewer_put : (t : Lexeme) (o : Out) → Fewer o (put t o)
fewer_put t o = fewer_behind (is_keyword opens t.kind) (is_semicolon t.kind && ends_block o.last o.before) o.blocks

fewer_or : (stop : Option (Number × ℕ)) (o next : Out) → Fewer o next → Fewer o (or_else stop o next)
fewer_or None o next f = f
fewer_or (Some s) o next f = fewer_same o o refl

fewer_by : (replaced : LiteralText → Out) (found : Option LiteralText) (plain o : Out) → ((l : LiteralText) → Fewer o (replaced l)) → Fewer o plain → Fewer o (by_literal replaced found plain)
fewer_by replaced None plain o f g = g
fewer_by replaced (Some l) plain o f g = f l

fewer_text : (F : Symbol → Out → Out) → ((s : Symbol) (o : Out) → Fewer o (F s o)) → (ss : List Symbol) (o : Out) → Fewer o (fold (λ p x. F x p) o ss)
fewer_text F f [] o = fewer_same o o refl
fewer_text F f (s ∷ ss) o = fewer_along o (F s o) (fold (λ p x. F x p) (F s o) ss) (f s o) (fewer_text F f ss (F s o))

fewer_symbol : (depth line : ℕ) (s : Symbol) (o : Out) → Fewer o (symbol_out depth line s o)
unfolding symbol_out
fewer_symbol zero line s o = fewer_or o.stop o _ (fewer_by _ (literal_for o.blocks.literals s.kind s.text) (put (on_line line s) o) o (λ l. fewer_same o (stop_at E202 line o) refl) (fewer_put (on_line line s) o))
fewer_symbol (suc depth) line s o = fewer_or o.stop o _ (fewer_by _ (literal_for o.blocks.literals s.kind s.text) (put (on_line line s) o) o (λ l. fewer_text (symbol_out depth line) (fewer_symbol depth line) l.text o) (fewer_put (on_line line s) o))

pub among_more : (literals more : List LiteralText) (i : ℕ) (l : LiteralText) → slice_get literals i ≡ Some l → slice_get (literals ++ more) i ≡ Some l
among_more [] more i l e = absurd (cc e)
among_more (x ∷ xs) more zero l e = e
among_more (x ∷ xs) more (suc i) l e = among_more xs more i l e

-- a literal that is there once tokens were put out was there before
pub kept : (depth line : ℕ) (text : List Symbol) (before after : Out) (i : ℕ) (l : LiteralText) → after ≡ text_out depth line text before → slice_get after.blocks.literals i ≡ Some l → slice_get before.blocks.literals i ≡ Some l
kept depth line text before after i l e h =
    let fewer : Fewer before (text_out depth line text before) = fewer_text (symbol_out depth line) (fewer_symbol depth line) text before in
    ap (λ (ls : List LiteralText). slice_get ls i) fewer.1
    ∙ among_more (text_out depth line text before).blocks.literals fewer.0 i l (ap (λ (q : Out). slice_get q.blocks.literals i) (sym e) ∙ h)

-- ---- a text put out token by token

-- one of the tokens
pub one_token : (text : List NamedToken) (at : ℕ) (d : NamedToken) → at < length text → d ≡ get_or text at d → slice_range (map named_symbol text) at (at + 1) ≡ named_symbol d ∷ []
one_token text at d lt is =
    let one : at + 1 - at ≡ 1 = omega arith in
    ap (λ (n : ℕ). take n (drop at (map named_symbol text))) one
    ∙ ap (λ (ss : List Symbol). take 1 ss) (drop-map named_symbol at text ∙ ap (map named_symbol) (drop-cons text at d lt))
    ∙ ap (λ (t : NamedToken). named_symbol t ∷ []) (sym is)

-- what comes of one token, as what comes of a text of one
pub token_out : (depth line : ℕ) (text : List NamedToken) (at : ℕ) (d : NamedToken) (o next : Out) → at < length text → d ≡ get_or text at d → next ≡ symbol_out depth line (named_symbol d) o
    → next ≡ text_out depth line (slice_range (map named_symbol text) at (at + 1)) o
token_out depth line text at d o next lt is e = e ∙ ap (λ (ss : List Symbol). text_out depth line ss o) (sym (one_token text at d lt is))

-- What is still to be put out, and the text as long as the literal is there.
pub record Putting (depth line : ℕ) (text : List Symbol) (i at : ℕ) (first o : Out) : Type 0 where
  pub rest : text_out depth line text first ≡ text_out depth line (drop at text) o
  pub same : (t : LiteralText) → slice_get o.blocks.literals i ≡ Some t → t.text ≡ text

pub put_on : (depth line : ℕ) (text : List Symbol) (i at to : ℕ) (first o next : Out) → Putting depth line text i at first o → at < to → next ≡ text_out depth line (slice_range text at to) o
    → Putting depth line text i to first next
put_on depth line text i at to first o next p lt e =
    let le : at ≤ to = omega (arith, lt) in record {
      rest =
          p.rest
          ∙ ap (λ (ss : List Symbol). text_out depth line ss o) (drop_split text at to le)
          ∙ fold-append (λ q x. symbol_out depth line x q) o (slice_range text at to) (drop to text)
          ∙ ap (λ (q : Out). text_out depth line (drop to text) q) (sym e);
      same = λ t h. p.same t (kept depth line (slice_range text at to) o next i t e h);
    }

pub put_over : (depth line : ℕ) (text : List Symbol) (i at : ℕ) (first o : Out) → Putting depth line text i at first o → length text ≤ at → o ≡ text_out depth line text first
put_over depth line text i at first o p le = sym (p.rest ∙ ap (λ (ts : List Symbol). text_out depth line ts o) (drop_all at text le))

-- tokens that put nothing out, passed over
pub passed_over : (depth line : ℕ) (text : List Symbol) (i at to : ℕ) (o : Out) → i < length o.blocks.literals → ((l : LiteralText) → slice_get o.blocks.literals i ≡ Some l → l.text ≡ text)
    → is_quiet_text depth o.blocks.literals (slice_range (text_at o.blocks.literals i) at to) ≡ true → o ≡ text_out depth line (slice_range text at to) o
passed_over depth line text i at to o lt same h =
    let found = some_at o.blocks.literals i lt in
    let own : text_at o.blocks.literals i ≡ text = ap text_of found.1 ∙ same found.0 found.1 in
    sym (quiet_text_out depth line (slice_range text at to) o (ap (λ (ss : List Symbol). is_quiet_text depth o.blocks.literals (slice_range ss at to)) (sym own) ∙ h))

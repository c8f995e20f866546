-- No more tokens come out than one over the limit.
use Rattle.std.proofs.Common.{◌≡◌, ℕ, zero, suc, ◌+◌, ◌≤◌, nat_lt, List, [], ◌∷◌, ◌++◌, Bool, true, false, cond, Option, Some, None, Result, Ok, Err, refl, ap, arith, length, length-append, fold}
use Rattle.std.proofs.lemmas.Bool.{ltb-false}
use Rattle.word86.specs.declared.number.Number.{Number}
use Rattle.word86.specs.declared.number.Number.TheVariants.{E202, E205}
use Rattle.plm_token.specs.declared.token.Token.{Token}
use Rattle.plm_token.specs.Scanner.{Lexeme, lexemes}
use Rattle.plm_syntax.specs.declared.literals.Expansion.{Expansion}
use Rattle.plm_syntax.specs.Literals.{Expanded, expansion_of, expansion_view}
use Rattle.plm_token.specs.Literals.{Symbol, on_line, literal_of}
use Rattle.plm_syntax.specs.Literals.{LiteralText, Out, put, declared_name, between, declare, put_source, literal_for, by_literal, stop_at, or_else, symbol_out, text_out, source_out, nothing_out, expanded}

pub record Bounded (o : Out) : Type 0 where
  pub going : o.stop ≡ None → length o.tokens ≤ 65535
  pub all : length o.tokens ≤ 65536

put_bounded : (t : Lexeme) (o : Out) → length o.tokens ≤ 65535 → Bounded (put t o)
put_bounded t o h = record { going = λ e. by_test (nat_lt 65535 (length o.tokens + 1)) refl e; all = omega (arith, h, length-append o.tokens (t ∷ [])) }
  where
    by_test : (b : Bool) → nat_lt 65535 (length o.tokens + 1) ≡ b → ◌≡◌ {A = Option (Number × ℕ)} (cond {A = Option (Number × ℕ)} b (Some (E205, t.line)) None) None → length (o.tokens ++ t ∷ []) ≤ 65535
    by_test true q e = absurd cc
    by_test false q e = omega (arith, ltb-false 65535 (length o.tokens + 1) q, length-append o.tokens (t ∷ []))

fold_bounded : {X : Type 0} (f : Out → X → Out) → ((o : Out) (x : X) → Bounded o → Bounded (f o x)) → (xs : List X) (o : Out) → Bounded o → Bounded (fold f o xs)
fold_bounded f g [] o h = h
fold_bounded f g (x ∷ xs) o h = fold_bounded f g xs (f o x) (g o x h)

-- where it stopped nothing changes, else what comes next is bounded
or_else_bounded : (o next : Out) → Bounded o → (length o.tokens ≤ 65535 → Bounded next) → Bounded (or_else o.stop o next)
or_else_bounded o next h g = by_stop o.stop refl
  where
    by_stop : (s : Option (Number × ℕ)) → o.stop ≡ s → Bounded (or_else s o next)
    by_stop None e = g (h.going e)
    by_stop (Some x) e = h

by_literal_bounded : (f : LiteralText → Out) (l : Option LiteralText) (next : Out) → ((l : LiteralText) → Bounded (f l)) → Bounded next → Bounded (by_literal f l next)
by_literal_bounded f None next g h = h
by_literal_bounded f (Some l) next g h = g l

symbol_bounded : (levels line : ℕ) (s : Symbol) (o : Out) → Bounded o → Bounded (symbol_out levels line s o)
unfolding symbol_out
symbol_bounded zero line s o h = or_else_bounded o _ h (λ q. by_literal_bounded (λ l. stop_at E202 line o) (literal_for o.blocks.literals s.kind s.text) (put (on_line line s) o) (λ l. record { going = λ e. absurd cc; all = h.all }) (put_bounded (on_line line s) o q))
symbol_bounded (suc levels) line s o h = or_else_bounded o _ h (λ q. by_literal_bounded (λ l. fold (λ p x. symbol_out levels line x p) o l.text) (literal_for o.blocks.literals s.kind s.text) (put (on_line line s) o) (λ l. fold_bounded (λ p x. symbol_out levels line x p) (λ p x k. symbol_bounded levels line x p k) l.text o h) (put_bounded (on_line line s) o q))

text_bounded : (levels line : ℕ) (text : List Symbol) (o : Out) → Bounded o → Bounded (text_out levels line text o)
text_bounded levels line text o h = fold_bounded (λ p x. symbol_out levels line x p) (λ p x k. symbol_bounded levels line x p k) text o h

declare_bounded : (name : Option (List ℕ)) (text : Result (List Symbol) Number) (line : ℕ) (o : Out) → Bounded o → Bounded (declare name text line o)
declare_bounded None text line o h = h
declare_bounded (Some name) (Ok text) line o h = record { going = h.going; all = h.all }
declare_bounded (Some name) (Err number) line o h = record { going = λ e. absurd cc; all = h.all }

source_bounded : (t : Lexeme) (o : Out) → Bounded o → Bounded (source_out t o)
source_bounded t o h = or_else_bounded o _ h (λ q. by_literal_bounded (λ l. text_out 7 t.line l.text o) (literal_for o.blocks.literals t.kind t.text) (put_source t o) (λ l. text_bounded 7 t.line l.text o h) (declare_bounded (declared_name t.kind o.last o.before) (literal_of (between t.text)) t.line (put t o) (put_bounded t o q)))

pub expanded_bounded : (ts : List Lexeme) → length (expanded ts).tokens ≤ 65536
unfolding expanded
expanded_bounded ts = (fold_bounded (λ o t. source_out t o) (λ o t k. source_bounded t o k) ts nothing_out (record { going = λ e. omega arith; all = omega arith })).all

lexemes_length : (ts : List Token) → length (lexemes ts) ≡ length ts
lexemes_length [] = refl
lexemes_length (t ∷ ts) = ap suc (lexemes_length ts)

-- the tokens of an expansion are no more than that
pub expansion_bounded : (e : Expansion) (source : List Lexeme) → expansion_view e ≡ expansion_of (expanded source) → length e.tokens.items ≤ 65536
expansion_bounded e source h = omega (arith, expanded_bounded source, lexemes_length e.tokens.items, ap length (ap (λ (x : Expanded). x.tokens) h))

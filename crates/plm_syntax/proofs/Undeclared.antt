-- Tokens that declare no literal stand as they are.
use Rattle.std.proofs.Common.{◌≡◌, ◌∙◌, ℕ, zero, suc, ◌+◌, ◌≤◌, List, [], ◌∷◌, ◌++◌, Bool, true, false, cond, Option, Some, None, fold, length, take, ap, refl, sym, arith, append_assoc, append-nil, length-append}
use Rattle.std.specs.Prelude.{◌&&◌, nat_lt}
use Rattle.std.proofs.lemmas.Bool.{ltb-true}
use Rattle.word86.specs.declared.number.Number.{Number}
use Rattle.word86.specs.declared.number.Number.TheVariants.{E205}
use Rattle.plm_token.specs.declared.token.Kind.{Kind}
use Rattle.plm_token.specs.Scanner.{Lexeme}
use Rattle.plm_syntax.specs.Literals.{LiteralText, Blocks, Out, Expanded, opens, declares, is_keyword, is_semicolon, is_identifier, is_string, opened, closed, ends_block, blocks_behind, over_limit, put, name_of, declared_name, between, declare, put_source, literal_for, by_literal, or_else, text_out, source_out, nothing_out, expanded, expansion_of}
use Rattle.plm_syntax.specs.Inner.Literals.{declare_none, ArePlain}
use Rattle.plm_token.specs.Literals.{literal_of}

-- ---- a state without literals, in which no literal is being declared

abbrev last_declares : Option Lexeme → Bool
last_declares None = false
last_declares (Some t) = is_keyword declares t.kind

record IsCalm (o : Out) : Type 0 where
  none : o.blocks.literals ≡ []
  going : o.stop ≡ None
  plain : last_declares o.last ≡ false

no_literal : (kind : Kind) (text : List ℕ) (literals : List LiteralText) → literals ≡ [] → literal_for literals kind text ≡ None
no_literal kind text literals e = ap (λ (ls : List LiteralText). literal_for ls kind text) e ∙ by (is_identifier kind)
  where
    by : (b : Bool) → ◌≡◌ {A = Option LiteralText} (cond b None None) None
    by true = refl
    by false = refl

no_name : (kind : Kind) (last before : Option Lexeme) → last_declares last ≡ false → declared_name kind last before ≡ None
no_name kind None before e = refl
no_name kind (Some last) None e = refl
no_name kind (Some last) (Some before) e = ap (λ (b : Bool). name_of (is_string kind && b && is_identifier before.kind) before.text) e ∙ by (is_string kind)
  where
    by : (b : Bool) → name_of (b && false && is_identifier before.kind) before.text ≡ None
    by true = refl
    by false = refl

-- such a token is put out as it is
as_it_is : (t : Lexeme) (o : Out) → IsCalm o → source_out t o ≡ put t o
as_it_is t o h =
    let found = no_literal t.kind t.text o.blocks.literals h.none in
    let named = no_name t.kind o.last o.before h.plain in
    ap (λ (s : Option (Number × ℕ)). or_else s o (by_literal (λ l. text_out 7 t.line l.text o) (literal_for o.blocks.literals t.kind t.text) (put_source t o))) h.going
    ∙ ap (λ (f : Option LiteralText). by_literal (λ l. text_out 7 t.line l.text o) f (put_source t o)) found
    ∙ ap (λ (n : Option (List ℕ)). declare n (literal_of (between t.text)) t.line (put t o)) named

closed_none : (starts : List ℕ) → (closed [] starts).literals ≡ []
closed_none [] = refl
closed_none (n ∷ ns) = take_none n
  where
    take_none : (n : ℕ) → ◌≡◌ {A = List LiteralText} (take n []) []
    take_none zero = refl
    take_none (suc n) = refl

behind_none : (kind : Kind) (ending : Bool) (b : Blocks) → b.literals ≡ [] → (blocks_behind kind ending b).literals ≡ []
behind_none kind ending b e = by (is_keyword opens kind) (is_semicolon kind && ending)
  where
    by : (p q : Bool) → (cond p (opened b) (cond q (closed b.literals b.starts) b)).literals ≡ []
    by true q = e
    by false true = ap (λ (ls : List LiteralText). (closed ls b.starts).literals) e ∙ closed_none b.starts
    by false false = e

below_limit : (count line : ℕ) → count ≤ 65535 → over_limit count line ≡ None
below_limit count line l = by (nat_lt 65535 count) refl
  where
    by : (b : Bool) → nat_lt 65535 count ≡ b → ◌≡◌ {A = Option (Number × ℕ)} (cond b (Some (E205, line)) None) None
    by true e = absurd (omega (arith, l, ltb-true 65535 count e))
    by false e = refl

still_calm : (t : Lexeme) (o : Out) → IsCalm o → is_keyword declares t.kind ≡ false → length o.tokens + 1 ≤ 65535 → IsCalm (put t o)
still_calm t o h kept few = record {
  none = behind_none t.kind (ends_block o.last o.before) o.blocks h.none;
  going = below_limit (length o.tokens + 1) t.line few;
  plain = kept;
}

-- ---- all of them

abbrev as_they_are : List Lexeme → Expanded
as_they_are ts = record { tokens = ts; stop = None }

none_first : (t : Lexeme) (ts : List Lexeme) → declare_none (t ∷ ts) ≡ true → (is_keyword declares t.kind ≡ false) × (declare_none ts ≡ true)
none_first t ts e = by (is_keyword declares t.kind) refl
  where
    by : (b : Bool) → is_keyword declares t.kind ≡ b → (is_keyword declares t.kind ≡ false) × (declare_none ts ≡ true)
    by true q = absurd (true_is_false (sym (ap (λ (c : Bool). cond c false (declare_none ts)) q) ∙ e))
      where
        true_is_false : false ≡ true → ⊥
        true_is_false h = absurd cc
    by false q = (q, sym (ap (λ (c : Bool). cond c false (declare_none ts)) q) ∙ e)

from_here : (ts : List Lexeme) (o : Out) → IsCalm o → declare_none ts ≡ true → length o.tokens + length ts ≤ 65535
    → expansion_of (fold (λ q t. source_out t q) o ts) ≡ as_they_are (o.tokens ++ ts)
from_here [] o h e few = ap (λ (s : Option (Number × ℕ)). let x : Expanded = record { tokens = o.tokens; stop = s } in x) h.going ∙ ap as_they_are (sym (append-nil o.tokens))
from_here (t ∷ ts) o h e few =
    let first = none_first t ts e in
    let one : length (o.tokens ++ t ∷ []) ≡ length o.tokens + 1 = length-append o.tokens (t ∷ []) in
    ap (λ (q : Out). expansion_of (fold (λ q t. source_out t q) q ts)) (as_it_is t o h)
    ∙ from_here ts (put t o) (still_calm t o h first.0 (omega (arith, few))) first.1 (omega (arith, one, few))
    ∙ ap as_they_are (append_assoc o.tokens (t ∷ []) ts)

pub expanded_plain : (ts : List Lexeme) → ArePlain ts → as_they_are ts ≡ expansion_of (expanded ts)
unfolding expanded
expanded_plain ts h = sym (from_here ts nothing_out (record { none = refl; going = refl; plain = refl }) h.none (omega (arith, h.few)))

-- What a run over the tokens that came out says of the answer.
use Rattle.std.proofs.Common.{◌≡◌, ℕ, zero, suc, ◌+◌, ◌-◌, ◌≤◌, List, [], ◌∷◌, ◌++◌, cond, Option, Some, None, Result, Ok, Err, refl, sym, ap, ◌∙◌, subst, arith, length, length-append, Bool, ◌⊎◌, inl, inr}
use Rattle.std.specs.Prelude.{slice_get, IfOk, IfErr, IfSome, IfNone}
use Rattle.std.proofs.lemmas.List.{append-nil}
use Rattle.word86.specs.declared.number.Number.{Number}
use Rattle.plm_token.specs.declared.token.Keyword.TheVariants as key
use Rattle.plm_token.specs.declared.token.Token.{Token}
use Rattle.plm_token.specs.Scanner.{Lexeme, lexemes}
use Rattle.plm_syntax.specs.declared.tree.Module.{Module}
use Rattle.plm_syntax.specs.declared.tree.Position.{Position}
use Rattle.plm_syntax.specs.declared.failure.Failure.{Failure}
use Rattle.plm_syntax.specs.declared.failure.Failure.TheVariants as failure
use Rattle.plm_syntax.specs.Terminal.{Terminal, Finish, Leaf, leaf, leaf_at, is_key}
use Rattle.plm_syntax.specs.View.{module_of}
use Rattle.plm_syntax.specs.Sentence.{BeginsWithin}
use Rattle.plm_syntax.specs.Inner.Symbol.{ModuleR}
use Rattle.plm_syntax.specs.Inner.Machine.{Stop, Refusal, Deep, Reading, run, start}
use Rattle.word86.specs.declared.fault.Fault.{Fault}
use Rattle.word86.specs.declared.fault.Fault.TheVariants.{At}
use Rattle.plm_syntax.specs.Literals.{Out}
use Rattle.plm_syntax.specs.Literals.{Expanded, expansion_of}
use Rattle.plm_syntax.specs.Answer.{Answers}
use Rattle.plm_syntax.specs.Faults.{terminal_of, tokens_from, text_end, text_tokens, line_from, terminal_at, opening_token, FaultIs, refused, too_deep, stopped}
use Rattle.plm_syntax.specs.Inner.Answer.{refusal_at, deep_at, fault_of, LeftIn}
use Rattle.plm_syntax.specs.declared.cursor.Cursor.{Cursor}
use Rattle.plm_syntax.specs.Inner.Parsed.{stream, ahead, place_at, Fails}
use Rattle.plm_syntax.specs.Inner.Blocks.{Parses}
use Rattle.plm_syntax.proofs.Limits.{first_wrong, first_deep, takes_modules}
use Rattle.plm_syntax.proofs.Along.{ahead_length}
use Rattle.plm_syntax.proofs.TextEnd.{whole_text, refused_text, deep_text, left_within}

pub stream_is : (n : ℕ) (ts : List Token) → stream n ts ≡ tokens_from n (lexemes ts) ++ leaf Finish ∷ []
stream_is n [] = refl
stream_is n (t ∷ ts) = ap (λ (ls : List Leaf). leaf_at (terminal_of t.kind t.text.now (place_at n t)) (place_at n t) ∷ ls) (stream_is (n + 1) ts)

tokens_length : (n : ℕ) (ts : List Lexeme) → length (tokens_from n ts) ≡ length ts
tokens_length n [] = refl
tokens_length n (t ∷ ts) = ap suc (tokens_length (n + 1) ts)

-- the tokens with the end of the text, where the replacement did not stop, and without it
text_whole : (o : Out) → o.stop ≡ None → text_tokens o ≡ tokens_from 0 o.tokens ++ leaf Finish ∷ []
text_whole o e = ap (λ (s : Option (Number × ℕ)). tokens_from 0 o.tokens ++ text_end s) e

text_cut : (o : Out) (stop : Number × ℕ) → o.stop ≡ Some stop → text_tokens o ≡ tokens_from 0 o.tokens
text_cut o stop e = ap (λ (s : Option (Number × ℕ)). tokens_from 0 o.tokens ++ text_end s) e ∙ append-nil (tokens_from 0 o.tokens)

ran_over : (o : Out) (ts : List Token) (r : Result Reading Stop) → o.tokens ≡ lexemes ts → run 64 start [] (stream 0 ts) ≡ r → run 64 start [] (tokens_from 0 o.tokens ++ leaf Finish ∷ []) ≡ r
ran_over o ts r e h = ap (λ (xs : List Lexeme). run 64 start [] (tokens_from 0 xs ++ leaf Finish ∷ [])) e ∙ sym (ap (run 64 start []) (stream_is 0 ts)) ∙ h

pub answers_tree : (m : Module) (o : Out) (ts : List Token) → o.tokens ≡ lexemes ts → o.stop ≡ None → run 64 start [] (stream 0 ts) ≡ Ok (record { awaited = []; read = ModuleR (module_of m) ∷ [] }) → Answers (Ok m) o
answers_tree m o ts e n h =
    let k = (takes_modules 64 (module_of m) (text_tokens o)).0 (ap (run 64 start []) (text_whole o n) ∙ ran_over o ts _ e h) in
    (n, k.0, k.1, k.2)

pub answers_stop : (number : Number) (line : ℕ) (o : Out) (ts : List Token) (r : Reading) → o.tokens ≡ lexemes ts → o.stop ≡ Some (number, line) → run 64 start [] (stream 0 ts) ≡ Ok r → FaultIs number line o
answers_stop number line o ts r e n h = stopped n (subst (BeginsWithin 64) (sym (text_cut o (number, line) n)) (whole_text (tokens_from 0 o.tokens) r (ran_over o ts (Ok r) e h)))

-- ---- the places of faults

terminal_end : (k : ℕ) (ls : List Leaf) → terminal_at k (ls ++ leaf Finish ∷ []) ≡ terminal_at k ls
terminal_end zero [] = refl
terminal_end (suc k) [] = refl
terminal_end zero (l ∷ ls) = refl
terminal_end (suc k) (l ∷ ls) = terminal_end k ls

opening_is : (k : ℕ) (ls ms : List Leaf) → terminal_at k ls ≡ terminal_at k ms → opening_token ls k ≡ opening_token ms k
opening_is k ls ms h = ap (λ (t : Terminal). cond (is_key key.Procedure t) (k - 2) k) h

opening_whole : (o : Out) (k : ℕ) → o.stop ≡ None → opening_token (text_tokens o) k ≡ opening_token (tokens_from 0 o.tokens) k
opening_whole o k e = opening_is k (text_tokens o) (tokens_from 0 o.tokens) (ap (terminal_at k) (text_whole o e) ∙ terminal_end k (tokens_from 0 o.tokens))

opening_cut : (o : Out) (stop : Number × ℕ) (k : ℕ) → o.stop ≡ Some stop → opening_token (text_tokens o) k ≡ opening_token (tokens_from 0 o.tokens) k
opening_cut o stop k e = opening_is k (text_tokens o) (tokens_from 0 o.tokens) (ap (terminal_at k) (text_cut o stop e))

line_is : (o : Out) (ts : List Token) (k : ℕ) → o.tokens ≡ lexemes ts → line_from 1 (lexemes ts) k ≡ line_from 1 o.tokens k
line_is o ts k e = ap (λ (xs : List Lexeme). line_from 1 xs k) (sym e)

deep_line : (o : Out) (ts : List Token) (k : ℕ) → o.tokens ≡ lexemes ts → opening_token (text_tokens o) k ≡ opening_token (tokens_from 0 o.tokens) k
    → line_from 1 (lexemes ts) (opening_token (tokens_from 0 (lexemes ts)) k) ≡ line_from 1 o.tokens (opening_token (text_tokens o) k)
deep_line o ts k e h = ap (λ (xs : List Lexeme). line_from 1 xs (opening_token (tokens_from 0 xs) k)) (sym e) ∙ ap (line_from 1 o.tokens) (sym h)

whole_length : (o : Out) (ts : List Token) → o.tokens ≡ lexemes ts → o.stop ≡ None → length (text_tokens o) ≡ length (lexemes ts) + 1
whole_length o ts e n = ap length (text_whole o n) ∙ length-append (tokens_from 0 o.tokens) (leaf Finish ∷ []) ∙ ap (λ (k : ℕ). k + 1) (tokens_length 0 o.tokens ∙ ap length e)

cut_length : (o : Out) (ts : List Token) (stop : Number × ℕ) → o.tokens ≡ lexemes ts → o.stop ≡ Some stop → length (text_tokens o) ≡ length (lexemes ts)
cut_length o ts stop e n = ap length (text_cut o stop n) ∙ tokens_length 0 o.tokens ∙ ap length e

fewer : (o : Out) (ts : List Token) (left : ℕ) → o.tokens ≡ lexemes ts → (run 64 start [] (tokens_from 0 o.tokens ++ leaf Finish ∷ []) ≡ Err (Refusal left)) ⊎ (run 64 start [] (tokens_from 0 o.tokens ++ leaf Finish ∷ []) ≡ Err (Deep left)) → left ≤ length (lexemes ts)
fewer o ts left e h = omega (arith, left_within (tokens_from 0 o.tokens ++ leaf Finish ∷ []) start [] left h, length-append (tokens_from 0 o.tokens) (leaf Finish ∷ []), tokens_length 0 o.tokens, ap length e)

pub answers_refused : (o : Out) (ts : List Token) (left : ℕ) → o.tokens ≡ lexemes ts → run 64 start [] (stream 0 ts) ≡ Err (Refusal left) → Answers (Err (refusal_at (lexemes ts) left o.stop)) o
answers_refused o ts left e h = by_stop o.stop refl left (ran_over o ts (Err (Refusal left)) e h)
  where
    by_stop : (s : Option (Number × ℕ)) → o.stop ≡ s → (left : ℕ) → run 64 start [] (tokens_from 0 o.tokens ++ leaf Finish ∷ []) ≡ Err (Refusal left) → Answers (Err (refusal_at (lexemes ts) left s)) o
    by_stop None n zero h = let k = length (lexemes ts) in
        (refl, refused k refl (first_wrong 64 (text_tokens o) 0 k (ap (run 64 start []) (text_whole o n) ∙ h) (omega (arith, whole_length o ts e n))) (line_is o ts k e))
    by_stop None n (suc left) h = let k = length (lexemes ts) - suc left in
        (refl, refused k refl (first_wrong 64 (text_tokens o) (suc left) k (ap (run 64 start []) (text_whole o n) ∙ h) (omega (arith, whole_length o ts e n, fewer o ts (suc left) e (inl h)))) (line_is o ts k e))
    by_stop (Some stop) n zero h = (refl, stopped n (subst (BeginsWithin 64) (sym (text_cut o stop n)) ((refused_text (tokens_from 0 o.tokens) 0 h).at_last refl)))
    by_stop (Some stop) n (suc left) h = let k = length (lexemes ts) - suc left in
        (refl, refused k refl (first_wrong 64 (text_tokens o) left k (ap (run 64 start []) (text_cut o stop n) ∙ (refused_text (tokens_from 0 o.tokens) (suc left) h).earlier left refl) (omega (arith, cut_length o ts stop e n, fewer o ts (suc left) e (inl h)))) (line_is o ts k e))

pub answers_deep : (o : Out) (ts : List Token) (left : ℕ) → o.tokens ≡ lexemes ts → run 64 start [] (stream 0 ts) ≡ Err (Deep left) → Answers (Err (deep_at (lexemes ts) left o.stop)) o
answers_deep o ts left e h = by_stop o.stop refl left (ran_over o ts (Err (Deep left)) e h)
  where
    by_stop : (s : Option (Number × ℕ)) → o.stop ≡ s → (left : ℕ) → run 64 start [] (tokens_from 0 o.tokens ++ leaf Finish ∷ []) ≡ Err (Deep left) → Answers (Err (deep_at (lexemes ts) left s)) o
    by_stop None n zero h = let k = length (lexemes ts) in
        (refl, too_deep k refl (first_deep 64 (text_tokens o) 0 k (ap (run 64 start []) (text_whole o n) ∙ h) (omega (arith, whole_length o ts e n))) (deep_line o ts k e (opening_whole o k n)))
    by_stop None n (suc left) h = let k = length (lexemes ts) - suc left in
        (refl, too_deep k refl (first_deep 64 (text_tokens o) (suc left) k (ap (run 64 start []) (text_whole o n) ∙ h) (omega (arith, whole_length o ts e n, fewer o ts (suc left) e (inr h)))) (deep_line o ts k e (opening_whole o k n)))
    by_stop (Some stop) n zero h = (refl, stopped n (subst (BeginsWithin 64) (sym (text_cut o stop n)) ((deep_text (tokens_from 0 o.tokens) 0 h).at_last refl)))
    by_stop (Some stop) n (suc left) h = let k = length (lexemes ts) - suc left in
        (refl, too_deep k refl (first_deep 64 (text_tokens o) left k (ap (run 64 start []) (text_cut o stop n) ∙ (deep_text (tokens_from 0 o.tokens) (suc left) h).earlier left refl) (omega (arith, cut_length o ts stop e n, fewer o ts (suc left) e (inr h)))) (deep_line o ts k e (opening_cut o stop k n)))

-- the call of a fault asks for no more left than there is
pub left_fits : (ts : List Token) (left : ℕ) → (run 64 start [] (stream 0 ts) ≡ Err (Refusal left)) ⊎ (run 64 start [] (stream 0 ts) ≡ Err (Deep left)) → left ≤ length ts
left_fits ts left h = omega (arith, left_within (stream 0 ts) start [] left h, ahead_length 0 ts)

-- ---- the answer of a call

pub left_in : (f : Failure) (ts : List Token) → Fails f (run 64 start [] (stream 0 ts)) → LeftIn f (length ts)
left_in failure.Memory ts h = tt
left_in (failure.Refused left) ts h = left_fits ts left (inl h)
left_in (failure.Deep left) ts h = left_fits ts left (inr h)

answers_failure : (f : Failure) (o : Out) (ts : List Token) → o.tokens ≡ lexemes ts → Fails f (run 64 start [] (stream 0 ts)) → Answers (Err (fault_of f (lexemes ts) o.stop)) o
answers_failure failure.Memory o ts e h = tt
answers_failure (failure.Refused left) o ts e h = answers_refused o ts left e h
answers_failure (failure.Deep left) o ts e h = answers_deep o ts left e h

pub answer_failure : (x : Expanded) (o : Out) (ts : List Token) (f : Failure) (k : Fault) → x ≡ expansion_of o → x.tokens ≡ lexemes ts → k ≡ fault_of f (lexemes ts) x.stop → Fails f (run 64 start [] (stream 0 ts)) → Answers (Err k) o
answer_failure x o ts f k e t g h = subst (λ (y : Fault). Answers (Err y) o) (sym (g ∙ ap (fault_of f (lexemes ts)) (ap (λ (y : Expanded). y.stop) e))) (answers_failure f o ts (sym (ap (λ (y : Expanded). y.tokens) e) ∙ t) h)

pub answer_tree : (x : Expanded) (o : Out) (ts : List Token) (m : Module) → x ≡ expansion_of o → x.tokens ≡ lexemes ts → x.stop ≡ None → run 64 start [] (stream 0 ts) ≡ Ok (record { awaited = []; read = ModuleR (module_of m) ∷ [] }) → Answers (Ok m) o
answer_tree x o ts m e t n h = answers_tree m o ts (sym (ap (λ (y : Expanded). y.tokens) e) ∙ t) (sym (ap (λ (y : Expanded). y.stop) e) ∙ n) h

pub answer_stop : (x : Expanded) (o : Out) (ts : List Token) (number : Number) (line : ℕ) (r : Reading) → x ≡ expansion_of o → x.tokens ≡ lexemes ts → x.stop ≡ Some (number, line) → run 64 start [] (stream 0 ts) ≡ Ok r → Answers (Err (At 0 line number)) o
answer_stop x o ts number line r e t n h = (refl, answers_stop number line o ts r (sym (ap (λ (y : Expanded). y.tokens) e) ∙ t) (sym (ap (λ (y : Expanded). y.stop) e) ∙ n) h)

-- the same of what was read, whatever it is

from_start : (c : Cursor) → c.number ≡ 0 → run 64 start [] (stream 0 c.tokens.now) ≡ run 64 start [] (ahead c)
from_start c e = ap (λ (n : ℕ). run 64 start [] (stream n c.tokens.now)) (sym e)

pub left_of : (c : Cursor) (x : Result Module Failure) → c.number ≡ 0 → Parses c x → IfErr x (λ f. LeftIn f (length c.tokens.now))
left_of c (Ok m) e h = tt
left_of c (Err f) e h = left_in f c.tokens.now (subst (Fails f) (sym (from_start c e)) h)

pub answer : (x : Expanded) (o : Out) (c : Cursor) (y : Result Module Failure) (r : Result Module Fault) → x ≡ expansion_of o → x.tokens ≡ lexemes c.tokens.now → c.number ≡ 0 → Parses c y
    → IfOk y (λ m. IfNone x.stop (r ≡ Ok m)) → IfOk y (λ m. IfSome x.stop (λ s. r ≡ Err (At 0 s.1 s.0))) → IfErr y (λ f. r ≡ Err (fault_of f (lexemes c.tokens.now) x.stop)) → Answers r o
answer x o c (Ok m) r e t n h tree stop failure = by_stop x.stop refl tree stop
  where
    by_stop : (s : Option (Number × ℕ)) → x.stop ≡ s → IfNone s (r ≡ Ok m) → IfSome s (λ s. r ≡ Err (At 0 s.1 s.0)) → Answers r o
    by_stop None q is _ = subst (λ (k : Result Module Fault). Answers k o) (sym is) (answer_tree x o c.tokens.now m e t q (from_start c n ∙ h))
    by_stop (Some s) q _ is = subst (λ (k : Result Module Fault). Answers k o) (sym is) (answer_stop x o c.tokens.now s.0 s.1 _ e t q (from_start c n ∙ h))
answer x o c (Err f) r e t n h tree stop failure = subst (λ (k : Result Module Fault). Answers k o) (sym failure) (answer_failure x o c.tokens.now f (fault_of f (lexemes c.tokens.now) x.stop) e t refl (subst (Fails f) (sym (from_start c n)) h))

-- ---- the kind of a token

abbrev kind_at : ℕ → Option Token → Terminal
kind_at m None = Finish
kind_at m (Some t) = terminal_of t.kind t.text.now (place_at m t)

terminal_here : (k n : ℕ) (ts : List Token) → terminal_at k (tokens_from n (lexemes ts)) ≡ kind_at (n + k) (slice_get ts k)
terminal_here k n [] = refl
terminal_here zero n (t ∷ ts) = ap (λ (m : ℕ). terminal_of t.kind t.text.now (place_at m t)) (omega arith)
terminal_here (suc k) n (t ∷ ts) = terminal_here k (n + 1) ts ∙ ap (λ (m : ℕ). kind_at m (slice_get ts k)) (omega arith)

pub opening_at : (k : ℕ) (ts : List Token) (t : Token) (b : Bool) → slice_get ts k ≡ Some t → ((text : List ℕ) (p : Position) → b ≡ is_key key.Procedure (terminal_of t.kind text p)) → cond b (k - 2) k ≡ opening_token (tokens_from 0 (lexemes ts)) k
opening_at k ts t b e h =
    ap (λ (c : Bool). cond c (k - 2) k) (h t.text.now (place_at (0 + k) t) ∙ ap (λ (o : Option Token). is_key key.Procedure (kind_at (0 + k) o)) (sym e) ∙ ap (is_key key.Procedure) (sym (terminal_here k 0 ts)))

pub opening_past : (k : ℕ) (ts : List Token) → slice_get ts k ≡ None → k ≡ opening_token (tokens_from 0 (lexemes ts)) k
opening_past k ts e = ap (λ (c : Bool). cond c (k - 2) k) (ap (λ (o : Option Token). is_key key.Procedure (kind_at (0 + k) o)) (sym e) ∙ ap (is_key key.Procedure) (sym (terminal_here k 0 ts)))

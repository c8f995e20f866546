-- Parts that were read, with what stands around them.
use Rattle.std.proofs.Common.{◌≡◌, ◌∷◌, ◌≤◌, ◌<◌, List, Bool, false, cond, Result, Ok, Err, refl, sym, ap, ◌∙◌, subst, length, arith}
use Rattle.std.proofs.lemmas.Bool.{eq-eqb}
use Rattle.std.specs.Global.{Box}
use Rattle.plm_token.specs.declared.token.Mark.{Mark}
use Rattle.plm_token.specs.declared.token.Keyword.{Keyword}
use Rattle.plm_syntax.specs.declared.tree.Position.{Position}
use Rattle.plm_syntax.specs.declared.cursor.Cursor.{Cursor}
use Rattle.plm_syntax.specs.declared.failure.Failure.{Failure}
use Rattle.plm_syntax.specs.Terminal.{Key, Sign, Leaf, leaf_at, key_number}
use Rattle.plm_syntax.specs.Inner.Terminal.{is_sign, sign_number}
use Rattle.plm_syntax.specs.declared.tree.UnaryOperator.{UnaryOperator}
use Rattle.plm_syntax.specs.declared.tree.Expression.{Expression}
use Rattle.plm_syntax.specs.Tree.{ExpressionT, UnaryE}
use Rattle.plm_syntax.specs.View.{expression_of}
use Rattle.plm_syntax.specs.Inner.Parts.{IsUnary, read_expression}
use Rattle.plm_syntax.specs.Inner.Symbol.{Value, Symbol, Need, need, ExpressionR}
use Rattle.plm_syntax.specs.Inner.Machine.{Stay, Next, Stop, Refusal, Reading, run}
use Rattle.plm_syntax.specs.Inner.Parsed.{ahead, next_of, Takes, Closes, ClosesWord, IsBoxed, IsBeside, IsLost, Fails, Arrives, Within}
use Rattle.plm_syntax.specs.Inner.Blocks.{Shrinks}
use Rattle.plm_syntax.proofs.Along.{gone, taken, need_refused, refusal}

-- ---- what a result says, where it is known

pub arrived : {A : Type 0} (part : A → List Value → List Value) (s : List Symbol) (v : List Value) {x : Result (A × Cursor) Failure} {a : A} {c : Cursor} {o : Result Reading Stop}
    → x ≡ Ok (a, c) → Arrives part s v x o → o ≡ run 64 s (part a v) (ahead c)
arrived part s v {o = o} e h = subst (λ y. Arrives part s v y o) e h

pub ended : {A : Type 0} (part : A → List Value → List Value) (s : List Symbol) (v : List Value) {x : Result (A × Cursor) Failure} {f : Failure} (o : Result Reading Stop)
    → x ≡ Err f → Arrives part s v x o → Fails f o
ended part s v o e h = subst (λ y. Arrives part s v y o) e h

pub lost : {A : Type 0} (part : A → List Value → List Value) (s : List Symbol) (v : List Value) (x : Result (A × Cursor) Failure) (f : Failure) (o : Result Reading Stop)
    → IsLost x f → Arrives part s v x o → Fails f o
lost part s v (Ok x) f o q h = subst (λ (k : Failure). Fails k o) (sym q) tt
lost part s v (Err e) f o q h = subst (λ (k : Failure). Fails k o) (sym q) h

pub stays_within : {A : Type 0} (d : Cursor) {x : Result (A × Cursor) Failure} {a : A} {c : Cursor} → x ≡ Ok (a, c) → Within x d → length c.tokens.now ≤ length d.tokens.now
stays_within d e h = subst (λ y. Within y d) e h

pub stays_less : {A : Type 0} (d : Cursor) {x : Result (A × Cursor) Failure} {a : A} {c : Cursor} → x ≡ Ok (a, c) → Shrinks x d → length c.tokens.now < length d.tokens.now
stays_less d e h = subst (λ y. Shrinks y d) e h

-- ---- a token after a part

pub marked : (m : Mark) (p : Position) (s : List Symbol) (v : List Value) (ls : List Leaf) → run 64 (need m ∷ s) v (leaf_at (Sign m) p ∷ ls) ≡ run 64 s v ls
marked m p s v ls = ap (λ (b : Bool). gone (cond b (Next s v) Stay) ls) (eq-eqb (sign_number m) (sign_number m) refl)

worded : (k : Keyword) (p : Position) (s : List Symbol) (v : List Value) (ls : List Leaf) → run 64 (Need (Key k) ∷ s) v (leaf_at (Key k) p ∷ ls) ≡ run 64 s v ls
worded k p s v ls = ap (λ (b : Bool). gone (cond b (Next s v) Stay) ls) (eq-eqb (key_number k) (key_number k) refl)

pub closes : {A : Type 0} (part : A → List Value → List Value) (m : Mark) (s : List Symbol) (v : List Value) (x r : Result (A × Cursor) Failure) (o : Result Reading Stop)
    → Closes m x r → Arrives part (need m ∷ s) v x o → Arrives part s v r o
closes part m s v (Ok x) (Ok y) o h e = e ∙ taken (need m ∷ s) (part x.0 v) h.1.1 ∙ marked m h.1.0 s (part x.0 v) (ahead y.1) ∙ ap (λ a. run 64 s (part a v) (ahead y.1)) (sym h.0)
closes part m s v (Ok x) (Err f) o h e = refusal f x.1 h.1 (e ∙ need_refused (Sign m) x.1 s (part x.0 v) h.0)
closes part m s v (Err e) r o h q = subst (λ y. Arrives part s v y o) (sym h) q

-- where more is done after the token
pub closes_at : {A : Type 0} (part : A → List Value → List Value) (m : Mark) (s t : List Symbol) (v w : List Value) (a : A) (c : Cursor) (r : Result (A × Cursor) Failure) {o : Result Reading Stop}
    → Closes m (Ok (a, c)) r → o ≡ run 64 (need m ∷ t) w (ahead c) → ((b : Cursor) → run 64 t w (ahead b) ≡ run 64 s (part a v) (ahead b)) → Arrives part s v r o
closes_at part m s t v w a c (Ok y) h e q = e ∙ taken (need m ∷ t) w h.1.1 ∙ marked m h.1.0 t w (ahead y.1) ∙ q y.1 ∙ ap (λ b. run 64 s (part b v) (ahead y.1)) (sym h.0)
closes_at part m s t v w a c (Err f) h e q = refusal f c h.1 (e ∙ need_refused (Sign m) c t w h.0)

-- where the token is one of several that may come
pub closes_by : {A : Type 0} (part : A → List Value → List Value) (m : Mark) (s : List Symbol) (v : List Value) (a : A) (c : Cursor) (r : Result (A × Cursor) Failure) {o : Result Reading Stop}
    → Closes m (Ok (a, c)) r → (is_sign m (next_of c) ≡ false → o ≡ Err (Refusal (length c.tokens.now))) → ((p : Position) (b : Cursor) → Takes c (Sign m) p b → o ≡ run 64 s (part a v) (ahead b)) → Arrives part s v r o
closes_by part m s v a c (Ok y) h stop go = go h.1.0 y.1 h.1.1 ∙ ap (λ b. run 64 s (part b v) (ahead y.1)) (sym h.0)
closes_by part m s v a c (Err f) h stop go = refusal f c h.1 (stop h.0)

pub closes_word : {A : Type 0} (part : A → List Value → List Value) (k : Keyword) (s : List Symbol) (v : List Value) (a : A) (c : Cursor) (r : Result (A × Cursor) Failure) {o : Result Reading Stop}
    → ClosesWord k a c r → o ≡ run 64 (Need (Key k) ∷ s) (part a v) (ahead c) → Arrives part s v r o
closes_word part k s v a c (Ok y) h e = e ∙ taken (Need (Key k) ∷ s) (part a v) h.1.1 ∙ worded k h.1.0 s (part a v) (ahead y.1) ∙ ap (λ b. run 64 s (part b v) (ahead y.1)) (sym h.0)
closes_word part k s v a c (Err f) h e = refusal f c h.1 (e ∙ need_refused (Key k) c s (part a v) h.0)

pub closes_within : {A : Type 0} (m : Mark) (c : Cursor) (x r : Result (A × Cursor) Failure) → Closes m x r → Within x c → Within r c
closes_within m c (Ok x) (Ok y) h w = omega (arith, h.1.1.shorter)
closes_within m c (Ok x) (Err f) h w = tt
closes_within m c (Err e) r h w = subst (λ y. Within y c) (sym h) tt

pub closes_less : {A : Type 0} (m : Mark) (c : Cursor) (x r : Result (A × Cursor) Failure) → Closes m x r → Within x c → Shrinks r c
closes_less m c (Ok x) (Ok y) h w = omega (arith, h.1.1.shorter)
closes_less m c (Ok x) (Err f) h w = tt
closes_less m c (Err e) r h w = subst (λ y. Shrinks y c) (sym h) tt

pub word_less : {A : Type 0} (k : Keyword) (a : A) (d c : Cursor) (r : Result (A × Cursor) Failure) → ClosesWord k a c r → length c.tokens.now ≤ length d.tokens.now → Shrinks r d
word_less k a d c (Ok y) h w = omega (arith, h.1.1.shorter)
word_less k a d c (Err f) h w = tt

-- ---- a part in a box, and beside another

pub boxes : {A : Type 0} (part : A → List Value → List Value) (s : List Symbol) (v : List Value) (x : Result (A × Cursor) Failure) (r : Result (Box A × Cursor) Failure) (o : Result Reading Stop)
    → IsBoxed x r → Arrives part s v x o → Arrives (λ b. part b.value) s v r o
boxes part s v (Ok x) (Ok y) o h e = e ∙ ap (λ a. run 64 s (part a v) (ahead x.1)) (sym h.0) ∙ ap (λ (c : Cursor). run 64 s (part y.0.value v) (ahead c)) (sym h.1)
boxes part s v (Ok x) (Err f) o h e = subst (λ (k : Failure). Fails k o) (sym h) tt
boxes part s v (Err e) r o h q = subst (λ y. Arrives (λ b. part b.value) s v y o) (sym h) q

pub boxes_within : {A : Type 0} (d : Cursor) (x : Result (A × Cursor) Failure) (r : Result (Box A × Cursor) Failure) → IsBoxed x r → Within x d → Within r d
boxes_within d (Ok x) (Ok y) h w = subst (λ (c : Cursor). length c.tokens.now ≤ length d.tokens.now) (sym h.1) w
boxes_within d (Ok x) (Err f) h w = tt
boxes_within d (Err e) r h w = subst (λ y. Within y d) (sym h) tt

pub besides : {A B : Type 0} (part : B → List Value → List Value) (both : A × B → List Value → List Value) (a : A) (s : List Symbol) (u v : List Value) (x : Result (B × Cursor) Failure) (r : Result ((A × B) × Cursor) Failure) (o : Result Reading Stop)
    → IsBeside a x r → ((b : B) → part b u ≡ both (a, b) v) → Arrives part s u x o → Arrives both s v r o
besides part both a s u v x (Ok y) o h same e = arrived part s u h.1 e ∙ ap (λ w. run 64 s w (ahead y.1)) (same y.0.1) ∙ ap (λ b. run 64 s (both (b, y.0.1) v) (ahead y.1)) (sym h.0)
besides part both a s u v x (Err f) o h same e = ended part s u o h e

pub besides_within : {A B : Type 0} (a : A) (d : Cursor) (x : Result (B × Cursor) Failure) (r : Result ((A × B) × Cursor) Failure) → IsBeside a x r → Within x d → Within r d
besides_within a d x (Ok y) h w = stays_within d h.1 w
besides_within a d x (Err f) h w = tt

-- an operator before its operand
pub operated : (p : Position) (k : UnaryOperator) (s t : List Symbol) (v : List Value) (x r : Result (Expression × Cursor) Failure) (o : Result Reading Stop)
    → IsUnary p k x r → ((y : Expression) (c : Cursor) → run 64 t (read_expression y v) (ahead c) ≡ run 64 s (ExpressionR (UnaryE p k (expression_of y)) ∷ v) (ahead c)) → Arrives read_expression t v x o → Arrives read_expression s v r o
operated p k s t v (Ok x) (Ok y) o h q e = e ∙ q x.0 x.1 ∙ ap (λ (z : ExpressionT). run 64 s (ExpressionR z ∷ v) (ahead x.1)) (sym h.0) ∙ ap (λ (c : Cursor). run 64 s (read_expression y.0 v) (ahead c)) (sym h.1)
operated p k s t v (Ok x) (Err f) o h q e = subst (λ (z : Failure). Fails z o) (sym h) tt
operated p k s t v (Err g) r o h q e = subst (λ y. Arrives read_expression s v y o) (sym h) e

pub operated_within : (p : Position) (k : UnaryOperator) (d : Cursor) (x r : Result (Expression × Cursor) Failure) → IsUnary p k x r → Within x d → Within r d
operated_within p k d (Ok x) (Ok y) h w = subst (λ (c : Cursor). length c.tokens.now ≤ length d.tokens.now) (sym h.1) w
operated_within p k d (Ok x) (Err f) h w = tt
operated_within p k d (Err e) r h w = subst (λ y. Within y d) (sym h) tt

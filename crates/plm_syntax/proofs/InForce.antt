-- The literals in force at each token that is put out are those of the tree.
use Rattle.std.proofs.Common.{◌≡◌, ℕ, zero, suc, ◌+◌, ◌≤◌, List, [], ◌∷◌, ◌++◌, length, take, fold, Bool, true, false, cond, ◌&&◌, ◌||◌, Option, Some, None, Result, Ok, Err, refl, sym, ap, ◌∙◌, arith}
use Rattle.std.proofs.Math.Bool.{or-false}
use Rattle.std.proofs.lemmas.List.{append-nil}
use Rattle.word86.specs.declared.number.Number.{Number}
use Rattle.plm_token.specs.declared.token.Keyword.{Keyword}
use Rattle.plm_token.specs.declared.token.Keyword.TheVariants as key
use Rattle.plm_token.specs.declared.token.Mark.{Mark}
use Rattle.plm_token.specs.declared.token.Mark.TheVariants as mark
use Rattle.plm_token.specs.declared.token.Kind.{Kind}
use Rattle.plm_token.specs.declared.token.Kind.TheVariants.{Reserved, Identifier, Numeral as NumeralKind, String, Special}
use Rattle.plm_token.specs.Scanner.{Lexeme}
use Rattle.plm_token.specs.Literals.{Symbol, literal_of}
use Rattle.plm_syntax.specs.declared.tree.Position.{Position}
use Rattle.plm_syntax.specs.Terminal.{Terminal, Finish, Leaf, leaf}
use Rattle.plm_syntax.specs.Tree.{ModuleT}
use Rattle.plm_syntax.specs.Spelling.{leaves_of}
use Rattle.plm_syntax.specs.Sentence.{Fits, Spells}
use Rattle.plm_syntax.specs.Literals.{LiteralText, Blocks, Out, opens, ends, declares, finishes, is_keyword, is_identifier, opened, closed, ends_block, blocks_behind, name_of, declared_name, between, declare, put, put_source, nothing_out}
use Rattle.plm_syntax.specs.Faults.{terminal_of, place_of, tokens_from}
use Rattle.plm_syntax.specs.InForce.{table_at, in_force, put_all}
use Rattle.plm_syntax.proofs.Replaced.{no_string}
use Rattle.plm_syntax.proofs.Words.{Word, Declares, Named, Quoted, Other, key_word, sign_word, word_of, ends_words, name_words, finished, named, behind, trail, blocks}
use Rattle.plm_syntax.proofs.LeadBlock.{module_trail}

-- ---- tokens as words

abbrev pub word_for : Kind → List ℕ → Word
word_for (Reserved k) text = key_word k
word_for Identifier text = Named text
word_for (NumeralKind v) text = Other
word_for String text = Quoted text
word_for (Special m) text = sign_word m

abbrev pub word_last : Option Lexeme → Word
word_last None = Other
word_last (Some t) = word_for t.kind t.text

pub word_terminal : (k : Kind) (text : List ℕ) (p : Position) → word_of (terminal_of k text p) ≡ word_for k text
word_terminal (Reserved k) text p = refl
word_terminal Identifier text p = refl
word_terminal (NumeralKind v) text p = refl
word_terminal String text p = refl
word_terminal (Special m) text p = refl

-- ---- the tests of tokens are those of their words

pub key_ends : (k : Keyword) (w : Word) → ends k ≡ ends_words (key_word k) w
key_ends key.Do w = refl
key_ends key.Procedure w = refl
key_ends key.End w = refl
key_ends key.Literally w = refl
key_ends k w = refl

pub sign_ends : (m : Mark) (w : Word) → false ≡ ends_words (sign_word m) w
sign_ends mark.Semicolon w = refl
sign_ends m w = refl

pub key_behind_name : (n : List ℕ) (k : Keyword) → ends k ≡ ends_words (Named n) (key_word k)
key_behind_name n key.Do = refl
key_behind_name n key.Procedure = refl
key_behind_name n key.End = refl
key_behind_name n key.Literally = refl
key_behind_name n k = refl

pub sign_behind_name : (n : List ℕ) (m : Mark) → false ≡ ends_words (Named n) (sign_word m)
sign_behind_name n mark.Semicolon = refl
sign_behind_name n m = refl

pub name_ends : (n : List ℕ) (k : Kind) (text : List ℕ) → is_keyword ends k ≡ ends_words (Named n) (word_for k text)
name_ends n (Reserved k) text = key_behind_name n k
name_ends n Identifier text = refl
name_ends n (NumeralKind v) text = refl
name_ends n String text = refl
name_ends n (Special m) text = sign_behind_name n m

pub one_ends : (k : Kind) (text : List ℕ) → is_keyword ends k ≡ ends_words (word_for k text) Other
one_ends (Reserved k) text = key_ends k Other
one_ends Identifier text = refl
one_ends (NumeralKind v) text = refl
one_ends String text = refl
one_ends (Special m) text = sign_ends m Other

pub two_end : (k : Kind) (text : List ℕ) (j : Kind) (before : List ℕ) → (is_keyword ends k || (is_identifier k && is_keyword ends j)) ≡ ends_words (word_for k text) (word_for j before)
two_end (Reserved k) text j before = or-false (ends k) ∙ key_ends k (word_for j before)
two_end Identifier text j before = name_ends text j before
two_end (NumeralKind v) text j before = refl
two_end String text j before = refl
two_end (Special m) text j before = sign_ends m (word_for j before)

pub same_ends : (last before : Option Lexeme) → ends_block last before ≡ ends_words (word_last last) (word_last before)
same_ends None before = refl
same_ends (Some l) None = one_ends l.kind l.text
same_ends (Some l) (Some b) = two_end l.kind l.text b.kind b.text

pub unnamed : (a : Word) → None ≡ name_words a Other
unnamed Declares = refl
unnamed a = refl

pub key_names : (b : Bool) (k : Kind) (text : List ℕ) → (b ≡ is_identifier k) → name_of b text ≡ name_words Declares (word_for k text)
key_names b (Reserved k) text e = ap (λ (x : Bool). name_of x text) e ∙ by_key k
  where
    by_key : (j : Keyword) → None ≡ name_words Declares (key_word j)
    by_key key.Do = refl
    by_key key.Procedure = refl
    by_key key.End = refl
    by_key key.Literally = refl
    by_key j = refl
key_names b Identifier text e = ap (λ (x : Bool). name_of x text) e
key_names b (NumeralKind v) text e = ap (λ (x : Bool). name_of x text) e
key_names b String text e = ap (λ (x : Bool). name_of x text) e
key_names b (Special m) text e = ap (λ (x : Bool). name_of x text) e ∙ by_sign m
  where
    by_sign : (j : Mark) → None ≡ name_words Declares (sign_word j)
    by_sign mark.Semicolon = refl
    by_sign j = refl

pub word_names : (k : Keyword) (j : Kind) (text : List ℕ) → name_of (declares k && is_identifier j) text ≡ name_words (key_word k) (word_for j text)
word_names key.Literally j text = key_names (is_identifier j) j text refl
word_names key.Do j text = refl
word_names key.Procedure j text = refl
word_names key.End j text = refl
word_names k j text = refl

pub sign_names : (m : Mark) (w : Word) → None ≡ name_words (sign_word m) w
sign_names mark.Semicolon w = refl
sign_names m w = refl

pub two_name : (k : Kind) (text : List ℕ) (j : Kind) (before : List ℕ) → name_of (is_keyword declares k && is_identifier j) before ≡ name_words (word_for k text) (word_for j before)
two_name (Reserved k) text j before = word_names k j before
two_name Identifier text j before = refl
two_name (NumeralKind v) text j before = refl
two_name String text j before = refl
two_name (Special m) text j before = sign_names m (word_for j before)

pub same_name : (last before : Option Lexeme) → declared_name String last before ≡ name_words (word_last last) (word_last before)
same_name None before = refl
same_name (Some l) None = unnamed (word_for l.kind l.text)
same_name (Some l) (Some b) = two_name l.kind l.text b.kind b.text

-- ---- a token put out does what its word does

pub declare_blocks : (name : Option (List ℕ)) (r : Result (List Symbol) Number) (line : ℕ) (o : Out) → (declare name r line o).blocks ≡ named name r o.blocks
declare_blocks None r line o = refl
declare_blocks (Some n) (Ok text) line o = refl
declare_blocks (Some n) (Err number) line o = ap (λ (x : List LiteralText). blocks x o.blocks.starts) (sym (append-nil o.blocks.literals))

pub declare_last : (name : Option (List ℕ)) (r : Result (List Symbol) Number) (line : ℕ) (o : Out) → (declare name r line o).last ≡ o.last
declare_last None r line o = refl
declare_last (Some n) (Ok text) line o = refl
declare_last (Some n) (Err number) line o = refl

pub declare_before : (name : Option (List ℕ)) (r : Result (List Symbol) Number) (line : ℕ) (o : Out) → (declare name r line o).before ≡ o.before
declare_before None r line o = refl
declare_before (Some n) (Ok text) line o = refl
declare_before (Some n) (Err number) line o = refl

pub key_does : (k : Keyword) (a b : Word) (bs : Blocks) → cond (opens k) (opened bs) bs ≡ behind (key_word k) a b bs
key_does key.Do a b bs = refl
key_does key.Procedure a b bs = refl
key_does key.End a b bs = refl
key_does key.Literally a b bs = refl
key_does k a b bs = refl

pub finishing : (e : Bool) (bs : Blocks) → cond e (closed bs.literals bs.starts) bs ≡ finished e bs
finishing true bs = refl
finishing false bs = refl

pub sign_does : (m : Mark) (last before : Option Lexeme) (bs : Blocks) → cond (finishes m && ends_block last before) (closed bs.literals bs.starts) bs ≡ behind (sign_word m) (word_last last) (word_last before) bs
sign_does mark.Semicolon last before bs = finishing (ends_block last before) bs ∙ ap (λ (x : Bool). finished x bs) (same_ends last before)
sign_does m last before bs = refl

pub kind_does : (k : Kind) (text : List ℕ) (last before : Option Lexeme) (bs : Blocks) → named (declared_name k last before) (literal_of (between text)) (blocks_behind k (ends_block last before) bs) ≡ behind (word_for k text) (word_last last) (word_last before) bs
kind_does (Reserved k) text last before bs = ap (λ (x : Option (List ℕ)). named x (literal_of (between text)) (cond (opens k) (opened bs) bs)) (no_string (Reserved k) last before refl) ∙ key_does k (word_last last) (word_last before) bs
kind_does Identifier text last before bs = ap (λ (x : Option (List ℕ)). named x (literal_of (between text)) bs) (no_string Identifier last before refl)
kind_does (NumeralKind v) text last before bs = ap (λ (x : Option (List ℕ)). named x (literal_of (between text)) bs) (no_string (NumeralKind v) last before refl)
kind_does String text last before bs = ap (λ (x : Option (List ℕ)). named x (literal_of (between text)) bs) (same_name last before)
kind_does (Special m) text last before bs = ap (λ (x : Option (List ℕ)). named x (literal_of (between text)) (cond (finishes m && ends_block last before) (closed bs.literals bs.starts) bs)) (no_string (Special m) last before refl) ∙ sign_does m last before bs

pub put_does : (t : Lexeme) (o : Out) → (put_source t o).blocks ≡ behind (word_for t.kind t.text) (word_last o.last) (word_last o.before) o.blocks
put_does t o = declare_blocks (declared_name t.kind o.last o.before) (literal_of (between t.text)) t.line (put t o) ∙ kind_does t.kind t.text o.last o.before o.blocks

-- ---- tokens put out one after the other

abbrev pub trail_of : Out → List Leaf → List (List LiteralText)
trail_of o ls = trail o.blocks (word_last o.last) (word_last o.before) ls

pub step_trail : (t : Lexeme) (p : Position) (o : Out) (ls : List Leaf) →
    trail (behind (word_of (terminal_of t.kind t.text p)) (word_last o.last) (word_last o.before) o.blocks) (word_of (terminal_of t.kind t.text p)) (word_last o.last) ls ≡ trail_of (put_source t o) ls
step_trail t p o ls =
    ap (λ (x : Word). trail (behind x (word_last o.last) (word_last o.before) o.blocks) x (word_last o.last) ls) (word_terminal t.kind t.text p)
    ∙ ap (λ (x : Blocks). trail x (word_for t.kind t.text) (word_last o.last) ls) (sym (put_does t o))
    ∙ ap (λ (x : Option Lexeme). trail (put_source t o).blocks (word_last x) (word_last o.last) ls) (sym (declare_last (declared_name t.kind o.last o.before) (literal_of (between t.text)) t.line (put t o)))
    ∙ ap (λ (x : Option Lexeme). trail (put_source t o).blocks (word_last (put_source t o).last) (word_last x) ls) (sym (declare_before (declared_name t.kind o.last o.before) (literal_of (between t.text)) t.line (put t o)))

abbrev pub puts : Out → List Lexeme → Out
puts o ts = fold (λ p t. put_source t p) o ts

pub nth_trail : (ts : List Lexeme) (k : ℕ) (o : Out) (n : ℕ) → n ≤ length ts → table_at (trail_of o (tokens_from k ts ++ leaf Finish ∷ [])) n ≡ (puts o (take n ts)).blocks.literals
nth_trail [] k o zero h = refl
nth_trail [] k o (suc n) h = absurd (omega (arith, h))
nth_trail (t ∷ ts) k o zero h = refl
nth_trail (t ∷ ts) k o (suc n) h = ap (λ (x : List (List LiteralText)). table_at x n) (step_trail t (place_of k t) o (tokens_from (k + 1) ts ++ leaf Finish ∷ [])) ∙ nth_trail ts (k + 1) (put_source t o) n (omega (arith, h))

-- leaves that fit tokens have the same trail
pub fit_trail : (ls ts : List Leaf) (bs : Blocks) (a b : Word) → Fits ls ts → trail bs a b ls ≡ trail bs a b ts
fit_trail [] [] bs a b f = refl
fit_trail [] (t ∷ ts) bs a b f = absurd f
fit_trail (l ∷ ls) [] bs a b f = absurd f
fit_trail (l ∷ ls) (t ∷ ts) bs a b f =
    ap (λ (x : Terminal). bs.literals ∷ trail (behind (word_of x) a b bs) (word_of x) a ls) f.0
    ∙ ap (λ (x : List (List LiteralText)). bs.literals ∷ x) (fit_trail ls ts (behind (word_of t.terminal) a b bs) (word_of t.terminal) a f.2)

pub at_token : (ts : List Lexeme) (m : ModuleT) → Spells m (tokens_from 0 ts ++ leaf Finish ∷ []) → (n : ℕ) → n ≤ length ts → (put_all (take n ts)).blocks.literals ≡ in_force m n
at_token ts m f n h =
    sym (nth_trail ts 0 nothing_out n h)
    ∙ ap (λ (x : List (List LiteralText)). table_at x n) (sym (fit_trail (leaves_of m) (tokens_from 0 ts ++ leaf Finish ∷ []) (blocks [] []) Other Other f) ∙ module_trail m)

-- What the literals in force hang on: tokens as words, the literals at each, and parts that lead from some literals to others.
use Rattle.std.proofs.Common.{◌≡◌, ℕ, List, [], ◌∷◌, ◌++◌, length, Bool, true, false, Option, Some, None, Result, refl, ap, ◌∙◌}
use Rattle.plm_token.specs.declared.token.Keyword.{Keyword}
use Rattle.plm_token.specs.declared.token.Keyword.TheVariants as key
use Rattle.plm_token.specs.declared.token.Mark.{Mark}
use Rattle.plm_token.specs.declared.token.Mark.TheVariants as mark
use Rattle.word86.specs.declared.number.Number.{Number}
use Rattle.plm_token.specs.Literals.{Symbol, literal_of}
use Rattle.plm_syntax.specs.declared.tree.Scalar.{Scalar}
use Rattle.plm_syntax.specs.declared.tree.Scalar.TheVariants as scalar
use Rattle.plm_syntax.specs.declared.tree.UnaryOperator.{UnaryOperator}
use Rattle.plm_syntax.specs.declared.tree.UnaryOperator.TheVariants as unary
use Rattle.plm_syntax.specs.declared.tree.BinaryOperator.{BinaryOperator}
use Rattle.plm_syntax.specs.declared.tree.BinaryOperator.TheVariants as binary
use Rattle.plm_syntax.specs.Terminal.{Terminal, Name, Numeral, Text, Key, Sign, Finish, Leaf}
use Rattle.plm_syntax.specs.Tree.{LocationForm, Pointer, Offset}
use Rattle.plm_syntax.specs.Spelling.{unary_sign, binary_sign, form_sign, scalar_key, put_leaf}
use Rattle.plm_syntax.specs.Literals.{LiteralText, Blocks, opened, closed, between}
use Rattle.plm_syntax.specs.InForce.{at, literal_named}

pub data Word : Type 0 where
  Opens : Word
  Ends : Word
  Declares : Word
  Finishes : Word
  Named : List ℕ → Word
  Quoted : List ℕ → Word
  Other : Word

abbrev pub key_word : Keyword → Word
key_word key.Do = Opens
key_word key.Procedure = Opens
key_word key.End = Ends
key_word key.Literally = Declares
key_word k = Other

abbrev pub sign_word : Mark → Word
sign_word mark.Semicolon = Finishes
sign_word m = Other

abbrev pub word_of : Terminal → Word
word_of (Name n) = Named n.text
word_of (Numeral n) = Other
word_of (Text s) = Quoted s.text
word_of (Key k) = key_word k
word_of (Sign m) = sign_word m
word_of Finish = Other

-- ---- what a word does after two others

-- whether a semicolon ends a block
abbrev pub ends_words : Word → Word → Bool
ends_words Ends b = true
ends_words (Named n) Ends = true
ends_words a b = false

-- the name that a string declares
abbrev pub name_words : Word → Word → Option (List ℕ)
name_words Declares (Named n) = Some n
name_words a b = None

abbrev pub finished : Bool → Blocks → Blocks
finished true b = closed b.literals b.starts
finished false b = b

abbrev pub named : Option (List ℕ) → Result (List Symbol) Number → Blocks → Blocks
named None r b = b
named (Some n) r b = record { literals = b.literals ++ literal_named n r; starts = b.starts }

abbrev pub behind : Word → Word → Word → Blocks → Blocks
behind Opens a b bs = opened bs
behind Finishes a b bs = finished (ends_words a b) bs
behind (Quoted s) a b bs = named (name_words a b) (literal_of (between s)) bs
behind w a b bs = bs

-- the literals at each leaf
abbrev pub trail : Blocks → Word → Word → List Leaf → List (List LiteralText)
trail bs a b [] = []
trail bs a b (l ∷ ls) = bs.literals ∷ trail (behind (word_of l.terminal) a b bs) (word_of l.terminal) a ls

-- ---- words that leave the blocks as they are

abbrev pub is_calm : Word → Bool
is_calm Opens = false
is_calm Ends = false
is_calm Declares = false
is_calm w = true

-- two words after which no calm word does anything
abbrev pub is_clear : Word → Word → Bool
is_clear Ends b = false
is_clear Declares b = false
is_clear (Named n) Ends = false
is_clear a b = true

pub clear_ends : (a b : Word) → is_clear a b ≡ true → ends_words a b ≡ false
clear_ends Ends b h = absurd cc
clear_ends (Named n) Ends h = absurd cc
clear_ends (Named n) b h = refl
clear_ends a b h = refl

pub clear_names : (a b : Word) → is_clear a b ≡ true → name_words a b ≡ None
clear_names Declares b h = absurd cc
clear_names a b h = refl

pub clear_behind : (w a b : Word) → is_calm w ≡ true → is_clear a b ≡ true → is_clear w a ≡ true
clear_behind Opens a b c h = absurd cc
clear_behind Ends a b c h = absurd cc
clear_behind Declares a b c h = absurd cc
clear_behind (Named n) Ends b c h = absurd cc
clear_behind (Named n) a b c h = refl
clear_behind w a b c h = refl

pub calm_behind : (w a b : Word) (bs : Blocks) → is_calm w ≡ true → is_clear a b ≡ true → behind w a b bs ≡ bs
calm_behind Opens a b bs c h = absurd cc
calm_behind Ends a b bs c h = absurd cc
calm_behind Declares a b bs c h = absurd cc
calm_behind Finishes a b bs c h = ap (λ (x : Bool). finished x bs) (clear_ends a b h)
calm_behind (Quoted s) a b bs c h = ap (λ (x : Option (List ℕ)). named x (literal_of (between s)) bs) (clear_names a b h)
calm_behind (Named n) a b bs c h = refl
calm_behind Other a b bs c h = refl

pub calm_scalar : (s : Scalar) → is_calm (word_of (scalar_key s)) ≡ true
calm_scalar scalar.Byte = refl
calm_scalar scalar.Word = refl
calm_scalar scalar.Address = refl
calm_scalar scalar.Pointer = refl
calm_scalar scalar.Integer = refl

pub calm_form : (f : LocationForm) → is_calm (word_of (form_sign f)) ≡ true
calm_form Pointer = refl
calm_form Offset = refl

pub calm_unary : (o : UnaryOperator) → is_calm (word_of (unary_sign o)) ≡ true
calm_unary unary.Plus = refl
calm_unary unary.Minus = refl
calm_unary unary.Not = refl

pub calm_binary : (o : BinaryOperator) → is_calm (word_of (binary_sign o)) ≡ true
calm_binary binary.Multiply = refl
calm_binary binary.Divide = refl
calm_binary binary.Modulo = refl
calm_binary binary.Add = refl
calm_binary binary.Subtract = refl
calm_binary binary.Equal = refl
calm_binary binary.NotEqual = refl
calm_binary binary.Less = refl
calm_binary binary.LessEqual = refl
calm_binary binary.Greater = refl
calm_binary binary.GreaterEqual = refl
calm_binary binary.And = refl
calm_binary binary.Or = refl
calm_binary binary.ExclusiveOr = refl

-- ---- parts that lead on

abbrev pub blocks : List LiteralText → List ℕ → Blocks
blocks L S = record { literals = L; starts = S }

-- From the blocks' literals L and starts S after two words a part leads to M and T, and its leaves have what g puts down.
pub record Led (f : List Leaf → List Leaf) (g : List (List LiteralText) → List (List LiteralText)) (L : List LiteralText) (S : List ℕ) (M : List LiteralText) (T : List ℕ) (a b : Word) : Type 0 where
  pub last : Word
  pub before : Word
  pub clear : is_clear last before ≡ true
  pub goes : (r : List Leaf) → trail (blocks L S) a b (f r) ≡ g (trail (blocks M T) last before r)

abbrev pub Leads : (List Leaf → List Leaf) → (List (List LiteralText) → List (List LiteralText)) → List LiteralText → List ℕ → List LiteralText → List ℕ → Type 0
Leads f g L S M T = (a b : Word) → is_clear a b ≡ true → Led f g L S M T a b

pub nothing : {L : List LiteralText} {S : List ℕ} → Leads (λ r. r) (λ r. r) L S L S
nothing {L} {S} a b h = record { last = a; before = b; clear = h; goes = λ r. refl }

pub one : {L : List LiteralText} {S : List ℕ} (l : Leaf) (n : ℕ) → is_calm (word_of l.terminal) ≡ true → Leads (put_leaf l n) (at L l n) L S L S
one {L} {S} l n c a b h = record {
  last = word_of l.terminal;
  before = a;
  clear = clear_behind (word_of l.terminal) a b c h;
  goes = λ r. ap (λ (x : Blocks). L ∷ trail x (word_of l.terminal) a r) (calm_behind (word_of l.terminal) a b (blocks L S) c h);
}

pub join : {f f' : List Leaf → List Leaf} {g g' : List (List LiteralText) → List (List LiteralText)} {L M N : List LiteralText} {S T U : List ℕ} → Leads f g L S M T → Leads f' g' M T N U → Leads (λ r. f (f' r)) (λ r. g (g' r)) L S N U
join {f} {f'} {g} {g'} h k a b c =
    let p = h a b c in
    let q = k p.last p.before p.clear in
    record { last = q.last; before = q.before; clear = q.clear; goes = λ r. p.goes (f' r) ∙ ap g (q.goes r) }

-- DO and PROCEDURE
pub one_opens : {L : List LiteralText} {S : List ℕ} (l : Leaf) (n : ℕ) → word_of l.terminal ≡ Opens → Leads (put_leaf l n) (at L l n) L S L (length L ∷ S)
one_opens {L} {S} l n w a b h = record {
  last = Opens;
  before = a;
  clear = refl;
  goes = λ r. ap (λ (x : Word). L ∷ trail (behind x a b (blocks L S)) x a r) w;
}

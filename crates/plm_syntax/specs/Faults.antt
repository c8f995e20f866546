-- The tokens that `parse` reads, and the one at which it finds a fault.
use Rattle.std.specs.Prelude.{◌≡◌, ℕ, zero, suc, ◌+◌, ◌-◌, List, [], ◌∷◌, ◌++◌, cond, Option, Some, None}
use Rattle.word86.specs.declared.number.Number.{Number as FaultNumber}
use Rattle.word86.specs.declared.number.Number.TheVariants.{E201, E203}
use Rattle.plm_token.specs.declared.token.Keyword.TheVariants as key
use Rattle.plm_token.specs.declared.token.Kind.{Kind}
use Rattle.plm_token.specs.declared.token.Kind.TheVariants.{Reserved, Identifier, Numeral as NumeralKind, String, Special}
use Rattle.plm_token.specs.Scanner.{Lexeme}
use Rattle.plm_syntax.specs.declared.tree.Position.{Position}
use Rattle.plm_syntax.specs.Terminal.{Terminal, Name, Numeral, Text, Key, Sign, Finish, Leaf, leaf, leaf_at, is_key}
use Rattle.plm_syntax.specs.Sentence.{BeginsWithin, IsFirstWrong, IsFirstDeep}
use Rattle.plm_syntax.specs.Literals.{Out}

-- a token, where it stands
abbrev pub terminal_of : Kind → List ℕ → Position → Terminal
terminal_of (Reserved k) text p = Key k
terminal_of Identifier text p = Name (record { text = text; place = p })
terminal_of (NumeralKind v) text p = Numeral (record { value = v; place = p })
terminal_of String text p = Text (record { text = text; place = p })
terminal_of (Special m) text p = Sign m

abbrev pub place_of : ℕ → Lexeme → Position
place_of n t = record { token = n; line = t.line }

-- tokens, the first of which has this number
abbrev pub tokens_from : ℕ → List Lexeme → List Leaf
tokens_from n [] = []
tokens_from n (t ∷ ts) = leaf_at (terminal_of t.kind t.text (place_of n t)) (place_of n t) ∷ tokens_from (n + 1) ts

-- the tokens that came out of the replacement; the end of the text is one where it did not stop before
abbrev pub text_end : Option (FaultNumber × ℕ) → List Leaf
text_end None = leaf Finish ∷ []
text_end (Some stop) = []

abbrev pub text_tokens : Out → List Leaf
text_tokens o = tokens_from 0 o.tokens ++ text_end o.stop

-- the line of a token; the end of the text has that of the last token, 1 if there is none
abbrev pub line_from : ℕ → List Lexeme → ℕ → ℕ
line_from line [] k = line
line_from line (t ∷ ts) zero = t.line
line_from line (t ∷ ts) (suc k) = line_from t.line ts k

-- the token that a level too deep is put down to: a procedure's name stands two before the word PROCEDURE
abbrev pub terminal_at : ℕ → List Leaf → Terminal
terminal_at k [] = Finish
terminal_at zero (l ∷ ls) = l.terminal
terminal_at (suc k) (l ∷ ls) = terminal_at k ls

abbrev pub opening_token : List Leaf → ℕ → ℕ
opening_token ls k = cond (is_key key.Procedure (terminal_at k ls)) (k - 2) k

-- a fault is the first token with which no module begins, or the one that opens the first level too deep, or that at which the replacement stopped
pub data FaultIs (number : FaultNumber) (line : ℕ) (o : Out) : Type 0 where
  refused : (k : ℕ) → number ≡ E201 → IsFirstWrong 64 (text_tokens o) k → line ≡ line_from 1 o.tokens k → FaultIs number line o
  too_deep : (k : ℕ) → number ≡ E203 → IsFirstDeep 64 (text_tokens o) k → line ≡ line_from 1 o.tokens (opening_token (text_tokens o) k) → FaultIs number line o
  stopped : o.stop ≡ Some (number, line) → BeginsWithin 64 (text_tokens o) → FaultIs number line o

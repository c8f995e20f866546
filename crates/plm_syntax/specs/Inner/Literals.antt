-- What the expander's values stand for.
use Rattle.std.specs.Prelude.{ℕ, ◌≡◌, ◌≤◌, List, [], ◌∷◌, map, length, reverse, Bool, true, false, cond, Option, Some, None, Result, Ok, Err}
use Rattle.std.specs.Option.{option_map}
use Rattle.word86.specs.declared.number.Number.{Number}
use Rattle.plm_token.specs.declared.token.Kind.{Kind}
use Rattle.plm_token.specs.Scanner.{Lexeme, lexeme, lexemes}
use Rattle.plm_token.specs.Literals.{Symbol, on_line, literal_of}
use Rattle.plm_syntax.specs.declared.open_blocks.OpenBlocks.{OpenBlocks}
use Rattle.plm_syntax.specs.declared.scope.Scope.{Scope}
use Rattle.plm_syntax.specs.declared.literals.Placed.{Placed}
use Rattle.plm_syntax.specs.declared.literals.Expander.{Expander}
use Rattle.plm_syntax.specs.declared.literals.Source.{Source}
use Rattle.plm_syntax.specs.declared.literals.Text.{Text}
use Rattle.plm_syntax.specs.declared.literals.Text.TheVariants.{Absent, Tokens, Faulty}
use Rattle.plm_syntax.specs.Literals.{Blocks, Out, declares, is_keyword, is_string, between, declare, declared_name, put, literal_for, by_literal, or_else, text_out}
pub use Rattle.plm_syntax.specs.Inner.Scope.{symbol, named_symbol, literal_text}

abbrev pub blocks_in : Scope → Blocks
blocks_in scope = record { literals = map literal_text scope.literals.items; starts = reverse scope.starts.items }

abbrev pub blocks_of : OpenBlocks → Blocks
blocks_of b = blocks_in b.scope

-- a token that came out
abbrev pub placed : Placed → Lexeme
placed p = on_line p.line (named_symbol p.token.now)

abbrev pub out_of : Expander → Out
out_of e = record {
  tokens = lexemes e.tokens.items;
  blocks = blocks_of e.blocks;
  last = option_map placed e.last;
  before = option_map placed e.before;
  stop = e.stop;
}

-- what a string's text is
abbrev pub text_view : Text → Option (Result (List Symbol) Number)
text_view Absent = None
text_view (Tokens t) = Some (Ok (map named_symbol t.tokens.items))
text_view (Faulty number) = Some (Err number)

-- what a token would declare, if it is a string
abbrev pub text_for : Kind → List ℕ → Option (Result (List Symbol) Number)
text_for kind text = cond (is_string kind) (Some (literal_of (between text))) None

abbrev pub source_view : Source → Lexeme × Option (Result (List Symbol) Number)
source_view s = (lexeme s.token.token, text_view s.text)

abbrev pub with_text : Lexeme → Lexeme × Option (Result (List Symbol) Number)
with_text t = (t, text_for t.kind t.text)

abbrev pub declare_text : Option (List ℕ) → Option (Result (List Symbol) Number) → ℕ → Out → Out
declare_text name None line o = o
declare_text name (Some text) line o = declare name text line o

-- a token of the source put out, with its text scanned before
abbrev pub put_with_text : Lexeme → Option (Result (List Symbol) Number) → Out → Out
put_with_text t text o = declare_text (declared_name t.kind o.last o.before) text t.line (put t o)

abbrev pub out_with_text : Lexeme × Option (Result (List Symbol) Number) → Out → Out
out_with_text p o = or_else o.stop o (by_literal (λ l. text_out 7 p.0.line l.text o) (literal_for o.blocks.literals p.0.kind p.0.text) (put_with_text p.0 p.1 o))

-- ---- tokens that stand as they are

abbrev pub declare_none : List Lexeme → Bool
declare_none [] = true
declare_none (t ∷ ts) = cond (is_keyword declares t.kind) false (declare_none ts)

-- none of them declares a literal, and a module may have so many
pub record ArePlain (ts : List Lexeme) : Type 0 where
  pub none : declare_none ts ≡ true
  pub few : length ts ≤ 65535

-- Reserved words in tables, as the code has them.
use Rattle.std.specs.Prelude.{ℕ, List, [], ◌∷◌, cond, bytes_eq, Option, Some, None}
use Rattle.plm_token.specs.declared.token.Keyword.{Keyword}
use Rattle.plm_token.specs.declared.keywords.Word.{Word}

-- the first of these words that a normal form is
abbrev pub keyword_in : List ℕ → List Word → Option Keyword
keyword_in name [] = None
keyword_in name (w ∷ ws) = cond (bytes_eq name w.0.now) (Some w.1) (keyword_in name ws)

-- The literals of the open blocks, their places, and the numbers of the names in their texts.
use Rattle.std.specs.Prelude.{◌≡◌, ◌<◌, ◌+◌, ◌^◌, ℕ, suc, ◌++◌, List, [], ◌∷◌, length, map, Bool, true, cond, bytes_eq, Option, Some, None}
use Rattle.std.specs.Option.{option_map}
use Rattle.std.specs.List.{slice_get}
use Rattle.std.specs.HashMap.{HashMap, get_by}
use denote.Ref.{Bor}
use Rattle.plm_token.specs.Literals.{Symbol}
use Rattle.plm_syntax.specs.declared.named_token.NamedToken.{NamedToken}
use Rattle.plm_syntax.specs.declared.scope.Literal.{Literal}
use Rattle.plm_syntax.specs.Literals.{LiteralText, literal_for}
use Rattle.plm_syntax.specs.Inner.Names.{is_number, has_number}
pub use Rattle.plm_syntax.specs.Inner.NamedToken.{symbol, named_symbol}
pub use Rattle.plm_syntax.specs.Inner.Name.{letters_of}

abbrev pub literal_text : Literal → LiteralText
literal_text l = record { name = l.name.now.token.text.now; text = map named_symbol l.text.now.tokens.items }

-- one of the literals
abbrev pub literal_at : List LiteralText → Option ℕ → Option LiteralText
literal_at literals None = None
literal_at literals (Some i) = slice_get literals i

abbrev pub text_of : Option LiteralText → List Symbol
text_of None = []
text_of (Some l) = l.text

abbrev pub text_at : List LiteralText → ℕ → List Symbol
text_at literals i = text_of (slice_get literals i)

-- ---- the first literal of each name

-- whether a literal has a name, which is in normal form
abbrev pub has_name : List ℕ → Literal → Bool
has_name name l = bytes_eq (letters_of l.name.now.name) name

-- the place of the first literal of a name
abbrev pub first_named : List ℕ → List Literal → Option ℕ
first_named name [] = None
first_named name (l ∷ ls) = cond (has_name name l) (Some 0) (option_map (λ i. suc i) (first_named name ls))

-- the place that a table has for a name
abbrev pub place_in : {S : Type 0} → HashMap (Bor (List ℕ)) ℕ S → List ℕ → Option ℕ
place_in places name = get_by (λ k. bytes_eq name k.now) places

-- The place of the first literal of each name is the name's. What place a name of no literal has says nothing.
abbrev pub ArePlaced : List Literal → (List ℕ → Option ℕ) → Type 0
ArePlaced literals place_of = (name : List ℕ) (place : ℕ) → first_named name literals ≡ Some place → place_of name ≡ Some place

-- the same once one more literal is there, which has this name
abbrev pub WillBePlaced : List ℕ → List Literal → (List ℕ → Option ℕ) → Type 0
WillBePlaced name literals place_of = (l : Literal) → letters_of l.name.now.name ≡ name → ArePlaced (literals ++ l ∷ []) place_of

-- a literal that says so is the first of its name
abbrev pub AreFirst : List Literal → Type 0
AreFirst literals = (i : ℕ) (l : Literal) → slice_get literals i ≡ Some l → l.is_first ≡ true → first_named (letters_of l.name.now.name) literals ≡ Some i

-- ---- the numbers of the names in a text

-- each token of a text has its number
abbrev pub HaveNumbers : List Symbol → List NamedToken → List (Option ℕ) → Type 0
HaveNumbers names tokens numbers = (p : ℕ) (number : Option ℕ) (t : NamedToken) → slice_get numbers p ≡ Some number → slice_get tokens p ≡ Some t → has_number names (named_symbol t) number ≡ true

-- the numbers of a literal
pub record IsNumbered (names : List Symbol) (l : Literal) : Type 0 where
  pub name : has_number names (named_symbol l.name.now) l.number ≡ true
  pub text : HaveNumbers names l.text.now.tokens.items l.numbers.items
  pub all : length l.numbers.items ≡ length l.text.now.tokens.items

-- the literal at a place is the one that the name of a number stands for
abbrev pub StandsAt : List Symbol → List LiteralText → ℕ → ℕ → Type 0
StandsAt names literals number i = (s : Symbol) × (slice_get names number ≡ Some s) × (slice_get literals i ≡ literal_for literals s.kind s.text)

-- the token at a place of a literal's text has the name of a number
abbrev pub IsNumberAt : List Symbol → List LiteralText → ℕ → ℕ → ℕ → Type 0
IsNumberAt names literals literal at number = (s : Symbol) → slice_get (text_at literals literal) at ≡ Some s → is_number names number s ≡ true

-- there is a literal of this number
pub record IsThere (literals : List LiteralText) (literal : ℕ) : Type 0 where
  pub inside : literal < length literals
  pub fits : literal + 1 < 2 ^ 64

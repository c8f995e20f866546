-- A token as the grammar sees it.
use Rattle.std.specs.Prelude.{ℕ, List, Bool, false, nat_eq, Option, Some, None}
use Rattle.plm_token.specs.declared.token.Keyword.{Keyword}
use Rattle.plm_token.specs.declared.token.Keyword.TheVariants as key
use Rattle.plm_token.specs.declared.token.Mark.{Mark}
use Rattle.plm_syntax.specs.declared.tree.Position.{Position}

-- a name, a number and a string where they stand
pub record NameT : Type 0 where
  pub text : List ℕ
  pub place : Position

pub record NumeralT : Type 0 where
  pub value : ℕ
  pub place : Position

pub record TextT : Type 0 where
  pub text : List ℕ
  pub place : Position

-- what a token is; the end of the text counts as one
pub data Terminal : Type 0 where
  Name : NameT → Terminal
  Numeral : NumeralT → Terminal
  Text : TextT → Terminal
  Key : Keyword → Terminal
  Sign : Mark → Terminal
  Finish : Terminal

-- a leaf of a tree: a token, and its place where the tree keeps it
pub record Leaf : Type 0 where
  pub terminal : Terminal
  pub place : Option Position

abbrev pub leaf : Terminal → Leaf
leaf t = record { terminal = t; place = None }

abbrev pub leaf_at : Terminal → Position → Leaf
leaf_at t p = record { terminal = t; place = Some p }

-- ---- tests

abbrev pub key_number : Keyword → ℕ
key_number key.Address = 0
key_number key.And = 1
key_number key.At = 2
key_number key.Based = 3
key_number key.By = 4
key_number key.Byte = 5
key_number key.Call = 6
key_number key.Case = 7
key_number key.Data = 8
key_number key.Declare = 9
key_number key.Disable = 10
key_number key.Do = 11
key_number key.Dword = 12
key_number key.Else = 13
key_number key.Enable = 14
key_number key.End = 15
key_number key.External = 16
key_number key.Go = 17
key_number key.Goto = 18
key_number key.Halt = 19
key_number key.If = 20
key_number key.Initial = 21
key_number key.Integer = 22
key_number key.Interrupt = 23
key_number key.Label = 24
key_number key.Literally = 25
key_number key.Minus = 26
key_number key.Mod = 27
key_number key.Not = 28
key_number key.Or = 29
key_number key.Plus = 30
key_number key.Pointer = 31
key_number key.Procedure = 32
key_number key.Public = 33
key_number key.Real = 34
key_number key.Reentrant = 35
key_number key.Return = 36
key_number key.Selector = 37
key_number key.Structure = 38
key_number key.Then = 39
key_number key.To = 40
key_number key.While = 41
key_number key.Word = 42
key_number key.Xor = 43

abbrev pub is_key : Keyword → Terminal → Bool
is_key k (Key j) = nat_eq (key_number k) (key_number j)
is_key k t = false

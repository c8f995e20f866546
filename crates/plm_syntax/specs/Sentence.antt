-- Which tokens spell a module, and the token at which a list of tokens stops being one.
use Rattle.std.specs.Prelude.{◌≡◌, ℕ, suc, ◌≤◌, ◌<◌, List, [], ◌∷◌, ◌++◌, length, take, Option, Some, None}
use Rattle.plm_syntax.specs.declared.tree.Position.{Position}
use Rattle.plm_syntax.specs.Terminal.{Leaf}
use Rattle.plm_syntax.specs.Tree.{ModuleT}
use Rattle.plm_syntax.specs.Spelling.{leaves_of, levels_of}
use Rattle.plm_syntax.specs.WellFormed.{WellModule}

-- a leaf keeps no place, or the token's
abbrev pub IsKept : Option Position → Option Position → Type 0
IsKept None q = Unit {0}
IsKept (Some p) q = q ≡ Some p

-- leaves are these tokens: one for one, the same words, and each place that a leaf keeps is the token's
abbrev pub Fits : List Leaf → List Leaf → Type 0
Fits [] [] = Unit {0}
Fits (l ∷ ls) (t ∷ ts) = (l.terminal ≡ t.terminal) × IsKept l.place t.place × Fits ls ts
Fits [] (t ∷ ts) = ⊥
Fits (l ∷ ls) [] = ⊥

-- The module's leaves are these tokens, the end of the text the last of them.
abbrev pub Spells : ModuleT → List Leaf → Type 0
Spells m ts = Fits (leaves_of m) ts

-- none of these depths is above the limit
abbrev pub AllWithin : ℕ → List ℕ → Type 0
AllWithin limit [] = Unit {0}
AllWithin limit (n ∷ ns) = (n ≤ limit) × AllWithin limit ns

-- A well-formed module's leaves begin with these tokens.
pub record Begins (ts : List Leaf) : Type 0 where
  pub tree : ModuleT
  pub front : List Leaf
  pub back : List Leaf
  pub well : WellModule tree
  pub parts : leaves_of tree ≡ front ++ back
  pub fits : Fits front ts

-- The same of a module in which these tokens open no level above the limit.
pub record BeginsWithin (limit : ℕ) (ts : List Leaf) : Type 0 where
  pub begun : Begins ts
  pub within : AllWithin limit (take (length ts) (levels_of begun.tree))

-- Token k is the first with which no module begins, and up to it a module within the limit does.
pub record IsFirstWrong (limit : ℕ) (ts : List Leaf) (k : ℕ) : Type 0 where
  pub there : k < length ts
  pub wrong : Begins (take (suc k) ts) → ⊥
  pub least : (j : ℕ) → j < k → BeginsWithin limit (take (suc j) ts)

-- Token k opens the first level too deep: modules begin with the tokens up to it, but none within the limit.
pub record IsFirstDeep (limit : ℕ) (ts : List Leaf) (k : ℕ) : Type 0 where
  pub there : k < length ts
  pub begins : Begins (take (suc k) ts)
  pub deep : BeginsWithin limit (take (suc k) ts) → ⊥
  pub least : (j : ℕ) → j < k → BeginsWithin limit (take (suc j) ts)

-- No two well-formed modules are spelled by one list of tokens.
abbrev pub SpellOnce : Type 0
SpellOnce = (m n : ModuleT) (ts : List Leaf) → WellModule m → WellModule n → Spells m ts → Spells n ts → m ≡ n

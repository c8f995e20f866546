-- Paths: the names of blocks and of what stands in them, parted by dots.
use Rattle.std.specs.Prelude.{ℕ, List, ◌++◌, codes, decimal}

abbrev pub name_after : List ℕ → List ℕ → List ℕ
name_after block name = block ++ codes "." ++ name

-- an unnamed block, the k-th of its module
abbrev pub block_after : List ℕ → ℕ → List ℕ
block_after block k = block ++ codes ".#" ++ decimal k

-- constant bytes, the k-th of their module
abbrev pub constants_after : List ℕ → ℕ → List ℕ
constants_after block k = block ++ codes ".#S" ++ decimal k

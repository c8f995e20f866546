-- A ROM whose free bytes hold another byte than 0.
use Rattle.std.specs.Prelude.{ℕ, ◌-◌, min, List, ◌++◌, length, take, drop, replicate}

-- the first `taken` bytes and those from the far jump of the reset on stay, and all between holds this byte
abbrev pub padded : (byte taken : ℕ) → (rom : List ℕ) → List ℕ
padded byte taken rom =
    let end = length rom - 16 in let begin = min taken end in
    take begin rom ++ replicate (end - begin) byte ++ drop end rom

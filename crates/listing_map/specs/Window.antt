-- Which part of a line is quoted.
use Rattle.std.specs.Prelude.{◌≡◌, ℕ, ◌+◌, ◌-◌, ◌<◌, ◌≤◌, min, Bool, nat_lt, if◌then◌else◌, List, [], length, take, codes, slice_range}

-- where that part begins of a line of so many bytes which is marked behind a column, if it is not the whole line
abbrev pub window_begin : (is_whole : Bool) (bytes column : ℕ) → ℕ
window_begin is_whole bytes column = if is_whole then 0 else min (column - 60) (bytes - 156)

-- and where it ends
abbrev pub window_end : (is_whole : Bool) (bytes column : ℕ) → ℕ
window_end is_whole bytes column = if is_whole then bytes else min (window_begin is_whole bytes column + 156) bytes

-- what stands for an end of a line
abbrev pub cut : Bool → List ℕ
cut is_cut = if is_cut then codes ".." else []

-- the part, with what stands in it before the mark, what is marked there, and what stands behind it
abbrev pub IsWindow : (line : List ℕ) (is_whole : Bool) (column width : ℕ) (before marked behind : List ℕ) → Type 0
IsWindow line is_whole column width before marked behind =
    let begin = window_begin is_whole (length line) column in
    let end = window_end is_whole (length line) column in
    let stop = min (column + width) end in
    (before ≡ slice_range line begin column) × (marked ≡ slice_range line column stop) × (behind ≡ slice_range line stop end)

-- what stands for the ends that are cut off
abbrev pub HasEnds : (line : List ℕ) (is_whole : Bool) (column : ℕ) (front back : List ℕ) → Type 0
HasEnds line is_whole column front back =
    (front ≡ cut (nat_lt 0 (window_begin is_whole (length line) column)))
    × (back ≡ cut (nat_lt (window_end is_whole (length line) column) (length line)))

-- what is spelled of a name or a token, and what stands for the rest
abbrev pub HasBeginning : (text front rest : List ℕ) → Type 0
HasBeginning text front rest = (length text ≤ 160 → (front ≡ text) × (rest ≡ []))
    × (160 < length text → (front ≡ take 158 text) × (rest ≡ codes ".."))

-- What calls lead to.
use Rattle.std.specs.Prelude.{ℕ, zero, suc, List, [], slice_get, Option, Some, None, Contains}

-- a row for each procedure: those that it calls
abbrev pub Graph : Type 0
Graph = List (List ℕ)

abbrev pub row_of : Option (List ℕ) → List ℕ
row_of (Some row) = row
row_of None = []

-- by this number of calls, and one more
abbrev pub LeadsBy : Graph → ℕ → List ℕ → ℕ → Type 0
LeadsBy g zero called q = Contains called q
LeadsBy g (suc n) called q = (p : ℕ) × Contains called p × LeadsBy g n (row_of (slice_get g p)) q

-- a body that calls these reaches the procedure
abbrev pub Leads : Graph → List ℕ → ℕ → Type 0
Leads g called q = (n : ℕ) × LeadsBy g n called q

-- it reaches itself
abbrev pub IsOnCycle : Graph → ℕ → Type 0
IsOnCycle g p = Leads g (row_of (slice_get g p)) p

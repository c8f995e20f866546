-- What runs of the machine have to do with modules.
use Rattle.std.specs.Prelude.{◌≡◌, ℕ, suc, ◌+◌, List, [], ◌∷◌, length, Ok, Err, ◌↔◌}
use Rattle.plm_syntax.specs.Terminal.{Leaf}
use Rattle.plm_syntax.specs.Tree.{ModuleT}
use Rattle.plm_syntax.specs.Spelling.{levels_of}
use Rattle.plm_syntax.specs.WellFormed.{WellModule}
use Rattle.plm_syntax.specs.Sentence.{Spells, AllWithin, IsFirstWrong, IsFirstDeep}
use Rattle.plm_syntax.specs.Inner.Symbol.{ModuleR}
use Rattle.plm_syntax.specs.Inner.Machine.{Refusal, Deep, start, run}

-- what a run within a limit takes is what a well-formed module within the limit spells, and it makes that module
abbrev pub TakesModules : Type 0
TakesModules = (limit : ℕ) (m : ModuleT) (ts : List Leaf) → (run limit start [] ts ≡ Ok (record { awaited = []; read = ModuleR m ∷ [] })) ↔ (WellModule m × Spells m ts × AllWithin limit (levels_of m))

-- the token that a run refuses is the first with which no module begins
abbrev pub RefusesFirst : Type 0
RefusesFirst = (limit : ℕ) (ts : List Leaf) (left k : ℕ) → run limit start [] ts ≡ Err (Refusal left) → k + suc left ≡ length ts → IsFirstWrong limit ts k

-- the token at which a run is too deep opens the first level too deep
abbrev pub StopsDeep : Type 0
StopsDeep = (limit : ℕ) (ts : List Leaf) (left k : ℕ) → run limit start [] ts ≡ Err (Deep left) → k + suc left ≡ length ts → IsFirstDeep limit ts k

-- DO CASE: from its value to the case that it chooses, in the language, in the intermediate code, and in instructions.
use Rattle.std.specs.Prelude.{◌≡◌, ℕ, zero, suc, ◌+◌, ◌<◌, List, [], ◌∷◌, ◌++◌, length, Option, Some, None, slice_get}
use Rattle.word86.specs.Access.{Access, answers}
use Rattle.word86.specs.Following.{Quiet}
use Rattle.plm_type.specs.Rest.{Value, Statement, Case, Statements, End, Then, Returned, Procedure}
use Rattle.plm_type.specs.Next.{next_statements}
use Rattle.i86_table.specs.Contexts.{Working}
use Rattle.icode.specs.declared.instruction.Instruction.{Instruction}
use Rattle.icode.specs.declared.instruction.Instruction.TheVariants as op
use Rattle.icode.specs.declared.code.Routine.{Routine}
use Rattle.lower.specs.Statements.{all_of, switching, statement_code, cases_code}
use Rattle.select.specs.Promise.{Image, IsSelected}
use Rattle.select.specs.Cases.{LeadsSoon}

-- the case of this number, counted from 0
abbrev pub chosen : ℕ → Statements → Option Statement
chosen v End = None
chosen v (Returned x) = None
chosen zero (Then s cases) = Some s
chosen (suc v) (Then s cases) = chosen v cases

-- the cases after the one of this number
abbrev pub cases_after : ℕ → Statements → Statements
cases_after v End = End
cases_after v (Returned x) = Returned x
cases_after zero (Then s cases) = cases
cases_after (suc v) (Then s cases) = cases_after v cases

abbrev pub number_of : Statements → ℕ
number_of End = 0
number_of (Returned x) = 0
number_of (Then s cases) = suc (number_of cases)

-- these instructions stand in a routine from an index on
abbrev pub StandFrom : (all : List Instruction) → ℕ → List Instruction → Type 0
StandFrom all k code = (i : ℕ) → i < length code → slice_get all (k + i) ≡ slice_get code i

-- how far the end of a case lies from where the DO CASE goes on: over the code of the cases after it
abbrev pub behind_case : (exit : ℕ) → (after : List (List Instruction)) → ℕ
behind_case exit after = length (all_of after) + exit

module _ (offsets sizes : List ℕ) (procedures : List Procedure) where
  -- by silent steps of the language alone
  abbrev pub SilentlyBecomes : Statements → Statements → Type 0
  SilentlyBecomes ss ts = (steps : ℕ) × Quiet Access answers Statements (next_statements offsets sizes procedures) steps ss ts

  -- The case that a value chooses: the language comes to it by silent steps. From a place of the routine on stands its code, with the jump at
  -- its end to where the DO CASE goes on, and there the context is in at most 8 turns.
  pub record IsReachedSoon (x : Image) (around : _) (exit : ℕ) (r : Routine) (k : ℕ) (g : Working) (cases later : Statements) (s : Statement) : Type 0 where
    pub meant : SilentlyBecomes (Then (Case (Value g.ax) cases) later) (Then s later)
    pub place : ℕ
    pub stands :
        let behind = behind_case exit (cases_code procedures around exit (cases_after g.ax cases)) in
        StandFrom (x.icode r) place (statement_code procedures around (1 + behind) s ++ op.Ahead behind ∷ [])
    pub turns : LeadsSoon x 8 r k place g

  -- no case has the value's number: the language is past the DO CASE, and in at most 8 turns the context is at what stands after the table
  pub record IsPassedSoon (x : Image) (r : Routine) (k : ℕ) (g : Working) (cases later : Statements) : Type 0 where
    pub meant : SilentlyBecomes (Then (Case (Value g.ax) cases) later) later
    pub turns : LeadsSoon x 8 r k (k + 1 + number_of cases) g

-- Behind the code of its value, wherever it stands in whatever routine and whatever the number of its cases: with the value in AX, a
-- DO CASE takes at most 8 turns.
abbrev pub CasesAreReachedSoon : Type 0
CasesAreReachedSoon =
    (x : Image) → IsSelected x
    → (procedures : List Procedure) (around : _) (exit : ℕ) (cases later : Statements) (r : Routine) (k : ℕ) → StandFrom (x.icode r) k (switching (cases_code procedures around exit cases) exit)
    → (g : Working) → g.ax < 65536
    → ((s : Statement) → chosen g.ax cases ≡ Some s → IsReachedSoon x.offsets x.sizes procedures x around exit r k g cases later s)
    × (chosen g.ax cases ≡ None → IsPassedSoon x.offsets x.sizes procedures x r k g cases later)

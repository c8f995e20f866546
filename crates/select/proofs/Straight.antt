-- Silent instructions, one after another, wherever they stand.
use Rattle.std.proofs.Common.{◌≡◌, ℕ, suc, false, List, [], ◌∷◌, ◌++◌, Option, subst, sym}
use Rattle.word86.specs.Action.{Silent}
use Rattle.word86.specs.Following.{Does}
use Rattle.i86_table.specs.declared.instruction.Instr.{Instr}
use Rattle.i86_table.specs.Contexts.{Own, Working, Given, offered}

-- one more for each instruction
abbrev pub with_each : List Instr → ℕ → ℕ
with_each [] f = f
with_each (n ∷ ns) f = suc (with_each ns f)

module _ (find : ℕ → ℕ → Option (ℕ × ℕ)) (words : ℕ → Option ℕ) (main handler : ℕ) (given : Option Given) where
  -- silent instructions that lead from these registers and this stack to those
  abbrev pub Straight : List Instr → Working → List ℕ → Working → List ℕ → Type 0
  Straight [] g st h st2 = (g ≡ h) × (st ≡ st2)
  Straight (n ∷ ns) g st h st2 = (g1 : Working) × (st1 : List ℕ) × ((q : ℕ) → offered find words main handler n q g st false given ≡ Does (Silent (Own q g1 st1 false given))) × Straight ns g1 st1 h st2

  pub also : (ns ms : List Instr) (g : Working) (st : List ℕ) (g1 : Working) (st1 : List ℕ) (h : Working) (st2 : List ℕ) → Straight ns g st g1 st1 → Straight ms g1 st1 h st2 → Straight (ns ++ ms) g st h st2
  also [] ms g st g1 st1 h st2 a b = subst (λ z. Straight ms z st h st2) (sym a.0) (subst (λ z. Straight ms g1 z h st2) (sym a.1) b)
  also (n ∷ ns) ms g st g1 st1 h st2 a b = (a.0, a.1, a.2, also ns ms a.0 a.1 g1 st1 h st2 a.3 b)

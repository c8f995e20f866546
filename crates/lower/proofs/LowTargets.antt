-- Targets of bytes get the low byte of what is in the accumulator, so that the low byte of a value is enough for them.
use Rattle.std.proofs.Common.{◌≡◌, ℕ, ◌+◌, ◌≤◌, Bool, true, false, cond, List, length, refl}
use Rattle.std.proofs.lemmas.Bool.{and_parts}
use Rattle.plm_type.specs.Rest.{Expression, Value, Targets, Only, Also, Rest}
use Rattle.icode.specs.declared.code.Routine.{Routine}
use Rattle.icode.specs.declared.code.Word.{Word}
use Rattle.icode.specs.Machine.{At}
use Rattle.lower.specs.Expressions.{expression_code}
use Rattle.lower.specs.LowBytes.{takes_byte, take_bytes, low_code, given_code}
use Rattle.lower.specs.Well.{IsExpression}
use Rattle.lower.proofs.Setting.{Setting}
use Rattle.lower.proofs.Sim.{S}
use Rattle.lower.proofs.Holes.{IsHole, HasAt}
use Rattle.lower.proofs.Nodes.{nodes}
use Rattle.lower.proofs.Exprs.{ProcedureRuns}
use Rattle.lower.proofs.Terms.{Gets, gets_itself, expression_sim}
use Rattle.lower.proofs.LowBytes.{HasLow, gets_low, low_sim}

abbrev pub AllGet : Targets → (value accumulator : ℕ) → Type 0
AllGet (Only t) v u = Gets t v u
AllGet (Also t ts) v u = Gets t v u × AllGet ts v u

all_get_itself : (ts : Targets) (v : ℕ) → AllGet ts v v
all_get_itself (Only t) v = gets_itself t v
all_get_itself (Also t ts) v = (gets_itself t v, all_get_itself ts v)

all_get_low : (ts : Targets) → take_bytes ts ≡ true → (v u : ℕ) → HasLow v u → AllGet ts v u
all_get_low (Only t) is v u h = gets_low t is v u h
all_get_low (Also t ts) is v u h = (gets_low t (and_parts (takes_byte t) (take_bytes ts) is).0 v u h, all_get_low ts (and_parts (takes_byte t) (take_bytes ts) is).1 v u h)

module _ (x : Setting) (MayCall : ℕ → Type 0) (calls : (q : ℕ) → MayCall q → ProcedureRuns x q) where
  module _ (ts : Targets) (e : Expression) (good : IsExpression x.sizes x.procedures MayCall e) (fits : nodes e + 2 ≤ x.room) (n : ℕ) (C : Expression → Rest) (cx : IsHole x C) (r : Routine) (p : ℕ) (ws : List Word) where
    by : (b : Bool) → take_bytes ts ≡ b → HasAt (x.code r) p (cond b (low_code x.procedures e) (expression_code x.procedures e))
        → ((v u : ℕ) → AllGet ts v u → S x x.room n 2 (C (Value v)) (At r (p + length (cond b (low_code x.procedures e) (expression_code x.procedures e))) u ws)) → (a : ℕ) → S x (nodes e + 2) n 0 (C e) (At r p a ws)
    by true is has k a = low_sim x MayCall calls e good fits n C cx r p ws has (λ v u vs h. k v u (all_get_low ts is v u h)) a
    by false is has k a = expression_sim x MayCall calls e good fits n C cx r p ws has (λ v lt. k v v (all_get_itself ts v)) a

    -- the value for targets
    pub given_sim : HasAt (x.code r) p (given_code x.procedures ts e) → ((v u : ℕ) → AllGet ts v u → S x x.room n 2 (C (Value v)) (At r (p + length (given_code x.procedures ts e)) u ws)) → (a : ℕ) → S x (nodes e + 2) n 0 (C e) (At r p a ws)
    given_sim has k a = by (take_bytes ts) refl has k a

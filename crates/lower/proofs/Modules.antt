-- The last module that has a procedure.
use Rattle.std.proofs.Common.{◌≤◌, List, [], ◌∷◌, ℕ, arith}
use Rattle.plm_decl.specs.Names.{ProcedureR}
use Rattle.lower.specs.Lowering.{last_module}

pub main_before_last : (main : ℕ) (ps : List ProcedureR) → main ≤ last_module main ps
main_before_last main [] = omega arith
main_before_last main (p ∷ ps) = let before = main_before_last main ps in omega (arith, before)

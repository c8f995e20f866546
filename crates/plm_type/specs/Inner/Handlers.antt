-- The table of those who serve vectors, as it is made: procedure by procedure.
use Rattle.std.specs.Prelude.{ℕ, ◌+◌, List, [], ◌∷◌, Option, Some, None, slice_get, slice_set}
use Rattle.plm_decl.specs.Names.{ProcedureR, vector_of}

-- a place that nobody has yet is this procedure's
abbrev pub taken : (place : Option (Option ℕ)) → (vector number : ℕ) → List (Option ℕ) → List (Option ℕ)
taken (Some None) v q table = slice_set table v (Some q)
taken (Some (Some p)) v q table = table
taken None v q table = table

abbrev pub entered : (vector : Option ℕ) → (number : ℕ) → List (Option ℕ) → List (Option ℕ)
entered (Some v) q table = taken (slice_get table v) v q table
entered None q table = table

-- the procedures from this number on
abbrev pub all_entered : (number : ℕ) → List ProcedureR → List (Option ℕ) → List (Option ℕ)
all_entered q [] table = table
all_entered q (p ∷ ps) table = all_entered (q + 1) ps (entered (vector_of p) q table)

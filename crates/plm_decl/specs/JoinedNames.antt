-- What EXTERNAL and PUBLIC join: an EXTERNAL variable lies where the PUBLIC one of its name does, and a call of an EXTERNAL procedure runs the
-- PUBLIC one of its name.
use Rattle.std.specs.Prelude.{◌≡◌, ℕ, List, [], ◌∷◌, map, slice_get, Option, Some, None, option_map}
use Rattle.plm_syntax.specs.Tree.{ModuleT}
use Rattle.plm_decl.specs.declared.names.Region.{Region}
use Rattle.plm_decl.specs.declared.names.Variable.{Variable}
use Rattle.plm_decl.specs.declared.names.Item.{Item}
use Rattle.plm_decl.specs.declared.names.Item.TheVariants as item
use Rattle.plm_decl.specs.declared.names.Names.{Names}
use Rattle.plm_decl.specs.Names.{ProcedureR, procedure_of}
use Rattle.plm_decl.specs.Scope.{Entries, found_in}
use Rattle.plm_decl.specs.Resolver.{ExternalR}
use Rattle.plm_decl.specs.Joins.{known_from}
use Rattle.plm_decl.specs.Modules.{AreNames}

abbrev pub region_at : List Variable → ℕ → Option Region
region_at vs n = option_map (λ v. v.region) (slice_get vs n)

-- the procedure whose body a call of this one runs
abbrev pub run_by : List ProcedureR → ℕ → Option ℕ
run_by ps n = option_map (λ p. p.entry) (slice_get ps n)

-- what an EXTERNAL name stands for, and what the PUBLIC one of its name stands for, if there is one
abbrev pub IsJoined : List Variable → List ProcedureR → Item → Option Item → Type 0
IsJoined vs ps i None = ⊥
IsJoined vs ps (item.Variable m) (Some (item.Variable n)) = region_at vs m ≡ region_at vs n
IsJoined vs ps (item.Variable m) (Some (item.Procedure n)) = ⊥
IsJoined vs ps (item.Procedure m) (Some (item.Variable n)) = ⊥
IsJoined vs ps (item.Procedure m) (Some (item.Procedure n)) = run_by ps m ≡ Some n

abbrev pub AreJoined : List Variable → List ProcedureR → (publics : Entries) → List ExternalR → Type 0
AreJoined vs ps publics [] = Unit {0}
AreJoined vs ps publics (e ∷ es) = IsJoined vs ps e.item (found_in e.name publics) × AreJoined vs ps publics es

-- Of a program's names: each EXTERNAL name has a PUBLIC one, of its own kind, with which it is joined.
abbrev pub ExternalsAreJoined : Type 0
ExternalsAreJoined =
    (names : Names) (ms : List ModuleT) → AreNames names ms
    → let k = known_from ms in AreJoined names.variables.items (map procedure_of names.procedures.items) k.publics k.externals

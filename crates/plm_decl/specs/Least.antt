-- The least of some faults, as it is looked for.
use Rattle.std.specs.Prelude.{List, [], ◌∷◌, cond, Option, Some, None}
use Rattle.plm_decl.specs.declared.found.Found.{Found}
use Rattle.plm_decl.specs.Found.{precedes}

-- of two, the one that precedes; of two at one place with one number the first
abbrev pub sooner : Option Found → Found → Option Found
sooner None f = Some f
sooner (Some g) f = cond (precedes f g) (Some f) (Some g)

abbrev pub least : Option Found → List Found → Option Found
least o [] = o
least o (f ∷ fs) = least (sooner o f) fs

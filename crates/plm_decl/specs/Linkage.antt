-- Names that several modules have: PUBLIC and EXTERNAL.
use Rattle.std.specs.Prelude.{ℕ, List, [], ◌∷◌, ◌++◌, slice_get, cond, Option, Some, None}
use Rattle.std.specs.Option.{option_map_or}
use Rattle.word86.specs.declared.number.Number.{Number}
use Rattle.word86.specs.declared.number.Number.TheVariants.{E307}
use Rattle.plm_syntax.specs.declared.tree.Position.{Position}
use Rattle.plm_syntax.specs.declared.tree.Linkage.{Linkage}
use Rattle.plm_syntax.specs.declared.tree.Linkage.TheVariants as linkage
use Rattle.plm_decl.specs.declared.names.Item.{Item}
use Rattle.plm_decl.specs.declared.names.Item.TheVariants as item
use Rattle.plm_decl.specs.declared.found.Found.{Found}
use Rattle.plm_decl.specs.Scope.{Frame, is_external, found_in, with_entry}
use Rattle.plm_decl.specs.Resolver.{Known, note_whole}

abbrev pub start : Position
start = record { token = 0; line = 1 }

abbrev pub found_item : Known → Item → Number → Found
found_item k (item.Variable v) number = option_map_or (λ x. record { «module» = x.module; place = x.place; number = number }) (slice_get k.variables v) (record { «module» = 0; place = start; number = number })
found_item k (item.Procedure p) number = option_map_or (λ x. record { «module» = x.module; place = x.place; number = number }) (slice_get k.procedures p) (record { «module» = 0; place = start; number = number })

-- the first PUBLIC of a name counts; each further one is a fault at the first
abbrev pub with_public : List ℕ → Item → Option Item → Known → Known
with_public name i None k = record k { publics = with_entry name i k.publics }
with_public name i (Some first) k = note_whole (found_item k first E307) k

abbrev pub with_external : List ℕ → Item → Known → Known
with_external name i k = record k { externals = k.externals ++ record { name = name; item = i } ∷ [] }

-- what an EXTERNAL procedure declares joins nothing
abbrev pub linked : List Frame → Linkage → List ℕ → Item → Known → Known
linked frames linkage.None name i k = k
linked frames linkage.Public name i k = cond (is_external frames) k (with_public name i (found_in name k.publics) k)
linked frames linkage.External name i k = cond (is_external frames) k (with_external name i k)

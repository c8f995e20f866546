use Rattle.std.proofs.Common.{◌≡◌, ◌++◌, map, take}
use Rattle.plm_decl.specs.declared.names.Datum.TheVariants as datum
use Rattle.plm_decl.proofs.resolver.Resolver.characters.Given as goal

abbrev pub invariant-loop-character : goal.invariant-loop-character
invariant-loop-character l = l.bytes.items ≡ l.initial.bytes.items ++ map (λ c. datum.Byte c) (take l.character-index l.character-items)

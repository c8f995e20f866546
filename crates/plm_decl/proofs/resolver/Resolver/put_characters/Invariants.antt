use Rattle.std.proofs.Common.{◌≡◌, drop}
use Rattle.plm_decl.specs.Inner.Resolver.{known_of}
use Rattle.plm_decl.specs.Inner.Fill.{filling_of}
use Rattle.plm_decl.specs.Fill.{put_characters}
use Rattle.plm_decl.proofs.resolver.Resolver.put_characters.Given as goal

abbrev pub invariant-loop-character : goal.invariant-loop-character
invariant-loop-character l =
    put_characters (filling_of l.filling) l.cursor (drop l.character-index l.characters) (known_of l.self)
    ≡ put_characters (filling_of l.filling) l.initial.cursor l.characters (known_of l.initial.self)

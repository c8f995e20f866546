use Rattle.std.proofs.Common.{◌≡◌, ◌≤◌, List, [], ◌∷◌, length, false, refl, arith}
use Rattle.plm_decl.specs.declared.resolved.Expression.{Expression}
use Rattle.plm_decl.specs.ResolvedView.{expressions_of}
use Rattle.plm_decl.specs.Sites.{are_none}
use Rattle.plm_decl.proofs.sites.are_none.Goals as goal

some_there : (xs : List Expression) → 1 ≤ length xs → false ≡ are_none (expressions_of xs)
some_there [] h = absurd (omega (arith, h))
some_there (x ∷ xs) h = refl

pub returns-in-len1-up : goal.returns-in-len1-up
returns-in-len1-up c = some_there c.args.subscripts.now c.in-len1-up.len_at_least

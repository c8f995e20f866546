use Rattle.std.proofs.Common.{◌≡◌, drop}
use Rattle.plm_decl.specs.ResolvedView.{expressions_of}
use Rattle.plm_decl.specs.Sites.{are_numbers}
use Rattle.plm_decl.proofs.sites.are_numbers.Given as goal

abbrev pub invariant-loop-subscript : goal.invariant-loop-subscript
invariant-loop-subscript l = are_numbers (expressions_of (drop l.subscript-index l.subscripts)) ≡ are_numbers (expressions_of l.subscripts)

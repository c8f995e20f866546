use Rattle.std.proofs.Common.{◌≡◌, drop, Some}
use Rattle.plm_type.specs.View.{subscripts_of}
use Rattle.lower.specs.Expressions.{leads_to}
use Rattle.lower.proofs.expressions.leads_to.Given as goal

abbrev pub invariant-loop-subscript : goal.invariant-loop-subscript
invariant-loop-subscript l = leads_to (Some l.to) (subscripts_of (drop l.subscript-index l.subscripts)) ≡ leads_to (Some l.offset) (subscripts_of l.subscripts)

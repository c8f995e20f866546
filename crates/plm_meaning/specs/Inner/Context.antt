-- Where a context has settled.
use Rattle.std.specs.Prelude.{◌≡◌, List, []}
use Rattle.plm_type.specs.Rest.{End}
use Rattle.plm_type.specs.View.{statements_of}
use Rattle.plm_meaning.specs.declared.context.Frame.{Frame}
use Rattle.plm_meaning.specs.declared.context.Focus.{Focus}
use Rattle.plm_meaning.specs.declared.context.Focus.TheVariants as focus

-- a part that is rewritten next, or what is at its end
abbrev pub IsSettled : Focus → List Frame → Type 0
IsSettled (focus.Ready r) fs = Unit {0}
IsSettled (focus.Call n vs) fs = Unit {0}
IsSettled (focus.Passing n xs vs k) fs = Unit {0}
IsSettled (focus.Statements ss) [] = statements_of ss.now ≡ End
IsSettled (focus.Returned v) [] = Unit {0}
IsSettled _ fs = ⊥

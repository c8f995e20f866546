-- What a way to begin promises of a part holds of the same part written in another way.
use Rattle.std.proofs.Common.{◌≡◌, List, Option, IfSome, IfNone, subst}
use Rattle.plm_type.specs.Rest.{Expression}
use Rattle.plm_meaning.specs.declared.context.Context.{Context}
use Rattle.plm_meaning.specs.declared.context.Frame.{Frame}
use Rattle.plm_meaning.specs.Context.{Part, Expr, to_run_in, to_run_of}

pub rest_of : {E : Type 0} (first : Option E) (k : Context) (fs : List Frame) (p q : Part) → p ≡ q
    → IfNone first (to_run_of k ≡ to_run_in fs p) → IfNone first (to_run_of k ≡ to_run_in fs q)
rest_of first k fs p q h r = subst (λ x. IfNone first (to_run_of k ≡ to_run_in fs x)) h r

pub first_of : {E : Type 0} (view : E → Expression) (first : Option E) (k : Context) (fs : List Frame) (p q : Part) → p ≡ q
    → IfSome first (λ e. to_run_in k.frames.items (Expr (view e)) ≡ to_run_in fs p) → IfSome first (λ e. to_run_in k.frames.items (Expr (view e)) ≡ to_run_in fs q)
first_of view first k fs p q h r = subst (λ x. IfSome first (λ e. to_run_in k.frames.items (Expr (view e)) ≡ to_run_in fs x)) h r

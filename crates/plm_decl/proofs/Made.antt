-- What was made, by two things that are so of it.
use Rattle.std.specs.Prelude.{IfOk, IsOkAnd, Result, Ok, Err}

pub made_so : {T E R : Type 0} (P Q : T → Type 0) (x : Result T E) → IsOkAnd x P → IfOk x Q → ((y : T) → P y → Q y → R) → R
made_so P Q (Ok y) p q f = f y p q
made_so P Q (Err e) p q f = absurd p

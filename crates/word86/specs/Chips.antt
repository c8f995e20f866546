-- What the ports lead to: their values, what an access leaves, and the interrupt line.
use Rattle.std.specs.Prelude.{ℕ, Bool, ◌<◌}
use Rattle.word86.specs.declared.width.Width.{Width}
use Rattle.word86.specs.declared.event.Event.{Event}
use Rattle.word86.specs.Access.{values}

pub record Chips (P : Type 0) : Type 0 where
  -- what a read of the port gives, and what it leaves
  pub value : P → Width → ℕ → ℕ
  pub reading : P → Width → ℕ → P
  pub writing : P → Width → ℕ → ℕ → P
  -- whether an interrupt is asked for, its vector, and what its acknowledgement leaves
  pub int_line : P → Bool
  pub vector : P → ℕ
  pub acknowledge : P → P
  -- an event from outside
  pub occurs : Event → P → P
  -- values and vectors have their widths
  pub value_fits : (p : P) (width : Width) (port : ℕ) → value p width port < values width
  pub vector_fits : (p : P) → vector p < 256

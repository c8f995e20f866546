-- The registers of the processor, by name.
use Rattle.std.specs.Prelude.{ℕ}
use Rattle.i86_table.specs.declared.flags.Flags.{Flags}

pub record Registers : Type 0 where
  pub ax : ℕ
  pub cx : ℕ
  pub dx : ℕ
  pub bx : ℕ
  pub sp : ℕ
  pub bp : ℕ
  pub si : ℕ
  pub di : ℕ
  pub es : ℕ
  pub cs : ℕ
  pub ss : ℕ
  pub ds : ℕ
  pub ip : ℕ
  pub flags : Flags

-- What comparisons, tests and divisions tell of words with sign.
use Rattle.std.specs.Prelude.{ℕ, nat_lt, ◌%◌, true, not, ◌+◌, ◌*◌, ◌<◌, ◌≡◌, Some}
use Rattle.word86.specs.declared.width.Width.TheVariants.{Word}
use Rattle.word86.specs.Signed.{signed_less, has_quotient, signed_quotient, signed_remainder}
use Rattle.i86_table.specs.declared.instruction.AluOperation.TheVariants.{Cmp}
use Rattle.i86_table.specs.declared.instruction.Condition.TheVariants.{Less, LessOrEqual}
use Rattle.i86_table.specs.declared.instruction.Signedness.TheVariants.{Signed}
use Rattle.i86_table.specs.declared.outcome.Division.{Division}
use Rattle.i86_table.specs.declared.flags.Flags.{Flags}
use Rattle.i86_table.specs.Arithmetic.{operated, tested, sign_word, divided}
use Rattle.i86_table.specs.Condition.{holds}

pub record SignedLaws : Type 0 where
  -- with their sign bits turned, words with sign stand in the order of words
  pub turned : (a b : ℕ) → a < 65536 → b < 65536 → nat_lt ((a + 32768) % 65536) ((b + 32768) % 65536) ≡ signed_less a b
  -- after CMP, JL is taken exactly where the first word is below the second with sign, and JLE where the second is not below the first
  pub less : (a b : ℕ) (f : Flags) → a < 65536 → b < 65536 → holds Less (operated Cmp Word a b f).flags ≡ signed_less a b
  pub less_or_equal : (a b : ℕ) (f : Flags) → a < 65536 → b < 65536 → holds LessOrEqual (operated Cmp Word a b f).flags ≡ not (signed_less b a)
  -- TEST of a word with itself is such a comparison with 0
  pub negative : (a : ℕ) (f : Flags) → a < 65536 → holds Less (tested Word a a f) ≡ signed_less a 0
  pub not_positive : (a : ℕ) (f : Flags) → a < 65536 → holds LessOrEqual (tested Word a a f) ≡ not (signed_less 0 a)
  -- CWD and IDIV give quotient and remainder of words with sign, as words
  pub divides : (a b : ℕ) → a < 65536 → b < 65536 → has_quotient a b ≡ true
      → (d : Division) × (divided Signed Word (sign_word a * 65536 + a) b ≡ Some d) × (signed_quotient a b ≡ Some d.quotient) × (signed_remainder a b ≡ Some d.remainder) × (d.quotient < 65536) × (d.remainder < 65536)

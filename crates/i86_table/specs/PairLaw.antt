-- What a pair of registers holds.
use Rattle.std.specs.Prelude.{◌≡◌, nat_le, cond}
use Rattle.i86_table.specs.declared.registers.Register8.{Register8}
use Rattle.i86_table.specs.declared.registers.Register16.{Register16}
use Rattle.i86_table.specs.declared.pairs.BytePair.{BytePair}
use Rattle.i86_table.specs.declared.pairs.WordPair.{WordPair}
use Rattle.i86_table.specs.Numbers.{byte_register_code, word_register_code}
use Rattle.i86_table.specs.Pairs.{byte_pair, word_pair}

-- the register of the lower number stands first, the other second, and a pair is that of its registers
pub record BytePairLaws : Type 0 where
  pub first : (a b : Register8) → (byte_pair a b).first ≡ cond (nat_le (byte_register_code a) (byte_register_code b)) a b
  pub second : (a b : Register8) → (byte_pair a b).second ≡ cond (nat_le (byte_register_code a) (byte_register_code b)) b a
  pub again : (p : BytePair) → byte_pair p.first p.second ≡ p

pub record WordPairLaws : Type 0 where
  pub first : (a b : Register16) → (word_pair a b).first ≡ cond (nat_le (word_register_code a) (word_register_code b)) a b
  pub second : (a b : Register16) → (word_pair a b).second ≡ cond (nat_le (word_register_code a) (word_register_code b)) b a
  pub again : (p : WordPair) → word_pair p.first p.second ≡ p
